-- What the calls that give a block back or write it did.
use Rattle.std.proofs.Common.{◌≡◌, ℕ, ◌-◌, ◌/◌, ◌%◌, ◌^◌, ◌<◌, Bool, cond, [], ◌∷◌, map, sym, refl, ap, ◌∙◌, Some, None}
use Rattle.std.specs.Prelude.{bit_and}
use Rattle.std.specs.Int.{bit_at}
use Rattle.oak_model.specs.declared.classes.Class.{Class}
use Rattle.oak_model.specs.Class.{class_number}
use Rattle.oak_model.specs.Limits.{Sizes}
use Rattle.oak_model.proofs.Lists.{at_map}
use Rattle.arena_core.specs.Arena.{at_bits, at_bytes, blocks, block_words}
use Rattle.arena_core.specs.ArenaStep.{clear_bit, store_word, bit_of}
use Rattle.arena_core.proofs.ArenaSteps.{clear_there, held_once}
use Rattle.oak_core.specs.declared.states.PassState.{PassState}
use Rattle.oak_core.specs.Memory.{Memory, in_arena, read, memory}
use Rattle.oak_core.specs.Finding.{finding}
use Rattle.oak_core.specs.EntryOwners.{all_others}
use Rattle.oak_core.specs.PassState.{blocks_of, rooms_held}
use Rattle.oak_core.specs.Rule.{Rule}
use Rattle.oak_core.specs.Step.{Step, on_arena, effect, found, table_after}
use Rattle.oak_core.specs.TableState.{TableState}
use Rattle.oak_core.specs.ArenaCalls.{of_pass, Clears, Writes}
use Rattle.oak_core.proofs.seats.AloneRuns.{DoesStep, step_runs, runs_as}
use Rattle.oak_core.proofs.memory.ArenaNames.{bit_inside}
use Rattle.oak_core.proofs.kinds.EachEvent.{rule_keeps}
use Rattle.oak_core.proofs.kinds.KeepsArena.{class_below}
use Rattle.oak_core.proofs.memory.Words.{same_spot-self, read-write, memory_set, memory_read, arena_before}
use Rattle.arena_ops.specs.Looking.{bit_spot}
use Rattle.arena_ops.specs.Taking.{ClearsBit, SetsWord, Gives, Stores}

module _ (z : Sizes) (call : ℕ) (c : Class) (b : ℕ) (v : PassState) (lb : b < blocks z (class_number c)) where
  module _ (n : ℕ) (w : PassState) (t : Clears z call c b v n w) where
    abbrev x : Step
    x = on_arena (clear_bit c b)

    abbrev after : TableState
    after = table_after z call x t.seat v t.table

    rule_after : Rule z after
    rule_after = rule_keeps z t.table call t.seat v t.rule t.here t.going x t.may

    word_after : read (memory z after.words) (bit_spot c b) ≡ effect x (found z x t.table)
    word_after = let y : ℕ = effect x (found z x t.table) in ap (λ (m : Memory). read m (bit_spot c b)) (memory_set z t.table.words (bit_spot c b) y t.rule.words.counted (bit_inside z c b lb))
        ∙ (read-write (memory z t.table.words) (bit_spot c b) (bit_spot c b) y ∙ ap (λ (s : Bool). cond s y (read (memory z t.table.words) (bit_spot c b))) (same_spot-self (bit_spot c b)))

    -- the bit of a block that is held is set
    was_set : bit_at n (b % 64) ≡ 1
    was_set = let m : Memory = memory z t.table.words in ap (λ (k : ℕ). bit_at k (b % 64)) (sym (memory_read z t.table.words (bit_spot c b) (bit_inside z c b lb) ∙ t.finds))
        ∙ (held_once z m.arena (all_others z m (map rooms_held t.table.states)) (map blocks_of t.table.states) t.seat v.blocks (at_map blocks_of t.table.states t.seat v t.here) t.rule.blocks (class_number c) b t.may.held).0

    pub gives : Gives z call c b v w
    gives = record {
      number = n;
      told = t;
      free = sym (rule_after.blocks.owned (class_number c) b) ∙ (ap (λ (m : ℕ). bit_at m (b % 64)) word_after ∙ clear_there (found z x t.table) b);
      still = runs_as (DoesStep z x n) (ClearsBit z c b) v w (λ a a' d. (ap (λ (m : ℕ). bit_at m (b % 64)) (memory_read z a (bit_spot c b) (bit_inside z c b lb) ∙ sym d.0) ∙ was_set, d.1)) (step_runs z call x v n w tt t);
      more = finding z call (bit_spot c b) (Some (found z x t.table)) (bit_and (found z x t.table) (2 ^ 64 - 1 - bit_of b)) t.table.words v ∷ [];
      calls = ((refl, arena_before z (at_bits (class_number c) (b / 64)) (bit_inside z c b lb), refl), tt);
      after = t.after;
    }

  module _ (k y : ℕ) (w : PassState) (lk : k < block_words (class_number c)) (written : Writes z call of_pass c b k y v w) where
    pub stores : Stores z call c b k y v w
    stores = let t = written.1 in let x : Step = on_arena (store_word c b k y) in record {
      told = written;
      alone = memory_set z t.table.words (in_arena (at_bytes (class_number c) b k)) y t.rule.words.counted (class_below c, lb, lk);
      still = runs_as (DoesStep z x written.0) (SetsWord z (in_arena (at_bytes (class_number c) b k)) y) v w (λ a a' d. d.1) (step_runs z call x v written.0 w tt t);
      more = finding z call (in_arena (at_bytes (class_number c) b k)) None y t.table.words v ∷ [];
      calls = ((refl, arena_before z (at_bytes (class_number c) b k) (class_below c, lb, lk), refl), tt);
      after = t.after;
    }
