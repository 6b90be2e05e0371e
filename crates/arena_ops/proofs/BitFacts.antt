-- What a word of bits tells that was loaded, or of which a bit was set.
use Rattle.std.proofs.Common.{◌≡◌, ℕ, zero, suc, ◌+◌, ◌*◌, ◌^◌, ◌/◌, ◌%◌, ◌<◌, Bool, true, false, cond, eqb, List, [], ◌∷◌, map, set, get_or, subst, sym, refl, ap, ◌∙◌, arith, Option, Some, None, eq-eqb, ne_eqb}
use Rattle.std.specs.Prelude.{bit_or}
use Rattle.std.specs.Int.{bit_at}
use Rattle.std.specs.Int.Bits.{or_zero_r}
use Rattle.std.proofs.lemmas.Nat.{or_block}
use Rattle.std.proofs.lemmas.Nat.Bits.{bit_at-suc, bit_at_lowest}
use lib.Seq.{set-get_or}
use Rattle.oak_model.specs.declared.classes.Class.{Class}
use Rattle.oak_model.specs.Class.{class_number}
use Rattle.oak_model.specs.Limits.{Sizes}
use Rattle.oak_model.proofs.Counting.{total_at}
use Rattle.oak_model.proofs.Lists.{at_map}
use Rattle.arena_core.specs.Arena.{at_bits, blocks, bit_words}
use Rattle.arena_core.specs.Blocks.{holds, block_from}
use Rattle.arena_core.specs.ArenaStep.{bit_of, take_bit}
use Rattle.arena_core.proofs.ArenaSteps.{none_owns}
use Rattle.oak_core.specs.declared.states.Finding.{Finding}
use Rattle.oak_core.specs.declared.states.PassState.{PassState}
use Rattle.oak_core.specs.declared.states.Taken.{Taken}
use Rattle.oak_core.specs.Memory.{Spot, in_arena, index, rooms_at, memory}
use Rattle.oak_core.specs.Finding.{arena_finding, finding, had, noted, grown}
use Rattle.oak_core.specs.PassState.{blocks_of, rooms_held}
use Rattle.oak_core.specs.EntryOwners.{all_others}
use Rattle.oak_core.specs.ArenaCalls.{Sets}
use Rattle.oak_core.specs.Splitting.{Loads}
use Rattle.oak_core.specs.Step.{on_arena}
use Rattle.oak_core.proofs.seats.AloneRuns.{DoesStep, step_runs, load_runs, runs_as}
use Rattle.oak_core.proofs.memory.ArenaNames.{bit_inside}
use Rattle.oak_core.proofs.kinds.KeepsArena.{class_below}
use Rattle.oak_core.proofs.calls.MetMore.{grown_none, told_of}
use Rattle.oak_core.proofs.memory.Words.{index_apart, memory_read, arena_before}
use Rattle.arena_ops.specs.Looking.{bit_spot, FoundSet, IsSetIn, AllSet, Looked}
use Rattle.arena_ops.specs.Taking.{SetsBit, Takes}
use Rattle.arena_ops.proofs.TookFacts.{took_one}
use Rattle.oak_core.specs.Loading.{IsPlain}

-- the bit k is set
or_set : (k n : ℕ) → bit_at n k ≡ 1 → bit_or n (2 ^ k) ≡ n
or_set zero n e =
    let low : n % 2 ≡ 1 = sym (bit_at_lowest n) ∙ e in
    let parts : n / 2 * 2 ^ 1 + 1 ≡ n = omega arith in
    let b : bit_or (n / 2 * 2 ^ 1 + 1) (0 * 2 ^ 1 + 1) ≡ bit_or (n / 2) 0 * 2 ^ 1 + bit_or 1 1 = or_block 1 (n / 2) 0 1 1 (omega arith) (omega arith) in
    ap (λ (m : ℕ). bit_or m 1) (sym parts) ∙ (b ∙ (ap (λ (m : ℕ). m * 2 ^ 1 + 1) (or_zero_r (n / 2)) ∙ parts))
or_set (suc k) n e =
    let half = or_set k (n / 2) (sym (bit_at-suc n k) ∙ e) in
    let parts : n / 2 * 2 ^ 1 + n % 2 ≡ n = omega arith in
    let power : 2 ^ k * 2 ^ 1 + 0 ≡ 2 ^ suc k = omega arith in
    let b : bit_or (n / 2 * 2 ^ 1 + n % 2) (2 ^ k * 2 ^ 1 + 0) ≡ bit_or (n / 2) (2 ^ k) * 2 ^ 1 + bit_or (n % 2) 0 = or_block 1 (n / 2) (2 ^ k) (n % 2) 0 (omega arith) (omega arith) in
    ap (λ (m : ℕ). bit_or m (2 ^ suc k)) (sym parts) ∙ (ap (λ (m : ℕ). bit_or (n / 2 * 2 ^ 1 + n % 2) m) (sym power) ∙ (b ∙ (ap (λ (m : ℕ). m * 2 ^ 1 + bit_or (n % 2) 0) half ∙ (ap (λ (m : ℕ). n / 2 * 2 ^ 1 + m) (or_zero_r (n % 2)) ∙ parts))))

module _ (z : Sizes) (call : ℕ) (c : Class) (v : PassState) where
  set_in : (a : List ℕ) (i n : ℕ) → n ≡ get_or a (index z (in_arena (at_bits (class_number c) i))) 0 → i < bit_words z (class_number c) → (b : ℕ) → b / 64 ≡ i → bit_at n (b % 64) ≡ 1 → IsSetIn z c b a
  set_in a i n d li b at e = ap (λ (k : ℕ). bit_at ((memory z a).arena.bits (class_number c) k) (b % 64)) at ∙ (ap (λ (m : ℕ). bit_at m (b % 64)) (memory_read z a (in_arena (at_bits (class_number c) i)) (class_below c, li) ∙ sym d) ∙ e)

  -- one finding at a word of bits, of a step that took this block, or none
  found_here : (words : List ℕ) (i n : ℕ) (p : Spot) (left : ℕ) (took : Option Taken) → p ≡ in_arena (at_bits (class_number c) i) → (b : ℕ) → b / 64 ≡ i → bit_at n (b % 64) ≡ 1 → FoundSet z call c b v (record (finding z call p (Some n) left words v) { took = took } ∷ [])
  found_here words i n p left took is b at set = let here : p ≡ bit_spot c b = is ∙ ap (λ (k : ℕ). in_arena (at_bits (class_number c) k)) (sym at) in record {
    place = 0;
    finding = record (finding z call p (Some n) left words v) { took = took };
    there = refl;
    call_is = refl;
    word_is = ap (index z) here;
    number = n;
    found_is = refl;
    shows = set;
    had_is = ap (λ (s : Spot). had s v) here;
  }

  pub loaded : (i word n : ℕ) (w : PassState) → i < bit_words z (class_number c) → word ≡ index z (in_arena (at_bits (class_number c) i)) → Loads z call word v n w
      → Looked z call c v w (λ b. (b / 64 ≡ i) × (bit_at n (b % 64) ≡ 1))
  loaded i word n w li is l = let same : l.spot ≡ in_arena (at_bits (class_number c) i) = index_apart z l.spot (in_arena (at_bits (class_number c) i)) l.inside (class_below c, li) (l.at ∙ is) in
      let t = l.told in record {
        more = finding z call l.spot (Some n) n t.table.words v ∷ [];
        after = l.met (subst IsPlain (sym same) tt);
        looks = ((refl, subst (λ (q : Spot). index z q < rooms_at z) (sym same) (arena_before z (at_bits (class_number c) i) (class_below c, li)), refl, refl), tt);
        set = λ b lb p. found_here t.table.words i n l.spot n None same b p.0 p.1;
        still = runs_as (λ a b. (n ≡ get_or a (index z l.spot) 0) × (b ≡ a)) (AllSet z c (λ b. (b / 64 ≡ i) × (bit_at n (b % 64) ≡ 1))) v w
            (λ a a' d. (d.1, λ b lb p. set_in a i n (subst (λ (q : Spot). n ≡ get_or a (index z q) 0) same d.0) li b p.0 p.1)) (load_runs z call l.spot v n w t);
      }

  module _ (block n : ℕ) (w : PassState) (lb : block < blocks z (class_number c)) (t : Sets z call c block v n w) where
    abbrev met_now : Finding
    met_now = arena_finding z call (take_bit c block) n t.table.words v

    abbrev this : Taken
    this = record { class = c; block = block }

    took_is : (test : Bool) → eqb (bit_at n (block % 64)) 0 ≡ test → met_now.took ≡ cond test (Some this) None
    took_is test e = ap (λ (b : Bool). cond b (Some this) None) e

    abbrev with_test : Bool → PassState
    with_test test = record (noted met_now v) { blocks = record v.blocks { held = cond test (block_from (memory z t.table.words).arena.bytes c block ∷ v.blocks.held) v.blocks.held } }

    after_is : w ≡ with_test (eqb (bit_at n (block % 64)) 0)
    after_is = t.after ∙ ap (λ (k : ℕ). record (noted (arena_finding z call (take_bit c block) k t.table.words v) v) {
      blocks = record v.blocks { held = cond (eqb (bit_at k (block % 64)) 0) (block_from (memory z t.table.words).arena.bytes c block ∷ v.blocks.held) v.blocks.held };
    }) t.finds

    -- to set a bit that is set changes nothing
    same_words : (a : List ℕ) → n ≡ get_or a (index z (bit_spot c block)) 0 → bit_at n (block % 64) ≡ 1 → set a (index z (bit_spot c block)) (bit_or (get_or a (index z (bit_spot c block)) 0) (bit_of block)) ≡ a
    same_words a d e = ap (λ (m : ℕ). set a (index z (bit_spot c block)) (bit_or m (bit_of block))) (sym d) ∙ (ap (λ (m : ℕ). set a (index z (bit_spot c block)) m) (or_set (block % 64) n e ∙ d) ∙ set-get_or a (index z (bit_spot c block)) 0)

    in_front : index z (bit_spot c block) < rooms_at z
    in_front = arena_before z (at_bits (class_number c) (block / 64)) (bit_inside z c block lb)

    word_is : (memory z t.table.words).arena.bits (class_number c) (block / 64) ≡ n
    word_is = memory_read z t.table.words (bit_spot c block) (bit_inside z c block lb) ∙ t.finds

    pub set_before : bit_at n (block % 64) ≡ 1 → Looked z call c v w (λ b. (b / 64 ≡ block / 64) × (bit_at n (b % 64) ≡ 1))
    set_before e = record {
      more = met_now ∷ [];
      looks = ((refl, in_front, ap Some (sym (or_set (block % 64) n e)), took_is false (ne_eqb (bit_at n (block % 64)) 0 (λ q. omega arith))), tt);
      after = after_is ∙ ap with_test (ne_eqb (bit_at n (block % 64)) 0 (λ q. omega arith));
      set = λ b l p. found_here t.table.words (block / 64) n (bit_spot c block) (bit_or n (bit_of block)) met_now.took refl b p.0 p.1;
      still = runs_as (DoesStep z (on_arena (take_bit c block)) n) (AllSet z c (λ b. (b / 64 ≡ block / 64) × (bit_at n (b % 64) ≡ 1))) v w
          (λ a a' d. (d.1 ∙ same_words a d.0 e, λ b l p. set_in a (block / 64) n d.0 (bit_inside z c block lb).1 b p.0 p.1)) (step_runs z call (on_arena (take_bit c block)) v n w tt t);
    }

    abbrev told_first : Sets z call c block (grown [] v) n w
    told_first = told_of z call (on_arena (take_bit c block)) v (grown [] v) (grown_none v) n w t

    pub now_taken : bit_at n (block % 64) ≡ 0 → Takes z call c block v w
    now_taken e = let none = none_owns z (memory z t.table.words).arena (all_others z (memory z t.table.words) (map rooms_held t.table.states)) (map blocks_of t.table.states) t.seat v.blocks (at_map blocks_of t.table.states t.seat v t.here) t.rule.blocks (class_number c) block
        (ap (λ (m : ℕ). bit_at m (block % 64)) word_is ∙ e) in let n0 = none.0 in let n1 = none.1 in record {
          inside = lb;
          before = [];
          looks = tt;
          number = n;
          clear = e;
          told = told_first;
          free = omega arith;
          unheld = let h = total_at (holds (class_number c) block) (map blocks_of t.table.states) t.seat v.blocks (at_map blocks_of t.table.states t.seat v t.here) in omega arith;
          still = runs_as (DoesStep z (on_arena (take_bit c block)) n) (SetsBit z c block) v w
              (λ a a' d. (ap (λ (m : ℕ). bit_at m (block % 64)) (memory_read z a (bit_spot c block) (bit_inside z c block lb) ∙ sym d.0) ∙ e, d.1)) (step_runs z call (on_arena (take_bit c block)) v n w tt t);
          more = met_now ∷ [];
          calls = ((refl, in_front), tt);
          own = ((λ t f. took_one met_now.took this t (took_is true (eq-eqb (bit_at n (block % 64)) 0 e)) f), tt);
          after = after_is ∙ ap with_test (eq-eqb (bit_at n (block % 64)) 0 e);
        }
