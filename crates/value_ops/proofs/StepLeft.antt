-- The table right after a step on a pin word.
use Rattle.std.proofs.Common.{◌≡◌, ℕ, ◌^◌, ◌<◌, cond, slice_index, Bool, sym, refl, ap, ◌∙◌, subst, arith, eq-eqb}
use mathlib.Core.Option.{some}
use lib.ListN.{get_elem?}
use Rattle.pin_word.specs.PinWord.{generation_of, state_of, count_of}
use Rattle.oak_model.specs.Limits.{Sizes}
use Rattle.oak_model.proofs.Lists.{set_there}
use Rattle.header_core.specs.Headers.{HeaderSpot, at_pin}
use Rattle.header_core.specs.HeaderStep.{HeaderStep, header_spot, header_effect}
use Rattle.oak_core.specs.declared.states.PassState.{PassState}
use Rattle.oak_core.specs.Memory.{Memory, in_headers, index, IsInside, write, memory}
use Rattle.oak_core.specs.Rule.{Rule}
use Rattle.oak_core.specs.Step.{on_headers, effect, spot, found, state_after, Told}
use Rattle.oak_core.specs.TableState.{TableState}
use Rattle.oak_core.proofs.kinds.EachEvent.{rule_keeps}
use Rattle.oak_core.proofs.held.HeaderStanding.{small_pin}
use Rattle.oak_core.proofs.memory.Words.{memory_read, memory_set}
use Rattle.value_ops.specs.Claiming.{pin_spot}
use Rattle.value_ops.specs.Filling.{table_behind, IsLeft}

module _ (z : Sizes) (call : ℕ) (x : HeaderStep) (h : ℕ) (is : header_spot x ≡ at_pin h) (v : PassState) (n : ℕ) (w : PassState) (t : Told z call (on_headers x) v n w) where
  abbrev before : Memory
  before = memory z t.table.words

  abbrev pub table_left : TableState
  table_left = table_behind z call x v n w t

  pub inside : h < z.headers
  inside = subst (λ (q : HeaderSpot). IsInside z (in_headers q)) is t.may.0.inside

  pub rule_left : Rule z table_left
  rule_left = rule_keeps z t.table call t.seat v t.rule t.here t.going (on_headers x) t.may

  pub here_left : get_elem? table_left.states t.seat ≡ some w
  here_left = set_there t.table.states t.seat v (state_after z call (on_headers x) t.table v) t.here ∙ ap some (sym t.after)

  pub memory_left : memory z table_left.words ≡ write before (pin_spot h) (header_effect x n)
  memory_left = memory_set z t.table.words (spot (on_headers x)) (effect (on_headers x) (found z (on_headers x) t.table)) t.rule.words.counted t.may.0.inside
      ∙ (λ i. write before (in_headers (is i)) (header_effect x (t.finds i)))

  pub pin_left : (memory z table_left.words).headers.pin h ≡ header_effect x n
  pin_left = ap (λ (m : Memory). m.headers.pin h) memory_left ∙ ap (λ (b : Bool). cond b (header_effect x n) (before.headers.pin h)) (eq-eqb h h refl)

  pub place_left : (memory z table_left.words).headers.place h ≡ before.headers.place h
  place_left = ap (λ (m : Memory). m.headers.place h) memory_left

  pub stamp_left : (memory z table_left.words).headers.stamp h ≡ before.headers.stamp h
  stamp_left = ap (λ (m : Memory). m.headers.stamp h) memory_left

  pub bytes_left : (memory z table_left.words).arena.bytes ≡ before.arena.bytes
  bytes_left = ap (λ (m : Memory). m.arena.bytes) memory_left

  pub pin_found : before.headers.pin h ≡ n
  pin_found = memory_read z t.table.words (pin_spot h) inside ∙ (ap (λ (q : HeaderSpot). slice_index t.table.words (index z (in_headers q))) (sym is) ∙ t.finds)

  pub small : n < 2 ^ 64
  small = let l = small_pin z t.table t.seat v t.rule t.here h in let e = pin_found in omega arith

  abbrev pub left : (s g : ℕ) → state_of (header_effect x n) ≡ s → generation_of (header_effect x n) ≡ g → count_of (header_effect x n) ≡ count_of n → IsLeft z h s g n t.seat w table_left
  left s g state generation count = record {
    rule = rule_left;
    here = here_left;
    state = ap state_of pin_left ∙ state;
    generation = ap generation_of pin_left ∙ generation;
    count = ap count_of pin_left ∙ count;
  }
