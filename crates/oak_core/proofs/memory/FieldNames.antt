-- A word names at most one header and one field of it, and the rule says whether a pass owns the header or has it locked, so a store that may be made is told of whatever the word names.
use Rattle.std.proofs.Common.{◌≡◌, ℕ, ◌<◌, false, map, sym, refl, ap, ◌∙◌, subst, arith}
use mathlib.Core.Option.{some}
use lib.ListN.{get_elem?}
use Rattle.atomic_table.specs.Table.{Me, Allows}
use Rattle.oak_model.specs.Limits.{Sizes}
use Rattle.oak_model.proofs.Lists.{at_map}
use Rattle.arena_core.specs.Place.{IsPlace, content}
use Rattle.header_core.specs.declared.states.TheConstants.{OWNED, LOCKED}
use Rattle.header_core.specs.Headers.{at_place, at_stamp, header_at, IsInHeaders}
use Rattle.header_core.specs.HeaderHolds.{in_state}
use Rattle.header_core.proofs.HeaderFacts.{held_is}
use Rattle.oak_core.specs.declared.states.PassState.{PassState}
use Rattle.oak_core.specs.Memory.{Spot, in_headers, index, memory, word_count}
use Rattle.oak_core.specs.HeaderCalls.{HeaderField, of_place, of_stamp, of_locked_place, field_spot, field_step, NamesField, StoresField}
use Rattle.oak_core.specs.Known.{known}
use Rattle.oak_core.specs.PassState.{headers_held, knowledge_of}
use Rattle.oak_core.specs.Rule.{Rule}
use Rattle.oak_core.specs.Running.{Holds, KeepsSeat}
use Rattle.oak_core.specs.MayWrite.{MayEnd}
use Rattle.oak_core.specs.Step.{on_headers, spot, effect, MayOnHeaders, Told}
use Rattle.oak_core.specs.TableState.{TableState}
use Rattle.oak_core.proofs.seats.Allowed.{allows_at}
use Rattle.oak_core.proofs.memory.HeaderNames.{header_of_spot, header_of_spot-is}
use Rattle.oak_core.proofs.memory.Words.{index_below, index_apart}

-- 1 where the spot is a stamp word
stamps : Spot → ℕ
stamps (in_headers (at_stamp h)) = 1
stamps _ = 0

-- a place word is no stamp word
no_stamp : (h k : ℕ) → in_headers (at_place h) ≡ in_headers (at_stamp k) → ⊥
unfolding stamps
no_stamp h k s = let x : ℕ = 0 in let y : ℕ = 1 in let e : x ≡ y = ap stamps s in omega arith

header_at-field : (f : HeaderField) (h : ℕ) → header_at (field_spot f h) ≡ h
header_at-field of_place h = refl
header_at-field of_stamp h = refl
header_at-field of_locked_place h = refl

pub field_inside : (z : Sizes) (f : HeaderField) (h : ℕ) → h < z.headers → IsInHeaders z (field_spot f h)
field_inside z of_place h lt = lt
field_inside z of_stamp h lt = lt
field_inside z of_locked_place h lt = lt

same_spots : (z : Sizes) (f g : HeaderField) (h k word : ℕ) → NamesField z f h word → NamesField z g k word → in_headers (field_spot f h) ≡ in_headers (field_spot g k)
same_spots z f g h k word n m = index_apart z (in_headers (field_spot f h)) (in_headers (field_spot g k)) (field_inside z f h n.inside) (field_inside z g k m.inside) (sym n.word_is ∙ m.word_is)

same_header : (f g : HeaderField) (h k : ℕ) → in_headers (field_spot f h) ≡ in_headers (field_spot g k) → h ≡ k
same_header f g h k s = sym (header_of_spot-is (field_spot f h) ∙ header_at-field f h) ∙ (ap header_of_spot s ∙ (header_of_spot-is (field_spot g k) ∙ header_at-field g k))

-- each such word is one of the table's
pub field_below : (z : Sizes) (f : HeaderField) (h word : ℕ) → NamesField z f h word → word < word_count z
field_below z f h word n = let e = n.word_is in let b = index_below z (in_headers (field_spot f h)) (field_inside z f h n.inside) in omega arith

module _ (z : Sizes) (start call : ℕ) (slots id : ℕ) (me : Me (Unit {0}) PassState) (going : me.0.numbers.spent ≡ false) where
  -- an owned header is not locked
  owned_unlocked : (t : TableState) (seat h : ℕ) → Rule z t → get_elem? t.states seat ≡ some me.0 → 0 < in_state h OWNED me.0.headers → 0 < in_state h LOCKED me.0.headers → ⊥
  owned_unlocked t seat h r here owned locked = let at = at_map headers_held t.states seat me.0 here in
      let is = held_is (memory z t.words).headers (content (memory z t.words).arena.bytes) IsPlace (known (map knowledge_of t.states)) (map headers_held t.states) r.headers seat me.0.headers h in
      let a = is OWNED at (omega arith) (omega arith) owned in let b = is LOCKED at (omega arith) (omega arith) locked in omega arith

  same_field : (t : TableState) (seat : ℕ) → Rule z t → get_elem? t.states seat ≡ some me.0 → (f g : HeaderField) (h x : ℕ) → in_headers (field_spot f h) ≡ in_headers (field_spot g h) → MayOnHeaders z (field_step f h x) me.0 → MayOnHeaders z (field_step g h x) me.0 → f ≡ g
  same_field t seat r here of_place of_place h x s may also = refl
  same_field t seat r here of_place of_stamp h x s may also = absurd (no_stamp h h s)
  same_field t seat r here of_place of_locked_place h x s may also = absurd (owned_unlocked t seat h r here may.headers.0 also.headers.0)
  same_field t seat r here of_stamp of_place h x s may also = absurd (no_stamp h h (sym s))
  same_field t seat r here of_stamp of_stamp h x s may also = refl
  same_field t seat r here of_stamp of_locked_place h x s may also = absurd (no_stamp h h (sym s))
  same_field t seat r here of_locked_place of_place h x s may also = absurd (owned_unlocked t seat h r here also.headers.0 may.headers.0)
  same_field t seat r here of_locked_place of_stamp h x s may also = absurd (no_stamp h h s)
  same_field t seat r here of_locked_place of_locked_place h x s may also = refl

  store_spot : (f : HeaderField) (h x : ℕ) → spot (on_headers (field_step f h x)) ≡ in_headers (field_spot f h)
  store_spot of_place h x = refl
  store_spot of_stamp h x = refl
  store_spot of_locked_place h x = refl

  stores : (f : HeaderField) (h x : ℕ) → effect (on_headers (field_step f h x)) ≡ (λ _. x)
  stores of_place h x = refl
  stores of_stamp h x = refl
  stores of_locked_place h x = refl

  -- a store ends no lock
  ends : (f : HeaderField) (h x : ℕ) → MayEnd call (field_step f h x) me.0
  ends of_place h x = tt
  ends of_stamp h x = tt
  ends of_locked_place h x = tt

  tells : (f : HeaderField) (h x n : ℕ) (w : PassState) → Told z call (on_headers (field_step f h x)) me.0 n w → StoresField z call f h x me.0 w
  tells of_place h x n w told = (n, told)
  tells of_stamp h x n w told = (n, told)
  tells of_locked_place h x n w told = (n, told)

  pub allows_field : (word x : ℕ) (f : HeaderField) (h : ℕ) → NamesField z f h word → MayOnHeaders z (field_step f h x) me.0
      → Allows (Holds z start) slots id me word (λ _. x) (λ _ m. ((g : HeaderField) (k : ℕ) → NamesField z g k word → MayOnHeaders z (field_step g k x) me.0 → StoresField z call g k x me.0 m.0) × KeepsSeat me m)
  allows_field word x f h names may = allows_at z start call slots id me going (on_headers (field_step f h x)) (λ _ w. (g : HeaderField) (k : ℕ) → NamesField z g k word → MayOnHeaders z (field_step g k x) me.0 → StoresField z call g k x me.0 w) word (λ _. x)
      (ap (index z) (store_spot f h x) ∙ sym names.word_is) (stores f h x) (may, ends f h x)
      (λ n w told g k named also. let s = same_spots z f g h k word names named in let e = same_header f g h k s in
      let q = same_field told.table told.seat told.rule told.here f g h x (s ∙ ap (λ (i : ℕ). in_headers (field_spot g i)) (sym e)) may (subst (λ (i : ℕ). MayOnHeaders z (field_step g i x) me.0) (sym e) also) in
      subst (λ (i : HeaderField × ℕ). StoresField z call i.0 i.1 x me.0 w) (λ i. (q i, e i)) (tells f h x n w told))
