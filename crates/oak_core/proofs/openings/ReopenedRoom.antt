-- Room 0 of a new table, which has no entry, may be frozen, held and opened again by a pass that is alone.
use Rattle.std.proofs.Common.{◌≡◌, ◌≢◌, ℕ, ◌-◌, ◌<◌, ◌==◌, nat_le, cond, Bool, true, List, [], ◌∷◌, map, sym, refl, ap, ◌∙◌, subst, arith, eq-eqb}
use Rattle.std.specs.Prelude.{take, filter, nat_lt, slice_index}
use Rattle.std.proofs.lemmas.Bool.{le-leb}
use Rattle.oak_model.specs.Limits.{Sizes}
use Rattle.oak_model.specs.Counts.{one_if, total, rows}
use Rattle.oak_model.proofs.Counting.{true_both}
use Rattle.oak_model.proofs.Lists.{rows_at}
use Rattle.arena_core.specs.Place.{content}
use Rattle.chunk_core.specs.declared.layout.TheConstants.{BOUND_WORDS}
use Rattle.chunk_core.specs.declared.holds.EntryWords.{EntryWords}
use Rattle.chunk_core.specs.declared.holds.Carried.{Carried}
use Rattle.chunk_core.specs.declared.holds.MovingRange.{MovingRange}
use Rattle.chunk_core.specs.declared.holds.RoomCopy.{RoomCopy}
use Rattle.chunk_core.specs.declared.holds.RoomHeldAs.TheVariants.{Frozen, Held}
use Rattle.chunk_core.specs.declared.holds.RoomHolds.{RoomHolds}
use Rattle.chunk_core.specs.ChainedRooms.{IsChained}
use Rattle.chunk_core.specs.KeyWords.{low_number, high_number}
use Rattle.chunk_core.specs.LinkedEntries.{chain, entries_in, farthest, linked, prefix_in}
use Rattle.chunk_core.proofs.Chains.{chain-none}
use Rattle.chunk_core.specs.MayOnRooms.{MayOpenRoom}
use Rattle.chunk_core.specs.MovingRanges.{takes, left_of, is_upper}
use Rattle.chunk_core.specs.RoomHolds.{no_rooms}
use Rattle.chunk_core.specs.RoomReads.{copy_at, moving_at, carried_at, words_at}
use Rattle.chunk_core.specs.Rooms.{RoomMemory, RoomSpot, at_room_pin, at_base, at_count, at_latch, at_first, at_low, at_high, at_key, at_value, read_room, kind_at}
use Rattle.chunk_core.specs.Spans.{past, past_high, within}
use Rattle.chunk_core.proofs.ChainedRooms.{copied_word, copied_value}
use Rattle.chunk_core.proofs.SpanLaws.{past-cases, high-none}
use Rattle.oak_core.proofs.openings.OpeningRooms.{high_zero, no_entries, no_prefix}

-- The room's words but the pin word are 0.
pub record IsBare (m : RoomMemory) : Type 0 where
  pub others : (p : RoomSpot) → p ≢ at_room_pin 0 → read_room m p ≡ 0

-- the copy of the room, with the base b
abbrev pub copy_with_base : Sizes → RoomMemory → ℕ → RoomCopy
copy_with_base z m b = record (copy_at z m 0) { base = b }

-- what the pass has of rooms while it holds this one alone
abbrev pub holding : Sizes → RoomMemory → (ℕ → List ℕ) → ℕ → RoomHolds
holding z m content b = record no_rooms { held = record { room = 0; held_as = Held (copy_with_base z m b) } ∷ []; moving = moving_at m content 0 ∷ [] }

-- and while it has it frozen
abbrev pub freezing : RoomHolds
freezing = record no_rooms { held = record { room = 0; held_as = Frozen } ∷ [] }

-- nothing is added up over no entries
none_held : (f : EntryWords → ℕ) (g : Carried → ℕ) (p : Carried → Bool) (ws : List EntryWords) (at : ℕ → Carried) (n : ℕ) (ns : List ℕ) → n ≡ 0 → ns ≡ [] → total f (take n ws) ≡ total g (filter p (map at ns))
unfolding total
none_held f g p ws at n ns e none = subst (λ (t : ℕ × List ℕ). total f (take t.0 ws) ≡ total g (filter p (map at t.1))) (λ i. (sym e i, sym none i)) refl

-- the copy's bounds are those of the range that came with it
pub takes_whole : (z : Sizes) (m : RoomMemory) (content : ℕ → List ℕ) (b : ℕ) → takes (copy_with_base z m b) (moving_at m content 0) ≡ true
takes_whole z m content b = let low : ℕ = low_number (rows 0 BOUND_WORDS (m.low 0)) in let high : ℕ = high_number (rows 0 BOUND_WORDS (m.high 0)) in true_both (high == high) (nat_le low low) (eq-eqb high high refl) (le-leb low low (omega arith))

-- so nothing is left of it
pub leaves_none : (z : Sizes) (m : RoomMemory) (content : ℕ → List ℕ) (b : ℕ) → left_of (copy_with_base z m b) (moving_at m content 0) ≡ []
leaves_none z m content b = let low : ℕ = low_number (rows 0 BOUND_WORDS (m.low 0)) in none_of (low == low) _ (eq-eqb low low refl)
  where
    none_of : (t : Bool) (gs : List MovingRange) → t ≡ true → cond t [] gs ≡ []
    none_of t gs e = ap (λ (s : Bool). cond s [] gs) e

module _ (z : Sizes) (m : RoomMemory) (content : ℕ → List ℕ) (bare : IsBare m) where
  zero_at : (p : RoomSpot) → 0 < kind_at p → read_room m p ≡ 0
  zero_at p l = bare.others p (λ e. absurd (let k = ap kind_at e in omega arith))

  first_low : slice_index (rows 0 BOUND_WORDS (m.low 0)) 0 ≡ 0
  first_low = rows_at 0 BOUND_WORDS 0 (m.low 0) 0 (omega arith) ∙ zero_at (at_low 0 0) (omega arith)

  first_high : slice_index (rows 0 BOUND_WORDS (m.high 0)) 0 ≡ 0
  first_high = rows_at 0 BOUND_WORDS 0 (m.high 0) 0 (omega arith) ∙ zero_at (at_high 0 0) (omega arith)

  no_high : high_number (rows 0 BOUND_WORDS (m.high 0)) ≡ 0
  no_high = high_zero (rows 0 BOUND_WORDS (m.high 0)) first_high

  none_counted : entries_in (m.count 0) ≡ 0
  none_counted = ap entries_in (zero_at (at_count 0) (omega arith)) ∙ no_entries

  none_sorted : prefix_in (m.count 0) ≡ 0
  none_sorted = ap prefix_in (zero_at (at_count 0) (omega arith)) ∙ no_prefix

  none_linked : linked m 0 ≡ []
  none_linked = ap (chain farthest (m.next 0)) (zero_at (at_first 0) (omega arith)) ∙ chain-none farthest (m.next 0)

  low_inside : (a : ℕ) → within (record { low = a; high = high_number (rows 0 BOUND_WORDS (m.high 0)); base = 0 }) a ≡ 1
  low_inside a = ap (λ (h : ℕ). past a a - past_high h a) no_high ∙ (let p = past-cases a a (λ (n : ℕ). n ≡ 1) (λ _. refl) (λ l. absurd (omega arith)) in let h = high-none a in omega arith)

  -- no link is needed, and nothing is behind its entries, of which there are none
  bare_chained : IsChained z (copy_with_base z m 0)
  bare_chained = let n = none_counted in record {
    whole = none_sorted ∙ sym none_counted;
    begins = zero_at (at_first 0) (omega arith) ∙ sym (ap (λ (k : ℕ). one_if (nat_lt 0 k)) none_counted);
    links = λ i l. absurd (omega arith);
    ends = λ i e. absurd (omega arith);
    zeros = λ i _ l. (copied_word z m 0 i l ∙ zero_at (at_key 0 i) (omega arith), copied_value z m 0 i l ∙ zero_at (at_value 0 i) (omega arith));
  }

  -- it may be opened over the range that came with it
  pub may_reopen : MayOpenRoom z (copy_with_base z m 0) (moving_at m content 0 ∷ [])
  may_reopen = let low : ℕ = low_number (rows 0 BOUND_WORDS (m.low 0)) in let n = none_counted in let s = none_sorted in let l = first_low in let h = first_high in record {
    place = 0;
    range = moving_at m content 0;
    there = refl;
    first = λ j g e lt. absurd (omega arith);
    takes_it = takes_whole z m content 0;
    base = sym (zero_at (at_base 0) (omega arith));
    latch = zero_at (at_latch 0) (omega arith);
    few = omega arith;
    chained = bare_chained;
    entries = λ f. none_held (λ (e : EntryWords). f e.word e.value) (λ (c : Carried). f c.word c.value) (is_upper (copy_with_base z m 0)) (rows 0 z.entries (words_at m 0)) (carried_at m content 0) (entries_in (m.count 0)) (linked m 0) none_counted none_linked;
    under = low_inside low;
    key = λ other. absurd (other refl);
    bounds = record { low_fits = omega arith; high_fits = omega arith };
    sorted = λ i j c d lt few hc hd e g. absurd (omega arith);
  }
