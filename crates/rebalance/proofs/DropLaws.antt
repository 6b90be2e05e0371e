-- Entries that may be dropped, while others are; and the ranges once they are dropped.
use Rattle.std.proofs.Common.{◌≡◌, ◌≢◌, ℕ, ◌==◌, ◌&&◌, inl, inr, not, Bool, true, false, cond, List, [], ◌∷◌, ◌++◌, map, sym, ◌∙◌, ap, refl, subst, arith, ne_eqb}
use Rattle.std.specs.List.{filter}
use Rattle.oak_model.specs.Counts.{Has, rows}
use Rattle.oak_model.proofs.Counting.{test-cases}
use Rattle.oak_model.proofs.Lists.{at_map}
use Rattle.chunk_core.specs.declared.holds.Carried.{Carried}
use Rattle.chunk_core.specs.declared.holds.MovingRange.{MovingRange}
use Rattle.chunk_core.specs.MovingRanges.{is_dropped, range_without, ranges_with}
use Rattle.chunk_core.specs.Rooms.{RoomMemory}
use Rattle.chunk_core.specs.ValueWord.{names_header}
use Rattle.rebalance.specs.declared.entries.Entry.{Entry}
use Rattle.rebalance.specs.Dropping.{DropsKeys, dropped_ranges}
use Rattle.rebalance.specs.Entries.{dropped, linked_among}
use Rattle.rebalance.specs.HeldRooms.{IsCarried, IsLoose}

-- one entry more is dropped, behind the others
pub dropped_more : (es : List Entry) (e : Entry) (gs : List MovingRange) → dropped_ranges (es ++ e ∷ []) gs ≡ ranges_with e.place (dropped_ranges es gs)
unfolding dropped_ranges
dropped_more [] e gs = refl
dropped_more (x ∷ es) e gs = dropped_more es e (ranges_with x.place gs)

-- before the first entry nothing is dropped

pub drops_none : (r : ℕ) (m : RoomMemory) → DropsKeys r 0 m m
drops_none r m = record {
  pin = refl;
  base = refl;
  count = refl;
  latch = refl;
  first = refl;
  low = refl;
  high = refl;
  value = refl;
  next = refl;
  others = λ q j f. refl;
  valued = λ j l _. absurd (omega arith);
  gone = λ j l _. absurd (omega arith);
}

pub ranges_none : (m : RoomMemory) (r : ℕ) (gs : List MovingRange) → gs ≡ dropped_ranges (dropped (linked_among m r 0)) gs
unfolding rows dropped_ranges
ranges_none m r gs = refl

-- what passes a test stays where others are taken away
has_filter : {A : Type 0} (p : A → Bool) (a : A) (xs : List A) → p a ≡ true → Has a xs → Has a (filter p xs)
has_filter p a [] t h = h
has_filter p a (x ∷ xs) t (inl e) = subst (λ (b : Bool). Has a (cond b (x ∷ filter p xs) (filter p xs))) (sym (ap p (sym e) ∙ t)) (inl e)
has_filter p a (x ∷ xs) t (inr h) = test-cases (p x) (λ (b : Bool). Has a (cond b (x ∷ filter p xs) (filter p xs))) (λ _. inr (has_filter p a xs t h)) (λ _. has_filter p a xs t h)

module _ (w v : ℕ) (apart : w ≢ v) where
  -- an entry of another key word is not dropped
  stays_carried : (c : Carried) (gs : List MovingRange) → c.word ≡ w → IsCarried c gs → IsCarried c (map (range_without v) gs)
  stays_carried c gs is h = record {
    place = h.place;
    range = range_without v h.range;
    there = at_map (range_without v) gs h.place h.range h.there;
    has = has_filter (λ (d : Carried). not (is_dropped v d)) c h.range.carried (ap not (other c is)) h.has;
  }
    where
      other : (d : Carried) → d.word ≡ w → is_dropped v d ≡ false
      other d e = ap (λ (b : Bool). b && (names_header d.value == 0)) (ne_eqb d.word v (λ s. apart (sym e ∙ s)))

  -- and may be dropped still
  pub loose_stays : (gs : List MovingRange) → IsLoose w gs → IsLoose w (ranges_with v gs)
  loose_stays gs h = test-cases (v == 0) (λ (b : Bool). IsLoose w (cond b gs (map (range_without v) gs))) (λ _. h)
      (λ _. record { some_word = h.some_word; entry = h.entry; carried = stays_carried h.entry gs h.word_is h.carried; word_is = h.word_is; bare = h.bare })
