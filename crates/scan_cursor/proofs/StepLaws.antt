-- What the steps of a scan come to, by what its calls say of the pass.
use Rattle.std.proofs.Common.{◌≡◌, ℕ, ◌≤◌, Bool, true, false, List, refl, sym, ap, subst, ◌∙◌}
use Rattle.oak_model.specs.declared.limits.TheConstants.{GREATEST_ENTRIES}
use Rattle.oak_model.specs.Key.{is_key}
use Rattle.oak_model.specs.Limits.{Sizes}
use Rattle.chunk_core.specs.ValueWord.{header_in, generation_in}
use Rattle.oak_core.specs.declared.sorting.SortSlot.{SortSlot}
use Rattle.oak_core.specs.declared.table.Pass.{Pass}
use Rattle.oak_core.specs.PassState.{HoldsNothing}
use Rattle.oak_core.specs.Passes.{Stays, call_of, slots_of, state}
use Rattle.oak_core.specs.Scratch.{StaysButSlots}
use Rattle.scan_cursor.specs.declared.marks.Mark.{Mark}
use Rattle.scan_cursor.specs.declared.reading.Here.{Here}
use Rattle.scan_cursor.specs.declared.reading.Here.TheVariants.{Absent, Again, Present}
use Rattle.scan_cursor.specs.declared.walking.Stepped.TheVariants.{Ended, Given, Passed, Again as TriesAgain}
use Rattle.scan_cursor.specs.declared.walking.Walk.{Walk}
use Rattle.scan_cursor.specs.declared.ways.Way.{Way}
use Rattle.scan_cursor.specs.Gathered.{Loaded, in_slot, slots_ahead}
use Rattle.scan_cursor.specs.Marks.{IsBeyond}
use Rattle.scan_cursor.specs.Reading.{ReadsHere}
use Rattle.scan_cursor.specs.Views.{IsKnown, KnowsLast, Later, View, view_of}
use Rattle.scan_cursor.specs.Walks.{IsTaken, IsWalk, WalkGives, WalkPasses, WalkSteps, course_of, view_at}
use Rattle.scan_cursor.proofs.WalkLaws.{mark_absent, mark_present, walk_later}
use Rattle.scan_cursor.proofs.TakeLaws.{at_taken, take_absent, take_beyond, take_present, take_stays, taken_first, taken_known, taken_within}
use Rattle.value_ops.specs.declared.pinned_value.PinnedValue.{PinnedValue}

-- ---- passes

pub but_both : (p q r : Pass) → StaysButSlots p q → StaysButSlots q r → StaysButSlots p r
but_both p q r s t = record { table = t.table ∙ s.table; seat = t.seat ∙ s.seat; call = t.call ∙ s.call; scratch = t.scratch ∙ s.scratch; sorting = refl }

-- a call tells of the pass by the number of the call at its begin

pub told_at : (z : Sizes) (p q : Pass) → call_of q ≡ call_of p → view_of z (call_of p) (state q) ≡ view_at z q
told_at z p q e = ap (λ (n : ℕ). view_of z n (state q)) (sym e)

pub later_at : (z : Sizes) (p q : Pass) → call_of q ≡ call_of p → Later (view_at z p) (view_of z (call_of p) (state q)) → Later (view_at z p) (view_at z q)
later_at z p q e l = subst (Later (view_at z p)) (told_at z p q e) l

-- the course in which the slots are as before
pub same_left : (z : Sizes) (way : Way) (p q : Pass) (x : Walk) → slots_of q ≡ slots_of p → record { walk = x; left = slots_ahead way x.from x.to (slots_of p); view = view_at z q } ≡ course_of way z x q
same_left z way p q x e = λ j. record { walk = x; left = slots_ahead way x.from x.to (sym e j); view = view_at z q }

-- ---- the key at the mark is read

-- the walk with the mark past its key
abbrev pub past_mark : Walk → Walk
past_mark w = record w { mark = record w.mark { past = true } }

module _ (way : Way) (lo hi : ℕ) (z : Sizes) (w : Walk) (p q : Pass) (own : Stays p q) (going : w.mark.ended ≡ false) (at : w.mark.past ≡ false) (l : Later (view_at z p) (view_of z (call_of p) (state q))) (i : IsWalk way lo hi (course_of way z w p)) where
  later : Later (view_at z p) (view_at z q)
  later = later_at z p q own.call l

  seen : (h : Here) → ReadsHere h w.mark.key (view_at z p) (view_of z (call_of p) (state q)) → ReadsHere h w.mark.key (view_at z p) (view_at z q)
  seen h r = subst (ReadsHere h w.mark.key (view_at z p)) (told_at z p q own.call) r

  pub mark_given : (x : PinnedValue) → ReadsHere (Present x) w.mark.key (view_at z p) (view_of z (call_of p) (state q)) → WalkSteps (Given x) way lo hi (course_of way z w p) (course_of way z (past_mark w) q)
  mark_given x r = let s = seen (Present x) r in (s.0, subst (WalkGives way lo hi (course_of way z w p)) (same_left z way p q (past_mark w) own.sorting) (mark_present way lo hi (course_of way z w p) (view_at z q) i going at later s.1))

  pub mark_passed : ReadsHere Absent w.mark.key (view_at z p) (view_of z (call_of p) (state q)) → WalkSteps Passed way lo hi (course_of way z w p) (course_of way z (past_mark w) q)
  mark_passed r = let s = seen Absent r in (s.0, subst (WalkPasses way lo hi (course_of way z w p)) (same_left z way p q (past_mark w) own.sorting) (mark_absent way lo hi (course_of way z w p) (view_at z q) i going at later s.1.0 s.1.1), going)

-- nothing was read
pub walk_waits : (way : Way) (lo hi : ℕ) (z : Sizes) (w : Walk) (p q : Pass) → Stays p q → w.mark.ended ≡ false → HoldsNothing (state q) → Later (view_at z p) (view_of z (call_of p) (state q)) → IsWalk way lo hi (course_of way z w p) → WalkSteps TriesAgain way lo hi (course_of way z w p) (course_of way z w q)
walk_waits way lo hi z w p q own going idle l i = (idle, subst (WalkPasses way lo hi (course_of way z w p)) (same_left z way p q w own.sorting) (walk_later way lo hi (course_of way z w p) (view_at z q) i (later_at z p q own.call l)), going)

-- ---- the first of the entries that are left was taken, and stands in the slot

-- a life was read by these numbers, which are those of the slot
pub here_as : (h : Here) (a b x y : ℕ) (v w : View) → a ≡ x → b ≡ y → ((k : List ℕ) (m : View) → KnowsLast k a b m → Later m v → ReadsHere h k m w) → (k : List ℕ) (m : View) → KnowsLast k x y m → Later m v → ReadsHere h k m w
here_as h a b x y v w e f g k m last since = g k m (subst (λ (p : ℕ × ℕ). KnowsLast k p.0 p.1 m) (λ j. (sym e j, sym f j)) last) since

module _ (way : Way) (lo hi : ℕ) (z : Sizes) (w x : Walk) (p : Pass) (slot : SortSlot) (mark_is : x.mark ≡ w.mark) (gathered_is : x.gathered ≡ w.gathered) (bound_is : x.bound ≡ w.bound) (within_is : x.within ≡ w.within) (few : x.to ≤ GREATEST_ENTRIES) (taken : IsTaken way w x (slots_of p) (in_slot slot))
    (i : IsWalk way lo hi (course_of way z w p)) (going : w.mark.ended ≡ false) (past : w.mark.past ≡ true) (has : w.gathered ≡ true) where
  abbrev pub left : List Loaded
  left = slots_ahead way x.from x.to (slots_of p)

  pub slot_is_key : is_key (in_slot slot).key ≡ true
  slot_is_key = (taken_first way lo hi (course_of way z w p) (in_slot slot) left (view_at z p) i going past has taken).key

  pub slot_is_known : IsKnown (header_in slot.value) (generation_in slot.value) (view_at z p)
  slot_is_known = taken_known way lo hi (course_of way z w p) (in_slot slot) left (view_at z p) i going past has taken

  pub slot_within : x.within ≡ true → IsBeyond way lo hi (in_slot slot).key → ⊥
  slot_within e = taken_within way lo hi (course_of way z w p) (in_slot slot) left (view_at z p) i going past has taken (sym within_is ∙ e)

  -- its key is beyond the bound of the scan
  pub slot_ends : (key : List ℕ) → key ≡ (in_slot slot).key → HoldsNothing (state p) → IsBeyond way lo hi (in_slot slot).key → WalkSteps Ended way lo hi (course_of way z w p) (course_of way z (record { mark = record { key = key; past = x.mark.past; ended = true }; gathered = false; from = x.from; to = x.to; bound = x.bound; within = x.within; asked = x.asked }) p)
  slot_ends key key_is idle n = (
    idle,
    subst (WalkPasses way lo hi (course_of way z w p)) (λ j. course_of way z (record { mark = record { key = sym key_is j; past = (sym mark_is j).past; ended = true }; gathered = false; from = x.from; to = x.to; bound = sym bound_is j; within = x.within; asked = x.asked }) p)
        (take_beyond way lo hi (course_of way z w p) (in_slot slot) left (view_at z p) i going past has taken x.within x.from x.to x.asked left n few),
    refl,
  )

  module _ (q : Pass) (key : List ℕ) (key_is : key ≡ (in_slot slot).key) (own : Stays p q) (l : Later (view_at z p) (view_of z (call_of p) (state q))) (n : IsBeyond way lo hi (in_slot slot).key → ⊥) where
    then : Later (view_at z p) (view_at z q)
    then = later_at z p q own.call l

    -- the scan is at its key
    abbrev pub at_slot : Bool → Walk
    at_slot at = record { mark = record { key = key; past = at; ended = x.mark.ended }; gathered = x.gathered; from = x.from; to = x.to; bound = x.bound; within = x.within; asked = x.asked }

    same_at : (at bt : Bool) → at ≡ bt → at_taken way lo hi (course_of way z w p) (in_slot slot) left (view_at z q) i going past has taken at x.from x.to x.asked ≡ course_of way z (at_slot bt) q
    same_at at bt e = λ j. record {
      walk = record { mark = record { key = sym key_is j; past = e j; ended = (sym mark_is j).ended }; gathered = sym gathered_is j; from = x.from; to = x.to; bound = sym bound_is j; within = sym within_is j; asked = x.asked };
      left = slots_ahead way x.from x.to (sym own.sorting j);
      view = view_at z q;
    }

    still_past : w.mark.past ≡ x.mark.past
    still_past = ap (λ (m : Mark). m.past) (sym mark_is)

    still_going : x.mark.ended ≡ false
    still_going = ap (λ (m : Mark). m.ended) mark_is ∙ going

    told : (h : Here) → ((k : List ℕ) (m : View) → KnowsLast k (header_in slot.value) (generation_in slot.value) m → Later m (view_at z p) → ReadsHere h k m (view_of z (call_of p) (state q))) → (k : List ℕ) (m : View) → KnowsLast k (header_in slot.value) (generation_in slot.value) m → Later m (view_at z p) → ReadsHere h k m (view_at z q)
    told h f k m last since = subst (ReadsHere h k m) (told_at z p q own.call) (f k m last since)

    pub slot_given : (y : PinnedValue) → ((k : List ℕ) (m : View) → KnowsLast k (header_in slot.value) (generation_in slot.value) m → Later m (view_at z p) → ReadsHere (Present y) k m (view_of z (call_of p) (state q))) → WalkSteps (Given y) way lo hi (course_of way z w p) (course_of way z (at_slot x.mark.past) q)
    slot_given y f = let k = slot_is_known in (
      (told (Present y) f k.key k.moment k.knows k.since).0,
      subst (WalkGives way lo hi (course_of way z w p)) (same_at w.mark.past x.mark.past still_past)
          (take_present way lo hi (course_of way z w p) (in_slot slot) left (view_at z q) i going past has taken x.from x.to x.asked few n then (λ k m last since. (told (Present y) f k m last since).1)),
    )

    pub slot_passed : ((k : List ℕ) (m : View) → KnowsLast k (header_in slot.value) (generation_in slot.value) m → Later m (view_at z p) → ReadsHere Absent k m (view_of z (call_of p) (state q))) → WalkSteps Passed way lo hi (course_of way z w p) (course_of way z (at_slot x.mark.past) q)
    slot_passed f = let k = slot_is_known in (
      (told Absent f k.key k.moment k.knows k.since).0,
      subst (WalkPasses way lo hi (course_of way z w p)) (same_at w.mark.past x.mark.past still_past)
          (take_absent way lo hi (course_of way z w p) (in_slot slot) left (view_at z q) i going past has taken x.from x.to x.asked few n then (λ k m last since. (told Absent f k m last since).1)),
      still_going,
    )

    pub slot_waits : ((k : List ℕ) (m : View) → KnowsLast k (header_in slot.value) (generation_in slot.value) m → Later m (view_at z p) → ReadsHere Again k m (view_of z (call_of p) (state q))) → WalkSteps Passed way lo hi (course_of way z w p) (course_of way z (at_slot false) q)
    slot_waits f = let k = slot_is_known in (
      told Again f k.key k.moment k.knows k.since,
      subst (WalkPasses way lo hi (course_of way z w p)) (same_at false false refl)
          (take_stays way lo hi (course_of way z w p) (in_slot slot) left (view_at z q) i going past has taken x.from x.to x.asked few n then),
      still_going,
    )
