-- A cursor that was advanced in vain, any number of times, and what the next try comes to.
use Rattle.std.proofs.Common.{◌≡◌, ℕ, Bool, true, false, List, Option, None, Result, Ok, Err, IfErr, refl, sym, ◌∙◌, subst}
use Rattle.std.specs.Borrow.{MutBor}
use Rattle.std.specs.Prelude.{IfOk}
use Rattle.oak_model.specs.KeyNumber.{key_number}
use Rattle.oak_model.specs.declared.replies.Pair.{Pair}
use Rattle.oak_core.specs.declared.states.PassState.{PassState}
use Rattle.oak_core.specs.AloneWords.{Runs}
use Rattle.oak_core.specs.declared.table.Pass.{Pass}
use Rattle.oak_core.specs.PassState.{HoldsNothing}
use Rattle.oak_core.specs.Passes.{Stays, key as sizes, state}
use Rattle.oak_core.specs.Scratch.{StaysButSlots}
use Rattle.chunk_ops.specs.AddsAlone.{Never}
use Rattle.chunk_ops.specs.PinRecords.{WordsStay}
use Rattle.chunk_ops.proofs.MeetingCalls.{both_stay, stays_then}
use Rattle.point_ops.proofs.LoneChanges.{then_never}
use Rattle.value_ops.specs.declared.pinned_value.PinnedValue.{PinnedValue}
use Rattle.scan_cursor.specs.declared.cursor.Cursor.{Cursor}
use Rattle.scan_cursor.specs.declared.walking.Stepped.TheVariants.{Passed}
use Rattle.scan_cursor.specs.declared.walking.Walk.{Walk}
use Rattle.scan_cursor.specs.Busy.{AreInVain}
use Rattle.scan_cursor.specs.Cursors.{Advances, GivesUp, HasGiven, HasPair, IsCursor, course, under, view_under}
use Rattle.scan_cursor.specs.Leaving.{LeavesValue}
use Rattle.scan_cursor.specs.Views.{Later, View}
use Rattle.scan_cursor.specs.Walks.{WalkSteps, course_of}
use Rattle.scan_cursor.proofs.CursorLaws.{left_given}
use Rattle.scan_cursor.proofs.LeavingLaws.{left_leaves}
use Rattle.scan_cursor.proofs.ReadingViews.{later_both, later_self}
use Rattle.scan_cursor.proofs.StepLaws.{but_both}
use Rattle.scan_cursor.proofs.VainLooks.{in_vain_since}

-- n is the cursor c in a later state, at the same place
pub record HasTried (c n : Cursor) : Type 0 where
  pub table : n.table ≡ c.table
  pub low : n.low ≡ c.low
  pub high : n.high ≡ c.high
  pub way : n.way ≡ c.way
  pub own : StaysButSlots c.pass.now n.pass.now
  pub later : Later (view_under c) (view_under n)
  pub goes : (before : View) (pairs : List Pair) → HasGiven c before pairs → HasGiven n before pairs
  -- what is done to the words from n on is done from c on
  pub still : (o : Option PinnedValue) (w : PassState) → Runs (LeavesValue (sizes n.table.now) n.value o) (under n) w → Runs (LeavesValue (sizes c.table.now) c.value o) (under c) w

pub tried_none : (c : Cursor) → HasTried c c
tried_none c = record { table = refl; low = refl; high = refl; way = refl; own = record { table = refl; seat = refl; call = refl; scratch = refl; sorting = refl }; later = later_self (view_under c); goes = λ a ps h. h; still = λ o w r. r }

module _ (c n m : Cursor) (t : HasTried c n) where
  pub tried_more : m.table ≡ n.table → m.low ≡ n.low → m.high ≡ n.high → m.way ≡ n.way → StaysButSlots n.pass.now m.pass.now → Later (view_under n) (view_under m) → (looks : ℕ) → GivesUp looks n m → Runs (LeavesValue (sizes n.table.now) n.value m.value) (under n) (under m) → HasTried c m
  tried_more table low high way own later looks up still = record {
    table = table ∙ t.table;
    low = low ∙ t.low;
    high = high ∙ t.high;
    way = way ∙ t.way;
    own = but_both c.pass.now n.pass.now m.pass.now t.own own;
    later = later_both (view_under c) (view_under n) (view_under m) t.later later;
    goes = λ a ps h. up.goes a ps (t.goes a ps h);
    still = λ o w r. t.still o w (left_leaves (sizes n.table.now) n.value o (under n) (under m) w
        (subst (λ (x : Option PinnedValue). Runs (LeavesValue (sizes n.table.now) n.value x) (under n) (under m)) up.value still)
        (subst (λ (x : Option PinnedValue). Runs (LeavesValue (sizes n.table.now) x o) (under m) w) up.value (subst (λ k. Runs (LeavesValue (sizes k.now) m.value o) (under m) w) table r)));
  }

  pub tried_advances : (more : Bool) → Advances more n m → Advances more c m
  tried_advances true a = record { value = a.value; goes = λ b ps h. a.goes b ps (t.goes b ps h) }
  tried_advances false a = record { value = a.value; ended = a.ended; goes = λ b ps h. a.goes b ps (t.goes b ps h) }

-- ---- what was shown of each success, and of each failure, says more

pub ok_as : {A E : Type 0} (r : Result A E) (P Q : A → Type 0) → ((a : A) → P a → Q a) → IfOk r P → IfOk r Q
ok_as (Ok a) P Q f h = f a h
ok_as (Err e) P Q f h = tt

pub err_as : {A E : Type 0} (r : Result A E) (P Q : E → Type 0) → ((e : E) → P e → Q e) → IfErr r P → IfErr r Q
err_as (Ok a) P Q f h = tt
err_as (Err e) P Q f h = f e h

-- n is the cursor c behind its present pair
module _ (c n : Cursor) (i : IsCursor c) (table : n.table ≡ c.table) (low : n.low ≡ c.low) (high : n.high ≡ c.high) (way : n.way ≡ c.way) (walk : n.walk ≡ c.walk) (none : n.value ≡ None) (own : Stays c.pass.now n.pass.now) (idle : HoldsNothing (under n)) (l : Later (view_under c) (view_under n)) (s : Runs (LeavesValue (sizes c.table.now) c.value None) (under c) (under n)) where
  pub left_tried : HasTried c n
  left_tried = record {
    table = table;
    low = low;
    high = high;
    way = way;
    own = record { table = own.table; seat = own.seat; call = own.call; scratch = own.scratch; sorting = refl };
    later = l;
    goes = left_given c n i table low high way walk none own idle l s;
    still = λ o w r. left_leaves (sizes c.table.now) c.value o (under c) (under n) w s
        (subst (λ k. Runs (LeavesValue (sizes k.now) None o) (under n) w) table (subst (λ (p : Option PinnedValue). Runs (LeavesValue (sizes n.table.now) p o) (under n) w) none r));
  }

  pub left_gives : (looks : ℕ) (d : Cursor) → GivesUp looks n d → GivesUp looks c d
  left_gives looks d g = record {
    value = g.value;
    going = g.going;
    goes = λ a ps h. g.goes a ps (left_tried.goes a ps h);
    vain = in_vain_since looks (key_number c.low) (key_number c.high) (view_under c) (view_under n) (view_under d) l
        (subst (λ (p : List ℕ × List ℕ). AreInVain looks (key_number p.0) (key_number p.1) (view_under n) (view_under d)) (λ j. (low j, high j)) g.vain);
    alone = then_never (LeavesValue (sizes c.table.now) c.value None) Never (under c) (under n) (under d) s g.alone;
  }

-- n has no present pair, and passed a slot
module _ (n : Cursor) (i : IsCursor n) (none : n.value ≡ None) (q : MutBor Pass) (w : Walk) (own : StaysButSlots n.pass.now q.now) (s : WalkSteps Passed n.way (key_number n.low) (key_number n.high) (course n) (course_of n.way (sizes n.table.now) w q.now)) (still : Runs WordsStay (under n) (state q.now)) where
  abbrev pub passed : Cursor
  passed = record n { pass = q; walk = w }

  pub passed_cursor : IsCursor passed
  passed_cursor = record {
    own = own.table ∙ i.own;
    low_key = i.low_key;
    high_key = i.high_key;
    walk = s.1.walk;
    pair = subst (λ (o : Option PinnedValue). HasPair o (sizes n.table.now) w.mark (state q.now)) (sym none) s.0;
  }

  pub passed_tried : HasTried n passed
  passed_tried = let z = sizes n.table.now in record {
    table = refl;
    low = refl;
    high = refl;
    way = refl;
    own = own;
    later = s.1.later;
    goes = λ a ps h. record {
      walked = s.1.goes a ps h.walked;
      still = subst (λ (o : Option PinnedValue). Runs (LeavesValue z None o) a.state (state q.now)) (sym none)
          (both_stay a.state (under n) (state q.now) (subst (λ (o : Option PinnedValue). Runs (LeavesValue z None o) a.state (under n)) none h.still) still);
    };
    still = λ o u r. subst (λ (p : Option PinnedValue). Runs (LeavesValue z p o) (under n) u) (sym none)
        (stays_then (LeavesValue z None o) (under n) (state q.now) u still (subst (λ (p : Option PinnedValue). Runs (LeavesValue z p o) (state q.now) u) none r));
  }

  pub passed_gives : (looks : ℕ) (d : Cursor) → GivesUp looks passed d → GivesUp looks n d
  passed_gives looks d g = record {
    value = g.value;
    going = g.going;
    goes = λ a ps h. g.goes a ps (passed_tried.goes a ps h);
    vain = in_vain_since looks (key_number n.low) (key_number n.high) (view_under n) (view_under passed) (view_under d) s.1.later g.vain;
    alone = stays_then Never (under n) (state q.now) (under d) still g.alone;
  }
