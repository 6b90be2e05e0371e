-- A scan that has ended has read each key of its range.
use Rattle.std.proofs.Common.{◌≡◌, ℕ, suc, ◌<◌, Bool, true, List, Option, Some, None, ap, subst}
use Rattle.std.specs.Prelude.{IfSome, MatchOption}
use Rattle.std.specs.Borrow.{Bor}
use Rattle.oak_model.specs.declared.replies.Pair.{Pair}
use Rattle.oak_model.specs.KeyNumber.{key_number}
use Rattle.oak_model.specs.Limits.{Sizes}
use Rattle.oak_core.specs.declared.states.PassState.{PassState}
use Rattle.oak_core.specs.AloneWords.{Runs}
use Rattle.oak_core.specs.Passes.{key as sizes}
use Rattle.oak_core.specs.QuietSteps.{Quiet}
use Rattle.chunk_ops.specs.PinRecords.{WordsStay}
use Rattle.chunk_ops.specs.AskedRanges.{bytes_in_option}
use Rattle.value_ops.specs.declared.pinned_value.PinnedValue.{PinnedValue}
use Rattle.scan_cursor.specs.declared.cursor.Cursor.{Cursor}
use Rattle.scan_cursor.specs.declared.marks.Mark.{Mark}
use Rattle.scan_cursor.specs.declared.ways.Way.{Way}
use Rattle.scan_cursor.specs.declared.ways.Way.TheVariants.{Up, Down}
use Rattle.scan_cursor.specs.Cursors.{HasGiven, HasPair, IsCursor, course, under, view_under}
use Rattle.scan_cursor.specs.Holding.{greatest_key}
use Rattle.scan_cursor.specs.Leaving.{LeavesValue}
use Rattle.scan_cursor.specs.Marks.{Come, HasCome}
use Rattle.scan_cursor.specs.Scanned.{HasScanned, greatest_of, least_key, least_of}
use Rattle.scan_cursor.specs.Views.{Later, View}
use Rattle.scan_cursor.specs.Walks.{Course, HasWalked}
use Rattle.scan_cursor.proofs.LeavingLaws.{given_leaves}
use Rattle.scan_cursor.proofs.ReadingViews.{later_both}
use Rattle.scan_cursor.proofs.ScanLaws.{scan_stays}

-- the bounds as they were given, and as the cursor keeps them

pub low_is : (b : Option (Bor (List ℕ))) (k : List ℕ) → MatchOption b (k ≡ least_key) (λ x. k ≡ x.now) → key_number k ≡ least_of (bytes_in_option b)
low_is None k e = ap key_number e
low_is (Some x) k e = ap key_number e

pub high_is : (b : Option (Bor (List ℕ))) (k : List ℕ) → MatchOption b (k ≡ greatest_key) (λ x. k ≡ x.now) → key_number k ≡ greatest_of (bytes_in_option b)
high_is None k e = ap key_number e
high_is (Some x) k e = ap key_number e

module _ (way : Way) (low high : Option (List ℕ)) (a u : View) (ps : List Pair) (still : Runs WordsStay a.state u.state) where
  ended_by : (w : Way) (past : Bool) (k : List ℕ) (v : View) → Later v u → Come w (least_of low) (greatest_of high) past true k a v ps → HasScanned w low high a u ps
  ended_by Up past k v l c = record { later = later_both a v u c.later l; scanned = scan_stays a v u (least_of low) (suc (greatest_of high)) ps l c.scanned; ordered = c.ordered; still = still }
  ended_by Down past k v l c = record { later = later_both a v u c.later l; scanned = scan_stays a v u (least_of low) (suc (greatest_of high)) ps l c.scanned; ordered = c.ordered; still = still }

  -- what was told of the whole scan holds at its end and in each later state
  pub walk_ends : (lo hi : ℕ) (c : Course) → lo ≡ least_of low → hi ≡ greatest_of high → c.walk.mark.ended ≡ true → Later c.view u → HasWalked way lo hi c a ps → HasScanned way low high a u ps
  walk_ends lo hi c e f ended l h = let m = c.walk.mark in
      let at : HasCome way (least_of low) (greatest_of high) m a c.view ps = subst (λ (n : ℕ). HasCome way (least_of low) n m a c.view ps) f (subst (λ (n : ℕ). HasCome way n hi m a c.view ps) e h.come) in
      ended_by way m.past m.key c.view l (subst (λ (x : Bool). Come way (least_of low) (greatest_of high) m.past x m.key a c.view ps) ended at)

-- a pinned value has a header of the table
value_inside : (o : Option PinnedValue) (z : Sizes) (m : Mark) (v : PassState) → HasPair o z m v → IfSome o (λ x. x.header < z.headers)
value_inside (Some x) z m v p = p.0.value.has.inside
value_inside None z m v p = tt

-- Where the pin of the present value is undone, the words are as they were when the scan began, to a pass that is alone, however far it has come.
pub scan_leaves : (c : Cursor) (a : View) (ps : List Pair) (w : PassState) → IsCursor c → HasGiven c a ps → Runs (LeavesValue (sizes c.table.now) c.value None) (under c) w → Runs WordsStay a.state w
scan_leaves c a ps w i g s = let z = sizes c.table.now in given_leaves z c.value None a.state (under c) w (value_inside c.value z c.walk.mark (under c) i.pair) g.still s

-- Since the scan began there were loads, pins and their undoing alone, also in each later state of the call.
pub scan_quiet : (c : Cursor) (a u : View) (ps : List Pair) → HasGiven c a ps → Later (view_under c) u → Quiet a.state u.state
scan_quiet c a u ps g l = (later_both a (view_under c) u g.walked.come.later l).quiet

-- A cursor that has come to its end has read its range, and behind its last call, which undoes its pin if it has one, the words are as they were when it began.
pub cursor_ends : (low high : Option (List ℕ)) (c : Cursor) (a u : View) (ps : List Pair) → key_number c.low ≡ least_of low → key_number c.high ≡ greatest_of high → IsCursor c → c.walk.mark.ended ≡ true → Later (view_under c) u → Runs (LeavesValue (sizes c.table.now) c.value None) (under c) u.state → HasGiven c a ps → HasScanned c.way low high a u ps
cursor_ends low high c a u ps e f i ended l s g = walk_ends c.way low high a u ps (scan_leaves c a ps u.state i g s) (key_number c.low) (key_number c.high) (course c) e f ended l g.walked
