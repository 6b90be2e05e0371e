-- What a call promises that scanned, by what its cursor gave.
use Rattle.std.proofs.Common.{◌≡◌, ◌∙◌, ℕ, ◌-◌, ◌^◌, ◌<◌, ◌≤◌, ◌⊎◌, Bool, true, false, List, [], ◌∷◌, length, take, not, Option, Some, None, Result, Ok, Err, arith, inl, inr}
use Rattle.std.specs.Prelude.{IfNone, IfOk, IfSome, MatchBool, OnErr, min}
use Rattle.std.specs.Fn.{Mut}
use Rattle.std.specs.Borrow.{Bor}
use Rattle.oak_model.specs.declared.memory.OutOfMemory.{OutOfMemory}
use Rattle.oak_model.specs.declared.replies.Pair.{Pair}
use Rattle.oak_model.specs.KeyNumber.{key_number}
use Rattle.oak_model.specs.Limits.{Sizes}
use Rattle.oak_core.specs.declared.table.Pass.{Pass}
use Rattle.oak_core.specs.AloneWords.{Runs}
use Rattle.oak_core.specs.Passes.{key as sizes, state}
use Rattle.scan_cursor.specs.declared.cursor.Cursor.{Cursor}
use Rattle.scan_cursor.specs.declared.ways.Way.{Way}
use Rattle.scan_cursor.specs.declared.ways.Way.TheVariants.{Up}
use Rattle.scan_cursor.specs.Cursors.{Advances, HasGiven, key_of, under, value_of, view_under}
use Rattle.scan_cursor.specs.Leaving.{LeavesValue}
use Rattle.scan_cursor.specs.Scanned.{HasScanned, greatest_of, least_of}
use Rattle.scan_cursor.specs.Views.{Later, View}
use Rattle.scan_cursor.specs.Walks.{view_at}
use Rattle.oak_caller.specs.Gathered.{GathersAll, GathersEnough, GathersTo, GathersUntil}
use Rattle.oak_caller.specs.Given.{FindsEnd, FindsPair, GivesAll, GivesUntil}
use Rattle.oak_caller.specs.Keys.{AddsAll, AddsBefore, AddsEnough, AddsTo}
use Rattle.oak_caller.specs.Scans.{Counts, EmptyFits, FindsNext, GaveFits, GivesOn, GoesOn, ScannedTo, present}
use Rattle.oak_caller.proofs.CursorCalls.{scan_ends}
use Rattle.oak_caller.proofs.PresentPairs.{present_key}
use Rattle.oak_caller.proofs.StoppedScans.{scan_stops}

-- the cursor b was begun by the pass p, and the later one, n, was finished by the pass q
module _ (z : Sizes) (p q : Pass) (b n : Cursor) (way : Way) (low high : Option (List ℕ)) (sizes_is : sizes b.table.now ≡ z) (same : b.pass.now ≡ p) (on : GoesOn b n) (is : b.way ≡ way) (lo : key_number b.low ≡ least_of low) (hi : key_number b.high ≡ greatest_of high) (starts : HasGiven b (view_at z p) []) (l : Later (view_under n) (view_at (sizes n.table.now) q)) (still : Runs (LeavesValue (sizes n.table.now) n.value None) (under n) (state q)) where
  pub gave_fits : {F : Type 0} (most : Option ℕ) (r : Bool) (g : Mut F (Bor (List ℕ) × (Bor (List ℕ) × Unit {0})) Bool) (f : F) → MatchBool r (GivesAll most g f b n) (GivesUntil most g f b n) → GaveFits most r g f way low high (view_at z p) (view_at z q)
  gave_fits most true g f x = record { pairs = x.pairs; last = x.last; goes = x.goes; scanned = scan_ends z p q b n sizes_is same on way low high x.pairs is lo hi starts x.ended x.gives l still }
  gave_fits most false g f x = record { pairs = x.pairs; at = x.at; goes = x.goes; pair = present n; last = x.last; stops = x.stops; scanned = scan_stops z p q b n way low high x.pairs sizes_is same on is lo hi starts x.value x.gives l still }

  pub count_fits : (count : ℕ) → way ≡ Up → n.walk.mark.ended ≡ true → (ps : List Pair) × GivesOn b n [] ps × (count ≡ min (length ps) (2 ^ 64 - 1)) → Counts count low high (view_at z p) (view_at z q)
  count_fits count up ended x = record { pairs = x.0; scanned = scan_ends z p q b n sizes_is same on Up low high x.0 (is ∙ up) lo hi starts ended x.1 l still; count = x.2 }

  -- ---- the next pair

  pub none_fits : (r : Option (ℕ × ℕ)) → IfNone r (FindsEnd b n) → IfNone r (HasScanned way low high (view_at z p) (view_at z q) [])
  none_fits None f = scan_ends z p q b n sizes_is same on way low high [] is lo hi starts f.ended (f.goes []) l still
  none_fits (Some k) f = tt

  pub next_fits : (r : Option (ℕ × ℕ)) (k v : List ℕ) → IfSome r (λ _. FindsPair b n) → IfSome r (λ i. (i.0 ≤ length k) × (take i.0 k ≡ key_of n)) → IfSome r (λ i. (i.1 ≤ length v) × (take i.1 v ≡ value_of n)) → IfSome r (λ i. FindsNext i k v way low high (view_at z p) (view_at z q))
  next_fits None k v f e h = tt
  next_fits (Some i) k v f e h = record {
    pair = present n;
    is_key = present_key n on.cursor f.value;
    within_key = e.0;
    within_value = h.0;
    key_is = e.1;
    value_is = h.1;
    scanned = scan_stops z p q b n way low high [] sizes_is same on is lo hi starts f.value (f.goes []) l still;
  }

  -- ---- keys

  keys_all : way ≡ Up → (had has : List (List ℕ)) → GathersAll b n had has → AddsAll low high (view_at z p) (view_at z q) had has
  keys_all up had has x = record { pairs = x.pairs; scanned = scan_ends z p q b n sizes_is same on Up low high x.pairs (is ∙ up) lo hi starts x.ended x.gives l still; keys = x.keys }

  pub before_added : way ≡ Up → (r : Result Bool OutOfMemory) (had has : List (List ℕ)) → OnErr r (GathersUntil b n had has) → OnErr r (AddsBefore low high (view_at z p) (view_at z q) had has)
  before_added up (Ok all) had has x = tt
  before_added up (Err e) had has x = record { pairs = x.pairs; pair = present n; scanned = scan_stops z p q b n Up low high x.pairs sizes_is same on (is ∙ up) lo hi starts x.value x.gives l still; keys = x.keys }

  keys_to : way ≡ Up → (had has : List (List ℕ)) → (has ≡ had) × GivesOn b n [] [] ⊎ GathersTo b n had has → (has ≡ had) ⊎ AddsTo low high (view_at z p) (view_at z q) had has
  keys_to up had has (inl e) = inl e.0
  keys_to up had has (inr x) = inr record { pairs = x.pairs; pair = present n; scanned = scan_stops z p q b n Up low high x.pairs sizes_is same on (is ∙ up) lo hi starts x.value x.gives l still; keys = x.keys }

  pub keys_added : way ≡ Up → (r : Result Bool OutOfMemory) (most : ℕ) (had has : List (List ℕ)) → IfOk r (λ all. MatchBool all (GathersAll b n had has) (GathersEnough most b n had has)) → IfOk r (λ all. MatchBool all (AddsAll low high (view_at z p) (view_at z q) had has) (AddsEnough most low high (view_at z p) (view_at z q) had has))
  keys_added up (Ok true) most had has x = keys_all up had has x
  keys_added up (Ok false) most had has x = record { many = x.many; adds = keys_to up had has x.gathers }
  keys_added up (Err e) most had has x = tt

  -- ---- whether there is a pair

  pub pair_or_none : (found : Bool) → Advances found b n → MatchBool found ((x : Pair) × ScannedTo way low high x.key (view_at z p) (view_at z q) (x ∷ [])) (HasScanned way low high (view_at z p) (view_at z q) [])
  pair_or_none true a = (present n, scan_stops z p q b n way low high [] sizes_is same on is lo hi starts a.value (λ before h. a.goes before [] h) l still)
  pair_or_none false a = scan_ends z p q b n sizes_is same on way low high [] is lo hi starts a.ended (λ before h. a.goes before [] h) l still

pub empty_fits : (found : Bool) (v w : View) → MatchBool found ((x : Pair) × ScannedTo Up None None x.key v w (x ∷ [])) (HasScanned Up None None v w []) → EmptyFits (not found) v w
empty_fits true v w h = h
empty_fits false v w h = h

-- there are never as many keys as a number of this kind may count
pub all_added : (all : Bool) (most : ℕ) (low high : Option (List ℕ)) (v w : View) (had has : List (List ℕ)) → length has < most → MatchBool all (AddsAll low high v w had has) (AddsEnough most low high v w had has) → AddsAll low high v w had has
all_added true most low high v w had has few a = a
all_added false most low high v w had has few a = absurd (let m = a.many in omega arith)
