-- The end of a run, put together from what settling, the scan and the closing say.
use Rattle.std.proofs.Common.{◌≡◌, ℕ, List, None, refl, sym, subst}
use Rattle.oak_model.specs.declared.replies.Pair.{Pair}
use Rattle.oak_model.specs.Limits.{Sizes}
use Rattle.oak_core.specs.declared.closing.Closed.{Closed}
use Rattle.oak_core.specs.declared.states.PassState.{PassState}
use Rattle.oak_core.specs.AloneWords.{LeavesWords}
use Rattle.oak_core.specs.Closing.{FullsLacked, closed_key, closed_state, closed_words}
use Rattle.oak_core.specs.KnownPlaces.{PlacesStand}
use Rattle.oak_core.specs.PassState.{HoldsNothing}
use Rattle.oak_core.specs.Splitting.{Ends}
use Rattle.oak_map.specs.Closings.{UsesJustMap}
use Rattle.rebalance.specs.Calls.{Settles}
use Rattle.rebalance.specs.LoneCalls.{IsSettled}
use Rattle.scan_cursor.specs.declared.ways.Way.TheVariants.{Up}
use Rattle.scan_cursor.specs.Scanned.{HasScanned}
use Rattle.scan_cursor.specs.Views.{view_of}
use Rattle.oak_run.specs.EndsRun.{EndsRun}

-- w is the state of the pass that closed the map
pub ends_run : (z : Sizes) (c : Closed) (n m k : ℕ) (v s w : PassState) (finals : List Pair) → m ≡ n → closed_key c ≡ z → closed_state c ≡ w → Settles z n v s → HasScanned Up None None (view_of z m s) (view_of z k w) finals
    → HoldsNothing w → Ends z (closed_words c) w → FullsLacked c → PlacesStand c → ((words : List ℕ) → LeavesWords words w → IsSettled z words → UsesJustMap c) → EndsRun z n v finals c
ends_run z c n m k v s w finals same key state settles scan idle ends noted places uses = record {
  settled = s;
  settling = n;
  begun = m;
  ended = k;
  settled_in = refl;
  scanned_in = same;
  key = key;
  settles = settles;
  scan = subst (λ (u : PassState). HasScanned Up None None (view_of z m s) (view_of z k u) finals) (sym state) scan;
  idle = subst HoldsNothing (sym state) idle;
  ends = subst (Ends z (closed_words c)) (sym state) ends;
  noted = noted;
  places = places;
  uses = subst (λ (u : PassState). (words : List ℕ) → LeavesWords words u → IsSettled z words → UsesJustMap c) (sym state) uses;
}
