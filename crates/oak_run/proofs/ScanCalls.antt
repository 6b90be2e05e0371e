-- A scan of a script is a turn that fits, and leaves what the names stand for.
use Rattle.std.proofs.Common.{List, ℕ, Option}
use Rattle.std.specs.BTreeMap.{BTreeMap}
use Rattle.oak_model.specs.declared.replies.Pair.{Pair}
use Rattle.oak_model.specs.declared.replies.Reply.{Reply}
use Rattle.oak_model.specs.declared.replies.Reply.TheVariants as replies
use Rattle.oak_model.specs.Limits.{Sizes}
use Rattle.oak_core.specs.declared.states.PassState.{PassState}
use Rattle.oak_script.specs.Text.{CanReply}
use Rattle.scan_cursor.specs.declared.ways.Way.{Way}
use Rattle.scan_cursor.specs.declared.ways.Way.TheVariants.{Up, Down}
use Rattle.scan_cursor.specs.Holding.{IsBound}
use Rattle.scan_cursor.specs.Scanned.{HasScanned}
use Rattle.scan_cursor.specs.Views.{view_of}
use Rattle.oak_run.specs.declared.looks.HeldView.{HeldView}
use Rattle.oak_run.specs.HeldNames.{CallDid, KeepsViews}
use Rattle.oak_run.specs.LoneCalls.{LoneCall}
use Rattle.oak_run.specs.Turn.{Turn}
use Rattle.oak_run.specs.Views.{Names, renamed}
use Rattle.oak_run.proofs.HeldLaws.{keeps_later}
use Rattle.oak_run.proofs.ScanTurns.{scan_call, scan_turn, scan_turned}

-- a scan has pairs for a reply, renames nothing and puts nothing

can_scan : (d : Way) (low high : Option (List ℕ)) (pairs : List Pair) → CanReply (scan_call d low high) (replies.Pairs pairs)
can_scan Up low high pairs = tt
can_scan Down low high pairs = tt

names_stay : (d : Way) (low high : Option (List ℕ)) (names : Names) (t : Turn) (P : Names → Type 0) → P names → P (renamed names t (scan_call d low high))
names_stay Up low high names t P p = p
names_stay Down low high names t P p = p

puts_none : (d : Way) (low high : Option (List ℕ)) (z : Sizes) (n : ℕ) (y : Reply) (v w : PassState) → LoneCall z n (scan_call d low high) y v w
puts_none Up low high z n y v w = tt
puts_none Down low high z n y v w = tt

pub scan_did : (way : Way) (low high : Option (List ℕ)) (z : Sizes) (n : ℕ) (v w : PassState) (pairs : List Pair) (holds : BTreeMap (List ℕ) HeldView) → IsBound low → IsBound high → HasScanned way low high (view_of z n v) (view_of z n w) pairs
    → CallDid z n holds holds (scan_call way low high) (replies.Pairs pairs) v w
scan_did way low high z n v w pairs holds low_bound high_bound x = record {
  can = can_scan way low high pairs;
  does = λ names keeps. record {
    turns = record {
      places = (scan_turn way low high z n v w pairs low_bound high_bound x).places;
      floors = (scan_turn way low high z n v w pairs low_bound high_bound x).floors;
      turned = scan_turned way low high z n v w pairs low_bound high_bound x names;
    };
    keeps = names_stay way low high names (scan_turn way low high z n v w pairs low_bound high_bound x) (KeepsViews z holds w) (keeps_later z v w x.later.learns.all.seen x.later.learns.all.loaded holds names keeps);
  };
  lone = puts_none way low high z n (replies.Pairs pairs) v w;
}
