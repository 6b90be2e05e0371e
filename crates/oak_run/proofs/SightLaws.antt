-- What was found between two states of a call was found in the call, beside all histories and findings that go on from the second.
use Rattle.std.proofs.Common.{◌≡◌, ℕ, Bool, true, cond, List, [], sym, ap, subst}
use Rattle.oak_model.specs.Counts.{Begins}
use Rattle.oak_model.specs.History.{History, place_of}
use Rattle.oak_model.specs.Key.{is_key}
use Rattle.oak_model.specs.KeyNumber.{key_number}
use Rattle.oak_core.specs.declared.states.KeyedWrite.{KeyedWrite}
use Rattle.oak_core.specs.declared.states.PassState.{PassState}
use Rattle.oak_core.specs.CallSteps.{Learns}
use Rattle.oak_core.specs.KeyHistories.{writes_of}
use Rattle.oak_core.specs.PassState.{seen_of}
use Rattle.oak_core.proofs.calls.CallSteps.{begins_same}
use Rattle.oak_core.proofs.known.KnownReads.{writes_extend}
use Rattle.scan_cursor.specs.Fitting.{GoOnFrom}
use Rattle.oak_run.specs.Behind.{GoesBehind, histories}
use Rattle.oak_run.specs.Shown.{FindsMore}

-- the findings of a call that wrote nothing go on
pub finds_more : (n : ℕ) (v w : PassState) → Learns n v w → FindsMore v.findings w.findings
finds_more n v w l = record {
  met = (l.met.more, l.met.met);
  sights = (l.sights.more, l.sights.sights);
  gones = l.all.gones;
  fulls = begins_same v.findings.fulls w.findings.fulls l.all.fulls;
  swept = begins_same v.findings.swept w.findings.swept l.all.swept;
}

-- histories that go on from what a pass has seen are such ones by their keys
pub go_on : (v : PassState) (hs : ℕ → List KeyedWrite) → GoesBehind v hs → GoOnFrom v (histories hs)
go_on v hs b = record {
  seen = λ q e. subst (Begins (writes_of (seen_of (key_number q) v.knowledge))) (sym (of_key_is q e)) (writes_extend (seen_of (key_number q) v.knowledge) (hs (key_number q)) (b.seen (key_number q)));
  others = λ q e. ap (λ (t : Bool). cond t (writes_of (hs (key_number q))) []) e;
  places = λ q at r e k. subst (λ (h : History). place_of h at ≡ r) (sym (of_key_is q e)) (b.places (key_number q) at r k);
}
  where
    of_key_is : (q : List ℕ) → is_key q ≡ true → histories hs q ≡ writes_of (hs (key_number q))
    of_key_is q e = ap (λ (t : Bool). cond t (writes_of (hs (key_number q))) []) e
