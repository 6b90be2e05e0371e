-- What goes on from a later state of a pass goes on from an earlier one.
use Rattle.std.proofs.Common.{◌≡◌, ℕ, ◌≤◌, Bool, List, subst, ap, arith, inl, inr, cond, length}
use Rattle.std.proofs.lemmas.Bool.{cases_Bool}
use Rattle.oak_model.specs.Key.{is_key}
use Rattle.oak_model.specs.KeyNumber.{key_number}
use Rattle.oak_model.specs.Limits.{Sizes}
use Rattle.oak_model.proofs.Lists.{begins_length, begins_trans}
use Rattle.oak_core.specs.declared.states.Findings.{Findings}
use Rattle.oak_core.specs.declared.states.KeyedWrite.{KeyedWrite}
use Rattle.oak_core.specs.declared.states.Numbers.{Numbers}
use Rattle.oak_core.specs.declared.states.PassState.{PassState}
use Rattle.oak_core.specs.KnownPlaces.{Remembers}
use Rattle.oak_core.specs.PassState.{Extends, seen_of}
use Rattle.scan_cursor.specs.Fitting.{seen_length}
use Rattle.oak_run.specs.Behind.{GoesBehind}
use Rattle.oak_run.specs.Closing.{Closing}
use Rattle.oak_run.specs.MapTurns.{OnClosing}
use Rattle.oak_run.specs.Shown.{FindsMore}

pub behind_before : (v w : PassState) (hs : ℕ → List KeyedWrite) → Extends v w → Remembers v.knowledge w.knowledge → GoesBehind w hs → GoesBehind v hs
behind_before v w hs extends remembers b = record {
  seen = λ k. begins_trans (seen_of k v.knowledge) (seen_of k w.knowledge) (hs k) (extends k) (b.seen k);
  places = λ k at r knows. b.places k at r (remembers k at r knows);
  legal = b.legal;
  once = b.once;
}

pub finds_before : (f g h : Findings) → FindsMore f g → FindsMore g h → FindsMore f h
finds_before f g h a b = record {
  met = begins_trans f.met g.met h.met a.met b.met;
  sights = begins_trans f.sights g.sights h.sights a.sights b.sights;
  gones = begins_trans f.gones g.gones h.gones a.gones b.gones;
  fulls = begins_trans f.fulls g.fulls h.fulls a.fulls b.fulls;
  swept = begins_trans f.swept g.swept h.swept a.swept b.swept;
}

-- what holds of all that goes on from the earlier state holds of what goes on from the later one
pub closing_before : (z : Sizes) (v w : PassState) (P : Closing → Type 0) → Extends v w → Remembers v.knowledge w.knowledge → FindsMore v.findings w.findings → w.numbers ≡ v.numbers → OnClosing z v P → OnClosing z w P
closing_before z v w P extends remembers finds numbers on = λ by hs used retired open_rooms b f.
    on by hs used retired open_rooms (behind_before v w hs extends remembers b) (finds_before v.findings w.findings (by v.numbers.number) finds (subst (λ (n : Numbers). FindsMore w.findings (by n.number)) numbers f))

-- the later state has seen no fewer writes of a key
pub seen_more : (v w : PassState) (q : List ℕ) → Extends v w → seen_length v q ≤ seen_length w q
seen_more v w q extends = elim (cases_Bool (is_key q)) [
  | inl e ↦ (let a = ap (λ (b : Bool). cond b (length (seen_of (key_number q) v.knowledge)) 0) e in let b = ap (λ (b : Bool). cond b (length (seen_of (key_number q) w.knowledge)) 0) e in let l = begins_length (seen_of (key_number q) v.knowledge) (seen_of (key_number q) w.knowledge) (extends (key_number q)) in omega arith)
  | inr e ↦ (let a = ap (λ (b : Bool). cond b (length (seen_of (key_number q) v.knowledge)) 0) e in omega arith)
]
