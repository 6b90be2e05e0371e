-- A write of a part of a call is one of the call.
use Rattle.std.proofs.Common.{◌≡◌, ℕ, ◌+◌, ◌++◌, List, [], ◌∷◌, length, refl, sym, ap, ◌∙◌, subst}
use Rattle.oak_model.specs.declared.cells.CellCall.{CellCall}
use Rattle.oak_model.specs.declared.cells.CellReply.{CellReply}
use Rattle.oak_model.specs.declared.replies.Wrote.{Wrote}
use Rattle.oak_model.specs.declared.replies.Wrote.TheVariants.{New, Over, Kept, Done, Removed, Absent, Full}
use Rattle.oak_model.specs.declared.writes.Kind.{Kind}
use Rattle.oak_model.specs.Counts.{Begins}
use Rattle.oak_model.specs.KeyNumber.{key_number}
use Rattle.oak_model.specs.State.{State}
use Rattle.oak_model.proofs.Lists.{begins_trans}
use Rattle.oak_core.specs.declared.states.KeyedWrite.{KeyedWrite}
use Rattle.oak_core.specs.declared.states.Knowledge.{Knowledge}
use Rattle.oak_core.specs.declared.states.Numbers.{Numbers}
use Rattle.oak_core.specs.declared.states.PassState.{PassState}
use Rattle.oak_core.specs.CallSteps.{Learns, SightsMore, Stands}
use Rattle.oak_core.specs.CallWrites.{Writes}
use Rattle.oak_core.specs.KnownPlaces.{KnowsPlace}
use Rattle.oak_core.specs.PassState.{seen_of}
use Rattle.oak_core.specs.RebalanceSteps.{KeepsRooms}
use Rattle.oak_core.specs.Sights.{SightedSince}
use Rattle.oak_core.proofs.calls.CallSteps.{begins_same, learns_both, learns_none, met_both, sights_both, sights_same, stands_learns, stands_none}
use Rattle.point_ops.specs.Parts.{Answers, ReadSo, WritesAt, WroteSo}
use Rattle.point_ops.proofs.Composed.{last_in, sighted_in}

-- behind a part that only learned
pub writes_behind : (call : ℕ) (key : List ℕ) (kind : Kind) (before after : State) (stamp : ℕ) (u v w : PassState) → Learns call u v → Writes call key kind before after stamp v w → Writes call key kind before after stamp u w
writes_behind call key kind before after stamp u v w a x = record {
  met = met_both call u v w a.met x.met;
  seen = λ k. begins_trans (seen_of k u.knowledge) (seen_of k v.knowledge) (seen_of k w.knowledge) (a.all.seen k) (x.seen k);
  remembers = λ k at r p. x.remembers k at r (a.all.remembers k at r p);
  numbers = x.numbers ∙ a.all.numbers;
  fulls = x.fulls ∙ a.all.fulls;
  rebalances = x.rebalances ∙ a.all.rebalances;
  swept = x.swept ∙ a.all.swept;
  gones = begins_trans u.findings.gones v.findings.gones w.findings.gones a.all.gones x.gones;
  sights = sights_both call u v w a.sights x.sights;
  loaded = begins_trans u.knowledge.loaded v.knowledge.loaded w.knowledge.loaded a.all.loaded x.loaded;
  write = x.write;
  mine = x.mine ∙ ap (λ (l : List KeyedWrite). l ++ x.write ∷ []) a.all.mine;
  rest = x.rest;
  ends = x.ends;
  longer = begins_trans (seen_of (key_number key) u.knowledge) (seen_of (key_number key) v.knowledge) x.rest (a.all.seen (key_number key)) x.longer;
  state = x.state;
  after_is = x.after_is;
  stamp_is = x.stamp_is;
  caller = x.caller ∙ ap (λ (n : Numbers). n.number) a.all.numbers;
  call_is = x.call_is;
  kind_is = x.kind_is;
  known = x.known;
}

-- before one that learned nothing
pub writes_until : (call : ℕ) (key : List ℕ) (kind : Kind) (before after : State) (stamp : ℕ) (v w t : PassState) → Writes call key kind before after stamp v w → Stands call w t → Writes call key kind before after stamp v t
writes_until call key kind before after stamp v w t x s = record {
  met = met_both call v w t x.met s.met;
  seen = λ k. subst (λ (q : Knowledge). Begins (seen_of k v.knowledge) (seen_of k q)) (sym s.knowledge) (x.seen k);
  remembers = λ k at r p. subst (KnowsPlace k at r) (sym s.knowledge) (x.remembers k at r p);
  numbers = s.numbers ∙ x.numbers;
  fulls = s.fulls ∙ x.fulls;
  rebalances = s.rebalances ∙ x.rebalances;
  swept = s.swept ∙ x.swept;
  gones = begins_trans v.findings.gones w.findings.gones t.findings.gones x.gones (begins_same w.findings.gones t.findings.gones s.gones);
  sights = sights_both call v w t x.sights (sights_same call w t s.sights);
  loaded = subst (λ (q : Knowledge). Begins v.knowledge.loaded q.loaded) (sym s.knowledge) x.loaded;
  write = x.write;
  mine = ap (λ (q : Knowledge). q.mine) s.knowledge ∙ x.mine;
  rest = x.rest;
  ends = ap (λ (q : Knowledge). seen_of (key_number key) q) s.knowledge ∙ x.ends;
  longer = x.longer;
  state = x.state;
  after_is = x.after_is;
  stamp_is = x.stamp_is;
  caller = x.caller;
  call_is = x.call_is;
  kind_is = x.kind_is;
  known = subst (λ (q : Knowledge). KnowsPlace (key_number key) stamp (length (seen_of (key_number key) q)) q) (sym s.knowledge) x.known;
}

-- the part goes from v to w, and the call from u to t
module _ (call : ℕ) (key : List ℕ) (u v w t : PassState) (a : Learns call u v) (b : Stands call w t) where
  pub written_in : (kind : Kind) (before after : State) (at : ℕ) → WritesAt call key kind before after at v w → WritesAt call key kind before after at u t
  written_in kind before after at x = record {
    found_at = x.found_at;
    next = x.next;
    sighted = sighted_in call u v w t a.sights (sights_same call w t b.sights) (key_number key) x.found_at x.sighted;
    writes = writes_until call key kind before after at u w t (writes_behind call key kind before after at u v w a x.writes) b;
  }

  wrote_in : (ask : CellCall) (reply : CellReply) (at : ℕ) → WroteSo call key ask reply at v w → WroteSo call key ask reply at u t
  wrote_in ask reply at x = record { kind = x.kind; before = x.before; after = x.after; kind_is = x.kind_is; answer = x.answer; leaves = x.leaves; wrote = written_in x.kind x.before x.after at x.wrote }

  read_in : (ask : CellCall) (reply : CellReply) (at : ℕ) → ReadSo call key ask reply at v w → ReadSo call key ask reply at u t
  read_in ask reply at x = record {
    before = x.before;
    answer = x.answer;
    learns = learns_both call u v t a (learns_both call v w t x.learns (stands_learns call w t b));
    last = last_in call (key_number key) at x.before u v w t a b x.last;
  }

  pub answers_in : (y : Wrote) (ask : CellCall) → Answers y call key ask v w → Answers y call key ask u t
  answers_in (New at) ask x = wrote_in ask _ at x
  answers_in (Over at) ask x = wrote_in ask _ at x
  answers_in (Kept at) ask x = read_in ask _ at x
  answers_in (Done at) ask x = wrote_in ask _ at x
  answers_in (Removed at) ask x = wrote_in ask _ at x
  answers_in (Absent at) ask x = read_in ask _ at x
  answers_in (Full lack) ask x = absurd x

-- what an answer leaves of numbers and notes
pub answers_keep : (y : Wrote) (call : ℕ) (key : List ℕ) (ask : CellCall) (v w : PassState) → Answers y call key ask v w → (w.numbers ≡ v.numbers) × (w.findings.fulls ≡ v.findings.fulls) × (w.findings.swept ≡ v.findings.swept) × KeepsRooms v w
answers_keep (New at) call key ask v w x = let y = x.wrote.writes in (y.numbers, y.fulls, y.swept, y.rebalances)
answers_keep (Over at) call key ask v w x = let y = x.wrote.writes in (y.numbers, y.fulls, y.swept, y.rebalances)
answers_keep (Kept at) call key ask v w x = let y = x.learns.all in (y.numbers, y.fulls, y.swept, y.rebalances)
answers_keep (Done at) call key ask v w x = let y = x.wrote.writes in (y.numbers, y.fulls, y.swept, y.rebalances)
answers_keep (Removed at) call key ask v w x = let y = x.wrote.writes in (y.numbers, y.fulls, y.swept, y.rebalances)
answers_keep (Absent at) call key ask v w x = let y = x.learns.all in (y.numbers, y.fulls, y.swept, y.rebalances)
answers_keep (Full lack) call key ask v w x = absurd x

-- a number that was found for a key stays found
pub sighted_until : (call k at : ℕ) (v w t : PassState) → SightsMore call w t → SightedSince k at v.findings w.findings → SightedSince k at v.findings t.findings
sighted_until call k at v w t m s = sighted_in call v v w t (sights_same call v v refl) m k at s

module _ (call : ℕ) (key : List ℕ) (kind : Kind) (before after : State) (at : ℕ) where
  pub wrote_behind : (u v w : PassState) → Learns call u v → WritesAt call key kind before after at v w → WritesAt call key kind before after at u w
  wrote_behind u v w l x = written_in call key u v w w l (stands_none call w) kind before after at x

  pub wrote_until : (v w t : PassState) → WritesAt call key kind before after at v w → Stands call w t → WritesAt call key kind before after at v t
  wrote_until v w t x s = written_in call key v v w t (learns_none call v) s kind before after at x

  -- a write behind a part that found the number before its own for the key, and one that learned nothing
  pub wrote_next : (u v w x : PassState) (found_at : ℕ) → at ≡ found_at + 1 → Learns call u v → SightedSince (key_number key) found_at u.findings v.findings → Stands call v w → Writes call key kind before after at w x → WritesAt call key kind before after at u x
  wrote_next u v w x found_at next l sighted s y = let written = writes_behind call key kind before after at v w x (stands_learns call v w s) y in record {
    found_at = found_at;
    next = next;
    sighted = sighted_until call (key_number key) found_at u v x written.sights sighted;
    writes = writes_behind call key kind before after at u v x l written;
  }
