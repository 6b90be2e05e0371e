-- How a call that puts goes on after a try without an answer, and how it gives up.
use Rattle.oak_core.specs.declared.states.Finding.{Finding}
use Rattle.oak_core.specs.CallSteps.{MetMore}
use Rattle.std.proofs.Common.{◌≤◌, length-append, ap, arith, ◌≡◌, ℕ, Bool, true, false, List, length, refl, sym, subst, Option, Some, None, IfSome, IfNone, ◌⊎◌, ⊎_elim, inl, inr}
use Rattle.oak_model.specs.declared.cells.CellCall.{CellCall}
use Rattle.oak_model.specs.declared.classes.Class.{Class}
use Rattle.oak_model.specs.declared.replies.Lack.{Lack}
use Rattle.oak_model.specs.declared.replies.Lack.TheVariants.{Block, Header, Room}
use Rattle.oak_model.specs.Cell.{state_after}
use Rattle.oak_model.specs.KeyNumber.{key_number}
use Rattle.oak_model.specs.Limits.{Sizes}
use Rattle.oak_model.specs.State.{State}
use Rattle.oak_core.specs.declared.states.PassState.{PassState}
use Rattle.oak_core.specs.CountReads.{SightedBare}
use Rattle.oak_core.specs.Lack.{Lacks, TookBut}
use Rattle.oak_core.specs.Noting.{Notes}
use Rattle.oak_core.specs.QuietSteps.{MetOnly}
use Rattle.oak_core.proofs.calls.CallSteps.{begins_same}
use Rattle.oak_core.proofs.known.KnownReads.{read_since, read_stays}
use Rattle.chunk_ops.specs.PinRecords.{OnlyMeets}
use Rattle.point_ops.specs.declared.halts.Halt.{Halt}
use Rattle.point_ops.specs.declared.halts.Halt.TheVariants.{Busy, Moved, NoHeader}
use Rattle.point_ops.specs.Needs.{Needs, NeedsNow}
use Rattle.point_ops.specs.Halting.{AllTaken, Halts}
use Rattle.point_ops.specs.Replies.{GoesOn, Refuses}
use Rattle.point_ops.proofs.Composed.{bare_in, sighted_in}
use Rattle.point_ops.proofs.PinnedCalls.{met_refuses}
use Rattle.rebalance.specs.Calls.{FindsNoRoom, Halves, Settles}
use Rattle.rebalance.proofs.SweptKeys.{sweeps_since, sweeps_until}
use Rattle.oak_map.specs.MakingRoom.{MakesWay}
use Rattle.oak_map.specs.Putting.{Going, LastTry}
use Rattle.oak_map.specs.Replying.{AnswersFull, ItsRoom, SpareOf, Tries}
use Rattle.oak_map.proofs.LackingCalls.{blocks_found, headers_found, lacks_since, met_any}
use Rattle.oak_map.proofs.Trying.{tries_both, tries_leaves, tries_none, tries_refused}

-- ---- it goes on

pub going_first : (z : Sizes) (call : ℕ) (v : PassState) → Going z call false v v
going_first z call v = record { tries = tries_none z call v; swept = λ q. absurd cc }

pub going_more : (z : Sizes) (call : ℕ) (settled : Bool) (u v w : PassState) → Going z call settled u v → Tries z call v w → Going z call settled u w
going_more z call settled u v w g t = record { tries = tries_both z call u v w g.tries t; swept = λ q k is. sweeps_until call k u v w (g.swept q k is) t.holds.swept t.goes.met }

going_settled : (z : Sizes) (call : ℕ) (before after : Bool) (u v w : PassState) → Going z call before u v → Settles z call v w → Going z call after u w
going_settled z call before after u v w g s = record {
  tries = tries_both z call u v w g.tries (tries_leaves z call v w s.leaves s.claims);
  swept = λ _ k is. sweeps_since call k u v w g.tries.holds.swept g.tries.goes.met (s.covered k is);
}

-- what only met more left all else
pub tries_only : (z : Sizes) (call : ℕ) (v w : PassState) → OnlyMeets call v w → Tries z call v w
tries_only z call v w o = tries_refused z call v w (met_refuses call v w o)

-- a split in two, behind which it only met more
pub tries_halves : (z : Sizes) (call room : ℕ) (key : List ℕ) (v x w : PassState) → Halves z call key room v x → OnlyMeets call x w → Tries z call v w
tries_halves z call room key v x w h o = tries_both z call v x w (tries_leaves z call v x h.leaves h.claims) (tries_only z call x w o)

-- one that waited made no room
pub waits_way : (z : Sizes) (call : ℕ) (key : List ℕ) (halt : Halt) (settled : Bool) (v : PassState) → (halt ≡ Busy) ⊎ (halt ≡ Moved) → MakesWay halt z call key settled settled None v v
waits_way z call key halt settled v e = ⊎_elim (λ (b : halt ≡ Busy). subst (λ (h : Halt). MakesWay h z call key settled settled None v v) (sym b) (record { none = refl; same = refl }, refl))
    (λ (m : halt ≡ Moved). subst (λ (h : Halt). MakesWay h z call key settled settled None v v) (sym m) (record { none = refl; same = refl }, refl)) e

-- behind the last try
pub going_tried : (z : Sizes) (call : ℕ) (key : List ℕ) (halt : Halt) (settled : Bool) (ask : CellCall) (u v w : PassState) → LastTry z call key halt settled ask u v w → Going z call settled u w
going_tried z call key halt settled ask u v w t = going_more z call settled u v w t.going (tries_refused z call v w t.refused)

-- the number of each call is that of the first
pub last_try : (z : Sizes) (first now last : ℕ) (key : List ℕ) (halt : Halt) (settled : Bool) (ask : CellCall) (u v w : PassState) → now ≡ first → last ≡ now → Going z first settled u v → Refuses now v w → Halts halt z now key ask v w → LastTry z last key halt settled ask u v w
last_try z first now last key halt settled ask u v w e f g r h = subst (λ (k : ℕ). LastTry z k key halt settled ask u v w) (sym f) (record { going = subst (λ (k : ℕ). Going z k settled u v) (sym e) g; refused = r; halts = h })

-- ---- it gives up

-- what it needed in a part it needs
module _ (call : ℕ) (key : List ℕ) (ask : CellCall) (u v w t : PassState) (a : GoesOn call u v) (b : GoesOn call w t) where
  needs_with : (at : ℕ) (lack : Lack) (s s' : State) → Needs lack key s s' (SightedBare call (key_number key) at v w) → Needs lack key s s' (SightedBare call (key_number key) at u t)
  needs_with at (Block c) s s' (inl n) = inl n
  needs_with at (Block c) s s' (inr n) = inr (n.0, n.1, n.2, bare_in call u v w t a.sights b.sights (key_number key) at n.3)
  needs_with at Header s s' n = n
  needs_with at Room s s' n = (n.0, n.1, bare_in call u v w t a.sights b.sights (key_number key) at n.2)

  needs_on : (lack : Lack) → NeedsNow call key ask lack v w → NeedsNow call key ask lack u t
  needs_on lack f = record {
    at = f.at;
    before = f.before;
    read = read_stays (key_number key) f.at f.before u w t b.seen b.remembers (read_since (key_number key) f.at f.before u v w a.seen f.read);
    sighted = sighted_in call u v w t a.sights b.sights (key_number key) f.at f.sighted;
    needs = needs_with f.at lack f.before (state_after f.before ask) f.needs;
  }

  spare_on : (lack : Lack) (spare : Option ℕ) → SpareOf lack spare call key ask v w → SpareOf lack spare call key ask u t
  spare_on (Block c) None n = tt
  spare_on (Block c) (Some i) n = (n.0, n.1, (n.2.0, bare_in call u v w t a.sights b.sights (key_number key) n.2.0 n.2.1))
  spare_on Header spare n = n
  spare_on Room spare n = n

-- what it lacks is shown by its last try, once it has settled

pub block_lacks : (z : Sizes) (call : ℕ) (c : Class) (spare : Option ℕ) (u v w : PassState) → Going z call true u v → Refuses call v w → AllTaken z call c spare v w → MetOnly (TookBut (Block c) spare) v w → Lacks z call (Block c) spare (length u.findings.met) (length w.findings.met) w.findings
block_lacks z call c spare u v w g r all only = lacks_since u v w z call (Block c) spare g.tries.goes.met (g.swept refl) r.learns.met (begins_same v.findings.swept w.findings.swept r.holds.swept) (blocks_found z call v w c spare all) only

pub header_lacks : (z : Sizes) (call : ℕ) (key : List ℕ) (ask : CellCall) (u v w : PassState) → LastTry z call key NoHeader true ask u v w → Lacks z call Header None (length u.findings.met) (length w.findings.met) w.findings
header_lacks z call key ask u v w t = lacks_since u v w z call Header None t.going.tries.goes.met (t.going.swept refl) t.refused.learns.met (begins_same v.findings.swept w.findings.swept t.refused.holds.swept) (headers_found z call v w t.halts.0) (met_any (TookBut Header None) call v w (λ f. tt) t.refused.learns.met)

-- or by the split behind it
pub room_lacks : (z : Sizes) (call : ℕ) (key : List ℕ) (halt : Halt) (ask : CellCall) (u v w x : PassState) → LastTry z call key halt true ask u v w → FindsNoRoom z call key w x → Lacks z call Room None (length u.findings.met) (length x.findings.met) x.findings
room_lacks z call key halt ask u v w x t n = let g = going_tried z call key halt true ask u v w t in let l = n.compacts.leaves in lacks_since u w x z call Room None g.tries.goes.met (g.swept refl) l.met l.swept (key_number key, n.lacks) (met_any (TookBut Room None) call w x (λ f. tt) l.met)

pub met_longer : (call : ℕ) (u w : PassState) → MetMore call u w → length u.findings.met ≤ length w.findings.met
met_longer call u w m = let n = length-append u.findings.met m.more in let e = ap (λ (l : List Finding). length l) m.met in omega arith

-- a refusal is one of either kind

some_where : (P : Lack → Type 0) (o : Option Lack) (b : Bool) (lack : Lack) → (b ≡ true → o ≡ Some lack) → (b ≡ false → o ≡ None) → (b ≡ true → P lack) → IfSome o P
some_where P o true lack f g h = subst (λ (x : Option Lack). IfSome x P) (sym (f refl)) (h refl)
some_where P o false lack f g h = subst (λ (x : Option Lack). IfSome x P) (sym (g refl)) tt

none_where : (Q : Type 0) (o : Option Lack) (b : Bool) (lack : Lack) → (b ≡ true → o ≡ Some lack) → (b ≡ false → Q) → IfNone o Q
none_where Q o true lack f h = subst (λ (x : Option Lack). IfNone x Q) (sym (f refl)) tt
none_where Q None false lack f h = h refl
none_where Q (Some x) false lack f h = tt

-- The call began at u and was refused from v to w; it did more until x, and there it settled, or was noted, until y.
module _ (z : Sizes) (call : ℕ) (key : List ℕ) (halt : Halt) (settled after : Bool) (ask : CellCall) (lack : Lack) (u v w x y : PassState) (o : Option Lack) (t : LastTry z call key halt settled ask u v w) (rest : Tries z call w x)
    (full : settled ≡ true → (o ≡ Some lack) × Notes z call lack x y) (again : settled ≡ false → (o ≡ None) × (after ≡ true) × Settles z call x y) where
  pub refused_full : (spare : Option ℕ) → SpareOf lack spare call key ask v w → NeedsNow call key ask lack v w → (settled ≡ true → Lacks z call lack spare (length u.findings.met) (length x.findings.met) x.findings) → ItsRoom lack z key u x → IfSome o (λ l. AnswersFull z call key ask l u y)
  refused_full spare spared needs lacks room = some_where (λ l. AnswersFull z call key ask l u y) o settled lack (λ q. (full q).0) (λ q. (again q).0) (λ q. record {
    last = x;
    tries = tries_both z call u w x (going_tried z call key halt settled ask u v w t).tries rest;
    needs = needs_on call key ask u v w x t.going.tries.goes rest.goes lack needs;
    spare = spare;
    spared = spare_on call key ask u v w x t.going.tries.goes rest.goes lack spare spared;
    lacks = lacks q;
    its_room = room;
    notes = (full q).1;
  })

  pub refused_going : IfNone o (Going z call after u y)
  refused_going = none_where (Going z call after u y) o settled lack (λ q. (full q).0) (λ q. going_settled z call settled after u x y (going_more z call settled u w x (going_tried z call key halt settled ask u v w t) rest) (again q).2)
