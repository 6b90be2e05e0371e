-- Calls that put and stop trying, since other passes are at work.
use Rattle.std.proofs.Common.{◌≡◌, ℕ, ◌+◌, ◌≤◌, Bool, List, inl, inr, ⊎_elim, subst, arith, Result, Ok, Err, IfOk, IfErr}
use Rattle.oak_model.specs.declared.cells.CellCall.{CellCall}
use Rattle.oak_model.specs.declared.replies.Lack.{Lack}
use Rattle.oak_model.specs.declared.replies.Lack.TheVariants.{Block, Header, Room}
use Rattle.oak_model.specs.Limits.{Sizes}
use Rattle.oak_core.specs.declared.states.PassState.{PassState}
use Rattle.oak_core.specs.AloneWords.{Runs, RunsTo}
use Rattle.oak_core.specs.PassState.{IsAlone}
use Rattle.oak_core.proofs.seats.AloneRuns.{runs_as}
use Rattle.oak_core.proofs.covers.FullClaims.{claims_none}
use Rattle.chunk_ops.specs.AddsAlone.{Never}
use Rattle.point_ops.specs.declared.halts.Halt.{Halt}
use Rattle.point_ops.specs.Halting.{Halts}
use Rattle.point_ops.specs.LonePuts.{LoneHalts}
use Rattle.point_ops.specs.Replies.{Refuses}
use Rattle.rebalance.specs.Busy.{GivesUpSettling}
use Rattle.rebalance.specs.LoneCalls.{Divided, RewritesRoom}
use Rattle.rebalance.specs.Repeating.{Repeats}
use Rattle.oak_map.specs.LoneRetrying.{LoneGoing, Retries}
use Rattle.oak_map.specs.MakingRoom.{FindsBusy, IsLacking}
use Rattle.oak_map.specs.Putting.{Going}
use Rattle.oak_map.specs.Stopping.{IsHindered, RefusedTry, StopsTrying, TriesOn}
use Rattle.oak_map.proofs.LoneRetries.{never_refused}
use Rattle.oak_map.proofs.LoneTries.{HasTried, never_four}
use Rattle.oak_map.proofs.Trying.{tries_both, tries_leaves, tries_refused}
use Rattle.oak_map.proofs.WaysMade.{busy_tries, lacking_tries}

-- what never comes to a pass that is alone never comes behind other steps of it
pub never_behind : (P : List ℕ → List ℕ → Type 0) (u v w : PassState) → Runs P u v → Runs Never v w → Runs Never u w
never_behind P u v w r n = record {
  goes = λ a l. let t = r.goes a l in absurd (never_refused v w n (inr (t.after, t.leaves)));
  starts = λ alone. absurd (⊎_elim
      (λ (s : (u ≡ v) × ((words : List ℕ) → P words words)). never_refused v w n (inl (subst IsAlone s.0 alone)))
      (λ (s : (a : List ℕ) × RunsTo P a v). never_refused v w n (inr (s.1.after, s.1.leaves)))
      (r.starts alone));
}

-- what an answer says
pub ok_as : {A E : Type 0} (P Q : A → Type 0) → ((a : A) → P a → Q a) → (r : Result A E) → IfOk r P → IfOk r Q
ok_as P Q f (Ok a) h = f a h
ok_as P Q f (Err e) h = h

pub err_as : {A E : Type 0} (P Q : Type 0) → (P → Q) → (r : Result A E) → IfErr r (λ _. P) → IfErr r (λ _. Q)
err_as P Q f (Ok a) h = h
err_as P Q f (Err e) h = f h

-- ---- why it stops

-- the chunk that was to be split was busy
pub hindered_split : (z : Sizes) (call looks : ℕ) (key : List ℕ) (halt : Halt) (w x : PassState) → FindsBusy halt z call looks key w x → IsHindered z call looks key w x
hindered_split z call looks key halt w x f = record { tries = busy_tries z call key halt w x looks f; why = inl f.1.busy; alone = f.1.alone }

lacking_never : (z : Sizes) (call : ℕ) (key : List ℕ) (halt : Halt) (lack : Lack) (w x y : PassState) → IsLacking lack halt z call key w x → Runs Never x y → Runs Never w y
lacking_never z call key halt (Block c) w x y (e, f) n = subst (λ (s : PassState). Runs Never s y) f n
lacking_never z call key halt Header w x y (e, f) n = subst (λ (s : PassState). Runs Never s y) f n
lacking_never z call key halt Room w x y (e, f) n = never_behind (Divided z (RewritesRoom z f.compacts.room f.compacts.held f.compacts.opened)) w x y f.compacts.alone n

-- one that was to be settled was
pub hindered_settling : (z : Sizes) (call looks : ℕ) (key : List ℕ) (halt : Halt) (lack : Lack) (w x y : PassState) → IsLacking lack halt z call key w x → GivesUpSettling z call looks x y → IsHindered z call looks key w y
hindered_settling z call looks key halt lack w x y is g = let t = lacking_tries z call key halt w x lack is in record {
  tries = tries_both z call w x y t (tries_leaves z call x y g.leaves (claims_none z x y g.unclaimed));
  why = inr (x, t, g);
  alone = lacking_never z call key halt lack w x y is g.alone;
}

-- a try of a call is one of the same call, which asks the same
pub refused_as : (z : Sizes) (now call : ℕ) (key : List ℕ) (told ask : CellCall) (halt : Halt) (v w : PassState) → now ≡ call → told ≡ ask → Refuses now v w → Halts halt z now key told v w → RefusedTry z call key ask v w
refused_as z now call key told ask halt v w e f r h = subst (λ (k : ℕ). RefusedTry z k key ask v w) e (subst (λ (a : CellCall). RefusedTry z now key a v w) f (record { halt = halt; refused = r; halts = h }))

-- ---- it stops

-- the call began at u, and its last try is from v to w
module _ (z : Sizes) (call looks : ℕ) (key value : List ℕ) (ask : CellCall) (settled : Bool) (u v : PassState) (going : Going z call settled u v) where
  pub stops_hindered : (w x : PassState) (halt : Halt) → LoneGoing z key ask settled u v → RefusedTry z call key ask v w → Runs (LoneHalts halt z key value) v w → IsHindered z call looks key w x → StopsTrying z call looks key ask u x
  stops_hindered w x halt lone r halts h = record {
    tries = tries_both z call u w x (tries_both z call u v w going.tries (tries_refused z call v w r.refused)) h.tries;
    why = inr (v, w, going.tries, r, h);
    alone = never_behind (Retries z key ask settled u) u v x lone.runs (never_behind (LoneHalts halt z key value) v w x halts h.alone);
  }

  pub stops_tried : (n : ℕ) → looks + 4 ≤ n → Repeats (TriesOn z call key ask) u n v → Runs (HasTried z key n settled) u v → StopsTrying z call looks key ask u v
  stops_tried n all tried lone = record {
    tries = going.tries;
    why = inl (n, (omega arith), tried);
    alone = runs_as (HasTried z key n settled) Never u v (λ a b t. never_four z key n settled a b (omega arith) t) lone;
  }
