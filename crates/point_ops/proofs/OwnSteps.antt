-- What the steps of a part of a call took, and that they left the counts and the key words of rooms.
use Rattle.std.proofs.Common.{◌≡◌, ◌≢◌, ℕ, ◌<◌, Option, Some, None, sym, ap, ◌∙◌, subst, ⊎_elim, arith}
use Rattle.oak_model.specs.declared.classes.Class.{Class}
use Rattle.oak_model.specs.declared.replies.Lack.TheVariants.{Block}
use Rattle.oak_model.specs.Limits.{Sizes}
use Rattle.oak_model.proofs.MemberLaws.{each_has, each_in}
use Rattle.chunk_core.specs.Rooms.{RoomSpot, at_count, at_key}
use Rattle.oak_core.specs.declared.states.Finding.{Finding}
use Rattle.oak_core.specs.declared.states.PassState.{PassState}
use Rattle.oak_core.specs.declared.states.Taken.{Taken}
use Rattle.oak_core.specs.Finding.{IsBefore, IsOf}
use Rattle.oak_core.specs.Lack.{TookBut}
use Rattle.oak_core.specs.Memory.{in_rooms, index, rooms_at}
use Rattle.oak_core.specs.QuietSteps.{CountsByOne, IsQuiet, MetOnly, Quiet, StoredNone, TookNone}
use Rattle.oak_core.proofs.calls.QuietCalls.{only_both, only_map, quiet_took}
use Rattle.oak_core.proofs.memory.Words.{rooms_from}
use Rattle.arena_ops.specs.Taking.{Takes, TookThis}
use Rattle.chunk_ops.specs.Adds.{LeavesCount}
use Rattle.point_ops.specs.Inserts.{TakesOnly}

none_taken : (o : Option Taken) (t : Taken) → o ≡ None → o ≡ Some t → ⊥
none_taken o t n e = let k : None ≡ Some t = sym n ∙ e in absurd cc

-- ---- what was taken

module _ (v w : PassState) where
  -- a block that was taken is the only one
  pub taken_only : (z : Sizes) (call : ℕ) (c : Class) (b : ℕ) → Takes z call c b v w → MetOnly (TakesOnly z c b) v w
  taken_only z call c b t = record {
    more = t.more;
    met = ap (λ (y : PassState). y.findings.met) t.after;
    each = each_in (IsBefore z call) (TakesOnly z c b) t.more (λ f has is. (is.1, each_has (TookThis c b) t.more f t.own has)) t.calls;
  }

  -- where none was taken none but this was
  pub front_only : (z : Sizes) (call : ℕ) (c : Class) (b : ℕ) → MetOnly (IsOf z call) v w → MetOnly (TakesOnly z c b) v w
  front_only z call c b m = only_map (IsOf z call) (TakesOnly z c b) v w (λ f is. (is.1, λ t e. absurd (none_taken f.took t is.2 e))) m

  pub front_none : (z : Sizes) (call : ℕ) → MetOnly (IsOf z call) v w → MetOnly TookNone v w
  front_none z call m = only_map (IsOf z call) TookNone v w (λ f is. is.2) m

  -- and of a class none but the spare one
  pub none_but : (c : Class) (spare : Option ℕ) → MetOnly TookNone v w → MetOnly (TookBut (Block c) spare) v w
  none_but c spare m = only_map TookNone (TookBut (Block c) spare) v w (λ f n t e _. absurd (none_taken f.took t n e)) m

  pub quiet_but : (c : Class) (spare : Option ℕ) → Quiet v w → MetOnly (TookBut (Block c) spare) v w
  quiet_but c spare q = none_but c spare (quiet_took v w q)

  -- so it is where the one that was taken is of another class, or the spare one
  pub only_but : (z : Sizes) (d : Class) (b : ℕ) (c : Class) (spare : Option ℕ) → (d ≡ c → spare ≡ Some b) → MetOnly (TakesOnly z d b) v w → MetOnly (TookBut (Block c) spare) v w
  only_but z d b c spare is m = only_map (TakesOnly z d b) (TookBut (Block c) spare) v w (λ f k t e same. let this = k.1 t e in is (sym (ap (λ (x : Taken). x.class) this) ∙ same) ∙ ap (λ (x : Taken). Some x.block) (sym this)) m

-- ---- what was left of rooms

found_stored : {A : Type 0} (o : Option A) (n : A) → o ≡ Some n → o ≢ None
found_stored o n e f = let k : Some n ≡ None = sym e ∙ f in absurd cc

-- a quiet step stores nothing
quiet_step : (word : ℕ) (f : Finding) → IsQuiet f → StoredNone word f
quiet_step word f is at = ⊎_elim (λ (e : f.found ≡ Some f.left). found_stored f.found f.left e) (λ (e : (n : ℕ) × (f.found ≡ Some n) × CountsByOne n f.left). found_stored f.found e.0 e.1) is.1

-- nor does one in front of the rooms to a word of theirs
front_step : (z : Sizes) (p : RoomSpot) (f : Finding) → f.word < rooms_at z → StoredNone (index z (in_rooms p)) f
front_step z p f lt at = let le = rooms_from z p in let k : f.word ≡ index z (in_rooms p) = at in absurd (omega arith)

module _ (z : Sizes) (r : ℕ) (v w : PassState) where
  pub quiet_leaves : Quiet v w → MetOnly (LeavesCount z r) v w
  quiet_leaves q = only_map IsQuiet (LeavesCount z r) v w (λ f is. record { count = quiet_step (index z (in_rooms (at_count r))) f is; keys = λ i. quiet_step (index z (in_rooms (at_key r i))) f is }) q

  before_leaves : (P : Finding → Type 0) → ((f : Finding) → P f → f.word < rooms_at z) → MetOnly P v w → MetOnly (LeavesCount z r) v w
  before_leaves P front m = only_map P (LeavesCount z r) v w (λ f is. record { count = front_step z (at_count r) f (front f is); keys = λ i. front_step z (at_key r i) f (front f is) }) m

  pub front_leaves : (call : ℕ) → MetOnly (IsOf z call) v w → MetOnly (LeavesCount z r) v w
  front_leaves call m = before_leaves (IsOf z call) (λ f is. is.1) m

  pub only_leaves : (c : Class) (b : ℕ) → MetOnly (TakesOnly z c b) v w → MetOnly (LeavesCount z r) v w
  only_leaves c b m = before_leaves (TakesOnly z c b) (λ f is. is.0) m

-- ---- of the part in the middle of three

module _ (P : Finding → Type 0) (u v w t : PassState) where
  pub only_in : MetOnly P u v → MetOnly P v w → MetOnly P w t → MetOnly P u t
  only_in a m b = only_both P u v t a (only_both P v w t m b)

-- a part that is named the call anew
pub front_at : (z : Sizes) (call at : ℕ) (v w : PassState) → at ≡ call → MetOnly (IsOf z at) v w → MetOnly (IsOf z call) v w
front_at z call at v w same m = subst (λ (k : ℕ). MetOnly (IsOf z k) v w) same m
