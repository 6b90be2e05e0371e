-- The keys that are swept while one chunk after the other is merged.
use Rattle.std.proofs.Common.{◌≡◌, ◌≢◌, ℕ, List, [], ◌∷◌, refl, sym, ap, ◌∙◌, subst, arith, Some, None}
use Rattle.std.specs.declared.cmp.Ordering.{Ordering}
use Rattle.std.specs.declared.cmp.Ordering.TheVariants.{Less, Equal, Greater}
use Rattle.oak_model.specs.Key.{IsKey, IsKeyBefore, key_cmp}
use Rattle.oak_model.proofs.Lists.{begins_trans}
use Rattle.oak_core.specs.declared.states.Knowledge.{Knowledge}
use Rattle.oak_core.specs.declared.states.Numbers.{Numbers}
use Rattle.oak_core.specs.declared.states.PassState.{PassState}
use Rattle.oak_core.specs.PassState.{HoldsNothing}
use Rattle.oak_core.proofs.calls.CallSteps.{begins_same, met_both, met_none}
use Rattle.rebalance.specs.Calls.{Leaves, SweepsKey}
use Rattle.rebalance.specs.Merging.{SweepsBelow, SweepsUpTo}
use Rattle.rebalance.proofs.LeastKey.{none_below}
use Rattle.rebalance.proofs.SweptKeys.{sweeps_since, sweeps_until}

-- nothing was done
pub leaves_none : (call : ℕ) (v : PassState) → Leaves call v v
leaves_none call v = record { met = met_none call v; numbers = refl; knowledge = refl; fulls = refl; swept = begins_same v.findings.swept v.findings.swept refl; sights = refl; gones = refl; blocks = refl; headers = refl; rooms = refl }

-- one part of a call, and another behind it
pub leaves_both : (call : ℕ) (u v w : PassState) → Leaves call u v → Leaves call v w → Leaves call u w
leaves_both call u v w a b = record {
  met = met_both call u v w a.met b.met;
  numbers = b.numbers ∙ a.numbers;
  knowledge = b.knowledge ∙ a.knowledge;
  fulls = b.fulls ∙ a.fulls;
  swept = begins_trans u.findings.swept v.findings.swept w.findings.swept a.swept b.swept;
  sights = b.sights ∙ a.sights;
  gones = b.gones ∙ a.gones;
  blocks = b.blocks ∙ a.blocks;
  headers = b.headers ∙ a.headers;
  rooms = b.rooms ∙ a.rooms;
}

-- a pass that held nothing holds nothing
pub idle_still : (call : ℕ) (v w : PassState) → HoldsNothing v → Leaves call v w → HoldsNothing w
idle_still call v w idle l = record { hand = ap (λ (n : Numbers). n.hand) l.numbers ∙ idle.hand; blocks = l.blocks ∙ idle.blocks; headers = l.headers ∙ idle.headers; rooms = l.rooms ∙ idle.rooms }

-- it wrote nothing
pub none_written : (call : ℕ) (v w : PassState) → Leaves call v w → w.knowledge.mine ≡ v.knowledge.mine
none_written call v w l = ap (λ (k : Knowledge). k.mine) l.knowledge

-- no key is below the least one
pub least_below : (key : List ℕ) (v : PassState) → key ≡ 0 ∷ [] → SweepsBelow key v v
least_below key v least k is before = absurd (none_below k is.0 (subst (IsKeyBefore k) least before))

pub least_is_key : (key : List ℕ) → key ≡ 0 ∷ [] → IsKey key
least_is_key key least = subst IsKey (sym least) (omega arith, omega arith)

-- the keys that were swept before are so still
pub below_still : (call : ℕ) (key : List ℕ) (u v w : PassState) → SweepsBelow key u v → Leaves call v w → SweepsBelow key u w
below_still call key u v w below l k is before = sweeps_until call k u v w (below k is before) l.swept l.met

either_order : (P : Type 0) (o : Ordering) → (o ≡ Less → P) → (o ≢ Less → P) → P
either_order P Less a b = a refl
either_order P Equal a b = b (λ e. cc)
either_order P Greater a b = b (λ e. cc)

-- so are those up to a high bound behind that, or all
module _ (call : ℕ) (key : List ℕ) (u v w : PassState) (below : SweepsBelow key u v) (first : Leaves call u v) (last : Leaves call v w) where
  pub below_high : (h : List ℕ) → SweepsUpTo key (Some h) v w → SweepsBelow h u w
  below_high h more k is before = either_order (SweepsKey k u w) (key_cmp k key) (λ less. below_still call key u v w below last k is less) (λ from. sweeps_since call k u v w first.swept first.met (more.swept k is from before))

  pub all_swept : SweepsUpTo key None v w → (k : List ℕ) → IsKey k → SweepsKey k u w
  all_swept more k is = either_order (SweepsKey k u w) (key_cmp k key) (λ less. below_still call key u v w below last k is less) (λ from. sweeps_since call k u v w first.swept first.met (more.swept k is from tt))
