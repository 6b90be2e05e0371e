-- The rooms that a pass claims while it holds a full chunk, over more than one part of a call.
use Rattle.std.proofs.Common.{◌≡◌, ℕ, ◌≤◌, List, ◌++◌, length, [], sym, ap, ◌∙◌, subst, arith, append_assoc, append-nil}
use Rattle.oak_model.specs.Counts.{Begins}
use Rattle.oak_model.specs.Limits.{Sizes}
use Rattle.oak_model.proofs.Lists.{begins_length, each_append, each_map}
use Rattle.oak_core.specs.declared.states.Finding.{Finding}
use Rattle.oak_core.specs.declared.states.PassState.{PassState}
use Rattle.oak_core.specs.RoomLacks.{ClaimedFull, ClaimsFull, HeldFull}
use Rattle.oak_core.proofs.calls.Lacked.{holds_longer}

-- a part of what was met shows it where a later part does
holds_since : (z : Sizes) (first behind to : ℕ) (met : List Finding) (r k : ℕ) → first ≤ behind → HeldFull z behind to met r k → HeldFull z first to met r k
holds_since z first behind to met r k le w = record {
  held = w.held;
  after = let a = w.after in omega arith;
  order = w.order;
  hold = w.hold;
  there = w.there;
  word_is = w.word_is;
  number = w.number;
  found_is = w.found_is;
  frozen = w.frozen;
  unpinned = w.unpinned;
  left_is = w.left_is;
  still = w.still;
  full = w.full;
}

claimed_longer : (z : Sizes) (behind place : ℕ) (met met' : List Finding) → Begins met met' → ClaimedFull z behind met place → ClaimedFull z behind met' place
claimed_longer z behind place met met' b c = (let l = begins_length met met' b in let p = c.0 in omega arith, c.1, c.2, subst (λ (l : List Finding). HeldFull z behind place l c.1 c.2) (sym b.1) (holds_longer z behind place met b.0 (let p = c.0 in omega arith) c.1 c.2 c.3))

claimed_since : (z : Sizes) (first behind place : ℕ) (met : List Finding) → first ≤ behind → ClaimedFull z behind met place → ClaimedFull z first met place
claimed_since z first behind place met le c = (c.0, c.1, c.2, holds_since z first behind place met c.1 c.2 le c.3)

-- a part that claimed no room
pub claims_none : (z : Sizes) (v w : PassState) → w.findings.rebalances.claims ≡ v.findings.rebalances.claims → ClaimsFull z v w
claims_none z v w e = record { more = []; claims = e ∙ sym (append-nil v.findings.rebalances.claims); full = tt }

-- one part behind another
pub claims_both : (z : Sizes) (u v w : PassState) → Begins u.findings.met v.findings.met → Begins v.findings.met w.findings.met → ClaimsFull z u v → ClaimsFull z v w → ClaimsFull z u w
claims_both z u v w p q a b = record {
  more = a.more ++ b.more;
  claims = b.claims ∙ (ap (λ (l : List ℕ). l ++ b.more) a.claims ∙ append_assoc u.findings.rebalances.claims a.more b.more);
  full = each_append (ClaimedFull z (length u.findings.met) w.findings.met) a.more b.more
      (each_map (ClaimedFull z (length u.findings.met) v.findings.met) (ClaimedFull z (length u.findings.met) w.findings.met) a.more (λ n c. claimed_longer z (length u.findings.met) n v.findings.met w.findings.met q c) a.full)
      (each_map (ClaimedFull z (length v.findings.met) w.findings.met) (ClaimedFull z (length u.findings.met) w.findings.met) b.more (λ n c. claimed_since z (length u.findings.met) (length v.findings.met) n w.findings.met (begins_length u.findings.met v.findings.met p) c) b.full);
}
