-- The rooms that a pass claims, or tries to claim, while it looks for a free one that is not this one.
use Rattle.std.proofs.Common.{◌≢◌, ℕ, ◌<◌, ◌≤◌, List, [], ◌∷◌, ◌++◌, length, sym, refl, ap, ◌∙◌, arith, length-append, append_assoc, append-nil}
use Rattle.oak_model.specs.Limits.{Sizes}
use Rattle.oak_model.proofs.Lists.{each_append, each_map}
use Rattle.chunk_core.specs.Rooms.{at_room_pin}
use Rattle.oak_core.specs.declared.states.Finding.{Finding}
use Rattle.oak_core.specs.declared.states.PassState.{PassState}
use Rattle.oak_core.specs.Memory.{in_rooms, index}
use Rattle.oak_core.specs.QuietSteps.{MetOnly}
use Rattle.oak_core.specs.RoomCalls.{ClaimsRoom}
use Rattle.oak_core.specs.Step.{load, Told}
use Rattle.oak_core.proofs.calls.QuietCalls.{only_both}
use Rattle.oak_core.proofs.memory.RoomNames.{one_room}
use Rattle.rebalance.specs.Holding.{ClaimsOthers, IsAtAnother}

-- what was met is no less
pub only_longer : (P : Finding → Type 0) (v w : PassState) → MetOnly P v w → length v.findings.met ≤ length w.findings.met
only_longer P v w m = let e = ap length m.met in let l = length-append v.findings.met m.more in omega arith

-- a step at the pin word of another room is none at that of this one
pub another_away : (z : Sizes) (but : ℕ) (f : Finding) → but < z.chunks → IsAtAnother z but f → f.word ≢ index z (in_rooms (at_room_pin but))
another_away z but f inside o e = o.2 (one_room z o.0 but f.word (record { inside = o.1; word_is = o.3 }) (record { inside = inside; word_is = e }))

-- one part behind another
pub others_both : (z : Sizes) (but : ℕ) (u v w : PassState) → ClaimsOthers z but u v → ClaimsOthers z but v w → ClaimsOthers z but u w
others_both z but u v w a b = let first = only_longer (IsAtAnother z but) u v a.met in let second = only_longer (IsAtAnother z but) v w b.met in record {
  met = only_both (IsAtAnother z but) u v w a.met b.met;
  more = a.more ++ b.more;
  claims = b.claims ∙ (ap (λ (l : List ℕ). l ++ b.more) a.claims ∙ append_assoc u.findings.rebalances.claims a.more b.more);
  places = each_append (λ (n : ℕ). (length u.findings.met ≤ n) × (n < length w.findings.met)) a.more b.more
      (each_map (λ (n : ℕ). (length u.findings.met ≤ n) × (n < length v.findings.met)) (λ (n : ℕ). (length u.findings.met ≤ n) × (n < length w.findings.met)) a.more (λ n p. (p.0, let q = p.1 in omega arith)) a.places)
      (each_map (λ (n : ℕ). (length v.findings.met ≤ n) × (n < length w.findings.met)) (λ (n : ℕ). (length u.findings.met ≤ n) × (n < length w.findings.met)) b.more (λ n p. (let q = p.0 in omega arith, p.1)) b.places);
}

-- the load of the pin word of another room
pub load_others : (z : Sizes) (call r n : ℕ) (v w : PassState) → Told z call (load (in_rooms (at_room_pin r))) v n w → r < z.chunks → (but : ℕ) → r ≢ but → ClaimsOthers z but v w
load_others z call r n v w t inside but ne = record {
  met = record { more = _ ∷ []; met = ap (λ (y : PassState). y.findings.met) t.after; each = ((r, inside, ne, refl), tt) };
  more = [];
  claims = ap (λ (y : PassState). y.findings.rebalances.claims) t.after ∙ sym (append-nil v.findings.rebalances.claims);
  places = tt;
}

-- the claim of another room, done or tried in vain
pub claim_others : (z : Sizes) (call r old n : ℕ) (v w : PassState) → ClaimsRoom z call r old v n w → r < z.chunks → (but : ℕ) → r ≢ but → ClaimsOthers z but v w
claim_others z call r old n v w t inside but ne = let met = ap (λ (y : PassState). y.findings.met) t.after in let e = ap length met ∙ length-append v.findings.met (_ ∷ []) in record {
  met = record { more = _ ∷ []; met = met; each = ((r, inside, ne, refl), tt) };
  more = length v.findings.met ∷ [];
  claims = ap (λ (y : PassState). y.findings.rebalances.claims) t.after;
  places = ((omega arith, omega arith), tt);
}
