-- What a call that makes steps on rooms may leave as it is beside them: v is the state of its pass at the call, w the one at its end.
use Rattle.std.specs.Prelude.{◌≡◌, ℕ, None, refl}
use Rattle.std.proofs.Common.{ap, ◌∙◌, subst}
use Rattle.oak_core.specs.declared.states.PassState.{PassState}
use Rattle.oak_core.specs.declared.states.Rebalanced.{Rebalanced}
use Rattle.oak_core.specs.AloneWords.{Runs}
use Rattle.oak_core.specs.CallSteps.{MetMore, Stands}
use Rattle.oak_core.proofs.calls.CallSteps.{met_both, met_none}
use Rattle.oak_model.specs.Limits.{Sizes}
use Rattle.chunk_ops.specs.PinRecords.{OnlyMeets, WordsStay, with_room_pin}
use Rattle.chunk_ops.specs.RoomPins.{DropsRoomPin, HadMoment}
use Rattle.chunk_ops.proofs.MeetingCalls.{both_stay}

-- the call met more, and learned and wrote nothing; it may have tried and made steps of a rebalance
pub record Tries (call : ℕ) (v w : PassState) : Type 0 where
  pub met : MetMore call v w
  pub numbers : w.numbers ≡ v.numbers
  pub knowledge : w.knowledge ≡ v.knowledge
  pub fulls : w.findings.fulls ≡ v.findings.fulls
  pub swept : w.findings.swept ≡ v.findings.swept
  pub sights : w.findings.sights ≡ v.findings.sights
  pub gones : w.findings.gones ≡ v.findings.gones

-- and the pass holds what it held. To a pass that is alone the words of the table stay.
pub record OnlyTries (call : ℕ) (v w : PassState) : Type 0 where
  pub stands : Tries call v w
  pub blocks : w.blocks ≡ v.blocks
  pub headers : w.headers ≡ v.headers
  pub rooms : w.rooms ≡ v.rooms
  pub still : Runs WordsStay v w

-- so it is where it claimed no room, nor tried to
pub record Rests (call : ℕ) (v w : PassState) : Type 0 where
  pub met : MetMore call v w
  pub numbers : w.numbers ≡ v.numbers
  pub knowledge : w.knowledge ≡ v.knowledge
  pub fulls : w.findings.fulls ≡ v.findings.fulls
  pub swept : w.findings.swept ≡ v.findings.swept
  pub sights : w.findings.sights ≡ v.findings.sights
  pub gones : w.findings.gones ≡ v.findings.gones
  pub claims : w.findings.rebalances.claims ≡ v.findings.rebalances.claims

-- and the pass holds what it held. To a pass that is alone the words of the table stay.
pub record OnlyRests (call : ℕ) (v w : PassState) : Type 0 where
  pub stands : Rests call v w
  pub blocks : w.blocks ≡ v.blocks
  pub headers : w.headers ≡ v.headers
  pub rooms : w.rooms ≡ v.rooms
  pub still : Runs WordsStay v w

-- the pin of a room is gone, and the pass only met more else
pub record RestsUnpinned (z : Sizes) (call r : ℕ) (v w : PassState) : Type 0 where
  pub stands : Rests call v w
  pub blocks : w.blocks ≡ v.blocks
  pub headers : w.headers ≡ v.headers
  pub rooms : w.rooms ≡ with_room_pin None v.rooms
  pub ended : HadMoment z w
  -- to a pass that is alone
  pub still : Runs (DropsRoomPin z r) v w

-- ---- what a call leaves that makes no step of a rebalance, and parts of a call together

pub rests_of : (call : ℕ) (v w : PassState) → Stands call v w → Rests call v w
rests_of call v w s = record { met = s.met; numbers = s.numbers; knowledge = s.knowledge; fulls = s.fulls; swept = s.swept; sights = s.sights; gones = s.gones; claims = ap (λ (r : Rebalanced). r.claims) s.rebalances }

pub rests_none : (call : ℕ) (v : PassState) → Rests call v v
rests_none call v = record { met = met_none call v; numbers = refl; knowledge = refl; fulls = refl; swept = refl; sights = refl; gones = refl; claims = refl }

pub rests_both : (call : ℕ) (u v w : PassState) → Rests call u v → Rests call v w → Rests call u w
rests_both call u v w a b = record {
  met = met_both call u v w a.met b.met;
  numbers = b.numbers ∙ a.numbers;
  knowledge = b.knowledge ∙ a.knowledge;
  fulls = b.fulls ∙ a.fulls;
  swept = b.swept ∙ a.swept;
  sights = b.sights ∙ a.sights;
  gones = b.gones ∙ a.gones;
  claims = b.claims ∙ a.claims;
}

pub only_rests : (call : ℕ) (v w : PassState) → OnlyMeets call v w → OnlyRests call v w
only_rests call v w o = record { stands = rests_of call v w o.stands; blocks = o.blocks; headers = o.headers; rooms = o.rooms; still = o.still }

pub resting_both : (call : ℕ) (u v w : PassState) → OnlyRests call u v → OnlyRests call v w → OnlyRests call u w
resting_both call u v w a b = record {
  stands = rests_both call u v w a.stands b.stands;
  blocks = b.blocks ∙ a.blocks;
  headers = b.headers ∙ a.headers;
  rooms = b.rooms ∙ a.rooms;
  still = both_stay u v w a.still b.still;
}

-- ---- parts of a call that may claim rooms

pub tries_of : (call : ℕ) (v w : PassState) → Rests call v w → Tries call v w
tries_of call v w s = record { met = s.met; numbers = s.numbers; knowledge = s.knowledge; fulls = s.fulls; swept = s.swept; sights = s.sights; gones = s.gones }

pub tries_both : (call : ℕ) (u v w : PassState) → Tries call u v → Tries call v w → Tries call u w
tries_both call u v w a b = record {
  met = met_both call u v w a.met b.met;
  numbers = b.numbers ∙ a.numbers;
  knowledge = b.knowledge ∙ a.knowledge;
  fulls = b.fulls ∙ a.fulls;
  swept = b.swept ∙ a.swept;
  sights = b.sights ∙ a.sights;
  gones = b.gones ∙ a.gones;
}

pub only_tries : (call : ℕ) (v w : PassState) → OnlyRests call v w → OnlyTries call v w
only_tries call v w o = record { stands = tries_of call v w o.stands; blocks = o.blocks; headers = o.headers; rooms = o.rooms; still = o.still }

pub trying_both : (call : ℕ) (u v w : PassState) → OnlyTries call u v → OnlyTries call v w → OnlyTries call u w
trying_both call u v w a b = record {
  stands = tries_both call u v w a.stands b.stands;
  blocks = b.blocks ∙ a.blocks;
  headers = b.headers ∙ a.headers;
  rooms = b.rooms ∙ a.rooms;
  still = both_stay u v w a.still b.still;
}

pub trying_in : (first now : ℕ) (v w : PassState) → now ≡ first → OnlyTries now v w → OnlyTries first v w
trying_in first now v w e o = subst (λ (k : ℕ). OnlyTries k v w) e o
