-- One event more behind a schedule.
use Rattle.std.proofs.Common.{ℕ, ◌<◌, List, [], ◌∷◌, ◌++◌, refl, subst}
use Rattle.oak_model.specs.Limits.{Sizes}
use Rattle.header_core.specs.declared.states.TheConstants.{LAST_GENERATION}
use Rattle.oak_core.specs.Running.{IsReached}
use Rattle.oak_core.specs.Schedule.{Event, Goes, IsSchedule, opening}
use Rattle.oak_core.specs.TableState.{TableState}

schedule_more : (z : Sizes) (e : Event) (es : List Event) (s t u : TableState) → IsSchedule z s es t → Goes z e t u → IsSchedule z s (es ++ e ∷ []) u
schedule_more z e [] s t u is g = (u, subst (λ (r : TableState). Goes z e r u) is g, refl)
schedule_more z e (d ∷ ds) s t u is g = (is.0, is.1, schedule_more z e ds is.0 t u is.2 g)

pub reached_more : (z : Sizes) (g : ℕ) (e : Event) (s t : TableState) → IsReached z g s → Goes z e s t → IsReached z g t
reached_more z g e s t r goes = record { early = r.early; events = r.events ++ e ∷ []; schedule = schedule_more z e r.events (opening z g) s t r.schedule goes }

pub reached_first : (z : Sizes) (g : ℕ) → g < LAST_GENERATION → IsReached z g (opening z g)
reached_first z g early = record { early = early; events = []; schedule = refl }
