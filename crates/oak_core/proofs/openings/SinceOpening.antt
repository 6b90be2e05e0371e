-- Until the first removal each header is at the generation of the opening.
use Rattle.std.proofs.Common.{◌≡◌, ◌≢◌, ℕ, ◌<◌, List, [], ◌∷◌, sym, ap, ◌∙◌, subst, arith}
use mathlib.Core.Logic.{dite}
use mathlib.Core.Option.{some, some-injective}
use native.Mathlib.Decide.{ℕ_discrete}
use lib.ListN.{get_elem?}
use Rattle.pin_word.specs.PinWord.{state_of, generation_of}
use Rattle.oak_model.specs.Counts.{total}
use Rattle.oak_model.specs.Limits.{Sizes, IsInLimits}
use Rattle.header_core.specs.declared.states.TheConstants.{DEAD, LAST_GENERATION}
use Rattle.oak_model.proofs.Counting.{total_zero}
use Rattle.oak_core.specs.declared.closing.Closed.{Closed}
use Rattle.oak_core.specs.declared.states.PassState.{PassState}
use Rattle.oak_core.specs.Bounds.{UntilRemoved}
use Rattle.oak_core.specs.Callers.{made_of, removes}
use Rattle.oak_core.specs.Closing.{EndsFrom, closed_key, closed_state, closed_words}
use Rattle.oak_core.specs.Memory.{memory}
use Rattle.oak_core.specs.PassState.{spent_state}
use Rattle.oak_core.specs.Rule.{Rule}
use Rattle.oak_core.specs.Running.{IsReached}
use Rattle.oak_core.specs.Schedule.{Event, steps, splits, joins, Goes, IsSchedule, opening}
use Rattle.oak_core.specs.TableState.{TableState}
use Rattle.oak_core.proofs.kinds.EachEvent.{event_keeps}
use Rattle.oak_core.proofs.openings.GenerationsStay.{generations_stay}
use Rattle.oak_core.proofs.histories.MadeMore.{made_more, made_split, made_join}
use Rattle.oak_core.proofs.openings.Opening.{opened, opening_rule}
use Rattle.oak_core.proofs.openings.OpeningKeys.{free_header}

abbrev IsAt : Sizes → ℕ → TableState → Type 0
IsAt z g s = UntilRemoved z g (memory z s.words) s.states

-- from the generations, where no removal goes, and no header is dead behind
still_at : (z : Sizes) (g : ℕ) (s t : TableState) → Rule z t → (total (made_of removes) t.states ≡ 0 → total (made_of removes) s.states ≡ 0)
    → (((j : ℕ) → j < z.headers → state_of ((memory z s.words).headers.pin j) ≢ DEAD) → (h : ℕ) → generation_of ((memory z t.words).headers.pin h) ≡ generation_of ((memory z s.words).headers.pin h)) → IsAt z g s → IsAt z g t
still_at z g s t r fewer same is none h inside = let was = is (fewer none) in ((r.opened.until none h inside).0, same (λ j lt. (was j lt).0) h ∙ (was h inside).1)

event_at : (z : Sizes) (g : ℕ) (e : Event) (s t : TableState) → Goes z e s t → Rule z s → IsAt z g s → IsAt z g t
event_at z g (steps seat call x) s t goes r is = still_at z g s t (event_keeps z (steps seat call x) s t goes r)
    (λ none. let more = made_more z call s goes.state removes x seat goes.here in let q = ap (λ (u : TableState). total (made_of removes) u.states) goes.after in omega arith)
    (λ alive h. ap (λ (u : TableState). generation_of ((memory z u.words).headers.pin h)) goes.after ∙ generations_stay z s seat goes.state r goes.here call goes.going x goes.may alive h) is
event_at z g (splits seat) s t goes r is = still_at z g s t (event_keeps z (splits seat) s t goes r)
    (λ none. let same = made_split s.states seat goes.state removes goes.here in let q = ap (λ (u : TableState). total (made_of removes) u.states) goes.after in omega arith)
    (λ _ h. ap (λ (u : TableState). generation_of ((memory z u.words).headers.pin h)) goes.after) is
event_at z g (joins seat other) s t goes r is = still_at z g s t (event_keeps z (joins seat other) s t goes r)
    (λ none. let same = made_join s.states seat other goes.state goes.taken removes goes.here goes.there goes.apart in let q = ap (λ (u : TableState). total (made_of removes) u.states) goes.after in omega arith)
    (λ _ h. ap (λ (u : TableState). generation_of ((memory z u.words).headers.pin h)) goes.after) is

events_at : (z : Sizes) (g : ℕ) (es : List Event) (s t : TableState) → IsSchedule z s es t → Rule z s → IsAt z g s → IsAt z g t
events_at z g [] s t run r is = subst (IsAt z g) (sym run) is
events_at z g (e ∷ es) s t run r is = events_at z g es run.0 t run.2 (event_keeps z e s run.0 run.1 r) (event_at z g e s run.0 run.1 r is)

pub at_opening : (z : Sizes) → IsInLimits z → (g : ℕ) → g < LAST_GENERATION → (es : List Event) (s : TableState) → IsSchedule z (opening z g) es s → UntilRemoved z g (memory z s.words) s.states
at_opening z is g early es s run = events_at z g es (opening z g) s run (opening_rule z g is early) first
  where
    first : IsAt z g (opening z g)
    first none h inside = let f = free_header z g (opening z g).words is.chunks_least early (opened z g is.chunks_least) h inside in ((λ dead. absurd (omega arith)), f.1)

-- so it is at the end, where every other pass is spent
at_end : (z : Sizes) → IsInLimits z → (g : ℕ) → (s : TableState) → IsReached z g s → (seat : ℕ) (v : PassState) → get_elem? s.states seat ≡ some v → ((j : ℕ) (u : PassState) → j ≢ seat → get_elem? s.states j ≡ some u → u ≡ spent_state) → UntilRemoved z g (memory z s.words) (v ∷ [])
unfolding total
at_end z is g s run seat v here others none = at_opening z is g run.early run.events s run.schedule (total_zero (made_of removes) s.states each)
  where
    each : (j : ℕ) (u : PassState) → get_elem? s.states j ≡ some u → made_of removes u ≡ 0
    each j u at = dite (ℕ_discrete j seat)
        (λ e. let same : v ≡ u = some-injective v u (sym here ∙ (sym (ap (get_elem? s.states) e) ∙ at)) in let q = ap (made_of removes) same in omega arith)
        (λ ne. ap (made_of removes) (others j u ne at))

-- both of what stands behind the end: the words and the pass of the last moment
module _ (z : Sizes) (g : ℕ) (s : TableState) (run : IsReached z g s) (seat : ℕ) (v : PassState) (here : get_elem? s.states seat ≡ some v) where
  pub ends_from : (c : Closed) → closed_key c ≡ z → s.words ≡ closed_words c → v ≡ closed_state c → EndsFrom g c
  ends_from c key words state = record { states = s.states; seat = seat; here = here ∙ ap some state; reached = subst (λ (t : Sizes × List ℕ). IsReached t.0 g record { words = t.1; states = s.states }) (λ i. (sym key i, words i)) run }

  pub is_unworn : (k : Sizes) (ws : List ℕ) (u : PassState) → k ≡ z → s.words ≡ ws → v ≡ u → IsInLimits z → ((j : ℕ) (x : PassState) → j ≢ seat → get_elem? s.states j ≡ some x → x ≡ spent_state) → UntilRemoved k g (memory k ws) (u ∷ [])
  is_unworn k ws u key words state is others = subst (λ (t : Sizes × List ℕ × PassState). UntilRemoved t.0 g (memory t.0 t.1) (t.2 ∷ [])) (λ i. (sym key i, words i, state i)) (at_end z is g s run seat v here others)
