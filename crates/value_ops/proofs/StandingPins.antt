-- A pin stands until its pass undoes it, and what a good one found stands with it.
use Rattle.std.proofs.Common.{◌≡◌, ℕ, ◌/◌, ◌%◌, List, [], ◌∷◌, set, sym, ap, ◌∙◌, subst, arith, Some, None}
use mathlib.Core.Logic.{dite}
use mathlib.Core.Option.{some, some-injective}
use native.Mathlib.Decide.{ℕ_discrete}
use lib.ListN.{get_elem?}
use Rattle.std.proofs.lemmas.Nat.Bits.{bit_at-lt}
use Rattle.oak_model.specs.Limits.{Sizes}
use Rattle.oak_model.specs.Counts.{Each}
use Rattle.oak_model.proofs.Lists.{set_there, set_else, at_longer}
use Rattle.arena_core.specs.Place.{class_in, block_in}
use Rattle.header_core.specs.declared.holds.PinnedHeader.{PinnedHeader}
use Rattle.header_core.specs.HeaderRule.{IsGood}
use Rattle.header_core.specs.HeaderStep.{HeaderStep, claim_header, store_place, store_stamp, change_place, open_header, pin_header, unpin_header, release_header, lock_header, unlock_header, mark_dead, take_back}
use Rattle.oak_core.specs.declared.states.PassState.{PassState}
use Rattle.oak_core.specs.Memory.{memory}
use Rattle.oak_core.specs.PassState.{left_state, right_state, both_state, spent_state}
use Rattle.oak_core.specs.Rule.{Rule}
use Rattle.oak_core.specs.Schedule.{Event, steps, splits, joins, Goes, IsSchedule}
use Rattle.oak_core.specs.Step.{Step, load, give_number, on_arena, on_headers, on_rooms, store_locked, note_full, May, state_after}
use Rattle.oak_core.specs.TableState.{TableState}
use Rattle.oak_core.proofs.covers.RoomPins.{pin_by_room}
use Rattle.value_ops.specs.Readers.{StandsAt, KeepsBlock, IsUnpin, Undoes}
use Rattle.value_ops.proofs.LoadFacts.{holds, live_block, block_owned}

-- where the rule holds
pub block_kept : (z : Sizes) (s : TableState) → Rule z s → (seat : ℕ) (p : PinnedHeader) → StandsAt seat p s → IsGood p → KeepsBlock z p s
block_kept z s r seat p at good = let owned = r.blocks.owned (class_in p.place) (block_in p.place) in let some_of = block_owned z s r seat at.0 at.1 p at.2 good in
    let bit = bit_at-lt ((memory z s.words).arena.bits (class_in p.place) (block_in p.place / 64)) (block_in p.place % 64) in record {
      taken = omega arith;
      unheld = omega arith;
      owned = live_block z s r seat at.0 at.1 p at.2 good;
      alone = omega arith;
      unkeyed = omega arith;
      words = (holds z s r seat at.0 at.1 p at.2 good).words;
    }

-- a step of the pass itself
header_step : (z : Sizes) (call : ℕ) (x : HeaderStep) (s : TableState) (v : PassState) (p : PinnedHeader) → May z call (on_headers x) v → v.headers.pin ≡ Some p → ¬ IsUnpin (on_headers x) → (state_after z call (on_headers x) s v).headers.pin ≡ Some p
header_step z call (claim_header h old) s v p may is not_undone = is
header_step z call (store_place h x) s v p may is not_undone = is
header_step z call (store_stamp h x) s v p may is not_undone = is
header_step z call (change_place h x) s v p may is not_undone = is
header_step z call (open_header h) s v p may is not_undone = is
header_step z call (pin_header h g) s v p may is not_undone = let none = may.0.headers in cc
header_step z call (unpin_header h) s v p may is not_undone = absurd (not_undone tt)
header_step z call (release_header h t) s v p may is not_undone = is
header_step z call (lock_header h old) s v p may is not_undone = is
header_step z call (unlock_header h kind) s v p may is not_undone = is
header_step z call (mark_dead h) s v p may is not_undone = is
header_step z call (take_back h x) s v p may is not_undone = is

own_step : (z : Sizes) (call : ℕ) (x : Step) (s : TableState) (v : PassState) (p : PinnedHeader) → May z call x v → v.headers.pin ≡ Some p → ¬ IsUnpin x → (state_after z call x s v).headers.pin ≡ Some p
own_step z call (load q) s v p may is not_undone = is
own_step z call (give_number k) s v p may is not_undone = is
own_step z call (on_arena a) s v p may is not_undone = is
own_step z call (on_headers x) s v p may is not_undone = header_step z call x s v p may is not_undone
own_step z call (on_rooms x) s v p may is not_undone = pin_by_room x (memory z s.words) v ∙ is
own_step z call (store_locked h c b k x) s v p may is not_undone = is
own_step z call (note_full lack began) s v p may is not_undone = is

-- the state of the seat after one state was exchanged, which has the pin where it is this seat's
exchanged : (vs : List PassState) (seat other : ℕ) (v u w : PassState) (p : PinnedHeader) → get_elem? vs seat ≡ some v → get_elem? vs other ≡ some u → v.headers.pin ≡ Some p → (other ≡ seat → v ≡ u → w.headers.pin ≡ Some p) → (x : PassState) × (get_elem? (set vs other w) seat ≡ some x) × (x.headers.pin ≡ Some p)
exchanged vs seat other v u w p here there is same = dite (ℕ_discrete other seat)
    (λ e. (w, ap (get_elem? (set vs other w)) (sym e) ∙ set_there vs other u w there, same e (some-injective v u (sym here ∙ (ap (get_elem? vs) (sym e) ∙ there)))))
    (λ n. (v, set_else vs other seat w (λ e. n (sym e)) ∙ here, is))

event_stands : (z : Sizes) (e : Event) (s t : TableState) → Goes z e s t → (seat : ℕ) (p : PinnedHeader) → StandsAt seat p s → ¬ Undoes seat e → StandsAt seat p t
event_stands z (steps other call x) s t g seat p at ne = subst (StandsAt seat p) (sym g.after)
    (exchanged s.states seat other at.0 g.state (state_after z call x s g.state) p at.1 g.here at.2 (λ e q. own_step z call x s g.state p g.may (ap (λ (v : PassState). v.headers.pin) (sym q) ∙ at.2) (λ u. ne (e, u))))
event_stands z (splits other) s t g seat p at ne = subst (StandsAt seat p) (sym g.after)
    (let x = exchanged s.states seat other at.0 g.state (left_state g.state) p at.1 g.here at.2 (λ e q. ap (λ (v : PassState). v.headers.pin) (sym q) ∙ at.2) in (x.0, at_longer (set s.states other (left_state g.state)) (right_state g.state ∷ []) seat x.0 x.1, x.2))
event_stands z (joins other third) s t g seat p at ne = subst (StandsAt seat p) (sym g.after)
    (let x = exchanged s.states seat other at.0 g.state (both_state g.state g.taken) p at.1 g.here at.2 (λ e q. ap (λ (v : PassState). v.headers.pin) (sym q) ∙ at.2) in
    exchanged (set s.states other (both_state g.state g.taken)) seat third x.0 g.taken spent_state p x.1 (set_else s.states other third (both_state g.state g.taken) g.apart ∙ g.there) x.2
    (λ e q. let none : g.taken.headers.pin ≡ None = ap (λ a. a.pin) g.may.idle.headers in let some_of : g.taken.headers.pin ≡ Some p = ap (λ (v : PassState). v.headers.pin) (sym q) ∙ x.2 in cc))

pub schedule_stands : (z : Sizes) (es : List Event) (s t : TableState) → IsSchedule z s es t → (seat : ℕ) (p : PinnedHeader) → StandsAt seat p s → Each (λ (e : Event). ¬ Undoes seat e) es → StandsAt seat p t
schedule_stands z [] s t g seat p at ne = subst (StandsAt seat p) (sym g) at
schedule_stands z (e ∷ es) s t g seat p at ne = schedule_stands z es g.0 t g.2 seat p (event_stands z e s g.0 g.1 seat p at ne.0) ne.1
