-- Each kind keeps the rule, so each schedule does.
use Rattle.std.proofs.Common.{false, ◌≡◌, ℕ, List, [], ◌∷◌, sym, subst}
use mathlib.Core.Option.{some}
use lib.ListN.{get_elem?}
use Rattle.oak_model.specs.Limits.{Sizes}
use Rattle.oak_core.specs.declared.states.PassState.{PassState}
use Rattle.oak_core.specs.TableState.{TableState}
use Rattle.oak_core.specs.Rule.{Rule}
use Rattle.oak_core.specs.Step.{Step, load, give_number, on_arena, on_headers, on_rooms, store_locked, May, table_after, note_full}
use Rattle.oak_core.specs.Schedule.{Event, steps, splits, joins, Goes, IsSchedule}
use Rattle.oak_core.proofs.kinds.KeepsAllLoads.{load_keeps}
use Rattle.oak_core.proofs.kinds.KeepsGiven.{give_keeps}
use Rattle.oak_core.proofs.kinds.KeepsArena.{arena_keeps}
use Rattle.oak_core.proofs.kinds.KeepsHeaders.{header_keeps}
use Rattle.oak_core.proofs.kinds.KeepsLocked.{locked_keeps}
use Rattle.oak_core.proofs.kinds.KeepsNotes.{note_keeps}
use Rattle.oak_core.proofs.kinds.KeepsRooms.{room_keeps}
use Rattle.oak_core.proofs.kinds.TwoSeats.{split_keeps, join_keeps}

-- one clause for each kind
pub rule_keeps : (z : Sizes) (s : TableState) (call seat : ℕ) (v : PassState) → Rule z s → get_elem? s.states seat ≡ some v → v.numbers.spent ≡ false → (x : Step) → May z call x v → Rule z (table_after z call x seat v s)
rule_keeps z s call seat v r here going (load p) may = load_keeps z s call seat v r here going p may
rule_keeps z s call seat v r here going (give_number k) may = give_keeps z s call seat v r here going k may
rule_keeps z s call seat v r here going (on_arena a) may = arena_keeps z s call seat v r here going a may
rule_keeps z s call seat v r here going (on_headers x) may = header_keeps z s call seat v r here going x may
rule_keeps z s call seat v r here going (on_rooms x) may = room_keeps z s call seat v r here going x may
rule_keeps z s call seat v r here going (store_locked h c b k x) may = locked_keeps z s call seat v r here going h c b k x may
rule_keeps z s call seat v r here going (note_full lack began) may = note_keeps z s call seat v r here going lack began may

pub event_keeps : (z : Sizes) (e : Event) (s t : TableState) → Goes z e s t → Rule z s → Rule z t
event_keeps z (steps seat call x) s t g r = subst (Rule z) (sym g.after) (rule_keeps z s call seat g.state r g.here g.going x g.may)
event_keeps z (splits seat) s t g r = subst (Rule z) (sym g.after) (split_keeps z s seat g.state r g.here g.may)
event_keeps z (joins seat other) s t g r = subst (Rule z) (sym g.after) (join_keeps z s seat g.state r g.here other g.taken g.there g.apart g.going g.may)

pub schedule_keeps : (z : Sizes) (es : List Event) (s t : TableState) → IsSchedule z s es t → Rule z s → Rule z t
schedule_keeps z [] s t g r = subst (Rule z) (sym g) r
schedule_keeps z (e ∷ es) s t g r = schedule_keeps z es g.0 t g.2 (event_keeps z e s g.0 g.1 r)
