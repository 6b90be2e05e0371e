use Rattle.std.proofs.Common.{ℕ, ◌+◌, ◌^◌, ◌<◌, ap, ◌∙◌, subst, arith}
use Rattle.oak_model.specs.Limits.{Sizes}
use Rattle.chunk_core.specs.Rooms.{at_next}
use Rattle.oak_core.specs.Memory.{in_rooms, word_count}
use Rattle.oak_core.specs.Passes.{key as sizes, state}
use Rattle.oak_core.proofs.memory.RoomPlaces.{next_behind}
use Rattle.oak_core.proofs.memory.Words.{index_below}
use Rattle.chunk_ops.proofs.WordLoads.{found_inside}
use Rattle.chunk_ops.proofs.listing.next_entry_at.Goals as goal

pub follow-requires-clause-number : goal.follow-requires-clause-number
follow-requires-clause-number c = ap (λ (n : ℕ). n + 2) c.requires.number ∙ next_behind (sizes c.args.table.now) c.args.pin.now.room c.args.entry.0

pub overflow_add-at : goal.overflow_add-at
overflow_add-at c = let t = c.args.table.now in let z : Sizes = sizes t in let r = c.args.pin.now.room in let e = next_behind z r c.args.entry.0 in let n = c.requires.number in
    let b = index_below z (in_rooms (at_next r c.args.entry.0)) (c.requires.pinned.inside, found_inside z r c.args.entry.0 c.requires.entry.0 (state c.args.pass.now) c.requires.pinned c.requires.entry.1) in let f : word_count z < 2 ^ 32 = subst (λ (y : Sizes). word_count y < 2 ^ 32) t.shape_is t.few in omega arith
