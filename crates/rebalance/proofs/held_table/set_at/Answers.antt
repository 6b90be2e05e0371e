use Rattle.std.proofs.Common.{sym, ap, ◌∙◌}
use Rattle.chunk_core.specs.declared.holds.RoomHolds.{RoomHolds}
use Rattle.oak_core.specs.Passes.{state, key, call_of}
use Rattle.rebalance.specs.HeldRooms.{spot}
use Rattle.rebalance.specs.Mirrors.{held_memory}
use Rattle.rebalance.proofs.HeldParts.{alone_still, works_then}
use Rattle.rebalance.proofs.SameWords.{put_same}
use Rattle.rebalance.proofs.held_table.set_at.Goals as goal

pub returns-then-found-number-clause-stored : goal.returns-then-found-number-clause-stored
returns-then-found-number-clause-stored c = ap (λ (a : RoomHolds). held_memory a.held) c.load_at-found.ensures.rooms
    ∙ put_same (held_memory (state c.args.pass.now).rooms.held) (spot c.args.room c.args.word) c.args.number (sym c.load_at-found.ensures.word ∙ c.if-found-number.true)

pub store_at-requires-clause-held : goal.store_at-requires-clause-held
store_at-requires-clause-held c = alone_still (key c.args.table.now) (call_of c.args.pass.now) c.args.room (state c.args.pass.now) (state c.load_at-found.new.pass) c.load_at-found.ensures.works c.requires.held

pub returns-clause-works : goal.returns-clause-works
returns-clause-works c = works_then (key c.args.table.now) (call_of c.args.pass.now) (call_of c.load_at-found.new.pass) (state c.args.pass.now) (state c.load_at-found.new.pass) (state c.store_at.new.pass) c.load_at-found.ensures.own.call c.load_at-found.ensures.works c.store_at.ensures.works
