use Rattle.std.proofs.Common.{ap, ◌∙◌, arith}
use Rattle.oak_model.specs.Limits.{Sizes}
use Rattle.oak_core.specs.Memory.{in_rooms, index}
use Rattle.oak_core.specs.Passes.{state, key, call_of}
use Rattle.oak_core.proofs.memory.Words.{index_below}
use Rattle.rebalance.specs.declared.held_rooms.RoomWord.{RoomWord}
use Rattle.rebalance.specs.HeldRooms.{spot}
use Rattle.rebalance.proofs.AwayFromPins.{held_word_away}
use Rattle.rebalance.proofs.HeldMemory.{word_inside}
use Rattle.rebalance.proofs.RoomWorks.{load_finds, load_rooms, load_sees, load_works}
use Rattle.rebalance.proofs.held_table.load_at.Goals as goal

pub load-requires-clause-inside : goal.load-requires-clause-inside
load-requires-clause-inside c = let z : Sizes = key c.args.table.now in let l = index_below z (in_rooms (spot c.args.room c.args.word)) (word_inside z c.args.room c.requires.held.room.inside c.args.word c.requires.within) in let e = c.requires.number in omega arith

pub returns-clause-works : goal.returns-clause-works
returns-clause-works c = load_works (key c.args.table.now) (call_of c.args.pass.now) c.args.at c.load.result (state c.args.pass.now) (state c.load.new.pass) c.requires.held.only c.load.ensures.loaded
    (held_word_away (key c.args.table.now) c.args.room c.args.at c.args.word c.requires.held.room.inside c.requires.within c.requires.number)

pub returns-clause-rooms : goal.returns-clause-rooms
returns-clause-rooms c = load_rooms (key c.args.table.now) (call_of c.args.pass.now) c.args.at c.load.result (state c.args.pass.now) (state c.load.new.pass) c.requires.held.only c.load.ensures.loaded

pub returns-clause-sees : goal.returns-clause-sees
returns-clause-sees c i is named = let z : Sizes = key c.args.table.now in load_sees z (call_of c.args.pass.now) c.args.at c.load.result (state c.args.pass.now) (state c.load.new.pass) c.requires.held.only c.load.ensures.loaded c.args.room i
    (c.requires.number ∙ ap (λ (w : RoomWord). index z (in_rooms (spot c.args.room w))) is) named

pub returns-clause-word : goal.returns-clause-word
returns-clause-word c = load_finds (key c.args.table.now) (call_of c.args.pass.now) c.args.at c.load.result c.args.room c.args.word (state c.args.pass.now) (state c.load.new.pass) c.requires.held c.requires.within c.requires.number c.load.ensures.loaded
