use Rattle.std.proofs.Common.{◌≡◌, ℕ, ◌+◌, ◌^◌, ◌<◌, ap, ◌∙◌, subst, arith}
use Rattle.oak_model.specs.Limits.{Sizes}
use Rattle.chunk_core.specs.Rooms.{at_key, at_value}
use Rattle.oak_core.specs.Memory.{in_rooms, index, word_count}
use Rattle.oak_core.specs.Passes.{state, key, call_of}
use Rattle.oak_core.proofs.memory.RoomPlaces.{value_behind}
use Rattle.oak_core.proofs.memory.Words.{index_below}
use Rattle.chunk_ops.proofs.ContentLoads.{content_found, content_tells, content_only, content_alone, some_content}
use Rattle.chunk_ops.proofs.WordLoads.{found_inside, load_at}
use Rattle.chunk_ops.proofs.values.value_word_at.Goals as goal

-- the value word stands right behind the key word
value_number : (z : Sizes) (r i at : ℕ) → at ≡ index z (in_rooms (at_key r i)) → at + 1 ≡ index z (in_rooms (at_value r i))
value_number z r i at e = ap (λ (n : ℕ). n + 1) e ∙ value_behind z r i

pub overflow_add-at : goal.overflow_add-at
overflow_add-at c = let t = c.args.table.now in let z : Sizes = key t in let r = c.args.pin.now.room in let e = value_number z r c.args.entry.0 c.args.at c.requires.number in
    let b = index_below z (in_rooms (at_value r c.args.entry.0)) (c.requires.pinned.inside, found_inside z r c.args.entry.0 c.requires.entry.0 (state c.args.pass.now) c.requires.pinned c.requires.entry.1) in let f : word_count z < 2 ^ 32 = subst (λ (y : Sizes). word_count y < 2 ^ 32) t.shape_is t.few in omega arith

pub load-requires-clause-inside : goal.load-requires-clause-inside
load-requires-clause-inside c = let z : Sizes = key c.args.table.now in let r = c.args.pin.now.room in let e = (value_number (key c.args.table.now) c.args.pin.now.room c.args.entry.0 c.args.at c.requires.number) in
    let l = index_below z (in_rooms (at_value r c.args.entry.0)) (c.requires.pinned.inside, found_inside z r c.args.entry.0 c.requires.entry.0 (state c.args.pass.now) c.requires.pinned c.requires.entry.1) in omega arith

pub returns-clause-content : goal.returns-clause-content
returns-clause-content c = λ is says. let z : Sizes = key c.args.table.now in let call = call_of c.args.pass.now in let r = c.args.pin.now.room in let v = state c.args.pass.now in let w = state c.load.new.pass in let i = c.args.entry.0 in let e = c.requires.entry in
    content_found z call r i c.load.result v w c.requires.pinned e.0 e.1
    (load_at z call (c.args.at + 1) c.load.result v w (in_rooms (at_value r i)) (c.requires.pinned.inside, found_inside z r i e.0 v c.requires.pinned e.1) (value_number (key c.args.table.now) c.args.pin.now.room c.args.entry.0 c.args.at c.requires.number) c.load.ensures.loaded)
    is says

pub returns-clause-tells : goal.returns-clause-tells
returns-clause-tells c = λ is k says h. let z : Sizes = key c.args.table.now in let call = call_of c.args.pass.now in let r = c.args.pin.now.room in let v = state c.args.pass.now in let w = state c.load.new.pass in let i = c.args.entry.0 in
    content_tells z call r i c.load.result v w c.requires.pinned k h
    (load_at z call (c.args.at + 1) c.load.result v w (in_rooms (at_value r i)) (c.requires.pinned.inside, found_inside z r i k v c.requires.pinned h) (value_number (key c.args.table.now) c.args.pin.now.room c.args.entry.0 c.args.at c.requires.number) c.load.ensures.loaded)
    is says

pub returns-clause-only : goal.returns-clause-only
returns-clause-only c = let some = some_content c.load.result (omega arith) in let z : Sizes = key c.args.table.now in let call = call_of c.args.pass.now in let r = c.args.pin.now.room in let v = state c.args.pass.now in let w = state c.load.new.pass in let i = c.args.entry.0 in let e = c.requires.entry in
    content_only z call r i c.load.result v w c.requires.pinned e.0 e.1
    (load_at z call (c.args.at + 1) c.load.result v w (in_rooms (at_value r i)) (c.requires.pinned.inside, found_inside z r i e.0 v c.requires.pinned e.1) (value_number (key c.args.table.now) c.args.pin.now.room c.args.entry.0 c.args.at c.requires.number) c.load.ensures.loaded)
    some.0 some.1

pub returns-clause-alone : goal.returns-clause-alone
returns-clause-alone c = λ is says. let z : Sizes = key c.args.table.now in let call = call_of c.args.pass.now in let r = c.args.pin.now.room in let v = state c.args.pass.now in let w = state c.load.new.pass in let i = c.args.entry.0 in let e = c.requires.entry in
    content_alone z call r i c.load.result v w c.requires.pinned e.0 e.1
    (load_at z call (c.args.at + 1) c.load.result v w (in_rooms (at_value r i)) (c.requires.pinned.inside, found_inside z r i e.0 v c.requires.pinned e.1) (value_number (key c.args.table.now) c.args.pin.now.room c.args.entry.0 c.args.at c.requires.number) c.load.ensures.loaded)
    is says
