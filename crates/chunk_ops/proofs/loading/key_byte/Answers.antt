use Rattle.std.proofs.Common.{ℕ, ◌/◌, ◌%◌, ◌<◌, List, length, get_or, ap, ◌∙◌, arith}
use Rattle.oak_model.specs.Limits.{Sizes}
use Rattle.arena_core.specs.Arena.{at_bytes}
use Rattle.arena_core.specs.Place.{class_in, block_in}
use Rattle.oak_core.specs.Memory.{in_arena}
use Rattle.oak_core.specs.Passes.{state, key, call_of}
use Rattle.oak_core.proofs.memory.Words.{index_below}
use Rattle.chunk_ops.proofs.FoundEntries.{block_inside, byte_found, pin_still, entry_still}
use Rattle.chunk_ops.proofs.MeetingCalls.{only_both, only_in}
use Rattle.chunk_ops.proofs.WordLoads.{only_loaded}
use Rattle.chunk_ops.proofs.loading.key_byte.Goals as goal

pub key_block_at-at-requires : goal.key_block_at-at-requires
key_block_at-at-requires c = let e = c.requires.entry in block_inside (key c.args.table.now) e.0 e.1.entry c.key_word-place.result (c.key_word-place.ensures.word e.0 e.1) c.args.i e.2

pub load-word-requires-clause-inside : goal.load-word-requires-clause-inside
load-word-requires-clause-inside c = let z : Sizes = key c.args.table.now in let e = c.requires.entry in let word = c.key_word-place.result in let f = c.key_word-place.ensures.word e.0 e.1 in
    let is = c.key_block_at-at.ensures in
    let l = index_below z (in_arena (at_bytes (class_in word) (block_in word) (c.args.i / 8))) (block_inside z e.0 e.1.entry word f c.args.i e.2) in omega arith

pub returns-clause-byte : goal.returns-clause-byte
returns-clause-byte c = λ k h. let z : Sizes = key c.args.table.now in let v = state c.args.pass.now in let w = state c.key_word-place.new.pass in let x = state c.load-word.new.pass in let r = c.args.pin.now.room in let i = c.args.entry.0 in
    let e = c.requires.entry in let word = c.key_word-place.result in let f = c.key_word-place.ensures.word k h in let g = c.key_word-place.ensures.word e.0 e.1 in let only = c.key_word-place.ensures.only in
    let lt : c.args.i < length k = (let a = f.long in let b = g.long in let l = e.2 in omega arith) in
    ap (λ (xs : List ℕ). get_or xs (c.args.i % 8) 0) c.to_be_bytes.ensures
    ∙ byte_found z (call_of c.key_word-place.new.pass) r c.load-word.result w x (pin_still z (call_of c.args.pass.now) r v w only c.requires.pinned) i k (entry_still (call_of c.args.pass.now) r i k v w only h) c.args.i c.key_block_at-at.result word f lt
    c.key_block_at-at.ensures c.load-word.ensures.loaded

pub returns-clause-only : goal.returns-clause-only
returns-clause-only c = let z : Sizes = key c.args.table.now in let call = call_of c.args.pass.now in let v = state c.args.pass.now in let w = state c.key_word-place.new.pass in let x = state c.load-word.new.pass in
    let e = c.requires.entry in let word = c.key_word-place.result in let f = c.key_word-place.ensures.word e.0 e.1 in
    only_both call v w x c.key_word-place.ensures.only (only_in call (call_of c.key_word-place.new.pass) w x c.key_word-place.ensures.own.call (only_loaded z (call_of c.key_word-place.new.pass) c.key_block_at-at.result c.load-word.result w x (in_arena (at_bytes (class_in word) (block_in word) (c.args.i / 8))) (block_inside z e.0 e.1.entry word f c.args.i e.2) tt
    c.key_block_at-at.ensures c.load-word.ensures.loaded))
