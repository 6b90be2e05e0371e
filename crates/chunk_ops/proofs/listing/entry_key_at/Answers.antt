use Rattle.std.proofs.Common.{◌≡◌, ℕ, ◌-◌, ◌*◌, length, take, ap, ◌∙◌, arith}
use Rattle.oak_model.specs.Limits.{Sizes}
use Rattle.oak_model.specs.WordBytes.{word_bytes}
use Rattle.arena_core.specs.Arena.{at_bytes}
use Rattle.arena_core.specs.Place.{class_in, block_in}
use Rattle.arena_core.specs.Words.{word_of}
use Rattle.oak_core.specs.Memory.{in_arena}
use Rattle.oak_core.specs.Passes.{state, key as sizes, call_of}
use Rattle.oak_core.proofs.seats.SamePass.{stays_both}
use Rattle.oak_core.proofs.memory.Words.{index_below}
use Rattle.chunk_ops.proofs.FoundEntries.{pin_still, entry_still}
use Rattle.chunk_ops.proofs.KeyLoads.{key_inside, key_bytes_small, key_word_part}
use Rattle.chunk_ops.proofs.MeetingCalls.{only_both, only_in}
use Rattle.chunk_ops.proofs.StoredLaws.{filled_none, filled_more, filled_all}
use Rattle.chunk_ops.proofs.WordLoads.{only_loaded}
use Rattle.chunk_ops.proofs.listing.entry_key_at.Goals as goal

pub key_block_at-first-requires : goal.key_block_at-first-requires
key_block_at-first-requires c = let e = c.requires.entry in let f = c.key_word_at-place.ensures.word e.0 e.1 in let some = f.key.0 in
    key_inside (sizes c.args.table.now) c.args.pin.now.room c.args.entry.0 e.0 (state c.args.pass.now) e.1 c.key_word_at-place.result f 0 (omega arith)

pub load-loaded-requires-clause-inside : goal.load-loaded-requires-clause-inside
load-loaded-requires-clause-inside c = let z : Sizes = sizes c.args.table.now in let e = c.requires.entry in let word = c.key_word_at-place.result in let f = c.key_word_at-place.ensures.word e.0 e.1 in let some = f.key.0 in
    let is = c.key_block_at-first.ensures in
    let b = index_below z (in_arena (at_bytes (class_in word) (block_in word) 0)) (key_inside z c.args.pin.now.room c.args.entry.0 e.0 (state c.args.pass.now) e.1 word f 0 (omega arith)) in omega arith

pub first_bytes-only-requires : goal.first_bytes-only-requires
first_bytes-only-requires c = let e = c.requires.entry in let f = c.key_word_at-place.ensures.word e.0 e.1 in let some = f.key.0 in let l = f.long in let n = c.length_in-length.ensures.is in omega arith

pub returns-then-length-le-WORD-clause-own : goal.returns-then-length-le-WORD-clause-own
returns-then-length-le-WORD-clause-own c = stays_both c.key_word_at-place.ensures.own c.load-loaded.ensures.own

pub returns-then-length-le-WORD-clause-only : goal.returns-then-length-le-WORD-clause-only
returns-then-length-le-WORD-clause-only c = let z : Sizes = sizes c.args.table.now in let e = c.requires.entry in let word = c.key_word_at-place.result in let f = c.key_word_at-place.ensures.word e.0 e.1 in let some = f.key.0 in
    let call = call_of c.args.pass.now in let now = call_of c.key_word_at-place.new.pass in let v = state c.args.pass.now in let w = state c.key_word_at-place.new.pass in let x = state c.load-loaded.new.pass in let s = c.key_word_at-place.ensures in
    let is = c.key_block_at-first.ensures in
    only_both call v w x s.only (only_in call now w x s.own.call (only_loaded z now c.key_block_at-first.result c.load-loaded.result w x (in_arena (at_bytes (class_in word) (block_in word) 0))
    (key_inside z c.args.pin.now.room c.args.entry.0 e.0 v e.1 word f 0 (omega arith)) tt is c.load-loaded.ensures.loaded))

pub returns-then-length-le-WORD-clause-key : goal.returns-then-length-le-WORD-clause-key
returns-then-length-le-WORD-clause-key c = λ k h. let z : Sizes = sizes c.args.table.now in let word = c.key_word_at-place.result in let g = c.key_word_at-place.ensures.word k h in let some = g.key.0 in
    let call = call_of c.args.pass.now in let now = call_of c.key_word_at-place.new.pass in let r = c.args.pin.now.room in let at = c.args.entry.0 in
    let v = state c.args.pass.now in let w = state c.key_word_at-place.new.pass in let x = state c.load-loaded.new.pass in let s = c.key_word_at-place.ensures in
    let is = c.key_block_at-first.ensures in
    let long : c.length_in-length.result ≡ length k = c.length_in-length.ensures.is ∙ g.long in let t = c.if-length-le-WORD.true in let made = c.from_words.ensures in
    let first : c.first_bytes-only.result ≡ word_of (take (length k - 8 * 0) (word_bytes c.load-loaded.result)) = c.first_bytes-only.ensures ∙ ap (λ (m : ℕ). word_of (take m (word_bytes c.load-loaded.result))) (let e : c.length_in-length.result ≡ length k - 8 * 0 = omega arith in e) in
    let part = key_word_part z now r c.load-loaded.result w x (pin_still z call r v w s.only c.requires.pinned) at k (entry_still call r at k v w s.only h) 0 c.key_block_at-first.result word g (omega arith) is c.load-loaded.ensures.loaded in (
      record {
        words = ap (λ a. a.words) made ∙ filled_all k _ 1 (filled_more k _ 0 c.first_bytes-only.result (filled_none k) (omega arith) (first ∙ part)) (omega arith);
        long = ap (λ a. a.length) made ∙ long;
        few = g.key.1;
        bytes = key_bytes_small r at k v h;
      },
      g.key,
    )

-- the byte where the word begins is one of the key's
pub key_block_at-at-requires : goal.key_block_at-at-requires
key_block_at-at-requires c = let e = c.requires.entry in let f = c.key_word_at-place.ensures.word e.0 e.1 in
    let l = f.long in let n = c.length_in-length.ensures.is in let d = c.div_ceil-i-end.ensures in let t = c.loop-i-test.true in
    key_inside (sizes c.args.table.now) c.args.pin.now.room c.args.entry.0 e.0 (state c.args.pass.now) e.1 c.key_word_at-place.result f c.loop-i.i (omega arith)

pub load-word-requires-clause-inside : goal.load-word-requires-clause-inside
load-word-requires-clause-inside c = let z : Sizes = sizes c.args.table.now in let e = c.requires.entry in let word = c.key_word_at-place.result in let f = c.key_word_at-place.ensures.word e.0 e.1 in
    let l = f.long in let n = c.length_in-length.ensures.is in let d = c.div_ceil-i-end.ensures in let t = c.loop-i-test.true in let i = c.loop-i.i in
    let is = c.key_block_at-at.ensures in
    let b = index_below z (in_arena (at_bytes (class_in word) (block_in word) i)) (key_inside z c.args.pin.now.room c.args.entry.0 e.0 (state c.args.pass.now) e.1 word f i (omega arith)) in omega arith

pub bounds-words-i : goal.bounds-words-i
bounds-words-i c = let e = c.requires.entry in let f = c.key_word_at-place.ensures.word e.0 e.1 in let k = f.key.1 in
    let l = f.long in let n = c.length_in-length.ensures.is in let d = c.div_ceil-i-end.ensures in let t = c.loop-i-test.true in omega arith

pub loop-i-preserved : goal.loop-i-preserved
loop-i-preserved c = let z : Sizes = sizes c.args.table.now in let e = c.requires.entry in let word = c.key_word_at-place.result in let f = c.key_word_at-place.ensures.word e.0 e.1 in
    let call = call_of c.args.pass.now in let now = call_of c.loop-i.pass in let r = c.args.pin.now.room in let at = c.args.entry.0 in let i = c.loop-i.i in
    let v = state c.args.pass.now in let w = state c.loop-i.pass in let x = state c.load-word.new.pass in let s = c.loop-i.invariant in let o = c.load-word.ensures in
    let l = f.long in let n = c.length_in-length.ensures.is in let d = c.div_ceil-i-end.ensures in let t = c.loop-i-test.true in let few = f.key.1 in
    let is = c.key_block_at-at.ensures in record {
      own = stays_both s.own o.own;
      only = only_both call v w x s.only (only_in call now w x s.own.call (only_loaded z now c.key_block_at-at.result c.load-word.result w x (in_arena (at_bytes (class_in word) (block_in word) i)) (key_inside z r at e.0 v e.1 word f i (omega arith)) tt is o.loaded));
      words = λ k h. let g = c.key_word_at-place.ensures.word k h in let long : c.length_in-length.result ≡ length k = n ∙ g.long in
          filled_more k c.loop-i.words i c.first_bytes.result (s.words k h) (omega arith)
          (c.first_bytes.ensures ∙ (ap (λ (m : ℕ). word_of (take (m - 8 * i) (word_bytes c.load-word.result))) long
          ∙ key_word_part z now r c.load-word.result w x (pin_still z call r v w s.only c.requires.pinned) at k (entry_still call r at k v w s.only h) i c.key_block_at-at.result word g (omega arith) is o.loaded));
    }

pub returns-clause-key : goal.returns-clause-key
returns-clause-key c = λ k h. let g = c.key_word_at-place.ensures.word k h in let long : c.length_in-length.result ≡ length k = c.length_in-length.ensures.is ∙ g.long in
    let d = c.div_ceil-i-end.ensures in let t = c.loop-i-test.false in let made = c.from_words-2.ensures in (
      record {
        words = ap (λ a. a.words) made ∙ filled_all k c.loop-i.words c.loop-i.i (c.loop-i.invariant.words k h) (omega arith);
        long = ap (λ a. a.length) made ∙ long;
        few = g.key.1;
        bytes = key_bytes_small c.args.pin.now.room c.args.entry.0 k (state c.args.pass.now) h;
      },
      g.key,
    )
