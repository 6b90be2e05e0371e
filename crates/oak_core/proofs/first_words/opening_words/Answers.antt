use Rattle.std.proofs.Common.{◌≡◌, ◌+◌, ◌*◌, ◌<◌, suc, refl, ap, subst, arith, List, ℕ, set}
use Rattle.oak_model.specs.Limits.{Sizes}
use Rattle.oak_core.specs.Memory.{rooms_at, word_count}
use Rattle.oak_core.proofs.openings.OpeningWords.{IsLaid, none_laid, more_laid, all_laid}
use Rattle.oak_core.proofs.memory.Words.{rooms_begin}
use Rattle.oak_model.specs.contracts.shapes.Shape.{the_view}
use Rattle.oak_core.proofs.first_words.opening_words.Goals as goal

pub index_mut-requires-2 : goal.index_mut-requires-2
index_mut-requires-2 c = let b = subst (λ (z : Sizes). rooms_at z < word_count z) c.shape.view_is (rooms_begin (the_view c.shape.inside) c.shape.invariant.chunks_least) in let r = c.rooms_at.ensures.is in let n = c.word_count.ensures.is in let l = c.in_ok-words.ensures.len in omega arith

pub loop-header-init : goal.loop-header-init
loop-header-init c = none_laid c.args.shape.now c.args.generation _ c.word_count.result c.rooms_at.result c.pack.result c.word_count.ensures.is c.rooms_at.ensures.is c.pack.ensures (ap (λ (l : List ℕ). set (set l 0 1) c.rooms_at.result c.pack.result) (c.in_ok-words.ensures.items_if_clones_equal (λ y e. e)))

pub loop-header-preserved : goal.loop-header-preserved
loop-header-preserved c = let n = c.header_count-header-end.ensures.is in let lt = c.loop-header-test.true in let more = more_laid c.args.shape.now c.args.generation c.loop-header.header c.loop-header.words.items c.headers_at-first.result _ c.pack-free.result c.loop-header.invariant (omega arith) c.headers_at-first.ensures.is refl c.pack-free.ensures in
    subst (λ (k : ℕ). IsLaid c.args.shape.now c.args.generation k (set c.loop-header.words.items (c.headers_at-first.result + c.loop-header.header * 3) c.pack-free.result)) (let e : suc c.loop-header.header ≡ c.loop-header.header + 1 = omega arith in e) more

pub returns-clause-words : goal.returns-clause-words
returns-clause-words c = all_laid c.args.shape.now c.args.generation c.loop-header.header c.loop-header.words.items (let n = c.header_count-header-end.ensures.is in let over = c.loop-header-test.false in omega arith) c.loop-header.invariant
