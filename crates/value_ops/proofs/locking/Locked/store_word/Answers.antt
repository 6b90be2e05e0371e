use Rattle.std.proofs.Common.{ℕ, ◌+◌, arith}
use Rattle.oak_model.specs.Limits.{Sizes}
use Rattle.arena_core.specs.Place.{block_in}
use Rattle.header_core.specs.HeaderHolds.{place_held}
use Rattle.oak_core.specs.ArenaCalls.{of_locked}
use Rattle.value_ops.proofs.AloneRewrites.{word_put_alone}
use Rattle.oak_core.specs.Passes.{state, key, call_of}
use Rattle.value_ops.proofs.RewriteSteps.{word_small, names, may_store, stores}
use Rattle.value_ops.proofs.locking.Locked.store_word.Goals as goal

pub overflow_add-first : goal.overflow_add-first
overflow_add-first c = let l = word_small (key c.args.table.now) c.args.self.now.header c.args.self.now.generation c.args.first (state c.args.pass.now) c.requires.words c.args.i c.requires.inside in omega arith

pub store_word-requires-clause-names : goal.store_word-requires-clause-names
store_word-requires-clause-names c = let z : Sizes = key c.args.table.now in let h = c.args.self.now.header in let g = c.args.self.now.generation in let v = state c.args.pass.now in let is = c.requires.words in
    (of_locked h, is.block.named.class, block_in (place_held h v.headers.held), c.args.i, names z h g c.args.first v is c.args.i c.requires.inside, may_store z h g c.args.first v is)

pub returns-clause-stored : goal.returns-clause-stored
returns-clause-stored c = let z : Sizes = key c.args.table.now in let h = c.args.self.now.header in let g = c.args.self.now.generation in let v = state c.args.pass.now in let is = c.requires.words in let b : ℕ = block_in (place_held h v.headers.held) in
    stores z (call_of c.args.pass.now) h is.block.named.class b c.args.i (c.args.first + c.args.i) c.args.word v (state c.store_word.new.pass) (names z h g c.args.first v is c.args.i c.requires.inside)
    (c.store_word.ensures.told (of_locked h) is.block.named.class b c.args.i (names z h g c.args.first v is c.args.i c.requires.inside) (may_store z h g c.args.first v is))

pub returns-clause-alone : goal.returns-clause-alone
returns-clause-alone c = let z : Sizes = key c.args.table.now in let h = c.args.self.now.header in let g = c.args.self.now.generation in let v = state c.args.pass.now in let is = c.requires.words in let b : ℕ = block_in (place_held h v.headers.held) in
    word_put_alone z (call_of c.args.pass.now) h is.block.named.class b c.args.i (c.args.first + c.args.i) c.args.word v (state c.store_word.new.pass) (names z h g c.args.first v is c.args.i c.requires.inside)
    (c.store_word.ensures.told (of_locked h) is.block.named.class b c.args.i (names z h g c.args.first v is c.args.i c.requires.inside) (may_store z h g c.args.first v is))
