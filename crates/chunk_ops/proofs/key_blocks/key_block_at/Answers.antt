use Rattle.std.proofs.Common.{◌≡◌, ℕ, ◌^◌, ◌<◌, sym, ap, ◌∙◌, subst, arith}
use Rattle.oak_model.specs.declared.classes.Class.{Class}
use Rattle.oak_model.specs.declared.classes.Class.TheVariants.{B16}
use Rattle.oak_model.specs.declared.limits.TheConstants.{CLASSES}
use Rattle.oak_model.specs.Class.{class_number}
use Rattle.oak_model.specs.Limits.{Sizes}
use Rattle.arena_core.specs.Arena.{at_bytes, block_words, blocks}
use Rattle.arena_core.specs.Place.{block_in, class_from, class_in}
use Rattle.arena_core.proofs.ArenaSizes.{block_words_small}
use Rattle.arena_core.proofs.PlaceLaws.{class_number-from}
use Rattle.oak_core.specs.Memory.{in_arena, index}
use Rattle.oak_core.specs.Passes.{key as sizes}
use Rattle.chunk_ops.proofs.key_blocks.key_block_at.Goals as goal

-- a word below the others names a block of the least class
least : (place : ℕ) → place < 2 ^ 48 → class_in place ≡ 0
unfolding class_in
least place lt = omega arith

-- the class of the key word
class_is : (k : Class) (y : ℕ) → k ≡ class_from (class_in y) → class_in y < CLASSES → class_number k ≡ class_in y
class_is k y e lt = ap class_number e ∙ class_number-from (class_in y) lt

-- the number of a word of the block that it names
word_at : (z : Sizes) (at b y j : ℕ) (k : Class) → at ≡ index z (in_arena (at_bytes (class_number k) b j)) → class_number k ≡ class_in y → b ≡ block_in y → at ≡ index z (in_arena (at_bytes (class_in y) (block_in y) j))
word_at z at b y j k e f g = e ∙ (λ i. index z (in_arena (at_bytes (f i) (g i) j)))

pub overflow_cast-i : goal.overflow_cast-i
overflow_cast-i c = let few = subst (λ (n : ℕ). c.args.i < block_words n) (least c.args.place c.if-place-lt-OTHER_CLASSES.true) c.requires.2 in omega arith

pub bytes_at-requires-clause-block : goal.bytes_at-requires-clause-block
bytes_at-requires-clause-block c = let z : Sizes = sizes c.args.table.now in let l = least c.args.place c.if-place-lt-OTHER_CLASSES.true in subst (λ (t : ℕ × ℕ). t.0 < blocks z t.1) (λ j. (sym c.block_in.ensures j, l j)) c.requires.1

pub bytes_at-requires-clause-inside : goal.bytes_at-requires-clause-inside
bytes_at-requires-clause-inside c = subst (λ (n : ℕ). c.args.i < block_words n) (least c.args.place c.if-place-lt-OTHER_CLASSES.true) c.requires.2

pub returns-then-place-lt-OTHER_CLASSES : goal.returns-then-place-lt-OTHER_CLASSES
returns-then-place-lt-OTHER_CLASSES c = let z : Sizes = sizes c.args.table.now in word_at z c.bytes_at.result c.block_in.result c.args.place c.args.i B16 c.bytes_at.ensures (sym (least c.args.place c.if-place-lt-OTHER_CLASSES.true)) c.block_in.ensures

pub overflow_cast-i-2 : goal.overflow_cast-i-2
overflow_cast-i-2 c = let few = block_words_small (class_in c.args.place) c.requires.0 in let l = c.requires.2 in omega arith

pub bytes_at-requires-2-clause-block : goal.bytes_at-requires-2-clause-block
bytes_at-requires-2-clause-block c = let z : Sizes = sizes c.args.table.now in let k = class_is c.class_in.result c.args.place c.class_in.ensures c.requires.0 in subst (λ (t : ℕ × ℕ). t.0 < blocks z t.1) (λ j. (sym c.block_in-2.ensures j, sym k j)) c.requires.1

pub bytes_at-requires-2-clause-inside : goal.bytes_at-requires-2-clause-inside
bytes_at-requires-2-clause-inside c = subst (λ (n : ℕ). c.args.i < block_words n) (sym (class_is c.class_in.result c.args.place c.class_in.ensures c.requires.0)) c.requires.2

pub returns : goal.returns
returns c = let z : Sizes = sizes c.args.table.now in word_at z c.bytes_at-2.result c.block_in-2.result c.args.place c.args.i c.class_in.result c.bytes_at-2.ensures (class_is c.class_in.result c.args.place c.class_in.ensures c.requires.0) c.block_in-2.ensures
