use Rattle.std.proofs.Common.{◌≡◌, ◌+◌, ◌*◌, ℕ, ap, ◌∙◌, get_or, arith}
use Rattle.oak_model.specs.Class.{class_number}
use Rattle.arena_core.specs.Arena.{at_bytes}
use Rattle.oak_core.specs.Memory.{in_arena, index}
use Rattle.oak_core.specs.Passes.{key}
use Rattle.oak_core.proofs.kinds.KeepsArena.{class_below}
use Rattle.oak_core.proofs.memory.OffsetPlaces.{fits, bytes_number}
use Rattle.oak_core.proofs.table.OakTable.bytes_at.Goals as goal

pub returns : goal.returns
returns c = ap (λ (p : ℕ × ℕ). get_or c.args.self.now.offsets.bytes p.0 0 + (c.args.block * p.1 + c.args.i)) (λ j. (c.number.ensures.is j, c.block_words.ensures.is j))
    ∙ bytes_number (key c.args.self.now) c.args.self.now.shape c.args.self.now.offsets c.args.self.now.shape_is c.args.self.now.offsets_are c.args.self.now.few (class_number c.args.class) c.args.block c.args.i (class_below c.args.class)

pub overflow_add-result : goal.overflow_add-result
overflow_add-result c = let n : ℕ = get_or c.args.self.now.offsets.bytes c.number.result 0 + (c.args.block * c.block_words.result + c.args.i) in
    let e : n ≡ index (key c.args.self.now) (in_arena (at_bytes (class_number c.args.class) c.args.block c.args.i)) = ap (λ (p : ℕ × ℕ). get_or c.args.self.now.offsets.bytes p.0 0 + (c.args.block * p.1 + c.args.i)) (λ j. (c.number.ensures.is j, c.block_words.ensures.is j))
    ∙ bytes_number (key c.args.self.now) c.args.self.now.shape c.args.self.now.offsets c.args.self.now.shape_is c.args.self.now.offsets_are c.args.self.now.few (class_number c.args.class) c.args.block c.args.i (class_below c.args.class) in
    let f = fits (key c.args.self.now) c.args.self.now.shape c.args.self.now.offsets c.args.self.now.shape_is c.args.self.now.offsets_are c.args.self.now.few (in_arena (at_bytes (class_number c.args.class) c.args.block c.args.i)) (class_below c.args.class, c.requires.block, c.requires.inside) in omega arith

pub overflow_add-place : goal.overflow_add-place
overflow_add-place c = let p : ℕ = c.args.block * c.block_words.result in let a : ℕ = get_or c.args.self.now.offsets.bytes (class_number c.args.class) 0 in
    let e : a + (p + c.args.i) ≡ index (key c.args.self.now) (in_arena (at_bytes (class_number c.args.class) c.args.block c.args.i)) = ap (λ (w : ℕ). a + (c.args.block * w + c.args.i)) c.block_words.ensures.is ∙ bytes_number (key c.args.self.now) c.args.self.now.shape c.args.self.now.offsets c.args.self.now.shape_is c.args.self.now.offsets_are c.args.self.now.few (class_number c.args.class) c.args.block c.args.i (class_below c.args.class) in
    let f = fits (key c.args.self.now) c.args.self.now.shape c.args.self.now.offsets c.args.self.now.shape_is c.args.self.now.offsets_are c.args.self.now.few (in_arena (at_bytes (class_number c.args.class) c.args.block c.args.i)) (class_below c.args.class, c.requires.block, c.requires.inside) in omega arith

pub overflow_mul-place : goal.overflow_mul-place
overflow_mul-place c = let p : ℕ = c.args.block * c.block_words.result in let a : ℕ = get_or c.args.self.now.offsets.bytes (class_number c.args.class) 0 in
    let e : a + (p + c.args.i) ≡ index (key c.args.self.now) (in_arena (at_bytes (class_number c.args.class) c.args.block c.args.i)) = ap (λ (w : ℕ). a + (c.args.block * w + c.args.i)) c.block_words.ensures.is ∙ bytes_number (key c.args.self.now) c.args.self.now.shape c.args.self.now.offsets c.args.self.now.shape_is c.args.self.now.offsets_are c.args.self.now.few (class_number c.args.class) c.args.block c.args.i (class_below c.args.class) in
    let f = fits (key c.args.self.now) c.args.self.now.shape c.args.self.now.offsets c.args.self.now.shape_is c.args.self.now.offsets_are c.args.self.now.few (in_arena (at_bytes (class_number c.args.class) c.args.block c.args.i)) (class_below c.args.class, c.requires.block, c.requires.inside) in omega arith
