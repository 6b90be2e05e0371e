use Rattle.std.proofs.Common.{◌≡◌, ◌+◌, ℕ, ap, ◌∙◌, get_or, arith}
use Rattle.oak_model.specs.Class.{class_number}
use Rattle.arena_core.specs.Arena.{at_bits}
use Rattle.oak_core.specs.Memory.{in_arena, index}
use Rattle.oak_core.specs.Passes.{key}
use Rattle.oak_core.proofs.kinds.KeepsArena.{class_below}
use Rattle.oak_core.proofs.memory.OffsetPlaces.{fits, bits_number}
use Rattle.oak_core.proofs.table.OakTable.bits_at.Goals as goal

pub returns : goal.returns
returns c = ap (λ (k : ℕ). get_or c.args.self.now.offsets.bits k 0 + c.args.i) c.number.ensures.is ∙ bits_number (key c.args.self.now) c.args.self.now.shape c.args.self.now.offsets c.args.self.now.shape_is c.args.self.now.offsets_are c.args.self.now.few (class_number c.args.class) c.args.i (class_below c.args.class)

pub overflow_add-result : goal.overflow_add-result
overflow_add-result c = let e : get_or c.args.self.now.offsets.bits c.number.result 0 + c.args.i ≡ index (key c.args.self.now) (in_arena (at_bits (class_number c.args.class) c.args.i)) = ap (λ (k : ℕ). get_or c.args.self.now.offsets.bits k 0 + c.args.i) c.number.ensures.is ∙ bits_number (key c.args.self.now) c.args.self.now.shape c.args.self.now.offsets c.args.self.now.shape_is c.args.self.now.offsets_are c.args.self.now.few (class_number c.args.class) c.args.i (class_below c.args.class) in
    let f = fits (key c.args.self.now) c.args.self.now.shape c.args.self.now.offsets c.args.self.now.shape_is c.args.self.now.offsets_are c.args.self.now.few (in_arena (at_bits (class_number c.args.class) c.args.i)) (class_below c.args.class, c.requires) in omega arith
