use Rattle.std.proofs.Common.{◌^◌, ◌<◌, subst, arith}
use Rattle.oak_model.specs.Class.{class_number}
use Rattle.oak_model.specs.Limits.{Sizes}
use Rattle.arena_core.specs.Arena.{at_bytes}
use Rattle.oak_core.specs.Memory.{in_arena, word_count}
use Rattle.oak_core.specs.Passes.{key as sizes}
use Rattle.scan_cursor.proofs.BlocksAhead.{below, inside, number}
use Rattle.scan_cursor.proofs.loading_ahead.start_among.Goals as goal

pub overflow_mul-result : goal.overflow_mul-result
overflow_mul-result c = let t = c.args.table.now in let b = below (sizes t) c.args.blocks.now c.requires _ c.block_in.result c.block_in.ensures (let t = c.if-above-blocks.false in omega arith) in let f : word_count (sizes t) < 2 ^ 32 = subst (λ (y : Sizes). word_count y < 2 ^ 32) t.shape_is t.few in omega arith

pub overflow_add-result : goal.overflow_add-result
overflow_add-result c = let t = c.args.table.now in let b = below (sizes t) c.args.blocks.now c.requires _ c.block_in.result c.block_in.ensures (let t = c.if-above-blocks.false in omega arith) in let f : word_count (sizes t) < 2 ^ 32 = subst (λ (y : Sizes). word_count y < 2 ^ 32) t.shape_is t.few in omega arith

pub returns : goal.returns
returns c = let z : Sizes = sizes c.args.table.now in let h = c.requires in let x = c.args.blocks.now in let b = c.block_in.result in record {
  spot = in_arena (at_bytes (class_number h.class) b 0);
  inside = inside z x h _ b c.block_in.ensures (let t = c.if-above-blocks.false in omega arith);
  plain = tt;
  is = number z x h _ b c.block_in.ensures (let t = c.if-above-blocks.false in omega arith);
}
