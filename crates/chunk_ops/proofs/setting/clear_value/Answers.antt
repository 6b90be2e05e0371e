use Rattle.oak_model.specs.Limits.{Sizes}
use Rattle.oak_core.specs.Passes.{state, key, call_of}
use Rattle.chunk_ops.proofs.ValuesSet.{may_clear, value_cleared, clear_alone}
use Rattle.chunk_ops.proofs.WordLoads.{found_inside}
use Rattle.chunk_ops.proofs.setting.clear_value.Goals as goal

pub value_at-word-requires-clause-entry : goal.value_at-word-requires-clause-entry
value_at-word-requires-clause-entry c = let b = c.requires.buries in found_inside (key c.args.table.now) c.args.pin.now.room c.args.entry.0 b.0 (state c.args.pass.now) c.requires.pinned b.3

pub unlink-requires-clause-names : goal.unlink-requires-clause-names
unlink-requires-clause-names c = let z : Sizes = key c.args.table.now in let r = c.args.pin.now.room in let i = c.args.entry.0 in let v = state c.args.pass.now in let b = c.requires.buries in (
  r,
  i,
  record { inside = c.requires.pinned.inside; entry = found_inside z r i b.0 v c.requires.pinned b.3; word_is = c.value_at-word.ensures },
  may_clear z (call_of c.args.pass.now) r i b.1 b.2 c.args.stamp b.0 v c.requires.pinned b.3 b.4,
)

pub returns-clause-cleared : goal.returns-clause-cleared
returns-clause-cleared c = λ k h g e b. let z : Sizes = key c.args.table.now in let r = c.args.pin.now.room in let i = c.args.entry.0 in let v = state c.args.pass.now in
    value_cleared z (call_of c.args.pass.now) r i c.args.stamp v (state c.unlink.new.pass) (c.unlink.ensures.told r i record { inside = c.requires.pinned.inside; entry = found_inside z r i k v c.requires.pinned e; word_is = c.value_at-word.ensures }) k h g e b

pub returns-clause-alone : goal.returns-clause-alone
returns-clause-alone c = let z : Sizes = key c.args.table.now in let r = c.args.pin.now.room in let i = c.args.entry.0 in let v = state c.args.pass.now in let b = c.requires.buries in
    clear_alone z (call_of c.args.pass.now) r i c.args.stamp v (state c.unlink.new.pass) (c.unlink.ensures.told r i record { inside = c.requires.pinned.inside; entry = found_inside z r i b.0 v c.requires.pinned b.3; word_is = c.value_at-word.ensures })
