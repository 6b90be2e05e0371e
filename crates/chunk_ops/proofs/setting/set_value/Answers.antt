use Rattle.oak_model.specs.Limits.{Sizes}
use Rattle.oak_core.specs.Passes.{state, key, call_of}
use Rattle.chunk_ops.proofs.ValuesSet.{may_set, value_set, set_alone, set_missed, other_found, missed_alone}
use Rattle.chunk_ops.proofs.WordLoads.{found_inside}
use Rattle.chunk_ops.proofs.setting.set_value.Goals as goal

pub value_at-word-requires-clause-entry : goal.value_at-word-requires-clause-entry
value_at-word-requires-clause-entry c = found_inside (key c.args.table.now) c.args.pin.now.room c.args.entry.0 c.requires.entry.0 (state c.args.pass.now) c.requires.pinned c.requires.entry.1

pub set_value-requires-clause-names : goal.set_value-requires-clause-names
set_value-requires-clause-names c = let z : Sizes = key c.args.table.now in let r = c.args.pin.now.room in let i = c.args.entry.0 in let v = state c.args.pass.now in let e = c.requires.entry in let f = c.requires.fresh in let l = c.life_word-home.ensures in (
  r,
  i,
  record { inside = c.requires.pinned.inside; entry = found_inside z r i e.0 v c.requires.pinned e.1; word_is = c.value_at-word.ensures },
  may_set z (call_of c.args.pass.now) r i c.args.floor c.args.fresh.header c.args.fresh.generation c.args.fresh.stamp c.life_word-home.result c.args.kind f.0 e.0 v c.requires.pinned e.1 c.requires.floor c.requires.next f.1 f.2 c.requires.call record { is = l.is; names = l.names; header = l.header; generation = l.generation },
)

pub returns-then-set_value-floor-clause-found : goal.returns-then-set_value-floor-clause-found
returns-then-set_value-floor-clause-found c = λ k h. let z : Sizes = key c.args.table.now in let r = c.args.pin.now.room in let i = c.args.entry.0 in let v = state c.args.pass.now in let l = c.life_word-home.ensures in
    other_found z (call_of c.args.pass.now) r i c.args.floor c.args.fresh.header c.args.fresh.generation c.life_word-home.result c.args.kind v c.set_value.result (state c.set_value.new.pass) record { is = l.is; names = l.names; header = l.header; generation = l.generation }
    (c.set_value.ensures.told r i record { inside = c.requires.pinned.inside; entry = found_inside z r i k v c.requires.pinned h; word_is = c.value_at-word.ensures }) c.if-set_value-floor.true k h

pub returns-then-set_value-floor-clause-only : goal.returns-then-set_value-floor-clause-only
returns-then-set_value-floor-clause-only c = let z : Sizes = key c.args.table.now in let r = c.args.pin.now.room in let i = c.args.entry.0 in let v = state c.args.pass.now in let l = c.life_word-home.ensures in let e = c.requires.entry in
    set_missed z (call_of c.args.pass.now) r i c.args.floor c.args.fresh.header c.args.fresh.generation c.life_word-home.result c.args.kind v c.set_value.result (state c.set_value.new.pass) record { is = l.is; names = l.names; header = l.header; generation = l.generation }
    (c.set_value.ensures.told r i record { inside = c.requires.pinned.inside; entry = found_inside z r i e.0 v c.requires.pinned e.1; word_is = c.value_at-word.ensures }) c.if-set_value-floor.true

pub returns-then-set_value-floor-clause-alone_found : goal.returns-then-set_value-floor-clause-alone_found
returns-then-set_value-floor-clause-alone_found c = let z : Sizes = key c.args.table.now in let r = c.args.pin.now.room in let i = c.args.entry.0 in let v = state c.args.pass.now in let l = c.life_word-home.ensures in let e = c.requires.entry in
    missed_alone z (call_of c.args.pass.now) r i c.args.floor c.args.fresh.header c.args.fresh.generation c.life_word-home.result c.args.kind v c.set_value.result (state c.set_value.new.pass) record { is = l.is; names = l.names; header = l.header; generation = l.generation }
    (c.set_value.ensures.told r i record { inside = c.requires.pinned.inside; entry = found_inside z r i e.0 v c.requires.pinned e.1; word_is = c.value_at-word.ensures }) c.if-set_value-floor.true

pub returns-clause-set : goal.returns-clause-set
returns-clause-set c = λ k bytes h f. let z : Sizes = key c.args.table.now in let r = c.args.pin.now.room in let i = c.args.entry.0 in let v = state c.args.pass.now in let l = c.life_word-home.ensures in
    value_set z (call_of c.args.pass.now) r i c.args.floor c.args.fresh.header c.args.fresh.generation c.life_word-home.result c.args.kind v c.set_value.result (state c.set_value.new.pass) record { is = l.is; names = l.names; header = l.header; generation = l.generation }
    (c.set_value.ensures.told r i record { inside = c.requires.pinned.inside; entry = found_inside z r i k v c.requires.pinned h; word_is = c.value_at-word.ensures }) c.if-set_value-floor.false k bytes c.args.fresh.stamp h f

pub returns-clause-alone : goal.returns-clause-alone
returns-clause-alone c = let z : Sizes = key c.args.table.now in let r = c.args.pin.now.room in let i = c.args.entry.0 in let v = state c.args.pass.now in let l = c.life_word-home.ensures in let e = c.requires.entry in
    set_alone z (call_of c.args.pass.now) r i c.args.floor c.args.fresh.header c.args.fresh.generation c.life_word-home.result c.args.kind v c.set_value.result (state c.set_value.new.pass) record { is = l.is; names = l.names; header = l.header; generation = l.generation }
    (c.set_value.ensures.told r i record { inside = c.requires.pinned.inside; entry = found_inside z r i e.0 v c.requires.pinned e.1; word_is = c.value_at-word.ensures }) c.if-set_value-floor.false
