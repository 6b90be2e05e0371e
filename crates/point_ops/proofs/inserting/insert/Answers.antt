use Rattle.point_ops.proofs.LoneNewValues.{inserts_alone}
use Rattle.std.proofs.Common.{◌+◌, ◌∙◌, ℕ, refl, sym, subst}
use Rattle.std.proofs.lemmas.Result.{err_from_is_err_and, IfOk-weaker, IfErr-weaker}
use Rattle.oak_core.specs.HeldRows.{HasFresh}
use Rattle.chunk_core.specs.PinnedRooms.{span_of}
use Rattle.chunk_ops.specs.PinRecords.{room_pin}
use Rattle.oak_core.specs.KeyReads.{home_of}
use Rattle.oak_core.specs.Passes.{state, key as sizes, call_of}
use Rattle.point_ops.specs.declared.halts.Halt.{Halt}
use Rattle.point_ops.specs.Inserts.{InsertHalts}
use Rattle.point_ops.specs.Spots.{entry_in}
use Rattle.point_ops.proofs.InsertedValues.{fresh_here, inserted, given_learns, unmade_halts, unset_halts, unentered_halts}
use Rattle.point_ops.proofs.LoneInserting.{base_kept, entry_there, names_kept, set_alone, unadded_alone, unmade_alone}
use Rattle.point_ops.proofs.FoundSpots.{place_kept}
use Rattle.point_ops.proofs.inserting.insert.Goals as goal

pub entry_for-requires-clause-entry : goal.entry_for-requires-clause-entry
entry_for-requires-clause-entry c = place_kept c.args.pin.now.room c.args.entry c.args.key.now (state c.args.pass.now) (state c.make_fresh.new.pass) c.in_ok-fresh.ensures.made.1.rooms c.requires.entry

pub give_back-requires-clause-fresh : goal.give_back-requires-clause-fresh
give_back-requires-clause-fresh c = let z = sizes c.args.table.now in let call = call_of c.args.pass.now in let f = c.in_ok-fresh.fresh in let w = state c.entry_for.new.pass in (
  c.args.value.now,
  subst (λ (t : ℕ). HasFresh z f.header f.generation t c.args.value.now w) (sym c.in_ok-fresh.ensures.made.0)
      (fresh_here z call c.args.pin.now.room f.header f.generation (c.args.floor + 1) c.args.key.now c.args.value.now (state c.args.pass.now) (state c.make_fresh.new.pass) w c.in_ok-fresh.ensures.made.1 (call_of c.make_fresh.new.pass) c.make_fresh.ensures.own.call c.entry_for.ensures.under),
)

pub returns-in-Ok-clause-wrote : goal.returns-in-Ok-clause-wrote
returns-in-Ok-clause-wrote c = let z = sizes c.args.table.now in let call = call_of c.args.pass.now in let r = c.args.pin.now.room in let f = c.in_ok-fresh.fresh in let key = c.args.key.now in let value = c.args.value.now in
    let v = state c.args.pass.now in let u = state c.make_fresh.new.pass in let w = state c.entry_for.new.pass in let x = state c.set_fresh.new.pass in let m = c.in_ok-fresh.ensures.made.1 in let at = call_of c.make_fresh.new.pass in let same = c.make_fresh.ensures.own.call in
    IfOk-weaker c.set_fresh.result _ _ (λ s t. inserted z call r f.header f.generation (c.args.floor + 1) key value v u w m at same c.entry_for.ensures.under (call_of c.entry_for.new.pass) x (c.entry_for.ensures.own.call ∙ same) c.args.kind s
    (t key value c.in-Ok.ensures.added (subst (λ (n : ℕ). HasFresh z f.header f.generation n value w) (sym c.in_ok-fresh.ensures.made.0) (fresh_here z call r f.header f.generation (c.args.floor + 1) key value v u w m at same c.entry_for.ensures.under)))) c.set_fresh.ensures.wrote

pub returns-in-Ok-clause-learns : goal.returns-in-Ok-clause-learns
returns-in-Ok-clause-learns c = let z = sizes c.args.table.now in let call = call_of c.args.pass.now in let f = c.in_ok-fresh.fresh in let w = state c.entry_for.new.pass in let x = state c.set_fresh.new.pass in let same = c.make_fresh.ensures.own.call in
    IfErr-weaker c.set_fresh.result _ _ (λ why s. given_learns z call c.args.pin.now.room f.header f.generation (c.args.floor + 1) c.args.key.now c.args.value.now (state c.args.pass.now) (state c.make_fresh.new.pass) w c.in_ok-fresh.ensures.made.1
    (call_of c.make_fresh.new.pass) same c.entry_for.ensures.under (call_of c.entry_for.new.pass) x (c.entry_for.ensures.own.call ∙ same) s) c.set_fresh.ensures.stands

pub returns-in-Ok-clause-halted : goal.returns-in-Ok-clause-halted
returns-in-Ok-clause-halted c = let z = sizes c.args.table.now in let call = call_of c.args.pass.now in let f = c.in_ok-fresh.fresh in let key = c.args.key.now in let value = c.args.value.now in
    let v = state c.args.pass.now in let w = state c.entry_for.new.pass in let x = state c.set_fresh.new.pass in let same = c.make_fresh.ensures.own.call in
    IfErr-weaker c.set_fresh.result _ _ (λ why t. subst (λ (y : Halt). InsertHalts y z call key value (entry_in c.args.entry) c.args.floor v x) (sym t.0) (unset_halts z call c.args.pin.now.room f.header f.generation (c.args.floor + 1) key value v (state c.make_fresh.new.pass) w c.in_ok-fresh.ensures.made.1
    (call_of c.make_fresh.new.pass) same c.entry_for.ensures.under (call_of c.entry_for.new.pass) x (c.entry_for.ensures.own.call ∙ same) value (entry_in c.args.entry) c.in-Ok.entry.0 c.args.floor (t.1 key c.in-Ok.ensures.added))) c.set_fresh.ensures.halted

pub returns-in-Err-clause-learns : goal.returns-in-Err-clause-learns
returns-in-Err-clause-learns c = let z = sizes c.args.table.now in let call = call_of c.args.pass.now in let f = c.in_ok-fresh.fresh in let w = state c.entry_for.new.pass in let x = state c.give_back.new.pass in let same = c.make_fresh.ensures.own.call in
    given_learns z call c.args.pin.now.room f.header f.generation (c.args.floor + 1) c.args.key.now c.args.value.now (state c.args.pass.now) (state c.make_fresh.new.pass) w c.in_ok-fresh.ensures.made.1
    (call_of c.make_fresh.new.pass) same c.entry_for.ensures.under (call_of c.entry_for.new.pass) x (c.entry_for.ensures.own.call ∙ same) c.give_back.ensures.stands

pub returns-in-Err-clause-halted : goal.returns-in-Err-clause-halted
returns-in-Err-clause-halted c = let z = sizes c.args.table.now in let call = call_of c.args.pass.now in let f = c.in_ok-fresh.fresh in let w = state c.entry_for.new.pass in let x = state c.give_back.new.pass in let same = c.make_fresh.ensures.own.call in
    unentered_halts z call c.args.pin.now.room f.header f.generation (c.args.floor + 1) c.args.key.now c.args.value.now (state c.args.pass.now) (state c.make_fresh.new.pass) w c.in_ok-fresh.ensures.made.1
    (call_of c.make_fresh.new.pass) same c.entry_for.ensures.under (call_of c.entry_for.new.pass) x (c.entry_for.ensures.own.call ∙ same) c.give_back.ensures.stands c.give_back.ensures.front c.class_for.result c.in_ok-fresh.ensures.takes.0 c.in_ok-fresh.ensures.takes.1 c.in_ok-fresh.ensures.takes.2 c.args.value.now c.class_for.ensures (entry_in c.args.entry) c.args.floor c.in-Err.ensures.halted.0 c.in-Err.halt c.in-Err.ensures.halted.1

pub returns-in-Ok-clause-alone : goal.returns-in-Ok-clause-alone
returns-in-Ok-clause-alone o = λ is. let z = sizes o.args.table.now in let r = o.args.pin.now.room in let f = o.in_ok-fresh.fresh in let i = o.in-Ok.entry in let key = o.args.key.now in
    let v = state o.args.pass.now in let u = state o.make_fresh.new.pass in let w = state o.entry_for.new.pass in let x = state o.set_fresh.new.pass in let class = o.class_for.result in let a = o.in_ok-fresh.ensures.alone in
    set_alone z r o.args.floor key o.args.value.now (entry_in o.args.entry) class o.class_for.ensures (span_of (room_pin v)) o.requires.covers f.header a.0 v u w (a.2 r o.requires.pinned) i (home_of f.header f.generation)
    (entry_there z r i.0 key w o.entry_for.ensures.under.pin.has o.in-Ok.ensures.added)
    (o.in-Ok.ensures.alone o.args.floor (base_kept (entry_in o.args.entry) o.args.floor v u o.in_ok-fresh.ensures.made.1.rooms is)) x o.set_fresh.result o.set_fresh.ensures.alone
    (IfErr-weaker o.set_fresh.result _ _ (λ why s. s class a.0 (names_kept f.header f.header class a.0 u w refl o.entry_for.ensures.under.headers a.1)) o.set_fresh.ensures.alone_halted)

pub returns-in-Err-clause-alone : goal.returns-in-Err-clause-alone
returns-in-Err-clause-alone o = λ is. let z = sizes o.args.table.now in let r = o.args.pin.now.room in let f = o.in_ok-fresh.fresh in
    let v = state o.args.pass.now in let u = state o.make_fresh.new.pass in let w = state o.entry_for.new.pass in let x = state o.give_back.new.pass in let class = o.class_for.result in let a = o.in_ok-fresh.ensures.alone in
    unadded_alone z r o.args.floor o.args.key.now o.args.value.now (entry_in o.args.entry) class o.class_for.ensures (span_of (room_pin v)) o.requires.covers f.header a.0 v u w (a.2 r o.requires.pinned) o.in-Err.ensures.halted.0 o.in-Err.halt x o.in-Err.ensures.alone_halted
    (o.give_back.ensures.alone class a.0 (names_kept f.header f.header class a.0 u w refl o.entry_for.ensures.under.headers a.1))

pub returns-in_err-fresh-clause-alone : goal.returns-in_err-fresh-clause-alone
returns-in_err-fresh-clause-alone o = λ is. let p = err_from_is_err_and o.from_residual.result o.from_residual.ensures.1 in
    rw (p.1, p.2) (unmade_alone (sizes o.args.table.now) o.args.pin.now.room o.args.floor o.args.key.now o.args.value.now (entry_in o.args.entry) o.class_for.result o.class_for.ensures o.in_err-fresh.field-0.0 (state o.args.pass.now) (state o.make_fresh.new.pass)
    (o.in_err-fresh.ensures.alone_halted o.args.pin.now.room o.requires.pinned))

pub returns-in_err-fresh-clause-halted : goal.returns-in_err-fresh-clause-halted
returns-in_err-fresh-clause-halted o = let p = err_from_is_err_and o.from_residual.result o.from_residual.ensures.1 in
    rw (p.1, p.2) (unmade_halts (sizes o.args.table.now) (call_of o.args.pass.now) o.class_for.result o.args.key.now o.args.value.now (entry_in o.args.entry) o.args.floor (state o.args.pass.now) (state o.make_fresh.new.pass) o.in_err-fresh.field-0.0 o.class_for.ensures o.in_err-fresh.ensures.halted)

pub returns-in-Ok-clause-alone_inserts : goal.returns-in-Ok-clause-alone_inserts
returns-in-Ok-clause-alone_inserts o = let z = sizes o.args.table.now in let r = o.args.pin.now.room in let f = o.in_ok-fresh.fresh in let i = o.in-Ok.entry in let key = o.args.key.now in
    let v = state o.args.pass.now in let u = state o.make_fresh.new.pass in let w = state o.entry_for.new.pass in let x = state o.set_fresh.new.pass in let class = o.class_for.result in let a = o.in_ok-fresh.ensures.alone in
    IfOk-weaker o.set_fresh.result _ _ (λ s set. inserts_alone z r o.args.floor key o.args.value.now (entry_in o.args.entry) class o.class_for.ensures (span_of (room_pin v)) o.requires.covers f.header f.generation a.0 v u w x (a.2 r o.requires.pinned) i
    (entry_there z r i.0 key w o.entry_for.ensures.under.pin.has o.in-Ok.ensures.added) (o.in-Ok.ensures.alone_gets o.args.floor) set) o.set_fresh.ensures.alone
