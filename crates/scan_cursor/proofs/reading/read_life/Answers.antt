use Rattle.std.proofs.Common.{◌∙◌, inl, inr, subst}
use Rattle.oak_core.specs.Passes.{state, key as sizes, call_of}
use Rattle.value_ops.specs.declared.pinning.BadPin.{BadPin}
use Rattle.value_ops.specs.Pinning.{PinsDud}
use Rattle.scan_cursor.specs.Views.{view_of}
use Rattle.scan_cursor.proofs.LifeReads.{dead_here, dud_stays, known_header, live_here, live_later, live_leaves}
use Rattle.scan_cursor.proofs.reading.read_life.Goals as goal

pub pin_at-requires-clause-known : goal.pin_at-requires-clause-known
pin_at-requires-clause-known c = known_header c.args.header c.args.generation (view_of (sizes c.args.table.now) (call_of c.args.pass.now) (state c.args.pass.now)) c.requires.known

pub returns-in-Ok-clause-later : goal.returns-in-Ok-clause-later
returns-in-Ok-clause-later c = live_later (sizes c.args.table.now) (call_of c.args.pass.now) c.args.header c.args.generation (state c.args.pass.now) (state c.pin_at.new.pass) (state c.value.new.pass) c.in-Ok.ensures.good.2 _ c.pin_at.ensures.own.call c.value.ensures.only

pub returns-in-Ok-clause-here : goal.returns-in-Ok-clause-here
returns-in-Ok-clause-here c k m last since = live_here (sizes c.args.table.now) (call_of c.args.pass.now) c.args.header c.args.generation (state c.args.pass.now) (state c.pin_at.new.pass) (state c.value.new.pass) c.in-Ok.ensures.good.2 _ c.pin_at.ensures.own.call c.value.ensures.only
    c.requires.idle c.in-Ok.pin.header c.in-Ok.pin.generation c.in-Ok.ensures.good.0 c.in-Ok.ensures.good.1 c.value.result c.value.ensures.pinned c.value.ensures.reads k m last since

pub returns-in-Ok-clause-still : goal.returns-in-Ok-clause-still
returns-in-Ok-clause-still c = live_leaves (sizes c.args.table.now) (call_of c.args.pass.now) c.args.header c.args.generation (state c.args.pass.now) (state c.pin_at.new.pass) (state c.value.new.pass) c.in-Ok.ensures.good.2 _ c.pin_at.ensures.own.call c.value.ensures.only
    c.value.result (c.value.ensures.header ∙ c.in-Ok.ensures.good.0)

pub returns-in-Err-Dead-clause-here : goal.returns-in-Err-Dead-clause-here
returns-in-Err-Dead-clause-here c k m last since = dead_here (sizes c.args.table.now) (call_of c.args.pass.now) c.args.header c.args.generation c.in-Err-Dead.field-0-0 (state c.args.pass.now) (state c.pin_at.new.pass)
    (subst (λ (why : BadPin). PinsDud (sizes c.args.table.now) (call_of c.args.pass.now) c.args.header c.args.generation why (state c.args.pass.now) (state c.pin_at.new.pass)) c.in-Err-Dead.field-0-is c.in-Err-Dead.ensures.bad) c.requires.idle k m last since

pub returns-in-Err-Dead-clause-still : goal.returns-in-Err-Dead-clause-still
returns-in-Err-Dead-clause-still c = dud_stays (sizes c.args.table.now) (call_of c.args.pass.now) c.args.header c.args.generation _ (state c.args.pass.now) (state c.pin_at.new.pass) c.in-Err-Dead.ensures.bad

pub returns-in-Err-Locked-clause-still : goal.returns-in-Err-Locked-clause-still
returns-in-Err-Locked-clause-still c = dud_stays (sizes c.args.table.now) (call_of c.args.pass.now) c.args.header c.args.generation _ (state c.args.pass.now) (state c.pin_at.new.pass) c.in-Err-Locked.ensures.bad

pub returns-in-Err-Other-clause-still : goal.returns-in-Err-Other-clause-still
returns-in-Err-Other-clause-still c = dud_stays (sizes c.args.table.now) (call_of c.args.pass.now) c.args.header c.args.generation _ (state c.args.pass.now) (state c.pin_at.new.pass) c.in-Err-Other.ensures.bad

pub returns-in-Err-Locked-clause-taken : goal.returns-in-Err-Locked-clause-taken
returns-in-Err-Locked-clause-taken c is = inl (subst (λ (why : BadPin). PinsDud (sizes c.args.table.now) (call_of c.args.pass.now) c.args.header c.args.generation why (state c.args.pass.now) (state c.pin_at.new.pass)) c.in-Err-Locked.field-0-is c.in-Err-Locked.ensures.bad)

pub returns-in-Err-Other-clause-taken : goal.returns-in-Err-Other-clause-taken
returns-in-Err-Other-clause-taken c is = inr (subst (λ (why : BadPin). PinsDud (sizes c.args.table.now) (call_of c.args.pass.now) c.args.header c.args.generation why (state c.args.pass.now) (state c.pin_at.new.pass)) c.in-Err-Other.field-0-is c.in-Err-Other.ensures.bad)
