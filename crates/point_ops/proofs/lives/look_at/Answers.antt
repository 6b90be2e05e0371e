use Rattle.std.proofs.Common.{◌≡◌, subst}
use Rattle.oak_core.specs.Passes.{state, key as sizes, call_of}
use Rattle.value_ops.specs.declared.pinning.BadPin.TheVariants.{Dead}
use Rattle.value_ops.specs.Pinning.{PinsDud, PinsLive}
use Rattle.point_ops.specs.Halting.{IsDeadAt}
use Rattle.point_ops.specs.Lives.{PinsLife}
use Rattle.point_ops.specs.declared.lives.Pinned.{Pinned}
use Rattle.point_ops.proofs.DeadReads.{dead_read}
use Rattle.point_ops.proofs.FoundPins.{dud_found}
use Rattle.point_ops.proofs.LoneLooks.{dud_alone}
use Rattle.point_ops.proofs.LookedLives.{dud_only, live_found, live_knows, live_only, live_reads}
use Rattle.point_ops.proofs.lives.look_at.Goals as goal

pub returns-in-Ok-Value-clause-only : goal.returns-in-Ok-Value-clause-only
returns-in-Ok-Value-clause-only c = let z = sizes c.args.table.now in let call = call_of c.args.pass.now in let h = c.args.home.header in let g = c.args.home.generation in let v = state c.args.pass.now in let u = state c.pin_life.new.pass in let p = c.in-Ok-Value.pin in
    let good : (p.header ≡ h) × (p.generation ≡ g) × PinsLive z call h g v u = subst (λ (x : Pinned). PinsLife x z call h g v u) c.in-Ok-Value.field-0-is c.in-Ok-Value.ensures.pinned in
    live_only z call h g c.stamp_under.result v u (state c.stamp_under.new.pass) c.requires.none good.2 (call_of c.pin_life.new.pass) p.header p.generation c.pin_life.ensures.own.call good.0 good.1 c.stamp_under.ensures.reads

pub returns-in-Ok-Value-clause-knows : goal.returns-in-Ok-Value-clause-knows
returns-in-Ok-Value-clause-knows c = let z = sizes c.args.table.now in let call = call_of c.args.pass.now in let h = c.args.home.header in let g = c.args.home.generation in let v = state c.args.pass.now in let u = state c.pin_life.new.pass in let p = c.in-Ok-Value.pin in
    let good : (p.header ≡ h) × (p.generation ≡ g) × PinsLive z call h g v u = subst (λ (x : Pinned). PinsLife x z call h g v u) c.in-Ok-Value.field-0-is c.in-Ok-Value.ensures.pinned in
    live_knows z call h g c.stamp_under.result v u (state c.stamp_under.new.pass) c.requires.none good.2 (call_of c.pin_life.new.pass) p.header p.generation c.pin_life.ensures.own.call good.0 good.1 c.stamp_under.ensures.reads

pub returns-in-Ok-Value-clause-looked : goal.returns-in-Ok-Value-clause-looked
returns-in-Ok-Value-clause-looked c = let z = sizes c.args.table.now in let call = call_of c.args.pass.now in let h = c.args.home.header in let g = c.args.home.generation in let v = state c.args.pass.now in let u = state c.pin_life.new.pass in let p = c.in-Ok-Value.pin in
    let good : (p.header ≡ h) × (p.generation ≡ g) × PinsLive z call h g v u = subst (λ (x : Pinned). PinsLife x z call h g v u) c.in-Ok-Value.field-0-is c.in-Ok-Value.ensures.pinned in (
      live_found z call h g c.stamp_under.result v u (state c.stamp_under.new.pass) c.requires.none good.2 (call_of c.pin_life.new.pass) p.header p.generation c.pin_life.ensures.own.call good.0 good.1 c.stamp_under.ensures.reads,
      live_reads z call h g c.stamp_under.result v u (state c.stamp_under.new.pass) c.requires.none good.2 (call_of c.pin_life.new.pass) p.header p.generation c.pin_life.ensures.own.call good.0 good.1 c.stamp_under.ensures.reads,
    )

pub returns-in-Ok-Value-clause-alone : goal.returns-in-Ok-Value-clause-alone
returns-in-Ok-Value-clause-alone c = let z = sizes c.args.table.now in let call = call_of c.args.pass.now in let h = c.args.home.header in let g = c.args.home.generation in let v = state c.args.pass.now in let u = state c.pin_life.new.pass in let p = c.in-Ok-Value.pin in
    let good : (p.header ≡ h) × (p.generation ≡ g) × PinsLive z call h g v u = subst (λ (x : Pinned). PinsLife x z call h g v u) c.in-Ok-Value.field-0-is c.in-Ok-Value.ensures.pinned in
    (live_only z call h g c.stamp_under.result v u (state c.stamp_under.new.pass) c.requires.none good.2 (call_of c.pin_life.new.pass) p.header p.generation c.pin_life.ensures.own.call good.0 good.1 c.stamp_under.ensures.reads).still

pub returns-in-Ok-Absent-clause-only : goal.returns-in-Ok-Absent-clause-only
returns-in-Ok-Absent-clause-only c = let z = sizes c.args.table.now in let call = call_of c.args.pass.now in let h = c.args.home.header in let g = c.args.home.generation in let v = state c.args.pass.now in let w = state c.pin_life.new.pass in
    dud_only z call h g (Dead c.in-Ok-Absent.at) v w (subst (λ (x : Pinned). PinsLife x z call h g v w) c.in-Ok-Absent.field-0-is c.in-Ok-Absent.ensures.pinned)

pub returns-in-Ok-Absent-clause-knows : goal.returns-in-Ok-Absent-clause-knows
returns-in-Ok-Absent-clause-knows c = let z = sizes c.args.table.now in let call = call_of c.args.pass.now in let h = c.args.home.header in let g = c.args.home.generation in let v = state c.args.pass.now in let w = state c.pin_life.new.pass in
    let d : PinsDud z call h g (Dead c.in-Ok-Absent.at) v w = subst (λ (x : Pinned). PinsLife x z call h g v w) c.in-Ok-Absent.field-0-is c.in-Ok-Absent.ensures.pinned in d.only.knows

pub returns-in-Ok-Absent-clause-looked : goal.returns-in-Ok-Absent-clause-looked
returns-in-Ok-Absent-clause-looked c = let z = sizes c.args.table.now in let call = call_of c.args.pass.now in let h = c.args.home.header in let g = c.args.home.generation in let v = state c.args.pass.now in let w = state c.pin_life.new.pass in
    let d : PinsDud z call h g (Dead c.in-Ok-Absent.at) v w = subst (λ (x : Pinned). PinsLife x z call h g v w) c.in-Ok-Absent.field-0-is c.in-Ok-Absent.ensures.pinned in
    (dud_found z call h g (Dead c.in-Ok-Absent.at) v w (IsDeadAt g) c.requires.none d (λ n x. x), λ key knows past named. dead_read z call h g c.in-Ok-Absent.at v w d key knows past named)

pub returns-in-Ok-Absent-clause-alone : goal.returns-in-Ok-Absent-clause-alone
returns-in-Ok-Absent-clause-alone c = let z = sizes c.args.table.now in let call = call_of c.args.pass.now in let h = c.args.home.header in let g = c.args.home.generation in let v = state c.args.pass.now in let w = state c.pin_life.new.pass in
    dud_alone z call h g (Dead c.in-Ok-Absent.at) v w (subst (λ (x : Pinned). PinsLife x z call h g v w) c.in-Ok-Absent.field-0-is c.in-Ok-Absent.ensures.pinned)

pub returns-in-Err-clause-only : goal.returns-in-Err-clause-only
returns-in-Err-clause-only c = c.in-Err.ensures.refused.1.only

pub returns-in-Err-clause-knows : goal.returns-in-Err-clause-knows
returns-in-Err-clause-knows c = c.in-Err.ensures.refused.1.knows

pub returns-in-Err-clause-refused : goal.returns-in-Err-clause-refused
returns-in-Err-clause-refused c = (c.in-Err.ensures.refused.0, c.in-Err.ensures.refused.1.found)

pub returns-in-Err-clause-alone_refused : goal.returns-in-Err-clause-alone_refused
returns-in-Err-clause-alone_refused c = c.in-Err.ensures.refused.1.alone
