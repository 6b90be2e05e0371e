use Rattle.std.proofs.Common.{ℕ, ◌∙◌, subst}
use Rattle.oak_core.specs.Passes.{state, call_of, key as sizes}
use Rattle.rebalance.specs.Holding.{Opens}
use Rattle.rebalance.proofs.HalvedRooms.{halves_opened, lower_held, lower_may, upper_held, upper_may}
use Rattle.rebalance.proofs.halving.halve.Goals as goal

pub open_held-requires-clause-held : goal.open_held-requires-clause-held
open_held-requires-clause-held c = let p = c.requires.pair in upper_held (sizes c.args.table.now) (call_of c.args.pass.now) c.args.room c.args.upper p.0 p.1 p.2 (state c.args.pass.now) p.3 (state c.store_halves.new.pass) (c.store_halves.ensures.stores p.0 p.1 p.2 p.3)

pub open_held-requires-clause-may : goal.open_held-requires-clause-may
open_held-requires-clause-may c = let p = c.requires.pair in upper_may (sizes c.args.table.now) (call_of c.args.pass.now) c.args.room c.args.upper p.0 p.1 p.2 (state c.args.pass.now) p.3 (state c.store_halves.new.pass) (c.store_halves.ensures.stores p.0 p.1 p.2 p.3)

pub open_held-requires-2-clause-held : goal.open_held-requires-2-clause-held
open_held-requires-2-clause-held c = let p = c.requires.pair in let z = sizes c.args.table.now in let s = state c.store_halves.new.pass in let a = state c.open_held.new.pass in let q = c.args.upper in
    let one = subst (λ (k : ℕ). Opens z k q s a) c.store_halves.ensures.own.call c.open_held.ensures.opens in
    lower_held z (call_of c.args.pass.now) c.args.room q p.0 p.1 p.2 (state c.args.pass.now) p.3 s (c.store_halves.ensures.stores p.0 p.1 p.2 p.3) a one

pub open_held-requires-2-clause-may : goal.open_held-requires-2-clause-may
open_held-requires-2-clause-may c = let p = c.requires.pair in let z = sizes c.args.table.now in let s = state c.store_halves.new.pass in let a = state c.open_held.new.pass in let q = c.args.upper in
    let one = subst (λ (k : ℕ). Opens z k q s a) c.store_halves.ensures.own.call c.open_held.ensures.opens in
    lower_may z (call_of c.args.pass.now) c.args.room q p.0 p.1 p.2 (state c.args.pass.now) p.3 s (c.store_halves.ensures.stores p.0 p.1 p.2 p.3) a one

pub returns-clause-halves : goal.returns-clause-halves
returns-clause-halves c = λ w cc g h. let z = sizes c.args.table.now in let r = c.args.room in let s = state c.store_halves.new.pass in let a = state c.open_held.new.pass in let u = state c.open_held-2.new.pass in let q = c.args.upper in
    let one = subst (λ (k : ℕ). Opens z k q s a) c.store_halves.ensures.own.call c.open_held.ensures.opens in
    let two = subst (λ (k : ℕ). Opens z k r a u) (c.open_held.ensures.own.call ∙ c.store_halves.ensures.own.call) c.open_held-2.ensures.opens in
    halves_opened z (call_of c.args.pass.now) r q w cc g (state c.args.pass.now) h s (c.store_halves.ensures.stores w cc g h) a one u two
