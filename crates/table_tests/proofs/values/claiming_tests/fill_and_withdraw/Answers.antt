use Rattle.std.proofs.Common.{◌<◌, ℕ, sym, ap, ◌∙◌, subst, Some}
use Rattle.oak_model.specs.declared.classes.Class.{Class}
use Rattle.oak_model.specs.Limits.{Sizes}
use Rattle.header_core.specs.declared.states.TheConstants.{OWNED}
use Rattle.header_core.specs.declared.holds.HeaderHolds.{HeaderHolds}
use Rattle.header_core.specs.HeaderHolds.{in_state, IsFreshAt}
use Rattle.oak_core.specs.Passes.{state, key, call_of}
use Rattle.value_ops.specs.OneHeader.{IsOneHeader}
use Rattle.value_ops.proofs.OneHeaderLaws.{one_same, filled_one, filled_none, filled_else, withdrawn_none, withdrawn_one, withdrawn_else, given_none, given_headers, given_else, else_on}
use Rattle.table_tests.proofs.values.claiming_tests.fill_and_withdraw.Goals as goal

pub fill-fresh-requires-clause-owned : goal.fill-fresh-requires-clause-owned
fill-fresh-requires-clause-owned g c = subst (λ (a : HeaderHolds). 0 < in_state c.claim_one-owned.result.header OWNED a) (sym c.take_one-block.ensures.headers) c.claim_one-owned.ensures.owned

pub fill-fresh-requires-clause-held : goal.fill-fresh-requires-clause-held
fill-fresh-requires-clause-held g c = c.take_one-block.ensures.held

pub fill-fresh-requires-clause-fits : goal.fill-fresh-requires-clause-fits
fill-fresh-requires-clause-fits g c = ap (λ (d : Class). Some d) (sym c.take_one-block.ensures.class)

pub withdraw-back-requires-clause-inside : goal.withdraw-back-requires-clause-inside
withdraw-back-requires-clause-inside g c = subst (λ (h : ℕ). h < (key c.args.table.now).headers) (sym c.fill-fresh.ensures.header) c.claim_one-owned.ensures.inside

pub withdraw-back-requires-clause-fresh : goal.withdraw-back-requires-clause-fresh
withdraw-back-requires-clause-fresh g c = subst (IsFreshAt c.fill-fresh.result.header c.fill-fresh.result.generation) (sym c.none_left.ensures.headers) c.fill-fresh.ensures.fresh

pub withdraw-back-requires-clause-unpinned : goal.withdraw-back-requires-clause-unpinned
withdraw-back-requires-clause-unpinned g c = let z : Sizes = key c.args.table.now in let h = c.claim_one-owned.result.header in let d : Class = c.take_one-block.result.class in let b = c.take_one-block.result.number in let g' = c.fill-fresh.result.generation in
    let w = state c.take_one-block.new.pass in let x = state c.fill-fresh.new.pass in let y = state c.none_left.new.pass in let call = call_of c.take_one-block.new.pass in
    let one = filled_one z call w x h d b 5 7 g' (one_same h (state c.claim_one-owned.new.pass).headers w.headers c.take_one-block.ensures.headers c.claim_one-owned.ensures.one) c.fill-fresh.ensures.filled in
    let still : IsOneHeader c.fill-fresh.result.header y.headers = subst (λ (k : ℕ). IsOneHeader k y.headers) (sym c.fill-fresh.ensures.header) (one_same h x.headers y.headers c.none_left.ensures.headers one) in
    ap (λ (a : HeaderHolds). a.pin) still.alone

pub give-requires-clause-held : goal.give-requires-clause-held
give-requires-clause-held g c = c.withdraw-back.ensures.held

pub returns-clause-rest : goal.returns-clause-rest
returns-clause-rest g c = let z : Sizes = key c.args.table.now in let h = c.claim_one-owned.result.header in let d : Class = c.take_one-block.result.class in let b = c.take_one-block.result.number in let g' = c.fill-fresh.result.generation in
    let v = state c.args.pass.now in let u = state c.claim_one-owned.new.pass in let w = state c.take_one-block.new.pass in let x = state c.fill-fresh.new.pass in let y = state c.none_left.new.pass in let call = call_of c.take_one-block.new.pass in
    let k = c.fill-fresh.result.header in let e : Class = c.withdraw-back.result.class in let n = c.withdraw-back.result.number in let s = state c.withdraw-back.new.pass in let t = state c.give.new.pass in
    let first = else_on v u w c.claim_one-owned.ensures.rest c.take_one-block.ensures.rest in
    let second = else_on v w x first (filled_else z call w x h d b 5 7 g' c.fill-fresh.ensures.filled) in
    let third = else_on v x y second c.none_left.ensures.rest in
    let fourth = else_on v y s third (withdrawn_else z (call_of c.none_left.new.pass) y s k e n c.withdraw-back.ensures.withdrawn) in
    else_on v s t fourth (given_else z (call_of c.withdraw-back.new.pass) s t e n c.give.ensures.given)

pub returns-clause-no_block : goal.returns-clause-no_block
returns-clause-no_block g c = let z : Sizes = key c.args.table.now in let h = c.claim_one-owned.result.header in let d : Class = c.take_one-block.result.class in let b = c.take_one-block.result.number in let g' = c.fill-fresh.result.generation in
    let v = state c.args.pass.now in let u = state c.claim_one-owned.new.pass in let w = state c.take_one-block.new.pass in let x = state c.fill-fresh.new.pass in let y = state c.none_left.new.pass in let call = call_of c.take_one-block.new.pass in
    let k = c.fill-fresh.result.header in let e : Class = c.withdraw-back.result.class in let n = c.withdraw-back.result.number in let s = state c.withdraw-back.new.pass in let t = state c.give.new.pass in
    let none = c.none_left.ensures.kept_blocks ∙ filled_none z call w x h d b 5 7 g' c.take_one-block.ensures.one c.fill-fresh.ensures.filled in
    given_none z (call_of c.withdraw-back.new.pass) s t e n (withdrawn_one z (call_of c.none_left.new.pass) y s k e n none c.withdraw-back.ensures.withdrawn) c.give.ensures.given

pub returns-clause-no_header : goal.returns-clause-no_header
returns-clause-no_header g c = let z : Sizes = key c.args.table.now in let h = c.claim_one-owned.result.header in let d : Class = c.take_one-block.result.class in let b = c.take_one-block.result.number in let g' = c.fill-fresh.result.generation in
    let w = state c.take_one-block.new.pass in let x = state c.fill-fresh.new.pass in let y = state c.none_left.new.pass in let call = call_of c.take_one-block.new.pass in
    let one = filled_one z call w x h d b 5 7 g' (one_same h (state c.claim_one-owned.new.pass).headers w.headers c.take_one-block.ensures.headers c.claim_one-owned.ensures.one) c.fill-fresh.ensures.filled in
    let still : IsOneHeader c.fill-fresh.result.header y.headers = subst (λ (k : ℕ). IsOneHeader k y.headers) (sym c.fill-fresh.ensures.header) (one_same h x.headers y.headers c.none_left.ensures.headers one) in
    let k = c.fill-fresh.result.header in let e : Class = c.withdraw-back.result.class in let n = c.withdraw-back.result.number in let s = state c.withdraw-back.new.pass in let t = state c.give.new.pass in
    given_headers z (call_of c.withdraw-back.new.pass) s t e n c.give.ensures.given ∙ withdrawn_none z (call_of c.none_left.new.pass) y s k e n still c.withdraw-back.ensures.withdrawn
