use Rattle.std.proofs.Common.{rules, ◌≡◌, sym, ap, ◌∙◌, subst}
use Rattle.oak_core.specs.declared.table.Pass.{Pass}
use Rattle.oak_core.specs.Passes.{call_of as table_call, key as table_sizes, state as table_state}
use Rattle.oak_map.specs.Maps.{sizes}
use Rattle.oak_map.specs.Rests.{RestsAbsent}
use Rattle.oak_map.proofs.LentEnds.{value_refuses}
use Rattle.rounds.proofs.scan.looks.get.Goals as goal

pub returns-in-Absent-clause-numbers : goal.returns-in-Absent-clause-numbers
returns-in-Absent-clause-numbers g c = let z = sizes c.args.map.now in let v = table_state c.args.pass.now in
    let rest : RestsAbsent z c.args.key.now c.in-Absent.at c.args.pass.now c.get_of.follows.lender-at-none = search rules in
    let all : (table_state c.get_of.follows.lender-at-none).numbers ≡ v.numbers = rest.finds.replies.holds.numbers in
    all

pub returns-in-Present-clause-numbers : goal.returns-in-Present-clause-numbers
returns-in-Present-clause-numbers g c = let z = sizes c.args.map.now in let call = table_call c.args.pass.now in let v = table_state c.args.pass.now in
    let r = c.in-Present.reading in let q = c.number_in-number.new.reading in let w = table_state c.done.new.self.1.0 in let f = c.in-Present.ensures.present in
    let first : table_sizes r.table.now ≡ z = ap table_sizes f.2 in
    let all : w.numbers ≡ v.numbers = (value_refuses z call c.args.key.now v w r q c.requires.idle f.4 first f.3.call c.number_in-number.ensures.reads c.done.ensures.undone).holds.numbers in
    subst (λ (x : Pass). (table_state x).numbers ≡ v.numbers) (sym (c.pass-in-Present-1.given.1 (sym (c.number_in-number.ensures.same_reference ∙ f.0)))) all
