use Rattle.std.proofs.Common.{rules, ◌≡◌, List, ℕ, IfOk, sym, ap, ◌∙◌, subst}
use Rattle.oak_model.specs.declared.cells.CellCall.TheVariants as cells
use Rattle.oak_model.specs.declared.cells.CellReply.TheVariants as words
use Rattle.oak_script.specs.declared.scripts.Call.TheVariants as calls
use Rattle.oak_core.specs.declared.states.PassState.{PassState}
use Rattle.oak_core.specs.declared.table.Pass.{Pass}
use Rattle.oak_core.specs.Passes.{call_of as table_call, key as table_sizes, state as table_state}
use Rattle.value_ops.specs.Reading.{stamp, value}
use Rattle.point_ops.specs.Replies.{RepliesAt}
use Rattle.oak_map.specs.Lending.{LendsValue}
use Rattle.oak_map.specs.Maps.{sizes}
use Rattle.oak_map.specs.Rests.{RestsAbsent}
use Rattle.oak_map.proofs.LentEnds.{value_replies}
use Rattle.oak_run.specs.CallTurns.{CallTurned, TellsCopy}
use Rattle.oak_run.proofs.AskCalls.{copied, found_none, found_value}
use Rattle.oak_run.proofs.asks.get_by.Goals as goal

pub returns-in-Absent-clause-numbers : goal.returns-in-Absent-clause-numbers
returns-in-Absent-clause-numbers g c = let z = sizes c.args.map.now in let v = table_state c.args.pass.now in
    let rest : RestsAbsent z c.bytes_of.result.now c.in-Absent.at c.args.pass.now c.get_of.follows.lender-at-none = search rules in
    let all : (table_state c.get_of.follows.lender-at-none).numbers ≡ v.numbers = rest.finds.replies.holds.numbers in
    all

pub returns-in-Absent-clause-turned : goal.returns-in-Absent-clause-turned
returns-in-Absent-clause-turned g c = let z = sizes c.args.map.now in let call = table_call c.args.pass.now in let v = table_state c.args.pass.now in let w = table_state c.get_of.follows.lender-at-none in
    let rest : RestsAbsent z c.bytes_of.result.now c.in-Absent.at c.args.pass.now c.get_of.follows.lender-at-none = search rules in
    found_none z call c.args.key.now c.in-Absent.at v w c.bytes_of.ensures.key
    (subst (λ (k : List ℕ). RepliesAt call k cells.Get words.Absent c.in-Absent.at v w) c.bytes_of.ensures.value rest.finds.replies)

pub returns-in-Present-clause-numbers : goal.returns-in-Present-clause-numbers
returns-in-Present-clause-numbers g c = let z = sizes c.args.map.now in let call = table_call c.args.pass.now in let v = table_state c.args.pass.now in let key : List ℕ = c.args.key.now in
    let r = c.in-Present.reading in let q = c.copy_value-copy.new.reading in let w = table_state c.done.new.self.1.0 in let f = c.in-Present.ensures.present in
    let first : table_sizes r.table.now ≡ z = ap table_sizes f.2 in let lent : LendsValue z call key v r = subst (λ (k : List ℕ). LendsValue z call k v r) c.bytes_of.ensures.value f.4 in
    let all : w.numbers ≡ v.numbers = (value_replies z call key v w r q c.requires.idle lent first f.3.call c.copy_value-copy.ensures.reads c.done.ensures.undone).holds.numbers in
    subst (λ (x : Pass). (table_state x).numbers ≡ v.numbers) (sym (c.pass-in-Present-1.given.1 (sym (c.copy_value-copy.ensures.same_reference ∙ f.0)))) all

pub returns-in-Present-clause-turned : goal.returns-in-Present-clause-turned
returns-in-Present-clause-turned g c = let z = sizes c.args.map.now in let call = table_call c.args.pass.now in let v = table_state c.args.pass.now in let key : List ℕ = c.args.key.now in
    let r = c.in-Present.reading in let q = c.copy_value-copy.new.reading in let w = table_state c.done.new.self.1.0 in let f = c.in-Present.ensures.present in
    let first : table_sizes r.table.now ≡ z = ap table_sizes f.2 in let lent : LendsValue z call key v r = subst (λ (k : List ℕ). LendsValue z call k v r) c.bytes_of.ensures.value f.4 in
    let read = found_value z call key (value r) (stamp r) v w c.bytes_of.ensures.key (value_replies z call key v w r q c.requires.idle lent first f.3.call c.copy_value-copy.ensures.reads c.done.ensures.undone) in
    let tells : TellsCopy key c.copy_value-copy.result (stamp r) c.told.result = subst (λ (m : ℕ). TellsCopy key c.copy_value-copy.result m c.told.result) c.at-at.ensures c.told.ensures in
    let all : IfOk c.told.result (λ y. CallTurned z call (calls.Get key) y v w) = copied key (value r) (stamp r) c.copy_value-copy.result c.told.result (λ y. CallTurned z call (calls.Get key) y v w) read c.copy_value-copy.ensures.value tells in
    subst (λ (x : PassState). IfOk c.told.result (λ y. CallTurned z call (calls.Get key) y v x)) (search rules) all
