use Rattle.std.proofs.Common.{◌≡◌, true, List, ℕ, sym, ◌∙◌, subst}
use Rattle.oak_model.specs.declared.cells.CellCall.TheVariants.{Get}
use Rattle.oak_model.specs.declared.cells.CellReply.TheVariants.{Absent}
use Rattle.oak_model.specs.declared.replies.Reply.TheVariants.{Held}
use Rattle.oak_model.specs.Key.{is_key}
use Rattle.oak_script.specs.declared.scripts.Call.TheVariants.{Hold}
use Rattle.point_ops.specs.Gets.{ViewFits}
use Rattle.point_ops.specs.Replies.{RepliesAt}
use Rattle.oak_map.specs.Maps.{call_of, sizes, state}
use Rattle.oak_run.specs.HeldNames.{CallDid}
use Rattle.oak_run.proofs.HoldCalls.{none_held, view_held}
use Rattle.oak_run.proofs.looks.hold.Goals as goal

pub returns-in-Absent-clause-held : goal.returns-in-Absent-clause-held
returns-in-Absent-clause-held g c = let z = sizes c.args.map.now in let call = call_of c.args.pass.now in let v = state c.args.pass.now in let w = state c.view.new.pass in
    none_held z call c.in-Absent.at v w c.args.holds.now c.remove-empty.new.self c.args.name.now c.args.key.now c.bytes_of.ensures.key
    (subst (λ (k : List ℕ). RepliesAt call k Get Absent c.in-Absent.at v w) c.bytes_of.ensures.value c.in-Absent.ensures.got) c.remove-empty.ensures.updates.0

pub returns-in_ok-insert-in-View-clause-held : goal.returns-in_ok-insert-in-View-clause-held
returns-in_ok-insert-in-View-clause-held g c = let z = sizes c.args.map.now in let call = call_of c.args.pass.now in let v = state c.args.pass.now in let w = state c.view.new.pass in
    let old = c.args.holds.now in let now = c.insert.new.self in let x = c.in-View.view in let a = c.in_ok-name-in-View.name in let k : List ℕ = c.in_ok-key-in-View.key in
    let same : k ≡ c.args.key.now = c.in_ok-key-in-View.ensures in
    let fits : ViewFits z call k x v w = subst (λ (q : List ℕ). ViewFits z call q x v w) (c.bytes_of.ensures.value ∙ sym same) c.in-View.ensures.got in
    let did : CallDid z call old now (Hold a k) (Held x.at) v w = view_held z call v w old now a k x (subst (λ (q : List ℕ). is_key q ≡ true) (sym same) c.bytes_of.ensures.key) fits c.in_ok-insert-in-View.ensures.updates.0 in
    subst (λ (m : ℕ). CallDid z call old now (Hold c.args.name.now c.args.key.now) (Held m) v w) (sym c.at-at.ensures)
    (subst (λ (q : List ℕ × List ℕ). CallDid z call old now (Hold q.0 q.1) (Held x.at) v w) (λ i. (c.in_ok-name-in-View.ensures i, same i)) did)
