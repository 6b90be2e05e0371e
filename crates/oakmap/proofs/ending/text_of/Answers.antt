use Rattle.std.proofs.Common.{◌≡◌, List, map, subst}
use Rattle.std.specs.Prelude.{IfOk}
use Rattle.std.proofs.lemmas.Result.{IfOk-weaker}
use Rattle.oak_model.specs.declared.replies.Pair.{Pair}
use Rattle.oak_model.specs.declared.replies.Reply.{Reply}
use Rattle.oak_model.specs.declared.shapes.Usage.{Usage}
use Rattle.oak_script.specs.Text.{run_text}
use Rattle.oak_script.specs.Places.{written_upto}
use Rattle.oakmap.proofs.Printed.{prints-counts}
use Rattle.oakmap.proofs.ending.text_of.Goals as goal

pub returns : goal.returns
returns c =
    let ran = c.args.ran.now in
    let script = c.args.script.now in
    let said = map (λ v. v.items) ran.replies.items in
    let is_text : List (List Reply) → List Pair → Usage → Type 0 = λ rs fs used. IfOk c.print_run.result (λ v. v.items ≡ run_text (written_upto script.threads rs) script.threads rs fs used script.shape) in
    let of_replies = subst (λ vs. is_text (map (λ v. v.items) vs) c.deref-2.result.now c.usage.result) c.deref.ensures.value c.print_run.ensures in
    let of_finals = subst (λ fs. is_text said fs c.usage.result) c.deref-2.ensures.value of_replies in
    let printed = subst (λ used. is_text said ran.finals.items used) c.usage.ensures of_finals in
    IfOk-weaker c.print_run.result _ _ (λ v e. prints-counts script said ran.finals.items ran.recipe_calls.items ran.closed c.requires.run v.items e) printed
