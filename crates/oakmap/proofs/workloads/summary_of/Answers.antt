use Rattle.std.proofs.Common.{◌≡◌, List, map, sym, subst}
use Rattle.std.specs.Prelude.{IfOk}
use Rattle.std.proofs.lemmas.Result.{IfOk-weaker}
use Rattle.oak_model.specs.declared.replies.Pair.{Pair}
use Rattle.oak_model.specs.declared.replies.Reply.{Reply}
use Rattle.oak_model.specs.declared.shapes.Usage.{Usage}
use Rattle.oak_script.specs.Summary.{AreNumbers, summary_text}
use Rattle.oakmap.proofs.Summaries.{fits, summary-counts}
use Rattle.oakmap.proofs.workloads.summary_of.Goals as goal

pub print_summary-requires : goal.print_summary-requires
print_summary-requires c =
    let ran = c.args.ran.now in
    let said = map (λ v. v.items) ran.replies.items in
    subst (λ (fs : List Pair). AreNumbers fs) (sym c.deref-2.ensures.value) (fits c.args.asked c.requires.workload said ran.finals.items ran.recipe_calls.items ran.closed c.requires.run).numbers

pub returns : goal.returns
returns c =
    let ran = c.args.ran.now in
    let w = c.args.asked in
    let said = map (λ v. v.items) ran.replies.items in
    let is_text : List (List Reply) → List Pair → Usage → Type 0 = λ rs fs used. IfOk c.print_summary.result (λ v. v.items ≡ summary_text w.calls w.threads w.start rs fs used) in
    let of_replies = subst (λ vs. is_text (map (λ v. v.items) vs) c.deref-2.result.now c.usage.result) c.deref.ensures.value c.print_summary.ensures in
    let of_finals = subst (λ fs. is_text said fs c.usage.result) c.deref-2.ensures.value of_replies in
    let printed = subst (λ used. is_text said ran.finals.items used) c.usage.ensures of_finals in
    IfOk-weaker c.print_summary.result _ _ (λ v e. summary-counts w c.requires.workload said ran.finals.items ran.recipe_calls.items ran.closed c.requires.run v.items e) printed
