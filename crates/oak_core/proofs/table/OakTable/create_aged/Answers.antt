use Rattle.std.proofs.Common.{◌∙◌, ap}
use Rattle.oak_core.proofs.openings.Opening.{opens_at, opened_at, leaves_at}
use Rattle.oak_model.specs.contracts.shapes.Shape.{the_view}
use Rattle.oak_core.specs.declared.table.Opened.{Opened}
use Rattle.oak_core.proofs.table.OakTable.create_aged.Goals as goal

pub of_words-requires : goal.of_words-requires
of_words-requires c = let o = opens_at _ c.args.generation c.shape.invariant c.requires.early c.as_slice.result.now (c.as_slice.ensures.value ∙ c.in_ok-words.ensures.words) in record { rule = o.0; reached = o.1 }

pub returns-clause-words : goal.returns-clause-words
returns-clause-words c = let e = c.in_ok-table.ensures in leaves_at (the_view c.shape.inside) _ c.args.generation _ (ap (λ (o : Opened). o.shape) e.5) (λ i. (e.4 i).0)

pub returns-clause-opened : goal.returns-clause-opened
returns-clause-opened c = let e = c.in_ok-table.ensures in opened_at (the_view c.shape.inside) _ c.args.generation c.shape.invariant (ap (λ (o : Opened). o.shape) e.5)
