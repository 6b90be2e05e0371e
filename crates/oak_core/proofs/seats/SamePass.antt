-- A pass that stays the same over two calls stays so over both.
use Rattle.std.proofs.Common.{◌∙◌}
use Rattle.oak_core.specs.declared.table.Pass.{Pass}
use Rattle.oak_core.specs.Passes.{Stays}

pub stays_both : {p q r : Pass} → Stays p q → Stays q r → Stays p r
stays_both a b = record { table = b.table ∙ a.table; seat = b.seat ∙ a.seat; call = b.call ∙ a.call; scratch = b.scratch ∙ a.scratch; sorting = b.sorting ∙ a.sorting }
