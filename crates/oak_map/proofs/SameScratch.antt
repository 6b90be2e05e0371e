-- A pass that stays the same over two calls but for its scratch stays so over both.
use Rattle.std.proofs.Common.{Bool, refl, ◌∙◌}
use Rattle.oak_core.specs.declared.table.Pass.{Pass}
use Rattle.oak_core.specs.Scratch.{StaysButScratch, StaysButSlots}
use Rattle.oak_map.specs.Putting.{StaysAsUsed}

pub scratch_both : (p q r : Pass) → StaysButScratch p q → StaysButScratch q r → StaysButScratch p r
scratch_both p q r a b = record { table = b.table ∙ a.table; seat = b.seat ∙ a.seat; call = b.call ∙ a.call; scratch = refl; sorting = b.sorting ∙ a.sorting }

-- so does one in which the call works as it uses it
pub used_both : (used : Bool) (p q r : Pass) → StaysAsUsed used p q → StaysAsUsed used q r → StaysAsUsed used p r
used_both used p q r a b = record { table = b.table ∙ a.table; seat = b.seat ∙ a.seat; call = b.call ∙ a.call; scratch = λ e. b.scratch e ∙ a.scratch e }

-- with a call behind it that works in its slots
pub used_then : (used : Bool) (p q r s : Pass) → StaysAsUsed used p q → StaysAsUsed used q r → StaysButSlots r s → StaysAsUsed used p s
used_then used p q r s a b c = record { table = c.table ∙ (b.table ∙ a.table); seat = c.seat ∙ (b.seat ∙ a.seat); call = c.call ∙ (b.call ∙ a.call); scratch = λ e. c.scratch ∙ (b.scratch e ∙ a.scratch e) }
