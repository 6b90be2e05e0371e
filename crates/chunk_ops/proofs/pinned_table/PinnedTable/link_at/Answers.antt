use Rattle.std.proofs.Common.{◌≡◌, ℕ, sym, ap, ◌∙◌, subst, Option, Some}
use Rattle.oak_model.specs.Limits.{Sizes}
use Rattle.chunk_core.specs.LinkWords.{link_spot}
use Rattle.chunk_core.specs.Rooms.{IsInRooms, at_next}
use Rattle.oak_core.specs.Memory.{in_rooms, index}
use Rattle.oak_core.specs.Passes.{key}
use Rattle.chunk_ops.proofs.pinned_table.PinnedTable.link_at.Goals as goal

-- where a link lies that is no first one
there : (z : Sizes) (r i : ℕ) (o : Option ℕ) → o ≡ Some i → IsInRooms z (link_spot r o) → IsInRooms z (at_next r i)
there z r i o e inside = subst (λ (p : Option ℕ). IsInRooms z (link_spot r p)) e inside

pub returns-in-None : goal.returns-in-None
returns-in-None c = c.first_at.ensures ∙ ap (λ (o : Option ℕ). index (key c.args.self.now.table.now) (in_rooms (link_spot c.args.self.now.room o))) (sym c.in-None.is)

pub next_at-requires-clause-inside : goal.next_at-requires-clause-inside
next_at-requires-clause-inside c = there (key c.args.self.now.table.now) c.args.self.now.room c.in-Some.entry c.args.from c.in-Some.is c.requires.inside

pub returns-in-Some : goal.returns-in-Some
returns-in-Some c = c.next_at.ensures ∙ ap (λ (o : Option ℕ). index (key c.args.self.now.table.now) (in_rooms (link_spot c.args.self.now.room o))) (sym c.in-Some.is)
