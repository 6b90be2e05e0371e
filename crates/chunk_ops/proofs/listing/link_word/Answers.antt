use Rattle.std.proofs.Common.{◌≡◌, ℕ, sym, ap, ◌∙◌, subst, Option, Some}
use Rattle.oak_model.specs.Limits.{Sizes}
use Rattle.chunk_core.specs.LinkWords.{link_spot}
use Rattle.chunk_core.specs.Rooms.{IsInRooms, at_next}
use Rattle.oak_core.specs.Memory.{in_rooms, index}
use Rattle.oak_core.specs.Passes.{key as sizes}
use Rattle.chunk_ops.specs.declared.entries.EntryNo.{EntryNo}
use Rattle.chunk_ops.specs.Listing.{number_of}
use Rattle.chunk_ops.proofs.listing.link_word.Goals as goal

-- where the link of an entry lies
there : (z : Sizes) (r : ℕ) (i : EntryNo) (o : Option EntryNo) → o ≡ Some i → IsInRooms z (link_spot r (number_of o)) → IsInRooms z (at_next r i.0)
there z r i o e inside = subst (λ (p : Option EntryNo). IsInRooms z (link_spot r (number_of p))) e inside

pub returns-in-None : goal.returns-in-None
returns-in-None c = c.first_at.ensures ∙ ap (λ (o : Option EntryNo). index (sizes c.args.table.now) (in_rooms (link_spot c.args.pin.now.room (number_of o)))) (sym c.in-None.is)

pub next_at-requires-clause-entry : goal.next_at-requires-clause-entry
next_at-requires-clause-entry c = (there (sizes c.args.table.now) c.args.pin.now.room c.in-Some.entry c.args.from c.in-Some.is c.requires.inside).1

pub returns-in-Some : goal.returns-in-Some
returns-in-Some c = c.next_at.ensures ∙ ap (λ (o : Option EntryNo). index (sizes c.args.table.now) (in_rooms (link_spot c.args.pin.now.room (number_of o)))) (sym c.in-Some.is)
