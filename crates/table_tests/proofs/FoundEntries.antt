-- An entry that was found next to a key, or along a link, is one that has a key.
use Rattle.std.proofs.Common.{ℕ, List, refl, IfSome, MatchOption, Option, Some, None}
use Rattle.oak_model.specs.Limits.{Sizes}
use Rattle.chunk_core.specs.declared.holds.FoundEntry.{FoundEntry}
use Rattle.chunk_core.specs.KeyWords.{key_bytes}
use Rattle.chunk_core.specs.MayOnRooms.{FindsEntry}
use Rattle.oak_core.specs.declared.states.PassState.{PassState}
use Rattle.chunk_ops.specs.declared.entries.EntryNo.{EntryNo}
use Rattle.chunk_ops.specs.Ways.{Way}
use Rattle.chunk_ops.specs.Finds.{FindsNearest, FindsNone}
use Rattle.chunk_ops.specs.Listing.{StepsTo}
use Rattle.chunk_ops.specs.PinRecords.{HasEntry, room_pin}

finds_has : (r i : ℕ) (w : PassState) (e : FoundEntry) → FindsEntry r i w.rooms (room_pin w) e → (k : List ℕ) × HasEntry r i k w
finds_has r i w e finds = (key_bytes e.word e.words, record { entry = e; finds = finds; key_is = refl })

pub nearest_has : (z : Sizes) (call r : ℕ) (way : Way) (bound : Option (List ℕ)) (v w : PassState) (o : Option EntryNo)
    → MatchOption o (FindsNone z call r way bound v w) (λ i. FindsNearest z call r way bound i.0 v w) → IfSome o (λ i. (k : List ℕ) × HasEntry r i.0 k w)
nearest_has z call r way bound v w None n = tt
nearest_has z call r way bound v w (Some i) n = finds_has r i.0 w n.entry n.finds

pub step_has : (z : Sizes) (call r : ℕ) (from : Option EntryNo) (i : EntryNo) (v w : PassState) → StepsTo z call r from (Some i) v w → (k : List ℕ) × HasEntry r i.0 k w
step_has z call r from i v w t = finds_has r i.0 w t.is.0 t.is.1
