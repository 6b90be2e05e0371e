-- A lone pass that went on without writing had seen all there is at an earlier moment.
use Rattle.std.proofs.Common.{◌≡◌, ℕ, ◌==◌, List, cond, sym, refl, ap, ◌∙◌}
use Rattle.oak_model.specs.Limits.{Sizes}
use Rattle.chunk_ops.specs.RoomPins.{HadMoment}
use Rattle.oak_core.specs.declared.states.PassState.{PassState}
use Rattle.oak_core.specs.Closing.{all_passes}
use Rattle.oak_core.specs.PassState.{IsAlone, of_key, seen_of}
use Rattle.oak_core.specs.Splitting.{Ends}
use Rattle.oak_core.proofs.seats.Alone.{ends}
use Rattle.oak_run.specs.Reads.{OnlyReads}
use Rattle.oak_run.proofs.CallerParts.{begins-all}
use Rattle.oak_run.proofs.EndedWrites.{ended_writes, mine_in}

-- at that moment the rule held, every other pass was spent, and the histories were what it had seen
pub ends_then : (z : Sizes) (v : PassState) (had : HadMoment z v) → IsAlone v → Ends z had.0 v
ends_then z v had alone = let m = had.1 in ends z record { words = had.0; states = m.states } m.rule m.seat v m.here alone had.0 refl

-- what each caller wrote stays
same_mine : (v w : PassState) → OnlyReads v w → (i : ℕ) → mine_in i (all_passes w) ≡ mine_in i (all_passes v)
same_mine v w reads i = λ t. cond ((reads.numbers t).number == i) (reads.mine t) (mine_in i (reads.numbers t).joined)

pub all_seen : (z : Sizes) (words : List ℕ) (v w : PassState) → HadMoment z v → IsAlone v → OnlyReads v w → Ends z words w → IsAlone w → (k : ℕ) → seen_of k v.knowledge ≡ seen_of k w.knowledge
all_seen z words v w had alone reads closed lone k = begins-all (seen_of k v.knowledge) (seen_of k w.knowledge) (reads.extends k) (λ i.
    (ended_writes z words w closed lone i).same k
    ∙ (ap (of_key k) (same_mine v w reads i)
    ∙ sym ((ended_writes z had.0 v (ends_then z v had alone) alone i).same k)))
