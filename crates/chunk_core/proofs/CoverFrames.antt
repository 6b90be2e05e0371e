-- Where nothing changes that is added up over the covers, the points on them stay.
use Rattle.std.proofs.Common.{◌≡◌, ℕ, ◌≤◌, List, sym, ◌∙◌, subst}
use Rattle.oak_model.specs.Limits.{Sizes}
use Rattle.chunk_core.specs.declared.holds.RoomHolds.{RoomHolds}
use Rattle.chunk_core.specs.CoverRule.{CoversPartition}
use Rattle.chunk_core.specs.CoverSums.{all_of}
use Rattle.chunk_core.specs.Covers.{Cover}
use Rattle.chunk_core.specs.Rooms.{RoomMemory}

pub partition_same : (z : Sizes) (m m' : RoomMemory) (content content' : ℕ → List ℕ) (is_key_word : ℕ → ℕ) (hs hs' : List RoomHolds) → ((F : Cover → ℕ) → all_of z m' content' hs' F ≡ all_of z m content hs F) → CoversPartition z m content is_key_word hs → CoversPartition z m' content' is_key_word hs'
partition_same z m m' content content' is_key_word hs hs' same p = record {
  covered = λ k. same _ ∙ p.covered k;
  once = λ k. subst (λ (t : ℕ). t ≤ 1) (sym (same _)) (p.once k);
  inside = same _ ∙ p.inside;
  placed = same _ ∙ p.placed;
  begun = same _ ∙ p.begun;
  keyed = same _ ∙ p.keyed;
  bases = same _ ∙ p.bases;
}
