-- A store to the block of a locked header leaves what its pass knows of the keys of the headers that it holds.
use Rattle.std.proofs.Common.{◌≡◌, ◌==◌, not, cond, ℕ, ◌*◌, List}
use Rattle.std.specs.Prelude.{slice_set}
use Rattle.oak_model.specs.Counts.{one_at, one_if, Each}
use Rattle.oak_model.proofs.Counting.{total_map}
use Rattle.oak_model.proofs.Lists.{each_map, each_map_list}
use Rattle.header_core.specs.declared.states.TheConstants.{DEAD}
use Rattle.header_core.specs.declared.holds.HeaderHolds.{HeaderHolds}
use Rattle.header_core.specs.declared.holds.HeldAs.{HeldAs}
use Rattle.header_core.specs.declared.holds.HeldAs.TheVariants.{Owned, Fresh, Locked, Buried}
use Rattle.header_core.specs.declared.holds.HeldHeader.{HeldHeader}
use Rattle.header_core.specs.HeaderHolds.{held_state}
use Rattle.header_core.specs.HeaderStep.{reworded}
use Rattle.oak_core.specs.declared.states.KeyedWrite.{KeyedWrite}
use Rattle.oak_core.specs.KeyStates.{HoldStands, unnamed}

-- it speaks of no word of a block
hold_reworded : (word : ℕ → ℕ) (hist : ℕ → List KeyedWrite) (s : HeldAs) (r : HeldHeader) (ws : List ℕ) → HoldStands word hist s r → HoldStands word hist s (record r { words = ws })
hold_reworded word hist Owned r ws p = p
hold_reworded word hist Fresh r ws p = p
hold_reworded word hist (Locked at) r ws p = record { named = p.named; flag = p.flag; key = p.key; state = p.state; stamp = p.stamp }
hold_reworded word hist Buried r ws p = record { named = p.named; removed = p.removed }

pub holds_reworded : (h k x : ℕ) (word : ℕ → ℕ) (hist : ℕ → List KeyedWrite) (rs : List HeldHeader) → Each (λ (r : HeldHeader). HoldStands word hist r.held_as r) rs → Each (λ (r : HeldHeader). HoldStands word hist r.held_as r) (reworded h k x rs)
holds_reworded h k x word hist rs p = each_map_list (λ (r : HeldHeader). record r { words = cond (r.header == h) (slice_set r.words k x) r.words }) (λ (r : HeldHeader). HoldStands word hist r.held_as r) rs
    (each_map (λ (r : HeldHeader). HoldStands word hist r.held_as r) (λ (r : HeldHeader). HoldStands word hist r.held_as (record r { words = cond (r.header == h) (slice_set r.words k x) r.words })) rs
    (λ r q. hold_reworded word hist r.held_as r (cond (r.header == h) (slice_set r.words k x) r.words) q) p)

-- nor does the number of headers that no entry names
pub unnamed_reworded : (h k x i : ℕ) (a : HeaderHolds) → unnamed i (record a { held = reworded h k x a.held }) ≡ unnamed i a
unnamed_reworded h k x i a = total_map (λ (r : HeldHeader). record r { words = cond (r.header == h) (slice_set r.words k x) r.words }) (λ (r : HeldHeader). one_at r.header i * one_at (held_state r.held_as) DEAD * one_if (not r.named)) a.held
