-- The entries in use that have a key: in a room without claims they are the linked ones, and own the same blocks.
use Rattle.std.proofs.Common.{◌≡◌, ℕ, zero, suc, ◌*◌, ◌<◌, List, sym, refl, ap, ◌∙◌, arith, lt-ltb}
use Rattle.std.specs.Prelude.{nat_lt}
use mathlib.Core.Logic.{dite}
use native.Mathlib.Decide.{ℕ_discrete}
use Rattle.oak_model.specs.Counts.{one_if, one_at, total}
use Rattle.oak_model.specs.Limits.{Sizes}
use Rattle.oak_model.proofs.Counting.{total_map}
use Rattle.oak_model.proofs.SumLaws.{times-one, times-none}
use Rattle.chunk_core.specs.declared.holds.RoomHolds.{RoomHolds}
use Rattle.chunk_core.specs.CoverSums.{weight, each, owning}
use Rattle.chunk_core.specs.Covers.{cover_at, used_at, entry_at, span_in}
use Rattle.chunk_core.specs.LinkedEntries.{linked, in_use, first_numbers, entries_in}
use Rattle.chunk_core.specs.RoomHolds.{claims_on}
use Rattle.chunk_core.specs.RoomRule.{RoomsStand}
use Rattle.chunk_core.specs.Rooms.{RoomMemory}
use Rattle.chunk_core.proofs.Chains.{total_spread}
use Rattle.chunk_core.proofs.CoverLaws.{room_total}

-- sums over the numbers below n whose parts are one another's
pub numbers_same : (f g : ℕ → ℕ) (n : ℕ) → ((i : ℕ) → i < n → f i ≡ g i) → total f (first_numbers n) ≡ total g (first_numbers n)
unfolding total first_numbers
numbers_same f g zero h = refl
numbers_same f g (suc n) h = let t = numbers_same f g n (λ i l. h i (omega arith)) in let e = h n (omega arith) in omega arith

module _ (z : Sizes) (m : RoomMemory) (content : ℕ → List ℕ) (hs : List RoomHolds) (rule : RoomsStand z m content hs) (r : ℕ) (cover : weight (m.pin r) ≡ 1) (free : (i : ℕ) → total (claims_on r i) hs ≡ 0) where
  -- an entry in use that has a key is linked
  pub keyed_linked : (i : ℕ) → i < entries_in (m.count r) → 0 < m.key r i → total (λ j. one_at j i) (linked m r) ≡ 1
  keyed_linked i l k = let e = rule.keyed r i cover l in let f = free i in let t = ap one_if (lt-ltb 0 (m.key r i) k) in let o = rule.either r i cover in omega arith

  -- so what is nothing of an entry without a key is added up over the ones as over the others
  pub used_linked : (h : ℕ → ℕ) → ((i : ℕ) → m.key r i ≡ 0 → h i ≡ 0) → total h (in_use m r) ≡ total h (linked m r)
  used_linked h none = numbers_same h (λ i. total (λ j. one_at j i) (linked m r) * h i) (entries_in (m.count r)) one ∙ sym (total_spread h (entries_in (m.count r)) (linked m r) (rule.ordered r cover).used)
    where
      one : (i : ℕ) → i < entries_in (m.count r) → h i ≡ total (λ j. one_at j i) (linked m r) * h i
      one i l = dite (ℕ_discrete (m.key r i) 0)
          (λ e. none i e ∙ sym (ap (λ (t : ℕ). total (λ j. one_at j i) (linked m r) * t) (none i e) ∙ (let u : total (λ j. one_at j i) (linked m r) * 0 ≡ 0 = omega arith in u)))
          (λ ne. sym (times-one (total (λ j. one_at j i) (linked m r)) (h i) (keyed_linked i l (omega arith))))

  -- the room's linked entries own the blocks that its entries in use own
  pub used_owners : (names_it : ℕ → ℕ) → each (owning names_it) (used_at m content r) ≡ each (owning names_it) (cover_at m content r)
  used_owners names_it = total_map (entry_at m content r) (owning names_it (span_in m r)) (in_use m r)
      ∙ (used_linked (λ i. owning names_it (span_in m r) (entry_at m content r i)) (λ i e. times-none (one_if (nat_lt 0 (m.key r i))) (names_it (m.key r i)) (ap (λ (t : ℕ). one_if (nat_lt 0 t)) e))
      ∙ sym (room_total m content r (owning names_it)))
