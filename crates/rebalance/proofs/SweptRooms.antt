-- A room that is opened with a value in each entry: its range is swept.
use Rattle.std.proofs.Common.{◌≡◌, ℕ, ◌-◌, cond, Bool, List, [], ◌∷◌, sym, refl, ap, ◌∙◌, inl, inr, arith, eq-eqb, Some}
use Rattle.std.specs.List.{filter}
use Rattle.oak_model.specs.Counts.{total, Has}
use Rattle.oak_model.specs.Limits.{Sizes}
use Rattle.chunk_core.specs.declared.holds.Carried.{Carried}
use Rattle.chunk_core.specs.declared.holds.EntryWords.{EntryWords}
use Rattle.chunk_core.specs.declared.holds.MovingRange.{MovingRange}
use Rattle.chunk_core.specs.declared.holds.RoomCopy.{RoomCopy}
use Rattle.chunk_core.specs.KeyWords.{low_bytes, high_bytes}
use Rattle.chunk_core.specs.MayOnRooms.{MayOpenRoom}
use Rattle.chunk_core.specs.MovingRanges.{is_upper}
use Rattle.chunk_core.specs.ValueWord.{names_header}
use Rattle.oak_core.specs.declared.states.Swept.{Swept}
use Rattle.oak_core.specs.Sweeping.{valueless, sweep}
use Rattle.rebalance.specs.Copies.{AllLinked}
use Rattle.rebalance.specs.Mirrors.{Mirrors}
use Rattle.rebalance.proofs.DroppedRange.{filter_has}
use Rattle.rebalance.proofs.LinkedCopies.{linked_are}

-- where each entry of a range has a value, none lacks one
pub none_lacks : (cs : List Carried) → ((c : Carried) → Has c cs → names_header c.value ≡ 1) → total (λ (c : Carried). 1 - names_header c.value) cs ≡ 0
unfolding total
none_lacks [] h = refl
none_lacks (c ∷ cs) h = let a = h c (inl refl) in let t = none_lacks cs (λ x m. h x (inr m)) in omega arith

-- a room that mirrors a range with a value in each entry, each of which is linked
pub mirrors_valued : (z : Sizes) (w : RoomCopy) (g : MovingRange) → Mirrors z w g → AllLinked w → ((c : Carried) → Has c g.carried → names_header c.value ≡ 1) → valueless w ≡ 0
mirrors_valued z w g mirrors all valued = ap (total (λ (e : EntryWords). 1 - names_header e.value)) (sym (linked_are w all)) ∙ (mirrors.entries (λ _ v. 1 - names_header v) ∙ none_lacks g.carried valued)

-- and one that may be opened over the upper part of such a range
pub opens_valued : (z : Sizes) (w : RoomCopy) (gs : List MovingRange) (opens : MayOpenRoom z w gs) → ((c : Carried) → Has c opens.range.carried → names_header c.value ≡ 1) → valueless w ≡ 0
opens_valued z w gs opens valued = opens.entries (λ _ v. 1 - names_header v) ∙ none_lacks (filter (is_upper w) opens.range.carried) (λ c m. valued c (filter_has (is_upper w) opens.range.carried c m))

-- what is swept with it
pub sweep_is : (w : RoomCopy) (met : ℕ) → valueless w ≡ 0 → sweep (Some w) met ≡ record { low = low_bytes w.low; high = high_bytes w.high; met = met } ∷ []
sweep_is w met e = let s : Swept = record { low = low_bytes w.low; high = high_bytes w.high; met = met } in ap (λ (b : Bool). cond b (s ∷ []) []) (eq-eqb (valueless w) 0 e)
