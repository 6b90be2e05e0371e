-- There are no more pins than passes, so the count of a pin word has room for one more.
use Rattle.std.proofs.Common.{◌≡◌, ℕ, zero, suc, ◌+◌, ◌^◌, ◌<◌, ◌≤◌, cond, Bool, false, List, [], ◌∷◌, map, refl, ap, ◌∙◌, arith}
use Rattle.std.proofs.lemmas.Nat.Bits.{bit_at-lt}
use mathlib.Core.Option.{some}
use mathlib.Core.Logic.{dite}
use native.Mathlib.Decide.{dec_lt}
use lib.ListN.{get_elem?}
use Rattle.oak_model.specs.Limits.{Sizes}
use Rattle.oak_model.specs.Counts.{one_at, total, below, Every}
use Rattle.oak_model.proofs.Counting.{test-cases, one_at-same, total_map, total_at, below_at}
use Rattle.oak_model.proofs.Lists.{at_map}
use Rattle.header_core.specs.HeaderHolds.{pins_on}
use Rattle.header_core.proofs.HeaderFacts.{pins_most}
use Rattle.chunk_core.specs.RoomRule.{room_pins}
use Rattle.chunk_core.proofs.RoomPins.{room_pins_most}
use Rattle.oak_core.specs.declared.states.Numbers.{Numbers}
use Rattle.oak_core.specs.declared.states.PassState.{PassState}
use Rattle.oak_core.specs.Memory.{memory}
use Rattle.oak_core.specs.PassState.{headers_held, rooms_held, numbers_of, has_number, spent_state}
use Rattle.oak_core.specs.TableState.{TableState}
use Rattle.oak_core.specs.Rule.{NumbersStand, Rule}
use Rattle.oak_core.proofs.owners.HeaderSums.{total_of_below}

total_le_every : {A : Type 0} (f g : A → ℕ) (xs : List A) → Every (λ x. f x ≤ g x) xs → total f xs ≤ total g xs
unfolding total
total_le_every f g [] h = omega arith
total_le_every f g (x ∷ xs) h = let a = h zero x refl in let t = total_le_every f g xs (λ j y e. h (suc j) y e) in omega arith

below_ones : (f : ℕ → ℕ) (n : ℕ) → ((k : ℕ) → f k ≤ 1) → below f n ≤ n
unfolding below
below_ones f zero h = omega arith
below_ones f (suc n) h = let a = h n in let t = below_ones f n h in omega arith

-- a pass that goes on has a number, which is one of the shape's
counted : (z : Sizes) (given : ℕ) (ns : List Numbers) → NumbersStand z given ns → (j : ℕ) (n : Numbers) → get_elem? ns j ≡ some n → n.spent ≡ false → 0 < below (λ k. has_number k n) z.passes
counted z given ns r j n at going = let own : 0 < has_number n.number n = let one = ap (λ (t : Bool). cond t 0 (one_at n.number n.number)) going in let same = one_at-same n.number n.number refl in omega arith in
    let most = total_at (has_number n.number) ns j n at in let o = r.owned n.number in
    let lt : n.number < z.passes = dite (dec_lt n.number z.passes) (λ l. l) (λ no. let f = r.few n.number (omega arith) in absurd (omega arith)) in
    let b = below_at (λ k. has_number k n) z.passes n.number lt in omega arith

-- of what a pass has at most once, and a pass with nothing left has none, there are no more than passes
few_of : (z : Sizes) (s : TableState) → Rule z s → (f : PassState → ℕ) → ((v : PassState) → f v ≤ 1) → f spent_state ≡ 0 → total f s.states + 1 < 2 ^ 28
few_of z s r f most none = let l = total_le_every f (λ (v : PassState). below (λ k. has_number k v.numbers) z.passes) s.states (λ j v at. one j v at) in
    let q = total_of_below (λ (v : PassState) (k : ℕ). has_number k v.numbers) s.states z.passes in
    let m = below_ones (λ k. total (λ (v : PassState). has_number k v.numbers) s.states) z.passes (λ k. let t = total_map numbers_of (has_number k) s.states in let o = r.numbers.owned k in let b = bit_at-lt (memory z s.words).given k in omega arith) in
    let g = r.sizes.passes_greatest in omega arith
  where
    one : (j : ℕ) (v : PassState) → get_elem? s.states j ≡ some v → f v ≤ below (λ k. has_number k v.numbers) z.passes
    one j v at = test-cases v.numbers.spent (λ t. v.numbers.spent ≡ t → f v ≤ below (λ k. has_number k v.numbers) z.passes)
        (λ _ spent. let e : f v ≡ 0 = ap f (r.spent j v at spent) ∙ none in omega arith)
        (λ _ going. let c = counted z (memory z s.words).given (map numbers_of s.states) r.numbers j v.numbers (at_map numbers_of s.states j v at) going in let m = most v in omega arith) refl

-- pins on a header
pub few_pins : (z : Sizes) (s : TableState) → Rule z s → (h : ℕ) → total (pins_on h) (map headers_held s.states) + 1 < 2 ^ 28
few_pins z s r h = let p = total_map headers_held (pins_on h) s.states in let f = few_of z s r (λ (v : PassState). pins_on h v.headers) (λ v. pins_most h v.headers) refl in omega arith

-- and on a room
pub few_room_pins : (z : Sizes) (s : TableState) → Rule z s → (k : ℕ) → total (room_pins k) (map rooms_held s.states) + 1 < 2 ^ 28
few_room_pins z s r k = let p = total_map rooms_held (room_pins k) s.states in let f = few_of z s r (λ (v : PassState). room_pins k v.rooms) (λ v. room_pins_most k v.rooms) refl in omega arith
