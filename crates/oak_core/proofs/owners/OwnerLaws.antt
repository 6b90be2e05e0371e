-- Owners of blocks that are headers, where the words of one header change.
use Rattle.std.proofs.Common.{◌≡◌, ◌≢◌, ℕ, zero, suc, ◌+◌, ◌*◌, ◌<◌, ◌≤◌, cond, nat_lt, List, get_or, sym, refl, subst, arith, ltb-true}
use mathlib.Core.Logic.{dite}
use native.Mathlib.Decide.{ℕ_discrete}
use Rattle.pin_word.specs.PinWord.{state_of}
use Rattle.oak_model.specs.Limits.{Sizes}
use Rattle.oak_model.specs.Counts.{one_at, below}
use Rattle.oak_model.proofs.Counting.{test-cases, one_at-same, below_at, below_same}
use Rattle.arena_core.specs.Place.{IsPlace, class_in, block_in, names_block}
use Rattle.arena_core.proofs.PlaceLaws.{class_below}
use Rattle.header_core.specs.Headers.{HeaderMemory, at_pin}
use Rattle.header_core.specs.HeaderRule.{stocked}
use Rattle.oak_core.specs.Memory.{in_headers, index, number_at, memory}
use Rattle.oak_core.specs.Owners.{has_block, other_owners}

-- a header that is not free is one of the table's
pub used_inside : (z : Sizes) (ws : List ℕ) (h : ℕ) → 0 < state_of ((memory z ws).headers.pin h) → h < z.headers
unfolding number_at state_of
used_inside z ws h = test-cases (nat_lt h z.headers) (λ t. 0 < state_of (cond t (get_or ws (index z (in_headers (at_pin h))) 0) 0) → h < z.headers) (λ t _. ltb-true h z.headers t) (λ f pos. absurd (omega arith))

stocked_used : (s : ℕ) → 0 < stocked s → 0 < s
unfolding one_at
stocked_used zero l = absurd (omega arith)
stocked_used (suc s) l = omega arith

-- so is one that has a block
pub live_inside : (z : Sizes) (ws : List ℕ) (h : ℕ) → 0 < stocked (state_of ((memory z ws).headers.pin h)) → h < z.headers
live_inside z ws h pos = used_inside z ws h (stocked_used (state_of ((memory z ws).headers.pin h)) pos)

-- sums of which no number counts, or each no more than in another

pub below_zero : (f : ℕ → ℕ) (n : ℕ) → ((h : ℕ) → f h ≡ 0) → below f n ≡ 0
unfolding below
below_zero f zero none = refl
below_zero f (suc n) none = let t = below_zero f n none in let u = none n in omega arith

pub below_le : (f g : ℕ → ℕ) (n : ℕ) → ((k : ℕ) → f k ≤ g k) → below f n ≤ below g n
unfolding below
below_le f g zero le = omega arith
below_le f g (suc n) le = let t = below_le f g n le in let u = le n in omega arith

-- a sum in which one number counts otherwise
pub below_other : (f g : ℕ → ℕ) (n h : ℕ) → h < n → ((k : ℕ) → k ≢ h → f k ≡ g k) → below f n + g h ≡ below g n + f h
unfolding below
below_other f g zero h lt same = absurd (omega arith)
below_other f g (suc n) h lt same = dite (ℕ_discrete h n)
    (λ e. let s = below_same f g n (λ k l. same k (λ q. omega arith)) in subst (λ (i : ℕ). (below f n + f n) + g i ≡ (below g n + g n) + f i) (sym e) (omega arith))
    (λ ne. let t = below_other f g n h (omega arith) same in let u = same n (λ q. ne (sym q)) in omega arith)

-- of one sum no more than of another, and of one number less by so much
pub below_less : (f g : ℕ → ℕ) (n h : ℕ) → h < n → ((k : ℕ) → f k ≤ g k) → below f n + g h ≤ below g n + f h
unfolding below
below_less f g zero h lt le = absurd (omega arith)
below_less f g (suc n) h lt le = dite (ℕ_discrete h n)
    (λ e. let s = below_le f g n le in subst (λ (i : ℕ). (below f n + f n) + g i ≤ (below g n + g n) + f i) (sym e) (omega arith))
    (λ ne. let t = below_less f g n h (omega arith) le in let u = le n in omega arith)

-- the words of the header h change alone
pub owners_put : (z : Sizes) (m m' : HeaderMemory) (h c b : ℕ) → h < z.headers → ((k : ℕ) → k ≢ h → has_block m' c b k ≡ has_block m c b k) → other_owners z m' c b + has_block m c b h ≡ other_owners z m c b + has_block m' c b h
owners_put z m m' h c b lt same = below_other (has_block m' c b) (has_block m c b) z.headers h lt same

-- and it has a block neither before nor after, or the same one
pub owners_same : (z : Sizes) (m m' : HeaderMemory) (c b : ℕ) → ((k : ℕ) → has_block m' c b k ≡ has_block m c b k) → other_owners z m' c b ≡ other_owners z m c b
owners_same z m m' c b same = below_same (has_block m' c b) (has_block m c b) z.headers (λ k _. same k)

-- the place word names a class of the table
pub place_below : (word : ℕ) → IsPlace word → class_in word < 4
place_below word p = let e = p.is_in in let b = class_below p.class in omega arith

pub owner_counts : (z : Sizes) (m : HeaderMemory) (h c b : ℕ) → h < z.headers → has_block m c b h ≤ other_owners z m c b
owner_counts z m h c b lt = below_at (has_block m c b) z.headers h lt

-- the word names one block
pub names_itself : (word : ℕ) → names_block (class_in word) (block_in word) word ≡ 1
names_itself word = let a = one_at-same (class_in word) (class_in word) refl in let b = one_at-same (block_in word) (block_in word) refl in (λ i. a i * b i)
