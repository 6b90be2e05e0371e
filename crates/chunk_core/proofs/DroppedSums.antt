-- How many carried entries are dropped with a key word: none, where the ranges stay as they are, or one, whose block the word names.
use Rattle.std.proofs.Common.{◌≡◌, ℕ, ◌+◌, ◌-◌, ◌*◌, ◌<◌, cond, Bool, true, false, List, [], ◌∷◌, map, sym, refl, ap, ◌∙◌, arith, nat_lt, lt-ltb}
use Rattle.std.specs.Prelude.{filter, not}
use mathlib.Core.Option.{some}
use lib.ListN.{get_elem?}
use Rattle.oak_model.specs.Counts.{one_at, one_if, total, Each}
use Rattle.oak_model.specs.Limits.{Sizes}
use Rattle.oak_model.proofs.Counting.{one_at-same, test-cases}
use Rattle.oak_model.proofs.MemberLaws.{filter-cases, filter_all}
use Rattle.oak_model.proofs.SumLaws.{times-one}
use Rattle.chunk_core.specs.declared.holds.Carried.{Carried}
use Rattle.chunk_core.specs.declared.holds.MovingRange.{MovingRange}
use Rattle.chunk_core.specs.declared.holds.RoomHolds.{RoomHolds}
use Rattle.chunk_core.specs.CoverRule.{CoversPartition}
use Rattle.chunk_core.specs.CoverSums.{all_of, each, owning, owners_in_rooms}
use Rattle.chunk_core.specs.Covers.{Cover, Entry, entry_from, key_at, moving_of, cover_from}
use Rattle.chunk_core.specs.KeyWords.{key_in}
use Rattle.chunk_core.specs.MovingRanges.{base_with, drops, greater, is_dropped, range_without}
use Rattle.chunk_core.specs.RoomRule.{AreTrueRanges}
use Rattle.chunk_core.specs.Rooms.{RoomMemory}
use Rattle.chunk_core.proofs.DroppedEntries.{dropped_by, dropped_is, with_dropped, ranges_split}

passed : (word : ℕ) (cs : List Carried) → total (λ (c : Carried). 1) (filter (is_dropped word) cs) ≡ total (λ (c : Carried). one_if (is_dropped word c)) cs
unfolding total
passed word [] = refl
passed word (c ∷ cs) = let t = passed word cs in test-cases (is_dropped word c) (λ b. total (λ (y : Carried). 1) (cond b (c ∷ filter (is_dropped word) cs) (filter (is_dropped word) cs)) ≡ one_if b + total (λ (y : Carried). one_if (is_dropped word y)) cs) (λ _. omega arith) (λ _. omega arith)

-- how many entries are dropped is added up over what is dropped
pub drops_are : (word : ℕ) (gs : List MovingRange) → total (dropped_by (λ _. 1) word) gs ≡ drops word gs
unfolding total
drops_are word [] = refl
drops_are word (g ∷ gs) = let t = drops_are word gs in let e = passed word g.carried in omega arith

base_stays : (word base : ℕ) (cs : List Carried) → total (λ (c : Carried). one_if (is_dropped word c)) cs ≡ 0 → base_with word base cs ≡ base
unfolding base_with total
base_stays word base [] e = refl
base_stays word base (c ∷ cs) e = let t = base_stays word base cs (omega arith) in
    test-cases (is_dropped word c) (λ b. one_if b + total (λ (y : Carried). one_if (is_dropped word y)) cs ≡ 0 → cond b (greater c.value (base_with word base cs)) (base_with word base cs) ≡ base) (λ _ h. absurd (omega arith)) (λ _ _. t) e

not_dropped : (b : Bool) → one_if b ≡ 0 → not b ≡ true
not_dropped true e = absurd (omega arith)
not_dropped false e = refl

-- where none is dropped the ranges stay
pub ranges_stay : (word : ℕ) (gs : List MovingRange) → drops word gs ≡ 0 → map (range_without word) gs ≡ gs
unfolding total
ranges_stay word [] e = refl
ranges_stay word (g ∷ gs) e = let t = ranges_stay word gs (omega arith) in let b = base_stays word g.base g.carried (omega arith) in
    let f = filter_all (λ c. not (is_dropped word c)) (λ (c : Carried). one_if (is_dropped word c)) g.carried (λ c h. not_dropped (is_dropped word c) h) (omega arith) in λ j. record g { base = b j; carried = f j } ∷ t j

-- what counts alike for each entry that is dropped

alike_in : (content : ℕ → List ℕ) (word y : ℕ) (f : Entry → ℕ) → ((c : Carried) → is_dropped word c ≡ true → content c.word ≡ c.words → f (entry_from c) ≡ y) → (cs : List Carried) → Each (λ (c : Carried). content c.word ≡ c.words) cs
    → total (λ (c : Carried). f (entry_from c)) (filter (is_dropped word) cs) ≡ total (λ (c : Carried). 1) (filter (is_dropped word) cs) * y
unfolding total
alike_in content word y f h [] t = omega arith
alike_in content word y f h (c ∷ cs) t = let r = alike_in content word y f h cs t.1 in
    filter-cases (is_dropped word) c cs (λ l. total (λ (x : Carried). f (entry_from x)) l ≡ total (λ (x : Carried). 1) l * y) (λ d. let e = h c d t.0 in let q = one_more (total (λ (x : Carried). 1) (filter (is_dropped word) cs)) y in omega arith) (λ _. r)
  where
    one_more : (n y : ℕ) → (1 + n) * y ≡ y + n * y
    one_more n y = grind arith

dropped_alike : (content : ℕ → List ℕ) (word y : ℕ) (f : Entry → ℕ) → ((c : Carried) → is_dropped word c ≡ true → content c.word ≡ c.words → f (entry_from c) ≡ y) → (gs : List MovingRange) → AreTrueRanges content gs → total (dropped_by f word) gs ≡ total (dropped_by (λ _. 1) word) gs * y
unfolding total
dropped_alike content word y f h [] t = omega arith
dropped_alike content word y f h (g ∷ gs) t = let a = alike_in content word y f h g.carried t.0 in let r = dropped_alike content word y f h gs t.1 in
    let q = both (total (λ (c : Carried). 1) (filter (is_dropped word) g.carried)) (total (dropped_by (λ _. 1) word) gs) y in omega arith
  where
    both : (n k y : ℕ) → (n + k) * y ≡ n * y + k * y
    both n k y = grind arith

-- A key word is taken away from a held room, and carried entries of that word with it.
module _ (z : Sizes) (m m' : RoomMemory) (content : ℕ → List ℕ) (is_key_word : ℕ → ℕ) (hs hs' : List RoomHolds) (parts : CoversPartition z m content is_key_word hs) (seat : ℕ) (a b : RoomHolds) (here : get_elem? hs seat ≡ some a) (true_to : AreTrueRanges content a.moving)
    (word : ℕ) (moving : b.moving ≡ map (range_without word) a.moving) (step : (F : Cover → ℕ) → all_of z m' content hs' F + total F (moving_of a) ≡ all_of z m content hs F + total F (moving_of b)) (some_dropped : 0 < drops word a.moving) where
  -- all that are dropped have one key, so there is one
  pub one_dropped : total (dropped_by (λ _. 1) word) a.moving ≡ 1
  one_dropped = let k : ℕ = key_at content word in let d = with_dropped z m m' content is_key_word hs hs' parts seat a b here true_to word moving step (λ x. one_at x.key k) in
      let q = dropped_alike content word 1 (λ x. one_at x.key k) (λ c y t. one_at-same (key_in c.word c.words) k (ap (key_in c.word) (sym t) ∙ ap (key_at content) (dropped_is word c y).0)) a.moving true_to in
      let o = parts.once k in let e = drops_are word a.moving in omega arith

  -- the block that its word names has one entry less
  pub owners_fewer : 0 < word → (names_it : ℕ → ℕ) → owners_in_rooms z m' content hs' names_it + total (each (owning names_it)) (moving_of a) ≡ owners_in_rooms z m content hs names_it + total (each (owning names_it)) (moving_of b) → owners_in_rooms z m' content hs' names_it + names_it word ≡ owners_in_rooms z m content hs names_it
  owners_fewer pos names_it owned = let d = ranges_split (λ x. one_if (nat_lt 0 x.word) * names_it x.word) word a.moving in let e = ap (λ (gs : List MovingRange). total (each (owning names_it)) (map cover_from gs)) moving in
      let q = dropped_alike content word (names_it word) (λ x. one_if (nat_lt 0 x.word) * names_it x.word) (λ c y t. ap (λ (w : ℕ). one_if (nat_lt 0 w) * names_it w) (dropped_is word c y).0 ∙ times-one (one_if (nat_lt 0 word)) (names_it word) (ap one_if (lt-ltb 0 word pos))) a.moving true_to in
      let o = times-one (total (dropped_by (λ _. 1) word) a.moving) (names_it word) one_dropped in omega arith

  -- and is a key word
  pub dropped_placed : 1 - is_key_word word ≡ 0
  dropped_placed = let d = with_dropped z m m' content is_key_word hs hs' parts seat a b here true_to word moving step (λ x. 1 - is_key_word x.word) in
      let q = dropped_alike content word (1 - is_key_word word) (λ x. 1 - is_key_word x.word) (λ c y t. ap (λ (w : ℕ). 1 - is_key_word w) (dropped_is word c y).0) a.moving true_to in
      let o = times-one (total (dropped_by (λ _. 1) word) a.moving) (1 - is_key_word word) one_dropped in let p = parts.placed in omega arith
