-- A place is counted from the sorted writes of a run.
use Rattle.std.proofs.Common.{◌≡◌, ℕ, suc, zero, ◌+◌, ◌-◌, ◌<◌, ◌≤◌, ◌≢◌, nat_eq, ◌&&◌, nat_le, Bool, true, false, cond, List, [], ◌∷◌, ◌++◌, length, map, get_or, drop, Ordering, Less, Equal, Greater, count_by, Option, Some, None, option_to_list, refl, sym, ap, ◌∙◌, arith}
use Rattle.std.specs.Option.{option_map_or}
use Rattle.std.specs.List.Sorted.{IsPermutation, IsPartitionedBy, IsPartitionPoint}
use Rattle.std.specs.Ordering.{ordering_then, ordering_reverse, nat_cmp, is_lt, is_le, is_eq, is_gt}
use Rattle.std.specs.Cmp.{IsTotalOrder, unsigned_ties}
use Rattle.std.specs.Cmp.Lexicographic.{pointwise, lists_ties}
use Rattle.std.proofs.lemmas.Cmp.{upto, on_total, then_total, nat_cmp_total, nat_list_cmp_total}
use Rattle.std.proofs.lemmas.List.Sorted.{sum_by-IsPermutation, sorted_far, ranks_by}
use Rattle.std.proofs.lemmas.List.Sums.{sum_by-cons, sum_by-append}
use Rattle.std.proofs.lemmas.Bool.Decides.{nat_tests}
use Rattle.oak_model.specs.declared.replies.Reply.{Reply}
use Rattle.oak_model.specs.Key.{key_cmp, same_key}
use Rattle.oak_script.specs.declared.scripts.Call.{Call}
use Rattle.oak_script.specs.declared.places.Stamped.{Stamped}
use Rattle.oak_script.proofs.Answered.{rest_from}
use Rattle.oak_script.specs.Places.{key_of, stamp_of, stamps_in, stamps_along, stamps_of, written_upto}
use Rattle.oak_script.specs.Stamps.{write_of, write_in, writes_along, writes_of, is_upto, as_pair, place_among, stamped_cmp, is_not_behind, AreInOrder, IsEndOf, next_place, places_along}

-- ---- the writes of all replies are counted key by key

count_one : (k : List ℕ) (at : ℕ) (key : Option (List ℕ)) (stamp : Option ℕ) → count_by (is_upto k at) (option_to_list (write_of key stamp)) ≡ count_by (λ s. nat_le s at) (cond (option_map_or (same_key k) key false) (option_to_list stamp) [])
count_one k at None stamp = refl
count_one k at (Some l) None = elim (same_key k l) as (λ b. 0 ≡ count_by (λ s. nat_le s at) (cond b [] [])) [ true ↦ refl | false ↦ refl ]
count_one k at (Some l) (Some s) =
    elim (same_key k l) as (λ b. 0 + cond (b && nat_le s at) 1 0 ≡ count_by (λ s. nat_le s at) (cond b (s ∷ []) [])) [ true ↦ refl | false ↦ refl ]

count_along : (k : List ℕ) (at : ℕ) (cs : List Call) (ys : List Reply) → count_by (is_upto k at) (writes_along cs ys) ≡ count_by (λ s. nat_le s at) (stamps_along cs ys k)
count_along k at [] ys = refl
count_along k at (c ∷ cs) [] = refl
count_along k at (c ∷ cs) (y ∷ ys) =
    let front = sum_by-append (λ w. cond (is_upto k at w) 1 0) (option_to_list (write_in c y)) (writes_along cs ys) in
    let back = sum_by-append (λ s. cond (nat_le s at) 1 0) (stamps_in c y k) (stamps_along cs ys k) in
    omega (arith, front, back, count_one k at (key_of c) (stamp_of y), count_along k at cs ys)

count_writes : (k : List ℕ) (at : ℕ) (ts : List (List Call)) (rs : List (List Reply)) → count_by (is_upto k at) (writes_of ts rs) ≡ written_upto ts rs k at
count_writes k at [] rs = refl
count_writes k at (t ∷ ts) [] = refl
count_writes k at (t ∷ ts) (r ∷ rs) =
    let front = sum_by-append (λ w. cond (is_upto k at w) 1 0) (writes_along t r) (writes_of ts rs) in
    let back = sum_by-append (λ s. cond (nat_le s at) 1 0) (stamps_along t r k) (stamps_of ts rs k) in
    omega (arith, front, back, count_along k at t r, count_writes k at ts rs)

count_pairs : (k : List ℕ) (at : ℕ) (ws : List Stamped) → count_by (is_upto k at) (map as_pair ws) ≡ place_among ws k at
count_pairs k at [] = refl
count_pairs k at (w ∷ ws) =
    let front = sum_by-cons (λ w. cond (is_upto k at w) 1 0) (as_pair w) (map as_pair ws) in
    let back = sum_by-cons (λ (w : Stamped). cond (is_upto k at (as_pair w)) 1 0) w ws in
    omega (arith, front, back, count_pairs k at ws)

-- a loop's step over the threads
pub writes_more : {T R : Type 0} (calls_of : T → List Call) (replies_of : R → List Reply) (ts : List T) (rs : List R) (i : ℕ) (t : T) (r : R) → i < length ts → i < length rs → t ≡ get_or ts i t → r ≡ get_or rs i r
    → writes_of (map calls_of (drop i ts)) (map replies_of (drop i rs)) ≡ writes_along (calls_of t) (replies_of r) ++ writes_of (map calls_of (drop (i + 1) ts)) (map replies_of (drop (i + 1) rs))
writes_more calls_of replies_of ts rs i t r l m e f = rw (rest_from ts i t l e, rest_from rs i r m f) refl

-- the order of the writes does not count
pub place_among-sorted : (ts : List (List Call)) (rs : List (List Reply)) (ws sorted : List Stamped) → map as_pair ws ≡ writes_of ts rs → IsPermutation ws sorted → place_among sorted ≡ written_upto ts rs
place_among-sorted ts rs ws sorted e moved =
    let each : (k : List ℕ) (at : ℕ) → place_among sorted k at ≡ written_upto ts rs k at =
    λ k at. sum_by-IsPermutation (λ w. cond (is_upto k at (as_pair w)) 1 0) ws sorted moved ∙ sym (count_pairs k at ws) ∙ ap (count_by (is_upto k at)) e ∙ count_writes k at ts rs in
    λ i k at. each k at i

-- ---- a sorted list is searched by halving

reversed_eq : (r : Ordering) → is_eq (ordering_reverse r) ≡ is_eq r
reversed_eq Less = refl
reversed_eq Equal = refl
reversed_eq Greater = refl

same_key-comm : (k l : List ℕ) → same_key k l ≡ same_key l k
same_key-comm k l = ap is_eq (nat_list_cmp_total.antisymm k l) ∙ reversed_eq (key_cmp l k)

le_tested : (x y : ℕ) → is_le (nat_cmp x y) ≡ nat_le x y
le_tested x y = grind (arith, nat_tests)

abbrev pair_cmp : List ℕ × ℕ → List ℕ × ℕ → Ordering
pair_cmp v w = ordering_then (key_cmp v.0 w.0) (nat_cmp v.1 w.1)

pair_cmp_total : IsTotalOrder pair_cmp
pair_cmp_total = then_total (on_total (λ (w : List ℕ × ℕ). w.0) nat_list_cmp_total) (on_total (λ (w : List ℕ × ℕ). w.1) nat_cmp_total)

gt_reversed : (r : Ordering) → is_gt (ordering_reverse r) ≡ is_lt r
gt_reversed Less = refl
gt_reversed Equal = refl
gt_reversed Greater = refl

not_gt_from_le : (r : Ordering) → is_le r ≡ true → is_gt r ≡ false
not_gt_from_le Less h = refl
not_gt_from_le Equal h = refl
not_gt_from_le Greater h = sym h

le_from_not_gt : (r : Ordering) → is_gt r ≡ false → is_le r ≡ true
le_from_not_gt Less h = refl
le_from_not_gt Equal h = refl
le_from_not_gt Greater h = sym h

first_not_gt : (r o : Ordering) → is_gt (ordering_then r o) ≡ false → is_gt r ≡ false
first_not_gt Less o h = refl
first_not_gt Equal o h = refl
first_not_gt Greater o h = h

lt_not_eq : (r : Ordering) → is_lt r ≡ true → is_eq r ≡ false
lt_not_eq Less h = refl
lt_not_eq Equal h = absurd (cc)
lt_not_eq Greater h = refl

below_from_upto : (x y z : List ℕ) (r s : Ordering) → key_cmp x y ≡ r → key_cmp y z ≡ s → is_gt r ≡ false → is_lt s ≡ true → is_lt (key_cmp x z) ≡ true
below_from_upto x y z Less Less p q h k = ap is_lt (nat_list_cmp_total.trans x y z p q)
below_from_upto x y z Equal Less p q h k = ap is_lt (nat_list_cmp_total.congr x y z p ∙ q)
below_from_upto x y z Greater Less p q h k = absurd (cc)
below_from_upto x y z r Equal p q h k = absurd (cc)
below_from_upto x y z r Greater p q h k = absurd (cc)

in_order_far : (ws : List Stamped) → AreInOrder ws → (i j : ℕ) (d : Stamped) → i ≤ j → j < length ws → is_gt (stamped_cmp (get_or ws i d) (get_or ws j d)) ≡ false
in_order_far ws up i j d l m =
    let v = get_or ws i d in
    let w = get_or ws j d in
    let back : is_lt (stamped_cmp w v) ≡ false = sorted_far (λ x y. is_lt (stamped_cmp x y)) (ranks_by pair_cmp_total as_pair) ws up i j d l m in
    ap is_gt (pair_cmp_total.antisymm (as_pair v) (as_pair w)) ∙ gt_reversed (stamped_cmp w v) ∙ back

pub not_behind_come_first : (k : List ℕ) (at : ℕ) (ws : List Stamped) → AreInOrder ws → IsPartitionedBy (is_not_behind k at) ws
not_behind_come_first k at ws up i j d l m passes =
    let v = as_pair (get_or ws i d) in
    let w = as_pair (get_or ws j d) in
    le_from_not_gt (pair_cmp v (k, at)) (upto pair_cmp_total v w (k, at) (in_order_far ws up i j d l m) (not_gt_from_le (pair_cmp w (k, at)) passes))

-- ---- the place of a key is that of its last write in front of the end

abbrev place_if : List ℕ → List ℕ → ℕ → ℕ
place_if k last place = cond (same_key k last) place 0

-- the place of the key behind the first writes, where one with a key and a place stands in front of them
abbrev ended : List ℕ → List ℕ → ℕ → ℕ → List Stamped → ℕ
ended k last place zero ws = place_if k last place
ended k last place (suc j) [] = place_if k last place
ended k last place (suc j) (w ∷ ws) = ended k w.key.now (next_place last place w.key.now) j ws

-- the keys do not fall
abbrev Ascend : List ℕ → List Stamped → Type 0
Ascend last [] = Unit {0}
Ascend last (w ∷ ws) = (is_gt (key_cmp last w.key.now) ≡ false) × Ascend w.key.now ws

abbrev AscendFar : List Stamped → Type 0
AscendFar ws = (i j : ℕ) (d : Stamped) → i ≤ j → j < length ws → is_gt (key_cmp (get_or ws i d).key.now (get_or ws j d).key.now) ≡ false

ascend_behind : (v : Stamped) (ws : List Stamped) → AscendFar (v ∷ ws) → Ascend v.key.now ws
ascend_behind v [] far = tt
ascend_behind v (w ∷ ws) far = (far 0 1 v (omega arith) (omega arith), ascend_behind w ws (λ i j d l m. far (suc i) (suc j) d (omega arith) (omega arith)))

empty_first : (k : List ℕ) → is_gt (key_cmp [] k) ≡ false
empty_first [] = refl
empty_first (x ∷ xs) = refl

ascend : (ws : List Stamped) → AscendFar ws → Ascend [] ws
ascend [] far = tt
ascend (w ∷ ws) far = (empty_first w.key.now, ascend_behind w ws far)

none_behind : (k : List ℕ) (at : ℕ) (w : Stamped) → is_not_behind k at w ≡ false → is_upto k at (as_pair w) ≡ false
none_behind k at w h = ap (λ b. b && nat_le w.stamp at) (same_key-comm k w.key.now) ∙ behind_by (key_cmp w.key.now k) (nat_cmp w.stamp at) (nat_le w.stamp at) (le_tested w.stamp at) h
  where
    behind_by : (r o : Ordering) (b : Bool) → is_le o ≡ b → is_le (ordering_then r o) ≡ false → (is_eq r && b) ≡ false
    behind_by Less o b e h = refl
    behind_by Equal o b e h = sym e ∙ h
    behind_by Greater o b e h = refl

none_upto : (k : List ℕ) (at : ℕ) (ws : List Stamped) → ((i : ℕ) (d : Stamped) → i < length ws → is_not_behind k at (get_or ws i d) ≡ false) → place_among ws k at ≡ 0
none_upto k at [] h = refl
none_upto k at (w ∷ ws) h =
    sum_by-cons (λ (w : Stamped). cond (is_upto k at (as_pair w)) 1 0) w ws ∙ rw (none_behind k at w (h 0 w (omega arith)), none_upto k at ws (λ i d l. h (suc i) d (omega arith))) refl

-- a write that is not behind raises the key's place by one, if it is the key's
step_equal : (b : Bool) (place : ℕ) → cond b (place + 1) 1 ≡ cond b place 0 + 1
step_equal true place = refl
step_equal false place = refl

step_by : (k last : List ℕ) (place at : ℕ) (w : Stamped) (r : Ordering) → key_cmp w.key.now k ≡ r → is_gt (key_cmp last w.key.now) ≡ false → is_le (ordering_then r (nat_cmp w.stamp at)) ≡ true
    → place_if k w.key.now (next_place last place w.key.now) ≡ place_if k last place + cond (is_upto k at (as_pair w)) 1 0
step_by k last place at w Less e up h =
    let mine : same_key k w.key.now ≡ false = same_key-comm k w.key.now ∙ ap is_eq e in
    let later : is_lt (key_cmp last k) ≡ true = below_from_upto last w.key.now k (key_cmp last w.key.now) (key_cmp w.key.now k) refl refl up (ap is_lt e) in
    let theirs : same_key k last ≡ false = same_key-comm k last ∙ lt_not_eq (key_cmp last k) later in
    rw (mine, theirs) refl
step_by k last place at w Equal e up h =
    let mine : same_key k w.key.now ≡ true = same_key-comm k w.key.now ∙ ap is_eq e in
    let theirs : same_key w.key.now last ≡ same_key k last = ap is_eq (nat_list_cmp_total.congr w.key.now k last e) in
    let stamp : nat_le w.stamp at ≡ true = sym (le_tested w.stamp at) ∙ h in
    rw (mine, theirs, stamp) (step_equal (same_key k last) place)
step_by k last place at w Greater e up h = absurd (cc)

ended_counts : (k : List ℕ) (at : ℕ) (last : List ℕ) (place j : ℕ) (ws : List Stamped) → Ascend last ws → j ≤ length ws → IsPartitionPoint (λ w. is_not_behind k at w ≡ true) (λ w. is_not_behind k at w ≡ false) ws j
    → ended k last place j ws ≡ place_if k last place + place_among ws k at
ended_counts k at last place zero ws up l point =
    omega (arith, none_upto k at ws (λ i d m. point.1 i d (omega arith) m))
ended_counts k at last place (suc j) [] up l point = absurd (omega arith)
ended_counts k at last place (suc j) (w ∷ ws) up l point =
    let rest = ended_counts k at w.key.now (next_place last place w.key.now) j ws up.1 (omega arith)
    (λ i d a b. point.0 (suc i) d (omega arith) (omega arith), λ i d a b. point.1 (suc i) d (omega arith) (omega arith)) in
    let one = step_by k last place at w (key_cmp w.key.now k) refl up.0 (point.0 0 w (omega arith) (omega arith)) in
    let count = sum_by-cons (λ (w : Stamped). cond (is_upto k at (as_pair w)) 1 0) w ws in
    omega (arith, rest, one, count)

cond_none : (b : Bool) → ◌≡◌ {A = ℕ} (cond b 0 0) 0
cond_none true = refl
cond_none false = refl

place_among-ended : (k : List ℕ) (at : ℕ) (ws : List Stamped) (n : ℕ) → AreInOrder ws → IsEndOf k at ws n → place_among ws k at ≡ ended k [] 0 n ws
place_among-ended k at ws n up end =
    let far : AscendFar ws = λ i j d l m. first_not_gt (key_cmp (get_or ws i d).key.now (get_or ws j d).key.now) (nat_cmp (get_or ws i d).stamp (get_or ws j d).stamp) (in_order_far ws up i j d l m) in
    omega (arith, ended_counts k at [] 0 n ws (ascend ws far) end.within end.point, cond_none (same_key k []))

pub no_place : (k : List ℕ) (at : ℕ) (ws : List Stamped) (n : ℕ) → AreInOrder ws → IsEndOf k at ws n → n ≡ 0 → place_among ws k at ≡ 0
no_place k at ws zero up end e = place_among-ended k at ws 0 up end ∙ cond_none (same_key k [])
no_place k at ws (suc m) up end e = absurd (omega arith)

ended_at : (k last : List ℕ) (place j : ℕ) (ws : List Stamped) (d : Stamped) (e : ℕ) → j < length ws → ended k last place (suc j) ws ≡ cond (same_key k (get_or ws j d).key.now) (get_or (places_along last place ws) j e) 0
ended_at k last place j [] d e l = absurd (omega arith)
ended_at k last place zero (w ∷ ws) d e l = refl
ended_at k last place (suc j) (w ∷ ws) d e l = ended_at k w.key.now (next_place last place w.key.now) j ws d e (omega arith)

pub same_bytes : (k l : List ℕ) → pointwise nat_eq k l ≡ same_key k l
same_bytes k l = lists_ties nat_cmp unsigned_ties k l

-- the write in front of the end tells the place, if it is the key's
pub place_before : (k : List ℕ) (at : ℕ) (ws : List Stamped) (n : ℕ) (d : Stamped) (e : ℕ) → AreInOrder ws → IsEndOf k at ws n → n ≢ 0
    → place_among ws k at ≡ cond (pointwise nat_eq (get_or ws (n - 1) d).key.now k) (get_or (places_along [] 0 ws) (n - 1) e) 0
place_before k at ws zero d e up end some = absurd (some refl)
place_before k at ws (suc m) d e up end some =
    let before : suc m - 1 ≡ m = omega arith in
    let within : m < length ws = omega (arith, end.within) in
    rw (before, same_bytes (get_or ws m d).key.now k, same_key-comm (get_or ws m d).key.now k) (place_among-ended k at ws (suc m) up end ∙ ended_at k [] 0 m ws d e within)

pub length-places_along : (last : List ℕ) (place : ℕ) (ws : List Stamped) → length (places_along last place ws) ≡ length ws
length-places_along last place [] = refl
length-places_along last place (w ∷ ws) = ap suc (length-places_along w.key.now (next_place last place w.key.now) ws)
