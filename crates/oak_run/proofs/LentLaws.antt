-- The recipes that a run is lent: in the workers' hands, and back in their places.
use Rattle.std.proofs.Common.{◌≡◌, ℕ, zero, suc, ◌+◌, ◌<◌, ◌≤◌, List, [], ◌∷◌, ◌++◌, length, map, take, drop, get_or, Option, Some, refl, sym, ap, ◌∙◌, subst, arith}
use mathlib.Core.List.{map-map}
use Rattle.std.proofs.lemmas.List.{length-append, length-map, map-append, take_at}
use Rattle.std.specs.Prelude.{slice_index_or}
use Rattle.std.specs.List.{insert, remove}
use Rattle.oak_run.specs.declared.worker.Answered.{Answered}
use Rattle.oak_run.specs.LentRecipes.{AllRose, RoseBy, risen}
use Rattle.oak_run.proofs.TakenApart.{taken_next}

-- ---- out of their row

-- one more of them, from the front of what is left
pub moved_next : {W B : Type 0} (f : W → B) (ws : List W) (w : W) (rs : List B) → 0 < length rs → f w ≡ get_or rs 0 (f w) → map f (ws ++ w ∷ []) ++ remove rs 0 ≡ map f ws ++ rs
moved_next f [] w [] some e = absurd (omega arith)
moved_next f [] w (r ∷ rs) some e = ap (λ (b : _). b ∷ rs) e
moved_next f (v ∷ ws) w rs some e = ap (λ (l : List _). f v ∷ l) (moved_next f ws w rs some e)

-- ---- and back

insert_at : {B : Type 0} (xs ys : List B) (n : ℕ) (x : B) → length xs ≡ n → insert (xs ++ ys) n x ≡ (xs ++ x ∷ []) ++ ys
insert_at [] ys zero x e = refl
insert_at [] ys (suc n) x e = absurd (omega arith)
insert_at (y ∷ xs) ys zero x e = absurd (omega arith)
insert_at (y ∷ xs) ys (suc n) x e = ap (λ (l : List _). y ∷ l) (insert_at xs ys n x (omega arith))

length_taken : {W B : Type 0} (f : W → B) (xs : List W) (i : ℕ) → i ≤ length xs → length (map f (take i xs)) ≡ i
length_taken f xs zero le = refl
length_taken f [] (suc i) le = absurd (omega arith)
length_taken f (x ∷ xs) (suc i) le = let r = length_taken f xs i (omega arith) in omega arith

pub length_back : {W B : Type 0} (f : W → B) (xs : List W) (i : ℕ) (rest now : List B) → i ≤ length xs → now ≡ map f (take i xs) ++ rest → length now ≡ i + length rest
length_back f xs i rest now le e = let t = length_taken f xs i le in let a = length-append (map f (take i xs)) rest in let n = ap length e in omega arith

pub back_next : {W B : Type 0} (f : W → B) (xs : List W) (i : ℕ) (w : W) (rest now next : List B) → i < length xs → w ≡ get_or xs i w → now ≡ map f (take i xs) ++ rest → next ≡ insert now i (f w) → next ≡ map f (take (i + 1) xs) ++ rest
back_next f xs i w rest now next lt e before one =
    one ∙ (ap (λ (l : List _). insert l i (f w)) before ∙ (insert_at (map f (take i xs)) rest i (f w) (length_taken f xs i (omega arith)) ∙ ap (λ (l : List _). l ++ rest) (sym (taken_next f xs i w lt e))))

-- ---- their counts

risen_front : (xs ys ks : List ℕ) → length ks ≡ length xs → risen (xs ++ ys) ks ≡ risen xs ks ++ ys
risen_front [] ys [] e = refl
risen_front [] ys (k ∷ ks) e = absurd (omega arith)
risen_front (x ∷ xs) ys [] e = absurd (omega arith)
risen_front (x ∷ xs) ys (k ∷ ks) e = ap (λ (l : List ℕ). (x + k) ∷ l) (risen_front xs ys ks (omega arith))

abbrev some_of : List Answered → List (Option Answered)
some_of answers = map (λ (a : Answered). Some a) answers

abbrev computed_in : List Answered → List ℕ
computed_in answers = map (λ (a : Answered). a.computed) answers

all_counted : (before now : List ℕ) (answers : List Answered) → AllRose before now (some_of answers) → (now ≡ risen before (computed_in answers)) × (length (computed_in answers) ≡ length before)
all_counted [] [] [] r = (refl, refl)
all_counted [] [] (a ∷ answers) r = absurd r
all_counted [] (m ∷ now) answers r = absurd r
all_counted (n ∷ before) [] answers r = absurd r
all_counted (n ∷ before) (m ∷ now) [] r = absurd r
all_counted (n ∷ before) (m ∷ now) (a ∷ answers) r = let more = all_counted before now answers r.1 in ((λ i. r.0 i ∷ more.0 i), ap (λ (k : ℕ). suc k) more.1)

-- what is said of each place of the rows, of the threads before and behind
abbrev pub RoseAt : {W : Type 0} → (W → ℕ) → (W → Option Answered) → List W → List W → Type 0
RoseAt f a xs zs = (i : ℕ) (d : _) → i < length xs → RoseBy (f (slice_index_or xs i d)) (f (slice_index_or zs i d)) (a (slice_index_or zs i d))

all_rose : {W : Type 0} (f : W → ℕ) (a : W → Option Answered) (xs zs : List W) → length zs ≡ length xs → RoseAt f a xs zs → AllRose (map f xs) (map f zs) (map a zs)
all_rose f a [] [] e rose = tt
all_rose f a [] (z ∷ zs) e rose = absurd (omega arith)
all_rose f a (x ∷ xs) [] e rose = absurd (omega arith)
all_rose f a (x ∷ xs) (z ∷ zs) e rose = (rose 0 x (omega arith), all_rose f a xs zs (omega arith) (λ i d lt. rose (suc i) d (omega arith)))

-- of a row that was changed in place
pub rose_back : {W : Type 0} (f : W → ℕ) (a : W → Option Answered) (xs us ys : List W) (n : ℕ) → us ≡ xs → length ys ≡ n → length ys ≡ length us → RoseAt f a us ys
    → AllRose (map f xs) (map f (take n (ys ++ drop (length ys) xs))) (map a (take n (ys ++ drop (length ys) xs)))
rose_back f a xs us ys n same long still rose =
    subst (λ (l : List _ × List _). AllRose (map f l.0) (map f l.1) (map a l.1)) (λ i. (same i, sym (take_at ys (drop (length ys) xs) n long) i)) (all_rose f a us ys still rose)

-- ---- the whole way

drop_same : {B : Type 0} (xs zs ys : List B) (n : ℕ) → length zs ≡ length xs → length xs ≤ n → drop n (zs ++ ys) ≡ drop n (xs ++ ys)
drop_same [] [] ys n e le = refl
drop_same [] (z ∷ zs) ys n e le = absurd (omega arith)
drop_same (x ∷ xs) [] ys n e le = absurd (omega arith)
drop_same (x ∷ xs) (z ∷ zs) ys zero e le = absurd (omega arith)
drop_same (x ∷ xs) (z ∷ zs) ys (suc n) e le = drop_same xs zs ys n (omega arith) (omega arith)

pub still_by : {W A : Type 0} (g : W → A) (xs zs : List W) → map g zs ≡ map g xs → length zs ≡ length xs
still_by g xs zs e = sym (length-map zs g) ∙ (ap length e ∙ length-map xs g)

-- there is room for them where they were
pub room_back : {W B : Type 0} (f : W → B) (xs zs : List W) (rest old : List B) (n : ℕ) → length zs ≡ length xs → map f xs ++ rest ≡ old → length old ≤ n → length zs + length rest ≤ n
room_back f xs zs rest old n still moved fit = let m = ap length moved in let a = length-append (map f xs) rest in let l = length-map xs f in omega arith

-- Workers xs have the first recipes of a row, and hand them back as workers zs, in their order.
module _ {W B : Type 0} (f : W → B) (xs zs : List W) (rest old now : List B) (still : length zs ≡ length xs) (moved : map f xs ++ rest ≡ old) (back : now ≡ map f zs ++ rest) where
  same_rows : length (map f zs) ≡ length (map f xs)
  same_rows = length-map zs f ∙ (still ∙ sym (length-map xs f))

  pub long_again : length now ≡ length old
  long_again = ap length back ∙ (length-append (map f zs) rest ∙ (ap (λ (k : ℕ). k + length rest) same_rows ∙ (sym (length-append (map f xs) rest) ∙ ap length moved)))

  pub others_again : (n : ℕ) → length xs ≤ n → drop n now ≡ drop n old
  others_again n le = ap (drop n) back ∙ (drop_same (map f xs) (map f zs) rest n same_rows (let l = length-map xs f in omega arith) ∙ ap (drop n) moved)

  pub rose_again : (count : B → ℕ) (a : W → Option Answered) (answers : List Answered) → AllRose (map (λ x. count (f x)) xs) (map (λ x. count (f x)) zs) (map a zs) → map a zs ≡ some_of answers → map count now ≡ risen (map count old) (computed_in answers)
  rose_again count a answers rose all =
      let r = all_counted (map (λ x. count (f x)) xs) (map (λ x. count (f x)) zs) answers (subst (AllRose (map (λ x. count (f x)) xs) (map (λ x. count (f x)) zs)) all rose) in
      ap (map count) back ∙ (map-append count (map f zs) rest
      ∙ (ap (λ (l : List ℕ). l ++ map count rest) (map-map count f zs ∙ r.0)
      ∙ (sym (risen_front (map (λ x. count (f x)) xs) (map count rest) (computed_in answers) r.1)
      ∙ ap (λ (l : List ℕ). risen l (computed_in answers)) (ap (λ (l : List ℕ). l ++ map count rest) (sym (map-map count f xs)) ∙ (sym (map-append count (map f xs) rest) ∙ ap (map count) moved)))))
