-- Numbers that rise from 0: where there are as many as a bound leaves room for, they are all that there are.
use Rattle.std.proofs.Common.{◌≡◌, ℕ, zero, suc, ◌+◌, ◌<◌, ◌≤◌, List, [], ◌∷◌, ◌++◌, length, refl, ap, subst, arith}
use Rattle.std.specs.List.{AllByRecursion}
use Rattle.oak_model.specs.Counts.{Each}
use Rattle.oak_run.specs.SplitPasses.{Rise}

-- n, and those behind it, k in all
abbrev pub numbers_from : ℕ → ℕ → List ℕ
numbers_from n zero = []
numbers_from n (suc k) = n ∷ numbers_from (suc n) k

rise_bound : (k b : ℕ) (ns : List ℕ) → Rise k ns → AllByRecursion (λ n. n ≤ b) ns → k ≤ b → k + length ns ≤ b
rise_bound k b [] rise all le = omega arith
rise_bound k b (n ∷ ns) rise all le = let t = rise_bound n b ns rise.1 all.1 all.0 in let l = rise.0 in omega arith

pub rise_exact : (k : ℕ) (ns : List ℕ) → Rise k ns → AllByRecursion (λ n. n ≤ k + length ns) ns → ns ≡ numbers_from (suc k) (length ns)
rise_exact k [] rise all = refl
rise_exact k (n ∷ ns) rise all =
    let top = rise_bound n (k + suc (length ns)) ns rise.1 all.1 all.0 in
    let low = rise.0 in
    let same : n ≡ suc k = omega arith in
    let long : k + suc (length ns) ≡ suc k + length ns = omega arith in
    let rest = rise_exact (suc k) ns (subst (λ (m : ℕ). Rise m ns) same rise.1) (subst (λ (b : ℕ). AllByRecursion (λ m. m ≤ b) ns) long all.1) in
    rw same (ap (λ (ms : List ℕ). suc k ∷ ms) rest)

-- one more above all of them
pub rise_push : (k n : ℕ) (ns : List ℕ) → Rise k ns → Each (λ m. m < n) ns → k < n → Rise k (ns ++ n ∷ [])
rise_push k n [] rise all lt = (lt, tt)
rise_push k n (m ∷ ns) rise all lt = (rise.0, rise_push m n ns rise.1 all.1 all.0)

pub all_below : (b c : ℕ) (ns : List ℕ) → b ≤ suc c → AllByRecursion (λ n. n < b) ns → AllByRecursion (λ n. n ≤ c) ns
all_below b c [] le all = tt
all_below b c (n ∷ ns) le all = ((let l = all.0 in omega arith), all_below b c ns le all.1)
