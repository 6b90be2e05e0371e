-- The passes that were split off have the numbers from 1 on, and when all of them have come back the first is alone.
use Rattle.std.proofs.Common.{◌≡◌, ℕ, ◌+◌, ◌<◌, List, [], ◌∷◌, ◌++◌, length, map, refl, sym, ap, ◌∙◌, subst, arith, append_assoc, append-nil}
use mathlib.Core.Logic.{dite}
use native.Mathlib.Decide.{ℕ_discrete}
use Rattle.std.specs.List.{AllByRecursion}
use Rattle.std.proofs.lemmas.List.{length-map, map_push}
use Rattle.oak_model.specs.Counts.{Each, one_at, total}
use Rattle.oak_model.specs.Limits.{Sizes}
use Rattle.oak_model.proofs.Counting.{one_at-same}
use Rattle.oak_core.specs.declared.states.Joined.{Joined}
use Rattle.oak_core.specs.declared.states.Numbers.{Numbers}
use Rattle.oak_core.specs.declared.states.PassState.{PassState}
use Rattle.oak_core.specs.Opening.{first_state}
use Rattle.oak_core.specs.PassState.{IsAlone, bare_state, both_state, has_number, joined_from, rooted}
use Rattle.oak_core.specs.Splitting.{SplitsOff}
use Rattle.oak_run.specs.SplitPasses.{HasSplit, IsBare, Rise, joined_passes, numbers_in}
use Rattle.oak_run.proofs.PushLaws.{all-push}
use Rattle.oak_run.proofs.RisingNumbers.{all_below, numbers_from, rise_exact, rise_push}

-- ---- one more is split off

pub split_none : (z : Sizes) (v : PassState) → v ≡ first_state z 0 → HasSplit z v []
split_none z v e = subst (λ (u : PassState). HasSplit z u []) (sym e) (record { numbers = refl; unwritten = refl; bare = tt; rise = tt; few = tt })

-- the first pass has the number 0
has_first : (v : PassState) (ns : List Numbers) → v.numbers ≡ record bare_state.numbers { made = numbers_in ns } → has_number 0 v.numbers ≡ 1
unfolding total
has_first v ns e = ap (has_number 0) e ∙ (let o = one_at-same 0 0 refl in omega arith)

-- so no other has it
above_first : (v : PassState) (ns : List Numbers) (n : ℕ) → v.numbers ≡ record bare_state.numbers { made = numbers_in ns } → has_number n v.numbers ≡ 0 → 0 < n
above_first v ns n e none = dite (ℕ_discrete n 0)
    (λ zero_is. let h = has_first v ns e in let u = ap (λ (k : ℕ). has_number k v.numbers) zero_is in absurd (omega arith))
    (λ ne. omega arith)

pub split_push : (z : Sizes) (call : ℕ) (v w x : PassState) (ns : List Numbers) → HasSplit z v ns → SplitsOff z call v w x → HasSplit z w (ns ++ x.numbers ∷ [])
split_push z call v w x ns s off = record {
  numbers = ap (λ (y : PassState). y.numbers) off.old ∙ (ap (λ (n : Numbers). record n { made = n.made ++ off.number ∷ [] }) s.numbers ∙ ap (λ (ks : List ℕ). record bare_state.numbers { made = ks }) (sym pushed));
  unwritten = ap (λ (y : PassState). y.knowledge.mine) off.old ∙ s.unwritten;
  bare = all-push IsBare ns x.numbers s.bare (subst IsBare (sym new) refl);
  rise = subst (Rise 0) (sym pushed) (rise_push 0 off.number (numbers_in ns) s.rise (subst (Each (λ m. m < off.number)) made off.above) (above_first v ns off.number s.numbers off.unowned));
  few = subst (AllByRecursion (λ k. k < z.passes)) (sym pushed) (all-push (λ k. k < z.passes) (numbers_in ns) off.number s.few off.few);
}
  where
    new : x.numbers ≡ record bare_state.numbers { number = off.number }
    new = ap (λ (y : PassState). y.numbers) off.new

    made : v.numbers.made ≡ numbers_in ns
    made = ap (λ (n : Numbers). n.made) s.numbers

    pushed : numbers_in (ns ++ x.numbers ∷ []) ≡ numbers_in ns ++ off.number ∷ []
    pushed = map_push (λ (n : Numbers). n.number) ns x.numbers ∙ ap (λ (n : Numbers). numbers_in ns ++ n.number ∷ []) new

-- where a split was refused nothing else changed
pub split_still : (z : Sizes) (v w : PassState) (ns : List Numbers) → HasSplit z v ns → w.numbers ≡ v.numbers → w.knowledge.mine ≡ [] → HasSplit z w ns
split_still z v w ns s same none = record { numbers = same ∙ s.numbers; unwritten = none; bare = s.bare; rise = s.rise; few = s.few }

-- where there are as many as there are numbers they have just these
pub numbers_are : (z : Sizes) (v : PassState) (ns : List Numbers) → HasSplit z v ns → z.passes ≡ length ns + 1 → numbers_in ns ≡ numbers_from 1 (length ns)
numbers_are z v ns s few =
    let long = length-map ns (λ (n : Numbers). n.number) in
    rise_exact 0 (numbers_in ns) s.rise (all_below z.passes (0 + length (numbers_in ns)) (numbers_in ns) (omega arith) s.few) ∙ ap (numbers_from 1) long

-- ---- all of them come back

joined_numbers : (v : PassState) (xs : List PassState) → AllByRecursion (λ (x : PassState). IsBare x.numbers) xs → (joined_passes v xs).numbers ≡ record v.numbers { joined = v.numbers.joined ++ map joined_from xs }
joined_numbers v [] bare = ap (λ (js : List Joined). record v.numbers { joined = js }) (sym (append-nil v.numbers.joined))
joined_numbers v (x ∷ xs) bare =
    joined_numbers (both_state v x) xs bare.1
    ∙ (ap (λ (n : Numbers). record v.numbers { made = v.numbers.made ++ n.made; joined = (v.numbers.joined ++ joined_from x ∷ n.joined) ++ map joined_from xs }) bare.0
    ∙ (ap (λ (ks : List ℕ). record v.numbers { made = ks; joined = (v.numbers.joined ++ joined_from x ∷ []) ++ map joined_from xs }) (append-nil v.numbers.made)
    ∙ ap (λ (js : List Joined). record v.numbers { joined = js }) (append_assoc v.numbers.joined (joined_from x ∷ []) (map joined_from xs))))

all_bare : (xs : List PassState) → AllByRecursion IsBare (map (λ (x : PassState). x.numbers) xs) → AllByRecursion (λ (x : PassState). IsBare x.numbers) xs
all_bare [] bare = tt
all_bare (x ∷ xs) bare = (bare.0, all_bare xs bare.1)

same_total : (k : ℕ) (xs : List PassState) → total (λ (j : Joined). one_at j.number k) (map joined_from xs) ≡ total (λ (m : ℕ). one_at m k) (numbers_in (map (λ (x : PassState). x.numbers) xs))
unfolding total
same_total k [] = refl
same_total k (x ∷ xs) = ap (λ (t : ℕ). one_at x.numbers.number k + t) (same_total k xs)

-- it has its own number, and those of all that came back
home_numbers : (ks : List ℕ) (xs : List PassState) → ks ≡ numbers_in (map (λ (x : PassState). x.numbers) xs) → (n : Numbers) → n ≡ record bare_state.numbers { made = ks; joined = map joined_from xs } → (0 < rooted 0 n) × ((k : ℕ) → 0 < total (λ (m : ℕ). one_at m k) n.made → 0 < rooted k n)
home_numbers ks xs are n e = subst (λ (a : Numbers). (0 < rooted 0 a) × ((k : ℕ) → 0 < total (λ (m : ℕ). one_at m k) a.made → 0 < rooted k a)) (sym e)
    ((let o = one_at-same 0 0 refl in omega arith), (λ k some. let t = same_total k xs in let q = ap (total (λ (m : ℕ). one_at m k)) are in omega arith))

pub alone_again : (z : Sizes) (v : PassState) (ns : List Numbers) (xs : List PassState) → HasSplit z v ns → map (λ (x : PassState). x.numbers) xs ≡ ns → IsAlone (joined_passes v xs)
alone_again z v ns xs s are =
    let bare = all_bare xs (subst (AllByRecursion IsBare) (sym are) s.bare) in
    let home = home_numbers (numbers_in ns) xs (ap numbers_in (sym are)) (joined_passes v xs).numbers
    (joined_numbers v xs bare ∙ ap (λ (n : Numbers). record n { joined = n.joined ++ map joined_from xs }) s.numbers) in
    record { first = home.0; others = home.1 }
