-- A header of which a pass knows the key of its life is known, so nobody has it fresh, and while it has a block some entry names it or it is buried.
use Rattle.std.proofs.Common.{◌≡◌, ℕ, ◌+◌, ◌*◌, ◌/◌, ◌^◌, ◌<◌, ◌≤◌, ◌⊎◌, cond, Bool, List, [], ◌∷◌, sym, refl, ap, ◌∙◌, inl, inr, arith, Option, Some, None, ne_eqb}
use Rattle.std.proofs.lemmas.Option.{none-some}
use mathlib.Core.Logic.{dite}
use mathlib.Core.Option.{some}
use native.Mathlib.Decide.{ℕ_discrete, dec_lt}
use lib.ListN.{get_elem?}
use Rattle.pin_word.specs.PinWord.{state_of, generation_of}
use Rattle.oak_model.specs.Counts.{one_at, total}
use Rattle.oak_model.proofs.Counting.{decided, one_at-le}
use Rattle.header_core.specs.HeaderHolds.{in_state}
use Rattle.header_core.specs.Headers.{HeaderMemory}
use Rattle.header_core.specs.declared.holds.HeaderHolds.{HeaderHolds}
use Rattle.header_core.specs.declared.states.TheConstants.{LIVE}
use Rattle.header_core.proofs.StockedStates.{stocked_le}
use Rattle.chunk_core.specs.ValueWord.{names_header, header_in, generation_in, names_life}
use Rattle.oak_core.specs.declared.states.KeyedWrite.{KeyedWrite}
use Rattle.oak_core.specs.declared.states.Knowledge.{Knowledge}
use Rattle.oak_core.specs.declared.states.KnownLife.{KnownLife}
use Rattle.oak_core.specs.Known.{lives_in, is_life, knows_life, known}
use Rattle.oak_core.specs.LifeKeys.{key_in_log, key_in_logs, key_in_loaded, key_known, first_of}
use Rattle.oak_core.specs.Owners.{HeadersAreHeld}
use Rattle.oak_core.proofs.known.KnownLaws.{known_some}

in_loaded : (h g : ℕ) (key : List ℕ) (ls : List KnownLife) → key_in_loaded h g ls ≡ Some key → 0 < total (is_life h g) ls
unfolding total key_in_loaded
in_loaded h g key [] e = absurd (none-some key e)
in_loaded h g key (l ∷ ls) e = dite (ℕ_discrete (names_life h g l.home) 1) (λ y. omega arith)
    (λ n. let t = in_loaded h g key ls (sym (ap (λ (b : Bool). cond b (Some l.key) (key_in_loaded h g ls)) (ne_eqb (names_life h g l.home) 1 n)) ∙ e) in omega arith)

in_log : (h g : ℕ) (key : List ℕ) (l : List KeyedWrite) → key_in_log h g l ≡ Some key → 0 < lives_in h g l
unfolding total key_in_log
in_log h g key [] e = absurd (none-some key e)
in_log h g key (w ∷ ws) e = dite (ℕ_discrete (names_life h g w.home) 1) (λ y. omega arith)
    (λ n. let t = in_log h g key ws (sym (ap (λ (b : Bool). cond b (Some w.key) (key_in_log h g ws)) (ne_eqb (names_life h g w.home) 1 n)) ∙ e) in omega arith)

in_logs : (h g : ℕ) (key : List ℕ) (ls : List (List KeyedWrite)) → key_in_logs h g ls ≡ Some key → 0 < total (lives_in h g) ls
unfolding total key_in_logs
in_logs h g key [] e = absurd (none-some key e)
in_logs h g key (l ∷ ls) e = go (key_in_log h g l) refl (in_logs h g key ls) e
  where
    go : (o : Option (List ℕ)) → key_in_log h g l ≡ o → (key_in_logs h g ls ≡ Some key → 0 < total (lives_in h g) ls) → first_of o (key_in_logs h g ls) ≡ Some key → 0 < lives_in h g l + total (lives_in h g) ls
    go None is rest d = let t = rest d in omega arith
    go (Some x) is rest d = let t = in_log h g x l is in omega arith

-- the pass knows the life
pub known_life : (h g : ℕ) (key : List ℕ) (q : Knowledge) → key_known h g q ≡ Some key → 0 < knows_life h g q
known_life h g key q e = go (key_in_loaded h g q.loaded) refl e
  where
    go : (o : Option (List ℕ)) → key_in_loaded h g q.loaded ≡ o → first_of o (key_in_logs h g q.seen) ≡ Some key → 0 < knows_life h g q
    go None is d = let t = in_logs h g key q.seen d in omega arith
    go (Some x) is d = let t = in_loaded h g x q.loaded is in omega arith

-- and of a life that it knows, it knows the key
module _ (h g : ℕ) where
  is_one : (v : ℕ) → 0 < names_life h g v → names_life h g v ≡ 1
  unfolding names_header
  is_one v l = let a = one_at-le (v / 2 ^ 63) 1 in let b = one_at-le (header_in v) h in let c = one_at-le (generation_in v) g in one (one_at (v / 2 ^ 63) 1) (one_at (header_in v) h) (one_at (generation_in v) g) a b c l
    where
      one : (a b c : ℕ) → a ≤ 1 → b ≤ 1 → c ≤ 1 → 0 < a * b * c → a * b * c ≡ 1
      one a b c la lb lc l = grind arith

  key_of_loaded : (ls : List KnownLife) → 0 < total (is_life h g) ls → (key : List ℕ) × (key_in_loaded h g ls ≡ Some key)
  unfolding total key_in_loaded
  key_of_loaded [] l = absurd (omega arith)
  key_of_loaded (x ∷ xs) l = decided (names_life h g x.home) 1 (λ t. (key : List ℕ) × (cond t (Some x.key) (key_in_loaded h g xs) ≡ Some key)) (λ _. (x.key, refl))
      (λ ne. key_of_loaded xs (dite (dec_lt 0 (names_life h g x.home)) (λ p. absurd (ne (is_one x.home p))) (λ no. omega arith)))

  key_of_log : (ws : List KeyedWrite) → 0 < lives_in h g ws → (key : List ℕ) × (key_in_log h g ws ≡ Some key)
  unfolding total key_in_log
  key_of_log [] l = absurd (omega arith)
  key_of_log (w ∷ ws) l = decided (names_life h g w.home) 1 (λ t. (key : List ℕ) × (cond t (Some w.key) (key_in_log h g ws) ≡ Some key)) (λ _. (w.key, refl))
      (λ ne. key_of_log ws (dite (dec_lt 0 (names_life h g w.home)) (λ p. absurd (ne (is_one w.home p))) (λ no. omega arith)))

  first_some : (a b : Option (List ℕ)) → ((key : List ℕ) × (a ≡ Some key)) ⊎ ((key : List ℕ) × (b ≡ Some key)) → (key : List ℕ) × (first_of a b ≡ Some key)
  first_some None b (inl k) = absurd (none-some k.0 k.1)
  first_some None b (inr k) = k
  first_some (Some x) b k = (x, refl)

  key_of_logs : (ls : List (List KeyedWrite)) → 0 < total (lives_in h g) ls → (key : List ℕ) × (key_in_logs h g ls ≡ Some key)
  unfolding total key_in_logs
  key_of_logs [] l = absurd (omega arith)
  key_of_logs (x ∷ xs) l = first_some (key_in_log h g x) (key_in_logs h g xs) (dite (dec_lt 0 (lives_in h g x)) (λ p. inl (key_of_log x p)) (λ no. inr (key_of_logs xs (omega arith))))

  pub life_key : (q : Knowledge) → 0 < knows_life h g q → (key : List ℕ) × (key_known h g q ≡ Some key)
  life_key q l = first_some (key_in_loaded h g q.loaded) (key_in_logs h g q.seen) (dite (dec_lt 0 (total (is_life h g) q.loaded)) (λ p. inl (key_of_loaded q.loaded p)) (λ no. inr (key_of_logs q.seen (omega arith))))

-- so nobody has the header fresh at that generation
pub none_fresh : (m : HeaderMemory) (bytes : ℕ → ℕ → ℕ → ℕ) (qs : List Knowledge) (hs : List HeaderHolds) → HeadersAreHeld m bytes (known qs) hs → (i : ℕ) (q : Knowledge) → get_elem? qs i ≡ some q
    → (h : ℕ) (key : List ℕ) → key_known h (generation_of (m.pin h)) q ≡ Some key → total (in_state h LIVE) hs ≡ 0
none_fresh m bytes qs hs heads i q at h key e = let k = known_some h (generation_of (m.pin h)) qs i q at (known_life h (generation_of (m.pin h)) key q e) in let s = heads.settled h in let l = stocked_le (state_of (m.pin h)) in omega arith
