-- The key that a pass knows of a header at a generation is one whose history has that life.
use Rattle.std.proofs.Common.{◌≡◌, ℕ, ◌*◌, ◌<◌, ◌≤◌, cond, Bool, List, [], ◌∷◌, ◌++◌, sym, refl, ap, ◌∙◌, subst, inl, inr, arith, Option, Some, None, eq-eqb, ne_eqb}
use Rattle.std.proofs.lemmas.Option.{none-some, same_Some}
use mathlib.Core.Logic.{dite}
use mathlib.Core.Option.{some}
use native.Mathlib.Decide.{ℕ_discrete}
use lib.ListN.{get_elem?}
use Rattle.oak_model.specs.Counts.{one_at, Begins, Has, Each, Every}
use Rattle.oak_model.specs.KeyNumber.{key_number}
use Rattle.oak_model.proofs.Counting.{one_at-same, one_at-le, one_at-true}
use Rattle.oak_model.proofs.MemberLaws.{each_has, total_has}
use Rattle.chunk_core.specs.ValueWord.{names_header, header_in, generation_in, names_life}
use Rattle.oak_core.specs.declared.states.KeyedWrite.{KeyedWrite}
use Rattle.oak_core.specs.declared.states.Knowledge.{Knowledge}
use Rattle.oak_core.specs.declared.states.KnownLife.{KnownLife}
use Rattle.oak_core.specs.KeyHistories.{IsKeyOf, IsKeyHistory, homes_in}
use Rattle.oak_core.specs.KeyReads.{home_of}
use Rattle.oak_core.specs.KeyRule.{LoadedStand}
use Rattle.oak_core.specs.LifeKeys.{first_of, key_in_log, key_in_logs, key_in_loaded, key_known}
use Rattle.oak_core.specs.PassState.{history, of_key}
use Rattle.oak_core.specs.Rule.{HistoriesStand}
use Rattle.oak_core.proofs.memory.HomeWords.{home_is}
use Rattle.oak_core.proofs.lessons.Teaching.{of_key-cases}

-- the key is a real one, of a history with the life
pub record IsKeyOfLife (hist : ℕ → List KeyedWrite) (h g : ℕ) (key : List ℕ) : Type 0 where
  pub key_is : IsKeyOf (key_number key) key
  pub there : 0 < homes_in (home_of h g) (hist (key_number key))

-- a word that names the life is its value word
life_home : (h g v : ℕ) → names_life h g v ≡ 1 → v ≡ home_of h g
life_home h g v e = let n = first (names_header v) (one_at (header_in v) h) (one_at (generation_in v) g) e in
    let d = one_at-true (header_in v) h (let t = second (names_header v) (one_at (header_in v) h) (one_at (generation_in v) g) e in omega arith) in let q = one_at-true (generation_in v) g (let t = third (names_header v) (one_at (header_in v) h) (one_at (generation_in v) g) (one_at-le (generation_in v) g) e in omega arith) in
    sym (home_is v n) ∙ (λ i. home_of (d i) (q i))
  where
    first : (a b c : ℕ) → a * b * c ≡ 1 → a ≡ 1
    first a b c e = grind arith

    second : (a b c : ℕ) → a * b * c ≡ 1 → b ≡ 1
    second a b c e = grind arith

    third : (a b c : ℕ) → c ≤ 1 → a * b * c ≡ 1 → c ≡ 1
    third a b c l e = dite (ℕ_discrete c 0) (λ z. absurd (let y = ap (λ (t : ℕ). a * b * t) z in let q : a * b * 0 ≡ 0 = omega arith in omega arith)) (λ ne. omega arith)

module _ (hist : ℕ → List KeyedWrite) (h g : ℕ) (key : List ℕ) where
  in_loaded : (ls : List KnownLife) → Each (λ (l : KnownLife). (names_header l.home ≡ 1) × (0 < homes_in l.home (hist (key_number l.key))) × IsKeyOf (key_number l.key) l.key) ls → key_in_loaded h g ls ≡ Some key → IsKeyOfLife hist h g key
  unfolding key_in_loaded
  in_loaded [] p e = absurd (none-some key e)
  in_loaded (l ∷ ls) p e = dite (ℕ_discrete (names_life h g l.home) 1)
      (λ y. let k = same_Some l.key key (sym (ap (λ (b : Bool). cond b (Some l.key) (key_in_loaded h g ls)) (eq-eqb (names_life h g l.home) 1 y)) ∙ e) in
      subst (IsKeyOfLife hist h g) k (record { key_is = p.0.2; there = subst (λ (v : ℕ). 0 < homes_in v (hist (key_number l.key))) (life_home h g l.home y) p.0.1 }))
      (λ n. in_loaded ls p.1 (sym (ap (λ (b : Bool). cond b (Some l.key) (key_in_loaded h g ls)) (ne_eqb (names_life h g l.home) 1 n)) ∙ e))

  -- a write of a log is one of its key's history
  in_log : (l whole : List KeyedWrite) → ((w : KeyedWrite) → Has w l → Has w whole) → ((k : ℕ) → Begins (of_key k whole) (hist k)) → ((k : ℕ) → Each (λ (w : KeyedWrite). IsKeyOf k w.key) (hist k)) → key_in_log h g l ≡ Some key → IsKeyOfLife hist h g key
  unfolding key_in_log
  in_log [] whole sub b keys e = absurd (none-some key e)
  in_log (w ∷ ws) whole sub b keys e = dite (ℕ_discrete (names_life h g w.home) 1)
      (λ y. let k = same_Some w.key key (sym (ap (λ (t : Bool). cond t (Some w.key) (key_in_log h g ws)) (eq-eqb (names_life h g w.home) 1 y)) ∙ e) in
      let there = in_history (key_number w.key) whole (hist (key_number w.key)) w (b (key_number w.key)) (has_key w whole (sub w (inl refl))) in
      subst (IsKeyOfLife hist h g) k (record {
        key_is = each_has (λ (x : KeyedWrite). IsKeyOf (key_number w.key) x.key) (hist (key_number w.key)) w (keys (key_number w.key)) there;
        there = let t = total_has (λ (x : KeyedWrite). one_at x.home (home_of h g)) (hist (key_number w.key)) w there in let o = one_at-same w.home (home_of h g) (life_home h g w.home y) in omega arith;
      }))
      (λ n. in_log ws whole (λ x m. sub x (inr m)) b keys (sym (ap (λ (t : Bool). cond t (Some w.key) (key_in_log h g ws)) (ne_eqb (names_life h g w.home) 1 n)) ∙ e))
    where
      has_key : (w : KeyedWrite) (l : List KeyedWrite) → Has w l → Has w (of_key (key_number w.key) l)
      has_key w [] m = absurd m
      has_key w (x ∷ xs) (inl e) = of_key-cases (key_number w.key) x xs (λ t. Has w t) (λ _. inl e) (λ ne. absurd (ne (ap (λ (y : KeyedWrite). key_number y.key) (sym e))))
      has_key w (x ∷ xs) (inr m) = of_key-cases (key_number w.key) x xs (λ t. Has w t) (λ _. inr (has_key w xs m)) (λ _. has_key w xs m)

      has_front : (w : KeyedWrite) (a b : List KeyedWrite) → Has w a → Has w (a ++ b)
      has_front w [] b m = absurd m
      has_front w (x ∷ xs) b (inl e) = inl e
      has_front w (x ∷ xs) b (inr m) = inr (has_front w xs b m)

      in_history : (k : ℕ) (l H : List KeyedWrite) (w : KeyedWrite) → Begins (of_key k l) H → Has w (of_key k l) → Has w H
      in_history k l H w b m = subst (Has w) (sym b.1) (has_front w (of_key k l) b.0 m)

  in_logs : (ls : List (List KeyedWrite)) → ((k : ℕ) → Each (λ (l : List KeyedWrite). Begins (of_key k l) (hist k)) ls) → ((k : ℕ) → Each (λ (w : KeyedWrite). IsKeyOf k w.key) (hist k)) → key_in_logs h g ls ≡ Some key → IsKeyOfLife hist h g key
  unfolding key_in_logs
  in_logs [] b keys e = absurd (none-some key e)
  in_logs (l ∷ ls) b keys e = go (key_in_log h g l) refl (in_logs ls (λ k. (b k).1) keys) e
    where
      go : (o : Option (List ℕ)) → key_in_log h g l ≡ o → (key_in_logs h g ls ≡ Some key → IsKeyOfLife hist h g key) → first_of o (key_in_logs h g ls) ≡ Some key → IsKeyOfLife hist h g key
      go None is rest e = rest e
      go (Some x) is rest e = in_log l l (λ w m. m) (λ k. (b k).0) keys (is ∙ e)

-- what a pass knows
pub known_is : (qs : List Knowledge) → HistoriesStand qs → ((k : ℕ) → IsKeyHistory k (history k qs)) → Every (LoadedStand (λ k. history k qs)) qs → (i : ℕ) (q : Knowledge) → get_elem? qs i ≡ some q → (h g : ℕ) (key : List ℕ) → key_known h g q ≡ Some key → IsKeyOfLife (λ k. history k qs) h g key
known_is qs stand legal loaded i q at h g key e = go (key_in_loaded h g q.loaded) refl e
  where
    go : (o : Option (List ℕ)) → key_in_loaded h g q.loaded ≡ o → first_of o (key_in_logs h g q.seen) ≡ Some key → IsKeyOfLife (λ k. history k qs) h g key
    go None is e = in_logs (λ k. history k qs) h g key q.seen (λ k. stand k i q at) (λ k. (legal k).keys) e
    go (Some x) is e = in_loaded (λ k. history k qs) h g key q.loaded (loaded i q at) (is ∙ e)
