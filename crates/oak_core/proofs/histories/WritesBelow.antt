-- The writes of a key with a stamp below a number: they begin its history, and none that comes past the number is one of them.
use Rattle.std.proofs.Common.{◌≡◌, ℕ, suc, ◌<◌, ◌≤◌, cond, Bool, List, [], ◌∷◌, ◌++◌, sym, refl, ap, ◌∙◌, subst, arith, append-nil}
use Rattle.std.proofs.lemmas.Bool.{lt-ltb, le-ltb}
use mathlib.Core.Logic.{dite}
use native.Mathlib.Decide.{dec_lt}
use Rattle.oak_model.specs.Counts.{Each, Begins}
use Rattle.oak_model.specs.History.{StampsRise}
use Rattle.oak_model.proofs.Lists.{begins_trans}
use Rattle.oak_core.specs.declared.states.KeyedWrite.{KeyedWrite}
use Rattle.oak_core.specs.KeyHistories.{writes_of, last_of, before}

pub before-cases : (n : ℕ) (w : KeyedWrite) (ws : List KeyedWrite) (P : List KeyedWrite → Type 0) → (w.write.stamp < n → P (w ∷ before n ws)) → (n ≤ w.write.stamp → P (before n ws)) → P (before n (w ∷ ws))
unfolding before
before-cases n w ws P low high = dite (dec_lt w.write.stamp n) (λ l. subst (λ (t : Bool). P (cond t (w ∷ before n ws) (before n ws))) (sym (lt-ltb w.write.stamp n l)) (low l))
    (λ no. subst (λ (t : Bool). P (cond t (w ∷ before n ws) (before n ws))) (sym (le-ltb w.write.stamp n (omega arith))) (high (omega arith)))

pub before_append : (n : ℕ) (a b : List KeyedWrite) → before n (a ++ b) ≡ before n a ++ before n b
unfolding before
before_append n [] b = refl
before_append n (w ∷ ws) b = let r = before_append n ws b in before-cases n w (ws ++ b) (λ l. l ≡ before n (w ∷ ws) ++ before n b) (λ low. before-cases n w ws (λ l. w ∷ before n (ws ++ b) ≡ l ++ before n b) (λ _. ap (λ (l : List KeyedWrite). w ∷ l) r) (λ high. absurd (omega arith)))
    (λ high. before-cases n w ws (λ l. before n (ws ++ b) ≡ l ++ before n b) (λ low. absurd (omega arith)) (λ _. r))

-- past a stamp that is not below n there is none below it
pub none_behind : (n s : ℕ) (h : List KeyedWrite) → StampsRise s (writes_of h) → n ≤ s → before n h ≡ []
unfolding before
none_behind n s [] r l = refl
none_behind n s (w ∷ ws) r l = let lt = r.0 in before-cases n w ws (λ t. t ≡ []) (λ low. absurd (omega arith)) (λ _. none_behind n w.write.stamp ws r.1 (omega arith))

-- of writes whose stamps rise, those below n are the first ones
pub before_first : (n s : ℕ) (h : List KeyedWrite) → StampsRise s (writes_of h) → Begins (before n h) h
unfolding before
before_first n s [] r = ([], refl)
before_first n s (w ∷ ws) r = before-cases n w ws (λ t. Begins t (w ∷ ws)) (λ low. let b = before_first n w.write.stamp ws r.1 in (b.0, ap (λ (l : List KeyedWrite). w ∷ l) b.1))
    (λ high. subst (λ t. Begins t (w ∷ ws)) (sym (none_behind n w.write.stamp ws r.1 high)) ((w ∷ ws), refl))

-- the last stamp is below n: all are
pub before_whole : (n s : ℕ) (h : List KeyedWrite) → StampsRise s (writes_of h) → last_of (λ w. w.write.stamp) s h < n → (s ≤ last_of (λ w. w.write.stamp) s h) × (before n h ≡ h)
unfolding before last_of
before_whole n s [] r l = (omega arith, refl)
before_whole n s (w ∷ ws) r l = let t = before_whole n w.write.stamp ws r.1 l in let le = t.0 in let lt = r.0 in (omega arith, before-cases n w ws (λ q. q ≡ w ∷ ws) (λ _. ap (λ (q : List KeyedWrite). w ∷ q) t.1) (λ high. absurd (omega arith)))

-- a first part of a history, cut at n
pub cut_begins : (n : ℕ) (p h : List KeyedWrite) → Begins p h → StampsRise 0 (writes_of h) → Begins (before n p) h
cut_begins n p h b r = begins_trans (before n p) (before n h) h (before n b.0, ap (before n) b.1 ∙ before_append n p b.0) (before_first n 0 h r)

-- writes above a level that n passes by one at most are none of those below n

pub none_below : (n level : ℕ) (more : List KeyedWrite) → n ≤ suc level → Each (λ (w : KeyedWrite). level < w.write.stamp) more → before n more ≡ []
unfolding before
none_below n level [] l a = refl
none_below n level (w ∷ ws) l a = let lt = a.0 in before-cases n w ws (λ t. t ≡ []) (λ low. absurd (omega arith)) (λ _. none_below n level ws l a.1)

pub before_above : (n level : ℕ) (h more : List KeyedWrite) → n ≤ suc level → Each (λ (w : KeyedWrite). level < w.write.stamp) more → before n (h ++ more) ≡ before n h
before_above n level h more l a = before_append n h more ∙ (ap (λ (t : List KeyedWrite). before n h ++ t) (none_below n level more l a) ∙ append-nil (before n h))
