-- A life that a call loaded from the entry of its key is so for the rest of the call; and which stamps count as found for a key.
use Rattle.std.specs.Prelude.{◌&&◌, ◌==◌, not}
use Rattle.std.proofs.Common.{◌≡◌, ℕ, ◌++◌, ◌∷◌, [], Bool, cond, List, true, false, sym, refl, ap, ◌∙◌, subst, inl, inr, Some, eq-eqb}
use Rattle.pin_word.specs.PinWord.{state_of}
use Rattle.oak_model.specs.Counts.{Begins, Has}
use Rattle.header_core.specs.declared.states.TheConstants.{LIVE}
use Rattle.header_core.specs.declared.holds.PinnedHeader.{PinnedHeader}
use Rattle.chunk_core.specs.ValueWord.{names_life}
use Rattle.oak_core.specs.declared.states.KnownLife.{KnownLife}
use Rattle.oak_core.specs.declared.states.Knowledge.{Knowledge}
use Rattle.oak_core.specs.LifeKeys.{loaded_in}
use Rattle.oak_core.specs.StampLoads.{finds_now}

rest_true : (t b c : Bool) → (b ≡ true → c ≡ true) → cond t true b ≡ true → cond t true c ≡ true
rest_true true b c f e = refl
rest_true false b c f e = f e

loaded_append : (call h g : ℕ) (a b : List KnownLife) → loaded_in call h g a ≡ true → loaded_in call h g (a ++ b) ≡ true
unfolding loaded_in
loaded_append call h g [] b e = absurd cc
loaded_append call h g (l ∷ ls) b e = rest_true ((l.call == call) && (names_life h g l.home == 1)) (loaded_in call h g ls) (loaded_in call h g (ls ++ b)) (loaded_append call h g ls b) e

pub loaded_in_later : (call h g : ℕ) (a b : List KnownLife) → Begins a b → loaded_in call h g a ≡ true → loaded_in call h g b ≡ true
loaded_in_later call h g a b x e = subst (λ (l : List KnownLife). loaded_in call h g l ≡ true) (sym x.1) (loaded_append call h g a x.0 e)

any_true : (t : Bool) → cond t true true ≡ true
any_true true = refl
any_true false = refl

pub loaded_in_has : (call h g home : ℕ) (key : List ℕ) → names_life h g home ≡ 1 → (ls : List KnownLife) → Has (record { call = call; key = key; home = home }) ls → loaded_in call h g ls ≡ true
unfolding loaded_in
loaded_in_has call h g home key names [] has = absurd has
loaded_in_has call h g home key names (x ∷ xs) (inl e) = ap (λ (b : Bool). cond b true (loaded_in call h g xs)) (λ i. eq-eqb x.call call (ap (λ (l : KnownLife). l.call) (sym e)) i && eq-eqb (names_life h g x.home) 1 (ap (λ (l : KnownLife). names_life h g l.home) (sym e) ∙ names) i)
loaded_in_has call h g home key names (x ∷ xs) (inr has) = ap (cond ((x.call == call) && (names_life h g x.home == 1)) true) (loaded_in_has call h g home key names xs has) ∙ any_true ((x.call == call) && (names_life h g x.home == 1))

-- a stamp found under a pin that found the life live counts, and one of a life that the call loaded from the entry

pub live_now : (call : ℕ) (p : PinnedHeader) (q : Knowledge) → state_of p.found ≡ LIVE → finds_now call (Some p) q ≡ true
live_now call p q live = ap (λ (b : Bool). not (not b && not (loaded_in call p.header p.wanted q.loaded))) (eq-eqb (state_of p.found) LIVE live)

last_true : (a b : Bool) → b ≡ true → not (not a && not b) ≡ true
last_true true b e = refl
last_true false b e = ap (λ (c : Bool). not (not c)) e

pub loaded_now : (call : ℕ) (p : PinnedHeader) (q : Knowledge) → loaded_in call p.header p.wanted q.loaded ≡ true → finds_now call (Some p) q ≡ true
loaded_now call p q e = last_true (state_of p.found == LIVE) (loaded_in call p.header p.wanted q.loaded) e
