-- A life that a pass loaded from an entry is known to it from then on, so its view can be read in every later state.
use Rattle.std.proofs.Common.{◌≡◌, ℕ, ◌*◌, ◌<◌, ◌==◌, ◌++◌, Bool, true, false, List, [], ◌∷◌, Option, None, Some, refl, sym, ap, ◌∙◌, inl, inr, cond}
use Rattle.oak_model.specs.Counts.{Begins, Has}
use Rattle.oak_model.specs.Limits.{Sizes}
use Rattle.oak_model.proofs.Counting.{one_at-same}
use Rattle.chunk_core.specs.ValueWord.{names_header, header_in, generation_in, names_life}
use Rattle.oak_core.specs.declared.states.Knowledge.{Knowledge}
use Rattle.oak_core.specs.declared.states.KnownLife.{KnownLife}
use Rattle.oak_core.specs.declared.states.PassState.{PassState}
use Rattle.oak_core.specs.KeyReads.{home_of}
use Rattle.oak_core.specs.LastReads.{KnowsLifeOf}
use Rattle.oak_core.specs.LifeKeys.{first_of, key_in_loaded, key_in_logs, key_known}
use Rattle.oak_core.proofs.memory.HomeWords.{home_is}
use Rattle.value_ops.specs.Views.{KnowsView, LoadedView, Viewed}

-- the first that was loaded stays the first
pub loaded_still : (h g : ℕ) (key : List ℕ) (a b : List KnownLife) → key_in_loaded h g a ≡ Some key → key_in_loaded h g (a ++ b) ≡ Some key
unfolding key_in_loaded
loaded_still h g key [] b e = absurd cc
loaded_still h g key (x ∷ xs) b e = by (names_life h g x.home == 1) (loaded_still h g key xs b) e
  where
    by : (t : Bool) → (key_in_loaded h g xs ≡ Some key → key_in_loaded h g (xs ++ b) ≡ Some key) → cond t (Some x.key) (key_in_loaded h g xs) ≡ Some key → cond t (Some x.key) (key_in_loaded h g (xs ++ b)) ≡ Some key
    by true f e = e
    by false f e = f e

pub view_loaded : (x : Viewed) (v w : PassState) → Begins v.knowledge.loaded w.knowledge.loaded → LoadedView x v → LoadedView x w
view_loaded x v w b l = ap (key_in_loaded x.header x.generation) b.1 ∙ loaded_still x.header x.generation x.key v.knowledge.loaded b.0 l

pub view_known : (z : Sizes) (x : Viewed) (v : PassState) → x.header < z.headers → LoadedView x v → KnowsView z x v
view_known z x v inside l = record { inside = inside; life = ap (λ (o : Option (List ℕ)). first_of o (key_in_logs x.header x.generation v.knowledge.seen)) l }

-- some key is loaded for the life where one is there
loaded_some : (call h g : ℕ) (key : List ℕ) → names_life h g (home_of h g) ≡ 1 → (ls : List KnownLife) → Has (record { call = call; key = key; home = home_of h g }) ls → (k : List ℕ) × (key_in_loaded h g ls ≡ Some k)
unfolding key_in_loaded
loaded_some call h g key names [] m = absurd m
loaded_some call h g key names (x ∷ xs) (inl e) = (x.key, ap (λ (n : ℕ). cond (n == 1) (Some x.key) (key_in_loaded h g xs)) (ap (λ (l : KnownLife). names_life h g l.home) (sym e) ∙ names))
loaded_some call h g key names (x ∷ xs) (inr m) = at (names_life h g x.home == 1) (loaded_some call h g key names xs m)
  where
    at : (t : Bool) → (k : List ℕ) × (key_in_loaded h g xs ≡ Some k) → (k : List ℕ) × (cond t (Some x.key) (key_in_loaded h g xs) ≡ Some k)
    at true f = (x.key, refl)
    at false f = f

-- a value word that names the header at the generation is the life's
pub names_home : (h g n : ℕ) → names_header n ≡ 1 → header_in n ≡ h → generation_in n ≡ g → names_life h g (home_of h g) ≡ 1
names_home h g n names header generation = ap (names_life h g) ((λ i. home_of (sym header i) (sym generation i)) ∙ home_is n names) ∙ (λ i. names i * one_at-same (header_in n) h header i * one_at-same (generation_in n) g generation i)

-- a life that is known, and was loaded at all, was loaded so
pub known_loaded : (call h g : ℕ) (key : List ℕ) (q : Knowledge) → names_life h g (home_of h g) ≡ 1 → KnowsLifeOf call key (home_of h g) q → key_known h g q ≡ Some key → key_in_loaded h g q.loaded ≡ Some key
known_loaded call h g key q names has known = by (key_in_loaded h g q.loaded) refl known
  where
    there : (ls : List KnownLife) → Has (record { call = call; key = key; home = home_of h g }) ls → (k : List ℕ) × (key_in_loaded h g ls ≡ Some k)
    there ls m = loaded_some call h g key names ls m

    by : (o : Option (List ℕ)) → key_in_loaded h g q.loaded ≡ o → first_of o (key_in_logs h g q.seen) ≡ Some key → key_in_loaded h g q.loaded ≡ Some key
    by (Some k) f n = f ∙ n
    by None f n = let t = there q.loaded has in absurd (none_some (sym f ∙ t.1))
      where
        none_some : {k : List ℕ} → None ≡ Some k → ⊥
        none_some e = absurd cc
