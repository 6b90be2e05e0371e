-- What a pass knows by its pins it knows as long as it forgets no lesson.
use Rattle.std.proofs.Common.{◌≡◌, ℕ, List, [], ◌∷◌, ◌++◌, sym, ap, ◌∙◌, subst, inl, inr, append-nil, Option, Some, None}
use Rattle.pin_word.specs.PinWord.{state_of, generation_of}
use Rattle.oak_model.specs.Counts.{Has}
use Rattle.header_core.specs.declared.holds.PinnedHeader.{PinnedHeader}
use Rattle.header_core.specs.declared.states.TheConstants.{DEAD}
use Rattle.header_core.specs.HeaderRule.{OnPin}
use Rattle.oak_core.specs.declared.states.Knowledge.{Knowledge}
use Rattle.oak_core.specs.declared.states.Lesson.{Lesson}
use Rattle.oak_core.specs.declared.states.PassState.{PassState}
use Rattle.oak_core.specs.KeyReads.{home_of}
use Rattle.oak_core.specs.Lessons.{KnowsRemoval, PinsKnow}

-- what is added to a list: none is lost

pub has_first : {A : Type 0} (xs ys : List A) (l : A) → Has l xs → Has l (xs ++ ys)
has_first [] ys l h = absurd h
has_first (x ∷ xs) ys l (inl e) = inl e
has_first (x ∷ xs) ys l (inr h) = inr (has_first xs ys l h)

pub has_later : {A : Type 0} (xs ys : List A) (l : A) → Has l ys → Has l (xs ++ ys)
has_later [] ys l h = h
has_later (x ∷ xs) ys l h = inr (has_later xs ys l h)

-- what a header pin found dead
abbrev pub KnowsDead : Knowledge → PinnedHeader → Type 0
KnowsDead q p = state_of p.found ≡ DEAD → generation_of p.found ≡ p.wanted → (k : ℕ) × KnowsRemoval k (home_of p.header p.wanted) p.stamp q

pub removed_on : (q q' : Knowledge) (o : Option PinnedHeader) → ((l : Lesson) → Has l q.heard → Has l q'.heard) → OnPin (KnowsDead q) o → OnPin (KnowsDead q') o
removed_on q q' None keeps h = tt
removed_on q q' (Some p) keeps h = λ d g. let t = h d g in let x = t.1 in (t.0, record { lesson = x.lesson; there = keeps x.lesson x.there; covers = x.covers; removed = x.removed })

-- a pass whose pin on a header stays, and that may have learned
pub pins_stay : (v u : PassState) → u.headers.pin ≡ v.headers.pin → (ls : List Lesson) → u.knowledge.heard ≡ v.knowledge.heard ++ ls → PinsKnow v → PinsKnow u
pins_stay v u headers ls is h = record {
  removed = subst (OnPin (KnowsDead u.knowledge)) (sym headers) (removed_on v.knowledge u.knowledge v.headers.pin more h.removed);
}
  where
    more : (l : Lesson) → Has l v.knowledge.heard → Has l u.knowledge.heard
    more l x = subst (λ (t : List Lesson). Has l t) (sym is) (has_first v.knowledge.heard ls l x)

-- and that has learned nothing
pub pins_same : (v u : PassState) → u.headers.pin ≡ v.headers.pin → u.knowledge ≡ v.knowledge → PinsKnow v → PinsKnow u
pins_same v u headers knowledge h = pins_stay v u headers [] (ap (λ (q : Knowledge). q.heard) knowledge ∙ sym (append-nil v.knowledge.heard)) h

-- a pass without one knows nothing by it
pub pins_none : (v : PassState) → v.headers.pin ≡ None → PinsKnow v
pins_none v headers = record { removed = subst (OnPin (KnowsDead v.knowledge)) (sym headers) tt }
