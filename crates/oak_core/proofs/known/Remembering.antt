-- A pass that learns, splits off another or is joined forgets no place that it knows, and sees no less.
use Rattle.std.proofs.Common.{◌≡◌, List, ◌++◌, sym, refl, subst}
use Rattle.oak_model.specs.Counts.{Has}
use Rattle.oak_model.proofs.Lists.{begins_self, begins_trans}
use Rattle.oak_core.specs.declared.states.Knowledge.{Knowledge}
use Rattle.oak_core.specs.declared.states.Lesson.{Lesson}
use Rattle.oak_core.specs.declared.states.PassState.{PassState}
use Rattle.oak_core.specs.KnownPlaces.{Remembers}
use Rattle.oak_core.specs.PassState.{Extends, seen_of, left_state, right_state, both_state}
use Rattle.oak_core.proofs.known.PinsKnown.{has_first, has_later}

-- knowing the same and more, in two steps as in one

pub remembers_self : (q : Knowledge) → Remembers q q
remembers_self q k at r x = x

pub remembers_then : (p q r : Knowledge) → Remembers p q → Remembers q r → Remembers p r
remembers_then p q r f g k at n x = g k at n (f k at n x)

pub extends_self : (v : PassState) → Extends v v
extends_self v k = begins_self (seen_of k v.knowledge)

pub extends_then : (u v w : PassState) → Extends u v → Extends v w → Extends u w
extends_then u v w f g k = begins_trans (seen_of k u.knowledge) (seen_of k v.knowledge) (seen_of k w.knowledge) (f k) (g k)

-- who has all lessons knows all places
pub remembers_all : (q q' : Knowledge) → ((l : Lesson) → Has l q.heard → Has l q'.heard) → Remembers q q'
remembers_all q q' keeps k at r x = record { lesson = x.lesson; there = keeps x.lesson x.there; covers = x.covers; place = x.place }

-- lessons that are appended to those of before
pub remembers_more : (q q' : Knowledge) (ls : List Lesson) → q'.heard ≡ q.heard ++ ls → Remembers q q'
remembers_more q q' ls is = remembers_all q q' (λ l h. subst (Has l) (sym is) (has_first q.heard ls l h))

-- and those before which others came
pub remembers_behind : (q q' : Knowledge) (ls : List Lesson) → q'.heard ≡ ls ++ q.heard → Remembers q q'
remembers_behind q q' ls is = remembers_all q q' (λ l h. subst (Has l) (sym is) (has_later ls q.heard l h))

-- the same lessons
pub remembers_same : (q q' : Knowledge) → q'.heard ≡ q.heard → Remembers q q'
remembers_same q q' is = remembers_all q q' (λ l h. subst (Has l) (sym is) h)

-- a split leaves both passes all of it, and a join gives the one that goes on what both had

pub split_remembers : (v : PassState) → Remembers v.knowledge (left_state v).knowledge × Remembers v.knowledge (right_state v).knowledge
split_remembers v = (remembers_same v.knowledge (left_state v).knowledge refl, remembers_same v.knowledge (right_state v).knowledge refl)

pub join_remembers : (v w : PassState) → Remembers v.knowledge (both_state v w).knowledge × Remembers w.knowledge (both_state v w).knowledge
join_remembers v w = (remembers_more v.knowledge (both_state v w).knowledge w.knowledge.heard refl, remembers_behind w.knowledge (both_state v w).knowledge v.knowledge.heard refl)
