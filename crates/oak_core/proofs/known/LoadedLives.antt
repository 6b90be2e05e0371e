-- A pass that loads a life from an entry: no history changes, no header comes to be known, and no lesson is told.
use Rattle.std.proofs.Common.{◌≡◌, ℕ, ◌+◌, ◌<◌, ◌≤◌, nat_lt, List, [], ◌∷◌, ◌++◌, map, length, set, sym, ap, ◌∙◌, subst, arith, append-nil}
use Rattle.std.proofs.lemmas.Bool.{lt-ltb}
use mathlib.Core.Logic.{dite}
use mathlib.Core.Option.{some}
use native.Mathlib.Decide.{ℕ_discrete}
use lib.ListN.{get_elem?}
use Rattle.oak_model.specs.Counts.{one_at, one_if, total, Each, Begins, longest}
use Rattle.oak_model.specs.Limits.{Sizes}
use Rattle.oak_model.proofs.Counting.{total_set, total_snoc, one_at-other}
use Rattle.oak_model.proofs.Lists.{at_map}
use Rattle.chunk_core.specs.CoverSums.{each, word_for, base_for}
use Rattle.chunk_core.specs.ValueWord.{names_life}
use Rattle.oak_core.specs.declared.states.KeyedWrite.{KeyedWrite}
use Rattle.oak_core.specs.declared.states.Knowledge.{Knowledge}
use Rattle.oak_core.specs.declared.states.KnownLife.{KnownLife}
use Rattle.oak_core.specs.declared.states.PassState.{PassState}
use Rattle.oak_core.specs.KeyHistories.{homes_in}
use Rattle.oak_core.specs.KeyReads.{history_now}
use Rattle.oak_core.specs.Known.{lives_in, is_life, knows_life, known}
use Rattle.oak_core.specs.Lessons.{HeardStands, PinsKnow}
use Rattle.oak_core.specs.Memory.{Memory}
use Rattle.oak_core.specs.PassState.{of_key, seen_of, history, knowledge_of}
use Rattle.oak_core.specs.Rule.{HistoriesStand}
use Rattle.oak_core.proofs.lessons.HeardKeeps.{heard_one}
use Rattle.oak_core.proofs.keyed.KeyBundles.{CoversStay}
use Rattle.oak_core.proofs.histories.KnownWrites.{history_known}
use Rattle.oak_core.proofs.keyed.Levels.{level_framed}
use Rattle.oak_core.proofs.known.SeenMore.{history_more, histories_more}

-- a pass that has seen what it did leaves all histories
module _ (vs : List PassState) (seat : ℕ) (v u : PassState) (here : get_elem? vs seat ≡ some v) (histories : HistoriesStand (map knowledge_of vs)) (seen : u.knowledge.seen ≡ v.knowledge.seen) where
  abbrev qs : List Knowledge
  qs = map knowledge_of vs

  q_here : get_elem? (map knowledge_of vs) seat ≡ some v.knowledge
  q_here = at_map knowledge_of vs seat v here

  pub seen_same : (k : ℕ) → seen_of k u.knowledge ≡ seen_of k v.knowledge
  seen_same k = ap (λ (l : List (List KeyedWrite)). longest (map (of_key k) l)) seen

  begin : (k : ℕ) → Each (λ (l : List KeyedWrite). Begins (of_key k l) (history_now vs k)) u.knowledge.seen
  begin k = subst (Each (λ (l : List KeyedWrite). Begins (of_key k l) (history_now vs k))) (sym seen) (histories k seat v.knowledge q_here)

  more : (k : ℕ) → length (seen_of k v.knowledge) ≤ length (seen_of k u.knowledge)
  more k = let t = ap length (seen_same k) in omega arith

  pub history_seen : (k : ℕ) → history_now (set vs seat u) k ≡ history_now vs k
  history_seen = history_more vs seat v u here histories begin more

  pub histories_seen : HistoriesStand (map knowledge_of (set vs seat u))
  histories_seen = histories_more vs seat v u here histories begin more

  -- and, with the lessons that it had, all lessons
  pub lessons_seen : (z : Sizes) (m : Memory) → CoversStay z m m vs (set vs seat u) → u.knowledge.heard ≡ v.knowledge.heard → PinsKnow u → HeardStands z m vs → HeardStands z m (set vs seat u)
  lessons_seen z m stay told pins heard = heard_one z m m vs seat v u here heard (level_framed z m m vs (set vs seat u) (λ k. stay (each (word_for k))) (λ k. let e = stay (base_for k) in omega arith) history_seen)
      (λ k. let e = ap length (seen_same k) in omega arith) [] (told ∙ sym (append-nil v.knowledge.heard)) tt pins

-- what is said of the words of lives is said in a history that has one of that life
lives_of : (f : ℕ → ℕ) (v : ℕ) (h : List KeyedWrite) → 0 < f v → 0 < homes_in v h → 0 < total (λ (w : KeyedWrite). f w.home) h
unfolding total one_at
lives_of f v [] p n = absurd (omega arith)
lives_of f v (w ∷ ws) p n = dite (ℕ_discrete w.home v) (λ e. let s = ap f e in omega arith) (λ ne. let t = lives_of f v ws p (let o = one_at-other w.home v ne in omega arith) in omega arith)

-- a life of a history, known by a pass besides what it knew, is known already
pub known_loaded : (qs : List Knowledge) (seat : ℕ) (q : Knowledge) → get_elem? qs seat ≡ some q → (l : KnownLife) (k : ℕ) → 0 < homes_in l.home (history k qs) → (w : Knowledge) → w.seen ≡ q.seen → w.loaded ≡ q.loaded ++ l ∷ [] → (h g : ℕ) → known (set qs seat w) h g ≡ known qs h g
known_loaded qs seat q here l k there w seen loaded h g = dite (ℕ_discrete (is_life h g l) 0) (λ e. ap (λ (n : ℕ). one_if (nat_lt 0 n)) (let s = sum in let n = now in omega arith))
    (λ ne. ap one_if (lt-ltb 0 (total (knows_life h g) (set qs seat w)) (let s = sum in let n = now in let b = few in omega arith)) ∙ sym (history_known h g k qs (lives_of (names_life h g) l.home (history k qs) (omega arith) there)))
  where
    sum : total (knows_life h g) (set qs seat w) + knows_life h g q ≡ total (knows_life h g) qs + knows_life h g w
    sum = total_set (knows_life h g) qs seat q w here

    now : knows_life h g w ≡ knows_life h g q + is_life h g l
    now = let a = ap (total (lives_in h g)) seen in let b = ap (total (is_life h g)) loaded in let c = total_snoc (is_life h g) q.loaded l in omega arith

    few : knows_life h g q ≤ knows_life h g w
    few = let n = now in omega arith
