-- What a step on a header leaves of keys, of their histories and of what its pass knows: the form in which each kind shows it.
use Rattle.std.proofs.Common.{◌≡◌, ℕ, ◌≤◌, List, map, set, sym, refl, ap, ◌∙◌, subst, arith}
use mathlib.Core.Option.{some}
use lib.ListN.{get_elem?}
use Rattle.pin_word.specs.PinWord.{state_of, generation_of}
use Rattle.oak_model.specs.History.{StampsRise}
use Rattle.oak_model.specs.Limits.{Sizes}
use Rattle.oak_model.proofs.Lists.{at_map, map_set, map_set_same}
use Rattle.oak_model.proofs.PutLaws.{put-cases}
use Rattle.header_core.specs.Headers.{HeaderMemory, at_pin}
use Rattle.header_core.specs.HeaderStep.{put_header}
use Rattle.header_core.specs.declared.states.TheConstants.{DEAD}
use Rattle.oak_core.specs.declared.states.Knowledge.{Knowledge}
use Rattle.oak_core.specs.declared.states.PassState.{PassState}
use Rattle.oak_core.specs.declared.states.Taught.{Taught}
use Rattle.oak_core.specs.KeyHistories.{writes_of}
use Rattle.oak_core.specs.KeyReads.{history_now}
use Rattle.oak_core.specs.KeyRule.{KeysStand}
use Rattle.oak_core.specs.Known.{knows_life, known}
use Rattle.oak_core.specs.Learning.{reach_of, taught_by}
use Rattle.oak_core.specs.Lessons.{HeardStands}
use Rattle.oak_core.specs.Memory.{Memory, memory}
use Rattle.oak_core.specs.PassState.{knowledge_of}
use Rattle.oak_core.specs.Rule.{HistoriesStand, Rule}
use Rattle.oak_core.specs.TableState.{TableState}
use Rattle.oak_core.proofs.histories.CallersKept.{without_hand}
use Rattle.oak_core.proofs.keyed.KeyBundles.{KeyBundles, CoversStay, NoneDies, bundles_kept, keys_now}
use Rattle.oak_core.proofs.known.KnownTaught.{known_taught, taught_knows}
use Rattle.oak_core.proofs.lessons.TaughtStates.{history_taught, histories_taught}

-- a pin word that comes to no other generation, and is not dead but where it was so
pub pin_still : (n : HeaderMemory) (h y : ℕ) → (state_of y ≡ DEAD → state_of (n.pin h) ≡ DEAD) → generation_of y ≡ generation_of (n.pin h) → NoneDies n (put_header n (at_pin h) y)
pin_still n h y dead generation = record {
  dead = λ j. put-cases n.pin h y j (λ t. state_of t ≡ DEAD → state_of (n.pin j) ≡ DEAD) (λ e d. ap (λ (t : ℕ). state_of (n.pin t)) e ∙ dead d) (λ _ d. d);
  generations = λ j. put-cases n.pin h y j (λ t. generation_of t ≡ generation_of (n.pin j)) (λ e. generation ∙ ap (λ (t : ℕ). generation_of (n.pin t)) (sym e)) (λ _. refl);
}

module _ (z : Sizes) (s : TableState) (seat : ℕ) (v : PassState) (r : Rule z s) (here : get_elem? s.states seat ≡ some v) where
  abbrev m : Memory
  m = memory z s.words

  abbrev qs : List Knowledge
  qs = map knowledge_of s.states

  -- over the memory, with the state w of the pass
  pub record KeysAfter (m' : Memory) (w : PassState) : Type 0 where
    pub histories : HistoriesStand (map knowledge_of (set s.states seat w))
    pub known_same : (h g : ℕ) → known (map knowledge_of (set s.states seat w)) h g ≡ known (map knowledge_of s.states) h g
    pub more : (h g : ℕ) → knows_life h g v.knowledge ≤ knows_life h g w.knowledge
    pub keys : KeyBundles z m' (set s.states seat w)

  -- the pass learns nothing
  pub after_idle : (m' : Memory) (w : PassState) → w.knowledge ≡ v.knowledge → KeyBundles z m' (set s.states seat w) → KeysAfter m' w
  after_idle m' w knowledge keys = record {
    histories = subst HistoriesStand (sym (map_set_same knowledge_of s.states seat v w here knowledge)) r.histories;
    known_same = λ h g. ap (λ (ks : List Knowledge). known ks h g) (map_set_same knowledge_of s.states seat v w here knowledge);
    more = λ h g. let e = ap (knows_life h g) knowledge in omega arith;
    keys = keys;
  }

  -- it is taught x
  pub after_taught : (m' : Memory) (w : PassState) (x : Taught) → w.knowledge ≡ taught_by x (map knowledge_of s.states) v.knowledge → without_hand w.numbers ≡ without_hand v.numbers → CoversStay z m m' s.states (set s.states seat w) → NoneDies m.headers m'.headers
      → KeysStand z m' (set s.states seat w) → HeardStands z m' (set s.states seat w) → KeysAfter m' w
  after_taught m' w x knowledge numbers stay still keys heard = record {
    histories = histories_taught (reach_of x) s.states r.histories rise seat v w here seen;
    known_same = λ h g. ap (λ (ks : List Knowledge). known ks h g) (map_set knowledge_of s.states seat w ∙ ap (set qs seat) knowledge) ∙ known_taught qs seat v.knowledge (at_map knowledge_of s.states seat v here) x h g;
    more = λ h g. let e = ap (knows_life h g) knowledge in let t = taught_knows x qs v.knowledge h g in omega arith;
    keys = bundles_kept z m m' s.states seat v w here (keys_now z s r) stay numbers (ap (λ (q : Knowledge). q.mine) knowledge) (history_taught (reach_of x) s.states r.histories rise seat v w here seen) still keys heard;
  }
    where
      rise : (k : ℕ) → StampsRise 0 (writes_of (history_now s.states k))
      rise k = (r.keys.legal k).legal.stamps

      seen : w.knowledge.seen ≡ (taught_by x (map knowledge_of s.states) v.knowledge).seen
      seen = ap (λ (q : Knowledge). q.seen) knowledge
