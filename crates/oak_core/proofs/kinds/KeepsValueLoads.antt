-- The load of the value word of an entry keeps the rule: under a good pin that found the entry, a floor teaches its pass, and a header is a life that it knows.
use Rattle.std.proofs.Common.{◌≡◌, ℕ, ◌<◌, ◌==◌, cond, false, List, [], ◌∷◌, ◌++◌, map, set, sym, refl, ap, ◌∙◌, subst, ⊎_elim, Option, Some, None, eqb-true, arith, append-nil}
use Rattle.std.proofs.lemmas.Option.{none-some}
use mathlib.Core.Option.{some}
use lib.ListN.{get_elem?}
use Rattle.pin_word.specs.PinWord.{state_of}
use Rattle.oak_model.specs.KeyNumber.{key_number}
use Rattle.oak_model.specs.Limits.{Sizes}
use Rattle.oak_model.proofs.Counting.{both_true, test-cases, total_snoc}
use Rattle.oak_model.proofs.Lists.{at_map, map_set}
use Rattle.chunk_core.specs.declared.holds.PinnedRoom.{PinnedRoom}
use Rattle.chunk_core.specs.declared.states.TheConstants.{OPEN}
use Rattle.chunk_core.specs.PinnedRooms.{IsGoodRoom, found_in}
use Rattle.chunk_core.specs.Rooms.{at_value}
use Rattle.chunk_core.specs.ValueWord.{names_header}
use Rattle.oak_core.specs.declared.states.Knowledge.{Knowledge}
use Rattle.oak_core.specs.declared.states.KnownLife.{KnownLife}
use Rattle.oak_core.specs.declared.states.PassState.{PassState}
use Rattle.oak_core.specs.LinkTeaching.{is_pinned}
use Rattle.oak_core.specs.FoundKeys.{entry_key, pinned_key}
use Rattle.oak_core.specs.KeyHistories.{homes_in}
use Rattle.oak_core.specs.KeyReads.{history_now}
use Rattle.oak_core.specs.KeyRule.{LoadedStand}
use Rattle.oak_core.specs.Known.{knows_life, is_life, known}
use Rattle.oak_core.specs.Learning.{of_key_to}
use Rattle.oak_core.specs.Memory.{Memory, memory, in_rooms, IsInside}
use Rattle.oak_core.specs.PassState.{knowledge_of}
use Rattle.oak_core.specs.Rule.{Rule}
use Rattle.oak_core.specs.Step.{load, state_after, table_after}
use Rattle.oak_core.specs.TableState.{TableState}
use Rattle.oak_core.proofs.kinds.KeepsLoads.{quiet_keeps, load_taught, roomless_rule}
use Rattle.oak_core.proofs.keyed.KeyBundles.{CoversStay, rooms_still, bundles_kept, keys_now}
use Rattle.oak_core.proofs.keyed.KeysCounted.{keys_learned}
use Rattle.oak_core.proofs.keyed.Levels.{named_or}
use Rattle.oak_core.proofs.known.LoadedLives.{history_seen, histories_seen, lessons_seen, known_loaded}
use Rattle.oak_core.proofs.known.PinsKnown.{pins_stay}
use Rattle.oak_core.proofs.told.QuietLoads.{unfound_teaches}
use Rattle.oak_core.proofs.kinds.ValueLoads.{floor_knowledge, floor_step_heard, life_knowledge, life_there, life_loaded}

-- a good pin that found an entry with a key
pub record FindsKey (r i : ℕ) (o : Option PinnedRoom) (key : List ℕ) : Type 0 where
  pub pin : PinnedRoom
  pub is : o ≡ Some pin
  pub room : pin.room ≡ r
  pub good : IsGoodRoom pin
  pub found : entry_key i (found_in pin) ≡ Some key

-- there is one where an entry has a key
pub finds_key : (r i : ℕ) (o : Option PinnedRoom) (key : List ℕ) → pinned_key r i o ≡ Some key → FindsKey r i o key
finds_key r i None key e = absurd (none-some key e)
finds_key r i (Some p) key e = test-cases (is_pinned r p) (λ t. cond t (entry_key i (found_in p)) None ≡ Some key → is_pinned r p ≡ t → FindsKey r i (Some p) key)
    (λ same q _. let b = both_true (p.room == r) (state_of p.found == OPEN) same in record { pin = p; is = refl; room = eqb-true p.room r b.0; good = eqb-true (state_of p.found) OPEN b.1; found = q })
    (λ _ q _. absurd (none-some key q)) e refl

module _ (z : Sizes) (s : TableState) (call seat : ℕ) (v : PassState) (r : Rule z s) (here : get_elem? s.states seat ≡ some v) (going : v.numbers.spent ≡ false) where
  abbrev m : Memory
  m = memory z s.words

  abbrev qs : List Knowledge
  qs = map knowledge_of s.states

  -- an entry that was found
  module _ (p : PinnedRoom) (is : v.rooms.pin ≡ Some p) (good : IsGoodRoom p) (i : ℕ) (inside : IsInside z (in_rooms (at_value p.room i))) (key : List ℕ) (found : entry_key i (found_in p) ≡ Some key) where
    abbrev n : ℕ
    n = m.rooms.value p.room i

    abbrev w : PassState
    w = state_after z call (load (in_rooms (at_value p.room i))) s v

    floor_keeps : names_header n ≡ 0 → Rule z (table_after z call (load (in_rooms (at_value p.room i))) seat v s)
    floor_keeps floor = let knows = floor_knowledge z m s.states r.rooms r.covers r.keys seat v here p is good i key found n refl floor call qs in
        roomless_rule z s call seat v r here going (in_rooms (at_value p.room i)) inside refl (load_taught z s call seat v r here going (in_rooms (at_value p.room i)) (of_key_to key n) knows (rooms_still z m s.states seat v w here refl)
        (floor_step_heard z m s.states r.rooms r.covers r.keys seat v here p is good i key found n refl floor w r.histories r.heard knows refl refl))

    life_keeps : names_header n ≡ 1 → Rule z (table_after z call (load (in_rooms (at_value p.room i))) seat v s)
    life_keeps names = roomless_rule z s call seat v r here going (in_rooms (at_value p.room i)) inside refl record {
      histories = histories_seen s.states seat v w here r.histories seen;
      known_same = λ h g. ap (λ (ks : List Knowledge). known ks h g) (map_set knowledge_of s.states seat w) ∙ known_loaded qs seat v.knowledge (at_map knowledge_of s.states seat v here) life (key_number key) there w.knowledge seen loaded h g;
      more = λ h g. let a = ap (knows_life h g) knows in let c = total_snoc (is_life h g) v.knowledge.loaded life in omega arith;
      keys = bundles_kept z m m s.states seat v w here (keys_now z s r) stay refl (ap (λ (q : Knowledge). q.mine) knows) same record { dead = λ h e. e; generations = λ h. refl } (keys_learned z m s.states r.keys seat v w here refl stay same stands)
          (lessons_seen s.states seat v w here r.histories seen z m stay told (pins_stay v w refl [] (told ∙ sym (append-nil v.knowledge.heard)) (r.heard.pins seat v here)) r.heard);
    }
      where
        life : KnownLife
        life = record { call = call; key = key; home = n }

        knows : w.knowledge ≡ record v.knowledge { loaded = v.knowledge.loaded ++ record { call = call; key = key; home = n } ∷ [] }
        knows = life_knowledge z m s.states r.rooms r.covers r.keys seat v here p is good i key found n refl names call qs

        there : 0 < homes_in n (history_now s.states (key_number key))
        there = life_there z m s.states r.rooms r.covers r.keys seat v here p is good i key found n refl names

        seen : w.knowledge.seen ≡ v.knowledge.seen
        seen = ap (λ (q : Knowledge). q.seen) knows

        told : w.knowledge.heard ≡ v.knowledge.heard
        told = ap (λ (q : Knowledge). q.heard) knows

        stay : CoversStay z m m s.states (set s.states seat w)
        stay = rooms_still z m s.states seat v w here refl

        same : (k : ℕ) → history_now (set s.states seat w) k ≡ history_now s.states k
        same = history_seen s.states seat v w here r.histories seen

        loaded : w.knowledge.loaded ≡ v.knowledge.loaded ++ record { call = call; key = key; home = n } ∷ []
        loaded = ap (λ (q : Knowledge). q.loaded) knows

        stands : LoadedStand (history_now s.states) w.knowledge
        stands = subst (LoadedStand (history_now s.states)) (sym knows) (life_loaded z m s.states r.rooms r.covers r.keys seat v here p is good i key found n refl names call)

    found_keeps : Rule z (table_after z call (load (in_rooms (at_value p.room i))) seat v s)
    found_keeps = ⊎_elim floor_keeps life_keeps (named_or n)

  pub value_keeps : (k i : ℕ) → IsInside z (in_rooms (at_value k i)) → Rule z (table_after z call (load (in_rooms (at_value k i))) seat v s)
  value_keeps k i inside = go (pinned_key k i v.rooms.pin) refl
    where
      go : (o : Option (List ℕ)) → pinned_key k i v.rooms.pin ≡ o → Rule z (table_after z call (load (in_rooms (at_value k i))) seat v s)
      go None none = quiet_keeps z s call seat v r here going (in_rooms (at_value k i)) inside (unfound_teaches call k i m (map knowledge_of s.states) v none)
      go (Some key) is = let f = finds_key k i v.rooms.pin key is in subst (λ (t : ℕ). Rule z (table_after z call (load (in_rooms (at_value t i))) seat v s)) f.room
          (found_keeps f.pin f.is f.good i (subst (λ (t : ℕ). IsInside z (in_rooms (at_value t i))) (sym f.room) inside) key f.found)
