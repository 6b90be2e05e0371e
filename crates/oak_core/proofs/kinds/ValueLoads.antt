-- The load of the value word of an entry that was found under a good pin: where it is a floor, the pass learns all that was written of the key up to it, and where it names a header, that life of the key.
use Rattle.std.proofs.Common.{◌≡◌, ℕ, ◌+◌, ◌<◌, ◌==◌, cond, Bool, true, false, List, [], ◌∷◌, ◌++◌, map, set, refl, ap, ◌∙◌, arith, Some, eq-eqb, ne_eqb}
use Rattle.std.proofs.lemmas.Bool.{and_right}
use mathlib.Core.Option.{some}
use lib.ListN.{get_elem?}
use Rattle.oak_model.specs.KeyNumber.{key_number}
use Rattle.oak_model.specs.Limits.{Sizes}
use Rattle.oak_model.proofs.Counting.{true_both}
use Rattle.oak_model.proofs.Lists.{each_append, at_map}
use Rattle.arena_core.specs.Place.{content}
use Rattle.chunk_core.specs.CoverRule.{CoversPartition}
use Rattle.chunk_core.specs.PinnedRooms.{IsGoodRoom, found_in}
use Rattle.chunk_core.specs.RoomRule.{RoomsStand}
use Rattle.chunk_core.specs.ValueWord.{names_header}
use Rattle.chunk_core.specs.declared.holds.PinnedRoom.{PinnedRoom}
use Rattle.chunk_core.proofs.ValueWords.{none_named}
use Rattle.oak_core.specs.declared.states.Knowledge.{Knowledge}
use Rattle.oak_core.specs.declared.states.KnownLife.{KnownLife}
use Rattle.oak_core.specs.declared.states.PassState.{PassState}
use Rattle.oak_core.specs.EntryOwners.{is_key_word}
use Rattle.oak_core.specs.FoundKeys.{entry_key, pinned_key}
use Rattle.oak_core.specs.KeyHistories.{IsKeyOf, homes_in}
use Rattle.oak_core.specs.KeyReads.{word_now, history_now}
use Rattle.oak_core.specs.KeyRule.{KeysStand, LoadedStand}
use Rattle.oak_core.specs.Learning.{taught_by, taught_where, lesson_by, of_key_to}
use Rattle.oak_core.specs.Lessons.{HeardStands}
use Rattle.oak_core.specs.LifeKeys.{is_known, key_or}
use Rattle.oak_core.specs.Memory.{Memory}
use Rattle.oak_core.specs.PassState.{rooms_held, knowledge_of}
use Rattle.oak_core.specs.Rule.{HistoriesStand}
use Rattle.oak_core.specs.Sights.{sights_with}
use Rattle.oak_core.specs.ValueLoads.{knows_value, sights_value, shows_floor, shows_life, life_shown, value_taught}
use Rattle.oak_core.proofs.covers.FoundValues.{value_there, pinned_there, is_key_there}
use Rattle.oak_core.proofs.histories.HomeKeys.{last_home}
use Rattle.oak_core.proofs.keyed.KeyLoads.{floor_heard}
use Rattle.oak_core.proofs.known.PinsKnown.{pins_stay}

module _ (z : Sizes) (m : Memory) (vs : List PassState) (rooms : RoomsStand z m.rooms (content m.arena.bytes) (map rooms_held vs)) (parts : CoversPartition z m.rooms (content m.arena.bytes) is_key_word (map rooms_held vs)) (keys : KeysStand z m vs)
    (seat : ℕ) (v : PassState) (here : get_elem? vs seat ≡ some v) (p : PinnedRoom) (is : v.rooms.pin ≡ Some p) (good : IsGoodRoom p) (i : ℕ) (key : List ℕ) (found : entry_key i (found_in p) ≡ Some key) (n : ℕ) (finds : m.rooms.value p.room i ≡ n) where
  pinned : pinned_key p.room i v.rooms.pin ≡ Some key
  pinned = pinned_there z m vs rooms parts seat v here p is good i key found

  word : word_now z m vs (key_number key) ≡ n + 1
  word = value_there z m vs rooms parts seat v here p is good i key found ∙ ap (λ (t : ℕ). t + 1) finds

  -- a floor
  module _ (floor : names_header n ≡ 0) where
    shown : shows_floor p.room i n v.rooms.pin ≡ true
    shown = true_both (is_known (pinned_key p.room i v.rooms.pin)) (names_header n == 0) (ap is_known pinned) (eq-eqb (names_header n) 0 floor)

    no_life : shows_life p.room i n v.rooms.pin ≡ false
    no_life = and_right (is_known (pinned_key p.room i v.rooms.pin)) (names_header n == 1) (ne_eqb (names_header n) 1 (λ e. absurd (omega arith)))

    pub floor_knowledge : (call : ℕ) (qs : List Knowledge) → knows_value call p.room i n v.rooms.pin qs v.knowledge ≡ taught_by (of_key_to key n) qs v.knowledge
    floor_knowledge call qs = λ j. record (taught_where (shown j) (of_key_to (key_or (pinned j)) n) qs v.knowledge) { loaded = cond (no_life j) (v.knowledge.loaded ++ life_shown call p.room i n v.rooms.pin ∷ []) v.knowledge.loaded }

    pub floor_sights : (call : ℕ) → sights_value p.room i n call v.rooms.pin v.findings ≡ v.findings.sights ++ record { call = call; taught = of_key_to key n } ∷ []
    floor_sights call = λ j. sights_with (shown j) call (of_key_to (key_or (pinned j)) n) v.findings

    pub floor_step_heard : (u : PassState) → HistoriesStand (map knowledge_of vs) → HeardStands z m vs → u.knowledge ≡ taught_by (of_key_to key n) (map knowledge_of vs) v.knowledge → u.rooms ≡ v.rooms → u.headers.pin ≡ v.headers.pin → HeardStands z m (set vs seat u)
    floor_step_heard u histories heard knowledge same pin = floor_heard z m m refl refl vs keys histories heard seat v u here key n same
        (pins_stay v u pin (lesson_by (of_key_to key n) (map knowledge_of vs) ∷ []) (ap (λ (q : Knowledge). q.heard) knowledge) (heard.pins seat v here))
        (ap (λ (q : Knowledge). q.seen) knowledge) (ap (λ (q : Knowledge). q.heard) knowledge) word floor

  -- a header
  module _ (names : names_header n ≡ 1) where
    life : shows_life p.room i n v.rooms.pin ≡ true
    life = true_both (is_known (pinned_key p.room i v.rooms.pin)) (names_header n == 1) (ap is_known pinned) (eq-eqb (names_header n) 1 names)

    no_floor : shows_floor p.room i n v.rooms.pin ≡ false
    no_floor = and_right (is_known (pinned_key p.room i v.rooms.pin)) (names_header n == 0) (ne_eqb (names_header n) 0 (λ e. absurd (omega arith)))

    pub life_knowledge : (call : ℕ) (qs : List Knowledge) → knows_value call p.room i n v.rooms.pin qs v.knowledge ≡ record v.knowledge { loaded = v.knowledge.loaded ++ record { call = call; key = key; home = n } ∷ [] }
    life_knowledge call qs = λ j. record (taught_where (no_floor j) (of_key_to (key_or (pinned j)) n) qs v.knowledge) { loaded = cond (life j) (v.knowledge.loaded ++ record { call = call; key = key_or (pinned j); home = n } ∷ []) v.knowledge.loaded }

    pub life_sights : (call : ℕ) → sights_value p.room i n call v.rooms.pin v.findings ≡ v.findings.sights
    life_sights call = ap (λ (b : Bool). sights_with b call (value_taught p.room i n v.rooms.pin) v.findings) no_floor

    -- it is one of the key's lives

    pub life_there : 0 < homes_in n (history_now vs (key_number key))
    life_there = last_home n 0 (history_now vs (key_number key)) (λ e. none_named n names e) ((keys.states (key_number key)).named n word names).home

    pub life_loaded : (call : ℕ) → LoadedStand (history_now vs) (record v.knowledge { loaded = v.knowledge.loaded ++ record { call = call; key = key; home = n } ∷ [] })
    life_loaded call = each_append (λ (l : KnownLife). (names_header l.home ≡ 1) × (0 < homes_in l.home (history_now vs (key_number l.key))) × IsKeyOf (key_number l.key) l.key) v.knowledge.loaded (record { call = call; key = key; home = n } ∷ [])
        (keys.loaded seat v.knowledge (at_map knowledge_of vs seat v here))
        ((names, life_there, is_key_there z m vs rooms parts seat v here p is good i key found), tt)
