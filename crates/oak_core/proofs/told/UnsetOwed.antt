-- What a pass owes that would set a value, and finds another word than the floor: nothing changes but what it has found.
use Rattle.std.proofs.Common.{◌≡◌, ◌≢◌, ℕ, cond, false, List, map, set, sym, refl, subst, ne_eqb}
use mathlib.Core.Option.{some}
use lib.ListN.{get_elem?}
use Rattle.oak_model.specs.Kept.{KeptNumbersStand}
use Rattle.oak_model.specs.Limits.{Sizes}
use Rattle.oak_model.specs.declared.writes.Kind.{Kind}
use Rattle.oak_model.proofs.Lists.{map_set_same}
use Rattle.arena_core.specs.Place.{content}
use Rattle.header_core.specs.HeaderHolds.{without_header}
use Rattle.chunk_core.specs.CoverRule.{CoversPartition}
use Rattle.chunk_core.specs.RoomStep.{put_room, set_value}
use Rattle.chunk_core.specs.Rooms.{at_value}
use Rattle.chunk_core.specs.ValueWord.{header_in}
use Rattle.oak_core.specs.declared.states.Findings.{Findings}
use Rattle.oak_core.specs.declared.states.Knowledge.{Knowledge}
use Rattle.oak_core.specs.declared.states.PassState.{PassState}
use Rattle.oak_core.specs.EntryOwners.{is_key_word}
use Rattle.oak_core.specs.Memory.{Memory, in_rooms, memory, read, same_spot, write}
use Rattle.oak_core.specs.PassState.{kept_of, knowledge_of, rooms_held}
use Rattle.oak_core.specs.Rule.{HistoriesStand, Rule}
use Rattle.oak_core.specs.Step.{on_rooms, state_after}
use Rattle.oak_core.specs.TableState.{TableState}
use Rattle.oak_core.proofs.memory.Frames.{write_same}
use Rattle.oak_core.proofs.held.HeaderStanding.{number_small}
use Rattle.oak_core.proofs.kinds.Keeps.{headers_stay, of_rooms}
use Rattle.oak_core.proofs.keyed.KeyBundles.{KeyBundles, keys_idle, keys_now, rooms_still}
use Rattle.oak_core.proofs.known.KnowledgeAfter.{unset_knowledge}
use Rattle.oak_core.proofs.known.PinsKnown.{pins_same}
use Rattle.oak_core.proofs.kinds.ValueSteps.{Owed}

module _ (z : Sizes) (s : TableState) (seat : ℕ) (v : PassState) (r : Rule z s) (here : get_elem? s.states seat ≡ some v) (call : ℕ) (going : v.numbers.spent ≡ false) (k i old new : ℕ) (kind : Kind) where
  abbrev m : Memory
  m = memory z s.words

  abbrev qs : List Knowledge
  qs = map knowledge_of s.states

  abbrev fs : Findings
  fs = (state_after z call (on_rooms (set_value k i old new kind)) s v).findings

  abbrev only_met : PassState
  only_met = record v { findings = (state_after z call (on_rooms (set_value k i old new kind)) s v).findings }

  pub unset_owed : (memory z s.words).rooms.value k i ≢ old → Owed z s seat v r here k i ((memory z s.words).rooms.value k i) (state_after z call (on_rooms (set_value k i old new kind)) s v)
  unset_owed other = subst (Owed z s seat v r here k i (m.rooms.value k i)) (λ j. record v { findings = fs; knowledge = sym (unset_knowledge call m qs v k i old new kind other) j; headers = record v.headers { held = cond (sym (ne_eqb (m.rooms.value k i) old other) j) (without_header (header_in new) v.headers.held) v.headers.held } })
      (record {
        small = number_small z s.words r.words.small (in_rooms (at_value k i));
        histories = subst HistoriesStand (sym (map_set_same knowledge_of s.states seat v only_met here refl)) r.histories;
        headers = headers_stay z s call seat v r here going only_met refl refl;
        covers = of_rooms z s call seat v r here going only_met refl (CoversPartition z (put_room m.rooms (at_value k i) (m.rooms.value k i)) (content m.arena.bytes) is_key_word) (subst (λ (a : Memory). CoversPartition z a.rooms (content m.arena.bytes) is_key_word (map rooms_held s.states)) (sym still) r.covers);
        keys = subst (λ (a : Memory). KeyBundles z a (set s.states seat only_met)) (sym still) (keys_idle z m m s.states seat v only_met here (keys_now z s r) (rooms_still z m s.states seat v only_met here refl) refl refl refl refl (λ h _. refl) (pins_same v only_met refl refl (r.heard.pins seat v here)));
        kept = subst (KeptNumbersStand same_spot (read m)) (sym (map_set_same kept_of s.states seat v only_met here refl)) r.kept;
        pin = r.passes seat v here;
        blocks_same = refl;
        rooms_same = refl;
      })
    where
      still : write m (in_rooms (at_value k i)) (m.rooms.value k i) ≡ m
      still = write_same m (in_rooms (at_value k i))
