-- What a pass owes that unlinks the header that it buries from the entry that it found.
use Rattle.std.proofs.Common.{◌≡◌, ℕ, ◌^◌, ◌<◌, ◌==◌, ◌&&◌, not, List, map, set, sym, refl, subst, arith}
use mathlib.Core.Option.{some}
use lib.ListN.{get_elem?}
use Rattle.oak_model.specs.Counts.{total, Has}
use Rattle.oak_model.specs.Kept.{AreTrueTo, KeptNumbersStand}
use Rattle.oak_model.specs.KeyNumber.{key_number}
use Rattle.oak_model.specs.Limits.{Sizes}
use Rattle.oak_model.proofs.Lists.{at_map, map_set, map_set_same}
use Rattle.arena_core.specs.Place.{IsPlace, content}
use Rattle.header_core.specs.declared.holds.HeaderHolds.{HeaderHolds}
use Rattle.header_core.specs.declared.holds.HeldHeader.{HeldHeader}
use Rattle.header_core.specs.declared.states.TheConstants.{DEAD}
use Rattle.header_core.specs.Headers.{at_stamp, read_header}
use Rattle.header_core.specs.HeaderHolds.{held_state, kept_of_headers}
use Rattle.chunk_core.specs.KeyWords.{key_bytes}
use Rattle.chunk_core.specs.RoomStep.{put_room, unlink_entry}
use Rattle.chunk_core.specs.Rooms.{at_value}
use Rattle.oak_core.specs.declared.states.Findings.{Findings}
use Rattle.oak_core.specs.declared.states.Knowledge.{Knowledge}
use Rattle.oak_core.specs.declared.states.PassState.{PassState}
use Rattle.oak_core.specs.Callers.{made_by, removes}
use Rattle.oak_core.specs.KeyedHeaders.{unlinked}
use Rattle.oak_core.specs.Known.{known, knows_life}
use Rattle.oak_core.specs.LifeKeys.{key_or}
use Rattle.oak_core.specs.Memory.{Memory, in_headers, memory, read, same_spot}
use Rattle.oak_core.specs.Owners.{HeadersAreHeld}
use Rattle.oak_core.specs.PassState.{headers_held, kept_of, knowledge_of}
use Rattle.oak_core.specs.Rule.{HistoriesStand, Rule}
use Rattle.oak_core.specs.Step.{MayUnlinkEntry, on_rooms, state_after}
use Rattle.oak_core.specs.TableState.{TableState}
use Rattle.oak_core.proofs.histories.CallersKept.{made_same}
use Rattle.oak_core.proofs.covers.FoundEntries.{pinned_stands}
use Rattle.oak_core.proofs.held.HeaderStanding.{number_small, parts, small_pin}
use Rattle.oak_core.proofs.held.HeldInside.{held_low}
use Rattle.oak_core.proofs.held.HeldTruths.{held_stamp}
use Rattle.oak_core.proofs.keyed.KeyBundles.{opened_kept}
use Rattle.oak_core.proofs.held.RelabelledHeaders.{Relabels, relabelled_kept, relabelled_pins, relabelled_stand, relabelled_whole}
use Rattle.oak_core.proofs.covers.UnlinksEntry.{bounds_unlinked, callers_unlinked, covers_unlinked, heard_unlinked, keys_unlinked}
use Rattle.oak_core.proofs.kinds.ValueSteps.{Owed}
use Rattle.oak_core.proofs.histories.WritesCounted.{writes_counted}

module _ (z : Sizes) (s : TableState) (seat : ℕ) (v : PassState) (r : Rule z s) (here : get_elem? s.states seat ≡ some v) (call k i x : ℕ) (may : MayUnlinkEntry z k i x v) where
  abbrev m : Memory
  m = memory z s.words

  abbrev key : List ℕ
  key = key_bytes may.unlink.entry.word may.unlink.entry.words

  abbrev w : PassState
  w = state_after z call (on_rooms (unlink_entry k i x)) s v

  abbrev fs : Findings
  fs = (state_after z call (on_rooms (unlink_entry k i x)) s v).findings

  few_made : total made_by s.states < 2 ^ 39
  few_made = writes_counted z m.given s.states r.sizes r.numbers r.callers r.spent

  lows : (t : HeldHeader) → Has t v.headers.held → t.header < 2 ^ 31
  lows = held_low z s seat v r here

  true_numbers : AreTrueTo (read_header m.headers) (kept_of_headers v.headers.held)
  true_numbers = (parts z s seat v r here).headers

  at_headers : get_elem? (map headers_held s.states) seat ≡ some v.headers
  at_headers = at_map headers_held s.states seat v here

  -- a header that is named no more
  abbrev renamed_one : HeldHeader → HeldHeader
  renamed_one t = record t { named = t.named && not ((key_number t.key == key_number (key_bytes may.unlink.entry.word may.unlink.entry.words)) && (held_state t.held_as == DEAD)) }

  same : Relabels renamed_one
  same = record { header = λ t. refl; generation = λ t. refl; held_as = λ t. refl; place = λ t. refl; stamp = λ t. refl; words = λ t. refl }

  -- the pass behind the step
  abbrev b : HeaderHolds
  b = record v.headers { held = unlinked (key_bytes may.unlink.entry.word may.unlink.entry.words) v.headers.held }

  abbrev u : PassState
  u = record v { findings = fs; headers = b }

  stamp_small : may.unlink.header.stamp < 2 ^ 64
  stamp_small = let n = number_small z s.words r.words.small (in_headers (at_stamp may.unlink.header.header)) in let e = held_stamp m (map knowledge_of s.states) (map headers_held s.states) r.headers seat v.headers at_headers may.unlink.header may.unlink.held true_numbers in omega arith

  unlinked_so : Owed z s seat v r here k i may.unlink.header.stamp u
  unlinked_so = record {
    small = stamp_small;
    histories = subst HistoriesStand (sym (map_set_same knowledge_of s.states seat v u here refl)) r.histories;
    headers = subst (λ (t : List Knowledge × List HeaderHolds). HeadersAreHeld m.headers m.arena.bytes (known t.0) t.1) (λ j. (sym (map_set_same knowledge_of s.states seat v u here refl) j, sym (map_set headers_held s.states seat u) j))
        (relabelled_stand renamed_one same m.headers (content m.arena.bytes) IsPlace (known (map knowledge_of s.states)) (map headers_held s.states) r.headers seat v.headers at_headers);
    covers = covers_unlinked z m s.states r.rooms r.covers r.keys r.callers r.headers r.heard r.bounds few_made seat v here k i x may.unlink lows (small_pin z s seat v r here) true_numbers fs;
    keys = record {
      keys = keys_unlinked z m s.states r.rooms r.covers r.keys r.callers r.headers r.heard r.bounds few_made seat v here k i x may.unlink lows (small_pin z s seat v r here) true_numbers fs;
      callers = callers_unlinked z m s.states r.rooms r.covers r.keys r.callers r.headers r.heard r.bounds few_made seat v here k i x may.unlink lows (small_pin z s seat v r here) true_numbers fs;
      bounds = bounds_unlinked z m s.states r.rooms r.covers r.keys r.callers r.headers r.heard r.bounds few_made seat v here k i x may.unlink lows (small_pin z s seat v r here) true_numbers fs;
      opened = opened_kept z m (record m { rooms = put_room m.rooms (at_value k i) may.unlink.header.stamp }) s.states (set s.states seat u) (record { dead = λ h d. d; generations = λ h. refl }) (λ none. let t = made_same s.states seat v u here refl refl removes in omega arith) r.opened;
      heard = heard_unlinked z m s.states r.rooms r.covers r.keys r.callers r.headers r.heard r.bounds few_made seat v here k i x may.unlink lows (small_pin z s seat v r here) true_numbers fs;
    };
    kept = subst (KeptNumbersStand same_spot (read m)) (sym (map_set_same kept_of s.states seat v u here (relabelled_kept renamed_one same v.blocks v.headers))) r.kept;
    pin = record { pin = relabelled_pins renamed_one same (λ h g. knows_life h g v.knowledge) v.headers (r.passes seat v here).pin; whole = relabelled_whole renamed_one same v.headers (r.passes seat v here).whole; claim = (r.passes seat v here).claim };
    blocks_same = refl;
    rooms_same = refl;
  }

  pub unlink_owed : Owed z s seat v r here k i x w
  unlink_owed = subst (λ (t : ℕ × PassState). Owed z s seat v r here k i t.0 t.1)
      (λ j. (sym may.unlink.stamp j, record v { findings = fs; headers = record v.headers { held = unlinked (key_or (sym (pinned_stands z m s.states r.rooms r.covers seat v here k i may.unlink.pinned may.unlink.entry may.unlink.finds) j)) v.headers.held } })) unlinked_so
