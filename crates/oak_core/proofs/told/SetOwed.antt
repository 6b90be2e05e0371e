-- What a pass owes that sets its fresh header as the value of an entry: where it finds the floor it makes a write, with which the header is the entry's.
use Rattle.std.proofs.Common.{◌≡◌, ℕ, ◌+◌, ◌^◌, ◌<◌, ◌==◌, cond, Bool, false, List, map, set, sym, refl, ap, ◌∙◌, subst, arith, eq-eqb}
use prog.Atomic.{either}
use mathlib.Core.Logic.{dite}
use mathlib.Core.Option.{some}
use native.Mathlib.Decide.{ℕ_discrete, dec_lt}
use lib.ListN.{get_elem?}
use Rattle.pin_word.specs.PinWord.{generation_of}
use Rattle.oak_model.specs.Counts.{total, Has}
use Rattle.oak_model.specs.Kept.{AreTrueTo, KeptNumbersStand}
use Rattle.oak_model.specs.Limits.{Sizes}
use Rattle.oak_model.specs.declared.writes.Kind.{Kind}
use Rattle.oak_model.proofs.Counting.{decided}
use Rattle.oak_model.proofs.Lists.{at_map, map_set}
use Rattle.arena_core.specs.Arena.{read_arena}
use Rattle.arena_core.specs.HeldBlocks.{kept_of_blocks}
use Rattle.arena_core.specs.Place.{IsPlace, content}
use Rattle.header_core.specs.declared.holds.HeaderHolds.{HeaderHolds}
use Rattle.header_core.specs.declared.holds.HeldHeader.{HeldHeader}
use Rattle.header_core.specs.declared.holds.PinnedHeader.{PinnedHeader}
use Rattle.header_core.specs.Headers.{at_pin, read_header}
use Rattle.header_core.specs.HeaderHolds.{fresh_at, kept_of_headers, without_header}
use Rattle.header_core.specs.HeaderRule.{PinsWhatItKnows}
use Rattle.header_core.proofs.HeaderFacts.{fresh_at_is}
use Rattle.header_core.proofs.HeaderLaws.{on_pin}
use Rattle.header_core.proofs.HeldChanges.{fresh_without-others}
use Rattle.chunk_core.specs.Covers.{key_at}
use Rattle.chunk_core.specs.KeyWords.{key_bytes}
use Rattle.chunk_core.specs.RoomStep.{put_room, set_value}
use Rattle.chunk_core.specs.Rooms.{at_value}
use Rattle.chunk_core.specs.ValueWord.{header_in, names_life}
use Rattle.oak_core.specs.declared.states.Findings.{Findings}
use Rattle.oak_core.specs.declared.states.KeyedWrite.{KeyedWrite}
use Rattle.oak_core.specs.declared.states.Knowledge.{Knowledge}
use Rattle.oak_core.specs.declared.states.PassState.{PassState}
use Rattle.oak_core.specs.Callers.{made_of, removes}
use Rattle.oak_core.specs.KeyReads.{home_of}
use Rattle.oak_core.specs.Known.{known, knows_life}
use Rattle.oak_core.specs.Learning.{wrote}
use Rattle.oak_core.specs.MadeWrites.{insertion}
use Rattle.oak_core.specs.Memory.{Memory, in_headers, in_rooms, memory, read, same_spot}
use Rattle.oak_core.specs.Owners.{HeadersAreWhole, header_blocks}
use Rattle.oak_core.specs.PassState.{headers_held, kept_of, knowledge_of, numbers_of}
use Rattle.oak_core.specs.Rule.{Rule}
use Rattle.oak_core.specs.Step.{MaySetValue, on_rooms, state_after}
use Rattle.oak_core.specs.TableState.{TableState}
use Rattle.oak_core.proofs.covers.FoundEntries.{key_stands, pinned_stands}
use Rattle.oak_core.proofs.memory.Frames.{write_same}
use Rattle.oak_core.proofs.held.HeaderStanding.{number_small, parts, small_pin}
use Rattle.oak_core.proofs.held.HeldInside.{held_inside, held_low}
use Rattle.oak_core.proofs.held.HeldTruths.{held_generation, held_names}
use Rattle.oak_core.proofs.memory.HomeWords.{NamesAt}
use Rattle.oak_core.proofs.owners.KeptInHeaders.{without_kept}
use Rattle.oak_core.proofs.owners.KeptWords.{kept_with}
use Rattle.oak_core.proofs.keyed.KeyBundles.{opened_kept}
use Rattle.oak_core.proofs.known.KnowledgeAfter.{set_knowledge}
use Rattle.oak_core.proofs.histories.KnownWrites.{knows_now, named}
use Rattle.oak_core.proofs.owners.OwnedAndKept.{few}
use Rattle.oak_core.proofs.covers.SetsValue.{bounds_set, callers_set, covers_set, heads_set, heard_set, held_row, histories_set, keys_set, removed_set}
use Rattle.oak_core.proofs.told.UnsetOwed.{unset_owed}
use Rattle.oak_core.proofs.kinds.ValueSteps.{Owed}
use Rattle.oak_core.proofs.owners.WholeRecords.{whole_without}
use Rattle.oak_core.proofs.histories.WritesCounted.{roots_once}

module _ (z : Sizes) (s : TableState) (seat : ℕ) (v : PassState) (r : Rule z s) (here : get_elem? s.states seat ≡ some v) (call : ℕ) (going : v.numbers.spent ≡ false) (k i old new : ℕ) (kind : Kind) (may : MaySetValue z call k i old new kind v) where
  abbrev m : Memory
  m = memory z s.words

  abbrev qs : List Knowledge
  qs = map knowledge_of s.states

  abbrev own : HeldHeader
  own = may.set.header

  abbrev key : List ℕ
  key = key_bytes may.set.entry.word may.set.entry.words

  abbrev w : PassState
  w = state_after z call (on_rooms (set_value k i old new kind)) s v

  abbrev fs : Findings
  fs = (state_after z call (on_rooms (set_value k i old new kind)) s v).findings

  -- the pass holds the header
  row : Has own v.headers.held × (own.header ≡ header_in new)
  row = held_row (header_in new) v.headers.held own may.set.held

  at_headers : get_elem? (map headers_held s.states) seat ≡ some v.headers
  at_headers = at_map headers_held s.states seat v here

  low : own.header < 2 ^ 31
  low = held_low z s seat v r here own row.0

  word_small : m.headers.pin own.header < 2 ^ 64
  word_small = small_pin z s seat v r here own.header

  true_numbers : AreTrueTo (read_header m.headers) (kept_of_headers v.headers.held)
  true_numbers = (parts z s seat v r here).headers

  true_blocks : AreTrueTo (read_arena m.arena) (kept_of_blocks (header_blocks v.headers.held))
  true_blocks = (parts z s seat v r here).within

  whole : HeadersAreWhole v.headers
  whole = (r.passes seat v here).whole

  named_at : NamesAt own.header own.generation
  named_at = held_names m qs (map headers_held s.states) r.headers seat v.headers at_headers own row.0 low word_small

  new_is : home_of own.header own.generation ≡ new
  new_is = (λ j. home_of (row.1 j) (may.set.generation j)) ∙ sym may.set.home

  home_small : home_of own.header own.generation < 2 ^ 64
  unfolding generation_of
  home_small = let l = low in let p = word_small in let g = held_generation m qs (map headers_held s.states) r.headers seat v.headers at_headers own row.0 in omega arith

  number_is : m.rooms.value k i < 2 ^ 64
  number_is = number_small z s.words r.words.small (in_rooms (at_value k i))

  -- the floor is found
  module _ (found : m.rooms.value k i ≡ old) where
    old_small : old < 2 ^ 64
    old_small = let n = number_is in let e = found in omega arith

    abbrev write_made : KeyedWrite
    write_made = insertion v.numbers.number call kind (key_bytes may.set.entry.word may.set.entry.words) may.set.header

    abbrev place : ℕ
    place = key_at (content m.arena.bytes) (m.rooms.key k i)

    abbrev b : HeaderHolds
    b = record v.headers { held = without_header may.set.header.header v.headers.held }

    abbrev u : PassState
    u = record v { findings = fs; knowledge = wrote (key_at (content m.arena.bytes) (m.rooms.key k i)) (insertion v.numbers.number call kind (key_bytes may.set.entry.word may.set.entry.words) may.set.header) (map knowledge_of s.states) v.knowledge; headers = b }

    -- what it has a pin on it knows: of the header that was fresh, it knows the life by the write
    pin_known : PinsWhatItKnows (λ h g. knows_life h g u.knowledge) b
    pin_known = on_pin (λ (p : PinnedHeader). 0 < fresh_at p.header p.wanted v.headers + knows_life p.header p.wanted v.knowledge) (λ (p : PinnedHeader). 0 < fresh_at p.header p.wanted b + knows_life p.header p.wanted u.knowledge) v.headers.pin
        (λ p _ l. let n = knows_now qs seat v.knowledge (at_map knowledge_of s.states seat v here) place write_made p.header p.wanted in dite (ℕ_discrete p.header own.header)
        (λ e. dite (dec_lt 0 (fresh_at p.header p.wanted v.headers))
        (λ f. let g : own.generation ≡ p.wanted = sym (held_generation m qs (map headers_held s.states) r.headers seat v.headers at_headers own row.0) ∙ (ap (λ (j : ℕ). generation_of (m.headers.pin j)) (sym e) ∙ (fresh_at_is m.headers (content m.arena.bytes) IsPlace (known qs) (map headers_held s.states) r.headers seat v.headers p.header p.wanted at_headers f).1) in
        let t = subst (λ (j : ℕ × ℕ). 0 < names_life j.0 j.1 write_made.home) (λ j. (sym e j, g j)) named_here in omega arith)
        (λ no. omega arith))
        (λ ne. let f = fresh_without-others own.header p.header p.wanted v.headers.held ne in omega arith)) (r.passes seat v here).pin
      where
        named_here : 0 < names_life own.header own.generation write_made.home
        named_here = named m.headers (content m.arena.bytes) qs (map headers_held s.states) r.headers seat v.knowledge (at_map knowledge_of s.states seat v here) v.headers at_headers place write_made own row.0 may.set.fresh named_at refl

    -- the write removes nothing
    none_removed : total (made_of removes) (set s.states seat u) ≡ 0 → total (made_of removes) s.states ≡ 0
    none_removed e = let a = removed_set z m s.states r.rooms r.covers r.keys r.callers r.histories r.headers r.heard r.bounds (roots_once z m.given (map numbers_of s.states) r.numbers) r.spent seat v here going call k i old new kind may.set found old_small (held_inside z s seat v r here own row.0) low word_small true_numbers true_blocks whole fs in omega arith

    written : Owed z s seat v r here k i (home_of own.header own.generation) u
    written = record {
      small = home_small;
      histories = histories_set z m s.states r.rooms r.covers r.keys r.callers r.histories r.headers r.heard r.bounds (roots_once z m.given (map numbers_of s.states) r.numbers) r.spent seat v here going call k i old new kind may.set found old_small (held_inside z s seat v r here own row.0) low word_small true_numbers true_blocks whole fs;
      headers = heads_set z m s.states r.rooms r.covers r.keys r.callers r.histories r.headers r.heard r.bounds (roots_once z m.given (map numbers_of s.states) r.numbers) r.spent seat v here going call k i old new kind may.set found old_small (held_inside z s seat v r here own row.0) low word_small true_numbers true_blocks whole fs;
      covers = covers_set z m s.states r.rooms r.covers r.keys r.callers r.histories r.headers r.heard r.bounds (roots_once z m.given (map numbers_of s.states) r.numbers) r.spent seat v here going call k i old new kind may.set found old_small (held_inside z s seat v r here own row.0) low word_small true_numbers true_blocks whole fs;
      keys = record {
        keys = keys_set z m s.states r.rooms r.covers r.keys r.callers r.histories r.headers r.heard r.bounds (roots_once z m.given (map numbers_of s.states) r.numbers) r.spent seat v here going call k i old new kind may.set found old_small (held_inside z s seat v r here own row.0) low word_small true_numbers true_blocks whole fs;
        callers = callers_set z m s.states r.rooms r.covers r.keys r.callers r.histories r.headers r.heard r.bounds (roots_once z m.given (map numbers_of s.states) r.numbers) r.spent seat v here going call k i old new kind may.set found old_small (held_inside z s seat v r here own row.0) low word_small true_numbers true_blocks whole fs;
        bounds = bounds_set z m s.states r.rooms r.covers r.keys r.callers r.histories r.headers r.heard r.bounds (roots_once z m.given (map numbers_of s.states) r.numbers) r.spent seat v here going call k i old new kind may.set found old_small (held_inside z s seat v r here own row.0) low word_small true_numbers true_blocks whole fs;
        opened = opened_kept z m (record m { rooms = put_room m.rooms (at_value k i) (home_of own.header own.generation) }) s.states (set s.states seat u) (record { dead = λ h d. d; generations = λ h. refl }) none_removed r.opened;
        heard = heard_set z m s.states r.rooms r.covers r.keys r.callers r.histories r.headers r.heard r.bounds (roots_once z m.given (map numbers_of s.states) r.numbers) r.spent seat v here going call k i old new kind may.set found old_small (held_inside z s seat v r here own row.0) low word_small true_numbers true_blocks whole fs;
      };
      kept = subst (KeptNumbersStand same_spot (read m)) (sym (map_set kept_of s.states seat u))
          (subst (λ (a : Memory). KeptNumbersStand same_spot (read a) (set (map kept_of s.states) seat (kept_with v.blocks b))) (write_same m (in_headers (at_pin own.header))) (without_kept z s seat v r here own.header (m.headers.pin own.header) (few z s seat v r here own.header)));
      pin = record { pin = pin_known; whole = whole_without own.header v.headers.held whole; claim = (r.passes seat v here).claim };
      blocks_same = refl;
      rooms_same = refl;
    }

    stands_set : Owed z s seat v r here k i new w
    stands_set = subst (λ (t : ℕ × PassState). Owed z s seat v r here k i t.0 t.1)
        (λ j. (new_is j, record v { findings = fs; knowledge = (sym (ap (λ (n : ℕ). wrote n write_made qs v.knowledge) (key_stands z m s.states r.rooms r.covers seat v here k i may.set.pinned may.set.entry may.set.finds)) ∙ sym (set_knowledge call m qs v k i old new kind key own found (pinned_stands z m s.states r.rooms r.covers seat v here k i may.set.pinned may.set.entry may.set.finds) may.set.held)) j; headers = record v.headers { held = (ap (λ (h : ℕ). without_header h v.headers.held) row.1 ∙ ap (λ (t : Bool). cond t (without_header (header_in new) v.headers.held) v.headers.held) (sym (eq-eqb (m.rooms.value k i) old found))) j } })) written

  -- either way
  pub set_owed : Owed z s seat v r here k i (either (m.rooms.value k i == old) new (m.rooms.value k i)) w
  set_owed = decided (m.rooms.value k i) old (λ t. Owed z s seat v r here k i (either t new (m.rooms.value k i)) w) stands_set (unset_owed z s seat v r here call going k i old new kind)
