-- Of a table whose pass is alone and holds nothing the premises of the counting hold.
use Rattle.std.proofs.Common.{◌≡◌, ℕ, ◌+◌, cond, Bool, true, false, List, [], ◌∷◌, length, sym, refl, ap, ◌∙◌, arith, Some, None, inl, inr}
use Rattle.std.proofs.lemmas.Bool.{cases_Bool}
use Rattle.std.proofs.lemmas.List.{length-take-le}
use mathlib.Core.Option.{some}
use lib.ListN.{get_elem?}
use Rattle.pin_word.specs.PinWord.{state_of}
use Rattle.oak_model.specs.Counts.{one_at, total, Each}
use Rattle.oak_model.specs.Key.{is_key, IsKey, AreBytes}
use Rattle.oak_model.specs.KeyNumber.{key_number}
use Rattle.oak_model.specs.Limits.{Sizes}
use Rattle.oak_model.specs.WordBytes.{bytes_of}
use Rattle.oak_model.proofs.Counting.{one_at-same}
use Rattle.oak_model.proofs.KeyLaws.{is_key-is, is_key-of}
use Rattle.oak_model.proofs.Lists.{each_map_list, rows_length}
use Rattle.oak_model.proofs.MemberLaws.{each_at}
use Rattle.arena_core.specs.Arena.{block_words}
use Rattle.arena_core.specs.Place.{IsPlace, block_in, class_in, content, length_in}
use Rattle.arena_core.proofs.ByteFacts.{length-bytes_of}
use Rattle.arena_core.proofs.ClassRooms.{place_room}
use Rattle.chunk_core.specs.Covers.{Entry, cover_at, entry_at, key_at}
use Rattle.chunk_core.specs.CoverSums.{weight}
use Rattle.chunk_core.specs.KeyWords.{key_bytes, key_in, key_length}
use Rattle.chunk_core.specs.LinkedEntries.{linked}
use Rattle.chunk_core.specs.ValueWord.{header_in}
use Rattle.header_core.specs.declared.states.TheConstants.{LIVE}
use Rattle.oak_core.specs.declared.states.PassState.{PassState}
use Rattle.oak_core.specs.KeyHistories.{IsKeyOf, state_behind}
use Rattle.oak_core.specs.KeyReads.{history_now, value_in}
use Rattle.oak_core.specs.Memory.{Memory, memory}
use Rattle.oak_core.specs.PassState.{seen_of}
use Rattle.oak_core.proofs.seats.Alone.{history_seen}
use Rattle.oak_core.proofs.keyed.KeyPlaces.{names_key, word_is_key}
use Rattle.lone_counts.specs.Entries.{at_key, entries_of}
use Rattle.lone_counts.specs.LoneTable.{LoneTable}
use Rattle.lone_counts.specs.Maps.{last_states}
use Rattle.lone_counts.specs.Premises.{EntryStands, TableStands}
use Rattle.lone_counts.proofs.Gathered.{gathered_each}
use Rattle.lone_counts.proofs.LoneSums.{table}
use Rattle.lone_counts.proofs.Sums.{total_unweighed}
use Rattle.lone_counts.proofs.LoneBlocks.{blocks_owned, key_word}
use Rattle.lone_counts.proofs.LoneHeaders.{headers_still, home, live_at, once_at, still_at, word_at, word_is}

-- the words that stand in the block of an entry's key word are those of its key
abbrev IsTrue : (ℕ → List ℕ) → Entry → Type 0
IsTrue bytes e = e.key ≡ key_at bytes e.word

true_entries : (z : Sizes) (m : Memory) → Each (IsTrue (content m.arena.bytes)) (entries_of z m)
true_entries z m = gathered_each (IsTrue (content m.arena.bytes)) (λ r. weight (m.rooms.pin r)) (λ r. (cover_at m.rooms (content m.arena.bytes) r).entries) z.chunks (λ r. each_map_list (entry_at m.rooms (content m.arena.bytes) r) (IsTrue (content m.arena.bytes)) (linked m.rooms r) (all r (linked m.rooms r)))
  where
    all : (r : ℕ) (xs : List ℕ) → Each (λ i. IsTrue (content m.arena.bytes) (entry_at m.rooms (content m.arena.bytes) r i)) xs
    all r [] = tt
    all r (x ∷ xs) = (refl, all r xs)

module _ (z : Sizes) (words : List ℕ) (v : PassState) (l : LoneTable z words v) where
  abbrev mem : Memory
  mem = memory z words

  abbrev es : List Entry
  es = entries_of z mem

  abbrev bytes : ℕ → List ℕ
  bytes = content mem.arena.bytes

  pub state_at : (q : List ℕ) → is_key q ≡ true → last_states v q ≡ state_behind (history_now l.moment.states (key_number q))
  state_at q is = ap (λ (b : Bool). cond b (state_behind (seen_of (key_number q) v.knowledge)) None) is ∙ ap state_behind (sym (history_seen z (table z words v l) l.moment.rule l.moment.seat v l.moment.here l.alone (key_number q)))

  no_state : (q : List ℕ) → is_key q ≡ false → last_states v q ≡ None
  no_state q is = ap (λ (b : Bool). cond b (state_behind (seen_of (key_number q) v.knowledge)) None) is

  key_of : (j : ℕ) (e : Entry) → get_elem? es j ≡ some e → IsKeyOf (key_in e.word (bytes e.word)) (key_bytes e.word (bytes e.word))
  key_of j e at = word_is_key e.word (bytes e.word) (key_word z words v l j e at) (rows_length 0 (block_words (class_in e.word)) (mem.arena.bytes (class_in e.word) (block_in e.word)))

  number_at : (j : ℕ) (e : Entry) → get_elem? es j ≡ some e → e.key ≡ key_number (key_bytes e.word (bytes e.word))
  number_at j e at = each_at (IsTrue bytes) es (true_entries z mem) j e at ∙ sym ((key_of j e at).number)

  is_key_at : (j : ℕ) (e : Entry) → get_elem? es j ≡ some e → is_key (key_bytes e.word (bytes e.word)) ≡ true
  is_key_at j e at = let k = key_of j e at in is_key-of (key_bytes e.word (bytes e.word)) k.is_key k.bytes

  key_long : (j : ℕ) (e : Entry) → get_elem? es j ≡ some e → length_in e.word ≡ length (key_bytes e.word (bytes e.word))
  unfolding length_in key_length
  key_long j e at = let is = names_key e.word (key_word z words v l j e at) in let room = place_room e.word is.place in let all = length-bytes_of (bytes e.word) in
      let rows = rows_length 0 (block_words (class_in e.word)) (mem.arena.bytes (class_in e.word) (block_in e.word)) in
      sym (length-take-le (key_length e.word) (bytes_of (bytes e.word)) (omega arith))

  value_long : (p : ℕ) → IsPlace p → length_in p ≡ length (value_in p (bytes p))
  value_long p is = let room = place_room p is in let all = length-bytes_of (bytes p) in
      let rows = rows_length 0 (block_words (class_in p)) (mem.arena.bytes (class_in p) (block_in p)) in
      sym (length-take-le (length_in p) (bytes_of (bytes p)) (omega arith))

  entry_stands : (j : ℕ) (e : Entry) → get_elem? es j ≡ some e → EntryStands mem.headers (last_states v) e
  entry_stands j e at = let k = key_of j e at in let key : List ℕ = key_bytes e.word (bytes e.word) in
      let same : history_now l.moment.states e.key ≡ history_now l.moment.states (key_number key) = ap (history_now l.moment.states) (number_at j e at) in
      let held : last_states v key ≡ state_behind (history_now l.moment.states e.key) = state_at key (is_key_at j e at) ∙ ap state_behind (sym same) in
      record {
        key = key;
        is_key = k.is_key;
        bytes = k.bytes;
        number = number_at j e at;
        placed = (names_key e.word (key_word z words v l j e at)).place;
        long = key_long j e at;
        floor = λ none. held ∙ ((l.moment.rule.keys.states e.key).floor e.value (word_at z words v l j e at) none).0;
        value = λ has. let p : ℕ = mem.headers.place (header_in e.value) in
            let live = live_at z words v l j e at has in let o = one_at-same (state_of (mem.headers.pin (header_in e.value))) LIVE live in let t = still_at z words v l (header_in e.value) in
            let place = l.moment.rule.headers.placed (header_in e.value) (omega arith) in
            (value_in p (bytes p), held ∙ ((home z words v l j e at has).live live).0, value_long p place, place);
      }

  keys_held : (q b : List ℕ) → last_states v q ≡ Some b → IsKey q × AreBytes q
  keys_held q b e = elim (cases_Bool (is_key q)) [
    | inl is ↦ is_key-is q is
    | inr not_one ↦ let c : None ≡ Some b = sym (no_state q not_one) ∙ e in absurd cc
  ]

  none_at : (q : List ℕ) → total (at_key (key_number q)) es ≡ 0 → last_states v q ≡ None
  none_at q none = elim (cases_Bool (is_key q)) [
    | inl is ↦ let w = total_unweighed (λ (x : Entry). one_at x.key (key_number q)) (λ (x : Entry). x.value + 1) es none in state_at q is ∙ ((l.moment.rule.keys.states (key_number q)).none (word_is z words v l (key_number q) ∙ w)).0
    | inr not_one ↦ no_state q not_one
  ]

  pub table_stands : TableStands z mem.arena.bits mem.headers es (last_states v)
  table_stands = record {
    blocks = blocks_owned z words v l;
    headers = headers_still z words v l;
    entries = record { once = once_at z words v l; each = entry_stands; none = none_at; keys = keys_held };
  }
