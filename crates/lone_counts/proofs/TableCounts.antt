-- How full the table of a pass is that is alone and holds nothing, and where the values of its map stand.
use Rattle.std.proofs.Common.{◌≡◌, ℕ, ◌+◌, ◌*◌, ◌≢◌, ◌<◌, ◌≤◌, List, length, map, Some, None, true, sym, refl, ap, ◌∙◌, subst, arith}
use mathlib.Core.Logic.{dite}
use native.Mathlib.Decide.{ℕ_discrete}
use Rattle.pin_word.specs.PinWord.{generation_of, state_of}
use Rattle.oak_model.specs.declared.classes.Class.{Class}
use Rattle.oak_model.specs.declared.replies.Pair.{Pair}
use Rattle.oak_model.specs.Class.{blocks_of, class_number}
use Rattle.oak_model.specs.Counts.{one_at, total}
use Rattle.oak_model.specs.Key.{is_key}
use Rattle.oak_model.specs.KeyNumber.{key_number}
use Rattle.oak_model.specs.Limits.{Sizes}
use Rattle.oak_model.proofs.Counting.{below_some, one_at-same, one_at-true, total_at, total_some}
use Rattle.oak_model.proofs.Lists.{at_unmap}
use Rattle.oak_model.proofs.SumLaws.{times-one, times-none}
use Rattle.arena_core.specs.Arena.{blocks}
use Rattle.arena_core.specs.Place.{content}
use Rattle.chunk_core.specs.declared.states.TheConstants.{OPEN}
use Rattle.chunk_core.specs.Covers.{Entry, cover_at, entry_at, key_at, span_in}
use Rattle.chunk_core.specs.CoverSums.{naming, stray, weight}
use Rattle.chunk_core.specs.LinkedEntries.{linked}
use Rattle.chunk_core.specs.Spans.{within}
use Rattle.chunk_core.specs.ValueWord.{generation_in, header_in, names_header}
use Rattle.chunk_core.proofs.CoverFacts.{entry_adds, entry_word}
use Rattle.chunk_core.proofs.RoomLinks.{links_once}
use Rattle.chunk_core.proofs.SpanLaws.{within-le}
use Rattle.header_core.specs.declared.states.TheConstants.{LIVE, LOCKED}
use Rattle.oak_core.specs.declared.states.PassState.{PassState}
use Rattle.oak_core.specs.KeyHistories.{home_behind}
use Rattle.oak_core.specs.KeyReads.{history_now, shown_by, value_in, word_now}
use Rattle.oak_core.specs.KeyStates.{IsHome}
use Rattle.oak_core.specs.Memory.{Memory, memory}
use Rattle.oak_core.specs.PassState.{rooms_held, seen_of}
use Rattle.oak_core.specs.Usage.{used_blocks, used_headers}
use Rattle.oak_core.proofs.seats.Alone.{history_seen}
use Rattle.lone_counts.specs.Entries.{at_key, entries_of, header_named}
use Rattle.lone_counts.specs.Exactly.{BlocksExactly, HeadersExactly}
use Rattle.lone_counts.specs.LoneTable.{AllValued, HasValue, LoneTable, retired_in}
use Rattle.lone_counts.specs.Maps.{IsMapOf, last_states}
use Rattle.lone_counts.proofs.ByClass.{valued-le}
use Rattle.lone_counts.proofs.Exact.{headers_counted, map_blocks, map_fits, map_headers, map_usage}
use Rattle.lone_counts.proofs.Gathered.{gathered_total}
use Rattle.lone_counts.proofs.LoneHeaders.{not_so}
use Rattle.lone_counts.proofs.LoneSums.{entries_sum, table}
use Rattle.lone_counts.proofs.LoneTables.{state_at, table_stands}
use Rattle.lone_counts.proofs.LoneHeaders.{named_at}
use Rattle.lone_counts.proofs.ValuedRooms.{is_open, no_floors, open_weight}

pub blocks_fit : (z : Sizes) (words : List ℕ) (v : PassState) (m : List Pair) (c : Class) → LoneTable z words v → IsMapOf (last_states v) m → blocks_of m c ≤ blocks z (class_number c)
blocks_fit z words v m c l is = map_fits z words (last_states v) (table_stands z words v l) m is c

pub blocks_exactly : (z : Sizes) (words : List ℕ) (v : PassState) (m : List Pair) (c : Class) → LoneTable z words v → IsMapOf (last_states v) m → AllValued z words → BlocksExactly z words c (blocks_of m c)
blocks_exactly z words v m c l is all = map_blocks z words (last_states v) (table_stands z words v l) m is (no_floors z words v l all) c

pub headers_exactly : (z : Sizes) (words : List ℕ) (v : PassState) (m : List Pair) → LoneTable z words v → IsMapOf (last_states v) m → HeadersExactly z words (length m + retired_in z words)
headers_exactly z words v m l is = map_headers z words (last_states v) (table_stands z words v l) m is

pub used_blocks_are : (z : Sizes) (words : List ℕ) (v : PassState) (m : List Pair) (c : Class) → LoneTable z words v → IsMapOf (last_states v) m → AllValued z words → used_blocks z (memory z words) (class_number c) ≡ blocks_of m c
used_blocks_are z words v m c l is all = map_usage z words (last_states v) (table_stands z words v l) m is (no_floors z words v l all) c

pub used_headers_are : (z : Sizes) (words : List ℕ) (v : PassState) (m : List Pair) → LoneTable z words v → IsMapOf (last_states v) m → used_headers z (memory z words) ≡ length m + retired_in z words
used_headers_are z words v m l is = headers_counted z words (last_states v) (table_stands z words v l) m is

-- ---- where the value of a key stands

-- the linked entry of a key, in the open room that has it
record EntryOf (z : Sizes) (words : List ℕ) (k : ℕ) : Type 0 where
  room : ℕ
  inside : room < z.chunks
  open_is : state_of ((memory z words).rooms.pin room) ≡ OPEN
  weighs : weight ((memory z words).rooms.pin room) ≡ 1
  entry : ℕ
  linked : total (λ j. one_at j entry) (linked (memory z words).rooms room) ≡ 1
  key_is : key_at (content (memory z words).arena.bytes) ((memory z words).rooms.key room entry) ≡ k

both_more : (a b : ℕ) → 0 < a * b → (0 < a) × (0 < b)
both_more a b h = dite (ℕ_discrete a 0) (λ e. let n = times-none a b e in absurd (omega arith))
    (λ ne. dite (ℕ_discrete b 0)
    (λ e. let n : a * b ≡ a * 0 = ap (λ (x : ℕ). a * x) e in let q : a * 0 ≡ 0 = omega arith in let x : ℕ = a * b in let n' : x ≡ a * 0 = n in let h' : 0 < x = h in absurd (omega arith))
    (λ nb. ((omega arith), (omega arith))))

module _ (z : Sizes) (words : List ℕ) (v : PassState) (l : LoneTable z words v) (k : ℕ) where
  abbrev m : Memory
  m = memory z words

  abbrev bytes : ℕ → List ℕ
  bytes = content (memory z words).arena.bytes

  entry_of : 0 < total (at_key k) (entries_of z m) → EntryOf z words k
  entry_of more =
      let g = gathered_total (at_key k) (λ r. weight (m.rooms.pin r)) (λ r. (cover_at m.rooms bytes r).entries) z.chunks in
      let s = below_some (λ r. weight (m.rooms.pin r) * total (at_key k) (cover_at m.rooms bytes r).entries) z.chunks (omega arith) in
      let r : ℕ = s.0 in let p = both_more (weight (m.rooms.pin r)) (total (at_key k) (cover_at m.rooms bytes r).entries) s.2 in
      let t = total_some (at_key k) (cover_at m.rooms bytes r).entries p.1 in
      let u = at_unmap (entry_at m.rooms bytes r) (linked m.rooms r) t.0 t.1 t.2 in
      let a = total_at (λ j. one_at j u.0) (linked m.rooms r) t.0 u.0 u.1 in let o = one_at-same u.0 u.0 refl in
      let open_is = is_open z words v l r p.0 in let w = open_weight z words v l r open_is in let once = links_once z m.rooms bytes r (l.moment.rule.rooms.ordered r w) u.0 in
      record {
        room = r;
        inside = s.1;
        open_is = open_is;
        weighs = w;
        entry = u.0;
        linked = omega arith;
        key_is = ap (λ (e : Entry). e.key) u.2 ∙ one_at-true t.1.key k t.3;
      }

-- a value word that names a live header at its generation, in the last life of the key
pub record NamesLive (z : Sizes) (words : List ℕ) (v : PassState) (key : List ℕ) : Type 0 where
  pub word : ℕ
  pub home : home_behind (seen_of (key_number key) v.knowledge) ≡ word
  pub generation : generation_of ((memory z words).headers.pin (header_in word)) ≡ generation_in word
  pub live : state_of ((memory z words).headers.pin (header_in word)) ≡ LIVE

module _ (z : Sizes) (words : List ℕ) (v : PassState) (key : List ℕ) (l : LoneTable z words v) (is : is_key key ≡ true) where
  abbrev mem : Memory
  mem = memory z words

  abbrev k : ℕ
  k = key_number key

  -- the value word of an entry of the key is what is looked up of it
  word_there : (r i : ℕ) → r < z.chunks → weight (mem.rooms.pin r) ≡ 1 → total (λ j. one_at j i) (linked mem.rooms r) ≡ 1 → key_at (content mem.arena.bytes) (mem.rooms.key r i) ≡ k → word_now z mem l.moment.states k ≡ mem.rooms.value r i + 1
  word_there r i lt w once e = entry_word z mem.rooms (content mem.arena.bytes) (map rooms_held l.moment.states) l.moment.rule.covers.once r i k lt w once e

  has_value : (b : List ℕ) → last_states v key ≡ Some b → HasValue z words key
  has_value b held = dite (ℕ_discrete (total (at_key k) (entries_of z mem)) 0)
      (λ none. let n = (table_stands z words v l).entries.none key none in let c : None ≡ Some b = sym n ∙ held in absurd cc)
      (λ more. let e = entry_of z words v l k (omega arith) in let r : ℕ = e.room in let i : ℕ = e.entry in
      let word = word_there r i e.inside e.weighs e.linked e.key_is in
      let adds = entry_adds z mem.rooms (content mem.arena.bytes) (map rooms_held l.moment.states) stray r i e.inside e.weighs e.linked in
      let none = l.moment.rule.covers.inside in let few = within-le (span_in mem.rooms r) (key_at (content mem.arena.bytes) (mem.rooms.key r i)) in
      let in_it : within (span_in mem.rooms r) (key_at (content mem.arena.bytes) (mem.rooms.key r i)) ≡ 1 = omega arith in
      let at_most = valued-le (entry_at mem.rooms (content mem.arena.bytes) r i) in
      record {
        room = r;
        inside = e.inside;
        open_is = e.open_is;
        covers = subst (λ (n : ℕ). within (span_in mem.rooms r) n ≡ 1) e.key_is in_it;
        entry = i;
        linked = e.linked;
        key_is = e.key_is;
        named = dite (ℕ_discrete (names_header (mem.rooms.value r i)) 0)
            (λ floor. let n = ((l.moment.rule.keys.states k).floor (mem.rooms.value r i) word floor).0 in let c : None ≡ Some b = sym n ∙ (sym (state_at z words v l key is) ∙ held) in absurd cc)
            (λ ne. omega arith);
      })

  abbrev word_of : HasValue z words key → ℕ
  word_of has = mem.rooms.value has.room has.entry

  -- the header that its entry names there is live, and is the home of the key
  live_home : (has : HasValue z words key) → IsHome z mem.headers (shown_by mem) (word_of has) (history_now l.moment.states k) × (state_of (mem.headers.pin (header_in (word_of has))) ≡ LIVE)
  live_home has = let r : ℕ = has.room in let i : ℕ = has.entry in let w = open_weight z words v l r has.open_is in
      let word = word_there r i has.inside w has.linked has.key_is in let x : ℕ = word_of has in let h : ℕ = header_in x in
      let adds = entry_adds z mem.rooms (content mem.arena.bytes) (map rooms_held l.moment.states) (naming h) r i has.inside w has.linked in
      let all = entries_sum z words v l (header_named h) in let n = named_at z words v l h in
      let one : names_header x * one_at h h ≡ 1 = times-one (names_header x) (one_at h h) has.named ∙ one_at-same h h refl in
      ((l.moment.rule.keys.states k).named x word has.named, one_at-true (state_of (mem.headers.pin h)) LIVE (omega arith))

  is_present : HasValue z words key → (b : List ℕ) × (last_states v key ≡ Some b)
  is_present has = let h : ℕ = header_in (word_of has) in let f = live_home has in
      (value_in (mem.headers.place h) (content mem.arena.bytes (mem.headers.place h)), state_at z words v l key is ∙ (f.0.live f.1).0)

  names_live : HasValue z words key → NamesLive z words v key
  names_live has = let f = live_home has in let seen = history_seen z (table z words v l) l.moment.rule l.moment.seat v l.moment.here l.alone k in
      record { word = word_of has; home = ap home_behind (sym seen) ∙ f.0.home; generation = f.0.generation; live = f.1 }

-- a key that holds something has its value in an open room
pub present_has_value : (z : Sizes) (words : List ℕ) (v : PassState) (key b : List ℕ) → LoneTable z words v → is_key key ≡ true → last_states v key ≡ Some b → HasValue z words key
present_has_value z words v key b l is held = has_value z words v key l is b held

-- and a key that has one there holds something
pub value_is_present : (z : Sizes) (words : List ℕ) (v : PassState) (key : List ℕ) → LoneTable z words v → is_key key ≡ true → HasValue z words key → (b : List ℕ) × (last_states v key ≡ Some b)
value_is_present z words v key l is has = is_present z words v key l is has

-- and its header is live, in its last life
pub present_is_live : (z : Sizes) (words : List ℕ) (v : PassState) (key b : List ℕ) → LoneTable z words v → is_key key ≡ true → last_states v key ≡ Some b → NamesLive z words v key
present_is_live z words v key b l is held = names_live z words v key l is (has_value z words v key l is b held)

-- ---- headers

-- none is locked
pub none_locked : (z : Sizes) (words : List ℕ) (v : PassState) → LoneTable z words v → (h : ℕ) → state_of ((memory z words).headers.pin h) ≢ LOCKED
none_locked z words v l h e = let none = not_so z words v l h LOCKED (omega arith) (omega arith) (λ same. absurd cc) in let one = one_at-same (state_of ((memory z words).headers.pin h)) LOCKED e in absurd (omega arith)
