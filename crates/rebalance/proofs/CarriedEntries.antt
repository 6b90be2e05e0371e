-- The entries that the ranges of a pass carry: which of them is found by a key word, and what the rule says of each.
use Rattle.std.proofs.Common.{◌≡◌, ℕ, zero, suc, ◌+◌, ◌-◌, ◌*◌, ◌<◌, ◌≤◌, ◌++◌, cond, true, Bool, List, [], ◌∷◌, length, map, take, get_or, sym, refl, ap, ◌∙◌, subst, arith, inl, inr, eq-eqb, Option, Some}
use Rattle.std.specs.Prelude.{filter}
use Rattle.std.proofs.lemmas.Bool.{lt-ltb}
use Rattle.std.proofs.lemmas.Option.{none-some, same_Some}
use mathlib.Core.Logic.{dite}
use mathlib.Core.Option.{some, some-injective, some-ne-none}
use lib.ListN.{get_elem?}
use native.Mathlib.Decide.{dec_lt}
use Rattle.oak_model.specs.Counts.{one_if, Each, Has}
use Rattle.oak_model.specs.Limits.{Sizes}
use Rattle.oak_model.specs.WordBytes.{word_bytes, bytes_of}
use Rattle.oak_model.proofs.Counting.{decided, total_map}
use Rattle.oak_model.proofs.Lists.{at_map, rows_at, rows_length}
use Rattle.oak_model.proofs.MemberLaws.{each_has, filter-cases, has_filter, total_has}
use Rattle.arena_core.specs.Arena.{at_bytes, block_words, blocks, IsInArena}
use Rattle.arena_core.specs.Place.{class_in, block_in, length_in, names_block, content}
use Rattle.arena_core.specs.Words.{bytes_in}
use Rattle.arena_core.proofs.ClassRooms.{place_room}
use Rattle.arena_core.proofs.PlaceLaws.{class_below}
use Rattle.chunk_core.specs.declared.holds.Carried.{Carried}
use Rattle.chunk_core.specs.declared.holds.MovingRange.{MovingRange}
use Rattle.chunk_core.specs.declared.holds.RoomHolds.{RoomHolds}
use Rattle.chunk_core.specs.Covers.{Cover, Entry, cover_at, cover_from, entry_from, moving_of, used_at}
use Rattle.chunk_core.specs.CoverSums.{covers, each, owning}
use Rattle.chunk_core.specs.KeyWords.{key_bytes, key_length}
use Rattle.chunk_core.specs.Spans.{Span}
use Rattle.chunk_core.specs.ValueWord.{names_header}
use Rattle.chunk_core.proofs.CoverLaws.{range_le}
use Rattle.oak_core.specs.declared.states.PassState.{PassState}
use Rattle.oak_core.specs.EntryOwners.{entry_owners, is_key_word}
use Rattle.oak_core.specs.Memory.{Memory, in_arena, memory}
use Rattle.oak_core.specs.PassState.{rooms_held}
use Rattle.oak_core.specs.Rule.{Rule}
use Rattle.oak_core.specs.Step.{load, Told}
use Rattle.oak_core.specs.TableState.{TableState}
use Rattle.oak_core.proofs.owners.HeadersInArena.{names_named}
use Rattle.oak_core.proofs.memory.MetLists.{each_at}
use Rattle.chunk_ops.specs.RoomPins.{HadMoment}
use Rattle.chunk_ops.proofs.KeyPlaces.{IsKeyPlace, key_place, key_word_few}
use Rattle.chunk_ops.proofs.WordLoads.{load_reads}
use Rattle.chunk_ops.proofs.WordParts.{part_long, part_small, word_part}
use Rattle.rebalance.specs.HeldRooms.{IsCarried, IsNamed}
use Rattle.rebalance.specs.HeldTables.{NamesKey, NamesValued, carried_in, is_valued, key_of_entry, valued, with_word}

-- ---- which entry a key word finds

has_append : {A : Type 0} (x : A) (xs ys : List A) → Has x (xs ++ ys) → (P : Type 0) → (Has x xs → P) → (Has x ys → P) → P
has_append x [] ys h P first second = second h
has_append x (y ∷ xs) ys (inl e) P first second = first (inl e)
has_append x (y ∷ xs) ys (inr h) P first second = has_append x xs ys h P (λ m. first (inr m)) second

-- an entry that is carried is carried by one of the ranges
carried_by : (c : Carried) (gs : List MovingRange) → Has c (carried_in gs) → IsCarried c gs
unfolding carried_in
carried_by c [] h = absurd h
carried_by c (g ∷ gs) h = has_append c g.carried (carried_in gs) h (IsCarried c (g ∷ gs)) (λ m. record { place = 0; range = g; there = refl; has = m })
    (λ m. let t = carried_by c gs m in record { place = suc t.place; range = t.range; there = t.there; has = t.has })

has_before : {A : Type 0} (x : A) (xs ys : List A) → Has x xs → Has x (xs ++ ys)
has_before x [] ys h = absurd h
has_before x (y ∷ xs) ys (inl e) = inl e
has_before x (y ∷ xs) ys (inr h) = inr (has_before x xs ys h)

has_behind : {A : Type 0} (x : A) (xs ys : List A) → Has x ys → Has x (xs ++ ys)
has_behind x [] ys h = h
has_behind x (y ∷ xs) ys h = inr (has_behind x xs ys h)

carried_there : (c : Carried) (gs : List MovingRange) (i : ℕ) (g : MovingRange) → get_elem? gs i ≡ some g → Has c g.carried → Has c (carried_in gs)
unfolding carried_in
carried_there c [] i g at h = absurd (some-ne-none g (sym at))
carried_there c (x ∷ gs) zero g at h = has_before c x.carried (carried_in gs) (subst (λ (y : MovingRange). Has c y.carried) (sym (some-injective x g at)) h)
carried_there c (x ∷ gs) (suc i) g at h = has_behind c x.carried (carried_in gs) (carried_there c gs i g at h)

passed : {A : Type 0} (p : A → Bool) (x y : A) (xs ys : List A) → p y ≡ true → (Has x ys → Has x xs × (p x ≡ true)) → Has x (y ∷ ys) → Has x (y ∷ xs) × (p x ≡ true)
passed p x y xs ys t rest (inl e) = (inl e, ap p e ∙ t)
passed p x y xs ys t rest (inr h) = let r = rest h in (inr r.0, r.1)

filter_has : {A : Type 0} (p : A → Bool) (x : A) (xs : List A) → Has x (filter p xs) → Has x xs × (p x ≡ true)
filter_has p x [] h = absurd h
filter_has p x (y ∷ ys) h = filter-cases p y ys (λ l. Has x l → Has x (y ∷ ys) × (p x ≡ true)) (λ t m. passed p x y ys (filter p ys) t (filter_has p x ys) m) (λ _ m. let r = filter_has p x ys m in (inr r.0, r.1)) h

-- the entry that is found has the word
pub found_word : (w : ℕ) (c : Carried) (cs : List Carried) → with_word w cs ≡ Some c → (c.word ≡ w) × Has c cs
unfolding with_word
found_word w c [] e = absurd (none-some c e)
found_word w c (x ∷ cs) e = decided x.word w (λ t. cond t (Some x) (with_word w cs) ≡ Some c → (c.word ≡ w) × Has c (x ∷ cs))
    (λ s d. let q = same_Some x c d in (ap (λ (y : Carried). y.word) (sym q) ∙ s, inl (sym q))) (λ _ d. let r = found_word w c cs d in (r.0, inr r.1)) e

pub found_carried : (w : ℕ) (c : Carried) (gs : List MovingRange) → with_word w (valued gs) ≡ Some c → (c.word ≡ w) × IsCarried c gs
found_carried w c gs e = let f = found_word w c (valued gs) e in (f.0, carried_by c gs (filter_has is_valued c (carried_in gs) f.1).0)

-- where one has the word, one is found
found_some : (c : Carried) (cs : List Carried) → Has c cs → (d : Carried) × (with_word c.word cs ≡ Some d)
unfolding with_word
found_some c [] h = absurd h
found_some c (x ∷ cs) (inl e) = (x, ap (λ (b : Bool). cond b (Some x) (with_word c.word cs)) (eq-eqb x.word c.word (ap (λ (y : Carried). y.word) (sym e))))
found_some c (x ∷ cs) (inr h) = decided x.word c.word (λ t. (d : Carried) × (cond t (Some x) (with_word c.word cs) ≡ Some d)) (λ _. (x, refl)) (λ _. found_some c cs h)

-- ---- where the rule holds

module _ (z : Sizes) (s : TableState) (rule : Rule z s) (seat : ℕ) (v : PassState) (here : get_elem? s.states seat ≡ some v) (c : Carried) (h : IsCarried c v.rooms.moving) where
  abbrev m : Memory
  m = memory z s.words

  abbrev hs : List RoomHolds
  hs = map rooms_held s.states

  own : get_elem? hs seat ≡ some v.rooms
  own = at_map rooms_held s.states seat v here

  -- the words kept with a carried entry are those of its block
  pub carried_words : content (memory z s.words).arena.bytes c.word ≡ c.words
  carried_words = each_has (λ (x : Carried). content m.arena.bytes x.word ≡ x.words) h.range.carried c
      (each_at (λ (g : MovingRange). Each (λ (x : Carried). content m.arena.bytes x.word ≡ x.words) g.carried) v.rooms.moving (rule.rooms.carried seat v.rooms own) h.place h.range h.there) h.has

  -- what the entry adds to a sum over all covers
  adds : (cover : ℕ → Cover) (f : Span → Entry → ℕ) → f (cover_from h.range).span (entry_from c) ≤ covers z.chunks m.rooms.pin cover (map moving_of hs) (each f)
  adds cover f = let l = range_le z.chunks m.rooms.pin cover hs (each f) seat v.rooms own h.place h.range h.there in
      let t = total_map entry_from (f (cover_from h.range).span) h.range.carried in let a = total_has (λ (x : Carried). f (cover_from h.range).span (entry_from x)) h.range.carried c h.has in omega arith

  pub carried_key : IsKeyPlace c.word
  carried_key = key_place c.word (let a = adds (cover_at m.rooms (content m.arena.bytes)) (λ _ y. 1 - is_key_word y.word) in let none = rule.covers.placed in let few = key_word_few c.word in omega arith)

  above_none : 0 < c.word
  unfolding length_in
  above_none = let a = carried_key.some_byte in omega arith

  owned : 1 ≤ entry_owners z m.rooms (content m.arena.bytes) hs (class_in c.word) (block_in c.word)
  owned = let names : ℕ → ℕ = names_block (class_in c.word) (block_in c.word) in let a = adds (used_at m.rooms (content m.arena.bytes)) (owning names) in
      let one : owning names (cover_from h.range).span (entry_from c) ≡ 1 = (λ j. one_if (lt-ltb 0 c.word above_none j) * names_named (class_in c.word) (block_in c.word) c.word refl refl j) in omega arith

  pub carried_below : block_in c.word < blocks z (class_in c.word)
  carried_below = dite (dec_lt (block_in c.word) (blocks z (class_in c.word))) (λ l. l) (λ g. let none = rule.blocks.inside (class_in c.word) (block_in c.word) (omega arith) in let o = owned in absurd (omega arith))

  words_long : length c.words ≡ block_words (class_in c.word)
  words_long = ap length (sym carried_words) ∙ rows_length 0 (block_words (class_in c.word)) (m.arena.bytes (class_in c.word) (block_in c.word))

  pub carried_long : length_in c.word ≡ length (key_bytes c.word c.words)
  unfolding length_in key_length
  carried_long = let a = place_room c.word carried_key.place in let l = words_long in let b : ℕ = block_words (class_in c.word) in sym (part_long (length_in c.word) c.words (omega arith))

  -- so its key word names a block of the table with a key in it
  pub carried_named : IsNamed c.word (key_bytes c.word c.words)
  carried_named = let l = carried_long in let k = carried_key in let a = k.some_byte in let b = k.few in record {
    some_word = above_none;
    long = l;
    key = (omega arith, omega arith);
    bytes = part_small (key_length c.word) c.words;
  }

  pub carried_block : NamesKey z c.word (key_bytes c.word c.words)
  carried_block = let p = carried_key.place in record {
    class = let b = class_below p.class in let e = p.is_in in omega arith;
    block = carried_below;
    room = let l = carried_long in let a = place_room c.word p in let b : ℕ = block_words (class_in c.word) in omega arith;
  }

-- ---- the law for who holds a room: a carried entry with a value is named by its key word, and its key is the one that is found

pub record HasItsKey (z : Sizes) (c : Carried) (gs : List MovingRange) : Type 0 where
  pub names : NamesValued z c.word (valued gs)
  pub key : key_of_entry (with_word c.word (valued gs)) ≡ key_bytes c.word c.words

pub carried_names : (z : Sizes) (v : PassState) → HadMoment z v → (c : Carried) → IsCarried c v.rooms.moving → names_header c.value ≡ 1 → HasItsKey z c v.rooms.moving
carried_names z v moment c h value = let gs = v.rooms.moving in let m = moment.1 in let s : TableState = record { words = moment.0; states = m.states } in
    let f = found_some c (valued gs) (has_filter is_valued (carried_in gs) c (carried_there c gs h.place h.range h.there h.has) (eq-eqb (names_header c.value) 1 value)) in
    let d = f.0 in let k = found_carried c.word d gs f.1 in
    let same : d.words ≡ c.words = sym (carried_words z s m.rule m.seat v m.here d k.1) ∙ (ap (content (memory z moment.0).arena.bytes) k.0 ∙ carried_words z s m.rule m.seat v m.here c h) in
    let key : key_bytes d.word d.words ≡ key_bytes c.word c.words = (λ i. key_bytes (k.0 i) (same i)) in record {
      names = record {
        entry = d;
        first = f.1;
        named = subst (IsNamed c.word) (sym key) (carried_named z s m.rule m.seat v m.here c h);
        block = subst (NamesKey z c.word) (sym key) (carried_block z s m.rule m.seat v m.here c h);
      };
      key = ap key_of_entry f.1 ∙ key;
    }

-- ---- the load of a word of its block

-- the word is one of the table's
named_inside : (z : Sizes) (word j : ℕ) (k : List ℕ) → NamesKey z word k → 8 * j < length k → IsInArena z (at_bytes (class_in word) (block_in word) j)
named_inside z word j k n lt = let a = n.room in let b : ℕ = block_words (class_in word) in (n.class, n.block, (let q : j < b = omega arith in q))

pub block_inside : (z : Sizes) (place i : ℕ) (cs : List Carried) → NamesValued z place cs → 8 * i < length (key_of_entry (with_word place cs)) → IsInArena z (at_bytes (class_in place) (block_in place) i)
block_inside z place i cs x few = named_inside z place i (key_bytes x.entry.word x.entry.words) x.block (subst (λ (o : Option Carried). 8 * i < length (key_of_entry o)) x.first few)

module _ (z : Sizes) (call n place i : ℕ) (v w : PassState) (x : NamesValued z place (valued v.rooms.moving)) (few : 8 * i < length (key_of_entry (with_word place (valued v.rooms.moving)))) (t : Told z call (load (in_arena (at_bytes (class_in place) (block_in place) i))) v n w) where
  abbrev c : Carried
  c = x.entry

  abbrev k : List ℕ
  k = key_bytes x.entry.word x.entry.words

  carried : (c.word ≡ place) × IsCarried c v.rooms.moving
  carried = found_carried place c v.rooms.moving x.first

  words_are : content (memory z t.table.words).arena.bytes place ≡ c.words
  words_are = ap (content (memory z t.table.words).arena.bytes) (sym carried.0) ∙ carried_words z t.table t.rule t.seat v t.here c carried.1

  long : length c.words ≡ block_words (class_in place)
  long = ap length (sym words_are) ∙ rows_length 0 (block_words (class_in place)) ((memory z t.table.words).arena.bytes (class_in place) (block_in place))

  key_found : key_of_entry (with_word place (valued v.rooms.moving)) ≡ k
  key_found = ap key_of_entry x.first

  word_is : n ≡ get_or c.words i 0
  word_is = let r = x.block.room in let e = ap length key_found in let b : ℕ = block_words (class_in place) in let lt : i < block_words (class_in place) = omega arith in
      sym (ap (λ (xs : List ℕ). get_or xs i 0) (sym words_are) ∙ (rows_at 0 (block_words (class_in place)) i ((memory z t.table.words).arena.bytes (class_in place) (block_in place)) 0 lt
      ∙ (ap ((memory z t.table.words).arena.bytes (class_in place) (block_in place)) (let q : 0 + i ≡ i = omega arith in q) ∙ load_reads z call n v w (in_arena (at_bytes (class_in place) (block_in place) i)) t)))

  part : take (length k - 8 * i) (word_bytes n) ≡ bytes_in i k
  unfolding length_in key_length
  part = let l = x.named.long in let r = x.block.room in let e = ap length key_found in let w_long = long in let b : ℕ = block_words (class_in place) in
      ap (λ (y : ℕ). take (y - 8 * i) (word_bytes n)) (sym l) ∙ (ap (λ (y : ℕ). take (length_in place - 8 * i) (word_bytes y)) word_is
      ∙ (word_part c.words (length_in place) i (omega arith) (omega arith) ∙ ap (λ (y : ℕ). bytes_in i (take (length_in y) (bytes_of c.words))) (sym carried.0)))

  pub block_found : take (length (key_of_entry (with_word place (valued v.rooms.moving))) - 8 * i) (word_bytes n) ≡ bytes_in i (key_of_entry (with_word place (valued v.rooms.moving)))
  block_found = subst (λ (y : List ℕ). take (length y - 8 * i) (word_bytes n) ≡ bytes_in i y) (sym key_found) part
