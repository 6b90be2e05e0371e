-- The rule holds at the start.
use Rattle.std.proofs.Common.{◌≢◌, ne_eqb, eq-eqb, true≢false, ◌≡◌, ℕ, zero, suc, ◌+◌, ◌-◌, ◌*◌, ◌%◌, ◌^◌, ◌<◌, ◌≤◌, cond, Bool, true, false, eqb, leb, ltb, ◌&&◌, List, [], ◌∷◌, length, get_or, sym, refl, ap, ◌∙◌, subst, arith}
use Rattle.std.specs.Int.{bit_at}
use Rattle.std.proofs.lemmas.Bool.{le-leb, le-ltb, lt-ltb}
use Rattle.std.proofs.lemmas.Nat.Bits.{bit_at-pow_same, bit_at-pow_other}
use mathlib.Core.Logic.{dite}
use native.Mathlib.Decide.{dec_lt}
use Rattle.pin_word.specs.PinWord.{packed}
use Rattle.oak_model.specs.Limits.{Sizes, IsInLimits}
use Rattle.oak_model.specs.Counts.{one_at, total, rows}
use Rattle.oak_model.specs.Kept.{KeptNumbersStand}
use Rattle.oak_model.proofs.Lists.{every_one, rows_length, rows_at}
use Rattle.oak_model.proofs.Counting.{test-cases, one_at-same, one_at-other}
use Rattle.arena_core.specs.HeldBlocks.{kept_of_blocks}
use Rattle.arena_core.specs.Place.{content}
use Rattle.chunk_core.specs.KeptRooms.{kept_of_rooms}
use Rattle.chunk_core.specs.RoomHolds.{no_rooms}
use Rattle.chunk_core.specs.Rooms.{RoomMemory, RoomSpot, at_room_pin, read_room}
use Rattle.oak_core.specs.EntryOwners.{is_key_word}
use Rattle.arena_core.specs.Arena.{at_bits}
use Rattle.header_core.specs.HeaderHolds.{kept_of_headers}
use Rattle.header_core.specs.Headers.{at_pin}
use Rattle.header_core.specs.declared.layout.TheConstants.{HEADER_WORDS}
use Rattle.header_core.specs.declared.states.TheConstants.{LAST_GENERATION}
use Rattle.oak_core.specs.declared.states.PassState.{PassState}
use Rattle.oak_core.specs.Memory.{Spot, at_given, in_headers, in_rooms, IsInside, is_inside, same_spot, index, number_at, read, memory, headers_at, rooms_at, word_count}
use Rattle.oak_core.specs.PassState.{bare_state, no_findings, kept_of}
use Rattle.oak_core.specs.Rule.{AloneStands, FoundStays, WordsStand, NumbersStand, FindingsHold, SpentIsSpent, JoinedStand, Rule, PassStands}
use Rattle.oak_core.specs.AloneWords.{LeavesWords}
use Rattle.oak_core.specs.Opening.{opening_number, opening_words, making, first_state, IsOpened}
use Rattle.oak_core.specs.Running.{IsReached}
use Rattle.oak_core.specs.Schedule.{opening}
use Rattle.oak_core.proofs.memory.Words.{first_word, memory_read, read-of, inside_is, index_below, index_apart, index-rooms, rooms_from, number_at-out}
use Rattle.oak_core.proofs.seats.Alone.{first_alone}
use Rattle.oak_core.proofs.calls.Found.{found_more, none_found}
use Rattle.oak_core.proofs.seats.AloneLast.{alone_last}
use Rattle.oak_core.proofs.seats.AloneRuns.{is_alone-true}
use Rattle.oak_core.proofs.memory.HeaderPlaces.{pin_place}
use Rattle.oak_core.proofs.openings.OpeningBlocks.{arena_zero, opening_blocks, opening_headers}
use Rattle.oak_core.proofs.openings.OpeningRooms.{opening_rooms, opening_covers, no_owners}
use Rattle.oak_core.proofs.covers.RoomBundles.{RoomBundles, keeps_none, none_true}
use Rattle.oak_core.proofs.keyed.KeyBundles.{KeyBundles}
use Rattle.oak_core.proofs.openings.OpeningKeys.{opening_keys}
use Rattle.oak_core.proofs.openings.Reached.{reached_first}

either_small : (b : Bool) (x y : ℕ) → x < 2 ^ 64 → y < 2 ^ 64 → cond b x y < 2 ^ 64
either_small true x y h k = h
either_small false x y h k = k

module _ (z : Sizes) (g : ℕ) (is : IsInLimits z) (lt : g < LAST_GENERATION) where
  some_word : 0 < word_count z
  some_word = omega arith

  opening_small : (i : ℕ) → opening_number z g i < 2 ^ 64
  unfolding packed
  opening_small i = either_small (eqb i 0) 1 _ (omega arith) (either_small (eqb i (rooms_at z)) (packed 0 1 0) _ (omega arith)
      (either_small (leb (headers_at z) i && (ltb i (rooms_at z) && (eqb ((i - headers_at z) % HEADER_WORDS) 0))) (packed g 0 0) 0 (omega arith) (omega arith)))

  words_stand : WordsStand z (opening z g).words
  words_stand = record {
    counted = rows_length 0 (word_count z) (opening_number z g);
    small = λ i. dite (dec_lt i (word_count z)) (λ l. subst (λ (n : ℕ). n < 2 ^ 64) (sym (rows_at 0 (word_count z) i (opening_number z g) 0 l)) (opening_small (0 + i)))
        (λ no. subst (λ (n : ℕ). n < 2 ^ 64) (sym (past (rows 0 (word_count z) (opening_number z g)) i (let e = rows_length 0 (word_count z) (opening_number z g) in omega arith))) (omega arith));
  }
    where
      past : (l : List ℕ) (i : ℕ) → length l ≤ i → get_or l i 0 ≡ 0
      past [] i h = refl
      past (x ∷ xs) zero h = absurd (omega arith)
      past (x ∷ xs) (suc i) h = past xs i (omega arith)

  -- 0 alone is given
  first_given : (memory z (opening z g).words).given ≡ 1
  first_given = memory_read z (opening z g).words at_given tt ∙ (ap (λ (i : ℕ). get_or (opening z g).words i 0) (first_word z) ∙ rows_at 0 (word_count z) 0 (opening_number z g) 0 some_word)

  opening_numbers : NumbersStand z 1 (bare_state.numbers ∷ [])
  unfolding total
  opening_numbers = record {
    owned = one_bit;
    lowest = λ k e. absurd (let o = bit_at-pow_other 0 (suc k) (λ q. omega arith) in omega arith);
    few = λ k le. bit_at-pow_other 0 k (λ q. let p = is.passes_least in omega arith);
    parents = λ k pos e. absurd (let o = bit_at-pow_other 0 k (λ q. omega arith) in omega arith);
    made = λ k some. absurd (omega arith);
  }
    where
      one_bit : (k : ℕ) → bit_at 1 k ≡ (one_at 0 k + 0 + 0) + 0
      one_bit zero = let a = bit_at-pow_same 0 in let b = one_at-same 0 0 refl in omega arith
      one_bit (suc k) = let a = bit_at-pow_other 0 (suc k) (λ q. omega arith) in let b = one_at-other 0 (suc k) (λ q. omega arith) in omega arith

  opening_kept : KeptNumbersStand same_spot (read (memory z (opening z g).words)) (kept_of bare_state ∷ [])
  unfolding kept_of_blocks kept_of_headers total
  opening_kept = record { true_to = every_one _ (kept_of bare_state) tt; once = λ p. omega arith }

-- what the opening words are

module _ (z : Sizes) (g : ℕ) where
  -- the number of a word that is not the first
  abbrev pin_or_none : ℕ → ℕ
  pin_or_none i = cond (leb (headers_at z) i && (ltb i (rooms_at z) && (eqb ((i - headers_at z) % HEADER_WORDS) 0))) (packed g 0 0) 0

  number_behind : (i : ℕ) → i ≢ 0 → opening_number z g i ≡ cond (eqb i (rooms_at z)) (packed 0 1 0) (pin_or_none i)
  number_behind i ne = ap (λ (t : Bool). cond t 1 (cond (eqb i (rooms_at z)) (packed 0 1 0) (pin_or_none i))) (ne_eqb i 0 ne)

  number_of_room : opening_number z g (rooms_at z) ≡ packed 0 1 0
  number_of_room = number_behind (rooms_at z) (λ e. omega arith) ∙ ap (λ (t : Bool). cond t (packed 0 1 0) (pin_or_none (rooms_at z))) (eq-eqb (rooms_at z) (rooms_at z) refl)

  number_elsewhere : (i : ℕ) → i ≢ 0 → i ≢ rooms_at z → opening_number z g i ≡ pin_or_none i
  number_elsewhere i ne nor = number_behind i ne ∙ ap (λ (t : Bool). cond t (packed 0 1 0) (pin_or_none i)) (ne_eqb i (rooms_at z) nor)

  -- the words behind the first of the rooms are 0
  number_in_rooms : (i : ℕ) → rooms_at z < i → opening_number z g i ≡ 0
  number_in_rooms i hi = number_elsewhere i (λ e. omega arith) (λ e. omega arith)
      ∙ (ap (λ (t : Bool). cond (t && (ltb i (rooms_at z) && (eqb ((i - headers_at z) % HEADER_WORDS) 0))) (packed g 0 0) 0) (le-leb (headers_at z) i (omega arith))
      ∙ ap (λ (t : Bool). cond (true && (t && (eqb ((i - headers_at z) % HEADER_WORDS) 0))) (packed g 0 0) 0) (le-ltb i (rooms_at z) (omega arith)))

  number_of_pin : (h : ℕ) → h < z.headers → opening_number z g (headers_at z + h * HEADER_WORDS) ≡ packed g 0 0
  number_of_pin h lt = let i : ℕ = headers_at z + h * HEADER_WORDS in number_elsewhere i (λ e. omega arith) (λ e. omega arith)
      ∙ (ap (λ (t : Bool). cond (t && (ltb i (rooms_at z) && (eqb ((i - headers_at z) % HEADER_WORDS) 0))) (packed g 0 0) 0) (le-leb (headers_at z) i (omega arith))
      ∙ (ap (λ (t : Bool). cond (true && (t && (eqb ((i - headers_at z) % HEADER_WORDS) 0))) (packed g 0 0) 0) (lt-ltb i (rooms_at z) (omega arith))
      ∙ ap (λ (t : Bool). cond (true && (true && t)) (packed g 0 0) 0) (eq-eqb ((i - headers_at z) % HEADER_WORDS) 0 (let a : ℕ = headers_at z in let r : (a + h * 3 - a) % 3 ≡ 0 = omega arith in r))))

  -- what stands at a spot
  stands : (p : Spot) → IsInside z p → read (memory z (opening_words z g)) p ≡ opening_number z g (index z p)
  stands p h = memory_read z (opening_words z g) p h ∙ (rows_at 0 (word_count z) (index z p) (opening_number z g) 0 (index_below z p h) ∙ ap (opening_number z g) (let q : 0 + index z p ≡ index z p = omega arith in q))

  other_words : (p : RoomSpot) → p ≢ at_room_pin 0 → read (memory z (opening_words z g)) (in_rooms p) ≡ 0
  other_words p ne = test-cases (is_inside z (in_rooms p)) (λ t. is_inside z (in_rooms p) ≡ t → read (memory z (opening_words z g)) (in_rooms p) ≡ 0)
      (λ _ inside. let h = inside_is z (in_rooms p) inside in stands (in_rooms p) h ∙ number_in_rooms (index z (in_rooms p)) (behind_pin h))
      (λ _ outside. read-of (number_at z (opening_words z g)) (in_rooms p) ∙ number_at-out z (opening_words z g) (in_rooms p) outside) refl
    where
      room_of : Spot → RoomSpot
      room_of (in_rooms q) = q
      room_of _ = at_room_pin 0

      behind_pin : IsInside z (in_rooms p) → rooms_at z < index z (in_rooms p)
      behind_pin h = let from = rooms_from z p in let r = index-rooms z in
          let apart : index z (in_rooms p) ≢ index z (in_rooms (at_room_pin 0)) = λ e. ne (ap room_of (index_apart z (in_rooms p) (in_rooms (at_room_pin 0)) h (let h0 = h.0 in (omega arith, omega arith)) e)) in omega arith

  pub opened : 0 < z.chunks → IsOpened z g (opening_words z g)
  opened some_room = record {
    given = stands at_given tt ∙ ap (opening_number z g) (first_word z);
    bits = λ c i. arena_zero z g (at_bits c i);
    headers = λ h lt. stands (in_headers (at_pin h)) lt ∙ (ap (opening_number z g) (sym (pin_place z h)) ∙ number_of_pin h lt);
    room = stands (in_rooms (at_room_pin 0)) (some_room, omega arith) ∙ (ap (opening_number z g) (index-rooms z) ∙ number_of_room);
    others = other_words;
  }

  -- the first pass was alone when the table was made, and has its words
  first_leaves : LeavesWords (opening z g).words (first_state z g)
  first_leaves = record { met = []; finding = making z g; last = refl; alone = refl; are = refl }

module _ (z : Sizes) (g : ℕ) (is : IsInLimits z) (lt : g < LAST_GENERATION) where
  abbrev first : PassState
  first = first_state z g

  -- by the making of the table the pass found nothing
  first_found : (given : ℕ) → FoundStays given first.findings
  first_found given = found_more given no_findings first.findings (making z g) refl (λ _ n e. absurd cc) (none_found given no_findings refl)

  abbrev rs : RoomMemory
  rs = (memory z (opening z g).words).rooms

  open_words : IsOpened z g (opening z g).words
  open_words = opened z g is.chunks_least

  rooms_open : RoomBundles z rs (memory z (opening z g).words).arena.bytes (no_rooms ∷ [])
  unfolding total
  rooms_open = let bytes : ℕ → List ℕ = content (memory z (opening z g).words).arena.bytes in record {
    rooms = opening_rooms z rs bytes is.chunks_least open_words.room open_words.others;
    covers = opening_covers z rs bytes is.chunks_least open_words.room open_words.others is_key_word;
    kept = record { true_to = every_one _ (kept_of_rooms no_rooms) (none_true (read_room rs)); once = λ p. let e = keeps_none p in omega arith };
  }

  keys_open : KeyBundles z (memory z (opening z g).words) (first ∷ [])
  keys_open = opening_keys z g (opening z g).words is.chunks_least lt open_words

  pub opening_rule : Rule z (opening z g)
  opening_rule = record {
    sizes = is;
    words = words_stand z g is lt;
    numbers = subst (λ (n : ℕ). NumbersStand z n (bare_state.numbers ∷ [])) (sym (first_given z g is lt)) (opening_numbers z g is lt);
    findings = every_one (FindingsHold z (memory z (opening z g).words).given) first.findings record { found = first_found (memory z (opening z g).words).given; noted = tt };
    joined = every_one (JoinedStand z) first tt;
    histories = λ k. every_one _ bare_state.knowledge tt;
    spent = every_one SpentIsSpent first (λ e. absurd (true≢false (sym e)));
    blocks = opening_blocks z g lt (no_owners z (memory z (opening z g).words).rooms (content (memory z (opening z g).words).arena.bytes) is.chunks_least open_words.room open_words.others);
    headers = opening_headers z g lt;
    passes = every_one PassStands first record { pin = tt; whole = tt; claim = tt };
    alone = every_one (AloneStands (opening z g).words) first (alone_last (opening z g).words bare_state first record { finding = making z g; met = refl; says = λ _. (refl, is_alone-true first (first_alone z g)) });
    rooms = rooms_open.rooms;
    covers = rooms_open.covers;
    keys = keys_open.keys;
    callers = keys_open.callers;
    bounds = keys_open.bounds;
    opened = keys_open.opened;
    heard = keys_open.heard;
    kept = opening_kept z g is lt;
    kept_in_rooms = rooms_open.kept;
  }

-- the same of a table with that key and its pass

pub leaves_at : (z k : Sizes) (g : ℕ) (v : PassState) → k ≡ z → v ≡ first_state z g → LeavesWords (opening k g).words v
leaves_at z k g v e s = subst (λ (j : Sizes). LeavesWords (opening j g).words v) (sym e) (subst (LeavesWords (opening z g).words) (sym s) (first_leaves z g))

pub opened_at : (z k : Sizes) (g : ℕ) → IsInLimits z → k ≡ z → IsOpened k g (opening k g).words
opened_at z k g is e = subst (λ (j : Sizes). IsOpened j g (opening j g).words) (sym e) (opened z g is.chunks_least)

pub opens_at : (z : Sizes) (g : ℕ) → IsInLimits z → g < LAST_GENERATION → (ws : List ℕ) → ws ≡ opening_words z g → (Rule z record { words = ws; states = first_state z g ∷ [] }) × IsReached z g record { words = ws; states = first_state z g ∷ [] }
opens_at z g is early ws e = subst (λ (l : List ℕ). (Rule z record { words = l; states = first_state z g ∷ [] }) × IsReached z g record { words = l; states = first_state z g ∷ [] }) (sym e) (opening_rule z g is early, reached_first z g early)
