-- At the start no block is taken, and each header is free.
use Rattle.std.proofs.Common.{◌≡◌, ◌≢◌, ℕ, ◌+◌, ◌-◌, ◌*◌, ◌/◌, ◌%◌, ◌<◌, cond, Bool, true, false, eqb, leb, ltb, ◌&&◌, [], ◌∷◌, get_or, sym, refl, ap, ◌∙◌, subst, arith, ne_eqb, ltb-true}
use Rattle.std.specs.Int.{bit_at}
use Rattle.std.proofs.lemmas.Bool.{lt-leb}
use Rattle.std.proofs.lemmas.Nat.Bits.{bit_at-zero}
use Rattle.pin_word.specs.PinWord.{packed, generation_of, state_of, count_of}
use Rattle.pin_word.proofs.Laws.{count_of-packed, state_of-packed, generation_of-packed}
use Rattle.oak_model.specs.Limits.{Sizes}
use Rattle.oak_model.specs.Counts.{one_at, total}
use Rattle.oak_model.proofs.Lists.{every_one, rows_at}
use Rattle.oak_model.proofs.Counting.{test-cases}
use Rattle.arena_core.specs.Arena.{ArenaSpot, at_bits}
use Rattle.arena_core.specs.Blocks.{AreWhole, BlocksAreOwned}
use Rattle.arena_core.specs.Place.{IsPlace, names_block, content}
use Rattle.arena_core.proofs.ArenaWords.{arena_below, in_arena as arena_inside}
use Rattle.header_core.specs.declared.layout.TheConstants.{HEADER_WORDS}
use Rattle.header_core.specs.declared.states.TheConstants.{FREE, LAST_GENERATION}
use Rattle.header_core.specs.Headers.{at_pin, header_index}
use Rattle.header_core.specs.HeaderRule.{stocked}
use Rattle.header_core.proofs.HeaderLaws.{headers_open}
use Rattle.oak_core.specs.Memory.{in_arena, in_headers, headers_at, rooms_at, word_count, is_inside, index, number_at, memory}
use Rattle.oak_core.specs.PassState.{bare_state}
use Rattle.chunk_core.specs.CoverSums.{owners_in_rooms}
use Rattle.chunk_core.specs.RoomHolds.{no_rooms}
use Rattle.oak_core.specs.EntryOwners.{all_others}
use Rattle.oak_core.specs.Owners.{has_block, other_owners, HeadersAreHeld}
use Rattle.oak_core.specs.Known.{known}
use Rattle.oak_core.specs.Opening.{opening_number}
use Rattle.oak_core.specs.Schedule.{opening}
use Rattle.oak_core.proofs.owners.OwnerLaws.{below_zero}

-- the words between word 0 and those of the headers are 0
opening_low : (z : Sizes) (g i : ℕ) → 0 < i → i < headers_at z → opening_number z g i ≡ 0
opening_low z g i lo hi = ap (λ (t : Bool). cond t 1 (cond (eqb i (rooms_at z)) (packed 0 1 0) (cond (leb (headers_at z) i && (ltb i (rooms_at z) && (eqb ((i - headers_at z) % HEADER_WORDS) 0))) (packed g 0 0) 0))) (ne_eqb i 0 (λ e. omega arith))
    ∙ (ap (λ (t : Bool). cond t (packed 0 1 0) (cond (leb (headers_at z) i && (ltb i (rooms_at z) && (eqb ((i - headers_at z) % HEADER_WORDS) 0))) (packed g 0 0) 0)) (ne_eqb i (rooms_at z) (λ e. omega arith))
    ∙ ap (λ (t : Bool). cond (t && (ltb i (rooms_at z) && (eqb ((i - headers_at z) % HEADER_WORDS) 0))) (packed g 0 0) 0) (lt-leb (headers_at z) i hi))

pub arena_zero : (z : Sizes) (g : ℕ) (p : ArenaSpot) → number_at z (opening z g).words (in_arena p) ≡ 0
unfolding number_at index
arena_zero z g p = test-cases (is_inside z (in_arena p)) (λ t. cond t (get_or (opening z g).words (index z (in_arena p)) 0) 0 ≡ 0)
    (λ t. let b = arena_below z p (arena_inside z p t) in rows_at 0 (word_count z) (index z (in_arena p)) (opening_number z g) 0 (omega arith) ∙ opening_low z g (0 + index z (in_arena p)) (omega arith) (omega arith))
    (λ f. refl)

abbrev Free : ℕ → Type 0
Free n = (count_of n ≡ 0) × (state_of n ≡ FREE) × (generation_of n < LAST_GENERATION)

zero_free : Free 0
unfolding count_of state_of generation_of
zero_free = (refl, refl, omega arith)

-- a word that is neither the first nor that of room 0 is 0, or the word of a free header
opening_free : (z : Sizes) (g i : ℕ) → g < LAST_GENERATION → i ≢ 0 → i ≢ rooms_at z → Free (opening_number z g i)
opening_free z g i lt first room = let t : Bool = leb (headers_at z) i && (ltb i (rooms_at z) && (eqb ((i - headers_at z) % HEADER_WORDS) 0)) in
    subst Free (sym (ap (λ (b : Bool). cond b 1 (cond (eqb i (rooms_at z)) (packed 0 1 0) (cond t (packed g 0 0) 0))) (ne_eqb i 0 first) ∙ ap (λ (b : Bool). cond b (packed 0 1 0) (cond t (packed g 0 0) 0)) (ne_eqb i (rooms_at z) room)))
    (elim t as (λ b. Free (cond b (packed g 0 0) 0)) [ true ↦ (count_of-packed g 0 0 (omega arith) (omega arith), state_of-packed g 0 0 (omega arith) (omega arith), (let e = generation_of-packed g 0 0 (omega arith) (omega arith) in omega arith)) | false ↦ zero_free ])

header_free : (z : Sizes) (g h : ℕ) → g < LAST_GENERATION → Free ((memory z (opening z g).words).headers.pin h)
unfolding number_at index header_index
header_free z g h below_last = test-cases (is_inside z (in_headers (at_pin h))) (λ t. Free (cond t (get_or (opening z g).words (index z (in_headers (at_pin h))) 0) 0))
    (λ t. let lt : h < z.headers = ltb-true h z.headers t in
    subst Free (sym (rows_at 0 (word_count z) (headers_at z + h * HEADER_WORDS) (opening_number z g) 0 (omega arith)))
    (opening_free z g (0 + (headers_at z + h * HEADER_WORDS)) below_last (λ e. omega arith) (λ e. omega arith)))
    (λ f. zero_free)

unstocked_none : (s c b word : ℕ) → s ≡ FREE → stocked s * names_block c b word ≡ 0
unfolding one_at
unstocked_none s c b word e = ap (λ (i : ℕ). stocked i * names_block c b word) e ∙ (let x : ℕ = names_block c b word in let r : 0 * x ≡ 0 = omega arith in r)

none_owned : (z : Sizes) (g c b : ℕ) → g < LAST_GENERATION → other_owners z (memory z (opening z g).words).headers c b ≡ 0
none_owned z g c b lt = below_zero (has_block (memory z (opening z g).words).headers c b) z.headers
    (λ h. unstocked_none (state_of ((memory z (opening z g).words).headers.pin h)) c b ((memory z (opening z g).words).headers.place h) (header_free z g h lt).1)

-- and none is known
none_known : (h g : ℕ) → known (bare_state.knowledge ∷ []) h g ≡ 0
unfolding total
none_known h g = refl

pub opening_headers : (z : Sizes) (g : ℕ) → g < LAST_GENERATION → HeadersAreHeld (memory z (opening z g).words).headers (memory z (opening z g).words).arena.bytes (known (bare_state.knowledge ∷ [])) (bare_state.headers ∷ [])
opening_headers z g lt = headers_open (memory z (opening z g).words).headers (content (memory z (opening z g).words).arena.bytes) IsPlace (known (bare_state.knowledge ∷ [])) none_known (λ h. header_free z g h lt)

pub opening_blocks : (z : Sizes) (g : ℕ) → g < LAST_GENERATION → ((names_it : ℕ → ℕ) → owners_in_rooms z (memory z (opening z g).words).rooms (content (memory z (opening z g).words).arena.bytes) (no_rooms ∷ []) names_it ≡ 0)
    → BlocksAreOwned z (memory z (opening z g).words).arena.bits (all_others z (memory z (opening z g).words) (no_rooms ∷ [])) (bare_state.blocks ∷ [])
unfolding total
opening_blocks z g lt entries = record {
  owned = λ c b. let n = none_owned z g c b lt in let o = entries (names_block c b) in let e : bit_at ((memory z (opening z g).words).arena.bits c (b / 64)) (b % 64) ≡ 0 = ap (λ (n : ℕ). bit_at n (b % 64)) (arena_zero z g (at_bits c (b / 64))) ∙ bit_at-zero (b % 64) in omega arith;
  inside = λ c b le. let n = none_owned z g c b lt in let o = entries (names_block c b) in omega arith;
  whole = every_one AreWhole bare_state.blocks tt;
}
