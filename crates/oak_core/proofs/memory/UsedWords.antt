-- The words that a count of what is used goes through.
use Rattle.std.proofs.Common.{set, length, get_or-set_same, get_or-set_other, Bool, true, false, refl, add-one, ◌≡◌, ℕ, zero, suc, ◌+◌, ◌*◌, ◌<◌, List, [], ◌∷◌, get_or, sym, ap, ◌∙◌, subst, arith}
use mathlib.Core.Option.{some, some-injective, some-ne-none}
use mathlib.Core.Logic.{dite}
use native.Mathlib.Decide.{ℕ_discrete}
use lib.ListN.{get_elem?}
use mir.Val.{bool_byte}
use Rattle.oak_model.specs.declared.limits.TheConstants.{CLASSES}
use Rattle.oak_model.specs.Limits.{Sizes}
use Rattle.oak_model.specs.Counts.{below, one_if, rows}
use Rattle.oak_model.proofs.Lists.{rows_length, rows_at, same_elements}
use Rattle.arena_core.specs.Arena.{at_bits, bit_words, arena_index}
use Rattle.header_core.specs.Headers.{at_pin, header_index}
use Rattle.chunk_core.specs.Rooms.{at_room_pin, room_width, room_index, place_in_room}
use Rattle.oak_core.specs.Memory.{Spot, in_arena, in_headers, in_rooms, index, memory, read, headers_at, rooms_at, word_count, IsInside}
use Rattle.oak_core.proofs.memory.Words.{index_below, memory_read}

pub read_at : (l : List ℕ) (i a : ℕ) → get_elem? l i ≡ some a → a ≡ get_or l i 0
read_at [] i a e = absurd (some-ne-none a (sym e))
read_at (x ∷ xs) zero a e = sym (some-injective x a e)
read_at (x ∷ xs) (suc i) a e = read_at xs i a e

-- a word by its number, which is that of a spot
by_number : (z : Sizes) (ws : List ℕ) (p : Spot) (i : ℕ) → IsInside z p → index z p ≡ i → (i < word_count z) × (get_or ws i 0 ≡ read (memory z ws) p)
by_number z ws p i h e = subst (λ (n : ℕ). (n < word_count z) × (get_or ws n 0 ≡ read (memory z ws) p)) e (index_below z p h, sym (memory_read z ws p h))

pub bits_word : (z : Sizes) (ws : List ℕ) (c i : ℕ) → c < CLASSES → i < bit_words z c → (1 + below (bit_words z) c + i < word_count z) × (get_or ws (1 + below (bit_words z) c + i) 0 ≡ (memory z ws).arena.bits c i)
unfolding index arena_index
bits_word z ws c i hc hi = by_number z ws (in_arena (at_bits c i)) (1 + below (bit_words z) c + i) (hc, hi) (omega arith)

pub header_word : (z : Sizes) (ws : List ℕ) (h : ℕ) → h < z.headers → (headers_at z + h * 3 < word_count z) × (get_or ws (headers_at z + h * 3) 0 ≡ (memory z ws).headers.pin h)
unfolding index header_index
header_word z ws h lt = by_number z ws (in_headers (at_pin h)) (headers_at z + h * 3) lt (omega arith)

pub room_word : (z : Sizes) (ws : List ℕ) (r : ℕ) → r < z.chunks → (rooms_at z + r * room_width z < word_count z) × (get_or ws (rooms_at z + r * room_width z) 0 ≡ (memory z ws).rooms.pin r)
unfolding index room_index place_in_room
room_word z ws r lt = by_number z ws (in_rooms (at_room_pin r)) (rooms_at z + r * room_width z) (lt, omega arith) (let x : ℕ = r * room_width z in let e : rooms_at z + (x + 0) ≡ rooms_at z + x = omega arith in e)

-- a count, one further
pub counted_more : (f : ℕ → ℕ) (i u x : ℕ) → u ≡ below f i → x ≡ f i → u + x ≡ below f (i + 1)
unfolding below
counted_more f i u x e h = rw add-one (omega arith)

pub one_of_test : (b : Bool) → bool_byte b ≡ one_if b
one_of_test true = refl
one_of_test false = refl

-- a row of numbers, filled one further
pub row_more : (f : ℕ → ℕ) (l : List ℕ) (i x : ℕ) → i < length l → ((k : ℕ) → k < i → get_or l k 0 ≡ f k) → x ≡ f i → (k : ℕ) → k < i + 1 → get_or (set l i x) k 0 ≡ f k
row_more f l i x inside h e k lt = dite (ℕ_discrete k i) (λ q. ap (λ (n : ℕ). get_or (set l i x) n 0) q ∙ (get_or-set_same l i x 0 inside ∙ (e ∙ sym (ap f q)))) (λ ne. get_or-set_other l i k x 0 ne ∙ h k (omega arith))

pub row_full : (f : ℕ → ℕ) (l : List ℕ) (n : ℕ) → length l ≡ n → ((k : ℕ) → k < n → get_or l k 0 ≡ f k) → l ≡ rows 0 n f
row_full f l n long h = same_elements l (rows 0 n f) 0 (long ∙ sym (rows_length 0 n f)) (λ k lt. h k (omega arith) ∙ (ap f (let q : k ≡ 0 + k = omega arith in q) ∙ sym (rows_at 0 n k f 0 (omega arith))))
