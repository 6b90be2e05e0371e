-- The words of the table and its memory: a number stored to one word is a number stored to one spot.
use Rattle.std.proofs.Common.{◌≡◌, ℕ, ◌-◌, ◌<◌, ◌≤◌, Bool, true, false, cond, List, length, get_or, set, sym, refl, ap, ◌∙◌, subst, arith, get_or-set_other, get_or-set_same, true≢false}
use mathlib.Core.Logic.{dite}
use mathlib.Core.Path.{fun_ext}
use native.Mathlib.Decide.{dec_lt}
use Rattle.oak_model.specs.Limits.{Sizes}
use Rattle.oak_model.proofs.Counting.{test-cases}
use Rattle.arena_core.specs.Arena.{ArenaSpot, IsInArena}
use Rattle.header_core.specs.Headers.{HeaderSpot, IsInHeaders}
use Rattle.arena_core.proofs.ArenaWords.{same_arena_spot-is, same_arena_spot-self, read_arena-of, in_arena as arena_inside, arena_in, arena_below, arena_apart, arena_covers}
use Rattle.header_core.proofs.HeaderWords.{same_header_spot-is, same_header_spot-self, read_header-of, in_headers as headers_inside, headers_in, headers_below, headers_apart, headers_cover}
use Rattle.chunk_core.specs.Rooms.{RoomSpot, at_room_pin, room_index, place_in_room}
use Rattle.chunk_core.proofs.RoomWords.{same_room_spot-is, same_room_spot-self, read_room-of, in_rooms as rooms_inside, rooms_in, rooms_below, rooms_apart, rooms_cover}
use Rattle.oak_core.specs.Memory.{Memory, Spot, at_given, in_arena, in_headers, in_rooms, same_spot, read, memory_of, write, headers_at, rooms_at, word_count, IsInside, is_inside, index, number_at, memory}

pub same_spot-is : (p q : Spot) → same_spot p q ≡ true → p ≡ q
same_spot-is at_given at_given e = refl
same_spot-is (in_arena p) (in_arena q) e = ap in_arena (same_arena_spot-is p q e)
same_spot-is (in_headers p) (in_headers q) e = ap in_headers (same_header_spot-is p q e)
same_spot-is (in_rooms p) (in_rooms q) e = ap in_rooms (same_room_spot-is p q e)
same_spot-is at_given (in_arena q) e = absurd cc
same_spot-is at_given (in_headers q) e = absurd cc
same_spot-is at_given (in_rooms q) e = absurd cc
same_spot-is (in_arena p) at_given e = absurd cc
same_spot-is (in_arena p) (in_headers q) e = absurd cc
same_spot-is (in_arena p) (in_rooms q) e = absurd cc
same_spot-is (in_headers p) at_given e = absurd cc
same_spot-is (in_headers p) (in_arena q) e = absurd cc
same_spot-is (in_headers p) (in_rooms q) e = absurd cc
same_spot-is (in_rooms p) at_given e = absurd cc
same_spot-is (in_rooms p) (in_arena q) e = absurd cc
same_spot-is (in_rooms p) (in_headers q) e = absurd cc

pub same_spot-self : (p : Spot) → same_spot p p ≡ true
same_spot-self at_given = refl
same_spot-self (in_arena p) = same_arena_spot-self p
same_spot-self (in_headers p) = same_header_spot-self p
same_spot-self (in_rooms p) = same_room_spot-self p

pub read-of : (f : Spot → ℕ) (p : Spot) → read (memory_of f) p ≡ f p
read-of f at_given = refl
read-of f (in_arena p) = read_arena-of (λ q. f (in_arena q)) p
read-of f (in_headers p) = read_header-of (λ q. f (in_headers q)) p
read-of f (in_rooms p) = read_room-of (λ q. f (in_rooms q)) p

-- what is read after a store
pub read-write : (m : Memory) (p q : Spot) (x : ℕ) → read (write m p x) q ≡ cond (same_spot q p) x (read m q)
read-write m p q x = read-of (λ (q : Spot). cond (same_spot q p) x (read m q)) q

pub inside_is : (z : Sizes) (p : Spot) → is_inside z p ≡ true → IsInside z p
inside_is z at_given h = tt
inside_is z (in_arena p) h = arena_inside z p h
inside_is z (in_headers p) h = headers_inside z p h
inside_is z (in_rooms p) h = rooms_inside z p h

pub is_inside-true : (z : Sizes) (p : Spot) → IsInside z p → is_inside z p ≡ true
is_inside-true z at_given h = refl
is_inside-true z (in_arena p) h = arena_in z p h
is_inside-true z (in_headers p) h = headers_in z p h
is_inside-true z (in_rooms p) h = rooms_in z p h

-- word 0 has the given numbers
pub first_word : (z : Sizes) → index z at_given ≡ 0
unfolding index
first_word z = refl

pub index_below : (z : Sizes) (p : Spot) → IsInside z p → index z p < word_count z
unfolding index
index_below z at_given h = omega arith
index_below z (in_arena p) h = let a = arena_below z p h in omega arith
index_below z (in_headers p) h = let a = headers_below z p h in omega arith
index_below z (in_rooms p) h = let a = rooms_below z p h in omega arith

-- the words in front of those of the rooms

pub given_before : (z : Sizes) → index z at_given < rooms_at z
unfolding index
given_before z = omega arith

pub arena_before : (z : Sizes) (p : ArenaSpot) → IsInArena z p → index z (in_arena p) < rooms_at z
unfolding index
arena_before z p h = let a = arena_below z p h in omega arith

pub header_before : (z : Sizes) (p : HeaderSpot) → IsInHeaders z p → index z (in_headers p) < rooms_at z
unfolding index
header_before z p h = let a = headers_below z p h in omega arith

pub index_apart : (z : Sizes) (p q : Spot) → IsInside z p → IsInside z q → index z p ≡ index z q → p ≡ q
unfolding index
index_apart z at_given at_given h g e = refl
index_apart z (in_arena p) (in_arena q) h g e = ap in_arena (arena_apart z p q h g (omega arith))
index_apart z (in_headers p) (in_headers q) h g e = ap in_headers (headers_apart p q (omega arith))
index_apart z (in_rooms p) (in_rooms q) h g e = ap in_rooms (rooms_apart z p q h g (omega arith))
index_apart z at_given (in_arena q) h g e = absurd (omega arith)
index_apart z at_given (in_headers q) h g e = absurd (omega arith)
index_apart z at_given (in_rooms q) h g e = absurd (omega arith)
index_apart z (in_arena p) at_given h g e = absurd (omega arith)
index_apart z (in_arena p) (in_headers q) h g e = let a = arena_below z p h in absurd (omega arith)
index_apart z (in_arena p) (in_rooms q) h g e = let a = arena_below z p h in absurd (omega arith)
index_apart z (in_headers p) at_given h g e = absurd (omega arith)
index_apart z (in_headers p) (in_arena q) h g e = let a = arena_below z q g in absurd (omega arith)
index_apart z (in_headers p) (in_rooms q) h g e = let a = headers_below z p h in absurd (omega arith)
index_apart z (in_rooms p) at_given h g e = absurd (omega arith)
index_apart z (in_rooms p) (in_arena q) h g e = let a = arena_below z q g in absurd (omega arith)
index_apart z (in_rooms p) (in_headers q) h g e = let a = headers_below z q g in absurd (omega arith)

-- the first word of the rooms is the pin word of room 0
pub rooms_begin : (z : Sizes) → 0 < z.chunks → rooms_at z < word_count z
unfolding index room_index place_in_room
rooms_begin z some_room = let b = index_below z (in_rooms (at_room_pin 0)) (some_room, omega arith) in omega arith

pub index-rooms : (z : Sizes) → index z (in_rooms (at_room_pin 0)) ≡ rooms_at z
unfolding index room_index place_in_room
index-rooms z = omega arith

-- those of the rooms lie from there on
pub rooms_from : (z : Sizes) (p : RoomSpot) → rooms_at z ≤ index z (in_rooms p)
unfolding index
rooms_from z p = omega arith

-- each word of the table is some spot's
pub index_covers : (z : Sizes) (i : ℕ) → i < word_count z → (p : Spot) × IsInside z p × (index z p ≡ i)
unfolding index
index_covers z i h = dite (dec_lt i 1) (λ l. (at_given, tt, (omega arith)))
    (λ n0. dite (dec_lt i (headers_at z)) (λ l. let t = arena_covers z (i - 1) (omega arith) in let e = t.2 in (in_arena t.0, t.1, (omega arith)))
    (λ n1. dite (dec_lt i (rooms_at z)) (λ l. let t = headers_cover z (i - headers_at z) (omega arith) in let e = t.2 in (in_headers t.0, t.1, (omega arith)))
    (λ n2. let t = rooms_cover z (i - rooms_at z) (omega arith) in let e = t.2 in (in_rooms t.0, t.1, (omega arith)))))

pub number_at-in : (z : Sizes) (ws : List ℕ) (p : Spot) → is_inside z p ≡ true → number_at z ws p ≡ get_or ws (index z p) 0
unfolding number_at
number_at-in z ws p e = ap (λ (b : Bool). cond b (get_or ws (index z p) 0) 0) e

pub number_at-out : (z : Sizes) (ws : List ℕ) (p : Spot) → is_inside z p ≡ false → number_at z ws p ≡ 0
unfolding number_at
number_at-out z ws p e = ap (λ (b : Bool). cond b (get_or ws (index z p) 0) 0) e

number_at-set : (z : Sizes) (ws : List ℕ) (p : Spot) (x : ℕ) → length ws ≡ word_count z → IsInside z p → (q : Spot) → number_at z (set ws (index z p) x) q ≡ cond (same_spot q p) x (number_at z ws q)
number_at-set z ws p x wide h q = let wide' : index z p < length ws = let b = index_below z p h in omega arith in test-cases (same_spot q p) (λ b. same_spot q p ≡ b → number_at z (set ws (index z p) x) q ≡ cond b x (number_at z ws q))
    (λ t _. subst (λ (r : Spot). number_at z (set ws (index z p) x) r ≡ x) (sym (same_spot-is q p t)) (number_at-in z (set ws (index z p) x) p (is_inside-true z p h) ∙ get_or-set_same ws (index z p) x 0 wide'))
    (λ f _. test-cases (is_inside z q) (λ b. is_inside z q ≡ b → number_at z (set ws (index z p) x) q ≡ number_at z ws q)
    (λ i _. number_at-in z (set ws (index z p) x) q i ∙ (get_or-set_other ws (index z p) (index z q) x 0 (λ e. true≢false (sym (ap (λ (r : Spot). same_spot r p) (index_apart z q p (inside_is z q i) h e) ∙ same_spot-self p) ∙ f)) ∙ sym (number_at-in z ws q i)))
    (λ o _. number_at-out z (set ws (index z p) x) q o ∙ sym (number_at-out z ws q o)) refl) refl

-- the law that ties the words and the memory together
pub memory_set : (z : Sizes) (ws : List ℕ) (p : Spot) (x : ℕ) → length ws ≡ word_count z → IsInside z p → memory z (set ws (index z p) x) ≡ write (memory z ws) p x
memory_set z ws p x wide h = ap memory_of (fun_ext (λ q. number_at-set z ws p x wide h q ∙ ap (λ (n : ℕ). cond (same_spot q p) x n) (sym (read-of (number_at z ws) q))))

pub memory_read : (z : Sizes) (ws : List ℕ) (p : Spot) → IsInside z p → read (memory z ws) p ≡ get_or ws (index z p) 0
memory_read z ws p h = read-of (number_at z ws) p ∙ number_at-in z ws p (is_inside-true z p h)
