-- The bounds of a pinned room are keys, and the room has the keys at which a scan goes on.
use Rattle.std.proofs.Common.{◌≡◌, ◌≢◌, ℕ, zero, suc, ◌+◌, ◌-◌, ◌^◌, ◌<◌, ◌≤◌, ◌==◌, drop, ⊎_elim, true, false, Bool, cond, Some, None, List, [], ◌∷◌, length, get_or, Result, Ok, Err, IfOk, IfErr, sym, refl, ap, ◌∙◌, subst, arith, mul-le-mul_right, eq-eqb, ne_eqb}
use Rattle.std.proofs.lemmas.List.{length-drop}
use mathlib.Core.Logic.{dite}
use native.Mathlib.Decide.{ℕ_discrete}
use Rattle.oak_model.specs.declared.limits.TheConstants.{GREATEST_KEY}
use Rattle.oak_model.specs.Key.{is_key}
use Rattle.oak_model.specs.KeyNumber.{digits_number, key_number}
use Rattle.oak_model.specs.Limits.{Sizes}
use Rattle.oak_model.proofs.KeyLaws.{is_key-is, is_key-of}
use Rattle.oak_model.proofs.NumberLaws.{number_below}
use Rattle.chunk_core.specs.declared.holds.PinnedRoom.{PinnedRoom}
use Rattle.chunk_core.specs.KeyWords.{high_number}
use Rattle.chunk_core.specs.PinnedRooms.{span_of}
use Rattle.chunk_core.specs.Spans.{Span}
use Rattle.oak_core.specs.declared.states.Numbers.{Numbers}
use Rattle.oak_core.specs.declared.states.PassState.{PassState}
use Rattle.oak_core.specs.PassState.{HoldsNothing}
use Rattle.oak_core.proofs.calls.CallSteps.{stands_learns}
use Rattle.chunk_ops.specs.declared.room_pins.RoomPin.{RoomPin}
use Rattle.chunk_ops.specs.AskedRanges.{CoversKey, EndsUnder}
use Rattle.chunk_ops.specs.PinnedBounds.{low_length, low_bound, high_bound}
use Rattle.chunk_ops.specs.PinRecords.{HasBounds, OnlyMeets, room_pin, with_room_pin}
use Rattle.chunk_ops.specs.RoomPins.{PinsOpen}
use Rattle.chunk_ops.proofs.BoundWords.{high_some}
use Rattle.chunk_ops.proofs.WordParts.{part_small, part_long}
use Rattle.scan_cursor.specs.declared.ways.Way.{Way}
use Rattle.scan_cursor.specs.declared.ways.Way.TheVariants.{Up, Down}
use Rattle.scan_cursor.proofs.RoomRanges.{low_is, none_end, number_most, range_has, some_end}
use Rattle.scan_cursor.specs.Holding.{Covers, HasRoom, IsAhead, IsBound, IsRoom, high_end, low_end, room_at, room_of}
use Rattle.scan_cursor.specs.Views.{Later, view_of}
use Rattle.scan_cursor.proofs.ReadingViews.{later_by}

-- the numbers of keys

no_number : (n : ℕ) → digits_number n [] ≡ 0
unfolding digits_number
no_number zero = refl
no_number (suc n) = refl

empty_number : (k : List ℕ) → length k ≡ 0 → key_number k ≡ 0
unfolding key_number
empty_number [] e = no_number GREATEST_KEY
empty_number (x ∷ xs) e = absurd (omega arith)

some_digits : (n : ℕ) (k : List ℕ) → 0 < n → 0 < length k → 0 < digits_number n k
unfolding digits_number
some_digits n [] l m = absurd (omega arith)
some_digits zero (x ∷ xs) l m = absurd (omega arith)
some_digits (suc n) (x ∷ xs) l m = let p = number_below n [] (λ i. omega arith) in let f : 1 ≤ x + 1 = omega arith in let t = mul-le-mul_right (257 ^ n) f in omega arith

some_number : (k : List ℕ) → is_key k ≡ true → 0 < key_number k
unfolding key_number
some_number k is = some_digits GREATEST_KEY k (omega arith) (is_key-is k is).0.0

-- a bound that is there is a key
bound_if : (n : ℕ) (b : List ℕ) → (n ≢ 0 → is_key b ≡ true) → IsBound (cond (n == 0) None (Some b))
bound_if n b is = dite (ℕ_discrete n 0)
    (λ z. subst (λ (t : Bool). IsBound (cond t None (Some b))) (sym (eq-eqb n 0 z)) tt)
    (λ ne. subst (λ (t : Bool). IsBound (cond t None (Some b))) (sym (ne_eqb n 0 ne)) (is ne))

module _ (p : PinnedRoom) (h : HasBounds p) where
  -- a bound has as many bytes as its length says

  low_long : length (low_bound p) ≡ low_length p
  low_long = part_long (low_length p) (drop 1 p.low) (let f = h.fit.low_fits in let w = h.low in let d = length-drop 1 p.low in omega arith)

  high_long : length (high_bound p) ≡ get_or p.high 0 0 - 1
  high_long = part_long (get_or p.high 0 0 - 1) (drop 1 p.high) (let f = h.fit.high_fits in let w = h.high in let d = length-drop 1 p.high in omega arith)

  -- where it ends behind a key, its bounds are keys
  real_room : 0 < high_end (room_of p).high → IsRoom (room_of p)
  real_room some = record {
    low = bound_if (low_length p) (low_bound p) (λ ne. let l = low_long in let f = h.fit.low_fits in is_key-of (low_bound p) (omega arith, omega arith) (part_small (low_length p) (drop 1 p.low)));
    high = bound_if (get_or p.high 0 0) (high_bound p) (λ ne. let l = high_long in let f = h.fit.high_fits in is_key-of (high_bound p) (not_empty ne, omega arith) (part_small (get_or p.high 0 0 - 1) (drop 1 p.high)));
  }
    where
      not_empty : get_or p.high 0 0 ≢ 0 → 0 < length (high_bound p)
      not_empty ne = dite (ℕ_discrete (length (high_bound p)) 0) (λ z. let e = empty_number (high_bound p) z in let s = some_end p ne in absurd (omega arith)) (λ m. omega arith)

  module _ (k : List ℕ) (is : is_key k ≡ true) where
    -- the range has the key
    has_key : CoversKey k (span_of p) → (low_end (room_of p).low ≤ key_number k) × (key_number k < high_end (room_of p).high)
    has_key inside = range_has p k (is_key-is k is).1 (omega arith)

    -- or those next below it
    has_below : EndsUnder k (span_of p) → (low_end (room_of p).low < key_number k) × (key_number k ≤ high_end (room_of p).high)
    has_below u = let l = low_is p in let b = u.low in (
      omega arith,
      dite (ℕ_discrete (get_or p.high 0 0) 0)
          (λ z. let e = none_end p z in let g = number_most k (is_key-is k is).1 in omega arith)
          (λ ne. let e = some_end p ne in let a = high_some p ne in ⊎_elim (λ (z : high_number p.high ≡ 0). absurd (omega arith)) (λ (m : key_number k < high_number p.high). let r : key_number k ≤ high_end (room_of p).high = omega arith in r) u.high),
    )

-- whether a room was pinned or none was found, the pass only met more
pub spot_later : {E : Type 0} (z : Sizes) (call : ℕ) (P : Span → Type 0) (v w : PassState) (r : Result RoomPin E) → IfOk r (λ p. PinsOpen z call p.room P v w) → IfErr r (λ _. OnlyMeets call v w) → Later (view_of z call v) (view_of z call w)
spot_later z call P v w (Ok p) pins only = later_by z call call v w refl (stands_learns call v w pins.stands) pins.quiet
spot_later z call P v w (Err e) pins only = later_by z call call v w refl (stands_learns call v w only.stands) only.quiet

-- the room was pinned by a pass that held nothing
module _ (z : Sizes) (call r : ℕ) (v w : PassState) (idle : HoldsNothing v) where
  has_room : (P : Span → Type 0) → PinsOpen z call r P v w → HasRoom z r w
  has_room P p = record {
    pin = p.has;
    rooms = p.rooms ∙ ap (with_room_pin (Some (room_pin w))) idle.rooms;
    hand = ap (λ (n : Numbers). n.hand) p.stands.numbers ∙ idle.hand;
    blocks = p.blocks ∙ idle.blocks;
    headers = p.headers ∙ idle.headers;
  }

  module _ (k : List ℕ) (is : is_key k ≡ true) where
    -- where the scan goes down and is past the key
    pub below_ahead : PinsOpen z call r (EndsUnder k) v w → IsAhead z r Down true k w
    below_ahead p = let c = has_below (room_pin w) p.has.bounds k is p.range in let s = some_number k is in
        record { has = has_room (EndsUnder k) p; real = real_room (room_pin w) p.has.bounds (let l = c.1 in omega arith); covers = c }

    at_key : (way : Way) (past : Bool) → Covers way past k (room_at w) → PinsOpen z call r (CoversKey k) v w → IsAhead z r way past k w
    at_key way past covers p = let c = has_key (room_pin w) p.has.bounds k is p.range in
        record { has = has_room (CoversKey k) p; real = real_room (room_pin w) p.has.bounds (let l = c.1 in omega arith); covers = covers }

    -- where it goes up, or is not past the key

    pub up_ahead : (past : Bool) → PinsOpen z call r (CoversKey k) v w → IsAhead z r Up past k w
    up_ahead past p = at_key Up past (has_key (room_pin w) p.has.bounds k is p.range) p

    pub down_ahead : PinsOpen z call r (CoversKey k) v w → IsAhead z r Down false k w
    down_ahead p = at_key Down false (has_key (room_pin w) p.has.bounds k is p.range) p
