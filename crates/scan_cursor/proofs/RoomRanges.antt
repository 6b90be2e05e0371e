-- The keys of a pinned room's range, by the room's bounds and in the direction of a scan.
use Rattle.std.proofs.Common.{◌≡◌, ◌≢◌, ℕ, zero, suc, ◌+◌, ◌-◌, ◌^◌, ◌<◌, ◌≤◌, cond, Bool, true, List, [], ◌∷◌, drop, get_or, length, replicate, take, Option, Some, None, sym, refl, ap, ◌∙◌, arith, eq-eqb, ne_eqb, mul-le-mul_right}
use mathlib.Core.Logic.{dite}
use native.Mathlib.Decide.{ℕ_discrete}
use Rattle.oak_model.specs.declared.limits.TheConstants.{GREATEST_KEY}
use Rattle.oak_model.specs.Key.{AreBytes, is_key}
use Rattle.oak_model.specs.KeyNumber.{digits_number, key_number}
use Rattle.oak_model.specs.WordBytes.{bytes_of}
use Rattle.chunk_core.specs.declared.holds.PinnedRoom.{PinnedRoom}
use Rattle.chunk_core.specs.KeyWords.{high_number, low_number}
use Rattle.chunk_core.specs.PinnedRooms.{span_of}
use Rattle.chunk_core.specs.Spans.{past, past_high, within}
use Rattle.chunk_core.proofs.SpanLaws.{high-none, high-some, past-cases, past-le}
use Rattle.chunk_ops.specs.PinnedBounds.{high_bound, low_bound}
use Rattle.scan_cursor.specs.declared.ways.Way.{Way}
use Rattle.scan_cursor.specs.declared.ways.Way.TheVariants.{Up, Down}
use Rattle.scan_cursor.specs.Holding.{Covers, Room, ahead_from, ahead_past, bound_in, greatest_key, high_end, low_end, room_of}
use Rattle.scan_cursor.specs.Loading.{IsBehind}
use Rattle.scan_cursor.specs.Scanned.{least_key}
use Rattle.oak_model.proofs.KeyLaws.{is_key-is}

-- ---- the greatest key, whose number no key's is above

digits_most : (n : ℕ) (a : List ℕ) → AreBytes a → digits_number n a ≤ digits_number n (replicate n 255)
unfolding digits_number
digits_most zero a b = omega arith
digits_most (suc n) [] b = omega arith
digits_most (suc n) (x ∷ xs) b = let t = digits_most n xs (λ i. b (suc i)) in let s = b 0 in let f : x + 1 ≤ 255 + 1 = omega arith in let m = mul-le-mul_right (257 ^ n) f in omega arith

pub number_most : (k : List ℕ) → AreBytes k → key_number k ≤ key_number greatest_key
unfolding key_number
number_most k b = digits_most GREATEST_KEY k b

-- ---- the least key, whose number none is below

digits_least : (n : ℕ) (k : List ℕ) → 0 < length k → digits_number (suc n) (0 ∷ []) ≤ digits_number (suc n) k
unfolding digits_number
digits_least n [] some = absurd (omega arith)
digits_least n (x ∷ xs) some = let z = no_digits n in let f : 1 ≤ x + 1 = omega arith in let m = mul-le-mul_right (257 ^ n) f in omega arith
  where
    no_digits : (n : ℕ) → digits_number n [] ≡ 0
    no_digits zero = refl
    no_digits (suc n) = refl

pub number_least : (k : List ℕ) → is_key k ≡ true → key_number least_key ≤ key_number k
unfolding key_number
number_least k e = digits_least 63 k (is_key-is k e).0.0

no_key : (xs : List ℕ) → key_number (take 0 xs) ≡ 0
unfolding key_number digits_number
no_key xs = refl

-- ---- the range of a pin, by the bounds of its room

module _ (p : PinnedRoom) where
  pub low_is : low_number p.low ≡ low_end (room_of p).low
  unfolding low_number
  low_is = dite (ℕ_discrete (get_or p.low 0 0) 0)
      (λ e. ap (λ (n : ℕ). key_number (take n (bytes_of (drop 1 p.low)))) e ∙ (no_key (bytes_of (drop 1 p.low)) ∙ ap (λ (t : Bool). low_end (cond t None (Some (low_bound p)))) (sym (eq-eqb (get_or p.low 0 0) 0 e))))
      (λ ne. ap (λ (t : Bool). low_end (cond t None (Some (low_bound p)))) (sym (ne_eqb (get_or p.low 0 0) 0 ne)))

  -- which keys are past the high bound

  abbrev high : ℕ
  high = get_or p.high 0 0

  none_past : high ≡ 0 → (n : ℕ) → past_high (high_number p.high) n ≡ 0
  unfolding high_number
  none_past e n = ap (λ (t : Bool). past_high (cond t 0 (key_number (high_bound p) + 1)) n) (eq-eqb high 0 e) ∙ high-none n

  some_past : high ≢ 0 → (n : ℕ) → past_high (high_number p.high) n ≡ past (key_number (high_bound p)) n
  unfolding high_number
  some_past ne n = ap (λ (t : Bool). past_high (cond t 0 (key_number (high_bound p) + 1)) n) (ne_eqb high 0 ne)
      ∙ (high-some (key_number (high_bound p) + 1) n (λ z. absurd (omega arith)) ∙ ap (λ (b : ℕ). past b n) (let e : key_number (high_bound p) + 1 - 1 ≡ key_number (high_bound p) = omega arith in e))

  pub none_end : high ≡ 0 → high_end (room_of p).high ≡ suc (key_number greatest_key)
  none_end e = ap (λ (t : Bool). high_end (cond t None (Some (high_bound p)))) (eq-eqb high 0 e)

  pub some_end : high ≢ 0 → high_end (room_of p).high ≡ key_number (high_bound p)
  some_end ne = ap (λ (t : Bool). high_end (cond t None (Some (high_bound p)))) (ne_eqb high 0 ne)

  pub range_has : (k : List ℕ) → AreBytes k → 0 < within (span_of p) (key_number k) → (low_end (room_of p).low ≤ key_number k) × (key_number k < high_end (room_of p).high)
  range_has k b w = let n : ℕ = key_number k in (
    (let e = low_is in past-cases (low_number p.low) n (λ (t : ℕ). past (low_number p.low) n ≡ t → low_end (room_of p).low ≤ n) (λ l _. omega arith) (λ _ s. absurd (omega arith)) refl),
    dite (ℕ_discrete high 0)
        (λ e. let s = none_end e in let l = number_most k b in omega arith)
        (λ ne. let s = some_end ne in let a = some_past ne n in let c = past-le (low_number p.low) n in past-cases (key_number (high_bound p)) n (λ (t : ℕ). past (key_number (high_bound p)) n ≡ t → n < high_end (room_of p).high) (λ _ f. absurd (omega arith)) (λ l _. omega arith) refl),
  )

  pub in_range : (n : ℕ) → low_end (room_of p).low ≤ n → n < high_end (room_of p).high → within (span_of p) n ≡ 1
  in_range n l h = let e = low_is in let below = not_past in past-cases (low_number p.low) n (λ (t : ℕ). past (low_number p.low) n ≡ t → within (span_of p) n ≡ 1) (λ _ s. omega arith) (λ g _. absurd (omega arith)) refl
    where
      not_past : past_high (high_number p.high) n ≡ 0
      not_past = dite (ℕ_discrete high 0) (λ e. none_past e n) (λ ne. let s = some_end ne in some_past ne n ∙ past-cases (key_number (high_bound p)) n (λ (t : ℕ). t ≡ 0) (λ g. absurd (omega arith)) (λ _. refl))

-- ---- what of it lies ahead of a key

pub ahead_behind : (way : Way) (k : List ℕ) (bound : Option (List ℕ)) (q : List ℕ) → ahead_from way k bound ≤ key_number q → key_number q < ahead_past way k bound → IsBehind way k q
ahead_behind Up k bound q l h = omega arith
ahead_behind Down k bound q l h = h

pub ahead_within : (way : Way) (k : List ℕ) (r : Room) (n : ℕ) → Covers way true k r → ahead_from way k (bound_in way r) ≤ n → n < ahead_past way k (bound_in way r) → (low_end r.low ≤ n) × (n < high_end r.high)
ahead_within Up k r n c l h = let a = c.0 in (omega arith, h)
ahead_within Down k r n c l h = let a = c.1 in (l, omega arith)

pub behind_ahead : (way : Way) (k : List ℕ) (r : Room) (q : List ℕ) → low_end r.low ≤ key_number q → key_number q < high_end r.high → IsBehind way k q → (ahead_from way k (bound_in way r) ≤ key_number q) × (key_number q < ahead_past way k (bound_in way r))
behind_ahead Up k r q l h b = (omega arith, h)
behind_ahead Down k r q l h b = (l, b)
