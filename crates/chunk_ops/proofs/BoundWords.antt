-- The bytes of a pinned room's bounds, word by word.
use Rattle.std.proofs.Common.{◌≡◌, ℕ, ◌+◌, ◌-◌, ◌*◌, ◌/◌, ◌%◌, ◌<◌, ◌≤◌, min, ◌≢◌, ◌==◌, ◌⊎◌, inl, inr, cond, Bool, true, false, not, MatchBool, eq-eqb, ne_eqb, Option, Some, None, List, length, get_or, take, drop, sym, ap, ◌∙◌, arith}
use Rattle.std.proofs.lemmas.List.{length-drop, get_or-drop}
use Rattle.std.specs.Option.{is_some}
use Rattle.std.specs.Ordering.{nat_cmp}
use Rattle.std.specs.declared.cmp.Ordering.{Ordering}
use Rattle.std.specs.declared.cmp.Ordering.TheVariants.{Equal}
use mathlib.Core.Logic.{dite}
use native.Mathlib.Decide.{dec_lt, ℕ_discrete}
use Rattle.oak_model.specs.declared.limits.TheConstants.{GREATEST_KEY}
use Rattle.oak_model.specs.Key.{AreBytes, key_cmp}
use Rattle.oak_model.specs.KeyNumber.{key_number}
use Rattle.oak_model.specs.WordBytes.{word_bytes}
use Rattle.chunk_core.specs.declared.layout.TheConstants.{BOUND_WORDS}
use Rattle.chunk_core.specs.declared.holds.PinnedRoom.{PinnedRoom}
use Rattle.chunk_core.specs.declared.holds.RoomHolds.{RoomHolds}
use Rattle.chunk_core.specs.KeyWords.{low_number, high_number}
use Rattle.chunk_core.specs.PinnedRooms.{span_of}
use Rattle.oak_core.specs.declared.states.PassState.{PassState}
use Rattle.chunk_ops.specs.declared.bounds.Bound.{Bound}
use Rattle.chunk_ops.specs.declared.bounds.Bound.TheVariants.{Low, High}
use Rattle.chunk_ops.specs.AskedRanges.{IsLast, high_cmp}
use Rattle.chunk_ops.specs.PinnedBounds.{bound_words, bound_length, bound_bytes, high_length}
use Rattle.chunk_ops.specs.PinRecords.{HasBounds, OnlyMeets, pin_or, room_pin}
use Rattle.arena_core.specs.Words.{bytes_in, word_at}
use Rattle.chunk_ops.proofs.BoundOrder.{by_numbers, high_cmp-some}
use Rattle.chunk_ops.proofs.WordParts.{word_part, byte_in, part_small, part_long}
use Rattle.chunk_ops.proofs.OrderLaws.{padded_cmp, word_order, lengths_decide}

-- a high bound as a range has it

pub high_none : (p : PinnedRoom) → get_or p.high 0 0 ≡ 0 → high_number p.high ≡ 0
unfolding high_number
high_none p z = ap (λ (b : Bool). cond b 0 (key_number (bound_bytes High p) + 1)) (eq-eqb (get_or p.high 0 0) 0 z)

pub high_some : (p : PinnedRoom) → get_or p.high 0 0 ≢ 0 → high_number p.high ≡ key_number (bound_bytes High p) + 1
unfolding high_number
high_some p ne = ap (λ (b : Bool). cond b 0 (key_number (bound_bytes High p) + 1)) (ne_eqb (get_or p.high 0 0) 0 ne)

module _ (p : PinnedRoom) (h : HasBounds p) where
  whole : (b : Bound) → length (bound_words b p) ≡ BOUND_WORDS
  whole Low = h.low
  whole High = h.high

  pub bound_few : (b : Bound) → bound_length b p ≤ GREATEST_KEY
  bound_few Low = h.fit.low_fits
  bound_few High = let f = h.fit.high_fits in omega arith

  room_for : (b : Bound) → bound_length b p ≤ 8 * length (drop 1 (bound_words b p))
  room_for b = let f = bound_few b in let w = whole b in let d = length-drop 1 (bound_words b p) in omega arith

  pub bound_long : (b : Bound) → length (bound_bytes b p) ≡ bound_length b p
  bound_long b = part_long (bound_length b p) (drop 1 (bound_words b p)) (room_for b)

  pub bound_small : (b : Bound) → AreBytes (bound_bytes b p)
  bound_small b = part_small (bound_length b p) (drop 1 (bound_words b p))

  -- a byte, in the word that was loaded
  pub bound_byte_is : (b : Bound) (i n : ℕ) → i < bound_length b p → n ≡ get_or (bound_words b p) (1 + i / 8) 0 → get_or (word_bytes n) (i % 8) 0 ≡ get_or (bound_bytes b p) i 0
  bound_byte_is b i n lt e = ap (λ (k : ℕ). get_or (word_bytes k) (i % 8) 0) (e ∙ sym (get_or-drop 1 (bound_words b p) (i / 8) 0)) ∙ byte_in (drop 1 (bound_words b p)) (bound_length b p) i lt (room_for b)

  -- the bytes of a word that was loaded
  pub bound_part : (b : Bound) (i n len : ℕ) → len ≡ bound_length b p → 8 * i < len → n ≡ get_or (bound_words b p) (1 + i) 0 → take (len - 8 * i) (word_bytes n) ≡ bytes_in i (bound_bytes b p)
  bound_part b i n len e lt is = (λ j. take (e j - 8 * i) (word_bytes ((is ∙ sym (get_or-drop 1 (bound_words b p) i 0)) j))) ∙ word_part (drop 1 (bound_words b p)) (bound_length b p) i (let s : len ≡ bound_length b p = e in omega arith) (room_for b)

  -- one word more was compared
  pub word_step : (b : Bound) (key : List ℕ) (i : ℕ) (o : Ordering) → AreBytes key → padded_cmp (8 * i) key (bound_bytes b p) ≡ Equal → o ≡ nat_cmp (word_at key i) (word_at (bound_bytes b p) i) → o ≡ padded_cmp (8 * i + 8) key (bound_bytes b p)
  word_step b key i o s t e = e ∙ word_order key (bound_bytes b p) i s (bound_small b) t

  -- after as many words as the shorter has
  pub lengths_end : (b : Bound) (key : List ℕ) (i n m : ℕ) → padded_cmp (8 * i) key (bound_bytes b p) ≡ Equal → m ≡ min (length key) n → n ≡ bound_length b p → (m + 7) / 8 ≤ i → key_cmp key (bound_bytes b p) ≡ nat_cmp (length key) n
  lengths_end b key i n m t e s le = let l = bound_long b in lengths_decide (8 * i) key (bound_bytes b p) t (short (length key) (length (bound_bytes b p)) (let f : n ≡ length (bound_bytes b p) = s ∙ sym l in omega arith)) ∙ ap (nat_cmp (length key)) (l ∙ sym s)
    where
      short : (x y : ℕ) → min x y ≤ 8 * i → (x ≤ 8 * i) ⊎ (y ≤ 8 * i)
      short x y le = dite (dec_lt x y) (λ l. inl (omega arith)) (λ n. inr (omega arith))

  -- as numbers

  pub low_order : (key : List ℕ) → AreBytes key → length key ≤ GREATEST_KEY → key_cmp key (bound_bytes Low p) ≡ nat_cmp (key_number key) (low_number p.low)
  unfolding low_number
  low_order key s few = by_numbers key (bound_bytes Low p) s (bound_small Low) few (let l = bound_long Low in let f = bound_few Low in omega arith)

  pub high_order : (key : List ℕ) → AreBytes key → length key ≤ GREATEST_KEY → get_or p.high 0 0 ≢ 0 → key_cmp key (bound_bytes High p) ≡ high_cmp (key_number key) (high_number p.high)
  high_order key s few ne = let n : ℕ = key_number (bound_bytes High p) in by_numbers key (bound_bytes High p) s (bound_small High) few (let l = bound_long High in let f = bound_few High in omega arith)
      ∙ (ap (nat_cmp (key_number key)) (let e : n ≡ n + 1 - 1 = omega arith in e)
      ∙ (sym (high_cmp-some (key_number key) (n + 1) (λ e. absurd (omega arith))) ∙ ap (high_cmp (key_number key)) (sym (high_some p ne))))

-- what the length of a high bound says

pub some_high : (w n : ℕ) → Some n ≡ cond (w == 0) None (Some (w - 1)) → (w ≢ 0) × (n ≡ w - 1)
some_high w n = dite (ℕ_discrete w 0)
    (λ z e. absurd (some_not_none n (e ∙ ap (λ (b : Bool). cond b None (Some (w - 1))) (eq-eqb w 0 z))))
    (λ ne e. (ne, the_same n (w - 1) (e ∙ ap (λ (b : Bool). cond b None (Some (w - 1))) (ne_eqb w 0 ne))))
  where
    some_not_none : (n : ℕ) → Some n ≡ None → ⊥
    some_not_none n e = cc

    the_same : (n m : ℕ) → Some n ≡ Some m → n ≡ m
    the_same n m e = cc

pub none_high : (w : ℕ) → None ≡ cond (w == 0) None (Some (w - 1)) → w ≡ 0
none_high w = dite (ℕ_discrete w 0) (λ z _. z) (λ ne e. absurd (none_not_some (w - 1) (e ∙ ap (λ (b : Bool). cond b None (Some (w - 1))) (ne_eqb w 0 ne))))
  where
    none_not_some : (n : ℕ) → None ≡ Some n → ⊥
    none_not_some n e = cc

pub last_high : (p : PinnedRoom) (o : Option ℕ) (b : Bool) → is_some o ≡ not b → o ≡ high_length p → MatchBool b (IsLast (span_of p)) (IsLast (span_of p) → ⊥)
last_high p None true e f = high_none p (none_high (get_or p.high 0 0) f)
last_high p None false e f = absurd cc
last_high p (Some n) true e f = absurd cc
last_high p (Some n) false e f = λ z. let h = high_some p (some_high (get_or p.high 0 0) n f).0 in absurd (omega arith)

-- loads leave the pin as it was

pub same_pin : (call : ℕ) (v w : PassState) → OnlyMeets call v w → room_pin w ≡ room_pin v
same_pin call v w o = ap (λ (a : RoomHolds). pin_or a.pin) o.rooms

pub later_step : (call : ℕ) (v w : PassState) → OnlyMeets call v w → HasBounds (room_pin v) → (b : Bound) (key : List ℕ) (k : ℕ) (o : Ordering) → AreBytes key → padded_cmp (8 * k) key (bound_bytes b (room_pin v)) ≡ Equal
    → o ≡ nat_cmp (word_at key k) (word_at (bound_bytes b (room_pin w)) k) → o ≡ padded_cmp (8 * k + 8) key (bound_bytes b (room_pin v))
later_step call v w only h b key k o s t e = word_step (room_pin v) h b key k o s t (e ∙ ap (λ (p : PinnedRoom). nat_cmp (word_at key k) (word_at (bound_bytes b p) k)) (same_pin call v w only))
