-- A value that a pass that is alone puts in place of another: what it leaves of the words.
use Rattle.std.proofs.Common.{◌≡◌, ◌≢◌, ℕ, ◌+◌, ◌-◌, ◌*◌, ◌/◌, ◌%◌, ◌^◌, ◌<◌, ◌≤◌, ◌⊎◌, List, length, refl, sym, ap, ◌∙◌, subst, inl, inr, Some}
use Rattle.std.specs.Prelude.{bit_and, slice_index}
use Rattle.std.specs.Int.{bit_at}
use Rattle.pin_word.specs.PinWord.{STATE}
use Rattle.oak_model.specs.declared.classes.Class.{Class}
use Rattle.oak_model.specs.Class.{class_number, class_of}
use Rattle.oak_model.specs.Limits.{Sizes}
use Rattle.arena_core.specs.Arena.{IsInArena, at_bits, at_bytes, block_words, blocks}
use Rattle.arena_core.specs.ArenaStep.{bit_of}
use Rattle.arena_core.specs.Place.{block_in, class_in, place_word}
use Rattle.arena_core.proofs.ClassRooms.{class_room}
use Rattle.header_core.specs.Headers.{at_pin, at_place, at_stamp}
use Rattle.oak_core.specs.declared.states.PassState.{PassState}
use Rattle.oak_core.specs.AloneWords.{Runs}
use Rattle.oak_core.specs.Memory.{Spot, at_given, in_arena, in_headers, in_rooms, index, memory}
use Rattle.oak_core.proofs.seats.AloneRuns.{Then, runs_as, runs_then}
use Rattle.oak_core.proofs.memory.ArenaNames.{bit_inside}
use Rattle.oak_core.proofs.memory.Words.{memory_read}
use Rattle.arena_ops.specs.Looking.{bit_spot}
use Rattle.arena_ops.specs.Taking.{ClearsBit}
use Rattle.chunk_ops.proofs.KeptKeys.{number_other}
use Rattle.value_ops.specs.AloneLocks.{ChangesWord, FindsClass, LocksPin, RefillsWords, UnlocksPin, WritesWords, pin_in, place_in, put_bytes, put_place, stamp_in}
use Rattle.value_ops.specs.Claiming.{pin_spot}
use Rattle.point_ops.specs.LoneInserts.{IsOfBlock, KeepsBut, MakesBlockIn}
use Rattle.point_ops.specs.LoneLeft.{ClearsBlockIn, IsOfValue}
use Rattle.point_ops.specs.LonePutLeft.{ExchangesIn, IsRefilled, IsSwapped, OverIn, SwapsIn}
use Rattle.point_ops.proofs.LoneChanges.{undoes}
use Rattle.point_ops.proofs.LoneKept.{HasBlockIn, LocksWhole}
use Rattle.point_ops.proofs.LoneRounds.{ChangesUnder, Rounds, bytes_within, rounds_alone}
use Rattle.point_ops.proofs.LoneWords.{but_as, but_both, but_same, but_set, read_stored}

-- ---- in the same block

module _ (z : Sizes) (h g : ℕ) (inside : h < z.headers) (k : Class) (bytes : List ℕ) (fits : class_of (length bytes) ≡ Some k) where
  value_refilled : (p : ℕ) (q : Spot) → IsOfValue h p q → IsRefilled h p q
  value_refilled p (in_arena (at_bytes c b j)) s = s
  value_refilled p (in_arena (at_bits c j)) s = absurd s
  value_refilled p (in_headers (at_stamp j)) s = s
  value_refilled p (in_headers (at_place j)) s = absurd s
  value_refilled p (in_headers (at_pin j)) s = absurd s
  value_refilled p (in_rooms q) s = absurd s
  value_refilled p at_given s = absurd s

  abbrev named : ℕ → ℕ
  named p = place_word (class_in p) (block_in p) (length bytes)

  abbrev HasClass : ℕ → Type 0
  HasClass p = class_number k ≡ class_in p

  refills_within : (i : ℕ) → i ≡ h → (b c : List ℕ) → HasBlockIn z h b → Then (FindsClass z i k) (RefillsWords z i bytes) b c
      → ChangesUnder z h (IsRefilled h) (λ p. place_word (class_in p) (block_in p) (length bytes)) (λ p. class_number k ≡ class_in p) b c
  refills_within i same b c has f = let d = subst (λ (j : ℕ). Then (FindsClass z j k) (RefillsWords z j bytes) b c) same f in let put : List ℕ = put_bytes z h bytes b in let p : ℕ = place_in z h b in
      let refilled : c ≡ put_place z h (named (place_in z h b)) (put_bytes z h bytes b) = subst (λ (ws : List ℕ). RefillsWords z h bytes ws c) d.1.1 d.2 in
      let first : KeepsBut z (IsOfValue h (place_in z h b)) b (put_bytes z h bytes b) = bytes_within z h bytes b has (subst (λ (n : ℕ). length bytes ≤ 8 * block_words n) d.1.0 (class_room (length bytes) k fits)) in
      record {
        but = subst (KeepsBut z (IsRefilled h p) b) (sym refilled) (but_both z (IsRefilled h p) b put _ (but_as z (IsOfValue h p) (IsRefilled h p) b put (value_refilled p) first)
            (but_set z (IsRefilled h p) put (in_headers (at_place h)) (named p) inside refl));
        place = ap (λ (ws : List ℕ). place_in z h ws) refilled ∙ read_stored z put (in_headers (at_place h)) (named p) (first.size ∙ has.wide) inside;
        fact = d.1.0;
      }

  pub refills_alone : (v u w x : PassState) → Runs (LocksWhole z h g) v u → (l : ℕ) → l ≡ h → Runs (Then (FindsClass z l k) (RefillsWords z l bytes)) u w
      → (i j stamp : ℕ) → i ≡ h → j ≡ g → Runs (WritesWords z i j stamp) w x → Runs (OverIn z h stamp bytes) v x
  refills_alone v u w x locks l same under i j stamp header generation writes = runs_as (Rounds z h (IsRefilled h) named HasClass stamp) (OverIn z h stamp bytes) v x
      (λ a d r. inl (record { class = k; fits = fits; same = r.fact; but = r.but; place = r.place; stamp = r.stamp }))
      (rounds_alone z h g inside (IsRefilled h) named HasClass (λ p. refl) (λ p e. e) (Then (FindsClass z l k) (RefillsWords z l bytes)) (refills_within l same) v u w x locks under i j stamp header generation writes)

-- ---- in another, which was made

-- the place word or the stamp of the header
abbrev IsNamed : ℕ → ℕ → Spot → Type 0
IsNamed h p (in_headers (at_place j)) = j ≡ h
IsNamed h p (in_headers (at_stamp j)) = j ≡ h
IsNamed _ _ _ = ⊥

named_swapped : (h p : ℕ) (q : Spot) → IsNamed h p q → IsSwapped h p q
named_swapped h p (in_headers (at_place j)) s = s
named_swapped h p (in_headers (at_stamp j)) s = s
named_swapped h p (in_headers (at_pin j)) s = absurd s
named_swapped h p (in_arena q) s = absurd s
named_swapped h p (in_rooms q) s = absurd s
named_swapped h p at_given s = absurd s

module _ (z : Sizes) (h g : ℕ) (inside : h < z.headers) (c : Class) (b len : ℕ) (o : Class) (n : ℕ) (few : n < blocks z (class_number o)) where
  abbrev IsOld : ℕ → Type 0
  IsOld p = (class_in p ≡ class_number o) × (block_in p ≡ n)

  abbrev named_so : ℕ → ℕ
  named_so p = place_word (class_number c) b len

  abbrev R : ℕ → List ℕ → List ℕ → Type 0
  R stamp = Rounds z h (IsNamed h) named_so IsOld stamp

  -- the round, and the old block that is given back
  module _ (stamp : ℕ) (a d f : List ℕ) (r : Rounds z h (IsNamed h) (λ p. place_word (class_number c) b len) (λ p. (class_in p ≡ class_number o) × (block_in p ≡ n)) stamp a d) (gives : ClearsBit z o n d f) where
    abbrev p : ℕ
    p = place_in z h a

    abbrev bits : Spot
    bits = bit_spot o n

    abbrev less : ℕ
    less = bit_and (slice_index d (index z bits)) (2 ^ 64 - 1 - bit_of n)

    abbrev word : List ℕ → ℕ
    word ws = (memory z ws).arena.bits (class_number o) (n / 64)

    there : IsInArena z (at_bits (class_number o) (n / 64))
    there = bit_inside z o n few

    bits_d : (memory z d).arena.bits (class_number o) (n / 64) ≡ (memory z a).arena.bits (class_number o) (n / 64)
    bits_d = but_same z (IsNamed h p) a d r.but bits (λ e. e)

    was_old : ClearsBlockIn z (class_number o) n a f
    was_old = record {
      was = ap (λ (k : ℕ). bit_at k (n % 64)) (sym bits_d) ∙ gives.0;
      bits = ap word gives.1 ∙ (read_stored z d (bit_spot o n) less (r.but.size ∙ r.wide) there ∙ ap (λ (k : ℕ). bit_and k (2 ^ 64 - 1 - bit_of n)) (sym (memory_read z d (bit_spot o n) there) ∙ bits_d));
    }

    swaps : SwapsIn z h c b len stamp a f
    swaps = record {
      but = but_both z (IsSwapped h p) a d f (but_as z (IsNamed h p) (IsSwapped h p) a d (named_swapped h p) r.but)
          (subst (KeepsBut z (IsSwapped h p) d) (sym gives.1) (but_set z (IsSwapped h p) d (bit_spot o n) less there (sym r.fact.0, ap (λ (k : ℕ). k / 64) (sym r.fact.1))));
      place = ap (λ (ws : List ℕ). place_in z h ws) gives.1 ∙ (number_other z d (bit_spot o n) less there (in_headers (at_place h)) refl ∙ r.place);
      stamp = ap (λ (ws : List ℕ). stamp_in z h ws) gives.1 ∙ (number_other z d (bit_spot o n) less there (in_headers (at_stamp h)) refl ∙ r.stamp);
      given = subst (λ (k : ℕ × ℕ). ClearsBlockIn z k.0 k.1 a f) (λ j. (sym r.fact.0 j, sym r.fact.1 j)) was_old;
    }

  changes_within : (i : ℕ) → i ≡ h → (a d : List ℕ) → HasBlockIn z h a → ChangesWord z i c b len o n a d → ChangesUnder z h (IsNamed h) (λ p. place_word (class_number c) b len) (λ p. (class_in p ≡ class_number o) × (block_in p ≡ n)) a d
  changes_within i same a d has f = let e = subst (λ (j : ℕ). ChangesWord z j c b len o n a d) same f in let p : ℕ = place_in z h a in let x : ℕ = place_word (class_number c) b len in record {
    but = subst (KeepsBut z (IsNamed h p) a) (sym e.becomes) (but_set z (IsNamed h p) a (in_headers (at_place h)) x inside refl);
    place = ap (λ (ws : List ℕ). place_in z h ws) e.becomes ∙ read_stored z a (in_headers (at_place h)) x has.wide inside;
    fact = (e.class_is, e.block_is);
  }

  pub swaps_alone : (v u w x y : PassState) → Runs (LocksWhole z h g) v u → (l : ℕ) → l ≡ h → Runs (ChangesWord z l c b len o n) u w → (i j stamp : ℕ) → i ≡ h → j ≡ g → Runs (WritesWords z i j stamp) w x
      → Runs (ClearsBit z o n) x y → Runs (SwapsIn z h c b len stamp) v y
  swaps_alone v u w x y locks l same under i j stamp header generation writes gives = runs_as (Then (R stamp) (ClearsBit z o n)) (SwapsIn z h c b len stamp) v y
      (λ a f s. swaps stamp a s.0 f s.1 s.2)
      (runs_then (R stamp) (ClearsBit z o n) v x y (rounds_alone z h g inside (IsNamed h) named_so IsOld (λ p. refl) (λ p e. e) (ChangesWord z l c b len o n) (changes_within l same) v u w x locks under i j stamp header generation writes) gives)

-- ---- the header was free, and its block of another class

abbrev FreeOf : Sizes → ℕ → Class → (before after : List ℕ) → Type 0
FreeOf z h k before after = (class_number k ≡ class_in (place_in z h before)) × (after ≡ before)

module _ (z : Sizes) (h g i j : ℕ) (inside : h < z.headers) (header : i ≡ h) (generation : j ≡ g) (k : Class) (v u y x : PassState) where
  abbrev L : List ℕ → List ℕ → Type 0
  L = LocksPin z h g

  abbrev Behind : List ℕ → List ℕ → Type 0
  Behind = Then (FindsClass z h k) (UnlocksPin z h g)

  class_was : (a d : List ℕ) → Then (LocksPin z h g) (Then (FindsClass z h k) (UnlocksPin z h g)) a d → class_number k ≡ class_in (place_in z h a)
  class_was a d s = s.2.1.0 ∙ ap class_in (ap (λ (ws : List ℕ). place_in z h ws) s.1.1 ∙ number_other z a (pin_spot h) (pin_in z h a + STATE) inside (in_headers (at_place h)) refl)

  pub gives_up_class : Runs (LocksPin z h g) v u → Runs (FindsClass z i k) u y → Runs (UnlocksPin z i j) y x → Runs (FreeOf z h k) v x
  gives_up_class a b d = runs_as (Then L Behind) (FreeOf z h k) v x (λ p q s. (class_was p q s, undoes z h g i j inside header generation k v u y x p q s))
      (runs_then L Behind v u x a
      (runs_then (FindsClass z h k) (UnlocksPin z h g) u y x (subst (λ (m : ℕ). Runs (FindsClass z m k) u y) header b) (subst (λ (m : ℕ × ℕ). Runs (UnlocksPin z m.0 m.1) y x) (λ l. (header l, generation l)) d)))

module _ (z : Sizes) (h r : ℕ) (k c : Class) (b at : ℕ) (value : List ℕ) (fits : class_of (length value) ≡ Some c) (apart : class_number k ≢ class_number c) where
  module _ (a m f : List ℕ) (free : class_number k ≡ class_in (place_in z h a)) (made : MakesBlockIn z r c b a m) (s : SwapsIn z h c b (length value) at m f) where
    abbrev first : ℕ
    first = place_in z h a

    place_m : place_in z h m ≡ place_in z h a
    place_m = but_same z (IsOfBlock c b) a m made.but (in_headers (at_place h)) (λ e. e)

    other : class_number c ≢ class_in (place_in z h a)
    other e = apart (free ∙ sym e)

    swapped : KeepsBut z (IsSwapped h (place_in z h a)) m f
    swapped = subst (λ (n : ℕ). KeepsBut z (IsSwapped h n) m f) place_m s.but

    given_m : ClearsBlockIn z (class_in (place_in z h a)) (block_in (place_in z h a)) m f
    given_m = subst (λ (n : ℕ). ClearsBlockIn z (class_in n) (block_in n) m f) place_m s.given

    abbrev old : Spot
    old = in_arena (at_bits (class_in first) (block_in first / 64))

    abbrev N : Spot → Type 0
    N q = IsOfBlock c b q ⊎ IsSwapped h first q

    bits_m : (memory z m).arena.bits (class_in (place_in z h a)) (block_in (place_in z h a) / 64) ≡ (memory z a).arena.bits (class_in (place_in z h a)) (block_in (place_in z h a) / 64)
    bits_m = but_same z (IsOfBlock c b) a m made.but old (λ e. other (sym e.0))

    exchanges : ExchangesIn z h at value a f
    exchanges = record {
      class = c;
      fits = fits;
      other = other;
      block = b;
      clear = made.clear;
      but = but_both z N a m f (but_as z (IsOfBlock c b) N a m (λ q i. inl i) made.but) (but_as z (IsSwapped h first) N m f (λ q i. inr i) swapped);
      place = s.place;
      stamp = s.stamp;
      taken = but_same z (IsSwapped h first) m f swapped (bit_spot c b) (λ e. other e.0) ∙ made.bit;
      given = record {
        was = ap (λ (n : ℕ). bit_at n (block_in first % 64)) (sym bits_m) ∙ given_m.was;
        bits = given_m.bits ∙ ap (λ (n : ℕ). bit_and n (2 ^ 64 - 1 - bit_of (block_in first))) bits_m;
      };
    }

  pub exchanges_alone : (v x w y : PassState) → Runs (FreeOf z h k) v x → Runs (MakesBlockIn z r c b) x w → Runs (SwapsIn z h c b (length value) at) w y → Runs (OverIn z h at value) v y
  exchanges_alone v x w y free makes swap = let Rest = Then (MakesBlockIn z r c b) (SwapsIn z h c b (length value) at) in runs_as (Then (FreeOf z h k) Rest) (OverIn z h at value) v y
      (λ a f s. inr (exchanges a s.2.0 f s.1.0 (subst (λ (ws : List ℕ). MakesBlockIn z r c b ws s.2.0) s.1.1 s.2.1) s.2.2))
      (runs_then (FreeOf z h k) Rest v x y free (runs_then (MakesBlockIn z r c b) (SwapsIn z h c b (length value) at) x w y makes swap))
