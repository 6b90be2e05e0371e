-- What a removal by a pass that is alone leaves of the words.
use Rattle.std.proofs.Common.{◌≡◌, ℕ, ◌+◌, ◌-◌, ◌*◌, ◌/◌, ◌%◌, ◌^◌, ◌<◌, List, length, length-set, refl, sym, ap, ◌∙◌, subst, arith}
use Rattle.std.specs.Prelude.{bit_and, slice_index}
use Rattle.std.specs.Int.{bit_at}
use Rattle.pin_word.specs.PinWord.{STATE}
use Rattle.oak_model.specs.declared.classes.Class.{Class}
use Rattle.oak_model.specs.Class.{class_number}
use Rattle.oak_model.specs.Limits.{Sizes}
use Rattle.arena_core.specs.Arena.{blocks}
use Rattle.arena_core.specs.ArenaStep.{bit_of}
use Rattle.arena_core.specs.Place.{block_in, class_in}
use Rattle.chunk_core.specs.Rooms.{at_value}
use Rattle.header_core.specs.Headers.{at_pin, at_place, at_stamp}
use Rattle.header_core.specs.HeaderStep.{renewal}
use Rattle.oak_core.specs.declared.states.PassState.{PassState}
use Rattle.oak_core.specs.AloneWords.{Runs}
use Rattle.oak_core.specs.Memory.{Spot, IsInside, in_headers, in_rooms, index, memory, word_count}
use Rattle.oak_core.proofs.seats.AloneRuns.{Then, runs_as, runs_then}
use Rattle.oak_core.proofs.memory.ArenaNames.{bit_inside}
use Rattle.oak_core.proofs.memory.Words.{memory_read}
use Rattle.arena_ops.specs.Looking.{bit_spot}
use Rattle.arena_ops.specs.Taking.{ClearsBit}
use Rattle.chunk_ops.specs.Setting.{ClearsIn}
use Rattle.chunk_ops.proofs.KeptKeys.{number_other}
use Rattle.value_ops.specs.AloneLocks.{BuriesWords, LocksPin, RenewsPin, pin_in, place_in, put_stamp, stamp_in}
use Rattle.value_ops.specs.Claiming.{pin_spot}
use Rattle.point_ops.specs.LoneInserts.{KeepsBut}
use Rattle.point_ops.specs.LoneLeft.{ClearsBlockIn, IsRemoved, RemovesIn}
use Rattle.point_ops.proofs.LoneKept.{HasBlockIn, LocksWhole}
use Rattle.point_ops.proofs.LoneWords.{but_both, but_set, read_stored}

-- the lock, the removal, the entry's floor, the header taken back, and the block
module _ (z : Sizes) (r i h g stamp : ℕ) (inside : h < z.headers) (there : IsInside z (in_rooms (at_value r i))) (o : Class) (n : ℕ) (few : n < blocks z (class_number o))
    (a b c d e f : List ℕ) (lock : LocksPin z h g a b) (has : HasBlockIn z h b) (buries : BuriesWords z h g stamp b c) (clears : ClearsIn z r i stamp c d) (renews : RenewsPin z h g o n d e) (gives : ClearsBit z o n e f) where
  abbrev pin : Spot
  pin = in_headers (at_pin h)

  abbrev place : Spot
  place = in_headers (at_place h)

  abbrev stamp_at : Spot
  stamp_at = in_headers (at_stamp h)

  abbrev value : Spot
  value = in_rooms (at_value r i)

  abbrev bits : Spot
  bits = bit_spot o n

  abbrev stamped : List ℕ
  stamped = put_stamp z h stamp b

  bit_there : IsInside z (bit_spot o n)
  bit_there = bit_inside z o n few

  abbrev less : ℕ
  less = bit_and (slice_index e (index z bits)) (2 ^ 64 - 1 - bit_of n)

  wide_a : length a ≡ word_count z
  wide_a = sym (length-set a (index z (pin_spot h)) (pin_in z h a + STATE)) ∙ (ap length (sym lock.1) ∙ has.wide)

  wide_stamped : length (put_stamp z h stamp b) ≡ word_count z
  wide_stamped = length-set b (index z stamp_at) stamp ∙ has.wide

  wide_c : length c ≡ word_count z
  wide_c = ap length buries.becomes ∙ (length-set stamped (index z (pin_spot h)) (pin_in z h b + STATE) ∙ wide_stamped)

  wide_d : length d ≡ word_count z
  wide_d = ap length clears ∙ (length-set c (index z value) stamp ∙ wide_c)

  wide_e : length e ≡ word_count z
  wide_e = ap length renews.becomes ∙ (length-set d (index z (pin_spot h)) (pin_in z h d + renewal g) ∙ wide_d)

  -- ---- the place word stays

  place_d : place_in z h d ≡ place_in z h a
  place_d = ap (λ (ws : List ℕ). place_in z h ws) clears ∙ (number_other z c (in_rooms (at_value r i)) stamp there (in_headers (at_place h)) refl
      ∙ (ap (λ (ws : List ℕ). place_in z h ws) buries.becomes ∙ (number_other z stamped (pin_spot h) (pin_in z h b + STATE) inside (in_headers (at_place h)) refl ∙ (number_other z b (in_headers (at_stamp h)) stamp inside (in_headers (at_place h)) refl
      ∙ (ap (λ (ws : List ℕ). place_in z h ws) lock.1 ∙ number_other z a (pin_spot h) (pin_in z h a + STATE) inside (in_headers (at_place h)) refl)))))

  class_is : class_number o ≡ class_in (place_in z h a)
  class_is = sym renews.class_is ∙ ap class_in place_d

  block_is : n ≡ block_in (place_in z h a)
  block_is = sym renews.block_is ∙ ap block_in place_d

  -- ---- the words that change

  abbrev P : Spot → Type 0
  P = IsRemoved r i h (place_in z h a)

  but : KeepsBut z (IsRemoved r i h (place_in z h a)) a f
  but = but_both z P a b f (subst (KeepsBut z P a) (sym lock.1) (but_set z P a (pin_spot h) (pin_in z h a + STATE) inside refl))
      (but_both z P b c f (subst (KeepsBut z P b) (sym buries.becomes) (but_both z P b stamped _ (but_set z P b stamp_at stamp inside refl) (but_set z P stamped (pin_spot h) (pin_in z h b + STATE) inside refl)))
      (but_both z P c d f (subst (KeepsBut z P c) (sym clears) (but_set z P c value stamp there (refl, refl)))
      (but_both z P d e f (subst (KeepsBut z P d) (sym renews.becomes) (but_set z P d (pin_spot h) (pin_in z h d + renewal g) inside refl))
      (subst (KeepsBut z P e) (sym gives.1) (but_set z P e (bit_spot o n) less bit_there (class_is, ap (λ (k : ℕ). k / 64) block_is))))))

  floor : (memory z f).rooms.value r i ≡ stamp
  floor = ap (λ (ws : List ℕ). (memory z ws).rooms.value r i) gives.1 ∙ (number_other z e (bit_spot o n) less bit_there (in_rooms (at_value r i)) refl
      ∙ (ap (λ (ws : List ℕ). (memory z ws).rooms.value r i) renews.becomes ∙ (number_other z d (pin_spot h) (pin_in z h d + renewal g) inside (in_rooms (at_value r i)) refl
      ∙ (ap (λ (ws : List ℕ). (memory z ws).rooms.value r i) clears ∙ read_stored z c value stamp wide_c there))))

  stamp_is : stamp_in z h f ≡ stamp
  stamp_is = ap (λ (ws : List ℕ). stamp_in z h ws) gives.1 ∙ (number_other z e (bit_spot o n) less bit_there (in_headers (at_stamp h)) refl
      ∙ (ap (λ (ws : List ℕ). stamp_in z h ws) renews.becomes ∙ (number_other z d (pin_spot h) (pin_in z h d + renewal g) inside (in_headers (at_stamp h)) refl
      ∙ (ap (λ (ws : List ℕ). stamp_in z h ws) clears ∙ (number_other z c (in_rooms (at_value r i)) stamp there (in_headers (at_stamp h)) refl
      ∙ (ap (λ (ws : List ℕ). stamp_in z h ws) buries.becomes ∙ (number_other z stamped (pin_spot h) (pin_in z h b + STATE) inside (in_headers (at_stamp h)) refl ∙ read_stored z b stamp_at stamp has.wide inside)))))))

  pin_is : pin_in z h f ≡ pin_in z h a + 2 * STATE + renewal g
  pin_is = let locked : pin_in z h b ≡ pin_in z h a + STATE = ap (λ (ws : List ℕ). pin_in z h ws) lock.1 ∙ read_stored z a (pin_spot h) (pin_in z h a + STATE) wide_a inside in
      let dead : pin_in z h c ≡ pin_in z h b + STATE = ap (λ (ws : List ℕ). pin_in z h ws) buries.becomes ∙ read_stored z stamped (pin_spot h) (pin_in z h b + STATE) wide_stamped inside in
      let cleared : pin_in z h d ≡ pin_in z h c = ap (λ (ws : List ℕ). pin_in z h ws) clears ∙ number_other z c (in_rooms (at_value r i)) stamp there (in_headers (at_pin h)) refl in
      let renewed : pin_in z h e ≡ pin_in z h d + renewal g = ap (λ (ws : List ℕ). pin_in z h ws) renews.becomes ∙ read_stored z d (pin_spot h) (pin_in z h d + renewal g) wide_d inside in
      let given : pin_in z h f ≡ pin_in z h e = ap (λ (ws : List ℕ). pin_in z h ws) gives.1 ∙ number_other z e (bit_spot o n) less bit_there (in_headers (at_pin h)) refl in
      given ∙ (renewed ∙ ap (λ (k : ℕ). k + renewal g) (cleared ∙ (dead ∙ (ap (λ (k : ℕ). k + STATE) locked ∙ (let s : pin_in z h a + STATE + STATE ≡ pin_in z h a + 2 * STATE = omega arith in s)))))

  -- ---- the bit

  abbrev word : List ℕ → ℕ
  word ws = (memory z ws).arena.bits (class_number o) (n / 64)

  bits_e : (memory z e).arena.bits (class_number o) (n / 64) ≡ (memory z a).arena.bits (class_number o) (n / 64)
  bits_e = ap word renews.becomes ∙ (number_other z d (pin_spot h) (pin_in z h d + renewal g) inside bits refl
      ∙ (ap word clears ∙ (number_other z c (in_rooms (at_value r i)) stamp there bits refl
      ∙ (ap word buries.becomes ∙ (number_other z stamped (pin_spot h) (pin_in z h b + STATE) inside bits refl ∙ (number_other z b (in_headers (at_stamp h)) stamp inside bits refl
      ∙ (ap word lock.1 ∙ number_other z a (pin_spot h) (pin_in z h a + STATE) inside bits refl)))))))

  bit_of_o : ClearsBlockIn z (class_number o) n a f
  bit_of_o = record {
    was = ap (λ (k : ℕ). bit_at k (n % 64)) (sym bits_e) ∙ gives.0;
    bits = ap word gives.1 ∙ (read_stored z e (bit_spot o n) less wide_e bit_there ∙ ap (λ (k : ℕ). bit_and k (2 ^ 64 - 1 - bit_of n)) (sym (memory_read z e (bit_spot o n) bit_there) ∙ bits_e));
  }

  pub removes : RemovesIn z r i h g stamp a f
  removes = record {
    but = but;
    floor = floor;
    stamp = stamp_is;
    live = lock.0;
    pin = pin_is;
    bit = subst (λ (p : ℕ × ℕ). ClearsBlockIn z p.0 p.1 a f) (λ j. (class_is j, block_is j)) bit_of_o;
  }

-- to a pass that is alone
module _ (z : Sizes) (r i h g stamp : ℕ) (inside : h < z.headers) (there : IsInside z (in_rooms (at_value r i))) (o : Class) (n : ℕ) (few : n < blocks z (class_number o)) where
  abbrev Rest : List ℕ → List ℕ → Type 0
  Rest = Then (RenewsPin z h g o n) (ClearsBit z o n)

  abbrev Behind : List ℕ → List ℕ → Type 0
  Behind = Then (BuriesWords z h g stamp) (Then (ClearsIn z r i stamp) (Then (RenewsPin z h g o n) (ClearsBit z o n)))

  pub removes_alone : (k l s : ℕ) → k ≡ h → l ≡ g → s ≡ stamp → (v u w x y t' : PassState) → Runs (LocksWhole z h g) v u → Runs (BuriesWords z k l s) u w → Runs (ClearsIn z r i stamp) w x
      → (k' l' : ℕ) → k' ≡ h → l' ≡ g → Runs (RenewsPin z k' l' o n) x y → Runs (ClearsBit z o n) y t' → Runs (RemovesIn z r i h g stamp) v t'
  removes_alone k l s header generation same v u w x y t' locks buries clears k' l' header' generation' renews gives = runs_as (Then (LocksWhole z h g) Behind) (RemovesIn z r i h g stamp) v t'
      (λ a f q. removes z r i h g stamp inside there o n few a q.0 q.2.0 q.2.2.0 q.2.2.2.0 f q.1.0 q.1.1 q.2.1 q.2.2.1 q.2.2.2.1 q.2.2.2.2)
      (runs_then (LocksWhole z h g) Behind v u t' locks
      (runs_then (BuriesWords z h g stamp) (Then (ClearsIn z r i stamp) Rest) u w t' (subst (λ (p : ℕ × ℕ × ℕ). Runs (BuriesWords z p.0 p.1 p.2) u w) (λ j. (header j, generation j, same j)) buries)
      (runs_then (ClearsIn z r i stamp) Rest w x t' clears
      (runs_then (RenewsPin z h g o n) (ClearsBit z o n) x y t' (subst (λ (p : ℕ × ℕ). Runs (RenewsPin z p.0 p.1 o n) x y) (λ j. (header' j, generation' j)) renews) gives))))
