-- What a put leaves of the words, where it answers a pass that is alone: under the pin of the key's room, and with the pin undone.
use Rattle.std.proofs.Common.{◌≡◌, ℕ, ◌+◌, ◌*◌, ◌/◌, ◌<◌, ◌⊎◌, List, length, sym, ap, ◌∙◌, subst, inl, inr, ⊎_elim, Option}
use Rattle.std.specs.Prelude.{bit_or}
use Rattle.pin_word.specs.PinWord.{STATE, count_of, state_of}
use Rattle.oak_model.specs.declared.classes.Class.{Class}
use Rattle.oak_model.specs.declared.replies.Wrote.{Wrote}
use Rattle.oak_model.specs.declared.replies.Wrote.TheVariants.{New, Over, Kept, Done, Removed, Absent, Full}
use Rattle.oak_model.specs.Class.{class_number}
use Rattle.oak_model.specs.Limits.{Sizes}
use Rattle.arena_core.specs.Arena.{at_bits}
use Rattle.arena_core.specs.ArenaStep.{bit_of}
use Rattle.arena_core.specs.Place.{block_in, class_in, place_word}
use Rattle.chunk_core.specs.declared.states.TheConstants.{OPEN}
use Rattle.chunk_core.specs.Rooms.{at_count, at_value}
use Rattle.chunk_core.specs.ValueWord.{names_header}
use Rattle.header_core.specs.Headers.{at_pin, at_place, at_stamp}
use Rattle.oak_core.specs.declared.states.PassState.{PassState}
use Rattle.oak_core.specs.AloneWords.{Runs}
use Rattle.oak_core.specs.Memory.{Spot, in_arena, in_headers, in_rooms, memory, read}
use Rattle.oak_core.proofs.seats.AloneRuns.{Then, runs_as, runs_then}
use Rattle.chunk_ops.specs.declared.entries.Content.TheVariants.{Value}
use Rattle.chunk_ops.specs.declared.entries.EntryNo.{EntryNo}
use Rattle.chunk_ops.specs.AskedRanges.{CoversKey}
use Rattle.chunk_ops.specs.RoomPins.{AddsRoomPin, DropsRoomPin}
use Rattle.chunk_ops.proofs.PinSteps.{undone}
use Rattle.value_ops.specs.AloneLocks.{place_in}
use Rattle.point_ops.specs.LoneInserts.{IsOfBlock, KeepsBut, KeysStay}
use Rattle.point_ops.specs.LoneLeft.{ClearsBlockIn}
use Rattle.point_ops.specs.LoneLives.{AwayIn, EntrySays}
use Rattle.point_ops.specs.LonePutLeft.{ExchangesIn, GotEntryIn, HadEntryIn, InsertsKey, InsertsKeyFor, IsNewEntry, IsNewValue, IsRefilled, IsSwapped, OverIn, OverKey, PutLeavesBy, PutLeavesUnder, RefillsIn, with_bit}
use Rattle.point_ops.proofs.LoneKeys.{key_before, key_still, keys_stay}
use Rattle.point_ops.proofs.LoneLeftPins.{bit_around, names_were, now, place_was, rewrites_around, was}
use Rattle.point_ops.proofs.LonePins.{IsPinOf, around, clear_was, free_was, header_was, keys_were, missing_was, span_was, unpinned}
use Rattle.point_ops.proofs.LoneUnderPins.{away_stays}

-- ---- under the pin

pub over_key : (z : Sizes) (r h g : ℕ) (i : EntryNo) (key value : List ℕ) (at : ℕ) (v u w : PassState) → Runs (EntrySays i (Value h g) z r key) v u → Runs (OverIn z h at value) u w → Runs (OverKey z r key value at) v w
over_key z r h g i key value at v u w named s = let E : List ℕ → List ℕ → Type 0 = EntrySays i (Value h g) z r key in let O : List ℕ → List ℕ → Type 0 = OverIn z h at value in
    runs_as (Then E O) (OverKey z r key value at) v w
    (λ a d t. record { i = i; h = h; g = g; names = record { has = t.1.0.1; says = t.1.1 }; over = subst (λ (m : List ℕ). OverIn z h at value m d) t.1.0.0 t.2 })
    (runs_then E O v u w named s)

pub away_gets : (z : Sizes) (r : ℕ) (key value : List ℕ) (entry : Option EntryNo) (floor : ℕ) (v u w : PassState) → Runs (AwayIn entry floor z r key) v u → Runs (InsertsKeyFor z r entry floor key value) u w → Runs (InsertsKey z r key value) v w
away_gets z r key value entry floor v u w found does = let A : List ℕ → List ℕ → Type 0 = AwayIn entry floor z r key in let B : List ℕ → List ℕ → Type 0 = InsertsKeyFor z r entry floor key value in
    runs_as (Then A B) (InsertsKey z r key value) v w
    (λ a d s. let t = away_stays z r key entry floor a s.0 s.1 in subst (λ (m : List ℕ). InsertsKey z r key value m d) t.0 (s.2 (subst (λ (m : List ℕ). AwayIn entry floor z r key m m) (sym t.0) t.1)))
    (runs_then A B v u w found does)

-- ---- with the pin undone

module _ (z : Sizes) (r : ℕ) (inside : r < z.chunks) (a b : List ℕ) (up : AddsRoomPin z r a b) (c d : List ℕ) (down : DropsRoomPin z r c d) where
  before : (p : Spot) → (IsPinOf r p → ⊥) → read (memory z b) p ≡ read (memory z a) p
  before p out = was z r inside a b up p out

  after : (p : Spot) → (IsPinOf r p → ⊥) → read (memory z d) p ≡ read (memory z c) p
  after p out = now z r inside a b up c d down p out

  bits_before : (e j : ℕ) → (memory z b).arena.bits e j ≡ (memory z a).arena.bits e j
  bits_before e j = before (in_arena (at_bits e j)) (λ x. x)

  bits_after : (e j : ℕ) → (memory z d).arena.bits e j ≡ (memory z c).arena.bits e j
  bits_after e j = after (in_arena (at_bits e j)) (λ x. x)

  keys_after : KeysStay z r c d
  keys_after = keys_stay z r (IsPinOf r) c d (unpinned z r inside a b up c d down) (λ e. e) (λ e. e) (λ j e. e) (λ j e. e) (λ j once k e. e)

  -- ---- a value in place of another

  refills_around : (h at : ℕ) (value : List ℕ) → RefillsIn z h at value b c → RefillsIn z h at value a d
  refills_around h at value s = let e = place_was z r inside a b up h in record {
    class = s.class;
    fits = s.fits;
    same = s.same ∙ ap class_in e;
    but = subst (λ (p : ℕ). KeepsBut z (IsRefilled h p) a d) e (around z r inside a b up c d down (IsRefilled h (place_in z h b)) (λ x. x) s.but);
    place = after (in_headers (at_place h)) (λ x. x) ∙ (s.place ∙ ap (λ (p : ℕ). place_word (class_in p) (block_in p) (length value)) e);
    stamp = after (in_headers (at_stamp h)) (λ x. x) ∙ s.stamp;
  }

  exchanges_around : (h at : ℕ) (value : List ℕ) → ExchangesIn z h at value b c → ExchangesIn z h at value a d
  exchanges_around h at value s = let e = place_was z r inside a b up h in let n : ℕ = class_number s.class in let j : ℕ = s.block / 64 in record {
    class = s.class;
    fits = s.fits;
    other = λ x. s.other (x ∙ ap class_in (sym e));
    block = s.block;
    clear = clear_was z r inside a b up (class_number s.class) s.block s.clear;
    but = subst (λ (p : ℕ). KeepsBut z (λ q. IsOfBlock s.class s.block q ⊎ IsSwapped h p q) a d) e (around z r inside a b up c d down (λ q. IsOfBlock s.class s.block q ⊎ IsSwapped h (place_in z h b) q) (λ x. ⊎_elim (λ y. y) (λ y. y) x) s.but);
    place = after (in_headers (at_place h)) (λ x. x) ∙ s.place;
    stamp = after (in_headers (at_stamp h)) (λ x. x) ∙ s.stamp;
    taken = bits_after n j ∙ (s.taken ∙ ap (λ (k : ℕ). bit_or k (bit_of s.block)) (bits_before n j));
    given = bit_around z r inside a b up c d down (class_in (place_in z h a)) (block_in (place_in z h a)) (subst (λ (p : ℕ). ClearsBlockIn z (class_in p) (block_in p) b c) e s.given);
  }

  over_around : (h at : ℕ) (value : List ℕ) → OverIn z h at value b c → OverIn z h at value a d
  over_around h at value s = ⊎_elim (λ (f : RefillsIn z h at value b c). inl (refills_around h at value f)) (λ (f : ExchangesIn z h at value b c). inr (exchanges_around h at value f)) s

  -- ---- a value of a key that was absent

  had_around : (i : EntryNo) (h : ℕ) (e : Class) (n : ℕ) (key : List ℕ) → HadEntryIn z r i h e n key b c → HadEntryIn z r i h e n key a d
  had_around i h e n key s = record {
    had = key_before z r a b (keys_were z r inside a b up) i key s.had;
    floor = ap names_header (sym (before (in_rooms (at_value r i.0)) (λ x. x))) ∙ s.floor;
    but = around z r inside a b up c d down (IsNewValue r i.0 h e n) (λ x. x) s.but;
    bits = λ k j. bits_after k j ∙ (s.bits k j ∙ ap (with_bit e n k j) (bits_before k j));
  }

  got_around : (i : EntryNo) (h : ℕ) (e : Class) (n : ℕ) (key : List ℕ) → GotEntryIn z r i h e n key b c → GotEntryIn z r i h e n key a d
  got_around i h e n key s = record {
    class = s.class;
    fits = s.fits;
    block = s.block;
    clear = clear_was z r inside a b up (class_number s.class) s.block s.clear;
    missing = missing_was z r inside a b up key s.missing;
    next = s.next ∙ (keys_were z r inside a b up).count;
    room = s.room;
    count = after (in_rooms (at_count r)) (λ x. x) ∙ (s.count ∙ ap (λ (k : ℕ). k + 1) (before (in_rooms (at_count r)) (λ x. x)));
    from = s.from;
    but = around z r inside a b up c d down (λ p. IsNewValue r i.0 h e n p ⊎ IsNewEntry r i.0 s.from s.class s.block p) (λ x. ⊎_elim (λ y. y) (λ y. y) x) s.but;
    bits = λ k j. bits_after k j ∙ (s.bits k j ∙ ap (λ (m : ℕ). with_bit s.class s.block k j (with_bit e n k j m)) (bits_before k j));
  }

  inserts_around : (key value : List ℕ) → InsertsKey z r key value b c → InsertsKey z r key value a d
  inserts_around key value s = record {
    i = s.i;
    h = s.h;
    g = s.g;
    class = s.class;
    block = s.block;
    fits = s.fits;
    clear = clear_was z r inside a b up (class_number s.class) s.block s.clear;
    free = free_was z r inside a b up s.h s.free;
    pin = after (in_headers (at_pin s.h)) (λ x. x) ∙ (s.pin ∙ ap (λ (k : ℕ). k + 2 * STATE) (header_was z r inside a b up s.h));
    covers = subst (CoversKey key) (span_was z r inside a b up) s.covers;
    names = after (in_rooms (at_value r s.i.0)) (λ x. x) ∙ s.names;
    has = key_still z r c d keys_after s.i key s.has;
    entry = ⊎_elim (λ (f : HadEntryIn z r s.i s.h s.class s.block key b c). inl (had_around s.i s.h s.class s.block key f)) (λ (f : GotEntryIn z r s.i s.h s.class s.block key b c). inr (got_around s.i s.h s.class s.block key f)) s.entry;
  }

  puts_around : (x : Wrote) (key value : List ℕ) → PutLeavesUnder x z r key value b c → PutLeavesUnder x z r key value a d
  puts_around (New at) key value s = inserts_around key value s
  puts_around (Over at) key value s = record { i = s.i; h = s.h; g = s.g; names = names_were z r inside a b up s.i s.h s.g key s.names; over = over_around s.h at value s.over }
  puts_around (Kept at) key value s = undone z r inside a b d (λ n. state_of n ≡ OPEN) (λ n. 0 < count_of n) up (subst (λ (ws : List ℕ). DropsRoomPin z r ws d) s down)
  puts_around (Done at) key value s = record { i = s.i; h = s.h; g = s.g; names = names_were z r inside a b up s.i s.h s.g key s.names; rewrites = rewrites_around z r inside a b up c d down s.h at s.rewrites }
  puts_around (Removed at) key value s = absurd s
  puts_around (Absent at) key value s = absurd s
  puts_around (Full lack) key value s = absurd s

pub pinned_put_leaves : (z : Sizes) (r : ℕ) (key value : List ℕ) (v u w x : PassState) → r < z.chunks → Runs (AddsRoomPin z r) v u → Runs (DropsRoomPin z r) w x → (y : Wrote) → Runs (PutLeavesUnder y z r key value) u w → Runs (PutLeavesBy y z key value) v x
pinned_put_leaves z r key value v u w x inside up down y s = let U : List ℕ → List ℕ → Type 0 = AddsRoomPin z r in let D : List ℕ → List ℕ → Type 0 = DropsRoomPin z r in let P : List ℕ → List ℕ → Type 0 = PutLeavesUnder y z r key value in
    runs_as (Then U (Then P D)) (PutLeavesBy y z key value) v x
    (λ a d t. (r, (inside, t.1.0), puts_around z r inside a t.0 t.1 t.2.0 d t.2.2 y key value t.2.1))
    (runs_then U (Then P D) v u x up (runs_then P D u w x s down))
