-- To a pass that is alone: a call that writes a value pins a room first, and undoes the pin at the end; what it did to the other words it did to those before.
use Rattle.std.proofs.Common.{◌≡◌, ℕ, ◌+◌, ◌-◌, ◌/◌, ◌%◌, ◌<◌, List, length, set, refl, sym, ap, ◌∙◌, subst, arith, inl, inr, ⊎_elim, get_or-set_same, Result, Ok, Err}
use Rattle.std.specs.Int.{bit_at}
use Rattle.std.proofs.lemmas.List.{set_past}
use mathlib.Core.Logic.{dite}
use native.Mathlib.Decide.{dec_lt}
use Rattle.pin_word.specs.PinWord.{state_of}
use Rattle.oak_model.specs.Counts.{rows}
use Rattle.oak_model.specs.declared.classes.Class.{Class}
use Rattle.oak_model.specs.Class.{class_number}
use Rattle.oak_model.specs.Limits.{Sizes}
use Rattle.oak_model.proofs.RowLaws.{rows_same}
use Rattle.arena_core.specs.Arena.{at_bits, at_bytes}
use Rattle.arena_ops.specs.Looking.{IsSetIn}
use Rattle.chunk_core.specs.declared.layout.TheConstants.{BOUND_WORDS}
use Rattle.chunk_core.specs.Covers.{span_in}
use Rattle.chunk_core.specs.KeyWords.{high_number, low_number}
use Rattle.chunk_core.specs.Rooms.{RoomSpot, at_base, at_high, at_low, at_room_pin}
use Rattle.header_core.specs.Headers.{at_pin, at_place, at_stamp}
use Rattle.oak_core.specs.declared.states.PassState.{PassState}
use Rattle.oak_core.specs.AloneWords.{Runs}
use Rattle.oak_core.specs.Memory.{Spot, IsInside, at_given, in_arena, in_headers, in_rooms, index, memory, read}
use Rattle.oak_core.specs.Usage.{is_free}
use Rattle.oak_core.proofs.seats.AloneRuns.{Then, runs_as, runs_then}
use Rattle.oak_core.proofs.memory.Words.{memory_read}
use Rattle.chunk_ops.specs.AskedRanges.{CoversKey}
use Rattle.chunk_ops.specs.FindsAlone.{LacksKeyAt}
use Rattle.chunk_ops.specs.RoomPins.{AddsRoomPin, DropsRoomPin}
use Rattle.point_ops.specs.LoneInserts.{FitsValue, InsertHaltsIn, IsClearIn, IsFreeIn, IsSpare, KeepsBut, KeysStay, LacksKeyBlock, LacksRoom, SpareOnly}
use Rattle.point_ops.specs.LonePuts.{IsPut, KeepsRooms, LoneHalts, PutsIn, PutsUnder}
use Rattle.point_ops.specs.declared.halts.Halt.{Halt}
use Rattle.point_ops.specs.declared.halts.Halt.TheVariants.{Busy, Moved, Crowded, NoBlock, NoHeader}
use Rattle.point_ops.proofs.LoneKeys.{keys_stay, missing_before}
use Rattle.point_ops.proofs.LoneWords.{but_as, but_same, but_set}

-- the pin word of the room
abbrev pub IsPinOf : ℕ → Spot → Type 0
IsPinOf r (in_rooms (at_room_pin j)) = j ≡ r
IsPinOf _ _ = ⊥

module _ (z : Sizes) (r : ℕ) (inside : r < z.chunks) (a b : List ℕ) (up : AddsRoomPin z r a b) where
  abbrev q : Spot
  q = in_rooms (at_room_pin r)

  there : IsInside z (in_rooms (at_room_pin r))
  there = (inside, omega arith)

  pub pinned : KeepsBut z (IsPinOf r) a b
  pinned = subst (KeepsBut z (IsPinOf r) a) (sym up.1) (but_set z (IsPinOf r) a q ((memory z a).rooms.pin r + 1) there refl)

  -- ---- what stands with the pin stood before it

  bits_were : (d j : ℕ) → (memory z b).arena.bits d j ≡ (memory z a).arena.bits d j
  bits_were d j = but_same z (IsPinOf r) a b pinned (in_arena (at_bits d j)) (λ e. e)

  pub header_was : (h : ℕ) → (memory z b).headers.pin h ≡ (memory z a).headers.pin h
  header_was h = but_same z (IsPinOf r) a b pinned (in_headers (at_pin h)) (λ e. e)

  pub clear_was : (d e : ℕ) → IsClearIn z d e b → IsClearIn z d e a
  clear_was d e s = ap (λ (n : ℕ). bit_at n (e % 64)) (sym (bits_were d (e / 64))) ∙ s

  set_was : (c : Class) (e : ℕ) → IsSetIn z c e b → IsSetIn z c e a
  set_was c e s = ap (λ (n : ℕ). bit_at n (e % 64)) (sym (bits_were (class_number c) (e / 64))) ∙ s

  pub free_was : (h : ℕ) → IsFreeIn z h b → IsFreeIn z h a
  free_was h s = ap is_free (sym (header_was h)) ∙ s

  spare_was : (p : Spot) → IsSpare z b p → IsSpare z a p
  spare_was (in_arena (at_bytes d e k)) s = clear_was d e s
  spare_was (in_arena (at_bits d j)) s = absurd s
  spare_was (in_headers (at_pin h)) s = absurd s
  spare_was (in_headers (at_place h)) s = free_was h s
  spare_was (in_headers (at_stamp h)) s = free_was h s
  spare_was (in_rooms p) s = absurd s
  spare_was at_given s = absurd s

  pub keys_were : KeysStay z r a b
  keys_were = keys_stay z r (IsPinOf r) a b pinned (λ e. e) (λ e. e) (λ i e. e) (λ i e. e) (λ i once k e. e)

  pub missing_was : (key : List ℕ) → LacksKeyAt (memory z b) r key → LacksKeyAt (memory z a) r key
  missing_was key none = missing_before z r a b keys_were key none

  pub span_was : span_in (memory z b).rooms r ≡ span_in (memory z a).rooms r
  span_was = let low : rows 0 BOUND_WORDS ((memory z b).rooms.low r) ≡ rows 0 BOUND_WORDS ((memory z a).rooms.low r) = rows_same 0 BOUND_WORDS ((memory z b).rooms.low r) ((memory z a).rooms.low r) (λ j _ _. but_same z (IsPinOf r) a b pinned (in_rooms (at_low r j)) (λ e. e)) in
      let high : rows 0 BOUND_WORDS ((memory z b).rooms.high r) ≡ rows 0 BOUND_WORDS ((memory z a).rooms.high r) = rows_same 0 BOUND_WORDS ((memory z b).rooms.high r) ((memory z a).rooms.high r) (λ j _ _. but_same z (IsPinOf r) a b pinned (in_rooms (at_high r j)) (λ e. e)) in
      let base : (memory z b).rooms.base r ≡ (memory z a).rooms.base r = but_same z (IsPinOf r) a b pinned (in_rooms (at_base r)) (λ e. e) in
      λ i. record { low = low_number (low i); high = high_number (high i); base = base i }

  abbrev fits_was : (n : ℕ) → FitsValue z n b → FitsValue z n a
  fits_was n f = record { header = f.header; there = f.there; free = free_was f.header f.free; class = f.class; class_is = f.class_is; block = f.block; inside = f.inside; clear = clear_was (class_number f.class) f.block f.clear }

  room_was : (key value : List ℕ) → LacksRoom z r key value b → LacksRoom z r key value a
  room_was key value l = record {
    full = sym keys_were.count ∙ l.full;
    covers = subst (CoversKey key) span_was l.covers;
    missing = missing_was key l.missing;
    fits = fits_was (length value) l.fits;
    class = l.class;
    class_is = l.class_is;
    block = l.block;
    inside = l.inside;
    clear = clear_was (class_number l.class) l.block l.clear;
    apart = l.apart;
  }

  key_was : (key value : List ℕ) (c : Class) → LacksKeyBlock z r key value c b → LacksKeyBlock z r key value c a
  key_was key value c l = record { class_is = l.class_is; covers = subst (CoversKey key) span_was l.covers; missing = missing_was key l.missing; fits = fits_was (length value) l.fits; others = λ j lt apart. set_was c j (l.others j lt apart) }

  -- ---- the pin is undone

  module _ (c d : List ℕ) (down : DropsRoomPin z r c d) where
    pub unpinned : KeepsBut z (IsPinOf r) c d
    unpinned = subst (KeepsBut z (IsPinOf r) c) (sym down.1) (but_set z (IsPinOf r) c q ((memory z c).rooms.pin r - 1) there refl)

    pin_back : length c ≡ length b → (memory z c).rooms.pin r ≡ (memory z b).rooms.pin r → (memory z d).rooms.pin r ≡ (memory z a).rooms.pin r
    pin_back long same = let n : ℕ = (memory z a).rooms.pin r in let m : ℕ = (memory z c).rooms.pin r in let k : ℕ = index z q in let size : length b ≡ length a = pinned.size in dite (dec_lt k (length a))
        (λ l. let more : (memory z b).rooms.pin r ≡ n + 1 = ap (λ (ws : List ℕ). (memory z ws).rooms.pin r) up.1 ∙ (memory_read z (set a k (n + 1)) q there ∙ get_or-set_same a k (n + 1) 0 l) in
        let less : (memory z d).rooms.pin r ≡ m - 1 = ap (λ (ws : List ℕ). (memory z ws).rooms.pin r) down.1 ∙ (memory_read z (set c k (m - 1)) q there ∙ get_or-set_same c k (m - 1) 0 (omega arith)) in
        let x : m ≡ n + 1 = same ∙ more in let y : m - 1 ≡ n = omega arith in less ∙ y)
        (λ past. let b_is : b ≡ a = up.1 ∙ set_past a k (n + 1) (omega arith) in let d_is : d ≡ c = down.1 ∙ set_past c k (m - 1) (omega arith) in
        ap (λ (ws : List ℕ). (memory z ws).rooms.pin r) d_is ∙ (same ∙ ap (λ (ws : List ℕ). (memory z ws).rooms.pin r) b_is))

    pub around : (P : Spot → Type 0) → (P (in_rooms (at_room_pin r)) → ⊥) → KeepsBut z P b c → KeepsBut z P a d
    around P out k = record {
      size = unpinned.size ∙ (k.size ∙ pinned.size);
      same = λ p. ⊎_elim (λ (i : IsPinOf r p). inr (here p i))
          (λ (e : read (memory z b) p ≡ read (memory z a) p). ⊎_elim (λ (i : P p). inl i)
          (λ (f : read (memory z c) p ≡ read (memory z b) p). ⊎_elim (λ (i : IsPinOf r p). inr (here p i)) (λ (g : read (memory z d) p ≡ read (memory z c) p). inr (g ∙ (f ∙ e))) (unpinned.same p)) (k.same p)) (pinned.same p);
    }
      where
        here : (p : Spot) → IsPinOf r p → read (memory z d) p ≡ read (memory z a) p
        here (in_rooms (at_room_pin j)) e = subst (λ (i : ℕ). (memory z d).rooms.pin i ≡ (memory z a).rooms.pin i) (sym e) (pin_back k.size (but_same z P b c k (in_rooms (at_room_pin r)) out))
        here (in_rooms (Rattle.chunk_core.specs.Rooms.at_base j)) e = absurd e
        here (in_rooms (Rattle.chunk_core.specs.Rooms.at_count j)) e = absurd e
        here (in_rooms (Rattle.chunk_core.specs.Rooms.at_latch j)) e = absurd e
        here (in_rooms (Rattle.chunk_core.specs.Rooms.at_first j)) e = absurd e
        here (in_rooms (Rattle.chunk_core.specs.Rooms.at_low j i)) e = absurd e
        here (in_rooms (Rattle.chunk_core.specs.Rooms.at_high j i)) e = absurd e
        here (in_rooms (Rattle.chunk_core.specs.Rooms.at_key j i)) e = absurd e
        here (in_rooms (Rattle.chunk_core.specs.Rooms.at_value j i)) e = absurd e
        here (in_rooms (Rattle.chunk_core.specs.Rooms.at_next j i)) e = absurd e
        here (in_arena p) e = absurd e
        here (in_headers p) e = absurd e
        here at_given e = absurd e

    keeps_around : KeepsRooms z b c → KeepsRooms z a d
    keeps_around k = record {
      but = around IsPut (λ e. e) k.but;
      pins = λ h. let e = but_same z (IsPinOf r) c d unpinned (in_headers (at_pin h)) (λ x. x) in
          ⊎_elim (λ (f : (memory z c).headers.pin h ≡ (memory z b).headers.pin h). inl (e ∙ (f ∙ header_was h))) (λ t. inr (free_was h t.0, ap state_of e ∙ t.1)) (k.pins h);
    }

    spare_around : SpareOnly z b c → SpareOnly z a d
    spare_around k = but_as z (IsSpare z b) (IsSpare z a) a d spare_was (around (IsSpare z b) (λ e. e) k)

    halts_around : (key value : List ℕ) (why : Halt) → InsertHaltsIn why z r key value b c → InsertHaltsIn why z r key value a d
    halts_around key value Busy s = absurd s
    halts_around key value Moved s = absurd s
    halts_around key value Crowded s = (spare_around s.0, room_was key value s.1)
    halts_around key value (NoBlock e) s = (spare_around s.0, ⊎_elim (λ t. inl (t.0, λ j lt. set_was e j (t.1 j lt))) (λ (t : LacksKeyBlock z r key value e b). inr (key_was key value e t)) s.1)
    halts_around key value NoHeader s = (spare_around s.0, (λ h lt. ap is_free (sym (header_was h)) ∙ s.1 h lt), (s.2.0, s.2.1, (s.2.2.0, s.2.2.1, clear_was (class_number s.2.0) s.2.2.0 s.2.2.2)))

pub pinned_puts : {A : Type 0} (z : Sizes) (r : ℕ) (key value : List ℕ) (v u w x : PassState) → r < z.chunks → Runs (AddsRoomPin z r) v u → Runs (DropsRoomPin z r) w x → (y : Result A Halt) → Runs (PutsUnder y z r key value) u w → Runs (PutsIn y z key value) v x
pinned_puts z r key value v u w x inside up down (Ok y) s = let U : List ℕ → List ℕ → Type 0 = AddsRoomPin z r in let D : List ℕ → List ℕ → Type 0 = DropsRoomPin z r in let K : List ℕ → List ℕ → Type 0 = KeepsRooms z in
    runs_as (Then U (Then K D)) K v x (λ a d t. keeps_around z r inside a t.0 t.1 t.2.0 d t.2.2 t.2.1) (runs_then U (Then K D) v u x up (runs_then K D u w x s down))
pinned_puts z r key value v u w x inside up down (Err why) s = let U : List ℕ → List ℕ → Type 0 = AddsRoomPin z r in let D : List ℕ → List ℕ → Type 0 = DropsRoomPin z r in let H : List ℕ → List ℕ → Type 0 = InsertHaltsIn why z r key value in
    runs_as (Then U (Then H D)) (LoneHalts why z key value) v x (λ a d t. (r, (inside, t.1.0), halts_around z r inside a t.0 t.1 t.2.0 d t.2.2 key value why t.2.1)) (runs_then U (Then H D) v u x up (runs_then H D u w x s down))
