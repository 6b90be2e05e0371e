-- At the start room 0 alone is a cover, of all keys, and no pass has anything of rooms.
use Rattle.std.proofs.Common.{◌≡◌, ◌≢◌, ℕ, ◌+◌, ◌-◌, ◌*◌, ◌<◌, ◌≤◌, ◌⊎◌, ◌==◌, cond, List, [], ◌∷◌, map, sym, refl, ap, ◌∙◌, subst, arith, ⊎_elim}
use Rattle.std.specs.Prelude.{take, drop, slice_index}
use mathlib.Core.Logic.{dite}
use native.Mathlib.Decide.{ℕ_discrete}
use Rattle.pin_word.specs.PinWord.{packed, state_of, count_of, generation_of}
use Rattle.pin_word.proofs.Laws.{count_of-packed, state_of-packed, generation_of-packed}
use Rattle.oak_model.specs.Counts.{Each, one_at, total, rows}
use Rattle.oak_model.specs.KeyNumber.{key_number, digits_number}
use Rattle.oak_model.specs.Limits.{Sizes}
use Rattle.oak_model.specs.WordBytes.{bytes_of}
use Rattle.oak_model.proofs.Lists.{every_one, rows_at}
use Rattle.oak_model.proofs.SumLaws.{below_set, times-one, times-none}
use Rattle.chunk_core.specs.declared.holds.RoomHolds.{RoomHolds}
use Rattle.chunk_core.specs.declared.layout.TheConstants.{BOUND_WORDS}
use Rattle.chunk_core.specs.declared.states.TheConstants.{OPEN, FROZEN, HELD}
use Rattle.chunk_core.specs.CoverRule.{CoversPartition}
use Rattle.chunk_core.specs.CoverSums.{covers, weight, each, is_in, keyless, owning, owners_in_rooms, all_of}
use Rattle.chunk_core.specs.Covers.{Entry, Cover, cover_at, used_at, span_in, entry_at, key_at, moving_of}
use Rattle.chunk_core.specs.KeyWords.{least_number, low_number, high_number}
use Rattle.chunk_core.specs.LinkedEntries.{chain, entries_in, farthest, prefix_in, first_numbers, linked, Rises}
use Rattle.chunk_core.specs.PinnedRooms.{OnRoomPin, IsGoodRoom, RoomPinHolds}
use Rattle.chunk_core.specs.RoomHolds.{no_rooms}
use Rattle.chunk_core.specs.RoomRule.{AreTrueRanges, ClaimStands, OnClaim, RoomHoldsStand, IsInOrder, RoomsStand}
use Rattle.chunk_core.specs.Rooms.{RoomMemory, RoomSpot, at_room_pin, at_base, at_count, at_latch, at_first, at_low, at_high, at_key, at_value, read_room, kind_at, room_at}
use Rattle.chunk_core.specs.Spans.{Span, past, past_high, within}
use Rattle.chunk_core.specs.ValueWord.{names_header}
use Rattle.chunk_core.proofs.CoverLaws.{covers_parts}
use Rattle.chunk_core.proofs.SpanLaws.{past-cases, high-none}
use Rattle.chunk_core.proofs.Weights.{weight_open, open_none}
use Rattle.oak_core.proofs.owners.EntryBlocks.{no_weight}
use Rattle.oak_core.proofs.owners.OwnerLaws.{below_zero}
use Rattle.chunk_core.proofs.Chains.{chain-none}

low_zero : (ws : List ℕ) → slice_index ws 0 ≡ 0 → low_number ws ≡ 0
unfolding low_number key_number digits_number
low_zero ws e = ap (λ (n : ℕ). key_number (take n (bytes_of (drop 1 ws)))) e

pub high_zero : (ws : List ℕ) → slice_index ws 0 ≡ 0 → high_number ws ≡ 0
unfolding high_number
high_zero ws e = ap (λ (n : ℕ). cond (n == 0) 0 (key_number (take (slice_index ws 0 - 1) (bytes_of (drop 1 ws))) + 1)) e

pub no_entries : entries_in 0 ≡ 0
unfolding entries_in
no_entries = refl

pub no_prefix : prefix_in 0 ≡ 0
unfolding prefix_in
no_prefix = refl

no_header : names_header 0 ≡ 0
unfolding names_header one_at
no_header = refl

zero_word : (count_of 0 ≡ 0) × (state_of 0 ≡ 0) × (generation_of 0 ≡ 0)
unfolding count_of state_of generation_of
zero_word = (refl, refl, refl)

free_state : (s : ℕ) → (s ≡ FROZEN) ⊎ (s ≡ HELD) → one_at (state_of 0) s ≡ 0
unfolding one_at
free_state s is = let e = zero_word.1 in ⊎_elim (λ (q : s ≡ FROZEN). (λ i. one_at (e i) (q i))) (λ (q : s ≡ HELD). (λ i. one_at (e i) (q i))) is

no_sum : (f : RoomHolds → ℕ) → f no_rooms ≡ 0 → total f (no_rooms ∷ []) ≡ 0
unfolding total
no_sum f e = omega arith

module _ (z : Sizes) (m : RoomMemory) (content : ℕ → List ℕ) (some_room : 0 < z.chunks) (open_room : m.pin 0 ≡ packed 0 OPEN 0) (others : (p : RoomSpot) → p ≢ at_room_pin 0 → read_room m p ≡ 0) where
  abbrev hs : List RoomHolds
  hs = no_rooms ∷ []

  behind : (p : RoomSpot) → 0 < kind_at p → read_room m p ≡ 0
  behind p l = others p (λ e. absurd (let k = ap kind_at e in omega arith))

  pin_else : (r : ℕ) → r ≢ 0 → m.pin r ≡ 0
  pin_else r ne = others (at_room_pin r) (λ e. ne (ap room_at e))

  -- a pin word is that of an open room, or 0
  by_pin : (P : ℕ → Type 0) → P (packed 0 OPEN 0) → P 0 → (r : ℕ) → P (m.pin r)
  by_pin P at_open at_free r = dite (ℕ_discrete r 0) (λ e. subst P (sym (ap m.pin e ∙ open_room)) at_open) (λ ne. subst P (sym (pin_else r ne)) at_free)

  is_open : state_of (packed 0 OPEN 0) ≡ OPEN
  is_open = state_of-packed 0 OPEN 0 (omega arith) (omega arith)

  -- what is added up over the covers is that of room 0
  one_cover : (cover : ℕ → Cover) (F : Cover → ℕ) → covers z.chunks m.pin cover (map moving_of hs) F ≡ F (cover 0)
  unfolding total
  one_cover cover F = let f = λ (r : ℕ). weight (m.pin r) * F (cover r) in let p = covers_parts z.chunks m.pin cover hs F in let n = below_zero (λ (r : ℕ). 0) z.chunks (λ r. refl) in
      let s = below_set f (λ (r : ℕ). 0) z.chunks 0 some_room (λ k ne. times-none (weight (m.pin k)) (F (cover k)) (ap weight (pin_else k ne) ∙ no_weight)) in
      let o = times-one (weight (m.pin 0)) (F (cover 0)) (ap weight open_room ∙ weight_open (packed 0 OPEN 0) is_open) in omega arith

  none_in_use : entries_in (m.count 0) ≡ 0
  none_in_use = ap entries_in (behind (at_count 0) (omega arith)) ∙ no_entries

  empty : (f : Entry → ℕ) → total f (map (entry_at m content 0) (first_numbers (entries_in (m.count 0)))) ≡ 0
  unfolding total first_numbers
  empty f = ap (λ (n : ℕ). total f (map (entry_at m content 0) (first_numbers n))) none_in_use

  -- nor is one linked
  no_links : (r : ℕ) → linked m r ≡ []
  no_links r = ap (chain farthest (m.next r)) (behind (at_first r) (omega arith)) ∙ chain-none farthest (m.next r)

  none_linked : (f : Entry → ℕ) → total f (map (entry_at m content 0) (linked m 0)) ≡ 0
  unfolding total
  none_linked f = ap (λ (l : List ℕ). total f (map (entry_at m content 0) l)) (no_links 0)

  -- room 0 has all keys
  low_is : low_number (rows 0 BOUND_WORDS (m.low 0)) ≡ 0
  low_is = low_zero (rows 0 BOUND_WORDS (m.low 0)) (rows_at 0 BOUND_WORDS 0 (m.low 0) 0 (omega arith) ∙ behind (at_low 0 0) (omega arith))

  high_is : high_number (rows 0 BOUND_WORDS (m.high 0)) ≡ 0
  high_is = high_zero (rows 0 BOUND_WORDS (m.high 0)) (rows_at 0 BOUND_WORDS 0 (m.high 0) 0 (omega arith) ∙ behind (at_high 0 0) (omega arith))

  all_keys : (k : ℕ) → within (span_in m 0) k ≡ 1
  all_keys k = (λ i. past (low_is i) k - past_high (high_is i) k) ∙ (let a = past-cases 0 k (λ (n : ℕ). n ≡ 1) (λ _. refl) (λ l. absurd (omega arith)) in let b = high-none k in omega arith)

  pub opening_covers : (is_key_word : ℕ → ℕ) → CoversPartition z m content is_key_word hs
  opening_covers is_key_word = record {
    covered = λ k. one_cover (cover_at m content) (is_in k) ∙ all_keys k;
    once = λ k. let e = one_cover (cover_at m content) (each (λ s x. one_at x.key k)) in let n = none_linked (λ (x : Entry). one_at x.key k) in omega arith;
    inside = one_cover (cover_at m content) (each (λ s x. 1 - within s x.key)) ∙ none_linked (λ (x : Entry). 1 - within (span_in m 0) x.key);
    placed = one_cover (cover_at m content) (each (λ s x. 1 - is_key_word x.word)) ∙ none_linked (λ (x : Entry). 1 - is_key_word x.word);
    begun = one_cover (cover_at m content) (λ c. 1 - within c.span c.span.low) ∙ (let e = all_keys (span_in m 0).low in omega arith);
    keyed = one_cover (cover_at m content) (λ c. keyless c.span) ∙ (ap (λ (n : ℕ). past_high n least_number) high_is ∙ high-none least_number);
    bases = one_cover (cover_at m content) (λ c. names_header c.span.base) ∙ (ap names_header (behind (at_base 0) (omega arith)) ∙ no_header);
  }

  -- nothing is added up over entries
  pub no_entry_sums : (f : Span → Entry → ℕ) → all_of z m content (no_rooms ∷ []) (each f) ≡ 0
  no_entry_sums f = one_cover (cover_at m content) (each f) ∙ none_linked (f (span_in m 0))

  -- and the base is not above any number
  pub no_base_sums : (n : ℕ) → all_of z m content (no_rooms ∷ []) (λ c. c.span.base - n) ≡ 0
  no_base_sums n = one_cover (cover_at m content) (λ c. c.span.base - n) ∙ (let b = behind (at_base 0) (omega arith) in omega arith)

  -- no entry owns a block
  pub no_owners : (names_it : ℕ → ℕ) → owners_in_rooms z m content hs names_it ≡ 0
  no_owners names_it = one_cover (used_at m content) (each (owning names_it)) ∙ empty (owning names_it (span_in m 0))

  in_order : (r : ℕ) → IsInOrder z content (m.count r) (m.key r) (m.value r) (linked m r) (m.low r 0) (m.high r 0)
  in_order r = let c = behind (at_count r) (omega arith) in let n : entries_in (m.count r) ≡ 0 = ap entries_in c ∙ no_entries in let p : prefix_in (m.count r) ≡ 0 = ap prefix_in c ∙ no_prefix in
      let l = behind (at_low r 0) (omega arith) in let h = behind (at_high r 0) (omega arith) in record {
        few = omega arith;
        prefix = omega arith;
        sorted = λ i j lt k. absurd (omega arith);
        used = subst (Each (λ i. i < entries_in (m.count r))) (sym (no_links r)) tt;
        rises = subst (Rises (λ i. key_at content (m.key r i))) (sym (no_links r)) tt;
        front = λ i lt. absurd (omega arith);
        zeros = λ i _ _. (behind (at_key r i) (omega arith), behind (at_value r i) (omega arith));
        bounds = record { low_fits = omega arith; high_fits = omega arith };
      }

  pub opening_rooms : RoomsStand z m content hs
  unfolding total
  opening_rooms = record {
    counted = by_pin (λ (w : ℕ). 0 ≡ count_of w) (sym (count_of-packed 0 OPEN 0 (omega arith) (omega arith))) (sym zero_word.0);
    held = λ r s is. by_pin (λ (w : ℕ). 0 ≡ one_at (state_of w) s) (sym (open_none (packed 0 OPEN 0) s is_open is)) (sym (free_state s is)) r;
    states = by_pin (λ (w : ℕ). state_of w ≤ HELD) (let e = is_open in omega arith) (let e = zero_word.1 in omega arith);
    generations = by_pin (λ (w : ℕ). generation_of w ≡ 0) (generation_of-packed 0 OPEN 0 (omega arith) (omega arith)) zero_word.2;
    latches = λ r. behind (at_latch r) (omega arith);
    ordered = λ r w. in_order r;
    either = λ r i w. let e = ap (total (λ j. one_at j i)) (no_links r) in omega arith;
    keyed = λ r i w l. absurd (let n = ap entries_in (behind (at_count r) (omega arith)) in let q = no_entries in omega arith);
    claimed = every_one (λ (a : RoomHolds). OnClaim (ClaimStands m content) a.claim) no_rooms tt;
    good = every_one (λ (a : RoomHolds). OnRoomPin (λ p. IsGoodRoom p → RoomPinHolds z m content p) a.pin) no_rooms tt;
    carried = every_one (λ (a : RoomHolds). AreTrueRanges content a.moving) no_rooms tt;
    passes = every_one (RoomHoldsStand z) no_rooms record { claim = tt; whole = tt };
  }
