-- The map and the table that a pass printed and closed fit its histories.
use Rattle.std.proofs.Common.{◌≡◌, ℕ, suc, zero, ◌+◌, ◌<◌, ◌≤◌, Bool, cond, List, [], ◌∷◌, length, None, refl, sym, ap, ◌∙◌, subst, arith, inl, inr, eq-eqb}
use Rattle.std.specs.Prelude.{slice_index}
use Rattle.std.specs.List.{AllByRecursion}
use Rattle.std.proofs.lemmas.Bool.{cases_Bool}
use Rattle.std.proofs.lemmas.List.{take_all}
use Rattle.pin_word.specs.PinWord.{state_of}
use Rattle.oak_model.specs.declared.classes.Class.{Class}
use Rattle.oak_model.specs.declared.classes.Class.TheVariants.{B16, B64, B256, B1024}
use Rattle.oak_model.specs.declared.replies.Pair.{Pair}
use Rattle.oak_model.specs.Class.{blocks_of, class_number}
use Rattle.oak_model.specs.Counts.{below, one_if, rows}
use Rattle.oak_model.specs.History.{last_state, place_of, state_at}
use Rattle.oak_model.specs.Key.{is_key}
use Rattle.oak_model.specs.KeyNumber.{key_number}
use Rattle.oak_model.specs.Limits.{Sizes}
use Rattle.oak_model.specs.Scan.{IsRising, ScanFits, value_in}
use Rattle.oak_model.proofs.Counting.{below_at, one_if_le}
use Rattle.chunk_core.specs.declared.holds.RoomHolds.{RoomHolds}
use Rattle.chunk_core.specs.declared.states.TheConstants.{OPEN}
use Rattle.oak_core.specs.declared.closing.Closed.{Closed}
use Rattle.oak_core.specs.declared.states.KeyedWrite.{KeyedWrite}
use Rattle.oak_core.specs.declared.states.PassState.{PassState}
use Rattle.oak_core.specs.AloneWords.{Moment}
use Rattle.oak_core.specs.Closing.{closed_history, closed_key, closed_map, closed_state, closed_words}
use Rattle.oak_core.specs.KeyHistories.{state_behind, writes_of}
use Rattle.oak_core.specs.KnownPlaces.{Remembers}
use Rattle.oak_core.specs.Memory.{memory}
use Rattle.oak_core.specs.PassState.{Extends, HoldsNothing, IsAlone, seen_of}
use Rattle.oak_core.specs.Splitting.{Ends}
use Rattle.oak_core.specs.Usage.{is_open, usage_of, used_blocks, used_chunks, used_headers}
use Rattle.oak_core.proofs.calls.ClosedReads.{closed_is, closed_none}
use Rattle.oak_core.proofs.known.KnownHere.{places_at_end}
use Rattle.lone_counts.specs.LoneTable.{LoneTable, retired_in}
use Rattle.lone_counts.specs.Maps.{IsMapOf, last_states}
use Rattle.lone_counts.proofs.MapChanges.{map_agrees, rising_map}
use Rattle.lone_counts.proofs.TableCounts.{blocks_fit, headers_exactly}
use Rattle.chunk_ops.specs.LoneRooms.{HasNoRoom}
use Rattle.rebalance.proofs.LoneChunks.{lone_divides}
use Rattle.scan_cursor.specs.declared.ways.Way.TheVariants.{Up}
use Rattle.scan_cursor.specs.Fitting.{GoOnFrom, places_at, seen_length}
use Rattle.scan_cursor.specs.Scanned.{HasScanned}
use Rattle.scan_cursor.specs.Views.{View}
use Rattle.scan_cursor.proofs.FitLaws.{closed_goes_on, scan_fits}
use Rattle.oak_map.specs.Closings.{UsesJustMap}
use Rattle.oak_run.specs.ClosedRuns.{closing_of}
use Rattle.oak_run.specs.Ending.{EndFits, MapFits, UsageFits}
use Rattle.oak_run.proofs.BehindLaws.{seen_more}

writes_length : (l : List KeyedWrite) → length (writes_of l) ≡ length l
writes_length [] = refl
writes_length (x ∷ xs) = ap suc (writes_length xs)

-- no more than all rooms are open, and at least one is
ones_few : (f : ℕ → Bool) (n : ℕ) → below (λ i. one_if (f i)) n ≤ n
unfolding below
ones_few f zero = omega arith
ones_few f (suc n) = let t = ones_few f n in let o = one_if_le (f n) in omega arith

-- each class has its place in the row
row_of : (z : Sizes) (words : List ℕ) (k : Class) → slice_index (usage_of z (memory z words)).blocks (class_number k) ≡ used_blocks z (memory z words) (class_number k)
unfolding rows
row_of z words B16 = refl
row_of z words B64 = refl
row_of z words B256 = refl
row_of z words B1024 = refl

-- what the closed map holds is what its last pass has seen
closed_states : (c : Closed) (q : List ℕ) → closed_map c q ≡ last_states (closed_state c) q
closed_states c q = elim (cases_Bool (is_key q)) [
  | inl e ↦ ap (λ (t : Bool). last_state (cond t (writes_of (seen_of (key_number q) (closed_state c).knowledge)) [])) e ∙ sym (ap (λ (t : Bool). cond t (state_behind (seen_of (key_number q) (closed_state c).knowledge)) None) e)
  | inr e ↦ ap (λ (t : Bool). last_state (cond t (writes_of (seen_of (key_number q) (closed_state c).knowledge)) [])) e ∙ sym (ap (λ (t : Bool). cond t (state_behind (seen_of (key_number q) (closed_state c).knowledge)) None) e)
]

module _ (c : Closed) (ends : Ends (closed_key c) (closed_words c) (closed_state c)) where
  abbrev z : Sizes
  z = closed_key c

  abbrev words : List ℕ
  words = closed_words c

  abbrev u : PassState
  u = closed_state c

  length_is : (q : List ℕ) → length (closed_history c q) ≡ seen_length u q
  length_is q = elim (cases_Bool (is_key q)) [
    | inl e ↦ ap length (closed_is c q e) ∙ (writes_length (seen_of (key_number q) u.knowledge) ∙ sym (ap (λ (b : Bool). cond b (length (seen_of (key_number q) u.knowledge)) 0) e))
    | inr e ↦ ap length (closed_none c q e) ∙ sym (ap (λ (b : Bool). cond b (length (seen_of (key_number q) u.knowledge)) 0) e)
  ]

  -- a scan from where all had been seen fits
  module _ (before now : View) (finals : List Pair) (scan : HasScanned Up None None before now finals) (since : Extends now.state u) (remembers : Remembers now.state.knowledge u.knowledge) (same : (k : ℕ) → seen_of k before.state.knowledge ≡ seen_of k u.knowledge) where
    on : GoOnFrom now.state (closed_history c)
    on = closed_goes_on c now.state (places_at_end z words u ends) since remembers

    fits : ScanFits (closed_history c) (seen_length before.state) (seen_length now.state) None None finals (places_at (closed_history c) scan.scanned.ats)
    fits = scan_fits (closed_history c) Up None None before now finals tt tt scan on

    placed : (q : List ℕ) → places_at (closed_history c) scan.scanned.ats q ≡ length (closed_history c q)
    placed q = let from = fits.from q refl in let to = fits.to q refl in
        let first : seen_length before.state q ≡ seen_length u q = ap (λ (l : List KeyedWrite). cond (is_key q) (length l) 0) (same (key_number q)) in
        let last = seen_more now.state u q since in
        let whole = length_is q in omega arith

    states : (q : List ℕ) → value_in finals q ≡ closed_map c q
    states q = fits.reads q ∙ (ap (state_at (closed_history c q)) (placed q) ∙ ap last_state (take_all (length (closed_history c q)) (closed_history c q) (omega arith)))

    ordered : IsRising finals
    ordered = scan.ordered

    last_places : (ps : List Pair) → AllByRecursion (λ (p : Pair). place_of (closed_history c p.key) p.at ≡ places_at (closed_history c) scan.scanned.ats p.key) ps → AllByRecursion (λ (p : Pair). place_of (closed_history c p.key) p.at ≡ length (closed_history c p.key)) ps
    last_places [] each = tt
    last_places (p ∷ ps) each = (each.0 ∙ placed p.key, last_places ps each.1)

    pub map_fits : MapFits (closed_history c) finals
    map_fits = record { states = states; places = last_places finals fits.each; ordered = ordered }

    -- and so does the printed table
    module _ (alone : IsAlone u) (idle : HoldsNothing u) (uses : UsesJustMap c) where
      moment : Moment z words u
      moment = subst (λ (ws : List ℕ). Moment z ws u) ends.words_are (record { states = ends.table.states; rule = ends.rule; seat = ends.seat; here = ends.here })

      table : LoneTable z words u
      table = record { moment = moment; alone = alone; idle = idle }

      is_map : IsMapOf (closed_map c) finals
      is_map = rising_map (closed_map c) finals states ordered

      seen_map : IsMapOf (last_states u) finals
      seen_map = map_agrees (closed_map c) (last_states u) finals is_map (closed_states c)

      class_fits : (k : Class) → (slice_index (usage_of z (memory z words)).blocks (class_number k) ≡ blocks_of finals k) × (slice_index (usage_of z (memory z words)).blocks (class_number k) ≤ slice_index z.blocks (class_number k))
      class_fits k =
          let used : slice_index (usage_of z (memory z words)).blocks (class_number k) ≡ blocks_of finals k = row_of z words k ∙ uses.blocks finals k is_map in
          let few = blocks_fit z words u finals k table seen_map in (used, omega arith)

      headers_are : used_headers z (memory z words) ≡ length finals + retired_in z words
      headers_are = uses.headers finals is_map

      no_room : HasNoRoom u
      no_room = record { held = ap (λ (o : RoomHolds). o.held) idle.rooms; moving = ap (λ (o : RoomHolds). o.moving) idle.rooms }

      some_open : 0 < used_chunks z (memory z words)
      some_open =
          let o = (lone_divides z words u moment alone no_room).covered 0 in
          let r : ℕ = o.0 in
          let b = below_at (λ i. one_if (is_open ((memory z words).rooms.pin i))) z.chunks r o.1.inside in
          let one : one_if (is_open ((memory z words).rooms.pin r)) ≡ 1 = ap one_if (eq-eqb (state_of ((memory z words).rooms.pin r)) OPEN o.1.state) in omega arith

      pub usage_fits : UsageFits (closing_of c) finals
      usage_fits = record {
        blocks = (class_fits B16, (class_fits B64, (class_fits B256, (class_fits B1024, tt))));
        headers = headers_are;
        headers_limit = let f = (headers_exactly z words u finals table seen_map).fits in let e = headers_are in omega arith;
        chunks = refl;
        some_chunk = some_open;
        chunks_limit = ones_few (λ i. is_open ((memory z words).rooms.pin i)) z.chunks;
      }

      pub end_fits : EndFits (closing_of c) finals
      end_fits = record { final = map_fits; usage = usage_fits }
