-- A full room whose entries were stored into two, and that both are opened.
use Rattle.std.proofs.Common.{◌≡◌, ◌≢◌, ℕ, zero, suc, ◌+◌, ◌-◌, ◌/◌, ◌<◌, ◌≤◌, ⊎_elim, List, [], ◌∷◌, ◌++◌, length, map, take, drop, refl, sym, ap, ◌∙◌, subst, arith, Option, Some, append_assoc, length-take-le}
use Rattle.std.specs.List.{slice_index_or}
use Rattle.std.proofs.lemmas.List.{get_or-drop, get_or-take, length-drop, length-map, length-take}
use Rattle.oak_model.specs.Counts.{rows, total}
use Rattle.oak_model.specs.Limits.{Sizes}
use Rattle.oak_model.proofs.Counting.{one_at-other, one_at-same}
use Rattle.oak_model.proofs.Lists.{begins_length}
use Rattle.chunk_core.specs.declared.holds.EntryWords.{EntryWords}
use Rattle.chunk_core.specs.declared.holds.HeldRoom.{HeldRoom}
use Rattle.chunk_core.specs.declared.holds.MovingRange.{MovingRange}
use Rattle.chunk_core.specs.declared.holds.RoomCopy.{RoomCopy}
use Rattle.chunk_core.specs.declared.holds.RoomHolds.{RoomHolds}
use Rattle.chunk_core.specs.declared.layout.TheConstants.{BOUND_WORDS}
use Rattle.chunk_core.specs.declared.states.TheConstants.{HELD}
use Rattle.chunk_core.specs.KeyWords.{low_bytes, high_bytes, high_number, high_from}
use Rattle.chunk_core.specs.LinkedEntries.{entries_in}
use Rattle.chunk_core.specs.MayOnRooms.{MayOpenCopy, MayOpenRoom}
use Rattle.chunk_core.specs.MovingRanges.{ranges_left, ranges_opened}
use Rattle.chunk_core.specs.RoomCopies.{copy_of, entries_held, without_room}
use Rattle.chunk_core.specs.RoomReads.{copy_at}
use Rattle.chunk_core.specs.RoomRule.{in_room_state}
use Rattle.chunk_core.specs.RoomStep.{open_room}
use Rattle.chunk_core.specs.Rooms.{RoomMemory}
use Rattle.chunk_core.specs.ValueWord.{names_header}
use Rattle.chunk_core.proofs.HeldRooms.{room_rows, row_here}
use Rattle.chunk_core.proofs.SpanLaws.{high_from-is}
use Rattle.oak_core.specs.declared.sorting.SortSlot.{SortSlot}
use Rattle.oak_core.specs.declared.states.PassState.{PassState}
use Rattle.oak_core.specs.declared.states.Swept.{Swept}
use Rattle.oak_core.specs.Lack.{InSwept}
use Rattle.oak_core.specs.Step.{on_rooms}
use Rattle.oak_core.specs.Sweeping.{sweep, valueless}
use Rattle.oak_core.proofs.calls.CallSteps.{met_both, step_in, step_since}
use Rattle.rebalance.specs.declared.reading.Read.{Read}
use Rattle.rebalance.specs.Calls.{OpensWith, SweepsKey}
use Rattle.rebalance.specs.Chunks.{WorksBeside, held_row, keys_in}
use Rattle.rebalance.specs.Copies.{AllLinked, has_key_word, linked_held}
use Rattle.rebalance.specs.DroppedRange.{sum_of}
use Rattle.rebalance.specs.Filled.{slots_from}
use Rattle.rebalance.specs.Halving.{HasWhole, HoldsPair, IsHalved, OpensHalves, StoresHalves, swept_with}
use Rattle.rebalance.specs.HeldTables.{Apart, RowsStay, WorksOnRooms, no_slot}
use Rattle.rebalance.specs.Holding.{Opens}
use Rattle.rebalance.specs.LoneWords.{held_by}
use Rattle.rebalance.specs.Mirrors.{held_memory}
use Rattle.rebalance.specs.Slots.{entry_of, key_of}
use Rattle.rebalance.specs.Split.{Splits}
use Rattle.rebalance.proofs.ChunkLaws.{without_first, works_both, works_of_rooms, works_of_sweeps}
use Rattle.rebalance.proofs.FilledCopies.{filled_linked, filled_many, filled_prefix, filled_sum, length_total}
use Rattle.rebalance.proofs.FrontLaws.{in_swept, open_longer, opening_longer}
use Rattle.rebalance.proofs.HeldAlone.{copy_first}
use Rattle.rebalance.proofs.HeldPairs.{first_held, first_of_two, half_fewer, half_some, half_stored, pair_bounds, pair_free, pair_limit, pair_stands, whole_base, whole_few, whole_long, whole_slots}
use Rattle.rebalance.proofs.HeldRows.{rows_from}
use Rattle.rebalance.proofs.LoneHalves.{halves_run, pair_only}
use Rattle.rebalance.proofs.PassedOnes.{all_pass}
use Rattle.rebalance.proofs.SplitOpens.{both_opened, lower_high, lower_low, lower_opens, splits_front, swept_halves, upper_high, upper_low, upper_opens}
use Rattle.rebalance.proofs.SlotKeys.{slot_carried}
use Rattle.rebalance.proofs.SweptRooms.{none_lacks, sweep_is}

-- ---- sums over a part

total_front : {A : Type 0} (f : A → ℕ) (h : ℕ) (xs : List A) → total f (take h xs) ≤ total f xs
unfolding total
total_front f zero xs = omega arith
total_front f (suc h) [] = omega arith
total_front f (suc h) (x ∷ xs) = let t = total_front f h xs in omega arith

total_back : {A : Type 0} (f : A → ℕ) (h : ℕ) (xs : List A) → total f (drop h xs) ≤ total f xs
unfolding total
total_back f zero xs = omega arith
total_back f (suc h) [] = omega arith
total_back f (suc h) (x ∷ xs) = let t = total_back f h xs in omega arith

total_parts : {A : Type 0} (f : A → ℕ) (h : ℕ) (xs : List A) → total f (take h xs) + total f (drop h xs) ≡ total f xs
unfolding total
total_parts f zero xs = omega arith
total_parts f (suc h) [] = refl
total_parts f (suc h) (x ∷ xs) = let t = total_parts f h xs in omega arith

slots_sum : (f : ℕ → ℕ → ℕ) (xs : List SortSlot) → sum_of f (map entry_of xs) ≡ total (λ (s : SortSlot). f s.key s.value) xs
unfolding total
slots_sum f [] = refl
slots_sum f (x ∷ xs) = ap (λ (n : ℕ). f x.key x.value + n) (slots_sum f xs)

-- two rooms are two rows
two_apart : (r q : ℕ) (w c : RoomCopy) → r ≢ q → Apart (held_row q c ∷ held_row r w ∷ [])
unfolding total
two_apart r q w c ne = (let o = one_at-other r q ne in omega arith, (refl, tt))

-- ---- the halves are stored

module _ (z : Sizes) (call r q : ℕ) (w c : RoomCopy) (g : MovingRange) (v : PassState) (h : HoldsPair z r q w c g v) (slots : List SortSlot) (x : Read) (all : HasWhole z r slots x v) (u : PassState) (works : WorksOnRooms z call v u) (moving : u.rooms.moving ≡ v.rooms.moving)
    (splits : Splits z.entries r q (take (x.kept / 2) slots) (slots_from (x.kept / 2) (x.kept - x.kept / 2) slots) (key_of (slice_index_or slots (x.kept / 2) no_slot)) x.base (held_memory v.rooms.held) (held_memory u.rooms.held)) where
  abbrev m : RoomMemory
  m = held_memory v.rooms.held

  abbrev m' : RoomMemory
  m' = held_memory u.rooms.held

  abbrev xs : List SortSlot
  xs = take x.kept slots

  abbrev half : ℕ
  half = x.kept / 2

  abbrev low_copy : RoomCopy
  low_copy = copy_at z (held_memory u.rooms.held) r

  abbrev high_copy : RoomCopy
  high_copy = copy_at z (held_memory u.rooms.held) q

  parted : Splits z.entries r q (take half xs) (drop half xs) (key_of (slice_index_or slots half no_slot)) x.base m m'
  parted = splits_front z.entries r q slots half x.kept (key_of (slice_index_or slots half no_slot)) x.base m m' (let f = half_fewer z r q w c g v h slots x all in omega arith) splits

  some_high : half < length xs
  some_high = let l = whole_long z r q w c g v h slots x all in let f = half_fewer z r q w c g v h slots x all in omega arith

  front_long : length (take half xs) ≡ z.entries / 2
  front_long = let t = length-take-le half xs (let s = some_high in omega arith) in t ∙ ap (λ (n : ℕ). n / 2) all.full

  back_long : length (drop half xs) ≡ z.entries - z.entries / 2
  back_long = let l = length-drop half xs in let n = whole_long z r q w c g v h slots x all in l ∙ (ap (λ (k : ℕ). k - half) n ∙ ap (λ (k : ℕ). k - k / 2) all.full)

  front_few : length (take half xs) ≤ z.entries
  front_few = let l = front_long in omega arith

  back_few : length (drop half xs) ≤ z.entries
  back_few = let l = back_long in omega arith

  none_lack : sum_of (λ _ n. 1 - names_header n) (map entry_of xs) ≡ 0
  none_lack = let s = whole_slots z r q w c g v h slots x all in s.sums (λ _ n. 1 - names_header n) ∙ none_lacks g.carried s.valued

  low_valued : valueless low_copy ≡ 0
  low_valued = let f : ℕ → ℕ → ℕ = (λ _ n. 1 - names_header n) in let a = filled_sum z m' r (take half xs) x.base parted.low_filled front_few (pair_limit z r q w c g v h) f in let b = slots_sum f (take half xs) in let d = slots_sum f xs in
      let t = total_front (λ (s : SortSlot). 1 - names_header s.value) half xs in let n = none_lack in omega arith

  high_valued : valueless high_copy ≡ 0
  high_valued = let f : ℕ → ℕ → ℕ = (λ _ n. 1 - names_header n) in let a = filled_sum z m' q (drop half xs) x.base parted.high_filled back_few (pair_limit z r q w c g v h) f in let b = slots_sum f (drop half xs) in let d = slots_sum f xs in
      let t = total_back (λ (s : SortSlot). 1 - names_header s.value) half xs in let n = none_lack in omega arith

  -- each entry of the room was linked
  all_linked : linked_held w ≡ entries_held w
  all_linked = let s = whole_slots z r q w c g v h slots x all in let e = h.mirrors.entries (λ _ _. 1) in let t = s.sums (λ _ _. 1) in let n = length_total (linked_held w) in let k = length_total (map entry_of xs) in let l = length-map xs entry_of in
      let d = length-take (entries_in w.count) w.entries in let many = h.whole.entries in let full = all.full in let long = whole_long z r q w c g v h slots x all in all_pass has_key_word (entries_held w) (omega arith)

  -- so is each of both halves

  named : (i : ℕ) (d : SortSlot) → i < length xs → 0 < (slice_index_or xs i d).key
  named i d l = let t = slot_carried (keys_in v.rooms.moving) xs g (whole_slots z r q w c g v h slots x all) i d l in let k = t.3.named.some_word in let e = t.2 in omega arith

  low_linked : AllLinked low_copy
  low_linked = let few = some_high in let n = length-take-le half xs (let q : half ≤ length xs = omega arith in q) in filled_linked z m' r (take half xs) x.base parted.low_filled front_few (pair_limit z r q w c g v h)
      (λ i d l. subst (λ (s : SortSlot). 0 < s.key) (sym (get_or-take half xs i d (omega arith))) (named i d (omega arith)))

  high_linked : AllLinked high_copy
  high_linked = let n = length-drop half xs in filled_linked z m' q (drop half xs) x.base parted.high_filled back_few (pair_limit z r q w c g v h)
      (λ i d l. subst (λ (s : SortSlot). 0 < s.key) (sym (get_or-drop half xs i d)) (named (half + i) d (omega arith)))

  -- both halves have what the room had
  halves_sum : (f : ℕ → ℕ → ℕ) → total (λ (e : EntryWords). f e.word e.value) (entries_held low_copy) + total (λ (e : EntryWords). f e.word e.value) (entries_held high_copy) ≡ total (λ (e : EntryWords). f e.word e.value) (entries_held w)
  halves_sum f = let limit = pair_limit z r q w c g v h in let a = filled_sum z m' r (take half xs) x.base parted.low_filled front_few limit f in let b = filled_sum z m' q (drop half xs) x.base parted.high_filled back_few limit f in
      let d = slots_sum f (take half xs) in let e = slots_sum f (drop half xs) in let t = total_parts (λ (s : SortSlot). f s.key s.value) half xs in let k = slots_sum f xs in
      let has = whole_slots z r q w c g v h slots x all in let s = has.sums f in let y = h.mirrors.entries f in let n = ap (total (λ (e : EntryWords). f e.word e.value)) all_linked in omega arith

  base_same : x.base ≡ w.base
  base_same = whole_base z r q w c g v h slots x all ∙ sym h.mirrors.base

  -- the words are those of the halves
  now_halved : IsHalved z w low_copy high_copy
  now_halved = let limit = pair_limit z r q w c g v h in let stands = pair_stands z r q w c g v h in let keys = keys_in v.rooms.moving in let has = whole_slots z r q w c g v h slots x all in let bounds = pair_bounds z r q w c g v h in let free = pair_free z r q w c g v h in let few = whole_few z r q w c g v h slots x all in
      let some_low = half_some z r q w c g v h slots x all in let stored = half_stored z r q w c g v h slots x all no_slot in let base = whole_base z r q w c g v h slots x all in let k = key_of (slice_index_or slots half no_slot) in
      let ll = lower_low z limit m m' r q g stands keys xs has bounds free few half some_low some_high no_slot k stored x.base base parted in
      let lh = lower_high z limit m m' r q g stands keys xs has bounds free few half some_low some_high no_slot k stored x.base base parted in
      let ul = upper_low z limit m m' r q g stands keys xs has bounds free few half some_low some_high no_slot k stored x.base base parted in
      let uh = upper_high z limit m m' r q g stands keys xs has bounds free few half some_low some_high no_slot k stored x.base base parted in record {
        cut = ap high_number (lh ∙ sym (ap high_from ul)) ∙ high_from-is (rows 0 BOUND_WORDS (m'.low q));
        low = ll ∙ sym h.mirrors.low;
        high = uh ∙ sym h.mirrors.high;
        bases = (parted.low_filled.base_is ∙ base_same, parted.high_filled.base_is ∙ base_same);
        kept = halves_sum;
        linked = (low_linked, high_linked);
        lower = record { count = filled_many z m' r (take half xs) x.base parted.low_filled front_few limit ∙ front_long; prefix = filled_prefix z m' r (take half xs) x.base parted.low_filled front_few limit ∙ front_long };
        higher = record { count = filled_many z m' q (drop half xs) x.base parted.high_filled back_few limit ∙ back_long; prefix = filled_prefix z m' q (drop half xs) x.base parted.high_filled back_few limit ∙ back_long };
        valued = (low_valued, high_valued);
        keys = λ key met one other s. swept_halves z limit m m' r q g stands keys xs has bounds free few half some_low some_high no_slot k stored x.base base parted key met one other
            (record { from = (subst (λ (ws : List ℕ). InSwept (record { low = low_bytes ws; high = high_bytes w.high; met = met }) key) h.mirrors.low s).from; to = (subst (λ (ws : List ℕ). InSwept (record { low = low_bytes w.low; high = high_bytes ws; met = met }) key) h.mirrors.high s).to });
      }

  rows_now : u.rooms.held ≡ held_row q high_copy ∷ held_row r low_copy ∷ []
  rows_now = rows_from z (held_row q c ∷ held_row r w ∷ []) u.rooms.held (h.whole_upper, (h.whole, tt)) (two_apart r q w c h.apart) (subst (λ (vs : List HeldRoom). RowsStay z vs u.rooms.held) h.held works.rows)

  -- so it is with the pass
  pub stores_halves : StoresHalves z call r q w g v u
  stores_halves = let limit = pair_limit z r q w c g v h in let stands = pair_stands z r q w c g v h in let keys = keys_in v.rooms.moving in let has = whole_slots z r q w c g v h slots x all in let bounds = pair_bounds z r q w c g v h in let free = pair_free z r q w c g v h in let few = whole_few z r q w c g v h slots x all in
      let some_low = half_some z r q w c g v h slots x all in let stored = half_stored z r q w c g v h slots x all no_slot in let base = whole_base z r q w c g v h slots x all in let k = key_of (slice_index_or slots half no_slot) in record {
        works = works;
        low_copy = low_copy;
        high_copy = high_copy;
        halved = now_halved;
        held = rows_now;
        moving = moving ∙ h.moving;
        opens_upper = upper_opens z limit m m' r q g stands keys xs has bounds free few half some_low some_high no_slot k stored x.base base parted (g ∷ []) 0 refl (λ j y at lt. absurd (omega arith)) (λ j y at lt. absurd (omega arith));
        opens_lower = lower_opens z limit m m' r q g stands keys xs has bounds free few half some_low some_high no_slot k stored x.base base parted (g ∷ []) 0 refl (λ j y at lt. absurd (omega arith)) (λ j y at lt. absurd (omega arith));
        nothing = both_opened z limit m m' r q g stands keys xs has bounds free few half some_low some_high no_slot k stored x.base base parted [];
      }

-- ---- both are opened

module _ (z : Sizes) (call r q : ℕ) (w c : RoomCopy) (g : MovingRange) (v : PassState) (h : HoldsPair z r q w c g v) (s : PassState) (stores : StoresHalves z call r q w g v s) where
  upper_copy : copy_of q s.rooms.held ≡ Some stores.high_copy
  upper_copy = ap (copy_of q) stores.held ∙ first_of_two r q stores.low_copy stores.high_copy h.apart

  -- the upper room may be
  pub upper_held : in_room_state q HELD s.rooms ≡ 1
  unfolding room_rows
  upper_held = ap (room_rows q HELD) stores.held ∙ first_held r q stores.low_copy stores.high_copy h.apart

  -- over the upper part of the range
  pub upper_may : MayOpenCopy z (copy_of q s.rooms.held) s.rooms.moving
  upper_may = subst (λ (o : Option RoomCopy). MayOpenCopy z o s.rooms.moving) (sym upper_copy) (subst (λ (gs : List MovingRange). MayOpenRoom z stores.high_copy gs) (sym stores.moving) stores.opens_upper)

  module _ (a : PassState) (one : Opens z call q s a) where
    held_now : a.rooms.held ≡ held_row r stores.low_copy ∷ []
    unfolding total
    held_now = ap (λ (b : RoomHolds). b.held) one.rooms ∙ (ap (without_room q) stores.held ∙ without_first q (held_row q stores.high_copy) (held_row r stores.low_copy ∷ []) refl (let o = one_at-other r q h.apart in omega arith))

    moving_now : a.rooms.moving ≡ ranges_left stores.high_copy (g ∷ [])
    moving_now = ap (λ (b : RoomHolds). b.moving) one.rooms ∙ (λ i. ranges_opened (upper_copy i) (stores.moving i))

    lower_copy : copy_of r a.rooms.held ≡ Some stores.low_copy
    lower_copy = ap (copy_of r) held_now ∙ copy_first r stores.low_copy []

    -- and then the lower one
    pub lower_held : in_room_state r HELD a.rooms ≡ 1
    unfolding room_rows total
    lower_held = ap (room_rows r HELD) held_now ∙ (let o = one_at-same HELD HELD refl in let b = row_here r r HELD (held_row r stores.low_copy) [] refl refl in omega arith)

    -- over what is left
    pub lower_may : MayOpenCopy z (copy_of r a.rooms.held) a.rooms.moving
    lower_may = subst (λ (o : Option RoomCopy). MayOpenCopy z o a.rooms.moving) (sym lower_copy) (subst (λ (gs : List MovingRange). MayOpenRoom z stores.low_copy gs) (sym moving_now) stores.opens_lower)

    module _ (u : PassState) (two : Opens z call r a u) where
      opened_beside : WorksBeside call s u
      opened_beside = works_both call s a u (works_of_sweeps call q s a one.beside) (works_of_sweeps call r a u two.beside)

      -- but for rooms and ranges the pass has what it had
      opened : a.rooms ≡ record v.rooms { held = a.rooms.held; moving = a.rooms.moving }
      opened = let b = one.rooms in let k = stores.works in λ i. record { pin = (ap (λ (y : RoomHolds). y.pin) b ∙ k.pin) i; claim = (ap (λ (y : RoomHolds). y.claim) b ∙ k.claim) i; held = a.rooms.held; moving = a.rooms.moving }

      none_behind : without_room r (held_row r stores.low_copy ∷ []) ≡ []
      unfolding total
      none_behind = without_first r (held_row r stores.low_copy) [] refl refl

      rooms_now : u.rooms ≡ record v.rooms { held = []; moving = [] }
      rooms_now = two.rooms
          ∙ ((λ i. record (opened i) { held = without_room r (held_now i); moving = ranges_opened (lower_copy i) (moving_now i) })
          ∙ (λ i. record v.rooms { held = none_behind i; moving = stores.nothing i }))

      abbrev higher_swept : Swept
      higher_swept = swept_with stores.high_copy (length s.findings.met)

      abbrev lower_swept : Swept
      lower_swept = swept_with stores.low_copy (length a.findings.met)

      swept_now : u.findings.swept ≡ v.findings.swept ++ higher_swept ∷ lower_swept ∷ []
      swept_now = let valued = stores.halved.valued in
          two.beside.swept ∙ (ap (λ (l : List Swept). a.findings.swept ++ l) (ap (λ (o : Option RoomCopy). sweep o (length a.findings.met)) lower_copy ∙ sweep_is stores.low_copy (length a.findings.met) valued.0)
          ∙ (ap (λ (l : List Swept). l ++ lower_swept ∷ []) (one.beside.swept ∙ ap (λ (l : List Swept). s.findings.swept ++ l) (ap (λ (o : Option RoomCopy). sweep o (length s.findings.met)) upper_copy ∙ sweep_is stores.high_copy (length s.findings.met) valued.1))
          ∙ (append_assoc s.findings.swept (higher_swept ∷ []) (lower_swept ∷ []) ∙ ap (λ (l : List Swept). l ++ higher_swept ∷ lower_swept ∷ []) stores.works.stands.swept)))

      abbrev upper_opened : OpensWith z call q stores.high_copy v u
      upper_opened = record { step = step_in z call (on_rooms (open_room q)) v s a u stores.works.stands.met two.beside.met one.step; copy_is = subst (λ (y : PassState). copy_of q y.rooms.held ≡ Some stores.high_copy) (sym one.first) upper_copy }

      abbrev lower_opened : OpensWith z call r stores.low_copy v u
      lower_opened = record { step = step_since z call (on_rooms (open_room r)) v a u (met_both call v s a stores.works.stands.met one.beside.met) two.step; copy_is = subst (λ (y : PassState). copy_of r y.rooms.held ≡ Some stores.low_copy) (sym two.first) lower_copy }

      -- the upper room was opened before the lower one
      first : length one.step.from.findings.met < length two.step.from.findings.met
      first = let t = open_longer z call q one.step.from one.step.number one.step.to one.step.told in let e = ap (λ (y : PassState). length y.findings.met) one.last in let f = ap (λ (y : PassState). length y.findings.met) two.first in omega arith

      -- more was met all the while

      stored_longer : length v.findings.met ≤ length s.findings.met
      stored_longer = let m = stores.works.stands.met in begins_length v.findings.met s.findings.met (m.more, m.met)

      upper_longer : length s.findings.met < length a.findings.met
      upper_longer = opening_longer z call q s a one.step

      lower_longer : length a.findings.met < length u.findings.met
      lower_longer = opening_longer z call r a u two.step

      -- the pass stored the halves and opened both
      pub halves_opened : OpensHalves z call r q w v u
      halves_opened = record {
        low_copy = stores.low_copy;
        high_copy = stores.high_copy;
        halved = stores.halved;
        opens_upper = upper_opened;
        opens_lower = lower_opened;
        first = first;
        sweeps = λ key is bytes inside. ⊎_elim
            (λ (k : InSwept lower_swept key). let y : SweepsKey key v u = record { more = higher_swept ∷ lower_swept ∷ []; swept = swept_now; place = 1; range = lower_swept; there = refl; from = (let b = stored_longer in let c = upper_longer in omega arith); to = lower_longer; inside = k } in y)
            (λ (k : InSwept higher_swept key). let y : SweepsKey key v u = record { more = higher_swept ∷ lower_swept ∷ []; swept = swept_now; place = 0; range = higher_swept; there = refl; from = stored_longer; to = (let c = upper_longer in let d = lower_longer in omega arith); inside = k } in y)
            (stores.halved.keys key 0 (length a.findings.met) (length s.findings.met) (in_swept w 0 key h.mirrors.bounds is bytes inside));
        beside = works_both call v s u (works_of_rooms z call v s stores.works) opened_beside;
        claims = two.beside.claims ∙ (one.beside.claims ∙ stores.works.stands.claims);
        rooms = rooms_now;
        moment = two.ended;
        alone = halves_run z r q h.apart stores.low_copy stores.high_copy (held_by v) (pair_only z r q w c g v h) v s a u stores.works.words (one.alone stores.high_copy upper_copy) (two.alone stores.low_copy lower_copy);
      }
