-- A held room is opened, over a moving range or its upper part.
use Rattle.std.proofs.Common.{◌≡◌, ◌≢◌, ℕ, ◌+◌, ◌-◌, ◌<◌, ◌==◌, cond, Bool, eqb-true, List, [], ◌∷◌, ◌++◌, map, set, sym, refl, ap, ◌∙◌, subst, inl, inr, ⊎_elim, arith, ◌*◌}
use Rattle.std.proofs.lemmas.Bool.{leb-true, eqb-false}
use Rattle.std.specs.Prelude.{nat_le, filter, not, slice_index, nat_lt}
use mathlib.Core.Option.{some}
use lib.ListN.{get_elem?}
use Rattle.chunk_core.specs.declared.layout.TheConstants.{BOUND_WORDS}
use Rattle.chunk_core.specs.declared.states.TheConstants.{OPEN, HELD}
use Rattle.chunk_core.specs.declared.holds.Carried.{Carried}
use Rattle.chunk_core.specs.declared.holds.EntryWords.{EntryWords}
use Rattle.chunk_core.specs.declared.holds.MovingRange.{MovingRange}
use Rattle.chunk_core.specs.declared.holds.RoomCopy.{RoomCopy}
use Rattle.chunk_core.specs.declared.holds.RoomHolds.{RoomHolds}
use Rattle.oak_model.specs.Counts.{one_at, total, rows, Each, Has, one_if}
use Rattle.oak_model.specs.Limits.{Sizes}
use Rattle.oak_model.proofs.Changes.{stepped}
use Rattle.oak_model.proofs.Counting.{one_if_le, one_at-same, one_at-true, test-cases, both_true, total_map}
use Rattle.oak_model.proofs.Lists.{rows_at}
use Rattle.oak_model.proofs.MemberLaws.{has_some, each_at, each_has, filter-cases, each_filter}
use Rattle.oak_model.proofs.PutLaws.{put-here, put-else}
use Rattle.oak_model.proofs.RowLaws.{each_rows}
use Rattle.oak_model.proofs.SumLaws.{total_in}
use Rattle.pin_word.specs.PinWord.{state_of, generation_of, count_of}
use Rattle.chunk_core.specs.CoverRule.{CoversPartition}
use Rattle.chunk_core.specs.CoverSums.{weight, each, stray, all_of, keyless, owners_in_rooms, owning}
use Rattle.chunk_core.specs.Covers.{Entry, Cover, cover_at, entry_at, key_at, entry_from, cover_from, used_at}
use Rattle.chunk_core.specs.KeyWords.{key_in, low_number, high_from, high_number}
use Rattle.chunk_core.specs.LinkedEntries.{linked, in_use, Rises, entries_in, prefix_in, first_numbers}
use Rattle.chunk_core.specs.MayOnRooms.{MayOpenRoom}
use Rattle.chunk_core.specs.MovingRanges.{takes, is_upper, upper_of, left_of, ranges_left}
use Rattle.chunk_core.specs.RoomCopies.{without_room, entries_held}
use Rattle.chunk_core.specs.RoomReads.{words_at, copy_at}
use Rattle.chunk_core.specs.RoomRule.{in_room_state, AreTrueRanges, RoomsStand, AreBounds}
use Rattle.chunk_core.specs.RoomStep.{put_room}
use Rattle.chunk_core.specs.Rooms.{RoomMemory, at_room_pin}
use Rattle.chunk_core.specs.Spans.{within}
use Rattle.chunk_core.specs.ValueWord.{names_header}
use Rattle.chunk_core.proofs.ChainedRooms.{chained_links, copied_word, copied_value}
use Rattle.chunk_core.proofs.CoverLaws.{all_in, range_le}
use Rattle.chunk_core.proofs.EntryNumbers.{numbers_once, take_rows, rows_total}
use Rattle.chunk_core.proofs.Chains.{rises_once}
use Rattle.chunk_core.proofs.WholeChains.{rises_rows, whole_total}
use Rattle.chunk_core.proofs.Ranges.{whole_parted, Parted, upper_parted, ranges_left-is, parted_covers}
use Rattle.chunk_core.proofs.RoomStates.{given_up}
use Rattle.chunk_core.proofs.Weights.{weight_open, weight_held, open_none, is_so}
use Rattle.chunk_core.proofs.RoomOwners.{owners_in}

-- carried entries by what their key words name
total_true : (content : ℕ → List ℕ) (f : Entry → ℕ) (p : Carried → Bool) (xs : List Carried) → Each (λ (c : Carried). content c.word ≡ c.words) xs
    → total (λ (c : Carried). f (record { word = c.word; value = c.value; key = key_at content c.word })) (filter p xs) ≡ total (λ (c : Carried). f (entry_from c)) (filter p xs)
unfolding total
total_true content f p [] h = refl
total_true content f p (c ∷ cs) h = let t = total_true content f p cs h.1 in let e = ap (λ (ws : List ℕ). f (record { word = c.word; value = c.value; key = key_in c.word ws })) h.0 in
    filter-cases p c cs (λ l. total (λ (x : Carried). f (record { word = x.word; value = x.value; key = key_at content x.word })) l ≡ total (λ (x : Carried). f (entry_from x)) l) (λ _. omega arith) (λ _. t)

-- ranges but the part that is taken
true_left : (content : ℕ → List ℕ) (w : RoomCopy) (gs : List MovingRange) → AreTrueRanges content gs → AreTrueRanges content (ranges_left w gs)
unfolding ranges_left
true_left content w [] h = h
true_left content w (g ∷ gs) h = test-cases (takes w g) (λ t. AreTrueRanges content (cond t (left_of w g ++ gs) (g ∷ ranges_left w gs)))
    (λ _. test-cases (low_number w.low == low_number g.low) (λ t. AreTrueRanges content (cond t [] (record g { high = high_from w.low; carried = filter (λ c. not (is_upper w c)) g.carried } ∷ []) ++ gs)) (λ _. h.1)
    (λ _. (each_filter (λ c. not (is_upper w c)) (λ (c : Carried). content c.word ≡ c.words) g.carried h.0, h.1)))
    (λ _. (h.0, true_left content w gs h.1))

-- what is nothing of a cover is nothing over that cover alone
pub just_one : (F : Cover → ℕ) (c : Cover) → F c ≡ 0 → total F (c ∷ []) ≡ 0
unfolding total
just_one F c e = omega arith

in_filter : (p : Carried → Bool) (xs : List Carried) (y : Carried) → Has y (filter p xs) → Has y xs
in_filter p [] y h = h
in_filter p (x ∷ xs) y h = filter-cases p x xs (λ l. Has y l → Has y (x ∷ xs)) (λ _. ⊎_elim (λ (e : y ≡ x). inl e) (λ (t : Has y (filter p xs)). inr (in_filter p xs y t))) (λ _ t. inr (in_filter p xs y t)) h

module _ (z : Sizes) (m : RoomMemory) (content : ℕ → List ℕ) (is_key_word : ℕ → ℕ) (hs : List RoomHolds) (rule : RoomsStand z m content hs) (parts : CoversPartition z m content is_key_word hs) (seat : ℕ) (a : RoomHolds) (here : get_elem? hs seat ≡ some a)
    (r x : ℕ) (lr : r < z.chunks) (held : 0 < in_room_state r HELD a) (may : MayOpenRoom z (copy_at z m r) a.moving) (opened : state_of x ≡ OPEN) (count : count_of x ≡ count_of (m.pin r)) (generation : generation_of x ≡ generation_of (m.pin r)) where
  abbrev w : RoomCopy
  w = copy_at z m r

  abbrev g : MovingRange
  g = may.range

  abbrev C : Cover
  C = cover_at m content r

  abbrev m' : RoomMemory
  m' = put_room m (at_room_pin r) x

  abbrev b : RoomHolds
  b = record a { held = without_room r a.held; moving = ranges_left (copy_at z m r) a.moving }

  abbrev hs' : List RoomHolds
  hs' = set hs seat (record a { held = without_room r a.held; moving = ranges_left (copy_at z m r) a.moving })

  is_held : state_of (m.pin r) ≡ HELD
  is_held = is_so z m content hs rule seat a here r HELD (inr refl) held

  weight_now : weight (m'.pin r) ≡ 1
  weight_now = ap weight (put-here m.pin r x r refl) ∙ weight_open x opened

  -- what is added up
  pub open_step : (F : Cover → ℕ) → all_of z m' content hs' F + total F (cover_from g ∷ []) ≡ all_of z m content hs F + total F (C ∷ map cover_from (left_of w g))
  unfolding total
  open_step F = let s = all_in z m m' content hs hs' (a ∷ []) (b ∷ []) (stepped hs seat a b here) r lr (λ j ne. put-else m.pin r x j ne) (λ j _. refl) (weight_held (m.pin r) is_held) weight_now F in
      let t = ranges_left-is w F a.moving may.place g may.there may.takes_it (λ j h at l. may.first j h at l) in omega arith

  true_words : Each (λ (y : Carried). content y.word ≡ y.words) g.carried
  true_words = each_at (λ (t : MovingRange). Each (λ (y : Carried). content y.word ≡ y.words) t.carried) a.moving (rule.carried seat a here) may.place g may.there

  -- all its entries in use are linked, each to the next
  linked_is : linked m r ≡ rows 0 (entries_in (m.count r)) (λ j. j)
  linked_is = chained_links z m r may.few may.chained

  -- what is added up over them is so over those in use
  over_linked : (f : ℕ → ℕ) → total f (linked m r) ≡ total f (first_numbers (entries_in (m.count r)))
  over_linked f = ap (total f) linked_is ∙ whole_total f (entries_in (m.count r))

  linked_once : (i : ℕ) → i < entries_in (m.count r) → total (λ k. one_at k i) (linked m r) ≡ 1
  linked_once i l = over_linked (λ k. one_at k i) ∙ numbers_once (entries_in (m.count r)) i l

  used_owners : (names_it : ℕ → ℕ) → each (owning names_it) (used_at m content r) ≡ each (owning names_it) C
  used_owners names_it = total_map (entry_at m content r) (owning names_it C.span) (in_use m r) ∙ (sym (over_linked (λ j. owning names_it C.span (entry_at m content r j))) ∙ sym (total_map (entry_at m content r) (owning names_it C.span) (linked m r)))

  -- the room's entries are those of the range's part
  entries : (f : Entry → ℕ) → total f C.entries ≡ total f (map entry_from (upper_of w g))
  entries f = total_map (entry_at m content r) f (linked m r)
      ∙ (over_linked (λ j. f (entry_at m content r j))
      ∙ (sym (rows_total (λ (e : EntryWords). f (record { word = e.word; value = e.value; key = key_at content e.word })) (words_at m r) (entries_in (m.count r)))
      ∙ (sym (ap (total (λ (e : EntryWords). f (record { word = e.word; value = e.value; key = key_at content e.word }))) (take_rows 0 (entries_in (m.count r)) z.entries (words_at m r) may.few))
      ∙ (may.entries (λ word value. f (record { word = word; value = value; key = key_at content word })) ∙ (total_true content f (is_upper w) g.carried true_words ∙ sym (total_map entry_from f (upper_of w g)))))))

  -- what is nothing over all covers is nothing of the range
  pub of_range : (F : Cover → ℕ) → all_of z m content hs F ≡ 0 → F (cover_from g) ≡ 0
  of_range F e = let l = range_le z.chunks m.pin (cover_at m content) hs F seat a here may.place g may.there in omega arith

  no_stray : each stray (cover_from g) ≡ 0
  no_stray = of_range (each stray) parts.inside

  pub open_parted : Parted (cover_from g ∷ []) (C ∷ map cover_from (left_of w g))
  open_parted = test-cases (low_number w.low == low_number g.low) (λ t. Parted (cover_from g ∷ []) (C ∷ map cover_from (cond t [] (record g { high = high_from w.low; carried = filter (λ y. not (is_upper w y)) g.carried } ∷ []))))
      (λ e. whole_parted w g C may.takes_it may.base may.under refl refl refl entries no_stray (eqb-true (low_number w.low) (low_number g.low) e))
      (λ e. upper_parted w g C may.takes_it may.base may.under refl refl refl entries no_stray (lower (eqb-false (low_number w.low) (low_number g.low) e)) (may.key (eqb-false (low_number w.low) (low_number g.low) e)))
    where
      lower : low_number w.low ≢ low_number g.low → low_number g.low < low_number w.low
      lower ne = let l = leb-true (low_number g.low) (low_number w.low) (both_true (high_number w.high == high_number g.high) (nat_le (low_number g.low) (low_number w.low)) may.takes_it).1 in omega arith

  pub open_partition : CoversPartition z m' content is_key_word hs'
  open_partition = parted_covers z m m' content is_key_word hs hs' (cover_from g ∷ []) (C ∷ map cover_from (left_of w g)) open_parted open_step
      (just_one (λ (y : Cover). 1 - within y.span y.span.low) (cover_from g) (of_range (λ (y : Cover). 1 - within y.span y.span.low) parts.begun)) (just_one (λ (y : Cover). keyless y.span) (cover_from g) (of_range (λ (y : Cover). keyless y.span) parts.keyed)) (just_one (each stray) (cover_from g) no_stray)
      (just_one (λ (y : Cover). names_header y.span.base) (cover_from g) (of_range (λ (y : Cover). names_header y.span.base) parts.bases)) parts

  -- each block has the owners that it had
  pub open_owners : (names_it : ℕ → ℕ) → owners_in_rooms z m' content hs' names_it ≡ owners_in_rooms z m content hs names_it
  unfolding total
  open_owners names_it = let s = owners_in z m m' content hs hs' (a ∷ []) (b ∷ []) (stepped hs seat a b here) r lr (λ j ne. put-else m.pin r x j ne) (λ j _. refl) names_it (weight_held (m.pin r) is_held) weight_now in
      let t = ranges_left-is w (each (owning names_it)) a.moving may.place g may.there may.takes_it (λ j h at l. may.first j h at l) in let e = open_parted.entries (λ y. one_if (nat_lt 0 y.word) * names_it y.word) in let u = used_owners names_it in omega arith

  -- an entry of the prefix is a carried one
  among : (i : ℕ) → i < entries_in (m.count r) → (y : Carried) × Has y g.carried × (y.word ≡ m.key r i)
  among i l = let E = entries_in (m.count r) in
      let e = may.entries (λ word _. one_at word (m.key r i)) in
      let t : total (λ (e : EntryWords). one_at e.word (m.key r i)) (entries_held w) ≡ total (λ j. one_at (m.key r j) (m.key r i)) (first_numbers E) = ap (total (λ (e : EntryWords). one_at e.word (m.key r i))) (take_rows 0 E z.entries (words_at m r) may.few) ∙ rows_total (λ (e : EntryWords). one_at e.word (m.key r i)) (words_at m r) E in
      let s = total_in (λ j. one_at (m.key r j) (m.key r i)) i (first_numbers E) (let n = numbers_once E i l in omega arith) in let o = one_at-same (m.key r i) (m.key r i) refl in
      let h = has_some (λ (y : Carried). one_at y.word (m.key r i)) (upper_of w g) (omega arith) in (h.0, in_filter (is_upper w) g.carried h.0 h.1, one_at-true h.0.word (m.key r i) h.2)

  key_is : (y : Carried) → Has y g.carried → (word : ℕ) → y.word ≡ word → key_in y.word y.words ≡ key_at content word
  key_is y has word e = ap (key_in y.word) (sym (each_has (λ (t : Carried). content t.word ≡ t.words) g.carried y true_words has)) ∙ ap (λ (t : ℕ). key_at content t) e

  sorted_here : (i j : ℕ) → i < j → j < prefix_in (m.count r) → key_at content (m.key r i) < key_at content (m.key r j)
  sorted_here i j l k = let few = may.few in let pre = may.chained.whole in let c = among i (omega arith) in let d = among j (omega arith) in
      let s = may.sorted i j c.0 d.0 l k c.1 d.1 (c.2 ∙ sym (copied_word z m r i (omega arith))) (d.2 ∙ sym (copied_word z m r j (omega arith))) in
      subst (λ (t : ℕ × ℕ). t.0 < t.1) (λ t. (key_is c.0 c.1 (m.key r i) c.2 t, key_is d.0 d.1 (m.key r j) d.2 t)) s

  first_word : (f : ℕ → ℕ) → slice_index (rows 0 BOUND_WORDS f) 0 ≡ f 0
  first_word f = rows_at 0 BOUND_WORDS 0 f 0 (omega arith)

  rises_here : Rises (λ i. key_at content (m.key r i)) (linked m r)
  rises_here = subst (Rises (λ i. key_at content (m.key r i))) (sym linked_is) (rises_rows (λ i. key_at content (m.key r i)) (entries_in (m.count r)) 0 (entries_in (m.count r)) (λ i j l k. let p = may.chained.whole in sorted_here i j l (omega arith)) (omega arith))

  pub open_rooms : RoomsStand z m' content hs'
  open_rooms = given_up z m content hs rule seat a here r x held count generation (omega arith) (λ s is. open_none x s opened is) (ranges_left (copy_at z m r) a.moving)
      (λ _. record {
        few = may.few;
        prefix = let p = may.chained.whole in omega arith;
        sorted = sorted_here;
        used = subst (Each (λ i. i < entries_in (m.count r))) (sym linked_is) (each_rows (λ i. i < entries_in (m.count r)) 0 (entries_in (m.count r)) (λ j. j) (λ j le lt. omega arith));
        rises = rises_here;
        front = λ i l. let p = may.chained.whole in linked_once i (omega arith);
        zeros = λ i l inside. let o = may.chained.zeros i l inside in (sym (copied_word z m r i inside) ∙ o.0, sym (copied_value z m r i inside) ∙ o.1);
        bounds = subst (λ (t : ℕ × ℕ). AreBounds t.0 t.1) (λ i. (first_word (m.low r) i, first_word (m.high r) i)) may.bounds;
      }) (λ i _. rises_once (λ i. key_at content (m.key r i)) (linked m r) rises_here i) (λ i _ l. let o = linked_once i l in let q = one_if_le (nat_lt 0 (m.key r i)) in omega arith) (true_left content w a.moving (rule.carried seat a here))
