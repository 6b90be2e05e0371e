-- A frozen room that its pass comes to hold has the words of the range that moves with the pass.
use Rattle.std.proofs.Common.{◌≡◌, ℕ, ◌<◌, cond, nat_lt, Bool, List, [], ◌∷◌, map, get_or, sym, refl, ap, ◌∙◌, subst, arith, lt-ltb}
use mathlib.Core.Logic.{dite}
use native.Mathlib.Decide.{ℕ_discrete, dec_lt}
use Rattle.pin_word.specs.PinWord.{count_of}
use Rattle.oak_model.specs.Counts.{one_at, one_if, total, rows, Each, Has}
use Rattle.oak_model.specs.Limits.{Sizes}
use Rattle.oak_model.proofs.Counting.{total_map}
use Rattle.oak_model.proofs.Changes.{each_unmap}
use Rattle.oak_model.proofs.Lists.{each_map, rows_at}
use Rattle.oak_model.proofs.MemberLaws.{each_has, each_in}
use Rattle.chunk_core.specs.declared.layout.TheConstants.{BOUND_WORDS}
use Rattle.chunk_core.specs.declared.holds.Carried.{Carried}
use Rattle.chunk_core.specs.declared.holds.EntryWords.{EntryWords}
use Rattle.chunk_core.specs.declared.holds.RoomCopy.{RoomCopy}
use Rattle.chunk_core.specs.declared.holds.RoomHolds.{RoomHolds}
use Rattle.chunk_core.specs.Covers.{key_at}
use Rattle.chunk_core.specs.CoverSums.{weight}
use Rattle.chunk_core.specs.KeyWords.{key_in}
use Rattle.chunk_core.specs.LinkedEntries.{entries_in, farthest, linked, Rises}
use Rattle.chunk_core.specs.RoomCopies.{entries_held, next_held, word_held}
use Rattle.chunk_core.specs.RoomHolds.{claims_on}
use Rattle.chunk_core.specs.RoomReads.{words_at, copy_at, carried_at, moving_at}
use Rattle.chunk_core.specs.RoomRule.{AreBounds, IsInOrder, RoomsStand}
use Rattle.chunk_core.specs.Rooms.{RoomMemory}
use Rattle.chunk_core.proofs.ChainedRooms.{copied_word, copied_next}
use Rattle.chunk_core.proofs.Chains.{chain_same, rises_same}
use Rattle.chunk_core.proofs.Claims.{unclaimed_free}
use Rattle.chunk_core.proofs.EntryNumbers.{each_at, take_rows, rows_total}
use Rattle.chunk_core.proofs.UsedEntries.{keyed_linked, used_linked}
use Rattle.rebalance.specs.Copies.{LinksReach, has_key_word, linked_held, reached_in}
use Rattle.rebalance.specs.Mirrors.{Mirrors, RangeStands, carried_key}
use Rattle.rebalance.proofs.DroppedRange.{total_filter}
use Rattle.rebalance.proofs.MirroredEntries.{words_some, each_of as each_members}
use Rattle.rebalance.proofs.SlotKeys.{total_members}

-- P holds of each number of a list, so it does of what is made of them
each_of : (P : Carried → Type 0) (f : ℕ → Carried) → ((i : ℕ) → P (f i)) → (xs : List ℕ) → Each P (map f xs)
each_of P f h [] = tt
each_of P f h (x ∷ xs) = (h x, each_of P f h xs)

module _ (z : Sizes) (m : RoomMemory) (content : ℕ → List ℕ) (hs : List RoomHolds) (rule : RoomsStand z m content hs) (r : ℕ) where
  -- where each linked entry has a key word
  abbrev AreKeyed : Type 0
  AreKeyed = Each (λ i. 0 < m.key r i) (linked m r)

  -- a range has only such
  keyed_range : RangeStands (moving_at m content r) → AreKeyed
  keyed_range stands = each_unmapped (carried_at m content r) (linked m r) (words_some (moving_at m content r) stands)
    where
      each_unmapped : (f : ℕ → Carried) (xs : List ℕ) → Each (λ (c : Carried). 0 < c.word) (map f xs) → Each (λ i. 0 < (f i).word) xs
      each_unmapped f [] h = tt
      each_unmapped f (x ∷ xs) h = (h.0, each_unmapped f xs h.1)

  -- A cover without a pin.
  module _ (cover : weight (m.pin r) ≡ 1) (free : count_of (m.pin r) ≡ 0) where
    order : IsInOrder z content (m.count r) (m.key r) (m.value r) (linked m r) (m.low r 0) (m.high r 0)
    order = rule.ordered r cover

    nobody : (i : ℕ) → total (claims_on r i) hs ≡ 0
    nobody i = unclaimed_free z m content hs rule r i free

    -- each entry in use that has a key word is linked
    pub linked_once : (i : ℕ) → i < entries_in (m.count r) → 0 < m.key r i → total (λ j. one_at j i) (linked m r) ≡ 1
    linked_once i l k = keyed_linked z m content hs rule r cover nobody i l k

    -- in the copy links reach the same entries
    same_links : reached_in (copy_at z m r) ≡ linked m r
    same_links = chain_same farthest (m.next r) (next_held (copy_at z m r)) (m.first r) (each_map (λ j. j < entries_in (m.count r)) (λ j. next_held (copy_at z m r) j ≡ m.next r j) (linked m r) (λ j b. copied_next z m r j (let few = order.few in omega arith)) order.used)

    -- and no others
    links_reach : AreKeyed → LinksReach (copy_at z m r)
    links_reach keyed i l = let few = order.few in let word = copied_word z m r i (omega arith) in ap (total (λ (j : ℕ). one_at j i)) same_links ∙ (dite (ℕ_discrete (m.key r i) 0)
        (λ e. dite (dec_lt 0 (total (λ (j : ℕ). one_at j i) (linked m r)))
        (λ some. let k = each_at (λ j. 0 < m.key r j) (linked m r) i keyed some in absurd (omega arith))
        (λ none. let q : total (λ (j : ℕ). one_at j i) (linked m r) ≡ 0 = omega arith in q ∙ sym (ap (λ (k : ℕ). one_if (nat_lt 0 k)) e)))
        (λ ne. linked_once i l (omega arith) ∙ sym (ap one_if (lt-ltb 0 (m.key r i) (omega arith)))) ∙ ap (λ (k : ℕ). one_if (nat_lt 0 k)) (sym word))

    -- the linked entries of the copy are those that are carried
    same_entries : AreKeyed → (f : ℕ → ℕ → ℕ) → total (λ (e : EntryWords). f e.word e.value) (linked_held (copy_at z m r)) ≡ total (λ (c : Carried). f c.word c.value) (moving_at m content r).carried
    same_entries keyed f = let n = entries_in (m.count r) in let h : ℕ → ℕ = λ i. cond (nat_lt 0 (m.key r i)) (f (m.key r i) (m.value r i)) 0 in
        total_filter has_key_word (λ (e : EntryWords). f e.word e.value) (entries_held (copy_at z m r))
        ∙ (ap (total (λ (e : EntryWords). cond (has_key_word e) (f e.word e.value) 0)) (take_rows 0 n z.entries (words_at m r) order.few)
        ∙ (rows_total (λ (e : EntryWords). cond (has_key_word e) (f e.word e.value) 0) (words_at m r) n
        ∙ (used_linked z m content hs rule r cover nobody h (λ i e. ap (λ (k : ℕ). cond (nat_lt 0 k) (f (m.key r i) (m.value r i)) 0) e)
        ∙ (total_members h (λ i. f (m.key r i) (m.value r i)) (linked m r) (λ i there. ap (λ (b : Bool). cond b (f (m.key r i) (m.value r i)) 0) (lt-ltb 0 (m.key r i) (each_has (λ j. 0 < m.key r j) (linked m r) i keyed there)))
        ∙ sym (total_map (carried_at m content r) (λ (c : Carried). f c.word c.value) (linked m r))))))

  -- the words kept with them are those of their blocks
  true_words : Each (λ (c : Carried). content c.word ≡ c.words) (moving_at m content r).carried
  true_words = each_of (λ (c : Carried). content c.word ≡ c.words) (carried_at m content r) (λ i. refl) (linked m r)

  key_there : (c : Carried) (i : ℕ) → i < z.entries → Has c (moving_at m content r).carried → c.word ≡ word_held (copy_at z m r) i → carried_key c ≡ key_at content (m.key r i)
  key_there c i l has e = ap (key_in c.word) (sym (each_has (λ (d : Carried). content d.word ≡ d.words) (moving_at m content r).carried c true_words has)) ∙ ap (key_at content) (e ∙ copied_word z m r i l)

  -- and their keys rise along the links of the copy
  rise_along : weight (m.pin r) ≡ 1 → count_of (m.pin r) ≡ 0 → (f : ℕ → ℕ) → ((c : Carried) → Has c (moving_at m content r).carried → f c.word ≡ carried_key c) → Rises (λ i. f (word_held (copy_at z m r) i)) (reached_in (copy_at z m r))
  rise_along weighs free f is = let order = rule.ordered r weighs in let w : RoomCopy = copy_at z m r in let xs : List ℕ = linked m r in
      let keyed : Each (λ i. f (m.key r i) ≡ key_at content (m.key r i)) xs = each_unmap (carried_at m content r) (λ (c : Carried). f c.word ≡ carried_key c) xs (each_members (λ (c : Carried). f c.word ≡ carried_key c) (moving_at m content r).carried is) in
      subst (Rises (λ i. f (word_held w i))) (sym (same_links weighs free)) (rises_same (λ i. key_at content (m.key r i)) (λ i. f (word_held w i)) xs
      (each_in (λ i. i < entries_in (m.count r)) (λ i. f (word_held w i) ≡ key_at content (m.key r i)) xs (λ i has l. ap f (copied_word z m r i (let few = order.few in omega arith)) ∙ each_has (λ j. f (m.key r j) ≡ key_at content (m.key r j)) xs i keyed has) order.used) order.rises)

  first_word : (f : ℕ → ℕ) → get_or (rows 0 BOUND_WORDS f) 0 0 ≡ f 0
  first_word f = rows_at 0 BOUND_WORDS 0 f 0 (omega arith)

  -- A cover without a pin has the words of its range.
  pub mirrors_at : weight (m.pin r) ≡ 1 → count_of (m.pin r) ≡ 0 → RangeStands (moving_at m content r) → Mirrors z (copy_at z m r) (moving_at m content r)
  mirrors_at weighs free stands = let order = rule.ordered r weighs in record {
    base = refl;
    low = refl;
    high = refl;
    latch = rule.latches r;
    few = order.few;
    prefix = order.prefix;
    entries = same_entries weighs free (keyed_range stands);
    bounds = subst (λ (b : ℕ × ℕ). AreBounds b.0 b.1) (λ i. (sym (first_word (m.low r)) i, sym (first_word (m.high r)) i)) order.bounds;
    sorted = λ i j c d lt before has_c has_d e f. subst (λ (k : ℕ × ℕ). k.0 < k.1)
        (λ t. (sym (key_there c i (let a = order.few in let b = order.prefix in omega arith) has_c e) t, sym (key_there d j (let a = order.few in let b = order.prefix in omega arith) has_d f) t)) (order.sorted i j lt before);
    used = subst (Each (λ i. i < entries_in (m.count r))) (sym (same_links weighs free)) order.used;
    along = rise_along weighs free;
  }

  -- and in its words links reach the entries that have a key word
  pub reach_at : weight (m.pin r) ≡ 1 → count_of (m.pin r) ≡ 0 → RangeStands (moving_at m content r) → LinksReach (copy_at z m r)
  reach_at weighs free stands = links_reach weighs free (keyed_range stands)
