-- The copy of a held room by its words, and of one in which sorted slots were stored.
use Rattle.std.proofs.Common.{◌≡◌, ℕ, zero, suc, ◌+◌, ◌<◌, ◌≤◌, cond, nat_lt, List, [], ◌∷◌, map, length, get_or, sym, ◌∙◌, ap, refl, subst, arith}
use Rattle.std.specs.Prelude.{slice_index}
use Rattle.std.specs.List.{filter, slice_index_or}
use Rattle.std.specs.List.Sorted.{IsPermutation}
use Rattle.std.proofs.lemmas.List.{get_or-map}
use Rattle.std.proofs.lemmas.List.Recursion.{is_sum_by}
use Rattle.std.proofs.lemmas.List.Sorted.{sum_by-IsPermutation}
use Rattle.oak_model.specs.declared.limits.TheConstants.{GREATEST_ENTRIES}
use Rattle.oak_model.specs.Counts.{rows, total}
use Rattle.oak_model.specs.Key.{AreBytes, IsKey, IsKeyBefore}
use Rattle.oak_model.specs.Limits.{Sizes}
use Rattle.oak_model.proofs.Lists.{rows_at, rows_length, same_elements}
use Rattle.oak_model.proofs.NumberLaws.{key_number_rises}
use Rattle.chunk_core.specs.declared.holds.Carried.{Carried}
use Rattle.chunk_core.specs.declared.holds.EntryWords.{EntryWords}
use Rattle.chunk_core.specs.KeyWords.{key_in, key_bytes}
use Rattle.chunk_core.specs.LinkedEntries.{entries_in, prefix_in}
use Rattle.chunk_core.specs.RoomCopies.{entries_held, word_held}
use Rattle.chunk_core.specs.RoomReads.{copy_at, words_at}
use Rattle.chunk_core.specs.Rooms.{RoomMemory}
use Rattle.chunk_core.proofs.EntryNumbers.{take_rows}
use Rattle.oak_core.specs.declared.sorting.SortSlot.{SortSlot}
use Rattle.rebalance.specs.declared.entries.Entry.{Entry}
use Rattle.rebalance.specs.CarriedKeys.{HasKey}
use Rattle.rebalance.specs.Compacted.{linked_in, KeysRise}
use Rattle.rebalance.specs.Copies.{AllLinked, entries_of, has_key_word, linked_held}
use Rattle.rebalance.specs.DroppedRange.{sum_of}
use Rattle.rebalance.specs.Entries.{entries, has_word}
use Rattle.rebalance.specs.Filled.{IsFilled, count_of}
use Rattle.rebalance.specs.Mirrors.{carried_key}
use Rattle.rebalance.specs.Slots.{entry_of}
use Rattle.rebalance.proofs.DroppedRange.{total_filter}
use Rattle.rebalance.proofs.PassedOnes.{pass_mapped}

-- a list that is copied is the list
pub rows_back : (n : ℕ) (xs : List ℕ) → length xs ≡ n → rows 0 n (slice_index xs) ≡ xs
rows_back n xs e = same_elements (rows 0 n (slice_index xs)) xs 0 (rows_length 0 n (slice_index xs) ∙ sym e)
    (λ k lt. rows_at 0 n k (slice_index xs) 0 (let l = rows_length 0 n (slice_index xs) in omega arith) ∙ ap (slice_index xs) (let q : 0 + k ≡ k = omega arith in q))

total_rows : {A B : Type 0} (F : A → ℕ) (G : B → ℕ) (f : ℕ → A) (g : ℕ → B) → ((k : ℕ) → F (f k) ≡ G (g k)) → (i n : ℕ) → total F (rows i n f) ≡ total G (rows i n g)
unfolding total rows
total_rows F G f g h i zero = refl
total_rows F G f g h i (suc n) = let a = h i in let t = total_rows F G f g h (suc i) n in omega arith

-- what is made of each of the rows
mapped_rows : {A B : Type 0} (F : A → B) (f : ℕ → A) (i n : ℕ) → map F (rows i n f) ≡ rows i n (λ k. F (f k))
unfolding rows
mapped_rows F f i zero = refl
mapped_rows F f i (suc n) = ap (λ (xs : List _). F (f i) ∷ xs) (mapped_rows F f (suc i) n)

-- the same elements in another order
pub permuted_total : {A : Type 0} (f : A → ℕ) (xs ys : List A) → IsPermutation xs ys → total f ys ≡ total f xs
unfolding total
permuted_total f xs ys p = is_sum_by (total f) f refl (λ x xs. refl) ys ∙ (sum_by-IsPermutation f xs ys p ∙ sym (is_sum_by (total f) f refl (λ x xs. refl) xs))

-- how many elements a list has
pub length_total : {A : Type 0} (xs : List A) → total (λ _. 1) xs ≡ length xs
unfolding total
length_total [] = refl
length_total (x ∷ xs) = let t = length_total xs in omega arith

-- a count word of n entries that are all sorted tells n twice: how many they are
pub count_entries : (n : ℕ) → n ≤ GREATEST_ENTRIES → entries_in (count_of n) ≡ n
unfolding entries_in
count_entries n le = omega arith

-- and how many of them are sorted
pub count_prefix : (n : ℕ) → n ≤ GREATEST_ENTRIES → prefix_in (count_of n) ≡ n
unfolding prefix_in
count_prefix n le = omega arith

module _ (z : Sizes) (m : RoomMemory) (r : ℕ) where
  -- what is added up over the entries in use of the copy
  copied_used : (f : ℕ → ℕ → ℕ) → entries_in (m.count r) ≤ z.entries → total (λ (e : EntryWords). f e.word e.value) (entries_held (copy_at z m r)) ≡ sum_of f (entries m r (entries_in (m.count r)))
  copied_used f few = ap (total (λ (e : EntryWords). f e.word e.value)) (take_rows 0 (entries_in (m.count r)) z.entries (words_at m r) few)
      ∙ total_rows (λ (e : EntryWords). f e.word e.value) (λ (e : Entry). f e.place e.value) (words_at m r) (λ i. record { place = m.key r i; value = m.value r i }) (λ k. refl) 0 (entries_in (m.count r))

  -- and over the linked ones
  pub copied_sum : (f : ℕ → ℕ → ℕ) → entries_in (m.count r) ≤ z.entries → total (λ (e : EntryWords). f e.word e.value) (linked_held (copy_at z m r)) ≡ sum_of f (linked_in m r)
  copied_sum f few = total_filter has_key_word (λ (e : EntryWords). f e.word e.value) (entries_held (copy_at z m r))
      ∙ (copied_used (λ w v. cond (nat_lt 0 w) (f w v) 0) few ∙ sym (total_filter has_word (λ (e : Entry). f e.place e.value) (entries m r (entries_in (m.count r)))))

  -- these are the ones of the memory
  pub copied_entries : entries_in (m.count r) ≤ z.entries → entries_of (copy_at z m r) ≡ linked_in m r
  copied_entries few = let F : EntryWords → Entry = λ e. record { place = e.word; value = e.value } in sym (pass_mapped has_key_word has_word F (λ e. refl) (entries_held (copy_at z m r)))
      ∙ ap (filter has_word) (ap (map F) (take_rows 0 (entries_in (m.count r)) z.entries (words_at m r) few) ∙ mapped_rows F (words_at m r) 0 (entries_in (m.count r)))

  -- the key word of an entry of the copy
  pub copied_word : (i : ℕ) → i < z.entries → word_held (copy_at z m r) i ≡ m.key r i
  copied_word i l = let d : EntryWords = record { word = 0; value = 0; next = 0 } in let n = rows_length 0 z.entries (words_at m r) in
      get_or-map (λ (e : EntryWords). e.word) (rows 0 z.entries (words_at m r)) i d 0 (omega arith) ∙ (ap (λ (e : EntryWords). e.word) (rows_at 0 z.entries i (words_at m r) d l) ∙ ap (m.key r) (let q : 0 + i ≡ i = omega arith in q))

  -- the room was filled with slots
  module _ (xs : List SortSlot) (base : ℕ) (filled : IsFilled z.entries r xs base m) (few : length xs ≤ z.entries) (limit : z.entries ≤ GREATEST_ENTRIES) where
    -- it has as many entries
    pub filled_many : entries_in (m.count r) ≡ length xs
    filled_many = ap entries_in filled.count ∙ count_entries (length xs) (omega arith)

    -- all of them in its sorted prefix
    pub filled_prefix : prefix_in (m.count r) ≡ length xs
    filled_prefix = ap prefix_in filled.count ∙ count_prefix (length xs) (omega arith)

    -- what is added up over them
    pub filled_sum : (f : ℕ → ℕ → ℕ) → total (λ (e : EntryWords). f e.word e.value) (entries_held (copy_at z m r)) ≡ sum_of f (map entry_of xs)
    filled_sum f = copied_used f (let q = filled_many in omega arith) ∙ (ap (λ (n : ℕ). sum_of f (entries m r n)) filled_many ∙ ap (sum_of f) filled.is)

    -- and the key word of each
    pub filled_key : (i : ℕ) (d : SortSlot) → i < length xs → m.key r i ≡ (slice_index_or xs i d).key
    filled_key i d l = let f : ℕ → Entry = λ k. record { place = m.key r k; value = m.value r k } in
        ap (m.key r) (let q : i ≡ 0 + i = omega arith in q)
        ∙ (ap (λ (e : Entry). e.place) (sym (rows_at 0 (length xs) i f (entry_of d) l))
        ∙ (ap (λ (es : List Entry). (get_or es i (entry_of d)).place) filled.is ∙ ap (λ (e : Entry). e.place) (get_or-map entry_of xs i d (entry_of d) l)))

    -- where each slot has a key word, each of its entries is linked
    pub filled_linked : ((i : ℕ) (d : SortSlot) → i < length xs → 0 < (slice_index_or xs i d).key) → AllLinked (copy_at z m r)
    filled_linked named i l = let n = filled_many in let d : SortSlot = record { words = []; length = 0; key = 0; value = 0 } in
        let w = copied_word i (omega arith) in let k = filled_key i d (omega arith) in let p = named i d (omega arith) in omega arith

    -- entries of the range whose words stand in the room rise as these
    pub filled_rises : (keys : ℕ → List ℕ) → KeysRise keys xs → (i j : ℕ) (c d : Carried) → i < j → j < length xs → HasKey keys c → HasKey keys d → c.word ≡ word_held (copy_at z m r) i → d.word ≡ word_held (copy_at z m r) j → carried_key c < carried_key d
    unfolding key_in
    filled_rises keys rise i j c d lt l ck dk ci dj = let s : SortSlot = record { words = []; length = 0; key = 0; value = 0 } in
        let a : keys (slice_index_or xs i s).key ≡ key_bytes c.word c.words = ap keys (sym (filled_key i s (omega arith)) ∙ (sym (copied_word i (omega arith)) ∙ sym ci)) ∙ ck.is in
        let b : keys (slice_index_or xs j s).key ≡ key_bytes d.word d.words = ap keys (sym (filled_key j s l) ∙ (sym (copied_word j (omega arith)) ∙ sym dj)) ∙ dk.is in
        let before : IsKeyBefore (key_bytes c.word c.words) (key_bytes d.word d.words) = subst (λ (p : List ℕ × List ℕ). IsKeyBefore p.0 p.1) (λ t. (a t, b t)) (rise i j s lt l) in
        key_number_rises (key_bytes c.word c.words) (key_bytes d.word d.words) (subst AreBytes ck.is ck.named.bytes) (subst AreBytes dk.is dk.named.bytes) (subst IsKey dk.is dk.named.key) before
