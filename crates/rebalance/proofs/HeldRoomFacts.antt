-- What reading asks of a held room, of one that has the entries of a moving range.
use Rattle.std.proofs.Common.{◌≡◌, ◌≢◌, ℕ, ◌+◌, ◌-◌, ◌<◌, ◌≤◌, ◌==◌, cond, Bool, List, [], ◌∷◌, get_or, sym, refl, ap, ◌∙◌, subst, inl, inr, arith, lt-ltb}
use mathlib.Core.Logic.{dite}
use mathlib.Core.Option.{some}
use lib.ListN.{get_elem?}
use native.Mathlib.Decide.{dec_lt}
use Rattle.oak_model.specs.Counts.{one_at, one_if, total, Each, Has}
use Rattle.oak_model.specs.Key.{AreBytes, IsKey, same_key}
use Rattle.oak_model.specs.KeyNumber.{key_number}
use Rattle.oak_model.specs.Limits.{Sizes}
use Rattle.oak_model.proofs.Counting.{one_at-same, test-cases, total_two}
use Rattle.oak_model.proofs.KeyLaws.{same_is}
use Rattle.oak_model.proofs.MemberLaws.{each_has, has_filter, has_some, total_has}
use Rattle.oak_model.proofs.NumberLaws.{key_before_is}
use Rattle.oak_model.proofs.Lists.{each_map}
use Rattle.oak_model.proofs.RowLaws.{each_rows}
use Rattle.chunk_core.specs.declared.holds.Carried.{Carried}
use Rattle.chunk_core.specs.declared.holds.MovingRange.{MovingRange}
use Rattle.chunk_core.specs.KeyWords.{key_in}
use Rattle.chunk_core.specs.LinkedEntries.{entries_in, farthest, linked, Rises}
use Rattle.chunk_core.specs.RoomCopies.{next_held, word_held}
use Rattle.chunk_core.specs.RoomReads.{copy_at}
use Rattle.chunk_core.specs.Rooms.{RoomMemory}
use Rattle.chunk_core.specs.ValueWord.{names_header}
use Rattle.chunk_core.proofs.ChainedRooms.{copied_next, copied_word}
use Rattle.chunk_core.proofs.Chains.{chain_same, rises_same}
use Rattle.chunk_core.proofs.CountLoads.{rows_has}
use Rattle.rebalance.specs.declared.entries.Entry.{Entry}
use Rattle.rebalance.specs.CarriedKeys.{HaveKeys}
use Rattle.rebalance.specs.Compacted.{linked_in, is_of, IsHeldRoom, KeysRiseAlong}
use Rattle.rebalance.specs.Copies.{reached_in}
use Rattle.rebalance.specs.DroppedRange.{sum_of, sum_carried, WordsDiffer}
use Rattle.rebalance.specs.Entries.{AreValued, entries, entry_at, has_value, has_word, kept}
use Rattle.rebalance.specs.Mirrors.{Mirrors, RangeStands, carried_key}
use Rattle.rebalance.proofs.AlongLaws.{each_there, rises_there}
use Rattle.rebalance.proofs.DroppedRange.{total_filter, named-cases}
use Rattle.rebalance.proofs.FilledCopies.{copied_sum}
use Rattle.rebalance.proofs.MirroredEntries.{carried_has}
use Rattle.rebalance.proofs.PassedOnes.{has_at}
use Rattle.rebalance.proofs.WalkLaws.{linked_all}

-- what is no more for each member is no more for all
pub total_under : {A : Type 0} (f g : A → ℕ) (xs : List A) → ((x : A) → Has x xs → f x ≤ g x) → total f xs ≤ total g xs
unfolding total
total_under f g [] h = omega arith
total_under f g (x ∷ xs) h = let a = h x (inl refl) in let t = total_under f g xs (λ y m. h y (inr m)) in omega arith

module _ (z : Sizes) (m : RoomMemory) (r : ℕ) (g : MovingRange) (mirrors : Mirrors z (copy_at z m r) g) (stands : RangeStands g) (differ : WordsDiffer g) where
  abbrev entry : ℕ → Entry
  entry i = record { place = m.key r i; value = m.value r i }

  same : (f : ℕ → ℕ → ℕ) → sum_of f (linked_in m r) ≡ sum_carried f g.carried
  same f = sym (copied_sum z m r f mirrors.few) ∙ mirrors.entries f

  there_is : (i : ℕ) → i < entries_in (m.count r) → get_elem? (entries m r (entries_in (m.count r))) i ≡ some (entry i)
  there_is i l = rows_has entry 0 (entries_in (m.count r)) i l ∙ ap (λ (k : ℕ). some (entry k)) (let q : 0 + i ≡ i = omega arith in q)

  linked_is : (i : ℕ) → i < entries_in (m.count r) → 0 < m.key r i → Has (entry i) (linked_in m r)
  linked_is i l k = let es : List Entry = entries m r (entries_in (m.count r)) in has_filter has_word es (entry i) (has_at es i (entry i) (there_is i l)) (lt-ltb 0 (m.key r i) k)

  carried_at_place : (i : ℕ) → i < entries_in (m.count r) → 0 < m.key r i → (c : Carried) × Has c g.carried × (c.word ≡ m.key r i) × (c.value ≡ m.value r i)
  carried_at_place i l k = carried_has (linked_in m r) g same (entry i) (linked_is i l k)

  -- the word of a linked entry counts it
  counted_word : (w : ℕ) (x : Entry) → x.place ≡ w → 0 < w → cond (has_word x) (one_at x.place w) 0 ≡ 1
  counted_word w x e above = ap (λ (b : Bool). cond b (one_at x.place w) 0) (lt-ltb 0 x.place (omega arith)) ∙ one_at-same x.place w e

  words_apart : (i j : ℕ) → i < j → j < entries_in (m.count r) → 0 < m.key r i → m.key r i ≢ m.key r j
  words_apart i j lt l above e = let w : ℕ = m.key r i in let es : List Entry = entries m r (entries_in (m.count r)) in let f : Entry → ℕ = λ x. cond (has_word x) (one_at x.place w) 0 in
      let t = total_two f es i j (entry i) (entry j) (λ q. omega arith) (there_is i (omega arith)) (there_is j l) in
      let a = counted_word w (entry i) refl above in let b = counted_word w (entry j) (sym e) above in let p = total_filter has_word (λ (x : Entry). one_at x.place w) es in let s = same (λ k v. one_at k w) in let d = differ w in omega arith

  -- where each entry has a value, each that is carried does
  carried_valued : AreValued m r (entries_in (m.count r)) → (c : Carried) → Has c g.carried → names_header c.value ≡ 1
  carried_valued valued c h = let n : ℕ = entries_in (m.count r) in let P : Entry → Type 0 = λ e. names_header e.value ≡ 1 in let f : Entry → ℕ = λ e. 1 - names_header e.value in
      let all : Each P (linked_in m r) = subst (Each P) (sym (linked_all m r n valued)) (each_rows P 0 n (entry_at m r) (λ k _ l. (valued k (omega arith)).1)) in let s = same (λ _ v. 1 - names_header v) in
      let t = total_has (λ (x : Carried). 1 - names_header x.value) g.carried c h in named-cases c.value (λ _. names_header c.value ≡ 1) (λ v. v)
      (λ none. dite (dec_lt 0 (total f (linked_in m r))) (λ l. let e = has_some f (linked_in m r) l in let q : names_header e.0.value ≡ 1 = each_has P (linked_in m r) e.0 all e.1 in let k = e.2 in absurd (omega arith)) (λ z. absurd (omega arith)))

  -- links reach the same entries as in the copy
  reached_same : linked m r ≡ reached_in (copy_at z m r)
  reached_same = chain_same farthest (next_held (copy_at z m r)) (m.next r) (m.first r) (each_map (λ j. j < entries_in (m.count r)) (λ j. m.next r j ≡ next_held (copy_at z m r) j) (reached_in (copy_at z m r)) (λ j l. sym (copied_next z m r j (let few = mirrors.few in omega arith))) mirrors.used)

  used_linked : Each (λ j. j < entries_in (m.count r)) (linked m r)
  used_linked = subst (Each (λ j. j < entries_in (m.count r))) (sym reached_same) mirrors.used

  module _ (keys : ℕ → List ℕ) (have : HaveKeys keys g.carried) where
    counted : List ℕ → ℕ → ℕ → ℕ
    counted k w v = cond (names_header v == 1) (one_if (same_key k (keys w))) 0

    one_key : (k : List ℕ) → total (is_of keys k) (kept (linked_in m r)) ≤ 1
    unfolding counted key_in
    one_key k = let a = total_filter has_value (is_of keys k) (linked_in m r) in let s = same (counted k) in let o = stands.once (key_number k) in
        let u = total_under (λ (c : Carried). counted k c.word c.value) (λ (c : Carried). one_at (carried_key c) (key_number k)) g.carried
        (λ c h. named-cases c.value (λ b. cond b (one_if (same_key k (keys c.word))) 0 ≤ one_at (carried_key c) (key_number k))
        (λ v. test-cases (same_key k (keys c.word)) (λ b. one_if b ≤ one_at (carried_key c) (key_number k)) (λ e. let q = one_at-same (carried_key c) (key_number k) (ap key_number (sym (have c h v).is ∙ sym (same_is k (keys c.word) e))) in omega arith) (λ _. omega arith))
        (λ _. omega arith)) in omega arith

    -- where each entry has a value, their keys rise along the links
    keys_along : AreValued m r (entries_in (m.count r)) → KeysRiseAlong keys m r
    unfolding key_in
    keys_along valued i j d lt l = let xs : List ℕ = linked m r in let f : ℕ → ℕ = λ w. key_number (keys w) in
        let number : Rises (λ k. f (m.key r k)) xs = rises_same (λ k. f (word_held (copy_at z m r) k)) (λ k. f (m.key r k)) xs (each_map (λ k. k < entries_in (m.count r)) (λ k. f (m.key r k) ≡ f (word_held (copy_at z m r) k)) xs (λ k u. ap f (sym (copied_word z m r k (let few = mirrors.few in omega arith)))) used_linked)
        (subst (Rises (λ k. f (word_held (copy_at z m r) k))) (sym reached_same) (mirrors.along f (λ c h. ap key_number (have c h (carried_valued valued c h)).is))) in
        let a = named (get_or xs i d) (each_there (λ k. k < entries_in (m.count r)) xs used_linked i d (omega arith)) in let b = named (get_or xs j d) (each_there (λ k. k < entries_in (m.count r)) xs used_linked j d l) in
        key_before_is (keys (m.key r (get_or xs i d))) (keys (m.key r (get_or xs j d))) a.1 b.1 a.0 b.0 (rises_there (λ k. f (m.key r k)) xs number i j d lt l)
      where
        named : (k : ℕ) → k < entries_in (m.count r) → IsKey (keys (m.key r k)) × AreBytes (keys (m.key r k))
        named k u = let v = valued k u in let c = carried_at_place k u v.0 in let n = (have c.0 c.1 (ap names_header c.3 ∙ v.1)).named in (subst (λ (w : ℕ). IsKey (keys w)) c.2 n.key, subst (λ (w : ℕ). AreBytes (keys w)) c.2 n.bytes)

    -- reading may begin
    pub is_held_room : (names : ℕ → Type 0) (gs : List MovingRange) (place : ℕ) → get_elem? gs place ≡ some g → ((c : Carried) → Has c g.carried → names_header c.value ≡ 1 → names c.word) → IsHeldRoom names keys gs m r (entries_in (m.count r))
    is_held_room names gs place at named = record {
      named = λ i l k v. let c = carried_at_place i l k in subst names c.2 (named c.0 c.1 (ap names_header c.3 ∙ v));
      distinct = one_key;
      loose = λ i l k v. let c = carried_at_place i l k in record {
        some_word = k;
        entry = c.0;
        carried = record { place = place; range = g; there = at; has = c.1 };
        word_is = c.2;
        bare = ap names_header c.3 ∙ v;
      };
      apart = words_apart;
      along = keys_along;
    }
