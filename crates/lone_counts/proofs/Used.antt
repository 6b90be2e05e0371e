-- How much of the table is used: the map's blocks and headers, and the key blocks of entries without a value.
use Rattle.std.proofs.Common.{◌≡◌, ℕ, zero, suc, ◌+◌, ◌*◌, ◌≤◌, ◌==◌, ◌&&◌, not, Bool, true, false, List, length, Option, Some, sym, refl, ap, ◌∙◌, arith, eq-eqb}
use Rattle.std.specs.Prelude.{count_by}
use Rattle.std.specs.Option.{option_map_or}
use mathlib.Core.Logic.{dite}
use native.Mathlib.Decide.{ℕ_discrete}
use Rattle.pin_word.specs.PinWord.{state_of, count_of}
use Rattle.oak_model.specs.declared.classes.Class.{Class}
use Rattle.oak_model.specs.declared.replies.Pair.{Pair}
use Rattle.oak_model.specs.Class.{class_number, class_of, has_class, blocks_of}
use Rattle.oak_model.specs.Counts.{one_if, one_at, total, below}
use Rattle.oak_model.specs.Limits.{Sizes}
use Rattle.oak_model.specs.State.{State}
use Rattle.oak_model.proofs.Counting.{below_same, below_add}
use Rattle.arena_core.specs.Place.{IsPlace, class_in, length_in}
use Rattle.chunk_core.specs.Covers.{Entry}
use Rattle.chunk_core.specs.ValueWord.{header_in}
use Rattle.header_core.specs.declared.states.TheConstants.{FREE, OWNED, LIVE, RETIRED}
use Rattle.header_core.specs.HeaderRule.{stocked}
use Rattle.header_core.specs.Headers.{HeaderMemory}
use Rattle.oak_core.specs.Usage.{is_free}
use Rattle.lone_counts.specs.Counted.{set_bits}
use Rattle.lone_counts.specs.Entries.{valued, floored, is_of_class, floor_blocks}
use Rattle.lone_counts.specs.Maps.{IsMapOf}
use Rattle.lone_counts.specs.Premises.{TableStands}
use Rattle.lone_counts.proofs.Sums.{total_same, total_plus, total_ones, total_count}
use Rattle.lone_counts.proofs.ByClass.{by_owners, by_entries, valued-le}
use Rattle.lone_counts.proofs.KeyLaw.{key_law}

-- a header that is neither free nor owned has a block, or is retired
by_state : (s n : ℕ) → n ≡ 0 → s ≤ RETIRED → one_at s OWNED ≡ 0 → stocked s ≡ one_at s LIVE → one_if (not ((s == FREE) && (n == 0))) ≡ stocked s * 1 + one_at s RETIRED
unfolding one_at
by_state zero n none six own still = ap (λ (b : Bool). one_if (not (true && b))) (eq-eqb n 0 none)
by_state (suc zero) n none six own still = absurd (omega arith)
by_state (suc (suc zero)) n none six own still = refl
by_state (suc (suc (suc zero))) n none six own still = refl
by_state (suc (suc (suc (suc zero)))) n none six own still = refl
by_state (suc (suc (suc (suc (suc zero))))) n none six own still = refl
by_state (suc (suc (suc (suc (suc (suc s)))))) n none six own still = absurd (omega arith)

-- bytes of this length have the class that the place word names
class-agrees : (c : Class) (word n : ℕ) → IsPlace word → length_in word ≡ n → one_if (has_class c n) ≡ one_at (class_in word) (class_number c)
unfolding one_at
class-agrees c word n p e =
    let o : class_of n ≡ Some p.class = ap class_of (sym e) ∙ p.fits in
    ap (λ (t : Option Class). one_if (option_map_or (λ d. class_number d == class_number c) t false)) o ∙ ap (λ (t : ℕ). one_if (t == class_number c)) (sym p.is_in)

module _ (z : Sizes) (bits : ℕ → ℕ → ℕ) (m : HeaderMemory) (es : List Entry) (state : List ℕ → State) (t : TableStands z bits m es state) (ps : List Pair) (is : IsMapOf state ps) where
  values_law : (c : Class) → total (λ (p : Pair). one_if (has_class c (length p.value))) ps ≡ total (λ (e : Entry). valued e * one_at (class_in (m.place (header_in e.value))) (class_number c)) es
  values_law c = key_law m es state t.entries ps is (λ (p : Pair). one_if (has_class c (length p.value))) (λ (e : Entry). one_at (class_in (m.place (header_in e.value))) (class_number c))
      (λ j e p there s v key held. let b = s.value v in let same : Some b.0 ≡ Some p.value = sym b.1 ∙ held in let one : b.0 ≡ p.value = cc in class-agrees c (m.place (header_in e.value)) (length p.value) b.3 (b.2 ∙ ap (λ (l : List ℕ). length l) one))

  keys_law : (c : Class) → total (λ (p : Pair). one_if (has_class c (length p.key))) ps ≡ total (λ (e : Entry). valued e * is_of_class (class_number c) e) es
  keys_law c = key_law m es state t.entries ps is (λ (p : Pair). one_if (has_class c (length p.key))) (λ (e : Entry). is_of_class (class_number c) e)
      (λ j e p there s v key held. class-agrees c e.word (length p.key) s.placed (s.long ∙ ap (λ (l : List ℕ). length l) (sym key)))

  -- as many entries have a value as the map has keys
  pub entries_law : length ps ≡ total valued es
  entries_law = sym (total_ones ps) ∙ (key_law m es state t.entries ps is (λ _. 1) (λ _. 1) (λ j e p there s v key held. refl) ∙ total_same (λ (e : Entry). valued e * 1) valued es (λ j e _. let q : valued e * 1 ≡ valued e = omega arith in q))

  blocks_law : (c : Class) → blocks_of ps c ≡ total (λ (e : Entry). valued e * is_of_class (class_number c) e) es + total (λ (e : Entry). valued e * one_at (class_in (m.place (header_in e.value))) (class_number c)) es
  blocks_law c =
      let k = total_count (λ (p : Pair). has_class c (length p.key)) ps ∙ keys_law c in
      let v = total_count (λ (p : Pair). has_class c (length p.value)) ps ∙ values_law c in
      ap (λ (n : ℕ). n + count_by (λ (p : Pair). has_class c (length p.value)) ps) k ∙ ap (λ (n : ℕ). total (λ (e : Entry). valued e * is_of_class (class_number c) e) es + n) v

  -- an entry has a value or a floor
  split_entries : (c : ℕ) → total (is_of_class c) es ≡ total (λ (e : Entry). valued e * is_of_class c e) es + floor_blocks c es
  split_entries c = total_same (is_of_class c) (λ (e : Entry). valued e * is_of_class c e + floored e * is_of_class c e) es (λ j e _. either e) ∙ total_plus (λ (e : Entry). valued e * is_of_class c e) (λ (e : Entry). floored e * is_of_class c e) es
    where
      either : (e : Entry) → is_of_class c e ≡ valued e * is_of_class c e + floored e * is_of_class c e
      either e = let le = valued-le e in let k : ℕ = is_of_class c e in dite (ℕ_discrete (valued e) 0)
          (λ none. let f : floored e ≡ 1 = omega arith in let u : valued e * k ≡ 0 = ap (λ (n : ℕ). n * k) none ∙ (let q : 0 * k ≡ 0 = omega arith in q) in let w : floored e * k ≡ k = ap (λ (n : ℕ). n * k) f ∙ (let q : 1 * k ≡ k = omega arith in q) in
          let x : ℕ = valued e * k in let y : ℕ = floored e * k in let u' : x ≡ 0 = u in let w' : y ≡ k = w in let r : k ≡ x + y = omega arith in r)
          (λ v. let one : valued e ≡ 1 = omega arith in let f : floored e ≡ 0 = omega arith in let u : valued e * k ≡ k = ap (λ (n : ℕ). n * k) one ∙ (let q : 1 * k ≡ k = omega arith in q) in let w : floored e * k ≡ 0 = ap (λ (n : ℕ). n * k) f ∙ (let q : 0 * k ≡ 0 = omega arith in q) in
          let x : ℕ = valued e * k in let y : ℕ = floored e * k in let u' : x ≡ k = u in let w' : y ≡ 0 = w in let r : k ≡ x + y = omega arith in r)

  -- the set bits of a class: the map's blocks, and those of keys whose entry has no value
  pub set_bits_are : (c : Class) → set_bits z (bits (class_number c)) (class_number c) ≡ blocks_of ps c + floor_blocks (class_number c) es
  set_bits_are c =
      let n : ℕ = class_number c in
      let o = by_owners z bits m es t.blocks n in
      let h = by_entries z m es t.headers (λ k. one_at (class_in (m.place k)) n) in
      let s = split_entries n in
      let b = blocks_law c in
      let x : ℕ = set_bits z (bits n) n in
      let x2 : ℕ = below (λ k. stocked (state_of (m.pin k)) * one_at (class_in (m.place k)) n) z.headers in
      let x3 : ℕ = total (is_of_class n) es in
      let x4 : ℕ = total (λ (e : Entry). valued e * one_at (class_in (m.place (header_in e.value))) n) es in
      let x6 : ℕ = total (λ (e : Entry). valued e * is_of_class n e) es in
      let x7 : ℕ = floor_blocks n es in
      let x8 : ℕ = blocks_of ps c in
      let o' : x ≡ x2 + x3 = o in let h' : x2 ≡ x4 = h in let s' : x3 ≡ x6 + x7 = s in let b' : x8 ≡ x6 + x4 = b in
      let r : x ≡ x8 + x7 = omega arith in r

  -- the headers that are not free: the map's, and the retired ones
  pub headers_are : below (λ h. one_if (not (is_free (m.pin h)))) z.headers ≡ length ps + below (λ h. one_at (state_of (m.pin h)) RETIRED) z.headers
  headers_are =
      let e = below_same (λ h. one_if (not (is_free (m.pin h)))) (λ h. stocked (state_of (m.pin h)) * 1 + one_at (state_of (m.pin h)) RETIRED) z.headers (λ h _. by_state (state_of (m.pin h)) (count_of (m.pin h)) (t.headers.unpinned h) (t.headers.six h) (t.headers.unowned h) (t.headers.still h)) in
      let p = below_add (λ h. stocked (state_of (m.pin h)) * 1) (λ h. one_at (state_of (m.pin h)) RETIRED) z.headers in
      let n = by_entries z m es t.headers (λ _. 1) in
      let l = entries_law in
      let v = total_same (λ (e : Entry). valued e * 1) valued es (λ j e _. let q : valued e * 1 ≡ valued e = omega arith in q) in
      let x : ℕ = below (λ h. one_if (not (is_free (m.pin h)))) z.headers in
      let x0 : ℕ = below (λ h. stocked (state_of (m.pin h)) * 1 + one_at (state_of (m.pin h)) RETIRED) z.headers in
      let x1 : ℕ = below (λ h. stocked (state_of (m.pin h)) * 1) z.headers in
      let x3 : ℕ = below (λ h. one_at (state_of (m.pin h)) RETIRED) z.headers in
      let x5 : ℕ = total (λ (e : Entry). valued e * 1) es in
      let x7 : ℕ = total valued es in
      let e' : x ≡ x0 = e in let p' : x0 ≡ x1 + x3 = p in let n' : x1 ≡ x5 = n in let v' : x5 ≡ x7 = v in let l' : length ps ≡ x7 = l in
      let r : x ≡ length ps + x3 = omega arith in r
