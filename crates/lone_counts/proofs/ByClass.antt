-- The set bits of a class are its blocks that have an owner, counted owner by owner.
use Rattle.std.proofs.Common.{◌≡◌, ℕ, ◌+◌, ◌*◌, ◌<◌, ◌≤◌, sym, refl, ap, ◌∙◌, arith, mul_assoc, List}
use mathlib.Core.Logic.{dite}
use mathlib.Core.Option.{some}
use native.Mathlib.Decide.{ℕ_discrete}
use lib.ListN.{get_elem?}
use Rattle.pin_word.specs.PinWord.{state_of}
use Rattle.oak_model.specs.Limits.{Sizes}
use Rattle.oak_model.specs.Counts.{one_at, total, below}
use Rattle.oak_model.proofs.Counting.{one_at-same, one_at-le, below_same, below_add}
use Rattle.arena_core.specs.Arena.{blocks}
use Rattle.arena_core.specs.Place.{class_in, block_in}
use Rattle.chunk_core.specs.Covers.{Entry}
use Rattle.chunk_core.specs.ValueWord.{names_header, header_in}
use Rattle.header_core.specs.HeaderRule.{stocked}
use Rattle.header_core.specs.Headers.{HeaderMemory}
use Rattle.oak_core.specs.Owners.{has_block, other_owners}
use Rattle.lone_counts.specs.Counted.{numbers, bit_of, set_bits}
use Rattle.lone_counts.specs.Entries.{valued, header_named, has_key_block, is_of_class}
use Rattle.lone_counts.specs.Premises.{BlocksOwned, HeadersStill, owners}
use Rattle.lone_counts.proofs.Sums.{total_same, total_none, total_times, total_swap, total_only, total_unweighed}
use Rattle.lone_counts.proofs.NumberSums.{total_numbers, numbers_at, below_one_at, weighed}
use Rattle.lone_counts.proofs.SetBits.{set_bits_below}

pub valued-le : (e : Entry) → valued e ≤ 1
unfolding names_header
valued-le e = one_at-le _ 1

module _ (z : Sizes) (bits : ℕ → ℕ → ℕ) (m : HeaderMemory) (es : List Entry) (s : BlocksOwned z bits m es) (c : ℕ) where
  stock : ℕ → ℕ
  stock h = stocked (state_of (m.pin h)) * one_at (class_in (m.place h)) c

  headers_is : (b : ℕ) → other_owners z m c b ≡ total (λ h. stock h * one_at (block_in (m.place h)) b) (numbers z.headers)
  unfolding stock
  headers_is b = below_same (has_block m c b) (λ h. stocked (state_of (m.pin h)) * one_at (class_in (m.place h)) c * one_at (block_in (m.place h)) b) z.headers (λ h _. sym (mul_assoc (stocked (state_of (m.pin h))) (one_at (class_in (m.place h)) c) (one_at (block_in (m.place h)) b))) ∙ sym (total_numbers (λ h. stocked (state_of (m.pin h)) * one_at (class_in (m.place h)) c * one_at (block_in (m.place h)) b) z.headers)

  -- each part is 0 from the shape's blocks on
  parts : (b : ℕ) → blocks z c ≤ b → (other_owners z m c b ≡ 0) × (total (has_key_block c b) es ≡ 0)
  parts b le = let y : ℕ = other_owners z m c b in let w : ℕ = total (has_key_block c b) es in let h' : y + w ≡ 0 = s.inside c b le in
      let q : y ≡ 0 = omega arith in let r : w ≡ 0 = omega arith in (q, r)

  headers_part : below (other_owners z m c) (blocks z c) ≡ below (λ h. stocked (state_of (m.pin h)) * one_at (class_in (m.place h)) c) z.headers
  unfolding stock
  headers_part = below_same (other_owners z m c) (λ b. total (λ h. stock h * one_at (block_in (m.place h)) b) (numbers z.headers)) (blocks z c) (λ b _. headers_is b)
      ∙ (weighed stock (λ h. block_in (m.place h)) (numbers z.headers) (blocks z c) (λ b le. sym (headers_is b) ∙ (parts b le).0) ∙ total_numbers stock z.headers)

  entries_part : below (λ b. total (has_key_block c b) es) (blocks z c) ≡ total (is_of_class c) es
  entries_part = weighed (is_of_class c) (λ (e : Entry). block_in e.word) es (blocks z c) (λ b le. (parts b le).1)

  pub by_owners : set_bits z (bits c) c ≡ below (λ h. stocked (state_of (m.pin h)) * one_at (class_in (m.place h)) c) z.headers + total (is_of_class c) es
  by_owners =
      let d = set_bits_below z (bits c) c (s.small c) (λ b le. s.owned c b ∙ s.inside c b le) in
      let e = below_same (bit_of (bits c)) (owners z m es c) (blocks z c) (λ b _. s.owned c b) in
      let f = below_add (other_owners z m c) (λ b. total (has_key_block c b) es) (blocks z c) in
      let q = headers_part in let r = entries_part in
      let x : ℕ = set_bits z (bits c) c in
      let x1 : ℕ = below (bit_of (bits c)) (blocks z c) in
      let x2 : ℕ = below (owners z m es c) (blocks z c) in
      let x4 : ℕ = below (λ b. total (has_key_block c b) es) (blocks z c) in
      let x6 : ℕ = below (other_owners z m c) (blocks z c) in
      let d' : x ≡ x1 = d in let e' : x1 ≡ x2 = e in let f' : x2 ≡ x6 + x4 = f in
      let y2 : ℕ = below (λ h. stocked (state_of (m.pin h)) * one_at (class_in (m.place h)) c) z.headers in let y3 : ℕ = total (is_of_class c) es in
      let q' : x6 ≡ y2 = q in let r' : x4 ≡ y3 = r in
      let w : x ≡ y2 + y3 = omega arith in w

-- the headers of the values, counted entry by entry

module _ (z : Sizes) (m : HeaderMemory) (es : List Entry) (s : HeadersStill z m es) (k : ℕ → ℕ) where
  at_header : (j : ℕ) (e : Entry) → get_elem? es j ≡ some e → total (λ h. header_named h e * k h) (numbers z.headers) ≡ valued e * k (header_in e.value)
  at_header j e at = dite (ℕ_discrete (valued e) 0)
      (λ none. total_unweighed (λ h. header_named h e) k (numbers z.headers) (total_same (λ h. header_named h e) (λ _. 0) (numbers z.headers) (λ i h _. ap (λ (t : ℕ). t * one_at (header_in e.value) h) none ∙ (let q : 0 * one_at (header_in e.value) h ≡ 0 = omega arith in q)) ∙ total_none (numbers z.headers)) ∙ (sym (ap (λ (t : ℕ). t * k (header_in e.value)) none ∙ (let q : 0 * k (header_in e.value) ≡ 0 = omega arith in q))))
      (λ has. let le = valued-le e in let v : valued e ≡ 1 = omega arith in
      let lt = s.inside j e at v in
      let w = total_same (λ h. header_named h e * k h) (λ h. one_at (header_in e.value) h * k h) (numbers z.headers) (λ i h _. ap (λ (t : ℕ). t * one_at (header_in e.value) h * k h) v ∙ ap (λ (t : ℕ). t * k h) (let q : 1 * one_at (header_in e.value) h ≡ one_at (header_in e.value) h = omega arith in q)) in
      let o = total_numbers (λ h. one_at (header_in e.value) h * k h) z.headers in
      let r = picked (header_in e.value) z.headers lt in
      w ∙ (o ∙ (r ∙ sym (ap (λ (t : ℕ). t * k (header_in e.value)) v ∙ (let q : 1 * k (header_in e.value) ≡ k (header_in e.value) = omega arith in q)))))
    where
      picked : (h n : ℕ) → h < n → below (λ j. one_at h j * k j) n ≡ k h
      picked h n lt = sym (total_numbers (λ j. one_at h j * k j) n) ∙ total_only (one_at h) k (numbers n) h h (numbers_at n h lt) (one_at-same h h refl) (let t = total_numbers (one_at h) n in let u = below_one_at n h lt in omega arith)

  pub by_entries : below (λ h. stocked (state_of (m.pin h)) * k h) z.headers ≡ total (λ (e : Entry). valued e * k (header_in e.value)) es
  by_entries =
      let a = below_same (λ h. stocked (state_of (m.pin h)) * k h) (λ h. total (header_named h) es * k h) z.headers (λ h lt. ap (λ (t : ℕ). t * k h) (s.still h ∙ sym (s.named h))) in
      let c = sym (total_numbers (λ h. total (header_named h) es * k h) z.headers) in
      let d = total_same (λ h. total (header_named h) es * k h) (λ h. total (λ e. header_named h e * k h) es) (numbers z.headers) (λ i h e. sym (total_times (header_named h) (k h) es)) in
      let f = total_swap (λ h e. header_named h e * k h) (numbers z.headers) es in
      let g = total_same (λ e. total (λ h. header_named h e * k h) (numbers z.headers)) (λ (e : Entry). valued e * k (header_in e.value)) es at_header in
      a ∙ (c ∙ (d ∙ (f ∙ g)))
