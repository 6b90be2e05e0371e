-- The blocks of the headers that passes hold, summed over all passes: no more than the headers own.
use Rattle.std.proofs.Common.{◌≡◌, ℕ, zero, suc, ◌+◌, ◌*◌, ◌<◌, ◌≤◌, List, [], ◌∷◌, map, refl, sym, ap, ◌∙◌, subst, arith, inl, inr, mul-le-mul_right}
use mathlib.Core.Logic.{dite}
use mathlib.Core.Option.{some}
use native.Mathlib.Decide.{dec_lt}
use lib.ListN.{get_elem?}
use Rattle.pin_word.specs.PinWord.{state_of}
use Rattle.oak_model.specs.Limits.{Sizes}
use Rattle.oak_model.specs.Counts.{one_at, total, below, Has}
use Rattle.oak_model.proofs.Lists.{at_map, at_unmap}
use Rattle.oak_model.proofs.Counting.{one_at-same, one_at-other, total_zero, below_same}
use Rattle.arena_core.specs.Place.{IsPlace, class_in, block_in, class_from, names_block, content}
use Rattle.arena_core.proofs.BlockSums.{only, only_named}
use Rattle.header_core.specs.declared.states.TheConstants.{RETIRED}
use Rattle.header_core.specs.declared.holds.HeldAs.{HeldAs}
use Rattle.header_core.specs.declared.holds.HeldAs.TheVariants.{Owned, Fresh, Locked, Buried}
use Rattle.header_core.specs.declared.holds.HeldHeader.{HeldHeader}
use Rattle.header_core.specs.declared.holds.HeaderHolds.{HeaderHolds}
use Rattle.header_core.specs.HeaderHolds.{held_state}
use Rattle.header_core.specs.HeaderRule.{stocked}
use Rattle.oak_model.proofs.SumLaws.{total_sum}
use Rattle.header_core.proofs.HeldHeaders.{stocked_in, rows_have}
use Rattle.header_core.proofs.HeaderFacts.{true_numbers, held_is, stocked_most}
use Rattle.oak_core.specs.Known.{known}
use Rattle.oak_core.specs.Memory.{Memory, memory}
use Rattle.oak_core.specs.Owners.{other_owners, has_block, has_in_headers}
use Rattle.oak_core.specs.PassState.{headers_held, knowledge_of, kept_of}
use Rattle.oak_core.specs.TableState.{TableState}
use Rattle.oak_core.specs.Rule.{Rule}
use Rattle.oak_core.proofs.owners.OwnerLaws.{used_inside, live_inside, below_le, below_less, below_zero, below_other, place_below}
use Rattle.oak_core.proofs.owners.HeaderWeights.{header_weight, weigh_headers}
use Rattle.oak_core.proofs.owners.KeptWords.{parts_of}

module _ {A : Type 0} where
  -- a sum of sums in the other order
  pub total_of_below : (f : A → ℕ → ℕ) (xs : List A) (n : ℕ) → total (λ x. below (f x) n) xs ≡ below (λ h. total (λ x. f x h) xs) n
  unfolding below
  total_of_below f xs zero = total_zero (λ x. 0) xs (λ i x e. refl)
  total_of_below f xs (suc n) = let t = total_of_below f xs n in let s = total_sum (λ x. below (f x) n + f x n) (λ x. below (f x) n) (λ x. f x n) xs (λ x. refl) in omega arith

  total_alike : (f g : A → ℕ) (xs : List A) → ((i : ℕ) (x : A) → get_elem? xs i ≡ some x → Has x xs → f x ≡ g x) → total f xs ≡ total g xs
  unfolding total
  total_alike f g [] same = refl
  total_alike f g (x ∷ xs) same = let a = same zero x refl (inl refl) in let t = total_alike f g xs (λ i y e has. same (suc i) y e (inr has)) in omega arith

  total_times : (f : A → ℕ) (k : ℕ) (xs : List A) → total (λ x. f x * k) xs ≡ total f xs * k
  unfolding total
  total_times f k [] = let e : 0 ≡ 0 * k = omega arith in e
  total_times f k (x ∷ xs) = let t = total_times f k xs in let y : ℕ = f x in let s : ℕ = total f xs in let u : ℕ = total (λ x. f x * k) xs in let t' : u ≡ s * k = t in ap (λ (i : ℕ). y * k + i) t' ∙ (let e : y * k + s * k ≡ (y + s) * k = grind arith in e)

-- a sum of which one number counts
below_only : (g : ℕ → ℕ) (n a : ℕ) → a < n → below (λ h. one_at a h * g h) n ≡ g a
below_only g n a lt = let f = λ (h : ℕ). one_at a h * g h in
    let o = below_other f (λ h. 0) n a lt (λ k ne. ap (λ (i : ℕ). i * g k) (one_at-other a k (λ e. ne (sym e))) ∙ (let x : ℕ = g k in let e : 0 * x ≡ 0 = omega arith in e)) in let z = below_zero (λ h. 0) n (λ h. refl) in
    let x : ℕ = g a in let s : f a ≡ x = ap (λ (i : ℕ). i * x) (one_at-same a a refl) ∙ (let e : 1 * x ≡ x = omega arith in e) in omega arith

-- products that are alike where the first number is positive
times_alike : (s x y : ℕ) → (0 < s → x ≡ y) → s * x ≡ s * y
times_alike s x y same = dite (dec_lt 0 s) (λ l. ap (λ (i : ℕ). s * i) (same l)) (λ no. let z : s ≡ 0 = omega arith in subst (λ (i : ℕ). i * x ≡ i * y) (sym z) (let e : 0 * x ≡ 0 * y = omega arith in e))

-- what a pass holds is in one of the states between free and retired
pub held_in_state : (q : HeldAs) → (0 < held_state q) × (held_state q < RETIRED)
held_in_state Owned = ((omega arith), (omega arith))
held_in_state Fresh = ((omega arith), (omega arith))
held_in_state (Locked at) = ((omega arith), (omega arith))
held_in_state Buried = ((omega arith), (omega arith))

module _ (z : Sizes) (s : TableState) (r : Rule z s) where
  abbrev m : Memory
  m = memory z s.words

  abbrev hs : List HeaderHolds
  hs = map headers_held s.states

  abbrev named : ℕ → ℕ → ℕ → ℕ
  named c b h = names_block c b (m.headers.place h)

  -- what a held header weighs is what the table says of it
  weighs : (j : ℕ) (a : HeaderHolds) → get_elem? hs j ≡ some a → (x : HeldHeader) → Has x a.held → (c b : ℕ) → header_weight (only c b) x ≡ below (λ h. one_at x.header h * stocked (held_state x.held_as) * named c b h) z.headers
  weighs j a at x has c b =
      let u = at_unmap headers_held s.states j a at in let true_to = (parts_of m u.0.blocks u.0.headers (r.kept.true_to j (kept_of u.0) (at_map kept_of s.states j u.0 u.1))).headers in
      let place : m.headers.place x.header ≡ x.place = (true_numbers m.headers u.0.headers.held x true_to (subst (λ (y : HeaderHolds). Has x y.held) (sym u.2) has)).0 in let in_it = held_in_state x.held_as in
      let state : state_of (m.headers.pin x.header) ≡ held_state x.held_as = held_is m.headers (content m.arena.bytes) IsPlace (known (map knowledge_of s.states)) hs r.headers j a x.header (held_state x.held_as) at in_it.0 in_it.1 (rows_have x.header (held_state x.held_as) a.held x has refl refl) in
      let inside : x.header < z.headers = used_inside z s.words x.header (let pos = in_it.0 in omega arith) in
      let one : stocked (held_state x.held_as) * only c b (class_from (class_in x.place)) (block_in x.place) ≡ stocked (held_state x.held_as) * named c b x.header =
      times_alike (stocked (held_state x.held_as)) (only c b (class_from (class_in x.place)) (block_in x.place)) (named c b x.header)
      (λ pos. let lt = place_below (m.headers.place x.header) (r.headers.placed x.header (subst (λ (i : ℕ). 0 < stocked i) (sym state) pos)) in
      ap (λ (w : ℕ). only c b (class_from (class_in w)) (block_in w)) (sym place) ∙ only_named c b (m.headers.place x.header) lt) in
      one ∙ (sym (below_only (λ h. stocked (held_state x.held_as) * named c b h) z.headers x.header inside)
      ∙ below_same (λ h. one_at x.header h * (stocked (held_state x.held_as) * named c b h)) (λ h. one_at x.header h * stocked (held_state x.held_as) * named c b h) z.headers
      (λ h _. let i : ℕ = one_at x.header h in let k : ℕ = stocked (held_state x.held_as) in let n : ℕ = named c b h in let e : i * (k * n) ≡ i * k * n = grind arith in e))

  -- how often a pass has the headers that have the block
  pub in_headers_of : (j : ℕ) (a : HeaderHolds) → get_elem? hs j ≡ some a → (c b : ℕ) → has_in_headers c b a ≡ below (λ h. stocked_in h a.held * named c b h) z.headers
  in_headers_of j a at c b = weigh_headers (only c b) a.held
      ∙ (total_alike (header_weight (only c b)) (λ (x : HeldHeader). below (λ h. one_at x.header h * stocked (held_state x.held_as) * named c b h) z.headers) a.held (λ i x e has. weighs j a at x has c b)
      ∙ (total_of_below (λ (x : HeldHeader) (h : ℕ). one_at x.header h * stocked (held_state x.held_as) * named c b h) a.held z.headers
      ∙ below_same (λ h. total (λ (x : HeldHeader). one_at x.header h * stocked (held_state x.held_as) * named c b h) a.held) (λ h. stocked_in h a.held * named c b h) z.headers
      (λ h _. total_times (λ (x : HeldHeader). one_at x.header h * stocked (held_state x.held_as)) (named c b h) a.held)))

  -- and how often all passes have them
  pub in_headers_by : (c b : ℕ) → total (has_in_headers c b) hs ≡ below (λ h. total (λ (a : HeaderHolds). stocked_in h a.held) hs * names_block c b (m.headers.place h)) z.headers
  in_headers_by c b = total_alike (has_in_headers c b) (λ (a : HeaderHolds). below (λ h. stocked_in h a.held * named c b h) z.headers) hs (λ j a at _. in_headers_of j a at c b)
      ∙ (total_of_below (λ (a : HeaderHolds) (h : ℕ). stocked_in h a.held * named c b h) hs z.headers
      ∙ below_same (λ h. total (λ (a : HeaderHolds). stocked_in h a.held * named c b h) hs) (λ h. total (λ (a : HeaderHolds). stocked_in h a.held) hs * named c b h) z.headers
      (λ h _. total_times (λ (a : HeaderHolds). stocked_in h a.held) (named c b h) hs))

  most : (c b h : ℕ) → total (λ (a : HeaderHolds). stocked_in h a.held) hs * named c b h ≤ has_block m.headers c b h
  most c b h = mul-le-mul_right (named c b h) (stocked_most m.headers (content m.arena.bytes) IsPlace (known (map knowledge_of s.states)) hs r.headers h)

  -- the block of a header that a pass holds is one that the header owns
  pub headers_own : (c b : ℕ) → total (has_in_headers c b) hs ≤ other_owners z m.headers c b
  headers_own c b = let e = in_headers_by c b in let l = below_le (λ h. total (λ (a : HeaderHolds). stocked_in h a.held) hs * named c b h) (has_block m.headers c b) z.headers (most c b) in omega arith

  -- and that of a header which no pass holds is in no pass's headers
  pub unheld_owns : (h c b : ℕ) → 0 < stocked (state_of (m.headers.pin h)) → total (λ (a : HeaderHolds). stocked_in h a.held) hs ≡ 0 → total (has_in_headers c b) hs + names_block c b (m.headers.place h) ≤ other_owners z m.headers c b
  unheld_owns h c b stock none = let e = in_headers_by c b in
      let l = below_less (λ h. total (λ (a : HeaderHolds). stocked_in h a.held) hs * named c b h) (has_block m.headers c b) z.headers h (live_inside z s.words h stock) (most c b) in
      let n : ℕ = named c b h in let zero_of : total (λ (a : HeaderHolds). stocked_in h a.held) hs * named c b h ≡ 0 = ap (λ (i : ℕ). i * n) none ∙ (let q : 0 * n ≡ 0 = omega arith in q) in
      let all : 1 * named c b h ≤ has_block m.headers c b h = mul-le-mul_right (named c b h) stock in omega arith
