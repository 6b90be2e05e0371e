-- What the blocks of the headers that a pass holds count, where its headers change.
use Rattle.std.proofs.Common.{◌≡◌, ℕ, ◌+◌, ◌*◌, ◌≤◌, ◌==◌, cond, List, [], ◌∷◌, ◌++◌, refl, ap, ◌∙◌, arith}
use Rattle.oak_model.specs.Counts.{one_if, one_at, total}
use Rattle.oak_model.specs.declared.classes.Class.{Class}
use Rattle.oak_model.proofs.Counting.{test-cases, total_append}
use Rattle.arena_core.specs.declared.blocks.HeldBlock.{HeldBlock}
use Rattle.arena_core.specs.Place.{class_in, block_in, class_from}
use Rattle.arena_core.proofs.BlockSums.{weigh}
use Rattle.header_core.specs.declared.states.TheConstants.{OWNED}
use Rattle.header_core.specs.declared.holds.HeldAs.{HeldAs}
use Rattle.header_core.specs.declared.holds.HeldAs.TheVariants.{Owned, Fresh, Locked, Buried}
use Rattle.header_core.specs.declared.holds.HeldHeader.{HeldHeader}
use Rattle.header_core.specs.HeaderHolds.{held_state, place_held, without_header}
use Rattle.header_core.specs.HeaderRule.{stocked}
use Rattle.header_core.specs.HeaderStep.{freshened, changed_at}
use Rattle.header_core.proofs.HeldHeaders.{held_in, rows_in, stocked_in, rows_split}
use Rattle.oak_core.specs.Owners.{blocks_of_header, header_blocks}

-- what the block counts that a place word names, and that of a held header where it has a block

abbrev pub of_place : (Class → ℕ → ℕ) → ℕ → ℕ
of_place F place = F (class_from (class_in place)) (block_in place)

abbrev pub header_weight : (Class → ℕ → ℕ) → HeldHeader → ℕ
header_weight F r = stocked (held_state r.held_as) * of_place F r.place

counted_once : (x : ℕ) → x + 0 ≡ 1 * x
counted_once x = omega arith

weigh_one : (F : Class → ℕ → ℕ) (s : HeldAs) (r : HeldHeader) → weigh F (blocks_of_header s r) ≡ stocked (held_state s) * of_place F r.place
unfolding total one_at
weigh_one F Owned r = let x : ℕ = of_place F r.place in let e : 0 ≡ 0 * x = omega arith in e
weigh_one F Fresh r = counted_once (of_place F r.place)
weigh_one F (Locked at) r = counted_once (of_place F r.place)
weigh_one F Buried r = counted_once (of_place F r.place)

pub weigh_headers : (F : Class → ℕ → ℕ) (rs : List HeldHeader) → weigh F (header_blocks rs) ≡ total (header_weight F) rs
unfolding total
weigh_headers F [] = refl
weigh_headers F (r ∷ rs) = let a = total_append (λ (g : HeldBlock). F g.class g.number) (blocks_of_header r.held_as r) (header_blocks rs) in let b = weigh_one F r.held_as r in let t = weigh_headers F rs in
    let x : ℕ = weigh F (blocks_of_header r.held_as r ++ header_blocks rs) in let y : ℕ = weigh F (blocks_of_header r.held_as r) in let w : ℕ = header_weight F r in let u : ℕ = weigh F (header_blocks rs) in let s : ℕ = total (header_weight F) rs in
    let a' : x ≡ y + u = a in let b' : y ≡ w = b in let t' : u ≡ s = t in let e : x ≡ w + s = omega arith in e

-- a header that is not held is not missed
pub without_unheld : (h : ℕ) (rs : List HeldHeader) → held_in h rs ≡ 0 → without_header h rs ≡ rs
unfolding total one_at
without_unheld h [] e = refl
without_unheld h (r ∷ rs) e = test-cases (r.header == h) (λ t. one_if t + held_in h rs ≡ 0 → cond t (without_header h rs) (r ∷ without_header h rs) ≡ r ∷ rs)
    (λ _ z. absurd (omega arith)) (λ _ z. ap (λ (l : List HeldHeader). r ∷ l) (without_unheld h rs (omega arith))) e

-- a header that is in a list once: here, or among the rest

once_here : (n k f : ℕ) → k ≡ 0 → (1 * n + k) * f ≡ n * f
once_here n k f z = ap (λ (i : ℕ). i * f) (let e : 1 * n + k ≡ n = omega arith in e)

not_here : (n k f : ℕ) → (0 * n + k) * f ≡ k * f
not_here n k f = ap (λ (i : ℕ). i * f) (let e : 0 * n + k ≡ k = omega arith in e)

none_of : (k f : ℕ) → k ≡ 0 → k * f ≡ 0
none_of k f z = ap (λ (i : ℕ). i * f) z ∙ (let e : 0 * f ≡ 0 = omega arith in e)

-- a held header has a block, or is owned
either_held : (s : HeldAs) (f : ℕ) → stocked (held_state s) * f + one_at (held_state s) OWNED * f ≡ 1 * f
unfolding one_at
either_held Owned f = let e : 0 * f + 1 * f ≡ 1 * f = omega arith in e
either_held Fresh f = let e : 1 * f + 0 * f ≡ 1 * f = omega arith in e
either_held (Locked at) f = let e : 1 * f + 0 * f ≡ 1 * f = omega arith in e
either_held Buried f = let e : 1 * f + 0 * f ≡ 1 * f = omega arith in e

module _ (F : Class → ℕ → ℕ) where
  abbrev W : HeldHeader → ℕ
  W = header_weight F

  -- without a header its block counts no more
  pub weight_without : (h : ℕ) (rs : List HeldHeader) → held_in h rs ≤ 1 → total W (without_header h rs) + stocked_in h rs * of_place F (place_held h rs) ≡ total W rs
  unfolding total one_at
  weight_without h [] le = let x : ℕ = of_place F 0 in let e : 0 + 0 * x ≡ 0 = omega arith in e
  weight_without h (r ∷ rs) le = let n : ℕ = stocked (held_state r.held_as) in let k : ℕ = stocked_in h rs in let a : ℕ = total W (without_header h rs) in let b : ℕ = total W rs in
      test-cases (r.header == h)
      (λ t. one_if t + held_in h rs ≤ 1 → total W (cond t (without_header h rs) (r ∷ without_header h rs)) + (one_if t * stocked (held_state r.held_as) + stocked_in h rs) * of_place F (cond t r.place (place_held h rs)) ≡ W r + total W rs)
      (λ _ l. let f : ℕ = of_place F r.place in let s : a ≡ b = ap (total W) (without_unheld h rs (omega arith)) in let p = rows_split h rs in
      let x : ℕ = (1 * n + k) * f in let y : ℕ = n * f in let o : x ≡ y = once_here n k f (omega arith) in let e : a + x ≡ y + b = omega arith in e)
      (λ _ l. let f : ℕ = of_place F (place_held h rs) in let w : ℕ = W r in
      let x : ℕ = (0 * n + k) * f in let y : ℕ = k * f in let o : x ≡ y = not_here n k f in let t : a + y ≡ b = weight_without h rs (omega arith) in let e : (w + a) + x ≡ w + b = omega arith in e) le

  -- an owned header that becomes fresh counts its block
  pub weight_freshened : (h : ℕ) (words : List ℕ) (rs : List HeldHeader) → held_in h rs ≤ 1 → total W (freshened h words rs) ≡ total W rs + rows_in h OWNED rs * of_place F (place_held h rs)
  unfolding total one_at
  weight_freshened h words [] le = let x : ℕ = of_place F 0 in let e : 0 ≡ 0 + 0 * x = omega arith in e
  weight_freshened h words (r ∷ rs) le = let n : ℕ = one_at (held_state r.held_as) OWNED in let k : ℕ = rows_in h OWNED rs in let g : ℕ = of_place F (place_held h rs) in let a : ℕ = total W (freshened h words rs) in let b : ℕ = total W rs in
      test-cases (r.header == h)
      (λ t. one_if t + held_in h rs ≤ 1 → stocked (held_state (cond t Fresh r.held_as)) * of_place F r.place + total W (freshened h words rs)
      ≡ (W r + total W rs) + (one_if t * one_at (held_state r.held_as) OWNED + rows_in h OWNED rs) * of_place F (cond t r.place (place_held h rs)))
      (λ _ l. let f : ℕ = of_place F r.place in let p = rows_split h rs in let kg : ℕ = k * g in let none : kg ≡ 0 = none_of k g (omega arith) in let t : a ≡ b + kg = weight_freshened h words rs (omega arith) in
      let x : ℕ = (1 * n + k) * f in let y : ℕ = n * f in let o : x ≡ y = once_here n k f (omega arith) in let v : ℕ = stocked (held_state r.held_as) * f in let u : v + y ≡ 1 * f = either_held r.held_as f in let e : 1 * f + a ≡ (v + b) + x = omega arith in e)
      (λ _ l. let w : ℕ = W r in
      let x : ℕ = (0 * n + k) * g in let y : ℕ = k * g in let o : x ≡ y = not_here n k g in let t : a ≡ b + y = weight_freshened h words rs (omega arith) in let e : w + a ≡ (w + b) + x = omega arith in e) le

  -- a header whose place word becomes x counts the block that x names in place of its own
  pub weight_changed : (h x : ℕ) (words : List ℕ) (rs : List HeldHeader) → held_in h rs ≤ 1 → total W (changed_at h x words rs) + stocked_in h rs * of_place F (place_held h rs) ≡ total W rs + stocked_in h rs * of_place F x
  unfolding total one_at
  weight_changed h x words [] le = let u : ℕ = of_place F 0 in let v : ℕ = of_place F x in let e : 0 + 0 * u ≡ 0 + 0 * v = omega arith in e
  weight_changed h x words (r ∷ rs) le = let n : ℕ = stocked (held_state r.held_as) in let k : ℕ = stocked_in h rs in let g : ℕ = of_place F (place_held h rs) in let j : ℕ = of_place F x in
      let a : ℕ = total W (changed_at h x words rs) in let b : ℕ = total W rs in let kg : ℕ = k * g in let kj : ℕ = k * j in
      test-cases (r.header == h)
      (λ t. one_if t + held_in h rs ≤ 1 → (stocked (held_state r.held_as) * of_place F (cond t x r.place) + total W (changed_at h x words rs)) + (one_if t * stocked (held_state r.held_as) + stocked_in h rs) * of_place F (cond t r.place (place_held h rs))
      ≡ (W r + total W rs) + (one_if t * stocked (held_state r.held_as) + stocked_in h rs) * of_place F x)
      (λ _ l. let f : ℕ = of_place F r.place in let p = rows_split h rs in let z : k ≡ 0 = omega arith in let t : a + kg ≡ b + kj = weight_changed h x words rs (omega arith) in let z1 : kg ≡ 0 = none_of k g z in let z2 : kj ≡ 0 = none_of k j z in
      let xf : ℕ = (1 * n + k) * f in let nf : ℕ = n * f in let o : xf ≡ nf = once_here n k f z in let xj : ℕ = (1 * n + k) * j in let nj : ℕ = n * j in let q : xj ≡ nj = once_here n k j z in let e : (nj + a) + xf ≡ (nf + b) + xj = omega arith in e)
      (λ _ l. let w : ℕ = W r in let t : a + kg ≡ b + kj = weight_changed h x words rs (omega arith) in
      let xg : ℕ = (0 * n + k) * g in let o : xg ≡ kg = not_here n k g in let xj : ℕ = (0 * n + k) * j in let q : xj ≡ kj = not_here n k j in let e : (w + a) + xg ≡ (w + b) + xj = omega arith in e) le
