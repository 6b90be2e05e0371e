-- The blocks of the headers that a pass holds, where its headers change: which stay, and that the numbers kept with them are true.
use Rattle.std.proofs.Common.{◌≡◌, ℕ, ◌+◌, ◌*◌, ◌==◌, cond, Bool, true, false, List, [], ◌∷◌, ◌++◌, sym, refl, ◌∙◌, arith, eqb-true, inl, inr}
use Rattle.oak_model.specs.Counts.{one_if, one_at, total, Each, Has}
use Rattle.oak_model.specs.Kept.{KeptWord, AreTrueTo}
use Rattle.oak_model.proofs.Lists.{each_append}
use Rattle.oak_model.proofs.Counting.{test-cases}
use Rattle.oak_model.proofs.RowLaws.{each_first, each_rest}
use Rattle.arena_core.specs.declared.blocks.HeldBlock.{HeldBlock}
use Rattle.arena_core.specs.Arena.{ArenaSpot}
use Rattle.arena_core.specs.HeldBlocks.{kept_of_block, kept_of_blocks}
use Rattle.arena_core.specs.Place.{class_in, block_in, class_from}
use Rattle.header_core.specs.declared.states.TheConstants.{OWNED}
use Rattle.header_core.specs.declared.holds.HeldAs.{HeldAs}
use Rattle.header_core.specs.declared.holds.HeldAs.TheVariants.{Owned, Fresh, Locked, Buried}
use Rattle.header_core.specs.declared.holds.HeldHeader.{HeldHeader}
use Rattle.header_core.specs.HeaderHolds.{held_state, without_header}
use Rattle.header_core.specs.HeaderRule.{stocked}
use Rattle.header_core.specs.HeaderStep.{placed_at, stamped_at, freshened, changed_at, buried_at}
use Rattle.header_core.proofs.HeldHeaders.{rows_in, stocked_in}
use Rattle.oak_core.specs.Owners.{block_of_header, blocks_of_header, header_blocks}

-- the place word of a header without a block, or the stamp word of any, becomes another, or a locked header is buried: the blocks stay

unstocked_blocks : (s : HeldAs) (r : HeldHeader) → stocked (held_state s) ≡ 0 → blocks_of_header s r ≡ []
unfolding one_at
unstocked_blocks Owned r e = refl
unstocked_blocks Fresh r e = absurd (omega arith)
unstocked_blocks (Locked at) r e = absurd (omega arith)
unstocked_blocks Buried r e = absurd (omega arith)

placed_one : (x : ℕ) (s : HeldAs) (t : Bool) (r : HeldHeader) → one_if t * stocked (held_state s) ≡ 0 → blocks_of_header s (record r { place = cond t x r.place }) ≡ blocks_of_header s r
placed_one x s true r e = let none : stocked (held_state s) ≡ 0 = omega arith in unstocked_blocks s (record r { place = x }) none ∙ sym (unstocked_blocks s r none)
placed_one x s false r e = refl

pub blocks_placed-same : (h x : ℕ) (rs : List HeldHeader) → stocked_in h rs ≡ 0 → header_blocks (placed_at h x rs) ≡ header_blocks rs
unfolding total one_at
blocks_placed-same h x [] e = refl
blocks_placed-same h x (r ∷ rs) e = let w : ℕ = one_if (r.header == h) * stocked (held_state r.held_as) in let u : ℕ = stocked_in h rs in let e' : w + u ≡ 0 = e in
    (λ i. placed_one x r.held_as (r.header == h) r (omega arith) i ++ blocks_placed-same h x rs (omega arith) i)

stamped_one : (x : ℕ) (s : HeldAs) (r : HeldHeader) → blocks_of_header s (record r { stamp = x }) ≡ blocks_of_header s r
stamped_one x Owned r = refl
stamped_one x Fresh r = refl
stamped_one x (Locked at) r = refl
stamped_one x Buried r = refl

pub blocks_stamped-same : (h x : ℕ) (rs : List HeldHeader) → header_blocks (stamped_at h x rs) ≡ header_blocks rs
blocks_stamped-same h x [] = refl
blocks_stamped-same h x (r ∷ rs) = (λ i. stamped_one (cond (r.header == h) x r.stamp) r.held_as r i ++ blocks_stamped-same h x rs i)

buried_one : (s : HeldAs) (t : Bool) (r : HeldHeader) → one_if t * one_at (held_state s) OWNED ≡ 0 → blocks_of_header (cond t Buried s) (record r { held_as = cond t Buried s }) ≡ blocks_of_header s r
unfolding one_at
buried_one Owned true r e = absurd (omega arith)
buried_one Owned false r e = refl
buried_one Fresh t r e = elim t as (λ u. blocks_of_header (cond u Buried Fresh) (record r { held_as = cond u Buried Fresh }) ≡ block_of_header r ∷ []) [ true ↦ refl | false ↦ refl ]
buried_one (Locked at) t r e = elim t as (λ u. blocks_of_header (cond u Buried (Locked at)) (record r { held_as = cond u Buried (Locked at) }) ≡ block_of_header r ∷ []) [ true ↦ refl | false ↦ refl ]
buried_one Buried t r e = elim t as (λ u. blocks_of_header (cond u Buried Buried) (record r { held_as = cond u Buried Buried }) ≡ block_of_header r ∷ []) [ true ↦ refl | false ↦ refl ]

pub blocks_buried : (h : ℕ) (rs : List HeldHeader) → rows_in h OWNED rs ≡ 0 → header_blocks (buried_at h rs) ≡ header_blocks rs
unfolding total one_at
blocks_buried h [] e = refl
blocks_buried h (r ∷ rs) e = let w : ℕ = one_if (r.header == h) * one_at (held_state r.held_as) OWNED in let u : ℕ = rows_in h OWNED rs in let e' : w + u ≡ 0 = e in
    (λ i. buried_one r.held_as (r.header == h) r (omega arith) i ++ blocks_buried h rs (omega arith) i)

-- the numbers kept with the blocks are true

abbrev pub IsTrueBlock : (ArenaSpot → ℕ) → HeldBlock → Type 0
IsTrueBlock read g = AreTrueTo read (kept_of_block g)

pub blocks_true : (read : ArenaSpot → ℕ) (gs : List HeldBlock) → AreTrueTo read (kept_of_blocks gs) → Each (IsTrueBlock read) gs
unfolding kept_of_blocks
blocks_true read [] t = tt
blocks_true read (g ∷ gs) t = let P = λ (w : KeptWord ArenaSpot). read w.spot ≡ w.number in (each_first P (kept_of_block g) (kept_of_blocks gs) t, blocks_true read gs (each_rest P (kept_of_block g) (kept_of_blocks gs) t))

pub true_blocks : (read : ArenaSpot → ℕ) (gs : List HeldBlock) → Each (IsTrueBlock read) gs → AreTrueTo read (kept_of_blocks gs)
unfolding kept_of_blocks
true_blocks read [] t = tt
true_blocks read (g ∷ gs) t = let P = λ (w : KeptWord ArenaSpot). read w.spot ≡ w.number in each_append P (kept_of_block g) (kept_of_blocks gs) t.0 (true_blocks read gs t.1)

pub true_blocks_without : (read : ArenaSpot → ℕ) (h : ℕ) (rs : List HeldHeader) → Each (IsTrueBlock read) (header_blocks rs) → Each (IsTrueBlock read) (header_blocks (without_header h rs))
true_blocks_without read h [] t = tt
true_blocks_without read h (r ∷ rs) t = let a = each_first (IsTrueBlock read) (blocks_of_header r.held_as r) (header_blocks rs) t in let b = true_blocks_without read h rs (each_rest (IsTrueBlock read) (blocks_of_header r.held_as r) (header_blocks rs) t) in
    elim (r.header == h) as (λ u. Each (IsTrueBlock read) (header_blocks (cond u (without_header h rs) (r ∷ without_header h rs))))
    [ true ↦ b | false ↦ each_append (IsTrueBlock read) (blocks_of_header r.held_as r) (header_blocks (without_header h rs)) a b ]

pub true_freshened : (read : ArenaSpot → ℕ) (h : ℕ) (words : List ℕ) (rs : List HeldHeader) → Each (IsTrueBlock read) (header_blocks rs) → ((r : HeldHeader) → Has r rs → r.header ≡ h → IsTrueBlock read (block_of_header (record r { words = words })))
    → Each (IsTrueBlock read) (header_blocks (freshened h words rs))
true_freshened read h words [] t new = tt
true_freshened read h words (r ∷ rs) t new = let a = each_first (IsTrueBlock read) (blocks_of_header r.held_as r) (header_blocks rs) t in
    let b = true_freshened read h words rs (each_rest (IsTrueBlock read) (blocks_of_header r.held_as r) (header_blocks rs) t) (λ q has e. new q (inr has) e) in
    each_append (IsTrueBlock read) (blocks_of_header (cond (r.header == h) Fresh r.held_as) (record r { held_as = cond (r.header == h) Fresh r.held_as; words = cond (r.header == h) words r.words })) (header_blocks (freshened h words rs))
    (test-cases (r.header == h) (λ u. Each (IsTrueBlock read) (blocks_of_header (cond u Fresh r.held_as) (record r { held_as = cond u Fresh r.held_as; words = cond u words r.words })))
    (λ u. (new r (inl refl) (eqb-true _ _ u), tt)) (λ _. a)) b

pub true_changed : (read : ArenaSpot → ℕ) (h x : ℕ) (words : List ℕ) (rs : List HeldHeader) → Each (IsTrueBlock read) (header_blocks rs) → IsTrueBlock read record { class = class_from (class_in x); number = block_in x; words = words } → Each (IsTrueBlock read) (header_blocks (changed_at h x words rs))
true_changed read h x words [] t new = tt
true_changed read h x words (r ∷ rs) t new = let a = each_first (IsTrueBlock read) (blocks_of_header r.held_as r) (header_blocks rs) t in
    let b = true_changed read h x words rs (each_rest (IsTrueBlock read) (blocks_of_header r.held_as r) (header_blocks rs) t) new in
    each_append (IsTrueBlock read) (blocks_of_header r.held_as (record r { place = cond (r.header == h) x r.place; words = cond (r.header == h) words r.words })) (header_blocks (changed_at h x words rs))
    (elim (r.header == h) as (λ u. Each (IsTrueBlock read) (blocks_of_header r.held_as (record r { place = cond u x r.place; words = cond u words r.words }))) [ true ↦ true_one r.held_as | false ↦ a ]) b
  where
    true_one : (s : HeldAs) → Each (IsTrueBlock read) (blocks_of_header s (record r { place = x; words = words }))
    true_one Owned = tt
    true_one Fresh = (new, tt)
    true_one (Locked at) = (new, tt)
    true_one Buried = (new, tt)
