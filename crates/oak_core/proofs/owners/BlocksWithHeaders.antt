-- Blocks have one owner each after a step on a word of a header.
use Rattle.std.proofs.Common.{◌≡◌, ℕ, ◌+◌, ◌*◌, ◌<◌, ◌⊎◌, ◌==◌, cond, true, false, List, ◌∷◌, set, sym, ap, ◌∙◌, subst, arith, inl, inr, eqb-true}
use mathlib.Core.Option.{some}
use lib.ListN.{get_elem?}
use Rattle.pin_word.specs.PinWord.{state_of}
use Rattle.oak_model.specs.Limits.{Sizes}
use Rattle.oak_model.specs.Counts.{one_at, total}
use Rattle.oak_model.specs.Class.{class_number}
use Rattle.oak_model.specs.declared.classes.Class.{Class}
use Rattle.oak_model.proofs.Lists.{set_again, rows_length}
use Rattle.oak_model.proofs.Counting.{test-cases, both_true}
use Rattle.oak_model.proofs.Changes.{stepped}
use Rattle.arena_core.specs.declared.blocks.HeldBlock.{HeldBlock}
use Rattle.arena_core.specs.declared.blocks.HeldBlocks.{HeldBlocks}
use Rattle.arena_core.specs.Arena.{block_words}
use Rattle.arena_core.specs.Blocks.{BlocksAreOwned, block_from, without}
use Rattle.arena_core.specs.Place.{class_in, block_in, class_from, names_block}
use Rattle.arena_core.proofs.BlockSums.{weigh, weigh_without, only, only_named}
use Rattle.arena_core.proofs.HeldLists.{here, whole_without}
use Rattle.arena_core.proofs.OwnedBlocks.{blocks_frame}
use Rattle.arena_core.proofs.PlaceLaws.{class_number-from}
use Rattle.header_core.specs.Headers.{HeaderMemory, at_pin, at_place}
use Rattle.header_core.specs.HeaderRule.{stocked}
use Rattle.header_core.specs.HeaderStep.{put_header}
use Rattle.oak_core.specs.Owners.{other_owners}
use Rattle.oak_core.specs.Step.{same_block, block_back, block_exchanged}
use Rattle.oak_core.proofs.owners.HeaderWeights.{of_place}
use Rattle.oak_core.proofs.owners.HeaderOwners.{pin_owners-more, pin_owners-less, place_owners}

-- the owners are as many as before, and the pass holds what it held
pub owned_alike : (z : Sizes) (bits o o' : ℕ → ℕ → ℕ) (bs : List HeldBlocks) (seat : ℕ) (a : HeldBlocks) → get_elem? bs seat ≡ some a → ((c b : ℕ) → o' c b ≡ o c b) → BlocksAreOwned z bits o bs → BlocksAreOwned z bits o' (set bs seat a)
owned_alike z bits o o' bs seat a at same r = subst (BlocksAreOwned z bits o') (sym (set_again bs seat a at)) record {
  owned = λ c b. let e = same c b in let w = r.owned c b in omega arith;
  inside = λ c b le. let e = same c b in let w = r.inside c b le in omega arith;
  whole = r.whole;
}

-- the headers that have a block, with the entries that do
abbrev pub with_others : (ℕ → ℕ → ℕ) → Sizes → HeaderMemory → ℕ → ℕ → ℕ
with_others entries z m c b = other_owners z m c b + entries c b

-- a held block that a place word names, counted
pub held_alike : (F : Class → ℕ → ℕ) (w : ℕ) (bs : List HeldBlock) → class_in w < 4 → total (here (class_in w) (block_in w)) bs ≡ 1 → weigh F (without (class_in w) (block_in w) bs) + of_place F w ≡ weigh F bs
held_alike F w bs lt once =
    let out = subst (λ (n : ℕ). weigh F (without n (block_in w) bs) + total (here n (block_in w)) bs * of_place F w ≡ weigh F bs) (class_number-from (class_in w) lt) (weigh_without F (class_from (class_in w)) (block_in w) bs) in
    let k : ℕ = of_place F w in let o : ℕ = total (here (class_in w) (block_in w)) bs * k in let o' : o ≡ k = ap (λ (i : ℕ). i * k) once ∙ (let e : 1 * k ≡ k = omega arith in e) in
    let x : ℕ = weigh F (without (class_in w) (block_in w) bs) in let y : ℕ = weigh F bs in let out' : x + o ≡ y = out in let res : x + k ≡ y = omega arith in res

pub held_named : (c b w : ℕ) (bs : List HeldBlock) → class_in w < 4 → total (here (class_in w) (block_in w)) bs ≡ 1 → weigh (only c b) (without (class_in w) (block_in w) bs) + names_block c b w ≡ weigh (only c b) bs
held_named c b w bs lt once = ap (λ (n : ℕ). weigh (only c b) (without (class_in w) (block_in w) bs) + n) (sym (only_named c b w lt)) ∙ held_alike (only c b) w bs lt once

module _ (z : Sizes) (m : HeaderMemory) (bits entries : ℕ → ℕ → ℕ) (bs : List HeldBlocks) (seat h x : ℕ) (a : HeldBlocks) (at : get_elem? bs seat ≡ some a) (inside : h < z.headers) (r : BlocksAreOwned z bits (with_others entries z m) bs) (lt : class_in (m.place h) < 4) where
  abbrev w : ℕ
  w = m.place h

  -- the pin word becomes x: an owned header is opened with a block that the pass held
  pub open_owned : stocked (state_of x) ≡ 1 → stocked (state_of (m.pin h)) ≡ 0 → total (here (class_in w) (block_in w)) a.held ≡ 1
      → BlocksAreOwned z bits (with_others entries z (put_header m (at_pin h) x)) (set bs seat (record a { held = without (class_in w) (block_in w) a.held }))
  unfolding total
  open_owned after before once = blocks_frame z bits (with_others entries z m) (with_others entries z (put_header m (at_pin h) x)) (stepped bs seat a (record a { held = without (class_in w) (block_in w) a.held }) at) r
      (whole_without (class_in w) (block_in w) a.held (r.whole seat a at), tt)
      (λ c n. let d = pin_owners-more z m h x c n inside after before in let e = held_named c n w a.held lt once in omega arith)

  -- or a header gives its block back, and the pass holds it
  pub block_back-owned : stocked (state_of x) ≡ 0 → stocked (state_of (m.pin h)) ≡ 1 → (bytes : ℕ → ℕ → ℕ → ℕ) → BlocksAreOwned z bits (with_others entries z (put_header m (at_pin h) x)) (set bs seat (block_back bytes w a))
  unfolding total
  block_back-owned after before bytes = blocks_frame z bits (with_others entries z m) (with_others entries z (put_header m (at_pin h) x)) (stepped bs seat a (block_back bytes w a) at) r
      ((rows_length 0 (block_words (class_number (class_from (class_in w)))) (bytes (class_number (class_from (class_in w))) (block_in w)), r.whole seat a at), tt)
      (λ c n. let d = pin_owners-less z m h x c n inside after before in let k : only c n (class_from (class_in w)) (block_in w) ≡ names_block c n w = only_named c n w lt in omega arith)

  -- the place word of a header with a block becomes x: it names its block still, or one that the pass held, which is exchanged for the old one
  module _ (stock : stocked (state_of (m.pin h)) ≡ 1) (low : class_in x < 4) (bytes : ℕ → ℕ → ℕ → ℕ) where
    abbrev m' : HeaderMemory
    m' = put_header m (at_place h) x

    abbrev old : HeldBlock
    old = block_from bytes (class_from (class_in w)) (block_in w)

    given_up : same_block x w ≡ false → (same_block x w ≡ true) ⊎ (total (here (class_in x) (block_in x)) a.held ≡ 1) → total (here (class_in x) (block_in x)) a.held ≡ 1
    given_up f (inl t) = let q : false ≡ true = sym f ∙ t in absurd cc
    given_up f (inr held) = held

    pub change_owned : (same_block x w ≡ true) ⊎ (total (here (class_in x) (block_in x)) a.held ≡ 1) → BlocksAreOwned z bits (with_others entries z m') (set bs seat (block_exchanged bytes w x a))
    unfolding total
    change_owned may = test-cases (same_block x w) (λ t. BlocksAreOwned z bits (with_others entries z m') (set bs seat (record a { held = cond t a.held (old ∷ without (class_in x) (block_in x) a.held) })))
        (λ same. owned_alike z bits (with_others entries z m) (with_others entries z m') bs seat a at
        (λ c n. let d = place_owners z m h x c n inside stock in let e : names_block c n x ≡ names_block c n w = (let p = both_true (class_in x == class_in w) (block_in x == block_in w) same in λ i. one_at (eqb-true _ _ p.0 i) c * one_at (eqb-true _ _ p.1 i) n) in omega arith) r)
        (λ other. let once = given_up other may in blocks_frame z bits (with_others entries z m) (with_others entries z m') (stepped bs seat a (record a { held = old ∷ without (class_in x) (block_in x) a.held }) at) r
        ((rows_length 0 (block_words (class_number (class_from (class_in w)))) (bytes (class_number (class_from (class_in w))) (block_in w)), whole_without (class_in x) (block_in x) a.held (r.whole seat a at)), tt)
        (λ c n. let d = place_owners z m h x c n inside stock in let e = held_named c n x a.held low once in let k : only c n (class_from (class_in w)) (block_in w) ≡ names_block c n w = only_named c n w lt in omega arith))
