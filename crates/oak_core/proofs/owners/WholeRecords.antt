-- Records of held headers that have a number for each word of their blocks, where one of them changes.
use Rattle.std.proofs.Common.{◌≡◌, ℕ, ◌*◌, ◌<◌, ◌==◌, cond, List, [], ◌∷◌, map, length, set, length-set, refl, ap, ◌∙◌, arith, inl, inr, eqb-true}
use Rattle.oak_model.specs.Counts.{one_at, total, Each, Has}
use Rattle.oak_model.proofs.Counting.{test-cases, one_at-same}
use Rattle.oak_model.proofs.Lists.{rows_length, each_append}
use Rattle.arena_core.specs.Arena.{block_words}
use Rattle.arena_core.specs.Blocks.{IsWhole}
use Rattle.arena_core.specs.Place.{class_in, block_in, content}
use Rattle.header_core.specs.declared.states.TheConstants.{OWNED}
use Rattle.header_core.specs.declared.holds.HeldAs.{HeldAs}
use Rattle.header_core.specs.declared.holds.HeldAs.TheVariants.{Owned, Fresh, Locked, Buried}
use Rattle.header_core.specs.declared.holds.HeldHeader.{HeldHeader}
use Rattle.header_core.specs.Headers.{HeaderMemory}
use Rattle.header_core.specs.HeaderHolds.{held_state, without_header}
use Rattle.header_core.specs.HeaderRule.{stocked}
use Rattle.header_core.specs.HeaderStep.{placed_at, stamped_at, freshened, changed_at, reworded, buried_at, owned_at, locked_at}
use Rattle.oak_model.proofs.MemberLaws.{total_has}
use Rattle.header_core.proofs.HeldHeaders.{rows_in, stocked_in}
use Rattle.header_core.proofs.HeldChanges.{each_without}
use Rattle.oak_core.specs.Owners.{block_of_header, blocks_of_header, header_blocks, IsWholeHeader}

pub content_length : (bytes : ℕ → ℕ → ℕ → ℕ) (word : ℕ) → length (content bytes word) ≡ block_words (class_in word)
content_length bytes word = rows_length 0 (block_words (class_in word)) (bytes (class_in word) (block_in word))

-- a record of the header in the list, of which the sum counts none, counts nothing itself
pub none_of : (f : HeldHeader → ℕ) (h : ℕ) (rs : List HeldHeader) → total (λ (r : HeldHeader). one_at r.header h * f r) rs ≡ 0 → (r : HeldHeader) → Has r rs → r.header ≡ h → f r ≡ 0
none_of f h rs none r has e = let t = total_has (λ (x : HeldHeader). one_at x.header h * f x) rs r has in let o = one_at-same r.header h e in
    let x : ℕ = f r in let y : ℕ = one_at r.header h * x in let y' : y ≡ 1 * x = ap (λ (n : ℕ). n * x) o in omega arith

-- what holds of each is kept by a change of each
each_mapped : (f : HeldHeader → HeldHeader) (rs : List HeldHeader) → ((r : HeldHeader) → Has r rs → IsWholeHeader r → IsWholeHeader (f r)) → Each IsWholeHeader rs → Each IsWholeHeader (map f rs)
each_mapped f [] change e = tt
each_mapped f (r ∷ rs) change e = (change r (inl refl) e.0, each_mapped f rs (λ q has. change q (inr has)) e.1)

-- a header that is held, and not owned, has a block
pub has_one : (s : HeldAs) → one_at (held_state s) OWNED ≡ 0 → 0 < stocked (held_state s)
unfolding one_at
has_one Owned none = absurd (omega arith)
has_one Fresh none = omega arith
has_one (Locked at) none = omega arith
has_one Buried none = omega arith

module _ (h : ℕ) (rs : List HeldHeader) (whole : Each IsWholeHeader rs) where
  pub whole_placed : (x : ℕ) → stocked_in h rs ≡ 0 → Each IsWholeHeader (placed_at h x rs)
  whole_placed x none = each_mapped (λ (r : HeldHeader). record r { place = cond (r.header == h) x r.place }) rs
      (λ r has w. test-cases (r.header == h) (λ t. 0 < stocked (held_state r.held_as) → length r.words ≡ block_words (class_in (cond t x r.place)))
      (λ t pos. let z = none_of (λ (q : HeldHeader). stocked (held_state q.held_as)) h rs none r has (eqb-true _ _ t) in absurd (omega arith)) (λ _. w)) whole

  pub whole_stamped : (x : ℕ) → Each IsWholeHeader (stamped_at h x rs)
  whole_stamped x = each_mapped (λ (r : HeldHeader). record r { stamp = cond (r.header == h) x r.stamp }) rs (λ r has w. w) whole

  pub whole_changed : (x : ℕ) (words : List ℕ) → length words ≡ block_words (class_in x) → Each IsWholeHeader (changed_at h x words rs)
  whole_changed x words long = each_mapped (λ (r : HeldHeader). record r { place = cond (r.header == h) x r.place; words = cond (r.header == h) words r.words }) rs
      (λ r has w. test-cases (r.header == h) (λ t. 0 < stocked (held_state r.held_as) → length (cond t words r.words) ≡ block_words (class_in (cond t x r.place))) (λ _ _. long) (λ _. w)) whole

  pub whole_freshened : (words : List ℕ) → ((r : HeldHeader) → Has r rs → r.header ≡ h → length words ≡ block_words (class_in r.place)) → Each IsWholeHeader (freshened h words rs)
  whole_freshened words long = each_mapped (λ (r : HeldHeader). record r { held_as = cond (r.header == h) Fresh r.held_as; words = cond (r.header == h) words r.words }) rs
      (λ r has w. test-cases (r.header == h) (λ t. 0 < stocked (held_state (cond t Fresh r.held_as)) → length (cond t words r.words) ≡ block_words (class_in r.place)) (λ t _. long r has (eqb-true _ _ t)) (λ _. w)) whole

  pub whole_buried : rows_in h OWNED rs ≡ 0 → Each IsWholeHeader (buried_at h rs)
  whole_buried none = each_mapped (λ (r : HeldHeader). record r { held_as = cond (r.header == h) Buried r.held_as }) rs
      (λ r has w. test-cases (r.header == h) (λ t. 0 < stocked (held_state (cond t Buried r.held_as)) → length r.words ≡ block_words (class_in r.place))
      (λ t _. w (has_one r.held_as (none_of (λ (q : HeldHeader). one_at (held_state q.held_as) OWNED) h rs none r has (eqb-true _ _ t)))) (λ _. w)) whole

  pub whole_without : Each IsWholeHeader (without_header h rs)
  whole_without = each_without IsWholeHeader h rs whole

  pub whole_owned : (m : HeaderMemory) → Each IsWholeHeader (owned_at m h ∷ rs)
  unfolding one_at
  whole_owned m = ((λ pos. absurd (omega arith)), whole)

  pub whole_locked : (m : HeaderMemory) (bytes : ℕ → ℕ → ℕ → ℕ) → Each IsWholeHeader (locked_at m (content bytes) h ∷ rs)
  whole_locked m bytes = ((λ _. content_length bytes (m.place h)), whole)

  pub whole_reworded : (k x : ℕ) → Each IsWholeHeader (reworded h k x rs)
  whole_reworded k x = each_mapped (λ (r : HeldHeader). record r { words = cond (r.header == h) (set r.words k x) r.words }) rs
      (λ r has w. test-cases (r.header == h) (λ t. 0 < stocked (held_state r.held_as) → length (cond t (set r.words k x) r.words) ≡ block_words (class_in r.place)) (λ _ pos. length-set r.words k x ∙ w pos) (λ _. w)) whole

-- so the blocks of headers are whole, where their places have one of the classes

one_block : (t : HeldAs) (r : HeldHeader) → (stocked (held_state t) ≡ 1 → IsWhole (block_of_header r)) → Each IsWhole (blocks_of_header t r)
unfolding one_at
one_block Owned r one = tt
one_block Fresh r one = (one refl, tt)
one_block (Locked at) r one = (one refl, tt)
one_block Buried r one = (one refl, tt)

pub whole_blocks : (rs : List HeldHeader) → ((r : HeldHeader) → Has r rs → stocked (held_state r.held_as) ≡ 1 → IsWhole (block_of_header r)) → Each IsWhole (header_blocks rs)
whole_blocks [] each = tt
whole_blocks (r ∷ rs) each = each_append IsWhole (blocks_of_header r.held_as r) (header_blocks rs) (one_block r.held_as r (each r (inl refl))) (whole_blocks rs (λ q has. each q (inr has)))
