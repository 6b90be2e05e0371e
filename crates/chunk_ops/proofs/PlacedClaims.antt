-- What a pass has claimed that adds an entry with the block of a place: the key word is 0, or the place, and with the place the block is the entry's.
use Rattle.std.proofs.Common.{◌≡◌, ℕ, ◌<◌, ◌⊎◌, ◌==◌, Bool, cond, List, [], ◌∷◌, refl, ap, ◌∙◌, arith, inr, ne_eqb, lt-ltb, nat_lt, Option, Some, None}
use Rattle.std.specs.Prelude.{not}
use Rattle.oak_model.specs.declared.classes.Class.{Class}
use Rattle.oak_model.specs.Class.{class_number}
use Rattle.oak_model.proofs.Counting.{test-cases}
use Rattle.arena_core.specs.declared.blocks.HeldBlock.{HeldBlock}
use Rattle.arena_core.specs.declared.blocks.HeldBlocks.{HeldBlocks}
use Rattle.arena_core.specs.Blocks.{block_from, is_block, without}
use Rattle.arena_core.specs.Place.{block_in, class_from, class_in}
use Rattle.arena_core.proofs.HeldLists.{is_block-true}
use Rattle.arena_core.proofs.PlaceLaws.{class_from-number}
use Rattle.chunk_core.specs.declared.holds.Claim.{Claim}
use Rattle.chunk_core.specs.RoomCopies.{claim_after, claim_with}
use Rattle.chunk_core.specs.RoomRule.{OnClaim}
use Rattle.chunk_core.specs.RoomStep.{of_key, of_next, of_value}
use Rattle.oak_core.specs.Memory.{Memory}
use Rattle.oak_core.specs.Step.{blocks_owned}
use Rattle.arena_ops.specs.Storing.{given}

-- the key word of what is claimed is 0, or the place
abbrev pub ClaimsPlace : ℕ → Option Claim → Type 0
ClaimsPlace place o = OnClaim (λ c. (c.entry.word ≡ 0) ⊎ (c.entry.word ≡ place)) o

pub without_twice : (c b : ℕ) (hs : List HeldBlock) → without c b (without c b hs) ≡ without c b hs
without_twice c b [] = refl
without_twice c b (h ∷ hs) = test-cases (is_block c b h) (λ t. is_block c b h ≡ t → without c b (cond t (without c b hs) (h ∷ without c b hs)) ≡ cond t (without c b hs) (h ∷ without c b hs))
    (λ _ _. without_twice c b hs) (λ _ e. ap (λ (t : Bool). cond t (without c b (without c b hs)) (h ∷ without c b (without c b hs))) e ∙ ap (λ (l : List HeldBlock). h ∷ l) (without_twice c b hs)) refl

module _ (place : ℕ) (bytes : ℕ → List ℕ) where
  pub after_value : (x : ℕ) (o : Option Claim) → ClaimsPlace place o → ClaimsPlace place (claim_after bytes of_value x o)
  after_value x None h = tt
  after_value x (Some c) h = h

  pub after_next : (x : ℕ) (o : Option Claim) → ClaimsPlace place o → ClaimsPlace place (claim_after bytes of_next x o)
  after_next x None h = tt
  after_next x (Some c) h = h

  pub after_key : (o : Option Claim) → ClaimsPlace place (claim_after bytes of_key place o)
  after_key None = tt
  after_key (Some c) = test-cases (place == 0) (λ t. ClaimsPlace place (cond (not t) (Some (claim_with bytes of_key place c)) None)) (λ _. tt) (λ _. inr refl)

  pub after_drop : (o : Option Claim) → ClaimsPlace place (claim_after bytes of_key 0 o)
  after_drop None = tt
  after_drop (Some c) = tt

module _ (place : ℕ) (c : Class) (b : ℕ) (class : class_in place ≡ class_number c) (block : block_in place ≡ b) (some_place : 0 < place) where
  -- the block, given to the entry and given back
  pub block_gone : (held : HeldBlocks) (word : ℕ) (m : Memory) → given c b (blocks_owned word place m held) ≡ given c b held
  block_gone held word m = let hs = held.held in
      ap (λ (t : Bool). record held { held = without (class_number c) b (cond t (cond (nat_lt 0 word) (block_from m.arena.bytes (class_from (class_in word)) (block_in word) ∷ hs) hs) (without (class_in place) (block_in place) hs)) }) (ne_eqb place 0 (let s = some_place in omega arith))
      ∙ ((λ j. record held { held = without (class_number c) b (without (class j) (block j) hs) }) ∙ ap (λ (l : List HeldBlock). record held { held = l }) (without_twice (class_number c) b hs))

  pub block_back : (held : HeldBlocks) (m : Memory) → given c b (blocks_owned place 0 m held) ≡ given c b held
  block_back held m = let h : HeldBlock = block_from m.arena.bytes (class_from (class_in place)) (block_in place) in
      ap (λ (t : Bool). record held { held = without (class_number c) b (cond t (h ∷ held.held) held.held) }) (lt-ltb 0 place some_place)
      ∙ ap (λ (t : Bool). record held { held = cond t (without (class_number c) b held.held) (h ∷ without (class_number c) b held.held) })
      (is_block-true (class_number c) b h (ap class_number (ap class_from class ∙ class_from-number c)) block)

  pub none_back : (held : HeldBlocks) (m : Memory) (word : ℕ) → word ≡ 0 → given c b (blocks_owned word 0 m held) ≡ given c b held
  none_back held m word e = ap (λ (y : ℕ). given c b (blocks_owned y 0 m held)) e
