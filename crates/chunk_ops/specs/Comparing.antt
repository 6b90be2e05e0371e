-- What is known of two keys while they are compared word by word.
use Rattle.std.specs.Prelude.{◌≡◌, ℕ, ◌+◌, ◌*◌, ◌<◌, List, ◌∷◌, length}
use Rattle.arena_core.specs.Words.{word_at}
use Rattle.chunk_ops.specs.Reads.{Met, met_key, AreWords}

-- the first n words are the same, and neither key ends ahead of the last of them
pub record AreTied (n : ℕ) (a b : List ℕ) : Type 0 where
  pub agree : (j : ℕ) → j < n → word_at a j ≡ word_at b j
  pub first : 8 * n < length a + 8
  pub second : 8 * n < length b + 8

-- the key word of entry e was loaded, and then i words of its block
abbrev pub Loaded : {S : Type 0} → (S → S → List Met → Type 0) → ℕ → ℕ → ℕ → S → S → Type 0
Loaded meets e w i s t = (ws : List Met) × meets s t (met_key e w ∷ ws) × AreWords w 0 ws × (length ws ≡ i)
