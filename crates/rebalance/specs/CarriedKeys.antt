-- The keys that carried entries have by their key words alone.
use Rattle.std.specs.Prelude.{◌≡◌, ℕ, List}
use Rattle.oak_model.specs.Counts.{Has}
use Rattle.chunk_core.specs.declared.holds.Carried.{Carried}
use Rattle.chunk_core.specs.KeyWords.{key_bytes}
use Rattle.chunk_core.specs.ValueWord.{names_header}
use Rattle.rebalance.specs.HeldRooms.{IsNamed}

-- the entry's key is that of its key word
pub record HasKey (keys : ℕ → List ℕ) (c : Carried) : Type 0 where
  pub is : keys c.word ≡ key_bytes c.word c.words
  pub named : IsNamed c.word (keys c.word)

-- so is each one's that has a value
abbrev pub HaveKeys : (ℕ → List ℕ) → List Carried → Type 0
HaveKeys keys cs = (c : Carried) → Has c cs → names_header c.value ≡ 1 → HasKey keys c
