-- What calls that read a room load of it.
use Rattle.std.specs.Prelude.{◌≡◌, ℕ, suc, ◌+◌, ◌*◌, ◌<◌, ◌≤◌, List, [], ◌∷◌, ◌++◌, length}
use Rattle.oak_model.specs.Counts.{Each}
use Rattle.arena_core.specs.Words.{word_at}
use Rattle.chunk_ops.specs.Room.{Room, HasFound, key_at}

-- a word that was loaded, with the number found: a key word, or a word of the block that it names
pub data Met : Type 0 where
  met_key : ℕ → ℕ → Met
  met_block : ℕ → ℕ → ℕ → Met

abbrev pub is_key_load : Met → ℕ
is_key_load (met_key i n) = 1
is_key_load (met_block w j n) = 0

-- how many of them are key words of entries
unfoldable pub key_loads : List Met → ℕ
key_loads [] = 0
key_loads (m ∷ ms) = is_key_load m + key_loads ms

-- they are words of the block that w names, one behind the other from the j-th on, each once
abbrev pub AreWords : ℕ → ℕ → List Met → Type 0
AreWords w j [] = Unit {0}
AreWords w j (m ∷ ms) = ((n : ℕ) × (m ≡ met_block w j n)) × AreWords w (suc j) ms

-- The key word of entry i was loaded, and then words of its block, each once: one behind another, no more than either key has, and none behind the first in which the keys differ.
pub record ReadsKey (i : ℕ) (a b : List ℕ) (ms : List Met) : Type 0 where
  pub word : ℕ
  pub words : List Met
  pub is : ms ≡ met_key i word ∷ words
  pub each : AreWords word 0 words
  pub first : 8 * length words < length a + 8
  pub second : 8 * length words < length b + 8
  pub tied : ℕ
  pub agree : (j : ℕ) → j < tied → word_at a j ≡ word_at b j
  pub stops : length words ≤ tied + 1

abbrev pub LoadsKey : {S : Type 0} → (S → S → List Met → Type 0) → ℕ → List ℕ → List ℕ → S → S → Type 0
LoadsKey meets i a b s t = (ms : List Met) × meets s t ms × ReadsKey i a b ms

-- the key of one entry was compared with k
abbrev pub Compares : List ℕ → Room → List Met → Type 0
Compares k r ms = (i : ℕ) × HasFound r i × ReadsKey i k (key_at r i) ms

-- lists one behind the other
abbrev pub joined : List (List Met) → List Met
joined [] = []
joined (part ∷ parts) = part ++ joined parts

-- parts with P, one behind the other, and nothing else
abbrev pub AreReadings : (List Met → Type 0) → List Met → Type 0
AreReadings P ms = (parts : List (List Met)) × (ms ≡ joined parts) × Each P parts

-- From s to t the room was read, one key behind another as P says, by at most n loads of key words, and stands as it did.
pub record Reads {S : Type 0} (pinned : S → Type 0) (room : S → Room) (meets : S → S → List Met → Type 0) (P : Room → List Met → Type 0) (n : ℕ) (s t : S) : Type 0 where
  pub pin : pinned t
  pub same : room t ≡ room s
  pub more : List Met
  pub on : meets s t more
  pub each : AreReadings (P (room t)) more
  pub few : key_loads more ≤ n
