-- Why a line or a word was not taken.
use Rattle.std.specs.Prelude.{◌≡◌, ℕ, ◌*◌, List, [], ◌∷◌, length, ⊤}
use Rattle.hex.specs.Hex.{encode_lower, IsBytes}
use Rattle.oak_script.specs.declared.faults.What.{What}
use Rattle.oak_script.specs.declared.stops.Stop.{Stop}
use Rattle.oak_script.specs.declared.stops.Stop.TheVariants.{Fault, OutOfMemory}

-- the first of these faults is told, or memory ran out
abbrev pub Stops : Stop → List What → Type 0
Stops OutOfMemory faults = ⊤
Stops (Fault w) [] = ⊥
Stops (Fault w) (x ∷ more) = w ≡ x

-- the word spells the bytes
pub record ReadsWord (bytes word : List ℕ) : Type 0 where
  pub spelled : encode_lower bytes ≡ word
  pub in_range : IsBytes bytes
  pub twice : length word ≡ 2 * length bytes
