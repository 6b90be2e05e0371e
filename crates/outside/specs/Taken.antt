-- What a write takes of a piece.
use Rattle.std.specs.Prelude.{ℕ, ◌<◌, ◌≤◌, List, length, take, Option, Result, MatchResult}
use Rattle.std.specs.Io.KnownBytes.{Appends}

-- known bytes grew by some first bytes of the piece, or by none
abbrev pub AppendsFront : Option (List ℕ) → Option (List ℕ) → List ℕ → Type 0
AppendsFront old new piece = (n : ℕ) × Appends old new (take n piece)

-- known bytes grew by the first bytes of the piece, so many: at least one, unless it is empty
pub record TakesFront (old new : Option (List ℕ)) (count : ℕ) (piece : List ℕ) : Type 0 where
  pub bound : count ≤ length piece
  pub some : 0 < length piece → 0 < count
  pub bytes : Appends old new (take count piece)

-- what a write of a piece did, by its answer
abbrev pub WriteTakes :
    {E : Type 0} → Option (List ℕ) → Option (List ℕ) → Result ℕ E → List ℕ → Type 0
WriteTakes old new result piece =
    MatchResult result (λ n. TakesFront old new n piece) (λ _. AppendsFront old new piece)
