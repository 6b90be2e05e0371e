-- The key of a life, as a pass knows it: from an entry that it loaded, or from a write that it has seen.
use Rattle.std.specs.Prelude.{ℕ, ◌==◌, ◌&&◌, cond, Bool, true, false, List, [], ◌∷◌, Option, Some, None}
use Rattle.chunk_core.specs.ValueWord.{names_life}
use Rattle.oak_core.specs.declared.states.KeyedWrite.{KeyedWrite}
use Rattle.oak_core.specs.declared.states.KnownLife.{KnownLife}
use Rattle.oak_core.specs.declared.states.Knowledge.{Knowledge}

-- the first of the two that is there
abbrev pub first_of : Option (List ℕ) → Option (List ℕ) → Option (List ℕ)
first_of None o = o
first_of (Some key) o = Some key

-- the key of a write of the life of the header h at the generation g
unfoldable pub key_in_log : ℕ → ℕ → List KeyedWrite → Option (List ℕ)
key_in_log h g [] = None
key_in_log h g (w ∷ ws) = cond (names_life h g w.home == 1) (Some w.key) (key_in_log h g ws)

unfoldable pub key_in_logs : ℕ → ℕ → List (List KeyedWrite) → Option (List ℕ)
key_in_logs h g [] = None
key_in_logs h g (l ∷ ls) = first_of (key_in_log h g l) (key_in_logs h g ls)

unfoldable pub key_in_loaded : ℕ → ℕ → List KnownLife → Option (List ℕ)
key_in_loaded h g [] = None
key_in_loaded h g (l ∷ ls) = cond (names_life h g l.home == 1) (Some l.key) (key_in_loaded h g ls)

-- whether the call loaded the life of the header at the generation from the entry of its key
unfoldable pub loaded_in : ℕ → ℕ → ℕ → List KnownLife → Bool
loaded_in call h g [] = false
loaded_in call h g (l ∷ ls) = cond ((l.call == call) && (names_life h g l.home == 1)) true (loaded_in call h g ls)

-- what the pass knows of the header at the generation
abbrev pub key_known : ℕ → ℕ → Knowledge → Option (List ℕ)
key_known h g q = first_of (key_in_loaded h g q.loaded) (key_in_logs h g q.seen)

-- the key, or no bytes where none is known
abbrev pub key_or : Option (List ℕ) → List ℕ
key_or None = []
key_or (Some key) = key

abbrev pub is_known : Option (List ℕ) → Bool
is_known None = false
is_known (Some key) = true
