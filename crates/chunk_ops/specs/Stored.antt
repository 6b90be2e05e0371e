-- A key as words and a length.
use Rattle.std.specs.Prelude.{◌≡◌, ℕ, ◌≤◌, List, length}
use Rattle.oak_model.specs.Counts.{rows}
use Rattle.oak_model.specs.Key.{AreBytes}
use Rattle.oak_model.specs.declared.limits.TheConstants.{GREATEST_KEY}
use Rattle.chunk_ops.specs.declared.stored.TheConstants.{KEY_WORDS}
use Rattle.chunk_ops.specs.declared.stored.StoredKey.{StoredKey}
use Rattle.arena_core.specs.Words.{word_at}

-- the words that a key's bytes fill, zeros behind them
abbrev pub key_words : List ℕ → List ℕ
key_words b = rows 0 KEY_WORDS (word_at b)

pub record IsStored (k : StoredKey) (b : List ℕ) : Type 0 where
  pub words : k.words ≡ key_words b
  pub long : k.length ≡ length b
  pub few : length b ≤ GREATEST_KEY
  pub bytes : AreBytes b
