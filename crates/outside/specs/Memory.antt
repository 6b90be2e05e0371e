-- What contracts see of the sources and sinks in memory.
use Rattle.std.specs.Prelude.{ℕ, List, Option, Some, None, min, max}

-- the bytes that are left, how many reads came and failed, and the numbers of those that are to
-- fail
pub record MemorySourceState : Type 0 where
  pub left : List ℕ
  pub calls : ℕ
  pub faults : ℕ
  pub fails : List ℕ

-- the bytes that were written, how many still fit, how many writes came and failed, and the numbers
-- of those that are to fail
pub record MemorySinkState : Type 0 where
  pub written : List ℕ
  pub free : ℕ
  pub calls : ℕ
  pub faults : ℕ
  pub fails : List ℕ

-- of n bytes so many as a cut lets through, one at least: all, where there is none
abbrev pub let_through : Option ℕ → ℕ → ℕ
let_through None n = n
let_through (Some cut) n = min n (max cut 1)

-- those of a source in memory, and the most bytes of each read
pub record CutSourceState : Type 0 where
  pub left : List ℕ
  pub calls : ℕ
  pub faults : ℕ
  pub fails : List ℕ
  pub cuts : List ℕ

-- those of a sink in memory, and the most bytes of each write
pub record ShortSinkState : Type 0 where
  pub written : List ℕ
  pub free : ℕ
  pub calls : ℕ
  pub faults : ℕ
  pub fails : List ℕ
  pub takes : List ℕ
