-- The headers that passes know.
use Rattle.std.specs.Prelude.{ℕ, ◌+◌, ◌<◌, nat_lt, List}
use Rattle.oak_model.specs.Counts.{one_if, total}
use Rattle.chunk_core.specs.ValueWord.{names_life}
use Rattle.header_core.specs.HeaderHolds.{fresh_at}
use Rattle.oak_core.specs.declared.states.KeyedWrite.{KeyedWrite}
use Rattle.oak_core.specs.declared.states.KnownLife.{KnownLife}
use Rattle.oak_core.specs.declared.states.Knowledge.{Knowledge}
use Rattle.oak_core.specs.declared.states.PassState.{PassState}

-- how often the writes are of the life with the header and the generation
abbrev pub lives_in : ℕ → ℕ → List KeyedWrite → ℕ
lives_in h g ws = total (λ (w : KeyedWrite). names_life h g w.home) ws

-- 1 where it is that life
abbrev pub is_life : ℕ → ℕ → KnownLife → ℕ
is_life h g l = names_life h g l.home

-- positive where the pass knows the header at the generation other than as its fresh one: both stand beside a write that it has seen, or in a value word that it loaded from an entry
abbrev pub knows_life : ℕ → ℕ → Knowledge → ℕ
knows_life h g q = total (lives_in h g) q.seen + total (is_life h g) q.loaded

-- 1 where one of the passes knows it so
abbrev pub known : List Knowledge → ℕ → ℕ → ℕ
known qs h g = one_if (nat_lt 0 (total (knows_life h g) qs))

-- the pass knows the header at the generation: it has it fresh, or knows it otherwise
abbrev pub KnowsHeader : ℕ → ℕ → PassState → Type 0
KnowsHeader h g v = 0 < fresh_at h g v.headers + knows_life h g v.knowledge
