-- Who made the writes of the histories: each is one of its caller's own, and no life is begun twice.
use Rattle.std.specs.Prelude.{◌≡◌, ℕ, ◌+◌, ◌*◌, ◌^◌, ◌<◌, ◌≤◌, ◌==◌, cond, false, List, [], ◌∷◌, map, length, Some, None}
use Rattle.oak_model.specs.Counts.{one_at, one_if, total, Each, Every}
use Rattle.oak_model.specs.State.{State}
use Rattle.chunk_core.specs.ValueWord.{names_header}
use Rattle.oak_core.specs.declared.states.KeyedWrite.{KeyedWrite}
use Rattle.oak_core.specs.declared.states.Joined.{Joined}
use Rattle.oak_core.specs.declared.states.PassState.{PassState}
use Rattle.oak_core.specs.PassState.{of_key, rooted, numbers_of}
use Rattle.oak_core.specs.KeyReads.{history_now}

-- the writes of the caller i
unfoldable pub of_caller : ℕ → List KeyedWrite → List KeyedWrite
of_caller i [] = []
of_caller i (w ∷ ws) = cond (w.write.caller == i) (w ∷ of_caller i ws) (of_caller i ws)

-- the call numbers strictly rise
abbrev pub CallsRise : List KeyedWrite → Type 0
CallsRise [] = Unit {0}
CallsRise (w ∷ ws) = Each (λ (u : KeyedWrite). w.write.call < u.write.call) ws × CallsRise ws

-- the writes of the histories with the caller i are those of the list, for each key in their order
pub record AreWritesOf (hist : ℕ → List KeyedWrite) (i : ℕ) (mine : List KeyedWrite) : Type 0 where
  pub same : (k : ℕ) → of_caller i (hist k) ≡ of_key k mine
  pub rise : CallsRise mine
  pub small : Each (λ (w : KeyedWrite). w.write.call < 2 ^ 32) mine

-- those of the pass's number are its own, and those of each pass that was joined into it are that one's
pub record WritesStand (hist : ℕ → List KeyedWrite) (v : PassState) : Type 0 where
  pub own : v.numbers.spent ≡ false → AreWritesOf hist v.numbers.number v.knowledge.mine
  pub joined : Each (λ (j : Joined). AreWritesOf hist j.number j.mine) v.numbers.joined

-- how many writes the pass made, with those joined into it
abbrev pub made_by : PassState → ℕ
made_by v = length v.knowledge.mine + total (λ (j : Joined). length j.mine) v.numbers.joined

-- f added up over them
abbrev pub made_of : (KeyedWrite → ℕ) → PassState → ℕ
made_of f v = total f v.knowledge.mine + total (λ (j : Joined). total f j.mine) v.numbers.joined

-- 1 where the write begins the life
abbrev pub begins : ℕ → KeyedWrite → ℕ
begins v w = one_if w.inserts * one_at w.home v

-- 1 where there is no value
abbrev pub one_if_absent : State → ℕ
one_if_absent None = 1
one_if_absent (Some b) = 0

-- 1 where the write removes
abbrev pub removes : KeyedWrite → ℕ
removes w = one_if_absent w.write.after

-- two inserting writes differ in header or generation
abbrev pub LivesAreDistinct : List PassState → Type 0
LivesAreDistinct vs = (v : ℕ) → names_header v ≡ 1 → total (made_of (begins v)) vs ≤ 1

-- all points on the writers
pub record CallersAgree (vs : List PassState) : Type 0 where
  -- the writes with a caller's number are those of the one pass that has it, or of the one joined
  pub writes : Every (WritesStand (history_now vs)) vs
  -- of a number that no pass has, or that is still in hand, there are none
  pub others : (i k : ℕ) → total (rooted i) (map numbers_of vs) ≡ 0 → of_caller i (history_now vs k) ≡ []
  pub distinct : LivesAreDistinct vs
