-- One call of a thread with its reply.
use Rattle.std.specs.Prelude.{◌≡◌, ℕ, if◌then◌else◌, List, Option, Some, None}
use Rattle.oak_model.specs.declared.replies.Reply.{Reply}
use Rattle.oak_model.specs.Key.{same_key}
use Rattle.oak_script.specs.declared.scripts.Call.{Call}

-- For each key, the place at which the reply read or wrote it, and the place that no later reply of
-- the thread on it may be before. The two are the same but for the removal that a `gone` has met.
pub record Turn : Type 0 where
  pub call : Call
  pub reply : Reply
  pub places : List ℕ → Option ℕ
  pub floors : List ℕ → Option ℕ

-- this place at this key alone
abbrev pub only_at : List ℕ → ℕ → List ℕ → Option ℕ
only_at k r q = if same_key k q then Some r else None

-- the reply is about this key alone, at this place
pub record PlacedAt (k : List ℕ) (r : ℕ) (t : Turn) : Type 0 where
  pub places : (q : List ℕ) → t.places q ≡ only_at k r q
  pub floors : (q : List ℕ) → t.floors q ≡ only_at k r q

-- the reply is about no key
pub record PlacedNowhere (t : Turn) : Type 0 where
  pub places : (q : List ℕ) → t.places q ≡ None
  pub floors : (q : List ℕ) → t.floors q ≡ None
