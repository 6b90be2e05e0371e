-- What the tests of room ask of their keys.
use Rattle.std.specs.Prelude.{ℕ, ◌<◌, ◌≤◌}

-- keys of so many bytes, of which there are so many, and values of so many bytes are few and short
abbrev pub AreShort : (count bytes first second : ℕ) → Type 0
AreShort count bytes first second = (count ≤ 100) × (0 < bytes) × (bytes ≤ 20) × (first ≤ 70) × (second ≤ 70)
