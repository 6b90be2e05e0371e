-- A pin word as a number: a generation of 32 bits, a state of 4 bits below it, and a count of 28 bits at its end.
use Rattle.std.specs.Prelude.{◌≡◌, ℕ, ◌+◌, ◌*◌, ◌/◌, ◌%◌, ◌^◌}

unfoldable pub packed : ℕ → ℕ → ℕ → ℕ
packed generation state count = generation * 2 ^ 32 + state * 2 ^ 28 + count

unfoldable pub generation_of : ℕ → ℕ
generation_of word = word / 2 ^ 32

unfoldable pub state_of : ℕ → ℕ
state_of word = word / 2 ^ 28 % 16

unfoldable pub count_of : ℕ → ℕ
count_of word = word % 2 ^ 28

-- what one more in the state adds to a pin word
abbrev pub STATE : ℕ
STATE = 2 ^ 28

-- a word in this state, without a pin
pub record HasNoPin (s w : ℕ) : Type 0 where
  pub state : state_of w ≡ s
  pub count : count_of w ≡ 0
