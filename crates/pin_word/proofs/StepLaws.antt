-- What the steps on a pin word do to its parts: one pin more or less, and states further or back.
use Rattle.std.proofs.Common.{◌≡◌, ℕ, ◌+◌, ◌-◌, ◌*◌, ◌%◌, ◌^◌, ◌<◌, ◌≤◌, arith}
use Rattle.pin_word.specs.PinWord.{generation_of, state_of, count_of, STATE}

pub pin_up : (w : ℕ) → count_of w + 1 < 2 ^ 28 → w < 2 ^ 64
    → (count_of ((w + 1) % 2 ^ 64) ≡ count_of w + 1) × (state_of ((w + 1) % 2 ^ 64) ≡ state_of w) × (generation_of ((w + 1) % 2 ^ 64) ≡ generation_of w)
unfolding count_of state_of generation_of
pin_up w h b = ((omega arith), (omega arith), (omega arith))

pub pin_down : (w : ℕ) → 0 < count_of w → w < 2 ^ 64
    → (count_of ((w + (2 ^ 64 - 1)) % 2 ^ 64) + 1 ≡ count_of w) × (state_of ((w + (2 ^ 64 - 1)) % 2 ^ 64) ≡ state_of w) × (generation_of ((w + (2 ^ 64 - 1)) % 2 ^ 64) ≡ generation_of w)
unfolding count_of state_of generation_of
pin_down w h b = ((omega arith), (omega arith), (omega arith))

-- k states back
pub state_back : (w k : ℕ) → k ≤ state_of w → w < 2 ^ 64
    → (count_of ((w + (2 ^ 64 - k * STATE)) % 2 ^ 64) ≡ count_of w) × (state_of ((w + (2 ^ 64 - k * STATE)) % 2 ^ 64) + k ≡ state_of w) × (generation_of ((w + (2 ^ 64 - k * STATE)) % 2 ^ 64) ≡ generation_of w)
unfolding count_of state_of generation_of
state_back w k h b = ((omega arith), (omega arith), (omega arith))

-- the next state, by an exchange and by an addition

pub state_set : (w : ℕ) → state_of w < 15 → (count_of (w + STATE) ≡ count_of w) × (state_of (w + STATE) ≡ state_of w + 1) × (generation_of (w + STATE) ≡ generation_of w)
unfolding count_of state_of generation_of
state_set w h = ((omega arith), (omega arith), (omega arith))

pub state_up : (w : ℕ) → state_of w < 15 → w < 2 ^ 64
    → (count_of ((w + STATE) % 2 ^ 64) ≡ count_of w) × (state_of ((w + STATE) % 2 ^ 64) ≡ state_of w + 1) × (generation_of ((w + STATE) % 2 ^ 64) ≡ generation_of w)
unfolding count_of state_of generation_of
state_up w h b = ((omega arith), (omega arith), (omega arith))

-- the state before
pub state_down : (w : ℕ) → 0 < state_of w → w < 2 ^ 64
    → (count_of ((w + (2 ^ 64 - STATE)) % 2 ^ 64) ≡ count_of w) × (state_of ((w + (2 ^ 64 - STATE)) % 2 ^ 64) + 1 ≡ state_of w) × (generation_of ((w + (2 ^ 64 - STATE)) % 2 ^ 64) ≡ generation_of w)
state_down w h b = state_back w 1 h b
