-- The parts of a pin word: how great they are, and that they and the word give each other.
use Rattle.std.proofs.Common.{◌≡◌, ℕ, ◌^◌, ◌<◌, arith}
use Rattle.pin_word.specs.PinWord.{packed, generation_of, state_of, count_of}

pub state_fits : (w : ℕ) → state_of w < 16
unfolding state_of
state_fits w = omega arith

pub count_fits : (w : ℕ) → count_of w < 2 ^ 28
unfolding count_of
count_fits w = omega arith

-- of every number, so of every word
pub packed-parts : (w : ℕ) → packed (generation_of w) (state_of w) (count_of w) ≡ w
unfolding packed generation_of state_of count_of
packed-parts w = omega arith

pub generation_of-packed : (g s c : ℕ) → s < 16 → c < 2 ^ 28 → generation_of (packed g s c) ≡ g
unfolding packed generation_of
generation_of-packed g s c hs hc = omega arith

pub state_of-packed : (g s c : ℕ) → s < 16 → c < 2 ^ 28 → state_of (packed g s c) ≡ s
unfolding packed state_of
state_of-packed g s c hs hc = omega arith

pub count_of-packed : (g s c : ℕ) → s < 16 → c < 2 ^ 28 → count_of (packed g s c) ≡ c
unfolding packed count_of
count_of-packed g s c hs hc = omega arith

pub packed_fits : (g s c : ℕ) → g < 2 ^ 32 → s < 16 → c < 2 ^ 28 → packed g s c < 2 ^ 64
unfolding packed
packed_fits g s c hg hs hc = omega arith

pub generation_small : (w : ℕ) → w < 2 ^ 64 → generation_of w < 2 ^ 32
unfolding generation_of
generation_small w h = omega arith

-- two words with the same parts are one
pub parts_equal : (w x : ℕ) → generation_of w ≡ generation_of x → state_of w ≡ state_of x → count_of w ≡ count_of x → w ≡ x
unfolding generation_of state_of count_of
parts_equal w x g s c = omega arith
