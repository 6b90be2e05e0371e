-- The parts of a place word.
use Rattle.std.proofs.Common.{◌≡◌, ℕ, zero, suc, ◌^◌, ◌<◌, sym, refl, ap, ◌∙◌, arith}
use Rattle.oak_model.specs.declared.limits.TheConstants.{CLASSES}
use Rattle.oak_model.specs.declared.classes.Class.{Class}
use Rattle.oak_model.specs.declared.classes.Class.TheVariants.{B16, B64, B256, B1024}
use Rattle.oak_model.specs.Class.{class_number}
use Rattle.arena_core.specs.Place.{place_word, class_in, block_in, length_in, class_from}

pub class_in-word : (c b n : ℕ) → b < 2 ^ 32 → n < 2 ^ 16 → class_in (place_word c b n) ≡ c
unfolding place_word class_in
class_in-word c b n hb hn = omega arith

pub block_in-word : (c b n : ℕ) → b < 2 ^ 32 → n < 2 ^ 16 → block_in (place_word c b n) ≡ b
unfolding place_word block_in
block_in-word c b n hb hn = omega arith

pub length_in-word : (c b n : ℕ) → n < 2 ^ 16 → length_in (place_word c b n) ≡ n
unfolding place_word length_in
length_in-word c b n hn = omega arith

pub place_word_fits : (c b n : ℕ) → c < CLASSES → b < 2 ^ 32 → n < 2 ^ 16 → place_word c b n < 2 ^ 64
unfolding place_word
place_word_fits c b n hc hb hn = omega arith

pub class_from-number : (c : Class) → class_from (class_number c) ≡ c
class_from-number B16 = refl
class_from-number B64 = refl
class_from-number B256 = refl
class_from-number B1024 = refl

pub class_below : (c : Class) → class_number c < CLASSES
class_below B16 = omega arith
class_below B64 = omega arith
class_below B256 = omega arith
class_below B1024 = omega arith

pub class_number-from : (n : ℕ) → n < CLASSES → class_number (class_from n) ≡ n
class_number-from zero h = refl
class_number-from (suc zero) h = refl
class_number-from (suc (suc zero)) h = refl
class_number-from (suc (suc (suc zero))) h = refl
class_number-from (suc (suc (suc (suc n)))) h = absurd (omega arith)

pub same_class : (c d : Class) → class_number c ≡ class_number d → c ≡ d
same_class c d e = sym (class_from-number c) ∙ (ap class_from e ∙ class_from-number d)
