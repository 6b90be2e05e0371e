-- Owners of blocks, where blocks pass from one owner to another or the word of one bit changes.
use Rattle.std.proofs.Common.{◌≡◌, ◌≢◌, ℕ, ◌+◌, ◌/◌, ◌%◌, ◌<◌, ◌==◌, cond, eqb, ◌&&◌, List, sym, ap, ◌∙◌, subst, arith, eqb-true, eq-eqb, true≢false, div-add-mod'}
use Rattle.std.specs.Int.{bit_at}
use mathlib.Core.Logic.{dite}
use native.Mathlib.Decide.{ℕ_discrete}
use Rattle.oak_model.specs.Limits.{Sizes}
use Rattle.oak_model.specs.Counts.{total, Every, Each}
use Rattle.oak_model.proofs.Counting.{both_true, true_both, test-cases}
use Rattle.oak_model.proofs.Changes.{Change}
use Rattle.arena_core.specs.declared.blocks.HeldBlocks.{HeldBlocks}
use Rattle.arena_core.specs.Arena.{blocks}
use Rattle.arena_core.specs.Blocks.{holds, AreWhole, BlocksAreOwned}

-- the bits of a class, with the word of one block's bit exchanged
abbrev pub bits_with : (ℕ → ℕ → ℕ) → ℕ → ℕ → ℕ → ℕ → ℕ → ℕ
bits_with bits c b x d i = cond ((d == c) && (i == b / 64)) x (bits d i)

module _ (z : Sizes) (bits o o' : ℕ → ℕ → ℕ) {before after gone fresh : List HeldBlocks} (ch : Change before after gone fresh) (r : BlocksAreOwned z bits o before) (new : Each AreWhole fresh) where
  all_whole : Every AreWhole after
  all_whole = ch.every AreWhole new (λ j x _ at. r.whole j x at)

  level : (c b : ℕ) → total (holds c b) fresh + o' c b ≡ total (holds c b) gone + o c b → total (holds c b) after + o' c b ≡ total (holds c b) before + o c b
  level c b e = let s = ch.sums (holds c b) in omega arith

  -- the bits stay, and each block has as many owners as before
  pub blocks_frame : ((c b : ℕ) → total (holds c b) fresh + o' c b ≡ total (holds c b) gone + o c b) → BlocksAreOwned z bits o' after
  blocks_frame same = record {
    owned = λ c b. r.owned c b ∙ sym (level c b (same c b));
    inside = λ c b le. level c b (same c b) ∙ r.inside c b le;
    whole = all_whole;
  }

  -- the word of one bit becomes x, which is as it was in the other bits, and in that bit as the owners change
  module _ (c b x : ℕ) (lb : b < blocks z c) (rest : (k : ℕ) → k < 64 → k ≢ b % 64 → bit_at x k ≡ bit_at (bits c (b / 64)) k)
      (same : (d e : ℕ) → ¬ ((d ≡ c) × (e ≡ b)) → total (holds d e) fresh + o' d e ≡ total (holds d e) gone + o d e)
      (balance : bit_at x (b % 64) + (total (holds c b) gone + o c b) ≡ bit_at (bits c (b / 64)) (b % 64) + (total (holds c b) fresh + o' c b)) where
    this_block : bit_at x (b % 64) ≡ total (holds c b) after + o' c b
    this_block = let s = ch.sums (holds c b) in let w = r.owned c b in let h = balance in omega arith

    this_word : (d e : ℕ) → d ≡ c → e / 64 ≡ b / 64 → bit_at x (e % 64) ≡ total (holds d e) after + o' d e
    this_word d e dc ew = dite (ℕ_discrete (e % 64) (b % 64))
        (λ em. let eb : e ≡ b = let p = div-add-mod' e 64 in let q = div-add-mod' b 64 in omega arith in
        subst (λ (t : ℕ × ℕ). bit_at x (t.1 % 64) ≡ total (holds t.0 t.1) after + o' t.0 t.1) (λ i. (sym dc i, sym eb i)) this_block)
        (λ ne. rest (e % 64) (omega arith) ne ∙ (ap (λ (t : ℕ × ℕ). bit_at (bits t.0 t.1) (e % 64)) (λ i. (sym dc i, sym ew i)) ∙ (r.owned d e ∙ sym (level d e (same d e (λ t. ne (ap (λ (n : ℕ). n % 64) t.1)))))))

    pub bit_changes : BlocksAreOwned z (bits_with bits c b x) o' after
    bit_changes = record {
      owned = λ d e. test-cases ((d == c) && (e / 64 == b / 64)) (λ t. bit_at (cond t x (bits d (e / 64))) (e % 64) ≡ total (holds d e) after + o' d e)
          (λ t. let p = both_true _ _ t in this_word d e (eqb-true _ _ p.0) (eqb-true _ _ p.1))
          (λ f. r.owned d e ∙ sym (level d e (same d e (λ p. true≢false (sym (true_both (eqb d c) (eqb (e / 64) (b / 64)) (eq-eqb d c p.0) (eq-eqb (e / 64) (b / 64) (ap (λ (n : ℕ). n / 64) p.1))) ∙ f)))));
      inside = λ d e le. level d e (same d e (λ p. let f : blocks z d ≡ blocks z c = ap (blocks z) p.0 in let g = p.1 in omega arith)) ∙ r.inside d e le;
      whole = all_whole;
    }
