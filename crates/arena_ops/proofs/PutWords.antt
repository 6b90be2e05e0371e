-- Words that come to stand one behind the other in a list, as those of the bytes of a block do.
use Rattle.std.proofs.Common.{◌≡◌, ◌≢◌, ℕ, zero, suc, ◌+◌, ◌*◌, ◌/◌, ◌%◌, ◌<◌, ◌≤◌, min, List, [], ◌∷◌, length, take, get_or, set, sym, refl, ap, ◌∙◌, arith, get_or-set_other}
use Rattle.std.proofs.lemmas.List.{take_all}
use Rattle.std.proofs.lemmas.Grind.{div_ceil_times}
use lib.Seq.{set-get_or}
use Rattle.oak_model.specs.declared.limits.TheConstants.{CLASSES}
use Rattle.oak_model.specs.Counts.{below}
use Rattle.oak_model.specs.Limits.{Sizes}
use Rattle.arena_core.specs.Arena.{at_bytes, block_words, bit_words, byte_words}
use Rattle.arena_core.specs.Words.{words_of}
use Rattle.arena_core.proofs.WordLaws.{words_long}
use Rattle.oak_core.specs.declared.states.PassState.{PassState}
use Rattle.oak_core.specs.AloneWords.{Runs}
use Rattle.oak_core.specs.Memory.{in_arena, index}
use Rattle.oak_core.proofs.seats.AloneRuns.{Then, runs_then, runs_as, runs_none}
use Rattle.oak_core.proofs.memory.ArenaPlaces.{bytes_place}
use Rattle.arena_ops.specs.PutWords.{put_from, PutsWord, PutsBytes}

-- the words of a block lie one behind the other
pub spot_from : (z : Sizes) (c b first i : ℕ) → first ≡ index z (in_arena (at_bytes c b 0)) → first + i ≡ index z (in_arena (at_bytes c b i))
spot_from z c b first i is = let x : ℕ = b * block_words c in let y : ℕ = below (bit_words z) CLASSES in let w : ℕ = below (byte_words z) c in
    let start : 1 + (y + (w + (x + 0))) ≡ index z (in_arena (at_bytes c b 0)) = bytes_place z c b 0 in let at : 1 + (y + (w + (x + i))) ≡ index z (in_arena (at_bytes c b i)) = bytes_place z c b i in omega arith

-- one word more
pub put_next : (first i : ℕ) (us ws : List ℕ) → i < length us → put_from first (take (suc i) us) ws ≡ set (put_from first (take i us) ws) (first + i) (get_or us i 0)
put_next first i [] ws lt = absurd (omega arith)
put_next first zero (u ∷ us) ws lt = let e : first ≡ first + 0 = omega arith in ap (λ (k : ℕ). set ws k u) e
put_next first (suc i) (u ∷ us) ws lt = let e : suc first + i ≡ first + suc i = omega arith in
    put_next (suc first) i us (set ws first u) (omega arith) ∙ ap (λ (k : ℕ). set (put_from (suc first) (take i us) (set ws first u)) k (get_or us i 0)) e

-- another word is as before
pub put_elsewhere : (first j : ℕ) (us ws : List ℕ) → ((k : ℕ) → k < length us → first + k ≢ j) → get_or (put_from first us ws) j 0 ≡ get_or ws j 0
put_elsewhere first j [] ws apart = refl
put_elsewhere first j (u ∷ us) ws apart = put_elsewhere (suc first) j us (set ws first u) (λ k lt e. apart (suc k) (omega arith) (omega arith))
    ∙ get_or-set_other ws first j u 0 (λ e. apart 0 (omega arith) (omega arith))

-- and where it is stored again as it is, nothing changes
pub put_again : (ws : List ℕ) (i n : ℕ) → n ≡ get_or ws i 0 → set ws i n ≡ ws
put_again ws i n e = ap (set ws i) e ∙ set-get_or ws i 0

-- so many stores, one word behind the other
abbrev pub PutsSome : ℕ → List ℕ → ℕ → List ℕ → List ℕ → Type 0
PutsSome first bytes i before after = after ≡ put_from first (take i (words_of bytes)) before

module _ (first : ℕ) (bytes : List ℕ) where
  pub puts_none : (v : PassState) → Runs (PutsSome first bytes 0) v v
  puts_none v = runs_none (PutsSome first bytes 0) v (λ a. refl)

  pub puts_more : (i x : ℕ) (u v w : PassState) → 8 * i < length bytes → x ≡ get_or (words_of bytes) i 0 → Runs (PutsSome first bytes i) u v → Runs (PutsWord (first + i) x) v w → Runs (PutsSome first bytes (i + 1)) u w
  puts_more i x u v w lt is f s = let us : List ℕ = words_of bytes in let long = words_long bytes in let inside : i < length us = omega arith in let next : suc i ≡ i + 1 = omega arith in
      runs_as (Then (PutsSome first bytes i) (PutsWord (first + i) x)) (PutsSome first bytes (i + 1)) u w
      (λ a b d. d.2 ∙ ((λ j. set (d.1 j) (first + i) (is j)) ∙ (sym (put_next first i us a inside) ∙ ap (λ (k : ℕ). put_from first (take k us) a) next)))
      (runs_then (PutsSome first bytes i) (PutsWord (first + i) x) u v w f s)

  -- they are all that there are
  pub puts_whole : (i : ℕ) (u w : PassState) → length (words_of bytes) ≤ i → Runs (PutsSome first bytes i) u w → Runs (PutsBytes first bytes) u w
  puts_whole i u w all r = runs_as (PutsSome first bytes i) (PutsBytes first bytes) u w (λ a b d. d ∙ ap (λ (xs : List ℕ). put_from first xs a) (take_all i (words_of bytes) all)) r

  -- the loop ends after as many words as there are
  pub puts_all : (i n : ℕ) (u w : PassState) → i ≤ n → n ≤ i → n ≡ length bytes / 8 + min 1 (length bytes % 8) → Runs (PutsSome first bytes i) u w → Runs (PutsBytes first bytes) u w
  puts_all i n u w le ge e r = let d = div_ceil_times (length bytes) 8 (omega arith) in let k : ℕ = length bytes / 8 + min 1 (length bytes % 8) in let l : length bytes ≤ k * 8 = d.0 in let m : k * 8 < length bytes + 8 = d.1 in let e' : n ≡ k = e in let f = words_long bytes in
      puts_whole i u w (omega arith) r
