-- Value words that name headers, by their parts.
use Rattle.std.proofs.Common.{◌≡◌, ℕ, ◌/◌, ◌^◌, ◌<◌, ◌≤◌, arith}
use mathlib.Core.Logic.{dite}
use native.Mathlib.Decide.{dec_lt}
use Rattle.oak_model.proofs.Counting.{one_at-same, one_at-true}
use Rattle.chunk_core.specs.ValueWord.{names_header, header_in, generation_in}
use Rattle.oak_core.specs.KeyReads.{home_of}

pub names_high : (v : ℕ) → 2 ^ 63 ≤ v → v < 2 ^ 64 → names_header v ≡ 1
unfolding names_header
names_high v l s = one_at-same (v / 2 ^ 63) 1 (omega arith)

pub names_low : (v : ℕ) → names_header v ≡ 0 → v < 2 ^ 64 → v < 2 ^ 63
names_low v e s = dite (dec_lt v (2 ^ 63)) (λ l. l) (λ no. absurd (let n = names_high v (omega arith) s in omega arith))

-- a value word that names a header
pub record NamesAt (h g : ℕ) : Type 0 where
  pub names : names_header (home_of h g) ≡ 1
  pub header : header_in (home_of h g) ≡ h
  pub generation : generation_in (home_of h g) ≡ g

pub home_names : (h g : ℕ) → h < 2 ^ 31 → g < 2 ^ 32 → NamesAt h g
unfolding names_header header_in generation_in
home_names h g a b = record { names = one_at-same (home_of h g / 2 ^ 63) 1 (omega arith); header = omega arith; generation = omega arith }

-- a value word by its parts
pub home_is : (v : ℕ) → names_header v ≡ 1 → home_of (header_in v) (generation_in v) ≡ v
unfolding names_header header_in generation_in
home_is v n = let q = one_at-true (v / 2 ^ 63) 1 (omega arith) in omega arith
