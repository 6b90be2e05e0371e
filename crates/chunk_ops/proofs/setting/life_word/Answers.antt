use Rattle.std.proofs.Common.{◌≡◌, ℕ, sym, subst, arith}
use Rattle.chunk_core.specs.ValueWord.{names_header, header_in, generation_in}
use Rattle.oak_core.specs.KeyReads.{home_of}
use Rattle.oak_core.proofs.memory.HomeWords.{home_names}
use Rattle.chunk_ops.proofs.setting.life_word.Goals as goal

pub returns-clause-names : goal.returns-clause-names
returns-clause-names c = let few = c.headers-headers.ensures in let inside = c.requires.inside in let fits = c.ranges.generation.fits in
    subst (λ (t : ℕ × ℕ). names_header (home_of t.0 t.1) ≡ 1) (λ j. (sym c.from.ensures j, sym c.from-2.ensures j)) (home_names c.args.header c.args.generation (let n = few.few in let e = few.is in omega arith) fits).names

pub returns-clause-header : goal.returns-clause-header
returns-clause-header c = let few = c.headers-headers.ensures in let inside = c.requires.inside in let fits = c.ranges.generation.fits in
    subst (λ (t : ℕ × ℕ). header_in (home_of t.0 t.1) ≡ c.args.header) (λ j. (sym c.from.ensures j, sym c.from-2.ensures j)) (home_names c.args.header c.args.generation (let n = few.few in let e = few.is in omega arith) fits).header

pub returns-clause-generation : goal.returns-clause-generation
returns-clause-generation c = let few = c.headers-headers.ensures in let inside = c.requires.inside in let fits = c.ranges.generation.fits in
    subst (λ (t : ℕ × ℕ). generation_in (home_of t.0 t.1) ≡ c.args.generation) (λ j. (sym c.from.ensures j, sym c.from-2.ensures j)) (home_names c.args.header c.args.generation (let n = few.few in let e = few.is in omega arith) fits).generation
