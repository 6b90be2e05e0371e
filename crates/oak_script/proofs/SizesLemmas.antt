-- The sizes that a script asks for are within the limits, and a `shape` line is that of one choice of sizes only.
use Rattle.std.proofs.Common.{◌≡◌, ℕ, zero, suc, ◌+◌, ◌^◌, ◌<◌, ◌≤◌, List, [], ◌∷◌, length, map, Option, Some, None, refl, arith}
use Rattle.std.specs.Prelude.{slice_index, IfSome}
use Rattle.std.specs.Fmt.{decimal}
use Rattle.oak_model.specs.declared.limits.TheConstants.{GREATEST_BLOCKS}
use Rattle.oak_model.specs.Limits.{Sizes}
use Rattle.oak_script.specs.ShapeLine.{size_words, SizesFit}
use Rattle.oak_script.specs.Reading.{sizes_for}
use Rattle.oak_script.proofs.NumberLemmas.{decimal-injective}
use Rattle.oak_script.proofs.ShapeLemmas.{four-fit}

-- with a pass more than there are threads they are within the limits
pub sizes-fit : (shape : Option Sizes) (n : ℕ) → n ≤ 16 → IfSome shape SizesFit → SizesFit (sizes_for shape n)
sizes-fit None n few fit = record {
  limits = record {
    passes_least = omega arith;
    passes_greatest = omega arith;
    chunks_least = omega arith;
    chunks_greatest = omega arith;
    entries_least = omega arith;
    entries_greatest = omega arith;
    headers_least = omega arith;
    headers_greatest = omega arith;
    blocks_greatest = four-fit 16384 4096 1024 512 (omega arith) (omega arith) (omega arith) (omega arith);
  };
  classes = refl;
}
sizes-fit (Some s) n few fit =
    let l = fit.limits in
    record {
      limits = record {
        passes_least = omega arith;
        passes_greatest = omega arith;
        chunks_least = l.chunks_least;
        chunks_greatest = l.chunks_greatest;
        entries_least = l.entries_least;
        entries_greatest = l.entries_greatest;
        headers_least = l.headers_least;
        headers_greatest = l.headers_greatest;
        blocks_greatest = l.blocks_greatest;
      };
      classes = fit.classes;
    }

pub sizes-passes : (shape : Option Sizes) (n : ℕ) → (sizes_for shape n).passes ≡ n + 1
sizes-passes None n = refl
sizes-passes (Some s) n = refl

-- ---- one line

greatest-small : (c : ℕ) → c < 4 → slice_index GREATEST_BLOCKS c < 2 ^ 64
greatest-small zero h = omega arith
greatest-small (suc zero) h = omega arith
greatest-small (suc (suc zero)) h = omega arith
greatest-small (suc (suc (suc zero))) h = omega arith
greatest-small (suc (suc (suc (suc c)))) h = absurd (omega arith)

blocks-small : (s : Sizes) → SizesFit s → (c : ℕ) → c < length s.blocks → slice_index s.blocks c < 2 ^ 64
blocks-small s fit c h =
    let within : c < 4 = omega (arith, fit.classes) in
    let small = greatest-small c within in
    let le = fit.limits.blocks_greatest c within in
    omega arith

numbers-same : (xs ys : List ℕ) → ((c : ℕ) → c < length xs → slice_index xs c < 2 ^ 64) → ((c : ℕ) → c < length ys → slice_index ys c < 2 ^ 64) → map decimal xs ≡ map decimal ys → xs ≡ ys
numbers-same [] [] hx hy e = refl
numbers-same [] (y ∷ ys) hx hy e = absurd cc
numbers-same (x ∷ xs) [] hx hy e = absurd cc
numbers-same (x ∷ xs) (y ∷ ys) hx hy e =
    let first : decimal x ≡ decimal y = cc in
    let others : map decimal xs ≡ map decimal ys = cc in
    let p = decimal-injective x y (hx 0 (omega arith)) (hy 0 (omega arith)) first in
    let q = numbers-same xs ys (λ c h. hx (suc c) (omega arith)) (λ c h. hy (suc c) (omega arith)) others in
    cc

same-parts : (p c e h : ℕ) (bs : List ℕ) (q d f i : ℕ) (cs : List ℕ) → p ≡ q → c ≡ d → e ≡ f → h ≡ i → bs ≡ cs
    → (let s : Sizes = record { passes = p; chunks = c; entries = e; headers = h; blocks = bs } in let t : Sizes = record { passes = q; chunks = d; entries = f; headers = i; blocks = cs } in s ≡ t)
same-parts p c e h bs q d f i cs ep ec ee eh eb = rw (ep, ec, ee, eh, eb) refl

-- the passes stand in no line
pub sizes-same : (s t : Sizes) (n : ℕ) → SizesFit s → SizesFit t → size_words s ≡ size_words t → sizes_for (Some s) n ≡ sizes_for (Some t) n
sizes-same s t n fs ft e =
    let chunks : decimal s.chunks ≡ decimal t.chunks = cc in
    let entries : decimal s.entries ≡ decimal t.entries = cc in
    let headers : decimal s.headers ≡ decimal t.headers = cc in
    let blocks : map decimal s.blocks ≡ map decimal t.blocks = cc in
    let ls = fs.limits in
    let lt = ft.limits in
    same-parts (n + 1) s.chunks s.entries s.headers s.blocks (n + 1) t.chunks t.entries t.headers t.blocks refl
    (decimal-injective s.chunks t.chunks (omega (arith, ls.chunks_greatest)) (omega (arith, lt.chunks_greatest)) chunks)
    (decimal-injective s.entries t.entries (omega (arith, ls.entries_greatest)) (omega (arith, lt.entries_greatest)) entries)
    (decimal-injective s.headers t.headers (omega (arith, ls.headers_greatest)) (omega (arith, lt.headers_greatest)) headers)
    (numbers-same s.blocks t.blocks (blocks-small s fs) (blocks-small t ft) blocks)
