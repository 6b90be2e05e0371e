-- The words of a `shape` line that have no fault are those of sizes within the limits, and of one such only.
use Rattle.std.proofs.Common.{◌≡◌, ℕ, zero, suc, ◌^◌, ◌<◌, ◌≤◌, true, false, ◌&&◌, leb, List, [], ◌∷◌, length, refl, ap, arith}
use Rattle.std.specs.Prelude.{slice_index}
use Rattle.std.specs.List.{list_any}
use Rattle.std.specs.Fmt.{decimal}
use Rattle.std.specs.Str.Parse.{digits_value}
use Rattle.std.proofs.lemmas.Bool.Decides.{nat_tests}
use Rattle.oak_model.specs.declared.limits.TheConstants.{GREATEST_BLOCKS}
use Rattle.oak_model.specs.declared.shapes.ShapeField.{ShapeField}
use Rattle.oak_model.specs.declared.shapes.ShapeField.TheVariants.{Chunks, Entries, Headers, Blocks}
use Rattle.oak_model.specs.declared.classes.Class.TheVariants.{B16, B64, B256, B1024}
use Rattle.oak_model.specs.Limits.{Sizes}
use Rattle.oak_script.specs.Lines.{Words}
use Rattle.oak_script.specs.Numbers.{is_number, is_number_in}
use Rattle.oak_script.specs.ShapeLine.{size_words, shape_line, size_fields, is_size, are_sizes, SizesFit}
use Rattle.oak_script.specs.Faults.{is_empty}
use Rattle.oak_script.proofs.WordLemmas.{and-parts, not-empty}
use Rattle.oak_script.proofs.NumberLemmas.{written, read_value, value_written}

-- ---- one number

leb-true : (m n : ℕ) → m ≤ n → leb m n ≡ true
leb-true m n h = grind (arith, nat_tests)

leb-from : (m n : ℕ) → leb m n ≡ true → m ≤ n
leb-from m n h = grind (arith, nat_tests)

-- what is written is a number of the range, and no empty word
pub number-written : (low high n : ℕ) → low ≤ n → n ≤ high → high < 2 ^ 64 → (is_number_in low high (decimal n) ≡ true) × (is_empty (decimal n) ≡ false)
number-written low high n l h top =
    let small : n < 2 ^ 64 = omega arith in
    let w = written n small in
    let v = value_written n small in
    (rw (w.0, v, leb-true low n l, leb-true n high h) refl, not-empty (decimal n) w.1)

-- a number of the range is written so
pub number-read : (low high : ℕ) (w : List ℕ) → is_number_in low high w ≡ true → (n : ℕ) × (decimal n ≡ w) × (low ≤ n) × (n ≤ high)
number-read low high w e =
    let p = and-parts (is_number w) (leb low (digits_value 10 w) && leb (digits_value 10 w) high) e in
    let q = and-parts (leb low (digits_value 10 w)) (leb (digits_value 10 w) high) p.1 in
    (digits_value 10 w, (read_value w p.0).0, leb-from low (digits_value 10 w) q.0, leb-from (digits_value 10 w) high q.1)

-- ---- the blocks

-- each of four numbers is within the limit of its class
pub four-fit : (a b c d : ℕ) → a ≤ 65536 → b ≤ 65536 → c ≤ 16384 → d ≤ 4096 → (k : ℕ) → k < 4 → slice_index (a ∷ b ∷ c ∷ d ∷ []) k ≤ slice_index GREATEST_BLOCKS k
four-fit a b c d ha hb hc hd zero h = ha
four-fit a b c d ha hb hc hd (suc zero) h = hb
four-fit a b c d ha hb hc hd (suc (suc zero)) h = hc
four-fit a b c d ha hb hc hd (suc (suc (suc zero))) h = hd
four-fit a b c d ha hb hc hd (suc (suc (suc (suc k)))) h = absurd (omega arith)

-- ---- the line

-- what is spelled has no fault
pub record IsLine (s : Sizes) : Type 0 where
  pub count : length (shape_line s) ≡ 8
  pub words : list_any is_empty (shape_line s) ≡ false
  pub sizes : are_sizes size_fields (size_words s) ≡ true

line-of : (p c e h : ℕ) (bs : List ℕ) → (let s : Sizes = record { passes = p; chunks = c; entries = e; headers = h; blocks = bs } in SizesFit s → IsLine s)
line-of p c e h [] fit = absurd (omega (arith, fit.classes))
line-of p c e h (b16 ∷ []) fit = absurd (omega (arith, fit.classes))
line-of p c e h (b16 ∷ b64 ∷ []) fit = absurd (omega (arith, fit.classes))
line-of p c e h (b16 ∷ b64 ∷ b256 ∷ []) fit = absurd (omega (arith, fit.classes))
line-of p c e h (b16 ∷ b64 ∷ b256 ∷ b1024 ∷ []) fit =
    let l = fit.limits in
    let c1 = number-written 1 1024 c l.chunks_least l.chunks_greatest (omega arith) in
    let e1 = number-written 4 256 e l.entries_least l.entries_greatest (omega arith) in
    let h1 = number-written 1 65536 h l.headers_least l.headers_greatest (omega arith) in
    let w1 = number-written 0 65536 b16 (omega arith) (l.blocks_greatest 0 (omega arith)) (omega arith) in
    let w2 = number-written 0 65536 b64 (omega arith) (l.blocks_greatest 1 (omega arith)) (omega arith) in
    let w3 = number-written 0 16384 b256 (omega arith) (l.blocks_greatest 2 (omega arith)) (omega arith) in
    let w4 = number-written 0 4096 b1024 (omega arith) (l.blocks_greatest 3 (omega arith)) (omega arith) in
    record {
      count = refl;
      words = rw (c1.1, e1.1, h1.1, w1.1, w2.1, w3.1, w4.1) refl;
      sizes = rw (c1.0, e1.0, h1.0, w1.0, w2.0, w3.0, w4.0) refl;
    }
line-of p c e h (b16 ∷ b64 ∷ b256 ∷ b1024 ∷ b ∷ bs) fit = absurd (omega (arith, fit.classes))

pub line-spelled : (s : Sizes) → SizesFit s → IsLine s
line-spelled s fit = line-of s.passes s.chunks s.entries s.headers s.blocks fit

sizes-count : (fs : List ShapeField) (ws : Words) → are_sizes fs ws ≡ true → length ws ≡ length fs
sizes-count [] [] are = refl
sizes-count [] (w ∷ ws) are = absurd cc
sizes-count (f ∷ fs) [] are = absurd cc
sizes-count (f ∷ fs) (w ∷ ws) are = ap suc (sizes-count fs ws (and-parts (is_size f w) (are_sizes fs ws) are).1)

-- what has no fault spells sizes
pub sizes-read : (ws : Words) → are_sizes size_fields ws ≡ true → (s : Sizes) × (size_words s ≡ ws) × SizesFit s
sizes-read (c ∷ e ∷ h ∷ b16 ∷ b64 ∷ b256 ∷ b1024 ∷ []) are =
    let p1 = and-parts (is_size Chunks c) _ are in
    let p2 = and-parts (is_size Entries e) _ p1.1 in
    let p3 = and-parts (is_size Headers h) _ p2.1 in
    let p4 = and-parts (is_size (Blocks B16) b16) _ p3.1 in
    let p5 = and-parts (is_size (Blocks B64) b64) _ p4.1 in
    let p6 = and-parts (is_size (Blocks B256) b256) _ p5.1 in
    let p7 = and-parts (is_size (Blocks B1024) b1024) _ p6.1 in
    let n1 = number-read 1 1024 c p1.0 in
    let n2 = number-read 4 256 e p2.0 in
    let n3 = number-read 1 65536 h p3.0 in
    let n4 = number-read 0 65536 b16 p4.0 in
    let n5 = number-read 0 65536 b64 p5.0 in
    let n6 = number-read 0 16384 b256 p6.0 in
    let n7 = number-read 0 4096 b1024 p7.0 in
    let s : Sizes = record { passes = 1; chunks = n1.0; entries = n2.0; headers = n3.0; blocks = n4.0 ∷ n5.0 ∷ n6.0 ∷ n7.0 ∷ [] } in (
      s,
      rw (n1.1, n2.1, n3.1, n4.1, n5.1, n6.1, n7.1) refl,
      record {
        limits = record {
          passes_least = omega arith;
          passes_greatest = omega arith;
          chunks_least = n1.2;
          chunks_greatest = n1.3;
          entries_least = n2.2;
          entries_greatest = n2.3;
          headers_least = n3.2;
          headers_greatest = n3.3;
          blocks_greatest = four-fit n4.0 n5.0 n6.0 n7.0 n4.3 n5.3 n6.3 n7.3;
        };
        classes = refl;
      },
    )
sizes-read ws are = absurd (omega (arith, sizes-count size_fields ws are))
