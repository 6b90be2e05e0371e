-- Searches that found nothing, by a pass that held nothing there.
use Rattle.std.proofs.Common.{◌≡◌, ◌≢◌, ℕ, zero, suc, ◌+◌, ◌*◌, ◌^◌, ◌≤◌, ◌/◌, ◌%◌, inl, inr, ⊎_elim, [], ◌++◌, ap, ◌∙◌, false, arith, Some, None}
use Rattle.std.proofs.lemmas.Nat.Bits.{bit_at-pow_other, bit_at-zero}
use mathlib.Core.Logic.{dite}
use native.Mathlib.Decide.{ℕ_discrete}
use Rattle.oak_model.specs.Counts.{one_at}
use Rattle.oak_model.proofs.Counting.{one_at-le, one_at-true}
use Rattle.arena_core.specs.Place.{block_in, class_in}
use Rattle.header_core.specs.declared.holds.HeldAs.{HeldAs}
use Rattle.header_core.specs.declared.holds.HeldAs.TheVariants.{Fresh}
use Rattle.std.specs.Int.{bit_at}
use Rattle.oak_model.specs.declared.classes.Class.{Class}
use Rattle.oak_model.specs.Class.{class_number}
use Rattle.oak_model.specs.Limits.{Sizes}
use Rattle.arena_core.specs.HeldBlocks.{no_blocks, had_bits}
use Rattle.header_core.specs.Headers.{at_pin}
use Rattle.header_core.specs.HeaderHolds.{no_headers, had_header}
use Rattle.oak_core.specs.declared.states.PassState.{PassState}
use Rattle.oak_core.specs.Finding.{FoundThere, had, had_placed, has_block}
use Rattle.oak_core.specs.Memory.{in_headers}
use Rattle.oak_core.specs.PassState.{bare_state}
use Rattle.oak_core.specs.Usage.{is_free}
use Rattle.oak_core.proofs.calls.FoundThere.{found_later}
use Rattle.arena_ops.specs.Looking.{bit_spot}
use Rattle.arena_ops.specs.Taking.{FindsNone}
use Rattle.value_ops.specs.Claiming.{FindsNoneFree, FoundPin, FoundTwice, FoundUnfree}
use Rattle.point_ops.specs.Halting.{AllTaken, IsOthers, NoneFree, SetWith}
use Rattle.point_ops.specs.FoundWords.{FoundHad, FoundWith}
use Rattle.value_ops.specs.OneHeader.{IsOneHeader}

module _ (z : Sizes) (call : ℕ) (v w : PassState) where
  pub set_with : (c : Class) → FindsNone z call c v w → SetWith z call c v v w
  set_with c f b lt = record { more = f.more; met = ap (λ (y : PassState). y.findings.met) f.after; found = f.set b lt tt }

  had_by : (b : ℕ) (c : Class) (x : PassState) (Q : ℕ → ℕ → Type 0) (f : FoundWith z call (bit_spot c b) x (λ n. bit_at n (b % 64) ≡ 1) v w) → Q f.found.number f.found.finding.had → FoundHad z call (bit_spot c b) Q v w
  had_by b c x Q f shows = record { more = f.more; met = f.met; place = f.found.place; finding = f.found.finding; there = f.found.there; call_is = f.found.call_is; word_is = f.found.word_is; number = f.found.number; found_is = f.found.found_is; shows = shows }

  -- none of what a pass has that holds no block and no header
  had_none : (c : Class) (b : ℕ) → v.blocks ≡ no_blocks → v.headers ≡ no_headers → had (bit_spot c b) v ≡ 0
  unfolding Rattle.oak_model.specs.Counts.total
  had_none c b none bare = λ i. had_bits (class_number c) (b / 64) (none i) + had_placed (class_number c) (b / 64) (bare i)

  others : (c : Class) (b : ℕ) (x : PassState) → bit_at (had (bit_spot c b) x) (b % 64) ≡ 0 → FoundWith z call (bit_spot c b) x (λ n. bit_at n (b % 64) ≡ 1) v w → FoundHad z call (bit_spot c b) (IsOthers b) v w
  others c b x e f = had_by b c x (IsOthers b) f (f.found.shows, ap (λ (n : ℕ). bit_at n (b % 64)) f.found.had_is ∙ e)

  pub all_taken : (c : Class) → v.blocks ≡ no_blocks → v.headers ≡ no_headers → SetWith z call c v v w → AllTaken z call c None v w
  all_taken c none bare f b lt = inl (others c b v (ap (λ (n : ℕ). bit_at n (b % 64)) (had_none c b none bare) ∙ bit_at-zero (b % 64)) (f b lt))

  -- beside a fresh header alone each block of the class but that header's is another's
  module _ (h : ℕ) (none : v.blocks ≡ no_blocks) (one : IsOneHeader h v.headers) (fresh : one.header.held_as ≡ Fresh) where
    own_had : (c : Class) (b : ℕ) → had (bit_spot c b) v ≡ one_at (class_in one.header.place) (class_number c) * one_at (block_in one.header.place / 64) (b / 64) * 2 ^ (block_in one.header.place % 64)
    unfolding Rattle.oak_model.specs.Counts.total
    own_had c b = (λ i. had_bits (class_number c) (b / 64) (none i) + had_placed (class_number c) (b / 64) (one.alone i))
        ∙ (plain (has_block one.header.held_as * one_at (class_in one.header.place) (class_number c) * one_at (block_in one.header.place / 64) (b / 64) * 2 ^ (block_in one.header.place % 64))
        ∙ (ap (λ (a : HeldAs). has_block a * one_at (class_in one.header.place) (class_number c) * one_at (block_in one.header.place / 64) (b / 64) * 2 ^ (block_in one.header.place % 64)) fresh
        ∙ once (one_at (class_in one.header.place) (class_number c)) (one_at (block_in one.header.place / 64) (b / 64)) (2 ^ (block_in one.header.place % 64))))
      where
        plain : (n : ℕ) → 0 + (n + 0) ≡ n
        plain n = omega arith

        once : (x y p : ℕ) → 1 * x * y * p ≡ x * y * p
        once x y p = grind arith

    away : (x y b k t : ℕ) → (x ≡ 1 → y ≡ 1 → b ≢ k) → x ≤ 1 → y ≤ 1 → bit_at (x * y * 2 ^ k) b ≡ 0
    away zero y b k t ne lx ly = ap (λ (n : ℕ). bit_at n b) (zero_times y (2 ^ k)) ∙ bit_at-zero b
      where
        zero_times : (y p : ℕ) → 0 * y * p ≡ 0
        zero_times y p = grind arith
    away (suc x) zero b k t ne lx ly = ap (λ (n : ℕ). bit_at n b) (times_zero (suc x) (2 ^ k)) ∙ bit_at-zero b
      where
        times_zero : (x p : ℕ) → x * 0 * p ≡ 0
        times_zero x p = grind arith
    away (suc x) (suc y) b k t ne lx ly = let a : suc x ≡ 1 = omega arith in let d : suc y ≡ 1 = omega arith in
        ap (λ (n : ℕ). bit_at n b) ((λ i. a i * d i * 2 ^ k) ∙ one_times (2 ^ k)) ∙ bit_at-pow_other k b (ne a d)
      where
        one_times : (p : ℕ) → 1 * 1 * p ≡ p
        one_times p = grind arith

    -- another block, or one of another class
    apart : (c : Class) (b : ℕ) → (class_in one.header.place ≡ class_number c → block_in one.header.place ≢ b) → bit_at (had (bit_spot c b) v) (b % 64) ≡ 0
    apart c b ne = let k : ℕ = block_in one.header.place in ap (λ (n : ℕ). bit_at n (b % 64)) (own_had c b)
        ∙ away (one_at (class_in one.header.place) (class_number c)) (one_at (k / 64) (b / 64)) (b % 64) (k % 64) 0
        (λ x y e. ne (one_at-true (class_in one.header.place) (class_number c) (omega arith)) (let q = one_at-true (k / 64) (b / 64) (omega arith) in omega arith))
        (one_at-le (class_in one.header.place) (class_number c)) (one_at-le (k / 64) (b / 64))

    pub taken_other : (c : Class) → (class_in one.header.place ≢ class_number c) → SetWith z call c v v w → AllTaken z call c None v w
    taken_other c ne f b lt = inl (others c b v (apart c b (λ e. absurd (ne e))) (f b lt))

    pub taken_own : (c : Class) → SetWith z call c v v w → AllTaken z call c (Some (block_in one.header.place)) v w
    taken_own c f b lt = dite (ℕ_discrete (block_in one.header.place) b) (λ e. inr (ap Some e, had_by b c v _ (f b lt) (f b lt).found.shows)) (λ ne. inl (others c b v (apart c b (λ _. ne)) (f b lt)))

  -- of headers
  module _ (none : v.headers ≡ no_headers) (f : FindsNoneFree z call v w) where
    abbrev bare : (h : ℕ) (P : ℕ → Type 0) → FoundPin z call h v f.more P → FoundThere z call (in_headers (at_pin h)) bare_state f.more P
    bare h P p = found_later z call (in_headers (at_pin h)) bare_state v [] f.more P (ap (had_header h) none) p

    met : w.findings.met ≡ v.findings.met ++ f.more
    met = ap (λ (y : PassState). y.findings.met) f.after

    pub none_free : NoneFree z call v w
    none_free h lt = ⊎_elim (λ (p : FoundUnfree z call h v f.more). inl (record { more = f.more; met = met; found = bare h (λ n. is_free n ≡ false) p }))
        (λ (p : FoundTwice z call h v f.more). inr (record { more = f.more; met = met; one = bare h (λ _. Unit {0}) p.one; other = bare h (λ _. Unit {0}) p.other; apart = p.apart })) (f.found h lt tt)
