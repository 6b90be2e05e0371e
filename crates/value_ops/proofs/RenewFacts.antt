-- A buried header that is taken back: it is free at the next generation, or retired, and its block is the pass's again.
use Rattle.std.proofs.Common.{◌≡◌, ℕ, suc, ◌+◌, ◌-◌, ◌*◌, ◌%◌, ◌^◌, ◌<◌, ◌==◌, ◌⊎◌, ⊎_elim, cond, Bool, List, [], ◌∷◌, sym, refl, ap, ◌∙◌, subst, arith, eq-eqb, ne_eqb, Some}
use mathlib.Core.Logic.{dite}
use native.Mathlib.Decide.{ℕ_discrete}
use Rattle.pin_word.specs.PinWord.{generation_of, state_of, count_of, STATE}
use Rattle.oak_model.specs.Class.{class_number}
use Rattle.oak_model.specs.Limits.{Sizes}
use Rattle.oak_model.proofs.Counting.{one_at-same, one_at-other}
use Rattle.arena_core.specs.declared.blocks.HeldBlock.{HeldBlock}
use Rattle.arena_core.specs.Arena.{blocks}
use Rattle.arena_core.specs.Blocks.{HoldsBlock}
use Rattle.arena_core.specs.Place.{class_in, block_in, class_from}
use Rattle.arena_core.proofs.PlaceLaws.{class_number-from}
use Rattle.header_core.specs.declared.states.TheConstants.{FREE, DEAD, RETIRED, LAST_GENERATION}
use Rattle.header_core.specs.declared.holds.HeldHeader.{HeldHeader}
use Rattle.header_core.specs.Headers.{at_pin}
use Rattle.header_core.specs.HeaderHolds.{place_held, without_header}
use Rattle.header_core.specs.HeaderStep.{take_back, renewal}
use Rattle.pin_word.proofs.Laws.{generation_small}
use Rattle.header_core.proofs.PinWordChanges.{renewed}
use Rattle.oak_core.specs.declared.states.Finding.{Finding}
use Rattle.oak_core.specs.declared.states.PassState.{PassState}
use Rattle.oak_core.specs.Memory.{Memory, memory}
use Rattle.oak_core.specs.Finding.{finding, noted, LoadsMore}
use Rattle.oak_core.specs.HeaderCalls.{TakesBack}
use Rattle.oak_core.specs.Step.{found, on_headers, MayOnHeaders}
use Rattle.oak_core.proofs.memory.Words.{header_before}
use Rattle.value_ops.specs.Claiming.{pin_spot}
use Rattle.value_ops.specs.HeldValue.{words_in}
use Rattle.value_ops.specs.UnderLock.{HasBuried, ComesTo, LoadsPlace, Renews, state_taken_back}
use Rattle.value_ops.proofs.BlockExchange.{holds_front}
use Rattle.value_ops.proofs.ComesFurther.{comes_as, blocks_met, headers_met, comes_since, buried_met}
use Rattle.value_ops.proofs.HeldValues.{state_is, generation_at, block_at, block_inside, class_low}
use Rattle.value_ops.proofs.StepLeft.{pin_found, small, left}

-- the number that is added
pub renewal_is : (g : ℕ) → cond (g == LAST_GENERATION - 1) (2 ^ 32 + STATE) (2 ^ 32 - DEAD * STATE) ≡ renewal g
renewal_is g = dite (ℕ_discrete g (LAST_GENERATION - 1))
    (λ e. (λ i. cond (eq-eqb g (LAST_GENERATION - 1) e i) (2 ^ 32 + STATE) (2 ^ 32 - DEAD * STATE)) ∙ sym (ap (λ (b : Bool). cond b (2 ^ 32 + STATE) (2 ^ 32 - DEAD * STATE)) (eq-eqb (g + 2) (2 ^ 32) (omega arith))))
    (λ ne. (λ i. cond (ne_eqb g (LAST_GENERATION - 1) ne i) (2 ^ 32 + STATE) (2 ^ 32 - DEAD * STATE)) ∙ sym (ap (λ (b : Bool). cond b (2 ^ 32 + STATE) (2 ^ 32 - DEAD * STATE)) (ne_eqb (g + 2) (2 ^ 32) (λ e. ne (omega arith)))))

module _ (z : Sizes) (call h g stamp : ℕ) (v u : PassState) (has : HasBuried z h g stamp v) (met : LoadsMore z call v u) where
  buried : HasBuried z h g stamp u
  buried = buried_met z call v u met h g stamp has

  pub may_renew : MayOnHeaders z (take_back h (renewal g)) u
  may_renew = record { inside = has.inside; headers = (buried.buried, ap renewal (sym buried.generation)); block = tt; known = tt }

  module _ (n : ℕ) (w : PassState) (t : TakesBack z call h (renewal g) u n w) where
    abbrev m : Memory
    m = memory z t.table.words

    abbrev place : ℕ
    place = place_held h u.headers.held

    was_dead : state_of n ≡ DEAD
    was_dead = ap state_of (sym (pin_found z call (take_back h (renewal g)) h refl u n w t)) ∙ state_is z t.table t.rule t.seat u t.here h DEAD (omega arith) (omega arith) buried.buried

    generation_was : generation_of n ≡ g
    generation_was = ap generation_of (sym (pin_found z call (take_back h (renewal g)) h refl u n w t)) ∙ (generation_at z t.table t.rule t.seat u t.here h DEAD (omega arith) (omega arith) buried.buried ∙ buried.generation)

    is_small : n < 2 ^ 64
    is_small = small z call (take_back h (renewal g)) h refl u n w t

    -- a dead header is not at the last generation
    pub room : g + 1 < 2 ^ 32
    room = let r = t.rule.headers.retired h in let e = pin_found z call (take_back h (renewal g)) h refl u n w t in
        let d : state_of (m.headers.pin h) ≡ DEAD = ap state_of e ∙ was_dead in let k : generation_of (m.headers.pin h) ≡ g = ap generation_of e ∙ generation_was in
        let none = one_at-other (state_of (m.headers.pin h)) RETIRED (λ q. omega arith) in let b = generation_small n is_small in let f = generation_was in
        dite (ℕ_discrete (generation_of (m.headers.pin h)) LAST_GENERATION) (λ q. let one = one_at-same (generation_of (m.headers.pin h)) LAST_GENERATION q in absurd (omega arith)) (λ q. next g (λ l. q (k ∙ l)) (let lt : g < 2 ^ 32 = omega arith in lt))
      where
        next : (g : ℕ) → (g ≡ LAST_GENERATION → ⊥) → g < 2 ^ 32 → g + 1 < 2 ^ 32
        next g ne lt = dite (ℕ_discrete g LAST_GENERATION) (λ e. absurd (ne e)) (λ n. omega arith)

    abbrev y : ℕ
    y = (n + renewal g) % 2 ^ 64

    became : (count_of y ≡ count_of n) × (generation_of y ≡ suc g) × (state_of y ≡ state_taken_back (suc g))
    became = let e = generation_was in let k = renewed n was_dead (let l = room in omega arith) is_small in
        let k' = subst (λ (i : ℕ). (count_of ((n + renewal i) % 2 ^ 64) ≡ count_of n) × (generation_of ((n + renewal i) % 2 ^ 64) ≡ i + 1)
        × (((i + 1 ≡ LAST_GENERATION) × (state_of ((n + renewal i) % 2 ^ 64) ≡ RETIRED)) ⊎ ((i + 1 ≡ LAST_GENERATION → ⊥) × (state_of ((n + renewal i) % 2 ^ 64) ≡ FREE)))) e k in (
          k'.0,
          k'.1 ∙ (let s : g + 1 ≡ suc g = omega arith in s),
          ⊎_elim
              (λ (p : (g + 1 ≡ LAST_GENERATION) × (state_of y ≡ RETIRED)). p.1 ∙ sym (ap (λ (b : Bool). cond b RETIRED FREE) (eq-eqb (suc g) LAST_GENERATION (let q = p.0 in omega arith))))
              (λ (p : (g + 1 ≡ LAST_GENERATION → ⊥) × (state_of y ≡ FREE)). p.1 ∙ sym (ap (λ (b : Bool). cond b RETIRED FREE) (ne_eqb (suc g) LAST_GENERATION (λ q. p.0 (omega arith))))) k'.2,
        )

    abbrev given : HeldBlock
    given = record { class = class_from (class_in place); number = block_in place; words = words_in h u.headers.held }

    abbrev met_then : Finding
    met_then = let k = found z (on_headers (take_back h (renewal g))) t.table in finding z call (pin_spot h) (Some k) ((k + renewal g) % 2 ^ 64) t.table.words u

    came : ComesTo z call (given ∷ u.blocks.held) (without_header h u.headers.held) u w
    came = record {
      more = met_then ∷ [];
      calls = ((refl, header_before z (at_pin h) has.inside, refl), tt);
      after = t.after ∙ (λ i. record (noted met_then u) {
        blocks = record u.blocks { held = block_at z t.table t.rule t.seat u t.here h DEAD (omega arith) (omega arith) buried.buried i ∷ u.blocks.held };
        headers = record u.headers { held = without_header h u.headers.held };
      });
    }

    pub renews : LoadsPlace z call h v u → Renews z call h g (class_from (class_in place)) (block_in place) v w
    renews loads = let bs = blocks_met z call v u met in let hs = headers_met z call v u met in record {
      class_is = ap (λ (rs : List HeldHeader). class_in (place_held h rs)) (sym hs) ∙ sym (class_number-from (class_in place) (class_low z t.table t.rule t.seat u t.here h DEAD (omega arith) (omega arith) buried.buried));
      block_is = ap (λ (rs : List HeldHeader). block_in (place_held h rs)) (sym hs);
      between = u;
      loads = loads;
      number = n;
      told = t;
      left = left z call (take_back h (renewal g)) h refl u n w t (state_taken_back (suc g)) (suc g) became.2 became.1 became.0;
      comes = comes_as z call (given ∷ u.blocks.held) (record { class = class_from (class_in place); number = block_in place; words = words_in h v.headers.held } ∷ v.blocks.held)
          (without_header h u.headers.held) (without_header h v.headers.held) v w
          (λ i. record { class = class_from (class_in place); number = block_in place; words = words_in h (hs i) } ∷ bs i) (λ i. without_header h (hs i))
          (comes_since z call v u met (given ∷ u.blocks.held) (without_header h u.headers.held) w came);
    }

    pub holds_given : HoldsBlock z (class_number (class_from (class_in place))) (block_in place) w.blocks
    holds_given = let low = class_number-from (class_in place) (class_low z t.table t.rule t.seat u t.here h DEAD (omega arith) (omega arith) buried.buried) in
        holds_front z (class_number (class_from (class_in place))) (block_in place) given u.blocks.held w.blocks (ap (λ (s : PassState). s.blocks.held) came.after) refl refl
        (subst (λ (k : ℕ). block_in place < blocks z k) (sym low) (block_inside z t.table t.rule t.seat u t.here h DEAD (omega arith) (omega arith) buried.buried))
