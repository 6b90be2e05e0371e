-- A locked header's block that is exchanged for one that the pass holds.
use Rattle.std.proofs.Common.{◌≡◌, ℕ, ◌^◌, ◌<◌, ◌==◌, cond, false, List, [], ◌∷◌, sym, refl, ap, ◌∙◌, subst, arith, eqb-true, inr, Some, None}
use Rattle.oak_model.specs.declared.classes.Class.{Class}
use Rattle.oak_model.specs.Class.{class_number, class_of}
use Rattle.oak_model.specs.Counts.{one_if, total, rows}
use Rattle.oak_model.specs.Limits.{Sizes}
use Rattle.oak_model.proofs.Counting.{test-cases, both_true}
use Rattle.oak_model.proofs.Lists.{at_map}
use Rattle.arena_core.specs.declared.blocks.HeldBlock.{HeldBlock}
use Rattle.arena_core.specs.declared.blocks.HeldBlocks.{HeldBlocks}
use Rattle.arena_core.specs.Arena.{block_words, blocks}
use Rattle.arena_core.specs.Blocks.{HoldsBlock, holds, is_block, without, words_held}
use Rattle.arena_core.specs.Place.{place_word, class_in, block_in, class_from, content}
use Rattle.arena_core.proofs.HeldLists.{is_block-true}
use Rattle.arena_core.proofs.PlaceLaws.{class_in-word, block_in-word, place_word_fits, class_number-from, class_below}
use Rattle.header_core.specs.declared.states.TheConstants.{LOCKED}
use Rattle.header_core.specs.declared.holds.HeldHeader.{HeldHeader}
use Rattle.header_core.specs.Headers.{at_place}
use Rattle.header_core.specs.HeaderHolds.{in_state, place_held, generation_held}
use Rattle.header_core.specs.HeaderStep.{change_place, changed_at}
use Rattle.header_core.proofs.HeldChanges.{rows_changed}
use Rattle.oak_core.specs.declared.states.Finding.{Finding}
use Rattle.oak_core.specs.declared.states.PassState.{PassState}
use Rattle.oak_core.specs.Memory.{Memory, in_headers, memory}
use Rattle.oak_core.specs.Finding.{finding, noted, LoadsMore}
use Rattle.oak_core.specs.HeaderCalls.{ChangesPlace}
use Rattle.oak_core.specs.PassState.{blocks_of}
use Rattle.oak_core.specs.Step.{MayOnHeaders, same_block}
use Rattle.oak_core.proofs.held.HeaderStanding.{parts}
use Rattle.oak_core.proofs.owners.OneOwner.{unowned_held}
use Rattle.oak_core.proofs.memory.Words.{header_before}
use Rattle.value_ops.specs.HeldValue.{words_in}
use Rattle.value_ops.specs.UnderLock.{HasLock, ComesTo, LoadsPlace, Exchanges}
use Rattle.value_ops.proofs.ComesFurther.{comes_as, blocks_met, headers_met, comes_since, lock_met, headers_come}
use Rattle.value_ops.proofs.FillFacts.{fits_class, is_place}
use Rattle.value_ops.proofs.HeldParts.{changed_generation}
use Rattle.value_ops.proofs.HeldValues.{place_at, block_at, has_it, block_inside, class_low}
use Rattle.arena_core.proofs.HeldWords.{held_words}
use Rattle.value_ops.proofs.LockRows.{lock_row_mapped}

-- who has a block in front holds it
pub holds_front : (z : Sizes) (c b : ℕ) (o : HeldBlock) (os : List HeldBlock) (a : HeldBlocks) → a.held ≡ o ∷ os → class_number o.class ≡ c → o.number ≡ b → b < blocks z c → HoldsBlock z c b a
unfolding total
holds_front z c b o os a e k n lt = record {
  held = subst (λ (l : List HeldBlock). 0 < total (λ (q : HeldBlock). one_if (is_block c b q)) l) (sym e) (let i : one_if (is_block c b o) ≡ 1 = ap one_if (is_block-true c b o k n) in omega arith);
  inside = lt;
}

module _ (z : Sizes) (call h g : ℕ) (c : Class) (b len : ℕ) (v u : PassState) (lock : HasLock z h g v) (met : LoadsMore z call v u) (held : HoldsBlock z (class_number c) b v.blocks) (small : b < 2 ^ 32) (fits : class_of len ≡ Some c) where
  abbrev x : ℕ
  x = place_word (class_number c) b len

  class_is : class_in x ≡ class_number c
  class_is = let l = fits_class len c fits in class_in-word (class_number c) b len small (omega arith)

  number_is : block_in x ≡ b
  number_is = let l = fits_class len c fits in block_in-word (class_number c) b len small (omega arith)

  locked : HasLock z h g u
  locked = lock_met z call v u met h g lock

  holds_still : HoldsBlock z (class_number c) b u.blocks
  holds_still = subst (λ (y : PassState). HoldsBlock z (class_number c) b y.blocks) (sym met.after) record { held = held.held; inside = held.inside }

  pub may_change : MayOnHeaders z (change_place h x) u
  may_change = record {
    inside = lock.inside;
    headers = (locked.locked, let l = fits_class len c fits in place_word_fits (class_number c) b len (class_below c) small (omega arith));
    block = record { place = is_place c b len small fits; block = inr (subst (λ (p : ℕ × ℕ). HoldsBlock z p.0 p.1 u.blocks) (λ i. (sym class_is i, sym number_is i)) holds_still) };
    known = tt;
  }

  module _ (w : PassState) (t : ChangesPlace z call h x u w) where
    abbrev m : Memory
    m = memory z t.1.table.words

    abbrev old : ℕ
    old = place_held h u.headers.held

    -- the pass's block is not the header's
    two_blocks : same_block x (m.headers.place h) ≡ false
    two_blocks = test-cases (same_block x (m.headers.place h)) (λ s. s ≡ false)
        (λ is. let p = both_true (class_in x == class_in (m.headers.place h)) (block_in x == block_in (m.headers.place h)) is in
        let q = place_at z t.1.table t.1.rule t.1.seat u t.1.here h LOCKED (omega arith) (omega arith) locked.locked in
        let d : class_number c ≡ class_in old = sym class_is ∙ (eqb-true (class_in x) (class_in (m.headers.place h)) p.0 ∙ ap class_in q) in
        let e : b ≡ block_in old = sym number_is ∙ (eqb-true (block_in x) (block_in (m.headers.place h)) p.1 ∙ ap block_in q) in
        absurd (unowned_held z t.1.table t.1.rule t.1.seat u t.1.here (class_in old) (block_in old) h (subst (λ (k : ℕ × ℕ). 0 < holds k.0 k.1 u.blocks) (λ i. (d i, e i)) holds_still.held)
        (has_it z t.1.table t.1.rule t.1.seat u t.1.here h LOCKED (omega arith) (omega arith) locked.locked) lock.inside))
        (λ _. refl)

    new_words : content m.arena.bytes x ≡ words_held (class_number c) b u.blocks.held
    new_words = (λ i. rows 0 (block_words (class_is i)) (m.arena.bytes (class_is i) (number_is i)))
        ∙ held_words m.arena (class_number c) b u.blocks.held (t.1.rule.blocks.whole t.1.seat u.blocks (at_map blocks_of t.1.table.states t.1.seat u t.1.here)) (parts z t.1.table t.1.seat u t.1.rule t.1.here).blocks holds_still.held

    abbrev given : HeldBlock
    given = record { class = class_from (class_in old); number = block_in old; words = words_in h u.headers.held }

    abbrev held_then : List HeldBlock
    held_then = given ∷ without (class_number c) b u.blocks.held

    abbrev headers_then : List HeldHeader
    headers_then = changed_at h x (words_held (class_number c) b u.blocks.held) u.headers.held

    abbrev met_then : Finding
    met_then = finding z call (in_headers (at_place h)) None x t.1.table.words u

    came : ComesTo z call held_then headers_then u w
    came = record {
      more = met_then ∷ [];
      calls = ((refl, header_before z (at_place h) lock.inside, refl), tt);
      after = t.1.after ∙ (λ i. record (noted met_then u) {
        blocks = record u.blocks { held = cond (two_blocks i) u.blocks.held (block_at z t.1.table t.1.rule t.1.seat u t.1.here h LOCKED (omega arith) (omega arith) locked.locked i ∷ without (class_is i) (number_is i) u.blocks.held) };
        headers = record u.headers { held = changed_at h x (new_words i) u.headers.held };
      });
    }

    pub exchanges : LoadsPlace z call h v u → Exchanges z call h c b len (class_from (class_in old)) (block_in old) v w
    exchanges loads = let bs = blocks_met z call v u met in let hs = headers_met z call v u met in record {
      between = u;
      loads = loads;
      stores = t;
      class_is = ap (λ (rs : List HeldHeader). class_in (place_held h rs)) (sym hs) ∙ sym (class_number-from (class_in old) (class_low z t.1.table t.1.rule t.1.seat u t.1.here h LOCKED (omega arith) (omega arith) locked.locked));
      block_is = ap (λ (rs : List HeldHeader). block_in (place_held h rs)) (sym hs);
      comes = comes_as z call held_then (record { class = class_from (class_in old); number = block_in old; words = words_in h v.headers.held } ∷ without (class_number c) b v.blocks.held)
          headers_then (changed_at h x (words_held (class_number c) b v.blocks.held) v.headers.held) v w
          (λ i. record { class = class_from (class_in old); number = block_in old; words = words_in h (hs i) } ∷ without (class_number c) b (bs i)) (λ i. changed_at h x (words_held (class_number c) b (bs i)) (hs i))
          (comes_since z call v u met held_then headers_then w came);
    }

    pub holds_old : HoldsBlock z (class_number (class_from (class_in old))) (block_in old) w.blocks
    holds_old = let low = class_number-from (class_in old) (class_low z t.1.table t.1.rule t.1.seat u t.1.here h LOCKED (omega arith) (omega arith) locked.locked) in
        holds_front z (class_number (class_from (class_in old))) (block_in old) given (without (class_number c) b u.blocks.held) w.blocks (ap (λ (y : PassState). y.blocks.held) came.after) refl refl
        (subst (λ (k : ℕ). block_in old < blocks z k) (sym low) (block_inside z t.1.table t.1.rule t.1.seat u t.1.here h LOCKED (omega arith) (omega arith) locked.locked))

    pub locked_still : HasLock z h g w
    locked_still = let rs = u.headers.held in let ws = words_held (class_number c) b u.blocks.held in record {
      inside = lock.inside;
      locked = subst (λ (y : PassState). 0 < in_state h LOCKED y.headers) (sym came.after) (let k = rows_changed h x ws h LOCKED rs in let l = locked.locked in omega arith);
      generation = ap (generation_held h) (headers_come z call held_then headers_then u w came) ∙ (changed_generation h x ws rs ∙ locked.generation);
      row = lock_row_mapped (λ (r : HeldHeader). record r { place = cond (r.header == h) x r.place; words = cond (r.header == h) ws r.words }) (λ _. refl) h rs w.headers.held (headers_come z call held_then headers_then u w came) locked.row refl;
      unstamped = locked.unstamped;
    }
