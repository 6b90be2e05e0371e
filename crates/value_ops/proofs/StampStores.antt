-- The stamp of a locked header, loaded, and stored before the lock ends.
use Rattle.std.proofs.Common.{◌≡◌, ℕ, suc, ◌+◌, ◌-◌, ◌^◌, ◌<◌, ◌≤◌, nat_lt, cond, Bool, min, List, [], ◌∷◌, sym, refl, ap, ◌∙◌, subst, arith, ◌==◌}
use Rattle.std.proofs.lemmas.Bool.{ltb-true, ltb-false}
use Rattle.oak_model.proofs.Counting.{test-cases}
use Rattle.oak_model.specs.Limits.{Sizes}
use Rattle.arena_core.specs.Arena.{block_words, blocks}
use Rattle.arena_core.specs.Place.{IsPlace, class_in, block_in}
use Rattle.header_core.specs.declared.states.TheConstants.{LOCKED}
use Rattle.header_core.specs.declared.holds.HeldHeader.{HeldHeader}
use Rattle.header_core.specs.Headers.{at_place, at_stamp}
use Rattle.header_core.specs.HeaderHolds.{in_state, place_held, generation_held, without_header}
use Rattle.header_core.specs.HeaderStep.{store_stamp, stamped_at}
use Rattle.header_core.proofs.HeaderFacts.{holds_some}
use Rattle.header_core.proofs.HeldChanges.{rows_stamped}
use Rattle.oak_core.specs.declared.states.PassState.{PassState}
use Rattle.oak_core.specs.Memory.{in_headers, index}
use Rattle.oak_core.specs.Finding.{LoadsMore}
use Rattle.oak_core.specs.HeaderCalls.{StoresStamp}
use Rattle.oak_core.specs.Splitting.{Loads}
use Rattle.oak_core.proofs.memory.Words.{header_before}
use Rattle.oak_core.specs.Step.{MayOnHeaders}
use Rattle.value_ops.specs.HeldValue.{stamp_held, words_in}
use Rattle.value_ops.specs.UnderLock.{HasBlock, HasLock, next_stamp, ComesTo, HoldsLock}
use Rattle.value_ops.proofs.ComesFurther.{comes_none, comes_as, headers_come, blocks_met, headers_met, comes_since, lock_met, holds_lock}
use Rattle.value_ops.proofs.FillFacts.{stamped_place}
use Rattle.value_ops.proofs.HeldParts.{stamped_words, stamped_generation, stamped_here, without_stamped}
use Rattle.value_ops.proofs.HeldValues.{place_at, stamp_at, is_place, block_inside, words_long, once_at}
use Rattle.value_ops.proofs.LoadFacts.{found_is}
use Rattle.value_ops.proofs.LockRows.{lock_row_mapped}

-- what is loaded of a header that the pass has in a state with a block
module _ (z : Sizes) (call h t word n : ℕ) (v w : PassState) (inside : h < z.headers) (above : 2 ≤ t) (low : t < 5) (held : 0 < in_state h t v.headers) (l : Loads z call word v n w) where
  pub held_place : word ≡ index z (in_headers (at_place h)) → n ≡ place_held h v.headers.held
  held_place e = found_is z call word n v w l (in_headers (at_place h)) inside e ∙ place_at z l.told.table l.told.rule l.told.seat v l.told.here h t above low held

  -- the place names the header's block
  pub held_block : n ≡ place_held h v.headers.held → HasBlock z h n v.headers.held
  held_block e = let s = l.told.table in let r = l.told.rule in let j = l.told.seat in let at = l.told.here in record {
    named = subst IsPlace (sym e) (is_place z s r j v at h t above low held);
    inside = subst (λ (p : ℕ). block_in p < blocks z (class_in p)) (sym e) (block_inside z s r j v at h t above low held);
    whole = words_long z s r j v at h t above low held ∙ ap (λ (p : ℕ). block_words (class_in p)) (sym e);
    once = once_at z s r j v at h t above low held;
  }

  pub held_stamp : word ≡ index z (in_headers (at_stamp h)) → n ≡ stamp_held h v.headers.held
  held_stamp e = found_is z call word n v w l (in_headers (at_stamp h)) inside e ∙ stamp_at z l.told.table l.told.rule l.told.seat v l.told.here h t above low held

-- a store to the stamp word of a locked header
module _ (z : Sizes) (call h g x : ℕ) (v : PassState) (lock : HasLock z h g v) (small : x < 2 ^ 64) where
  pub may_stamp : MayOnHeaders z (store_stamp h x) v
  may_stamp = record { inside = lock.inside; headers = ((let l = lock.locked in omega arith), small); block = tt; known = tt }

  pub stamp_stored : (w : PassState) → StoresStamp z call h x v w → ComesTo z call v.blocks.held (stamped_at h x v.headers.held) v w
  stamp_stored w t = record { more = _ ∷ []; calls = ((refl, header_before z (at_stamp h) lock.inside, refl), tt); after = t.1.after }

-- by a pass that only met more since
pub stored_since : (z : Sizes) (call h g x : ℕ) (v u w : PassState) → HasLock z h g v → LoadsMore z call v u → x < 2 ^ 64 → StoresStamp z call h x u w → ComesTo z call v.blocks.held (stamped_at h x v.headers.held) v w
stored_since z call h g x v u w lock met small t =
    comes_as z call u.blocks.held v.blocks.held (stamped_at h x u.headers.held) (stamped_at h x v.headers.held) v w (blocks_met z call v u met) (ap (stamped_at h x) (headers_met z call v u met))
    (comes_since z call v u met u.blocks.held (stamped_at h x u.headers.held) w (stamp_stored z call h g x u (lock_met z call v u met h g lock) small w t))

-- the stamp behind one, as it is reckoned
pub next_is : (n : ℕ) → n < 2 ^ 64 → min (n + 1) (2 ^ 64 - 1) ≡ next_stamp n
next_is n small = test-cases (nat_lt n (2 ^ 64 - 1)) (λ (t : Bool). min (n + 1) (2 ^ 64 - 1) ≡ cond t (suc n) n) (λ t. let l = ltb-true n (2 ^ 64 - 1) t in omega arith) (λ f. let l = ltb-false n (2 ^ 64 - 1) f in omega arith)

-- The pass has the header locked still; the stamp is this one, and place, words and the other headers are as before.
pub record IsStamped (z : Sizes) (call h g stamp : ℕ) (v w : PassState) : Type 0 where
  pub lock : HoldsLock z h g w
  pub comes : ComesTo z call v.blocks.held w.headers.held v w
  pub stamp_is : stamp_held h w.headers.held ≡ stamp
  pub place_is : place_held h w.headers.held ≡ place_held h v.headers.held
  pub words_are : words_in h w.headers.held ≡ words_in h v.headers.held
  pub others : without_header h w.headers.held ≡ without_header h v.headers.held

module _ (z : Sizes) (call h g : ℕ) (v : PassState) (lock : HasLock z h g v) where
  -- where the stamp was stored
  pub is_stamped : (x : ℕ) (w : PassState) → ComesTo z call v.blocks.held (stamped_at h x v.headers.held) v w → IsStamped z call h g x v w
  is_stamped x w c = let rs = v.headers.held in let e : w.headers.held ≡ stamped_at h x rs = headers_come z call v.blocks.held (stamped_at h x rs) v w c in record {
    lock = record {
      inside = lock.inside;
      locked = subst (λ (y : PassState). 0 < in_state h LOCKED y.headers) (sym c.after) (let k = rows_stamped h x h LOCKED rs in let l = lock.locked in omega arith);
      generation = ap (generation_held h) e ∙ (stamped_generation h x rs ∙ lock.generation);
      row = lock_row_mapped (λ (r : HeldHeader). record r { stamp = cond (r.header == h) x r.stamp }) (λ _. refl) h rs w.headers.held e lock.row refl;
    };
    comes = subst (λ (ks : List HeldHeader). ComesTo z call v.blocks.held ks v w) (sym e) c;
    stamp_is = ap (stamp_held h) e ∙ stamped_here h x rs (holds_some h LOCKED v.headers lock.locked);
    place_is = ap (place_held h) e ∙ stamped_place h h x rs;
    words_are = ap (words_in h) e ∙ stamped_words h x rs;
    others = ap (without_header h) e ∙ without_stamped h x rs;
  }

  -- and where none was
  pub as_stamped : IsStamped z call h g (stamp_held h v.headers.held) v v
  as_stamped = record { lock = holds_lock z h g v lock; comes = comes_none z call v; stamp_is = refl; place_is = refl; words_are = refl; others = refl }
