-- The steps that end a lock: the header is live again, or dead.
use Rattle.std.proofs.Common.{◌≡◌, ℕ, ◌<◌, sym, refl, ap, ◌∙◌, subst, arith}
use Rattle.pin_word.specs.PinWord.{generation_of, state_of}
use Rattle.oak_model.specs.declared.writes.Kind.{Kind}
use Rattle.oak_model.specs.Limits.{Sizes}
use Rattle.arena_core.specs.Place.{content}
use Rattle.header_core.specs.declared.states.TheConstants.{LIVE, LOCKED, DEAD}
use Rattle.header_core.specs.Headers.{at_pin}
use Rattle.header_core.specs.HeaderHolds.{in_state, generation_held, without_header}
use Rattle.header_core.specs.HeaderStep.{HeaderStep, unlock_header, mark_dead, header_spot, stamped_at, buried_at, header_effect, header_found}
use Rattle.header_core.proofs.HeaderFacts.{holds_some}
use Rattle.header_core.proofs.HeldChanges.{rows_buried-dead}
use Rattle.pin_word.proofs.StepLaws.{state_down, state_up}
use Rattle.oak_core.specs.declared.states.PassState.{PassState}
use Rattle.oak_core.specs.Memory.{memory, in_headers}
use Rattle.oak_core.specs.HeaderCalls.{Unlocks, MarksDead}
use Rattle.oak_core.specs.Step.{on_headers, MayOnHeaders, Told, found}
use Rattle.oak_core.proofs.memory.Words.{header_before}
use Rattle.value_ops.specs.HeldValue.{stamp_held}
use Rattle.value_ops.specs.UnderLock.{HasBuried, HasValue, StoresNext, EndsLock, Buries, EndsTo}
use Rattle.value_ops.proofs.ComesFurther.{ends_after, ends_as, headers_end}
use Rattle.value_ops.proofs.HeldParts.{buried_stamp, buried_generation}
use Rattle.value_ops.proofs.HeldValues.{state_is, generation_at, place_at, stamp_at, words_at}
use Rattle.value_ops.proofs.StampStores.{IsStamped}
use Rattle.value_ops.proofs.StepLeft.{table_left, place_left, stamp_left, bytes_left, pin_found, small, left}
use Rattle.oak_core.specs.Finding.{finding, noted}
use Rattle.oak_core.specs.declared.states.Finding.{Finding}

module _ (z : Sizes) (call h g stamp : ℕ) (v u : PassState) (i : IsStamped z call h g stamp v u) where
  pub may_unlock : (kind : Kind) → MayOnHeaders z (unlock_header h kind) u
  may_unlock kind = record { inside = i.lock.inside; headers = i.lock.locked; block = tt; known = tt }

  pub may_bury : MayOnHeaders z (mark_dead h) u
  may_bury = record { inside = i.lock.inside; headers = i.lock.locked; block = tt; known = tt }

  -- a step on its pin word
  module _ (x : HeaderStep) (is : header_spot x ≡ at_pin h) (n : ℕ) (w : PassState) (t : Told z call (on_headers x) u n w) where
    pub was_locked : state_of n ≡ LOCKED
    was_locked = ap state_of (sym (pin_found z call x h is u n w t)) ∙ state_is z t.table t.rule t.seat u t.here h LOCKED (omega arith) (omega arith) i.lock.locked

    pub generation_was : generation_of n ≡ g
    generation_was = ap generation_of (sym (pin_found z call x h is u n w t)) ∙ (generation_at z t.table t.rule t.seat u t.here h LOCKED (omega arith) (omega arith) i.lock.locked ∙ i.lock.generation)

    -- leaves the value, with the stamp
    pub value_left : HasValue (memory z (table_left z call x h is u n w t).words) h stamp v.headers.held
    value_left = record {
      stamp_is = stamp_left z call x h is u n w t ∙ (stamp_at z t.table t.rule t.seat u t.here h LOCKED (omega arith) (omega arith) i.lock.locked ∙ i.stamp_is);
      place_is = place_left z call x h is u n w t ∙ (place_at z t.table t.rule t.seat u t.here h LOCKED (omega arith) (omega arith) i.lock.locked ∙ i.place_is);
      words_are = (λ j. content (bytes_left z call x h is u n w t j) (sym i.place_is j)) ∙ (words_at z t.table t.rule t.seat u t.here h LOCKED (omega arith) (omega arith) i.lock.locked ∙ i.words_are);
    }

  -- what the step met
  abbrev step_finding : (x : HeaderStep) (n : ℕ) (w : PassState) → Told z call (on_headers x) u n w → Finding
  step_finding x n w t = let k = found z (on_headers x) t.table in finding z call (in_headers (header_spot x)) (header_found x k) (header_effect x k) t.table.words u

  pub ends_lock : (kind : Kind) (n : ℕ) (w : PassState) → Unlocks z call h kind u n w → EndsLock z call h g kind stamp u v w
  ends_lock kind n w t = let x = unlock_header h kind in let down = state_down n (let e = was_locked x refl n w t in omega arith) (small z call x h refl u n w t) in record {
    number = n;
    told = t;
    left = left z call x h refl u n w t LIVE g (let d = down.1 in let e = was_locked x refl n w t in omega arith) (down.2 ∙ generation_was x refl n w t) down.0;
    value = value_left x refl n w t;
    comes = ends_as z call w.knowledge v.blocks.held (without_header h u.headers.held) (without_header h v.headers.held) v w i.others
        (ends_after z call v.blocks.held u.headers.held (without_header h u.headers.held) v u w (step_finding x n w t) (refl, header_before z (at_pin h) i.lock.inside, refl) i.comes
        (t.after ∙ (λ j. record (noted (step_finding x n w t) u) { knowledge = ap (λ (y : PassState). y.knowledge) (sym t.after) j; headers = record u.headers { held = without_header h u.headers.held } })));
  }

  module _ (n : ℕ) (w : PassState) (t : MarksDead z call h u n w) where
    marked : EndsTo z call w.knowledge v.blocks.held (buried_at h u.headers.held) v w
    marked = ends_after z call v.blocks.held u.headers.held (buried_at h u.headers.held) v u w (step_finding (mark_dead h) n w t) (refl, header_before z (at_pin h) i.lock.inside, refl) i.comes
        (t.after ∙ (λ j. record (noted (step_finding (mark_dead h) n w t) u) { knowledge = ap (λ (y : PassState). y.knowledge) (sym t.after) j; headers = record u.headers { held = buried_at h u.headers.held } }))

    pub buries : StoresNext z call h stamp v u → u.headers.held ≡ stamped_at h stamp v.headers.held → Buries z call h g stamp v w
    buries next e = let x = mark_dead h in let up = state_up n (let l = was_locked x refl n w t in omega arith) (small z call x h refl u n w t) in record {
      stamped = u;
      stores = next;
      number = n;
      told = t;
      left = left z call x h refl u n w t DEAD g (let d = up.1 in let l = was_locked x refl n w t in omega arith) (up.2 ∙ generation_was x refl n w t) up.0;
      value = value_left x refl n w t;
      comes = ends_as z call w.knowledge v.blocks.held (buried_at h u.headers.held) (buried_at h (stamped_at h stamp v.headers.held)) v w (ap (buried_at h) e) marked;
    }

    pub has_buried : HasBuried z h g stamp w
    has_buried = let rs = u.headers.held in let e : w.headers.held ≡ buried_at h rs = headers_end z call w.knowledge v.blocks.held (buried_at h rs) v w marked in record {
      inside = i.lock.inside;
      buried = subst (λ (y : PassState). 0 < in_state h DEAD y.headers) (sym marked.after) (let k = rows_buried-dead h rs in let l = holds_some h LOCKED u.headers i.lock.locked in omega arith);
      generation = ap (generation_held h) e ∙ (buried_generation h rs ∙ i.lock.generation);
      stamp_is = ap (stamp_held h) e ∙ (buried_stamp h rs ∙ i.stamp_is);
    }
