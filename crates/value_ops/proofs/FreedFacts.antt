-- What a step that frees a header leaves.
use Rattle.std.proofs.Common.{◌≡◌, ℕ, ◌+◌, ◌-◌, ◌*◌, ◌%◌, ◌^◌, ◌<◌, [], ◌∷◌, map, sym, refl, ap, ◌∙◌, arith}
use Rattle.pin_word.specs.PinWord.{generation_of, state_of, STATE}
use Rattle.oak_model.specs.Limits.{Sizes}
use Rattle.arena_core.specs.Place.{IsPlace, content}
use Rattle.header_core.specs.declared.states.TheConstants.{FREE, RETIRED}
use Rattle.header_core.specs.declared.holds.HeldAs.{HeldAs}
use Rattle.header_core.specs.declared.holds.HeldAs.TheVariants.{Owned, Fresh, Locked, Buried}
use Rattle.header_core.specs.HeaderHolds.{held_state}
use Rattle.header_core.specs.Headers.{at_pin}
use Rattle.header_core.specs.HeaderStep.{release_header}
use Rattle.header_core.proofs.HeaderFacts.{held_is}
use Rattle.header_core.proofs.PinWordChanges.{state_off}
use Rattle.oak_core.specs.declared.states.PassState.{PassState}
use Rattle.oak_core.specs.AloneWords.{Runs}
use Rattle.oak_core.specs.Memory.{memory}
use Rattle.oak_core.specs.Finding.{finding}
use Rattle.oak_core.specs.HeaderCalls.{Releases}
use Rattle.oak_core.specs.PassState.{headers_held}
use Rattle.oak_core.proofs.held.HeaderStanding.{knows, stand, at_headers}
use Rattle.oak_core.proofs.memory.Words.{header_before}
use Rattle.value_ops.specs.Claiming.{pin_spot}
use Rattle.value_ops.specs.Filling.{FreesPin, IsFreed, ReleasesOwned}
use Rattle.value_ops.proofs.AlonePins.{pin_changes}
use Rattle.value_ops.proofs.StepLeft.{pin_found, small, left}

held_low : (s : HeldAs) → (0 < held_state s) × (held_state s < RETIRED)
held_low Owned = ((omega arith), (omega arith))
held_low Fresh = ((omega arith), (omega arith))
held_low (Locked at) = ((omega arith), (omega arith))
held_low Buried = ((omega arith), (omega arith))

-- the word of a header that is freed, as it is reckoned
freed_word : (s : HeldAs) (n : ℕ) → state_of n ≡ held_state s → n < 2 ^ 64 → (n + (2 ^ 64 - held_state s * STATE)) % 2 ^ 64 ≡ n - held_state s * STATE
unfolding state_of
freed_word Owned n e lt = omega arith
freed_word Fresh n e lt = omega arith
freed_word (Locked at) n e lt = omega arith
freed_word Buried n e lt = omega arith

module _ (z : Sizes) (call h : ℕ) (s : HeldAs) (v : PassState) (n : ℕ) (w : PassState) (t : Releases z call h s v n w) where
  was : state_of n ≡ held_state s
  was = let low = held_low s in ap state_of (sym (pin_found z call (release_header h s) h refl v n w t))
      ∙ held_is (memory z t.table.words).headers (content (memory z t.table.words).arena.bytes) IsPlace (knows t.table) (map headers_held t.table.states) (stand z t.table t.seat v t.rule t.here) t.seat v.headers h (held_state s) (at_headers z t.table t.seat v t.rule t.here) low.0 low.1 t.may.0.headers.0

  pub frees : Runs (FreesPin z h (held_state s)) v w
  frees = pin_changes z call (release_header h s) h refl v n w t (λ k. state_of k ≡ held_state s) (λ k. k - held_state s * STATE) was (freed_word s n was (small z call (release_header h s) h refl v n w t))

  pub freed : IsFreed z call h s v n w t
  freed = let off = state_off s n was (small z call (release_header h s) h refl v n w t) in left z call (release_header h s) h refl v n w t FREE (generation_of n) off.1 off.2 off.0

pub releases_owned : (z : Sizes) (call h : ℕ) (v : PassState) (n : ℕ) (w : PassState) → Releases z call h Owned v n w → ReleasesOwned z call h v w
releases_owned z call h v n w t = record {
  number = n;
  told = t;
  freed = freed z call h Owned v n w t;
  more = finding z call (pin_spot h) _ _ t.table.words v ∷ [];
  calls = ((refl, header_before z (at_pin h) t.may.0.inside, refl), tt);
  still = frees z call h Owned v n w t;
  after = t.after;
}
