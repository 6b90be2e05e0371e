-- A lock that was refused found the header's word so in the call, and only met more.
use Rattle.std.proofs.Common.{◌≡◌, ◌≢◌, ◌⊎◌, ℕ, ◌+◌, ◌<◌, Bool, cond, List, ◌∷◌, [], ◌++◌, length, eq-eqb, arith, Option, Some, None, sym, refl, ap, ◌∙◌, subst, inl, inr, ⊎_elim, append_assoc}
use Rattle.std.proofs.lemmas.List.{length-map}
use Rattle.pin_word.specs.PinWord.{generation_of, state_of, count_of}
use Rattle.oak_model.specs.Limits.{Sizes}
use Rattle.arena_core.specs.Place.{content}
use Rattle.oak_model.proofs.Lists.{each_map}
use Rattle.header_core.specs.declared.states.TheConstants.{LOCKED}
use Rattle.header_core.specs.declared.holds.HeaderHolds.{HeaderHolds}
use Rattle.header_core.specs.declared.holds.HeldHeader.{HeldHeader}
use Rattle.header_core.specs.HeaderHolds.{no_headers, had_header}
use Rattle.header_core.specs.HeaderStep.{lock_header, locked_at, header_effect}
use Rattle.oak_core.specs.declared.states.Finding.{Finding}
use Rattle.oak_core.specs.declared.states.PassState.{PassState}
use Rattle.oak_core.specs.AloneWords.{Runs}
use Rattle.oak_core.specs.CallSteps.{MetMore, Stands}
use Rattle.oak_core.specs.Finding.{finding, grown, had, IsOf}
use Rattle.oak_core.specs.HeaderCalls.{Locks}
use Rattle.oak_core.specs.KeyedHeaders.{keyed_at}
use Rattle.oak_core.specs.LifeKeys.{key_known, key_or}
use Rattle.oak_core.specs.Memory.{Memory, Spot, index, memory}
use Rattle.oak_core.specs.QuietSteps.{IsQuiet, Quiet}
use Rattle.oak_core.specs.PassState.{bare_state}
use Rattle.oak_core.specs.Step.{on_headers, found}
use Rattle.oak_core.proofs.seats.AloneRuns.{runs_as}
use Rattle.oak_core.proofs.calls.FoundThere.{found_first, found_later}
use Rattle.oak_core.proofs.told.LockTold.{lock_missed, word_found}
use Rattle.oak_core.proofs.told.PlainLoads.{met_at}
use Rattle.oak_core.proofs.calls.QuietCalls.{only_both, quiet_load}
use Rattle.oak_core.proofs.memory.Words.{index_apart}
use Rattle.chunk_ops.specs.PinRecords.{OnlyMeets, WordsStay}
use Rattle.value_ops.specs.declared.locking.NoLock.{NoLock}
use Rattle.value_ops.specs.declared.locking.NoLock.TheVariants.{Busy, Dead}
use Rattle.value_ops.specs.AloneLocks.{RefusesPin}
use Rattle.value_ops.specs.Claiming.{pin_spot}
use Rattle.value_ops.specs.Locking.{FindsNoLock, IsNoLock, Looks, LooksOnce, LooksTwice}
use Rattle.point_ops.specs.Changes.{NoLockBy}
use Rattle.point_ops.specs.FoundWords.{FoundWord}
use Rattle.point_ops.specs.Halting.{IsLockedOut, IsPinned}

-- what was found in a part of a call was found in the whole
module _ (z : Sizes) (call : ℕ) (p : Spot) (P : ℕ → Type 0) where
  pub word_behind : (u v w : PassState) → MetMore call u v → FoundWord z call p P v w → FoundWord z call p P u w
  word_behind u v w m f = record { more = m.more ++ f.more; met = f.met ∙ (ap (λ (l : List Finding). l ++ f.more) m.met ∙ append_assoc u.findings.met m.more f.more); found = found_later z call p bare_state bare_state m.more f.more P refl f.found }

  pub word_until : (v w t : PassState) → MetMore call w t → FoundWord z call p P v w → FoundWord z call p P v t
  word_until v w t m f = record { more = f.more ++ m.more; met = m.met ∙ (ap (λ (l : List Finding). l ++ m.more) f.met ∙ append_assoc v.findings.met f.more m.more); found = found_first z call p bare_state f.more m.more P f.found }

module _ (z : Sizes) (call h g : ℕ) where
  pub refused_behind : (why : NoLock) (u v w : PassState) → MetMore call u v → NoLockBy why z call h g v w → NoLockBy why z call h g u w
  refused_behind Dead u v w m f = word_behind z call (pin_spot h) _ u v w m f
  refused_behind Busy u v w m f = ⊎_elim (λ x. inl (word_behind z call (pin_spot h) (IsLockedOut g) u v w m x)) (λ x. inr (word_behind z call (pin_spot h) (IsPinned g) u v w m x)) f

  pub refused_until : (why : NoLock) (v w t : PassState) → MetMore call w t → NoLockBy why z call h g v w → NoLockBy why z call h g v t
  refused_until Dead v w t m f = word_until z call (pin_spot h) _ v w t m f
  refused_until Busy v w t m f = ⊎_elim (λ x. inl (word_until z call (pin_spot h) (IsLockedOut g) v w t m x)) (λ x. inr (word_until z call (pin_spot h) (IsPinned g) v w t m x)) f

-- by whatever the header was not locked, the pass had none, and what it looked at last it found
module _ (z : Sizes) (call h : ℕ) (inside : h < z.headers) (P : ℕ → Type 0) where
  by_load : (v w : PassState) (n : ℕ) → v.headers ≡ no_headers → LooksOnce z call h v n w → P n → FoundWord z call (pin_spot h) P v w
  by_load v w n none l shows = record {
    more = f ∷ [];
    met = ap (λ (y : PassState). y.findings.met) (met_at z call (index z (pin_spot h)) n v w (pin_spot h) inside tt refl l);
    found = record { place = 0; finding = f; there = refl; call_is = refl; word_is = l.at; number = n; found_is = refl; shows = shows; had_is = ap (λ (s : Spot). had s v) (index_apart z l.spot (pin_spot h) l.inside inside l.at) ∙ ap (had_header h) none };
  }
    where
      f : Finding
      f = finding z call l.spot (Some n) n l.told.table.words v

  by_exchange : (v w : PassState) (seen n : ℕ) → v.headers ≡ no_headers → LooksTwice z call h seen v n w → P n → FoundWord z call (pin_spot h) P v w
  by_exchange v w seen n none l shows = word_behind z call (pin_spot h) P v l.between w first record {
    more = f ∷ [];
    met = ap (λ (y : PassState). y.findings.met) l.told.after;
    found = record { place = 0; finding = f; there = refl; call_is = refl; word_is = refl; number = n; found_is = ap Some l.told.finds; shows = shows; had_is = ap (had_header h) (ap (λ (y : PassState). y.headers) after ∙ none) };
  }
    where
      after : l.between ≡ grown (finding z call l.loads.spot (Some seen) seen l.loads.told.table.words v ∷ []) v
      after = met_at z call (index z (pin_spot h)) seen v l.between (pin_spot h) inside tt refl l.loads

      first : MetMore call v l.between
      first = record { more = finding z call l.loads.spot (Some seen) seen l.loads.told.table.words v ∷ []; met = ap (λ (y : PassState). y.findings.met) after; calls = (refl, tt) }

      f : Finding
      f = let i = found z (on_headers (lock_header h seen)) l.told.table in finding z call (pin_spot h) (Some i) (header_effect (lock_header h seen) i) l.told.table.words l.between

  by_looks : (first : Option ℕ) (v w : PassState) (n : ℕ) → v.headers ≡ no_headers → Looks z call h first v n w → P n → FoundWord z call (pin_spot h) P v w
  by_looks None v w n none l shows = by_load v w n none l shows
  by_looks (Some seen) v w n none l shows = by_exchange v w seen n none l shows

pub refused_by : (z : Sizes) (call h g : ℕ) (why : NoLock) (v w : PassState) → h < z.headers → v.headers ≡ no_headers → FindsNoLock z call h g why v w → NoLockBy why z call h g v w
refused_by z call h g why v w inside none f = by_cause why f.cause
  where
    by_cause : (o : NoLock) → IsNoLock o g f.number → NoLockBy o z call h g v w
    by_cause Dead cause = by_looks z call h inside _ f.first v w f.number none f.looks cause
    by_cause Busy cause = ⊎_elim (λ (other : generation_of f.number ≢ g). inl (by_looks z call h inside (IsLockedOut g) f.first v w f.number none f.looks (inr other)))
        (λ (o : (state_of f.number ≡ LOCKED) ⊎ (0 < count_of f.number)). ⊎_elim (λ (locked : state_of f.number ≡ LOCKED). inl (by_looks z call h inside (IsLockedOut g) f.first v w f.number none f.looks (inl locked)))
        (λ (pinned : 0 < count_of f.number). inr (by_looks z call h inside (IsPinned g) f.first v w f.number none f.looks pinned)) o) cause.1

-- An exchange by which the pass came to hold no header found another word than the one that it wanted.
module _ (z : Sizes) (call h seen : ℕ) (v : PassState) (n : ℕ) (w : PassState) (t : Locks z call h seen v n w) where
  abbrev m : Memory
  m = memory z t.table.words

  abbrev taken : Bool → List HeldHeader
  taken b = cond b (keyed_at h (key_or (key_known h (generation_of seen) v.knowledge)) (cond b (locked_at m.headers (content m.arena.bytes) h ∷ v.headers.held) v.headers.held)) (cond b (locked_at m.headers (content m.arena.bytes) h ∷ v.headers.held) v.headers.held)

  one_more : n ≡ seen → length w.headers.held ≡ length v.headers.held + 1
  one_more e = ap (λ (y : PassState). length y.headers.held) t.after ∙ (ap (λ (b : Bool). length (taken b)) (eq-eqb (m.headers.pin h) seen (word_found z call h seen v n w t ∙ e))
      ∙ (length-map (locked_at m.headers (content m.arena.bytes) h ∷ v.headers.held) _ ∙ (let k : length (locked_at m.headers (content m.arena.bytes) h ∷ v.headers.held) ≡ length v.headers.held + 1 = omega arith in k)))

  quiet_missed : w.headers ≡ v.headers → Quiet v w
  quiet_missed same = record { more = _ ∷ []; met = ap (λ (y : PassState). y.findings.met) (lock_missed z call h seen v n w t other); each = ((refl, inl refl), tt) }
    where
      other : n ≢ seen
      other e = let k = one_more e in let l : length w.headers.held ≡ length v.headers.held = ap (λ (a : HeaderHolds). length a.held) same in absurd (omega arith)

-- so a lock that was refused took no block, and left the word as it found it
quiet_looks : (z : Sizes) (call h : ℕ) (inside : h < z.headers) (first : Option ℕ) (v : PassState) (n : ℕ) (w : PassState) → w.headers ≡ v.headers → Looks z call h first v n w → Quiet v w
quiet_looks z call h inside None v n w same l = quiet_load z call l.spot v n w l.told
quiet_looks z call h inside (Some seen) v n w same l = only_both IsQuiet v l.between w (quiet_load z call l.loads.spot v seen l.between l.loads.told)
    (quiet_missed z call h seen l.between n w l.told (same ∙ sym (ap (λ (y : PassState). y.headers) (met_at z call (index z (pin_spot h)) seen v l.between (pin_spot h) inside tt refl l.loads))))

-- a lock that was refused only met more, and to a pass that is alone the words stay
pub refused_only : (z : Sizes) (call h g : ℕ) (why : NoLock) (v w : PassState) → h < z.headers → FindsNoLock z call h g why v w → Runs (RefusesPin z h g why) v w → OnlyMeets call v w
refused_only z call h g why v w inside f still = record {
  stands = subst (Stands call v) (sym f.after) record { met = record { more = f.more; met = refl; calls = each_map (IsOf z call) (λ (y : Finding). y.call ≡ call) f.more (λ y o. o.0) f.calls }; numbers = refl; knowledge = refl; fulls = refl; swept = refl; sights = refl; gones = refl; rebalances = refl };
  quiet = quiet_looks z call h inside f.first v f.number w (ap (λ (y : PassState). y.headers) f.after) f.looks;
  blocks = ap (λ (y : PassState). y.blocks) f.after;
  headers = ap (λ (y : PassState). y.headers) f.after;
  rooms = ap (λ (y : PassState). y.rooms) f.after;
  still = runs_as (RefusesPin z h g why) WordsStay v w (λ a b d. d.2) still;
}

-- by either cause
pub refused_some : (z : Sizes) (call h g : ℕ) (why : NoLock) (v w : PassState) → NoLockBy why z call h g v w → NoLockBy Busy z call h g v w ⊎ NoLockBy Dead z call h g v w
refused_some z call h g Busy v w f = inl f
refused_some z call h g Dead v w f = inr f
