-- Looks at a life, and locks that are refused, of a pass that is alone: what it found stands in words that stay.
use Rattle.std.proofs.Common.{◌≡◌, ◌≢◌, ◌⊎◌, ℕ, ◌<◌, Bool, true, false, List, ◌∷◌, refl, sym, ap, ◌∙◌, subst, arith, ⊎_elim, Option, Some, None}
use Rattle.pin_word.specs.PinWord.{count_of, generation_of, state_of}
use Rattle.oak_model.specs.Counts.{total}
use Rattle.oak_model.specs.Limits.{Sizes}
use Rattle.header_core.specs.declared.holds.HeaderHolds.{HeaderHolds}
use Rattle.header_core.specs.declared.holds.HeldHeader.{HeldHeader}
use Rattle.header_core.specs.declared.states.TheConstants.{LOCKED}
use Rattle.header_core.specs.HeaderHolds.{no_headers}
use Rattle.header_core.proofs.HeldHeaders.{held_in}
use Rattle.oak_core.specs.declared.states.PassState.{PassState}
use Rattle.oak_core.specs.AloneWords.{Runs}
use Rattle.oak_core.specs.Memory.{index, memory}
use Rattle.oak_core.proofs.seats.AloneRuns.{Then, runs_as, runs_then}
use Rattle.oak_core.proofs.told.LockTold.{lock_held}
use Rattle.oak_core.proofs.told.PlainLoads.{met_at}
use Rattle.chunk_ops.specs.PinRecords.{WordsStay}
use Rattle.chunk_ops.proofs.MeetingCalls.{stays_then}
use Rattle.value_ops.specs.declared.locking.NoLock.{NoLock}
use Rattle.value_ops.specs.declared.locking.NoLock.TheVariants as no_lock
use Rattle.value_ops.specs.declared.pinning.BadPin.{BadPin}
use Rattle.value_ops.specs.declared.pinning.BadPin.TheVariants.{Locked, Dead, Other}
use Rattle.value_ops.specs.AloneLocks.{pin_in}
use Rattle.value_ops.specs.Claiming.{pin_spot}
use Rattle.value_ops.specs.Locking.{FindsNoLock, IsNoLock, Looks, LooksTwice, may_lock}
use Rattle.value_ops.specs.Pinning.{DropsPin, IsCause, IsLiveAt, LooksUnder, PinsDud}
use Rattle.value_ops.proofs.AloneLock.{never_lost}
use Rattle.value_ops.proofs.AlonePins.{load_stays, none_stays, undone}
use Rattle.value_ops.proofs.LockFacts.{live_word}
use Rattle.point_ops.specs.LoneLives.{LooksAlone, RefusesLock, RefusesLook}
use Rattle.point_ops.proofs.LoneMoments.{LoadsAlone, PinsAlone, load_moment, pin_moment}

-- what was found says less as well
pub looks_as : (z : Sizes) (h : ℕ) (P Q : ℕ → Type 0) (u v w : PassState) → ((n : ℕ) → P n → Q n) → Runs (LooksAlone z h P u) v w → Runs (LooksAlone z h Q u) v w
looks_as z h P Q u v w f a = runs_as (LooksAlone z h P u) (LooksAlone z h Q u) v w (λ x y d. record { stay = d.stay; alone = d.alone; moment = d.moment; says = f (pin_in z h x) d.says }) a

-- a pin that was undone

looked_stays : (z : Sizes) (call h : ℕ) (why : BadPin) (m : Rattle.oak_core.specs.Memory.Memory) (u x : PassState) → LooksUnder z call h why m u x → Runs WordsStay u x
looked_stays z call h Locked m u x e = subst (Runs WordsStay u) (sym e) (none_stays u)
looked_stays z call h (Dead stamp) m u x l = load_stays z call _ stamp u x l.0
looked_stays z call h Other m u x e = subst (Runs WordsStay u) (sym e) (none_stays u)

module _ (z : Sizes) (call h g : ℕ) (why : BadPin) (v w : PassState) (d : PinsDud z call h g why v w) where
  pub dud_alone : Runs (LooksAlone z h (IsCause why g) v) v w
  dud_alone = runs_as (Then (PinsAlone z h v d.number) (DropsPin z h)) (LooksAlone z h (IsCause why g) v) v w
      (λ a b s. record {
        stay = undone z h d.told.may.0.inside a s.0 b (λ k. k ≡ d.number) (λ k. 0 < count_of k) s.1.2 s.2;
        alone = s.1.1;
        moment = s.1.0;
        says = subst (IsCause why g) (sym s.1.2.0) d.cause;
      })
      (runs_then (PinsAlone z h v d.number) (DropsPin z h) v d.pinned w (pin_moment z call h g d.number v d.pinned d.told)
      (stays_then (DropsPin z h) d.pinned d.looked w (looked_stays z call h why (memory z d.told.table.words) d.pinned d.looked d.looks) d.undone.still))

-- a header that was found locked, or of another generation, is not live at this one
pub refused_look : (z : Sizes) (call h g : ℕ) (v w : PassState) (why : BadPin) → ((n : ℕ) → IsCause why g n → IsLiveAt g n → ⊥) → PinsDud z call h g why v w → Runs (RefusesLook z h g v) v w
refused_look z call h g v w why f d = looks_as z h (IsCause why g) (λ n. IsLiveAt g n → ⊥) v v w f (dud_alone z call h g why v w d)

pub locked_not : (g n : ℕ) → IsCause Locked g n → IsLiveAt g n → ⊥
locked_not g n c l = let a = c.1 in let b = l.1 in absurd (omega arith)

pub other_not : (g n : ℕ) → IsCause Other g n → IsLiveAt g n → ⊥
other_not g n c l = c l.0

-- a lock that was refused

not_so : (b : Bool) → (b ≡ true → ⊥) → b ≡ false
not_so true f = absurd (f refl)
not_so false f = refl

unlockable : (why : NoLock) (g n : ℕ) → IsNoLock why g n → may_lock n g ≡ true → ⊥
unlockable no_lock.Dead g n c e = let l = (live_word n g e).0.state in let d = c.1 in absurd (omega arith)
unlockable no_lock.Busy g n c e = let l = live_word n g e in ⊎_elim (λ (other : generation_of n ≢ g). other l.1)
    (λ (o : (state_of n ≡ LOCKED) ⊎ (0 < count_of n)). ⊎_elim (λ (q : state_of n ≡ LOCKED). let s = l.0.state in absurd (omega arith)) (λ (q : 0 < count_of n). let s = l.0.count in absurd (omega arith)) o) c.1

module _ (z : Sizes) (call h g : ℕ) (why : NoLock) (v w : PassState) (inside : h < z.headers) (none : v.headers ≡ no_headers) (f : FindsNoLock z call h g why v w) where
  no_more : (a : HeaderHolds) (x : HeldHeader) (rest : List HeldHeader) → a ≡ no_headers → a.held ≡ x ∷ rest → ⊥
  no_more a x rest e q = absurd cc

  still_none : w.headers ≡ no_headers
  still_none = ap (λ (y : PassState). y.headers) f.after ∙ none

  -- an exchange that found what was seen would have locked it
  missed : (seen : ℕ) (l : LooksTwice z call h seen v f.number w) → f.number ≢ seen
  unfolding total
  missed seen l e = no_more w.headers _ l.between.headers.held still_none
      (ap (λ (a : HeaderHolds). a.held) (lock_held z call h seen l.between f.number w l.told e (ap (λ (a : HeaderHolds). held_in h a.held) none_between)))
    where
      none_between : l.between.headers ≡ no_headers
      none_between = ap (λ (y : PassState). y.headers) (met_at z call (index z (pin_spot h)) seen v l.between (pin_spot h) inside tt refl l.loads) ∙ none

  by_looks : (first : Option ℕ) → Looks z call h first v f.number w → Runs (RefusesLock z h g v) v w
  by_looks None l = runs_as (LoadsAlone z (pin_spot h) v f.number) (RefusesLock z h g v) v w
      (λ a b d. record { stay = d.3; alone = d.1; moment = d.0; says = ap (λ (n : ℕ). may_lock n g) (sym d.2) ∙ not_so (may_lock f.number g) (unlockable why g f.number f.cause) })
      (load_moment z call (index z (pin_spot h)) f.number v w (pin_spot h) inside refl l)
  by_looks (Some seen) l = never_lost z call h g inside (index z (pin_spot h)) seen v l.between refl l.loads f.number w l.told (missed seen l) (RefusesLock z h g v)

  pub refused_lock : Runs (RefusesLock z h g v) v w
  refused_lock = by_looks f.first f.looks
