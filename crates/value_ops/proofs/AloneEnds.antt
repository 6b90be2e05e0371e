-- What the calls that end a lock, change its block or take a header back do to the words, where the pass is alone.
use Rattle.std.proofs.Common.{◌≡◌, ℕ, ◌+◌, ◌-◌, ◌*◌, ◌%◌, ◌^◌, ◌<◌, ◌≤◌, cond, Bool, List, get_or, set, sym, refl, ap, ◌∙◌, subst, arith, eq-eqb, ne_eqb}
use mathlib.Core.Logic.{dite}
use native.Mathlib.Decide.{ℕ_discrete}
use Rattle.pin_word.specs.PinWord.{generation_of, state_of, STATE}
use Rattle.oak_model.specs.declared.classes.Class.{Class}
use Rattle.oak_model.specs.declared.writes.Kind.{Kind}
use Rattle.oak_model.specs.declared.writes.Kind.TheVariants.{Put}
use Rattle.oak_model.specs.Class.{class_number}
use Rattle.oak_model.specs.Limits.{Sizes}
use Rattle.arena_core.specs.Place.{place_word, class_in, block_in}
use Rattle.header_core.specs.declared.states.TheConstants.{LIVE, LOCKED, DEAD, RETIRED}
use Rattle.header_core.specs.Headers.{HeaderSpot, at_pin, at_place, at_stamp}
use Rattle.header_core.specs.HeaderHolds.{in_state, place_held, generation_held}
use Rattle.header_core.specs.HeaderStep.{HeaderStep, store_stamp, change_place, unlock_header, mark_dead, take_back, header_spot, header_effect, renewal}
use Rattle.oak_core.specs.declared.states.PassState.{PassState}
use Rattle.oak_core.specs.AloneWords.{Moment, Runs}
use Rattle.oak_core.specs.HeaderCalls.{Unlocks, MarksDead}
use Rattle.oak_core.specs.Memory.{Memory, in_headers, index}
use Rattle.oak_core.specs.Step.{on_headers}
use Rattle.oak_core.specs.TableState.{TableState}
use Rattle.oak_core.proofs.seats.AloneRuns.{Then, runs_then, runs_as}
use Rattle.oak_core.proofs.held.HeaderStanding.{small_pin}
use Rattle.oak_core.proofs.memory.Words.{memory_read, memory_set}
use Rattle.value_ops.specs.AloneLocks.{pin_in, put_pin, put_place, stamp_in, put_stamp, IsLockedIn, IsDeadIn, UnlocksPin, WritesWords, BuriesWords, ChangesWord, RenewsPin}
use Rattle.value_ops.specs.Claiming.{pin_spot}
use Rattle.value_ops.specs.UnderLock.{HoldsLock, HasLock, HasBuried, next_stamp, StoresNext, WritesOver, GivesUp, Buries, Exchanges, Renews}
use Rattle.value_ops.proofs.AloneSteps.{DoesAt, LoadsAt, load_does, header_does}
use Rattle.value_ops.proofs.ComesFurther.{holds_lock, place_loaded, stamp_loaded, buried_met}
use Rattle.value_ops.proofs.HeldValues.{state_is, generation_at}
use Rattle.value_ops.proofs.RenewFacts.{room}
use Rattle.value_ops.proofs.StampStores.{stored_since, is_stamped}

-- the words that a pin word becomes, without a carry

less : (n : ℕ) → state_of n ≡ LOCKED → n < 2 ^ 64 → (n + (2 ^ 64 - STATE)) % 2 ^ 64 ≡ n - STATE
unfolding state_of
less n locked small = omega arith

more : (n : ℕ) → state_of n ≡ LOCKED → n < 2 ^ 64 → (n + STATE) % 2 ^ 64 ≡ n + STATE
unfolding state_of
more n locked small = omega arith

raised : (n x : ℕ) → n + x < 2 ^ 64 → (n + x) % 2 ^ 64 ≡ n + x
raised n x small = omega arith

raised_small : (n g : ℕ) → state_of n ≡ DEAD → generation_of n ≡ g → g + 1 < 2 ^ 32 → n + renewal g < 2 ^ 64
unfolding state_of generation_of
raised_small n g dead at few = dite (ℕ_discrete (g + 2) (2 ^ 32))
    (λ e. subst (λ (t : Bool). n + cond t (2 ^ 32 + STATE) (2 ^ 32 - DEAD * STATE) < 2 ^ 64) (sym (eq-eqb (g + 2) (2 ^ 32) e)) (omega arith))
    (λ ne. subst (λ (t : Bool). n + cond t (2 ^ 32 + STATE) (2 ^ 32 - DEAD * STATE) < 2 ^ 64) (sym (ne_eqb (g + 2) (2 ^ 32) ne)) (omega arith))

-- at a moment at which the rule holds, a header that the pass has locked, or buries
module _ (z : Sizes) (words : List ℕ) (v : PassState) (m : Moment z words v) (h t g : ℕ) (above : LIVE ≤ t) (low : t < RETIRED) (held : 0 < in_state h t v.headers) (generation : generation_held h v.headers.held ≡ g) where
  abbrev table : TableState
  table = record { words = words; states = m.states }

  is_now : (state_of (pin_in z h words) ≡ t) × (generation_of (pin_in z h words) ≡ g)
  is_now = (state_is z table m.rule m.seat v m.here h t above low held, generation_at z table m.rule m.seat v m.here h t above low held ∙ generation)

locked_now : (z : Sizes) (words : List ℕ) (v : PassState) → Moment z words v → (h g : ℕ) → HoldsLock z h g v → IsLockedIn z h g words
locked_now z words v m h g l = is_now z words v m h LOCKED g (omega arith) (omega arith) l.locked l.generation

pin_small : (z : Sizes) (words : List ℕ) (v : PassState) → Moment z words v → (h : ℕ) → pin_in z h words < 2 ^ 64
pin_small z words v m h = small_pin z (record { words = words; states = m.states }) m.seat v m.rule m.here h

-- a store to the stamp word leaves the pin word
pin_stays : (z : Sizes) (words : List ℕ) (v : PassState) → Moment z words v → (h x : ℕ) → h < z.headers → pin_in z h (put_stamp z h x words) ≡ pin_in z h words
pin_stays z words v m h x inside = ap (λ (n : Memory). n.headers.pin h) (memory_set z words (in_headers (at_stamp h)) x m.rule.words.counted inside)

-- a step on the pin word
module _ (z : Sizes) (h : ℕ) (inside : h < z.headers) (x : HeaderStep) (is : header_spot x ≡ at_pin h) (v : PassState) (n : ℕ) (a b : List ℕ) (d : DoesAt z (on_headers x) v n a b) where
  found : n ≡ pin_in z h a
  found = d.finds ∙ (ap (λ (q : HeaderSpot). get_or a (index z (in_headers q)) 0) is ∙ sym (memory_read z a (pin_spot h) inside))

  pin_becomes : b ≡ put_pin z h (header_effect x (pin_in z h a)) a
  pin_becomes = d.leaves ∙ (λ i. set a (index z (in_headers (is i))) (header_effect x (found i)))

-- the stamp word is loaded, and the stamp behind it stored
record Stamps (z : Sizes) (h stamp : ℕ) (v : PassState) (before after : List ℕ) : Type 0 where
  pub moment : Moment z before v
  pub next : stamp ≡ next_stamp (stamp_in z h before)
  pub becomes : after ≡ put_stamp z h stamp before

-- the pin word of a locked header is stored to, at a moment at which the pass had the lock
record Ends (z : Sizes) (h g : ℕ) (f : ℕ → ℕ) (before after : List ℕ) : Type 0 where
  pub locked : IsLockedIn z h g before
  pub becomes : after ≡ put_pin z h (f (pin_in z h before)) before

-- both, one behind the other
record StampsAndEnds (z : Sizes) (h g stamp : ℕ) (f : ℕ → ℕ) (before after : List ℕ) : Type 0 where
  pub locked : IsLockedIn z h g before
  pub next : stamp ≡ next_stamp (stamp_in z h before)
  pub becomes : after ≡ put_pin z h (f (pin_in z h before)) (put_stamp z h stamp before)

module _ (z : Sizes) (call h g : ℕ) where
  frees : (kind : Kind) (v : PassState) (n : ℕ) (w : PassState) → HoldsLock z h g v → Unlocks z call h kind v n w → Runs (Ends z h g (λ k. k - STATE)) v w
  frees kind v n w l t = let x = unlock_header h kind in runs_as (DoesAt z (on_headers x) v n) (Ends z h g (λ k. k - STATE)) v w
      (λ a b d. let is = locked_now z a v d.moment h g l in record {
        locked = is;
        becomes = pin_becomes z h l.inside x refl v n a b d ∙ ap (λ (k : ℕ). put_pin z h k a) (less (pin_in z h a) is.0 (pin_small z a v d.moment h));
      }) (header_does z call x v n w t)

  marks : (v : PassState) (n : ℕ) (w : PassState) → HoldsLock z h g v → MarksDead z call h v n w → Runs (Ends z h g (λ k. k + STATE)) v w
  marks v n w l t = let x = mark_dead h in runs_as (DoesAt z (on_headers x) v n) (Ends z h g (λ k. k + STATE)) v w
      (λ a b d. let is = locked_now z a v d.moment h g l in record {
        locked = is;
        becomes = pin_becomes z h l.inside x refl v n a b d ∙ ap (λ (k : ℕ). put_pin z h k a) (more (pin_in z h a) is.0 (pin_small z a v d.moment h));
      }) (header_does z call x v n w t)

  stamps : (stamp : ℕ) (v u : PassState) → h < z.headers → StoresNext z call h stamp v u → Runs (Stamps z h stamp v) v u
  stamps stamp v u inside s = let x = store_stamp h stamp in
      runs_as (Then (LoadsAt z (in_headers (at_stamp h)) v s.number) (DoesAt z (on_headers x) s.between s.stores.0)) (Stamps z h stamp v) v u
      (λ a b d. record {
        moment = d.1.moment;
        next = s.next ∙ ap next_stamp d.1.finds;
        becomes = d.2.leaves ∙ ap (λ (ws : List ℕ). put_stamp z h stamp ws) d.1.stays;
      })
      (runs_then (LoadsAt z (in_headers (at_stamp h)) v s.number) (DoesAt z (on_headers x) s.between s.stores.0) v s.between u
      (load_does z call (index z (in_headers (at_stamp h))) s.number v s.between (in_headers (at_stamp h)) inside refl s.loads) (header_does z call x s.between s.stores.0 u s.stores.1))

  -- the lock is the pass's still
  stamped_lock : (stamp : ℕ) (v u : PassState) → HasLock z h g v → StoresNext z call h stamp v u → HoldsLock z h g u
  stamped_lock stamp v u l s = let met = stamp_loaded z call (index z (in_headers (at_stamp h))) s.number v s.between h l.inside refl l.locked s.loads in
      (is_stamped z call h g v l stamp u (stored_since z call h g stamp v s.between u l met s.stores.1.may.0.headers.1 s.stores)).lock

  both : (stamp : ℕ) (f : ℕ → ℕ) (v u w : PassState) → HasLock z h g v → Runs (Stamps z h stamp v) v u → Runs (Ends z h g f) u w → Runs (StampsAndEnds z h g stamp f) v w
  both stamp f v u w l first second = runs_as (Then (Stamps z h stamp v) (Ends z h g f)) (StampsAndEnds z h g stamp f) v w
      (λ a b d. let same : pin_in z h d.0 ≡ pin_in z h a = ap (pin_in z h) d.1.becomes ∙ pin_stays z a v d.1.moment h stamp l.inside in record {
        locked = locked_now z a v d.1.moment h g (holds_lock z h g v l);
        next = d.1.next;
        becomes = d.2.becomes ∙ (λ i. put_pin z h (f (same i)) (d.1.becomes i));
      }) (runs_then (Stamps z h stamp v) (Ends z h g f) v u w first second)

  pub writes_alone : (kind : Kind) (stamp : ℕ) (v w : PassState) → WritesOver z call h g kind stamp v w → HasLock z h g v → Runs (WritesWords z h g stamp) v w
  writes_alone kind stamp v w o l = runs_as (StampsAndEnds z h g stamp (λ n. n - STATE)) (WritesWords z h g stamp) v w (λ a b d. record { locked = d.locked; next = d.next; becomes = d.becomes })
      (both stamp (λ n. n - STATE) v o.stamped w l (stamps stamp v o.stamped l.inside o.stores) (frees kind o.stamped o.ends.number w (stamped_lock stamp v o.stamped l o.stores) o.ends.told))

  pub buries_alone : (stamp : ℕ) (v w : PassState) → Buries z call h g stamp v w → HasLock z h g v → Runs (BuriesWords z h g stamp) v w
  buries_alone stamp v w o l = runs_as (StampsAndEnds z h g stamp (λ n. n + STATE)) (BuriesWords z h g stamp) v w (λ a b d. record { locked = d.locked; next = d.next; becomes = d.becomes })
      (both stamp (λ n. n + STATE) v o.stamped w l (stamps stamp v o.stamped l.inside o.stores) (marks o.stamped o.number w (stamped_lock stamp v o.stamped l o.stores) o.told))

  pub gives_up_alone : (stamp : ℕ) (v w : PassState) → GivesUp z call h g stamp v w → HasLock z h g v → Runs (UnlocksPin z h g) v w
  gives_up_alone stamp v w e l = runs_as (Ends z h g (λ n. n - STATE)) (UnlocksPin z h g) v w (λ a b d. record { locked = d.locked; becomes = d.becomes }) (frees Put v e.ends.number w (holds_lock z h g v l) e.ends.told)

  pub changes_alone : (c : Class) (b len : ℕ) (o : Class) (n : ℕ) (v w : PassState) → h < z.headers → Exchanges z call h c b len o n v w → Runs (ChangesWord z h c b len o n) v w
  changes_alone c b len o n v w inside e = let x = change_place h (place_word (class_number c) b len) in let p = in_headers (at_place h) in let k = place_held h v.headers.held in
      runs_as (Then (LoadsAt z p v k) (DoesAt z (on_headers x) e.between e.stores.0)) (ChangesWord z h c b len o n) v w
      (λ before after d. record {
        class_is = ap class_in (sym d.1.finds) ∙ e.class_is;
        block_is = ap block_in (sym d.1.finds) ∙ e.block_is;
        becomes = d.2.leaves ∙ ap (λ (ws : List ℕ). put_place z h (place_word (class_number c) b len) ws) d.1.stays;
      })
      (runs_then (LoadsAt z p v k) (DoesAt z (on_headers x) e.between e.stores.0) v e.between w
      (load_does z call (index z p) k v e.between p inside refl e.loads) (header_does z call x e.between e.stores.0 w e.stores.1))

  pub renews_alone : (stamp : ℕ) (o : Class) (n : ℕ) (v w : PassState) → HasBuried z h g stamp v → Renews z call h g o n v w → Runs (RenewsPin z h g o n) v w
  renews_alone stamp o n v w has e = let x = take_back h (renewal g) in let p = in_headers (at_place h) in let k = place_held h v.headers.held in
      let met = place_loaded z call (index z p) k v e.between h has.inside refl e.loads in
      let now = buried_met z call v e.between met h g stamp has in let few = room z call h g stamp v e.between has met e.number w e.told in
      runs_as (Then (LoadsAt z p v k) (DoesAt z (on_headers x) e.between e.number)) (RenewsPin z h g o n) v w
      (λ a b d. let is = is_now z d.0 e.between d.2.moment h DEAD g (omega arith) (omega arith) now.buried now.generation in
      let same : d.0 ≡ a = d.1.stays in let pin : ℕ = pin_in z h d.0 in
      let fits = raised pin (renewal g) (raised_small pin g is.0 is.1 few) in record {
        dead = subst (IsDeadIn z h g) same is;
        class_is = ap class_in (sym d.1.finds) ∙ e.class_is;
        block_is = ap block_in (sym d.1.finds) ∙ e.block_is;
        becomes = pin_becomes z h has.inside x refl e.between e.number d.0 b d.2 ∙ (ap (λ (m : ℕ). put_pin z h m d.0) fits ∙ ap (λ (ws : List ℕ). put_pin z h (pin_in z h ws + renewal g) ws) same);
      })
      (runs_then (LoadsAt z p v k) (DoesAt z (on_headers x) e.between e.number) v e.between w
      (load_does z call (index z p) k v e.between p has.inside refl e.loads) (header_does z call x e.between e.number w e.told))
