-- What a try to lock a header tells.
use Rattle.std.proofs.Common.{◌≡◌, ◌≢◌, ◌⊎◌, ℕ, ◌+◌, ◌<◌, ◌==◌, ◌&&◌, true, false, Bool, cond, [], ◌∷◌, sym, refl, ap, ◌∙◌, subst, inl, inr, ⊎_elim, arith, Some, None, eqb-true, eq-eqb, map, ◌++◌, append_assoc}
use mathlib.Core.Logic.{dite}
use native.Mathlib.Decide.{ℕ_discrete, dec_lt}
use Rattle.pin_word.specs.PinWord.{generation_of, state_of, count_of}
use Rattle.oak_model.specs.Limits.{Sizes}
use Rattle.oak_model.proofs.Counting.{both_true, test-cases, total_at}
use Rattle.arena_core.specs.Place.{content}
use Rattle.header_core.specs.declared.states.TheConstants.{LIVE, LOCKED, DEAD}
use Rattle.header_core.specs.Headers.{at_pin}
use Rattle.header_core.specs.HeaderHolds.{fresh_at}
use Rattle.header_core.specs.HeaderStep.{IsLiveWord, lock_header, locked_at, header_effect}
use Rattle.oak_core.specs.declared.states.Finding.{Finding}
use Rattle.oak_core.specs.declared.states.PassState.{PassState}
use Rattle.oak_core.specs.Finding.{finding, grown, IsOf}
use Rattle.oak_core.specs.HeaderCalls.{Locks}
use Rattle.oak_core.specs.Known.{knows_life}
use Rattle.oak_core.specs.Memory.{Memory, rooms_at, index, memory}
use Rattle.oak_core.specs.Splitting.{Loads}
use Rattle.oak_core.specs.Step.{on_headers, MayOnHeaders, found}
use Rattle.value_ops.specs.Claiming.{pin_spot, holds_header}
use Rattle.value_ops.specs.declared.locking.NoLock.TheVariants.{Busy, Dead}
use Rattle.value_ops.specs.Locking.{LocksHeader, may_lock, IsDeadAt, refusal, LooksOnce, IsBusy, IsNoLock, FindsNoLock}
use Rattle.value_ops.proofs.KnownStates.{IsInUse, known_state, known_free}
use Rattle.value_ops.proofs.LoadFacts.{found_is}
use Rattle.oak_core.proofs.memory.Words.{header_before}
use Rattle.oak_core.proofs.calls.MetMore.{grown_twice, told_of}
use Rattle.oak_core.proofs.told.PlainLoads.{met_at}
use Rattle.value_ops.proofs.ComesFurther.{loads_learn}
use Rattle.oak_core.proofs.told.LockTold.{word_found, lock_missed, lock_learns, lock_blocks, lock_rooms, lock_held}
use Rattle.oak_core.proofs.calls.CallSteps.{learns_both}
use Rattle.oak_core.specs.LifeKeys.{key_known, key_or}
use Rattle.oak_core.specs.PassState.{headers_held}
use Rattle.header_core.proofs.HeldHeaders.{held_in}
use Rattle.oak_model.specs.Counts.{total}
use Rattle.oak_model.proofs.Lists.{at_map}

-- what may be locked

pub live_word : (n g : ℕ) → may_lock n g ≡ true → IsLiveWord n × (generation_of n ≡ g)
live_word n g is_so = let b = both_true (state_of n == LIVE) ((count_of n == 0) && (generation_of n == g)) is_so in let c = both_true (count_of n == 0) (generation_of n == g) b.1 in
    (record { state = eqb-true (state_of n) LIVE b.0; count = eqb-true (count_of n) 0 c.0 }, eqb-true (generation_of n) g c.1)

-- state, count and generation are the whole word
one_word : (n k : ℕ) → state_of n ≡ state_of k → count_of n ≡ count_of k → generation_of n ≡ generation_of k → n ≡ k
unfolding state_of count_of generation_of
one_word n k s c g = omega arith

lockable : (n g : ℕ) → state_of n ≡ LIVE → count_of n ≡ 0 → generation_of n ≡ g → may_lock n g ≡ true
lockable n g s c e = λ i. eq-eqb (state_of n) LIVE s i && (eq-eqb (count_of n) 0 c i && eq-eqb (generation_of n) g e i)

-- a word that is not locked is a cause
is_cause : (n g : ℕ) → (¬ IsDeadAt g n → IsBusy g n) → IsNoLock (refusal n g) g n
is_cause n g busy = test-cases ((generation_of n == g) && (state_of n == DEAD)) (λ t. ((generation_of n == g) && (state_of n == DEAD)) ≡ t → IsNoLock (cond t Dead Busy) g n)
    (λ _ is_so. let b = both_true (generation_of n == g) (state_of n == DEAD) is_so in (eqb-true (generation_of n) g b.0, eqb-true (state_of n) DEAD b.1))
    (λ _ not_so. let alive = not_dead not_so in (alive, busy alive)) refl
  where
    not_dead : ((generation_of n == g) && (state_of n == DEAD)) ≡ false → ¬ IsDeadAt g n
    not_dead not_so d = let is_so : ((generation_of n == g) && (state_of n == DEAD)) ≡ true = (λ i. eq-eqb (generation_of n) g d.0 i && eq-eqb (state_of n) DEAD d.1 i) in cc

-- so is that of a known header
busy_word : (n g : ℕ) → may_lock n g ≡ false → (generation_of n ≡ g → IsInUse (state_of n)) → ¬ IsDeadAt g n → IsBusy g n
busy_word n g not_so known alive = dite (ℕ_discrete (generation_of n) g)
    (λ e. ⊎_elim (λ (l : state_of n ≡ LIVE). dite (dec_lt 0 (count_of n)) (λ some_of. inr (inr some_of)) (λ none. let is_so = lockable n g l (omega arith) e in absurd cc))
    (λ (o : (state_of n ≡ LOCKED) ⊎ (state_of n ≡ DEAD)). ⊎_elim (λ (k : state_of n ≡ LOCKED). inr (inl k)) (λ (d : state_of n ≡ DEAD). absurd (alive (e, d))) o) (known e))
    (λ ne. inl ne)

module _ (z : Sizes) (call h g : ℕ) (inside : h < z.headers) (word n : ℕ) (v u : PassState) (at : word ≡ index z (pin_spot h)) (known : 0 < knows_life h g v.knowledge) (l : Loads z call word v n u) where
  abbrev f : Finding
  f = finding z call l.spot (Some n) n l.told.table.words v

  now_met : u ≡ grown (f ∷ []) v
  now_met = met_at z call word n v u (pin_spot h) inside tt at l

  is_loaded : n ≡ (memory z l.told.table.words).headers.pin h
  is_loaded = found_is z call word n v u l (pin_spot h) inside at

  in_use : generation_of n ≡ g → IsInUse (state_of n)
  in_use e = subst (λ (k : ℕ). IsInUse (state_of k)) (sym is_loaded)
      (known_state z l.told.table l.told.rule l.told.seat v l.told.here h g (ap generation_of (sym is_loaded) ∙ e) (let k : 0 < fresh_at h g v.headers + knows_life h g v.knowledge = omega arith in k))

  looks : LooksOnce z call h v n u
  looks = subst (λ (i : ℕ). Loads z call i v n u) at l

  loaded_of : IsOf z call f
  loaded_of = (refl, subst (λ (i : ℕ). i < rooms_at z) (sym (l.at ∙ at)) (header_before z (at_pin h) inside), refl)

  -- the load found another word than that of a live header without a pin
  pub refused_first : may_lock n g ≡ false → FindsNoLock z call h g (refusal n g) v u
  refused_first not_so = record {
    first = None;
    number = n;
    looks = looks;
    cause = is_cause n g (busy_word n g not_so in_use);
    more = f ∷ [];
    calls = (loaded_of, tt);
    after = now_met;
  }

  still_known : 0 < knows_life h g u.knowledge
  still_known = subst (λ (y : PassState). 0 < knows_life h g y.knowledge) (sym now_met) known

  module _ (is_so : may_lock n g ≡ true) where
    pub may_be_locked : MayOnHeaders z (lock_header h n) u
    may_be_locked = let w = live_word n g is_so in record { inside = inside; headers = w.0; block = tt; known = subst (λ (k : ℕ). 0 < knows_life h k u.knowledge) (sym w.1) still_known }

    module _ (k : ℕ) (w : PassState) (t : Locks z call h n u k w) where
      abbrev m : Memory
      m = memory z t.table.words

      is_word : m.headers.pin h ≡ k
      is_word = word_found z call h n u k w t

      in_use_now : generation_of k ≡ g → IsInUse (state_of k)
      in_use_now e = subst (λ (i : ℕ). IsInUse (state_of i)) is_word (known_state z t.table t.rule t.seat u t.here h g (ap generation_of is_word ∙ e) (let s = still_known in let known_now : 0 < fresh_at h g u.headers + knows_life h g u.knowledge = omega arith in known_now))

      -- another word than the one that was seen is none that may be locked
      not_lockable : k ≢ n → may_lock k g ≡ false
      not_lockable ne = test-cases (may_lock k g) (λ (b : Bool). may_lock k g ≡ b → b ≡ false)
          (λ _ yes. let a = live_word k g yes in let b = live_word n g is_so in absurd (ne (one_word k n (a.0.state ∙ sym b.0.state) (a.0.count ∙ sym b.0.count) (a.1 ∙ sym b.1))))
          (λ _ _. refl) refl

      abbrev met_now : Finding
      met_now = finding z call (pin_spot h) (Some k) k t.table.words u

      -- the exchange found another word
      pub refused_second : k ≢ n → FindsNoLock z call h g (refusal k g) v w
      refused_second ne = record {
        first = Some n;
        number = k;
        looks = record { between = u; loads = looks; live = (live_word n g is_so).0; told = t };
        cause = is_cause k g (busy_word k g (not_lockable ne) in_use_now);
        more = f ∷ met_now ∷ [];
        calls = (loaded_of, ((refl, header_before z (at_pin h) inside, refl), tt));
        after = lock_missed z call h n u k w t ne ∙ (ap (grown (met_now ∷ [])) now_met ∙ grown_twice v (f ∷ []) (met_now ∷ []));
      }

      -- it found the same one, and the pass has the header locked
      module _ (same : k ≡ n) where
        is_seen : m.headers.pin h ≡ n
        is_seen = is_word ∙ same

        abbrev told_hit : Locks z call h n u n w
        told_hit = record { table = t.table; seat = t.seat; rule = t.rule; here = t.here; going = t.going; may = t.may; finds = t.finds ∙ same; after = t.after }

        abbrev met_hit : Finding
        met_hit = let i = found z (on_headers (lock_header h n)) t.table in finding z call (pin_spot h) (Some i) (header_effect (lock_header h n) i) t.table.words u

        unheld : total (holds_header h) (map headers_held t.table.states) ≡ 0
        unheld = let live = live_word n g is_so in known_free z t.table t.rule t.seat u t.here h g (ap generation_of is_seen ∙ live.1) still_known (ap state_of is_seen ∙ live.0.state)

        none_held : held_in h u.headers.held ≡ 0
        none_held = let e = unheld in let a = total_at (holds_header h) (map headers_held t.table.states) t.seat u.headers (at_map headers_held t.table.states t.seat u t.here) in omega arith

        loaded_state : (P : PassState → Type 0) → P (grown (f ∷ []) v) → P u
        loaded_state P p = subst P (sym now_met) p

        pub locks : LocksHeader z call h g v w
        locks = let live = live_word n g is_so in record {
          inside = inside;
          before = f ∷ [];
          number = n;
          live = live.0;
          generation = live.1;
          told = told_of z call (on_headers (lock_header h n)) u (grown (f ∷ []) v) now_met n w told_hit;
          unheld = unheld;
          unpinned = t.rule.headers.counted h ∙ (ap count_of is_seen ∙ live.0.count);
          more = f ∷ met_hit ∷ [];
          calls = (loaded_of, ((refl, header_before z (at_pin h) inside, refl), tt));
          met = ap (λ (y : PassState). y.findings.met) t.after ∙ (ap (λ (y : PassState). y.findings.met ++ met_hit ∷ []) now_met ∙ append_assoc v.findings.met (f ∷ []) (met_hit ∷ []));
          learns = learns_both call v u w (loads_learn call v u f refl now_met) (lock_learns z call h n u k w t);
          blocks = lock_blocks z call h n u k w t ∙ ap (λ (y : PassState). y.blocks) now_met;
          rooms = lock_rooms z call h n u k w t ∙ ap (λ (y : PassState). y.rooms) now_met;
          headers = lock_held z call h n u k w t same none_held
              ∙ (λ i. record (now_met i).headers { held = record (locked_at m.headers (content m.arena.bytes) h) { key = key_or (key_known h (live.1 i) (now_met i).knowledge) } ∷ (now_met i).headers.held });
        }
