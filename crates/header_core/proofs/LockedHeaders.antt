-- A header that is locked, unlocked, removed under the lock or taken back keeps the points on headers.
use Rattle.std.proofs.Common.{◌≡◌, ◌≢◌, ℕ, ◌+◌, ◌-◌, ◌%◌, ◌^◌, ◌<◌, ◌⊎◌, cond, List, ◌∷◌, set, sym, refl, ap, ◌∙◌, subst, arith, Some, inl, inr, ⊎_elim}
use mathlib.Core.Logic.{dite}
use mathlib.Core.Option.{some}
use native.Mathlib.Decide.{ℕ_discrete, dec_lt}
use lib.ListN.{get_elem?}
use prog.Atomic.{either}
use Rattle.pin_word.specs.PinWord.{generation_of, state_of, count_of, STATE}
use Rattle.oak_model.specs.Counts.{one_at, put}
use Rattle.oak_model.proofs.Counting.{one_at-same, one_at-other, decided}
use Rattle.header_core.specs.declared.states.TheConstants.{FREE, LIVE, LOCKED, DEAD, RETIRED, LAST_GENERATION}
use Rattle.header_core.specs.declared.holds.HeldHeader.{HeldHeader}
use Rattle.header_core.specs.declared.holds.PinnedHeader.{PinnedHeader}
use Rattle.header_core.specs.declared.holds.HeaderHolds.{HeaderHolds}
use Rattle.header_core.specs.Headers.{HeaderMemory, at_pin}
use Rattle.header_core.specs.HeaderHolds.{in_state, without_header}
use Rattle.header_core.specs.HeaderRule.{IsOver, HeadersStand}
use Rattle.header_core.specs.HeaderStep.{lock_header, unlock_header, mark_dead, take_back, IsLiveWord, renewal, header_effect, headers_after, put_header, locked_at, buried_at}
use Rattle.oak_model.specs.declared.writes.Kind.{Kind}
use Rattle.header_core.specs.HeaderHolds.{generation_held}
use Rattle.header_core.proofs.HeldHeaders.{held_in, rows_in}
use Rattle.header_core.proofs.HeldChanges.{rows_taken-here, rows_taken-others, rows_buried-dead, rows_buried-else, rows_buried-others, each_buried, rows_without-here, rows_without-others, each_without, each_without-others}
use Rattle.header_core.proofs.StockedStates.{stocked_high}
use Rattle.header_core.proofs.HeaderStores.{not_over}
use Rattle.header_core.proofs.HeaderStates.{restated, unmoved, same_generations, same_retired, turned}
use Rattle.header_core.proofs.HeaderFacts.{holds_some, unheld_none, has_all, unheld_else, held_is, held_one, known_unheld, locked_known, unheld_by, generation_is, pin_counted}
use Rattle.oak_model.proofs.PutLaws.{put-else}
use Rattle.pin_word.proofs.Laws.{generation_small}
use Rattle.pin_word.proofs.StepLaws.{state_set, state_up, state_down}
use Rattle.header_core.proofs.PinWordChanges.{IsRenewed, renewed}

-- a header that was taken back is over, and in no state in which a pass holds it or it has a block
ended : (s : ℕ) → (s ≡ RETIRED) ⊎ (s ≡ FREE) → IsOver s × ((t : ℕ) → 0 < t → t < RETIRED → one_at s t ≡ 0)
ended s (inl e) = (inr (inr e), λ t pos low. one_at-other s t (λ q. omega arith))
ended s (inr e) = (inr (inl e), λ t pos low. one_at-other s t (λ q. omega arith))

module _ (m : HeaderMemory) (content : ℕ → List ℕ) (IsPlace : ℕ → Type 0) (known : ℕ → ℕ → ℕ) (hs : List HeaderHolds) (r : HeadersStand m content IsPlace known hs) (seat : ℕ) (a : HeaderHolds) (there : get_elem? hs seat ≡ some a) (h : ℕ) where
  pub lock_keeps : (old : ℕ) → IsLiveWord old → 0 < known h (generation_of old) → HeadersStand (put_header m (at_pin h) (header_effect (lock_header h old) (m.pin h))) content IsPlace known (set hs seat (headers_after m content (lock_header h old) a))
  lock_keeps old live some_of = decided (m.pin h) old (λ t. HeadersStand (record m { pin = put m.pin h (either t (old + STATE) (m.pin h)) }) content IsPlace known (set hs seat (record a { held = cond t (locked_at m content h ∷ a.held) a.held }))) locked
      (λ _. unmoved m content IsPlace known hs r seat a there h)
    where
      locked : m.pin h ≡ old → HeadersStand (record m { pin = put m.pin h (old + STATE) }) content IsPlace known (set hs seat (record a { held = locked_at m content h ∷ a.held }))
      locked hit = let live_state = live.state in let up = state_set old (omega arith) in let was : state_of (m.pin h) ≡ LIVE = ap state_of hit ∙ live.state in let now : state_of (old + STATE) ≡ LOCKED = (let u = up.1 in omega arith) in
          let generation : generation_of (old + STATE) ≡ generation_of (m.pin h) = up.2 ∙ ap generation_of (sym hit) in let none = known_unheld m content IsPlace known hs r h (generation_of old) some_of (ap generation_of hit) was in
          let no_row = λ (s : ℕ). unheld_none h s a (unheld_by m content IsPlace known hs r h none seat a there) in let row = λ (s : ℕ). rows_taken-here (locked_at m content h) h s a.held refl in
          let no_pin = λ (j : ℕ) (u : HeaderHolds) (p : PinnedHeader) (at : get_elem? hs j ≡ some u) (is : u.pin ≡ Some p) (e : p.header ≡ h). pin_counted m content IsPlace known hs r j u p h at is e in
          let zero : count_of (m.pin h) ≡ 0 = ap count_of hit ∙ live.count in let t = stocked_high (state_of (m.pin h)) (omega arith) (omega arith) in
          restated m content IsPlace known hs r seat a there h (old + STATE) (locked_at m content h ∷ a.held) record {
            count = up.0 ∙ ap count_of (sym hit);
            good = λ j u p at is e _ _. let c = no_pin j u p at is e in omega arith;
            removals = λ j u p at is e _. let c = no_pin j u p at is e in absurd (omega arith);
            alone = λ j u at _. unheld_by m content IsPlace known hs r h none j u at;
            was = λ s _ _ ne. no_row s ∙ sym (one_at-other (state_of (m.pin h)) s (λ e. ne (sym e ∙ was)));
            now = λ s _ _ _. let n = no_row s in let c = row s in let w = ap (λ (n : ℕ). one_at n s) now in omega arith;
            others = λ k s ne. rows_taken-others (locked_at m content h) k s a.held (λ e. ne (sym e));
            lives = let n = no_row LIVE in let c = row LIVE in let w = ap (λ (n : ℕ). one_at n LIVE) now in omega arith;
            settled = let n = no_row LIVE in let c = row LIVE in let o = one_at-other LOCKED LIVE (λ e. omega arith) in let k = ap (known h) generation in let v = stocked_high (state_of (old + STATE)) (omega arith) (omega arith) in omega arith;
            rises = omega arith;
            six = omega arith;
            retired = same_retired m content IsPlace known hs r seat a there h (old + STATE) generation (λ e. omega arith) (λ e. omega arith);
            placed = λ _. r.placed h (omega arith);
            generations = same_generations m content IsPlace known hs r seat a there h (old + STATE) generation (locked_at m content h ∷ a.held) (refl, r.generations seat a there);
          }

  pub unlock_keeps : (kind : Kind) → 0 < in_state h LOCKED a → m.pin h < 2 ^ 64 → HeadersStand (put_header m (at_pin h) (header_effect (unlock_header h kind) (m.pin h))) content IsPlace known (set hs seat (headers_after m content (unlock_header h kind) a))
  unlock_keeps kind own small = let was = held_is m content IsPlace known hs r seat a h LOCKED there (omega arith) (omega arith) own in let down = state_down (m.pin h) (omega arith) small in let x : ℕ = (m.pin h + (2 ^ 64 - STATE)) % 2 ^ 64 in
      let now : state_of x ≡ LIVE = (let u = down.1 in omega arith) in let t = stocked_high (state_of (m.pin h)) (omega arith) (omega arith) in
      turned m content IsPlace known hs r seat a there h LOCKED own x down.0 down.2 (λ e. omega arith) (omega arith) (without_header h a.held)
      (λ _ _ _ _ _ _ live _. omega arith)
      (not_over (state_of (m.pin h)) (omega arith) (omega arith))
      (λ t _ _ ne. rows_without-here h t a.held ∙ sym (one_at-other (state_of x) t (λ e. ne (sym e ∙ now))))
      (λ k t ne. rows_without-others h k t a.held ne)
      (let z = rows_without-here h LIVE a.held in omega arith)
      (let z = rows_without-here h LIVE a.held in let o = one_at-other (state_of (m.pin h)) LIVE (λ e. omega arith) in let v = stocked_high (state_of x) (omega arith) (omega arith) in omega arith)
      (λ _. r.placed h (omega arith))
      (each_without (λ (q : HeldHeader). generation_of (m.pin q.header) ≡ q.generation) h a.held (r.generations seat a there))

  pub bury_keeps : 0 < in_state h LOCKED a → m.pin h < 2 ^ 64 → HeadersStand (put_header m (at_pin h) (header_effect (mark_dead h) (m.pin h))) content IsPlace known (set hs seat (headers_after m content (mark_dead h) a))
  bury_keeps own small = let was = held_is m content IsPlace known hs r seat a h LOCKED there (omega arith) (omega arith) own in let up = state_up (m.pin h) (omega arith) small in let x : ℕ = (m.pin h + STATE) % 2 ^ 64 in
      let now : state_of x ≡ DEAD = (let u = up.1 in omega arith) in let one = held_one m content IsPlace known hs r seat a h LOCKED there own in let t = stocked_high (state_of (m.pin h)) (omega arith) (omega arith) in let z = rows_buried-else h LIVE a.held (λ e. omega arith) in
      turned m content IsPlace known hs r seat a there h LOCKED own x up.0 up.2 (λ e. omega arith) (omega arith) (buried_at h a.held)
      (λ _ _ _ _ _ _ live _. omega arith)
      (not_over (state_of (m.pin h)) (omega arith) (omega arith))
      (λ s _ _ _. dite (ℕ_discrete s DEAD)
      (λ e. subst (λ (i : ℕ). rows_in h i (buried_at h a.held) ≡ one_at (state_of x) i) (sym e) (rows_buried-dead h a.held ∙ (one ∙ sym (one_at-same (state_of x) DEAD now))))
      (λ ne. rows_buried-else h s a.held ne ∙ sym (one_at-other (state_of x) s (λ e. ne (sym e ∙ now)))))
      (λ k s ne. rows_buried-others h k s a.held ne)
      (omega arith)
      (let o = one_at-other (state_of (m.pin h)) LIVE (λ e. omega arith) in let v = stocked_high (state_of x) (omega arith) (omega arith) in omega arith)
      (λ _. r.placed h (omega arith))
      (each_buried h (λ k g. generation_of (m.pin k) ≡ g) a.held (r.generations seat a there))

  pub renew_keeps : (x : ℕ) → 0 < in_state h DEAD a → x ≡ renewal (generation_held h a.held) → m.pin h < 2 ^ 64
      → HeadersStand (put_header m (at_pin h) (header_effect (take_back h x) (m.pin h))) content IsPlace known (set hs seat (headers_after m content (take_back h x) a))
  renew_keeps x own is small = let held = holds_some h DEAD a own in let same : x ≡ renewal (generation_of (m.pin h)) = is ∙ ap renewal (sym (generation_is m content IsPlace known hs r seat a h there held)) in
      let was = held_is m content IsPlace known hs r seat a h DEAD there (omega arith) (omega arith) own in let last = r.retired h in let o = one_at-other (state_of (m.pin h)) RETIRED (λ e. omega arith) in
      let off : generation_of (m.pin h) ≢ LAST_GENERATION = λ e. let q = one_at-same (generation_of (m.pin h)) LAST_GENERATION e in omega arith in let bound = generation_small (m.pin h) small in
      subst (λ (d : ℕ). HeadersStand (put_header m (at_pin h) ((m.pin h + d) % 2 ^ 64)) content IsPlace known (set hs seat (record a { held = without_header h a.held }))) (sym same)
      (taken was held (renewed (m.pin h) was (omega arith) small))
    where
      end_state : (x : ℕ) → ((generation_of (m.pin h) + 1 ≡ LAST_GENERATION) × (state_of x ≡ RETIRED)) ⊎ ((generation_of (m.pin h) + 1 ≢ LAST_GENERATION) × (state_of x ≡ FREE)) → (state_of x ≡ RETIRED) ⊎ (state_of x ≡ FREE)
      end_state x (inl t) = inl t.1
      end_state x (inr t) = inr t.1

      unknown : (x : ℕ) → generation_of x ≡ generation_of (m.pin h) + 1 → known h (generation_of x) ≡ 0
      unknown x up = dite (dec_lt 0 (known h (generation_of x))) (λ l. let o = r.older h (generation_of x) l in absurd (omega arith)) (λ no. omega arith)

      taken : state_of (m.pin h) ≡ DEAD → 0 < held_in h a.held → IsRenewed (m.pin h) ((m.pin h + renewal (generation_of (m.pin h))) % 2 ^ 64) → HeadersStand (put_header m (at_pin h) ((m.pin h + renewal (generation_of (m.pin h))) % 2 ^ 64)) content IsPlace known (set hs seat (record a { held = without_header h a.held }))
      taken was held new = let x : ℕ = (m.pin h + renewal (generation_of (m.pin h))) % 2 ^ 64 in let end = ended (state_of x) (end_state x new.2) in let z = rows_without-here h LIVE a.held in
          let none = end.1 in let a2 = none LIVE (omega arith) (omega arith) in let a3 = none LOCKED (omega arith) (omega arith) in let a4 = none DEAD (omega arith) (omega arith) in
          restated m content IsPlace known hs r seat a there h x (without_header h a.held) record {
            count = new.0;
            good = λ _ _ _ _ _ _ live _. omega arith;
            removals = λ _ _ _ _ _ _ _. end.0;
            alone = λ j u at ne. unheld_else m content IsPlace known hs r seat a h there held j u at ne;
            was = λ t pos low _. has_all m content IsPlace known hs r seat a h t there pos low (inr held);
            now = λ t pos low _. rows_without-here h t a.held ∙ sym (none t pos low);
            others = λ k t ne. rows_without-others h k t a.held ne;
            lives = omega arith;
            settled = let k = locked_known m content IsPlace known hs r seat a h DEAD there (omega arith) (omega arith) own in let f = unknown x new.1 in let b = stocked_high (state_of (m.pin h)) (omega arith) (omega arith) in
                let l = has_all m content IsPlace known hs r seat a h LIVE there (omega arith) (omega arith) (inr held) in let o = one_at-other (state_of (m.pin h)) LIVE (λ e. omega arith) in omega arith;
            rises = let g = new.1 in omega arith;
            six = ⊎_elim (λ (t : state_of x ≡ RETIRED). let q = t in omega arith) (λ (t : state_of x ≡ FREE). let q = t in omega arith) (end_state x new.2);
            retired = ⊎_elim (λ (t : (generation_of (m.pin h) + 1 ≡ LAST_GENERATION) × (state_of x ≡ RETIRED)). one_at-same (state_of x) RETIRED t.1 ∙ sym (one_at-same (generation_of x) LAST_GENERATION (new.1 ∙ t.0)))
                (λ (t : (generation_of (m.pin h) + 1 ≢ LAST_GENERATION) × (state_of x ≡ FREE)). one_at-other (state_of x) RETIRED (λ e. let f = t.1 in omega arith) ∙ sym (one_at-other (generation_of x) LAST_GENERATION (λ e. t.0 (sym new.1 ∙ e)))) new.2;
            placed = λ pos. absurd (omega arith);
            generations = each_without-others (λ (q : HeldHeader). generation_of (m.pin q.header) ≡ q.generation) (λ (q : HeldHeader). generation_of ((put_header m (at_pin h) x).pin q.header) ≡ q.generation) h a.held
                (λ q ne e. ap generation_of (put-else m.pin h x q.header ne) ∙ e) (r.generations seat a there);
          }
