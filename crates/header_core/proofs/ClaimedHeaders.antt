-- A header that is claimed, opened or released keeps the points on headers.
use Rattle.std.proofs.Common.{◌≡◌, ℕ, ◌+◌, ◌-◌, ◌*◌, ◌%◌, ◌^◌, ◌<◌, cond, List, ◌∷◌, set, sym, refl, ap, ◌∙◌, subst, arith, Some, None, inl}
use mathlib.Core.Logic.{dite}
use mathlib.Core.Option.{some, some-injective}
use native.Mathlib.Decide.{ℕ_discrete, dec_lt}
use lib.ListN.{get_elem?}
use prog.Atomic.{either}
use Rattle.pin_word.specs.PinWord.{generation_of, state_of, count_of, STATE}
use Rattle.oak_model.specs.Counts.{one_at, put, Every}
use Rattle.oak_model.proofs.Counting.{one_at-same, one_at-other, total_at, decided}
use Rattle.header_core.specs.declared.states.TheConstants.{FREE, OWNED, LIVE, LOCKED, DEAD}
use Rattle.header_core.specs.declared.holds.HeldAs.{HeldAs}
use Rattle.header_core.specs.declared.holds.HeldAs.TheVariants.{Owned, Fresh, Locked, Buried}
use Rattle.header_core.specs.declared.holds.HeldHeader.{HeldHeader}
use Rattle.header_core.specs.declared.holds.PinnedHeader.{PinnedHeader}
use Rattle.header_core.specs.declared.holds.HeaderHolds.{HeaderHolds}
use Rattle.header_core.specs.Headers.{HeaderMemory, at_pin}
use Rattle.header_core.specs.HeaderHolds.{pins_of, held_state, in_state, fresh_at, without_header}
use Rattle.header_core.specs.HeaderRule.{OnPin, HeadersStand, PinsWhatItKnows}
use Rattle.header_core.specs.HeaderStep.{claim_header, open_header, release_header, IsFreeWord, MayRelease, header_effect, headers_after, put_header, freshened, owned_at}
use Rattle.header_core.proofs.HeldChanges.{rows_taken-here, rows_taken-others, rows_freshened-live, rows_freshened-else, rows_freshened-others, each_freshened, rows_without-here, rows_without-others, each_without}
use Rattle.header_core.proofs.StockedStates.{stocked_high}
use Rattle.header_core.proofs.HeaderStores.{not_over}
use Rattle.header_core.proofs.HeaderStates.{restated, unmoved, same_generations, same_retired, turned}
use Rattle.header_core.proofs.HeaderFacts.{unheld_none, has_all, knows_fresh, held_is, held_alone, held_one, known_settled, free_unheld, unheld_by, pin_counted}
use Rattle.header_core.proofs.HeaderLaws.{unstocked}
use Rattle.pin_word.proofs.StepLaws.{state_set, state_up}
use Rattle.header_core.proofs.PinWordChanges.{state_off}

module _ (m : HeaderMemory) (content : ℕ → List ℕ) (IsPlace : ℕ → Type 0) (known : ℕ → ℕ → ℕ) (hs : List HeaderHolds) (r : HeadersStand m content IsPlace known hs) (seat : ℕ) (a : HeaderHolds) (there : get_elem? hs seat ≡ some a) (h : ℕ) where
  pub claim_keeps : (old : ℕ) → IsFreeWord old → HeadersStand (put_header m (at_pin h) (header_effect (claim_header h old) (m.pin h))) content IsPlace known (set hs seat (headers_after m content (claim_header h old) a))
  claim_keeps old free = decided (m.pin h) old (λ t. HeadersStand (record m { pin = put m.pin h (either t (old + STATE) (m.pin h)) }) content IsPlace known (set hs seat (record a { held = cond t (owned_at m h ∷ a.held) a.held }))) claimed
      (λ _. unmoved m content IsPlace known hs r seat a there h)
    where
      claimed : m.pin h ≡ old → HeadersStand (record m { pin = put m.pin h (old + STATE) }) content IsPlace known (set hs seat (record a { held = owned_at m h ∷ a.held }))
      claimed hit = let free_state = free.state in let up = state_set old (omega arith) in let was : state_of (m.pin h) ≡ FREE = ap state_of hit ∙ free.state in let now : state_of (old + STATE) ≡ OWNED = (let u = up.1 in omega arith) in
          let generation : generation_of (old + STATE) ≡ generation_of (m.pin h) = up.2 ∙ ap generation_of (sym hit) in let none = free_unheld m content IsPlace known hs r h was in
          let no_row = λ (s : ℕ). unheld_none h s a (unheld_by m content IsPlace known hs r h none seat a there) in let row = λ (s : ℕ). rows_taken-here (owned_at m h) h s a.held refl in
          restated m content IsPlace known hs r seat a there h (old + STATE) (owned_at m h ∷ a.held) record {
            count = up.0 ∙ ap count_of (sym hit);
            good = λ _ _ _ _ _ _ live _. omega arith;
            removals = λ j u p at is e _. let c = pin_counted m content IsPlace known hs r j u p h at is e in let z : count_of (m.pin h) ≡ 0 = ap count_of hit ∙ free.count in absurd (omega arith);
            alone = λ j u at _. unheld_by m content IsPlace known hs r h none j u at;
            was = λ s pos low _. has_all m content IsPlace known hs r seat a h s there pos low (inl was);
            now = λ s pos low _. let n = no_row s in let c = row s in let w = ap (λ (n : ℕ). one_at n s) now in omega arith;
            others = λ k s ne. rows_taken-others (owned_at m h) k s a.held (λ e. ne (sym e));
            lives = let n = no_row LIVE in let c = row LIVE in let w = ap (λ (n : ℕ). one_at n LIVE) now in omega arith;
            settled = let n = no_row LIVE in let c = row LIVE in let o = one_at-other OWNED LIVE (λ e. omega arith) in let k = ap (known h) generation in
                let u = unstocked (state_of (m.pin h)) (omega arith) in let v = unstocked (state_of (old + STATE)) (omega arith) in omega arith;
            rises = omega arith;
            six = omega arith;
            retired = same_retired m content IsPlace known hs r seat a there h (old + STATE) generation (λ e. omega arith) (λ e. omega arith);
            placed = λ pos. let u = unstocked (state_of (old + STATE)) (omega arith) in absurd (omega arith);
            generations = same_generations m content IsPlace known hs r seat a there h (old + STATE) generation (owned_at m h ∷ a.held) (refl, r.generations seat a there);
          }

  pub open_keeps : 0 < in_state h OWNED a → m.pin h < 2 ^ 64 → IsPlace (m.place h) → HeadersStand (put_header m (at_pin h) (header_effect (open_header h) (m.pin h))) content IsPlace known (set hs seat (headers_after m content (open_header h) a))
  open_keeps own small place = let was = held_is m content IsPlace known hs r seat a h OWNED there (omega arith) (omega arith) own in let up = state_up (m.pin h) (omega arith) small in let x : ℕ = (m.pin h + STATE) % 2 ^ 64 in
      let now : state_of x ≡ LIVE = (let u = up.1 in omega arith) in let words : List ℕ = content (m.place h) in let one = held_one m content IsPlace known hs r seat a h OWNED there own in let f = rows_freshened-live h words a.held in
      turned m content IsPlace known hs r seat a there h OWNED own x up.0 up.2 (λ e. omega arith) (omega arith) (freshened h words a.held)
      (λ _ _ _ _ _ _ live _. omega arith)
      (not_over (state_of (m.pin h)) (omega arith) (omega arith))
      (λ s _ _ ne. rows_freshened-else h s words a.held ne ∙ sym (one_at-other (state_of x) s (λ q. ne (sym q ∙ now))))
      (λ k s ne. rows_freshened-others h k s words a.held ne)
      (let o = one_at-same (state_of x) LIVE now in omega arith)
      (let u = unstocked (state_of (m.pin h)) (omega arith) in let o = one_at-other (state_of (m.pin h)) LIVE (λ q. omega arith) in let t = stocked_high (state_of x) (omega arith) (omega arith) in omega arith)
      (λ _. place)
      (each_freshened h words (λ k g. generation_of (m.pin k) ≡ g) a.held (r.generations seat a there))

  -- a header that becomes free, from a state in which no pin's finding is at stake
  released : (s : HeldAs) → 0 < in_state h (held_state s) a → (0 < held_state s) × (held_state s < LOCKED) → m.pin h < 2 ^ 64
      → ((j : ℕ) (u : HeaderHolds) (p : PinnedHeader) → get_elem? hs j ≡ some u → u.pin ≡ Some p → p.header ≡ h → state_of (m.pin h) ≡ LIVE → generation_of (m.pin h) ≡ p.wanted → ⊥)
      → HeadersStand (put_header m (at_pin h) (header_effect (release_header h s) (m.pin h))) content IsPlace known (set hs seat (headers_after m content (release_header h s) a))
  released s own is_low small good = let pos = is_low.0 in let low = is_low.1 in let was = held_is m content IsPlace known hs r seat a h (held_state s) there (omega arith) (omega arith) own in let down = state_off s (m.pin h) was small in
      let x : ℕ = (m.pin h + (2 ^ 64 - held_state s * STATE)) % 2 ^ 64 in let free = down.1 in let u = unstocked (state_of x) (omega arith) in
      turned m content IsPlace known hs r seat a there h (held_state s) own x down.0 down.2 (λ e. omega arith) (omega arith) (without_header h a.held)
      good
      (not_over (state_of (m.pin h)) (omega arith) (omega arith))
      (λ t pos low _. rows_without-here h t a.held ∙ sym (one_at-other (state_of x) t (λ e. omega arith)))
      (λ k t ne. rows_without-others h k t a.held ne)
      (let z = rows_without-here h LIVE a.held in omega arith)
      (let z = rows_without-here h LIVE a.held in let o = one_at-other (state_of (m.pin h)) LOCKED (λ e. omega arith) in let d = one_at-other (state_of (m.pin h)) DEAD (λ e. omega arith) in omega arith)
      (λ pos. absurd (omega arith))
      (each_without (λ (q : HeldHeader). generation_of (m.pin q.header) ≡ q.generation) h a.held (r.generations seat a there))

  -- a good pin on a fresh header is of the pass that has it fresh
  fresh_unpinned : 0 < in_state h LIVE a → a.pin ≡ None → Every (PinsWhatItKnows known) hs → (j : ℕ) (u : HeaderHolds) (p : PinnedHeader) → get_elem? hs j ≡ some u → u.pin ≡ Some p → p.header ≡ h → generation_of (m.pin h) ≡ p.wanted → ⊥
  fresh_unpinned own none pins j u p at is e wanted = let knows = subst (OnPin (λ (p : PinnedHeader). 0 < fresh_at p.header p.wanted u + known p.header p.wanted)) is (pins j u at) in
      dite (dec_lt 0 (known p.header p.wanted))
      (λ l. let z = (known_settled m content IsPlace known hs r h p.wanted (subst (λ (i : ℕ). 0 < known i p.wanted) e l) wanted).1 in let t = total_at (in_state h LIVE) hs seat a there in omega arith)
      (λ no. let fresh = subst (λ (i : ℕ). 0 < in_state i LIVE u) e (knows_fresh p.header p.wanted u (omega arith)) in dite (ℕ_discrete j seat)
      (λ q. let z = ap (pins_of p.header) (sym none ∙ (ap (λ (v : HeaderHolds). v.pin) (some-injective a u (sym there ∙ (ap (get_elem? hs) (sym q) ∙ at))) ∙ is)) in let o = one_at-same p.header p.header refl in omega arith)
      (λ ne. let z = held_alone m content IsPlace known hs r seat j a u h LIVE LIVE there at ne (omega arith) (omega arith) (omega arith) (omega arith) own in omega arith))

  pub release_keeps : (s : HeldAs) → 0 < in_state h (held_state s) a → MayRelease s a → Every (PinsWhatItKnows known) hs → m.pin h < 2 ^ 64
      → HeadersStand (put_header m (at_pin h) (header_effect (release_header h s) (m.pin h))) content IsPlace known (set hs seat (headers_after m content (release_header h s) a))
  release_keeps Owned own may pins small = released Owned own ((omega arith), (omega arith)) small (λ _ _ _ _ _ _ live _. let was = held_is m content IsPlace known hs r seat a h OWNED there (omega arith) (omega arith) own in omega arith)
  release_keeps Fresh own may pins small = released Fresh own ((omega arith), (omega arith)) small (λ j u p at is e _ wanted. fresh_unpinned own may pins j u p at is e wanted)
  release_keeps (Locked at) own may pins small = absurd may
  release_keeps Buried own may pins small = absurd may
