-- What a load of a pin word and a try to claim its header tell.
use Rattle.std.proofs.Common.{◌≡◌, ◌≢◌, ℕ, ◌+◌, ◌<◌, ◌==◌, ◌⊎◌, true, false, List, [], ◌∷◌, map, sym, refl, ap, ◌∙◌, subst, inl, inr, Some, eqb-true, eq-eqb, ne_eqb, Bool, set, get_or}
use prog.Atomic.{either}
use Rattle.pin_word.specs.PinWord.{generation_of, state_of, count_of, STATE}
use Rattle.pin_word.proofs.Laws.{parts_equal}
use Rattle.oak_model.specs.Limits.{Sizes}
use Rattle.oak_model.proofs.Counting.{both_true, true_both, test-cases}
use Rattle.arena_core.specs.Place.{IsPlace, content}
use Rattle.header_core.specs.declared.states.TheConstants.{FREE}
use Rattle.header_core.specs.declared.holds.HeldHeader.{HeldHeader}
use Rattle.header_core.specs.declared.holds.HeaderHolds.{HeaderHolds}
use Rattle.header_core.specs.Headers.{at_pin}
use Rattle.header_core.specs.HeaderStep.{IsFreeWord, claim_header, owned_at}
use Rattle.header_core.proofs.HeaderFacts.{free_unheld}
use Rattle.oak_core.specs.declared.states.Finding.{Finding}
use Rattle.oak_core.specs.declared.states.PassState.{PassState}
use Rattle.oak_core.specs.Memory.{Memory, Spot, index, rooms_at, memory}
use Rattle.oak_core.specs.Finding.{finding, had, grown, noted}
use Rattle.oak_core.specs.HeaderCalls.{Claims}
use Rattle.oak_core.specs.PassState.{headers_held}
use Rattle.oak_core.specs.Splitting.{Loads}
use Rattle.oak_core.specs.Step.{on_headers}
use Rattle.oak_core.specs.Usage.{is_free}
use Rattle.oak_core.proofs.seats.AloneRuns.{DoesStep, Then, step_runs, load_runs, runs_then, runs_as}
use Rattle.oak_core.proofs.calls.FoundThere.{met_here, found_later}
use Rattle.oak_core.proofs.held.HeaderStanding.{knows, stand}
use Rattle.oak_core.proofs.calls.MetMore.{grown_twice, grown_none, told_of}
use Rattle.oak_core.proofs.memory.Words.{index_apart, memory_read, header_before}
use Rattle.value_ops.specs.Claiming.{NoneFree, OwnsPin, pin_spot, FoundPin, FoundUnfree, FoundTwice, Looked, ClaimsHeader}
use Rattle.value_ops.proofs.ExchangeFacts.{met_word, word_is, hit, missed}
use Rattle.oak_core.proofs.told.PlainLoads.{met_at}

pub free_word : (n : ℕ) → is_free n ≡ true → IsFreeWord n
free_word n e = let b = both_true (state_of n == FREE) (count_of n == 0) e in record { state = eqb-true (state_of n) FREE b.0; count = eqb-true (count_of n) 0 b.1 }

is_free-word : (n : ℕ) → IsFreeWord n → is_free n ≡ true
is_free-word n f = true_both (state_of n == FREE) (count_of n == 0) (eq-eqb (state_of n) FREE f.state) (eq-eqb (count_of n) 0 f.count)

-- two words of free headers without pins differ in their generations alone
generations_apart : (n k : ℕ) → IsFreeWord n → IsFreeWord k → k ≢ n → generation_of n ≢ generation_of k
generations_apart n k f g ne e = ne (sym (parts_equal n k e (f.state ∙ sym g.state) (f.count ∙ sym g.count)))

-- a load of a pin word alone finds nothing
pub loaded : (z : Sizes) (call word n h : ℕ) (v w : PassState) → h < z.headers → word ≡ index z (pin_spot h) → Loads z call word v n w → Looked z call v w (λ k. ⊥)
loaded z call word n h v w inside is l = record { more = finding z call l.spot (Some n) n l.told.table.words v ∷ []; after = met_at z call word n v w (pin_spot h) inside tt is l; looks = ((refl, subst (λ (i : ℕ). i < rooms_at z) (sym (l.at ∙ is)) (header_before z (at_pin h) inside), refl, refl), tt); found = λ k lk p. absurd p; still = runs_as (λ a b. (n ≡ get_or a (index z l.spot) 0) × (b ≡ a)) (NoneFree z (λ k. ⊥)) v w (λ a b d. (d.1, λ h lh p. absurd p)) (load_runs z call l.spot v n w l.told) }

module _ (z : Sizes) (call h : ℕ) (inside : h < z.headers) where
  abbrev Unfree : PassState → List Finding → Type 0
  Unfree v met = FoundUnfree z call h v met ⊎ FoundTwice z call h v met

  -- what was looked at is this header alone
  this_one : (v : PassState) (met : List Finding) → Unfree v met → (k : ℕ) → k < z.headers → k ≡ h → FoundUnfree z call k v met ⊎ FoundTwice z call k v met
  this_one v met u k lk e = subst (λ (i : ℕ). FoundUnfree z call i v met ⊎ FoundTwice z call i v met) (sym e) u

  spot_is : (word n : ℕ) (v w : PassState) → word ≡ index z (pin_spot h) → (l : Loads z call word v n w) → l.spot ≡ pin_spot h
  spot_is word n v w is l = index_apart z l.spot (pin_spot h) l.inside inside (l.at ∙ is)

  in_front : index z (pin_spot h) < rooms_at z
  in_front = header_before z (at_pin h) inside

  -- the pin word in these words
  pin_in : (a : List ℕ) (n : ℕ) → n ≡ get_or a (index z (pin_spot h)) 0 → (memory z a).headers.pin h ≡ n
  pin_in a n d = memory_read z a (pin_spot h) inside ∙ sym d

  -- the load found it not free
  pub loaded_unfree : (word n : ℕ) (v w : PassState) → word ≡ index z (pin_spot h) → Loads z call word v n w → is_free n ≡ false → Looked z call v w (λ k. k ≡ h)
  loaded_unfree word n v w is l unfree = record {
    more = finding z call l.spot (Some n) n l.told.table.words v ∷ [];
    after = met_at z call word n v w (pin_spot h) inside tt is l;
    looks = ((refl, subst (λ (i : ℕ). i < rooms_at z) (sym (l.at ∙ is)) in_front, refl, refl), tt);
    found = this_one v (finding z call l.spot (Some n) n l.told.table.words v ∷ []) (inl (met_here z call (pin_spot h) n n l.told.table.words l.spot v [] (λ k. is_free k ≡ false) (spot_is word n v w is l) unfree));
    still = runs_as (λ a b. (n ≡ get_or a (index z l.spot) 0) × (b ≡ a)) (NoneFree z (λ k. k ≡ h)) v w
        (λ a b d. (d.1, λ k lk e. ap (λ (i : ℕ). is_free ((memory z a).headers.pin i)) e ∙ (ap is_free (pin_in a n (subst (λ (q : Spot). n ≡ get_or a (index z q) 0) (spot_is word n v w is l) d.0)) ∙ unfree))) (load_runs z call l.spot v n w l.told);
  }

  module _ (old n : ℕ) (v w : PassState) (t : Claims z call h old v n w) where
    abbrev m : Memory
    m = memory z t.table.words

    abbrev front : Memory → HeldHeader
    front k = owned_at k.headers h

    abbrev met_now : Finding
    met_now = met_word z call h inside old front n t.table.words v

    pub missed_claim : n ≢ old → w ≡ noted met_now v
    missed_claim ne = missed z call h inside old front t.table n v w t.finds t.after ne

    abbrev told_first : Claims z call h old (grown [] v) n w
    told_first = told_of z call (on_headers (claim_header h old)) v (grown [] v) (grown_none v) n w t

    abbrev told_hit : n ≡ old → Claims z call h old (grown [] v) old w
    told_hit hit_old = record { table = told_first.table; seat = told_first.seat; rule = told_first.rule; here = told_first.here; going = told_first.going; may = told_first.may; finds = told_first.finds ∙ hit_old; after = told_first.after }

    -- the exchange found what it asked for
    exchanged : (k : ℕ) → k ≡ old → either (k == old) (old + STATE) k ≡ old + STATE
    exchanged k e = ap (λ (b : Bool). either b (old + STATE) k) (eq-eqb k old e)

    pub claims : n ≡ old → IsFreeWord old → ClaimsHeader z call h v w
    claims hit_old free = let hs : List HeaderHolds = map headers_held t.table.states in let here = stand z t.table t.seat v t.rule t.here in let is : m.headers.pin h ≡ old = word_is z call h inside old front t.table n v w t.finds t.after ∙ hit_old in record {
      inside = inside;
      before = [];
      looks = tt;
      number = old;
      free = free;
      told = told_hit hit_old;
      unheld = free_unheld m.headers (content m.arena.bytes) IsPlace (knows t.table) hs here h (ap state_of is ∙ free.state);
      unpinned = here.counted h ∙ (ap count_of is ∙ free.count);
      still = runs_as (DoesStep z (on_headers (claim_header h old)) n) (OwnsPin z h) v w (λ a b d. let p = pin_in a n d.0 in (ap is_free (p ∙ hit_old) ∙ is_free-word old free, d.1 ∙ ap (set a (index z (pin_spot h))) (exchanged (get_or a (index z (pin_spot h)) 0) (sym d.0 ∙ hit_old) ∙ ap (λ (i : ℕ). i + STATE) (sym (p ∙ hit_old)))))
          (step_runs z call (on_headers (claim_header h old)) v n w tt t);
      more = met_now ∷ [];
      calls = ((refl, in_front, refl), tt);
      after = hit z call h inside old front t.table n v w t.finds t.after hit_old;
    }

  -- the load found it free, and the exchange another number
  module _ (word n k : ℕ) (v u w : PassState) (is : word ≡ index z (pin_spot h)) (l : Loads z call word v n u) (free : is_free n ≡ true) (t : Claims z call h n u k w) (ne : k ≢ n) where
    abbrev f : Finding
    f = finding z call l.spot (Some n) n l.told.table.words v

    abbrev g : Finding
    g = met_now n k u w t

    same : l.spot ≡ pin_spot h
    same = spot_is word n v u is l

    had_same : had (pin_spot h) u ≡ had (pin_spot h) v
    had_same = ap (had (pin_spot h)) (met_at z call word n v u (pin_spot h) inside tt is l)

    -- an exchange that found another number left it
    kept_word : (i j : ℕ) → i ≢ j → either (i == j) (j + STATE) i ≡ i
    kept_word i j other = ap (λ (b : Bool). either b (j + STATE) i) (ne_eqb i j other)

    -- what the exchange found
    abbrev second : (P : ℕ → Type 0) → P k → FoundPin z call h v (f ∷ g ∷ []) P
    second P shows = found_later z call (pin_spot h) v u (f ∷ []) (g ∷ []) P had_same (met_here z call (pin_spot h) k (either (k == n) (n + STATE) k) t.table.words (pin_spot h) u [] P refl shows)

    two : Unfree v (f ∷ g ∷ [])
    two = test-cases (is_free k) (λ b. is_free k ≡ b → Unfree v (f ∷ g ∷ []))
        (λ _ yes. inr (record {
          one = met_here z call (pin_spot h) n n l.told.table.words l.spot v (g ∷ []) (λ _. Unit {0}) same tt;
          other = second (λ _. Unit {0}) tt;
          apart = generations_apart n k (free_word n free) (free_word k yes) ne;
        }))
        (λ _ unfree. inl (second (λ i. is_free i ≡ false) unfree)) refl

    pub lost : Looked z call v w (λ i. i ≡ h)
    lost = record {
      more = f ∷ g ∷ [];
      after = missed_claim n k u w t ne ∙ (ap (grown (g ∷ [])) (met_at z call word n v u (pin_spot h) inside tt is l) ∙ grown_twice v (f ∷ []) (g ∷ []));
      looks = ((refl, subst (λ (i : ℕ). i < rooms_at z) (sym (l.at ∙ is)) in_front, refl, refl), ((refl, in_front, ap Some (sym (kept_word k n ne)), refl), tt));
      found = this_one v (f ∷ g ∷ []) two;
      -- a pass that is alone loses no exchange
      still = runs_as (Then (λ a b. (n ≡ get_or a (index z l.spot) 0) × (b ≡ a)) (DoesStep z (on_headers (claim_header h n)) k)) (NoneFree z (λ i. i ≡ h)) v w
          (λ a b d. absurd (ne (d.2.0 ∙ (ap (λ (x : List ℕ). get_or x (index z (pin_spot h)) 0) d.1.1 ∙ sym (subst (λ (q : Spot). n ≡ get_or a (index z q) 0) same d.1.0)))))
          (runs_then (λ a b. (n ≡ get_or a (index z l.spot) 0) × (b ≡ a)) (DoesStep z (on_headers (claim_header h n)) k) v u w (load_runs z call l.spot v n u l.told) (step_runs z call (on_headers (claim_header h n)) u k w tt t));
    }
