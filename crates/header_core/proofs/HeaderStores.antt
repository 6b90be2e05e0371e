-- A store into the place word or the stamp word of an owned or a locked header keeps the points on headers.
use Rattle.std.proofs.Common.{◌≡◌, ◌≢◌, ℕ, ◌+◌, ◌<◌, ◌⊎◌, List, set, sym, refl, ap, ◌∙◌, subst, arith, ⊎_elim}
use mathlib.Core.Logic.{dite}
use mathlib.Core.Option.{some}
use native.Mathlib.Decide.{ℕ_discrete, dec_lt}
use lib.ListN.{get_elem?}
use Rattle.pin_word.specs.PinWord.{generation_of, state_of}
use Rattle.oak_model.specs.Counts.{total, put, Each}
use Rattle.oak_model.proofs.Changes.{stepped}
use Rattle.header_core.specs.declared.states.TheConstants.{FREE, OWNED, LIVE, LOCKED, DEAD, RETIRED}
use Rattle.header_core.specs.declared.holds.HeldHeader.{HeldHeader}
use Rattle.header_core.specs.declared.holds.HeaderHolds.{HeaderHolds}
use Rattle.header_core.specs.Headers.{HeaderMemory, at_place, at_stamp}
use Rattle.header_core.specs.HeaderHolds.{in_state}
use Rattle.header_core.specs.HeaderRule.{stocked, IsOver, HeadersStand}
use Rattle.header_core.specs.HeaderStep.{store_place, store_stamp, change_place, header_effect, headers_after, put_header}
use Rattle.header_core.proofs.HeldHeaders.{rows_in}
use Rattle.header_core.proofs.HeldChanges.{rows_placed, each_placed, rows_stamped, each_stamped, rows_changed, each_changed}
use Rattle.header_core.proofs.HeaderFacts.{held_is}
use Rattle.header_core.proofs.HeaderLaws.{unstocked, OneStands, one_stands, still_stands, headers_change}
use Rattle.oak_model.proofs.PutLaws.{put-here, put-else}

-- the header is in none of the states in which a pin's finding stands
abbrev pub IsQuiet : ℕ → Type 0
IsQuiet s = (s ≢ LIVE) × (IsOver s → ⊥)

pub not_over : (s : ℕ) → 0 < s → s < DEAD → IsOver s → ⊥
not_over s pos low o = ⊎_elim (λ (d : s ≡ DEAD). omega arith) (λ (f : (s ≡ FREE) ⊎ (s ≡ RETIRED)). ⊎_elim (λ (d : s ≡ FREE). omega arith) (λ (d : s ≡ RETIRED). omega arith) f) o

pub quiet_owned : (s : ℕ) → s ≡ OWNED → IsQuiet s
quiet_owned s e = ((λ l. omega arith), not_over s (omega arith) (omega arith))

pub quiet_locked : (s : ℕ) → s ≡ LOCKED → IsQuiet s
quiet_locked s e = ((λ l. omega arith), not_over s (omega arith) (omega arith))

module _ (m : HeaderMemory) (content : ℕ → List ℕ) (IsPlace : ℕ → Type 0) (known : ℕ → ℕ → ℕ) (hs : List HeaderHolds) (r : HeadersStand m content IsPlace known hs) (seat : ℕ) (a : HeaderHolds) (there : get_elem? hs seat ≡ some a) (h : ℕ) where
  module _ (quiet : IsQuiet (state_of (m.pin h))) (place' stamp' : ℕ → ℕ) (place_else : (k : ℕ) → k ≢ h → place' k ≡ m.place k) (stamp_else : (k : ℕ) → k ≢ h → stamp' k ≡ m.stamp k) (placed : 0 < stocked (state_of (m.pin h)) → IsPlace (place' h)) (rs : List HeldHeader)
      (rows : (k s : ℕ) → rows_in k s rs ≡ in_state k s a) (generations : Each (λ (q : HeldHeader). generation_of (m.pin q.header) ≡ q.generation) rs) where
    abbrev m' : HeaderMemory
    m' = record m { place = place'; stamp = stamp' }

    abbrev b : HeaderHolds
    b = record a { held = rs }

    still : (j : ℕ) (u : HeaderHolds) → get_elem? hs j ≡ some u → OneStands m' content u
    still j u at = still_stands m m' content content u (λ _ _. refl)
        (λ p _ _ t. let off : p.header ≢ h = λ e. quiet.0 (ap (λ (i : ℕ). state_of (m.pin i)) (sym e) ∙ t.live) in
        record { live = t.live; generation = t.generation; place = place_else p.header off ∙ t.place; stamp = stamp_else p.header off ∙ t.stamp; words = t.words })
        (λ p _ t. record { over = t.over; stamp = stamp_else p.header (λ e. quiet.1 (subst (λ (i : ℕ). IsOver (state_of (m.pin i))) e t.over)) ∙ t.stamp })
        (one_stands m content IsPlace known hs r j u at)

    mine : OneStands m' content b
    mine = let s = still seat a there in record { generations = generations; good = s.good; dead = s.dead }

    stored : HeadersStand m' content IsPlace known (set hs seat b)
    unfolding total
    stored = headers_change m m' content content IsPlace known known (stepped hs seat a b there) r (λ _. refl) (λ k s _ _ _. let e = rows k s in omega arith)
        (λ k. let e = rows k LIVE in let f = r.fresh k in omega arith) (λ k. let e = rows k LIVE in omega arith) r.older (λ k. (r.retired k, r.six k))
        (λ k pos. dite (ℕ_discrete k h) (λ e. subst (λ (i : ℕ). IsPlace (place' i)) (sym e) (placed (subst (λ (i : ℕ). 0 < stocked (state_of (m.pin i))) e pos))) (λ ne. subst IsPlace (sym (place_else k ne)) (r.placed k pos)))
        (mine, tt) (λ j u _ at. still j u at)

  owned_is : 0 < in_state h OWNED a → state_of (m.pin h) ≡ OWNED
  owned_is own = held_is m content IsPlace known hs r seat a h OWNED there (omega arith) (omega arith) own

  locked_is : 0 < in_state h LOCKED a → state_of (m.pin h) ≡ LOCKED
  locked_is own = held_is m content IsPlace known hs r seat a h LOCKED there (omega arith) (omega arith) own

  pub store_place_keeps : 0 < in_state h OWNED a → (x : ℕ) → HeadersStand (put_header m (at_place h) (header_effect (store_place h x) (m.place h))) content IsPlace known (set hs seat (headers_after m content (store_place h x) a))
  store_place_keeps own x = stored (quiet_owned (state_of (m.pin h)) (owned_is own)) (put m.place h x) m.stamp (λ k ne. put-else m.place h x k ne) (λ _ _. refl)
      (λ pos. let o = owned_is own in let u = unstocked (state_of (m.pin h)) (omega arith) in absurd (omega arith))
      (headers_after m content (store_place h x) a).held (λ k s. rows_placed h x k s a.held) (each_placed h x (λ k g. generation_of (m.pin k) ≡ g) a.held (r.generations seat a there))

  pub store_stamp_keeps : 0 < in_state h OWNED a + in_state h LOCKED a → (x : ℕ) → HeadersStand (put_header m (at_stamp h) (header_effect (store_stamp h x) (m.stamp h))) content IsPlace known (set hs seat (headers_after m content (store_stamp h x) a))
  store_stamp_keeps own x = stored quiet m.place (put m.stamp h x) (λ _ _. refl) (λ k ne. put-else m.stamp h x k ne) (r.placed h)
      (headers_after m content (store_stamp h x) a).held (λ k s. rows_stamped h x k s a.held) (each_stamped h x (λ k g. generation_of (m.pin k) ≡ g) a.held (r.generations seat a there))
    where
      quiet : IsQuiet (state_of (m.pin h))
      quiet = dite (dec_lt 0 (in_state h OWNED a)) (λ l. quiet_owned (state_of (m.pin h)) (owned_is l)) (λ no. quiet_locked (state_of (m.pin h)) (locked_is (omega arith)))

  pub change_place_keeps : 0 < in_state h LOCKED a → (x : ℕ) → IsPlace x → HeadersStand (put_header m (at_place h) (header_effect (change_place h x) (m.place h))) content IsPlace known (set hs seat (headers_after m content (change_place h x) a))
  change_place_keeps own x place = stored (quiet_locked (state_of (m.pin h)) (locked_is own)) (put m.place h x) m.stamp (λ k ne. put-else m.place h x k ne) (λ _ _. refl) (λ _. subst IsPlace (sym (put-here m.place h x h refl)) place)
      (headers_after m content (change_place h x) a).held (λ k s. rows_changed h x (content x) k s a.held) (each_changed h x (content x) (λ k g. generation_of (m.pin k) ≡ g) a.held (r.generations seat a there))
