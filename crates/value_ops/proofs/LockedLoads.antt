-- The load of the stamp word of a header that the pass has locked teaches it nothing: no pin of its own found that header live or dead.
use Rattle.std.proofs.Common.{◌≡◌, ℕ, ◌<◌, ◌==◌, ◌&&◌, not, Bool, true, false, [], ◌∷◌, refl, ap, subst, ⊎_elim, arith, Option, Some, None, eqb-true, ◌⊎◌, inl, inr}
use mathlib.Core.Option.{some}
use lib.ListN.{get_elem?}
use Rattle.pin_word.specs.PinWord.{state_of, generation_of}
use Rattle.oak_model.specs.Limits.{Sizes}
use Rattle.oak_model.proofs.Counting.{both_true, test-cases}
use Rattle.oak_model.proofs.Lists.{at_map}
use Rattle.arena_core.specs.Place.{content}
use Rattle.header_core.specs.declared.states.TheConstants.{LIVE, LOCKED, DEAD, FREE, RETIRED}
use Rattle.header_core.specs.declared.holds.PinnedHeader.{PinnedHeader}
use Rattle.header_core.specs.HeaderHolds.{in_state}
use Rattle.header_core.specs.HeaderRule.{OnPin, GoodPinHolds, DeadPinHolds}
use Rattle.header_core.specs.Headers.{at_stamp}
use Rattle.oak_core.specs.declared.states.PassState.{PassState}
use Rattle.oak_core.specs.Finding.{finding, grown}
use Rattle.oak_core.specs.LifeKeys.{is_known}
use Rattle.oak_core.specs.Memory.{Memory, in_headers, index, memory}
use Rattle.oak_core.specs.PassState.{headers_held}
use Rattle.oak_core.specs.Rule.{Rule}
use Rattle.oak_core.specs.Splitting.{Loads}
use Rattle.oak_core.specs.StampLoads.{finds_life, shows_stamp, stamp_key}
use Rattle.oak_core.specs.TableState.{TableState}
use Rattle.oak_core.proofs.told.QuietLoads.{met_quiet, unshown_teaches}
use Rattle.value_ops.proofs.HeldValues.{state_is}

-- the pass that has the lock pinned the header at no time that counts
module _ (z : Sizes) (s : TableState) (r : Rule z s) (seat : ℕ) (v : PassState) (here : get_elem? s.states seat ≡ some v) (h : ℕ) (locked : 0 < in_state h LOCKED v.headers) where
  abbrev m : Memory
  m = memory z s.words

  is_locked : state_of (m.headers.pin h) ≡ LOCKED
  is_locked = state_is z s r seat v here h LOCKED (omega arith) (omega arith) locked

  one_of : (a b : Bool) → not (not a && not b) ≡ true → (a ≡ true) ⊎ (b ≡ true)
  one_of true b e = inl refl
  one_of false true e = inr refl
  one_of false false e = absurd cc

  found_so : (p : PinnedHeader) → v.headers.pin ≡ Some p → p.header ≡ h → generation_of p.found ≡ p.wanted → (state_of p.found ≡ LIVE) ⊎ (state_of p.found ≡ DEAD) → ⊥
  found_so p is same wanted o = let at = at_map headers_held s.states seat v here in let l = is_locked in let e = ap (λ (k : ℕ). state_of (m.headers.pin k)) same in
      ⊎_elim (λ (live : state_of p.found ≡ LIVE). let holds = subst (OnPin (GoodPinHolds m.headers (content m.arena.bytes))) is (r.headers.good seat v.headers at) (record { live = live; wanted = wanted }) in let q = holds.live in absurd (omega arith))
      (λ (dead : state_of p.found ≡ DEAD). let stands = subst (OnPin (DeadPinHolds m.headers)) is (r.headers.dead seat v.headers at) dead in
      ⊎_elim (λ (d : state_of (m.headers.pin p.header) ≡ DEAD). absurd (omega arith)) (λ (f : (state_of (m.headers.pin p.header) ≡ FREE) ⊎ (state_of (m.headers.pin p.header) ≡ RETIRED)).
      ⊎_elim (λ (d : state_of (m.headers.pin p.header) ≡ FREE). absurd (omega arith)) (λ (d : state_of (m.headers.pin p.header) ≡ RETIRED). absurd (omega arith)) f) stands.over) o

  by_pin : (o : Option PinnedHeader) → v.headers.pin ≡ o → finds_life h o ≡ false
  by_pin None is = refl
  by_pin (Some p) is = test-cases (finds_life h (Some p)) (λ t. finds_life h (Some p) ≡ t → t ≡ false)
      (λ _ yes. let b = both_true (p.header == h) ((generation_of p.found == p.wanted) && not (not (state_of p.found == LIVE) && not (state_of p.found == DEAD))) yes in
      let d = both_true (generation_of p.found == p.wanted) (not (not (state_of p.found == LIVE) && not (state_of p.found == DEAD))) b.1 in
      absurd (found_so p is (eqb-true p.header h b.0) (eqb-true (generation_of p.found) p.wanted d.0)
      (⊎_elim (λ (t : (state_of p.found == LIVE) ≡ true). inl (eqb-true (state_of p.found) LIVE t)) (λ (t : (state_of p.found == DEAD) ≡ true). inr (eqb-true (state_of p.found) DEAD t)) (one_of (state_of p.found == LIVE) (state_of p.found == DEAD) d.1))))
      (λ _ _. refl) refl

  pub locked_blind : finds_life h v.headers.pin ≡ false
  locked_blind = by_pin v.headers.pin refl

-- so its load of the stamp word only meets more
module _ (z : Sizes) (call word h n : ℕ) (v w : PassState) (inside : h < z.headers) (at : word ≡ index z (in_headers (at_stamp h))) (locked : 0 < in_state h LOCKED v.headers) (l : Loads z call word v n w) where
  blind : shows_stamp h v.headers.pin v.knowledge ≡ false
  blind = ap (λ (t : Bool). t && is_known (stamp_key h v.headers.pin v.knowledge)) (locked_blind z l.told.table l.told.rule l.told.seat v l.told.here h locked)

  pub met_locked : w ≡ grown (finding z call l.spot (Some n) n l.told.table.words v ∷ []) v
  met_locked = met_quiet z call word n v w (in_headers (at_stamp h)) inside at (λ m qs. unshown_teaches call h m qs v blind) l
