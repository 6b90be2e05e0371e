-- What a step on a pin word does to its parts, and what stays of a header whose pin word changes.
use Rattle.std.proofs.Common.{◌≡◌, ◌≢◌, ℕ, ◌+◌, ◌-◌, ◌*◌, ◌%◌, ◌^◌, ◌<◌, ◌⊎◌, inl, inr, cond, Bool, List, sym, ap, ◌∙◌, subst, arith, eq-eqb, ne_eqb}
use mathlib.Core.Logic.{dite}
use native.Mathlib.Decide.{ℕ_discrete}
use Rattle.pin_word.specs.PinWord.{generation_of, state_of, count_of, STATE}
use Rattle.pin_word.proofs.StepLaws.{state_back}
use Rattle.oak_model.proofs.PutLaws.{put-cases, put-same}
use Rattle.header_core.specs.declared.states.TheConstants.{FREE, LIVE, DEAD, RETIRED, LAST_GENERATION}
use Rattle.header_core.specs.declared.holds.HeldAs.{HeldAs}
use Rattle.header_core.specs.declared.holds.PinnedHeader.{PinnedHeader}
use Rattle.header_core.specs.Headers.{HeaderMemory, at_pin}
use Rattle.header_core.specs.HeaderHolds.{held_state}
use Rattle.header_core.specs.HeaderRule.{PinHolds, IsOver, RemovalStands}
use Rattle.header_core.specs.HeaderStep.{renewal, put_header}

-- a held header becomes free
pub state_off : (s : HeldAs) (w : ℕ) → state_of w ≡ held_state s → w < 2 ^ 64
    → (count_of ((w + (2 ^ 64 - held_state s * STATE)) % 2 ^ 64) ≡ count_of w) × (state_of ((w + (2 ^ 64 - held_state s * STATE)) % 2 ^ 64) ≡ FREE) × (generation_of ((w + (2 ^ 64 - held_state s * STATE)) % 2 ^ 64) ≡ generation_of w)
state_off s w h b = let t = state_back w (held_state s) (omega arith) b in let r = t.1 in (t.0, (omega arith), t.2)

-- a dead header comes to the next generation: it is free there, or retired where that is the last

abbrev pub IsRenewed : ℕ → ℕ → Type 0
IsRenewed w x = (count_of x ≡ count_of w) × (generation_of x ≡ generation_of w + 1) × (((generation_of w + 1 ≡ LAST_GENERATION) × (state_of x ≡ RETIRED)) ⊎ ((generation_of w + 1 ≢ LAST_GENERATION) × (state_of x ≡ FREE)))

to_last : (w : ℕ) → state_of w ≡ DEAD → generation_of w + 2 ≡ 2 ^ 32 → w < 2 ^ 64 → IsRenewed w ((w + (2 ^ 32 + STATE)) % 2 ^ 64)
unfolding count_of state_of generation_of
to_last w dead e b = ((omega arith), (omega arith), inl ((omega arith), (omega arith)))

to_next : (w : ℕ) → state_of w ≡ DEAD → generation_of w + 1 < 2 ^ 32 → generation_of w + 2 ≢ 2 ^ 32 → w < 2 ^ 64 → IsRenewed w ((w + (2 ^ 32 - DEAD * STATE)) % 2 ^ 64)
unfolding count_of state_of generation_of
to_next w dead room ne b = ((omega arith), (omega arith), inr ((λ e. ne (omega arith)), (omega arith)))

pub renewed : (w : ℕ) → state_of w ≡ DEAD → generation_of w + 1 < 2 ^ 32 → w < 2 ^ 64 → IsRenewed w ((w + renewal (generation_of w)) % 2 ^ 64)
renewed w dead room b = dite (ℕ_discrete (generation_of w + 2) (2 ^ 32))
    (λ e. subst (λ (t : Bool). IsRenewed w ((w + cond t (2 ^ 32 + STATE) (2 ^ 32 - DEAD * STATE)) % 2 ^ 64)) (sym (eq-eqb (generation_of w + 2) (2 ^ 32) e)) (to_last w dead e b))
    (λ ne. subst (λ (t : Bool). IsRenewed w ((w + cond t (2 ^ 32 + STATE) (2 ^ 32 - DEAD * STATE)) % 2 ^ 64)) (sym (ne_eqb (generation_of w + 2) (2 ^ 32) ne)) (to_next w dead room ne b))

-- the pin word of h becomes x
module _ (m : HeaderMemory) (h x : ℕ) where
  abbrev pub with_pin : HeaderMemory
  with_pin = put_header m (at_pin h) x

  pub same_generation : generation_of x ≡ generation_of (m.pin h) → (k : ℕ) → generation_of (with_pin.pin k) ≡ generation_of (m.pin k)
  same_generation generation = put-same m.pin h x generation_of generation

  -- a pin that found its header live
  pub still_holds : (content : ℕ → List ℕ) (p : PinnedHeader) → (p.header ≡ h → state_of (m.pin h) ≡ LIVE → generation_of (m.pin h) ≡ p.wanted → (state_of x ≡ LIVE) × (generation_of x ≡ p.wanted)) → PinHolds m content p → PinHolds with_pin content p
  still_holds content p live t = let on = λ (e : p.header ≡ h). live e (ap (λ (i : ℕ). state_of (m.pin i)) (sym e) ∙ t.live) (ap (λ (i : ℕ). generation_of (m.pin i)) (sym e) ∙ t.generation) in record {
    live = put-cases m.pin h x p.header (λ w. state_of w ≡ LIVE) (λ e. (on e).0) (λ _. t.live);
    generation = put-cases m.pin h x p.header (λ w. generation_of w ≡ p.wanted) (λ e. (on e).1) (λ _. t.generation);
    place = t.place;
    stamp = t.stamp;
    words = t.words;
  }

  -- and one that found it dead
  pub still_removed : (p : PinnedHeader) → (p.header ≡ h → IsOver (state_of (m.pin h)) → IsOver (state_of x)) → RemovalStands m p → RemovalStands with_pin p
  still_removed p over t = record {
    over = put-cases m.pin h x p.header (λ w. IsOver (state_of w)) (λ e. over e (subst (λ (i : ℕ). IsOver (state_of (m.pin i))) e t.over)) (λ _. t.over);
    stamp = t.stamp;
  }
