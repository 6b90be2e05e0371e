-- The pin of a header finds its word: a finding of the call, at whose step its pass had nothing there.
use Rattle.std.proofs.Common.{◌≡◌, ℕ, [], ◌∷◌, ◌++◌, sym, refl, ap, ◌∙◌, subst, append_assoc, Some, None}
use Rattle.oak_model.specs.Limits.{Sizes}
use Rattle.oak_model.proofs.Lists.{each_map}
use Rattle.header_core.specs.HeaderHolds.{had_header, no_headers}
use Rattle.header_core.specs.HeaderStep.{header_effect, pin_header}
use Rattle.header_core.specs.Headers.{at_pin}
use Rattle.header_core.specs.declared.holds.HeaderHolds.{HeaderHolds}
use Rattle.oak_core.specs.declared.states.Finding.{Finding}
use Rattle.oak_core.specs.declared.states.PassState.{PassState}
use Rattle.oak_core.specs.CallSteps.{MetMore}
use Rattle.oak_core.specs.Finding.{IsOf, finding}
use Rattle.oak_core.specs.HeaderCalls.{Pins}
use Rattle.oak_core.specs.Memory.{Memory, in_headers}
use Rattle.oak_core.specs.Step.{found, load, on_headers}
use Rattle.oak_core.proofs.calls.CallSteps.{met_both, met_none, step_met}
use Rattle.value_ops.specs.declared.pinning.BadPin.{BadPin}
use Rattle.value_ops.specs.declared.pinning.BadPin.TheVariants.{Locked, Dead, Other}
use Rattle.value_ops.specs.Pinning.{IsCause, LooksUnder, MeetsMore, PinsDud, with_pin}
use Rattle.point_ops.specs.FoundWords.{FoundWord}

-- the step's finding, and what the call met later
pub found_pin : (z : Sizes) (call h g n : ℕ) (v w u : PassState) (P : ℕ → Type 0) → v.headers ≡ no_headers → Pins z call h g v n w → MetMore call w u → P n → FoundWord z call (in_headers (at_pin h)) P v u
found_pin z call h g n v w u P none t m p = record {
  more = f ∷ m.more;
  met = m.met ∙ (ap (λ (x : PassState). x.findings.met ++ m.more) t.after ∙ append_assoc v.findings.met (f ∷ []) m.more);
  found = record { place = 0; finding = f; there = refl; call_is = refl; word_is = refl; number = found z (on_headers (pin_header h g)) t.table; found_is = refl; shows = subst P (sym t.finds) p; had_is = ap (λ (a : HeaderHolds). had_header h a) none };
}
  where
    f : Finding
    f = finding z call (in_headers (at_pin h)) (Some (found z (on_headers (pin_header h g)) t.table)) (header_effect (pin_header h g) (found z (on_headers (pin_header h g)) t.table)) t.table.words v

pub meets_met : (z : Sizes) (call : ℕ) (v w : PassState) → MeetsMore z call (with_pin None v) w → MetMore call v w
meets_met z call v w m = record { more = m.more; met = ap (λ (x : PassState). x.findings.met) m.after; calls = each_map (IsOf z call) (λ (f : Finding). f.call ≡ call) m.more (λ f i. i.0) m.calls }

looks_met : (z : Sizes) (call h : ℕ) (why : BadPin) (m : Memory) (u x : PassState) → LooksUnder z call h why m u x → MetMore call u x
looks_met z call h Locked m u x e = subst (MetMore call u) (sym e) (met_none call u)
looks_met z call h (Dead stamp) m u x l = step_met z call (load l.0.spot) u stamp x l.0.told
looks_met z call h Other m u x e = subst (MetMore call u) (sym e) (met_none call u)

-- a pin that was undone found the word that is its cause
pub dud_found : (z : Sizes) (call h g : ℕ) (why : BadPin) (v w : PassState) (P : ℕ → Type 0) → v.headers ≡ no_headers → PinsDud z call h g why v w → ((n : ℕ) → IsCause why g n → P n) → FoundWord z call (in_headers (at_pin h)) P v w
dud_found z call h g why v w P none d is = found_pin z call h g d.number v d.pinned w P none d.told
    (met_both call d.pinned d.looked w (looks_met z call h why _ d.pinned d.looked d.looks) (meets_met z call d.looked w d.undone.meets)) (is d.number d.cause)
