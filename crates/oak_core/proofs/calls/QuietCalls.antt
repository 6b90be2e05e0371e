-- What the steps were of one part of a call behind another.
use Rattle.std.proofs.Common.{◌≡◌, ◌≢◌, ◌<◌, ◌≤◌, ℕ, List, [], ◌∷◌, ◌++◌, sym, ap, ◌∙◌, refl, inl, inr, ⊎_elim, arith, Option, Some, None, append_assoc, append-nil}
use Rattle.oak_model.specs.Counts.{Each}
use Rattle.oak_model.specs.Limits.{Sizes}
use Rattle.oak_model.proofs.Lists.{each_append, each_map}
use Rattle.header_core.specs.HeaderStep.{pin_header, unpin_header}
use Rattle.chunk_core.specs.RoomStep.{pin_room, unpin_room}
use Rattle.oak_core.specs.declared.states.Finding.{Finding}
use Rattle.oak_core.specs.declared.states.PassState.{PassState}
use Rattle.oak_core.specs.Finding.{IsLoadOf, IsOf, LoadsMore}
use Rattle.oak_core.specs.Memory.{Spot, rooms_at}
use Rattle.oak_core.specs.QuietSteps.{CountsByOne, IsQuiet, MetOnly, Quiet, StoredNone, TookNone}
use Rattle.oak_core.specs.Step.{load, on_headers, on_rooms, Told}

pub only_none : (P : Finding → Type 0) (v w : PassState) → w.findings.met ≡ v.findings.met → MetOnly P v w
only_none P v w e = record { more = []; met = e ∙ sym (append-nil v.findings.met); each = tt }

pub only_both : (P : Finding → Type 0) (u v w : PassState) → MetOnly P u v → MetOnly P v w → MetOnly P u w
only_both P u v w a b = record {
  more = a.more ++ b.more;
  met = b.met ∙ (ap (λ (l : List Finding). l ++ b.more) a.met ∙ append_assoc u.findings.met a.more b.more);
  each = each_append P a.more b.more a.each b.each;
}

pub only_map : (P Q : Finding → Type 0) (v w : PassState) → ((f : Finding) → P f → Q f) → MetOnly P v w → MetOnly Q v w
only_map P Q v w by m = record { more = m.more; met = m.met; each = each_map P Q m.more by m.each }

-- what is quiet takes no block
pub quiet_took : (v w : PassState) → Quiet v w → MetOnly TookNone v w
quiet_took v w q = only_map IsQuiet TookNone v w (λ f is. is.0) q

-- loads are quiet
pub quiet_loads : (z : Sizes) (call : ℕ) (v w : PassState) → LoadsMore z call v w → Quiet v w
quiet_loads z call v w l = record { more = l.more; met = ap (λ (y : PassState). y.findings.met) l.after; each = each_map (IsLoadOf z call) IsQuiet l.more (λ f is. (is.3, inl is.2)) l.loads }

-- steps in front of the rooms that take nothing
pub of_took : (z : Sizes) (call : ℕ) (v w : PassState) (more : List Finding) → w.findings.met ≡ v.findings.met ++ more → Each (IsOf z call) more → MetOnly TookNone v w
of_took z call v w more met of = record { more = more; met = met; each = each_map (IsOf z call) TookNone more (λ f is. is.2) of }

-- what is quiet stores nothing, nor do steps in front of the rooms to a word behind them

some_none : {A : Type 0} (o : Option A) (n : A) → o ≡ Some n → o ≢ None
some_none o n e f = let k : Some n ≡ None = sym e ∙ f in absurd cc

pub quiet_stored : (word : ℕ) (v w : PassState) → Quiet v w → MetOnly (StoredNone word) v w
quiet_stored word v w q = only_map IsQuiet (StoredNone word) v w (λ f is _. ⊎_elim (λ (e : f.found ≡ Some f.left). some_none f.found f.left e) (λ (e : (n : ℕ) × (f.found ≡ Some n) × CountsByOne n f.left). some_none f.found e.0 e.1) is.1) q

pub front_stored : (z : Sizes) (call word : ℕ) (v w : PassState) (more : List Finding) → rooms_at z ≤ word → w.findings.met ≡ v.findings.met ++ more → Each (λ (f : Finding). f.word < rooms_at z) more → MetOnly (StoredNone word) v w
front_stored z call word v w more le met of = record { more = more; met = met; each = each_map (λ (f : Finding). f.word < rooms_at z) (StoredNone word) more (λ f lt e. let k : f.word ≡ word = e in absurd (omega arith)) of }

-- ---- one step

pub quiet_load : (z : Sizes) (call : ℕ) (p : Spot) (v : PassState) (n : ℕ) (w : PassState) → Told z call (load p) v n w → Quiet v w
quiet_load z call p v n w t = record { more = _ ∷ []; met = ap (λ (y : PassState). y.findings.met) t.after; each = ((refl, inl refl), tt) }

pub quiet_pin_header : (z : Sizes) (call h g : ℕ) (v : PassState) (n : ℕ) (w : PassState) → Told z call (on_headers (pin_header h g)) v n w → Quiet v w
quiet_pin_header z call h g v n w t = record { more = _ ∷ []; met = ap (λ (y : PassState). y.findings.met) t.after; each = ((refl, inr (_, refl, inl refl)), tt) }

pub quiet_unpin_header : (z : Sizes) (call h : ℕ) (v : PassState) (n : ℕ) (w : PassState) → Told z call (on_headers (unpin_header h)) v n w → Quiet v w
quiet_unpin_header z call h v n w t = record { more = _ ∷ []; met = ap (λ (y : PassState). y.findings.met) t.after; each = ((refl, inr (_, refl, inr refl)), tt) }

pub quiet_pin_room : (z : Sizes) (call r : ℕ) (v : PassState) (n : ℕ) (w : PassState) → Told z call (on_rooms (pin_room r)) v n w → Quiet v w
quiet_pin_room z call r v n w t = record { more = _ ∷ []; met = ap (λ (y : PassState). y.findings.met) t.after; each = ((refl, inr (_, refl, inl refl)), tt) }

pub quiet_unpin_room : (z : Sizes) (call r : ℕ) (v : PassState) (n : ℕ) (w : PassState) → Told z call (on_rooms (unpin_room r)) v n w → Quiet v w
quiet_unpin_room z call r v n w t = record { more = _ ∷ []; met = ap (λ (y : PassState). y.findings.met) t.after; each = ((refl, inr (_, refl, inr refl)), tt) }
