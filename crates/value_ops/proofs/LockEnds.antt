-- What the ends of a lock leave in the findings: a write is three steps, the second of which stores the stamp, and a lock given up is one. So no body that stores none has the first clause, and none that stores one has the second.
use Rattle.std.proofs.Common.{◌≡◌, ℕ, ◌+◌, List, [], ◌∷◌, ◌++◌, length, length-append, append_assoc, Some, refl, ap, ◌∙◌, arith}
use Rattle.oak_model.specs.declared.writes.Kind.{Kind}
use Rattle.oak_model.specs.declared.writes.Kind.TheVariants.{Put}
use Rattle.oak_model.specs.Limits.{Sizes}
use Rattle.header_core.specs.Headers.{at_pin, at_stamp}
use Rattle.header_core.specs.HeaderStep.{HeaderStep, store_stamp, unlock_header, mark_dead, header_spot, header_effect, header_found}
use Rattle.oak_core.specs.declared.states.Finding.{Finding}
use Rattle.oak_core.specs.declared.states.PassState.{PassState}
use Rattle.oak_core.specs.Finding.{finding}
use Rattle.oak_core.specs.HeaderCalls.{StoresStamp, Unlocks}
use Rattle.oak_core.specs.Memory.{in_headers, index}
use Rattle.oak_core.specs.Splitting.{Loads}
use Rattle.oak_core.specs.Step.{on_headers, found, Told}
use Rattle.value_ops.specs.Filling.{table_behind}
use Rattle.value_ops.specs.UnderLock.{StoresNext, EndsLock, WritesOver, GivesUp, Buries}

-- what a step on a header leaves there
abbrev of_step : (z : Sizes) (call : ℕ) (x : HeaderStep) (v : PassState) (n : ℕ) (w : PassState) → Told z call (on_headers x) v n w → Finding
of_step z call x v n w t = finding z call (in_headers (header_spot x)) (header_found x (found z (on_headers x) t.table)) (header_effect x (found z (on_headers x) t.table)) t.table.words v

step_met : (z : Sizes) (call : ℕ) (x : HeaderStep) (v : PassState) (n : ℕ) (w : PassState) (t : Told z call (on_headers x) v n w) → w.findings.met ≡ v.findings.met ++ of_step z call x v n w t ∷ []
step_met z call x v n w t = ap (λ (y : PassState). y.findings.met) t.after

abbrev of_load : (z : Sizes) (call word : ℕ) (v : PassState) (n : ℕ) (w : PassState) → Loads z call word v n w → Finding
of_load z call word v n w l = finding z call l.spot (Some n) n l.told.table.words v

load_met : (z : Sizes) (call word : ℕ) (v : PassState) (n : ℕ) (w : PassState) (l : Loads z call word v n w) → w.findings.met ≡ v.findings.met ++ of_load z call word v n w l ∷ []
load_met z call word v n w l = ap (λ (y : PassState). y.findings.met) l.told.after ∙ ap (λ (k : ℕ). v.findings.met ++ finding z call l.spot (Some k) k l.told.table.words v ∷ []) l.told.finds

-- the stamp word was loaded, and the stamp stored there
pub record StampMet (z : Sizes) (h stamp : ℕ) (met more : List Finding) : Type 0 where
  pub number : ℕ
  pub load : Finding
  pub store : Finding
  pub met_is : more ≡ met ++ load ∷ store ∷ []
  pub loads_it : (load.word ≡ index z (in_headers (at_stamp h))) × (load.found ≡ Some number)
  pub stores_it : (store.word ≡ index z (in_headers (at_stamp h))) × (store.left ≡ stamp)

module _ (z : Sizes) (call h stamp : ℕ) (v u : PassState) (s : StoresNext z call h stamp v u) where
  pub next_met : StampMet z h stamp v.findings.met u.findings.met
  next_met = let word : ℕ = index z (in_headers (at_stamp h)) in let x = store_stamp h stamp in let a : Finding = of_load z call word v s.number s.between s.loads in let b : Finding = of_step z call x s.between s.stores.0 u s.stores.1 in record {
    number = s.number;
    load = a;
    store = b;
    met_is = step_met z call x s.between s.stores.0 u s.stores.1 ∙ (ap (λ (l : List Finding). l ++ b ∷ []) (load_met z call word v s.number s.between s.loads) ∙ append_assoc v.findings.met (a ∷ []) (b ∷ []));
    loads_it = (s.loads.at, refl);
    stores_it = (refl, refl);
  }

-- the length of what is met, one by one
one_more : (fs gs : List Finding) (f : Finding) → gs ≡ fs ++ f ∷ [] → length gs ≡ length fs + 1
one_more fs gs f e = ap (λ (l : List Finding). length l) e ∙ length-append fs (f ∷ [])

two_more : (fs gs : List Finding) (f g : Finding) → gs ≡ fs ++ f ∷ g ∷ [] → length gs ≡ length fs + 2
two_more fs gs f g e = ap (λ (l : List Finding). length l) e ∙ length-append fs (f ∷ g ∷ [])

module _ (z : Sizes) (call h g stamp : ℕ) (v w : PassState) where
  pub written_met : (kind : Kind) → WritesOver z call h g kind stamp v w → length w.findings.met ≡ length v.findings.met + 3
  written_met kind o = let n = next_met z call h stamp v o.stamped o.stores in let two = two_more v.findings.met o.stamped.findings.met n.load n.store n.met_is in let e = o.ends in
      let one = one_more o.stamped.findings.met w.findings.met (of_step z call (unlock_header h kind) o.stamped e.number w e.told) (step_met z call (unlock_header h kind) o.stamped e.number w e.told) in omega arith

  pub buried_three : Buries z call h g stamp v w → length w.findings.met ≡ length v.findings.met + 3
  buried_three o = let n = next_met z call h stamp v o.stamped o.stores in let two = two_more v.findings.met o.stamped.findings.met n.load n.store n.met_is in
      let one = one_more o.stamped.findings.met w.findings.met (of_step z call (mark_dead h) o.stamped o.number w o.told) (step_met z call (mark_dead h) o.stamped o.number w o.told) in omega arith

  pub given_up_met : GivesUp z call h g stamp v w → length w.findings.met ≡ length v.findings.met + 1
  given_up_met g = let e = g.ends in one_more v.findings.met w.findings.met (of_step z call (unlock_header h Put) v e.number w e.told) (step_met z call (unlock_header h Put) v e.number w e.told)

  -- the finding of the step that ended the lock has the words that stand behind it
  pub ended_words : (kind : Kind) (before : PassState) (e : EndsLock z call h g kind stamp before v w) → (f : Finding) × (w.findings.met ≡ before.findings.met ++ f ∷ []) × (f.words ≡ (table_behind z call (unlock_header h kind) before e.number w e.told).words) × (f.word ≡ index z (in_headers (at_pin h)))
  ended_words kind before e = (of_step z call (unlock_header h kind) before e.number w e.told, step_met z call (unlock_header h kind) before e.number w e.told, refl, refl)

  -- the steps of a body that unlocks and stores no stamp are no write
  pub no_write_unstored : (kind : Kind) (word n m : ℕ) (u : PassState) → Loads z call word v n u → Unlocks z call h kind u m w → WritesOver z call h g kind stamp v w → ⊥
  no_write_unstored kind word n m u l t o = let a = one_more v.findings.met u.findings.met (of_load z call word v n u l) (load_met z call word v n u l) in
      let b = one_more u.findings.met w.findings.met (of_step z call (unlock_header h kind) u m w t) (step_met z call (unlock_header h kind) u m w t) in let c = written_met kind o in omega arith

  -- nor are those of one that stores the stamp, and then another
  pub no_write_twice : (kind : Kind) (x m : ℕ) (u y : PassState) → StoresNext z call h stamp v u → StoresStamp z call h x u y → Unlocks z call h kind y m w → WritesOver z call h g kind stamp v w → ⊥
  no_write_twice kind x m u y s a t o = let n = next_met z call h stamp v u s in let two = two_more v.findings.met u.findings.met n.load n.store n.met_is in
      let b = one_more u.findings.met y.findings.met (of_step z call (store_stamp h x) u a.0 y a.1) (step_met z call (store_stamp h x) u a.0 y a.1) in
      let c = one_more y.findings.met w.findings.met (of_step z call (unlock_header h kind) y m w t) (step_met z call (unlock_header h kind) y m w t) in let d = written_met kind o in omega arith

  -- and a body that stores a stamp first does not give up
  pub no_stamp_given_up : (x m : ℕ) (u : PassState) → StoresStamp z call h x v u → Unlocks z call h Put u m w → GivesUp z call h g stamp v w → ⊥
  no_stamp_given_up x m u a t o = let b = one_more v.findings.met u.findings.met (of_step z call (store_stamp h x) v a.0 u a.1) (step_met z call (store_stamp h x) v a.0 u a.1) in
      let c = one_more u.findings.met w.findings.met (of_step z call (unlock_header h Put) u m w t) (step_met z call (unlock_header h Put) u m w t) in let d = given_up_met o in omega arith
