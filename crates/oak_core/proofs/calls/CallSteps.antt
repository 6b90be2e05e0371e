-- What one part of a call and another are together, and that a step of a part is one of the call.
use Rattle.std.proofs.Common.{◌≡◌, ℕ, List, [], ◌∷◌, ◌++◌, sym, refl, ap, ◌∙◌, subst, append_assoc, append-nil}
use Rattle.oak_model.specs.Counts.{Begins}
use Rattle.oak_model.specs.Limits.{Sizes}
use Rattle.oak_model.proofs.Lists.{each_append, begins_trans}
use Rattle.oak_core.specs.declared.states.Finding.{Finding}
use Rattle.oak_core.specs.declared.states.Knowledge.{Knowledge}
use Rattle.oak_core.specs.declared.states.PassState.{PassState}
use Rattle.oak_core.specs.CallSteps.{MetMore, StepOfCall, KeepsAll, Learns, Stands, SightsMore}
use Rattle.oak_core.specs.KnownPlaces.{KnowsPlace}
use Rattle.oak_core.specs.PassState.{seen_of}
use Rattle.oak_core.specs.Step.{Step, load, give_number, on_arena, on_headers, on_rooms, store_locked, note_full, state_after, Told}
use Rattle.oak_core.specs.TableState.{TableState}
use Rattle.oak_core.specs.declared.states.Sight.{Sight}

pub begins_same : {A : Type 0} (l m : List A) → m ≡ l → Begins l m
begins_same l m e = ([], e ∙ sym (append-nil l))

pub met_both : (call : ℕ) (u v w : PassState) → MetMore call u v → MetMore call v w → MetMore call u w
met_both call u v w a b = record {
  more = a.more ++ b.more;
  met = b.met ∙ (ap (λ (l : List Finding). l ++ b.more) a.met ∙ append_assoc u.findings.met a.more b.more);
  calls = each_append (λ (f : Finding). f.call ≡ call) a.more b.more a.calls b.calls;
}

pub met_none : (call : ℕ) (v : PassState) → MetMore call v v
met_none call v = record { more = []; met = sym (append-nil v.findings.met); calls = tt }

pub sights_both : (call : ℕ) (u v w : PassState) → SightsMore call u v → SightsMore call v w → SightsMore call u w
sights_both call u v w a b = record {
  more = a.more ++ b.more;
  sights = b.sights ∙ (ap (λ (l : List Sight). l ++ b.more) a.sights ∙ append_assoc u.findings.sights a.more b.more);
  calls = each_append (λ (s : Sight). s.call ≡ call) a.more b.more a.calls b.calls;
}

pub sights_same : (call : ℕ) (v w : PassState) → w.findings.sights ≡ v.findings.sights → SightsMore call v w
sights_same call v w e = record { more = []; sights = e ∙ sym (append-nil v.findings.sights); calls = tt }

pub keeps_both : (u v w : PassState) → KeepsAll u v → KeepsAll v w → KeepsAll u w
keeps_both u v w a b = record {
  numbers = b.numbers ∙ a.numbers;
  mine = b.mine ∙ a.mine;
  fulls = b.fulls ∙ a.fulls;
  rebalances = b.rebalances ∙ a.rebalances;
  swept = b.swept ∙ a.swept;
  gones = begins_trans u.findings.gones v.findings.gones w.findings.gones a.gones b.gones;
  loaded = begins_trans u.knowledge.loaded v.knowledge.loaded w.knowledge.loaded a.loaded b.loaded;
  seen = λ k. begins_trans (seen_of k u.knowledge) (seen_of k v.knowledge) (seen_of k w.knowledge) (a.seen k) (b.seen k);
  remembers = λ k at r x. b.remembers k at r (a.remembers k at r x);
}

pub learns_both : (call : ℕ) (u v w : PassState) → Learns call u v → Learns call v w → Learns call u w
learns_both call u v w a b = record { met = met_both call u v w a.met b.met; sights = sights_both call u v w a.sights b.sights; all = keeps_both u v w a.all b.all }

pub stands_learns : (call : ℕ) (v w : PassState) → Stands call v w → Learns call v w
stands_learns call v w s = record {
  met = s.met;
  sights = sights_same call v w s.sights;
  all = record {
    numbers = s.numbers;
    mine = ap (λ (q : Knowledge). q.mine) s.knowledge;
    fulls = s.fulls;
    rebalances = s.rebalances;
    swept = s.swept;
    gones = begins_same v.findings.gones w.findings.gones s.gones;
    loaded = begins_same v.knowledge.loaded w.knowledge.loaded (ap (λ (q : Knowledge). q.loaded) s.knowledge);
    seen = λ k. begins_same (seen_of k v.knowledge) (seen_of k w.knowledge) (ap (seen_of k) s.knowledge);
    remembers = λ k at r x. subst (KnowsPlace k at r) (sym s.knowledge) x;
  };
}

pub stands_none : (call : ℕ) (v : PassState) → Stands call v v
stands_none call v = record { met = met_none call v; numbers = refl; knowledge = refl; fulls = refl; swept = refl; sights = refl; gones = refl; rebalances = refl }

pub learns_none : (call : ℕ) (v : PassState) → Learns call v v
learns_none call v = stands_learns call v v (stands_none call v)

pub stands_both : (call : ℕ) (u v w : PassState) → Stands call u v → Stands call v w → Stands call u w
stands_both call u v w a b = record {
  met = met_both call u v w a.met b.met;
  numbers = b.numbers ∙ a.numbers;
  knowledge = b.knowledge ∙ a.knowledge;
  fulls = b.fulls ∙ a.fulls;
  rebalances = b.rebalances ∙ a.rebalances;
  swept = b.swept ∙ a.swept;
  sights = b.sights ∙ a.sights;
  gones = b.gones ∙ a.gones;
}

-- calls are told of by the numbers of their passes' own calls
pub stands_in : (first now : ℕ) (v w : PassState) → now ≡ first → Stands now v w → Stands first v w
stands_in first now v w e s = subst (λ (k : ℕ). Stands k v w) e s

-- ---- steps

-- a step is met, as one of the call
met_after : (z : Sizes) (call : ℕ) (x : Step) (s : TableState) (v : PassState) → MetMore call v (state_after z call x s v)
met_after z call (load p) s v = record { more = _ ∷ []; met = refl; calls = (refl, tt) }
met_after z call (give_number k) s v = record { more = _ ∷ []; met = refl; calls = (refl, tt) }
met_after z call (on_arena a) s v = record { more = _ ∷ []; met = refl; calls = (refl, tt) }
met_after z call (on_headers x) s v = record { more = _ ∷ []; met = refl; calls = (refl, tt) }
met_after z call (on_rooms x) s v = record { more = _ ∷ []; met = refl; calls = (refl, tt) }
met_after z call (store_locked h c b k x) s v = record { more = _ ∷ []; met = refl; calls = (refl, tt) }
met_after z call (note_full lack began) s v = record { more = _ ∷ []; met = refl; calls = (refl, tt) }

pub step_met : (z : Sizes) (call : ℕ) (x : Step) (v : PassState) (n : ℕ) (w : PassState) → Told z call x v n w → MetMore call v w
step_met z call x v n w t = subst (MetMore call v) (sym t.after) (met_after z call x t.table v)

-- alone it is the whole of a call
abbrev pub step_alone : (z : Sizes) (call : ℕ) (x : Step) (v : PassState) (n : ℕ) (w : PassState) → Told z call x v n w → StepOfCall z call x v w
step_alone z call x v n w t = record { from = v; to = w; number = n; told = t; begun = met_none call v; ended = met_none call w }

-- a step of a call that began earlier, or ended later
abbrev pub step_since : (z : Sizes) (call : ℕ) (x : Step) (u v w : PassState) → MetMore call u v → StepOfCall z call x v w → StepOfCall z call x u w
step_since z call x u v w m s = record { from = s.from; to = s.to; number = s.number; told = s.told; begun = met_both call u v s.from m s.begun; ended = s.ended }

abbrev pub step_until : (z : Sizes) (call : ℕ) (x : Step) (v w t : PassState) → MetMore call w t → StepOfCall z call x v w → StepOfCall z call x v t
step_until z call x v w t m s = record { from = s.from; to = s.to; number = s.number; told = s.told; begun = s.begun; ended = met_both call s.to w t s.ended m }

-- a step of a part of a call, from v to w, is one of the call from u to t
abbrev pub step_in : (z : Sizes) (call : ℕ) (x : Step) (u v w t : PassState) → MetMore call u v → MetMore call w t → StepOfCall z call x v w → StepOfCall z call x u t
step_in z call x u v w t a b s = step_until z call x u w t b (step_since z call x u v w a s)
