-- What a step that may teach leaves of what its pass knows: it learned in the call, and forgot nothing.
use Rattle.std.proofs.Common.{◌≡◌, ℕ, Bool, true, false, List, [], ◌∷◌, ◌++◌, map, sym, refl, ap, ◌∙◌, subst, append_assoc}
use Rattle.oak_model.specs.Counts.{Begins, Has}
use Rattle.oak_model.specs.History.{StampsRise}
use Rattle.oak_model.specs.Limits.{Sizes}
use Rattle.oak_model.proofs.Lists.{at_map, begins_self}
use Rattle.oak_core.specs.declared.states.Findings.{Findings}
use Rattle.oak_core.specs.declared.states.Gone.{Gone}
use Rattle.oak_core.specs.declared.states.Knowledge.{Knowledge}
use Rattle.oak_core.specs.declared.states.PassState.{PassState}
use Rattle.oak_core.specs.declared.states.Sight.{Sight}
use Rattle.oak_core.specs.declared.states.Taught.{Taught}
use Rattle.oak_core.specs.CallSteps.{Learns, SightsMore}
use Rattle.oak_core.specs.KeyHistories.{writes_of}
use Rattle.oak_core.specs.KnownPlaces.{Remembers}
use Rattle.oak_core.specs.Learning.{lesson_by, lessons, reach_of, taught_where}
use Rattle.oak_core.specs.Lessons.{KnowsRemoval}
use Rattle.oak_core.specs.Memory.{Spot}
use Rattle.oak_core.specs.PassState.{Extends, history, knowledge_of, seen_of}
use Rattle.oak_core.specs.RebalanceSteps.{KeepsRooms}
use Rattle.oak_core.specs.Sights.{FoundOverSince, SightedSince, gones_with, sights_with}
use Rattle.oak_core.specs.Step.{Step, Told, load}
use Rattle.oak_core.proofs.calls.CallSteps.{begins_same, sights_same, step_met}
use Rattle.oak_core.proofs.known.PinsKnown.{has_first}
use Rattle.oak_core.proofs.told.PlainLoads.{gones_with_grow}
use Rattle.oak_core.proofs.known.Remembering.{remembers_more}
use Rattle.oak_core.proofs.lessons.TaughtReads.{taught_extends}

-- lists that a step may make longer

pub gones_more : (b : Bool) (call : ℕ) (key : List ℕ) (home : ℕ) (fs gs : Findings) → gs.gones ≡ gones_with b call key home fs → Begins fs.gones gs.gones
gones_more b call key home fs gs e = subst (Begins fs.gones) (sym e) (gones_with_grow call fs b key home)

sights_more : (b : Bool) (call : ℕ) (x : Taught) (v w : PassState) → w.findings.sights ≡ sights_with b call x v.findings → SightsMore call v w
sights_more true call x v w e = record { more = record { call = call; taught = x } ∷ []; sights = e; calls = (refl, tt) }
sights_more false call x v w e = sights_same call v w e

module _ (z : Sizes) (call : ℕ) (x : Step) (v : PassState) (n : ℕ) (w : PassState) (t : Told z call x v n w) (b : Bool) (y : Taught) (knowledge : w.knowledge ≡ taught_where b y (map knowledge_of t.table.states) v.knowledge) where
  abbrev qs : List Knowledge
  qs = map knowledge_of t.table.states

  pub loaded_same : w.knowledge.loaded ≡ v.knowledge.loaded
  loaded_same = ap (λ (q : Knowledge). q.loaded) knowledge

  pub seen_more : Begins v.knowledge.seen w.knowledge.seen
  seen_more = subst (λ (q : Knowledge). Begins v.knowledge.seen q.seen) (sym knowledge) (by b)
    where
      by : (b : Bool) → Begins v.knowledge.seen (taught_where b y qs v.knowledge).seen
      by true = (lessons (reach_of y) qs, refl)
      by false = begins_self v.knowledge.seen

  pub heard_more : Begins v.knowledge.heard w.knowledge.heard
  heard_more = subst (λ (q : Knowledge). Begins v.knowledge.heard q.heard) (sym knowledge) (by b)
    where
      by : (b : Bool) → Begins v.knowledge.heard (taught_where b y qs v.knowledge).heard
      by true = (lesson_by y qs ∷ [], refl)
      by false = begins_self v.knowledge.heard

  rise : (k : ℕ) → StampsRise 0 (writes_of (history k (map knowledge_of t.table.states)))
  rise k = (t.rule.keys.legal k).legal.stamps

  pub taught_seen : Extends v w
  taught_seen = by b knowledge
    where
      by : (b : Bool) → w.knowledge ≡ taught_where b y qs v.knowledge → Extends v w
      by true e = taught_extends y qs t.rule.histories rise t.seat v.knowledge (at_map knowledge_of t.table.states t.seat v t.here) w (ap (λ (q : Knowledge). q.seen) e)
      by false e = λ k. begins_same (seen_of k v.knowledge) (seen_of k w.knowledge) (ap (seen_of k) e)

  pub taught_remembers : Remembers v.knowledge w.knowledge
  taught_remembers = remembers_more v.knowledge w.knowledge heard_more.0 heard_more.1

  -- where all else that a call that writes nothing leaves stays
  pub step_learns : (c : Bool) → w.findings.sights ≡ sights_with c call y v.findings → w.numbers ≡ v.numbers → w.findings.fulls ≡ v.findings.fulls → w.findings.swept ≡ v.findings.swept → Begins v.findings.gones w.findings.gones → KeepsRooms v w → Learns call v w
  step_learns c sights numbers fulls swept gones rebalances = record {
    met = step_met z call x v n w t;
    sights = sights_more c call y v w sights;
    all = record {
      numbers = numbers;
      mine = ap (λ (q : Knowledge). q.mine) knowledge;
      fulls = fulls;
      rebalances = rebalances;
      swept = swept;
      gones = gones;
      loaded = begins_same v.knowledge.loaded w.knowledge.loaded (ap (λ (q : Knowledge). q.loaded) knowledge);
      seen = taught_seen;
      remembers = taught_remembers;
    };
  }

-- a load leaves all that
pub load_learns : (z : Sizes) (call : ℕ) (p : Spot) (v : PassState) (n : ℕ) (w : PassState) (t : Told z call (load p) v n w) (b : Bool) (y : Taught) → w.knowledge ≡ taught_where b y (map knowledge_of t.table.states) v.knowledge → (c : Bool) → w.findings.sights ≡ sights_with c call y v.findings → Learns call v w
load_learns z call p v n w t b y knowledge c sights = step_learns z call (load p) v n w t b y knowledge c sights (ap (λ (u : PassState). u.numbers) t.after) (ap (λ (u : PassState). u.findings.fulls) t.after) (ap (λ (u : PassState). u.findings.swept) t.after)
    (begins_same v.findings.gones w.findings.gones (ap (λ (u : PassState). u.findings.gones) t.after)) (ap (λ (u : PassState). u.findings.rebalances) t.after)

-- what was found and what is known stays so while the lists grow

pub removal_stays : (k home stamp : ℕ) (q q' : Knowledge) → Begins q.heard q'.heard → KnowsRemoval k home stamp q → KnowsRemoval k home stamp q'
removal_stays k home stamp q q' b x = record { lesson = x.lesson; there = subst (Has x.lesson) (sym b.1) (has_first q.heard b.0 x.lesson x.there); covers = x.covers; removed = x.removed }

pub sighted_later : (k at : ℕ) (fs gs hs : Findings) → Begins gs.sights hs.sights → SightedSince k at fs gs → SightedSince k at fs hs
sighted_later k at fs gs hs b s = (s.0 ++ b.0, b.1 ∙ (ap (λ (l : List Sight). l ++ b.0) s.1 ∙ append_assoc fs.sights s.0 b.0), record { sight = s.2.sight; there = has_first s.0 b.0 s.2.sight s.2.there; just = s.2.just })

pub over_later : (home : ℕ) (key : List ℕ) (fs gs hs : Findings) → Begins gs.gones hs.gones → FoundOverSince home key fs gs → FoundOverSince home key fs hs
over_later home key fs gs hs b s = (s.0 ++ b.0, b.1 ∙ (ap (λ (l : List Gone). l ++ b.0) s.1 ∙ append_assoc fs.gones s.0 b.0), record { gone = s.2.gone; there = has_first s.0 b.0 s.2.gone s.2.there; home_is = s.2.home_is; key_is = s.2.key_is })
