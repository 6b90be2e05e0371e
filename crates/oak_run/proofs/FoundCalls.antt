-- What a call found is noted as found in it: the number of a key, and the life that is over, whose removal stands in what the pass has seen.
use Rattle.std.proofs.Common.{◌≡◌, ℕ, suc, ◌≤◌, Bool, true, false, cond, List, [], ◌∷◌, ◌++◌, length, map, sym, refl, ap, ◌∙◌, subst, inl, inr, arith, append-nil}
use Rattle.std.specs.Prelude.{nat_le}
use Rattle.std.proofs.lemmas.List.{append_cancel_left}
use mathlib.Core.Option.{some}
use lib.ListN.{get_elem?}
use Rattle.oak_model.specs.Counts.{Begins, Has}
use Rattle.oak_model.specs.History.{History, place_of}
use Rattle.oak_model.specs.Limits.{Sizes}
use Rattle.oak_model.proofs.Counting.{test-cases}
use Rattle.oak_model.proofs.Lists.{at_map}
use Rattle.oak_model.proofs.MemberLaws.{each_has}
use Rattle.oak_core.specs.declared.states.Findings.{Findings}
use Rattle.oak_core.specs.declared.states.Gone.{Gone}
use Rattle.oak_core.specs.declared.states.KeyedWrite.{KeyedWrite}
use Rattle.oak_core.specs.declared.states.Knowledge.{Knowledge}
use Rattle.oak_core.specs.declared.states.PassState.{PassState}
use Rattle.oak_core.specs.declared.states.Sight.{Sight}
use Rattle.oak_core.specs.AloneWords.{Moment}
use Rattle.oak_core.specs.CallSteps.{SightsMore}
use Rattle.oak_core.specs.HeaderTeaching.{finds_over}
use Rattle.oak_core.specs.KeyHistories.{IsRemovedAt, writes_of}
use Rattle.oak_core.specs.KeyReads.{history_now, home_of, level_now}
use Rattle.oak_core.specs.KnownPlaces.{KnowsPlace}
use Rattle.oak_core.specs.Learning.{heard_of, reach_of}
use Rattle.oak_core.specs.Lessons.{KnowsRemoval, LessonStands}
use Rattle.oak_core.specs.LifeKeys.{key_known, key_or}
use Rattle.oak_core.specs.Memory.{Memory, memory}
use Rattle.oak_core.specs.PassState.{knowledge_of, seen_of}
use Rattle.oak_core.specs.Sights.{FoundOverSince, SightedSince, gones_with}
use Rattle.oak_core.proofs.histories.Histories.{seen_stands}
use Rattle.oak_core.proofs.known.KnownPlaces.{each_is}
use Rattle.oak_core.proofs.known.PinsKnown.{has_first, has_later}
use Rattle.oak_core.proofs.lessons.TaughtReads.{begins_shorter}
use Rattle.oak_core.proofs.histories.WritesBelow.{before_first}
use Rattle.value_ops.specs.declared.pinning.BadPin.{BadPin}
use Rattle.value_ops.specs.declared.pinning.BadPin.TheVariants.{Dead, Locked, Other}
use Rattle.value_ops.specs.Pinning.{LooksUnder}
use Rattle.value_ops.specs.Views.{Viewed}
use Rattle.oak_map.specs.Lending.{FindsOver}
use Rattle.oak_run.specs.Shown.{OverIn, SightedIn}

pub has_longer : {A : Type 0} (a b : List A) (x : A) → Begins a b → Has x a → Has x b
has_longer a b x more has = subst (Has x) (sym more.1) (has_first a more.0 x has)

-- ---- numbers

-- a number that was found since, where all that was noted since is of the call
pub sighted_in : (n k at : ℕ) (v w : PassState) → SightsMore n v w → SightedSince k at v.findings w.findings → (l : List Sight) → Begins w.findings.sights l → SightedIn n k at false l
sighted_in n k at v w s f l more = record {
  sight = f.2.sight;
  there = has_longer w.findings.sights l f.2.sight more (subst (Has f.2.sight) (sym f.1) (has_later v.findings.sights f.0 f.2.sight f.2.there));
  call_is = each_has (λ (x : Sight). x.call ≡ n) s.more f.2.sight s.calls (subst (Has f.2.sight) (append_cancel_left v.findings.sights f.0 s.more (sym f.1 ∙ s.sights)) f.2.there);
  just = f.2.just;
  bare_is = λ e. absurd cc;
}

-- ---- lives that are over

noted_in : (b : Bool) (call : ℕ) (key : List ℕ) (home : ℕ) (fs : Findings) (more : List Gone) → gones_with b call key home fs ≡ fs.gones ++ more → (g : Gone) → Has g more → g.call ≡ call
noted_in true call key home fs more e g has = by (subst (Has g) (sym (append_cancel_left fs.gones (record { call = call; home = home; key = key } ∷ []) more e)) has)
  where
    by : Has g (record { call = call; home = home; key = key } ∷ []) → g.call ≡ call
    by (inl same) = ap (λ (x : Gone). x.call) same
    by (inr none) = absurd none
noted_in false call key home fs more e g has = absurd (by (subst (Has g) (sym (append_cancel_left fs.gones [] more (append-nil fs.gones ∙ e))) has))
  where
    by : Has g [] → ⊥
    by none = none

looked_gones : (z : Sizes) (call h : ℕ) (cause : BadPin) (m : Memory) (u x : PassState) → LooksUnder z call h cause m u x → x.findings.gones ≡ u.findings.gones
looked_gones z call h Locked m u x e = ap (λ (q : PassState). q.findings.gones) e
looked_gones z call h (Dead stamp) m u x l = ap (λ (q : PassState). q.findings.gones) l.0.told.after
looked_gones z call h Other m u x e = ap (λ (q : PassState). q.findings.gones) e

-- the life that a look found over was noted in the call
pub over_in : (z : Sizes) (n : ℕ) (x : Viewed) (v w : PassState) → FindsOver z n x v w → (l : List Gone) → Begins w.findings.gones l → OverIn n x.key (home_of x.header x.generation) l
over_in z n x v w f l more = record {
  gone = o.2.gone;
  there = has_longer w.findings.gones l o.2.gone more (subst (Has o.2.gone) (sym o.1) (has_later v.findings.gones o.0 o.2.gone o.2.there));
  call_is = noted_in over n key (home_of x.header x.generation) f.tried.findings o.0 (sym noted ∙ (o.1 ∙ ap (λ (g : List Gone). g ++ o.0) (sym (ap (λ (q : PassState). q.findings.gones) f.tries.after)))) o.2.gone o.2.there;
  key_is = o.2.key_is;
  home_is = o.2.home_is;
}
  where
    o : FoundOverSince (home_of x.header x.generation) x.key v.findings w.findings
    o = f.gone.1.over

    over : Bool
    over = finds_over x.header x.generation ((memory z f.not_read.dud.told.table.words).headers.pin x.header) f.tried.knowledge

    key : List ℕ
    key = key_or (key_known x.header x.generation f.tried.knowledge)

    noted : w.findings.gones ≡ gones_with over n key (home_of x.header x.generation) f.tried.findings
    noted = ap (λ (q : PassState). q.findings.gones) f.not_read.dud.undone.meets.after
        ∙ (looked_gones z n x.header f.not_read.cause (memory z f.not_read.dud.told.table.words) f.not_read.dud.pinned f.not_read.dud.looked f.not_read.dud.looks ∙ ap (λ (q : PassState). q.findings.gones) f.not_read.dud.told.after)

-- ---- removals

pub place_most : (at : ℕ) (h : History) → place_of h at ≤ length h
place_most at [] = omega arith
place_most at (w ∷ ws) = let t = place_most at ws in test-cases (nat_le w.stamp at) (λ b. cond b (suc (place_of ws at)) (place_of ws at) ≤ suc (length ws)) (λ _. omega arith) (λ _. omega arith)

writes_length : (h : List KeyedWrite) → length (writes_of h) ≡ length h
writes_length [] = refl
writes_length (x ∷ xs) = ap suc (writes_length xs)

-- the place of a removal that a pass has heard
abbrev pub removal_place : (k home stamp : ℕ) (q : Knowledge) → KnowsRemoval k home stamp q → ℕ
removal_place k home stamp q r = place_of (writes_of (heard_of k r.lesson)) stamp

pub removal_known : (k home stamp : ℕ) (q : Knowledge) (r : KnowsRemoval k home stamp q) → KnowsPlace k stamp (removal_place k home stamp q r) q
removal_known k home stamp q r = record { lesson = r.lesson; there = r.there; covers = r.covers; place = refl }

-- the removal stands in what the pass has seen, so its place is one of that
module _ (z : Sizes) (words : List ℕ) (v : PassState) (m : Moment z words v) (k home stamp : ℕ) (r : KnowsRemoval k home stamp v.knowledge) where
  q_here : get_elem? (map knowledge_of m.states) m.seat ≡ some v.knowledge
  q_here = at_map knowledge_of m.states m.seat v m.here

  stands : LessonStands (level_now z (memory z words) m.states) (history_now m.states) v.knowledge r.lesson
  stands = each_is (level_now z (memory z words) m.states) (history_now m.states) v.knowledge v.knowledge.heard r.lesson (m.rule.heard.lessons m.seat v.knowledge q_here) r.there

  heard : Begins (heard_of k r.lesson) (history_now m.states k)
  heard = subst (λ (l : List KeyedWrite). Begins l (history_now m.states k)) (sym (stands.writes k)) (before_first (reach_of r.lesson.taught k) 0 (history_now m.states k) (m.rule.keys.legal k).legal.stamps)

  pub removal_seen : IsRemovedAt home stamp (seen_of k v.knowledge)
  removal_seen = record {
    write = r.removed.write;
    there = has_longer (heard_of k r.lesson) (seen_of k v.knowledge) r.removed.write (begins_shorter (heard_of k r.lesson) (seen_of k v.knowledge) (history_now m.states k) heard (seen_stands (map knowledge_of m.states) m.rule.histories k m.seat v.knowledge q_here) (stands.seen k)) r.removed.there;
    home_is = r.removed.home_is;
    after = r.removed.after;
    stamp_is = r.removed.stamp_is;
  }

  pub removal_within : removal_place k home stamp v.knowledge r ≤ length (seen_of k v.knowledge)
  removal_within = let p = place_most stamp (writes_of (heard_of k r.lesson)) in let n = writes_length (heard_of k r.lesson) in let s = stands.seen k in omega arith
