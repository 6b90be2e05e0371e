-- A removal is behind all that was seen while its life was the last one, so the key was read absent there. And the place of a write.
use Rattle.std.proofs.Common.{◌≡◌, ◌≢◌, ℕ, suc, ◌+◌, ◌*◌, ◌<◌, ◌≤◌, Bool, true, false, List, [], ◌∷◌, ◌++◌, length, sym, refl, ap, ◌∙◌, inl, inr, arith, None}
use mathlib.Core.Logic.{dite}
use native.Mathlib.Decide.{ℕ_discrete}
use Rattle.oak_model.specs.Counts.{one_at, one_if, total, Has, Begins}
use Rattle.oak_model.specs.History.{StampsRise, place_of}
use Rattle.oak_model.specs.KeyNumber.{key_number}
use Rattle.oak_model.specs.State.{State}
use Rattle.oak_model.proofs.Counting.{one_at-same, total_append}
use Rattle.oak_core.specs.declared.states.KeyedWrite.{KeyedWrite}
use Rattle.oak_core.specs.declared.states.Knowledge.{Knowledge}
use Rattle.oak_core.specs.declared.states.Lesson.{Lesson}
use Rattle.oak_core.specs.declared.states.PassState.{PassState}
use Rattle.oak_core.specs.Callers.{begins}
use Rattle.oak_core.specs.KeyHistories.{writes_of, last_of, home_behind, stamp_behind, before, is_absent, LivesFollow, IsRemovedAt, homes_in}
use Rattle.oak_core.specs.KnownPlaces.{KnowsPlace, ReadAt}
use Rattle.oak_core.specs.Learning.{write_lesson, reach_of}
use Rattle.oak_core.specs.Lessons.{LessonStands}
use Rattle.oak_core.specs.PassState.{seen_of}
use Rattle.oak_core.proofs.histories.HomeKeys.{lives_begin}
use Rattle.oak_core.proofs.known.KnownPlaces.{heard_place, seen_place, place_length, place_end}
use Rattle.oak_core.proofs.known.KnownReads.{same_state}
use Rattle.oak_core.proofs.histories.Removals.{removed_state, stamp_above}
use Rattle.oak_core.proofs.histories.WritesBelow.{before-cases, before_whole}

-- the last life of some writes began in them, where it is not the one before
last_home : (v home : ℕ) (h : List KeyedWrite) → home ≢ v → last_of (λ (w : KeyedWrite). w.home) home h ≡ v → 0 < homes_in v h
unfolding last_of total
last_home v home [] ne e = absurd (ne e)
last_home v home (x ∷ xs) ne e = dite (ℕ_discrete x.home v) (λ q. let o = one_at-same x.home v q in omega arith) (λ no. let t = last_home v x.home xs no e in omega arith)

pub begun : (v : ℕ) (s : State) (home : ℕ) (h : List KeyedWrite) → LivesFollow s home h → home ≢ v → last_of (λ (w : KeyedWrite). w.home) home h ≡ v → 0 < total (begins v) h
begun v s home h l ne e = lives_begin v s home h l (λ q. ne (sym q)) (last_home v home h ne e)

-- a first part of writes that follow lives does so
pub lives_first : (s : State) (home : ℕ) (a b : List KeyedWrite) → LivesFollow s home (a ++ b) → LivesFollow s home a
lives_first s home [] b l = tt
lives_first s home (x ∷ xs) b l = (l.0, l.1, l.2, lives_first x.write.after x.home xs b l.3)

-- one more place for a write at or below the number
place_more : (n : ℕ) (x : KeyedWrite) (xs : List KeyedWrite) → x.write.stamp ≤ n → place_of (writes_of (x ∷ xs)) n ≡ suc (place_of (writes_of xs) n)
unfolding before
place_more n x xs l = place_length n (x ∷ xs) ∙ (before-cases (suc n) x xs (λ t. length t ≡ suc (length (before (suc n) xs))) (λ _. refl) (λ high. absurd (omega arith)) ∙ ap suc (sym (place_length n xs)))

removal_past : (v n b s0 home : ℕ) (s : State) (a more : List KeyedWrite) → LivesFollow s home (a ++ more) → StampsRise s0 (writes_of (a ++ more)) → (home ≡ v → 1 ≤ b) → b + total (begins v) (a ++ more) ≤ 1
    → last_of (λ (w : KeyedWrite). w.home) home a ≡ v → (w : KeyedWrite) → Has w (a ++ more) → w.home ≡ v → w.write.after ≡ None → w.write.stamp ≡ n → length a ≤ place_of (writes_of (a ++ more)) n
unfolding total last_of
removal_past v n b s0 home s [] more l r was once e w m hw gone stamp = omega arith
removal_past v n b s0 home s (x ∷ xs) more l r was once e w (inl same) hw gone stamp =
    let p = place_more n x (xs ++ more) (let q = ap (λ (y : KeyedWrite). y.write.stamp) same in omega arith) in let k = rest xs l.3 e once in omega arith
  where
    x_home : x.home ≡ v
    x_home = sym (ap (λ (y : KeyedWrite). y.home) same) ∙ hw

    x_gone : x.write.after ≡ None
    x_gone = sym (ap (λ (y : KeyedWrite). y.write.after) same) ∙ gone

    started : 1 ≤ b + begins v x
    started = by x.inserts refl
      where
        by : (i : Bool) → x.inserts ≡ i → 1 ≤ b + begins v x
        by true q = let o = one_at-same x.home v x_home in let t : begins v x ≡ 1 = ap (λ (y : Bool). one_if y * one_at x.home v) q ∙ (let u : 1 * one_at x.home v ≡ 1 = omega arith in u) in omega arith
        by false q = let t = was (sym (l.2 q) ∙ x_home) in omega arith

    rest : (ys : List KeyedWrite) → LivesFollow x.write.after x.home (ys ++ more) → last_of (λ (w : KeyedWrite). w.home) x.home ys ≡ v → b + (begins v x + total (begins v) (ys ++ more)) ≤ 1 → length ys ≤ 0
    rest [] f q o = omega arith
    rest (y ∷ ys) f q o = let i : y.inserts ≡ true = f.0 ∙ ap is_absent x_gone in let t = started in
        dite (ℕ_discrete y.home v)
        (λ d. let g = one_at-same y.home v d in let u : begins v y ≡ 1 = ap (λ (z : Bool). one_if z * one_at y.home v) i ∙ (let k : 1 * one_at y.home v ≡ 1 = omega arith in k) in absurd (omega arith))
        (λ no. let g = begun v y.write.after y.home ys (lives_first y.write.after y.home ys more f.3) no q in let c = total_append (begins v) ys more in absurd (omega arith))
removal_past v n b s0 home s (x ∷ xs) more l r was once e w (inr m) hw gone stamp =
    let t = removal_past v n (b + begins v x) x.write.stamp x.home x.write.after xs more l.3 r.1 begun_now (omega arith) e w m hw gone stamp in
    let above = stamp_above x.write.stamp (xs ++ more) w r.1 m in let p = place_more n x (xs ++ more) (omega arith) in omega arith
  where
    begun_now : x.home ≡ v → 1 ≤ b + begins v x
    begun_now d = by x.inserts refl
      where
        by : (i : Bool) → x.inserts ≡ i → 1 ≤ b + begins v x
        by true q = let o = one_at-same x.home v d in let t : begins v x ≡ 1 = ap (λ (y : Bool). one_if y * one_at x.home v) q ∙ (let u : 1 * one_at x.home v ≡ 1 = omega arith in u) in omega arith
        by false q = let t = was (sym (l.2 q) ∙ d) in omega arith

-- The place of a life's removal is not before the end of what stood while it was the last life.
pub removal_behind : (v n : ℕ) (a more : List KeyedWrite) → v ≢ 0 → LivesFollow None 0 (a ++ more) → StampsRise 0 (writes_of (a ++ more)) → total (begins v) (a ++ more) ≤ 1 → home_behind a ≡ v → IsRemovedAt v n (a ++ more) → length a ≤ place_of (writes_of (a ++ more)) n
removal_behind v n a more ne l r once e x = removal_past v n 0 0 0 None a more l r (λ q. absurd (ne (sym q))) (omega arith) e x.write x.there x.home_is x.after x.stamp_is

-- So under a pin that found the header dead the key was read absent at the stamp, whatever came behind it.
pub removal_read : (level : ℕ → ℕ) (hist : ℕ → List KeyedWrite) (k n home : ℕ) (v w : PassState) (l : Lesson) → Has l w.knowledge.heard → n < reach_of l.taught k → LessonStands level hist w.knowledge l → StampsRise 0 (writes_of (hist k))
    → Begins (seen_of k w.knowledge) (hist k) → IsRemovedAt home n (hist k) → length (seen_of k v.knowledge) ≤ place_of (writes_of (hist k)) n → ReadAt k n None v w
unfolding before
removal_read level hist k n home v w l there covers stands rise begins_so x from = record {
  place = place_of (writes_of (hist k)) n;
  known = record { lesson = l; there = there; covers = covers; place = heard_place level hist w.knowledge k rise begins_so l stands n covers };
  from = from;
  to = to;
  state = sym (same_state (seen_of k w.knowledge) (hist k) (place_of (writes_of (hist k)) n) begins_so to) ∙ removed_state home n (hist k) rise x;
}
  where
    to : place_of (writes_of (hist k)) n ≤ length (seen_of k w.knowledge)
    to = let p = sym (seen_place level hist w.knowledge k rise begins_so l stands n covers) ∙ place_length n (seen_of k w.knowledge) in let s = shorter (suc n) (seen_of k w.knowledge) in omega arith
      where
        shorter : (m : ℕ) (h : List KeyedWrite) → length (before m h) ≤ length h
        shorter m [] = omega arith
        shorter m (y ∷ ys) = let t = shorter m ys in before-cases m y ys (λ z. length z ≤ suc (length ys)) (λ _. omega arith) (λ _. omega arith)

-- a write's place is the end of its key's history then
pub wrote_known : (level : ℕ → ℕ) (hist : ℕ → List KeyedWrite) (qs : List Knowledge) (q : Knowledge) (w : KeyedWrite) (h : List KeyedWrite) → LessonStands level hist q (write_lesson w h) → Has (write_lesson w h) q.heard → hist (key_number w.key) ≡ h ++ w ∷ [] → StampsRise 0 (writes_of (h ++ w ∷ []))
    → stamp_behind (h ++ w ∷ []) ≡ w.write.stamp → KnowsPlace (key_number w.key) w.write.stamp (length (h ++ w ∷ [])) q
wrote_known level hist qs q w h s there e rise last = let reach = reach_of-here in record {
  lesson = write_lesson w h;
  there = there;
  covers = omega arith;
  place = ap (λ (l : List KeyedWrite). place_of (writes_of l) w.write.stamp) (s.writes (key_number w.key) ∙ (ap (λ (n : ℕ). before n (hist (key_number w.key))) reach ∙ (ap (before (suc w.write.stamp)) e ∙ (before_whole (suc w.write.stamp) 0 (h ++ w ∷ []) rise (omega arith)).1))) ∙ place_end w.write.stamp (h ++ w ∷ []) rise (omega arith);
}
  where
    reach_of-here : reach_of (write_lesson w h).taught (key_number w.key) ≡ suc w.write.stamp
    reach_of-here = ap (λ (t : ℕ). t * suc w.write.stamp) (one_at-same (key_number w.key) (key_number w.key) refl) ∙ (let u : 1 * suc w.write.stamp ≡ suc w.write.stamp = omega arith in u)
