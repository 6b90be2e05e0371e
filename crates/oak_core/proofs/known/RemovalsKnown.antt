-- A pin that found a header dead knows the removal of its life, so a load of the stamp under it teaches of that life's key up to the removal.
use Rattle.std.proofs.Common.{◌≡◌, ◌≢◌, ℕ, suc, ◌+◌, ◌-◌, ◌<◌, ◌≤◌, List, [], ◌∷◌, ◌++◌, map, length, sym, refl, ap, ◌∙◌, subst, inl, inr, ⊎_elim, arith, None, append_assoc, length-append}
use mathlib.Core.Logic.{dite}
use mathlib.Core.Option.{some}
use native.Mathlib.Decide.{dec_le}
use lib.ListN.{get_elem?}
use Rattle.pin_word.specs.PinWord.{state_of}
use Rattle.oak_model.specs.Counts.{total, Has}
use Rattle.oak_model.specs.History.{StampsRise, place_of}
use Rattle.oak_model.specs.KeyNumber.{key_number}
use Rattle.oak_model.specs.Limits.{Sizes}
use Rattle.oak_model.specs.State.{State}
use Rattle.oak_model.proofs.Counting.{one_at-same}
use Rattle.header_core.specs.Headers.{HeaderMemory}
use Rattle.header_core.specs.declared.states.TheConstants.{DEAD}
use Rattle.chunk_core.specs.ValueWord.{names_header, header_in}
use Rattle.oak_core.specs.declared.states.KeyedWrite.{KeyedWrite}
use Rattle.oak_core.specs.declared.states.Knowledge.{Knowledge}
use Rattle.oak_core.specs.declared.states.PassState.{PassState}
use Rattle.oak_core.specs.Callers.{begins, CallersAgree}
use Rattle.oak_core.specs.KeyHistories.{writes_of, last_of, home_behind, stamp_behind, state_behind, before, LivesFollow, IsKeyHistory, IsRemovedAt, homes_in, removed_at}
use Rattle.oak_core.specs.KeyStates.{KeyStands}
use Rattle.oak_core.specs.Learning.{reach_of, lesson_by, of_key_to}
use Rattle.oak_core.specs.Lessons.{LessonsStand, KnowsRemoval}
use Rattle.oak_core.specs.PassState.{history, knowledge_of}
use Rattle.oak_core.specs.Rule.{HistoriesStand}
use Rattle.oak_core.proofs.histories.HistoryEnds.{last_snoc}
use Rattle.oak_core.proofs.histories.HomeKeys.{home_key}
use Rattle.oak_core.proofs.known.KnownPlaces.{each_is, place_length}
use Rattle.oak_core.proofs.lessons.LessonLaws.{heard_taught}
use Rattle.oak_core.proofs.lessons.LessonReach.{reach_here}
use Rattle.oak_core.proofs.histories.Removals.{removed_at_is, removed_at_some}
use Rattle.oak_core.proofs.known.RemovedReads.{removal_behind}
use Rattle.oak_core.proofs.histories.WritesBelow.{before-cases, before_append, none_behind}

-- what is below n is there, and what is there with a lower stamp is below n

has_before : (n : ℕ) (h : List KeyedWrite) (w : KeyedWrite) → Has w (before n h) → Has w h
unfolding before
has_before n [] w m = m
has_before n (x ∷ xs) w m = let more = has_before n xs w in before-cases n x xs (λ t. Has w t → Has w (x ∷ xs)) (λ _ q. ⊎_elim (λ (e : w ≡ x). inl e) (λ (r : Has w (before n xs)). inr (more r)) q) (λ _ q. inr (more q)) m

below_has : (n : ℕ) (h : List KeyedWrite) (w : KeyedWrite) → Has w h → w.write.stamp < n → Has w (before n h)
unfolding before
below_has n [] w m l = m
below_has n (x ∷ xs) w (inl e) l = before-cases n x xs (Has w) (λ _. inl e) (λ high. absurd (let q = ap (λ (y : KeyedWrite). y.write.stamp) e in omega arith))
below_has n (x ∷ xs) w (inr m) l = before-cases n x xs (Has w) (λ _. inr (below_has n xs w m l)) (λ _. below_has n xs w m l)

-- at any moment the removal that is known stands in the history
pub known_removal : (level : ℕ → ℕ) (hist : ℕ → List KeyedWrite) (k home n : ℕ) (q : Knowledge) → LessonsStand level hist q → KnowsRemoval k home n q → IsRemovedAt home n (hist k)
known_removal level hist k home n q all x = let s = each_is level hist q q.heard x.lesson all x.there in let r = x.removed in record {
  write = r.write;
  there = has_before (reach_of x.lesson.taught k) (hist k) r.write (subst (Has r.write) (s.writes k) r.there);
  home_is = r.home_is;
  after = r.after;
  stamp_is = r.stamp_is;
}

-- a life is removed once

parted : (h : List KeyedWrite) (w : KeyedWrite) → Has w h → (a : List KeyedWrite) × (b : List KeyedWrite) × (h ≡ a ++ w ∷ b)
parted [] w m = absurd m
parted (x ∷ xs) w (inl e) = ([], xs, (λ i. sym e i ∷ xs))
parted (x ∷ xs) w (inr m) = let t = parted xs w m in (x ∷ t.0, t.1, ap (λ (l : List KeyedWrite). x ∷ l) t.2)

shorter : (m : ℕ) (h : List KeyedWrite) → length (before m h) ≤ length h
unfolding before
shorter m [] = omega arith
shorter m (y ∷ ys) = let t = shorter m ys in before-cases m y ys (λ z. length z ≤ suc (length ys)) (λ _. omega arith) (λ _. omega arith)

rise_behind : (s : ℕ) (a : List KeyedWrite) (w : KeyedWrite) (b : List KeyedWrite) → StampsRise s (writes_of (a ++ w ∷ b)) → StampsRise w.write.stamp (writes_of b)
rise_behind s [] w b r = r.1
rise_behind s (x ∷ xs) w b r = rise_behind x.write.stamp xs w b r.1

-- a place that is past a write is that of a number not below its stamp
place_past : (n : ℕ) (a : List KeyedWrite) (w : KeyedWrite) (b : List KeyedWrite) → StampsRise 0 (writes_of (a ++ w ∷ b)) → suc (length a) ≤ place_of (writes_of (a ++ w ∷ b)) n → w.write.stamp ≤ n
unfolding before
place_past n a w b r l = dite (dec_le w.write.stamp n) (λ le. le) (λ no. absurd (let p = place_length n (a ++ w ∷ b) in let q = ap length (before_append (suc n) a (w ∷ b)) in let c = length-append (before (suc n) a) (before (suc n) (w ∷ b)) in
    let z : before (suc n) (w ∷ b) ≡ [] = before-cases (suc n) w b (λ t. t ≡ []) (λ low. absurd (omega arith)) (λ _. none_behind (suc n) w.write.stamp b (rise_behind 0 a w b r) (omega arith)) in let d = ap length z in let s = shorter (suc n) a in omega arith))

module _ (v : ℕ) (h : List KeyedWrite) (ne : v ≢ 0) (lives : LivesFollow None 0 h) (rise : StampsRise 0 (writes_of h)) (once : total (begins v) h ≤ 1) where
  not_before : (n j : ℕ) → IsRemovedAt v n h → IsRemovedAt v j h → n ≤ j
  not_before n j x y = let t = parted h x.write x.there in let a = t.0 ++ x.write ∷ [] in let e : h ≡ (t.0 ++ x.write ∷ []) ++ t.1 = t.2 ∙ sym (append_assoc t.0 (x.write ∷ []) t.1) in
      let b = removal_behind v j (t.0 ++ x.write ∷ []) t.1 ne (subst (LivesFollow None 0) e lives) (subst (λ (l : List KeyedWrite). StampsRise 0 (writes_of l)) e rise) (subst (λ (l : List KeyedWrite). total (begins v) l ≤ 1) e once) (last_snoc (λ w. w.home) 0 t.0 x.write ∙ x.home_is) (subst (IsRemovedAt v j) e y) in
      let c = length-append t.0 (x.write ∷ []) in let p = ap (λ (l : List KeyedWrite). place_of (writes_of l) j) (sym e ∙ t.2) in
      let q = place_past j t.0 x.write t.1 (subst (λ (l : List KeyedWrite). StampsRise 0 (writes_of l)) t.2 rise) (omega arith) in let s = x.stamp_is in omega arith

  pub removal_once : (n j : ℕ) → IsRemovedAt v n h → IsRemovedAt v j h → n ≡ j
  removal_once n j x y = let a = not_before n j x y in let b = not_before j n y x in omega arith

  -- so the one that a step reads off the history is it
  pub removed_at_once : (n : ℕ) → IsRemovedAt v n h → removed_at v h - 1 ≡ n
  removed_at_once n x = removal_once (removed_at v h - 1) n (removed_at_is v h (some_removed h x.write x.there x.home_is x.after)) x
    where
      some_removed : (h : List KeyedWrite) (w : KeyedWrite) → Has w h → w.home ≡ v → w.write.after ≡ None → 0 < removed_at v h
      some_removed h w m hw gone = removed_at_some v h w m hw gone

-- the last write of a life that is over, while its entry names it still
pub last_removed : (v : ℕ) (h : List KeyedWrite) → v ≢ 0 → home_behind h ≡ v → state_behind h ≡ None → IsRemovedAt v (stamp_behind h) h
unfolding last_of
last_removed v h ne home gone = by h refl
  where
    by : (l : List KeyedWrite) → h ≡ l → IsRemovedAt v (stamp_behind h) h
    by [] e = absurd (ne (sym home ∙ ap home_behind e))
    by (x ∷ xs) e = subst (λ (l : List KeyedWrite). home_behind l ≡ v → state_behind l ≡ None → IsRemovedAt v (stamp_behind l) l) (sym e) (last x xs) home gone
      where
        last : (x : KeyedWrite) (xs : List KeyedWrite) → home_behind (x ∷ xs) ≡ v → state_behind (x ∷ xs) ≡ None → IsRemovedAt v (stamp_behind (x ∷ xs)) (x ∷ xs)
        last x [] hw s = record { write = x; there = inl refl; home_is = hw; after = s; stamp_is = refl }
        last x (y ∷ ys) hw s = let t = last y ys hw s in record { write = t.write; there = inr t.there; home_is = t.home_is; after = t.after; stamp_is = t.stamp_is }

-- A pin that finds the header dead knows it, by the lesson that it is taught.
pub pin_removal : (qs : List Knowledge) (rule : HistoriesStand qs) (rise : (k : ℕ) → StampsRise 0 (writes_of (history k qs))) (i : ℕ) (q w : Knowledge) (here : get_elem? qs i ≡ some q) (key : List ℕ) (home n : ℕ)
    → IsRemovedAt home n (history (key_number key) qs) → Has (lesson_by (of_key_to key n) qs) w.heard → KnowsRemoval (key_number key) home n w
pin_removal qs rule rise i q w here key home n x there = let e = heard_taught (of_key_to key n) qs rule rise i q here (key_number key) in let r = reach_here key n in record {
  lesson = lesson_by (of_key_to key n) qs;
  there = there;
  covers = omega arith;
  removed = record {
    write = x.write;
    there = subst (Has x.write) (sym (e ∙ ap (λ (t : ℕ). before t (history (key_number key) qs)) r)) (below_has (suc n) (history (key_number key) qs) x.write x.there (let s = x.stamp_is in omega arith));
    home_is = x.home_is;
    after = x.after;
    stamp_is = x.stamp_is;
  };
}

-- The key that the pass knows for the life is that of the removal.
pub removal_key : (vs : List PassState) → CallersAgree vs → ((k : ℕ) → IsKeyHistory k (history k (map knowledge_of vs))) → (home n k j : ℕ) → names_header home ≡ 1 → IsRemovedAt home n (history k (map knowledge_of vs)) → 0 < homes_in home (history j (map knowledge_of vs)) → IsRemovedAt home n (history j (map knowledge_of vs))
unfolding total
removal_key vs callers legal home n k j names x there = subst (λ (t : ℕ). IsRemovedAt home n (history t (map knowledge_of vs))) (home_key vs callers legal home k j names (has_home (history k (map knowledge_of vs)) x.write x.there x.home_is) there) x
  where
    has_home : (h : List KeyedWrite) (w : KeyedWrite) → Has w h → w.home ≡ home → 0 < homes_in home h
    has_home [] w m e = absurd m
    has_home (y ∷ ys) w (inl q) e = let o = one_at-same y.home home (ap (λ (t : KeyedWrite). t.home) (sym q) ∙ e) in omega arith
    has_home (y ∷ ys) w (inr q) e = let t = has_home ys w q e in omega arith

-- a dead header that its key's entry names still: its stamp word is that of the removal
pub dead_named : (z : Sizes) (m : HeaderMemory) (shown : ℕ → State) (base v : ℕ) (h : List KeyedWrite) → v ≢ 0 → names_header v ≡ 1 → KeyStands z m shown base (v + 1) h → state_of (m.pin (header_in v)) ≡ DEAD → IsRemovedAt v (m.stamp (header_in v)) h
dead_named z m shown base v h ne names stands dead = let i = stands.named v refl names in let d = i.dead dead in subst (λ (n : ℕ). IsRemovedAt v n h) d.1 (last_removed v h ne i.home d.0)
