-- A thread's calls, one more at a time.
use Rattle.std.proofs.Common.{◌≡◌, ℕ, suc, ◌+◌, ◌^◌, ◌<◌, ◌≤◌, List, [], ◌∷◌, ◌++◌, length, Option, None, refl, sym, ap, ◌∙◌, subst, arith}
use Rattle.std.specs.Prelude.{MatchOption, IsSomeAnd}
use Rattle.std.specs.BTreeMap.{BTreeMap, get}
use Rattle.std.proofs.lemmas.List.{length_push}
use Rattle.std.proofs.lemmas.List.Sums.{fold-append}
use Rattle.oak_model.specs.declared.replies.Reply.{Reply}
use Rattle.oak_model.specs.declared.replies.Reply.TheVariants as replies
use Rattle.oak_model.specs.declared.replies.Wrote.TheVariants as wrote
use Rattle.oak_model.specs.Counts.{Each}
use Rattle.oak_model.specs.Key.{key_cmp}
use Rattle.oak_model.specs.Limits.{Sizes}
use Rattle.oak_model.proofs.Lists.{each_append, each_map}
use Rattle.oak_core.specs.declared.states.KeyedWrite.{KeyedWrite}
use Rattle.oak_core.specs.declared.states.PassState.{PassState}
use Rattle.oak_core.specs.MayWrite.{IsNewCall}
use Rattle.oak_script.specs.declared.scripts.Call.{Call}
use Rattle.oak_run.specs.declared.looks.HeldView.{HeldView}
use Rattle.oak_run.specs.CallTurns.{times_computed, times_told}
use Rattle.oak_run.specs.HeldNames.{CallDid, IsHeld, KeepsViews, TurnsNames}
use Rattle.oak_run.specs.LoneCalls.{CallGoes, LoneCall, LoneCalls}
use Rattle.oak_run.specs.MapThreads.{ThreadFits}
use Rattle.oak_run.specs.MapTurns.{Turned}
use Rattle.oak_run.specs.Turn.{Turn}
use Rattle.oak_run.specs.Views.{Names, names_after, names_of, no_names}
use Rattle.oak_run.specs.Working.{Working}
use Rattle.oak_run.proofs.MapThreadLaws.{more_turns, no_turns, nothing_done, one_turn_more}

-- ---- before the first call

none_held : (m : BTreeMap (List ℕ) HeldView) (a : List ℕ) → m.entries ≡ [] → get key_cmp m a ≡ None
none_held m a empty = rw empty refl

pub working_start : (z : Sizes) (v : PassState) (holds : BTreeMap (List ℕ) HeldView) → v.knowledge.mine ≡ [] → holds.entries ≡ [] → Working z v v holds [] []
working_start z v holds none empty = record {
  fits = nothing_done z v none;
  keeps = λ a. subst (λ (ts : List Turn). MatchOption (get key_cmp holds a) (names_of no_names ts a ≡ None) (λ h. IsSomeAnd (names_of no_names ts a) (λ x. IsHeld z v h x))) (sym (no_turns z v none))
      (subst (λ (o : Option HeldView). MatchOption o (no_names a ≡ None) (λ h. IsSomeAnd (no_names a) (λ x. IsHeld z v h x))) (sym (none_held holds a empty)) refl);
  early = subst (Each (λ (w : KeyedWrite). w.write.call ≤ 0)) (sym none) tt;
  lone = refl;
  numbers = refl;
}

-- ---- the number of the next call

pub next_new : (n : ℕ) (cs : List Call) (v : PassState) → n ≡ suc (length cs) → n < 2 ^ 32 → Each (λ (w : KeyedWrite). w.write.call ≤ length cs) v.knowledge.mine → IsNewCall n v
next_new n cs v is few early = (few, each_map (λ (w : KeyedWrite). w.write.call ≤ length cs) (λ (w : KeyedWrite). w.write.call < n) v.knowledge.mine (λ w le. omega arith) early)

-- a reply tells of at most one computing
pub told_once : (y : Reply) → times_told y ≤ 1
told_once (replies.Wrote (wrote.New at)) = omega arith
told_once (replies.Wrote (wrote.Over at)) = omega arith
told_once (replies.Wrote (wrote.Kept at)) = omega arith
told_once (replies.Wrote (wrote.Done at)) = omega arith
told_once (replies.Wrote (wrote.Removed at)) = omega arith
told_once (replies.Wrote (wrote.Absent at)) = omega arith
told_once (replies.Wrote (wrote.Full lack)) = omega arith
told_once (replies.Value key value at) = omega arith
told_once (replies.Held at) = omega arith
told_once replies.Gone = omega arith
told_once replies.Unheld = omega arith
told_once (replies.Pairs pairs) = omega arith

pub computed_push : (ys : List Reply) (y : Reply) → times_computed (ys ++ y ∷ []) ≡ times_computed ys + times_told y
computed_push [] y = omega arith
computed_push (x ∷ ys) y = let more = computed_push ys y in omega arith

-- ---- behind one more call

lone_push : (z : Sizes) (m n : ℕ) (first v w : PassState) (cs : List Call) (ys : List Reply) (c : Call) (y : Reply) → n ≡ m + length cs → LoneCalls z m first cs ys v → CallGoes n v w → LoneCall z n c y v w → LoneCalls z m first (cs ++ c ∷ []) (ys ++ y ∷ []) w
lone_push z m n first v w [] [] c y is l goes lone =
    let same : n ≡ m = omega arith in
    subst (λ (p : PassState × ℕ). CallGoes n v w → LoneCall z n c y v w → (u : PassState) × CallGoes p.1 p.0 u × LoneCall z p.1 c y p.0 u × (w ≡ u)) (λ i. (l i, same i)) (λ g o. (w, g, o, refl)) goes lone
lone_push z m n first v w [] (x ∷ xs) c y is l goes lone = absurd l
lone_push z m n first v w (b ∷ bs) [] c y is l goes lone = absurd l
lone_push z m n first v w (b ∷ bs) (x ∷ xs) c y is l goes lone = (l.0, l.1, l.2, lone_push z (suc m) n l.0 v w bs xs c y (omega arith) l.3 goes lone)

module _ (z : Sizes) (first v w : PassState) (old now : BTreeMap (List ℕ) HeldView) (cs : List Call) (ys : List Reply) (n : ℕ) (c : Call) (y : Reply) (x : Working z first v old cs ys) (number : n ≡ suc (length cs)) (did : CallDid z n old now c y v w) where
  abbrev names : Names
  names = names_of no_names x.fits.turns

  does : TurnsNames z n names now c y v w
  does = did.does names x.keeps

  abbrev t : Turn
  t = record { call = c; reply = y; places = does.turns.places; floors = does.turns.floors }

  turned : Turned z n names t v w
  turned = does.turns.turned

  abbrev more : ThreadFits z w (cs ++ c ∷ []) (ys ++ y ∷ [])
  more = one_turn_more z v w cs ys n t x.fits number turned did.can

  names_then : names_of no_names more.turns ≡ names_after names t
  names_then = ap (names_of no_names) (more_turns z v w cs ys n t x.fits number turned did.can) ∙ fold-append names_after no_names x.fits.turns (t ∷ [])

  goes : CallGoes n v w
  goes = record { extends = turned.extends; numbers = turned.numbers; met = turned.met; wrote = turned.wrote; mine = turned.mine; calls = turned.calls }

  early : Each (λ (k : KeyedWrite). k.write.call ≤ length (cs ++ c ∷ [])) w.knowledge.mine
  early = let l = length_push cs c in subst (Each (λ (k : KeyedWrite). k.write.call ≤ length (cs ++ c ∷ []))) (sym turned.mine) (each_append (λ (k : KeyedWrite). k.write.call ≤ length (cs ++ c ∷ [])) v.knowledge.mine turned.wrote
      (each_map (λ (k : KeyedWrite). k.write.call ≤ length cs) (λ (k : KeyedWrite). k.write.call ≤ length (cs ++ c ∷ [])) v.knowledge.mine (λ k le. omega arith) x.early)
      (each_map (λ (k : KeyedWrite). k.write.call ≡ n) (λ (k : KeyedWrite). k.write.call ≤ length (cs ++ c ∷ [])) turned.wrote (λ k e. omega arith) turned.calls))

  pub works_on : Working z first w now (cs ++ c ∷ []) (ys ++ y ∷ [])
  works_on = record {
    fits = more;
    keeps = subst (λ (m : Names). KeepsViews z now w m) (sym names_then) does.keeps;
    early = early;
    lone = lone_push z 1 n first v w cs ys c y (let e = number in omega arith) x.lone goes did.lone;
    numbers = turned.numbers ∙ x.numbers;
  }
