-- The words that a call of a lone pass left, by the last that the pass met in it.
use Rattle.std.proofs.Common.{◌≡◌, ℕ, ◌⊎◌, Bool, true, false, List, [], ◌∷◌, ◌++◌, length, length-append, inl, inr, ⊎_elim, sym, ap, ◌∙◌, subst, append_assoc, append-nil, arith}
use Rattle.oak_model.specs.declared.cells.CellCall.{CellCall}
use Rattle.oak_model.specs.declared.replies.Lack.{Lack}
use Rattle.oak_model.specs.declared.replies.Wrote.{Wrote}
use Rattle.oak_model.specs.declared.replies.Wrote.TheVariants.{New, Over, Kept, Done, Removed, Absent, Full}
use Rattle.oak_model.specs.Counts.{Begins, Each, Has}
use Rattle.oak_model.specs.KeyNumber.{key_number}
use Rattle.oak_model.specs.Limits.{Sizes}
use Rattle.oak_core.specs.declared.closing.Closed.{Closed}
use Rattle.oak_core.specs.declared.states.Finding.{Finding}
use Rattle.oak_core.specs.declared.states.PassState.{PassState}
use Rattle.oak_core.specs.declared.states.Sight.{Sight}
use Rattle.oak_core.specs.AloneWords.{LeavesWords}
use Rattle.oak_core.specs.CallSteps.{MetMore}
use Rattle.oak_core.specs.Closing.{closed_state}
use Rattle.oak_core.specs.Sights.{SightedSince}
use Rattle.oak_core.proofs.seats.AloneLast.{last_is}
use Rattle.point_ops.specs.Replies.{FoundForReply}
use Rattle.oak_map.specs.Replying.{AnswersFull, PutFits}
use Rattle.oak_run.specs.FullsExactly.{LeftWords}

abbrev pub left_words : (c : Closed) (u : PassState) (words : List ℕ) → Begins u.findings.met (closed_state c).findings.met → LeavesWords words u → LeftWords c words
left_words c u words more l = record {
  before = l.met;
  last = l.finding;
  later = more.0;
  there = more.1 ∙ (ap (λ (m : List Finding). m ++ more.0) l.last ∙ append_assoc l.met (l.finding ∷ []) more.0);
  alone = l.alone;
  are = l.are;
}

-- ---- of which call it is

last_each : {A : Type 0} (P : A → Type 0) (xs : List A) (x : A) → Each P (xs ++ x ∷ []) → P x
last_each P [] x each = each.0
last_each P (y ∷ ys) x each = last_each P ys x each.1

none_behind : {A : Type 0} (xs ys : List A) → xs ++ ys ≡ [] → ys ≡ []
none_behind [] ys e = e
none_behind (x ∷ xs) ys e = absurd cc

-- the last of a list is one of its second part, if that is not empty
last_behind : {A : Type 0} (P : A → Type 0) (xs ys zs : List A) (z : A) → xs ++ ys ≡ zs ++ z ∷ [] → Each P ys → (ys ≡ []) ⊎ P z
last_behind P [] ys zs z e each = inr (last_each P zs z (subst (Each P) e each))
last_behind P (x ∷ xs) ys [] z e each = inl (none_behind xs ys cc)
last_behind P (x ∷ xs) ys (w ∷ zs) z e each = let rest : xs ++ ys ≡ zs ++ z ∷ [] = cc in last_behind P xs ys zs z rest each

-- it is of the call, or the call met nothing
pub own_step : (n : ℕ) (v u : PassState) (words : List ℕ) → MetMore n v u → (l : LeavesWords words u) → (u.findings.met ≡ v.findings.met) ⊎ (l.finding.call ≡ n)
own_step n v u words m l = ⊎_elim (λ (e : m.more ≡ []). inl (m.met ∙ (ap (λ (more : List Finding). v.findings.met ++ more) e ∙ append-nil v.findings.met))) (λ (e : l.finding.call ≡ n). inr e)
    (last_behind (λ (f : Finding). f.call ≡ n) v.findings.met m.more l.met l.finding (sym m.met ∙ l.last) m.calls)

-- one that was noted met that
pub noted_step : (z : Sizes) (n : ℕ) (key : List ℕ) (ask : CellCall) (lack : Lack) (v u : PassState) (words : List ℕ) → AnswersFull z n key ask lack v u → (l : LeavesWords words u) → l.finding.call ≡ n
noted_step z n key ask lack v u words g l = ap (λ (f : Finding). f.call) (last_is l.met g.last.findings.met l.finding _ (sym l.last ∙ ap (λ (y : PassState). y.findings.met) g.notes.after))

-- ---- a call that answers is not without a step

none_more : {A : Type 0} (xs more : List A) → xs ≡ xs ++ more → length more ≡ 0
none_more xs more e = let a = ap length e in let b = length-append xs more in omega arith

sighted_on : (k at : ℕ) (v u : PassState) → SightedSince k at v.findings u.findings → v ≡ u → ⊥
sighted_on k at v u s e = nothing s.0 (none_more v.findings.sights s.0 (ap (λ (y : PassState). y.findings.sights) e ∙ s.1)) s.2.there
  where
    nothing : (more : List Sight) → length more ≡ 0 → Has s.2.sight more → ⊥
    nothing [] none has = has
    nothing (x ∷ xs) none has = omega arith

found_on : (write : Bool) (k at : ℕ) (v u : PassState) → FoundForReply write k at v u → v ≡ u → ⊥
found_on false k at v u f e = sighted_on k at v u f e
found_on true k at v u f e = sighted_on k f.0 v u f.2 e

longer : {A : Type 0} (a b c more : List A) (x : A) → a ≡ c → b ≡ a ++ more → c ≡ b ++ x ∷ [] → ⊥
longer a b c more x e f g = let n = ap length e in let m = ap length f ∙ length-append a more in let o = ap length g ∙ length-append b (x ∷ []) in omega arith

noted_on : (z : Sizes) (n : ℕ) (key : List ℕ) (ask : CellCall) (lack : Lack) (v u : PassState) → AnswersFull z n key ask lack v u → v ≡ u → ⊥
noted_on z n key ask lack v u g e = longer v.findings.met g.last.findings.met u.findings.met g.tries.goes.met.more _ (ap (λ (y : PassState). y.findings.met) e) g.tries.goes.met.met (ap (λ (y : PassState). y.findings.met) g.notes.after)

pub went_on : (y : Wrote) (z : Sizes) (n : ℕ) (key : List ℕ) (ask : CellCall) (v u : PassState) → PutFits y z n key ask v u → v ≡ u → ⊥
went_on (New at) z n key ask v u fits e = found_on true (key_number key) at v u fits.found e
went_on (Over at) z n key ask v u fits e = found_on true (key_number key) at v u fits.found e
went_on (Kept at) z n key ask v u fits e = found_on false (key_number key) at v u fits.found e
went_on (Done at) z n key ask v u fits e = found_on true (key_number key) at v u fits.found e
went_on (Removed at) z n key ask v u fits e = found_on true (key_number key) at v u fits.found e
went_on (Absent at) z n key ask v u fits e = found_on false (key_number key) at v u fits.found e
went_on (Full lack) z n key ask v u fits e = noted_on z n key ask lack v u fits e
