-- A thread's turns with one more turn.
use Rattle.std.proofs.Common.{◌≡◌, ℕ, suc, ◌+◌, true, false, cond, List, [], ◌∷◌, ◌++◌, length, refl, ap, subst, arith}
use Rattle.std.specs.List.{AllByRecursion}
use Rattle.oak_model.specs.History.{Histories}
use Rattle.oak_run.specs.Told.{reply_at}
use Rattle.oak_run.specs.Turn.{Turn}
use Rattle.oak_run.specs.Answers.{AnswerFits, AnswersFit, Mark, marks, writes_key}
use Rattle.oak_run.specs.Order.{Follows, Ordered}
use Rattle.oak_run.specs.Views.{Names, ViewFits, ViewsFit, names_after, names_of}

pub all-push : {A : Type 0} (P : A → Type 0) (xs : List A) (x : A) → AllByRecursion P xs → P x → AllByRecursion P (xs ++ x ∷ [])
all-push P [] x each last = (last, tt)
all-push P (y ∷ ys) x each last = (each.0, all-push P ys x each.1 last)

pub all-map : {A : Type 0} (P Q : A → Type 0) (xs : List A) → ((x : A) → P x → Q x) → AllByRecursion P xs → AllByRecursion Q xs
all-map P Q [] f each = tt
all-map P Q (x ∷ xs) f each = (f x each.0, all-map P Q xs f each.1)

pub answers-push : (h : Histories) (caller n m : ℕ) (ts : List Turn) (t : Turn) → m ≡ n + length ts → AnswersFit h caller n ts → AnswerFits h caller m t → AnswersFit h caller n (ts ++ t ∷ [])
answers-push h caller n m [] t e fits last = let same : m ≡ n = omega arith in (subst (λ (k : ℕ). AnswerFits h caller k t) same last, tt)
answers-push h caller n m (x ∷ xs) t e fits last = (fits.0, answers-push h caller (suc n) m xs t (omega arith) fits.1 last)

pub views-push : (h : Histories) (names : Names) (ts : List Turn) (t : Turn) → ViewsFit h names ts → ViewFits h (names_of names ts) t t.call → ViewsFit h names (ts ++ t ∷ [])
views-push h names [] t fits last = (last, tt)
views-push h names (x ∷ xs) t fits last = (fits.0, views-push h (names_after names x) xs t fits.1 last)

pub ordered-push : (ts : List Turn) (t : Turn) → Ordered ts → AllByRecursion (λ x. Follows x t) ts → Ordered (ts ++ t ∷ [])
ordered-push [] t o each = (tt, tt)
ordered-push (x ∷ xs) t o each = (all-push (Follows x) xs t o.0 each.0, ordered-push xs t o.1 each.1)

pub marks-push : (q : List ℕ) (caller n m : ℕ) (ts : List Turn) (t : Turn) → m ≡ n + length ts
    → marks q caller n (ts ++ t ∷ []) ≡ marks q caller n ts ++ cond (writes_key q t) (record { stamp = reply_at t.reply; caller = caller; call = m } ∷ []) []
marks-push q caller n m [] t e =
    let same : n ≡ m = omega arith in
    rw same refl
marks-push q caller n m (x ∷ xs) t e =
    let ih = marks-push q caller (suc n) m xs t (omega arith) in
    elim (writes_key q x) as (λ b. cond b (record { stamp = reply_at x.reply; caller = caller; call = n } ∷ marks q caller (suc n) (xs ++ t ∷ [])) (marks q caller (suc n) (xs ++ t ∷ [])) ≡ cond b (record { stamp = reply_at x.reply; caller = caller; call = n } ∷ marks q caller (suc n) xs) (marks q caller (suc n) xs) ++ cond (writes_key q t) (record { stamp = reply_at t.reply; caller = caller; call = m } ∷ []) []) [
      | true ↦ ap (λ (ms : List Mark). record { stamp = reply_at x.reply; caller = caller; call = n } ∷ ms) ih
      | false ↦ ih
    ]
