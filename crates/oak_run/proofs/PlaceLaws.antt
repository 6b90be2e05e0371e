-- A reply's place by the replies and by the history is the same, for all runs whose replies tell each write once.
use Rattle.std.proofs.Common.{◌≡◌, ℕ, suc, ◌+◌, Bool, true, false, cond, leb, ◌&&◌, List, [], ◌∷◌, ◌++◌, map, Some, None, refl, sym, ap, ◌∙◌, arith, inl, inr}
use Rattle.std.specs.Prelude.{count_by, sum_by, option_to_list}
use Rattle.std.specs.List.Sorted.{IsPermutation}
use Rattle.std.proofs.lemmas.Bool.{cases_Bool}
use Rattle.std.proofs.lemmas.List.Sums.{sum_by-cons}
use Rattle.std.proofs.lemmas.List.Recursion.{is_count_by}
use Rattle.std.proofs.lemmas.List.Sorted.{sum_by-IsPermutation, IsPermutation-map}
use Rattle.oak_model.specs.declared.replies.Wrote.{Wrote}
use Rattle.oak_model.specs.declared.replies.Wrote.TheVariants as wrote
use Rattle.oak_model.specs.declared.replies.Reply.{Reply}
use Rattle.oak_model.specs.declared.replies.Reply.TheVariants as replies
use Rattle.oak_model.specs.Key.{same_key}
use Rattle.oak_model.specs.History.{History, Histories, place_of}
use Rattle.oak_model.proofs.KeyLaws.{same_is, same_itself}
use Rattle.oak_script.specs.declared.scripts.Call.{Call}
use Rattle.oak_script.specs.declared.scripts.Call.TheVariants.{Put, Get, PutNew, Compute, Upsert, Remove, Hold, Look, Scan, Back}
use Rattle.oak_script.specs.Places.{stamp_of, stamp_of_wrote, is_call_on, stamps_in, stamps_along, stamps_of, written_upto}
use Rattle.oak_run.specs.Told.{ask_of, reply_at, makes_write, wrote_writes, wrote_at}
use Rattle.oak_run.specs.Turn.{Turn}
use Rattle.oak_run.specs.Answers.{Mark, mark_of, marks, all_marks, asks_for, writes_key}
use Rattle.oak_run.specs.RunFits.{calls_of, replies_of}

-- ---- the stamps that turns tell

same_key-swap : (a b : List ℕ) → same_key a b ≡ same_key b a
same_key-swap a b =
    elim (cases_Bool (same_key a b)) [
      | inl same ↦ same ∙ sym (rw (same_is a b same) (same_itself b))
      | inr other ↦ elim (cases_Bool (same_key b a)) [
        | inl same ↦ absurd (both (same_key a b) other (rw (same_is b a same) (same_itself a)))
        | inr apart ↦ other ∙ sym apart
      ]
    ]
  where
    both : (b : Bool) → b ≡ false → b ≡ true → ⊥
    both b f t = cc

calls_on : (q : List ℕ) (c : Call) → is_call_on q c ≡ asks_for q (ask_of c)
calls_on q (Put k v) = same_key-swap q k
calls_on q (Get k) = same_key-swap q k
calls_on q (PutNew k v) = same_key-swap q k
calls_on q (Compute k r n) = same_key-swap q k
calls_on q (Upsert k v r n) = same_key-swap q k
calls_on q (Remove k) = same_key-swap q k
calls_on q (Hold a k) = same_key-swap q k
calls_on q (Look a) = refl
calls_on q (Scan low high) = refl
calls_on q (Back low high) = refl

wrote_stamp : (w : Wrote) → stamp_of_wrote w ≡ cond (wrote_writes w) (Some (wrote_at w)) None
wrote_stamp (wrote.New at) = refl
wrote_stamp (wrote.Over at) = refl
wrote_stamp (wrote.Kept at) = refl
wrote_stamp (wrote.Done at) = refl
wrote_stamp (wrote.Removed at) = refl
wrote_stamp (wrote.Absent at) = refl
wrote_stamp (wrote.Full lack) = refl

reply_stamp : (y : Reply) → stamp_of y ≡ cond (makes_write y) (Some (reply_at y)) None
reply_stamp (replies.Wrote w) = wrote_stamp w
reply_stamp (replies.Value key value at) = refl
reply_stamp (replies.Held at) = refl
reply_stamp replies.Gone = refl
reply_stamp replies.Unheld = refl
reply_stamp (replies.Pairs pairs) = refl

stamps-turn : (q : List ℕ) (t : Turn) → stamps_in t.call t.reply q ≡ cond (writes_key q t) (reply_at t.reply ∷ []) []
stamps-turn q t = rw (calls_on q t.call, reply_stamp t.reply) (by (asks_for q (ask_of t.call)) (makes_write t.reply))
  where
    by : (b w : Bool) → cond b (option_to_list (cond w (Some (reply_at t.reply)) None)) [] ≡ cond (b && w) (reply_at t.reply ∷ []) []
    by true true = refl
    by true false = refl
    by false w = refl

stamps-thread : (q : List ℕ) (caller n : ℕ) (ts : List Turn) → stamps_along (map (λ (t : Turn). t.call) ts) (map (λ (t : Turn). t.reply) ts) q ≡ map (λ (m : Mark). m.stamp) (marks q caller n ts)
stamps-thread q caller n [] = refl
stamps-thread q caller n (t ∷ ts) =
    rw (stamps-turn q t, stamps-thread q caller (suc n) ts) (by (writes_key q t))
  where
    by : (b : Bool) → cond b (reply_at t.reply ∷ []) [] ++ map (λ (m : Mark). m.stamp) (marks q caller (suc n) ts) ≡ map (λ (m : Mark). m.stamp) (cond b (record { stamp = reply_at t.reply; caller = caller; call = n } ∷ marks q caller (suc n) ts) (marks q caller (suc n) ts))
    by true = refl
    by false = refl

map-join : (xs ys : List Mark) → map (λ (m : Mark). m.stamp) (xs ++ ys) ≡ map (λ (m : Mark). m.stamp) xs ++ map (λ (m : Mark). m.stamp) ys
map-join [] ys = refl
map-join (x ∷ xs) ys = ap (λ (zs : List ℕ). x.stamp ∷ zs) (map-join xs ys)

stamps-all : (q : List ℕ) (caller : ℕ) (threads : List (List Turn)) → stamps_of (calls_of threads) (replies_of threads) q ≡ map (λ (m : Mark). m.stamp) (all_marks q caller threads)
stamps-all q caller [] = refl
stamps-all q caller (ts ∷ more) = rw (stamps-thread q caller 1 ts, stamps-all q (suc caller) more) (sym (map-join (marks q caller 1 ts) (all_marks q (suc caller) more)))

-- ---- how many stamps are at most a number

abbrev up_to : ℕ → ℕ → ℕ
up_to at s = cond (leb s at) 1 0

sum-step : (b : Bool) (n : ℕ) → cond b 1 0 + n ≡ cond b (1 + n) n
sum-step true n = refl
sum-step false n = omega arith

counted : (at : ℕ) (xs : List ℕ) → sum_by (up_to at) xs ≡ count_by (λ s. leb s at) xs
counted at xs = is_count_by (λ (ys : List ℕ). sum_by (up_to at) ys) (λ s. leb s at) refl (λ y ys. sum_by-cons (up_to at) y ys ∙ sum-step (leb y at) (sum_by (up_to at) ys)) xs

place-counted : (h : History) (at : ℕ) → place_of h at ≡ sum_by (up_to at) (map (λ (m : Mark). m.stamp) (map mark_of h))
place-counted [] at = refl
place-counted (w ∷ ws) at = rw (sum_by-cons (up_to at) w.stamp (map (λ (m : Mark). m.stamp) (map mark_of ws)), ← place-counted ws at) (sym (step (leb w.stamp at)))
  where
    step : (b : Bool) → cond b 1 0 + place_of ws at ≡ cond b (suc (place_of ws at)) (place_of ws at)
    step true = omega arith
    step false = omega arith

pub same-places : (h : Histories) (threads : List (List Turn)) (calls : List (List Call)) (said : List (List Reply)) → calls_of threads ≡ calls → replies_of threads ≡ said → ((q : List ℕ) → IsPermutation (all_marks q 1 threads) (map mark_of (h q)))
    → (k : List ℕ) (at : ℕ) → place_of (h k) at ≡ written_upto calls said k at
same-places h threads calls said of_calls of_replies once k at =
    let moved = IsPermutation-map (λ (m : Mark). m.stamp) (all_marks k 1 threads) (map mark_of (h k)) (once k) in
    let sums = sum_by-IsPermutation (up_to at) (map (λ (m : Mark). m.stamp) (all_marks k 1 threads)) (map (λ (m : Mark). m.stamp) (map mark_of (h k))) moved in
    rw (← of_calls, ← of_replies) (place-counted (h k) at ∙ sums ∙ ap (λ (xs : List ℕ). sum_by (up_to at) xs) (sym (stamps-all k 1 threads)) ∙ counted at (stamps_of (calls_of threads) (replies_of threads) k))
