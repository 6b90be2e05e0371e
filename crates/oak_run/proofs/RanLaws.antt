-- From the workers whose threads ran to the ends of all threads, joined into the first pass.
use Rattle.std.proofs.Common.{◌≡◌, ℕ, zero, suc, ◌+◌, ◌<◌, List, [], ◌∷◌, ◌++◌, length, map, take, drop, Option, Some, refl, sym, ap, ◌∙◌, subst, arith}
use Rattle.std.proofs.Common.{Vec, Global}
use mathlib.Core.List.{map-map}
use Rattle.std.proofs.lemmas.List.{length-map, take_at}
use Rattle.std.specs.Prelude.{All, IfSome, slice_index_or}
use Rattle.std.specs.List.{AllByRecursion}
use Rattle.oak_model.specs.declared.replies.Reply.{Reply}
use Rattle.oak_core.specs.declared.states.Numbers.{Numbers}
use Rattle.oak_core.specs.declared.states.PassState.{PassState}
use Rattle.oak_core.specs.PassState.{IsAlone, both_state}
use Rattle.oak_map.specs.declared.map.MapPass.{MapPass}
use Rattle.oak_map.specs.declared.map.OakMap.{OakMap}
use Rattle.oak_map.specs.Maps.{IsReady, sizes, state}
use Rattle.oak_model.specs.Limits.{Sizes}
use Rattle.oak_script.specs.declared.scripts.Call.{Call}
use Rattle.oak_run.specs.declared.worker.Answered.{Answered}
use Rattle.oak_run.specs.CallTurns.{times_computed}
use Rattle.oak_run.specs.SplitPasses.{HasSplit, IsBare, joined_passes, numbers_in}
use Rattle.oak_run.specs.ThreadsRun.{AllCame, AreNumbered, EachFits, ThreadEnd, joined_all}
use Rattle.oak_run.specs.Workers.{AllRan, AnswersThread, HasRun, IsFresh, ThreadRun, calls_at, replies_in}
use Rattle.oak_run.proofs.PushLaws.{all-map}
use Rattle.oak_run.proofs.RisingNumbers.{numbers_from}
use Rattle.oak_run.proofs.SplitLaws.{alone_again, numbers_are}

-- ---- from places to lists

pub at_each : {W : Type 0} (P : W → Type 0) (xs : List W) → AllByRecursion P xs → All P xs
at_each P [] all i d lt = absurd (omega arith)
at_each P (x ∷ xs) all zero d lt = all.0
at_each P (x ∷ xs) all (suc i) d lt = at_each P xs all.1 i d (omega arith)

-- what is said of each place of the rows, of the threads before and behind
abbrev pub RanAt : {R W : Type 0} → (W → MapPass) → (W → Option Answered) → OakMap R → List (Vec Call Global) → List W → List W → Type 0
RanAt p a m vs xs zs = (i : ℕ) (d : _) → i < length xs → HasRun m (calls_at vs i) (p (slice_index_or xs i d)) (p (slice_index_or zs i d)) (a (slice_index_or zs i d))

module _ {R W : Type 0} (p : W → MapPass) (a : W → Option Answered) (m : OakMap R) where
  pub all_ran : (vs : List (Vec Call Global)) (xs zs : List W) → length xs ≡ length vs → length zs ≡ length xs → RanAt p a m vs xs zs → AllRan m (map (λ v. v.items) vs) (map p xs) (map p zs) (map a zs)
  all_ran [] [] [] e l ran = record { runs = []; calls_are = refl; before_are = refl; now_are = refl; answered_are = refl; each = tt }
  all_ran [] [] (z ∷ zs) e l ran = absurd (omega arith)
  all_ran [] (x ∷ xs) zs e l ran = absurd (omega arith)
  all_ran (v ∷ vs) [] zs e l ran = absurd (omega arith)
  all_ran (v ∷ vs) (x ∷ xs) [] e l ran = absurd (omega arith)
  all_ran (v ∷ vs) (x ∷ xs) (z ∷ zs) e l ran =
      let r = all_ran vs xs zs (omega arith) (omega arith) (λ i d lt. ran (suc i) d (omega arith)) in
      record {
        runs = record { calls = v.items; before = p x; now = p z; answered = a z } ∷ r.runs;
        calls_are = ap (λ (cs : List (List Call)). v.items ∷ cs) r.calls_are;
        before_are = ap (λ (ps : List MapPass). p x ∷ ps) r.before_are;
        now_are = ap (λ (ps : List MapPass). p z ∷ ps) r.now_are;
        answered_are = ap (λ (os : List (Option Answered)). a z ∷ os) r.answered_are;
        each = (ran 0 x (omega arith), r.each);
      }

pub of_map : {A B : Type 0} (f : A → B) (P : B → Type 0) (xs : List A) → AllByRecursion P (map f xs) → AllByRecursion (λ x. P (f x)) xs
of_map f P [] all = tt
of_map f P (x ∷ xs) all = (all.0, of_map f P xs all.1)

-- ---- what stays of the passes

abbrev pub numbers_at : List MapPass → List Numbers
numbers_at ps = map (λ (p : MapPass). (state p).numbers) ps

kept : {R : Type 0} (m : OakMap R) (rs : List ThreadRun) → AllByRecursion (λ (r : ThreadRun). HasRun m r.calls r.before r.now r.answered) rs → numbers_at (map (λ (r : ThreadRun). r.now) rs) ≡ numbers_at (map (λ (r : ThreadRun). r.before) rs)
kept m [] each = refl
kept m (r ∷ rs) each = λ i. each.0.numbers i ∷ kept m rs each.1 i

pub numbers_kept : {R : Type 0} (m : OakMap R) (threads : List (List Call)) (before now : List MapPass) (answered : List (Option Answered)) → AllRan m threads before now answered → numbers_at now ≡ numbers_at before
numbers_kept m threads before now answered ran = subst (λ (ps : List MapPass × List MapPass). numbers_at ps.0 ≡ numbers_at ps.1) (λ i. (ran.now_are i, ran.before_are i)) (kept m ran.runs ran.each)

ready : {R : Type 0} (m : OakMap R) (rs : List ThreadRun) → AllByRecursion (λ (r : ThreadRun). HasRun m r.calls r.before r.now r.answered) rs → AllByRecursion (IsReady m) (map (λ (r : ThreadRun). r.now) rs)
ready m [] each = tt
ready m (r ∷ rs) each = (each.0.ready, ready m rs each.1)

pub all_ready : {R : Type 0} (m : OakMap R) (threads : List (List Call)) (before now : List MapPass) (answered : List (Option Answered)) → AllRan m threads before now answered → AllByRecursion (IsReady m) now
all_ready m threads before now answered ran = subst (AllByRecursion (IsReady m)) ran.now_are (ready m ran.runs ran.each)

-- ---- the ends of the threads

ends_in : List ThreadRun → List Answered → List ThreadEnd
ends_in [] answers = []
ends_in (r ∷ rs) [] = []
ends_in (r ∷ rs) (a ∷ answers) = record { state = state r.now; calls = r.calls; replies = a.replies.items } ∷ ends_in rs answers

abbrev answered_in : List ThreadRun → List (Option Answered)
answered_in rs = map (λ (r : ThreadRun). r.answered) rs

abbrev some_of : List Answered → List (Option Answered)
some_of answers = map (λ (a : Answered). Some a) answers

its_answer : {R : Type 0} (m : OakMap R) (r : ThreadRun) (a : Answered) → r.answered ≡ Some a → HasRun m r.calls r.before r.now r.answered → AnswersThread (sizes m) (state r.now) r.calls a
its_answer m r a e run = subst (λ (o : Option Answered). IfSome o (AnswersThread (sizes m) (state r.now) r.calls)) e run.answers

each_answer : {R : Type 0} (m : OakMap R) (rs : List ThreadRun) (answers : List Answered) → answered_in rs ≡ some_of answers → AllByRecursion (λ (r : ThreadRun). HasRun m r.calls r.before r.now r.answered) rs
    → EachFits (sizes m) (ends_in rs answers) × AllByRecursion (λ (a : Answered). a.computed ≡ times_computed a.replies.items) answers
unfolding ends_in
each_answer m [] [] e each = (tt, tt)
each_answer m [] (a ∷ answers) e each = absurd cc
each_answer m (r ∷ rs) [] e each = absurd cc
each_answer m (r ∷ rs) (a ∷ answers) e each =
    let first : r.answered ≡ Some a = cc in
    let rest : answered_in rs ≡ some_of answers = cc in
    let one = its_answer m r a first each.0 in
    let more = each_answer m rs answers rest each.1 in
    ((one.fits, more.0), (one.counted, more.1))

its_calls : (rs : List ThreadRun) (answers : List Answered) → answered_in rs ≡ some_of answers → map (λ (t : ThreadEnd). t.calls) (ends_in rs answers) ≡ map (λ (r : ThreadRun). r.calls) rs
unfolding ends_in
its_calls [] [] e = refl
its_calls [] (a ∷ answers) e = refl
its_calls (r ∷ rs) [] e = absurd cc
its_calls (r ∷ rs) (a ∷ answers) e = let rest : answered_in rs ≡ some_of answers = cc in ap (λ (cs : List (List Call)). r.calls ∷ cs) (its_calls rs answers rest)

its_replies : (rs : List ThreadRun) (answers : List Answered) → answered_in rs ≡ some_of answers → map (λ (t : ThreadEnd). t.replies) (ends_in rs answers) ≡ replies_in answers
unfolding ends_in
its_replies [] [] e = refl
its_replies [] (a ∷ answers) e = absurd cc
its_replies (r ∷ rs) [] e = absurd cc
its_replies (r ∷ rs) (a ∷ answers) e = let rest : answered_in rs ≡ some_of answers = cc in ap (λ (ys : List (List Reply)). a.replies.items ∷ ys) (its_replies rs answers rest)

its_joins : (v : PassState) (rs : List ThreadRun) (answers : List Answered) → answered_in rs ≡ some_of answers → joined_all v (ends_in rs answers) ≡ joined_passes v (map (λ (r : ThreadRun). state r.now) rs)
unfolding ends_in
its_joins v [] [] e = refl
its_joins v [] (a ∷ answers) e = refl
its_joins v (r ∷ rs) [] e = absurd cc
its_joins v (r ∷ rs) (a ∷ answers) e = let rest : answered_in rs ≡ some_of answers = cc in its_joins (both_state v (state r.now)) rs answers rest

its_numbers : (n : ℕ) (rs : List ThreadRun) (answers : List Answered) → answered_in rs ≡ some_of answers → AllByRecursion IsBare (map (λ (r : ThreadRun). (state r.now).numbers) rs)
    → map (λ (r : ThreadRun). (state r.now).numbers.number) rs ≡ numbers_from n (length rs) → AreNumbered n (ends_in rs answers)
unfolding ends_in
its_numbers n [] answers e bare are = tt
its_numbers n (r ∷ rs) [] e bare are = tt
its_numbers n (r ∷ rs) (a ∷ answers) e bare are =
    let rest : answered_in rs ≡ some_of answers = cc in
    let first : (state r.now).numbers.number ≡ n = cc in
    let others : map (λ (s : ThreadRun). (state s.now).numbers.number) rs ≡ numbers_from (suc n) (length rs) = cc in
    (first, ap (λ (k : Numbers). k.joined) bare.0, its_numbers (suc n) rs answers rest bare.1 others)

-- The first pass, in the state v behind all splits, has all of them back, and all answered.
pub all_came : {R : Type 0} (z : Sizes) (m : OakMap R) (v w : PassState) (threads : List (List Call)) (before now : List MapPass) (answered : List (Option Answered)) (answers : List Answered) → HasSplit z v (numbers_at before) → z.passes ≡ length before + 1
    → AllRan m threads before now answered → w ≡ joined_passes v (map state now) → answered ≡ some_of answers → AllCame (sizes m) w threads answers
all_came z m v w threads before now answered answers split few ran joined all =
    let fits = each_answer m ran.runs answers whole ran.each in
    record {
      first = v;
      ends = ends_in ran.runs answers;
      joined = joined ∙ (ap (λ (ps : List MapPass). joined_passes v (map state ps)) (sym ran.now_are) ∙ (ap (joined_passes v) (map-map state (λ (r : ThreadRun). r.now) ran.runs) ∙ sym (its_joins v ran.runs answers whole)));
      number = ap (λ (n : Numbers). n.number) split.numbers;
      joined_before = ap (λ (n : Numbers). n.joined) split.numbers;
      unwritten = split.unwritten;
      numbered = its_numbers 1 ran.runs answers whole (subst (AllByRecursion IsBare) here split.bare) numbers;
      fit = fits.0;
      calls_are = its_calls ran.runs answers whole ∙ ran.calls_are;
      replies_are = its_replies ran.runs answers whole;
      counted = fits.1;
    }
  where
    whole : answered_in ran.runs ≡ some_of answers
    whole = ran.answered_are ∙ all

    here : numbers_at before ≡ map (λ (r : ThreadRun). (state r.now).numbers) ran.runs
    here = sym (numbers_kept m threads before now answered ran) ∙ (ap numbers_at (sym ran.now_are) ∙ map-map (λ (p : MapPass). (state p).numbers) (λ (r : ThreadRun). r.now) ran.runs)

    numbers : map (λ (r : ThreadRun). (state r.now).numbers.number) ran.runs ≡ numbers_from 1 (length ran.runs)
    numbers = sym (map-map (λ (n : Numbers). n.number) (λ (r : ThreadRun). (state r.now).numbers) ran.runs)
        ∙ (ap numbers_in (sym here)
        ∙ (numbers_are z v (numbers_at before) split (few ∙ ap (λ (k : ℕ). k + 1) (sym (length-map before (λ (p : MapPass). (state p).numbers))))
        ∙ ap (numbers_from 1) (ap length here ∙ length-map ran.runs (λ (r : ThreadRun). (state r.now).numbers))))

-- ---- the same of a row of workers, xs before their threads and zs behind them

module _ {R W : Type 0} (p : W → MapPass) (a : W → Option Answered) (z : Sizes) (m : OakMap R) (v w : PassState) (xs zs : List W)
    (split : HasSplit z v (map (λ x. (state (p x)).numbers) xs)) (joined : w ≡ joined_passes v (map (λ x. state (p x)) zs)) where
  pub alone_home : map (λ x. (state (p x)).numbers) zs ≡ map (λ x. (state (p x)).numbers) xs → IsAlone w
  alone_home same = subst IsAlone (sym joined) (alone_again z v (map (λ x. (state (p x)).numbers) xs) (map (λ x. state (p x)) zs) split (map-map (λ (s : PassState). s.numbers) (λ x. state (p x)) zs ∙ same))

  pub came_home : (threads : List (List Call)) (answers : List Answered) → z.passes ≡ length xs + 1 → AllRan m threads (map p xs) (map p zs) (map a zs) → map a zs ≡ some_of answers → AllCame (sizes m) w threads answers
  came_home threads answers few ran all = all_came z m v w threads (map p xs) (map p zs) (map a zs) answers
      (subst (HasSplit z v) (sym (map-map (λ (q : MapPass). (state q).numbers) p xs)) split) (few ∙ ap (λ (k : ℕ). k + 1) (sym (length-map xs p))) ran
      (joined ∙ ap (joined_passes v) (sym (map-map state p zs))) all

-- a row that was changed in place
pub ran_back : {R W : Type 0} (p : W → MapPass) (a : W → Option Answered) (m : OakMap R) (vs : List (Vec Call Global)) (xs us ys : List W) (n : ℕ) → us ≡ xs → length us ≡ length vs → length ys ≡ n → length ys ≡ length us → RanAt p a m vs us ys
    → AllRan m (map (λ v. v.items) vs) (map p xs) (map p (take n (ys ++ drop (length ys) xs))) (map a (take n (ys ++ drop (length ys) xs)))
ran_back p a m vs xs us ys n same each long still ran =
    subst (λ (l : List _ × List _). AllRan m (map (λ v. v.items) vs) (map p l.0) (map p l.1) (map a l.1)) (λ i. (same i, sym (take_at ys (drop (length ys) xs) n long) i)) (all_ran p a m vs us ys each still ran)

-- what stays of them
module _ {R W : Type 0} (p : W → MapPass) (a : W → Option Answered) (m : OakMap R) (threads : List (List Call)) (xs zs : List W) (ran : AllRan m threads (map p xs) (map p zs) (map a zs)) where
  pub numbers_stay : map (λ x. (state (p x)).numbers) zs ≡ map (λ x. (state (p x)).numbers) xs
  numbers_stay = sym (map-map (λ (q : MapPass). (state q).numbers) p zs) ∙ (numbers_kept m threads (map p xs) (map p zs) (map a zs) ran ∙ map-map (λ (q : MapPass). (state q).numbers) p xs)

  pub ready_again : AllByRecursion (λ x. IsReady m (p x)) zs
  ready_again = of_map p (IsReady m) zs (all_ready m threads (map p xs) (map p zs) (map a zs) ran)

-- they are ready before they run, too
pub fresh_ready : {R W : Type 0} (p : W → MapPass) (m : OakMap R) (xs : List W) → AllByRecursion (λ x. IsFresh m (p x)) xs → AllByRecursion (λ x. IsReady m (p x)) xs
fresh_ready p m xs fresh = all-map (λ x. IsFresh m (p x)) (λ x. IsReady m (p x)) xs (λ x f. f.ready) fresh
