-- A text without a fault spells a script, and it spells one only.
use Rattle.std.proofs.Common.{◌≡◌, ℕ, ◌+◌, ◌<◌, ◌≤◌, Bool, true, false, not, ◌||◌, ◌&&◌, cond, eqb, List, [], ◌∷◌, ◌++◌, length, drop, Option, Some, None, refl, ap, sym, subst, ◌∙◌, inl, inr, arith, append_assoc, codes}
use Rattle.std.specs.List.{list_any, flat_map}
use Rattle.std.specs.Prelude.{IfSome}
use Rattle.std.specs.Str.{bytes_eq}
use Rattle.std.proofs.lemmas.Bool.{cases_Bool}
use Rattle.std.proofs.lemmas.Bool.Decides.{nat_tests}
use Rattle.std.proofs.lemmas.List.{length_push, length-append, append-nil, append_cancel_right}
use Rattle.oak_script.specs.declared.faults.What.TheVariants as what
use Rattle.oak_script.specs.declared.scripts.Call.{Call}
use Rattle.oak_script.specs.declared.stages.Stage.{Stage}
use Rattle.oak_script.specs.declared.stages.Stage.TheVariants.{Start, Headed, Shaped, Opened, Ended}
use Rattle.oak_script.specs.declared.limits.TheConstants.{GREATEST_THREADS, GREATEST_CALLS, GREATEST_SCANS}
use Rattle.oak_script.specs.Lines.{Words}
use Rattle.oak_model.specs.Limits.{Sizes}
use Rattle.oak_script.specs.ShapeLine.{size_words, size_fields, are_sizes, SizesFit}
use Rattle.oak_script.specs.Grammar.{oak_line, end_line, call_words, thread_lines, CallFits, is_scan, scans_in, all_calls}
use Rattle.oak_script.specs.Forms.{is_one, is_two, is_oak, is_thread, is_end, is_shape, is_call, is_scan_line}
use Rattle.oak_script.specs.Faults.{Past, past_of, faults, faults_at, where_so, is_empty, is_bad_word, is_bad_shape, HasNoFault}
use Rattle.oak_script.specs.Reading.{so_far, past_at, sizes_for, with_call, CallsFit, AreCalls, line_faults, thread_faults}
use Rattle.oak_script.proofs.WordLemmas.{word_is, none-so, none-both, not-true, and-parts}
use Rattle.oak_script.proofs.CallLemmas.{call-read}
use Rattle.oak_script.proofs.ShapeLemmas.{sizes-read}
use Rattle.oak_script.proofs.SizesLemmas.{sizes-same}
use Rattle.oak_script.proofs.SecondLemmas.{shape-is}
use Rattle.oak_script.proofs.InjectiveLemmas.{threads-injective}
use Rattle.oak_script.proofs.PastLemmas.{past_so_far, call-call, call-scan}
use Rattle.oak_script.proofs.OpenLemmas.{line_counts, open-thread, open-line}
use Rattle.oak_script.proofs.ThreadLemmas.{begun-lines, begun-fit, called-lines, called-length, called-fit}
use Rattle.oak_script.proofs.PlaceLemmas.{faults_here, faults_behind}
use Rattle.oak_script.proofs.SpelledLemmas.{grown-by}

one_is : (text : List ℕ) (line : Words) → is_one text line ≡ true → line ≡ text ∷ []
one_is text [] e = absurd cc
one_is text (w ∷ []) e = ap (λ (x : List ℕ). x ∷ []) (word_is w text e)
one_is text (w ∷ x ∷ more) e = absurd cc

two_are : (text other : List ℕ) (line : Words) → is_two text other line ≡ true → line ≡ text ∷ other ∷ []
two_are text other [] e = absurd cc
two_are text other (w ∷ []) e = absurd cc
two_are text other (w ∷ x ∷ []) e =
    let p = and-parts (bytes_eq w text) (bytes_eq x other) e in
    rw (word_is w text p.0, word_is x other p.1) refl
two_are text other (w ∷ x ∷ y ∷ more) e = absurd cc

stands : (e t : Bool) → (e || not (t || false)) ≡ false → t ≡ true
stands e true h = refl
stands true false h = absurd cc
stands false false h = absurd cc

-- line 2 that is not `thread`
shapes : (e s t l : Bool) → (e || not ((s && l) || (t || false))) ≡ false → t ≡ false → (e ≡ false) × (s ≡ true) × (l ≡ true)
shapes e s true l h n = absurd cc
shapes true s false l h n = absurd cc
shapes false true false true h n = (refl, refl, refl)
shapes false true false false h n = absurd cc
shapes false false false l h n = absurd cc

sound : (s a : Bool) → (s && not a) ≡ false → s ≡ true → a ≡ true
sound s true h is = refl
sound true false h is = absurd cc
sound false false h is = absurd cc

eight : (n : ℕ) → eqb n 8 ≡ true → n ≡ 8
eight n h = grind (arith, nat_tests)

-- how a line without a fault is taken
record Taken (stage : Stage) (threads : List (List Call)) (line : Words) : Type 0 where
  next : Stage
  more : List (List Call)
  fit : CallsFit next more
  grown : so_far next more ≡ so_far stage threads ++ line ∷ []

below-limit : (n top : ℕ) → n ≤ top → eqb n top ≡ false → n < top
below-limit n top h e = grind (arith, nat_tests)

-- a thread without a call yet
one-begun : AreCalls ([] ∷ [])
one-begun = record { each = (tt, tt); threads_few = omega arith; few = omega arith; scans = omega arith }

take-thread : (threads : List (List Call)) → AreCalls threads → thread_faults threads ≡ [] → AreCalls (threads ++ [] ∷ [])
take-thread threads are none = begun-fit threads are (below-limit (length threads) GREATEST_THREADS are.threads_few (none-so (eqb (length threads) GREATEST_THREADS) what.Threads none))

take-call : (threads : List (List Call)) (c : Call) → 0 < length threads → AreCalls threads → CallFits c → line_counts threads (call_words c) ≡ [] → AreCalls (with_call threads c)
take-call threads c some are is none =
    let calls = all_calls threads in
    let p = none-both (where_so (is_call (call_words c) && eqb (length calls) GREATEST_CALLS) what.Calls) (where_so (is_scan_line (call_words c) && eqb (scans_in calls) GREATEST_SCANS) what.Scans) none in
    let few = below-limit (length calls) GREATEST_CALLS are.few (rw (call-call c) at (none-so (is_call (call_words c) && eqb (length calls) GREATEST_CALLS) what.Calls p.0)) in
    let scans = by (is_scan c) (rw (call-scan c) at (none-so (is_scan_line (call_words c) && eqb (scans_in calls) GREATEST_SCANS) what.Scans p.1)) in
    called-fit threads c some are is few scans
  where
    by : (b : Bool) → (b && eqb (scans_in (all_calls threads)) GREATEST_SCANS) ≡ false → scans_in (all_calls threads) + cond b 1 0 ≤ GREATEST_SCANS
    by true e = let lt = below-limit (scans_in (all_calls threads)) GREATEST_SCANS are.scans e in omega arith
    by false e = omega (arith, are.scans)

taken : (stage : Stage) (threads : List (List Call)) (line : Words) → CallsFit stage threads → faults (past_at stage threads) (Some line) ≡ [] → Taken stage threads line
taken Start threads line fit e =
    let p = none-both (where_so (not (is_oak line)) what.Head) _ e in
    let is = two_are (codes "oak") (codes "1") line (not-true (is_oak line) (none-so (not (is_oak line)) what.Head p.0)) in
    record { next = Headed; more = threads; fit = fit; grown = rw is refl }
taken Headed threads line fit e =
    let past = past_at Headed threads in
    let p = none-both (where_so (is_bad_word past (Some line)) what.Word) _ e in
    let r = none-both (where_so (is_bad_shape past (Some line)) what.Shape) _ p.1 in
    let word = none-so (is_bad_word past (Some line)) what.Word p.0 in
    elim (cases_Bool (is_thread line)) [
      | inl thread ↦
          let is = one_is (codes "thread") line thread in
          record { next = Opened None; more = [] ∷ []; fit = (omega arith, one-begun, tt); grown = rw is refl }
      | inr other ↦
          let w = shapes (list_any is_empty line) (is_shape line) (is_thread line) (eqb (length line) 8) word other in
          let bad = none-so (is_bad_shape past (Some line)) what.Shape r.0 in
          let are : are_sizes size_fields (drop 1 line) ≡ true = sound (is_shape line) (are_sizes size_fields (drop 1 line)) bad w.1 in
          let sizes = sizes-read (drop 1 line) are in
          let is = shape-is line sizes.0 (record { words = w.0; first = w.1; count = eight (length line) w.2 }) sizes.1 in
          record { next = Shaped sizes.0; more = []; fit = (refl, sizes.2); grown = ap (λ (l : Words). oak_line ∷ l ∷ []) (sym is) }
    ]
taken (Shaped s) threads line fit e =
    let past = past_at (Shaped s) threads in
    let p = none-both (where_so (is_bad_word past (Some line)) what.Word) _ e in
    let thread = stands (list_any is_empty line) (is_thread line) (none-so (is_bad_word past (Some line)) what.Word p.0) in
    let is = one_is (codes "thread") line thread in
    record { next = Opened (Some s); more = [] ∷ []; fit = (omega arith, one-begun, fit.1); grown = rw is refl }
taken (Opened shape) threads line fit e =
    elim (cases_Bool (is_thread line)) [
      | inl thread ↦
          let is = one_is (codes "thread") line thread in
          let none = sym (open-thread shape threads fit.0) ∙ subst (λ (l : Words). faults (past_at (Opened shape) threads) (Some l) ≡ []) is e in
          record {
            next = Opened shape;
            more = threads ++ [] ∷ [];
            fit = (omega (arith, length_push threads []), take-thread threads fit.1 none, fit.2);
            grown = sym (grown-by shape threads (threads ++ [] ∷ []) line (begun-lines threads ∙ ap (λ (l : Words). flat_map thread_lines threads ++ l ∷ []) (sym is)));
          }
      | inr no_thread ↦
          elim (cases_Bool (is_end line)) [
            | inl end_ ↦ let is = one_is (codes "end") line end_ in record { next = Ended shape; more = threads; fit = fit; grown = rw is refl }
            | inr other ↦
                let r = none-both (line_faults line) (line_counts threads line) (sym (open-line shape threads line fit.0 no_thread other) ∙ e) in
                let c = call-read line r.0 in
                record {
                  next = Opened shape;
                  more = with_call threads c.0;
                  fit = (omega (arith, called-length threads c.0, fit.0), take-call threads c.0 fit.0 fit.1 c.2 (subst (λ (l : Words). line_counts threads l ≡ []) (sym c.1) r.1), fit.2);
                  grown = sym (grown-by shape threads (with_call threads c.0) (call_words c.0) (called-lines threads c.0 fit.0)) ∙ ap (λ (l : Words). so_far (Opened shape) threads ++ l ∷ []) c.1;
                }
          ]
    ]
taken (Ended shape) threads line fit e = absurd cc

-- the shape and the threads of a text without a fault
pub record Found (lines : List Words) : Type 0 where
  pub shape : Option Sizes
  pub threads : List (List Call)
  pub some : 0 < length threads
  pub fit : IfSome shape SizesFit
  pub are : AreCalls threads
  pub spelled : lines ≡ so_far (Ended shape) threads

found-end : (stage : Stage) (threads : List (List Call)) → CallsFit stage threads → faults (past_at stage threads) None ≡ [] → Found (so_far stage threads)
found-end Start threads fit e = absurd cc
found-end Headed threads fit e = absurd cc
found-end (Shaped s) threads fit e = absurd cc
found-end (Opened shape) threads fit e = absurd cc
found-end (Ended shape) threads fit e = record { shape = shape; threads = threads; some = fit.0; fit = fit.2; are = fit.1; spelled = refl }

found-from : (stage : Stage) (threads : List (List Call)) (rest all : List Words) → so_far stage threads ++ rest ≡ all → CallsFit stage threads → HasNoFault all → Found all
found-from stage threads [] all split fit none =
    let whole : so_far stage threads ≡ all = sym (append-nil (so_far stage threads)) ∙ split in
    let behind = faults_behind (so_far stage threads) in
    let last : faults_at (so_far stage threads) (length (so_far stage threads)) ≡ [] = subst (λ (ls : List Words). faults_at ls (length ls) ≡ []) (sym whole) (none (length all) (omega arith)) in
    subst Found whole (found-end stage threads fit (sym (behind ∙ ap (λ (p : Past). faults p None) (past_so_far stage threads)) ∙ last))
found-from stage threads (line ∷ rest) all split fit none =
    let before = so_far stage threads in
    let here : faults_at all (length before) ≡ faults (past_of before) (Some line) = rw split at (faults_here before line rest) in
    let within : length before ≤ length all = omega (arith, ap length split, length-append before (line ∷ rest)) in
    let t = taken stage threads line fit (sym (here ∙ ap (λ (p : Past). faults p (Some line)) (past_so_far stage threads)) ∙ none (length before) within) in
    found-from t.next t.more rest all (rw (t.grown, append_assoc) split) t.fit none

pub found : (all : List Words) → HasNoFault all → Found all
found all none = found-from Start [] all all refl refl none

-- ---- only one script

same-body : (a b : List (List Call)) → AreCalls a → AreCalls b → flat_map thread_lines a ++ end_line ∷ [] ≡ flat_map thread_lines b ++ end_line ∷ [] → a ≡ b
same-body a b ha hb e = threads-injective a b ha.each hb.each (append_cancel_right (flat_map thread_lines a) (flat_map thread_lines b) (end_line ∷ []) e)

pub same-lines : (x y : Option Sizes) (a b : List (List Call)) → 0 < length a → 0 < length b → IfSome x SizesFit → IfSome y SizesFit → AreCalls a → AreCalls b → so_far (Ended x) a ≡ so_far (Ended y) b → ((n : ℕ) → sizes_for x n ≡ sizes_for y n) × (a ≡ b)
same-lines x y [] b some others fx fy ha hb e = absurd (omega arith)
same-lines x y (t ∷ a) [] some others fx fy ha hb e = absurd (omega arith)
same-lines None None (t ∷ a) (u ∷ b) some others fx fy ha hb e =
    let body : flat_map thread_lines (t ∷ a) ++ end_line ∷ [] ≡ flat_map thread_lines (u ∷ b) ++ end_line ∷ [] = cc in
    (λ n. refl, same-body (t ∷ a) (u ∷ b) ha hb body)
same-lines None (Some z) (t ∷ a) (u ∷ b) some others fx fy ha hb e = absurd cc
same-lines (Some s) None (t ∷ a) (u ∷ b) some others fx fy ha hb e = absurd cc
same-lines (Some s) (Some z) (t ∷ a) (u ∷ b) some others fx fy ha hb e =
    let body : flat_map thread_lines (t ∷ a) ++ end_line ∷ [] ≡ flat_map thread_lines (u ∷ b) ++ end_line ∷ [] = cc in
    let words : size_words s ≡ size_words z = cc in
    (λ n. sizes-same s z n fx fy words, same-body (t ∷ a) (u ∷ b) ha hb body)
