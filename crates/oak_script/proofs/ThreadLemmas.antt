-- One thread more, and one call more of the last thread.
use Rattle.std.proofs.Common.{◌≡◌, ℕ, ◌+◌, ◌<◌, ◌≤◌, zero, suc, true, false, cond, List, [], ◌∷◌, ◌++◌, length, map, get_or, set, refl, ap, sym, subst, ◌∙◌, arith, append_assoc}
use Rattle.std.specs.List.{AllByRecursion, flat_map}
use Rattle.std.proofs.Math.ListN.{get_or-map}
use Rattle.std.proofs.lemmas.List.{append-nil, map_push, map-set, length-map, length_push}
use Rattle.std.proofs.lemmas.List.Sums.{sum_by_push}
use Rattle.std.proofs.lemmas.Grind.{flat_map-append}
use Rattle.oak_script.specs.declared.limits.TheConstants.{GREATEST_THREADS, GREATEST_CALLS, GREATEST_SCANS}
use Rattle.oak_script.specs.declared.scripts.Call.{Call}
use Rattle.oak_script.specs.Lines.{Words}
use Rattle.oak_script.specs.Grammar.{thread_line, call_words, thread_lines, CallFits, is_scan, scans_in, all_calls}
use Rattle.oak_script.specs.Reading.{with_call, AreCalls, AreCounted}

pub scans-push : (calls : List Call) (c : Call) → scans_in (calls ++ c ∷ []) ≡ scans_in calls + cond (is_scan c) 1 0
scans-push calls c = sum_by_push (λ (d : Call). cond (is_scan d) 1 0) calls c

pub all-push : {X : Type 0} (P : X → Type 0) (xs : List X) (x : X) → AllByRecursion P xs → P x → AllByRecursion P (xs ++ x ∷ [])
all-push P [] x each is = (is, tt)
all-push P (y ∷ xs) x each is = (each.0, all-push P xs x each.1 is)

-- ---- one thread more

pub begun-lines : (threads : List (List Call)) → flat_map thread_lines (threads ++ [] ∷ []) ≡ flat_map thread_lines threads ++ thread_line ∷ []
begun-lines threads = flat_map-append thread_lines threads ([] ∷ [])

pub begun-calls : (threads : List (List Call)) → all_calls (threads ++ [] ∷ []) ≡ all_calls threads
begun-calls threads = flat_map-append (λ (calls : List Call). calls) threads ([] ∷ []) ∙ append-nil (all_calls threads)

pub begun-fit : (threads : List (List Call)) → AreCalls threads → length threads < GREATEST_THREADS → AreCalls (threads ++ [] ∷ [])
begun-fit threads are few = record {
  each = all-push (AllByRecursion CallFits) threads [] are.each tt;
  threads_few = omega (arith, length_push threads []);
  few = rw (begun-calls threads) are.few;
  scans = rw (begun-calls threads) are.scans;
}

-- ---- one call more

pub called-lines : (threads : List (List Call)) (c : Call) → 0 < length threads → flat_map thread_lines (with_call threads c) ≡ flat_map thread_lines threads ++ call_words c ∷ []
called-lines [] c some = absurd (omega arith)
called-lines (t ∷ []) c some = rw (append-nil (map call_words (t ++ c ∷ [])), append-nil (map call_words t), map_push call_words t c) refl
called-lines (t ∷ u ∷ ts) c some =
    rw (called-lines (u ∷ ts) c (omega arith)) (ap (λ (ls : List Words). thread_line ∷ ls) (sym (append_assoc (map call_words t) (flat_map thread_lines (u ∷ ts)) (call_words c ∷ []))))

pub called-calls : (threads : List (List Call)) (c : Call) → 0 < length threads → all_calls (with_call threads c) ≡ all_calls threads ++ c ∷ []
called-calls [] c some = absurd (omega arith)
called-calls (t ∷ []) c some = rw (append-nil (t ++ c ∷ []), append-nil t) refl
called-calls (t ∷ u ∷ ts) c some =
    rw (called-calls (u ∷ ts) c (omega arith)) (sym (append_assoc t (all_calls (u ∷ ts)) (c ∷ [])))

pub called-length : (threads : List (List Call)) (c : Call) → length (with_call threads c) ≡ length threads
called-length [] c = refl
called-length (t ∷ []) c = refl
called-length (t ∷ u ∷ ts) c = omega (arith, called-length (u ∷ ts) c)

called-set : (threads : List (List Call)) (n : ℕ) (d : List Call) (c : Call) → n + 1 ≡ length threads → set threads n (get_or threads n d ++ c ∷ []) ≡ with_call threads c
called-set [] n d c e = absurd (omega (arith, e))
called-set (t ∷ []) zero d c e = refl
called-set (t ∷ []) (suc n) d c e = absurd (omega (arith, e))
called-set (t ∷ u ∷ ts) zero d c e = absurd (omega (arith, e))
called-set (t ∷ u ∷ ts) (suc n) d c e = ap (λ (more : List (List Call)). t ∷ more) (called-set (u ∷ ts) n d c (omega (arith, e)))

-- the last of some threads, as they are kept, is exchanged for one with a call more
pub called-items : {X : Type 0} (calls_of : X → List Call) (xs : List X) (n : ℕ) (y d : X) (c : Call) → n + 1 ≡ length xs → calls_of y ≡ calls_of (get_or xs n d) ++ c ∷ [] → map calls_of (set xs n y) ≡ with_call (map calls_of xs) c
called-items calls_of xs n y d c last more =
    map-set calls_of xs n y
    ∙ ap (set (map calls_of xs) n) (more ∙ ap (λ (calls : List Call). calls ++ c ∷ []) (sym (get_or-map calls_of xs n d)))
    ∙ called-set (map calls_of xs) n (calls_of d) c (last ∙ sym (length-map xs calls_of))

called-each : (threads : List (List Call)) (c : Call) → AllByRecursion (AllByRecursion CallFits) threads → CallFits c → AllByRecursion (AllByRecursion CallFits) (with_call threads c)
called-each [] c each is = tt
called-each (t ∷ []) c each is = (all-push CallFits t c each.0 is, tt)
called-each (t ∷ u ∷ ts) c each is = (each.0, called-each (u ∷ ts) c each.1 is)

pub called-fit : (threads : List (List Call)) (c : Call) → 0 < length threads → AreCalls threads → CallFits c → length (all_calls threads) < GREATEST_CALLS → scans_in (all_calls threads) + cond (is_scan c) 1 0 ≤ GREATEST_SCANS → AreCalls (with_call threads c)
called-fit threads c some are is few scans = record {
  each = called-each threads c are.each is;
  threads_few = omega (arith, called-length threads c, are.threads_few);
  few = rw (called-calls threads c some) (omega (arith, length_push (all_calls threads) c));
  scans = rw (called-calls threads c some) (omega (arith, scans-push (all_calls threads) c));
}

called-counted : (threads : List (List Call)) (calls scans more : ℕ) (c : Call) → cond (is_scan c) 1 0 ≡ more → 0 < length threads → AreCounted threads calls scans → CallFits c → calls < GREATEST_CALLS → scans + more ≤ GREATEST_SCANS → AreCounted (with_call threads c) (calls + 1) (scans + more)
called-counted threads calls scans more c one some counted is few scans_few = record {
  are = called-fit threads c some counted.are is (omega (arith, counted.calls_are)) (omega (arith, counted.scans_are, one));
  calls_are = rw (called-calls threads c some) (omega (arith, length_push (all_calls threads) c, counted.calls_are));
  scans_are = rw (called-calls threads c some) (omega (arith, scans-push (all_calls threads) c, counted.scans_are, one));
}

-- a scan more
pub called-scan : (threads : List (List Call)) (calls scans : ℕ) (c : Call) → is_scan c ≡ true → 0 < length threads → AreCounted threads calls scans → CallFits c → calls < GREATEST_CALLS → scans < GREATEST_SCANS → AreCounted (with_call threads c) (calls + 1) (scans + 1)
called-scan threads calls scans c scan some counted is few scans_few = called-counted threads calls scans 1 c (rw scan refl) some counted is few (omega arith)

-- another call more
pub called-other : (threads : List (List Call)) (calls scans : ℕ) (c : Call) → is_scan c ≡ false → 0 < length threads → AreCounted threads calls scans → CallFits c → calls < GREATEST_CALLS → AreCounted (with_call threads c) (calls + 1) scans
called-other threads calls scans c other some counted is few =
    let same : scans + 0 ≡ scans = omega arith in
    let scans_few : scans + 0 ≤ GREATEST_SCANS = omega (arith, counted.scans_are, counted.are.scans) in
    subst (λ (n : ℕ). AreCounted (with_call threads c) (calls + 1) n) same (called-counted threads calls scans 0 c (rw other refl) some counted is few scans_few)
