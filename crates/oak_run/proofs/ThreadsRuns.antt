-- A run of threads that were joined into the first pass, which settled, scanned and closed the map behind them, fits.
use Rattle.std.proofs.Common.{◌≡◌, ℕ, suc, List, [], ◌∷◌, ◌++◌, map, None, refl, ap, ◌∙◌, subst}
use Rattle.oak_model.specs.declared.replies.Pair.{Pair}
use Rattle.oak_model.specs.Counts.{Begins, Each}
use Rattle.chunk_ops.specs.RoomPins.{HadMoment}
use Rattle.oak_core.specs.declared.closing.Closed.{Closed}
use Rattle.oak_core.specs.declared.states.Joined.{Joined}
use Rattle.oak_core.specs.declared.states.KeyedWrite.{KeyedWrite}
use Rattle.oak_core.specs.declared.states.Numbers.{Numbers}
use Rattle.oak_core.specs.declared.states.PassState.{PassState}
use Rattle.oak_core.specs.Closing.{all_passes, closed_findings, closed_key, closed_state, closed_words}
use Rattle.oak_core.specs.Memory.{memory}
use Rattle.oak_core.specs.PassState.{HoldsNothing, IsAlone, seen_of}
use Rattle.oak_core.specs.Splitting.{Ends}
use Rattle.oak_core.specs.Usage.{usage_of, used_chunks}
use Rattle.lone_counts.specs.LoneTable.{retired_in}
use Rattle.scan_cursor.specs.declared.ways.Way.TheVariants.{Up}
use Rattle.scan_cursor.specs.Scanned.{HasScanned}
use Rattle.scan_cursor.specs.Views.{View}
use Rattle.oak_map.specs.Closings.{UsesJustMap}
use Rattle.oak_run.specs.Answers.{AnswersFit}
use Rattle.oak_run.specs.Behind.{histories}
use Rattle.oak_run.specs.ClosedRuns.{closing_of}
use Rattle.oak_run.specs.Findings.{FindingsFit}
use Rattle.oak_run.specs.Order.{Ordered}
use Rattle.oak_run.specs.Reads.{OnlyReads}
use Rattle.oak_run.specs.Refusals.{RefusalsFit}
use Rattle.oak_run.specs.RunFits.{RunFits}
use Rattle.oak_run.specs.Scans.{ScansFit}
use Rattle.oak_run.specs.ThreadsRun.{AreNumbered, EachFits, ThreadEnd, joined_all}
use Rattle.oak_run.specs.Views.{ViewsFit, no_names}
use Rattle.oak_run.proofs.BehindLaws.{behind_before}
use Rattle.oak_run.proofs.ClosedBehind.{closed_behind}
use Rattle.oak_run.proofs.ClosedEnds.{end_fits}
use Rattle.oak_run.proofs.ClosedRuns.{behind_legal}
use Rattle.oak_run.proofs.DistinctCalls.{distinct_calls}
use Rattle.oak_run.proofs.EndedWrites.{ended_writes, mine_in}
use Rattle.oak_run.proofs.JoinedThreads.{IsFound, all_joined, each_found, first_mine, first_number, joined_of}
use Rattle.oak_run.proofs.ReadsLaws.{learns_reads, reads_then}
use Rattle.oak_run.proofs.SawBefore.{IsBefore, alone_before, each_before}
use Rattle.oak_run.proofs.SettledSeen.{all_seen}
use Rattle.oak_run.proofs.TakenOver.{all_theirs, finds_its, wrote_its}
use Rattle.oak_run.proofs.ThreadTurns.{AreThreads, IsThread, all_answered, all_once, calls_are, each_thread, its_answers, replies_are, turns_of}

-- The pass is in the state `before.state` at a moment behind the threads, up to which it kept all that they had seen. Without `kept` a thread could have seen what no history has: that a pass goes on from what was seen before says something of the longest list alone.
module _ (c : Closed) (first : PassState) (ts : List ThreadEnd) (before now : View) (finals : List Pair) (number : first.numbers.number ≡ 0) (joined : first.numbers.joined ≡ []) (none : first.knowledge.mine ≡ []) (are : AreNumbered 1 ts) (fit : EachFits (closed_key c) ts)
    (reads : OnlyReads (joined_all first ts) before.state) (kept : Begins (joined_all first ts).knowledge.seen before.state.knowledge.seen) (had : HadMoment (closed_key c) before.state) (scan : HasScanned Up None None before now finals)
    (rest : OnlyReads now.state (closed_state c)) (alone : IsAlone (closed_state c)) (idle : HoldsNothing (closed_state c)) (closed : Ends (closed_key c) (closed_words c) (closed_state c)) (uses : UsesJustMap c) where
  abbrev u : PassState
  u = closed_state c

  abbrev hs : ℕ → List KeyedWrite
  hs k = seen_of k u.knowledge

  last : OnlyReads before.state u
  last = reads_then before.state now.state u (learns_reads before.call before.state now.state scan.later.learns) rest

  all : OnlyReads (joined_all first ts) u
  all = reads_then (joined_all first ts) before.state u reads last

  lone : IsAlone before.state
  lone = alone_before before.state u last.numbers alone

  -- ---- what the last pass took over

  last_number : u.numbers.number ≡ 0
  last_number = ap (λ (n : Numbers). n.number) all.numbers ∙ (first_number first ts ∙ number)

  last_joined : u.numbers.joined ≡ joined_of ts
  last_joined = ap (λ (n : Numbers). n.joined) all.numbers ∙ (all_joined 1 first ts are ∙ ap (λ (l : List Joined). l ++ joined_of ts) joined)

  last_mine : u.knowledge.mine ≡ []
  last_mine = all.mine ∙ (first_mine first ts ∙ none)

  its_thread : (n : ℕ) (t : ThreadEnd) → t.state.numbers.number ≡ n → EachFits (closed_key c) (t ∷ []) → IsFound 1 (joined_of ts) t → IsBefore u t → IsThread (closed_key c) hs (closed_findings c) n t
  its_thread n t e fits found seen = record {
    fits = fits.0;
    number = e;
    behind = behind_before t.state u hs seen.extends seen.remembers (closed_behind c closed);
    found = finds_its (closed_key c) (closed_words c) u closed alone ts last_number last_joined last_mine t found;
    mine = wrote_its (closed_key c) (closed_words c) u closed alone ts last_number last_joined last_mine n t found e;
  }

  they_are : (n : ℕ) (left : List ThreadEnd) → AreNumbered n left → EachFits (closed_key c) left → Each (IsFound 1 (joined_of ts)) left → Each (IsBefore u) left → AreThreads (closed_key c) hs (closed_findings c) n left
  they_are n [] nums fits found seen = tt
  they_are n (t ∷ left) nums fits found seen = (its_thread n t nums.0 (fits.0, tt) found.0 seen.0, they_are (suc n) left nums.2 fits.1 found.1 seen.1)

  threads : AreThreads (closed_key c) hs (closed_findings c) 1 ts
  threads = they_are 1 ts are fit (each_found 1 ts are) (each_before (closed_key c) first before.state u ts reads kept had lone last)

  -- ---- what holds of each thread's turns

  refusals : (n : ℕ) (t : ThreadEnd) (x : IsThread (closed_key c) hs (closed_findings c) n t) → RefusalsFit (closing_of c) n 1 x.fits.turns
  refusals n t x = subst (λ (i : ℕ). RefusalsFit (closing_of c) i 1 x.fits.turns) x.number
      (x.fits.refusals (closed_findings c) hs (usage_of (closed_key c) (memory (closed_key c) (closed_words c))) (retired_in (closed_key c) (closed_words c)) (used_chunks (closed_key c) (memory (closed_key c) (closed_words c))) x.behind x.found)

  findings : (n : ℕ) (t : ThreadEnd) (x : IsThread (closed_key c) hs (closed_findings c) n t) → FindingsFit (closing_of c) n 1 no_names x.fits.turns
  findings n t x = subst (λ (i : ℕ). FindingsFit (closing_of c) i 1 no_names x.fits.turns) x.number
      (x.fits.findings (closed_findings c) hs (usage_of (closed_key c) (memory (closed_key c) (closed_words c))) (retired_in (closed_key c) (closed_words c)) (used_chunks (closed_key c) (memory (closed_key c) (closed_words c))) x.behind x.found)

  pub threads_fit : RunFits (closing_of c) (closed_key c) (map (λ (t : ThreadEnd). t.calls) ts) (map (λ (t : ThreadEnd). t.replies) ts) finals
  threads_fit = record {
    threads = turns_of (closed_key c) hs (closed_findings c) 1 ts threads;
    of_calls = calls_are (closed_key c) hs (closed_findings c) 1 ts threads;
    of_replies = replies_are (closed_key c) hs (closed_findings c) 1 ts threads;
    answered = all_answered (closed_key c) hs (closed_findings c) 1 ts threads;
    sizes = refl;
    legal = behind_legal u hs (closed_behind c closed);
    distinct = distinct_calls hs (λ i. mine_in i (all_passes u)) (ended_writes (closed_key c) (closed_words c) u closed alone);
    replies = record {
      each = each_thread (closed_key c) hs (closed_findings c) (λ n. AnswersFit (histories hs) n 1) (its_answers (closed_key c) hs (closed_findings c)) 1 ts threads;
      once = all_once (closed_key c) hs (closed_findings c) 1 ts threads (all_theirs (closed_key c) (closed_words c) u closed alone ts last_number last_joined last_mine are);
    };
    order = each_thread (closed_key c) hs (closed_findings c) (λ _. Ordered) (λ n t x. x.fits.order) 1 ts threads;
    views = each_thread (closed_key c) hs (closed_findings c) (λ _. ViewsFit (histories hs) no_names) (λ n t x. x.fits.views hs x.behind) 1 ts threads;
    scans = each_thread (closed_key c) hs (closed_findings c) (λ _. ScansFit (histories hs)) (λ n t x. x.fits.scans hs x.behind) 1 ts threads;
    refusals = each_thread (closed_key c) hs (closed_findings c) (λ n. RefusalsFit (closing_of c) n 1) refusals 1 ts threads;
    ending = end_fits c closed before now finals scan rest.extends rest.remembers (all_seen (closed_key c) (closed_words c) before.state u had lone last closed alone) alone idle uses;
    findings = each_thread (closed_key c) hs (closed_findings c) (λ n. FindingsFit (closing_of c) n 1 no_names) findings 1 ts threads;
  }

-- the same in one statement
pub threads_run_fit : (c : Closed) (first : PassState) (ts : List ThreadEnd) (before now : View) (finals : List Pair) → first.numbers.number ≡ 0 → first.numbers.joined ≡ [] → first.knowledge.mine ≡ [] → AreNumbered 1 ts → EachFits (closed_key c) ts
    → OnlyReads (joined_all first ts) before.state → Begins (joined_all first ts).knowledge.seen before.state.knowledge.seen → HadMoment (closed_key c) before.state → HasScanned Up None None before now finals → OnlyReads now.state (closed_state c)
    → IsAlone (closed_state c) → HoldsNothing (closed_state c) → Ends (closed_key c) (closed_words c) (closed_state c) → UsesJustMap c → RunFits (closing_of c) (closed_key c) (map (λ (t : ThreadEnd). t.calls) ts) (map (λ (t : ThreadEnd). t.replies) ts) finals
threads_run_fit = threads_fit
