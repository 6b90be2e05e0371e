-- Two runs of one thread's calls over tables of one shape, of which none is refused, print one text but for its last two lines.
use Rattle.std.proofs.Common.{◌≡◌, ℕ, List, [], ◌∷◌, ◌++◌, length, map, refl, sym, ap, subst, ◌∙◌, arith, append_assoc, append-nil}
use Rattle.std.specs.Prelude.{codes, slice_index}
use Rattle.std.specs.List.Sorted.{IsPermutation}
use Rattle.std.proofs.lemmas.List.{length-map}
use Rattle.std.proofs.lemmas.List.Sorted.{length_permutation}
use Rattle.oak_model.specs.declared.classes.Class.{Class}
use Rattle.oak_model.specs.declared.classes.Class.TheVariants.{B16, B64, B256, B1024}
use Rattle.oak_model.specs.declared.replies.Pair.{Pair}
use Rattle.oak_model.specs.declared.replies.Reply.{Reply}
use Rattle.oak_model.specs.Class.{blocks_of, class_number}
use Rattle.oak_model.specs.History.{Histories, last_state, state_at}
use Rattle.oak_model.specs.Key.{key_cmp}
use Rattle.oak_model.specs.Limits.{Sizes}
use Rattle.oak_model.proofs.HistoryLaws.{Extends-self, state_at-end}
use Rattle.oak_script.specs.declared.scripts.Call.{Call}
use Rattle.oak_script.specs.Text.{CallsAnswered, RepliesAnswer, class_line, class_word, line_end, map_text, thread_text, used_line}
use Rattle.oak_run.specs.Answers.{mark_of, marks}
use Rattle.oak_run.specs.Closing.{Closing}
use Rattle.oak_run.specs.OneText.{NeverFull, OneText, last_lines, text_of}
use Rattle.oak_run.specs.Order.{Ordered}
use Rattle.oak_run.specs.RunFits.{EachThread, RepliesFit, RunFits, calls_of, replies_of}
use Rattle.oak_run.specs.Scans.{ScansFit}
use Rattle.oak_run.specs.Turn.{Turn}
use Rattle.oak_run.specs.Views.{ViewsFit, no_names}
use Rattle.oak_run.proofs.AlikeRuns.{IsFitRun, RunsLike, runs-like, their_calls, their_replies}
use Rattle.oak_run.proofs.AlikeTurns.{places_by}
use Rattle.oak_run.proofs.PairTexts.{AreOne, are-one, one-blocks, one-map, rising-one_way}
use Rattle.oak_run.proofs.SeatedTurns.{NoneFull, turns-seated}
use Rattle.oak_run.proofs.TurnCounts.{Counts, counts_after, marks-count, thread-counted, writes_in}

-- ---- the one thread of a run

abbrev no_writes : Counts
no_writes q = 0

pub record LoneThread (h : Histories) (calls : List Call) (ys : List Reply) : Type 0 where
  pub turns : List Turn
  pub of_calls : their_calls turns ≡ calls
  pub of_replies : their_replies turns ≡ ys
  pub fit : IsFitRun h 1 no_writes no_names turns
  pub whole : (q : List ℕ) → counts_after no_writes turns q ≡ length (h q)

none-full : (ts : List Turn) → NeverFull (their_replies ts) → NoneFull ts
none-full [] never = tt
none-full (t ∷ ts) never = (never.0, none-full ts never.1)

-- each write of the histories is one of the thread's
all-written : (h : Histories) (q : List ℕ) (ts : List Turn) → IsPermutation (marks q 1 1 ts ++ []) (map mark_of (h q)) → writes_in q ts ≡ length (h q)
all-written h q ts once =
    sym (marks-count q 1 1 ts)
    ∙ (ap length (sym (append-nil (marks q 1 1 ts)))
    ∙ (sym (length_permutation (marks q 1 1 ts ++ []) (map mark_of (h q)) once) ∙ length-map (h q) mark_of))

lone-thread : (h : Histories) (threads : List (List Turn)) (calls : List Call) (ys : List Reply) → calls_of threads ≡ calls ∷ [] → replies_of threads ≡ ys ∷ [] → RepliesAnswer (calls ∷ []) (ys ∷ []) → RepliesFit h threads
    → EachThread (λ _ ts. Ordered ts) 1 threads → EachThread (λ _ ts. ViewsFit h no_names ts) 1 threads → EachThread (λ _ ts. ScansFit h ts) 1 threads → NeverFull ys → LoneThread h calls ys
lone-thread h [] calls ys of_calls of_replies answered replies order views scans never = absurd cc
lone-thread h (ts ∷ us ∷ more) calls ys of_calls of_replies answered replies order views scans never = absurd cc
lone-thread h (ts ∷ []) calls ys of_calls of_replies answered replies order views scans never =
    let its_calls : their_calls ts ≡ calls = cc in
    let its_replies : their_replies ts ≡ ys = cc in
    let fine = none-full ts (subst NeverFull (sym its_replies) never) in
    let seats = turns-seated h no_names 1 1 ts fine replies.each.0 views.0 scans.0 in
    let counted = thread-counted h ts order.0 seats (λ q. all-written h q ts (replies.once q)) in
    record {
      turns = ts;
      of_calls = its_calls;
      of_replies = its_replies;
      fit = record {
        fine = fine;
        answers = replies.each.0;
        views = views.0;
        scans = scans.0;
        can = subst (λ (zs : List Reply). CallsAnswered (their_calls ts) zs) (sym its_replies) (subst (λ (cs : List Call). CallsAnswered cs ys) (sym its_calls) answered.0);
        in_count = counted.0;
      };
      whole = counted.1;
    }

run-thread : (c : Closing) (shape : Sizes) (calls : List Call) (ys : List Reply) (m : List Pair) → RunFits c shape (calls ∷ []) (ys ∷ []) m → NeverFull ys → LoneThread c.history calls ys
run-thread c shape calls ys m r never = lone-thread c.history r.threads calls ys r.of_calls r.of_replies r.answered r.replies r.order r.views r.scans never

-- ---- the parts of a text

abbrev blocks_line : List Pair → Sizes → Class → List ℕ
blocks_line m shape k = used_line (class_word k) (blocks_of m k) (slice_index shape.blocks (class_number k))

abbrev front_text : List ℕ → List Pair → Sizes → List ℕ
front_text lines m shape = lines ++ (map_text m ++ (codes "arena" ++ (line_end ++ (blocks_line m shape B16 ++ (blocks_line m shape B64 ++ (blocks_line m shape B256 ++ blocks_line m shape B1024))))))

ends-so : (x r l s : List ℕ) → r ≡ s ++ l → x ++ r ≡ (x ++ s) ++ l
ends-so x r l s e = ap (λ (y : List ℕ). x ++ y) e ∙ sym (append_assoc x s l)

cut-text : (a b c d e f g i l : List ℕ) → a ++ (b ++ (c ++ (d ++ (e ++ (f ++ (g ++ (i ++ l))))))) ≡ (a ++ (b ++ (c ++ (d ++ (e ++ (f ++ (g ++ i))))))) ++ l
cut-text a b c d e f g i l =
    ends-so a _ l _ (ends-so b _ l _ (ends-so c _ l _ (ends-so d _ l _ (ends-so e _ l _ (ends-so f _ l _ (ends-so g _ l _ refl))))))

-- a run's text, cut before its last two lines
run-cut : (c : Closing) (shape : Sizes) (calls : List Call) (ys : List Reply) (m : List Pair) → RunFits c shape (calls ∷ []) (ys ∷ []) m
    → text_of c (calls ∷ []) (ys ∷ []) m ≡ front_text (thread_text (places_by c.history) 1 1 calls ys) m shape ++ last_lines c.usage shape
run-cut c shape calls ys m r =
    let lines = thread_text (places_by c.history) 1 1 calls ys in
    let blocks = r.ending.usage.blocks in
    let line : (k : Class) → slice_index c.usage.blocks (class_number k) ≡ blocks_of m k → class_line c.usage c.sizes k ≡ blocks_line m shape k = (λ k e. (λ j. used_line (class_word k) (e j) (slice_index (r.sizes j).blocks (class_number k)))) in
    let b16 = line B16 blocks.0.0 in
    let b64 = line B64 blocks.1.0.0 in
    let b256 = line B256 blocks.1.1.0.0 in
    let b1024 = line B1024 blocks.1.1.1.0.0 in
    (λ j. append-nil lines j ++ (map_text m ++ (codes "arena" ++ (line_end ++ (b16 j ++ (b64 j ++ (b256 j ++ (b1024 j ++ last_lines c.usage (r.sizes j)))))))))
    ∙ cut-text lines (map_text m) (codes "arena") line_end (blocks_line m shape B16) (blocks_line m shape B64) (blocks_line m shape B256) (blocks_line m shape B1024) (last_lines c.usage shape)

-- ---- the law

module _ (c d : Closing) (shape : Sizes) (calls : List Call) (ys zs : List Reply) (m n : List Pair) (r : RunFits c shape (calls ∷ []) (ys ∷ []) m) (s : RunFits d shape (calls ∷ []) (zs ∷ []) n) (y_never : NeverFull ys) (z_never : NeverFull zs) where
  one : LoneThread c.history calls ys
  one = run-thread c shape calls ys m r y_never

  two : LoneThread d.history calls zs
  two = run-thread d shape calls zs n s z_never

  like : RunsLike c.history d.history no_writes one.turns two.turns
  like = runs-like c.history d.history 1 no_writes no_names one.turns two.turns (λ q i le. let first : i ≡ 0 = omega arith in ap (state_at (c.history q)) first ∙ sym (ap (state_at (d.history q)) first)) (one.of_calls ∙ sym two.of_calls) one.fit two.fit

  one-thread : thread_text (places_by c.history) 1 1 calls ys ≡ thread_text (places_by d.history) 1 1 calls zs
  one-thread =
      (λ j. thread_text (places_by c.history) 1 1 (sym one.of_calls j) (sym one.of_replies j))
      ∙ (like.lines 1 ∙ (λ j. thread_text (places_by d.history) 1 1 (two.of_calls j) (two.of_replies j)))

  -- the last states are the same
  one-last : (q : List ℕ) → last_state (c.history q) ≡ last_state (d.history q)
  one-last q =
      sym (state_at-end (c.history q) (c.history q) (Extends-self (c.history q)))
      ∙ (ap (state_at (c.history q)) (sym (one.whole q))
      ∙ (like.states q (counts_after no_writes one.turns q) (omega arith)
      ∙ (ap (state_at (d.history q)) (like.counts q ∙ two.whole q)
      ∙ state_at-end (d.history q) (d.history q) (Extends-self (d.history q)))))

  one-pairs : AreOne m n
  one-pairs = are-one key_cmp rising-one_way m n r.ending.final.ordered s.ending.final.ordered (λ q. r.ending.final.states q ∙ (one-last q ∙ sym (s.ending.final.states q)))

  one-front : front_text (thread_text (places_by c.history) 1 1 calls ys) m shape ≡ front_text (thread_text (places_by d.history) 1 1 calls zs) n shape
  one-front =
      let final = one-map m n one-pairs in
      let line : (k : Class) → blocks_line m shape k ≡ blocks_line n shape k = (λ k. ap (λ (b : ℕ). used_line (class_word k) b (slice_index shape.blocks (class_number k))) (one-blocks m n k one-pairs)) in
      (λ j. one-thread j ++ (final j ++ (codes "arena" ++ (line_end ++ (line B16 j ++ (line B64 j ++ (line B256 j ++ line B1024 j)))))))

  pub one_text : OneText c d shape calls ys zs m n
  one_text = record {
    front = front_text (thread_text (places_by c.history) 1 1 calls ys) m shape;
    first = run-cut c shape calls ys m r;
    second = run-cut d shape calls zs n s ∙ ap (λ (f : List ℕ). f ++ last_lines d.usage shape) (sym one-front);
  }
