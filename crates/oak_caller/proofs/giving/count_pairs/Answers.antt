use Rattle.std.proofs.Common.{◌≡◌, ◌+◌, ◌-◌, ◌^◌, ℕ, List, [], ◌∷◌, ◌++◌, length, ◌∙◌, arith}
use Rattle.std.specs.Prelude.{min}
use Rattle.std.proofs.lemmas.List.{length-append}
use Rattle.oak_model.specs.declared.replies.Pair.{Pair}
use Rattle.oak_caller.specs.Scans.{present}
use Rattle.oak_caller.proofs.CursorCalls.{advanced, finds_end, finds_pair, goes_both}
use Rattle.oak_caller.proofs.giving.count_pairs.Goals as goal

pub returns-then-not-advance-clause-on : goal.returns-then-not-advance-clause-on
returns-then-not-advance-clause-on g c = let e = c.advance.ensures in goes_both c.args.cursor.now c.loop.cursor c.advance.new.self c.loop.invariant.on (advanced c.loop.cursor c.advance.new.self e.table e.low e.high e.way e.own e.cursor e.later)

pub returns-then-not-advance-clause-counts : goal.returns-then-not-advance-clause-counts
returns-then-not-advance-clause-counts g c = let i = c.loop.invariant.counts in
    (i.0, λ before h. (finds_end c.advance.result c.loop.cursor c.advance.new.self c.if-not-advance.true c.advance.ensures.advances).goes i.0 before (i.1 before h), i.2)

-- one more, as far as it counts
counts_more : (n m : ℕ) (ps : List Pair) (x : Pair) → n ≡ min (length ps) (2 ^ 64 - 1) → m ≡ min (n + 1) (2 ^ 64 - 1) → m ≡ min (length (ps ++ x ∷ [])) (2 ^ 64 - 1)
counts_more n m ps x e f = let l = length-append ps (x ∷ []) in omega arith

pub loop-preserved : goal.loop-preserved
loop-preserved g c = let i = c.loop.invariant in let e = c.advance.ensures in let n = c.advance.new.self in
    let found = finds_pair c.advance.result c.loop.cursor n c.if-not-advance.false e.advances in record {
      same_reference = e.same_reference ∙ i.same_reference;
      on = goes_both c.args.cursor.now c.loop.cursor n i.on (advanced c.loop.cursor n e.table e.low e.high e.way e.own e.cursor e.later);
      counts = (i.counts.0 ++ present n ∷ [], λ before h. found.goes i.counts.0 before (i.counts.1 before h), counts_more c.loop.count _ i.counts.0 (present n) i.counts.2 c.saturating_add-count.ensures);
    }
