use Rattle.std.proofs.Common.{sym, subst}
use Rattle.oak_core.specs.declared.table.Pass.{Pass}
use Rattle.oak_core.specs.Passes.{Stays, call_of, state}
use Rattle.chunk_ops.specs.PinRecords.{OnlyMeets}
use Rattle.chunk_ops.proofs.MeetingCalls.{only_both, only_in}
use Rattle.map_tests.proofs.map.index_tests.is_named.Goals as goal

-- one look behind another
meets_both : (p q r : Pass) → Stays p q → OnlyMeets (call_of p) (state p) (state q) → OnlyMeets (call_of q) (state q) (state r) → OnlyMeets (call_of p) (state p) (state r)
meets_both p q r s a b = only_both (call_of p) (state p) (state q) (state r) a (only_in (call_of p) (call_of q) (state q) (state r) s.call b)

pub returns-then-is_none-clause-only : goal.returns-then-is_none-clause-only
returns-then-is_none-clause-only c = let l = c.last_named-last in meets_both c.args.pass.now l.new.pass c.low_key.new.pass l.ensures.own l.ensures.only c.low_key.ensures.only

pub returns-else-is_none-clause-only : goal.returns-else-is_none-clause-only
returns-else-is_none-clause-only c = let l = c.last_named-last in meets_both c.args.pass.now l.new.pass c.low_key.new.pass l.ensures.own l.ensures.only c.low_key.ensures.only

pub returns-then-eq-clause-only : goal.returns-then-eq-clause-only
returns-then-eq-clause-only c = let p = c.args.pass.now in let l = c.last_named-last in
    subst (λ (r : Pass). OnlyMeets (call_of p) (state p) (state r)) (sym c.hint_now-first.ensures) (meets_both p l.new.pass c.low_key.new.pass l.ensures.own l.ensures.only c.low_key.ensures.only)

pub returns-else-eq-clause-only : goal.returns-else-eq-clause-only
returns-else-eq-clause-only c = let p = c.args.pass.now in let l = c.last_named-last in
    subst (λ (r : Pass). OnlyMeets (call_of p) (state p) (state r)) (sym c.hint_now-first.ensures) (meets_both p l.new.pass c.low_key.new.pass l.ensures.own l.ensures.only c.low_key.ensures.only)
