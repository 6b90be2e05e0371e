use Rattle.std.proofs.Common.{rules, ◌≡◌, List, ℕ, Option, Some, sym, ap, subst}
use Rattle.chunk_ops.specs.AskedRanges.{bytes_in_option}
use Rattle.oak_caller.specs.Clearing.{ClearsPiece, ClearsSoFar, FailsIn, FailsPiece, at_count}
use Rattle.oak_caller.proofs.ClearedKeys.{first_fails, first_piece, many_both, next_fails, next_piece, views_both}
use Rattle.oak_caller.proofs.caller.Caller.clear.Goals as goal

pub returns-in_err-last-clause-failed : goal.returns-in_err-last-clause-failed
returns-in_err-last-clause-failed g c = let low = bytes_in_option c.args.low in let high = bytes_in_option c.args.high in let a = at_count 0 c.args.self.now in let d = c.clear_piece.new.self in
    let fails : FailsPiece c.in_err-last.field-0.0 low high a d = search (rules, c.in_err-last.ensures.failed) in
    let all : FailsIn c.in_err-last.field-0.0 low high a d = first_fails c.in_err-last.field-0.0 low high a d fails in
    search (rules, all)

pub returns-in_err-last-2-clause-failed : goal.returns-in_err-last-2-clause-failed
returns-in_err-last-2-clause-failed g c = let low = bytes_in_option c.args.low in let high = bytes_in_option c.args.high in let k : List ℕ = c.in-Some-last.key in let a = at_count 0 c.args.self.now in let b = at_count c.loop.removed c.loop.self in let d = c.clear_piece-in-loop.new.self in
    let so : ClearsSoFar (Some k) low high a b = subst (λ (o : Option (List ℕ)). ClearsSoFar o low high a b) c.in-Some-last.is c.loop.invariant.done in
    let fails : FailsPiece c.in_err-last-2.field-0.0 (Some k) high b d = search (rules, c.in_err-last-2.ensures.failed, c.bytes.ensures.value) in
    let all : FailsIn c.in_err-last-2.field-0.0 low high a d = next_fails k low high a b so c.in_err-last-2.field-0.0 d fails in
    search (rules, all)

pub loop-init : goal.loop-init
loop-init g c = let low = bytes_in_option c.args.low in let high = bytes_in_option c.args.high in let a = at_count 0 c.args.self.now in let d = at_count c.clear_piece.new.removed c.clear_piece.new.self in
    let piece : ClearsPiece c.in_ok-last.last low high a d = search (rules, c.in_ok-last.ensures.cleared) in record {
      on = c.clear_piece.ensures.on;
      views = c.clear_piece.ensures.views;
      done = first_piece c.in_ok-last.last low high a d piece;
    }

pub loop-preserved : goal.loop-preserved
loop-preserved g c = let low = bytes_in_option c.args.low in let high = bytes_in_option c.args.high in let k : List ℕ = c.in-Some-last.key in let a = at_count 0 c.args.self.now in let b = at_count c.loop.removed c.loop.self in let d = at_count c.clear_piece-in-loop.new.removed c.clear_piece-in-loop.new.self in
    let so : ClearsSoFar (Some k) low high a b = subst (λ (o : Option (List ℕ)). ClearsSoFar o low high a b) c.in-Some-last.is c.loop.invariant.done in
    let piece : ClearsPiece c.in_ok-last-2.last (Some k) high b d = search (rules, c.in_ok-last-2.ensures.cleared, c.bytes.ensures.value) in
    record {
      on = many_both c.args.self.now c.loop.self c.clear_piece-in-loop.new.self c.loop.invariant.on c.clear_piece-in-loop.ensures.on;
      views = views_both c.args.self.now c.loop.self c.clear_piece-in-loop.new.self c.loop.invariant.views c.clear_piece-in-loop.ensures.views;
      done = next_piece k low high a b so c.in_ok-last-2.last d piece;
    }
