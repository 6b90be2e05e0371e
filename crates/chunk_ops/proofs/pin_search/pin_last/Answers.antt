use Rattle.std.proofs.Common.{sym, subst, IfOk, IfErr, List, ℕ, Option}
use denote.Ref.{Bor}
use Rattle.oak_core.specs.Passes.{state, key, call_of}
use Rattle.chunk_ops.specs.AskedRanges.{IsLastFor, bytes_in_option}
use Rattle.chunk_ops.specs.Hints.{TriesFirst, first_room}
use Rattle.chunk_ops.specs.RoomPins.{PinsOpen, FoundMoved}
use Rattle.chunk_ops.proofs.pin_search.pin_last.Goals as goal

pub returns-in-Some-clause-pinned : goal.returns-in-Some-clause-pinned
returns-in-Some-clause-pinned c = subst (λ (b : Option (Bor (List ℕ))). IfOk c.pin_asked.result (λ p. PinsOpen (key c.args.table.now) (call_of c.args.pass.now) p.room (IsLastFor (bytes_in_option b)) (state c.args.pass.now) (state c.pin_asked.new.pass))) (sym c.in-Some.is) c.pin_asked.ensures.pinned

pub returns-in-Some-clause-moved : goal.returns-in-Some-clause-moved
returns-in-Some-clause-moved c = subst (λ (b : Option (Bor (List ℕ))). IfErr c.pin_asked.result (λ _. FoundMoved (key c.args.table.now) (call_of c.args.pass.now) (IsLastFor (bytes_in_option b)) (state c.args.pass.now) (state c.pin_asked.new.pass))) (sym c.in-Some.is) c.pin_asked.ensures.moved

pub returns-in-None-clause-pinned : goal.returns-in-None-clause-pinned
returns-in-None-clause-pinned c = subst (λ (b : Option (Bor (List ℕ))). IfOk c.pin_asked-in-None.result (λ p. PinsOpen (key c.args.table.now) (call_of c.args.pass.now) p.room (IsLastFor (bytes_in_option b)) (state c.args.pass.now) (state c.pin_asked-in-None.new.pass))) (sym c.in-None.is) c.pin_asked-in-None.ensures.pinned

pub returns-in-None-clause-moved : goal.returns-in-None-clause-moved
returns-in-None-clause-moved c = subst (λ (b : Option (Bor (List ℕ))). IfErr c.pin_asked-in-None.result (λ _. FoundMoved (key c.args.table.now) (call_of c.args.pass.now) (IsLastFor (bytes_in_option b)) (state c.args.pass.now) (state c.pin_asked-in-None.new.pass))) (sym c.in-None.is) c.pin_asked-in-None.ensures.moved

pub returns-in-Some-clause-first : goal.returns-in-Some-clause-first
returns-in-Some-clause-first c = subst (λ (b : Option (Bor (List ℕ))). TriesFirst (key c.args.table.now) (call_of c.args.pass.now) (first_room (key c.args.table.now) c.args.hint) (IsLastFor (bytes_in_option b)) c.args.pass.now c.pin_asked.new.pass) (sym c.in-Some.is) c.pin_asked.ensures.first

pub returns-in-None-clause-first : goal.returns-in-None-clause-first
returns-in-None-clause-first c = subst (λ (b : Option (Bor (List ℕ))). TriesFirst (key c.args.table.now) (call_of c.args.pass.now) (first_room (key c.args.table.now) c.args.hint) (IsLastFor (bytes_in_option b)) c.args.pass.now c.pin_asked-in-None.new.pass) (sym c.in-None.is) c.pin_asked-in-None.ensures.first
