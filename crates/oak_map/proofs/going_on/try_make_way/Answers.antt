use Rattle.std.proofs.Common.{ℕ, length, Option, IfSome, IfNone, sym, subst}
use Rattle.oak_model.specs.declared.replies.Lack.{Lack}
use Rattle.oak_core.specs.Lack.{Lacks}
use Rattle.oak_core.specs.Passes.{state, key as sizes, call_of}
use Rattle.rebalance.specs.Busy.{GivesUpSettling}
use Rattle.chunk_ops.proofs.MeetingCalls.{only_none}
use Rattle.oak_map.specs.declared.going_on.Way.{Way}
use Rattle.oak_map.specs.MakingRoom.{FindsWay, IsRefused, MakesWay}
use Rattle.oak_map.specs.Putting.{Going}
use Rattle.oak_map.specs.Replying.{AnswersFull, Tries}
use Rattle.oak_map.specs.Stopping.{IsHindered}
use Rattle.oak_map.proofs.GoingCalls.{going_more, going_tried}
use Rattle.oak_map.proofs.LacksNow.{lacks_full, lacks_going, lacks_now}
use Rattle.oak_map.proofs.StoppedCalls.{err_as, hindered_settling, hindered_split, ok_as}
use Rattle.oak_map.proofs.WaysMade.{halted_tries, lacks_rest, lacks_way, loosened_tries, opened_tries, opened_way}
use Rattle.oak_map.proofs.going_on.try_make_way.Goals as goal

-- what it lacks, once it has settled

pub try_refuse-requires-clause-lacks : goal.try_refuse-requires-clause-lacks
try_refuse-requires-clause-lacks c q = let z = sizes c.args.table.now in let call = call_of c.args.pass.now in let t = c.requires.tried in let x = state c.find_way.new.pass in let lack = c.in-Ok-Lacks.lack in
    let n = lacks_now z call c.args.key.now c.args.halt c.args.settled.now t.0 t.1 t.2 (state c.args.pass.now) t.3 lack x (subst (λ (k : Way). FindsWay k c.args.halt (sizes c.args.table.now) (call_of c.args.pass.now) c.args.key.now (state c.args.pass.now) (state c.find_way.new.pass)) c.in-Ok-Lacks.field-0-is c.in-Ok-Lacks.ensures.way) in
    (n.spare, length t.1.findings.met, subst (λ (k : ℕ). Lacks z k lack n.spare (length t.1.findings.met) (length x.findings.met) x.findings) (sym c.find_way.ensures.own.call) (n.lacks q))

pub returns-in-Ok-Lacks-clause-full : goal.returns-in-Ok-Lacks-clause-full
returns-in-Ok-Lacks-clause-full c ask u v t = let z = sizes c.args.table.now in let call = call_of c.args.pass.now in let key = c.args.key.now in let halt = c.args.halt in let w = state c.args.pass.now in let x = state c.find_way.new.pass in let y = state c.try_refuse.new.pass in let lack = c.in-Ok-Lacks.lack in
    ok_as (λ (o : Option Lack). IsRefused z (call_of c.find_way.new.pass) c.args.settled.now c.try_refuse.new.settled lack o x y) (λ (o : Option Lack). IfSome o (λ l. AnswersFull z call key ask l u y))
    (λ o r. lacks_full z call key halt c.args.settled.now ask u v w t lack x y (subst (λ (k : Way). FindsWay k c.args.halt (sizes c.args.table.now) (call_of c.args.pass.now) c.args.key.now (state c.args.pass.now) (state c.find_way.new.pass)) c.in-Ok-Lacks.field-0-is c.in-Ok-Lacks.ensures.way) c.try_refuse.new.settled o (subst (λ (k : ℕ). IsRefused z k c.args.settled.now c.try_refuse.new.settled lack o x y) c.find_way.ensures.own.call r)) c.try_refuse.result c.try_refuse.ensures.refused

pub returns-in-Ok-Lacks-clause-going : goal.returns-in-Ok-Lacks-clause-going
returns-in-Ok-Lacks-clause-going c ask u v t = let z = sizes c.args.table.now in let call = call_of c.args.pass.now in let key = c.args.key.now in let halt = c.args.halt in let w = state c.args.pass.now in let x = state c.find_way.new.pass in let y = state c.try_refuse.new.pass in let lack = c.in-Ok-Lacks.lack in
    ok_as (λ (o : Option Lack). IsRefused z (call_of c.find_way.new.pass) c.args.settled.now c.try_refuse.new.settled lack o x y) (λ (o : Option Lack). IfNone o (Going z call c.try_refuse.new.settled u y))
    (λ o r. lacks_going z call key halt c.args.settled.now ask u v w t lack x y (subst (λ (k : Way). FindsWay k c.args.halt (sizes c.args.table.now) (call_of c.args.pass.now) c.args.key.now (state c.args.pass.now) (state c.find_way.new.pass)) c.in-Ok-Lacks.field-0-is c.in-Ok-Lacks.ensures.way) c.try_refuse.new.settled o (subst (λ (k : ℕ). IsRefused z k c.args.settled.now c.try_refuse.new.settled lack o x y) c.find_way.ensures.own.call r)) c.try_refuse.result c.try_refuse.ensures.refused

pub returns-in-Ok-Lacks-clause-way : goal.returns-in-Ok-Lacks-clause-way
returns-in-Ok-Lacks-clause-way c = let z = sizes c.args.table.now in let call = call_of c.args.pass.now in let key = c.args.key.now in let halt = c.args.halt in let w = state c.args.pass.now in let x = state c.find_way.new.pass in let y = state c.try_refuse.new.pass in let lack = c.in-Ok-Lacks.lack in
    ok_as (λ (o : Option Lack). IsRefused z (call_of c.find_way.new.pass) c.args.settled.now c.try_refuse.new.settled lack o x y) (λ (o : Option Lack). MakesWay halt z call key c.args.settled.now c.try_refuse.new.settled o w y)
    (λ o r. lacks_way z call key halt w x c.args.settled.now lack c.try_refuse.new.settled o y (subst (λ (k : Way). FindsWay k c.args.halt (sizes c.args.table.now) (call_of c.args.pass.now) c.args.key.now (state c.args.pass.now) (state c.find_way.new.pass)) c.in-Ok-Lacks.field-0-is c.in-Ok-Lacks.ensures.way) (subst (λ (k : ℕ). IsRefused z k c.args.settled.now c.try_refuse.new.settled lack o x y) c.find_way.ensures.own.call r)) c.try_refuse.result c.try_refuse.ensures.refused

pub returns-in-Ok-Lacks-clause-rest : goal.returns-in-Ok-Lacks-clause-rest
returns-in-Ok-Lacks-clause-rest c = let z = sizes c.args.table.now in let call = call_of c.args.pass.now in let key = c.args.key.now in let halt = c.args.halt in let w = state c.args.pass.now in let x = state c.find_way.new.pass in let y = state c.try_refuse.new.pass in let lack = c.in-Ok-Lacks.lack in
    ok_as (λ (o : Option Lack). IsRefused z (call_of c.find_way.new.pass) c.args.settled.now c.try_refuse.new.settled lack o x y) (λ (o : Option Lack). IfNone o (Tries z call w y))
    (λ o r. lacks_rest z call key halt w x lack y (subst (λ (k : Way). FindsWay k c.args.halt (sizes c.args.table.now) (call_of c.args.pass.now) c.args.key.now (state c.args.pass.now) (state c.find_way.new.pass)) c.in-Ok-Lacks.field-0-is c.in-Ok-Lacks.ensures.way) c.args.settled.now c.try_refuse.new.settled o (subst (λ (k : ℕ). IsRefused z k c.args.settled.now c.try_refuse.new.settled lack o x y) c.find_way.ensures.own.call r)) c.try_refuse.result c.try_refuse.ensures.refused

pub returns-in-Ok-Lacks-clause-busy : goal.returns-in-Ok-Lacks-clause-busy
returns-in-Ok-Lacks-clause-busy c = let z = sizes c.args.table.now in let call = call_of c.args.pass.now in let key = c.args.key.now in let halt = c.args.halt in let w = state c.args.pass.now in let x = state c.find_way.new.pass in let y = state c.try_refuse.new.pass in
    err_as (GivesUpSettling z (call_of c.find_way.new.pass) c.args.looks x y) (IsHindered z call c.args.looks key w y)
    (λ f. hindered_settling z call c.args.looks key halt c.in-Ok-Lacks.lack w x y (subst (λ (k : Way). FindsWay k c.args.halt (sizes c.args.table.now) (call_of c.args.pass.now) c.args.key.now (state c.args.pass.now) (state c.find_way.new.pass)) c.in-Ok-Lacks.field-0-is c.in-Ok-Lacks.ensures.way) (subst (λ (k : ℕ). GivesUpSettling z k c.args.looks x y) c.find_way.ensures.own.call f)) c.try_refuse.result c.try_refuse.ensures.busy

-- it goes on

pub returns-in-Ok-Loosened-clause-going : goal.returns-in-Ok-Loosened-clause-going
returns-in-Ok-Loosened-clause-going c ask u v t = let z = sizes c.args.table.now in let call = call_of c.args.pass.now in let key = c.args.key.now in let w = state c.args.pass.now in let x = state c.find_way.new.pass in
    going_more z call c.args.settled.now u w x (going_tried z call key c.args.halt c.args.settled.now ask u v w t) (loosened_tries z call key c.args.halt w x (subst (λ (k : Way). FindsWay k c.args.halt (sizes c.args.table.now) (call_of c.args.pass.now) c.args.key.now (state c.args.pass.now) (state c.find_way.new.pass)) c.in-Ok-Loosened.field-0-is c.in-Ok-Loosened.ensures.way))

pub returns-in-Ok-Opened-clause-going : goal.returns-in-Ok-Opened-clause-going
returns-in-Ok-Opened-clause-going c ask u v t = let z = sizes c.args.table.now in let call = call_of c.args.pass.now in let key = c.args.key.now in let halt = c.args.halt in let w = state c.args.pass.now in let x = state c.find_way.new.pass in going_more z call c.args.settled.now u w x (going_tried z call key halt c.args.settled.now ask u v w t) (opened_tries z call key halt w x c.in-Ok-Opened.field-0-0 (subst (λ (k : Way). FindsWay k c.args.halt (sizes c.args.table.now) (call_of c.args.pass.now) c.args.key.now (state c.args.pass.now) (state c.find_way.new.pass)) c.in-Ok-Opened.field-0-is c.in-Ok-Opened.ensures.way))

pub returns-in-Ok-Opened-clause-way : goal.returns-in-Ok-Opened-clause-way
returns-in-Ok-Opened-clause-way c = let z = sizes c.args.table.now in let call = call_of c.args.pass.now in let key = c.args.key.now in let halt = c.args.halt in let w = state c.args.pass.now in let x = state c.find_way.new.pass in opened_way z call key halt w x c.args.settled.now c.in-Ok-Opened.field-0-0 x (subst (λ (k : Way). FindsWay k c.args.halt (sizes c.args.table.now) (call_of c.args.pass.now) c.args.key.now (state c.args.pass.now) (state c.find_way.new.pass)) c.in-Ok-Opened.field-0-is c.in-Ok-Opened.ensures.way) (only_none call x)

pub returns-in-Ok-Opened-clause-rest : goal.returns-in-Ok-Opened-clause-rest
returns-in-Ok-Opened-clause-rest c = let z = sizes c.args.table.now in let call = call_of c.args.pass.now in let key = c.args.key.now in let halt = c.args.halt in let w = state c.args.pass.now in let x = state c.find_way.new.pass in opened_tries z call key halt w x c.in-Ok-Opened.field-0-0 (subst (λ (k : Way). FindsWay k c.args.halt (sizes c.args.table.now) (call_of c.args.pass.now) c.args.key.now (state c.args.pass.now) (state c.find_way.new.pass)) c.in-Ok-Opened.field-0-is c.in-Ok-Opened.ensures.way)

pub returns-in-Ok-Loosened-clause-rest : goal.returns-in-Ok-Loosened-clause-rest
returns-in-Ok-Loosened-clause-rest c = let z = sizes c.args.table.now in let call = call_of c.args.pass.now in let key = c.args.key.now in let halt = c.args.halt in let w = state c.args.pass.now in let x = state c.find_way.new.pass in loosened_tries z call key halt w x (subst (λ (k : Way). FindsWay k c.args.halt (sizes c.args.table.now) (call_of c.args.pass.now) c.args.key.now (state c.args.pass.now) (state c.find_way.new.pass)) c.in-Ok-Loosened.field-0-is c.in-Ok-Loosened.ensures.way)

pub returns-in-Ok-Halted-clause-rest : goal.returns-in-Ok-Halted-clause-rest
returns-in-Ok-Halted-clause-rest c = let z = sizes c.args.table.now in let call = call_of c.args.pass.now in let key = c.args.key.now in let halt = c.args.halt in let w = state c.args.pass.now in let x = state c.find_way.new.pass in halted_tries z call key halt w x (subst (λ (k : Way). FindsWay k c.args.halt (sizes c.args.table.now) (call_of c.args.pass.now) c.args.key.now (state c.args.pass.now) (state c.find_way.new.pass)) c.in-Ok-Halted.field-0-is c.in-Ok-Halted.ensures.way)

pub returns-in-Ok-Halted-clause-going : goal.returns-in-Ok-Halted-clause-going
returns-in-Ok-Halted-clause-going c ask u v t = let z = sizes c.args.table.now in let call = call_of c.args.pass.now in let key = c.args.key.now in let w = state c.args.pass.now in let x = state c.find_way.new.pass in
    going_more z call c.args.settled.now u w x (going_tried z call key c.args.halt c.args.settled.now ask u v w t) (halted_tries z call key c.args.halt w x (subst (λ (k : Way). FindsWay k c.args.halt (sizes c.args.table.now) (call_of c.args.pass.now) c.args.key.now (state c.args.pass.now) (state c.find_way.new.pass)) c.in-Ok-Halted.field-0-is c.in-Ok-Halted.ensures.way))

pub returns-in-Err-clause-busy : goal.returns-in-Err-clause-busy
returns-in-Err-clause-busy c = let z = sizes c.args.table.now in let call = call_of c.args.pass.now in let key = c.args.key.now in let halt = c.args.halt in let w = state c.args.pass.now in let x = state c.find_way.new.pass in hindered_split z call c.args.looks key halt w x c.in-Err.ensures.busy
