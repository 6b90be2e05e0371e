use Rattle.std.proofs.Common.{ℕ, length, sym, subst}
use Rattle.oak_core.specs.Lack.{Lacks}
use Rattle.oak_core.specs.Passes.{state, key as sizes, call_of}
use Rattle.chunk_ops.proofs.MeetingCalls.{only_in}
use Rattle.oak_map.specs.declared.waiting.TheConstants.{LOOKS}
use Rattle.oak_map.specs.declared.going_on.Way.{Way}
use Rattle.oak_map.specs.MakingRoom.{FindsWay, IsRefused}
use Rattle.oak_map.specs.Maps.{table_of}
use Rattle.oak_map.proofs.GoingCalls.{going_more, going_tried, tries_halves}
use Rattle.oak_map.proofs.LacksNow.{lacks_full, lacks_going, lacks_now}
use Rattle.oak_map.proofs.WaysMade.{busy_tries, halted_tries, loosened_tries, opened_way}
use Rattle.oak_map.proofs.going_on.make_way.Goals as goal

-- what it lacks, once it has settled

pub refuse-requires-clause-lacks : goal.refuse-requires-clause-lacks
refuse-requires-clause-lacks g c κs lives q = let z = sizes (table_of c.args.map.now) in let call = call_of c.args.pass.now in let t = c.requires.tried in let x = state c.find_way.new.pass in let lack = c.in-Ok-Lacks.lack in
    let n = lacks_now z call c.args.key.now c.args.halt c.args.settled.now t.0 t.1 t.2 (state c.args.pass.now) t.3 lack x (subst (λ (k : Way). FindsWay k c.args.halt (sizes (table_of c.args.map.now)) (call_of c.args.pass.now) c.args.key.now (state c.args.pass.now) (state c.find_way.new.pass)) c.in-Ok-Lacks.field-0-is c.in-Ok-Lacks.ensures.way) in
    (n.spare, length t.1.findings.met, subst (λ (k : ℕ). Lacks z k lack n.spare (length t.1.findings.met) (length x.findings.met) x.findings) (sym c.find_way.ensures.own.call) (n.lacks q))

pub returns-in-Ok-Lacks-clause-full : goal.returns-in-Ok-Lacks-clause-full
returns-in-Ok-Lacks-clause-full g c ask u v t = let z = sizes (table_of c.args.map.now) in let call = call_of c.args.pass.now in let x = state c.find_way.new.pass in let y = state c.refuse.new.pass in let lack = c.in-Ok-Lacks.lack in
    lacks_full z call c.args.key.now c.args.halt c.args.settled.now ask u v (state c.args.pass.now) t lack x y (subst (λ (k : Way). FindsWay k c.args.halt (sizes (table_of c.args.map.now)) (call_of c.args.pass.now) c.args.key.now (state c.args.pass.now) (state c.find_way.new.pass)) c.in-Ok-Lacks.field-0-is c.in-Ok-Lacks.ensures.way) c.refuse.new.settled c.refuse.result
    (subst (λ (k : ℕ). IsRefused z k c.args.settled.now c.refuse.new.settled lack c.refuse.result x y) c.find_way.ensures.own.call c.refuse.ensures.refused)

pub returns-in-Ok-Lacks-clause-going : goal.returns-in-Ok-Lacks-clause-going
returns-in-Ok-Lacks-clause-going g c ask u v t = let z = sizes (table_of c.args.map.now) in let call = call_of c.args.pass.now in let x = state c.find_way.new.pass in let y = state c.refuse.new.pass in let lack = c.in-Ok-Lacks.lack in
    lacks_going z call c.args.key.now c.args.halt c.args.settled.now ask u v (state c.args.pass.now) t lack x y (subst (λ (k : Way). FindsWay k c.args.halt (sizes (table_of c.args.map.now)) (call_of c.args.pass.now) c.args.key.now (state c.args.pass.now) (state c.find_way.new.pass)) c.in-Ok-Lacks.field-0-is c.in-Ok-Lacks.ensures.way) c.refuse.new.settled c.refuse.result
    (subst (λ (k : ℕ). IsRefused z k c.args.settled.now c.refuse.new.settled lack c.refuse.result x y) c.find_way.ensures.own.call c.refuse.ensures.refused)

-- it goes on

pub returns-in-Ok-Loosened-clause-going : goal.returns-in-Ok-Loosened-clause-going
returns-in-Ok-Loosened-clause-going g c ask u v t = let z = sizes (table_of c.args.map.now) in let call = call_of c.args.pass.now in let key = c.args.key.now in let w = state c.args.pass.now in let x = state c.find_way.new.pass in
    going_more z call c.args.settled.now u w x (going_tried z call key c.args.halt c.args.settled.now ask u v w t) (loosened_tries z call key c.args.halt w x (subst (λ (k : Way). FindsWay k c.args.halt (sizes (table_of c.args.map.now)) (call_of c.args.pass.now) c.args.key.now (state c.args.pass.now) (state c.find_way.new.pass)) c.in-Ok-Loosened.field-0-is c.in-Ok-Loosened.ensures.way))

pub returns-in-Ok-Opened-clause-going : goal.returns-in-Ok-Opened-clause-going
returns-in-Ok-Opened-clause-going g c ask u v t = let z = sizes (table_of c.args.map.now) in let call = call_of c.args.pass.now in let key = c.args.key.now in let w = state c.args.pass.now in let x = state c.find_way.new.pass in let y = state c.publish_upper.new.pass in
    going_more z call c.args.settled.now u w y (going_tried z call key c.args.halt c.args.settled.now ask u v w t)
    (tries_halves z call c.in-Ok-Opened.room key w x y (subst (λ (k : Way). FindsWay k c.args.halt (sizes (table_of c.args.map.now)) (call_of c.args.pass.now) c.args.key.now (state c.args.pass.now) (state c.find_way.new.pass)) c.in-Ok-Opened.field-0-is c.in-Ok-Opened.ensures.way).1 (only_in call (call_of c.find_way.new.pass) x y c.find_way.ensures.own.call c.publish_upper.ensures.only))

pub returns-in-Ok-Opened-clause-way : goal.returns-in-Ok-Opened-clause-way
returns-in-Ok-Opened-clause-way g c = let z = sizes (table_of c.args.map.now) in let call = call_of c.args.pass.now in let x = state c.find_way.new.pass in let y = state c.publish_upper.new.pass in
    opened_way z call c.args.key.now c.args.halt (state c.args.pass.now) x c.args.settled.now c.in-Ok-Opened.room y (subst (λ (k : Way). FindsWay k c.args.halt (sizes (table_of c.args.map.now)) (call_of c.args.pass.now) c.args.key.now (state c.args.pass.now) (state c.find_way.new.pass)) c.in-Ok-Opened.field-0-is c.in-Ok-Opened.ensures.way) (only_in call (call_of c.find_way.new.pass) x y c.find_way.ensures.own.call c.publish_upper.ensures.only)

pub returns-in-Ok-Halted-clause-going : goal.returns-in-Ok-Halted-clause-going
returns-in-Ok-Halted-clause-going g c ask u v t = let z = sizes (table_of c.args.map.now) in let call = call_of c.args.pass.now in let key = c.args.key.now in let w = state c.args.pass.now in let x = state c.find_way.new.pass in
    going_more z call c.args.settled.now u w x (going_tried z call key c.args.halt c.args.settled.now ask u v w t) (halted_tries z call key c.args.halt w x (subst (λ (k : Way). FindsWay k c.args.halt (sizes (table_of c.args.map.now)) (call_of c.args.pass.now) c.args.key.now (state c.args.pass.now) (state c.find_way.new.pass)) c.in-Ok-Halted.field-0-is c.in-Ok-Halted.ensures.way))

pub returns-in-Err-clause-going : goal.returns-in-Err-clause-going
returns-in-Err-clause-going g c ask u v t = let z = sizes (table_of c.args.map.now) in let call = call_of c.args.pass.now in let key = c.args.key.now in let w = state c.args.pass.now in let x = state c.find_way.new.pass in
    going_more z call c.args.settled.now u w x (going_tried z call key c.args.halt c.args.settled.now ask u v w t) (busy_tries z call key c.args.halt w x LOOKS c.in-Err.ensures.busy)
