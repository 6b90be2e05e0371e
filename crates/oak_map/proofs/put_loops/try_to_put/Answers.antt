use Rattle.std.proofs.Common.{Option, IfSome, IfNone, ℕ, Ok, refl, ◌∙◌, subst, arith, Some, None, inl, inr}
use Rattle.oak_model.specs.declared.cells.CellCall.{CellCall}
use Rattle.oak_model.specs.declared.replies.Lack.{Lack}
use Rattle.oak_model.specs.declared.replies.Wrote.TheVariants.{Full}
use Rattle.oak_model.proofs.KeyLaws.{is_key-of}
use Rattle.oak_core.specs.Passes.{call_of, key as sizes, state}
use Rattle.chunk_ops.proofs.WordParts.{slice_bytes}
use Rattle.point_ops.specs.Halting.{Halts}
use Rattle.point_ops.specs.LoneReplies.{WroteAlone}
use Rattle.point_ops.specs.Parts.{WroteFits}
use Rattle.point_ops.proofs.RecipesFed.{feeds_since, says_both, says_same}
use Rattle.oak_map.specs.MakingRoom.{MakesWay}
use Rattle.oak_map.specs.Putting.{Going}
use Rattle.oak_map.specs.Replying.{AnswersFull, Tries}
use Rattle.oak_map.proofs.AnsweredPuts.{noted_claims, put_claims, put_fits, put_idle}
use Rattle.oak_map.proofs.GoingCalls.{going_first, last_try}
use Rattle.oak_map.proofs.LonePutCalls.{idle_behind, lone_first, put_gives_up, put_goes_on, put_sees}
use Rattle.oak_map.proofs.LoneRooms.{refused_alone, refused_rooms, replied_rooms}
use Rattle.oak_map.proofs.RecipesFed.{put_feeds_alone}
use Rattle.oak_map.proofs.ReplyAnswers.{replied_alone}
use Rattle.oak_map.proofs.ReplyWords.{replied_words}
use Rattle.oak_map.proofs.SameScratch.{used_both, used_then}
use Rattle.rebalance.proofs.Repeated.{repeats_more}
use Rattle.oak_map.specs.Stopping.{IsHindered, TriesOn}
use Rattle.oak_map.proofs.LoneTries.{none_tried, tried_more}
use Rattle.oak_map.proofs.StoppedCalls.{refused_as, stops_hindered, stops_tried}
use Rattle.oak_map.proofs.Trying.{idle_on}
use Rattle.oak_map.proofs.put_loops.try_to_put.Goals as goal

pub loop-init : goal.loop-init
loop-init g c = let z = sizes c.args.table.now in let v = state c.args.pass.now in record {
  stays = record { table = refl; seat = refl; call = refl; scratch = λ _. refl };
  going = going_first z (call_of c.args.pass.now) v;
  lone = lone_first z c.args.key.now (g.A.Asking.ask c.args.asking.now c.args.value.now) v;
  first = λ _. inl refl;
  asks = refl;
  counted = refl;
  fed = says_same (g.A.Asking.says c.args.asking.now);
  tried = refl;
  few = none_tried z c.args.key.now v;
}

pub try_once-requires-clause-few : goal.try_once-requires-clause-few
try_once-requires-clause-few g c = let a = c.requires.few in let b = c.loop.invariant.counted in omega arith

-- ---- it is answered

pub returns-in-Ok-clause-wrote : goal.returns-in-Ok-clause-wrote
returns-in-Ok-clause-wrote g c = let z = sizes c.args.table.now in let call = call_of c.args.pass.now in let key = c.args.key.now in let u = state c.args.pass.now in let v = state c.loop.pass in let w = state c.try_once.new.pass in let i = c.loop.invariant in
    put_fits z call u v w i.going.tries c.in-Ok.wrote key (g.A.Asking.ask c.args.asking.now c.args.value.now) (subst (λ (a : CellCall). WroteFits c.in-Ok.wrote call key a v w) i.asks (subst (λ (k : ℕ). WroteFits c.in-Ok.wrote k key (g.A.Asking.ask c.loop.asking c.args.value.now) v w) i.stays.call c.in-Ok.ensures.wrote))

pub returns-in-Ok-clause-claims : goal.returns-in-Ok-clause-claims
returns-in-Ok-clause-claims g c = let z = sizes c.args.table.now in let call = call_of c.args.pass.now in let key = c.args.key.now in let u = state c.args.pass.now in let v = state c.loop.pass in let w = state c.try_once.new.pass in let i = c.loop.invariant in let ask = g.A.Asking.ask c.loop.asking c.args.value.now in
    put_claims z call u v w i.going.tries c.in-Ok.wrote key ask (subst (λ (k : ℕ). WroteFits c.in-Ok.wrote k key ask v w) i.stays.call c.in-Ok.ensures.wrote)

pub returns-in-Ok-clause-own : goal.returns-in-Ok-clause-own
returns-in-Ok-clause-own g c = used_both g.A.Asking.uses_scratch c.args.pass.now c.loop.pass c.try_once.new.pass c.loop.invariant.stays c.try_once.ensures.own

pub returns-in-Ok-clause-idle : goal.returns-in-Ok-clause-idle
returns-in-Ok-clause-idle g c = put_idle (sizes c.args.table.now) (call_of c.args.pass.now) c.args.key.now (g.A.Asking.ask c.args.asking.now c.args.value.now) c.in-Ok.wrote (state c.args.pass.now) (state c.try_once.new.pass) c.requires.idle (returns-in-Ok-clause-wrote g c)

pub returns-in-Ok-clause-alone_reply : goal.returns-in-Ok-clause-alone_reply
returns-in-Ok-clause-alone_reply g c = let z = sizes c.args.table.now in let key = c.args.key.now in let u = state c.args.pass.now in let v = state c.loop.pass in let w = state c.try_once.new.pass in let i = c.loop.invariant in let e = c.in-Ok.ensures in
    replied_alone c.in-Ok.wrote z key (g.A.Asking.ask c.args.asking.now c.args.value.now) c.loop.settled u v w i.lone i.going.tries.holds.numbers (λ alone. subst (λ (a : CellCall). WroteAlone c.in-Ok.wrote z key a v w) i.asks (e.alone_reply alone))

pub returns-in-Ok-clause-alone : goal.returns-in-Ok-clause-alone
returns-in-Ok-clause-alone g c = let z = sizes c.args.table.now in let call = call_of c.loop.pass in let key = c.args.key.now in let u = state c.args.pass.now in let v = state c.loop.pass in let w = state c.try_once.new.pass in let i = c.loop.invariant in let e = c.in-Ok.ensures in
    replied_words z call (call_of c.args.pass.now) key c.args.value.now (g.A.Asking.ask c.args.asking.now c.args.value.now) c.loop.settled u v w c.in-Ok.wrote (is_key-of key c.requires.key (slice_bytes key c.type_inv.key)) c.requires.idle i.going i.lone
    (subst (λ (a : CellCall). WroteFits c.in-Ok.wrote call key a v w) i.asks e.wrote) (λ alone. subst (λ (a : CellCall). WroteAlone c.in-Ok.wrote z key a v w) i.asks (e.alone_reply alone)) e.ended e.alone

pub returns-in-Ok-clause-alone_rooms : goal.returns-in-Ok-clause-alone_rooms
returns-in-Ok-clause-alone_rooms g c alone = let z = sizes c.args.table.now in let key = c.args.key.now in let u = state c.args.pass.now in let v = state c.loop.pass in let w = state c.try_once.new.pass in let i = c.loop.invariant in let e = c.in-Ok.ensures in
    replied_rooms z (call_of c.loop.pass) key c.args.value.now (g.A.Asking.ask c.args.asking.now c.args.value.now) u v w c.in-Ok.wrote (i.first alone) (subst (λ (a : CellCall). WroteFits c.in-Ok.wrote (call_of c.loop.pass) key a v w) i.asks e.wrote) e.alone

pub returns-in-Ok-clause-fed : goal.returns-in-Ok-clause-fed
returns-in-Ok-clause-fed g c = feeds_since (Ok c.in-Ok.wrote) c.args.key.now (g.A.Asking.says c.args.asking.now) (g.A.Asking.says c.loop.asking) (g.A.Asking.says c.try_once.new.self) (state c.try_once.new.pass) c.loop.invariant.fed c.in-Ok.ensures.fed

pub returns-in-Ok-clause-alone_fed : goal.returns-in-Ok-clause-alone_fed
returns-in-Ok-clause-alone_fed g c alone = put_feeds_alone c.in-Ok.wrote (sizes c.args.table.now) (call_of c.args.pass.now) c.args.key.now (g.A.Asking.ask c.args.asking.now c.args.value.now) (g.A.Asking.says c.args.asking.now) (g.A.Asking.says c.try_once.new.self) (state c.args.pass.now) (state c.try_once.new.pass) alone
    (returns-in-Ok-clause-wrote g c) (returns-in-Ok-clause-alone_reply g c) (returns-in-Ok-clause-fed g c)

-- ---- it was refused

pub try_make_way-requires-clause-tried : goal.try_make_way-requires-clause-tried
try_make_way-requires-clause-tried g c = let ask = g.A.Asking.ask c.loop.asking c.args.value.now in let u = state c.args.pass.now in let v = state c.loop.pass in let i = c.loop.invariant in let o = c.try_once.ensures.own in let e = c.in-Err.ensures in
    (ask, u, v, last_try (sizes c.args.table.now) (call_of c.args.pass.now) (call_of c.loop.pass) (call_of c.try_once.new.pass) c.args.key.now c.in-Err.halt c.loop.settled ask u v (state c.try_once.new.pass) i.stays.call o.call i.going e.refused e.halted)

-- ---- it lacks something

pub returns-in-Ok-Some-clause-wrote : goal.returns-in-Ok-Some-clause-wrote
returns-in-Ok-Some-clause-wrote g c = let z = sizes c.args.table.now in let key = c.args.key.now in let ask = g.A.Asking.ask c.args.asking.now c.args.value.now in let u = state c.args.pass.now in let v = state c.loop.pass in let w = state c.try_once.new.pass in let i = c.loop.invariant in let o = c.try_once.ensures.own in let e = c.in-Err.ensures in
    subst (λ (k : ℕ). AnswersFull z k key ask c.in-Ok-Some.lack u (state c.try_make_way.new.pass)) (o.call ∙ i.stays.call)
    (subst (λ (o : Option Lack). IfSome o (λ l. AnswersFull z (call_of c.try_once.new.pass) key ask l u (state c.try_make_way.new.pass))) c.in-Ok-Some.field-0-is (c.in-Ok-Some.ensures.full ask u v (last_try z (call_of c.args.pass.now) (call_of c.loop.pass) (call_of c.try_once.new.pass) key c.in-Err.halt c.loop.settled ask u v w i.stays.call o.call i.going e.refused
    (subst (λ (a : CellCall). Halts c.in-Err.halt z (call_of c.loop.pass) key a v w) i.asks e.halted))))

pub returns-in-Ok-Some-clause-claims : goal.returns-in-Ok-Some-clause-claims
returns-in-Ok-Some-clause-claims g c = noted_claims (sizes c.args.table.now) (call_of c.args.pass.now) c.args.key.now (g.A.Asking.ask c.args.asking.now c.args.value.now) c.in-Ok-Some.lack (state c.args.pass.now) (state c.try_make_way.new.pass) (returns-in-Ok-Some-clause-wrote g c)

pub returns-in-Ok-Some-clause-own : goal.returns-in-Ok-Some-clause-own
returns-in-Ok-Some-clause-own g c = used_then g.A.Asking.uses_scratch c.args.pass.now c.loop.pass c.try_once.new.pass c.try_make_way.new.pass c.loop.invariant.stays c.try_once.ensures.own c.try_make_way.ensures.own

pub returns-in-Ok-Some-clause-idle : goal.returns-in-Ok-Some-clause-idle
returns-in-Ok-Some-clause-idle g c = put_idle (sizes c.args.table.now) (call_of c.args.pass.now) c.args.key.now (g.A.Asking.ask c.args.asking.now c.args.value.now) (Full c.in-Ok-Some.lack) (state c.args.pass.now) (state c.try_make_way.new.pass) c.requires.idle (returns-in-Ok-Some-clause-wrote g c)

pub returns-in-Ok-Some-clause-alone_reply : goal.returns-in-Ok-Some-clause-alone_reply
returns-in-Ok-Some-clause-alone_reply g c = let z = sizes c.args.table.now in let key = c.args.key.now in let ask = g.A.Asking.ask c.args.asking.now c.args.value.now in let u = state c.args.pass.now in let v = state c.loop.pass in let w = state c.try_once.new.pass in let i = c.loop.invariant in let e = c.in-Err.ensures in
    let is = is_key-of key c.requires.key (slice_bytes key c.type_inv.key) in let idle = idle_behind z (call_of c.loop.pass) (call_of c.args.pass.now) c.loop.settled u v w c.requires.idle i.going e.refused in
    put_sees z (call_of c.loop.pass) key c.args.value.now ask c.in-Err.halt c.loop.settled u v w is (g.met.A.Asking.makes c.args.asking.now c.args.value.now) i.going.tries.holds.numbers e.refused.holds.numbers idle i.lone e.alone_same
    (subst (λ (a : CellCall). Halts c.in-Err.halt z (call_of c.loop.pass) key a v w) i.asks e.halted) e.alone (call_of c.try_once.new.pass) c.try_make_way.new.settled c.in-Ok-Some.lack (state c.try_make_way.new.pass) (subst (λ (o : Option Lack). MakesWay c.in-Err.halt z (call_of c.try_once.new.pass) key c.loop.settled c.try_make_way.new.settled o w (state c.try_make_way.new.pass)) c.in-Ok-Some.field-0-is c.in-Ok-Some.ensures.way)

pub returns-in-Ok-Some-clause-alone : goal.returns-in-Ok-Some-clause-alone
returns-in-Ok-Some-clause-alone g c = let z = sizes c.args.table.now in let key = c.args.key.now in let ask = g.A.Asking.ask c.args.asking.now c.args.value.now in let u = state c.args.pass.now in let v = state c.loop.pass in let w = state c.try_once.new.pass in let i = c.loop.invariant in let e = c.in-Err.ensures in
    let is = is_key-of key c.requires.key (slice_bytes key c.type_inv.key) in let idle = idle_behind z (call_of c.loop.pass) (call_of c.args.pass.now) c.loop.settled u v w c.requires.idle i.going e.refused in
    put_gives_up z (call_of c.loop.pass) key c.args.value.now ask c.in-Err.halt c.loop.settled u v w is (g.met.A.Asking.makes c.args.asking.now c.args.value.now) i.going.tries.holds.numbers e.refused.holds.numbers idle i.lone e.alone_same
    (subst (λ (a : CellCall). Halts c.in-Err.halt z (call_of c.loop.pass) key a v w) i.asks e.halted) e.alone (call_of c.try_once.new.pass) c.try_make_way.new.settled c.in-Ok-Some.lack (state c.try_make_way.new.pass) (subst (λ (o : Option Lack). MakesWay c.in-Err.halt z (call_of c.try_once.new.pass) key c.loop.settled c.try_make_way.new.settled o w (state c.try_make_way.new.pass)) c.in-Ok-Some.field-0-is c.in-Ok-Some.ensures.way)

pub returns-in-Ok-Some-clause-alone_rooms : goal.returns-in-Ok-Some-clause-alone_rooms
returns-in-Ok-Some-clause-alone_rooms g c alone = let z = sizes c.args.table.now in let key = c.args.key.now in let ask = g.A.Asking.ask c.args.asking.now c.args.value.now in let u = state c.args.pass.now in let v = state c.loop.pass in let w = state c.try_once.new.pass in let i = c.loop.invariant in let e = c.in-Err.ensures in
    let is = is_key-of key c.requires.key (slice_bytes key c.type_inv.key) in let x = state c.try_make_way.new.pass in
    refused_alone z key ask u x (refused_rooms z (call_of c.loop.pass) key c.args.value.now ask c.in-Err.halt c.loop.settled u v w is (g.met.A.Asking.makes c.args.asking.now c.args.value.now) alone (i.first alone) e.alone_same
    (subst (λ (a : CellCall). Halts c.in-Err.halt z (call_of c.loop.pass) key a v w) i.asks e.halted) e.alone (call_of c.try_once.new.pass) c.try_make_way.new.settled (Some c.in-Ok-Some.lack) x (subst (λ (o : Option Lack). MakesWay c.in-Err.halt z (call_of c.try_once.new.pass) key c.loop.settled c.try_make_way.new.settled o w (state c.try_make_way.new.pass)) c.in-Ok-Some.field-0-is c.in-Ok-Some.ensures.way))

pub returns-in-Ok-Some-clause-asks : goal.returns-in-Ok-Some-clause-asks
returns-in-Ok-Some-clause-asks g c = c.try_once.ensures.asks ∙ c.loop.invariant.asks

pub returns-in-Ok-Some-clause-fed : goal.returns-in-Ok-Some-clause-fed
returns-in-Ok-Some-clause-fed g c = says_both (g.A.Asking.says c.args.asking.now) (g.A.Asking.says c.loop.asking) (g.A.Asking.says c.try_once.new.self) c.loop.invariant.fed c.in-Err.ensures.fed

-- ---- it goes on

pub loop-preserved : goal.loop-preserved
loop-preserved g c = let z = sizes c.args.table.now in let key = c.args.key.now in let ask = g.A.Asking.ask c.args.asking.now c.args.value.now in let makes = g.met.A.Asking.makes c.args.asking.now c.args.value.now in let u = state c.args.pass.now in let v = state c.loop.pass in let w = state c.try_once.new.pass in let i = c.loop.invariant in let o = c.try_once.ensures.own in let e = c.in-Err.ensures in
    let halted = subst (λ (a : CellCall). Halts c.in-Err.halt z (call_of c.loop.pass) key a v w) i.asks e.halted in let is = is_key-of key c.requires.key (slice_bytes key c.type_inv.key) in record {
      stays = used_then g.A.Asking.uses_scratch c.args.pass.now c.loop.pass c.try_once.new.pass c.try_make_way.new.pass i.stays o c.try_make_way.ensures.own;
      going = subst (λ (k : ℕ). Going z k c.try_make_way.new.settled u (state c.try_make_way.new.pass)) (o.call ∙ i.stays.call)
          (subst (λ (o : Option Lack). IfNone o (Going z (call_of c.try_once.new.pass) c.try_make_way.new.settled u (state c.try_make_way.new.pass))) c.in-Ok-None.field-0-is (c.in-Ok-None.ensures.going ask u v (last_try z (call_of c.args.pass.now) (call_of c.loop.pass) (call_of c.try_once.new.pass) key c.in-Err.halt c.loop.settled ask u v w i.stays.call o.call i.going e.refused halted)));
      lone = put_goes_on z (call_of c.loop.pass) key c.args.value.now ask c.in-Err.halt c.loop.settled u v w is makes i.going.tries.holds.numbers e.refused.holds.numbers (idle_behind z (call_of c.loop.pass) (call_of c.args.pass.now) c.loop.settled u v w c.requires.idle i.going e.refused) i.lone e.alone_same halted e.alone (call_of c.try_once.new.pass) c.try_make_way.new.settled (state c.try_make_way.new.pass) (subst (λ (o : Option Lack). MakesWay c.in-Err.halt z (call_of c.try_once.new.pass) key c.loop.settled c.try_make_way.new.settled o w (state c.try_make_way.new.pass)) c.in-Ok-None.field-0-is c.in-Ok-None.ensures.way);
      first = λ alone. inr (refused_rooms z (call_of c.loop.pass) key c.args.value.now ask c.in-Err.halt c.loop.settled u v w is makes alone (i.first alone) e.alone_same halted e.alone (call_of c.try_once.new.pass) c.try_make_way.new.settled None (state c.try_make_way.new.pass) (subst (λ (o : Option Lack). MakesWay c.in-Err.halt z (call_of c.try_once.new.pass) key c.loop.settled c.try_make_way.new.settled o w (state c.try_make_way.new.pass)) c.in-Ok-None.field-0-is c.in-Ok-None.ensures.way));
      tried = repeats_more (TriesOn z (call_of c.args.pass.now) key ask) c.loop.counter u v (state c.try_make_way.new.pass) i.tried
          (w, refused_as z (call_of c.loop.pass) (call_of c.args.pass.now) key (g.A.Asking.ask c.loop.asking c.args.value.now) ask c.in-Err.halt v w i.stays.call i.asks e.refused e.halted, subst (λ (k : ℕ). Tries z k w (state c.try_make_way.new.pass)) (o.call ∙ i.stays.call) (subst (λ (n : Option Lack). IfNone n (Tries z (call_of c.try_once.new.pass) w (state c.try_make_way.new.pass))) c.in-Ok-None.field-0-is c.in-Ok-None.ensures.rest));
      few = tried_more z (call_of c.try_once.new.pass) key c.args.value.now c.loop.counter c.loop.settled c.try_make_way.new.settled u v w (state c.try_make_way.new.pass) c.in-Err.halt i.few e.alone (subst (λ (o : Option Lack). MakesWay c.in-Err.halt z (call_of c.try_once.new.pass) key c.loop.settled c.try_make_way.new.settled o w (state c.try_make_way.new.pass)) c.in-Ok-None.field-0-is c.in-Ok-None.ensures.way);
      asks = c.try_once.ensures.asks ∙ i.asks;
      counted = let a = e.counted in let b = i.counted in omega arith;
      fed = says_both (g.A.Asking.says c.args.asking.now) (g.A.Asking.says c.loop.asking) (g.A.Asking.says c.try_once.new.self) i.fed e.fed;
    }

-- ---- it stops

pub returns-in-Err-try_make_way-clause-busy : goal.returns-in-Err-try_make_way-clause-busy
returns-in-Err-try_make_way-clause-busy g c = let z = sizes c.args.table.now in let call = call_of c.args.pass.now in let key = c.args.key.now in let ask = g.A.Asking.ask c.args.asking.now c.args.value.now in let u = state c.args.pass.now in let v = state c.loop.pass in let w = state c.try_once.new.pass in let x = state c.try_make_way.new.pass in let i = c.loop.invariant in let o = c.try_once.ensures.own in let e = c.in-Err.ensures in
    stops_hindered z call c.args.looks key c.args.value.now ask c.loop.settled u v i.going w x c.in-Err.halt i.lone
    (refused_as z (call_of c.loop.pass) call key (g.A.Asking.ask c.loop.asking c.args.value.now) ask c.in-Err.halt v w i.stays.call i.asks e.refused e.halted) e.alone
    (subst (λ (k : ℕ). IsHindered z k c.args.looks key w x) (o.call ∙ i.stays.call) c.in-Err-try_make_way.ensures.busy)

pub returns-in-Err-try_make_way-clause-claims : goal.returns-in-Err-try_make_way-clause-claims
returns-in-Err-try_make_way-clause-claims g c = (returns-in-Err-try_make_way-clause-busy g c).tries.claims

pub returns-in-Err-try_make_way-clause-idle : goal.returns-in-Err-try_make_way-clause-idle
returns-in-Err-try_make_way-clause-idle g c = idle_on (state c.args.pass.now) (state c.try_make_way.new.pass) (returns-in-Err-try_make_way-clause-busy g c).tries.holds c.requires.idle

pub returns-in-Err-try_make_way-clause-own : goal.returns-in-Err-try_make_way-clause-own
returns-in-Err-try_make_way-clause-own g c = used_then g.A.Asking.uses_scratch c.args.pass.now c.loop.pass c.try_once.new.pass c.try_make_way.new.pass c.loop.invariant.stays c.try_once.ensures.own c.try_make_way.ensures.own

pub returns-in-Err-try_make_way-clause-asks : goal.returns-in-Err-try_make_way-clause-asks
returns-in-Err-try_make_way-clause-asks g c = c.try_once.ensures.asks ∙ c.loop.invariant.asks

pub returns-in-Err-try_make_way-clause-uncounted : goal.returns-in-Err-try_make_way-clause-uncounted
returns-in-Err-try_make_way-clause-uncounted g c = let a = c.try_once.ensures.counted in let b = c.loop.invariant.counted in let e = c.in-Err.ensures.counted in omega arith

pub returns-in-Err-try_make_way-clause-unfed : goal.returns-in-Err-try_make_way-clause-unfed
returns-in-Err-try_make_way-clause-unfed g c = says_both (g.A.Asking.says c.args.asking.now) (g.A.Asking.says c.loop.asking) (g.A.Asking.says c.try_once.new.self) c.loop.invariant.fed c.in-Err.ensures.fed

pub returns-clause-busy : goal.returns-clause-busy
returns-clause-busy g c = let i = c.loop.invariant in stops_tried (sizes c.args.table.now) (call_of c.args.pass.now) c.args.looks c.args.key.now c.args.value.now (g.A.Asking.ask c.args.asking.now c.args.value.now) c.loop.settled (state c.args.pass.now) (state c.loop.pass) i.going c.loop.counter (let no = c.loop-test.false in omega arith) i.tried i.few

pub returns-clause-idle : goal.returns-clause-idle
returns-clause-idle g c = idle_on (state c.args.pass.now) (state c.loop.pass) c.loop.invariant.going.tries.holds c.requires.idle
