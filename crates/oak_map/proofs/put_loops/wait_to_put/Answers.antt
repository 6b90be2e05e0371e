use Rattle.std.proofs.Common.{ℕ, Ok, refl, ◌∙◌, subst, arith, Some, None, inl, inr}
use Rattle.oak_model.specs.declared.cells.CellCall.{CellCall}
use Rattle.oak_model.specs.declared.replies.Wrote.TheVariants.{Full}
use Rattle.oak_model.proofs.KeyLaws.{is_key-of}
use Rattle.oak_core.specs.Passes.{call_of, key as sizes, state}
use Rattle.chunk_ops.proofs.WordParts.{slice_bytes}
use Rattle.point_ops.specs.Halting.{Halts}
use Rattle.point_ops.specs.LoneReplies.{WroteAlone}
use Rattle.point_ops.specs.Parts.{WroteFits}
use Rattle.point_ops.proofs.RecipesFed.{feeds_since, says_both, says_same}
use Rattle.oak_map.specs.Maps.{table_of}
use Rattle.oak_map.specs.Putting.{Going}
use Rattle.oak_map.specs.Replying.{AnswersFull}
use Rattle.oak_map.proofs.AnsweredPuts.{noted_claims, put_claims, put_fits, put_idle}
use Rattle.oak_map.proofs.GoingCalls.{going_first, last_try}
use Rattle.oak_map.proofs.LonePutCalls.{idle_behind, lone_first, put_gives_up, put_goes_on, put_sees}
use Rattle.oak_map.proofs.LoneRooms.{refused_alone, refused_rooms, replied_rooms}
use Rattle.oak_map.proofs.RecipesFed.{put_feeds_alone}
use Rattle.oak_map.proofs.ReplyAnswers.{replied_alone}
use Rattle.oak_map.proofs.ReplyWords.{replied_words}
use Rattle.oak_map.proofs.SameScratch.{used_both, used_then}
use Rattle.oak_map.proofs.put_loops.wait_to_put.Goals as goal

pub loop-init : goal.loop-init
loop-init g c = let z = sizes (table_of c.args.map.now) in let v = state c.args.pass.now in record {
  next = tt;
  stays = record { table = refl; seat = refl; call = refl; scratch = λ _. refl };
  going = going_first z (call_of c.args.pass.now) v;
  lone = lone_first z c.args.key.now (g.A.Asking.ask c.args.asking.now c.args.value.now) v;
  first = λ _. inl refl;
  asks = refl;
  counted = refl;
  fed = says_same (g.A.Asking.says c.args.asking.now);
}

pub try_once-requires-clause-few : goal.try_once-requires-clause-few
try_once-requires-clause-few g c = let a = c.requires.few in let b = c.loop.invariant.counted in omega arith

-- ---- it is answered

pub returns-in-Ok-clause-wrote : goal.returns-in-Ok-clause-wrote
returns-in-Ok-clause-wrote g c = let z = sizes (table_of c.args.map.now) in let call = call_of c.args.pass.now in let key = c.args.key.now in let u = state c.args.pass.now in let v = state c.loop.pass in let w = state c.try_once.new.pass in let i = c.loop.invariant in
    put_fits z call u v w i.going.tries c.in-Ok.wrote key (g.A.Asking.ask c.args.asking.now c.args.value.now) (subst (λ (a : CellCall). WroteFits c.in-Ok.wrote call key a v w) i.asks (subst (λ (k : ℕ). WroteFits c.in-Ok.wrote k key (g.A.Asking.ask c.loop.asking c.args.value.now) v w) i.stays.call c.in-Ok.ensures.wrote))

pub returns-in-Ok-clause-claims : goal.returns-in-Ok-clause-claims
returns-in-Ok-clause-claims g c = let z = sizes (table_of c.args.map.now) in let call = call_of c.args.pass.now in let key = c.args.key.now in let u = state c.args.pass.now in let v = state c.loop.pass in let w = state c.try_once.new.pass in let i = c.loop.invariant in let ask = g.A.Asking.ask c.loop.asking c.args.value.now in
    put_claims z call u v w i.going.tries c.in-Ok.wrote key ask (subst (λ (k : ℕ). WroteFits c.in-Ok.wrote k key ask v w) i.stays.call c.in-Ok.ensures.wrote)

pub returns-in-Ok-clause-own : goal.returns-in-Ok-clause-own
returns-in-Ok-clause-own g c = used_both g.A.Asking.uses_scratch c.args.pass.now c.loop.pass c.try_once.new.pass c.loop.invariant.stays c.try_once.ensures.own

pub returns-in-Ok-clause-idle : goal.returns-in-Ok-clause-idle
returns-in-Ok-clause-idle g c = put_idle (sizes (table_of c.args.map.now)) (call_of c.args.pass.now) c.args.key.now (g.A.Asking.ask c.args.asking.now c.args.value.now) c.in-Ok.wrote (state c.args.pass.now) (state c.try_once.new.pass) c.requires.idle (returns-in-Ok-clause-wrote g c)

pub returns-in-Ok-clause-alone_reply : goal.returns-in-Ok-clause-alone_reply
returns-in-Ok-clause-alone_reply g c = let z = sizes (table_of c.args.map.now) in let key = c.args.key.now in let u = state c.args.pass.now in let v = state c.loop.pass in let w = state c.try_once.new.pass in let i = c.loop.invariant in let e = c.in-Ok.ensures in
    replied_alone c.in-Ok.wrote z key (g.A.Asking.ask c.args.asking.now c.args.value.now) c.loop.settled u v w i.lone i.going.tries.holds.numbers (λ alone. subst (λ (a : CellCall). WroteAlone c.in-Ok.wrote z key a v w) i.asks (e.alone_reply alone))

pub returns-in-Ok-clause-alone : goal.returns-in-Ok-clause-alone
returns-in-Ok-clause-alone g c = let z = sizes (table_of c.args.map.now) in let call = call_of c.loop.pass in let key = c.args.key.now in let u = state c.args.pass.now in let v = state c.loop.pass in let w = state c.try_once.new.pass in let i = c.loop.invariant in let e = c.in-Ok.ensures in
    replied_words z call (call_of c.args.pass.now) key c.args.value.now (g.A.Asking.ask c.args.asking.now c.args.value.now) c.loop.settled u v w c.in-Ok.wrote (is_key-of key c.requires.key (slice_bytes key c.type_inv.key)) c.requires.idle i.going i.lone
    (subst (λ (a : CellCall). WroteFits c.in-Ok.wrote call key a v w) i.asks e.wrote) (λ alone. subst (λ (a : CellCall). WroteAlone c.in-Ok.wrote z key a v w) i.asks (e.alone_reply alone)) e.ended e.alone

pub returns-in-Ok-clause-alone_rooms : goal.returns-in-Ok-clause-alone_rooms
returns-in-Ok-clause-alone_rooms g c alone = let z = sizes (table_of c.args.map.now) in let key = c.args.key.now in let u = state c.args.pass.now in let v = state c.loop.pass in let w = state c.try_once.new.pass in let i = c.loop.invariant in let e = c.in-Ok.ensures in
    replied_rooms z (call_of c.loop.pass) key c.args.value.now (g.A.Asking.ask c.args.asking.now c.args.value.now) u v w c.in-Ok.wrote (i.first alone) (subst (λ (a : CellCall). WroteFits c.in-Ok.wrote (call_of c.loop.pass) key a v w) i.asks e.wrote) e.alone

pub returns-in-Ok-clause-fed : goal.returns-in-Ok-clause-fed
returns-in-Ok-clause-fed g c = feeds_since (Ok c.in-Ok.wrote) c.args.key.now (g.A.Asking.says c.args.asking.now) (g.A.Asking.says c.loop.asking) (g.A.Asking.says c.try_once.new.self) (state c.try_once.new.pass) c.loop.invariant.fed c.in-Ok.ensures.fed

pub returns-in-Ok-clause-alone_fed : goal.returns-in-Ok-clause-alone_fed
returns-in-Ok-clause-alone_fed g c alone = put_feeds_alone c.in-Ok.wrote (sizes (table_of c.args.map.now)) (call_of c.args.pass.now) c.args.key.now (g.A.Asking.ask c.args.asking.now c.args.value.now) (g.A.Asking.says c.args.asking.now) (g.A.Asking.says c.try_once.new.self) (state c.args.pass.now) (state c.try_once.new.pass) alone
    (returns-in-Ok-clause-wrote g c) (returns-in-Ok-clause-alone_reply g c) (returns-in-Ok-clause-fed g c)

-- ---- it was refused

pub make_way-requires-clause-tried : goal.make_way-requires-clause-tried
make_way-requires-clause-tried g c κs lives = let ask = g.A.Asking.ask c.loop.asking c.args.value.now in let u = state c.args.pass.now in let v = state c.loop.pass in let i = c.loop.invariant in let o = c.try_once.ensures.own in let e = c.in-Err.ensures in
    (ask, u, v, last_try (sizes (table_of c.args.map.now)) (call_of c.args.pass.now) (call_of c.loop.pass) (call_of c.try_once.new.pass) c.args.key.now c.in-Err.halt c.loop.settled ask u v (state c.try_once.new.pass) i.stays.call o.call i.going e.refused e.halted)

-- ---- it lacks something

pub returns-in-Some-make_way-clause-wrote : goal.returns-in-Some-make_way-clause-wrote
returns-in-Some-make_way-clause-wrote g c = let z = sizes (table_of c.args.map.now) in let key = c.args.key.now in let ask = g.A.Asking.ask c.args.asking.now c.args.value.now in let u = state c.args.pass.now in let v = state c.loop.pass in let w = state c.try_once.new.pass in let i = c.loop.invariant in let o = c.try_once.ensures.own in let e = c.in-Err.ensures in
    subst (λ (k : ℕ). AnswersFull z k key ask c.in-Some-make_way.lack u (state c.make_way.new.pass)) (o.call ∙ i.stays.call)
    (c.in-Some-make_way.ensures.full ask u v (last_try z (call_of c.args.pass.now) (call_of c.loop.pass) (call_of c.try_once.new.pass) key c.in-Err.halt c.loop.settled ask u v w i.stays.call o.call i.going e.refused
    (subst (λ (a : CellCall). Halts c.in-Err.halt z (call_of c.loop.pass) key a v w) i.asks e.halted)))

pub returns-in-Some-make_way-clause-claims : goal.returns-in-Some-make_way-clause-claims
returns-in-Some-make_way-clause-claims g c = noted_claims (sizes (table_of c.args.map.now)) (call_of c.args.pass.now) c.args.key.now (g.A.Asking.ask c.args.asking.now c.args.value.now) c.in-Some-make_way.lack (state c.args.pass.now) (state c.make_way.new.pass) (returns-in-Some-make_way-clause-wrote g c)

pub returns-in-Some-make_way-clause-own : goal.returns-in-Some-make_way-clause-own
returns-in-Some-make_way-clause-own g c = used_then g.A.Asking.uses_scratch c.args.pass.now c.loop.pass c.try_once.new.pass c.make_way.new.pass c.loop.invariant.stays c.try_once.ensures.own c.make_way.ensures.own

pub returns-in-Some-make_way-clause-idle : goal.returns-in-Some-make_way-clause-idle
returns-in-Some-make_way-clause-idle g c = put_idle (sizes (table_of c.args.map.now)) (call_of c.args.pass.now) c.args.key.now (g.A.Asking.ask c.args.asking.now c.args.value.now) (Full c.in-Some-make_way.lack) (state c.args.pass.now) (state c.make_way.new.pass) c.requires.idle (returns-in-Some-make_way-clause-wrote g c)

pub returns-in-Some-make_way-clause-alone_reply : goal.returns-in-Some-make_way-clause-alone_reply
returns-in-Some-make_way-clause-alone_reply g c = let z = sizes (table_of c.args.map.now) in let key = c.args.key.now in let ask = g.A.Asking.ask c.args.asking.now c.args.value.now in let u = state c.args.pass.now in let v = state c.loop.pass in let w = state c.try_once.new.pass in let i = c.loop.invariant in let e = c.in-Err.ensures in
    let is = is_key-of key c.requires.key (slice_bytes key c.type_inv.key) in let idle = idle_behind z (call_of c.loop.pass) (call_of c.args.pass.now) c.loop.settled u v w c.requires.idle i.going e.refused in
    put_sees z (call_of c.loop.pass) key c.args.value.now ask c.in-Err.halt c.loop.settled u v w is (g.met.A.Asking.makes c.args.asking.now c.args.value.now) i.going.tries.holds.numbers e.refused.holds.numbers idle i.lone e.alone_same
    (subst (λ (a : CellCall). Halts c.in-Err.halt z (call_of c.loop.pass) key a v w) i.asks e.halted) e.alone (call_of c.try_once.new.pass) c.make_way.new.settled c.in-Some-make_way.lack (state c.make_way.new.pass) c.in-Some-make_way.ensures.way

pub returns-in-Some-make_way-clause-alone : goal.returns-in-Some-make_way-clause-alone
returns-in-Some-make_way-clause-alone g c = let z = sizes (table_of c.args.map.now) in let key = c.args.key.now in let ask = g.A.Asking.ask c.args.asking.now c.args.value.now in let u = state c.args.pass.now in let v = state c.loop.pass in let w = state c.try_once.new.pass in let i = c.loop.invariant in let e = c.in-Err.ensures in
    let is = is_key-of key c.requires.key (slice_bytes key c.type_inv.key) in let idle = idle_behind z (call_of c.loop.pass) (call_of c.args.pass.now) c.loop.settled u v w c.requires.idle i.going e.refused in
    put_gives_up z (call_of c.loop.pass) key c.args.value.now ask c.in-Err.halt c.loop.settled u v w is (g.met.A.Asking.makes c.args.asking.now c.args.value.now) i.going.tries.holds.numbers e.refused.holds.numbers idle i.lone e.alone_same
    (subst (λ (a : CellCall). Halts c.in-Err.halt z (call_of c.loop.pass) key a v w) i.asks e.halted) e.alone (call_of c.try_once.new.pass) c.make_way.new.settled c.in-Some-make_way.lack (state c.make_way.new.pass) c.in-Some-make_way.ensures.way

pub returns-in-Some-make_way-clause-alone_rooms : goal.returns-in-Some-make_way-clause-alone_rooms
returns-in-Some-make_way-clause-alone_rooms g c alone = let z = sizes (table_of c.args.map.now) in let key = c.args.key.now in let ask = g.A.Asking.ask c.args.asking.now c.args.value.now in let u = state c.args.pass.now in let v = state c.loop.pass in let w = state c.try_once.new.pass in let i = c.loop.invariant in let e = c.in-Err.ensures in
    let is = is_key-of key c.requires.key (slice_bytes key c.type_inv.key) in let x = state c.make_way.new.pass in
    refused_alone z key ask u x (refused_rooms z (call_of c.loop.pass) key c.args.value.now ask c.in-Err.halt c.loop.settled u v w is (g.met.A.Asking.makes c.args.asking.now c.args.value.now) alone (i.first alone) e.alone_same
    (subst (λ (a : CellCall). Halts c.in-Err.halt z (call_of c.loop.pass) key a v w) i.asks e.halted) e.alone (call_of c.try_once.new.pass) c.make_way.new.settled (Some c.in-Some-make_way.lack) x c.in-Some-make_way.ensures.way)

pub returns-in-Some-make_way-clause-asks : goal.returns-in-Some-make_way-clause-asks
returns-in-Some-make_way-clause-asks g c = c.try_once.ensures.asks ∙ c.loop.invariant.asks

pub returns-in-Some-make_way-clause-fed : goal.returns-in-Some-make_way-clause-fed
returns-in-Some-make_way-clause-fed g c = says_both (g.A.Asking.says c.args.asking.now) (g.A.Asking.says c.loop.asking) (g.A.Asking.says c.try_once.new.self) c.loop.invariant.fed c.in-Err.ensures.fed

-- ---- it goes on

pub loop-preserved : goal.loop-preserved
loop-preserved g c = let z = sizes (table_of c.args.map.now) in let key = c.args.key.now in let ask = g.A.Asking.ask c.args.asking.now c.args.value.now in let makes = g.met.A.Asking.makes c.args.asking.now c.args.value.now in let u = state c.args.pass.now in let v = state c.loop.pass in let w = state c.try_once.new.pass in let i = c.loop.invariant in let o = c.try_once.ensures.own in let e = c.in-Err.ensures in
    let halted = subst (λ (a : CellCall). Halts c.in-Err.halt z (call_of c.loop.pass) key a v w) i.asks e.halted in let is = is_key-of key c.requires.key (slice_bytes key c.type_inv.key) in record {
      next = tt;
      stays = used_then g.A.Asking.uses_scratch c.args.pass.now c.loop.pass c.try_once.new.pass c.make_way.new.pass i.stays o c.make_way.ensures.own;
      going = subst (λ (k : ℕ). Going z k c.make_way.new.settled u (state c.make_way.new.pass)) (o.call ∙ i.stays.call)
          (c.in_default.ensures.going ask u v (last_try z (call_of c.args.pass.now) (call_of c.loop.pass) (call_of c.try_once.new.pass) key c.in-Err.halt c.loop.settled ask u v w i.stays.call o.call i.going e.refused halted));
      lone = put_goes_on z (call_of c.loop.pass) key c.args.value.now ask c.in-Err.halt c.loop.settled u v w is makes i.going.tries.holds.numbers e.refused.holds.numbers (idle_behind z (call_of c.loop.pass) (call_of c.args.pass.now) c.loop.settled u v w c.requires.idle i.going e.refused) i.lone e.alone_same halted e.alone (call_of c.try_once.new.pass) c.make_way.new.settled (state c.make_way.new.pass) c.in_default.ensures.way;
      first = λ alone. inr (refused_rooms z (call_of c.loop.pass) key c.args.value.now ask c.in-Err.halt c.loop.settled u v w is makes alone (i.first alone) e.alone_same halted e.alone (call_of c.try_once.new.pass) c.make_way.new.settled None (state c.make_way.new.pass) c.in_default.ensures.way);
      asks = c.try_once.ensures.asks ∙ i.asks;
      counted = let a = e.counted in let b = i.counted in omega arith;
      fed = says_both (g.A.Asking.says c.args.asking.now) (g.A.Asking.says c.loop.asking) (g.A.Asking.says c.try_once.new.self) i.fed e.fed;
    }
