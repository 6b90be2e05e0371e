-- A call that lent a reading, from its begin until the reading was done: it is one read of the key.
use Rattle.std.proofs.Common.{◌≡◌, ℕ, ◌<◌, List, length, None, Some, sym, ap, ◌∙◌, subst, Bor}
use Rattle.oak_model.specs.declared.cells.CellCall.TheVariants.{Get}
use Rattle.oak_model.specs.declared.cells.CellReply.TheVariants as replies
use Rattle.pin_word.specs.PinWord.{count_of}
use Rattle.oak_model.specs.Cell.{reply_of, state_after}
use Rattle.oak_model.specs.Fits.{ReplyFits}
use Rattle.oak_model.specs.KeyNumber.{key_number}
use Rattle.oak_model.specs.Limits.{Sizes}
use Rattle.oak_model.specs.State.{State}
use Rattle.header_core.specs.HeaderHolds.{no_headers}
use Rattle.header_core.specs.HeaderStep.{unpin_header}
use Rattle.header_core.specs.declared.holds.HeaderHolds.{HeaderHolds}
use Rattle.oak_core.specs.declared.states.KeyedWrite.{KeyedWrite}
use Rattle.oak_core.specs.declared.states.Knowledge.{Knowledge}
use Rattle.oak_core.specs.declared.states.PassState.{PassState}
use Rattle.oak_core.specs.declared.table.OakTable.{OakTable}
use Rattle.oak_core.specs.AloneWords.{Runs}
use Rattle.oak_core.specs.CallSteps.{Stands}
use Rattle.oak_core.specs.KeyHistories.{state_behind, writes_of}
use Rattle.oak_core.specs.KnownPlaces.{KnowsPlace}
use Rattle.oak_core.specs.Passes.{call_of, key as sizes}
use Rattle.oak_core.specs.PassState.{HoldsNothing, IsAlone, seen_of}
use Rattle.oak_core.specs.QuietSteps.{IsQuiet, Quiet}
use Rattle.oak_core.specs.RebalanceSteps.{KeepsRooms}
use Rattle.oak_core.specs.Step.{on_headers}
use Rattle.oak_core.proofs.seats.AloneRuns.{Then, moment_after, runs_as, runs_then}
use Rattle.oak_core.proofs.calls.CallSteps.{stands_both, stands_learns}
use Rattle.oak_core.proofs.calls.QuietCalls.{only_both, quiet_loads}
use Rattle.chunk_ops.specs.RoomPins.{HadMoment}
use Rattle.chunk_ops.proofs.MeetingCalls.{then_stays}
use Rattle.value_ops.specs.declared.pinned_value.PinnedValue.{PinnedValue}
use Rattle.value_ops.specs.declared.reading.Reading.{Reading}
use Rattle.value_ops.specs.Pinning.{AddsPin, DropsPin, EndsPin, IsLiveAt}
use Rattle.value_ops.specs.PinnedValues.{OnlyLoads}
use Rattle.value_ops.specs.Reading.{ReadsOn, header, stamp, value}
use Rattle.value_ops.specs.Views.{Viewed}
use Rattle.value_ops.proofs.AlonePins.{undone as pin_undone}
use Rattle.point_ops.specs.LoneReplies.{AnswersAlone, SameAlone}
use Rattle.point_ops.specs.Replies.{GoesOn, HoldsAsBefore, Refuses, RepliesAt}
use Rattle.point_ops.proofs.LocksKept.{load_stands}
use Rattle.point_ops.proofs.LoneHistories.{alone_later, sees_whole}
use Rattle.point_ops.proofs.LookedLives.{unpin_stands}
use Rattle.point_ops.proofs.ReplyLaws.{learns_on}
use Rattle.scan_cursor.specs.Holding.{HasValue}
use Rattle.oak_map.specs.Lending.{LendsLife, LendsValue, under}
use Rattle.oak_map.specs.Maps.{StayAll}
use Rattle.oak_map.proofs.LentValues.{header_in}
use Rattle.oak_map.proofs.RepliesSince.{goes_both}

-- The reading was lent at u, the pass only made loads until t, and there its pin was undone, until w.
module _ (z : Sizes) (call loaded_at undone_at h : ℕ) (x : PinnedValue) (v u t w : PassState) (idle : HoldsNothing v) (goes : GoesOn call v u) (numbers : u.numbers ≡ v.numbers) (mine : u.knowledge.mine ≡ v.knowledge.mine) (fulls : u.findings.fulls ≡ v.findings.fulls) (swept : u.findings.swept ≡ v.findings.swept) (rebalances : KeepsRooms v u) (has : HasValue z x u)
    (y : Sizes) (j : Sizes) (first : y ≡ z) (again : j ≡ z) (same : loaded_at ≡ call) (last : undone_at ≡ call) (only : OnlyLoads y loaded_at u t) (undone : EndsPin j undone_at h t w) where
  loads : OnlyLoads z call u t
  loads = subst (λ (i : Sizes × ℕ). OnlyLoads i.0 i.1 u t) (λ i. (first i, same i)) only

  ends : EndsPin z call h t w
  ends = subst (λ (i : Sizes × ℕ). EndsPin i.0 i.1 h t w) (λ i. (again i, last i)) undone

  pub end_stands : Stands call u w
  end_stands = stands_both call u t w (load_stands z call u t loads.loads) (unpin_stands z call h t w ends)

  end_headers : w.headers ≡ no_headers
  end_headers = ap (λ (q : PassState). q.headers) ends.meets.after ∙ (ap (λ (q : PassState). record q.headers { pin = None }) loads.loads.after ∙ ap (λ (a : HeaderHolds). record a { pin = None }) has.headers)

  pub end_holds : HoldsAsBefore v w
  end_holds = record {
    blocks = ap (λ (q : PassState). q.blocks) ends.meets.after ∙ (ap (λ (q : PassState). q.blocks) loads.loads.after ∙ (has.blocks ∙ sym idle.blocks));
    headers = end_headers ∙ sym idle.headers;
    rooms = ap (λ (q : PassState). q.rooms) ends.meets.after ∙ (ap (λ (q : PassState). q.rooms) loads.loads.after ∙ (has.rooms ∙ sym idle.rooms));
    numbers = end_stands.numbers ∙ numbers;
    fulls = end_stands.fulls ∙ fulls;
    swept = end_stands.swept ∙ swept;
    rebalances = end_stands.rebalances ∙ rebalances;
  }

  pub end_goes : GoesOn call v w
  end_goes = goes_both call v u w goes (learns_on call u w (stands_learns call u w end_stands))

  -- the call refused nothing that it told
  pub end_refuses : Refuses call v w
  end_refuses = record {
    learns = record {
      met = end_goes.met;
      sights = end_goes.sights;
      all = record { numbers = end_holds.numbers; mine = ap (λ (q : Knowledge). q.mine) end_stands.knowledge ∙ mine; fulls = end_holds.fulls; swept = end_holds.swept; rebalances = end_holds.rebalances; gones = end_goes.gones; loaded = end_goes.loaded; seen = end_goes.seen; remembers = end_goes.remembers };
    };
    holds = end_holds;
  }

-- The reading r was lent at u, the pass only made loads until the reading q, and the pin was undone, until w.

-- so the whole call only loaded words, and pinned or undid pins
end_quiet : (v w : PassState) (r q : Reading) → Quiet v (under r) → ReadsOn r q → EndsPin (sizes q.table.now) (call_of q.pass.now) (header q) (under q) w → Quiet v w
end_quiet v w r q lent on undone = only_both IsQuiet v (under q) w (only_both IsQuiet v (under r) (under q) lent (quiet_loads (sizes r.table.now) (call_of r.pass.now) (under r) (under q) on.only.loads)) undone.quiet

-- it is a reading of the same header
header_on : (z : Sizes) (r q : Reading) → HasValue z r.value (under r) → ReadsOn r q → header q ≡ header r
header_on z r q has on = sym on.reading.pinned.has.header_is ∙ (ap header_in (sym on.reading.pinned.has.is ∙ (ap (λ (y : PassState). y.headers.pin) on.only.loads.after ∙ has.value.has.is)) ∙ has.value.has.header_is)

-- a key that was read so
module _ (z : Sizes) (call : ℕ) (key : List ℕ) (v w : PassState) (r q : Reading) (idle : HoldsNothing v) (l : LendsValue z call key v r) (sized : sizes r.table.now ≡ z) (same : call_of r.pass.now ≡ call) (on : ReadsOn r q) (undone : EndsPin (sizes q.table.now) (call_of q.pass.now) (header q) (under q) w) where
  again : sizes q.table.now ≡ z
  again = ap (λ (b : Bor OakTable). sizes b.now) on.table ∙ sized

  stands : Stands call (under r) w
  stands = end_stands z call (call_of r.pass.now) (call_of q.pass.now) (header q) r.value v (under r) (under q) w idle l.goes l.numbers l.mine l.fulls l.swept l.rebalances l.has (sizes r.table.now) (sizes q.table.now) sized again same (on.stays.call ∙ same) on.only undone

  pub value_refuses : Refuses call v w
  value_refuses = end_refuses z call (call_of r.pass.now) (call_of q.pass.now) (header q) r.value v (under r) (under q) w idle l.goes l.numbers l.mine l.fulls l.swept l.rebalances l.has (sizes r.table.now) (sizes q.table.now) sized again same (on.stays.call ∙ same) on.only undone

  pub value_quiet : Quiet v w
  value_quiet = end_quiet v w r q l.quiet on undone

  -- the call replied with the value
  pub value_replies : RepliesAt call key Get (replies.Holds (value r)) (stamp r) v w
  value_replies = record {
    goes = end_goes z call (call_of r.pass.now) (call_of q.pass.now) (header q) r.value v (under r) (under q) w idle l.goes l.numbers l.mine l.fulls l.swept l.rebalances l.has (sizes r.table.now) (sizes q.table.now) sized again same (on.stays.call ∙ same) on.only undone;
    known = subst (λ (k : Knowledge). KnowsPlace (key_number key) (stamp r) (length (seen_of (key_number key) k)) k) (sym stands.knowledge) l.known;
    fits = subst (λ (k : Knowledge). ReplyFits (writes_of (seen_of (key_number key) k)) v.numbers.number call Get (replies.Holds (value r)) (length (seen_of (key_number key) k))) (sym stands.knowledge) l.fits;
    later = λ e. absurd cc;
    found = (l.found.0, stands.sights ∙ l.found.1, l.found.2);
    mine = value_refuses.learns.all.mine;
    holds = value_refuses.holds;
  }

  -- to a pass that is alone it is the cell's reply on the last state of the key
  pub value_alone : IsAlone v → AnswersAlone z key Get (replies.Holds (value r)) v w
  value_alone alone = record {
    begun = (l.same alone).begun;
    ended = sees_whole z w (alone_later v w value_refuses.holds.numbers alone) (subst (λ (y : Sizes). HadMoment y w) again (_, moment_after (sizes q.table.now) (call_of q.pass.now) (on_headers (unpin_header (header q))) (under q) undone.number w undone.told));
    answer = ap (λ (s : State). reply_of s Get) (l.was alone);
    after = ap (λ (k : List KeyedWrite). state_behind k) (still (key_number key)) ∙ (l.was alone ∙ sym (ap (λ (s : State). state_after s Get) (l.was alone)));
    others = λ k ne. still k;
  }
    where
      still : (k : ℕ) → seen_of k w.knowledge ≡ seen_of k v.knowledge
      still k = ap (seen_of k) stands.knowledge ∙ (l.same alone).same k

  -- and the words stay
  pub value_stays : Runs StayAll v w
  value_stays = runs_as (Then (AddsPin z (header r) l.generation) (DropsPin z (header r))) StayAll v w (λ a b d. pin_undone z (header r) l.has.value.has.inside a d.0 b (IsLiveAt l.generation) (λ n. 0 < count_of n) d.1 d.2)
      (runs_then (AddsPin z (header r) l.generation) (DropsPin z (header r)) v (under q) w
      (then_stays (AddsPin z (header r) l.generation) v (under r) (under q) l.alone on.only.still) (subst (λ (i : Sizes × ℕ). Runs (DropsPin i.0 i.1) (under q) w) (λ i. (again i, header_on z r q l.has on i)) undone.still))

-- a life that was read so
module _ (z : Sizes) (call : ℕ) (x : Viewed) (v w : PassState) (r q : Reading) (idle : HoldsNothing v) (l : LendsLife z call x v r) (sized : sizes r.table.now ≡ z) (same : call_of r.pass.now ≡ call) (on : ReadsOn r q) (undone : EndsPin (sizes q.table.now) (call_of q.pass.now) (header q) (under q) w) where
  pub life_refuses : Refuses call v w
  life_refuses = end_refuses z call (call_of r.pass.now) (call_of q.pass.now) (header q) r.value v (under r) (under q) w idle l.goes l.numbers l.mine l.fulls l.swept l.rebalances l.has (sizes r.table.now) (sizes q.table.now) sized (ap (λ (b : Bor OakTable). sizes b.now) on.table ∙ sized) same (on.stays.call ∙ same) on.only undone

  pub life_quiet : Quiet v w
  life_quiet = end_quiet v w r q l.quiet on undone

  life_again : sizes q.table.now ≡ z
  life_again = ap (λ (b : Bor OakTable). sizes b.now) on.table ∙ sized

  life_stands : Stands call (under r) w
  life_stands = end_stands z call (call_of r.pass.now) (call_of q.pass.now) (header q) r.value v (under r) (under q) w idle l.goes l.numbers l.mine l.fulls l.swept l.rebalances l.has (sizes r.table.now) (sizes q.table.now) sized life_again same (on.stays.call ∙ same) on.only undone

  -- to a pass that is alone no history changed
  pub life_same : SameAlone z v w
  life_same alone = record {
    begun = (l.same alone).begun;
    ended = sees_whole z w (alone_later v w life_refuses.holds.numbers alone) (subst (λ (y : Sizes). HadMoment y w) life_again (_, moment_after (sizes q.table.now) (call_of q.pass.now) (on_headers (unpin_header (header q))) (under q) undone.number w undone.told));
    same = λ k. ap (seen_of k) life_stands.knowledge ∙ (l.same alone).same k;
  }

  -- the value is that of the key's last state
  pub life_was : IsAlone v → state_behind (seen_of (key_number x.key) v.knowledge) ≡ Some (value r)
  life_was alone = ap (λ (k : List KeyedWrite). state_behind k) (sym ((l.same alone).same (key_number x.key))) ∙ l.life.last.ends.state

  added : Runs (AddsPin z (header r) x.generation) v (under r)
  added = subst (λ (h : ℕ). Runs (AddsPin z h x.generation) v (under r)) (sym l.reads.header_is) l.alone

  -- and the words stay
  pub life_stays : Runs StayAll v w
  life_stays = runs_as (Then (AddsPin z (header r) x.generation) (DropsPin z (header r))) StayAll v w (λ a b d. pin_undone z (header r) l.has.value.has.inside a d.0 b (IsLiveAt x.generation) (λ n. 0 < count_of n) d.1 d.2)
      (runs_then (AddsPin z (header r) x.generation) (DropsPin z (header r)) v (under q) w
      (then_stays (AddsPin z (header r) x.generation) v (under r) (under q) added on.only.still) (subst (λ (i : Sizes × ℕ). Runs (DropsPin i.0 i.1) (under q) w) (λ i. (life_again i, header_on z r q l.has on i)) undone.still))
