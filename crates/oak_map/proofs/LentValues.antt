-- A reading that is lent: from the call's begin on.
use Rattle.std.proofs.Common.{◌≡◌, ℕ, List, Option, Some, None, refl, sym, ap, ◌∙◌, subst, arith}
use Rattle.oak_model.specs.declared.cells.CellCall.TheVariants.{Get}
use Rattle.oak_model.specs.Cell.{reply_of}
use Rattle.oak_model.specs.KeyNumber.{key_number}
use Rattle.oak_model.specs.Limits.{Sizes}
use Rattle.oak_model.specs.State.{State}
use Rattle.header_core.specs.HeaderHolds.{no_headers}
use Rattle.header_core.specs.declared.holds.HeaderHolds.{HeaderHolds}
use Rattle.header_core.specs.declared.holds.PinnedHeader.{PinnedHeader}
use Rattle.oak_core.specs.declared.states.KeyedWrite.{KeyedWrite}
use Rattle.oak_core.specs.declared.states.Numbers.{Numbers}
use Rattle.oak_core.specs.declared.states.PassState.{PassState}
use Rattle.oak_core.specs.AloneWords.{Runs}
use Rattle.oak_core.specs.CallSteps.{Learns}
use Rattle.oak_core.specs.KeyHistories.{state_behind}
use Rattle.oak_core.specs.LastReads.{ReadsLast}
use Rattle.oak_core.specs.Passes.{key as table_sizes}
use Rattle.oak_core.specs.PassState.{HoldsNothing, IsAlone, seen_of}
use Rattle.oak_core.specs.QuietSteps.{IsQuiet}
use Rattle.oak_core.specs.Step.{load}
use Rattle.oak_core.proofs.seats.AloneRuns.{moment_after}
use Rattle.oak_core.proofs.calls.CallSteps.{learns_both, sights_same}
use Rattle.oak_core.proofs.known.KnownReads.{read_since}
use Rattle.oak_core.proofs.calls.QuietCalls.{only_both}
use Rattle.chunk_ops.proofs.MeetingCalls.{then_stays}
use Rattle.value_ops.specs.declared.reading.Reading.{Reading}
use Rattle.value_ops.specs.Pinning.{AddsPin, HasPin, KnowsLife}
use Rattle.value_ops.specs.PinnedValues.{FindsStamp, IsPinnedValue, LearnsByLoads, ReadsLife}
use Rattle.value_ops.specs.Reading.{IsReading, header, stamp, value}
use Rattle.point_ops.specs.LoneReplies.{SameAlone, SeesWhole}
use Rattle.point_ops.specs.Pins.{PinsKey}
use Rattle.point_ops.proofs.Composed.{sighted_in}
use Rattle.point_ops.proofs.LoneHistories.{alone_later, seen_same, sees_whole}
use Rattle.point_ops.proofs.ReplyLaws.{end_state, learns_on, writes_length}
use Rattle.scan_cursor.specs.Holding.{HasValue}
use Rattle.oak_map.specs.Lending.{LendsValue, under}

abbrev pub header_in : Option PinnedHeader → ℕ
header_in None = 0
header_in (Some p) = p.header

-- The call began at v, and pinned the header until w, and read its value with that.
module _ (z : Sizes) (call h g : ℕ) (v w : PassState) (r : Reading) (idle : HoldsNothing v) (before : Learns call v w) (pin : PinnedHeader) (has : HasPin z h g pin w) (headers : w.headers ≡ record v.headers { pin = Some pin }) (blocks : w.blocks ≡ v.blocks) (rooms : w.rooms ≡ v.rooms)
    (is : IsReading r) (sized : table_sizes r.table.now ≡ z) (loads : LearnsByLoads z call w (under r)) (found : FindsStamp z call h (stamp r) w (under r)) where
  abbrev here : PassState
  here = under r

  pub lent_learns : Learns call v (under r)
  lent_learns = learns_both call v w here before loads.only.learns

  pinned : here.headers ≡ record no_headers { pin = Some pin }
  pinned = loads.only.headers ∙ (headers ∙ ap (λ (a : HeaderHolds). record a { pin = Some pin }) idle.headers)

  pub lent_blocks : (under r).blocks ≡ v.blocks
  lent_blocks = loads.only.blocks ∙ blocks

  pub lent_rooms : (under r).rooms ≡ v.rooms
  lent_rooms = loads.only.rooms ∙ rooms

  value_is : IsPinnedValue z r.value here
  value_is = subst (λ (y : Sizes). IsPinnedValue y r.value here) sized is.pinned

  -- the pass has the pin of the value, and nothing else
  pub lent_has : HasValue z r.value (under r)
  lent_has = record {
    value = value_is;
    headers = pinned ∙ ap (λ (o : Option PinnedHeader). record no_headers { pin = o }) (sym (ap (λ (a : HeaderHolds). a.pin) pinned) ∙ value_is.has.is);
    hand = ap (λ (n : Numbers). n.hand) lent_learns.all.numbers ∙ idle.hand;
    blocks = lent_blocks ∙ idle.blocks;
    rooms = lent_rooms ∙ idle.rooms;
  }

  header_is : header r ≡ h
  header_is = sym is.pinned.has.header_is ∙ (ap header_in (sym is.pinned.has.is ∙ ap (λ (a : HeaderHolds). a.pin) pinned) ∙ has.header_is)

  -- to a pass that is alone no history changed
  pub lent_same : (IsAlone v → SeesWhole z v) → SameAlone z v (under r)
  lent_same begun alone = let n = lent_learns.all.numbers in let a = begun alone in let b = sees_whole z here (alone_later v here n alone) (_, moment_after z call (load found.stamps.spot) found.between (stamp r) here found.stamps.told) in
      record { begun = a; ended = b; same = seen_same z v here alone a n lent_learns.all.seen b lent_learns.all.mine }

  -- and the words have one pin more
  pub lent_alone : Runs (AddsPin z h g) v w → Runs (AddsPin z (header r) g) v (under r)
  lent_alone a = subst (λ (i : ℕ). Runs (AddsPin z i g) v here) (sym header_is) (then_stays (AddsPin z h g) v w here a loads.still)

  -- what was read behind the pin was read in the call
  pub lent_last : (k : ℕ) (s : State) → ReadsLast k (stamp r) s w (under r) → ReadsLast k (stamp r) s v (under r)
  lent_last k s l = record {
    read = read_since k (stamp r) s v w here before.all.seen l.read;
    sighted = sighted_in call v w here here before.sights (sights_same call here here refl) k (stamp r) l.sighted;
    ends = l.ends;
  }

-- so the value of the key is lent
pub lends_value : (z : Sizes) (call : ℕ) (key : List ℕ) (h g : ℕ) (v w : PassState) (r : Reading) → HoldsNothing v → PinsKey z call key h g v w → IsReading r → table_sizes r.table.now ≡ z → LearnsByLoads z call w (under r) → FindsStamp z call h (stamp r) w (under r)
    → ((of : List ℕ) → KnowsLife h g of w.knowledge → ReadsLife h g of (stamp r) (value r) w (under r)) → LendsValue z call key v r
lends_value z call key h g v w r idle p is sized loads found reads = record {
  goes = learns_on call v here learns;
  known = last.ends.known;
  fits = record { last = let e = writes_length seen in omega arith; answer = ap (λ (t : State). reply_of t Get) (end_state seen ∙ last.ends.state) };
  found = last.sighted;
  mine = learns.all.mine;
  numbers = learns.all.numbers;
  fulls = learns.all.fulls;
  swept = learns.all.swept;
  rebalances = learns.all.rebalances;
  quiet = only_both IsQuiet v w here p.quiet loads.quiet;
  blocks = lent_blocks z call h g v w r idle p.learns p.pin p.has p.headers p.blocks p.rooms is sized loads found;
  rooms = lent_rooms z call h g v w r idle p.learns p.pin p.has p.headers p.blocks p.rooms is sized loads found;
  has = lent_has z call h g v w r idle p.learns p.pin p.has p.headers p.blocks p.rooms is sized loads found;
  was = λ alone. ap (λ (l : List KeyedWrite). state_behind l) (sym ((same alone).same k)) ∙ last.ends.state;
  same = same;
  generation = g;
  alone = lent_alone z call h g v w r idle p.learns p.pin p.has p.headers p.blocks p.rooms is sized loads found p.alone;
}
  where
    here : PassState
    here = under r

    k : ℕ
    k = key_number key

    learns : Learns call v (under r)
    learns = lent_learns z call h g v w r idle p.learns p.pin p.has p.headers p.blocks p.rooms is sized loads found

    same : SameAlone z v (under r)
    same = lent_same z call h g v w r idle p.learns p.pin p.has p.headers p.blocks p.rooms is sized loads found p.begun

    last : ReadsLast (key_number key) (stamp r) (Some (value r)) v (under r)
    last = lent_last z call h g v w r idle p.learns p.pin p.has p.headers p.blocks p.rooms is sized loads found (key_number key) (Some (value r))
        (reads key p.life).last

    seen : List KeyedWrite
    seen = seen_of (key_number key) (under r).knowledge
