-- A look at a key that keeps the pin of the header of its value: looked up from v to u, the header pinned from u to w, and the room unpinned.
use Rattle.std.proofs.Common.{◌≡◌, ◌≢◌, ℕ, ◌<◌, ◌+◌, ◌-◌, true, List, set, None, Some, Result, Ok, Err, IfOk, IfErr, refl, sym, ap, ◌∙◌, subst, arith}
use Rattle.std.proofs.lemmas.List.{set_comm}
use Rattle.pin_word.specs.PinWord.{state_of}
use Rattle.oak_model.specs.declared.cells.CellCall.TheVariants.{Get}
use Rattle.oak_model.specs.Limits.{Sizes}
use Rattle.chunk_core.specs.Rooms.{at_room_pin}
use Rattle.chunk_core.specs.Spans.{Span}
use Rattle.chunk_core.specs.declared.states.TheConstants.{OPEN}
use Rattle.header_core.specs.declared.holds.HeaderHolds.{HeaderHolds}
use Rattle.header_core.specs.declared.holds.PinnedHeader.{PinnedHeader}
use Rattle.header_core.specs.HeaderHolds.{no_headers}
use Rattle.oak_core.specs.declared.states.PassState.{PassState}
use Rattle.oak_core.specs.AloneWords.{Runs}
use Rattle.oak_core.specs.CallSteps.{Learns, Stands}
use Rattle.oak_core.specs.LifeKeys.{loaded_in}
use Rattle.oak_core.specs.Memory.{Spot, in_rooms, index, memory}
use Rattle.oak_core.specs.PassState.{HoldsNothing}
use Rattle.oak_core.specs.QuietSteps.{IsQuiet, Quiet}
use Rattle.oak_core.proofs.calls.CallSteps.{learns_both, stands_learns}
use Rattle.oak_core.proofs.calls.QuietCalls.{only_both}
use Rattle.oak_core.proofs.memory.Words.{index_apart}
use Rattle.oak_core.proofs.seats.AloneRuns.{Then, runs_as, runs_then}
use Rattle.chunk_ops.specs.declared.entries.EntryNo.{EntryNo}
use Rattle.chunk_ops.specs.declared.entries.Content.TheVariants.{Value as NamesValue}
use Rattle.chunk_ops.specs.PinRecords.{UnderPin, WordsStay, room_pin, with_room_pin}
use Rattle.chunk_ops.specs.RoomPins.{AddsRoomPin, DropsRoomPin, PinsOpen, Unpins}
use Rattle.chunk_ops.proofs.MeetingCalls.{both_stay, stays_then}
use Rattle.chunk_ops.proofs.PinSteps.{undone}
use Rattle.value_ops.specs.declared.pinning.BadPin.TheVariants.{Dead}
use Rattle.value_ops.specs.Claiming.{pin_spot}
use Rattle.value_ops.specs.Pinning.{AddsPin, IsLiveAt, KnowsLife, PinsLive, pin_of}
use Rattle.value_ops.proofs.LearnFacts.{learned_pin}
use Rattle.point_ops.specs.Halting.{Halts}
use Rattle.point_ops.specs.Lives.{PinsLife, RefusesLife}
use Rattle.point_ops.specs.LoneInserts.{KeepsBut}
use Rattle.point_ops.specs.LoneLives.{EntrySays}
use Rattle.point_ops.specs.Pins.{PinnedFits, PinsFound, PinsIn, PinsKey, PinsUnder}
use Rattle.point_ops.specs.Spots.{FoundNamed}
use Rattle.point_ops.specs.declared.gets.Got.TheVariants as got
use Rattle.point_ops.specs.declared.halts.Halt.{Halt}
use Rattle.point_ops.specs.declared.halts.Halt.TheVariants.{Busy}
use Rattle.point_ops.specs.declared.lives.Pinned.{Pinned}
use Rattle.point_ops.specs.declared.lives.Pinned.TheVariants.{Absent, Value}
use Rattle.point_ops.specs.declared.spots.Spot.TheVariants.{Present}
use Rattle.point_ops.proofs.DeadReads.{dead_read}
use Rattle.point_ops.proofs.GetLaws.{all_got, learned_under, looked_gets, looked_locked}
use Rattle.point_ops.proofs.LoneAnswers.{all_got_alone}
use Rattle.point_ops.proofs.LoneCalls.{look_never, pinned_got}
use Rattle.point_ops.proofs.LoneHistories.{sees_whole}
use Rattle.point_ops.proofs.LonePins.{header_was}
use Rattle.point_ops.proofs.LoneSpots.{spot_stays}
use Rattle.point_ops.proofs.LoneWords.{but_same, but_set}
use Rattle.point_ops.proofs.LookedLives.{dud_only}

-- ---- under the pin of the room

-- the key was looked up, and the life that its entry names was pinned, or is over
module _ (z : Sizes) (call r : ℕ) (key : List ℕ) (v u w : PassState) (i : EntryNo) (h g : ℕ) (under : UnderPin z call r v u) (f : FoundNamed z call r i.0 h g key v u) (named : Runs (EntrySays i (NamesValue h g) z r key) v u) (none : u.headers ≡ no_headers) (quiet : Quiet v u) (c2 : ℕ) (e2 : c2 ≡ call) where
  stays : Runs WordsStay v u
  stays = spot_stays z r key (Present i record { header = h; generation = g }) v u named

  adds : (p q : ℕ) → p ≡ h → q ≡ g → Runs (AddsPin z h g) u w → Runs (AddsPin z p q) v w
  adds p q same_header same_generation a = stays_then (AddsPin z p q) v u w stays (subst (λ (k : ℕ × ℕ). Runs (AddsPin z k.0 k.1) u w) (λ j. (sym same_header j, sym same_generation j)) a)

  pub pinned_under : (y : Pinned) → PinsLife y z c2 h g u w → PinsUnder y z call r key v w
  pinned_under (Value p) l = record {
    found = u;
    under = under;
    life = subst (λ (k : ℕ × ℕ). KnowsLife k.0 k.1 key u.knowledge) (λ j. (sym l.0 j, sym l.1 j)) f.life;
    pins = subst (λ (k : ℕ × ℕ × ℕ). PinsLive z k.0 k.1 k.2 u w) (λ j. (e2 j, sym l.0 j, sym l.1 j)) l.2;
    quiet = quiet;
    alone = adds p.header p.generation l.0 l.1 l.2.still;
  }
  pinned_under (Absent at) d = (learned_under z call r v u w c2 e2 under (dud_only z c2 h g (Dead at) u w d), looked_gets (got.Absent at) z key call v u w under.learns (dead_read z c2 h g at u w d key f.life f.last (subst (λ (k : ℕ). loaded_in k h g u.knowledge.loaded ≡ true) (sym e2) f.loads)))

  pub refused_under : (why : Halt) → (why ≡ Busy) × RefusesLife z c2 h g u w → (why ≡ Busy) × UnderPin z call r v w × Halts why z call key Get v w
  refused_under why l = (l.0, learned_under z call r v u w c2 e2 under l.1.only, looked_locked z call key v u w c2 e2 under.learns r i.0 h g f l.1.only.learns why (l.0, l.1.found))

  pub pins_alone : (x : Result Pinned Halt) → IfOk x (λ y. PinsLife y z c2 h g u w) → IfErr x (λ why. (why ≡ Busy) × RefusesLife z c2 h g u w) → Runs (PinsIn x z) v w
  pins_alone (Ok (Value p)) l e = adds p.header p.generation l.0 l.1 l.2.still
  pins_alone (Ok (Absent at)) l e = both_stay v u w stays (dud_only z c2 h g (Dead at) u w l).still
  pins_alone (Err why) l e = look_never z r h g i key v u w named f.has none e.1.alone

-- ---- the whole call

-- a pin of a header that was made while the pin of a room stood
module _ (z : Sizes) (r h g : ℕ) (room : r < z.chunks) (header : h < z.headers) where
  abbrev at_room : ℕ
  at_room = index z (in_rooms (at_room_pin r))

  abbrev at_header : ℕ
  at_header = index z (pin_spot h)

  apart : at_header ≢ at_room
  apart e = not_both (index_apart z (pin_spot h) (in_rooms (at_room_pin r)) header (room, omega arith) e)
    where
      not_both : pin_spot h ≡ in_rooms (at_room_pin r) → ⊥
      not_both e = absurd cc

  -- the end of the room's pin found it as the header's pin left it
  down_before : (b c d : List ℕ) → AddsPin z h g b c → DropsRoomPin z r c d → d ≡ set (set b at_room ((memory z b).rooms.pin r - 1)) at_header ((memory z b).headers.pin h + 1)
  down_before b c d up down = down.1 ∙ ((λ j. set (up.1 j) at_room ((memory z c).rooms.pin r - 1)) ∙ (set_comm b at_header at_room ((memory z b).headers.pin h + 1) ((memory z c).rooms.pin r - 1) apart
      ∙ ap (λ (n : ℕ). set (set b at_room (n - 1)) at_header ((memory z b).headers.pin h + 1)) same))
    where
      others_stay : KeepsBut z (λ (p : Spot). p ≡ pin_spot h) b c
      others_stay = subst (KeepsBut z (λ (p : Spot). p ≡ pin_spot h) b) (sym up.1) (but_set z (λ (p : Spot). p ≡ pin_spot h) b (pin_spot h) ((memory z b).headers.pin h + 1) header refl)

      same : (memory z c).rooms.pin r ≡ (memory z b).rooms.pin r
      same = but_same z (λ (p : Spot). p ≡ pin_spot h) b c others_stay (in_rooms (at_room_pin r)) (λ e. absurd cc)

  pub pin_around : (a b c d : List ℕ) → AddsRoomPin z r a b → AddsPin z h g b c → DropsRoomPin z r c d → AddsPin z h g a d
  pin_around a b c d in_room up down = let was = header_was z r room a b in_room h in
      (subst (IsLiveAt g) was up.0, down_before b c d up down ∙ ((λ j. set (back j) at_header ((memory z b).headers.pin h + 1)) ∙ ap (λ (n : ℕ). set a at_header (n + 1)) was))
    where
      back : set b at_room ((memory z b).rooms.pin r - 1) ≡ a
      back = undone z r room a b (set b at_room ((memory z b).rooms.pin r - 1)) (λ n. state_of n ≡ OPEN) (λ n. Unit {0}) in_room (tt, refl)

-- the room was pinned from v to u, and unpinned from w to x
module _ (z : Sizes) (call r : ℕ) (P : Span → Type 0) (v u w x : PassState) (idle : HoldsNothing v) (p : PinsOpen z call r P v u) (c2 c3 : ℕ) (e2 : c2 ≡ call) (e3 : c3 ≡ call) (n0 : Unpins z c3 r w x) where
  away : Stands call w x
  away = subst (λ (t : ℕ). Stands t w x) e3 n0.stands

  key_pinned : (key : List ℕ) (h g : ℕ) → PinsFound z c2 r key h g u w → PinsKey z call key h g v x
  key_pinned key h g f = record {
    learns = learns_both call v u x (stands_learns call v u p.stands) (learns_both call u w x (subst (λ (t : ℕ). Learns t u w) e2 (learns_both c2 u f.found w f.under.learns learned)) (stands_learns call w x away));
    life = subst (KnowsLife h g key) (sym (away.knowledge ∙ ap (λ (y : PassState). y.knowledge) f.pins.after)) f.life;
    pin = made;
    has = record { inside = f.pins.pin.inside; is = ap (λ (a : HeaderHolds). a.pin) n0.headers ∙ f.pins.pin.is; header_is = f.pins.pin.header_is; wanted_is = f.pins.pin.wanted_is; good = f.pins.pin.good };
    headers = n0.headers ∙ (ap (λ (y : PassState). y.headers) f.pins.after ∙ ap (λ (a : HeaderHolds). record a { pin = Some made }) (f.under.headers ∙ p.headers));
    blocks = n0.blocks ∙ (ap (λ (y : PassState). y.blocks) f.pins.after ∙ (f.under.blocks ∙ p.blocks));
    rooms = n0.rooms ∙ (ap (with_room_pin None) (ap (λ (y : PassState). y.rooms) f.pins.after ∙ (f.under.pin.rooms ∙ (ap (with_room_pin (Some (room_pin f.found))) (p.rooms ∙ ap (with_room_pin (Some (room_pin u))) idle.rooms)))) ∙ sym idle.rooms);
    quiet = only_both IsQuiet v u x p.quiet (only_both IsQuiet u w x (only_both IsQuiet u f.found w f.quiet f.pins.quiet) n0.quiet);
    begun = λ alone. sees_whole z v alone p.begun;
    alone = alone;
  }
    where
      made : PinnedHeader
      made = pin_of (memory z f.pins.told.table.words) h g

      learned : Learns c2 f.found w
      learned = (learned_pin z c2 h g f.pins.number f.found w f.pins.told).learns

      alone : Runs (AddsPin z h g) v x
      alone = let Rest = Then (AddsPin z h g) (DropsRoomPin z r) in runs_as (Then (AddsRoomPin z r) Rest) (AddsPin z h g) v x (λ a d s. pin_around z r h g p.has.inside f.pins.pin.inside a s.0 s.2.0 d s.1 s.2.1 s.2.2)
          (runs_then (AddsRoomPin z r) Rest v u x p.still (runs_then (AddsPin z h g) (DropsRoomPin z r) u w x f.alone n0.still))

  pub all_pinned : (y : Pinned) (key : List ℕ) → PinsUnder y z c2 r key u w → PinnedFits y z call key v x
  all_pinned (Absent at) key l = record {
    replies = all_got z call r P v u w x idle p c2 c3 e2 e3 l.0 n0 (got.Absent at) key l.1;
    alone_reply = all_got_alone z call r P v u w x idle p c2 c3 e2 e3 n0 l.0 (got.Absent at) key l.1;
  }
  all_pinned (Value q) key f = key_pinned key q.header q.generation f

  pub all_pins_alone : (y : Result Pinned Halt) (key : List ℕ) → IfOk y (λ q. PinsUnder q z c2 r key u w) → Runs (PinsIn y z) u w → Runs (PinsIn y z) v x
  all_pins_alone (Ok (Absent at)) key l s = pinned_got z r v u w x p.has.inside p.still n0.still (got_ok at) s
    where
      got_ok : ℕ → Result ℕ Halt
      got_ok at = Ok at
  all_pins_alone (Ok (Value q)) key f s = (key_pinned key q.header q.generation f).alone
  all_pins_alone (Err why) key l s = pinned_got z r v u w x p.has.inside p.still n0.still (err why) s
    where
      err : Halt → Result ℕ Halt
      err why = Err why
