-- A key that is looked up in a pinned room: its last life, or that it was read absent. And the whole of it, with the pin before and its end.
use Rattle.std.proofs.Common.{◌≡◌, ℕ, ◌<◌, true, List, sym, refl, ap, ◌∙◌, subst, Some, None}
use Rattle.pin_word.specs.PinWord.{count_of, state_of}
use Rattle.oak_model.specs.KeyNumber.{key_number}
use Rattle.oak_model.specs.Limits.{Sizes}
use Rattle.chunk_core.specs.PinnedRooms.{span_of}
use Rattle.chunk_core.specs.Spans.{Span}
use Rattle.chunk_core.specs.declared.holds.RoomHolds.{RoomHolds}
use Rattle.chunk_core.specs.declared.states.TheConstants.{OPEN}
use Rattle.oak_core.specs.KeyReads.{home_of}
use Rattle.oak_core.specs.LastReads.{KnowsLifeOf}
use Rattle.oak_core.specs.LifeKeys.{loaded_in}
use Rattle.oak_core.proofs.known.LoadedIn.{loaded_in_has}
use Rattle.oak_core.specs.declared.states.Numbers.{Numbers}
use Rattle.oak_core.specs.declared.states.PassState.{PassState}
use Rattle.oak_core.specs.AloneWords.{Runs}
use Rattle.oak_core.specs.CallSteps.{Learns}
use Rattle.oak_core.specs.CountReads.{ReadAbsent, SightedBare}
use Rattle.oak_core.specs.PassState.{HoldsNothing}
use Rattle.oak_core.specs.QuietSteps.{Quiet}
use Rattle.oak_core.proofs.seats.AloneRuns.{Then, runs_as, runs_then}
use Rattle.oak_core.proofs.calls.CallSteps.{learns_both, stands_learns}
use Rattle.chunk_ops.specs.AskedRanges.{CoversKey}
use Rattle.chunk_ops.specs.Contents.{FindsContent, SaysIn, TellsOf}
use Rattle.chunk_ops.specs.Finds.{FindsMissing}
use Rattle.chunk_ops.specs.FindsAlone.{FindsIn}
use Rattle.chunk_ops.specs.PinRecords.{OnlyLearns, PinKept, UnderPin, WordsStay, room_pin, with_room_pin}
use Rattle.chunk_ops.specs.RoomPins.{AddsRoomPin, DropsRoomPin, PinsOpen, Unpins}
use Rattle.chunk_ops.specs.declared.entries.Content.{Content}
use Rattle.chunk_ops.specs.declared.entries.Content.TheVariants.{Floor, Value}
use Rattle.chunk_ops.specs.declared.entries.Found.{Found}
use Rattle.chunk_ops.proofs.MeetingCalls.{both_stay, stays_then}
use Rattle.chunk_ops.proofs.PinSteps.{undone}
use Rattle.value_ops.specs.Pinning.{AddsPin, KnowsLife}
use Rattle.value_ops.proofs.LoadedViews.{known_loaded, names_home}
use Rattle.scan_cursor.specs.declared.reading.Here.{Here}
use Rattle.scan_cursor.specs.declared.reading.Here.TheVariants.{Present, Absent, Again}
use Rattle.scan_cursor.specs.Reading.{LeavesHere, LooksUp, ReadsHere}
use Rattle.scan_cursor.specs.Views.{IsKnown, KnowsLast, Later, ReadsKey, View, view_of}
use Rattle.scan_cursor.proofs.LifeReads.{known_later}
use Rattle.scan_cursor.proofs.ReadingViews.{here_before, later_both, later_by, read_before, read_behind}

-- ---- under the pin: from v to u the key was searched, and from u to w an entry's value word loaded

-- to a pass that is alone the words stay
pub found_stays : (z : Sizes) (r : ℕ) (key : List ℕ) (found : Found) (v u : PassState) → Runs (FindsIn z r key found) v u → Runs WordsStay v u
found_stays z r key found v u s = runs_as (FindsIn z r key found) WordsStay v u (λ a b f. f.0) s

pub said_stays : (z : Sizes) (r i : ℕ) (key : List ℕ) (found : Found) (c : Content) (v u w : PassState) → Runs (FindsIn z r key found) v u → Runs (SaysIn c z r i) u w → Runs WordsStay v w
said_stays z r i key found c v u w a b = both_stay v u w (found_stays z r key found v u a) (runs_as (SaysIn c z r i) WordsStay u w (λ x y s. s.0) b)

module _ (z : Sizes) (call r : ℕ) (key : List ℕ) (v u : PassState) (first : UnderPin z call r v u) where
  -- no entry has the key
  pub missing_up : CoversKey key (span_of (room_pin v)) → FindsMissing z call r key v u → LooksUp None key (view_of z call v) (view_of z call u)
  missing_up covers missing = ((room_pin v).base, record { read = absent.read; sighted = (sights.more, sights.sights, record { sight = sights.sighted.sight; there = sights.sighted.there; just = sights.sighted.just }) })
    where
      absent : ReadAbsent call (key_number key) (room_pin v).base v u
      absent = (missing.read covers).absent

      sights : SightedBare call (key_number key) (room_pin v).base v u
      sights = absent.sighted

  module _ (w : PassState) (now : ℕ) (same : now ≡ call) where
    pub under_learned : OnlyLearns now u w → UnderPin z call r v w
    under_learned l = record {
      learns = learns_both call v u w first.learns (subst (λ (i : ℕ). Learns i u w) same l.learns);
      blocks = l.blocks ∙ first.blocks;
      headers = l.headers ∙ first.headers;
      pin = subst (λ (a : RoomHolds). PinKept z r v.rooms a) (sym l.rooms) first.pin;
    }

    -- the entry has a floor
    pub floor_up : (i stamp : ℕ) → Quiet v u → TellsOf (Floor stamp) z now r i key u w → LooksUp None key (view_of z call v) (view_of z call w)
    floor_up i stamp quiet t = (stamp, read_before key stamp None (view_of z call v) (view_of z call u) (view_of z call w) (later_by z call call v u refl first.learns quiet) record { read = t.read; sighted = t.sighted })

    -- or it names a life
    pub life_up : (i h g : ℕ) → FindsContent z now r i (Value h g) u w → TellsOf (Value h g) z now r i key u w → LooksUp (Some (h, g)) key (view_of z call v) (view_of z call w)
    life_up i h g c t = record {
      inside = c.usable.0;
      loaded = known_loaded now h g key w.knowledge (names_home h g c.step.number c.says.0 c.says.1 c.says.2) t.life t.known;
      named = loaded_in_has call h g (home_of h g) key (names_home h g c.step.number c.says.0 c.says.1 c.says.2) w.knowledge.loaded (subst (λ (j : ℕ). KnowsLifeOf j key (home_of h g) w.knowledge) same t.life);
      last = t.last;
    }

-- behind what leaves the words
leaves_then : (result : Here) (z : Sizes) (v x y : PassState) → Runs WordsStay v x → LeavesHere result z x y → LeavesHere result z v y
leaves_then (Present a) z v x y s t = stays_then (λ before after. (i : ℕ) × AddsPin z a.header i before after) v x y s t
leaves_then Absent z v x y s t = both_stay v x y s t
leaves_then Again z v x y s t = both_stay v x y s t

-- ---- the whole: the room was pinned from v to u, the key looked up from u to w, and the room unpinned from w to x

module _ (z : Sizes) (call r : ℕ) (P : Span → Type 0) (v u w x : PassState) (idle : HoldsNothing v) (p : PinsOpen z call r P v u) (c2 c3 : ℕ) (e2 : c2 ≡ call) (e3 : c3 ≡ call) (under : UnderPin z c2 r u w) (quiet : Quiet u w) (n : Unpins z c3 r w x) where
  pinned : Later (view_of z call v) (view_of z call u)
  pinned = later_by z call call v u refl (stands_learns call v u p.stands) p.quiet

  looked : Later (view_of z call v) (view_of z call w)
  looked = later_both (view_of z call v) (view_of z call u) (view_of z call w) pinned (later_by z call c2 u w e2 under.learns quiet)

  unpinned : Later (view_of z call w) (view_of z call x)
  unpinned = later_by z call c3 w x e3 (stands_learns c3 w x n.stands) n.quiet

  pub room_later : Later (view_of z call v) (view_of z call x)
  room_later = later_both (view_of z call v) (view_of z call w) (view_of z call x) looked unpinned

  pub room_nothing : HoldsNothing x
  room_nothing = record {
    hand = ap (λ (k : Numbers). k.hand) room_later.learns.all.numbers ∙ idle.hand;
    blocks = n.blocks ∙ (under.blocks ∙ (p.blocks ∙ idle.blocks));
    headers = n.headers ∙ (under.headers ∙ (p.headers ∙ idle.headers));
    rooms = n.rooms ∙ ap (with_room_pin None) (under.pin.rooms ∙ ap (with_room_pin (Some (room_pin w))) (p.rooms ∙ ap (with_room_pin (Some (room_pin u))) idle.rooms));
  }

  pub room_stays : Runs WordsStay u w → Runs WordsStay v x
  room_stays s = runs_as (Then (AddsRoomPin z r) (DropsRoomPin z r)) WordsStay v x (λ a b d. undone z r p.has.inside a d.0 b (λ k. state_of k ≡ OPEN) (λ k. 0 < count_of k) d.1 d.2)
      (runs_then (AddsRoomPin z r) (DropsRoomPin z r) v u x p.still (stays_then (DropsRoomPin z r) u w x s n.still))

  -- the key was read absent
  pub room_absent : (key : List ℕ) → LooksUp None key (view_of z c2 u) (view_of z c2 w) → ReadsHere Absent key (view_of z call v) (view_of z call x)
  room_absent key l = (room_nothing, (l.0, read_behind key l.0 None (view_of z call v) (view_of z call w) (view_of z call x) unpinned read))
    where
      read : ReadsKey (view_of z call v) (view_of z call w) key l.0 None
      read = read_before key l.0 None (view_of z call v) (view_of z call u) (view_of z call w) pinned record { read = l.1.read; sighted = l.1.sighted }

  -- it has a life
  module _ (key : List ℕ) (h g : ℕ) (l : LooksUp (Some (h, g)) key (view_of z c2 u) (view_of z c2 w)) (c4 : ℕ) (e4 : c4 ≡ call) where
    last : KnowsLast key h g (view_of z c4 w)
    last = record { inside = l.inside; loaded = l.loaded; named = subst (λ (c : ℕ). loaded_in c h g w.knowledge.loaded ≡ true) (e2 ∙ sym e4) l.named; last = l.last }

    since : Later (view_of z c4 w) (view_of z c4 x)
    since = later_by z c4 c3 w x (e3 ∙ sym e4) (stands_learns c3 w x n.stands) n.quiet

    pub room_known : IsKnown h g (view_of z c4 x)
    room_known = record { key = key; moment = view_of z c4 w; knows = last; since = since }

    pub room_knows : KnowsLife h g key x.knowledge
    room_knows = known_later h g key (view_of z c4 w) (view_of z c4 x) last since

    -- which was then read
    module _ (result : Here) (y : PassState) where
      pub room_then : Later (view_of z c4 x) (view_of z c4 y) → Later (view_of z call v) (view_of z call y)
      room_then m = later_both (view_of z call v) (view_of z call x) (view_of z call y) room_later (subst (λ (c : ℕ). Later (view_of z c x) (view_of z c y)) e4 m)

      pub room_here : ((k : List ℕ) (m : View) → KnowsLast k h g m → Later m (view_of z c4 x) → ReadsHere result k m (view_of z c4 y)) → ReadsHere result key (view_of z call v) (view_of z call y)
      room_here reads = here_before result key (view_of z call v) (view_of z call w) (view_of z call y) looked (subst (λ (c : ℕ). ReadsHere result key (view_of z c w) (view_of z c y)) e4 (reads key (view_of z c4 w) last since))

      pub room_leaves : Runs WordsStay u w → LeavesHere result z x y → LeavesHere result z v y
      room_leaves s t = leaves_then result z v x y (room_stays s) t
