-- An entry that is added for a key, or is not.
use Rattle.std.proofs.Common.{◌≡◌, ℕ, List, sym, ap, ◌∙◌, subst}
use Rattle.oak_model.specs.declared.classes.Class.{Class}
use Rattle.oak_model.specs.Key.{IsKey}
use Rattle.oak_model.specs.Limits.{Sizes}
use Rattle.arena_core.specs.HeldBlocks.{no_blocks}
use Rattle.chunk_core.specs.declared.holds.PinnedRoom.{PinnedRoom}
use Rattle.chunk_core.specs.declared.holds.RoomHolds.{RoomHolds}
use Rattle.chunk_core.specs.KeyWords.{low_number, high_number}
use Rattle.chunk_core.specs.PinnedRooms.{span_of}
use Rattle.oak_core.specs.declared.states.PassState.{PassState}
use Rattle.oak_core.specs.CallSteps.{Learns, Stands}
use Rattle.oak_core.proofs.calls.CallSteps.{learns_both, stands_learns}
use Rattle.arena_ops.specs.Storing.{given}
use Rattle.arena_ops.specs.Taking.{Gives}
use Rattle.chunk_ops.specs.declared.entries.AddHalt.{AddHalt}
use Rattle.chunk_ops.specs.declared.entries.AddHalt.TheVariants as adds
use Rattle.chunk_ops.specs.Adds.{AddsEntry, FoundCrowded, KeepsBlock, MayAdd, NotAddedBy}
use Rattle.chunk_ops.specs.AskedRanges.{CoversKey}
use Rattle.chunk_ops.specs.PinRecords.{PinKept, PinStays, UnderPin, pin_or, room_pin}
use Rattle.value_ops.proofs.OneHeaderLaws.{without_block}
use Rattle.point_ops.specs.Halting.{RoomChanged, RoomCrowded}
use Rattle.point_ops.specs.Inserts.{AddingHalts, MakesBlock, halt_of}
use Rattle.point_ops.proofs.Composed.{crossed_in, crowded_in}
use Rattle.point_ops.proofs.OwnSteps.{front_leaves, only_leaves}
use Rattle.point_ops.proofs.PartsMade.{back_stands, back_blocks, back_front, back_headers, back_rooms}

-- what the pass has of rooms is told by two calls in a row
under_since : (z : Sizes) (r : ℕ) (a b d : RoomHolds) → b ≡ a → PinKept z r b d → PinKept z r a d
under_since z r a b d same k = subst (λ (x : RoomHolds). PinKept z r x d) same k

-- a pin keeps its range
same_span : (p q : PinnedRoom) → PinStays p q → span_of q ≡ span_of p
same_span p q s = ap (λ (l : List ℕ). record { low = low_number l; high = high_number q.high; base = q.base }) s.low ∙ (ap (λ (l : List ℕ). record { low = low_number p.low; high = high_number l; base = q.base }) s.high ∙ ap (λ (b : ℕ). record { low = low_number p.low; high = high_number p.high; base = b }) s.base)

-- why no entry was added, as a cause of the call that wants one
crowded_cause : (z : Sizes) (call r : ℕ) (key : List ℕ) (v w : PassState) → CoversKey key (span_of (room_pin v)) → FoundCrowded z call r key v w → RoomCrowded z call key v w
crowded_cause z call r key v w covers f = record {
  r = r;
  step = f.step;
  full = f.full;
  covers = subst (CoversKey key) (sym (same_span (room_pin v) (room_pin f.step.to) f.stays)) covers;
  none = f.none;
  base = (room_pin v).base;
  absent = f.absent.absent;
  own = f.left;
}

crossed_cause : (z : Sizes) (call r : ℕ) (key : List ℕ) (v w : PassState) → CoversKey key (span_of (room_pin v)) → NotAddedBy adds.Busy z call r key v w → RoomChanged z call key v w
crossed_cause z call r key v w covers f = record { r = r; found = f.0; covers = subst (CoversKey key) (sym (same_span (room_pin v) (room_pin f.0.first.from) f.1)) covers }

-- ---- a block was made of the key

module _ (z : Sizes) (call r : ℕ) (c : Class) (b : ℕ) (key : List ℕ) (v u w : PassState) (none : v.blocks ≡ no_blocks) (m : MakesBlock z call c b key v u) (at : ℕ) (same : at ≡ call) where
  made : Learns call v u
  made = stands_learns call v u m.stands

  -- the pass has the room still, with its range
  covers_still : CoversKey key (span_of (room_pin v)) → CoversKey key (span_of (room_pin u))
  covers_still covers = subst (λ (a : RoomHolds). CoversKey key (span_of (pin_or a.pin))) (sym m.rooms) covers

  -- it may be added to the pinned room
  pub may_add : IsKey key → CoversKey key (span_of (room_pin v)) → MayAdd z c b key u
  may_add is covers = record { is_key = is; block = m.has; covers = covers_still covers }

  -- and passed to an entry, or not needed
  pub added_under : (i : ℕ) → AddsEntry z at r i c b key u w → UnderPin z call r v w
  added_under i a = record {
    learns = learns_both call v u w made (subst (λ (k : ℕ). Learns k u w) same a.learns);
    blocks = a.blocks ∙ (without_block c b u.blocks m.one ∙ sym none);
    headers = a.headers ∙ m.headers;
    pin = under_since z r v.rooms u.rooms w.rooms m.rooms a.pin;
  }

  -- or no entry was added, and it is given back
  module _ (p : KeepsBlock z at r c b key u w) (later : ℕ) (x : PassState) (follows : later ≡ call) (g : Gives z later c b w x) where
    here : Learns call u w
    here = subst (λ (k : ℕ). Learns k u w) same p.learns

    left : given c b w.blocks ≡ no_blocks
    left = p.blocks ∙ without_block c b u.blocks m.one

    gone : Stands call w x
    gone = back_stands z call c b w x later follows left g

    back : Learns call w x
    back = stands_learns call w x gone

    pub unadded_under : UnderPin z call r v x
    unadded_under = record {
      learns = learns_both call v u x made (learns_both call u w x here back);
      blocks = back_blocks z call c b w x later follows left g ∙ sym none;
      headers = back_headers z call c b w x later follows left g ∙ (p.headers ∙ m.headers);
      pin = subst (λ (a : RoomHolds). PinKept z r v.rooms a) (sym (back_rooms z call c b w x later follows left g)) (under_since z r v.rooms u.rooms w.rooms m.rooms p.pin);
    }

    pub unadded_halts : CoversKey key (span_of (room_pin v)) → (why : AddHalt) → NotAddedBy why z at r key u w → AddingHalts (halt_of why) z call key v x
    unadded_halts covers adds.Crowded f = crowded_in z call key v u w x made back (λ i. only_leaves z i v u c b m.own) (λ i. front_leaves z i w x call (back_front z call c b w x later follows left g)) (crowded_cause z call r key u w (covers_still covers) (subst (λ (k : ℕ). FoundCrowded z k r key u w) same f))
    unadded_halts covers adds.Busy f = crossed_in call v u w x m.stands.met gone.met z key (crossed_cause z call r key u w (covers_still covers) (subst (λ (k : ℕ). NotAddedBy adds.Busy z k r key u w) same f))
