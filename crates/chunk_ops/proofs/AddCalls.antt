-- What a call that adds an entry leaves, in its own words, behind the load of the room's base.
use Rattle.std.proofs.Common.{◌≡◌, ℕ, ◌<◌, ◌⊎◌, ⊎_elim, List, length, sym, ap, ◌∙◌, subst, Option, None}
use Rattle.oak_model.specs.declared.classes.Class.{Class}
use Rattle.oak_model.specs.Class.{class_number}
use Rattle.oak_model.specs.Key.{AreBytes}
use Rattle.oak_model.specs.Limits.{Sizes, IsInLimits}
use Rattle.arena_core.specs.Place.{block_in, class_from, class_in, place_word}
use Rattle.arena_ops.specs.Taking.{ClearsBit, Gives}
use Rattle.chunk_core.specs.declared.holds.PinnedRoom.{PinnedRoom}
use Rattle.chunk_core.specs.declared.holds.RoomHolds.{RoomHolds}
use Rattle.chunk_core.specs.PinnedRooms.{span_of}
use Rattle.link_search.specs.Adds as added
use Rattle.link_search.specs.Finds as search
use Rattle.link_search.specs.Linked.{IsAboveFrom, IsBelowTo}
use Rattle.link_search.specs.Met.{Met}
use Rattle.oak_core.specs.declared.states.PassState.{PassState}
use Rattle.oak_core.specs.AloneWords.{Runs}
use Rattle.oak_core.specs.Passes.{state, key as sizes, call_of}
use Rattle.oak_core.specs.QuietSteps.{MetOnly, TookNone}
use Rattle.chunk_ops.specs.declared.pinned_table.PinnedTable.{PinnedTable}
use Rattle.chunk_ops.specs.Adds.{AddsEntry, FoundCrowded, FoundOther, KeepsBlock, MayAdd}
use Rattle.chunk_ops.specs.AddsAlone.{AddsIn, CrowdedIn}
use Rattle.chunk_ops.specs.ClaimLaws.{add_still}
use Rattle.chunk_ops.specs.LinkedTable.{FreesClaim, HoldsIn, HoldsKey, MeetsInTable}
use Rattle.chunk_ops.specs.PinRecords.{HasRoomPin, OnlyMeets, PinStays, pin_or, room_pin}
use Rattle.chunk_ops.specs.RoomLoads.{linked_in, view_of}
use Rattle.chunk_ops.specs.RoomWords.{FindsBase}
use Rattle.chunk_ops.proofs.AddHalts.{count_other, found_crowded, link_other}
use Rattle.chunk_ops.proofs.AddedKeys.{adds_entry, block_at, class_at, entry_at_end, given_back, keeps_block, pin_at_end, trace_took}
use Rattle.chunk_ops.proofs.KeyClaims.{begins_holding, block_is, class_is}
use Rattle.chunk_ops.proofs.LoneAdds.{added_lone, crowded_lone, found_lone}
use Rattle.chunk_ops.proofs.MeetingCalls.{only_in}

-- What the call found before it looks for the key, as it may be added. u is the state of the pass at its begin, v the one behind that.
pub record CallsAdd (z : Sizes) (r floor named now : ℕ) (c : Class) (b call : ℕ) (k : List ℕ) (u v : PassState) : Type 0 where
  pub call_is : now ≡ call
  pub only : OnlyMeets call u v
  pub none : u.rooms.claim ≡ None
  pub pin : HasRoomPin z r u
  pub base : floor ≡ (room_pin u).base
  pub place : named ≡ place_word (class_number c) b (length k)
  pub limits : IsInLimits z
  pub may : MayAdd z c b k u

-- by the load of the base
pub calls_add : (z : Sizes) (r floor named now : ℕ) (c : Class) (b call : ℕ) (k : List ℕ) (u v : PassState) → now ≡ call → OnlyMeets call u v → u.rooms.claim ≡ None → HasRoomPin z r u → FindsBase z call r floor u v → named ≡ place_word (class_number c) b (length k) → MayAdd z c b k u
    → CallsAdd z r floor named now c b call k u v
calls_add z r floor named now c b call k u v e only none pin base place may = record { call_is = e; only = only; none = none; pin = pin; base = base.pinned; place = place; limits = base.step.told.rule.sizes; may = may }

-- so the key may be added, as the call holds it
module _ (z : Sizes) (r floor named now : ℕ) (c : Class) (b call : ℕ) (k : List ℕ) (u v : PassState) (a : CallsAdd z r floor named now c b call k u v) where
  pin_same : room_pin v ≡ room_pin u
  pin_same = ap (λ (x : RoomHolds). pin_or x.pin) a.only.rooms

  may : MayAdd z c b k v
  may = add_still z c b k u v a.only.blocks (ap span_of pin_same) a.may

  pub call_holds : HoldsIn z floor named k v
  call_holds = begins_holding z named c b k v a.limits may a.place floor (ap (λ (x : RoomHolds). x.claim) a.only.rooms ∙ a.none) (a.base ∙ ap (λ (p : PinnedRoom). p.base) (sym pin_same))

  -- and it is above what it was above
  pub call_above : (from : Option ℕ) → IsAboveFrom (linked_in (room_pin u)) from k → IsAboveFrom (linked_in (room_pin v)) from k
  call_above from h = subst (λ (q : PinnedRoom). IsAboveFrom (linked_in q) from k) (sym pin_same) h

  pub call_below : (link : ℕ) → IsBelowTo (linked_in (room_pin u)) link k → IsBelowTo (linked_in (room_pin v)) link k
  call_below link h = subst (λ (q : PinnedRoom). IsBelowTo (linked_in q) link k) (sym pin_same) h

  pub class_said : class_from (class_in named) ≡ c
  class_said = class_is z named c b k v a.limits may a.place

  pub block_said : block_in named ≡ b
  block_said = block_is z named c b k v a.limits may a.place

  pub place_said : named ≡ place_word (class_number (class_from (class_in named))) (block_in named) (length k)
  place_said = a.place ∙ (λ j. place_word (class_number (sym class_said j)) (sym block_said j) (length k))

module _ (s : PinnedTable) (c : Class) (b call : ℕ) (k : List ℕ) (u : PassState) (a : CallsAdd (sizes s.table.now) s.room s.base s.place (call_of s.pass.now) c b call k u (state s.pass.now)) where
  abbrev z : Sizes
  z = sizes s.table.now

  abbrev v : PassState
  v = state s.pass.now

  holds_key : HoldsKey s k
  holds_key = call_holds z s.room s.base s.place (call_of s.pass.now) c b call k u v a

  class : class_at s ≡ c
  class = class_said z s.room s.base s.place (call_of s.pass.now) c b call k u v a

  block : block_at s ≡ b
  block = block_said z s.room s.base s.place (call_of s.pass.now) c b call k u v a

  only : OnlyMeets (call_of s.pass.now) u v
  only = only_in (call_of s.pass.now) call u v (sym a.call_is) a.only

  -- what was said of the place, said of the block
  said : (F : ℕ → Class → ℕ → Type 0) → F (call_of s.pass.now) (class_at s) (block_at s) → F call c b
  said F x = subst (F call c) block (subst (λ (d : Class). F call d (block_at s)) class (subst (λ (n : ℕ). F n (class_at s) (block_at s)) a.call_is x))

  module _ (t : PinnedTable) (ms : List Met) (whole : MeetsInTable s t ms) where
    abbrev w : PassState
    w = state t.pass.now

    pub call_keeps : HoldsKey t k → KeepsBlock (sizes s.table.now) call s.room c b k u (state t.pass.now)
    call_keeps h = said (λ n d f. KeepsBlock z n s.room d f k u w) (keeps_block s t k u only a.pin holds_key ms whole h)

    pub call_found : (i : ℕ) → search.IsEntryOf (view_of t) k i → HoldsKey t k → (y : PassState) → Gives (sizes s.table.now) (call_of t.pass.now) c b (state t.pass.now) y → AddsEntry (sizes s.table.now) call s.room i c b k u y
    call_found i e h y g = given_back z call s.room i c b k u w y (call_keeps h) (entry_at_end s t k u only a.pin holds_key ms whole i e) (subst (λ (n : ℕ). Gives z n c b w y) (whole.same.own.call ∙ a.call_is) g)

    pub call_adds : (i : ℕ) → search.IsEntryOf (view_of t) k i → FreesClaim t → added.LinksLast MeetsInTable i s t → AddsEntry (sizes s.table.now) call s.room i c b k u (state t.pass.now)
    call_adds i e free last = said (λ n d f. AddsEntry z n s.room i d f k u w) (adds_entry s t k u only a.pin holds_key ms whole i e free last)

    pub call_took : MetOnly TookNone u (state t.pass.now)
    call_took = trace_took s t k u only a.pin holds_key ms whole

    pub call_crowded : AreBytes k → (most : ℕ) → most ≡ (sizes s.table.now).entries → added.FoundFull view_of MeetsInTable k most s t → FoundCrowded (sizes s.table.now) call s.room k u (state t.pass.now)
    call_crowded small most e f = said (λ n d g. FoundCrowded z n s.room k u w) (found_crowded s t k u only a.pin holds_key small (subst (λ (n : ℕ). added.FoundFull view_of MeetsInTable k n s t) e f) a.may.covers)

    pub call_changed : added.CountChanged MeetsInTable s t ⊎ added.LinkChanged MeetsInTable s t → (f : FoundOther (sizes s.table.now) call s.room u (state t.pass.now)) × PinStays (room_pin u) (room_pin f.first.from)
    call_changed f = said (λ n d g. (o : FoundOther z n s.room u w) × PinStays (room_pin u) (room_pin o.first.from))
        (⊎_elim (λ (y : added.CountChanged MeetsInTable s t). count_other s t k u only a.pin holds_key y) (λ (y : added.LinkChanged MeetsInTable s t). link_other s t k u only a.pin holds_key y) f)

    -- ---- to a pass that is alone

    pub call_found_lone : AreBytes k → (i : ℕ) → search.IsEntryOf (view_of t) k i → added.LoadsAlone MeetsInTable s t → (y : PassState) → Runs (ClearsBit (sizes s.table.now) c b) (state t.pass.now) y → Runs (AddsIn (sizes s.table.now) s.room (record { 0 = i }) c b (length k) k) u y
    call_found_lone small i e loads y g = said (λ n d f. Runs (AddsIn z s.room (record { 0 = i }) d f (length k) k) u y)
        (found_lone s t k u only a.pin holds_key small i (length k) y e (pin_at_end s t k u only a.pin holds_key ms whole) loads (subst (λ (d : Class). Runs (ClearsBit z d (block_at s)) w y) (sym class) (subst (λ (n : ℕ). Runs (ClearsBit z c n) w y) (sym block) g)))

    pub call_crowded_lone : AreBytes k → (most : ℕ) → most ≡ (sizes s.table.now).entries → added.FoundFull view_of MeetsInTable k most s t → Runs (CrowdedIn (sizes s.table.now) s.room k) u (state t.pass.now)
    call_crowded_lone small most e f = crowded_lone s t k u only a.pin holds_key small (subst (λ (n : ℕ). added.FoundFull view_of MeetsInTable k n s t) e f) (pin_at_end s t k u only a.pin holds_key ms whole)

    pub call_added_lone : AreBytes k → (i : ℕ) → i < (sizes s.table.now).entries → search.IsEntryOf (view_of t) k i → added.AddsStraight view_of MeetsInTable i k s t → Runs (AddsIn (sizes s.table.now) s.room (record { 0 = i }) c b (length k) k) u (state t.pass.now)
    call_added_lone small i room e straight = said (λ n d f. Runs (AddsIn z s.room (record { 0 = i }) d f (length k) k) u w)
        (added_lone s t k u only a.pin holds_key small i room e (pin_at_end s t k u only a.pin holds_key ms whole) (place_said z s.room s.base s.place (call_of s.pass.now) c b call k u v a) straight)
