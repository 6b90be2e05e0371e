-- A pinned room whose entries are loaded along its links: the slots are filled one entry after the other, and where a batch ends they are all that it has between the key and its bound.
use Rattle.std.proofs.Common.{◌≡◌, ℕ, suc, ◌<◌, ◌≤◌, ◌++◌, ⊎_elim, true, Bool, List, [], ◌∷◌, Option, Some, None, sym, refl, ap, ◌∙◌, subst, arith}
use Rattle.oak_model.specs.declared.limits.TheConstants.{GREATEST_ENTRIES}
use Rattle.oak_model.specs.Counts.{Each, Has}
use Rattle.oak_model.specs.Key.{is_key}
use Rattle.oak_model.specs.KeyNumber.{key_number}
use Rattle.oak_model.specs.Limits.{Sizes}
use Rattle.oak_model.proofs.KeyLaws.{is_key-of}
use Rattle.oak_model.proofs.Lists.{each_map}
use Rattle.oak_model.proofs.MemberLaws.{each_has}
use Rattle.chunk_core.specs.declared.holds.FoundEntry.{FoundEntry}
use Rattle.chunk_core.specs.declared.holds.RoomHolds.{RoomHolds}
use Rattle.chunk_core.specs.FoundLinks.{IsAboveFound, IsBelowFound}
use Rattle.chunk_core.specs.KeyWords.{key_bytes}
use Rattle.chunk_core.specs.LinkWords.{link_spot}
use Rattle.chunk_core.specs.MayOnRooms.{FindsEntry}
use Rattle.chunk_core.specs.PinnedRooms.{found_in, found_key, span_of}
use Rattle.chunk_core.specs.Spans.{Span, within}
use Rattle.chunk_core.specs.ValueWord.{header_in, generation_in}
use Rattle.oak_core.specs.declared.sorting.SortSlot.{SortSlot}
use Rattle.oak_core.specs.declared.states.PassState.{PassState}
use Rattle.oak_core.specs.Memory.{in_rooms}
use Rattle.oak_core.specs.Step.{load}
use Rattle.oak_core.proofs.seats.AloneRuns.{moment_after}
use Rattle.chunk_ops.specs.declared.entries.EntryNo.{EntryNo}
use Rattle.chunk_ops.specs.Listing.{IsEntryOrNone, Rise, StepsTo, link_to, number_of}
use Rattle.chunk_ops.specs.PinRecords.{HasEntry, HasRoomPin, IsFoundWell, OnlyLearns, pin_or, room_pin}
use Rattle.chunk_ops.proofs.FoundRanges.{found_within}
use Rattle.scan_cursor.specs.declared.ways.Way.{Way}
use Rattle.scan_cursor.specs.declared.ways.Way.TheVariants.{Up, Down}
use Rattle.scan_cursor.specs.Batches.{IsFull, IsInRoom, IsOpen, Starts, end_bound}
use Rattle.scan_cursor.specs.Gathered.{KnewLast, in_slot}
use Rattle.scan_cursor.specs.Holding.{Covers, IsRoom, Room, ahead_from, ahead_past, bound_in, cut_room, high_end, low_end, room_at}
use Rattle.scan_cursor.specs.Loading.{IsEnd, IsSlotOf, LoadsSlot}
use Rattle.scan_cursor.specs.Views.{KnowsLast, Later, ReadsKey, View, view_of}
use Rattle.scan_cursor.proofs.FilledSlots.{Fills, HasLoaded, IsLoaded, fills_more, fills_none, fills_past, loaded_until, slot_key, slot_number}
use Rattle.scan_cursor.proofs.GatherViews.{absent_read, later_of, later_only, read_from, read_until}
use Rattle.scan_cursor.proofs.OrderedSlots.{Any}
use Rattle.scan_cursor.proofs.PassedEntries.{IsUpTo, Passed, passed_few, passed_more, passed_none, passed_stays, up_or_above}
use Rattle.scan_cursor.proofs.PinnedSteps.{Goes, entry_stays, goes_later, goes_learned, goes_range, goes_room, goes_step, same_entry}
use Rattle.scan_cursor.proofs.ReadingViews.{later_both, later_self}
use Rattle.scan_cursor.proofs.RoomRanges.{ahead_behind, ahead_within, behind_ahead, in_range, range_has}

-- the slots up to a nearer number, where each key behind the entry that was passed last was read absent
loaded_below : (before now : View) (from past to : ℕ) (last : Option FoundEntry) (xs : List SortSlot) → Fills before now from past last xs → to ≤ past → Each (λ (s : SortSlot). slot_number s < to) xs
    → ((q : List ℕ) → is_key q ≡ true → from ≤ key_number q → key_number q < to → IsAboveFound last (key_number q) → (at : ℕ) × ReadsKey before now q at None) → HasLoaded before now from to Any xs
loaded_below before now from past to last xs h le low gap = record {
  slots = both xs h.loaded.slots low;
  rising = h.loaded.rising;
  absent = λ q is a b _ none. ⊎_elim (λ (u : IsUpTo last (key_number q)). h.loaded.absent q is a (omega arith) u none) (λ (u : IsAboveFound last (key_number q)). gap q is a b u) (up_or_above last (key_number q));
}
  where
    both : (ys : List SortSlot) → Each (IsLoaded before now from past) ys → Each (λ (s : SortSlot). slot_number s < to) ys → Each (IsLoaded before now from to) ys
    both [] i l = tt
    both (y ∷ ys) i l = (record { key = i.0.key; from_on = i.0.from_on; below = l.0; knew = i.0.knew }, both ys i.1 l.1)

-- the numbers of the keys ahead in the room: from this one on, and below that one

abbrev pub from_of : Way → List ℕ → Room → ℕ
from_of way k a = ahead_from way k (bound_in way a)

abbrev pub past_of : Way → List ℕ → Room → ℕ
past_of way k a = ahead_past way k (bound_in way a)

-- The walk comes to an entry of the room, or to the end of its links: of the keys ahead each before that is in a slot, or was read absent.
pub record Comes (z : Sizes) (call r : ℕ) (way : Way) (k : List ℕ) (v : PassState) (a : Room) (next : Option EntryNo) (many : ℕ) (w : PassState) (xs : List SortSlot) : Type 0 where
  pub goes : Goes z call r v w
  pub last : Option FoundEntry
  pub passed : Passed z last many w
  pub fills : Fills (view_of z call v) (view_of z call w) (from_of way k a) (past_of way k a) last xs
  pub behind : Option FoundEntry
  pub is : IsEntryOrNone r next w behind
  pub rises : Rise last behind
  pub inside : IsInRoom a behind
  pub gap : (q : List ℕ) → is_key q ≡ true → from_of way k a ≤ key_number q → key_number q < past_of way k a → IsAboveFound last (key_number q) → IsBelowFound behind (key_number q) → (at : ℕ) × ReadsKey (view_of z call v) (view_of z call w) q at None

-- It stands at an entry of the room that it has passed.
pub record Walked (z : Sizes) (call r : ℕ) (way : Way) (k : List ℕ) (v : PassState) (a : Room) (e : EntryNo) (many : ℕ) (w : PassState) (xs : List SortSlot) : Type 0 where
  pub goes : Goes z call r v w
  pub last : FoundEntry
  pub finds : FindsEntry r e.0 w.rooms (room_pin w) last
  pub from_on : low_end a.low ≤ found_key last
  pub passed : Passed z (Some last) many w
  pub fills : Fills (view_of z call v) (view_of z call w) (from_of way k a) (past_of way k a) (Some last) xs

-- a batch begins
pub comes_first : (z : Sizes) (call r : ℕ) (way : Way) (k : List ℕ) (v : PassState) (near : Option (List ℕ)) (next : Option EntryNo) (w : PassState) → Starts z call r way k near next v w → Comes z call r way k v (cut_room way (room_at v) near) next 0 w []
comes_first z call r way k v near next w s = record {
  goes = record { under = s.under; quiet = s.quiet; still = s.still };
  last = None;
  passed = passed_none z w;
  fills = fills_none (view_of z call v) (view_of z call w) _ _;
  behind = s.behind;
  is = s.is;
  rises = tt;
  inside = s.inside;
  gap = λ q is a b above below. s.absent q is a b below;
}

-- it has passed no more than a room has
pub comes_few : (z : Sizes) (call r : ℕ) (way : Way) (k : List ℕ) (v : PassState) (a : Room) (next : Option EntryNo) (many : ℕ) (w : PassState) (xs : List SortSlot) → Comes z call r way k v a next many w xs → many ≤ GREATEST_ENTRIES
comes_few z call r way k v a next many w xs g = let f = passed_few z g.last many w g.passed in let s = g.goes.under.pin.has.few in omega arith

-- ---- a link was loaded under the pin

module _ (z : Sizes) (call r : ℕ) (v w u : PassState) (g : Goes z call r v w) (at next : Option EntryNo) (s : StepsTo z call r at next w u) where
  pub went : Goes z call r v u
  went = goes_step z call r v w u g at next s

  pub step_later : Later (view_of z call w) (view_of z call u)
  step_later = later_of z call w u s.under.learns s.quiet

  -- a key of the room that it steps over
  pub stepped_over : (q : List ℕ) → low_end (room_at v).low ≤ key_number q → key_number q < high_end (room_at v).high → IsAboveFound s.before (key_number q) → IsBelowFound s.behind (key_number q) → (at : ℕ) × ReadsKey (view_of z call v) (view_of z call u) q at None
  stepped_over q a b above below =
      let inside = subst (λ (x : Span). within x (key_number q) ≡ 1) (sym (goes_range z call r v w g)) (in_range (room_pin v) (key_number q) a b) in
      let absent = s.absent (key_number q) inside above below in
      ((room_pin w).base, read_from z call v w u q (room_pin w).base None (goes_later z call r v w g) (absent_read z call w u q (room_pin w).base absent))

  -- what it names is one of the room's
  step_inside : (o : Option EntryNo) → (t : StepsTo z call r at o w u) → Goes z call r v u → IsInRoom (room_at v) t.behind
  step_inside None t h = subst (IsInRoom (room_at v)) (sym t.is) tt
  step_inside (Some e) t h = subst (IsInRoom (room_at v)) (sym t.is.2) here
    where
      f : FoundEntry
      f = t.is.0

      well : IsFoundWell z f
      well = each_has (IsFoundWell z) (found_in (room_pin u)) f t.under.pin.has.found t.is.1.there

      ends : (low_end (room_at v).low ≤ key_number (key_bytes f.word f.words)) × (key_number (key_bytes f.word f.words) < high_end (room_at v).high)
      ends = let i = found_within z _ r u (moment_after z call (load (in_rooms (link_spot r (number_of at)))) w (link_to (Some e)) u t.told) t.under.pin.has.pin f t.is.1.there in
          let one : within (span_of (room_pin u)) (key_number (key_bytes f.word f.words)) ≡ 1 = ap (within (span_of (room_pin u))) (sym well.same) ∙ i in
          subst (λ (x : Room). (low_end x.low ≤ key_number (key_bytes f.word f.words)) × (key_number (key_bytes f.word f.words) < high_end x.high)) (goes_room z call r v u h) (range_has (room_pin u) (key_bytes f.word f.words) well.bytes (omega arith))

      here : IsInRoom (room_at v) (Some f)
      here = let l = ends.0 in let m = ends.1 in let n = well.same in (omega arith, omega arith)

  pub stepped_inside : IsInRoom (room_at v) s.behind
  stepped_inside = step_inside next s went

-- ---- the room up to the bound

module _ (z : Sizes) (call r : ℕ) (way : Way) (k : List ℕ) (v : PassState) (a : Room) where
  -- the walk goes on from an entry
  module _ (covers : Covers way true k a) (wide : low_end (room_at v).low ≤ low_end a.low) (high : high_end a.high ≡ high_end (room_at v).high) (e : EntryNo) (many : ℕ) (w u : PassState) (xs : List SortSlot) (g : Walked z call r way k v a e many w xs) (next : Option EntryNo) (s : StepsTo z call r (Some e) next w u) where
    -- a key ahead is one of the whole room
    in_whole : (n : ℕ) → from_of way k a ≤ n → n < past_of way k a → (low_end (room_at v).low ≤ n) × (n < high_end (room_at v).high)
    in_whole n l h = let c = ahead_within way k a n covers l h in let x = c.0 in let y = c.1 in (omega arith, omega arith)

    before_is : s.before ≡ Some g.last
    before_is = same_entry z r w g.goes.under.pin.has (Some e) s.before (Some g.last) s.was (g.last, g.finds, refl)

    rises : Rise (Some g.last) s.behind
    rises = subst (λ (o : Option FoundEntry). Rise o s.behind) before_is s.rises

    further : (o : Option FoundEntry) → Rise (Some g.last) o → IsInRoom (room_at v) o → IsInRoom a o
    further None up i = tt
    further (Some f) up i = let l = g.from_on in let h = i.1 in (omega arith, omega arith)

    pub comes_next : Comes z call r way k v a next many u xs
    comes_next = record {
      goes = went z call r v w u g.goes (Some e) next s;
      last = Some g.last;
      passed = passed_stays z (Some g.last) many w u s.under.pin.stays.entries g.passed;
      fills = record { loaded = loaded_until z call v w u (from_of way k a) (past_of way k a) (IsUpTo (Some g.last)) xs (step_later z call r v w u g.goes (Some e) next s) g.fills.loaded; up_to = g.fills.up_to };
      behind = s.behind;
      is = s.is;
      rises = rises;
      inside = further s.behind rises (stepped_inside z call r v w u g.goes (Some e) next s);
      gap = λ q is l h above below. let c = in_whole (key_number q) l h in stepped_over z call r v w u g.goes (Some e) next s q c.0 c.1 (subst (λ (o : Option FoundEntry). IsAboveFound o (key_number q)) (sym before_is) above) below;
    }

  -- more was loaded, of no link
  pub comes_later : (next : Option EntryNo) (many : ℕ) (w x : PassState) (xs : List SortSlot) → OnlyLearns call w x → Comes z call r way k v a next many w xs → Comes z call r way k v a next many x xs
  comes_later next many w x xs o g = let l = later_only z call w x o in record {
    goes = goes_learned z call r v w x g.goes o;
    last = g.last;
    passed = passed_stays z g.last many w x (λ y h. subst (λ (b : RoomHolds). Has y (found_in (pin_or b.pin))) (sym o.rooms) h) g.passed;
    fills = record { loaded = loaded_until z call v w x (from_of way k a) (past_of way k a) (IsUpTo g.last) xs l g.fills.loaded; up_to = g.fills.up_to };
    behind = g.behind;
    is = entry_stays r next g.behind w x o.rooms g.is;
    rises = g.rises;
    inside = g.inside;
    gap = λ q is b c above below. let t = g.gap q is b c above below in (t.0, read_until z call v w x q t.0 None l t.1);
  }

  -- it has come to the end of the links
  pub loaded_all : (many : ℕ) (u : PassState) (xs : List SortSlot) → Comes z call r way k v a None many u xs → HasLoaded (view_of z call v) (view_of z call u) (from_of way k a) (past_of way k a) Any xs
  loaded_all many u xs g = loaded_below (view_of z call v) (view_of z call u) (from_of way k a) (past_of way k a) (past_of way k a) g.last xs g.fills (omega arith)
      (each_map (IsLoaded (view_of z call v) (view_of z call u) (from_of way k a) (past_of way k a)) (λ (s : SortSlot). slot_number s < past_of way k a) xs (λ s i. i.below) g.fills.loaded.slots)
      (λ q is l h above. g.gap q is l h above (subst (λ (o : Option FoundEntry). IsBelowFound o (key_number q)) (sym g.is) tt))

  -- or to an entry
  module _ (e : EntryNo) (many : ℕ) (u : PassState) (xs : List SortSlot) (g : Comes z call r way k v a (Some e) many u xs) where
    abbrev f : FoundEntry
    f = g.is.0

    abbrev pub key_here : List ℕ
    key_here = key_bytes g.is.0.word g.is.0.words

    rising : Rise g.last (Some f)
    rising = subst (λ (o : Option FoundEntry). Rise g.last o) g.is.2 g.rises

    there : Has f (found_in (room_pin u))
    there = g.is.1.there

    has : HasRoomPin z r u
    has = g.goes.under.pin.has

    well : IsFoundWell z f
    well = each_has (IsFoundWell z) (found_in (room_pin u)) f has.found there

    passed : Passed z (Some f) (suc many) u
    passed = passed_more z r g.last many u g.passed has f there rising

    pub many_more : suc many ≤ GREATEST_ENTRIES
    many_more = let l = passed_few z (Some f) (suc many) u passed in let t = has.few in omega arith

    pub entry_here : HasEntry r e.0 (key_bytes g.is.0.word g.is.0.words) u
    entry_here = record { entry = f; finds = g.is.1; key_is = refl }

    pub key_here_is : is_key (key_bytes g.is.0.word g.is.0.words) ≡ true
    key_here_is = is_key-of key_here well.key well.bytes

    inside : (low_end a.low ≤ found_key f) × (found_key f < high_end a.high)
    inside = subst (IsInRoom a) g.is.2 g.inside

    gap : (q : List ℕ) → is_key q ≡ true → from_of way k a ≤ key_number q → key_number q < past_of way k a → IsAboveFound g.last (key_number q) → key_number q < found_key f → (at : ℕ) × ReadsKey (view_of z call v) (view_of z call u) q at None
    gap q is l h above below = g.gap q is l h above (subst (λ (y : Option FoundEntry). IsBelowFound y (key_number q)) (sym g.is.2) below)

    -- which is loaded
    module _ (x : PassState) (o : OnlyLearns call u x) where
      load_later : Later (view_of z call u) (view_of z call x)
      load_later = later_only z call u x o

      still : HasLoaded (view_of z call v) (view_of z call x) (from_of way k a) (past_of way k a) (IsUpTo g.last) xs
      still = loaded_until z call v u x (from_of way k a) (past_of way k a) (IsUpTo g.last) xs load_later g.fills.loaded

      gap_then : (q : List ℕ) → is_key q ≡ true → from_of way k a ≤ key_number q → key_number q < past_of way k a → IsAboveFound g.last (key_number q) → key_number q < found_key f → (at : ℕ) × ReadsKey (view_of z call v) (view_of z call x) q at None
      gap_then q is l h above below = let t = gap q is l h above below in (t.0, read_until z call v u x q t.0 None load_later t.1)

      stood : (ys : List SortSlot) → Fills (view_of z call v) (view_of z call x) (from_of way k a) (past_of way k a) (Some f) ys → Walked z call r way k v a e (suc many) x ys
      stood ys fills = record {
        goes = goes_learned z call r v u x g.goes o;
        last = f;
        finds = subst (λ (b : RoomHolds). FindsEntry r e.0 b (pin_or b.pin) f) (sym o.rooms) g.is.1;
        from_on = inside.0;
        passed = passed_stays z (Some f) (suc many) u x (λ y h. subst (λ (b : RoomHolds). Has y (found_in (pin_or b.pin))) (sym o.rooms) h) passed;
        fills = fills;
      }

      -- without a slot
      pub walked_past : LoadsSlot None way k (key_bytes g.is.0.word g.is.0.words) (view_of z call u) (view_of z call x) → Walked z call r way k v a e (suc many) x xs
      walked_past loads = stood xs (fills_past (view_of z call v) (view_of z call x) (from_of way k a) (past_of way k a) g.last xs g.fills.up_to still f rising gap_then key_here well.key well.bytes well.same
          (λ l h. let y = loads (ahead_behind way k (bound_in way a) key_here l h) in (y.0, read_from z call v u x key_here y.0 None (goes_later z call r v u g.goes) y.1)))

      -- with a slot
      pub walked_more : (t : SortSlot) → LoadsSlot (Some t) way k (key_bytes g.is.0.word g.is.0.words) (view_of z call u) (view_of z call x) → Walked z call r way k v a e (suc many) x (xs ++ t ∷ [])
      walked_more t l = let slot : IsSlotOf key_here (view_of z call x) t = l.1 in let n = well.same in let c0 = inside.0 in let c1 = inside.1 in let b = behind_ahead way k a key_here (omega arith) (omega arith) l.0 in
          let whole = later_both (view_of z call v) (view_of z call u) (view_of z call x) (goes_later z call r v u g.goes) load_later in
          let knew : KnewLast (view_of z call v) (view_of z call x) (in_slot t) = (view_of z call x, whole, later_self (view_of z call x), subst (λ (y : List ℕ). KnowsLast y (header_in t.value) (generation_in t.value) (view_of z call x)) (sym (slot_key key_here t slot.stored)) slot.knows) in
          stood (xs ++ t ∷ []) (fills_more (view_of z call v) (view_of z call x) (from_of way k a) (past_of way k a) g.last xs g.fills.up_to still f rising gap_then key_here well.key well.bytes well.same t slot b.0 b.1 knew)

    -- or before which the batch ends: the slots are of keys below it

    low_before : (s : SortSlot) → IsUpTo g.last (slot_number s) → slot_number s < found_key f
    low_before s up = strictly g.last rising up
      where
        strictly : (last : Option FoundEntry) → Rise last (Some f) → IsUpTo last (slot_number s) → slot_number s < found_key f
        strictly None up i = absurd i
        strictly (Some d) up i = omega arith

    pub loaded_to : (to : ℕ) → to ≤ past_of way k a → to ≤ key_number (key_bytes g.is.0.word g.is.0.words) → Each (λ (s : SortSlot). slot_number s < to) xs → HasLoaded (view_of z call v) (view_of z call u) (from_of way k a) to Any xs
    loaded_to to le key low = let n = well.same in loaded_below (view_of z call v) (view_of z call u) (from_of way k a) (past_of way k a) to g.last xs g.fills le low (λ q is l h above. gap q is l (omega arith) above (omega arith))

    pub key_below : key_number (key_bytes g.is.0.word g.is.0.words) < high_end a.high
    key_below = let n = well.same in let l = inside.1 in omega arith

    pub slots_below : Each (λ (s : SortSlot). slot_number s < key_number (key_bytes g.is.0.word g.is.0.words)) xs
    slots_below = each_map (λ (s : SortSlot). IsUpTo g.last (slot_number s)) (λ (s : SortSlot). slot_number s < key_number key_here) xs (λ s u. let l = low_before s u in let n = well.same in omega arith) g.fills.up_to

-- ---- the batch ends before an entry

module _ (z : Sizes) (call r : ℕ) (k : List ℕ) (v : PassState) (near : Option (List ℕ)) (e : EntryNo) (many : ℕ) (u : PassState) (xs : List SortSlot) (full : Bool) where
  pub loaded_end : (way : Way) → (g : Comes z call r way k v (cut_room way (room_at v) near) (Some e) many u xs) → IsEnd way full k (key_bytes g.is.0.word g.is.0.words)
      → HasLoaded (view_of z call v) (view_of z call u) (from_of way k (cut_room way (room_at v) (end_bound way (key_bytes g.is.0.word g.is.0.words) near))) (past_of way k (cut_room way (room_at v) (end_bound way (key_bytes g.is.0.word g.is.0.words) near))) Any xs
  loaded_end Up g stop = let a = cut_room Up (room_at v) near in let l = key_below z call r Up k v a e many u xs g in
      loaded_to z call r Up k v a e many u xs g (key_number (key_bytes g.is.0.word g.is.0.words)) (omega arith) (omega arith) (slots_below z call r Up k v a e many u xs g)
  loaded_end Down g stop = let a = cut_room Down (room_at v) near in
      loaded_to z call r Down k v a e many u xs g (key_number k) (omega arith) (not_less (key_number (key_bytes g.is.0.word g.is.0.words)) (key_number k) stop)
      (each_map (IsLoaded (view_of z call v) (view_of z call u) (from_of Down k a) (past_of Down k a)) (λ (s : SortSlot). slot_number s < key_number k) xs (λ s i. i.below) g.fills.loaded.slots)
    where
      not_less : (m n : ℕ) → (m < n → ⊥) → n ≤ m
      not_less m n h = omega arith

-- what its bound is

pub end_real : (way : Way) (q : List ℕ) (near : Option (List ℕ)) (a : Room) → is_key q ≡ true → IsRoom (cut_room way a near) → IsRoom (cut_room way a (end_bound way q near))
end_real Up q None a is real = record { low = real.low; high = is }
end_real Up q (Some b) a is real = record { low = real.low; high = is }
end_real Down q near a is real = real

pub end_covers : (way : Way) (full : Bool) (k q : List ℕ) (near : Option (List ℕ)) (a : Room) → IsEnd way full k q → Covers way true k (cut_room way a near) → Covers way true k (cut_room way a (end_bound way q near))
end_covers Up full k q None a stop c = (c.0, stop.1)
end_covers Up full k q (Some b) a stop c = (c.0, stop.1)
end_covers Down full k q near a stop c = c

pub end_full : (way : Way) (full : Bool) (k q : List ℕ) (near : Option (List ℕ)) (many filled : ℕ) → IsEnd way full k q → (full ≡ true → many ≤ filled) → IsFull way many (end_bound way q near) filled
end_full Up full k q near many filled stop f = f stop.0
end_full Down full k q near many filled stop f = tt

pub open_full : (way : Way) (near : Option (List ℕ)) (many filled : ℕ) → IsOpen way near → IsFull way many near filled
open_full Up None many filled up = tt
open_full Up (Some b) many filled up = absurd cc
open_full Down near many filled up = tt
