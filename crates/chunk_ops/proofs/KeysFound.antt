-- What a search for a key found, by the pin that its pass has.
use Rattle.std.proofs.Common.{◌≡◌, ◌≢◌, ℕ, ◌-◌, List, sym, refl, ap, ◌∙◌, subst, Option, Some, None}
use Rattle.oak_model.specs.Counts.{Has}
use Rattle.oak_model.specs.Key.{IsKey, AreBytes, IsKeyBefore}
use Rattle.oak_model.specs.KeyNumber.{key_number}
use Rattle.oak_model.specs.Limits.{Sizes}
use Rattle.oak_model.proofs.MemberLaws.{each_has}
use Rattle.oak_model.proofs.NumberLaws.{key_number_is, key_number_rises}
use Rattle.chunk_core.specs.declared.holds.FoundEntry.{FoundEntry}
use Rattle.chunk_core.specs.KeyWords.{key_bytes, key_length}
use Rattle.chunk_core.specs.PinnedRooms.{found_in, found_key}
use Rattle.link_search.specs.Finds as search
use Rattle.link_search.specs.Linked as linked
use Rattle.link_search.specs.Linked.{IsAboveFrom, IsBelowTo, IsFound}
use Rattle.link_search.specs.Met.{Met}
use Rattle.link_search.proofs.WalkLaws.{cut_grown}
use Rattle.oak_core.specs.declared.states.PassState.{PassState}
use Rattle.oak_core.specs.AloneWords.{Runs}
use Rattle.oak_core.specs.Memory.{memory}
use Rattle.oak_core.specs.Passes.{state, key as sizes, call_of}
use Rattle.oak_core.proofs.seats.AloneRuns.{runs_as}
use Rattle.chunk_ops.specs.declared.pinned_table.PinnedTable.{PinnedTable}
use Rattle.chunk_ops.specs.declared.entries.EntryNo.{EntryNo}
use Rattle.chunk_ops.specs.declared.entries.Found.TheVariants.{Entry}
use Rattle.chunk_ops.specs.Finds.{BelongsBehind, FindsMissing, LiesBefore, LiesBehind, number_in}
use Rattle.chunk_ops.specs.FindsAlone.{FindsIn, HasKeyAt, LacksIn, LacksKeyAt, as_entry}
use Rattle.chunk_ops.specs.FoundNumbers.{entry_there, has_counted}
use Rattle.chunk_ops.specs.LinkedTable.{MeetsInTable}
use Rattle.chunk_ops.specs.PinRecords.{HasEntry, HasRoomPin, IsFoundWell, room_pin}
use Rattle.chunk_ops.specs.RoomLoads.{linked_in, view_of}
use Rattle.chunk_ops.proofs.FoundViews.{view_key}
use Rattle.chunk_ops.proofs.FoundWords.{found_stands_at}
use Rattle.chunk_ops.proofs.LeadsOver.{LeadsOver, above_at, below_at, leads_over}
use Rattle.chunk_ops.proofs.LeftTables.{LeavesTable}
use Rattle.chunk_ops.proofs.LinkedPins.{IsAboveAt, IsBelowAt}
use Rattle.chunk_ops.proofs.WordParts.{part_small}

-- an entry with the key, as the pin found it
pub entry_found : (z : Sizes) (r i : ℕ) (k : List ℕ) (w : PassState) → HasRoomPin z r w → search.IsEntryOf (linked_in (room_pin w)) k i → HasEntry r i k w
entry_found z r i k w p h = let e = entry_there z r w p i h.0 in record { entry = e.entry; finds = e.finds; key_is = e.key_is ∙ h.1 }

-- none that was found has the key, by their numbers
pub none_found : (z : Sizes) (r : ℕ) (k : List ℕ) (w : PassState) → HasRoomPin z r w → IsKey k → AreBytes k → ((j : ℕ) → IsFound (linked_in (room_pin w)) j → (linked_in (room_pin w)).key j ≢ k) → (e : FoundEntry) → Has e (found_in (room_pin w)) → found_key e ≢ key_number k
none_found z r k w p is small none e has same = let l = each_has (IsFoundWell z) (found_in (room_pin w)) e p.found has in
    none e.number (has_counted e.number (found_in (room_pin w)) e has refl)
    (view_key (room_pin w) p.alike e.number e has refl ∙ key_number_is (key_bytes e.word e.words) k (part_small (key_length e.word) e.words) small l.key is (sym l.same ∙ same))

-- an entry that the pin found, in the words of a search
module _ (z : Sizes) (r : ℕ) (w : PassState) (p : HasRoomPin z r w) where
  has_found : (i : ℕ) (k : List ℕ) → HasEntry r i k w → search.IsEntryOf (linked_in (room_pin w)) k i
  has_found i k e = (has_counted i (found_in (room_pin w)) e.entry e.finds.there e.finds.number, view_key (room_pin w) p.alike i e.entry e.finds.there e.finds.number ∙ e.key_is)

  entry_above : (i : EntryNo) (k : List ℕ) → LiesBehind r (Some i) k w → IsAboveFrom (linked_in (room_pin w)) (Some i.0) k
  entry_above i k h = let e = has_found i.0 h.0 h.1 in (e.0, subst (λ (q : List ℕ). IsKeyBefore q k) (sym e.1) h.2)

  -- a key that lies behind one
  pub lies_above : (behind : Option EntryNo) (k : List ℕ) → LiesBehind r behind k w → IsAboveFrom (linked_in (room_pin w)) (number_in behind) k
  lies_above None k h = tt
  lies_above (Some i) k h = entry_above i k h

  above_lies : (from : Option ℕ) (k : List ℕ) → IsAboveFrom (linked_in (room_pin w)) from k → LiesBehind r (as_entry from) k w
  above_lies None k h = tt
  above_lies (Some i) k h = ((linked_in (room_pin w)).key i, entry_there z r w p i h.0, h.1)

  lies_from : (from : Option ℕ) (k : List ℕ) → LiesBehind r (as_entry from) k w → IsAboveFrom (linked_in (room_pin w)) from k
  lies_from None k h = tt
  lies_from (Some i) k h = entry_above (record { 0 = i }) k h

  -- or before the one that a link names
  pub before_below : (link : ℕ) (k : List ℕ) → LiesBefore r link k w → IsBelowTo (linked_in (room_pin w)) link k
  before_below link k h ne = let l = h ne in let e = has_found (link - 1) l.0 l.1 in (e.0, subst (IsKeyBefore k) (sym e.1) l.2)

  pub below_before : (link : ℕ) (k : List ℕ) → IsBelowTo (linked_in (room_pin w)) link k → LiesBefore r link k w
  below_before link k h ne = let l = h ne in ((linked_in (room_pin w)).key (link - 1), entry_there z r w p (link - 1) l.0, l.1)

  -- and belongs right behind it
  pub place_found : (from : Option ℕ) (k : List ℕ) → linked.BelongsBehind (linked_in (room_pin w)) from k → BelongsBehind r (as_entry from) k w
  place_found from k b = record {
    above = above_lies from k b.above;
    next = λ i other e l before. let f = has_found i other e in b.next i f.0 (subst (IsAboveFrom (linked_in (room_pin w)) from) (sym f.1) (lies_from from other l)) (subst (λ (q : List ℕ). IsKeyBefore q k) (sym f.1) before);
  }

-- a link that leads over the key, behind the steps ms of the call
module _ (s m t : PinnedTable) (ms : List Met) (on : MeetsInTable s m ms) (k : List ℕ) (is : IsKey k) (small : AreBytes k) (p : HasRoomPin (sizes s.table.now) s.room (state m.pass.now)) (q : HasRoomPin (sizes s.table.now) s.room (state t.pass.now)) {from : Option ℕ} {link : ℕ} (x : search.Misses view_of MeetsInTable k from link m t) where
  abbrev z : Sizes
  z = sizes s.table.now

  abbrev r : ℕ
  r = s.room

  abbrev v : PassState
  v = state m.pass.now

  abbrev w : PassState
  w = state t.pass.now

  pub over_key : LeadsOver (sizes s.table.now) (call_of s.pass.now) s.room from link (state m.pass.now) (state t.pass.now)
  over_key = leads_over s m t ms on p (λ (y : List ℕ). IsKeyBefore y k) (IsKeyBefore k) from link x.over

  above : IsAboveAt (room_pin w) from (key_number k)
  above = above_at z r w q (key_number k) (λ (y : List ℕ). IsKeyBefore y k) from (cut_grown (view_of x.over.looked.moment) (view_of t) from (λ (y : List ℕ). IsKeyBefore y k) x.over.grown x.over.cut) (λ y iy by l. key_number_rises y k by small is l)

  below : IsBelowAt (room_pin w) link (key_number k)
  below = below_at z r w q (key_number k) (IsKeyBefore k) link x.over.leads (λ y iy by l. key_number_rises k y small by iy l)

  pub missing_found : FindsMissing (sizes s.table.now) (call_of s.pass.now) s.room k (state m.pass.now) (state t.pass.now)
  missing_found = record { none = none_found z r k w q is small x.none; read = λ covers. over_key.absent (key_number k) covers above below }

  pub missing_there : LacksKeyAt (memory (sizes s.table.now) over_key.words) s.room k
  missing_there = λ i l e. over_key.none (key_number k) above below i l (ap key_number e)

  pub missing_alone : Runs (LacksIn (sizes s.table.now) s.room k) (state m.pass.now) (state t.pass.now)
  missing_alone = runs_as (λ a b. (a ≡ over_key.words) × (b ≡ a)) (LacksIn z r k) v w (λ a b d. (d.1, subst (λ (ws : List ℕ). LacksKeyAt (memory z ws) r k) (sym d.0) missing_there)) over_key.alone

-- to a pass that is alone: the entry stands in the words
pub found_alone : (z : Sizes) (r i : ℕ) (k : List ℕ) (v w : PassState) → HasRoomPin z r w → LeavesTable z v w → search.IsEntryOf (linked_in (room_pin w)) k i → Runs (FindsIn z r k (Entry (record { 0 = i }))) v w
found_alone z r i k v w q l h = let s = found_stands_at z r l.words w l.moment q i h.0 in runs_as (λ a b. (a ≡ l.words) × (b ≡ a)) (FindsIn z r k (Entry (record { 0 = i }))) v w
    (λ a b d. (d.1, subst (λ (ws : List ℕ). HasKeyAt (memory z ws) r k (Entry (record { 0 = i }))) (sym d.0) (s.0, s.1 ∙ h.1))) l.alone
