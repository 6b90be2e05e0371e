-- How a key splits a sorted prefix, by what the search of it found and loaded.
use Rattle.std.proofs.Common.{◌≡◌, ℕ, ◌<◌, ◌≤◌, List, [], ◌∷◌, ap, ◌∙◌, sym, subst, arith, Option, Some}
use mathlib.Core.Logic.{dite}
use native.Mathlib.Decide.{dec_lt}
use Rattle.oak_model.specs.Key.{AreBytes, IsKey, IsKeyBefore}
use Rattle.oak_model.specs.KeyNumber.{key_number}
use Rattle.oak_model.specs.Limits.{Sizes}
use Rattle.oak_model.proofs.MemberLaws.{each_has}
use Rattle.oak_model.proofs.NumberLaws.{key_number_rises}
use Rattle.chunk_core.specs.LinkedEntries.{prefix_in}
use Rattle.chunk_core.specs.PinnedRooms.{found_in, span_of}
use Rattle.chunk_core.specs.Spans.{within}
use Rattle.link_search.specs.Bits.{bits}
use Rattle.link_search.specs.Finds as search
use Rattle.link_search.specs.Linked.{Linked, IsFront}
use Rattle.link_search.specs.Met.{LoadsKeys, key_loads, met_count}
use Rattle.link_search.proofs.StepLaws.{entries_load}
use Rattle.oak_core.specs.declared.states.PassState.{PassState}
use Rattle.oak_core.specs.AloneWords.{Moment}
use Rattle.oak_core.specs.Passes.{state, key as sizes, call_of}
use Rattle.chunk_ops.specs.declared.pinned_table.PinnedTable.{PinnedTable}
use Rattle.chunk_ops.specs.FoundNumbers.{entry_there, pinned_room}
use Rattle.chunk_ops.specs.LinkedTable.{MeetsInTable}
use Rattle.chunk_ops.specs.PinRecords.{HasEntry, HasRoomPin, IsFoundWell, room_pin}
use Rattle.chunk_ops.specs.Prefixes.{HalvesPrefix, SplitsPrefix}
use Rattle.chunk_ops.specs.RoomLoads.{linked_in, prefix_told, view_of}
use Rattle.chunk_ops.specs.TableLaws.{meets_then}
use Rattle.chunk_ops.proofs.FoundRanges.{found_within}
use Rattle.chunk_ops.proofs.SearchLoads.{Searched, each_findings, searched}

-- ---- the entries of the prefix are found, and rise

module _ (z : Sizes) (r : ℕ) (k : List ℕ) (w : PassState) (p : HasRoomPin z r w) (small : AreBytes k) (is : IsKey k) (front : IsFront (linked_in (room_pin w))) (count : ℕ) (told : (room_pin w).count ≡ Some count) (words : List ℕ) (moment : Moment z words w) where
  abbrev found : Linked
  found = linked_in (room_pin w)

  long : prefix_told (room_pin w).count ≡ prefix_in count
  long = ap prefix_told told

  key_of : (i : ℕ) → i < found.prefix → HasEntry r i (found.key i) w
  key_of i l = entry_there z r w p i (front.found i l)

  bytes_of : (i : ℕ) → i < found.prefix → AreBytes (found.key i)
  bytes_of i l = (pinned_room z r w p).bytes i (front.found i l)

  lower : (i : ℕ) → i < found.prefix → IsKeyBefore (found.key i) k → (q : List ℕ) × HasEntry r i q w × (key_number q < key_number k)
  lower i l b = (found.key i, key_of i l, key_number_rises (found.key i) k (bytes_of i l) small is b)

  upper : (i : ℕ) → i < found.prefix → IsKeyBefore k (found.key i) → (q : List ℕ) × HasEntry r i q w × (key_number k ≤ key_number q)
  upper i l b = let n = key_number_rises k (found.key i) small (bytes_of i l) ((pinned_room z r w p).key i (front.found i l)) b in (found.key i, key_of i l, omega arith)

  range : (i : ℕ) (q : List ℕ) → i < prefix_in count → HasEntry r i q w → within (span_of (room_pin w)) (key_number q) ≡ 1
  range i q l h = let e = h.entry in let well = each_has (IsFoundWell z) (found_in (room_pin w)) e p.found h.finds.there in
      ap (within (span_of (room_pin w))) (ap key_number (sym h.key_is) ∙ sym well.same) ∙ found_within z words r w moment p.pin e h.finds.there

  pub splits_between : (n : ℕ) → search.IsBetween (linked_in (room_pin w)) k n → SplitsPrefix r k n w
  splits_between n b = record {
    count = count;
    told = told;
    most = let e = long in let l = b.within in omega arith;
    below = λ i l. let m = b.within in lower i (omega arith) (b.below i l);
    others = λ i le l. let e = long in let m : i < found.prefix = omega arith in upper i m (b.above i le m);
    inside = range;
  }

  pub splits_at : (n : ℕ) → search.IsAt (linked_in (room_pin w)) k n → SplitsPrefix r k n w
  splits_at n (l, at) = record {
    count = count;
    told = told;
    most = let e = long in omega arith;
    below = λ i b. lower i (omega arith) (subst (IsKeyBefore (found.key i)) at (front.rises i n b l));
    others = λ i le m. let e = long in let inside : i < found.prefix = omega arith in dite (dec_lt n i)
        (λ a. upper i inside (subst (λ (q : List ℕ). IsKeyBefore q (found.key i)) at (front.rises n i a inside)))
        (λ na. let s : n ≡ i = omega arith in (k, subst (λ (q : List ℕ). HasEntry r i q w) (ap found.key (sym s) ∙ at) (key_of i inside), omega arith));
    inside = range;
  }

-- ---- the count was loaded, and then key words

module _ (s u t : PinnedTable) (p : HasRoomPin (sizes s.table.now) s.room (state s.pass.now)) (n m : ℕ) (counts : MeetsInTable s u (met_count n ∷ [])) (keys : LoadsKeys MeetsInTable (bits m) u t) (same : m ≡ (view_of t).prefix) where
  pub met_all : MeetsInTable s t (met_count n ∷ keys.0)
  met_all = meets_then s u t (met_count n ∷ []) keys.0 counts keys.1

  few : key_loads (met_count n ∷ keys.0) ≤ bits (view_of t).prefix
  unfolding key_loads
  few = let l = keys.3 in let e = ap bits same in omega arith

  pub halved : Searched (sizes s.table.now) (call_of s.pass.now) s.room (state s.pass.now) (state t.pass.now)
  halved = let l = few in searched s t p record { word = n; before = []; behind = keys.0; on = met_all; loads = tt; last = keys.2; few = omega arith }

  pub halves : HalvesPrefix (sizes s.table.now) s.room (state s.pass.now) (state t.pass.now)
  halves = let h = halved.few in let l = few in let e = ap (λ (o : Option ℕ). bits (prefix_told o)) h.found in
      let f = each_findings (sizes s.table.now) (call_of s.pass.now) s.room p.inside s.base s.place (met_count n ∷ keys.0) (state s.pass.now) (state t.pass.now) (tt, entries_load keys.0 keys.2) met_all.does in
      record { count = h.count; told = h.found; more = f.more; met = f.met; few = let a = f.few in omega arith }
