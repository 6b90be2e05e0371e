-- What a search loads of the table: no more key words than it met, the count that it loaded last, and nothing of it behind.
use Rattle.std.proofs.Common.{◌≡◌, ℕ, ◌+◌, ◌-◌, ◌<◌, ◌≤◌, cond, Bool, List, [], ◌∷◌, ◌++◌, sym, refl, ap, ◌∙◌, arith, append_assoc, append-nil, Option, Some, None, ◌==◌, ◌&&◌}
use Rattle.pin_word.specs.PinWord.{state_of}
use Rattle.oak_model.specs.Counts.{total, Each}
use Rattle.oak_model.specs.Limits.{Sizes}
use Rattle.oak_model.proofs.Counting.{test-cases, total_append}
use Rattle.oak_model.proofs.Lists.{each_append}
use Rattle.arena_core.specs.Place.{content}
use Rattle.chunk_core.specs.declared.holds.PinnedRoom.{PinnedRoom}
use Rattle.chunk_core.specs.declared.holds.RoomHolds.{RoomHolds}
use Rattle.chunk_core.specs.declared.states.TheConstants.{OPEN}
use Rattle.chunk_core.specs.FoundLinks.{leads}
use Rattle.chunk_core.specs.LinkedEntries.{entries_in}
use Rattle.chunk_core.specs.LinkWords.{link_spot, link_word}
use Rattle.chunk_core.specs.Rooms.{at_count, at_key}
use Rattle.chunk_core.specs.RoomsAfter.{pin_walked, walked_pin}
use Rattle.link_search.specs.Bits.{bits}
use Rattle.link_search.specs.Finds as search
use Rattle.link_search.specs.Met.{Met, met_count, met_link, met_key, tried_count, tried_link, stored_value, stored_link, stored_key, gave_up, key_loads, IsLoad, IsEntryLoad}
use Rattle.link_search.proofs.WalkLaws.{loads_append, one_load}
use Rattle.oak_core.specs.declared.states.Finding.{Finding}
use Rattle.oak_core.specs.declared.states.PassState.{PassState}
use Rattle.oak_core.specs.Finding.{finding}
use Rattle.oak_core.specs.Memory.{Memory, Spot, in_rooms, index, memory}
use Rattle.oak_core.specs.Passes.{state, key as sizes, call_of}
use Rattle.oak_core.specs.Step.{load, Told}
use Rattle.oak_core.proofs.memory.Words.{index_apart}
use Rattle.oak_core.proofs.told.PlainLoads.{rooms_linked}
use Rattle.chunk_ops.specs.declared.pinned_table.PinnedTable.{PinnedTable}
use Rattle.chunk_ops.specs.Finds.{LoadsFew, is_key_word_of}
use Rattle.chunk_ops.specs.LinkedTable.{DoesEach, DoesMet, MeetsInTable}
use Rattle.chunk_ops.specs.PinRecords.{HasRoomPin, pin_or, room_pin}
use Rattle.chunk_ops.specs.RoomLoads.{prefix_told, view_of}
use Rattle.chunk_ops.specs.TableLaws.{does_split}
use Rattle.chunk_ops.proofs.CountedPins.{counts_now}
use Rattle.chunk_ops.proofs.LeftTables.{LeavesTable, left_by, left_each, left_since}
use Rattle.chunk_ops.proofs.LoadedWords.{IsBesideCount, loads_few, loads_only, not_key}
use Rattle.chunk_ops.proofs.PinLoads.{LoadsUnder, each_under, entry_load, met_under}

-- of what was met at most n are key words, and where Q holds none is the count
pub record FindsFew (z : Sizes) (r n : ℕ) (Q : Type 0) (v w : PassState) : Type 0 where
  pub more : List Finding
  pub met : w.findings.met ≡ v.findings.met ++ more
  pub few : total (is_key_word_of z r) more ≤ n
  pub beside : Q → Each (IsBesideCount z r) more

module _ (z : Sizes) (call r : ℕ) (inside : r < z.chunks) where
  -- one load of another word
  few_else : (p : Spot) (n m : ℕ) (Q : Type 0) (v w : PassState) → ((i : ℕ) → p ≡ in_rooms (at_key r i) → ⊥) → (Q → index z p ≡ index z (in_rooms (at_count r)) → ⊥) → Told z call (load p) v n w → FindsFew z r m Q v w
  unfolding total
  few_else p n m Q v w ne beside t = record {
    more = _ ∷ [];
    met = ap (λ (y : PassState). y.findings.met) t.after;
    few = let k = not_key z call r inside p t.may ne in omega arith;
    beside = λ q. (beside q, tt);
  }

  module _ (base place : ℕ) where
    met_findings : (m : Met) (v w : PassState) → IsLoad m → DoesMet z call r base place m v w → FindsFew z r (key_loads (m ∷ [])) (IsEntryLoad m) v w
    met_findings (met_count n) v w l d = few_else (in_rooms (at_count r)) n (key_loads (met_count n ∷ [])) ⊥ v w (λ i e. absurd cc) (λ q. absurd q) d
    met_findings (met_link None n) v w l d = few_else (in_rooms (link_spot r None)) n (key_loads (met_link None n ∷ [])) (Unit {0}) v w (λ i e. absurd cc) (λ q e. let s = index_apart z (in_rooms (link_spot r None)) (in_rooms (at_count r)) d.may (inside, omega arith) e in absurd cc) d
    met_findings (met_link (Some j) n) v w l d = few_else (in_rooms (link_spot r (Some j))) n (key_loads (met_link (Some j) n ∷ [])) (Unit {0}) v w (λ i e. absurd cc) (λ q e. let s = index_apart z (in_rooms (link_spot r (Some j))) (in_rooms (at_count r)) d.may (inside, omega arith) e in absurd cc) d
    met_findings (met_key i) v w l d = let f = loads_few z call r inside d.met v w d.loads in record { more = f.0; met = f.1; few = let a = f.2 in let b = d.few in let o = one_load i in omega arith; beside = λ q. f.3 }
    met_findings (tried_count o n) v w l d = absurd l
    met_findings (tried_link f i o n) v w l d = absurd l
    met_findings (stored_value i) v w l d = absurd l
    met_findings (stored_link i n) v w l d = absurd l
    met_findings (stored_key i) v w l d = absurd l
    met_findings (gave_up i) v w l d = absurd l

    pub each_findings : (ms : List Met) (v w : PassState) → Each IsLoad ms → DoesEach z call r base place ms v w → FindsFew z r (key_loads ms) (Each IsEntryLoad ms) v w
    unfolding total
    each_findings [] v w l d = record { more = []; met = ap (λ (y : PassState). y.findings.met) d ∙ sym (append-nil v.findings.met); few = omega arith; beside = λ q. tt }
    each_findings (m ∷ ms) v w l d = let a = met_findings m v d.0 l.0 d.1 in let b = each_findings ms d.0 w l.1 d.2 in record {
      more = a.more ++ b.more;
      met = b.met ∙ (ap (λ (xs : List Finding). xs ++ b.more) a.met ∙ append_assoc v.findings.met a.more b.more);
      few = let s = total_append (is_key_word_of z r) a.more b.more in let k = loads_append (m ∷ []) ms in let x = a.few in let y = b.few in omega arith;
      beside = λ q. each_append (IsBesideCount z r) a.more b.more (a.beside q.0) (b.beside q.1);
    }

-- loads of links and keys leave the count that was found
module _ (z : Sizes) (call r : ℕ) where
  module _ (from : Option ℕ) (v : PassState) (n : ℕ) (w : PassState) (p : HasRoomPin z r v) (t : Told z call (load (in_rooms (link_spot r from))) v n w) where
    abbrev m : Memory
    m = memory z t.table.words

    abbrev q : PinnedRoom
    q = room_pin v

    link_counted : (room_pin w).count ≡ (room_pin v).count
    link_counted = ap (λ (a : RoomHolds). (pin_or a.pin).count) (ap (λ (y : PassState). y.rooms) t.after ∙ (rooms_linked m v r from ∙ ap (λ (o : Option PinnedRoom). record v.rooms { pin = walked_pin m.rooms (content m.arena.bytes) r from o }) p.pin.is))
        ∙ test-cases (((q.room == r) && (state_of q.found == OPEN)) && leads from q) (λ (b : Bool). (cond b (pin_walked m.rooms (content m.arena.bytes) (link_word m.rooms r from) q) q).count ≡ q.count) (λ _. refl) (λ _. refl)

  module _ (base place : ℕ) where
    met_counted : (m : Met) (v w : PassState) → HasRoomPin z r v → IsEntryLoad m → DoesMet z call r base place m v w → (room_pin w).count ≡ (room_pin v).count
    met_counted (met_count n) v w p l d = absurd l
    met_counted (met_link from n) v w p l d = link_counted from v n w p d
    met_counted (met_key i) v w p l d = ap (λ (a : RoomHolds). (pin_or a.pin).count) (loads_only z call r d.met v w d.loads).rooms
    met_counted (tried_count o n) v w p l d = absurd l
    met_counted (tried_link f i o n) v w p l d = absurd l
    met_counted (stored_value i) v w p l d = absurd l
    met_counted (stored_link i n) v w p l d = absurd l
    met_counted (stored_key i) v w p l d = absurd l
    met_counted (gave_up i) v w p l d = absurd l

    each_counted : (ms : List Met) (v w : PassState) → HasRoomPin z r v → Each IsEntryLoad ms → DoesEach z call r base place ms v w → (room_pin w).count ≡ (room_pin v).count
    each_counted [] v w p l d = ap (λ (y : PassState). (room_pin y).count) d
    each_counted (m ∷ ms) v w p l d = each_counted ms d.0 w (met_under z call r base place m v d.0 p (entry_load m l.0) d.1).under.pin.has l.1 d.2 ∙ met_counted m v d.0 p l.0 d.1

-- what a whole search leaves
pub record Searched (z : Sizes) (call r : ℕ) (v w : PassState) : Type 0 where
  pub loads : LoadsUnder z call r v w
  pub few : LoadsFew z r v w
  pub left : LeavesTable z v w

module _ (z : Sizes) (call r base place : ℕ) (v w : PassState) (p : HasRoomPin z r v) (before behind : List Met) (n : ℕ) (loads : Each IsLoad before) (last : Each IsEntryLoad behind) (does : DoesEach z call r base place (before ++ met_count n ∷ behind) v w) where
  pub search_left : (key_loads (before ++ met_count n ∷ behind) ≤ bits (prefix_told (room_pin w).count) + (entries_in n - prefix_told (room_pin w).count) + 1) → Searched z call r v w
  unfolding total
  search_left few = let s = does_split z call r base place v w before (met_count n ∷ behind) does in let u : PassState = s.0 in let x : PassState = s.2.0 in let t = s.2.1 in
      let a = each_under z call r base place before v u p loads s.1 in let c = counts_now z call r u n x a.under.pin.has t in let after = entries_are behind last in
      let kept = each_counted z call r base place behind x w c.under.pin.has last s.2.2 in let found : (room_pin w).count ≡ Some n = kept ∙ c.number in
      let f = each_findings z call r p.inside base place before v u loads s.1 in let g = each_findings z call r p.inside base place behind x w after s.2.2 in
      let one : Finding = finding z call (in_rooms (at_count r)) (Some _) _ t.table.words u in let at : x.findings.met ≡ u.findings.met ++ one ∷ [] = ap (λ (y : PassState). y.findings.met) t.after in record {
        loads = each_under z call r base place (before ++ met_count n ∷ behind) v w p (each_append IsLoad before (met_count n ∷ behind) loads (tt, after)) does;
        few = record {
          count = n;
          found = found;
          before = f.more;
          load = one;
          behind = g.more;
          met = g.met ∙ (ap (λ (xs : List Finding). xs ++ g.more) (at ∙ (ap (λ (xs : List Finding). xs ++ one ∷ []) f.met)) ∙ (append_assoc (v.findings.met ++ f.more) (one ∷ []) g.more ∙ append_assoc v.findings.met f.more (one ∷ g.more)));
          of_count = refl;
          tells = ap (λ (k : ℕ). Some k) t.finds;
          last = g.beside last;
          few = let b = total_append (is_key_word_of z r) f.more (one ∷ g.more) in let k = not_key z call r p.inside (in_rooms (at_count r)) t.may (λ i e. absurd cc) in let i = f.few in let j = g.few in let l = loads_append before (met_count n ∷ behind) in let m = loads_append (met_count n ∷ []) behind in let q = ap prefix_told found in let h = ap (λ (o : Option ℕ). bits (prefix_told o)) found in omega arith;
        };
        left = left_since z call v u w a.still (left_each z call r base place behind u x w (left_by z call (in_rooms (at_count r)) u n x t) after s.2.2);
      }
    where
      entries_are : (ms : List Met) → Each IsEntryLoad ms → Each IsLoad ms
      entries_are [] e = tt
      entries_are (m ∷ ms) e = (entry_load m e.0, entries_are ms e.1)

pub searched : (s t : PinnedTable) → HasRoomPin (sizes s.table.now) s.room (state s.pass.now) → search.LoadsFew MeetsInTable (view_of t) s t → Searched (sizes s.table.now) (call_of s.pass.now) s.room (state s.pass.now) (state t.pass.now)
searched s t p l = search_left (sizes s.table.now) (call_of s.pass.now) s.room s.base s.place (state s.pass.now) (state t.pass.now) p l.before l.behind l.word l.loads l.last l.on.does l.few
