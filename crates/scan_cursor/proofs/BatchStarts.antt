-- Where a batch of the entries of a pinned room begins.
use Rattle.std.proofs.Common.{◌≡◌, ℕ, ◌+◌, ◌<◌, ◌≤◌, true, List, Option, Some, None, sym, refl, ap, ◌∙◌, subst, arith}
use Rattle.std.specs.Prelude.{MatchOption}
use Rattle.oak_model.specs.Key.{AreBytes, IsKey}
use Rattle.oak_model.specs.KeyNumber.{key_number}
use Rattle.oak_model.specs.Limits.{Sizes}
use Rattle.oak_model.proofs.KeyLaws.{is_key-of}
use Rattle.oak_model.proofs.MemberLaws.{each_has}
use Rattle.chunk_core.specs.declared.holds.FoundEntry.{FoundEntry}
use Rattle.chunk_core.specs.FoundLinks.{IsAboveFound}
use Rattle.chunk_core.specs.PinnedRooms.{found_in, found_key, span_of}
use Rattle.chunk_core.specs.Spans.{within}
use Rattle.oak_core.specs.declared.states.PassState.{PassState}
use Rattle.chunk_ops.specs.declared.entries.EntryNo.{EntryNo}
use Rattle.chunk_ops.specs.Listing.{IsEntryOrNone, StepsTo}
use Rattle.chunk_ops.specs.PinRecords.{HasEntry, HasRoomPin, IsFoundWell, OnlyMeets, room_pin}
use Rattle.chunk_ops.specs.Prefixes.{SplitsPrefix}
use Rattle.scan_cursor.specs.declared.ways.Way.TheVariants.{Up, Down}
use Rattle.scan_cursor.specs.Batches.{Starts}
use Rattle.scan_cursor.specs.Holding.{IsAhead, Room, high_end, low_end, room_at}
use Rattle.scan_cursor.proofs.FilledRooms.{stepped_inside, stepped_over, went}
use Rattle.scan_cursor.proofs.GatherViews.{learns_only}
use Rattle.scan_cursor.proofs.PinnedSteps.{Goes, entry_stays, goes_learned, goes_room}
use Rattle.scan_cursor.proofs.RoomRanges.{range_has}

-- what a good pin has of an entry that it found
entry_well : (z : Sizes) (r i : ℕ) (q : List ℕ) (w : PassState) → HasRoomPin z r w → (h : HasEntry r i q w) → IsFoundWell z h.entry
entry_well z r i q w p h = each_has (IsFoundWell z) (found_in (room_pin w)) h.entry p.found h.finds.there

entry_number : (z : Sizes) (r i : ℕ) (q : List ℕ) (w : PassState) → HasRoomPin z r w → (h : HasEntry r i q w) → found_key h.entry ≡ key_number q
entry_number z r i q w p h = (entry_well z r i q w p h).same ∙ ap key_number h.key_is

module _ (z : Sizes) (call r : ℕ) (k : List ℕ) (v w : PassState) (g : Goes z call r v w) where
  abbrev has : HasRoomPin z r w
  has = g.under.pin.has

  -- ---- up, behind the last entry of the prefix below the key

  -- what is above the key is above that entry
  above_it : (below : ℕ) → SplitsPrefix r k below w → (at : Option EntryNo) → MatchOption at (below < 1) (λ i. i.0 + 1 ≡ below) → (o : Option FoundEntry) → IsEntryOrNone r at w o → (n : ℕ) → key_number k < n → IsAboveFound o n
  above_it below split None e o is n l = subst (λ (x : Option FoundEntry). IsAboveFound x n) (sym is) tt
  above_it below split (Some i) e o is n l = subst (λ (x : Option FoundEntry). IsAboveFound x n) (sym is.2) lower
    where
      lower : found_key is.0 < n
      lower = let t = split.below i.0 (omega arith) in let h = t.1 in let s : h.entry ≡ is.0 = has.alike h.entry is.0 h.finds.there is.1.there (h.finds.number ∙ sym is.1.number) in
          let m = entry_number z r i.0 t.0 w has h in let same = ap found_key s in let b = t.2 in omega arith

  pub starts_up : IsAhead z r Up true k v → (below : ℕ) → SplitsPrefix r k below w → (at : Option EntryNo) → MatchOption at (below < 1) (λ i. i.0 + 1 ≡ below) → (next : Option EntryNo) (u : PassState) → StepsTo z call r at next w u → Starts z call r Up k None next v u
  starts_up ahead below split at e next u s = let t = went z call r v w u g at next s in record {
    under = t.under;
    quiet = t.quiet;
    still = t.still;
    real = ahead.real;
    covers = ahead.covers;
    wide = omega arith;
    high = refl;
    up = refl;
    behind = s.behind;
    is = s.is;
    inside = stepped_inside z call r v w u g at next s;
    absent = λ q is a b c. let l = ahead.covers.0 in stepped_over z call r v w u g at next s q (omega arith) b (above_it below split at e s.before s.was (key_number q) (omega arith)) c;
  }

  module _ (ahead : IsAhead z r Down true k v) where
    -- ---- down, from the first link

    pub starts_first : (next : Option EntryNo) (u : PassState) → StepsTo z call r None next w u → Starts z call r Down k None next v u
    starts_first next u s = let t = went z call r v w u g None next s in record {
      under = t.under;
      quiet = t.quiet;
      still = t.still;
      real = ahead.real;
      covers = ahead.covers;
      wide = omega arith;
      high = refl;
      up = tt;
      behind = s.behind;
      is = s.is;
      inside = stepped_inside z call r v w u g None next s;
      absent = λ q is a b c. let l = ahead.covers.1 in stepped_over z call r v w u g None next s q a (omega arith) (subst (λ (x : Option FoundEntry). IsAboveFound x (key_number q)) (sym s.was) tt) c;
    }

    -- ---- or at an entry below the key, which is the bound

    module _ (i : EntryNo) (q : List ℕ) (h : HasEntry r i.0 q w) (lower : key_number q < key_number k) (range : within (span_of (room_pin w)) (key_number q) ≡ 1) where
      well : IsFoundWell z h.entry
      well = entry_well z r i.0 q w has h

      bounds : (low_end (room_at v).low ≤ key_number q) × (key_number q < high_end (room_at v).high)
      bounds = subst (λ (x : Room). (low_end x.low ≤ key_number q) × (key_number q < high_end x.high)) (goes_room z call r v w g)
          (range_has (room_pin w) q (subst AreBytes h.key_is well.bytes) (omega arith))

      pub starts_at : (u : PassState) → OnlyMeets call w u → Starts z call r Down k (Some q) (Some i) v u
      starts_at u o = let t = goes_learned z call r v w u g (learns_only call w u o) in let n = entry_number z r i.0 q w has h in record {
        under = t.under;
        quiet = t.quiet;
        still = t.still;
        real = record { low = is_key-of q (subst IsKey h.key_is well.key) (subst AreBytes h.key_is well.bytes); high = ahead.real.high };
        covers = (lower, ahead.covers.1);
        wide = bounds.0;
        high = refl;
        up = tt;
        behind = Some h.entry;
        is = entry_stays r (Some i) (Some h.entry) w u o.rooms (h.entry, h.finds, refl);
        inside = let b = bounds.1 in (omega arith, omega arith);
        absent = λ p is a b c. absurd (omega arith);
      }

-- ---- the entry so many places before, in the prefix

module _ (z : Sizes) (r : ℕ) (k : List ℕ) (w : PassState) (below many : ℕ) where
  -- it was found, and its key is below
  pub some_below : 0 < many → (s : SplitsPrefix r k below w) → (i : EntryNo) → i.0 + many ≡ below → (q : List ℕ) × HasEntry r i.0 q w × (key_number q < key_number k) × (within (span_of (room_pin w)) (key_number q) ≡ 1)
  some_below some s i e = let t = s.below i.0 (omega arith) in let m = s.most in (t.0, t.1, t.2, s.inside i.0 t.0 (omega arith) t.1)

  -- or there is none
  pub found_before : SplitsPrefix r k below w → 0 < many → (o : Option EntryNo) → MatchOption o (below < many) (λ i. i.0 + many ≡ below) → MatchOption o (Unit {0}) (λ i. (q : List ℕ) × HasEntry r i.0 q w)
  found_before s some None e = tt
  found_before s some (Some i) e = let t = some_below some s i e in (t.0, t.1)

-- the call goes on by its own number
pub steps_in : (z : Sizes) (first now r : ℕ) (at next : Option EntryNo) (w u : PassState) → now ≡ first → StepsTo z now r at next w u → StepsTo z first r at next w u
steps_in z first now r at next w u e s = subst (λ (m : ℕ). StepsTo z m r at next w u) e s
