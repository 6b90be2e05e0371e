-- A link that was loaded in a call on a pinned room, with loads alone before it, and behind it loads of other words than links: what it tells is so of the whole call.
use Rattle.std.proofs.Common.{◌≡◌, ◌≢◌, ℕ, ◌-◌, ◌<◌, List, ◌∷◌, ◌++◌, sym, refl, ap, ◌∙◌, subst, Option, Some, None, MatchOption}
use Rattle.oak_model.specs.Counts.{Each}
use Rattle.oak_model.specs.Key.{IsKey, AreBytes}
use Rattle.oak_model.specs.KeyNumber.{key_number}
use Rattle.oak_model.specs.Limits.{Sizes}
use Rattle.chunk_core.specs.declared.holds.PinnedRoom.{PinnedRoom}
use Rattle.chunk_core.specs.KeyWords.{high_number, low_number}
use Rattle.chunk_core.specs.LinkWords.{link_spot}
use Rattle.chunk_core.specs.PinnedRooms.{span_of}
use Rattle.chunk_core.specs.Spans.{Span, within}
use Rattle.link_search.specs.Linked.{Grown, IsFound, IsCut}
use Rattle.link_search.specs.Met.{Met, met_link, IsLoad, LoadsNoLink}
use Rattle.link_search.specs.Walks.{StepsOver}
use Rattle.link_search.proofs.StepLaws.{cut_leads}
use Rattle.oak_core.specs.declared.states.PassState.{PassState}
use Rattle.oak_core.specs.AloneWords.{Moment, Runs}
use Rattle.oak_core.specs.Memory.{in_rooms, memory}
use Rattle.oak_core.specs.Passes.{state, key as sizes, call_of}
use Rattle.oak_core.specs.Step.{load, Told}
use Rattle.chunk_ops.specs.declared.pinned_table.PinnedTable.{PinnedTable}
use Rattle.chunk_ops.specs.Finds.{FoundAbsent}
use Rattle.chunk_ops.specs.FindsAlone.{IsLinked, linked_key}
use Rattle.chunk_ops.specs.FoundNumbers.{pinned_room}
use Rattle.chunk_ops.specs.LinkedTable.{DoesEach, MeetsInTable}
use Rattle.chunk_ops.specs.PinRecords.{HasRoomPin, PinStays, room_pin}
use Rattle.chunk_ops.specs.RoomLoads.{linked_in, view_of}
use Rattle.chunk_ops.specs.TableLaws.{does_since, meets_then}
use Rattle.chunk_ops.proofs.AbsentReads.{absent_around, others_load, others_stand}
use Rattle.chunk_ops.proofs.FoundViews.{view_grown}
use Rattle.chunk_ops.proofs.FoundWords.{StandsAt, found_stands_at, load_moment, none_stands}
use Rattle.chunk_ops.proofs.LeftTables.{load_finds}
use Rattle.chunk_ops.proofs.LinkedPins.{IsAboveAt, IsBelowAt, LinksNow, leads_found, links_now}
use Rattle.chunk_ops.proofs.MeetingCalls.{stays_then, then_stays}
use Rattle.chunk_ops.proofs.PinLoads.{LoadsUnder, each_under}

-- Each key of the range that lies between was absent, and no linked entry has one in the words of the table, where the two entries between which it lies stand.
pub record LeadsOver (z : Sizes) (call r : ℕ) (from : Option ℕ) (link : ℕ) (v w : PassState) : Type 0 where
  pub absent : (k : ℕ) → within (span_of (room_pin v)) k ≡ 1 → IsAboveAt (room_pin w) from k → IsBelowAt (room_pin w) link k → FoundAbsent call k (room_pin v).base v w
  pub words : List ℕ
  pub none : (k : ℕ) → IsAboveAt (room_pin w) from k → IsBelowAt (room_pin w) link k → (i : ℕ) → IsLinked (memory z words) r i → key_number (linked_key (memory z words) r i) ≢ k
  pub was : (i : ℕ) → from ≡ Some i → StandsAt (memory z words) r i ((linked_in (room_pin w)).key i)
  pub named : link ≢ 0 → StandsAt (memory z words) r (link - 1) ((linked_in (room_pin w)).key (link - 1))
  pub alone : Runs (λ a b. (a ≡ words) × (b ≡ a)) v w

-- what a pin found before is found behind, with the same key
above_same : (p q : PinnedRoom) (from : Option ℕ) (k : ℕ) → Grown (linked_in p) (linked_in q) → ((i : ℕ) → from ≡ Some i → IsFound (linked_in p) i) → IsAboveAt q from k → IsAboveAt p from k
above_same p q None k g f a = tt
above_same p q (Some i) k g f a = subst (λ (key : List ℕ). key_number key < k) (g.key i (f i refl)) a

below_same : (p q : PinnedRoom) (link k : ℕ) → Grown (linked_in p) (linked_in q) → (link ≢ 0 → IsFound (linked_in p) (link - 1)) → IsBelowAt q link k → IsBelowAt p link k
below_same p q link k g f b ne = subst (λ (key : List ℕ). k < key_number key) (g.key (link - 1) (f ne)) (b ne)

-- the ranges of pins of which the later has found no less
pub span_stays : (p q : PinnedRoom) → PinStays p q → span_of q ≡ span_of p
span_stays p q s = λ i. record { low = low_number (s.low i); high = high_number (s.high i); base = s.base i }

module _ (z : Sizes) (call r base place : ℕ) (from : Option ℕ) (link : ℕ) (v x y w : PassState) (before between : List Met) (p : HasRoomPin z r v) (loads : Each IsLoad before) (still : Each LoadsNoLink between) (start : DoesEach z call r base place before v x)
    (t : Told z call (load (in_rooms (link_spot r from))) x link y) (behind : DoesEach z call r base place between y w) (found : MatchOption from (Unit {0}) (λ i. IsFound (linked_in (room_pin x)) i)) where
  first : LoadsUnder z call r v x
  first = each_under z call r base place before v x p loads start

  now : LinksNow z call r from link t.table.words x y
  now = links_now z call r x link y first.under.pin.has from (leads_found (room_pin x) from found) t

  last : LoadsUnder z call r y w
  last = each_under z call r base place between y w now.under.pin.has (others_load between still) behind

  grown : Grown (linked_in (room_pin y)) (linked_in (room_pin w))
  grown = view_grown (room_pin y) (room_pin w) last.under.pin.stays last.under.pin.has.alike

  found_behind : (i : ℕ) → from ≡ Some i → IsFound (linked_in (room_pin y)) i
  found_behind i e = (view_grown (room_pin x) (room_pin y) now.under.pin.stays now.under.pin.has.alike).found i (subst (λ (o : Option ℕ). MatchOption o (Unit {0}) (λ j. IsFound (linked_in (room_pin x)) j)) e found)

  moment : Moment z t.table.words y
  moment = load_moment z call (in_rooms (link_spot r from)) x link y t

  stands_there : (i : ℕ) → IsFound (linked_in (room_pin y)) i → StandsAt (memory z t.table.words) r i ((linked_in (room_pin w)).key i)
  stands_there i f = let s = found_stands_at z r t.table.words y moment now.under.pin.has i f in (s.0, s.1 ∙ sym (grown.key i f))

  above_there : (k : ℕ) → IsAboveAt (room_pin w) from k → IsAboveAt (room_pin y) from k
  above_there k a = above_same (room_pin y) (room_pin w) from k grown found_behind a

  below_there : (k : ℕ) → IsBelowAt (room_pin w) link k → IsBelowAt (room_pin y) link k
  below_there k b = below_same (room_pin y) (room_pin w) link k grown now.named b

  absent_there : (k : ℕ) → within (span_of (room_pin v)) k ≡ 1 → IsAboveAt (room_pin w) from k → IsBelowAt (room_pin w) link k → FoundAbsent call k (room_pin v).base v w
  absent_there k inside a b = let s = first.under.pin.stays in subst (λ (n : ℕ). FoundAbsent call k n v w) s.base
      (absent_around call k (room_pin x).base v x y w first.under.learns (now.absent k (ap (λ (q : Span). within q k) (span_stays (room_pin v) (room_pin x) s) ∙ inside) (above_there k a) (below_there k b)) (others_stand z call r base place between y w still behind))

  pub leads_on : LeadsOver z call r from link v w
  leads_on = let F : List ℕ → List ℕ → Type 0 = (λ a b. (a ≡ t.table.words) × (b ≡ a)) in record {
    absent = absent_there;
    words = t.table.words;
    none = λ k a b. none_stands z r t.table.words y moment now.under.pin.has from link now.link found_behind now.named k (above_there k a) (below_there k b);
    was = λ i e. stands_there i (found_behind i e);
    named = λ ne. stands_there (link - 1) (now.named ne);
    alone = then_stays F v y w (stays_then F v x y first.still (load_finds z call (in_rooms (link_spot r from)) x link y t)) last.still;
  }

-- from what a search met, behind the steps ms of the call
pub leads_over : (s m t : PinnedTable) (ms : List Met) → MeetsInTable s m ms → HasRoomPin (sizes s.table.now) s.room (state m.pass.now) → (P Q : List ℕ → Type 0) (from : Option ℕ) (link : ℕ) → StepsOver view_of MeetsInTable P Q from link m t
    → LeadsOver (sizes s.table.now) (call_of s.pass.now) s.room from link (state m.pass.now) (state t.pass.now)
leads_over s m t ms on p P Q from link o = let k = o.looked in let d = does_since s k.moment t (ms ++ k.before) (met_link from link ∷ k.between) (meets_then s m k.moment ms k.before on k.start) k.on in
    leads_on (sizes s.table.now) (call_of s.pass.now) s.room s.base s.place from link (state m.pass.now) (state k.moment.pass.now) d.0 (state t.pass.now) k.before k.between p o.loads o.still (does_since s m k.moment ms k.before on k.start) d.1 d.2 (cut_leads (view_of k.moment) from P o.cut)

-- a number above all keys with P, and below those with Q, lies between

module _ (z : Sizes) (r : ℕ) (w : PassState) (p : HasRoomPin z r w) (k : ℕ) where
  pub above_at : (P : List ℕ → Type 0) (from : Option ℕ) → IsCut (linked_in (room_pin w)) from P → ((q : List ℕ) → IsKey q → AreBytes q → P q → key_number q < k) → IsAboveAt (room_pin w) from k
  above_at P None c f = tt
  above_at P (Some i) c f = let o = pinned_room z r w p in f ((linked_in (room_pin w)).key i) (o.key i c.0) (o.bytes i c.0) c.1

  pub below_at : (Q : List ℕ → Type 0) (link : ℕ) → (link ≢ 0 → IsFound (linked_in (room_pin w)) (link - 1) × Q ((linked_in (room_pin w)).key (link - 1))) → ((q : List ℕ) → IsKey q → AreBytes q → Q q → k < key_number q) → IsBelowAt (room_pin w) link k
  below_at Q link l f ne = let o = pinned_room z r w p in let h = l ne in f ((linked_in (room_pin w)).key (link - 1)) (o.key (link - 1) h.0) (o.bytes (link - 1) h.0) h.1
