-- Why a call added no entry: the room was found full, with none of the key, or its count or a link was found changed.
use Rattle.std.proofs.Common.{◌≡◌, ℕ, List, [], ◌∷◌, ◌++◌, sym, refl, ap, ◌∙◌, subst, inl, inr, ⊎_elim, Some, None}
use Rattle.oak_model.specs.Key.{AreBytes}
use Rattle.oak_model.specs.KeyNumber.{key_number}
use Rattle.oak_model.specs.Limits.{Sizes}
use Rattle.oak_model.proofs.Lists.{each_append}
use Rattle.chunk_core.specs.declared.holds.PinnedRoom.{PinnedRoom}
use Rattle.chunk_core.specs.declared.holds.RoomHolds.{RoomHolds}
use Rattle.chunk_core.specs.LinkWords.{link_spot}
use Rattle.chunk_core.specs.PinnedRooms.{span_of}
use Rattle.chunk_core.specs.RoomStep.{claim_entry}
use Rattle.chunk_core.specs.Rooms.{at_count, at_key}
use Rattle.chunk_core.specs.Spans.{Span, within}
use Rattle.link_search.specs.Adds as added
use Rattle.link_search.specs.Met.{Met, met_count, met_link, met_key, tried_count, tried_link, stored_value, stored_link, stored_key, gave_up, IsLoad, TellsCount, Looked}
use Rattle.link_search.proofs.StepLaws.{entries_load}
use Rattle.oak_core.specs.declared.states.Finding.{Finding}
use Rattle.oak_core.specs.declared.states.PassState.{PassState}
use Rattle.oak_core.specs.CallSteps.{MetMore}
use Rattle.oak_core.specs.Memory.{in_rooms, index}
use Rattle.oak_core.specs.Passes.{state, key as sizes, call_of}
use Rattle.oak_core.specs.QuietSteps.{CountsByOne, IsQuiet, MetOnly, Quiet, StoredNone}
use Rattle.oak_core.specs.Step.{load, on_rooms, spot, Told}
use Rattle.oak_core.proofs.calls.CallSteps.{learns_both, met_both, met_none, stands_learns, stands_none}
use Rattle.oak_core.proofs.calls.QuietCalls.{only_both, only_map}
use Rattle.chunk_ops.specs.declared.pinned_table.PinnedTable.{PinnedTable}
use Rattle.chunk_ops.specs.Adds.{FoundCrowded, FoundOther, LeavesCount, Look, claims, links, loads, look_step}
use Rattle.chunk_ops.specs.AskedRanges.{CoversKey}
use Rattle.chunk_ops.specs.Finds.{FoundAbsent}
use Rattle.chunk_ops.specs.LinkedTable.{DoesMet, HoldsKey, MeetsInTable}
use Rattle.chunk_ops.specs.PinRecords.{HasRoomPin, OnlyMeets, PinStays, pin_or, room_pin}
use Rattle.chunk_ops.specs.RoomLoads.{view_of}
use Rattle.chunk_ops.specs.TableLaws.{does_since, meets_then}
use Rattle.chunk_ops.proofs.AbsentReads.{absent_around, others_load}
use Rattle.chunk_ops.proofs.AddedKeys.{class_at, block_at}
use Rattle.chunk_ops.proofs.FoundEntries.{pin_still}
use Rattle.chunk_ops.proofs.KeyClaims.{some_place}
use Rattle.chunk_ops.proofs.KeysFound.{missing_found, none_found}
use Rattle.chunk_ops.proofs.LeadsOver.{span_stays}
use Rattle.chunk_ops.proofs.MetSteps.{each_met}
use Rattle.chunk_ops.proofs.PinLoads.{LoadsUnder, each_under}
use Rattle.chunk_ops.proofs.TracedLinks.{links_left, loads_left}
use Rattle.chunk_ops.proofs.TracedSteps.{traced}

-- what is quiet stores neither to the count of a room nor to a key word
quiet_leaves : (z : Sizes) (r : ℕ) (v w : PassState) → Quiet v w → MetOnly (LeavesCount z r) v w
quiet_leaves z r v w q = only_map IsQuiet (LeavesCount z r) v w (λ f is. record { count = stored_none f is (index z (in_rooms (at_count r))); keys = λ i. stored_none f is (index z (in_rooms (at_key r i))) }) q
  where
    stored_none : (f : Finding) → IsQuiet f → (word : ℕ) → StoredNone word f
    stored_none f is word e none = ⊎_elim (λ (h : f.found ≡ Some f.left). let g : Some f.left ≡ None = sym h ∙ none in absurd cc) (λ (h : (n : ℕ) × (f.found ≡ Some n) × CountsByOne n f.left). let g : Some h.0 ≡ None = sym h.1 ∙ none in absurd cc) is.1

-- u is the state of the pass before the load of the room's base
module _ (s t : PinnedTable) (k : List ℕ) (u : PassState) (o : OnlyMeets (call_of s.pass.now) u (state s.pass.now)) (p : HasRoomPin (sizes s.table.now) s.room u) (holds : HoldsKey s k) where
  abbrev z : Sizes
  z = sizes s.table.now

  abbrev call : ℕ
  call = call_of s.pass.now

  abbrev r : ℕ
  r = s.room

  abbrev v : PassState
  v = state s.pass.now

  abbrev w : PassState
  w = state t.pass.now

  has : HasRoomPin z r v
  has = pin_still z call r u v o p

  pin_same : room_pin v ≡ room_pin u
  pin_same = ap (λ (a : RoomHolds). pin_or a.pin) o.rooms

  -- the pin behind some steps of it
  stays_to : (x : PinnedTable) (ms : List Met) → MeetsInTable s x ms → PinStays (room_pin u) (room_pin (state x.pass.now))
  stays_to x ms m = subst (λ (q : PinnedRoom). PinStays q (room_pin (state x.pass.now))) pin_same (traced z call r s.base s.place (class_at s) (block_at s) holds.names.class refl (some_place z s.place k holds.names) ms v (state x.pass.now) has holds.none m.does).stays

  met_to : (x : PinnedTable) (ms : List Met) → MeetsInTable s x ms → MetMore call u (state x.pass.now)
  met_to x ms m = met_both call u v (state x.pass.now) o.stands.met (each_met z call r s.base s.place ms v (state x.pass.now) m.does)

  -- the room was full
  module _ (small : AreBytes k) (f : added.FoundFull view_of MeetsInTable k (sizes s.table.now).entries s t) where
    abbrev c : PassState
    c = state f.counted.pass.now

    abbrev l : Looked MeetsInTable f.from f.link f.counted t
    l = f.misses.over.looked

    -- what came behind the load of the count
    abbrev behind : List Met
    behind = l.before ++ met_link f.from f.link ∷ l.between

    behind_on : MeetsInTable f.counted t behind
    behind_on = meets_then f.counted l.moment t l.before (met_link f.from f.link ∷ l.between) l.start l.on

    first : LoadsUnder z call r v c
    first = each_under z call r s.base s.place (met_count f.word ∷ []) v c has (tt, tt) f.on.does

    then : LoadsUnder z call r c w
    then = each_under z call r s.base s.place behind c w first.under.pin.has (each_append IsLoad l.before (met_link f.from f.link ∷ l.between) f.misses.over.loads (tt, others_load l.between f.misses.over.still)) (does_since s f.counted t (met_count f.word ∷ []) behind f.on behind_on)

    quiet_all : Quiet u w
    quiet_all = only_both IsQuiet u v w o.quiet (each_under z call r s.base s.place f.met v w has f.loads f.whole.does).quiet

    absent : CoversKey k (span_of (room_pin u)) → FoundAbsent call (key_number k) (room_pin u).base u w
    absent covers = let stays = stays_to f.counted (met_count f.word ∷ []) f.on in subst (λ (b : ℕ). FoundAbsent call (key_number k) b u w) stays.base
        (absent_around call (key_number k) (room_pin c).base u c w w (learns_both call u v c (stands_learns call u v o.stands) first.under.learns)
        ((missing_found s f.counted t (met_count f.word ∷ []) f.on k holds.names.is_key small first.under.pin.has then.under.pin.has f.misses).read (ap (λ (x : Span). within x (key_number k)) (span_stays (room_pin u) (room_pin c) stays) ∙ covers)) (stands_none call w))

    pub found_crowded : CoversKey k (span_of (room_pin u)) → FoundCrowded (sizes s.table.now) (call_of s.pass.now) s.room k u (state t.pass.now)
    found_crowded covers = let d = f.on.does in record {
      step = record { from = v; to = c; number = f.word; told = subst (λ (y : PassState). Told z call (load (in_rooms (at_count r))) v f.word y) (sym d.2) d.1; begun = o.stands.met; ended = then.under.learns.met };
      full = f.full;
      stays = stays_to f.counted (met_count f.word ∷ []) f.on;
      none = λ e there. none_found z r k w then.under.pin.has holds.names.is_key small f.misses.none e (then.under.pin.stays.entries e there);
      absent = absent covers;
      left = quiet_leaves z r u w quiet_all;
      quiet = quiet_all;
    }

  -- the count was changed

  second_step : (m : Met) (n : ℕ) (x y : PassState) → TellsCount n m → DoesMet z call r s.base s.place m x y → (look : Look) × (spot (look_step r (at_count r) look) ≡ in_rooms (at_count r)) × Told z call (look_step r (at_count r) look) x n y
  second_step (met_count c) n x y e d = (loads, refl, subst (λ (j : ℕ). Told z call (load (in_rooms (at_count r))) x j y) e d)
  second_step (met_link f l) n x y e d = absurd e
  second_step (met_key i) n x y e d = absurd e
  second_step (tried_count old c) n x y e d = (claims old, refl, subst (λ (j : ℕ). Told z call (on_rooms (claim_entry r old)) x j y) e d)
  second_step (tried_link f i old l) n x y e d = absurd e
  second_step (stored_value i) n x y e d = absurd e
  second_step (stored_link i l) n x y e d = absurd e
  second_step (stored_key i) n x y e d = absurd e
  second_step (gave_up i) n x y e d = absurd e

  pub count_other : added.CountChanged MeetsInTable s t → (f : FoundOther (sizes s.table.now) (call_of s.pass.now) s.room u (state t.pass.now)) × PinStays (room_pin u) (room_pin f.first.from)
  count_other c = let x = state c.moment.pass.now in let y = state c.again.pass.now in let looked : List Met = met_count c.old ∷ c.between in
      let d = does_since s c.moment c.again c.before looked c.start c.looked in
      let e = does_since s c.again t (c.before ++ looked) (c.second ∷ []) (meets_then s c.moment c.again c.before looked c.start c.looked) c.tried in
      let n = second_step c.second c.number y e.0 c.tells e.1 in (
        record {
          place = at_count r;
          is = inl refl;
          first = record { from = x; to = d.0; number = c.old; told = d.1; begun = met_to c.moment c.before c.start; ended = met_both call d.0 y w (each_met z call r s.base s.place c.between d.0 y d.2) (each_met z call r s.base s.place (c.second ∷ []) y w e) };
          look = n.0;
          names = n.1;
          second = record { from = y; to = e.0; number = c.number; told = n.2; begun = each_met z call r s.base s.place c.between d.0 y d.2; ended = subst (MetMore call e.0) (sym e.2) (met_none call e.0) };
          other = c.other;
          left = loads_left z call r s.base s.place c.between d.0 y (entries_load c.between c.kept) d.2 (at_count r);
        },
        stays_to c.moment c.before c.start,
      )

  -- a link was changed

  pub link_other : added.LinkChanged MeetsInTable s t → (f : FoundOther (sizes s.table.now) (call_of s.pass.now) s.room u (state t.pass.now)) × PinStays (room_pin u) (room_pin f.first.from)
  link_other c = let x = state c.moment.pass.now in let y = state c.again.pass.now in let b = state c.behind.pass.now in let looked : List Met = met_link c.from c.old ∷ c.between in let tried : List Met = tried_link c.from c.entry c.old c.number ∷ [] in
      let d = does_since s c.moment c.again c.before looked c.start c.looked in let on = meets_then s c.moment c.again c.before looked c.start c.looked in
      let e = does_since s c.again c.behind (c.before ++ looked) tried on c.tried in
      let g = does_since s c.behind t ((c.before ++ looked) ++ tried) c.rest (meets_then s c.again c.behind (c.before ++ looked) tried on c.tried) c.end in
      let rest = each_met z call r s.base s.place c.rest b w g in (
        record {
          place = link_spot r c.from;
          is = inr (c.from, refl);
          first = record { from = x; to = d.0; number = c.old; told = d.1; begun = met_to c.moment c.before c.start; ended = met_both call d.0 y w (each_met z call r s.base s.place c.between d.0 y d.2) (met_both call y b w (each_met z call r s.base s.place tried y b e) rest) };
          look = links c.from c.entry c.old;
          names = refl;
          second = record { from = y; to = e.0; number = c.number; told = e.1; begun = each_met z call r s.base s.place c.between d.0 y d.2; ended = subst (λ (q : PassState). MetMore call q w) e.2 rest };
          other = c.other;
          left = links_left z call r s.base s.place c.from e.1.may.inside c.between d.0 y c.kept d.2;
        },
        stays_to c.moment c.before c.start,
      )
