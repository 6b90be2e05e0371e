-- What a search for the nearest key found, by the pin that its pass has.
use Rattle.std.proofs.Common.{◌≡◌, ◌≢◌, ℕ, ◌+◌, ◌-◌, ◌<◌, List, [], sym, refl, ap, ◌∙◌, subst, arith, Option, Some, None, MatchOption}
use denote.Ref.{Bor}
use Rattle.oak_model.specs.Counts.{Has}
use Rattle.oak_model.specs.Key.{IsKey, AreBytes}
use Rattle.oak_model.specs.KeyNumber.{key_number}
use Rattle.oak_model.specs.Limits.{Sizes}
use Rattle.oak_model.proofs.MemberLaws.{each_has}
use Rattle.oak_model.proofs.NumberLaws.{key_before_is}
use Rattle.chunk_core.specs.declared.holds.FoundEntry.{FoundEntry}
use Rattle.chunk_core.specs.PinnedRooms.{found_in, found_key}
use Rattle.link_search.specs.declared.ties.Tie.TheVariants.{Passed}
use Rattle.link_search.specs.Linked.{IsFound}
use Rattle.link_search.specs.Nearest.{IsAbove, IsBelow, IsLeastAbove, IsGreatestBelow, AreBoundBytes, link_to}
use Rattle.link_search.specs.Ties.{bytes_in_option as passed_bytes}
use Rattle.link_search.specs.Walks.{StepsOver}
use Rattle.link_search.proofs.WalkLaws.{cut_grown}
use Rattle.oak_core.specs.declared.states.PassState.{PassState}
use Rattle.oak_core.specs.AloneWords.{Runs}
use Rattle.oak_core.specs.Memory.{memory}
use Rattle.oak_core.specs.Passes.{state, key as sizes, call_of}
use Rattle.oak_core.proofs.seats.AloneRuns.{runs_as}
use Rattle.chunk_ops.specs.declared.entries.EntryNo.{EntryNo}
use Rattle.chunk_ops.specs.declared.pinned_table.PinnedTable.{PinnedTable}
use Rattle.chunk_ops.specs.AskedRanges.{IsKeyOrNone, bytes_in_option}
use Rattle.chunk_ops.specs.Finds.{FindsNearest, FindsNone, IsNearer, IsPast}
use Rattle.chunk_ops.specs.FindsAlone.{HasNearest, NearestIn, as_entry, linked_key}
use Rattle.chunk_ops.specs.FoundNumbers.{entry_there, has_counted, pinned_room}
use Rattle.chunk_ops.specs.LinkedTable.{MeetsInTable}
use Rattle.chunk_ops.specs.PinRecords.{HasRoomPin, IsFoundWell, room_pin}
use Rattle.chunk_ops.specs.RoomLoads.{linked_in, view_of}
use Rattle.chunk_ops.specs.TableLaws.{meets_nothing}
use Rattle.chunk_ops.specs.Ways.{Way, Up, Down}
use Rattle.chunk_ops.proofs.BoundSides.{above_past, below_past, over_lower, past_above, past_below, under_upper}
use Rattle.chunk_ops.proofs.FoundViews.{view_key}
use Rattle.chunk_ops.proofs.FoundWords.{StandsAt}
use Rattle.chunk_ops.proofs.LeadsOver.{LeadsOver, above_at, below_at, leads_over}
use Rattle.chunk_ops.proofs.LinkedPins.{IsAboveAt, IsBelowAt}

-- the number of an entry's key, by what the search sees of it
number_is : (z : Sizes) (r : ℕ) (w : PassState) (q : HasRoomPin z r w) (e : FoundEntry) → Has e (found_in (room_pin w)) → found_key e ≡ key_number ((linked_in (room_pin w)).key e.number)
number_is z r w q e has = (each_has (IsFoundWell z) (found_in (room_pin w)) e q.found has).same ∙ ap key_number (sym (view_key (room_pin w) q.alike e.number e has refl))

-- a link leads over all that lies that way, or to the nearest
module _ (z : Sizes) (call r : ℕ) (way : Way) (b : Option (List ℕ)) (v w : PassState) (q : HasRoomPin z r w) (from : Option ℕ) (link : ℕ) (over : LeadsOver z call r from link v w) where
  abbrev key : ℕ → ℕ
  key i = key_number ((linked_in (room_pin w)).key i)

  abbrev Lies : ℕ → Type 0
  Lies k = IsAboveAt (room_pin w) from k × IsBelowAt (room_pin w) link k

  module _ (lies : (k : ℕ) → IsPast way b k → IsAboveAt (room_pin w) from k × IsBelowAt (room_pin w) link k) (none : (j : ℕ) → IsFound (linked_in (room_pin w)) j → IsPast way b (key_number ((linked_in (room_pin w)).key j)) → ⊥) where
    pub none_near : FindsNone z call r way b v w
    none_near = record {
      none = λ e has past. none e.number (has_counted e.number (found_in (room_pin w)) e has refl) (subst (IsPast way b) (number_is z r w q e has) past);
      beyond = λ k inside past. let l = lies k past in over.absent k inside l.0 l.1;
    }

    pub none_near_alone : Runs (NearestIn z r way b None) v w
    none_near_alone = runs_as (λ x y. (x ≡ over.words) × (y ≡ x)) (NearestIn z r way b None) v w
        (λ x y d. (d.1, subst (λ (ws : List ℕ). HasNearest (memory z ws) r way b None) (sym d.0) (λ j there past. let l = lies (key_number (linked_key (memory z over.words) r j)) past in over.none (key_number (linked_key (memory z over.words) r j)) l.0 l.1 j there refl))) over.alone

  module _ (i : ℕ) (found : IsFound (linked_in (room_pin w)) i) (past : IsPast way b (key_number ((linked_in (room_pin w)).key i)))
      (nearest : (j : ℕ) → IsFound (linked_in (room_pin w)) j → IsPast way b (key_number ((linked_in (room_pin w)).key j)) → IsNearer way (key_number ((linked_in (room_pin w)).key j)) (key_number ((linked_in (room_pin w)).key i)) → ⊥)
      (lies : (k : ℕ) → IsPast way b k → IsNearer way k (key_number ((linked_in (room_pin w)).key i)) → IsAboveAt (room_pin w) from k × IsBelowAt (room_pin w) link k) (stands : StandsAt (memory z over.words) r i ((linked_in (room_pin w)).key i)) where
    pub some_near : FindsNearest z call r way b i v w
    some_near = let h = entry_there z r w q i found in let e = h.entry in let same : found_key e ≡ key i = number_is z r w q e h.finds.there ∙ ap key h.finds.number in record {
      entry = e;
      finds = h.finds;
      past = subst (IsPast way b) (sym same) past;
      nearest = λ d has p n. nearest d.number (has_counted d.number (found_in (room_pin w)) d has refl) (subst (IsPast way b) (number_is z r w q d has) p)
          (subst (λ (x : ℕ). IsNearer way x (key i)) (number_is z r w q d has) (subst (IsNearer way (found_key d)) same n));
      between = λ k inside p n. let l = lies k p (subst (IsNearer way k) same n) in over.absent k inside l.0 l.1;
    }

    pub some_near_alone : Runs (NearestIn z r way b (Some (record { 0 = i }))) v w
    some_near_alone = let m = memory z over.words in let here : key_number (linked_key m r i) ≡ key i = ap key_number stands.1 in
        runs_as (λ x y. (x ≡ over.words) × (y ≡ x)) (NearestIn z r way b (Some (record { 0 = i }))) v w
        (λ x y d. (
          d.1,
          subst (λ (ws : List ℕ). HasNearest (memory z ws) r way b (Some (record { 0 = i }))) (sym d.0) (
            stands.0,
            subst (IsPast way b) (sym here) past,
            λ j there p n. let l = lies (key_number (linked_key m r j)) p (subst (IsNearer way (key_number (linked_key m r j))) here n) in over.none (key_number (linked_key m r j)) l.0 l.1 j there refl,
          ),
        )) over.alone

-- ---- above and below a bound

module _ (s t : PinnedTable) (b : Option (List ℕ)) (is : IsKeyOrNone b) (small : AreBoundBytes b) (p : HasRoomPin (sizes s.table.now) s.room (state s.pass.now)) (q : HasRoomPin (sizes s.table.now) s.room (state t.pass.now)) where
  abbrev z : Sizes
  z = sizes s.table.now

  abbrev w : PassState
  w = state t.pass.now

  -- an entry that was found has a key
  is_key_at : (i : ℕ) → IsFound (view_of t) i → IsKey ((view_of t).key i)
  is_key_at i f = (pinned_room z s.room w q).key i f

  bytes_at : (i : ℕ) → IsFound (view_of t) i → AreBytes ((view_of t).key i)
  bytes_at i f = (pinned_room z s.room w q).bytes i f

  module _ (from : Option ℕ) (o : Option ℕ) (over : StepsOver view_of MeetsInTable (λ (k : List ℕ). IsAbove Passed b k → ⊥) (IsAbove Passed b) from (link_to o) s t) where
    up_leads : LeadsOver z (call_of s.pass.now) s.room from (link_to o) (state s.pass.now) w
    up_leads = leads_over s s t [] (meets_nothing s) p (λ (k : List ℕ). IsAbove Passed b k → ⊥) (IsAbove Passed b) from (link_to o) over

    up_above : (k : ℕ) → IsPast Up b k → IsAboveAt (room_pin w) from k
    up_above k past = above_at z s.room w q k (λ (x : List ℕ). IsAbove Passed b x → ⊥) from (cut_grown (view_of over.looked.moment) (view_of t) from (λ (x : List ℕ). IsAbove Passed b x → ⊥) over.grown over.cut) (λ x ix bx n. over_lower x ix bx b is small k past n)

  up_named : (i : ℕ) → i + 1 - 1 ≡ i
  up_named i = omega arith

  up_links : (i : ℕ) → i + 1 ≢ 0
  up_links i e = omega arith

  module _ (from : Option ℕ) where
    up_below : (i k : ℕ) → k < key_number ((view_of t).key i) → IsBelowAt (room_pin w) (i + 1) k
    up_below i k l ne = subst (λ (j : ℕ). k < key_number ((view_of t).key j)) (sym (up_named i)) l

    up_nearest : (i : ℕ) → IsLeastAbove (view_of t) Passed b (Some i) → (j : ℕ) → IsFound (view_of t) j → IsPast Up b (key_number ((view_of t).key j)) → IsNearer Up (key_number ((view_of t).key j)) (key_number ((view_of t).key i)) → ⊥
    up_nearest i h j f past n = h.2 j f (past_above ((view_of t).key j) (is_key_at j f) (bytes_at j f) b is small past) (key_before_is ((view_of t).key j) ((view_of t).key i) (bytes_at j f) (bytes_at i h.0) (is_key_at j f) (is_key_at i h.0) n)

    up_stands : (i : ℕ) (o : LeadsOver z (call_of s.pass.now) s.room from (i + 1) (state s.pass.now) w) → StandsAt (memory z o.words) s.room i ((view_of t).key i)
    up_stands i o = subst (λ (j : ℕ). StandsAt (memory z o.words) s.room j ((view_of t).key j)) (up_named i) (o.named (up_links i))

    pub finds_above : (o : Option ℕ) → StepsOver view_of MeetsInTable (λ (k : List ℕ). IsAbove Passed b k → ⊥) (IsAbove Passed b) from (link_to o) s t → IsLeastAbove (view_of t) Passed b o
        → MatchOption (as_entry o) (FindsNone (sizes s.table.now) (call_of s.pass.now) s.room Up b (state s.pass.now) (state t.pass.now)) (λ i. FindsNearest (sizes s.table.now) (call_of s.pass.now) s.room Up b i.0 (state s.pass.now) (state t.pass.now))
    finds_above None over h = none_near z (call_of s.pass.now) s.room Up b (state s.pass.now) w q from 0 (up_leads from None over) (λ k past. (up_above from None over k past, λ ne. absurd (ne refl)))
        (λ j f past. h j f (past_above ((view_of t).key j) (is_key_at j f) (bytes_at j f) b is small past))
    finds_above (Some i) over h = some_near z (call_of s.pass.now) s.room Up b (state s.pass.now) w q from (i + 1) (up_leads from (Some i) over) i h.0 (above_past ((view_of t).key i) (is_key_at i h.0) (bytes_at i h.0) b is small h.1) (up_nearest i h)
        (λ k past n. (up_above from (Some i) over k past, up_below i k n)) (up_stands i (up_leads from (Some i) over))

    pub above_alone : (o : Option ℕ) → StepsOver view_of MeetsInTable (λ (k : List ℕ). IsAbove Passed b k → ⊥) (IsAbove Passed b) from (link_to o) s t → IsLeastAbove (view_of t) Passed b o
        → Runs (NearestIn (sizes s.table.now) s.room Up b (as_entry o)) (state s.pass.now) (state t.pass.now)
    above_alone None over h = none_near_alone z (call_of s.pass.now) s.room Up b (state s.pass.now) w q from 0 (up_leads from None over) (λ k past. (up_above from None over k past, λ ne. absurd (ne refl)))
        (λ j f past. h j f (past_above ((view_of t).key j) (is_key_at j f) (bytes_at j f) b is small past))
    above_alone (Some i) over h = some_near_alone z (call_of s.pass.now) s.room Up b (state s.pass.now) w q from (i + 1) (up_leads from (Some i) over) i h.0 (above_past ((view_of t).key i) (is_key_at i h.0) (bytes_at i h.0) b is small h.1) (up_nearest i h)
        (λ k past n. (up_above from (Some i) over k past, up_below i k n)) (up_stands i (up_leads from (Some i) over))

  module _ (link : ℕ) where
    down_leads : (o : Option ℕ) → StepsOver view_of MeetsInTable (IsBelow b) (λ (k : List ℕ). IsBelow b k → ⊥) o link s t → LeadsOver z (call_of s.pass.now) s.room o link (state s.pass.now) w
    down_leads o over = leads_over s s t [] (meets_nothing s) p (IsBelow b) (λ (k : List ℕ). IsBelow b k → ⊥) o link over

    down_below : (o : Option ℕ) → StepsOver view_of MeetsInTable (IsBelow b) (λ (k : List ℕ). IsBelow b k → ⊥) o link s t → (k : ℕ) → IsPast Down b k → IsBelowAt (room_pin w) link k
    down_below o over k past = below_at z s.room w q k (λ (x : List ℕ). IsBelow b x → ⊥) link over.leads (λ x ix bx n. under_upper x ix bx b is small k past n)

    down_nearest : (i : ℕ) → IsGreatestBelow (view_of t) b (Some i) → (j : ℕ) → IsFound (view_of t) j → IsPast Down b (key_number ((view_of t).key j)) → IsNearer Down (key_number ((view_of t).key j)) (key_number ((view_of t).key i)) → ⊥
    down_nearest i h j f past n = h.2 j f (past_below ((view_of t).key j) (is_key_at j f) (bytes_at j f) b is small past) (key_before_is ((view_of t).key i) ((view_of t).key j) (bytes_at i h.0) (bytes_at j f) (is_key_at i h.0) (is_key_at j f) n)

    pub finds_below : (o : Option ℕ) → StepsOver view_of MeetsInTable (IsBelow b) (λ (k : List ℕ). IsBelow b k → ⊥) o link s t → IsGreatestBelow (view_of t) b o
        → MatchOption (as_entry o) (FindsNone (sizes s.table.now) (call_of s.pass.now) s.room Down b (state s.pass.now) (state t.pass.now)) (λ i. FindsNearest (sizes s.table.now) (call_of s.pass.now) s.room Down b i.0 (state s.pass.now) (state t.pass.now))
    finds_below None over h = none_near z (call_of s.pass.now) s.room Down b (state s.pass.now) w q None link (down_leads None over) (λ k past. (tt, down_below None over k past))
        (λ j f past. h j f (past_below ((view_of t).key j) (is_key_at j f) (bytes_at j f) b is small past))
    finds_below (Some i) over h = some_near z (call_of s.pass.now) s.room Down b (state s.pass.now) w q (Some i) link (down_leads (Some i) over) i h.0 (below_past ((view_of t).key i) (is_key_at i h.0) (bytes_at i h.0) b is small h.1) (down_nearest i h)
        (λ k past n. (n, down_below (Some i) over k past)) ((down_leads (Some i) over).was i refl)

    pub below_alone : (o : Option ℕ) → StepsOver view_of MeetsInTable (IsBelow b) (λ (k : List ℕ). IsBelow b k → ⊥) o link s t → IsGreatestBelow (view_of t) b o
        → Runs (NearestIn (sizes s.table.now) s.room Down b (as_entry o)) (state s.pass.now) (state t.pass.now)
    below_alone None over h = none_near_alone z (call_of s.pass.now) s.room Down b (state s.pass.now) w q None link (down_leads None over) (λ k past. (tt, down_below None over k past))
        (λ j f past. h j f (past_below ((view_of t).key j) (is_key_at j f) (bytes_at j f) b is small past))
    below_alone (Some i) over h = some_near_alone z (call_of s.pass.now) s.room Down b (state s.pass.now) w q (Some i) link (down_leads (Some i) over) i h.0 (below_past ((view_of t).key i) (is_key_at i h.0) (bytes_at i h.0) b is small h.1) (down_nearest i h)
        (λ k past n. (n, down_below (Some i) over k past)) ((down_leads (Some i) over).was i refl)

-- ---- in the words of the calls: a bound as it is passed, and an entry's number as what is found

same_bytes : (key : Option (Bor (List ℕ))) → passed_bytes key ≡ bytes_in_option key
same_bytes None = refl
same_bytes (Some b) = refl

module _ (s t : PinnedTable) (key : Option (Bor (List ℕ))) (is : IsKeyOrNone (bytes_in_option key)) (small : AreBoundBytes (passed_bytes key)) (p : HasRoomPin (sizes s.table.now) s.room (state s.pass.now)) (q : HasRoomPin (sizes s.table.now) s.room (state t.pass.now)) (o : Option ℕ) (x : Option EntryNo) (found : x ≡ as_entry o) where
  is_passed : IsKeyOrNone (passed_bytes key)
  is_passed = subst IsKeyOrNone (sym (same_bytes key)) is

  said : (F : Option (List ℕ) → Option EntryNo → Type 0) → F (passed_bytes key) (as_entry o) → F (bytes_in_option key) x
  said F h = subst (λ (b : Option (List ℕ)). F b x) (same_bytes key) (subst (F (passed_bytes key)) (sym found) h)

  module _ (over : (from : Option ℕ) × StepsOver view_of MeetsInTable (λ (k : List ℕ). IsAbove Passed (passed_bytes key) k → ⊥) (IsAbove Passed (passed_bytes key)) from (link_to o) s t) (least : IsLeastAbove (view_of t) Passed (passed_bytes key) o) where
    pub said_above : MatchOption x (FindsNone (sizes s.table.now) (call_of s.pass.now) s.room Up (bytes_in_option key) (state s.pass.now) (state t.pass.now)) (λ i. FindsNearest (sizes s.table.now) (call_of s.pass.now) s.room Up (bytes_in_option key) i.0 (state s.pass.now) (state t.pass.now))
    said_above = said (λ b y. MatchOption y (FindsNone (sizes s.table.now) (call_of s.pass.now) s.room Up b (state s.pass.now) (state t.pass.now)) (λ i. FindsNearest (sizes s.table.now) (call_of s.pass.now) s.room Up b i.0 (state s.pass.now) (state t.pass.now)))
        (finds_above s t (passed_bytes key) is_passed small p q over.0 o over.1 least)

    pub said_above_alone : Runs (NearestIn (sizes s.table.now) s.room Up (bytes_in_option key) x) (state s.pass.now) (state t.pass.now)
    said_above_alone = said (λ b y. Runs (NearestIn (sizes s.table.now) s.room Up b y) (state s.pass.now) (state t.pass.now)) (above_alone s t (passed_bytes key) is_passed small p q over.0 o over.1 least)

  module _ (over : (link : ℕ) × StepsOver view_of MeetsInTable (IsBelow (passed_bytes key)) (λ (k : List ℕ). IsBelow (passed_bytes key) k → ⊥) o link s t) (greatest : IsGreatestBelow (view_of t) (passed_bytes key) o) where
    pub said_below : MatchOption x (FindsNone (sizes s.table.now) (call_of s.pass.now) s.room Down (bytes_in_option key) (state s.pass.now) (state t.pass.now)) (λ i. FindsNearest (sizes s.table.now) (call_of s.pass.now) s.room Down (bytes_in_option key) i.0 (state s.pass.now) (state t.pass.now))
    said_below = said (λ b y. MatchOption y (FindsNone (sizes s.table.now) (call_of s.pass.now) s.room Down b (state s.pass.now) (state t.pass.now)) (λ i. FindsNearest (sizes s.table.now) (call_of s.pass.now) s.room Down b i.0 (state s.pass.now) (state t.pass.now)))
        (finds_below s t (passed_bytes key) is_passed small p q over.0 o over.1 greatest)

    pub said_below_alone : Runs (NearestIn (sizes s.table.now) s.room Down (bytes_in_option key) x) (state s.pass.now) (state t.pass.now)
    said_below_alone = said (λ b y. Runs (NearestIn (sizes s.table.now) s.room Down b y) (state s.pass.now) (state t.pass.now)) (below_alone s t (passed_bytes key) is_passed small p q over.0 o over.1 greatest)
