-- To a pass that is alone: what a call that adds an entry did to the words of the table.
use Rattle.std.proofs.Common.{◌≡◌, ◌≢◌, ℕ, ◌<◌, ⊎_elim, List, [], ◌∷◌, ◌++◌, length, sym, refl, ap, ◌∙◌, subst, inl, inr, arith, length-append, Option, Some, None}
use Rattle.oak_model.specs.Class.{class_number}
use Rattle.oak_model.specs.Key.{AreBytes, IsKeyBefore}
use Rattle.oak_model.specs.Limits.{Sizes}
use Rattle.oak_model.proofs.MemberLaws.{each_has}
use Rattle.arena_core.specs.Place.{place_word}
use Rattle.arena_ops.specs.Taking.{ClearsBit}
use Rattle.chunk_core.specs.LinkedEntries.{entries_in}
use Rattle.chunk_core.specs.PinnedRooms.{found_in}
use Rattle.chunk_core.specs.RoomStep.{link_entry}
use Rattle.chunk_core.specs.Rooms.{at_count}
use Rattle.link_search.specs.Adds as added
use Rattle.link_search.specs.Finds as search
use Rattle.link_search.specs.Linked.{IsFound}
use Rattle.link_search.specs.Met.{Met, met_count, tried_count, tried_link, stored_value, stored_link, stored_key}
use Rattle.link_search.proofs.WalkLaws.{from_found}
use Rattle.oak_core.specs.declared.states.Finding.{Finding}
use Rattle.oak_core.specs.declared.states.PassState.{PassState}
use Rattle.oak_core.specs.AloneWords.{LeavesWords, Moment, Runs, RunsTo}
use Rattle.oak_core.specs.CallSteps.{MetMore}
use Rattle.oak_core.specs.Memory.{in_rooms, memory}
use Rattle.oak_core.specs.PassState.{IsAlone}
use Rattle.oak_core.specs.Passes.{state, key as sizes, call_of}
use Rattle.oak_core.specs.Step.{Step, load, on_rooms, Told}
use Rattle.oak_core.proofs.calls.CallSteps.{met_both}
use Rattle.oak_core.proofs.seats.AloneRuns.{Then, moment_after, runs_as, runs_then}
use Rattle.chunk_ops.specs.declared.entries.Found.TheVariants.{Entry}
use Rattle.chunk_ops.specs.declared.pinned_table.PinnedTable.{PinnedTable}
use Rattle.chunk_ops.specs.AddsAlone.{AddsIn, AddsNext, CrowdedIn, IsLinkOf, Never, put_entry}
use Rattle.chunk_ops.specs.FindsAlone.{FindsIn, HasKeyAt, LacksIn, LacksKeyAt}
use Rattle.chunk_ops.specs.FoundNumbers.{found_numbered}
use Rattle.chunk_ops.specs.LinkedTable.{HoldsKey, MeetsInTable}
use Rattle.chunk_ops.specs.PinRecords.{HasRoomPin, IsFoundWell, OnlyMeets, WordsStay, room_pin}
use Rattle.chunk_ops.specs.RoomLoads.{linked_in, view_of}
use Rattle.chunk_ops.specs.TableLaws.{IsLonePass, does_since, meets_nothing}
use Rattle.chunk_ops.proofs.AddedKeys.{class_at, block_at}
use Rattle.chunk_ops.proofs.CountedPins.{counts_now}
use Rattle.chunk_ops.proofs.FoundEntries.{pin_still}
use Rattle.chunk_ops.proofs.FoundWords.{StandsAt, found_stands_at}
use Rattle.chunk_ops.proofs.KeptKeys.{given_in}
use Rattle.chunk_ops.proofs.KeysFound.{found_alone, missing_alone, missing_there, over_key}
use Rattle.chunk_ops.proofs.LeadsOver.{LeadsOver}
use Rattle.chunk_ops.proofs.LeftTables.{left_by, left_each, load_finds}
use Rattle.chunk_ops.proofs.MeetingCalls.{stays_then}
use Rattle.chunk_ops.proofs.MetSteps.{each_met}
use Rattle.chunk_ops.proofs.PinLoads.{LoadsUnder, each_under}
use Rattle.chunk_ops.proofs.TracedWords.{PutsEntry, traced_words}

-- what is so of a pass that is alone behind the loads is so of one that is alone before them
pub where_lone : (P : List ℕ → List ℕ → Type 0) (u v w : PassState) → Runs WordsStay u v → (IsLonePass v → Runs P u w) → Runs P u w
where_lone P u v w still f = record {
  goes = λ before l. let r = still.goes before l in (f (inl (r.after, r.leaves))).goes before l;
  starts = λ a. (f (⊎_elim (λ (n : (u ≡ v) × ((words : List ℕ) → WordsStay words words)). inr (subst IsAlone n.0 a)) (λ (r : (before : List ℕ) × RunsTo WordsStay before v). inl (r.1.after, r.1.leaves)) (still.starts a))).starts a;
}

-- so it never came to what such a pass does not come to
pub never_lone : (u v w : PassState) → Runs WordsStay u v → (IsLonePass v → ⊥) → Runs Never u w
never_lone u v w still f = where_lone Never u v w still (λ l. absurd (f l))

-- a moment at which the pass is in the state has the words that it left
moment_words : (z : Sizes) (now words : List ℕ) (v : PassState) → Moment z now v → LeavesWords words v → now ≡ words
moment_words z now words v t l = (t.rule.alone t.seat v t.here l.met l.finding l.last l.alone).0 ∙ l.are

-- behind a step what the pin found stands in the words that the pass left
stands_behind : (z : Sizes) (call r : ℕ) (x : Step) (v : PassState) (n : ℕ) (w : PassState) → Told z call x v n w → HasRoomPin z r w → (words : List ℕ) → LeavesWords words w → (i : ℕ) → IsFound (linked_in (room_pin w)) i → StandsAt (memory z words) r i ((linked_in (room_pin w)).key i)
stands_behind z call r x v n w t p words l i f = let m = moment_after z call x v n w t in subst (λ (ws : List ℕ). StandsAt (memory z ws) r i ((linked_in (room_pin w)).key i)) (moment_words z _ words w m l) (found_stands_at z r _ w m p i f)

-- where the pass made a step, what holds of the words that it left holds of those behind
runs_and : (P : List ℕ → List ℕ → Type 0) (Q : List ℕ → Type 0) (v w : PassState) → v ≢ w → ((words : List ℕ) → LeavesWords words w → Q words) → Runs P v w → Runs (λ a b. P a b × Q b) v w
runs_and P Q v w ne q h = record {
  goes = λ before l. more before (h.goes before l);
  starts = λ a. ⊎_elim (λ (n : (v ≡ w) × ((words : List ℕ) → P words words)). absurd (ne n.0)) (λ (r : (before : List ℕ) × RunsTo P before w). inr (r.0, more r.0 r.1)) (h.starts a);
}
  where
    more : (before : List ℕ) → RunsTo P before w → RunsTo (λ a b. P a b × Q b) before w
    more before r = record { after = r.after; leaves = r.leaves; does = (r.does, q r.after r.leaves) }

-- a pass that met more is in another state
met_moved : (call : ℕ) (v x w : PassState) (f : Finding) → MetMore call v x → w.findings.met ≡ x.findings.met ++ f ∷ [] → v ≢ w
met_moved call v x w f m e same = let a = ap length e in let b = length-append x.findings.met (f ∷ []) in let c = ap length m.met in let d = length-append v.findings.met m.more in let g = ap (λ (y : PassState). length y.findings.met) same in absurd (omega arith)

-- u is the state of the pass before the load of the room's base
module _ (s t : PinnedTable) (k : List ℕ) (u : PassState) (o : OnlyMeets (call_of s.pass.now) u (state s.pass.now)) (p : HasRoomPin (sizes s.table.now) s.room u) (holds : HoldsKey s k) (small : AreBytes k) where
  abbrev z : Sizes
  z = sizes s.table.now

  abbrev call : ℕ
  call = call_of s.pass.now

  abbrev r : ℕ
  r = s.room

  abbrev v : PassState
  v = state s.pass.now

  abbrev w : PassState
  w = state t.pass.now

  has : HasRoomPin z r v
  has = pin_still z call r u v o p

  -- the entry was there
  pub found_lone : (i len : ℕ) (y : PassState) → search.IsEntryOf (view_of t) k i → HasRoomPin (sizes s.table.now) s.room (state t.pass.now) → added.LoadsAlone MeetsInTable s t → Runs (ClearsBit (sizes s.table.now) (class_at s) (block_at s)) (state t.pass.now) y → Runs (AddsIn (sizes s.table.now) s.room (record { 0 = i }) (class_at s) (block_at s) len k) u y
  found_lone i len y h q loads clears = let d = loads.2.does in let F : List ℕ → List ℕ → Type 0 = FindsIn z r k (Entry (record { 0 = i })) in let G : List ℕ → List ℕ → Type 0 = ClearsBit z (class_at s) (block_at s) in let A : List ℕ → List ℕ → Type 0 = AddsIn z r (record { 0 = i }) (class_at s) (block_at s) len k in
      let left = left_each z call r s.base s.place loads.1 v d.0 w (left_by z call (in_rooms (at_count r)) v loads.0 d.0 d.1) loads.3 d.2 in
      stays_then A u v y o.still (runs_as (Then F G) A v y (λ a b x. given_in z r (record { 0 = i }) k (class_at s) (block_at s) len holds.may.block.block.inside a x.0 b x.1 x.2) (runs_then F G v w y (found_alone z r i k v w q left h) clears))

  -- the room was full
  pub crowded_lone : (f : added.FoundFull view_of MeetsInTable k (sizes s.table.now).entries s t) → HasRoomPin (sizes s.table.now) s.room (state t.pass.now) → Runs (CrowdedIn (sizes s.table.now) s.room k) u (state t.pass.now)
  crowded_lone f q = let c : PassState = state f.counted.pass.now in let d = f.on.does in let told : Told z call (load (in_rooms (at_count r))) v f.word c = subst (λ (y : PassState). Told z call (load (in_rooms (at_count r))) v f.word y) (sym d.2) d.1 in let now = counts_now z call r v f.word c has told in
      let F : List ℕ → List ℕ → Type 0 = (λ a b. (a ≡ told.table.words) × (b ≡ a)) in let G : List ℕ → List ℕ → Type 0 = LacksIn z r k in let C : List ℕ → List ℕ → Type 0 = CrowdedIn z r k in
      stays_then C u v w o.still (runs_as (Then F G) C v w
      (λ a b x. (x.2.0 ∙ x.1.1, ap (λ (ws : List ℕ). entries_in ((memory z ws).rooms.count r)) x.1.0 ∙ (ap entries_in now.count ∙ f.full), subst (λ (ws : List ℕ). LacksKeyAt (memory z ws) r k) x.1.1 x.2.1))
      (runs_then F G v c w (load_finds z call (in_rooms (at_count r)) v f.word c told) (missing_alone s f.counted t (met_count f.word ∷ []) f.on k holds.names.is_key small now.under.pin.has q f.misses)))

  -- it was added at the first try
  module _ (i : ℕ) (room : i < (sizes s.table.now).entries) (h : search.IsEntryOf (view_of t) k i) (q : HasRoomPin (sizes s.table.now) s.room (state t.pass.now)) (named : s.place ≡ place_word (class_number (class_at s)) (block_at s) (length k)) (a : added.AddsStraight view_of MeetsInTable i k s t) where
    abbrev x : PassState
    x = state a.moment.pass.now

    first : LoadsUnder z call r v x
    first = each_under z call r s.base s.place a.loads v x has a.are a.start.does

    abbrev misses : search.Misses view_of MeetsInTable k a.from a.link s a.moment
    misses = record { over = a.over; none = a.none }

    abbrev over : LeadsOver z call r a.from a.link v x
    over = over_key s s a.moment [] (meets_nothing s) k holds.names.is_key small has first.under.pin.has misses

    abbrev steps : List Met
    steps = tried_count a.old a.old ∷ stored_value i ∷ stored_link i a.link ∷ stored_key i ∷ tried_link a.from i a.link a.link ∷ []

    abbrev P : List ℕ → List ℕ → Type 0
    P = PutsEntry z r a.from i (class_at s) (block_at s) (length k) a.old a.link (room_pin x)

    puts : Runs P x w
    puts = traced_words z call r s.base s.place (class_at s) (block_at s) (length k) a.old i a.link a.from x w first.under.pin.has (holds.base ∙ sym first.under.pin.stays.base) named (does_since s a.moment t a.loads steps a.start a.puts)

    -- the link is the first one, or of a linked entry
    is_link : (from : Option ℕ) → ((j : ℕ) → from ≡ Some j → StandsAt (memory z over.words) r j ((linked_in (room_pin x)).key j)) → ((j : ℕ) → from ≡ Some j → j < z.entries) → IsLinkOf z r from over.words
    is_link None f g = tt
    is_link (Some j) f g = (g j refl, (f j refl).0)

    few_from : (j : ℕ) → a.from ≡ Some j → j < z.entries
    few_from j e = let f = found_numbered j (found_in (room_pin x)) (a.over.grown.found j (from_found (view_of a.over.looked.moment) a.from (λ (y : List ℕ). IsKeyBefore y k) a.over.cut j e)) in
        let l = each_has (IsFoundWell z) (found_in (room_pin x)) f.entry first.under.pin.has.found f.has in let b = l.number in let n = f.number in omega arith

    next_in : Runs (AddsNext z r (record { 0 = i }) (class_at s) (block_at s) (length k) k) v w
    next_in = let F : List ℕ → List ℕ → Type 0 = (λ y n. (y ≡ over.words) × (n ≡ y)) in runs_as (Then F P) (AddsNext z r (record { 0 = i }) (class_at s) (block_at s) (length k) k) v w
        (λ y n d. record {
          next = a.number ∙ (ap entries_in (sym d.2.count) ∙ ap (λ (ws : List ℕ). entries_in ((memory z ws).rooms.count r)) d.1.1);
          room = room;
          none = subst (λ (ws : List ℕ). LacksKeyAt (memory z ws) r k) (sym d.1.0) (missing_there s s a.moment [] (meets_nothing s) k holds.names.is_key small has first.under.pin.has misses);
          from = a.from;
          link = subst (IsLinkOf z r a.from) (sym d.1.0) (is_link a.from over.was few_from);
          becomes = d.2.becomes ∙ ap (put_entry z r a.from i (class_at s) (block_at s) (length k)) d.1.1;
        })
        (runs_then F P v x w over.alone puts)

    -- in the words that it left the entry is linked, and has the key
    now_in : (words : List ℕ) → LeavesWords words w → HasKeyAt (memory z words) r k (Entry (record { 0 = i }))
    now_in words l = let d = does_since s a.moment t a.loads steps a.start a.puts in let last = d.2.2.2.2 in let x = on_rooms (link_entry r a.from i a.link) in
        let e = stands_behind z call r x d.2.2.2.0 a.link w (subst (λ (y : PassState). Told z call x d.2.2.2.0 a.link y) (sym last.2) last.1) q words l i h.0 in (e.0, e.1 ∙ h.1)

    moved : v ≢ w
    moved = let d = does_since s a.moment t a.loads steps a.start a.puts in let last = d.2.2.2.2 in let y : PassState = d.2.2.2.0 in
        met_moved call v y w _ (met_both call v x y (each_met z call r s.base s.place a.loads v x a.start.does) (each_met z call r s.base s.place (tried_count a.old a.old ∷ stored_value i ∷ stored_link i a.link ∷ stored_key i ∷ []) x y (d.0, d.1, (d.2.0, d.2.1, (d.2.2.0, d.2.2.1, (d.2.2.2.0, d.2.2.2.1, refl))))))
        (ap (λ (n : PassState). n.findings.met) (last.2 ∙ last.1.after))

    pub added_lone : Runs (AddsIn (sizes s.table.now) s.room (record { 0 = i }) (class_at s) (block_at s) (length k) k) u (state t.pass.now)
    added_lone = let N : List ℕ → List ℕ → Type 0 = AddsNext z r (record { 0 = i }) (class_at s) (block_at s) (length k) k in let Q : List ℕ → Type 0 = (λ ws. HasKeyAt (memory z ws) r k (Entry (record { 0 = i }))) in let A : List ℕ → List ℕ → Type 0 = AddsIn z r (record { 0 = i }) (class_at s) (block_at s) (length k) k in
        stays_then A u v w o.still (runs_as (λ y n. N y n × Q n) A v w (λ y n d. record { was = inr d.0; now = d.1 }) (runs_and N Q v w moved now_in next_in))
