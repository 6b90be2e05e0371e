-- A life that an entry named, and is then pinned: what its key holds, or that the key was read absent, since every moment at which the life was the key's last one.
use Rattle.std.proofs.Common.{◌≡◌, ℕ, List, sym, refl, ap, ◌∙◌, subst, arith, true, Option, Some, None}
use Rattle.oak_model.specs.KeyNumber.{key_number}
use Rattle.oak_model.specs.Limits.{Sizes}
use Rattle.header_core.specs.HeaderHolds.{no_headers}
use Rattle.header_core.specs.HeaderStep.{unpin_header}
use Rattle.header_core.specs.declared.holds.HeaderHolds.{HeaderHolds}
use Rattle.header_core.specs.declared.holds.PinnedHeader.{PinnedHeader}
use Rattle.oak_core.specs.declared.states.Numbers.{Numbers}
use Rattle.oak_core.specs.declared.states.PassState.{PassState}
use Rattle.oak_core.specs.AloneWords.{Runs}
use Rattle.oak_core.specs.CallSteps.{Learns}
use Rattle.oak_core.specs.Known.{KnowsHeader}
use Rattle.oak_core.specs.KeyReads.{home_of}
use Rattle.oak_core.specs.LifeKeys.{first_of, key_in_loaded, key_in_logs, loaded_in}
use Rattle.oak_core.specs.Memory.{memory}
use Rattle.oak_core.specs.PassState.{HoldsNothing}
use Rattle.oak_core.specs.QuietSteps.{IsQuiet}
use Rattle.oak_core.specs.Step.{on_headers}
use Rattle.oak_core.proofs.seats.AloneRuns.{moment_after, runs_as}
use Rattle.oak_core.proofs.calls.CallSteps.{learns_both}
use Rattle.oak_core.proofs.known.KnownHeaders.{known_life}
use Rattle.oak_core.proofs.known.KnownLives.{named_at}
use Rattle.oak_core.proofs.known.LoadedIn.{loaded_in_later}
use Rattle.oak_core.proofs.calls.QuietCalls.{only_both}
use Rattle.chunk_ops.specs.PinRecords.{WordsStay}
use Rattle.chunk_ops.proofs.MeetingCalls.{then_stays}
use Rattle.value_ops.specs.declared.pinned_value.PinnedValue.{PinnedValue}
use Rattle.value_ops.specs.declared.pinning.BadPin.{BadPin}
use Rattle.value_ops.specs.declared.pinning.BadPin.TheVariants.{Dead}
use Rattle.value_ops.specs.Pinning.{AddsPin, FindsDead, FindsDud, KnowsLife, PinsDud, PinsLive, pin_of}
use Rattle.value_ops.specs.PinnedValues.{IsPinnedValue, LearnsByLoads, ReadsLife, stamp_under, value_under}
use Rattle.value_ops.proofs.LearnFacts.{learned_pin}
use Rattle.value_ops.proofs.LoadedViews.{loaded_still}
use Rattle.scan_cursor.specs.declared.reading.Here.TheVariants.{Present, Absent}
use Rattle.scan_cursor.specs.Holding.{HasValue}
use Rattle.scan_cursor.specs.Reading.{LeavesHere, ReadsHere}
use Rattle.scan_cursor.specs.Views.{IsKnown, KnowsLast, Later, ReadsKey, View, view_of}
use Rattle.scan_cursor.proofs.ReadingViews.{later_both, later_by, read_before, sighted_before}
use Rattle.scan_cursor.proofs.RemovedLives.{removed_read}

-- a life that was loaded is known in every later state
pub known_later : (h g : ℕ) (k : List ℕ) (m b : View) → KnowsLast k h g m → Later m b → KnowsLife h g k b.state.knowledge
known_later h g k m b x l = ap (λ (o : Option (List ℕ)). first_of o (key_in_logs h g b.state.knowledge.seen))
    (ap (key_in_loaded h g) l.learns.all.loaded.1 ∙ loaded_still h g k m.state.knowledge.loaded l.learns.all.loaded.0 x.loaded)

-- so its header may be pinned
pub known_header : (h g : ℕ) (b : View) → IsKnown h g b → KnowsHeader h g b.state
known_header h g b x = let l = known_life h g x.key b.state.knowledge (known_later h g x.key x.moment b x.knows x.since) in omega arith

-- ---- a good pin

module _ (z : Sizes) (call h g : ℕ) (v u w : PassState) (pins : PinsLive z call h g v u) (now : ℕ) (same : now ≡ call) (loads : LearnsByLoads z now u w) where
  first : Learns call v u
  first = (learned_pin z call h g pins.number v u pins.told).learns

  learns : Learns call v w
  learns = learns_both call v u w first (subst (λ (i : ℕ). Learns i u w) same loads.only.learns)

  pub live_later : Later (view_of z call v) (view_of z call w)
  live_later = later_by z call call v w refl learns (only_both IsQuiet v u w pins.quiet loads.quiet)

  -- the pass has the pin of the value, and nothing else
  live_holds : HoldsNothing v → (x : PinnedValue) → IsPinnedValue z x w → HasValue z x w
  live_holds idle x value = record {
    value = value;
    headers = pinned ∙ ap (λ (o : Option PinnedHeader). record no_headers { pin = o }) (sym (ap (λ (a : HeaderHolds). a.pin) pinned) ∙ value.has.is);
    hand = ap (λ (n : Numbers). n.hand) learns.all.numbers ∙ idle.hand;
    blocks = loads.only.blocks ∙ (ap (λ (y : PassState). y.blocks) pins.after ∙ idle.blocks);
    rooms = loads.only.rooms ∙ (ap (λ (y : PassState). y.rooms) pins.after ∙ idle.rooms);
  }
    where
      pinned : w.headers ≡ record no_headers { pin = Some (pin_of (memory z pins.told.table.words) h g) }
      pinned = loads.only.headers ∙ (ap (λ (y : PassState). y.headers) pins.after ∙ ap (λ (a : HeaderHolds). record a { pin = Some (pin_of (memory z pins.told.table.words) h g) }) idle.headers)

  -- the value is what the key held, at the place of its stamp
  module _ (i j : ℕ) (header : i ≡ h) (generation : j ≡ g) (stamp : ℕ) (bytes : List ℕ) (reads : (of : List ℕ) → KnowsLife i j of u.knowledge → ReadsLife i j of stamp bytes u w) (k : List ℕ) (m : View) (last : KnowsLast k h g m) (since : Later m (view_of z call v)) where
    pinned_later : Later m (view_of z call u)
    pinned_later = later_both m (view_of z call v) (view_of z call u) since (later_by z call call v u refl first pins.quiet)

    knows : KnowsLife i j k u.knowledge
    knows = subst (λ (n : ℕ × ℕ). KnowsLife n.0 n.1 k u.knowledge) (λ t. (sym header t, sym generation t)) (known_later h g k m (view_of z call u) last pinned_later)

    live_read : ReadsKey m (view_of z call w) k stamp (Some bytes)
    live_read = read_before k stamp (Some bytes) m (view_of z call u) (view_of z call w) pinned_later record { read = (reads k knows).last.read; sighted = (reads k knows).last.sighted }

  pub live_here : HoldsNothing v → (i j : ℕ) → i ≡ h → j ≡ g → (x : PinnedValue) → IsPinnedValue z x w → ((of : List ℕ) → KnowsLife i j of u.knowledge → ReadsLife i j of (stamp_under w) (value_under w) u w)
      → (k : List ℕ) (m : View) → KnowsLast k h g m → Later m (view_of z call v) → ReadsHere (Present x) k m (view_of z call w)
  live_here idle i j header generation x value reads k m last since = (live_holds idle x value, live_read i j header generation (stamp_under w) (value_under w) reads k m last since)

  -- to a pass that is alone: one pin more
  pub live_leaves : (x : PinnedValue) → x.header ≡ h → LeavesHere (Present x) z v w
  live_leaves x e = runs_as (AddsPin z h g) (λ a b. (i : ℕ) × AddsPin z x.header i a b) v w (λ a b d. (g, subst (λ (i : ℕ). AddsPin z i g a b) (sym e) d)) (then_stays (AddsPin z h g) v u w pins.still loads.still)

-- ---- a pin that was undone

module _ (z : Sizes) (call h g : ℕ) (why : BadPin) (v w : PassState) (d : PinsDud z call h g why v w) where
  pub dud_later : Later (view_of z call v) (view_of z call w)
  dud_later = later_by z call call v w refl d.only.learns d.quiet

  pub dud_nothing : HoldsNothing v → HoldsNothing w
  dud_nothing idle = record {
    hand = ap (λ (n : Numbers). n.hand) d.only.learns.all.numbers ∙ idle.hand;
    blocks = d.only.blocks ∙ idle.blocks;
    headers = d.only.headers ∙ idle.headers;
    rooms = d.only.rooms ∙ idle.rooms;
  }

  pub dud_stays : Runs WordsStay v w
  dud_stays = runs_as (FindsDud z h g why) WordsStay v w (λ a b f. f.0) d.still

  -- a life that was removed
  module _ (k : List ℕ) (m : View) (last : KnowsLast k h g m) (since : Later m (view_of z call v)) where
    whole : Later m (view_of z call w)
    whole = later_both m (view_of z call v) (view_of z call w) since dud_later

    -- whose entry the call had loaded
    named : loaded_in call h g v.knowledge.loaded ≡ true
    named = loaded_in_later call h g m.state.knowledge.loaded v.knowledge.loaded since.learns.all.loaded (subst (λ (i : ℕ). loaded_in i h g m.state.knowledge.loaded ≡ true) (sym since.call) last.named)

    gone_read : (stamp : ℕ) → FindsDead call h g k stamp v w → ReadsKey m (view_of z call w) k stamp None
    gone_read stamp f = record {
      read = removed_read z _ w (moment_after z call (on_headers (unpin_header h)) d.looked d.undone.number w d.undone.told) (key_number k) (home_of h g) stamp
          (named_at z d.told.table d.told.rule d.told.seat v d.told.here h g d.told.may.0.inside k (known_later h g k m (view_of z call v) last since)).names f.gone.removal m.state whole.learns.all.seen last.last;
      sighted = sighted_before (key_number k) stamp m.state.findings v.findings w.findings (since.learns.sights.more, since.learns.sights.sights) (f.sighted named);
    }

-- so its key was read absent
pub dead_here : (z : Sizes) (call h g stamp : ℕ) (v w : PassState) → PinsDud z call h g (Dead stamp) v w → HoldsNothing v → (k : List ℕ) (m : View) → KnowsLast k h g m → Later m (view_of z call v) → ReadsHere Absent k m (view_of z call w)
dead_here z call h g stamp v w d idle k m last since = (dud_nothing z call h g (Dead stamp) v w d idle, (stamp, gone_read z call h g (Dead stamp) v w d k m last since stamp (d.learned k (known_later h g k m (view_of z call v) last since))))
