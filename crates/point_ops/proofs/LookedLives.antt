-- A look at a life under a pin of its header: what the reading under the pin, and the pin before it, leave.
use Rattle.std.proofs.Common.{◌≡◌, ℕ, ◌<◌, List, sym, ap, ◌∙◌, subst, Option, Some, None}
use Rattle.pin_word.specs.PinWord.{count_of, state_of}
use Rattle.oak_model.specs.KeyNumber.{key_number}
use Rattle.oak_model.specs.Limits.{Sizes}
use Rattle.header_core.specs.HeaderHolds.{no_headers}
use Rattle.header_core.specs.Headers.{at_pin}
use Rattle.header_core.specs.declared.states.TheConstants.{LIVE}
use Rattle.header_core.specs.declared.holds.HeaderHolds.{HeaderHolds}
use Rattle.header_core.specs.declared.holds.PinnedHeader.{PinnedHeader}
use Rattle.oak_core.specs.declared.states.Knowledge.{Knowledge}
use Rattle.oak_core.specs.declared.states.PassState.{PassState}
use Rattle.oak_core.specs.CallSteps.{Learns, Stands}
use Rattle.oak_core.specs.KeyHistories.{home_behind}
use Rattle.oak_core.specs.Memory.{in_headers}
use Rattle.oak_core.specs.Passes.{state}
use Rattle.oak_core.specs.PassState.{seen_of}
use Rattle.oak_core.specs.QuietSteps.{IsQuiet}
use Rattle.oak_core.proofs.seats.AloneRuns.{Then, runs_as, runs_then}
use Rattle.oak_core.proofs.calls.CallSteps.{learns_both, stands_learns}
use Rattle.oak_core.proofs.calls.QuietCalls.{only_both}
use Rattle.chunk_ops.specs.PinRecords.{OnlyLearns, WordsStay}
use Rattle.chunk_ops.proofs.MeetingCalls.{stays_then}
use Rattle.value_ops.specs.declared.pinning.BadPin.{BadPin}
use Rattle.value_ops.specs.declared.reading.Reading.{Reading}
use Rattle.value_ops.specs.Pinning.{AddsPin, DropsPin, EndsPin, FindsDud, HasPin, IsCause, IsLiveAt, KnowsLife, KnowsMore, PinsDud, PinsLive}
use Rattle.value_ops.specs.PinnedValues.{LearnsByLoads, ReadsLife}
use Rattle.value_ops.specs.Reading.{IsReading, header, stamp, value}
use Rattle.value_ops.proofs.AlonePins.{undone}
use Rattle.value_ops.proofs.LearnFacts.{knows_both, knows_same, learned_pin}
use Rattle.point_ops.specs.FoundWords.{FoundWord}
use Rattle.point_ops.specs.Halting.{IsLockedOut}
use Rattle.point_ops.specs.Lives.{ReadsUnder, RefusesLife}
use Rattle.point_ops.proofs.FoundPins.{dud_found, found_pin, meets_met}
use Rattle.point_ops.proofs.FoundSpots.{last_since, last_until}
use Rattle.point_ops.proofs.LoneLooks.{refused_look}

-- what undoing a pin leaves of what was read
pub unpin_stands : (z : Sizes) (call h : ℕ) (v w : PassState) → EndsPin z call h v w → Stands call v w
unpin_stands z call h v w e = record {
  met = meets_met z call v w e.meets;
  numbers = ap (λ (x : PassState). x.numbers) e.meets.after;
  knowledge = ap (λ (x : PassState). x.knowledge) e.meets.after;
  fulls = ap (λ (x : PassState). x.findings.fulls) e.meets.after;
  rebalances = ap (λ (x : PassState). x.findings.rebalances) e.meets.after;
  swept = ap (λ (x : PassState). x.findings.swept) e.meets.after;
  sights = ap (λ (x : PassState). x.findings.sights) e.meets.after;
  gones = ap (λ (x : PassState). x.findings.gones) e.meets.after;
}

abbrev header_of : Option PinnedHeader → ℕ
header_of None = 0
header_of (Some p) = p.header

-- the reading is of the pinned header
reading_of : (z : Sizes) (h g : ℕ) (p : PinnedHeader) (v : PassState) (r : Reading) → HasPin z h g p v → IsReading r → (state r.pass.now).headers ≡ v.headers → header r ≡ h
reading_of z h g p v r has reading same = sym reading.pinned.has.header_is ∙ (ap header_of (sym reading.pinned.has.is ∙ (ap (λ (a : HeaderHolds). a.pin) same ∙ has.is)) ∙ has.header_is)

module _ (z : Sizes) (call h g : ℕ) (p : PinnedHeader) (v : PassState) (r : Reading) (w : PassState) (has : HasPin z h g p v) (reading : IsReading r) (loads : LearnsByLoads z call v (state r.pass.now))
    (reads : (key : List ℕ) → KnowsLife h g key v.knowledge → ReadsLife h g key (stamp r) (value r) v (state r.pass.now)) (y : Sizes) (later : ℕ) (table : y ≡ z) (same : later ≡ call) (undo : EndsPin y later (header r) (state r.pass.now) w) where
  abbrev u : PassState
  u = state r.pass.now

  ends : EndsPin z call h u w
  ends = subst (λ (i : Sizes × ℕ × ℕ). EndsPin i.0 i.1 i.2 u w) (λ i. (table i, same i, reading_of z h g p v r has reading loads.only.headers i)) undo

  stands : Stands call u w
  stands = unpin_stands z call h u w ends

  under_reading : ReadsUnder z call h g (stamp r) v w
  under_reading = record {
    learns = learns_both call v u w loads.only.learns (stands_learns call u w stands);
    quiet = only_both IsQuiet v u w loads.quiet ends.quiet;
    knows = knows_both v.knowledge u.knowledge w.knowledge loads.only.knows (knows_same u.knowledge w.knowledge stands.knowledge);
    blocks = ap (λ (x : PassState). x.blocks) ends.meets.after ∙ loads.only.blocks;
    headers = ap (λ (x : PassState). x.headers) ends.meets.after ∙ ap (λ (a : HeaderHolds). record a { pin = None }) loads.only.headers;
    rooms = ap (λ (x : PassState). x.rooms) ends.meets.after ∙ loads.only.rooms;
    reads = λ key knows. let l = reads key knows in (value r, record { last = last_until call (key_number key) (stamp r) (Some (value r)) v u w stands l.last; life = ap (λ (q : Knowledge). home_behind (seen_of (key_number key) q)) stands.knowledge ∙ l.life });
    still = stays_then (DropsPin z h) v u w loads.still ends.still;
  }

  pub reads_under : (at : ℕ) → at ≡ stamp r → ReadsUnder z call h g at v w
  reads_under at is = subst (λ (n : ℕ). ReadsUnder z call h g n v w) (sym is) under_reading

-- a good pin, under which the stamp was read
module _ (z : Sizes) (call h g at : ℕ) (v u w : PassState) (none : v.headers ≡ no_headers) (pins : PinsLive z call h g v u) (later i j : ℕ) (same : later ≡ call) (header : i ≡ h) (generation : j ≡ g) (under0 : ReadsUnder z later i j at u w) where
  under : ReadsUnder z call h g at u w
  under = subst (λ (k : ℕ × ℕ × ℕ). ReadsUnder z k.0 k.1 k.2 at u w) (λ k. (same k, header k, generation k)) under0

  first : Learns call v u
  first = (learned_pin z call h g pins.number v u pins.told).learns

  pub live_only : OnlyLearns call v w
  live_only = record {
    learns = learns_both call v u w first under.learns;
    quiet = only_both IsQuiet v u w pins.quiet under.quiet;
    blocks = under.blocks ∙ ap (λ (x : PassState). x.blocks) pins.after;
    headers = under.headers ∙ (ap (λ (x : PassState). record x.headers { pin = None }) pins.after ∙ (ap (λ (a : HeaderHolds). record a { pin = None }) none ∙ sym none));
    rooms = under.rooms ∙ ap (λ (x : PassState). x.rooms) pins.after;
    still = runs_as (Then (AddsPin z h g) (DropsPin z h)) WordsStay v w (λ a b d. undone z h pins.pin.inside a d.0 b (IsLiveAt g) (λ n. 0 < count_of n) d.1 d.2) (runs_then (AddsPin z h g) (DropsPin z h) v u w pins.still under.still);
  }

  pub live_knows : KnowsMore v.knowledge w.knowledge
  live_knows = knows_both v.knowledge u.knowledge w.knowledge (knows_same v.knowledge u.knowledge (ap (λ (x : PassState). x.knowledge) pins.after)) under.knows

  pub live_found : FoundWord z call (in_headers (at_pin h)) (λ n. state_of n ≡ LIVE) v w
  live_found = found_pin z call h g pins.number v u w (λ n. state_of n ≡ LIVE) none pins.told under.learns.met pins.live

  pub live_reads : (key : List ℕ) → KnowsLife h g key v.knowledge → (bytes : List ℕ) × ReadsLife h g key at bytes v w
  live_reads key knows = let l = under.reads key (subst (KnowsLife h g key) (sym (ap (λ (x : PassState). x.knowledge) pins.after)) knows) in
      (l.0, record { last = last_since call (key_number key) at (Some l.0) v u w first l.1.last; life = l.1.life })

-- a pin that was undone
pub dud_only : (z : Sizes) (call h g : ℕ) (why : BadPin) (v w : PassState) → PinsDud z call h g why v w → OnlyLearns call v w
dud_only z call h g why v w d = record {
  learns = d.only.learns;
  quiet = d.quiet;
  blocks = d.only.blocks;
  headers = d.only.headers;
  rooms = d.only.rooms;
  still = runs_as (FindsDud z h g why) WordsStay v w (λ a b f. f.0) d.still;
}

-- so it is no look, where the header was found locked or of another generation
pub dud_refuses : (z : Sizes) (call h g : ℕ) (why : BadPin) (v w : PassState) → v.headers ≡ no_headers → PinsDud z call h g why v w → ((n : ℕ) → IsCause why g n → IsLockedOut g n) → ((n : ℕ) → IsCause why g n → IsLiveAt g n → ⊥) → RefusesLife z call h g v w
dud_refuses z call h g why v w none d locked not_live = record { only = dud_only z call h g why v w d; knows = d.only.knows; found = dud_found z call h g why v w (IsLockedOut g) none d locked; alone = refused_look z call h g v w why not_live d }
