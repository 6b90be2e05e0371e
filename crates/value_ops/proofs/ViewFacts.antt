-- What the pin of a view, and its reading, leave.
use Rattle.std.proofs.Common.{ℕ, sym, refl, ap, ◌∙◌, subst, arith, Option, Some, None}
use Rattle.oak_model.specs.KeyNumber.{key_number}
use Rattle.oak_model.specs.Limits.{Sizes}
use Rattle.header_core.specs.declared.holds.HeaderHolds.{HeaderHolds}
use Rattle.header_core.specs.declared.holds.PinnedHeader.{PinnedHeader}
use Rattle.oak_core.specs.declared.states.PassState.{PassState}
use Rattle.oak_core.specs.Known.{KnowsHeader}
use Rattle.oak_core.specs.Memory.{memory}
use Rattle.oak_core.specs.Passes.{state}
use Rattle.oak_core.specs.PassState.{seen_of}
use Rattle.oak_core.specs.QuietSteps.{IsQuiet}
use Rattle.oak_core.specs.Sights.{SightedSince}
use Rattle.oak_core.proofs.seats.AloneRuns.{runs_as}
use Rattle.oak_core.proofs.calls.CallSteps.{begins_same}
use Rattle.oak_core.proofs.known.KnownHeaders.{known_life}
use Rattle.oak_core.proofs.known.KnownReads.{read_since}
use Rattle.oak_core.proofs.told.PinTold.{dead_over, other_over}
use Rattle.oak_core.proofs.calls.QuietCalls.{only_both}
use Rattle.value_ops.specs.declared.pinning.BadPin.{BadPin}
use Rattle.value_ops.specs.declared.pinning.BadPin.TheVariants.{Locked, Dead, Other}
use Rattle.value_ops.specs.declared.reading.Reading.{Reading}
use Rattle.value_ops.specs.Pinning.{FindsDud, IsCause, KnowsLife, KnowsMore, LearnsCause, PinsDud, PinsLive}
use Rattle.value_ops.specs.PinnedValues.{FindsStamp, LearnsByLoads, ReadsLife}
use Rattle.value_ops.specs.Reading.{IsReading, stamp, value}
use Rattle.value_ops.specs.Views.{FindsReason, IsReason, KnowsView, LearnsReason, NotRead, ReadsView, Viewed, why_of}
use Rattle.value_ops.proofs.LearnFacts.{life_stays}

-- a pass may pin the header of a view that it knows
pub known_header : (z : Sizes) (x : Viewed) (v : PassState) → KnowsView z x v → KnowsHeader x.header x.generation v
known_header z x v k = let l = known_life x.header x.generation x.key v.knowledge k.life in omega arith

-- it knows the view still where it knows more
pub view_stays : (z : Sizes) (x : Viewed) (v w : PassState) → KnowsMore v.knowledge w.knowledge → KnowsView z x v → KnowsView z x w
view_stays z x v w m k = record { inside = k.inside; life = life_stays x.header x.generation x.key v.knowledge w.knowledge m k.life }

module _ (z : Sizes) (call : ℕ) (x : Viewed) (v w : PassState) (known : KnowsView z x v) where
  -- the word that is a cause is a reason
  reason_is : (bad : BadPin) (n : ℕ) → IsCause bad x.generation n → IsReason (why_of bad) x.generation n
  reason_is Locked n c = c
  reason_is (Dead stamp) n c = dead_over x.generation n c.0 c.1
  reason_is Other n c = other_over x.generation n c

  learned_is : (bad : BadPin) → LearnsCause z call x.header x.generation bad v w → LearnsReason z call x (why_of bad) v w
  learned_is Locked l = l
  learned_is (Dead stamp) l = (stamp, (l x.key known.life).gone)
  learned_is Other l = l x.key known.life

  pub dud_view : (bad : BadPin) → PinsDud z call x.header x.generation bad v w → NotRead z call x (why_of bad) v w
  dud_view bad d = record {
    cause = bad;
    dud = d;
    why_is = refl;
    reason = reason_is bad d.number d.cause;
    learned = learned_is bad d.learned;
    knows = view_stays z x v w d.only.knows known;
    still = runs_as (FindsDud z x.header x.generation bad) (FindsReason z x (why_of bad)) v w (λ a b f. (f.0, reason_is bad ((memory z a).headers.pin x.header) f.1)) d.still;
  }

abbrev header_pinned : Option PinnedHeader → ℕ
header_pinned None = 0
header_pinned (Some p) = p.header

-- a reading behind a good pin
module _ (z : Sizes) (call : ℕ) (x : Viewed) (v w : PassState) (known : KnowsView z x v) (pins : PinsLive z call x.header x.generation v w) where
  known_pinned : KnowsView z x w
  known_pinned = subst (λ (y : PassState). KnowsView z x y) (sym pins.after) record { inside = known.inside; life = known.life }

  -- the life of the view, as the pass knows it at the pin
  pub pinned_life : KnowsLife x.header x.generation x.key w.knowledge
  pinned_life = known_pinned.life

  pub pinned_reads : (r : Reading) → LearnsByLoads z call w (state r.pass.now) → FindsStamp z call x.header (stamp r) w (state r.pass.now) → IsReading r → ReadsLife x.header x.generation x.key (stamp r) (value r) w (state r.pass.now) → ReadsView z call x v r
  pinned_reads r loads found reading life = record {
    pinned = w;
    pins = pins;
    loads = loads;
    quiet = only_both IsQuiet v w (state r.pass.now) pins.quiet loads.quiet;
    found = found;
    reading = reading;
    header_is = sym reading.pinned.has.header_is ∙ ap header_pinned (sym reading.pinned.has.is ∙ (ap (λ (a : HeaderHolds). a.pin) loads.only.headers ∙ pins.pin.is));
    life = record {
      last = record {
        read = read_since (key_number x.key) (stamp r) (Some (value r)) v w (state r.pass.now) (λ k. begins_same (seen_of k v.knowledge) (seen_of k w.knowledge) (ap (λ (y : PassState). seen_of k y.knowledge) pins.after)) life.last.read;
        sighted = subst (λ (y : PassState). SightedSince (key_number x.key) (stamp r) y.findings (state r.pass.now).findings) pins.after life.last.sighted;
        ends = life.last.ends;
      };
      life = life.life;
    };
    knows = view_stays z x w (state r.pass.now) loads.only.knows known_pinned;
  }
