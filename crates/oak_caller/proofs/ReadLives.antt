-- A life that a call read by a view, from its begin until its pin was undone.
use Rattle.std.proofs.Common.{◌≡◌, ℕ, ◌<◌, ◌≤◌, List, ◌++◌, drop, length, Some, sym, ap, ◌∙◌, subst, Bor, arith}
use mathlib.Core.Logic.{dite}
use native.Mathlib.Decide.{dec_lt}
use Rattle.oak_model.specs.Counts.{Begins}
use Rattle.oak_model.proofs.Lists.{begins_self}
use Rattle.oak_model.specs.History.{state_at}
use Rattle.oak_model.specs.KeyNumber.{key_number}
use Rattle.oak_model.specs.Limits.{Sizes}
use Rattle.oak_model.specs.Value.{IsValue}
use Rattle.oak_core.specs.declared.states.Knowledge.{Knowledge}
use Rattle.oak_core.specs.declared.states.KnownLife.{KnownLife}
use Rattle.oak_core.specs.declared.states.Numbers.{Numbers}
use Rattle.oak_core.specs.declared.states.PassState.{PassState}
use Rattle.oak_core.specs.declared.table.OakTable.{OakTable}
use Rattle.oak_core.specs.CallSteps.{Stands}
use Rattle.oak_core.specs.KeyHistories.{home_behind, writes_of}
use Rattle.oak_core.specs.KnownPlaces.{KnowsPlace}
use Rattle.oak_core.specs.LastReads.{EndsAs}
use Rattle.oak_core.specs.Passes.{call_of, key as sizes}
use Rattle.oak_core.specs.PassState.{HoldsNothing, seen_of}
use Rattle.point_ops.specs.Replies.{HoldsAsBefore}
use Rattle.value_ops.specs.declared.reading.Reading.{Reading}
use Rattle.value_ops.specs.Pinning.{EndsPin}
use Rattle.value_ops.specs.PinnedValues.{ReadsLife}
use Rattle.value_ops.specs.Reading.{ReadsOn, header, stamp, value}
use Rattle.value_ops.specs.Views.{Viewed}
use Rattle.oak_map.specs.Lending.{FindsOver, LendsLife, under}
use Rattle.oak_map.proofs.LentEnds.{end_stands, life_quiet, life_refuses, life_same, life_stays, life_was}
use Rattle.oak_caller.specs.declared.reading.Copied.{Copied}
use Rattle.oak_caller.specs.declared.reading.Copied.TheVariants.{Whole, TooLong}
use Rattle.oak_caller.specs.Looks.{CopyLooks, ShowsLife}

-- a life that was read so stays read so where nothing is learned
reads_on : (h g : ℕ) (key : List ℕ) (at : ℕ) (bytes : List ℕ) (v u w : PassState) → w.knowledge ≡ u.knowledge → w.findings.sights ≡ u.findings.sights → ReadsLife h g key at bytes v u → ReadsLife h g key at bytes v w
reads_on h g key at bytes v u w knows sights r = record {
  last = record {
    read = record {
      place = r.last.read.place;
      known = subst (λ (q : Knowledge). KnowsPlace (key_number key) at r.last.read.place q) (sym knows) r.last.read.known;
      from = r.last.read.from;
      to = let n = ap (λ (q : Knowledge). length (seen_of (key_number key) q)) knows in let t = r.last.read.to in omega arith;
      state = ap (λ (q : Knowledge). state_at (writes_of (seen_of (key_number key) q)) r.last.read.place) knows ∙ r.last.read.state;
    };
    sighted = (r.last.sighted.0, sights ∙ r.last.sighted.1, r.last.sighted.2);
    ends = subst (λ (q : Knowledge). EndsAs (key_number key) at (Some bytes) q) (sym knows) r.last.ends;
  };
  life = ap (λ (q : Knowledge). home_behind (seen_of (key_number key) q)) knows ∙ r.life;
}

-- its value was lent to the reading r, which was q at its end
module _ (z : Sizes) (n : ℕ) (x : Viewed) (v w : PassState) (r q : Reading) (idle : HoldsNothing v) (l : LendsLife z n x v r) (sized : sizes r.table.now ≡ z) (same : call_of r.pass.now ≡ n) (on : ReadsOn r q) (undone : EndsPin (sizes q.table.now) (call_of q.pass.now) (header q) (under q) w) where
  stands : Stands n (under r) w
  stands = end_stands z n (call_of r.pass.now) (call_of q.pass.now) (header q) r.value v (under r) (under q) w idle l.goes l.numbers l.mine l.fulls l.swept l.rebalances l.has (sizes r.table.now) (sizes q.table.now) sized (ap (λ (b : Bor OakTable). sizes b.now) on.table ∙ sized) same (on.stays.call ∙ same) on.only undone

  pub life_shows : IsValue (value r) → ShowsLife z n x (value r) (stamp r) v w
  life_shows short = record {
    life = reads_on x.header x.generation x.key (stamp r) (value r) v (under r) w stands.knowledge stands.sights l.life;
    refuses = life_refuses z n x v w r q idle l sized same on undone;
    quiet = life_quiet z n x v w r q idle l sized same on undone;
    value = short;
    was = life_was z n x v w r q idle l sized same on undone;
    same = life_same z n x v w r q idle l sized same on undone;
    alone = life_stays z n x v w r q idle l sized same on undone;
  }

-- so many bytes of it were copied to a place that has new behind that, or none of them
pub looks_fit : (y : Copied) (z : Sizes) (call : ℕ) (x : Viewed) (old new : List ℕ) (v w : PassState) (bytes : List ℕ) (len at : ℕ) → length new ≡ length old → length bytes ≡ len → (len ≤ length new → y ≡ Whole len at) → (length new < len → y ≡ TooLong len at) → ShowsLife z call x bytes at v w → (len ≤ length old → new ≡ bytes ++ drop len old) → CopyLooks y z call x old new v w
looks_fit y z call x old new v w bytes len at long is whole short shows fits = dite (dec_lt (length old) len)
    (λ l. subst (λ (c : Copied). CopyLooks c z call x old new v w) (sym (short (omega (arith, l, long)))) (bytes, shows, is, l))
    (λ no. let l : len ≤ length old = omega arith in subst (λ (c : Copied). CopyLooks c z call x old new v w) (sym (whole (omega (arith, l, long)))) (bytes, shows, is, fits l))

-- nothing is held, as before
pub idle_then : (v w : PassState) → HoldsAsBefore v w → HoldsNothing v → HoldsNothing w
idle_then v w h idle = record {
  hand = ap (λ (n : Numbers). n.hand) h.numbers ∙ idle.hand;
  blocks = h.blocks ∙ idle.blocks;
  headers = h.headers ∙ idle.headers;
  rooms = h.rooms ∙ idle.rooms;
}

-- the life was found over: what was loaded is as it was
pub over_loaded : (z : Sizes) (call : ℕ) (x : Viewed) (v w : PassState) → FindsOver z call x v w → Begins v.knowledge.loaded w.knowledge.loaded
over_loaded z call x v w f = subst (λ (l : List KnownLife). Begins v.knowledge.loaded l) (sym (f.not_read.dud.only.knows.loaded ∙ ap (λ (q : PassState). q.knowledge.loaded) f.tries.after)) (begins_self v.knowledge.loaded)
