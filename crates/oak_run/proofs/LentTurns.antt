-- A look that lent a reading, until the reading was done, and what names stand for behind holds and looks.
use Rattle.std.proofs.Common.{◌≡◌, ℕ, List, length, Option, Some, None, sym, ap, ◌∙◌, subst, Bor, arith}
use Rattle.std.specs.Option.{option_map}
use Rattle.oak_model.specs.declared.replies.Reply.{Reply}
use Rattle.oak_model.specs.declared.replies.Reply.TheVariants as replies
use Rattle.oak_model.specs.declared.replies.Wrote.{Wrote}
use Rattle.oak_model.specs.History.{state_at}
use Rattle.oak_model.specs.KeyNumber.{key_number}
use Rattle.oak_model.specs.Limits.{Sizes}
use Rattle.oak_script.specs.declared.scripts.Call.TheVariants.{Hold, Look}
use Rattle.oak_core.specs.declared.states.Knowledge.{Knowledge}
use Rattle.oak_core.specs.declared.states.PassState.{PassState}
use Rattle.oak_core.specs.declared.table.OakTable.{OakTable}
use Rattle.oak_core.specs.CallSteps.{Stands}
use Rattle.oak_core.specs.KeyHistories.{home_behind, writes_of}
use Rattle.oak_core.specs.KnownPlaces.{KnowsPlace}
use Rattle.oak_core.specs.LastReads.{EndsAs}
use Rattle.oak_core.specs.Passes.{call_of, key as sizes}
use Rattle.oak_core.specs.PassState.{HoldsNothing, seen_of}
use Rattle.value_ops.specs.declared.reading.Reading.{Reading}
use Rattle.value_ops.specs.Pinning.{EndsPin}
use Rattle.value_ops.specs.PinnedValues.{ReadsLife}
use Rattle.value_ops.specs.Reading.{ReadsOn, header, stamp, value}
use Rattle.value_ops.specs.Views.{Viewed}
use Rattle.oak_map.specs.Lending.{LendsLife, under}
use Rattle.oak_map.proofs.LentEnds.{end_stands, life_refuses}
use Rattle.oak_run.specs.MapTurns.{HoldsLife, Turned}
use Rattle.oak_run.specs.Turn.{Turn}
use Rattle.oak_run.specs.Views.{Names, View, named, names_after, renamed, view_of}
use Rattle.oak_run.proofs.ShownTurns.{look_turned, value_turn}

-- ---- readings

-- a life that was read so stays read so where nothing is learned
reads_on : (h g : ℕ) (key : List ℕ) (at : ℕ) (bytes : List ℕ) (v u w : PassState) → w.knowledge ≡ u.knowledge → w.findings.sights ≡ u.findings.sights → ReadsLife h g key at bytes v u → ReadsLife h g key at bytes v w
reads_on h g key at bytes v u w knows sights r = record {
  last = record {
    read = record {
      place = r.last.read.place;
      known = subst (λ (q : Knowledge). KnowsPlace (key_number key) at r.last.read.place q) (sym knows) r.last.read.known;
      from = r.last.read.from;
      to = let n = ap (λ (q : Knowledge). length (seen_of (key_number key) q)) knows in let t = r.last.read.to in omega arith;
      state = ap (λ (q : Knowledge). state_at (writes_of (seen_of (key_number key) q)) r.last.read.place) knows ∙ r.last.read.state;
    };
    sighted = (r.last.sighted.0, sights ∙ r.last.sighted.1, r.last.sighted.2);
    ends = subst (λ (q : Knowledge). EndsAs (key_number key) at (Some bytes) q) (sym knows) r.last.ends;
  };
  life = ap (λ (q : Knowledge). home_behind (seen_of (key_number key) q)) knows ∙ r.life;
}

-- The reading r was lent, the pass only made loads until the reading q, and the pin was undone, until w.
module _ (z : Sizes) (n : ℕ) (x : Viewed) (v w : PassState) (r q : Reading) (idle : HoldsNothing v) (l : LendsLife z n x v r) (sized : sizes r.table.now ≡ z) (same : call_of r.pass.now ≡ n) (on : ReadsOn r q) (undone : EndsPin (sizes q.table.now) (call_of q.pass.now) (header q) (under q) w) where
  stands : Stands n (under r) w
  stands = end_stands z n (call_of r.pass.now) (call_of q.pass.now) (header q) r.value v (under r) (under q) w idle l.goes l.numbers l.mine l.fulls l.swept l.rebalances l.has (sizes r.table.now) (sizes q.table.now) sized (ap (λ (b : Bor OakTable). sizes b.now) on.table ∙ sized) same (on.stays.call ∙ same) on.only undone

  pub life_read : ReadsLife x.header x.generation x.key (stamp r) (value r) v w
  life_read = reads_on x.header x.generation x.key (stamp r) (value r) v (under r) w stands.knowledge stands.sights l.life

  -- it is the turn of a look at each name that stands for the life
  pub lent_turned : (names : Names) (a : List ℕ) (y : View) → names a ≡ Some y → HoldsLife z v x y → Turned z n names (value_turn a y (value r) (stamp r) (length (seen_of (key_number y.key) w.knowledge))) v w
  lent_turned names a y is held = look_turned z n names a v w x y (stamp r) (value r) is held (life_refuses z n x v w r q idle l sized same on undone) life_read

-- ---- names

abbrev view_at : List ℕ → ℕ → View
view_at k p = record { key = k; place = p }

-- a hold that held names the place that it read
pub names_held : (names : Names) (t : Turn) (a k : List ℕ) (at r : ℕ) → t.call ≡ Hold a k → t.reply ≡ replies.Held at → t.places k ≡ Some r → names_after names t ≡ named names a (Some (record { key = k; place = r }))
names_held names t a k at r call reply places = ap (renamed names t) call
    ∙ (ap (λ (y : Reply). named names a (view_of k t y)) reply ∙ ap (λ (o : Option ℕ). named names a (option_map (λ (p : ℕ). view_at k p) o)) places)

-- and one that found no value names nothing
pub names_freed : (names : Names) (t : Turn) (a k : List ℕ) (y : Wrote) → t.call ≡ Hold a k → t.reply ≡ replies.Wrote y → names_after names t ≡ named names a None
names_freed names t a k y call reply = ap (renamed names t) call ∙ ap (λ (z : Reply). named names a (view_of k t z)) reply

pub names_looked : (names : Names) (t : Turn) (a : List ℕ) → t.call ≡ Look a → names_after names t ≡ names
names_looked names t a call = ap (renamed names t) call
