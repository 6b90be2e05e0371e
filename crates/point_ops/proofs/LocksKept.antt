-- What stays of the lock of a key's header while its pass works under it, and the write that ends it.
use Rattle.std.proofs.Common.{◌≡◌, ℕ, ◌+◌, List, map, Some, sym, refl, ap, ◌∙◌, subst}
use Rattle.std.proofs.lemmas.Option.{same_Some}
use Rattle.oak_model.specs.declared.writes.Kind.{Kind}
use Rattle.oak_model.specs.KeyNumber.{key_number}
use Rattle.oak_model.specs.Limits.{Sizes}
use Rattle.oak_model.proofs.Lists.{each_map}
use Rattle.arena_core.specs.declared.blocks.HeldBlock.{HeldBlock}
use Rattle.header_core.specs.declared.holds.HeldHeader.{HeldHeader}
use Rattle.oak_core.specs.declared.states.Finding.{Finding}
use Rattle.oak_core.specs.declared.states.Knowledge.{Knowledge}
use Rattle.oak_core.specs.declared.states.PassState.{PassState}
use Rattle.oak_core.specs.CallSteps.{Learns, Stands}
use Rattle.oak_core.specs.CallWrites.{Writes}
use Rattle.oak_core.specs.Finding.{IsLoadOf, IsOf, LoadsMore}
use Rattle.oak_core.specs.MadeWrites.{held_header}
use Rattle.oak_core.proofs.calls.CallSteps.{stands_in}
use Rattle.oak_core.proofs.held.HeldRowLaws.{row_mapped}
use Rattle.value_ops.specs.declared.locking.Locked.{Locked}
use Rattle.value_ops.specs.HeldValue.{stamp_held, value_at_lock, value_held}
use Rattle.value_ops.specs.LockHistories.{LockOf, LocksKey}
use Rattle.value_ops.specs.UnderLock.{ComesTo, EndsTo, HasLock}
use Rattle.value_ops.proofs.ComesFurther.{headers_come}
use Rattle.value_ops.proofs.LockRows.{stamp_of_row, value_of_row}
use Rattle.point_ops.specs.Parts.{WritesAt}
use Rattle.point_ops.proofs.WritesIn.{wrote_next}

-- what only met more, and changed what is held of blocks and headers, learned nothing

pub end_stands : (z : Sizes) (call : ℕ) (q : Knowledge) (bs : List HeldBlock) (hs : List HeldHeader) (v w : PassState) → q ≡ v.knowledge → EndsTo z call q bs hs v w → Stands call v w
end_stands z call q bs hs v w e c = subst (Stands call v) (sym c.after) record { met = record { more = c.more; met = refl; calls = each_map (IsOf z call) (λ (f : Finding). f.call ≡ call) c.more (λ f o. o.0) c.calls }; numbers = refl; knowledge = e; fulls = refl; swept = refl; sights = refl; gones = refl; rebalances = refl }

pub come_stands : (z : Sizes) (call : ℕ) (bs : List HeldBlock) (hs : List HeldHeader) (v w : PassState) → ComesTo z call bs hs v w → Stands call v w
come_stands z call bs hs v w c = end_stands z call v.knowledge bs hs v w refl record { more = c.more; calls = c.calls; after = c.after }

pub load_stands : (z : Sizes) (call : ℕ) (v w : PassState) → LoadsMore z call v w → Stands call v w
load_stands z call v w l = come_stands z call v.blocks.held v.headers.held v w record { more = l.more; calls = each_map (IsLoadOf z call) (IsOf z call) l.more (λ f o. (o.0, o.1, o.3)) l.loads; after = l.after }

-- loads leave what a lock says of the key
pub key_loaded : (z : Sizes) (call now : ℕ) (k : List ℕ) (h g : ℕ) (v u w : PassState) → LoadsMore z now u w → LocksKey z call k h g v u → LocksKey z call k h g v w
key_loaded z call now k h g v u w l t = subst (LocksKey z call k h g v) (sym l.after) record {
  before = t.before;
  stamp = t.stamp;
  lock = record { lock = record { inside = t.lock.lock.inside; locked = t.lock.lock.locked; generation = t.lock.lock.generation; row = t.lock.lock.row; unstamped = t.lock.lock.unstamped }; key_is = t.lock.key_is; value = t.lock.value; stamp_is = t.lock.stamp_is };
  value = t.value;
  sighted = t.sighted;
  ends = record { known = t.ends.known; state = t.ends.state };
}

-- so does a change of the records that leaves how they are held, with which stamp and for which key
module _ (f : HeldHeader → HeldHeader) (same : (r : HeldHeader) → (f r).header ≡ r.header) (held_stays : (r : HeldHeader) → (f r).held_as ≡ r.held_as) (stamp_stays : (r : HeldHeader) → (f r).stamp ≡ r.stamp) (key_stays : (r : HeldHeader) → (f r).key ≡ r.key) where
  module _ (z : Sizes) (k : List ℕ) (h g : ℕ) (before : List ℕ) (stamp : ℕ) (u w : PassState) (e : w.headers.held ≡ map f u.headers.held) (has : HasLock z h g w) (l : LockOf z k h g before stamp u) where
    abbrev q : HeldHeader
    q = l.lock.row.header

    row_then : held_header h w.headers.held ≡ Some (f q)
    row_then = ap (held_header h) e ∙ row_mapped f same h q u.headers.held l.lock.row.held

    pub lock_kept : LockOf z k h g before stamp w
    lock_kept = record {
      lock = has;
      key_is = ap (λ (r : HeldHeader). key_number r.key) (same_Some has.row.header (f q) (sym has.row.held ∙ row_then)) ∙ (ap key_number (key_stays q) ∙ l.key_is);
      value = value_of_row h (f q) w.headers.held row_then ∙ (ap value_at_lock (held_stays q) ∙ (sym (value_of_row h q u.headers.held l.lock.row.held) ∙ l.value));
      stamp_is = stamp_of_row h (f q) w.headers.held row_then ∙ (stamp_stays q ∙ (sym (stamp_of_row h q u.headers.held l.lock.row.held) ∙ l.stamp_is));
    }

  -- The header was locked, its records changed, and the lock ended by a write. The lock is named once more by the calls behind the change.
  pub changed_writes : (z : Sizes) (call changed_at ended_at : ℕ) (k : List ℕ) (v u w x : PassState) (l s : Locked) → s ≡ l → (kind : Kind) (at : ℕ) (now : List ℕ) → (t : LocksKey z call k l.header l.generation v u) → Learns call v u
      → changed_at ≡ call → (bs : List HeldBlock) → ComesTo z changed_at bs (map f u.headers.held) u w → HasLock z s.header s.generation w → value_held l.header w.headers.held ≡ now → at ≡ stamp_held s.header w.headers.held + 1
      → ended_at ≡ call → ((of before : List ℕ) (stamp : ℕ) → LockOf z of s.header s.generation before stamp w → Writes ended_at of kind (Some before) (Some (value_held s.header w.headers.held)) at w x)
      → WritesAt call k kind (Some t.before) (Some now) at v x
  changed_writes z call changed_at ended_at k v u w x l s is kind at now t learns changed bs comes has value raised ended wrote = wrote_next call k kind (Some t.before) (Some now) at v u w x t.stamp
      (raised ∙ ap (λ (n : ℕ). n + 1) (ap (λ (y : Locked). stamp_held y.header w.headers.held) is ∙ own.stamp_is)) learns t.sighted (stands_in call changed_at u w changed (come_stands z changed_at bs (map f u.headers.held) u w comes))
      (subst (λ (p : ℕ × List ℕ). Writes p.0 k kind (Some t.before) (Some p.1) at w x) (λ i. (ended i, (ap (λ (y : Locked). value_held y.header w.headers.held) is ∙ value) i))
      (wrote k t.before t.stamp (subst (λ (y : Locked). LockOf z k y.header y.generation t.before t.stamp w) (sym is) own)))
    where
      own : LockOf z k l.header l.generation t.before t.stamp w
      own = lock_kept z k l.header l.generation t.before t.stamp u w (headers_come z changed_at bs (map f u.headers.held) u w comes) (subst (λ (y : Locked). HasLock z y.header y.generation w) is has) t.lock
