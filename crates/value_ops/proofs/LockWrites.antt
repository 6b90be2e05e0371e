-- The writes that end a lock, in the history of the key that the lock is of.
use Rattle.std.proofs.Common.{◌≡◌, ◌≢◌, ℕ, List, map, set, sym, refl, ap, ◌∙◌, subst, cond, ◌==◌, eq-eqb, true, None, Some, arith}
use Rattle.oak_model.specs.declared.writes.Kind.{Kind}
use Rattle.oak_model.specs.declared.writes.Kind.TheVariants.{Remove}
use Rattle.oak_model.specs.KeyNumber.{key_number}
use Rattle.oak_model.specs.Limits.{Sizes}
use Rattle.oak_model.specs.State.{State}
use Rattle.oak_model.proofs.Lists.{each_map, set_there}
use Rattle.header_core.specs.declared.holds.HeldAs.TheVariants.{Buried}
use Rattle.header_core.specs.declared.holds.HeldHeader.{HeldHeader}
use Rattle.header_core.specs.HeaderStep.{HeaderStep, unlock_header, mark_dead, stamped_at, buried_at, header_spot}
use Rattle.header_core.specs.Headers.{at_pin}
use Rattle.oak_core.specs.declared.states.Finding.{Finding}
use Rattle.oak_core.specs.declared.states.KeyedWrite.{KeyedWrite}
use Rattle.oak_core.specs.declared.states.PassState.{PassState}
use Rattle.oak_core.specs.CallSteps.{Stands}
use Rattle.oak_core.specs.CallWrites.{Writes}
use Rattle.oak_core.specs.Finding.{IsOf}
use Rattle.oak_core.specs.HeaderCalls.{Unlocks, MarksDead}
use Rattle.oak_core.specs.HeldRows.{BuriesLife}
use Rattle.oak_core.specs.Learning.{wrote}
use Rattle.oak_core.specs.MadeWrites.{held_header, over_write, removal}
use Rattle.oak_core.specs.Memory.{memory}
use Rattle.oak_core.specs.PassState.{knowledge_of}
use Rattle.oak_core.specs.Rule.{Rule}
use Rattle.oak_core.specs.Step.{on_headers, Told}
use Rattle.oak_core.proofs.calls.CallSteps.{step_met}
use Rattle.oak_core.proofs.known.KnowledgeAfter.{changed_knowledge, removal_knowledge, unchanged_knowledge}
use Rattle.oak_core.proofs.covers.SetsValue.{held_row}
use Rattle.oak_core.proofs.told.WriteTold.{Notes, writes_of_call, writes_since}
use Rattle.oak_core.proofs.held.HeldRowLaws.{row_mapped}
use Rattle.value_ops.specs.HeldValue.{value_held}
use Rattle.value_ops.specs.LockHistories.{LockOf}
use Rattle.value_ops.specs.UnderLock.{HasBuried, ComesTo, StoresNext, HasLock}
use Rattle.value_ops.proofs.LockEndings.{lock_is, at_lock, now_held, is_next, raised_held}
use Rattle.value_ops.proofs.LockRows.{generation_of_row}
use Rattle.value_ops.proofs.StepLeft.{rule_left, table_left}

-- what only came to something learned nothing
pub comes_stands : (z : Sizes) (call : ℕ) (bs : List _) (hs : List HeldHeader) (v u : PassState) → ComesTo z call bs hs v u → Stands call v u
comes_stands z call bs hs v u c = record {
  met = record { more = c.more; met = ap (λ (y : PassState). y.findings.met) c.after; calls = each_map (IsOf z call) (λ (f : Finding). f.call ≡ call) c.more (λ f o. o.0) c.calls };
  numbers = ap (λ (y : PassState). y.numbers) c.after;
  knowledge = ap (λ (y : PassState). y.knowledge) c.after;
  fulls = ap (λ (y : PassState). y.findings.fulls) c.after;
  rebalances = ap (λ (y : PassState). y.findings.rebalances) c.after;
  swept = ap (λ (y : PassState). y.findings.swept) c.after;
  sights = ap (λ (y : PassState). y.findings.sights) c.after;
  gones = ap (λ (y : PassState). y.findings.gones) c.after;
}

module _ (z : Sizes) (call h g x : ℕ) (v u : PassState) (of before : List ℕ) (stamp : ℕ) (l : LockOf z of h g before stamp v) (next : StoresNext z call h x v u) (comes : ComesTo z call v.blocks.held (stamped_at h x v.headers.held) v u) where
  abbrev own : HeldHeader
  own = record l.lock.row.header { stamp = x }

  own_held : held_header h u.headers.held ≡ Some (record l.lock.row.header { stamp = x })
  own_held = raised_held z call h g x v u l.lock next comes

  raised : x ≢ l.lock.row.at.stamp
  raised e = let n = is_next z call h g x v u l.lock next comes in absurd (omega arith)

  -- a step on the pin word that makes the write y
  module _ (s : HeaderStep) (is : header_spot s ≡ at_pin h) (n : ℕ) (w : PassState) (t : Told z call (on_headers s) u n w) (y : KeyedWrite) (key : key_number y.key ≡ key_number l.lock.row.header.key) (knowledge : w.knowledge ≡ wrote (key_number l.lock.row.header.key) y (map knowledge_of t.table.states) u.knowledge)
      (caller : y.write.caller ≡ u.numbers.number) (call_is : y.write.call ≡ call) (stamp_is : y.write.stamp ≡ x) (notes : Notes u w) where
    behind : Rule z record { words = (table_left z call s h is u n w t).words; states = set t.table.states t.seat w }
    behind = subst (λ (i : PassState). Rule z record { words = (table_left z call s h is u n w t).words; states = set t.table.states t.seat i }) (sym t.after) (rule_left z call s h is u n w t)

    ended : (kind : Kind) (after : State) → y.write.kind ≡ kind → y.write.after ≡ after → Writes call of kind (Some before) after x v w
    ended kind after kind_is after_is = writes_since call of kind (Some before) after x v u w (comes_stands z call v.blocks.held (stamped_at h x v.headers.held) v u comes)
        (writes_of_call z t.table t.rule t.seat u t.here (table_left z call s h is u n w t).words w behind (set_there t.table.states t.seat u w t.here) (key_number l.lock.row.header.key) y key knowledge call (step_met z call (on_headers s) u n w t)
        (ap (λ (i : PassState). i.numbers) t.after) notes caller call_is of kind (Some before) after x (sym l.key_is)
        ((lock_is z t.table t.rule t.seat u t.here h own own_held l.lock.row.at l.lock.row.locked).state ∙ ap (λ (b : List ℕ). Some b) (sym (at_lock h v.headers.held l.lock.row) ∙ l.value)) after_is stamp_is kind_is)

  -- the header is unlocked
  pub unlock_writes : (kind : Kind) (n : ℕ) (w : PassState) → Unlocks z call h kind u n w → Writes call of kind (Some before) (Some (value_held h v.headers.held)) x v w
  unlock_writes kind n w t = ended (unlock_header h kind) refl n w t (over_write u.numbers.number call kind own) refl
      (ap (λ (i : PassState). i.knowledge) t.after ∙ changed_knowledge call (memory z t.table.words) (map knowledge_of t.table.states) u h own own_held kind l.lock.row.at l.lock.row.locked raised)
      refl refl refl
      (ap (λ (i : PassState). i.findings.fulls) t.after, ap (λ (i : PassState). i.findings.swept) t.after, ap (λ (i : PassState). i.findings.gones) t.after, ap (λ (i : PassState). i.findings.sights) t.after, ap (λ (i : PassState). i.findings.rebalances) t.after)
      kind (Some (value_held h v.headers.held)) refl (ap (λ (b : List ℕ). Some b) (sym (now_held h v.headers.held l.lock.row.header l.lock.row.held)))

  -- it is marked dead
  pub removal_writes : (n : ℕ) (w : PassState) → MarksDead z call h u n w → Writes call of Remove (Some before) None x v w
  removal_writes n w t = ended (mark_dead h) refl n w t (removal u.numbers.number call own) refl
      (ap (λ (i : PassState). i.knowledge) t.after ∙ removal_knowledge call (memory z t.table.words) (map knowledge_of t.table.states) u h own own_held)
      refl refl refl
      (ap (λ (i : PassState). i.findings.fulls) t.after, ap (λ (i : PassState). i.findings.swept) t.after, ap (λ (i : PassState). i.findings.gones) t.after, ap (λ (i : PassState). i.findings.sights) t.after, ap (λ (i : PassState). i.findings.rebalances) t.after)
      Remove None refl refl

  -- the pass buries it then
  abbrev own_buried : HeldHeader
  own_buried = record own { held_as = Buried }

  buried_held : (w : PassState) → w.headers.held ≡ buried_at h u.headers.held → held_header h w.headers.held ≡ Some own_buried
  buried_held w e = ap (held_header h) e ∙ (row_mapped (λ (r : HeldHeader). record r { held_as = cond (r.header == h) Buried r.held_as }) (λ _. refl) h own u.headers.held own_held
      ∙ ap (λ (b : _). Some (record own { held_as = cond b Buried own.held_as })) (eq-eqb own.header h (held_row h v.headers.held l.lock.row.header l.lock.row.held).1))

  -- and the key's entry names it still
  pub buries_of : (n : ℕ) (w : PassState) → MarksDead z call h u n w → HasBuried z h g x w → w.headers.held ≡ buried_at h u.headers.held → BuriesLife of h g x true w
  buries_of n w t has e = record {
    header = own_buried;
    held = buried_held w e;
    buried = refl;
    generation = sym (generation_of_row h own_buried w.headers.held (buried_held w e)) ∙ has.generation;
    key_is = l.key_is;
    stamp_is = refl;
    named_is = (lock_is z t.table t.rule t.seat u t.here h own own_held l.lock.row.at l.lock.row.locked).flag;
  }

-- nothing was changed: the pass learns nothing
pub give_up_learns : (z : Sizes) (call h g : ℕ) (kind : Kind) (v : PassState) (l : HasLock z h g v) (n : ℕ) (w : PassState) → Unlocks z call h kind v n w → w.knowledge ≡ v.knowledge
give_up_learns z call h g kind v l n w t = ap (λ (i : PassState). i.knowledge) t.after ∙ unchanged_knowledge call (memory z t.table.words) (map knowledge_of t.table.states) v h l.row.header l.row.held kind l.row.at l.row.locked l.unstamped
