-- What the holder of a lock may do at its end: the stamp that it stored is the next one, and the steps that end the lock may be made.
use Rattle.std.proofs.Common.{◌≡◌, ℕ, suc, ◌+◌, ◌-◌, ◌^◌, ◌<◌, cond, Bool, List, sym, refl, ap, ◌∙◌, subst, arith, Some, eq-eqb, lt-ltb, ◌==◌, true}
use mathlib.Core.Option.{some}
use lib.ListN.{get_elem?}
use Rattle.oak_model.specs.declared.writes.Kind.{Kind}
use Rattle.oak_model.specs.Counts.{Each}
use Rattle.oak_model.specs.Limits.{Sizes}
use Rattle.oak_model.proofs.Lists.{at_map}
use Rattle.oak_model.proofs.MemberLaws.{each_has}
use Rattle.header_core.specs.declared.holds.AtLock.{AtLock}
use Rattle.header_core.specs.declared.holds.HeldAs.{HeldAs}
use Rattle.header_core.specs.declared.holds.HeldAs.TheVariants.{Locked}
use Rattle.header_core.specs.declared.holds.HeldHeader.{HeldHeader}
use Rattle.header_core.specs.declared.states.TheConstants.{LOCKED}
use Rattle.header_core.specs.Headers.{at_stamp}
use Rattle.header_core.specs.HeaderStep.{unlock_header, mark_dead, stamped_at}
use Rattle.oak_core.specs.declared.states.Knowledge.{Knowledge}
use Rattle.oak_core.specs.declared.states.PassState.{PassState}
use Rattle.oak_core.specs.CallWrites.{MakesWrite}
use Rattle.oak_core.specs.KeyReads.{word_now, history_now, value_in}
use Rattle.oak_core.specs.KeyStates.{HoldStands, IsLockOf}
use Rattle.oak_core.specs.MadeWrites.{held_header}
use Rattle.oak_core.specs.MayWrite.{IsNewCall, MayEnd}
use Rattle.oak_core.specs.Memory.{in_headers, index, memory}
use Rattle.oak_core.specs.PassState.{headers_held}
use Rattle.oak_core.specs.Rule.{Rule}
use Rattle.oak_core.specs.TableState.{TableState}
use Rattle.oak_core.proofs.covers.SetsValue.{held_row}
use Rattle.oak_core.proofs.histories.WritesCounted.{writes_counted}
use Rattle.oak_core.proofs.held.HeldRowLaws.{row_mapped}
use Rattle.value_ops.specs.HeldValue.{stamp_held, value_held, value_locked, value_at_lock}
use Rattle.value_ops.specs.UnderLock.{HasLock, LockRow, IsUnchanged, IsAsAtLock, ComesTo, StoresNext, next_stamp}
use Rattle.value_ops.proofs.ComesFurther.{headers_come}
use Rattle.value_ops.proofs.LockRows.{stamp_of_row, place_of_row, words_of_row, value_of_row}
use Rattle.value_ops.proofs.StampStores.{held_stamp}
use Rattle.oak_model.specs.Cell.{is_write, reply_of, state_after}
use Rattle.oak_model.specs.KeyNumber.{key_number}

-- where the rule holds, the lock says what the key's history ends with
module _ (z : Sizes) (s : TableState) (r : Rule z s) (seat : ℕ) (v : PassState) (here : get_elem? s.states seat ≡ some v) (h : ℕ) (q : HeldHeader) (held : held_header h v.headers.held ≡ Some q) (at : AtLock) (locked : q.held_as ≡ Locked at) where
  pub lock_is : IsLockOf (word_now z (memory z s.words) s.states) (history_now s.states) at q
  lock_is = subst (λ (t : HeldAs). HoldStands (word_now z (memory z s.words) s.states) (history_now s.states) t q) locked
      (each_has (λ (t : HeldHeader). HoldStands (word_now z (memory z s.words) s.states) (history_now s.states) t.held_as t) v.headers.held q (r.keys.locks seat v.headers (at_map headers_held s.states seat v here)) (held_row h v.headers.held q held).0)

  -- stamps are small
  pub stamp_small : at.stamp < 2 ^ 39
  stamp_small = let few = writes_counted z (memory z s.words).given s.states r.sizes r.numbers r.callers r.spent in let l = lock_is.stamp in let b = r.bounds.stamps (key_number q.key) in omega arith

next_small : (n : ℕ) → n < 2 ^ 39 → next_stamp n ≡ n + 1
next_small n small = ap (λ (b : Bool). cond b (suc n) n) (lt-ltb n (2 ^ 64 - 1) (omega arith)) ∙ (let e : suc n ≡ n + 1 = omega arith in e)

-- the value that a locked header had is read off what it had at the lock
pub at_lock : (h : ℕ) (rs : List HeldHeader) (l : LockRow h rs) → value_locked h rs ≡ value_in l.at.place l.at.words
at_lock h rs l = value_of_row h l.header rs l.held ∙ ap value_at_lock l.locked

pub now_held : (h : ℕ) (rs : List HeldHeader) (q : HeldHeader) → held_header h rs ≡ Some q → value_held h rs ≡ value_in q.place q.words
now_held h rs q held = λ i. value_in (place_of_row h q rs held i) (words_of_row h q rs held i)

-- The stamp of the locked header was stored, one more than the one at the lock.
module _ (z : Sizes) (call h g x : ℕ) (v u : PassState) (l : HasLock z h g v) (next : StoresNext z call h x v u) (comes : ComesTo z call v.blocks.held (stamped_at h x v.headers.held) v u) where
  abbrev own : HeldHeader
  own = l.row.header

  pub is_next : x ≡ l.row.at.stamp + 1
  is_next = let n = held_stamp z call h LOCKED (index z (in_headers (at_stamp h))) next.number v next.between l.inside (omega arith) (omega arith) l.locked next.loads refl ∙ (stamp_of_row h own v.headers.held l.row.held ∙ l.unstamped) in
      next.next ∙ (ap next_stamp n ∙ next_small l.row.at.stamp (stamp_small z next.loads.told.table next.loads.told.rule next.loads.told.seat v next.loads.told.here h own l.row.held l.row.at l.row.locked))

  pub raised_by_one : x ≡ stamp_held h v.headers.held + 1
  raised_by_one = is_next ∙ ap (λ (n : ℕ). n + 1) (sym (stamp_of_row h own v.headers.held l.row.held ∙ l.unstamped))

  -- the record then
  abbrev pub raised : HeldHeader
  raised = record l.row.header { stamp = x }

  pub raised_held : held_header h u.headers.held ≡ Some (record l.row.header { stamp = x })
  raised_held = ap (held_header h) (headers_come z call v.blocks.held (stamped_at h x v.headers.held) v u comes) ∙ (row_mapped (λ (r : HeldHeader). record r { stamp = cond (r.header == h) x r.stamp }) (λ _. refl) h own v.headers.held l.row.held
      ∙ ap (λ (b : Bool). Some (record own { stamp = cond b x own.stamp })) (eq-eqb own.header h (held_row h v.headers.held own l.row.held).1))

  same_knowledge : u.knowledge ≡ v.knowledge
  same_knowledge = ap (λ (y : PassState). y.knowledge) comes.after

  pub new_then : IsNewCall call v → IsNewCall call u
  new_then new = subst (λ (q : Knowledge). (call < 2 ^ 32) × Each (λ w. w.write.call < call) q.mine) (sym same_knowledge) new

  not_still : x ≡ l.row.at.stamp → ⊥
  not_still e = let n = is_next in absurd (omega arith)

  pub may_write : (kind : Kind) → IsNewCall call v → MakesWrite kind (Some (value_locked h v.headers.held)) (Some (value_held h v.headers.held)) → MayEnd call (unlock_header h kind) u
  may_write kind new makes = record {
    header = raised;
    held = raised_held;
    at = l.row.at;
    locked = l.row.locked;
    may = record {
      still = λ e. absurd (not_still e);
      next = λ _. is_next;
      new = λ _. new_then new;
      writes = λ _. record {
        ask = makes.ask;
        kind = makes.kind_is;
        writes = subst (λ (b : List ℕ). is_write (reply_of (Some b) makes.ask) ≡ true) (at_lock h v.headers.held l.row) makes.writes;
        after = ap (λ (b : List ℕ). state_after (Some b) makes.ask) (sym (at_lock h v.headers.held l.row)) ∙ (makes.leaves ∙ ap (λ (b : List ℕ). Some b) (now_held h v.headers.held own l.row.held));
      };
    };
  }

  pub may_remove : IsNewCall call v → MayEnd call (mark_dead h) u
  may_remove new = record { header = raised; held = raised_held; at = l.row.at; locked = l.row.locked; may = record { next = is_next; new = new_then new } }

-- nothing was changed under the lock
pub may_give_up : (z : Sizes) (call h g : ℕ) (kind : Kind) (v : PassState) → HasLock z h g v → IsUnchanged h v.headers.held → MayEnd call (unlock_header h kind) v
may_give_up z call h g kind v l same = record {
  header = l.row.header;
  held = l.row.held;
  at = l.row.at;
  locked = l.row.locked;
  may = record { still = λ _. (as_was.0, as_was.2); next = λ ne. absurd (ne l.unstamped); new = λ ne. absurd (ne l.unstamped); writes = λ ne. absurd (ne l.unstamped) };
}
  where
    as_was : (l.row.header.place ≡ l.row.at.place) × (l.row.header.stamp ≡ l.row.at.stamp) × (l.row.header.words ≡ l.row.at.words)
    as_was = let t = held_row h v.headers.held l.row.header l.row.held in
        subst (λ (s : HeldAs). IsAsAtLock s l.row.header) l.row.locked (each_has (λ (r : HeldHeader). r.header ≡ h → IsAsAtLock r.held_as r) v.headers.held l.row.header same t.0 t.1)
