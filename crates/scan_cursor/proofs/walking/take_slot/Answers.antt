use Rattle.std.proofs.Common.{false, List, ℕ, sym, subst}
use Rattle.oak_model.specs.KeyNumber.{key_number}
use Rattle.oak_core.specs.Passes.{key as sizes}
use Rattle.scan_cursor.specs.declared.reading.Here.TheVariants.{Absent, Again, Present}
use Rattle.scan_cursor.specs.Marks.{IsBeyond}
use Rattle.scan_cursor.specs.Views.{IsKnown}
use Rattle.scan_cursor.proofs.RemainingLaws.{take_nearer}
use Rattle.scan_cursor.proofs.StepLaws.{here_as, slot_ends, slot_given, slot_is_known, slot_passed, slot_waits, slot_within}
use Rattle.scan_cursor.specs.Walks.{view_at}
use Rattle.scan_cursor.proofs.walking.take_slot.Goals as goal

pub is_past_end-requires-clause-within : goal.is_past_end-requires-clause-within
is_past_end-requires-clause-within c e = let q = c.requires in let n = c.next_slot-slot.ensures in
    subst (λ (k : List ℕ). IsBeyond c.args.way (key_number c.args.low.now) (key_number c.args.high.now) k → ⊥) (sym c.set_key.ensures)
    (slot_within c.args.way _ _ (sizes c.args.table.now) c.args.walk.now c.next_slot-slot.new.walk c.args.pass.now c.next_slot-slot.result.now n.mark n.gathered n.bound n.within n.few n.taken q.on.walk q.on.going q.past q.gathered e)

pub returns-then-is_past_end-clause-steps : goal.returns-then-is_past_end-clause-steps
returns-then-is_past_end-clause-steps c = let q = c.requires in let n = c.next_slot-slot.ensures in
    slot_ends c.args.way _ _ (sizes c.args.table.now) c.args.walk.now c.next_slot-slot.new.walk c.args.pass.now c.next_slot-slot.result.now n.mark n.gathered n.bound n.within n.few n.taken q.on.walk q.on.going q.past q.gathered c.set_key.new.key c.set_key.ensures q.on.idle
    (subst (IsBeyond c.args.way (key_number c.args.low.now) (key_number c.args.high.now)) c.set_key.ensures c.if-is_past_end.ensures)

pub read_life-requires-clause-known : goal.read_life-requires-clause-known
read_life-requires-clause-known c = let q = c.requires in let n = c.next_slot-slot.ensures in
    subst (λ (p : ℕ × ℕ). IsKnown p.0 p.1 (view_at (sizes c.args.table.now) c.args.pass.now)) (λ j. (sym c.header_in.ensures j, sym c.generation_in.ensures j))
    (slot_is_known c.args.way _ _ (sizes c.args.table.now) c.args.walk.now c.next_slot-slot.new.walk c.args.pass.now c.next_slot-slot.result.now n.mark n.gathered n.bound n.within n.few n.taken q.on.walk q.on.going q.past q.gathered)

pub returns-in-Present-clause-steps : goal.returns-in-Present-clause-steps
returns-in-Present-clause-steps c = let q = c.requires in let n = c.next_slot-slot.ensures in let e = c.in-Present.ensures in let key = c.set_key.ensures in
    slot_given c.args.way _ _ (sizes c.args.table.now) c.args.walk.now c.next_slot-slot.new.walk c.args.pass.now c.next_slot-slot.result.now n.mark n.gathered n.bound n.within n.few n.taken q.on.walk q.on.going q.past q.gathered c.read_life.new.pass c.set_key.new.key c.set_key.ensures
    e.own e.later (subst (λ (k : List ℕ). IsBeyond c.args.way (key_number c.args.low.now) (key_number c.args.high.now) k → ⊥) key c.if-is_past_end.ensures) c.in-Present.value (here_as (Present c.in-Present.value) _ _ _ _ _ _ c.header_in.ensures c.generation_in.ensures e.here)

pub returns-in-Absent-clause-steps : goal.returns-in-Absent-clause-steps
returns-in-Absent-clause-steps c = let q = c.requires in let n = c.next_slot-slot.ensures in let e = c.in-Absent.ensures in let key = c.set_key.ensures in
    slot_passed c.args.way _ _ (sizes c.args.table.now) c.args.walk.now c.next_slot-slot.new.walk c.args.pass.now c.next_slot-slot.result.now n.mark n.gathered n.bound n.within n.few n.taken q.on.walk q.on.going q.past q.gathered c.read_life.new.pass c.set_key.new.key c.set_key.ensures
    e.own e.later (subst (λ (k : List ℕ). IsBeyond c.args.way (key_number c.args.low.now) (key_number c.args.high.now) k → ⊥) key c.if-is_past_end.ensures) (here_as Absent _ _ _ _ _ _ c.header_in.ensures c.generation_in.ensures e.here)

pub returns-in-Again-clause-steps : goal.returns-in-Again-clause-steps
returns-in-Again-clause-steps c = let q = c.requires in let n = c.next_slot-slot.ensures in let e = c.in-Again.ensures in let key = c.set_key.ensures in
    slot_waits c.args.way _ _ (sizes c.args.table.now) c.args.walk.now c.next_slot-slot.new.walk c.args.pass.now c.next_slot-slot.result.now n.mark n.gathered n.bound n.within n.few n.taken q.on.walk q.on.going q.past q.gathered c.read_life.new.pass c.set_key.new.key c.set_key.ensures
    e.own e.later (subst (λ (k : List ℕ). IsBeyond c.args.way (key_number c.args.low.now) (key_number c.args.high.now) k → ⊥) key c.if-is_past_end.ensures) (here_as Again _ _ _ _ (view_at (sizes c.args.table.now) c.args.pass.now) (view_at (sizes c.args.table.now) c.read_life.new.pass) c.header_in.ensures c.generation_in.ensures e.here)

pub returns-in-Absent-clause-nearer : goal.returns-in-Absent-clause-nearer
returns-in-Absent-clause-nearer c is = let q = c.requires in let n = c.next_slot-slot.ensures in let x = c.next_slot-slot.new.walk in
    take_nearer c.args.way (key_number c.args.high.now) c.args.walk.now x x.mark.past c.set_key.new.key n.gathered n.bound q.gathered q.past n.fewer

pub returns-in-Again-clause-nearer : goal.returns-in-Again-clause-nearer
returns-in-Again-clause-nearer c is = let q = c.requires in let n = c.next_slot-slot.ensures in
    take_nearer c.args.way (key_number c.args.high.now) c.args.walk.now c.next_slot-slot.new.walk false c.set_key.new.key n.gathered n.bound q.gathered q.past n.fewer
