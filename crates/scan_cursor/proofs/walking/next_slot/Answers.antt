use Rattle.std.proofs.Common.{◌∙◌, ◌≤◌, [], length, sym, arith}
use Rattle.oak_core.specs.declared.sorting.SortSlot.{SortSlot}
use Rattle.scan_cursor.proofs.SlotLaws.{taken_down, taken_up}
use Rattle.scan_cursor.proofs.walking.next_slot.Goals as goal

pub returns-in-Up-clause-taken : goal.returns-in-Up-clause-taken
returns-in-Up-clause-taken c = let w = c.args.walk.now in let e = c.slots-slots.ensures in let d : SortSlot = record { words = []; length = 0; key = 0; value = 0 } in
    let long : w.to ≤ length c.slots-slots.result.now = let m = e.many in let f = c.requires.few in omega arith in
    rw c.in-Up.is (rw (sym (e.slots ∙ c.sorting.ensures)) (taken_up w.from w.to c.slots-slots.result.now d c.requires.some long))

pub returns-in-Down-clause-taken : goal.returns-in-Down-clause-taken
returns-in-Down-clause-taken c = let w = c.args.walk.now in let e = c.slots-slots.ensures in let d : SortSlot = record { words = []; length = 0; key = 0; value = 0 } in
    let long : w.to ≤ length c.slots-slots.result.now = let m = e.many in let f = c.requires.few in omega arith in
    rw c.in-Down.is (rw (sym (e.slots ∙ c.sorting.ensures)) (taken_down w.from w.to c.slots-slots.result.now d c.requires.some long))
