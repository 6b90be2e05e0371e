use Rattle.std.proofs.Common.{false, List, ℕ, Option, Some, None, refl, sym, subst}
use Rattle.oak_model.specs.KeyNumber.{key_number}
use Rattle.oak_core.specs.Passes.{key as sizes}
use Rattle.value_ops.specs.declared.pinned_value.PinnedValue.{PinnedValue}
use Rattle.scan_cursor.specs.declared.walking.Stepped.TheVariants.{Ended, Given, Passed}
use Rattle.scan_cursor.specs.Cursors.{Advances, course, under, view_under}
use Rattle.scan_cursor.specs.Walks.{MayGoOn, WalkSteps, course_of}
use Rattle.scan_cursor.proofs.ReadingViews.{later_both, later_self}
use Rattle.scan_cursor.proofs.CursorLaws.{here_idle, here_own, here_still, left_goes_on, on_advances, on_later, on_leaves}
use Rattle.scan_cursor.proofs.TriedLaws.{err_as, ok_as, passed_cursor, passed_gives, passed_tried, tried_advances}
use Rattle.scan_cursor.proofs.cursor.Cursor.take_next.Goals as goal

pub take_slot-requires-clause-on : goal.take_slot-requires-clause-on
take_slot-requires-clause-on c = let n = c.args.self.now in let q = c.requires in
    subst (λ (p : List ℕ × List ℕ). MayGoOn n.way p.0 p.1 n.table.now n.walk n.pass.now) (λ j. (sym c.as_slice-low.ensures j, sym c.as_slice-high.ensures j))
    (left_goes_on n n q.cursor refl refl refl refl refl q.none (here_own n) (here_idle n q.cursor q.none) (later_self (view_under n)) (here_still n q.none) q.going)

pub returns-in-Given-clause-later : goal.returns-in-Given-clause-later
returns-in-Given-clause-later c = let n = c.args.self.now in let q = c.requires in let t = c.take_slot in
    let steps = subst (λ (p : List ℕ × List ℕ). WalkSteps (Given c.in-Given.value) n.way (key_number p.0) (key_number p.1) (course n) (course_of n.way (sizes n.table.now) t.new.walk t.new.pass)) (λ j. (c.as_slice-low.ensures j, c.as_slice-high.ensures j)) c.in-Given.ensures.steps in
    on_later n n q.cursor refl refl refl refl refl q.none (here_own n) (here_idle n q.cursor q.none) (later_self (view_under n)) (here_still n q.none) (record n.pass { now = t.new.pass }) t.new.walk (Some c.in-Given.value) steps

pub returns-in-Given-clause-advances : goal.returns-in-Given-clause-advances
returns-in-Given-clause-advances c = let n = c.args.self.now in let q = c.requires in let t = c.take_slot in
    let steps = subst (λ (p : List ℕ × List ℕ). WalkSteps (Given c.in-Given.value) n.way (key_number p.0) (key_number p.1) (course n) (course_of n.way (sizes n.table.now) t.new.walk t.new.pass)) (λ j. (c.as_slice-low.ensures j, c.as_slice-high.ensures j)) c.in-Given.ensures.steps in
    on_advances n n q.cursor refl refl refl refl refl q.none (here_own n) (here_idle n q.cursor q.none) (later_self (view_under n)) (here_still n q.none) (record n.pass { now = t.new.pass }) t.new.walk (Some c.in-Given.value) steps c.in-Given.ensures.still

pub returns-in-Given-clause-still : goal.returns-in-Given-clause-still
returns-in-Given-clause-still c = let n = c.args.self.now in let q = c.requires in let t = c.take_slot in
    on_leaves n n q.cursor refl refl refl refl refl q.none (here_own n) (here_idle n q.cursor q.none) (later_self (view_under n)) (here_still n q.none) (record n.pass { now = t.new.pass }) t.new.walk (Some c.in-Given.value) c.in-Given.ensures.still

pub returns-in-Ended-clause-later : goal.returns-in-Ended-clause-later
returns-in-Ended-clause-later c = let n = c.args.self.now in let q = c.requires in let t = c.take_slot in
    let steps = subst (λ (p : List ℕ × List ℕ). WalkSteps Ended n.way (key_number p.0) (key_number p.1) (course n) (course_of n.way (sizes n.table.now) t.new.walk t.new.pass)) (λ j. (c.as_slice-low.ensures j, c.as_slice-high.ensures j)) c.in-Ended.ensures.steps in
    on_later n n q.cursor refl refl refl refl refl q.none (here_own n) (here_idle n q.cursor q.none) (later_self (view_under n)) (here_still n q.none) (record n.pass { now = t.new.pass }) t.new.walk None steps

pub returns-in-Ended-clause-advances : goal.returns-in-Ended-clause-advances
returns-in-Ended-clause-advances c = let n = c.args.self.now in let q = c.requires in let t = c.take_slot in
    let steps = subst (λ (p : List ℕ × List ℕ). WalkSteps Ended n.way (key_number p.0) (key_number p.1) (course n) (course_of n.way (sizes n.table.now) t.new.walk t.new.pass)) (λ j. (c.as_slice-low.ensures j, c.as_slice-high.ensures j)) c.in-Ended.ensures.steps in
    subst (λ (o : Option PinnedValue). Advances false n (record n { pass = record n.pass { now = t.new.pass }; walk = t.new.walk; value = o })) (sym q.none)
    (on_advances n n q.cursor refl refl refl refl refl q.none (here_own n) (here_idle n q.cursor q.none) (later_self (view_under n)) (here_still n q.none) (record n.pass { now = t.new.pass }) t.new.walk None steps c.in-Ended.ensures.still)

-- a slot was passed

pub search_on-requires-clause-cursor : goal.search_on-requires-clause-cursor
search_on-requires-clause-cursor c = let n = c.args.self.now in let q = c.requires in let t = c.take_slot in
    let steps = subst (λ (p : List ℕ × List ℕ). WalkSteps Passed n.way (key_number p.0) (key_number p.1) (course n) (course_of n.way (sizes n.table.now) t.new.walk t.new.pass)) (λ j. (c.as_slice-low.ensures j, c.as_slice-high.ensures j)) c.in-Passed.ensures.steps in
    passed_cursor n q.cursor q.none (record n.pass { now = t.new.pass }) t.new.walk c.in-Passed.ensures.own steps c.in-Passed.ensures.still

pub returns-in-Passed-clause-later : goal.returns-in-Passed-clause-later
returns-in-Passed-clause-later c = let n = c.args.self.now in let q = c.requires in let t = c.take_slot in
    let steps = subst (λ (p : List ℕ × List ℕ). WalkSteps Passed n.way (key_number p.0) (key_number p.1) (course n) (course_of n.way (sizes n.table.now) t.new.walk t.new.pass)) (λ j. (c.as_slice-low.ensures j, c.as_slice-high.ensures j)) c.in-Passed.ensures.steps in
    later_both (view_under n) (view_under (record n { pass = record n.pass { now = t.new.pass }; walk = t.new.walk })) (view_under c.search_on.new.self) steps.1.later c.search_on.ensures.later

pub returns-in-Passed-clause-advances : goal.returns-in-Passed-clause-advances
returns-in-Passed-clause-advances c = let n = c.args.self.now in let q = c.requires in let t = c.take_slot in
    let steps = subst (λ (p : List ℕ × List ℕ). WalkSteps Passed n.way (key_number p.0) (key_number p.1) (course n) (course_of n.way (sizes n.table.now) t.new.walk t.new.pass)) (λ j. (c.as_slice-low.ensures j, c.as_slice-high.ensures j)) c.in-Passed.ensures.steps in
    let m = record n { pass = record n.pass { now = t.new.pass }; walk = t.new.walk } in
    ok_as c.search_on.result _ _ (λ more a. tried_advances n m c.search_on.new.self (passed_tried n q.cursor q.none (record n.pass { now = t.new.pass }) t.new.walk c.in-Passed.ensures.own steps c.in-Passed.ensures.still) more a) c.search_on.ensures.advances

pub returns-in-Passed-clause-busy : goal.returns-in-Passed-clause-busy
returns-in-Passed-clause-busy c = let n = c.args.self.now in let q = c.requires in let t = c.take_slot in
    let steps = subst (λ (p : List ℕ × List ℕ). WalkSteps Passed n.way (key_number p.0) (key_number p.1) (course n) (course_of n.way (sizes n.table.now) t.new.walk t.new.pass)) (λ j. (c.as_slice-low.ensures j, c.as_slice-high.ensures j)) c.in-Passed.ensures.steps in
    err_as c.search_on.result _ _ (λ e g. passed_gives n q.cursor q.none (record n.pass { now = t.new.pass }) t.new.walk c.in-Passed.ensures.own steps c.in-Passed.ensures.still c.args.looks c.search_on.new.self g) c.search_on.ensures.busy

pub returns-in-Passed-clause-still : goal.returns-in-Passed-clause-still
returns-in-Passed-clause-still c = let n = c.args.self.now in let q = c.requires in let t = c.take_slot in
    let steps = subst (λ (p : List ℕ × List ℕ). WalkSteps Passed n.way (key_number p.0) (key_number p.1) (course n) (course_of n.way (sizes n.table.now) t.new.walk t.new.pass)) (λ j. (c.as_slice-low.ensures j, c.as_slice-high.ensures j)) c.in-Passed.ensures.steps in
    let tried = passed_tried n q.cursor q.none (record n.pass { now = t.new.pass }) t.new.walk c.in-Passed.ensures.own steps c.in-Passed.ensures.still in
    tried.still c.search_on.new.self.value (under c.search_on.new.self) c.search_on.ensures.still
