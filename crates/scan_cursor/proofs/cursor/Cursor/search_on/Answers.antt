use Rattle.std.proofs.Common.{Bool, List, ℕ, refl, sym, subst}
use Rattle.oak_model.specs.KeyNumber.{key_number}
use Rattle.oak_core.specs.Passes.{key as sizes, state}
use Rattle.oak_core.proofs.seats.AloneRuns.{runs_as}
use Rattle.chunk_ops.specs.AddsAlone.{Never}
use Rattle.scan_cursor.specs.declared.walking.Stepped.TheVariants.{Again}
use Rattle.scan_cursor.specs.Busy.{AreInVain}
use Rattle.scan_cursor.specs.Cursors.{Advances, course, under, view_under}
use Rattle.scan_cursor.specs.Leaving.{LeavesValue}
use Rattle.scan_cursor.specs.Walks.{MayGoOn, WalkSteps, WalksOrEnds, course_of, view_at}
use Rattle.scan_cursor.proofs.ReadingViews.{later_self}
use Rattle.scan_cursor.proofs.CursorLaws.{here_idle, here_own, here_still, left_goes_on, on_advances, on_later, on_leaves, up_gives, up_later, up_never}
use Rattle.scan_cursor.proofs.cursor.Cursor.search_on.Goals as goal

pub try_walk-found-requires-clause-on : goal.try_walk-found-requires-clause-on
try_walk-found-requires-clause-on c = let n = c.args.self.now in let q = c.requires in
    subst (λ (p : List ℕ × List ℕ). MayGoOn n.way p.0 p.1 n.table.now n.walk n.pass.now) (λ j. (sym c.as_slice.ensures j, sym c.as_slice-2.ensures j))
    (left_goes_on n n q.cursor refl refl refl refl refl q.none (here_own n) (here_idle n q.cursor q.none) (later_self (view_under n)) (here_still n q.none) q.going)

pub returns-in-Ok-clause-later : goal.returns-in-Ok-clause-later
returns-in-Ok-clause-later c = let n = c.args.self.now in let q = c.requires in let t = c.try_walk-found in
    let goes = subst (λ (p : List ℕ × List ℕ). WalksOrEnds c.in-Ok.value n.way (key_number p.0) (key_number p.1) (course n) (course_of n.way (sizes n.table.now) t.new.walk t.new.pass)) (λ j. (c.as_slice.ensures j, c.as_slice-2.ensures j)) c.in-Ok.ensures.goes in
    on_later n n q.cursor refl refl refl refl refl q.none (here_own n) (here_idle n q.cursor q.none) (later_self (view_under n)) (here_still n q.none) (record n.pass { now = t.new.pass }) t.new.walk c.in-Ok.value goes

pub returns-in-Ok-clause-advances : goal.returns-in-Ok-clause-advances
returns-in-Ok-clause-advances c = let n = c.args.self.now in let q = c.requires in let t = c.try_walk-found in
    let goes = subst (λ (p : List ℕ × List ℕ). WalksOrEnds c.in-Ok.value n.way (key_number p.0) (key_number p.1) (course n) (course_of n.way (sizes n.table.now) t.new.walk t.new.pass)) (λ j. (c.as_slice.ensures j, c.as_slice-2.ensures j)) c.in-Ok.ensures.goes in
    subst (λ (b : Bool). Advances b c.args.self.now (record n { pass = record n.pass { now = t.new.pass }; walk = t.new.walk; value = c.in-Ok.value })) (sym c.is_some.ensures) (on_advances n n q.cursor refl refl refl refl refl q.none (here_own n) (here_idle n q.cursor q.none) (later_self (view_under n)) (here_still n q.none) (record n.pass { now = t.new.pass }) t.new.walk c.in-Ok.value goes c.in-Ok.ensures.still)

pub returns-in-Ok-clause-still : goal.returns-in-Ok-clause-still
returns-in-Ok-clause-still c = let n = c.args.self.now in let q = c.requires in let t = c.try_walk-found in
    on_leaves n n q.cursor refl refl refl refl refl q.none (here_own n) (here_idle n q.cursor q.none) (later_self (view_under n)) (here_still n q.none) (record n.pass { now = t.new.pass }) t.new.walk c.in-Ok.value c.in-Ok.ensures.still

-- it gave up

pub returns-in-Err-clause-later : goal.returns-in-Err-clause-later
returns-in-Err-clause-later c = let n = c.args.self.now in let q = c.requires in let t = c.try_walk-found in
    let waits = subst (λ (p : List ℕ × List ℕ). WalkSteps Again n.way (key_number p.0) (key_number p.1) (course n) (course_of n.way (sizes n.table.now) t.new.walk t.new.pass)) (λ j. (c.as_slice.ensures j, c.as_slice-2.ensures j)) c.in-Err.ensures.waits in
    up_later n n q.cursor refl refl refl refl refl q.none (here_own n) (here_idle n q.cursor q.none) (later_self (view_under n)) (here_still n q.none) (record n.pass { now = t.new.pass }) t.new.walk waits

pub returns-in-Err-clause-busy : goal.returns-in-Err-clause-busy
returns-in-Err-clause-busy c = let n = c.args.self.now in let q = c.requires in let t = c.try_walk-found in
    let waits = subst (λ (p : List ℕ × List ℕ). WalkSteps Again n.way (key_number p.0) (key_number p.1) (course n) (course_of n.way (sizes n.table.now) t.new.walk t.new.pass)) (λ j. (c.as_slice.ensures j, c.as_slice-2.ensures j)) c.in-Err.ensures.waits in
    let vain = subst (λ (p : List ℕ × List ℕ). AreInVain c.args.looks (key_number p.0) (key_number p.1) (view_under n) (view_at (sizes n.table.now) t.new.pass)) (λ j. (c.as_slice.ensures j, c.as_slice-2.ensures j)) c.in-Err.ensures.vain in
    up_gives n n q.cursor refl refl refl refl refl q.none (here_own n) (here_idle n q.cursor q.none) (later_self (view_under n)) (here_still n q.none) (record n.pass { now = t.new.pass }) t.new.walk waits c.in-Err.ensures.alone c.args.looks vain

pub returns-in-Err-clause-still : goal.returns-in-Err-clause-still
returns-in-Err-clause-still c = let n = c.args.self.now in let q = c.requires in let t = c.try_walk-found in
    let waits = subst (λ (p : List ℕ × List ℕ). WalkSteps Again n.way (key_number p.0) (key_number p.1) (course n) (course_of n.way (sizes n.table.now) t.new.walk t.new.pass)) (λ j. (c.as_slice.ensures j, c.as_slice-2.ensures j)) c.in-Err.ensures.waits in
    runs_as Never (LeavesValue (sizes n.table.now) n.value n.value) (under n) (state t.new.pass) (λ a b no. absurd no)
    (up_never n n q.cursor refl refl refl refl refl q.none (here_own n) (here_idle n q.cursor q.none) (later_self (view_under n)) (here_still n q.none) (record n.pass { now = t.new.pass }) t.new.walk waits c.in-Err.ensures.alone)
