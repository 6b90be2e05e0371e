use Rattle.std.proofs.Common.{◌≡◌, ◌<◌, true, false, map, length, List, rules}
use Rattle.oak_script.specs.declared.limits.TheConstants.{GREATEST_CALLS, GREATEST_SCANS}
use Rattle.oak_script.specs.declared.scripts.Call.{Call}
use Rattle.oak_script.specs.Grammar.{is_scan}
use Rattle.oak_script.proofs.ThreadLemmas.{called-scan, called-other}
use Rattle.oak_script.proofs.calls.Calls.push.Goals as goal

pub invariant_of-self-then-is_scan-2 : goal.invariant_of-self-then-is_scan-2
invariant_of-self-then-is_scan-2 c =
    let s = c.self.inside in
    let threads : List (List Call) = map (λ v. v.items) s.threads.items in
    let some : 0 < length threads = search rules in
    let few : s.calls < GREATEST_CALLS = search rules in
    let is : is_scan c.args.call ≡ true = search rules in
    let scans : s.scans < GREATEST_SCANS = search rules in
    rw c.in_ok-push_to_last.ensures.ok (called-scan threads s.calls s.scans c.args.call is some c.self.invariant c.requires.call few scans)

pub invariant_of-self-else-is_scan-2 : goal.invariant_of-self-else-is_scan-2
invariant_of-self-else-is_scan-2 c =
    let s = c.self.inside in
    let threads : List (List Call) = map (λ v. v.items) s.threads.items in
    let some : 0 < length threads = search rules in
    let few : s.calls < GREATEST_CALLS = search rules in
    let is : is_scan c.args.call ≡ false = search rules in
    rw c.in_ok-push_to_last.ensures.ok (called-other threads s.calls s.scans c.args.call is some c.self.invariant c.requires.call few)

pub returns-then-is_scan-2-clause-fit : goal.returns-then-is_scan-2-clause-fit
returns-then-is_scan-2-clause-fit c =
    let s = c.self.inside in
    let threads : List (List Call) = map (λ v. v.items) s.threads.items in
    let some : 0 < length threads = search rules in
    let few : s.calls < GREATEST_CALLS = search rules in
    let is : is_scan c.args.call ≡ true = search rules in
    let scans : s.scans < GREATEST_SCANS = search rules in
    let counted = called-scan threads s.calls s.scans c.args.call is some c.self.invariant c.requires.call few scans in
    rw c.in_ok-push_to_last.ensures.ok counted.are

pub returns-else-is_scan-2-clause-fit : goal.returns-else-is_scan-2-clause-fit
returns-else-is_scan-2-clause-fit c =
    let s = c.self.inside in
    let threads : List (List Call) = map (λ v. v.items) s.threads.items in
    let some : 0 < length threads = search rules in
    let few : s.calls < GREATEST_CALLS = search rules in
    let is : is_scan c.args.call ≡ false = search rules in
    let counted = called-other threads s.calls s.scans c.args.call is some c.self.invariant c.requires.call few in
    rw c.in_ok-push_to_last.ensures.ok counted.are
