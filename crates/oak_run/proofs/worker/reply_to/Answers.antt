use Rattle.std.proofs.Common.{ℕ, List, refl, sym, subst}
use Rattle.oak_model.specs.declared.replies.Pair.{Pair}
use Rattle.oak_model.specs.declared.replies.Reply.TheVariants.{Pairs}
use Rattle.oak_script.specs.declared.scripts.Call.{Call}
use Rattle.oak_script.specs.declared.scripts.Call.TheVariants.{Back, Scan}
use Rattle.scan_cursor.specs.declared.ways.Way.TheVariants.{Down, Up}
use Rattle.scan_cursor.specs.Scanned.{HasScanned}
use Rattle.scan_cursor.specs.Views.{view_of}
use Rattle.oak_map.specs.Maps.{call_of, sizes, state}
use Rattle.oak_run.specs.HeldNames.{CallDid}
use Rattle.oak_run.specs.Views.{no_names}
use Rattle.oak_run.proofs.AskCalls.{call_did}
use Rattle.oak_run.proofs.OkLaws.{if_ok-map}
use Rattle.oak_run.proofs.ScanCalls.{scan_did}
use Rattle.oak_run.proofs.worker.reply_to.Goals as goal

pub returns-in-Put-clause-did : goal.returns-in-Put-clause-did
returns-in-Put-clause-did g c = rw c.in-Put.is (call_did _ _ _ _ _ _ _ (λ names t. refl) c.put.ensures.turned)

pub returns-in-Get-clause-did : goal.returns-in-Get-clause-did
returns-in-Get-clause-did g c = rw c.in-Get.is (if_ok-map _ _ c.get.result (λ y did. call_did _ _ _ _ _ _ _ (λ names t. refl) did) c.get.ensures.turned)

pub returns-in-PutNew-clause-did : goal.returns-in-PutNew-clause-did
returns-in-PutNew-clause-did g c = rw c.in-PutNew.is (call_did _ _ _ _ _ _ _ (λ names t. refl) c.put_new.ensures.turned)

pub returns-in-Compute-clause-numbers : goal.returns-in-Compute-clause-numbers
returns-in-Compute-clause-numbers g c = (c.compute.ensures.turned.turns no_names).turned.numbers

pub returns-in-Compute-clause-did : goal.returns-in-Compute-clause-did
returns-in-Compute-clause-did g c = rw c.in-Compute.is (call_did _ _ _ _ _ _ _ (λ names t. refl) c.compute.ensures.turned)

pub returns-in-Upsert-clause-did : goal.returns-in-Upsert-clause-did
returns-in-Upsert-clause-did g c = rw c.in-Upsert.is (call_did _ _ _ _ _ _ _ (λ names t. refl) c.upsert.ensures.turned)

pub returns-in-Remove-clause-numbers : goal.returns-in-Remove-clause-numbers
returns-in-Remove-clause-numbers g c = (c.remove.ensures.turned.turns no_names).turned.numbers

pub returns-in-Remove-clause-did : goal.returns-in-Remove-clause-did
returns-in-Remove-clause-did g c = rw c.in-Remove.is (call_did _ _ _ _ _ _ _ (λ names t. refl) c.remove.ensures.turned)

pub returns-in_ok-pairs-in-Scan-clause-did : goal.returns-in_ok-pairs-in-Scan-clause-did
returns-in_ok-pairs-in-Scan-clause-did g c = let z = sizes c.args.map.now in let n = call_of c.args.pass.now in let v = state c.args.pass.now in let w = state c.scanned.new.pass in let e = c.scanned.ensures in
    let low = c.in-Scan.low in let high = c.in-Scan.high in let pairs = c.in_ok-pairs-in-Scan.pairs.items in let holds = c.args.holds.now in
    let did : CallDid z n holds holds (Scan low high) (Pairs pairs) v w = scan_did Up low high z n v w pairs holds e.low e.high (subst (λ (m : ℕ). HasScanned Up low high (view_of z n v) (view_of z m w) pairs) e.call c.in_ok-pairs-in-Scan.ensures.scanned) in
    subst (λ (x : Call). CallDid z n holds holds x (Pairs c.of.result) v w) (sym c.in-Scan.is) (subst (λ (ps : List Pair). CallDid z n holds holds (Scan low high) (Pairs ps) v w) (sym c.of.ensures) did)

pub returns-in_ok-pairs-in-Back-clause-did : goal.returns-in_ok-pairs-in-Back-clause-did
returns-in_ok-pairs-in-Back-clause-did g c = let z = sizes c.args.map.now in let n = call_of c.args.pass.now in let v = state c.args.pass.now in let w = state c.scanned-in-Back.new.pass in let e = c.scanned-in-Back.ensures in
    let low = c.in-Back.low in let high = c.in-Back.high in let pairs = c.in_ok-pairs-in-Back.pairs.items in let holds = c.args.holds.now in
    let did : CallDid z n holds holds (Back low high) (Pairs pairs) v w = scan_did Down low high z n v w pairs holds e.low e.high (subst (λ (m : ℕ). HasScanned Down low high (view_of z n v) (view_of z m w) pairs) e.call c.in_ok-pairs-in-Back.ensures.scanned) in
    subst (λ (x : Call). CallDid z n holds holds x (Pairs c.of-in-Back.result) v w) (sym c.in-Back.is) (subst (λ (ps : List Pair). CallDid z n holds holds (Back low high) (Pairs ps) v w) (sym c.of-in-Back.ensures) did)
