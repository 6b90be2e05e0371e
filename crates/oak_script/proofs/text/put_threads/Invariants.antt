use Rattle.std.proofs.Common.{◌≡◌, ◌+◌, ◌++◌, map, drop}
use Rattle.oak_script.specs.Stamps.{place_among}
use Rattle.oak_script.specs.Text.{threads_text}
use Rattle.oak_script.proofs.text.put_threads.Given as goal

abbrev pub invariant-loop-i : goal.invariant-loop-i
invariant-loop-i l =
    let p = place_among l.stamps.writes.items in
    l.out.items ++ threads_text p (l.i + 1) (map (λ v. v.items) (drop l.i l.threads)) (map (λ v. v.items) (drop l.i l.replies))
    ≡ l.initial.out.items ++ threads_text p 1 (map (λ v. v.items) l.threads) (map (λ v. v.items) l.replies)
