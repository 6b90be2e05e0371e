use Rattle.std.proofs.Common.{◌≡◌, ◌+◌, ◌++◌, drop}
use Rattle.oak_script.specs.Stamps.{place_among}
use Rattle.oak_script.specs.Text.{thread_text}
use Rattle.oak_script.proofs.text.put_thread.Given as goal

abbrev pub invariant-loop-i : goal.invariant-loop-i
invariant-loop-i l =
    let p = place_among l.stamps.writes.items in
    l.out.items ++ thread_text p l.thread (l.i + 1) (drop l.i l.calls) (drop l.i l.replies) ≡ l.initial.out.items ++ thread_text p l.thread 1 l.calls l.replies
