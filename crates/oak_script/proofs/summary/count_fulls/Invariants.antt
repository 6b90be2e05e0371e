use Rattle.std.proofs.Common.{◌≡◌, ◌≤◌, take, count_by}
use Rattle.oak_script.specs.Summary.{is_full}
use Rattle.oak_script.proofs.summary.count_fulls.Given as goal

abbrev pub invariant-loop-reply : goal.invariant-loop-reply
invariant-loop-reply l = record {
  count : l.fulls ≡ count_by is_full (take l.reply-index l.replies);
  few : l.fulls ≤ l.reply-index;
}
