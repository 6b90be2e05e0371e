use Rattle.std.proofs.Common.{map}
use Rattle.oak_script.proofs.StampLemmas.{place_among-sorted}
use Rattle.oak_script.proofs.places.Stamps.of.Goals as goal

pub returns : goal.returns
returns c =
    place_among-sorted c.args.script.now.threads (map (λ v. v.items) c.args.replies.now) c.in_ok-writes.writes.items c.sort_unstable.new.self.items
    (rw c.as_slice.ensures at c.in_ok-writes.ensures) c.sort_unstable.ensures.permutation
