use Rattle.std.proofs.Common.{◌≡◌, List, sym, subst, rules}
use Rattle.left_right.specs.Handles.{pending, published}
use Rattle.chunk_index.specs.Lows.{Low, IsOnePerRoom, IsRising}
use Rattle.chunk_index.proofs.LowLaws.{published_still, rising_fold, rooms_fold}
use Rattle.chunk_index.proofs.writers.IndexWriter.set.Goals as goal

pub invariant_of-self-2 : goal.invariant_of-self-2
invariant_of-self-2 g c =
    let old = published c.append.new.self in
    let ps = pending c.append.new.self in
    let is : old ≡ published c.args.self.now.writer = search rules in
    let up : IsRising old = subst (λ (l : List Low). IsRising l) (sym is) c.args.self.now.rising in
    let one : IsOnePerRoom old = subst (λ (l : List Low). IsOnePerRoom l) (sym is) c.args.self.now.rooms in
    record {
      rising = published_still (λ l. IsRising l) c.publish.result old _ ps _ _ up (rising_fold old ps up) c.publish.ensures.values;
      rooms = published_still (λ l. IsOnePerRoom l) c.publish.result old _ ps _ _ one (rooms_fold old ps one) c.publish.ensures.values;
    }
