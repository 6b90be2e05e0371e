use Rattle.chunk_index.specs.Lows.{comes_upto}
use Rattle.chunk_index.proofs.LowLaws.{last_is_greatest}
use Rattle.chunk_index.proofs.lows.Lows.hint.Goals as goal

pub returns : goal.returns
returns c =
    last_is_greatest (comes_upto c.args.key.now) c.args.self.now c.count_near-count.result c.room_before-room.result c.room_before-room.ensures.rising c.count_near-count.ensures.few c.count_near-count.ensures.point c.room_before-room.ensures.room
