use Rattle.std.specs.Option.{option_copied}
use Rattle.chunk_index.specs.Lows.{comes_under}
use Rattle.chunk_index.proofs.LowLaws.{last_is_greatest}
use Rattle.chunk_index.proofs.lows.Lows.hint_under.Goals as goal

pub returns : goal.returns
returns c =
    last_is_greatest (comes_under (option_copied c.args.bound)) c.args.self.now c.count_under-count.result c.room_before-room.result c.room_before-room.ensures.rising c.count_under-count.ensures.few c.count_under-count.ensures.point c.room_before-room.ensures.room
