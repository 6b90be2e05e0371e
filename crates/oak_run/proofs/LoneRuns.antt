-- A run of one thread, whose pass settles and scans its map behind its calls and closes it, fits.
use Rattle.std.proofs.Common.{List, [], ◌∷◌, None}
use Rattle.oak_model.specs.declared.replies.Pair.{Pair}
use Rattle.oak_model.specs.declared.replies.Reply.{Reply}
use Rattle.chunk_ops.specs.RoomPins.{HadMoment}
use Rattle.oak_core.specs.declared.closing.Closed.{Closed}
use Rattle.oak_core.specs.declared.states.PassState.{PassState}
use Rattle.oak_core.specs.Closing.{closed_key, closed_state, closed_words}
use Rattle.oak_core.specs.PassState.{HoldsNothing}
use Rattle.oak_core.specs.Splitting.{Ends}
use Rattle.scan_cursor.specs.declared.ways.Way.TheVariants.{Up}
use Rattle.scan_cursor.specs.Scanned.{HasScanned}
use Rattle.scan_cursor.specs.Views.{View}
use Rattle.oak_script.specs.declared.scripts.Call.{Call}
use Rattle.oak_map.specs.Closings.{UsesJustMap}
use Rattle.oak_run.specs.ClosedRuns.{closing_of}
use Rattle.oak_run.specs.MapThreads.{ThreadFits}
use Rattle.oak_run.specs.Reads.{IsOnlyThread, OnlyReads}
use Rattle.oak_run.specs.RunFits.{RunFits}
use Rattle.oak_run.proofs.ClosedRuns.{run_fits_alone}
use Rattle.oak_run.proofs.OnlyThreads.{only_still}
use Rattle.oak_run.proofs.ReadsLaws.{learns_reads, reads_then, seen_settled}

-- v is the state behind the calls, and the scan goes from one moment behind them to another; the pass that is closed only read since
pub lone_run_fits : (c : Closed) (v : PassState) (cs : List Call) (ys : List Reply) (before now : View) (finals : List Pair) → ThreadFits (closed_key c) v cs ys → IsOnlyThread v → OnlyReads v before.state → HadMoment (closed_key c) before.state → HasScanned Up None None before now finals
    → OnlyReads now.state (closed_state c) → HoldsNothing (closed_state c) → Ends (closed_key c) (closed_words c) (closed_state c) → UsesJustMap c → RunFits (closing_of c) (closed_key c) (cs ∷ []) (ys ∷ []) finals
lone_run_fits c v cs ys before now finals x only first had scan rest idle ends uses =
    let u : PassState = closed_state c in
    let last : OnlyReads before.state u = reads_then before.state now.state u (learns_reads before.call before.state now.state scan.later.learns) rest in
    let all : OnlyReads v u = reads_then v before.state u first last in
    let still : IsOnlyThread u = only_still v u all.numbers only in
    run_fits_alone c ends still.number still.idle v cs ys x all still.alone idle before now finals scan rest.extends rest.remembers
    (seen_settled (closed_key c) (closed_words c) before.state u had (only_still v before.state first.numbers only).alone last ends still.number still.idle) uses
