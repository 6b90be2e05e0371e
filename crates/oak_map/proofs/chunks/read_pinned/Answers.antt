use Rattle.std.proofs.Common.{ℕ, ◌∙◌, subst}
use Rattle.oak_core.specs.Passes.{call_of, key as sizes, state}
use Rattle.chunk_ops.specs.RoomPins.{Unpins}
use Rattle.chunk_ops.proofs.MeetingCalls.{only_both, only_in}
use Rattle.oak_map.proofs.chunks.read_pinned.Goals as goal

pub returns-clause-read : goal.returns-clause-read
returns-clause-read c = let z = sizes c.args.table.now in let call = call_of c.args.pass.now in let w = state c.args.pass.now in let x = state c.load_low-low.new.pass in let y = state c.load_high-high.new.pass in let u = state c.unpin.new.pass in
    let second = c.load_low-low.ensures.own.call in let third = c.load_high-high.ensures.own.call ∙ second in (
      y,
      only_both call w x y c.load_low-low.ensures.only (only_in call (call_of c.load_low-low.new.pass) x y second c.load_high-high.ensures.only),
      subst (λ (k : ℕ). Unpins z k c.args.pin.room y u) third c.unpin.ensures.unpinned,
    )
