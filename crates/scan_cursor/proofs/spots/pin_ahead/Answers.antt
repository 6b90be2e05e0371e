use Rattle.std.proofs.Common.{Bool, List, ℕ, IfErr, IfOk, sym, subst}
use Rattle.std.proofs.lemmas.Result.{IfOk-weaker}
use Rattle.oak_model.specs.Limits.{Sizes}
use Rattle.oak_core.specs.Passes.{state, key, call_of}
use Rattle.chunk_ops.specs.AskedRanges.{CoversKey, EndsUnder}
use Rattle.chunk_ops.specs.RoomPins.{FoundMoved, PinsOpen}
use Rattle.scan_cursor.specs.declared.ways.Way.{Way}
use Rattle.scan_cursor.specs.declared.ways.Way.TheVariants.{Down}
use Rattle.scan_cursor.specs.Holding.{IsAhead}
use Rattle.scan_cursor.proofs.RoomSpots.{below_ahead, up_ahead, down_ahead, spot_later}
use Rattle.scan_cursor.proofs.VainLooks.{below_vain, covering_vain}
use Rattle.scan_cursor.proofs.spots.pin_ahead.Goals.{in_default-via-in-Down+else-mark, in_default-via-in_default}
use Rattle.scan_cursor.proofs.spots.pin_ahead.Goals as goal

pub returns-in-Down-clause-ahead : goal.returns-in-Down-clause-ahead
returns-in-Down-clause-ahead c = let z : Sizes = key c.args.table.now in let call = call_of c.args.pass.now in let v = state c.args.pass.now in let w = state c.pin_below.new.pass in let k : List ℕ = c.args.mark.now.key in
    IfOk-weaker c.pin_below.result (λ p. PinsOpen z call p.room (EndsUnder k) v w) (λ p. IsAhead z p.room c.args.way c.args.mark.now.past k w)
    (λ p o. subst (λ (way : Way). IsAhead z p.room way c.args.mark.now.past k w) (sym c.in-Down.is) (subst (λ (past : Bool). IsAhead z p.room Down past k w) (sym c.if-mark.true) (below_ahead z call p.room v w c.requires.idle k c.requires.key o)))
    (subst (λ (q : List ℕ). IfOk c.pin_below.result (λ p. PinsOpen z call p.room (EndsUnder q) v w)) c.as_slice.ensures c.pin_below.ensures.pinned)

pub returns-in_default-clause-ahead : goal.returns-in_default-clause-ahead
returns-in_default-clause-ahead c = let z : Sizes = key c.args.table.now in let call = call_of c.args.pass.now in let v = state c.args.pass.now in let w = state c.pin_covering.new.pass in let k : List ℕ = c.args.mark.now.key in
    IfOk-weaker c.pin_covering.result (λ p. PinsOpen z call p.room (CoversKey k) v w) (λ p. IsAhead z p.room c.args.way c.args.mark.now.past k w)
    (λ p o. elim c.in_default.branch [
      | in_default-via-in-Down+else-mark b ↦ subst (λ (way : Way). IsAhead z p.room way c.args.mark.now.past k w) (sym b.in-Down.is) (subst (λ (past : Bool). IsAhead z p.room Down past k w) (sym b.if-mark.false) (down_ahead z call p.room v w c.requires.idle k c.requires.key o))
      | in_default-via-in_default b ↦ subst (λ (way : Way). IsAhead z p.room way c.args.mark.now.past k w) (sym b.in_default.is) (up_ahead z call p.room v w c.requires.idle k c.requires.key c.args.mark.now.past o)
    ])
    (subst (λ (q : List ℕ). IfOk c.pin_covering.result (λ p. PinsOpen z call p.room (CoversKey q) v w)) c.as_slice-in_default.ensures c.pin_covering.ensures.pinned)

pub returns-in-Down-clause-later : goal.returns-in-Down-clause-later
returns-in-Down-clause-later c = spot_later (key c.args.table.now) (call_of c.args.pass.now) _ (state c.args.pass.now) (state c.pin_below.new.pass) c.pin_below.result c.pin_below.ensures.pinned c.pin_below.ensures.only

pub returns-in_default-clause-later : goal.returns-in_default-clause-later
returns-in_default-clause-later c = spot_later (key c.args.table.now) (call_of c.args.pass.now) _ (state c.args.pass.now) (state c.pin_covering.new.pass) c.pin_covering.result c.pin_covering.ensures.pinned c.pin_covering.ensures.only

pub returns-in-Down-clause-vain : goal.returns-in-Down-clause-vain
returns-in-Down-clause-vain c = let z : Sizes = key c.args.table.now in let call = call_of c.args.pass.now in let v = state c.args.pass.now in let w = state c.pin_below.new.pass in
    below_vain z call c.args.mark.now.key v w c.requires.idle c.pin_below.result (subst (λ (q : List ℕ). IfErr c.pin_below.result (λ _. FoundMoved z call (EndsUnder q) v w)) c.as_slice.ensures c.pin_below.ensures.moved) c.pin_below.ensures.alone

pub returns-in_default-clause-vain : goal.returns-in_default-clause-vain
returns-in_default-clause-vain c = let z : Sizes = key c.args.table.now in let call = call_of c.args.pass.now in let v = state c.args.pass.now in let w = state c.pin_covering.new.pass in
    covering_vain z call c.args.mark.now.key v w c.requires.idle c.pin_covering.result (subst (λ (q : List ℕ). IfErr c.pin_covering.result (λ _. FoundMoved z call (CoversKey q) v w)) c.as_slice-in_default.ensures c.pin_covering.ensures.moved) c.pin_covering.ensures.alone
