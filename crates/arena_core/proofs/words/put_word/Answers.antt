use Rattle.std.proofs.Common.{◌≡◌, ◌*◌, ◌+◌, ◌-◌, ◌/◌, ◌%◌, ◌^◌, ℕ, List, take, ap, ◌∙◌, arith, add-one}
use lib.ListN.{set}
use Rattle.arena_core.proofs.Shifts.{begin_over, step_over, end_over}
use Rattle.arena_core.proofs.words.put_word.Goals as goal

pub loop-j-init : goal.loop-j-init
loop-j-init c = (omega arith, begin_over c.args.out.now c.args.i c.args.word c.requires c.if-from-out.false)

pub loop-j-preserved : goal.loop-j-preserved
loop-j-preserved c = let i = c.args.i in let j = c.loop-j.j in let w = c.args.word in let begun = c.loop-j.invariant.0 in let byte : ℕ → ℕ = λ n. w / 2 ^ (8 * n) % 256 in (
  omega arith,
  ap (λ (n : ℕ). set c.loop-j.out j (byte n)) (let e : 8 * i + 8 - 1 - j ≡ 8 * i + 7 - j = omega arith in e)
      ∙ (ap (λ (xs : List ℕ). set xs j (byte (8 * i + 7 - j))) c.loop-j.invariant.1
      ∙ rw add-one (step_over c.args.out.now i w c.requires c.if-from-out.false j begun c.loop-j-test.true)),
)

pub returns-clause-put : goal.returns-clause-put
returns-clause-put c = let i = c.args.i in
    ap (take (8 * i + 8)) c.loop-j.invariant.1 ∙ end_over c.args.out.now i c.args.word c.requires c.if-from-out.false c.loop-j.j c.loop-j-test.false
