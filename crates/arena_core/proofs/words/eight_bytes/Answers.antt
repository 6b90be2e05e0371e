use Rattle.std.proofs.Common.{◌≡◌, ℕ, ◌+◌, ◌-◌, take, drop, ap, ◌∙◌, arith, w64}
use Rattle.std.specs.Int.{from_be_bytes}
use Rattle.arena_core.proofs.words.eight_bytes.Goals as goal

pub returns : goal.returns
returns c = let from = c.args.from in let bytes = c.args.bytes.now in
    c.from_be_bytes.ensures ∙ ap (from_be_bytes w64) (c.copy_from_slice.ensures.after ∙ ap (λ (j : ℕ). take j (drop from bytes)) (let e : from + 8 - from ≡ 8 = omega arith in e))
