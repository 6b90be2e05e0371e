use Rattle.std.proofs.Common.{◌≡◌, ℕ, ◌+◌, ◌-◌, ◌*◌, ◌^◌, ◌<◌, length, refl, ap, ◌∙◌, subst, sym, arith, add-one}
use Rattle.arena_core.proofs.Shifts.{leading, leading_small, few_shifted}
use Rattle.arena_core.proofs.words.few_bytes.Goals as goal

-- what the bytes before the one at i make is below 2 ^ 56
small_before : (c : goal.In-loop-i) → c.loop-i.number < 2 ^ 56
small_before c = let few = c.requires.few in let l = c.loop-i-test.true in
    subst (λ (n : ℕ). n < 2 ^ 56) (sym c.loop-i.invariant) (leading_small c.args.bytes.now (λ k. (c.type_inv.bytes k).fits) c.loop-i.i (omega arith))

pub loop-i-init : goal.loop-i-init
unfolding leading
loop-i-init c = refl

pub overflow_mul-number : goal.overflow_mul-number
overflow_mul-number c = let s = small_before c in record { fits = omega arith }

pub overflow_add-number : goal.overflow_add-number
overflow_add-number c = let few = c.requires.few in let l = c.loop-i-test.true in
    let s = leading_small c.args.bytes.now (λ k. (c.type_inv.bytes k).fits) c.loop-i.i (omega arith) in let i = c.loop-i.invariant in let b = c.from.ensures in let x = (c.type_inv.bytes c.loop-i.i).fits in
    record { fits = omega arith }

pub loop-i-preserved : goal.loop-i-preserved
unfolding leading
loop-i-preserved c = rw add-one (ap (λ (n : ℕ). n * 256 + c.from.result) c.loop-i.invariant ∙ ap (λ (b : ℕ). leading c.args.bytes.now c.loop-i.i * 256 + b) c.from.ensures)

pub returns : goal.returns
returns c = let bs = c.args.bytes.now in let end = c.loop-i.auto.i-end in let past = c.loop-i-test.false in
    ap (λ (n : ℕ). n * 2 ^ (8 * (8 - length bs))) (c.loop-i.invariant ∙ ap (leading bs) (let e : c.loop-i.i ≡ length bs = omega arith in e)) ∙ few_shifted bs c.requires.some c.requires.few
