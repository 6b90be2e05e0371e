use Rattle.std.proofs.Common.{◌≡◌, ℕ, sym, ◌∙◌, subst, refl, arith}
use mathlib.Core.Logic.{dite}
use native.Mathlib.Decide.{ℕ_discrete}
use Rattle.oak_model.specs.Limits.{Sizes}
use Rattle.oak_model.specs.Counts.{total}
use Rattle.oak_model.proofs.Counting.{one_at-same}
use Rattle.oak_core.specs.declared.states.PassState.{PassState}
use Rattle.oak_core.specs.Passes.{state, key, call_of}
use Rattle.oak_core.specs.PassState.{bare_state, has_number, IsAlone}
use Rattle.oak_core.specs.Opening.{first_state}
use Rattle.oak_core.specs.Splitting.{SplitsOff}
use Rattle.oak_core.proofs.seats.Alone.{alone_again, numbers_alone}
use Rattle.table_tests.proofs.table.pass_tests.split_twice.Goals as goal

-- the number 0 is taken, so of two the other is 1
second_number : (z : Sizes) (call : ℕ) (v w x : PassState) → z.passes ≡ 2 → v ≡ first_state z 0 → SplitsOff z call v w x → x.numbers.number ≡ 1
unfolding total
second_number z call v w x two first off = (λ i. (off.new i).numbers.number) ∙ dite (ℕ_discrete off.number 0)
    (λ e. let none : has_number off.number bare_state.numbers ≡ 0 = subst (λ (y : PassState). has_number off.number y.numbers ≡ 0) first off.unowned in let o = one_at-same 0 off.number (sym e) in absurd (omega arith))
    (λ ne. let few = off.few in omega arith)

pub has_number_one-requires : goal.has_number_one-requires
has_number_one-requires g c = second_number (key c.args.table.now) (call_of c.args.pass.now) (state c.args.pass.now) _ (state c.in-Ok.other) c.requires.two c.requires.first c.in-Ok.ensures.split

pub returns-clause-alone : goal.returns-clause-alone
returns-clause-alone g c = subst IsAlone (sym c.join.ensures.joined) (alone_again (key c.args.table.now) (call_of c.args.pass.now) (state c.args.pass.now) (state c.split.new.self) (state c.in-Ok.other) (state c.split_no_more.new.pass) (state c.in-Ok.other) (numbers_alone (state c.args.pass.now) (λ i. (c.requires.first i).numbers)) c.in-Ok.ensures.split
    (λ i. (c.split_no_more.ensures.same.after i).numbers) refl)
