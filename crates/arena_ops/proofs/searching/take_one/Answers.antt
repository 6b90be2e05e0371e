use Rattle.std.proofs.Common.{◌≡◌, ◌%◌, ◌/◌, ◌∙◌, ℕ, ap, true, false, Bool, not, MatchBool}
use Rattle.std.specs.Int.{bit_at}
use Rattle.oak_core.specs.Passes.{key, call_of, state}
use Rattle.arena_ops.proofs.BitFacts.{set_before, now_taken}
use Rattle.arena_ops.proofs.LookLaws.{looked_only}
use Rattle.arena_ops.proofs.searching.take_one.Goals as goal

pub returns-clause-taken : goal.returns-clause-taken
returns-clause-taken c = λ e. now_taken (key c.args.table.now) (call_of c.args.pass.now) c.args.class (state c.args.pass.now) c.args.block c.set_bit-found.result (state c.set_bit-found.new.pass) c.requires.inside c.set_bit-found.ensures.told (clear_bit c.is_set.result _ _ c.is_set.ensures e)
  where
    clear_bit : (b : Bool) (P Q : Type 0) → MatchBool b P Q → not b ≡ true → Q
    clear_bit true P Q m e = absurd cc
    clear_bit false P Q m e = m

pub returns-clause-set : goal.returns-clause-set
returns-clause-set c = λ e. let set = is_one c.is_set.result _ _ c.is_set.ensures e in
    looked_only (key c.args.table.now) (call_of c.args.pass.now) c.args.class (state c.args.pass.now) (state c.set_bit-found.new.pass) _ (λ b. b ≡ c.args.block)
    (λ b lb q. (ap (λ (n : ℕ). n / 64) q, ap (λ (n : ℕ). bit_at c.set_bit-found.result (n % 64)) q ∙ set))
    (set_before (key c.args.table.now) (call_of c.args.pass.now) c.args.class (state c.args.pass.now) c.args.block c.set_bit-found.result (state c.set_bit-found.new.pass) c.requires.inside c.set_bit-found.ensures.told set)
  where
    is_one : (b : Bool) (P Q : Type 0) → MatchBool b P Q → not b ≡ false → P
    is_one true P Q m e = m
    is_one false P Q m e = absurd cc
