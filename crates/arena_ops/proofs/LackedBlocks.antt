-- A search that found no block shows that its class is lacking.
use Rattle.std.proofs.Common.{◌≡◌, ℕ, ◌+◌, ◌%◌, ◌/◌, ◌<◌, ◌≤◌, List, length, sym, ◌∙◌, subst, None, inl}
use Rattle.std.specs.Int.{bit_at}
use Rattle.std.proofs.lemmas.Nat.Bits.{bit_at-zero}
use mathlib.Core.Option.{some}
use lib.ListN.{get_elem?}
use Rattle.oak_model.specs.declared.classes.Class.{Class}
use Rattle.oak_model.specs.declared.replies.Lack.TheVariants.{Block}
use Rattle.oak_model.specs.Class.{class_number}
use Rattle.oak_model.specs.Key.{IsKey}
use Rattle.oak_model.specs.Limits.{Sizes}
use Rattle.arena_core.specs.Arena.{blocks}
use Rattle.arena_core.specs.HeldBlocks.{no_blocks, had_bits}
use Rattle.oak_model.proofs.Lists.{each_map}
use Rattle.oak_core.specs.declared.states.Finding.{Finding}
use Rattle.oak_core.specs.declared.states.PassState.{PassState}
use Rattle.oak_core.specs.Finding.{had, had_placed, IsLoadOf}
use Rattle.oak_core.specs.Lack.{FoundSet, KeySwept, Lacks}
use Rattle.oak_core.proofs.calls.FoundThere.{found_behind}
use Rattle.oak_core.proofs.calls.Lacked.{lacks_then}
use Rattle.arena_ops.specs.Looking.{bit_spot}
use Rattle.arena_ops.specs.Taking.{FindsNone}
use Rattle.arena_ops.proofs.TookFacts.{loads_but}

module _ (z : Sizes) (call : ℕ) (c : Class) (v w : PassState) (idle : v.blocks ≡ no_blocks) (bare : (k i : ℕ) → had_placed k i v.headers ≡ 0) (found : FindsNone z call c v w) where
  -- the pass held no block, and had none in a header
  had_none : (b : ℕ) → had (bit_spot c b) v ≡ 0
  unfolding Rattle.oak_model.specs.Counts.total
  had_none b = (λ i. had_bits (class_number c) (b / 64) (idle i) + bare (class_number c) (b / 64) i)

  set_for_all : (b : ℕ) → b < blocks z (class_number c) → FoundSet z (length v.findings.met) (length w.findings.met) w.findings.met c b
  set_for_all b lt = let f = found.set b lt tt in
      found_behind z call (bit_spot c b) v w found.more _ _ found.after f (f.shows, subst (λ (n : ℕ). bit_at n (b % 64) ≡ 0) (sym (f.had_is ∙ had_none b)) (bit_at-zero (b % 64)))

  -- so where the call swept every key before it, and met nothing of another call, it may be noted
  pub class_lacks : (began : ℕ) → began ≤ length v.findings.met → ((i : ℕ) (f : Finding) → began ≤ i → get_elem? v.findings.met i ≡ some f → f.call ≡ call)
      → ((k : List ℕ) → IsKey k → KeySwept began (length v.findings.met) v.findings.swept k) → Lacks z call (Block c) None began (length w.findings.met) w.findings
  class_lacks began le own swept = lacks_then z call v w found.more found.after (each_map (IsLoadOf z call) (λ (f : Finding). f.call ≡ call) found.more (λ f l. l.0) found.looks) (Block c) None began le own swept (λ b lt. inl (set_for_all b lt)) (loads_but z call c found.more found.looks None)
