-- To a pass that is alone: a value that is made, or is not, and one that is given back.
use Rattle.std.proofs.Common.{◌≡◌, ◌∙◌, ℕ, List, sym, refl, ap, subst}
use Rattle.oak_model.specs.declared.classes.Class.{Class}
use Rattle.oak_model.specs.Class.{class_number}
use Rattle.oak_model.specs.Limits.{Sizes}
use Rattle.arena_core.proofs.PlaceLaws.{same_class}
use Rattle.arena_ops.specs.Looking.{AllSet}
use Rattle.arena_ops.specs.Taking.{ClearsBit, Gives}
use Rattle.chunk_core.specs.Spans.{Span}
use Rattle.header_core.specs.declared.states.TheConstants.{LIVE}
use Rattle.header_core.specs.Headers.{at_pin}
use Rattle.oak_core.specs.declared.states.PassState.{PassState}
use Rattle.oak_core.specs.AloneWords.{Runs}
use Rattle.oak_core.specs.Memory.{in_headers}
use Rattle.oak_core.specs.Usage.{is_free}
use Rattle.oak_core.proofs.seats.AloneRuns.{Then, runs_then, runs_as}
use Rattle.arena_core.specs.Place.{place_word}
use Rattle.value_ops.specs.Claiming.{ClaimsHeader, FindsNoneFree, NoneFree, OwnsPin}
use Rattle.value_ops.specs.Filling.{Fills, FillsWords, FreesPin, Withdraws}
use Rattle.point_ops.specs.LoneInserts.{GivesBackIn, IsOfBlock, MakesBlockIn, MakesBlockUnder, MakesFreshUnder, MakingHaltsIn, NamesBlock}
use Rattle.point_ops.specs.declared.halts.Halt.{Halt}
use Rattle.point_ops.specs.declared.halts.Halt.TheVariants.{NoBlock, NoHeader}
use Rattle.point_ops.proofs.LoneHeaders.{makes_header}
use Rattle.point_ops.proofs.LoneReturns.{block_returned}
use Rattle.point_ops.proofs.LoneWords.{but_none, but_same}

-- no block was taken
pub untaken_alone : (z : Sizes) (c : Class) (why : Halt) (v w : PassState) → why ≡ NoBlock c → Runs (AllSet z c (λ _. Unit {0})) v w → Runs (MakingHaltsIn why z c) v w
untaken_alone z c why v w e r = subst (λ (y : Halt). Runs (MakingHaltsIn y z c) v w) (sym e) (runs_as (AllSet z c (λ _. Unit {0})) (MakingHaltsIn (NoBlock c) z c) v w (λ a b d. (refl, d)) r)

module _ (z : Sizes) (r : ℕ) (c : Class) (b : ℕ) (v u w : PassState) (made : Runs (MakesBlockIn z r c b) v u) where
  -- a header was claimed and filled
  pub fresh_alone : (span : Span) → Runs (MakesBlockUnder z r span c b) v u → (call later h stamp len g : ℕ) (x : PassState) → ClaimsHeader z call h u w → Fills z later h c b len stamp g w x → Runs (MakesFreshUnder z r span h c b) v x
  fresh_alone span under call later h stamp len g x t f = let place : ℕ = place_word (class_number c) b len in let O : List ℕ → List ℕ → Type 0 = OwnsPin z h in let F : List ℕ → List ℕ → Type 0 = FillsWords z h place stamp in
      runs_as (Then (MakesBlockUnder z r span c b) (Then O F)) (MakesFreshUnder z r span h c b) v x
      (λ a d s. ((s.0, s.1.0, makes_header z h place stamp t.inside s.0 s.2.0 d (s.1.0.but.size ∙ s.1.0.wide) s.2.1 s.2.2), s.1.1))
      (runs_then (MakesBlockUnder z r span c b) (Then O F) v u x under (runs_then O F u w x t.still f.still))

  -- or none was free, and the block is given back
  pub unclaimed_alone : (call later : ℕ) (x : PassState) → FindsNoneFree z call u w → Gives z later c b w x → Runs (MakingHaltsIn NoHeader z c) v x
  unclaimed_alone call later x f g = let N : List ℕ → List ℕ → Type 0 = NoneFree z (λ _. Unit {0}) in let C : List ℕ → List ℕ → Type 0 = ClearsBit z c b in
      runs_as (Then (MakesBlockIn z r c b) (Then N C)) (MakingHaltsIn NoHeader z c) v x
      (λ a d s. let m = s.0 in let k = s.1 in let n = s.2.0 in (
        block_returned z r c b a m k m d (but_none z _ m) (subst (λ (ws : List ℕ). C ws d) s.2.1.0 s.2.2),
        (λ h lt. ap is_free (sym (but_same z (IsOfBlock c b) a m k.but (in_headers (at_pin h)) (λ e. e))) ∙ s.2.1.1 h lt tt),
        (b, k.inside, k.clear),
      ))
      (runs_then (MakesBlockIn z r c b) (Then N C) v u x made (runs_then N C u w x f.still g.still))

-- a header frees its block, which is given back
pub returned_alone : (z : Sizes) (call later h : ℕ) (e : Class) (n : ℕ) (v u w : PassState) → Withdraws z call h e n v u → Gives z later e n u w → (c : Class) (b : ℕ) → NamesBlock h c b v → Runs (GivesBackIn z h c b) v w
returned_alone z call later h e n v u w t g c b names = let same : e ≡ c = same_class e c (sym t.class_is ∙ names.0) in let as_many : n ≡ b = sym t.block_is ∙ names.1 in
    subst (λ (q : Class × ℕ). Runs (GivesBackIn z h q.0 q.1) v w) (λ i. (same i, as_many i)) (runs_then (FreesPin z h LIVE) (ClearsBit z e n) v u w t.still g.still)
