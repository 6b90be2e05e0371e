-- Searches for a block, one behind the other.
use Rattle.std.proofs.Common.{◌≡◌, ℕ, ◌<◌, ◌⊎◌, List, [], ◌∷◌, ◌++◌, refl, ap, ◌∙◌, subst, ⊎_elim}
use Rattle.oak_model.specs.declared.classes.Class.{Class}
use Rattle.oak_model.specs.Class.{class_number}
use Rattle.oak_model.specs.Limits.{Sizes}
use Rattle.oak_model.proofs.Lists.{each_append, each_map}
use Rattle.arena_core.specs.Arena.{blocks}
use Rattle.arena_core.specs.Blocks.{holds, block_from}
use Rattle.oak_core.specs.declared.states.PassState.{PassState}
use Rattle.oak_core.specs.Memory.{memory}
use Rattle.oak_core.specs.Finding.{had, grown, IsBefore, IsLoadOf}
use Rattle.arena_core.specs.ArenaStep.{take_bit}
use Rattle.oak_core.specs.ArenaCalls.{Sets}
use Rattle.oak_core.specs.Step.{on_arena}
use Rattle.oak_core.proofs.seats.AloneRuns.{Then, runs_then, runs_as, runs_none}
use Rattle.oak_core.proofs.calls.FoundThere.{found_first, found_later}
use Rattle.oak_core.proofs.calls.MetMore.{grown_twice, grown_none, told_of}
use Rattle.arena_ops.specs.Looking.{bit_spot, IsSetIn, AllSet, Looked}
use Rattle.arena_ops.specs.Taking.{SetsBit, Takes, TookThis}
use Rattle.arena_ops.proofs.TookFacts.{loads_took}

module _ (z : Sizes) (call : ℕ) (c : Class) where
  -- nothing was looked at
  pub looked_none : (v : PassState) (P : ℕ → Type 0) → ((b : ℕ) → P b → ⊥) → Looked z call c v v P
  looked_none v P empty = record {
    more = [];
    after = grown_none v;
    looks = tt;
    set = λ b lb p. absurd (empty b p);
    still = runs_none (AllSet z c P) v (λ a. (refl, λ b lb p. absurd (empty b p)));
  }

  pub looked_only : (v w : PassState) (P Q : ℕ → Type 0) → ((b : ℕ) → b < blocks z (class_number c) → Q b → P b) → Looked z call c v w P → Looked z call c v w Q
  looked_only v w P Q only l = record { more = l.more; after = l.after; looks = l.looks; set = λ b lb q. l.set b lb (only b lb q); still = runs_as (AllSet z c P) (AllSet z c Q) v w (λ a a' d. (d.0, λ b lb q. d.1 b lb (only b lb q))) l.still }

  pub looked_both : (v w x : PassState) (P Q : ℕ → Type 0) → Looked z call c v w P → Looked z call c w x Q → Looked z call c v x (λ b. P b ⊎ Q b)
  looked_both v w x P Q l k = record {
    more = l.more ++ k.more;
    after = k.after ∙ (ap (grown k.more) l.after ∙ grown_twice v l.more k.more);
    looks = each_append (IsLoadOf z call) l.more k.more l.looks k.looks;
    set = λ b lb. ⊎_elim (λ (p : P b). found_first z call (bit_spot c b) v l.more k.more _ (l.set b lb p)) (λ (q : Q b). found_later z call (bit_spot c b) v w l.more k.more _ (ap (had (bit_spot c b)) l.after) (k.set b lb q));
    still = runs_as (Then (AllSet z c P) (AllSet z c Q)) (AllSet z c (λ b. P b ⊎ Q b)) v x
        (λ a a' d. (d.2.0 ∙ d.1.0, λ b lb. ⊎_elim (λ (p : P b). d.1.1 b lb p) (λ (q : Q b). subst (IsSetIn z c b) d.1.0 (d.2.1 b lb q)))) (runs_then (AllSet z c P) (AllSet z c Q) v w x l.still k.still);
  }

  -- a block is taken behind what was looked at
  module _ (b : ℕ) (v w x : PassState) (P : ℕ → Type 0) (l : Looked z call c v w P) (t : Takes z call c b w x) where
    same : grown t.before w ≡ grown (l.more ++ t.before) v
    same = ap (grown t.before) l.after ∙ grown_twice v l.more t.before

    abbrev told_there : Sets z call c b (grown (l.more ++ t.before) v) t.number x
    told_there = told_of z call (on_arena (take_bit c b)) (grown t.before w) (grown (l.more ++ t.before) v) same t.number x t.told

    pub takes_behind : Takes z call c b v x
    takes_behind = record {
      inside = t.inside;
      before = l.more ++ t.before;
      looks = each_append (IsLoadOf z call) l.more t.before l.looks t.looks;
      number = t.number;
      clear = t.clear;
      told = told_there;
      free = t.free;
      still = runs_as (Then (AllSet z c P) (SetsBit z c b)) (SetsBit z c b) v x (λ a a' d. subst (λ (m : List ℕ). SetsBit z c b m a') d.1.0 d.2) (runs_then (AllSet z c P) (SetsBit z c b) v w x l.still t.still);
      unheld = subst (λ (y : PassState). holds (class_number c) b y.blocks ≡ 0) l.after t.unheld;
      more = l.more ++ t.more;
      calls = each_append (IsBefore z call) l.more t.more (each_map (IsLoadOf z call) (IsBefore z call) l.more (λ f k. (k.0, k.1)) l.looks) t.calls;
      own = each_append (TookThis c b) l.more t.more (loads_took z call c l.more l.looks b) t.own;
      after = t.after
          ∙ (ap (λ (y : PassState). record (grown t.more y) { blocks = record y.blocks { held = block_from (memory z t.told.table.words).arena.bytes c b ∷ y.blocks.held } }) l.after
          ∙ ap (λ (y : PassState). record y { blocks = record v.blocks { held = block_from (memory z t.told.table.words).arena.bytes c b ∷ v.blocks.held } }) (grown_twice v l.more t.more));
    }
