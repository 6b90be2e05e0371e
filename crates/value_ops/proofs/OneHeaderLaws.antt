-- A pass that claims, fills and withdraws one header, and holds nothing else.
use Rattle.std.proofs.Common.{◌≡◌, ℕ, ◌<◌, ◌==◌, Bool, cond, List, [], ◌∷◌, sym, refl, ap, ◌∙◌, subst, arith, eq-eqb}
use Rattle.oak_model.specs.declared.classes.Class.{Class}
use Rattle.oak_model.specs.Class.{class_number}
use Rattle.oak_model.specs.Counts.{one_if, total}
use Rattle.oak_model.specs.Limits.{Sizes}
use Rattle.arena_core.specs.declared.blocks.HeldBlocks.{HeldBlocks}
use Rattle.arena_core.specs.Arena.{blocks}
use Rattle.arena_core.specs.HeldBlocks.{no_blocks}
use Rattle.arena_core.specs.Blocks.{is_block, holds, HoldsBlock, block_from, without, words_held}
use Rattle.arena_core.specs.Place.{place_word}
use Rattle.arena_core.proofs.HeldLists.{is_block-true, rewritten_same}
use Rattle.header_core.specs.declared.holds.HeldAs.TheVariants.{Fresh}
use Rattle.header_core.specs.declared.holds.HeldHeader.{HeldHeader}
use Rattle.header_core.specs.declared.holds.HeaderHolds.{HeaderHolds}
use Rattle.header_core.specs.HeaderHolds.{no_headers, without_header}
use Rattle.header_core.specs.HeaderStep.{owned_at, placed_at, stamped_at, freshened}
use Rattle.oak_core.specs.declared.states.PassState.{PassState}
use Rattle.oak_core.specs.Memory.{memory}
use Rattle.oak_core.specs.PassState.{IsAlone, bare_state}
use Rattle.oak_core.proofs.seats.Alone.{numbers_alone}
use Rattle.arena_ops.specs.Taking.{Takes, Gives, Stores}
use Rattle.value_ops.specs.Claiming.{ClaimsHeader}
use Rattle.value_ops.specs.Filling.{ReleasesOwned, Fills, Withdraws}
use Rattle.value_ops.specs.HeldValue.{words_in}
use Rattle.value_ops.specs.OneHeader.{IsOneHeader, IsOneBlock, KeepsElse}

-- without its one header it has none, and so without its one block

pub without_one : (h : ℕ) (a : HeaderHolds) → IsOneHeader h a → record a { held = without_header h a.held } ≡ no_headers
without_one h a o = ap (λ (x : HeaderHolds). record x { held = without_header h x.held }) o.alone ∙ ap (λ (t : Bool). record no_headers { held = cond t [] (o.header ∷ []) }) (eq-eqb o.header.header h o.is)

pub without_block : (c : Class) (b : ℕ) (a : HeldBlocks) → IsOneBlock c b a → record a { held = without (class_number c) b a.held } ≡ no_blocks
without_block c b a o = ap (λ (x : HeldBlocks). record x { held = without (class_number c) b x.held }) o.alone ∙ ap (λ (t : Bool). record no_blocks { held = cond t [] (o.block ∷ []) }) o.is

pub one_holds : (z : Sizes) (c : Class) (b : ℕ) (a : HeldBlocks) → IsOneBlock c b a → b < blocks z (class_number c) → HoldsBlock z (class_number c) b a
unfolding total
one_holds z c b a o lt = let e : one_if (is_block (class_number c) b o.block) ≡ 1 = ap one_if o.is in record { held = subst (λ (x : HeldBlocks). 0 < holds (class_number c) b x) (sym o.alone) (omega arith); inside = lt }

-- the header after the stores and the opening
abbrev filled : ℕ → List ℕ → ℕ → ℕ → HeldHeader → HeldHeader
filled h words stamp place r = record {
  header = r.header;
  generation = r.generation;
  held_as = cond (r.header == h) Fresh r.held_as;
  key = r.key;
  named = r.named;
  place = cond (r.header == h) place r.place;
  stamp = cond (r.header == h) stamp r.stamp;
  words = cond (r.header == h) words r.words;
}

module _ (z : Sizes) (call : ℕ) (v w : PassState) where
  pub claimed_one : (h : ℕ) → v.headers ≡ no_headers → ClaimsHeader z call h v w → IsOneHeader h w.headers
  claimed_one h none t = record {
    header = owned_at (memory z t.told.table.words).headers h;
    alone = ap (λ (y : PassState). y.headers) t.after ∙ ap (λ (x : HeaderHolds). record x { held = owned_at (memory z t.told.table.words).headers h ∷ x.held }) none;
    is = refl;
  }

  pub claimed_else : (h : ℕ) → ClaimsHeader z call h v w → KeepsElse v w
  claimed_else h t = record { numbers = ap (λ (y : PassState). y.numbers) t.after; rooms = ap (λ (y : PassState). y.rooms) t.after }

  pub claimed_blocks : (h : ℕ) → ClaimsHeader z call h v w → w.blocks ≡ v.blocks
  claimed_blocks h t = ap (λ (y : PassState). y.blocks) t.after

  pub released_none : (h : ℕ) → IsOneHeader h v.headers → ReleasesOwned z call h v w → w.headers ≡ no_headers
  released_none h o t = ap (λ (y : PassState). y.headers) t.after ∙ without_one h v.headers o

  pub released_else : (h : ℕ) → ReleasesOwned z call h v w → KeepsElse v w
  released_else h t = record { numbers = ap (λ (y : PassState). y.numbers) t.after; rooms = ap (λ (y : PassState). y.rooms) t.after }

  pub taken_one : (c : Class) (b : ℕ) → v.blocks ≡ no_blocks → Takes z call c b v w → IsOneBlock c b w.blocks
  taken_one c b none t = record {
    block = block_from (memory z t.told.table.words).arena.bytes c b;
    alone = ap (λ (y : PassState). y.blocks) t.after ∙ ap (λ (x : HeldBlocks). record x { held = block_from (memory z t.told.table.words).arena.bytes c b ∷ x.held }) none;
    is = is_block-true (class_number c) b (block_from (memory z t.told.table.words).arena.bytes c b) refl refl;
  }

  pub taken_else : (c : Class) (b : ℕ) → Takes z call c b v w → KeepsElse v w
  taken_else c b t = record { numbers = ap (λ (y : PassState). y.numbers) t.after; rooms = ap (λ (y : PassState). y.rooms) t.after }

  pub taken_headers : (c : Class) (b : ℕ) → Takes z call c b v w → w.headers ≡ v.headers
  taken_headers c b t = ap (λ (y : PassState). y.headers) t.after

  pub filled_one : (h : ℕ) (c : Class) (b len stamp g : ℕ) → IsOneHeader h v.headers → Fills z call h c b len stamp g v w → IsOneHeader h w.headers
  filled_one h c b len stamp g o t = let words : List ℕ = words_held (class_number c) b v.blocks.held in let place : ℕ = place_word (class_number c) b len in record {
    header = filled h words stamp place o.header;
    alone = ap (λ (y : PassState). y.headers) t.after ∙ ap (λ (x : HeaderHolds). record x { held = freshened h words (stamped_at h stamp (placed_at h place x.held)) }) o.alone;
    is = o.is;
  }

  pub filled_none : (h : ℕ) (c : Class) (b len stamp g : ℕ) → IsOneBlock c b v.blocks → Fills z call h c b len stamp g v w → w.blocks ≡ no_blocks
  filled_none h c b len stamp g o t = ap (λ (y : PassState). y.blocks) t.after ∙ without_block c b v.blocks o

  pub filled_else : (h : ℕ) (c : Class) (b len stamp g : ℕ) → Fills z call h c b len stamp g v w → KeepsElse v w
  filled_else h c b len stamp g t = record { numbers = ap (λ (y : PassState). y.numbers) t.after; rooms = ap (λ (y : PassState). y.rooms) t.after }

  pub withdrawn_none : (h : ℕ) (c : Class) (b : ℕ) → IsOneHeader h v.headers → Withdraws z call h c b v w → w.headers ≡ no_headers
  withdrawn_none h c b o t = ap (λ (y : PassState). y.headers) t.after ∙ without_one h v.headers o

  pub withdrawn_one : (h : ℕ) (c : Class) (b : ℕ) → v.blocks ≡ no_blocks → Withdraws z call h c b v w → IsOneBlock c b w.blocks
  withdrawn_one h c b none t = record {
    block = record { class = c; number = b; words = words_in h v.headers.held };
    alone = ap (λ (y : PassState). y.blocks) t.after ∙ ap (λ (x : HeldBlocks). record x { held = record { class = c; number = b; words = words_in h v.headers.held } ∷ x.held }) none;
    is = is_block-true (class_number c) b (record { class = c; number = b; words = words_in h v.headers.held }) refl refl;
  }

  pub withdrawn_else : (h : ℕ) (c : Class) (b : ℕ) → Withdraws z call h c b v w → KeepsElse v w
  withdrawn_else h c b t = record { numbers = ap (λ (y : PassState). y.numbers) t.after; rooms = ap (λ (y : PassState). y.rooms) t.after }

  pub given_none : (c : Class) (b : ℕ) → IsOneBlock c b v.blocks → Gives z call c b v w → w.blocks ≡ no_blocks
  given_none c b o t = ap (λ (y : PassState). y.blocks) t.after ∙ without_block c b v.blocks o

  pub given_headers : (c : Class) (b : ℕ) → Gives z call c b v w → w.headers ≡ v.headers
  given_headers c b t = ap (λ (y : PassState). y.headers) t.after

  pub given_else : (c : Class) (b : ℕ) → Gives z call c b v w → KeepsElse v w
  given_else c b t = record { numbers = ap (λ (y : PassState). y.numbers) t.after; rooms = ap (λ (y : PassState). y.rooms) t.after }

-- a store leaves the block held
pub stored_held : (z : Sizes) (call : ℕ) (c : Class) (b k x : ℕ) (v w : PassState) → HoldsBlock z (class_number c) b v.blocks → Stores z call c b k x v w → HoldsBlock z (class_number c) b w.blocks
stored_held z call c b k x v w h t = record {
  held = subst (λ (y : PassState). 0 < holds (class_number c) b y.blocks) (sym t.after) (let e = rewritten_same (class_number c) b k x (class_number c) b v.blocks.held in let l = h.held in omega arith);
  inside = h.inside;
}

-- one behind the other

pub else_on : (v w x : PassState) → KeepsElse v w → KeepsElse w x → KeepsElse v x
else_on v w x a b = record { numbers = b.numbers ∙ a.numbers; rooms = b.rooms ∙ a.rooms }

pub one_same : (h : ℕ) (a b : HeaderHolds) → b ≡ a → IsOneHeader h a → IsOneHeader h b
one_same h a b e o = subst (IsOneHeader h) (sym e) o

-- the first pass is alone as long as it has no other number
pub alone_else : (v w : PassState) → v.numbers ≡ bare_state.numbers → w.numbers ≡ v.numbers → IsAlone w
alone_else v w first same = numbers_alone w (same ∙ first)
