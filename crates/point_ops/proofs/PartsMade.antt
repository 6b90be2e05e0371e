-- What taking, storing, claiming, filling and giving back leave to a pass that held nothing before.
use Rattle.std.proofs.Common.{◌≡◌, ℕ, ◌+◌, cond, List, [], ◌∷◌, sym, refl, ap, ◌∙◌, subst, arith, true}
use Rattle.oak_model.specs.declared.classes.Class.{Class}
use Rattle.oak_model.specs.Class.{class_number}
use Rattle.oak_model.specs.Counts.{one_if, total, Each}
use Rattle.oak_model.specs.Limits.{Sizes}
use Rattle.oak_model.proofs.Counting.{test-cases}
use Rattle.oak_model.proofs.Lists.{each_map}
use Rattle.arena_core.specs.declared.blocks.HeldBlock.{HeldBlock}
use Rattle.arena_core.specs.declared.blocks.HeldBlocks.{HeldBlocks}
use Rattle.arena_core.specs.Blocks.{is_block, holds, HoldsBlock, without}
use Rattle.arena_core.specs.HeldBlocks.{no_blocks}
use Rattle.arena_core.proofs.HeldLists.{without_same}
use Rattle.header_core.specs.declared.holds.HeaderHolds.{HeaderHolds}
use Rattle.oak_core.specs.declared.states.Finding.{Finding}
use Rattle.oak_core.specs.declared.states.PassState.{PassState}
use Rattle.oak_core.specs.CallSteps.{Stands}
use Rattle.oak_core.specs.Finding.{IsBefore, IsOf, IsLoadOf, grown}
use Rattle.oak_core.specs.QuietSteps.{MetOnly, Quiet}
use Rattle.oak_core.proofs.calls.CallSteps.{stands_both, stands_in}
use Rattle.oak_core.proofs.calls.QuietCalls.{only_both, quiet_loads}
use Rattle.arena_ops.specs.Storing.{StoresBytes, given}
use Rattle.arena_ops.specs.Taking.{Takes, Gives, FindsNone}
use Rattle.value_ops.specs.Claiming.{ClaimsHeader, FindsNoneFree}
use Rattle.value_ops.specs.Filling.{Fills, Withdraws}
use Rattle.value_ops.specs.OneHeader.{IsOneBlock}
use Rattle.value_ops.proofs.OneHeaderLaws.{without_block, one_holds, taken_one, taken_headers, given_headers}
use Rattle.point_ops.specs.Inserts.{GivesAllBack, MakesBlock, TakesOnly}
use Rattle.point_ops.proofs.OwnSteps.{front_at, front_only, taken_only}

-- ---- what is held

-- a block that is held once, and without which none is held, is the only one
one_left : (c b : ℕ) (l : List HeldBlock) → without c b l ≡ [] → total (λ (h : HeldBlock). one_if (is_block c b h)) l ≡ 1 → (x : HeldBlock) × (l ≡ x ∷ []) × (is_block c b x ≡ true)
unfolding total
one_left c b [] none once = absurd (omega arith)
one_left c b (x ∷ xs) none once = test-cases (is_block c b x) (λ t. is_block c b x ≡ t → cond t (without c b xs) (x ∷ without c b xs) ≡ [] → one_if t + total (λ (h : HeldBlock). one_if (is_block c b h)) xs ≡ 1 → (y : HeldBlock) × (x ∷ xs ≡ y ∷ []) × (is_block c b y ≡ true))
    (λ _ is left first. (x, ap (λ (l : List HeldBlock). x ∷ l) (sym (without_same c b xs (omega arith)) ∙ left), is))
    (λ _ other left first. absurd (let e : total (λ (h : HeldBlock). one_if true) (x ∷ without c b xs) ≡ total (λ (h : HeldBlock). one_if true) [] = ap (total (λ (h : HeldBlock). one_if true)) left in omega arith)) refl none once

-- stores leave it the only one
pub stored_one : (c : Class) (b : ℕ) (a d : HeldBlocks) → IsOneBlock c b a → given c b d ≡ given c b a → holds (class_number c) b d ≡ holds (class_number c) b a → IsOneBlock c b d
unfolding total
stored_one c b a d o same often = record { block = left.0; alone = ap (λ (l : List HeldBlock). record no_blocks { held = l }) left.1; is = left.2 }
  where
    once : holds (class_number c) b a ≡ 1
    once = ap (holds (class_number c) b) o.alone ∙ (let e : one_if (is_block (class_number c) b o.block) ≡ 1 = ap one_if o.is in let f : one_if (is_block (class_number c) b o.block) + 0 ≡ 1 = omega arith in f)

    left : (x : HeldBlock) × (d.held ≡ x ∷ []) × (is_block (class_number c) b x ≡ true)
    left = one_left (class_number c) b d.held (ap (λ (x : HeldBlocks). x.held) (same ∙ without_block c b a o)) (often ∙ once)

-- ---- what each call leaves

-- the pass met more in the call, and maybe holds other blocks and headers
others_stand : (call : ℕ) (more : List Finding) (b : HeldBlocks) (h : HeaderHolds) (v w : PassState) → Each (λ (f : Finding). f.call ≡ call) more → w ≡ record (grown more v) { blocks = b; headers = h } → Stands call v w
others_stand call more b h v w calls after = subst (Stands call v) (sym after) (record { met = record { more = more; met = refl; calls = calls }; numbers = refl; knowledge = refl; fulls = refl; swept = refl; sights = refl; gones = refl; rebalances = refl })

module _ (z : Sizes) (call : ℕ) (v w : PassState) where
  called : (P : Finding → Type 0) (more : List Finding) → ((f : Finding) → P f → f.call ≡ call) → Each P more → Each (λ (f : Finding). f.call ≡ call) more
  called P more is each = each_map P (λ (f : Finding). f.call ≡ call) more is each

  pub taken_stands : (c : Class) (b : ℕ) → Takes z call c b v w → Stands call v w
  taken_stands c b t = others_stand call t.more _ _ v w (called (IsBefore z call) t.more (λ f o. o.0) t.calls) t.after

  pub given_stands : (c : Class) (b : ℕ) → Gives z call c b v w → Stands call v w
  given_stands c b t = others_stand call t.more _ _ v w (called (IsOf z call) t.more (λ f o. o.0) t.calls) t.after

  pub claimed_stands : (h : ℕ) → ClaimsHeader z call h v w → Stands call v w
  claimed_stands h t = others_stand call t.more _ _ v w (called (IsOf z call) t.more (λ f o. o.0) t.calls) t.after

  pub filled_stands : (h : ℕ) (c : Class) (b len stamp g : ℕ) → Fills z call h c b len stamp g v w → Stands call v w
  filled_stands h c b len stamp g t = others_stand call t.more _ _ v w (called (IsOf z call) t.more (λ f o. o.0) t.calls) t.after

  pub withdrawn_stands : (h : ℕ) (c : Class) (b : ℕ) → Withdraws z call h c b v w → Stands call v w
  withdrawn_stands h c b t = others_stand call t.more _ _ v w (called (IsOf z call) t.more (λ f o. o.0) t.calls) t.after

  -- a search that found nothing
  looked_back : (more : List Finding) → Each (IsLoadOf z call) more → w ≡ grown more v → GivesAllBack call v w
  looked_back more looks after = record {
    stands = others_stand call more v.blocks v.headers v w (called (IsLoadOf z call) more (λ f l. l.0) looks) after;
    blocks = ap (λ (y : PassState). y.blocks) after;
    headers = ap (λ (y : PassState). y.headers) after;
    rooms = ap (λ (y : PassState). y.rooms) after;
  }

  -- by loads alone
  pub untaken_quiet : (c : Class) → FindsNone z call c v w → Quiet v w
  untaken_quiet c f = quiet_loads z call v w record { more = f.more; loads = f.looks; after = f.after }

  pub untaken_back : (c : Class) → FindsNone z call c v w → GivesAllBack call v w
  untaken_back c f = looked_back f.more f.looks f.after

  pub unclaimed_back : FindsNoneFree z call v w → GivesAllBack call v w
  unclaimed_back f = looked_back f.more f.looks f.after

-- ---- a block is made

module _ (z : Sizes) (call : ℕ) (c : Class) (b : ℕ) (v u : PassState) (none : v.blocks ≡ no_blocks) (t : Takes z call c b v u) where
  pub taken_held : HoldsBlock z (class_number c) b u.blocks
  taken_held = one_holds z c b u.blocks (taken_one z call v u c b none t) t.inside

  pub block_made : (bytes : List ℕ) (at : ℕ) (w : PassState) → at ≡ call → StoresBytes z at c b bytes u w → holds (class_number c) b w.blocks ≡ holds (class_number c) b u.blocks → MakesBlock z call c b bytes v w
  block_made bytes at w same s often = record {
    stands = stands_both call v u w (taken_stands z call v u c b t) (stands_in call at u w same s.stands);
    headers = s.headers ∙ taken_headers z call v u c b t;
    rooms = s.rooms ∙ ap (λ (y : PassState). y.rooms) t.after;
    one = stored_one c b u.blocks w.blocks (taken_one z call v u c b none t) s.blocks often;
    has = s.has;
    own = only_both (TakesOnly z c b) v u w (taken_only v u z call c b t) (front_only u w z at c b s.own);
  }

-- ---- it is given back

module _ (z : Sizes) (call : ℕ) (c : Class) (b : ℕ) (u w : PassState) (at : ℕ) (same : at ≡ call) (left : given c b u.blocks ≡ no_blocks) (g : Gives z at c b u w) where
  pub back_stands : Stands call u w
  back_stands = stands_in call at u w same (given_stands z at u w c b g)

  pub back_blocks : w.blocks ≡ no_blocks
  back_blocks = ap (λ (y : PassState). y.blocks) g.after ∙ left

  pub back_headers : w.headers ≡ u.headers
  back_headers = given_headers z at u w c b g

  pub back_rooms : w.rooms ≡ u.rooms
  back_rooms = ap (λ (y : PassState). y.rooms) g.after

  pub back_front : MetOnly (IsOf z call) u w
  back_front = front_at z call at u w same record { more = g.more; met = ap (λ (y : PassState). y.findings.met) g.after; each = g.calls }
