-- A value that is made in a block and a header of its own, and one that is given back.
use Rattle.std.proofs.Common.{◌≡◌, ℕ, ◌*◌, List, take, length, sym, ap, ◌∙◌, subst, arith}
use Rattle.oak_model.specs.declared.classes.Class.{Class}
use Rattle.oak_model.specs.Class.{class_number}
use Rattle.oak_model.specs.Counts.{one_at}
use Rattle.oak_model.specs.Limits.{Sizes}
use Rattle.oak_model.specs.WordBytes.{bytes_of}
use Rattle.oak_model.proofs.Counting.{one_at-same}
use Rattle.oak_model.proofs.MemberLaws.{total_has}
use Rattle.arena_core.specs.declared.blocks.HeldBlocks.{HeldBlocks}
use Rattle.arena_core.specs.Blocks.{words_held}
use Rattle.arena_core.specs.HeldBlocks.{no_blocks}
use Rattle.header_core.specs.declared.holds.HeldHeader.{HeldHeader}
use Rattle.header_core.specs.declared.states.TheConstants.{LIVE}
use Rattle.header_core.specs.HeaderHolds.{IsFreshAt, held_state, no_headers}
use Rattle.oak_core.specs.declared.states.PassState.{PassState}
use Rattle.oak_core.specs.CallSteps.{Stands}
use Rattle.oak_core.specs.Finding.{IsOf}
use Rattle.oak_core.specs.HeldRows.{HasFresh}
use Rattle.oak_core.specs.QuietSteps.{MetOnly}
use Rattle.oak_core.proofs.calls.CallSteps.{stands_both, stands_in}
use Rattle.oak_core.proofs.calls.QuietCalls.{only_both}
use Rattle.oak_core.proofs.covers.SetsValue.{held_row}
use Rattle.arena_ops.specs.Storing.{given}
use Rattle.arena_ops.specs.Taking.{Gives}
use Rattle.value_ops.specs.Claiming.{ClaimsHeader, FindsNoneFree}
use Rattle.value_ops.specs.Filling.{Fills, Withdraws}
use Rattle.value_ops.specs.OneHeader.{IsOneBlock}
use Rattle.value_ops.proofs.OneHeaderLaws.{claimed_one, claimed_blocks, filled_one, filled_none, without_block}
use Rattle.point_ops.specs.Halting.{NoneFree}
use Rattle.point_ops.specs.Inserts.{GivesAllBack, MakesBlock, MakesFresh, TakesOnly}
use Rattle.point_ops.proofs.Composed.{free_in}
use Rattle.point_ops.proofs.OwnSteps.{front_at, front_only, only_in}
use Rattle.point_ops.proofs.InsertCauses.{none_free}
use Rattle.point_ops.proofs.PartsMade.{claimed_stands, filled_stands, given_stands, withdrawn_stands, unclaimed_back, back_stands, back_blocks, back_headers, back_rooms}

-- a header that is found fresh is one that the pass has so
pub fresh_there : (z : Sizes) (h g stamp : ℕ) (bytes : List ℕ) (v : PassState) → HasFresh z h g stamp bytes v → IsFreshAt h g v.headers
fresh_there z h g stamp bytes v f = let row = held_row h v.headers.held f.header f.held in let most = total_has (λ (r : HeldHeader). one_at r.header h * one_at r.generation g * one_at (held_state r.held_as) LIVE) v.headers.held f.header row.0 in
    let once : one_at f.header.header h * one_at f.header.generation g * one_at (held_state f.header.held_as) LIVE ≡ 1 = (λ j. one_at-same f.header.header h row.1 j * one_at-same f.header.generation g f.generation j * one_at-same (held_state f.header.held_as) LIVE (ap held_state f.fresh) j) in omega arith

-- ---- a header is claimed for a block that has the bytes

module _ (z : Sizes) (call : ℕ) (c : Class) (b : ℕ) (bytes : List ℕ) (v u w : PassState) (none : v.headers ≡ no_headers) (m : MakesBlock z call c b bytes v u) (at : ℕ) (same : at ≡ call) where
  -- and filled
  module _ (h : ℕ) (t : ClaimsHeader z at h u w) where
    kept : w.blocks ≡ u.blocks
    kept = claimed_blocks z at u w h t

    made : (stamp g later : ℕ) (x : PassState) → later ≡ call → HasFresh z h g stamp (take (length bytes) (bytes_of (words_held (class_number c) b w.blocks.held))) x → Fills z later h c b (length bytes) stamp g w x → MakesFresh z call h g stamp bytes v x
    made stamp g later x follows has f = record {
      stands = stands_both call v u x m.stands (stands_both call u w x (stands_in call at u w same (claimed_stands z at u w h t)) (stands_in call later w x follows (filled_stands z later w x h c b (length bytes) stamp g f)));
      blocks = filled_none z later w x h c b (length bytes) stamp g (subst (IsOneBlock c b) (sym kept) m.one) f;
      rooms = ap (λ (y : PassState). y.rooms) f.after ∙ (ap (λ (y : PassState). y.rooms) t.after ∙ m.rooms);
      one = filled_one z later w x h c b (length bytes) stamp g (claimed_one z at u w h (m.headers ∙ none) t) f;
      fresh = subst (λ (l : List ℕ). HasFresh z h g stamp l x) (ap (λ (a : HeldBlocks). take (length bytes) (bytes_of (words_held (class_number c) b a.held))) kept ∙ m.has.bytes_are) has;
    }

    -- no block was taken but that one
    pub only_made : (stamp g later : ℕ) (x : PassState) → Fills z later h c b (length bytes) stamp g w x → MetOnly (TakesOnly z c b) v x
    only_made stamp g later x f = only_in (TakesOnly z c b) v u w x m.own
        (front_only u w z at c b record { more = t.more; met = ap (λ (y : PassState). y.findings.met) t.after; each = t.calls })
        (front_only w x z later c b record { more = f.more; met = ap (λ (y : PassState). y.findings.met) f.after; each = f.calls })

    -- the number of the header is told again by the value
    pub value_made : (stamp g later : ℕ) (x : PassState) → later ≡ call → (n : ℕ) → n ≡ h → HasFresh z n g stamp (take (length bytes) (bytes_of (words_held (class_number c) b w.blocks.held))) x → Fills z later h c b (length bytes) stamp g w x → MakesFresh z call n g stamp bytes v x
    value_made stamp g later x follows n is has f = subst (λ (k : ℕ). MakesFresh z call k g stamp bytes v x) (sym is) (made stamp g later x follows (subst (λ (k : ℕ). HasFresh z k g stamp (take (length bytes) (bytes_of (words_held (class_number c) b w.blocks.held))) x) is has) f)

  -- or none was free, and the block is given back
  module _ (f : FindsNoneFree z at u w) (later : ℕ) (x : PassState) (follows : later ≡ call) (g : Gives z later c b w x) where
    looked : GivesAllBack call u w
    looked = subst (λ (k : ℕ). GivesAllBack k u w) same (unclaimed_back z at u w f)

    left : given c b w.blocks ≡ no_blocks
    left = ap (given c b) looked.blocks ∙ without_block c b u.blocks m.one

    gone : Stands call w x
    gone = back_stands z call c b w x later follows left g

    pub unmade_back : v.blocks ≡ no_blocks → GivesAllBack call v x
    unmade_back bare = record {
      stands = stands_both call v u x m.stands (stands_both call u w x looked.stands gone);
      blocks = back_blocks z call c b w x later follows left g ∙ sym bare;
      headers = back_headers z call c b w x later follows left g ∙ (looked.headers ∙ m.headers);
      rooms = back_rooms z call c b w x later follows left g ∙ (looked.rooms ∙ m.rooms);
    }

    pub unmade_free : NoneFree z call v x
    unmade_free = free_in call v u w x m.stands.met gone.met z (none_free z call u w (m.headers ∙ none) (subst (λ (k : ℕ). FindsNoneFree z k u w) same f))

-- ---- a value is given back

pub withdrawn_given : (z : Sizes) (call h : ℕ) (c : Class) (b : ℕ) (v u w : PassState) → Withdraws z call h c b v u → (at : ℕ) → at ≡ call → Gives z at c b u w → Stands call v w
withdrawn_given z call h c b v u w t at same g = stands_both call v u w (withdrawn_stands z call v u h c b t) (stands_in call at u w same (given_stands z at u w c b g))

-- by steps in front of the rooms that took no block
pub withdrawn_front : (z : Sizes) (call h : ℕ) (c : Class) (b : ℕ) (v u w : PassState) → Withdraws z call h c b v u → (at : ℕ) → at ≡ call → Gives z at c b u w → MetOnly (IsOf z call) v w
withdrawn_front z call h c b v u w t at same g = only_both (IsOf z call) v u w record { more = t.more; met = ap (λ (y : PassState). y.findings.met) t.after; each = t.calls }
    (front_at z call at u w same record { more = g.more; met = ap (λ (y : PassState). y.findings.met) g.after; each = g.calls })
