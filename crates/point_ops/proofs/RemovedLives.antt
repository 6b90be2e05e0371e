-- A life that was removed: its header was buried, cleared from the entry of its key, and taken back, and its block given back.
use Rattle.std.proofs.Common.{◌≡◌, ℕ, ◌<◌, ◌*◌, Bool, false, List, ◌∷◌, true, sym, refl, ap, ◌∙◌, subst, arith}
use Rattle.oak_model.specs.declared.classes.Class.{Class}
use Rattle.oak_model.specs.Counts.{one_at}
use Rattle.oak_model.specs.Limits.{Sizes}
use Rattle.oak_model.proofs.Counting.{one_at-same}
use Rattle.oak_model.proofs.MemberLaws.{total_has}
use Rattle.arena_core.specs.declared.blocks.HeldBlocks.{HeldBlocks}
use Rattle.arena_core.specs.HeldBlocks.{no_blocks}
use Rattle.arena_ops.specs.Taking.{Gives}
use Rattle.header_core.specs.declared.holds.HeldHeader.{HeldHeader}
use Rattle.header_core.specs.declared.states.TheConstants.{DEAD}
use Rattle.header_core.specs.HeaderHolds.{held_state, no_headers}
use Rattle.chunk_core.specs.declared.holds.RoomHolds.{RoomHolds}
use Rattle.chunk_core.specs.MayOnRooms.{FindsEntry}
use Rattle.chunk_ops.specs.PinRecords.{HasEntry, pin_or}
use Rattle.chunk_ops.specs.Setting.{Clears}
use Rattle.oak_core.specs.declared.states.PassState.{PassState}
use Rattle.oak_core.specs.CallSteps.{Stands}
use Rattle.oak_core.specs.HeldRows.{BuriesLife}
use Rattle.oak_core.specs.MayWrite.{IsUnnamed}
use Rattle.oak_core.proofs.calls.CallSteps.{stands_both, stands_in}
use Rattle.oak_core.proofs.covers.SetsValue.{held_row}
use Rattle.value_ops.specs.HeldValue.{words_in}
use Rattle.value_ops.specs.LockHistories.{LockOf, LocksKey}
use Rattle.value_ops.specs.Locking.{LocksHeader}
use Rattle.value_ops.specs.OneHeader.{IsOneHeader}
use Rattle.value_ops.specs.UnderLock.{Buries, HasBuried, Renews}
use Rattle.value_ops.proofs.LockRows.{generation_of_row, stamp_of_row}
use Rattle.value_ops.proofs.OneHeaderLaws.{given_headers, given_none}
use Rattle.point_ops.specs.Parts.{KeepsHeld}
use Rattle.point_ops.proofs.AloneHeld.{gave_stands, locked_one, none_without, one_block, one_mapped}
use Rattle.point_ops.proofs.LocksKept.{come_stands}

-- an entry that the pin found stays so where the pass holds the same rooms
entry_kept : (r i : ℕ) (k : List ℕ) (v w : PassState) → w.rooms ≡ v.rooms → HasEntry r i k v → HasEntry r i k w
entry_kept r i k v w e h = record { entry = h.entry; finds = subst (λ (a : RoomHolds). FindsEntry r i a (pin_or a.pin) h.entry) (sym e) h.finds; key_is = h.key_is }

-- the key's life that a pass buries is a header that it buries, and that no entry names once it was cleared

pub life_buried : (z : Sizes) (k : List ℕ) (h g stamp : ℕ) (named : Bool) (v : PassState) → h < z.headers → BuriesLife k h g stamp named v → HasBuried z h g stamp v
life_buried z k h g stamp named v inside b = record {
  inside = inside;
  buried = let row = held_row h v.headers.held b.header b.held in
      let t = total_has (λ (r : HeldHeader). one_at r.header h * one_at (held_state r.held_as) DEAD) v.headers.held b.header row.0 in
      let one : one_at b.header.header h * one_at (held_state b.header.held_as) DEAD ≡ 1 = (λ j. one_at-same b.header.header h row.1 j * one_at-same (held_state b.header.held_as) DEAD (ap held_state b.buried) j) in omega arith;
  generation = generation_of_row h b.header v.headers.held b.held ∙ b.generation;
  stamp_is = stamp_of_row h b.header v.headers.held b.held ∙ b.stamp_is;
}

pub life_unnamed : (k : List ℕ) (h g stamp : ℕ) (v : PassState) → BuriesLife k h g stamp false v → IsUnnamed h v.headers
life_unnamed k h g stamp v b = record { header = b.header; held = b.held; buried = b.buried; unnamed = b.named_is }

-- a lock of the key of an entry came to a burial of its life, of which the entry is known still
pub entry_buried : (z : Sizes) (call buried_at r i h g hb gb sb stamp : ℕ) (k : List ℕ) (v u w : PassState) → LocksKey z call k h g v u → u.rooms ≡ v.rooms → Buries z buried_at h g sb u w → ((of before : List ℕ) (s : ℕ) → LockOf z of h g before s u → BuriesLife of hb gb sb true w)
    → stamp ≡ sb → HasEntry r i k v → HasEntry r i k w × BuriesLife k hb gb stamp true w
entry_buried z call buried_at r i h g hb gb sb stamp k v u w locks rooms buried buries same has = (entry_kept r i k v w (ap (λ (y : PassState). y.rooms) buried.comes.after ∙ rooms) has, subst (λ (s : ℕ). BuriesLife k hb gb s true w) (sym same) (buries k locks.before locks.stamp locks.lock))

-- The header is named once more by the calls behind the burial, and so is the stamp.
module _ (z : Sizes) (buried_at cleared_at renewed_at given_at h g sb : ℕ) (k : List ℕ) (hb gb stamp : ℕ) (c : Class) (n : ℕ) (u w x y t : PassState) (buried : Buries z buried_at h g sb u w) (cleared : Clears cleared_at k hb gb stamp w x) (same : hb ≡ h) (renewed : Renews z renewed_at hb gb c n x y) (gave : Gives z given_at c n y t) where
  still_one : IsOneHeader h u.headers → IsOneHeader hb x.headers
  still_one o = subst (IsOneHeader hb) (sym cleared.headers) (one_mapped hb w.headers _ (λ r. refl) (subst (λ (j : ℕ). IsOneHeader j w.headers) (sym same)
      (subst (IsOneHeader h) (sym (ap (λ (q : PassState). q.headers) buried.comes.after)) (one_mapped h _ _ (λ r. refl) (one_mapped h u.headers _ (λ r. refl) o)))))

  removed_blocks : u.blocks ≡ no_blocks → t.blocks ≡ no_blocks
  removed_blocks none = given_none z given_at y t c n (one_block c n (words_in hb x.headers.held) y.blocks (ap (λ (q : PassState). q.blocks) renewed.comes.after
      ∙ ap (λ (a : HeldBlocks). record a { held = record { class = c; number = n; words = words_in hb x.headers.held } ∷ a.held }) (cleared.blocks ∙ (ap (λ (q : PassState). q.blocks) buried.comes.after ∙ none)))) gave

  -- all is held as before the lock, where nothing was
  pub removed_held : (call i j : ℕ) (v : PassState) → h ≡ i → LocksHeader z call i j v u → v.blocks ≡ no_blocks → v.headers ≡ no_headers → KeepsHeld v t
  removed_held call i j v is l blocks headers = record {
    blocks = removed_blocks (l.blocks ∙ blocks) ∙ sym blocks;
    headers = given_headers z given_at y t c n gave ∙ (ap (λ (q : PassState). q.headers) renewed.comes.after ∙ (none_without hb x.headers (still_one (locked_one z call i j h v u is headers l)) ∙ sym headers));
    rooms = ap (λ (q : PassState). q.rooms) gave.after ∙ (ap (λ (q : PassState). q.rooms) renewed.comes.after ∙ (cleared.rooms ∙ (ap (λ (q : PassState). q.rooms) buried.comes.after ∙ l.rooms)));
  }

  -- and behind the burial nothing was learned
  pub removed_stands : (call : ℕ) → cleared_at ≡ call → renewed_at ≡ call → given_at ≡ call → Stands call w t
  removed_stands call e d f = stands_both call w y t (stands_both call w x y (stands_in call cleared_at w x e cleared.stands) (stands_in call renewed_at x y d (come_stands z renewed_at _ _ x y renewed.comes))) (stands_in call given_at y t f (gave_stands z given_at c n y t gave))
