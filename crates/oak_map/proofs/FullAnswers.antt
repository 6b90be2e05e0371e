-- What a refused try tells a pass that is alone: what the words lacked its map lacks.
use Rattle.std.proofs.Common.{◌≡◌, ◌≢◌, ℕ, ◌⊎◌, inl, inr, true, List, length, Option, Some, None, sym, refl, ◌∙◌, subst}
use Rattle.oak_model.specs.declared.cells.CellCall.{CellCall}
use Rattle.oak_model.specs.declared.classes.Class.{Class}
use Rattle.oak_model.specs.declared.replies.Lack.{Lack}
use Rattle.oak_model.specs.declared.replies.Lack.TheVariants.{Block, Header}
use Rattle.oak_model.specs.declared.replies.Pair.{Pair}
use Rattle.oak_model.specs.declared.replies.Wrote.TheVariants.{Full}
use Rattle.oak_model.specs.Cell.{state_after}
use Rattle.oak_model.specs.Class.{class_of}
use Rattle.oak_model.specs.Key.{is_key}
use Rattle.oak_model.specs.Limits.{Sizes}
use Rattle.oak_model.specs.State.{State}
use Rattle.oak_core.specs.declared.states.PassState.{PassState}
use Rattle.oak_core.specs.PassState.{seen_of}
use Rattle.lone_counts.specs.LoneTable.{AllValued, LoneTable, retired_in}
use Rattle.lone_counts.specs.Maps.{IsMapOf, last_states}
use Rattle.lone_counts.proofs.TableCounts.{present_has_value}
use Rattle.point_ops.specs.LoneInserts.{HasClearFor, LacksKeyBlock, NoFree, NoneClearIn, SpareOnly}
use Rattle.point_ops.specs.LonePuts.{IsOpenIn}
use Rattle.point_ops.specs.Needs.{Needs, value_class}
use Rattle.oak_map.specs.LonePuts.{FullAsLacks, FullBy}
use Rattle.oak_map.proofs.FullCounts.{lacks_block, lacks_header, none_clear}
use Rattle.oak_map.proofs.LackLaws.{over_lacks}
use Rattle.oak_map.proofs.LoneStates.{states_same}
use Rattle.oak_map.proofs.RoomOfKey.{missing_valueless}

-- the cause of a want of a block of the class
abbrev pub WantsBlock : Sizes → ℕ → (key value : List ℕ) → Class → List ℕ → Type 0
WantsBlock z r key value k b = ((class_of (length value) ≡ Some k) × NoneClearIn z k b) ⊎ LacksKeyBlock z r key value k b

-- u is the state of the pass at the call, w the one behind the try, which changed the words b to c
module _ (z : Sizes) (key value : List ℕ) (ask : CellCall) (u w : PassState) (b c : List ℕ) (is : is_key key ≡ true) (makes : state_after None ask ≡ Some value)
    (table : LoneTable z c w) (seen : (q : ℕ) → seen_of q w.knowledge ≡ seen_of q u.knowledge) (spare : SpareOnly z b c) (all : AllValued z c) (m : List Pair) (has : IsMapOf (last_states u) m) where
  -- a key that holds something has its entry
  no_entry : {A : Type 0} (r : ℕ) (k : Class) (old : List ℕ) → IsOpenIn z r b → last_states u key ≡ Some old → LacksKeyBlock z r key value k b → A
  no_entry r k old o held l = absurd (missing_valueless z key w b c r is table spare o l.covers l.missing (present_has_value z c w key old table is (sym (states_same u w seen key) ∙ held)))

  none_of : (r : ℕ) (k : Class) (old : List ℕ) → IsOpenIn z r b → last_states u key ≡ Some old → WantsBlock z r key value k b → NoneClearIn z k b
  none_of r k old o held (inl n) = n.1
  none_of r k old o held (inr l) = no_entry r k old o held l

  module _ (N : Type 0) where
    -- of a value in place of another
    over_full : (r : ℕ) (k : Class) (old : List ℕ) → IsOpenIn z r b → last_states u key ≡ Some old → WantsBlock z r key value k b → (t : State) → value_class t ≡ Some k → class_of (length old) ≢ Some k → FullAsLacks z m (retired_in z c) key N (Some old) t (Full (Block k))
    over_full r k old o held cause None e ne = let n : None ≡ Some k = e in absurd cc
    over_full r k old o held cause (Some new) e ne = subst (λ (l : Option Lack). FullBy l ⊥ (Full (Block k))) (sym (over_lacks z m old new k e ne (none_clear z key value u w b c table seen spare all m has k (none_of r k old o held cause)))) refl

    block_full : (r : ℕ) (k : Class) → IsOpenIn z r b → WantsBlock z r key value k b → (Bare : Type 0) (s : State) → last_states u key ≡ s → Needs (Block k) key s (state_after s ask) Bare → FullAsLacks z m (retired_in z c) key N s (state_after s ask) (Full (Block k))
    block_full r k o cause Bare None e n = subst (λ (t : State). FullAsLacks z m (retired_in z c) key N None t (Full (Block k))) (sym makes)
        (subst (λ (l : Option Lack). FullBy l N (Full (Block k))) (sym (lacks_block z key value u w b c table seen spare all m has r k cause)) refl)
    block_full r k o cause Bare (Some old) e (inl n) = over_full r k old o e cause (state_after (Some old) ask) n.0 n.1
    block_full r k o cause Bare (Some old) e (inr n) = let f : Some old ≡ None = n.1 in absurd cc

    -- `Full`, for want of a block
    pub no_block : (r : ℕ) (k : Class) → IsOpenIn z r b → WantsBlock z r key value k b → (Bare : Type 0) (s : State) → last_states u key ≡ s → Needs (Block k) key s (state_after s ask) Bare → FullAsLacks z m (retired_in z c) key N (last_states u key) (state_after (last_states u key) ask) (Full (Block k))
    no_block r k o cause Bare s e n = subst (λ (t : State). FullAsLacks z m (retired_in z c) key N t (state_after t ask) (Full (Block k))) (sym e) (block_full r k o cause Bare s e n)

    -- or of a header
    pub no_header_left : NoFree z b → HasClearFor z (length value) b → last_states u key ≡ None → FullAsLacks z m (retired_in z c) key N (last_states u key) (state_after (last_states u key) ask) (Full Header)
    no_header_left none h e = subst (λ (t : State). FullAsLacks z m (retired_in z c) key N t (state_after t ask) (Full Header)) (sym e)
        (subst (λ (t : State). FullAsLacks z m (retired_in z c) key N None t (Full Header)) (sym makes) (subst (λ (l : Option Lack). FullBy l N (Full Header)) (sym (lacks_header z key value u w b c table seen spare all m has none h)) refl))
