-- What a map lacks in a table that is made for its keys: nothing.
use Rattle.std.proofs.Common.{◌≡◌, ℕ, zero, suc, ◌+◌, ◌≤◌, cond, Bool, List, ◌∷◌, length, Some, None, inl, inr, sym, ap, ◌∙◌, subst, arith}
use Rattle.std.proofs.lemmas.Bool.{cases_Bool}
use mathlib.Core.Option.{some-injective}
use Rattle.oak_model.specs.declared.cells.CellCall.{CellCall}
use Rattle.oak_model.specs.declared.classes.Class.{Class}
use Rattle.oak_model.specs.declared.replies.Pair.{Pair}
use Rattle.oak_model.specs.Cell.{state_after}
use Rattle.oak_model.specs.Class.{blocks_of, class_number, has_class}
use Rattle.oak_model.specs.Counts.{Every, one_if}
use Rattle.oak_model.specs.Key.{IsKey, is_key, same_key}
use Rattle.oak_model.specs.KeyNumber.{key_number}
use Rattle.oak_model.specs.Limits.{Sizes}
use Rattle.oak_model.specs.State.{State}
use Rattle.oak_model.proofs.KeyLaws.{is_key-is, same_is, same_itself}
use Rattle.arena_core.specs.Arena.{blocks}
use Rattle.oak_core.specs.declared.states.PassState.{PassState}
use Rattle.oak_core.specs.KeyHistories.{state_behind}
use Rattle.oak_core.specs.PassState.{seen_of}
use Rattle.lone_counts.specs.Lacks.{new_lack, over_lack}
use Rattle.lone_counts.specs.Maps.{last_states}
use Rattle.lone_counts.proofs.KeyBlocks.{IsShort, blocks_suffice, short_states}
use Rattle.lone_counts.proofs.MapChanges.{key_blocks, with_value}
use Rattle.oak_map.specs.RoomForKeys.{AreFew}
use Rattle.oak_map.proofs.LackLaws.{has_its_class, none_lacks, over_enough}

-- what holds something is a key
held_key : (v : PassState) (q b : List ℕ) → last_states v q ≡ Some b → IsKey q
held_key v q b e = elim (cases_Bool (is_key q)) [
  | inl is ↦ (is_key-is q is).0
  | inr none ↦ let n : last_states v q ≡ None = ap (λ (t : Bool). cond t (state_behind (seen_of (key_number q) v.knowledge)) None) none in let c : None ≡ Some b = sym n ∙ e in absurd cc
]

-- what holds of a new element and of those before holds of each
every_new : {A : Type 0} (P : A → Type 0) (x : A) (xs : List A) → P x → Every P xs → Every P (x ∷ xs)
every_new P x xs here all zero y e = subst P (some-injective x y e) here
every_new P x xs here all (suc i) y e = all i y e

module _ (z : Sizes) (key : List ℕ) (ask : CellCall) (v : PassState) (f : AreFew z key ask v) where
  abbrev IsShortHere : Pair → Type 0
  IsShortHere = IsShort f.key_bytes f.value_bytes

  all_short : Every IsShortHere f.map
  all_short i p there = let b = f.short i p there in ((held_key v p.key p.value (f.is_map.each i p there)).1, b.0, b.1)

  -- a map of so few pairs has its blocks
  blocks_there : (m : List Pair) → length m ≤ f.count → Every IsShortHere m → (c : Class) → blocks_of m c ≤ blocks z (class_number c)
  blocks_there m few all c = subst (λ (s : Sizes). blocks_of m c ≤ blocks s (class_number c)) (sym f.sizes) (blocks_suffice f.count f.key_bytes f.value_bytes f.passes m few all c)

  module _ (value : List ℕ) (makes : state_after (last_states v key) ask ≡ Some value) where
    abbrev pair : Pair
    pair = record { key = key; value = value; at = 0 }

    pair_short : IsShortHere pair
    pair_short = (f.is_key.1, f.key_short, f.value_short value makes)

    -- ---- a new key

    blocks_more : last_states v key ≡ None → (c : Class) → blocks_of f.map c + one_if (has_class c (length key)) + one_if (has_class c (length value)) ≤ blocks z (class_number c)
    blocks_more absent c = let l = f.fewer absent in subst (λ (n : ℕ). n ≤ blocks z (class_number c)) (key_blocks f.map pair c)
        (blocks_there (pair ∷ f.map) (omega arith) (every_new IsShortHere pair f.map pair_short all_short) c)

    pub new_lacks_none : last_states v key ≡ None → (retired : ℕ) → retired ≡ 0 → new_lack z f.map retired key value ≡ None
    new_lacks_none absent retired none = none_lacks z f.map retired key value
        (λ c e. let b = blocks_more absent c in let t : ℕ = one_if (has_class c (length value)) in let t' : t ≡ 1 = ap one_if (has_its_class c (length value) e) in omega arith)
        (λ e. let l = f.fewer absent in let h = ap (λ (s : Sizes). s.headers) f.sizes in absurd (omega arith))
        (λ c e. let b = blocks_more absent c in let t : ℕ = one_if (has_class c (length key)) in let t' : t ≡ 1 = ap one_if (has_its_class c (length key) e) in omega arith)

    -- ---- another value

    module _ (old : List ℕ) (present : last_states v key ≡ Some old) where
      -- what each key holds behind the call
      abbrev now : List ℕ → State
      now q = cond (same_key q key) (Some value) (last_states v q)

      now_short : (p : Pair) → now p.key ≡ Some p.value → IsShortHere p
      now_short p e = elim (cases_Bool (same_key p.key key)) [
        | inl same ↦ let w : Some value ≡ Some p.value = sym (ap (λ (b : Bool). cond b (Some value) (last_states v p.key)) same) ∙ e in let x : value ≡ p.value = cc in let k = sym (same_is p.key key same) in
            (subst (λ (q : List ℕ). length q ≤ 64) k pair_short.0, subst (λ (q : List ℕ). length q ≤ f.key_bytes) k pair_short.1, subst (λ (b : List ℕ). length b ≤ f.value_bytes) x pair_short.2)
        | inr other ↦ short_states f.key_bytes f.value_bytes (last_states v) f.map f.is_map all_short p.key p.value (sym (ap (λ (b : Bool). cond b (Some value) (last_states v p.key)) other) ∙ e)
      ]

      pub over_lacks_none : over_lack z f.map old value ≡ None
      over_lacks_none = over_enough z f.map old value (λ c e other.
          let n = with_value (last_states v) now f.map key old value f.is_map present (ap (λ (b : Bool). cond b (Some value) (last_states v key)) (same_itself key)) (λ q apart. ap (λ (b : Bool). cond b (Some value) (last_states v q)) apart) in
          let l = n.2 in let k = f.few in let b = blocks_there n.0 (omega arith) (λ i p there. now_short p (n.1.each i p there)) c in
          let s = n.3 c in let t : ℕ = one_if (has_class c (length value)) in let t' : t ≡ 1 = ap one_if (has_its_class c (length value) e) in
          let u : ℕ = one_if (has_class c (length old)) in let u' : u ≡ 0 = ap one_if other in omega arith)
