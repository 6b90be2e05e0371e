-- What a map lacks, by its numbers.
use Rattle.std.proofs.Common.{◌≡◌, ◌≢◌, ℕ, ◌+◌, ◌<◌, ◌≤◌, ◌==◌, ◌&&◌, not, Bool, true, false, if◌then◌else◌, List, length, Option, Some, None, sym, refl, ap, ◌∙◌, inl, inr}
use Rattle.std.specs.Option.{option_map_or}
use Rattle.std.proofs.lemmas.Bool.{cases_Bool, eq-eqb, eqb-true, le-ltb, lt-ltb, ne_eqb}
use Rattle.oak_model.specs.declared.classes.Class.{Class}
use Rattle.oak_model.specs.declared.replies.Lack.{Lack}
use Rattle.oak_model.specs.declared.replies.Lack.TheVariants.{Block, Header}
use Rattle.oak_model.specs.declared.replies.Pair.{Pair}
use Rattle.oak_model.specs.Class.{blocks_of, class_number, class_of, has_class}
use Rattle.oak_model.specs.Counts.{one_if}
use Rattle.oak_model.specs.Limits.{Sizes}
use Rattle.arena_core.specs.Arena.{blocks}
use Rattle.arena_core.proofs.PlaceLaws.{same_class}
use Rattle.lone_counts.specs.Lacks.{block_or, blocks_lack, headers_lack, new_lack, over_lack}

-- ---- the class of bytes

pub has_its_class : (c : Class) (n : ℕ) → class_of n ≡ Some c → has_class c n ≡ true
has_its_class c n e = ap (λ (o : Option Class). option_map_or (λ d. class_number d == class_number c) o false) e ∙ eq-eqb (class_number c) (class_number c) refl

-- no other class than that which the test names
class_had : (c : Class) (o : Option Class) → option_map_or (λ d. class_number d == class_number c) o false ≡ true → o ≡ Some c
class_had c None e = absurd cc
class_had c (Some d) e = ap (λ (x : Class). Some x) (same_class d c (eqb-true (class_number d) (class_number c) e))

pub has_not : (c : Class) (n : ℕ) → class_of n ≢ Some c → has_class c n ≡ false
has_not c n ne = elim (cases_Bool (has_class c n)) [
  | inl e ↦ absurd (ne (class_had c (class_of n) e))
  | inr e ↦ e
]

pub has_other : (c d : Class) (n : ℕ) → class_of n ≡ Some d → (d ≡ c → ⊥) → has_class c n ≡ false
has_other c d n e ne = has_not c n (λ f. ne (let g : Some d ≡ Some c = sym e ∙ f in cc))

-- ---- the tests

block_some : (o : Option Class) (lacks : Class → Bool) (other : Option Lack) (c : Class) → o ≡ Some c → lacks c ≡ true → block_or o lacks other ≡ Some (Block c)
block_some o lacks other c e t = ap (λ (x : Option Class). block_or x lacks other) e ∙ ap (λ (b : Bool). if b then Some (Block c) else other) t

block_none : (o : Option Class) (lacks : Class → Bool) (other : Option Lack) → ((c : Class) → o ≡ Some c → lacks c ≡ false) → block_or o lacks other ≡ other
block_none None lacks other h = refl
block_none (Some c) lacks other h = ap (λ (b : Bool). if b then Some (Block c) else other) (h c refl)

both_false : (a b : Bool) → (a ≡ true → b ≡ false) → (a && b) ≡ false
both_false true b h = h refl
both_false false b h = refl

module _ (z : Sizes) (m : List Pair) where
  lacking : (c : Class) (n : ℕ) → blocks z (class_number c) < blocks_of m c + n → blocks_lack z m c n ≡ true
  lacking c n l = lt-ltb (blocks z (class_number c)) (blocks_of m c + n) l

  enough : (c : Class) (n : ℕ) → blocks_of m c + n ≤ blocks z (class_number c) → blocks_lack z m c n ≡ false
  enough c n l = le-ltb (blocks z (class_number c)) (blocks_of m c + n) l

  -- ---- of a value in place of another

  pub over_lacks : (old value : List ℕ) (c : Class) → class_of (length value) ≡ Some c → class_of (length old) ≢ Some c → blocks z (class_number c) < blocks_of m c + 1 → over_lack z m old value ≡ Some (Block c)
  over_lacks old value c e ne l = block_some (class_of (length value)) (λ d. not (has_class d (length old)) && blocks_lack z m d 1) None c e
      (ap (λ (b : Bool). not b && blocks_lack z m c 1) (has_not c (length old) ne) ∙ lacking c 1 l)

  pub over_enough : (old value : List ℕ) → ((c : Class) → class_of (length value) ≡ Some c → has_class c (length old) ≡ false → blocks_of m c + 1 ≤ blocks z (class_number c)) → over_lack z m old value ≡ None
  over_enough old value h = block_none (class_of (length value)) (λ d. not (has_class d (length old)) && blocks_lack z m d 1) None
      (λ c e. elim (cases_Bool (has_class c (length old))) [
        | inl t ↦ ap (λ (b : Bool). not b && blocks_lack z m c 1) t
        | inr f ↦ ap (λ (b : Bool). not b && blocks_lack z m c 1) f ∙ enough c 1 (h c e f)
      ])

  -- ---- of a new key

  module _ (retired : ℕ) (key value : List ℕ) where
    abbrev key_lack : Option Lack
    key_lack = block_or (class_of (length key)) (λ c. blocks_lack z m c (1 + one_if (has_class c (length value)))) None

    abbrev header_lack : Option Lack
    header_lack = if headers_lack z m retired then Some Header else key_lack

    -- the value
    pub value_lacks : (c : Class) → class_of (length value) ≡ Some c → blocks z (class_number c) < blocks_of m c + 1 → new_lack z m retired key value ≡ Some (Block c)
    value_lacks c e l = block_some (class_of (length value)) (λ d. blocks_lack z m d 1) header_lack c e (lacking c 1 l)

    -- the value has a block
    abbrev pub ValueFits : Type 0
    ValueFits = (c : Class) → class_of (length value) ≡ Some c → blocks_of m c + 1 ≤ blocks z (class_number c)

    value_fits : ValueFits → new_lack z m retired key value ≡ header_lack
    value_fits h = block_none (class_of (length value)) (λ d. blocks_lack z m d 1) header_lack (λ c e. enough c 1 (h c e))

    pub header_lacks : ValueFits → length m + retired ≡ z.headers → new_lack z m retired key value ≡ Some Header
    header_lacks h e = value_fits h ∙ ap (λ (b : Bool). if b then Some Header else key_lack) (eq-eqb (length m + retired) z.headers e)

    header_fits : ValueFits → length m + retired ≢ z.headers → new_lack z m retired key value ≡ key_lack
    header_fits h ne = value_fits h ∙ ap (λ (b : Bool). if b then Some Header else key_lack) (ne_eqb (length m + retired) z.headers ne)

    pub key_lacks : ValueFits → length m + retired ≢ z.headers → (c : Class) → class_of (length key) ≡ Some c → blocks z (class_number c) < blocks_of m c + (1 + one_if (has_class c (length value))) → new_lack z m retired key value ≡ Some (Block c)
    key_lacks h ne c e l = header_fits h ne ∙ block_some (class_of (length key)) (λ d. blocks_lack z m d (1 + one_if (has_class d (length value)))) None c e (lacking c (1 + one_if (has_class c (length value))) l)

    pub none_lacks : ValueFits → length m + retired ≢ z.headers → ((c : Class) → class_of (length key) ≡ Some c → blocks_of m c + (1 + one_if (has_class c (length value))) ≤ blocks z (class_number c)) → new_lack z m retired key value ≡ None
    none_lacks h ne k = header_fits h ne ∙ block_none (class_of (length key)) (λ d. blocks_lack z m d (1 + one_if (has_class d (length value)))) None (λ c e. enough c (1 + one_if (has_class c (length value))) (k c e))
