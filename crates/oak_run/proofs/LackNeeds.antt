-- What a call on the map needs is what it needs by the rules of one key.
use Rattle.std.proofs.Common.{◌≡◌, ◌≢◌, ℕ, ◌==◌, Bool, true, false, List, length, Option, Some, None, refl, ap, ◌∙◌, inl, inr}
use Rattle.std.specs.Option.{option_map_or}
use Rattle.oak_model.specs.declared.cells.CellCall.{CellCall}
use Rattle.oak_model.specs.declared.classes.Class.{Class}
use Rattle.oak_model.specs.declared.classes.Class.TheVariants.{B16, B64, B256, B1024}
use Rattle.oak_model.specs.declared.replies.Lack.{Lack}
use Rattle.oak_model.specs.declared.replies.Lack.TheVariants.{Block, Header, Room}
use Rattle.oak_model.specs.Cell.{state_after}
use Rattle.oak_model.specs.Class.{class_number, class_of}
use Rattle.oak_model.specs.Needs.{NeedsOn, takes_class}
use Rattle.oak_model.specs.State.{State}
use Rattle.point_ops.specs.Needs.{Needs, value_class}

-- ---- classes

same_class : (c : Class) → (class_number c == class_number c) ≡ true
same_class B16 = refl
same_class B64 = refl
same_class B256 = refl
same_class B1024 = refl

other_class : (c d : Class) → Some d ≢ Some c → (class_number d == class_number c) ≡ false
other_class B16 B16 ne = absurd (ne refl)
other_class B16 B64 ne = refl
other_class B16 B256 ne = refl
other_class B16 B1024 ne = refl
other_class B64 B16 ne = refl
other_class B64 B64 ne = absurd (ne refl)
other_class B64 B256 ne = refl
other_class B64 B1024 ne = refl
other_class B256 B16 ne = refl
other_class B256 B64 ne = refl
other_class B256 B256 ne = absurd (ne refl)
other_class B256 B1024 ne = refl
other_class B1024 B16 ne = refl
other_class B1024 B64 ne = refl
other_class B1024 B256 ne = refl
other_class B1024 B1024 ne = absurd (ne refl)

pub is_class : (c : Class) (o : Option Class) → o ≡ Some c → option_map_or (λ (d : Class). class_number d == class_number c) o false ≡ true
is_class c o e = ap (λ (x : Option Class). option_map_or (λ (d : Class). class_number d == class_number c) x false) e ∙ same_class c

not_class : (c : Class) (o : Option Class) → o ≢ Some c → option_map_or (λ (d : Class). class_number d == class_number c) o false ≡ false
not_class c None ne = refl
not_class c (Some d) ne = other_class c d ne

pub takes : (c : Class) (s : State) → value_class s ≡ Some c → takes_class c s ≡ true
takes c None e = absurd cc
takes c (Some b) e = is_class c (class_of (length b)) e

takes_not : (c : Class) (s : State) → value_class s ≢ Some c → takes_class c s ≡ false
takes_not c None ne = refl
takes_not c (Some b) ne = not_class c (class_of (length b)) ne

-- ---- needs

-- the call needs it by the rules of one key, and where these ask that the key had no entry, it had none
pub record NeedsBare (lack : Lack) (key : List ℕ) (s : State) (cell : CellCall) (Bare : Type 0) : Type 0 where
  pub bare : Bool
  pub so : bare ≡ true → Bare
  pub needs : NeedsOn s (length key) bare cell lack

pub needs_on : (lack : Lack) (key : List ℕ) (s : State) (cell : CellCall) (Bare : Type 0) → Needs lack key s (state_after s cell) Bare → NeedsBare lack key s cell Bare
needs_on (Block c) key s cell Bare (inl f) = record { bare = false; so = λ e. absurd cc; needs = inl (takes c (state_after s cell) f.0, takes_not c s f.1) }
needs_on (Block c) key s cell Bare (inr f) = record { bare = true; so = λ e. f.3; needs = inr (is_class c (class_of (length key)) f.0, ((f.1, f.2), refl)) }
needs_on Header key s cell Bare f = record { bare = false; so = λ e. absurd cc; needs = f }
needs_on Room key s cell Bare f = record { bare = true; so = λ e. f.2; needs = ((f.0, f.1), refl) }
