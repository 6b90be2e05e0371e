-- The forms of lines: which words they have.
use Rattle.std.specs.Prelude.{ℕ, ◌%◌, ◌==◌, ◌&&◌, ◌||◌, nat_le, Bool, true, false, List, [], ◌∷◌, length, codes, find, Option, Some, None}
use Rattle.std.specs.List.{list_all}
use Rattle.std.specs.Str.{bytes_eq}
use Rattle.oak_script.specs.declared.verbs.Verb.{Verb}
use Rattle.oak_script.specs.declared.verbs.Verb.TheVariants.{Put, Get, PutNew, Compute, Upsert, Remove, Hold, Look, Scan, Back}
use Rattle.oak_script.specs.Lines.{Words}
use Rattle.oak_script.specs.Numbers.{is_number}

-- the line is this one word
abbrev pub is_one : List ℕ → Words → Bool
is_one text [] = false
is_one text (w ∷ []) = bytes_eq w text
is_one text (w ∷ x ∷ more) = false

-- the line is these two words
abbrev pub is_two : List ℕ → List ℕ → Words → Bool
is_two text other [] = false
is_two text other (w ∷ []) = false
is_two text other (w ∷ x ∷ []) = bytes_eq w text && bytes_eq x other
is_two text other (w ∷ x ∷ y ∷ more) = false

-- the line begins with this word
abbrev pub begins_with : List ℕ → Words → Bool
begins_with text [] = false
begins_with text (w ∷ more) = bytes_eq w text

abbrev pub is_oak : Words → Bool
is_oak line = is_two (codes "oak") (codes "1") line

abbrev pub is_thread : Words → Bool
is_thread line = is_one (codes "thread") line

abbrev pub is_end : Words → Bool
is_end line = is_one (codes "end") line

abbrev pub is_shape : Words → Bool
is_shape line = begins_with (codes "shape") line

-- ---- call lines

abbrev pub verb_word : Verb → List ℕ
verb_word Put = codes "put"
verb_word Get = codes "get"
verb_word PutNew = codes "putnew"
verb_word Compute = codes "compute"
verb_word Upsert = codes "upsert"
verb_word Remove = codes "remove"
verb_word Hold = codes "hold"
verb_word Look = codes "look"
verb_word Scan = codes "scan"
verb_word Back = codes "back"

abbrev pub verbs : List Verb
verbs = Put ∷ Get ∷ PutNew ∷ Compute ∷ Upsert ∷ Remove ∷ Hold ∷ Look ∷ Scan ∷ Back ∷ []

abbrev pub verb_of : List ℕ → Option Verb
verb_of w = find (λ v. bytes_eq w (verb_word v)) verbs

-- what may stand behind a call's word
pub data Slot : Type 0 where
  KeySlot : Slot
  ValueSlot : Slot
  NameSlot : Slot
  BoundSlot : Slot
  RecipeSlot : Slot

abbrev pub form : Verb → List Slot
form Put = KeySlot ∷ ValueSlot ∷ []
form Get = KeySlot ∷ []
form PutNew = KeySlot ∷ ValueSlot ∷ []
form Compute = KeySlot ∷ RecipeSlot ∷ []
form Upsert = KeySlot ∷ ValueSlot ∷ RecipeSlot ∷ []
form Remove = KeySlot ∷ []
form Hold = NameSlot ∷ KeySlot ∷ []
form Look = NameSlot ∷ []
form Scan = BoundSlot ∷ BoundSlot ∷ []
form Back = BoundSlot ∷ BoundSlot ∷ []

-- the number of words is the form's: one for each slot, but one or two for a recipe, which is the last
abbrev pub fills : List Slot → Words → Bool
fills [] [] = true
fills [] (w ∷ ws) = false
fills (s ∷ ss) [] = false
fills (RecipeSlot ∷ ss) (w ∷ x ∷ []) = true
fills (s ∷ ss) (w ∷ ws) = fills ss ws

abbrev pub verb_fills : Option Verb → Words → Bool
verb_fills None ws = false
verb_fills (Some v) ws = fills (form v) ws

-- a call's word, with its form's number of words
abbrev pub is_call : Words → Bool
is_call [] = false
is_call (w ∷ ws) = verb_fills (verb_of w) ws

abbrev pub is_scan_line : Words → Bool
is_scan_line line = is_call line && (begins_with (codes "scan") line || begins_with (codes "back") line)

-- ---- the words of a call line

abbrev pub is_dash : List ℕ → Bool
is_dash w = bytes_eq w (codes "-")

abbrev pub is_hex_digit : ℕ → Bool
is_hex_digit b = (nat_le 48 b && nat_le b 57) || (nat_le 97 b && nat_le b 102)

-- an even number of digits
abbrev pub is_hex : List ℕ → Bool
is_hex w = (length w % 2 == 0) && list_all is_hex_digit w

-- `add` with a number, `xor` with two digits, or `rev`
abbrev pub is_recipe : Words → Bool
is_recipe [] = false
is_recipe (r ∷ []) = bytes_eq r (codes "rev")
is_recipe (r ∷ a ∷ []) = (bytes_eq r (codes "add") && is_number a) || (bytes_eq r (codes "xor") && ((length a == 2) && is_hex a))
is_recipe (r ∷ a ∷ b ∷ more) = false
