-- The lines of a script.
use Rattle.std.specs.Prelude.{◌≡◌, ◌⊎◌, ℕ, ◌+◌, ◌<◌, ◌≤◌, ◌^◌, Bool, true, false, List, [], ◌∷◌, ◌++◌, length, map, count_by, codes, IfSome}
use Rattle.std.specs.List.{AllByRecursion, flat_map}
use Rattle.hex.specs.Hex.{encode_lower, IsBytes}
use Rattle.oak_model.specs.declared.limits.TheConstants.{DEFAULT_CHUNKS, DEFAULT_ENTRIES, DEFAULT_HEADERS, DEFAULT_BLOCKS}
use Rattle.oak_model.specs.declared.recipes.RecipeKind.{RecipeKind}
use Rattle.oak_model.specs.declared.recipes.RecipeKind.TheVariants.{Add, Xor, Rev}
use Rattle.oak_model.specs.Key.{IsKey}
use Rattle.oak_model.specs.Value.{IsValue}
use Rattle.oak_model.specs.Limits.{Sizes}
use Rattle.oak_script.specs.declared.limits.TheConstants.{GREATEST_THREADS, GREATEST_CALLS, GREATEST_SCANS}
use Rattle.oak_script.specs.declared.scripts.Call.{Call}
use Rattle.oak_script.specs.declared.scripts.Call.TheVariants.{Put, Get, PutNew, Compute, Upsert, Remove, Hold, Look, Scan, Back}
use Rattle.oak_script.specs.declared.scripts.Script.{Script}
use Rattle.oak_script.specs.Lines.{Words, text_words}
use Rattle.oak_script.specs.Words.{value_word, bound_word, recipe_words, is_name}
use Rattle.oak_script.specs.ShapeLine.{shape_line, SizesFit}

abbrev pub oak_line : Words
oak_line = codes "oak" ∷ codes "1" ∷ []

abbrev pub thread_line : Words
thread_line = codes "thread" ∷ []

abbrev pub end_line : Words
end_line = codes "end" ∷ []

abbrev pub call_words : Call → Words
call_words (Put k v) = codes "put" ∷ encode_lower k ∷ value_word v ∷ []
call_words (Get k) = codes "get" ∷ encode_lower k ∷ []
call_words (PutNew k v) = codes "putnew" ∷ encode_lower k ∷ value_word v ∷ []
call_words (Compute k r n) = codes "compute" ∷ encode_lower k ∷ recipe_words r n
call_words (Upsert k v r n) = codes "upsert" ∷ encode_lower k ∷ value_word v ∷ recipe_words r n
call_words (Remove k) = codes "remove" ∷ encode_lower k ∷ []
call_words (Hold a k) = codes "hold" ∷ a ∷ encode_lower k ∷ []
call_words (Look a) = codes "look" ∷ a ∷ []
call_words (Scan low high) = codes "scan" ∷ bound_word low ∷ bound_word high ∷ []
call_words (Back low high) = codes "back" ∷ bound_word low ∷ bound_word high ∷ []

abbrev pub thread_lines : List Call → List Words
thread_lines calls = thread_line ∷ map call_words calls

-- the `shape` line, or none
abbrev pub shape_lines : Bool → Sizes → List Words
shape_lines true s = shape_line s ∷ []
shape_lines false s = []

-- the lines of a script, with its `shape` line or without it
abbrev pub script_lines : Bool → Script → List Words
script_lines shaped s = oak_line ∷ (shape_lines shaped s.shape ++ (flat_map thread_lines s.threads ++ end_line ∷ []))

abbrev pub KeyFits : List ℕ → Type 0
KeyFits k = IsKey k × IsBytes k

abbrev pub ValueFits : List ℕ → Type 0
ValueFits v = IsValue v × IsBytes v

abbrev pub ArgumentFits : RecipeKind → ℕ → Type 0
ArgumentFits Add n = n < 2 ^ 64
ArgumentFits Xor n = n < 256
ArgumentFits Rev n = n ≡ 0

-- what the parts of a call may be
abbrev pub CallFits : Call → Type 0
CallFits (Put k v) = KeyFits k × ValueFits v
CallFits (Get k) = KeyFits k
CallFits (PutNew k v) = KeyFits k × ValueFits v
CallFits (Compute k r n) = KeyFits k × ArgumentFits r n
CallFits (Upsert k v r n) = KeyFits k × ValueFits v × ArgumentFits r n
CallFits (Remove k) = KeyFits k
CallFits (Hold a k) = (is_name a ≡ true) × KeyFits k
CallFits (Look a) = is_name a ≡ true
CallFits (Scan low high) = IfSome low KeyFits × IfSome high KeyFits
CallFits (Back low high) = IfSome low KeyFits × IfSome high KeyFits

abbrev pub is_scan : Call → Bool
is_scan (Put k v) = false
is_scan (Get k) = false
is_scan (PutNew k v) = false
is_scan (Compute k r n) = false
is_scan (Upsert k v r n) = false
is_scan (Remove k) = false
is_scan (Hold a k) = false
is_scan (Look a) = false
is_scan (Scan low high) = true
is_scan (Back low high) = true

abbrev pub scans_in : List Call → ℕ
scans_in calls = count_by is_scan calls

-- the calls of all threads, those of one thread behind those of the other
abbrev pub all_calls : List (List Call) → List Call
all_calls threads = flat_map (λ calls. calls) threads

-- the sizes of a script without a `shape` line
abbrev pub default_sizes : ℕ → Sizes
default_sizes threads = record {
  passes = threads + 1;
  chunks = DEFAULT_CHUNKS;
  entries = DEFAULT_ENTRIES;
  headers = DEFAULT_HEADERS;
  blocks = DEFAULT_BLOCKS;
}

-- a script: its threads, calls and scans are within the limits, and it has a pass more than there are threads
pub record IsScript (s : Script) : Type 0 where
  pub some : 0 < length s.threads
  pub threads_few : length s.threads ≤ GREATEST_THREADS
  pub passes : s.shape.passes ≡ length s.threads + 1
  pub shape : SizesFit s.shape
  pub each : AllByRecursion (AllByRecursion CallFits) s.threads
  pub few : length (all_calls s.threads) ≤ GREATEST_CALLS
  pub scans : scans_in (all_calls s.threads) ≤ GREATEST_SCANS

-- these are the script's lines; its `shape` line may be missing where its sizes are the default ones
abbrev pub AreLinesOf : List Words → Script → Type 0
AreLinesOf lines s = (lines ≡ script_lines true s) ⊎ ((lines ≡ script_lines false s) × (s.shape ≡ default_sizes (length s.threads)))

-- the text is cut into the lines of the script
pub record Spells (text : List ℕ) (s : Script) : Type 0 where
  pub script : IsScript s
  pub lines : AreLinesOf (text_words text) s
