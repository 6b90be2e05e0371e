-- The faults of a line behind the lines before it, and the first fault of a text.
use Rattle.std.specs.Prelude.{◌≡◌, ℕ, zero, suc, ◌+◌, ◌*◌, ◌<◌, ◌≤◌, ◌==◌, ◌&&◌, ◌||◌, nat_lt, not, Bool, true, false, if◌then◌else◌, List, [], ◌∷◌, ◌++◌, length, take, drop, slice_get, count_by, Option, Some, None, is_some}
use Rattle.std.specs.List.{list_any}
use Rattle.oak_model.specs.declared.limits.TheConstants.{GREATEST_KEY, GREATEST_VALUE}
use Rattle.oak_script.specs.declared.limits.TheConstants.{GREATEST_THREADS, GREATEST_CALLS, GREATEST_SCANS}
use Rattle.oak_script.specs.declared.faults.What.{What}
use Rattle.oak_script.specs.declared.faults.What.TheVariants as what
use Rattle.oak_script.specs.declared.faults.ScriptFault.{ScriptFault}
use Rattle.oak_script.specs.declared.verbs.Verb.{Verb}
use Rattle.oak_script.specs.Lines.{Words, text_words}
use Rattle.oak_script.specs.Words.{is_name}
use Rattle.oak_script.specs.ShapeLine.{size_fields, are_sizes}
use Rattle.oak_script.specs.Forms.{Slot, KeySlot, ValueSlot, NameSlot, BoundSlot, RecipeSlot, verb_of, form, is_oak, is_thread, is_end, is_shape, is_call, is_scan_line, is_dash, is_hex, is_recipe}

-- how many lines stand before a line, and how many of them are `thread`, `end`, call and scan lines
pub record Past : Type 0 where
  pub lines : ℕ
  pub threads : ℕ
  pub ends : ℕ
  pub calls : ℕ
  pub scans : ℕ

abbrev pub past_of : List Words → Past
past_of before = record {
  lines = length before;
  threads = count_by is_thread before;
  ends = count_by is_end before;
  calls = count_by is_call before;
  scans = count_by is_scan_line before;
}

abbrev pub is_none : ℕ → Bool
is_none zero = true
is_none (suc n) = false

abbrev pub is_once : ℕ → Bool
is_once zero = false
is_once (suc zero) = true
is_once (suc (suc n)) = false

-- a line, or none at the end of the text
abbrev pub Here : Type 0
Here = Option Words

abbrev pub on_line : (Words → Bool) → Here → Bool
on_line test None = false
on_line test (Some line) = test line

abbrev pub is_empty : List ℕ → Bool
is_empty w = length w == 0

-- `oak` stands in line 1, `shape` in line 2, `thread` in line 2 and later, a call's word and `end` after the first
-- `thread`; `end` and `thread` have one word, `shape` has eight
abbrev pub may_stand : Past → Words → Bool
may_stand p line =
    (is_none p.lines && is_oak line)
    || ((is_once p.lines && (is_shape line && (length line == 8)))
    || ((not (is_none p.lines) && is_thread line)
    || (not (is_none p.threads) && (is_end line || is_call line))))

-- ---- the rows of the table

-- it is line 1 and is not `oak 1`, or the text has no line
abbrev pub is_bad_head : Past → Here → Bool
is_bad_head p here = is_none p.lines && not (on_line is_oak here)

-- the line before it, or an earlier one, was `end`
abbrev pub is_after_end : Past → Here → Bool
is_after_end p here = on_line (λ _. not (is_none p.ends)) here

-- it has an empty word; or its first word is no word that may stand there; or its number of words is not its form's
abbrev pub is_bad_word : Past → Here → Bool
is_bad_word p here = on_line (λ line. list_any is_empty line || not (may_stand p line)) here

-- a number of a `shape` line is not written as it should be, or is outside the limits
abbrev pub is_bad_shape : Past → Here → Bool
is_bad_shape p here = on_line (λ line. (is_once p.lines && is_shape line) && not (are_sizes size_fields (drop 1 line))) here

-- the word in the place of a name is none
abbrev pub is_bad_name : Slot → List ℕ → Bool
is_bad_name KeySlot w = false
is_bad_name ValueSlot w = false
is_bad_name NameSlot w = not (is_name w)
is_bad_name BoundSlot w = false
is_bad_name RecipeSlot w = false

-- the word in the place of a key, value or bound is neither an allowed `-` nor an even number of the allowed digits
abbrev pub is_bad_hex : Slot → List ℕ → Bool
is_bad_hex KeySlot w = not (is_hex w)
is_bad_hex ValueSlot w = not (is_dash w || is_hex w)
is_bad_hex NameSlot w = false
is_bad_hex BoundSlot w = not (is_dash w || is_hex w)
is_bad_hex RecipeSlot w = false

-- a key or bound has more digits than the longest key
abbrev pub is_long_key : Slot → List ℕ → Bool
is_long_key KeySlot w = nat_lt (2 * GREATEST_KEY) (length w)
is_long_key ValueSlot w = false
is_long_key NameSlot w = false
is_long_key BoundSlot w = nat_lt (2 * GREATEST_KEY) (length w)
is_long_key RecipeSlot w = false

-- a value has more digits than the longest value
abbrev pub is_long_value : Slot → List ℕ → Bool
is_long_value KeySlot w = false
is_long_value ValueSlot w = nat_lt (2 * GREATEST_VALUE) (length w)
is_long_value NameSlot w = false
is_long_value BoundSlot w = false
is_long_value RecipeSlot w = false

-- the recipe's word is none of the three, its argument is missing or not as it should be, or a word follows that it does
-- not have
abbrev pub is_bad_recipe : Words → Bool
is_bad_recipe ws = not (is_recipe ws)

-- it is one `thread` line more than a script may have
abbrev pub is_thread_too_many : Past → Here → Bool
is_thread_too_many p here = on_line (λ line. is_thread line && (p.threads == GREATEST_THREADS)) here

-- it is one call line more than a script may have
abbrev pub is_call_too_many : Past → Here → Bool
is_call_too_many p here = on_line (λ line. is_call line && (p.calls == GREATEST_CALLS)) here

-- it is one `scan` or `back` line more than a script may have
abbrev pub is_scan_too_many : Past → Here → Bool
is_scan_too_many p here = on_line (λ line. is_scan_line line && (p.scans == GREATEST_SCANS)) here

-- the text ended without `end`
abbrev pub lacks_end : Past → Here → Bool
lacks_end p here = not (is_some here) && is_none p.ends

-- ---- their order

-- this fault where the test holds
abbrev pub where_so : Bool → What → List What
where_so holds w = if holds then w ∷ [] else []

-- the faults of one word
abbrev pub word_faults : Slot → List ℕ → List What
word_faults slot w =
    where_so (is_bad_name slot w) what.Name
    ++ (where_so (is_bad_hex slot w) what.Hex
    ++ (where_so (is_long_key slot w) what.Key
    ++ where_so (is_long_value slot w) what.Value))

-- the faults of the words behind a call's word, from left to right; the words of a recipe are the last
abbrev pub slot_faults : List Slot → Words → List What
slot_faults [] ws = []
slot_faults (RecipeSlot ∷ slots) ws = where_so (is_bad_recipe ws) what.Recipe
slot_faults (slot ∷ slots) [] = []
slot_faults (slot ∷ slots) (w ∷ ws) = word_faults slot w ++ slot_faults slots ws

abbrev pub verb_faults : Option Verb → Words → List What
verb_faults None ws = []
verb_faults (Some v) ws = slot_faults (form v) ws

abbrev pub part_faults : Here → List What
part_faults None = []
part_faults (Some []) = []
part_faults (Some (w ∷ ws)) = verb_faults (verb_of w) ws

-- each fault of a line, in the order in which they are judged
abbrev pub faults : Past → Here → List What
faults p here =
    where_so (is_bad_head p here) what.Head
    ++ (where_so (is_after_end p here) what.AfterEnd
    ++ (where_so (is_bad_word p here) what.Word
    ++ (where_so (is_bad_shape p here) what.Shape
    ++ (part_faults here
    ++ (where_so (is_thread_too_many p here) what.Threads
    ++ (where_so (is_call_too_many p here) what.Calls
    ++ (where_so (is_scan_too_many p here) what.Scans
    ++ where_so (lacks_end p here) what.NoEnd)))))))

-- ---- the first fault

-- the faults of the line behind the first k lines, or of the text's end where there is none
abbrev pub faults_at : List Words → ℕ → List What
faults_at lines k = faults (past_of (take k lines)) (slice_get lines k)

-- the first line that has a fault decides, and the first fault that it has is told
pub record IsFirstAt (lines : List Words) (number : ℕ) (told : What) : Type 0 where
  pub at : ℕ
  pub within : at ≤ length lines
  pub number_is : number ≡ at + 1
  pub before : (k : ℕ) → k < at → faults_at lines k ≡ []
  pub others : List What
  pub first : faults_at lines at ≡ told ∷ others

abbrev pub IsFirstFault : List ℕ → ScriptFault → Type 0
IsFirstFault text f = IsFirstAt (text_words text) f.line f.what

-- no line has a fault, nor has the end
abbrev pub HasNoFault : List Words → Type 0
HasNoFault lines = (k : ℕ) → k ≤ length lines → faults_at lines k ≡ []
