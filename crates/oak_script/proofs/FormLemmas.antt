-- Which numbers of words a call line may have.
use Rattle.std.proofs.Common.{◌≡◌, ℕ, ◌<◌, ◌≤◌, Bool, true, false, ◌||◌, List, [], ◌∷◌, length, Option, Some, None, refl, arith}
use Rattle.std.specs.List.{list_any}
use Rattle.oak_script.specs.declared.faults.What.TheVariants as what
use Rattle.oak_script.specs.declared.stops.Stop.TheVariants.{Fault}
use Rattle.oak_script.specs.declared.verbs.Verb.{Verb}
use Rattle.oak_script.specs.declared.verbs.Verb.TheVariants.{Put, Get, PutNew, Compute, Upsert, Remove, Hold, Look, Scan, Back}
use Rattle.oak_script.specs.Lines.{Words}
use Rattle.oak_script.specs.Forms.{verb_of, verb_fills, is_call}
use Rattle.oak_script.specs.Faults.{is_empty}
use Rattle.oak_script.specs.Stops.{Stops}
use Rattle.oak_script.specs.Reading.{line_faults}

pub or-true : (b : Bool) → (b || true) ≡ true
or-true true = refl
or-true false = refl

-- a call's word alone is no call
pub none_behind : (o : Option Verb) → verb_fills o [] ≡ false
none_behind None = refl
none_behind (Some Put) = refl
none_behind (Some Get) = refl
none_behind (Some PutNew) = refl
none_behind (Some Compute) = refl
none_behind (Some Upsert) = refl
none_behind (Some Remove) = refl
none_behind (Some Hold) = refl
none_behind (Some Look) = refl
none_behind (Some Scan) = refl
none_behind (Some Back) = refl

-- nor are five words behind it
pub many_behind : (o : Option Verb) (a b c d e : List ℕ) (more : Words) → verb_fills o (a ∷ b ∷ c ∷ d ∷ e ∷ more) ≡ false
many_behind None a b c d e more = refl
many_behind (Some Put) a b c d e more = refl
many_behind (Some Get) a b c d e more = refl
many_behind (Some PutNew) a b c d e more = refl
many_behind (Some Compute) a b c d e more = refl
many_behind (Some Upsert) a b c d e more = refl
many_behind (Some Remove) a b c d e more = refl
many_behind (Some Hold) a b c d e more = refl
many_behind (Some Look) a b c d e more = refl
many_behind (Some Scan) a b c d e more = refl
many_behind (Some Back) a b c d e more = refl

pub no_call : (line : Words) → is_call line ≡ false → Stops (Fault what.Word) (line_faults line)
no_call line h = rw (h, or-true (list_any is_empty line)) refl

pub short_line : (line : Words) → length line < 2 → Stops (Fault what.Word) (line_faults line)
short_line [] h = refl
short_line (w ∷ []) h = no_call (w ∷ []) (none_behind (verb_of w))
short_line (w ∷ x ∷ more) h = absurd (omega arith)

pub long_line : (line : Words) → 6 ≤ length line → Stops (Fault what.Word) (line_faults line)
long_line [] h = absurd (omega arith)
long_line (w ∷ []) h = absurd (omega arith)
long_line (w ∷ a ∷ []) h = absurd (omega arith)
long_line (w ∷ a ∷ b ∷ []) h = absurd (omega arith)
long_line (w ∷ a ∷ b ∷ c ∷ []) h = absurd (omega arith)
long_line (w ∷ a ∷ b ∷ c ∷ d ∷ []) h = absurd (omega arith)
long_line (w ∷ a ∷ b ∷ c ∷ d ∷ e ∷ more) h = no_call (w ∷ a ∷ b ∷ c ∷ d ∷ e ∷ more) (many_behind (verb_of w) a b c d e more)
