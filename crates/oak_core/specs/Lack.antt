-- What a pass found in a call that lacks something.
use Rattle.std.specs.Prelude.{◌≡◌, ◌≢◌, ℕ, ◌/◌, ◌%◌, ◌<◌, ◌≤◌, ◌⊎◌, false, List, [], ◌∷◌, ◌++◌, length, Option, Some, None}
use Rattle.std.specs.Int.{bit_at}
use Rattle.std.specs.declared.cmp.Ordering.TheVariants.{Less}
use mathlib.Core.Option.{some}
use lib.ListN.{get_elem?}
use Rattle.pin_word.specs.PinWord.{generation_of}
use Rattle.oak_model.specs.declared.classes.Class.{Class}
use Rattle.oak_model.specs.declared.replies.Lack.{Lack}
use Rattle.oak_model.specs.declared.replies.Lack.TheVariants.{Block, Header, Room}
use Rattle.oak_model.specs.Class.{class_number}
use Rattle.oak_model.specs.Counts.{Each}
use Rattle.oak_model.specs.Key.{IsKey, key_cmp, IsKeyBefore}
use Rattle.oak_model.specs.Limits.{Sizes}
use Rattle.arena_core.specs.Arena.{at_bits, blocks}
use Rattle.header_core.specs.Headers.{at_pin}
use Rattle.oak_core.specs.declared.states.Finding.{Finding}
use Rattle.oak_core.specs.declared.states.Findings.{Findings}
use Rattle.oak_core.specs.declared.states.Full.{Full}
use Rattle.oak_core.specs.declared.states.PassState.{PassState}
use Rattle.oak_core.specs.declared.states.Swept.{Swept}
use Rattle.oak_core.specs.declared.states.Taken.{Taken}
use Rattle.oak_core.specs.Memory.{in_arena, in_headers, index}
use Rattle.oak_core.specs.FoundBehind.{FoundBehind}
use Rattle.oak_core.specs.RoomLacks.{RoomLackFound}
use Rattle.oak_core.specs.Usage.{is_free}

-- the high bound does not belong to the range, and none is the end of all keys
abbrev pub IsBelow : Option (List ℕ) → List ℕ → Type 0
IsBelow None k = Unit {0}
IsBelow (Some high) k = IsKeyBefore k high

pub record InSwept (r : Swept) (k : List ℕ) : Type 0 where
  pub from : key_cmp k r.low ≢ Less
  pub to : IsBelow r.high k

-- a range with the key was swept by a step whose finding is one from the place `began` on and before `behind`
pub record KeySwept (began behind : ℕ) (swept : List Swept) (k : List ℕ) : Type 0 where
  pub place : ℕ
  pub range : Swept
  pub there : get_elem? swept place ≡ some range
  pub from : began ≤ range.met
  pub to : range.met < behind
  pub inside : InSwept range k

-- The bit of the block was found set, and the pass did not hold the block. What a call did itself is no cause, and a call of the map begins with no block held, so the pass must have had nothing of the bit.
abbrev pub FoundSet : Sizes → ℕ → ℕ → List Finding → Class → ℕ → Type 0
FoundSet z behind ended met c b = FoundBehind behind ended met (index z (in_arena (at_bits (class_number c) (b / 64)))) (λ n had. (bit_at n (b % 64) ≡ 1) × (bit_at had (b % 64) ≡ 0))

-- the header was found not free, and the pass had no pin there and did not hold it, for the same reason
abbrev pub FoundTaken : Sizes → ℕ → ℕ → List Finding → ℕ → Type 0
FoundTaken z behind ended met h = FoundBehind behind ended met (index z (in_headers (at_pin h))) (λ n had. (is_free n ≡ false) × (had ≡ 0))

-- two different generations of the header were found, and at neither step had the pass a pin there or held it
pub record FoundRenewed (z : Sizes) (behind ended : ℕ) (met : List Finding) (h : ℕ) : Type 0 where
  pub one : FoundBehind behind ended met (index z (in_headers (at_pin h))) (λ _ had. had ≡ 0)
  pub other : FoundBehind behind ended met (index z (in_headers (at_pin h))) (λ _ had. had ≡ 0)
  pub apart : generation_of one.number ≢ generation_of other.number

-- the bit was found set, whoever had the block
abbrev pub FoundHeld : Sizes → ℕ → ℕ → List Finding → Class → ℕ → Type 0
FoundHeld z behind ended met c b = FoundBehind behind ended met (index z (in_arena (at_bits (class_number c) (b / 64)))) (λ n _. bit_at n (b % 64) ≡ 1)

-- each block of the class was found taken; one of them, the spare one, may be the call's own, which it has for its value
abbrev pub BlocksTaken : Sizes → ℕ → ℕ → List Finding → Class → Option ℕ → Type 0
BlocksTaken z behind ended met c spare = (b : ℕ) → b < blocks z (class_number c) → FoundSet z behind ended met c b ⊎ ((spare ≡ Some b) × FoundHeld z behind ended met c b)

-- What is lacking was found with nothing free: each block of the class but the spare one, where there is one, each header, or each room but the one that covers some key, which the pass held with a value in each of its entries. When there may be a spare block, and which key it is, the call says that was refused.
abbrev pub LackFound : Sizes → ℕ → ℕ → List Finding → Lack → Option ℕ → Type 0
LackFound z behind ended met (Block c) spare = BlocksTaken z behind ended met c spare
LackFound z behind ended met Header spare = (h : ℕ) → h < z.headers → FoundTaken z behind ended met h ⊎ FoundRenewed z behind ended met h
LackFound z behind ended met Room spare = (k : ℕ) × RoomLackFound z behind ended met k

-- Of what is lacking the step took nothing but the spare block, where there is one.
abbrev pub TookBut : Lack → Option ℕ → Finding → Type 0
TookBut (Block c) spare f = (t : Taken) → f.took ≡ Some t → t.class ≡ c → spare ≡ Some t.block
TookBut Header spare f = Unit {0}
TookBut Room spare f = Unit {0}

-- The findings from the place `began` on and before `ended` are the call's. Ranges that it swept before `behind` cover every key, and from there on it found nothing free of what it lacks, and took none of it itself, to give it to a header or to an entry, but for the spare block.
pub record Lacks (z : Sizes) (call : ℕ) (lack : Lack) (spare : Option ℕ) (began ended : ℕ) (fs : Findings) : Type 0 where
  pub behind : ℕ
  pub from : began ≤ behind
  pub to : behind ≤ ended
  pub met : ended ≤ length fs.met
  pub of_call : (i : ℕ) (f : Finding) → began ≤ i → i < ended → get_elem? fs.met i ≡ some f → f.call ≡ call
  pub covered : (k : List ℕ) → IsKey k → KeySwept began behind fs.swept k
  pub found : LackFound z behind ended fs.met lack spare
  pub own : (i : ℕ) (f : Finding) → behind ≤ i → i < ended → get_elem? fs.met i ≡ some f → TookBut lack spare f

-- a part of what the pass met shows that the call lacked it
abbrev pub Lacked : Sizes → ℕ → Lack → Findings → Type 0
Lacked z call lack fs = (spare : Option ℕ) × (began : ℕ) × (ended : ℕ) × Lacks z call lack spare began ended fs

-- the pass had the findings for each call that it noted as refused
abbrev pub FullsStand : Sizes → Findings → Type 0
FullsStand z fs = Each (λ (f : Full). Lacked z f.call f.lack fs) fs.fulls

-- the state, with one finding and one noted call more
abbrev pub full_state : ℕ → Lack → Finding → PassState → PassState
full_state call lack f v = record v { findings = record v.findings { met = v.findings.met ++ f ∷ []; fulls = v.findings.fulls ++ record { call = call; lack = lack } ∷ [] } }
