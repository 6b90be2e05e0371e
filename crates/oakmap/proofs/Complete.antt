-- A script that comes without a fault is run, and so is each workload, unless memory runs out.
use Rattle.std.proofs.Common.{◌≡◌, ℕ, ◌≤◌, ◌⊎◌, List, length, Option, Some, None, refl, sym, ap, subst, ◌∙◌, arith, inl, inr}
use Rattle.std.proofs.lemmas.List.{append-nil, length-append}
use Rattle.std.specs.Io.KnownBytes.{Consumes, IsAtEnd}
use Rattle.outside.specs.Cause.{Rose}
use Rattle.outside.specs.Whole.{ReadsToEnd, ReadsPast}
use Rattle.oak_script.specs.declared.faults.ScriptFault.{ScriptFault}
use Rattle.oak_script.specs.declared.scripts.Script.{Script}
use Rattle.oak_script.specs.Faults.{IsFirstFault}
use Rattle.oak_script.specs.Grammar.{Spells}
use Rattle.oak_script.proofs.LawLemmas.{script_not_fault}
use Rattle.oakmap.specs.declared.commands.Command.TheVariants.{Run, Gen}
use Rattle.oakmap.specs.declared.commands.Workload.{Workload}
use Rattle.oakmap.specs.declared.status.TheConstants.{GREATEST_INPUT}
use Rattle.oakmap.specs.declared.status.Status.{Status}
use Rattle.oakmap.specs.declared.status.Status.TheVariants.{Done, Usage, NoScript, ReadFault, WriteFault, NoMemory}
use Rattle.oakmap.specs.Ends.{Input, Output, Ends, Unrisen, code_of}

pub calm : (before now : ℕ) → Unrisen before now → Rose before now → ⊥
calm before now u r = omega (arith, u.0, u.1)

pub all_read : (old now : Option (List ℕ)) (text input : List ℕ) → old ≡ Some text → ReadsToEnd old now GREATEST_INPUT input → input ≡ text
all_read old now text input e r = by old now e r.took r.ended
  where
    by : (a b : Option (List ℕ)) → a ≡ Some text → Consumes a b input → IsAtEnd b → input ≡ text
    by None b e t d = absurd cc
    by (Some x) None e t d = absurd t
    by (Some x) (Some y) e t d = let z : x ≡ text = cc in sym (append-nil input) ∙ sym (rw d at t) ∙ z

pub not_past : (old now : Option (List ℕ)) (text input : List ℕ) → old ≡ Some text → length text ≤ GREATEST_INPUT → ReadsPast old now GREATEST_INPUT input → ⊥
not_past old now text input e short r = by old now e r.took
  where
    by : (a b : Option (List ℕ)) → a ≡ Some text → Consumes a b input → ⊥
    by None b e t = absurd cc
    by (Some x) None e t = t
    by (Some x) (Some y) e t = let z : x ≡ text = cc in omega (arith, r.long, short, ap length t, ap length z, length-append input y)

faultless : (script : Script) (input text : List ℕ) (f : ScriptFault) → Spells text script → input ≡ text → IsFirstFault input f → ⊥
faultless script input text f spelled same fault = script_not_fault text script f spelled (subst (λ (t : List ℕ). IsFirstFault t f) same fault)

pub complete : (s : Status) (source source_after : Input) (sink sink_after : Output) (text : List ℕ) (script : Script)
    → Ends s (Some Run) source source_after sink sink_after → source.left ≡ Some text → length text ≤ GREATEST_INPUT → Spells text script
    → Unrisen source.faults source_after.faults → Unrisen sink.faults sink_after.faults → (code_of s ≡ 0) ⊎ (code_of s ≡ 6)
complete (Done closed) source source_after sink sink_after text script e known short spelled u v = inl refl
complete NoMemory source source_after sink sink_after text script e known short spelled u v = inr refl
complete Usage source source_after sink sink_after text script e known short spelled u v = absurd e
complete ReadFault source source_after sink sink_after text script e known short spelled u v = absurd (calm _ _ u e.0)
complete (WriteFault closed) source source_after sink sink_after text script e known short spelled u v = absurd (calm _ _ v e.2.0)
complete NoScript source source_after sink sink_after text script e known short spelled u v =
    elim e [
      | inl long ↦ absurd (not_past source.left source_after.left text long.0.bytes known short long.0.past)
      | inr a ↦ absurd (faultless script a.0 text a.2.0 spelled (all_read source.left source_after.left text a.0 known a.1) a.2.1)
    ]

pub complete_gen : (s : Status) (w : Workload) (source source_after : Input) (sink sink_after : Output)
    → Ends s (Some (Gen w)) source source_after sink sink_after → Unrisen sink.faults sink_after.faults → (code_of s ≡ 0) ⊎ (code_of s ≡ 6)
complete_gen (Done closed) w source source_after sink sink_after e v = inl refl
complete_gen NoMemory w source source_after sink sink_after e v = inr refl
complete_gen (WriteFault closed) w source source_after sink sink_after e v = absurd (calm _ _ v e.1.0)
complete_gen Usage w source source_after sink sink_after e v = absurd e.1
complete_gen NoScript w source source_after sink sink_after e v = absurd e.1
complete_gen ReadFault w source source_after sink sink_after e v = absurd e.1
