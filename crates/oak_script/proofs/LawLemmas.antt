-- Each text is a script's or has a first fault, and none is both.
use Rattle.std.proofs.Common.{◌≡◌, ℕ, zero, suc, ◌+◌, ◌<◌, ◌≤◌, ◌⊎◌, List, [], ◌∷◌, length, Option, Some, None, Result, Ok, Err, refl, ap, sym, subst, ◌∙◌, inl, inr, arith}
use Rattle.std.specs.Prelude.{IfOk, IfSome}
use Rattle.std.proofs.lemmas.Bool.{cases_lt}
use Rattle.oak_model.specs.Limits.{Sizes}
use Rattle.oak_script.specs.declared.faults.What.{What}
use Rattle.oak_script.specs.declared.faults.ScriptFault.{ScriptFault}
use Rattle.oak_script.specs.declared.scripts.Call.{Call}
use Rattle.oak_script.specs.declared.scripts.Script.{Script}
use Rattle.oak_script.specs.declared.stages.Stage.TheVariants.{Ended}
use Rattle.oak_script.specs.declared.faults.NoScript.{NoScript}
use Rattle.oak_script.specs.declared.faults.NoScript.TheVariants.{Fault, OutOfMemory}
use Rattle.oak_script.specs.Lines.{Words, text_words}
use Rattle.oak_script.specs.ShapeLine.{SizesFit}
use Rattle.oak_script.specs.Grammar.{IsScript, AreLinesOf, Spells}
use Rattle.oak_script.specs.Faults.{faults_at, IsFirstAt, IsFirstFault, HasNoFault}
use Rattle.oak_script.specs.Reading.{so_far, sizes_for, AreCalls}
use Rattle.oak_script.specs.Answers.{Tells, Gives}
use Rattle.oak_script.proofs.SizesLemmas.{sizes-fit, sizes-passes}
use Rattle.oak_script.proofs.EndLemmas.{ended_lines}
use Rattle.oak_script.proofs.SpelledLemmas.{no_fault}
use Rattle.oak_script.proofs.ScriptLemmas.{found, same-lines}

-- ---- scripts

are_calls : (s : Script) → IsScript s → AreCalls s.threads
are_calls s is = record { each = is.each; threads_few = is.threads_few; few = is.few; scans = is.scans }

-- the lines of a script as a reader takes them
record Taken (lines : List Words) (s : Script) : Type 0 where
  shape : Option Sizes
  fit : IfSome shape SizesFit
  spelled : lines ≡ so_far (Ended shape) s.threads
  sizes : s.shape ≡ sizes_for shape (length s.threads)

own-sizes : (p c e h : ℕ) (bs : List ℕ) (n : ℕ) → p ≡ n + 1 → (let s : Sizes = record { passes = p; chunks = c; entries = e; headers = h; blocks = bs } in s ≡ sizes_for (Some s) n)
own-sizes p c e h bs n is = rw is refl

taken_of : (lines : List Words) (s : Script) → IsScript s → AreLinesOf lines s → Taken lines s
taken_of lines s is are =
    elim are [
      | inl with ↦ record {
        shape = Some s.shape;
        fit = is.shape;
        spelled = with;
        sizes = own-sizes s.shape.passes s.shape.chunks s.shape.entries s.shape.headers s.shape.blocks (length s.threads) is.passes;
      }
      | inr without ↦ record { shape = None; fit = tt; spelled = without.0; sizes = without.1 }
    ]

pub script_fine : (text : List ℕ) (s : Script) → Spells text s → HasNoFault (text_words text)
script_fine text s sp =
    let t = taken_of (text_words text) s sp.script sp.lines in
    subst HasNoFault (sym t.spelled) (no_fault t.shape s.threads sp.script.some t.fit (are_calls s sp.script))

pub script_of : (text : List ℕ) → HasNoFault (text_words text) → (s : Script) × Spells text s
script_of text none =
    let f = found (text_words text) none in
    let n = length f.threads in
    let s : Script = record { shape = sizes_for f.shape n; threads = f.threads } in (
      s,
      record {
        script = record {
          some = f.some;
          threads_few = f.are.threads_few;
          passes = sizes-passes f.shape n;
          shape = sizes-fit f.shape n f.are.threads_few f.fit;
          each = f.are.each;
          few = f.are.few;
          scans = f.are.scans;
        };
        lines = subst (λ (ls : List Words). AreLinesOf ls s) (sym f.spelled) (ended_lines f.shape f.threads s refl refl);
      },
    )

same-parts : (a b : Sizes) (x y : List (List Call)) → a ≡ b → x ≡ y → (let s : Script = record { shape = a; threads = x } in let t : Script = record { shape = b; threads = y } in s ≡ t)
same-parts a b x y e f = rw (e, f) refl

same-script : (s t : Script) → s.shape ≡ t.shape → s.threads ≡ t.threads → s ≡ t
same-script s t e f = same-parts s.shape t.shape s.threads t.threads e f

pub one_script : (text : List ℕ) (s t : Script) → Spells text s → Spells text t → s ≡ t
one_script text s t a b =
    let x = taken_of (text_words text) s a.script a.lines in
    let y = taken_of (text_words text) t b.script b.lines in
    let same = same-lines x.shape y.shape s.threads t.threads a.script.some b.script.some x.fit y.fit (are_calls s a.script) (are_calls t b.script) (sym x.spelled ∙ y.spelled) in
    same-script s t (x.sizes ∙ same.0 (length s.threads) ∙ ap (λ (ts : List (List Call)). sizes_for y.shape (length ts)) same.1 ∙ sym y.sizes) same.1

-- ---- faults

pub never_both : (lines : List Words) (n : ℕ) (w : What) → HasNoFault lines → IsFirstAt lines n w → ⊥
never_both lines n w none f = let a : f.others ≡ f.others = refl in cc (none f.at f.within, f.first)

first-at : (lines : List Words) (n m : ℕ) (w v : What) (a : IsFirstAt lines n w) (b : IsFirstAt lines m v) → a.at < b.at → ⊥
first-at lines n m w v a b lt = cc (b.before a.at lt, a.first)

head-same : {A : Type 0} (x y : A) (xs ys : List A) → x ∷ xs ≡ y ∷ ys → x ≡ y
head-same x y xs ys e = cc

pub one_fault : (lines : List Words) (n m : ℕ) (w v : What) → IsFirstAt lines n w → IsFirstAt lines m v → (n ≡ m) × (w ≡ v)
one_fault lines n m w v a b =
    elim (cases_lt a.at b.at) [
      | inl lt ↦ absurd (first-at lines n m w v a b lt)
      | inr ge ↦
          elim (cases_lt b.at a.at) [
            | inl lt ↦ absurd (first-at lines m n v w b a lt)
            | inr le ↦
                let same : a.at ≡ b.at = omega arith in
                (omega (arith, a.number_is, b.number_is), head-same w v a.others b.others (sym a.first ∙ ap (faults_at lines) same ∙ b.first))
          ]
    ]

-- the first k places have no fault, or one of them has the first
looked : (lines : List Words) (j : ℕ) → j ≤ length lines + 1 → ((k : ℕ) → k < j → faults_at lines k ≡ []) ⊎ ((f : ScriptFault) × IsFirstAt lines f.line f.what)
looked lines zero h = inl (λ k lt. absurd (omega arith))
looked lines (suc j) h =
    elim (looked lines j (omega arith)) [
      | inr f ↦ inr f
      | inl fine ↦ by (faults_at lines j) refl fine
    ]
  where
    by : (fs : List What) → faults_at lines j ≡ fs → ((k : ℕ) → k < j → faults_at lines k ≡ []) → ((k : ℕ) → k < suc j → faults_at lines k ≡ []) ⊎ ((f : ScriptFault) × IsFirstAt lines f.line f.what)
    by [] e fine = inl (λ k lt. elim (cases_lt k j) [ inl less ↦ fine k less | inr ge ↦ let is : k ≡ j = omega arith in rw is e ])
    by (w ∷ others) e fine = inr (record { line = j + 1; what = w }, record { at = j; within = omega arith; number_is = refl; before = fine; others = others; first = e })

pub fine_or_faulty : (lines : List Words) → HasNoFault lines ⊎ ((f : ScriptFault) × IsFirstAt lines f.line f.what)
fine_or_faulty lines =
    elim (looked lines (length lines + 1) (omega arith)) [
      | inl fine ↦ inl (λ k h. fine k (omega arith))
      | inr f ↦ inr f
    ]

pub script_or_fault : (text : List ℕ) → ((s : Script) × Spells text s) ⊎ ((f : ScriptFault) × IsFirstFault text f)
script_or_fault text =
    elim (fine_or_faulty (text_words text)) [
      | inl none ↦ inl (script_of text none)
      | inr f ↦ inr f
    ]

same-faults : (a b : ℕ) (x y : What) → a ≡ b → x ≡ y → (let f : ScriptFault = record { line = a; what = x } in let g : ScriptFault = record { line = b; what = y } in f ≡ g)
same-faults a b x y e f = rw (e, f) refl

pub same_fault : (text : List ℕ) (f g : ScriptFault) → IsFirstFault text f → IsFirstFault text g → f ≡ g
same_fault text f g a b = let s = one_fault (text_words text) f.line g.line f.what g.what a b in same-faults f.line g.line f.what g.what s.0 s.1

pub script_not_fault : (text : List ℕ) (s : Script) (f : ScriptFault) → Spells text s → IsFirstFault text f → ⊥
script_not_fault text s f a b = never_both (text_words text) f.line f.what (script_fine text s a) b

-- ---- what is told

pub only_by : (result : Result Script NoScript) (text : List ℕ) → Tells result (text_words text) → IfOk result (λ s. Spells text s) → (s : Script) → Spells text s → Gives result s
only_by (Ok t) text told is s sp = one_script text t s is sp
only_by (Err (Fault f)) text told is s sp = absurd (script_not_fault text s f sp told)
only_by (Err OutOfMemory) text told is s sp = tt
