-- A line of nine words or more has the faults of its first nine words.
use Rattle.std.proofs.Common.{◌≡◌, ℕ, ◌≤◌, Bool, true, false, not, ◌||◌, ◌&&◌, List, [], ◌∷◌, ◌++◌, length, take, Option, Some, None, refl, arith, eqb}
use Rattle.std.specs.List.{list_any}
use Rattle.std.proofs.lemmas.Bool.Decides.{nat_tests}
use Rattle.oak_script.specs.declared.faults.What.TheVariants as what
use Rattle.oak_script.specs.declared.verbs.Verb.{Verb}
use Rattle.oak_script.specs.declared.verbs.Verb.TheVariants.{Put, Get, PutNew, Compute, Upsert, Remove, Hold, Look, Scan, Back}
use Rattle.oak_script.specs.Lines.{Words}
use Rattle.oak_script.specs.Forms.{verb_of, is_shape}
use Rattle.oak_script.specs.Faults.{Past, faults, verb_faults, is_empty, is_bad_word, may_stand, is_none, is_once}
use Rattle.oak_script.proofs.FormLemmas.{or-true, many_behind}

-- words that no form has count for no fault
parts_cut : (o : Option Verb) (b c d e f g h i : List ℕ) (more : Words) → verb_faults o (b ∷ c ∷ d ∷ e ∷ f ∷ g ∷ h ∷ i ∷ more) ≡ verb_faults o (b ∷ c ∷ d ∷ e ∷ f ∷ g ∷ h ∷ i ∷ [])
parts_cut None b c d e f g h i more = refl
parts_cut (Some Put) b c d e f g h i more = refl
parts_cut (Some Get) b c d e f g h i more = refl
parts_cut (Some PutNew) b c d e f g h i more = refl
parts_cut (Some Compute) b c d e f g h i more = refl
parts_cut (Some Upsert) b c d e f g h i more = refl
parts_cut (Some Remove) b c d e f g h i more = refl
parts_cut (Some Hold) b c d e f g h i more = refl
parts_cut (Some Look) b c d e f g h i more = refl
parts_cut (Some Scan) b c d e f g h i more = refl
parts_cut (Some Back) b c d e f g h i more = refl

no_stand : (a b c d s : Bool) → ((a && false) || ((b && (s && false)) || ((c && false) || (d && (false || false))))) ≡ false
no_stand true true true true true = refl
no_stand a b c d s = grind arith

not_eight : (n : ℕ) → 9 ≤ n → eqb n 8 ≡ false
not_eight n h = grind (arith, nat_tests)

may_not_stand : (p : Past) (a b c d e f g h i : List ℕ) (more : Words) → may_stand p (a ∷ b ∷ c ∷ d ∷ e ∷ f ∷ g ∷ h ∷ i ∷ more) ≡ false
may_not_stand p a b c d e f g h i more =
    rw (many_behind (verb_of a) b c d e f (g ∷ h ∷ i ∷ more), not_eight (length (a ∷ b ∷ c ∷ d ∷ e ∷ f ∷ g ∷ h ∷ i ∷ more)) (omega arith)) (no_stand (is_none p.lines) (is_once p.lines) (not (is_none p.lines)) (not (is_none p.threads)) (is_shape (a ∷ b ∷ c ∷ d ∷ e ∷ f ∷ g ∷ h ∷ i ∷ more)))

pub many_bad : (p : Past) (a b c d e f g h i : List ℕ) (more : Words) → is_bad_word p (Some (a ∷ b ∷ c ∷ d ∷ e ∷ f ∷ g ∷ h ∷ i ∷ more)) ≡ true
many_bad p a b c d e f g h i more = rw (may_not_stand p a b c d e f g h i more, or-true (list_any is_empty (a ∷ b ∷ c ∷ d ∷ e ∷ f ∷ g ∷ h ∷ i ∷ more))) refl

pub faults_cut : (p : Past) (line : Words) → faults p (Some (take 9 line)) ≡ faults p (Some line)
faults_cut p (a ∷ b ∷ c ∷ d ∷ e ∷ f ∷ g ∷ h ∷ i ∷ more) =
    rw (many_bad p a b c d e f g h i [], many_bad p a b c d e f g h i more, parts_cut (verb_of a) b c d e f g h i more, many_behind (verb_of a) b c d e f (g ∷ h ∷ i ∷ more), many_behind (verb_of a) b c d e f (g ∷ h ∷ i ∷ [])) refl
faults_cut p line = refl

bad_inside : {A : Type 0} (x : A) (ps bs cs : List A) → ps ++ (bs ++ (x ∷ cs)) ≡ [] → ⊥
bad_inside x [] [] cs e = cc
bad_inside x [] (b ∷ bs) cs e = cc
bad_inside x (a ∷ ps) bs cs e = cc

pub cut_same : (p : Past) (line : Words) → faults p (Some line) ≡ [] → take 9 line ≡ line
cut_same p (a ∷ b ∷ c ∷ d ∷ e ∷ f ∷ g ∷ h ∷ i ∷ more) none = absurd (bad_inside what.Word _ _ _ (rw (many_bad p a b c d e f g h i more) at none))
cut_same p line none = refl
