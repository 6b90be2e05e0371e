-- A finding in a call, where findings go together.
use Rattle.std.proofs.Common.{◌≡◌, ℕ, ◌+◌, List, ◌∷◌, ◌++◌, length, sym, refl, ap, ◌∙◌, subst, arith, Some}
use mathlib.Core.Option.{some}
use lib.ListN.{get_elem?}
use Rattle.oak_model.specs.Limits.{Sizes}
use Rattle.oak_model.proofs.Lists.{at_longer}
use Rattle.oak_core.specs.declared.states.Finding.{Finding}
use Rattle.oak_core.specs.declared.states.PassState.{PassState}
use Rattle.oak_core.specs.Finding.{finding, had, grown, FoundThere}
use Rattle.oak_core.specs.FoundBehind.{FoundBehind}
use Rattle.oak_core.specs.Memory.{Spot, index}
use Rattle.oak_core.proofs.memory.MetLists.{at_inside, at_behind}
use Rattle.oak_core.proofs.calls.MetMore.{grown_met, grown_length}

module _ (z : Sizes) (call : ℕ) (p : Spot) where
  -- the first of the findings is of the word
  abbrev pub met_here : (n left : ℕ) (words : List ℕ) (q : Spot) (v : PassState) (more : List Finding) (P : ℕ → Type 0) → q ≡ p → P n → FoundThere z call p v (finding z call q (Some n) left words v ∷ more) P
  met_here n left words q v more P is shows = record {
    place = 0;
    finding = finding z call q (Some n) left words v;
    there = refl;
    call_is = refl;
    word_is = ap (index z) is;
    number = n;
    found_is = refl;
    shows = shows;
    had_is = ap (λ (s : Spot). had s v) is;
  }

  -- it is among the first
  abbrev pub found_first : (v : PassState) (first second : List Finding) (P : ℕ → Type 0) → FoundThere z call p v first P → FoundThere z call p v (first ++ second) P
  found_first v first second P f = record {
    place = f.place;
    finding = f.finding;
    there = at_longer first second f.place f.finding f.there;
    call_is = f.call_is;
    word_is = f.word_is;
    number = f.number;
    found_is = f.found_is;
    shows = f.shows;
    had_is = f.had_is;
  }

  -- it is among the later ones, and what the pass had at the word has not changed
  abbrev pub found_later : (v w : PassState) (first second : List Finding) (P : ℕ → Type 0) → had p w ≡ had p v → FoundThere z call p w second P → FoundThere z call p v (first ++ second) P
  found_later v w first second P same f = record {
    place = length first + f.place;
    finding = f.finding;
    there = at_behind first second f.place f.finding f.there;
    call_is = f.call_is;
    word_is = f.word_is;
    number = f.number;
    found_is = f.found_is;
    shows = f.shows;
    had_is = f.had_is ∙ same;
  }

  -- it is behind what the pass had met before
  abbrev pub found_behind : (v w : PassState) (more : List Finding) (P : ℕ → Type 0) (Q : ℕ → ℕ → Type 0) → w ≡ grown more v → (f : FoundThere z call p v more P) → Q f.number f.finding.had
      → FoundBehind (length v.findings.met) (length w.findings.met) w.findings.met (index z p) Q
  found_behind v w more P Q after f shows = record {
    place = length v.findings.met + f.place;
    from = omega arith;
    to = let i = at_inside more f.place f.finding f.there in let l = grown_length v w more after in omega arith;
    finding = f.finding;
    there = subst (λ (l : List Finding). get_elem? l (length v.findings.met + f.place) ≡ some f.finding) (sym (grown_met v w more after)) (at_behind v.findings.met more f.place f.finding f.there);
    word_is = f.word_is;
    number = f.number;
    found_is = f.found_is;
    shows = shows;
  }
