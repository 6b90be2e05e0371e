use Rattle.std.proofs.Common.{◌≡◌, List, [], ◌∷◌, ℕ, map, refl, ◌∙◌, rules, tests}
use Rattle.std.specs.List.{list_any}
use denote.Ref.{Bor}
use Rattle.std.proofs.lemmas.Iterator.{YieldsList-from_slice}
use Rattle.std.proofs.lemmas.Iterator.Search.{any_from_yields_List}
use Rattle.oak_script.specs.Faults.{is_empty}
use Rattle.oak_script.proofs.forms.has_empty_word.Goals as goal

any_of : (words : List (Bor (List ℕ))) → list_any (λ (w : Bor (List ℕ)). is_empty w.now) words ≡ list_any is_empty (map (λ (w : Bor (List ℕ)). w.now) words)
any_of [] = refl
any_of (w ∷ words) = rw (any_of words) refl

pub returns : goal.returns
returns c =
    any_from_yields_List (λ (w : Bor (List ℕ)). is_empty w.now) _ _ _ c.any.ensures.ran (YieldsList-from_slice c.args.words.now cc) (λ x b q k. search (rules, tests)) ∙ any_of c.args.words.now
