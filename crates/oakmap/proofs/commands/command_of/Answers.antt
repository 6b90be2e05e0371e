use Rattle.std.proofs.Common.{◌≡◌, ℕ, List, [], ◌∷◌, length, map, None, refl, sym, arith}
use Rattle.std.specs.String.{string_bytes}
use Rattle.std.proofs.lemmas.List.{length-map}
use Rattle.oakmap.specs.Commands.{command_of}
use Rattle.oakmap.proofs.commands.command_of.Goals as goal

-- neither one word nor four
none-given : (ws : List (List ℕ)) → (length ws ≡ 1 → ⊥) → (length ws ≡ 4 → ⊥) → command_of ws ≡ None
none-given [] one four = refl
none-given (w ∷ []) one four = absurd (one refl)
none-given (w ∷ n ∷ []) one four = refl
none-given (w ∷ n ∷ t ∷ []) one four = refl
none-given (w ∷ n ∷ t ∷ s ∷ []) one four = absurd (four refl)
none-given (w ∷ n ∷ t ∷ s ∷ x ∷ more) one four = refl

pub returns-in_default-3-clause-is : goal.returns-in_default-3-clause-is
returns-in_default-3-clause-is c =
    let long = length-map c.args.words.now (λ w. string_bytes w) in
    sym (none-given (map (λ w. string_bytes w) c.args.words.now) (λ e. omega (arith, long, e)) (λ e. omega (arith, long, e)))

pub returns-in_default-5-clause-is : goal.returns-in_default-5-clause-is
returns-in_default-5-clause-is c =
    let long = length-map c.args.words.now (λ w. string_bytes w) in
    sym (none-given (map (λ w. string_bytes w) c.args.words.now) (λ e. omega (arith, long, e)) (λ e. omega (arith, long, e)))
