-- On which side of a bound a key lies, by its number and by its bytes.
use Rattle.std.proofs.Common.{ℕ, ◌<◌, List, arith, Option, Some, None}
use mathlib.Core.Logic.{dite}
use native.Mathlib.Decide.{dec_lt}
use Rattle.oak_model.specs.Key.{IsKey, AreBytes}
use Rattle.oak_model.specs.KeyNumber.{key_number}
use Rattle.oak_model.proofs.NumberLaws.{key_before_is, key_number_rises}
use Rattle.link_search.specs.declared.ties.Tie.TheVariants.{Passed}
use Rattle.link_search.specs.Nearest.{AreBoundBytes, IsAbove, IsBelow}
use Rattle.chunk_ops.specs.AskedRanges.{IsKeyOrNone}
use Rattle.chunk_ops.specs.Finds.{IsPast}
use Rattle.chunk_ops.specs.Ways.{Up, Down}

module _ (q : List ℕ) (key : IsKey q) (bytes : AreBytes q) where
  pub above_past : (o : Option (List ℕ)) → IsKeyOrNone o → AreBoundBytes o → IsAbove Passed o q → IsPast Up o (key_number q)
  above_past None i s a = tt
  above_past (Some c) i s a = key_number_rises c q s bytes key a

  pub past_above : (o : Option (List ℕ)) → IsKeyOrNone o → AreBoundBytes o → IsPast Up o (key_number q) → IsAbove Passed o q
  past_above None i s p = tt
  past_above (Some c) i s p = key_before_is c q s bytes i key p

  pub below_past : (o : Option (List ℕ)) → IsKeyOrNone o → AreBoundBytes o → IsBelow o q → IsPast Down o (key_number q)
  below_past None i s a = tt
  below_past (Some c) i s a = key_number_rises q c bytes s i a

  pub past_below : (o : Option (List ℕ)) → IsKeyOrNone o → AreBoundBytes o → IsPast Down o (key_number q) → IsBelow o q
  past_below None i s p = tt
  past_below (Some c) i s p = key_before_is q c bytes s key i p

  -- what is past the bound is past all that is not

  pub over_lower : (o : Option (List ℕ)) → IsKeyOrNone o → AreBoundBytes o → (k : ℕ) → IsPast Up o k → (IsAbove Passed o q → ⊥) → key_number q < k
  over_lower None i s k p n = absurd (n tt)
  over_lower (Some c) i s k p n = dite (dec_lt (key_number c) (key_number q)) (λ l. absurd (n (key_before_is c q s bytes i key l))) (λ no. let h : key_number c < k = p in omega arith)

  pub under_upper : (o : Option (List ℕ)) → IsKeyOrNone o → AreBoundBytes o → (k : ℕ) → IsPast Down o k → (IsBelow o q → ⊥) → k < key_number q
  under_upper None i s k p n = absurd (n tt)
  under_upper (Some c) i s k p n = dite (dec_lt (key_number q) (key_number c)) (λ l. absurd (n (key_before_is q c bytes s key i l))) (λ no. let h : k < key_number c = p in omega arith)
