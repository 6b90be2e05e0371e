-- Of two stored keys the one that compares as less has the smaller number.
use Rattle.std.proofs.Common.{◌≡◌, ℕ, ◌<◌, List, true, false, sym, ◌∙◌}
use Rattle.std.specs.Ordering.{is_lt}
use Rattle.std.specs.declared.cmp.Ordering.{Ordering}
use Rattle.std.specs.declared.cmp.Ordering.TheVariants.{Less, Equal, Greater}
use Rattle.oak_model.specs.Key.{IsKey, key_cmp}
use Rattle.oak_model.specs.KeyNumber.{key_number}
use Rattle.oak_model.proofs.NumberLaws.{key_before_is, key_number_rises}
use Rattle.chunk_ops.specs.declared.stored.StoredKey.{StoredKey}
use Rattle.chunk_ops.specs.Stored.{IsStored}

is_less : (o : Ordering) → is_lt o ≡ true → o ≡ Less
is_less Less e = λ _. Less
is_less Equal e = absurd cc
is_less Greater e = absurd cc

not_less : (o : Ordering) → is_lt o ≡ false → o ≡ Less → ⊥
not_less Less e f = cc
not_less Equal e f = cc
not_less Greater e f = cc

module _ (k l : StoredKey) (a b : List ℕ) (s : IsStored k a) (t : IsStored l b) (p : IsKey a) (q : IsKey b) (o : Ordering) (is : o ≡ key_cmp a b) where
  pub less_number : is_lt o ≡ true → key_number a < key_number b
  less_number e = key_number_rises a b s.bytes t.bytes q (sym is ∙ is_less o e)

  pub less_not : is_lt o ≡ false → key_number a < key_number b → ⊥
  less_not e l = not_less o e (is ∙ key_before_is a b s.bytes t.bytes p q l)
