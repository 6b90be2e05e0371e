-- What a put asks of a key's cell, where the key is absent.
use Rattle.std.proofs.Common.{◌≡◌, ℕ, List, None, Some, ap, refl, sym}
use Rattle.oak_model.specs.declared.cells.CellReply.TheVariants.{New}
use Rattle.oak_model.specs.declared.writes.Kind.{Kind}
use Rattle.oak_model.specs.Cell.{kind_of, reply_of, state_after}
use Rattle.oak_core.specs.CallWrites.{MakesWrite}
use Rattle.point_ops.specs.Halting.{SetsValue}
use Rattle.point_ops.specs.PutKinds.{kind_by, put_by}
use Rattle.point_ops.specs.declared.puts.Puts.{Puts}
use Rattle.point_ops.specs.declared.puts.Puts.TheVariants.{Always, IfAbsent}

module _ (value : List ℕ) where
  pub puts_kind : (puts : Puts) (kind : Kind) → kind ≡ kind_by puts → kind_of (put_by puts value) ≡ Some kind
  puts_kind Always kind is = ap Some (sym is)
  puts_kind IfAbsent kind is = ap Some (sym is)

  pub says_new : (puts : Puts) → reply_of None (put_by puts value) ≡ New
  says_new Always = refl
  says_new IfAbsent = refl

  pub leaves_value : (puts : Puts) → state_after None (put_by puts value) ≡ Some value
  leaves_value Always = refl
  leaves_value IfAbsent = refl

  pub sets_value : (puts : Puts) → SetsValue (put_by puts value)
  sets_value Always = tt
  sets_value IfAbsent = tt

  pub makes_put : (puts : Puts) (kind : Kind) → kind ≡ kind_by puts → MakesWrite kind None (Some value)
  makes_put Always kind is = record { ask = put_by Always value; kind_is = puts_kind Always kind is; writes = refl; leaves = refl }
  makes_put IfAbsent kind is = record { ask = put_by IfAbsent value; kind_is = puts_kind IfAbsent kind is; writes = refl; leaves = refl }
