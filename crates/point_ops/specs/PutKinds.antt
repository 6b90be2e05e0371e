-- What a put asks of a key's cell, and the kind of its writes.
use Rattle.std.specs.Prelude.{ℕ, List}
use Rattle.oak_model.specs.declared.cells.CellCall.{CellCall}
use Rattle.oak_model.specs.declared.cells.CellCall.TheVariants.{Put, PutNew}
use Rattle.oak_model.specs.declared.writes.Kind.{Kind}
use Rattle.oak_model.specs.declared.writes.Kind.TheVariants as kinds
use Rattle.point_ops.specs.declared.puts.Puts.{Puts}
use Rattle.point_ops.specs.declared.puts.Puts.TheVariants.{Always, IfAbsent}

abbrev pub put_by : Puts → List ℕ → CellCall
put_by Always value = Put value
put_by IfAbsent value = PutNew value

abbrev pub kind_by : Puts → Kind
kind_by Always = kinds.Put
kind_by IfAbsent = kinds.PutNew
