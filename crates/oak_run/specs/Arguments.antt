-- What a call of a script asks of its recipe's argument.
use Rattle.std.specs.Prelude.{⊤}
use Rattle.oak_model.specs.Recipe.{IsArgument}
use Rattle.oak_script.specs.declared.scripts.Call.{Call}
use Rattle.oak_script.specs.declared.scripts.Call.TheVariants.{Put, Get, PutNew, Compute, Upsert, Remove, Hold, Look, Scan, Back}

-- the argument of a call's recipe is one
abbrev pub HasArguments : Call → Type 0
HasArguments (Put k v) = ⊤
HasArguments (Get k) = ⊤
HasArguments (PutNew k v) = ⊤
HasArguments (Compute k r n) = IsArgument r n
HasArguments (Upsert k v r n) = IsArgument r n
HasArguments (Remove k) = ⊤
HasArguments (Hold a k) = ⊤
HasArguments (Look a) = ⊤
HasArguments (Scan low high) = ⊤
HasArguments (Back low high) = ⊤
