-- How a fault is told.
use Rattle.std.specs.Prelude.{ℕ, List, codes}
use Rattle.oak_script.specs.declared.faults.What.{What}
use Rattle.oak_script.specs.declared.faults.What.TheVariants.{Head, AfterEnd, Word, Shape, Name, Hex, Key, Value, Recipe, Threads, Calls, Scans, NoEnd}

abbrev pub what_text : What → List ℕ
what_text Head = codes "head"
what_text AfterEnd = codes "after end"
what_text Word = codes "word"
what_text Shape = codes "shape"
what_text Name = codes "name"
what_text Hex = codes "hex"
what_text Key = codes "key"
what_text Value = codes "value"
what_text Recipe = codes "recipe"
what_text Threads = codes "threads"
what_text Calls = codes "calls"
what_text Scans = codes "scans"
what_text NoEnd = codes "no end"
