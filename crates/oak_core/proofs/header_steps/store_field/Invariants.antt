use Rattle.std.proofs.Common.{ℕ}
use Rattle.oak_core.specs.HeaderCalls.{HeaderField, field_step, NamesField, StoresField}
use Rattle.oak_core.specs.Step.{MayOnHeaders}
use Rattle.oak_core.specs.Passes.{state, key, call_of}
use Rattle.oak_core.proofs.header_steps.store_field.Given as goal

abbrev pub ghosts-store_said : goal.ghosts-store_said
ghosts-store_said a = record { told = λ _ w. (f : HeaderField) (h : ℕ) → NamesField (key a.table.now) f h a.word → MayOnHeaders (key a.table.now) (field_step f h a.value) (state a.pass.now) → StoresField (key a.table.now) (call_of a.pass.now) f h a.value (state a.pass.now) w }
