use Rattle.std.proofs.Common.{ℕ}
use Rattle.oak_core.specs.RoomCalls.{NamesCount, ClaimsEntry}
use Rattle.oak_core.specs.Passes.{state, key, call_of}
use Rattle.oak_core.proofs.room_steps.claim_entry.Given as goal

abbrev pub ghosts-exchange_said : goal.ghosts-exchange_said
ghosts-exchange_said a = record { told = λ n w. (r : ℕ) → NamesCount (key a.table.now) r a.word → ClaimsEntry (key a.table.now) (call_of a.pass.now) r a.old (state a.pass.now) n w }
