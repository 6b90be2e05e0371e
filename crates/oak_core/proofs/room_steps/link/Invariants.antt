use Rattle.std.proofs.Common.{ℕ, ◌≡◌, ◌+◌, Option}
use Rattle.oak_core.specs.RoomCalls.{NamesLink, LinksEntry}
use Rattle.oak_core.specs.Passes.{state, key, call_of}
use Rattle.oak_core.proofs.room_steps.link.Given as goal

abbrev pub ghosts-exchange_said : goal.ghosts-exchange_said
ghosts-exchange_said a = record { told = λ n w. (r : ℕ) (from : Option ℕ) (i : ℕ) → NamesLink (key a.table.now) r from a.word → a.new ≡ i + 1 → LinksEntry (key a.table.now) (call_of a.pass.now) r from i a.old (state a.pass.now) n w }
