use Rattle.std.proofs.Common.{◌≡◌, ℕ, ◌<◌}
use Rattle.chunk_ops.specs.Comparing.{AreTied, Loaded}
use Rattle.chunk_ops.specs.Room.{HasFound, key_at}
use Rattle.arena_core.specs.Words.{word_at}
use Rattle.chunk_ops.proofs.comparing.compare_behind.Given as goal

abbrev pub invariant-loop-i : goal.invariant-loop-i
invariant-loop-i g l = record {
  pin : g.R.SearchedRoom.pinned l.room;
  same : g.R.SearchedRoom.room l.room ≡ g.R.SearchedRoom.room l.fn.room;
  agree : (e : ℕ) → HasFound (g.R.SearchedRoom.room l.fn.room) e → l.place ≡ (g.R.SearchedRoom.room l.fn.room).place e
      → AreTied l.from l.key (key_at (g.R.SearchedRoom.room l.fn.room) e)
      → (j : ℕ) → j < l.i → word_at l.key j ≡ word_at (key_at (g.R.SearchedRoom.room l.fn.room) e) j;
  words : (s : _) (e : ℕ) → Loaded g.R.SearchedRoom.meets e l.place l.from s l.fn.room → Loaded g.R.SearchedRoom.meets e l.place l.i s l.room;
}
