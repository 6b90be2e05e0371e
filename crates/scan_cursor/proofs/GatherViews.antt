-- What a call read of keys stays read in it, and calls that load entries, one behind the other.
use Rattle.std.proofs.Common.{◌≡◌, ℕ, List, sym, refl, subst, None}
use Rattle.oak_model.specs.KeyNumber.{key_number}
use Rattle.oak_model.specs.Limits.{Sizes}
use Rattle.oak_model.specs.State.{State}
use Rattle.chunk_core.specs.declared.holds.RoomHolds.{RoomHolds}
use Rattle.chunk_core.specs.MayOnRooms.{FindsEntry}
use Rattle.oak_core.specs.declared.states.PassState.{PassState}
use Rattle.oak_core.specs.CallSteps.{Learns}
use Rattle.oak_core.specs.KeyReads.{home_of}
use Rattle.oak_core.specs.LastReads.{ReadsLast}
use Rattle.oak_core.specs.QuietSteps.{Quiet}
use Rattle.oak_core.proofs.known.LoadedIn.{loaded_in_has}
use Rattle.oak_core.proofs.calls.CallSteps.{stands_learns}
use Rattle.chunk_ops.specs.declared.entries.Content.TheVariants.{Value}
use Rattle.chunk_ops.specs.Contents.{FindsContent, FindsLife}
use Rattle.chunk_ops.specs.Finds.{FoundAbsent}
use Rattle.chunk_ops.specs.PinRecords.{HasEntry, OnlyLearns, OnlyMeets, pin_or}
use Rattle.value_ops.proofs.LoadedViews.{known_loaded, names_home}
use Rattle.scan_cursor.specs.Gathered.{KnewLast, Loaded}
use Rattle.scan_cursor.specs.Views.{KnowsLast, Later, ReadsKey, view_of}
use Rattle.scan_cursor.proofs.ReadingViews.{later_both, later_by, read_before, read_behind}

-- ---- views of one call

module _ (z : Sizes) (call : ℕ) where
  pub later_of : (v w : PassState) → Learns call v w → Quiet v w → Later (view_of z call v) (view_of z call w)
  later_of v w l q = later_by z call call v w refl l q

  pub later_only : (v w : PassState) → OnlyLearns call v w → Later (view_of z call v) (view_of z call w)
  later_only v w o = later_of v w o.learns o.quiet

  pub read_until : (u v w : PassState) (q : List ℕ) (at : ℕ) (s : State) → Later (view_of z call v) (view_of z call w) → ReadsKey (view_of z call u) (view_of z call v) q at s → ReadsKey (view_of z call u) (view_of z call w) q at s
  read_until u v w q at s l r = read_behind q at s (view_of z call u) (view_of z call v) (view_of z call w) l r

  pub read_from : (u v w : PassState) (q : List ℕ) (at : ℕ) (s : State) → Later (view_of z call u) (view_of z call v) → ReadsKey (view_of z call v) (view_of z call w) q at s → ReadsKey (view_of z call u) (view_of z call w) q at s
  read_from u v w q at s l r = read_before q at s (view_of z call u) (view_of z call v) (view_of z call w) l r

  -- a key that was found absent, by a room's base or by its own floor

  pub absent_read : (v w : PassState) (q : List ℕ) (base : ℕ) → FoundAbsent call (key_number q) base v w → ReadsKey (view_of z call v) (view_of z call w) q base None
  absent_read v w q base a = let s = a.absent.sighted in record { read = a.absent.read; sighted = (s.more, s.sights, record { sight = s.sighted.sight; there = s.sighted.there; just = s.sighted.just }) }

  pub last_read : (v w : PassState) (q : List ℕ) (at : ℕ) (s : State) → ReadsLast (key_number q) at s v w → ReadsKey (view_of z call v) (view_of z call w) q at s
  last_read v w q at s r = record { read = r.read; sighted = r.sighted }

  -- a life that an entry named
  pub knows_last : (r i h g : ℕ) (q : List ℕ) (v w : PassState) → FindsContent z call r i (Value h g) v w → FindsLife z call r i q h g v w → KnowsLast q h g (view_of z call w)
  knows_last r i h g q v w c f = record {
    inside = c.usable.0;
    loaded = known_loaded call h g q w.knowledge (names_home h g c.step.number c.says.0 c.says.1 c.says.2) f.life f.known;
    named = loaded_in_has call h g (home_of h g) q (names_home h g c.step.number c.says.0 c.says.1 c.says.2) w.knowledge.loaded f.life;
    last = f.last;
  }

  -- what was known once was known before each later moment
  pub knew_until : (u v w : PassState) (x : Loaded) → Later (view_of z call v) (view_of z call w) → KnewLast (view_of z call u) (view_of z call v) x → KnewLast (view_of z call u) (view_of z call w) x
  knew_until u v w x l (m, a, b, k) = (m, a, later_both m (view_of z call v) (view_of z call w) b l, k)

-- ---- calls that learn

pub learns_only : (call : ℕ) (v : PassState) (w : PassState) → OnlyMeets call v w → OnlyLearns call v w
learns_only call v w o = record { learns = stands_learns call v w o.stands; quiet = o.quiet; blocks = o.blocks; headers = o.headers; rooms = o.rooms; still = o.still }

pub learned_in : (first now : ℕ) (v w : PassState) → now ≡ first → OnlyLearns now v w → OnlyLearns first v w
learned_in first now v w e o = subst (λ (k : ℕ). OnlyLearns k v w) e o

-- the pass has its rooms as they were, so the pin has its entries
pub entry_kept : (r i : ℕ) (q : List ℕ) (v w : PassState) → w.rooms ≡ v.rooms → HasEntry r i q v → HasEntry r i q w
entry_kept r i q v w e h = record { entry = h.entry; finds = subst (λ (a : RoomHolds). FindsEntry r i a (pin_or a.pin) h.entry) (sym e) h.finds; key_is = h.key_is }
