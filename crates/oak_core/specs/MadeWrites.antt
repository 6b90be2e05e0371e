-- The writes that steps make: one that sets a header as the value of an entry, one that ends a lock, and one that marks a locked header dead.
use Rattle.std.specs.Prelude.{ℕ, ◌==◌, not, cond, Bool, true, false, List, [], ◌∷◌, Option, Some, None}
use Rattle.oak_model.specs.declared.writes.Kind.{Kind}
use Rattle.oak_model.specs.declared.writes.Kind.TheVariants as kinds
use Rattle.oak_model.specs.declared.writes.Write.{Write}
use Rattle.oak_model.specs.KeyNumber.{key_number}
use Rattle.header_core.specs.declared.holds.HeldAs.{HeldAs}
use Rattle.header_core.specs.declared.holds.HeldAs.TheVariants.{Locked}
use Rattle.header_core.specs.declared.holds.HeldHeader.{HeldHeader}
use Rattle.oak_core.specs.declared.states.KeyedWrite.{KeyedWrite}
use Rattle.oak_core.specs.declared.states.Knowledge.{Knowledge}
use Rattle.oak_core.specs.KeyReads.{value_in, home_of}
use Rattle.oak_core.specs.Learning.{wrote}

-- the header as it is held, or none
unfoldable pub held_header : ℕ → List HeldHeader → Option HeldHeader
held_header h [] = None
held_header h (r ∷ rs) = cond (r.header == h) (Some r) (held_header h rs)

-- a write of the life of the header h at the generation g
abbrev pub write_of : ℕ → ℕ → Bool → List ℕ → Write → KeyedWrite
write_of h g inserts key w = record { key = key; home = home_of h g; inserts = inserts; write = w }

-- the fresh header r becomes the value of the key
abbrev pub insertion : ℕ → ℕ → Kind → List ℕ → HeldHeader → KeyedWrite
insertion caller call kind key r = write_of r.header r.generation true key (record { stamp = r.stamp; caller = caller; call = call; kind = kind; after = Some (value_in r.place r.words) })

-- the locked header r is given up with the bytes that it has
abbrev pub over_write : ℕ → ℕ → Kind → HeldHeader → KeyedWrite
over_write caller call kind r = write_of r.header r.generation false r.key (record { stamp = r.stamp; caller = caller; call = call; kind = kind; after = Some (value_in r.place r.words) })

-- the locked header r is marked dead
abbrev pub removal : ℕ → ℕ → HeldHeader → KeyedWrite
removal caller call r = write_of r.header r.generation false r.key (record { stamp = r.stamp; caller = caller; call = call; kind = kinds.Remove; after = None })

-- the stamp was raised under the lock: the header was changed
abbrev pub is_changed : HeldAs → HeldHeader → Bool
is_changed (Locked at) r = not (at.stamp == r.stamp)
is_changed _ r = false

-- What the pass knows behind them. An unlock writes just where the header was changed.

abbrev pub wrote_where : Bool → KeyedWrite → List Knowledge → Knowledge → Knowledge
wrote_where is w qs q = cond is (wrote (key_number w.key) w qs q) q

abbrev pub wrote_over : ℕ → ℕ → Kind → Option HeldHeader → List Knowledge → Knowledge → Knowledge
wrote_over caller call kind None qs q = q
wrote_over caller call kind (Some r) qs q = wrote_where (is_changed r.held_as r) (over_write caller call kind r) qs q

abbrev pub wrote_removal : ℕ → ℕ → Option HeldHeader → List Knowledge → Knowledge → Knowledge
wrote_removal caller call None qs q = q
wrote_removal caller call (Some r) qs q = wrote (key_number r.key) (removal caller call r) qs q

abbrev pub wrote_insertion : ℕ → ℕ → Kind → Option (List ℕ) → Option HeldHeader → List Knowledge → Knowledge → Knowledge
wrote_insertion caller call kind (Some key) (Some r) qs q = wrote (key_number key) (insertion caller call kind key r) qs q
wrote_insertion caller call kind _ _ qs q = q
