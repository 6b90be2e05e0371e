-- The loads by which keys are compared, as what a search of links met: one key word for each key.
use Rattle.std.proofs.Common.{◌≡◌, ℕ, ◌+◌, List, [], ◌∷◌, ◌++◌, refl, ap, subst, arith}
use Rattle.oak_model.specs.Counts.{Each}
use Rattle.oak_model.specs.Limits.{Sizes}
use Rattle.link_search.specs.Met.{IsEntryLoad, LoadsKeys, Met, key_loads, met_key}
use Rattle.oak_core.specs.declared.states.PassState.{PassState}
use Rattle.oak_core.specs.Passes.{call_of, key as sizes, state}
use Rattle.chunk_ops.specs.declared.pinned_table.PinnedTable.{PinnedTable}
use Rattle.chunk_ops.specs.LinkedTable.{DoesEach, MeetsInTable}
use Rattle.chunk_ops.specs.Reads.{Compares, Reads, ReadsKey, joined, key_loads as word_loads, Met as Word}
use Rattle.chunk_ops.specs.Room.{Room}
use Rattle.chunk_ops.specs.RoomLoads.{IsPinnedTable, LoadsEach, LoadsInTable, room_of}
use Rattle.chunk_ops.proofs.ReadLaws.{loads_append, no_loads}

-- one key is read by one load of a key word
one_load : (i : ℕ) (a b : List ℕ) (ms : List Word) → ReadsKey i a b ms → word_loads ms ≡ 1
unfolding word_loads
one_load i a b ms x = let n = no_loads x.word 0 x.words x.each in let e : word_loads ms ≡ 1 + word_loads x.words = ap word_loads x.is in omega arith

pub split_loads : (z : Sizes) (call r : ℕ) (ms ns : List Word) (v w : PassState) → LoadsEach z call r (ms ++ ns) v w → (u : PassState) × LoadsEach z call r ms v u × LoadsEach z call r ns u w
split_loads z call r [] ns v w l = (v, refl, l)
split_loads z call r (m ∷ ms) ns v w l = let s = split_loads z call r ms ns l.0 w l.2 in (s.0, (l.0, l.1, s.1), s.2)

-- what was met from v to w: links and key words alone, as many key words as were loaded
record MeetsKeys (z : Sizes) (call r base place n : ℕ) (v w : PassState) : Type 0 where
  met : List Met
  does : DoesEach z call r base place met v w
  each : Each IsEntryLoad met
  many : key_loads met ≡ n

module _ (z : Sizes) (call r base place : ℕ) (k : List ℕ) (room : Room) where
  keys_met : (parts : List (List Word)) (v w : PassState) → Each (Compares k room) parts → LoadsEach z call r (joined parts) v w → MeetsKeys z call r base place (word_loads (joined parts)) v w
  unfolding word_loads key_loads
  keys_met [] v w e l = record { met = []; does = l; each = tt; many = refl }
  keys_met (m ∷ ms) v w e l = let s = split_loads z call r m (joined ms) v w l in let rest = keys_met ms s.0 w e.1 s.2 in let one = one_load e.0.0 k _ m e.0.2 in let all = loads_append m (joined ms) in let few = rest.many in record {
    met = met_key e.0.0 ∷ rest.met;
    does = (s.0, record { met = m; loads = s.1; few = omega arith }, rest.does);
    each = (tt, rest.each);
    many = omega arith;
  }

-- a search by halves
pub search_loads : (s t : PinnedTable) (k : List ℕ) (n : ℕ) → Reads IsPinnedTable room_of LoadsInTable (Compares k) n s t → LoadsKeys MeetsInTable n s t
search_loads s t k n d = let z : Sizes = sizes s.table.now in let r = d.each in let call = call_of s.pass.now in
    let m = keys_met z call s.room s.base s.place k (room_of t) r.0 (state s.pass.now) (state t.pass.now) r.2 (subst (λ (ms : List Word). LoadsEach z call s.room ms (state s.pass.now) (state t.pass.now)) r.1 d.on.loads) in
    let few = d.few in let same = ap word_loads r.1 in let many = m.many in (m.met, record { same = d.on.same; does = m.does }, m.each, (omega arith))

-- the comparison of one key
pub compare_loads : (s t : PinnedTable) (k : List ℕ) (i : ℕ) → Reads IsPinnedTable room_of LoadsInTable (Compares k) 1 s t → MeetsInTable s t (met_key i ∷ [])
compare_loads s t k i d = record { same = d.on.same; does = (state t.pass.now, record { met = d.more; loads = d.on.loads; few = d.few }, refl) }
