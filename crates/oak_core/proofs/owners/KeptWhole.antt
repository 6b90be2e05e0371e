-- All words that passes keep, those of rooms among them: each has its number, and none is kept twice.
use Rattle.std.proofs.Common.{◌≡◌, ℕ, ◌+◌, ◌≤◌, map, refl, subst, arith}
use Rattle.oak_model.specs.Counts.{total, one_if}
use Rattle.oak_model.specs.Kept.{KeptWord, keeps, AreTrueTo, KeptNumbersStand, renamed}
use Rattle.oak_model.specs.Limits.{Sizes}
use Rattle.oak_model.proofs.Counting.{total_append, total_map, total_zero}
use Rattle.oak_model.proofs.Lists.{at_map, at_unmap, each_append}
use Rattle.oak_model.proofs.RowLaws.{renamed_true, renamed_none, renamed_keeps}
use Rattle.oak_model.proofs.SumLaws.{total_same}
use Rattle.chunk_core.specs.KeptRooms.{kept_of_rooms}
use Rattle.chunk_core.specs.Rooms.{same_room_spot}
use Rattle.oak_core.specs.declared.states.PassState.{PassState}
use Rattle.oak_core.specs.Memory.{Memory, Spot, at_given, in_arena, in_headers, in_rooms, same_spot, read, memory}
use Rattle.oak_core.specs.PassState.{rooms_held, kept_of, kept_of_all}
use Rattle.oak_core.specs.Rule.{Rule}
use Rattle.oak_core.specs.TableState.{TableState}
use Rattle.oak_core.proofs.owners.KeptWords.{times, sum_of, times_in_rooms, unkept_by_all}

module _ (z : Sizes) (s : TableState) (r : Rule z s) where
  abbrev m : Memory
  m = memory z s.words

  -- how often a pass keeps a word as one of rooms
  abbrev in_its_rooms : Spot → PassState → ℕ
  in_its_rooms p v = times p (renamed in_rooms (kept_of_rooms v.rooms))

  both_parts : (p : Spot) → total (times p) (map kept_of_all s.states) ≡ total (times p) (map kept_of s.states) + total (in_its_rooms p) s.states
  both_parts p = let a = total_map kept_of_all (times p) s.states in let b = total_map kept_of (times p) s.states in let c = sum_of (λ (v : PassState). times p (kept_of v)) (in_its_rooms p) s.states in
      let e = total_same (λ (v : PassState). times p (kept_of_all v)) (λ (v : PassState). times p (kept_of v) + in_its_rooms p v) s.states (λ v. total_append (λ (w : KeptWord Spot). one_if (same_spot w.spot p)) (kept_of v) (renamed in_rooms (kept_of_rooms v.rooms))) in omega arith

  elsewhere : (p : Spot) → ((v : PassState) → in_its_rooms p v ≡ 0) → total (times p) (map kept_of_all s.states) ≤ 1
  elsewhere p none = let b = both_parts p in let n = total_zero (in_its_rooms p) s.states (λ j v _. none v) in let o = r.kept.once p in omega arith

  once : (p : Spot) → total (times p) (map kept_of_all s.states) ≤ 1
  once at_given = elsewhere at_given (λ v. renamed_none in_rooms same_spot at_given (kept_of_rooms v.rooms) (λ q. refl))
  once (in_arena p) = elsewhere (in_arena p) (λ v. renamed_none in_rooms same_spot (in_arena p) (kept_of_rooms v.rooms) (λ q. refl))
  once (in_headers p) = elsewhere (in_headers p) (λ v. renamed_none in_rooms same_spot (in_headers p) (kept_of_rooms v.rooms) (λ q. refl))
  once (in_rooms p) = let b = both_parts (in_rooms p) in let none = unkept_by_all (in_rooms p) (times_in_rooms p) s.states in
      let e = total_same (in_its_rooms (in_rooms p)) (λ (v : PassState). keeps same_room_spot p (kept_of_rooms v.rooms)) s.states (λ v. renamed_keeps in_rooms same_room_spot same_spot p (kept_of_rooms v.rooms) (λ q. refl)) in
      let a = total_map rooms_held (λ u. keeps same_room_spot p (kept_of_rooms u)) s.states in let c = total_map kept_of_rooms (keeps same_room_spot p) (map rooms_held s.states) in let o = r.kept_in_rooms.once p in omega arith

  pub kept_whole : KeptNumbersStand same_spot (read m) (map kept_of_all s.states)
  kept_whole = record {
    true_to = λ j ws at. let t = at_unmap kept_of_all s.states j ws at in subst (AreTrueTo (read m)) t.2
        (each_append (λ (w : KeptWord Spot). read m w.spot ≡ w.number) (kept_of t.0) (renamed in_rooms (kept_of_rooms t.0.rooms)) (r.kept.true_to j (kept_of t.0) (at_map kept_of s.states j t.0 t.1))
        (renamed_true in_rooms (read m) (kept_of_rooms t.0.rooms) (r.kept_in_rooms.true_to j (kept_of_rooms t.0.rooms) (at_map kept_of_rooms (map rooms_held s.states) j t.0.rooms (at_map rooms_held s.states j t.0 t.1)))));
    once = once;
  }
