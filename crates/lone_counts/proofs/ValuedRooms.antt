-- The rooms of a table whose pass is alone and holds nothing: each is open, or adds nothing. Where each open one has a value in each entry, no entry has a floor.
use Rattle.std.proofs.Common.{◌≡◌, ℕ, ◌+◌, ◌-◌, ◌*◌, ◌<◌, List, [], ◌∷◌, sym, refl, ap, ◌∙◌, arith, inl}
use mathlib.Core.Logic.{dite}
use native.Mathlib.Decide.{ℕ_discrete}
use Rattle.pin_word.specs.PinWord.{state_of}
use Rattle.oak_model.specs.Counts.{Each, one_at, total}
use Rattle.oak_model.specs.Limits.{Sizes}
use Rattle.oak_model.proofs.Counting.{one_at-same, one_at-le, one_at-true, total_map}
use Rattle.oak_model.proofs.SumLaws.{times-one, times-none, total_in}
use Rattle.arena_core.specs.Place.{content}
use Rattle.chunk_core.specs.declared.holds.EntryWords.{EntryWords}
use Rattle.chunk_core.specs.declared.states.TheConstants.{OPEN, FROZEN}
use Rattle.chunk_core.specs.Covers.{cover_at, entry_at}
use Rattle.chunk_core.specs.CoverSums.{weight}
use Rattle.chunk_core.specs.LinkedEntries.{entries_in, first_numbers, linked}
use Rattle.chunk_core.specs.RoomHolds.{no_rooms}
use Rattle.chunk_core.specs.RoomReads.{copy_at, words_at}
use Rattle.chunk_core.specs.RoomRule.{in_room_state}
use Rattle.chunk_core.specs.ValueWord.{names_header}
use Rattle.chunk_core.proofs.EntryNumbers.{numbers_once, rows_total, take_rows}
use Rattle.oak_core.specs.declared.states.PassState.{PassState}
use Rattle.oak_core.specs.Memory.{Memory, memory}
use Rattle.oak_core.specs.Sweeping.{valueless}
use Rattle.lone_counts.specs.Entries.{entries_of, floored, floors}
use Rattle.lone_counts.specs.LoneTable.{AllValued, LoneTable}
use Rattle.lone_counts.proofs.Gathered.{gathered_total}
use Rattle.lone_counts.proofs.LoneSums.{no_room_sum}
use Rattle.lone_counts.proofs.NumberSums.{below_none}

none_frozen : (r : ℕ) → in_room_state r FROZEN no_rooms ≡ 0
unfolding total
none_frozen r = refl

-- where the numbers below n add nothing, none of them does
none_of_them : (f : ℕ → ℕ) (n : ℕ) (xs : List ℕ) → total f (first_numbers n) ≡ 0 → Each (λ i. i < n) xs → total f xs ≡ 0
unfolding total
none_of_them f n [] none few = refl
none_of_them f n (x ∷ xs) none few = let o = numbers_once n x few.0 in let t = total_in f x (first_numbers n) (omega arith) in let r = none_of_them f n xs none few.1 in omega arith

module _ (z : Sizes) (words : List ℕ) (v : PassState) (l : LoneTable z words v) where
  abbrev mem : Memory
  mem = memory z words

  pub weight_is : (r : ℕ) → weight (mem.rooms.pin r) ≡ one_at (state_of (mem.rooms.pin r)) OPEN
  weight_is r = let f = sym (l.moment.rule.rooms.held r FROZEN (inl refl)) ∙ no_room_sum z words v l (in_room_state r FROZEN) (none_frozen r) in
      let x : ℕ = one_at (state_of (mem.rooms.pin r)) OPEN in let y : ℕ = one_at (state_of (mem.rooms.pin r)) FROZEN in let f' : y ≡ 0 = f in let e : x + y ≡ x = omega arith in e

  -- a room that is a cover is open
  pub is_open : (r : ℕ) → 0 < weight (mem.rooms.pin r) → state_of (mem.rooms.pin r) ≡ OPEN
  is_open r some = let w = weight_is r in one_at-true (state_of (mem.rooms.pin r)) OPEN (omega arith)

  pub open_weight : (r : ℕ) → state_of (mem.rooms.pin r) ≡ OPEN → weight (mem.rooms.pin r) ≡ 1
  open_weight r e = weight_is r ∙ one_at-same (state_of (mem.rooms.pin r)) OPEN e

  -- where each entry in use of the room has a value, each linked one has
  room_floors : (r : ℕ) → weight (mem.rooms.pin r) ≡ 1 → valueless (copy_at z mem.rooms r) ≡ 0 → total floored (cover_at mem.rooms (content mem.arena.bytes) r).entries ≡ 0
  room_floors r w none = let o = l.moment.rule.rooms.ordered r w in let n : ℕ = entries_in (mem.rooms.count r) in
      total_map (entry_at mem.rooms (content mem.arena.bytes) r) floored (linked mem.rooms r)
      ∙ none_of_them (λ i. floored (entry_at mem.rooms (content mem.arena.bytes) r i)) n (linked mem.rooms r)
      (sym (rows_total (λ (e : EntryWords). 1 - names_header e.value) (words_at mem.rooms r) n)
      ∙ (ap (λ (es : List EntryWords). total (λ (e : EntryWords). 1 - names_header e.value) es) (sym (take_rows 0 n z.entries (words_at mem.rooms r) o.few)) ∙ none)) o.used

  pub no_floors : AllValued z words → floors (entries_of z mem) ≡ 0
  no_floors all = gathered_total floored (λ r. weight (mem.rooms.pin r)) (λ r. (cover_at mem.rooms (content mem.arena.bytes) r).entries) z.chunks
      ∙ below_none (λ r. weight (mem.rooms.pin r) * total floored (cover_at mem.rooms (content mem.arena.bytes) r).entries) z.chunks
      (λ r lt. let few = one_at-le (state_of (mem.rooms.pin r)) OPEN in let w = weight_is r in dite (ℕ_discrete (weight (mem.rooms.pin r)) 0)
      (λ none. times-none (weight (mem.rooms.pin r)) (total floored (cover_at mem.rooms (content mem.arena.bytes) r).entries) none)
      (λ some. let one : weight (mem.rooms.pin r) ≡ 1 = omega arith in times-one (weight (mem.rooms.pin r)) (total floored (cover_at mem.rooms (content mem.arena.bytes) r).entries) one ∙ room_floors r one (all r lt (is_open r (omega arith)))))
