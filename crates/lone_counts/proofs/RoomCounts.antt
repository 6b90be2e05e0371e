-- How many keys the map of a pass that is alone has: as many as its rooms have entries, where each room is open and each entry has a key and a value.
use Rattle.std.proofs.Common.{◌≡◌, ℕ, zero, suc, ◌+◌, ◌*◌, ◌<◌, List, length, [], ◌∷◌, map, refl, ◌∙◌, subst, arith}
use Rattle.pin_word.specs.PinWord.{state_of}
use Rattle.oak_model.specs.declared.replies.Pair.{Pair}
use Rattle.oak_model.specs.Counts.{below, one_at, total}
use Rattle.oak_model.specs.Limits.{Sizes}
use Rattle.oak_model.proofs.Counting.{below_same, total_map}
use Rattle.oak_model.proofs.SumLaws.{times-one}
use Rattle.arena_core.specs.Place.{content}
use Rattle.chunk_core.specs.declared.states.TheConstants.{OPEN}
use Rattle.chunk_core.specs.Covers.{Entry, cover_at, entry_at}
use Rattle.chunk_core.specs.CoverSums.{weight}
use Rattle.chunk_core.specs.LinkedEntries.{entries_in, first_numbers, linked}
use Rattle.chunk_core.proofs.ChainedRooms.{copied_word}
use Rattle.chunk_core.proofs.Chains.{total_spread}
use Rattle.chunk_core.proofs.UsedEntries.{keyed_linked, numbers_same}
use Rattle.oak_core.specs.declared.states.PassState.{PassState}
use Rattle.oak_core.specs.Memory.{Memory, memory}
use Rattle.oak_core.specs.PassState.{rooms_held}
use Rattle.lone_counts.specs.Entries.{entries_of, floored, valued}
use Rattle.lone_counts.specs.LoneTable.{AllKeyed, AllValued, LoneTable}
use Rattle.lone_counts.specs.Maps.{IsMapOf, last_states}
use Rattle.lone_counts.proofs.ByClass.{valued-le}
use Rattle.lone_counts.proofs.Gathered.{gathered_total}
use Rattle.lone_counts.proofs.LoneSums.{unclaimed}
use Rattle.lone_counts.proofs.LoneTables.{table_stands}
use Rattle.lone_counts.proofs.Used.{entries_law}
use Rattle.lone_counts.proofs.ValuedRooms.{no_floors, open_weight}

-- entries with a value and those without are all
both_kinds : (es : List Entry) → total valued es + total floored es ≡ total (λ _. 1) es
unfolding total
both_kinds [] = refl
both_kinds (e ∷ es) = let l = valued-le e in let t = both_kinds es in omega arith

-- there are n numbers below n
first_ones : (n : ℕ) → total (λ i. 1) (first_numbers n) ≡ n
unfolding total first_numbers
first_ones zero = refl
first_ones (suc n) = let t = first_ones n in omega arith

module _ (z : Sizes) (words : List ℕ) (v : PassState) (l : LoneTable z words v) (open_all : (r : ℕ) → r < z.chunks → state_of ((memory z words).rooms.pin r) ≡ OPEN) (all : AllValued z words) (keyed : AllKeyed z words) where
  abbrev mem : Memory
  mem = memory z words

  abbrev entries : ℕ → List Entry
  entries r = (cover_at mem.rooms (content mem.arena.bytes) r).entries

  -- each entry in use is linked
  used_ones : (r : ℕ) → r < z.chunks → total (λ i. 1) (linked mem.rooms r) ≡ entries_in (mem.rooms.count r)
  used_ones r lt = let w = open_weight z words v l r (open_all r lt) in let o = l.moment.rule.rooms.ordered r w in let n : ℕ = entries_in (mem.rooms.count r) in
      total_spread (λ i. 1) n (linked mem.rooms r) o.used ∙ (numbers_same (λ i. total (λ j. one_at j i) (linked mem.rooms r) * 1) (λ i. 1) n one ∙ first_ones n)
    where
      one : (i : ℕ) → i < entries_in (mem.rooms.count r) → total (λ j. one_at j i) (linked mem.rooms r) * 1 ≡ 1
      one i few = let w = open_weight z words v l r (open_all r lt) in let o = l.moment.rule.rooms.ordered r w in let most = o.few in
          let key : 0 < mem.rooms.key r i = subst (λ (x : ℕ). 0 < x) (copied_word z mem.rooms r i (omega arith)) (keyed r lt (open_all r lt) i few) in
          let is = keyed_linked z mem.rooms (content mem.arena.bytes) (map rooms_held l.moment.states) l.moment.rule.rooms r w (unclaimed z words v l r) i few key in times-one (total (λ j. one_at j i) (linked mem.rooms r)) 1 is

  room_total : (r : ℕ) → r < z.chunks → weight (mem.rooms.pin r) * total (λ _. 1) (entries r) ≡ entries_in (mem.rooms.count r)
  room_total r lt = times-one (weight (mem.rooms.pin r)) (total (λ _. 1) (entries r)) (open_weight z words v l r (open_all r lt))
      ∙ (total_map (entry_at mem.rooms (content mem.arena.bytes) r) (λ _. 1) (linked mem.rooms r) ∙ used_ones r lt)

  pub keys_are_entries : (m : List Pair) → IsMapOf (last_states v) m → length m ≡ below (λ r. entries_in (mem.rooms.count r)) z.chunks
  keys_are_entries m is = let a : length m ≡ total valued (entries_of z mem) = entries_law z mem.arena.bits mem.headers (entries_of z mem) (last_states v) (table_stands z words v l) m is in
      let b = both_kinds (entries_of z mem) in let n = no_floors z words v l all in
      let g = gathered_total (λ _. 1) (λ r. weight (mem.rooms.pin r)) entries z.chunks ∙ below_same (λ r. weight (mem.rooms.pin r) * total (λ _. 1) (entries r)) (λ r. entries_in (mem.rooms.count r)) z.chunks room_total in omega arith
