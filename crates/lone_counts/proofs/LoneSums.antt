-- Of a table whose pass is alone and holds nothing: the sums over passes vanish, and those over covers are sums over the entries of the rooms.
use Rattle.std.proofs.Common.{◌≡◌, ℕ, ◌+◌, ◌*◌, List, map, sym, refl, ap, ◌∙◌, arith}
use mathlib.Core.Logic.{dite}
use mathlib.Core.Option.{some, some-injective}
use lib.ListN.{get_elem?}
use native.Mathlib.Decide.{ℕ_discrete}
use Rattle.oak_model.specs.Counts.{total, below}
use Rattle.oak_model.specs.Limits.{Sizes}
use Rattle.oak_model.proofs.Counting.{total_zero}
use Rattle.oak_model.proofs.Lists.{at_unmap}
use Rattle.arena_core.specs.declared.blocks.HeldBlocks.{HeldBlocks}
use Rattle.arena_core.specs.HeldBlocks.{no_blocks}
use Rattle.arena_core.specs.Place.{content}
use Rattle.chunk_core.specs.declared.holds.RoomHolds.{RoomHolds}
use Rattle.chunk_core.specs.Covers.{Cover, Entry, cover_at}
use Rattle.chunk_core.specs.CoverSums.{all_of, each, weight}
use Rattle.chunk_core.specs.RoomHolds.{claims_on, no_rooms}
use Rattle.chunk_core.proofs.CoverLaws.{covers_parts, moves}
use Rattle.header_core.specs.declared.holds.HeaderHolds.{HeaderHolds}
use Rattle.header_core.specs.HeaderHolds.{no_headers}
use Rattle.oak_core.specs.declared.states.PassState.{PassState}
use Rattle.oak_core.specs.Memory.{Memory, memory}
use Rattle.oak_core.specs.PassState.{blocks_of, headers_held, rooms_held, spent_state}
use Rattle.oak_core.specs.TableState.{TableState}
use Rattle.oak_core.proofs.seats.Alone.{others_are}
use Rattle.lone_counts.specs.Entries.{entries_of}
use Rattle.lone_counts.specs.LoneTable.{LoneTable}
use Rattle.lone_counts.proofs.Gathered.{gathered_total}

no_moves : (F : Cover → ℕ) → moves F no_rooms ≡ 0
unfolding total
no_moves F = refl

module _ (z : Sizes) (words : List ℕ) (v : PassState) (l : LoneTable z words v) where
  abbrev mem : Memory
  mem = memory z words

  abbrev pub table : TableState
  table = record { words = words; states = l.moment.states }

  -- a part of each pass's state that is none of this pass's, and none of what is spent, is none of all
  each_part : {A : Type 0} (part : PassState → A) (none : A) → part v ≡ none → part spent_state ≡ none → (j : ℕ) (a : A) → get_elem? (map part l.moment.states) j ≡ some a → a ≡ none
  each_part part none mine gone j a e = let o = at_unmap part l.moment.states j a e in sym o.2 ∙ dite (ℕ_discrete j l.moment.seat)
      (λ same. let is : v ≡ o.0 = some-injective v o.0 (sym l.moment.here ∙ (ap (get_elem? l.moment.states) (sym same) ∙ o.1)) in ap part (sym is) ∙ mine)
      (λ ne. ap part (others_are z table l.moment.rule l.moment.seat v l.moment.here l.alone j o.0 ne o.1) ∙ gone)

  pub no_header_sum : (f : HeaderHolds → ℕ) → f no_headers ≡ 0 → total f (map headers_held l.moment.states) ≡ 0
  no_header_sum f none = total_zero f (map headers_held l.moment.states) (λ j a e. ap f (each_part headers_held no_headers l.idle.headers refl j a e) ∙ none)

  pub no_block_sum : (f : HeldBlocks → ℕ) → f no_blocks ≡ 0 → total f (map blocks_of l.moment.states) ≡ 0
  no_block_sum f none = total_zero f (map blocks_of l.moment.states) (λ j a e. ap f (each_part blocks_of no_blocks l.idle.blocks refl j a e) ∙ none)

  pub no_room_sum : (f : RoomHolds → ℕ) → f no_rooms ≡ 0 → total f (map rooms_held l.moment.states) ≡ 0
  no_room_sum f none = total_zero f (map rooms_held l.moment.states) (λ j a e. ap f (each_part rooms_held no_rooms l.idle.rooms refl j a e) ∙ none)

  -- no entry is claimed
  pub unclaimed : (r i : ℕ) → total (claims_on r i) (map rooms_held l.moment.states) ≡ 0
  unclaimed r i = no_room_sum (claims_on r i) refl

  -- all covers are rooms
  pub rooms_sum : (F : Cover → ℕ) → all_of z mem.rooms (content mem.arena.bytes) (map rooms_held l.moment.states) F ≡ below (λ r. weight (mem.rooms.pin r) * F (cover_at mem.rooms (content mem.arena.bytes) r)) z.chunks
  rooms_sum F = let p = covers_parts z.chunks mem.rooms.pin (cover_at mem.rooms (content mem.arena.bytes)) (map rooms_held l.moment.states) F in let n = no_room_sum (moves F) (no_moves F) in
      let x : ℕ = all_of z mem.rooms (content mem.arena.bytes) (map rooms_held l.moment.states) F in
      let y : ℕ = below (λ r. weight (mem.rooms.pin r) * F (cover_at mem.rooms (content mem.arena.bytes) r)) z.chunks in
      let w : ℕ = total (moves F) (map rooms_held l.moment.states) in
      let p' : x ≡ y + w = p in let n' : w ≡ 0 = n in let r : x ≡ y = omega arith in r

  -- so a sum over the entries of all covers is one over the entries of the rooms
  pub entries_sum : (g : Entry → ℕ) → all_of z mem.rooms (content mem.arena.bytes) (map rooms_held l.moment.states) (each (λ s x. g x)) ≡ total g (entries_of z mem)
  entries_sum g = rooms_sum (each (λ s x. g x)) ∙ sym (gathered_total g (λ r. weight (mem.rooms.pin r)) (λ r. (cover_at mem.rooms (content mem.arena.bytes) r).entries) z.chunks)
