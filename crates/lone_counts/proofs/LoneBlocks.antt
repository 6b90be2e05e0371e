-- Of a table whose pass is alone and holds nothing: headers and linked entries alone own blocks.
use Rattle.std.proofs.Common.{◌≡◌, ℕ, ◌+◌, ◌-◌, ◌*◌, nat_lt, List, map, sym, refl, ap, ◌∙◌, arith, lt-ltb}
use mathlib.Core.Logic.{dite}
use mathlib.Core.Option.{some}
use lib.ListN.{get_elem?}
use native.Mathlib.Decide.{ℕ_discrete}
use Rattle.oak_model.specs.Counts.{one_if, total}
use Rattle.oak_model.specs.Limits.{Sizes}
use Rattle.oak_model.proofs.Counting.{total_at}
use Rattle.oak_model.proofs.SumLaws.{times-none, times-one}
use Rattle.arena_core.specs.Arena.{at_bits}
use Rattle.arena_core.specs.Blocks.{holds}
use Rattle.arena_core.specs.HeldBlocks.{no_blocks}
use Rattle.arena_core.specs.Place.{content, names_block}
use Rattle.chunk_core.specs.Covers.{Entry, cover_at, moving_of, used_at}
use Rattle.chunk_core.specs.CoverSums.{all_of, each, owners_in_rooms, owning, weight}
use Rattle.chunk_core.proofs.CoverLaws.{covers_same, weight-le}
use Rattle.chunk_core.proofs.UsedEntries.{used_owners}
use Rattle.oak_core.specs.declared.states.PassState.{PassState}
use Rattle.oak_core.specs.EntryOwners.{entry_owners, is_key_word}
use Rattle.oak_core.specs.Memory.{Memory, in_arena, memory}
use Rattle.oak_core.specs.Owners.{other_owners}
use Rattle.oak_core.specs.PassState.{blocks_of, rooms_held}
use Rattle.oak_core.proofs.owners.EntryBlocks.{key_some}
use Rattle.oak_core.proofs.held.HeaderStanding.{number_small}
use Rattle.oak_core.proofs.keyed.KeyPlaces.{key_word_few}
use Rattle.lone_counts.specs.Entries.{entries_of, has_key_block}
use Rattle.lone_counts.specs.LoneTable.{LoneTable}
use Rattle.lone_counts.specs.Premises.{BlocksOwned, owners}
use Rattle.lone_counts.proofs.LoneSums.{entries_sum, no_block_sum, unclaimed}
use Rattle.lone_counts.proofs.Sums.{total_same}

none_held : (c b : ℕ) → holds c b no_blocks ≡ 0
unfolding total
none_held c b = refl

module _ (z : Sizes) (words : List ℕ) (v : PassState) (l : LoneTable z words v) where
  abbrev mem : Memory
  mem = memory z words

  abbrev es : List Entry
  es = entries_of z mem

  abbrev bytes : ℕ → List ℕ
  bytes = content mem.arena.bytes

  placed : total (λ (x : Entry). 1 - is_key_word x.word) es ≡ 0
  placed = sym (entries_sum z words v l (λ (x : Entry). 1 - is_key_word x.word)) ∙ l.moment.rule.covers.placed

  -- each key word is one
  pub key_word : (j : ℕ) (x : Entry) → get_elem? es j ≡ some x → is_key_word x.word ≡ 1
  key_word j x at = let t = total_at (λ (y : Entry). 1 - is_key_word y.word) es j x at in let p = placed in let few = key_word_few x.word in omega arith

  -- the entries in use of a room own what its linked ones own
  used_sum : (names_it : ℕ → ℕ) → owners_in_rooms z mem.rooms bytes (map rooms_held l.moment.states) names_it ≡ all_of z mem.rooms bytes (map rooms_held l.moment.states) (each (owning names_it))
  used_sum names_it = covers_same z.chunks mem.rooms.pin mem.rooms.pin (cover_at mem.rooms bytes) (used_at mem.rooms bytes) (map moving_of (map rooms_held l.moment.states)) (each (owning names_it)) (λ j _. one j)
    where
      one : (j : ℕ) → weight (mem.rooms.pin j) * each (owning names_it) (used_at mem.rooms bytes j) ≡ weight (mem.rooms.pin j) * each (owning names_it) (cover_at mem.rooms bytes j)
      one j = dite (ℕ_discrete (weight (mem.rooms.pin j)) 0)
          (λ e. times-none (weight (mem.rooms.pin j)) (each (owning names_it) (used_at mem.rooms bytes j)) e ∙ sym (times-none (weight (mem.rooms.pin j)) (each (owning names_it) (cover_at mem.rooms bytes j)) e))
          (λ ne. let le = weight-le (mem.rooms.pin j) in ap (λ (t : ℕ). weight (mem.rooms.pin j) * t) (used_owners z mem.rooms bytes (map rooms_held l.moment.states) l.moment.rule.rooms j (omega arith) (unclaimed z words v l j) names_it))

  entry_blocks : (c b : ℕ) → entry_owners z mem.rooms bytes (map rooms_held l.moment.states) c b ≡ total (has_key_block c b) es
  entry_blocks c b = used_sum (names_block c b) ∙ entries_sum z words v l (λ (x : Entry). one_if (nat_lt 0 x.word) * names_block c b x.word)
      ∙ total_same (λ (x : Entry). one_if (nat_lt 0 x.word) * names_block c b x.word) (has_key_block c b) es (λ j x at. times-one (one_if (nat_lt 0 x.word)) (names_block c b x.word) (ap one_if (lt-ltb 0 x.word (key_some x.word (let k = key_word j x at in omega arith)))))

  owners_are : (c b : ℕ) → total (holds c b) (map blocks_of l.moment.states) + (other_owners z mem.headers c b + entry_owners z mem.rooms bytes (map rooms_held l.moment.states) c b) ≡ owners z mem.headers es c b
  owners_are c b = let n = no_block_sum z words v l (holds c b) (none_held c b) in let e = entry_blocks c b in
      let x : ℕ = total (holds c b) (map blocks_of l.moment.states) in let y : ℕ = other_owners z mem.headers c b in let w : ℕ = entry_owners z mem.rooms bytes (map rooms_held l.moment.states) c b in let u : ℕ = total (has_key_block c b) es in
      let n' : x ≡ 0 = n in let e' : w ≡ u = e in let r : x + (y + w) ≡ y + u = omega arith in r

  pub blocks_owned : BlocksOwned z mem.arena.bits mem.headers es
  blocks_owned = record {
    small = λ c i. number_small z words l.moment.rule.words.small (in_arena (at_bits c i));
    owned = λ c b. l.moment.rule.blocks.owned c b ∙ owners_are c b;
    inside = λ c b le. sym (owners_are c b) ∙ l.moment.rule.blocks.inside c b le;
  }
