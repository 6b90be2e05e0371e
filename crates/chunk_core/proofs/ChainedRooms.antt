-- A room that is chained: links reach all its entries in use, in their order.
use Rattle.std.proofs.Common.{◌≡◌, ℕ, ◌+◌, ◌<◌, ◌≤◌, List, sym, ap, ◌∙◌, arith}
use Rattle.std.specs.Prelude.{slice_index}
use Rattle.oak_model.specs.Counts.{rows}
use Rattle.oak_model.specs.Limits.{Sizes}
use Rattle.oak_model.proofs.Lists.{rows_at}
use Rattle.oak_model.proofs.RowLaws.{rows_map}
use Rattle.chunk_core.specs.declared.holds.EntryWords.{EntryWords}
use Rattle.chunk_core.specs.ChainedRooms.{IsChained}
use Rattle.chunk_core.specs.LinkedEntries.{entries_in, reached}
use Rattle.chunk_core.specs.RoomCopies.{word_held, value_held, next_held}
use Rattle.chunk_core.specs.RoomReads.{copy_at, words_at}
use Rattle.chunk_core.specs.Rooms.{RoomMemory}
use Rattle.chunk_core.proofs.EntryNumbers.{few_entries}
use Rattle.chunk_core.proofs.WholeChains.{whole_chain}

module _ (z : Sizes) (m : RoomMemory) (r : ℕ) where
  -- the words of an entry in the room's copy are the room's
  pub copied_word : (i : ℕ) → i < z.entries → word_held (copy_at z m r) i ≡ m.key r i
  copied_word i l = ap (λ (ws : List ℕ). slice_index ws i) (rows_map (λ (e : EntryWords). e.word) 0 z.entries (words_at m r)) ∙ (rows_at 0 z.entries i (λ k. m.key r k) 0 l ∙ ap (m.key r) (let q : 0 + i ≡ i = omega arith in q))

  pub copied_value : (i : ℕ) → i < z.entries → value_held (copy_at z m r) i ≡ m.value r i
  copied_value i l = ap (λ (ws : List ℕ). slice_index ws i) (rows_map (λ (e : EntryWords). e.value) 0 z.entries (words_at m r)) ∙ (rows_at 0 z.entries i (λ k. m.value r k) 0 l ∙ ap (m.value r) (let q : 0 + i ≡ i = omega arith in q))

  pub copied_next : (i : ℕ) → i < z.entries → next_held (copy_at z m r) i ≡ m.next r i
  copied_next i l = ap (λ (ws : List ℕ). slice_index ws i) (rows_map (λ (e : EntryWords). e.next) 0 z.entries (words_at m r)) ∙ (rows_at 0 z.entries i (λ k. m.next r k) 0 l ∙ ap (m.next r) (let q : 0 + i ≡ i = omega arith in q))

  module _ (few : entries_in (m.count r) ≤ z.entries) (chained : IsChained z (copy_at z m r)) where
    -- from the first link on, links reach the entries in use, from the first to the last
    pub chained_links : reached (m.next r) (m.first r) ≡ rows 0 (entries_in (m.count r)) (λ j. j)
    chained_links = ap (reached (m.next r)) chained.begins
        ∙ whole_chain (entries_in (m.count r)) (m.next r) (λ i l. sym (copied_next i (omega arith)) ∙ chained.links i l) (λ i e. sym (copied_next i (omega arith)) ∙ chained.ends i e) (few_entries (m.count r))
