-- The key of a pinned room's bound, loaded word by word.
use Rattle.std.proofs.Common.{◌≡◌, ℕ, ◌+◌, ◌-◌, ◌*◌, ◌<◌, ◌≤◌, List, get_or, set, take, sym, ap, ◌∙◌, arith}
use Rattle.oak_model.specs.WordBytes.{word_bytes}
use Rattle.arena_core.specs.Words.{word_of}
use Rattle.chunk_core.specs.declared.holds.PinnedRoom.{PinnedRoom}
use Rattle.chunk_ops.specs.declared.bounds.Bound.{Bound}
use Rattle.chunk_ops.specs.declared.stored.StoredKey.{StoredKey}
use Rattle.chunk_ops.specs.PinnedBounds.{bound_words, bound_length, bound_bytes}
use Rattle.chunk_ops.specs.PinRecords.{HasBounds}
use Rattle.chunk_ops.specs.Stored.{IsStored}
use Rattle.chunk_ops.proofs.BoundWords.{bound_few, bound_long, bound_small, bound_part}
use Rattle.chunk_ops.proofs.StoredLaws.{Filled, filled_more, filled_all}

module _ (p : PinnedRoom) (h : HasBounds p) (b : Bound) where
  -- one word more was loaded under the pin, and cut behind the last byte
  pub bound_filled : (n i x y : ℕ) (q : PinnedRoom) (ws : List ℕ) → n ≡ bound_length b p → 8 * i < n → q ≡ p → x ≡ get_or (bound_words b q) (1 + i) 0 → y ≡ word_of (take (n - 8 * i) (word_bytes x))
      → Filled (bound_bytes b p) i ws → Filled (bound_bytes b p) (i + 1) (set ws i y)
  bound_filled n i x y q ws long lt same found cut filled = let few = bound_few p h b in
      filled_more (bound_bytes b p) ws i y filled (omega arith) (cut ∙ ap word_of (bound_part p h b i x n long lt (found ∙ ap (λ (s : PinnedRoom). get_or (bound_words b s) (1 + i) 0) same)))

  -- all words that the bound has were loaded
  pub bound_stored : (n i : ℕ) (ws : List ℕ) (k : StoredKey) → n ≡ bound_length b p → n ≤ 8 * i → Filled (bound_bytes b p) i ws → k ≡ record { words = ws; length = n } → IsStored k (bound_bytes b p)
  bound_stored n i ws k is all filled made = let few = bound_few p h b in let long = bound_long p h b in record {
    words = ap (λ (x : StoredKey). x.words) made ∙ filled_all (bound_bytes b p) ws i filled (omega arith);
    long = ap (λ (x : StoredKey). x.length) made ∙ (is ∙ sym long);
    few = omega arith;
    bytes = bound_small p h b;
  }
