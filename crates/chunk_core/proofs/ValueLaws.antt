-- The value word of a linked entry changes: the one law, at each number that is added up.
use Rattle.std.proofs.Common.{◌≡◌, ◌≢◌, ℕ, ◌+◌, ◌-◌, ◌*◌, ◌<◌, ◌≤◌, ◌==◌, ◌&&◌, cond, Bool, true, List, sym, refl, ap, ◌∙◌, arith, eq-eqb, ne_eqb}
use mathlib.Core.Logic.{dite}
use native.Mathlib.Decide.{ℕ_discrete}
use Rattle.chunk_core.specs.declared.holds.RoomHolds.{RoomHolds}
use Rattle.oak_model.specs.Counts.{one_at, total, put}
use Rattle.oak_model.specs.Limits.{Sizes}
use Rattle.oak_model.proofs.Changes.{Change}
use Rattle.oak_model.proofs.Counting.{one_at-other}
use Rattle.oak_model.proofs.PutLaws.{put-here, put-else}
use Rattle.oak_model.proofs.SumLaws.{total_put, times-none}
use Rattle.chunk_core.specs.CoverRule.{CoversPartition}
use Rattle.chunk_core.specs.CoverSums.{each, weight, has_key, word_for, stray, all_of, word_of, base_of, keyless}
use Rattle.chunk_core.specs.Covers.{Entry, Cover, cover_at, span_in, entry_at, key_at}
use Rattle.chunk_core.specs.LinkedEntries.{linked}
use Rattle.chunk_core.specs.RoomStep.{put_room}
use Rattle.chunk_core.specs.Rooms.{RoomMemory, at_value}
use Rattle.chunk_core.specs.Spans.{Span, within}
use Rattle.chunk_core.specs.ValueWord.{names_header}
use Rattle.chunk_core.proofs.CoverFacts.{entry_word}
use Rattle.chunk_core.proofs.RoomStores.{cover_else}
use Rattle.chunk_core.proofs.CoverLaws.{moves, all_inside, room_total}

module _ (m : RoomMemory) (r i x : ℕ) where
  abbrev pub valued : RoomMemory
  valued = put_room m (at_value r i) x

  -- in the room itself one value is exchanged
  value_here : (k : ℕ) → valued.value r k ≡ put (m.value r) i x k
  value_here k = dite (ℕ_discrete k i) (λ e. ap (λ (t : Bool). cond t x (m.value r k)) (both k e) ∙ sym (put-here (m.value r) i x k e)) (λ ne. ap (λ (t : Bool). cond t x (m.value r k)) (ap (λ (t : Bool). t && (r == r)) (ne_eqb k i ne)) ∙ sym (put-else (m.value r) i x k ne))
    where
      both : (k : ℕ) → k ≡ i → ((k == i) && (r == r)) ≡ true
      both k e = ap (λ (t : Bool). t && (r == r)) (eq-eqb k i e) ∙ eq-eqb r r refl

  pub value_step : (content : ℕ → List ℕ) (f : Span → Entry → ℕ) → total (λ j. one_at j i) (linked m r) ≡ 1
      → each f (cover_at valued content r) + f (span_in m r) (entry_at m content r i) ≡ each f (cover_at m content r) + f (span_in m r) (record { word = m.key r i; value = x; key = key_at content (m.key r i) })
  value_step content f once = let a = room_total m content r f in let b = room_total valued content r f in
      let t = total_put (λ j. f (span_in m r) (entry_at m content r j)) (λ j. f (span_in m r) (entry_at valued content r j)) i (linked m r)
      (λ j ne. ap (λ (y : ℕ). f (span_in m r) (record { word = m.key r j; value = y; key = key_at content (m.key r j) })) (value_here j ∙ put-else (m.value r) i x j ne)) once in
      let u : f (span_in m r) (entry_at valued content r i) ≡ f (span_in m r) (record { word = m.key r i; value = x; key = key_at content (m.key r i) }) = ap (λ (y : ℕ). f (span_in m r) (record { word = m.key r i; value = y; key = key_at content (m.key r i) })) (value_here i ∙ put-here (m.value r) i x i refl) in omega arith

module _ (z : Sizes) (m : RoomMemory) (content : ℕ → List ℕ) (is_key_word : ℕ → ℕ) (hs hs' gone fresh : List RoomHolds) (was : CoversPartition z m content is_key_word hs) (c : Change hs hs' gone fresh) (moving : (F : Cover → ℕ) → total (moves F) fresh ≡ total (moves F) gone)
    (r i x : ℕ) (lr : r < z.chunks) (cover : weight (m.pin r) ≡ 1) (once : total (λ j. one_at j i) (linked m r) ≡ 1) where
  abbrev k : ℕ
  k = key_at content (m.key r i)

  step : (F : Cover → ℕ) → all_of z (put_room m (at_value r i) x) content hs' F + F (cover_at m content r) ≡ all_of z m content hs F + F (cover_at (put_room m (at_value r i) x) content r)
  step F = let s = all_inside z m (put_room m (at_value r i) x) content hs hs' gone fresh c r lr (λ j _. refl) (λ j ne. cover_else m (at_value r i) x content j ne) cover cover F in let e = moving F in omega arith

  pub value_all : (g : Span → Entry → ℕ) → all_of z (put_room m (at_value r i) x) content hs' (each g) + g (span_in m r) (entry_at m content r i) ≡ all_of z m content hs (each g) + g (span_in m r) (record { word = m.key r i; value = x; key = key_at content (m.key r i) })
  value_all g = let s = step (each g) in let v = value_step m r i x content g once in omega arith

  pub span_all : (g : Span → ℕ) → all_of z (put_room m (at_value r i) x) content hs' (λ u. g u.span) ≡ all_of z m content hs (λ u. g u.span)
  span_all g = let s = step (λ u. g u.span) in omega arith

  pub covers_valued : CoversPartition z (put_room m (at_value r i) x) content is_key_word hs'
  covers_valued = record {
    covered = λ j. span_all (λ s. within s j) ∙ was.covered j;
    once = λ j. let v = value_all (has_key j) in let o = was.once j in omega arith;
    inside = let v = value_all stray in let o = was.inside in omega arith;
    placed = let v = value_all (λ s y. 1 - is_key_word y.word) in let o = was.placed in omega arith;
    begun = span_all (λ s. 1 - within s s.low) ∙ was.begun;
    keyed = span_all keyless ∙ was.keyed;
    bases = span_all (λ s. names_header s.base) ∙ was.bases;
  }

  pub base_valued : (j : ℕ) → base_of z m content hs j ≤ base_of z (put_room m (at_value r i) x) content hs' j
  base_valued j = let s = span_all (λ s. within s j * s.base) in omega arith

  pub word_before : word_of z m content hs k ≡ m.value r i + 1
  word_before = entry_word z m content hs was.once r i k lr cover once refl

  pub word_valued : word_of z (put_room m (at_value r i) x) content hs' k ≡ x + 1
  word_valued = entry_word z (put_room m (at_value r i) x) content hs' covers_valued.once r i k lr cover once refl ∙ ap (λ (y : ℕ). y + 1) (value_here m r i x i ∙ put-here (m.value r) i x i refl)

  pub word_others : (j : ℕ) → j ≢ k → word_of z (put_room m (at_value r i) x) content hs' j ≡ word_of z m content hs j
  word_others j ne = let v = value_all (word_for j) in let o = one_at-other k j (λ e. ne (sym e)) in let p = times-none (one_at k j) (m.value r i + 1) o in let q = times-none (one_at k j) (x + 1) o in omega arith
