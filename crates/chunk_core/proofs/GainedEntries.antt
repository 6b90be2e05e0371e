-- A room gains a linked entry, whose key is one of its range that no linked entry has: what is added up over covers, whichever word makes it linked.
use Rattle.std.proofs.Common.{◌≡◌, ◌≢◌, ℕ, ◌+◌, ◌-◌, ◌*◌, ◌<◌, ◌≤◌, List, sym, refl, ap, ◌∙◌, subst, arith}
use mathlib.Core.Logic.{dite}
use native.Mathlib.Decide.{ℕ_discrete}
use Rattle.chunk_core.specs.declared.holds.RoomHolds.{RoomHolds}
use Rattle.oak_model.specs.Counts.{one_at, total}
use Rattle.oak_model.specs.Limits.{Sizes}
use Rattle.oak_model.proofs.Changes.{Change}
use Rattle.oak_model.proofs.Counting.{one_at-same, one_at-other}
use Rattle.oak_model.proofs.SumLaws.{times-one, times-none}
use Rattle.chunk_core.specs.CoverRule.{CoversPartition}
use Rattle.chunk_core.specs.CoverSums.{weight, each, has_key, word_for, stray, naming, names, all_of, word_of, base_of, keyless}
use Rattle.chunk_core.specs.Covers.{Entry, Cover, cover_at, span_in, entry_at, key_at}
use Rattle.chunk_core.specs.LinkedEntries.{linked}
use Rattle.chunk_core.specs.Rooms.{RoomMemory}
use Rattle.chunk_core.specs.Spans.{Span, within}
use Rattle.chunk_core.specs.ValueWord.{names_header, header_in}
use Rattle.chunk_core.proofs.CoverLaws.{moves, all_inside, room_total}
use Rattle.chunk_core.proofs.Lookups.{no_word, all_at}
use Rattle.chunk_core.proofs.RangeLaws.{count_of_room, none_there}

-- by the words m' the room r has the entry n linked, beside those linked by m, and all else of covers is the same
pub record GainsEntry (m m' : RoomMemory) (content : ℕ → List ℕ) (r n : ℕ) : Type 0 where
  pub pins : (j : ℕ) → m'.pin j ≡ m.pin j
  pub span : span_in m' r ≡ span_in m r
  pub apart : (j : ℕ) → j ≢ r → cover_at m' content j ≡ cover_at m content j
  pub more : (g : Span → Entry → ℕ) → each g (cover_at m' content r) ≡ each g (cover_at m content r) + g (span_in m r) (entry_at m content r n)

-- the entry's key word names a key of the range that no linked entry has
pub record IsNewEntry (is_key_word : ℕ → ℕ) (m : RoomMemory) (content : ℕ → List ℕ) (r n : ℕ) : Type 0 where
  pub is_key : is_key_word (m.key r n) ≡ 1
  pub inside : within (span_in m r) (key_at content (m.key r n)) ≡ 1
  pub new : (i : ℕ) → 0 < total (λ j. one_at j i) (linked m r) → key_at content (m.key r i) ≢ key_at content (m.key r n)

module _ (z : Sizes) (m m' : RoomMemory) (content : ℕ → List ℕ) (is_key_word : ℕ → ℕ) (hs hs' gone fresh : List RoomHolds) (was : CoversPartition z m content is_key_word hs) (c : Change hs hs' gone fresh) (moving : (F : Cover → ℕ) → total (moves F) fresh ≡ total (moves F) gone)
    (r n : ℕ) (lr : r < z.chunks) (cover : weight (m.pin r) ≡ 1) (gains : GainsEntry m m' content r n) (entry : IsNewEntry is_key_word m content r n) where
  abbrev new_key : ℕ
  new_key = key_at content (m.key r n)

  step : (F : Cover → ℕ) → all_of z m' content hs' F + F (cover_at m content r) ≡ all_of z m content hs F + F (cover_at m' content r)
  step F = let s = all_inside z m m' content hs hs' gone fresh c r lr (λ j _. gains.pins j) gains.apart cover (ap weight (gains.pins r) ∙ cover) F in let e = moving F in omega arith

  pub more_all : (g : Span → Entry → ℕ) → all_of z m' content hs' (each g) ≡ all_of z m content hs (each g) + g (span_in m r) (entry_at m content r n)
  more_all g = let s = step (each g) in let e = gains.more g in omega arith

  pub more_span : (g : Span → ℕ) → all_of z m' content hs' (λ u. g u.span) ≡ all_of z m content hs (λ u. g u.span)
  more_span g = let s = step (λ u. g u.span) in let e = ap g gains.span in omega arith

  none : all_of z m content hs (each (has_key new_key)) ≡ 0
  none = count_of_room z m content hs is_key_word was r new_key lr cover entry.inside ∙ (room_total m content r (has_key new_key) ∙ none_there m content r new_key (linked m r) entry.new)

  pub more_partition : CoversPartition z m' content is_key_word hs'
  more_partition = record {
    covered = λ j. more_span (λ s. within s j) ∙ was.covered j;
    once = λ j. let v = more_all (has_key j) in let o = was.once j in dite (ℕ_discrete new_key j) (λ e. let y = subst (λ (t : ℕ). all_of z m content hs (each (has_key t)) ≡ 0) e none in let s = one_at-same new_key j e in omega arith) (λ ne. let s = one_at-other new_key j ne in omega arith);
    inside = let v = more_all stray in let o = was.inside in let i = entry.inside in omega arith;
    placed = let v = more_all (λ s y. 1 - is_key_word y.word) in let o = was.placed in let i = entry.is_key in omega arith;
    begun = more_span (λ s. 1 - within s s.low) ∙ was.begun;
    keyed = more_span keyless ∙ was.keyed;
    bases = more_span (λ s. names_header s.base) ∙ was.bases;
  }

  pub word_was : word_of z m content hs (key_at content (m.key r n)) ≡ 0
  word_was = no_word z m content hs new_key none

  pub word_now : word_of z m' content hs' (key_at content (m.key r n)) ≡ m.value r n + 1
  word_now = let v = more_all (word_for new_key) in let o = one_at-same new_key new_key refl in let w = word_was in let q = times-one (one_at new_key new_key) (m.value r n + 1) o in omega arith

  pub word_other : (j : ℕ) → j ≢ key_at content (m.key r n) → word_of z m' content hs' j ≡ word_of z m content hs j
  word_other j ne = let v = more_all (word_for j) in let o = one_at-other new_key j (λ e. ne (sym e)) in let q = times-none (one_at new_key j) (m.value r n + 1) o in omega arith

  pub base_same : (j : ℕ) → base_of z m content hs j ≤ base_of z m' content hs' j
  base_same j = let s = more_span (λ s. within s j * s.base) in omega arith

  -- the base is no word that names a header
  pub base_low : names_header (m.base r) ≡ 0
  base_low = let a = all_at z m content hs r (λ u. names_header u.span.base) lr cover in let b = was.bases in omega arith

  pub names_same : m.value r n ≡ m.base r → (h : ℕ) → all_of z m' content hs' (each (naming h)) ≡ all_of z m content hs (each (naming h))
  names_same e h = let v = more_all (naming h) in let f = base_low in let q : names h (m.value r n) ≡ 0 = ap (names h) e ∙ times-none (names_header (m.base r)) (one_at (header_in (m.base r)) h) f in omega arith
