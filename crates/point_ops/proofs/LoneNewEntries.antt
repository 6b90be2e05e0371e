-- The entry that a key gets by a pass that is alone: what its addition leaves of the words, and of their bits.
use Rattle.std.proofs.Common.{◌≡◌, ℕ, ◌+◌, ◌/◌, ◌<◌, ◌==◌, ◌&&◌, cond, List, length, sym, refl, ap, ◌∙◌, subst, inl, inr, ⊎_elim, eq-eqb, ne_eqb, Option, Some, None}
use Rattle.std.specs.Prelude.{bit_or}
use mathlib.Core.Logic.{dite}
use native.Mathlib.Decide.{ℕ_discrete}
use Rattle.oak_model.specs.declared.classes.Class.{Class}
use Rattle.oak_model.specs.Class.{class_number, class_of}
use Rattle.oak_model.specs.Limits.{Sizes}
use Rattle.arena_core.specs.Arena.{at_bits}
use Rattle.arena_core.specs.ArenaStep.{bit_of}
use Rattle.chunk_core.specs.LinkWords.{link_spot}
use Rattle.chunk_core.specs.Rooms.{at_count}
use Rattle.chunk_core.specs.Spans.{Span}
use Rattle.oak_core.specs.declared.states.PassState.{PassState}
use Rattle.oak_core.specs.AloneWords.{Runs}
use Rattle.oak_core.specs.Memory.{Spot, at_given, in_arena, in_headers, in_rooms, memory, word_count}
use Rattle.oak_core.proofs.seats.AloneRuns.{Then, runs_as, runs_none, runs_then}
use Rattle.chunk_ops.specs.declared.entries.EntryNo.{EntryNo}
use Rattle.chunk_ops.specs.AddsAlone.{AddsIn, AddsNext, KeepsEntry}
use Rattle.chunk_ops.specs.FindsAlone.{LacksKeyAt}
use Rattle.point_ops.specs.LoneInserts.{IsOfBlock, KeepsBut, MakesBlockIn, MakesBlockUnder}
use Rattle.point_ops.specs.LonePutLeft.{AddsKeyIn, GetsFor, IsNewEntry, with_bit}
use Rattle.point_ops.proofs.LoneKeys.{missing_still}
use Rattle.point_ops.proofs.LoneWords.{but_as, but_both, but_same}
use Rattle.point_ops.proofs.PutEntries.{put_but, put_count}

-- ---- the bits, where a block was made

module _ (c : Class) (b d j n : ℕ) where
  abbrev more : ℕ
  more = bit_or n (bit_of b)

  with_same : d ≡ class_number c → j ≡ b / 64 → with_bit c b d j n ≡ bit_or n (bit_of b)
  with_same e f = λ i. cond (eq-eqb d (class_number c) e i && eq-eqb j (b / 64) f i) more n

  with_class : (d ≡ class_number c → ⊥) → with_bit c b d j n ≡ n
  with_class e = λ i. cond (ne_eqb d (class_number c) e i && (j == b / 64)) more n

  with_word : d ≡ class_number c → (j ≡ b / 64 → ⊥) → with_bit c b d j n ≡ n
  with_word e f = λ i. cond (eq-eqb d (class_number c) e i && ne_eqb j (b / 64) f i) more n

pub bits_made : (z : Sizes) (r : ℕ) (c : Class) (b : ℕ) (a m : List ℕ) → MakesBlockIn z r c b a m → (d j : ℕ) → (memory z m).arena.bits d j ≡ with_bit c b d j ((memory z a).arena.bits d j)
bits_made z r c b a m made d j = let n : ℕ = (memory z a).arena.bits d j in dite (ℕ_discrete d (class_number c))
    (λ (e : d ≡ class_number c). dite (ℕ_discrete j (b / 64))
    (λ (f : j ≡ b / 64). (λ i. (memory z m).arena.bits (e i) (f i)) ∙ (made.bit ∙ ((λ i. bit_or ((memory z a).arena.bits (sym e i) (sym f i)) (bit_of b)) ∙ sym (with_same c b d j n e f))))
    (λ (f : j ≡ b / 64 → ⊥). but_same z (IsOfBlock c b) a m made.but (in_arena (at_bits d j)) (λ s. f s.1) ∙ sym (with_word c b d j n e f)))
    (λ (e : d ≡ class_number c → ⊥). but_same z (IsOfBlock c b) a m made.but (in_arena (at_bits d j)) (λ s. e s.0) ∙ sym (with_class c b d j n e))

-- ---- the entry

-- its three words, the count of its room, and the link that names it: all of them words of rooms
module _ (r i : ℕ) (from : Option ℕ) (c : Class) (b : ℕ) where
  abbrev IsOfEntry : Spot → Type 0
  IsOfEntry (in_rooms p) = IsNewEntry r i from c b (in_rooms p)
  IsOfEntry _ = ⊥

  entry_new : (p : Spot) → IsOfEntry p → IsNewEntry r i from c b p
  entry_new (in_rooms p) s = s
  entry_new (in_arena q) s = absurd s
  entry_new (in_headers q) s = absurd s
  entry_new at_given s = absurd s

  block_new : (p : Spot) → IsOfBlock c b p → IsNewEntry r i from c b p
  block_new (in_arena q) s = s
  block_new (in_headers q) s = absurd s
  block_new (in_rooms q) s = absurd s
  block_new at_given s = absurd s

link_new : (r i : ℕ) (from : Option ℕ) (c : Class) (b : ℕ) → IsNewEntry r i from c b (in_rooms (link_spot r from))
link_new r i None c b = (refl, refl)
link_new r i (Some q) c b = (refl, inr refl)

module _ (z : Sizes) (r : ℕ) (span : Span) (inside : r < z.chunks) (c : Class) (b : ℕ) (key : List ℕ) (fits : class_of (length key) ≡ Some c) (a m : List ℕ) (made : MakesBlockUnder z r span c b a m) where
  module _ (i : EntryNo) (len : ℕ) (d : List ℕ) (s : AddsIn z r i c b len key m d) (n : AddsNext z r i c b len key m d) (missing : LacksKeyAt (memory z a) r key) where
    abbrev E : Spot → Type 0
    E = IsOfEntry r i.0 n.from c b

    long : length m ≡ word_count z
    long = made.0.but.size ∙ made.0.wide

    then : KeepsBut z (IsOfEntry r i.0 n.from c b) m d
    then = subst (KeepsBut z E m) (sym n.becomes) (put_but z r inside n.from i.0 n.room c b len m n.link E refl (refl, refl) (refl, inl refl) (refl, refl) (link_new r i.0 n.from c b))

    adds_key : AddsKeyIn z r i key a d
    adds_key = record {
      class = c;
      fits = fits;
      block = b;
      clear = made.0.clear;
      from = n.from;
      but = let N : Spot → Type 0 = IsNewEntry r i.0 n.from c b in but_both z N a m d (but_as z (IsOfBlock c b) N a m (block_new r i.0 n.from c b) made.0.but) (but_as z E N m d (entry_new r i.0 n.from c b) then);
      bits = λ e j. but_same z E m d then (in_arena (at_bits e j)) (λ x. x) ∙ bits_made z r c b a m made.0 e j;
      next = n.next ∙ made.0.keys.count;
      room = n.room;
      missing = missing;
      count = ap (λ (ws : List ℕ). (memory z ws).rooms.count r) n.becomes ∙ (put_count z r inside n.from i.0 n.room c b len m n.link long ∙ ap (λ (k : ℕ). k + 1) (but_same z (IsOfBlock c b) a m made.0.but (in_rooms (at_count r)) (λ e. e)));
      has = s.now;
    }

  adds_for : (i : EntryNo) (len : ℕ) (d : List ℕ) → AddsIn z r i c b len key m d → (floor : ℕ) → GetsFor None floor z r i key a d
  adds_for i len d s floor away = ⊎_elim (λ (k : KeepsEntry z r i c b key m d). absurd (missing_still z r a m made.0.keys key away.1 i.0 k.0.0 k.0.1)) (λ (n : AddsNext z r i c b len key m d). adds_key i len d s n away.1) s.was

-- to a pass that is alone
pub adds_alone : (z : Sizes) (r : ℕ) (span : Span) → r < z.chunks → (c : Class) (b : ℕ) (key : List ℕ) → class_of (length key) ≡ Some c → (v u w : PassState) → Runs (MakesBlockUnder z r span c b) v u
    → (i : EntryNo) (len : ℕ) → Runs (AddsIn z r i c b len key) u w → (floor : ℕ) → Runs (GetsFor None floor z r i key) v w
adds_alone z r span inside c b key fits v u w made i len s floor = let A : List ℕ → List ℕ → Type 0 = AddsIn z r i c b len key in runs_as (Then (MakesBlockUnder z r span c b) A) (GetsFor None floor z r i key) v w
    (λ a d h. adds_for z r span inside c b key fits a h.0 h.1 i len d h.2 floor) (runs_then (MakesBlockUnder z r span c b) A v u w made s)

-- the entry that was found
pub has_alone : (z : Sizes) (r floor : ℕ) (key : List ℕ) (i : EntryNo) (v : PassState) → Runs (GetsFor (Some i) floor z r i key) v v
has_alone z r floor key i v = runs_none (GetsFor (Some i) floor z r i key) v (λ a away. (refl, refl))
