-- A block that a pass that is alone takes, and fills: what it leaves of the words.
use Rattle.std.proofs.Common.{◌≡◌, ℕ, ◌*◌, ◌<◌, ◌≤◌, List, length, get_or, sym, refl, ap, ◌∙◌, subst, arith, Some}
use Rattle.std.specs.Prelude.{bit_or}
use Rattle.oak_model.specs.declared.classes.Class.{Class}
use Rattle.oak_model.specs.Class.{class_number, class_of}
use Rattle.oak_model.specs.Limits.{Sizes}
use Rattle.arena_core.specs.Arena.{at_bits, at_bytes, block_words, blocks}
use Rattle.arena_core.specs.ArenaStep.{bit_of}
use Rattle.arena_core.specs.Words.{words_of}
use Rattle.arena_core.proofs.ClassRooms.{class_room}
use Rattle.arena_core.proofs.PlaceLaws.{class_below}
use Rattle.arena_core.proofs.WordLaws.{words_long}
use Rattle.arena_ops.specs.Looking.{bit_spot}
use Rattle.arena_ops.specs.PutWords.{PutsBytesIn}
use Rattle.arena_ops.specs.Taking.{Takes}
use Rattle.arena_ops.proofs.PutWords.{spot_from}
use Rattle.chunk_core.specs.PinnedRooms.{span_of}
use Rattle.chunk_core.specs.Spans.{Span}
use Rattle.oak_core.specs.declared.states.PassState.{PassState}
use Rattle.oak_core.specs.AloneWords.{Runs}
use Rattle.oak_core.specs.Memory.{Spot, at_given, in_arena, in_headers, in_rooms, index, memory, read}
use Rattle.oak_core.proofs.seats.AloneRuns.{Then, runs_then, runs_as}
use Rattle.oak_core.proofs.memory.ArenaNames.{bit_inside}
use Rattle.oak_core.proofs.memory.Words.{memory_read}
use Rattle.chunk_ops.specs.PinRecords.{HasRoomPin, room_pin}
use Rattle.point_ops.specs.LoneInserts.{IsOfBlock, KeepsBut, MakesBlockIn, MakesBlockUnder}
use Rattle.point_ops.proofs.LoneKeys.{keys_stay}
use Rattle.point_ops.proofs.LoneTakes.{TakesIn, takes_alone}
use Rattle.point_ops.proofs.LoneWords.{but_as, but_both, but_put, but_same, but_set, read_stored}

-- the bytes of the block alone
abbrev IsByteOf : Class → ℕ → Spot → Type 0
IsByteOf c b (in_arena (at_bytes d e k)) = (d ≡ class_number c) × (e ≡ b)
IsByteOf _ _ _ = ⊥

module _ (z : Sizes) (r : ℕ) (span : Span) (c : Class) (b : ℕ) (bytes : List ℕ) (inside : b < blocks z (class_number c)) (fits : class_of (length bytes) ≡ Some c) (a m d : List ℕ) (t : TakesIn z r span c b a m) (s : PutsBytesIn z c b bytes m d) where
  puts : KeepsBut z (IsByteOf c b) m d
  puts = let first : ℕ = index z (in_arena (at_bytes (class_number c) b 0)) in let n : ℕ = block_words (class_number c) in subst (KeepsBut z (IsByteOf c b) m) (sym s)
      (but_put z (IsByteOf c b) (words_of bytes) (λ k. in_arena (at_bytes (class_number c) b k)) first
      (λ k lt. (spot_from z (class_number c) b first k refl, (class_below c, inside, (let l = words_long bytes in let f : length bytes ≤ 8 * n = class_room (length bytes) c fits in let q : k < n = omega arith in q)), (refl, refl))) m)

  puts_more : (p : Spot) → IsByteOf c b p → IsOfBlock c b p
  puts_more (in_arena (at_bytes e f k)) h = h
  puts_more (in_arena (at_bits e j)) h = absurd h
  puts_more at_given h = absurd h
  puts_more (in_headers q) h = absurd h
  puts_more (in_rooms q) h = absurd h

  sets : KeepsBut z (IsOfBlock c b) a m
  sets = subst (KeepsBut z (IsOfBlock c b) a) (sym t.becomes) (but_set z (IsOfBlock c b) a (bit_spot c b) (bit_or (get_or a (index z (bit_spot c b)) 0) (bit_of b)) (bit_inside z c b inside) (refl, refl))

  both : KeepsBut z (IsOfBlock c b) a d
  both = but_both z (IsOfBlock c b) a m d sets (but_as z (IsByteOf c b) (IsOfBlock c b) m d puts_more puts)

  makes_block : MakesBlockIn z r c b a d
  makes_block = record {
    inside = inside;
    wide = t.wide;
    small = t.small;
    clear = t.clear;
    but = both;
    bit = but_same z (IsByteOf c b) m d puts (bit_spot c b) (λ e. e)
        ∙ (ap (λ (ws : List ℕ). read (memory z ws) (bit_spot c b)) t.becomes ∙ (read_stored z a (bit_spot c b) (bit_or (get_or a (index z (bit_spot c b)) 0) (bit_of b)) t.wide (bit_inside z c b inside)
        ∙ ap (λ (n : ℕ). bit_or n (bit_of b)) (sym (memory_read z a (bit_spot c b) (bit_inside z c b inside)))));
    keys = keys_stay z r (IsOfBlock c b) a d both (λ e. e) (λ e. e) (λ i e. e) (λ i e. e) (λ i once k e. t.apart i once e);
  }

-- to a pass that is alone
module _ (z : Sizes) (call : ℕ) (c : Class) (b : ℕ) (v u w : PassState) (t : Takes z call c b v u) (bytes : List ℕ) (fits : class_of (length bytes) ≡ Some c) (s : Runs (PutsBytesIn z c b bytes) u w) (r : ℕ) (pin : HasRoomPin z r v) where
  pub block_under : Runs (MakesBlockUnder z r (span_of (room_pin v)) c b) v w
  block_under = let span : Span = span_of (room_pin v) in runs_as (Then (TakesIn z r span c b) (PutsBytesIn z c b bytes)) (MakesBlockUnder z r span c b) v w
      (λ a d h. (makes_block z r span c b bytes t.inside fits a h.0 d h.1 h.2, h.1.range)) (runs_then (TakesIn z r span c b) (PutsBytesIn z c b bytes) v u w (takes_alone z call c b v u t r pin) s)

  pub block_alone : Runs (MakesBlockIn z r c b) v w
  block_alone = runs_as (MakesBlockUnder z r (span_of (room_pin v)) c b) (MakesBlockIn z r c b) v w (λ a d h. h.0) block_under
