-- What a pass that is alone finds of a block that it takes: the words are those of the table, and no entry of its pinned room has the block.
use Rattle.std.proofs.Common.{◌≡◌, ℕ, ◌*◌, ◌/◌, ◌^◌, ◌<◌, ◌≤◌, List, length, map, get_or, set, length-set, sym, refl, ap, ◌∙◌, subst, arith, inr, ⊎_elim, nat_lt, get_or-set_same}
use Rattle.std.specs.Prelude.{bit_or}
use Rattle.std.proofs.lemmas.Bool.{lt-ltb}
use Rattle.std.proofs.lemmas.Nat.{le_or_l}
use mathlib.Core.Path.{fun_ext}
use Rattle.oak_model.specs.declared.classes.Class.{Class}
use Rattle.oak_model.specs.Class.{class_number}
use Rattle.oak_model.specs.Counts.{one_at, one_if, rows, total}
use Rattle.oak_model.specs.Limits.{Sizes}
use Rattle.oak_model.proofs.Counting.{total_map}
use Rattle.oak_model.proofs.RowLaws.{rows_same}
use Rattle.oak_model.proofs.SumLaws.{total_in}
use Rattle.arena_core.specs.ArenaStep.{bit_of, take_bit}
use Rattle.arena_core.specs.Place.{class_in, block_in, names_block, content}
use Rattle.chunk_core.specs.Covers.{span_in, entry_at, used_at, moving_of}
use Rattle.chunk_core.specs.CoverSums.{weight, each, owning}
use Rattle.chunk_core.specs.declared.layout.TheConstants.{BOUND_WORDS}
use Rattle.chunk_core.specs.KeyWords.{high_number, low_number}
use Rattle.chunk_core.specs.PinnedRooms.{span_of}
use Rattle.chunk_core.specs.Spans.{Span}
use Rattle.chunk_core.specs.LinkedEntries.{entries_in, in_use, linked}
use Rattle.chunk_core.specs.Rooms.{RoomSpot, at_base, at_first, at_high, at_key, at_low, at_next}
use Rattle.chunk_core.proofs.CoverLaws.{room_le}
use Rattle.chunk_core.proofs.EntryNumbers.{numbers_once}
use Rattle.chunk_core.proofs.RoomLinks.{linked_same}
use Rattle.oak_core.specs.declared.states.Finding.{Finding}
use Rattle.oak_core.specs.declared.states.PassState.{PassState}
use Rattle.oak_core.specs.AloneWords.{LeavesWords, Runs, RunsTo}
use Rattle.oak_core.specs.EntryOwners.{entry_owners}
use Rattle.oak_core.specs.Finding.{grown}
use Rattle.oak_core.specs.Memory.{Memory, in_rooms, index, memory, number_at, word_count}
use Rattle.oak_core.specs.PassState.{rooms_held}
use Rattle.oak_core.specs.Rule.{Rule}
use Rattle.oak_core.specs.Step.{Step, on_arena, spot, effect, found, Told}
use Rattle.oak_core.specs.TableState.{TableState}
use Rattle.oak_core.proofs.seats.AloneLast.{appends, last_is}
use Rattle.oak_core.proofs.seats.AloneRuns.{moment_after}
use Rattle.oak_core.proofs.memory.ArenaNames.{bit_inside}
use Rattle.oak_core.proofs.owners.EntryBlocks.{key_some}
use Rattle.oak_core.proofs.owners.HeadersInArena.{names_named}
use Rattle.oak_core.proofs.memory.Words.{index_below, memory_read}
use Rattle.arena_ops.specs.Looking.{bit_spot}
use Rattle.arena_ops.specs.Taking.{SetsBit, Takes}
use Rattle.chunk_ops.specs.FindsAlone.{IsLinked}
use Rattle.chunk_ops.specs.PinRecords.{HasRoomPin, room_pin}
use Rattle.chunk_ops.proofs.KeptKeys.{number_other}
use Rattle.chunk_ops.proofs.KeyPlaces.{is_key_linked, linked_used}
use Rattle.chunk_ops.proofs.WordLoads.{pin_holds}
use Rattle.point_ops.specs.LoneInserts.{IsClearIn}

-- the words that a step left are those that its pass left, where it was alone then
pub left_words : (z : Sizes) (call : ℕ) (x : Step) (v : PassState) (n : ℕ) (w : PassState) (t : Told z call x v n w) (words : List ℕ) → LeavesWords words w → words ≡ set t.table.words (index z (spot x)) (effect x (found z x t.table))
left_words z call x v n w t words l = let a = appends z call x t.table v in
    let same : a.finding ≡ l.finding = last_is v.findings.met l.met a.finding l.finding (sym a.met ∙ (ap (λ (y : PassState). y.findings.met) (sym t.after) ∙ l.last)) in
    sym l.are ∙ (ap (λ (f : Finding). f.words) (sym same) ∙ sym (a.says (ap (λ (f : Finding). f.alone) same ∙ l.alone)).0)

-- what is done by at least one step is told with the words that the pass leaves
pub runs_left : (P Q : List ℕ → List ℕ → Type 0) (v w : PassState) → (v ≡ w → ⊥) → ((a b : List ℕ) → LeavesWords b w → P a b → Q a b) → Runs P v w → Runs Q v w
runs_left P Q v w moves f h = record {
  goes = λ before l. so before (h.goes before l);
  starts = λ alone. ⊎_elim (λ (n : (v ≡ w) × ((words : List ℕ) → P words words)). absurd (moves n.0)) (λ (r : (before : List ℕ) × RunsTo P before w). inr (r.0, so r.0 r.1)) (h.starts alone);
}
  where
    so : (before : List ℕ) → RunsTo P before w → RunsTo Q before w
    so before r = record { after = r.after; leaves = r.leaves; does = f before r.after r.leaves r.does }

-- a linked entry of a room that is a cover has its key's block
pub key_owned : (z : Sizes) (s : TableState) → Rule z s → (r i : ℕ) → r < z.chunks → weight ((memory z s.words).rooms.pin r) ≡ 1 → IsLinked (memory z s.words) r i
    → 1 ≤ entry_owners z (memory z s.words).rooms (content (memory z s.words).arena.bytes) (map rooms_held s.states) (class_in ((memory z s.words).rooms.key r i)) (block_in ((memory z s.words).rooms.key r i))
key_owned z s rule r i inside weighs once = let m : Memory = memory z s.words in let word : ℕ = m.rooms.key r i in let names : ℕ → ℕ = names_block (class_in word) (block_in word) in let ms = map moving_of (map rooms_held s.states) in
    let a = room_le z.chunks m.rooms.pin (used_at m.rooms (content m.arena.bytes)) ms (each (owning names)) r inside weighs in
    let b = total_map (entry_at m.rooms (content m.arena.bytes) r) (owning names (span_in m.rooms r)) (in_use m.rooms r) in
    let c = total_in (λ j. owning names (span_in m.rooms r) (entry_at m.rooms (content m.arena.bytes) r j)) i (in_use m.rooms r) (let o = numbers_once (entries_in (m.rooms.count r)) i (linked_used z s rule r i inside weighs once) in omega arith) in
    let some_word : 0 < word = key_some word (let k = is_key_linked z s rule r i inside weighs once in omega arith) in
    let d : one_if (nat_lt 0 word) * names_block (class_in word) (block_in word) word ≡ 1 = (λ j. one_if (lt-ltb 0 word some_word j) * names_named (class_in word) (block_in word) word refl refl j) in omega arith

-- The bit of the block was clear, and is set, in words of the table. No linked entry of the room r, which has this range and base, has the block.
pub record TakesIn (z : Sizes) (r : ℕ) (span : Span) (c : Class) (b : ℕ) (before after : List ℕ) : Type 0 where
  pub wide : length before ≡ word_count z
  pub small : (memory z before).arena.bits (class_number c) (b / 64) < 2 ^ 64
  pub clear : IsClearIn z (class_number c) b before
  pub range : span_in (memory z before).rooms r ≡ span
  pub becomes : after ≡ set before (index z (bit_spot c b)) (bit_or (get_or before (index z (bit_spot c b)) 0) (bit_of b))
  pub apart : (i : ℕ) → IsLinked (memory z before) r i → (class_in ((memory z before).rooms.key r i) ≡ class_number c) × (block_in ((memory z before).rooms.key r i) ≡ b) → ⊥

module _ (z : Sizes) (call : ℕ) (c : Class) (b : ℕ) (v w : PassState) (t : Takes z call c b v w) where
  abbrev ws : List ℕ
  ws = t.told.table.words

  abbrev at : ℕ
  at = index z (bit_spot c b)

  abbrev x : Step
  x = on_arena (take_bit c b)

  moves : v ≡ w → ⊥
  moves e = let l = ap (λ (y : PassState). length y.blocks.held) (e ∙ t.after) in omega arith

  module _ (a d : List ℕ) (l : LeavesWords d w) (s : SetsBit z c b a d) where
    left : d ≡ set t.told.table.words (index z (bit_spot c b)) (bit_or (get_or t.told.table.words (index z (bit_spot c b)) 0) (bit_of b))
    left = left_words z call x (grown t.before v) t.number w t.told d l

    wide : length a ≡ word_count z
    wide = let p = length-set ws at (bit_or (get_or ws at 0) (bit_of b)) in let q = length-set a at (bit_or (get_or a at 0) (bit_of b)) in let f = ap length left in let g = ap length s.1 in let h = t.told.rule.words.counted in omega arith

    small : (memory z a).arena.bits (class_number c) (b / 64) < 2 ^ 64
    small = let y : ℕ = bit_or (get_or a at 0) (bit_of b) in let n : ℕ = get_or a at 0 in
        let reads : (memory z a).arena.bits (class_number c) (b / 64) ≡ n = memory_read z a (bit_spot c b) (bit_inside z c b t.inside) in
        let low : get_or (set a at y) at 0 ≡ y = get_or-set_same a at y 0 (let k = index_below z (bit_spot c b) (bit_inside z c b t.inside) in let h = wide in omega arith) in
        let top : get_or (set ws at (bit_or (get_or ws at 0) (bit_of b))) at 0 < 2 ^ 64 = (moment_after z call x (grown t.before v) t.number w t.told).rule.words.small at in
        let top' : get_or (set a at y) at 0 < 2 ^ 64 = subst (λ (us : List ℕ). get_or us at 0 < 2 ^ 64) (sym left ∙ s.1) top in
        let o : n ≤ y = le_or_l n (bit_of b) in omega arith

    in_room : (p : RoomSpot) → number_at z t.told.table.words (in_rooms p) ≡ number_at z a (in_rooms p)
    in_room p = sym (number_other z ws (bit_spot c b) (bit_or (get_or ws at 0) (bit_of b)) (bit_inside z c b t.inside) (in_rooms p) refl)
        ∙ (ap (λ (us : List ℕ). number_at z us (in_rooms p)) (sym left ∙ s.1) ∙ number_other z a (bit_spot c b) (bit_or (get_or a at 0) (bit_of b)) (bit_inside z c b t.inside) (in_rooms p) refl)

    span_is : (r : ℕ) → HasRoomPin z r v → span_in (memory z a).rooms r ≡ span_of (room_pin v)
    span_is r pin = let h = pin_holds z call r x (grown t.before v) t.number w pin t.told in
        let low : rows 0 BOUND_WORDS ((memory z a).rooms.low r) ≡ (room_pin v).low = rows_same 0 BOUND_WORDS ((memory z a).rooms.low r) ((memory z ws).rooms.low r) (λ j _ _. sym (in_room (at_low r j))) ∙ ((λ i. rows 0 BOUND_WORDS ((memory z ws).rooms.low (sym pin.pin.room i))) ∙ h.low) in
        let high : rows 0 BOUND_WORDS ((memory z a).rooms.high r) ≡ (room_pin v).high = rows_same 0 BOUND_WORDS ((memory z a).rooms.high r) ((memory z ws).rooms.high r) (λ j _ _. sym (in_room (at_high r j))) ∙ ((λ i. rows 0 BOUND_WORDS ((memory z ws).rooms.high (sym pin.pin.room i))) ∙ h.high) in
        let base : (memory z a).rooms.base r ≡ (room_pin v).base = sym (in_room (at_base r)) ∙ ((λ i. (memory z ws).rooms.base (sym pin.pin.room i)) ∙ h.base) in
        λ i. record { low = low_number (low i); high = high_number (high i); base = base i }

    links_are : (r : ℕ) → linked (memory z ws).rooms r ≡ linked (memory z a).rooms r
    links_are r = linked_same (memory z a).rooms (memory z ws).rooms r (in_room (at_first r)) (fun_ext (λ i. in_room (at_next r i)))

    apart : (r : ℕ) → HasRoomPin z r v → (i : ℕ) → IsLinked (memory z a) r i → (class_in ((memory z a).rooms.key r i) ≡ class_number c) × (block_in ((memory z a).rooms.key r i) ≡ b) → ⊥
    apart r pin i once same = let m : Memory = memory z ws in let h = pin_holds z call r x (grown t.before v) t.number w pin t.told in
        let weighs : weight (m.rooms.pin r) ≡ 1 = subst (λ (k : ℕ). weight (m.rooms.pin k) ≡ 1) pin.pin.room h.cover in
        let here : IsLinked m r i = ap (total (λ j. one_at j i)) (links_are r) ∙ once in
        let owned = key_owned z t.told.table t.told.rule r i pin.inside weighs here in
        let e : class_in (m.rooms.key r i) ≡ class_number c = ap class_in (in_room (at_key r i)) ∙ same.0 in let f : block_in (m.rooms.key r i) ≡ b = ap block_in (in_room (at_key r i)) ∙ same.1 in
        let owned' : 1 ≤ entry_owners z m.rooms (content m.arena.bytes) (map rooms_held t.told.table.states) (class_number c) b = subst (λ (q : ℕ × ℕ). 1 ≤ entry_owners z m.rooms (content m.arena.bytes) (map rooms_held t.told.table.states) q.0 q.1) (λ j. (e j, f j)) owned in
        let free = t.free in omega arith

  pub takes_alone : (r : ℕ) → HasRoomPin z r v → Runs (TakesIn z r (span_of (room_pin v)) c b) v w
  takes_alone r pin = runs_left (SetsBit z c b) (TakesIn z r (span_of (room_pin v)) c b) v w moves (λ a d l s. record { wide = wide a d l s; small = small a d l s; clear = s.0; range = span_is a d l s r pin; becomes = s.1; apart = apart a d l s r pin }) t.still
