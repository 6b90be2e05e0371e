-- Two chunks that a call took, the second at the key at which the first one ends: their ranges are neighbours.
use Rattle.std.proofs.Common.{◌≡◌, ◌≢◌, ℕ, ◌+◌, ◌-◌, ◌≤◌, true, List, [], ◌∷◌, length, sym, refl, ap, ◌∙◌, subst, arith, eq-eqb, Option, Some}
use mathlib.Core.Logic.{dite}
use mathlib.Core.Option.{some}
use native.Mathlib.Decide.{ℕ_discrete, dec_lt}
use lib.ListN.{get_elem?}
use Rattle.oak_model.specs.Counts.{Has, total}
use Rattle.oak_model.specs.KeyNumber.{key_number}
use Rattle.oak_model.specs.Limits.{Sizes}
use Rattle.oak_model.proofs.Counting.{one_at-same}
use Rattle.chunk_core.specs.declared.holds.Carried.{Carried}
use Rattle.chunk_core.specs.declared.holds.HeldRoom.{HeldRoom}
use Rattle.chunk_core.specs.declared.holds.MovingRange.{MovingRange}
use Rattle.chunk_core.specs.declared.holds.RoomCopy.{RoomCopy}
use Rattle.chunk_core.specs.KeyWords.{high_bytes, high_number, low_number}
use Rattle.chunk_core.specs.MovingRanges.{is_below}
use Rattle.chunk_core.specs.RoomCopies.{copy_of}
use Rattle.chunk_core.specs.Spans.{Span, past, past_high, within}
use Rattle.chunk_core.specs.ValueWord.{names_header}
use Rattle.chunk_core.proofs.SpanLaws.{high-none, high-some, past-cases}
use Rattle.oak_core.specs.declared.sorting.SortSlot.{SortSlot}
use Rattle.oak_core.specs.declared.states.PassState.{PassState}
use Rattle.rebalance.specs.declared.chunk_pairs.Taken.{Taken}
use Rattle.rebalance.specs.Chunks.{HoldsFront, held_row, keys_in}
use Rattle.rebalance.specs.Filled.{IsFilled}
use Rattle.rebalance.specs.Merging.{HoldsPair, TakesChunk}
use Rattle.rebalance.specs.Mirrors.{copy_or, entry_words, held_memory, range_span}
use Rattle.rebalance.proofs.CarriedEntries.{carried_names}
use Rattle.rebalance.proofs.FrontLaws.{front_copy}
use Rattle.rebalance.proofs.HeldAlone.{copy_first}
use Rattle.rebalance.proofs.HeldBeside.{copy_behind}
use Rattle.rebalance.proofs.JoinedRanges.{within_high}
use Rattle.rebalance.proofs.MergedMirrors.{slots_still}
use Rattle.rebalance.proofs.MomentRanges.{moment_apart}
use Rattle.rebalance.proofs.RangeKeys.{high_number-is, number_of}
use Rattle.rebalance.proofs.RangesStand.{range_stands}
use Rattle.rebalance.proofs.RoomsBeside.{entries_still}
use Rattle.rebalance.proofs.SweptKeys.{begins_by}

-- a later key is past a high bound where an earlier one is
high_later : (b j k : ℕ) → j ≤ k → past_high b j ≤ past_high b k
high_later b j k l = dite (ℕ_discrete b 0)
    (λ e. let p = ap (λ (t : ℕ). past_high t j) e in let q = high-none j in omega arith)
    (λ ne. let a = high-some b j ne in let c = high-some b k ne in past-cases (b - 1) j (λ (t : ℕ). past (b - 1) j ≡ t → past_high b j ≤ past_high b k)
    (λ le e. past-cases (b - 1) k (λ (t : ℕ). past (b - 1) k ≡ t → past_high b j ≤ past_high b k) (λ _ f. omega arith) (λ lt _. absurd (omega arith)) refl) (λ _ e. omega arith) refl)

inside_of : (s : Span) (k : ℕ) → s.low ≤ k → past_high s.high k ≡ 0 → within s k ≡ 1
inside_of s k l h = past-cases s.low k (λ (t : ℕ). t - past_high s.high k ≡ 1) (λ _. omega arith) (λ lt. absurd (omega arith))

-- Where one range ends, another one that has the number and no number of the first one's begins there.
begins_there : (s t : Span) (h : ℕ) → s.high ≡ h + 1 → within s s.low ≡ 1 → within t h ≡ 1 → ((k : ℕ) → within t k + within s k ≤ 1) → t.low ≡ h
begins_there s t h ends begun inside apart = let l = begins_by t h inside in dite (dec_lt t.low h)
    (λ lt. let f = within_high s h s.low ends begun in let k : ℕ = h - 1 in
    let a = inside_of s (h - 1) (omega arith) (high-some s.high (h - 1) (λ e. absurd (omega arith)) ∙ past-cases (s.high - 1) (h - 1) (λ (t : ℕ). t ≡ 0) (λ le. absurd (omega arith)) (λ _. refl)) in
    let p = past-cases t.low h (λ (n : ℕ). n - past_high t.high h ≡ 1 → past_high t.high h ≡ 0) (λ _ e. omega arith) (λ _ e. absurd (omega arith)) inside in
    let q = high_later t.high (h - 1) h (omega arith) in
    let b = inside_of t (h - 1) (omega arith) (omega arith) in let n = apart (h - 1) in absurd (omega arith))
    (λ ge. omega arith)

-- a room whose words are as they were is filled still
pub still_filled : (e r : ℕ) (xs : List SortSlot) (base : ℕ) (hs ks : List HeldRoom) → copy_of r ks ≡ copy_of r hs → IsFilled e r xs base (held_memory hs) → IsFilled e r xs base (held_memory ks)
still_filled all r xs base hs ks e f = record {
  is = entries_still (held_memory hs) (held_memory ks) r (length xs) (λ j. ap (λ (o : Option RoomCopy). entry_words (copy_or o) j (λ x. x.word)) e) (λ j. ap (λ (o : Option RoomCopy). entry_words (copy_or o) j (λ x. x.value)) e) ∙ f.is;
  linked = λ j l. ap (λ (o : Option RoomCopy). entry_words (copy_or o) j (λ x. x.next)) e ∙ f.linked j l;
  count = ap (λ (o : Option RoomCopy). (copy_or o).count) e ∙ f.count;
  first = ap (λ (o : Option RoomCopy). (copy_or o).first) e ∙ f.first;
  base_is = ap (λ (o : Option RoomCopy). (copy_or o).base) e ∙ f.base_is;
  rest = λ j le l. let b = f.rest j le l in (ap (λ (o : Option RoomCopy). entry_words (copy_or o) j (λ x. x.word)) e ∙ b.0, ap (λ (o : Option RoomCopy). entry_words (copy_or o) j (λ x. x.value)) e ∙ b.1);
}

module _ (z : Sizes) (call : ℕ) (key h : List ℕ) (low up : Taken) (ys xs : List SortSlot) (v a q b : PassState) (lower : TakesChunk z call key low ys v a) (front : HoldsFront z low.room lower.words lower.range [] [] q) (upper : TakesChunk z call h up xs q b) (end : high_bytes lower.words.high ≡ Some h) where
  pub pair_front : HoldsFront z up.room upper.words upper.range (held_row low.room lower.words ∷ []) (lower.range ∷ []) b
  pair_front = subst (λ (p : List HeldRoom × List MovingRange). HoldsFront z up.room upper.words upper.range p.0 p.1 b) (λ i. (front.held i, front.moving i)) upper.front

  upper_there : get_elem? b.rooms.moving 0 ≡ some upper.range
  upper_there = ap (λ (gs : List MovingRange). get_elem? gs 0) pair_front.moving

  lower_there : get_elem? b.rooms.moving 1 ≡ some lower.range
  lower_there = ap (λ (gs : List MovingRange). get_elem? gs 1) pair_front.moving

  -- the lower range ends at the key
  ends_there : high_number lower.range.high ≡ key_number h + 1
  ends_there = ap high_number (sym front.mirrors.high) ∙ (high_number-is lower.words.high ∙ ap number_of end)

  -- so there the upper one begins
  upper_begins : low_number upper.range.low ≡ key_number h
  upper_begins = let low_is = sym upper.rewritten.low ∙ pair_front.mirrors.low in let high_is = sym upper.rewritten.high ∙ pair_front.mirrors.high in
      begins_there (range_span lower.range) (range_span upper.range) (key_number h) ends_there (range_stands z b pair_front.moment 1 lower.range lower_there).begun
      (subst (λ (p : List ℕ × List ℕ). within (record { low = low_number p.0; high = high_number p.1; base = 0 }) (key_number h) ≡ 1) (λ i. (low_is i, high_is i)) upper.inside)
      (moment_apart z b pair_front.moment 0 1 upper.range lower.range (λ e. absurd (omega arith)) upper_there lower_there)

  pub pair_below : is_below upper.range lower.range ≡ true
  pair_below = eq-eqb (high_number lower.range.high) (low_number upper.range.low + 1) (ends_there ∙ ap (λ (n : ℕ). n + 1) (sym upper_begins))

  pub pair_above : high_number lower.held.high ≡ low_number upper.held.low + 1
  pair_above = ap high_number (sym lower.rewritten.high ∙ front.mirrors.high) ∙ (ends_there ∙ (ap (λ (n : ℕ). n + 1) (sym upper_begins) ∙ ap (λ (ws : List ℕ). low_number ws + 1) (sym pair_front.mirrors.low ∙ upper.rewritten.low)))

  rooms_apart : up.room ≢ low.room
  unfolding total
  rooms_apart e = let n = pair_front.apart in let o = one_at-same low.room up.room (sym e) in absurd (omega arith)

  pub lower_copy : copy_of low.room b.rooms.held ≡ Some lower.words
  lower_copy = ap (copy_of low.room) pair_front.held ∙ (copy_behind low.room (held_row up.room upper.words) (held_row low.room lower.words ∷ []) rooms_apart ∙ copy_first low.room lower.words [])

  -- the lower one's entries have the keys that they had
  pub keys_same : (c : Carried) → Has c lower.range.carried → names_header c.value ≡ 1 → keys_in b.rooms.moving c.word ≡ keys_in a.rooms.moving c.word
  keys_same c m is = let x = carried_names z b pair_front.moment c (record { place = 1; range = lower.range; there = lower_there; has = m }) is in
      let y = carried_names z a lower.front.moment c (record { place = 0; range = lower.range; there = ap (λ (gs : List MovingRange). get_elem? gs 0) lower.front.moving; has = m }) is in x.key ∙ sym y.key

  -- both are held, and where they have few entries they may be joined
  abbrev pub pair_held : low.kept + up.kept ≤ z.entries → HoldsPair z low up xs b
  pair_held few = record {
    lower = lower.words;
    upper = upper.words;
    below = lower.range;
    above = upper.range;
    front = pair_front;
    inside = lower.front.inside;
    whole = lower.front.whole;
    mirrors = lower.front.mirrors;
    lower_origin = lower.origin;
    upper_origin = upper.origin;
    neighbours = pair_below;
    lower_base = lower.base_is;
    upper_base = upper.base_is;
    own = ys;
    own_many = lower.many;
    own_has = slots_still (keys_in a.rooms.moving) (keys_in b.rooms.moving) ys lower.range lower.has keys_same;
    own_filled = still_filled z.entries low.room ys lower.words.base a.rooms.held b.rooms.held (lower_copy ∙ sym (front_copy z low.room lower.words lower.range v.rooms.held v.rooms.moving a lower.front)) lower.filled;
    many = upper.many;
    has = upper.has;
    named = upper.named;
    few = few;
  }
