use Rattle.std.proofs.Common.{refl, sym, subst, arith, ap, ◌∙◌, ◌≡◌, ◌<◌, ◌+◌, ◌*◌, ℕ, List, slice_index}
use Rattle.oak_model.specs.Limits.{Sizes}
use Rattle.oak_model.specs.Counts.{below, one_if}
use Rattle.oak_model.proofs.Counting.{one_if_le}
use Rattle.oak_core.specs.Memory.{memory, word_count}
use Rattle.oak_core.specs.Closing.{closed_key, closed_words}
use Rattle.oak_core.specs.Usage.{is_open}
use Rattle.oak_core.proofs.memory.UsedWords.{room_word, counted_more, one_of_test}
use Rattle.oak_core.proofs.closing.Closed.used_chunks.Goals as goal

pub loop-room-init : goal.loop-room-init
unfolding below
loop-room-init c = record { counted = refl; small = omega arith }

pub word-word-requires : goal.word-word-requires
word-word-requires c = let z : Sizes = closed_key c.args.self.now in let n = c.room_count-rooms.ensures.is in let lt : c.loop-room.room < z.chunks = omega arith in
    let w = room_word z (closed_words c.args.self.now) c.loop-room.room lt in
    subst (λ (n : ℕ). n < word_count z) (λ i. sym c.rooms_at-first.ensures.is i + c.loop-room.room * sym c.room_width-width.ensures.is i) w.0

pub loop-room-preserved : goal.loop-room-preserved
loop-room-preserved c = let z : Sizes = closed_key c.args.self.now in let ws : List ℕ = closed_words c.args.self.now in let n = c.room_count-rooms.ensures.is in let lt : c.loop-room.room < z.chunks = omega arith in
    let w = room_word z ws c.loop-room.room lt in
    let was : c.loop-room.used ≡ below (λ r. one_if (is_open ((memory z ws).rooms.pin r))) c.loop-room.room = c.loop-room.invariant.counted in
    let one : c.from-used.result ≡ one_if c.is_open.result = c.from-used.ensures ∙ one_of_test c.is_open.result in record {
      counted = counted_more (λ r. one_if (is_open ((memory z ws).rooms.pin r))) c.loop-room.room c.loop-room.used c.from-used.result was
          (one ∙ (ap one_if c.is_open.ensures ∙ ap (λ (k : ℕ). one_if (is_open k)) (c.word-word.ensures ∙ ((λ i. slice_index ws (c.rooms_at-first.ensures.is i + c.loop-room.room * c.room_width-width.ensures.is i)) ∙ w.1))));
      small = let o = one_if_le c.is_open.result in let s = c.loop-room.invariant.small in omega arith;
    }
