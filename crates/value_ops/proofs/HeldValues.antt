-- What stands in a header that a pass holds live, locked or dead, and in its block: what the pass keeps of it.
use Rattle.std.proofs.Common.{◌≡◌, ℕ, ◌+◌, ◌*◌, ◌<◌, ◌≤◌, ◌==◌, cond, List, [], ◌∷◌, map, length, sym, ap, ◌∙◌, subst, arith, eqb-true}
use mathlib.Core.Logic.{dite}
use mathlib.Core.Option.{some}
use native.Mathlib.Decide.{dec_lt}
use lib.ListN.{get_elem?}
use Rattle.pin_word.specs.PinWord.{generation_of, state_of}
use Rattle.oak_model.specs.Class.{class_number}
use Rattle.oak_model.specs.Counts.{one_if, one_at, total, rows, Each}
use Rattle.oak_model.specs.Kept.{AreTrueTo}
use Rattle.oak_model.specs.Limits.{Sizes}
use Rattle.oak_model.proofs.Counting.{test-cases}
use Rattle.oak_model.proofs.Lists.{rows_length}
use Rattle.oak_model.proofs.RowLaws.{each_first, each_rest}
use Rattle.arena_core.specs.Arena.{ArenaMemory, read_arena, block_words, blocks}
use Rattle.arena_core.specs.Blocks.{block_from}
use Rattle.arena_core.specs.Place.{IsPlace, class_in, block_in, class_from, content}
use Rattle.arena_core.proofs.PlaceLaws.{class_number-from}
use Rattle.header_core.specs.declared.states.TheConstants.{OWNED, LIVE, RETIRED}
use Rattle.header_core.specs.declared.holds.HeldAs.{HeldAs}
use Rattle.header_core.specs.declared.holds.HeldAs.TheVariants.{Owned, Fresh, Locked, Buried}
use Rattle.header_core.specs.declared.holds.HeldHeader.{HeldHeader}
use Rattle.header_core.specs.Headers.{HeaderMemory, read_header}
use Rattle.header_core.specs.HeaderHolds.{held_state, in_state, place_held, generation_held, kept_of_headers}
use Rattle.header_core.specs.HeaderRule.{stocked}
use Rattle.header_core.proofs.HeaderFacts.{holds_some, held_is, held_one, generation_is}
use Rattle.header_core.proofs.HeldHeaders.{held_in, rows_in}
use Rattle.header_core.proofs.StockedStates.{stocked_high}
use Rattle.oak_core.specs.declared.states.PassState.{PassState}
use Rattle.oak_core.specs.Memory.{Memory, memory}
use Rattle.oak_core.specs.Owners.{block_of_header, blocks_of_header, header_blocks, IsWholeHeader, has_block}
use Rattle.oak_core.specs.PassState.{headers_held}
use Rattle.oak_core.specs.Rule.{Rule}
use Rattle.oak_core.specs.TableState.{TableState}
use Rattle.oak_core.proofs.owners.HeaderBlocks.{IsTrueBlock, blocks_true}
use Rattle.oak_core.proofs.held.HeaderStanding.{knows, stand, at_headers, parts, place_of}
use Rattle.oak_core.proofs.owners.OwnerLaws.{live_inside, owner_counts, place_below, names_itself}
use Rattle.value_ops.specs.HeldValue.{stamp_held, words_in}
use Rattle.arena_core.proofs.HeldWords.{words_are}

-- the words of a header's block are those of the table

own_words : (m : ArenaMemory) (r : HeldHeader) → class_in r.place < 4 → length r.words ≡ block_words (class_in r.place) → IsTrueBlock (read_arena m) (block_of_header r) → content m.bytes r.place ≡ r.words
own_words m r low whole t = let e = class_number-from (class_in r.place) low in
    (λ i. rows 0 (block_words (sym e i)) (m.bytes (sym e i) (block_in r.place))) ∙ words_are m (block_of_header r) (whole ∙ ap block_words (sym e)) t

-- a header that is not owned has a block

block_true : (m : ArenaMemory) (s : HeldAs) (r : HeldHeader) → one_at (held_state s) OWNED ≡ 0 → Each (IsTrueBlock (read_arena m)) (blocks_of_header s r) → IsTrueBlock (read_arena m) (block_of_header r)
unfolding one_at
block_true m Owned r none t = absurd (omega arith)
block_true m Fresh r none t = t.0
block_true m (Locked at) r none t = t.0
block_true m Buried r none t = t.0

has_block_as : (s : HeldAs) → one_at (held_state s) OWNED ≡ 0 → 0 < stocked (held_state s)
unfolding one_at
has_block_as Owned none = absurd (omega arith)
has_block_as Fresh none = omega arith
has_block_as (Locked at) none = omega arith
has_block_as Buried none = omega arith

words_true : (m : ArenaMemory) (h : ℕ) (rs : List HeldHeader) → Each IsWholeHeader rs → Each (IsTrueBlock (read_arena m)) (header_blocks rs) → rows_in h OWNED rs ≡ 0 → 0 < held_in h rs → class_in (place_held h rs) < 4 → content m.bytes (place_held h rs) ≡ words_in h rs
unfolding total one_at
words_true m h [] whole t none some_of low = absurd (omega arith)
words_true m h (r ∷ rs) whole t none some_of low = let T = IsTrueBlock (read_arena m) in
    test-cases (r.header == h) (λ u. one_if u * one_at (held_state r.held_as) OWNED + rows_in h OWNED rs ≡ 0 → 0 < one_if u + held_in h rs → class_in (cond u r.place (place_held h rs)) < 4 → content m.bytes (cond u r.place (place_held h rs)) ≡ cond u r.words (words_in h rs))
    (λ _ n _ l. let o : one_at (held_state r.held_as) OWNED ≡ 0 = omega arith in
    own_words m r l (whole.0 (has_block_as r.held_as o)) (block_true m r.held_as r o (each_first T (blocks_of_header r.held_as r) (header_blocks rs) t)))
    (λ _ n s l. words_true m h rs whole.1 (each_rest T (blocks_of_header r.held_as r) (header_blocks rs) t) (omega arith) (omega arith) l)
    none some_of low

-- the stamp word of a held header

stamp_true : (m : HeaderMemory) (h : ℕ) (rs : List HeldHeader) → AreTrueTo (read_header m) (kept_of_headers rs) → 0 < held_in h rs → m.stamp h ≡ stamp_held h rs
unfolding total kept_of_headers one_at
stamp_true m h [] t some_of = absurd (omega arith)
stamp_true m h (r ∷ rs) t some_of = test-cases (r.header == h) (λ u. 0 < one_if u + held_in h rs → m.stamp h ≡ cond u r.stamp (stamp_held h rs))
    (λ is _. ap m.stamp (sym (eqb-true r.header h is)) ∙ t.1.0) (λ _ l. stamp_true m h rs t.1.1 (omega arith)) some_of

-- a header that the pass holds in a state with a block, at a moment at which the rule holds
module _ (z : Sizes) (s : TableState) (r : Rule z s) (seat : ℕ) (v : PassState) (here : get_elem? s.states seat ≡ some v) (h t : ℕ) (above : LIVE ≤ t) (low : t < RETIRED) (held : 0 < in_state h t v.headers) where
  abbrev m : Memory
  m = memory z s.words

  abbrev place : ℕ
  place = place_held h v.headers.held

  some_held : 0 < held_in h v.headers.held
  some_held = holds_some h t v.headers held

  pub state_is : state_of (m.headers.pin h) ≡ t
  state_is = held_is m.headers (content m.arena.bytes) IsPlace (knows s) (map headers_held s.states) (stand z s seat v r here) seat v.headers h t (at_headers z s seat v r here) (omega arith) low held

  pub once_at : held_in h v.headers.held ≡ 1
  once_at = held_one m.headers (content m.arena.bytes) IsPlace (knows s) (map headers_held s.states) (stand z s seat v r here) seat v.headers h t (at_headers z s seat v r here) held

  pub generation_at : generation_of (m.headers.pin h) ≡ generation_held h v.headers.held
  generation_at = generation_is m.headers (content m.arena.bytes) IsPlace (knows s) (map headers_held s.states) (stand z s seat v r here) seat v.headers h (at_headers z s seat v r here) some_held

  pub place_at : m.headers.place h ≡ place
  place_at = place_of z s seat v r here h some_held

  pub stamp_at : m.headers.stamp h ≡ stamp_held h v.headers.held
  stamp_at = stamp_true m.headers h v.headers.held (parts z s seat v r here).headers some_held

  pub stocked_is : stocked (state_of (m.headers.pin h)) ≡ 1
  stocked_is = stocked_high (state_of (m.headers.pin h)) (let e = state_is in omega arith) (let e = state_is in omega arith)

  pub is_place : IsPlace place
  is_place = subst IsPlace place_at ((stand z s seat v r here).placed h (let e = stocked_is in omega arith))

  pub class_low : class_in place < 4
  class_low = place_below place is_place

  unowned : in_state h OWNED v.headers ≡ 0
  unowned = dite (dec_lt 0 (in_state h OWNED v.headers))
      (λ o. let e = held_is m.headers (content m.arena.bytes) IsPlace (knows s) (map headers_held s.states) (stand z s seat v r here) seat v.headers h OWNED (at_headers z s seat v r here) (omega arith) (omega arith) o in let f = state_is in absurd (omega arith))
      (λ no. omega arith)

  pub words_at : content m.arena.bytes place ≡ words_in h v.headers.held
  words_at = words_true m.arena h v.headers.held (r.passes seat v here).whole (blocks_true (read_arena m.arena) (header_blocks v.headers.held) (parts z s seat v r here).within) unowned some_held class_low

  pub words_long : length (words_in h v.headers.held) ≡ block_words (class_in place)
  words_long = ap length (sym words_at) ∙ rows_length 0 (block_words (class_in place)) (m.arena.bytes (class_in place) (block_in place))

  -- the block, as it is handed back
  pub block_at : block_from m.arena.bytes (class_from (class_in (m.headers.place h))) (block_in (m.headers.place h)) ≡ record { class = class_from (class_in place); number = block_in place; words = words_in h v.headers.held }
  block_at = ap (λ (p : ℕ). block_from m.arena.bytes (class_from (class_in p)) (block_in p)) place_at ∙ ap (λ (ws : List ℕ). record { class = class_from (class_in place); number = block_in place; words = ws }) (named_words ∙ words_at)
    where
      named_words : rows 0 (block_words (class_number (class_from (class_in place)))) (m.arena.bytes (class_number (class_from (class_in place))) (block_in place)) ≡ content m.arena.bytes place
      named_words = λ i. rows 0 (block_words (class_number-from (class_in place) class_low i)) (m.arena.bytes (class_number-from (class_in place) class_low i) (block_in place))

  -- it is the header's
  pub has_it : has_block m.headers (class_in place) (block_in place) h ≡ 1
  has_it = (λ i. stocked_is i * Rattle.arena_core.specs.Place.names_block (class_in place) (block_in place) (place_at i)) ∙ (λ i. 1 * names_itself place i)

  pub inside_table : h < z.headers
  inside_table = live_inside z s.words h (let e = stocked_is in omega arith)

  -- and one of the table's
  pub block_inside : block_in place < blocks z (class_in place)
  block_inside = dite (dec_lt (block_in place) (blocks z (class_in place))) (λ l. l)
      (λ ge. let none = r.blocks.inside (class_in place) (block_in place) (omega arith) in let counts = owner_counts z m.headers h (class_in place) (block_in place) inside_table in let one = has_it in absurd (omega arith))
