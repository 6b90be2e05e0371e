-- What the table has of a header that a pass holds: the place, the stamp and the words that the pass keeps of it, and its generation. So the value word of its life names it.
use Rattle.std.proofs.Common.{◌≡◌, ℕ, ◌^◌, ◌<◌, List, [], ◌∷◌, ◌++◌, sym, refl, ap, ◌∙◌, subst, inl, inr, arith, Some}
use mathlib.Core.Option.{some}
use lib.ListN.{get_elem?}
use Rattle.pin_word.specs.PinWord.{generation_of, state_of}
use Rattle.oak_model.specs.Counts.{one_at, Each, Has, rows}
use Rattle.oak_model.specs.Kept.{KeptWord, AreTrueTo}
use Rattle.oak_model.proofs.MemberLaws.{each_has}
use Rattle.oak_model.proofs.RowLaws.{each_first, each_rest}
use Rattle.arena_core.specs.Arena.{ArenaSpot, read_arena, block_words}
use Rattle.arena_core.specs.HeldBlocks.{kept_of_block, kept_of_blocks}
use Rattle.arena_core.specs.Place.{IsPlace, class_in, block_in, content}
use Rattle.arena_core.proofs.HeldWords.{words_are}
use Rattle.arena_core.proofs.PlaceLaws.{class_number-from, class_below}
use Rattle.header_core.specs.HeaderHolds.{held_state, kept_of_headers}
use Rattle.header_core.specs.HeaderRule.{stocked}
use Rattle.header_core.specs.Headers.{read_header}
use Rattle.header_core.specs.declared.holds.HeaderHolds.{HeaderHolds}
use Rattle.header_core.specs.declared.holds.HeldAs.{HeldAs}
use Rattle.header_core.specs.declared.holds.HeldAs.TheVariants.{Owned, Fresh, Locked, Buried}
use Rattle.header_core.specs.declared.holds.HeldHeader.{HeldHeader}
use Rattle.header_core.proofs.HeaderFacts.{true_numbers, held_one}
use Rattle.header_core.proofs.HeldHeaders.{held_in, rows_have}
use Rattle.oak_core.specs.declared.states.Knowledge.{Knowledge}
use Rattle.oak_core.specs.KeyReads.{value_in, shown_by}
use Rattle.oak_core.specs.Known.{known}
use Rattle.oak_core.specs.Memory.{Memory}
use Rattle.oak_core.specs.Owners.{HeadersAreHeld, IsWholeHeader, HeadersAreWhole, block_of_header, blocks_of_header, header_blocks}
use Rattle.oak_core.proofs.memory.HomeWords.{NamesAt, home_names}

-- what holds of the words of all blocks of held headers holds of those of one
of_row : (P : KeptWord ArenaSpot → Type 0) (rs : List HeldHeader) (own : HeldHeader) → Has own rs → 0 < stocked (held_state own.held_as) → Each P (kept_of_blocks (header_blocks rs)) → Each P (kept_of_block (block_of_header own))
unfolding kept_of_blocks one_at
of_row P [] own m l e = absurd m
of_row P (r ∷ rs) own (inl s) l e = subst (λ (t : HeldHeader). Each P (kept_of_block (block_of_header t))) (sym s) (by r.held_as (subst (λ (t : HeldHeader). 0 < stocked (held_state t.held_as)) s l) e)
  where
    by : (s : HeldAs) → 0 < stocked (held_state s) → Each P (kept_of_blocks (blocks_of_header s r ++ header_blocks rs)) → Each P (kept_of_block (block_of_header r))
    by Owned l e = absurd (none l)
      where
        none : 0 < stocked 1 → ⊥
        none l = absurd (omega arith)
    by Fresh l e = each_first P (kept_of_block (block_of_header r)) (kept_of_blocks (header_blocks rs)) e
    by (Locked at) l e = each_first P (kept_of_block (block_of_header r)) (kept_of_blocks (header_blocks rs)) e
    by Buried l e = each_first P (kept_of_block (block_of_header r)) (kept_of_blocks (header_blocks rs)) e
of_row P (r ∷ rs) own (inr m) l e = of_row P rs own m l (by r.held_as e)
  where
    by : (s : HeldAs) → Each P (kept_of_blocks (blocks_of_header s r ++ header_blocks rs)) → Each P (kept_of_blocks (header_blocks rs))
    by Owned e = e
    by Fresh e = each_rest P (kept_of_block (block_of_header r)) (kept_of_blocks (header_blocks rs)) e
    by (Locked at) e = each_rest P (kept_of_block (block_of_header r)) (kept_of_blocks (header_blocks rs)) e
    by Buried e = each_rest P (kept_of_block (block_of_header r)) (kept_of_blocks (header_blocks rs)) e

module _ (m : Memory) (qs : List Knowledge) (hs : List HeaderHolds) (heads : HeadersAreHeld m.headers m.arena.bytes (known qs) hs) (seat : ℕ) (a : HeaderHolds) (there : get_elem? hs seat ≡ some a) (own : HeldHeader) (has : Has own a.held) where
  pub held_generation : generation_of (m.headers.pin own.header) ≡ own.generation
  held_generation = each_has (λ (r : HeldHeader). generation_of (m.headers.pin r.header) ≡ r.generation) a.held own (heads.generations seat a there) has

  -- the pass holds it once
  pub held_only : held_in own.header a.held ≡ 1
  held_only = held_one m.headers (content m.arena.bytes) IsPlace (known qs) hs heads seat a own.header (held_state own.held_as) there (rows_have own.header (held_state own.held_as) a.held own has refl refl)

  pub held_names : own.header < 2 ^ 31 → m.headers.pin own.header < 2 ^ 64 → NamesAt own.header own.generation
  unfolding generation_of
  held_names few small = home_names own.header own.generation few (let g = held_generation in omega arith)

  module _ (numbers : AreTrueTo (read_header m.headers) (kept_of_headers a.held)) where
    pub held_place : m.headers.place own.header ≡ own.place
    held_place = (true_numbers m.headers a.held own numbers has).0

    pub held_stamp : m.headers.stamp own.header ≡ own.stamp
    held_stamp = (true_numbers m.headers a.held own numbers has).1

    -- of a header with a block
    pub held_content : state_of (m.headers.pin own.header) ≡ held_state own.held_as → 0 < stocked (held_state own.held_as) → HeadersAreWhole a → AreTrueTo (read_arena m.arena) (kept_of_blocks (header_blocks a.held)) → content m.arena.bytes own.place ≡ own.words
    held_content state some_block whole blocks = let place = subst IsPlace held_place (heads.placed own.header (subst (λ (s : ℕ). 0 < stocked s) (sym state) some_block)) in
        let low : class_in own.place < 4 = (let c = class_below place.class in let e = place.is_in in omega arith) in let same = class_number-from (class_in own.place) low in
        subst (λ (c : ℕ). rows 0 (block_words c) (m.arena.bytes c (block_in own.place)) ≡ own.words) same
        (words_are m.arena (block_of_header own) (each_has IsWholeHeader a.held own whole has some_block ∙ ap block_words (sym same)) (of_row (λ (w : KeptWord ArenaSpot). read_arena m.arena w.spot ≡ w.number) a.held own has some_block blocks))

    -- so it shows the value that the pass has of it
    pub held_shown : state_of (m.headers.pin own.header) ≡ held_state own.held_as → 0 < stocked (held_state own.held_as) → HeadersAreWhole a → AreTrueTo (read_arena m.arena) (kept_of_blocks (header_blocks a.held)) → Some (value_in own.place own.words) ≡ shown_by m own.header
    held_shown state some_block whole blocks = sym (ap (λ (t : ℕ). Some (value_in t (content m.arena.bytes t))) held_place ∙ ap (λ (t : List ℕ). Some (value_in own.place t)) (held_content state some_block whole blocks))
