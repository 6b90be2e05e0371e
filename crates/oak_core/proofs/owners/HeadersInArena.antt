-- The points on headers stand after a step on the arena: a block that a header has is no pass's, so no pass stores to it.
use Rattle.std.proofs.Common.{◌≡◌, ℕ, ◌*◌, ◌<◌, ◌==◌, ◌&&◌, cond, Bool, List, map, refl, ap, ◌∙◌, subst, arith, ne_eqb, Option, Some}
use Rattle.std.proofs.lemmas.Bool.{and_left, and_right}
use mathlib.Core.Logic.{dite}
use native.Mathlib.Decide.{ℕ_discrete}
use mathlib.Core.Option.{some}
use lib.ListN.{get_elem?}
use Rattle.pin_word.specs.PinWord.{state_of}
use Rattle.oak_model.specs.Limits.{Sizes}
use Rattle.oak_model.specs.Counts.{one_at}
use Rattle.oak_model.specs.Class.{class_number}
use Rattle.oak_model.proofs.Lists.{at_map}
use Rattle.oak_model.proofs.Counting.{one_at-same}
use Rattle.oak_model.proofs.RowLaws.{rows_same}
use Rattle.arena_core.specs.Arena.{block_words}
use Rattle.arena_core.specs.ArenaStep.{ArenaStep, take_bit, clear_bit, store_word, arena_spot, MayArena}
use Rattle.arena_core.specs.Blocks.{holds, BlocksAreOwned}
use Rattle.arena_core.specs.Place.{IsPlace, class_in, block_in, names_block, content}
use Rattle.arena_core.specs.Arena.{at_bytes}
use Rattle.arena_core.proofs.ArenaSteps.{held_once}
use Rattle.header_core.specs.declared.states.TheConstants.{LIVE}
use Rattle.header_core.specs.declared.holds.HeaderHolds.{HeaderHolds}
use Rattle.header_core.specs.declared.holds.PinnedHeader.{PinnedHeader}
use Rattle.header_core.specs.HeaderRule.{stocked, IsGood, PinHolds, GoodPinHolds, OnPin}
use Rattle.header_core.proofs.HeaderLaws.{content_frame}
use Rattle.oak_core.specs.declared.states.PassState.{PassState}
use Rattle.oak_core.specs.Memory.{Memory, in_arena, write}
use Rattle.oak_core.specs.EntryOwners.{all_others}
use Rattle.oak_core.specs.KeyReads.{value_in, shown_by}
use Rattle.oak_core.specs.Owners.{has_block, HeadersAreHeld}
use Rattle.oak_core.specs.PassState.{blocks_of, headers_held, rooms_held}
use Rattle.oak_core.proofs.owners.OwnerLaws.{owner_counts}

-- a block that the word does not name is not what the word names
pub other_content : (m : Memory) (c b k x word : ℕ) → ¬ ((class_in word ≡ c) × (block_in word ≡ b)) → content (write m (in_arena (at_bytes c b k)) x).arena.bytes word ≡ content m.arena.bytes word
other_content m c b k x word ne = rows_same 0 (block_words (class_in word)) ((write m (in_arena (at_bytes c b k)) x).arena.bytes (class_in word) (block_in word)) (m.arena.bytes (class_in word) (block_in word)) (λ l _ _. same l)
  where
    same : (l : ℕ) → cond ((class_in word == c) && ((block_in word == b) && (l == k))) x (m.arena.bytes (class_in word) (block_in word) l) ≡ m.arena.bytes (class_in word) (block_in word) l
    same l = dite (ℕ_discrete (class_in word) c)
        (λ e. dite (ℕ_discrete (block_in word) b) (λ f. absurd (ne (e, f))) (λ nf. ap (λ (t : Bool). cond t x (m.arena.bytes (class_in word) (block_in word) l)) (and_right (class_in word == c) ((block_in word == b) && (l == k)) (and_left (block_in word == b) (l == k) (ne_eqb _ _ nf)))))
        (λ n. ap (λ (t : Bool). cond (t && ((block_in word == b) && (l == k))) x (m.arena.bytes (class_in word) (block_in word) l)) (ne_eqb _ _ n))

-- nor is it what the key of another header holds
pub shown_still : (m : Memory) (c b k x h : ℕ) → ¬ ((class_in (m.headers.place h) ≡ c) × (block_in (m.headers.place h) ≡ b)) → shown_by (write m (in_arena (at_bytes c b k)) x) h ≡ shown_by m h
shown_still m c b k x h ne = ap (λ (ws : List ℕ). Some (value_in (m.headers.place h) ws)) (other_content m c b k x (m.headers.place h) ne)

pub names_named : (c b word : ℕ) → class_in word ≡ c → block_in word ≡ b → names_block c b word ≡ 1
names_named c b word e f = let a = one_at-same (class_in word) c e in let d = one_at-same (block_in word) b f in (λ i. a i * d i)

pub live_stocked : (s : ℕ) → s ≡ LIVE → stocked s ≡ 1
unfolding one_at
live_stocked s e = ap stocked e

-- a pin that the rule has of a state
pub pin_fact : (P : PinnedHeader → Type 0) (o : Option PinnedHeader) (p : PinnedHeader) → o ≡ Some p → OnPin P o → P p
pin_fact P o p e f = subst (OnPin P) e f

module _ (z : Sizes) (m : Memory) (vs : List PassState) (seat : ℕ) (v : PassState) (there : get_elem? vs seat ≡ some v) (r : BlocksAreOwned z m.arena.bits (all_others z m (map rooms_held vs)) (map blocks_of vs))
    (known : ℕ → ℕ → ℕ) (hr : HeadersAreHeld m.headers m.arena.bytes known (map headers_held vs)) (inside : (h : ℕ) → 0 < stocked (state_of (m.headers.pin h)) → h < z.headers) where
  -- a block that a header has is held by no pass
  stocked_unheld : (h c b : ℕ) → stocked (state_of (m.headers.pin h)) ≡ 1 → 0 < holds c b v.blocks → ¬ ((class_in (m.headers.place h) ≡ c) × (block_in (m.headers.place h) ≡ b))
  stocked_unheld h c b stock held same =
      let counts = owner_counts z m.headers h c b (inside h (omega arith)) in
      let none = (held_once z m.arena (all_others z m (map rooms_held vs)) (map blocks_of vs) seat v.blocks (at_map blocks_of vs seat v there) r c b held).3 in
      let one : has_block m.headers c b h ≡ 1 = (λ i. stock i * names_block c b (m.headers.place h)) ∙ (λ i. 1 * names_named c b (m.headers.place h) same.0 same.1 i) in
      omega arith

  -- nor is one under a good pin
  pub pinned_unheld : (j : ℕ) (u : HeaderHolds) (p : PinnedHeader) (c b : ℕ) → get_elem? (map headers_held vs) j ≡ some u → u.pin ≡ Some p → IsGood p → 0 < holds c b v.blocks → ¬ ((class_in p.place ≡ c) × (block_in p.place ≡ b))
  pinned_unheld j u p c b at is good held same =
      let holds_it : PinHolds m.headers (content m.arena.bytes) p = pin_fact (GoodPinHolds m.headers (content m.arena.bytes)) u.pin p is (hr.good j u at) good in
      stocked_unheld p.header c b (live_stocked (state_of (m.headers.pin p.header)) holds_it.live) held (ap class_in holds_it.place ∙ same.0, ap block_in holds_it.place ∙ same.1)

  pub headers_on_arena : (x : ArenaStep) (y : ℕ) → MayArena z x v.blocks → HeadersAreHeld m.headers (write m (in_arena (arena_spot x)) y).arena.bytes known (map headers_held vs)
  headers_on_arena (take_bit c b) y may = hr
  headers_on_arena (clear_bit c b) y may = hr
  headers_on_arena (store_word c b k x) y may = content_frame m.headers (content m.arena.bytes) (content (write m (in_arena (at_bytes (class_number c) b k)) y).arena.bytes) IsPlace known (map headers_held vs)
      (λ j u p at is good. other_content m (class_number c) b k y p.place (pinned_unheld j u p (class_number c) b at is good may.block.held)) hr

  -- what the key of a live header holds stays
  pub shown_on_arena : (x : ArenaStep) (y : ℕ) → MayArena z x v.blocks → (h : ℕ) → state_of (m.headers.pin h) ≡ LIVE → shown_by (write m (in_arena (arena_spot x)) y) h ≡ shown_by m h
  shown_on_arena (take_bit c b) y may h live = refl
  shown_on_arena (clear_bit c b) y may h live = refl
  shown_on_arena (store_word c b k x) y may h live = shown_still m (class_number c) b k y h (stocked_unheld h (class_number c) b (live_stocked (state_of (m.headers.pin h)) live) may.block.held)
