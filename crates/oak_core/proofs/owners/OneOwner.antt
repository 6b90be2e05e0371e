-- A block has one owner: of two headers that have it both are one, and what a header has no pass holds.
use Rattle.std.proofs.Common.{◌≡◌, ◌≢◌, ℕ, zero, suc, ◌+◌, ◌*◌, ◌/◌, ◌%◌, ◌<◌, ◌≤◌, map, ap, ◌∙◌, arith}
use Rattle.std.proofs.lemmas.Nat.Bits.{bit_at-lt}
use mathlib.Core.Logic.{dite}
use mathlib.Core.Option.{some}
use native.Mathlib.Decide.{ℕ_discrete}
use lib.ListN.{get_elem?}
use Rattle.pin_word.specs.PinWord.{state_of}
use Rattle.oak_model.specs.declared.classes.Class.{Class}
use Rattle.oak_model.specs.Class.{class_number}
use Rattle.oak_model.specs.Limits.{Sizes}
use Rattle.oak_model.specs.Counts.{below}
use Rattle.oak_model.proofs.Counting.{below_at}
use Rattle.oak_model.proofs.Lists.{at_map}
use Rattle.arena_core.specs.Blocks.{holds}
use Rattle.arena_core.specs.Place.{IsPlace, names_block, content}
use Rattle.arena_core.proofs.ArenaSteps.{held_once}
use Rattle.header_core.specs.declared.states.TheConstants.{LOCKED}
use Rattle.header_core.specs.HeaderHolds.{place_held}
use Rattle.header_core.specs.HeaderRule.{stocked}
use Rattle.header_core.proofs.HeaderFacts.{holds_some, held_is, place_is}
use Rattle.oak_core.specs.declared.states.PassState.{PassState}
use Rattle.oak_core.specs.Memory.{Memory, memory}
use Rattle.oak_core.specs.Known.{known}
use Rattle.oak_core.specs.EntryOwners.{all_others}
use Rattle.oak_core.specs.Owners.{has_block}
use Rattle.oak_core.specs.PassState.{blocks_of, headers_held, rooms_held, knowledge_of, kept_of}
use Rattle.oak_core.specs.Rule.{Rule}
use Rattle.oak_core.specs.Step.{LocksBlock}
use Rattle.oak_core.specs.TableState.{TableState}
use Rattle.oak_core.proofs.owners.HeadersInArena.{names_named}
use Rattle.oak_core.proofs.owners.KeptWords.{parts_of}
use Rattle.oak_core.proofs.owners.OwnerLaws.{live_inside, owner_counts}

-- two numbers of a sum
pub below_two : (f : ℕ → ℕ) (n h k : ℕ) → h < n → k < n → h ≢ k → f h + f k ≤ below f n
unfolding below
below_two f zero h k lh lk ne = absurd (omega arith)
below_two f (suc n) h k lh lk ne = dite (ℕ_discrete h n)
    (λ e. let b = below_at f n k (omega arith) in let q : f h ≡ f n = ap f e in omega arith)
    (λ nh. dite (ℕ_discrete k n) (λ e. let b = below_at f n h (omega arith) in let q : f k ≡ f n = ap f e in omega arith) (λ nk. let t = below_two f n h k (omega arith) (omega arith) ne in omega arith))

pub locked_stocked : (s : ℕ) → s ≡ LOCKED → stocked s ≡ 1
unfolding Rattle.oak_model.specs.Counts.one_at
locked_stocked s e = ap stocked e

module _ (z : Sizes) (s : TableState) (r : Rule z s) where
  abbrev m : Memory
  m = memory z s.words

  -- no two headers have one block
  pub two_headers : (c b h k : ℕ) → has_block m.headers c b h ≡ 1 → has_block m.headers c b k ≡ 1 → h < z.headers → k < z.headers → h ≡ k
  two_headers c b h k has also lh lk = dite (ℕ_discrete h k) (λ e. e)
      (λ ne. let t = below_two (has_block m.headers c b) z.headers h k lh lk ne in let o = r.blocks.owned c b in let l = bit_at-lt (m.arena.bits c (b / 64)) (b % 64) in absurd (omega arith))

  module _ (seat : ℕ) (v : PassState) (here : get_elem? s.states seat ≡ some v) where
    -- a block that the pass holds is no header's
    pub unowned_held : (c b h : ℕ) → 0 < holds c b v.blocks → has_block m.headers c b h ≡ 1 → h < z.headers → ⊥
    unowned_held c b h held has lt = let none = (held_once z m.arena (all_others z m (map rooms_held s.states)) (map blocks_of s.states) seat v.blocks (at_map blocks_of s.states seat v here) r.blocks c b held).3 in
        let counts = owner_counts z m.headers h c b lt in omega arith

    -- a header that it has locked is one of the table's, and has the block that is recorded
    pub state_locked : (h : ℕ) (c : Class) (b : ℕ) → LocksBlock h c b v.headers → state_of (m.headers.pin h) ≡ LOCKED
    state_locked h c b l = held_is m.headers (content m.arena.bytes) IsPlace (known (map knowledge_of s.states)) (map headers_held s.states) r.headers seat v.headers h LOCKED (at_map headers_held s.states seat v here) (omega arith) (omega arith) l.locked

    pub place_locked : (h : ℕ) (c : Class) (b : ℕ) → LocksBlock h c b v.headers → m.headers.place h ≡ place_held h v.headers.held
    place_locked h c b l = place_is m.headers h v.headers.held (parts_of m v.blocks v.headers (r.kept.true_to seat (kept_of v) (at_map kept_of s.states seat v here))).headers (holds_some h LOCKED v.headers l.locked)

    pub inside_locked : (h : ℕ) (c : Class) (b : ℕ) → LocksBlock h c b v.headers → h < z.headers
    inside_locked h c b l = live_inside z s.words h (let e = locked_stocked (state_of (m.headers.pin h)) (state_locked h c b l) in omega arith)

    pub has_locked : (h : ℕ) (c : Class) (b : ℕ) → LocksBlock h c b v.headers → has_block m.headers (class_number c) b h ≡ 1
    has_locked h c b l = let e = locked_stocked (state_of (m.headers.pin h)) (state_locked h c b l) in
        (λ i. e i * names_block (class_number c) b (place_locked h c b l i)) ∙ (λ i. 1 * names_named (class_number c) b (place_held h v.headers.held) l.class l.block i)
