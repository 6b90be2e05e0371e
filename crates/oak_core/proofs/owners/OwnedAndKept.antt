-- After a step on a word of a header blocks have one owner each, and the numbers kept for words stand.
use Rattle.std.proofs.Common.{◌≡◌, ℕ, ◌+◌, ◌-◌, ◌*◌, ◌%◌, ◌^◌, ◌<◌, ◌≤◌, ◌==◌, cond, List, ◌∷◌, map, set, sym, refl, ap, ◌∙◌, subst, arith}
use prog.Atomic.{either}
use mathlib.Core.Option.{some}
use lib.ListN.{get_elem?}
use Rattle.pin_word.specs.PinWord.{state_of, STATE}
use Rattle.oak_model.specs.Limits.{Sizes}
use Rattle.oak_model.proofs.Lists.{at_map}
use Rattle.oak_model.proofs.Counting.{total_at, decided}
use Rattle.arena_core.specs.declared.blocks.HeldBlocks.{HeldBlocks}
use Rattle.arena_core.specs.Blocks.{BlocksAreOwned, HoldsBlock}
use Rattle.arena_core.specs.Place.{IsPlace, class_in, block_in, content}
use Rattle.arena_core.proofs.ArenaSteps.{held_once}
use Rattle.header_core.specs.declared.states.TheConstants.{FREE, OWNED, LIVE, LOCKED, DEAD, RETIRED}
use Rattle.header_core.specs.declared.holds.HeldAs.{HeldAs}
use Rattle.header_core.specs.declared.holds.HeldAs.TheVariants.{Owned, Fresh, Locked, Buried}
use Rattle.header_core.specs.declared.holds.HeldHeader.{HeldHeader}
use Rattle.header_core.specs.declared.holds.HeaderHolds.{HeaderHolds}
use Rattle.header_core.specs.Headers.{HeaderSpot, at_pin}
use Rattle.header_core.specs.HeaderHolds.{held_state, in_state, without_header}
use Rattle.header_core.specs.HeaderRule.{stocked}
use Rattle.header_core.specs.HeaderStep.{MayRelease, open_header, release_header, header_effect, headers_after, owned_at, put_header}
use Rattle.header_core.proofs.HeldHeaders.{held_in, stocked_in, rows_split, stocked_split}
use Rattle.header_core.proofs.HeaderFacts.{headers_once, free_unheld, held_is, holds_some}
use Rattle.header_core.proofs.StockedStates.{stocked_high}
use Rattle.header_core.proofs.HeaderFacts as fact
use Rattle.header_core.proofs.HeaderLaws.{unstocked}
use Rattle.pin_word.proofs.StepLaws.{state_set, state_up}
use Rattle.header_core.proofs.PinWordChanges.{state_off}
use Rattle.oak_core.specs.declared.states.PassState.{PassState}
use Rattle.oak_core.specs.Memory.{Memory, in_headers, memory}
use Rattle.oak_core.specs.EntryOwners.{entry_owners}
use Rattle.oak_core.specs.Owners.{other_owners}
use Rattle.oak_core.specs.PassState.{blocks_of, headers_held, rooms_held}
use Rattle.oak_core.specs.Rule.{Rule}
use Rattle.oak_core.specs.Step.{MayOpen, block_back, blocks_with}
use Rattle.oak_core.specs.TableState.{TableState}
use Rattle.oak_core.proofs.owners.BlocksWithHeaders.{with_others, owned_alike, open_owned, block_back-owned}
use Rattle.oak_core.proofs.owners.HeaderOwners.{pin_owners-same}
use Rattle.oak_core.proofs.held.HeaderStanding.{knows, stand, at_headers, place_of, small_pin}
use Rattle.oak_core.proofs.owners.KeptInHeaders.{Stand, same_kept, claim_kept, open_kept, without_kept, back_kept}
use Rattle.oak_core.proofs.owners.OwnerLaws.{place_below}

module _ (z : Sizes) (s : TableState) (seat : ℕ) (v : PassState) (r : Rule z s) (here_is : get_elem? s.states seat ≡ some v) where
  abbrev m : Memory
  m = memory z s.words

  abbrev hs : List HeaderHolds
  hs = map headers_held s.states

  abbrev pub entries : ℕ → ℕ → ℕ
  entries = entry_owners z m.rooms (content m.arena.bytes) (map rooms_held s.states)

  pub at_blocks : get_elem? (map blocks_of s.states) seat ≡ some v.blocks
  at_blocks = at_map blocks_of s.states seat v here_is

  -- the word p becomes y, and the pass holds these blocks and headers
  pub record OwnedAndKept (p : HeaderSpot) (y : ℕ) (a : HeldBlocks) (b : HeaderHolds) : Type 0 where
    pub owned : BlocksAreOwned z m.arena.bits (with_others entries z (put_header m.headers p y)) (set (map blocks_of s.states) seat a)
    pub kept : Stand z s seat v r here_is (in_headers p) y a b

  -- no block changes its owner
  pub quiet : (p : HeaderSpot) (y : ℕ) (b : HeaderHolds) → ((c n : ℕ) → other_owners z (put_header m.headers p y) c n ≡ other_owners z m.headers c n) → Stand z s seat v r here_is (in_headers p) y v.blocks b → OwnedAndKept p y v.blocks b
  quiet p y b owners kept = record { owned = owned_alike z m.arena.bits (with_others entries z m.headers) (with_others entries z (put_header m.headers p y)) (map blocks_of s.states) seat v.blocks at_blocks (λ c n. let e = owners c n in omega arith) r.blocks; kept = kept }

  pub quiet_pin : (h y : ℕ) (b : HeaderHolds) → stocked (state_of y) ≡ stocked (state_of (m.headers.pin h)) → Stand z s seat v r here_is (in_headers (at_pin h)) y v.blocks b → OwnedAndKept (at_pin h) y v.blocks b
  quiet_pin h y b same kept = quiet (at_pin h) y b (λ c n. pin_owners-same z m.headers h y c n same) kept

  pub state_is : (h t : ℕ) → 0 < t → t < RETIRED → 0 < in_state h t v.headers → state_of (m.headers.pin h) ≡ t
  state_is h t pos low own = held_is m.headers (content m.arena.bytes) IsPlace (knows s) hs (stand z s seat v r here_is) seat v.headers h t (at_headers z s seat v r here_is) pos low own

  -- a header is held once at most, and with a block where it is not owned

  pub few : (h : ℕ) → held_in h v.headers.held ≤ 1
  few h = let o = headers_once m.headers (content m.arena.bytes) IsPlace (knows s) hs (stand z s seat v r here_is) h in let t = total_at (λ (a : HeaderHolds). held_in h a.held) hs seat v.headers (at_headers z s seat v r here_is) in omega arith

  pub without_block : (h : ℕ) → 0 < in_state h OWNED v.headers → stocked_in h v.headers.held ≡ 0
  without_block h own = let f = few h in let p = rows_split h v.headers.held in omega arith

  pub with_block : (h : ℕ) → 0 < in_state h LIVE v.headers + (in_state h LOCKED v.headers + in_state h DEAD v.headers) → stocked_in h v.headers.held ≡ 1
  with_block h some_of = let f = few h in let p = rows_split h v.headers.held in let q = stocked_split h v.headers.held in omega arith

  -- the pin word, where it was `old`, comes to the next state, and the pass holds the header
  pub takes : (h old : ℕ) (q : HeldHeader) → (m.headers.pin h ≡ old → (stocked (state_of (old + STATE)) ≡ stocked (state_of (m.headers.pin h))) × Stand z s seat v r here_is (in_headers (at_pin h)) (old + STATE) v.blocks (record v.headers { held = q ∷ v.headers.held }))
      → OwnedAndKept (at_pin h) (either (m.headers.pin h == old) (old + STATE) (m.headers.pin h)) v.blocks (record v.headers { held = cond (m.headers.pin h == old) (q ∷ v.headers.held) v.headers.held })
  takes h old q hits = decided (m.headers.pin h) old (λ t. OwnedAndKept (at_pin h) (either t (old + STATE) (m.headers.pin h)) v.blocks (record v.headers { held = cond t (q ∷ v.headers.held) v.headers.held }))
      (λ hit. let e = hits hit in quiet_pin h (old + STATE) (record v.headers { held = q ∷ v.headers.held }) e.0 e.1)
      (λ miss. quiet_pin h (m.headers.pin h) v.headers refl (same_kept z s seat v r here_is h (m.headers.pin h) v.headers refl))

  pub claims : (h old : ℕ) → state_of old ≡ FREE → OwnedAndKept (at_pin h) (either (m.headers.pin h == old) (old + STATE) (m.headers.pin h)) v.blocks (record v.headers { held = cond (m.headers.pin h == old) (owned_at m.headers h ∷ v.headers.held) v.headers.held })
  claims h old free = takes h old (owned_at m.headers h) (λ hit. let up = state_set old (omega arith) in let was : state_of (m.headers.pin h) ≡ FREE = ap state_of hit ∙ free in (
    unstocked (state_of (old + STATE)) (let u = up.1 in omega arith) ∙ sym (unstocked (state_of (m.headers.pin h)) (omega arith)),
    claim_kept z s seat v r here_is h (old + STATE) (free_unheld m.headers (content m.arena.bytes) IsPlace (knows s) hs (stand z s seat v r here_is) h was),
  ))

  -- the count alone changes, and the pass's pin
  pub counts : (h y : ℕ) (b : HeaderHolds) → state_of y ≡ state_of (m.headers.pin h) → b.held ≡ v.headers.held → OwnedAndKept (at_pin h) y v.blocks b
  counts h y b same held = quiet_pin h y b (ap stocked same) (same_kept z s seat v r here_is h y b held)

  -- an owned header is opened
  pub opens : (h : ℕ) → h < z.headers → 0 < in_state h OWNED v.headers → MayOpen z h v → let x = open_header h in OwnedAndKept (at_pin h) (header_effect x (m.headers.pin h)) (blocks_with x m v.blocks) (headers_after m.headers (content m.arena.bytes) x v.headers)
  opens h inside own may = let w : ℕ = m.headers.place h in let is = place_of z s seat v r here_is h (holds_some h OWNED v.headers own) in let place : IsPlace w = subst IsPlace (sym is) may.place in
      let held : HoldsBlock z (class_in w) (block_in w) v.blocks = subst (λ (i : ℕ). HoldsBlock z (class_in i) (block_in i) v.blocks) (sym is) may.block in
      let one_block = (held_once z m.arena (with_others entries z m.headers) (map blocks_of s.states) seat v.blocks at_blocks r.blocks (class_in w) (block_in w) held.held).2 in
      let was = state_is h OWNED (omega arith) (omega arith) own in let up = state_up (m.headers.pin h) (omega arith) (small_pin z s seat v r here_is h) in let y : ℕ = (m.headers.pin h + STATE) % 2 ^ 64 in
      let one = fact.held_once m.headers (content m.arena.bytes) IsPlace (knows s) hs (stand z s seat v r here_is) seat v.headers h OWNED (at_headers z s seat v r here_is) (omega arith) (omega arith) own in record {
        owned = open_owned z m.headers m.arena.bits entries (map blocks_of s.states) seat h y v.blocks at_blocks inside r.blocks (place_below w place) (stocked_high (state_of y) (let u = up.1 in omega arith) (let u = up.1 in omega arith)) (unstocked (state_of (m.headers.pin h)) (omega arith)) one_block;
        kept = open_kept z s seat v r here_is h y one.0 (few h) place one_block;
      }

  -- a header gives its block back
  pub gives_back : (h y : ℕ) → h < z.headers → stocked_in h v.headers.held ≡ 1 → stocked (state_of (m.headers.pin h)) ≡ 1 → stocked (state_of y) ≡ 0 → OwnedAndKept (at_pin h) y (block_back m.arena.bytes (m.headers.place h) v.blocks) (record v.headers { held = without_header h v.headers.held })
  gives_back h y inside one before now = record {
    owned = block_back-owned z m.headers m.arena.bits entries (map blocks_of s.states) seat h y v.blocks at_blocks inside r.blocks (place_below (m.headers.place h) ((stand z s seat v r here_is).placed h (omega arith))) now before m.arena.bytes;
    kept = back_kept z s seat v r here_is h y (few h) one (place_of z s seat v r here_is h (let p = rows_split h v.headers.held in omega arith));
  }

  pub releases : (h : ℕ) (t : HeldAs) → h < z.headers → 0 < in_state h (held_state t) v.headers → MayRelease t v.headers → let x = release_header h t in OwnedAndKept (at_pin h) (header_effect x (m.headers.pin h)) (blocks_with x m v.blocks) (headers_after m.headers (content m.arena.bytes) x v.headers)
  releases h Owned inside own may = let was = state_is h OWNED (omega arith) (omega arith) own in let down = state_off Owned (m.headers.pin h) was (small_pin z s seat v r here_is h) in let y : ℕ = (m.headers.pin h + (2 ^ 64 - OWNED * STATE)) % 2 ^ 64 in
      quiet_pin h y (record v.headers { held = without_header h v.headers.held }) (unstocked (state_of y) (let d = down.1 in omega arith) ∙ sym (unstocked (state_of (m.headers.pin h)) (omega arith))) (without_kept z s seat v r here_is h y (few h))
  releases h Fresh inside own may = let was = state_is h LIVE (omega arith) (omega arith) own in let down = state_off Fresh (m.headers.pin h) was (small_pin z s seat v r here_is h) in let y : ℕ = (m.headers.pin h + (2 ^ 64 - LIVE * STATE)) % 2 ^ 64 in
      gives_back h y inside (with_block h (omega arith)) (stocked_high (state_of (m.headers.pin h)) (omega arith) (omega arith)) (unstocked (state_of y) (let d = down.1 in omega arith))
  releases h (Locked at) inside own may = absurd may
  releases h Buried inside own may = absurd may
