-- After a header is locked, and after a step on one that is locked or buried, blocks have one owner each, and the numbers kept for words stand.
use Rattle.std.proofs.Common.{◌≡◌, ℕ, ◌+◌, ◌-◌, ◌%◌, ◌^◌, ◌<◌, ◌==◌, ◌⊎◌, cond, true, List, ◌∷◌, map, sym, ap, ◌∙◌, subst, arith, inl, inr}
use prog.Atomic.{either}
use mathlib.Core.Option.{some}
use lib.ListN.{get_elem?}
use Rattle.pin_word.specs.PinWord.{generation_of, state_of, STATE}
use Rattle.oak_model.specs.Limits.{Sizes}
use Rattle.oak_model.specs.Counts.{one_at, total}
use Rattle.oak_model.proofs.Lists.{at_map}
use Rattle.oak_model.proofs.Counting.{one_at-same, one_at-other}
use Rattle.arena_core.specs.Blocks.{HoldsBlock}
use Rattle.arena_core.specs.Place.{IsPlace, class_in, block_in, content}
use Rattle.arena_core.proofs.ArenaSteps.{held_once}
use Rattle.arena_core.proofs.HeldLists.{here}
use Rattle.header_core.specs.declared.states.TheConstants.{FREE, LIVE, LOCKED, DEAD, RETIRED, LAST_GENERATION}
use Rattle.header_core.specs.declared.holds.HeaderHolds.{HeaderHolds}
use Rattle.header_core.specs.Headers.{at_pin, at_place}
use Rattle.header_core.specs.HeaderHolds.{in_state, place_held, generation_held, without_header}
use Rattle.header_core.specs.HeaderRule.{stocked}
use Rattle.header_core.specs.HeaderStep.{locked_at, changed_at, buried_at, renewal}
use Rattle.header_core.proofs.HeldHeaders.{rows_split}
use Rattle.header_core.proofs.HeaderFacts.{known_unheld, generation_is, holds_some}
use Rattle.header_core.proofs.StockedStates.{stocked_high}
use Rattle.pin_word.proofs.Laws.{generation_small}
use Rattle.pin_word.proofs.StepLaws.{state_set, state_up, state_down}
use Rattle.header_core.proofs.PinWordChanges.{IsRenewed, renewed}
use Rattle.oak_core.specs.declared.states.PassState.{PassState}
use Rattle.oak_core.specs.Memory.{Memory, memory}
use Rattle.oak_core.specs.Known.{knows_life}
use Rattle.oak_core.specs.EntryOwners.{all_others}
use Rattle.oak_core.specs.PassState.{blocks_of, headers_held, rooms_held, knowledge_of}
use Rattle.oak_core.specs.Rule.{Rule}
use Rattle.oak_core.specs.Step.{MayChange, same_block, block_back, block_exchanged}
use Rattle.oak_core.specs.TableState.{TableState}
use Rattle.oak_core.proofs.owners.BlocksWithHeaders.{change_owned}
use Rattle.oak_core.proofs.held.HeaderStanding.{knows, stand, at_headers, place_of, small_pin}
use Rattle.oak_core.proofs.owners.KeptInHeaders.{without_kept}
use Rattle.oak_core.proofs.owners.KeptUnderLocks.{lock_kept, bury_kept}
use Rattle.oak_core.proofs.owners.KeptFields.{change_kept}
use Rattle.oak_core.proofs.known.KnownLaws.{known_some}
use Rattle.oak_core.proofs.owners.OwnerLaws.{place_below}
use Rattle.oak_core.proofs.owners.OwnedAndKept.{OwnedAndKept, entries, at_blocks, quiet_pin, few, takes, gives_back, state_is, with_block}

-- a header that is free or retired has no block
unstocked_end : (s : ℕ) → (s ≡ RETIRED) ⊎ (s ≡ FREE) → stocked s ≡ 0
unfolding one_at
unstocked_end s (inl e) = ap stocked e
unstocked_end s (inr e) = ap stocked e

pub renewed_end : (w x : ℕ) → IsRenewed w x → stocked (state_of x) ≡ 0
renewed_end w x (_, _, inl t) = unstocked_end (state_of x) (inl t.1)
renewed_end w x (_, _, inr t) = unstocked_end (state_of x) (inr t.1)

module _ (z : Sizes) (s : TableState) (seat : ℕ) (v : PassState) (r : Rule z s) (here_is : get_elem? s.states seat ≡ some v) where
  abbrev m : Memory
  m = memory z s.words

  abbrev hs : List HeaderHolds
  hs = map headers_held s.states

  -- a header is locked
  pub locks : (h old : ℕ) → state_of old ≡ LIVE → 0 < knows_life h (generation_of old) v.knowledge
      → OwnedAndKept z s seat v r here_is (at_pin h) (either (m.headers.pin h == old) (old + STATE) (m.headers.pin h)) v.blocks (record v.headers { held = cond (m.headers.pin h == old) (locked_at m.headers (content m.arena.bytes) h ∷ v.headers.held) v.headers.held })
  locks h old live some_of = takes z s seat v r here_is h old (locked_at m.headers (content m.arena.bytes) h) (λ hit. let up = state_set old (omega arith) in let was : state_of (m.headers.pin h) ≡ LIVE = ap state_of hit ∙ live in
      let stock = stocked_high (state_of (m.headers.pin h)) (omega arith) (omega arith) in let k = known_some h (generation_of old) (map knowledge_of s.states) seat v.knowledge (at_map knowledge_of s.states seat v here_is) some_of in (
        stocked_high (state_of (old + STATE)) (let u = up.1 in omega arith) (let u = up.1 in omega arith) ∙ sym stock,
        lock_kept z s seat v r here_is h (old + STATE) stock (known_unheld m.headers (content m.arena.bytes) IsPlace (knows s) hs (stand z s seat v r here_is) h (generation_of old) (omega arith) (ap generation_of hit) was),
      ))

  -- a buried one is taken back

  pub renews : (h x : ℕ) → 0 < in_state h DEAD v.headers → x ≡ renewal (generation_held h v.headers.held) → IsRenewed (m.headers.pin h) ((m.headers.pin h + x) % 2 ^ 64)
  renews h x own is = let n : ℕ = m.headers.pin h in let was = state_is z s seat v r here_is h DEAD (omega arith) (omega arith) own in let small = small_pin z s seat v r here_is h in
      let same : x ≡ renewal (generation_of n) = is ∙ ap renewal (sym (generation_is m.headers (content m.arena.bytes) IsPlace (knows s) hs (stand z s seat v r here_is) seat v.headers h (at_headers z s seat v r here_is) (holds_some h DEAD v.headers own))) in
      let last = (stand z s seat v r here_is).retired h in let o = one_at-other (state_of n) RETIRED (λ e. omega arith) in let off : ¬ (generation_of n ≡ LAST_GENERATION) = λ e. let q = one_at-same (generation_of n) LAST_GENERATION e in omega arith in
      let bound = generation_small n small in subst (λ (i : ℕ). IsRenewed n ((n + i) % 2 ^ 64)) (sym same) (renewed n was (omega arith) small)

  pub takes_back : (h x : ℕ) → h < z.headers → 0 < in_state h DEAD v.headers → x ≡ renewal (generation_held h v.headers.held)
      → OwnedAndKept z s seat v r here_is (at_pin h) ((m.headers.pin h + x) % 2 ^ 64) (block_back m.arena.bytes (m.headers.place h) v.blocks) (record v.headers { held = without_header h v.headers.held })
  takes_back h x inside own is = let n : ℕ = m.headers.pin h in let was = state_is z s seat v r here_is h DEAD (omega arith) (omega arith) own in
      gives_back z s seat v r here_is h ((n + x) % 2 ^ 64) inside (with_block z s seat v r here_is h (omega arith)) (stocked_high (state_of n) (omega arith) (omega arith)) (renewed_end n ((n + x) % 2 ^ 64) (renews h x own is))

  -- a locked one is unlocked, or buried

  pub unlocks : (h : ℕ) → 0 < in_state h LOCKED v.headers → OwnedAndKept z s seat v r here_is (at_pin h) ((m.headers.pin h + (2 ^ 64 - STATE)) % 2 ^ 64) v.blocks (record v.headers { held = without_header h v.headers.held })
  unlocks h own = let was = state_is z s seat v r here_is h LOCKED (omega arith) (omega arith) own in let down = state_down (m.headers.pin h) (omega arith) (small_pin z s seat v r here_is h) in let y : ℕ = (m.headers.pin h + (2 ^ 64 - STATE)) % 2 ^ 64 in
      quiet_pin z s seat v r here_is h y (record v.headers { held = without_header h v.headers.held }) (stocked_high (state_of y) (let d = down.1 in omega arith) (let d = down.1 in omega arith) ∙ sym (stocked_high (state_of (m.headers.pin h)) (omega arith) (omega arith))) (without_kept z s seat v r here_is h y (few z s seat v r here_is h))

  pub buries : (h : ℕ) → 0 < in_state h LOCKED v.headers → OwnedAndKept z s seat v r here_is (at_pin h) ((m.headers.pin h + STATE) % 2 ^ 64) v.blocks (record v.headers { held = buried_at h v.headers.held })
  buries h own = let was = state_is z s seat v r here_is h LOCKED (omega arith) (omega arith) own in let up = state_up (m.headers.pin h) (omega arith) (small_pin z s seat v r here_is h) in let y : ℕ = (m.headers.pin h + STATE) % 2 ^ 64 in
      quiet_pin z s seat v r here_is h y (record v.headers { held = buried_at h v.headers.held }) (stocked_high (state_of y) (let u = up.1 in omega arith) (let u = up.1 in omega arith) ∙ sym (stocked_high (state_of (m.headers.pin h)) (omega arith) (omega arith)))
      (bury_kept z s seat v r here_is h y (let b = with_block z s seat v r here_is h (omega arith) in let f = few z s seat v r here_is h in let p = rows_split h v.headers.held in omega arith))

  -- the place word of a locked header changes
  pub changes : (h x : ℕ) → h < z.headers → 0 < in_state h LOCKED v.headers → MayChange z h x v → OwnedAndKept z s seat v r here_is (at_place h) x (block_exchanged m.arena.bytes (m.headers.place h) x v.blocks) (record v.headers { held = changed_at h x (content m.arena.bytes x) v.headers.held })
  changes h x inside own may = let was = state_is z s seat v r here_is h LOCKED (omega arith) (omega arith) own in let stock = stocked_high (state_of (m.headers.pin h)) (omega arith) (omega arith) in let w : ℕ = m.headers.place h in
      let either_block = exchangeable may.block in record {
        owned = change_owned z m.headers m.arena.bits (entries z s seat v r here_is) (map blocks_of s.states) seat h x v.blocks (at_blocks z s seat v r here_is) inside r.blocks (place_below w ((stand z s seat v r here_is).placed h (omega arith))) stock (place_below x may.place) m.arena.bytes either_block;
        kept = change_kept z s seat v r here_is h x (few z s seat v r here_is h) (with_block z s seat v r here_is h (omega arith)) (place_below x may.place) either_block;
      }
    where
      exchangeable : (same_block x (place_held h v.headers.held) ≡ true) ⊎ HoldsBlock z (class_in x) (block_in x) v.blocks → (same_block x (m.headers.place h) ≡ true) ⊎ (total (here (class_in x) (block_in x)) v.blocks.held ≡ 1)
      exchangeable (inl same) = inl (ap (same_block x) (place_of z s seat v r here_is h (holds_some h LOCKED v.headers own)) ∙ same)
      exchangeable (inr held) = inr (held_once z m.arena (all_others z m (map rooms_held s.states)) (map blocks_of s.states) seat v.blocks (at_blocks z s seat v r here_is) r.blocks (class_in x) (block_in x) held.held).2
