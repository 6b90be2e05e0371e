-- A step on a word of a header keeps the rule.
use Rattle.std.proofs.Common.{◌≡◌, ℕ, ◌+◌, ◌<◌, false, List, map, set, get_or, sym, refl, subst, arith}
use mathlib.Core.Option.{some}
use lib.ListN.{get_elem?}
use Rattle.pin_word.specs.PinWord.{generation_of}
use Rattle.oak_model.specs.Limits.{Sizes}
use Rattle.oak_model.specs.Kept.{KeptNumbersStand}
use Rattle.oak_model.proofs.Lists.{at_map, begins_self, map_set}
use Rattle.oak_model.proofs.Counting.{total_at}
use Rattle.arena_core.specs.Blocks.{BlocksAreOwned}
use Rattle.arena_core.specs.Place.{IsPlace, content}
use Rattle.header_core.specs.declared.states.TheConstants.{OWNED, LOCKED}
use Rattle.header_core.specs.declared.holds.HeaderHolds.{HeaderHolds}
use Rattle.header_core.specs.declared.holds.PinnedHeader.{PinnedHeader}
use Rattle.header_core.specs.Headers.{at_place, at_stamp, read_header}
use Rattle.header_core.specs.HeaderHolds.{pins_on, in_state, fresh_at}
use Rattle.header_core.specs.HeaderRule.{PinsWhatItKnows, HeadersStand}
use Rattle.header_core.specs.HeaderStep.{HeaderStep, claim_header, store_place, store_stamp, change_place, open_header, pin_header, unpin_header, release_header, lock_header, unlock_header, mark_dead, take_back, header_spot, header_effect, header_found, headers_after, put_header}
use Rattle.header_core.proofs.HeldHeaders.{held_in, rows_split, stocked_split}
use Rattle.header_core.proofs.HeaderFacts.{holds_some}
use Rattle.header_core.proofs.HeaderLaws.{unstocked, on_pin}
use Rattle.header_core.proofs.HeaderSteps.{Needs, headers_keep, MayKnow, pins_kept, header_fits}
use Rattle.pin_word.proofs.StepLaws.{pin_up, pin_down}
use Rattle.chunk_core.specs.declared.holds.RoomHolds.{RoomHolds}
use Rattle.oak_core.specs.declared.states.PassState.{PassState}
use Rattle.oak_core.specs.Memory.{Memory, in_headers, same_spot, read, write, memory, index}
use Rattle.oak_core.specs.Finding.{finding}
use Rattle.oak_core.specs.Known.{knows_life}
use Rattle.oak_core.specs.MayWrite.{MayEnd}
use Rattle.oak_core.specs.EntryOwners.{all_others}
use Rattle.oak_core.specs.Owners.{HeadersAreHeld}
use Rattle.oak_core.specs.PassState.{blocks_of, headers_held, rooms_held, knowledge_of, kept_of}
use Rattle.oak_core.specs.TableState.{TableState}
use Rattle.oak_core.specs.Rule.{Rule}
use Rattle.oak_core.specs.Step.{on_headers, MayOnHeaders, blocks_with, state_after, table_after}
use Rattle.oak_core.proofs.memory.Words.{memory_read}
use Rattle.oak_core.proofs.kinds.Keeps.{of_rooms, rooms_stay, learning_rule}
use Rattle.oak_core.proofs.kinds.KeepsFields.{field_after}
use Rattle.oak_core.proofs.kinds.KeepsHeaderPins.{pin_after}
use Rattle.oak_core.proofs.kinds.KeepsLocks.{lock_after}
use Rattle.oak_core.proofs.kinds.KeepsLockWrites.{unlock_after, bury_after}
use Rattle.oak_core.proofs.kinds.KeepsReturns.{back_after}
use Rattle.oak_core.proofs.held.KeyedHolds.{keyed_kept, keyed_pins, keyed_stand, keyed_whole}
use Rattle.oak_core.proofs.keyed.KeysAfter.{KeysAfter}
use Rattle.oak_core.proofs.owners.WholeHeaders.{headers_whole}
use Rattle.oak_core.proofs.held.FewPins.{few_pins}
use Rattle.oak_core.proofs.owners.HeaderOwners.{place_owners-same}
use Rattle.oak_core.proofs.held.HeaderStanding.{knows, stand, pins, at_headers, place_of, small_pin}
use Rattle.oak_core.proofs.owners.KeptFields.{place_kept, stamp_kept}
use Rattle.oak_core.proofs.known.KnownLaws.{known_some}
use Rattle.oak_core.proofs.owners.OwnedAndKept.{OwnedAndKept, quiet, state_is, without_block, claims, counts, opens, releases}
use Rattle.oak_core.proofs.owners.OwnedUnderLocks.{locks, takes_back, unlocks, buries, changes}

module _ (z : Sizes) (s : TableState) (seat : ℕ) (v : PassState) (r : Rule z s) (here : get_elem? s.states seat ≡ some v) where
  abbrev m : Memory
  m = memory z s.words

  abbrev hs : List HeaderHolds
  hs = map headers_held s.states

  -- a stamp is that of an owned header, or of a locked one
  stamps : (h : ℕ) → 0 < in_state h OWNED v.headers + in_state h LOCKED v.headers → 0 < held_in h v.headers.held
  stamps h own = let p = rows_split h v.headers.held in let q = stocked_split h v.headers.held in omega arith

  -- blocks have one owner and the numbers kept are true: one clause for each kind
  own_and_keep : (x : HeaderStep) → MayOnHeaders z x v → OwnedAndKept z s seat v r here (header_spot x) (header_effect x (read_header m.headers (header_spot x))) (blocks_with x m v.blocks) (headers_after m.headers (content m.arena.bytes) x v.headers)
  own_and_keep (claim_header h old) may = claims z s seat v r here h old may.headers.state
  own_and_keep (store_place h x) may = let was = state_is z s seat v r here h OWNED (omega arith) (omega arith) may.headers.0 in
      quiet z s seat v r here (at_place h) x _ (λ c n. place_owners-same z m.headers h x c n (unstocked _ (omega arith))) (place_kept z s seat v r here h x (holds_some h OWNED v.headers may.headers.0) (without_block z s seat v r here h may.headers.0))
  own_and_keep (store_stamp h x) may = quiet z s seat v r here (at_stamp h) x _ (λ c n. refl) (stamp_kept z s seat v r here h x (stamps h may.headers.0))
  own_and_keep (change_place h x) may = changes z s seat v r here h x may.inside may.headers.0 may.block
  own_and_keep (open_header h) may = opens z s seat v r here h may.inside may.headers may.block
  own_and_keep (pin_header h g) may = counts z s seat v r here h _ _ (let f = few_pins z s r h in let c = (stand z s seat v r here).counted h in (pin_up (m.headers.pin h) (omega arith) (small_pin z s seat v r here h)).1) refl
  own_and_keep (unpin_header h) may = counts z s seat v r here h _ _
      (let t = total_at (pins_on h) hs seat v.headers (at_headers z s seat v r here) in let c = (stand z s seat v r here).counted h in let one = may.headers in (pin_down (m.headers.pin h) (omega arith) (small_pin z s seat v r here h)).1) refl
  own_and_keep (release_header h t) may = releases z s seat v r here h t may.inside may.headers.0 may.headers.1
  own_and_keep (lock_header h old) may = locks z s seat v r here h old may.headers.state may.known
  own_and_keep (unlock_header h kind) may = unlocks z s seat v r here h may.headers
  own_and_keep (mark_dead h) may = buries z s seat v r here h may.headers
  own_and_keep (take_back h x) may = takes_back z s seat v r here h x may.inside may.headers.0 may.headers.1

  -- what the points on headers need of the table, and of what the pass knows

  needs : (x : HeaderStep) → MayOnHeaders z x v → Needs m.headers IsPlace (knows s) hs x
  needs (claim_header h old) may = tt
  needs (store_place h x) may = tt
  needs (store_stamp h x) may = tt
  needs (change_place h x) may = may.block.place
  needs (open_header h) may = subst IsPlace (sym (place_of z s seat v r here h (holds_some h OWNED v.headers may.headers))) may.block.place
  needs (pin_header h g) may = few_pins z s r h
  needs (unpin_header h) may = tt
  needs (release_header h t) may = tt
  needs (lock_header h old) may = let k = known_some h (generation_of old) (map knowledge_of s.states) seat v.knowledge (at_map knowledge_of s.states seat v here) may.known in omega arith
  needs (unlock_header h kind) may = tt
  needs (mark_dead h) may = tt
  needs (take_back h x) may = tt

  may_know : (x : HeaderStep) → MayOnHeaders z x v → MayKnow (λ h g. knows_life h g v.knowledge) x v.headers
  may_know (claim_header h old) may = tt
  may_know (store_place h x) may = tt
  may_know (store_stamp h x) may = tt
  may_know (change_place h x) may = tt
  may_know (open_header h) may = tt
  may_know (pin_header h g) may = may.known
  may_know (unpin_header h) may = tt
  may_know (release_header h t) may = tt
  may_know (lock_header h old) may = tt
  may_know (unlock_header h kind) may = tt
  may_know (mark_dead h) may = tt
  may_know (take_back h x) may = tt

  module _ (call : ℕ) (going : v.numbers.spent ≡ false) where
    -- the number found, the word behind the step, and the state of the pass

    abbrev n : HeaderStep → ℕ
    n x = get_or s.words (index z (in_headers (header_spot x))) 0

    abbrev y : HeaderStep → ℕ
    y x = header_effect x (n x)

    abbrev w : HeaderStep → PassState
    w x = state_after z call (on_headers x) s v

    read_is : (x : HeaderStep) → MayOnHeaders z x v → read_header m.headers (header_spot x) ≡ n x
    read_is x may = memory_read z s.words (in_headers (header_spot x)) may.inside

    -- what stands of keys, of histories and of what the pass knows
    abbrev After : HeaderStep → Type 0
    After x = KeysAfter z s seat v r here (write m (in_headers (header_spot x)) (y x)) (w x)

    found : (x : HeaderStep) → MayOnHeaders z x v → KeysAfter z s seat v r here (write m (in_headers (header_spot x)) (header_effect x (read_header m.headers (header_spot x)))) (w x) → After x
    found x may = subst (λ (i : ℕ). KeysAfter z s seat v r here (write m (in_headers (header_spot x)) (header_effect x i)) (w x)) (read_is x may)

    keys_after : (x : HeaderStep) → MayOnHeaders z x v → MayEnd call x v → After x
    keys_after (claim_header h old) may ends = field_after z s seat v r here call (claim_header h old) tt may
    keys_after (store_place h x) may ends = field_after z s seat v r here call (store_place h x) tt may
    keys_after (store_stamp h x) may ends = field_after z s seat v r here call (store_stamp h x) tt may
    keys_after (change_place h x) may ends = field_after z s seat v r here call (change_place h x) tt may
    keys_after (open_header h) may ends = field_after z s seat v r here call (open_header h) tt may
    keys_after (pin_header h g) may ends = found (pin_header h g) may (pin_after z s seat v r here call (w (pin_header h g)).findings h g may)
    keys_after (unpin_header h) may ends = field_after z s seat v r here call (unpin_header h) tt may
    keys_after (release_header h t) may ends = field_after z s seat v r here call (release_header h t) tt may
    keys_after (lock_header h old) may ends = found (lock_header h old) may (lock_after z s seat v r here call (w (lock_header h old)).findings h old may)
    keys_after (unlock_header h kind) may ends = found (unlock_header h kind) may (unlock_after z s seat v r here going call (w (unlock_header h kind)).findings h kind may ends)
    keys_after (mark_dead h) may ends = found (mark_dead h) may (bury_after z s seat v r here going call (w (mark_dead h)).findings h may ends)
    keys_after (take_back h x) may ends = found (take_back h x) may (back_after z s seat v r here (w (take_back h x)).findings (w (take_back h x)).blocks x h may ends)

    module _ (x : HeaderStep) (may : MayOnHeaders z x v × MayEnd call x v) where
      abbrev held : HeaderHolds
      held = headers_after m.headers (content m.arena.bytes) x v.headers

      after : After x
      after = keys_after x may.0 may.1

      holds : OwnedAndKept z s seat v r here (header_spot x) (y x) (w x).blocks (w x).headers
      holds = keyed_kept m.headers x v.knowledge held z s seat v r here (header_spot x) (y x) (blocks_with x m v.blocks)
          (subst (λ (i : ℕ). OwnedAndKept z s seat v r here (header_spot x) (header_effect x i) (blocks_with x m v.blocks) held) (read_is x may.0) (own_and_keep x may.0))

      stands : HeadersStand (put_header m.headers (header_spot x) (y x)) (content m.arena.bytes) IsPlace (knows s) (set hs seat (w x).headers)
      stands = keyed_stand m.headers x v.knowledge held (put_header m.headers (header_spot x) (y x)) (content m.arena.bytes) IsPlace (knows s) hs seat v.headers (at_headers z s seat v r here)
          (subst (λ (i : ℕ). HeadersStand (put_header m.headers (header_spot x) (header_effect x i)) (content m.arena.bytes) IsPlace (knows s) (set hs seat held)) (read_is x may.0)
          (headers_keep m.headers (content m.arena.bytes) IsPlace (knows s) hs (stand z s seat v r here) (pins z s seat v r here) (small_pin z s seat v r here) seat v.headers (at_headers z s seat v r here) x may.0.headers (needs x may.0)))

      -- a pin is on what the pass knew, and it knows no less
      pin_known : PinsWhatItKnows (λ h g. knows_life h g (w x).knowledge) (w x).headers
      pin_known = on_pin (λ (p : PinnedHeader). 0 < fresh_at p.header p.wanted (w x).headers + knows_life p.header p.wanted v.knowledge) (λ (p : PinnedHeader). 0 < fresh_at p.header p.wanted (w x).headers + knows_life p.header p.wanted (w x).knowledge) (w x).headers.pin
          (λ p _ l. let k = after.more p.header p.wanted in omega arith)
          (keyed_pins m.headers x v.knowledge held (λ h g. knows_life h g v.knowledge) (pins_kept m.headers (content m.arena.bytes) IsPlace (knows s) hs (stand z s seat v r here) seat v.headers (at_headers z s seat v r here) (λ h g. knows_life h g v.knowledge) x may.0.headers (may_know x may.0) (r.passes seat v here).pin))

      pub header_keeps_it : Rule z (table_after z call (on_headers x) seat v s)
      header_keeps_it = learning_rule z s call seat v r here going (on_headers x) (finding z call (in_headers (header_spot x)) (header_found x (n x)) (y x) s.words v) may.0.inside
          (header_fits x v.headers (n x) may.0.headers (r.words.small (index z (in_headers (header_spot x))))) refl refl (record { met = refl; swept = begins_self v.findings.swept; fulls = refl }) refl after.histories
          (of_rooms z s call seat v r here going (w x) refl (λ (rs : List RoomHolds). BlocksAreOwned z m.arena.bits (all_others z (write m (in_headers (header_spot x)) (y x)) rs) (map blocks_of (set s.states seat (w x))))
          (subst (BlocksAreOwned z m.arena.bits (all_others z (write m (in_headers (header_spot x)) (y x)) (map rooms_held s.states))) (sym (map_set blocks_of s.states seat (w x))) holds.owned))
          (subst (λ (p : (ℕ → ℕ → ℕ) × List HeaderHolds). HeadersAreHeld (put_header m.headers (header_spot x) (y x)) m.arena.bytes p.0 p.1) (λ i. ((λ h g. sym (after.known_same h g) i), sym (map_set headers_held s.states seat (w x)) i)) stands)
          (rooms_stay z s call seat v r here going (w x) refl) after.keys
          (subst (KeptNumbersStand same_spot (read (write m (in_headers (header_spot x)) (y x)))) (sym (map_set kept_of s.states seat (w x))) holds.kept)
          record { pin = pin_known; whole = keyed_whole m.headers x v.knowledge held (headers_whole z s seat v r here (r.passes seat v here).whole x may.0); claim = (r.passes seat v here).claim }

pub header_keeps : (z : Sizes) (s : TableState) (call seat : ℕ) (v : PassState) → Rule z s → get_elem? s.states seat ≡ some v → v.numbers.spent ≡ false → (x : HeaderStep) → MayOnHeaders z x v × MayEnd call x v → Rule z (table_after z call (on_headers x) seat v s)
header_keeps z s call seat v r here going x may = header_keeps_it z s seat v r here call going x may
