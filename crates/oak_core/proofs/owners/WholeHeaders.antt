-- A pass keeps a number for each word of its headers' blocks, also after a step on them.
use Rattle.std.proofs.Common.{◌≡◌, ℕ, ◌<◌, ◌==◌, cond, ◌∷◌, map, sym, ap, ◌∙◌, arith}
use mathlib.Core.Option.{some}
use lib.ListN.{get_elem?}
use Rattle.oak_model.specs.Limits.{Sizes}
use Rattle.oak_model.specs.Counts.{Each, Has}
use Rattle.oak_model.proofs.Counting.{test-cases}
use Rattle.arena_core.specs.Arena.{block_words}
use Rattle.arena_core.specs.Place.{IsPlace, class_in, content}
use Rattle.header_core.specs.declared.states.TheConstants.{OWNED, LOCKED}
use Rattle.header_core.specs.declared.holds.HeldHeader.{HeldHeader}
use Rattle.header_core.specs.HeaderHolds.{in_state}
use Rattle.header_core.specs.HeaderStep.{HeaderStep, claim_header, store_place, store_stamp, change_place, open_header, pin_header, unpin_header, release_header, lock_header, unlock_header, mark_dead, take_back, headers_after, owned_at, locked_at}
use Rattle.header_core.proofs.HeldHeaders.{held_in, rows_in, rows_split, stocked_split}
use Rattle.header_core.proofs.HeaderFacts.{true_numbers, held_one}
use Rattle.oak_core.specs.declared.states.PassState.{PassState}
use Rattle.oak_core.specs.Memory.{Memory, memory}
use Rattle.oak_core.specs.Owners.{IsWholeHeader, HeadersAreWhole}
use Rattle.oak_core.specs.PassState.{headers_held}
use Rattle.oak_core.specs.TableState.{TableState}
use Rattle.oak_core.specs.Rule.{Rule}
use Rattle.oak_core.specs.Step.{MayOnHeaders}
use Rattle.oak_core.proofs.held.HeaderStanding.{knows, stand, at_headers, parts}
use Rattle.oak_core.proofs.owners.WholeRecords.{content_length, whole_placed, whole_stamped, whole_changed, whole_freshened, whole_buried, whole_without, whole_owned, whole_locked}

module _ (z : Sizes) (s : TableState) (seat : ℕ) (v : PassState) (r : Rule z s) (here : get_elem? s.states seat ≡ some v) (whole : HeadersAreWhole v.headers) where
  abbrev m : Memory
  m = memory z s.words

  -- a header that is held is held once
  one : (h t : ℕ) → 0 < in_state h t v.headers → held_in h v.headers.held ≡ 1
  one h t some_of = held_one m.headers (content m.arena.bytes) IsPlace (knows s) (map headers_held s.states) (stand z s seat v r here) seat v.headers h t (at_headers z s seat v r here) some_of

  -- so a locked one is not owned
  locked_unowned : (h : ℕ) → 0 < in_state h LOCKED v.headers → rows_in h OWNED v.headers.held ≡ 0
  locked_unowned h own = let o = one h LOCKED own in let a = rows_split h v.headers.held in let b = stocked_split h v.headers.held in omega arith

  -- what a record says of its place is what the pass keeps of the header
  place_is : (h : ℕ) (x : HeldHeader) → Has x v.headers.held → x.header ≡ h → m.headers.place h ≡ x.place
  place_is h x has e = ap m.headers.place (sym e) ∙ (true_numbers m.headers v.headers.held x (parts z s seat v r here).headers has).0

  pub headers_whole : (x : HeaderStep) → MayOnHeaders z x v → HeadersAreWhole (headers_after m.headers (content m.arena.bytes) x v.headers)
  headers_whole (claim_header h old) may = test-cases (m.headers.pin h == old) (λ t. Each IsWholeHeader (cond t (owned_at m.headers h ∷ v.headers.held) v.headers.held)) (λ _. whole_owned h v.headers.held whole m.headers) (λ _. whole)
  headers_whole (store_place h x) may = whole_placed h v.headers.held whole x (let o = one h OWNED may.headers.0 in let a = rows_split h v.headers.held in let own = may.headers.0 in omega arith)
  headers_whole (store_stamp h x) may = whole_stamped h v.headers.held whole x
  headers_whole (change_place h x) may = whole_changed h v.headers.held whole x (content m.arena.bytes x) (content_length m.arena.bytes x)
  headers_whole (open_header h) may = whole_freshened h v.headers.held whole (content m.arena.bytes (m.headers.place h)) (λ q has e. content_length m.arena.bytes (m.headers.place h) ∙ ap (λ (w : ℕ). block_words (class_in w)) (place_is h q has e))
  headers_whole (pin_header h g) may = whole
  headers_whole (unpin_header h) may = whole
  headers_whole (release_header h t) may = whole_without h v.headers.held whole
  headers_whole (lock_header h old) may = test-cases (m.headers.pin h == old) (λ t. Each IsWholeHeader (cond t (locked_at m.headers (content m.arena.bytes) h ∷ v.headers.held) v.headers.held)) (λ _. whole_locked h v.headers.held whole m.headers m.arena.bytes) (λ _. whole)
  headers_whole (unlock_header h kind) may = whole_without h v.headers.held whole
  headers_whole (mark_dead h) may = whole_buried h v.headers.held whole (locked_unowned h may.headers)
  headers_whole (take_back h x) may = whole_without h v.headers.held whole
