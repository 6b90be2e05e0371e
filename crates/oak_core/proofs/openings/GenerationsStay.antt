-- While no header is dead, each step leaves each header at its generation.
use Rattle.std.proofs.Common.{◌≡◌, ◌≢◌, ℕ, ◌+◌, ◌<◌, ◌==◌, eq-eqb, ne_eqb, false, Bool, List, map, set, sym, refl, ap, ◌∙◌, subst, arith}
use Rattle.std.proofs.lemmas.List.{set-get_or}
use mathlib.Core.Logic.{dite}
use mathlib.Core.Option.{some}
use native.Mathlib.Decide.{ℕ_discrete}
use lib.ListN.{get_elem?}
use prog.Atomic.{either}
use Rattle.pin_word.specs.PinWord.{state_of, generation_of, STATE}
use Rattle.pin_word.proofs.StepLaws.{pin_up, pin_down, state_up, state_down, state_set}
use Rattle.oak_model.specs.Limits.{Sizes}
use Rattle.oak_model.specs.Counts.{put}
use Rattle.oak_model.proofs.Counting.{total_at}
use Rattle.oak_model.proofs.PutLaws.{put-same}
use Rattle.header_core.specs.HeaderHolds.{pins_on, held_state}
use Rattle.header_core.specs.HeaderStep.{HeaderStep, claim_header, store_place, store_stamp, change_place, open_header, pin_header, unpin_header, release_header, lock_header, unlock_header, mark_dead, take_back, header_spot, header_effect}
use Rattle.header_core.specs.Headers.{read_header}
use Rattle.header_core.specs.declared.states.TheConstants.{OWNED, LOCKED, DEAD}
use Rattle.header_core.proofs.PinWordChanges.{state_off}
use Rattle.oak_core.specs.declared.states.PassState.{PassState}
use Rattle.oak_core.specs.Memory.{Memory, Spot, at_given, in_headers, index, IsInside, memory, write}
use Rattle.oak_core.specs.PassState.{headers_held}
use Rattle.oak_core.specs.Rule.{Rule}
use Rattle.oak_core.specs.Step.{Step, load, give_number, on_arena, on_headers, on_rooms, store_locked, note_full, May, MayOnHeaders, spot, table_after}
use Rattle.oak_core.specs.TableState.{TableState}
use Rattle.oak_core.proofs.covers.BasesRise.{room_inside}
use Rattle.oak_core.proofs.held.FewPins.{few_pins}
use Rattle.oak_core.proofs.held.HeaderStanding.{small_pin, at_headers}
use Rattle.oak_core.proofs.owners.HeaderSums.{held_in_state}
use Rattle.oak_core.proofs.kinds.KeepsArena.{arena_inside}
use Rattle.oak_core.proofs.kinds.KeepsLocked.{inside_it}
use Rattle.oak_core.proofs.owners.OwnedAndKept.{state_is}
use Rattle.oak_core.proofs.memory.Words.{memory_read, memory_set}

module _ (z : Sizes) (s : TableState) (seat : ℕ) (v : PassState) (r : Rule z s) (here : get_elem? s.states seat ≡ some v) where
  abbrev m : Memory
  m = memory z s.words

  abbrev pin : ℕ → ℕ
  pin = m.headers.pin

  -- where one pin word stays at its generation, each header does
  moved : (j y : ℕ) → generation_of y ≡ generation_of (pin j) → (h : ℕ) → generation_of (put pin j y h) ≡ generation_of (pin h)
  moved j y e h = put-same pin j y generation_of e h

  -- an exchange from a word whose state goes up by one
  exchanged : (j old : ℕ) → state_of old < 15 → generation_of (either (pin j == old) (old + STATE) (pin j)) ≡ generation_of (pin j)
  exchanged j old low = dite (ℕ_discrete (pin j) old)
      (λ e. ap (λ (t : Bool). generation_of (either t (old + STATE) (pin j))) (eq-eqb (pin j) old e) ∙ ((state_set old low).2 ∙ ap generation_of (sym e)))
      (λ ne. ap (λ (t : Bool). generation_of (either t (old + STATE) (pin j))) (ne_eqb (pin j) old ne))

  -- one clause for each kind of step on headers
  header_still : (x : HeaderStep) → MayOnHeaders z x v → ((j : ℕ) → j < z.headers → state_of (pin j) ≢ DEAD) → (h : ℕ)
      → generation_of ((write m (in_headers (header_spot x)) (header_effect x (read_header m.headers (header_spot x)))).headers.pin h) ≡ generation_of (pin h)
  header_still (claim_header j old) may none h = moved j _ (exchanged j old (let f = may.headers.state in omega arith)) h
  header_still (store_place j x) may none h = refl
  header_still (store_stamp j x) may none h = refl
  header_still (change_place j x) may none h = refl
  header_still (open_header j) may none h = moved j _ (state_up (pin j) (let e = state_is z s seat v r here j OWNED (omega arith) (omega arith) may.headers in omega arith) (small_pin z s seat v r here j)).2 h
  header_still (pin_header j g) may none h = moved j _ (pin_up (pin j) (let f = few_pins z s r j in let c = r.headers.counted j in omega arith) (small_pin z s seat v r here j)).2 h
  header_still (unpin_header j) may none h = moved j _ (pin_down (pin j) (let c = r.headers.counted j in let one = may.headers in let t = total_at (pins_on j) (map headers_held s.states) seat v.headers (at_headers z s seat v r here) in omega arith) (small_pin z s seat v r here j)).2 h
  header_still (release_header j t) may none h = let b = held_in_state t in moved j _ (state_off t (pin j) (state_is z s seat v r here j (held_state t) b.0 b.1 may.headers.0) (small_pin z s seat v r here j)).2 h
  header_still (lock_header j old) may none h = moved j _ (exchanged j old (let f = may.headers.state in omega arith)) h
  header_still (unlock_header j kind) may none h = moved j _ (state_down (pin j) (let e = state_is z s seat v r here j LOCKED (omega arith) (omega arith) may.headers in omega arith) (small_pin z s seat v r here j)).2 h
  header_still (mark_dead j) may none h = moved j _ (state_up (pin j) (let e = state_is z s seat v r here j LOCKED (omega arith) (omega arith) may.headers in omega arith) (small_pin z s seat v r here j)).2 h
  header_still (take_back j x) may none h = absurd (none j may.inside (state_is z s seat v r here j DEAD (omega arith) (omega arith) may.headers.0))

  -- what is said of the memory with one word written stands of the table with it
  written : (p : Spot) (y h : ℕ) → IsInside z p → generation_of ((write m p y).headers.pin h) ≡ generation_of (pin h) → generation_of ((memory z (set s.words (index z p) y)).headers.pin h) ≡ generation_of (pin h)
  written p y h inside e = ap (λ (n : Memory). generation_of (n.headers.pin h)) (memory_set z s.words p y r.words.counted inside) ∙ e

  module _ (call : ℕ) (going : v.numbers.spent ≡ false) where
    pub generations_stay : (x : Step) → May z call x v → ((j : ℕ) → j < z.headers → state_of (pin j) ≢ DEAD) → (h : ℕ) → generation_of ((memory z (table_after z call x seat v s).words).headers.pin h) ≡ generation_of (pin h)
    generations_stay (load p) may none h = ap (λ (ws : List ℕ). generation_of ((memory z ws).headers.pin h)) (set-get_or s.words (index z p) 0)
    generations_stay (give_number n) may none h = written at_given _ h tt refl
    generations_stay (on_arena a) may none h = written (spot (on_arena a)) _ h (arena_inside z a v.blocks may) refl
    generations_stay (on_headers x) may none h = written (in_headers (header_spot x)) _ h may.0.inside
        (subst (λ (n : ℕ). generation_of ((write m (in_headers (header_spot x)) (header_effect x n)).headers.pin h) ≡ generation_of (pin h)) (memory_read z s.words (in_headers (header_spot x)) may.0.inside) (header_still x may.0 none h))
    generations_stay (on_rooms x) may none h = written (spot (on_rooms x)) _ h (room_inside z s seat v r here call going x may) refl
    generations_stay (store_locked k c b i n) may none h = written (spot (store_locked k c b i n)) n h (inside_it z s seat v r here k c b may.block call going i n may) refl
    generations_stay (note_full lack began) may none h = ap (λ (ws : List ℕ). generation_of ((memory z ws).headers.pin h)) (set-get_or s.words (index z at_given) 0)
