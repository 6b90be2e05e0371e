-- The points on keys, and with them, behind a store to a word of a header that is owned or locked: no key is shown by it.
use Rattle.std.specs.Prelude.{not}
use Rattle.std.proofs.Common.{◌≡◌, ◌≢◌, ℕ, ◌+◌, ◌*◌, ◌<◌, ◌==◌, ◌⊎◌, cond, List, map, set, refl, ap, ◌∙◌, inl, inr, ⊎_elim, arith, ne_eqb, Some}
use mathlib.Core.Logic.{dite}
use mathlib.Core.Option.{some}
use native.Mathlib.Decide.{dec_lt}
use lib.ListN.{get_elem?}
use Rattle.pin_word.specs.PinWord.{state_of}
use Rattle.oak_model.specs.Counts.{one_at, one_if, Each, Has}
use Rattle.oak_model.specs.Limits.{Sizes}
use Rattle.oak_model.proofs.Counting.{total_map}
use Rattle.oak_model.proofs.Lists.{each_map_list}
use Rattle.oak_model.proofs.MemberLaws.{each_in}
use Rattle.oak_model.proofs.PutLaws.{put-else}
use Rattle.arena_core.specs.Place.{content}
use Rattle.header_core.specs.declared.states.TheConstants.{OWNED, LIVE, LOCKED, DEAD}
use Rattle.header_core.specs.declared.holds.HeldHeader.{HeldHeader}
use Rattle.header_core.specs.Headers.{at_place, at_stamp, read_header}
use Rattle.header_core.specs.HeaderHolds.{in_state, held_state}
use Rattle.header_core.specs.HeaderStep.{HeaderStep, store_place, store_stamp, change_place, header_spot, header_effect}
use Rattle.header_core.proofs.HeldChanges.{rows_placed, rows_stamped, rows_changed}
use Rattle.oak_core.specs.declared.states.KeyedWrite.{KeyedWrite}
use Rattle.oak_core.specs.declared.states.PassState.{PassState}
use Rattle.oak_core.specs.KeyReads.{value_in}
use Rattle.oak_core.specs.KeyStates.{unnamed, HoldStands}
use Rattle.oak_core.specs.Memory.{Memory, memory, in_headers, write}
use Rattle.oak_core.specs.Rule.{Rule}
use Rattle.oak_core.specs.Step.{on_headers, state_after}
use Rattle.oak_core.specs.TableState.{TableState}
use Rattle.oak_core.proofs.held.HeldFields.{hold_stored}
use Rattle.oak_core.proofs.keyed.KeyBundles.{KeyBundles, keys_now, keys_framed, rooms_still}
use Rattle.oak_core.proofs.owners.OwnedAndKept.{state_is}
use Rattle.oak_core.proofs.known.PinsKnown.{pins_same}
use Rattle.oak_core.proofs.keyed.UnnamedBundles.{held_so}

-- the bundles behind a step, over what it finds in its word
abbrev pub FieldBundles : Sizes → TableState → ℕ → ℕ → PassState → HeaderStep → Type 0
FieldBundles z s call seat v x = KeyBundles z (write (memory z s.words) (in_headers (header_spot x)) (header_effect x (read_header (memory z s.words).headers (header_spot x)))) (set s.states seat (state_after z call (on_headers x) s v))

module _ (z : Sizes) (s : TableState) (seat : ℕ) (v : PassState) (r : Rule z s) (here : get_elem? s.states seat ≡ some v) where
  abbrev m : Memory
  m = memory z s.words

  abbrev Holds : List HeldHeader → (ℕ → ℕ) → (ℕ → List KeyedWrite) → Type 0
  Holds rs word hist = Each (λ (q : HeldHeader). HoldStands word hist q.held_as q) rs

  -- a word of a header is stored that is owned or locked
  module _ (h : ℕ) (own : 0 < in_state h OWNED v.headers + in_state h LOCKED v.headers) where
    owned_or_locked : (state_of ((memory z s.words).headers.pin h) ≡ OWNED) ⊎ (state_of ((memory z s.words).headers.pin h) ≡ LOCKED)
    owned_or_locked = dite (dec_lt 0 (in_state h OWNED v.headers)) (λ l. inl (state_is z s seat v r here h OWNED (omega arith) (omega arith) l)) (λ no. inr (state_is z s seat v r here h LOCKED (omega arith) (omega arith) (omega arith)))

    -- it shows no key
    apart : (j : ℕ) → (state_of ((memory z s.words).headers.pin j) ≡ LIVE) ⊎ (state_of ((memory z s.words).headers.pin j) ≡ DEAD) → j ≢ h
    apart j o e = let t = ap (λ (i : ℕ). state_of (m.headers.pin i)) e in ⊎_elim (λ (a : state_of (m.headers.pin h) ≡ OWNED). ⊎_elim (λ (l : state_of (m.headers.pin j) ≡ LIVE). absurd (omega arith)) (λ (l : state_of (m.headers.pin j) ≡ DEAD). absurd (omega arith)) o)
        (λ (a : state_of (m.headers.pin h) ≡ LOCKED). ⊎_elim (λ (l : state_of (m.headers.pin j) ≡ LIVE). absurd (omega arith)) (λ (l : state_of (m.headers.pin j) ≡ DEAD). absurd (omega arith)) o) owned_or_locked

    -- nor is it buried
    stamp_left : (x : ℕ) (q : HeldHeader) → Has q v.headers.held → held_state q.held_as ≡ DEAD → cond (q.header == h) x q.stamp ≡ q.stamp
    stamp_left x q has dead = ap (λ (t : _). cond t x q.stamp) (ne_eqb q.header h (apart q.header (inr (held_so z s seat v r here q has ∙ dead))))

    -- the records of held headers that say so
    holds_stored : (place stamp : HeldHeader → ℕ) (words : HeldHeader → List ℕ) → ((q : HeldHeader) → Has q v.headers.held → held_state q.held_as ≡ DEAD → stamp q ≡ q.stamp) → (word : ℕ → ℕ) (hist : ℕ → List KeyedWrite) → Holds v.headers.held word hist
        → Holds (map (λ (q : HeldHeader). record q { place = place q; stamp = stamp q; words = words q }) v.headers.held) word hist
    holds_stored place stamp words same word hist p = each_map_list (λ (q : HeldHeader). record q { place = place q; stamp = stamp q; words = words q }) (λ (q : HeldHeader). HoldStands word hist q.held_as q) v.headers.held
        (each_in (λ (q : HeldHeader). HoldStands word hist q.held_as q) (λ (q : HeldHeader). HoldStands word hist q.held_as (record q { place = place q; stamp = stamp q; words = words q })) v.headers.held (λ q has a. hold_stored word hist q.held_as q (place q) (stamp q) (words q) (same q has) a) p)

    unnamed_stored : (place stamp : HeldHeader → ℕ) (words : HeldHeader → List ℕ) (j : ℕ) → unnamed j (record v.headers { held = map (λ (q : HeldHeader). record q { place = place q; stamp = stamp q; words = words q }) v.headers.held }) ≡ unnamed j v.headers
    unnamed_stored place stamp words j = total_map (λ (q : HeldHeader). record q { place = place q; stamp = stamp q; words = words q }) (λ (q : HeldHeader). one_at q.header j * one_at (held_state q.held_as) DEAD * one_if (not q.named)) v.headers.held

  -- behind the step of a call
  module _ (call : ℕ) where
    pub place_fields : (h x : ℕ) → 0 < in_state h OWNED v.headers → FieldBundles z s call seat v (store_place h x)
    place_fields h x own = let w : PassState = state_after z call (on_headers (store_place h x)) s v in let place : HeldHeader → ℕ = λ q. cond (q.header == h) x q.place in
        keys_framed z m (write m (in_headers (at_place h)) x) s.states seat v w here (keys_now z s r) (rooms_still z m s.states seat v w here refl) refl refl (λ _. refl) (λ _ _. refl)
        (λ j l. ap (λ (p : ℕ). Some (value_in p (content m.arena.bytes p))) (put-else m.headers.place h x j (apart h (omega arith) j (inl l))))
        (λ j. rows_placed h x j LIVE v.headers.held) (unnamed_stored h (omega arith) place (λ q. q.stamp) (λ q. q.words)) (holds_stored h (omega arith) place (λ q. q.stamp) (λ q. q.words) (λ _ _ _. refl))
        (pins_same v w refl refl (r.heard.pins seat v here))

    pub stamp_fields : (h x : ℕ) → 0 < in_state h OWNED v.headers + in_state h LOCKED v.headers → FieldBundles z s call seat v (store_stamp h x)
    stamp_fields h x own = let w : PassState = state_after z call (on_headers (store_stamp h x)) s v in let stamp : HeldHeader → ℕ = λ q. cond (q.header == h) x q.stamp in
        keys_framed z m (write m (in_headers (at_stamp h)) x) s.states seat v w here (keys_now z s r) (rooms_still z m s.states seat v w here refl) refl refl (λ _. refl)
        (λ j o. put-else m.headers.stamp h x j (apart h own j o)) (λ _ _. refl)
        (λ j. rows_stamped h x j LIVE v.headers.held) (unnamed_stored h own (λ q. q.place) stamp (λ q. q.words)) (holds_stored h own (λ q. q.place) stamp (λ q. q.words) (stamp_left h own x))
        (pins_same v w refl refl (r.heard.pins seat v here))

    pub change_fields : (h x : ℕ) → 0 < in_state h LOCKED v.headers → FieldBundles z s call seat v (change_place h x)
    change_fields h x own = let w : PassState = state_after z call (on_headers (change_place h x)) s v in let place : HeldHeader → ℕ = λ q. cond (q.header == h) x q.place in let words : HeldHeader → List ℕ = λ q. cond (q.header == h) (content m.arena.bytes x) q.words in
        keys_framed z m (write m (in_headers (at_place h)) x) s.states seat v w here (keys_now z s r) (rooms_still z m s.states seat v w here refl) refl refl (λ _. refl) (λ _ _. refl)
        (λ j l. ap (λ (p : ℕ). Some (value_in p (content m.arena.bytes p))) (put-else m.headers.place h x j (apart h (omega arith) j (inl l))))
        (λ j. rows_changed h x (content m.arena.bytes x) j LIVE v.headers.held) (unnamed_stored h (omega arith) place (λ q. q.stamp) words) (holds_stored h (omega arith) place (λ q. q.stamp) words (λ _ _ _. refl))
        (pins_same v w refl refl (r.heard.pins seat v here))
