-- At a moment at which a pass is alone and holds no header, a header that an entry names is live at the generation, and has no pin.
use Rattle.std.proofs.Common.{◌≡◌, ◌≢◌, ℕ, ◌+◌, ◌*◌, ◌<◌, true, List, map, refl, sym, ap, ◌∙◌, subst, arith, eq-eqb, Some}
use mathlib.Core.Logic.{dite}
use mathlib.Core.Option.{some-injective}
use native.Mathlib.Decide.{ℕ_discrete}
use lib.ListN.{get_elem?}
use Rattle.pin_word.specs.PinWord.{generation_of, state_of, count_of}
use Rattle.oak_model.specs.Counts.{one_at, total}
use Rattle.oak_model.specs.KeyNumber.{key_number}
use Rattle.oak_model.specs.Limits.{Sizes}
use Rattle.oak_model.proofs.Counting.{one_at-same, one_at-other, total_zero, true_both}
use Rattle.oak_model.proofs.Lists.{at_unmap}
use Rattle.arena_core.specs.Place.{content}
use Rattle.header_core.specs.declared.states.TheConstants.{LIVE, LOCKED, DEAD, RETIRED}
use Rattle.header_core.specs.declared.holds.HeaderHolds.{HeaderHolds}
use Rattle.header_core.specs.HeaderHolds.{in_state, no_headers, pins_on}
use Rattle.header_core.specs.HeaderRule.{stocked}
use Rattle.chunk_core.specs.PinnedRooms.{RoomPinHolds}
use Rattle.chunk_core.specs.ValueWord.{header_in}
use Rattle.oak_core.specs.declared.states.PassState.{PassState}
use Rattle.oak_core.specs.AloneWords.{Moment}
use Rattle.oak_core.specs.FoundKeys.{entry_key}
use Rattle.oak_core.specs.KeyReads.{history_now, shown_by, word_now}
use Rattle.oak_core.specs.KeyStates.{IsHome}
use Rattle.oak_core.specs.Memory.{Memory, memory}
use Rattle.oak_core.specs.PassState.{IsAlone, headers_held}
use Rattle.oak_core.proofs.seats.Alone.{others_are}
use Rattle.oak_core.proofs.covers.FoundValues.{entry_key_is, pin_holds, value_there}
use Rattle.chunk_ops.specs.declared.entries.Content.TheVariants.{Value}
use Rattle.chunk_ops.specs.Contents.{Says}
use Rattle.chunk_ops.specs.PinRecords.{HasEntry, room_pin}
use Rattle.value_ops.specs.AloneLocks.{pin_in}
use Rattle.value_ops.specs.Locking.{may_lock}
use Rattle.value_ops.specs.Pinning.{IsLiveAt}
use Rattle.std.specs.Prelude.{◌&&◌, ◌==◌}
use Rattle.oak_model.specs.Counts.{Has}
use Rattle.oak_model.proofs.Counting.{one_at-true}
use Rattle.chunk_core.specs.declared.holds.FoundEntry.{FoundEntry}
use Rattle.chunk_core.specs.CoverSums.{naming, names}
use Rattle.chunk_core.specs.KeyWords.{key_bytes}
use Rattle.chunk_core.specs.LinkedEntries.{linked}
use Rattle.chunk_core.specs.PinnedRooms.{found_in}
use Rattle.chunk_core.proofs.CoverFacts.{entry_adds}
use Rattle.chunk_core.proofs.RoomLinks.{found_stands}
use Rattle.oak_core.specs.PassState.{rooms_held}
use Rattle.oak_core.proofs.covers.FoundValues.{numbered}

module _ (z : Sizes) (words : List ℕ) (v : PassState) (m : Moment z words v) (alone : IsAlone v) (none : v.headers ≡ no_headers) where
  abbrev mem : Memory
  mem = memory z words

  -- no pass has anything of headers
  nobody : (f : HeaderHolds → ℕ) → f no_headers ≡ 0 → total f (map headers_held m.states) ≡ 0
  nobody f zero_of = total_zero f (map headers_held m.states) (λ j a at. let t = at_unmap headers_held m.states j a at in ap f (sym t.2) ∙ (dite (ℕ_discrete j m.seat)
      (λ e. let same : t.0 ≡ v = some-injective t.0 v (sym t.1 ∙ (ap (get_elem? m.states) e ∙ m.here)) in ap f (ap (λ (y : PassState). y.headers) same ∙ none))
      (λ ne. ap f (ap (λ (y : PassState). y.headers) (others_are z record { words = words; states = m.states } m.rule m.seat v m.here alone j t.0 ne t.1))) ∙ zero_of))

  -- so none has a pin
  pub unpinned_alone : (h : ℕ) → count_of (pin_in z h words) ≡ 0
  unpinned_alone h = sym (m.rule.headers.counted h) ∙ nobody (pins_on h) refl

  -- and none is locked, or dead
  not_in : (h s : ℕ) → 0 < s → s < RETIRED → s ≢ LIVE → in_state h s no_headers ≡ 0 → state_of (pin_in z h words) ≢ s
  not_in h s some_of lt ne zero_of e = let t = m.rule.headers.held h s some_of lt ne in let n = nobody (in_state h s) zero_of in let o = one_at-same (state_of (pin_in z h words)) s e in absurd (omega arith)

  unlocked : (h : ℕ) → state_of (pin_in z h words) ≢ LOCKED
  unfolding total
  unlocked h = not_in h LOCKED (omega arith) (omega arith) (λ e. absurd (omega arith)) refl

  undead : (h : ℕ) → state_of (pin_in z h words) ≢ DEAD
  unfolding total
  undead h = not_in h DEAD (omega arith) (omega arith) (λ e. absurd (omega arith)) refl

  -- an entry found under the good pin, whose value word names a header
  module _ (r i : ℕ) (k : List ℕ) (has : HasEntry r i k v) (h g : ℕ) (says : Says (Value h g) ((memory z words).rooms.value r i)) where
    n : ℕ
    n = mem.rooms.value (room_pin v).room i

    room_is : (room_pin v).room ≡ r
    room_is = has.finds.pin.room

    says_here : Says (Value h g) (mem.rooms.value (room_pin v).room i)
    says_here = subst (λ (q : ℕ). Says (Value h g) (mem.rooms.value q i)) (sym room_is) says

    holds : RoomPinHolds z mem.rooms (content mem.arena.bytes) (room_pin v)
    holds = pin_holds z mem m.states m.rule.rooms m.rule.covers m.seat v m.here (room_pin v) has.finds.pin.is has.finds.pin.good

    found : entry_key i (found_in (room_pin v)) ≡ Some k
    found = entry_key_is z mem.rooms (content mem.arena.bytes) (room_pin v) holds i has.entry has.finds.there has.finds.number ∙ ap Some has.key_is

    word : word_now z mem m.states (key_number k) ≡ mem.rooms.value (room_pin v).room i + 1
    word = value_there z mem m.states m.rule.rooms m.rule.covers m.seat v m.here (room_pin v) has.finds.pin.is has.finds.pin.good i k found

    home : IsHome z mem.headers (shown_by mem) (mem.rooms.value (room_pin v).room i) (history_now m.states (key_number k))
    home = (m.rule.keys.states (key_number k)).named (mem.rooms.value (room_pin v).room i) word says_here.0

    pub named_inside : h < z.headers
    named_inside = subst (λ (q : ℕ). q < z.headers) says_here.1 home.inside

    -- is at the generation
    generation_is : generation_of (pin_in z h words) ≡ g
    generation_is = ap (λ (q : ℕ). generation_of (mem.headers.pin q)) (sym says_here.1) ∙ (home.generation ∙ says_here.2)

    entry : (e : FoundEntry) × Has e (found_in (room_pin v)) × (e.number ≡ i) × (key_bytes e.word e.words ≡ k)
    entry = numbered i (found_in (room_pin v)) k found

    once : total (λ j. one_at j i) (linked mem.rooms (room_pin v).room) ≡ 1
    once = ap (λ (n : ℕ). total (λ j. one_at j n) (linked mem.rooms (room_pin v).room)) (sym entry.2) ∙ (found_stands z mem.rooms (content mem.arena.bytes) (room_pin v) holds entry.0 entry.1).linked

    one_name : names h (mem.rooms.value (room_pin v).room i) ≡ 1
    one_name = λ j. says_here.0 j * one_at-same (header_in (mem.rooms.value (room_pin v).room i)) h says_here.1 j

    -- has a block
    has_block : 0 < stocked (state_of (pin_in z h words))
    has_block = let a = entry_adds z mem.rooms (content mem.arena.bytes) (map rooms_held m.states) (naming h) (room_pin v).room i holds.inside holds.cover once in
        let o = one_name in let q = m.rule.keys.named h in omega arith

    -- and is live
    is_live : state_of (pin_in z h words) ≡ LIVE
    is_live = let b = has_block in let l = one_at-other (state_of (pin_in z h words)) LOCKED (unlocked h) in let d = one_at-other (state_of (pin_in z h words)) DEAD (undead h) in
        one_at-true (state_of (pin_in z h words)) LIVE (omega arith)

    pub named_live : IsLiveAt g (pin_in z h words)
    named_live = (generation_is, is_live)

    -- so it may be locked
    pub named_free : may_lock (pin_in z h words) g ≡ true
    named_free = let w = pin_in z h words in true_both (state_of w == LIVE) ((count_of w == 0) && (generation_of w == g)) (eq-eqb (state_of w) LIVE is_live)
        (true_both (count_of w == 0) (generation_of w == g) (eq-eqb (count_of w) 0 (unpinned_alone h)) (eq-eqb (generation_of w) g generation_is))
