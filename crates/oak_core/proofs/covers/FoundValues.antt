-- What stands of an entry that a pass found under a good pin: it is linked once in a room that is a cover, and its key is a real one, whose entry it is.
use Rattle.std.proofs.Common.{◌≡◌, ℕ, ◌+◌, ◌-◌, ◌==◌, cond, Bool, List, [], ◌∷◌, map, length, sym, refl, ap, ◌∙◌, subst, inl, inr, ⊎_elim, arith, Option, Some, None, eq-eqb, ne_eqb, eqb-true}
use Rattle.std.proofs.lemmas.Option.{none-some, same_Some}
use mathlib.Core.Logic.{dite}
use mathlib.Core.Option.{some}
use native.Mathlib.Decide.{ℕ_discrete}
use lib.ListN.{get_elem?}
use Rattle.pin_word.specs.PinWord.{state_of}
use Rattle.oak_model.specs.Counts.{one_at, total, Each, Has}
use Rattle.oak_model.specs.KeyNumber.{key_number}
use Rattle.oak_model.specs.Limits.{Sizes}
use Rattle.oak_model.proofs.Counting.{test-cases, true_both}
use Rattle.oak_model.proofs.Lists.{at_map, each_append, rows_length}
use Rattle.arena_core.specs.Arena.{block_words}
use Rattle.arena_core.specs.Place.{class_in, block_in, content}
use Rattle.chunk_core.specs.CoverRule.{CoversPartition}
use Rattle.chunk_core.specs.Covers.{key_at}
use Rattle.chunk_core.specs.KeyWords.{key_in, key_bytes}
use Rattle.chunk_core.specs.LinkedEntries.{linked}
use Rattle.chunk_core.specs.PinnedRooms.{OnRoomPin, IsGoodRoom, RoomPinHolds, EntryStands, found_in}
use Rattle.chunk_core.specs.RoomRule.{RoomsStand}
use Rattle.chunk_core.specs.Rooms.{RoomMemory}
use Rattle.chunk_core.specs.declared.holds.FoundEntry.{FoundEntry}
use Rattle.chunk_core.specs.declared.holds.PinnedRoom.{PinnedRoom}
use Rattle.chunk_core.specs.declared.states.TheConstants.{OPEN}
use Rattle.chunk_core.proofs.CoverFacts.{entry_adds, entry_word}
use Rattle.chunk_core.proofs.RoomLinks.{found_stands}
use Rattle.oak_core.specs.declared.states.PassState.{PassState}
use Rattle.oak_core.specs.EntryOwners.{is_key_word}
use Rattle.oak_core.specs.FoundKeys.{entry_key, pinned_key}
use Rattle.oak_core.specs.KeyHistories.{IsKeyOf}
use Rattle.oak_core.specs.KeyReads.{word_now}
use Rattle.oak_core.specs.Memory.{Memory}
use Rattle.oak_core.specs.PassState.{rooms_held}
use Rattle.oak_core.proofs.keyed.KeyPlaces.{word_is_key, key_word_few}

-- the entry that has the number
pub numbered : (i : ℕ) (es : List FoundEntry) (key : List ℕ) → entry_key i es ≡ Some key → (e : FoundEntry) × Has e es × (e.number ≡ i) × (key_bytes e.word e.words ≡ key)
unfolding entry_key
numbered i [] key e = absurd (none-some key e)
numbered i (x ∷ xs) key e = test-cases (x.number == i) (λ t. cond t (Some (key_bytes x.word x.words)) (entry_key i xs) ≡ Some key → (e : FoundEntry) × Has e (x ∷ xs) × (e.number ≡ i) × (key_bytes e.word e.words ≡ key))
    (λ s q. (x, inl refl, eqb-true x.number i s, same_Some (key_bytes x.word x.words) key q)) (λ _ q. let t = numbered i xs key q in (t.0, inr t.1, t.2, t.3)) e

-- the key of an entry that was found is the one by its number, where those found stand
key_from : (links : List ℕ) (word : ℕ → ℕ) (content : ℕ → List ℕ) (i : ℕ) (e : FoundEntry) → EntryStands links word content e → e.number ≡ i → (es : List FoundEntry) → Each (EntryStands links word content) es → Has e es → entry_key i es ≡ Some (key_bytes e.word e.words)
unfolding entry_key
key_from links word content i e stands is [] all has = absurd has
key_from links word content i e stands is (x ∷ xs) all has = dite (ℕ_discrete x.number i)
    (λ same. let w : x.word ≡ e.word = sym all.0.word ∙ (ap word (same ∙ sym is) ∙ stands.word) in let ws : x.words ≡ e.words = sym all.0.words ∙ (ap content w ∙ stands.words) in
    ap (λ (t : Bool). cond t (Some (key_bytes x.word x.words)) (entry_key i xs)) (eq-eqb x.number i same) ∙ (λ j. Some (key_bytes (w j) (ws j))))
    (λ ne. ap (λ (t : Bool). cond t (Some (key_bytes x.word x.words)) (entry_key i xs)) (ne_eqb x.number i ne)
    ∙ key_from links word content i e stands is xs all.1 (⊎_elim (λ (q : e ≡ x). absurd (ne (sym (ap (λ (y : FoundEntry). y.number) q) ∙ is))) (λ (q : Has e xs). q) has))

pub entry_key_is : (z : Sizes) (m : RoomMemory) (content : ℕ → List ℕ) (p : PinnedRoom) → RoomPinHolds z m content p → (i : ℕ) (e : FoundEntry) → Has e (found_in p) → e.number ≡ i → entry_key i (found_in p) ≡ Some (key_bytes e.word e.words)
entry_key_is z m content p holds i e has is = key_from (linked m p.room) (m.key p.room) content i e (found_stands z m content p holds e has) is (found_in p) (each_append (EntryStands (linked m p.room) (m.key p.room) content) p.entries p.walked holds.entries holds.walked) has

-- the key of an entry of the pinned room
pub found_key_is : (r i : ℕ) (o : Option PinnedRoom) (p : PinnedRoom) (key : List ℕ) → o ≡ Some p → p.room ≡ r → IsGoodRoom p → entry_key i (found_in p) ≡ Some key → pinned_key r i o ≡ Some key
found_key_is r i o p key is room good e = ap (pinned_key r i) is ∙ (ap (λ (t : Bool). cond t (entry_key i (found_in p)) None) (true_both (p.room == r) (state_of p.found == OPEN) (eq-eqb p.room r room) (eq-eqb (state_of p.found) OPEN good)) ∙ e)

module _ (z : Sizes) (m : Memory) (vs : List PassState) (rooms : RoomsStand z m.rooms (content m.arena.bytes) (map rooms_held vs)) (parts : CoversPartition z m.rooms (content m.arena.bytes) is_key_word (map rooms_held vs))
    (seat : ℕ) (v : PassState) (here : get_elem? vs seat ≡ some v) (p : PinnedRoom) (is : v.rooms.pin ≡ Some p) (good : IsGoodRoom p) where
  pub pin_holds : RoomPinHolds z m.rooms (content m.arena.bytes) p
  pin_holds = subst (OnRoomPin (λ q. IsGoodRoom q → RoomPinHolds z m.rooms (content m.arena.bytes) q)) is (rooms.good seat v.rooms (at_map rooms_held vs seat v here)) good

  module _ (i : ℕ) (key : List ℕ) (found : entry_key i (found_in p) ≡ Some key) where
    entry : (e : FoundEntry) × Has e (found_in p) × (e.number ≡ i) × (key_bytes e.word e.words ≡ key)
    entry = numbered i (found_in p) key found

    stands : EntryStands (linked m.rooms p.room) (m.rooms.key p.room) (content m.arena.bytes) entry.0
    stands = found_stands z m.rooms (content m.arena.bytes) p pin_holds entry.0 entry.1

    pub linked_once : total (λ j. one_at j i) (linked m.rooms p.room) ≡ 1
    linked_once = ap (λ (n : ℕ). total (λ j. one_at j n) (linked m.rooms p.room)) (sym entry.2) ∙ stands.linked

    key_word : m.rooms.key p.room i ≡ entry.0.word
    key_word = ap (m.rooms.key p.room) (sym entry.2) ∙ stands.word

    pub key_there : key_at (content m.arena.bytes) (m.rooms.key p.room i) ≡ key_number key
    unfolding key_in
    key_there = ap (key_at (content m.arena.bytes)) key_word ∙ (ap (key_in entry.0.word) stands.words ∙ ap key_number entry.3)

    -- the value word is that of the key's entry
    pub value_there : word_now z m vs (key_number key) ≡ m.rooms.value p.room i + 1
    value_there = entry_word z m.rooms (content m.arena.bytes) (map rooms_held vs) parts.once p.room i (key_number key) pin_holds.inside pin_holds.cover linked_once key_there

    pub pinned_there : pinned_key p.room i v.rooms.pin ≡ Some key
    pinned_there = found_key_is p.room i v.rooms.pin p key is refl good found

    names_it : is_key_word entry.0.word ≡ 1
    names_it = let a = entry_adds z m.rooms (content m.arena.bytes) (map rooms_held vs) (λ s y. 1 - is_key_word y.word) p.room i pin_holds.inside pin_holds.cover linked_once in
        let none = parts.placed in let few = key_word_few entry.0.word in let same : is_key_word (m.rooms.key p.room i) ≡ is_key_word entry.0.word = ap is_key_word key_word in omega arith

    words_long : length entry.0.words ≡ block_words (class_in entry.0.word)
    words_long = ap length (sym stands.words) ∙ rows_length 0 (block_words (class_in entry.0.word)) (m.arena.bytes (class_in entry.0.word) (block_in entry.0.word))

    pub is_key_there : IsKeyOf (key_number key) key
    unfolding key_in
    is_key_there = subst (λ (k : List ℕ). IsKeyOf (key_number k) k) entry.3 (word_is_key entry.0.word entry.0.words names_it words_long)
