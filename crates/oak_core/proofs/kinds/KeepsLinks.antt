-- A pass that links the entry that it has claimed keeps the rule: the entry is one of the room's linked ones from then on, with the base as its floor, and the pass has found it.
use Rattle.std.proofs.Common.{◌≡◌, ℕ, ◌+◌, ◌-◌, ◌^◌, ◌<◌, ◌⊎◌, ◌==◌, cond, false, List, [], ◌∷◌, map, set, get_or, sym, refl, ap, ◌∙◌, subst, arith, inl, inr, ⊎_elim, Option, Some, None}
use prog.Atomic.{either}
use mathlib.Core.Option.{some}
use lib.ListN.{get_elem?}
use Rattle.oak_model.specs.Counts.{Has, one_at, total}
use Rattle.oak_model.specs.Kept.{KeptNumbersStand}
use Rattle.oak_model.specs.Limits.{Sizes}
use Rattle.oak_model.proofs.Changes.{stepped}
use Rattle.oak_model.proofs.Counting.{decided}
use Rattle.oak_model.proofs.KeptLaws.{kept_unkept}
use Rattle.oak_model.proofs.Lists.{map_set, map_set_same}
use Rattle.arena_core.specs.declared.blocks.HeldBlocks.{HeldBlocks}
use Rattle.arena_core.specs.Blocks.{BlocksAreOwned}
use Rattle.arena_core.specs.Place.{content, names_block}
use Rattle.header_core.specs.declared.holds.HeaderHolds.{HeaderHolds}
use Rattle.chunk_core.specs.declared.holds.Claim.{Claim}
use Rattle.chunk_core.specs.declared.holds.FoundEntry.{FoundEntry}
use Rattle.chunk_core.specs.declared.holds.PinnedRoom.{PinnedRoom}
use Rattle.chunk_core.specs.declared.holds.RoomHolds.{RoomHolds}
use Rattle.chunk_core.specs.CoverSums.{all_of}
use Rattle.chunk_core.specs.Covers.{Cover, key_at, span_in}
use Rattle.chunk_core.specs.KeptRooms.{kept_of_rooms}
use Rattle.chunk_core.specs.KeyWords.{key_in}
use Rattle.chunk_core.specs.LinkWords.{link_spot, link_word}
use Rattle.chunk_core.specs.LinkedEntries.{entries_in, linked}
use Rattle.chunk_core.specs.MayOnRooms.{ComesFrom, GoesTo}
use Rattle.chunk_core.specs.PinnedRooms.{found_in, found_key, RoomPinHolds}
use Rattle.chunk_core.specs.RoomReads.{found_at}
use Rattle.chunk_core.specs.RoomRule.{ClaimStands, IsInOrder}
use Rattle.chunk_core.specs.RoomStep.{link_entry, of_value, put_room}
use Rattle.chunk_core.specs.Rooms.{RoomMemory, read_room, same_room_spot}
use Rattle.chunk_core.specs.RoomsAfter.{linked_pin}
use Rattle.chunk_core.specs.Spans.{within}
use Rattle.chunk_core.proofs.ChainLinks.{IsAbove, IsReachedFrom, link_of, none_between}
use Rattle.chunk_core.proofs.Claims.{claim_stands}
use Rattle.chunk_core.proofs.CountLoads.{pin_holds, span_same}
use Rattle.chunk_core.proofs.CoverLaws.{moves}
use Rattle.chunk_core.proofs.EntryNumbers.{few_entries}
use Rattle.chunk_core.proofs.GainedEntries.{GainsEntry, IsNewEntry, more_partition}
use Rattle.chunk_core.proofs.KeptClaims.{kept_linked}
use Rattle.chunk_core.proofs.LinkEntry.{LinksMore, firsts_with, link_rooms, links_gain, links_more, nexts_with, put_link}
use Rattle.chunk_core.proofs.LinkLoads.{link_read}
use Rattle.chunk_core.proofs.OwnEntry.{unlinked}
use Rattle.chunk_core.proofs.RoomLinks.{found_key_is, found_stands}
use Rattle.chunk_core.proofs.RoomOwners.{owners_idle}
use Rattle.oak_core.specs.declared.states.PassState.{PassState}
use Rattle.oak_core.specs.EntryOwners.{all_others, is_key_word}
use Rattle.oak_core.specs.Finding.{finding}
use Rattle.oak_core.specs.Known.{known}
use Rattle.oak_core.specs.Memory.{Memory, in_rooms, index, memory, read, same_spot, write}
use Rattle.oak_core.specs.Owners.{HeadersAreHeld}
use Rattle.oak_core.specs.PassState.{blocks_of, headers_held, kept_of, knowledge_of, rooms_held}
use Rattle.oak_core.specs.Rule.{ClaimHasKey, Rule}
use Rattle.oak_core.specs.Step.{on_rooms, MayLinkEntry, state_after, table_after}
use Rattle.oak_core.specs.TableState.{TableState}
use Rattle.oak_core.proofs.calls.Growing.{swept_grows}
use Rattle.oak_core.proofs.covers.ClaimedEntries.{claimed_key, claimed_next, claimed_value}
use Rattle.oak_core.proofs.covers.PinExchanges.{still}
use Rattle.oak_core.proofs.covers.RoomBundles.{RoomBundles}
use Rattle.oak_core.proofs.histories.CallersKept.{without_hand}
use Rattle.oak_core.proofs.keyed.GainedKeys.{gain_bundles}
use Rattle.oak_core.proofs.keyed.KeyBundles.{KeyBundles, keys_idle, keys_now}
use Rattle.oak_core.proofs.kinds.Keeps.{elsewhere_rule}
use Rattle.oak_core.proofs.kinds.KeepsRoomPins.{at_rooms}
use Rattle.oak_core.proofs.known.PinsKnown.{pins_same}
use Rattle.oak_core.proofs.memory.Words.{memory_read, read-write}
use Rattle.oak_core.proofs.owners.KeptWords.{times_in_rooms, unkept_by_all}

module _ (z : Sizes) (s : TableState) (seat : ℕ) (v : PassState) (r : Rule z s) (here : get_elem? s.states seat ≡ some v) (k : ℕ) (from : Option ℕ) (i old : ℕ) (may : MayLinkEntry z k from i old v) where
  abbrev m : Memory
  m = memory z s.words

  abbrev bytes : ℕ → List ℕ
  bytes = content m.arena.bytes

  abbrev hs : List RoomHolds
  hs = map rooms_held s.states

  own : get_elem? hs seat ≡ some v.rooms
  own = at_rooms z s seat v r here

  abbrev p : PinnedRoom
  p = may.rooms.pinned

  abbrev c : Claim
  c = may.rooms.claim

  -- the key of the claimed entry, as the pass knows it
  abbrev new_key : ℕ
  new_key = key_in c.entry.word c.words

  -- the keys of the room's entries
  abbrev key : ℕ → ℕ
  key n = key_at bytes (m.rooms.key p.room n)

  holds : RoomPinHolds z m.rooms bytes p
  holds = pin_holds z m.rooms bytes is_key_word hs r.rooms r.covers seat v.rooms own p may.rooms.has.pin.is may.rooms.has.pin.good

  order : IsInOrder z bytes (m.rooms.count p.room) (m.rooms.key p.room) (m.rooms.value p.room) (linked m.rooms p.room) (m.rooms.low p.room 0) (m.rooms.high p.room 0)
  order = r.rooms.ordered p.room holds.cover

  on_room : c.room ≡ p.room
  on_room = may.rooms.has.room ∙ sym may.rooms.has.pin.room

  stands : ClaimStands m.rooms bytes c
  stands = claim_stands z m.rooms bytes hs r.rooms seat v.rooms c own may.rooms.has.is

  -- the entry is in use, and not linked
  low : c.number < entries_in (m.rooms.count p.room)
  low = subst (λ (t : ℕ). c.number < entries_in (m.rooms.count t)) on_room stands.inside

  free : total (λ j. one_at j c.number) (linked m.rooms p.room) ≡ 0
  free = subst (λ (t : ℕ). total (λ j. one_at j c.number) (linked m.rooms t) ≡ 0) on_room (unlinked z m.rooms bytes is_key_word hs r.rooms r.covers seat v.rooms own c may.rooms.has.is of_value 0)

  -- its words
  key_word : m.rooms.key p.room c.number ≡ c.entry.word
  key_word = subst (λ (t : ℕ). m.rooms.key t c.number ≡ c.entry.word) on_room (claimed_key z s r seat v.rooms c own may.rooms.has.is)

  floor : m.rooms.value p.room c.number ≡ m.rooms.base p.room
  floor = subst (λ (t : ℕ). m.rooms.value t c.number ≡ c.entry.value) on_room (claimed_value z s r seat v.rooms c own may.rooms.has.is) ∙ (may.rooms.floor ∙ sym holds.base)

  goes_on : m.rooms.next p.room c.number ≡ old
  goes_on = subst (λ (t : ℕ). m.rooms.next t c.number ≡ c.entry.next) on_room (claimed_next z s r seat v.rooms c own may.rooms.has.is) ∙ may.rooms.goes_on

  key_is : key c.number ≡ new_key
  key_is = ap (key_at bytes) key_word ∙ ap (key_in c.entry.word) (stands.words may.rooms.some_key)

  -- what the link is of is linked, and its key below
  comes : (o : Option ℕ) → ComesFrom o new_key p → IsReachedFrom (m.rooms.next p.room) (m.rooms.first p.room) o × IsAbove key o (key c.number)
  comes None h = (tt, tt)
  comes (Some q) h = (
    subst (λ (t : ℕ). total (λ j. one_at j t) (linked m.rooms p.room) ≡ 1) h.2 (found_stands z m.rooms bytes p holds h.0 h.1).linked,
    subst (λ (t : ℕ × ℕ). t.0 < t.1) (λ n. ((found_key_is z m.rooms bytes p holds h.0 h.1 ∙ ap key h.2) n, sym key_is n)) h.3,
  )

  -- what it names has a key above
  goes : GoesTo old new_key p → (old ≡ 0) ⊎ (key c.number < key (old - 1))
  goes = ⊎_elim (λ (e : old ≡ 0). inl e) (λ (h : (e : FoundEntry) × Has e (found_in p) × (e.number + 1 ≡ old) × (new_key < found_key e)).
      let n : h.0.number ≡ old - 1 = (let q = h.2 in omega arith) in inr (subst (λ (t : ℕ × ℕ). t.0 < t.1) (λ q. (sym key_is q, (found_key_is z m.rooms bytes p holds h.0 h.1 ∙ ap key n) q)) h.3))

  inside_there : within (span_in m.rooms p.room) (key c.number) ≡ 1
  inside_there = (λ q. within (span_same z m.rooms bytes p holds q) (key_is q)) ∙ may.rooms.inside

  -- what stands behind the step, where the words of the rooms are these, and the pass has this of rooms
  record LinksBy (rm : RoomMemory) (b : RoomHolds) : Type 0 where
    bundles : RoomBundles z rm m.arena.bytes (set hs seat b)
    blocks : BlocksAreOwned z m.arena.bits (all_others z (record m { rooms = rm }) (set hs seat b)) (map blocks_of s.states)
    keys : (u : PassState) → u.rooms ≡ b → u.headers ≡ v.headers → u.knowledge ≡ v.knowledge → without_hand u.numbers ≡ without_hand v.numbers → KeyBundles z (record m { rooms = rm }) (set s.states seat u)
    key : ClaimHasKey b.claim

  -- the link is what the pass stored to the entry
  module _ (is_old : link_word m.rooms p.room from ≡ old) where
    link_is : link_of (m.rooms.next p.room) (m.rooms.first p.room) from ≡ old
    link_is = sym (link_read m.rooms p.room from) ∙ is_old

    before : (link_of (m.rooms.next p.room) (m.rooms.first p.room) from ≡ 0) ⊎ (key c.number < key (link_of (m.rooms.next p.room) (m.rooms.first p.room) from - 1))
    before = subst (λ (t : ℕ). (t ≡ 0) ⊎ (key c.number < key (t - 1))) (sym link_is) (goes may.rooms.before)

    abbrev f : ℕ → ℕ
    f = firsts_with m.rooms p.room from (c.number + 1)

    abbrev g : ℕ → ℕ → ℕ
    g = nexts_with m.rooms p.room from (c.number + 1)

    abbrev rm : RoomMemory
    rm = record m.rooms { first = firsts_with m.rooms p.room from (c.number + 1); next = nexts_with m.rooms p.room from (c.number + 1) }

    links : LinksMore m.rooms bytes p.room c.number f g
    links = links_more m.rooms bytes p.room c.number order.used order.rises free low from (comes from may.rooms.behind).0 (goes_on ∙ sym link_is) (comes from may.rooms.behind).1 before

    gains : GainsEntry m.rooms rm bytes p.room c.number
    gains = links_gain m.rooms bytes p.room c.number f g links

    entry : IsNewEntry is_key_word m.rooms bytes p.room c.number
    entry = record {
      is_key = ap is_key_word key_word ∙ may.rooms.is_key;
      inside = inside_there;
      new = none_between (entries_in (m.rooms.count p.room)) (few_entries (m.rooms.count p.room)) key (m.rooms.next p.room) (m.rooms.first p.room) order.used order.rises from (key c.number) (comes from may.rooms.behind).0 (comes from may.rooms.behind).1 before;
    }

    abbrev b : RoomHolds
    b = record v.rooms { claim = None; pin = Some (record p { walked = found_at m.rooms bytes p.room c.number ∷ p.walked }) }

    abbrev hs' : List RoomHolds
    hs' = set hs seat b

    still_moving : (F : Cover → ℕ) → total (moves F) (b ∷ []) ≡ total (moves F) (v.rooms ∷ [])
    unfolding total
    still_moving F = refl

    owners : (d n : ℕ) → all_others z (record m { rooms = rm }) hs' d n ≡ all_others z m hs d n
    owners d n = let e = owners_idle z m.rooms bytes hs seat v.rooms b own refl (names_block d n) in omega arith

    linked_there : LinksBy rm b
    linked_there = record {
      bundles = record {
        rooms = link_rooms z m.rooms bytes hs r.rooms seat v.rooms own p may.rooms.has.pin.is may.rooms.has.pin.good c may.rooms.has.is on_room f g links;
        covers = more_partition z m.rooms rm bytes is_key_word hs hs' (v.rooms ∷ []) (b ∷ []) r.covers (stepped hs seat v.rooms b own) still_moving p.room c.number holds.inside holds.cover gains entry;
        kept = subst (λ (t : RoomMemory). KeptNumbersStand same_room_spot (read_room t) (map kept_of_rooms hs')) (put_link m.rooms p.room from (c.number + 1))
            (subst (KeptNumbersStand same_room_spot (read_room (put_room m.rooms (link_spot p.room from) (c.number + 1)))) (sym (map_set kept_of_rooms hs seat b))
            (kept_linked z m.rooms bytes hs r.rooms r.kept_in_rooms seat v.rooms own p.room from (c.number + 1) b.pin holds.cover (comes from may.rooms.behind).0));
      };
      blocks = record {
        owned = λ d n. let e = owners d n in let w = r.blocks.owned d n in omega arith;
        inside = λ d n le. let e = owners d n in let w = r.blocks.inside d n le in omega arith;
        whole = r.blocks.whole;
      };
      keys = λ u rooms headers knowledge numbers. gain_bundles z m is_key_word s.states r.covers (keys_now z s r) seat v u here p.room c.number holds.inside holds.cover rm gains entry floor (ap (λ (a : RoomHolds). a.moving) rooms) headers knowledge numbers
          (pins_same v u (ap (λ (a : HeaderHolds). a.pin) headers) knowledge (r.heard.pins seat v here));
      key = tt;
    }

  -- where the link is the one that the pass stored to the entry, the entry is linked
  hit : link_word m.rooms k from ≡ old → LinksBy (put_room m.rooms (link_spot k from) (i + 1)) (record v.rooms { claim = None; pin = linked_pin m.rooms bytes k i v.rooms.pin })
  hit e = subst (λ (t : ℕ × ℕ × Option PinnedRoom). LinksBy (put_room m.rooms (link_spot t.0 from) (t.1 + 1)) (record v.rooms { claim = None; pin = linked_pin m.rooms bytes t.0 t.1 t.2 })) (λ q. (may.rooms.has.pin.room q, may.rooms.has.number q, sym may.rooms.has.pin.is q))
      (subst (λ (t : RoomMemory). LinksBy t (record v.rooms { claim = None; pin = Some (record p { walked = found_at m.rooms bytes p.room c.number ∷ p.walked }) })) (sym (put_link m.rooms p.room from (c.number + 1)))
      (linked_there (ap (λ (t : ℕ). link_word m.rooms t from) may.rooms.has.pin.room ∙ e)))

  -- and else nothing changes
  missed : LinksBy (put_room m.rooms (link_spot k from) (link_word m.rooms k from)) v.rooms
  missed = let b = still z s seat v r here (link_spot k from) in record {
    bundles = b.bundles;
    blocks = b.blocks;
    keys = λ u rooms headers knowledge numbers. keys_idle z m (record m { rooms = put_room m.rooms (link_spot k from) (link_word m.rooms k from) }) s.states seat v u here (keys_now z s r)
        (λ F. ap (λ (rs : List RoomHolds). all_of z (put_room m.rooms (link_spot k from) (link_word m.rooms k from)) bytes rs F) (map_set rooms_held s.states seat u ∙ ap (set hs seat) rooms) ∙ b.covers F) numbers knowledge refl headers (λ h _. refl)
        (pins_same v u (ap (λ (a : HeaderHolds). a.pin) headers) knowledge (r.heard.pins seat v here));
    key = (r.passes seat v here).claim;
  }

  either_way : LinksBy (put_room m.rooms (link_spot k from) (either (link_word m.rooms k from == old) (i + 1) (link_word m.rooms k from)))
      (record v.rooms { claim = cond (link_word m.rooms k from == old) None v.rooms.claim; pin = cond (link_word m.rooms k from == old) (linked_pin m.rooms bytes k i v.rooms.pin) v.rooms.pin })
  either_way = decided (link_word m.rooms k from) old (λ t. LinksBy (put_room m.rooms (link_spot k from) (either t (i + 1) (link_word m.rooms k from))) (record v.rooms { claim = cond t None v.rooms.claim; pin = cond t (linked_pin m.rooms bytes k i v.rooms.pin) v.rooms.pin })) hit (λ _. missed)

  word_is : link_word m.rooms k from ≡ get_or s.words (index z (in_rooms (link_spot k from))) 0
  word_is = memory_read z s.words (in_rooms (link_spot k from)) may.inside

  small : let n = get_or s.words (index z (in_rooms (link_spot k from))) 0 in either (n == old) (i + 1) n < 2 ^ 64
  small = let n : ℕ = get_or s.words (index z (in_rooms (link_spot k from))) 0 in
      decided n old (λ t. either t (i + 1) n < 2 ^ 64) (λ _. let l = low in let f = few_entries (m.rooms.count p.room) in let e = may.rooms.has.number in omega arith) (λ _. r.words.small (index z (in_rooms (link_spot k from))))

  module _ (call : ℕ) (going : v.numbers.spent ≡ false) where
    pub link_entry_keeps : Rule z (table_after z call (on_rooms (link_entry k from i old)) seat v s)
    link_entry_keeps = let n : ℕ = get_or s.words (index z (in_rooms (link_spot k from))) 0 in let w : PassState = state_after z call (on_rooms (link_entry k from i old)) s v in let x : ℕ = either (n == old) (i + 1) n in let y : Memory = write m (in_rooms (link_spot k from)) x in
        let o = subst (λ (t : ℕ). LinksBy (put_room m.rooms (link_spot k from) (either (t == old) (i + 1) t)) w.rooms) word_is either_way in
        elsewhere_rule z s call seat v r here going (on_rooms (link_entry k from i old)) (finding z call (in_rooms (link_spot k from)) (Some n) x s.words v) may.inside small refl refl (record { met = refl; swept = swept_grows (link_entry k from i old) v; fulls = refl }) refl refl
        (subst (λ (bs : List HeldBlocks). BlocksAreOwned z m.arena.bits (all_others z y (map rooms_held (set s.states seat w))) bs) (sym (map_set_same blocks_of s.states seat v w here refl))
        (subst (λ (rs : List RoomHolds). BlocksAreOwned z m.arena.bits (all_others z y rs) (map blocks_of s.states)) (sym (map_set rooms_held s.states seat w)) o.blocks))
        (subst (λ (hh : List HeaderHolds). HeadersAreHeld m.headers m.arena.bytes (known (map knowledge_of s.states)) hh) (sym (map_set_same headers_held s.states seat v w here refl)) r.headers)
        (subst (RoomBundles z y.rooms m.arena.bytes) (sym (map_set rooms_held s.states seat w)) o.bundles)
        (o.keys w refl refl refl refl)
        (subst (KeptNumbersStand same_spot (read y)) (sym (map_set_same kept_of s.states seat v w here refl))
        (kept_unkept same_spot (read m) (read y) (in_rooms (link_spot k from)) x (λ q. read-write m (in_rooms (link_spot k from)) q x) (map kept_of s.states) (unkept_by_all (in_rooms (link_spot k from)) (times_in_rooms (link_spot k from)) s.states) r.kept))
        (record { pin = (r.passes seat v here).pin; whole = (r.passes seat v here).whole; claim = o.key })
