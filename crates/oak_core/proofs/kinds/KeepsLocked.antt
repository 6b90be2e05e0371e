-- A store to a word of the block of a locked header keeps the rule.
use Rattle.std.proofs.Common.{◌≡◌, ℕ, ◌+◌, ◌*◌, ◌/◌, ◌%◌, ◌<◌, true, false, List, map, set, sym, refl, ap, ◌∙◌, subst, arith, eq-eqb, ne_eqb, None, Some}
use mathlib.Core.Option.{some}
use mathlib.Core.Logic.{dite}
use native.Mathlib.Decide.{ℕ_discrete, dec_lt}
use lib.ListN.{get_elem?}
use Rattle.pin_word.specs.PinWord.{state_of}
use Rattle.oak_model.specs.Limits.{Sizes}
use Rattle.oak_model.specs.Class.{class_number}
use Rattle.std.proofs.lemmas.Nat.Bits.{bit_at-lt}
use Rattle.oak_model.specs.Counts.{one_if, total, Each, Has}
use Rattle.oak_model.specs.Kept.{keeps, KeptNumbersStand}
use Rattle.oak_model.specs.declared.classes.Class.{Class}
use Rattle.oak_model.proofs.Counting.{test-cases}
use Rattle.oak_model.proofs.Lists.{map_set, map_set_same}
use Rattle.arena_core.specs.Arena.{at_bytes, same_arena_spot, blocks, block_words}
use Rattle.arena_core.specs.HeldBlocks.{kept_of_blocks}
use Rattle.arena_core.specs.Blocks.{is_block, holds, IsWhole, BlocksAreOwned}
use Rattle.arena_core.specs.Place.{IsPlace, class_in, block_in, class_from, names_block, content}
use Rattle.arena_core.proofs.BlockSums.{only}
use Rattle.arena_core.proofs.HeldLists.{here, is_block-is, is_block-true}
use Rattle.arena_core.proofs.KeptBlocks.{keeps_most, keeps_some}
use Rattle.arena_core.proofs.PlaceLaws.{class_below, class_number-from}
use Rattle.header_core.specs.declared.states.TheConstants.{LIVE, LOCKED}
use Rattle.header_core.specs.declared.holds.HeldHeader.{HeldHeader}
use Rattle.header_core.specs.declared.holds.HeaderHolds.{HeaderHolds}
use Rattle.header_core.specs.declared.holds.PinnedHeader.{PinnedHeader}
use Rattle.header_core.specs.HeaderHolds.{held_state, fresh_at, place_held}
use Rattle.header_core.specs.HeaderRule.{stocked, IsGood, PinHolds, GoodPinHolds, PinsWhatItKnows, HeadersStand}
use Rattle.header_core.proofs.HeaderFacts.{held_is, record_of, true_numbers}
use Rattle.header_core.proofs.StockedStates.{stocked_high}
use Rattle.header_core.proofs.HeaderLaws.{on_pin, reworded_keeps}
use Rattle.header_core.proofs.HeldChanges.{fresh_reworded, rows_reworded}
use Rattle.oak_model.proofs.MemberLaws.{total_has, each_has}
use Rattle.header_core.proofs.HeldHeaders.{rows_have}
use Rattle.chunk_core.specs.declared.holds.RoomHolds.{RoomHolds}
use Rattle.oak_core.specs.declared.states.PassState.{PassState}
use Rattle.oak_core.specs.Memory.{Memory, Spot, in_arena, IsInside, memory, read, same_spot, write}
use Rattle.oak_core.specs.Finding.{finding}
use Rattle.oak_core.specs.Known.{knows_life}
use Rattle.oak_core.proofs.owners.WholeRecords.{whole_reworded, whole_blocks}
use Rattle.oak_core.specs.EntryOwners.{entry_owners, all_others}
use Rattle.oak_core.specs.Owners.{has_block, block_of_header, header_blocks, IsWholeHeader, HeadersAreHeld}
use Rattle.oak_core.specs.PassState.{blocks_of, headers_held, rooms_held, kept_of}
use Rattle.oak_core.specs.Rule.{Rule}
use Rattle.oak_core.specs.Step.{store_locked, LocksBlock, MayStoreLocked, state_after, table_after}
use Rattle.oak_core.specs.TableState.{TableState}
use Rattle.oak_core.proofs.owners.HeaderSums.{held_in_state}
use Rattle.oak_core.proofs.owners.HeaderWeights.{header_weight, weigh_headers}
use Rattle.oak_core.proofs.held.HeaderStanding.{knows, stand, parts, at_headers}
use Rattle.oak_core.proofs.owners.HeadersInArena.{live_stocked, names_named, other_content, shown_still, pin_fact}
use Rattle.oak_core.proofs.owners.EntryBlocks.{bytes_stored, sums_stored, owned_whatever}
use Rattle.oak_core.proofs.kinds.Keeps.{met_only, of_rooms, elsewhere_rule}
use Rattle.oak_core.proofs.covers.RoomBundles.{RoomBundles}
use Rattle.oak_core.proofs.owners.KeptInLocked.{Agrees, locked_kept}
use Rattle.oak_core.proofs.owners.OneOwner.{two_headers, unowned_held, state_locked, place_locked, inside_locked, has_locked}
use Rattle.oak_core.proofs.owners.OwnerLaws.{live_inside, owner_counts, place_below}
use Rattle.oak_core.proofs.keyed.KeyBundles.{KeyBundles, keys_now, keys_framed, rooms_still}
use Rattle.oak_core.proofs.known.PinsKnown.{pins_same}
use Rattle.oak_core.proofs.held.RewordedKeys.{holds_reworded, unnamed_reworded}
use Rattle.oak_core.proofs.covers.UnlinksEntry.{each_all}

module _ (z : Sizes) (s : TableState) (seat : ℕ) (v : PassState) (r : Rule z s) (here_is : get_elem? s.states seat ≡ some v) (h : ℕ) (c : Class) (b : ℕ) (locks : LocksBlock h c b v.headers) where
  abbrev m : Memory
  m = memory z s.words

  abbrev hs : List HeaderHolds
  hs = map headers_held s.states

  abbrev n : ℕ
  n = class_number c

  inside : h < z.headers
  inside = inside_locked z s r seat v here_is h c b locks

  has : has_block m.headers n b h ≡ 1
  has = has_locked z s r seat v here_is h c b locks

  -- a header with the block is h
  only_header : (k : ℕ) → stocked (state_of (m.headers.pin k)) ≡ 1 → class_in (m.headers.place k) ≡ n → block_in (m.headers.place k) ≡ b → k ≡ h
  only_header k stock class block = two_headers z s r n b k h ((λ i. stock i * names_block n b (m.headers.place k)) ∙ (λ i. 1 * names_named n b (m.headers.place k) class block i)) has (live_inside z s.words k (omega arith)) inside

  -- a header that has a block is so in the table, and its place has one of the classes

  stock_of : (q : HeldHeader) → Has q v.headers.held → stocked (held_state q.held_as) ≡ 1 → stocked (state_of (m.headers.pin q.header)) ≡ 1
  stock_of q there one = let t = held_in_state q.held_as in ap stocked (held_is m.headers (content m.arena.bytes) IsPlace (knows s) hs (stand z s seat v r here_is) seat v.headers q.header (held_state q.held_as) (at_headers z s seat v r here_is) t.0 t.1 (rows_have q.header (held_state q.held_as) v.headers.held q there refl refl)) ∙ one

  place_of_it : (q : HeldHeader) → Has q v.headers.held → m.headers.place q.header ≡ q.place
  place_of_it q there = (true_numbers m.headers v.headers.held q (parts z s seat v r here_is).headers there).0

  class_of_it : (q : HeldHeader) → Has q v.headers.held → stocked (held_state q.held_as) ≡ 1 → class_number (class_from (class_in q.place)) ≡ class_in q.place
  class_of_it q there one = class_number-from (class_in q.place) (place_below q.place (subst IsPlace (place_of_it q there) ((stand z s seat v r here_is).placed q.header (let st = stock_of q there one in omega arith))))

  whole : Each IsWhole (header_blocks v.headers.held)
  whole = whole_blocks v.headers.held (λ q there one. each_has IsWholeHeader v.headers.held q (r.passes seat v here_is).whole there (omega arith) ∙ ap block_words (sym (class_of_it q there one)))

  agrees : (q : HeldHeader) → Has q v.headers.held → Agrees n b h q
  agrees q there one = let stock = stock_of q there one in let place = place_of_it q there in let class = class_of_it q there one in
      dite (ℕ_discrete q.header h)
      (λ e. let at_h : q.place ≡ place_held h v.headers.held = sym place ∙ (ap m.headers.place e ∙ place_locked z s r seat v here_is h c b locks) in
      is_block-true n b (block_of_header q) (class ∙ (ap class_in at_h ∙ locks.class)) (ap block_in at_h ∙ locks.block) ∙ sym (eq-eqb q.header h e))
      (λ ne. test-cases (is_block n b (block_of_header q)) (λ t. is_block n b (block_of_header q) ≡ t → t ≡ false)
      (λ is _. let p = is_block-is n b (block_of_header q) is in absurd (ne (only_header q.header stock (ap class_in place ∙ (sym class ∙ p.0)) (ap block_in place ∙ p.1)))) (λ _ _. refl) refl ∙ sym (ne_eqb q.header h ne))

  -- the pass keeps the block's words, with that header alone

  unkept : (k : ℕ) → keeps same_arena_spot (at_bytes n b k) (kept_of_blocks v.blocks.held) ≡ 0
  unkept k = let most = keeps_most n b k v.blocks.held in dite (dec_lt 0 (holds n b v.blocks)) (λ held. absurd (unowned_held z s r seat v here_is n b h held has inside)) (λ none. omega arith)

  in_blocks : 0 < total (here n b) (header_blocks v.headers.held)
  in_blocks = let x = record_of m.headers (content m.arena.bytes) IsPlace (knows s) hs (stand z s seat v r here_is) seat v.headers h LOCKED (at_headers z s seat v r here_is) locks.locked in
      let stock : stocked (held_state x.0.held_as) ≡ 1 = stocked_high (held_state x.0.held_as) (let e = x.3 in omega arith) (let e = x.3 in omega arith) in
      let is : is_block n b (block_of_header x.0) ≡ true = agrees x.0 x.1 stock ∙ eq-eqb x.0.header h x.2 in
      let one : header_weight (only n b) x.0 ≡ 1 = (λ i. stock i * one_if (is i)) in
      let t = total_has (header_weight (only n b)) v.headers.held x.0 x.1 in let e = weigh_headers (only n b) v.headers.held in omega arith

  -- a good pin has another block
  unpinned : (j : ℕ) (u : HeaderHolds) (p : PinnedHeader) → get_elem? hs j ≡ some u → u.pin ≡ Some p → IsGood p → ¬ ((class_in p.place ≡ n) × (block_in p.place ≡ b))
  unpinned j u p at is good same = let holds_it : PinHolds m.headers (content m.arena.bytes) p = pin_fact (GoodPinHolds m.headers (content m.arena.bytes)) u.pin p is (r.headers.good j u at) good in
      let live = holds_it.live in let e = only_header p.header (live_stocked (state_of (m.headers.pin p.header)) live) (ap class_in holds_it.place ∙ same.0) (ap block_in holds_it.place ∙ same.1) in
      let same_state = ap (λ (i : ℕ). state_of (m.headers.pin i)) e in let locked = state_locked z s r seat v here_is h c b locks in omega arith

  -- and no entry has it
  no_entry : entry_owners z m.rooms (content m.arena.bytes) (map rooms_held s.states) n b ≡ 0
  no_entry = let o = r.blocks.owned n b in let counts = owner_counts z m.headers h n b inside in let one = has in let l = bit_at-lt (m.arena.bits n (b / 64)) (b % 64) in omega arith

  module _ (call : ℕ) (going : v.numbers.spent ≡ false) (k x : ℕ) (may : MayStoreLocked h c b k x v.headers) where
    abbrev p : Spot
    p = in_arena (at_bytes n b k)

    abbrev w : PassState
    w = state_after z call (store_locked h c b k x) s v

    -- the word is one of the table's
    pub inside_it : IsInside z p
    inside_it = (class_below c, (dite (dec_lt b (blocks z n)) (λ l. l) (λ no. let o = r.blocks.inside n b (omega arith) in let counts = owner_counts z m.headers h n b inside in let one = has in absurd (omega arith))), may.word)

    stands : HeadersStand m.headers (content (write m p x).arena.bytes) IsPlace (knows s) (set hs seat w.headers)
    stands = reworded_keeps m.headers (content m.arena.bytes) (content (write m p x).arena.bytes) IsPlace (knows s) hs (stand z s seat v r here_is) seat v.headers (at_headers z s seat v r here_is) h k x
        (λ j u q at is good. other_content m n b k x q.place (unpinned j u q at is good))

    pin_known : PinsWhatItKnows (λ i g. knows_life i g v.knowledge) w.headers
    pin_known = on_pin (λ (q : PinnedHeader). 0 < fresh_at q.header q.wanted v.headers + knows_life q.header q.wanted v.knowledge) (λ (q : PinnedHeader). 0 < fresh_at q.header q.wanted w.headers + knows_life q.header q.wanted v.knowledge) v.headers.pin
        (λ q _ known_so. let f = fresh_reworded h k x q.header q.wanted v.headers.held in omega arith) (r.passes seat v here_is).pin

    -- no key shows the block: its header is locked, and no other has it
    keys_then : KeyBundles z (write m p x) (set s.states seat w)
    keys_then = keys_framed z m (write m p x) s.states seat v w here_is (keys_now z s r) (λ F. rooms_still z (write m p x) s.states seat v w here_is refl F ∙ sums_stored z s r n b k x no_entry F) refl refl (λ i. refl) (λ i _. refl)
        (λ i live. shown_still m n b k x i (λ same. let e = ap (λ (j : ℕ). state_of (m.headers.pin j)) (only_header i (live_stocked (state_of (m.headers.pin i)) live) same.0 same.1) in let l = state_locked z s r seat v here_is h c b locks in absurd (omega arith)))
        (λ i. rows_reworded h k x i LIVE v.headers.held) (λ i. unnamed_reworded h k x i v.headers) (λ word hist q. holds_reworded h k x word hist v.headers.held q) (pins_same v w refl refl (r.heard.pins seat v here_is))

    pub locked_keeps_it : Rule z (table_after z call (store_locked h c b k x) seat v s)
    locked_keeps_it = elsewhere_rule z s call seat v r here_is going (store_locked h c b k x) (finding z call p None x s.words v) inside_it may.small refl refl (met_only _ _) refl refl
        (of_rooms z s call seat v r here_is going w refl (λ (rs : List RoomHolds). BlocksAreOwned z m.arena.bits (all_others z (write m p x) rs) (map blocks_of (set s.states seat w)))
        (owned_whatever z m (at_bytes n b k) x (map rooms_held s.states) m.arena.bits (map blocks_of (set s.states seat w)) (subst (BlocksAreOwned z m.arena.bits (all_others z m (map rooms_held s.states))) (sym (map_set_same blocks_of s.states seat v w here_is refl)) r.blocks)))
        (subst (HeadersAreHeld m.headers (write m p x).arena.bytes (knows s)) (sym (map_set headers_held s.states seat w)) stands)
        (of_rooms z s call seat v r here_is going w refl (RoomBundles z m.rooms (write m p x).arena.bytes) (bytes_stored z s r n b k x no_entry))
        keys_then
        (subst (KeptNumbersStand same_spot (read (write m p x))) (sym (map_set kept_of s.states seat w))
        (locked_kept m s.states seat v here_is r.kept h n b k x (each_all (Agrees n b h) v.headers.held agrees) whole (unkept k) (keeps_some n b k (header_blocks v.headers.held) in_blocks may.word)))
        record { pin = pin_known; whole = whole_reworded h v.headers.held (r.passes seat v here_is).whole k x; claim = (r.passes seat v here_is).claim }

pub locked_keeps : (z : Sizes) (s : TableState) (call seat : ℕ) (v : PassState) → Rule z s → get_elem? s.states seat ≡ some v → v.numbers.spent ≡ false → (h : ℕ) (c : Class) (b k x : ℕ) → MayStoreLocked h c b k x v.headers → Rule z (table_after z call (store_locked h c b k x) seat v s)
locked_keeps z s call seat v r here going h c b k x may = locked_keeps_it z s seat v r here h c b may.block call going k x may
