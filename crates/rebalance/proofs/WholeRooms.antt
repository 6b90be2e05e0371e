-- A call came to hold a chunk, found a value in each of its entries, and each other room not free.
use Rattle.std.proofs.Common.{◌≡◌, ◌≢◌, ℕ, zero, suc, ◌+◌, ◌-◌, ◌*◌, ◌<◌, ◌≤◌, Bool, List, [], ◌∷◌, ◌++◌, length, map, refl, sym, ap, ◌∙◌, subst, arith, Some, eq-eqb, length-append}
use prog.Atomic.{either}
use mathlib.Core.Logic.{dite}
use mathlib.Core.Option.{some}
use lib.ListN.{get_elem?}
use native.Mathlib.Decide.{dec_lt}
use Rattle.pin_word.specs.PinWord.{STATE, state_of, count_of}
use Rattle.pin_word.proofs.StepLaws.{state_set}
use Rattle.arena_core.specs.Place.{content}
use Rattle.oak_model.specs.Counts.{Begins, Each, one_at, total}
use Rattle.oak_model.specs.KeyNumber.{key_number}
use Rattle.oak_model.specs.Limits.{Sizes}
use Rattle.oak_model.proofs.Lists.{at_last, at_longer, begins_trans, each_map}
use Rattle.chunk_core.specs.declared.holds.MovingRange.{MovingRange}
use Rattle.chunk_core.specs.declared.holds.RoomCopy.{RoomCopy}
use Rattle.chunk_core.specs.declared.states.TheConstants.{HELD}
use Rattle.chunk_core.specs.CoverSums.{weight}
use Rattle.chunk_core.specs.LinkedEntries.{entries_in, first_numbers, linked}
use Rattle.chunk_core.specs.RoomRule.{RoomsStand}
use Rattle.chunk_core.specs.RoomStep.{hold_room, room_effect}
use Rattle.chunk_core.specs.Rooms.{RoomMemory, at_room_pin, at_value}
use Rattle.chunk_core.specs.Spans.{within}
use Rattle.chunk_core.specs.ValueWord.{names_header}
use Rattle.chunk_core.proofs.Chains.{total_spread}
use Rattle.chunk_core.proofs.UsedEntries.{numbers_same}
use Rattle.chunk_core.proofs.Weights.{weight_frozen}
use Rattle.chunk_ops.proofs.PinSteps.{pin_found}
use Rattle.oak_core.specs.declared.sorting.SortSlot.{SortSlot}
use Rattle.oak_core.specs.declared.states.Finding.{Finding}
use Rattle.oak_core.specs.declared.states.PassState.{PassState}
use Rattle.oak_core.specs.CallSteps.{MetMore}
use Rattle.oak_core.specs.Finding.{finding}
use Rattle.oak_core.specs.FoundBehind.{FoundBehind}
use Rattle.oak_core.specs.Memory.{Memory, in_rooms, index, memory}
use Rattle.oak_core.specs.PassState.{rooms_held}
use Rattle.oak_core.specs.QuietSteps.{MetOnly}
use Rattle.oak_core.specs.RoomLacks.{ClaimedFull, ClaimsFull, FoundWhole, HeldFull, IsFullFor, RoomLackFound}
use Rattle.oak_core.proofs.calls.CallSteps.{met_both}
use Rattle.oak_core.proofs.memory.MetLists.{at_shorter, each_at, from_behind}
use Rattle.oak_core.proofs.calls.QuietCalls.{only_none}
use Rattle.oak_core.proofs.memory.Words.{memory_set}
use Rattle.rebalance.specs.declared.reading.Read.{Read}
use Rattle.rebalance.specs.declared.held_rooms.RoomWord.TheVariants.{Key, Value}
use Rattle.rebalance.specs.Copies.{copy_span}
use Rattle.rebalance.specs.Chunks.{HoldsFor, ReadsFront}
use Rattle.rebalance.specs.HeldTables.{AwayFromPins, SeesValue, away_both}
use Rattle.rebalance.specs.Holding.{ClaimsOthers, FindsNoneFree, IsAtAnother}
use Rattle.rebalance.specs.Mirrors.{copy_or, held_memory}
use Rattle.rebalance.proofs.ClaimedRooms.{used_longer, used_since}
use Rattle.rebalance.proofs.FrontCompacts.{count_is}
use Rattle.rebalance.proofs.FrontReads.{full_count, full_keyed, full_valued}
use Rattle.rebalance.proofs.FrontRewrites.{entries_limited}
use Rattle.rebalance.proofs.FrontRooms.{front_copy}
use Rattle.rebalance.proofs.HeldMemory.{word_read}
use Rattle.rebalance.proofs.MirroredRooms.{linked_once}
use Rattle.rebalance.proofs.OtherClaims.{another_away}

-- what the call met is no less
met_length : (call : ℕ) (v w : PassState) → MetMore call v w → length v.findings.met ≤ length w.findings.met
met_length call v w m = let e = ap length m.met in let l = length-append v.findings.met m.more in omega arith

first_many : (n : ℕ) → total (λ _. 1) (first_numbers n) ≡ n
unfolding total first_numbers
first_many zero = refl
first_many (suc n) = let t = first_many n in omega arith

none_of : (f : ℕ → ℕ) (xs : List ℕ) → Each (λ i. f i ≡ 0) xs → total f xs ≡ 0
unfolding total
none_of f [] h = refl
none_of f (x ∷ xs) h = let a = h.0 in let t = none_of f xs h.1 in omega arith

module _ (z : Sizes) (call r : ℕ) (key : List ℕ) (w : RoomCopy) (g : MovingRange) (v0 v : PassState) (p : HoldsFor z call key r w g v0 v) (u : PassState) (slots : List SortSlot) (x : Read) (reads : ReadsFront z call r slots x v u) (full : x.kept ≡ z.entries) where
  abbrev from : PassState
  from = p.came.step.from

  abbrev words : List ℕ
  words = p.came.step.told.table.words

  abbrev m : RoomMemory
  m = (memory z words).rooms

  abbrev left : ℕ
  left = room_effect (hold_room r p.came.old) p.came.step.number

  abbrev hold : Finding
  hold = finding z call (in_rooms (at_room_pin r)) (Some p.came.step.number) left words from

  hold_met : p.came.step.to.findings.met ≡ from.findings.met ++ hold ∷ []
  hold_met = let t = p.came.step.told in ap (λ (y : PassState). y.findings.met) t.after ∙ ap (λ (k : ℕ). from.findings.met ++ finding z call (in_rooms (at_room_pin r)) (Some k) (room_effect (hold_room r p.came.old) k) words from ∷ []) t.finds

  hold_length : length p.came.step.to.findings.met ≡ length from.findings.met + 1
  hold_length = let a = ap length hold_met in let l = length-append from.findings.met (hold ∷ []) in omega arith

  away : AwayFromPins z p.came.step.to u
  away = away_both z p.came.step.to v u p.still reads.works.away

  -- since then the call met more
  hold_longer : length from.findings.met < length u.findings.met
  hold_longer = let n = hold_length in let a = met_length call p.came.step.to v p.came.step.ended in let b = met_length call v u reads.works.stands.met in omega arith

  hold_left : state_of left ≡ HELD
  hold_left = let free = p.came.step.told.may.rooms.0 in let s = state_set p.came.old (let q = free.state in omega arith) in
      ap (λ (b : Bool). state_of (either b (p.came.old + STATE) p.came.step.number)) (eq-eqb p.came.step.number p.came.old p.came.found_is) ∙ (s.1 ∙ (let q = free.state in omega arith))

  many : entries_in (m.count r) ≡ z.entries
  many = let a = ap (λ (c : RoomCopy). entries_in c.count) p.copied in let f = p.front in let b = ap entries_in (count_is z (entries_limited z v f.moment) r w g v0.rooms.held v0.rooms.moving v f) in
      let c = full_count z call r w g v0.rooms.held v0.rooms.moving v f u slots x reads full in omega arith

  valued : (i : ℕ) → i < z.entries → names_header (m.value r i) ≡ 1
  valued i l = let f = p.front in let c = full_count z call r w g v0.rooms.held v0.rooms.moving v f u slots x reads full in
      sym (ap names_header (word_read z m r v.rooms.held (ap copy_or (front_copy z r w g v0.rooms.held v0.rooms.moving v f) ∙ p.copied) (Value i) l)) ∙ full_valued z call r w g v0.rooms.held v0.rooms.moving v f u slots x reads full i (omega arith)

  keyed : (i : ℕ) → i < z.entries → 0 < m.key r i
  keyed i l = let f = p.front in let c = full_count z call r w g v0.rooms.held v0.rooms.moving v f u slots x reads full in
      subst (λ (k : ℕ). 0 < k) (word_read z m r v.rooms.held (ap copy_or (front_copy z r w g v0.rooms.held v0.rooms.moving v f) ∙ p.copied) (Key i) l) (full_keyed z call r w g v0.rooms.held v0.rooms.moving v f u slots x reads full i (omega arith))

  -- the rule, where it was frozen without a pin

  abbrev rule : RoomsStand z m (content (memory z words).arena.bytes) (map rooms_held p.came.step.told.table.states)
  rule = p.came.step.told.rule.rooms

  found : m.pin r ≡ p.came.old
  found = let t = p.came.step.told in pin_found z call r (hold_room r p.came.old) refl from p.came.step.number p.came.step.to t t.may.inside.0 ∙ p.came.found_is

  cover : weight (m.pin r) ≡ 1
  cover = weight_frozen (m.pin r) (ap state_of found ∙ p.came.step.told.may.rooms.0.state)

  unpinned : count_of (m.pin r) ≡ 0
  unpinned = ap count_of found ∙ p.came.step.told.may.rooms.0.count

  -- each of its entries was linked
  linked_many : total (λ _. 1) (linked m r) ≡ entries_in (m.count r)
  linked_many = let n : ℕ = entries_in (m.count r) in total_spread (λ _. 1) n (linked m r) (rule.ordered r cover).used
      ∙ (numbers_same (λ i. total (λ j. one_at j i) (linked m r) * 1) (λ _. 1) n (λ i l. let e = many in let o = linked_once z m (content (memory z words).arena.bytes) (map rooms_held p.came.step.told.table.states) rule r cover unpinned i l (keyed i (omega arith)) in omega arith) ∙ first_many n)

  was_full : IsFullFor z (memory z hold.words).rooms r (key_number key)
  was_full = subst (λ (n : Memory). IsFullFor z n.rooms r (key_number key)) (sym (memory_set z words (in_rooms (at_room_pin r)) left p.came.step.told.rule.words.counted p.came.step.told.may.inside)) (record {
    covers = subst (λ (c : RoomCopy). within (copy_span c) (key_number key) ≡ 1) p.copied p.inside;
    full = linked_many ∙ many;
    values = none_of (λ (i : ℕ). 1 - names_header (m.value r i)) (linked m r) (each_map (λ (i : ℕ). i < entries_in (m.count r)) (λ (i : ℕ). 1 - names_header (m.value r i) ≡ 0) (linked m r) (λ i l. let n = many in let a = valued i (omega arith) in omega arith) (rule.ordered r cover).used);
  })

  -- Then it met nothing but pin words of other rooms, up to t, and more behind it.
  module _ (t : PassState) (others : MetOnly (IsAtAnother z r) u t) (e : PassState) (behind : Begins t.findings.met e.findings.met) where
    hold_begins : Begins p.came.step.to.findings.met e.findings.met
    hold_begins = let b = p.came.step.to in begins_trans b.findings.met t.findings.met e.findings.met (begins_trans b.findings.met u.findings.met t.findings.met (away.more, away.met) (others.more, others.met)) behind

    hold_there : get_elem? e.findings.met (length from.findings.met) ≡ some hold
    hold_there = let b = p.came.step.to in subst (λ (l : List Finding). get_elem? l (length from.findings.met) ≡ some hold) (sym hold_begins.1)
        (at_longer b.findings.met hold_begins.0 (length from.findings.met) hold (subst (λ (l : List Finding). get_elem? l (length from.findings.met) ≡ some hold) (sym hold_met) (at_last from.findings.met hold)))

    -- nothing else was met at the pin word
    hold_still : (i : ℕ) (f : Finding) → length from.findings.met < i → i < length t.findings.met → get_elem? e.findings.met i ≡ some f → f.word ≢ index z (in_rooms (at_room_pin r))
    hold_still i f lt below at = let b = p.came.step.to in let n = hold_length in
        let in_t : get_elem? (u.findings.met ++ others.more) i ≡ some f = subst (λ (l : List Finding). get_elem? l i ≡ some f) others.met (at_shorter t.findings.met behind.0 i f below (subst (λ (l : List Finding). get_elem? l i ≡ some f) behind.1 at)) in
        dite (dec_lt i (length u.findings.met))
        (λ l. each_at (λ (y : Finding). y.word ≢ index z (in_rooms (at_room_pin r))) away.more (away.away r p.front.inside) _ f
        (from_behind b.findings.met away.more i f (omega arith) (subst (λ (l : List Finding). get_elem? l i ≡ some f) away.met (at_shorter u.findings.met others.more i f l in_t))))
        (λ no. another_away z r f p.front.inside (each_at (IsAtAnother z r) others.more others.each _ f (from_behind u.findings.met others.more i f (omega arith) in_t)))

    -- so it held the chunk all the while, which was full when it came to hold it
    abbrev held_full : (to : ℕ) → length u.findings.met ≤ to → to ≤ length t.findings.met → HeldFull z (length v0.findings.met) to e.findings.met r (key_number key)
    held_full to after before = record {
      held = length from.findings.met;
      after = met_length call v0 from p.came.step.begun;
      order = let n = hold_longer in omega arith;
      hold = hold;
      there = hold_there;
      word_is = refl;
      number = p.came.step.number;
      found_is = refl;
      frozen = ap state_of p.came.found_is ∙ p.came.step.told.may.rooms.0.state;
      unpinned = ap count_of p.came.found_is ∙ p.came.step.told.may.rooms.0.count;
      left_is = hold_left;
      still = λ i f lt below at. hold_still i f lt (omega arith) at;
      full = was_full;
    }

  -- the rooms that the call claimed then, or tried to claim, it claimed while it held it
  pub claims_full : (t : PassState) → ClaimsOthers z r u t → (e : PassState) → MetMore call t e → e.findings.rebalances.claims ≡ t.findings.rebalances.claims → ClaimsFull z v0 e
  claims_full t o e later same = record {
    more = o.more;
    claims = same ∙ (o.claims ∙ ap (λ (l : List ℕ). l ++ o.more) (reads.works.stands.claims ∙ p.claims));
    full = each_map (λ (n : ℕ). (length u.findings.met ≤ n) × (n < length t.findings.met)) (ClaimedFull z (length v0.findings.met) e.findings.met) o.more
        (λ n at. let after = at.0 in let before = at.1 in let l = met_length call t e later in (omega arith, r, key_number key, held_full t o.met e (later.more, later.met) n after (omega arith))) o.places;
  }

  module _ (sees : (i : ℕ) → i < entries_in ((held_memory v.rooms.held).count r) → 0 < (held_memory v.rooms.held).key r i → names_header ((held_memory v.rooms.held).value r i) ≡ 1 → SeesValue z r i v u) (e : PassState) (behind : MetMore call u e) where
    hold_values : (i : ℕ) → i < z.entries → FoundBehind (length from.findings.met) (length u.findings.met) e.findings.met (index z (in_rooms (at_value r i))) (λ n had. names_header n ≡ 1)
    hold_values i l = let f = p.front in let c = full_count z call r w g v0.rooms.held v0.rooms.moving v f u slots x reads full in
        let s = sees i (omega arith) (full_keyed z call r w g v0.rooms.held v0.rooms.moving v f u slots x reads full i (omega arith)) (full_valued z call r w g v0.rooms.held v0.rooms.moving v f u slots x reads full i (omega arith)) in record {
          place = s.place;
          from = let n = hold_length in let k = met_length call p.came.step.to v p.came.step.ended in let q = s.from in omega arith;
          to = s.to;
          finding = s.finding;
          there = subst (λ (y : List Finding). get_elem? y s.place ≡ some s.finding) (sym behind.met) (at_longer u.findings.met behind.more s.place s.finding s.there);
          word_is = s.word_is;
          number = s.number;
          found_is = s.found_is;
          shows = s.shows;
        }

    -- the chunk was held with a value in each entry
    pub found_whole : FoundWhole z (length v0.findings.met) (length e.findings.met) e.findings.met r (key_number key)
    found_whole = record {
      to = length u.findings.met;
      within = met_length call u e behind;
      holds = held_full u (only_none (IsAtAnother z r) u u refl) e (behind.more, behind.met) (length u.findings.met) (omega arith) (omega arith);
      values = hold_values;
    }

    -- and no other room was free
    pub found_lacking : (t : PassState) → FindsNoneFree z call r u t → MetMore call t e → RoomLackFound z (length v0.findings.met) (length e.findings.met) e.findings.met (key_number key)
    found_lacking t none later = record {
      room = r;
      inside = p.front.inside;
      whole = found_whole;
      others = λ q l ne. used_longer z call q v0 t e later (used_since z call q v0 u t (met_both call v0 v u p.beside.met reads.works.stands.met) (none.used q l ne));
    }
