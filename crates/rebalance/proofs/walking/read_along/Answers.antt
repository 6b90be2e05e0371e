use Rattle.std.proofs.Common.{◌≡◌, ℕ, ◌+◌, ◌-◌, ◌/◌, ◌<◌, ◌==◌, eq-eqb, Bool, false, true, List, [], ◌++◌, map, take, length, get_or, replicate, sym, ap, refl, ◌∙◌, subst, arith}
use Rattle.std.specs.List.Sorted.{IsPermutation}
use Rattle.std.proofs.lemmas.Bool.{false≢true}
use Rattle.std.proofs.lemmas.List.{length-set}
use Rattle.std.proofs.lemmas.List.Sorted.{IsPermutation-refl}
use Rattle.oak_model.proofs.Lists.{rows_at, rows_length}
use Rattle.chunk_core.specs.LinkedEntries.{farthest, linked}
use Rattle.chunk_core.specs.Rooms.{RoomMemory}
use Rattle.chunk_core.specs.ValueWord.{names_header}
use Rattle.chunk_ops.specs.Stored.{IsStored}
use Rattle.oak_core.specs.declared.sorting.SortSlot.{SortSlot}
use Rattle.rebalance.specs.declared.entries.Entry.{Entry}
use Rattle.rebalance.specs.declared.entries.LinkedEntry.{LinkedEntry}
use Rattle.rebalance.specs.Entries.{entries, entry_at}
use Rattle.rebalance.specs.Read.{PutsEntry}
use Rattle.rebalance.specs.Slots.{entry_of, key_of}
use Rattle.rebalance.proofs.AlongLaws.{along_next, along_none, along_set, few_chained, left_along}
use Rattle.rebalance.proofs.ReadLaws.{has_top}
use Rattle.rebalance.proofs.WalkLaws.{marked, marked_none, unmarked, mark_set, front_set, each_set, one_set, front_whole, whole_seen}
use Rattle.rebalance.proofs.walking.read_along.Goals as goal

pub loop-at-init : goal.loop-at-init
loop-at-init g c = let rooms = c.args.rooms.now in let m : RoomMemory = g.H.HeldRooms.rooms rooms in let w = c.load-link.ensures in let es : List Entry = entries m c.args.room c.args.count in record {
  stays = w.stays;
  rooms = w.rooms;
  ranges = w.ranges;
  long = refl;
  sees = λ j _ e. absurd (false≢true (sym (unmarked 256 j) ∙ e));
  valued = λ j _ e. absurd (false≢true (sym (unmarked 256 j) ∙ e));
  front = subst (λ (xs : List Entry). IsPermutation xs []) (sym (marked_none (replicate 256 false) es (λ j _. unmarked 256 j))) (IsPermutation-refl []);
  named = λ j d l. absurd (omega arith);
  along = along_none m c.args.room c.load-link.result w.word;
  stored = λ keys same d l. absurd (omega arith);
}

pub put_slot-requires-clause-named : goal.put_slot-requires-clause-named
put_slot-requires-clause-named g c = let i = c.loop-at.invariant in let w = c.load_entry-linked.ensures in let rooms = c.args.rooms.now in let now = c.loop-at.rooms in let s = c.load_entry-linked.new.self in
    let r = c.args.room in let e : ℕ = c.loop-at.link - 1 in let m : RoomMemory = g.H.HeldRooms.rooms rooms in let y : Entry = c.load_entry-linked.result.entry in
    let few : e < c.args.count = let a = c.if-link-eq0.false in let b = c.if-link-from.false in let f = c.from.ensures in omega arith in
    let place : y.place ≡ m.key r e = ap (λ (z : LinkedEntry). z.entry.place) w.words ∙ ap (λ (q : RoomMemory). q.key r e) i.rooms in
    let value : y.value ≡ m.value r e = ap (λ (z : LinkedEntry). z.entry.value) w.words ∙ ap (λ (q : RoomMemory). q.value r e) i.rooms in
    let word : 0 < y.place = let n = c.if-entry-eq0.false in omega arith in
    let named = c.requires.named e few (subst (λ (k : ℕ). 0 < k) place word) (ap names_header (sym value) ∙ has_top y (sym c.has_value.ensures ∙ c.if-not-has_value.false)) in
    (g.met.H.HeldRooms.still_names now s y.place w.stays (subst (g.H.HeldRooms.names now) (sym place) (g.met.H.HeldRooms.still_names rooms now (m.key r e) i.stays named).0)).0

pub loop-at-preserved : goal.loop-at-preserved
loop-at-preserved g c = let i = c.loop-at.invariant in let v = c.load_entry-linked.ensures in let w = c.put_slot.ensures in let rooms = c.args.rooms.now in let now = c.loop-at.rooms in let s = c.load_entry-linked.new.self in let u = c.put_slot.new.rooms in
    let r = c.args.room in let n : ℕ = c.args.count in let k : ℕ = c.loop-at.at in let e : ℕ = c.loop-at.link - 1 in let seen : List Bool = c.loop-at.seen in
    let m : RoomMemory = g.H.HeldRooms.rooms rooms in let x : Entry = entry_at m r e in let key : List ℕ = g.H.HeldRooms.keys now (m.key r e) in let y : Entry = c.load_entry-linked.result.entry in
    let slots : List SortSlot = g.H.HeldRooms.slots now in let later : List SortSlot = g.H.HeldRooms.slots u in
    let few : e < n = let a = c.if-link-eq0.false in let b = c.if-link-from.false in let f = c.from.ensures in omega arith in
    let most = g.met.H.HeldRooms.few_entries rooms r c.requires.held in let inside = c.requires.within in let test = c.loop-at-test.true in let many = g.met.H.HeldRooms.many_slots now in
    let lt : k < length slots = omega arith in let flag : e < length seen = let a = i.long in omega arith in
    let place : y.place ≡ m.key r e = ap (λ (z : LinkedEntry). z.entry.place) v.words ∙ ap (λ (q : RoomMemory). q.key r e) i.rooms in
    let value : y.value ≡ m.value r e = ap (λ (z : LinkedEntry). z.entry.value) v.words ∙ ap (λ (q : RoomMemory). q.value r e) i.rooms in
    let is : y ≡ x = λ q. record { place = place q; value = value q } in
    let named_value : names_header y.value ≡ 1 = has_top y (sym c.has_value.ensures ∙ c.if-not-has_value.false) in
    let word : 0 < m.key r e = subst (λ (q : ℕ). 0 < q) place (let z = c.if-entry-eq0.false in let p : 0 < y.place = omega arith in p) in
    let top : names_header (m.value r e) ≡ 1 = ap names_header (sym value) ∙ named_value in
    let named = g.met.H.HeldRooms.still_names rooms now (m.key r e) i.stays (c.requires.named e few word top) in
    let same_key : g.H.HeldRooms.keys s y.place ≡ key = (g.met.H.HeldRooms.still_names now s y.place v.stays (subst (g.H.HeldRooms.names now) (sym place) named.0)).1 ∙ ap (g.H.HeldRooms.keys now) place in
    let whole : Bool = k == n / 2 in
    let puts : PutsEntry key whole x k slots later = subst (λ (xs : List SortSlot). PutsEntry key whole x k xs later) v.slots
    (subst (λ (z : Entry). PutsEntry key whole z k (g.H.HeldRooms.slots s) later) is (subst (λ (q : List ℕ). PutsEntry q whole y k (g.H.HeldRooms.slots s) later) same_key w.puts)) in
    let stays : g.H.HeldRooms.stays now u = g.met.H.HeldRooms.stays_on now s u v.stays w.stays in
    let near : k < farthest = few_chained k (omega arith) in
    let at_e : get_or (entries m r n) e x ≡ x = rows_at 0 n e (λ (j : ℕ). entry_at m r j) x few ∙ ap (λ (j : ℕ). entry_at m r j) (let z : 0 + e ≡ e = omega arith in z) in record {
      stays = g.met.H.HeldRooms.stays_on rooms now u i.stays stays;
      rooms = w.rooms ∙ (v.rooms ∙ i.rooms);
      ranges = w.ranges ∙ (v.ranges ∙ i.ranges);
      long = length-set seen e true ∙ i.long;
      sees = λ j l. mark_set (λ (q : ℕ). g.H.HeldRooms.sees rooms u r q) seen e j
          (g.met.H.HeldRooms.sees_earlier rooms now u r e i.stays (g.met.H.HeldRooms.sees_later now s u r e (v.sees named_value) w.stays))
          (λ f. g.met.H.HeldRooms.sees_later rooms now u r j (i.sees j l f) stays);
      valued = λ j l. mark_set (λ (q : ℕ). (0 < m.key r q) × (names_header (m.value r q) ≡ 1)) seen e j (word, top) (i.valued j l);
      front = front_set key whole x k slots later lt puts seen (entries m r n) e flag (let z = rows_length 0 n (λ (j : ℕ). entry_at m r j) in omega arith) c.if-seen-i.false at_e i.front;
      along = along_set key whole x k slots later lt puts (map (entry_at m r) (linked m r)) (left_along m r k c.loop-at.link) (left_along m r (k + 1) c.load_entry-linked.result.next)
          (along_next m r k c.loop-at.link c.load_entry-linked.result.next near c.if-link-eq0.false (ap (λ (z : LinkedEntry). z.next) v.words ∙ ap (λ (q : RoomMemory). q.next r e) i.rooms)) i.along;
      named = each_set key whole x k slots later lt puts (λ (s : SortSlot). 0 < s.key) (subst (λ (q : ℕ). 0 < q) (sym (ap (λ (y : Entry). y.place) puts.is)) word) i.named;
      stored = λ keys same. one_set key whole x k slots later lt puts (λ (s : SortSlot). IsStored (key_of s) (keys s.key)) (n / 2)
          (λ here. subst (IsStored (key_of puts.slot)) (named.1 ∙ (sym (same e few word top) ∙ ap keys (sym (ap (λ (y : Entry). y.place) puts.is)))) (puts.stored (eq-eqb k (n / 2) (sym here))))
          (i.stored keys same);
    }

pub returns-clause-valued : goal.returns-clause-valued
returns-clause-valued g c = λ _ j l. let i = c.loop-at.invariant in let m : RoomMemory = g.H.HeldRooms.rooms c.args.rooms.now in let r = c.args.room in let n : ℕ = c.args.count in let slots : List SortSlot = g.H.HeldRooms.slots c.loop-at.rooms in
    let most = g.met.H.HeldRooms.few_entries c.args.rooms.now r c.requires.held in let inside = c.requires.within in let many = g.met.H.HeldRooms.many_slots c.loop-at.rooms in
    let all : c.loop-at.at ≡ n = let t = c.loop-at-test.false in let a = c.loop-at.auto.at-end in omega arith in
    i.valued j l (whole_seen m r n slots c.loop-at.seen (omega arith) (subst (λ (k : ℕ). IsPermutation (marked c.loop-at.seen (entries m r n)) (map entry_of (take k slots))) all i.front) j l)

pub returns-clause-sees : goal.returns-clause-sees
returns-clause-sees g c = λ _ j l. let i = c.loop-at.invariant in let m : RoomMemory = g.H.HeldRooms.rooms c.args.rooms.now in let r = c.args.room in let n : ℕ = c.args.count in let slots : List SortSlot = g.H.HeldRooms.slots c.loop-at.rooms in
    let most = g.met.H.HeldRooms.few_entries c.args.rooms.now r c.requires.held in let inside = c.requires.within in let many = g.met.H.HeldRooms.many_slots c.loop-at.rooms in
    let all : c.loop-at.at ≡ n = let t = c.loop-at-test.false in let a = c.loop-at.auto.at-end in omega arith in
    i.sees j l (whole_seen m r n slots c.loop-at.seen (omega arith) (subst (λ (k : ℕ). IsPermutation (marked c.loop-at.seen (entries m r n)) (map entry_of (take k slots))) all i.front) j l)

pub returns-clause-read : goal.returns-clause-read
returns-clause-read g c = λ _ keys same. let i = c.loop-at.invariant in let m : RoomMemory = g.H.HeldRooms.rooms c.args.rooms.now in let r = c.args.room in let n : ℕ = c.args.count in let slots : List SortSlot = g.H.HeldRooms.slots c.loop-at.rooms in
    let most = g.met.H.HeldRooms.few_entries c.args.rooms.now r c.requires.held in let inside = c.requires.within in let many = g.met.H.HeldRooms.many_slots c.loop-at.rooms in
    let all : c.loop-at.at ≡ n = let t = c.loop-at-test.false in let a = c.loop-at.auto.at-end in omega arith in record {
      fits = omega arith;
      front = front_whole m r n slots c.loop-at.seen (omega arith) (subst (λ (k : ℕ). IsPermutation (marked c.loop-at.seen (entries m r n)) (map entry_of (take k slots))) all i.front);
      named = λ j d l. i.named j d (omega arith);
      middle = λ d l. i.stored keys same d (omega arith);
    }

pub returns-clause-along : goal.returns-clause-along
returns-clause-along g c = λ _. let i = c.loop-at.invariant in let m : RoomMemory = g.H.HeldRooms.rooms c.args.rooms.now in let r = c.args.room in let slots : List SortSlot = g.H.HeldRooms.slots c.loop-at.rooms in
    let all : c.loop-at.at ≡ c.args.count = let t = c.loop-at-test.false in let a = c.loop-at.auto.at-end in omega arith in let left : List Entry = left_along m r c.loop-at.at c.loop-at.link in
    (left, subst (λ (k : ℕ). map (entry_at m r) (linked m r) ≡ map entry_of (take k slots) ++ left) all i.along)
