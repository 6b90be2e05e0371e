use Rattle.std.proofs.Common.{◌≡◌, ℕ, ◌<◌, ◌≤◌, List, take, length, sym, ap, ◌∙◌, refl, subst}
use Rattle.chunk_core.specs.LinkedEntries.{entries_in}
use Rattle.chunk_core.specs.Rooms.{RoomMemory}
use Rattle.chunk_core.specs.ValueWord.{names_header}
use Rattle.oak_core.specs.declared.sorting.SortSlot.{SortSlot}
use Rattle.rebalance.specs.declared.reading.Read.{Read}
use Rattle.rebalance.specs.Compacted.{ReadsSorted}
use Rattle.rebalance.specs.Dropping.{DropsKeys}
use Rattle.rebalance.specs.Entries.{AreValued}
use Rattle.rebalance.specs.Read.{AreAlong, HasAll}
use Rattle.rebalance.specs.Slots.{AllNamed}
use Rattle.rebalance.proofs.AlongLaws.{keys_along}
use Rattle.rebalance.proofs.ReadSorted.{distinct_read, same_keys, same_read, sorted_named, sorted_read}
use Rattle.rebalance.proofs.SortLaws.{front_slots}
use Rattle.rebalance.proofs.WalkLaws.{all_sorted, drops_nothing, ranges_same}
use Rattle.rebalance.proofs.rewriting.read_sorted.Goals as goal

pub returns-then-read_along-clause-sees : goal.returns-then-read_along-clause-sees
returns-then-read_along-clause-sees g c = λ i l _ _. let rooms = c.args.rooms.now in let t = c.load.new.self in let u = c.read_along.new.rooms in let v = c.load-then-read_along.new.self in let r = c.args.room in
    let count : c.entries_in-count.result ≡ entries_in ((g.H.HeldRooms.rooms rooms).count r) = c.entries_in-count.ensures ∙ ap entries_in c.load.ensures.word in
    g.met.H.HeldRooms.sees_earlier rooms t v r i c.load.ensures.stays
    (g.met.H.HeldRooms.sees_later t u v r i (c.read_along.ensures.sees c.if-read_along.true i (subst (λ (k : ℕ). i < k) (sym count) l)) c.load-then-read_along.ensures.stays)

pub returns-then-read_along-clause-rooms : goal.returns-then-read_along-clause-rooms
returns-then-read_along-clause-rooms g c = let rooms = c.args.rooms.now in let m : RoomMemory = g.H.HeldRooms.rooms rooms in let r = c.args.room in let n : ℕ = entries_in (m.count r) in
    let count : c.entries_in-count.result ≡ n = c.entries_in-count.ensures ∙ ap entries_in c.load.ensures.word in
    let valued : AreValued m r n = subst (AreValued m r) count (subst (λ (w : RoomMemory). AreValued w r c.entries_in-count.result) c.load.ensures.rooms (c.read_along.ensures.valued c.if-read_along.true)) in
    subst (DropsKeys r n m) (sym (c.load-then-read_along.ensures.rooms ∙ (c.read_along.ensures.rooms ∙ c.load.ensures.rooms))) (drops_nothing m r n valued)

pub returns-then-read_along-clause-ranges : goal.returns-then-read_along-clause-ranges
returns-then-read_along-clause-ranges g c = let rooms = c.args.rooms.now in let m : RoomMemory = g.H.HeldRooms.rooms rooms in let r = c.args.room in let n : ℕ = entries_in (m.count r) in
    let count : c.entries_in-count.result ≡ n = c.entries_in-count.ensures ∙ ap entries_in c.load.ensures.word in
    let valued : AreValued m r n = subst (AreValued m r) count (subst (λ (w : RoomMemory). AreValued w r c.entries_in-count.result) c.load.ensures.rooms (c.read_along.ensures.valued c.if-read_along.true)) in
    c.load-then-read_along.ensures.ranges ∙ (c.read_along.ensures.ranges ∙ (c.load.ensures.ranges ∙ sym (ranges_same m r n valued (g.H.HeldRooms.ranges rooms))))

pub returns-then-read_along-clause-read : goal.returns-then-read_along-clause-read
returns-then-read_along-clause-read g c = let rooms = c.args.rooms.now in let t = c.load.new.self in let m : RoomMemory = g.H.HeldRooms.rooms rooms in let r = c.args.room in let keys = g.H.HeldRooms.keys rooms in let n : ℕ = entries_in (m.count r) in
    let same : g.H.HeldRooms.rooms t ≡ m = c.load.ensures.rooms in let k : ℕ = c.entries_in-count.result in
    let count : k ≡ n = c.entries_in-count.ensures ∙ ap entries_in c.load.ensures.word in
    let valued : AreValued m r n = subst (AreValued m r) count (subst (λ (w : RoomMemory). AreValued w r k) same (c.read_along.ensures.valued c.if-read_along.true)) in
    let slots : List SortSlot = g.H.HeldRooms.slots c.read_along.new.rooms in let x : Read = record { kept = k; dropped = 0; base = c.load-then-read_along.result } in
    let is = same_keys (g.H.HeldRooms.names rooms) keys (g.H.HeldRooms.keys t) (g.H.HeldRooms.ranges rooms) m (g.H.HeldRooms.rooms t) r k c.requires.room same count (λ w h. (g.met.H.HeldRooms.still_names rooms t w c.load.ensures.stays h).1) in
    let whole : HasAll keys m r n slots = subst (λ (q : ℕ). HasAll keys m r q slots) count (subst (λ (w : RoomMemory). HasAll keys w r k slots) same (c.read_along.ensures.read c.if-read_along.true keys is)) in
    let along : AreAlong m r k slots = subst (λ (w : RoomMemory). AreAlong w r k slots) same (c.read_along.ensures.along c.if-read_along.true) in
    let fits : k ≤ length slots = subst (λ (q : ℕ). q ≤ length slots) (sym count) whole.fits in
    subst (λ (xs : List SortSlot). ReadsSorted keys m r xs x) (sym c.load-then-read_along.ensures.slots)
    (all_sorted m r n valued keys slots x refl whole count refl (c.load-then-read_along.ensures.word ∙ ap (λ (w : RoomMemory). w.base r) (c.read_along.ensures.rooms ∙ same))
    (keys_along m r k slots fits along keys (c.requires.room.along valued)))

pub returns-then-read_along-clause-named : goal.returns-then-read_along-clause-named
returns-then-read_along-clause-named g c = let rooms = c.args.rooms.now in let t = c.load.new.self in let m : RoomMemory = g.H.HeldRooms.rooms rooms in let r = c.args.room in let k : ℕ = c.entries_in-count.result in
    let count : k ≡ entries_in (m.count r) = c.entries_in-count.ensures ∙ ap entries_in c.load.ensures.word in let slots : List SortSlot = g.H.HeldRooms.slots c.read_along.new.rooms in
    let is = same_keys (g.H.HeldRooms.names rooms) (g.H.HeldRooms.keys rooms) (g.H.HeldRooms.keys t) (g.H.HeldRooms.ranges rooms) m (g.H.HeldRooms.rooms t) r k c.requires.room c.load.ensures.rooms count (λ w h. (g.met.H.HeldRooms.still_names rooms t w c.load.ensures.stays h).1) in
    let whole = c.read_along.ensures.read c.if-read_along.true (g.H.HeldRooms.keys rooms) is in
    subst (λ (xs : List SortSlot). AllNamed (take k xs)) (sym c.load-then-read_along.ensures.slots) (front_slots (λ (s : SortSlot). 0 < s.key) slots k whole.fits whole.named)

pub sort-requires-clause-distinct : goal.sort-requires-clause-distinct
sort-requires-clause-distinct g c = let rooms = c.args.rooms.now in let t = c.read_along.new.rooms in let m : RoomMemory = g.H.HeldRooms.rooms rooms in let n : RoomMemory = g.H.HeldRooms.rooms t in let r = c.args.room in let keys = g.H.HeldRooms.keys rooms in let k : ℕ = c.entries_in-count.result in
    let x : Read = c.read_entries-read.result in let slots : List SortSlot = g.H.HeldRooms.slots c.read_entries-read.new.rooms in let same : n ≡ m = c.read_along.ensures.rooms ∙ c.load.ensures.rooms in
    let stays : g.H.HeldRooms.stays rooms t = g.met.H.HeldRooms.stays_on rooms c.load.new.self t c.load.ensures.stays c.read_along.ensures.stays in let count : k ≡ entries_in (m.count r) = c.entries_in-count.ensures ∙ ap entries_in c.load.ensures.word in
    let is = same_keys (g.H.HeldRooms.names rooms) keys (g.H.HeldRooms.keys t) (g.H.HeldRooms.ranges rooms) m n r k c.requires.room same count (λ w h. (g.met.H.HeldRooms.still_names rooms t w stays h).1) in
    distinct_read keys m r slots x (same_read keys m n r k slots x same count (c.read_entries-read.ensures.read keys is)) (g.H.HeldRooms.names rooms) (g.H.HeldRooms.ranges rooms) c.requires.room

pub returns-clause-sees : goal.returns-clause-sees
returns-clause-sees g c = λ i l word top. let rooms = c.args.rooms.now in let u = c.read_along.new.rooms in let s = c.read_entries-read.new.rooms in let m : RoomMemory = g.H.HeldRooms.rooms rooms in let r = c.args.room in
    let count : c.entries_in-count.result ≡ entries_in (m.count r) = c.entries_in-count.ensures ∙ ap entries_in c.load.ensures.word in
    let same : g.H.HeldRooms.rooms u ≡ m = c.read_along.ensures.rooms ∙ c.load.ensures.rooms in
    g.met.H.HeldRooms.sees_later rooms s c.sort.new.self r i (g.met.H.HeldRooms.sees_earlier rooms u s r i (g.met.H.HeldRooms.stays_on rooms c.load.new.self u c.load.ensures.stays c.read_along.ensures.stays)
    (c.read_entries-read.ensures.sees i (subst (λ (k : ℕ). i < k) (sym count) l) (subst (λ (w : RoomMemory). 0 < w.key r i) (sym same) word) (ap (λ (w : RoomMemory). names_header (w.value r i)) same ∙ top))) c.sort.ensures.stays

pub returns-clause-read : goal.returns-clause-read
returns-clause-read g c = let rooms = c.args.rooms.now in let t = c.read_along.new.rooms in let m : RoomMemory = g.H.HeldRooms.rooms rooms in let n : RoomMemory = g.H.HeldRooms.rooms t in let r = c.args.room in let keys = g.H.HeldRooms.keys rooms in let k : ℕ = c.entries_in-count.result in
    let x : Read = c.read_entries-read.result in let slots : List SortSlot = g.H.HeldRooms.slots c.read_entries-read.new.rooms in let sorted : List SortSlot = g.H.HeldRooms.slots c.sort.new.self in let same : n ≡ m = c.read_along.ensures.rooms ∙ c.load.ensures.rooms in
    let stays : g.H.HeldRooms.stays rooms t = g.met.H.HeldRooms.stays_on rooms c.load.new.self t c.load.ensures.stays c.read_along.ensures.stays in let count : k ≡ entries_in (m.count r) = c.entries_in-count.ensures ∙ ap entries_in c.load.ensures.word in
    let is = same_keys (g.H.HeldRooms.names rooms) keys (g.H.HeldRooms.keys t) (g.H.HeldRooms.ranges rooms) m n r k c.requires.room same count (λ w h. (g.met.H.HeldRooms.still_names rooms t w stays h).1) in
    let long : length slots ≡ length sorted = g.met.H.HeldRooms.many_slots c.read_entries-read.new.rooms ∙ sym (g.met.H.HeldRooms.many_slots c.sort.new.self) in
    sorted_read keys m r slots x (same_read keys m n r k slots x same count (c.read_entries-read.ensures.read keys is)) sorted long c.sort.ensures.permutation c.sort.ensures.rise

pub returns-clause-named : goal.returns-clause-named
returns-clause-named g c = let rooms = c.args.rooms.now in let t = c.read_along.new.rooms in let m : RoomMemory = g.H.HeldRooms.rooms rooms in let n : RoomMemory = g.H.HeldRooms.rooms t in let r = c.args.room in let keys = g.H.HeldRooms.keys rooms in let k : ℕ = c.entries_in-count.result in
    let x : Read = c.read_entries-read.result in let slots : List SortSlot = g.H.HeldRooms.slots c.read_entries-read.new.rooms in let sorted : List SortSlot = g.H.HeldRooms.slots c.sort.new.self in let same : n ≡ m = c.read_along.ensures.rooms ∙ c.load.ensures.rooms in
    let stays : g.H.HeldRooms.stays rooms t = g.met.H.HeldRooms.stays_on rooms c.load.new.self t c.load.ensures.stays c.read_along.ensures.stays in let count : k ≡ entries_in (m.count r) = c.entries_in-count.ensures ∙ ap entries_in c.load.ensures.word in
    let is = same_keys (g.H.HeldRooms.names rooms) keys (g.H.HeldRooms.keys t) (g.H.HeldRooms.ranges rooms) m n r k c.requires.room same count (λ w h. (g.met.H.HeldRooms.still_names rooms t w stays h).1) in
    let long : length slots ≡ length sorted = g.met.H.HeldRooms.many_slots c.read_entries-read.new.rooms ∙ sym (g.met.H.HeldRooms.many_slots c.sort.new.self) in
    sorted_named keys m r slots x (same_read keys m n r k slots x same count (c.read_entries-read.ensures.read keys is)) sorted long c.sort.ensures.permutation
