use Rattle.std.proofs.Common.{◌≡◌, ℕ, ◌+◌, ◌<◌, List, set, sym, ap, refl, ◌∙◌, subst, arith}
use Rattle.chunk_core.specs.declared.holds.MovingRange.{MovingRange}
use Rattle.chunk_core.specs.MovingRanges.{ranges_with}
use Rattle.chunk_core.specs.Rooms.{RoomMemory}
use Rattle.chunk_core.specs.ValueWord.{names_header}
use Rattle.chunk_ops.specs.Stored.{IsStored}
use Rattle.oak_core.specs.declared.sorting.SortSlot.{SortSlot}
use Rattle.rebalance.specs.declared.entries.Entry.{Entry}
use Rattle.rebalance.specs.declared.entries.LinkedEntry.{LinkedEntry}
use Rattle.rebalance.specs.declared.reading.Read.{Read}
use Rattle.rebalance.specs.Dropping.{dropped_ranges}
use Rattle.rebalance.specs.Entries.{dropped, linked_among}
use Rattle.rebalance.specs.HeldRooms.{IsLoose}
use Rattle.rebalance.specs.Read.{HasRead}
use Rattle.rebalance.specs.Slots.{key_of}
use Rattle.rebalance.proofs.DropLaws.{dropped_more, loose_stays}
use Rattle.rebalance.proofs.ReadLaws.{entry_here, dropped_yes, dropped_no, dropped_none, has_top, lacks_top, read_kept, read_dropped, read_skipped}
use Rattle.rebalance.proofs.reading.read_entry.Goals as goal

pub returns-then-entry-eq0-clause-sees : goal.returns-then-entry-eq0-clause-sees
returns-then-entry-eq0-clause-sees g c some top = let z = c.if-entry-eq0.true in let w = ap (λ (x : LinkedEntry). x.entry.place) c.load_entry.ensures.words in absurd (omega arith)

pub returns-then-entry-eq0-clause-ranges : goal.returns-then-entry-eq0-clause-ranges
returns-then-entry-eq0-clause-ranges g c = λ m gs h is. let now : RoomMemory = g.H.HeldRooms.rooms c.args.rooms.now in let r = c.args.room in let i = c.args.i in
    let e : Entry = c.load_entry.result.entry in let w = c.load_entry.ensures in
    w.ranges ∙ (is ∙ ap (λ (es : List Entry). dropped_ranges es gs) (sym (dropped_none m r i e (entry_here r i m now e h (ap (λ (x : LinkedEntry). x.entry.place) w.words) (ap (λ (x : LinkedEntry). x.entry.value) w.words)) c.if-entry-eq0.true)))

pub returns-then-entry-eq0-clause-read : goal.returns-then-entry-eq0-clause-read
returns-then-entry-eq0-clause-read g c = λ keys m b ke d h. let now : RoomMemory = g.H.HeldRooms.rooms c.args.rooms.now in let r = c.args.room in let i = c.args.i in let x : Read = c.args.read.now in
    let e : Entry = c.load_entry.result.entry in let w = c.load_entry.ensures in
    let slots : List SortSlot = g.H.HeldRooms.slots c.args.rooms.now in let y : Read = record { kept = x.kept; dropped = x.dropped + 1; base = x.base } in
    subst (λ (xs : List SortSlot). HasRead keys m r b (i + 1) xs y) (sym w.slots)
    (read_skipped m r i e (entry_here r i m now e d (ap (λ (x : LinkedEntry). x.entry.place) w.words) (ap (λ (x : LinkedEntry). x.entry.value) w.words)) keys b slots x y h c.if-entry-eq0.true refl refl refl)

pub read_slot-requires-clause-named : goal.read_slot-requires-clause-named
read_slot-requires-clause-named g c = let now : RoomMemory = g.H.HeldRooms.rooms c.args.rooms.now in let r = c.args.room in let i = c.args.i in let w = c.load_entry.ensures in let e : Entry = c.load_entry.result.entry in
    let place : e.place ≡ now.key r i = ap (λ (x : LinkedEntry). x.entry.place) w.words in let value : e.value ≡ now.value r i = ap (λ (x : LinkedEntry). x.entry.value) w.words in
    let word : 0 < e.place = let n = c.if-entry-eq0.false in omega arith in
    let named = c.requires.named (subst (λ (k : ℕ). 0 < k) place word) (ap names_header (sym value) ∙ has_top e (sym c.has_value.ensures ∙ c.if-has_value.true)) in
    (g.met.H.HeldRooms.still_names c.args.rooms.now c.load_entry.new.self e.place w.stays (subst (g.H.HeldRooms.names c.args.rooms.now) (sym place) named)).0

pub returns-then-has_value-clause-ranges : goal.returns-then-has_value-clause-ranges
returns-then-has_value-clause-ranges g c = λ m gs h is. let now : RoomMemory = g.H.HeldRooms.rooms c.args.rooms.now in let r = c.args.room in let i = c.args.i in
    let e : Entry = c.load_entry.result.entry in let w = c.load_entry.ensures in
    let here = entry_here r i m now e h (ap (λ (x : LinkedEntry). x.entry.place) w.words) (ap (λ (x : LinkedEntry). x.entry.value) w.words) in
    c.read_slot.ensures.ranges ∙ (w.ranges ∙ (is ∙ ap (λ (es : List Entry). dropped_ranges es gs) (sym (dropped_no m r i e here (let n = c.if-entry-eq0.false in omega arith) (sym c.has_value.ensures ∙ c.if-has_value.true)))))

pub returns-then-has_value-clause-read : goal.returns-then-has_value-clause-read
returns-then-has_value-clause-read g c = λ keys m b ke d h. let now : RoomMemory = g.H.HeldRooms.rooms c.args.rooms.now in let r = c.args.room in let i = c.args.i in let x : Read = c.args.read.now in
    let w = c.load_entry.ensures in let e : Entry = c.load_entry.result.entry in let reads = c.read_slot.ensures.reads in
    let place : e.place ≡ now.key r i = ap (λ (x : LinkedEntry). x.entry.place) w.words in let value : e.value ≡ now.value r i = ap (λ (x : LinkedEntry). x.entry.value) w.words in
    let here = entry_here r i m now e d place value in
    let has = sym c.has_value.ensures ∙ c.if-has_value.true in let top : names_header (now.value r i) ≡ 1 = ap names_header (sym value) ∙ has_top e has in
    let rooms = c.args.rooms.now in let t = c.load_entry.new.self in
    let word : 0 < e.place = let n = c.if-entry-eq0.false in omega arith in let some : 0 < now.key r i = subst (λ (k : ℕ). 0 < k) place word in
    let named : g.H.HeldRooms.names rooms e.place = subst (g.H.HeldRooms.names rooms) (sym place) (c.requires.named some top) in
    let same_key : g.H.HeldRooms.keys t e.place ≡ keys e.place = (g.met.H.HeldRooms.still_names rooms t e.place w.stays named).1 ∙ (ap (g.H.HeldRooms.keys rooms) place ∙ (sym (ke some top) ∙ ap keys (sym place))) in
    let s : SortSlot = reads.slot in
    let slots : List SortSlot = g.H.HeldRooms.slots rooms in let y : Read = record { kept = x.kept + 1; dropped = x.dropped; base = x.base } in
    let key : s.key ≡ e.place = ap (λ (y : Entry). y.place) reads.is in
    let stored : IsStored (key_of s) (keys s.key) = subst (λ (k : ℕ). IsStored (key_of s) (keys k)) (sym key) (subst (IsStored (key_of s)) same_key reads.stored) in
    let many = g.met.H.HeldRooms.many_slots rooms in let few = c.requires.few in
    subst (λ (xs : List SortSlot). HasRead keys m r b (i + 1) xs y) (sym (reads.put ∙ ap (λ (xs : List SortSlot). set xs x.kept s) w.slots))
    (read_kept m r i e here keys b slots x y h s reads.is (subst (λ (k : ℕ). 0 < k) (sym key) word) word stored has (omega arith) refl refl refl)

pub returns-then-has_value-clause-sees : goal.returns-then-has_value-clause-sees
returns-then-has_value-clause-sees g c some top = let rooms = c.args.rooms.now in let r = c.args.room in let i = c.args.i in let w = c.load_entry.ensures in
    g.met.H.HeldRooms.sees_later rooms c.load_entry.new.self c.read_slot.new.rooms r i (w.sees (ap names_header (ap (λ (x : LinkedEntry). x.entry.value) w.words) ∙ top)) c.read_slot.ensures.stays

pub drop_entry-requires-clause-loose : goal.drop_entry-requires-clause-loose
drop_entry-requires-clause-loose g c = let now : RoomMemory = g.H.HeldRooms.rooms c.args.rooms.now in let r = c.args.room in let i = c.args.i in
    let w = c.load_entry.ensures in let e : Entry = c.load_entry.result.entry in
    let place : e.place ≡ now.key r i = ap (λ (x : LinkedEntry). x.entry.place) w.words in let value : e.value ≡ now.value r i = ap (λ (x : LinkedEntry). x.entry.value) w.words in
    let top : names_header (now.value r i) ≡ 0 = ap names_header (sym value) ∙ lacks_top e (sym c.has_value.ensures ∙ c.if-has_value.false) in
    subst (λ (gs : List MovingRange). IsLoose e.place gs) (sym w.ranges) (subst (λ (k : ℕ). IsLoose k (g.H.HeldRooms.ranges c.args.rooms.now)) (sym place) (c.requires.loose (subst (λ (k : ℕ). 0 < k) place (let n = c.if-entry-eq0.false in let p : 0 < e.place = omega arith in p)) top))

pub returns-clause-sees : goal.returns-clause-sees
returns-clause-sees g c some top = let r = c.args.room in let i = c.args.i in let w = c.load_entry.ensures in let e : Entry = c.load_entry.result.entry in
    let value : e.value ≡ (g.H.HeldRooms.rooms c.args.rooms.now).value r i = ap (λ (x : LinkedEntry). x.entry.value) w.words in
    let bare : names_header ((g.H.HeldRooms.rooms c.args.rooms.now).value r i) ≡ 0 = ap names_header (sym value) ∙ lacks_top e (sym c.has_value.ensures ∙ c.if-has_value.false) in absurd (omega arith)

pub returns-clause-ranges : goal.returns-clause-ranges
returns-clause-ranges g c = λ m gs h is. let now : RoomMemory = g.H.HeldRooms.rooms c.args.rooms.now in let r = c.args.room in let i = c.args.i in
    let w = c.load_entry.ensures in let e : Entry = c.load_entry.result.entry in
    let here = entry_here r i m now e h (ap (λ (x : LinkedEntry). x.entry.place) w.words) (ap (λ (x : LinkedEntry). x.entry.value) w.words) in
    c.drop_entry.ensures.ranges ∙ (ap (ranges_with e.place) (w.ranges ∙ is) ∙ (sym (dropped_more (dropped (linked_among m r i)) e gs)
    ∙ ap (λ (es : List Entry). dropped_ranges es gs) (sym (dropped_yes m r i e here (let n = c.if-entry-eq0.false in omega arith) (sym c.has_value.ensures ∙ c.if-has_value.false)))))

pub returns-clause-loose : goal.returns-clause-loose
returns-clause-loose g c = λ v apart h. let now : RoomMemory = g.H.HeldRooms.rooms c.args.rooms.now in let r = c.args.room in let i = c.args.i in
    let w = c.load_entry.ensures in let e : Entry = c.load_entry.result.entry in
    let place : e.place ≡ now.key r i = ap (λ (x : LinkedEntry). x.entry.place) w.words in let value : e.value ≡ now.value r i = ap (λ (x : LinkedEntry). x.entry.value) w.words in
    let top : names_header (now.value r i) ≡ 0 = ap names_header (sym value) ∙ lacks_top e (sym c.has_value.ensures ∙ c.if-has_value.false) in
    subst (IsLoose v) (sym (c.drop_entry.ensures.ranges ∙ ap (ranges_with e.place) w.ranges))
    (loose_stays v e.place (λ s. apart (subst (λ (k : ℕ). 0 < k) place (let n = c.if-entry-eq0.false in let p : 0 < e.place = omega arith in p)) top (s ∙ place)) (g.H.HeldRooms.ranges c.args.rooms.now) h)

pub returns-clause-read : goal.returns-clause-read
returns-clause-read g c = λ keys m b ke d h. let now : RoomMemory = g.H.HeldRooms.rooms c.args.rooms.now in let r = c.args.room in let i = c.args.i in let x : Read = c.args.read.now in
    let w = c.load_entry.ensures in let e : Entry = c.load_entry.result.entry in
    let here = entry_here r i m now e d (ap (λ (x : LinkedEntry). x.entry.place) w.words) (ap (λ (x : LinkedEntry). x.entry.value) w.words) in
    let slots : List SortSlot = g.H.HeldRooms.slots c.args.rooms.now in let y : Read = record { kept = x.kept; dropped = x.dropped + 1; base = c.max-read.result } in
    subst (λ (xs : List SortSlot). HasRead keys m r b (i + 1) xs y) (sym (c.drop_entry.ensures.slots ∙ w.slots))
    (read_dropped m r i e here keys b slots x y h (let n = c.if-entry-eq0.false in omega arith) (sym c.has_value.ensures ∙ c.if-has_value.false) refl refl c.max-read.ensures)
