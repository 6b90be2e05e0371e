use Rattle.std.proofs.Common.{◌≡◌, ◌<◌, ◌≤◌, ◌+◌, ℕ, leb, List, length, set, take, Option, Some, suc, sym, refl, ap, ◌∙◌, subst, true, arith}
use Rattle.std.proofs.lemmas.Bool.{leb-true}
use Rattle.std.proofs.lemmas.List.{length-set}
use Rattle.oak_model.specs.declared.limits.TheConstants.{GREATEST_ENTRIES}
use Rattle.oak_model.specs.Limits.{Sizes}
use Rattle.oak_model.proofs.KeyLaws.{is_key-is}
use Rattle.chunk_core.specs.KeyWords.{key_bytes}
use Rattle.oak_core.specs.declared.sorting.SortSlot.{SortSlot}
use Rattle.oak_core.specs.Passes.{call_of, key as sizes, slots_of, state}
use Rattle.oak_core.specs.Scratch.{StaysButSlots}
use Rattle.chunk_ops.specs.declared.entries.EntryNo.{EntryNo}
use Rattle.chunk_ops.specs.Listing.{StepsTo}
use Rattle.chunk_ops.proofs.WordLoads.{found_inside}
use Rattle.scan_cursor.specs.Batches.{IsFull, end_bound}
use Rattle.scan_cursor.specs.Gathered.{IsGathered, slots_ahead}
use Rattle.scan_cursor.specs.Holding.{Covers, IsRoom, ahead_from, ahead_past, bound_in, cut_room, room_at}
use Rattle.scan_cursor.specs.declared.gathering.Outcome.{Outcome}
use Rattle.scan_cursor.specs.Loading.{LoadsEntry}
use Rattle.scan_cursor.specs.Views.{view_of}
use Rattle.scan_cursor.proofs.FilledPasses.{slots_kept, slots_more}
use Rattle.scan_cursor.proofs.FilledRooms.{Comes, Walked, comes_few, comes_first, comes_later, comes_next, end_covers, end_full, end_real, entry_here, from_of, key_here_is, loaded_all, loaded_end, many_more, open_full, past_of, walked_more, walked_past}
use Rattle.scan_cursor.proofs.GatherViews.{entry_kept, learned_in, learns_only}
use Rattle.scan_cursor.proofs.OrderedSlots.{gathered_slots}
use Rattle.scan_cursor.proofs.PinnedSteps.{goes_has, goes_later, goes_room}
use Rattle.scan_cursor.proofs.StepLaws.{but_both}
use Rattle.scan_cursor.proofs.gathering.gather.Goals.{in-Kept, in-Passed}
use Rattle.scan_cursor.proofs.gathering.gather.Goals as goal

pub loop-next-init : goal.loop-next-init
loop-next-init c = let o = c.args.pass.now in let q = c.start_of-start.new.pass in let e = c.start_of-start.ensures in let s = c.start_of-start.result in let own = slots_kept o o q record { table = refl; seat = refl; call = refl; scratch = refl; sorting = refl } e.own q refl in record {
  own = own;
  long = ap length e.own.sorting ∙ (sym (ap length (c.slots-slots.ensures.slots ∙ c.sorting.ensures)) ∙ c.slots-slots.ensures.many);
  few = omega arith;
  comes = comes_first (sizes c.args.table.now) (call_of o) c.args.pin.now.room c.args.way c.args.key.now (state o) s.near s.first (state q) e.starts;
}

-- ---- the links end

pub returns-in_default-clause-own : goal.returns-in_default-clause-own
returns-in_default-clause-own c = c.loop-next.invariant.own

pub returns-in_default-clause-few : goal.returns-in_default-clause-few
returns-in_default-clause-few c = let i = c.loop-next.invariant in let f = i.few in let m = comes_few _ _ _ _ _ _ _ _ _ _ _ i.comes in omega arith

pub returns-in_default-clause-full : goal.returns-in_default-clause-full
returns-in_default-clause-full c = open_full c.args.way c.start_of-start.result.near c.args.many c.loop-next.filled c.start_of-start.ensures.starts.up

pub returns-in_default-clause-has : goal.returns-in_default-clause-has
returns-in_default-clause-has c = goes_has (sizes c.args.table.now) (call_of c.args.pass.now) c.args.pin.now.room (state c.args.pass.now) (state c.loop-next.pass) c.loop-next.invariant.comes.goes c.requires.ahead.has

pub returns-in_default-clause-room : goal.returns-in_default-clause-room
returns-in_default-clause-room c = goes_room (sizes c.args.table.now) (call_of c.args.pass.now) c.args.pin.now.room (state c.args.pass.now) (state c.loop-next.pass) c.loop-next.invariant.comes.goes

pub returns-in_default-clause-later : goal.returns-in_default-clause-later
returns-in_default-clause-later c = goes_later (sizes c.args.table.now) (call_of c.args.pass.now) c.args.pin.now.room (state c.args.pass.now) (state c.loop-next.pass) c.loop-next.invariant.comes.goes

pub returns-in_default-clause-real : goal.returns-in_default-clause-real
returns-in_default-clause-real c = c.start_of-start.ensures.starts.real

pub returns-in_default-clause-covers : goal.returns-in_default-clause-covers
returns-in_default-clause-covers c = c.start_of-start.ensures.starts.covers

pub returns-in_default-clause-gathered : goal.returns-in_default-clause-gathered
returns-in_default-clause-gathered c = let z : Sizes = sizes c.args.table.now in let call = call_of c.args.pass.now in let r = c.args.pin.now.room in let v = state c.args.pass.now in let w = state c.loop-next.pass in let way = c.args.way in let k = c.args.key.now in
    let a = cut_room way (room_at v) c.start_of-start.result.near in let n = c.loop-next.filled in let xs = slots_of c.loop-next.pass in let i = c.loop-next.invariant in
    let g = subst (λ (o : Option EntryNo). Comes z call r way k v a o c.loop-next.passed w (take n xs)) c.in_default.is i.comes in
    gathered_slots (view_of z call v) (view_of z call w) (from_of way k a) (past_of way k a) way n xs (take n xs) refl (loaded_all z call r way k v a c.loop-next.passed w (take n xs) g)

pub returns-in_default-clause-still : goal.returns-in_default-clause-still
returns-in_default-clause-still c = c.loop-next.invariant.comes.goes.still

-- ---- an entry

pub first_key_at-first-requires : goal.first_key_at-first-requires
first_key_at-first-requires c = c.requires.ahead.has.pin.inside

pub entry_at-at-requires-clause-inside : goal.entry_at-at-requires-clause-inside
entry_at-at-requires-clause-inside c = let z : Sizes = sizes c.args.table.now in let call = call_of c.args.pass.now in let r = c.args.pin.now.room in let v = state c.args.pass.now in let w = state c.loop-next.pass in let way = c.args.way in let k = c.args.key.now in
    let a = cut_room way (room_at v) c.start_of-start.result.near in let xs = take c.loop-next.filled (slots_of c.loop-next.pass) in let many = c.loop-next.passed in let e = c.in-Some.entry in let pin = c.loop-next.invariant.comes.goes.under.pin.has in
    let g = subst (λ (o : Option EntryNo). Comes z call r way k v a o many w xs) c.in-Some.is c.loop-next.invariant.comes in (pin.inside, found_inside z r e.0 _ w pin (entry_here z call r way k v a e many w xs g))

pub entry_key_at-this-requires-clause-pinned : goal.entry_key_at-this-requires-clause-pinned
entry_key_at-this-requires-clause-pinned c = c.loop-next.invariant.comes.goes.under.pin.has

pub entry_key_at-this-requires-clause-entry : goal.entry_key_at-this-requires-clause-entry
entry_key_at-this-requires-clause-entry c = let z : Sizes = sizes c.args.table.now in let call = call_of c.args.pass.now in let r = c.args.pin.now.room in let v = state c.args.pass.now in let w = state c.loop-next.pass in let way = c.args.way in let k = c.args.key.now in
    let a = cut_room way (room_at v) c.start_of-start.result.near in let xs = take c.loop-next.filled (slots_of c.loop-next.pass) in let many = c.loop-next.passed in let e = c.in-Some.entry in
    let g = subst (λ (o : Option EntryNo). Comes z call r way k v a o many w xs) c.in-Some.is c.loop-next.invariant.comes in (_, entry_here z call r way k v a e many w xs g)

-- which is loaded

pub load_found-requires-clause-pinned : goal.load_found-requires-clause-pinned
load_found-requires-clause-pinned c = let z : Sizes = sizes c.args.table.now in let call = call_of c.args.pass.now in let r = c.args.pin.now.room in let v = state c.args.pass.now in let p = c.loop-next.pass in let q = c.entry_key_at-this.new.pass in let way = c.args.way in let k = c.args.key.now in
    let near = c.start_of-start.result.near in let a = cut_room way (room_at v) near in let n = c.loop-next.filled in let xs = take n (slots_of p) in let many = c.loop-next.passed in let e = c.in-Some.entry in let i = c.loop-next.invariant in
    let g = subst (λ (o : Option EntryNo). Comes z call r way k v a o many (state p) xs) c.in-Some.is i.comes in
    let h = comes_later z call r way k v a (Some e) many (state p) (state q) xs (learned_in call (call_of p) (state p) (state q) i.own.call (learns_only (call_of p) (state p) (state q) c.entry_key_at-this.ensures.only)) g in
    h.goes.under.pin.has

pub load_found-requires-clause-entry : goal.load_found-requires-clause-entry
load_found-requires-clause-entry c = let z : Sizes = sizes c.args.table.now in let call = call_of c.args.pass.now in let r = c.args.pin.now.room in let v = state c.args.pass.now in let p = c.loop-next.pass in let q = c.entry_key_at-this.new.pass in let way = c.args.way in let k = c.args.key.now in
    let near = c.start_of-start.result.near in let a = cut_room way (room_at v) near in let n = c.loop-next.filled in let xs = take n (slots_of p) in let many = c.loop-next.passed in let e = c.in-Some.entry in let i = c.loop-next.invariant in
    let g = subst (λ (o : Option EntryNo). Comes z call r way k v a o many (state p) xs) c.in-Some.is i.comes in
    let h = comes_later z call r way k v a (Some e) many (state p) (state q) xs (learned_in call (call_of p) (state p) (state q) i.own.call (learns_only (call_of p) (state p) (state q) c.entry_key_at-this.ensures.only)) g in
    (key_bytes h.is.0.word h.is.0.words, entry_here z call r way k v a e many (state q) xs h)

pub load_found-requires-clause-key : goal.load_found-requires-clause-key
load_found-requires-clause-key c = λ d t. c.entry_key_at-this.ensures.key d (entry_kept c.args.pin.now.room c.in-Some.entry.0 d (state c.entry_key_at-this.new.pass) (state c.loop-next.pass) (sym c.entry_key_at-this.ensures.only.rooms) t)

pub load_found-requires-clause-slot : goal.load_found-requires-clause-slot
load_found-requires-clause-slot c = let z : Sizes = sizes c.args.table.now in let call = call_of c.args.pass.now in let r = c.args.pin.now.room in let v = state c.args.pass.now in let p = c.loop-next.pass in let q = c.entry_key_at-this.new.pass in let way = c.args.way in let k = c.args.key.now in
    let near = c.start_of-start.result.near in let a = cut_room way (room_at v) near in let n = c.loop-next.filled in let xs = take n (slots_of p) in let many = c.loop-next.passed in let e = c.in-Some.entry in let i = c.loop-next.invariant in
    let g = subst (λ (o : Option EntryNo). Comes z call r way k v a o many (state p) xs) c.in-Some.is i.comes in
    let h = comes_later z call r way k v a (Some e) many (state p) (state q) xs (learned_in call (call_of p) (state p) (state q) i.own.call (learns_only (call_of p) (state p) (state q) c.entry_key_at-this.ensures.only)) g in
    let m = many_more z call r way k v a e many (state p) xs g in let f = i.few in omega arith

-- and before which the batch ends

pub entry_bound-bound-requires-clause-pinned : goal.entry_bound-bound-requires-clause-pinned
entry_bound-bound-requires-clause-pinned c = let z : Sizes = sizes c.args.table.now in let call = call_of c.args.pass.now in let r = c.args.pin.now.room in let v = state c.args.pass.now in let p = c.loop-next.pass in let q = c.entry_key_at-this.new.pass in let way = c.args.way in let k = c.args.key.now in
    let near = c.start_of-start.result.near in let a = cut_room way (room_at v) near in let n = c.loop-next.filled in let xs = take n (slots_of p) in let many = c.loop-next.passed in let e = c.in-Some.entry in let i = c.loop-next.invariant in
    let g = subst (λ (o : Option EntryNo). Comes z call r way k v a o many (state p) xs) c.in-Some.is i.comes in
    let h = comes_later z call r way k v a (Some e) many (state p) (state q) xs (learned_in call (call_of p) (state p) (state q) i.own.call (learns_only (call_of p) (state p) (state q) c.entry_key_at-this.ensures.only)) g in
    let t = c.load_found.new.pass in let now : call_of q ≡ call = c.entry_key_at-this.ensures.own.call ∙ i.own.call in
    let l = comes_later z call r way k v a (Some e) many (state q) (state t) xs (learned_in call (call_of q) (state q) (state t) now c.load_found.ensures.only) h in
    l.goes.under.pin.has

pub entry_bound-bound-requires-clause-entry : goal.entry_bound-bound-requires-clause-entry
entry_bound-bound-requires-clause-entry c = let z : Sizes = sizes c.args.table.now in let call = call_of c.args.pass.now in let r = c.args.pin.now.room in let v = state c.args.pass.now in let p = c.loop-next.pass in let q = c.entry_key_at-this.new.pass in let way = c.args.way in let k = c.args.key.now in
    let near = c.start_of-start.result.near in let a = cut_room way (room_at v) near in let n = c.loop-next.filled in let xs = take n (slots_of p) in let many = c.loop-next.passed in let e = c.in-Some.entry in let i = c.loop-next.invariant in
    let g = subst (λ (o : Option EntryNo). Comes z call r way k v a o many (state p) xs) c.in-Some.is i.comes in
    let h = comes_later z call r way k v a (Some e) many (state p) (state q) xs (learned_in call (call_of p) (state p) (state q) i.own.call (learns_only (call_of p) (state p) (state q) c.entry_key_at-this.ensures.only)) g in
    let t = c.load_found.new.pass in let now : call_of q ≡ call = c.entry_key_at-this.ensures.own.call ∙ i.own.call in
    let l = comes_later z call r way k v a (Some e) many (state q) (state t) xs (learned_in call (call_of q) (state q) (state t) now c.load_found.ensures.only) h in
    (key_bytes l.is.0.word l.is.0.words, entry_here z call r way k v a e many (state t) xs l)

pub returns-in-Ends-clause-own : goal.returns-in-Ends-clause-own
returns-in-Ends-clause-own c = let z : Sizes = sizes c.args.table.now in let call = call_of c.args.pass.now in let r = c.args.pin.now.room in let v = state c.args.pass.now in let p = c.loop-next.pass in let q = c.entry_key_at-this.new.pass in let way = c.args.way in let k = c.args.key.now in
    let near = c.start_of-start.result.near in let a = cut_room way (room_at v) near in let n = c.loop-next.filled in let xs = take n (slots_of p) in let many = c.loop-next.passed in let e = c.in-Some.entry in let i = c.loop-next.invariant in
    let g = subst (λ (o : Option EntryNo). Comes z call r way k v a o many (state p) xs) c.in-Some.is i.comes in
    let h = comes_later z call r way k v a (Some e) many (state p) (state q) xs (learned_in call (call_of p) (state p) (state q) i.own.call (learns_only (call_of p) (state p) (state q) c.entry_key_at-this.ensures.only)) g in
    let t = c.load_found.new.pass in let now : call_of q ≡ call = c.entry_key_at-this.ensures.own.call ∙ i.own.call in
    let l = comes_later z call r way k v a (Some e) many (state q) (state t) xs (learned_in call (call_of q) (state q) (state t) now c.load_found.ensures.only) h in
    let d = c.entry_bound-bound.new.pass in let then : call_of t ≡ call = c.load_found.ensures.own.call ∙ now in
    let m = comes_later z call r way k v a (Some e) many (state t) (state d) xs (learned_in call (call_of t) (state t) (state d) then (learns_only (call_of t) (state t) (state d) c.entry_bound-bound.ensures.only)) l in
    let o = c.args.pass.now in slots_kept o t d (but_both o q t (slots_kept o p q i.own c.entry_key_at-this.ensures.own q refl) c.load_found.ensures.own) c.entry_bound-bound.ensures.own d refl

pub returns-in-Ends-clause-few : goal.returns-in-Ends-clause-few
returns-in-Ends-clause-few c = let i = c.loop-next.invariant in let f = i.few in let m = comes_few _ _ _ _ _ _ _ _ _ _ _ i.comes in omega arith

pub returns-in-Ends-clause-full : goal.returns-in-Ends-clause-full
returns-in-Ends-clause-full c = let z : Sizes = sizes c.args.table.now in let call = call_of c.args.pass.now in let r = c.args.pin.now.room in let v = state c.args.pass.now in let p = c.loop-next.pass in let q = c.entry_key_at-this.new.pass in let way = c.args.way in let k = c.args.key.now in
    let near = c.start_of-start.result.near in let a = cut_room way (room_at v) near in let n = c.loop-next.filled in let xs = take n (slots_of p) in let many = c.loop-next.passed in let e = c.in-Some.entry in let i = c.loop-next.invariant in
    let g = subst (λ (o : Option EntryNo). Comes z call r way k v a o many (state p) xs) c.in-Some.is i.comes in
    let h = comes_later z call r way k v a (Some e) many (state p) (state q) xs (learned_in call (call_of p) (state p) (state q) i.own.call (learns_only (call_of p) (state p) (state q) c.entry_key_at-this.ensures.only)) g in
    let t = c.load_found.new.pass in let now : call_of q ≡ call = c.entry_key_at-this.ensures.own.call ∙ i.own.call in
    let l = comes_later z call r way k v a (Some e) many (state q) (state t) xs (learned_in call (call_of q) (state q) (state t) now c.load_found.ensures.only) h in
    let d = c.entry_bound-bound.new.pass in let then : call_of t ≡ call = c.load_found.ensures.own.call ∙ now in
    let m = comes_later z call r way k v a (Some e) many (state t) (state d) xs (learned_in call (call_of t) (state t) (state d) then (learns_only (call_of t) (state t) (state d) c.entry_bound-bound.ensures.only)) l in
    let b = key_bytes m.is.0.word m.is.0.words in let there = entry_kept r e.0 b (state d) (state t) (sym c.entry_bound-bound.ensures.only.rooms) (entry_here z call r way k v a e many (state d) xs m) in
    let here = entry_kept r e.0 b (state t) (state q) (sym c.load_found.ensures.only.rooms) there in
    let ends = subst (λ (o : Outcome). LoadsEntry o record { slot = n; full = leb c.args.many n; way = way } k b (slots_of q) (slots_of t) (view_of z (call_of q) (state q)) (view_of z (call_of q) (state t))) c.in-Ends.is (c.load_found.ensures.loads k b c.of-from.ensures (is_key-is k c.requires.key).0 here) in
    let bound = c.entry_bound-bound.ensures.bound b there in
    subst (λ (o : Option (List ℕ)). IsFull way c.args.many o n) (sym bound) (end_full way _ k b near c.args.many n ends.1 (λ t. leb-true c.args.many n t))

pub returns-in-Ends-clause-has : goal.returns-in-Ends-clause-has
returns-in-Ends-clause-has c = let z : Sizes = sizes c.args.table.now in let call = call_of c.args.pass.now in let r = c.args.pin.now.room in let v = state c.args.pass.now in let p = c.loop-next.pass in let q = c.entry_key_at-this.new.pass in let way = c.args.way in let k = c.args.key.now in
    let near = c.start_of-start.result.near in let a = cut_room way (room_at v) near in let n = c.loop-next.filled in let xs = take n (slots_of p) in let many = c.loop-next.passed in let e = c.in-Some.entry in let i = c.loop-next.invariant in
    let g = subst (λ (o : Option EntryNo). Comes z call r way k v a o many (state p) xs) c.in-Some.is i.comes in
    let h = comes_later z call r way k v a (Some e) many (state p) (state q) xs (learned_in call (call_of p) (state p) (state q) i.own.call (learns_only (call_of p) (state p) (state q) c.entry_key_at-this.ensures.only)) g in
    let t = c.load_found.new.pass in let now : call_of q ≡ call = c.entry_key_at-this.ensures.own.call ∙ i.own.call in
    let l = comes_later z call r way k v a (Some e) many (state q) (state t) xs (learned_in call (call_of q) (state q) (state t) now c.load_found.ensures.only) h in
    let d = c.entry_bound-bound.new.pass in let then : call_of t ≡ call = c.load_found.ensures.own.call ∙ now in
    let m = comes_later z call r way k v a (Some e) many (state t) (state d) xs (learned_in call (call_of t) (state t) (state d) then (learns_only (call_of t) (state t) (state d) c.entry_bound-bound.ensures.only)) l in
    goes_has z call r v (state d) m.goes c.requires.ahead.has

pub returns-in-Ends-clause-room : goal.returns-in-Ends-clause-room
returns-in-Ends-clause-room c = let z : Sizes = sizes c.args.table.now in let call = call_of c.args.pass.now in let r = c.args.pin.now.room in let v = state c.args.pass.now in let p = c.loop-next.pass in let q = c.entry_key_at-this.new.pass in let way = c.args.way in let k = c.args.key.now in
    let near = c.start_of-start.result.near in let a = cut_room way (room_at v) near in let n = c.loop-next.filled in let xs = take n (slots_of p) in let many = c.loop-next.passed in let e = c.in-Some.entry in let i = c.loop-next.invariant in
    let g = subst (λ (o : Option EntryNo). Comes z call r way k v a o many (state p) xs) c.in-Some.is i.comes in
    let h = comes_later z call r way k v a (Some e) many (state p) (state q) xs (learned_in call (call_of p) (state p) (state q) i.own.call (learns_only (call_of p) (state p) (state q) c.entry_key_at-this.ensures.only)) g in
    let t = c.load_found.new.pass in let now : call_of q ≡ call = c.entry_key_at-this.ensures.own.call ∙ i.own.call in
    let l = comes_later z call r way k v a (Some e) many (state q) (state t) xs (learned_in call (call_of q) (state q) (state t) now c.load_found.ensures.only) h in
    let d = c.entry_bound-bound.new.pass in let then : call_of t ≡ call = c.load_found.ensures.own.call ∙ now in
    let m = comes_later z call r way k v a (Some e) many (state t) (state d) xs (learned_in call (call_of t) (state t) (state d) then (learns_only (call_of t) (state t) (state d) c.entry_bound-bound.ensures.only)) l in
    goes_room z call r v (state d) m.goes

pub returns-in-Ends-clause-later : goal.returns-in-Ends-clause-later
returns-in-Ends-clause-later c = let z : Sizes = sizes c.args.table.now in let call = call_of c.args.pass.now in let r = c.args.pin.now.room in let v = state c.args.pass.now in let p = c.loop-next.pass in let q = c.entry_key_at-this.new.pass in let way = c.args.way in let k = c.args.key.now in
    let near = c.start_of-start.result.near in let a = cut_room way (room_at v) near in let n = c.loop-next.filled in let xs = take n (slots_of p) in let many = c.loop-next.passed in let e = c.in-Some.entry in let i = c.loop-next.invariant in
    let g = subst (λ (o : Option EntryNo). Comes z call r way k v a o many (state p) xs) c.in-Some.is i.comes in
    let h = comes_later z call r way k v a (Some e) many (state p) (state q) xs (learned_in call (call_of p) (state p) (state q) i.own.call (learns_only (call_of p) (state p) (state q) c.entry_key_at-this.ensures.only)) g in
    let t = c.load_found.new.pass in let now : call_of q ≡ call = c.entry_key_at-this.ensures.own.call ∙ i.own.call in
    let l = comes_later z call r way k v a (Some e) many (state q) (state t) xs (learned_in call (call_of q) (state q) (state t) now c.load_found.ensures.only) h in
    let d = c.entry_bound-bound.new.pass in let then : call_of t ≡ call = c.load_found.ensures.own.call ∙ now in
    let m = comes_later z call r way k v a (Some e) many (state t) (state d) xs (learned_in call (call_of t) (state t) (state d) then (learns_only (call_of t) (state t) (state d) c.entry_bound-bound.ensures.only)) l in
    goes_later z call r v (state d) m.goes

pub returns-in-Ends-clause-real : goal.returns-in-Ends-clause-real
returns-in-Ends-clause-real c = let z : Sizes = sizes c.args.table.now in let call = call_of c.args.pass.now in let r = c.args.pin.now.room in let v = state c.args.pass.now in let p = c.loop-next.pass in let q = c.entry_key_at-this.new.pass in let way = c.args.way in let k = c.args.key.now in
    let near = c.start_of-start.result.near in let a = cut_room way (room_at v) near in let n = c.loop-next.filled in let xs = take n (slots_of p) in let many = c.loop-next.passed in let e = c.in-Some.entry in let i = c.loop-next.invariant in
    let g = subst (λ (o : Option EntryNo). Comes z call r way k v a o many (state p) xs) c.in-Some.is i.comes in
    let h = comes_later z call r way k v a (Some e) many (state p) (state q) xs (learned_in call (call_of p) (state p) (state q) i.own.call (learns_only (call_of p) (state p) (state q) c.entry_key_at-this.ensures.only)) g in
    let t = c.load_found.new.pass in let now : call_of q ≡ call = c.entry_key_at-this.ensures.own.call ∙ i.own.call in
    let l = comes_later z call r way k v a (Some e) many (state q) (state t) xs (learned_in call (call_of q) (state q) (state t) now c.load_found.ensures.only) h in
    let d = c.entry_bound-bound.new.pass in let then : call_of t ≡ call = c.load_found.ensures.own.call ∙ now in
    let m = comes_later z call r way k v a (Some e) many (state t) (state d) xs (learned_in call (call_of t) (state t) (state d) then (learns_only (call_of t) (state t) (state d) c.entry_bound-bound.ensures.only)) l in
    let b = key_bytes m.is.0.word m.is.0.words in let there = entry_kept r e.0 b (state d) (state t) (sym c.entry_bound-bound.ensures.only.rooms) (entry_here z call r way k v a e many (state d) xs m) in
    let here = entry_kept r e.0 b (state t) (state q) (sym c.load_found.ensures.only.rooms) there in
    let bound = c.entry_bound-bound.ensures.bound b there in
    subst (λ (o : Option (List ℕ)). IsRoom (cut_room way (room_at v) o)) (sym bound) (end_real way b near (room_at v) (key_here_is z call r way k v a e many (state d) xs m) c.start_of-start.ensures.starts.real)

pub returns-in-Ends-clause-covers : goal.returns-in-Ends-clause-covers
returns-in-Ends-clause-covers c = let z : Sizes = sizes c.args.table.now in let call = call_of c.args.pass.now in let r = c.args.pin.now.room in let v = state c.args.pass.now in let p = c.loop-next.pass in let q = c.entry_key_at-this.new.pass in let way = c.args.way in let k = c.args.key.now in
    let near = c.start_of-start.result.near in let a = cut_room way (room_at v) near in let n = c.loop-next.filled in let xs = take n (slots_of p) in let many = c.loop-next.passed in let e = c.in-Some.entry in let i = c.loop-next.invariant in
    let g = subst (λ (o : Option EntryNo). Comes z call r way k v a o many (state p) xs) c.in-Some.is i.comes in
    let h = comes_later z call r way k v a (Some e) many (state p) (state q) xs (learned_in call (call_of p) (state p) (state q) i.own.call (learns_only (call_of p) (state p) (state q) c.entry_key_at-this.ensures.only)) g in
    let t = c.load_found.new.pass in let now : call_of q ≡ call = c.entry_key_at-this.ensures.own.call ∙ i.own.call in
    let l = comes_later z call r way k v a (Some e) many (state q) (state t) xs (learned_in call (call_of q) (state q) (state t) now c.load_found.ensures.only) h in
    let d = c.entry_bound-bound.new.pass in let then : call_of t ≡ call = c.load_found.ensures.own.call ∙ now in
    let m = comes_later z call r way k v a (Some e) many (state t) (state d) xs (learned_in call (call_of t) (state t) (state d) then (learns_only (call_of t) (state t) (state d) c.entry_bound-bound.ensures.only)) l in
    let b = key_bytes m.is.0.word m.is.0.words in let there = entry_kept r e.0 b (state d) (state t) (sym c.entry_bound-bound.ensures.only.rooms) (entry_here z call r way k v a e many (state d) xs m) in
    let here = entry_kept r e.0 b (state t) (state q) (sym c.load_found.ensures.only.rooms) there in
    let ends = subst (λ (o : Outcome). LoadsEntry o record { slot = n; full = leb c.args.many n; way = way } k b (slots_of q) (slots_of t) (view_of z (call_of q) (state q)) (view_of z (call_of q) (state t))) c.in-Ends.is (c.load_found.ensures.loads k b c.of-from.ensures (is_key-is k c.requires.key).0 here) in
    let bound = c.entry_bound-bound.ensures.bound b there in
    subst (λ (o : Option (List ℕ)). Covers way true k (cut_room way (room_at v) o)) (sym bound) (end_covers way _ k b near (room_at v) ends.1 c.start_of-start.ensures.starts.covers)

pub returns-in-Ends-clause-gathered : goal.returns-in-Ends-clause-gathered
returns-in-Ends-clause-gathered c = let z : Sizes = sizes c.args.table.now in let call = call_of c.args.pass.now in let r = c.args.pin.now.room in let v = state c.args.pass.now in let p = c.loop-next.pass in let q = c.entry_key_at-this.new.pass in let way = c.args.way in let k = c.args.key.now in
    let near = c.start_of-start.result.near in let a = cut_room way (room_at v) near in let n = c.loop-next.filled in let xs = take n (slots_of p) in let many = c.loop-next.passed in let e = c.in-Some.entry in let i = c.loop-next.invariant in
    let g = subst (λ (o : Option EntryNo). Comes z call r way k v a o many (state p) xs) c.in-Some.is i.comes in
    let h = comes_later z call r way k v a (Some e) many (state p) (state q) xs (learned_in call (call_of p) (state p) (state q) i.own.call (learns_only (call_of p) (state p) (state q) c.entry_key_at-this.ensures.only)) g in
    let t = c.load_found.new.pass in let now : call_of q ≡ call = c.entry_key_at-this.ensures.own.call ∙ i.own.call in
    let l = comes_later z call r way k v a (Some e) many (state q) (state t) xs (learned_in call (call_of q) (state q) (state t) now c.load_found.ensures.only) h in
    let d = c.entry_bound-bound.new.pass in let then : call_of t ≡ call = c.load_found.ensures.own.call ∙ now in
    let m = comes_later z call r way k v a (Some e) many (state t) (state d) xs (learned_in call (call_of t) (state t) (state d) then (learns_only (call_of t) (state t) (state d) c.entry_bound-bound.ensures.only)) l in
    let b = key_bytes m.is.0.word m.is.0.words in let there = entry_kept r e.0 b (state d) (state t) (sym c.entry_bound-bound.ensures.only.rooms) (entry_here z call r way k v a e many (state d) xs m) in
    let here = entry_kept r e.0 b (state t) (state q) (sym c.load_found.ensures.only.rooms) there in
    let ends = subst (λ (o : Outcome). LoadsEntry o record { slot = n; full = leb c.args.many n; way = way } k b (slots_of q) (slots_of t) (view_of z (call_of q) (state q)) (view_of z (call_of q) (state t))) c.in-Ends.is (c.load_found.ensures.loads k b c.of-from.ensures (is_key-is k c.requires.key).0 here) in
    let bound = c.entry_bound-bound.ensures.bound b there in
    let u = cut_room way (room_at v) (end_bound way b near) in
    subst (λ (o : Option (List ℕ)). IsGathered way (view_of z call v) (view_of z call (state d)) (ahead_from way k (bound_in way (cut_room way (room_at v) o))) (ahead_past way k (bound_in way (cut_room way (room_at v) o))) (slots_ahead way 0 n (slots_of d))) (sym bound)
    (gathered_slots (view_of z call v) (view_of z call (state d)) (from_of way k u) (past_of way k u) way n (slots_of d) xs (ap (take n) (c.entry_bound-bound.ensures.own.sorting ∙ (ends.0 ∙ c.entry_key_at-this.ensures.own.sorting))) (loaded_end z call r k v near e many (state d) xs _ way m ends.1))

pub returns-in-Ends-clause-still : goal.returns-in-Ends-clause-still
returns-in-Ends-clause-still c = let z : Sizes = sizes c.args.table.now in let call = call_of c.args.pass.now in let r = c.args.pin.now.room in let v = state c.args.pass.now in let p = c.loop-next.pass in let q = c.entry_key_at-this.new.pass in let way = c.args.way in let k = c.args.key.now in
    let near = c.start_of-start.result.near in let a = cut_room way (room_at v) near in let n = c.loop-next.filled in let xs = take n (slots_of p) in let many = c.loop-next.passed in let e = c.in-Some.entry in let i = c.loop-next.invariant in
    let g = subst (λ (o : Option EntryNo). Comes z call r way k v a o many (state p) xs) c.in-Some.is i.comes in
    let h = comes_later z call r way k v a (Some e) many (state p) (state q) xs (learned_in call (call_of p) (state p) (state q) i.own.call (learns_only (call_of p) (state p) (state q) c.entry_key_at-this.ensures.only)) g in
    let t = c.load_found.new.pass in let now : call_of q ≡ call = c.entry_key_at-this.ensures.own.call ∙ i.own.call in
    let l = comes_later z call r way k v a (Some e) many (state q) (state t) xs (learned_in call (call_of q) (state q) (state t) now c.load_found.ensures.only) h in
    let d = c.entry_bound-bound.new.pass in let then : call_of t ≡ call = c.load_found.ensures.own.call ∙ now in
    let m = comes_later z call r way k v a (Some e) many (state t) (state d) xs (learned_in call (call_of t) (state t) (state d) then (learns_only (call_of t) (state t) (state d) c.entry_bound-bound.ensures.only)) l in
    m.goes.still

pub overflow_add-passed : goal.overflow_add-passed
overflow_add-passed c = let z : Sizes = sizes c.args.table.now in let call = call_of c.args.pass.now in let r = c.args.pin.now.room in let v = state c.args.pass.now in let p = c.loop-next.pass in let q = c.entry_key_at-this.new.pass in let way = c.args.way in let k = c.args.key.now in
    let near = c.start_of-start.result.near in let a = cut_room way (room_at v) near in let n = c.loop-next.filled in let xs = take n (slots_of p) in let many = c.loop-next.passed in let e = c.in-Some.entry in let i = c.loop-next.invariant in
    let g = subst (λ (o : Option EntryNo). Comes z call r way k v a o many (state p) xs) c.in-Some.is i.comes in
    let m = many_more z call r way k v a e many (state p) xs g in omega arith

pub loop-next-smaller : goal.loop-next-smaller
loop-next-smaller c = let z : Sizes = sizes c.args.table.now in let call = call_of c.args.pass.now in let r = c.args.pin.now.room in let v = state c.args.pass.now in let p = c.loop-next.pass in let q = c.entry_key_at-this.new.pass in let way = c.args.way in let k = c.args.key.now in
    let near = c.start_of-start.result.near in let a = cut_room way (room_at v) near in let n = c.loop-next.filled in let xs = take n (slots_of p) in let many = c.loop-next.passed in let e = c.in-Some.entry in let i = c.loop-next.invariant in
    let g = subst (λ (o : Option EntryNo). Comes z call r way k v a o many (state p) xs) c.in-Some.is i.comes in
    let m = many_more z call r way k v a e many (state p) xs g in omega arith

-- and behind it the next

pub next_entry_at-next-requires-clause-pinned : goal.next_entry_at-next-requires-clause-pinned
next_entry_at-next-requires-clause-pinned c = let z : Sizes = sizes c.args.table.now in let call = call_of c.args.pass.now in let r = c.args.pin.now.room in let v = state c.args.pass.now in let p = c.loop-next.pass in let q = c.entry_key_at-this.new.pass in let way = c.args.way in let k = c.args.key.now in
    let near = c.start_of-start.result.near in let a = cut_room way (room_at v) near in let n = c.loop-next.filled in let xs = take n (slots_of p) in let many = c.loop-next.passed in let e = c.in-Some.entry in let i = c.loop-next.invariant in
    let g = subst (λ (o : Option EntryNo). Comes z call r way k v a o many (state p) xs) c.in-Some.is i.comes in
    let h = comes_later z call r way k v a (Some e) many (state p) (state q) xs (learned_in call (call_of p) (state p) (state q) i.own.call (learns_only (call_of p) (state p) (state q) c.entry_key_at-this.ensures.only)) g in
    let b = key_bytes h.is.0.word h.is.0.words in
    let t = c.load_found.new.pass in let y = t in let m = c.match-load_found.filled in
    let now : call_of q ≡ call = c.entry_key_at-this.ensures.own.call ∙ i.own.call in
    let learns = learned_in call (call_of q) (state q) (state t) now c.load_found.ensures.only in
    let loads = subst (λ (j : ℕ). LoadsEntry c.load_found.result record { slot = n; full = leb c.args.many n; way = way } k b (slots_of q) (slots_of t) (view_of z j (state q)) (view_of z j (state t))) now (c.load_found.ensures.loads k b c.of-from.ensures (is_key-is k c.requires.key).0 (entry_here z call r way k v a e many (state q) xs h)) in
    let same : slots_of q ≡ slots_of p = c.entry_key_at-this.ensures.own.sorting in
    let mm = many_more z call r way k v a e many (state p) xs g in
    let lt : n < length (slots_of p) = (let f = i.few in let l = i.long in omega arith) in
    let walked : Walked z call r way k v a e (suc many) (state y) (take m (slots_of y)) = elim c.match-load_found.branch [
      | in-Kept w ↦ let kept = subst (λ (o : Outcome). LoadsEntry o record { slot = n; full = leb c.args.many n; way = way } k b (slots_of q) (slots_of t) (view_of z call (state q)) (view_of z call (state t))) w.in-Kept.is loads in let slot = kept.0 in
          let is : slots_of y ≡ set (slots_of p) n slot = kept.1 ∙ ap (λ (zs : List SortSlot). set zs n slot) same in
          subst (λ (zs : List SortSlot). Walked z call r way k v a e (suc many) (state y) zs) (sym (slots_more (slots_of p) (slots_of y) n m slot is w.filled-is lt))
          (walked_more z call r way k v a e many (state q) xs h (state t) learns slot kept.2)
      | in-Passed w ↦ let passed = subst (λ (o : Outcome). LoadsEntry o record { slot = n; full = leb c.args.many n; way = way } k b (slots_of q) (slots_of t) (view_of z call (state q)) (view_of z call (state t))) w.in-Passed.is loads in let is : slots_of y ≡ slots_of p = passed.0 ∙ same in
          subst (λ (zs : List SortSlot). Walked z call r way k v a e (suc many) (state y) zs) (λ j. take (sym w.filled-is j) (sym is j))
          (walked_past z call r way k v a e many (state q) xs h (state t) learns passed.1)
    ] in
    walked.goes.under.pin.has

pub next_entry_at-next-requires-clause-entry : goal.next_entry_at-next-requires-clause-entry
next_entry_at-next-requires-clause-entry c = let z : Sizes = sizes c.args.table.now in let call = call_of c.args.pass.now in let r = c.args.pin.now.room in let v = state c.args.pass.now in let p = c.loop-next.pass in let q = c.entry_key_at-this.new.pass in let way = c.args.way in let k = c.args.key.now in
    let near = c.start_of-start.result.near in let a = cut_room way (room_at v) near in let n = c.loop-next.filled in let xs = take n (slots_of p) in let many = c.loop-next.passed in let e = c.in-Some.entry in let i = c.loop-next.invariant in
    let g = subst (λ (o : Option EntryNo). Comes z call r way k v a o many (state p) xs) c.in-Some.is i.comes in
    let h = comes_later z call r way k v a (Some e) many (state p) (state q) xs (learned_in call (call_of p) (state p) (state q) i.own.call (learns_only (call_of p) (state p) (state q) c.entry_key_at-this.ensures.only)) g in
    let b = key_bytes h.is.0.word h.is.0.words in
    let t = c.load_found.new.pass in let y = t in let m = c.match-load_found.filled in
    let now : call_of q ≡ call = c.entry_key_at-this.ensures.own.call ∙ i.own.call in
    let learns = learned_in call (call_of q) (state q) (state t) now c.load_found.ensures.only in
    let loads = subst (λ (j : ℕ). LoadsEntry c.load_found.result record { slot = n; full = leb c.args.many n; way = way } k b (slots_of q) (slots_of t) (view_of z j (state q)) (view_of z j (state t))) now (c.load_found.ensures.loads k b c.of-from.ensures (is_key-is k c.requires.key).0 (entry_here z call r way k v a e many (state q) xs h)) in
    let same : slots_of q ≡ slots_of p = c.entry_key_at-this.ensures.own.sorting in
    let mm = many_more z call r way k v a e many (state p) xs g in
    let lt : n < length (slots_of p) = (let f = i.few in let l = i.long in omega arith) in
    let walked : Walked z call r way k v a e (suc many) (state y) (take m (slots_of y)) = elim c.match-load_found.branch [
      | in-Kept w ↦ let kept = subst (λ (o : Outcome). LoadsEntry o record { slot = n; full = leb c.args.many n; way = way } k b (slots_of q) (slots_of t) (view_of z call (state q)) (view_of z call (state t))) w.in-Kept.is loads in let slot = kept.0 in
          let is : slots_of y ≡ set (slots_of p) n slot = kept.1 ∙ ap (λ (zs : List SortSlot). set zs n slot) same in
          subst (λ (zs : List SortSlot). Walked z call r way k v a e (suc many) (state y) zs) (sym (slots_more (slots_of p) (slots_of y) n m slot is w.filled-is lt))
          (walked_more z call r way k v a e many (state q) xs h (state t) learns slot kept.2)
      | in-Passed w ↦ let passed = subst (λ (o : Outcome). LoadsEntry o record { slot = n; full = leb c.args.many n; way = way } k b (slots_of q) (slots_of t) (view_of z call (state q)) (view_of z call (state t))) w.in-Passed.is loads in let is : slots_of y ≡ slots_of p = passed.0 ∙ same in
          subst (λ (zs : List SortSlot). Walked z call r way k v a e (suc many) (state y) zs) (λ j. take (sym w.filled-is j) (sym is j))
          (walked_past z call r way k v a e many (state q) xs h (state t) learns passed.1)
    ] in
    (key_bytes walked.last.word walked.last.words, record { entry = walked.last; finds = walked.finds; key_is = refl })

pub loop-next-preserved : goal.loop-next-preserved
loop-next-preserved c = let z : Sizes = sizes c.args.table.now in let call = call_of c.args.pass.now in let r = c.args.pin.now.room in let v = state c.args.pass.now in let p = c.loop-next.pass in let q = c.entry_key_at-this.new.pass in let way = c.args.way in let k = c.args.key.now in
    let near = c.start_of-start.result.near in let a = cut_room way (room_at v) near in let n = c.loop-next.filled in let xs = take n (slots_of p) in let many = c.loop-next.passed in let e = c.in-Some.entry in let i = c.loop-next.invariant in
    let g = subst (λ (o : Option EntryNo). Comes z call r way k v a o many (state p) xs) c.in-Some.is i.comes in
    let h = comes_later z call r way k v a (Some e) many (state p) (state q) xs (learned_in call (call_of p) (state p) (state q) i.own.call (learns_only (call_of p) (state p) (state q) c.entry_key_at-this.ensures.only)) g in
    let b = key_bytes h.is.0.word h.is.0.words in
    let t = c.load_found.new.pass in let y = t in let m = c.match-load_found.filled in
    let now : call_of q ≡ call = c.entry_key_at-this.ensures.own.call ∙ i.own.call in
    let learns = learned_in call (call_of q) (state q) (state t) now c.load_found.ensures.only in
    let loads = subst (λ (j : ℕ). LoadsEntry c.load_found.result record { slot = n; full = leb c.args.many n; way = way } k b (slots_of q) (slots_of t) (view_of z j (state q)) (view_of z j (state t))) now (c.load_found.ensures.loads k b c.of-from.ensures (is_key-is k c.requires.key).0 (entry_here z call r way k v a e many (state q) xs h)) in
    let same : slots_of q ≡ slots_of p = c.entry_key_at-this.ensures.own.sorting in
    let mm = many_more z call r way k v a e many (state p) xs g in
    let lt : n < length (slots_of p) = (let f = i.few in let l = i.long in omega arith) in
    let walked : Walked z call r way k v a e (suc many) (state y) (take m (slots_of y)) = elim c.match-load_found.branch [
      | in-Kept w ↦ let kept = subst (λ (o : Outcome). LoadsEntry o record { slot = n; full = leb c.args.many n; way = way } k b (slots_of q) (slots_of t) (view_of z call (state q)) (view_of z call (state t))) w.in-Kept.is loads in let slot = kept.0 in
          let is : slots_of y ≡ set (slots_of p) n slot = kept.1 ∙ ap (λ (zs : List SortSlot). set zs n slot) same in
          subst (λ (zs : List SortSlot). Walked z call r way k v a e (suc many) (state y) zs) (sym (slots_more (slots_of p) (slots_of y) n m slot is w.filled-is lt))
          (walked_more z call r way k v a e many (state q) xs h (state t) learns slot kept.2)
      | in-Passed w ↦ let passed = subst (λ (o : Outcome). LoadsEntry o record { slot = n; full = leb c.args.many n; way = way } k b (slots_of q) (slots_of t) (view_of z call (state q)) (view_of z call (state t))) w.in-Passed.is loads in let is : slots_of y ≡ slots_of p = passed.0 ∙ same in
          subst (λ (zs : List SortSlot). Walked z call r way k v a e (suc many) (state y) zs) (λ j. take (sym w.filled-is j) (sym is j))
          (walked_past z call r way k v a e many (state q) xs h (state t) learns passed.1)
    ] in
    let d = c.next_entry_at-next.new.pass in let s = c.start_of-start.ensures.starts in let o = c.args.pass.now in
    let own_t = but_both o q t (slots_kept o p q i.own c.entry_key_at-this.ensures.own q refl) c.load_found.ensures.own in
    let parts : StaysButSlots o y × (length (slots_of y) ≡ GREATEST_ENTRIES) × (m ≤ many + 1) = elim c.match-load_found.branch [
      | in-Kept w ↦ let kept = subst (λ (o : Outcome). LoadsEntry o record { slot = n; full = leb c.args.many n; way = way } k b (slots_of q) (slots_of t) (view_of z call (state q)) (view_of z call (state t))) w.in-Kept.is loads in let slot = kept.0 in
          let is : slots_of y ≡ set (slots_of p) n slot = kept.1 ∙ ap (λ (zs : List SortSlot). set zs n slot) same in
          (own_t, ap length is ∙ (length-set (slots_of p) n slot ∙ i.long), (let f = i.few in let d = w.filled-is in omega arith))
      | in-Passed w ↦ let passed = subst (λ (o : Outcome). LoadsEntry o record { slot = n; full = leb c.args.many n; way = way } k b (slots_of q) (slots_of t) (view_of z call (state q)) (view_of z call (state t))) w.in-Passed.is loads in
          (own_t, ap length (passed.0 ∙ same) ∙ i.long, (let f = i.few in let d = w.filled-is in omega arith))
    ] in
    let yc : call_of y ≡ call = parts.0.call in let next = c.next_entry_at-next.ensures in let count : suc many ≡ many + 1 = omega arith in let slots = next.own.sorting in
    let steps = subst (λ (j : ℕ). StepsTo z j r (Some e) c.next_entry_at-next.result (state y) (state d)) yc next.steps in
    let comes = comes_next z call r way k v a s.covers s.wide s.high e (suc many) (state y) (state d) (take m (slots_of y)) walked c.next_entry_at-next.result steps in record {
      own = slots_kept o y d parts.0 next.own d refl;
      long = ap length slots ∙ parts.1;
      few = parts.2;
      comes = subst (λ (j : ℕ). Comes z call r way k v a c.next_entry_at-next.result j (state d) (take m (slots_of d))) count (subst (λ (zs : List SortSlot). Comes z call r way k v a c.next_entry_at-next.result (suc many) (state d) (take m zs)) (sym slots) comes);
    }
