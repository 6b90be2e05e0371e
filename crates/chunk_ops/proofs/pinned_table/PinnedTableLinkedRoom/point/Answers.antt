use Rattle.std.proofs.Common.{ℕ, refl, ◌∙◌, subst, arith}
use Rattle.oak_model.specs.Limits.{Sizes}
use Rattle.chunk_core.specs.RoomStep.{of_next}
use Rattle.oak_core.specs.Passes.{call_of, key, state}
use Rattle.oak_core.specs.RoomCalls.{OwnsEntry}
use Rattle.chunk_ops.specs.PinRecords.{room_pin}
use Rattle.chunk_ops.proofs.KeyClaims.{may_next, pin_stays, pinned_still, view_same}
use Rattle.chunk_ops.proofs.KeyStores.{claims_next, next_rooms, points_next}
use Rattle.chunk_ops.proofs.pinned_table.PinnedTableLinkedRoom.point.Goals as goal

pub next_at-word-requires-clause-inside : goal.next_at-word-requires-clause-inside
next_at-word-requires-clause-inside c = (c.requires.pinned.pin.inside, c.requires.claimed.entry)

pub own_entry-requires-clause-names : goal.own_entry-requires-clause-names
own_entry-requires-clause-names c = let s = c.args.self.now in let z : Sizes = key s.table.now in let h = c.requires.claimed in let p = c.requires.pinned.pin in
    (of_next, s.room, c.args.entry, record { inside = p.inside; entry = h.entry; word_is = c.next_at-word.ensures }, may_next z (call_of s.pass.now) s.room c.args.entry (state s.pass.now) (room_pin (state s.pass.now)) h.claim h.has p.inside h.entry c.from.result (let f = c.ranges.link in let e = c.from.ensures in omega arith))

pub returns-clause-pinned : goal.returns-clause-pinned
returns-clause-pinned c = let s = c.args.self.now in let z : Sizes = key s.table.now in let v = state s.pass.now in let w = state c.own_entry.new.pass in let h = c.requires.claimed in let p = c.requires.pinned.pin in
    let t = subst (λ (x : ℕ). OwnsEntry (key s.table.now) (call_of s.pass.now) of_next s.room c.args.entry x (state s.pass.now) (state c.own_entry.new.pass)) c.from.ensures (c.own_entry.ensures.told of_next s.room c.args.entry (record { inside = p.inside; entry = h.entry; word_is = c.next_at-word.ensures })) in record {
      own = c.own_entry.ensures.own.table ∙ c.requires.pinned.own;
      pin = pinned_still z s.room v w _ (next_rooms z (call_of s.pass.now) s.room c.args.entry s.base s.place c.args.link c.args.key.now v h t.0 w t.1) p;
      first = c.requires.pinned.first;
    }

pub returns-clause-later : goal.returns-clause-later
returns-clause-later c = let s = c.args.self.now in let z : Sizes = key s.table.now in let v = state s.pass.now in let w = state c.own_entry.new.pass in let h = c.requires.claimed in let p = c.requires.pinned.pin in
    let t = subst (λ (x : ℕ). OwnsEntry (key s.table.now) (call_of s.pass.now) of_next s.room c.args.entry x (state s.pass.now) (state c.own_entry.new.pass)) c.from.ensures (c.own_entry.ensures.told of_next s.room c.args.entry (record { inside = p.inside; entry = h.entry; word_is = c.next_at-word.ensures })) in
    view_same (room_pin v) (room_pin w) (pin_stays z s.room v w _ (next_rooms z (call_of s.pass.now) s.room c.args.entry s.base s.place c.args.link c.args.key.now v h t.0 w t.1))

pub returns-clause-claimed : goal.returns-clause-claimed
returns-clause-claimed c = let s = c.args.self.now in let z : Sizes = key s.table.now in let v = state s.pass.now in let w = state c.own_entry.new.pass in let h = c.requires.claimed in let p = c.requires.pinned.pin in
    let t = subst (λ (x : ℕ). OwnsEntry (key s.table.now) (call_of s.pass.now) of_next s.room c.args.entry x (state s.pass.now) (state c.own_entry.new.pass)) c.from.ensures (c.own_entry.ensures.told of_next s.room c.args.entry (record { inside = p.inside; entry = h.entry; word_is = c.next_at-word.ensures })) in
    claims_next z (call_of s.pass.now) s.room c.args.entry s.base s.place c.args.link c.args.key.now v h t.0 w t.1

pub returns-clause-points : goal.returns-clause-points
returns-clause-points c = let s = c.args.self.now in let z : Sizes = key s.table.now in let v = state s.pass.now in let w = state c.own_entry.new.pass in let h = c.requires.claimed in let p = c.requires.pinned.pin in
    let t = subst (λ (x : ℕ). OwnsEntry (key s.table.now) (call_of s.pass.now) of_next s.room c.args.entry x (state s.pass.now) (state c.own_entry.new.pass)) c.from.ensures (c.own_entry.ensures.told of_next s.room c.args.entry (record { inside = p.inside; entry = h.entry; word_is = c.next_at-word.ensures })) in
    points_next z (call_of s.pass.now) s.room c.args.entry s.base s.place c.args.link c.args.key.now v h t.0 w t.1

pub returns-clause-meets : goal.returns-clause-meets
returns-clause-meets c = let s = c.args.self.now in let w = state c.own_entry.new.pass in let h = c.requires.claimed in let p = c.requires.pinned.pin in record {
  same = record { table = refl; same_reference = refl; room = refl; base = refl; place = refl; own = c.own_entry.ensures.own };
  does = (w, subst (λ (x : ℕ). OwnsEntry (key s.table.now) (call_of s.pass.now) of_next s.room c.args.entry x (state s.pass.now) (state c.own_entry.new.pass)) c.from.ensures (c.own_entry.ensures.told of_next s.room c.args.entry (record { inside = p.inside; entry = h.entry; word_is = c.next_at-word.ensures })), refl);
}
