use Rattle.std.proofs.Common.{refl, ◌∙◌, None}
use Rattle.oak_model.specs.Limits.{Sizes}
use Rattle.chunk_core.specs.RoomStep.{of_key}
use Rattle.oak_core.specs.Passes.{call_of, key, state}
use Rattle.chunk_ops.specs.PinRecords.{room_pin}
use Rattle.chunk_ops.proofs.KeyClaims.{may_drop, pin_stays, pinned_still, view_same}
use Rattle.chunk_ops.proofs.KeyDrops.{drop_rooms, holds_again}
use Rattle.chunk_ops.proofs.pinned_table.PinnedTableLinkedRoom.give_up.Goals as goal

pub key_at-word-requires-clause-inside : goal.key_at-word-requires-clause-inside
key_at-word-requires-clause-inside c = (c.requires.pinned.pin.inside, c.requires.claimed.entry)

pub own_entry-requires-clause-names : goal.own_entry-requires-clause-names
own_entry-requires-clause-names c = let s = c.args.self.now in let z : Sizes = key s.table.now in let h = c.requires.claimed in let p = c.requires.pinned.pin in
    (of_key, s.room, c.args.entry, record { inside = p.inside; entry = h.entry; word_is = c.key_at-word.ensures }, may_drop z (call_of s.pass.now) s.room c.args.entry (state s.pass.now) (room_pin (state s.pass.now)) h.claim h.has p.inside h.entry)

pub returns-clause-pinned : goal.returns-clause-pinned
returns-clause-pinned c = let s = c.args.self.now in let z : Sizes = key s.table.now in let v = state s.pass.now in let w = state c.own_entry.new.pass in let h = c.requires.claimed in let p = c.requires.pinned.pin in
    let t = c.own_entry.ensures.told of_key s.room c.args.entry (record { inside = p.inside; entry = h.entry; word_is = c.key_at-word.ensures }) in record {
      own = c.own_entry.ensures.own.table ∙ c.requires.pinned.own;
      pin = pinned_still z s.room v w None (drop_rooms z (call_of s.pass.now) s.room c.args.entry s.base s.place c.args.key.now v h t.0 w t.1) p;
      first = c.requires.pinned.first;
    }

pub returns-clause-later : goal.returns-clause-later
returns-clause-later c = let s = c.args.self.now in let z : Sizes = key s.table.now in let v = state s.pass.now in let w = state c.own_entry.new.pass in let h = c.requires.claimed in let p = c.requires.pinned.pin in
    let t = c.own_entry.ensures.told of_key s.room c.args.entry (record { inside = p.inside; entry = h.entry; word_is = c.key_at-word.ensures }) in
    view_same (room_pin v) (room_pin w) (pin_stays z s.room v w None (drop_rooms z (call_of s.pass.now) s.room c.args.entry s.base s.place c.args.key.now v h t.0 w t.1))

pub returns-clause-holds : goal.returns-clause-holds
returns-clause-holds c = let s = c.args.self.now in let z : Sizes = key s.table.now in let v = state s.pass.now in let w = state c.own_entry.new.pass in let h = c.requires.claimed in let p = c.requires.pinned.pin in
    let t = c.own_entry.ensures.told of_key s.room c.args.entry (record { inside = p.inside; entry = h.entry; word_is = c.key_at-word.ensures }) in
    holds_again z (call_of s.pass.now) s.room c.args.entry s.base s.place c.args.key.now v h t.0 w t.1

pub returns-clause-meets : goal.returns-clause-meets
returns-clause-meets c = let s = c.args.self.now in let w = state c.own_entry.new.pass in let h = c.requires.claimed in let p = c.requires.pinned.pin in record {
  same = record { table = refl; same_reference = refl; room = refl; base = refl; place = refl; own = c.own_entry.ensures.own };
  does = (w, c.own_entry.ensures.told of_key s.room c.args.entry (record { inside = p.inside; entry = h.entry; word_is = c.key_at-word.ensures }), refl);
}
