use Rattle.std.proofs.Common.{sym, subst}
use Rattle.chunk_core.specs.declared.holds.RoomHolds.{RoomHolds}
use Rattle.chunk_core.specs.MayOnRooms.{FindsEntry}
use Rattle.chunk_ops.specs.PinRecords.{pin_or}
use Rattle.table_tests.proofs.chunks.adding_tests.only_byte.Goals as goal

pub key_byte-requires-clause-entry : goal.key_byte-requires-clause-entry
key_byte-requires-clause-entry g c = let k = c.requires.entry.0 in let h = c.requires.entry.1 in let o = c.key_len-len.ensures in
    (k, record { entry = h.entry; finds = subst (λ (a : RoomHolds). FindsEntry c.args.pin.now.room c.args.entry.0 a (pin_or a.pin) h.entry) (sym o.only.rooms) h.finds; key_is = h.key_is }, (o.length k h).1.0)
