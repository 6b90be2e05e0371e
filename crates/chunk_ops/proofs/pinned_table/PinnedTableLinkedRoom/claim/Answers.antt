use Rattle.std.proofs.Common.{◌≡◌, ℕ, refl, sym, ap, ◌∙◌, subst, arith}
use Rattle.oak_model.specs.Limits.{Sizes}
use Rattle.chunk_core.specs.LinkedEntries.{entries_in}
use Rattle.chunk_core.specs.RoomStep.{of_key, of_next, of_value, own_entry}
use Rattle.chunk_core.specs.Rooms.{at_key, at_next, at_value}
use Rattle.oak_core.specs.Memory.{in_rooms, index}
use Rattle.oak_core.specs.Passes.{call_of, key, state}
use Rattle.oak_core.specs.RoomCalls.{ClaimsEntry, NamesEntryWord, OwnsEntry}
use Rattle.oak_core.specs.Step.{MayOnRooms}
use Rattle.oak_core.proofs.seats.SamePass.{stays_both}
use Rattle.chunk_ops.specs.ClaimLaws.{holds_same}
use Rattle.chunk_ops.proofs.ClaimCalls.{claims_then, count_fits, later_then, may_floor, may_name, may_point, pinned_then, points_then}
use Rattle.chunk_ops.proofs.ClaimSteps.{claim_blocks, claim_lost}
use Rattle.chunk_ops.proofs.pinned_table.PinnedTableLinkedRoom.claim.Goals as goal

pub overflow_add-old : goal.overflow_add-old
overflow_add-old c = omega (arith, count_fits (key c.args.self.now.table.now).entries c.args.old c.requires.pinned.pin.few (omega arith) c.requires.room)

pub returns-then-claim_entry-old-clause-holds : goal.returns-then-claim_entry-old-clause-holds
returns-then-claim_entry-old-clause-holds c = λ _. let s = c.args.self.now in let z : Sizes = key s.table.now in let call = call_of s.pass.now in let v = state s.pass.now in let h = c.requires.holds in let p = c.requires.pinned.pin in let r = s.room in let k = c.args.key.now in let few = c.requires.room in
    let v1 = state c.claim_entry.new.pass in let n = c.claim_entry.result in
    let t1 : ClaimsEntry z call r c.args.old v n v1 = c.claim_entry.ensures.told r (record { inside = p.inside; word_is = c.count_at-word.ensures }) in
    holds_same z s.base s.place k v v1 (claim_lost z call r c.args.old v n v1 t1 c.if-claim_entry-old.true) (claim_blocks z call r c.args.old v n v1 t1) h

pub own_entry-requires-clause-names : goal.own_entry-requires-clause-names
own_entry-requires-clause-names c = let s = c.args.self.now in let z : Sizes = key s.table.now in let call = call_of s.pass.now in let v = state s.pass.now in let h = c.requires.holds in let p = c.requires.pinned.pin in let r = s.room in let k = c.args.key.now in let few = c.requires.room in let i : ℕ = entries_in c.args.old in let e : c.entries_in-entry.result ≡ i = c.entries_in-entry.ensures in let same = c.if-claim_entry-old.false in
    let v1 = state c.claim_entry.new.pass in let n = c.claim_entry.result in
    let t1 : ClaimsEntry z call r c.args.old v n v1 = c.claim_entry.ensures.told r (record { inside = p.inside; word_is = c.count_at-word.ensures }) in
    let names2 : NamesEntryWord z of_value r i c.value_at-value.result = record { inside = p.inside; entry = few; word_is = c.value_at-value.ensures ∙ ap (λ (j : ℕ). index z (in_rooms (at_value r j))) e } in
    (of_value, r, i, names2, may_floor z r s.base s.place c.args.old c.args.link k v p h few call n v1 t1 same call (omega arith))

pub own_entry-requires-2-clause-names : goal.own_entry-requires-2-clause-names
own_entry-requires-2-clause-names c = let s = c.args.self.now in let z : Sizes = key s.table.now in let call = call_of s.pass.now in let v = state s.pass.now in let h = c.requires.holds in let p = c.requires.pinned.pin in let r = s.room in let k = c.args.key.now in let few = c.requires.room in let i : ℕ = entries_in c.args.old in let e : c.entries_in-entry.result ≡ i = c.entries_in-entry.ensures in let same = c.if-claim_entry-old.false in
    let v1 = state c.claim_entry.new.pass in let n = c.claim_entry.result in
    let t1 : ClaimsEntry z call r c.args.old v n v1 = c.claim_entry.ensures.told r (record { inside = p.inside; word_is = c.count_at-word.ensures }) in
    let names2 : NamesEntryWord z of_value r i c.value_at-value.result = record { inside = p.inside; entry = few; word_is = c.value_at-value.ensures ∙ ap (λ (j : ℕ). index z (in_rooms (at_value r j))) e } in
    let call1 = call_of c.claim_entry.new.pass in let v2 = state c.own_entry.new.pass in let t2 : OwnsEntry z call1 of_value r i s.base v1 v2 = c.own_entry.ensures.told of_value r i names2 in
    let names3 : NamesEntryWord z of_next r i c.next_at-next.result = record { inside = p.inside; entry = few; word_is = c.next_at-next.ensures ∙ ap (λ (j : ℕ). index z (in_rooms (at_next r j))) e } in
    (of_next, r, i, names3, subst (λ (x : ℕ). MayOnRooms z call (own_entry of_next r i x) v2) (sym c.from.ensures) (may_point z r s.base s.place c.args.old c.args.link k v p h few call n v1 t1 same call1 t2.0 v2 t2.1 call (let f = c.ranges.link in omega arith)))

pub own_entry-requires-3-clause-names : goal.own_entry-requires-3-clause-names
own_entry-requires-3-clause-names c = let s = c.args.self.now in let z : Sizes = key s.table.now in let call = call_of s.pass.now in let v = state s.pass.now in let h = c.requires.holds in let p = c.requires.pinned.pin in let r = s.room in let k = c.args.key.now in let few = c.requires.room in let i : ℕ = entries_in c.args.old in let e : c.entries_in-entry.result ≡ i = c.entries_in-entry.ensures in let same = c.if-claim_entry-old.false in
    let v1 = state c.claim_entry.new.pass in let n = c.claim_entry.result in
    let t1 : ClaimsEntry z call r c.args.old v n v1 = c.claim_entry.ensures.told r (record { inside = p.inside; word_is = c.count_at-word.ensures }) in
    let names2 : NamesEntryWord z of_value r i c.value_at-value.result = record { inside = p.inside; entry = few; word_is = c.value_at-value.ensures ∙ ap (λ (j : ℕ). index z (in_rooms (at_value r j))) e } in
    let call1 = call_of c.claim_entry.new.pass in let v2 = state c.own_entry.new.pass in let t2 : OwnsEntry z call1 of_value r i s.base v1 v2 = c.own_entry.ensures.told of_value r i names2 in
    let names3 : NamesEntryWord z of_next r i c.next_at-next.result = record { inside = p.inside; entry = few; word_is = c.next_at-next.ensures ∙ ap (λ (j : ℕ). index z (in_rooms (at_next r j))) e } in
    let call2 = call_of c.own_entry.new.pass in let v3 = state c.own_entry-2.new.pass in let t3 : OwnsEntry z call2 of_next r i c.args.link v2 v3 = subst (λ (x : ℕ). OwnsEntry z call2 of_next r i x v2 v3) c.from.ensures (c.own_entry-2.ensures.told of_next r i names3) in
    let names4 : NamesEntryWord z of_key r i c.key_at-place.result = record { inside = p.inside; entry = few; word_is = c.key_at-place.ensures ∙ ap (λ (j : ℕ). index z (in_rooms (at_key r j))) e } in
    (of_key, r, i, names4, may_name z r s.base s.place c.args.old c.args.link k v p h few call n v1 t1 same call1 t2.0 v2 t2.1 call2 t3.0 v3 t3.1 call (omega arith))

pub returns-clause-pinned : goal.returns-clause-pinned
returns-clause-pinned c = let s = c.args.self.now in let z : Sizes = key s.table.now in let call = call_of s.pass.now in let v = state s.pass.now in let h = c.requires.holds in let p = c.requires.pinned.pin in let r = s.room in let k = c.args.key.now in let few = c.requires.room in let i : ℕ = entries_in c.args.old in let e : c.entries_in-entry.result ≡ i = c.entries_in-entry.ensures in let same = c.if-claim_entry-old.false in
    let v1 = state c.claim_entry.new.pass in let n = c.claim_entry.result in
    let t1 : ClaimsEntry z call r c.args.old v n v1 = c.claim_entry.ensures.told r (record { inside = p.inside; word_is = c.count_at-word.ensures }) in
    let names2 : NamesEntryWord z of_value r i c.value_at-value.result = record { inside = p.inside; entry = few; word_is = c.value_at-value.ensures ∙ ap (λ (j : ℕ). index z (in_rooms (at_value r j))) e } in
    let call1 = call_of c.claim_entry.new.pass in let v2 = state c.own_entry.new.pass in let t2 : OwnsEntry z call1 of_value r i s.base v1 v2 = c.own_entry.ensures.told of_value r i names2 in
    let names3 : NamesEntryWord z of_next r i c.next_at-next.result = record { inside = p.inside; entry = few; word_is = c.next_at-next.ensures ∙ ap (λ (j : ℕ). index z (in_rooms (at_next r j))) e } in
    let call2 = call_of c.own_entry.new.pass in let v3 = state c.own_entry-2.new.pass in let t3 : OwnsEntry z call2 of_next r i c.args.link v2 v3 = subst (λ (x : ℕ). OwnsEntry z call2 of_next r i x v2 v3) c.from.ensures (c.own_entry-2.ensures.told of_next r i names3) in
    let names4 : NamesEntryWord z of_key r i c.key_at-place.result = record { inside = p.inside; entry = few; word_is = c.key_at-place.ensures ∙ ap (λ (j : ℕ). index z (in_rooms (at_key r j))) e } in
    let call3 = call_of c.own_entry-2.new.pass in let v4 = state c.own_entry-3.new.pass in let t4 : OwnsEntry z call3 of_key r i s.place v3 v4 = c.own_entry-3.ensures.told of_key r i names4 in
    record { own = c.own_entry-3.ensures.own.table ∙ (c.own_entry-2.ensures.own.table ∙ (c.own_entry.ensures.own.table ∙ (c.claim_entry.ensures.own.table ∙ c.requires.pinned.own))); pin = pinned_then z r s.base s.place c.args.old c.args.link k v p h few call n v1 t1 same call1 t2.0 v2 t2.1 call2 t3.0 v3 t3.1 call3 t4.0 v4 t4.1; first = c.requires.pinned.first }

pub returns-clause-later : goal.returns-clause-later
returns-clause-later c = let s = c.args.self.now in let z : Sizes = key s.table.now in let call = call_of s.pass.now in let v = state s.pass.now in let h = c.requires.holds in let p = c.requires.pinned.pin in let r = s.room in let k = c.args.key.now in let few = c.requires.room in let i : ℕ = entries_in c.args.old in let e : c.entries_in-entry.result ≡ i = c.entries_in-entry.ensures in let same = c.if-claim_entry-old.false in
    let v1 = state c.claim_entry.new.pass in let n = c.claim_entry.result in
    let t1 : ClaimsEntry z call r c.args.old v n v1 = c.claim_entry.ensures.told r (record { inside = p.inside; word_is = c.count_at-word.ensures }) in
    let names2 : NamesEntryWord z of_value r i c.value_at-value.result = record { inside = p.inside; entry = few; word_is = c.value_at-value.ensures ∙ ap (λ (j : ℕ). index z (in_rooms (at_value r j))) e } in
    let call1 = call_of c.claim_entry.new.pass in let v2 = state c.own_entry.new.pass in let t2 : OwnsEntry z call1 of_value r i s.base v1 v2 = c.own_entry.ensures.told of_value r i names2 in
    let names3 : NamesEntryWord z of_next r i c.next_at-next.result = record { inside = p.inside; entry = few; word_is = c.next_at-next.ensures ∙ ap (λ (j : ℕ). index z (in_rooms (at_next r j))) e } in
    let call2 = call_of c.own_entry.new.pass in let v3 = state c.own_entry-2.new.pass in let t3 : OwnsEntry z call2 of_next r i c.args.link v2 v3 = subst (λ (x : ℕ). OwnsEntry z call2 of_next r i x v2 v3) c.from.ensures (c.own_entry-2.ensures.told of_next r i names3) in
    let names4 : NamesEntryWord z of_key r i c.key_at-place.result = record { inside = p.inside; entry = few; word_is = c.key_at-place.ensures ∙ ap (λ (j : ℕ). index z (in_rooms (at_key r j))) e } in
    let call3 = call_of c.own_entry-2.new.pass in let v4 = state c.own_entry-3.new.pass in let t4 : OwnsEntry z call3 of_key r i s.place v3 v4 = c.own_entry-3.ensures.told of_key r i names4 in
    later_then z r s.base s.place c.args.old c.args.link k v p h few call n v1 t1 same call1 t2.0 v2 t2.1 call2 t3.0 v3 t3.1 call3 t4.0 v4 t4.1

pub returns-clause-claimed : goal.returns-clause-claimed
returns-clause-claimed c = λ _. let s = c.args.self.now in let z : Sizes = key s.table.now in let call = call_of s.pass.now in let v = state s.pass.now in let h = c.requires.holds in let p = c.requires.pinned.pin in let r = s.room in let k = c.args.key.now in let few = c.requires.room in let i : ℕ = entries_in c.args.old in let e : c.entries_in-entry.result ≡ i = c.entries_in-entry.ensures in let same = c.if-claim_entry-old.false in
    let v1 = state c.claim_entry.new.pass in let n = c.claim_entry.result in
    let t1 : ClaimsEntry z call r c.args.old v n v1 = c.claim_entry.ensures.told r (record { inside = p.inside; word_is = c.count_at-word.ensures }) in
    let names2 : NamesEntryWord z of_value r i c.value_at-value.result = record { inside = p.inside; entry = few; word_is = c.value_at-value.ensures ∙ ap (λ (j : ℕ). index z (in_rooms (at_value r j))) e } in
    let call1 = call_of c.claim_entry.new.pass in let v2 = state c.own_entry.new.pass in let t2 : OwnsEntry z call1 of_value r i s.base v1 v2 = c.own_entry.ensures.told of_value r i names2 in
    let names3 : NamesEntryWord z of_next r i c.next_at-next.result = record { inside = p.inside; entry = few; word_is = c.next_at-next.ensures ∙ ap (λ (j : ℕ). index z (in_rooms (at_next r j))) e } in
    let call2 = call_of c.own_entry.new.pass in let v3 = state c.own_entry-2.new.pass in let t3 : OwnsEntry z call2 of_next r i c.args.link v2 v3 = subst (λ (x : ℕ). OwnsEntry z call2 of_next r i x v2 v3) c.from.ensures (c.own_entry-2.ensures.told of_next r i names3) in
    let names4 : NamesEntryWord z of_key r i c.key_at-place.result = record { inside = p.inside; entry = few; word_is = c.key_at-place.ensures ∙ ap (λ (j : ℕ). index z (in_rooms (at_key r j))) e } in
    let call3 = call_of c.own_entry-2.new.pass in let v4 = state c.own_entry-3.new.pass in let t4 : OwnsEntry z call3 of_key r i s.place v3 v4 = c.own_entry-3.ensures.told of_key r i names4 in
    claims_then z r s.base s.place c.args.old c.args.link k v p h few call n v1 t1 same call1 t2.0 v2 t2.1 call2 t3.0 v3 t3.1 call3 t4.0 v4 t4.1

pub returns-clause-points : goal.returns-clause-points
returns-clause-points c = λ _. let s = c.args.self.now in let z : Sizes = key s.table.now in let call = call_of s.pass.now in let v = state s.pass.now in let h = c.requires.holds in let p = c.requires.pinned.pin in let r = s.room in let k = c.args.key.now in let few = c.requires.room in let i : ℕ = entries_in c.args.old in let e : c.entries_in-entry.result ≡ i = c.entries_in-entry.ensures in let same = c.if-claim_entry-old.false in
    let v1 = state c.claim_entry.new.pass in let n = c.claim_entry.result in
    let t1 : ClaimsEntry z call r c.args.old v n v1 = c.claim_entry.ensures.told r (record { inside = p.inside; word_is = c.count_at-word.ensures }) in
    let names2 : NamesEntryWord z of_value r i c.value_at-value.result = record { inside = p.inside; entry = few; word_is = c.value_at-value.ensures ∙ ap (λ (j : ℕ). index z (in_rooms (at_value r j))) e } in
    let call1 = call_of c.claim_entry.new.pass in let v2 = state c.own_entry.new.pass in let t2 : OwnsEntry z call1 of_value r i s.base v1 v2 = c.own_entry.ensures.told of_value r i names2 in
    let names3 : NamesEntryWord z of_next r i c.next_at-next.result = record { inside = p.inside; entry = few; word_is = c.next_at-next.ensures ∙ ap (λ (j : ℕ). index z (in_rooms (at_next r j))) e } in
    let call2 = call_of c.own_entry.new.pass in let v3 = state c.own_entry-2.new.pass in let t3 : OwnsEntry z call2 of_next r i c.args.link v2 v3 = subst (λ (x : ℕ). OwnsEntry z call2 of_next r i x v2 v3) c.from.ensures (c.own_entry-2.ensures.told of_next r i names3) in
    let names4 : NamesEntryWord z of_key r i c.key_at-place.result = record { inside = p.inside; entry = few; word_is = c.key_at-place.ensures ∙ ap (λ (j : ℕ). index z (in_rooms (at_key r j))) e } in
    let call3 = call_of c.own_entry-2.new.pass in let v4 = state c.own_entry-3.new.pass in let t4 : OwnsEntry z call3 of_key r i s.place v3 v4 = c.own_entry-3.ensures.told of_key r i names4 in
    points_then z r s.base s.place c.args.old c.args.link k v p h few call n v1 t1 same call1 t2.0 v2 t2.1 call2 t3.0 v3 t3.1 call3 t4.0 v4 t4.1

pub returns-clause-stored : goal.returns-clause-stored
returns-clause-stored c = λ _. let s = c.args.self.now in let z : Sizes = key s.table.now in let call = call_of s.pass.now in let v = state s.pass.now in let h = c.requires.holds in let p = c.requires.pinned.pin in let r = s.room in let k = c.args.key.now in let few = c.requires.room in let i : ℕ = entries_in c.args.old in let e : c.entries_in-entry.result ≡ i = c.entries_in-entry.ensures in let same = c.if-claim_entry-old.false in
    let v1 = state c.claim_entry.new.pass in let n = c.claim_entry.result in
    let t1 : ClaimsEntry z call r c.args.old v n v1 = c.claim_entry.ensures.told r (record { inside = p.inside; word_is = c.count_at-word.ensures }) in
    let names2 : NamesEntryWord z of_value r i c.value_at-value.result = record { inside = p.inside; entry = few; word_is = c.value_at-value.ensures ∙ ap (λ (j : ℕ). index z (in_rooms (at_value r j))) e } in
    let call1 = call_of c.claim_entry.new.pass in let v2 = state c.own_entry.new.pass in let t2 : OwnsEntry z call1 of_value r i s.base v1 v2 = c.own_entry.ensures.told of_value r i names2 in
    let names3 : NamesEntryWord z of_next r i c.next_at-next.result = record { inside = p.inside; entry = few; word_is = c.next_at-next.ensures ∙ ap (λ (j : ℕ). index z (in_rooms (at_next r j))) e } in
    let call2 = call_of c.own_entry.new.pass in let v3 = state c.own_entry-2.new.pass in let t3 : OwnsEntry z call2 of_next r i c.args.link v2 v3 = subst (λ (x : ℕ). OwnsEntry z call2 of_next r i x v2 v3) c.from.ensures (c.own_entry-2.ensures.told of_next r i names3) in
    let names4 : NamesEntryWord z of_key r i c.key_at-place.result = record { inside = p.inside; entry = few; word_is = c.key_at-place.ensures ∙ ap (λ (j : ℕ). index z (in_rooms (at_key r j))) e } in
    let call3 = call_of c.own_entry-2.new.pass in let v4 = state c.own_entry-3.new.pass in let t4 : OwnsEntry z call3 of_key r i s.place v3 v4 = c.own_entry-3.ensures.told of_key r i names4 in
    let o1 = c.claim_entry.ensures.own in let o2 = stays_both o1 c.own_entry.ensures.own in let o3 = stays_both o2 c.own_entry-2.ensures.own in record {
      same = record { table = refl; same_reference = refl; room = refl; base = refl; place = refl; own = stays_both o3 c.own_entry-3.ensures.own };
      does = (
        v1,
        subst (λ (x : ℕ). ClaimsEntry z call r c.args.old v x v1) same t1,
        (
          v2,
          subst (λ (x : ℕ). OwnsEntry z x of_value r i s.base v1 v2) o1.call t2,
          (
            v3,
            subst (λ (x : ℕ). OwnsEntry z x of_next r i c.args.link v2 v3) o2.call t3,
            (v4, subst (λ (x : ℕ). OwnsEntry z x of_key r i s.place v3 v4) o3.call t4, refl),
          ),
        ),
      );
    }
