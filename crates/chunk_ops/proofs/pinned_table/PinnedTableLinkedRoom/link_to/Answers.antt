use Rattle.std.proofs.Common.{◌≡◌, ◌≢◌, ℕ, refl, sym, ◌∙◌, subst, eqb-true, eq-eqb, true≢false}
use Rattle.oak_model.specs.Limits.{Sizes}
use Rattle.chunk_core.specs.RoomStep.{link_entry}
use Rattle.oak_core.specs.Passes.{call_of, key, state}
use Rattle.oak_core.specs.RoomCalls.{LinksEntry, NamesLink}
use Rattle.oak_core.specs.Step.{MayOnRooms}
use Rattle.chunk_ops.proofs.LinkedKeys.{above_inside, claims_lost, link_found, link_frees, link_key, may_link, tried_later, tried_pinned}
use Rattle.chunk_ops.proofs.pinned_table.PinnedTableLinkedRoom.link_to.Goals as goal

pub link_at-word-requires : goal.link_at-word-requires
link_at-word-requires c = let s = c.args.self.now in let z : Sizes = key s.table.now in let call = call_of s.pass.now in let v = state s.pass.now in let h = c.requires.claimed in let p = c.requires.pinned.pin in let r = s.room in let from = c.args.from in let i = c.args.entry in let k = c.args.key.now in
    record { first = c.requires.pinned.first; inside = above_inside z r i s.base s.place k v p h from c.requires.behind }

pub link-found-requires-clause-names : goal.link-found-requires-clause-names
link-found-requires-clause-names c = let s = c.args.self.now in let z : Sizes = key s.table.now in let call = call_of s.pass.now in let v = state s.pass.now in let h = c.requires.claimed in let p = c.requires.pinned.pin in let r = s.room in let from = c.args.from in let i = c.args.entry in let k = c.args.key.now in (
  r,
  from,
  i,
  record { inside = above_inside z r i s.base s.place k v p h from c.requires.behind; word_is = c.link_at-word.ensures },
  c.from-2.ensures,
  subst (λ (x : ℕ). MayOnRooms z call (link_entry r from i x) v) (sym c.from.ensures) (may_link z r i s.base s.place k v p h call from c.args.old c.requires.points c.requires.behind c.requires.before),
)

pub returns-clause-pinned : goal.returns-clause-pinned
returns-clause-pinned c = let s = c.args.self.now in let z : Sizes = key s.table.now in let call = call_of s.pass.now in let v = state s.pass.now in let h = c.requires.claimed in let p = c.requires.pinned.pin in let r = s.room in let from = c.args.from in let i = c.args.entry in let k = c.args.key.now in let w = state c.link-found.new.pass in let n = c.link-found.result in
    let names : NamesLink z r from c.link_at-word.result = record { inside = above_inside z r i s.base s.place k v p h from c.requires.behind; word_is = c.link_at-word.ensures } in
    let t : LinksEntry z call r from i c.args.old v n w = subst (λ (x : ℕ). LinksEntry z call r from i x v n w) c.from.ensures (c.link-found.ensures.told r from i names c.from-2.ensures) in
    record { own = c.link-found.ensures.own.table ∙ c.requires.pinned.own; pin = tried_pinned z call r from i c.args.old v n w p t; first = c.requires.pinned.first }

pub returns-clause-later : goal.returns-clause-later
returns-clause-later c = let s = c.args.self.now in let z : Sizes = key s.table.now in let call = call_of s.pass.now in let v = state s.pass.now in let h = c.requires.claimed in let p = c.requires.pinned.pin in let r = s.room in let from = c.args.from in let i = c.args.entry in let k = c.args.key.now in let w = state c.link-found.new.pass in let n = c.link-found.result in
    let names : NamesLink z r from c.link_at-word.result = record { inside = above_inside z r i s.base s.place k v p h from c.requires.behind; word_is = c.link_at-word.ensures } in
    let t : LinksEntry z call r from i c.args.old v n w = subst (λ (x : ℕ). LinksEntry z call r from i x v n w) c.from.ensures (c.link-found.ensures.told r from i names c.from-2.ensures) in
    tried_later z call r from i c.args.old v n w p t

pub returns-clause-linked : goal.returns-clause-linked
returns-clause-linked c = λ y. let s = c.args.self.now in let z : Sizes = key s.table.now in let call = call_of s.pass.now in let v = state s.pass.now in let h = c.requires.claimed in let p = c.requires.pinned.pin in let r = s.room in let from = c.args.from in let i = c.args.entry in let k = c.args.key.now in let w = state c.link-found.new.pass in let n = c.link-found.result in
    let names : NamesLink z r from c.link_at-word.result = record { inside = above_inside z r i s.base s.place k v p h from c.requires.behind; word_is = c.link_at-word.ensures } in
    let t : LinksEntry z call r from i c.args.old v n w = subst (λ (x : ℕ). LinksEntry z call r from i x v n w) c.from.ensures (c.link-found.ensures.told r from i names c.from-2.ensures) in
    let e : n ≡ c.args.old = eqb-true n c.from-3.result y ∙ c.from-3.ensures in
    (link_found z call r from i c.args.old v n w p t e, link_key z call r from i c.args.old v n w p t e s.base s.place k h)

pub returns-clause-free : goal.returns-clause-free
returns-clause-free c = λ y. let s = c.args.self.now in let z : Sizes = key s.table.now in let call = call_of s.pass.now in let v = state s.pass.now in let h = c.requires.claimed in let p = c.requires.pinned.pin in let r = s.room in let from = c.args.from in let i = c.args.entry in let k = c.args.key.now in let w = state c.link-found.new.pass in let n = c.link-found.result in
    let names : NamesLink z r from c.link_at-word.result = record { inside = above_inside z r i s.base s.place k v p h from c.requires.behind; word_is = c.link_at-word.ensures } in
    let t : LinksEntry z call r from i c.args.old v n w = subst (λ (x : ℕ). LinksEntry z call r from i x v n w) c.from.ensures (c.link-found.ensures.told r from i names c.from-2.ensures) in
    let e : n ≡ c.args.old = eqb-true n c.from-3.result y ∙ c.from-3.ensures in
    link_frees z call r from i c.args.old v n w p t e

pub returns-clause-stored : goal.returns-clause-stored
returns-clause-stored c = λ y. let s = c.args.self.now in let z : Sizes = key s.table.now in let call = call_of s.pass.now in let v = state s.pass.now in let h = c.requires.claimed in let p = c.requires.pinned.pin in let r = s.room in let from = c.args.from in let i = c.args.entry in let k = c.args.key.now in let w = state c.link-found.new.pass in let n = c.link-found.result in
    let names : NamesLink z r from c.link_at-word.result = record { inside = above_inside z r i s.base s.place k v p h from c.requires.behind; word_is = c.link_at-word.ensures } in
    let t : LinksEntry z call r from i c.args.old v n w = subst (λ (x : ℕ). LinksEntry z call r from i x v n w) c.from.ensures (c.link-found.ensures.told r from i names c.from-2.ensures) in
    let e : n ≡ c.args.old = eqb-true n c.from-3.result y ∙ c.from-3.ensures in
    record { same = record { table = refl; same_reference = refl; room = refl; base = refl; place = refl; own = c.link-found.ensures.own }; does = (w, subst (λ (x : ℕ). LinksEntry z call r from i c.args.old v x w) e t, refl) }

pub returns-clause-claimed : goal.returns-clause-claimed
returns-clause-claimed c = λ y. let s = c.args.self.now in let z : Sizes = key s.table.now in let call = call_of s.pass.now in let v = state s.pass.now in let h = c.requires.claimed in let p = c.requires.pinned.pin in let r = s.room in let from = c.args.from in let i = c.args.entry in let k = c.args.key.now in let w = state c.link-found.new.pass in let n = c.link-found.result in
    let names : NamesLink z r from c.link_at-word.result = record { inside = above_inside z r i s.base s.place k v p h from c.requires.behind; word_is = c.link_at-word.ensures } in
    let t : LinksEntry z call r from i c.args.old v n w = subst (λ (x : ℕ). LinksEntry z call r from i x v n w) c.from.ensures (c.link-found.ensures.told r from i names c.from-2.ensures) in
    let ne : n ≢ c.args.old = (λ e. true≢false (sym (eq-eqb n c.from-3.result (e ∙ sym c.from-3.ensures)) ∙ y)) in
    claims_lost z call r from i c.args.old v n w p t s.base s.place k ne h

pub returns-clause-lost : goal.returns-clause-lost
returns-clause-lost c = λ y. let s = c.args.self.now in let z : Sizes = key s.table.now in let call = call_of s.pass.now in let v = state s.pass.now in let h = c.requires.claimed in let p = c.requires.pinned.pin in let r = s.room in let from = c.args.from in let i = c.args.entry in let k = c.args.key.now in let w = state c.link-found.new.pass in let n = c.link-found.result in
    let names : NamesLink z r from c.link_at-word.result = record { inside = above_inside z r i s.base s.place k v p h from c.requires.behind; word_is = c.link_at-word.ensures } in
    let t : LinksEntry z call r from i c.args.old v n w = subst (λ (x : ℕ). LinksEntry z call r from i x v n w) c.from.ensures (c.link-found.ensures.told r from i names c.from-2.ensures) in
    let ne : n ≢ c.args.old = (λ e. true≢false (sym (eq-eqb n c.from-3.result (e ∙ sym c.from-3.ensures)) ∙ y)) in
    (n, ne, record { same = record { table = refl; same_reference = refl; room = refl; base = refl; place = refl; own = c.link-found.ensures.own }; does = (w, t, refl) })
