use Rattle.std.proofs.Common.{◌≡◌, ℕ, Bool, MatchBool, take, ◌∙◌, subst, inl}
use Rattle.oak_model.specs.KeyNumber.{key_number}
use Rattle.oak_model.specs.Limits.{Sizes}
use Rattle.chunk_core.specs.declared.holds.MovingRange.{MovingRange}
use Rattle.chunk_core.specs.declared.holds.RoomCopy.{RoomCopy}
use Rattle.chunk_core.specs.Spans.{within}
use Rattle.oak_core.specs.Passes.{state, key as sizes, call_of, slots_of}
use Rattle.rebalance.specs.Copies.{copy_span}
use Rattle.rebalance.specs.Chunks.{CompactsFront, HoldsPinned, LosesPinned, OpensFront}
use Rattle.rebalance.specs.HeldTables.{WorksOnRooms}
use Rattle.rebalance.proofs.ChunkLaws.{alone_lost, alone_off, back_lost, back_moved, back_off, busy_lost, busy_off, looked_for, looked_front, pinned_front, swept_lost, swept_off}
use Rattle.rebalance.proofs.ChainedFronts.{compacted_chained}
use Rattle.rebalance.proofs.chunks.try_hold.Goals as goal

pub returns-then-not-hold_pinned-clause-back : goal.returns-then-not-hold_pinned-clause-back
returns-then-not-hold_pinned-clause-back c = let z : Sizes = sizes c.args.table.now in let call = call_of c.args.pass.now in let r = c.in-Ok.pin.room in let x = state c.pin_covering.new.pass in let u = state c.hold_pinned.new.pass in
    back_lost z call c.args.looks r c.args.key.now (state c.args.pass.now) x c.requires.compacted.only c.in-Ok.ensures.pinned u (subst (λ (k : ℕ). LosesPinned z k c.args.looks r x u) c.pin_covering.ensures.own.call (c.hold_pinned.ensures.loses c.if-not-hold_pinned.true))

pub front_has-requires-clause-front : goal.front_has-requires-clause-front
front_has-requires-clause-front c = let z : Sizes = sizes c.args.table.now in let call = call_of c.args.pass.now in let r = c.in-Ok.pin.room in let v = state c.args.pass.now in let x = state c.pin_covering.new.pass in let y = state c.hold_pinned.new.pass in
    let h = subst (λ (k : ℕ). (w : RoomCopy) × (g : MovingRange) × HoldsPinned z k r w g x y) c.pin_covering.ensures.own.call (c.hold_pinned.ensures.holds c.if-not-hold_pinned.false) in
    (h.0, h.1, v.rooms.held, v.rooms.moving, pinned_front z call c.args.looks r c.args.key.now v x c.requires.compacted.only c.in-Ok.ensures.pinned y h.0 h.1 h.2)

pub returns-then-front_has-clause-holds : goal.returns-then-front_has-clause-holds
returns-then-front_has-clause-holds c = let z : Sizes = sizes c.args.table.now in let call = call_of c.args.pass.now in let r = c.in-Ok.pin.room in let v = state c.args.pass.now in let x = state c.pin_covering.new.pass in let y = state c.hold_pinned.new.pass in let q = state c.front_has.new.pass in
    let h = subst (λ (k : ℕ). (w : RoomCopy) × (g : MovingRange) × HoldsPinned z k r w g x y) c.pin_covering.ensures.own.call (c.hold_pinned.ensures.holds c.if-not-hold_pinned.false) in
    let works = subst (λ (k : ℕ). WorksOnRooms z k y q) (c.hold_pinned.ensures.own.call ∙ c.pin_covering.ensures.own.call) c.front_has.ensures.works in
    let front = pinned_front z call c.args.looks r c.args.key.now v x c.requires.compacted.only c.in-Ok.ensures.pinned y h.0 h.1 h.2 in (
      h.0,
      h.1,
      looked_for z call c.args.looks r c.args.key.now v x c.requires.compacted.only c.in-Ok.ensures.pinned y h.0 h.1 h.2 q works c.front_has.ensures.rooms
          (subst (λ (b : Bool). MatchBool b (within (copy_span h.0) (key_number c.args.key.now) ≡ 1) (within (copy_span h.0) (key_number c.args.key.now) ≡ 1 → ⊥)) c.if-front_has.true (c.front_has.ensures.has h.0 h.1 v.rooms.held v.rooms.moving c.args.key.now front c.of.ensures)),
    )

pub returns-in_default-clause-back : goal.returns-in_default-clause-back
returns-in_default-clause-back c = back_moved (sizes c.args.table.now) (call_of c.args.pass.now) (state c.args.pass.now) (state c.pin_covering.new.pass) c.in_default.ensures.only c.in_default.ensures.ended

pub returns-in_default-clause-busy : goal.returns-in_default-clause-busy
returns-in_default-clause-busy c = inl c.in_default.ensures.moved

pub returns-then-not-hold_pinned-clause-busy : goal.returns-then-not-hold_pinned-clause-busy
returns-then-not-hold_pinned-clause-busy c = let z : Sizes = sizes c.args.table.now in let call = call_of c.args.pass.now in let r = c.in-Ok.pin.room in let x = state c.pin_covering.new.pass in let u = state c.hold_pinned.new.pass in
    busy_lost z call c.args.looks r c.args.key.now (state c.args.pass.now) x c.requires.compacted.only c.in-Ok.ensures.pinned u (subst (λ (k : ℕ). LosesPinned z k c.args.looks r x u) c.pin_covering.ensures.own.call (c.hold_pinned.ensures.loses c.if-not-hold_pinned.true))

pub returns-then-not-hold_pinned-clause-alone : goal.returns-then-not-hold_pinned-clause-alone
returns-then-not-hold_pinned-clause-alone c = let z : Sizes = sizes c.args.table.now in let call = call_of c.args.pass.now in let r = c.in-Ok.pin.room in let x = state c.pin_covering.new.pass in let u = state c.hold_pinned.new.pass in
    alone_lost z call c.args.looks r c.args.key.now (state c.args.pass.now) x c.requires.compacted.only c.in-Ok.ensures.pinned u (subst (λ (k : ℕ). LosesPinned z k c.args.looks r x u) c.pin_covering.ensures.own.call (c.hold_pinned.ensures.loses c.if-not-hold_pinned.true))

pub compact_front-requires-clause-front : goal.compact_front-requires-clause-front
compact_front-requires-clause-front c = let z : Sizes = sizes c.args.table.now in let call = call_of c.args.pass.now in let r = c.in-Ok.pin.room in let v = state c.args.pass.now in let x = state c.pin_covering.new.pass in let y = state c.hold_pinned.new.pass in let q = state c.front_has.new.pass in let b = c.requires.compacted in
    let h = subst (λ (k : ℕ). (w : RoomCopy) × (g : MovingRange) × HoldsPinned z k r w g x y) c.pin_covering.ensures.own.call (c.hold_pinned.ensures.holds c.if-not-hold_pinned.false) in
    let to_here = c.hold_pinned.ensures.own.call ∙ c.pin_covering.ensures.own.call in
    let works = subst (λ (k : ℕ). WorksOnRooms z k y q) to_here c.front_has.ensures.works in
    let front = looked_front z call c.args.looks r c.args.key.now v x b.only c.in-Ok.ensures.pinned y h.0 h.1 h.2 q works c.front_has.ensures.rooms in
    (h.0, h.1, v.rooms.held, v.rooms.moving, front, b.valued)

pub open_front-requires-clause-front : goal.open_front-requires-clause-front
open_front-requires-clause-front c = let z : Sizes = sizes c.args.table.now in let call = call_of c.args.pass.now in let r = c.in-Ok.pin.room in let v = state c.args.pass.now in let x = state c.pin_covering.new.pass in let y = state c.hold_pinned.new.pass in let q = state c.front_has.new.pass in let b = c.requires.compacted in
    let h = subst (λ (k : ℕ). (w : RoomCopy) × (g : MovingRange) × HoldsPinned z k r w g x y) c.pin_covering.ensures.own.call (c.hold_pinned.ensures.holds c.if-not-hold_pinned.false) in
    let to_here = c.hold_pinned.ensures.own.call ∙ c.pin_covering.ensures.own.call in
    let works = subst (λ (k : ℕ). WorksOnRooms z k y q) to_here c.front_has.ensures.works in
    let front = looked_front z call c.args.looks r c.args.key.now v x b.only c.in-Ok.ensures.pinned y h.0 h.1 h.2 q works c.front_has.ensures.rooms in
    let k = c.compact_front.ensures.compacted h.0 h.1 v.rooms.held v.rooms.moving front b.valued b.rows b.apart in
    (k.words, k.range, v.rooms.held, v.rooms.moving, k.front, compacted_chained z (call_of c.front_has.new.pass) r c.compact_front.result.dropped (take c.compact_front.result.kept (slots_of c.compact_front.new.pass)) h.0 v.rooms.held v.rooms.moving q (state c.compact_front.new.pass) k, k.rewritten.linked)

pub returns-clause-back : goal.returns-clause-back
returns-clause-back c = let z : Sizes = sizes c.args.table.now in let call = call_of c.args.pass.now in let r = c.in-Ok.pin.room in let v = state c.args.pass.now in let x = state c.pin_covering.new.pass in let y = state c.hold_pinned.new.pass in let q = state c.front_has.new.pass in let b = c.requires.compacted in
    let h = subst (λ (k : ℕ). (w : RoomCopy) × (g : MovingRange) × HoldsPinned z k r w g x y) c.pin_covering.ensures.own.call (c.hold_pinned.ensures.holds c.if-not-hold_pinned.false) in
    let to_here = c.hold_pinned.ensures.own.call ∙ c.pin_covering.ensures.own.call in
    let works = subst (λ (k : ℕ). WorksOnRooms z k y q) to_here c.front_has.ensures.works in
    let front = looked_front z call c.args.looks r c.args.key.now v x b.only c.in-Ok.ensures.pinned y h.0 h.1 h.2 q works c.front_has.ensures.rooms in
    let t = state c.compact_front.new.pass in let u = state c.open_front.new.pass in let slots = take c.compact_front.result.kept (slots_of c.compact_front.new.pass) in let dropped = c.compact_front.result.dropped in
    let k : CompactsFront z call r dropped slots h.0 v.rooms.held v.rooms.moving q t = subst (λ (n : ℕ). CompactsFront z n r dropped slots h.0 v.rooms.held v.rooms.moving q t) (c.front_has.ensures.own.call ∙ to_here) (c.compact_front.ensures.compacted h.0 h.1 v.rooms.held v.rooms.moving front b.valued b.rows b.apart) in
    let o : OpensFront z call r k.words v.rooms.held v.rooms.moving t u = subst (λ (n : ℕ). OpensFront z n r k.words v.rooms.held v.rooms.moving t u) (c.compact_front.ensures.own.call ∙ (c.front_has.ensures.own.call ∙ to_here)) (c.open_front.ensures.opens k.words k.range v.rooms.held v.rooms.moving k.front) in
    let off = subst (λ (t : Bool). MatchBool t (within (copy_span h.0) (key_number c.args.key.now) ≡ 1) (within (copy_span h.0) (key_number c.args.key.now) ≡ 1 → ⊥)) c.if-front_has.false (c.front_has.ensures.has h.0 h.1 v.rooms.held v.rooms.moving c.args.key.now (pinned_front z call c.args.looks r c.args.key.now v x b.only c.in-Ok.ensures.pinned y h.0 h.1 h.2) c.of.ensures) in
    back_off z call c.args.looks r c.args.key.now v x b.only c.in-Ok.ensures.pinned y h.0 h.1 h.2 q works c.front_has.ensures.rooms slots dropped t u k o off

pub returns-clause-busy : goal.returns-clause-busy
returns-clause-busy c = let z : Sizes = sizes c.args.table.now in let call = call_of c.args.pass.now in let r = c.in-Ok.pin.room in let v = state c.args.pass.now in let x = state c.pin_covering.new.pass in let y = state c.hold_pinned.new.pass in let q = state c.front_has.new.pass in let b = c.requires.compacted in
    let h = subst (λ (k : ℕ). (w : RoomCopy) × (g : MovingRange) × HoldsPinned z k r w g x y) c.pin_covering.ensures.own.call (c.hold_pinned.ensures.holds c.if-not-hold_pinned.false) in
    let to_here = c.hold_pinned.ensures.own.call ∙ c.pin_covering.ensures.own.call in
    let works = subst (λ (k : ℕ). WorksOnRooms z k y q) to_here c.front_has.ensures.works in
    let front = looked_front z call c.args.looks r c.args.key.now v x b.only c.in-Ok.ensures.pinned y h.0 h.1 h.2 q works c.front_has.ensures.rooms in
    let t = state c.compact_front.new.pass in let u = state c.open_front.new.pass in let slots = take c.compact_front.result.kept (slots_of c.compact_front.new.pass) in let dropped = c.compact_front.result.dropped in
    let k : CompactsFront z call r dropped slots h.0 v.rooms.held v.rooms.moving q t = subst (λ (n : ℕ). CompactsFront z n r dropped slots h.0 v.rooms.held v.rooms.moving q t) (c.front_has.ensures.own.call ∙ to_here) (c.compact_front.ensures.compacted h.0 h.1 v.rooms.held v.rooms.moving front b.valued b.rows b.apart) in
    let o : OpensFront z call r k.words v.rooms.held v.rooms.moving t u = subst (λ (n : ℕ). OpensFront z n r k.words v.rooms.held v.rooms.moving t u) (c.compact_front.ensures.own.call ∙ (c.front_has.ensures.own.call ∙ to_here)) (c.open_front.ensures.opens k.words k.range v.rooms.held v.rooms.moving k.front) in
    let off = subst (λ (t : Bool). MatchBool t (within (copy_span h.0) (key_number c.args.key.now) ≡ 1) (within (copy_span h.0) (key_number c.args.key.now) ≡ 1 → ⊥)) c.if-front_has.false (c.front_has.ensures.has h.0 h.1 v.rooms.held v.rooms.moving c.args.key.now (pinned_front z call c.args.looks r c.args.key.now v x b.only c.in-Ok.ensures.pinned y h.0 h.1 h.2) c.of.ensures) in
    busy_off z call c.args.looks r c.args.key.now v x b.only c.in-Ok.ensures.pinned y h.0 h.1 h.2 q works c.front_has.ensures.rooms slots dropped t u k o off

pub returns-clause-alone : goal.returns-clause-alone
returns-clause-alone c = let z : Sizes = sizes c.args.table.now in let call = call_of c.args.pass.now in let r = c.in-Ok.pin.room in let v = state c.args.pass.now in let x = state c.pin_covering.new.pass in let y = state c.hold_pinned.new.pass in let q = state c.front_has.new.pass in let b = c.requires.compacted in
    let h = subst (λ (k : ℕ). (w : RoomCopy) × (g : MovingRange) × HoldsPinned z k r w g x y) c.pin_covering.ensures.own.call (c.hold_pinned.ensures.holds c.if-not-hold_pinned.false) in
    let to_here = c.hold_pinned.ensures.own.call ∙ c.pin_covering.ensures.own.call in
    let works = subst (λ (k : ℕ). WorksOnRooms z k y q) to_here c.front_has.ensures.works in
    let front = looked_front z call c.args.looks r c.args.key.now v x b.only c.in-Ok.ensures.pinned y h.0 h.1 h.2 q works c.front_has.ensures.rooms in
    let t = state c.compact_front.new.pass in let u = state c.open_front.new.pass in let slots = take c.compact_front.result.kept (slots_of c.compact_front.new.pass) in let dropped = c.compact_front.result.dropped in
    let k : CompactsFront z call r dropped slots h.0 v.rooms.held v.rooms.moving q t = subst (λ (n : ℕ). CompactsFront z n r dropped slots h.0 v.rooms.held v.rooms.moving q t) (c.front_has.ensures.own.call ∙ to_here) (c.compact_front.ensures.compacted h.0 h.1 v.rooms.held v.rooms.moving front b.valued b.rows b.apart) in
    let o : OpensFront z call r k.words v.rooms.held v.rooms.moving t u = subst (λ (n : ℕ). OpensFront z n r k.words v.rooms.held v.rooms.moving t u) (c.compact_front.ensures.own.call ∙ (c.front_has.ensures.own.call ∙ to_here)) (c.open_front.ensures.opens k.words k.range v.rooms.held v.rooms.moving k.front) in
    let off = subst (λ (t : Bool). MatchBool t (within (copy_span h.0) (key_number c.args.key.now) ≡ 1) (within (copy_span h.0) (key_number c.args.key.now) ≡ 1 → ⊥)) c.if-front_has.false (c.front_has.ensures.has h.0 h.1 v.rooms.held v.rooms.moving c.args.key.now (pinned_front z call c.args.looks r c.args.key.now v x b.only c.in-Ok.ensures.pinned y h.0 h.1 h.2) c.of.ensures) in
    alone_off z call c.args.looks r c.args.key.now v x b.only c.in-Ok.ensures.pinned y h.0 h.1 h.2 q works c.front_has.ensures.rooms slots dropped t u k o off

pub returns-clause-swept : goal.returns-clause-swept
returns-clause-swept c = let z : Sizes = sizes c.args.table.now in let call = call_of c.args.pass.now in let r = c.in-Ok.pin.room in let v = state c.args.pass.now in let x = state c.pin_covering.new.pass in let y = state c.hold_pinned.new.pass in let q = state c.front_has.new.pass in let b = c.requires.compacted in
    let h = subst (λ (k : ℕ). (w : RoomCopy) × (g : MovingRange) × HoldsPinned z k r w g x y) c.pin_covering.ensures.own.call (c.hold_pinned.ensures.holds c.if-not-hold_pinned.false) in
    let to_here = c.hold_pinned.ensures.own.call ∙ c.pin_covering.ensures.own.call in
    let works = subst (λ (k : ℕ). WorksOnRooms z k y q) to_here c.front_has.ensures.works in
    let front = looked_front z call c.args.looks r c.args.key.now v x b.only c.in-Ok.ensures.pinned y h.0 h.1 h.2 q works c.front_has.ensures.rooms in
    let t = state c.compact_front.new.pass in let u = state c.open_front.new.pass in let slots = take c.compact_front.result.kept (slots_of c.compact_front.new.pass) in let dropped = c.compact_front.result.dropped in
    let k : CompactsFront z call r dropped slots h.0 v.rooms.held v.rooms.moving q t = subst (λ (n : ℕ). CompactsFront z n r dropped slots h.0 v.rooms.held v.rooms.moving q t) (c.front_has.ensures.own.call ∙ to_here) (c.compact_front.ensures.compacted h.0 h.1 v.rooms.held v.rooms.moving front b.valued b.rows b.apart) in
    let o : OpensFront z call r k.words v.rooms.held v.rooms.moving t u = subst (λ (n : ℕ). OpensFront z n r k.words v.rooms.held v.rooms.moving t u) (c.compact_front.ensures.own.call ∙ (c.front_has.ensures.own.call ∙ to_here)) (c.open_front.ensures.opens k.words k.range v.rooms.held v.rooms.moving k.front) in
    let off = subst (λ (t : Bool). MatchBool t (within (copy_span h.0) (key_number c.args.key.now) ≡ 1) (within (copy_span h.0) (key_number c.args.key.now) ≡ 1 → ⊥)) c.if-front_has.false (c.front_has.ensures.has h.0 h.1 v.rooms.held v.rooms.moving c.args.key.now (pinned_front z call c.args.looks r c.args.key.now v x b.only c.in-Ok.ensures.pinned y h.0 h.1 h.2) c.of.ensures) in
    swept_off z call c.args.looks r c.args.key.now v x b.only c.in-Ok.ensures.pinned y h.0 h.1 h.2 q works c.front_has.ensures.rooms slots dropped t u k o off

pub returns-then-not-hold_pinned-clause-swept : goal.returns-then-not-hold_pinned-clause-swept
returns-then-not-hold_pinned-clause-swept c = let z : Sizes = sizes c.args.table.now in let call = call_of c.args.pass.now in let r = c.in-Ok.pin.room in let x = state c.pin_covering.new.pass in let u = state c.hold_pinned.new.pass in
    swept_lost z call c.args.looks r c.args.key.now (state c.args.pass.now) x c.requires.compacted.only c.in-Ok.ensures.pinned u (subst (λ (k : ℕ). LosesPinned z k c.args.looks r x u) c.pin_covering.ensures.own.call (c.hold_pinned.ensures.loses c.if-not-hold_pinned.true))

pub returns-in_default-clause-swept : goal.returns-in_default-clause-swept
returns-in_default-clause-swept c = inl c.in_default.ensures.only.stands.swept
