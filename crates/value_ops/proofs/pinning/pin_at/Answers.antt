use Rattle.std.proofs.Common.{◌≡◌, ℕ, sym, refl, ◌∙◌, subst, arith}
use Rattle.oak_model.specs.Limits.{Sizes}
use Rattle.header_core.specs.Headers.{at_stamp}
use Rattle.oak_core.specs.declared.states.PassState.{PassState}
use Rattle.oak_core.specs.HeaderCalls.{NamesPin, Pins}
use Rattle.oak_core.specs.Memory.{in_headers}
use Rattle.oak_core.specs.Passes.{state, key, call_of}
use Rattle.oak_core.proofs.memory.Words.{index_below}
use Rattle.value_ops.proofs.PinFacts.{pins_now, pins_later, pinned_live, dead_left, locked_dud, dead_dud, other_dud}
use Rattle.value_ops.proofs.pinning.pin_at.Goals as goal

-- the pin step, told of the generation that the call was given
wanted : (z : Sizes) (call h word k g n : ℕ) (v w : PassState) → k ≡ g → ((j : ℕ) → NamesPin z j word → Pins z call j k v n w) → NamesPin z h word → Pins z call h g v n w
wanted z call h word k g n v w e told names = subst (λ (i : ℕ). Pins z call h i v n w) e (told h names)

pub unpin-requires-clause-pinned : goal.unpin-requires-clause-pinned
unpin-requires-clause-pinned c = let z : Sizes = key c.args.table.now in let call = call_of c.args.pass.now in let h = c.args.header in let g = c.args.generation in let n = c.pin_header-found.result in let v = state c.args.pass.now in let w = state c.pin_header-found.new.pass in
    let t = wanted z call h c.pin_at-word.result c.from.result g n v w c.from.ensures c.pin_header-found.ensures.told record { inside = c.requires.inside; word_is = c.pin_at-word.ensures } in pins_now z call h g n v w t

pub returns-then-state-eq-LIVE-clause-good : goal.returns-then-state-eq-LIVE-clause-good
returns-then-state-eq-LIVE-clause-good c = let z : Sizes = key c.args.table.now in let call = call_of c.args.pass.now in let h = c.args.header in let g = c.args.generation in let n = c.pin_header-found.result in let v = state c.args.pass.now in let w = state c.pin_header-found.new.pass in
    let t = wanted z call h c.pin_at-word.result c.from.result g n v w c.from.ensures c.pin_header-found.ensures.told record { inside = c.requires.inside; word_is = c.pin_at-word.ensures } in
    (refl, refl, pinned_live z call h g n v w t (sym c.generation.ensures ∙ c.if-generation.false) (sym c.state-state.ensures ∙ c.if-state-eq-LIVE.true))

pub unpin-requires-then-state-eq-LOCKED-clause-pinned : goal.unpin-requires-then-state-eq-LOCKED-clause-pinned
unpin-requires-then-state-eq-LOCKED-clause-pinned c = let z : Sizes = key c.args.table.now in let call = call_of c.args.pass.now in let h = c.args.header in let g = c.args.generation in let n = c.pin_header-found.result in let v = state c.args.pass.now in let w = state c.pin_header-found.new.pass in
    let t = wanted z call h c.pin_at-word.result c.from.result g n v w c.from.ensures c.pin_header-found.ensures.told record { inside = c.requires.inside; word_is = c.pin_at-word.ensures } in pins_now z call h g n v w t

pub load-stamp-requires-clause-inside : goal.load-stamp-requires-clause-inside
load-stamp-requires-clause-inside c = let e = c.stamp_at.ensures in let l = index_below (key c.args.table.now) (in_headers (at_stamp c.args.header)) c.requires.inside in omega arith

pub unpin-requires-2-clause-pinned : goal.unpin-requires-2-clause-pinned
unpin-requires-2-clause-pinned c = let z : Sizes = key c.args.table.now in let call = call_of c.args.pass.now in let h = c.args.header in let g = c.args.generation in let n = c.pin_header-found.result in let v = state c.args.pass.now in let w = state c.pin_header-found.new.pass in
    let t = wanted z call h c.pin_at-word.result c.from.result g n v w c.from.ensures c.pin_header-found.ensures.told record { inside = c.requires.inside; word_is = c.pin_at-word.ensures } in
    pins_later z call h g n v w t (call_of c.pin_header-found.new.pass) c.stamp_at.result c.load-stamp.result (state c.load-stamp.new.pass) c.load-stamp.ensures.loaded

pub returns-clause-bad : goal.returns-clause-bad
returns-clause-bad c = let z : Sizes = key c.args.table.now in let call = call_of c.args.pass.now in let h = c.args.header in let g = c.args.generation in let n = c.pin_header-found.result in let v = state c.args.pass.now in let w = state c.pin_header-found.new.pass in
    let t = wanted z call h c.pin_at-word.result c.from.result g n v w c.from.ensures c.pin_header-found.ensures.told record { inside = c.requires.inside; word_is = c.pin_at-word.ensures } in
    let same = sym c.generation.ensures ∙ c.if-generation.false in let s = c.state-state.ensures in let one = c.if-state-eq-LIVE.false in let two = c.if-state-eq-LOCKED.false in
    dead_dud z call h g n v w t c.requires.unpinned (call_of c.pin_header-found.new.pass) (call_of c.load-stamp.new.pass) c.stamp_at.result c.load-stamp.result (state c.load-stamp.new.pass) (state c.unpin-2.new.pass)
    c.pin_header-found.ensures.own.call (c.load-stamp.ensures.own.call ∙ c.pin_header-found.ensures.own.call) same (dead_left z call h g n v w t same (λ e. one (s ∙ e)) (λ e. two (s ∙ e))) c.stamp_at.ensures c.load-stamp.ensures.loaded c.unpin-2.ensures.undone

pub returns-then-generation-clause-bad : goal.returns-then-generation-clause-bad
returns-then-generation-clause-bad c = let z : Sizes = key c.args.table.now in let call = call_of c.args.pass.now in let h = c.args.header in let g = c.args.generation in let n = c.pin_header-found.result in let v = state c.args.pass.now in let w = state c.pin_header-found.new.pass in
    let t = wanted z call h c.pin_at-word.result c.from.result g n v w c.from.ensures c.pin_header-found.ensures.told record { inside = c.requires.inside; word_is = c.pin_at-word.ensures } in
    other_dud z call h g n v w t c.requires.unpinned (call_of c.pin_header-found.new.pass) (state c.unpin.new.pass) c.pin_header-found.ensures.own.call (λ e. c.if-generation.true (c.generation.ensures ∙ e)) c.unpin.ensures.undone

pub returns-then-state-eq-LOCKED-clause-bad : goal.returns-then-state-eq-LOCKED-clause-bad
returns-then-state-eq-LOCKED-clause-bad c = let z : Sizes = key c.args.table.now in let call = call_of c.args.pass.now in let h = c.args.header in let g = c.args.generation in let n = c.pin_header-found.result in let v = state c.args.pass.now in let w = state c.pin_header-found.new.pass in
    let t = wanted z call h c.pin_at-word.result c.from.result g n v w c.from.ensures c.pin_header-found.ensures.told record { inside = c.requires.inside; word_is = c.pin_at-word.ensures } in
    locked_dud z call h g n v w t c.requires.unpinned (call_of c.pin_header-found.new.pass) (state c.unpin-then-state-eq-LOCKED.new.pass) c.pin_header-found.ensures.own.call (sym c.generation.ensures ∙ c.if-generation.false) (sym c.state-state.ensures ∙ c.if-state-eq-LOCKED.true) c.unpin-then-state-eq-LOCKED.ensures.undone
