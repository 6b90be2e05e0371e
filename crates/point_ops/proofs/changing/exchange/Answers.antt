use Rattle.point_ops.proofs.LoneOver.{swaps_alone}
use Rattle.point_ops.proofs.LoneKept.{changes_kept, given_kept, lock_whole, round_alone}
use Rattle.point_ops.proofs.LoneChanges.{unfree_given}
use Rattle.std.proofs.Common.{ℕ, List, Some, cond, ◌==◌, length, refl, sym, ap, ◌∙◌, subst}
use Rattle.oak_model.specs.declared.writes.Kind.TheVariants.{Put}
use Rattle.oak_model.specs.declared.cells.CellCall.TheVariants as calls
use Rattle.oak_model.specs.Class.{class_number}
use Rattle.oak_model.specs.Limits.{Sizes}
use Rattle.arena_core.specs.Blocks.{words_held}
use Rattle.arena_core.specs.Place.{place_word}
use Rattle.header_core.specs.declared.holds.HeldHeader.{HeldHeader}
use Rattle.oak_core.specs.declared.states.PassState.{PassState}
use Rattle.oak_core.specs.CallSteps.{Stands}
use Rattle.oak_core.specs.Passes.{state, key as sizes, call_of}
use Rattle.oak_core.proofs.calls.CallSteps.{stands_both, stands_in}
use Rattle.value_ops.specs.OneHeader.{IsOneHeader, IsOneBlock}
use Rattle.value_ops.proofs.OneHeaderLaws.{given_headers, given_none}
use Rattle.point_ops.proofs.AloneHeld.{exchanged_block, exchanged_value, gave_stands, locked_one, one_mapped, wrote_none}
use Rattle.point_ops.proofs.LocksKept.{changed_writes}
use Rattle.point_ops.proofs.NoLockFacts.{refused_by, refused_only, refused_some, refused_until}
use Rattle.point_ops.proofs.WritesIn.{wrote_until}
use Rattle.point_ops.proofs.changing.exchange.Goals as goal

pub returns-in_default-clause-stands : goal.returns-in_default-clause-stands
returns-in_default-clause-stands c = let z : Sizes = sizes c.args.table.now in let call = call_of c.args.pass.now in let v : PassState = state c.args.pass.now in let u : PassState = state c.lock.new.pass in let w : PassState = state c.give.new.pass in
    stands_both call v u w (refused_only z call c.args.home.header c.args.home.generation c.in_default.field-0 v u c.requires.inside c.in_default.ensures.refused c.in_default.ensures.refused_alone).stands
    (stands_in call (call_of c.lock.new.pass) u w c.lock.ensures.own.call (gave_stands z (call_of c.lock.new.pass) c.args.block.class c.args.block.number u w c.give.ensures.given))

pub returns-in_default-clause-refused : goal.returns-in_default-clause-refused
returns-in_default-clause-refused c = let z : Sizes = sizes c.args.table.now in let call = call_of c.args.pass.now in let v : PassState = state c.args.pass.now in let u : PassState = state c.lock.new.pass in let w : PassState = state c.give.new.pass in
    let gave : Stands call u w = stands_in call (call_of c.lock.new.pass) u w c.lock.ensures.own.call (gave_stands z (call_of c.lock.new.pass) c.args.block.class c.args.block.number u w c.give.ensures.given) in (
      refl,
      refused_some z call c.args.home.header c.args.home.generation c.in_default.field-0 v w (refused_until z call c.args.home.header c.args.home.generation c.in_default.field-0 v u w gave.met
          (refused_by z call c.args.home.header c.args.home.generation c.in_default.field-0 v u c.requires.inside c.requires.none c.in_default.ensures.refused)),
    )

pub unlock-at-requires-clause-makes : goal.unlock-at-requires-clause-makes
unlock-at-requires-clause-makes c = record { ask = calls.Put _; kind_is = refl; writes = refl; leaves = refl }

pub returns-clause-blocks : goal.returns-clause-blocks
returns-clause-blocks c = let z : Sizes = sizes c.args.table.now in let u : PassState = state c.lock.new.pass in let w : PassState = state c.change-old.new.pass in let x : PassState = state c.unlock-at.new.pass in let b = c.args.block in let o = c.change-old.result in let l = c.in-Ok.locked in
    let before : IsOneBlock b.class b.number u.blocks = subst (IsOneBlock b.class b.number) (sym c.in-Ok.ensures.locked.2.blocks) c.requires.one in
    let old : IsOneBlock o.class o.number w.blocks = exchanged_block z (call_of c.lock.new.pass) l.header b.class b.number (length c.args.value.now) o.class o.number u w before c.change-old.ensures.changed in
    given_none z (call_of c.unlock-at.new.pass) x (state c.give-2.new.pass) o.class o.number (subst (IsOneBlock o.class o.number) (sym (ap (λ (y : PassState). y.blocks) c.unlock-at.ensures.unlocked.ends.comes.after)) old) c.give-2.ensures.given

pub returns-clause-headers : goal.returns-clause-headers
returns-clause-headers c = let z : Sizes = sizes c.args.table.now in let v : PassState = state c.args.pass.now in let u : PassState = state c.lock.new.pass in let w : PassState = state c.change-old.new.pass in let x : PassState = state c.unlock-at.new.pass in let o = c.change-old.result in let l = c.in-Ok.locked in let s = c.change-old.new.self in
    let before : IsOneHeader s.header u.headers = locked_one z (call_of c.args.pass.now) c.args.home.header c.args.home.generation s.header v u (ap (λ y. y.header) c.change-old.ensures.same ∙ c.in-Ok.ensures.locked.0) c.requires.none c.in-Ok.ensures.locked.2 in
    let now : IsOneHeader s.header w.headers = subst (IsOneHeader s.header) (sym (ap (λ (y : PassState). y.headers) c.change-old.ensures.changed.comes.after)) (one_mapped s.header u.headers _ (λ r. refl) before) in
    given_headers z (call_of c.unlock-at.new.pass) x (state c.give-2.new.pass) o.class o.number c.give-2.ensures.given ∙ wrote_none z (call_of c.change-old.new.pass) s.header s.generation Put c.unlock-at.result w x now c.unlock-at.ensures.unlocked

pub returns-clause-wrote : goal.returns-clause-wrote
returns-clause-wrote c = λ k known. let z : Sizes = sizes c.args.table.now in let call = call_of c.args.pass.now in let v : PassState = state c.args.pass.now in let u : PassState = state c.lock.new.pass in let w : PassState = state c.change-old.new.pass in let x : PassState = state c.unlock-at.new.pass in let y : PassState = state c.give-2.new.pass in
    let l = c.in-Ok.locked in let locks = c.in-Ok.ensures.keys k known in let changed = c.change-old.ensures.changed in let b = c.args.block in let o = c.change-old.result in let bytes : List ℕ = c.args.value.now in
    let words : List ℕ = words_held (class_number b.class) b.number u.blocks.held in let place : ℕ = place_word (class_number b.class) b.number (length bytes) in (
      locks.before,
      wrote_until call k Put (Some locks.before) (Some bytes) c.unlock-at.result v x y
          (changed_writes (λ (r : HeldHeader). record r { place = cond (r.header == l.header) place r.place; words = cond (r.header == l.header) words r.words }) (λ r. refl) (λ r. refl) (λ r. refl) (λ r. refl)
          z call (call_of c.lock.new.pass) (call_of c.change-old.new.pass) k v u w x l c.change-old.new.self c.change-old.ensures.same Put c.unlock-at.result bytes locks c.in-Ok.ensures.locked.2.learns
          c.lock.ensures.own.call _ changed.comes c.change-old.ensures.locked
          (exchanged_value z (call_of c.lock.new.pass) l.header l.generation b.class b.number bytes o.class o.number v u w c.requires.block c.in-Ok.ensures.locked.2.blocks c.in-Ok.ensures.has.0 changed) c.unlock-at.ensures.stamp
          (c.change-old.ensures.own.call ∙ c.lock.ensures.own.call) c.unlock-at.ensures.wrote)
          (stands_in call (call_of c.unlock-at.new.pass) x y (c.unlock-at.ensures.own.call ∙ (c.change-old.ensures.own.call ∙ c.lock.ensures.own.call)) (gave_stands z (call_of c.unlock-at.new.pass) o.class o.number x y c.give-2.ensures.given)),
    )

pub returns-in_default-clause-alone : goal.returns-in_default-clause-alone
returns-in_default-clause-alone c = let b = c.args.block in unfree_given (sizes c.args.table.now) c.args.home.header c.args.home.generation c.in_default.field-0 b.class b.number (state c.args.pass.now) (state c.lock.new.pass) (state c.give.new.pass) c.in_default.ensures.refused_alone c.give.ensures.given.still

pub returns-clause-alone_kept : goal.returns-clause-alone_kept
returns-clause-alone_kept c = let z : Sizes = sizes c.args.table.now in let h = c.args.home.header in let g = c.args.home.generation in let l = c.in-Ok.locked in let b = c.args.block in let o = c.change-old.result in
    let v : PassState = state c.args.pass.now in let u : PassState = state c.lock.new.pass in let x : PassState = state c.unlock-at.new.pass in
    let same = c.change-old.ensures.same in let header = c.in-Ok.ensures.locked.0 in let generation = c.in-Ok.ensures.locked.1 in
    given_kept z h o.class o.number c.change-old.ensures.held.inside v x (state c.give-2.new.pass)
    (round_alone z h g c.requires.inside _ (changes_kept z h c.requires.inside l.header header b.class b.number (length c.args.value.now) o.class o.number) v u (state c.change-old.new.pass) x
    (lock_whole z (call_of c.args.pass.now) h g l.header l.generation v u header c.in-Ok.ensures.locked.2 c.in-Ok.ensures.has.0 c.in-Ok.ensures.alone) c.change-old.ensures.alone
    c.change-old.new.self.header c.change-old.new.self.generation c.unlock-at.result (ap (λ k. k.header) same ∙ header) (ap (λ k. k.generation) same ∙ generation) c.unlock-at.ensures.alone)
    c.give-2.ensures.given.still

pub returns-clause-alone_swaps : goal.returns-clause-alone_swaps
returns-clause-alone_swaps c = let z : Sizes = sizes c.args.table.now in let h = c.args.home.header in let g = c.args.home.generation in let l = c.in-Ok.locked in let b = c.args.block in let o = c.change-old.result in
    let v : PassState = state c.args.pass.now in let u : PassState = state c.lock.new.pass in let x : PassState = state c.unlock-at.new.pass in
    let same = c.change-old.ensures.same in let header = c.in-Ok.ensures.locked.0 in let generation = c.in-Ok.ensures.locked.1 in
    swaps_alone z h g c.requires.inside b.class b.number (length c.args.value.now) o.class o.number c.change-old.ensures.held.inside v u (state c.change-old.new.pass) x (state c.give-2.new.pass)
    (lock_whole z (call_of c.args.pass.now) h g l.header l.generation v u header c.in-Ok.ensures.locked.2 c.in-Ok.ensures.has.0 c.in-Ok.ensures.alone) l.header header c.change-old.ensures.alone
    c.change-old.new.self.header c.change-old.new.self.generation c.unlock-at.result (ap (λ k. k.header) same ∙ header) (ap (λ k. k.generation) same ∙ generation) c.unlock-at.ensures.alone c.give-2.ensures.given.still
