use Rattle.std.proofs.Common.{◌*◌, ℕ, ap, sym, subst, arith}
use Rattle.oak_model.specs.declared.classes.Class.{Class}
use Rattle.oak_model.specs.Class.{class_number}
use Rattle.oak_model.specs.Limits.{Sizes}
use Rattle.arena_core.specs.Blocks.{HoldsBlock}
use Rattle.header_core.specs.declared.holds.HeldAs.TheVariants.{Fresh}
use Rattle.header_core.specs.HeaderStep.{release_header}
use Rattle.header_core.specs.Headers.{at_place}
use Rattle.oak_core.specs.HeaderCalls.{Releases}
use Rattle.oak_core.specs.Memory.{in_headers}
use Rattle.oak_core.specs.Passes.{state, key, call_of}
use Rattle.oak_core.specs.Step.{on_headers}
use Rattle.oak_core.proofs.memory.Words.{index_below}
use Rattle.value_ops.specs.Filling.{Withdraws}
use Rattle.oak_core.proofs.calls.MetMore.{told_in}
use Rattle.value_ops.proofs.WithdrawFacts.{may_release, withdraws, holds_block}
use Rattle.value_ops.proofs.filling.withdraw.Goals as goal

pub returns-clause-withdrawn : goal.returns-clause-withdrawn
returns-clause-withdrawn c = let z : Sizes = key c.args.table.now in let call = call_of c.args.pass.now in let h = c.args.fresh.header in let v = state c.args.pass.now in let u = state c.load-named.new.pass in let w = state c.release_header.new.pass in let k = c.release_header.result in
    let t : Releases z call h Fresh u k w = told_in z call (call_of c.load-named.new.pass) (on_headers (release_header h Fresh)) u k w c.load-named.ensures.own.call
    (c.release_header.ensures.told h Fresh record { inside = c.requires.inside; word_is = c.pin_at-word.ensures; operand_is = ap (λ n. n * 268435456) c.from.ensures }) in
    subst (λ (p : Class × ℕ). Withdraws z call h p.0 p.1 v w) (λ i. (sym c.class_in.ensures i, sym c.block_in.ensures i))
    (withdraws z call h c.args.fresh.generation v c.requires.inside c.requires.fresh c.requires.unpinned c.place_at-place.result c.load-named.result u c.place_at-place.ensures c.load-named.ensures.loaded k w t)

pub load-named-requires-clause-inside : goal.load-named-requires-clause-inside
load-named-requires-clause-inside c = let e = c.place_at-place.ensures in let b = index_below (key c.args.table.now) (in_headers (at_place c.args.fresh.header)) c.requires.inside in omega arith

pub release_header-requires-clause-names : goal.release_header-requires-clause-names
release_header-requires-clause-names c = let z : Sizes = key c.args.table.now in let call = call_of c.args.pass.now in let h = c.args.fresh.header in (
  h,
  Fresh,
  record { inside = c.requires.inside; word_is = c.pin_at-word.ensures; operand_is = ap (λ n. n * 268435456) c.from.ensures },
  may_release z call h c.args.fresh.generation (state c.args.pass.now) c.requires.inside c.requires.fresh c.requires.unpinned c.place_at-place.result c.load-named.result (state c.load-named.new.pass) c.place_at-place.ensures c.load-named.ensures.loaded,
)

pub returns-clause-held : goal.returns-clause-held
returns-clause-held c = let z : Sizes = key c.args.table.now in let call = call_of c.args.pass.now in let h = c.args.fresh.header in let u = state c.load-named.new.pass in let w = state c.release_header.new.pass in let k = c.release_header.result in
    let t : Releases z call h Fresh u k w = told_in z call (call_of c.load-named.new.pass) (on_headers (release_header h Fresh)) u k w c.load-named.ensures.own.call
    (c.release_header.ensures.told h Fresh record { inside = c.requires.inside; word_is = c.pin_at-word.ensures; operand_is = ap (λ n. n * 268435456) c.from.ensures }) in
    subst (λ (p : Class × ℕ). HoldsBlock z (class_number p.0) p.1 w.blocks) (λ i. (sym c.class_in.ensures i, sym c.block_in.ensures i))
    (holds_block z call h c.args.fresh.generation (state c.args.pass.now) c.requires.inside c.requires.fresh c.requires.unpinned c.place_at-place.result c.load-named.result u c.place_at-place.ensures c.load-named.ensures.loaded k w t)
