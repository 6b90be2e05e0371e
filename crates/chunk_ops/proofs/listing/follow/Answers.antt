use Rattle.std.proofs.Common.{arith}
use Rattle.oak_model.specs.Limits.{Sizes}
use Rattle.chunk_core.specs.LinkWords.{link_spot}
use Rattle.oak_core.specs.Memory.{in_rooms}
use Rattle.oak_core.specs.Passes.{call_of, key as sizes, state}
use Rattle.oak_core.proofs.memory.Words.{index_below}
use Rattle.chunk_ops.specs.Listing.{number_of}
use Rattle.chunk_ops.proofs.LinkedPins.{link_small, links_now}
use Rattle.chunk_ops.proofs.StepsAlong.{link_is, starts_inside, starts_lead, steps_along}
use Rattle.chunk_ops.proofs.WordLoads.{load_at}
use Rattle.chunk_ops.proofs.listing.follow.Goals as goal

pub load-link-requires-clause-inside : goal.load-link-requires-clause-inside
load-link-requires-clause-inside c = let z : Sizes = sizes c.args.table.now in let r = c.args.pin.now.room in let l = index_below z (in_rooms (link_spot r (number_of c.args.from))) (starts_inside z r c.args.from (state c.args.pass.now) c.requires.pinned c.requires.from) in let e = c.requires.number in omega arith

pub overflow_cast-link : goal.overflow_cast-link
overflow_cast-link c = let z : Sizes = sizes c.args.table.now in let r = c.args.pin.now.room in let call = call_of c.args.pass.now in let v = state c.args.pass.now in let w = state c.load-link.new.pass in let n = c.load-link.result in let p = c.requires.pinned in
    let k = links_now z call r v n w p (number_of c.args.from) (starts_lead r c.args.from v c.requires.from) (load_at z call c.args.word n v w (in_rooms (link_spot r (number_of c.args.from))) (starts_inside z r c.args.from v p c.requires.from) c.requires.number c.load-link.ensures.loaded) in
    let l = link_small z r n w k.under.pin.has k.named in omega (arith, l)

pub returns-clause-steps : goal.returns-clause-steps
returns-clause-steps c = let z : Sizes = sizes c.args.table.now in let r = c.args.pin.now.room in let call = call_of c.args.pass.now in let v = state c.args.pass.now in let w = state c.load-link.new.pass in let n = c.load-link.result in let p = c.requires.pinned in
    steps_along z call r c.args.from c.map.result n v w p c.requires.from (load_at z call c.args.word n v w (in_rooms (link_spot r (number_of c.args.from))) (starts_inside z r c.args.from v p c.requires.from) c.requires.number c.load-link.ensures.loaded) (link_is c.checked_sub.result c.map.result n c.checked_sub.ensures c.map.ensures.cases)
