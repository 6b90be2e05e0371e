use Rattle.std.proofs.Common.{◌≡◌, rules, subst, MatchOption}
use Rattle.oak_core.specs.declared.states.PassState.{PassState}
use Rattle.oak_core.specs.AloneWords.{Runs}
use Rattle.oak_core.specs.Passes.{state, key as sizes, call_of}
use Rattle.chunk_ops.specs.AskedRanges.{bytes_in_option}
use Rattle.chunk_ops.specs.Finds.{FindsNearest, FindsNone}
use Rattle.chunk_ops.specs.FindsAlone.{NearestIn, as_entry}
use Rattle.chunk_ops.specs.PinRecords.{UnderPin}
use Rattle.chunk_ops.specs.Ways.{Down}
use Rattle.chunk_ops.proofs.NearFound.{said_below, said_below_alone}
use Rattle.chunk_ops.proofs.SearchLoads.{searched}
use Rattle.chunk_ops.proofs.searching.below.Goals as goal

pub below-requires : goal.below-requires
below-requires c = record { pinned = record { own = c.requires.own; pin = c.requires.pinned; first = c.first_key_at.ensures } }

pub returns-clause-own : goal.returns-clause-own
returns-clause-own c = let f = c.below.ensures.loads.on.same.own in search (rules, f)

pub returns-clause-nearest : goal.returns-clause-nearest
returns-clause-nearest c = let z = sizes c.args.table.now in let call = call_of c.args.pass.now in let r = c.args.pin.now.room in let b = bytes_in_option c.args.key in let v = state c.args.pass.now in let t = c.below.new.room in let s = searched _ t c.requires.pinned c.below.ensures.loads in
    let e : c.map.result ≡ as_entry c.below.result = search rules in
    subst (λ (w : PassState). MatchOption c.map.result (FindsNone z call r Down b v w) (λ i. FindsNearest z call r Down b i.0 v w)) (search rules)
    (said_below _ t c.args.key c.requires.key c.below.ensures.bytes c.requires.pinned s.loads.under.pin.has c.below.result c.map.result e c.below.ensures.over c.below.ensures.nearest)

pub returns-clause-under : goal.returns-clause-under
returns-clause-under c = let s = searched _ c.below.new.room c.requires.pinned c.below.ensures.loads in
    subst (λ (w : PassState). UnderPin (sizes c.args.table.now) (call_of c.args.pass.now) c.args.pin.now.room (state c.args.pass.now) w) (search rules) s.loads.under

pub returns-clause-quiet : goal.returns-clause-quiet
returns-clause-quiet c = let s = searched _ c.below.new.room c.requires.pinned c.below.ensures.loads in let f = s.loads.quiet in search (rules, f)

pub returns-clause-few : goal.returns-clause-few
returns-clause-few c = let s = searched _ c.below.new.room c.requires.pinned c.below.ensures.loads in let f = s.few in search (rules, f)

pub returns-clause-alone : goal.returns-clause-alone
returns-clause-alone c = let z = sizes c.args.table.now in let r = c.args.pin.now.room in let b = bytes_in_option c.args.key in let v = state c.args.pass.now in let t = c.below.new.room in let s = searched _ t c.requires.pinned c.below.ensures.loads in
    let e : c.map.result ≡ as_entry c.below.result = search rules in
    subst (λ (w : PassState). Runs (NearestIn z r Down b c.map.result) v w) (search rules)
    (said_below_alone _ t c.args.key c.requires.key c.below.ensures.bytes c.requires.pinned s.loads.under.pin.has c.below.result c.map.result e c.below.ensures.over c.below.ensures.nearest)
