use Rattle.std.proofs.Common.{rules, sym, subst, ap, ◌∙◌}
use Rattle.oak_core.specs.declared.states.PassState.{PassState}
use Rattle.oak_core.specs.AloneWords.{Runs}
use Rattle.oak_core.specs.Passes.{state, key as sizes, call_of}
use Rattle.link_search.specs.Finds.{IsAt, IsBetween}
use Rattle.link_search.specs.Linked.{IsFront, Linked}
use Rattle.chunk_ops.specs.PinRecords.{UnderPin, WordsStay}
use Rattle.chunk_ops.specs.Prefixes.{HalvesPrefix, SplitsPrefix}
use Rattle.chunk_ops.proofs.CompareFacts.{slice_bytes}
use Rattle.chunk_ops.proofs.PrefixSplits.{halved, halves, met_all, splits_at, splits_between}
use Rattle.chunk_ops.proofs.prefixes.prefix_below.Goals as goal

pub count-count-requires : goal.count-count-requires
count-count-requires c = record { own = c.requires.own; pin = c.requires.pinned; first = c.first_key_at.ensures }

-- an entry of the prefix has the key

pub returns-in-At-clause-own : goal.returns-in-At-clause-own
returns-in-At-clause-own c = let n = c.count-count in let u = n.new.self in let t = c.search.new.self in let e = c.in-At.ensures in let same = n.ensures.prefix ∙ ap (λ (x : Linked). x.prefix) (sym e.same) in
    let f = (met_all _ u t c.requires.pinned n.result c.prefix_in.result n.ensures.meets e.loads (c.prefix_in.ensures ∙ same)).same.own in search (rules, f)

pub returns-in-At-clause-splits : goal.returns-in-At-clause-splits
returns-in-At-clause-splits c = let z = sizes c.args.table.now in let call = call_of c.args.pass.now in let r = c.args.pin.now.room in let v = state c.args.pass.now in let n = c.count-count in let u = n.new.self in let t = c.search.new.self in let e = c.in-At.ensures in
    let same = n.ensures.prefix ∙ ap (λ (x : Linked). x.prefix) (sym e.same) in let s = halved _ u t c.requires.pinned n.result c.prefix_in.result n.ensures.meets e.loads (c.prefix_in.ensures ∙ same) in let k = c.args.key.now in let i = c.in-At.entry in
    subst (λ (w : PassState). SplitsPrefix r k i w) (search rules)
    (splits_at z r k (state t.pass.now) s.loads.under.pin.has (slice_bytes k c.type_inv.key) c.requires.key (subst IsFront (sym e.same) n.ensures.front) s.few.count s.few.found s.left.words s.left.moment i (subst (λ (x : Linked). IsAt x k i) (sym e.same) e.place))

pub returns-in-At-clause-few : goal.returns-in-At-clause-few
returns-in-At-clause-few c = let z = sizes c.args.table.now in let call = call_of c.args.pass.now in let r = c.args.pin.now.room in let v = state c.args.pass.now in let n = c.count-count in let u = n.new.self in let t = c.search.new.self in let e = c.in-At.ensures in
    let same = n.ensures.prefix ∙ ap (λ (x : Linked). x.prefix) (sym e.same) in
    subst (λ (w : PassState). HalvesPrefix z r v w) (search rules) (halves _ u t c.requires.pinned n.result c.prefix_in.result n.ensures.meets e.loads (c.prefix_in.ensures ∙ same))

pub returns-in-At-clause-under : goal.returns-in-At-clause-under
returns-in-At-clause-under c = let z = sizes c.args.table.now in let call = call_of c.args.pass.now in let r = c.args.pin.now.room in let v = state c.args.pass.now in let n = c.count-count in let u = n.new.self in let t = c.search.new.self in let e = c.in-At.ensures in
    let same = n.ensures.prefix ∙ ap (λ (x : Linked). x.prefix) (sym e.same) in let s = halved _ u t c.requires.pinned n.result c.prefix_in.result n.ensures.meets e.loads (c.prefix_in.ensures ∙ same) in
    subst (λ (w : PassState). UnderPin z call r v w) (search rules) s.loads.under

pub returns-in-At-clause-quiet : goal.returns-in-At-clause-quiet
returns-in-At-clause-quiet c = let z = sizes c.args.table.now in let call = call_of c.args.pass.now in let r = c.args.pin.now.room in let v = state c.args.pass.now in let n = c.count-count in let u = n.new.self in let t = c.search.new.self in let e = c.in-At.ensures in
    let same = n.ensures.prefix ∙ ap (λ (x : Linked). x.prefix) (sym e.same) in let s = halved _ u t c.requires.pinned n.result c.prefix_in.result n.ensures.meets e.loads (c.prefix_in.ensures ∙ same) in let f = s.loads.quiet in search (rules, f)

pub returns-in-At-clause-still : goal.returns-in-At-clause-still
returns-in-At-clause-still c = let z = sizes c.args.table.now in let call = call_of c.args.pass.now in let r = c.args.pin.now.room in let v = state c.args.pass.now in let n = c.count-count in let u = n.new.self in let t = c.search.new.self in let e = c.in-At.ensures in
    let same = n.ensures.prefix ∙ ap (λ (x : Linked). x.prefix) (sym e.same) in let s = halved _ u t c.requires.pinned n.result c.prefix_in.result n.ensures.meets e.loads (c.prefix_in.ensures ∙ same) in
    subst (λ (w : PassState). Runs WordsStay v w) (search rules) s.loads.still

-- or none has it

pub returns-in-Between-clause-own : goal.returns-in-Between-clause-own
returns-in-Between-clause-own c = let n = c.count-count in let u = n.new.self in let t = c.search.new.self in let e = c.in-Between.ensures in let same = n.ensures.prefix ∙ ap (λ (x : Linked). x.prefix) (sym e.same) in
    let f = (met_all _ u t c.requires.pinned n.result c.prefix_in.result n.ensures.meets e.loads (c.prefix_in.ensures ∙ same)).same.own in search (rules, f)

pub returns-in-Between-clause-splits : goal.returns-in-Between-clause-splits
returns-in-Between-clause-splits c = let z = sizes c.args.table.now in let call = call_of c.args.pass.now in let r = c.args.pin.now.room in let v = state c.args.pass.now in let n = c.count-count in let u = n.new.self in let t = c.search.new.self in let e = c.in-Between.ensures in
    let same = n.ensures.prefix ∙ ap (λ (x : Linked). x.prefix) (sym e.same) in let s = halved _ u t c.requires.pinned n.result c.prefix_in.result n.ensures.meets e.loads (c.prefix_in.ensures ∙ same) in let k = c.args.key.now in let i = c.in-Between.many in
    subst (λ (w : PassState). SplitsPrefix r k i w) (search rules)
    (splits_between z r k (state t.pass.now) s.loads.under.pin.has (slice_bytes k c.type_inv.key) c.requires.key (subst IsFront (sym e.same) n.ensures.front) s.few.count s.few.found s.left.words s.left.moment i (subst (λ (x : Linked). IsBetween x k i) (sym e.same) e.place))

pub returns-in-Between-clause-few : goal.returns-in-Between-clause-few
returns-in-Between-clause-few c = let z = sizes c.args.table.now in let call = call_of c.args.pass.now in let r = c.args.pin.now.room in let v = state c.args.pass.now in let n = c.count-count in let u = n.new.self in let t = c.search.new.self in let e = c.in-Between.ensures in
    let same = n.ensures.prefix ∙ ap (λ (x : Linked). x.prefix) (sym e.same) in
    subst (λ (w : PassState). HalvesPrefix z r v w) (search rules) (halves _ u t c.requires.pinned n.result c.prefix_in.result n.ensures.meets e.loads (c.prefix_in.ensures ∙ same))

pub returns-in-Between-clause-under : goal.returns-in-Between-clause-under
returns-in-Between-clause-under c = let z = sizes c.args.table.now in let call = call_of c.args.pass.now in let r = c.args.pin.now.room in let v = state c.args.pass.now in let n = c.count-count in let u = n.new.self in let t = c.search.new.self in let e = c.in-Between.ensures in
    let same = n.ensures.prefix ∙ ap (λ (x : Linked). x.prefix) (sym e.same) in let s = halved _ u t c.requires.pinned n.result c.prefix_in.result n.ensures.meets e.loads (c.prefix_in.ensures ∙ same) in
    subst (λ (w : PassState). UnderPin z call r v w) (search rules) s.loads.under

pub returns-in-Between-clause-quiet : goal.returns-in-Between-clause-quiet
returns-in-Between-clause-quiet c = let z = sizes c.args.table.now in let call = call_of c.args.pass.now in let r = c.args.pin.now.room in let v = state c.args.pass.now in let n = c.count-count in let u = n.new.self in let t = c.search.new.self in let e = c.in-Between.ensures in
    let same = n.ensures.prefix ∙ ap (λ (x : Linked). x.prefix) (sym e.same) in let s = halved _ u t c.requires.pinned n.result c.prefix_in.result n.ensures.meets e.loads (c.prefix_in.ensures ∙ same) in let f = s.loads.quiet in search (rules, f)

pub returns-in-Between-clause-still : goal.returns-in-Between-clause-still
returns-in-Between-clause-still c = let z = sizes c.args.table.now in let call = call_of c.args.pass.now in let r = c.args.pin.now.room in let v = state c.args.pass.now in let n = c.count-count in let u = n.new.self in let t = c.search.new.self in let e = c.in-Between.ensures in
    let same = n.ensures.prefix ∙ ap (λ (x : Linked). x.prefix) (sym e.same) in let s = halved _ u t c.requires.pinned n.result c.prefix_in.result n.ensures.meets e.loads (c.prefix_in.ensures ∙ same) in
    subst (λ (w : PassState). Runs WordsStay v w) (search rules) s.loads.still
