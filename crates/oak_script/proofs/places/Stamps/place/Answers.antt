use Rattle.std.proofs.Common.{◌≡◌, ◌-◌, true, false, nat_eq, [], length, get_or, sym, ap, ◌∙◌, arith}
use Rattle.std.specs.Cmp.Lexicographic.{pointwise}
use Rattle.oak_script.proofs.StampLemmas.{no_place, place_before, length-places_along}
use Rattle.oak_script.proofs.places.Stamps.place.Goals as goal

pub returns-then-end-eq0 : goal.returns-then-end-eq0
returns-then-end-eq0 c =
    sym (no_place c.args.key.now c.args.at c.args.self.now.writes.items c.end-end.result c.args.self.now.in_order c.end-end.ensures c.if-end-eq0.true)

pub index-requires-then-eq : goal.index-requires-then-eq
index-requires-then-eq c =
    omega (arith, c.end-end.ensures.within, c.if-end-eq0.false, ap length c.args.self.now.numbered, length-places_along [] 0 c.args.self.now.writes.items)

pub returns-then-eq : goal.returns-then-eq
returns-then-eq c =
    let k = c.args.key.now in
    let ws = c.args.self.now.writes.items in
    let i = c.end-end.result - 1 in
    let write = c.index.result.now in
    let same : pointwise nat_eq (get_or ws i write).key.now k ≡ true = rw (← c.index.ensures, ← c.bytes.ensures.value) (sym c.eq.ensures ∙ c.if-eq.true) in
    let place = place_before k c.args.at ws c.end-end.result write c.index-then-eq.result.now c.args.self.now.in_order c.end-end.ensures c.if-end-eq0.false in
    sym (rw (same, ← c.args.self.now.numbered, ← c.index-then-eq.ensures) at place)

pub returns-else-eq : goal.returns-else-eq
returns-else-eq c =
    let k = c.args.key.now in
    let ws = c.args.self.now.writes.items in
    let i = c.end-end.result - 1 in
    let write = c.index.result.now in
    let same : pointwise nat_eq (get_or ws i write).key.now k ≡ false = rw (← c.index.ensures, ← c.bytes.ensures.value) (sym c.eq.ensures ∙ c.if-eq.false) in
    let place = place_before k c.args.at ws c.end-end.result write 0 c.args.self.now.in_order c.end-end.ensures c.if-end-eq0.false in
    sym (rw same at place)
