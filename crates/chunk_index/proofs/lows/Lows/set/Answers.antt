use Rattle.std.proofs.Common.{◌≡◌, List, sym, subst, rules, arith}
use Rattle.std.specs.Prelude.{IsOk, filter, is_ok}
use Rattle.chunk_index.specs.Lows.{Low, IsOnePerRoom, IsRising, is_apart, set_low}
use Rattle.chunk_index.proofs.LowLaws.{rising_kept, rising_set, rooms_kept, rooms_set, set_low-by_place}
use Rattle.chunk_index.proofs.lows.Lows.set.Goals as goal

abbrev AreLows : List Low → Type 0
AreLows ps = IsRising ps × IsOnePerRoom ps

pub invariant_of-self-2 : goal.invariant_of-self-2
invariant_of-self-2 c =
    let ps = c.self.inside.lows.items in
    let are : c.keep_apart.new.lows.items ≡ filter (is_apart c.args.low) ps = search rules in
    subst AreLows (sym are) (rising_kept c.args.low ps c.self.invariant.0, rooms_kept c.args.low ps c.self.invariant.1)

pub invariant_of-self-3 : goal.invariant_of-self-3
invariant_of-self-3 c =
    let ps = c.self.inside.lows.items in
    let low = c.args.low in
    let are : c.keep_apart.new.lows.items ≡ filter (is_apart low) ps = search rules in
    let ok : IsOk c.insert.result = grind arith in
    let is = set_low-by_place ps _ _ low _ _ (is_ok c.insert.result) are c.minimum.ensures c.count-place.ensures.few c.count-place.ensures.point c.insert.ensures.items ok in
    subst AreLows (sym is) (rising_set low ps c.self.invariant.0, rooms_set low ps c.self.invariant.1)

pub returns : goal.returns
returns c =
    let ps = c.self.inside.lows.items in
    let low = c.args.low in
    let are : c.keep_apart.new.lows.items ≡ filter (is_apart low) ps = search rules in
    let ok : IsOk c.insert.result = grind arith in
    let is : c.insert.new.self.items ≡ set_low ps low = set_low-by_place ps _ _ low _ _ (is_ok c.insert.result) are c.minimum.ensures c.count-place.ensures.few c.count-place.ensures.point c.insert.ensures.items ok in
    search rules
