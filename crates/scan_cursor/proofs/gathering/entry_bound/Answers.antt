use Rattle.std.proofs.Common.{◌≡◌, Some, arith, sym, subst, ap}
use Rattle.scan_cursor.specs.declared.ways.Way.{Way}
use Rattle.scan_cursor.specs.Batches.{end_bound}
use Rattle.scan_cursor.proofs.gathering.entry_bound.Goals as goal

pub of-requires : goal.of-requires
of-requires c = let e = c.requires.entry in let k = (c.entry_key-key.ensures.key e.0 e.1).0 in let l = k.long in let f = k.few in omega arith

pub returns-in-Up-clause-bound : goal.returns-in-Up-clause-bound
returns-in-Up-clause-bound c q h = subst (λ (w : Way). Some c.of.result ≡ end_bound w q c.args.near) (sym c.in-Up.is) (ap Some (c.of.ensures q (c.entry_key-key.ensures.key q h).0))
