use Rattle.std.proofs.Common.{rules, List, ℕ, [], arith, subst}
use Rattle.std.specs.Prelude.{MatchBool}
use Rattle.chunk_ops.specs.AskedRanges.{bytes_in_option}
use Rattle.oak_caller.specs.Clearing.{RemovesAll, WearsOut, at_count}
use Rattle.oak_caller.specs.Keys.{AddsAll, AddsEnough}
use Rattle.oak_caller.specs.Scans.{view_of}
use Rattle.oak_caller.proofs.ClearedKeys.{listed_so, piece_clears}
use Rattle.oak_caller.proofs.caller.Caller.clear_piece.Goals as goal

pub returns-clause-cleared : goal.returns-clause-cleared
returns-clause-cleared g c = let low = bytes_in_option c.args.low in let high = bytes_in_option c.args.high in let listed = c.add_keys.new.self in let keys : List (List ℕ) = c.add_keys.new.keys.items in let v = view_of c.args.self.now in let w = view_of listed in
    let b = at_count c.remove_all.new.removed c.remove_all.new.self in
    let adds : MatchBool c.in-Ok.all (AddsAll low high v w [] keys) (AddsEnough 64 low high v w [] keys) = subst (λ (had : List (List ℕ)). MatchBool c.in-Ok.all (AddsAll low high v w had keys) (AddsEnough 64 low high v w had keys)) c.new-keys.ensures.items c.in-Ok.ensures.all in
    let removes : RemovesAll (at_count c.args.removed.now listed) keys b = subst (λ (ks : List (List ℕ)). RemovesAll (at_count c.args.removed.now listed) ks b) c.deref.ensures.value c.in-Ok-remove_all.ensures.removes in
    piece_clears c.in-Ok.all c.last_if.result low high (at_count c.args.removed.now c.args.self.now) b listed keys (record { on = c.add_keys.ensures.on; views = c.add_keys.ensures.views }) (listed_so c.in-Ok.all 64 low high v w keys (omega arith) adds) removes c.last_if.ensures

pub returns-in_default-remove_all-clause-failed : goal.returns-in_default-remove_all-clause-failed
returns-in_default-remove_all-clause-failed g c = let low = bytes_in_option c.args.low in let high = bytes_in_option c.args.high in let listed = c.add_keys.new.self in let keys : List (List ℕ) = c.add_keys.new.keys.items in let v = view_of c.args.self.now in let w = view_of listed in
    let b = at_count c.remove_all.new.removed c.remove_all.new.self in
    let adds : MatchBool c.in-Ok.all (AddsAll low high v w [] keys) (AddsEnough 64 low high v w [] keys) = subst (λ (had : List (List ℕ)). MatchBool c.in-Ok.all (AddsAll low high v w had keys) (AddsEnough 64 low high v w had keys)) c.new-keys.ensures.items c.in-Ok.ensures.all in record {
      keys = keys;
      listed = listed;
      reads = record { on = c.add_keys.ensures.on; views = c.add_keys.ensures.views };
      all = c.in-Ok.all;
      lists = listed_so c.in-Ok.all 64 low high v w keys (omega arith) adds;
      wears = subst (λ (ks : List (List ℕ)). WearsOut (at_count c.args.removed.now listed) ks b) c.deref.ensures.value c.in_default-remove_all.ensures.worn;
    }
