-- What a scan's cursor goes through, call by call.
use Rattle.std.proofs.Common.{◌≡◌, ℕ, Bool, true, false, List, [], ◌∷◌, ◌++◌, Option, None, refl, sym, ap, ◌∙◌, subst}
use Rattle.std.specs.Prelude.{IsSome}
use Rattle.oak_model.specs.declared.replies.Pair.{Pair}
use Rattle.oak_model.specs.KeyNumber.{key_number}
use Rattle.oak_model.specs.Limits.{Sizes}
use Rattle.oak_core.specs.declared.table.Pass.{Pass}
use Rattle.oak_core.specs.AloneWords.{Runs}
use Rattle.oak_core.specs.CallSteps.{Learns}
use Rattle.oak_core.specs.Passes.{Stays, call_of, key as sizes, state}
use Rattle.oak_core.specs.QuietSteps.{IsQuiet}
use Rattle.oak_core.specs.Scratch.{StaysButSlots}
use Rattle.oak_core.proofs.calls.CallSteps.{learns_both, learns_none, stands_learns}
use Rattle.oak_core.proofs.calls.QuietCalls.{only_both, only_none}
use Rattle.point_ops.proofs.LocksKept.{load_stands}
use Rattle.scan_cursor.specs.declared.cursor.Cursor.{Cursor}
use Rattle.scan_cursor.specs.declared.ways.Way.{Way}
use Rattle.scan_cursor.specs.Cursors.{Advances, HasGiven, IsCursor, ReadsPair, under, view_under}
use Rattle.scan_cursor.specs.Leaving.{LeavesValue}
use Rattle.scan_cursor.specs.Scanned.{HasScanned, greatest_of, least_of}
use Rattle.scan_cursor.specs.Views.{Later, View}
use Rattle.scan_cursor.specs.Walks.{view_at}
use Rattle.scan_cursor.proofs.EndLaws.{cursor_ends}
use Rattle.oak_caller.specs.Given.{FindsEnd, FindsPair}
use Rattle.oak_caller.specs.Scans.{GivesOn, GoesOn, KeepsPair, present}

-- ---- a cursor that goes on

but_slots : (p q : Pass) → Stays p q → StaysButSlots p q
but_slots p q s = record { table = s.table; seat = s.seat; call = s.call; scratch = s.scratch; sorting = refl }

but_both : (p q r : Pass) → StaysButSlots p q → StaysButSlots q r → StaysButSlots p r
but_both p q r s t = record { table = t.table ∙ s.table; seat = t.seat ∙ s.seat; call = t.call ∙ s.call; scratch = t.scratch ∙ s.scratch; sorting = refl }

pub later_both : (a b d : View) → Later a b → Later b d → Later a d
later_both a b d x y = record {
  sizes = y.sizes ∙ x.sizes;
  call = y.call ∙ x.call;
  learns = learns_both a.call a.state b.state d.state x.learns (subst (λ (i : ℕ). Learns i b.state d.state) x.call y.learns);
  quiet = only_both IsQuiet a.state b.state d.state x.quiet y.quiet;
}

pub goes_both : (c d e : Cursor) → GoesOn c d → GoesOn d e → GoesOn c e
goes_both c d e a b = record {
  table = b.table ∙ a.table;
  low = b.low ∙ a.low;
  high = b.high ∙ a.high;
  way = b.way ∙ a.way;
  own = but_both c.pass.now d.pass.now e.pass.now a.own b.own;
  cursor = b.cursor;
  later = later_both (view_under c) (view_under d) (view_under e) a.later b.later;
}

pub goes_self : (c : Cursor) → IsCursor c → GoesOn c c
goes_self c i = record {
  table = refl;
  low = refl;
  high = refl;
  way = refl;
  own = but_slots c.pass.now c.pass.now record { table = refl; seat = refl; call = refl; scratch = refl; sorting = refl };
  cursor = i;
  later = record { sizes = refl; call = refl; learns = learns_none (call_of c.pass.now) (under c); quiet = only_none IsQuiet (under c) (under c) refl };
}

-- nothing was read of the present pair, or some of its bytes

pub keeps_self : (c : Cursor) → IsCursor c → KeepsPair c c
keeps_self c i = record { on = goes_self c i; gives = λ pairs before g. g }

pub reads_keeps : (c d : Cursor) → ReadsPair c d → KeepsPair c d
reads_keeps c d r = record {
  on = record {
    table = r.table;
    low = r.low;
    high = r.high;
    way = r.way;
    own = but_slots c.pass.now d.pass.now r.stays;
    cursor = r.cursor;
    later = record {
      sizes = ap (λ t. sizes t.now) r.table;
      call = r.stays.call;
      learns = let z = sizes c.table.now in let n = call_of c.pass.now in stands_learns n (under c) (under d) (load_stands z n (under c) (under d) r.only.loads);
      quiet = r.quiet;
    };
  };
  gives = λ pairs before g. r.goes before pairs g;
}

-- the pair is the one that it was
pub reads_same : (c d : Cursor) → ReadsPair c d → present d ≡ present c
reads_same c d r = λ i. record { key = (r.walk i).mark.key; value = r.bytes i; at = r.stamp i }

-- no pair is left
pub finds_end : (b : Bool) (c d : Cursor) → b ≡ false → Advances b c d → FindsEnd c d
finds_end true c d e a = absurd cc
finds_end false c d e a = record { ended = a.ended; goes = λ pairs before g. a.goes before pairs g }

-- the cursor is at a next one
pub finds_pair : (b : Bool) (c d : Cursor) → b ≡ true → Advances b c d → FindsPair c d
finds_pair true c d e a = record { value = a.value; goes = λ pairs before g. a.goes before pairs g }
finds_pair false c d e a = absurd cc

-- and was read there
pub pair_read : (c d e : Cursor) → e.value ≡ d.value → FindsPair c d → KeepsPair d e → present e ≡ present d → FindsPair c e
pair_read c d e same f k is = record {
  value = subst (λ o. IsSome o) (sym same) f.value;
  goes = λ pairs before g. subst (λ (p : Pair). HasGiven e before (pairs ++ p ∷ [])) (sym is) (k.gives (pairs ++ present d ∷ []) before (f.goes pairs before g));
}

-- ---- a whole scan

-- the cursor was begun by the pass p, and finished by the pass q
module _ (z : Sizes) (p q : Pass) (b n : Cursor) (sizes_is : sizes b.table.now ≡ z) (same : b.pass.now ≡ p) (on : GoesOn b n) where
  sizes_stay : sizes n.table.now ≡ z
  sizes_stay = ap (λ t. sizes t.now) on.table ∙ sizes_is

  pub scan_own : Stays n.pass.now q → StaysButSlots p q
  scan_own s = subst (λ (x : Pass). StaysButSlots x q) same (but_both b.pass.now n.pass.now q on.own (but_slots n.pass.now q s))

  begun : Later (view_at z p) (view_under n)
  begun = subst (λ (i : Sizes × Pass). Later (view_at i.0 i.1) (view_under n)) (λ j. (sizes_is j, same j)) on.later

  ended : Later (view_under n) (view_at (sizes n.table.now) q) → Later (view_under n) (view_at z q)
  ended l = subst (λ (i : Sizes). Later (view_under n) (view_at i q)) sizes_stay l

  pub scan_later : Later (view_under n) (view_at (sizes n.table.now) q) → Later (view_at z p) (view_at z q)
  scan_later l = later_both (view_at z p) (view_under n) (view_at z q) begun (ended l)

  pub scan_ends : (way : Way) (low high : Option (List ℕ)) (ps : List Pair) → b.way ≡ way → key_number b.low ≡ least_of low → key_number b.high ≡ greatest_of high → HasGiven b (view_at z p) [] → n.walk.mark.ended ≡ true → GivesOn b n [] ps
      → Later (view_under n) (view_at (sizes n.table.now) q) → Runs (LeavesValue (sizes n.table.now) n.value None) (under n) (state q) → HasScanned way low high (view_at z p) (view_at z q) ps
  scan_ends way low high ps is e f starts over gives l still = subst (λ (w : Way). HasScanned w low high (view_at z p) (view_at z q) ps) (on.way ∙ is)
      (cursor_ends low high n (view_at z p) (view_at z q) ps (ap key_number on.low ∙ e) (ap key_number on.high ∙ f) on.cursor over (ended l) still (gives (view_at z p) starts))

-- a call that goes to the next pair
pub advanced : (c d : Cursor) → d.table ≡ c.table → d.low ≡ c.low → d.high ≡ c.high → d.way ≡ c.way → StaysButSlots c.pass.now d.pass.now → IsCursor d → Later (view_under c) (view_under d) → GoesOn c d
advanced c d t l h w o i later = record { table = t; low = l; high = h; way = w; own = o; cursor = i; later = later }
