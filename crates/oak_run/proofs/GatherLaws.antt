-- What is gathered from a cursor, call by call.
use Rattle.std.proofs.Common.{◌≡◌, ℕ, zero, suc, ◌*◌, ◌/◌, ◌^◌, ◌<◌, ◌≤◌, Bool, true, false, List, [], ◌∷◌, ◌++◌, Option, Some, None, Result, Ok, Err, refl, sym, ap, ◌∙◌, subst, arith}
use Rattle.std.specs.Prelude.{IfOk, IsSome}
use Rattle.oak_model.specs.declared.limits.TheConstants.{CLASSES, CLASS_GROWTH, GREATEST_VALUE, LEAST_BLOCK}
use Rattle.oak_model.specs.declared.replies.Pair.{Pair}
use Rattle.oak_model.specs.Key.{IsKey}
use Rattle.oak_model.specs.KeyNumber.{key_number}
use Rattle.oak_model.specs.Limits.{Sizes}
use Rattle.oak_model.specs.Value.{IsValue}
use Rattle.oak_model.proofs.KeyLaws.{is_key-is}
use Rattle.oak_core.specs.QuietSteps.{IsQuiet}
use Rattle.oak_core.proofs.calls.QuietCalls.{only_both, only_none}
use Rattle.oak_core.specs.declared.states.PassState.{PassState}
use Rattle.oak_core.specs.declared.table.Pass.{Pass}
use Rattle.oak_core.specs.Passes.{Stays, call_of, key as sizes, state}
use Rattle.oak_core.specs.AloneWords.{Runs}
use Rattle.oak_core.specs.CallSteps.{Learns}
use Rattle.oak_core.specs.Scratch.{StaysButSlots}
use Rattle.oak_core.proofs.calls.CallSteps.{learns_both, learns_none, stands_learns}
use Rattle.point_ops.proofs.LocksKept.{load_stands}
use Rattle.value_ops.specs.declared.pinned_value.PinnedValue.{PinnedValue}
use Rattle.value_ops.specs.PinnedValues.{IsPinnedValue, value_under}
use Rattle.value_ops.proofs.ValueFacts.{long}
use Rattle.scan_cursor.specs.declared.cursor.Cursor.{Cursor}
use Rattle.scan_cursor.specs.declared.marks.Mark.{Mark}
use Rattle.scan_cursor.specs.Cursors.{Advances, HasGiven, HasPair, IsCursor, ReadsPair, key_of, under, value_of, view_under}
use Rattle.scan_cursor.specs.declared.ways.Way.{Way}
use Rattle.scan_cursor.specs.Leaving.{LeavesValue}
use Rattle.scan_cursor.specs.Scanned.{HasScanned, greatest_of, least_of}
use Rattle.scan_cursor.specs.Views.{Later, View}
use Rattle.scan_cursor.specs.Walks.{view_at}
use Rattle.scan_cursor.proofs.EndLaws.{cursor_ends}
use Rattle.oak_run.specs.Gathering.{GivesOn, GoesOn, KeepsPair, present}

-- ---- the present pair

-- a cursor that has a value is at a pair
at_pair : (o : Option PinnedValue) (z : Sizes) (m : Mark) (v : PassState) → HasPair o z m v → IsSome o → m.ended ≡ false
at_pair (Some x) z m v p s = p.1
at_pair None z m v p s = absurd cc

-- whose key is one
pub present_key : (c : Cursor) → IsCursor c → IsSome c.value → IsKey (key_of c)
present_key c i s = (is_key-is (key_of c) (i.walk.bounds (at_pair c.value (sizes c.table.now) c.walk.mark (under c) i.pair s)).key).0

-- no block is longer than the longest value
few_bytes : (c l : ℕ) → c < CLASSES → l ≤ 8 * (LEAST_BLOCK / 8 * CLASS_GROWTH ^ c) → l ≤ GREATEST_VALUE
few_bytes zero l lt le = omega arith
few_bytes (suc zero) l lt le = omega arith
few_bytes (suc (suc zero)) l lt le = omega arith
few_bytes (suc (suc (suc zero))) l lt le = omega arith
few_bytes (suc (suc (suc (suc c)))) l lt le = absurd (omega arith)

pinned_short : (z : Sizes) (x : PinnedValue) (v : PassState) → IsPinnedValue z x v → IsValue (value_under v)
pinned_short z x v i = let l = long z x v i in let e = i.length_is in let f = few_bytes _ _ i.placed.class i.placed.room in omega arith

short : (o : Option PinnedValue) (z : Sizes) (m : Mark) (v : PassState) → HasPair o z m v → IsSome o → IsValue (value_under v)
short (Some x) z m v p s = pinned_short z x v p.0.value
short None z m v p s = absurd cc

-- and whose value is one
pub present_value : (c : Cursor) → IsCursor c → IsSome c.value → IsValue (value_of c)
present_value c i s = short c.value (sizes c.table.now) c.walk.mark (under c) i.pair s

-- ---- a cursor that goes on

but_slots : (p q : Pass) → Stays p q → StaysButSlots p q
but_slots p q s = record { table = s.table; seat = s.seat; call = s.call; scratch = s.scratch; sorting = refl }

but_both : (p q r : Pass) → StaysButSlots p q → StaysButSlots q r → StaysButSlots p r
but_both p q r s t = record { table = t.table ∙ s.table; seat = t.seat ∙ s.seat; call = t.call ∙ s.call; scratch = t.scratch ∙ s.scratch; sorting = refl }

pub later_both : (a b d : View) → Later a b → Later b d → Later a d
later_both a b d x y = record {
  sizes = y.sizes ∙ x.sizes;
  call = y.call ∙ x.call;
  learns = learns_both a.call a.state b.state d.state x.learns (subst (λ (i : ℕ). Learns i b.state d.state) x.call y.learns);
  quiet = only_both IsQuiet a.state b.state d.state x.quiet y.quiet;
}

pub goes_both : (c d e : Cursor) → GoesOn c d → GoesOn d e → GoesOn c e
goes_both c d e a b = record {
  table = b.table ∙ a.table;
  low = b.low ∙ a.low;
  high = b.high ∙ a.high;
  way = b.way ∙ a.way;
  own = but_both c.pass.now d.pass.now e.pass.now a.own b.own;
  cursor = b.cursor;
  later = later_both (view_under c) (view_under d) (view_under e) a.later b.later;
}

pub goes_self : (c : Cursor) → IsCursor c → GoesOn c c
goes_self c i = record {
  table = refl;
  low = refl;
  high = refl;
  way = refl;
  own = but_slots c.pass.now c.pass.now record { table = refl; seat = refl; call = refl; scratch = refl; sorting = refl };
  cursor = i;
  later = record { sizes = refl; call = refl; learns = learns_none (call_of c.pass.now) (under c); quiet = only_none IsQuiet (under c) (under c) refl };
}

-- nothing was read of the present pair, or some of its bytes

pub keeps_self : (c : Cursor) → IsCursor c → KeepsPair c c
keeps_self c i = record { on = goes_self c i; gives = λ pairs before g. g }

pub reads_keeps : (c d : Cursor) → ReadsPair c d → KeepsPair c d
reads_keeps c d r = record {
  on = record {
    table = r.table;
    low = r.low;
    high = r.high;
    way = r.way;
    own = but_slots c.pass.now d.pass.now r.stays;
    cursor = r.cursor;
    later = record {
      sizes = ap (λ t. sizes t.now) r.table;
      call = r.stays.call;
      learns = let z = sizes c.table.now in let n = call_of c.pass.now in stands_learns n (under c) (under d) (load_stands z n (under c) (under d) r.only.loads);
      quiet = r.quiet;
    };
  };
  gives = λ pairs before g. r.goes before pairs g;
}

-- no pair is left

pub ends_on : (b : Bool) (c d : Cursor) (had : List Pair) → b ≡ false → Advances b c d → (d.walk.mark.ended ≡ true) × GivesOn c d had had
ends_on true c d had e a = absurd cc
ends_on false c d had e a = (a.ended, λ before g. a.goes before had g)

-- the cursor is at a next one, which is added
pub adds_pair : (b : Bool) (c d e : Cursor) (x : Pair) (had has : List Pair) → b ≡ true → Advances b c d → KeepsPair d e → x ≡ present d → has ≡ had ++ x ∷ [] → GivesOn c e had has
adds_pair false c d e x had has t a k is grown = absurd cc
adds_pair true c d e x had has t a k is grown = λ before g.
    subst (HasGiven e before) (sym (grown ∙ ap (λ (p : Pair). had ++ p ∷ []) is)) (k.gives (had ++ present d ∷ []) before (a.goes before had g))

pub has_pair : (b : Bool) (c d : Cursor) → b ≡ true → Advances b c d → IsSome d.value
has_pair true c d e a = a.value
has_pair false c d e a = absurd cc

-- ---- a whole scan

-- the cursor was begun by the pass p, and finished by the pass q
module _ (z : Sizes) (p q : Pass) (b n : Cursor) (sizes_is : sizes b.table.now ≡ z) (same : b.pass.now ≡ p) (on : GoesOn b n) where
  sizes_stay : sizes n.table.now ≡ z
  sizes_stay = ap (λ t. sizes t.now) on.table ∙ sizes_is

  pub scan_own : Stays n.pass.now q → StaysButSlots p q
  scan_own s = subst (λ (x : Pass). StaysButSlots x q) same (but_both b.pass.now n.pass.now q on.own (but_slots n.pass.now q s))

  begun : Later (view_at z p) (view_under n)
  begun = subst (λ (i : Sizes × Pass). Later (view_at i.0 i.1) (view_under n)) (λ j. (sizes_is j, same j)) on.later

  ended : Later (view_under n) (view_at (sizes n.table.now) q) → Later (view_under n) (view_at z q)
  ended l = subst (λ (i : Sizes). Later (view_under n) (view_at i q)) sizes_stay l

  pub scan_later : Later (view_under n) (view_at (sizes n.table.now) q) → Later (view_at z p) (view_at z q)
  scan_later l = later_both (view_at z p) (view_under n) (view_at z q) begun (ended l)

  pub scan_ends : (way : Way) (low high : Option (List ℕ)) (ps : List Pair) → b.way ≡ way → key_number b.low ≡ least_of low → key_number b.high ≡ greatest_of high → HasGiven b (view_at z p) [] → n.walk.mark.ended ≡ true → GivesOn b n [] ps
      → Later (view_under n) (view_at (sizes n.table.now) q) → Runs (LeavesValue (sizes n.table.now) n.value None) (under n) (state q) → HasScanned way low high (view_at z p) (view_at z q) ps
  scan_ends way low high ps is e f starts over gives l still = subst (λ (w : Way). HasScanned w low high (view_at z p) (view_at z q) ps) (on.way ∙ is)
      (cursor_ends low high n (view_at z p) (view_at z q) ps (ap key_number on.low ∙ e) (ap key_number on.high ∙ f) on.cursor over (ended l) still (gives (view_at z p) starts))

-- where both hold of what was gathered
pub if_both : {A E : Type 0} (P Q S : A → Type 0) (r : Result A E) → ((x : A) → P x → Q x → S x) → IfOk r P → IfOk r Q → IfOk r S
if_both P Q S (Ok x) f g h = f x g h
if_both P Q S (Err e) f g h = tt

-- a cursor before it has given a pair
pub gave_none : (c : Cursor) (ps : List Pair) → ps ≡ [] → GivesOn c c [] ps
gave_none c ps e = λ before g. subst (HasGiven c before) (sym e) g

-- a call that goes to the next pair
pub advanced : (c d : Cursor) → d.table ≡ c.table → d.low ≡ c.low → d.high ≡ c.high → d.way ≡ c.way → StaysButSlots c.pass.now d.pass.now → IsCursor d → Later (view_under c) (view_under d) → GoesOn c d
advanced c d t l h w o i later = record { table = t; low = l; high = h; way = w; own = o; cursor = i; later = later }
