-- Keys whose ranges a call swept.
use Rattle.std.proofs.Common.{◌≡◌, ◌≢◌, ℕ, zero, suc, ◌+◌, ◌-◌, ◌<◌, ◌≤◌, ◌==◌, cond, Bool, true, false, List, [], ◌∷◌, ◌++◌, length, get_or, take, drop, sym, refl, ap, ◌∙◌, subst, append_assoc, arith, Some, None}
use Rattle.std.specs.Cmp.Lexicographic.{nat_list_cmp_total}
use Rattle.std.specs.Ordering.{ordering_reverse}
use Rattle.std.specs.declared.cmp.Ordering.{Ordering}
use Rattle.std.specs.declared.cmp.Ordering.TheVariants.{Less, Equal, Greater}
use Rattle.std.proofs.lemmas.List.{length-take}
use Rattle.oak_model.specs.declared.limits.TheConstants.{GREATEST_KEY}
use Rattle.oak_model.specs.Counts.{Begins}
use Rattle.oak_model.specs.Key.{AreBytes, IsKey, key_cmp}
use Rattle.oak_model.specs.KeyNumber.{digits_number, key_number}
use Rattle.oak_model.specs.WordBytes.{bytes_of}
use Rattle.oak_model.proofs.Lists.{at_longer, begins_length}
use Rattle.oak_model.proofs.NumberLaws.{number_less}
use Rattle.chunk_core.specs.declared.holds.RoomCopy.{RoomCopy}
use Rattle.chunk_core.specs.KeyWords.{low_bytes, high_bytes, low_number, high_number}
use Rattle.chunk_core.specs.Spans.{Span, past_high, within}
use Rattle.chunk_core.proofs.SpanLaws.{past-cases}
use Rattle.oak_core.specs.declared.states.PassState.{PassState}
use Rattle.oak_core.specs.declared.states.Swept.{Swept}
use Rattle.oak_core.specs.CallSteps.{MetMore}
use Rattle.oak_core.specs.Lack.{InSwept, IsBelow}
use Rattle.oak_core.proofs.memory.MetLists.{at_behind}
use Rattle.chunk_ops.proofs.WordParts.{part_small}
use Rattle.rebalance.specs.Calls.{SweepsKey}
use Rattle.rebalance.specs.Copies.{copy_span}
use Rattle.rebalance.proofs.JoinedRanges.{within_high}
use Rattle.rebalance.proofs.RangeKeys.{high_number-is, number_of}

-- what was swept until one state was swept until a later one
pub sweeps_until : (call : ℕ) (key : List ℕ) (v u w : PassState) → SweepsKey key v u → Begins u.findings.swept w.findings.swept → MetMore call u w → SweepsKey key v w
sweeps_until call key v u w s b m = record {
  more = s.more ++ b.0;
  swept = b.1 ∙ (ap (λ (l : List Swept). l ++ b.0) s.swept ∙ append_assoc v.findings.swept s.more b.0);
  place = s.place;
  range = s.range;
  there = at_longer s.more b.0 s.place s.range s.there;
  from = s.from;
  to = let t = s.to in let l = begins_length u.findings.met w.findings.met (m.more, m.met) in omega arith;
  inside = s.inside;
}

-- and since an earlier one
pub sweeps_since : (call : ℕ) (key : List ℕ) (u v w : PassState) → Begins u.findings.swept v.findings.swept → MetMore call u v → SweepsKey key v w → SweepsKey key u w
sweeps_since call key u v w b m s = record {
  more = b.0 ++ s.more;
  swept = s.swept ∙ (ap (λ (l : List Swept). l ++ s.more) b.1 ∙ append_assoc u.findings.swept b.0 s.more);
  place = length b.0 + s.place;
  range = s.range;
  there = at_behind b.0 s.more s.place s.range s.there;
  from = let f = s.from in let l = begins_length u.findings.met v.findings.met (m.more, m.met) in omega arith;
  to = s.to;
  inside = s.inside;
}

-- what is not below a key is not below what that is not below
pub not_below_both : (k key low : List ℕ) → key_cmp k key ≢ Less → key_cmp key low ≢ Less → key_cmp k low ≢ Less
not_below_both k key low a b e = by (key_cmp key low) refl
  where
    by : (o : Ordering) → key_cmp key low ≡ o → ⊥
    by Less h = b h
    by Equal h = a (nat_list_cmp_total.antisymm k key ∙ (ap ordering_reverse (nat_list_cmp_total.congr key low k h) ∙ (sym (nat_list_cmp_total.antisymm k low) ∙ e)))
    by Greater h = a (nat_list_cmp_total.trans k low key e (nat_list_cmp_total.antisymm low key ∙ ap ordering_reverse h))

-- a range with a key begins no later than that
pub begins_by : (s : Span) (k : ℕ) → within s k ≡ 1 → s.low ≤ k
begins_by s k = past-cases s.low k (λ (t : ℕ). t - past_high s.high k ≡ 1 → s.low ≤ k) (λ l _. l) (λ _ e. absurd (omega arith))

part_few : (n : ℕ) (ws : List ℕ) → n ≤ GREATEST_KEY → length (take n (bytes_of ws)) ≤ GREATEST_KEY
part_few n ws few = let t = length-take n (bytes_of ws) in omega arith

-- so a key of a room's range is not below its low bound
pub from_low : (w : RoomCopy) (key : List ℕ) → get_or w.low 0 0 ≤ GREATEST_KEY → AreBytes key → within (copy_span w) (key_number key) ≡ 1 → key_cmp key (low_bytes w.low) ≢ Less
unfolding key_number low_number
from_low w key fit bytes inside less = let l = begins_by (copy_span w) (key_number key) inside in
    let n = number_less GREATEST_KEY key (low_bytes w.low) bytes (part_small (get_or w.low 0 0) (drop 1 w.low)) (part_few (get_or w.low 0 0) (drop 1 w.low) fit) less in absurd (omega arith)

-- so is no key behind it, up to the high bound
pub swept_behind : (w : RoomCopy) (met : ℕ) (key k : List ℕ) → get_or w.low 0 0 ≤ GREATEST_KEY → AreBytes key → within (copy_span w) (key_number key) ≡ 1 → key_cmp k key ≢ Less → IsBelow (high_bytes w.high) k → InSwept (record { low = low_bytes w.low; high = high_bytes w.high; met = met }) k
swept_behind w met key k fit bytes inside from to = record { from = not_below_both k key (low_bytes w.low) from (from_low w key fit bytes inside); to = to }

-- the bytes of a high bound
high_part : (ws h : List ℕ) → high_bytes ws ≡ Some h → take (get_or ws 0 0 - 1) (bytes_of (drop 1 ws)) ≡ h
high_part ws h = by (get_or ws 0 0 == 0) (take (get_or ws 0 0 - 1) (bytes_of (drop 1 ws)))
  where
    by : (b : Bool) (x : List ℕ) → cond b None (Some x) ≡ Some h → x ≡ h
    by true x e = absurd cc
    by false x e = cc

-- are bytes
pub high_are_bytes : (ws h : List ℕ) → high_bytes ws ≡ Some h → AreBytes h
high_are_bytes ws h e = subst AreBytes (high_part ws h e) (part_small (get_or ws 0 0 - 1) (drop 1 ws))

no_number : (n : ℕ) → digits_number n [] ≡ 0
unfolding digits_number
no_number zero = refl
no_number (suc n) = refl

-- The high bound of a range with a key is a key.
pub high_is_key : (w : RoomCopy) (key h : List ℕ) → get_or w.high 0 0 ≤ GREATEST_KEY + 1 → within (copy_span w) (key_number key) ≡ 1 → high_bytes w.high ≡ Some h → IsKey h
unfolding key_number
high_is_key w key h fit inside is = (some_bytes h refl, subst (λ (b : List ℕ). length b ≤ GREATEST_KEY) (high_part w.high h is) (part_few (get_or w.high 0 0 - 1) (drop 1 w.high) (omega arith)))
  where
    ends : high_number w.high ≡ key_number h + 1
    ends = high_number-is w.high ∙ ap number_of is

    some_bytes : (b : List ℕ) → b ≡ h → 0 < length b
    some_bytes [] e = let n = no_number GREATEST_KEY in let m = ap key_number e in let l = within_high (copy_span w) (key_number h) (key_number key) ends inside in absurd (omega arith)
    some_bytes (x ∷ xs) e = omega arith
