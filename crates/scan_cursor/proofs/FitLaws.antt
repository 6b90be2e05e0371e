-- A scan that has read each key of its range fits every histories that go on from what its pass has seen.
use Rattle.std.proofs.Common.{◌≡◌, ℕ, zero, suc, ◌<◌, ◌≤◌, Bool, true, false, cond, leb, ltb, List, [], ◌∷◌, length, Option, Some, None, refl, sym, ap, ◌∙◌, subst, arith, inl, inr}
use Rattle.std.specs.Prelude.{MatchBool, not}
use Rattle.std.specs.List.{AllByRecursion}
use Rattle.std.specs.Ordering.{is_gt}
use Rattle.std.proofs.lemmas.Bool.{cases_Bool, le-leb, leb-true, lt-ltb, ltb-true}
use Rattle.oak_model.specs.declared.replies.Pair.{Pair}
use Rattle.oak_model.specs.Counts.{Begins}
use Rattle.oak_model.specs.History.{Histories, History, place_of, state_at}
use Rattle.oak_model.specs.Key.{is_key, key_cmp}
use Rattle.oak_model.specs.KeyNumber.{key_number}
use Rattle.oak_model.specs.Scan.{ScanFits, in_range, not_above, not_below, value_in}
use Rattle.oak_model.specs.State.{State}
use Rattle.oak_model.proofs.HistoryLaws.{state_at-extends}
use Rattle.oak_core.specs.declared.closing.Closed.{Closed}
use Rattle.oak_core.specs.declared.states.KeyedWrite.{KeyedWrite}
use Rattle.oak_core.specs.declared.states.PassState.{PassState}
use Rattle.oak_core.specs.Closing.{closed_history, closed_state}
use Rattle.oak_core.specs.KeyHistories.{writes_of}
use Rattle.oak_core.specs.KnownPlaces.{PlacesStand, Remembers}
use Rattle.oak_core.specs.PassState.{Extends, seen_of}
use Rattle.oak_core.specs.Sights.{SightedSince}
use Rattle.scan_cursor.specs.declared.ways.Way.{Way}
use Rattle.scan_cursor.specs.Fitting.{GoOnFrom, places_at, seen_length}
use Rattle.scan_cursor.specs.Holding.{IsBound, greatest_key}
use Rattle.scan_cursor.specs.Scanned.{HasScanned, greatest_of, least_key, least_of, within}
use Rattle.scan_cursor.specs.Views.{ReadsKey, View}
use Rattle.scan_cursor.proofs.KeyWindows.{order_is, within_is}
use Rattle.scan_cursor.proofs.RoomRanges.{number_least, number_most}
use Rattle.oak_core.proofs.calls.ClosedReads.{closed_is, closed_none}
use Rattle.oak_core.proofs.known.KnownReads.{writes_extend}
use Rattle.oak_model.proofs.KeyLaws.{is_key-is}

-- ---- the range by numbers

not_less : (b : Bool) (m n : ℕ) → MatchBool b (n < m) (m ≤ n) → not b ≡ leb m n
not_less true m n h = by (leb m n) refl
  where
    by : (c : Bool) → leb m n ≡ c → false ≡ c
    by true e = let l = leb-true m n e in absurd (omega arith)
    by false e = refl
not_less false m n h = sym (le-leb m n h)

not_less_high : (b : Bool) (m n : ℕ) → MatchBool b (n < m) (m ≤ n) → not b ≡ ltb m (suc n)
not_less_high true m n h = by (ltb m (suc n)) refl
  where
    by : (c : Bool) → ltb m (suc n) ≡ c → false ≡ c
    by true e = let l = ltb-true m (suc n) e in absurd (omega arith)
    by false e = refl
not_less_high false m n h = let l : m < suc n = omega arith in sym (lt-ltb m (suc n) l)

below_is : (low : Option (List ℕ)) (k : List ℕ) → IsBound low → is_key k ≡ true → not_below low k ≡ leb (least_of low) (key_number k)
below_is None k b e = sym (le-leb (key_number least_key) (key_number k) (number_least k e))
below_is (Some low) k b e = not_less (is_gt (key_cmp low k)) (key_number low) (key_number k) (order_is low k b e)

above_is : (high : Option (List ℕ)) (k : List ℕ) → IsBound high → is_key k ≡ true → not_above high k ≡ ltb (key_number k) (suc (greatest_of high))
above_is None k b e = let t = number_most k (is_key-is k e).1 in let l : key_number k < suc (key_number greatest_key) = omega arith in sym (lt-ltb (key_number k) (suc (key_number greatest_key)) l)
above_is (Some high) k b e = not_less_high (is_gt (key_cmp k high)) (key_number k) (key_number high) (order_is k high e b)

pub range_is : (low high : Option (List ℕ)) (k : List ℕ) → IsBound low → IsBound high → is_key k ≡ true → in_range low high k ≡ within (least_of low) (suc (greatest_of high)) k
range_is low high k a b e = rw (below_is low k a e, above_is high k b e, e) refl

-- ---- the scan

writes_length : (l : List KeyedWrite) → length (writes_of l) ≡ length l
writes_length [] = refl
writes_length (x ∷ xs) = ap suc (writes_length xs)

cond_none : (b : Bool) (s : State) → s ≡ None → let none : State = None in none ≡ cond b s none
cond_none true s e = sym e
cond_none false s e = refl

empty_state : (h : History) (r : ℕ) → h ≡ [] → state_at h r ≡ None
empty_state h r e = subst (λ (x : History). state_at x r ≡ None) (sym e) (nothing r)
  where
    nothing : (r : ℕ) → state_at [] r ≡ None
    nothing zero = refl
    nothing (suc r) = refl

-- ats are the numbers of the keys that the scan read
module _ (h : Histories) (way : Way) (low high : Option (List ℕ)) (before now : View) (pairs : List Pair) (low_bound : IsBound low) (high_bound : IsBound high) (x : HasScanned way low high before now pairs) (on : GoOnFrom now.state h) where
  abbrev seen : PassState → List ℕ → List KeyedWrite
  seen v q = seen_of (key_number q) v.knowledge

  abbrev ats : List ℕ → ℕ
  ats = x.scanned.ats

  at_key : (q : List ℕ) → is_key q ≡ true → places_at h ats q ≡ place_of (h q) (ats q)
  at_key q e = ap (λ (b : Bool). cond b (place_of (h q) (ats q)) 0) e

  at_other : (q : List ℕ) → is_key q ≡ false → places_at h ats q ≡ 0
  at_other q e = ap (λ (b : Bool). cond b (place_of (h q) (ats q)) 0) e

  length_key : (v : PassState) (q : List ℕ) → is_key q ≡ true → seen_length v q ≡ length (seen v q)
  length_key v q e = ap (λ (b : Bool). cond b (length (seen v q)) 0) e

  length_other : (v : PassState) (q : List ℕ) → is_key q ≡ false → seen_length v q ≡ 0
  length_other v q e = ap (λ (b : Bool). cond b (length (seen v q)) 0) e

  inside : (q : List ℕ) → is_key q ≡ true → in_range low high q ≡ true → within (least_of low) (suc (greatest_of high)) q ≡ true
  inside q e i = sym (range_is low high q low_bound high_bound e) ∙ i

  -- the place of a key that was read
  module _ (q : List ℕ) (e : is_key q ≡ true) (w : within (least_of low) (suc (greatest_of high)) q ≡ true) where
    abbrev read : ReadsKey before now q (ats q) (value_in pairs q)
    read = x.scanned.each q w

    place_is : places_at h ats q ≡ read.read.place
    place_is = at_key q e ∙ on.places q (ats q) read.read.place e read.read.known

    from_is : seen_length before.state q ≤ places_at h ats q
    from_is = let a = length_key before.state q e in let p = place_is in let f = read.read.from in omega arith

    to_is : places_at h ats q ≤ seen_length now.state q
    to_is = let a = length_key now.state q e in let p = place_is in let f = read.read.to in omega arith

    state_is : state_at (h q) (places_at h ats q) ≡ value_in pairs q
    state_is = ap (state_at (h q)) place_is
        ∙ (state_at-extends (writes_of (seen now.state q)) (h q) read.read.place (on.seen q e) (let n = writes_length (seen now.state q) in let f = read.read.to in omega arith) ∙ read.read.state)

  pub scan_fits : ScanFits h (seen_length before.state) (seen_length now.state) low high pairs (places_at h ats)
  scan_fits = record {
    from = λ q i. elim (cases_Bool (is_key q)) [
      | inl e ↦ from_is q e (inside q e i)
      | inr e ↦ (let a = length_other before.state q e in omega arith)
    ];
    to = λ q i. elim (cases_Bool (is_key q)) [
      | inl e ↦ to_is q e (inside q e i)
      | inr e ↦ (let a = at_other q e in omega arith)
    ];
    reads = λ q. elim (cases_Bool (is_key q)) [
      | inl e ↦ by q e (in_range low high q) refl
      | inr e ↦ x.scanned.others q (rw e refl) ∙ cond_none (in_range low high q) (state_at (h q) (places_at h ats q)) (empty_state (h q) (places_at h ats q) (on.others q e))
    ];
    each = told (pairs) x.scanned.told;
  }
    where
      by : (q : List ℕ) → is_key q ≡ true → (b : Bool) → in_range low high q ≡ b → value_in pairs q ≡ cond b (state_at (h q) (places_at h ats q)) None
      by q e true i = sym (state_is q e (inside q e i))
      by q e false i = x.scanned.others q (sym (range_is low high q low_bound high_bound e) ∙ i)

      told : (ps : List Pair) → AllByRecursion (λ (p : Pair). (within (least_of low) (suc (greatest_of high)) p.key ≡ true) × (p.at ≡ ats p.key)) ps → AllByRecursion (λ (p : Pair). place_of (h p.key) p.at ≡ places_at h ats p.key) ps
      told [] t = tt
      told (p ∷ ps) t = (ap (place_of (h p.key)) t.0.1 ∙ sym (at_key p.key (within_is (least_of low) (suc (greatest_of high)) p.key t.0.0).key), told ps t.1)

  -- each key of the range was read at the place of a number that was found for it in the scan
  pub scan_found : (q : List ℕ) → is_key q ≡ true → in_range low high q ≡ true → SightedSince (key_number q) (ats q) before.state.findings now.state.findings × (place_of (h q) (ats q) ≡ places_at h ats q)
  scan_found q e i = ((x.scanned.each q (inside q e i)).sighted, sym (at_key q e))

  -- so is the number of each pair
  pub pairs_found : AllByRecursion (λ (p : Pair). SightedSince (key_number p.key) p.at before.state.findings now.state.findings) pairs
  pairs_found = told pairs x.scanned.told
    where
      told : (ps : List Pair) → AllByRecursion (λ (p : Pair). (within (least_of low) (suc (greatest_of high)) p.key ≡ true) × (p.at ≡ ats p.key)) ps → AllByRecursion (λ (p : Pair). SightedSince (key_number p.key) p.at before.state.findings now.state.findings) ps
      told [] t = tt
      told (p ∷ ps) t = (subst (λ (n : ℕ). SightedSince (key_number p.key) n before.state.findings now.state.findings) (sym t.0.1) (x.scanned.each p.key t.0.0).sighted, told ps t.1)

-- ---- histories that go on

-- those of a closed table, whose last pass has seen and remembers all
pub closed_goes_on : (c : Closed) (v : PassState) → PlacesStand c → Extends v (closed_state c) → Remembers v.knowledge (closed_state c).knowledge → GoOnFrom v (closed_history c)
closed_goes_on c v places seen remembers = record {
  seen = λ q e. subst (Begins (writes_of (seen_of (key_number q) v.knowledge))) (sym (closed_is c q e)) (writes_extend (seen_of (key_number q) v.knowledge) (seen_of (key_number q) (closed_state c).knowledge) (seen (key_number q)));
  others = λ q e. closed_none c q e;
  places = λ q at r e k. places q at r e (remembers (key_number q) at r k);
}
