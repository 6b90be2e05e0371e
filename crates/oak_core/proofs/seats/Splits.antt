-- What the calls on passes tell: a search for a free number, and what two passes have seen together.
use Rattle.std.proofs.Common.{map, ◌≡◌, ℕ, ◌+◌, ◌-◌, ◌^◌, ◌<◌, ◌≤◌, Bool, get_or, w64, cond, List, [], ◌∷◌, ◌++◌, length, sym, refl, ap, ◌∙◌, subst, arith, eq-eqb, ne_eqb, Some, None}
use Rattle.std.specs.Prelude.{bit_or}
use Rattle.std.specs.Int.{bit_at, trailing_ones}
use Rattle.std.proofs.lemmas.Nat.Bits.{bit_at_ones, bit_at-trailing_ones}
use mathlib.Core.Logic.{dite}
use native.Mathlib.Decide.{ℕ_discrete, dec_lt}
use Rattle.oak_model.specs.Counts.{Each, one_at, total}
use Rattle.oak_model.specs.Limits.{Sizes}
use Rattle.oak_model.proofs.Lists.{at_map, each_append}
use Rattle.oak_model.proofs.Counting.{one_at-same, total_at}
use Rattle.oak_core.specs.declared.states.Finding.{Finding}
use Rattle.oak_core.specs.declared.states.PassState.{PassState}
use Rattle.oak_core.specs.Memory.{Spot, at_given, index, memory}
use Rattle.oak_core.specs.Finding.{finding, leaving, grown, noted, Shows}
use Rattle.oak_core.specs.PassState.{has_number, splits_of, numbers_of, findings_of, both_state, left_state, right_state}
use Rattle.oak_core.specs.Splitting.{Loads, IsAtGiven, LooksAtGiven, FindsLeast, SplitsOff, FindsAllGiven, SeesLonger}
use Rattle.oak_core.specs.Step.{give_number, numbered, MayGive, Told}
use Rattle.oak_core.proofs.calls.Found.{shows_last}
use Rattle.oak_core.proofs.seats.GivenNumbers.{all_lower}
use Rattle.oak_core.proofs.memory.MetLists.{at_behind}
use Rattle.oak_core.proofs.calls.MetMore.{grown_twice, grown_none}
use Rattle.oak_core.proofs.histories.Histories.{seen_later, seen_first}
use Rattle.oak_core.proofs.memory.Words.{first_word, index_apart, memory_read}
use Rattle.oak_core.specs.Loading.{IsPlain}

pub sees_longer : (v w x : PassState) (k : ℕ) → x ≡ both_state v w → SeesLonger v w x k
sees_longer v w x k e = subst (λ (y : PassState). SeesLonger v w y k) (sym e) record {
  other = seen_later k v.knowledge w.knowledge (both_state v w).knowledge refl;
  own = seen_first k v.knowledge w.knowledge (both_state v w).knowledge refl;
}

-- the first i numbers were found given at one step, and all that was met was met in the call and at word 0
pub record Tried (call i : ℕ) (v w : PassState) : Type 0 where
  pub more : List Finding
  pub at : Each (IsAtGiven call) more
  pub after : w ≡ grown more v
  pub given : 0 < i → Shows more 0 (λ n. (j : ℕ) → j < i → bit_at n j ≡ 1)

pub none_tried : (call : ℕ) (v : PassState) → Tried call 0 v v
none_tried call v = record { more = []; at = tt; after = grown_none v; given = λ h. absurd (omega arith) }

-- the pass found the number j given
tried_shows : (call i : ℕ) (v w : PassState) → Tried call i v w → (j : ℕ) → j < i → Shows w.findings.met 0 (λ n. bit_at n j ≡ 1)
tried_shows call i v w t j lt = let s = t.given (omega arith) in subst (λ (y : PassState). Shows y.findings.met 0 (λ n. bit_at n j ≡ 1)) (sym t.after)
    (length v.findings.met + s.0, s.1, s.2, at_behind v.findings.met t.more s.0 s.1 s.3, s.4, s.5, s.6 j lt)

-- so the next may be tried
pub may_give : (z : Sizes) (call i : ℕ) (v w : PassState) → i < z.passes → v.numbers.hand ≡ None → Tried call i v w → MayGive z i w
may_give z call i v w few hand t = record { few = few; hand = (λ k. (t.after k).numbers.hand) ∙ hand; lower = tried_shows call i v w t }

-- what holds of each number that is counted in the list
each_of : (P : ℕ → Type 0) (xs : List ℕ) → ((m : ℕ) → 0 < total (λ (x : ℕ). one_at x m) xs → P m) → Each P xs
unfolding total
each_of P [] f = tt
each_of P (x ∷ xs) f = (f x (let o = one_at-same x x refl in omega arith), each_of P xs (λ m some. f m (omega arith)))

-- word 0 is loaded
module _ (z : Sizes) (call i : ℕ) (v w x : PassState) (n : ℕ) (t : Tried call i v w) (l : Loads z call 0 w n x) where
  -- it is word 0
  at_word : l.spot ≡ at_given
  at_word = index_apart z l.spot at_given l.inside tt (l.at ∙ sym (first_word z))

  -- what was found given is given still
  pub given_still : (j : ℕ) → j < i → bit_at n j ≡ 1
  given_still j lt = let told = l.told in let same = at_word in
      let given = (told.rule.findings told.seat w.findings (at_map findings_of told.table.states told.seat w told.here)).found j (tried_shows call i v w t j lt) in
      ap (λ (g : ℕ). bit_at g j) (sym told.finds ∙ (ap (λ (p : Spot). get_or told.table.words (index z p) 0) same ∙ sym (memory_read z told.table.words at_given tt))) ∙ given

  pub tried_load : (k : ℕ) → ((j : ℕ) → j < k → bit_at n j ≡ 1) → Tried call k v x
  tried_load k lower = let f : Finding = finding z call l.spot (Some n) n l.told.table.words w in record {
    more = t.more ++ f ∷ [];
    at = each_append (IsAtGiven call) t.more (f ∷ []) t.at ((refl, l.at), tt);
    after = l.met (subst IsPlain (sym at_word) tt) ∙ (ap (grown (f ∷ [])) t.after ∙ grown_twice v t.more (f ∷ []));
    given = λ _. shows_last t.more f 0 n (λ m. (j : ℕ) → j < k → bit_at m j ≡ 1) l.at refl lower;
  }

module _ (z : Sizes) (call k : ℕ) (v w x : PassState) (n : ℕ) (t : Tried call k v w) (told : Told z call (give_number k) w n x) where
  -- the lower numbers are given
  lower_given : (j : ℕ) → j < k → bit_at n j ≡ 1
  lower_given j lt = let given = (told.rule.findings told.seat w.findings (at_map findings_of told.table.states told.seat w told.here)).found j (told.may.lower j lt) in
      ap (λ (g : ℕ). bit_at g j) (sym told.finds ∙ sym (memory_read z told.table.words at_given tt)) ∙ given

  given_is : (memory z told.table.words).given ≡ n
  given_is = memory_read z told.table.words at_given tt ∙ told.finds

  -- a number that is free is none of the pass's
  none_of_own : bit_at n k ≡ 0 → has_number k v.numbers ≡ 0
  none_of_own e = let o = told.rule.numbers.owned k in let b : bit_at (memory z told.table.words).given k ≡ 0 = ap (λ (g : ℕ). bit_at g k) given_is ∙ e in
      let a = total_at (has_number k) (map numbers_of told.table.states) told.seat w.numbers (at_map numbers_of told.table.states told.seat w told.here) in
      let same : has_number k w.numbers ≡ has_number k v.numbers = ap (λ (y : PassState). has_number k y.numbers) t.after in omega arith

  -- and is above all that it split off
  above_made : bit_at n k ≡ 0 → Each (λ (m : ℕ). m < k) v.numbers.made
  above_made e = each_of (λ (m : ℕ). m < k) v.numbers.made (λ m some. dite (dec_lt m k) (λ l. l) (λ no. absurd (let all : ℕ = total (splits_of m) (map numbers_of told.table.states) in
      let a = total_at (splits_of m) (map numbers_of told.table.states) told.seat w.numbers (at_map numbers_of told.table.states told.seat w told.here) in
      let same : splits_of m w.numbers ≡ splits_of m v.numbers = ap (λ (y : PassState). splits_of m y.numbers) t.after in
      let high : bit_at (memory z told.table.words).given k ≡ 1 = all_lower (memory z told.table.words).given told.rule.numbers.lowest m k (omega arith) (told.rule.numbers.made m (omega arith)) in
      let b : bit_at (memory z told.table.words).given k ≡ 0 = ap (λ (g : ℕ). bit_at g k) given_is ∙ e in omega arith)))

  abbrev met_now : Finding
  met_now = leaving (finding z call at_given (Some n) (bit_or n (2 ^ k)) told.table.words w)

  after_is : x ≡ record (noted met_now w) { numbers = numbered n k w.numbers }
  after_is = told.after ∙ ap (λ (i : ℕ). record (noted (leaving (finding z call at_given (Some i) (bit_or i (2 ^ k)) told.table.words w)) w) { numbers = numbered i k w.numbers }) told.finds

  all_at : Each (IsAtGiven call) (t.more ++ met_now ∷ [])
  all_at = each_append (IsAtGiven call) t.more (met_now ∷ []) t.at ((refl, first_word z), tt)

  pub tried_more : bit_at n k ≡ 1 → Tried call (k + 1) v x
  tried_more e = record {
    more = t.more ++ met_now ∷ [];
    at = all_at;
    after = after_is ∙ (ap (λ (b : Bool). record (noted met_now w) { numbers = record w.numbers { hand = cond b (Some k) w.numbers.hand; made = cond b (w.numbers.made ++ k ∷ []) w.numbers.made } }) (ne_eqb (bit_at n k) 0 (λ q. omega arith))
        ∙ (ap (grown (met_now ∷ [])) t.after ∙ grown_twice v t.more (met_now ∷ [])));
    given = λ _. shows_last t.more met_now 0 n (λ n. (j : ℕ) → j < k + 1 → bit_at n j ≡ 1) (first_word z) refl
        (λ j lt. dite (ℕ_discrete j k) (λ q. ap (bit_at n) q ∙ e) (λ ne. lower_given j (omega arith)));
  }

  module _ (e : bit_at n k ≡ 0) where
    abbrev given_state : PassState
    given_state = record (grown (t.more ++ met_now ∷ []) v) { numbers = record v.numbers { hand = Some k; made = v.numbers.made ++ k ∷ [] } }

    pub now_in_hand : x ≡ given_state
    now_in_hand = after_is ∙ (ap (λ (b : Bool). record (noted met_now w) { numbers = record w.numbers { hand = cond b (Some k) w.numbers.hand; made = cond b (w.numbers.made ++ k ∷ []) w.numbers.made } }) (eq-eqb (bit_at n k) 0 e)
        ∙ (ap (λ (y : PassState). record (grown (met_now ∷ []) y) { numbers = record y.numbers { hand = Some k; made = y.numbers.made ++ k ∷ [] } }) t.after
        ∙ ap (λ (y : PassState). record y { numbers = record v.numbers { hand = Some k; made = v.numbers.made ++ k ∷ [] } }) (grown_twice v t.more (met_now ∷ []))))

    pub splits_off : (l r : PassState) → k < z.passes → v.numbers.hand ≡ None → l ≡ left_state x → r ≡ right_state x → SplitsOff z call v l r
    splits_off l r few hand is_left is_right = record {
      number = k;
      few = few;
      more = t.more ++ met_now ∷ [];
      at = all_at;
      old = is_left ∙ (ap left_state now_in_hand ∙ ap (λ (o : _). record (grown (t.more ++ met_now ∷ []) v) { numbers = record v.numbers { hand = o; made = v.numbers.made ++ k ∷ [] } }) (sym hand));
      new = is_right ∙ ap right_state now_in_hand;
      unowned = none_of_own e;
      above = above_made e;
      least = shows_last t.more met_now 0 n (λ n. (bit_at n k ≡ 0) × ((j : ℕ) → j < k → bit_at n j ≡ 1)) (first_word z) refl (e, lower_given);
    }

-- all are given
pub all_given : (z : Sizes) (call i : ℕ) (v w : PassState) → 0 < z.passes → z.passes ≤ i → Tried call i v w → FindsAllGiven z call v w
all_given z call i v w some_pass le t = record {
  more = t.more;
  at = t.at;
  after = t.after;
  given = let s = t.given (omega arith) in (s.0, s.1, s.2, s.3, s.4, s.5, λ k lt. s.6 k (omega arith));
}

pub tried_looks : (call i : ℕ) (v w : PassState) → Tried call i v w → LooksAtGiven call v w
tried_looks call i v w t = record { more = t.more; at = t.at; after = t.after }

pub looks_none : (call : ℕ) (v : PassState) → LooksAtGiven call v v
looks_none call v = tried_looks call 0 v v (none_tried call v)

-- the lowest clear bit of a word
all_ones : trailing_ones w64 (2 ^ 64 - 1) ≡ 64
unfolding lib.Count.count_trailing_zeros
all_ones = refl

pub lower_ones : (n : ℕ) → n < 2 ^ 64 → ((j : ℕ) → j < trailing_ones w64 n → bit_at n j ≡ 1) × (trailing_ones w64 n < 64 → bit_at n (trailing_ones w64 n) ≡ 0)
lower_ones n small = dite (dec_lt (n + 1) (2 ^ 64)) (λ l. let b = bit_at-trailing_ones w64 n l in (b.2, λ _. b.1))
    (λ no. let full : n ≡ 2 ^ 64 - 1 = omega arith in subst (λ (m : ℕ). ((j : ℕ) → j < trailing_ones w64 m → bit_at m j ≡ 1) × (trailing_ones w64 m < 64 → bit_at m (trailing_ones w64 m) ≡ 0)) (sym full)
    ((λ j lt. bit_at_ones 64 j (let a = all_ones in omega arith)), λ lt. absurd (let a = all_ones in omega arith)))

-- where the number i was found given, the least that is free lies further on
pub least_further : (z : Sizes) (call i : ℕ) (v w x : PassState) (k : ℕ) → i < 64 → Tried call (i + 1) v w → FindsLeast z call w k x → i < k
least_further z call i v w x k few t f = dite (dec_lt i k) (λ l. l)
    (λ no. let one = given_still z call (i + 1) v w x f.number t f.loads k (omega arith) in let none = f.free (omega arith) in absurd (omega arith))

-- what a later call of the same number finds
pub least_in : (z : Sizes) (first now : ℕ) (v : PassState) (k : ℕ) (w : PassState) → now ≡ first → FindsLeast z now v k w → FindsLeast z first v k w
least_in z first now v k w e f = subst (λ (c : ℕ). FindsLeast z c v k w) e f
