-- What the points on headers say together of what a pass holds.
use Rattle.std.proofs.Common.{◌≡◌, ◌≢◌, ℕ, ◌+◌, ◌*◌, ◌<◌, ◌≤◌, ◌⊎◌, cond, Bool, List, [], ◌∷◌, sym, ap, ◌∙◌, subst, inl, inr, refl, arith, Option, Some, None, eq-eqb, ne_eqb}
use mathlib.Core.Logic.{dite}
use mathlib.Core.Option.{some}
use native.Mathlib.Decide.{ℕ_discrete, dec_lt}
use lib.ListN.{get_elem?}
use Rattle.pin_word.specs.PinWord.{generation_of, state_of, count_of}
use Rattle.oak_model.specs.Counts.{one_at, total, Has}
use Rattle.oak_model.specs.Kept.{AreTrueTo}
use Rattle.oak_model.proofs.Counting.{one_at-same, one_at-other, one_at-cases, one_at-le, one_at-true, total_at, total_two}
use Rattle.oak_model.proofs.RowLaws.{total_le}
use Rattle.header_core.specs.declared.states.TheConstants.{FREE, OWNED, LIVE, LOCKED, DEAD, RETIRED}
use Rattle.header_core.specs.declared.holds.HeldHeader.{HeldHeader}
use Rattle.header_core.specs.declared.holds.PinnedHeader.{PinnedHeader}
use Rattle.header_core.specs.declared.holds.HeaderHolds.{HeaderHolds}
use Rattle.header_core.specs.Headers.{HeaderMemory, read_header}
use Rattle.header_core.specs.HeaderHolds.{pins_of, pins_on, held_state, in_state, IsFreshAt, place_held, generation_held, kept_of_headers}
use Rattle.header_core.specs.HeaderRule.{stocked, HeadersStand}
use Rattle.header_core.proofs.HeaderLaws.{unstocked}
use Rattle.header_core.proofs.StockedStates.{stocked_le, held_le, stocked_high}
use Rattle.oak_model.proofs.MemberLaws.{each_has}
use Rattle.oak_model.proofs.SumLaws.{total_sum}
use Rattle.header_core.proofs.HeldHeaders.{held_in, stocked_in, rows_split, stocked_split, row_of, rows_have, fresh_row, generation_in}

-- a pass holds a header as owned, or in a state with a block
pub holds_split : (h : ℕ) (a : HeaderHolds) → held_in h a.held ≡ in_state h OWNED a + stocked_in h a.held
holds_split h a = rows_split h a.held

-- and who holds it in a state holds it
pub holds_some : (h s : ℕ) (a : HeaderHolds) → 0 < in_state h s a → 0 < held_in h a.held
holds_some h s a l = let e = total_le (λ (r : HeldHeader). one_at r.header h * one_at (held_state r.held_as) s) (λ (r : HeldHeader). one_at r.header h) a.held (λ r. at_most (one_at r.header h) (held_state r.held_as)) in omega arith
  where
    at_most : (x t : ℕ) → x * one_at t s ≤ x
    at_most x t = one_at-cases t s (λ k. x * k ≤ x) (λ _. omega arith) (λ _. omega arith)

pub unheld_none : (h s : ℕ) (a : HeaderHolds) → held_in h a.held ≡ 0 → in_state h s a ≡ 0
unheld_none h s a none = dite (dec_lt 0 (in_state h s a)) (λ l. let t = holds_some h s a l in absurd (omega arith)) (λ no. omega arith)

-- and holds it in some state
pub some_state : (h : ℕ) (a : HeaderHolds) → 0 < held_in h a.held → (s : ℕ) × (0 < s) × (s < RETIRED) × (0 < in_state h s a)
some_state h a l = let p = holds_split h a in let q = stocked_split h a.held in dite (dec_lt 0 (in_state h OWNED a)) (λ o. (OWNED, (omega arith), (omega arith), o))
    (λ no. dite (dec_lt 0 (in_state h LIVE a)) (λ o. (LIVE, (omega arith), (omega arith), o))
    (λ nl. dite (dec_lt 0 (in_state h LOCKED a)) (λ o. (LOCKED, (omega arith), (omega arith), o)) (λ nk. (DEAD, (omega arith), (omega arith), (omega arith)))))

-- a header that is fresh at a generation is held as fresh
pub knows_fresh : (h g : ℕ) (a : HeaderHolds) → IsFreshAt h g a → 0 < in_state h LIVE a
knows_fresh h g a l = let t = fresh_row h g a.held l in rows_have h LIVE a.held t.0 t.1 t.2 t.4

-- a pass has one pin at most
pub pins_most : (h : ℕ) (a : HeaderHolds) → pins_on h a ≤ 1
pins_most h a = most a.pin
  where
    most : (o : Option PinnedHeader) → pins_of h o ≤ 1
    most None = omega arith
    most (Some p) = one_at-le p.header h

pin_is : (h : ℕ) (o : Option PinnedHeader) (p : PinnedHeader) → o ≡ Some p → p.header ≡ h → pins_of h o ≡ 1
pin_is h o p is e = ap (pins_of h) is ∙ one_at-same p.header h e

-- numbers that are kept are those of the words

pub true_numbers : (m : HeaderMemory) (rs : List HeldHeader) (x : HeldHeader) → AreTrueTo (read_header m) (kept_of_headers rs) → Has x rs → (m.place x.header ≡ x.place) × (m.stamp x.header ≡ x.stamp)
unfolding kept_of_headers
true_numbers m [] x t has = absurd has
true_numbers m (r ∷ rs) x t (inl e) = subst (λ (y : HeldHeader). (m.place y.header ≡ y.place) × (m.stamp y.header ≡ y.stamp)) (sym e) (t.0, t.1.0)
true_numbers m (r ∷ rs) x t (inr has) = true_numbers m rs x t.1.1 has

pub place_is : (m : HeaderMemory) (h : ℕ) (rs : List HeldHeader) → AreTrueTo (read_header m) (kept_of_headers rs) → 0 < held_in h rs → m.place h ≡ place_held h rs
unfolding total kept_of_headers
place_is m h [] t l = absurd (omega arith)
place_is m h (r ∷ rs) t l = dite (ℕ_discrete r.header h)
    (λ e. ap m.place (sym e) ∙ (t.0 ∙ sym (ap (λ (b : Bool). cond b r.place (place_held h rs)) (eq-eqb r.header h e))))
    (λ n. place_is m h rs t.1.1 (let o = one_at-other r.header h n in omega arith) ∙ sym (ap (λ (b : Bool). cond b r.place (place_held h rs)) (ne_eqb r.header h n)))

module _ (m : HeaderMemory) (content : ℕ → List ℕ) (IsPlace : ℕ → Type 0) (known : ℕ → ℕ → ℕ) (hs : List HeaderHolds) (r : HeadersStand m content IsPlace known hs) where
  -- no more passes hold a header in a state than it is in that state
  pub in_state-most : (h s : ℕ) → 0 < s → s < RETIRED → total (in_state h s) hs ≤ one_at (state_of (m.pin h)) s
  in_state-most h s pos low = dite (ℕ_discrete s LIVE)
      (λ e. subst (λ (k : ℕ). total (in_state h k) hs ≤ one_at (state_of (m.pin h)) k) (sym e) (let f = r.fresh h in omega arith))
      (λ n. let u = r.held h s pos low n in omega arith)

  pub held_is : (j : ℕ) (a : HeaderHolds) (h s : ℕ) → get_elem? hs j ≡ some a → 0 < s → s < RETIRED → 0 < in_state h s a → state_of (m.pin h) ≡ s
  held_is j a h s at pos low some_of = one_at-true (state_of (m.pin h)) s (let t = total_at (in_state h s) hs j a at in let u = in_state-most h s pos low in omega arith)

  pub fresh_is : (j : ℕ) (a : HeaderHolds) (h : ℕ) → get_elem? hs j ≡ some a → 0 < in_state h LIVE a → state_of (m.pin h) ≡ LIVE
  fresh_is j a h at some_of = held_is j a h LIVE at (omega arith) (omega arith) some_of

  -- who holds a header holds it once, and alone
  pub held_once : (j : ℕ) (a : HeaderHolds) (h s : ℕ) → get_elem? hs j ≡ some a → 0 < s → s < RETIRED → 0 < in_state h s a → (in_state h s a ≡ 1) × (total (in_state h s) hs ≡ 1)
  held_once j a h s at pos low some_of = let t = total_at (in_state h s) hs j a at in let u = in_state-most h s pos low in let o = one_at-le (state_of (m.pin h)) s in ((omega arith), (omega arith))

  pub held_alone : (j k : ℕ) (a b : HeaderHolds) (h s t : ℕ) → get_elem? hs j ≡ some a → get_elem? hs k ≡ some b → k ≢ j → 0 < s → s < RETIRED → 0 < t → t < RETIRED → 0 < in_state h s a → in_state h t b ≡ 0
  held_alone j k a b h s t at there ne ps ls pt lt some_of = dite (ℕ_discrete t s)
      (λ e. subst (λ (i : ℕ). in_state h i b ≡ 0) (sym e) (let w = total_two (in_state h s) hs j k a b (λ q. ne (sym q)) at there in let u = in_state-most h s ps ls in let o = one_at-le (state_of (m.pin h)) s in omega arith))
      (λ n. let w = total_at (in_state h t) hs k b there in let u = in_state-most h t pt lt in
      let o = one_at-other (state_of (m.pin h)) t (λ q. n (sym q ∙ held_is j a h s at ps ls some_of)) in omega arith)

  -- of a header, who holds it has all that its state says, and of a free one each pass has
  pub has_all : (j : ℕ) (a : HeaderHolds) (h s : ℕ) → get_elem? hs j ≡ some a → 0 < s → s < RETIRED → ((state_of (m.pin h) ≡ FREE) ⊎ (0 < held_in h a.held)) → in_state h s a ≡ one_at (state_of (m.pin h)) s
  has_all j a h s at pos low (inl free) = let t = total_at (in_state h s) hs j a at in let u = in_state-most h s pos low in let o = one_at-other (state_of (m.pin h)) s (λ e. omega arith) in omega arith
  has_all j a h s at pos low (inr some_of) = let t = total_at (in_state h s) hs j a at in let u = in_state-most h s pos low in
      one_at-cases (state_of (m.pin h)) s (λ k. in_state h s a ≤ k → in_state h s a ≡ k) (λ e le. let p = in_some s pos low some_of e in omega arith) (λ n le. omega arith) (omega arith)
    where
      in_some : (s : ℕ) → 0 < s → s < RETIRED → 0 < held_in h a.held → state_of (m.pin h) ≡ s → 0 < in_state h s a
      in_some s pos low some_of e = let t = some_state h a some_of in subst (λ (i : ℕ). 0 < in_state h i a) (sym (held_is j a h t.0 at t.1 t.2 t.3) ∙ e) t.3

  stocked_total : (h : ℕ) → total (λ (a : HeaderHolds). stocked_in h a.held) hs ≡ total (in_state h LIVE) hs + (total (in_state h LOCKED) hs + total (in_state h DEAD) hs)
  stocked_total h = total_sum (λ (a : HeaderHolds). stocked_in h a.held) (in_state h LIVE) (λ (a : HeaderHolds). in_state h LOCKED a + in_state h DEAD a) hs (λ a. stocked_split h a.held)
      ∙ ap (λ (n : ℕ). total (in_state h LIVE) hs + n) (total_sum (λ (a : HeaderHolds). in_state h LOCKED a + in_state h DEAD a) (in_state h LOCKED) (in_state h DEAD) hs (λ a. refl))

  -- no more passes hold a header in a state with a block than it is in one
  pub stocked_most : (h : ℕ) → total (λ (a : HeaderHolds). stocked_in h a.held) hs ≤ stocked (state_of (m.pin h))
  stocked_most h = let t = stocked_total h in let v = in_state-most h LIVE (omega arith) (omega arith) in let w = in_state-most h LOCKED (omega arith) (omega arith) in let x = in_state-most h DEAD (omega arith) (omega arith) in omega arith

  held_total : (h : ℕ) → total (λ (a : HeaderHolds). held_in h a.held) hs ≡ total (in_state h OWNED) hs + total (λ (a : HeaderHolds). stocked_in h a.held) hs
  held_total h = total_sum (λ (a : HeaderHolds). held_in h a.held) (in_state h OWNED) (λ (a : HeaderHolds). stocked_in h a.held) hs (holds_split h)

  pub headers_once : (h : ℕ) → total (λ (a : HeaderHolds). held_in h a.held) hs ≤ 1
  headers_once h = let t = held_total h in let u = in_state-most h OWNED (omega arith) (omega arith) in let v = stocked_most h in let o = held_le (state_of (m.pin h)) in omega arith

  pub free_unheld : (h : ℕ) → state_of (m.pin h) ≡ FREE → total (λ (a : HeaderHolds). held_in h a.held) hs ≡ 0
  free_unheld h free = let t = held_total h in let u = in_state-most h OWNED (omega arith) (omega arith) in let v = stocked_most h in
      let o = one_at-other (state_of (m.pin h)) OWNED (λ e. omega arith) in let p = unstocked (state_of (m.pin h)) (omega arith) in omega arith

  -- a header that is known at its generation has a block, and no pass has it fresh
  pub known_settled : (h g : ℕ) → 0 < known h g → generation_of (m.pin h) ≡ g → (stocked (state_of (m.pin h)) ≡ 1) × (total (in_state h LIVE) hs ≡ 0)
  known_settled h g some_of at = let s = r.settled h in let k = ap (known h) at in let o = stocked_le (state_of (m.pin h)) in ((omega arith), (omega arith))

  -- where it is live besides, no pass holds it
  pub known_unheld : (h g : ℕ) → 0 < known h g → generation_of (m.pin h) ≡ g → state_of (m.pin h) ≡ LIVE → total (λ (a : HeaderHolds). held_in h a.held) hs ≡ 0
  known_unheld h g some_of at live = let k = known_settled h g some_of at in let t = held_total h in let none = λ (s : ℕ) (pos : 0 < s) (low : s < RETIRED) (ne : s ≢ LIVE). r.held h s pos low ne ∙ one_at-other (state_of (m.pin h)) s (λ e. ne (sym e ∙ live)) in
      let x = stocked_total h in let o = none OWNED (omega arith) (omega arith) (λ e. omega arith) in let l = none LOCKED (omega arith) (omega arith) (λ e. omega arith) in let d = none DEAD (omega arith) (omega arith) (λ e. omega arith) in let z = k.1 in omega arith

  -- a header that a pass has locked or buries is known
  pub locked_known : (j : ℕ) (a : HeaderHolds) (h s : ℕ) → get_elem? hs j ≡ some a → LIVE < s → s < RETIRED → 0 < in_state h s a → known h (generation_of (m.pin h)) ≡ 1
  locked_known j a h s at above low some_of = let is = held_is j a h s at (omega arith) low some_of in let t = stocked_high (state_of (m.pin h)) (omega arith) (omega arith) in let f = r.fresh h in let o = one_at-other (state_of (m.pin h)) LIVE (λ e. omega arith) in
      let w = r.settled h in omega arith

  -- of a header that no pass holds each has none, and of one that a pass holds each other
  pub unheld_by : (h : ℕ) → total (λ (a : HeaderHolds). held_in h a.held) hs ≡ 0 → (j : ℕ) (u : HeaderHolds) → get_elem? hs j ≡ some u → held_in h u.held ≡ 0
  unheld_by h none j u at = let t = total_at (λ (a : HeaderHolds). held_in h a.held) hs j u at in omega arith

  pub unheld_else : (j : ℕ) (a : HeaderHolds) (h : ℕ) → get_elem? hs j ≡ some a → 0 < held_in h a.held → (k : ℕ) (u : HeaderHolds) → get_elem? hs k ≡ some u → k ≢ j → held_in h u.held ≡ 0
  unheld_else j a h at some_of k u there ne = let t = total_two (λ (a : HeaderHolds). held_in h a.held) hs j k a u (λ e. ne (sym e)) at there in let o = headers_once h in omega arith

  pub held_one : (j : ℕ) (a : HeaderHolds) (h s : ℕ) → get_elem? hs j ≡ some a → 0 < in_state h s a → held_in h a.held ≡ 1
  held_one j a h s at some_of = let t = total_at (λ (a : HeaderHolds). held_in h a.held) hs j a at in let o = headers_once h in let l = holds_some h s a some_of in omega arith

  -- the record of a header that a pass holds
  pub record_of : (j : ℕ) (a : HeaderHolds) (h s : ℕ) → get_elem? hs j ≡ some a → 0 < in_state h s a → (x : HeldHeader) × Has x a.held × (x.header ≡ h) × (held_state x.held_as ≡ s) × (generation_of (m.pin h) ≡ x.generation)
  record_of j a h s at some_of = let t = row_of h s a.held some_of in
      (t.0, t.1, t.2, t.3, ap (λ (i : ℕ). generation_of (m.pin i)) (sym t.2) ∙ each_has (λ (x : HeldHeader). generation_of (m.pin x.header) ≡ x.generation) a.held t.0 (r.generations j a at) t.1)

  pub generation_is : (j : ℕ) (a : HeaderHolds) (h : ℕ) → get_elem? hs j ≡ some a → 0 < held_in h a.held → generation_of (m.pin h) ≡ generation_held h a.held
  generation_is j a h at some_of = generation_in h (λ k g. generation_of (m.pin k) ≡ g) a.held (r.generations j a at) some_of

  pub fresh_at_is : (j : ℕ) (a : HeaderHolds) (h g : ℕ) → get_elem? hs j ≡ some a → IsFreshAt h g a → (state_of (m.pin h) ≡ LIVE) × (generation_of (m.pin h) ≡ g)
  fresh_at_is j a h g at fresh = let t = fresh_row h g a.held fresh in (
    fresh_is j a h at (knows_fresh h g a fresh),
    ap (λ (i : ℕ). generation_of (m.pin i)) (sym t.2) ∙ (each_has (λ (x : HeldHeader). generation_of (m.pin x.header) ≡ x.generation) a.held t.0 (r.generations j a at) t.1 ∙ t.3),
  )

  -- a pin is counted
  pub pin_counted : (j : ℕ) (a : HeaderHolds) (p : PinnedHeader) (h : ℕ) → get_elem? hs j ≡ some a → a.pin ≡ Some p → p.header ≡ h → 0 < count_of (m.pin h)
  pin_counted j a p h at is e = let t = total_at (pins_on h) hs j a at in let c = r.counted h in let q = pin_is h a.pin p is e in omega arith
