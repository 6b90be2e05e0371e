-- Where one thread makes all writes, a reply on a key has the place that counts the thread's writes of the key up to it.
use Rattle.std.proofs.Common.{◌≡◌, ℕ, suc, ◌+◌, ◌<◌, ◌≤◌, Bool, true, false, cond, List, [], ◌∷◌, length, Some, refl, sym, ap, subst, ◌∙◌, arith, inl, inr}
use Rattle.std.specs.Prelude.{⊤, if◌then◌else◌}
use Rattle.std.specs.List.{AllByRecursion}
use Rattle.std.proofs.lemmas.Bool.{OnTrue_at, and_parts, cases_Bool}
use Rattle.oak_model.specs.History.{Histories}
use Rattle.oak_run.specs.Answers.{Mark, asks_for, marks, writes_key}
use Rattle.oak_run.specs.Order.{Follows, Ordered}
use Rattle.oak_run.specs.Told.{ask_of, makes_write, reply_at}
use Rattle.oak_run.specs.Turn.{Turn}

-- ---- how many of the turns are writes of the key

abbrev pub writes_in : List ℕ → List Turn → ℕ
writes_in q [] = 0
writes_in q (t ∷ ts) = if writes_key q t then suc (writes_in q ts) else writes_in q ts

pub marks-count : (q : List ℕ) (caller n : ℕ) (ts : List Turn) → length (marks q caller n ts) ≡ writes_in q ts
marks-count q caller n [] = refl
marks-count q caller n (t ∷ ts) = by (writes_key q t) (marks-count q caller (suc n) ts)
  where
    mark : Mark
    mark = record { stamp = reply_at t.reply; caller = caller; call = n }

    by : (b : Bool) → length (marks q caller (suc n) ts) ≡ writes_in q ts → length (cond b (mark ∷ marks q caller (suc n) ts) (marks q caller (suc n) ts)) ≡ cond b (suc (writes_in q ts)) (writes_in q ts)
    by true rest = ap suc rest
    by false rest = rest

-- for each key a number of writes, and the same behind a turn
abbrev pub Counts : Type 0
Counts = List ℕ → ℕ

abbrev pub counted : Counts → Turn → Counts
counted n t q = if writes_key q t then suc (n q) else n q

abbrev pub counts_after : Counts → List Turn → Counts
counts_after n [] = n
counts_after n (t ∷ ts) = counts_after (counted n t) ts

-- ---- what the turns are to keep

-- no floor is behind the key's last write, a place that was read is a floor, and a write of a key has a place of it
pub record IsSeated (h : Histories) (t : Turn) : Type 0 where
  pub within : (q : List ℕ) (r : ℕ) → t.floors q ≡ Some r → r ≤ length (h q)
  pub floors : (q : List ℕ) (r : ℕ) → t.places q ≡ Some r → t.floors q ≡ Some r
  pub written : (q : List ℕ) → writes_key q t ≡ true → (r : ℕ) × (0 < r) × (t.places q ≡ Some r)

-- each place is the count, and no floor is behind it
pub record IsCounted (n : Counts) (t : Turn) : Type 0 where
  pub places : (q : List ℕ) (r : ℕ) → t.places q ≡ Some r → r ≡ counted n t q
  pub floors : (q : List ℕ) (r : ℕ) → t.floors q ≡ Some r → r ≤ counted n t q

abbrev pub AreCounted : Counts → List Turn → Type 0
AreCounted n [] = ⊤
AreCounted n (t ∷ ts) = IsCounted n t × AreCounted (counted n t) ts

-- its place of the key is not before this one, and behind it where it writes the key
abbrev Behind : List ℕ → ℕ → Turn → Type 0
Behind q r t = (s : ℕ) → t.places q ≡ Some s → (r ≤ s) × (writes_key q t ≡ true → r < s)

behind-floor : (q : List ℕ) (r : ℕ) (t : Turn) (us : List Turn) → t.floors q ≡ Some r → AllByRecursion (Follows t) us → AllByRecursion (Behind q r) us
behind-floor q r t [] floor all = tt
behind-floor q r t (u ∷ us) floor all = (
  (λ s place. let f = all.0 q r s floor place in (f.0, λ w. OnTrue_at (and_parts (asks_for q (ask_of u.call)) (makes_write u.reply) w).1 f.1)),
  behind-floor q r t us floor all.1,
)

-- ---- the writes to come have room

room : (h : Histories) (q : List ℕ) (r : ℕ) (ts : List Turn) → Ordered ts → AllByRecursion (IsSeated h) ts → AllByRecursion (Behind q r) ts → r ≤ length (h q) → r + writes_in q ts ≤ length (h q)
room h q r [] order seats behind le = omega arith
room h q r (t ∷ ts) order seats behind le =
    elim (cases_Bool (writes_key q t)) [
      | inl writes ↦
          let w = seats.0.written q writes in
          let floor = seats.0.floors q w.0 w.2 in
          let rest = room h q w.0 ts order.1 seats.1 (behind-floor q w.0 t ts floor order.0) (seats.0.within q w.0 floor) in
          let above = (behind.0 w.0 w.2).1 writes in
          let is : writes_in q (t ∷ ts) ≡ suc (writes_in q ts) = ap (λ (b : Bool). cond b (suc (writes_in q ts)) (writes_in q ts)) writes in
          omega arith
      | inr reads ↦
          let rest = room h q r ts order.1 seats.1 behind.1 le in
          let is : writes_in q (t ∷ ts) ≡ writes_in q ts = ap (λ (b : Bool). cond b (suc (writes_in q ts)) (writes_in q ts)) reads in
          omega arith
    ]

counts-step : (n : Counts) (q : List ℕ) (t : Turn) (ts : List Turn) → counted n t q + writes_in q ts ≡ n q + writes_in q (t ∷ ts)
counts-step n q t ts = by (writes_key q t)
  where
    by : (b : Bool) → cond b (suc (n q)) (n q) + writes_in q ts ≡ n q + cond b (suc (writes_in q ts)) (writes_in q ts)
    by true = omega arith
    by false = refl

-- a place behind the count is at least the count behind its turn
count-least : (n m : ℕ) (b : Bool) → n ≤ m → (b ≡ true → n < m) → cond b (suc n) n ≤ m
count-least n m true le lt = let l = lt refl in omega arith
count-least n m false le lt = le

-- ---- the places of all turns

module _ (h : Histories) where
  turn-counted : (n : Counts) (t : Turn) (ts : List Turn) → Ordered (t ∷ ts) → AllByRecursion (IsSeated h) (t ∷ ts) → ((q : List ℕ) → Behind q (n q) t) → ((q : List ℕ) → n q + writes_in q (t ∷ ts) ≡ length (h q)) → IsCounted n t
  turn-counted n t ts order seats behind all = record {
    places = λ q r place. let up = floor q r (seats.0.floors q r place) in let low = behind q r place in let down = count-least (n q) r (writes_key q t) low.0 low.1 in omega arith;
    floors = floor;
  }
    where
      floor : (q : List ℕ) (r : ℕ) → t.floors q ≡ Some r → r ≤ counted n t q
      floor q r e =
          let some = room h q r ts order.1 seats.1 (behind-floor q r t ts e order.0) (seats.0.within q r e) in
          let step = counts-step n q t ts in
          let whole = all q in
          omega arith

  behind-next : (n : Counts) (q : List ℕ) (t : Turn) (ts : List Turn) → Ordered (t ∷ ts) → IsSeated h t → IsCounted n t → AllByRecursion (Behind q (n q)) ts → AllByRecursion (Behind q (counted n t q)) ts
  behind-next n q t ts order seat is behind =
      elim (cases_Bool (writes_key q t)) [
        | inl writes ↦
            let w = seat.written q writes in
            subst (λ (r : ℕ). AllByRecursion (Behind q r) ts) (is.places q w.0 w.2) (behind-floor q w.0 t ts (seat.floors q w.0 w.2) order.0)
        | inr reads ↦ subst (λ (r : ℕ). AllByRecursion (Behind q r) ts) (sym (ap (λ (b : Bool). cond b (suc (n q)) (n q)) reads)) behind
      ]

  turns-counted : (n : Counts) (ts : List Turn) → Ordered ts → AllByRecursion (IsSeated h) ts → ((q : List ℕ) → AllByRecursion (Behind q (n q)) ts) → ((q : List ℕ) → n q + writes_in q ts ≡ length (h q))
      → AreCounted n ts × ((q : List ℕ) → counts_after n ts q ≡ length (h q))
  turns-counted n [] order seats behind all = (tt, λ q. let e = all q in omega arith)
  turns-counted n (t ∷ ts) order seats behind all =
      let here = turn-counted n t ts order seats (λ q. (behind q).0) all in
      let rest = turns-counted (counted n t) ts order.1 seats.1 (λ q. behind-next n q t ts order seats.0 here (behind q).1) (λ q. counts-step n q t ts ∙ all q) in
      ((here, rest.0), rest.1)

  -- a place of a write is not the first
  behind-none : (q : List ℕ) (ts : List Turn) → AllByRecursion (IsSeated h) ts → AllByRecursion (Behind q 0) ts
  behind-none q [] seats = tt
  behind-none q (t ∷ ts) seats = (
    (λ s place. (omega arith, λ writes. let w = seats.0.written q writes in let e = seats.0.floors q w.0 w.2 in let f = seats.0.floors q s place in same w.0 s (sym e ∙ f) w.1)),
    behind-none q ts seats.1,
  )
    where
      same : (r s : ℕ) → Some r ≡ Some s → 0 < r → 0 < s
      same r s e p = let f : r ≡ s = cc in subst (λ (x : ℕ). 0 < x) f p

  -- All of a thread, from no writes on.
  pub thread-counted : (ts : List Turn) → Ordered ts → AllByRecursion (IsSeated h) ts → ((q : List ℕ) → writes_in q ts ≡ length (h q))
      → AreCounted (λ _. 0) ts × ((q : List ℕ) → counts_after (λ _. 0) ts q ≡ length (h q))
  thread-counted ts order seats all = turns-counted (λ _. 0) ts order seats (λ q. behind-none q ts seats) (λ q. let e = all q in omega arith)
