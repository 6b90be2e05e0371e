-- A longer history keeps what was said of the places of a shorter one.
use Rattle.std.proofs.Common.{◌≡◌, ℕ, zero, suc, ◌+◌, ◌-◌, ◌<◌, ◌≤◌, Bool, true, false, cond, leb, [], ◌∷◌, ◌++◌, length, Some, None, refl, sym, ap, subst, ◌∙◌, arith, inl, inr}
use Rattle.std.specs.Prelude.{IsSome, ⊤, MatchBool}
use Rattle.std.specs.List.{slice_get}
use Rattle.std.proofs.lemmas.Bool.{cases_lt, lt-leb}
use Rattle.std.proofs.lemmas.List.{take_at, take-append-le}
use Rattle.std.proofs.lemmas.List.Sums.{fold-append}
use Rattle.oak_model.specs.declared.writes.Write.{Write}
use Rattle.oak_model.specs.declared.cells.CellCall.{CellCall}
use Rattle.oak_model.specs.declared.cells.CellReply.{CellReply}
use Rattle.oak_model.specs.Counts.{Begins}
use Rattle.oak_model.specs.State.{State}
use Rattle.oak_model.proofs.Lists.{begins_self, begins_trans, begins_length}
use Rattle.oak_model.specs.Cell.{is_write}
use Rattle.oak_model.specs.History.{History, last_state, state_at, place_of}
use Rattle.oak_model.specs.Life.{IsLifeAt, EndsAt}
use Rattle.oak_model.specs.Fits.{WriteFits, ReadFits, ReplyFits}

-- the longer one begins with the shorter
abbrev pub Extends : History → History → Type 0
Extends h e = Begins h e

pub Extends-self : (h : History) → Extends h h
Extends-self h = begins_self h

pub Extends-then : (a b c : History) → Extends a b → Extends b c → Extends a c
Extends-then a b c p q = begins_trans a b c p q

pub length-extends : (h e : History) → Extends h e → length h ≤ length e
length-extends h e x = begins_length h e x

pub state_at-extends : (h e : History) (r : ℕ) → Extends h e → r ≤ length h → state_at e r ≡ state_at h r
state_at-extends h e r x le = rw (x.1, take-append-le r h x.0 le) refl

pub state_at-end : (h e : History) → Extends h e → state_at e (length h) ≡ last_state h
state_at-end h e x = rw (x.1, take_at h x.0 (length h) refl) refl

pub last_state-push : (h : History) (w : Write) → last_state (h ++ w ∷ []) ≡ w.after
last_state-push h w = fold-append (λ (s : State) (v : Write). v.after) None h (w ∷ [])

pub slice_get-mid : (xs : History) (y : Write) (ys : History) → slice_get (xs ++ y ∷ ys) (length xs) ≡ Some y
slice_get-mid [] y ys = refl
slice_get-mid (x ∷ xs) y ys = slice_get-mid xs y ys

pub slice_get-front : (h rest : History) (i : ℕ) → i < length h → slice_get (h ++ rest) i ≡ slice_get h i
slice_get-front [] rest i lt = absurd (omega arith)
slice_get-front (w ∷ ws) rest zero lt = refl
slice_get-front (w ∷ ws) rest (suc i) lt = slice_get-front ws rest i (omega arith)

-- ---- places

-- each stamp is above this number
abbrev pub StampsAbove : ℕ → History → Type 0
StampsAbove at [] = ⊤
StampsAbove at (w ∷ ws) = (at < w.stamp) × StampsAbove at ws

pub place_of-above : (at : ℕ) (ws : History) → StampsAbove at ws → place_of ws at ≡ 0
place_of-above at [] above = refl
place_of-above at (w ∷ ws) above = rw (lt-leb w.stamp at above.0) (place_of-above at ws above.1)

pub place_of-append : (at : ℕ) (h rest : History) → StampsAbove at rest → place_of (h ++ rest) at ≡ place_of h at
place_of-append at [] rest above = place_of-above at rest above
place_of-append at (w ∷ ws) rest above =
    elim (leb w.stamp at) as (λ b. cond b (suc (place_of (ws ++ rest) at)) (place_of (ws ++ rest) at) ≡ cond b (suc (place_of ws at)) (place_of ws at)) [
      | true ↦ ap suc (place_of-append at ws rest above)
      | false ↦ place_of-append at ws rest above
    ]

-- ---- replies

write_fits-extends : (h e : History) (caller n : ℕ) (cell : CellCall) (word : CellReply) (r : ℕ) → Extends h e → WriteFits h caller n cell word r → WriteFits e caller n cell word r
write_fits-extends h e caller n cell word r x f =
    let lt : r - 1 < length h = omega (arith, f.first, f.last) in
    let before : state_at e (r - 1) ≡ state_at h (r - 1) = state_at-extends h e (r - 1) x (omega arith) in
    let behind : state_at e r ≡ state_at h r = state_at-extends h e r x f.last in
    let at_r : slice_get e (r - 1) ≡ slice_get h (r - 1) = rw x.1 (slice_get-front h x.0 (r - 1) lt) in
    record {
      first = f.first;
      last = omega (arith, f.last, length-extends h e x);
      write = rw at_r f.write;
      answer = rw before f.answer;
      after = rw (before, behind) f.after;
    }

pub reply_fits-extends : (h e : History) (caller n : ℕ) (cell : CellCall) (word : CellReply) (r : ℕ) → Extends h e → ReplyFits h caller n cell word r → ReplyFits e caller n cell word r
reply_fits-extends h e caller n cell word r x f = by (is_write word) f
  where
    by : (b : Bool) → MatchBool b (WriteFits h caller n cell word r) (ReadFits h cell word r) → MatchBool b (WriteFits e caller n cell word r) (ReadFits e cell word r)
    by true g = write_fits-extends h e caller n cell word r x g
    by false g = record { last = omega (arith, g.last, length-extends h e x); answer = rw (state_at-extends h e r x g.last) g.answer }

-- ---- lives

pub life-extends : (h e : History) (r p : ℕ) → Extends h e → IsLifeAt h r p → IsLifeAt e r p
life-extends h e r p x f = record {
  from = f.from;
  last = omega (arith, f.last, length-extends h e x);
  present = λ y low high. subst (λ (s : State). IsSome s) (sym (state_at-extends h e y x (omega (arith, f.last)))) (f.present y low high);
}

pub ends-extends : (h e : History) (r g : ℕ) → Extends h e → EndsAt h r g → EndsAt e r g
ends-extends h e r g x f = record {
  after = f.after;
  last = omega (arith, f.last, length-extends h e x);
  present = λ y low high. subst (λ (s : State). IsSome s) (sym (state_at-extends h e y x (omega (arith, f.last)))) (f.present y low high);
  removed = state_at-extends h e g x f.last ∙ f.removed;
}

-- the first absent place is the next one, or behind it
one_more : (h : History) (r d : ℕ) → r + suc (suc d) ≤ length h → IsSome (state_at h r) → (IsSome (state_at h (suc r)) → (g : ℕ) × EndsAt h (suc r) g) → (g : ℕ) × EndsAt h r g
one_more h r d le some later = by (state_at h (suc r)) refl
  where
    here : (y : ℕ) → r ≤ y → y < suc r → IsSome (state_at h y)
    here y low high = let same : y ≡ r = omega arith in subst (λ (z : ℕ). IsSome (state_at h z)) (sym same) some

    from : (f : (g : ℕ) × EndsAt h (suc r) g) → (y : ℕ) → r ≤ y → y < f.0 → IsSome (state_at h y)
    from f y low high = elim (cases_lt r y) [ inl lt ↦ f.1.present y (omega arith) high | inr ge ↦ here y low (omega arith) ]

    by : (s : State) → state_at h (suc r) ≡ s → (g : ℕ) × EndsAt h r g
    by None none = (suc r, record { after = omega arith; last = omega arith; present = here; removed = none })
    by (Some b) some_next =
        let f = later (rw some_next refl) in
        (f.0, record { after = omega (arith, f.1.after); last = f.1.last; present = from f; removed = f.1.removed })

-- where the key is absent at a later place, the life ends
pub first_absent : (h : History) (r d : ℕ) → r + suc d ≤ length h → IsSome (state_at h r) → state_at h (r + suc d) ≡ None → (g : ℕ) × EndsAt h r g
first_absent h r zero le some none = (
  suc r,
  record {
    after = omega arith;
    last = omega arith;
    present = λ y low high. let same : y ≡ r = omega arith in subst (λ (z : ℕ). IsSome (state_at h z)) (sym same) some;
    removed = let same : suc r ≡ r + suc zero = omega arith in rw same none;
  },
)
first_absent h r (suc d) le some none =
    let same : suc r + suc d ≡ r + suc (suc d) = omega arith in
    one_more h r d le some (λ (present : IsSome (state_at h (suc r))). first_absent h (suc r) d (omega arith) present (rw same none))
