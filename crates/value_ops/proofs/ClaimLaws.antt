-- Searches for a free header, one behind the other.
use Rattle.std.proofs.Common.{◌≡◌, ℕ, ◌+◌, ◌-◌, ◌*◌, ◌<◌, ◌≤◌, ◌⊎◌, List, [], ◌∷◌, ◌++◌, sym, refl, ap, ◌∙◌, subst, ⊎_elim, inl, inr, arith, Option, false, Some, None, IfNone, IfSome}
use mathlib.Core.Logic.{dite}
use native.Mathlib.Decide.{dec_lt}
use Rattle.oak_model.specs.Counts.{one_at}
use Rattle.oak_model.proofs.Counting.{one_at-same}
use Rattle.oak_model.specs.Limits.{Sizes}
use Rattle.oak_model.proofs.Lists.{each_append, each_map}
use Rattle.header_core.specs.declared.states.TheConstants.{OWNED}
use Rattle.header_core.specs.HeaderHolds.{in_state}
use Rattle.header_core.proofs.HeldChanges.{rows_claimed}
use Rattle.header_core.specs.HeaderStep.{claim_header, owned_at}
use Rattle.oak_core.specs.declared.states.Finding.{Finding}
use Rattle.oak_core.specs.declared.states.PassState.{PassState}
use Rattle.oak_core.specs.HeaderCalls.{NamesPin}
use Rattle.oak_core.specs.Memory.{headers_at, index, memory}
use Rattle.oak_core.specs.Finding.{had, grown, IsOf, IsLoadOf}
use Rattle.oak_core.specs.Step.{on_headers}
use Rattle.oak_core.specs.Usage.{is_free}
use Rattle.oak_core.proofs.seats.AloneRuns.{Then, runs_then, runs_as, runs_none}
use Rattle.oak_core.proofs.calls.FoundThere.{found_first, found_later}
use Rattle.oak_core.proofs.memory.HeaderPlaces.{pin_place}
use Rattle.oak_core.proofs.calls.MetMore.{grown_twice, grown_none, told_of}
use Rattle.value_ops.specs.Claiming.{NoneFree, OwnsPin, pin_spot, FoundUnfree, FoundTwice, Looked, FindsNoneFree, ClaimsHeader}

module _ (z : Sizes) (call : ℕ) where
  -- nothing was looked at
  pub looked_none : (v : PassState) (P : ℕ → Type 0) → ((h : ℕ) → P h → ⊥) → Looked z call v v P
  looked_none v P empty = record { more = []; after = grown_none v; looks = tt; found = λ h lh p. absurd (empty h p); still = runs_none (NoneFree z P) v (λ a. (refl, λ h lh p. absurd (empty h p))) }

  pub looked_only : (v w : PassState) (P Q : ℕ → Type 0) → ((h : ℕ) → h < z.headers → Q h → P h) → Looked z call v w P → Looked z call v w Q
  looked_only v w P Q only l = record { more = l.more; after = l.after; looks = l.looks; found = λ h lh q. l.found h lh (only h lh q); still = runs_as (NoneFree z P) (NoneFree z Q) v w (λ a b d. (d.0, λ h lh q. d.1 h lh (only h lh q))) l.still }

  abbrev Unfree : ℕ → PassState → List Finding → Type 0
  Unfree h v met = FoundUnfree z call h v met ⊎ FoundTwice z call h v met

  unfree_first : (h : ℕ) (v : PassState) (first second : List Finding) → Unfree h v first → Unfree h v (first ++ second)
  unfree_first h v first second = ⊎_elim (λ (f : FoundUnfree z call h v first). inl (found_first z call (pin_spot h) v first second _ f))
      (λ (t : FoundTwice z call h v first). inr (record { one = found_first z call (pin_spot h) v first second _ t.one; other = found_first z call (pin_spot h) v first second _ t.other; apart = t.apart }))

  unfree_later : (h : ℕ) (v w : PassState) (first second : List Finding) → had (pin_spot h) w ≡ had (pin_spot h) v → Unfree h w second → Unfree h v (first ++ second)
  unfree_later h v w first second same = ⊎_elim (λ (f : FoundUnfree z call h w second). inl (found_later z call (pin_spot h) v w first second _ same f))
      (λ (t : FoundTwice z call h w second). inr (record { one = found_later z call (pin_spot h) v w first second _ same t.one; other = found_later z call (pin_spot h) v w first second _ same t.other; apart = t.apart }))

  pub looked_both : (v w x : PassState) (P Q : ℕ → Type 0) → Looked z call v w P → Looked z call w x Q → Looked z call v x (λ h. P h ⊎ Q h)
  looked_both v w x P Q l k = record {
    more = l.more ++ k.more;
    after = k.after ∙ (ap (grown k.more) l.after ∙ grown_twice v l.more k.more);
    looks = each_append (IsLoadOf z call) l.more k.more l.looks k.looks;
    found = λ h lh. ⊎_elim (λ (p : P h). unfree_first h v l.more k.more (l.found h lh p)) (λ (q : Q h). unfree_later h v w l.more k.more (ap (had (pin_spot h)) l.after) (k.found h lh q));
    still = runs_as (Then (NoneFree z P) (NoneFree z Q)) (NoneFree z (λ h. P h ⊎ Q h)) v x
        (λ a b d. (d.2.0 ∙ d.1.0, λ h lh. ⊎_elim (λ (p : P h). d.1.1 h lh p) (λ (q : Q h). subst (λ (m : List ℕ). is_free ((memory z m).headers.pin h) ≡ false) d.1.0 (d.2.1 h lh q)))) (runs_then (NoneFree z P) (NoneFree z Q) v w x l.still k.still);
  }

  -- a header is claimed behind what was looked at
  module _ (h : ℕ) (v w x : PassState) (P : ℕ → Type 0) (l : Looked z call v w P) (t : ClaimsHeader z call h w x) where
    same : grown t.before w ≡ grown (l.more ++ t.before) v
    same = ap (grown t.before) l.after ∙ grown_twice v l.more t.before

    pub claims_behind : ClaimsHeader z call h v x
    claims_behind = record {
      inside = t.inside;
      before = l.more ++ t.before;
      looks = each_append (IsLoadOf z call) l.more t.before l.looks t.looks;
      number = t.number;
      free = t.free;
      told = told_of z call (on_headers (claim_header h t.number)) (grown t.before w) (grown (l.more ++ t.before) v) same t.number x t.told;
      unheld = t.unheld;
      unpinned = t.unpinned;
      still = runs_as (Then (NoneFree z P) (OwnsPin z h)) (OwnsPin z h) v x (λ a b d. subst (λ (m : List ℕ). OwnsPin z h m b) d.1.0 d.2) (runs_then (NoneFree z P) (OwnsPin z h) v w x l.still t.still);
      more = l.more ++ t.more;
      calls = each_append (IsOf z call) l.more t.more (each_map (IsLoadOf z call) (IsOf z call) l.more (λ f k. (k.0, k.1, k.3)) l.looks) t.calls;
      after = t.after
          ∙ (ap (λ (y : PassState). record (grown t.more y) { headers = record y.headers { held = owned_at (memory z t.told.table.words).headers h ∷ y.headers.held } }) l.after
          ∙ ap (λ (y : PassState). record y { headers = record v.headers { held = owned_at (memory z t.told.table.words).headers h ∷ v.headers.held } }) (grown_twice v l.more t.more));
    }

  -- one header more, and round once

  pub next_header : (from i : ℕ) (v w x : PassState) → Looked z call v w (λ h. (from ≤ h) × (h < i)) → Looked z call w x (λ h. h ≡ i) → Looked z call v x (λ h. (from ≤ h) × (h < i + 1))
  next_header from i v w x l k = looked_only v x (λ h. ((from ≤ h) × (h < i)) ⊎ (h ≡ i)) (λ h. (from ≤ h) × (h < i + 1))
      (λ h lh p. let q : h < i + 1 = p.1 in dite (dec_lt h i) (λ lt. inl (p.0, lt)) (λ no. inr (omega arith)))
      (looked_both v w x (λ h. (from ≤ h) × (h < i)) (λ h. h ≡ i) l k)

  pub all_round : (first count : ℕ) (v w x : PassState) → count ≡ z.headers → Looked z call v w (λ h. (first ≤ h) × (h < count)) → Looked z call w x (λ h. (0 ≤ h) × (h < first)) → FindsNoneFree z call v x
  all_round first count v w x all l k = looked_only v x (λ h. ((first ≤ h) × (h < count)) ⊎ ((0 ≤ h) × (h < first))) (λ h. Unit {0})
      (λ h lh p. dite (dec_lt h first) (λ lt. inr (omega arith, lt)) (λ no. inl (omega arith, omega arith)))
      (looked_both v w x (λ h. (first ≤ h) × (h < count)) (λ h. (0 ≤ h) × (h < first)) l k)

-- who claimed a header owns it
pub claims_owned : (z : Sizes) (call h : ℕ) (v w : PassState) → ClaimsHeader z call h v w → 0 < in_state h OWNED w.headers
claims_owned z call h v w t = subst (λ (y : PassState). 0 < in_state h OWNED y.headers) (sym t.after)
    (let r = rows_claimed (memory z t.told.table.words).headers h h OWNED v.headers.held in let a = one_at-same h h refl in let b = one_at-same OWNED OWNED refl in
    let c : one_at h h * one_at OWNED OWNED ≡ 1 * 1 = (λ i. a i * b i) in omega arith)

-- what was done is of the call
module _ (z : Sizes) (first now : ℕ) (v w : PassState) (same : now ≡ first) where
  pub looked_in : (P : ℕ → Type 0) → Looked z now v w P → Looked z first v w P
  looked_in P l = subst (λ (k : ℕ). Looked z k v w P) same l

  pub claims_in : (h : ℕ) → ClaimsHeader z now h v w → ClaimsHeader z first h v w
  claims_in h t = subst (λ (k : ℕ). ClaimsHeader z k h v w) same t

pub if_none : {A : Type 0} (o : Option A) (P Q : Type 0) → (P → Q) → IfNone o P → IfNone o Q
if_none None P Q f p = f p
if_none (Some a) P Q f p = tt

pub if_some : {A : Type 0} (o : Option A) (P Q : A → Type 0) → ((a : A) → P a → Q a) → IfSome o P → IfSome o Q
if_some None P Q f p = tt
if_some (Some a) P Q f p = f a p

-- the pin words of the headers lie one behind the other
module _ (z : Sizes) (h to last : ℕ) (lt : h < to) (le : to ≤ z.headers) (is : last ≡ index z (pin_spot (to - 1))) where
  apart : (last ≡ index z (pin_spot h) + 3 * (to - 1 - h))
  apart = let a : ℕ = headers_at z in let x : ℕ = index z (pin_spot h) in let y : ℕ = index z (pin_spot (to - 1)) in
      let p : a + h * 3 ≡ x = pin_place z h in let q : a + (to - 1) * 3 ≡ y = pin_place z (to - 1) in let e : last ≡ y = is in let r : last ≡ x + 3 * (to - 1 - h) = omega arith in r

  pub pin_room : 3 * (to - 1 - h) ≤ last
  pin_room = let x : ℕ = index z (pin_spot h) in let e : last ≡ x + 3 * (to - 1 - h) = apart in omega arith

  pub names_pin : NamesPin z h (last - 3 * (to - 1 - h))
  names_pin = record { inside = omega arith; word_is = let x : ℕ = index z (pin_spot h) in let e : last ≡ x + 3 * (to - 1 - h) = apart in let r : last - 3 * (to - 1 - h) ≡ x = omega arith in r }
