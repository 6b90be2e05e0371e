-- The entries that a walk along links has passed: their keys rise, so none is passed twice, and there are no more than a room has.
use Rattle.std.proofs.Common.{◌≡◌, ◌≢◌, ℕ, suc, ◌<◌, ◌≤◌, ◌⊎◌, inl, inr, List, [], ◌∷◌, length, refl, ap, ◌∙◌, subst, arith, Option, Some, None}
use mathlib.Core.Logic.{dite}
use native.Mathlib.Decide.{ℕ_discrete, dec_lt}
use Rattle.oak_model.specs.Counts.{Each, Has, one_at, total}
use Rattle.oak_model.specs.Limits.{Sizes}
use Rattle.oak_model.proofs.Counting.{one_at-le, one_at-other}
use Rattle.oak_model.proofs.Lists.{each_map}
use Rattle.oak_model.proofs.MemberLaws.{each_has}
use Rattle.chunk_core.specs.declared.holds.FoundEntry.{FoundEntry}
use Rattle.chunk_core.specs.FoundLinks.{IsAboveFound}
use Rattle.chunk_core.specs.PinnedRooms.{found_in, found_key}
use Rattle.chunk_core.proofs.Chains.{few_below}
use Rattle.oak_core.specs.declared.states.PassState.{PassState}
use Rattle.chunk_ops.specs.Listing.{Rise}
use Rattle.chunk_ops.specs.PinRecords.{HasRoomPin, IsFoundWell, room_pin}

-- the number is no greater than the key of the entry that was passed last, if there is one
abbrev pub IsUpTo : Option FoundEntry → ℕ → Type 0
IsUpTo None k = ⊥
IsUpTo (Some e) k = k ≤ found_key e

pub up_or_above : (last : Option FoundEntry) (k : ℕ) → IsUpTo last k ⊎ IsAboveFound last k
up_or_above None k = inr tt
up_or_above (Some e) k = dite (dec_lt (found_key e) k) (λ l. inr l) (λ n. inl (omega arith))

-- what is up to the last is up to the next
pub up_next : (last : Option FoundEntry) (f : FoundEntry) (k : ℕ) → Rise last (Some f) → IsUpTo last k → IsUpTo (Some f) k
up_next None f k r u = absurd u
up_next (Some e) f k r u = omega arith

-- and the next is not up to the last
next_above : (last : Option FoundEntry) (f : FoundEntry) → Rise last (Some f) → IsUpTo last (found_key f) → ⊥
next_above None f r u = u
next_above (Some e) f r u = absurd (omega arith)

-- an entry of the number was found, and its key is up to the last
pub record PassedEntry (last : Option FoundEntry) (w : PassState) (i : ℕ) : Type 0 where
  pub entry : FoundEntry
  pub there : Has entry (found_in (room_pin w))
  pub number : entry.number ≡ i
  pub up_to : IsUpTo last (found_key entry)

-- the numbers of those that are passed
pub record Passed (z : Sizes) (last : Option FoundEntry) (many : ℕ) (w : PassState) : Type 0 where
  pub numbers : List ℕ
  pub long : length numbers ≡ many
  pub few : Each (λ i. i < z.entries) numbers
  pub once : (i : ℕ) → total (λ j. one_at j i) numbers ≤ 1
  pub entries : Each (PassedEntry last w) numbers

pub passed_few : (z : Sizes) (last : Option FoundEntry) (many : ℕ) (w : PassState) → Passed z last many w → many ≤ z.entries
passed_few z last many w p = let f = few_below z.entries p.numbers p.few p.once in let l = p.long in omega arith

pub passed_none : (z : Sizes) (w : PassState) → Passed z None 0 w
unfolding total
passed_none z w = record { numbers = []; long = refl; few = tt; once = λ i. omega arith; entries = tt }

-- in a state in which no less is found
pub passed_stays : (z : Sizes) (last : Option FoundEntry) (many : ℕ) (w u : PassState) → ((e : FoundEntry) → Has e (found_in (room_pin w)) → Has e (found_in (room_pin u))) → Passed z last many w → Passed z last many u
passed_stays z last many w u grows p = record { numbers = p.numbers; long = p.long; few = p.few; once = p.once; entries = each_map (PassedEntry last w) (PassedEntry last u) p.numbers (λ i e. record { entry = e.entry; there = grows e.entry e.there; number = e.number; up_to = e.up_to }) p.entries }

module _ (z : Sizes) (r : ℕ) (last : Option FoundEntry) (many : ℕ) (w : PassState) (p : Passed z last many w) (has : HasRoomPin z r w) (f : FoundEntry) (there : Has f (found_in (room_pin w))) (rises : Rise last (Some f)) where
  -- the next is not among them
  apart : (i : ℕ) → PassedEntry last w i → i ≢ f.number
  apart i e s = next_above last f rises (subst (λ (x : FoundEntry). IsUpTo last (found_key x)) (has.alike e.entry f e.there there (e.number ∙ s)) e.up_to)

  none_of : (is : List ℕ) → Each (PassedEntry last w) is → total (λ j. one_at j f.number) is ≡ 0
  unfolding total
  none_of [] h = refl
  none_of (i ∷ is) h = let o = one_at-other i f.number (apart i h.0) in let t = none_of is h.1 in omega arith

  once_more : (i : ℕ) → total (λ j. one_at j i) (f.number ∷ p.numbers) ≤ 1
  unfolding total
  once_more i = dite (ℕ_discrete f.number i)
      (λ e. let n : total (λ j. one_at j i) p.numbers ≡ 0 = subst (λ (k : ℕ). total (λ j. one_at j k) p.numbers ≡ 0) e (none_of p.numbers p.entries) in let l = one_at-le f.number i in omega arith)
      (λ ne. let o = one_at-other f.number i ne in let t = p.once i in omega arith)

  pub passed_more : Passed z (Some f) (suc many) w
  passed_more = record {
    numbers = f.number ∷ p.numbers;
    long = ap suc p.long;
    few = ((each_has (IsFoundWell z) (found_in (room_pin w)) f has.found there).number, p.few);
    once = once_more;
    entries = (
      record { entry = f; there = there; number = refl; up_to = (let l : found_key f ≤ found_key f = omega arith in l) },
      each_map (PassedEntry last w) (PassedEntry (Some f) w) p.numbers (λ i e. record { entry = e.entry; there = e.there; number = e.number; up_to = up_next last f (found_key e.entry) rises e.up_to }) p.entries,
    );
  }
