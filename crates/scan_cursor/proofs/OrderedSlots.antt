-- Slots whose keys rise are in order, each way.
use Rattle.std.proofs.Common.{◌≡◌, ℕ, suc, ◌-◌, ◌<◌, ◌≤◌, ◌++◌, Bool, true, false, List, [], ◌∷◌, map, reverse, take, None, sym, refl, ap, ◌∙◌, subst, arith}
use mathlib.Core.List.{reverse-cons}
use mathlib.Core.Logic.{dite}
use native.Mathlib.Decide.{dec_lt}
use Rattle.oak_model.specs.Counts.{Each}
use Rattle.oak_model.specs.Key.{is_key, same_key}
use Rattle.oak_model.specs.KeyNumber.{key_number}
use Rattle.oak_model.proofs.Lists.{each_map}
use Rattle.oak_core.specs.declared.sorting.SortSlot.{SortSlot}
use Rattle.scan_cursor.specs.declared.ways.Way.{Way}
use Rattle.scan_cursor.specs.declared.ways.Way.TheVariants.{Up, Down}
use Rattle.scan_cursor.specs.Gathered.{AreInOrder, IsGathered, KnewLast, Loaded, has_slot, in_slot, slots_ahead}
use Rattle.scan_cursor.specs.Views.{ReadsKey, View}
use Rattle.scan_cursor.proofs.FilledSlots.{AreRising, HasLoaded, IsLoaded, back_either, either, slot_number}

unlike : true ≡ false → ⊥
unlike e = cc

-- of any number
abbrev pub Any : ℕ → Type 0
Any k = Unit {0}

abbrev ahead : Way → List SortSlot → List Loaded
ahead Up ys = map in_slot ys
ahead Down ys = reverse (map in_slot ys)

-- a key that is none of them is none of them the other way round
lacks_back : (q : List ℕ) (xs : List Loaded) → has_slot q (reverse xs) ≡ false → has_slot q xs ≡ false
lacks_back q [] e = refl
lacks_back q (x ∷ xs) e = let t = back_either q (reverse xs) x (ap (has_slot q) (sym (reverse-cons x xs)) ∙ e) in either (same_key q x.key) (has_slot q xs) t.1 (lacks_back q xs t.0)

lacking : (way : Way) (q : List ℕ) (ys : List SortSlot) → has_slot q (ahead way ys) ≡ false → has_slot q (map in_slot ys) ≡ false
lacking Up q ys e = e
lacking Down q ys e = lacks_back q (map in_slot ys) e

module _ (before now : View) (from past : ℕ) where
  abbrev Good : SortSlot → Type 0
  Good s = IsLoaded before now from past s

  -- ---- in order

  higher : (x : SortSlot) (xs : List SortSlot) → Each (λ y. slot_number x < slot_number y) xs → Each (λ y. suc (slot_number x) ≤ slot_number y) xs
  higher x xs h = each_map (λ y. slot_number x < slot_number y) (λ y. suc (slot_number x) ≤ slot_number y) xs (λ y l. omega arith) h

  ordered_up : (ys : List SortSlot) → Each Good ys → AreRising ys → (low : ℕ) → Each (λ y. low ≤ slot_number y) ys → AreInOrder Up before now low past (map in_slot ys)
  ordered_up [] all up low h = tt
  ordered_up (x ∷ xs) all up low h = ((all.0.key, h.0, all.0.below, all.0.knew), ordered_up xs all.1 up.1 (suc (slot_number x)) (higher x xs up.0))

  last_down : (zs : List Loaded) (low high : ℕ) (x : Loaded) → is_key x.key ≡ true → low ≤ key_number x.key → key_number x.key < high → KnewLast before now x → AreInOrder Down before now (suc (key_number x.key)) high zs → AreInOrder Down before now low high (zs ++ x ∷ [])
  last_down [] low high x k a b m h = ((k, a, b, m), tt)
  last_down (y ∷ ys) low high x k a b m ((yk, ya, yb, ym), rest) = ((yk, (let t : low ≤ key_number y.key = omega arith in t), yb, ym), last_down ys low (key_number y.key) x k a ya m rest)

  ordered_down : (ys : List SortSlot) → Each Good ys → AreRising ys → (low : ℕ) → Each (λ y. low ≤ slot_number y) ys → AreInOrder Down before now low past (reverse (map in_slot ys))
  ordered_down [] all up low h = tt
  ordered_down (x ∷ xs) all up low h = subst (AreInOrder Down before now low past) (sym (reverse-cons (in_slot x) (map in_slot xs)))
      (last_down (reverse (map in_slot xs)) low past (in_slot x) all.0.key h.0 all.0.below all.0.knew (ordered_down xs all.1 up.1 (suc (slot_number x)) (higher x xs up.0)))

  from_on : (ys : List SortSlot) → Each Good ys → Each (λ y. from ≤ slot_number y) ys
  from_on ys all = each_map Good (λ y. from ≤ slot_number y) ys (λ y i. i.from_on) all

  ordered : (way : Way) (ys : List SortSlot) → Each Good ys → AreRising ys → AreInOrder way before now from past (ahead way ys)
  ordered Up ys all up = ordered_up ys all up from (from_on ys all)
  ordered Down ys all up = ordered_down ys all up from (from_on ys all)

  -- ---- the other keys

  module _ (way : Way) (ys : List SortSlot) (h : HasLoaded before now from past Any ys) where
    abbrev IsLacking : List ℕ → ℕ → Type 0
    IsLacking q at = is_key q ≡ true → from ≤ key_number q → key_number q < past → has_slot q (ahead way ys) ≡ false → ReadsKey before now q at None

    -- the place at which a key was read absent, if it was
    place : (q : List ℕ) → (at : ℕ) × IsLacking q at
    place q = by_key (is_key q) refl
      where
        by_slot : is_key q ≡ true → from ≤ key_number q → key_number q < past → (b : Bool) → has_slot q (ahead way ys) ≡ b → (at : ℕ) × IsLacking q at
        by_slot k a b true e = (0, λ _ _ _ f. absurd (unlike (sym e ∙ f)))
        by_slot k a b false e = let r = h.absent q k a b tt (lacking way q ys e) in (r.0, λ _ _ _ _. r.1)

        by_key : (b : Bool) → is_key q ≡ b → (at : ℕ) × IsLacking q at
        by_key false e = (0, λ f _ _ _. absurd (unlike (sym f ∙ e)))
        by_key true e = dite (dec_lt (key_number q) from) (λ l. (0, λ _ a _ _. absurd (omega arith))) (λ n. dite (dec_lt (key_number q) past) (λ l. by_slot e (omega arith) l (has_slot q (ahead way ys)) refl) (λ m. (0, λ _ _ b _. absurd (omega arith))))

    gathered : IsGathered way before now from past (ahead way ys)
    gathered = record { ordered = ordered way ys h.slots h.rising; ats = λ q. (place q).0; absent = λ q. (place q).1 }

  -- ---- as the pass has them

  ahead_is : (way : Way) (n : ℕ) (zs ys : List SortSlot) → take n zs ≡ ys → slots_ahead way 0 n zs ≡ ahead way ys
  ahead_is Up n zs ys e = let s : n - 0 ≡ n = omega arith in ap (λ (m : ℕ). map in_slot (take m zs)) s ∙ ap (map in_slot) e
  ahead_is Down n zs ys e = let s : n - 0 ≡ n = omega arith in ap (λ (m : ℕ). reverse (map in_slot (take m zs))) s ∙ ap (λ (l : List SortSlot). reverse (map in_slot l)) e

  pub gathered_slots : (way : Way) (n : ℕ) (zs ys : List SortSlot) → take n zs ≡ ys → HasLoaded before now from past Any ys → IsGathered way before now from past (slots_ahead way 0 n zs)
  gathered_slots way n zs ys e h = subst (IsGathered way before now from past) (sym (ahead_is way n zs ys e)) (gathered way ys h)
