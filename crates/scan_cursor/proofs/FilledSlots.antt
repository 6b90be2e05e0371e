-- The slots that a scan has filled so far, along the links of a room.
use Rattle.std.proofs.Common.{◌≡◌, ℕ, ◌<◌, ◌≤◌, ◌||◌, ◌⊎◌, inl, inr, ⊎_elim, ◌++◌, Bool, true, false, List, [], ◌∷◌, map, Option, Some, None, sym, refl, ap, ◌∙◌, subst, arith}
use mathlib.Core.Logic.{dite}
use native.Mathlib.Decide.{dec_lt}
use Rattle.oak_model.specs.Counts.{Each}
use Rattle.oak_model.specs.Key.{AreBytes, IsKey, is_key, same_key}
use Rattle.oak_model.specs.KeyNumber.{key_number}
use Rattle.oak_model.specs.Limits.{Sizes}
use Rattle.oak_model.proofs.KeyLaws.{is_key-is, is_key-of, same_itself}
use Rattle.oak_model.proofs.Lists.{each_append, each_map}
use Rattle.oak_model.proofs.NumberLaws.{key_number_is}
use Rattle.chunk_core.specs.declared.holds.FoundEntry.{FoundEntry}
use Rattle.chunk_core.specs.FoundLinks.{IsAboveFound}
use Rattle.chunk_core.specs.PinnedRooms.{found_key}
use Rattle.chunk_ops.specs.Listing.{Rise}
use Rattle.chunk_ops.specs.Stored.{IsStored}
use Rattle.chunk_ops.proofs.KeyCopies.{stored_bytes}
use Rattle.oak_core.specs.declared.sorting.SortSlot.{SortSlot}
use Rattle.oak_core.specs.declared.states.PassState.{PassState}
use Rattle.scan_cursor.specs.Gathered.{KnewLast, Loaded, has_slot, in_slot}
use Rattle.scan_cursor.specs.Loading.{IsSlotOf, stored_in}
use Rattle.scan_cursor.specs.Views.{Later, ReadsKey, View, view_of}
use Rattle.scan_cursor.proofs.GatherViews.{knew_until, read_until}
use Rattle.scan_cursor.proofs.PassedEntries.{IsUpTo, up_next, up_or_above}
use Rattle.scan_cursor.proofs.SlotLaws.{map_end}

-- the number of a slot's key
abbrev pub slot_number : SortSlot → ℕ
slot_number s = key_number (in_slot s).key

-- the slot is of a key between the two numbers, and its entry named its life between the two views
pub record IsLoaded (before now : View) (from past : ℕ) (s : SortSlot) : Type 0 where
  pub key : is_key (in_slot s).key ≡ true
  pub from_on : from ≤ slot_number s
  pub below : slot_number s < past
  pub knew : KnewLast before now (in_slot s)

-- the key of each is below all behind it
abbrev pub AreRising : List SortSlot → Type 0
AreRising [] = Unit {0}
AreRising (x ∷ xs) = Each (λ y. slot_number x < slot_number y) xs × AreRising xs

-- They are slots of keys between the two numbers, which rise; each other such key of a number that has P was read absent.
pub record HasLoaded (before now : View) (from past : ℕ) (P : ℕ → Type 0) (xs : List SortSlot) : Type 0 where
  pub slots : Each (IsLoaded before now from past) xs
  pub rising : AreRising xs
  pub absent : (q : List ℕ) → is_key q ≡ true → from ≤ key_number q → key_number q < past → P (key_number q) → has_slot q (map in_slot xs) ≡ false → (at : ℕ) × ReadsKey before now q at None

-- so it is up to the key of the entry that was passed last
pub record Fills (before now : View) (from past : ℕ) (last : Option FoundEntry) (xs : List SortSlot) : Type 0 where
  pub loaded : HasLoaded before now from past (IsUpTo last) xs
  pub up_to : Each (λ (s : SortSlot). IsUpTo last (slot_number s)) xs

-- ---- slots and keys

-- the bytes in a slot are those of its key
pub slot_key : (q : List ℕ) (s : SortSlot) → IsStored (stored_in s) q → (in_slot s).key ≡ q
slot_key q s h = stored_bytes (stored_in s) q h

pub neither : (a b : Bool) → (a || b) ≡ false → (a ≡ false) × (b ≡ false)
neither true b e = absurd cc
neither false b e = (refl, e)

pub either : (a b : Bool) → a ≡ false → b ≡ false → (a || b) ≡ false
either true b e f = absurd cc
either false b e f = f

-- a key that is none of more slots
pub back_either : (q : List ℕ) (xs : List Loaded) (x : Loaded) → has_slot q (xs ++ x ∷ []) ≡ false → (has_slot q xs ≡ false) × (same_key q x.key ≡ false)
back_either q [] x e = (refl, (neither (same_key q x.key) false e).0)
back_either q (y ∷ ys) x e = let a = neither (same_key q y.key) (has_slot q (ys ++ x ∷ [])) e in let b = back_either q ys x a.1 in (either (same_key q y.key) (has_slot q ys) a.0 b.0, b.1)

-- one more whose key is above all
rising_more : (xs : List SortSlot) (s : SortSlot) → AreRising xs → Each (λ x. slot_number x < slot_number s) xs → AreRising (xs ++ s ∷ [])
rising_more [] s r h = (tt, tt)
rising_more (x ∷ xs) s r h = (each_append (λ y. slot_number x < slot_number y) xs (s ∷ []) r.0 (h.0, tt), rising_more xs s r.1 h.1)

pub fills_none : (before now : View) (from past : ℕ) → Fills before now from past None []
fills_none before now from past = record { loaded = record { slots = tt; rising = tt; absent = λ q is a b u. absurd u }; up_to = tt }

-- where more is read between the views
pub loaded_until : (z : Sizes) (call : ℕ) (v w x : PassState) (from past : ℕ) (P : ℕ → Type 0) (xs : List SortSlot) → Later (view_of z call w) (view_of z call x) → HasLoaded (view_of z call v) (view_of z call w) from past P xs → HasLoaded (view_of z call v) (view_of z call x) from past P xs
loaded_until z call v w x from past P xs l h = record {
  slots = each_map (IsLoaded (view_of z call v) (view_of z call w) from past) (IsLoaded (view_of z call v) (view_of z call x) from past) xs
      (λ s i. record { key = i.key; from_on = i.from_on; below = i.below; knew = knew_until z call v w x (in_slot s) l i.knew }) h.slots;
  rising = h.rising;
  absent = λ q is a b p none. let r = h.absent q is a b p none in (r.0, read_until z call v w x q r.0 None l r.1);
}

-- ---- one entry more: the walk passes f, whose key is p, and each key between the last one and it was read absent

module _ (before now : View) (from past : ℕ) (last : Option FoundEntry) (xs : List SortSlot) (up_to : Each (λ (s : SortSlot). IsUpTo last (slot_number s)) xs) (h : HasLoaded before now from past (IsUpTo last) xs) (f : FoundEntry) (rises : Rise last (Some f))
    (gap : (q : List ℕ) → is_key q ≡ true → from ≤ key_number q → key_number q < past → IsAboveFound last (key_number q) → key_number q < found_key f → (at : ℕ) × ReadsKey before now q at None)
    (p : List ℕ) (real : IsKey p) (bytes : AreBytes p) (number : found_key f ≡ key_number p) where
  abbrev IsAbsent : List ℕ → Type 0
  IsAbsent q = (at : ℕ) × ReadsKey before now q at None

  below_it : (q : List ℕ) → is_key q ≡ true → from ≤ key_number q → key_number q < past → key_number q < found_key f → has_slot q (map in_slot xs) ≡ false → IsAbsent q
  below_it q is a b l none = ⊎_elim (λ (u : IsUpTo last (key_number q)). h.absent q is a b u none) (λ (u : IsAboveFound last (key_number q)). gap q is a b u l) (up_or_above last (key_number q))

  -- a key up to it is below it, or its own
  either_way : (q : List ℕ) → is_key q ≡ true → IsUpTo (Some f) (key_number q) → (key_number q < found_key f) ⊎ (p ≡ q)
  either_way q is u = dite (dec_lt (key_number q) (found_key f)) (λ l. inl l) (λ n. let k = is_key-is q is in inr (key_number_is p q bytes k.1 real k.0 (omega arith)))

  still_up : Each (λ (s : SortSlot). IsUpTo (Some f) (slot_number s)) xs
  still_up = each_map (λ (s : SortSlot). IsUpTo last (slot_number s)) (λ (s : SortSlot). IsUpTo (Some f) (slot_number s)) xs (λ s u. up_next last f (slot_number s) rises u) up_to

  -- without a slot
  pub fills_past : (from ≤ key_number p → key_number p < past → (at : ℕ) × ReadsKey before now p at None) → Fills before now from past (Some f) xs
  fills_past own = record {
    loaded = record {
      slots = h.slots;
      rising = h.rising;
      absent = λ q is a b u none. ⊎_elim (λ (l : key_number q < found_key f). below_it q is a b l none) (λ (e : p ≡ q). subst IsAbsent e (own (let n = ap key_number e in omega arith) (let n = ap key_number e in omega arith))) (either_way q is u);
    };
    up_to = still_up;
  }

  -- with a slot
  module _ (s : SortSlot) (slot : IsSlotOf p now s) (a : from ≤ key_number p) (b : key_number p < past) (knew : KnewLast before now (in_slot s)) where
    same : (in_slot s).key ≡ p
    same = slot_key p s slot.stored

    slot_is : slot_number s ≡ found_key f
    slot_is = ap key_number same ∙ sym number

    below_slot : (x : SortSlot) → IsUpTo last (slot_number x) → slot_number x < slot_number s
    below_slot x u = strictly last rises u
      where
        strictly : (last : Option FoundEntry) → Rise last (Some f) → IsUpTo last (slot_number x) → slot_number x < slot_number s
        strictly None r i = absurd i
        strictly (Some e) r i = let t = slot_is in omega arith

    shown : (q : List ℕ) → p ≡ q → same_key q (in_slot s).key ≡ false → ⊥
    shown q e away = let t = sym (ap (same_key q) (same ∙ e) ∙ same_itself q) ∙ away in absurd cc

    pub fills_more : Fills before now from past (Some f) (xs ++ s ∷ [])
    fills_more = record {
      loaded = record {
        slots = each_append (IsLoaded before now from past) xs (s ∷ []) h.slots (
          record {
            key = ap is_key same ∙ is_key-of p real bytes;
            from_on = (let n = ap key_number same in omega arith);
            below = (let n = ap key_number same in omega arith);
            knew = knew;
          },
          tt,
        );
        rising = rising_more xs s h.rising (each_map (λ (x : SortSlot). IsUpTo last (slot_number x)) (λ (x : SortSlot). slot_number x < slot_number s) xs below_slot up_to);
        absent = λ q is c d u none. let n = back_either q (map in_slot xs) (in_slot s) (ap (has_slot q) (sym (map_end xs s)) ∙ none) in ⊎_elim (λ (l : key_number q < found_key f). below_it q is c d l n.0) (λ (e : p ≡ q). absurd (shown q e n.1)) (either_way q is u);
      };
      up_to = each_append (λ (x : SortSlot). IsUpTo (Some f) (slot_number x)) xs (s ∷ []) still_up ((let t = slot_is in let l : slot_number s ≤ found_key f = omega arith in l), tt);
    }
