-- A room whose entries were loaded once serves a scan entry by entry: the keys in between were read absent.
use Rattle.std.proofs.Common.{◌≡◌, ℕ, suc, ◌<◌, ◌≤◌, true, false, List, [], ◌∷◌, None, refl, ap, arith, inl, inr}
use Rattle.std.proofs.lemmas.Bool.{cases_Bool}
use Rattle.oak_model.specs.Key.{is_key, same_key}
use Rattle.oak_model.specs.KeyNumber.{key_number}
use Rattle.oak_model.proofs.KeyLaws.{same_is}
use Rattle.scan_cursor.specs.declared.ways.Way.{Way}
use Rattle.scan_cursor.specs.declared.ways.Way.TheVariants.{Up, Down}
use Rattle.scan_cursor.specs.Gathered.{AreInOrder, IsGathered, KnewLast, Loaded, has_slot}
use Rattle.scan_cursor.specs.Views.{Absents, Later, View}
use Rattle.scan_cursor.proofs.FilledSlots.{either}
use Rattle.scan_cursor.proofs.ReadingViews.{later_both, read_before, read_behind}

apart : (q k : List ℕ) → (key_number q ≡ key_number k → ⊥) → same_key q k ≡ false
apart q k n = elim (cases_Bool (same_key q k)) [ inl t ↦ absurd (n (ap key_number (same_is q k t))) | inr e ↦ e ]

-- what is said of the first of them

pub record First (before now : View) (from past : ℕ) (x : Loaded) : Type 0 where
  pub key : is_key x.key ≡ true
  pub low : from ≤ key_number x.key
  pub high : key_number x.key < past
  pub knew : KnewLast before now x

pub first_of : (way : Way) (a w : View) (from past : ℕ) (x : Loaded) (xs : List Loaded) → IsGathered way a w from past (x ∷ xs) → First a w from past x
first_of Up a w from past x xs g = let o = g.ordered.0 in record { key = o.0; low = o.1; high = o.2; knew = o.3 }
first_of Down a w from past x xs g = let o = g.ordered.0 in record { key = o.0; low = o.1; high = o.2; knew = o.3 }

-- none is below the first, or above it where they fall

below_first : (a w : View) (from past : ℕ) (q : List ℕ) (xs : List Loaded) → key_number q < from → AreInOrder Up a w from past xs → has_slot q xs ≡ false
below_first a w from past q [] lt o = refl
below_first a w from past q (x ∷ xs) lt o = let l = o.0.1 in either (same_key q x.key) (has_slot q xs) (apart q x.key (λ e. omega arith)) (below_first a w (suc (key_number x.key)) past q xs (omega arith) o.1)

above_first : (a w : View) (from past : ℕ) (q : List ℕ) (xs : List Loaded) → past ≤ key_number q → AreInOrder Down a w from past xs → has_slot q xs ≡ false
above_first a w from past q [] lt o = refl
above_first a w from past q (x ∷ xs) lt o = let l = o.0.2 in either (same_key q x.key) (has_slot q xs) (apart q x.key (λ e. omega arith)) (above_first a w from (key_number x.key) q xs (omega arith) o.1)

-- the keys up to the first

pub gap_up : (a w : View) (from past : ℕ) (x : Loaded) (xs : List Loaded) → (g : IsGathered Up a w from past (x ∷ xs)) → Absents a w from (key_number x.key) g.ats
gap_up a w from past x xs g q real lo hi = let high = g.ordered.0.2 in
    g.absent q real lo (omega arith) (either (same_key q x.key) (has_slot q xs) (apart q x.key (λ e. omega arith)) (below_first a w (suc (key_number x.key)) past q xs (omega arith) g.ordered.1))

pub gap_down : (a w : View) (from past : ℕ) (x : Loaded) (xs : List Loaded) → (g : IsGathered Down a w from past (x ∷ xs)) → Absents a w (suc (key_number x.key)) past g.ats
gap_down a w from past x xs g q real lo hi = let low = g.ordered.0.1 in
    g.absent q real (omega arith) hi (either (same_key q x.key) (has_slot q xs) (apart q x.key (λ e. omega arith)) (above_first a w from (key_number x.key) q xs (omega arith) g.ordered.1))

-- the keys of a room in which none is left
pub gap_end : (way : Way) (a w : View) (from past : ℕ) → (g : IsGathered way a w from past []) → Absents a w from past g.ats
gap_end way a w from past g q real lo hi = g.absent q real lo hi refl

-- those behind the first

pub next_up : (a w : View) (from past : ℕ) (x : Loaded) (xs : List Loaded) → IsGathered Up a w from past (x ∷ xs) → IsGathered Up a w (suc (key_number x.key)) past xs
next_up a w from past x xs g = record {
  ordered = g.ordered.1;
  ats = g.ats;
  absent = λ q real lo hi none. let low = g.ordered.0.1 in g.absent q real (omega arith) hi (either (same_key q x.key) (has_slot q xs) (apart q x.key (λ e. omega arith)) none);
}

pub next_down : (a w : View) (from past : ℕ) (x : Loaded) (xs : List Loaded) → IsGathered Down a w from past (x ∷ xs) → IsGathered Down a w from (key_number x.key) xs
next_down a w from past x xs g = record {
  ordered = g.ordered.1;
  ats = g.ats;
  absent = λ q real lo hi none. let high = g.ordered.0.2 in g.absent q real lo (omega arith) (either (same_key q x.key) (has_slot q xs) (apart q x.key (λ e. omega arith)) none);
}

-- it stays so, and is so since every earlier moment

knew_stays : (a w v : View) (x : Loaded) → Later w v → KnewLast a w x → KnewLast a v x
knew_stays a w v x l k = (k.0, k.1, later_both k.0 w v k.2 l, k.3)

knew_since : (a b w : View) (x : Loaded) → Later a b → KnewLast b w x → KnewLast a w x
knew_since a b w x l k = (k.0, later_both a b k.0 l k.1, k.2, k.3)

order_by : (way : Way) (a w b v : View) (from past : ℕ) (xs : List Loaded) → ((x : Loaded) → KnewLast a w x → KnewLast b v x) → AreInOrder way a w from past xs → AreInOrder way b v from past xs
order_by Up a w b v from past [] h o = tt
order_by Up a w b v from past (x ∷ xs) h o = let f = o.0 in ((f.0, f.1, f.2, h x f.3), order_by Up a w b v (suc (key_number x.key)) past xs h o.1)
order_by Down a w b v from past [] h o = tt
order_by Down a w b v from past (x ∷ xs) h o = let f = o.0 in ((f.0, f.1, f.2, h x f.3), order_by Down a w b v from (key_number x.key) xs h o.1)

pub gathered_stays : (way : Way) (a w v : View) (from past : ℕ) (xs : List Loaded) → Later w v → IsGathered way a w from past xs → IsGathered way a v from past xs
gathered_stays way a w v from past xs l g = record {
  ordered = order_by way a w a v from past xs (λ x k. knew_stays a w v x l k) g.ordered;
  ats = g.ats;
  absent = λ q real lo hi none. read_behind q (g.ats q) None a w v l (g.absent q real lo hi none);
}

pub gathered_since : (way : Way) (a b w : View) (from past : ℕ) (xs : List Loaded) → Later a b → IsGathered way b w from past xs → IsGathered way a w from past xs
gathered_since way a b w from past xs l g = record {
  ordered = order_by way b w a w from past xs (λ x k. knew_since a b w x l k) g.ordered;
  ats = g.ats;
  absent = λ q real lo hi none. read_before q (g.ats q) None a b w l (g.absent q real lo hi none);
}
