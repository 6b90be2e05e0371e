-- How a scan goes to the next of the entries that it has loaded.
use Rattle.std.proofs.Common.{◌≡◌, ℕ, suc, ◌<◌, ◌≤◌, Bool, true, false, List, [], ◌∷◌, ◌++◌, Option, Some, None, sym, subst, arith}
use Rattle.oak_model.specs.declared.limits.TheConstants.{GREATEST_ENTRIES}
use Rattle.oak_model.specs.declared.replies.Pair.{Pair}
use Rattle.oak_model.specs.KeyNumber.{key_number}
use Rattle.value_ops.specs.PinnedValues.{stamp_under, value_under}
use Rattle.scan_cursor.specs.declared.ways.Way.{Way}
use Rattle.scan_cursor.specs.declared.ways.Way.TheVariants.{Up, Down}
use Rattle.scan_cursor.specs.Gathered.{KnewLast, Loaded}
use Rattle.scan_cursor.specs.Holding.{ahead_from, ahead_past, high_end, low_end}
use Rattle.scan_cursor.specs.Marks.{Come, InBounds, IsBeyond, IsWithin}
use Rattle.scan_cursor.specs.Views.{IsKnown, KnowsLast, Later, ReadsKey, View}
use Rattle.scan_cursor.specs.Walks.{AreAhead, Course, Gathers, HasWalked, IsWalk, WalkGives, WalkPasses, pair_of}
use Rattle.scan_cursor.proofs.GatherLaws.{First, first_of, gap_down, gap_up, gathered_stays, next_down, next_up}
use Rattle.scan_cursor.proofs.MarkLaws.{come_absent, come_present, come_stays, lifts_down, lifts_end_down, lifts_end_up, lifts_up}
use Rattle.scan_cursor.proofs.ReadingViews.{later_self, read_before}
use Rattle.scan_cursor.proofs.WalkLaws.{ahead_stays, come_past}

next_reach : (way : Way) (v : View) (k : List ℕ) (b : Option (List ℕ)) (x : Loaded) (xs : List Loaded) → AreAhead way v k b (x ∷ xs) → AreAhead way v x.key b xs
next_reach Up v k b x xs a = record { reach = a.gathers.ordered.0.2; moment = a.moment; since = a.since; gathers = next_up a.moment v (suc (key_number k)) (high_end b) x xs a.gathers }
next_reach Down v k b x xs a = record { reach = a.gathers.ordered.0.1; moment = a.moment; since = a.since; gathers = next_down a.moment v (low_end b) (key_number k) x xs a.gathers }

next_gathers : (way : Way) (a v : View) (k : List ℕ) (b : Option (List ℕ)) (x : Loaded) (xs : List Loaded) → Gathers way a v k b (x ∷ xs) → Gathers way a v x.key b xs
next_gathers Up a v k b x xs g = next_up a v (suc (key_number k)) (high_end b) x xs g
next_gathers Down a v k b x xs g = next_down a v (low_end b) (key_number k) x xs g

-- no key of the batch is beyond the bound of the scan
next_within : (way : Way) (lo hi : ℕ) (a v : View) (k : List ℕ) (b : Option (List ℕ)) (x : Loaded) (xs : List Loaded) → IsWithin way lo hi b → Gathers way a v k b (x ∷ xs) → IsBeyond way lo hi x.key → ⊥
next_within Up lo hi a v k b x xs w g n = let l = g.ordered.0.2 in omega arith
next_within Down lo hi a v k b x xs w g n = let l = g.ordered.0.1 in omega arith

not_less : (m n : ℕ) → (m < n → ⊥) → n ≤ m
not_less m n h = omega arith

next_bounds : (way : Way) (lo hi : ℕ) (a v : View) (k : List ℕ) (b : Option (List ℕ)) (x : Loaded) (xs : List Loaded) → InBounds lo hi k → Gathers way a v k b (x ∷ xs) → (IsBeyond way lo hi x.key → ⊥) → InBounds lo hi x.key
next_bounds Up lo hi a v k b x xs i g n = let f = g.ordered.0 in let l = f.1 in record { key = f.0; above = omega (arith, i.above); below = not_less hi (key_number x.key) n }
next_bounds Down lo hi a v k b x xs i g n = let f = g.ordered.0 in let l = f.2 in record { key = f.0; above = not_less (key_number x.key) lo n; below = omega (arith, i.below) }

next_come : (way : Way) (lo hi : ℕ) (a v : View) (k : List ℕ) (b : Option (List ℕ)) (x : Loaded) (xs : List Loaded) (ps : List Pair) → Gathers way a v k b (x ∷ xs) → Come way lo hi true false k a v ps → Come way lo hi false false x.key a v ps
next_come Up lo hi a v k b x xs ps g c = let l = g.ordered.0.1 in lifts_up lo hi (key_number x.key) g.ats k x.key a v ps (omega arith) (omega arith) (gap_up a v (suc (key_number k)) (high_end b) x xs g) c
next_come Down lo hi a v k b x xs ps g c = let l = g.ordered.0.2 in lifts_down lo hi (suc (key_number x.key)) g.ats k x.key a v ps (omega arith) (omega arith) (gap_down a v (low_end b) (key_number k) x xs g) c

next_ends : (way : Way) (lo hi : ℕ) (a v : View) (k : List ℕ) (past : Bool) (b : Option (List ℕ)) (x : Loaded) (xs : List Loaded) (ps : List Pair) → InBounds lo hi k → IsBeyond way lo hi x.key → Gathers way a v k b (x ∷ xs)
    → Come way lo hi true false k a v ps → Come way lo hi past true x.key a v ps
next_ends Up lo hi a v k past b x xs ps i n g c = lifts_end_up lo hi (key_number x.key) g.ats past k x.key a v ps i.below n (gap_up a v (suc (key_number k)) (high_end b) x xs g) c
next_ends Down lo hi a v k past b x xs ps i n g c = lifts_end_down lo hi (suc (key_number x.key)) g.ats past k x.key a v ps i.above (omega arith) (gap_down a v (low_end b) (key_number k) x xs g) c

-- the first of the entries that are left is x
module _ (way : Way) (lo hi : ℕ) (c : Course) (x : Loaded) (xs : List Loaded) (u : View) (i : IsWalk way lo hi c) (going : c.walk.mark.ended ≡ false) (past : c.walk.mark.past ≡ true) (has : c.walk.gathered ≡ true) (first : c.left ≡ x ∷ xs) where
  pub ahead : AreAhead way c.view c.walk.mark.key c.walk.bound (x ∷ xs)
  ahead = subst (AreAhead way c.view c.walk.mark.key c.walk.bound) first (i.ahead has)

  gathers : (a : View) (ps : List Pair) → HasWalked way lo hi c a ps → Gathers way a c.view c.walk.mark.key c.walk.bound (x ∷ xs)
  gathers a ps h = subst (Gathers way a c.view c.walk.mark.key c.walk.bound) first (h.ahead has)

  come : (a : View) (ps : List Pair) → HasWalked way lo hi c a ps → Come way lo hi true false c.walk.mark.key a c.view ps
  come a ps h = come_past way lo hi c.walk a c.view ps going past h.come

  -- it is a key, and its life is known
  pub taken_first : First ahead.moment c.view (ahead_from way c.walk.mark.key c.walk.bound) (ahead_past way c.walk.mark.key c.walk.bound) x
  taken_first = first_of way ahead.moment c.view (ahead_from way c.walk.mark.key c.walk.bound) (ahead_past way c.walk.mark.key c.walk.bound) x xs ahead.gathers

  pub taken_known : IsKnown x.header x.generation c.view
  taken_known = record { key = x.key; moment = taken_first.knew.0; knows = taken_first.knew.3; since = taken_first.knew.2 }

  pub taken_within : c.walk.within ≡ true → IsBeyond way lo hi x.key → ⊥
  taken_within e = next_within way lo hi ahead.moment c.view c.walk.mark.key c.walk.bound x xs (i.within has e) ahead.gathers

  -- it is beyond the bound of the scan
  pub take_beyond : (within : Bool) (from to asked : ℕ) (ys : List Loaded) → IsBeyond way lo hi x.key → to ≤ GREATEST_ENTRIES → WalkPasses way lo hi c (record { walk = record { mark = record { key = x.key; past = c.walk.mark.past; ended = true }; gathered = false; from = from; to = to; bound = c.walk.bound; within = within; asked = asked }; left = ys; view = c.view })
  take_beyond within from to asked ys n few = record {
    walk = record { bounds = λ e. absurd cc; bound = i.bound; few = few; within = λ e. absurd cc; ahead = λ e. absurd cc };
    later = later_self c.view;
    goes = λ a ps h. record { come = next_ends way lo hi a c.view c.walk.mark.key c.walk.mark.past c.walk.bound x xs ps (i.bounds going) n (gathers a ps h) (come a ps h); ahead = λ e. absurd cc };
  }

  -- the walk at its key
  abbrev pub at_taken : Bool → ℕ → ℕ → ℕ → Course
  at_taken at from to asked = record { walk = record { mark = record { key = x.key; past = at; ended = c.walk.mark.ended }; gathered = c.walk.gathered; from = from; to = to; bound = c.walk.bound; within = c.walk.within; asked = asked }; left = xs; view = u }

  module _ (from to asked : ℕ) (few : to ≤ GREATEST_ENTRIES) (n : IsBeyond way lo hi x.key → ⊥) (l : Later c.view u) where
    inside : InBounds lo hi x.key
    inside = next_bounds way lo hi ahead.moment c.view c.walk.mark.key c.walk.bound x xs (i.bounds going) ahead.gathers n

    walks : (at : Bool) → IsWalk way lo hi (at_taken at from to asked)
    walks at = record { bounds = λ _. inside; bound = i.bound; few = few; within = i.within; ahead = λ _. ahead_stays way c.view u x.key c.walk.bound xs l (next_reach way c.view c.walk.mark.key c.walk.bound x xs ahead) }

    behind : (a : View) (ps : List Pair) → HasWalked way lo hi c a ps → Gathers way a u x.key c.walk.bound xs
    behind a ps h = gathered_stays way a c.view u (ahead_from way x.key c.walk.bound) (ahead_past way x.key c.walk.bound) xs l (next_gathers way a c.view c.walk.mark.key c.walk.bound x xs (gathers a ps h))

    come_to : (a : View) (ps : List Pair) → HasWalked way lo hi c a ps → Come way lo hi false false x.key a c.view ps
    come_to a ps h = next_come way lo hi a c.view c.walk.mark.key c.walk.bound x xs ps (gathers a ps h) (come a ps h)

    -- its value is being written, or was written anew: it is to be read again
    pub take_stays : WalkPasses way lo hi c (at_taken false from to asked)
    take_stays = record {
      walk = walks false;
      later = l;
      goes = λ a ps h. record { come = subst (λ (y : Bool). Come way lo hi false y x.key a u ps) (sym going) (come_stays way lo hi false false x.key a c.view u ps l (come_to a ps h)); ahead = λ _. behind a ps h };
    }

    -- its life was removed
    pub take_absent : ((k : List ℕ) (m : View) → KnowsLast k x.header x.generation m → Later m c.view → (at : ℕ) × ReadsKey m u k at None) → WalkPasses way lo hi c (at_taken c.walk.mark.past from to asked)
    take_absent f = record {
      walk = walks c.walk.mark.past;
      later = l;
      goes = λ a ps h.
          let k : KnewLast a c.view x = (first_of way a c.view (ahead_from way c.walk.mark.key c.walk.bound) (ahead_past way c.walk.mark.key c.walk.bound) x xs (gathers a ps h)).knew in
          let r = f x.key k.0 k.3 k.2 in
          let d = come_absent way lo hi x.key a c.view u r.0 ps inside l (read_before x.key r.0 None a k.0 u k.1 r.1) (come_to a ps h) in
          record { come = subst (λ (y : Bool). Come way lo hi y c.walk.mark.ended x.key a u ps) (sym past) (subst (λ (y : Bool). Come way lo hi true y x.key a u ps) (sym going) d); ahead = λ _. behind a ps h };
    }

    -- it was read present
    pub take_present : ((k : List ℕ) (m : View) → KnowsLast k x.header x.generation m → Later m c.view → ReadsKey m u k (stamp_under u.state) (Some (value_under u.state))) → WalkGives way lo hi c (at_taken c.walk.mark.past from to asked)
    take_present f = record {
      walk = walks c.walk.mark.past;
      going = going;
      later = l;
      goes = λ a ps h.
          let k : KnewLast a c.view x = (first_of way a c.view (ahead_from way c.walk.mark.key c.walk.bound) (ahead_past way c.walk.mark.key c.walk.bound) x xs (gathers a ps h)).knew in
          let p = pair_of x.key u.state in
          let d = come_present way lo hi a c.view u p ps inside l (read_before x.key p.at (Some p.value) a k.0 u k.1 (f x.key k.0 k.3 k.2)) (come_to a ps h) in
          record { come = subst (λ (y : Bool). Come way lo hi y c.walk.mark.ended x.key a u (ps ++ p ∷ [])) (sym past) (subst (λ (y : Bool). Come way lo hi true y x.key a u (ps ++ p ∷ [])) (sym going) d); ahead = λ _. behind a ps h };
    }
