-- A scan that is ended at a pair has read its range up to there.
use Rattle.std.proofs.Common.{◌≡◌, ℕ, suc, Bool, true, false, List, [], ◌∷◌, ◌++◌, Option, Some, None, refl, ap, ◌∙◌, subst, arith}
use Rattle.std.specs.Prelude.{◌&&◌, IsSome}
use Rattle.std.specs.List.{AllByRecursion}
use Rattle.std.proofs.lemmas.Bool.{ltb-true, leb-true}
use Rattle.oak_model.specs.declared.replies.Pair.{Pair}
use Rattle.oak_model.specs.Key.{is_key}
use Rattle.oak_model.specs.KeyNumber.{key_number}
use Rattle.oak_model.specs.Limits.{Sizes}
use Rattle.oak_core.specs.declared.table.Pass.{Pass}
use Rattle.oak_core.specs.AloneWords.{Runs}
use Rattle.oak_core.specs.Passes.{key as sizes, state}
use Rattle.chunk_ops.specs.PinRecords.{WordsStay}
use Rattle.scan_cursor.specs.declared.cursor.Cursor.{Cursor}
use Rattle.scan_cursor.specs.declared.walking.Walk.{Walk}
use Rattle.scan_cursor.specs.declared.ways.Way.{Way}
use Rattle.scan_cursor.specs.declared.ways.Way.TheVariants.{Up, Down}
use Rattle.scan_cursor.specs.Cursors.{HasGiven, IsCursor, key_of, under, view_under}
use Rattle.scan_cursor.specs.Leaving.{LeavesValue}
use Rattle.scan_cursor.specs.Marks.{Come}
use Rattle.scan_cursor.specs.Scanned.{greatest_of, least_of, within}
use Rattle.scan_cursor.specs.Views.{Later, View}
use Rattle.scan_cursor.specs.Walks.{Course, HasWalked, view_at}
use Rattle.scan_cursor.proofs.EndLaws.{scan_leaves, walk_ends}
use Rattle.oak_caller.specs.Scans.{GivesOn, GoesOn, ScannedTo, present}
use Rattle.oak_caller.proofs.PresentPairs.{at_pair}

all_last : (P : Pair → Type 0) (ps : List Pair) (x : Pair) → AllByRecursion P (ps ++ x ∷ []) → P x
all_last P [] x h = h.0
all_last P (p ∷ ps) x h = all_last P ps x h.1

and_left : (a b : Bool) → (a && b) ≡ true → a ≡ true
and_left true b e = refl
and_left false b e = absurd cc

and_right : (a b : Bool) → (a && b) ≡ true → b ≡ true
and_right true b e = e
and_right false b e = absurd cc

-- no key is in a range that ends before it, or begins behind it

past_itself : (lo : ℕ) (k : List ℕ) → within lo (key_number k) k ≡ true → ⊥
past_itself lo k e = let l = ltb-true (key_number k) (key_number k) (and_right _ _ (and_right (is_key k) _ e)) in omega arith

before_itself : (hi : ℕ) (k : List ℕ) → within (suc (key_number k)) hi k ≡ true → ⊥
before_itself hi k e = let l = leb-true (suc (key_number k)) (key_number k) (and_left _ _ (and_right (is_key k) _ e)) in omega arith

-- the mark at a pair that was given is past it

up_past : (past : Bool) (lo hi : ℕ) (k : List ℕ) (a v : View) (ps : List Pair) (x : Pair) → x.key ≡ k → Come Up lo hi past false k a v (ps ++ x ∷ []) → Come Up lo hi true false k a v (ps ++ x ∷ [])
up_past true lo hi k a v ps x e c = c
up_past false lo hi k a v ps x e c = absurd (past_itself lo k (subst (λ (q : List ℕ). within lo (key_number k) q ≡ true) e (all_last _ ps x c.scanned.told).0))

down_past : (past : Bool) (lo hi : ℕ) (k : List ℕ) (a v : View) (ps : List Pair) (x : Pair) → x.key ≡ k → Come Down lo hi past false k a v (ps ++ x ∷ []) → Come Down lo hi true false k a v (ps ++ x ∷ [])
down_past true lo hi k a v ps x e c = c
down_past false lo hi k a v ps x e c = absurd (before_itself (suc hi) k (subst (λ (q : List ℕ). within (suc (key_number k)) (suc hi) q ≡ true) e (all_last _ ps x c.scanned.told).0))

-- a walk like this one that has ended at its key
abbrev ended_walk : Walk → Walk
ended_walk w = record w { mark = record w.mark { ended = true; past = true }; gathered = false }

module _ (low high : Option (List ℕ)) (c : Cursor) (a u : View) (ps : List Pair) (i : IsCursor c) (has : IsSome c.value) (l : Later (view_under c) u) (s : Runs (LeavesValue (sizes c.table.now) c.value None) (under c) u.state) (g : HasGiven c a (ps ++ present c ∷ [])) where
  abbrev all : List Pair
  all = ps ++ present c ∷ []

  abbrev k : List ℕ
  k = key_of c

  abbrev ended : Course
  ended = record { walk = ended_walk c.walk; left = []; view = view_under c }

  going : c.walk.mark.ended ≡ false
  going = at_pair c.value (sizes c.table.now) c.walk.mark (under c) i.pair has

  still : Runs WordsStay a.state u.state
  still = scan_leaves c a all u.state i g s

  come : (w : Way) → c.way ≡ w → Come w (key_number c.low) (key_number c.high) c.walk.mark.past false k a (view_under c) all
  come w e = subst (λ (x : Way × Bool). Come x.0 (key_number c.low) (key_number c.high) c.walk.mark.past x.1 k a (view_under c) all) (λ j. (e j, going j)) g.walked.come

  pub stopped : (w : Way) → c.way ≡ w → key_number c.low ≡ least_of low → key_number c.high ≡ greatest_of high → ScannedTo w low high k a u all
  stopped Up e lo hi =
      let b = up_past c.walk.mark.past (key_number c.low) (key_number c.high) k a (view_under c) ps (present c) refl (come Up e) in
      let w : HasWalked Up (key_number c.low) (key_number k) ended a all = record { come = record { later = b.later; scanned = b.scanned; ordered = b.ordered }; ahead = λ t. absurd cc } in
      walk_ends Up low (Some k) a u all still (key_number c.low) (key_number k) ended lo refl refl l w
  stopped Down e lo hi =
      let b = down_past c.walk.mark.past (key_number c.low) (key_number c.high) k a (view_under c) ps (present c) refl (come Down e) in
      let w : HasWalked Down (key_number k) (key_number c.high) ended a all = record { come = record { later = b.later; scanned = b.scanned; ordered = b.ordered }; ahead = λ t. absurd cc } in
      walk_ends Down (Some k) high a u all still (key_number k) (key_number c.high) ended refl hi refl l w

-- the cursor b was begun by the pass p, and the one at the pair, n, was finished by the pass q
pub scan_stops : (z : Sizes) (p q : Pass) (b n : Cursor) (way : Way) (low high : Option (List ℕ)) (ps : List Pair) → sizes b.table.now ≡ z → b.pass.now ≡ p → GoesOn b n → b.way ≡ way → key_number b.low ≡ least_of low → key_number b.high ≡ greatest_of high → HasGiven b (view_at z p) [] → IsSome n.value
    → GivesOn b n [] (ps ++ present n ∷ []) → Later (view_under n) (view_at (sizes n.table.now) q) → Runs (LeavesValue (sizes n.table.now) n.value None) (under n) (state q) → ScannedTo way low high (key_of n) (view_at z p) (view_at z q) (ps ++ present n ∷ [])
scan_stops z p q b n way low high ps sizes_is same on is e f starts has gives l still =
    stopped low high n (view_at z p) (view_at z q) ps on.cursor has (subst (λ (i : Sizes). Later (view_under n) (view_at i q)) (ap (λ t. sizes t.now) on.table ∙ sizes_is) l) still (gives (view_at z p) starts) way (on.way ∙ is) (ap key_number on.low ∙ e) (ap key_number on.high ∙ f)
