-- A history with one write more at its end.
use Rattle.std.specs.Prelude.{fold}
use Rattle.std.proofs.Common.{◌≡◌, ℕ, ◌<◌, ◌≤◌, true, false, List, [], ◌∷◌, ◌++◌, sym, refl, ap, ◌∙◌, subst, inl, inr, arith, None, append-nil}
use Rattle.oak_model.specs.Counts.{Has, one_at}
use Rattle.oak_model.specs.History.{last_state, StampsRise, IsWriteOn, FollowsCell}
use Rattle.oak_model.specs.State.{State}
use Rattle.oak_model.specs.declared.writes.Write.{Write}
use Rattle.oak_model.proofs.Counting.{total_snoc}
use Rattle.oak_model.proofs.HistoryLaws.{last_state-push}
use Rattle.oak_model.proofs.LegalLaws.{follows_cell-push}
use Rattle.oak_model.proofs.Lists.{each_append}
use Rattle.chunk_core.specs.ValueWord.{names_header}
use Rattle.oak_core.specs.declared.states.KeyedWrite.{KeyedWrite}
use Rattle.oak_core.specs.KeyHistories.{writes_of, last_of, state_behind, stamp_behind, home_behind, before, is_absent, LivesFollow, IsKeyOf, IsKeyHistory, IsRemovedAt, homes_in}
use Rattle.oak_core.proofs.histories.WritesBelow.{before-cases, before_append}

-- a number of the last write
pub last_snoc : (f : KeyedWrite → ℕ) (d : ℕ) (h : List KeyedWrite) (w : KeyedWrite) → last_of f d (h ++ w ∷ []) ≡ f w
unfolding last_of
last_snoc f d [] w = refl
last_snoc f d (x ∷ xs) w = last_snoc f (f x) xs w

pub writes_snoc : (h : List KeyedWrite) (w : KeyedWrite) → writes_of (h ++ w ∷ []) ≡ writes_of h ++ w.write ∷ []
writes_snoc [] w = refl
writes_snoc (x ∷ xs) w = ap (λ (l : List Write). x.write ∷ l) (writes_snoc xs w)

pub state_snoc : (h : List KeyedWrite) (w : KeyedWrite) → state_behind (h ++ w ∷ []) ≡ w.write.after
state_snoc h w = ap last_state (writes_snoc h w) ∙ last_state-push (writes_of h) w.write

pub stamp_snoc : (h : List KeyedWrite) (w : KeyedWrite) → stamp_behind (h ++ w ∷ []) ≡ w.write.stamp
stamp_snoc h w = last_snoc (λ x. x.write.stamp) 0 h w

stamps_snoc : (s : ℕ) (h : List KeyedWrite) (w : KeyedWrite) → StampsRise s (writes_of h) → last_of (λ x. x.write.stamp) s h < w.write.stamp → StampsRise s (writes_of (h ++ w ∷ []))
unfolding last_of
stamps_snoc s [] w r l = (l, tt)
stamps_snoc s (x ∷ xs) w r l = (r.0, stamps_snoc x.write.stamp xs w r.1 l)

-- the state behind the writes, from s on
last_in : State → List KeyedWrite → State
last_in s [] = s
last_in s (x ∷ xs) = last_in x.write.after xs

last_in-is : (s : State) (h : List KeyedWrite) → last_in s h ≡ fold (λ (t : State) (w : Write). w.after) s (writes_of h)
unfolding last_in
last_in-is s [] = refl
last_in-is s (x ∷ xs) = last_in-is x.write.after xs

lives_snoc : (s : State) (home : ℕ) (h : List KeyedWrite) (w : KeyedWrite) → LivesFollow s home h → LivesFollow (last_in s h) (last_of (λ x. x.home) home h) (w ∷ []) → LivesFollow s home (h ++ w ∷ [])
unfolding last_of last_in
lives_snoc s home [] w l n = n
lives_snoc s home (x ∷ xs) w l n = (l.0, l.1, l.2, lives_snoc x.write.after x.home xs w l.3 n)

-- what a write at the end must be: on the state behind, with a greater stamp, of the life that goes on or of a new one
pub record GoesOn (k : ℕ) (h : List KeyedWrite) (w : KeyedWrite) : Type 0 where
  pub later : stamp_behind h < w.write.stamp
  pub writes : IsWriteOn (state_behind h) w.write
  pub inserts : w.inserts ≡ is_absent (state_behind h)
  pub new : w.inserts ≡ true → names_header w.home ≡ 1
  pub same : w.inserts ≡ false → w.home ≡ home_behind h
  pub key : IsKeyOf k w.key

pub history_goes_on : (k : ℕ) (h : List KeyedWrite) (w : KeyedWrite) → IsKeyHistory k h → GoesOn k h w → IsKeyHistory k (h ++ w ∷ [])
history_goes_on k h w is on = record {
  legal = record { stamps = stamps_snoc 0 h w is.legal.stamps on.later; cell = subst (FollowsCell None) (sym (writes_snoc h w)) (follows_cell-push (writes_of h) w.write is.legal.cell on.writes) };
  lives = lives_snoc None 0 h w is.lives (subst (λ (s : State). LivesFollow s (home_behind h) (w ∷ [])) (sym (last_in-is None h)) (on.inserts, on.new, on.same, tt));
  keys = each_append (λ (x : KeyedWrite). IsKeyOf k x.key) h (w ∷ []) is.keys (on.key, tt);
}

has_snoc : (x w : KeyedWrite) (h : List KeyedWrite) → Has x h → Has x (h ++ w ∷ [])
has_snoc x w [] m = absurd m
has_snoc x w (y ∷ ys) (inl e) = inl e
has_snoc x w (y ∷ ys) (inr m) = inr (has_snoc x w ys m)

-- what was removed stays so, and what was a life of the key is one
pub removed_snoc : (home stamp : ℕ) (h : List KeyedWrite) (w : KeyedWrite) → IsRemovedAt home stamp h → IsRemovedAt home stamp (h ++ w ∷ [])
removed_snoc home stamp h w r = record { write = r.write; there = has_snoc r.write w h r.there; home_is = r.home_is; after = r.after; stamp_is = r.stamp_is }

pub homes_snoc : (v : ℕ) (h : List KeyedWrite) (w : KeyedWrite) → 0 < homes_in v h → 0 < homes_in v (h ++ w ∷ [])
homes_snoc v h w l = let t = total_snoc (λ (x : KeyedWrite). one_at x.home v) h w in omega arith

-- a write past n is none of those below it
pub before_snoc : (n : ℕ) (h : List KeyedWrite) (w : KeyedWrite) → n ≤ w.write.stamp → before n (h ++ w ∷ []) ≡ before n h
unfolding before
before_snoc n h w l = before_append n h (w ∷ []) ∙ (ap (λ (t : List KeyedWrite). before n h ++ t) (before-cases n w [] (λ t. t ≡ []) (λ low. absurd (omega arith)) (λ _. refl)) ∙ append-nil (before n h))
