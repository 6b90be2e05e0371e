-- Histories whose stamps count up by one.
use Rattle.std.proofs.Common.{◌≡◌, ℕ, suc, ◌+◌, ◌≤◌, [], ◌∷◌, ◌++◌, length, None, arith, inl, inr}
use Rattle.std.specs.Prelude.{fold, ⊤}
use Rattle.std.proofs.lemmas.Bool.{cases_lt, le-leb}
use Rattle.oak_model.specs.declared.writes.Write.{Write}
use Rattle.oak_model.specs.State.{State}
use Rattle.oak_model.specs.History.{History, StampsRise, FollowsCell, IsWriteOn, IsLegal, last_state, place_of}
use Rattle.oak_model.proofs.HistoryLaws.{StampsAbove, place_of-above}

-- the stamps count up by one from above n
abbrev pub DenseFrom : ℕ → History → Type 0
DenseFrom n [] = ⊤
DenseFrom n (w ∷ ws) = (w.stamp ≡ suc n) × DenseFrom (suc n) ws

abbrev pub IsDense : History → Type 0
IsDense h = DenseFrom 0 h

dense_from-push : (n : ℕ) (ws : History) (w : Write) → DenseFrom n ws → w.stamp ≡ suc (n + length ws) → DenseFrom n (ws ++ w ∷ [])
dense_from-push n [] w d e = (rw e (omega arith), tt)
dense_from-push n (x ∷ xs) w d e = (d.0, dense_from-push (suc n) xs w d.1 (rw e (omega arith)))

pub dense-push : (h : History) (w : Write) → IsDense h → w.stamp ≡ suc (length h) → IsDense (h ++ w ∷ [])
dense-push h w d e = dense_from-push 0 h w d (rw e (omega arith))

dense-rises : (n : ℕ) (h : History) → DenseFrom n h → StampsRise n h
dense-rises n [] d = tt
dense-rises n (w ∷ ws) d = (omega (arith, d.0), rw d.0 (dense-rises (suc n) ws d.1))

dense-above : (n at : ℕ) (h : History) → DenseFrom n h → at ≤ n → StampsAbove at h
dense-above n at [] d le = tt
dense-above n at (w ∷ ws) d le = (omega (arith, d.0), dense-above (suc n) at ws d.1 (omega arith))

place_dense : (n at : ℕ) (h : History) → DenseFrom n h → n ≤ at → at ≤ n + length h → place_of h at + n ≡ at
place_dense n at [] d low high = omega arith
place_dense n at (w ∷ ws) d low high =
    elim (cases_lt n at) [
      | inl lt ↦ rw (le-leb w.stamp at (omega (arith, d.0))) (let ih = place_dense (suc n) at ws d.1 (omega arith) (omega arith) in omega (arith, ih))
      | inr ge ↦ rw (place_of-above at (w ∷ ws) (dense-above n at (w ∷ ws) d ge)) (omega arith)
    ]

-- the place of a number is the number
pub place-dense : (h : History) (at : ℕ) → IsDense h → at ≤ length h → place_of h at ≡ at
place-dense h at d le = let e = place_dense 0 at h d (omega arith) (omega arith) in omega (arith, e)

follows-push : (s : State) (h : History) (w : Write) → FollowsCell s h → IsWriteOn (fold (λ (x : State) (v : Write). v.after) s h) w → FollowsCell s (h ++ w ∷ [])
follows-push s [] w f on = (on, tt)
follows-push s (x ∷ xs) w f on = (f.0, follows-push x.after xs w f.1 on)

pub follows_cell-push : (h : History) (w : Write) → FollowsCell None h → IsWriteOn (last_state h) w → FollowsCell None (h ++ w ∷ [])
follows_cell-push h w f on = follows-push None h w f on

pub dense-legal : (h : History) → IsDense h → FollowsCell None h → IsLegal h
dense-legal h d f = record { stamps = dense-rises 0 h d; cell = f }
