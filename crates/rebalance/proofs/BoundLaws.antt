-- One word more of a bound was stored.
use Rattle.std.proofs.Common.{◌≡◌, ◌≢◌, ℕ, suc, ◌+◌, ◌<◌, ◌==◌, ◌&&◌, ◌⊎◌, inl, inr, cond, List, get_or, sym, ◌∙◌, ap, refl, subst, arith}
use Rattle.chunk_core.specs.RoomStep.{put_room}
use Rattle.chunk_core.specs.Rooms.{RoomMemory, at_low, at_high}
use Rattle.rebalance.specs.Bounds.{Sets, KeepsButBounds, bound_word}
use Rattle.rebalance.proofs.StoredWords.{at_one}

-- no word was stored yet
pub sets_none : (r : ℕ) (g : ℕ → ℕ) (a : ℕ → ℕ → ℕ) → Sets r 0 g a a
sets_none r g a = record { words = λ j l. absurd (omega arith); rest = λ q j f. refl }

-- the next word was stored
pub sets_more : (r i x : ℕ) (g : ℕ → ℕ) (before now : ℕ → ℕ → ℕ) → Sets r i g before now → x ≡ g i → Sets r (i + 1) g before (λ q j. cond ((j == i) && (q == r)) x (now q j))
sets_more r i x g before now h e = record {
  words = λ j l. at_one j i r r x (now r j) (λ v. v ≡ g j) (λ a _. e ∙ ap g (sym a)) (λ o. h.words j (less j l o));
  rest = λ q j f. at_one j i q r x (now q j) (λ v. v ≡ before q j) (λ a b. let t = f b in absurd (omega arith)) (λ o. h.rest q j (λ b. let t = f b in omega arith));
}
  where
    less : (j : ℕ) → j < i + 1 → (j ≢ i) ⊎ (r ≢ r) → j < i
    less j l (inl a) = omega arith
    less j l (inr a) = absurd (a refl)

-- the same for another form of the number of words
pub sets_until : (r m n : ℕ) (g : ℕ → ℕ) (a b : ℕ → ℕ → ℕ) → m ≡ n → Sets r m g a b → Sets r n g a b
sets_until r m n g a b e h = subst (λ (k : ℕ). Sets r k g a b) e h

-- behind the first word stand the key's
pub word_behind : (first : ℕ) (ws : List ℕ) (i : ℕ) → get_or ws i 0 ≡ bound_word first ws (i + 1)
word_behind first ws i = ap (bound_word first ws) (let e : suc i ≡ i + 1 = omega arith in e)

-- the store of a bound's word keeps all else

pub keeps_here : (m : RoomMemory) → KeepsButBounds m m
keeps_here m = record { pin = refl; base = refl; count = refl; latch = refl; first = refl; key = refl; value = refl; next = refl }

pub keeps_low : (r k x : ℕ) (m now : RoomMemory) → KeepsButBounds m now → KeepsButBounds m (put_room now (at_low r k) x)
keeps_low r k x m now h = record { pin = h.pin; base = h.base; count = h.count; latch = h.latch; first = h.first; key = h.key; value = h.value; next = h.next }

pub keeps_high : (r k x : ℕ) (m now : RoomMemory) → KeepsButBounds m now → KeepsButBounds m (put_room now (at_high r k) x)
keeps_high r k x m now h = record { pin = h.pin; base = h.base; count = h.count; latch = h.latch; first = h.first; key = h.key; value = h.value; next = h.next }
