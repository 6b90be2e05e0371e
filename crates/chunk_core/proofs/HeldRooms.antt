-- The rooms that a pass has, where one of them comes or goes.
use Rattle.std.proofs.Common.{◌≡◌, ◌≢◌, ℕ, ◌+◌, ◌*◌, cond, List, [], ◌∷◌, sym, refl, ◌∙◌, arith}
use Rattle.oak_model.specs.Counts.{one_at, total, Each}
use Rattle.oak_model.proofs.Counting.{decided, one_at-same, one_at-other}
use Rattle.oak_model.proofs.SumLaws.{times-one, times-none}
use Rattle.chunk_core.specs.declared.holds.HeldRoom.{HeldRoom}
use Rattle.chunk_core.specs.RoomCopies.{without_room}
use Rattle.chunk_core.specs.RoomRule.{room_state}

-- how often the room is among them in the state
unfoldable pub room_rows : ℕ → ℕ → List HeldRoom → ℕ
room_rows r s hs = total (λ (h : HeldRoom). one_at h.room r * one_at (room_state h.held_as) s) hs

-- one more

pub row_here : (r j s : ℕ) (h : HeldRoom) (hs : List HeldRoom) → h.room ≡ r → j ≡ r → room_rows j s (h ∷ hs) ≡ one_at (room_state h.held_as) s + room_rows j s hs
unfolding room_rows total
row_here r j s h hs e d = let t = times-one (one_at h.room j) (one_at (room_state h.held_as) s) (one_at-same h.room j (e ∙ sym d)) in omega arith

pub row_else : (r j s : ℕ) (h : HeldRoom) (hs : List HeldRoom) → h.room ≡ r → j ≢ r → room_rows j s (h ∷ hs) ≡ room_rows j s hs
unfolding room_rows total
row_else r j s h hs e ne = let t = times-none (one_at h.room j) (one_at (room_state h.held_as) s) (one_at-other h.room j (λ q. ne (sym q ∙ e))) in omega arith

-- one less

without-cases : (r : ℕ) (h : HeldRoom) (hs : List HeldRoom) (P : List HeldRoom → Type 0) → (h.room ≡ r → P (without_room r hs)) → (h.room ≢ r → P (h ∷ without_room r hs)) → P (without_room r (h ∷ hs))
unfolding without_room
without-cases r h hs P same other = decided h.room r (λ t. P (cond t (without_room r hs) (h ∷ without_room r hs))) same other

pub without_here : (r s : ℕ) (hs : List HeldRoom) → room_rows r s (without_room r hs) ≡ 0
unfolding total room_rows without_room
without_here r s [] = refl
without_here r s (h ∷ hs) = let t = without_here r s hs in without-cases r h hs (λ l. total (λ (x : HeldRoom). one_at x.room r * one_at (room_state x.held_as) s) l ≡ 0) (λ _. t)
    (λ n. let z = times-none (one_at h.room r) (one_at (room_state h.held_as) s) (one_at-other h.room r n) in omega arith)

pub without_else : (r j s : ℕ) (hs : List HeldRoom) → j ≢ r → room_rows j s (without_room r hs) ≡ room_rows j s hs
unfolding total room_rows without_room
without_else r j s [] ne = refl
without_else r j s (h ∷ hs) ne = let t = without_else r j s hs ne in without-cases r h hs (λ l. total (λ (x : HeldRoom). one_at x.room j * one_at (room_state x.held_as) s) l ≡ one_at h.room j * one_at (room_state h.held_as) s + total (λ (x : HeldRoom). one_at x.room j * one_at (room_state x.held_as) s) hs)
    (λ e. let z = times-none (one_at h.room j) (one_at (room_state h.held_as) s) (one_at-other h.room j (λ q. ne (sym q ∙ e))) in omega arith) (λ _. omega arith)

pub each_without : (P : HeldRoom → Type 0) (r : ℕ) (hs : List HeldRoom) → Each P hs → Each P (without_room r hs)
unfolding without_room
each_without P r [] e = e
each_without P r (h ∷ hs) e = without-cases r h hs (Each P) (λ _. each_without P r hs e.1) (λ _. (e.0, each_without P r hs e.1))
