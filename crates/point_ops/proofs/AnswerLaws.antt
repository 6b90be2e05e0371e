-- What comes behind a look-up, from v to u, where a life that the key's entry names was looked at.
use Rattle.std.proofs.Common.{◌≡◌, ℕ, true, List, refl, sym, subst, inl, inr, ◌⊎◌}
use Rattle.pin_word.specs.PinWord.{state_of}
use Rattle.oak_model.specs.declared.cells.CellCall.{CellCall}
use Rattle.oak_model.specs.declared.replies.Wrote.{Wrote}
use Rattle.oak_model.specs.KeyNumber.{key_number}
use Rattle.oak_model.specs.Limits.{Sizes}
use Rattle.header_core.specs.declared.states.TheConstants.{LIVE}
use Rattle.header_core.specs.Headers.{at_pin}
use Rattle.oak_core.specs.declared.states.PassState.{PassState}
use Rattle.oak_core.specs.CallSteps.{Learns, MetMore, Stands}
use Rattle.oak_core.specs.KeyReads.{home_of}
use Rattle.oak_core.specs.LastReads.{NotPast}
use Rattle.oak_core.specs.LifeKeys.{loaded_in}
use Rattle.oak_core.specs.declared.states.Knowledge.{Knowledge}
use Rattle.oak_core.specs.Memory.{in_headers}
use Rattle.oak_core.proofs.calls.CallSteps.{learns_both, met_both, met_none, stands_learns, stands_none}
use Rattle.value_ops.specs.Pinning.{KnowsLife}
use Rattle.point_ops.specs.FoundWords.{FoundWord}
use Rattle.point_ops.specs.Halting.BusyBy.{dead, locked, rose}
use Rattle.point_ops.specs.Halting.{BusyBy, IsDeadAt, IsLockedOut, SetsValue, WantsLock}
use Rattle.point_ops.specs.Parts.{Answers}
use Rattle.point_ops.specs.Spots.{FoundNamed}
use Rattle.point_ops.proofs.Composed.{word_in}
use Rattle.point_ops.proofs.SpotLaws.{found_risen, header_found}
use Rattle.point_ops.proofs.WritesIn.{answers_in}

-- an answer of the part is one of the call
pub kept_answer : (y : Wrote) (z : Sizes) (call : ℕ) (key : List ℕ) (ask : CellCall) (v u w : PassState) (c2 : ℕ) → c2 ≡ call → Learns call v u → Answers y c2 key ask u w → Answers y call key ask v w
kept_answer y z call key ask v u w c2 e2 a x = answers_in call key v u w w a (stands_none call w) y ask (subst (λ (t : ℕ). Answers y t key ask u w) e2 x)

-- behind a lock that was refused, from u to w, which learned nothing, the life was looked at, from w to x
module _ (call : ℕ) (v u w x : PassState) (c2 : ℕ) (e2 : c2 ≡ call) (c3 : ℕ) (e3 : c3 ≡ call) (a : Learns call v u) (s0 : Stands c2 u w) where
  refused : Stands call u w
  refused = subst (λ (t : ℕ). Stands t u w) e2 s0

  pub dead_learns : Learns c3 w x → Learns call v x
  dead_learns l = learns_both call v u x a (learns_both call u w x (stands_learns call u w refused) (subst (λ (t : ℕ). Learns t w x) e3 l))

pub dead_answer : (y : Wrote) (z : Sizes) (call : ℕ) (key : List ℕ) (ask : CellCall) (v u w x : PassState) (c2 : ℕ) → c2 ≡ call → (c3 : ℕ) → c3 ≡ call → Learns call v u → Stands c2 u w → (h g : ℕ) → KnowsLife h g key u.knowledge → NotPast (key_number key) (home_of h g) u.knowledge → loaded_in call h g u.knowledge.loaded ≡ true
    → (KnowsLife h g key w.knowledge → NotPast (key_number key) (home_of h g) w.knowledge → loaded_in c3 h g w.knowledge.loaded ≡ true → Answers y c3 key ask w x) → Answers y call key ask v x
dead_answer y z call key ask v u w x c2 e2 c3 e3 a s0 h g life last named f = let s = subst (λ (t : ℕ). Stands t u w) e2 s0 in
    answers_in call key v w x x (learns_both call v u w a (stands_learns call u w s)) (stands_none call x) y ask
    (subst (λ (t : ℕ). Answers y t key ask w x) e3 (f (subst (KnowsLife h g key) (sym s.knowledge) life) (subst (NotPast (key_number key) (home_of h g)) (sym s.knowledge) last) (subst (λ (t : ℕ). loaded_in t h g w.knowledge.loaded ≡ true) (sym e3) (subst (λ (q : Knowledge). loaded_in call h g q.loaded ≡ true) (sym s.knowledge) named))))

module _ (z : Sizes) (call : ℕ) (key : List ℕ) (v u w : PassState) (c2 : ℕ) (e2 : c2 ≡ call) (a : Learns call v u) (r i h g : ℕ) (f : FoundNamed z call r i h g key v u) (ask : CellCall) where
  -- the header was found locked or of another generation, or dead
  pub out_or_dead : SetsValue ask → MetMore c2 u w → FoundWord z c2 (in_headers (at_pin h)) (IsLockedOut g) u w ⊎ FoundWord z c2 (in_headers (at_pin h)) (IsDeadAt g) u w → BusyBy z call key ask v w
  out_or_dead sets m (inl x) = locked (header_found z call key v u w c2 e2 a r i h g f IsLockedOut m x)
  out_or_dead sets m (inr x) = dead sets (header_found z call key v u w c2 e2 a r i h g f IsDeadAt m x)

  -- it was found dead, and then locked or of another generation, or live
  pub out_or_rose : WantsLock ask → (x : PassState) (c3 : ℕ) → c3 ≡ call → MetMore c2 u w → MetMore c3 w x → FoundWord z c2 (in_headers (at_pin h)) (IsDeadAt g) u w → FoundWord z c3 (in_headers (at_pin h)) (IsLockedOut g) w x ⊎ FoundWord z c3 (in_headers (at_pin h)) (λ n. state_of n ≡ LIVE) w x → BusyBy z call key ask v x
  out_or_rose wants x c3 e3 m k y (inl n) = locked (header_found z call key v u x call refl a r i h g f IsLockedOut (met_both call u w x (subst (λ (t : ℕ). MetMore t u w) e2 m) (subst (λ (t : ℕ). MetMore t w x) e3 k))
      (word_in call u w x x (subst (λ (t : ℕ). MetMore t u w) e2 m) (met_none call x) z (in_headers (at_pin h)) (IsLockedOut g) (subst (λ (t : ℕ). FoundWord z t (in_headers (at_pin h)) (IsLockedOut g) w x) e3 n)))
  out_or_rose wants x c3 e3 m k y (inr n) = rose wants (found_risen z call key v u w c2 e2 a r i h g f x c3 e3 m k y n)
