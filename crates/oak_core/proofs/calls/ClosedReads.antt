-- At the close: a place that a pass knew is that in the closed history, so a reply that fitted there fits it, and what was read there stands there.
use Rattle.std.proofs.Common.{◌≡◌, ℕ, cond, Bool, true, false, List, [], sym, ap, ◌∙◌, subst}
use Rattle.oak_model.specs.declared.cells.CellCall.{CellCall}
use Rattle.oak_model.specs.declared.cells.CellReply.{CellReply}
use Rattle.oak_model.specs.Fits.{ReplyFits}
use Rattle.oak_model.specs.History.{History, place_of, state_at}
use Rattle.oak_model.specs.Key.{is_key}
use Rattle.oak_model.specs.KeyNumber.{key_number}
use Rattle.oak_model.specs.State.{State}
use Rattle.oak_model.proofs.HistoryLaws.{reply_fits-extends}
use Rattle.oak_core.specs.declared.closing.Closed.{Closed}
use Rattle.oak_core.specs.declared.states.PassState.{PassState}
use Rattle.oak_core.specs.Closing.{closed_history, closed_state}
use Rattle.oak_core.specs.KeyHistories.{writes_of}
use Rattle.oak_core.specs.KnownPlaces.{KnowsPlace, Remembers, ReadAt, PlacesStand}
use Rattle.oak_core.specs.PassState.{Extends, seen_of}
use Rattle.oak_core.proofs.known.KnownReads.{same_state, writes_extend}

-- a key's history is what the last pass has seen of it, and what is no key has none

pub closed_is : (c : Closed) (key : List ℕ) → is_key key ≡ true → closed_history c key ≡ writes_of (seen_of (key_number key) (closed_state c).knowledge)
closed_is c key e = ap (λ (t : Bool). cond t (writes_of (seen_of (key_number key) (closed_state c).knowledge)) []) e

pub closed_none : (c : Closed) (key : List ℕ) → is_key key ≡ false → closed_history c key ≡ []
closed_none c key e = ap (λ (t : Bool). cond t (writes_of (seen_of (key_number key) (closed_state c).knowledge)) []) e

-- a reply that fits what its pass has seen, at the place of its number, fits the closed history at the place of that number there
pub reply_at_close : (c : Closed) → PlacesStand c → (key : List ℕ) → is_key key ≡ true → (w : PassState) → Extends w (closed_state c) → Remembers w.knowledge (closed_state c).knowledge → (caller call : ℕ) (ask : CellCall) (reply : CellReply) (at r : ℕ)
    → KnowsPlace (key_number key) at r w.knowledge → ReplyFits (writes_of (seen_of (key_number key) w.knowledge)) caller call ask reply r → ReplyFits (closed_history c key) caller call ask reply (place_of (closed_history c key) at)
reply_at_close c places key is w e m caller call ask reply at r x f = subst (ReplyFits (closed_history c key) caller call ask reply) (sym (places key at r is (m (key_number key) at r x)))
    (subst (λ (h : History). ReplyFits h caller call ask reply r) (sym (closed_is c key is)) (reply_fits-extends (writes_of (seen_of (key_number key) w.knowledge)) (writes_of (seen_of (key_number key) (closed_state c).knowledge)) caller call ask reply r (writes_extend (seen_of (key_number key) w.knowledge) (seen_of (key_number key) (closed_state c).knowledge) (e (key_number key))) f))

-- so does a read
pub read_at_close : (c : Closed) → PlacesStand c → (key : List ℕ) → is_key key ≡ true → (at : ℕ) (s : State) (v w : PassState) → Extends w (closed_state c) → Remembers w.knowledge (closed_state c).knowledge → (r : ReadAt (key_number key) at s v w)
    → (place_of (closed_history c key) at ≡ r.place) × (state_at (closed_history c key) (place_of (closed_history c key) at) ≡ s)
read_at_close c places key is at s v w e m r = let p = places key at r.place is (m (key_number key) at r.place r.known) in (
  p,
  ap (state_at (closed_history c key)) p ∙ (ap (λ (h : History). state_at h r.place) (closed_is c key is) ∙ (same_state (seen_of (key_number key) w.knowledge) (seen_of (key_number key) (closed_state c).knowledge) r.place (e (key_number key)) r.to ∙ r.state)),
)
