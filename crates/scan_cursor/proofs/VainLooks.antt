-- Looks that are in vain, and why they never are to a pass that is alone.
use Rattle.std.proofs.Common.{◌≡◌, ℕ, zero, suc, List, subst, inl, inr, ⊎_elim, Result, Ok, Err, IfErr, Some}
use Rattle.oak_model.specs.Limits.{Sizes}
use Rattle.chunk_core.specs.Spans.{Span}
use Rattle.oak_core.specs.declared.states.PassState.{PassState}
use Rattle.oak_core.specs.AloneWords.{Runs}
use Rattle.oak_core.specs.PassState.{HoldsNothing}
use Rattle.oak_core.proofs.seats.AloneRuns.{runs_as}
use Rattle.chunk_ops.specs.AskedRanges.{CoversKey, EndsUnder}
use Rattle.chunk_ops.specs.AddsAlone.{Never}
use Rattle.chunk_ops.specs.LoneRooms.{NeverAlone}
use Rattle.oak_core.specs.QuietSteps.{Quiet}
use Rattle.chunk_ops.specs.PinRecords.{UnderPin, WordsStay}
use Rattle.chunk_ops.specs.RoomPins.{FoundMoved, PinsOpen, Unpins}
use Rattle.chunk_ops.proofs.MeetingCalls.{stays_then}
use Rattle.value_ops.specs.declared.pinning.BadPin.TheVariants.{Locked, Other}
use Rattle.value_ops.specs.Pinning.{PinsDud}
use Rattle.point_ops.specs.LoneLives.{RefusesLook}
use Rattle.point_ops.proofs.LoneCalls.{room_found}
use Rattle.point_ops.proofs.LoneLooks.{locked_not, other_not, refused_look}
use Rattle.scan_cursor.specs.Busy.{AreInVain, FindsTaken, LooksInVain}
use Rattle.scan_cursor.specs.Reading.{LooksUp, NamesLife}
use Rattle.scan_cursor.specs.Views.{Later, View, view_of}
use Rattle.scan_cursor.proofs.LoneReads.{read_never}
use Rattle.scan_cursor.proofs.RoomReads.{room_knows, room_later, room_nothing}
use Rattle.scan_cursor.proofs.ReadingViews.{later_both, later_self}

-- each room was moved

pub moved_covering : (z : Sizes) (call : ℕ) (k : List ℕ) (v w : PassState) → HoldsNothing v → FoundMoved z call (CoversKey k) v w → Runs (NeverAlone v) v w → LooksInVain k (view_of z call v) (view_of z call w)
moved_covering z call k v w idle moved never = record { from = view_of z call v; to = view_of z call w; before = later_self (view_of z call v); behind = later_self (view_of z call w); cause = inl moved; alone = room_found v w Never idle never }

pub moved_below : (z : Sizes) (call : ℕ) (k : List ℕ) (v w : PassState) → HoldsNothing v → FoundMoved z call (EndsUnder k) v w → Runs (NeverAlone v) v w → LooksInVain k (view_of z call v) (view_of z call w)
moved_below z call k v w idle moved never = record { from = view_of z call v; to = view_of z call w; before = later_self (view_of z call v); behind = later_self (view_of z call w); cause = inr (inl moved); alone = room_found v w Never idle never }

-- a header that was found locked, or of another generation, was not live at this one
pub taken_look : (z : Sizes) (call h g : ℕ) (v w : PassState) → FindsTaken z call h g v w → Runs (RefusesLook z h g v) v w
taken_look z call h g v w t = ⊎_elim (λ (d : PinsDud z call h g Locked v w). refused_look z call h g v w Locked (locked_not g) d) (λ (d : PinsDud z call h g Other v w). refused_look z call h g v w Other (other_not g) d) t

-- the room was pinned from v to u, the key looked up from u to w, and the room unpinned from w to x; the life that the entry named was found taken from x to y
module _ (z : Sizes) (call r : ℕ) (P : Span → Type 0) (v u w x : PassState) (idle : HoldsNothing v) (p : PinsOpen z call r P v u) (c2 c3 : ℕ) (e2 : c2 ≡ call) (e3 : c3 ≡ call) (under : UnderPin z c2 r u w) (quiet : Quiet u w) (n : Unpins z c3 r w x)
    (key : List ℕ) (h g : ℕ) (l : LooksUp (Some (h, g)) key (view_of z c2 u) (view_of z c2 w)) (c4 : ℕ) (e4 : c4 ≡ call) where
  pub room_vain : NamesLife z r key h g u w → (y : PassState) → FindsTaken z c4 h g x y → LooksInVain key (view_of z call v) (view_of z call y)
  room_vain named y taken = record {
    from = view_of z call x;
    to = view_of z call y;
    before = room_later z call r P v u w x idle p c2 c3 e2 e3 under quiet n;
    behind = later_self (view_of z call y);
    cause = inr (inr (h, g, room_knows z call r P v u w x idle p c2 c3 e2 e3 under quiet n key h g l c4 e4, subst (λ (c : ℕ). FindsTaken z c h g x y) e4 taken));
    alone = read_never z r h g named.0 key v u w x y p.has.inside (room_nothing z call r P v u w x idle p c2 c3 e2 e3 under quiet n) p.still named.1 n.still (taken_look z c4 h g x y taken);
  }

-- whether a room was pinned or none was found

pub covering_vain : {A E : Type 0} (z : Sizes) (call : ℕ) (k : List ℕ) (v w : PassState) → HoldsNothing v → (o : Result A E) → IfErr o (λ _. FoundMoved z call (CoversKey k) v w) → IfErr o (λ _. Runs (NeverAlone v) v w) → IfErr o (λ _. LooksInVain k (view_of z call v) (view_of z call w))
covering_vain z call k v w idle (Ok a) moved never = tt
covering_vain z call k v w idle (Err e) moved never = moved_covering z call k v w idle moved never

pub below_vain : {A E : Type 0} (z : Sizes) (call : ℕ) (k : List ℕ) (v w : PassState) → HoldsNothing v → (o : Result A E) → IfErr o (λ _. FoundMoved z call (EndsUnder k) v w) → IfErr o (λ _. Runs (NeverAlone v) v w) → IfErr o (λ _. LooksInVain k (view_of z call v) (view_of z call w))
below_vain z call k v w idle (Ok a) moved never = tt
below_vain z call k v w idle (Err e) moved never = moved_below z call k v w idle moved never

-- a look behind steps that were not in vain
pub vain_since : (k : List ℕ) (a b d : View) → Later a b → Runs WordsStay a.state b.state → LooksInVain k b d → LooksInVain k a d
vain_since k a b d l s x = record { from = x.from; to = x.to; before = later_both a b x.from l x.before; behind = x.behind; cause = x.cause; alone = stays_then Never a.state b.state d.state s x.alone }

-- in vain the words stay
pub vain_stays : (v w : PassState) → Runs Never v w → Runs WordsStay v w
vain_stays v w a = runs_as Never WordsStay v w (λ x y n. absurd n) a

-- as many looks since an earlier moment
pub in_vain_since : (n lo hi : ℕ) (a b d : View) → Later a b → AreInVain n lo hi b d → AreInVain n lo hi a d
in_vain_since zero lo hi a b d l x = later_both a b d l x
in_vain_since (suc n) lo hi a b d l x = (x.0, in_vain_since n lo hi a b x.0 l x.1, x.2)
