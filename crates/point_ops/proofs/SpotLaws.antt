-- A key was looked up, from v to u, and then worked on, from u to w.
use Rattle.std.proofs.Common.{◌≡◌, ℕ, ◌+◌, List, Option, None, Some, refl, sym, ap, ◌∙◌, subst, inl, inr}
use Rattle.std.specs.Prelude.{IsSome}
use Rattle.pin_word.specs.PinWord.{state_of}
use Rattle.oak_model.specs.declared.cells.CellCall.{CellCall}
use Rattle.oak_model.specs.declared.cells.CellReply.{CellReply}
use Rattle.oak_model.specs.declared.cells.CellReply.TheVariants as replies
use Rattle.oak_model.specs.declared.classes.Class.{Class}
use Rattle.oak_model.specs.declared.replies.Lack.TheVariants.{Block}
use Rattle.oak_model.specs.declared.writes.Kind.{Kind}
use Rattle.oak_model.specs.Cell.{reply_of, kind_of, state_after}
use Rattle.oak_model.specs.KeyNumber.{key_number}
use Rattle.oak_model.specs.Limits.{Sizes}
use Rattle.oak_model.specs.State.{State}
use Rattle.chunk_core.specs.declared.holds.RoomHolds.{RoomHolds}
use Rattle.header_core.specs.declared.states.TheConstants.{LIVE}
use Rattle.header_core.specs.Headers.{at_pin}
use Rattle.oak_core.specs.declared.states.PassState.{PassState}
use Rattle.oak_core.specs.CallSteps.{Learns, MetMore}
use Rattle.oak_core.specs.CallWrites.{Writes}
use Rattle.oak_core.specs.CountReads.{SightedBare}
use Rattle.oak_core.specs.KnownPlaces.{ReadAt}
use Rattle.oak_core.specs.Lack.{TookBut}
use Rattle.oak_core.specs.Memory.{in_headers}
use Rattle.oak_core.specs.QuietSteps.{MetOnly, Quiet}
use Rattle.oak_core.specs.Sights.{SightedSince}
use Rattle.oak_core.proofs.calls.CallSteps.{learns_both, learns_none, met_both, met_none, sights_same, stands_none}
use Rattle.oak_core.proofs.calls.QuietCalls.{only_both, only_none}
use Rattle.chunk_ops.specs.declared.entries.EntryNo.{EntryNo}
use Rattle.chunk_ops.specs.Adds.{LeavesCount}
use Rattle.chunk_ops.specs.PinRecords.{OnlyLearns, OnlyMeets, PinKept, UnderPin}
use Rattle.chunk_ops.proofs.PinsKept.{kept_both}
use Rattle.value_ops.specs.declared.locking.NoLock.{NoLock}
use Rattle.value_ops.specs.declared.locking.NoLock.TheVariants as no_lock
use Rattle.point_ops.specs.Changes.{NoLockBy, OverHalts}
use Rattle.point_ops.specs.FoundWords.{FoundWord}
use Rattle.point_ops.specs.Halting.BusyBy.{locked, dead, pinned, crossed, changed}
use Rattle.point_ops.specs.Halting.{AllTaken, BusyBy, Halts, IsDeadAt, IsLockedOut, IsPinned, KeyHeaderFound, KeyHeaderRose, SetsValue, SpareNow, WantsLock}
use Rattle.point_ops.specs.Inserts.{InsertHalts, SpareFor}
use Rattle.point_ops.specs.Needs.{value_class}
use Rattle.point_ops.specs.Parts.{KeepsHeld, KeepsUnder, ReadSo, WritesAt, WroteSo}
use Rattle.point_ops.specs.Spots.{FoundAway, FoundNamed}
use Rattle.point_ops.specs.declared.halts.Halt.{Halt}
use Rattle.point_ops.specs.declared.halts.Halt.TheVariants.{Busy, Moved, Crowded, NoBlock, NoHeader}
use Rattle.point_ops.proofs.Composed.{bare_in, changed_both, changed_in, crossed_in, crowded_in, free_in, named_in, read_in, set_in, sighted_in, taken_in, word_in}
use Rattle.point_ops.proofs.OwnSteps.{none_but, quiet_but, quiet_leaves}
use Rattle.point_ops.proofs.WritesIn.{writes_behind, written_in}

-- a key that was read absent is so by the call
pub away_reads : (call r : ℕ) (entry : Option EntryNo) (floor : ℕ) (key : List ℕ) (ask : CellCall) (v u : PassState) → Learns call v u → reply_of None ask ≡ replies.Absent → FoundAway call r entry floor key v u → ReadSo call key ask replies.Absent floor v u
away_reads call r entry floor key ask v u l answer f = record { before = None; answer = answer; learns = l; last = f.last }

-- what is held under the pin
pub looked_held : (z : Sizes) (call r : ℕ) (v u w : PassState) → UnderPin z call r v u → KeepsUnder z r u w → KeepsUnder z r v w
looked_held z call r v u w a k = record { blocks = k.blocks ∙ a.blocks; headers = k.headers ∙ a.headers; pin = kept_both z r v.rooms u.rooms w.rooms a.pin k.pin }

pub held_under : (z : Sizes) (call r : ℕ) (v u w : PassState) → UnderPin z call r v u → KeepsHeld u w → KeepsUnder z r v w
held_under z call r v u w a k = record { blocks = k.blocks ∙ a.blocks; headers = k.headers ∙ a.headers; pin = subst (λ (h : RoomHolds). PinKept z r v.rooms h) (sym k.rooms) a.pin }

-- a part that only met more, or only learned, holds what it held
pub met_held : (call : ℕ) (v w : PassState) → OnlyMeets call v w → KeepsHeld v w
met_held call v w o = record { blocks = o.blocks; headers = o.headers; rooms = o.rooms }

pub learned_held : (call : ℕ) (v w : PassState) → OnlyLearns call v w → KeepsHeld v w
learned_held call v w o = record { blocks = o.blocks; headers = o.headers; rooms = o.rooms }

pub held_both : (u v w : PassState) → KeepsHeld u v → KeepsHeld v w → KeepsHeld u w
held_both u v w a b = record { blocks = b.blocks ∙ a.blocks; headers = b.headers ∙ a.headers; rooms = b.rooms ∙ a.rooms }

module _ (z : Sizes) (call : ℕ) (key : List ℕ) (v u w : PassState) (c2 : ℕ) (e2 : c2 ≡ call) (a : Learns call v u) where
  pub looked_learns : Learns c2 u w → Learns call v w
  looked_learns l = learns_both call v u w a (subst (λ (t : ℕ). Learns t u w) e2 l)

  -- ---- the key was absent, and a value was inserted, or was not

  module _ (r : ℕ) (entry : Option EntryNo) (floor : ℕ) (f : FoundAway call r entry floor key v u) (value : List ℕ) (ask : CellCall) (leaves : state_after None ask ≡ Some value) where
    pub inserted : (kind : Kind) (reply : CellReply) (at : ℕ) → kind_of ask ≡ Some kind → reply_of None ask ≡ reply → at ≡ floor + 1 → Writes c2 key kind None (Some value) at u w → WroteSo call key ask reply at v w
    inserted kind reply at kind_is answer next x0 = let x = subst (λ (t : ℕ). Writes t key kind None (Some value) at u w) e2 x0 in record {
      kind = kind;
      before = None;
      after = Some value;
      kind_is = kind_is;
      answer = answer;
      leaves = leaves;
      wrote = record {
        found_at = floor;
        next = next;
        sighted = sighted_in call v v u w (sights_same call v v refl) x.sights (key_number key) floor f.last.sighted;
        writes = writes_behind call key kind None (Some value) at v u w a x;
      };
    }

    module _ (sets : SetsValue ask) (looked : Quiet v u) (l0 : Learns c2 u w) where
      b : Learns call u w
      b = subst (λ (t : ℕ). Learns t u w) e2 l0

      inserts : IsSome (state_after None ask)
      inserts = subst IsSome (sym leaves) refl

      absent : ReadAt (key_number key) floor None v w
      absent = read_in z call key v v u w (learns_none call v) b floor None f.last.read

      found : SightedSince (key_number key) floor v.findings w.findings
      found = sighted_in call v v u w (sights_same call v v refl) b.sights (key_number key) floor f.last.sighted

      bare : entry ≡ None → SightedBare call (key_number key) floor v w
      bare e = bare_in call v v u w (sights_same call v v refl) b.sights (key_number key) floor (f.bare e)

      spares : (c : Class) (spare : Option ℕ) → SpareFor spare c key value entry → SpareNow spare c call key ask v w
      spares c None k = tt
      spares c (Some b) k = (ap value_class leaves ∙ k.0, k.1, (floor, bare k.2))

      took : (c : Class) (spare : Option ℕ) → MetOnly (TookBut (Block c) spare) u w → MetOnly (TookBut (Block c) spare) v w
      took c spare o = only_both (TookBut (Block c) spare) v u w (quiet_but v u c spare looked) o

      by : (why : Halt) → InsertHalts why z call key value entry floor u w → Halts why z call key ask v w
      by Busy (inl x) = crossed sets (crossed_in call v u w w a.met (met_none call w) z key x)
      by Busy (inr x) = changed sets record { r = x.0; i = x.1; floor = floor; found = set_in call v u w w a.met (met_none call w) z x.0 x.1 floor key x.2; sighted = found; read = absent }
      by Moved x = absurd x
      by Crowded x = (crowded_in z call key v u w w a (learns_none call w) (λ i. quiet_leaves z i v u looked) (λ i. only_none (LeavesCount z i) w w refl) x.1, record { at = floor; before = None; read = absent; sighted = found; needs = (refl, inserts, bare x.0) })
      by (NoBlock c) (s, x, k, inl y, o) = (s, taken_in call v u w w a.met (met_none call w) z c s x, record { at = floor; before = None; read = absent; sighted = found; needs = inl (ap value_class leaves ∙ y, λ n. absurd cc) }, spares c s k, took c s o)
      by (NoBlock c) (s, x, k, inr y, o) = (s, taken_in call v u w w a.met (met_none call w) z c s x, record { at = floor; before = None; read = absent; sighted = found; needs = inr (y.0, refl, inserts, bare y.1) }, spares c s k, took c s o)
      by NoHeader x = (free_in call v u w w a.met (met_none call w) z x, record { at = floor; before = None; read = absent; sighted = found; needs = (refl, inserts) })

      pub uninserted : (why : Halt) → InsertHalts why z c2 key value entry floor u w → Halts why z call key ask v w
      uninserted why x = by why (subst (λ (t : ℕ). InsertHalts why z t key value entry floor u w) e2 x)

  -- ---- the key's entry named a life

  module _ (r i h g : ℕ) (f : FoundNamed z call r i h g key v u) where
    pub header_found : (P : ℕ → ℕ → Type 0) → MetMore c2 u w → FoundWord z c2 (in_headers (at_pin h)) (P g) u w → KeyHeaderFound z call key P v w
    header_found P m x = record {
      r = r;
      i = i;
      h = h;
      g = g;
      named = named_in call v v u w (met_none call v) (subst (λ (t : ℕ). MetMore t u w) e2 m) z r i key h g f.named;
      found = word_in call v u w w a.met (met_none call w) z (in_headers (at_pin h)) (P g) (subst (λ (t : ℕ). FoundWord z t (in_headers (at_pin h)) (P g) u w) e2 x);
    }

    -- a present value was changed
    pub rewrote : (kind : Kind) (ask : CellCall) (reply : CellReply) (at : ℕ) (b : List ℕ) (after : State) → kind_of ask ≡ Some kind → reply_of (Some b) ask ≡ reply → state_after (Some b) ask ≡ after → WritesAt c2 key kind (Some b) after at u w → WroteSo call key ask reply at v w
    rewrote kind ask reply at b after kind_is answer leaves x = record {
      kind = kind;
      before = Some b;
      after = after;
      kind_is = kind_is;
      answer = answer;
      leaves = leaves;
      wrote = written_in call key v u w w a (stands_none call w) kind (Some b) after at (subst (λ (t : ℕ). WritesAt t key kind (Some b) after at u w) e2 x);
    }

    -- or its header was not locked
    pub unlocked_busy : (ask : CellCall) → WantsLock ask → MetMore c2 u w → NoLockBy no_lock.Busy z c2 h g u w → BusyBy z call key ask v w
    unlocked_busy ask wants m (inl x) = locked (header_found IsLockedOut m x)
    unlocked_busy ask wants m (inr x) = pinned wants (header_found IsPinned m x)

    -- nor where a dead one is a cause
    pub unlocked : (ask : CellCall) → WantsLock ask → SetsValue ask → MetMore c2 u w → (why : NoLock) → NoLockBy why z c2 h g u w → BusyBy z call key ask v w
    unlocked ask wants sets m no_lock.Busy x = unlocked_busy ask wants m x
    unlocked ask wants sets m no_lock.Dead x = dead sets (header_found IsDeadAt m x)

    -- or another was not put in its place
    pub unput : (value : List ℕ) (ask : CellCall) → WantsLock ask → SetsValue ask → ((s : State) → state_after s ask ≡ Some value) → Quiet v u → Learns c2 u w → (why : Halt) → OverHalts why z c2 h g value u w → Halts why z call key ask v w
    unput value ask wants sets leaves looked l Busy (inl x) = unlocked_busy ask wants l.met x
    unput value ask wants sets leaves looked l Busy (inr x) = dead sets (header_found IsDeadAt l.met x)
    unput value ask wants sets leaves looked l Moved x = absurd x
    unput value ask wants sets leaves looked l Crowded x = absurd x
    unput value ask wants sets leaves looked l (NoBlock c) x = let y = x.2 key f.life in (
      None,
      taken_in call v u w w a.met (met_none call w) z c None (subst (λ (t : ℕ). AllTaken z t c None u w) e2 x.0),
      record {
        at = y.at;
        before = Some y.bytes;
        read = read_in z call key v u w w a (learns_none call w) y.at (Some y.bytes) y.read;
        sighted = sighted_in call v u w w a.sights (sights_same call w w refl) (key_number key) y.at y.sighted;
        needs = inl (ap value_class (leaves (Some y.bytes)) ∙ x.1, y.other);
      },
      tt,
      only_both (TookBut (Block c) None) v u w (quiet_but v u c None looked) (none_but u w c None x.3),
    )
    unput value ask wants sets leaves looked l NoHeader x = absurd x

    -- the header was found dead, and later live
    pub found_risen : (x : PassState) (c3 : ℕ) → c3 ≡ call → MetMore c2 u w → MetMore c3 w x → FoundWord z c2 (in_headers (at_pin h)) (IsDeadAt g) u w → FoundWord z c3 (in_headers (at_pin h)) (λ n. state_of n ≡ LIVE) w x → KeyHeaderRose z call key v x
    found_risen x c3 e3 m0 k0 y0 n0 = let m = subst (λ (t : ℕ). MetMore t u w) e2 m0 in let k = subst (λ (t : ℕ). MetMore t w x) e3 k0 in record {
      r = r;
      i = i;
      h = h;
      g = g;
      named = named_in call v v u x (met_none call v) (met_both call u w x m k) z r i key h g f.named;
      found = changed_in call v u x x a.met (met_none call x) z (in_headers (at_pin h)) (IsDeadAt g) (λ n. state_of n ≡ LIVE)
          (changed_both z call (in_headers (at_pin h)) (IsDeadAt g) (λ n. state_of n ≡ LIVE) u w x (subst (λ (t : ℕ). FoundWord z t (in_headers (at_pin h)) (IsDeadAt g) u w) e2 y0) (subst (λ (t : ℕ). FoundWord z t (in_headers (at_pin h)) (λ n. state_of n ≡ LIVE) w x) e3 n0));
    }
