-- A call that puts goes on after a refused try, where its pass is alone.
use Rattle.std.proofs.Common.{◌≡◌, ℕ, ◌≤◌, Bool, true, false, List, Option, Some, None, inl, inr, sym, refl, ◌∙◌, subst}
use Rattle.oak_model.specs.declared.cells.CellCall.{CellCall}
use Rattle.oak_model.specs.declared.replies.Lack.{Lack}
use Rattle.oak_model.specs.declared.replies.Lack.TheVariants.{Block, Header, Room}
use Rattle.oak_model.specs.declared.replies.Pair.{Pair}
use Rattle.oak_model.specs.Cell.{state_after}
use Rattle.oak_model.specs.KeyNumber.{key_number}
use Rattle.oak_model.specs.Limits.{Sizes}
use Rattle.chunk_core.specs.declared.holds.RoomCopy.{RoomCopy}
use Rattle.chunk_core.specs.LinkedEntries.{entries_in}
use Rattle.chunk_core.specs.Spans.{within}
use Rattle.oak_core.specs.declared.states.PassState.{PassState}
use Rattle.oak_core.specs.AloneWords.{LeavesWords, RunsTo}
use Rattle.oak_core.specs.PassState.{IsAlone}
use Rattle.lone_counts.specs.Lacks.{new_lack}
use Rattle.lone_counts.specs.LoneTable.{retired_in}
use Rattle.lone_counts.specs.Maps.{IsMapOf, last_states}
use Rattle.chunk_ops.specs.PinRecords.{OnlyMeets}
use Rattle.point_ops.specs.declared.halts.Halt.{Halt}
use Rattle.point_ops.specs.declared.halts.Halt.TheVariants.{Busy, Moved, Crowded, NoBlock, NoHeader}
use Rattle.point_ops.specs.LoneInserts.{SpareOnly}
use Rattle.point_ops.specs.LonePuts.{LoneHalts}
use Rattle.rebalance.specs.Calls.{FindsNoRoom, Halves, Loosens, Settles}
use Rattle.rebalance.specs.Copies.{copy_span}
use Rattle.rebalance.specs.LoneCalls.{SettlesWords}
use Rattle.oak_map.specs.LoneRetrying.{Retries, StaysSettled}
use Rattle.oak_map.specs.MakingRoom.{IsRefused, MakesWay}
use Rattle.oak_map.proofs.SettledSplits.{FullRoom, halved_linked, halved_valued, half_left, never_fewer}
use Rattle.oak_map.proofs.SettledStays.{RoomsStay, carried, opens_still, retired_same, settled_still, spare_stays}
use Rattle.oak_map.proofs.WordsThrough.{still_to}

-- ---- the words behind the try

-- it changed words alone that nobody has
halts_spare : (halt : Halt) (z : Sizes) (key value b c : List ℕ) → LoneHalts halt z key value b c → SpareOnly z b c
halts_spare Busy z key value b c h = absurd h.2
halts_spare Moved z key value b c h = absurd h.2
halts_spare Crowded z key value b c h = h.2.0
halts_spare (NoBlock k) z key value b c h = h.2.0
halts_spare NoHeader z key value b c h = h.2.0

pub halts_stay : (halt : Halt) (z : Sizes) (key value b c : List ℕ) → LoneHalts halt z key value b c → RoomsStay z b c
halts_stay halt z key value b c h = spare_stays z b c (halts_spare halt z key value b c h)

-- so the call goes on as before it
pub retries_still : (z : Sizes) (key : List ℕ) (ask : CellCall) (settled : Bool) (u : PassState) (a b c : List ℕ) → RoomsStay z b c → Retries z key ask settled u a b → Retries z key ask settled u a c
retries_still z key ask settled u a b c s r = record { retired = s.retired ∙ r.retired; settled_stays = λ e. settled_still z b c s key ask u (r.settled_stays e) }

-- the room of the key is full, where it is crowded
pub crowded_room : (z : Sizes) (key value b c : List ℕ) → LoneHalts Crowded z key value b c → FullRoom z key c
crowded_room z key value b c h = let s = halts_stay Crowded z key value b c h in let l = h.2.1 in record {
  room = h.0;
  is_open = opens_still z b c s h.0 (record { inside = h.1.0; state = h.1.1 });
  covers = carried z b c s (λ (w : RoomCopy). within (copy_span w) (key_number key) ≡ 1) h.0 l.covers;
  full = carried z b c s (λ (w : RoomCopy). entries_in w.count ≡ z.entries) h.0 l.full;
}

-- ---- it goes on

-- the key is absent, and the map lacks nothing for it
pub record NothingLacks (z : Sizes) (key value : List ℕ) (u : PassState) (words : List ℕ) : Type 0 where
  pub absent : last_states u key ≡ None
  pub lacks : (m : List Pair) → IsMapOf (last_states u) m → new_lack z m (retired_in z words) key value ≡ None

-- where it is noted it does not go on
pub not_noted : {A : Type 0} (lack : Lack) (o : Option Lack) → o ≡ None → o ≡ Some lack → A
not_noted lack o e f = let g : Some lack ≡ None = sym f ∙ e in absurd cc

pub settles_then : (z : Sizes) (call : ℕ) (settled then : Bool) (lack : Lack) (o : Option Lack) (v w : PassState) → IsRefused z call settled then lack o v w → o ≡ None → Settles z call v w
settles_then z call true then lack o v w r e = not_noted lack o e (r.full refl).0
settles_then z call false then lack o v w r e = (r.again refl).2

-- the call began at u, and its last try, from v to w, was refused, and it made way until x
module _ (z : Sizes) (call : ℕ) (key value : List ℕ) (ask : CellCall) (settled then : Bool) (result : Option Lack) (u v w x : PassState) (makes : state_after None ask ≡ Some value) (some : IsAlone u → 2 ≤ z.entries) where
  -- it settled
  settled_words : (a c d : List ℕ) → retired_in z c ≡ retired_in z a → SettlesWords z c d → Retries z key ask then u a d
  settled_words a c d e s = record {
    retired = retired_same z c d s.headers ∙ e;
    settled_stays = λ _. record { divides = s.settled.divides; valued = s.settled.valued; linked = s.settled.linked; rooms = inl s.settled.many };
  }

  settles_on : (a c : List ℕ) (t : PassState) → LeavesWords c t → retired_in z c ≡ retired_in z a → Settles z call t x → RunsTo (λ _ d. Retries z key ask then u a d) c x
  settles_on a c t l e s = let r = s.alone.goes c l in record { after = r.after; leaves = r.leaves; does = settled_words a c r.after e r.does }

  module _ (a b c : List ℕ) (l : LeavesWords c w) (p : Retries z key ask settled u a b) where
    abbrev Goes : Type 0
    Goes = RunsTo (λ _ d. Retries z key ask then u a d) c x

    -- it compacted the chunk
    loosened_on : LoneHalts Crowded z key value b c → then ≡ settled → Loosens z call key w x → Goes
    loosened_on q same s = let h = s.compacts in let r = h.alone.goes c l in let i = halts_stay Crowded z key value b c q in let n = retries_still z key ask settled u a b c i p in record {
      after = r.after;
      leaves = r.leaves;
      does = record {
        retired = retired_same z c r.after r.does.does.leaves.headers ∙ n.retired;
        settled_stays = λ e. absurd (never_fewer z key ask u c (n.settled_stays (sym same ∙ e)) (crowded_room z key value b c q) h.room h.held r.does.does.is_open r.does.does.was h.rewrites.inside s.fewer);
      };
    }

    -- it opened the chunk as two, and only met more behind that
    halved_on : (IsAlone u → StaysSettled z key ask u c → NothingLacks z key value u c) → LoneHalts Crowded z key value b c → then ≡ settled → (upper : ℕ) (t : PassState) → Halves z call key upper w t → OnlyMeets call t x → Goes
    halved_on lacks q same upper t h o = let r = h.alone.goes c l in let i = halts_stay Crowded z key value b c q in let n = retries_still z key ask settled u a b c i p in let e = retired_same z c r.after r.does.does.leaves.headers in still_to (λ _ d. Retries z key ask then u a d) c t x (record {
      after = r.after;
      leaves = r.leaves;
      does = record {
        retired = e ∙ n.retired;
        settled_stays = λ is. let s = n.settled_stays (sym same ∙ is) in let there = r.does.divides.covered (key_number key) in record {
          divides = r.does.divides;
          valued = halved_valued z call key upper w t h c r.after r.does s.valued;
          linked = halved_linked z call key upper w t h c r.after r.does s.linked;
          rooms = inr (λ alone. let f = lacks alone s in record {
            absent = f.absent;
            value = value;
            makes = makes;
            lacks = λ m is. subst (λ (k : ℕ). new_lack z m k key value ≡ None) (sym e) (f.lacks m is);
            room = there.0;
            is_open = there.1;
            covers = there.2;
            left = half_left z call key upper w t h c r.after r.does (some alone) there.0 there.1 there.2;
          });
        };
      };
    }) o.still

    -- it found no room, and settled
    roomless_on : LoneHalts Crowded z key value b c → result ≡ None → (t : PassState) → FindsNoRoom z call key w t → IsRefused z call settled then Room result t x → Goes
    roomless_on q none t f g = let h = f.compacts in let r = h.alone.goes c l in let i = halts_stay Crowded z key value b c q in
        let s = settles_on a r.after t r.leaves (retired_same z c r.after r.does.does.leaves.headers ∙ (i.retired ∙ p.retired)) (settles_then z call settled then Room result t x g none) in record { after = s.after; leaves = s.leaves; does = s.does }

    pub ways_on : (halt : Halt) → (halt ≡ Crowded → IsAlone u → LoneHalts Crowded z key value b c → StaysSettled z key ask u c → NothingLacks z key value u c) → result ≡ None → MakesWay halt z call key settled then result w x → LoneHalts halt z key value b c → Goes
    ways_on Busy lacks none m q = absurd q.2
    ways_on Moved lacks none m q = absurd q.2
    ways_on (NoBlock k) lacks none m q = settles_on a c w l ((halts_stay (NoBlock k) z key value b c q).retired ∙ p.retired) (settles_then z call settled then (Block k) result w x m none)
    ways_on NoHeader lacks none m q = settles_on a c w l ((halts_stay NoHeader z key value b c q).retired ∙ p.retired) (settles_then z call settled then Header result w x m none)
    ways_on Crowded lacks none (inl (again, inl g)) q = absurd (g.1.alone.goes c l).does
    ways_on Crowded lacks none (inl (again, inr (inl s))) q = loosened_on q again.same s
    ways_on Crowded lacks none (inl (again, inr (inr (room, t, h, o)))) q = halved_on (λ alone s. lacks refl alone q s) q again.same room t h o
    ways_on Crowded lacks none (inr (t, f, r)) q = roomless_on q none t f r
