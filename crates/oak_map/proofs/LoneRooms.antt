-- A call that puts changes rooms only behind a first try that was refused, where its pass is alone.
use Rattle.std.proofs.Common.{◌≡◌, ℕ, Bool, true, false, List, Option, Some, None, inl, inr, sym, refl, subst, Ok}
use Rattle.oak_model.specs.declared.cells.CellCall.{CellCall}
use Rattle.oak_model.specs.declared.classes.Class.{Class}
use Rattle.oak_model.specs.declared.replies.Lack.{Lack}
use Rattle.oak_model.specs.declared.replies.Lack.TheVariants.{Block, Header, Room}
use Rattle.oak_model.specs.declared.replies.Wrote.{Wrote}
use Rattle.oak_model.specs.Cell.{state_after}
use Rattle.oak_model.specs.Key.{is_key}
use Rattle.oak_model.specs.KeyNumber.{key_number}
use Rattle.oak_model.specs.Limits.{Sizes}
use Rattle.oak_model.specs.State.{State}
use Rattle.oak_core.specs.declared.states.PassState.{PassState}
use Rattle.oak_core.specs.AloneWords.{LeavesWords, Runs, RunsTo}
use Rattle.oak_core.specs.PassState.{IsAlone}
use Rattle.oak_core.proofs.seats.AloneRuns.{Then, runs_as, runs_none, runs_then}
use Rattle.lone_counts.specs.Maps.{last_states}
use Rattle.point_ops.specs.declared.halts.Halt.{Halt}
use Rattle.point_ops.specs.declared.halts.Halt.TheVariants.{Busy, Moved, Crowded, NoBlock, NoHeader}
use Rattle.point_ops.specs.Halting.{Halts}
use Rattle.point_ops.specs.LoneInserts.{SpareOnly}
use Rattle.point_ops.specs.LonePuts.{KeepsRooms, LoneHalts, PutsIn}
use Rattle.point_ops.specs.LoneReplies.{SameAlone}
use Rattle.point_ops.specs.Needs.{Needs, NeedsNow}
use Rattle.point_ops.specs.Parts.{WroteFits}
use Rattle.oak_map.specs.LonePuts.{FirstRefused, RoomsAlone}
use Rattle.oak_map.specs.LoneRetrying.{FirstTry, WasRefused}
use Rattle.oak_map.specs.MakingRoom.{IsRefused, MakesWay}
use Rattle.oak_map.proofs.LoneFull.{noted_words}
use Rattle.oak_map.proofs.LoneStates.{needs_last}
use Rattle.oak_map.proofs.ReplyWords.{some_reply}
use Rattle.oak_map.proofs.WordsThrough.{halts_somewhere, runs_through, still_to}

-- ---- the first try

-- in the same words nothing changed
spare_none : (z : Sizes) (b : List ℕ) → SpareOnly z b b
spare_none z b = record { size = refl; same = λ p. inr refl }

-- so what a refused try lacked stands in the words before it

block_there : (z : Sizes) (key value b c : List ℕ) (k : Class) → LoneHalts (NoBlock k) z key value b c → LoneHalts (NoBlock k) z key value b b
block_there z key value b c k h = (h.0, h.1, (spare_none z b, h.2.1))

header_there : (z : Sizes) (key value b c : List ℕ) → LoneHalts NoHeader z key value b c → LoneHalts NoHeader z key value b b
header_there z key value b c h = (h.0, h.1, (spare_none z b, h.2.1, h.2.2))

pub room_there : (z : Sizes) (key value b c : List ℕ) → LoneHalts Crowded z key value b c → LoneHalts Crowded z key value b b
room_there z key value b c h = (h.0, h.1, (spare_none z b, h.2.1))

-- what is needed of a key without an entry
needs_any : (lack : Lack) (key : List ℕ) (s t : State) (B : Type 0) → Needs lack key s t B → Needs lack key s t (Unit {0})
needs_any (Block c) key s t B (inl n) = inl n
needs_any (Block c) key s t B (inr n) = inr (n.0, n.1, n.2, tt)
needs_any Header key s t B n = n
needs_any Room key s t B n = (n.0, n.1, tt)

-- the call's first try, from u to w, was refused
module _ (z : Sizes) (call : ℕ) (key value : List ℕ) (ask : CellCall) (u w : PassState) (is : is_key key ≡ true) (makes : state_after None ask ≡ Some value) (alone : IsAlone u) (same : SameAlone z u w) where
  needs_first : (lack : Lack) → NeedsNow call key ask lack u w → Needs lack key (last_states u key) (state_after (last_states u key) ask) (Unit {0})
  needs_first lack n = subst (λ (s : State). Needs lack key s (state_after s ask) (Unit {0})) (sym (needs_last call key ask lack u u w is ((same alone).same (key_number key)) (same alone).same n))
      (needs_any lack key n.before (state_after n.before ask) _ n.needs)

  first_refused : (halt : Halt) → Halts halt z call key ask u w → (b c : List ℕ) → LoneHalts halt z key value b c → FirstRefused z key ask (last_states u key) b
  first_refused Busy f b c h = absurd h.2
  first_refused Moved f b c h = absurd h.2
  first_refused Crowded f b c h = record { value = value; puts = makes; lack = Room; refused = room_there z key value b c h; needs = needs_first Room f.1 }
  first_refused (NoBlock k) f b c h = record { value = value; puts = makes; lack = Block k; refused = block_there z key value b c k h; needs = needs_first (Block k) f.2 }
  first_refused NoHeader f b c h = record { value = value; puts = makes; lack = Header; refused = header_there z key value b c h; needs = needs_first Header f.1 }

-- ---- making way

-- it leaves words
abbrev pub SomeWords : List ℕ → List ℕ → Type 0
SomeWords a b = Unit {0}

abbrev as_some : (P : List ℕ → List ℕ → Type 0) (c : List ℕ) (x : PassState) → RunsTo P c x → RunsTo SomeWords c x
as_some P c x r = record { after = r.after; leaves = r.leaves; does = tt }

pub refused_leaves : (z : Sizes) (call : ℕ) (settled then : Bool) (lack : Lack) (o : Option Lack) (c : List ℕ) (w x : PassState) → IsRefused z call settled then lack o w x → LeavesWords c w → RunsTo SomeWords c x
refused_leaves z call true then lack o c w x r l = as_some _ c x (noted_words z call lack w x (r.full refl).1 c l)
refused_leaves z call false then lack o c w x r l = as_some _ c x ((r.again refl).2.alone.goes c l)

way_leaves : (halt : Halt) (z : Sizes) (call : ℕ) (key value : List ℕ) (settled then : Bool) (o : Option Lack) (b c : List ℕ) (w x : PassState) → LoneHalts halt z key value b c → MakesWay halt z call key settled then o w x → LeavesWords c w → RunsTo SomeWords c x
way_leaves Busy z call key value settled then o b c w x h m l = absurd h.2
way_leaves Moved z call key value settled then o b c w x h m l = absurd h.2
way_leaves (NoBlock k) z call key value settled then o b c w x h m l = refused_leaves z call settled then (Block k) o c w x m l
way_leaves NoHeader z call key value settled then o b c w x h m l = refused_leaves z call settled then Header o c w x m l
way_leaves Crowded z call key value settled then o b c w x h (inl (again, inl g)) l = as_some _ c x (g.1.alone.goes c l)
way_leaves Crowded z call key value settled then o b c w x h (inl (again, inr (inl s))) l = as_some _ c x (s.compacts.alone.goes c l)
way_leaves Crowded z call key value settled then o b c w x h (inl (again, inr (inr (room, t, s, only)))) l = as_some _ c x (still_to _ c t x (s.alone.goes c l) only.still)
way_leaves Crowded z call key value settled then o b c w x h (inr (t, f, r)) l = let d = f.compacts.alone.goes c l in let e = refused_leaves z call settled then Room o d.after t x r d.leaves in record { after = e.after; leaves = e.leaves; does = tt }

-- ---- a call that puts

-- The call began at u, and its last try, from v to w, was refused. It made way until x, in a call of that number.
module _ (z : Sizes) (call : ℕ) (key value : List ℕ) (ask : CellCall) (halt : Halt) (settled : Bool) (u v w : PassState) (is : is_key key ≡ true) (makes : state_after None ask ≡ Some value) (alone : IsAlone u) where
  first_goes : SameAlone z u w → Halts halt z call key ask u w → Runs (LoneHalts halt z key value) u w → (now : ℕ) (then : Bool) (o : Option Lack) (x : PassState) → MakesWay halt z now key settled then o w x → Runs (WasRefused z key ask u) u x
  first_goes same halted halts now then o x way = runs_through (λ a b. b ≡ a) (LoneHalts halt z key value) (WasRefused z key ask u) u u w x (halts_somewhere halt z key value)
      (λ a b c l p q. let t = way_leaves halt z now key value settled then o b c w x q way l in record {
        after = t.after;
        leaves = t.leaves;
        does = subst (λ (ws : List ℕ). FirstRefused z key ask (last_states u key) ws) p (first_refused z call key value ask u w is makes alone same halt halted b c q);
      })
      (runs_none (λ a b. b ≡ a) u (λ a. refl)) halts

  pub refused_rooms : FirstTry z key ask u v → SameAlone z v w → Halts halt z call key ask v w → Runs (LoneHalts halt z key value) v w → (now : ℕ) (then : Bool) (o : Option Lack) (x : PassState) → MakesWay halt z now key settled then o w x → Runs (WasRefused z key ask u) u x
  refused_rooms (inl e) same halted halts now then o x way = subst (λ (s : PassState). SameAlone z s w → Halts halt z call key ask s w → Runs (LoneHalts halt z key value) s w → Runs (WasRefused z key ask u) u x) (sym e)
      (λ s h r. first_goes s h r now then o x way) same halted halts
  refused_rooms (inr f) same halted halts now then o x way = runs_through (WasRefused z key ask u) (LoneHalts halt z key value) (WasRefused z key ask u) u v w x (halts_somewhere halt z key value)
      (λ a b c l p q. let t = way_leaves halt z now key value settled then o b c w x q way l in record { after = t.after; leaves = t.leaves; does = p })
      f halts

-- where it gives up
pub refused_alone : (z : Sizes) (key : List ℕ) (ask : CellCall) (u x : PassState) → Runs (WasRefused z key ask u) u x → Runs (RoomsAlone z key ask u x) u x
refused_alone z key ask u x r = runs_as (WasRefused z key ask u) (RoomsAlone z key ask u x) u x (λ a b f. inr f) r

-- where its last try, from v to w, had a reply
pub replied_rooms : (z : Sizes) (call : ℕ) (key value : List ℕ) (ask : CellCall) (u v w : PassState) (y : Wrote) → FirstTry z key ask u v → WroteFits y call key ask v w → Runs (PutsIn (Ok y) z key value) v w → Runs (RoomsAlone z key ask u w) u w
replied_rooms z call key value ask u v w y (inl e) fits done = subst (λ (s : PassState). WroteFits y call key ask s w → Runs (KeepsRooms z) s w → Runs (RoomsAlone z key ask u w) u w) (sym e)
    (λ f d. runs_as (KeepsRooms z) (RoomsAlone z key ask u w) u w (λ a b k. inl (k, (some_reply y call key ask u w f).1.1.holds.swept)) d) fits done
replied_rooms z call key value ask u v w y (inr r) fits done = runs_as (Then (WasRefused z key ask u) (KeepsRooms z)) (RoomsAlone z key ask u w) u w (λ a c t. inr t.1) (runs_then (WasRefused z key ask u) (KeepsRooms z) u v w r done)
