-- To a pass that is alone a link stays as the pass loaded it, until the pass itself changes it.
use Rattle.std.specs.Prelude.{◌≡◌, ◌≢◌, ℕ, List, [], ◌∷◌, Option, Some, None, refl}
use Rattle.std.proofs.Common.{get_or, sym, ap, ◌∙◌, subst, get_or-set_other}
use Rattle.oak_model.specs.Counts.{Each}
use Rattle.oak_model.specs.Limits.{Sizes}
use Rattle.chunk_core.specs.LinkWords.{link_spot}
use Rattle.chunk_core.specs.RoomStep.{claim_entry, link_entry, of_key, of_next, of_value, own_entry}
use Rattle.chunk_core.specs.Rooms.{RoomSpot, IsInRooms, at_count, at_key, at_next, at_value}
use Rattle.link_search.specs.Met.{Met, met_count, met_link, met_key, tried_count, tried_link, stored_value, stored_link, stored_key, gave_up, LeavesLink}
use Rattle.oak_core.specs.declared.states.PassState.{PassState}
use Rattle.oak_core.specs.AloneWords.{LeavesWords}
use Rattle.oak_core.specs.Memory.{Spot, in_rooms, index}
use Rattle.oak_core.specs.Passes.{state, key as sizes, call_of}
use Rattle.oak_core.specs.Step.{Step, load, on_rooms, spot, Told}
use Rattle.oak_core.proofs.memory.Words.{index_apart}
use Rattle.oak_core.proofs.seats.AloneRuns.{Keeps, step_runs}
use Rattle.chunk_ops.specs.declared.pinned_table.PinnedTable.{PinnedTable}
use Rattle.chunk_ops.specs.LinkedTable.{DoesEach, DoesMet, IsLone, MeetsInTable}
use Rattle.chunk_ops.specs.TableLaws.{IsLonePass, does_since, found_again, load_leaves, load_stays, loads_stay}

-- the pass was alone at its last step, which left the number at that word
record LeavesAt (place n : ℕ) (v : PassState) : Type 0 where
  words : List ℕ
  leaves : LeavesWords words v
  number : get_or words place 0 ≡ n

-- a step at another word leaves it so
step_leaves : (z : Sizes) (call : ℕ) (x : Step) (v : PassState) (n : ℕ) (w : PassState) → Keeps x → Told z call x v n w → (place old : ℕ) → place ≢ index z (spot x) → LeavesAt place old v → LeavesAt place old w
step_leaves z call x v n w k t place old ne l = let d = (step_runs z call x v n w k t).goes l.words l.leaves in
    record { words = d.after; leaves = d.leaves; number = ap (λ (ws : List ℕ). get_or ws place 0) d.does.1 ∙ (get_or-set_other l.words (index z (spot x)) place _ 0 ne ∙ l.number) }

-- ---- words that are no link of the room, or another one

in_one : (p q : RoomSpot) → in_rooms p ≡ in_rooms q → p ≡ q
in_one p q e = cc

pub count_apart : (r : ℕ) (from : Option ℕ) → link_spot r from ≡ at_count r → ⊥
count_apart r None e = cc
count_apart r (Some q) e = cc

pub value_apart : (r i : ℕ) (from : Option ℕ) → link_spot r from ≡ at_value r i → ⊥
value_apart r i None e = cc
value_apart r i (Some q) e = cc

pub key_apart : (r i : ℕ) (from : Option ℕ) → link_spot r from ≡ at_key r i → ⊥
key_apart r i None e = cc
key_apart r i (Some q) e = cc

pub next_same : (r i : ℕ) (from : Option ℕ) → link_spot r from ≡ at_next r i → from ≡ Some i
next_same r i None e = absurd cc
next_same r i (Some q) e = let f : q ≡ i = cc in ap (λ (j : ℕ). Some j) f

pub link_same : (r : ℕ) (from to : Option ℕ) → link_spot r from ≡ link_spot r to → to ≡ from
link_same r None None e = refl
link_same r None (Some q) e = absurd cc
link_same r (Some i) None e = absurd cc
link_same r (Some i) (Some q) e = let f : q ≡ i = cc in ap (λ (j : ℕ). Some j) f

-- another word of the rooms has another place
pub other : (z : Sizes) (r : ℕ) (from : Option ℕ) → IsInRooms z (link_spot r from) → (p : RoomSpot) → IsInRooms z p → (link_spot r from ≡ p → ⊥) → index z (in_rooms (link_spot r from)) ≢ index z (in_rooms p)
other z r from inside p h ne e = ne (in_one (link_spot r from) p (index_apart z (in_rooms (link_spot r from)) (in_rooms p) inside h e))

module _ (z : Sizes) (call r base place : ℕ) (from : Option ℕ) (inside : IsInRooms z (link_spot r from)) (old : ℕ) where
  abbrev at : ℕ
  at = index z (in_rooms (link_spot r from))

  load_leaves_it : (p : Spot) (n : ℕ) (v w : PassState) → Told z call (load p) v n w → LeavesAt at old v → LeavesAt at old w
  load_leaves_it p n v w d l = record { words = l.words; leaves = load_stays z call p v n w d l.words l.leaves; number = l.number }

  met_leaves : (m : Met) (v w : PassState) → LeavesLink from m → DoesMet z call r base place m v w → LeavesAt at old v → LeavesAt at old w
  met_leaves (met_count n) v w k d l = load_leaves_it (in_rooms (at_count r)) n v w d l
  met_leaves (met_link f n) v w k d l = load_leaves_it (in_rooms (link_spot r f)) n v w d l
  met_leaves (met_key i) v w k d l = record { words = l.words; leaves = loads_stay z call r d.met v w d.loads l.words l.leaves; number = l.number }
  met_leaves (tried_count o n) v w k d l = step_leaves z call (on_rooms (claim_entry r o)) v n w tt d at old (other z r from inside (at_count r) d.may.inside (count_apart r from)) l
  met_leaves (tried_link f i o n) v w k d l = step_leaves z call (on_rooms (link_entry r f i o)) v n w tt d at old (other z r from inside (link_spot r f) d.may.inside (λ e. k (link_same r from f e))) l
  met_leaves (stored_value i) v w k d l = step_leaves z call (on_rooms (own_entry of_value r i base)) v d.0 w tt d.1 at old (other z r from inside (at_value r i) d.1.may.inside (value_apart r i from)) l
  met_leaves (stored_link i x) v w k d l = step_leaves z call (on_rooms (own_entry of_next r i x)) v d.0 w tt d.1 at old (other z r from inside (at_next r i) d.1.may.inside (λ e. k (next_same r i from e))) l
  met_leaves (stored_key i) v w k d l = step_leaves z call (on_rooms (own_entry of_key r i place)) v d.0 w tt d.1 at old (other z r from inside (at_key r i) d.1.may.inside (key_apart r i from)) l
  met_leaves (gave_up i) v w k d l = step_leaves z call (on_rooms (own_entry of_key r i 0)) v d.0 w tt d.1 at old (other z r from inside (at_key r i) d.1.may.inside (key_apart r i from)) l

  each_leaves : (ms : List Met) (v w : PassState) → Each (LeavesLink from) ms → DoesEach z call r base place ms v w → LeavesAt at old v → LeavesAt at old w
  each_leaves [] v w k e l = subst (LeavesAt at old) (sym e) l
  each_leaves (m ∷ ms) v w k d l = each_leaves ms d.0 w k.1 d.2 (met_leaves m v d.0 k.0 d.1 l)

  link_kept : (i n : ℕ) (between : List Met) (u v w : PassState) → IsLonePass u → DoesEach z call r base place (met_link from old ∷ between) u v → Each (LeavesLink from) between → DoesMet z call r base place (tried_link from i old n) v w → n ≡ old
  link_kept i n between u v w l d kept tried = let k = load_leaves z call (in_rooms (link_spot r from)) u old d.0 d.1 l in let b = each_leaves between d.0 v kept d.2 (record { words = k.0; leaves = k.1; number = k.2 }) in
      sym (found_again z call r base place (on_rooms (link_entry r from i old)) v n w tried b.words b.leaves) ∙ b.number

-- a link that was loaded is found so by the exchange of it
pub own_link : (s t u : PinnedTable) (from : Option ℕ) (i old n : ℕ) (between : List Met) → IsLone s → MeetsInTable s t (met_link from old ∷ between) → Each (LeavesLink from) between → MeetsInTable t u (tried_link from i old n ∷ []) → n ≡ old
own_link s t u from i old n between lone first kept last = let d = does_since s t u (met_link from old ∷ between) (tried_link from i old n ∷ []) first last in
    link_kept (sizes s.table.now) (call_of s.pass.now) s.room s.base s.place from first.does.1.may old i n between (state s.pass.now) (state t.pass.now) d.0 lone first.does kept d.1
