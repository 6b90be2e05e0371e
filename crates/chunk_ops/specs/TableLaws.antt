-- Laws of a pinned table as a room whose entries are linked: what was met one behind another, and what a pass that is alone finds again.
use Rattle.std.specs.Prelude.{◌≡◌, ℕ, ◌<◌, ◌⊎◌, List, [], ◌∷◌, ◌++◌, refl}
use Rattle.std.proofs.Common.{ap, ◌∙◌, get_or, inl, inr, subst, sym}
use lib.Seq.{set-get_or}
use Rattle.oak_model.specs.declared.limits.TheConstants.{GREATEST_ENTRIES}
use Rattle.oak_model.specs.Counts.{Each}
use Rattle.oak_model.specs.Limits.{Sizes}
use Rattle.chunk_core.specs.LinkWords.{link_spot}
use Rattle.chunk_core.specs.RoomStep.{claim_entry, link_entry, of_key, of_next, of_value, own_entry}
use Rattle.chunk_core.specs.Rooms.{at_count}
use Rattle.link_search.specs.Linked.{IsFound}
use Rattle.link_search.specs.Met.{IsEntryLoad, Met, TellsCount, gave_up, met_count, met_key, met_link, stored_key, stored_link, stored_value, tried_count, tried_link}
use Rattle.oak_core.specs.declared.states.PassState.{PassState}
use Rattle.oak_core.specs.AloneWords.{LeavesWords}
use Rattle.oak_core.specs.Memory.{Spot, in_rooms, index}
use Rattle.oak_core.specs.PassState.{IsAlone}
use Rattle.oak_core.specs.Passes.{call_of, key as sizes, state}
use Rattle.oak_core.specs.Step.{Step, Told, load, on_rooms, spot}
use Rattle.oak_core.proofs.seats.AloneRuns.{Keeps, load_runs, step_runs, step_starts, words_stand}
use Rattle.chunk_ops.specs.declared.pinned_table.PinnedTable.{PinnedTable}
use Rattle.chunk_ops.specs.FoundNumbers.{table_room}
use Rattle.chunk_ops.specs.LinkedTable.{DoesEach, DoesMet, IsLone, MeetsInTable, most_of}
use Rattle.chunk_ops.specs.Reads as reads
use Rattle.chunk_ops.specs.RoomLoads.{IsPinnedTable, LoadsEach, number_of, same_both, same_none, spot_of, view_of}

pub table_few : (s : PinnedTable) → IsPinnedTable s → (i : ℕ) → IsFound (view_of s) i → i < GREATEST_ENTRIES
table_few s p i h = (table_room s p).few i h

-- ---- one behind another

pub does_both : (z : Sizes) (call r base place : ℕ) (u v w : PassState) (a b : List Met) → DoesEach z call r base place a u v → DoesEach z call r base place b v w → DoesEach z call r base place (a ++ b) u w
does_both z call r base place u v w [] b p q = subst (λ (s : PassState). DoesEach z call r base place b s w) p q
does_both z call r base place u v w (m ∷ a) b p q = (p.0, p.1, does_both z call r base place p.0 v w a b p.2 q)

pub does_split : (z : Sizes) (call r base place : ℕ) (u w : PassState) (a b : List Met) → DoesEach z call r base place (a ++ b) u w → (v : PassState) × DoesEach z call r base place a u v × DoesEach z call r base place b v w
does_split z call r base place u w [] b d = (u, refl, d)
does_split z call r base place u w (m ∷ a) b d = let s = does_split z call r base place d.0 w a b d.2 in (s.0, (d.0, d.1, s.1), s.2)

-- of the same pass, room and entry
pub does_in : (z y : Sizes) (first now r q base floor place word : ℕ) (ms : List Met) (v w : PassState) → y ≡ z → now ≡ first → q ≡ r → floor ≡ base → word ≡ place → DoesEach y now q floor word ms v w → DoesEach z first r base place ms v w
does_in z y first now r q base floor place word ms v w e f g h k d = subst (λ (n : ℕ). DoesEach z first r base n ms v w) k (subst (λ (n : ℕ). DoesEach z first r n word ms v w) h (subst (λ (n : ℕ). DoesEach z first n floor word ms v w) g
    (subst (λ (n : ℕ). DoesEach z n q floor word ms v w) f (subst (λ (x : Sizes). DoesEach x now q floor word ms v w) e d))))

-- what the later one met, as the earlier one tells it
pub does_since : (s t u : PinnedTable) (a b : List Met) → MeetsInTable s t a → MeetsInTable t u b → DoesEach (sizes s.table.now) (call_of s.pass.now) s.room s.base s.place b (state t.pass.now) (state u.pass.now)
does_since s t u a b p q = does_in (sizes s.table.now) (sizes t.table.now) (call_of s.pass.now) (call_of t.pass.now) s.room t.room s.base t.base s.place t.place b (state t.pass.now) (state u.pass.now)
    (ap (λ x. sizes x.now) p.same.table) p.same.own.call p.same.room p.same.base p.same.place q.does

pub meets_nothing : (s : PinnedTable) → MeetsInTable s s []
meets_nothing s = record { same = same_none s; does = refl }

pub meets_then : (s t u : PinnedTable) (a b : List Met) → MeetsInTable s t a → MeetsInTable t u b → MeetsInTable s u (a ++ b)
meets_then s t u a b p q = record {
  same = same_both s t u p.same q.same;
  does = does_both (sizes s.table.now) (call_of s.pass.now) s.room s.base s.place (state s.pass.now) (state t.pass.now) (state u.pass.now) a b p.does (does_since s t u a b p q);
}

pub most_stays : (s t : PinnedTable) (ms : List Met) → MeetsInTable s t ms → most_of t ≡ most_of s
most_stays s t ms m = ap (λ x. (sizes x.now).entries) m.same.table

-- ---- a pass that is alone from here on

abbrev pub IsLonePass : PassState → Type 0
IsLonePass v = ((words : List ℕ) × LeavesWords words v) ⊎ IsAlone v

-- behind a step it has left words
pub lone_leaves : (z : Sizes) (call : ℕ) (x : Step) (v : PassState) (n : ℕ) (w : PassState) → Keeps x → Told z call x v n w → IsLonePass v → (words : List ℕ) × LeavesWords words w
lone_leaves z call x v n w k t (inl l) = let r = (step_runs z call x v n w k t).goes l.0 l.1 in (r.after, r.leaves)
lone_leaves z call x v n w k t (inr a) = (_, step_starts z call x v n w k a t)

lone_step : (z : Sizes) (call : ℕ) (x : Step) (v : PassState) (n : ℕ) (w : PassState) → Keeps x → Told z call x v n w → IsLonePass v → IsLonePass w
lone_step z call x v n w k t l = inl (lone_leaves z call x v n w k t l)

lone_loads : (z : Sizes) (call r : ℕ) (ms : List reads.Met) (v w : PassState) → LoadsEach z call r ms v w → IsLonePass v → IsLonePass w
lone_loads z call r [] v w e l = subst IsLonePass (sym e) l
lone_loads z call r (m ∷ ms) v w e l = lone_loads z call r ms e.0 w e.2 (lone_step z call (load (spot_of r m)) v (number_of m) e.0 tt e.1 l)

module _ (z : Sizes) (call r base place : ℕ) where
  lone_met : (m : Met) (v w : PassState) → DoesMet z call r base place m v w → IsLonePass v → IsLonePass w
  lone_met (met_count n) v w d l = lone_step z call (load (in_rooms (at_count r))) v n w tt d l
  lone_met (met_link from n) v w d l = lone_step z call (load (in_rooms (link_spot r from))) v n w tt d l
  lone_met (met_key i) v w d l = lone_loads z call r d.met v w d.loads l
  lone_met (tried_count old n) v w d l = lone_step z call (on_rooms (claim_entry r old)) v n w tt d l
  lone_met (tried_link from i old n) v w d l = lone_step z call (on_rooms (link_entry r from i old)) v n w tt d l
  lone_met (stored_value i) v w d l = lone_step z call (on_rooms (own_entry of_value r i base)) v d.0 w tt d.1 l
  lone_met (stored_link i n) v w d l = lone_step z call (on_rooms (own_entry of_next r i n)) v d.0 w tt d.1 l
  lone_met (stored_key i) v w d l = lone_step z call (on_rooms (own_entry of_key r i place)) v d.0 w tt d.1 l
  lone_met (gave_up i) v w d l = lone_step z call (on_rooms (own_entry of_key r i 0)) v d.0 w tt d.1 l

  pub lone_each : (ms : List Met) (v w : PassState) → DoesEach z call r base place ms v w → IsLonePass v → IsLonePass w
  lone_each [] v w d l = subst IsLonePass (sym d) l
  lone_each (m ∷ ms) v w d l = lone_each ms d.0 w d.2 (lone_met m v d.0 d.1 l)

pub lone_still : (s t : PinnedTable) (ms : List Met) → MeetsInTable s t ms → IsLone s → IsLone t
lone_still s t ms m l = lone_each (sizes s.table.now) (call_of s.pass.now) s.room s.base s.place ms (state s.pass.now) (state t.pass.now) m.does l

-- ---- a word that it loaded

-- stands so in the words that it leaves
pub load_leaves : (z : Sizes) (call : ℕ) (p : Spot) (v : PassState) (n : ℕ) (w : PassState) → Told z call (load p) v n w → IsLonePass v → (words : List ℕ) × LeavesWords words w × (get_or words (index z p) 0 ≡ n)
load_leaves z call p v n w t (inl l) = let r = (load_runs z call p v n w t).goes l.0 l.1 in (l.0, subst (λ (ws : List ℕ). LeavesWords ws w) r.does.1 r.leaves, sym r.does.0)
load_leaves z call p v n w t (inr a) = (t.table.words, subst (λ (ws : List ℕ). LeavesWords ws w) (set-get_or t.table.words (index z p) 0) (step_starts z call (load p) v n w tt a t), t.finds)

-- which stay at further loads
pub load_stays : (z : Sizes) (call : ℕ) (p : Spot) (v : PassState) (n : ℕ) (w : PassState) → Told z call (load p) v n w → (words : List ℕ) → LeavesWords words v → LeavesWords words w
load_stays z call p v n w t words l = let r = (load_runs z call p v n w t).goes words l in subst (λ (ws : List ℕ). LeavesWords ws w) r.does.1 r.leaves

pub loads_stay : (z : Sizes) (call r : ℕ) (ms : List reads.Met) (v w : PassState) → LoadsEach z call r ms v w → (words : List ℕ) → LeavesWords words v → LeavesWords words w
loads_stay z call r [] v w e words l = subst (LeavesWords words) (sym e) l
loads_stay z call r (m ∷ ms) v w e words l = loads_stay z call r ms e.0 w e.2 words (load_stays z call (spot_of r m) v (number_of m) e.0 e.1 words l)

module _ (z : Sizes) (call r base place : ℕ) where
  entries_stay : (ms : List Met) (v w : PassState) → Each IsEntryLoad ms → DoesEach z call r base place ms v w → (words : List ℕ) → LeavesWords words v → LeavesWords words w
  entries_stay [] v w e d words l = subst (LeavesWords words) (sym d) l
  entries_stay (met_count n ∷ ms) v w e d words l = absurd e.0
  entries_stay (met_link from n ∷ ms) v w e d words l = entries_stay ms d.0 w e.1 d.2 words (load_stays z call (in_rooms (link_spot r from)) v n d.0 d.1 words l)
  entries_stay (met_key i ∷ ms) v w e d words l = entries_stay ms d.0 w e.1 d.2 words (loads_stay z call r d.1.met v d.0 d.1.loads words l)
  entries_stay (tried_count o n ∷ ms) v w e d words l = absurd e.0
  entries_stay (tried_link f i o n ∷ ms) v w e d words l = absurd e.0
  entries_stay (stored_value i ∷ ms) v w e d words l = absurd e.0
  entries_stay (stored_link i n ∷ ms) v w e d words l = absurd e.0
  entries_stay (stored_key i ∷ ms) v w e d words l = absurd e.0
  entries_stay (gave_up i ∷ ms) v w e d words l = absurd e.0

  -- a step at the word finds what the pass left there
  pub found_again : (x : Step) (v : PassState) (n : ℕ) (w : PassState) → Told z call x v n w → (words : List ℕ) → LeavesWords words v → get_or words (index z (spot x)) 0 ≡ n
  found_again x v n w t words l = ap (λ (ws : List ℕ). get_or ws (index z (spot x)) 0) (sym (words_stand z call x v n w words l t)) ∙ t.finds

  -- so it is with the count
  count_again : (m : Met) (n : ℕ) (v w : PassState) → TellsCount n m → DoesMet z call r base place m v w → (words : List ℕ) → LeavesWords words v → get_or words (index z (in_rooms (at_count r))) 0 ≡ n
  count_again (met_count c) n v w e d words l = found_again (load (in_rooms (at_count r))) v c w d words l ∙ e
  count_again (met_link f c) n v w e d words l = absurd e
  count_again (met_key i) n v w e d words l = absurd e
  count_again (tried_count o c) n v w e d words l = found_again (on_rooms (claim_entry r o)) v c w d words l ∙ e
  count_again (tried_link f i o c) n v w e d words l = absurd e
  count_again (stored_value i) n v w e d words l = absurd e
  count_again (stored_link i c) n v w e d words l = absurd e
  count_again (stored_key i) n v w e d words l = absurd e
  count_again (gave_up i) n v w e d words l = absurd e

  count_kept : (old n : ℕ) (between : List Met) (m : Met) (u v w : PassState) → IsLonePass u → DoesEach z call r base place (met_count old ∷ between) u v → Each IsEntryLoad between → DoesMet z call r base place m v w → TellsCount n m → n ≡ old
  count_kept old n between m u v w l d e f g = let k = load_leaves z call (in_rooms (at_count r)) u old d.0 d.1 l in
      sym (count_again m n v w g f k.0 (entries_stay between d.0 v e d.2 k.0 k.1)) ∙ k.2

pub own_count : (s t u : PinnedTable) (old n : ℕ) (between : List Met) (m : Met) → IsLone s → MeetsInTable s t (met_count old ∷ between) → Each IsEntryLoad between → MeetsInTable t u (m ∷ []) → TellsCount n m → n ≡ old
own_count s t u old n between m l p e q tells = let d = does_since s t u (met_count old ∷ between) (m ∷ []) p q in
    count_kept (sizes s.table.now) (call_of s.pass.now) s.room s.base s.place old n between m (state s.pass.now) (state t.pass.now) d.0 l p.does e d.1 tells
