-- A load of a word that may teach teaches nothing where its pass has not what it would be taught by: no entry found, and no pin on the header. Whatever it teaches, it leaves what the pass has of numbers, blocks and headers.
use Rattle.std.proofs.Common.{◌≡◌, ℕ, ◌++◌, ◌∷◌, [], ◌==◌, ◌&&◌, cond, Bool, false, List, map, sym, refl, ap, subst, ◌∙◌, ne_eqb, Option, Some, None, arith}
use Rattle.std.proofs.lemmas.Bool.{and_left}
use Rattle.oak_model.specs.Limits.{Sizes}
use Rattle.oak_model.proofs.Counting.{one_at-same}
use Rattle.header_core.specs.declared.holds.PinnedHeader.{PinnedHeader}
use Rattle.header_core.specs.HeaderHolds.{pins_of, pins_on}
use Rattle.header_core.specs.Headers.{at_stamp}
use Rattle.chunk_core.specs.Rooms.{at_value}
use Rattle.chunk_core.specs.ValueWord.{names_header}
use Rattle.oak_core.specs.declared.states.Knowledge.{Knowledge}
use Rattle.oak_core.specs.declared.states.PassState.{PassState}
use Rattle.oak_core.specs.Finding.{finding, grown}
use Rattle.oak_core.specs.FoundKeys.{pinned_key}
use Rattle.oak_core.specs.Learning.{of_key_to, taught_where}
use Rattle.oak_core.specs.LifeKeys.{is_known, key_or}
use Rattle.oak_core.specs.Memory.{Memory, Spot, in_headers, in_rooms, memory, index, IsInside}
use Rattle.oak_core.specs.PassState.{knowledge_of}
use Rattle.oak_core.specs.Sights.{sights_with}
use Rattle.oak_core.specs.Splitting.{Loads}
use Rattle.oak_core.specs.StampLoads.{finds_life, finds_now, shows_stamp, stamp_taught}
use Rattle.oak_core.proofs.told.PlainLoads.{LoadTeachesNothing, quiet_state}
use Rattle.oak_core.proofs.memory.Words.{index_apart}

-- an entry that was not found
pub unfound_teaches : (call r i : ℕ) (m : Memory) (qs : List Knowledge) (v : PassState) → pinned_key r i v.rooms.pin ≡ None → LoadTeachesNothing call (in_rooms (at_value r i)) m qs v
unfound_teaches call r i m qs v none = let n : ℕ = m.rooms.value r i in record {
  knowledge = ap (λ (o : Option (List ℕ)). record (taught_where (is_known o && (names_header n == 0)) (of_key_to (key_or o) n) qs v.knowledge) { loaded = cond (is_known o && (names_header n == 1)) (v.knowledge.loaded ++ record { call = call; key = key_or o; home = n } ∷ []) v.knowledge.loaded }) none;
  sights = ap (λ (o : Option (List ℕ)). sights_with (is_known o && (names_header n == 0)) call (of_key_to (key_or o) n) v.findings) none;
  rooms = refl;
}

-- a header whose life no pin found, or one whose key the pass does not know
pub unshown_teaches : (call h : ℕ) (m : Memory) (qs : List Knowledge) (v : PassState) → shows_stamp h v.headers.pin v.knowledge ≡ false → LoadTeachesNothing call (in_headers (at_stamp h)) m qs v
unshown_teaches call h m qs v other = record {
  knowledge = ap (λ (b : Bool). taught_where b (stamp_taught h (m.headers.stamp h) v.headers.pin v.knowledge) qs v.knowledge) other;
  sights = ap (λ (b : Bool). sights_with (b && finds_now call v.headers.pin v.knowledge) call (stamp_taught h (m.headers.stamp h) v.headers.pin v.knowledge) v.findings) other;
  rooms = refl;
}

-- so is it of a header without a pin of the pass
unpinned_shows : (h : ℕ) (o : Option PinnedHeader) (q : Knowledge) → pins_of h o ≡ 0 → shows_stamp h o q ≡ false
unpinned_shows h None q none = refl
unpinned_shows h (Some p) q none = and_left (finds_life h (Some p)) _ (and_left (p.header == h) _ (ne_eqb p.header h (λ e. absurd (let o = one_at-same p.header h e in omega arith))))

pub unpinned_teaches : (call h : ℕ) (m : Memory) (qs : List Knowledge) (v : PassState) → pins_on h v.headers ≡ 0 → LoadTeachesNothing call (in_headers (at_stamp h)) m qs v
unpinned_teaches call h m qs v none = unshown_teaches call h m qs v (unpinned_shows h v.headers.pin v.knowledge none)

-- such a load told nothing but its finding
pub met_quiet : (z : Sizes) (call word n : ℕ) (v w : PassState) (q : Spot) → IsInside z q → word ≡ index z q → ((m : Memory) (qs : List Knowledge) → LoadTeachesNothing call q m qs v) → (l : Loads z call word v n w) → w ≡ grown (finding z call l.spot (Some n) n l.told.table.words v ∷ []) v
met_quiet z call word n v w q inside e nothing l = l.told.after
    ∙ (quiet_state z call l.told.table v l.spot (subst (λ (p : Spot). LoadTeachesNothing call p (memory z l.told.table.words) (map knowledge_of l.told.table.states) v) (sym (index_apart z l.spot q l.inside inside (l.at ∙ e))) (nothing (memory z l.told.table.words) (map knowledge_of l.told.table.states)))
    ∙ ap (λ (k : ℕ). grown (finding z call l.spot (Some k) k l.told.table.words v ∷ []) v) l.told.finds)

-- what no load changes

pub load_numbers : (z : Sizes) (call word n : ℕ) (v w : PassState) → Loads z call word v n w → w.numbers ≡ v.numbers
load_numbers z call word n v w l = ap (λ (y : PassState). y.numbers) l.told.after

pub load_blocks : (z : Sizes) (call word n : ℕ) (v w : PassState) → Loads z call word v n w → w.blocks ≡ v.blocks
load_blocks z call word n v w l = ap (λ (y : PassState). y.blocks) l.told.after

pub load_headers : (z : Sizes) (call word n : ℕ) (v w : PassState) → Loads z call word v n w → w.headers ≡ v.headers
load_headers z call word n v w l = ap (λ (y : PassState). y.headers) l.told.after
