-- The points on keys, their writers and what passes were taught, together, and that they stay where a step makes no write.
use Rattle.std.proofs.Common.{◌≡◌, ℕ, ◌⊎◌, List, set, sym, ap, ◌∙◌, subst, arith}
use mathlib.Core.Option.{some}
use lib.ListN.{get_elem?}
use Rattle.pin_word.specs.PinWord.{state_of, generation_of}
use Rattle.oak_model.specs.Counts.{total, Each}
use Rattle.oak_model.specs.Limits.{Sizes}
use Rattle.oak_model.proofs.Lists.{map_set_same}
use Rattle.arena_core.specs.Place.{content}
use Rattle.header_core.specs.Headers.{HeaderMemory}
use Rattle.header_core.specs.HeaderHolds.{in_state}
use Rattle.header_core.specs.declared.holds.HeaderHolds.{HeaderHolds}
use Rattle.header_core.specs.declared.holds.HeldHeader.{HeldHeader}
use Rattle.header_core.specs.declared.states.TheConstants.{LIVE, DEAD}
use Rattle.chunk_core.specs.Covers.{Cover}
use Rattle.chunk_core.specs.CoverSums.{all_of, each}
use Rattle.oak_core.specs.declared.states.KeyedWrite.{KeyedWrite}
use Rattle.oak_core.specs.declared.states.Knowledge.{Knowledge}
use Rattle.oak_core.specs.declared.states.PassState.{PassState}
use Rattle.oak_core.specs.Bounds.{BasesBound, HasOpened, base_over, floor_over}
use Rattle.oak_core.specs.Callers.{CallersAgree, made_by, made_of, removes}
use Rattle.oak_core.specs.KeyReads.{sum_now, history_now, shown_by}
use Rattle.oak_core.specs.KeyRule.{KeysStand}
use Rattle.oak_core.specs.KeyStates.{unnamed, HoldStands}
use Rattle.oak_core.specs.Lessons.{HeardStands, PinsKnow}
use Rattle.oak_core.specs.Memory.{Memory, memory}
use Rattle.oak_core.specs.PassState.{rooms_held, knowledge_of, history}
use Rattle.oak_core.specs.Rule.{Rule}
use Rattle.oak_core.specs.TableState.{TableState}
use Rattle.oak_core.proofs.histories.BoundWrites.{bases_kept}
use Rattle.oak_core.proofs.histories.CallersKept.{without_hand, callers_kept, made_kept, made_same}
use Rattle.oak_core.proofs.keyed.KeysStored.{keys_stored}
use Rattle.oak_core.proofs.lessons.LessonRanges.{heard_covers}

pub record KeyBundles (z : Sizes) (m : Memory) (vs : List PassState) : Type 0 where
  pub keys : KeysStand z m vs
  pub callers : CallersAgree vs
  pub bounds : BasesBound z m vs
  pub opened : HasOpened z m vs
  pub heard : HeardStands z m vs

pub keys_now : (z : Sizes) (s : TableState) → Rule z s → KeyBundles z (memory z s.words) s.states
keys_now z s r = record { keys = r.keys; callers = r.callers; bounds = r.bounds; opened = r.opened; heard = r.heard }

-- what is added up over covers stays
abbrev pub CoversStay : Sizes → Memory → Memory → List PassState → List PassState → Type 0
CoversStay z m m' vs vs' = (F : Cover → ℕ) → sum_now z m' vs' F ≡ sum_now z m vs F

-- no header comes to be dead, and none to another generation
pub record NoneDies (n n' : HeaderMemory) : Type 0 where
  pub dead : (h : ℕ) → state_of (n'.pin h) ≡ DEAD → state_of (n.pin h) ≡ DEAD
  pub generations : (h : ℕ) → generation_of (n'.pin h) ≡ generation_of (n.pin h)

-- while nothing was removed, before and behind, this leaves the table as it was opened
pub opened_kept : (z : Sizes) (m m' : Memory) (vs vs' : List PassState) → NoneDies m.headers m'.headers → (total (made_of removes) vs' ≡ 0 → total (made_of removes) vs ≡ 0) → HasOpened z m vs → HasOpened z m' vs'
opened_kept z m m' vs vs' still fewer o = record {
  generation = o.generation;
  early = o.early;
  until = λ none h inside. let u = o.until (fewer none) h inside in ((λ e. u.0 (still.dead h e)), still.generations h ∙ u.1);
}

-- A step that makes no write, changes no history and nothing that is added up over covers, and by which no header dies: what is left to show is said of keys, and of what passes were taught.
module _ (z : Sizes) (m m' : Memory) (vs : List PassState) (seat : ℕ) (v w : PassState) (here : get_elem? vs seat ≡ some v) (b : KeyBundles z m vs) (stay : CoversStay z m m' vs (set vs seat w)) (numbers : without_hand w.numbers ≡ without_hand v.numbers) where
  -- what it leaves while nothing was removed is shown otherwise
  pub bundles_opened : w.knowledge.mine ≡ v.knowledge.mine → ((k : ℕ) → history_now (set vs seat w) k ≡ history_now vs k) → HasOpened z m' (set vs seat w) → KeysStand z m' (set vs seat w) → HeardStands z m' (set vs seat w) → KeyBundles z m' (set vs seat w)
  bundles_opened mine same opened keys heard = record {
    keys = keys;
    callers = callers_kept vs seat v w here numbers mine b.callers same;
    bounds = bases_kept z m m' vs (set vs seat w) b.bounds (made_kept vs seat v w here numbers mine) same (let s = stay (each (floor_over (total made_by vs))) in omega arith) (let s = stay (base_over (total made_by vs)) in omega arith);
    opened = opened;
    heard = heard;
  }

  pub bundles_kept : w.knowledge.mine ≡ v.knowledge.mine → ((k : ℕ) → history_now (set vs seat w) k ≡ history_now vs k) → NoneDies m.headers m'.headers → KeysStand z m' (set vs seat w) → HeardStands z m' (set vs seat w) → KeyBundles z m' (set vs seat w)
  bundles_kept mine same still keys heard = bundles_opened mine same (opened_kept z m m' vs (set vs seat w) still (λ none. let s = made_same vs seat v w here numbers mine removes in omega arith) b.opened) keys heard

  module _ (knowledge : w.knowledge ≡ v.knowledge) where
    -- the pass learns nothing, and no word changes that a key shows
    pub keys_framed : ((h : ℕ) → m'.headers.pin h ≡ m.headers.pin h) → ((h : ℕ) → (state_of (m.headers.pin h) ≡ LIVE) ⊎ (state_of (m.headers.pin h) ≡ DEAD) → m'.headers.stamp h ≡ m.headers.stamp h) → ((h : ℕ) → state_of (m.headers.pin h) ≡ LIVE → shown_by m' h ≡ shown_by m h)
        → ((h : ℕ) → in_state h LIVE w.headers ≡ in_state h LIVE v.headers) → ((h : ℕ) → unnamed h w.headers ≡ unnamed h v.headers)
        → ((word : ℕ → ℕ) (hist : ℕ → List KeyedWrite) → Each (λ (r : HeldHeader). HoldStands word hist r.held_as r) v.headers.held → Each (λ (r : HeldHeader). HoldStands word hist r.held_as r) w.headers.held) → PinsKnow w → KeyBundles z m' (set vs seat w)
    keys_framed pins stamps shown fresh buried holds known = bundles_kept (ap (λ (q : Knowledge). q.mine) knowledge) (λ k. ap (history k) (map_set_same knowledge_of vs seat v w here knowledge))
        record { dead = λ h e. sym (ap state_of (pins h)) ∙ e; generations = λ h. ap generation_of (pins h) }
        (keys_stored z m m' vs b.keys seat v w here knowledge stay pins stamps shown fresh buried holds) (heard_covers z m m' vs seat v w here b.heard knowledge known stay)

    -- nor any word of a header, nor what the pass has of headers
    pub keys_idle : m'.headers ≡ m.headers → w.headers ≡ v.headers → ((h : ℕ) → state_of (m.headers.pin h) ≡ LIVE → shown_by m' h ≡ shown_by m h) → PinsKnow w → KeyBundles z m' (set vs seat w)
    keys_idle words headers shown known = keys_framed (λ h. ap (λ (n : HeaderMemory). n.pin h) words) (λ h _. ap (λ (n : HeaderMemory). n.stamp h) words) shown (λ h. ap (in_state h LIVE) headers) (λ h. ap (unnamed h) headers)
        (λ word hist p. subst (λ (a : HeaderHolds). Each (λ (r : HeldHeader). HoldStands word hist r.held_as r) a.held) (sym headers) p) known

-- a step that leaves what its pass has of rooms leaves all covers
pub rooms_still : (z : Sizes) (m : Memory) (vs : List PassState) (seat : ℕ) (v w : PassState) → get_elem? vs seat ≡ some v → w.rooms ≡ v.rooms → CoversStay z m m vs (set vs seat w)
rooms_still z m vs seat v w here same F = ap (λ (hs : List _). all_of z m.rooms (content m.arena.bytes) hs F) (map_set_same rooms_held vs seat v w here same)
