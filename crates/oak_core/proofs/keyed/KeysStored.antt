-- The points on keys where a step of one seat stores to a word that no key shows: of a header that is neither live nor dead, or of a block that no live header has.
use Rattle.std.proofs.Common.{◌≡◌, ◌≢◌, ℕ, ◌⊎◌, inl, inr, List, map, set, sym, ap, ◌∙◌, subst, ⊎_elim, arith}
use mathlib.Core.Option.{some}
use lib.ListN.{get_elem?}
use Rattle.pin_word.specs.PinWord.{state_of, generation_of}
use Rattle.oak_model.specs.Counts.{total, Each}
use Rattle.oak_model.specs.Limits.{Sizes}
use Rattle.oak_model.proofs.Counting.{total_set}
use Rattle.oak_model.proofs.Lists.{at_map, at_set, map_set, map_set_same, each_map}
use Rattle.header_core.specs.HeaderHolds.{in_state}
use Rattle.header_core.specs.HeaderRule.{stocked}
use Rattle.header_core.specs.declared.holds.HeaderHolds.{HeaderHolds}
use Rattle.header_core.specs.declared.holds.HeldHeader.{HeldHeader}
use Rattle.header_core.specs.declared.states.TheConstants.{LIVE, DEAD}
use Rattle.chunk_core.specs.CoverSums.{each, word_for, base_for, naming}
use Rattle.chunk_core.specs.Covers.{Cover}
use Rattle.chunk_core.specs.ValueWord.{header_in}
use Rattle.oak_core.specs.declared.states.KeyedWrite.{KeyedWrite}
use Rattle.oak_core.specs.declared.states.Knowledge.{Knowledge}
use Rattle.oak_core.specs.declared.states.PassState.{PassState}
use Rattle.oak_core.specs.KeyHistories.{IsKeyHistory}
use Rattle.oak_core.specs.KeyReads.{word_now, base_now, history_now, sum_now, shown_by}
use Rattle.oak_core.specs.KeyRule.{KeysStand, OverIsRemoved}
use Rattle.oak_core.specs.KeyStates.{unnamed, KeyStands, HoldStands}
use Rattle.oak_core.specs.Memory.{Memory}
use Rattle.oak_core.specs.PassState.{knowledge_of, headers_held, history}
use Rattle.oak_core.proofs.keyed.KeyFrames.{hold_same, loaded_same, stands_same}

module _ (z : Sizes) (m m' : Memory) (vs : List PassState) (keys : KeysStand z m vs) (seat : ℕ) (v u : PassState) (here : get_elem? vs seat ≡ some v) (knowledge : u.knowledge ≡ v.knowledge) (sums : (F : Cover → ℕ) → sum_now z m' (set vs seat u) F ≡ sum_now z m vs F)
    (pins : (h : ℕ) → m'.headers.pin h ≡ m.headers.pin h) (stamps : (h : ℕ) → (state_of (m.headers.pin h) ≡ LIVE) ⊎ (state_of (m.headers.pin h) ≡ DEAD) → m'.headers.stamp h ≡ m.headers.stamp h) (shown : (h : ℕ) → state_of (m.headers.pin h) ≡ LIVE → shown_by m' h ≡ shown_by m h)
    (fresh : (h : ℕ) → in_state h LIVE u.headers ≡ in_state h LIVE v.headers) (buried : (h : ℕ) → unnamed h u.headers ≡ unnamed h v.headers)
    (holds : (word : ℕ → ℕ) (hist : ℕ → List KeyedWrite) → Each (λ (r : HeldHeader). HoldStands word hist r.held_as r) v.headers.held → Each (λ (r : HeldHeader). HoldStands word hist r.held_as r) u.headers.held) where
  abbrev vs' : List PassState
  vs' = set vs seat u

  h_here : get_elem? (map headers_held vs) seat ≡ some v.headers
  h_here = at_map headers_held vs seat v here

  knows_same : map knowledge_of (set vs seat u) ≡ map knowledge_of vs
  knows_same = map_set_same knowledge_of vs seat v u here knowledge

  same : (k : ℕ) → history_now (set vs seat u) k ≡ history_now vs k
  same k = ap (history k) knows_same

  heads_same : (f : HeaderHolds → ℕ) → f u.headers ≡ f v.headers → total f (map headers_held (set vs seat u)) ≡ total f (map headers_held vs)
  heads_same f e = let t = total_set f (map headers_held vs) seat v.headers u.headers h_here in let q = ap (total f) (map_set headers_held vs seat u) in omega arith

  stands : (k : ℕ) → KeyStands z m'.headers (shown_by m') (base_now z m vs k) (word_now z m vs k) (history_now vs k)
  stands k = record {
    none = (keys.states k).none;
    floor = (keys.states k).floor;
    named = λ x e high. let i = (keys.states k).named x e high in record {
      inside = i.inside;
      generation = ap generation_of (pins (header_in x)) ∙ i.generation;
      home = i.home;
      live = λ s. let l = sym (ap state_of (pins (header_in x))) ∙ s in let t = i.live l in (t.0 ∙ sym (shown (header_in x) l), t.1 ∙ sym (stamps (header_in x) (inl l)));
      dead = λ s. let d = sym (ap state_of (pins (header_in x))) ∙ s in let t = i.dead d in (t.0, t.1 ∙ sym (stamps (header_in x) (inr d)));
    };
  }

  holds_on : (a : HeaderHolds) → Each (λ (r : HeldHeader). HoldStands (word_now z m vs) (history_now vs) r.held_as r) a.held → Each (λ (r : HeldHeader). HoldStands (word_now z m' (set vs seat u)) (history_now (set vs seat u)) r.held_as r) a.held
  holds_on a p = each_map (λ (r : HeldHeader). HoldStands (word_now z m vs) (history_now vs) r.held_as r) (λ (r : HeldHeader). HoldStands (word_now z m' vs') (history_now vs') r.held_as r) a.held
      (λ r q. hold_same (word_now z m vs) (word_now z m' vs') (history_now vs) (history_now vs') (λ k. sums (each (word_for k))) same r.held_as r q) p

  pub keys_stored : KeysStand z m' (set vs seat u)
  keys_stored = record {
    named = λ h. let s = sums (each (naming h)) in let a = heads_same (in_state h LIVE) (fresh h) in let b = heads_same (unnamed h) (buried h) in let n = keys.named h in let t = ap (λ (w : ℕ). stocked (state_of w)) (pins h) in omega arith;
    states = λ k. stands_same z m'.headers (shown_by m') (base_now z m vs k) (base_now z m' vs' k) (word_now z m vs k) (word_now z m' vs' k) (history_now vs k) (history_now vs' k) (sums (each (word_for k))) (same k) (let b = sums (base_for k) in omega arith) (stands k);
    locks = λ j a at. ⊎_elim (λ (y : (j ≡ seat) × (u.headers ≡ a)). subst (λ (b : HeaderHolds). Each (λ (r : HeldHeader). HoldStands (word_now z m' vs') (history_now vs') r.held_as r) b.held) y.1
        (holds_on u.headers (holds (word_now z m vs) (history_now vs) (keys.locks seat v.headers h_here))))
        (λ (y : (j ≢ seat) × (get_elem? (map headers_held vs) j ≡ some a)). holds_on a (keys.locks j a y.1))
        (at_set (map headers_held vs) seat j u.headers a (subst (λ (l : List HeaderHolds). get_elem? l j ≡ some a) (map_set headers_held vs seat u) at));
    legal = λ k. subst (IsKeyHistory k) (sym (same k)) (keys.legal k);
    over = λ k. subst (λ (l : List KeyedWrite). Each (OverIsRemoved m'.headers.pin l) l) (sym (same k)) (each_map (OverIsRemoved m.headers.pin (history_now vs k)) (OverIsRemoved m'.headers.pin (history_now vs k)) (history_now vs k) (λ w f l. f (let g = ap generation_of (pins (header_in w.home)) in omega arith)) (keys.over k));
    loaded = λ j q at. loaded_same (history_now vs) (history_now vs') same q (keys.loaded j q (subst (λ (l : List Knowledge). get_elem? l j ≡ some q) knows_same at));
  }
