-- The points on keys where a step of one seat changes no entry, no history, nothing of a header's word but its count, and no header that its pass holds: loads that teach, and pins of headers.
use Rattle.std.proofs.Common.{◌≡◌, ◌≢◌, ℕ, List, map, set, sym, refl, ap, ◌∙◌, subst, ⊎_elim, arith}
use mathlib.Core.Option.{some}
use lib.ListN.{get_elem?}
use Rattle.pin_word.specs.PinWord.{state_of, generation_of}
use Rattle.oak_model.specs.Counts.{total, Each}
use Rattle.oak_model.specs.Limits.{Sizes}
use Rattle.oak_model.proofs.Counting.{total_set}
use Rattle.oak_model.proofs.Lists.{at_map, at_set, map_set, each_map}
use Rattle.header_core.specs.HeaderHolds.{in_state}
use Rattle.header_core.specs.HeaderRule.{stocked}
use Rattle.header_core.specs.declared.holds.HeaderHolds.{HeaderHolds}
use Rattle.header_core.specs.declared.holds.HeldHeader.{HeldHeader}
use Rattle.header_core.specs.declared.states.TheConstants.{LIVE}
use Rattle.chunk_core.specs.CoverSums.{each, word_for, base_for, naming}
use Rattle.chunk_core.specs.Covers.{Cover}
use Rattle.chunk_core.specs.ValueWord.{header_in}
use Rattle.oak_core.specs.declared.states.KeyedWrite.{KeyedWrite}
use Rattle.oak_core.specs.declared.states.Knowledge.{Knowledge}
use Rattle.oak_core.specs.declared.states.PassState.{PassState}
use Rattle.oak_core.specs.KeyHistories.{IsKeyHistory}
use Rattle.oak_core.specs.KeyReads.{word_now, base_now, history_now, sum_now, shown_by}
use Rattle.oak_core.specs.KeyRule.{KeysStand, LoadedStand, OverIsRemoved}
use Rattle.oak_core.specs.KeyStates.{unnamed, KeyStands, HoldStands}
use Rattle.oak_core.specs.Memory.{Memory}
use Rattle.oak_core.specs.PassState.{knowledge_of, headers_held}
use Rattle.oak_core.proofs.keyed.KeyFrames.{hold_same, loaded_same, stands_same}

module _ (z : Sizes) (m : Memory) (vs : List PassState) (keys : KeysStand z m vs) (seat : ℕ) (v u : PassState) (here : get_elem? vs seat ≡ some v) (held : u.headers.held ≡ v.headers.held)
    (sums : (F : Cover → ℕ) → sum_now z m (set vs seat u) F ≡ sum_now z m vs F) (same : (k : ℕ) → history_now (set vs seat u) k ≡ history_now vs k) (lives : LoadedStand (history_now vs) u.knowledge)
    (pin : ℕ → ℕ) (states : (h : ℕ) → state_of (pin h) ≡ state_of (m.headers.pin h)) (generations : (h : ℕ) → generation_of (pin h) ≡ generation_of (m.headers.pin h)) where
  abbrev vs' : List PassState
  vs' = set vs seat u

  abbrev m' : Memory
  m' = record m { headers = record m.headers { pin = pin } }

  h_here : get_elem? (map headers_held vs) seat ≡ some v.headers
  h_here = at_map headers_held vs seat v here

  heads_same : (f : HeaderHolds → ℕ) → f u.headers ≡ f v.headers → total f (map headers_held (set vs seat u)) ≡ total f (map headers_held vs)
  heads_same f e = let t = total_set f (map headers_held vs) seat v.headers u.headers h_here in let q = ap (total f) (map_set headers_held vs seat u) in omega arith

  -- what is said of a key speaks of the states and generations of headers
  stands : (k : ℕ) → KeyStands z m'.headers (shown_by m) (base_now z m vs k) (word_now z m vs k) (history_now vs k)
  stands k = record {
    none = (keys.states k).none;
    floor = (keys.states k).floor;
    named = λ x e n. let i = (keys.states k).named x e n in record {
      inside = i.inside;
      generation = generations (header_in x) ∙ i.generation;
      home = i.home;
      live = λ s. i.live (sym (states (header_in x)) ∙ s);
      dead = λ s. i.dead (sym (states (header_in x)) ∙ s);
    };
  }

  holds_on : (a : HeaderHolds) → Each (λ (r : HeldHeader). HoldStands (word_now z m vs) (history_now vs) r.held_as r) a.held → Each (λ (r : HeldHeader). HoldStands (word_now z m (set vs seat u)) (history_now (set vs seat u)) r.held_as r) a.held
  holds_on a p = each_map (λ (r : HeldHeader). HoldStands (word_now z m vs) (history_now vs) r.held_as r) (λ (r : HeldHeader). HoldStands (word_now z m vs') (history_now vs') r.held_as r) a.held
      (λ r q. hold_same (word_now z m vs) (word_now z m vs') (history_now vs) (history_now vs') (λ k. sums (each (word_for k))) same r.held_as r q) p

  pub keys_counted : KeysStand z (record m { headers = record m.headers { pin = pin } }) (set vs seat u)
  keys_counted = record {
    named = λ h. let s = sums (each (naming h)) in let a = heads_same (in_state h LIVE) (ap (λ (l : List HeldHeader). in_state h LIVE (record v.headers { held = l })) held) in
        let b = heads_same (unnamed h) (ap (λ (l : List HeldHeader). unnamed h (record v.headers { held = l })) held) in let n = keys.named h in let t = ap stocked (states h) in omega arith;
    states = λ k. stands_same z m'.headers (shown_by m) (base_now z m vs k) (base_now z m vs' k) (word_now z m vs k) (word_now z m vs' k) (history_now vs k) (history_now vs' k) (sums (each (word_for k))) (same k) (let b = sums (base_for k) in omega arith) (stands k);
    locks = λ j a at. ⊎_elim (λ (y : (j ≡ seat) × (u.headers ≡ a)). subst (λ (b : HeaderHolds). Each (λ (r : HeldHeader). HoldStands (word_now z m vs') (history_now vs') r.held_as r) b.held) y.1
        (subst (Each (λ (r : HeldHeader). HoldStands (word_now z m vs') (history_now vs') r.held_as r)) (sym held) (holds_on v.headers (keys.locks seat v.headers h_here))))
        (λ (y : (j ≢ seat) × (get_elem? (map headers_held vs) j ≡ some a)). holds_on a (keys.locks j a y.1))
        (at_set (map headers_held vs) seat j u.headers a (subst (λ (l : List HeaderHolds). get_elem? l j ≡ some a) (map_set headers_held vs seat u) at));
    legal = λ k. subst (IsKeyHistory k) (sym (same k)) (keys.legal k);
    over = λ k. subst (λ (l : List KeyedWrite). Each (OverIsRemoved pin l) l) (sym (same k)) (each_map (OverIsRemoved m.headers.pin (history_now vs k)) (OverIsRemoved pin (history_now vs k)) (history_now vs k) (λ w f l. f (let g = generations (header_in w.home) in omega arith)) (keys.over k));
    loaded = λ j q at. ⊎_elim (λ (y : (j ≡ seat) × (u.knowledge ≡ q)). subst (LoadedStand (history_now vs')) y.1 (loaded_same (history_now vs) (history_now vs') same u.knowledge lives))
        (λ (y : (j ≢ seat) × (get_elem? (map knowledge_of vs) j ≡ some q)). loaded_same (history_now vs) (history_now vs') same q (keys.loaded j q y.1))
        (at_set (map knowledge_of vs) seat j u.knowledge q (subst (λ (l : List Knowledge). get_elem? l j ≡ some q) (map_set knowledge_of vs seat u) at));
  }

-- nothing changes of the headers' words
pub keys_learned : (z : Sizes) (m : Memory) (vs : List PassState) → KeysStand z m vs → (seat : ℕ) (v u : PassState) → get_elem? vs seat ≡ some v → u.headers.held ≡ v.headers.held
    → ((F : Cover → ℕ) → sum_now z m (set vs seat u) F ≡ sum_now z m vs F) → ((k : ℕ) → history_now (set vs seat u) k ≡ history_now vs k) → LoadedStand (history_now vs) u.knowledge → KeysStand z m (set vs seat u)
keys_learned z m vs keys seat v u here held sums same lives = keys_counted z m vs keys seat v u here held sums same lives m.headers.pin (λ h. refl) (λ h. refl)
