-- Steps by which no key's entry or history changes, and no base falls: pins, latches, freezes, holds, and whatever else leaves what is added up over the covers.
use Rattle.std.proofs.Common.{◌≡◌, ℕ, ◌≤◌, List, set, ap, arith}
use mathlib.Core.Option.{some}
use lib.ListN.{get_elem?}
use Rattle.oak_model.specs.Limits.{Sizes}
use Rattle.oak_model.proofs.Lists.{map_set_same}
use Rattle.chunk_core.specs.CoverSums.{each, word_for, base_for}
use Rattle.chunk_core.specs.Covers.{Cover}
use Rattle.oak_core.specs.declared.states.PassState.{PassState}
use Rattle.oak_core.specs.KeyReads.{sum_now, word_now, base_now, history_now}
use Rattle.oak_core.specs.Lessons.{PinsKnow, HeardStands}
use Rattle.oak_core.specs.Memory.{Memory}
use Rattle.oak_core.specs.PassState.{history, knowledge_of}
use Rattle.oak_core.proofs.lessons.HeardKeeps.{heard_idle}
use Rattle.oak_core.proofs.keyed.Levels.{level_framed}
use Rattle.oak_core.proofs.known.PinsKnown.{pins_same}

-- the pass of the seat learns nothing
module _ (z : Sizes) (m m' : Memory) (vs : List PassState) (seat : ℕ) (v u : PassState) (here : get_elem? vs seat ≡ some v) (heard : HeardStands z m vs) (knowledge : u.knowledge ≡ v.knowledge) where
  -- so no history changes
  pub history_left : (k : ℕ) → history_now (set vs seat u) k ≡ history_now vs k
  history_left k = ap (history k) (map_set_same knowledge_of vs seat v u here knowledge)

  -- it knows what its pins miss
  module _ (pins : PinsKnow u) where
    pub heard_framed : ((k : ℕ) → word_now z m' (set vs seat u) k ≡ word_now z m vs k) → ((k : ℕ) → base_now z m vs k ≤ base_now z m' (set vs seat u) k) → HeardStands z m' (set vs seat u)
    heard_framed ew le = heard_idle z m m' vs seat v u here heard (level_framed z m m' vs (set vs seat u) ew le history_left) knowledge pins

    -- nothing that is added up over covers changes
    pub heard_covers : ((F : Cover → ℕ) → sum_now z m' (set vs seat u) F ≡ sum_now z m vs F) → HeardStands z m' (set vs seat u)
    heard_covers same = heard_framed (λ k. same (each (word_for k))) (λ k. let e = same (base_for k) in omega arith)

  -- as it does where it has the pins that it had
  module _ (room : u.rooms.pin ≡ v.rooms.pin) (header : u.headers.pin ≡ v.headers.pin) where
    pins_left : PinsKnow u
    pins_left = pins_same v u header knowledge (heard.pins seat v here)

    pub heard_left : ((k : ℕ) → word_now z m' (set vs seat u) k ≡ word_now z m vs k) → ((k : ℕ) → base_now z m vs k ≤ base_now z m' (set vs seat u) k) → HeardStands z m' (set vs seat u)
    heard_left = heard_framed pins_left

    pub covers_left : ((F : Cover → ℕ) → sum_now z m' (set vs seat u) F ≡ sum_now z m vs F) → HeardStands z m' (set vs seat u)
    covers_left = heard_covers pins_left
