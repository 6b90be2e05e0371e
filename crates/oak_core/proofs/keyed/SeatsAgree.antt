-- A split and a join keep the points on keys, callers and bounds, and what stands until the first removal: what the passes hold and wrote is put together otherwise, and no history changes.
use Rattle.std.proofs.Common.{◌≡◌, ◌≢◌, ℕ, ◌+◌, ◌<◌, ◌≤◌, cond, Bool, true, false, List, [], ◌∷◌, ◌++◌, map, length, set, sym, refl, ap, ◌∙◌, subst, arith}
use mathlib.Core.Option.{some}
use lib.ListN.{get_elem?}
use Rattle.oak_model.specs.Counts.{one_at, total, Each}
use Rattle.oak_model.specs.KeyNumber.{key_number}
use Rattle.oak_model.specs.Limits.{Sizes}
use Rattle.oak_model.proofs.Changes.{Change, divided, joined}
use Rattle.oak_model.proofs.Counting.{total_map, total_append}
use Rattle.oak_model.proofs.Lists.{at_map, at_unmap, each_map, each_append}
use Rattle.header_core.specs.HeaderHolds.{in_state, no_headers}
use Rattle.header_core.specs.declared.holds.HeaderHolds.{HeaderHolds}
use Rattle.header_core.specs.declared.holds.HeldHeader.{HeldHeader}
use Rattle.header_core.specs.declared.states.TheConstants.{LIVE}
use Rattle.chunk_core.specs.CoverSums.{each, naming, word_for, base_for}
use Rattle.chunk_core.specs.Covers.{Cover}
use Rattle.chunk_core.specs.ValueWord.{names_header}
use Rattle.oak_core.specs.declared.states.Joined.{Joined}
use Rattle.oak_core.specs.declared.states.KeyedWrite.{KeyedWrite}
use Rattle.oak_core.specs.declared.states.KnownLife.{KnownLife}
use Rattle.oak_core.specs.declared.states.PassState.{PassState}
use Rattle.oak_core.specs.Bounds.{BasesBound, HasOpened, floor_over, base_over}
use Rattle.oak_core.specs.Callers.{AreWritesOf, WritesStand, CallersAgree, of_caller, made_by, made_of, begins, removes}
use Rattle.oak_core.specs.KeyHistories.{IsKeyHistory, IsKeyOf, homes_in}
use Rattle.oak_core.specs.KeyReads.{word_now, base_now, history_now, sum_now, shown_by}
use Rattle.oak_core.specs.KeyRule.{KeysStand, LoadedStand, OverIsRemoved}
use Rattle.oak_core.specs.KeyStates.{HoldStands, unnamed}
use Rattle.oak_core.specs.Memory.{Memory}
use Rattle.oak_core.specs.PassState.{headers_held, knowledge_of, numbers_of, rooted, number_in, left_state, right_state, both_state, spent_state, of_key}
use Rattle.oak_core.proofs.histories.BoundWrites.{bases_kept}
use Rattle.oak_core.proofs.keyed.KeyBundles.{opened_kept}
use Rattle.oak_core.proofs.keyed.KeyFrames.{stands_same, hold_same, loaded_same}

-- passes go and come, and no entry and no history changes
module _ (z : Sizes) (m : Memory) (vs vs' gone fresh : List PassState) (c : Change vs vs' gone fresh) (sums : (F : Cover → ℕ) → sum_now z m vs' F ≡ sum_now z m vs F) (same : (k : ℕ) → history_now vs' k ≡ history_now vs k) where
  heads_same : (f : HeaderHolds → ℕ) → total (λ (v : PassState). f v.headers) fresh ≡ total (λ (v : PassState). f v.headers) gone → total f (map headers_held vs') ≡ total f (map headers_held vs)
  heads_same f e = let s = c.sums (λ (v : PassState). f v.headers) in let a = total_map headers_held f vs' in let b = total_map headers_held f vs in omega arith

  holds_on : (v : PassState) → Each (λ (r : HeldHeader). HoldStands (word_now z m vs) (history_now vs) r.held_as r) v.headers.held → Each (λ (r : HeldHeader). HoldStands (word_now z m vs') (history_now vs') r.held_as r) v.headers.held
  holds_on v p = each_map (λ (r : HeldHeader). HoldStands (word_now z m vs) (history_now vs) r.held_as r) (λ (r : HeldHeader). HoldStands (word_now z m vs') (history_now vs') r.held_as r) v.headers.held
      (λ r q. hold_same (word_now z m vs) (word_now z m vs') (history_now vs) (history_now vs') (λ k. sums (each (word_for k))) same r.held_as r q) p

  keys_moved : KeysStand z m vs → ((f : HeaderHolds → ℕ) → f no_headers ≡ 0 → total (λ (v : PassState). f v.headers) fresh ≡ total (λ (v : PassState). f v.headers) gone)
      → Each (λ (v : PassState). Each (λ (r : HeldHeader). HoldStands (word_now z m vs) (history_now vs) r.held_as r) v.headers.held) fresh → Each (λ (v : PassState). LoadedStand (history_now vs) v.knowledge) fresh → KeysStand z m vs'
  unfolding total
  keys_moved keys heads holds lives = record {
    named = λ h. let s = sums (each (naming h)) in let a = heads_same (in_state h LIVE) (heads (in_state h LIVE) refl) in let b = heads_same (unnamed h) (heads (unnamed h) refl) in let n = keys.named h in omega arith;
    states = λ k. stands_same z m.headers (shown_by m) (base_now z m vs k) (base_now z m vs' k) (word_now z m vs k) (word_now z m vs' k) (history_now vs k) (history_now vs' k) (sums (each (word_for k))) (same k) (let b = sums (base_for k) in omega arith) (keys.states k);
    locks = λ j a at. let t = at_unmap headers_held vs' j a at in subst (λ (b : HeaderHolds). Each (λ (r : HeldHeader). HoldStands (word_now z m vs') (history_now vs') r.held_as r) b.held) t.2 (holds_on t.0
        (c.every (λ (v : PassState). Each (λ (r : HeldHeader). HoldStands (word_now z m vs) (history_now vs) r.held_as r) v.headers.held) holds (λ i x _ there. keys.locks i x.headers (at_map headers_held vs i x there)) j t.0 t.1));
    legal = λ k. subst (IsKeyHistory k) (sym (same k)) (keys.legal k);
    over = λ k. subst (λ (l : List KeyedWrite). Each (OverIsRemoved m.headers.pin l) l) (sym (same k)) (keys.over k);
    loaded = λ j q at. let t = at_unmap knowledge_of vs' j q at in subst (LoadedStand (history_now vs')) t.2 (loaded_same (history_now vs) (history_now vs') same t.0.knowledge
        (c.every (λ (v : PassState). LoadedStand (history_now vs) v.knowledge) lives (λ i x _ there. keys.loaded i x.knowledge (at_map knowledge_of vs i x there)) j t.0 t.1));
  }

  stand_same : (v : PassState) → WritesStand (history_now vs) v → WritesStand (history_now vs') v
  stand_same v s = record {
    own = λ going. writes_same v.numbers.number v.knowledge.mine (s.own going);
    joined = each_map (λ (j : Joined). AreWritesOf (history_now vs) j.number j.mine) (λ (j : Joined). AreWritesOf (history_now vs') j.number j.mine) v.numbers.joined (λ j a. writes_same j.number j.mine a) s.joined;
  }
    where
      writes_same : (i : ℕ) (mine : List KeyedWrite) → AreWritesOf (history_now vs) i mine → AreWritesOf (history_now vs') i mine
      writes_same i mine a = record { same = λ k. ap (of_caller i) (same k) ∙ a.same k; rise = a.rise; small = a.small }

  callers_moved : CallersAgree vs → Each (WritesStand (history_now vs)) fresh → ((f : KeyedWrite → ℕ) → total (made_of f) fresh ≡ total (made_of f) gone) → ((i : ℕ) → total (λ (v : PassState). rooted i v.numbers) gone ≤ total (λ (v : PassState). rooted i v.numbers) fresh) → CallersAgree vs'
  callers_moved callers new made roots = record {
    writes = λ j v at. stand_same v (c.every (WritesStand (history_now vs)) new (λ i x _ there. callers.writes i x there) j v at);
    others = λ i k none. ap (of_caller i) (same k) ∙ callers.others i k (let s = c.sums (λ (v : PassState). rooted i v.numbers) in let a = total_map numbers_of (rooted i) vs' in let b = total_map numbers_of (rooted i) vs in let r = roots i in omega arith);
    distinct = λ x names. let d = callers.distinct x names in let s = c.sums (made_of (begins x)) in let e = made (begins x) in omega arith;
  }

  bounds_moved : BasesBound z m vs → total made_by fresh ≡ total made_by gone → BasesBound z m vs'
  bounds_moved bases made = bases_kept z m m vs vs' bases (let s = c.sums made_by in omega arith) same (let s = sums (each (floor_over (total made_by vs))) in omega arith) (let s = sums (base_over (total made_by vs)) in omega arith)

  opened_moved : HasOpened z m vs → ((f : KeyedWrite → ℕ) → total (made_of f) fresh ≡ total (made_of f) gone) → HasOpened z m vs'
  opened_moved opened made = opened_kept z m m vs vs' (record { dead = λ h e. e; generations = λ h. refl }) (λ none. let s = c.sums (made_of removes) in let e = made removes in omega arith) opened

-- a split
module _ (z : Sizes) (m : Memory) (vs : List PassState) (seat : ℕ) (v : PassState) (here : get_elem? vs seat ≡ some v) where
  module _ (sums : (F : Cover → ℕ) → sum_now z m (set vs seat (left_state v) ++ right_state v ∷ []) F ≡ sum_now z m vs F) (same : (k : ℕ) → history_now (set vs seat (left_state v) ++ right_state v ∷ []) k ≡ history_now vs k) where
    abbrev apart : Change vs (set vs seat (left_state v) ++ right_state v ∷ []) (v ∷ []) (left_state v ∷ right_state v ∷ [])
    apart = divided vs seat v (left_state v) (right_state v) here

    pub keys_split : KeysStand z m vs → KeysStand z m (set vs seat (left_state v) ++ right_state v ∷ [])
    unfolding total
    keys_split keys = keys_moved z m vs (set vs seat (left_state v) ++ right_state v ∷ []) (v ∷ []) (left_state v ∷ right_state v ∷ []) apart sums same keys (λ f e. omega arith)
        (keys.locks seat v.headers (at_map headers_held vs seat v here), (tt, tt)) (keys.loaded seat v.knowledge (at_map knowledge_of vs seat v here), (tt, tt))

    -- the number in hand is no pass's yet, so nobody made a write under it
    pub callers_split : CallersAgree vs → total (rooted (number_in v.numbers.hand)) (map numbers_of vs) ≡ 0 → CallersAgree (set vs seat (left_state v) ++ right_state v ∷ [])
    unfolding total of_key
    callers_split callers unrooted = callers_moved z m vs (set vs seat (left_state v) ++ right_state v ∷ []) (v ∷ []) (left_state v ∷ right_state v ∷ []) apart sums same callers
        (record { own = (callers.writes seat v here).own; joined = (callers.writes seat v here).joined }, (record { own = λ _. record { same = λ k. callers.others (number_in v.numbers.hand) k unrooted; rise = tt; small = tt }; joined = tt }, tt)) (λ f. omega arith) (λ i. omega arith)

    pub bounds_split : BasesBound z m vs → BasesBound z m (set vs seat (left_state v) ++ right_state v ∷ [])
    unfolding total
    bounds_split bases = bounds_moved z m vs (set vs seat (left_state v) ++ right_state v ∷ []) (v ∷ []) (left_state v ∷ right_state v ∷ []) apart sums same bases (omega arith)

    pub opened_split : HasOpened z m vs → HasOpened z m (set vs seat (left_state v) ++ right_state v ∷ [])
    unfolding total
    opened_split opened = opened_moved z m vs (set vs seat (left_state v) ++ right_state v ∷ []) (v ∷ []) (left_state v ∷ right_state v ∷ []) apart sums same opened (λ f. omega arith)

  -- a join
  module _ (other : ℕ) (w : PassState) (there : get_elem? vs other ≡ some w) (ne : other ≢ seat) (going : w.numbers.spent ≡ false) (idle : w.headers ≡ no_headers) (sums : (F : Cover → ℕ) → sum_now z m (set (set vs seat (both_state v w)) other spent_state) F ≡ sum_now z m vs F) (same : (k : ℕ) → history_now (set (set vs seat (both_state v w)) other spent_state) k ≡ history_now vs k) where
    abbrev together : Change vs (set (set vs seat (both_state v w)) other spent_state) (v ∷ w ∷ []) (both_state v w ∷ spent_state ∷ [])
    together = joined vs seat other v w (both_state v w) spent_state here there ne

    pub keys_join : KeysStand z m vs → KeysStand z m (set (set vs seat (both_state v w)) other spent_state)
    unfolding total
    keys_join keys = keys_moved z m vs (set (set vs seat (both_state v w)) other spent_state) (v ∷ w ∷ []) (both_state v w ∷ spent_state ∷ []) together sums same keys (λ f e. let i = ap f idle in omega arith)
        (keys.locks seat v.headers (at_map headers_held vs seat v here), (tt, tt))
        (each_append (λ (l : KnownLife). (names_header l.home ≡ 1) × (0 < homes_in l.home (history_now vs (key_number l.key))) × IsKeyOf (key_number l.key) l.key) v.knowledge.loaded w.knowledge.loaded (keys.loaded seat v.knowledge (at_map knowledge_of vs seat v here)) (keys.loaded other w.knowledge (at_map knowledge_of vs other w there)), (tt, tt))

    made_both : (f : KeyedWrite → ℕ) → made_of f (both_state v w) ≡ made_of f v + made_of f w
    unfolding total
    made_both f = let a = total_append (λ (j : Joined). total f j.mine) v.numbers.joined (record { number = w.numbers.number; mine = w.knowledge.mine; findings = w.findings } ∷ w.numbers.joined) in omega arith

    rooted_both : (i : ℕ) → rooted i (both_state v w).numbers ≡ rooted i v.numbers + rooted i w.numbers
    unfolding total
    rooted_both i = let a = total_append (λ (j : Joined). one_at j.number i) v.numbers.joined (record { number = w.numbers.number; mine = w.knowledge.mine; findings = w.findings } ∷ w.numbers.joined) in
        let e : cond w.numbers.spent 0 (one_at w.numbers.number i) ≡ one_at w.numbers.number i = ap (λ (t : Bool). cond t 0 (one_at w.numbers.number i)) going in omega arith

    pub callers_join : CallersAgree vs → CallersAgree (set (set vs seat (both_state v w)) other spent_state)
    unfolding total
    callers_join callers = let sv = callers.writes seat v here in let sw = callers.writes other w there in callers_moved z m vs (set (set vs seat (both_state v w)) other spent_state) (v ∷ w ∷ []) (both_state v w ∷ spent_state ∷ []) together sums same callers
        (record { own = sv.own; joined = each_append (λ (j : Joined). AreWritesOf (history_now vs) j.number j.mine) v.numbers.joined (record { number = w.numbers.number; mine = w.knowledge.mine; findings = w.findings } ∷ w.numbers.joined) sv.joined (sw.own going, sw.joined) }, (record { own = λ e. absurd (no_going e); joined = tt }, tt))
        (λ f. let b = made_both f in omega arith) (λ i. let b = rooted_both i in omega arith)
      where
        no_going : true ≡ false → ⊥
        no_going e = cc

    made_lengths : made_by (both_state v w) ≡ made_by v + made_by w
    unfolding total
    made_lengths = let a = total_append (λ (j : Joined). length j.mine) v.numbers.joined (record { number = w.numbers.number; mine = w.knowledge.mine; findings = w.findings } ∷ w.numbers.joined) in omega arith

    pub bounds_join : BasesBound z m vs → BasesBound z m (set (set vs seat (both_state v w)) other spent_state)
    unfolding total
    bounds_join bases = bounds_moved z m vs (set (set vs seat (both_state v w)) other spent_state) (v ∷ w ∷ []) (both_state v w ∷ spent_state ∷ []) together sums same bases (let l = made_lengths in omega arith)

    pub opened_join : HasOpened z m vs → HasOpened z m (set (set vs seat (both_state v w)) other spent_state)
    unfolding total
    opened_join opened = opened_moved z m vs (set (set vs seat (both_state v w)) other spent_state) (v ∷ w ∷ []) (both_state v w ∷ spent_state ∷ []) together sums same opened (λ f. let b = made_both f in omega arith)
