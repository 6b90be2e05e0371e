-- The holder of a lock ends it with a write, by giving the header up changed or by marking it dead: by what the step asks of it, and the points before it, all points on keys, histories, lessons, callers and bounds stand behind it.
use Rattle.std.proofs.Common.{◌≡◌, ◌≢◌, ℕ, ◌+◌, ◌*◌, ◌^◌, ◌<◌, ◌≤◌, true, false, List, [], ◌∷◌, ◌++◌, map, set, sym, refl, ap, ◌∙◌, subst, inl, inr, arith, Some}
use mathlib.Core.Logic.{dite}
use mathlib.Core.Option.{some}
use native.Mathlib.Decide.{ℕ_discrete}
use lib.ListN.{get_elem?}
use Rattle.pin_word.specs.PinWord.{state_of, generation_of}
use Rattle.oak_model.specs.Counts.{one_at, total, Has, Each}
use Rattle.oak_model.specs.History.{IsWriteOn, StampsRise}
use Rattle.oak_model.specs.Kept.{AreTrueTo}
use Rattle.oak_model.specs.KeyNumber.{key_number}
use Rattle.oak_model.specs.Limits.{Sizes}
use Rattle.oak_model.specs.declared.writes.Kind.{Kind}
use Rattle.oak_model.proofs.Counting.{one_at-true}
use Rattle.oak_model.proofs.Lists.{at_map, map_set, map_set_same}
use Rattle.oak_model.proofs.MemberLaws.{each_has}
use Rattle.arena_core.specs.Arena.{read_arena}
use Rattle.arena_core.specs.HeldBlocks.{kept_of_blocks}
use Rattle.arena_core.specs.Place.{IsPlace, content}
use Rattle.header_core.specs.HeaderHolds.{kept_of_headers, held_state, without_header}
use Rattle.header_core.specs.HeaderRule.{stocked}
use Rattle.header_core.specs.HeaderStep.{buried_at, put_header}
use Rattle.header_core.specs.Headers.{read_header, at_pin}
use Rattle.header_core.specs.declared.holds.AtLock.{AtLock}
use Rattle.header_core.specs.declared.holds.HeldAs.{HeldAs}
use Rattle.header_core.specs.declared.holds.HeldAs.TheVariants.{Locked}
use Rattle.header_core.specs.declared.holds.HeldHeader.{HeldHeader}
use Rattle.header_core.specs.declared.states.TheConstants.{LIVE, LOCKED, DEAD}
use Rattle.header_core.proofs.HeaderFacts.{held_is, locked_known}
use Rattle.header_core.proofs.HeldHeaders.{held_in, rows_have}
use Rattle.chunk_core.specs.CoverRule.{CoversPartition}
use Rattle.chunk_core.specs.CoverSums.{all_of}
use Rattle.chunk_core.specs.ValueWord.{names_life, names_header, header_in, generation_in}
use Rattle.chunk_core.specs.declared.holds.RoomHolds.{RoomHolds}
use Rattle.oak_core.specs.declared.states.Findings.{Findings}
use Rattle.oak_core.specs.declared.states.KeyedWrite.{KeyedWrite}
use Rattle.oak_core.specs.declared.states.Knowledge.{Knowledge}
use Rattle.oak_core.specs.declared.states.PassState.{PassState}
use Rattle.oak_core.specs.Bounds.{BasesBound, HasOpened}
use Rattle.oak_core.specs.Callers.{CallersAgree, made_by}
use Rattle.oak_core.specs.EntryOwners.{is_key_word}
use Rattle.oak_core.specs.KeyHistories.{writes_of}
use Rattle.oak_core.specs.KeyReads.{value_in, word_now, history_now, shown_by, home_of}
use Rattle.oak_core.specs.KeyRule.{KeysStand}
use Rattle.oak_core.specs.KeyStates.{IsLockOf, HoldStands}
use Rattle.oak_core.specs.Known.{known}
use Rattle.oak_core.specs.Learning.{wrote}
use Rattle.oak_core.specs.Lessons.{HeardStands}
use Rattle.oak_core.specs.MadeWrites.{over_write, removal}
use Rattle.oak_core.specs.MayWrite.{IsNewCall}
use Rattle.oak_core.specs.Memory.{Memory}
use Rattle.oak_core.specs.Owners.{HeadersAreHeld, HeadersAreWhole, header_blocks}
use Rattle.oak_core.specs.PassState.{rooted, numbers_of, rooms_held, headers_held, knowledge_of, history}
use Rattle.oak_core.specs.Rule.{HistoriesStand}
use Rattle.oak_core.proofs.histories.BoundSteps.{bases_locked}
use Rattle.oak_core.proofs.histories.CallerWrites.{callers_wrote, made_one}
use Rattle.oak_core.proofs.held.HeldTruths.{held_names, held_only, held_stamp, held_shown}
use Rattle.oak_core.proofs.memory.HomeWords.{NamesAt}
use Rattle.oak_core.proofs.keyed.KeyBundles.{KeyBundles}
use Rattle.oak_core.proofs.histories.KnownWrites.{known_after, known_new}
use Rattle.oak_core.proofs.held.LocksEnded.{unlocked_fresh, unlocked_unnamed, unlocked_holds, buried_fresh, buried_unnamed, buried_holds}
use Rattle.oak_core.proofs.histories.WrittenHistories.{wrote_here, wrote_others, wrote_stand}
use Rattle.oak_core.proofs.lessons.WrittenLessons.{lock_heard}
use Rattle.oak_model.specs.declared.cells.CellCall.TheVariants as calls
use Rattle.oak_core.proofs.histories.LockedWrites as writes

-- what a pass that writes of a life that is known lets be known is what was
pub known_written : (qs : List Knowledge) (i : ℕ) (q : Knowledge) → get_elem? qs i ≡ some q → (k : ℕ) (w : KeyedWrite) (h g : ℕ) → NamesAt h g → w.home ≡ home_of h g → known qs h g ≡ 1 → (j n : ℕ) → known (set qs i (wrote k w qs q)) j n ≡ known qs j n
known_written qs i q at k w h g named home knows j n = dite (ℕ_discrete (names_life j n w.home) 0) (λ e. known_after qs i q at k w j n e)
    (λ ne. let b = known_new qs i q at k w j n (omega arith) in let s = both (names_header w.home) (one_at (header_in w.home) j) (one_at (generation_in w.home) n) (λ z. ne z) in
    let hj : h ≡ j = sym named.header ∙ (ap header_in (sym home) ∙ one_at-true (header_in w.home) j s.0) in let gn : g ≡ n = sym named.generation ∙ (ap generation_in (sym home) ∙ one_at-true (generation_in w.home) n s.1) in
    b ∙ sym ((λ t. known qs (sym hj t) (sym gn t)) ∙ knows))
  where
    both : (a b c : ℕ) → a * b * c ≢ 0 → (0 < b) × (0 < c)
    both a b c ne = (dite (ℕ_discrete b 0) (λ e. absurd (ne (ap (λ (t : ℕ). a * t * c) e ∙ nothing a c))) (λ n. omega arith), dite (ℕ_discrete c 0) (λ e. absurd (ne (ap (λ (t : ℕ). a * b * t) e ∙ none (a * b)))) (λ n. omega arith))
      where
        nothing : (a c : ℕ) → a * 0 * c ≡ 0
        nothing a c = grind arith

        none : (a : ℕ) → a * 0 ≡ 0
        none a = omega arith

-- a removal writes, on each value
pub removal_writes : (b : List ℕ) (caller call : ℕ) (r : HeldHeader) → IsWriteOn (Some b) (removal caller call r).write
removal_writes b caller call r = record { ask = calls.Remove; kind = refl; writes = refl; after = refl }

module _ (z : Sizes) (m : Memory) (vs : List PassState) (parts : CoversPartition z m.rooms (content m.arena.bytes) is_key_word (map rooms_held vs)) (keys : KeysStand z m vs) (callers : CallersAgree vs) (histories : HistoriesStand (map knowledge_of vs))
    (heads : HeadersAreHeld m.headers m.arena.bytes (known (map knowledge_of vs)) (map headers_held vs)) (heard : HeardStands z m vs) (bases : BasesBound z m vs) (roots : (i : ℕ) → total (rooted i) (map numbers_of vs) ≤ 1)
    (seat : ℕ) (v : PassState) (here : get_elem? vs seat ≡ some v) (going : v.numbers.spent ≡ false) (call : ℕ) (own : HeldHeader) (has : Has own v.headers.held) (at : AtLock) (locked : own.held_as ≡ Locked at)
    (inside : own.header < z.headers) (low : own.header < 2 ^ 31) (small : (j : ℕ) → m.headers.pin j < 2 ^ 64) (numbers : AreTrueTo (read_header m.headers) (kept_of_headers v.headers.held)) (blocks : AreTrueTo (read_arena m.arena) (kept_of_blocks (header_blocks v.headers.held))) (whole : HeadersAreWhole v.headers)
    (next : own.stamp ≡ at.stamp + 1) (new : IsNewCall call v) (x : ℕ) (generation : generation_of x ≡ generation_of (m.headers.pin own.header)) (fs : Findings) where
  abbrev qs : List Knowledge
  qs = map knowledge_of vs

  h_here : get_elem? (map headers_held vs) seat ≡ some v.headers
  h_here = at_map headers_held vs seat v here

  q_here : get_elem? qs seat ≡ some v.knowledge
  q_here = at_map knowledge_of vs seat v here

  one : held_in own.header v.headers.held ≡ 1
  one = held_only m qs (map headers_held vs) heads seat v.headers h_here own has

  named_at : NamesAt own.header own.generation
  named_at = held_names m qs (map headers_held vs) heads seat v.headers h_here own has low (small own.header)

  is_locked : state_of (m.headers.pin own.header) ≡ LOCKED
  is_locked = held_is m.headers (content m.arena.bytes) IsPlace (known qs) (map headers_held vs) heads seat v.headers own.header LOCKED h_here (omega arith) (omega arith) (rows_have own.header LOCKED v.headers.held own has refl (ap held_state locked))

  stamp_is : m.headers.stamp own.header ≡ own.stamp
  stamp_is = held_stamp m qs (map headers_held vs) heads seat v.headers h_here own has numbers

  shown : Some (value_in own.place own.words) ≡ shown_by m own.header
  unfolding one_at
  shown = held_shown m qs (map headers_held vs) heads seat v.headers h_here own has numbers (is_locked ∙ sym (ap held_state locked)) (subst (λ (s : ℕ). 0 < stocked s) (sym (ap held_state locked)) some_block) whole blocks
    where
      some_block : 0 < stocked LOCKED
      some_block = omega arith

  lock : IsLockOf (word_now z m vs) (history_now vs) at own
  lock = subst (λ (s : HeldAs). HoldStands (word_now z m vs) (history_now vs) s own) locked (each_has (λ (t : HeldHeader). HoldStands (word_now z m vs) (history_now vs) t.held_as t) v.headers.held own (keys.locks seat v.headers h_here) has)

  pub lock_known : known (map knowledge_of vs) own.header (generation_of (m.headers.pin own.header)) ≡ 1
  lock_known = locked_known m.headers (content m.arena.bytes) IsPlace (known qs) (map headers_held vs) heads seat v.headers own.header LOCKED h_here (omega arith) (omega arith) (rows_have own.header LOCKED v.headers.held own has refl (ap held_state locked))

  -- what both leave: a write of the lock's key, with the stamp at the lock plus one
  module _ (w : KeyedWrite) (key : w.key ≡ own.key) (home : w.home ≡ home_of own.header own.generation) (inserts : w.inserts ≡ false) (stamp : w.write.stamp ≡ own.stamp) (caller : w.write.caller ≡ v.numbers.number) (made_in : w.write.call ≡ call)
      (u : PassState) (same_numbers : u.numbers ≡ v.numbers) (rooms : u.rooms ≡ v.rooms) (pin : u.headers.pin ≡ v.headers.pin) (knowledge : u.knowledge ≡ wrote (key_number own.key) w (map knowledge_of vs) v.knowledge) where
    new_call : Each (λ (y : KeyedWrite). y.write.call < w.write.call) v.knowledge.mine
    new_call = subst (λ (n : ℕ). Each (λ (y : KeyedWrite). y.write.call < n) v.knowledge.mine) (sym made_in) new.1

    small_call : w.write.call < 2 ^ 32
    small_call = subst (λ (n : ℕ). n < 2 ^ 32) (sym made_in) new.0

    no_begin : true ≡ false → ⊥
    no_begin e = cc

    pub callers_locked : CallersAgree (set vs seat u)
    callers_locked = callers_wrote vs callers histories roots seat v here going (key_number own.key) w (ap key_number key) u same_numbers knowledge caller new_call small_call (λ _ e. absurd (no_begin (sym e ∙ inserts)))

    pub made_locked : total made_by (set vs seat u) ≡ total made_by vs + 1
    made_locked = made_one vs callers histories roots seat v here going (key_number own.key) w (ap key_number key) u same_numbers knowledge caller new_call small_call (λ _ e. absurd (no_begin (sym e ∙ inserts)))

    qs_is : map knowledge_of (set vs seat u) ≡ set qs seat (wrote (key_number own.key) w qs v.knowledge)
    qs_is = map_set knowledge_of vs seat u ∙ ap (λ (q : Knowledge). set qs seat q) knowledge

    pub histories_locked : HistoriesStand (map knowledge_of (set vs seat u))
    histories_locked = subst HistoriesStand (sym qs_is) (wrote_stand qs histories seat v.knowledge q_here (key_number own.key) w (ap key_number key))

    hist_here : history_now (set vs seat u) (key_number own.key) ≡ history_now vs (key_number own.key) ++ w ∷ []
    hist_here = ap (history (key_number own.key)) qs_is ∙ wrote_here qs histories seat v.knowledge q_here (key_number own.key) w (ap key_number key)

    hist_else : (j : ℕ) → j ≢ key_number own.key → history_now (set vs seat u) j ≡ history_now vs j
    hist_else j ne = ap (history j) qs_is ∙ wrote_others qs histories seat v.knowledge q_here (key_number own.key) w (ap key_number key) j ne

    pub bounds_locked : BasesBound z (record m { headers = put_header m.headers (at_pin own.header) x }) (set vs seat u)
    bounds_locked = bases_locked z m (record m { headers = put_header m.headers (at_pin own.header) x }) vs (set vs seat u) bases made_locked (key_number own.key) w hist_here hist_else (let s = lock.stamp in omega arith)
        (λ F. ap (λ (hs : List RoomHolds). all_of z m.rooms (content m.arena.bytes) hs F) (map_set_same rooms_held vs seat v u here rooms))

    pub heard_locked : ((j : ℕ) → StampsRise 0 (writes_of (history_now (set vs seat u) j))) → HeardStands z (record m { headers = put_header m.headers (at_pin own.header) x }) (set vs seat u)
    heard_locked rise = lock_heard z m (record m { headers = put_header m.headers (at_pin own.header) x }) refl refl vs histories heard seat v u here rooms pin w own at lock named_at.names (ap key_number key) (let e = next in omega arith) knowledge rise

    -- so all stands, where that on keys does, and what is said of the opening
    pub bundles_locked : KeysStand z (record m { headers = put_header m.headers (at_pin own.header) x }) (set vs seat u) → HasOpened z (record m { headers = put_header m.headers (at_pin own.header) x }) (set vs seat u) → KeyBundles z (record m { headers = put_header m.headers (at_pin own.header) x }) (set vs seat u)
    bundles_locked keys_then opened = record { keys = keys_then; callers = callers_locked; bounds = bounds_locked; opened = opened; heard = heard_locked (λ j. (keys_then.legal j).legal.stamps) }

    -- no pass comes to know another header by it
    pub known_locked : (h g : ℕ) → known (map knowledge_of (set vs seat u)) h g ≡ known (map knowledge_of vs) h g
    known_locked h g = ap (λ (ks : List Knowledge). known ks h g) qs_is ∙ known_written qs seat v.knowledge q_here (key_number own.key) w own.header own.generation named_at home
        (ap (known qs own.header) (sym (each_has (λ (t : HeldHeader). generation_of (m.headers.pin t.header) ≡ t.generation) v.headers.held own (heads.generations seat v.headers h_here) has)) ∙ lock_known) h g

  -- a changed header is given up
  module _ (kind : Kind) (live : state_of x ≡ LIVE) (on : IsWriteOn (Some (value_in at.place at.words)) (over_write v.numbers.number call kind own).write) where
    abbrev pub u_unlocked : PassState
    u_unlocked = record v { findings = fs; knowledge = wrote (key_number own.key) (over_write v.numbers.number call kind own) (map knowledge_of vs) v.knowledge; headers = record v.headers { held = without_header own.header v.headers.held } }

    pub keys_unlocked : KeysStand z (record m { headers = put_header m.headers (at_pin own.header) x }) (set vs seat u_unlocked)
    keys_unlocked = writes.write_keys z m is_key_word vs parts keys histories heads seat v here fs own has at locked named_at inside small next stamp_is x generation (inl live) (over_write v.numbers.number call kind own) refl refl refl refl (λ _. shown) (λ d. absurd (omega arith)) on
        (without_header own.header v.headers.held) (unlocked_fresh v.headers own has one at locked) (unlocked_unnamed v.headers own has one at locked) (λ word hist e _. unlocked_holds v.headers own has one word hist e)

  -- it is marked dead
  module _ (dead : state_of x ≡ DEAD) where
    abbrev pub u_buried : PassState
    u_buried = record v { findings = fs; knowledge = wrote (key_number own.key) (removal v.numbers.number call own) (map knowledge_of vs) v.knowledge; headers = record v.headers { held = buried_at own.header v.headers.held } }

    pub keys_buried : KeysStand z (record m { headers = put_header m.headers (at_pin own.header) x }) (set vs seat u_buried)
    keys_buried = writes.write_keys z m is_key_word vs parts keys histories heads seat v here fs own has at locked named_at inside small next stamp_is x generation (inr dead) (removal v.numbers.number call own) refl refl refl refl (λ l. absurd (omega arith)) (λ _. refl) (removal_writes (value_in at.place at.words) v.numbers.number call own)
        (buried_at own.header v.headers.held) (buried_fresh v.headers own has one at locked) (buried_unnamed v.headers own has one lock.flag) (λ word hist e d. buried_holds v.headers own has one word hist e (d dead))
