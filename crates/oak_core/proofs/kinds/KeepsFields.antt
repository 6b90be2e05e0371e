-- The points on keys, and with them, behind the steps on headers that neither lock nor end a lock, and pin none: no key has its state by the words that they change.
use Rattle.std.proofs.Common.{◌≡◌, ℕ, ◌+◌, ◌-◌, ◌*◌, ◌%◌, ◌^◌, ◌<◌, ◌==◌, cond, List, ◌∷◌, map, set, get_or, sym, refl, ap, ◌∙◌, subst, arith}
use mathlib.Core.Option.{some}
use lib.ListN.{get_elem?}
use prog.Atomic.{either}
use Rattle.pin_word.specs.PinWord.{state_of, generation_of, STATE}
use Rattle.pin_word.proofs.StepLaws.{pin_down, state_set, state_up}
use Rattle.oak_model.specs.Counts.{put}
use Rattle.oak_model.specs.Limits.{Sizes}
use Rattle.oak_model.proofs.Counting.{total_at, decided}
use Rattle.oak_model.proofs.Lists.{at_map, map_set_same, each_map_list}
use Rattle.oak_model.proofs.MemberLaws.{each_in}
use Rattle.oak_model.proofs.PutLaws.{put-same}
use Rattle.arena_core.specs.Place.{content}
use Rattle.header_core.specs.declared.states.TheConstants.{FREE, OWNED, LIVE, LOCKED, DEAD}
use Rattle.header_core.specs.declared.holds.HeldAs.{HeldAs}
use Rattle.header_core.specs.declared.holds.HeldAs.TheVariants.{Owned, Fresh, Locked, Buried}
use Rattle.header_core.specs.declared.holds.HeldHeader.{HeldHeader}
use Rattle.header_core.specs.Headers.{at_pin}
use Rattle.header_core.specs.HeaderHolds.{in_state, held_state, pins_on, without_header}
use Rattle.header_core.specs.HeaderRule.{stocked}
use Rattle.header_core.specs.HeaderStep.{HeaderStep, claim_header, store_place, store_stamp, change_place, open_header, pin_header, unpin_header, release_header, lock_header, unlock_header, mark_dead, take_back, header_spot, header_effect, IsFreeWord, MayRelease, freshened, owned_at}
use Rattle.header_core.proofs.HeaderFacts.{held_one, held_once}
use Rattle.header_core.proofs.HeaderLaws.{unstocked}
use Rattle.header_core.proofs.HeldChanges.{rows_freshened-live, rows_freshened-else, rows_freshened-others, rows_without-here, rows_without-others, each_without}
use Rattle.header_core.proofs.PinWordChanges.{state_off}
use Rattle.header_core.proofs.StockedStates.{stocked_high}
use Rattle.oak_core.specs.declared.states.Knowledge.{Knowledge}
use Rattle.oak_core.specs.declared.states.PassState.{PassState}
use Rattle.oak_core.specs.HeaderTeaching.{knows_by_header}
use Rattle.oak_core.specs.KeyStates.{HoldStands}
use Rattle.oak_core.specs.Memory.{Memory, in_headers, index, memory, write}
use Rattle.oak_core.specs.PassState.{headers_held, knowledge_of, history}
use Rattle.oak_core.specs.Rule.{Rule}
use Rattle.oak_core.specs.Step.{MayOnHeaders, on_headers, state_after}
use Rattle.oak_core.specs.TableState.{TableState}
use Rattle.oak_core.proofs.held.HeaderStanding.{stand, at_headers, small_pin, knows}
use Rattle.oak_core.proofs.owners.HeaderSums.{held_in_state}
use Rattle.arena_core.specs.Place.{IsPlace}
use Rattle.oak_core.proofs.held.HeldFields.{owned_unnamed, owned_not_fresh, owned_not_buried, unnamed_freshened-others}
use Rattle.oak_core.proofs.keyed.KeyBundles.{KeyBundles, keys_now, keys_framed, bundles_kept, rooms_still}
use Rattle.oak_core.proofs.keyed.KeysAfter.{KeysAfter, after_idle, pin_still}
use Rattle.oak_core.proofs.keyed.KeysCounted.{keys_counted}
use Rattle.oak_core.proofs.lessons.LessonRanges.{heard_covers}
use Rattle.oak_core.proofs.owners.OwnedAndKept.{state_is}
use Rattle.oak_core.proofs.known.PinsKnown.{pins_same}
use Rattle.oak_core.proofs.held.UnnamedHeaders.{unnamed_le, unnamed_without-others}
use Rattle.oak_core.proofs.memory.Words.{memory_read}
use Rattle.oak_core.proofs.keyed.StoredFields.{FieldBundles, place_fields, stamp_fields, change_fields}
use Rattle.oak_core.proofs.keyed.UnnamedBundles.{held_so, not_so, not_buried, unnamed_bundles}

-- a step of one of these kinds
abbrev pub IsQuiet : HeaderStep → Type 0
IsQuiet (pin_header h g) = ⊥
IsQuiet (lock_header h old) = ⊥
IsQuiet (unlock_header h kind) = ⊥
IsQuiet (mark_dead h) = ⊥
IsQuiet (take_back h x) = ⊥
IsQuiet _ = Unit {0}

-- it teaches its pass nothing
pub quiet_knowledge : (call : ℕ) (m : Memory) (qs : List Knowledge) (v : PassState) (x : HeaderStep) → IsQuiet x → knows_by_header call x m qs v ≡ v.knowledge
quiet_knowledge call m qs v (claim_header h old) is = refl
quiet_knowledge call m qs v (store_place h x) is = refl
quiet_knowledge call m qs v (store_stamp h x) is = refl
quiet_knowledge call m qs v (change_place h x) is = refl
quiet_knowledge call m qs v (open_header h) is = refl
quiet_knowledge call m qs v (pin_header h g) is = absurd is
quiet_knowledge call m qs v (unpin_header h) is = refl
quiet_knowledge call m qs v (release_header h t) is = refl
quiet_knowledge call m qs v (lock_header h old) is = absurd is
quiet_knowledge call m qs v (unlock_header h kind) is = absurd is
quiet_knowledge call m qs v (mark_dead h) is = absurd is
quiet_knowledge call m qs v (take_back h x) is = absurd is

module _ (z : Sizes) (s : TableState) (seat : ℕ) (v : PassState) (r : Rule z s) (here : get_elem? s.states seat ≡ some v) where
  abbrev m : Memory
  m = memory z s.words

  module _ (call : ℕ) where
    claim_fields : (h old : ℕ) → IsFreeWord old → FieldBundles z s call seat v (claim_header h old)
    claim_fields h old word = decided (m.headers.pin h) old (λ t. KeyBundles z (write m (in_headers (at_pin h)) (either t (old + STATE) (m.headers.pin h))) (set s.states seat (record (state_after z call (on_headers (claim_header h old)) s v) { headers = record v.headers { held = cond t (owned_at m.headers h ∷ v.headers.held) v.headers.held } })))
        (λ hit. let up = state_set old (let f = word.state in omega arith) in let was : state_of (m.headers.pin h) ≡ FREE = ap state_of hit ∙ word.state in let now : state_of (old + STATE) ≡ OWNED = (let f = word.state in let u = up.1 in omega arith) in
        let a = unstocked (state_of (m.headers.pin h)) (omega arith) in let b = unstocked (state_of (old + STATE)) (omega arith) in let n = not_so z s seat v r here h LIVE (omega arith) (omega arith) (λ e. omega arith) in
        unnamed_bundles z s seat v r here h (old + STATE) (record (state_after z call (on_headers (claim_header h old)) s v) { headers = record v.headers { held = owned_at m.headers h ∷ v.headers.held } }) refl refl refl refl (omega arith) (up.2 ∙ ap generation_of (sym hit)) (λ e. omega arith)
        (let f = owned_not_fresh m.headers h h v.headers.held in let d = owned_not_buried m.headers h h v.headers.held in omega arith)
        (λ j _. let f = owned_not_fresh m.headers h j v.headers.held in let d = owned_not_buried m.headers h j v.headers.held in omega arith)
        (λ _ _ p. (refl, p)))
        (λ _. keys_framed z m (write m (in_headers (at_pin h)) (m.headers.pin h)) s.states seat v (record (state_after z call (on_headers (claim_header h old)) s v) { headers = v.headers }) here (keys_now z s r) (rooms_still z m s.states seat v (record (state_after z call (on_headers (claim_header h old)) s v) { headers = v.headers }) here refl) refl refl
        (λ j. put-same m.headers.pin h (m.headers.pin h) (λ y. y) refl j) (λ _ _. refl) (λ _ _. refl) (λ _. refl) (λ _. refl) (λ _ _ p. p) (pins_same v (record (state_after z call (on_headers (claim_header h old)) s v) { headers = v.headers }) refl refl (r.heard.pins seat v here)))

    open_fields : (h : ℕ) → 0 < in_state h OWNED v.headers → FieldBundles z s call seat v (open_header h)
    open_fields h own = let w : PassState = state_after z call (on_headers (open_header h)) s v in let words : List ℕ = content m.arena.bytes (m.headers.place h) in let was = state_is z s seat v r here h OWNED (omega arith) (omega arith) own in
        let up = state_up (m.headers.pin h) (omega arith) (small_pin z s seat v r here h) in let x : ℕ = (m.headers.pin h + STATE) % 2 ^ 64 in let now : state_of x ≡ LIVE = (let u = up.1 in omega arith) in
        let a = unstocked (state_of (m.headers.pin h)) (omega arith) in let b = stocked_high (state_of x) (omega arith) (omega arith) in let n = not_so z s seat v r here h LIVE (omega arith) (omega arith) (λ e. omega arith) in
        unnamed_bundles z s seat v r here h x w refl refl refl refl (omega arith) up.2 (λ e. omega arith)
        (let f = rows_freshened-live h words v.headers.held in let one = held_one m.headers (content m.arena.bytes) IsPlace (knows s) (map headers_held s.states) (stand z s seat v r here) seat v.headers h OWNED (at_headers z s seat v r here) own in
        let d = not_buried z s seat v r here h (λ e. omega arith) in let l = unnamed_le h (freshened h words v.headers.held) in let e = rows_freshened-else h DEAD words v.headers.held (λ e. omega arith) in omega arith)
        (λ j ne. let f = rows_freshened-others h j LIVE words v.headers.held ne in let d = unnamed_freshened-others h j words v.headers.held ne in omega arith)
        (λ word hist p. each_map_list (λ (q : HeldHeader). record q { held_as = cond (q.header == h) Fresh q.held_as; words = cond (q.header == h) words q.words }) (λ (q : HeldHeader). HoldStands word hist q.held_as q) v.headers.held
        (each_in (λ (q : HeldHeader). HoldStands word hist q.held_as q) (λ (q : HeldHeader). HoldStands word hist (cond (q.header == h) Fresh q.held_as) (record q { held_as = cond (q.header == h) Fresh q.held_as; words = cond (q.header == h) words q.words })) v.headers.held
        (λ q has y. decided q.header h (λ t. HoldStands word hist (cond t Fresh q.held_as) (record q { held_as = cond t Fresh q.held_as; words = cond t words q.words }))
        (λ e. owned_unnamed word hist q.held_as q (sym (held_so z s seat v r here q has) ∙ (ap (λ (i : ℕ). state_of (m.headers.pin i)) e ∙ was)) y) (λ _. y)) p))

    -- a header that is held so becomes free
    released : (h : ℕ) (t : HeldAs) → 0 < in_state h (held_state t) v.headers → held_state t < LOCKED → stocked (state_of (m.headers.pin h)) ≡ in_state h LIVE v.headers → FieldBundles z s call seat v (release_header h t)
    released h t own low free = let w : PassState = state_after z call (on_headers (release_header h t)) s v in let b = held_in_state t in let was = state_is z s seat v r here h (held_state t) b.0 b.1 own in
        let down = state_off t (m.headers.pin h) was (small_pin z s seat v r here h) in let x : ℕ = (m.headers.pin h + (2 ^ 64 - held_state t * STATE)) % 2 ^ 64 in let now : state_of x ≡ FREE = down.1 in
        unnamed_bundles z s seat v r here h x w refl refl refl refl free down.2 (λ e. omega arith)
        (let f = rows_without-here h LIVE v.headers.held in let d = not_buried z s seat v r here h (λ e. omega arith) in let l = unnamed_le h (without_header h v.headers.held) in let e = rows_without-here h DEAD v.headers.held in let u = unstocked (state_of x) (omega arith) in omega arith)
        (λ j ne. let f = rows_without-others h j LIVE v.headers.held ne in let d = unnamed_without-others h j v.headers.held ne in omega arith)
        (λ word hist p. each_without (λ (q : HeldHeader). HoldStands word hist q.held_as q) h v.headers.held p)

    release_fields : (h : ℕ) (t : HeldAs) → 0 < in_state h (held_state t) v.headers → MayRelease t v.headers → FieldBundles z s call seat v (release_header h t)
    release_fields h Owned own may = released h Owned own (omega arith) (let was = state_is z s seat v r here h OWNED (omega arith) (omega arith) own in let a = unstocked (state_of (m.headers.pin h)) (omega arith) in let n = not_so z s seat v r here h LIVE (omega arith) (omega arith) (λ e. omega arith) in omega arith)
    release_fields h Fresh own may = released h Fresh own (omega arith) (let was = state_is z s seat v r here h LIVE (omega arith) (omega arith) own in let a = stocked_high (state_of (m.headers.pin h)) (omega arith) (omega arith) in
        let n = (held_once m.headers (content m.arena.bytes) IsPlace (knows s) (map headers_held s.states) (stand z s seat v r here) seat v.headers h LIVE (at_headers z s seat v r here) (omega arith) (omega arith) own).0 in omega arith)
    release_fields h (Locked at) own may = absurd may
    release_fields h Buried own may = absurd may

    unpin_fields : (h : ℕ) → pins_on h v.headers ≡ 1 → FieldBundles z s call seat v (unpin_header h)
    unpin_fields h one = let w : PassState = state_after z call (on_headers (unpin_header h)) s v in let x : ℕ = (m.headers.pin h + (2 ^ 64 - 1)) % 2 ^ 64 in
        let down = pin_down (m.headers.pin h) (let c = r.headers.counted h in let t = total_at (pins_on h) (map headers_held s.states) seat v.headers (at_headers z s seat v r here) in omega arith) (small_pin z s seat v r here h) in
        bundles_kept z m (write m (in_headers (at_pin h)) x) s.states seat v w here (keys_now z s r) (rooms_still z m s.states seat v w here refl) refl refl (λ k. ap (history k) (map_set_same knowledge_of s.states seat v w here refl)) (pin_still m.headers h x (λ d. sym down.1 ∙ d) down.2)
        (keys_counted z m s.states r.keys seat v w here refl (rooms_still z m s.states seat v w here refl) (λ k. ap (history k) (map_set_same knowledge_of s.states seat v w here refl)) (r.keys.loaded seat v.knowledge (at_map knowledge_of s.states seat v here)) (put m.headers.pin h x)
        (put-same m.headers.pin h x state_of down.1) (put-same m.headers.pin h x generation_of down.2))
        (heard_covers z m (write m (in_headers (at_pin h)) x) s.states seat v w here r.heard refl record { removed = tt } (rooms_still z m s.states seat v w here refl))

    -- one clause for each kind
    pub quiet_fields : (x : HeaderStep) → IsQuiet x → MayOnHeaders z x v → FieldBundles z s call seat v x
    quiet_fields (claim_header h old) is may = claim_fields h old may.headers
    quiet_fields (store_place h x) is may = place_fields z s seat v r here call h x may.headers.0
    quiet_fields (store_stamp h x) is may = stamp_fields z s seat v r here call h x may.headers.0
    quiet_fields (change_place h x) is may = change_fields z s seat v r here call h x may.headers.0
    quiet_fields (open_header h) is may = open_fields h may.headers
    quiet_fields (pin_header h g) is may = absurd is
    quiet_fields (unpin_header h) is may = unpin_fields h may.headers
    quiet_fields (release_header h t) is may = release_fields h t may.headers.0 may.headers.1
    quiet_fields (lock_header h old) is may = absurd is
    quiet_fields (unlock_header h kind) is may = absurd is
    quiet_fields (mark_dead h) is may = absurd is
    quiet_fields (take_back h x) is may = absurd is

    pub field_bundles : (x : HeaderStep) → IsQuiet x → MayOnHeaders z x v → let n = get_or s.words (index z (in_headers (header_spot x))) 0 in KeyBundles z (write (memory z s.words) (in_headers (header_spot x)) (header_effect x n)) (set s.states seat (state_after z call (on_headers x) s v))
    field_bundles x is may = subst (λ (n : ℕ). KeyBundles z (write m (in_headers (header_spot x)) (header_effect x n)) (set s.states seat (state_after z call (on_headers x) s v))) (memory_read z s.words (in_headers (header_spot x)) may.inside) (quiet_fields x is may)

    -- with what its pass knows
    pub field_after : (x : HeaderStep) → IsQuiet x → MayOnHeaders z x v → let n = get_or s.words (index z (in_headers (header_spot x))) 0 in KeysAfter z s seat v r here (write (memory z s.words) (in_headers (header_spot x)) (header_effect x n)) (state_after z call (on_headers x) s v)
    field_after x is may = let n : ℕ = get_or s.words (index z (in_headers (header_spot x))) 0 in after_idle z s seat v r here (write m (in_headers (header_spot x)) (header_effect x n)) (state_after z call (on_headers x) s v) (quiet_knowledge call m (map knowledge_of s.states) v x is) (field_bundles x is may)
