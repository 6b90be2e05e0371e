-- What stands of keys, their histories and what the pass knows once it has ended a lock: by giving the header up, changed or as it was, or by marking it dead.
use Rattle.std.proofs.Common.{◌≡◌, ℕ, ◌+◌, ◌-◌, ◌%◌, ◌^◌, ◌<◌, ◌≤◌, false, List, map, set, sym, refl, ap, ◌∙◌, subst, arith, Some}
use mathlib.Core.Logic.{dite}
use mathlib.Core.Option.{some}
use native.Mathlib.Decide.{ℕ_discrete}
use lib.ListN.{get_elem?}
use Rattle.pin_word.specs.PinWord.{state_of, generation_of, STATE}
use Rattle.pin_word.proofs.StepLaws.{state_up, state_down}
use Rattle.oak_model.specs.Counts.{one_at, total, Has}
use Rattle.oak_model.specs.History.{IsWriteOn}
use Rattle.oak_model.specs.Kept.{AreTrueTo}
use Rattle.oak_model.specs.KeyNumber.{key_number}
use Rattle.oak_model.specs.Limits.{Sizes}
use Rattle.oak_model.specs.declared.writes.Kind.{Kind}
use Rattle.oak_model.proofs.Counting.{total_set, total_snoc}
use Rattle.oak_model.proofs.Lists.{at_map}
use Rattle.arena_core.specs.Arena.{read_arena}
use Rattle.arena_core.specs.HeldBlocks.{kept_of_blocks}
use Rattle.header_core.specs.HeaderHolds.{in_state, held_state, kept_of_headers, without_header}
use Rattle.header_core.specs.HeaderRule.{stocked}
use Rattle.header_core.specs.HeaderStep.{unlock_header, mark_dead, header_effect, buried_at}
use Rattle.header_core.specs.Headers.{at_pin, read_header}
use Rattle.header_core.specs.declared.holds.AtLock.{AtLock}
use Rattle.header_core.specs.declared.holds.HeaderHolds.{HeaderHolds}
use Rattle.header_core.specs.declared.holds.HeldAs.TheVariants.{Locked}
use Rattle.header_core.specs.declared.holds.HeldHeader.{HeldHeader}
use Rattle.header_core.specs.declared.states.TheConstants.{LIVE, LOCKED, DEAD}
use Rattle.oak_core.specs.declared.states.Findings.{Findings}
use Rattle.oak_core.specs.declared.states.KeyedWrite.{KeyedWrite}
use Rattle.oak_core.specs.declared.states.Knowledge.{Knowledge}
use Rattle.oak_core.specs.declared.states.PassState.{PassState}
use Rattle.oak_core.specs.Bounds.{HasOpened}
use Rattle.oak_core.specs.Callers.{made_of, removes}
use Rattle.oak_core.specs.EntryOwners.{is_key_word}
use Rattle.oak_core.specs.HeaderTeaching.{knows_by_header}
use Rattle.oak_core.specs.KeyReads.{value_in, shown_by, home_of}
use Rattle.oak_core.specs.KeyRule.{KeysStand}
use Rattle.oak_core.specs.Learning.{wrote}
use Rattle.oak_core.specs.MadeWrites.{held_header, over_write, removal}
use Rattle.oak_core.specs.MayWrite.{IsNewCall, MayUnlock, MayBury, EndsLock}
use Rattle.oak_core.specs.Memory.{Memory, in_headers, memory, write}
use Rattle.oak_core.specs.Owners.{HeadersAreWhole, header_blocks}
use Rattle.oak_core.specs.PassState.{rooted, numbers_of, headers_held, knowledge_of}
use Rattle.oak_core.specs.Rule.{Rule}
use Rattle.oak_core.specs.Step.{MayOnHeaders}
use Rattle.oak_core.specs.TableState.{TableState}
use Rattle.oak_core.proofs.held.HeaderStanding.{small_pin, parts, at_headers}
use Rattle.oak_core.proofs.held.HeldTruths.{held_names, held_stamp, held_shown}
use Rattle.oak_core.proofs.kinds.KeepsLocks.{low_header}
use Rattle.oak_core.proofs.keyed.KeyBundles.{keys_now, bundles_kept, rooms_still, opened_kept}
use Rattle.oak_core.proofs.keyed.KeysAfter.{KeysAfter, after_idle, pin_still}
use Rattle.oak_core.proofs.known.KnowledgeAfter.{removal_knowledge, changed_knowledge, unchanged_knowledge}
use Rattle.oak_core.proofs.histories.KnownWrites.{knows_wrote}
use Rattle.oak_core.proofs.lessons.LessonRanges.{history_left, covers_left}
use Rattle.oak_core.proofs.owners.OwnedAndKept.{state_is}
use Rattle.oak_core.proofs.covers.SetsValue.{held_row}
use Rattle.oak_core.proofs.keyed.UnchangedLocks.{keys_given_up}
use Rattle.oak_core.proofs.histories.WritesCounted.{roots_once}
use Rattle.oak_core.proofs.histories.WritesLocked as ends

module _ (z : Sizes) (s : TableState) (seat : ℕ) (v : PassState) (r : Rule z s) (here : get_elem? s.states seat ≡ some v) (going : v.numbers.spent ≡ false) (call : ℕ) (fs : Findings) where
  abbrev m : Memory
  m = memory z s.words

  abbrev qs : List Knowledge
  qs = map knowledge_of s.states

  -- a pass that makes a write more, of those that remove one more where this one does
  made_more : (k : ℕ) (w : KeyedWrite) (u : PassState) → u.numbers ≡ v.numbers → u.knowledge ≡ wrote k w (map knowledge_of s.states) v.knowledge → total (made_of removes) (set s.states seat u) ≡ total (made_of removes) s.states + removes w
  made_more k w u numbers knowledge = let t = total_set (made_of removes) s.states seat v u here in let n = total_snoc removes v.knowledge.mine w in let e : made_of removes u ≡ made_of removes (record v { knowledge = wrote k w qs v.knowledge }) = (λ i. made_of removes (record v { knowledge = knowledge i; numbers = numbers i })) in omega arith

  module _ (own : HeldHeader) (held : held_header own.header v.headers.held ≡ Some own) (at : AtLock) (locked : own.held_as ≡ Locked at) (inside : own.header < z.headers) (some_of : 0 < in_state own.header LOCKED v.headers) where
    has : Has own v.headers.held
    has = (held_row own.header v.headers.held own held).0

    low : own.header < 2 ^ 31
    low = low_header z r.sizes own.header inside

    abbrev numbers : AreTrueTo (read_header m.headers) (kept_of_headers v.headers.held)
    numbers = (parts z s seat v r here).headers

    abbrev blocks : AreTrueTo (read_arena m.arena) (kept_of_blocks (header_blocks v.headers.held))
    blocks = (parts z s seat v r here).within

    abbrev whole : HeadersAreWhole v.headers
    whole = (r.passes seat v here).whole

    is_locked : state_of (m.headers.pin own.header) ≡ LOCKED
    is_locked = state_is z s seat v r here own.header LOCKED (omega arith) (omega arith) some_of

    abbrev given_up : ℕ
    given_up = (m.headers.pin own.header + (2 ^ 64 - STATE)) % 2 ^ 64

    abbrev dead : ℕ
    dead = (m.headers.pin own.header + STATE) % 2 ^ 64

    down : (state_of given_up ≡ LIVE) × (generation_of given_up ≡ generation_of (m.headers.pin own.header))
    down = let d = state_down (m.headers.pin own.header) (let l = is_locked in omega arith) (small_pin z s seat v r here own.header) in ((let e = d.1 in let l = is_locked in omega arith), d.2)

    up : (state_of dead ≡ DEAD) × (generation_of dead ≡ generation_of (m.headers.pin own.header))
    up = let d = state_up (m.headers.pin own.header) (let l = is_locked in omega arith) (small_pin z s seat v r here own.header) in ((let e = d.1 in let l = is_locked in omega arith), d.2)

    abbrev without : HeaderHolds
    without = record v.headers { held = without_header own.header v.headers.held }

    abbrev Left : ℕ → Knowledge → HeaderHolds → Type 0
    Left y q a = KeysAfter z s seat v r here (write m (in_headers (at_pin own.header)) y) (record v { findings = fs; knowledge = q; headers = a })

    shown : Some (value_in own.place own.words) ≡ shown_by m own.header
    unfolding one_at
    shown = held_shown m qs (map headers_held s.states) r.headers seat v.headers (at_headers z s seat v r here) own has numbers (is_locked ∙ sym (ap held_state locked)) (subst (λ (t : ℕ). 0 < stocked t) (sym (ap held_state locked)) some_block) whole blocks
      where
        some_block : 0 < stocked LOCKED
        some_block = omega arith

    -- as it was at the lock
    still : own.place ≡ at.place → own.words ≡ at.words → own.stamp ≡ at.stamp → Left given_up v.knowledge without
    still place words stamp = let w : PassState = record v { findings = fs; headers = without } in let m' : Memory = write m (in_headers (at_pin own.header)) given_up in let stay = rooms_still z m s.states seat v w here refl in
        after_idle z s seat v r here m' w refl (bundles_kept z m m' s.states seat v w here (keys_now z s r) stay refl refl (history_left z m m' s.states seat v w here r.heard refl) (pin_still m.headers own.header given_up (λ d. absurd (let l = down.0 in omega arith)) down.1)
        (keys_given_up z m is_key_word s.states r.covers r.keys r.headers seat v w here refl refl own has at locked (held_names m qs (map headers_held s.states) r.headers seat v.headers (at_headers z s seat v r here) own has low (small_pin z s seat v r here own.header)) refl
        (held_stamp m qs (map headers_held s.states) r.headers seat v.headers (at_headers z s seat v r here) own has numbers ∙ stamp) ((λ i. Some (value_in (sym place i) (sym words i))) ∙ shown) given_up down.1 down.0)
        (covers_left z m m' s.states seat v w here r.heard refl refl refl stay))

    -- with a write
    module _ (next : own.stamp ≡ at.stamp + 1) (new : IsNewCall call v) where
      roots : (i : ℕ) → total (rooted i) (map numbers_of s.states) ≤ 1
      roots = roots_once z m.given (map numbers_of s.states) r.numbers

      small : (j : ℕ) → m.headers.pin j < 2 ^ 64
      small = small_pin z s seat v r here

      wrote_after : (y : ℕ) → generation_of y ≡ generation_of (m.headers.pin own.header) → (w : KeyedWrite) → w.key ≡ own.key → w.home ≡ home_of own.header own.generation → w.inserts ≡ false → w.write.stamp ≡ own.stamp → w.write.caller ≡ v.numbers.number → w.write.call ≡ call → (a : HeaderHolds) → a.pin ≡ v.headers.pin
          → (let u = record v { findings = fs; knowledge = wrote (key_number own.key) w (map knowledge_of s.states) v.knowledge; headers = a } in let m' = write m (in_headers (at_pin own.header)) y in KeysStand z m' (set s.states seat u) → HasOpened z m' (set s.states seat u) → Left y u.knowledge a)
      wrote_after y generation w key home inserts stamp caller made_in a pin keys opened = let u : PassState = record v { findings = fs; knowledge = wrote (key_number own.key) w qs v.knowledge; headers = a } in record {
        histories = ends.histories_locked z m s.states r.covers r.keys r.callers r.histories r.headers r.heard r.bounds roots seat v here going call own has at locked inside low small numbers blocks whole next new y generation fs w key home inserts stamp caller made_in u refl refl pin refl;
        known_same = ends.known_locked z m s.states r.covers r.keys r.callers r.histories r.headers r.heard r.bounds roots seat v here going call own has at locked inside low small numbers blocks whole next new y generation fs w key home inserts stamp caller made_in u refl refl pin refl;
        more = knows_wrote qs seat v.knowledge (at_map knowledge_of s.states seat v here) (key_number own.key) w;
        keys = ends.bundles_locked z m s.states r.covers r.keys r.callers r.histories r.headers r.heard r.bounds roots seat v here going call own has at locked inside low small numbers blocks whole next new y generation fs w key home inserts stamp caller made_in u refl refl pin refl keys opened;
      }

      -- of the bytes that the header has
      changed : (kind : Kind) → IsWriteOn (Some (value_in at.place at.words)) (over_write v.numbers.number call kind own).write → Left given_up (wrote (key_number own.key) (over_write v.numbers.number call kind own) qs v.knowledge) without
      changed kind on = let w : KeyedWrite = over_write v.numbers.number call kind own in let u : PassState = record v { findings = fs; knowledge = wrote (key_number own.key) w qs v.knowledge; headers = without } in
          wrote_after given_up down.1 w refl refl refl refl refl refl without refl
          (ends.keys_unlocked z m s.states r.covers r.keys r.callers r.histories r.headers r.heard r.bounds roots seat v here going call own has at locked inside low small numbers blocks whole next new given_up down.1 fs kind down.0 on)
          (opened_kept z m (write m (in_headers (at_pin own.header)) given_up) s.states (set s.states seat u) (pin_still m.headers own.header given_up (λ d. absurd (let l = down.0 in omega arith)) down.1) (λ none. let t = made_more (key_number own.key) w u refl refl in omega arith) r.opened)

      -- of its removal
      removed : Left dead (wrote (key_number own.key) (removal v.numbers.number call own) qs v.knowledge) (record v.headers { held = buried_at own.header v.headers.held })
      removed = let w : KeyedWrite = removal v.numbers.number call own in let a : HeaderHolds = record v.headers { held = buried_at own.header v.headers.held } in let u : PassState = record v { findings = fs; knowledge = wrote (key_number own.key) w qs v.knowledge; headers = a } in
          wrote_after dead up.1 w refl refl refl refl refl refl a refl
          (ends.keys_buried z m s.states r.covers r.keys r.callers r.histories r.headers r.heard r.bounds roots seat v here going call own has at locked inside low small numbers blocks whole next new dead up.1 fs up.0)
          (record { generation = r.opened.generation; early = r.opened.early; until = λ none. absurd (let t = made_more (key_number own.key) w u refl refl in omega arith) })

  -- a lock is given up
  pub unlock_after : (h : ℕ) (kind : Kind) → MayOnHeaders z (unlock_header h kind) v → EndsLock h (λ at q. MayUnlock call kind at q v) v.headers → KeysAfter z s seat v r here (write m (in_headers (at_pin h)) (header_effect (unlock_header h kind) (m.headers.pin h)))
      (record v { findings = fs; knowledge = knows_by_header call (unlock_header h kind) m (map knowledge_of s.states) v; headers = record v.headers { held = without_header h v.headers.held } })
  unlock_after h kind may e = let same = (held_row h v.headers.held e.header e.held).1 in
      subst (λ (j : ℕ). KeysAfter z s seat v r here (write m (in_headers (at_pin j)) ((m.headers.pin j + (2 ^ 64 - STATE)) % 2 ^ 64)) (record v { findings = fs; knowledge = knows_by_header call (unlock_header j kind) m qs v; headers = record v.headers { held = without_header j v.headers.held } })) same
      (own_after e.header (subst (λ (j : ℕ). held_header j v.headers.held ≡ Some e.header) (sym same) e.held) e.at e.locked (subst (λ (j : ℕ). j < z.headers) (sym same) may.inside) (subst (λ (j : ℕ). 0 < in_state j LOCKED v.headers) (sym same) may.headers) e.may)
    where
      own_after : (own : HeldHeader) → held_header own.header v.headers.held ≡ Some own → (at : AtLock) → own.held_as ≡ Locked at → own.header < z.headers → 0 < in_state own.header LOCKED v.headers → MayUnlock call kind at own v
          → KeysAfter z s seat v r here (write m (in_headers (at_pin own.header)) ((m.headers.pin own.header + (2 ^ 64 - STATE)) % 2 ^ 64)) (record v { findings = fs; knowledge = knows_by_header call (unlock_header own.header kind) m qs v; headers = record v.headers { held = without_header own.header v.headers.held } })
      own_after own held at locked inside some_of may = dite (ℕ_discrete own.stamp at.stamp)
          (λ e. subst (λ (q : Knowledge). Left own held at locked inside some_of (given_up own held at locked inside some_of) q (without own held at locked inside some_of)) (sym (unchanged_knowledge call m qs v own.header own held kind at locked e))
          (still own held at locked inside some_of (may.still e).0 (may.still e).1 e))
          (λ ne. subst (λ (q : Knowledge). Left own held at locked inside some_of (given_up own held at locked inside some_of) q (without own held at locked inside some_of)) (sym (changed_knowledge call m qs v own.header own held kind at locked ne))
          (changed own held at locked inside some_of (may.next ne) (may.new ne) kind (may.writes ne)))

  -- a locked header is marked dead
  pub bury_after : (h : ℕ) → MayOnHeaders z (mark_dead h) v → EndsLock h (λ at q. MayBury call at q v) v.headers → KeysAfter z s seat v r here (write m (in_headers (at_pin h)) (header_effect (mark_dead h) (m.headers.pin h)))
      (record v { findings = fs; knowledge = knows_by_header call (mark_dead h) m (map knowledge_of s.states) v; headers = record v.headers { held = buried_at h v.headers.held } })
  bury_after h may e = let same = (held_row h v.headers.held e.header e.held).1 in
      subst (λ (j : ℕ). KeysAfter z s seat v r here (write m (in_headers (at_pin j)) ((m.headers.pin j + STATE) % 2 ^ 64)) (record v { findings = fs; knowledge = knows_by_header call (mark_dead j) m qs v; headers = record v.headers { held = buried_at j v.headers.held } })) same
      (own_after e.header (subst (λ (j : ℕ). held_header j v.headers.held ≡ Some e.header) (sym same) e.held) e.at e.locked (subst (λ (j : ℕ). j < z.headers) (sym same) may.inside) (subst (λ (j : ℕ). 0 < in_state j LOCKED v.headers) (sym same) may.headers) e.may)
    where
      own_after : (own : HeldHeader) → held_header own.header v.headers.held ≡ Some own → (at : AtLock) → own.held_as ≡ Locked at → own.header < z.headers → 0 < in_state own.header LOCKED v.headers → MayBury call at own v
          → KeysAfter z s seat v r here (write m (in_headers (at_pin own.header)) ((m.headers.pin own.header + STATE) % 2 ^ 64)) (record v { findings = fs; knowledge = knows_by_header call (mark_dead own.header) m qs v; headers = record v.headers { held = buried_at own.header v.headers.held } })
      own_after own held at locked inside some_of may = subst (λ (q : Knowledge). Left own held at locked inside some_of (dead own held at locked inside some_of) q (record v.headers { held = buried_at own.header v.headers.held })) (sym (removal_knowledge call m qs v own.header own held))
          (removed own held at locked inside some_of may.next may.new)
