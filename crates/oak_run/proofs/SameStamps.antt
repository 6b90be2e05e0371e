-- Two moments at which a pass that is alone had left the same words: of a key that was there no write came between them.
use Rattle.std.proofs.Common.{◌≡◌, ℕ, ◌+◌, ◌*◌, ◌<◌, ◌≤◌, List, [], ◌∷◌, ◌++◌, length, length-append, map, Some, sym, refl, ap, ◌∙◌, subst, arith}
use mathlib.Core.Logic.{dite}
use mathlib.Core.Option.{some}
use native.Mathlib.Decide.{ℕ_discrete}
use lib.ListN.{get_elem?}
use Rattle.pin_word.specs.PinWord.{generation_of, state_of}
use Rattle.oak_model.specs.Counts.{Has, one_at, total}
use Rattle.oak_model.specs.History.{StampsRise}
use Rattle.oak_model.specs.KeyNumber.{key_number}
use Rattle.oak_model.specs.Limits.{Sizes}
use Rattle.oak_model.proofs.Counting.{one_at-cases, one_at-other, one_at-same, one_at-true, total_map}
use Rattle.oak_model.proofs.Lists.{at_map}
use Rattle.oak_model.proofs.MemberLaws.{each_has}
use Rattle.oak_model.proofs.RowLaws.{total_le}
use Rattle.header_core.specs.declared.holds.AtLock.{AtLock}
use Rattle.header_core.specs.declared.holds.HeaderHolds.{HeaderHolds}
use Rattle.header_core.specs.declared.holds.HeldAs.{HeldAs}
use Rattle.header_core.specs.declared.holds.HeldAs.TheVariants.{Owned, Fresh, Locked, Buried}
use Rattle.header_core.specs.declared.holds.HeldHeader.{HeldHeader}
use Rattle.header_core.specs.declared.states.TheConstants.{LIVE, LOCKED, DEAD}
use Rattle.header_core.specs.HeaderHolds.{held_state, in_state}
use Rattle.header_core.specs.HeaderRule.{stocked}
use Rattle.header_core.proofs.HeldHeaders.{row_of, total_alone}
use Rattle.chunk_core.specs.ValueWord.{generation_in, header_in, names_header, names_life}
use Rattle.chunk_core.proofs.ValueWords.{none_named}
use Rattle.oak_core.specs.declared.states.KeyedWrite.{KeyedWrite}
use Rattle.oak_core.specs.declared.states.PassState.{PassState}
use Rattle.oak_core.specs.AloneWords.{LeavesWords}
use Rattle.oak_core.specs.KeyHistories.{home_behind, homes_in, last_of, stamp_behind, state_behind, writes_of}
use Rattle.oak_core.specs.KeyReads.{history_now, home_of, shown_by, word_now}
use Rattle.oak_core.specs.KeyStates.{HoldStands, IsHome, IsLockOf}
use Rattle.oak_core.specs.Known.{known, lives_in}
use Rattle.oak_core.specs.Memory.{Memory, memory}
use Rattle.oak_core.specs.PassState.{Extends, IsAlone, headers_held, knowledge_of, seen_of, spent_state}
use Rattle.oak_core.proofs.seats.Alone.{others_are}
use Rattle.oak_core.proofs.histories.HomeKeys.{home_key, last_home}
use Rattle.oak_core.proofs.memory.HomeWords.{home_is}
use Rattle.oak_core.proofs.histories.KnownWrites.{history_known}
use Rattle.point_ops.specs.LoneReplies.{SeesWhole}
use Rattle.oak_run.proofs.HomeLives.{last_on}
use Rattle.oak_run.proofs.SameTables.{at_words, left_before, none_some, present, same_word}

-- ---- later stamps are greater

stamps_second : (n : ℕ) (a b : List KeyedWrite) → StampsRise n (writes_of (a ++ b)) → StampsRise (last_of (λ (w : KeyedWrite). w.write.stamp) n a) (writes_of b)
unfolding last_of
stamps_second n [] b rise = rise
stamps_second n (x ∷ xs) b rise = stamps_second x.write.stamp xs b rise.1

last_above : (n : ℕ) (b : List KeyedWrite) → StampsRise n (writes_of b) → n ≤ last_of (λ (w : KeyedWrite). w.write.stamp) n b
unfolding last_of
last_above n [] rise = omega arith
last_above n (x ∷ xs) rise = let first = rise.0 in let rest = last_above x.write.stamp xs rise.1 in omega arith

-- where the last stamp is the same nothing was added
same_last : (a b : List KeyedWrite) → StampsRise 0 (writes_of (a ++ b)) → stamp_behind (a ++ b) ≡ stamp_behind a → length b ≡ 0
unfolding last_of
same_last a [] rise same = refl
same_last a (x ∷ xs) rise same = let r = stamps_second 0 a (x ∷ xs) rise in let first = r.0 in let rest = last_above x.write.stamp xs r.1 in let all = last_on (λ (w : KeyedWrite). w.write.stamp) 0 a (x ∷ xs) in absurd (omega arith)

-- ---- a header that an entry names

one_life : (g : ℕ) → names_header g ≡ 1 → names_life (header_in g) (generation_in g) g ≡ 1
one_life g names = one (names_header g) (one_at (header_in g) (header_in g)) (one_at (generation_in g) (generation_in g)) names (one_at-same (header_in g) (header_in g) refl) (one_at-same (generation_in g) (generation_in g) refl)
  where
    one : (a b c : ℕ) → a ≡ 1 → b ≡ 1 → c ≡ 1 → a * b * c ≡ 1
    one a b c e f d = grind arith

homes_live : (g : ℕ) (l : List KeyedWrite) → names_header g ≡ 1 → homes_in g l ≤ lives_in (header_in g) (generation_in g) l
homes_live g l names = total_le (λ (w : KeyedWrite). one_at w.home g) (λ (w : KeyedWrite). names_life (header_in g) (generation_in g) w.home) l each
  where
    each : (w : KeyedWrite) → one_at w.home g ≤ names_life (header_in g) (generation_in g) w.home
    each w = one_at-cases w.home g (λ (n : ℕ). n ≤ names_life (header_in g) (generation_in g) w.home) (λ same. let a = ap (names_life (header_in g) (generation_in g)) same in let b = one_life g names in omega arith) (λ _. omega arith)

as_locked : (s : HeldAs) → held_state s ≡ LOCKED → (at : AtLock) × (s ≡ Locked at)
as_locked Owned e = absurd (omega arith)
as_locked Fresh e = absurd (omega arith)
as_locked (Locked at) e = (at, refl)
as_locked Buried e = absurd (omega arith)

spent_locks : (h : ℕ) → in_state h LOCKED spent_state.headers ≡ 0
unfolding total
spent_locks h = refl

-- that of a key, at a moment at which the pass is alone
module _ (z : Sizes) (k : ℕ) (v : PassState) (n : SeesWhole z v) (g : ℕ) (names : names_header g ≡ 1) (word : word_now z (memory z n.words) n.moment.states k ≡ g + 1) where
  abbrev mem : Memory
  mem = memory z n.words

  abbrev hist : ℕ → List KeyedWrite
  hist = history_now n.moment.states

  abbrev state : ℕ
  state = state_of (mem.headers.pin (header_in g))

  pub home : IsHome z mem.headers (shown_by mem) g (hist k)
  home = (n.moment.rule.keys.states k).named g word names

  there : (j : ℕ) → home_behind (hist j) ≡ g → 0 < homes_in g (hist j)
  there j e = last_home g 0 (hist j) (λ q. none_named g names q) e

  pub has_block : 0 < stocked state
  has_block =
      let a = there k home.home in
      let b = homes_live g (hist k) names in
      let known_then : known (map knowledge_of n.moment.states) (header_in g) (generation_in g) ≡ 1 = history_known (header_in g) (generation_in g) k (map knowledge_of n.moment.states) (omega arith) in
      let known_now = ap (known (map knowledge_of n.moment.states) (header_in g)) home.generation ∙ known_then in
      let s = n.moment.rule.headers.settled (header_in g) in omega arith

  -- where it is locked, the pass has the lock
  pub has_lock : IsAlone v → state ≡ LOCKED → (r : HeldHeader) × Has r v.headers.held × (r.header ≡ header_in g) × (held_state r.held_as ≡ LOCKED)
  has_lock alone locked =
      let held = n.moment.rule.headers.held (header_in g) LOCKED (omega arith) (omega arith) (λ e. absurd (omega arith)) in
      let one = one_at-same state LOCKED locked in
      let parts = total_map headers_held (in_state (header_in g) LOCKED) n.moment.states in
      let own = total_alone (λ (y : PassState). in_state (header_in g) LOCKED y.headers) n.moment.states n.moment.seat v n.moment.here
      (λ j y at ne. ap (λ (x : PassState). in_state (header_in g) LOCKED x.headers) (others_are z record { words = n.words; states = n.moment.states } n.moment.rule n.moment.seat v n.moment.here alone j y ne at) ∙ spent_locks (header_in g)) in
      row_of (header_in g) LOCKED v.headers.held (omega arith)

  -- and the lock has the last stamp of the key
  pub lock_stamp : (r : HeldHeader) (at : AtLock) → Has r v.headers.held → r.header ≡ header_in g → r.held_as ≡ Locked at → stamp_behind (hist k) ≡ at.stamp
  lock_stamp r at has header locked =
      let here : get_elem? (map headers_held n.moment.states) n.moment.seat ≡ some v.headers = at_map headers_held n.moment.states n.moment.seat v n.moment.here in
      let holds = each_has (λ (x : HeldHeader). HoldStands (word_now z mem n.moment.states) hist x.held_as x) v.headers.held r (n.moment.rule.keys.locks n.moment.seat v.headers here) has in
      let lock : IsLockOf (word_now z mem n.moment.states) hist at r = subst (λ (s : HeldAs). HoldStands (word_now z mem n.moment.states) hist s r) locked holds in
      let generation = each_has (λ (x : HeldHeader). generation_of (mem.headers.pin x.header) ≡ x.generation) v.headers.held r (n.moment.rule.headers.generations n.moment.seat v.headers here) has in
      let same : home_of r.header r.generation ≡ g = (λ j. home_of (header j) ((sym generation ∙ (ap (λ (h : ℕ). generation_of (mem.headers.pin h)) header ∙ home.generation)) j)) ∙ home_is g names in
      let other : home_behind (hist (key_number r.key)) ≡ g = ((n.moment.rule.keys.states (key_number r.key)).named g (lock.named ∙ ap (λ (t : ℕ). t + 1) same) names).home in
      let key : k ≡ key_number r.key = home_key n.moment.states n.moment.rule.callers n.moment.rule.keys.legal g k (key_number r.key) names (there k home.home) (there (key_number r.key) other) in
      ap (λ (j : ℕ). stamp_behind (hist j)) key ∙ lock.stamp

-- ---- from one to the other

module _ (z : Sizes) (k : ℕ) (v u : PassState) (words old : List ℕ) (rooms : u.rooms ≡ v.rooms) (headers : u.headers ≡ v.headers) (seen : Extends v u) (met : u.findings.met ≡ v.findings.met) (left : LeavesWords words u) (a : SeesWhole z v) (b : SeesWhole z u) (holds : state_behind (seen_of k v.knowledge) ≡ Some old) where
  was_left : LeavesWords words v
  was_left = left_before v u words met left

  first : (g : ℕ) × (word_now z (memory z a.words) a.moment.states k ≡ g + 1) × (names_header g ≡ 1) × (home_behind (history_now a.moment.states k) ≡ g)
  first = present z (memory z a.words).headers (shown_by (memory z a.words)) _ (word_now z (memory z a.words) a.moment.states k) (history_now a.moment.states k) old (a.moment.rule.keys.states k) (ap state_behind (a.whole k) ∙ holds)

  same_stamps : (g : ℕ) → names_header g ≡ 1 → word_now z (memory z a.words) a.moment.states k ≡ g + 1 → stamp_behind (history_now a.moment.states k) ≡ stamp_behind (history_now b.moment.states k)
  same_stamps g names word =
      let p = at_words z words v a was_left in
      let q = at_words z words u b left in
      let same : a.words ≡ b.words = p.0 ∙ sym q.0 in
      let pin : state_of ((memory z a.words).headers.pin (header_in g)) ≡ state_of ((memory z b.words).headers.pin (header_in g)) = ap (λ (ws : List ℕ). state_of ((memory z ws).headers.pin (header_in g))) same in
      let then = sym (same_word z k v u words rooms was_left left a b) ∙ word in
      let there = home z k v a g names word in
      let here = home z k u b g names then in
      dite (ℕ_discrete (state_of ((memory z a.words).headers.pin (header_in g))) LIVE)
      (λ live. (there.live live).1 ∙ (ap (λ (ws : List ℕ). (memory z ws).headers.stamp (header_in g)) same ∙ sym (here.live (sym pin ∙ live)).1))
      (λ not_live. dite (ℕ_discrete (state_of ((memory z a.words).headers.pin (header_in g))) DEAD)
      (λ dead. absurd (none_some (state_behind (history_now a.moment.states k)) old (there.dead dead).0 (ap state_behind (a.whole k) ∙ holds)))
      (λ not_dead.
      let stocked_there = has_block z k v a g names word in
      let no_live = one_at-other (state_of ((memory z a.words).headers.pin (header_in g))) LIVE not_live in
      let no_dead = one_at-other (state_of ((memory z a.words).headers.pin (header_in g))) DEAD not_dead in
      let locked : state_of ((memory z a.words).headers.pin (header_in g)) ≡ LOCKED = one_at-true (state_of ((memory z a.words).headers.pin (header_in g))) LOCKED (omega arith) in
      let r = has_lock z k v a g names word p.1 locked in
      let s = as_locked r.0.held_as r.3 in
      lock_stamp z k v a g names word r.0 s.0 r.1 r.2 s.1
      ∙ sym (lock_stamp z k u b g names then r.0 s.0 (subst (λ (h : HeaderHolds). Has r.0 h.held) (sym headers) r.1) r.2 s.1)))

  pub none_wrote : length (seen_of k v.knowledge) < length (seen_of k u.knowledge) → ⊥
  none_wrote longer =
      let more : List KeyedWrite = (seen k).0 in
      let is : seen_of k u.knowledge ≡ seen_of k v.knowledge ++ more = (seen k).1 in
      let rise : StampsRise 0 (writes_of (seen_of k v.knowledge ++ more)) = subst (λ (h : List KeyedWrite). StampsRise 0 (writes_of h)) (b.whole k ∙ is) (b.moment.rule.keys.legal k).legal.stamps in
      let stamps = sym (ap stamp_behind (b.whole k ∙ is)) ∙ (sym (same_stamps first.0 first.2 first.1) ∙ ap stamp_behind (a.whole k)) in
      let none = same_last (seen_of k v.knowledge) more rise stamps in
      let all = ap length is ∙ length-append (seen_of k v.knowledge) more in omega arith
