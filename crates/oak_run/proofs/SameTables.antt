-- Two moments at which a pass that is alone had left the same words: no key came to be between them.
use Rattle.std.proofs.Common.{◌≡◌, ℕ, zero, suc, ◌+◌, ◌*◌, ◌/◌, ◌^◌, ◌<◌, ◌≤◌, List, [], ◌∷◌, ◌++◌, length, map, Option, Some, None, sym, refl, ap, ◌∙◌, subst, append-nil, arith}
use mathlib.Core.Logic.{dite}
use native.Mathlib.Decide.{ℕ_discrete}
use Rattle.oak_model.specs.Counts.{below, total}
use Rattle.oak_model.specs.Limits.{Sizes}
use Rattle.oak_model.specs.State.{State}
use Rattle.oak_model.proofs.Counting.{one_at-le, total_append, total_map}
use Rattle.arena_core.specs.Place.{content}
use Rattle.header_core.specs.Headers.{HeaderMemory}
use Rattle.header_core.proofs.HeldHeaders.{total_alone}
use Rattle.chunk_core.specs.declared.holds.RoomHolds.{RoomHolds}
use Rattle.chunk_core.specs.Covers.{Cover, cover_at}
use Rattle.chunk_core.specs.CoverSums.{each, weight, word_for}
use Rattle.chunk_core.specs.ValueWord.{names_header}
use Rattle.chunk_core.proofs.CoverLaws.{covers_parts, moves}
use Rattle.chunk_core.proofs.ValueWords.{none_named}
use Rattle.oak_core.specs.declared.states.KeyedWrite.{KeyedWrite}
use Rattle.oak_core.specs.declared.states.PassState.{PassState}
use Rattle.oak_core.specs.AloneWords.{LeavesWords, Moment}
use Rattle.oak_core.specs.Callers.{begins}
use Rattle.oak_core.specs.KeyHistories.{LivesFollow, home_behind, last_of, state_behind}
use Rattle.oak_core.specs.KeyReads.{base_now, shown_by, word_now}
use Rattle.oak_core.specs.KeyStates.{KeyStands}
use Rattle.oak_core.specs.Memory.{memory}
use Rattle.oak_core.specs.PassState.{Extends, IsAlone, rooms_held, seen_of, spent_state}
use Rattle.oak_core.proofs.seats.Alone.{others_are}
use Rattle.oak_core.proofs.histories.LivesOnce.{begins_once}
use Rattle.oak_core.proofs.known.RemovedReads.{lives_first}
use Rattle.point_ops.specs.LoneReplies.{SeesWhole}
use Rattle.oak_run.proofs.HomeLives.{begun_next, last_on, lives_second}

spent_moves : (F : Cover → ℕ) → moves F spent_state.rooms ≡ 0
unfolding total
spent_moves F = refl

-- ---- a life that begins twice

twice : (g : ℕ) (a d : List KeyedWrite) → LivesFollow None 0 (a ++ d) → total (begins g) (a ++ d) ≤ 1 → names_header g ≡ 1 → home_behind a ≡ g → home_behind (a ++ d) ≡ g → state_behind a ≡ None → 0 < length d → ⊥
unfolding last_of
twice g [] d lives once names home all absent any = none_named g names (sym home)
twice g (x ∷ xs) d lives once names home all absent any = let a : List KeyedWrite = x ∷ xs in
    let one = begun_next g 0 a (lives_first None 0 a d lives) (omega arith) home in
    let two = begun_next g (home_behind a) d (subst (λ s. LivesFollow s (home_behind a) d) absent (lives_second None 0 a d lives)) any (sym (last_on (λ (w : KeyedWrite). w.home) 0 a d) ∙ all) in
    let sum = total_append (begins g) a d in omega arith

-- ---- at one moment

-- what the entry of a key says, by the words and what the one pass holds of rooms
abbrev word_by : Sizes → ℕ → List ℕ → RoomHolds → ℕ
word_by z k words a = below (λ r. weight ((memory z words).rooms.pin r) * each (word_for k) (cover_at (memory z words).rooms (content (memory z words).arena.bytes) r)) z.chunks + moves (each (word_for k)) a

word_alone : (z : Sizes) (k : ℕ) (words : List ℕ) (v : PassState) (m : Moment z words v) → IsAlone v → word_now z (memory z words) m.states k ≡ word_by z k words v.rooms
word_alone z k words v m alone = let F : Cover → ℕ = each (word_for k) in
    covers_parts z.chunks (memory z words).rooms.pin (cover_at (memory z words).rooms (content (memory z words).arena.bytes)) (map rooms_held m.states) F
    ∙ ap (λ (t : ℕ). below (λ r. weight ((memory z words).rooms.pin r) * F (cover_at (memory z words).rooms (content (memory z words).arena.bytes) r)) z.chunks + t)
    (total_map rooms_held (moves F) m.states ∙ total_alone (λ (y : PassState). moves F y.rooms) m.states m.seat v m.here
    (λ j y there ne. ap (λ (u : PassState). moves F u.rooms) (others_are z record { words = words; states = m.states } m.rule m.seat v m.here alone j y ne there) ∙ spent_moves F))

abbrev Stands : (z : Sizes) (k : ℕ) (v : PassState) → SeesWhole z v → Type 0
Stands z k v n = KeyStands z (memory z n.words).headers (shown_by (memory z n.words)) (base_now z (memory z n.words) n.moment.states k) (word_now z (memory z n.words) n.moment.states k) (seen_of k v.knowledge)

stands : (z : Sizes) (k : ℕ) (v : PassState) (n : SeesWhole z v) → Stands z k v n
stands z k v n = subst (λ (h : List KeyedWrite). KeyStands z (memory z n.words).headers (shown_by (memory z n.words)) (base_now z (memory z n.words) n.moment.states k) (word_now z (memory z n.words) n.moment.states k) h) (n.whole k) (n.moment.rule.keys.states k)

names_few : (v : ℕ) → names_header v ≤ 1
unfolding names_header
names_few v = one_at-le (v / 2 ^ 63) 1

pub none_some : {A : Type 0} (s : Option A) (a : A) → s ≡ None → s ≡ Some a → ⊥
none_some s a e f = let c : None ≡ Some a = sym e ∙ f in cc

-- a key that holds something has an entry, which names the header of its life
pub present : (z : Sizes) (m : HeaderMemory) (shown : ℕ → State) (base w : ℕ) (h : List KeyedWrite) (value : List ℕ) → KeyStands z m shown base w h → state_behind h ≡ Some value → (g : ℕ) × (w ≡ g + 1) × (names_header g ≡ 1) × (home_behind h ≡ g)
present z m shown base zero h value s holds = absurd (none_some (state_behind h) value (s.none refl).0 holds)
present z m shown base (suc g) h value s holds = let one : suc g ≡ g + 1 = omega arith in let few = names_few g in dite (ℕ_discrete (names_header g) 0)
    (λ floor. absurd (none_some (state_behind h) value (s.floor g one floor).0 holds))
    (λ other. let names : names_header g ≡ 1 = omega arith in (g, one, names, (s.named g one names).home))

-- a pass that was alone at its last step is so, and the table has the words that it left
pub at_words : (z : Sizes) (words : List ℕ) (v : PassState) (n : SeesWhole z v) → LeavesWords words v → (n.words ≡ words) × IsAlone v
at_words z words v n l = let r = n.moment.rule.alone n.moment.seat v n.moment.here l.met l.finding l.last l.alone in (r.0 ∙ l.are, r.1)

-- ---- from one to the other

-- what the pass left at the second it had left at the first
abbrev pub left_before : (v u : PassState) (words : List ℕ) → u.findings.met ≡ v.findings.met → LeavesWords words u → LeavesWords words v
left_before v u words met l = record { met = l.met; finding = l.finding; last = sym met ∙ l.last; alone = l.alone; are = l.are }

-- so the entry of a key says the same
pub same_word : (z : Sizes) (k : ℕ) (v u : PassState) (words : List ℕ) → u.rooms ≡ v.rooms → LeavesWords words v → LeavesWords words u → (a : SeesWhole z v) (b : SeesWhole z u) → word_now z (memory z a.words) a.moment.states k ≡ word_now z (memory z b.words) b.moment.states k
same_word z k v u words rooms l m a b = let p = at_words z words v a l in let q = at_words z words u b m in
    word_alone z k a.words v a.moment p.1
    ∙ (ap (λ (ws : List ℕ). word_by z k ws v.rooms) (p.0 ∙ sym q.0) ∙ (ap (word_by z k b.words) (sym rooms) ∙ sym (word_alone z k b.words u b.moment q.1)))

module _ (z : Sizes) (k : ℕ) (v u : PassState) (words value : List ℕ) (rooms : u.rooms ≡ v.rooms) (seen : Extends v u) (met : u.findings.met ≡ v.findings.met) (left : LeavesWords words u) (a : SeesWhole z v) (b : SeesWhole z u) (absent : state_behind (seen_of k v.knowledge) ≡ None) (holds : state_behind (seen_of k u.knowledge) ≡ Some value) where
  abbrev more : List KeyedWrite
  more = (seen k).0

  is_more : seen_of k u.knowledge ≡ seen_of k v.knowledge ++ more
  is_more = (seen k).1

  some_more : (d : List KeyedWrite) → seen_of k u.knowledge ≡ seen_of k v.knowledge ++ d → 0 < length d
  some_more [] e = absurd (none_some (state_behind (seen_of k u.knowledge)) value (ap state_behind (e ∙ append-nil (seen_of k v.knowledge)) ∙ absent) holds)
  some_more (x ∷ xs) e = omega arith

  pub none_came : ⊥
  none_came =
      let p = present z (memory z b.words).headers (shown_by (memory z b.words)) (base_now z (memory z b.words) b.moment.states k) (word_now z (memory z b.words) b.moment.states k) (seen_of k u.knowledge) value (stands z k u b) holds in
      let g : ℕ = p.0 in
      twice g (seen_of k v.knowledge) more
      (subst (LivesFollow None 0) (b.whole k ∙ is_more) (b.moment.rule.keys.legal k).lives)
      (subst (λ (h : List KeyedWrite). total (begins g) h ≤ 1) (b.whole k ∙ is_more) (begins_once b.moment.states b.moment.rule.callers g k p.2))
      p.2
      ((stands z k v a).named g (same_word z k v u words rooms (left_before v u words met left) left a b ∙ p.1) p.2).home
      (ap home_behind (sym is_more) ∙ p.3) absent (some_more more is_more)
