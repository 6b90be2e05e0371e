-- Where the pass into which threads were joined kept all that they had seen up to a moment, its histories go on from what each of them saw.
use Rattle.std.proofs.Common.{◌≡◌, ℕ, ◌<◌, List, [], ◌∷◌, subst}
use Rattle.oak_model.specs.Counts.{Begins, Each, one_at, total}
use Rattle.oak_model.specs.Limits.{Sizes}
use Rattle.oak_model.proofs.Lists.{at_map, begins_trans, each_map}
use Rattle.chunk_ops.specs.RoomPins.{HadMoment}
use Rattle.oak_core.specs.declared.states.KeyedWrite.{KeyedWrite}
use Rattle.oak_core.specs.declared.states.Numbers.{Numbers}
use Rattle.oak_core.specs.declared.states.PassState.{PassState}
use Rattle.oak_core.specs.KnownPlaces.{Remembers}
use Rattle.oak_core.specs.PassState.{Extends, IsAlone, knowledge_of, of_key, rooted, seen_of}
use Rattle.oak_core.specs.Splitting.{Ends}
use Rattle.oak_core.proofs.histories.Histories.{seen_begins}
use Rattle.oak_core.proofs.known.Remembering.{remembers_then}
use Rattle.oak_run.specs.Reads.{OnlyReads}
use Rattle.oak_run.specs.ThreadsRun.{ThreadEnd, joined_all}
use Rattle.oak_run.proofs.JoinedThreads.{each_learned, each_parts, each_saw}
use Rattle.oak_run.proofs.ReadsLaws.{reads_then}
use Rattle.oak_run.proofs.SettledSeen.{ends_then}

-- with the same numbers it is alone too
pub alone_before : (v w : PassState) → w.numbers ≡ v.numbers → IsAlone w → IsAlone v
alone_before v w same alone = record {
  first = subst (λ (n : Numbers). 0 < rooted 0 n) same alone.first;
  others = subst (λ (n : Numbers). (k : ℕ) → 0 < total (λ (m : ℕ). one_at m k) n.made → 0 < rooted k n) same alone.others;
}

each_all : (P : ℕ → List KeyedWrite → Type 0) (ls : List (List KeyedWrite)) → ((k : ℕ) → Each (P k) ls) → Each (λ (l : List KeyedWrite). (k : ℕ) → P k l) ls
each_all P [] all = tt
each_all P (l ∷ ls) all = ((λ k. (all k).0), each_all P ls (λ k. (all k).1))

-- each key's part of the list is the beginning of what the pass has seen of the key
abbrev IsPartOf : PassState → List KeyedWrite → Type 0
IsPartOf v l = (k : ℕ) → Begins (of_key k l) (seen_of k v.knowledge)

-- so it is with each list that a lone pass has seen, at a moment
all_parts : (z : Sizes) (v : PassState) → HadMoment z v → IsAlone v → Each (IsPartOf v) v.knowledge.seen
all_parts z v had alone = each_all (λ k l. Begins (of_key k l) (seen_of k v.knowledge)) v.knowledge.seen (λ k.
    let here : Ends z had.0 v = ends_then z v had alone in
    subst (λ (h : List KeyedWrite). Each (λ (l : List KeyedWrite). Begins (of_key k l) h) v.knowledge.seen) (here.histories k)
    (here.rule.histories k here.seat v.knowledge (at_map knowledge_of here.table.states here.seat v here.here)))

-- all that the thread saw and learned the pass u has seen and knows
pub record IsBefore (u : PassState) (t : ThreadEnd) : Type 0 where
  pub extends : Extends t.state u
  pub remembers : Remembers t.state.knowledge u.knowledge

module _ (z : Sizes) (first v u : PassState) (ts : List ThreadEnd) (reads : OnlyReads (joined_all first ts) v) (kept : Begins (joined_all first ts).knowledge.seen v.knowledge.seen)
    (had : HadMoment z v) (alone : IsAlone v) (last : OnlyReads v u) where
  all : OnlyReads (joined_all first ts) u
  all = reads_then (joined_all first ts) v u reads last

  saw : Each (λ (t : ThreadEnd). Each (IsPartOf v) t.state.knowledge.seen) ts
  saw = (each_saw (IsPartOf v) first ts (each_parts (IsPartOf v) (joined_all first ts).knowledge.seen kept.0 (subst (Each (IsPartOf v)) kept.1 (all_parts z v had alone))).0).1

  its_before : (t : ThreadEnd) → Each (IsPartOf v) t.state.knowledge.seen → Remembers t.state.knowledge (joined_all first ts).knowledge → IsBefore u t
  its_before t parts learned = record {
    extends = λ k. begins_trans (seen_of k t.state.knowledge) (seen_of k v.knowledge) (seen_of k u.knowledge)
        (seen_begins k (seen_of k v.knowledge) t.state.knowledge (each_map (IsPartOf v) (λ l. Begins (of_key k l) (seen_of k v.knowledge)) t.state.knowledge.seen (λ l p. p k) parts))
        (last.extends k);
    remembers = remembers_then t.state.knowledge (joined_all first ts).knowledge u.knowledge learned all.remembers;
  }

  both : (rest : List ThreadEnd) → Each (λ (t : ThreadEnd). Each (IsPartOf v) t.state.knowledge.seen) rest → Each (λ (t : ThreadEnd). Remembers t.state.knowledge (joined_all first ts).knowledge) rest → Each (IsBefore u) rest
  both [] s l = tt
  both (t ∷ rest) s l = (its_before t s.0 l.0, both rest s.1 l.1)

  pub each_before : Each (IsBefore u) ts
  each_before = both ts saw (each_learned first ts).1
