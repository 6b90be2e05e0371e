-- A split and a join keep the points on keys, their writers and what passes were taught, together.
use Rattle.std.proofs.Common.{◌≡◌, ◌≢◌, ℕ, List, [], ◌∷◌, ◌++◌, map, set, sym, ap, ◌∙◌, subst, refl, arith}
use Rattle.std.proofs.lemmas.Nat.Bits.{bit_at-lt}
use mathlib.Core.Option.{some}
use lib.ListN.{get_elem?}
use Rattle.oak_model.specs.Counts.{total}
use Rattle.oak_model.specs.Limits.{Sizes}
use Rattle.oak_model.proofs.Counting.{total_at, one_at-same}
use Rattle.oak_model.proofs.Lists.{at_map}
use Rattle.oak_model.proofs.SumLaws.{total_plus}
use Rattle.chunk_core.specs.Covers.{Cover}
use Rattle.oak_core.specs.declared.states.PassState.{PassState}
use Rattle.oak_core.specs.KeyReads.{sum_now, history_now}
use Rattle.oak_core.specs.Memory.{Memory, memory}
use Rattle.oak_core.specs.PassState.{numbers_of, rooted, in_hand, number_in, left_state, right_state, both_state, spent_state}
use Rattle.oak_core.specs.Rule.{Rule}
use Rattle.oak_core.specs.Schedule.{MaySplit, MayJoin}
use Rattle.oak_core.specs.TableState.{TableState}
use Rattle.oak_core.proofs.keyed.KeyBundles.{KeyBundles}
use Rattle.oak_core.proofs.lessons.LessonSeats.{sums_divided, sums_joined, history_divided, history_joined, heard_split, heard_join}
use Rattle.oak_core.proofs.keyed.SeatsAgree.{keys_split, callers_split, bounds_split, opened_split, keys_join, callers_join, bounds_join, opened_join}

module _ (z : Sizes) (s : TableState) (seat : ℕ) (v : PassState) (r : Rule z s) (here : get_elem? s.states seat ≡ some v) where
  abbrev m : Memory
  m = memory z s.words

  module _ (may : MaySplit v) where
    abbrev apart : List PassState
    apart = set s.states seat (left_state v) ++ right_state v ∷ []

    -- the number in hand is no pass's own: its bit is one
    hand_unrooted : total (rooted (number_in v.numbers.hand)) (map numbers_of s.states) ≡ 0
    hand_unrooted = subst (λ (i : ℕ). total (rooted i) (map numbers_of s.states) ≡ 0) (sym (ap number_in may.hand))
        (let k : ℕ = may.number in let o = r.numbers.owned k in let p = total_plus (rooted k) (λ n. in_hand k n.hand) (map numbers_of s.states) in let t = total_at (λ n. in_hand k n.hand) (map numbers_of s.states) seat v.numbers (at_map numbers_of s.states seat v here) in
        let one : in_hand k v.numbers.hand ≡ 1 = ap (in_hand k) may.hand ∙ one_at-same k k refl in let b = bit_at-lt m.given k in omega arith)

    sums : (F : Cover → ℕ) → sum_now z m apart F ≡ sum_now z m s.states F
    sums = sums_divided z m s.states r.histories seat v here

    same : (k : ℕ) → history_now apart k ≡ history_now s.states k
    same = history_divided z m s.states r.histories seat v here

    pub bundles_split : KeyBundles z (memory z s.words) (set s.states seat (left_state v) ++ right_state v ∷ [])
    bundles_split = record {
      keys = keys_split z m s.states seat v here sums same r.keys;
      callers = callers_split z m s.states seat v here sums same r.callers hand_unrooted;
      bounds = bounds_split z m s.states seat v here sums same r.bounds;
      opened = opened_split z m s.states seat v here sums same r.opened;
      heard = heard_split z m s.states r.histories seat v here r.heard;
    }

  module _ (other : ℕ) (w : PassState) (there : get_elem? s.states other ≡ some w) (ne : other ≢ seat) (may : MayJoin w) where
    abbrev together : List PassState
    together = set (set s.states seat (both_state v w)) other spent_state

    sums_both : (F : Cover → ℕ) → sum_now z m together F ≡ sum_now z m s.states F
    sums_both = sums_joined z m s.states r.histories seat v here other w there ne may

    same_both : (k : ℕ) → history_now together k ≡ history_now s.states k
    same_both = history_joined z m s.states r.histories seat v here other w there ne may

    pub bundles_join : KeyBundles z (memory z s.words) (set (set s.states seat (both_state v w)) other spent_state)
    bundles_join = record {
      keys = keys_join z m s.states seat v here other w there ne may.going may.idle.headers sums_both same_both r.keys;
      callers = callers_join z m s.states seat v here other w there ne may.going may.idle.headers sums_both same_both r.callers;
      bounds = bounds_join z m s.states seat v here other w there ne may.going may.idle.headers sums_both same_both r.bounds;
      opened = opened_join z m s.states seat v here other w there ne may.going may.idle.headers sums_both same_both r.opened;
      heard = heard_join z m s.states r.histories seat v here other w there ne may r.heard;
    }
