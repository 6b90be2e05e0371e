-- The table as loads under a pin left it: at the last of them the rule held, and to a pass that is alone its words were those throughout.
use Rattle.std.proofs.Common.{◌≡◌, ℕ, List, [], ◌∷◌, sym, refl, ◌∙◌, subst, inr, get_or, set}
use lib.Seq.{set-get_or}
use Rattle.oak_model.specs.Counts.{Each}
use Rattle.oak_model.specs.Limits.{Sizes}
use Rattle.chunk_core.specs.LinkWords.{link_spot}
use Rattle.chunk_core.specs.Rooms.{at_count}
use Rattle.link_search.specs.Met.{Met, met_count, met_link, met_key, tried_count, tried_link, stored_value, stored_link, stored_key, gave_up, IsLoad}
use Rattle.oak_core.specs.declared.states.PassState.{PassState}
use Rattle.oak_core.specs.AloneWords.{Moment, Runs}
use Rattle.oak_core.specs.Memory.{Spot, in_rooms, index}
use Rattle.oak_core.specs.Step.{load, Told}
use Rattle.oak_core.proofs.seats.AloneRuns.{Then, load_runs, runs_as, runs_then, step_starts, words_stand}
use Rattle.chunk_ops.specs.LinkedTable.{DoesEach, DoesMet}
use Rattle.chunk_ops.specs.PinRecords.{WordsStay}
use Rattle.chunk_ops.specs.Reads as reads
use Rattle.chunk_ops.specs.RoomLoads.{LoadsEach, number_of, spot_of}
use Rattle.chunk_ops.proofs.FoundWords.{load_moment}
use Rattle.chunk_ops.proofs.MeetingCalls.{stays_then}

-- a load by a pass that is alone finds the words that it left, and leaves them
pub load_finds : (z : Sizes) (call : ℕ) (p : Spot) (v : PassState) (n : ℕ) (w : PassState) → (t : Told z call (load p) v n w) → Runs (λ a b. (a ≡ t.table.words) × (b ≡ a)) v w
load_finds z call p v n w t = let ws = t.table.words in record {
  goes = λ before l. let r = (load_runs z call p v n w t).goes before l in record { after = r.after; leaves = r.leaves; does = (sym (words_stand z call (load p) v n w before l t), r.does.1) };
  starts = λ a. inr (ws, record { after = set ws (index z p) (get_or ws (index z p) 0); leaves = step_starts z call (load p) v n w tt a t; does = (refl, set-get_or ws (index z p) 0) });
}

pub record LeavesTable (z : Sizes) (v w : PassState) : Type 0 where
  pub words : List ℕ
  pub moment : Moment z words w
  pub alone : Runs (λ a b. (a ≡ words) × (b ≡ a)) v w

module _ (z : Sizes) (call : ℕ) where
  pub left_by : (p : Spot) (v : PassState) (n : ℕ) (w : PassState) → Told z call (load p) v n w → LeavesTable z v w
  left_by p v n w t = record { words = t.table.words; moment = load_moment z call p v n w t; alone = load_finds z call p v n w t }

  -- loads before
  pub left_since : (u v w : PassState) → Runs WordsStay u v → LeavesTable z v w → LeavesTable z u w
  left_since u v w s l = record { words = l.words; moment = l.moment; alone = stays_then (λ a b. (a ≡ l.words) × (b ≡ a)) u v w s l.alone }

  -- and behind
  left_then : (p : Spot) (u v : PassState) (n : ℕ) (w : PassState) → LeavesTable z u v → Told z call (load p) v n w → LeavesTable z u w
  left_then p u v n w l t = let F : List ℕ → List ℕ → Type 0 = (λ a b. (a ≡ l.words) × (b ≡ a)) in let G : List ℕ → List ℕ → Type 0 = (λ a b. (a ≡ t.table.words) × (b ≡ a)) in record {
    words = t.table.words;
    moment = load_moment z call p v n w t;
    alone = runs_as (Then F G) G u w (λ a b d. (sym d.1.1 ∙ d.2.0, d.2.1 ∙ d.1.1)) (runs_then F G u v w l.alone (load_finds z call p v n w t));
  }

  left_words : (r : ℕ) (ms : List reads.Met) (u v w : PassState) → LeavesTable z u v → LoadsEach z call r ms v w → LeavesTable z u w
  left_words r [] u v w l d = subst (LeavesTable z u) (sym d) l
  left_words r (m ∷ ms) u v w l d = left_words r ms u d.0 w (left_then (spot_of r m) u v (number_of m) d.0 l d.1) d.2

  module _ (r base place : ℕ) where
    left_met : (m : Met) (u v w : PassState) → LeavesTable z u v → IsLoad m → DoesMet z call r base place m v w → LeavesTable z u w
    left_met (met_count n) u v w l i d = left_then (in_rooms (at_count r)) u v n w l d
    left_met (met_link from n) u v w l i d = left_then (in_rooms (link_spot r from)) u v n w l d
    left_met (met_key j) u v w l i d = left_words r d.met u v w l d.loads
    left_met (tried_count o n) u v w l i d = absurd i
    left_met (tried_link f j o n) u v w l i d = absurd i
    left_met (stored_value j) u v w l i d = absurd i
    left_met (stored_link j n) u v w l i d = absurd i
    left_met (stored_key j) u v w l i d = absurd i
    left_met (gave_up j) u v w l i d = absurd i

    pub left_each : (ms : List Met) (u v w : PassState) → LeavesTable z u v → Each IsLoad ms → DoesEach z call r base place ms v w → LeavesTable z u w
    left_each [] u v w l i d = subst (LeavesTable z u) (sym d) l
    left_each (m ∷ ms) u v w l i d = left_each ms u d.0 w (left_met m u v d.0 l i.0 d.1) i.1 d.2
