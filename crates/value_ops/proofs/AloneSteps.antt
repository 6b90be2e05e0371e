-- What one step of a pass that is alone does to the words, at a moment at which the rule held.
use Rattle.std.proofs.Common.{◌≡◌, ℕ, List, get_or, set, sym, ap, ◌∙◌, inr}
use lib.Seq.{set-get_or}
use Rattle.oak_model.specs.Limits.{Sizes}
use Rattle.header_core.specs.HeaderStep.{HeaderStep}
use Rattle.oak_core.specs.declared.states.PassState.{PassState}
use Rattle.oak_core.specs.AloneWords.{Moment, Runs}
use Rattle.oak_core.specs.Memory.{Spot, index, IsInside, memory, read}
use Rattle.oak_core.specs.Splitting.{Loads}
use Rattle.oak_core.specs.Step.{Step, load, on_headers, spot, effect, Told}
use Rattle.oak_core.proofs.seats.AloneRuns.{Keeps, step_runs, step_starts, moment_before, runs_as}
use Rattle.oak_core.proofs.memory.Words.{index_apart, memory_read}

-- the pass was in the state v, and the step found the number n in its word and left what becomes of it
pub record DoesAt (z : Sizes) (x : Step) (v : PassState) (n : ℕ) (before after : List ℕ) : Type 0 where
  pub moment : Moment z before v
  pub finds : n ≡ get_or before (index z (spot x)) 0
  pub leaves : after ≡ set before (index z (spot x)) (effect x n)

pub step_does : (z : Sizes) (call : ℕ) (x : Step) (v : PassState) (n : ℕ) (w : PassState) → Keeps x → Told z call x v n w → Runs (DoesAt z x v n) v w
step_does z call x v n w k t = let i : ℕ = index z (spot x) in record {
  goes = λ before l. let r = (step_runs z call x v n w k t).goes before l in record {
    after = r.after;
    leaves = r.leaves;
    does = record { moment = moment_before z call x v n w before l t; finds = r.does.0; leaves = r.does.1 ∙ ap (λ (m : ℕ). set before i (effect x m)) (sym r.does.0) };
  };
  starts = λ alone. inr (
    t.table.words,
    record {
      after = set t.table.words i (effect x (get_or t.table.words i 0));
      leaves = step_starts z call x v n w k alone t;
      does = record {
        moment = record { states = t.table.states; rule = t.rule; seat = t.seat; here = t.here };
        finds = sym t.finds;
        leaves = ap (λ (m : ℕ). set t.table.words i (effect x m)) t.finds;
      };
    },
  );
}

-- a load of a word, which all stay
pub record LoadsAt (z : Sizes) (p : Spot) (v : PassState) (n : ℕ) (before after : List ℕ) : Type 0 where
  pub moment : Moment z before v
  pub finds : n ≡ read (memory z before) p
  pub stays : after ≡ before

pub load_does : (z : Sizes) (call word n : ℕ) (v w : PassState) (p : Spot) → IsInside z p → word ≡ index z p → Loads z call word v n w → Runs (LoadsAt z p v n) v w
load_does z call word n v w p inside at l = let same = index_apart z l.spot p l.inside inside (l.at ∙ at) in
    runs_as (DoesAt z (load l.spot) v n) (LoadsAt z p v n) v w
    (λ a b d. record {
      moment = d.moment;
      finds = d.finds ∙ (ap (λ (q : Spot). get_or a (index z q) 0) same ∙ sym (memory_read z a p inside));
      stays = d.leaves ∙ (ap (set a (index z l.spot)) d.finds ∙ set-get_or a (index z l.spot) 0);
    })
    (step_does z call (load l.spot) v n w tt l.told)

-- a step on a word of a header
pub header_does : (z : Sizes) (call : ℕ) (x : HeaderStep) (v : PassState) (n : ℕ) (w : PassState) → Told z call (on_headers x) v n w → Runs (DoesAt z (on_headers x) v n) v w
header_does z call x v n w t = step_does z call (on_headers x) v n w tt t
