-- The steps that lock a header, unlock it, mark it dead and take it back: what their words and operands name.
use Rattle.std.proofs.Common.{◌≡◌, ℕ, ◌+◌, ◌-◌, ◌%◌, ◌^◌, ◌==◌, false, sym, refl, subst}
use prog.Atomic.{either}
use Rattle.atomic_table.specs.Table.{Me, Allows}
use Rattle.oak_model.specs.declared.writes.Kind.{Kind}
use Rattle.oak_model.specs.Limits.{Sizes}
use Rattle.header_core.specs.declared.states.TheConstants.{LIVE}
use Rattle.pin_word.specs.PinWord.{STATE}
use Rattle.header_core.specs.HeaderStep.{lock_header, unlock_header, mark_dead, take_back}
use Rattle.oak_core.specs.declared.states.PassState.{PassState}
use Rattle.oak_core.specs.HeaderCalls.{NamesPin, NamesLock, Locks, Unlocks, MarksDead, TakesBack}
use Rattle.oak_core.specs.Running.{Holds, KeepsSeat}
use Rattle.oak_core.specs.MayWrite.{MayEnd}
use Rattle.oak_core.specs.Step.{on_headers, MayOnHeaders}
use Rattle.oak_core.proofs.seats.Allowed.{allows_at}
use Rattle.oak_core.proofs.memory.HeaderNames.{one_header, one_exchange}

module _ (z : Sizes) (start call : ℕ) (slots id : ℕ) (me : Me (Unit {0}) PassState) (going : me.0.numbers.spent ≡ false) where
  pub allows_lock : (word old new h : ℕ) → NamesLock z h word old new → MayOnHeaders z (lock_header h old) me.0
      → Allows (Holds z start) slots id me word (λ n. either (n == old) new n) (λ n m. ((k : ℕ) → NamesLock z k word old new → Locks z call k old me.0 n m.0) × KeepsSeat me m)
  allows_lock word old new h names may = allows_at z start call slots id me going (on_headers (lock_header h old)) (λ n w. (k : ℕ) → NamesLock z k word old new → Locks z call k old me.0 n w) word (λ n. either (n == old) new n)
      (sym names.word_is) (λ i n. either (n == old) (sym names.new_is i) n) (may, tt)
      (λ n w told k named. subst (λ (j : ℕ). Locks z call j old me.0 n w) (one_exchange z LIVE h k word old new names named) told)

  pub allows_unlock : (word operand h : ℕ) (kind : Kind) → NamesPin z h word → operand ≡ STATE → MayOnHeaders z (unlock_header h kind) me.0 → MayEnd call (unlock_header h kind) me.0
      → Allows (Holds z start) slots id me word (λ n. (n + (2 ^ 64 - operand)) % 2 ^ 64) (λ n m. ((k : ℕ) → NamesPin z k word → Unlocks z call k kind me.0 n m.0) × KeepsSeat me m)
  allows_unlock word operand h kind names e may ends = allows_at z start call slots id me going (on_headers (unlock_header h kind)) (λ n w. (k : ℕ) → NamesPin z k word → Unlocks z call k kind me.0 n w) word (λ n. (n + (2 ^ 64 - operand)) % 2 ^ 64)
      (sym names.word_is) (λ i n. (n + (2 ^ 64 - sym e i)) % 2 ^ 64) (may, ends)
      (λ n w told k named. subst (λ (j : ℕ). Unlocks z call j kind me.0 n w) (one_header z h k word names named) told)

  pub allows_bury : (word operand h : ℕ) → NamesPin z h word → operand ≡ STATE → MayOnHeaders z (mark_dead h) me.0 → MayEnd call (mark_dead h) me.0
      → Allows (Holds z start) slots id me word (λ n. (n + operand) % 2 ^ 64) (λ n m. ((k : ℕ) → NamesPin z k word → MarksDead z call k me.0 n m.0) × KeepsSeat me m)
  allows_bury word operand h names e may ends = allows_at z start call slots id me going (on_headers (mark_dead h)) (λ n w. (k : ℕ) → NamesPin z k word → MarksDead z call k me.0 n w) word (λ n. (n + operand) % 2 ^ 64)
      (sym names.word_is) (λ i n. (n + sym e i) % 2 ^ 64) (may, ends)
      (λ n w told k named. subst (λ (j : ℕ). MarksDead z call j me.0 n w) (one_header z h k word names named) told)

  pub allows_renew : (word operand h : ℕ) → NamesPin z h word → MayOnHeaders z (take_back h operand) me.0 → MayEnd call (take_back h operand) me.0
      → Allows (Holds z start) slots id me word (λ n. (n + operand) % 2 ^ 64) (λ n m. ((k : ℕ) → NamesPin z k word → TakesBack z call k operand me.0 n m.0) × KeepsSeat me m)
  allows_renew word operand h names may ends = allows_at z start call slots id me going (on_headers (take_back h operand)) (λ n w. (k : ℕ) → NamesPin z k word → TakesBack z call k operand me.0 n w) word (λ n. (n + operand) % 2 ^ 64)
      (sym names.word_is) refl (may, ends)
      (λ n w told k named. subst (λ (j : ℕ). TakesBack z call j operand me.0 n w) (one_header z h k word names named) told)
