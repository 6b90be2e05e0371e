-- The steps, splits and joins of the running table are those of the definitions.
use Rattle.std.proofs.Common.{arith, shl_exact, ◌*◌, ◌%◌, ◌≡◌, ℕ, ◌<◌, ◌^◌, false, [], ◌∷◌, length, sym, refl, ap, ◌∙◌, subst, Option, Some}
use Rattle.std.specs.Prelude.{bit_or}
use Rattle.std.specs.Int.{bit_at}
use Rattle.std.proofs.lemmas.Nat.Bits.{bit_at-pow_same, bit_at-pow_other}
use mathlib.Core.Logic.{dite}
use native.Mathlib.Decide.{ℕ_discrete}
use Rattle.atomic_table.specs.Table.{Me, keeps, Allows, Splits, Joins}
use Rattle.oak_model.specs.declared.replies.Lack.{Lack}
use Rattle.oak_model.specs.Limits.{Sizes}
use Rattle.oak_model.proofs.Lists.{set_else}
use Rattle.oak_core.specs.declared.states.PassState.{PassState}
use Rattle.oak_core.specs.Memory.{at_given, index, word_count}
use Rattle.oak_core.specs.Finding.{finding, grown}
use Rattle.oak_core.specs.Lack.{Lacks, full_state}
use Rattle.oak_core.specs.Noting.{Notes}
use Rattle.oak_core.specs.PassState.{left_state, right_state, both_state, spent_state}
use Rattle.oak_core.specs.Running.{table_of, Holds, KeepsSeat}
use Rattle.oak_core.specs.Schedule.{MaySplit, MayJoin}
use Rattle.oak_core.specs.Schedule as event
use Rattle.oak_core.specs.Splitting.{Loads}
use Rattle.oak_core.specs.Step.{Step, load, give_number, note_full, spot, effect, May, MayGive, state_after, Told}
use Rattle.oak_core.proofs.kinds.EachEvent.{rule_keeps}
use Rattle.oak_core.proofs.openings.Reached.{reached_more}
use Rattle.oak_core.proofs.kinds.Keeps.{going_after}
use Rattle.oak_core.proofs.kinds.TwoSeats.{split_keeps, join_keeps}
use Rattle.oak_core.proofs.memory.Words.{first_word, index_covers}
use Rattle.oak_core.proofs.told.PlainLoads.{plain_state}

pub same_power : (k j : ℕ) → 2 ^ k ≡ 2 ^ j → k ≡ j
same_power k j e = dite (ℕ_discrete k j) (λ q. q) (λ ne. let a = bit_at-pow_same k in let b = bit_at-pow_other j k ne in let c = ap (λ (n : ℕ). bit_at n k) e in absurd (omega arith))

pub one_shifted : (k : ℕ) → k < 64 → 1 * 2 ^ k % 2 ^ 64 ≡ 2 ^ k
one_shifted k lt = let e : 1 * 2 ^ k % 2 ^ 64 ≡ 1 * 2 ^ k = shl_exact {a = 1} 1 k 64 (omega arith) (omega arith) in let x : ℕ = 2 ^ k in e ∙ (let r : 1 * x ≡ x = omega arith in r)

module _ (z : Sizes) (start call : ℕ) (slots id : ℕ) (me : Me (Unit {0}) PassState) (going : me.0.numbers.spent ≡ false) where
  -- a step that may be taken, with what its caller makes of what it tells
  pub allows : (x : Step) (told : ℕ → PassState → Type 0) → May z call x me.0 → ((n : ℕ) (w : PassState) → Told z call x me.0 n w → told n w)
      → Allows (Holds z start) slots id me (index z (spot x)) (effect x) (λ n m. told n m.0 × KeepsSeat me m)
  allows x told may tells s r _ here _ = (
    state_after z call x (table_of s) me.0,
    keeps,
    tt,
    record { rule = rule_keeps z (table_of s) call id me.0 r.rule here going x may; reached = reached_more z start (event.steps id call x) (table_of s) _ r.reached (record { state = me.0; here = here; going = going; may = may; after = refl }) },
    (tells _ _ (record { table = table_of s; seat = id; rule = r.rule; here = here; going = going; may = may; finds = refl; after = refl }), record { slots = refl; going = going_after z call x (table_of s) me.0 }),
  )

  -- the same where the word and what becomes of it are given otherwise
  pub allows_at : (x : Step) (told : ℕ → PassState → Type 0) (word : ℕ) (f : ℕ → ℕ) → index z (spot x) ≡ word → effect x ≡ f → May z call x me.0 → ((n : ℕ) (w : PassState) → Told z call x me.0 n w → told n w)
      → Allows (Holds z start) slots id me word f (λ n m. told n m.0 × KeepsSeat me m)
  allows_at x told word f is_word is_f may tells = subst (λ (p : ℕ × (ℕ → ℕ)). Allows (Holds z start) slots id me p.0 p.1 (λ n m. told n m.0 × KeepsSeat me m)) (λ i. (is_word i, is_f i)) (allows x told may tells)

  pub allows_load : (word : ℕ) → word < word_count z → Allows (Holds z start) slots id me word (λ n. n) (λ n m. Loads z call word me.0 n m.0 × KeepsSeat me m)
  allows_load word lt = let t = index_covers z word lt in allows_at (load t.0) (Loads z call word me.0) word (λ n. n) t.2 refl t.1
      (λ n w told. record { spot = t.0; inside = t.1; at = t.2; told = told; met = λ plain. told.after ∙ (plain_state z call told.table me.0 t.0 plain ∙ ap (λ (k : ℕ). grown (finding z call t.0 (Some k) k told.table.words me.0 ∷ []) me.0) told.finds) })

  -- the number is that which the bits name
  pub allows_give : (k bits : ℕ) → bits ≡ 2 ^ k → MayGive z k me.0 → Allows (Holds z start) slots id me 0 (λ n. bit_or n bits) (λ n m. ((j : ℕ) → bits ≡ 2 ^ j → Told z call (give_number j) me.0 n m.0) × KeepsSeat me m)
  allows_give k bits e may = allows_at (give_number k) (λ n w. (j : ℕ) → bits ≡ 2 ^ j → Told z call (give_number j) me.0 n w) 0 (λ n. bit_or n bits) (first_word z) (λ i n. bit_or n (sym e i)) may
      (λ n w told j q. subst (λ (i : ℕ). Told z call (give_number i) me.0 n w) (same_power k j (sym e ∙ q)) told)

  -- the call is noted with what it lacks
  pub allows_note : (lack : Lack) (spare : Option ℕ) (began : ℕ) → Lacks z call lack spare began (length me.0.findings.met) me.0.findings → Allows (Holds z start) slots id me 0 (λ n. n) (λ n m. Notes z call lack me.0 m.0 × KeepsSeat me m)
  allows_note lack spare began may = allows_at (note_full lack began) (λ n w. Notes z call lack me.0 w) 0 (λ n. n) (first_word z) refl (spare, may)
      (λ n w told. record { began = began; number = n; told = told; after = told.after ∙ ap (λ (k : ℕ). full_state call lack (finding z call at_given (Some k) k told.table.words me.0) me.0) told.finds })

pub splits : (z : Sizes) (start id : ℕ) (v : PassState) → MaySplit v → Splits (Holds z start) id v (left_state v) (right_state v)
splits z start id v may s r here = record { rule = split_keeps z (table_of s) id v r.rule here may; reached = reached_more z start (event.splits id) (table_of s) _ r.reached (record { state = v; here = here; may = may; after = refl }) }

pub joins : (z : Sizes) (start id : ℕ) (v : PassState) (other : ℕ) (w : PassState) → v.numbers.spent ≡ false → MayJoin w → Joins (Holds z start) id v other w (both_state v w) spent_state
joins z start id v other w going may s r here apart there = let stood = sym (set_else s.views id other (both_state v w) apart) ∙ there in record {
  rule = join_keeps z (table_of s) id v r.rule here other w stood apart going may;
  reached = reached_more z start (event.joins id other) (table_of s) _ r.reached (record { state = v; here = here; taken = w; there = stood; apart = apart; going = going; may = may; after = refl });
}
