-- A word and an operand name at most one header, so a step that may be taken is told of whatever they name.
use Rattle.std.proofs.Common.{◌≡◌, ℕ, ◌+◌, ◌-◌, ◌*◌, ◌%◌, ◌^◌, ◌<◌, ◌==◌, false, sym, refl, ap, ◌∙◌, subst, arith}
use prog.Atomic.{either}
use Rattle.atomic_table.specs.Table.{Me, Allows}
use Rattle.oak_model.specs.Limits.{Sizes}
use Rattle.header_core.specs.declared.states.TheConstants.{FREE}
use Rattle.header_core.specs.declared.holds.HeldAs.{HeldAs}
use Rattle.header_core.specs.declared.holds.HeldAs.TheVariants.{Owned, Fresh, Locked, Buried}
use Rattle.header_core.specs.declared.holds.HeaderHolds.{HeaderHolds}
use Rattle.header_core.specs.Headers.{HeaderSpot, at_pin, header_at}
use Rattle.header_core.specs.HeaderHolds.{held_state}
use Rattle.pin_word.specs.PinWord.{STATE}
use Rattle.header_core.specs.HeaderStep.{MayRelease, claim_header, open_header, pin_header, unpin_header, release_header}
use Rattle.oak_core.specs.declared.states.PassState.{PassState}
use Rattle.oak_core.specs.Memory.{Spot, in_headers, index, word_count}
use Rattle.oak_core.specs.HeaderCalls.{NamesPin, NamesExchange, NamesClaim, NamesRelease, Claims, Opens, Pins, Unpins, Releases}
use Rattle.oak_core.specs.Running.{Holds, KeepsSeat}
use Rattle.oak_core.specs.Step.{on_headers, MayOnHeaders}
use Rattle.oak_core.proofs.seats.Allowed.{allows_at}
use Rattle.oak_core.proofs.memory.Words.{index_below, index_apart}

-- the header in a spot
pub header_of_spot : Spot → ℕ
header_of_spot (in_headers p) = header_at p
header_of_spot _ = 0

pub header_of_spot-is : (p : HeaderSpot) → header_of_spot (in_headers p) ≡ header_at p
unfolding header_of_spot
header_of_spot-is p = refl

pub pin_apart : (z : Sizes) (h k word : ℕ) → h < z.headers → k < z.headers → word ≡ index z (in_headers (at_pin h)) → word ≡ index z (in_headers (at_pin k)) → h ≡ k
pin_apart z h k word lt lt' e e' = let s = index_apart z (in_headers (at_pin h)) (in_headers (at_pin k)) lt lt' (sym e ∙ e') in sym (header_of_spot-is (at_pin h)) ∙ (ap header_of_spot s ∙ header_of_spot-is (at_pin k))

pub one_header : (z : Sizes) (h k word : ℕ) → NamesPin z h word → NamesPin z k word → h ≡ k
one_header z h k word n m = pin_apart z h k word n.inside m.inside n.word_is m.word_is

pub one_exchange : (z : Sizes) (s h k word old new : ℕ) → NamesExchange z s h word old new → NamesExchange z s k word old new → h ≡ k
one_exchange z s h k word old new n m = pin_apart z h k word n.inside m.inside n.word_is m.word_is

-- a header that may be released is owned or fresh
one_way : (s t : HeldAs) (a : HeaderHolds) → MayRelease s a → held_state s * STATE ≡ held_state t * STATE → s ≡ t
one_way Owned Owned a may e = refl
one_way Owned Fresh a may e = absurd (omega arith)
one_way Owned (Locked at) a may e = absurd (omega arith)
one_way Owned Buried a may e = absurd (omega arith)
one_way Fresh Owned a may e = absurd (omega arith)
one_way Fresh Fresh a may e = refl
one_way Fresh (Locked at) a may e = absurd (omega arith)
one_way Fresh Buried a may e = absurd (omega arith)
one_way (Locked at) t a may e = absurd may
one_way Buried t a may e = absurd may

pub one_release : (z : Sizes) (h k : ℕ) (s t : HeldAs) (a : HeaderHolds) (word operand : ℕ) → MayRelease s a → NamesRelease z h s word operand → NamesRelease z k t word operand → (h ≡ k) × (s ≡ t)
one_release z h k s t a word operand may n m = (pin_apart z h k word n.inside m.inside n.word_is m.word_is, one_way s t a may (sym n.operand_is ∙ m.operand_is))

-- each such word is one of the table's

pub pin_below : (z : Sizes) (h word : ℕ) → h < z.headers → word ≡ index z (in_headers (at_pin h)) → word < word_count z
pin_below z h word lt e = let b = index_below z (in_headers (at_pin h)) lt in omega arith

module _ (z : Sizes) (start call : ℕ) (slots id : ℕ) (me : Me (Unit {0}) PassState) (going : me.0.numbers.spent ≡ false) where
  pub allows_claim : (word old new h : ℕ) → NamesClaim z h word old new
      → Allows (Holds z start) slots id me word (λ n. either (n == old) new n) (λ n m. ((k : ℕ) → NamesClaim z k word old new → Claims z call k old me.0 n m.0) × KeepsSeat me m)
  allows_claim word old new h names = allows_at z start call slots id me going (on_headers (claim_header h old)) (λ n w. (k : ℕ) → NamesClaim z k word old new → Claims z call k old me.0 n w) word (λ n. either (n == old) new n)
      (sym names.word_is) (λ i n. either (n == old) (sym names.new_is i) n) (record { inside = names.inside; headers = names.unpinned; block = tt; known = tt }, tt)
      (λ n w told k named. subst (λ (j : ℕ). Claims z call j old me.0 n w) (one_exchange z FREE h k word old new names named) told)

  pub allows_open : (word operand h : ℕ) → NamesPin z h word → operand ≡ STATE → MayOnHeaders z (open_header h) me.0
      → Allows (Holds z start) slots id me word (λ n. (n + operand) % 2 ^ 64) (λ n m. ((k : ℕ) → NamesPin z k word → Opens z call k me.0 n m.0) × KeepsSeat me m)
  allows_open word operand h names e may = allows_at z start call slots id me going (on_headers (open_header h)) (λ n w. (k : ℕ) → NamesPin z k word → Opens z call k me.0 n w) word (λ n. (n + operand) % 2 ^ 64)
      (sym names.word_is) (λ i n. (n + sym e i) % 2 ^ 64) (may, tt)
      (λ n w told k named. subst (λ (j : ℕ). Opens z call j me.0 n w) (one_header z h k word names named) told)

  pub allows_pin : (word operand g h : ℕ) → NamesPin z h word → operand ≡ 1 → MayOnHeaders z (pin_header h g) me.0
      → Allows (Holds z start) slots id me word (λ n. (n + operand) % 2 ^ 64) (λ n m. ((k : ℕ) → NamesPin z k word → Pins z call k g me.0 n m.0) × KeepsSeat me m)
  allows_pin word operand g h names e may = allows_at z start call slots id me going (on_headers (pin_header h g)) (λ n w. (k : ℕ) → NamesPin z k word → Pins z call k g me.0 n w) word (λ n. (n + operand) % 2 ^ 64)
      (sym names.word_is) (λ i n. (n + sym e i) % 2 ^ 64) (may, tt)
      (λ n w told k named. subst (λ (j : ℕ). Pins z call j g me.0 n w) (one_header z h k word names named) told)

  pub allows_unpin : (word operand h : ℕ) → NamesPin z h word → operand ≡ 1 → MayOnHeaders z (unpin_header h) me.0
      → Allows (Holds z start) slots id me word (λ n. (n + (2 ^ 64 - operand)) % 2 ^ 64) (λ n m. ((k : ℕ) → NamesPin z k word → Unpins z call k me.0 n m.0) × KeepsSeat me m)
  allows_unpin word operand h names e may = allows_at z start call slots id me going (on_headers (unpin_header h)) (λ n w. (k : ℕ) → NamesPin z k word → Unpins z call k me.0 n w) word (λ n. (n + (2 ^ 64 - operand)) % 2 ^ 64)
      (sym names.word_is) (λ i n. (n + (2 ^ 64 - sym e i)) % 2 ^ 64) (may, tt)
      (λ n w told k named. subst (λ (j : ℕ). Unpins z call j me.0 n w) (one_header z h k word names named) told)

  pub allows_release : (word operand h : ℕ) (s : HeldAs) → NamesRelease z h s word operand → MayOnHeaders z (release_header h s) me.0
      → Allows (Holds z start) slots id me word (λ n. (n + (2 ^ 64 - operand)) % 2 ^ 64) (λ n m. ((k : ℕ) (t : HeldAs) → NamesRelease z k t word operand → Releases z call k t me.0 n m.0) × KeepsSeat me m)
  allows_release word operand h s names may = allows_at z start call slots id me going (on_headers (release_header h s)) (λ n w. (k : ℕ) (t : HeldAs) → NamesRelease z k t word operand → Releases z call k t me.0 n w) word (λ n. (n + (2 ^ 64 - operand)) % 2 ^ 64)
      (sym names.word_is) (λ i n. (n + (2 ^ 64 - sym names.operand_is i)) % 2 ^ 64) (may, tt)
      (λ n w told k t named. let q = one_release z h k s t me.0.headers word operand may.headers.1 names named in subst (λ (p : ℕ × HeldAs). Releases z call p.0 p.1 me.0 n w) (λ i. (q.0 i, q.1 i)) told)
