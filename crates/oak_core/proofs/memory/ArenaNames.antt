-- A word and an operand name at most one bit or word of the arena, so a step that may be taken is told of whatever they name.
use Rattle.std.proofs.Common.{◌≡◌, ℕ, ◌-◌, ◌/◌, ◌%◌, ◌^◌, ◌<◌, false, sym, refl, ap, ◌∙◌, subst, arith, div-add-mod'}
use Rattle.std.specs.Prelude.{bit_and, bit_or}
use mathlib.Core.Option.{some}
use lib.ListN.{get_elem?}
use Rattle.atomic_table.specs.Table.{Me, Allows}
use Rattle.oak_model.specs.declared.classes.Class.{Class}
use Rattle.oak_model.specs.Limits.{Sizes}
use Rattle.oak_model.specs.Class.{class_number}
use Rattle.arena_core.specs.Arena.{at_bits, at_bytes, IsInArena, block_words, blocks}
use Rattle.arena_core.specs.Blocks.{HoldsBlock}
use Rattle.arena_core.specs.ArenaStep.{take_bit, clear_bit, bit_of}
use Rattle.arena_core.proofs.ArenaSteps.{bit_of_below}
use Rattle.oak_core.specs.declared.states.PassState.{PassState}
use Rattle.oak_core.specs.Memory.{Spot, in_arena, index, word_count}
use Rattle.oak_core.specs.ArenaCalls.{NamesBit, NamesMask, NamesWord, BlockOwner, of_pass, of_locked, MayStoreTo, store_step, Sets, Clears, Writes}
use Rattle.oak_core.specs.Running.{Holds, KeepsSeat}
use Rattle.oak_core.specs.Rule.{Rule}
use Rattle.oak_core.specs.Step.{on_arena, spot, effect, May}
use Rattle.oak_core.specs.TableState.{TableState}
use Rattle.oak_core.proofs.seats.Allowed.{same_power, allows_at}
use Rattle.arena_core.proofs.PlaceLaws.{class_below, same_class}
use Rattle.oak_core.proofs.owners.OneOwner.{two_headers, unowned_held, inside_locked, has_locked}
use Rattle.oak_core.proofs.memory.Words.{index_below, index_apart}

-- the numbers in a spot
first_of_spot : Spot → ℕ
first_of_spot (in_arena (at_bits c i)) = c
first_of_spot (in_arena (at_bytes c b k)) = c
first_of_spot _ = 0

second_of_spot : Spot → ℕ
second_of_spot (in_arena (at_bits c i)) = i
second_of_spot (in_arena (at_bytes c b k)) = b
second_of_spot _ = 0

third_of_spot : Spot → ℕ
third_of_spot (in_arena (at_bytes c b k)) = k
third_of_spot _ = 0

pub bit_inside : (z : Sizes) (c : Class) (b : ℕ) → b < blocks z (class_number c) → IsInArena z (at_bits (class_number c) (b / 64))
bit_inside z c b h = (class_below c, omega arith)

bit_apart : (z : Sizes) (c d : Class) (b e : ℕ) → b < blocks z (class_number c) → e < blocks z (class_number d) → index z (in_arena (at_bits (class_number c) (b / 64))) ≡ index z (in_arena (at_bits (class_number d) (e / 64))) → b % 64 ≡ e % 64 → (c ≡ d) × (b ≡ e)
unfolding first_of_spot second_of_spot
bit_apart z c d b e h g same low = let s = index_apart z (in_arena (at_bits (class_number c) (b / 64))) (in_arena (at_bits (class_number d) (e / 64))) (bit_inside z c b h) (bit_inside z d e g) same in
    (same_class c d (ap first_of_spot s), (let q : b / 64 ≡ e / 64 = ap second_of_spot s in let x = div-add-mod' b 64 in let y = div-add-mod' e 64 in omega arith))

pub one_bit : (z : Sizes) (c d : Class) (b e word bits : ℕ) → NamesBit z c b word bits → NamesBit z d e word bits → (c ≡ d) × (b ≡ e)
one_bit z c d b e word bits n m = bit_apart z c d b e n.inside m.inside (sym n.word_is ∙ m.word_is) (same_power (b % 64) (e % 64) (sym n.operand_is ∙ m.operand_is))

pub one_mask : (z : Sizes) (c d : Class) (b e word bits : ℕ) → NamesMask z c b word bits → NamesMask z d e word bits → (c ≡ d) × (b ≡ e)
one_mask z c d b e word bits n m = bit_apart z c d b e n.inside m.inside (sym n.word_is ∙ m.word_is)
    (same_power (b % 64) (e % 64) (let p = bit_of_below b in let q = bit_of_below e in let s : 2 ^ 64 - 1 - bit_of b ≡ 2 ^ 64 - 1 - bit_of e = sym n.operand_is ∙ m.operand_is in omega arith))

pub one_word : (z : Sizes) (c d : Class) (b e k l word : ℕ) → NamesWord z c b k word → NamesWord z d e l word → (c ≡ d) × (b ≡ e) × (k ≡ l)
unfolding first_of_spot second_of_spot third_of_spot
one_word z c d b e k l word n m = let s = index_apart z (in_arena (at_bytes (class_number c) b k)) (in_arena (at_bytes (class_number d) e l)) (class_below c, n.inside, n.place) (class_below d, m.inside, m.place) (sym n.word_is ∙ m.word_is) in
    (same_class c d (ap first_of_spot s), ap second_of_spot s, ap third_of_spot s)

-- each such word is one of the table's

pub bit_below : (z : Sizes) (c : Class) (b word bits : ℕ) → NamesBit z c b word bits → word < word_count z
bit_below z c b word bits n = let e = n.word_is in let h = index_below z (in_arena (at_bits (class_number c) (b / 64))) (bit_inside z c b n.inside) in omega arith

pub mask_below : (z : Sizes) (c : Class) (b word bits : ℕ) → NamesMask z c b word bits → word < word_count z
mask_below z c b word bits n = let e = n.word_is in let h = index_below z (in_arena (at_bits (class_number c) (b / 64))) (bit_inside z c b n.inside) in omega arith

pub word_below : (z : Sizes) (c : Class) (b k word : ℕ) → NamesWord z c b k word → word < word_count z
word_below z c b k word n = let e = n.word_is in let h = index_below z (in_arena (at_bytes (class_number c) b k)) (class_below c, n.inside, n.place) in omega arith

module _ (z : Sizes) (start call : ℕ) (slots id : ℕ) (me : Me (Unit {0}) PassState) (going : me.0.numbers.spent ≡ false) where
  pub allows_take : (word bits : ℕ) (c : Class) (b : ℕ) → NamesBit z c b word bits
      → Allows (Holds z start) slots id me word (λ n. bit_or n bits) (λ n m. ((d : Class) (e : ℕ) → NamesBit z d e word bits → Sets z call d e me.0 n m.0) × KeepsSeat me m)
  allows_take word bits c b names = allows_at z start call slots id me going (on_arena (take_bit c b)) (λ n w. (d : Class) (e : ℕ) → NamesBit z d e word bits → Sets z call d e me.0 n w) word (λ n. bit_or n bits)
      (sym names.word_is) (λ i n. bit_or n (sym names.operand_is i)) names.inside
      (λ n w told d e named. let s = one_bit z c d b e word bits names named in subst (λ (p : Class × ℕ). Sets z call p.0 p.1 me.0 n w) (λ i. (s.0 i, s.1 i)) told)

  pub allows_clear : (word bits : ℕ) (c : Class) (b : ℕ) → NamesMask z c b word bits → HoldsBlock z (class_number c) b me.0.blocks
      → Allows (Holds z start) slots id me word (λ n. bit_and n bits) (λ n m. ((d : Class) (e : ℕ) → NamesMask z d e word bits → Clears z call d e me.0 n m.0) × KeepsSeat me m)
  allows_clear word bits c b names held = allows_at z start call slots id me going (on_arena (clear_bit c b)) (λ n w. (d : Class) (e : ℕ) → NamesMask z d e word bits → Clears z call d e me.0 n w) word (λ n. bit_and n bits)
      (sym names.word_is) (λ i n. bit_and n (sym names.operand_is i)) held
      (λ n w told d e named. let s = one_mask z c d b e word bits names named in subst (λ (p : Class × ℕ). Clears z call p.0 p.1 me.0 n w) (λ i. (s.0 i, s.1 i)) told)

  -- a block has one owner, so the word that a pass may store to is of the block that it holds, or of that of one header which it has locked
  same_owner : (t : TableState) (seat : ℕ) → Rule z t → get_elem? t.states seat ≡ some me.0 → (o p : BlockOwner) (c : Class) (b : ℕ) → MayStoreTo z o c b me.0 → MayStoreTo z p c b me.0 → o ≡ p
  same_owner t seat r here of_pass of_pass c b may also = refl
  same_owner t seat r here of_pass (of_locked h) c b may also = absurd (unowned_held z t r seat me.0 here (class_number c) b h may.held (has_locked z t r seat me.0 here h c b also) (inside_locked z t r seat me.0 here h c b also))
  same_owner t seat r here (of_locked h) of_pass c b may also = absurd (unowned_held z t r seat me.0 here (class_number c) b h also.held (has_locked z t r seat me.0 here h c b may) (inside_locked z t r seat me.0 here h c b may))
  same_owner t seat r here (of_locked h) (of_locked k) c b may also = ap of_locked
      (two_headers z t r (class_number c) b h k (has_locked z t r seat me.0 here h c b may) (has_locked z t r seat me.0 here k c b also) (inside_locked z t r seat me.0 here h c b may) (inside_locked z t r seat me.0 here k c b also))

  may_store : (o : BlockOwner) (c : Class) (b k x : ℕ) → MayStoreTo z o c b me.0 → k < block_words (class_number c) → x < 2 ^ 64 → May z call (store_step o c b k x) me.0
  may_store of_pass c b k x may word small = record { block = may; word = word; small = small }
  may_store (of_locked h) c b k x may word small = record { block = may; word = word; small = small }

  store_spot : (o : BlockOwner) (c : Class) (b k x : ℕ) → spot (store_step o c b k x) ≡ in_arena (at_bytes (class_number c) b k)
  store_spot of_pass c b k x = refl
  store_spot (of_locked h) c b k x = refl

  stores : (o : BlockOwner) (c : Class) (b k x : ℕ) → effect (store_step o c b k x) ≡ (λ _. x)
  stores of_pass c b k x = refl
  stores (of_locked h) c b k x = refl

  pub allows_store : (word x : ℕ) (o : BlockOwner) (c : Class) (b k : ℕ) → NamesWord z c b k word → MayStoreTo z o c b me.0 → x < 2 ^ 64
      → Allows (Holds z start) slots id me word (λ _. x) (λ _ m. ((p : BlockOwner) (d : Class) (e l : ℕ) → NamesWord z d e l word → MayStoreTo z p d e me.0 → Writes z call p d e l x me.0 m.0) × KeepsSeat me m)
  allows_store word x o c b k names may small = allows_at z start call slots id me going (store_step o c b k x) (λ _ w. (p : BlockOwner) (d : Class) (e l : ℕ) → NamesWord z d e l word → MayStoreTo z p d e me.0 → Writes z call p d e l x me.0 w) word (λ _. x)
      (ap (index z) (store_spot o c b k x) ∙ sym names.word_is) (stores o c b k x) (may_store o c b k x may names.place small)
      (λ n w told p d e l named also. let s = one_word z c d b e k l word names named in
      let q = same_owner told.table told.seat told.rule told.here o p c b may (subst (λ (i : Class × ℕ). MayStoreTo z p i.0 i.1 me.0) (λ i. (sym s.0 i, sym s.1 i)) also) in
      subst (λ (i : BlockOwner × (Class × (ℕ × ℕ))). Writes z call i.0 i.1.0 i.1.1.0 i.1.1.1 x me.0 w) (λ i. (q i, (s.0 i, (s.1 i, s.2 i)))) (n, told))
