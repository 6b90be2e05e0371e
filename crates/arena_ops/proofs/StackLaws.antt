-- Blocks that are taken one behind the other, and given back, the last first.
use Rattle.std.proofs.Common.{◌≡◌, ℕ, zero, suc, ◌<◌, true, List, [], ◌∷◌, length, get_or, set, sym, refl, ap, ◌∙◌, subst, arith, get_or-set_other, get_or-set_same}
use Rattle.oak_model.specs.declared.classes.Class.{Class}
use Rattle.oak_model.specs.Class.{class_number}
use Rattle.oak_model.specs.Limits.{Sizes}
use Rattle.oak_model.specs.Counts.{one_if, total}
use Rattle.arena_core.specs.declared.blocks.HeldBlock.{HeldBlock}
use Rattle.arena_core.specs.declared.blocks.HeldBlocks.{HeldBlocks}
use Rattle.arena_core.specs.Arena.{blocks}
use Rattle.arena_core.specs.HeldBlocks.{no_blocks}
use Rattle.arena_core.specs.Blocks.{is_block, HoldsBlock, block_from, without, rewritten}
use Rattle.arena_core.proofs.HeldLists.{is_block-true, without_first, rewritten_same}
use Rattle.oak_core.specs.declared.states.PassState.{PassState}
use Rattle.oak_core.specs.Memory.{memory}
use Rattle.oak_core.specs.PassState.{IsAlone, bare_state}
use Rattle.oak_core.proofs.seats.Alone.{numbers_alone}
use Rattle.arena_ops.specs.Taking.{Takes, Gives, Stores}
use Rattle.arena_ops.specs.Stack.{IsStack, KeepsRest}

-- numbers from i on do not matter
pub stack_same : (z : Sizes) (c : Class) (f g : ℕ → ℕ) (i : ℕ) (hs : List HeldBlock) → ((k : ℕ) → k < i → f k ≡ g k) → IsStack z c f i hs → IsStack z c g i hs
stack_same z c f g zero hs same s = s
stack_same z c f g (suc i) [] same s = s
stack_same z c f g (suc i) (h ∷ hs) same s = let e : f i ≡ g i = same i (omega arith) in (
  subst (λ (n : ℕ). n < blocks z (class_number c)) e s.0,
  subst (λ (n : ℕ). is_block (class_number c) n h ≡ true) e s.1,
  subst (λ (n : ℕ). total (λ (o : HeldBlock). one_if (is_block (class_number c) n o)) hs ≡ 0) e s.2,
  stack_same z c f g i hs (λ k lt. same k (omega arith)) s.3,
)

module _ (z : Sizes) (call : ℕ) (c : Class) (f : ℕ → ℕ) (i : ℕ) (v w : PassState) where
  pub stack_more : IsStack z c f i v.blocks.held → Takes z call c (f i) v w → IsStack z c f (suc i) w.blocks.held
  stack_more s t = subst (λ (y : PassState). IsStack z c f (suc i) y.blocks.held) (sym t.after) (t.inside, is_block-true (class_number c) (f i) (block_from (memory z t.told.table.words).arena.bytes c (f i)) refl refl, t.unheld, s)

  stack_rest : (hs : List HeldBlock) → IsStack z c f (suc i) hs → IsStack z c f i (without (class_number c) (f i) hs)
  stack_rest [] s = absurd s
  stack_rest (h ∷ hs) s = subst (IsStack z c f i) (sym (without_first (class_number c) (f i) h hs s.1 s.2)) s.3

  pub stack_less : IsStack z c f (suc i) v.blocks.held → Gives z call c (f i) v w → IsStack z c f i w.blocks.held
  stack_less s g = subst (λ (y : PassState). IsStack z c f i y.blocks.held) (sym g.after) (stack_rest v.blocks.held s)

-- the last one is held
pub stack_top : (z : Sizes) (c : Class) (f : ℕ → ℕ) (i : ℕ) (a : HeldBlocks) → IsStack z c f (suc i) a.held → HoldsBlock z (class_number c) (f i) a
unfolding total
stack_top z c f i a s = top a.held s
  where
    top : (hs : List HeldBlock) → IsStack z c f (suc i) hs → HoldsBlock z (class_number c) (f i) record { held = hs }
    top [] s = absurd s
    top (h ∷ hs) s = let e : one_if (is_block (class_number c) (f i) h) ≡ 1 = ap one_if s.1 in record { held = omega arith; inside = s.0 }

-- a word that is written changes no number
pub stack_written : (z : Sizes) (c : Class) (f : ℕ → ℕ) (d b k x i : ℕ) (hs : List HeldBlock) → IsStack z c f i hs → IsStack z c f i (rewritten d b k x hs)
stack_written z c f d b k x zero [] s = refl
stack_written z c f d b k x zero (h ∷ hs) s = ap (rewritten d b k x) s
stack_written z c f d b k x (suc i) [] s = s
stack_written z c f d b k x (suc i) (h ∷ hs) s = (s.0, s.1, rewritten_same d b k x (class_number c) (f i) hs ∙ s.2, stack_written z c f d b k x i hs s.3)

-- none is left
pub stack_empty : (z : Sizes) (c : Class) (f : ℕ → ℕ) (a : HeldBlocks) → IsStack z c f 0 a.held → a ≡ no_blocks
stack_empty z c f a s = λ i. record { held = s i }

pub rest_of_grown : (v w x : PassState) → KeepsRest v w → KeepsRest w x → KeepsRest v x
rest_of_grown v w x a b = record { numbers = b.numbers ∙ a.numbers; headers = b.headers ∙ a.headers; rooms = b.rooms ∙ a.rooms }

module _ (z : Sizes) (call : ℕ) (c : Class) (b : ℕ) (v w : PassState) where
  pub rest_taken : Takes z call c b v w → KeepsRest v w
  rest_taken t = record { numbers = λ i. (t.after i).numbers; headers = λ i. (t.after i).headers; rooms = λ i. (t.after i).rooms }

  pub rest_given : Gives z call c b v w → KeepsRest v w
  rest_given t = record { numbers = λ i. (t.after i).numbers; headers = λ i. (t.after i).headers; rooms = λ i. (t.after i).rooms }

  pub rest_stored : (k x : ℕ) → Stores z call c b k x v w → KeepsRest v w
  rest_stored k x t = record { numbers = λ i. (t.after i).numbers; headers = λ i. (t.after i).headers; rooms = λ i. (t.after i).rooms }

-- the number of a block that was taken is noted in its place
pub stack_put : (z : Sizes) (call : ℕ) (c : Class) (ns : List ℕ) (i n : ℕ) (v w : PassState) → i < length ns → IsStack z c (λ k. get_or ns k 0) i v.blocks.held → Takes z call c n v w → IsStack z c (λ k. get_or (set ns i n) k 0) (suc i) w.blocks.held
stack_put z call c ns i n v w lt s t = let f : ℕ → ℕ = λ k. get_or (set ns i n) k 0 in let here : f i ≡ n = get_or-set_same ns i n 0 lt in
    stack_more z call c f i v w (stack_same z c (λ k. get_or ns k 0) f i v.blocks.held (λ k l. sym (get_or-set_other ns i k n 0 (λ e. omega arith))) s) (subst (λ (m : ℕ). Takes z call c m v w) (sym here) t)

pub stack_stored : (z : Sizes) (call : ℕ) (c : Class) (f : ℕ → ℕ) (i b k x : ℕ) (v w : PassState) → IsStack z c f i v.blocks.held → Stores z call c b k x v w → IsStack z c f i w.blocks.held
stack_stored z call c f i b k x v w s t = subst (λ (y : PassState). IsStack z c f i y.blocks.held) (sym t.after) (stack_written z c f (class_number c) b k x i v.blocks.held s)

-- the first pass is alone as long as it has no other number
pub alone_rest : (v w : PassState) → v.numbers ≡ bare_state.numbers → KeepsRest v w → IsAlone w
alone_rest v w first rest = numbers_alone w (rest.numbers ∙ first)
