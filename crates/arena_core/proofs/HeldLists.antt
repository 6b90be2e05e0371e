-- Lists of held blocks, from which one is taken out, or of which one is written.
use Rattle.std.proofs.Common.{◌≡◌, ℕ, ◌+◌, Bool, true, false, cond, List, [], ◌∷◌, length, set, sym, refl, ap, ◌∙◌, arith, eqb-true, eq-eqb, length-set}
use Rattle.oak_model.specs.Counts.{one_if, total, Each}
use Rattle.oak_model.specs.Class.{class_number}
use Rattle.oak_model.proofs.Counting.{both_true, true_both, test-cases, total_map}
use Rattle.arena_core.specs.declared.blocks.HeldBlock.{HeldBlock}
use Rattle.arena_core.specs.Blocks.{is_block, IsWhole, without, rewritten}

abbrev pub here : ℕ → ℕ → HeldBlock → ℕ
here c b h = one_if (is_block c b h)

pub is_block-is : (c b : ℕ) (h : HeldBlock) → is_block c b h ≡ true → (class_number h.class ≡ c) × (h.number ≡ b)
is_block-is c b h e = let t = both_true _ _ e in (eqb-true _ _ t.0, eqb-true _ _ t.1)

pub is_block-true : (c b : ℕ) (h : HeldBlock) → class_number h.class ≡ c → h.number ≡ b → is_block c b h ≡ true
is_block-true c b h e d = true_both _ _ (eq-eqb _ _ e) (eq-eqb _ _ d)

-- it is no other block
pub is_block-other : (c b d e : ℕ) (h : HeldBlock) → ¬ ((d ≡ c) × (e ≡ b)) → is_block c b h ≡ true → is_block d e h ≡ false
is_block-other c b d e h ne is = test-cases (is_block d e h) (λ t. t ≡ false) (λ t. let p = is_block-is c b h is in let q = is_block-is d e h t in absurd (ne (sym q.0 ∙ p.0, sym q.1 ∙ p.1))) (λ f. refl)

pub without_none : (c b : ℕ) (hs : List HeldBlock) → total (here c b) (without c b hs) ≡ 0
unfolding total
without_none c b [] = refl
without_none c b (h ∷ hs) = test-cases (is_block c b h) (λ t. is_block c b h ≡ t → total (here c b) (cond t (without c b hs) (h ∷ without c b hs)) ≡ 0)
    (λ _ _. without_none c b hs) (λ _ e. let t = without_none c b hs in let u : here c b h ≡ 0 = ap one_if e in omega arith) refl

pub without_others : (c b d e : ℕ) → ¬ ((d ≡ c) × (e ≡ b)) → (hs : List HeldBlock) → total (here d e) (without c b hs) ≡ total (here d e) hs
unfolding total
without_others c b d e ne [] = refl
without_others c b d e ne (h ∷ hs) = test-cases (is_block c b h) (λ t. is_block c b h ≡ t → total (here d e) (cond t (without c b hs) (h ∷ without c b hs)) ≡ here d e h + total (here d e) hs)
    (λ _ is. let t = without_others c b d e ne hs in let u : here d e h ≡ 0 = ap one_if (is_block-other c b d e h ne is) in omega arith)
    (λ _ _. let t = without_others c b d e ne hs in omega arith) refl

pub rewritten_same : (c b k x d e : ℕ) (hs : List HeldBlock) → total (here d e) (rewritten c b k x hs) ≡ total (here d e) hs
rewritten_same c b k x d e hs = total_map (λ (h : HeldBlock). record h { words = cond (is_block c b h) (set h.words k x) h.words }) (here d e) hs

pub whole_without : (c b : ℕ) (hs : List HeldBlock) → Each IsWhole hs → Each IsWhole (without c b hs)
whole_without c b [] w = tt
whole_without c b (h ∷ hs) w = elim (is_block c b h) as (λ t. Each IsWhole (cond t (without c b hs) (h ∷ without c b hs))) [ true ↦ whole_without c b hs w.1 | false ↦ (w.0, whole_without c b hs w.1) ]

pub whole_rewritten : (c b k x : ℕ) (hs : List HeldBlock) → Each IsWhole hs → Each IsWhole (rewritten c b k x hs)
whole_rewritten c b k x [] w = tt
whole_rewritten c b k x (h ∷ hs) w = (
  (elim (is_block c b h) as (λ t. length (cond t (set h.words k x) h.words) ≡ length h.words) [ true ↦ length-set h.words k x | false ↦ refl ]) ∙ w.0,
  whole_rewritten c b k x hs w.1,
)

-- a block that is not held is not missed
pub without_same : (c b : ℕ) (hs : List HeldBlock) → total (here c b) hs ≡ 0 → without c b hs ≡ hs
unfolding total
without_same c b [] e = refl
without_same c b (h ∷ hs) e = test-cases (is_block c b h) (λ t. one_if t + total (here c b) hs ≡ 0 → cond t (without c b hs) (h ∷ without c b hs) ≡ h ∷ hs)
    (λ _ z. absurd (omega arith)) (λ _ z. ap (λ (l : List HeldBlock). h ∷ l) (without_same c b hs (omega arith))) e

-- and one that is held once, in front, leaves the others
pub without_first : (c b : ℕ) (h : HeldBlock) (hs : List HeldBlock) → is_block c b h ≡ true → total (here c b) hs ≡ 0 → without c b (h ∷ hs) ≡ hs
without_first c b h hs is e = ap (λ (t : Bool). cond t (without c b hs) (h ∷ without c b hs)) is ∙ without_same c b hs e
