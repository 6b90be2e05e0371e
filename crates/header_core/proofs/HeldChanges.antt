-- Lists of held headers, of which a step changes one header.
use Rattle.std.specs.Prelude.{slice_set}
use Rattle.std.proofs.Common.{◌≡◌, ◌≢◌, ℕ, ◌+◌, ◌*◌, ◌≤◌, ◌==◌, Bool, true, false, cond, List, [], ◌∷◌, sym, refl, ap, ◌∙◌, subst, arith, eq-eqb, ne_eqb}
use Rattle.oak_model.specs.Counts.{one_at, total, Each}
use Rattle.oak_model.proofs.Counting.{decided, one_at-same, one_at-other, one_at-cases, total_map}
use Rattle.oak_model.proofs.RowLaws.{total_le}
use Rattle.oak_model.proofs.SumLaws.{times-none}
use Rattle.header_core.specs.declared.states.TheConstants.{OWNED, LIVE, DEAD}
use Rattle.header_core.specs.declared.holds.HeldAs.{HeldAs}
use Rattle.header_core.specs.declared.holds.HeldAs.TheVariants.{Fresh, Buried}
use Rattle.header_core.specs.declared.holds.HeldHeader.{HeldHeader}
use Rattle.header_core.specs.HeaderHolds.{held_state, without_header}
use Rattle.header_core.specs.Headers.{HeaderMemory}
use Rattle.header_core.specs.HeaderStep.{placed_at, stamped_at, changed_at, reworded, freshened, buried_at, owned_at}
use Rattle.header_core.proofs.HeldHeaders.{held_in, rows_in, fresh_in}
use Rattle.header_core.proofs.HeldRecords.{each_kept, rows_kept, fresh_kept, rows_turned-here, rows_turned-else, rows_turned-others, fresh_turned-others}

-- a word of one header changes, or one of its block: it is held as before

pub rows_placed : (h x k s : ℕ) (rs : List HeldHeader) → rows_in k s (placed_at h x rs) ≡ rows_in k s rs
rows_placed h x k s rs = rows_kept (λ (r : HeldHeader). record r { place = cond (r.header == h) x r.place }) (λ _. refl) (λ _. refl) k s rs

pub rows_stamped : (h x k s : ℕ) (rs : List HeldHeader) → rows_in k s (stamped_at h x rs) ≡ rows_in k s rs
rows_stamped h x k s rs = rows_kept (λ (r : HeldHeader). record r { stamp = cond (r.header == h) x r.stamp }) (λ _. refl) (λ _. refl) k s rs

pub rows_changed : (h x : ℕ) (words : List ℕ) (k s : ℕ) (rs : List HeldHeader) → rows_in k s (changed_at h x words rs) ≡ rows_in k s rs
rows_changed h x words k s rs = rows_kept (λ (r : HeldHeader). record r { place = cond (r.header == h) x r.place; words = cond (r.header == h) words r.words }) (λ _. refl) (λ _. refl) k s rs

pub rows_reworded : (h i x k s : ℕ) (rs : List HeldHeader) → rows_in k s (reworded h i x rs) ≡ rows_in k s rs
rows_reworded h i x k s rs = rows_kept (λ (r : HeldHeader). record r { words = cond (r.header == h) (slice_set r.words i x) r.words }) (λ _. refl) (λ _. refl) k s rs

pub fresh_placed : (h x k g : ℕ) (rs : List HeldHeader) → fresh_in k g (placed_at h x rs) ≡ fresh_in k g rs
fresh_placed h x k g rs = fresh_kept (λ (r : HeldHeader). record r { place = cond (r.header == h) x r.place }) (λ _. refl) (λ _. refl) k g rs (λ _. refl)

pub fresh_stamped : (h x k g : ℕ) (rs : List HeldHeader) → fresh_in k g (stamped_at h x rs) ≡ fresh_in k g rs
fresh_stamped h x k g rs = fresh_kept (λ (r : HeldHeader). record r { stamp = cond (r.header == h) x r.stamp }) (λ _. refl) (λ _. refl) k g rs (λ _. refl)

pub fresh_changed : (h x : ℕ) (words : List ℕ) (k g : ℕ) (rs : List HeldHeader) → fresh_in k g (changed_at h x words rs) ≡ fresh_in k g rs
fresh_changed h x words k g rs = fresh_kept (λ (r : HeldHeader). record r { place = cond (r.header == h) x r.place; words = cond (r.header == h) words r.words }) (λ _. refl) (λ _. refl) k g rs (λ _. refl)

pub fresh_reworded : (h i x k g : ℕ) (rs : List HeldHeader) → fresh_in k g (reworded h i x rs) ≡ fresh_in k g rs
fresh_reworded h i x k g rs = fresh_kept (λ (r : HeldHeader). record r { words = cond (r.header == h) (slice_set r.words i x) r.words }) (λ _. refl) (λ _. refl) k g rs (λ _. refl)

pub each_placed : (h x : ℕ) (P : ℕ → ℕ → Type 0) (rs : List HeldHeader) → Each (λ (r : HeldHeader). P r.header r.generation) rs → Each (λ (r : HeldHeader). P r.header r.generation) (placed_at h x rs)
each_placed h x P rs e = each_kept (λ (r : HeldHeader). record r { place = cond (r.header == h) x r.place }) (λ _. refl) P rs (λ _. refl) e

pub each_stamped : (h x : ℕ) (P : ℕ → ℕ → Type 0) (rs : List HeldHeader) → Each (λ (r : HeldHeader). P r.header r.generation) rs → Each (λ (r : HeldHeader). P r.header r.generation) (stamped_at h x rs)
each_stamped h x P rs e = each_kept (λ (r : HeldHeader). record r { stamp = cond (r.header == h) x r.stamp }) (λ _. refl) P rs (λ _. refl) e

pub each_changed : (h x : ℕ) (words : List ℕ) (P : ℕ → ℕ → Type 0) (rs : List HeldHeader) → Each (λ (r : HeldHeader). P r.header r.generation) rs → Each (λ (r : HeldHeader). P r.header r.generation) (changed_at h x words rs)
each_changed h x words P rs e = each_kept (λ (r : HeldHeader). record r { place = cond (r.header == h) x r.place; words = cond (r.header == h) words r.words }) (λ _. refl) P rs (λ _. refl) e

pub each_reworded : (h i x : ℕ) (P : ℕ → ℕ → Type 0) (rs : List HeldHeader) → Each (λ (r : HeldHeader). P r.header r.generation) rs → Each (λ (r : HeldHeader). P r.header r.generation) (reworded h i x rs)
each_reworded h i x P rs e = each_kept (λ (r : HeldHeader). record r { words = cond (r.header == h) (slice_set r.words i x) r.words }) (λ _. refl) P rs (λ _. refl) e

-- one more header in front

pub rows_taken : (x : HeldHeader) (k s : ℕ) (rs : List HeldHeader) → rows_in k s (x ∷ rs) ≡ one_at x.header k * one_at (held_state x.held_as) s + rows_in k s rs
unfolding total
rows_taken x k s rs = refl

pub rows_taken-here : (x : HeldHeader) (h s : ℕ) (rs : List HeldHeader) → x.header ≡ h → rows_in h s (x ∷ rs) ≡ one_at (held_state x.held_as) s + rows_in h s rs
rows_taken-here x h s rs e = let c = rows_taken x h s rs in let o : one_at x.header h * one_at (held_state x.held_as) s ≡ 1 * one_at (held_state x.held_as) s = ap (λ (n : ℕ). n * one_at (held_state x.held_as) s) (one_at-same x.header h e) in omega arith

pub rows_taken-others : (x : HeldHeader) (k s : ℕ) (rs : List HeldHeader) → x.header ≢ k → rows_in k s (x ∷ rs) ≡ rows_in k s rs
rows_taken-others x k s rs ne = let c = rows_taken x k s rs in let o : one_at x.header k * one_at (held_state x.held_as) s ≡ 0 * one_at (held_state x.held_as) s = ap (λ (n : ℕ). n * one_at (held_state x.held_as) s) (one_at-other x.header k ne) in omega arith

pub held_taken : (x : HeldHeader) (k : ℕ) (rs : List HeldHeader) → held_in k (x ∷ rs) ≡ one_at x.header k + held_in k rs
unfolding total
held_taken x k rs = refl

pub rows_claimed : (m : HeaderMemory) (h k s : ℕ) (rs : List HeldHeader) → rows_in k s (owned_at m h ∷ rs) ≡ one_at h k * one_at OWNED s + rows_in k s rs
rows_claimed m h k s rs = rows_taken (owned_at m h) k s rs

-- what is fresh stays so
pub fresh_taken : (x : HeldHeader) (k g : ℕ) (rs : List HeldHeader) → fresh_in k g rs ≤ fresh_in k g (x ∷ rs)
unfolding total
fresh_taken x k g rs = more (one_at x.header k * one_at x.generation g * one_at (held_state x.held_as) LIVE) (fresh_in k g rs)
  where
    more : (y z : ℕ) → z ≤ y + z
    more y z = omega arith

-- one header becomes fresh, or is buried

abbrev fresh_one : ℕ → List ℕ → HeldHeader → HeldHeader
fresh_one h words r = record r { held_as = cond (r.header == h) Fresh r.held_as; words = cond (r.header == h) words r.words }

abbrev buried_one : ℕ → HeldHeader → HeldHeader
buried_one h r = record r { held_as = cond (r.header == h) Buried r.held_as }

abbrev fresh_row : ℕ → ℕ → HeldHeader → ℕ
fresh_row k g r = one_at r.header k * one_at r.generation g * one_at (held_state r.held_as) LIVE

is_turned : (h : ℕ) (q : HeldAs) (r : HeldHeader) → r.header ≡ h → held_state (cond (r.header == h) q r.held_as) ≡ held_state q
is_turned h q r e = ap (λ (t : Bool). held_state (cond t q r.held_as)) (eq-eqb r.header h e)

not_turned : (h : ℕ) (q : HeldAs) (r : HeldHeader) → r.header ≢ h → held_state (cond (r.header == h) q r.held_as) ≡ held_state r.held_as
not_turned h q r ne = ap (λ (t : Bool). held_state (cond t q r.held_as)) (ne_eqb r.header h ne)

pub rows_freshened-live : (h : ℕ) (words : List ℕ) (rs : List HeldHeader) → rows_in h LIVE (freshened h words rs) ≡ held_in h rs
rows_freshened-live h words rs = rows_turned-here h LIVE (fresh_one h words) (λ _. refl) (is_turned h Fresh) (not_turned h Fresh) rs

pub rows_freshened-else : (h s : ℕ) (words : List ℕ) (rs : List HeldHeader) → s ≢ LIVE → rows_in h s (freshened h words rs) ≡ 0
rows_freshened-else h s words rs ne = rows_turned-else h LIVE (fresh_one h words) (λ _. refl) (is_turned h Fresh) (not_turned h Fresh) s rs ne

pub rows_freshened-others : (h k s : ℕ) (words : List ℕ) (rs : List HeldHeader) → k ≢ h → rows_in k s (freshened h words rs) ≡ rows_in k s rs
rows_freshened-others h k s words rs ne = rows_turned-others h LIVE (fresh_one h words) (λ _. refl) (is_turned h Fresh) (not_turned h Fresh) k s rs ne

-- what is fresh stays so
pub fresh_freshened : (h k g : ℕ) (words : List ℕ) (rs : List HeldHeader) → fresh_in k g rs ≤ fresh_in k g (freshened h words rs)
fresh_freshened h k g words rs = subst (λ (n : ℕ). fresh_in k g rs ≤ n) (sym (total_map (fresh_one h words) (fresh_row k g) rs)) (total_le (fresh_row k g) (λ (r : HeldHeader). fresh_row k g (fresh_one h words r)) rs (λ r. more (one_at r.header k * one_at r.generation g) (r.header == h) r.held_as))
  where
    more : (x : ℕ) (t : Bool) (q : HeldAs) → x * one_at (held_state q) LIVE ≤ x * one_at (held_state (cond t Fresh q)) LIVE
    more x true q = let a : x * one_at LIVE LIVE ≡ x * 1 = ap (λ (k : ℕ). x * k) (one_at-same LIVE LIVE refl) in one_at-cases (held_state q) LIVE (λ k. x * k ≤ x * one_at LIVE LIVE) (λ _. omega arith) (λ _. omega arith)
    more x false q = omega arith

pub each_freshened : (h : ℕ) (words : List ℕ) (P : ℕ → ℕ → Type 0) (rs : List HeldHeader) → Each (λ (r : HeldHeader). P r.header r.generation) rs → Each (λ (r : HeldHeader). P r.header r.generation) (freshened h words rs)
each_freshened h words P rs e = each_kept (fresh_one h words) (λ _. refl) P rs (λ _. refl) e

pub rows_buried-dead : (h : ℕ) (rs : List HeldHeader) → rows_in h DEAD (buried_at h rs) ≡ held_in h rs
rows_buried-dead h rs = rows_turned-here h DEAD (buried_one h) (λ _. refl) (is_turned h Buried) (not_turned h Buried) rs

pub rows_buried-else : (h s : ℕ) (rs : List HeldHeader) → s ≢ DEAD → rows_in h s (buried_at h rs) ≡ 0
rows_buried-else h s rs ne = rows_turned-else h DEAD (buried_one h) (λ _. refl) (is_turned h Buried) (not_turned h Buried) s rs ne

pub rows_buried-others : (h k s : ℕ) (rs : List HeldHeader) → k ≢ h → rows_in k s (buried_at h rs) ≡ rows_in k s rs
rows_buried-others h k s rs ne = rows_turned-others h DEAD (buried_one h) (λ _. refl) (is_turned h Buried) (not_turned h Buried) k s rs ne

pub fresh_buried-others : (h k g : ℕ) (rs : List HeldHeader) → k ≢ h → fresh_in k g (buried_at h rs) ≡ fresh_in k g rs
fresh_buried-others h k g rs ne = fresh_turned-others h DEAD (buried_one h) (λ _. refl) (is_turned h Buried) (not_turned h Buried) k g rs (λ _. refl) ne

pub each_buried : (h : ℕ) (P : ℕ → ℕ → Type 0) (rs : List HeldHeader) → Each (λ (r : HeldHeader). P r.header r.generation) rs → Each (λ (r : HeldHeader). P r.header r.generation) (buried_at h rs)
each_buried h P rs e = each_kept (buried_one h) (λ _. refl) P rs (λ _. refl) e

-- the list without one header

pub without-cases : (h : ℕ) (r : HeldHeader) (rs : List HeldHeader) (P : List HeldHeader → Type 0) → (r.header ≡ h → P (without_header h rs)) → (r.header ≢ h → P (r ∷ without_header h rs)) → P (without_header h (r ∷ rs))
without-cases h r rs P gone stays = decided r.header h (λ t. P (cond t (without_header h rs) (r ∷ without_header h rs))) gone stays

none_of : (h s : ℕ) (r : HeldHeader) → r.header ≢ h → one_at r.header h * one_at (held_state r.held_as) s ≡ 0
none_of h s r n = times-none (one_at r.header h) (one_at (held_state r.held_as) s) (one_at-other r.header h n)

-- a sum in which that header's count for nothing is as it was
pub total_without : (f : HeldHeader → ℕ) (h : ℕ) (rs : List HeldHeader) → ((r : HeldHeader) → r.header ≡ h → f r ≡ 0) → total f (without_header h rs) ≡ total f rs
unfolding total
total_without f h [] z = refl
total_without f h (r ∷ rs) z = let t = total_without f h rs z in without-cases h r rs (λ l. total f l ≡ f r + total f rs) (λ e. let u = z r e in omega arith) (λ n. omega arith)

pub rows_without-here : (h s : ℕ) (rs : List HeldHeader) → rows_in h s (without_header h rs) ≡ 0
unfolding total
rows_without-here h s [] = refl
rows_without-here h s (r ∷ rs) = let t = rows_without-here h s rs in without-cases h r rs (λ l. rows_in h s l ≡ 0) (λ e. t) (λ n. let u = none_of h s r n in omega arith)

pub rows_without-others : (h k s : ℕ) (rs : List HeldHeader) → k ≢ h → rows_in k s (without_header h rs) ≡ rows_in k s rs
rows_without-others h k s rs ne = total_without (λ (r : HeldHeader). one_at r.header k * one_at (held_state r.held_as) s) h rs (λ r e. none_of k s r (λ q. ne (sym q ∙ e)))

pub fresh_without-others : (h k g : ℕ) (rs : List HeldHeader) → k ≢ h → fresh_in k g (without_header h rs) ≡ fresh_in k g rs
fresh_without-others h k g rs ne = total_without (λ (r : HeldHeader). one_at r.header k * one_at r.generation g * one_at (held_state r.held_as) LIVE) h rs
    (λ r e. ap (λ (n : ℕ). n * one_at r.generation g * one_at (held_state r.held_as) LIVE) (one_at-other r.header k (λ q. ne (sym q ∙ e))) ∙ (let z : 0 * one_at r.generation g * one_at (held_state r.held_as) LIVE ≡ 0 = omega arith in z))

pub each_without : (P : HeldHeader → Type 0) (h : ℕ) (rs : List HeldHeader) → Each P rs → Each P (without_header h rs)
each_without P h [] e = tt
each_without P h (r ∷ rs) e = without-cases h r rs (Each P) (λ _. each_without P h rs e.1) (λ _. (e.0, each_without P h rs e.1))

-- of its records it may be used that they are of other headers
pub each_without-others : (P Q : HeldHeader → Type 0) (h : ℕ) (rs : List HeldHeader) → ((r : HeldHeader) → r.header ≢ h → P r → Q r) → Each P rs → Each Q (without_header h rs)
each_without-others P Q h [] f e = tt
each_without-others P Q h (r ∷ rs) f e = without-cases h r rs (Each Q) (λ _. each_without-others P Q h rs f e.1) (λ n. (f r n e.0, each_without-others P Q h rs f e.1))
