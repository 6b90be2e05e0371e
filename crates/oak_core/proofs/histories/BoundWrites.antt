-- No stamp, floor or base is above the number of all writes: what that gives of each key, and that a step keeps it, where it makes no write or one.
use Rattle.std.proofs.Common.{◌≡◌, ◌≢◌, ℕ, zero, suc, ◌+◌, ◌-◌, ◌*◌, ◌≤◌, cond, Bool, List, [], ◌∷◌, ◌++◌, map, sym, ap, ◌∙◌, subst, arith, eq-eqb, ne_eqb}
use mathlib.Core.Logic.{dite}
use native.Mathlib.Decide.{ℕ_discrete}
use Rattle.oak_model.specs.Counts.{one_at, total, below}
use Rattle.oak_model.specs.Limits.{Sizes}
use Rattle.oak_model.proofs.Counting.{one_at-le, below_same}
use Rattle.oak_model.proofs.SumLaws.{times-none, times-one, total_same}
use Rattle.arena_core.specs.Place.{content}
use Rattle.chunk_core.specs.CoverRule.{CoversPartition}
use Rattle.chunk_core.specs.CoverSums.{each, has_key, is_in, base_for, covers, weight}
use Rattle.chunk_core.specs.Covers.{Cover, cover_at, moving_of}
use Rattle.chunk_core.specs.Spans.{within}
use Rattle.chunk_core.specs.ValueWord.{names_header}
use Rattle.chunk_core.proofs.CoverLaws.{covers_plus}
use Rattle.chunk_core.proofs.Lookups.{picked, each_le, all_le}
use Rattle.chunk_core.proofs.SpanLaws.{within-le}
use Rattle.oak_core.specs.declared.states.KeyedWrite.{KeyedWrite}
use Rattle.oak_core.specs.declared.states.PassState.{PassState}
use Rattle.oak_core.specs.Bounds.{floor_in, floor_over, base_over, BasesBound}
use Rattle.oak_core.specs.Callers.{made_by}
use Rattle.oak_core.specs.KeyHistories.{stamp_behind}
use Rattle.oak_core.specs.KeyReads.{sum_now, word_now, base_now, history_now, level_now}
use Rattle.oak_core.specs.Memory.{Memory}
use Rattle.oak_core.specs.PassState.{rooms_held}
use Rattle.oak_core.proofs.histories.HistoryEnds.{stamp_snoc}
use Rattle.oak_core.proofs.keyed.Levels.{level-cases}

pub floor_low : (v : ℕ) → names_header v ≡ 0 → floor_in v ≡ v
unfolding floor_in
floor_low v e = ap (λ (t : Bool). cond t v 0) (eq-eqb (names_header v) 0 e)

pub floor_high : (v : ℕ) → names_header v ≡ 1 → floor_in v ≡ 0
unfolding floor_in
floor_high v e = ap (λ (t : Bool). cond t v 0) (ne_eqb (names_header v) 0 (λ o. absurd (omega arith)))

-- what is added up n times as often
below_times : (f : ℕ → ℕ) (b n : ℕ) → below (λ k. f k * b) n ≡ below f n * b
unfolding below
below_times f b zero = omega arith
below_times f b (suc n) = let r = below_times f b n in let d = times (below f n) (f n) b in omega arith
  where
    times : (x y b : ℕ) → (x + y) * b ≡ x * b + y * b
    times x y b = grind arith

total_times : {A : Type 0} (f : A → ℕ) (b : ℕ) (xs : List A) → total (λ x. f x * b) xs ≡ total f xs * b
unfolding total
total_times f b [] = omega arith
total_times f b (x ∷ xs) = let r = total_times f b xs in let d = times (f x) (total f xs) b in omega arith
  where
    times : (x y b : ℕ) → (x + y) * b ≡ x * b + y * b
    times x y b = grind arith

covers_times : (n : ℕ) (pin : ℕ → ℕ) (cover : ℕ → Cover) (ms : List (List Cover)) (F : Cover → ℕ) (b : ℕ) → covers n pin cover ms (λ c. F c * b) ≡ covers n pin cover ms F * b
unfolding covers
covers_times n pin cover ms F b = let a = below_times (λ r. weight (pin r) * F (cover r)) b n in let s = below_same (λ r. weight (pin r) * (F (cover r) * b)) (λ r. weight (pin r) * F (cover r) * b) n (λ r _. apart (weight (pin r)) (F (cover r)) b) in
    let t = total_same (total (λ c. F c * b)) (λ (g : List Cover). total F g * b) ms (λ g. total_times F b g) in let u = total_times (total F) b ms in
    let d = times (below (λ r. weight (pin r) * F (cover r)) n) (total (total F) ms) b in omega arith
  where
    apart : (w x b : ℕ) → w * (x * b) ≡ w * x * b
    apart w x b = grind arith

    times : (x y b : ℕ) → (x + y) * b ≡ x * b + y * b
    times x y b = grind arith

module _ (z : Sizes) (m : Memory) (is_key_word : ℕ → ℕ) (vs : List PassState) (parts : CoversPartition z m.rooms (content m.arena.bytes) is_key_word (map rooms_held vs)) (bases : BasesBound z m vs) where
  -- the floor of a key's entry
  pub floor_le : (k f : ℕ) → word_now z m vs k ≡ f + 1 → names_header f ≡ 0 → f ≤ total made_by vs
  floor_le k f is low = let n : ℕ = total made_by vs in let p = picked z m.rooms (content m.arena.bytes) (map rooms_held vs) k f (λ v. floor_in v - n) (parts.once k) is in
      let l = each_le z m.rooms (content m.arena.bytes) (map rooms_held vs) (λ s x. has_key k s x * (floor_in x.value - n)) (floor_over n) (λ s x. part (one_at x.key k) (floor_in x.value - n) (one_at-le x.key k)) in
      let none = bases.floors in let e = floor_low f low in omega arith
    where
      part : (a b : ℕ) → a ≤ 1 → a * b ≤ b
      part a b l = dite (ℕ_discrete a 0) (λ e. let f = times-none a b e in omega arith) (λ ne. let f = times-one a b (omega arith) in omega arith)

  -- the base of its cover
  pub base_le : (k : ℕ) → base_now z m vs k ≤ total made_by vs
  base_le k = let n : ℕ = total made_by vs in let l = all_le z m.rooms (content m.arena.bytes) (map rooms_held vs) (base_for k) (λ c. is_in k c * n + base_over n c) (λ c. part (within c.span k) c.span.base n (within-le c.span k)) in
      let p = covers_plus z.chunks m.rooms.pin (cover_at m.rooms (content m.arena.bytes)) (map moving_of (map rooms_held vs)) (λ c. is_in k c * n) (base_over n) in
      let t = covers_times z.chunks m.rooms.pin (cover_at m.rooms (content m.arena.bytes)) (map moving_of (map rooms_held vs)) (is_in k) n in
      let one = parts.covered k in let d : sum_now z m vs (is_in k) * n ≡ n = times-one (sum_now z m vs (is_in k)) n one in let none = bases.bases in omega arith
    where
      part : (a b n : ℕ) → a ≤ 1 → a * b ≤ a * n + (b - n)
      part a b n l = dite (ℕ_discrete a 0) (λ e. let f = times-none a b e in omega arith) (λ ne. let f = times-one a b (omega arith) in let g = times-one a n (omega arith) in omega arith)

  -- so a key's level is at most the number of all writes
  pub level_le : (k : ℕ) → level_now z m vs k ≤ total made_by vs
  level_le k = level-cases (base_now z m vs k) (stamp_behind (history_now vs k)) (word_now z m vs k) (λ l. l ≤ total made_by vs) (λ e. base_le k) (λ f e low. floor_le k f e low) (λ v e n. bases.stamps k)

-- from one moment to another
module _ (z : Sizes) (m m' : Memory) (vs vs' : List PassState) (bases : BasesBound z m vs) where
  -- a step that makes no write, and by which no floor or base comes above the number of writes
  pub bases_kept : total made_by vs' ≡ total made_by vs → ((k : ℕ) → history_now vs' k ≡ history_now vs k)
      → sum_now z m' vs' (each (floor_over (total made_by vs))) ≤ sum_now z m vs (each (floor_over (total made_by vs)))
      → sum_now z m' vs' (base_over (total made_by vs)) ≤ sum_now z m vs (base_over (total made_by vs)) → BasesBound z m' vs'
  bases_kept made same floors covers = record {
    stamps = λ k. let s = bases.stamps k in let e = ap stamp_behind (same k) in omega arith;
    floors = subst (λ (n : ℕ). sum_now z m' vs' (each (floor_over n)) ≡ 0) (sym made) (let f = bases.floors in omega arith);
    bases = subst (λ (n : ℕ). sum_now z m' vs' (base_over n) ≡ 0) (sym made) (let b = bases.bases in omega arith);
  }

  -- one write more is allowed for
  floors_more : (n : ℕ) → sum_now z m vs (each (floor_over n)) ≡ 0 → sum_now z m vs (each (floor_over (n + 1))) ≡ 0
  floors_more n none = let l = each_le z m.rooms (content m.arena.bytes) (map rooms_held vs) (floor_over (n + 1)) (floor_over n) (λ s x. omega arith) in omega arith

  bases_more : (n : ℕ) → sum_now z m vs (base_over n) ≡ 0 → sum_now z m vs (base_over (n + 1)) ≡ 0
  bases_more n none = let l = all_le z m.rooms (content m.arena.bytes) (map rooms_held vs) (base_over (n + 1)) (base_over n) (λ c. omega arith) in omega arith

  -- a step that makes a write of the key k, with a stamp that is at most one more
  pub bases_wrote : total made_by vs' ≡ total made_by vs + 1 → (k : ℕ) (w : KeyedWrite) → history_now vs' k ≡ history_now vs k ++ w ∷ [] → ((j : ℕ) → j ≢ k → history_now vs' j ≡ history_now vs j) → w.write.stamp ≤ total made_by vs + 1
      → sum_now z m' vs' (each (floor_over (total made_by vs + 1))) ≤ sum_now z m vs (each (floor_over (total made_by vs + 1)))
      → sum_now z m' vs' (base_over (total made_by vs + 1)) ≤ sum_now z m vs (base_over (total made_by vs + 1)) → BasesBound z m' vs'
  bases_wrote made k w here others stamp floors covers = record {
    stamps = λ j. dite (ℕ_discrete j k) (λ e. subst (λ (t : ℕ). stamp_behind (history_now vs' t) ≤ total made_by vs') (sym e) (let s = ap stamp_behind here ∙ stamp_snoc (history_now vs k) w in omega arith))
        (λ ne. let s = bases.stamps j in let e = ap stamp_behind (others j ne) in omega arith);
    floors = subst (λ (n : ℕ). sum_now z m' vs' (each (floor_over n)) ≡ 0) (sym made) (let f = floors_more (total made_by vs) bases.floors in omega arith);
    bases = subst (λ (n : ℕ). sum_now z m' vs' (base_over n) ≡ 0) (sym made) (let b = bases_more (total made_by vs) bases.bases in omega arith);
  }
