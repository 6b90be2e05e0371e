-- What the loads of the keys of a room leave: the pass only met more, and of key words no more than are read.
use Rattle.std.proofs.Common.{◌≡◌, ◌≢◌, ℕ, zero, suc, ◌+◌, ◌<◌, ◌≤◌, List, [], ◌∷◌, ◌++◌, sym, refl, ap, ◌∙◌, subst, arith, append_assoc, append-nil, Some}
use mathlib.Core.Logic.{dite}
use native.Mathlib.Decide.{dec_lt}
use Rattle.oak_model.specs.Counts.{one_at, below, total, Each}
use Rattle.oak_model.specs.Limits.{Sizes}
use Rattle.oak_model.proofs.Counting.{one_at-cases, one_at-true, below_some}
use Rattle.chunk_core.specs.Rooms.{at_count, at_key, part_at}
use Rattle.oak_core.specs.declared.states.Finding.{Finding}
use Rattle.oak_core.specs.declared.states.PassState.{PassState}
use Rattle.oak_core.specs.Finding.{finding, grown}
use Rattle.oak_core.specs.Loading.{IsPlain}
use Rattle.oak_core.specs.Memory.{Spot, in_rooms, index, IsInside}
use Rattle.oak_core.specs.Step.{load, Told}
use Rattle.oak_core.proofs.told.PlainLoads.{plain_state}
use Rattle.oak_core.proofs.memory.Words.{index_apart}
use Rattle.chunk_ops.specs.Finds.{is_key_word_of}
use Rattle.chunk_ops.specs.PinRecords.{OnlyMeets}
use Rattle.chunk_ops.specs.Reads.{key_loads, is_key_load, Met, met_key, met_block}
use Rattle.chunk_ops.specs.RoomLoads.{LoadsEach, spot_of, number_of}
use Rattle.chunk_ops.proofs.WordLoads.{only_loaded}
use Rattle.chunk_ops.proofs.MeetingCalls.{only_none, only_both}

module _ (z : Sizes) (call : ℕ) where
  -- the load of a word that teaches nothing
  plain_only : (q : Spot) (v : PassState) (n : ℕ) (w : PassState) → IsPlain q → Told z call (load q) v n w → OnlyMeets call v w
  plain_only q v n w plain t = only_loaded z call (index z q) n v w q t.may plain refl (record {
    spot = q;
    inside = t.may;
    at = refl;
    told = t;
    met = λ is. t.after ∙ (plain_state z call t.table v q is ∙ ap (λ (k : ℕ). grown (finding z call q (Some k) k t.table.words v ∷ []) v) t.finds);
  })

  module _ (r : ℕ) where
    of_entry_plain : (m : Met) → IsPlain (spot_of r m)
    of_entry_plain (met_key i n) = tt
    of_entry_plain (met_block w j n) = tt

    pub loads_only : (ms : List Met) (v w : PassState) → LoadsEach z call r ms v w → OnlyMeets call v w
    loads_only [] v w l = subst (OnlyMeets call v) (sym l) (only_none call v)
    loads_only (m ∷ ms) v w l = only_both call v l.0 w (plain_only (spot_of r m) v (number_of m) l.0 (of_entry_plain m) l.1) (loads_only ms l.0 w l.2)

-- how many of the words are key words

-- of numbers of which no two are one, at most one is x
one_of_them : (g : ℕ → ℕ) (x n : ℕ) → ((i j : ℕ) → i < n → j < n → g i ≡ g j → i ≡ j) → below (λ i. one_at x (g i)) n ≤ 1
unfolding below
one_of_them g x zero apart = omega arith
one_of_them g x (suc n) apart = one_at-cases x (g n) (λ (k : ℕ). below (λ i. one_at x (g i)) n + k ≤ 1)
    (λ e. dite (dec_lt 0 (below (λ i. one_at x (g i)) n))
    (λ l. let s = below_some (λ i. one_at x (g i)) n l in let a = one_at-true x (g s.0) s.2 in let b = apart s.0 n (let h = s.1 in omega arith) (omega arith) (sym a ∙ e) in absurd (let h = s.1 in omega arith))
    (λ m. omega arith))
    (λ _. let h = one_of_them g x n (λ i j a b. apart i j (omega arith) (omega arith)) in omega arith)

part_of : Spot → ℕ
part_of (in_rooms q) = part_at q
part_of _ = 0

-- the finding is of another word than the count
abbrev pub IsBesideCount : Sizes → ℕ → Finding → Type 0
IsBesideCount z r f = f.word ≢ index z (in_rooms (at_count r))

module _ (z : Sizes) (call r : ℕ) (inside : r < z.chunks) where
  keys_apart : (i j : ℕ) → i < z.entries → j < z.entries → index z (in_rooms (at_key r i)) ≡ index z (in_rooms (at_key r j)) → i ≡ j
  unfolding part_of
  keys_apart i j a b e = ap part_of (index_apart z (in_rooms (at_key r i)) (in_rooms (at_key r j)) (inside, a) (inside, b) e)

  pub not_key : (p : Spot) → IsInside z p → ((i : ℕ) → p ≢ in_rooms (at_key r i)) → below (λ i. one_at (index z p) (index z (in_rooms (at_key r i)))) z.entries ≡ 0
  not_key p at ne = dite (dec_lt 0 (below (λ i. one_at (index z p) (index z (in_rooms (at_key r i)))) z.entries))
      (λ l. let s = below_some (λ i. one_at (index z p) (index z (in_rooms (at_key r i)))) z.entries l in
      absurd (ne s.0 (index_apart z p (in_rooms (at_key r s.0)) at (inside, s.1) (one_at-true (index z p) (index z (in_rooms (at_key r s.0))) s.2))))
      (λ n. omega arith)

  key_words : (m : Met) → IsInside z (spot_of r m) → below (λ i. one_at (index z (spot_of r m)) (index z (in_rooms (at_key r i)))) z.entries ≤ is_key_load m
  key_words (met_key i n) at = one_of_them (λ i. index z (in_rooms (at_key r i))) (index z (in_rooms (at_key r i))) z.entries keys_apart
  key_words (met_block w j n) at = let h = not_key (spot_of r (met_block w j n)) at (λ i e. absurd cc) in omega arith

  beside_count : (m : Met) → IsInside z (spot_of r m) → index z (spot_of r m) ≢ index z (in_rooms (at_count r))
  beside_count (met_key i n) at e = let s = index_apart z (in_rooms (at_key r i)) (in_rooms (at_count r)) at (inside, omega arith) e in absurd cc
  beside_count (met_block w j n) at e = let s = index_apart z (spot_of r (met_block w j n)) (in_rooms (at_count r)) at (inside, omega arith) e in absurd cc

  pub loads_few : (ms : List Met) (v w : PassState) → LoadsEach z call r ms v w → (more : List Finding) × (w.findings.met ≡ v.findings.met ++ more) × (total (is_key_word_of z r) more ≤ key_loads ms) × Each (IsBesideCount z r) more
  unfolding total key_loads
  loads_few [] v w l = ([], ap (λ (y : PassState). y.findings.met) l ∙ sym (append-nil v.findings.met), omega arith, tt)
  loads_few (m ∷ ms) v w l = let t = l.1 in let rest = loads_few ms l.0 w l.2 in let f : Finding = finding z call (spot_of r m) (Some _) _ t.table.words v in
      let at : l.0.findings.met ≡ v.findings.met ++ f ∷ [] = ap (λ (y : PassState). y.findings.met) t.after in (
        f ∷ rest.0,
        rest.1 ∙ (ap (λ (xs : List Finding). xs ++ rest.0) at ∙ append_assoc v.findings.met (f ∷ []) rest.0),
        (let k = key_words m t.may in let few = rest.2 in omega arith),
        (beside_count m t.may, rest.3),
      )
