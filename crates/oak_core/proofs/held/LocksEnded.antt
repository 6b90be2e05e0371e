-- What a pass holds of headers once it has ended a lock, by giving the header up or by marking it dead, and once it has taken a dead one back: of each other header, just what it had.
use Rattle.std.proofs.Common.{◌≡◌, ◌≢◌, ℕ, ◌+◌, ◌*◌, ◌==◌, not, cond, Bool, true, false, List, [], ◌∷◌, sym, refl, ap, ◌∙◌, subst, inl, inr, arith, eq-eqb, ne_eqb}
use mathlib.Core.Logic.{dite}
use native.Mathlib.Decide.{ℕ_discrete}
use Rattle.oak_model.specs.Counts.{one_at, one_if, total, Each, Has}
use Rattle.oak_model.proofs.Counting.{one_at-same, one_at-other}
use Rattle.oak_model.proofs.MemberLaws.{total_has}
use Rattle.header_core.specs.HeaderHolds.{held_state, in_state, without_header}
use Rattle.header_core.specs.HeaderStep.{buried_at}
use Rattle.header_core.specs.declared.holds.AtLock.{AtLock}
use Rattle.header_core.specs.declared.holds.HeaderHolds.{HeaderHolds}
use Rattle.header_core.specs.declared.holds.HeldAs.TheVariants.{Locked, Buried}
use Rattle.header_core.specs.declared.holds.HeldHeader.{HeldHeader}
use Rattle.header_core.specs.declared.states.TheConstants.{LIVE, LOCKED, DEAD}
use Rattle.header_core.proofs.HeldChanges.{rows_without-here, rows_without-others, rows_buried-else, rows_buried-others, each_without-others}
use Rattle.header_core.proofs.HeldHeaders.{held_in, rows_in, rows_split, stocked_split, rows_have}
use Rattle.oak_core.specs.declared.states.KeyedWrite.{KeyedWrite}
use Rattle.oak_core.specs.KeyStates.{HoldStands, IsBurialOf, unnamed}
use Rattle.oak_core.proofs.held.UnnamedHeaders.{unnamed_in, unnamed_le, unnamed_without-others}

-- a header that is held once stands in one record
pub only_row : (rs : List HeldHeader) (own : HeldHeader) → held_in own.header rs ≡ 1 → Has own rs → Each (λ (r : HeldHeader). r.header ≡ own.header → r ≡ own) rs
unfolding total
only_row [] own one has = tt
only_row (x ∷ xs) own one (inl e) = let o = one_at-same x.header own.header (ap (λ (r : HeldHeader). r.header) (sym e)) in ((λ _. sym e), none xs (omega arith))
  where
    none : (rs : List HeldHeader) → held_in own.header rs ≡ 0 → Each (λ (r : HeldHeader). r.header ≡ own.header → r ≡ own) rs
    none [] z = tt
    none (r ∷ rs) z = ((λ same. let o = one_at-same r.header own.header same in absurd (omega arith)), none rs (omega arith))
only_row (x ∷ xs) own one (inr m) = let t = total_has (λ (r : HeldHeader). one_at r.header own.header) xs own m in let o = one_at-same own.header own.header refl in ((λ same. let q = one_at-same x.header own.header same in absurd (omega arith)), only_row xs own (omega arith) m)

-- a header that is held once as locked is held in no other state
pub locked_alone : (rs : List HeldHeader) (own : HeldHeader) → held_in own.header rs ≡ 1 → Has own rs → held_state own.held_as ≡ LOCKED → (rows_in own.header LIVE rs ≡ 0) × (rows_in own.header DEAD rs ≡ 0)
locked_alone rs own one has is = let a = rows_split own.header rs in let b = stocked_split own.header rs in let p = rows_have own.header LOCKED rs own has refl is in ((omega arith), (omega arith))

-- nor is one that is held once as dead
pub dead_alone : (rs : List HeldHeader) (own : HeldHeader) → held_in own.header rs ≡ 1 → Has own rs → held_state own.held_as ≡ DEAD → (rows_in own.header LIVE rs ≡ 0) × (rows_in own.header DEAD rs ≡ 1)
dead_alone rs own one has is = let a = rows_split own.header rs in let b = stocked_split own.header rs in let p = rows_have own.header DEAD rs own has refl is in ((omega arith), (omega arith))

-- the held headers, of which one is held once
module _ (a : HeaderHolds) (own : HeldHeader) (has : Has own a.held) (one : held_in own.header a.held ≡ 1) where
  -- without a header that it had not fresh, it has fresh what it had
  without_fresh : rows_in own.header LIVE a.held ≡ 0 → (h : ℕ) → in_state h LIVE (record a { held = without_header own.header a.held }) ≡ in_state h LIVE a
  without_fresh none h = dite (ℕ_discrete h own.header) (λ e. subst (λ (k : ℕ). rows_in k LIVE (without_header own.header a.held) ≡ rows_in k LIVE a.held) (sym e) (rows_without-here own.header LIVE a.held ∙ sym none))
      (λ ne. rows_without-others own.header h LIVE a.held ne)

  none_unnamed : (rs : List HeldHeader) → rows_in own.header DEAD rs ≡ 0 → unnamed_in own.header rs ≡ 0
  none_unnamed rs none = let l = unnamed_le own.header rs in omega arith

  -- A lock is given up.
  module _ (at : AtLock) (locked : own.held_as ≡ Locked at) where
    alone : (rows_in own.header LIVE a.held ≡ 0) × (rows_in own.header DEAD a.held ≡ 0)
    alone = locked_alone a.held own one has (ap held_state locked)

    pub unlocked_fresh : (h : ℕ) → in_state h LIVE (record a { held = without_header own.header a.held }) ≡ in_state h LIVE a
    unlocked_fresh = without_fresh alone.0

    pub unlocked_unnamed : (h : ℕ) → unnamed h (record a { held = without_header own.header a.held }) ≡ unnamed h a
    unfolding unnamed_in
    unlocked_unnamed h = dite (ℕ_discrete h own.header) (λ e. subst (λ (k : ℕ). unnamed_in k (without_header own.header a.held) ≡ unnamed_in k a.held) (sym e) (none_unnamed (without_header own.header a.held) (rows_without-here own.header DEAD a.held) ∙ sym (none_unnamed a.held alone.1)))
        (λ ne. unnamed_without-others own.header h a.held ne)

    -- A locked header that an entry names is marked dead.

    pub buried_fresh : (h : ℕ) → in_state h LIVE (record a { held = buried_at own.header a.held }) ≡ in_state h LIVE a
    buried_fresh h = dite (ℕ_discrete h own.header) (λ e. subst (λ (k : ℕ). rows_in k LIVE (buried_at own.header a.held) ≡ rows_in k LIVE a.held) (sym e) (rows_buried-else own.header LIVE a.held (λ q. absurd (omega arith)) ∙ sym alone.0))
        (λ ne. rows_buried-others own.header h LIVE a.held ne)

  pub unlocked_holds : (word : ℕ → ℕ) (hist : ℕ → List KeyedWrite) → Each (λ (t : HeldHeader). t.header ≢ own.header → HoldStands word hist t.held_as t) a.held → Each (λ (t : HeldHeader). HoldStands word hist t.held_as t) (without_header own.header a.held)
  unlocked_holds word hist e = each_without-others (λ (t : HeldHeader). t.header ≢ own.header → HoldStands word hist t.held_as t) (λ (t : HeldHeader). HoldStands word hist t.held_as t) own.header a.held (λ r ne p. p ne) e

  -- a record that becomes a dead one is counted as unnamed no more than before, as it is named
  buried_row : (h : ℕ) (r : HeldHeader) → (r.header ≡ own.header → r.named ≡ true) → one_at r.header h * one_at (held_state (cond (r.header == own.header) Buried r.held_as)) DEAD * one_if (not r.named) ≡ one_at r.header h * one_at (held_state r.held_as) DEAD * one_if (not r.named)
  buried_row h r named = dite (ℕ_discrete r.header own.header)
      (λ e. ap (λ (t : Bool). one_at r.header h * one_at (held_state (cond (r.header == own.header) Buried r.held_as)) DEAD * one_if (not t)) (named e) ∙ (none (one_at r.header h * one_at (held_state (cond (r.header == own.header) Buried r.held_as)) DEAD)
      ∙ sym (ap (λ (t : Bool). one_at r.header h * one_at (held_state r.held_as) DEAD * one_if (not t)) (named e) ∙ none (one_at r.header h * one_at (held_state r.held_as) DEAD))))
      (λ ne. ap (λ (t : Bool). one_at r.header h * one_at (held_state (cond t Buried r.held_as)) DEAD * one_if (not r.named)) (ne_eqb r.header own.header ne))
    where
      none : (x : ℕ) → x * 0 ≡ 0
      none x = omega arith

  pub buried_unnamed : own.named ≡ true → (h : ℕ) → unnamed h (record a { held = buried_at own.header a.held }) ≡ unnamed h a
  unfolding total one_at
  buried_unnamed flag h = each_row a.held (only_row a.held own one has)
    where
      each_row : (rs : List HeldHeader) → Each (λ (r : HeldHeader). r.header ≡ own.header → r ≡ own) rs → total (λ (r : HeldHeader). one_at r.header h * one_at (held_state r.held_as) DEAD * one_if (not r.named)) (buried_at own.header rs) ≡ total (λ (r : HeldHeader). one_at r.header h * one_at (held_state r.held_as) DEAD * one_if (not r.named)) rs
      each_row [] e = refl
      each_row (r ∷ rs) e = (λ i. buried_row h r (λ s. ap (λ (t : HeldHeader). t.named) (e.0 s) ∙ flag) i + each_row rs e.1 i)

  pub buried_holds : (word : ℕ → ℕ) (hist : ℕ → List KeyedWrite) → Each (λ (t : HeldHeader). t.header ≢ own.header → HoldStands word hist t.held_as t) a.held → IsBurialOf word hist own → Each (λ (t : HeldHeader). HoldStands word hist t.held_as t) (buried_at own.header a.held)
  buried_holds word hist all burial = each_row a.held all (only_row a.held own one has)
    where
      one_row : (r : HeldHeader) → (r.header ≢ own.header → HoldStands word hist r.held_as r) → (r.header ≡ own.header → r ≡ own) → HoldStands word hist (cond (r.header == own.header) Buried r.held_as) (record r { held_as = cond (r.header == own.header) Buried r.held_as })
      one_row r p same = dite (ℕ_discrete r.header own.header)
          (λ e. subst (λ (t : Bool). HoldStands word hist (cond t Buried r.held_as) (record r { held_as = cond t Buried r.held_as })) (sym (eq-eqb r.header own.header e)) (burial_of r (subst (IsBurialOf word hist) (sym (same e)) burial)))
          (λ ne. subst (λ (t : Bool). HoldStands word hist (cond t Buried r.held_as) (record r { held_as = cond t Buried r.held_as })) (sym (ne_eqb r.header own.header ne)) (p ne))
        where
          burial_of : (r : HeldHeader) → IsBurialOf word hist r → IsBurialOf word hist (record r { held_as = Buried })
          burial_of r b = record { named = b.named; removed = b.removed }

      each_row : (rs : List HeldHeader) → Each (λ (t : HeldHeader). t.header ≢ own.header → HoldStands word hist t.held_as t) rs → Each (λ (r : HeldHeader). r.header ≡ own.header → r ≡ own) rs → Each (λ (t : HeldHeader). HoldStands word hist t.held_as t) (buried_at own.header rs)
      each_row [] p e = tt
      each_row (r ∷ rs) p e = (one_row r p.0 e.0, each_row rs p.1 e.1)

  -- A dead header that no entry names is taken back.
  module _ (buried : own.held_as ≡ Buried) where
    dead_rows : (rows_in own.header LIVE a.held ≡ 0) × (rows_in own.header DEAD a.held ≡ 1)
    dead_rows = dead_alone a.held own one has (ap held_state buried)

    pub returned_fresh : (h : ℕ) → in_state h LIVE (record a { held = without_header own.header a.held }) ≡ in_state h LIVE a
    returned_fresh = without_fresh dead_rows.0

    pub returned_unnamed : own.named ≡ false → (h : ℕ) → unnamed h (record a { held = without_header own.header a.held }) + one_at own.header h ≡ unnamed h a
    unfolding unnamed_in one_at
    returned_unnamed flag h = dite (ℕ_discrete h own.header) (λ e. subst (λ (k : ℕ). unnamed_in k (without_header own.header a.held) + one_at own.header k ≡ unnamed_in k a.held) (sym e) here)
        (λ ne. let o = one_at-other own.header h (λ q. ne (sym q)) in let u = unnamed_without-others own.header h a.held ne in omega arith)
      where
        counted : one_at own.header own.header * one_at (held_state own.held_as) DEAD * one_if (not own.named) ≡ 1
        counted = (λ i. one_at-same own.header own.header refl i * one_at (held_state (buried i)) DEAD * one_if (not (flag i)))

        here : unnamed_in own.header (without_header own.header a.held) + one_at own.header own.header ≡ unnamed_in own.header a.held
        here = let n = none_unnamed (without_header own.header a.held) (rows_without-here own.header DEAD a.held) in let o = one_at-same own.header own.header refl in let l = unnamed_le own.header a.held in let d = dead_rows in let d1 = d.1 in
            let t = total_has (λ (r : HeldHeader). one_at r.header own.header * one_at (held_state r.held_as) DEAD * one_if (not r.named)) a.held own has in let c = counted in omega arith
