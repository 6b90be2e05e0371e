-- What a pass holds of headers once it has unlinked the buried header of a key: that one is named no more, and all others are as they were. And a header that is locked gets the key that its pass knows of it.
use Rattle.std.proofs.Common.{◌≡◌, ◌≢◌, ℕ, ◌+◌, ◌*◌, ◌==◌, ◌&&◌, not, cond, Bool, true, false, List, [], ◌∷◌, sym, refl, ap, ◌∙◌, subst, arith, eq-eqb, ne_eqb}
use Rattle.std.proofs.lemmas.Bool.{and_right}
use mathlib.Core.Logic.{dite}
use native.Mathlib.Decide.{ℕ_discrete}
use Rattle.oak_model.specs.Counts.{one_at, one_if, total, Each, Has}
use Rattle.oak_model.specs.KeyNumber.{key_number}
use Rattle.oak_model.proofs.Counting.{one_at-same, one_at-other, total_map}
use Rattle.header_core.specs.HeaderHolds.{held_state, in_state}
use Rattle.header_core.specs.HeaderStep.{locked_at}
use Rattle.header_core.specs.Headers.{HeaderMemory}
use Rattle.header_core.specs.declared.holds.HeaderHolds.{HeaderHolds}
use Rattle.header_core.specs.declared.holds.HeldAs.{HeldAs}
use Rattle.header_core.specs.declared.holds.HeldAs.TheVariants.{Buried}
use Rattle.header_core.specs.declared.holds.HeldHeader.{HeldHeader}
use Rattle.header_core.specs.declared.states.TheConstants.{LIVE, DEAD}
use Rattle.header_core.proofs.HeldHeaders.{held_in}
use Rattle.oak_core.specs.declared.states.KeyedWrite.{KeyedWrite}
use Rattle.oak_core.specs.KeyStates.{HoldStands, IsBurialOf, unnamed}
use Rattle.oak_core.specs.KeyedHeaders.{unlinked, keyed_at}
use Rattle.oak_core.proofs.held.LocksEnded.{only_row}

-- whether the record is the dead one of the key
abbrev is_its : List ℕ → HeldHeader → Bool
is_its key r = (key_number r.key == key_number key) && (held_state r.held_as == DEAD)

and_yes : (a : Bool) → (a && true) ≡ a
and_yes true = refl
and_yes false = refl

-- the key of the dead header own, which is held once; no other dead one that is named has that key
module _ (key : List ℕ) (own : HeldHeader) (buried : own.held_as ≡ Buried) (flag : own.named ≡ true) (same_key : key_number own.key ≡ key_number key) where
  its : is_its key own ≡ true
  its = (λ i. eq-eqb (key_number own.key) (key_number key) same_key i && (held_state (buried i) == DEAD))

  -- a record of another header stays as it is
  stays : (r : HeldHeader) → (held_state r.held_as ≡ DEAD → r.named ≡ true → key_number r.key ≡ key_number key → r.header ≡ own.header) → r.header ≢ own.header → (r.named && not (is_its key r)) ≡ r.named
  stays r alone ne = by r.named refl
    where
      by : (b : Bool) → r.named ≡ b → (b && not (is_its key r)) ≡ b
      by false e = refl
      by true e = ap not (dite (ℕ_discrete (key_number r.key) (key_number key))
          (λ k. dite (ℕ_discrete (held_state r.held_as) DEAD) (λ d. absurd (ne (alone d e k))) (λ nd. and_right (key_number r.key == key_number key) (held_state r.held_as == DEAD) (ne_eqb (held_state r.held_as) DEAD nd)))
          (λ nk. ap (λ (t : Bool). t && (held_state r.held_as == DEAD)) (ne_eqb (key_number r.key) (key_number key) nk)))

  goes : (r : HeldHeader) → r ≡ own → (r.named && not (is_its key r)) ≡ false
  goes r e = ap (λ (t : HeldHeader). t.named && not (is_its key t)) e ∙ and_right own.named (not (is_its key own)) (ap not its)

  abbrev count : ℕ → HeldHeader → ℕ
  count h r = one_at r.header h * one_at (held_state r.held_as) DEAD * one_if (not r.named)

  module _ (a : HeaderHolds) (has : Has own a.held) (one : held_in own.header a.held ≡ 1) (alone : Each (λ (r : HeldHeader). held_state r.held_as ≡ DEAD → r.named ≡ true → key_number r.key ≡ key_number key → r.header ≡ own.header) a.held) where
    pub unlinked_fresh : (h : ℕ) → in_state h LIVE (record a { held = unlinked key a.held }) ≡ in_state h LIVE a
    unlinked_fresh h = total_map (λ (r : HeldHeader). record r { named = r.named && not ((key_number r.key == key_number key) && (held_state r.held_as == DEAD)) }) (λ (r : HeldHeader). one_at r.header h * one_at (held_state r.held_as) LIVE) a.held

    one_more : (h : ℕ) (r : HeldHeader) → (held_state r.held_as ≡ DEAD → r.named ≡ true → key_number r.key ≡ key_number key → r.header ≡ own.header) → (r.header ≡ own.header → r ≡ own)
        → one_at r.header h * one_at (held_state r.held_as) DEAD * one_if (not (r.named && not (is_its key r))) ≡ count h r + one_at own.header h * one_at r.header own.header
    one_more h r alone_one same = dite (ℕ_discrete r.header own.header)
        (λ e. subst (λ (t : HeldHeader). one_at t.header h * one_at (held_state t.held_as) DEAD * one_if (not (t.named && not (is_its key t))) ≡ count h t + one_at own.header h * one_at t.header own.header) (sym (same e)) here)
        (λ ne. ap (λ (t : Bool). one_at r.header h * one_at (held_state r.held_as) DEAD * one_if (not t)) (stays r alone_one ne) ∙ sym (ap (λ (t : ℕ). count h r + one_at own.header h * t) (one_at-other r.header own.header ne) ∙ none (count h r) (one_at own.header h)))
      where
        none : (x y : ℕ) → x + y * 0 ≡ x
        none x y = grind arith

        first : (x y : ℕ) → x * y * 1 ≡ x * y
        first x y = grind arith

        last : (x y w : ℕ) → y ≡ 1 → w ≡ 1 → x * y ≡ x * y * 0 + x * w
        last x y w e f = grind arith

        here : one_at own.header h * one_at (held_state own.held_as) DEAD * one_if (not (own.named && not (is_its key own))) ≡ count h own + one_at own.header h * one_at own.header own.header
        here = ap (λ (t : Bool). one_at own.header h * one_at (held_state own.held_as) DEAD * one_if (not t)) (goes own refl) ∙ (first (one_at own.header h) (one_at (held_state own.held_as) DEAD)
            ∙ (last (one_at own.header h) (one_at (held_state own.held_as) DEAD) (one_at own.header own.header) (ap (λ (s : HeldAs). one_at (held_state s) DEAD) buried ∙ one_at-same DEAD DEAD refl) (one_at-same own.header own.header refl)
            ∙ ap (λ (t : Bool). one_at own.header h * one_at (held_state own.held_as) DEAD * one_if (not t) + one_at own.header h * one_at own.header own.header) (sym flag)))

    pub unlinked_unnamed : (h : ℕ) → unnamed h (record a { held = unlinked key a.held }) ≡ unnamed h a + one_at own.header h
    unfolding total
    unlinked_unnamed h = let t = each_row a.held alone (only_row a.held own one has) in let d : one_at own.header h * held_in own.header a.held ≡ one_at own.header h = ap (λ (n : ℕ). one_at own.header h * n) one ∙ (let u : one_at own.header h * 1 ≡ one_at own.header h = omega arith in u) in omega arith
      where
        times : (x y w : ℕ) → x * (y + w) ≡ x * y + x * w
        times x y w = grind arith

        each_row : (rs : List HeldHeader) → Each (λ (r : HeldHeader). held_state r.held_as ≡ DEAD → r.named ≡ true → key_number r.key ≡ key_number key → r.header ≡ own.header) rs → Each (λ (r : HeldHeader). r.header ≡ own.header → r ≡ own) rs
            → total (λ (r : HeldHeader). one_at r.header h * one_at (held_state r.held_as) DEAD * one_if (not r.named)) (unlinked key rs) ≡ total (λ (r : HeldHeader). one_at r.header h * one_at (held_state r.held_as) DEAD * one_if (not r.named)) rs + one_at own.header h * held_in own.header rs
        each_row [] al e = let z : one_at own.header h * 0 ≡ 0 = omega arith in omega arith
        each_row (r ∷ rs) al e = let t = each_row rs al.1 e.1 in let o = one_more h r al.0 e.0 in let d = times (one_at own.header h) (one_at r.header own.header) (held_in own.header rs) in omega arith

    pub unlinked_holds : (word : ℕ → ℕ) (hist : ℕ → List KeyedWrite) → Each (λ (t : HeldHeader). t.header ≢ own.header → HoldStands word hist t.held_as t) a.held → IsBurialOf word hist (record own { named = false }) → Each (λ (t : HeldHeader). HoldStands word hist t.held_as t) (unlinked key a.held)
    unlinked_holds word hist all burial = each_row a.held all alone (only_row a.held own one has)
      where
        one_row : (r : HeldHeader) → (r.header ≢ own.header → HoldStands word hist r.held_as r) → (held_state r.held_as ≡ DEAD → r.named ≡ true → key_number r.key ≡ key_number key → r.header ≡ own.header) → (r.header ≡ own.header → r ≡ own)
            → HoldStands word hist r.held_as (record r { named = r.named && not (is_its key r) })
        one_row r p alone_one same = dite (ℕ_discrete r.header own.header)
            (λ e. subst (λ (b : Bool). HoldStands word hist r.held_as (record r { named = b })) (sym (goes r (same e))) (subst (λ (t : HeldHeader). HoldStands word hist t.held_as (record t { named = false })) (sym (same e)) (subst (λ (s : HeldAs). HoldStands word hist s (record own { named = false })) (sym buried) burial)))
            (λ ne. subst (λ (b : Bool). HoldStands word hist r.held_as (record r { named = b })) (sym (stays r alone_one ne)) (p ne))

        each_row : (rs : List HeldHeader) → Each (λ (t : HeldHeader). t.header ≢ own.header → HoldStands word hist t.held_as t) rs → Each (λ (r : HeldHeader). held_state r.held_as ≡ DEAD → r.named ≡ true → key_number r.key ≡ key_number key → r.header ≡ own.header) rs
            → Each (λ (r : HeldHeader). r.header ≡ own.header → r ≡ own) rs → Each (λ (t : HeldHeader). HoldStands word hist t.held_as t) (unlinked key rs)
        each_row [] p al e = tt
        each_row (r ∷ rs) p al e = (one_row r p.0 al.0 e.0, each_row rs p.1 al.1 e.1)

-- a lock gets its key, where the pass had not had the header
pub locked_keyed : (m : HeaderMemory) (content : ℕ → List ℕ) (h : ℕ) (key : List ℕ) (rs : List HeldHeader) → held_in h rs ≡ 0 → keyed_at h key (locked_at m content h ∷ rs) ≡ record (locked_at m content h) { key = key } ∷ rs
unfolding total
locked_keyed m content h key rs none = (λ i. record (locked_at m content h) { key = cond (eq-eqb h h refl i) key [] } ∷ keyed_none rs none i)
  where
    keyed_none : (rs : List HeldHeader) → held_in h rs ≡ 0 → keyed_at h key rs ≡ rs
    keyed_none [] z = refl
    keyed_none (r ∷ rs) z = (λ i. record r { key = cond (ne_eqb r.header h (λ e. let o = one_at-same r.header h e in absurd (omega arith)) i) key r.key } ∷ keyed_none rs (omega arith) i)
