-- The record of a header that a pass holds locked, where its list changes.
use Rattle.std.proofs.Common.{◌≡◌, ℕ, ◌==◌, cond, Bool, List, [], ◌∷◌, map, sym, refl, ap, ◌∙◌, Some, eq-eqb, ne_eqb}
use Rattle.std.proofs.lemmas.Option.{none-some, same_Some}
use mathlib.Core.Logic.{dite}
use native.Mathlib.Decide.{ℕ_discrete}
use Rattle.header_core.specs.HeaderHolds.{generation_held, place_held}
use Rattle.header_core.specs.declared.holds.HeldHeader.{HeldHeader}
use Rattle.oak_core.specs.MadeWrites.{held_header}
use Rattle.oak_core.proofs.held.HeldRowLaws.{row_mapped}
use Rattle.value_ops.specs.HeldValue.{stamp_held, words_in, value_locked, value_at_lock}
use Rattle.value_ops.specs.UnderLock.{LockRow}

-- what is read of a held header is read off its record
module _ (h : ℕ) (q : HeldHeader) where
  by_record : (A : Type 0) (f : HeldHeader → A) (d : A) (look : List HeldHeader → A) → ((r : HeldHeader) (rs : List HeldHeader) → look (r ∷ rs) ≡ cond (r.header == h) (f r) (look rs)) → (rs : List HeldHeader) → held_header h rs ≡ Some q → look rs ≡ f q
  unfolding held_header
  by_record A f d look step [] e = absurd (none-some q e)
  by_record A f d look step (r ∷ rs) e = step r rs ∙ dite (ℕ_discrete r.header h)
      (λ y. ap (λ (b : Bool). cond b (f r) (look rs)) (eq-eqb r.header h y) ∙ ap f (same_Some r q (sym (ap (λ (b : Bool). cond b (Some r) (held_header h rs)) (eq-eqb r.header h y)) ∙ e)))
      (λ n. ap (λ (b : Bool). cond b (f r) (look rs)) (ne_eqb r.header h n) ∙ by_record A f d look step rs (sym (ap (λ (b : Bool). cond b (Some r) (held_header h rs)) (ne_eqb r.header h n)) ∙ e))

  pub stamp_of_row : (rs : List HeldHeader) → held_header h rs ≡ Some q → stamp_held h rs ≡ q.stamp
  stamp_of_row = by_record ℕ (λ (r : HeldHeader). r.stamp) 0 (stamp_held h) (λ r rs. refl)

  pub place_of_row : (rs : List HeldHeader) → held_header h rs ≡ Some q → place_held h rs ≡ q.place
  place_of_row = by_record ℕ (λ (r : HeldHeader). r.place) 0 (place_held h) (λ r rs. refl)

  pub words_of_row : (rs : List HeldHeader) → held_header h rs ≡ Some q → words_in h rs ≡ q.words
  words_of_row = by_record (List ℕ) (λ (r : HeldHeader). r.words) [] (words_in h) (λ r rs. refl)

  pub value_of_row : (rs : List HeldHeader) → held_header h rs ≡ Some q → value_locked h rs ≡ value_at_lock q.held_as
  value_of_row = by_record (List ℕ) (λ (r : HeldHeader). value_at_lock r.held_as) [] (value_locked h) (λ r rs. refl)

  pub generation_of_row : (rs : List HeldHeader) → held_header h rs ≡ Some q → generation_held h rs ≡ q.generation
  generation_of_row = by_record ℕ (λ (r : HeldHeader). r.generation) 0 (generation_held h) (λ r rs. refl)

-- so a lock is one still where it leaves how they are held
abbrev pub lock_row_mapped : (f : HeldHeader → HeldHeader) → ((r : HeldHeader) → (f r).header ≡ r.header) → (h : ℕ) (rs ks : List HeldHeader) → ks ≡ map f rs → (l : LockRow h rs) → (f l.header).held_as ≡ l.header.held_as → LockRow h ks
lock_row_mapped f same h rs ks e l stays = record { header = f l.header; held = ap (held_header h) e ∙ row_mapped f same h l.header rs l.held; at = l.at; locked = stays ∙ l.locked }
