-- A pass that has just locked a header has its lock, and nothing is changed under it.
use Rattle.std.proofs.Common.{◌≡◌, ℕ, ◌<◌, cond, Bool, List, [], ◌∷◌, map, sym, refl, ap, ◌∙◌, subst, arith, eq-eqb, Option, Some}
use Rattle.pin_word.specs.PinWord.{generation_of}
use Rattle.oak_model.specs.Counts.{total, Each}
use Rattle.oak_model.specs.Limits.{Sizes}
use Rattle.oak_model.proofs.Counting.{one_at-same, total_at}
use Rattle.oak_model.proofs.Lists.{at_map}
use Rattle.arena_core.specs.Place.{content}
use Rattle.header_core.specs.declared.states.TheConstants.{LOCKED}
use Rattle.header_core.specs.declared.holds.HeldHeader.{HeldHeader}
use Rattle.header_core.specs.HeaderHolds.{in_state, generation_held, place_held}
use Rattle.header_core.specs.HeaderStep.{locked_at}
use Rattle.header_core.proofs.HeldChanges.{rows_taken-here}
use Rattle.header_core.proofs.HeldHeaders.{held_in}
use Rattle.oak_core.specs.declared.states.PassState.{PassState}
use Rattle.oak_core.specs.Memory.{Memory, memory}
use Rattle.oak_core.specs.Finding.{grown}
use Rattle.oak_core.specs.PassState.{headers_held}
use Rattle.oak_core.proofs.memory.Words.{memory_read}
use Rattle.value_ops.specs.Claiming.{pin_spot, holds_header}
use Rattle.value_ops.specs.Locking.{LocksHeader}
use Rattle.value_ops.specs.UnderLock.{HasLock, IsAsAtLock, IsUnchanged}
use Rattle.header_core.specs.declared.holds.HeaderHolds.{HeaderHolds}
use Rattle.header_core.specs.declared.holds.AtLock.{AtLock}
use Rattle.oak_model.specs.KeyNumber.{key_number}
use Rattle.oak_core.specs.KeyReads.{value_in}
use Rattle.oak_core.specs.LifeKeys.{key_known, key_or}
use Rattle.oak_core.specs.MadeWrites.{held_header}
use Rattle.oak_core.proofs.told.LockTold.{lock_sighted, lock_place, lock_state}
use Rattle.value_ops.specs.HeldValue.{value_held, words_in, stamp_held, value_locked, value_at_lock}
use Rattle.value_ops.specs.LockHistories.{LocksKey}

-- of a header that is not in the list, each record of it has anything
each_of_none : (P : HeldHeader → Type 0) (h : ℕ) (rs : List HeldHeader) → held_in h rs ≡ 0 → Each (λ (r : HeldHeader). r.header ≡ h → P r) rs
unfolding total
each_of_none P h [] none = tt
each_of_none P h (r ∷ rs) none = ((λ e. let o = one_at-same r.header h e in absurd (omega arith)), each_of_none P h rs (omega arith))

module _ (z : Sizes) (call h g : ℕ) (v w : PassState) (l : LocksHeader z call h g v w) where
  abbrev m : Memory
  m = memory z l.told.table.words

  abbrev row : HeldHeader
  row = record (locked_at m.headers (content m.arena.bytes) h) { key = key_or (key_known h g v.knowledge) }

  held_is : w.headers.held ≡ row ∷ v.headers.held
  held_is = ap (λ (a : HeaderHolds). a.held) l.headers

  abbrev at : AtLock
  at = record { place = m.headers.place h; stamp = m.headers.stamp h; words = content m.arena.bytes (m.headers.place h) }

  pub has_lock : HasLock z h g w
  unfolding held_header
  has_lock = record {
    inside = l.inside;
    locked = subst (λ (a : HeaderHolds). 0 < in_state h LOCKED a) (sym l.headers) (let e = rows_taken-here row h LOCKED v.headers.held refl in let o = one_at-same LOCKED LOCKED refl in omega arith);
    generation = ap (generation_held h) held_is ∙ (ap (λ (b : Bool). cond b row.generation (generation_held h v.headers.held)) (eq-eqb h h refl) ∙ (ap generation_of (memory_read z l.told.table.words (pin_spot h) l.inside ∙ l.told.finds) ∙ l.generation));
    row = record { header = row; held = ap (held_header h) held_is ∙ ap (λ (b : Bool). cond b (Some row) (held_header h v.headers.held)) (eq-eqb h h refl); at = at; locked = refl };
    unstamped = refl;
  }

  pub is_unchanged : IsUnchanged h w.headers.held
  is_unchanged = subst (λ (rs : List HeldHeader). IsUnchanged h rs) (sym held_is) (
    (λ _. (refl, refl, refl)),
    each_of_none (λ (r : HeldHeader). IsAsAtLock r.held_as r) h v.headers.held
        (let t = total_at (holds_header h) (map headers_held l.told.table.states) l.told.seat v.headers (at_map headers_held l.told.table.states l.told.seat (grown l.before v) l.told.here) in let n = l.unheld in omega arith),
  )

  -- all that was written of the life's key was learned, where the pass knew it
  pub locks_key : (key : List ℕ) → key_known h g v.knowledge ≡ Some key → LocksKey z call key h g v w
  unfolding held_header has_lock
  locks_key key knows = let known_so = ap (λ (x : ℕ). key_known h x v.knowledge) l.generation ∙ knows in record {
    before = value_in (m.headers.place h) (content m.arena.bytes (m.headers.place h));
    stamp = m.headers.stamp h;
    lock = record {
      lock = has_lock;
      key_is = ap (λ (o : Option (List ℕ)). key_number (key_or o)) knows;
      value = ap (value_locked h) held_is ∙ ap (λ (b : Bool). cond b (value_at_lock row.held_as) (value_locked h v.headers.held)) (eq-eqb h h refl);
      stamp_is = ap (stamp_held h) held_is ∙ ap (λ (b : Bool). cond b row.stamp (stamp_held h v.headers.held)) (eq-eqb h h refl);
    };
    value = ap (value_held h) held_is ∙ (λ i. value_in (cond (eq-eqb h h refl i) row.place (place_held h v.headers.held)) (cond (eq-eqb h h refl i) row.words (words_in h v.headers.held)));
    sighted = lock_sighted z call h l.number (grown l.before v) l.number w l.told l.live.state refl key known_so;
    ends = record { known = lock_place z call h l.number (grown l.before v) l.number w l.told l.live.state refl key known_so; state = lock_state z call h l.number (grown l.before v) l.number w l.told l.live.state refl key known_so };
  }
