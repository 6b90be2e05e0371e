-- A value of another class, found under a lock that was given up, and what the pass knows of the life behind the lock.
use Rattle.std.proofs.Common.{◌≡◌, ℕ, suc, ◌*◌, ◌≤◌, List, [], ◌∷◌, length, Some, sym, refl, ap, ◌∙◌, subst, arith}
use Rattle.std.proofs.lemmas.List.{length-take}
use Rattle.std.proofs.lemmas.Option.{same_Some}
use Rattle.std.proofs.Math.Nat.{min-eq_left}
use Rattle.oak_model.specs.declared.classes.Class.{Class}
use Rattle.oak_model.specs.Class.{class_number, class_of}
use Rattle.oak_model.specs.History.{state_at}
use Rattle.oak_model.specs.KeyNumber.{key_number}
use Rattle.oak_model.specs.Limits.{Sizes}
use Rattle.oak_model.specs.State.{State}
use Rattle.oak_model.specs.WordBytes.{bytes_of}
use Rattle.oak_model.proofs.HistoryLaws.{Extends-self, state_at-end}
use Rattle.oak_model.proofs.Lists.{begins_length}
use Rattle.arena_core.specs.Arena.{block_words}
use Rattle.arena_core.specs.Place.{IsPlace, class_in, length_in}
use Rattle.arena_core.proofs.ByteFacts.{length-bytes_of}
use Rattle.arena_core.proofs.ClassRooms.{place_room}
use Rattle.arena_core.proofs.PlaceLaws.{same_class}
use Rattle.header_core.specs.declared.states.TheConstants.{LOCKED}
use Rattle.header_core.specs.HeaderHolds.{place_held}
use Rattle.header_core.specs.HeaderStep.{lock_header}
use Rattle.oak_core.specs.declared.states.KeyedWrite.{KeyedWrite}
use Rattle.oak_core.specs.declared.states.PassState.{PassState}
use Rattle.oak_core.specs.CallSteps.{Stands}
use Rattle.oak_core.specs.Finding.{LoadsMore, grown}
use Rattle.oak_core.specs.HeaderTeaching.{lock_taught, locks_known}
use Rattle.oak_core.specs.KeyHistories.{writes_of}
use Rattle.oak_core.specs.KnownPlaces.{ReadAt}
use Rattle.oak_core.specs.LastReads.{EndsAs}
use Rattle.oak_core.specs.Memory.{memory}
use Rattle.oak_core.specs.PassState.{Extends, seen_of}
use Rattle.oak_core.specs.Step.{on_headers}
use Rattle.oak_core.proofs.calls.CallSteps.{sights_same}
use Rattle.value_ops.specs.HeldValue.{value_held, words_in}
use Rattle.value_ops.specs.LockHistories.{LocksKey}
use Rattle.value_ops.specs.Locking.{LocksHeader}
use Rattle.value_ops.specs.Pinning.{KnowsLife, KnowsMore}
use Rattle.value_ops.specs.UnderLock.{GivesUp, HasLock}
use Rattle.value_ops.proofs.HeldValues.{is_place, words_long}
use Rattle.value_ops.proofs.LearnFacts.{knows_taught, life_stays}
use Rattle.point_ops.specs.Changes.{HasOtherClass}
use Rattle.point_ops.proofs.WritesIn.{sighted_until}

-- the life that a pass knew it knows still behind a lock, which teaches nothing but a key
pub life_locked : (z : Sizes) (call h g : ℕ) (v u w : PassState) → LocksHeader z call h g v u → w.knowledge ≡ u.knowledge → (i j : ℕ) (k : List ℕ) → KnowsLife i j k v.knowledge → KnowsLife i j k w.knowledge
life_locked z call h g v u w l same i j k knows = subst (KnowsLife i j k) (sym same) (life_stays i j k v.knowledge u.knowledge more knows)
  where
    more : KnowsMore v.knowledge u.knowledge
    more = let t = l.told in let m = memory z t.table.words in
        knows_taught z call (on_headers (lock_header h l.number)) (grown l.before v) l.number u t (locks_known h l.number (m.headers.pin h) v.knowledge) (lock_taught h l.number (m.headers.stamp h) v.knowledge) (ap (λ (y : PassState). y.knowledge) t.after)

-- what is known to end so was read so, since a state that had seen no more
writes_length : (ws : List KeyedWrite) → length (writes_of ws) ≡ length ws
writes_length [] = refl
writes_length (x ∷ xs) = ap suc (writes_length xs)

pub ends_read : (k at : ℕ) (s : State) (v w : PassState) → Extends v w → EndsAs k at s w.knowledge → ReadAt k at s v w
ends_read k at s v w longer e = let seen = seen_of k w.knowledge in record {
  place = length seen;
  known = e.known;
  from = begins_length (seen_of k v.knowledge) seen (longer k);
  to = omega arith;
  state = ap (state_at (writes_of seen)) (sym (writes_length seen)) ∙ (state_at-end (writes_of seen) (writes_of seen) (Extends-self (writes_of seen)) ∙ e.state);
}

-- The lock was given up in one step: its place word named a block then, of the class of its value.
module _ (z : Sizes) (given_at h g stamp : ℕ) (v w : PassState) (lock : HasLock z h g v) (t : GivesUp z given_at h g stamp v w) where
  abbrev place : ℕ
  place = place_held h v.headers.held

  placed : IsPlace (place_held h v.headers.held)
  placed = let told = t.ends.told in is_place z told.table told.rule told.seat v told.here h LOCKED (omega arith) (omega arith) lock.locked

  value_long : length (value_held h v.headers.held) ≡ length_in (place_held h v.headers.held)
  value_long = let told = t.ends.told in let ws : List ℕ = words_in h v.headers.held in let room : length_in place ≤ 8 * block_words (class_in place) = place_room place placed in
      let long : length ws ≡ block_words (class_in place) = words_long z told.table told.rule told.seat v told.here h LOCKED (omega arith) (omega arith) lock.locked in
      let e : length (bytes_of ws) ≡ 8 * length ws = length-bytes_of ws in length-take (length_in place) (bytes_of ws) ∙ min-eq_left (let le : length_in place ≤ length (bytes_of ws) = omega arith in le)

  pub value_class : (d c : Class) → class_number d ≡ class_in (place_held h v.headers.held) → (d ≡ c → ⊥) → class_of (length (value_held h v.headers.held)) ≡ Some c → ⊥
  value_class d c is other e = other (same_class d c (is ∙ (placed.is_in ∙ ap class_number (same_Some placed.class c (sym placed.fits ∙ (sym (ap class_of value_long) ∙ e))))))

-- so a key whose header was locked, and whose block was found of another class, had a value of another class
pub other_class : (z : Sizes) (call loaded_at given_at stamp h g : ℕ) (k : List ℕ) (c d : Class) (v u y x w : PassState) → (t : LocksKey z call k h g v u) → LoadsMore z loaded_at u y → HasLock z h g y → class_number d ≡ class_in (place_held h u.headers.held) → (d ≡ c → ⊥)
    → GivesUp z given_at h g stamp y x → Extends v w → Stands call u w → HasOtherClass c k v w
other_class z call loaded_at given_at stamp h g k c d v u y x w t met lock is other gave longer stands = record {
  at = t.stamp;
  bytes = t.before;
  read = ends_read (key_number k) t.stamp (Some t.before) v w longer (subst (EndsAs (key_number k) t.stamp (Some t.before)) (sym stands.knowledge) t.ends);
  sighted = sighted_until call (key_number k) t.stamp v u w (sights_same call u w stands.sights) t.sighted;
  other = λ e. value_class z given_at h g stamp y x lock gave d c (is ∙ sym (ap (λ (s : PassState). class_in (place_held h s.headers.held)) met.after)) other (ap (λ (b : List ℕ). class_of (length b)) (ap (λ (s : PassState). value_held h s.headers.held) met.after ∙ t.value) ∙ e);
}
