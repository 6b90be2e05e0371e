-- What a pass knows behind a step, in the forms in which the laws on writes and lessons speak of it.
use Rattle.std.proofs.Common.{◌≡◌, ◌≢◌, ℕ, ◌-◌, ◌==◌, not, cond, Bool, true, false, List, sym, ap, ◌∙◌, Option, Some, eq-eqb, ne_eqb}
use Rattle.pin_word.specs.PinWord.{generation_of}
use Rattle.oak_model.specs.KeyNumber.{key_number}
use Rattle.oak_model.specs.declared.writes.Kind.{Kind}
use Rattle.oak_model.proofs.Counting.{true_both}
use Rattle.header_core.specs.HeaderStep.{pin_header, lock_header, unlock_header, mark_dead}
use Rattle.header_core.specs.declared.holds.AtLock.{AtLock}
use Rattle.header_core.specs.declared.holds.HeldAs.{HeldAs}
use Rattle.header_core.specs.declared.holds.HeldAs.TheVariants.{Locked}
use Rattle.header_core.specs.declared.holds.HeldHeader.{HeldHeader}
use Rattle.chunk_core.specs.RoomStep.{set_value}
use Rattle.chunk_core.specs.ValueWord.{header_in}
use Rattle.oak_core.specs.declared.states.Knowledge.{Knowledge}
use Rattle.oak_core.specs.declared.states.PassState.{PassState}
use Rattle.oak_core.specs.FoundKeys.{pinned_key}
use Rattle.oak_core.specs.HeaderTeaching.{is_over, finds_over, over_taught, locks_known, knows_by_header}
use Rattle.oak_core.specs.KeyHistories.{removed_at}
use Rattle.oak_core.specs.KeyReads.{home_of}
use Rattle.oak_core.specs.Learning.{wrote, taught_by, taught_where, of_key_to}
use Rattle.oak_core.specs.LifeKeys.{key_known, key_or, is_known}
use Rattle.oak_core.specs.MadeWrites.{held_header, insertion, over_write, removal, is_changed, wrote_insertion, wrote_over, wrote_removal, wrote_where}
use Rattle.oak_core.specs.Memory.{Memory}
use Rattle.oak_core.specs.PassState.{history}
use Rattle.oak_core.specs.RoomTeaching.{knows_by_room}

module _ (call : ℕ) (m : Memory) (qs : List Knowledge) (v : PassState) where
  -- a fresh header is set, where the floor is found
  pub set_knowledge : (r i old new : ℕ) (kind : Kind) (key : List ℕ) (own : HeldHeader) → m.rooms.value r i ≡ old → pinned_key r i v.rooms.pin ≡ Some key → held_header (header_in new) v.headers.held ≡ Some own
      → knows_by_room call (set_value r i old new kind) m qs v ≡ wrote (key_number key) (insertion v.numbers.number call kind key own) qs v.knowledge
  set_knowledge r i old new kind key own found pinned held = ap (λ (t : Bool). cond t (wrote_insertion v.numbers.number call kind (pinned_key r i v.rooms.pin) (held_header (header_in new) v.headers.held) qs v.knowledge) v.knowledge) (eq-eqb (m.rooms.value r i) old found)
      ∙ (λ j. wrote_insertion v.numbers.number call kind (pinned j) (held j) qs v.knowledge)

  -- another word is found
  pub unset_knowledge : (r i old new : ℕ) (kind : Kind) → m.rooms.value r i ≢ old → knows_by_room call (set_value r i old new kind) m qs v ≡ v.knowledge
  unset_knowledge r i old new kind other = ap (λ (t : Bool). cond t (wrote_insertion v.numbers.number call kind (pinned_key r i v.rooms.pin) (held_header (header_in new) v.headers.held) qs v.knowledge) v.knowledge) (ne_eqb (m.rooms.value r i) old other)

  -- a header of which the key is known is locked
  pub lock_knowledge : (h old : ℕ) (key : List ℕ) → key_known h (generation_of old) v.knowledge ≡ Some key → m.headers.pin h ≡ old → knows_by_header call (lock_header h old) m qs v ≡ taught_by (of_key_to key (m.headers.stamp h)) qs v.knowledge
  lock_knowledge h old key knows found = λ j. taught_where (shown j) (of_key_to (key_or (knows j)) (m.headers.stamp h)) qs v.knowledge
    where
      shown : locks_known h old (m.headers.pin h) v.knowledge ≡ true
      shown = true_both (is_known (key_known h (generation_of old) v.knowledge)) (m.headers.pin h == old) (ap is_known knows) (eq-eqb (m.headers.pin h) old found)

  -- a pin finds a known life over
  pub over_knowledge : (h g : ℕ) (key : List ℕ) → key_known h g v.knowledge ≡ Some key → is_over g (m.headers.pin h) ≡ true → knows_by_header call (pin_header h g) m qs v ≡ taught_by (of_key_to key (removed_at (home_of h g) (history (key_number key) qs) - 1)) qs v.knowledge
  over_knowledge h g key knows over = λ j. taught_where (shown j) (of_key_to (key_or (knows j)) (removed_at (home_of h g) (history (key_number (key_or (knows j))) qs) - 1)) qs v.knowledge
    where
      shown : finds_over h g (m.headers.pin h) v.knowledge ≡ true
      shown = true_both (is_known (key_known h g v.knowledge)) (is_over g (m.headers.pin h)) (ap is_known knows) over

  -- it does not
  pub pin_knowledge : (h g : ℕ) → finds_over h g (m.headers.pin h) v.knowledge ≡ false → knows_by_header call (pin_header h g) m qs v ≡ v.knowledge
  pin_knowledge h g none = ap (λ (t : Bool). taught_where t (over_taught h g qs v.knowledge) qs v.knowledge) none

  -- a lock is ended with a write, or with none
  module _ (h : ℕ) (own : HeldHeader) (held : held_header h v.headers.held ≡ Some own) where
    pub removal_knowledge : knows_by_header call (mark_dead h) m qs v ≡ wrote (key_number own.key) (removal v.numbers.number call own) qs v.knowledge
    removal_knowledge = ap (λ (o : Option HeldHeader). wrote_removal v.numbers.number call o qs v.knowledge) held

    module _ (kind : Kind) (at : AtLock) (locked : own.held_as ≡ Locked at) where
      ended : (b : Bool) → (at.stamp == own.stamp) ≡ b → knows_by_header call (unlock_header h kind) m qs v ≡ wrote_where (not b) (over_write v.numbers.number call kind own) qs v.knowledge
      ended b e = ap (λ (o : Option HeldHeader). wrote_over v.numbers.number call kind o qs v.knowledge) held ∙ (ap (λ (s : HeldAs). wrote_where (is_changed s own) (over_write v.numbers.number call kind own) qs v.knowledge) locked
          ∙ ap (λ (t : Bool). wrote_where (not t) (over_write v.numbers.number call kind own) qs v.knowledge) e)

      pub changed_knowledge : own.stamp ≢ at.stamp → knows_by_header call (unlock_header h kind) m qs v ≡ wrote (key_number own.key) (over_write v.numbers.number call kind own) qs v.knowledge
      changed_knowledge ne = ended false (ne_eqb at.stamp own.stamp (λ e. ne (sym e)))

      pub unchanged_knowledge : own.stamp ≡ at.stamp → knows_by_header call (unlock_header h kind) m qs v ≡ v.knowledge
      unchanged_knowledge e = ended true (eq-eqb at.stamp own.stamp (sym e))
