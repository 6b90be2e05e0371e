-- What a change of a present value leaves of the words, under the lock of a pass that is alone: rooms, and the pin words of headers.
use Rattle.std.proofs.Common.{◌≡◌, ℕ, ◌+◌, ◌-◌, ◌*◌, ◌<◌, ◌≤◌, ◌⊎◌, List, length, length-set, refl, sym, ap, ◌∙◌, subst, arith, inl, inr, ⊎_elim, Some}
use Rattle.std.proofs.lemmas.List.{length-take}
use Rattle.std.proofs.Math.Nat.{min-le_left}
use Rattle.pin_word.specs.PinWord.{STATE}
use Rattle.oak_model.specs.declared.classes.Class.{Class}
use Rattle.oak_model.specs.declared.recipes.RecipeKind.{RecipeKind}
use Rattle.oak_model.specs.Class.{class_number, class_of}
use Rattle.oak_model.specs.Limits.{Sizes}
use Rattle.oak_model.specs.Recipe.{recipe_result}
use Rattle.oak_model.specs.WordBytes.{bytes_of}
use Rattle.arena_core.specs.Arena.{at_bytes, block_words, blocks}
use Rattle.arena_core.specs.Place.{IsPlace, block_in, class_in, content, length_in}
use Rattle.arena_core.specs.Words.{words_of}
use Rattle.arena_core.proofs.ClassRooms.{class_room, place_room}
use Rattle.arena_core.proofs.PlaceLaws.{class_below}
use Rattle.arena_core.proofs.WordLaws.{words_long}
use Rattle.header_core.specs.declared.states.TheConstants.{LOCKED}
use Rattle.header_core.specs.Headers.{at_pin, at_place, at_stamp}
use Rattle.header_core.specs.HeaderHolds.{in_state}
use Rattle.header_core.specs.HeaderStep.{lock_header}
use Rattle.oak_core.specs.declared.states.PassState.{PassState}
use Rattle.oak_core.specs.AloneWords.{Moment, Runs}
use Rattle.oak_core.specs.Finding.{grown}
use Rattle.oak_core.specs.Memory.{Spot, at_given, in_arena, in_headers, in_rooms, index, memory, read, word_count}
use Rattle.oak_core.specs.Step.{on_headers}
use Rattle.oak_core.specs.TableState.{TableState}
use Rattle.oak_core.proofs.seats.AloneRuns.{Then, moment_after, runs_as, runs_then}
use Rattle.oak_core.proofs.memory.ArenaNames.{bit_inside}
use Rattle.arena_ops.specs.Looking.{bit_spot}
use Rattle.arena_ops.specs.Taking.{ClearsBit}
use Rattle.arena_ops.proofs.PutWords.{spot_from}
use Rattle.value_ops.specs.AloneLocks.{AppliesTo, ChangesWord, FindsClass, LocksPin, RefillsWords, WritesWords, first_in, pin_in, place_in, put_bytes, put_place, put_stamp, value_in}
use Rattle.value_ops.specs.Claiming.{pin_spot}
use Rattle.value_ops.specs.Locking.{LocksHeader}
use Rattle.value_ops.specs.UnderLock.{HasLock}
use Rattle.value_ops.proofs.HeldValues.{block_inside, is_place, place_at}
use Rattle.value_ops.proofs.RecipeFacts.{made_long}
use Rattle.point_ops.specs.LoneInserts.{IsOfBlock, KeepsBut, MakesBlockIn}
use Rattle.point_ops.specs.LoneLives.{IsOfLife, KeepsButLife}
use Rattle.point_ops.proofs.LoneChanges.{FreeIn}
use Rattle.point_ops.proofs.LoneTakes.{left_words, runs_left}
use Rattle.point_ops.proofs.LoneWords.{but_as, but_both, but_put, but_same, but_set, read_stored}

-- the words are those of a table, in which the place word of the header names a block
pub record HasBlockIn (z : Sizes) (h : ℕ) (words : List ℕ) : Type 0 where
  pub wide : length words ≡ word_count z
  pub placed : IsPlace (place_in z h words)
  pub inside : block_in (place_in z h words) < blocks z (class_in (place_in z h words))

pub block_there : (z : Sizes) (words : List ℕ) (u : PassState) → Moment z words u → (h : ℕ) → 0 < in_state h LOCKED u.headers → HasBlockIn z h words
block_there z words u m h held = let table : TableState = record { words = words; states = m.states } in let same = place_at z table m.rule m.seat u m.here h LOCKED (omega arith) (omega arith) held in record {
  wide = m.rule.words.counted;
  placed = subst IsPlace (sym same) (is_place z table m.rule m.seat u m.here h LOCKED (omega arith) (omega arith) held);
  inside = subst (λ (p : ℕ). block_in p < blocks z (class_in p)) (sym same) (block_inside z table m.rule m.seat u m.here h LOCKED (omega arith) (omega arith) held);
}

-- the lock leaves such words
abbrev pub LocksWhole : Sizes → (h g : ℕ) → (before after : List ℕ) → Type 0
LocksWhole z h g before after = LocksPin z h g before after × HasBlockIn z h after

pub lock_whole : (z : Sizes) (call h g i j : ℕ) (v u : PassState) → i ≡ h → LocksHeader z call h g v u → HasLock z i j u → Runs (LocksPin z h g) v u → Runs (LocksWhole z h g) v u
lock_whole z call h g i j v u same l has still = runs_left (LocksPin z h g) (LocksWhole z h g) v u
    (λ e. let n = ap (λ (y : PassState). length y.headers.held) e ∙ ap (λ a. length a.held) l.headers in absurd (omega arith))
    (λ a b left p. (
      p,
      block_there z b u (subst (λ (ws : List ℕ). Moment z ws u) (sym (left_words z call (on_headers (lock_header h l.number)) (grown l.before v) l.number u l.told b left))
          (moment_after z call (on_headers (lock_header h l.number)) (grown l.before v) l.number u l.told)) h (subst (λ (k : ℕ). 0 < in_state k LOCKED u.headers) same has.locked),
    ))
    still

-- words of the arena alone
abbrev IsOfArena : Spot → Type 0
IsOfArena (in_arena p) = Unit {0}
IsOfArena _ = ⊥

of_life : (h : ℕ) (p : Spot) → IsOfArena p → IsOfLife h p
of_life h (in_arena p) a = tt
of_life h at_given a = absurd a
of_life h (in_headers p) a = absurd a
of_life h (in_rooms p) a = absurd a

-- the same, or any word of the header
abbrev IsNear : ℕ → Spot → Type 0
IsNear h (in_headers (at_pin k)) = k ≡ h
IsNear h p = IsOfLife h p

near : (h : ℕ) (p : Spot) → IsOfLife h p → IsNear h p
near h (in_arena p) a = a
near h at_given a = a
near h (in_headers (at_pin k)) a = absurd a
near h (in_headers (at_place k)) a = a
near h (in_headers (at_stamp k)) a = a
near h (in_rooms p) a = a

module _ (z : Sizes) (h : ℕ) where
  -- bytes that are put in the header's block
  bytes_put : (bytes words : List ℕ) → HasBlockIn z h words → length bytes ≤ 8 * block_words (class_in (place_in z h words)) → KeepsButLife z h words (put_bytes z h bytes words)
  bytes_put bytes words b room = let c : ℕ = class_in (place_in z h words) in let n : ℕ = block_in (place_in z h words) in let w : ℕ = block_words c in but_as z IsOfArena (IsOfLife h) words (put_bytes z h bytes words) (of_life h)
      (but_put z IsOfArena (words_of bytes) (λ k. in_arena (at_bytes c n k)) (first_in z h words)
      (λ k lt. (spot_from z c n (first_in z h words) k refl, ((subst (λ (d : ℕ). d < 4) (sym b.placed.is_in) (class_below b.placed.class)), b.inside, (let l = words_long bytes in let q : k < w = omega arith in q)), tt)) words)

  place_put : (inside : h < z.headers) (n : ℕ) (words : List ℕ) → KeepsButLife z h words (put_place z h n words)
  place_put inside n words = but_set z (IsOfLife h) words (in_headers (at_place h)) n inside refl

  -- a recipe, bytes of the class, or another block under the lock
  pub applies_kept : (i : ℕ) → i ≡ h → (kind : RecipeKind) (argument : ℕ) (b c : List ℕ) → HasBlockIn z h b → AppliesTo z i kind argument b c → KeepsButLife z h b c
  applies_kept i same kind argument b c has applied = let old : List ℕ = value_in z h b in let new : List ℕ = recipe_result kind argument old in
      subst (KeepsButLife z h b) (sym (subst (λ (k : ℕ). AppliesTo z k kind argument b c) same applied))
      (bytes_put new b has (let m = made_long kind argument new old refl in let t = length-take (length_in (place_in z h b)) (bytes_of (content (memory z b).arena.bytes (place_in z h b))) in
      let l = min-le_left (length_in (place_in z h b)) (length (bytes_of (content (memory z b).arena.bytes (place_in z h b)))) in let r = place_room (place_in z h b) has.placed in omega arith))

  pub refills_kept : h < z.headers → (i : ℕ) → i ≡ h → (k : Class) (bytes : List ℕ) → class_of (length bytes) ≡ Some k → (b c : List ℕ) → HasBlockIn z h b → Then (FindsClass z i k) (RefillsWords z i bytes) b c → KeepsButLife z h b c
  refills_kept inside i same k bytes fits b c has f = let d = subst (λ (j : ℕ). Then (FindsClass z j k) (RefillsWords z j bytes) b c) same f in
      let refilled = subst (λ (ws : List ℕ). RefillsWords z h bytes ws c) d.1.1 d.2 in
      subst (KeepsButLife z h b) (sym refilled) (but_both z (IsOfLife h) b (put_bytes z h bytes b) _
      (bytes_put bytes b has (subst (λ (n : ℕ). length bytes ≤ 8 * block_words n) d.1.0 (class_room (length bytes) k fits)))
      (place_put inside _ (put_bytes z h bytes b)))

  pub changes_kept : h < z.headers → (i : ℕ) → i ≡ h → (k : Class) (n len : ℕ) (o : Class) (m : ℕ) (b c : List ℕ) → HasBlockIn z h b → ChangesWord z i k n len o m b c → KeepsButLife z h b c
  changes_kept inside i same k n len o m b c has f = subst (KeepsButLife z h b) (sym (subst (λ (j : ℕ). ChangesWord z j k n len o m b c) same f).becomes) (place_put inside _ b)

  module _ (g : ℕ) (inside : h < z.headers) where
    -- where the pin word comes back to what it was, the others are as they were
    but_life : (a d : List ℕ) → KeepsBut z (IsNear h) a d → pin_in z h d ≡ pin_in z h a → KeepsButLife z h a d
    but_life a d k same = record { size = k.size; same = λ p. ⊎_elim (λ (i : IsNear h p). so p i) (λ (e : read (memory z d) p ≡ read (memory z a) p). inr e) (k.same p) }
      where
        so : (p : Spot) → IsNear h p → IsOfLife h p ⊎ (read (memory z d) p ≡ read (memory z a) p)
        so (in_arena p) i = inl i
        so at_given i = absurd i
        so (in_headers (at_pin k)) i = inr (ap (λ (n : ℕ). pin_in z n d) i ∙ (same ∙ ap (λ (n : ℕ). pin_in z n a) (sym i)))
        so (in_headers (at_place k)) i = inl i
        so (in_headers (at_stamp k)) i = inl i
        so (in_rooms p) i = absurd i

    -- the lock, a change under it, and its end
    round_kept : (stamp : ℕ) (a b c d : List ℕ) → LocksPin z h g a b → HasBlockIn z h b → KeepsButLife z h b c → WritesWords z h g stamp c d → KeepsButLife z h a d
    round_kept stamp a b c d lock has under writes = but_life a d
        (but_both z (IsNear h) a b d (subst (KeepsBut z (IsNear h) a) (sym lock.1) (but_set z (IsNear h) a (pin_spot h) (pin_in z h a + STATE) inside refl))
        (but_both z (IsNear h) b c d (but_as z (IsOfLife h) (IsNear h) b c (near h) under)
        (subst (KeepsBut z (IsNear h) c) (sym writes.becomes) (but_both z (IsNear h) c (put_stamp z h stamp c) _ (but_set z (IsNear h) c (in_headers (at_stamp h)) stamp inside refl)
        (but_set z (IsNear h) (put_stamp z h stamp c) (pin_spot h) (pin_in z h c - STATE) inside refl)))))
        (let up : pin_in z h b ≡ pin_in z h a + STATE = ap (λ (ws : List ℕ). pin_in z h ws) lock.1 ∙ read_stored z a (pin_spot h) (pin_in z h a + STATE) wide_a inside in
        let stays : pin_in z h c ≡ pin_in z h b = but_same z (IsOfLife h) b c under (pin_spot h) (λ e. e) in
        let down : pin_in z h d ≡ pin_in z h c - STATE = ap (λ (ws : List ℕ). pin_in z h ws) writes.becomes ∙ read_stored z (put_stamp z h stamp c) (pin_spot h) (pin_in z h c - STATE) wide_c inside in omega arith)
      where
        wide_a : length a ≡ word_count z
        wide_a = sym (length-set a (index z (pin_spot h)) (pin_in z h a + STATE)) ∙ (ap length (sym lock.1) ∙ has.wide)

        wide_c : length (put_stamp z h stamp c) ≡ word_count z
        wide_c = length-set c (index z (in_headers (at_stamp h))) stamp ∙ (under.size ∙ has.wide)

    pub round_alone : (P : List ℕ → List ℕ → Type 0) → ((b c : List ℕ) → HasBlockIn z h b → P b c → KeepsButLife z h b c) → (v u w x : PassState) → Runs (LocksWhole z h g) v u → Runs P u w → (i j stamp : ℕ) → i ≡ h → j ≡ g → Runs (WritesWords z i j stamp) w x → Runs (KeepsButLife z h) v x
    round_alone P f v u w x locks under i j stamp header generation writes = runs_as (Then (LocksWhole z h g) (Then P (WritesWords z h g stamp))) (KeepsButLife z h) v x
        (λ a d s. let b = s.0 in let c = s.2.0 in round_kept stamp a b c d s.1.0 s.1.1 (f b c s.1.1 s.2.1) s.2.2)
        (runs_then (LocksWhole z h g) (Then P (WritesWords z h g stamp)) v u x locks (runs_then P (WritesWords z h g stamp) u w x under (subst (λ (k : ℕ × ℕ). Runs (WritesWords z k.0 k.1 stamp) w x) (λ l. (header l, generation l)) writes)))

  -- a block that is given back, or made
  gives_kept : (o : Class) (n : ℕ) → n < blocks z (class_number o) → (a d : List ℕ) → ClearsBit z o n a d → KeepsButLife z h a d
  gives_kept o n inside a d f = subst (KeepsButLife z h a) (sym f.1) (but_set z (IsOfLife h) a (bit_spot o n) _ (bit_inside z o n inside) tt)

  pub given_kept : (o : Class) (n : ℕ) → n < blocks z (class_number o) → (v u w : PassState) → Runs (KeepsButLife z h) v u → Runs (ClearsBit z o n) u w → Runs (KeepsButLife z h) v w
  given_kept o n inside v u w a b = runs_as (Then (KeepsButLife z h) (ClearsBit z o n)) (KeepsButLife z h) v w (λ p q s. but_both z (IsOfLife h) p s.0 q s.1 (gives_kept o n inside s.0 q s.2)) (runs_then (KeepsButLife z h) (ClearsBit z o n) v u w a b)

  of_block : (c : Class) (b : ℕ) (p : Spot) → IsOfBlock c b p → IsOfLife h p
  of_block c b (in_arena p) i = tt
  of_block c b at_given i = absurd i
  of_block c b (in_headers p) i = absurd i
  of_block c b (in_rooms p) i = absurd i

  pub behind_block : (g r : ℕ) (c : Class) (b : ℕ) (v x w y : PassState) → Runs (FreeIn z h g) v x → Runs (MakesBlockIn z r c b) x w → Runs (KeepsButLife z h) w y → Runs (KeepsButLife z h) v y
  behind_block g r c b v x w y free makes kept = let Rest = Then (MakesBlockIn z r c b) (KeepsButLife z h) in runs_as (Then (FreeIn z h g) Rest) (KeepsButLife z h) v y
      (λ p q s. let m = s.0 in let n = s.2.0 in subst (λ (ws : List ℕ). KeepsButLife z h ws q) s.1.1 (but_both z (IsOfLife h) m n q (but_as z (IsOfBlock c b) (IsOfLife h) m n (of_block c b) s.2.1.but) s.2.2))
      (runs_then (FreeIn z h g) Rest v x y free (runs_then (MakesBlockIn z r c b) (KeepsButLife z h) x w y makes kept))
