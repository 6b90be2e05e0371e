-- What a change of a present value under the lock of a pass that is alone leaves of the words, told by the place word that the header had.
use Rattle.std.proofs.Common.{◌≡◌, ℕ, ◌+◌, ◌-◌, ◌*◌, ◌<◌, ◌≤◌, ◌⊎◌, List, length, length-set, refl, sym, ap, ◌∙◌, subst, arith, inl, inr, ⊎_elim}
use Rattle.std.proofs.lemmas.List.{length-take}
use Rattle.std.proofs.Math.Nat.{min-le_left}
use Rattle.pin_word.specs.PinWord.{STATE}
use Rattle.oak_model.specs.declared.recipes.RecipeKind.{RecipeKind}
use Rattle.oak_model.specs.Limits.{Sizes}
use Rattle.oak_model.specs.Recipe.{recipe_result}
use Rattle.oak_model.specs.WordBytes.{bytes_of}
use Rattle.arena_core.specs.Arena.{at_bytes, block_words}
use Rattle.arena_core.specs.Place.{block_in, class_in, content, length_in}
use Rattle.arena_core.specs.Words.{words_of}
use Rattle.arena_core.proofs.ClassRooms.{place_room}
use Rattle.arena_core.proofs.PlaceLaws.{class_below}
use Rattle.arena_core.proofs.WordLaws.{words_long}
use Rattle.header_core.specs.Headers.{at_pin, at_place, at_stamp}
use Rattle.oak_core.specs.declared.states.PassState.{PassState}
use Rattle.oak_core.specs.AloneWords.{Runs}
use Rattle.oak_core.specs.Memory.{Spot, at_given, in_arena, in_headers, in_rooms, index, memory, read, word_count}
use Rattle.oak_core.proofs.seats.AloneRuns.{Then, runs_as, runs_then}
use Rattle.arena_ops.proofs.PutWords.{spot_from}
use Rattle.chunk_ops.proofs.KeptKeys.{number_other}
use Rattle.value_ops.specs.AloneLocks.{AppliesTo, LocksPin, WritesWords, first_in, pin_in, place_in, put_bytes, put_stamp, stamp_in, value_in}
use Rattle.value_ops.specs.Claiming.{pin_spot}
use Rattle.value_ops.proofs.RecipeFacts.{made_long}
use Rattle.point_ops.specs.LoneInserts.{KeepsBut}
use Rattle.point_ops.specs.LoneLeft.{IsOfValue, RewritesIn}
use Rattle.point_ops.proofs.LoneKept.{HasBlockIn, LocksWhole}
use Rattle.point_ops.proofs.LoneWords.{but_as, but_both, but_put, but_same, but_set, read_stored}

-- what is done under the lock: only words with Q changed, told by the place word, which has E and became F of itself
pub record ChangesUnder (z : Sizes) (h : ℕ) (Q : ℕ → Spot → Type 0) (F : ℕ → ℕ) (E : ℕ → Type 0) (before after : List ℕ) : Type 0 where
  pub but : KeepsBut z (Q (place_in z h before)) before after
  pub place : place_in z h after ≡ F (place_in z h before)
  pub fact : E (place_in z h before)

-- the same of the whole round, with the stamp that it left
pub record Rounds (z : Sizes) (h : ℕ) (Q : ℕ → Spot → Type 0) (F : ℕ → ℕ) (E : ℕ → Type 0) (at : ℕ) (before after : List ℕ) : Type 0 where
  pub wide : length before ≡ word_count z
  pub but : KeepsBut z (Q (place_in z h before)) before after
  pub place : place_in z h after ≡ F (place_in z h before)
  pub fact : E (place_in z h before)
  pub stamp : stamp_in z h after ≡ at

-- the pin word of the header
abbrev IsPinOf : ℕ → Spot → Type 0
IsPinOf h (in_headers (at_pin k)) = k ≡ h
IsPinOf _ _ = ⊥

-- where that word comes back to what it was, the others are as they were
module _ (z : Sizes) (h : ℕ) (Q : Spot → Type 0) where
  abbrev pub Near : Spot → Type 0
  Near p = Q p ⊎ IsPinOf h p

  pub but_pin : (a d : List ℕ) → KeepsBut z (λ p. Q p ⊎ IsPinOf h p) a d → pin_in z h d ≡ pin_in z h a → KeepsBut z Q a d
  but_pin a d k same = record { size = k.size; same = λ p. ⊎_elim (λ (i : Near p). ⊎_elim (λ (q : Q p). inl q) (λ (e : IsPinOf h p). inr (so p e)) i) (λ (e : read (memory z d) p ≡ read (memory z a) p). inr e) (k.same p) }
    where
      so : (p : Spot) → IsPinOf h p → read (memory z d) p ≡ read (memory z a) p
      so (in_headers (at_pin k)) i = ap (λ (n : ℕ). pin_in z n d) i ∙ (same ∙ ap (λ (n : ℕ). pin_in z n a) (sym i))
      so (in_headers (at_place k)) i = absurd i
      so (in_headers (at_stamp k)) i = absurd i
      so (in_arena p) i = absurd i
      so (in_rooms p) i = absurd i
      so at_given i = absurd i

module _ (z : Sizes) (h g : ℕ) (inside : h < z.headers) (Q : ℕ → Spot → Type 0) (F : ℕ → ℕ) (E : ℕ → Type 0) (own : (p : ℕ) → Q p (in_headers (at_stamp h))) (out : (p : ℕ) → Q p (in_headers (at_pin h)) → ⊥) where
  module _ (stamp : ℕ) (a b c d : List ℕ) (lock : LocksPin z h g a b) (has : HasBlockIn z h b) (under : ChangesUnder z h Q F E b c) (writes : WritesWords z h g stamp c d) where
    abbrev P : Spot → Type 0
    P = Q (place_in z h a)

    abbrev N : Spot → Type 0
    N p = P p ⊎ IsPinOf h p

    abbrev stamped : List ℕ
    stamped = put_stamp z h stamp c

    wide_a : length a ≡ word_count z
    wide_a = sym (length-set a (index z (pin_spot h)) (pin_in z h a + STATE)) ∙ (ap length (sym lock.1) ∙ has.wide)

    wide_c : length c ≡ word_count z
    wide_c = under.but.size ∙ has.wide

    wide_stamped : length (put_stamp z h stamp c) ≡ word_count z
    wide_stamped = length-set c (index z (in_headers (at_stamp h))) stamp ∙ wide_c

    place_locked : place_in z h b ≡ place_in z h a
    place_locked = ap (λ (ws : List ℕ). place_in z h ws) lock.1 ∙ number_other z a (pin_spot h) (pin_in z h a + STATE) inside (in_headers (at_place h)) refl

    under_a : KeepsBut z (Q (place_in z h a)) b c
    under_a = subst (λ (p : ℕ). KeepsBut z (Q p) b c) place_locked under.but

    locked : KeepsBut z N a b
    locked = subst (KeepsBut z N a) (sym lock.1) (but_set z N a (pin_spot h) (pin_in z h a + STATE) inside (inr refl))

    written : KeepsBut z N c d
    written = subst (KeepsBut z N c) (sym writes.becomes) (but_both z N c stamped _ (but_set z N c (in_headers (at_stamp h)) stamp inside (inl (own (place_in z h a))))
        (but_set z N stamped (pin_spot h) (pin_in z h c - STATE) inside (inr refl)))

    pin_same : pin_in z h d ≡ pin_in z h a
    pin_same = let up : pin_in z h b ≡ pin_in z h a + STATE = ap (λ (ws : List ℕ). pin_in z h ws) lock.1 ∙ read_stored z a (pin_spot h) (pin_in z h a + STATE) wide_a inside in
        let stays : pin_in z h c ≡ pin_in z h b = but_same z P b c under_a (pin_spot h) (out (place_in z h a)) in
        let down : pin_in z h d ≡ pin_in z h c - STATE = ap (λ (ws : List ℕ). pin_in z h ws) writes.becomes ∙ read_stored z stamped (pin_spot h) (pin_in z h c - STATE) wide_stamped inside in omega arith

    pub rounds : Rounds z h Q F E stamp a d
    rounds = record {
      wide = wide_a;
      but = but_pin z h P a d (but_both z N a b d locked (but_both z N b c d (but_as z P N b c (λ p q. inl q) under_a) written)) pin_same;
      place = ap (λ (ws : List ℕ). place_in z h ws) writes.becomes ∙ (number_other z stamped (pin_spot h) (pin_in z h c - STATE) inside (in_headers (at_place h)) refl
          ∙ (number_other z c (in_headers (at_stamp h)) stamp inside (in_headers (at_place h)) refl ∙ (under.place ∙ ap F place_locked)));
      fact = subst E place_locked under.fact;
      stamp = ap (λ (ws : List ℕ). stamp_in z h ws) writes.becomes ∙ (number_other z stamped (pin_spot h) (pin_in z h c - STATE) inside (in_headers (at_stamp h)) refl
          ∙ read_stored z c (in_headers (at_stamp h)) stamp wide_c inside);
    }

  pub rounds_alone : (P : List ℕ → List ℕ → Type 0) → ((b c : List ℕ) → HasBlockIn z h b → P b c → ChangesUnder z h Q F E b c) → (v u w x : PassState) → Runs (LocksWhole z h g) v u → Runs P u w
      → (i j stamp : ℕ) → i ≡ h → j ≡ g → Runs (WritesWords z i j stamp) w x → Runs (Rounds z h Q F E stamp) v x
  rounds_alone P f v u w x locks under i j stamp header generation writes = runs_as (Then (LocksWhole z h g) (Then P (WritesWords z h g stamp))) (Rounds z h Q F E stamp) v x
      (λ a d s. let b = s.0 in let c = s.2.0 in rounds stamp a b c d s.1.0 s.1.1 (f b c s.1.1 s.2.1) s.2.2)
      (runs_then (LocksWhole z h g) (Then P (WritesWords z h g stamp)) v u x locks (runs_then P (WritesWords z h g stamp) u w x under (subst (λ (k : ℕ × ℕ). Runs (WritesWords z k.0 k.1 stamp) w x) (λ l. (header l, generation l)) writes)))

module _ (z : Sizes) (h : ℕ) where
  -- bytes that are put in the header's block
  pub bytes_within : (bytes words : List ℕ) → HasBlockIn z h words → length bytes ≤ 8 * block_words (class_in (place_in z h words)) → KeepsBut z (IsOfValue h (place_in z h words)) words (put_bytes z h bytes words)
  bytes_within bytes words b room = let c : ℕ = class_in (place_in z h words) in let n : ℕ = block_in (place_in z h words) in let w : ℕ = block_words c in
      but_put z (IsOfValue h (place_in z h words)) (words_of bytes) (λ k. in_arena (at_bytes c n k)) (first_in z h words)
      (λ k lt. (spot_from z c n (first_in z h words) k refl, ((subst (λ (d : ℕ). d < 4) (sym b.placed.is_in) (class_below b.placed.class)), b.inside, (let l = words_long bytes in let q : k < w = omega arith in q)), (refl, refl))) words

  -- what a recipe makes of the value
  pub applies_within : (i : ℕ) → i ≡ h → (kind : RecipeKind) (argument : ℕ) (b c : List ℕ) → HasBlockIn z h b → AppliesTo z i kind argument b c → ChangesUnder z h (IsOfValue h) (λ p. p) (λ p. Unit {0}) b c
  applies_within i same kind argument b c has applied = let old : List ℕ = value_in z h b in let new : List ℕ = recipe_result kind argument old in
      let but : KeepsBut z (IsOfValue h (place_in z h b)) b c = subst (KeepsBut z (IsOfValue h (place_in z h b)) b) (sym (subst (λ (k : ℕ). AppliesTo z k kind argument b c) same applied))
      (bytes_within new b has (let m = made_long kind argument new old refl in let t = length-take (length_in (place_in z h b)) (bytes_of (content (memory z b).arena.bytes (place_in z h b))) in
      let l = min-le_left (length_in (place_in z h b)) (length (bytes_of (content (memory z b).arena.bytes (place_in z h b)))) in let r = place_room (place_in z h b) has.placed in omega arith)) in
      record { but = but; place = but_same z (IsOfValue h (place_in z h b)) b c but (in_headers (at_place h)) (λ e. e); fact = tt }

-- a value that is computed anew
pub computes_alone : (z : Sizes) (h g : ℕ) → h < z.headers → (kind : RecipeKind) (argument l : ℕ) → l ≡ h → (v u w x : PassState) → Runs (LocksWhole z h g) v u → Runs (AppliesTo z l kind argument) u w
    → (i j stamp : ℕ) → i ≡ h → j ≡ g → Runs (WritesWords z i j stamp) w x → Runs (RewritesIn z h stamp) v x
computes_alone z h g inside kind argument l same v u w x locks applies i j stamp header generation writes = runs_as (Rounds z h (IsOfValue h) (λ p. p) (λ p. Unit {0}) stamp) (RewritesIn z h stamp) v x (λ a d r. record { but = r.but; stamp = r.stamp })
    (rounds_alone z h g inside (IsOfValue h) (λ p. p) (λ p. Unit {0}) (λ p. refl) (λ p e. e) (AppliesTo z l kind argument) (applies_within z h l same kind argument) v u w x locks applies i j stamp header generation writes)
