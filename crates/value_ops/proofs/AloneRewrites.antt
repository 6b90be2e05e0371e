-- What the calls that rewrite a value under its lock do to the words, where the pass is alone.
use Rattle.std.proofs.Common.{◌≡◌, ℕ, ◌+◌, ◌*◌, ◌<◌, ◌≤◌, List, length, take, get_or, set, sym, refl, ap, ◌∙◌, arith}
use Rattle.oak_model.specs.declared.classes.Class.{Class}
use Rattle.oak_model.specs.declared.recipes.RecipeKind.{RecipeKind}
use Rattle.oak_model.specs.Limits.{Sizes}
use Rattle.oak_model.specs.Recipe.{recipe_result}
use Rattle.arena_core.specs.Arena.{ArenaSpot, at_bytes}
use Rattle.arena_core.specs.Place.{place_word, class_in, block_in, length_in, content}
use Rattle.header_core.specs.declared.states.TheConstants.{LOCKED}
use Rattle.header_core.specs.Headers.{HeaderSpot, at_place}
use Rattle.header_core.specs.HeaderHolds.{place_held}
use Rattle.header_core.specs.HeaderStep.{change_place}
use Rattle.oak_core.specs.declared.states.PassState.{PassState}
use Rattle.oak_core.specs.AloneWords.{Moment, Runs}
use Rattle.oak_core.specs.ArenaCalls.{of_locked, NamesWord, Writes}
use Rattle.oak_core.specs.HeaderCalls.{ChangesPlace}
use Rattle.oak_core.specs.Memory.{in_arena, in_headers, index, memory}
use Rattle.oak_core.specs.Step.{on_headers, store_locked}
use Rattle.oak_core.specs.TableState.{TableState}
use Rattle.oak_core.proofs.seats.AloneRuns.{Then, runs_then, runs_as}
use Rattle.oak_core.proofs.memory.Words.{index_apart, memory_read}
use Rattle.value_ops.specs.Pinning.{WordsStay}
use Rattle.arena_ops.specs.PutWords.{put_from, PutsWord, PutsBytes}
use Rattle.value_ops.specs.AloneLocks.{place_in, put_place, first_in, put_bytes, value_in, AppliesTo, RefillsWords}
use Rattle.value_ops.specs.HeldValue.{words_in, value_held}
use Rattle.oak_model.specs.WordBytes.{bytes_of}
use Rattle.value_ops.specs.Rewriting.{HasWords}
use Rattle.value_ops.specs.UnderLock.{HasLock, LoadsPlace}
use Rattle.arena_core.specs.Words.{words_of}
use Rattle.value_ops.proofs.AloneSteps.{DoesAt, LoadsAt, load_does, header_does, step_does}
use Rattle.arena_ops.proofs.PutWords.{put_elsewhere, put_again}
use Rattle.value_ops.proofs.HeldValues.{place_at, words_at}
use Rattle.value_ops.proofs.RewriteSteps.{class_low, word_inside, word_spot}
use Rattle.arena_core.proofs.WordLaws.{words_long}

-- a store to a word of the locked header's block
pub word_put_alone : (z : Sizes) (call h : ℕ) (d : Class) (b k word x : ℕ) (v w : PassState) → NamesWord z d b k word → Writes z call (of_locked h) d b k x v w → Runs (PutsWord word x) v w
word_put_alone z call h d b k word x v w is t = runs_as (DoesAt z (store_locked h d b k x) v t.0) (PutsWord word x) v w (λ a e f. f.leaves ∙ ap (λ (i : ℕ). set a i x) (sym is.word_is)) (step_does z call (store_locked h d b k x) v t.0 w tt t.1)

-- at a moment at which the rule holds, what the pass keeps of a locked header's value is what the words have
module _ (z : Sizes) (h g : ℕ) (v : PassState) (l : HasLock z h g v) (words : List ℕ) (m : Moment z words v) where
  abbrev table : TableState
  table = record { words = words; states = m.states }

  place_now : place_in z h words ≡ place_held h v.headers.held
  place_now = place_at z table m.rule m.seat v m.here h LOCKED (omega arith) (omega arith) l.locked

  value_now : value_in z h words ≡ value_held h v.headers.held
  value_now = (λ i. take (length_in (place_now i)) (bytes_of (content (memory z words).arena.bytes (place_now i))))
      ∙ ap (λ (ws : List ℕ). take (length_in (place_held h v.headers.held)) (bytes_of ws)) (words_at z table m.rule m.seat v m.here h LOCKED (omega arith) (omega arith) l.locked)

  first_now : (first : ℕ) → HasWords z h g first v → first ≡ first_in z h words
  first_now first is = is.first_is ∙ ap (λ (p : ℕ). index z (in_arena (at_bytes (class_in p) (block_in p) 0))) (sym place_now)

-- no word is both of a block and of a header
two_words : (q : ArenaSpot) (p : HeaderSpot) → in_arena q ≡ in_headers p → ⊥
two_words q p e = absurd cc

-- the place word was loaded first, then perhaps the value
module _ (z : Sizes) (call h g first : ℕ) (v y u : PassState) (is : HasWords z h g first v) (p : LoadsPlace z call h v y) (since : Runs WordsStay y u) where
  abbrev place : ℕ
  place = place_held h v.headers.held

  -- the words stay so far
  looked : Runs (λ a b. Moment z a v × (b ≡ a)) v u
  looked = runs_as (Then (LoadsAt z (in_headers (at_place h)) v place) WordsStay) (λ a b. Moment z a v × (b ≡ a)) v u (λ a b d. (d.1.moment, d.2 ∙ d.1.stays))
      (runs_then (LoadsAt z (in_headers (at_place h)) v place) WordsStay v y u (load_does z call (index z (in_headers (at_place h))) place v y (in_headers (at_place h)) is.lock.inside refl p) since)

  pub applies_alone : (kind : RecipeKind) (argument : ℕ) (made was : List ℕ) (w : PassState) → made ≡ recipe_result kind argument was → was ≡ value_held h v.headers.held → Runs (PutsBytes first made) u w → Runs (AppliesTo z h kind argument) v w
  applies_alone kind argument made was w by old r = runs_as (Then (λ a b. Moment z a v × (b ≡ a)) (PutsBytes first made)) (AppliesTo z h kind argument) v w
      (λ a b d. let m = d.1.0 in let result = by ∙ ap (recipe_result kind argument) (old ∙ sym (value_now z h g v is.lock a m)) in
      d.2 ∙ (λ i. put_from (first_now z h g v is.lock a m first is i) (words_of (result i)) (d.1.1 i)))
      (runs_then (λ a b. Moment z a v × (b ≡ a)) (PutsBytes first made) v u w looked r)

  module _ (bytes : List ℕ) (room : length bytes ≤ 8 * length (words_in h v.headers.held)) (w : PassState) (r : Runs (PutsBytes first bytes) u w) where
    abbrev Stored : List ℕ → List ℕ → Type 0
    Stored a b = Moment z a v × (b ≡ put_bytes z h bytes a)

    stored : Runs Stored v w
    stored = runs_as (Then (λ a b. Moment z a v × (b ≡ a)) (PutsBytes first bytes)) Stored v w
        (λ a b d. (d.1.0, d.2 ∙ (λ i. put_from (first_now z h g v is.lock a d.1.0 first is i) (words_of bytes) (d.1.1 i))))
        (runs_then (λ a b. Moment z a v × (b ≡ a)) (PutsBytes first bytes) v u w looked r)

    abbrev at_place_word : ℕ
    at_place_word = index z (in_headers (at_place h))

    -- the place word of these bytes, and that of the words
    abbrev named : ℕ
    named = place_word (class_in place) (block_in place) (length bytes)

    named_now : (a : List ℕ) → Moment z a v → named ≡ place_word (class_in (place_in z h a)) (block_in (place_in z h a)) (length bytes)
    named_now a m = ap (λ (p : ℕ). place_word (class_in p) (block_in p) (length bytes)) (sym (place_now z h g v is.lock a m))

    -- it was stored
    pub refills_alone : (x : PassState) → ChangesPlace z call h named w x → Runs (RefillsWords z h bytes) v x
    refills_alone x t = runs_as (Then Stored (DoesAt z (on_headers (change_place h named)) w t.0)) (RefillsWords z h bytes) v x (λ a b d. d.2.leaves ∙ (λ i. put_place z h (named_now a d.1.0 i) (d.1.1 i)))
        (runs_then Stored (DoesAt z (on_headers (change_place h named)) w t.0) v w x stored (header_does z call (change_place h named) w t.0 x t.1))

    -- the stores to the block leave the place word
    place_stays : (a : List ℕ) → Moment z a v → get_or (put_bytes z h bytes a) at_place_word 0 ≡ place_in z h a
    place_stays a m = let long = words_long bytes in put_elsewhere (first_in z h a) at_place_word (words_of bytes) a
        (λ k lt at. let low : k < length (words_in h v.headers.held) = omega arith in let e = sym (first_now z h g v is.lock a m first is) in
        two_words (at_bytes (class_in place) (block_in place) k) (at_place h) (index_apart z (in_arena (at_bytes (class_in place) (block_in place) k)) (in_headers (at_place h)) (class_low z h g first v is, is.block.inside, word_inside z h g first v is k low) is.lock.inside
        (sym (word_spot z h g first v is k low) ∙ (ap (λ (i : ℕ). i + k) (sym e) ∙ at))))
        ∙ sym (memory_read z a (in_headers (at_place h)) is.lock.inside)

    -- it was not, since it was the same
    pub keeps_alone : named ≡ place → Runs (RefillsWords z h bytes) v w
    keeps_alone same = runs_as Stored (RefillsWords z h bytes) v w
        (λ a b d. let m = d.0 in let e : place_word (class_in (place_in z h a)) (block_in (place_in z h a)) (length bytes) ≡ place_in z h a = sym (named_now a m) ∙ (same ∙ sym (place_now z h g v is.lock a m)) in
        d.1 ∙ sym (put_again (put_bytes z h bytes a) at_place_word (place_word (class_in (place_in z h a)) (block_in (place_in z h a)) (length bytes)) (e ∙ sym (place_stays a m)))) stored
