-- A load of a word of a locked header's block, and a store to one.
use Rattle.std.proofs.Common.{◌≡◌, ℕ, ◌+◌, ◌^◌, ◌<◌, List, [], ◌∷◌, length, get_or, sym, refl, ap, ◌∙◌, subst, arith}
use Rattle.oak_model.specs.declared.limits.TheConstants.{CLASSES}
use Rattle.oak_model.specs.declared.classes.Class.{Class}
use Rattle.oak_model.specs.Limits.{Sizes}
use Rattle.oak_model.proofs.Lists.{rows_at}
use Rattle.arena_core.specs.Arena.{at_bytes, block_words, blocks}
use Rattle.arena_core.specs.Place.{class_in, block_in}
use Rattle.header_core.specs.declared.states.TheConstants.{LOCKED}
use Rattle.header_core.specs.HeaderHolds.{place_held}
use Rattle.header_core.specs.HeaderStep.{reworded}
use Rattle.oak_core.specs.declared.states.PassState.{PassState}
use Rattle.oak_core.specs.ArenaCalls.{of_locked, NamesWord, MayStoreTo, Writes}
use Rattle.oak_core.specs.Memory.{in_arena, index, rooms_at, word_count, memory}
use Rattle.oak_core.specs.Splitting.{Loads}
use Rattle.oak_core.proofs.owners.OwnerLaws.{place_below}
use Rattle.oak_core.proofs.memory.Words.{arena_before, index_below}
use Rattle.arena_core.proofs.PlaceLaws.{class_below}
use Rattle.oak_model.specs.Class.{class_number}
use Rattle.value_ops.specs.Rewriting.{HasWords}
use Rattle.value_ops.specs.HeldValue.{words_in}
use Rattle.value_ops.specs.UnderLock.{ComesTo}
use Rattle.value_ops.proofs.HeldValues.{words_at}
use Rattle.value_ops.proofs.LoadFacts.{found_is}
use Rattle.arena_ops.proofs.PutWords.{spot_from}
use Rattle.value_ops.proofs.ValueFacts.{bytes_small}
use Rattle.value_ops.proofs.ComesFurther.{loads_at}
use Rattle.oak_core.specs.Finding.{LoadsMore}

module _ (z : Sizes) (h g first : ℕ) (v : PassState) (is : HasWords z h g first v) where
  abbrev place : ℕ
  place = place_held h v.headers.held

  abbrev c : ℕ
  c = class_in place

  abbrev b : ℕ
  b = block_in place

  pub class_low : c < CLASSES
  class_low = place_below place is.block.named

  module _ (i : ℕ) (lt : i < length (words_in h v.headers.held)) where
    pub word_inside : i < block_words c
    word_inside = subst (λ (n : ℕ). i < n) is.block.whole lt

    pub word_spot : first + i ≡ index z (in_arena (at_bytes c b i))
    word_spot = spot_from z c b first i is.first_is

    pub word_below : first + i < word_count z
    word_below = let e = word_spot in let l = index_below z (in_arena (at_bytes c b i)) (class_low, is.block.inside, word_inside) in omega arith

    pub word_before : first + i < rooms_at z
    word_before = let e = word_spot in let l = arena_before z (at_bytes c b i) (class_low, is.block.inside, word_inside) in omega arith

    -- its load only meets more
    pub word_met : (call n : ℕ) (w : PassState) → Loads z call (first + i) v n w → LoadsMore z call v w
    word_met call n w l = loads_at z call (first + i) n v w (in_arena (at_bytes c b i)) (class_low, is.block.inside, word_inside) tt (arena_before z (at_bytes c b i) (class_low, is.block.inside, word_inside)) word_spot l

    pub word_small : first + i < 2 ^ 32
    word_small = let e = word_spot in let l = bytes_small z is.limits c b i class_low is.block.inside word_inside in omega arith

    pub word_loaded : (call n : ℕ) (w : PassState) → Loads z call (first + i) v n w → n ≡ get_or (words_in h v.headers.held) i 0
    word_loaded call n w l = let s = l.told.table in let bytes = (memory z s.words).arena.bytes in
        found_is z call (first + i) n v w l (in_arena (at_bytes c b i)) (class_low, is.block.inside, word_inside) word_spot
        ∙ sym (ap (λ (ws : List ℕ). get_or ws i 0) (sym (words_at z s l.told.rule l.told.seat v l.told.here h LOCKED (omega arith) (omega arith) is.lock.locked))
        ∙ (rows_at 0 (block_words c) i (bytes c b) 0 word_inside ∙ ap (bytes c b) (let e : 0 + i ≡ i = omega arith in e)))

    pub names : NamesWord z is.block.named.class b i (first + i)
    names = let e = is.block.named.is_in in record {
      inside = subst (λ (k : ℕ). b < blocks z k) e is.block.inside;
      place = subst (λ (k : ℕ). i < block_words k) e word_inside;
      word_is = word_spot ∙ ap (λ (k : ℕ). index z (in_arena (at_bytes k b i))) e;
    }

  pub may_store : MayStoreTo z (of_locked h) is.block.named.class b v
  may_store = record { locked = is.lock.locked; class = is.block.named.is_in; block = refl }

pub stores : (z : Sizes) (call h : ℕ) (d : Class) (b i word x : ℕ) (v w : PassState) → NamesWord z d b i word → Writes z call (of_locked h) d b i x v w → ComesTo z call v.blocks.held (reworded h i x v.headers.held) v w
stores z call h d b i word x v w is t = record { more = _ ∷ []; calls = ((refl, arena_before z (at_bytes (class_number d) b i) (class_below d, is.inside, is.place), refl), tt); after = t.1.after }
