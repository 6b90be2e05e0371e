-- A locked header's place word that is stored with another length, once the bytes stand in its block.
use Rattle.std.proofs.Common.{◌≡◌, ℕ, ◌*◌, ◌^◌, ◌<◌, ◌≤◌, ◌==◌, cond, true, List, [], ◌∷◌, length, take, drop, get_or, sym, refl, ap, ◌∙◌, arith, inl, Some, None, eq-eqb}
use Rattle.oak_model.specs.declared.classes.Class.{Class}
use Rattle.oak_model.specs.Class.{class_number, class_of}
use Rattle.oak_model.specs.Counts.{rows}
use Rattle.oak_model.specs.Limits.{Sizes}
use Rattle.oak_model.proofs.Counting.{true_both}
use Rattle.arena_core.specs.Arena.{block_words}
use Rattle.arena_core.specs.Blocks.{block_from, without}
use Rattle.arena_core.specs.Place.{place_word, class_in, block_in, length_in, class_from, content}
use Rattle.arena_core.proofs.PlaceLaws.{class_in-word, block_in-word, length_in-word, place_word_fits, class_below}
use Rattle.header_core.specs.declared.states.TheConstants.{LOCKED}
use Rattle.header_core.specs.declared.holds.HeldHeader.{HeldHeader}
use Rattle.header_core.specs.Headers.{at_place}
use Rattle.header_core.specs.HeaderHolds.{place_held}
use Rattle.header_core.specs.HeaderStep.{change_place, changed_at}
use Rattle.header_core.proofs.HeldChanges.{rows_changed}
use Rattle.oak_core.specs.declared.states.Finding.{Finding}
use Rattle.oak_core.specs.declared.states.PassState.{PassState}
use Rattle.oak_core.specs.Memory.{Memory, in_headers, memory}
use Rattle.oak_core.specs.Finding.{finding, noted}
use Rattle.oak_core.specs.HeaderCalls.{ChangesPlace}
use Rattle.oak_core.specs.Step.{MayOnHeaders, same_block}
use Rattle.oak_core.proofs.memory.Words.{header_before}
use Rattle.oak_model.specs.WordBytes.{bytes_of}
use Rattle.value_ops.specs.Rewriting.{HasWords}
use Rattle.value_ops.specs.HeldValue.{words_in}
use Rattle.value_ops.specs.UnderLock.{HasLock, ComesTo, Refills, words_over, with_words}
use Rattle.arena_core.specs.Words.{words_of}
use Rattle.value_ops.proofs.ComesFurther.{comes_both, comes_as, blocks_come, headers_come, lock_comes}
use Rattle.value_ops.proofs.FillFacts.{fits_class, is_place}
use Rattle.value_ops.proofs.HeldParts.{changed_generation}
use Rattle.arena_core.proofs.ClassRooms.{place_room}
use Rattle.value_ops.proofs.HeldValues.{place_at, words_at}
use Rattle.value_ops.proofs.RewordedHeaders.{put_changed, changed_place, changed_words, changed_same}
use Rattle.value_ops.proofs.RewriteFacts.{some_held, held_now, place_now, words_now, lock_now}
use Rattle.arena_core.proofs.WordLaws.{value_back}

module _ (z : Sizes) (call h g first : ℕ) (v : PassState) (is : HasWords z h g first v) (bytes : List ℕ) (c : Class) (b : ℕ) (small : b < 2 ^ 32) (fits : class_of (length bytes) ≡ Some c)
    (class : class_in (place_held h v.headers.held) ≡ class_number c) (block : block_in (place_held h v.headers.held) ≡ b) (u : PassState)
    (s : ComesTo z call v.blocks.held (with_words h (words_over bytes (words_in h v.headers.held)) v.headers.held) v u) where
  abbrev rs : List HeldHeader
  rs = v.headers.held

  abbrev over : List ℕ
  over = words_over bytes (words_in h rs)

  abbrev x : ℕ
  x = place_word (class_number c) b (length bytes)

  place_u : place_held h u.headers.held ≡ place_held h rs
  place_u = place_now z h g first v is call over u s

  locked : HasLock z h g u
  locked = lock_now z h g first v is call over u s

  -- it names the block that it named

  same_class : class_in x ≡ class_in (place_held h u.headers.held)
  same_class = let l = fits_class (length bytes) c fits in class_in-word (class_number c) b (length bytes) small (omega arith) ∙ (sym class ∙ ap class_in (sym place_u))

  same_number : block_in x ≡ block_in (place_held h u.headers.held)
  same_number = let l = fits_class (length bytes) c fits in block_in-word (class_number c) b (length bytes) small (omega arith) ∙ (sym block ∙ ap block_in (sym place_u))

  one_block : same_block x (place_held h u.headers.held) ≡ true
  one_block = let p : ℕ = place_held h u.headers.held in true_both (class_in x == class_in p) (block_in x == block_in p) (eq-eqb (class_in x) (class_in p) same_class) (eq-eqb (block_in x) (block_in p) same_number)

  pub may_refill : MayOnHeaders z (change_place h x) u
  may_refill = record {
    inside = is.lock.inside;
    headers = (locked.locked, let l = fits_class (length bytes) c fits in place_word_fits (class_number c) b (length bytes) (class_below c) small (omega arith));
    block = record { place = is_place c b (length bytes) small fits; block = inl one_block };
    known = tt;
  }

  -- the bytes have room in the block
  pub bytes_fit : length bytes ≤ 8 * length (words_in h rs)
  bytes_fit = let l = fits_class (length bytes) c fits in let r = place_room x (is_place c b (length bytes) small fits) in let e = length_in-word (class_number c) b (length bytes) (omega arith) in
      let f = ap block_words (class_in-word (class_number c) b (length bytes) small (omega arith) ∙ sym class) in let k = is.block.whole in omega arith

  module _ (w : PassState) (comes : ComesTo z call v.blocks.held (changed_at h x over rs) v w) where
    held_w : w.headers.held ≡ changed_at h x over rs
    held_w = headers_come z call v.blocks.held (changed_at h x over rs) v w comes

    refills_by : ((k : ℕ) → get_or bytes k 0 < 256) → Refills z call h c b bytes v w
    refills_by below = let some_of = some_held z h g first v is in record {
      class_is = class;
      block_is = block;
      comes = comes;
      value = (λ i. take (length_in ((ap (place_held h) held_w ∙ changed_place h x over rs some_of) i)) (bytes_of ((ap (words_in h) held_w ∙ changed_words h x over rs some_of) i)))
          ∙ (ap (λ (n : ℕ). take n (bytes_of over)) (let l = fits_class (length bytes) c fits in length_in-word (class_number c) b (length bytes) (omega arith)) ∙ value_back bytes (drop (length (words_of bytes)) (words_in h rs)) below);
    }

    locked_by : HasLock z h g w
    locked_by = lock_comes z h g call v.blocks.held (λ (r : HeldHeader). record r { place = cond (r.header == h) x r.place; words = cond (r.header == h) over r.words }) (λ _. refl) (λ _. refl) (λ _. refl) v w comes (rows_changed h x over h LOCKED rs) (changed_generation h x over rs) is.lock

  module _ (w : PassState) (t : ChangesPlace z call h x u w) where
    abbrev m : Memory
    m = memory z t.1.table.words

    block_stays : same_block x (m.headers.place h) ≡ true
    block_stays = ap (same_block x) (place_at z t.1.table t.1.rule t.1.seat u t.1.here h LOCKED (omega arith) (omega arith) locked.locked) ∙ one_block

    words_stay : content m.arena.bytes x ≡ over
    words_stay = (λ i. rows 0 (block_words (same_class i)) (m.arena.bytes (same_class i) (same_number i)))
        ∙ (words_at z t.1.table t.1.rule t.1.seat u t.1.here h LOCKED (omega arith) (omega arith) locked.locked ∙ words_now z h g first v is call over u s)

    abbrev met_then : Finding
    met_then = finding z call (in_headers (at_place h)) None x t.1.table.words u

    came : ComesTo z call u.blocks.held (changed_at h x over u.headers.held) u w
    came = record {
      more = met_then ∷ [];
      calls = ((refl, header_before z (at_place h) is.lock.inside, refl), tt);
      after = t.1.after ∙ (λ i. record (noted met_then u) {
        blocks = record u.blocks { held = cond (block_stays i) u.blocks.held (block_from m.arena.bytes (class_from (class_in (m.headers.place h))) (block_in (m.headers.place h)) ∷ without (class_in x) (block_in x) u.blocks.held) };
        headers = record u.headers { held = changed_at h x (words_stay i) u.headers.held };
      });
    }

    comes : ComesTo z call v.blocks.held (changed_at h x over rs) v w
    comes = comes_as z call u.blocks.held v.blocks.held (changed_at h x over u.headers.held) (changed_at h x over rs) v w (blocks_come z call v.blocks.held (with_words h over rs) v u s)
        (ap (changed_at h x over) (held_now z h g first v is call over u s) ∙ put_changed h over x over rs) (comes_both z call v.blocks.held u.blocks.held (with_words h over rs) (changed_at h x over u.headers.held) v u w s came)

    pub refills : ((k : ℕ) → get_or bytes k 0 < 256) → Refills z call h c b bytes v w
    refills below = refills_by w comes below

    pub locked_still : HasLock z h g w
    locked_still = locked_by w comes

  -- where the place word has that length already, it stays
  module _ (same : x ≡ place_held h rs) where
    comes_same : ComesTo z call v.blocks.held (changed_at h x over rs) v u
    comes_same = comes_as z call v.blocks.held v.blocks.held (with_words h over rs) (changed_at h x over rs) v u refl (sym (ap (λ (p : ℕ). changed_at h p over rs) same ∙ changed_same h over rs is.block.once)) s

    pub refills_same : ((k : ℕ) → get_or bytes k 0 < 256) → Refills z call h c b bytes v u
    refills_same below = refills_by u comes_same below

    pub locked_same : HasLock z h g u
    locked_same = locked_by u comes_same
