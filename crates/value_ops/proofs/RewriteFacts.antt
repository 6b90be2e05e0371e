-- The words of a locked header's block, while bytes are stored over them word by word.
use Rattle.std.proofs.Common.{◌≡◌, ℕ, suc, ◌+◌, ◌*◌, ◌<◌, ◌≤◌, List, ◌++◌, length, get_or, take, drop, sym, ap, ◌∙◌, subst, arith, ◌==◌, cond, refl}
use Rattle.std.proofs.lemmas.List.{length-append, length-take, length-drop}
use Rattle.std.proofs.Math.Nat.{min-eq_left}
use lib.ListN.{set}
use Rattle.oak_model.specs.declared.classes.Class.{Class}
use Rattle.oak_model.specs.Class.{class_number}
use Rattle.oak_model.specs.Limits.{Sizes, IsInLimits}
use Rattle.oak_model.specs.declared.recipes.RecipeKind.{RecipeKind}
use Rattle.oak_model.specs.Recipe.{recipe_result}
use Rattle.arena_core.specs.Arena.{at_bytes, block_words, blocks}
use Rattle.arena_core.specs.Place.{IsPlace, class_in, block_in, length_in, class_from}
use Rattle.arena_core.proofs.PlaceLaws.{class_number-from}
use Rattle.header_core.specs.declared.states.TheConstants.{LOCKED}
use Rattle.header_core.specs.declared.holds.HeldHeader.{HeldHeader}
use Rattle.header_core.specs.HeaderHolds.{place_held}
use Rattle.header_core.specs.HeaderStep.{reworded}
use Rattle.header_core.proofs.HeldHeaders.{held_in}
use Rattle.oak_core.specs.declared.states.PassState.{PassState}
use Rattle.oak_core.specs.Finding.{LoadsMore}
use Rattle.oak_core.specs.Memory.{in_arena, index}
use Rattle.oak_core.proofs.owners.OwnerLaws.{place_below}
use Rattle.oak_model.specs.WordBytes.{bytes_of}
use Rattle.value_ops.specs.Rewriting.{HasWords}
use Rattle.value_ops.specs.HeldValue.{words_in, value_held}
use Rattle.value_ops.specs.UnderLock.{HasBlock, HasLock, ComesTo, Rewrites, words_over, with_words}
use Rattle.arena_core.specs.Words.{words_of}
use Rattle.arena_core.proofs.ByteFacts.{length-bytes_of}
use Rattle.value_ops.proofs.ComesFurther.{comes_none, comes_both, comes_as, blocks_come, headers_come, blocks_met, headers_met, comes_since, lock_comes}
use Rattle.arena_core.proofs.ClassRooms.{place_room}
use Rattle.value_ops.proofs.RewordedHeaders.{place_put, generation_put, rows_put, held_put, words_put, put_more, put_same}
use Rattle.arena_core.proofs.WordLaws.{words_long, words_step, words_end, value_back}

-- the words, where the first i of the bytes' were stored
abbrev pub so_far : List ℕ → List ℕ → ℕ → List ℕ
so_far bytes ws i = take i (words_of bytes) ++ drop i ws

abbrev pub StoredSoFar : Sizes → ℕ → ℕ → List ℕ → ℕ → PassState → PassState → Type 0
StoredSoFar z call h bytes i v w = ComesTo z call v.blocks.held (with_words h (so_far bytes (words_in h v.headers.held) i) v.headers.held) v w

-- The words of the block that the place word names, which was loaded.
pub words_found : (z : Sizes) (h g : ℕ) (v : PassState) → IsInLimits z → HasLock z h g v → (n : ℕ) → n ≡ place_held h v.headers.held → HasBlock z h n v.headers.held → (c : Class) (b first : ℕ) → c ≡ class_from (class_in n) → b ≡ block_in n
    → first ≡ index z (in_arena (at_bytes (class_number c) b 0)) → HasWords z h g first v
words_found z h g v limits lock n place block c b first class number at = record {
  limits = limits;
  lock = lock;
  block = subst (λ (p : ℕ). HasBlock z h p v.headers.held) place block;
  first_is = at ∙ ((λ i. index z (in_arena (at_bytes ((ap class_number class ∙ class_number-from (class_in n) (place_below n block.named)) i) (number i) 0))) ∙ ap (λ (p : ℕ). index z (in_arena (at_bytes (class_in p) (block_in p) 0))) place);
}

module _ (z : Sizes) (h g first : ℕ) (v : PassState) (is : HasWords z h g first v) where
  abbrev rs : List HeldHeader
  rs = v.headers.held

  abbrev ws : List ℕ
  ws = words_in h rs

  -- the pass has them still where it only met more, and where it has as many others

  pub words_met : (call : ℕ) (w : PassState) → LoadsMore z call v w → HasWords z h g first w
  words_met call w met = subst (HasWords z h g first) (sym met.after) record { limits = is.limits; lock = record { inside = is.lock.inside; locked = is.lock.locked; generation = is.lock.generation; row = is.lock.row; unstamped = is.lock.unstamped }; block = is.block; first_is = is.first_is }

  pub some_held : 0 < held_in h rs
  some_held = let one = is.block.once in omega arith

  module _ (call : ℕ) (us : List ℕ) (w : PassState) (c : ComesTo z call v.blocks.held (with_words h us rs) v w) where
    pub held_now : w.headers.held ≡ with_words h us rs
    held_now = headers_come z call v.blocks.held (with_words h us rs) v w c

    pub place_now : place_held h w.headers.held ≡ place_held h rs
    place_now = ap (place_held h) held_now ∙ place_put h us rs

    pub words_now : words_in h w.headers.held ≡ us
    words_now = ap (words_in h) held_now ∙ words_put h us rs some_held

    pub lock_now : HasLock z h g w
    lock_now = lock_comes z h g call v.blocks.held (λ (r : HeldHeader). record r { words = cond (r.header == h) us r.words }) (λ _. refl) (λ _. refl) (λ _. refl) v w c (rows_put h us h LOCKED rs) (generation_put h us rs) is.lock

    pub words_still : length us ≡ length ws → HasWords z h g first w
    words_still long = record {
      limits = is.limits;
      lock = lock_now;
      block = record {
        named = subst IsPlace (sym place_now) is.block.named;
        inside = subst (λ (p : ℕ). block_in p < blocks z (class_in p)) (sym place_now) is.block.inside;
        whole = ap length words_now ∙ (long ∙ (is.block.whole ∙ ap (λ (p : ℕ). block_words (class_in p)) (sym place_now)));
        once = ap (held_in h) held_now ∙ (held_put h us h rs ∙ is.block.once);
      };
      first_is = is.first_is ∙ ap (λ (p : ℕ). index z (in_arena (at_bytes (class_in p) (block_in p) 0))) (sym place_now);
    }

  pub room : length_in (place_held h rs) ≤ 8 * length ws
  room = subst (λ (n : ℕ). length_in (place_held h rs) ≤ 8 * n) (sym is.block.whole) (place_room (place_held h rs) is.block.named)

  pub value_long : length (value_held h rs) ≡ length_in (place_held h rs)
  value_long = length-take (length_in (place_held h rs)) (bytes_of ws) ∙ min-eq_left (let e = length-bytes_of ws in let l = room in let k : length_in (place_held h rs) ≤ length (bytes_of ws) = omega arith in k)

  pub as_long_fits : (bytes : List ℕ) → length bytes ≡ length_in (place_held h rs) → length bytes ≤ 8 * length ws
  as_long_fits bytes e = subst (λ (n : ℕ). n ≤ 8 * length ws) (sym e) room

  module _ (bytes : List ℕ) (fits : length bytes ≤ 8 * length ws) where
    abbrev many : ℕ
    many = length (words_of bytes)

    few : many ≤ length ws
    few = let e = words_long bytes in omega arith

    as_long : (i : ℕ) → i ≤ many → length (so_far bytes ws i) ≡ length ws
    as_long i le = let l = few in let e = length-append (take i (words_of bytes)) (drop i ws) in let f = length-take i (words_of bytes) in let k = length-drop i ws in omega arith

    pub begins : (call : ℕ) → StoredSoFar z call h bytes 0 v v
    begins call = subst (λ (ks : List HeldHeader). ComesTo z call v.blocks.held ks v v) (sym (put_same h rs is.block.once)) (comes_none z call v)

    module _ (call i : ℕ) (lt : 8 * i < length bytes) (u : PassState) (s : StoredSoFar z call h bytes i v u) where
      inside : i < many
      inside = let e = words_long bytes in omega arith

      pub has_words : HasWords z h g first u
      has_words = words_still call (so_far bytes ws i) u s (as_long i (let l = inside in omega arith))

      pub word_inside : i < length (words_in h u.headers.held)
      word_inside = let e = ap length (words_now call (so_far bytes ws i) u s) in let k = as_long i (let l = inside in omega arith) in let l = inside in let m = few in omega arith

      pub stored_more : (n : ℕ) (w : PassState) → n ≡ get_or (words_of bytes) i 0 → ComesTo z call u.blocks.held (reworded h i n u.headers.held) u w → StoredSoFar z call h bytes (i + 1) v w
      stored_more n w e c = let now : List ℕ = so_far bytes ws i in let next : suc i ≡ i + 1 = omega arith in
          comes_as z call u.blocks.held v.blocks.held (reworded h i n u.headers.held) (with_words h (so_far bytes ws (i + 1)) rs) v w (blocks_come z call v.blocks.held (with_words h now rs) v u s)
          (ap (reworded h i n) (held_now call now u s) ∙ (put_more h now i n rs ∙ ap (λ (us : List ℕ). with_words h us rs) (ap (set now i) e ∙ (words_step (words_of bytes) ws i inside few ∙ ap (so_far bytes ws) next))))
          (comes_both z call v.blocks.held u.blocks.held (with_words h now rs) (reworded h i n u.headers.held) v u w s c)

    -- as many words were stored as there are
    pub all_stored : (call i : ℕ) (w : PassState) → i ≡ many → StoredSoFar z call h bytes i v w → ComesTo z call v.blocks.held (with_words h (words_over bytes ws) rs) v w
    all_stored call i w done s = subst (λ (us : List ℕ). ComesTo z call v.blocks.held (with_words h us rs) v w) (words_end (words_of bytes) ws i (omega arith) (omega arith)) s

    -- and where they are as many as before, the value is these bytes
    pub rewrites : (call : ℕ) (w : PassState) → length bytes ≡ length_in (place_held h rs) → ((k : ℕ) → get_or bytes k 0 < 256) → ComesTo z call v.blocks.held (with_words h (words_over bytes ws) rs) v w → Rewrites z call h bytes v w
    rewrites call w long small c = record {
      comes = c;
      value = (λ i. take (length_in (place_now call (words_over bytes ws) w c i)) (bytes_of (words_now call (words_over bytes ws) w c i)))
          ∙ (ap (λ (k : ℕ). take k (bytes_of (words_over bytes ws))) (sym long) ∙ value_back bytes (drop many ws) small);
    }

-- by a pass that only met more before

pub stored_since : (z : Sizes) (call h : ℕ) (bytes : List ℕ) (v u w : PassState) → LoadsMore z call v u → ComesTo z call u.blocks.held (with_words h (words_over bytes (words_in h u.headers.held)) u.headers.held) u w
    → ComesTo z call v.blocks.held (with_words h (words_over bytes (words_in h v.headers.held)) v.headers.held) v w
stored_since z call h bytes v u w met c = let over : List HeldHeader → List HeldHeader = λ ks. with_words h (words_over bytes (words_in h ks)) ks in
    comes_as z call u.blocks.held v.blocks.held (over u.headers.held) (over v.headers.held) v w (blocks_met z call v u met) (ap over (headers_met z call v u met)) (comes_since z call v u met u.blocks.held (over u.headers.held) w c)

-- and with what a recipe makes of the value
pub rewrites_by : (z : Sizes) (call h : ℕ) (k : RecipeKind) (n : ℕ) (made was : List ℕ) (v u w : PassState) → LoadsMore z call v u → made ≡ recipe_result k n was → was ≡ value_held h u.headers.held → Rewrites z call h made u w → Rewrites z call h (recipe_result k n (value_held h v.headers.held)) v w
rewrites_by z call h k n made was v u w met by old r = subst (λ (bs : List ℕ). Rewrites z call h bs v w)
    (by ∙ (ap (recipe_result k n) old ∙ ap (λ (ks : List HeldHeader). recipe_result k n (value_held h ks)) (headers_met z call v u met))) record { comes = stored_since z call h made v u w met r.comes; value = r.value }
