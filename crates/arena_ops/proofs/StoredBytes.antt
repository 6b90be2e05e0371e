-- Bytes are stored word by word in a block that the pass holds.
use Rattle.std.proofs.Common.{◌≡◌, ℕ, suc, ◌+◌, ◌*◌, ◌<◌, ◌≤◌, List, ◌++◌, length, get_or, set, take, drop, length-append, sym, refl, ap, ◌∙◌, subst, arith, Some, ◌-◌}
use Rattle.std.proofs.lemmas.List.{length-take, length-drop}
use Rattle.oak_model.specs.declared.classes.Class.{Class}
use Rattle.oak_model.specs.Class.{class_number, class_of}
use Rattle.oak_model.specs.Limits.{Sizes}
use Rattle.oak_model.specs.WordBytes.{bytes_of}
use Rattle.oak_model.proofs.Lists.{at_map, each_map}
use Rattle.arena_core.specs.declared.blocks.HeldBlocks.{HeldBlocks}
use Rattle.arena_core.specs.Arena.{at_bytes, block_words}
use Rattle.arena_core.specs.Blocks.{HoldsBlock, holds, rewritten, words_held}
use Rattle.arena_core.specs.Words.{words_of}
use Rattle.arena_core.proofs.ClassRooms.{class_room}
use Rattle.arena_core.proofs.HeldLists.{rewritten_same}
use Rattle.arena_core.proofs.HeldWords.{words_rewritten, without_rewritten, words_whole}
use Rattle.arena_core.proofs.WordLaws.{words_long, words_step, words_end, value_back}
use Rattle.oak_core.specs.declared.states.Finding.{Finding}
use Rattle.oak_core.specs.declared.states.PassState.{PassState}
use Rattle.oak_core.specs.CallSteps.{Stands}
use Rattle.oak_core.specs.Finding.{IsOf}
use Rattle.oak_core.specs.PassState.{blocks_of}
use Rattle.oak_core.proofs.calls.CallSteps.{stands_none, stands_both}
use Rattle.oak_core.specs.AloneWords.{Runs}
use Rattle.oak_core.specs.Memory.{in_arena, index}
use Rattle.oak_core.proofs.seats.AloneRuns.{runs_as}
use Rattle.oak_core.proofs.calls.QuietCalls.{only_both, only_none}
use Rattle.oak_core.specs.QuietSteps.{MetOnly}
use Rattle.arena_ops.specs.PutWords.{PutsWord}
use Rattle.arena_ops.specs.Storing.{StoresBytes, given}
use Rattle.arena_ops.specs.Taking.{SetsWord, Stores}
use Rattle.arena_ops.proofs.PutWords.{PutsSome, puts_none, puts_more, puts_whole, spot_from}

-- a word that has bytes is one of the block
pub word_inside : (bytes : List ℕ) (c : Class) (i : ℕ) → class_of (length bytes) ≡ Some c → 8 * i < length bytes → i < block_words (class_number c)
word_inside bytes c i fits lt = let room = class_room (length bytes) c fits in let r : i < block_words (class_number c) = omega arith in r

-- these words, with the first i of those of the bytes over them
abbrev pub so_far : List ℕ → List ℕ → ℕ → List ℕ
so_far bytes ws i = take i (words_of bytes) ++ drop i ws

module _ (z : Sizes) (call : ℕ) (c : Class) (b : ℕ) (bytes : List ℕ) where
  abbrev first : ℕ
  first = index z (in_arena (at_bytes (class_number c) b 0))

  -- the pass holds the block with the words that it had at v and the first i of those of the bytes over them, and else what it held
  pub record BytesStored (i : ℕ) (v u : PassState) : Type 0 where
    pub block : HoldsBlock z (class_number c) b u.blocks
    pub times : holds (class_number c) b u.blocks ≡ holds (class_number c) b v.blocks
    pub words : words_held (class_number c) b u.blocks.held ≡ so_far bytes (words_held (class_number c) b v.blocks.held) i
    pub stands : Stands call v u
    pub own : MetOnly (IsOf z call) v u
    pub blocks : given c b u.blocks ≡ given c b v.blocks
    pub headers : u.headers ≡ v.headers
    pub rooms : u.rooms ≡ v.rooms
    pub still : Runs (PutsSome first bytes i) v u

  pub none_stored : (v : PassState) → HoldsBlock z (class_number c) b v.blocks → BytesStored 0 v v
  none_stored v held = record { block = held; times = refl; words = refl; stands = stands_none call v; own = only_none (IsOf z call) v v refl; blocks = refl; headers = refl; rooms = refl; still = puts_none first bytes v }

  module _ (fits : class_of (length bytes) ≡ Some c) (i : ℕ) (v u w : PassState) (so : BytesStored i v u) (lt : 8 * i < length bytes) (n : ℕ) (is : n ≡ get_or (words_of bytes) i 0) (s : Stores z call c b i n u w) where
    abbrev ws : List ℕ
    ws = words_held (class_number c) b v.blocks.held

    held_after : w.blocks ≡ record u.blocks { held = rewritten (class_number c) b i n u.blocks.held }
    held_after = ap (λ (y : PassState). y.blocks) s.after

    long : length (words_held (class_number c) b u.blocks.held) ≡ block_words (class_number c)
    long = words_whole (class_number c) b u.blocks.held (s.told.1.rule.blocks.whole s.told.1.seat u.blocks (at_map blocks_of s.told.1.table.states s.told.1.seat u s.told.1.here)) so.block.held

    inside : i < length (words_of bytes)
    inside = let l = words_long bytes in omega arith

    wide : length (words_of bytes) ≤ length ws
    wide = let l = words_long bytes in let room = class_room (length bytes) c fits in let all = long in
        let e : length (words_held (class_number c) b u.blocks.held) ≡ length (take i (words_of bytes)) + length (drop i ws) = ap length so.words ∙ length-append (take i (words_of bytes)) (drop i ws) in
        let f = length-take i (words_of bytes) in let g : length (drop i ws) ≡ length ws - i = length-drop i ws in let h = inside in omega arith

    stood : Stands call u w
    stood = subst (Stands call u) (sym s.after) (record { met = record { more = s.more; met = refl; calls = each_map (IsOf z call) (λ (f : Finding). f.call ≡ call) s.more (λ f o. o.0) s.calls }; numbers = refl; knowledge = refl; fulls = refl; swept = refl; sights = refl; gones = refl; rebalances = refl })

    put : Runs (PutsWord (first + i) n) u w
    put = runs_as (SetsWord z (in_arena (at_bytes (class_number c) b i)) n) (PutsWord (first + i) n) u w (λ x y d. d ∙ ap (λ (k : ℕ). set x k n) (sym (spot_from z (class_number c) b first i refl))) s.still

    pub one_stored : BytesStored (i + 1) v w
    one_stored = record {
      block = subst (HoldsBlock z (class_number c) b) (sym held_after) record { held = let e = rewritten_same (class_number c) b i n (class_number c) b u.blocks.held in let h = so.block.held in omega arith; inside = so.block.inside };
      times = ap (holds (class_number c) b) held_after ∙ (rewritten_same (class_number c) b i n (class_number c) b u.blocks.held ∙ so.times);
      words = ap (λ (a : HeldBlocks). words_held (class_number c) b a.held) held_after ∙ (words_rewritten (class_number c) b i n u.blocks.held
          ∙ ((λ j. set (so.words j) i (is j)) ∙ (words_step (words_of bytes) ws i inside wide ∙ ap (so_far bytes ws) (let e : suc i ≡ i + 1 = omega arith in e))));
      stands = stands_both call v u w so.stands stood;
      own = only_both (IsOf z call) v u w so.own record { more = s.more; met = ap (λ (y : PassState). y.findings.met) s.after; each = s.calls };
      blocks = ap (given c b) held_after ∙ (ap (λ (l : List _). record u.blocks { held = l }) (without_rewritten (class_number c) b i n u.blocks.held) ∙ so.blocks);
      headers = ap (λ (y : PassState). y.headers) s.after ∙ so.headers;
      rooms = ap (λ (y : PassState). y.rooms) s.after ∙ so.rooms;
      still = puts_more first bytes i n v u w lt is so.still put;
    }

  pub bytes_stored : class_of (length bytes) ≡ Some c → ((k : ℕ) → get_or bytes k 0 < 256) → (n : ℕ) → n ≡ length (words_of bytes) → (v w : PassState) → BytesStored n v w → StoresBytes z call c b bytes v w
  bytes_stored fits small n all v w so = let ws : List ℕ = words_held (class_number c) b v.blocks.held in record {
    has = record {
      block = so.block;
      bytes_are = ap (λ (l : List ℕ). take (length bytes) (bytes_of l)) (so.words ∙ words_end (words_of bytes) ws n (omega arith) (omega arith)) ∙ value_back bytes (drop (length (words_of bytes)) ws) small;
      fits = fits;
    };
    stands = so.stands;
    own = so.own;
    blocks = so.blocks;
    headers = so.headers;
    rooms = so.rooms;
    still = puts_whole first bytes n v w (omega arith) so.still;
  }
