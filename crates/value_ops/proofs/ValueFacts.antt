-- Where the words of a value lie that is read.
use Rattle.std.proofs.Common.{◌≡◌, ℕ, zero, suc, ◌+◌, ◌-◌, ◌*◌, ◌^◌, ◌<◌, ◌≤◌, List, length, get_or, take, sym, ap, ◌∙◌, subst, arith}
use Rattle.std.proofs.lemmas.List.{length-take}
use Rattle.std.proofs.Math.Nat.{min-eq_left}
use Rattle.oak_model.specs.declared.limits.TheConstants.{CLASSES}
use Rattle.oak_model.specs.Limits.{Sizes, IsInLimits}
use Rattle.oak_model.specs.Counts.{below}
use Rattle.arena_core.specs.Arena.{at_bytes, block_words, bit_words, byte_words, blocks}
use Rattle.arena_core.specs.Place.{class_in, block_in, length_in}
use Rattle.arena_core.proofs.ArenaSizes.{few_words}
use Rattle.oak_core.specs.declared.states.PassState.{PassState}
use Rattle.oak_core.specs.Memory.{Spot, IsInside, in_arena, index, rooms_at, word_count}
use Rattle.oak_core.specs.Passes.{state, key, call_of}
use Rattle.oak_core.proofs.memory.ArenaPlaces.{bytes_place, few_bits, few_bytes}
use Rattle.oak_core.proofs.memory.Words.{index_below, arena_before}
use Rattle.oak_core.proofs.seats.SamePass.{stays_both}
use Rattle.arena_ops.proofs.PutWords.{spot_from}
use Rattle.oak_core.specs.declared.table.Pass.{Pass}
use Rattle.value_ops.specs.declared.pinned_value.PinnedValue.{PinnedValue}
use Rattle.value_ops.specs.declared.reading.Reading.{Reading}
use Rattle.oak_model.specs.WordBytes.{word_bytes, bytes_of}
use Rattle.value_ops.specs.PinnedValues.{IsPinnedValue, OnlyLoads, ReadsPinned, value_pinned, value_under, words_pinned, words_under}
use Rattle.value_ops.specs.Reading.{ReadsOn}
use Rattle.arena_core.specs.Words.{bytes_in}
use Rattle.value_ops.proofs.PinFacts.{loads_both}
use Rattle.arena_core.proofs.ByteFacts.{length-bytes_of}
use Rattle.arena_core.proofs.WordLaws.{word_put}

below_few : (f : ℕ → ℕ) (n : ℕ) → ((k : ℕ) → k < n → f k ≤ 8388608) → below f n ≤ n * 8388608
unfolding below
below_few f zero h = omega arith
below_few f (suc n) h = let r = below_few f n (λ k l. h k (omega arith)) in let a = h n (omega arith) in omega arith

-- the number of a word of a block is one of 32 bits
pub bytes_small : (z : Sizes) → IsInLimits z → (c b i : ℕ) → c < CLASSES → b < blocks z c → i < block_words c → index z (in_arena (at_bytes c b i)) < 2 ^ 32
bytes_small z is c b i lc lb li =
    let bits = below_few (bit_words z) CLASSES (λ k l. let f = few_bits z is k l in omega arith) in
    let bytes = below_few (byte_words z) c (λ k l. few_words z is k (omega arith)) in
    let at = few_bytes z is c b i lc lb li in let e = bytes_place z c b i in
    let x : ℕ = b * block_words c + i in let y : ℕ = below (bit_words z) CLASSES in let w : ℕ = below (byte_words z) c in let j : ℕ = index z (in_arena (at_bytes c b i)) in
    let at' : x < 8388608 = at in let bits' : y ≤ CLASSES * 8388608 = bits in let bytes' : w ≤ c * 8388608 = bytes in let e' : 1 + (y + (w + x)) ≡ j = e in
    let res : j < 2 ^ 32 = omega arith in res

module _ (z : Sizes) (x : PinnedValue) (v : PassState) (is : IsPinnedValue z x v) where
  abbrev c : ℕ
  c = class_in is.pin.place

  abbrev b : ℕ
  b = block_in is.pin.place

  pub words_are : words_under v ≡ is.pin.words
  words_are = ap words_pinned is.has.is

  pub value_is : value_under v ≡ take x.length (bytes_of is.pin.words)
  value_is = ap value_pinned is.has.is ∙ ap (λ (n : ℕ). take n (bytes_of is.pin.words)) (sym is.length_is)

  pub room : x.length ≤ 8 * length is.pin.words
  room = let k : ℕ = block_words c in let p : length_in is.pin.place ≤ 8 * k = is.placed.room in let e = is.length_is in let w : length is.pin.words ≡ k = is.words in omega arith

  pub long : length (value_under v) ≡ x.length
  long = ap length value_is ∙ (length-take x.length (bytes_of is.pin.words) ∙ min-eq_left (let e = length-bytes_of is.pin.words in let l = room in let h : x.length ≤ length (bytes_of is.pin.words) = omega arith in h))

  module _ (i : ℕ) (lt : 8 * i < length (value_under v)) where
    pub word_inside : i < block_words c
    word_inside = let k : ℕ = block_words c in let w : length is.pin.words ≡ k = is.words in let l = room in let e = long in let h : i < k = omega arith in h

    pub word_spot : x.block + i ≡ index z (in_arena (at_bytes c b i))
    word_spot = spot_from z c b x.block i is.block_is

    abbrev pub word_at : Spot
    word_at = in_arena (at_bytes c b i)

    pub word_placed : IsInside z word_at
    word_placed = (is.placed.class, is.placed.block, word_inside)

    pub word_below : x.block + i < word_count z
    word_below = let e = word_spot in let l = index_below z word_at word_placed in omega arith

    pub word_in_front : index z word_at < rooms_at z
    word_in_front = arena_before z (at_bytes c b i) word_placed

    pub word_small : x.block + i < 2 ^ 32
    word_small = let e = word_spot in let l = bytes_small z is.limits c b i is.placed.class is.placed.block word_inside in omega arith

    -- the bytes of the word that was loaded
    pub bytes_loaded : (n : ℕ) → n ≡ get_or (words_under v) i 0 → take (length (value_under v) - 8 * i) (word_bytes n) ≡ bytes_in i (value_under v)
    bytes_loaded n f = (λ j. take (long j - 8 * i) (word_bytes ((f ∙ ap (λ (ws : List ℕ). get_or ws i 0) words_are) j)))
        ∙ (word_put is.pin.words x.length i (subst (λ (k : ℕ). 8 * i < k) long lt) room ∙ ap (bytes_in i) (sym value_is))

-- reads that go on

pub pinned_same : (z : Sizes) (x : PinnedValue) (p q : Pass) → ReadsPinned z x p q → value_under (state q) ≡ value_under (state p)
pinned_same z x p q o = ap (λ (v : PassState). value_pinned v.headers.pin) o.only.loads.after

pub long_still : (z : Sizes) (x : PinnedValue) (p q : Pass) (n : ℕ) → IsPinnedValue z x (state p) → ReadsPinned z x p q → n ≡ x.length → n ≡ length (value_under (state q))
long_still z x p q n is reads e = e ∙ (sym (long z x (state p) is) ∙ ap length (sym (pinned_same z x p q reads)))

pub pinned_both : (z : Sizes) (x : PinnedValue) (p q r : Pass) → ReadsPinned z x p q → ReadsPinned z x q r → ReadsPinned z x p r
pinned_both z x p q r a b = record {
  stays = stays_both a.stays b.stays;
  pinned = b.pinned;
  only = loads_both z (call_of p) (state p) (state q) (state r) a.only (subst (λ (i : ℕ). OnlyLoads z i (state q) (state r)) a.stays.call b.only);
}

-- readings that go on

pub reads_both : (q r s : Reading) → ReadsOn q r → ReadsOn r s → ReadsOn q s
reads_both q r s a b = record {
  reading = b.reading;
  table = b.table ∙ a.table;
  stays = stays_both a.stays b.stays;
  only = loads_both (key q.table.now) (call_of q.pass.now) (state q.pass.now) (state r.pass.now) (state s.pass.now) a.only
      (subst (λ (i : Sizes × ℕ). OnlyLoads i.0 i.1 (state r.pass.now) (state s.pass.now)) (λ i. (ap (λ t. key t.now) a.table i, a.stays.call i)) b.only);
}
