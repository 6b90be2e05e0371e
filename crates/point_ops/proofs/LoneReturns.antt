-- What was made is given back: the words are as before it was made, but for those that nobody has.
use Rattle.std.proofs.Common.{◌≡◌, ◌≢◌, ℕ, ◌+◌, ◌-◌, ◌*◌, ◌/◌, ◌%◌, ◌^◌, ◌<◌, ◌≤◌, ◌⊎◌, List, length, get_or, set, length-set, sym, refl, ap, ◌∙◌, subst, arith, inl, inr, ⊎_elim}
use Rattle.std.specs.Prelude.{bit_and, bit_or}
use Rattle.std.specs.Int.{bit_at}
use Rattle.std.proofs.lemmas.Nat.{and_le_r}
use Rattle.std.proofs.lemmas.Nat.Bits.{bit_at-lt, bit_at_or, same_from_bits_below}
use mathlib.Core.Logic.{dite}
use native.Mathlib.Decide.{ℕ_discrete}
use Rattle.pin_word.specs.PinWord.{STATE}
use Rattle.oak_model.specs.declared.classes.Class.{Class}
use Rattle.oak_model.specs.Class.{class_number}
use Rattle.oak_model.specs.Limits.{Sizes}
use Rattle.oak_model.proofs.Counting.{test-cases}
use Rattle.arena_core.specs.Arena.{at_bits, at_bytes}
use Rattle.arena_core.specs.ArenaStep.{bit_of}
use Rattle.arena_core.proofs.ArenaSteps.{bit_of_below, set_others, clear_there, clear_others}
use Rattle.arena_ops.specs.Looking.{bit_spot}
use Rattle.arena_ops.specs.Taking.{ClearsBit}
use Rattle.header_core.specs.declared.states.TheConstants.{LIVE}
use Rattle.header_core.specs.Headers.{at_pin, at_place, at_stamp}
use Rattle.oak_core.specs.Memory.{Spot, IsInside, at_given, in_arena, in_headers, in_rooms, index, memory, number_at, read, same_spot, word_count}
use Rattle.oak_core.proofs.memory.ArenaNames.{bit_inside}
use Rattle.oak_core.proofs.memory.Words.{memory_read, read-of, same_spot-is}
use Rattle.chunk_ops.proofs.KeptKeys.{number_other}
use Rattle.value_ops.specs.Claiming.{pin_spot}
use Rattle.value_ops.specs.Filling.{FreesPin}
use Rattle.point_ops.specs.LoneInserts.{GivesBackIn, IsClearIn, IsFreeIn, IsOfBlock, IsOfHeader, IsSpare, KeepsBut, MakesBlockIn, MakesFreshIn, MakesHeaderIn, SpareOnly}
use Rattle.point_ops.proofs.LoneWords.{but_same, read_stored}

-- a change, behind it one of spare words alone, and then one word becomes what it was: what else changed first was spare
restored : (z : Sizes) (Q : Spot → Type 0) (a m n d : List ℕ) (q : Spot) (y : ℕ) → IsInside z q → KeepsBut z Q a m → ((p : Spot) → Q p → (p ≡ q) ⊎ IsSpare z a p) → ((p : Spot) → IsSpare z m p → IsSpare z a p)
    → SpareOnly z m n → d ≡ set n (index z q) y → read (memory z d) q ≡ read (memory z a) q → SpareOnly z a d
restored z Q a m n d q y inside first most back spare last again = record {
  size = ap length last ∙ (length-set n (index z q) y ∙ (spare.size ∙ first.size));
  same = λ p. test-cases (same_spot p q) (λ t. same_spot p q ≡ t → IsSpare z a p ⊎ (read (memory z d) p ≡ read (memory z a) p))
      (λ t _. here p (same_spot-is p q t)) (λ f _. ⊎_elim (λ (s : IsSpare z m p). inl (back p s))
      (λ (e : read (memory z n) p ≡ read (memory z m) p). ⊎_elim (λ (i : Q p). ⊎_elim (λ (at : p ≡ q). here p at) (λ (s : IsSpare z a p). inl s) (most p i))
      (λ (g : read (memory z m) p ≡ read (memory z a) p). inr (stays p f ∙ (e ∙ g))) (first.same p)) (spare.same p)) refl;
}
  where
    here : (p : Spot) → p ≡ q → IsSpare z a p ⊎ (read (memory z d) p ≡ read (memory z a) p)
    here p at = inr (subst (λ (r : Spot). read (memory z d) r ≡ read (memory z a) r) (sym at) again)

    stays : (p : Spot) → same_spot p q ≡ Rattle.std.proofs.Common.false → read (memory z d) p ≡ read (memory z n) p
    stays p f = ap (λ (ws : List ℕ). read (memory z ws) p) last ∙ (read-of (number_at z (set n (index z q) y)) p ∙ (number_other z n q y inside p f ∙ sym (read-of (number_at z n) p)))

-- a bit that is set and then cleared
unset : (n b : ℕ) → n < 2 ^ 64 → bit_at n (b % 64) ≡ 0 → bit_and (bit_or n (bit_of b)) (2 ^ 64 - 1 - bit_of b) ≡ n
unset n b small clear = let m : ℕ = bit_or n (bit_of b) in let k : ℕ = 2 ^ 64 - 1 - bit_of b in same_from_bits_below 64 (bit_and m k) n (let l : bit_and m k ≤ k = and_le_r m k in let o = bit_of_below b in omega arith) small
    (λ i lt. dite (ℕ_discrete i (b % 64)) (λ e. subst (λ (j : ℕ). bit_at (bit_and m k) j ≡ bit_at n j) (sym e) (clear_there m b ∙ sym clear)) (λ ne. clear_others m b i lt ne ∙ set_others n b i ne))

-- a bit that is clear with another set was so before
pub clear_before : (n m k : ℕ) → bit_at (bit_or n m) k ≡ 0 → bit_at n k ≡ 0
clear_before n m k e = let o = bit_at_or n m k in let l = bit_at-lt n k in let h = bit_at-lt m k in omega arith

-- ---- a block

module _ (z : Sizes) (r : ℕ) (c : Class) (b : ℕ) (a m : List ℕ) (made : MakesBlockIn z r c b a m) where
  -- what is clear behind it was so before
  pub clear_was : (d e : ℕ) → IsClearIn z d e m → IsClearIn z d e a
  clear_was d e clear = ⊎_elim
      (λ (at : (d ≡ class_number c) × (e / 64 ≡ b / 64)). subst (λ (q : ℕ × ℕ). bit_at ((memory z a).arena.bits q.0 q.1) (e % 64) ≡ 0) (λ i. (sym at.0 i, sym at.1 i))
      (clear_before ((memory z a).arena.bits (class_number c) (b / 64)) (bit_of b) (e % 64)
      (ap (λ (n : ℕ). bit_at n (e % 64)) (sym made.bit) ∙ subst (λ (q : ℕ × ℕ). bit_at ((memory z m).arena.bits q.0 q.1) (e % 64) ≡ 0) (λ i. (at.0 i, at.1 i)) clear)))
      (λ (same : (memory z m).arena.bits d (e / 64) ≡ (memory z a).arena.bits d (e / 64)). ap (λ (n : ℕ). bit_at n (e % 64)) (sym same) ∙ clear)
      (made.but.same (in_arena (at_bits d (e / 64))))

  pin_was : (h : ℕ) → (memory z m).headers.pin h ≡ (memory z a).headers.pin h
  pin_was h = but_same z (IsOfBlock c b) a m made.but (in_headers (at_pin h)) (λ e. e)

  pub free_was : (h : ℕ) → IsFreeIn z h m → IsFreeIn z h a
  free_was h free = ap Rattle.oak_core.specs.Usage.is_free (sym (pin_was h)) ∙ free

  pub spare_was : (p : Spot) → IsSpare z m p → IsSpare z a p
  spare_was (in_arena (at_bytes d e k)) s = clear_was d e s
  spare_was (in_arena (at_bits d j)) s = absurd s
  spare_was (in_headers (at_pin h)) s = absurd s
  spare_was (in_headers (at_place h)) s = free_was h s
  spare_was (in_headers (at_stamp h)) s = free_was h s
  spare_was (in_rooms q) s = absurd s
  spare_was at_given s = absurd s

  pub spare_or : (p : Spot) → IsOfBlock c b p → (p ≡ bit_spot c b) ⊎ IsSpare z a p
  spare_or (in_arena (at_bytes d e k)) s = inr (subst (λ (q : ℕ × ℕ). IsClearIn z q.0 q.1 a) (λ i. (sym s.0 i, sym s.1 i)) made.clear)
  spare_or (in_arena (at_bits d j)) s = inl (λ i. in_arena (at_bits (s.0 i) (s.1 i)))
  spare_or (in_headers q) s = absurd s
  spare_or (in_rooms q) s = absurd s
  spare_or at_given s = absurd s

  pub block_returned : (n d : List ℕ) → SpareOnly z m n → ClearsBit z c b n d → SpareOnly z a d
  block_returned n d spare given = restored z (IsOfBlock c b) a m n d (bit_spot c b) (bit_and (get_or n at 0) (2 ^ 64 - 1 - bit_of b)) there made.but spare_or spare_was spare given.1
      (ap (λ (ws : List ℕ). read (memory z ws) (bit_spot c b)) given.1 ∙ (read_stored z n (bit_spot c b) (bit_and (get_or n at 0) (2 ^ 64 - 1 - bit_of b)) (spare.size ∙ (made.but.size ∙ made.wide)) there
      ∙ (ap (λ (k : ℕ). bit_and k (2 ^ 64 - 1 - bit_of b)) (sym (memory_read z n (bit_spot c b) there) ∙ (but_same z (IsSpare z m) m n spare (bit_spot c b) (λ e. e) ∙ made.bit))
      ∙ unset ((memory z a).arena.bits (class_number c) (b / 64)) b made.small made.clear)))
    where
      at : ℕ
      at = index z (bit_spot c b)

      there : IsInside z (bit_spot c b)
      there = bit_inside z c b made.inside

-- ---- a header

module _ (z : Sizes) (h : ℕ) (a m : List ℕ) (made : MakesHeaderIn z h a m) where
  pub header_free : (k : ℕ) → IsFreeIn z k m → IsFreeIn z k a
  header_free k free = ⊎_elim (λ (e : k ≡ h). subst (λ (j : ℕ). IsFreeIn z j a) (sym e) made.free)
      (λ (same : (memory z m).headers.pin k ≡ (memory z a).headers.pin k). ap Rattle.oak_core.specs.Usage.is_free (sym same) ∙ free) (made.but.same (in_headers (at_pin k)))

  pub header_spare : (p : Spot) → IsSpare z m p → IsSpare z a p
  header_spare (in_arena (at_bytes d e k)) s = ap (λ (n : ℕ). bit_at n (e % 64)) (sym (but_same z (IsOfHeader h) a m made.but (in_arena (at_bits d (e / 64))) (λ x. x))) ∙ s
  header_spare (in_arena (at_bits d j)) s = absurd s
  header_spare (in_headers (at_pin k)) s = absurd s
  header_spare (in_headers (at_place k)) s = header_free k s
  header_spare (in_headers (at_stamp k)) s = header_free k s
  header_spare (in_rooms q) s = absurd s
  header_spare at_given s = absurd s

  header_or : (p : Spot) → IsOfHeader h p → (p ≡ pin_spot h) ⊎ IsSpare z a p
  header_or (in_headers (at_pin k)) e = inl (ap (λ (j : ℕ). in_headers (at_pin j)) e)
  header_or (in_headers (at_place k)) e = inr (subst (λ (j : ℕ). IsFreeIn z j a) (sym e) made.free)
  header_or (in_headers (at_stamp k)) e = inr (subst (λ (j : ℕ). IsFreeIn z j a) (sym e) made.free)
  header_or (in_arena q) e = absurd e
  header_or (in_rooms q) e = absurd e
  header_or at_given e = absurd e

  pub header_returned : length a ≡ word_count z → (n d : List ℕ) → SpareOnly z m n → FreesPin z h LIVE n d → SpareOnly z a d
  header_returned wide n d spare given = restored z (IsOfHeader h) a m n d (pin_spot h) ((memory z n).headers.pin h - LIVE * STATE) made.inside made.but header_or header_spare spare given.1
      (ap (λ (ws : List ℕ). read (memory z ws) (pin_spot h)) given.1 ∙ (read_stored z n (pin_spot h) ((memory z n).headers.pin h - LIVE * STATE) (spare.size ∙ (made.but.size ∙ wide)) made.inside
      ∙ (let x : ℕ = (memory z n).headers.pin h in let y : ℕ = (memory z a).headers.pin h in let e : x ≡ y + 2 * STATE = but_same z (IsSpare z m) m n spare (pin_spot h) (λ e. e) ∙ made.pin in let g : x - LIVE * STATE ≡ y = omega arith in g)))

-- ---- both

pub fresh_returned : (z : Sizes) (r h : ℕ) (c : Class) (b : ℕ) (a m n d : List ℕ) → MakesFreshIn z r h c b a m → SpareOnly z m n → GivesBackIn z h c b n d → SpareOnly z a d
fresh_returned z r h c b a m n d made spare given = block_returned z r c b a made.0 made.1 given.0 d (header_returned z h made.0 m made.2 (made.1.but.size ∙ made.1.wide) n given.0 spare given.1) given.2
