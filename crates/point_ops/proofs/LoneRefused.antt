-- Why an insertion of a pass that is alone is given up: what it lacks is lacking in the words before, which stay but for those that nobody has.
use Rattle.std.proofs.Common.{◌≡◌, ◌≢◌, ℕ, ◌/◌, ◌%◌, ◌<◌, ◌⊎◌, List, length, sym, ap, ◌∙◌, subst, arith, inl, inr, ⊎_elim, Some}
use Rattle.std.specs.Int.{bit_at}
use Rattle.oak_model.specs.declared.classes.Class.{Class}
use Rattle.oak_model.specs.Class.{class_number, class_of}
use Rattle.oak_model.specs.Limits.{Sizes}
use Rattle.arena_core.specs.Arena.{at_bits, blocks}
use Rattle.arena_core.proofs.ArenaSteps.{set_there, set_others}
use Rattle.arena_core.proofs.PlaceLaws.{same_class}
use Rattle.arena_ops.specs.Looking.{IsSetIn}
use Rattle.chunk_core.specs.Covers.{span_in}
use Rattle.oak_core.specs.Memory.{in_arena, memory}
use Rattle.chunk_ops.specs.AskedRanges.{CoversKey}
use Rattle.chunk_ops.specs.FindsAlone.{LacksKeyAt}
use Rattle.point_ops.specs.LoneInserts.{AddingHaltsIn, FitsValue, GivesBackIn, InsertHaltsIn, IsClearIn, IsOfHeader, LacksKeyBlock, MakesFreshIn, MakingHaltsIn, SpareOnly, IsSpare}
use Rattle.point_ops.specs.declared.halts.Halt.{Halt}
use Rattle.point_ops.specs.declared.halts.Halt.TheVariants.{Busy, Moved, Crowded, NoBlock, NoHeader}
use Rattle.point_ops.proofs.LoneInserted.{fresh_clear, fresh_free, fresh_keys}
use Rattle.point_ops.proofs.LoneReturns.{fresh_returned}
use Rattle.point_ops.proofs.LoneWords.{but_none, but_same}

-- no value was made
pub unmade_refused : (z : Sizes) (r : ℕ) (c : Class) (key value a d : List ℕ) → class_of (length value) ≡ Some c → (why : Halt) → MakingHaltsIn why z c a d → InsertHaltsIn why z r key value a d
unmade_refused z r c key value a d fits Busy h = absurd h
unmade_refused z r c key value a d fits Moved h = absurd h
unmade_refused z r c key value a d fits Crowded h = absurd h
unmade_refused z r c key value a d fits (NoBlock e) h = subst (λ (k : Class). SpareOnly z a d × (((class_of (length value) ≡ Some k) × ((b : ℕ) → b < blocks z (class_number k) → IsSetIn z k b a)) ⊎ LacksKeyBlock z r key value k a)) (sym h.0)
    (subst (SpareOnly z a) (sym h.1.0) (but_none z (IsSpare z a) a), inl (fits, λ b lt. h.1.1 b lt tt))
unmade_refused z r c key value a d fits NoHeader h = (h.0, h.1, (c, fits, h.2))

-- a value was made, and the key was given no entry
module _ (z : Sizes) (r h : ℕ) (c : Class) (b : ℕ) (key value a m : List ℕ) (fits : class_of (length value) ≡ Some c) (f : MakesFreshIn z r h c b a m) (covers : CoversKey key (span_in (memory z a).rooms r)) (missing : LacksKeyAt (memory z a) r key) where
  abbrev mid : List ℕ
  mid = f.0

  abbrev value_fits : FitsValue z (length value) a
  value_fits = record { header = h; there = f.2.inside; free = fresh_free z r h c b a m f; class = c; class_is = fits; block = b; inside = f.1.inside; clear = f.1.clear }

  bits_mid : (d j : ℕ) → (memory z m).arena.bits d j ≡ (memory z f.0).arena.bits d j
  bits_mid d j = but_same z (IsOfHeader h) mid m f.2.but (in_arena (at_bits d j)) (λ e. e)

  -- its own bit is set
  own_set : IsSetIn z c b m
  own_set = ap (λ (n : ℕ). bit_at n (b % 64)) (bits_mid (class_number c) (b / 64) ∙ f.1.bit) ∙ set_there ((memory z a).arena.bits (class_number c) (b / 64)) b

  -- each other that is set was so before
  set_was : (e : Class) (j : ℕ) → ((c ≡ e) × (b ≡ j) → ⊥) → IsSetIn z e j m → IsSetIn z e j a
  set_was e j apart is = ⊎_elim
      (λ (at : (class_number e ≡ class_number c) × (j / 64 ≡ b / 64)).
      let other : j % 64 ≢ b % 64 = (λ x. apart (same_class c e (sym at.0), (let y : j / 64 ≡ b / 64 = at.1 in omega arith))) in
      subst (λ (q : ℕ × ℕ). bit_at ((memory z a).arena.bits q.0 q.1) (j % 64) ≡ 1) (λ i. (sym at.0 i, sym at.1 i))
      (sym (set_others ((memory z a).arena.bits (class_number c) (b / 64)) b (j % 64) other)
      ∙ (ap (λ (n : ℕ). bit_at n (j % 64)) (sym (bits_mid (class_number c) (b / 64) ∙ f.1.bit)) ∙ subst (λ (q : ℕ × ℕ). bit_at ((memory z m).arena.bits q.0 q.1) (j % 64) ≡ 1) (λ i. (at.0 i, at.1 i)) is)))
      (λ (same : (memory z mid).arena.bits (class_number e) (j / 64) ≡ (memory z a).arena.bits (class_number e) (j / 64)). ap (λ (n : ℕ). bit_at n (j % 64)) (sym (bits_mid (class_number e) (j / 64) ∙ same)) ∙ is)
      (f.1.but.same (in_arena (at_bits (class_number e) (j / 64))))

  pub unadded_refused : (why : Halt) (n d : List ℕ) → AddingHaltsIn why z r key m n → GivesBackIn z h c b n d → InsertHaltsIn why z r key value a d
  unadded_refused Busy n d s g = absurd s
  unadded_refused Moved n d s g = absurd s
  unadded_refused NoHeader n d s g = absurd s
  unadded_refused Crowded n d s g = (
    fresh_returned z r h c b a m n d f s.0 g,
    record {
      full = sym (fresh_keys z r h c b a m f).count ∙ s.1;
      covers = covers;
      missing = missing;
      fits = value_fits;
      class = s.2.0;
      class_is = s.2.1;
      block = s.2.2.0;
      inside = s.2.2.1;
      clear = fresh_clear z r h c b a m f (class_number s.2.0) s.2.2.0 s.2.2.2;
      apart = λ e. let set = own_set in let clear : IsClearIn z (class_number c) b m = subst (λ (q : Class × ℕ). IsClearIn z (class_number q.0) q.1 m) (λ i. (sym e.0 i, sym e.1 i)) s.2.2.2 in let no_bit : 1 ≡ 0 = sym set ∙ clear in absurd (omega arith);
    },
  )
  unadded_refused (NoBlock e) n d s g = (
    fresh_returned z r h c b a m n d f (subst (SpareOnly z m) (sym s.1.0) (but_none z (IsSpare z m) m)) g,
    inr record { class_is = s.0; covers = covers; missing = missing; fits = value_fits; others = λ j lt apart. set_was e j apart (s.1.1 j lt tt) },
  )
