-- Why a try was refused to a pass that is alone, told of its map: what the words lack the map lacks.
use Rattle.std.proofs.Common.{◌≡◌, ◌≢◌, ℕ, ◌+◌, ◌<◌, ◌≤◌, ◌⊎◌, inl, inr, List, length, Some, None, sym, ap, ◌∙◌, subst, arith}
use mathlib.Core.Logic.{dite}
use native.Mathlib.Decide.{ℕ_discrete}
use Rattle.oak_model.specs.declared.classes.Class.{Class}
use Rattle.oak_model.specs.declared.replies.Lack.TheVariants.{Block, Header}
use Rattle.oak_model.specs.declared.replies.Pair.{Pair}
use Rattle.oak_model.specs.Class.{blocks_of, class_number, class_of, has_class}
use Rattle.oak_model.specs.Counts.{one_if}
use Rattle.oak_model.specs.Limits.{Sizes}
use Rattle.arena_core.specs.Arena.{blocks}
use Rattle.arena_core.proofs.PlaceLaws.{same_class}
use Rattle.oak_core.specs.declared.states.PassState.{PassState}
use Rattle.oak_core.specs.PassState.{seen_of}
use Rattle.oak_core.specs.Usage.{is_free}
use Rattle.arena_ops.specs.Looking.{IsSetIn}
use Rattle.lone_counts.specs.Exactly.{BlocksExactly, HeadersExactly, block_bit}
use Rattle.lone_counts.specs.Lacks.{new_lack}
use Rattle.lone_counts.specs.LoneTable.{AllValued, LoneTable, retired_in}
use Rattle.lone_counts.specs.Maps.{IsMapOf, last_states}
use Rattle.lone_counts.proofs.MapChanges.{map_agrees}
use Rattle.lone_counts.proofs.TableCounts.{blocks_exactly, headers_exactly}
use Rattle.point_ops.specs.LoneInserts.{FitsValue, HasClear, HasClearFor, IsClearIn, LacksKeyBlock, LacksRoom, NoFree, NoneClearIn, SpareOnly}
use Rattle.oak_map.proofs.LackLaws.{ValueFits, has_its_class, has_other, header_lacks, key_lacks, none_lacks, value_lacks}
use Rattle.oak_map.proofs.LoneStates.{states_same}
use Rattle.oak_map.proofs.SpareWords.{bit_stays, pin_stays}

one_class : (a b : Class) (n : ℕ) → class_of n ≡ Some a → class_of n ≡ Some b → a ≡ b
one_class a b n e f = let g : Some a ≡ Some b = sym e ∙ f in cc

-- u is the state of the pass at the call, w the one behind the try, which changed the words b to c
module _ (z : Sizes) (key value : List ℕ) (u w : PassState) (b c : List ℕ) (table : LoneTable z c w) (seen : (q : ℕ) → seen_of q w.knowledge ≡ seen_of q u.knowledge) (spare : SpareOnly z b c) (all : AllValued z c) (m : List Pair) (has : IsMapOf (last_states u) m) where
  exactly : (k : Class) → BlocksExactly z c k (blocks_of m k)
  exactly k = blocks_exactly z c w m k table (map_agrees (last_states u) (last_states w) m has (states_same u w seen)) all

  headers : HeadersExactly z c (length m + retired_in z c)
  headers = headers_exactly z c w m table (map_agrees (last_states u) (last_states w) m has (states_same u w seen))

  clear_still : (k : Class) (n : ℕ) → IsClearIn z (class_number k) n b → block_bit z c k n ≡ 0
  clear_still k n e = bit_stays z b c spare (class_number k) n ∙ e

  set_still : (k : Class) (n : ℕ) → IsSetIn z k n b → block_bit z c k n ≡ 1
  set_still k n e = bit_stays z b c spare (class_number k) n ∙ e

  -- ---- what the words have

  pub none_clear : (k : Class) → NoneClearIn z k b → blocks z (class_number k) < blocks_of m k + 1
  none_clear k set = let e = (exactly k).all (λ n lt. set_still k n (set n lt)) in omega arith

  one_more : (k : Class) → HasClear z k b → blocks_of m k + 1 ≤ blocks z (class_number k)
  one_more k h = (exactly k).one h.0 h.1 (clear_still k h.0 h.2)

  pub value_block : HasClearFor z (length value) b → ValueFits z m (retired_in z c) key value
  value_block h k e = one_more k (subst (λ (d : Class). HasClear z d b) (one_class h.0 k (length value) h.1 e) h.2)

  pub no_header : NoFree z b → length m + retired_in z c ≡ z.headers
  no_header none = headers.all (λ h lt. ap is_free (pin_stays z b c spare h) ∙ none h lt)

  module _ (f : FitsValue z (length value) b) where
    value_fits : ValueFits z m (retired_in z c) key value
    value_fits = value_block (f.class, f.class_is, (f.block, f.inside, f.clear))

    header_fits : length m + retired_in z c ≢ z.headers
    header_fits e = let o = headers.one f.header f.there (ap is_free (pin_stays z b c spare f.header) ∙ f.free) in absurd (omega arith)

  -- ---- what a new key lacks

  -- of the key's class a block is clear at most for the value
  key_taken : (r : ℕ) (k : Class) → LacksKeyBlock z r key value k b → blocks z (class_number k) < blocks_of m k + (1 + one_if (has_class k (length value)))
  key_taken r k l = let f = l.fits in dite (ℕ_discrete (class_number f.class) (class_number k))
      (λ e. let same : f.class ≡ k = same_class f.class k e in let one : one_if (has_class k (length value)) ≡ 1 = ap one_if (has_its_class k (length value) (f.class_is ∙ ap (λ (d : Class). Some d) same)) in
      let o = (exactly k).but_one f.block (subst (λ (d : Class). f.block < blocks z (class_number d)) same f.inside) (subst (λ (d : Class). block_bit z c d f.block ≡ 0) same (clear_still f.class f.block f.clear))
      (λ d lt ne. set_still k d (l.others d lt (λ p. ne (sym p.1)))) in
      let x : ℕ = blocks_of m k in let y : ℕ = blocks z (class_number k) in let o' : x + 1 ≡ y = o in let t : ℕ = one_if (has_class k (length value)) in let t' : t ≡ 1 = one in let g : y < x + (1 + t) = omega arith in g)
      (λ ne. let o = (exactly k).all (λ d lt. set_still k d (l.others d lt (λ p. ne (ap class_number p.0)))) in
      let x : ℕ = blocks_of m k in let y : ℕ = blocks z (class_number k) in let o' : x ≡ y = o in let t : ℕ = one_if (has_class k (length value)) in let g : y < x + (1 + t) = omega arith in g)

  pub lacks_block : (r : ℕ) (k : Class) → ((class_of (length value) ≡ Some k) × NoneClearIn z k b) ⊎ LacksKeyBlock z r key value k b → new_lack z m (retired_in z c) key value ≡ Some (Block k)
  lacks_block r k (inl n) = value_lacks z m (retired_in z c) key value k n.0 (none_clear k n.1)
  lacks_block r k (inr l) = key_lacks z m (retired_in z c) key value (value_fits l.fits) (header_fits l.fits) k l.class_is (key_taken r k l)

  pub lacks_header : NoFree z b → HasClearFor z (length value) b → new_lack z m (retired_in z c) key value ≡ Some Header
  lacks_header none h = header_lacks z m (retired_in z c) key value (value_block h) (no_header none)

  -- a block for the key beside the value's
  key_fits : (r : ℕ) → LacksRoom z r key value b → (k : Class) → class_of (length key) ≡ Some k → blocks_of m k + (1 + one_if (has_class k (length value))) ≤ blocks z (class_number k)
  key_fits r l k e = let f = l.fits in let own : l.class ≡ k = one_class l.class k (length key) l.class_is e in
      let inside : l.block < blocks z (class_number k) = subst (λ (d : Class). l.block < blocks z (class_number d)) own l.inside in let clear : block_bit z c k l.block ≡ 0 = subst (λ (d : Class). block_bit z c d l.block ≡ 0) own (clear_still l.class l.block l.clear) in
      dite (ℕ_discrete (class_number f.class) (class_number k))
      (λ e. let same : f.class ≡ k = same_class f.class k e in let one : one_if (has_class k (length value)) ≡ 1 = ap one_if (has_its_class k (length value) (f.class_is ∙ ap (λ (d : Class). Some d) same)) in
      let o = (exactly k).two l.block f.block (λ n. l.apart (same ∙ sym own, sym n)) inside (subst (λ (d : Class). f.block < blocks z (class_number d)) same f.inside) clear (subst (λ (d : Class). block_bit z c d f.block ≡ 0) same (clear_still f.class f.block f.clear)) in
      let x : ℕ = blocks_of m k in let y : ℕ = blocks z (class_number k) in let o' : x + 2 ≤ y = o in let t : ℕ = one_if (has_class k (length value)) in let t' : t ≡ 1 = one in let g : x + (1 + t) ≤ y = omega arith in g)
      (λ ne. let none : one_if (has_class k (length value)) ≡ 0 = ap one_if (has_other k f.class (length value) f.class_is (λ q. ne (ap class_number q))) in
      let o = (exactly k).one l.block inside clear in
      let x : ℕ = blocks_of m k in let y : ℕ = blocks z (class_number k) in let o' : x + 1 ≤ y = o in let t : ℕ = one_if (has_class k (length value)) in let t' : t ≡ 0 = none in let g : x + (1 + t) ≤ y = omega arith in g)

  pub lacks_nothing : (r : ℕ) → LacksRoom z r key value b → new_lack z m (retired_in z c) key value ≡ None
  lacks_nothing r l = none_lacks z m (retired_in z c) key value (value_fits l.fits) (header_fits l.fits) (key_fits r l)
