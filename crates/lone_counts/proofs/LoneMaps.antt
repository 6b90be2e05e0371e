-- A table whose pass is alone holds a map: each entry with a value is a pair.
use Rattle.std.proofs.Common.{◌≡◌, ℕ, suc, ◌+◌, ◌⊎◌, inl, inr, Bool, true, false, List, [], ◌∷◌, Some, None, sym, refl, ap, ◌∙◌, subst, arith}
use mathlib.Core.Logic.{dite}
use mathlib.Core.Option.{some}
use native.Mathlib.Decide.{ℕ_discrete}
use lib.ListN.{get_elem?}
use Rattle.oak_model.specs.declared.replies.Pair.{Pair}
use Rattle.oak_model.specs.Counts.{Each, one_if, total}
use Rattle.oak_model.specs.Key.{AreBytes, IsKey, same_key}
use Rattle.oak_model.specs.KeyNumber.{key_number}
use Rattle.oak_model.specs.Limits.{Sizes}
use Rattle.oak_model.specs.State.{State}
use Rattle.oak_model.proofs.Counting.{one_at-same, one_at-other}
use Rattle.oak_model.proofs.KeyLaws.{same_itself, same_is}
use Rattle.oak_model.proofs.MemberLaws.{each_at}
use Rattle.oak_model.proofs.NumberLaws.{key_number_is}
use Rattle.chunk_core.specs.Covers.{Entry}
use Rattle.header_core.specs.Headers.{HeaderMemory}
use Rattle.oak_core.specs.declared.states.PassState.{PassState}
use Rattle.oak_core.specs.Memory.{memory}
use Rattle.lone_counts.specs.Entries.{at_key, entries_of, valued}
use Rattle.lone_counts.specs.LoneTable.{LoneTable}
use Rattle.lone_counts.specs.Maps.{IsMapOf, last_states}
use Rattle.lone_counts.specs.Premises.{EntriesStand, EntryStands}
use Rattle.lone_counts.proofs.ByClass.{valued-le}
use Rattle.lone_counts.proofs.LoneTables.{table_stands}

is_valued : (e : Entry) → (valued e ≡ 0) ⊎ (valued e ≡ 1)
is_valued e = let le = valued-le e in dite (ℕ_discrete (valued e) 0) (λ z. inl z) (λ more. inr (omega arith))

other_key : (a c : List ℕ) → (a ≡ c → ⊥) → one_if (same_key a c) ≡ 0
other_key a c ne = by (same_key a c) refl
  where
    by : (b : Bool) → same_key a c ≡ b → one_if b ≡ 0
    by true e = absurd (ne (same_is a c e))
    by false e = refl

module _ (m : HeaderMemory) (state : List ℕ → State) where
  abbrev Stand : List Entry → Type 0
  Stand es = (j : ℕ) (e : Entry) → get_elem? es j ≡ some e → EntryStands m state e

  -- the pair of the entry, where it has a value
  abbrev with_pair : (e : Entry) → EntryStands m state e → (valued e ≡ 0) ⊎ (valued e ≡ 1) → List Pair → List Pair
  with_pair e s (inl none) ps = ps
  with_pair e s (inr one) ps = record { key = s.key; value = (s.value one).0; at = 0 } ∷ ps

  pairs : (es : List Entry) → Stand es → List Pair
  pairs [] h = []
  pairs (e ∷ es) h = with_pair e (h 0 e refl) (is_valued e) (pairs es (λ j x there. h (suc j) x there))

  abbrev Holds : Pair → Type 0
  Holds p = state p.key ≡ Some p.value

  with_holds : (e : Entry) (s : EntryStands m state e) (d : (valued e ≡ 0) ⊎ (valued e ≡ 1)) (ps : List Pair) → Each Holds ps → Each Holds (with_pair e s d ps)
  with_holds e s (inl none) ps all = all
  with_holds e s (inr one) ps all = ((s.value one).1, all)

  each_holds : (es : List Entry) (h : Stand es) → Each Holds (pairs es h)
  unfolding pairs
  each_holds [] h = tt
  each_holds (e ∷ es) h = with_holds e (h 0 e refl) (is_valued e) (pairs es (λ j x there. h (suc j) x there)) (each_holds es (λ j x there. h (suc j) x there))

  module _ (q b : List ℕ) (held : state q ≡ Some b) (key : IsKey q × AreBytes q) where
    abbrev counts : Pair → ℕ
    counts p = one_if (same_key q p.key)

    its_key : (e : Entry) (s : EntryStands m state e) → e.key ≡ key_number q → s.key ≡ q
    its_key e s same = key_number_is s.key q s.bytes key.1 s.is_key key.0 (sym s.number ∙ same)

    with_counts : (e : Entry) (s : EntryStands m state e) (d : (valued e ≡ 0) ⊎ (valued e ≡ 1)) (ps : List Pair) → total counts (with_pair e s d ps) ≡ at_key (key_number q) e + total counts ps
    unfolding total
    with_counts e s (inl none) ps = let z : at_key (key_number q) e ≡ 0 = one_at-other e.key (key_number q) (λ same. let c : None ≡ Some b = sym (s.floor none) ∙ (ap state (its_key e s same) ∙ held) in absurd cc) in omega arith
    with_counts e s (inr one) ps = let same : one_if (same_key q s.key) ≡ at_key (key_number q) e = dite (ℕ_discrete e.key (key_number q))
        (λ is. ap one_if (subst (λ (k : List ℕ). same_key q k ≡ true) (sym (its_key e s is)) (same_itself q)) ∙ sym (one_at-same e.key (key_number q) is))
        (λ ne. other_key q s.key (λ is. ne (s.number ∙ ap key_number (sym is))) ∙ sym (one_at-other e.key (key_number q) ne)) in omega arith

    all_counts : (es : List Entry) (h : Stand es) → total counts (pairs es h) ≡ total (at_key (key_number q)) es
    unfolding pairs total
    all_counts [] h = refl
    all_counts (e ∷ es) h = let a = with_counts e (h 0 e refl) (is_valued e) (pairs es (λ j x there. h (suc j) x there)) in let t = all_counts es (λ j x there. h (suc j) x there) in omega arith

  pub map_of : (es : List Entry) → EntriesStand m es state → (ps : List Pair) × IsMapOf state ps
  map_of es s = (
    pairs es s.each,
    record {
      each = λ i p there. each_at Holds (pairs es s.each) (each_holds es s.each) i p there;
      once = λ q b held. let c = all_counts q b held (s.keys q b held) es s.each in let most = s.once (key_number q) in
          dite (ℕ_discrete (total (at_key (key_number q)) es) 0) (λ none. let n = s.none q none in let e : None ≡ Some b = sym n ∙ held in absurd cc) (λ more. c ∙ (omega arith));
    },
  )

-- the map that the table holds
pub table_map : (z : Sizes) (words : List ℕ) (v : PassState) → LoneTable z words v → (ps : List Pair) × IsMapOf (last_states v) ps
table_map z words v l = map_of (memory z words).headers (last_states v) (entries_of z (memory z words)) (table_stands z words v l).entries
