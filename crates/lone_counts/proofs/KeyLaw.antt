-- The pairs of the map and the entries with a value are matched, key by key. So any number told of the pairs adds up to what it adds up to over the entries.
use Rattle.std.proofs.Common.{◌≡◌, ℕ, ◌*◌, ◌<◌, Bool, true, false, List, Some, None, sym, refl, ap, ◌∙◌, subst, arith}
use mathlib.Core.Logic.{dite}
use mathlib.Core.Option.{some}
use native.Mathlib.Decide.{ℕ_discrete}
use lib.ListN.{get_elem?}
use Rattle.oak_model.specs.declared.replies.Pair.{Pair}
use Rattle.oak_model.specs.Counts.{one_at, one_if, total}
use Rattle.oak_model.specs.Key.{same_key}
use Rattle.oak_model.specs.KeyNumber.{key_number}
use Rattle.oak_model.specs.State.{State}
use Rattle.oak_model.proofs.Counting.{one_at-same, one_at-other, one_at-true, one_if_le, total_some}
use Rattle.oak_model.proofs.KeyLaws.{same_itself, same_is}
use Rattle.oak_model.proofs.NumberLaws.{key_number_is}
use Rattle.chunk_core.specs.Covers.{Entry}
use Rattle.header_core.specs.Headers.{HeaderMemory}
use Rattle.lone_counts.specs.Entries.{valued, at_key}
use Rattle.lone_counts.specs.Maps.{IsMapOf}
use Rattle.lone_counts.specs.Premises.{Agree, EntriesStand}
use Rattle.lone_counts.proofs.Sums.{total_same, total_none, total_only, total_unweighed, matched}
use Rattle.lone_counts.proofs.ByClass.{valued-le}

is_true : (b : Bool) → 0 < one_if b → b ≡ true
is_true true e = refl
is_true false e = absurd (omega arith)

-- a key that holds something has one pair, which is found
pub record PairOf (ps : List Pair) (k b : List ℕ) : Type 0 where
  pub place : ℕ
  pub pair : Pair
  pub there : get_elem? ps place ≡ some pair
  pub key : pair.key ≡ k
  pub value : pair.value ≡ b

pub pair_of : (state : List ℕ → State) (ps : List Pair) → IsMapOf state ps → (k b : List ℕ) → state k ≡ Some b → PairOf ps k b
pair_of state ps is k b e =
    let o = is.once k b e in
    let t = total_some (λ (p : Pair). one_if (same_key k p.key)) ps (omega arith) in
    let same : k ≡ t.1.key = same_is k t.1.key (is_true (same_key k t.1.key) t.3) in
    let held : Some t.1.value ≡ Some b = sym (is.each t.0 t.1 t.2) ∙ (ap state (sym same) ∙ e) in
    record { place = t.0; pair = t.1; there = t.2; key = sym same; value = cc }

module _ (m : HeaderMemory) (es : List Entry) (state : List ℕ → State) (s : EntriesStand m es state) where
  -- two keys of one number that hold something are one
  one_key : (q r a b : List ℕ) → key_number q ≡ key_number r → state q ≡ Some a → state r ≡ Some b → q ≡ r
  one_key q r a b e x y = let k = s.keys q a x in let l = s.keys r b y in key_number_is q r k.1 l.1 k.0 l.0 e

  module _ (ps : List Pair) (is : IsMapOf state ps) (f : Pair → ℕ) (g : Entry → ℕ) where
    -- one pair has the number of a key that holds something
    one_pair : (k b : List ℕ) → state k ≡ Some b → total (λ (p : Pair). one_at (key_number k) (key_number p.key)) ps ≡ 1
    one_pair k b e = total_same (λ (p : Pair). one_at (key_number k) (key_number p.key)) (λ (p : Pair). one_if (same_key k p.key)) ps
        (λ i p there. dite (ℕ_discrete (key_number k) (key_number p.key))
        (λ n. let same = one_key k p.key b p.value n e (is.each i p there) in one_at-same (key_number k) (key_number p.key) n ∙ sym (ap one_if (subst (λ (x : List ℕ). same_key k x ≡ true) same (same_itself k))))
        (λ ne. one_at-other (key_number k) (key_number p.key) ne ∙ sym (none k p.key (λ c. ne (ap key_number c)))))
        ∙ is.once k b e
      where
        none : (a c : List ℕ) → (a ≡ c → ⊥) → one_if (same_key a c) ≡ 0
        none a c ne = dite (ℕ_discrete (one_if (same_key a c)) 0) (λ z. z) (λ more. absurd (ne (same_is a c (is_true (same_key a c) (let le = one_if_le (same_key a c) in omega arith)))))

    r : Pair → Entry → ℕ
    r p e = valued e * at_key (key_number p.key) e

    -- a pair has one entry with a value
    one_entry : (i : ℕ) (p : Pair) → get_elem? ps i ≡ some p → total (r p) es ≡ 1
    unfolding r
    one_entry i p e =
        let here = is.each i p e in
        let k : ℕ = key_number p.key in
        let most = s.once k in
        let same : total (λ (x : Entry). valued x * at_key k x) es ≡ total (at_key k) es = total_same (λ (x : Entry). valued x * at_key k x) (at_key k) es (λ j x there. by_entry j x there) in
        dite (ℕ_discrete (total (at_key k) es) 0) (λ none. let n = s.none p.key none in let c : None ≡ Some p.value = sym n ∙ here in absurd cc) (λ more. omega arith)
      where
        by_entry : (j : ℕ) (x : Entry) → get_elem? es j ≡ some x → valued x * at_key (key_number p.key) x ≡ at_key (key_number p.key) x
        by_entry j x there = dite (ℕ_discrete (at_key (key_number p.key) x) 0)
            (λ none. ap (λ (t : ℕ). valued x * t) none ∙ ((let q : valued x * 0 ≡ 0 = omega arith in q) ∙ sym none))
            (λ at. let t = s.each j x there in
            let same : x.key ≡ key_number p.key = one_at-true x.key (key_number p.key) (omega arith) in
            let held = is.each i p e in
            let k = s.keys p.key p.value held in
            let one : t.key ≡ p.key = key_number_is t.key p.key t.bytes k.1 t.is_key k.0 (sym t.number ∙ same) in
            let le = valued-le x in
            dite (ℕ_discrete (valued x) 0)
            (λ z. let absent = t.floor z in let c : None ≡ Some p.value = sym absent ∙ (ap state one ∙ held) in absurd cc)
            (λ v. let w : valued x ≡ 1 = omega arith in ap (λ (t : ℕ). t * at_key (key_number p.key) x) w ∙ (let q : 1 * at_key (key_number p.key) x ≡ at_key (key_number p.key) x = omega arith in q)))

    pub key_law : Agree m es state f g → total f ps ≡ total (λ (e : Entry). valued e * g e) es
    unfolding r
    key_law agree = matched f (λ (e : Entry). valued e * g e) r ps es one_entry each
      where
        each : (j : ℕ) (e : Entry) → get_elem? es j ≡ some e → total (λ p. r p e * f p) ps ≡ valued e * g e
        each j e there = dite (ℕ_discrete (valued e) 0)
            (λ none. total_unweighed (λ p. r p e) f ps (total_same (λ p. r p e) (λ _. 0) ps (λ i p _. ap (λ (t : ℕ). t * at_key (key_number p.key) e) none ∙ (let q : 0 * at_key (key_number p.key) e ≡ 0 = omega arith in q)) ∙ total_none ps) ∙ sym (ap (λ (t : ℕ). t * g e) none ∙ (let q : 0 * g e ≡ 0 = omega arith in q)))
            (λ v. let le = valued-le e in let one : valued e ≡ 1 = omega arith in
            let t = s.each j e there in
            let b = t.value one in
            let p = pair_of state ps is t.key b.0 b.1 in
            let w = total_same (λ p. r p e) (λ (p : Pair). one_at (key_number t.key) (key_number p.key)) ps (λ i p _. ap (λ (t : ℕ). t * at_key (key_number p.key) e) one ∙ ((let q : 1 * at_key (key_number p.key) e ≡ at_key (key_number p.key) e = omega arith in q) ∙ ap (λ (n : ℕ). one_at n (key_number p.key)) t.number)) in
            let most = one_pair t.key b.0 b.1 in
            let counts : r p.pair e ≡ 1 = ap (λ (t : ℕ). t * at_key (key_number p.pair.key) e) one ∙ ((let q : 1 * at_key (key_number p.pair.key) e ≡ at_key (key_number p.pair.key) e = omega arith in q) ∙ one_at-same e.key (key_number p.pair.key) (t.number ∙ ap key_number (sym p.key))) in
            let o = total_only (λ p. r p e) f ps p.place p.pair p.there counts (omega arith) in
            let a = agree j e p.pair there t one p.key (b.1 ∙ ap (λ (x : List ℕ). Some x) (sym p.value)) in
            o ∙ (a ∙ sym (ap (λ (t : ℕ). t * g e) one ∙ (let q : 1 * g e ≡ g e = omega arith in q))))
