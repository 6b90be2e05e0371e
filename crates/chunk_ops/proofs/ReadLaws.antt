-- Readings one behind the other.
use Rattle.std.proofs.Common.{◌≡◌, ℕ, suc, ◌+◌, ◌*◌, ◌<◌, List, [], ◌∷◌, ◌++◌, length, refl, subst, ap, ◌∙◌, arith, append_assoc, append-nil, length-append, ◌≤◌, sym}
use Rattle.oak_model.proofs.Lists.{each_append}
use Rattle.chunk_ops.specs.Room.{Room, HasFound, key_at}
use Rattle.arena_core.specs.Words.{word_at}
use Rattle.chunk_ops.specs.Comparing.{Loaded}
use Rattle.chunk_ops.specs.Reads.{is_key_load, key_loads, AreWords, LoadsKey, Compares, joined, AreReadings, Reads, Met, met_key, met_block}

pub loads_append : (a b : List Met) → key_loads (a ++ b) ≡ key_loads a + key_loads b
unfolding key_loads
loads_append [] b = omega arith
loads_append (m ∷ ms) b = let h = loads_append ms b in omega arith

pub no_loads : (w j : ℕ) (ms : List Met) → AreWords w j ms → key_loads ms ≡ 0
unfolding key_loads
no_loads w j [] a = refl
no_loads w j (m ∷ ms) a = let h = no_loads w (suc j) ms a.1 in let e : is_key_load m ≡ 0 = ap is_key_load a.0.1 in omega arith

pub words_more : (w j n : ℕ) (ms : List Met) → AreWords w j ms → AreWords w j (ms ++ met_block w (j + length ms) n ∷ [])
words_more w j n [] a = ((n, ap (λ (i : ℕ). met_block w i n) (let e : j + 0 ≡ j = omega arith in e)), tt)
words_more w j n (m ∷ ms) a = (a.0, subst (λ (k : ℕ). AreWords w (suc j) (ms ++ met_block w k n ∷ [])) (let e : suc j + length ms ≡ j + suc (length ms) = omega arith in e) (words_more w (suc j) n ms a.1))

joined_append : (a b : List (List Met)) → joined (a ++ b) ≡ joined a ++ joined b
joined_append [] b = refl
joined_append (m ∷ a) b = ap (λ (xs : List Met). m ++ xs) (joined_append a b) ∙ sym (append_assoc m (joined a) (joined b))

readings_both : (P : List Met → Type 0) (xs ys : List Met) → AreReadings P xs → AreReadings P ys → AreReadings P (xs ++ ys)
readings_both P xs ys p q = (p.0 ++ q.0, (λ i. p.1 i ++ q.1 i) ∙ sym (joined_append p.0 q.0), each_append P p.0 q.0 p.2 q.2)

module _ {S : Type 0} {pinned : S → Type 0} {room : S → Room} {meets : S → S → List Met → Type 0} {P : Room → List Met → Type 0} where
  pub reads_here : (s : S) → pinned s → meets s s [] → Reads pinned room meets P 0 s s
  unfolding key_loads
  reads_here s p o = record { pin = p; same = refl; more = []; on = o; each = ([], refl, tt); few = omega arith }

  pub reads_few : (m n : ℕ) (s t : S) → Reads pinned room meets P m s t → m ≤ n → Reads pinned room meets P n s t
  reads_few m n s t r le = let f = r.few in record { pin = r.pin; same = r.same; more = r.more; on = r.on; each = r.each; few = omega arith }

  pub reads_both : ((s t u : S) (a b : List Met) → meets s t a → meets t u b → meets s u (a ++ b)) → (m n : ℕ) (s t u : S) → Reads pinned room meets P m s t → Reads pinned room meets P n t u → Reads pinned room meets P (m + n) s u
  reads_both on m n s t u p q = let l = loads_append p.more q.more in let f = p.few in let f' = q.few in record {
    pin = q.pin;
    same = q.same ∙ p.same;
    more = p.more ++ q.more;
    on = on s t u p.more q.more p.on q.on;
    each = readings_both (P (room u)) p.more q.more (subst (λ (r : Room). AreReadings (P r) p.more) (sym q.same) p.each) q.each;
    few = omega arith;
  }

pub loaded_more : {S : Type 0} {meets : S → S → List Met → Type 0} → ((s t u : S) (a b : List Met) → meets s t a → meets t u b → meets s u (a ++ b)) → (e w i : ℕ) (s t u : S) → Loaded meets e w i s t → (n : ℕ) × meets t u (met_block w i n ∷ []) → Loaded meets e w (i + 1) s u
loaded_more on e w i s t u l m = let ws : List Met = l.0 in let b : List Met = met_block w i m.0 ∷ [] in let at : 0 + length ws ≡ i = let h = l.3 in omega arith in (
  ws ++ b,
  on s t u (met_key e w ∷ ws) b l.1 m.1,
  subst (λ (k : ℕ). AreWords w 0 (ws ++ met_block w k m.0 ∷ [])) at (words_more w 0 m.0 ws l.2),
  (let a = length-append ws b in let h = l.3 in omega arith),
)

pub loaded_key : {S : Type 0} (meets : S → S → List Met → Type 0) (e w i t : ℕ) (a b : List ℕ) (u v : S) → Loaded meets e w i u v → 8 * i < length a + 8 → 8 * i < length b + 8 → ((j : ℕ) → j < t → word_at a j ≡ word_at b j) → i ≤ t + 1 → LoadsKey meets e a b u v
loaded_key meets e w i t a b u v l f g h s = let z = l.3 in (
  met_key e w ∷ l.0,
  l.1,
  record { word = w; words = l.0; is = refl; each = l.2; first = omega arith; second = omega arith; tied = t; agree = h; stops = omega arith },
)

module _ {S : Type 0} {pinned : S → Type 0} {room : S → Room} {meets : S → S → List Met → Type 0} where
  -- the key of one entry was compared with k
  pub key_reads : (k : List ℕ) (e : ℕ) (s t : S) → HasFound (room s) e → LoadsKey meets e k (key_at (room s) e) s t → pinned t → room t ≡ room s → Reads pinned room meets (Compares k) 1 s t
  unfolding key_loads
  key_reads k e s t lt l p r = let x = l.2 in let n = no_loads x.word 0 x.words x.each in let g : key_loads l.0 ≡ 1 + key_loads x.words = ap key_loads x.is in record {
    pin = p;
    same = r;
    more = l.0;
    on = l.1;
    each = (l.0 ∷ [], sym (append-nil l.0), (subst (λ (q : Room). Compares k q l.0) (sym r) (e, lt, x), tt));
    few = omega arith;
  }
