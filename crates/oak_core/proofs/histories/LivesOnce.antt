-- A life begins once in a key's history, since each of its writes is one that some pass made.
use Rattle.std.proofs.Common.{◌≡◌, ℕ, zero, suc, ◌+◌, ◌*◌, ◌<◌, ◌≤◌, cond, Bool, true, false, List, [], ◌∷◌, map, sym, refl, ap, ◌∙◌, subst, inl, inr, arith}
use mathlib.Core.Logic.{dite}
use native.Mathlib.Decide.{dec_lt}
use Rattle.oak_model.specs.Counts.{one_at, total, Each, Every, Has}
use Rattle.oak_model.proofs.Counting.{one_at-same, one_at-other, test-cases}
use Rattle.chunk_core.specs.ValueWord.{names_header}
use Rattle.oak_core.specs.declared.states.Joined.{Joined}
use Rattle.oak_core.specs.declared.states.KeyedWrite.{KeyedWrite}
use Rattle.oak_core.specs.declared.states.Numbers.{Numbers}
use Rattle.oak_core.specs.declared.states.PassState.{PassState}
use Rattle.oak_core.specs.Callers.{of_caller, AreWritesOf, WritesStand, made_of, begins, CallersAgree}
use Rattle.oak_core.specs.PassState.{of_key, history, rooted, knowledge_of, numbers_of}
use Rattle.oak_core.proofs.histories.CallerWrites.{caller-cases}
use Rattle.oak_core.proofs.lessons.Teaching.{of_key-cases}

-- a part of some writes is no more than all
pub key_part : (f : KeyedWrite → ℕ) (k : ℕ) (l : List KeyedWrite) → total f (of_key k l) ≤ total f l
unfolding total of_key
key_part f k [] = omega arith
key_part f k (w ∷ ws) = let t = key_part f k ws in of_key-cases k w ws (λ x. total f x ≤ f w + total f ws) (λ _. omega arith) (λ _. omega arith)

-- of the writes, those with the numbers of a pass
part : (KeyedWrite → ℕ) → List KeyedWrite → Numbers → ℕ
part f h n = cond n.spent 0 (total f (of_caller n.number h)) + total (λ (j : Joined). total f (of_caller j.number h)) n.joined

one_caller : (f : KeyedWrite → ℕ) (w : KeyedWrite) (ws : List KeyedWrite) (i : ℕ) → total f (of_caller i (w ∷ ws)) ≡ one_at i w.write.caller * f w + total f (of_caller i ws)
unfolding total of_caller
one_caller f w ws i = caller-cases i w ws (λ l. total f l ≡ one_at i w.write.caller * f w + total f (of_caller i ws))
    (λ e. let o = one_at-same i w.write.caller (sym e) in let u : one_at i w.write.caller * f w ≡ f w = ap (λ (t : ℕ). t * f w) o ∙ (let q : 1 * f w ≡ f w = omega arith in q) in omega arith)
    (λ ne. let o = one_at-other i w.write.caller (λ q. ne (sym q)) in let u : one_at i w.write.caller * f w ≡ 0 = ap (λ (t : ℕ). t * f w) o ∙ (let q : 0 * f w ≡ 0 = omega arith in q) in omega arith)

joined_more : (f : KeyedWrite → ℕ) (w : KeyedWrite) (ws : List KeyedWrite) (js : List Joined) → total (λ (j : Joined). total f (of_caller j.number (w ∷ ws))) js ≡ total (λ (j : Joined). one_at j.number w.write.caller) js * f w + total (λ (j : Joined). total f (of_caller j.number ws)) js
unfolding total
joined_more f w ws [] = omega arith
joined_more f w ws (j ∷ js) = let t = joined_more f w ws js in let o = one_caller f w ws j.number in let d = times (one_at j.number w.write.caller) (total (λ (j : Joined). one_at j.number w.write.caller) js) (f w) in omega arith
  where
    times : (a b c : ℕ) → (a + b) * c ≡ a * c + b * c
    times a b c = grind arith

part_more : (f : KeyedWrite → ℕ) (w : KeyedWrite) (ws : List KeyedWrite) (n : Numbers) → part f (w ∷ ws) n ≡ rooted w.write.caller n * f w + part f ws n
unfolding part
part_more f w ws n = let j = joined_more f w ws n.joined in let o = one_caller f w ws n.number in let d = times (cond n.spent 0 (one_at n.number w.write.caller)) (total (λ (j : Joined). one_at j.number w.write.caller) n.joined) (f w) in let c = by n.spent in omega arith
  where
    times : (a b c : ℕ) → (a + b) * c ≡ a * c + b * c
    times a b c = grind arith

    by : (s : Bool) → cond s 0 (total f (of_caller n.number (w ∷ ws))) ≡ cond s 0 (one_at n.number w.write.caller) * f w + cond s 0 (total f (of_caller n.number ws))
    by true = omega arith
    by false = one_caller f w ws n.number

parts_more : (f : KeyedWrite → ℕ) (w : KeyedWrite) (ws : List KeyedWrite) (ns : List Numbers) → total (part f (w ∷ ws)) ns ≡ total (rooted w.write.caller) ns * f w + total (part f ws) ns
unfolding total
parts_more f w ws [] = omega arith
parts_more f w ws (n ∷ ns) = let t = parts_more f w ws ns in let o = part_more f w ws n in let d = times (rooted w.write.caller n) (total (rooted w.write.caller) ns) (f w) in omega arith
  where
    times : (a b c : ℕ) → (a + b) * c ≡ a * c + b * c
    times a b c = grind arith

-- where each write is of a number that some pass has, all of them are the passes' parts together
all_parts : (f : KeyedWrite → ℕ) (ns : List Numbers) (h : List KeyedWrite) → Each (λ (w : KeyedWrite). 0 < total (rooted w.write.caller) ns) h → total f h ≤ total (part f h) ns
unfolding total
all_parts f ns [] e = omega arith
all_parts f ns (w ∷ ws) e = let t = all_parts f ns ws e.1 in let p = parts_more f w ws ns in let d = once (total (rooted w.write.caller) ns) (f w) e.0 in omega arith
  where
    once : (a b : ℕ) → 0 < a → b ≤ a * b
    once zero b l = absurd (omega arith)
    once (suc a) b l = let q : suc a * b ≡ b + a * b = suc_mul a b in omega arith
      where
        suc_mul : (a b : ℕ) → suc a * b ≡ b + a * b
        suc_mul a b = grind arith

module _ (vs : List PassState) (callers : CallersAgree vs) where
  abbrev hist : ℕ → List KeyedWrite
  hist k = history k (map knowledge_of vs)

  joined_le : (f : KeyedWrite → ℕ) (k : ℕ) (js : List Joined) → Each (λ (j : Joined). AreWritesOf hist j.number j.mine) js → total (λ (j : Joined). total f (of_caller j.number (hist k))) js ≤ total (λ (j : Joined). total f j.mine) js
  unfolding total
  joined_le f k [] e = omega arith
  joined_le f k (j ∷ js) e = let t = joined_le f k js e.1 in let s = ap (total f) (e.0.same k) in let p = key_part f k j.mine in omega arith

  part_le : (f : KeyedWrite → ℕ) (k : ℕ) (v : PassState) → WritesStand hist v → part f (hist k) v.numbers ≤ made_of f v
  unfolding part
  part_le f k v s = let j = joined_le f k v.numbers.joined s.joined in let o = test-cases v.numbers.spent (λ t. (v.numbers.spent ≡ t) → cond t 0 (total f (of_caller v.numbers.number (hist k))) ≤ total f v.knowledge.mine) (λ _ _. omega arith)
      (λ _ e. let q = ap (total f) ((s.own e).same k) in let p = key_part f k v.knowledge.mine in omega arith) refl in omega arith

  parts_le : (f : KeyedWrite → ℕ) (k : ℕ) (xs : List PassState) → Each (WritesStand hist) xs → total (part f (hist k)) (map numbers_of xs) ≤ total (made_of f) xs
  unfolding total
  parts_le f k [] e = omega arith
  parts_le f k (x ∷ xs) e = let t = parts_le f k xs e.1 in let p = part_le f k x e.0 in omega arith

  each_of : (P : PassState → Type 0) (xs : List PassState) → Every P xs → Each P xs
  each_of P [] h = tt
  each_of P (x ∷ xs) h = (h zero x refl, each_of P xs (λ j y e. h (suc j) y e))

  -- each write is of a number that some pass has
  rooted_all : (k : ℕ) (h : List KeyedWrite) → ((w : KeyedWrite) → Has w h → Has w (hist k)) → Each (λ (w : KeyedWrite). 0 < total (rooted w.write.caller) (map numbers_of vs)) h
  unfolding of_caller
  rooted_all k [] m = tt
  rooted_all k (w ∷ ws) m = (dite (dec_lt 0 (total (rooted w.write.caller) (map numbers_of vs))) (λ l. l) (λ no. absurd (in_part w (hist k) (m w (inl refl)) (callers.others w.write.caller k (omega arith)))), rooted_all k ws (λ y h. m y (inr h)))
    where
      in_part : (w : KeyedWrite) (h : List KeyedWrite) → Has w h → of_caller w.write.caller h ≡ [] → ⊥
      in_part w h x e = none (subst (Has w) e (kept w h x))
        where
          none : Has w [] → ⊥
          none q = q

          kept : (w : KeyedWrite) (h : List KeyedWrite) → Has w h → Has w (of_caller w.write.caller h)
          kept w [] q = q
          kept w (y ∷ ys) (inl q) = caller-cases w.write.caller y ys (Has w) (λ _. inl q) (λ ne. absurd (ne (ap (λ (t : KeyedWrite). t.write.caller) (sym q))))
          kept w (y ∷ ys) (inr q) = caller-cases w.write.caller y ys (Has w) (λ _. inr (kept w ys q)) (λ _. kept w ys q)

  pub begins_once : (v k : ℕ) → names_header v ≡ 1 → total (begins v) (hist k) ≤ 1
  begins_once v k names = let a = all_parts (begins v) (map numbers_of vs) (hist k) (rooted_all k (hist k) (λ w h. h)) in let b = parts_le (begins v) k vs (each_of (WritesStand hist) vs callers.writes) in let d = callers.distinct v names in omega arith
