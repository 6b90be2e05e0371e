-- A life is one key's: two histories with writes of one life are of one key. So the key that a pass knows of a header at its generation is the key whose entry names it.
use Rattle.std.proofs.Common.{◌≡◌, ◌≢◌, ℕ, ◌+◌, ◌*◌, ◌/◌, ◌^◌, ◌<◌, ◌≤◌, cond, Bool, false, List, [], ◌∷◌, map, sym, refl, ap, ◌∙◌, subst, arith, None}
use mathlib.Core.Logic.{dite}
use mathlib.Core.Option.{some}
use native.Mathlib.Decide.{ℕ_discrete, dec_lt}
use lib.ListN.{get_elem?}
use Rattle.pin_word.specs.PinWord.{generation_of}
use Rattle.oak_model.specs.Counts.{one_at, one_if, total, Each}
use Rattle.oak_model.specs.Limits.{Sizes}
use Rattle.oak_model.specs.State.{State}
use Rattle.oak_model.proofs.Counting.{one_at-same, one_at-other, one_at-le, one_at-true, test-cases, total_at, total_some}
use Rattle.oak_model.proofs.Lists.{at_unmap}
use Rattle.oak_model.proofs.SumLaws.{total_empty}
use Rattle.arena_core.specs.Place.{content}
use Rattle.chunk_core.specs.CoverRule.{CoversPartition}
use Rattle.chunk_core.specs.CoverSums.{each, naming, names, all_of, word_of}
use Rattle.chunk_core.specs.Covers.{Entry}
use Rattle.chunk_core.specs.Spans.{Span}
use Rattle.chunk_core.specs.ValueWord.{names_header, header_in, generation_in}
use Rattle.chunk_core.proofs.CoverFacts.{word_is}
use Rattle.chunk_core.proofs.Lookups.{entry_some}
use Rattle.chunk_core.proofs.ValueWords.{none_named}
use Rattle.oak_core.specs.declared.states.Joined.{Joined}
use Rattle.oak_core.specs.declared.states.KeyedWrite.{KeyedWrite}
use Rattle.oak_core.specs.declared.states.Numbers.{Numbers}
use Rattle.oak_core.specs.declared.states.PassState.{PassState}
use Rattle.oak_core.specs.Callers.{of_caller, AreWritesOf, made_of, begins, CallersAgree}
use Rattle.oak_core.specs.KeyHistories.{last_of, home_behind, LivesFollow, IsKeyHistory, homes_in}
use Rattle.oak_core.specs.KeyReads.{home_of}
use Rattle.oak_core.specs.KeyRule.{KeysStand}
use Rattle.oak_core.specs.Memory.{Memory}
use Rattle.oak_core.specs.PassState.{history, of_key, rooted, knowledge_of, numbers_of, rooms_held}
use Rattle.oak_core.proofs.histories.CallerWrites.{caller-cases}
use Rattle.oak_core.proofs.memory.HomeWords.{home_is}
use Rattle.oak_core.proofs.lessons.Teaching.{of_key-cases}

-- a life that is in a history began there
pub lives_begin : (v : ℕ) (s : State) (home : ℕ) (h : List KeyedWrite) → LivesFollow s home h → v ≢ home → 0 < homes_in v h → 0 < total (begins v) h
unfolding total
lives_begin v s home [] l ne p = absurd (omega arith)
lives_begin v s home (w ∷ ws) l ne p = dite (ℕ_discrete w.home v)
    (λ e. began w.inserts (λ q. ne (sym e ∙ l.2 q)) (one_at-same w.home v e))
    (λ no. let o = one_at-other w.home v no in let t = lives_begin v w.write.after w.home ws l.3 (λ q. no (sym q)) (omega arith) in omega arith)
  where
    began : (b : Bool) → ((w.inserts ≡ false) → ⊥) → one_at w.home v ≡ 1 → 0 < one_if w.inserts * one_at w.home v + total (begins v) ws
    began b n o = test-cases w.inserts (λ t. (w.inserts ≡ t → 0 < one_if t * one_at w.home v + total (begins v) ws)) (λ _ _. omega arith) (λ _ q. absurd (n q)) refl

-- parts of a list of writes

caller_part : (f : KeyedWrite → ℕ) (h : List KeyedWrite) → 0 < total f h → (i : ℕ) × (0 < total f (of_caller i h))
unfolding total of_caller
caller_part f [] p = absurd (omega arith)
caller_part f (w ∷ ws) p = dite (dec_lt 0 (f w)) (λ l. (w.write.caller, caller-cases w.write.caller w ws (λ t. 0 < total f t) (λ _. omega arith) (λ ne. absurd (ne refl))))
    (λ no. let r = caller_part f ws (omega arith) in (r.0, caller-cases r.0 w ws (λ t. 0 < total f t) (λ _. let q = r.1 in omega arith) (λ _. r.1)))

two_keys : (f : KeyedWrite → ℕ) (k j : ℕ) (l : List KeyedWrite) → k ≢ j → total f (of_key k l) + total f (of_key j l) ≤ total f l
unfolding total of_key
two_keys f k j [] ne = omega arith
two_keys f k j (w ∷ ws) ne = let t = two_keys f k j ws ne in of_key-cases k w ws (λ x. total f x + total f (of_key j (w ∷ ws)) ≤ f w + total f ws)
    (λ e. of_key-cases j w ws (λ x. f w + total f (of_key k ws) + total f x ≤ f w + total f ws) (λ d. absurd (ne (sym e ∙ d))) (λ _. omega arith))
    (λ _. of_key-cases j w ws (λ x. total f (of_key k ws) + total f x ≤ f w + total f ws) (λ _. omega arith) (λ _. omega arith))

total_sum : {A : Type 0} (f g h : A → ℕ) (xs : List A) → ((x : A) → f x + g x ≤ h x) → total f xs + total g xs ≤ total h xs
unfolding total
total_sum f g h [] l = omega arith
total_sum f g h (x ∷ xs) l = let a = l x in let t = total_sum f g h xs l in omega arith

-- what a pass made of a key
made_in : (KeyedWrite → ℕ) → ℕ → PassState → ℕ
made_in f k v = total f (of_key k v.knowledge.mine) + total (λ (j : Joined). total f (of_key k j.mine)) v.numbers.joined

made_two : (f : KeyedWrite → ℕ) (k j : ℕ) → k ≢ j → (v : PassState) → made_in f k v + made_in f j v ≤ made_of f v
unfolding made_in
made_two f k j ne v = let a = two_keys f k j v.knowledge.mine ne in let b = total_sum (λ (y : Joined). total f (of_key k y.mine)) (λ (y : Joined). total f (of_key j y.mine)) (λ (y : Joined). total f y.mine) v.numbers.joined (λ y. two_keys f k j y.mine ne) in omega arith

joined_part : (hist : ℕ → List KeyedWrite) (f : KeyedWrite → ℕ) (i k : ℕ) (js : List Joined) → Each (λ (j : Joined). AreWritesOf hist j.number j.mine) js → 0 < total (λ (j : Joined). one_at j.number i) js → total f (of_caller i (hist k)) ≤ total (λ (j : Joined). total f (of_key k j.mine)) js
unfolding total
joined_part hist f i k [] h p = absurd (omega arith)
joined_part hist f i k (j ∷ js) h p = dite (ℕ_discrete j.number i) (λ e. let s = ap (total f) (h.0.same k) in let q = ap (λ (t : ℕ). total f (of_caller t (hist k))) e in omega arith)
    (λ ne. let o = one_at-other j.number i ne in let t = joined_part hist f i k js h.1 (omega arith) in omega arith)

module _ (vs : List PassState) (callers : CallersAgree vs) (legal : (k : ℕ) → IsKeyHistory k (history k (map knowledge_of vs))) where
  abbrev hist : ℕ → List KeyedWrite
  hist k = history k (map knowledge_of vs)

  -- a write of a history is among those that some pass made
  made_some : (f : KeyedWrite → ℕ) (k : ℕ) → 0 < total f (hist k) → 0 < total (made_in f k) vs
  unfolding made_in
  made_some f k p = let c = caller_part f (hist k) p in dite (dec_lt 0 (total (rooted c.0) (map numbers_of vs))) (λ l. holder c.0 c.1 (total_some (rooted c.0) (map numbers_of vs) l))
      (λ no. absurd (none c.0 (callers.others c.0 k (omega arith)) c.1))
    where
      none : (i : ℕ) → of_caller i (hist k) ≡ [] → 0 < total f (of_caller i (hist k)) → ⊥
      none i e l = nothing (subst (λ (t : List KeyedWrite). 0 < total f t) e l)
        where
          nothing : 0 < total f [] → ⊥
          nothing l = total_empty f l

      holder : (i : ℕ) → 0 < total f (of_caller i (hist k)) → (j : ℕ) × (n : Numbers) × (get_elem? (map numbers_of vs) j ≡ some n) × (0 < rooted i n) → 0 < total (made_in f k) vs
      holder i l t = let v = at_unmap numbers_of vs t.0 t.1 t.2 in let s = callers.writes t.0 v.0 v.1 in let a = total_at (made_in f k) vs t.0 v.0 v.1 in let r : 0 < rooted i v.0.numbers = subst (λ (n : Numbers). 0 < rooted i n) (sym v.2) t.3 in
          dite (dec_lt 0 (total (λ (y : Joined). one_at y.number i) v.0.numbers.joined))
          (λ y. let q = joined_part hist f i k v.0.numbers.joined s.joined y in let w : total (λ (j : Joined). total f (of_key k j.mine)) v.0.numbers.joined ≤ made_in f k v.0 = omega arith in omega arith)
          (λ no. let own = going v.0 i (omega arith) in let q = ap (total f) ((s.own own.0).same k) in let e = ap (λ (x : ℕ). total f (of_caller x (hist k))) own.1 in let w : total f (of_key k v.0.knowledge.mine) ≤ made_in f k v.0 = omega arith in omega arith)
        where
          going : (v : PassState) (i : ℕ) → 0 < cond v.numbers.spent 0 (one_at v.numbers.number i) → (v.numbers.spent ≡ false) × (v.numbers.number ≡ i)
          going v i p = test-cases v.numbers.spent (λ t. (v.numbers.spent ≡ t) → 0 < cond t 0 (one_at v.numbers.number i) → (v.numbers.spent ≡ false) × (v.numbers.number ≡ i)) (λ _ _ q. absurd (omega arith)) (λ _ e q. (e, one_at-true v.numbers.number i q)) refl p

  pub home_key : (v k j : ℕ) → names_header v ≡ 1 → 0 < homes_in v (hist k) → 0 < homes_in v (hist j) → k ≡ j
  home_key v k j names a b = dite (ℕ_discrete k j) (λ e. e) (λ ne. let x = made_some (begins v) k (lives_begin v None 0 (hist k) (legal k).lives some_home a) in let y = made_some (begins v) j (lives_begin v None 0 (hist j) (legal j).lives some_home b) in
      let s = total_sum (made_in (begins v) k) (made_in (begins v) j) (made_of (begins v)) vs (made_two (begins v) k j ne) in let d = callers.distinct v names in absurd (omega arith))
    where
      some_home : v ≢ 0
      some_home e = none_named v names e

names_le : (v : ℕ) → names_header v ≤ 1
unfolding names_header
names_le v = one_at-le (v / 2 ^ 63) 1

pub last_home : (v d : ℕ) (h : List KeyedWrite) → v ≢ d → last_of (λ w. w.home) d h ≡ v → 0 < homes_in v h
unfolding total last_of
last_home v d [] ne e = absurd (ne (sym e))
last_home v d (w ∷ ws) ne e = dite (ℕ_discrete v w.home) (λ s. let o = one_at-same w.home v (sym s) in omega arith) (λ n. let t = last_home v w.home ws n e in omega arith)

-- the key whose entry names the header at its generation
pub record IsNamedBy (z : Sizes) (m : Memory) (vs : List PassState) (h k : ℕ) : Type 0 where
  pub word : word_of z m.rooms (content m.arena.bytes) (map rooms_held vs) k ≡ home_of h (generation_of (m.headers.pin h)) + 1
  pub home : home_behind (history k (map knowledge_of vs)) ≡ home_of h (generation_of (m.headers.pin h))

module _ (z : Sizes) (m : Memory) (is_key_word : ℕ → ℕ) (vs : List PassState) (parts : CoversPartition z m.rooms (content m.arena.bytes) is_key_word (map rooms_held vs)) (keys : KeysStand z m vs) (callers : CallersAgree vs) (h : ℕ) (named : 0 < all_of z m.rooms (content m.arena.bytes) (map rooms_held vs) (each (naming h))) where
  pub named_by : (k : ℕ) × IsNamedBy z m vs h k
  named_by = let t = entry_some z m.rooms (content m.arena.bytes) (map rooms_held vs) (naming h) named in go t.0 t.1 t.2 t.3
    where
      go : (s : Span) (x : Entry) → 0 < naming h s x → ((g : Span → Entry → ℕ) → g s x ≤ all_of z m.rooms (content m.arena.bytes) (map rooms_held vs) (each g)) → (k : ℕ) × IsNamedBy z m vs h k
      go s x p adds = let w = word_is z m.rooms (content m.arena.bytes) (map rooms_held vs) parts.once s x x.key adds refl in
          let n : names_header x.value ≡ 1 = parted (names_header x.value) (one_at (header_in x.value) h) (names_le x.value) p in let d : header_in x.value ≡ h = one_at-true (header_in x.value) h (second (names_header x.value) (one_at (header_in x.value) h) p) in
          let i = (keys.states x.key).named x.value w n in
          let g : generation_of (m.headers.pin h) ≡ generation_in x.value = ap (λ (t : ℕ). generation_of (m.headers.pin t)) (sym d) ∙ i.generation in
          let same : home_of h (generation_of (m.headers.pin h)) ≡ x.value = (λ j. home_of (sym d j) (g j)) ∙ home_is x.value n in
          (x.key, record { word = w ∙ ap (λ (t : ℕ). t + 1) (sym same); home = i.home ∙ sym same })
        where
          parted : (a b : ℕ) → a ≤ 1 → 0 < a * b → a ≡ 1
          parted a b l q = dite (ℕ_discrete a 0) (λ e. absurd (let y = ap (λ (t : ℕ). t * b) e in let y2 : 0 * b ≡ 0 = omega arith in omega arith)) (λ ne. omega arith)

          second : (a b : ℕ) → 0 < a * b → 0 < b
          second a b q = dite (ℕ_discrete b 0) (λ e. absurd (let y = ap (λ (t : ℕ). a * t) e in let y2 : a * 0 ≡ 0 = omega arith in omega arith)) (λ ne. omega arith)

  -- A key whose history has the life is that key. So a lock's key is, which its pass knows by a write that it has seen or an entry that it loaded.
  pub known_key : names_header (home_of h (generation_of (m.headers.pin h))) ≡ 1 → (j : ℕ) → 0 < homes_in (home_of h (generation_of (m.headers.pin h))) (history j (map knowledge_of vs)) → word_of z m.rooms (content m.arena.bytes) (map rooms_held vs) j ≡ home_of h (generation_of (m.headers.pin h)) + 1
  known_key n j p = let k = named_by in let v : ℕ = home_of h (generation_of (m.headers.pin h)) in
      let same = home_key vs callers keys.legal v j k.0 n p (last_home v 0 (history k.0 (map knowledge_of vs)) (λ e. none_named v n e) k.1.home) in ap (λ (t : ℕ). word_of z m.rooms (content m.arena.bytes) (map rooms_held vs) t) same ∙ k.1.word
