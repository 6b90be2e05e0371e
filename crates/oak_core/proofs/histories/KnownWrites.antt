-- What passes know of headers after a write: the life that the write is of, and what they knew. A fresh header that an entry comes to name is known.
use Rattle.std.proofs.Common.{◌≡◌, ◌≢◌, ℕ, ◌+◌, ◌*◌, ◌<◌, ◌≤◌, List, [], ◌∷◌, ◌++◌, map, length, set, sym, refl, ap, ◌∙◌, subst, ⊎_elim, arith, nat_lt}
use mathlib.Core.Logic.{dite}
use mathlib.Core.Option.{some, some-injective}
use native.Mathlib.Decide.{ℕ_discrete, dec_lt}
use lib.ListN.{get_elem?}
use Rattle.pin_word.specs.PinWord.{state_of, generation_of}
use Rattle.oak_model.specs.Counts.{one_at, total, Has}
use Rattle.oak_model.proofs.Changes.{stepped}
use Rattle.oak_model.proofs.Counting.{one_at-same, one_at-other, one_if_le, total_snoc, total_at}
use Rattle.oak_model.proofs.Lists.{at_set, at_unmap, set_there, set_else}
use Rattle.oak_model.proofs.MemberLaws.{each_has}
use Rattle.arena_core.specs.Place.{IsPlace}
use Rattle.header_core.specs.HeaderHolds.{in_state, held_state, without_header}
use Rattle.header_core.specs.HeaderRule.{stocked, HeadersStand}
use Rattle.header_core.specs.Headers.{HeaderMemory}
use Rattle.header_core.specs.declared.holds.HeaderHolds.{HeaderHolds}
use Rattle.header_core.specs.declared.holds.HeldAs.TheVariants.{Fresh}
use Rattle.header_core.specs.declared.holds.HeldHeader.{HeldHeader}
use Rattle.header_core.specs.declared.states.TheConstants.{LIVE}
use Rattle.header_core.proofs.HeaderFacts.{fresh_is, held_once}
use Rattle.header_core.proofs.HeaderLaws.{one_stands, headers_change}
use Rattle.header_core.proofs.HeldChanges.{rows_without-here, rows_without-others, each_without}
use Rattle.header_core.proofs.HeldHeaders.{rows_have}
use Rattle.header_core.proofs.StockedStates.{stocked_le}
use Rattle.chunk_core.specs.ValueWord.{header_in, generation_in, names_life}
use Rattle.oak_core.specs.declared.states.KeyedWrite.{KeyedWrite}
use Rattle.oak_core.specs.declared.states.Knowledge.{Knowledge}
use Rattle.oak_core.specs.KeyReads.{home_of}
use Rattle.oak_core.specs.Known.{lives_in, knows_life, known}
use Rattle.oak_core.specs.Learning.{wrote}
use Rattle.oak_core.specs.PassState.{of_key, seen_of, history}
use Rattle.oak_core.proofs.memory.HomeWords.{NamesAt}
use Rattle.oak_core.proofs.known.KnownLaws.{known_some, known_by}
use Rattle.oak_core.proofs.histories.LivesOnce.{key_part}
use Rattle.oak_core.proofs.lessons.Teaching.{longest_one}

some_long : (h g : ℕ) (l : List KeyedWrite) → 0 < lives_in h g l → 0 < length l
unfolding total
some_long h g [] p = absurd (omega arith)
some_long h g (x ∷ xs) p = omega arith

-- what stands in a history is known
pub history_known : (h g k : ℕ) (qs : List Knowledge) → 0 < lives_in h g (history k qs) → known qs h g ≡ 1
history_known h g k qs p = let one = longest_one (map (seen_of k) qs) (some_long h g (history k qs) p) in let q = at_unmap (seen_of k) qs one.0 (history k qs) one.1 in
    let p1 : 0 < lives_in h g (seen_of k q.0) = subst (λ (l : List KeyedWrite). 0 < lives_in h g l) (sym q.2) p in
    let two = longest_one (map (of_key k) q.0.seen) (some_long h g (seen_of k q.0) p1) in let l = at_unmap (of_key k) q.0.seen two.0 (seen_of k q.0) two.1 in
    let p2 : 0 < lives_in h g (of_key k l.0) = subst (λ (l : List KeyedWrite). 0 < lives_in h g l) (sym l.2) p1 in
    let a = key_part (λ (w : KeyedWrite). names_life h g w.home) k l.0 in let b = total_at (lives_in h g) q.0.seen two.0 l.0 l.1 in
    known_some h g qs one.0 q.0 q.1 (omega arith)

module _ (qs : List Knowledge) (i : ℕ) (q : Knowledge) (here : get_elem? qs i ≡ some q) (k : ℕ) (w : KeyedWrite) where
  abbrev pub later : List Knowledge
  later = set qs i (wrote k w qs q)

  pub knows_now : (h g : ℕ) → knows_life h g (wrote k w qs q) ≡ knows_life h g q + (lives_in h g (history k qs) + names_life h g w.home)
  knows_now h g = let a = total_snoc (lives_in h g) q.seen (history k qs ++ w ∷ []) in let b = total_snoc (λ (x : KeyedWrite). names_life h g x.home) (history k qs) w in omega arith

  -- the pass itself knows no less
  pub knows_wrote : (h g : ℕ) → knows_life h g q ≤ knows_life h g (wrote k w qs q)
  knows_wrote h g = let n = knows_now h g in omega arith

  pub known_before : (h g : ℕ) → 0 < known qs h g → known later h g ≡ 1
  known_before h g p = let t = known_by h g qs p in dite (ℕ_discrete t.0 i)
      (λ e. let same : t.1 ≡ q = some-injective t.1 q (sym t.2 ∙ (ap (get_elem? qs) e ∙ here)) in let n = knows_now h g in let s = ap (knows_life h g) same in let pos = t.3 in
      known_some h g later i (wrote k w qs q) (set_there qs i q (wrote k w qs q) here) (omega arith))
      (λ ne. known_some h g later t.0 t.1 (set_else qs i t.0 (wrote k w qs q) ne ∙ t.2) t.3)

  pub known_new : (h g : ℕ) → 0 < names_life h g w.home → known later h g ≡ 1
  known_new h g p = let n = knows_now h g in known_some h g later i (wrote k w qs q) (set_there qs i q (wrote k w qs q) here) (omega arith)

  pub known_after : (h g : ℕ) → names_life h g w.home ≡ 0 → known later h g ≡ known qs h g
  known_after h g none = dite (dec_lt 0 (known qs h g)) (λ l. let a = known_before h g l in let b = one_if_le (nat_lt 0 (total (knows_life h g) qs)) in omega arith)
      (λ no. dite (dec_lt 0 (known later h g)) (λ l. absurd (no (was (known_by h g later l)))) (λ no'. omega arith))
    where
      was : (j : ℕ) × (x : Knowledge) × (get_elem? later j ≡ some x) × (0 < knows_life h g x) → 0 < known qs h g
      was t = ⊎_elim (λ (y : (t.0 ≡ i) × (wrote k w qs q ≡ t.1)). let s = ap (knows_life h g) y.1 in let n = knows_now h g in let pos = t.3 in
          dite (dec_lt 0 (knows_life h g q)) (λ l. let a = known_some h g qs i q here l in omega arith) (λ no. let b = history_known h g k qs (omega arith) in omega arith))
          (λ (y : (t.0 ≢ i) × (get_elem? qs t.0 ≡ some t.1)). let a = known_some h g qs t.0 t.1 y.1 t.3 in omega arith) (at_set qs i t.0 (wrote k w qs q) t.1 t.2)

-- the header that is set is known from then on, and its pass has it fresh no more
module _ (m : HeaderMemory) (bytes : ℕ → List ℕ) (qs : List Knowledge) (hs : List HeaderHolds) (heads : HeadersStand m bytes IsPlace (known qs) hs) (i : ℕ) (q : Knowledge) (here : get_elem? qs i ≡ some q) (a : HeaderHolds) (there : get_elem? hs i ≡ some a)
    (k : ℕ) (w : KeyedWrite) (own : HeldHeader) (has : Has own a.held) (fresh : own.held_as ≡ Fresh) (at : NamesAt own.header own.generation) (home : w.home ≡ home_of own.header own.generation) where
  abbrev pub b : HeaderHolds
  b = record a { held = without_header own.header a.held }

  live_here : 0 < in_state own.header LIVE a
  live_here = rows_have own.header LIVE a.held own has refl (ap held_state fresh)

  live : state_of (m.pin own.header) ≡ LIVE
  live = fresh_is m bytes IsPlace (known qs) hs heads i a own.header there live_here

  generation : generation_of (m.pin own.header) ≡ own.generation
  generation = each_has (λ (t : HeldHeader). generation_of (m.pin t.header) ≡ t.generation) a.held own (heads.generations i a there) has

  names : (h g : ℕ) → names_life h g w.home ≡ one_at own.header h * one_at own.generation g
  names h g = ap (names_life h g) home ∙ (ap (λ (t : ℕ). t * one_at (header_in (home_of own.header own.generation)) h * one_at (generation_in (home_of own.header own.generation)) g) at.names
      ∙ (ap (λ (t : ℕ). 1 * one_at t h * one_at (generation_in (home_of own.header own.generation)) g) at.header ∙ (ap (λ (t : ℕ). 1 * one_at own.header h * one_at t g) at.generation ∙ one (one_at own.header h) (one_at own.generation g))))
    where
      one : (x y : ℕ) → 1 * x * y ≡ x * y
      one x y = grind arith

  not_named : (h g : ℕ) → own.header ≢ h → names_life h g w.home ≡ 0
  not_named h g ne = names h g ∙ (ap (λ (t : ℕ). t * one_at own.generation g) (one_at-other own.header h ne) ∙ (let z : 0 * one_at own.generation g ≡ 0 = omega arith in z))

  other_generation : (g : ℕ) → own.generation ≢ g → names_life own.header g w.home ≡ 0
  other_generation g ne = names own.header g ∙ (ap (λ (t : ℕ). one_at own.header own.header * t) (one_at-other own.generation g ne) ∙ (let z : one_at own.header own.header * 0 ≡ 0 = omega arith in z))

  pub named : 0 < names_life own.header own.generation w.home
  named = let n = names own.header own.generation in let x = one_at-same own.header own.header refl in let y = one_at-same own.generation own.generation refl in let p = ap (λ (t : ℕ). t * one_at own.generation own.generation) x in omega arith

  pub set_heads : HeadersStand m bytes IsPlace (known (set qs i (wrote k w qs q))) (set hs i b)
  unfolding total
  set_heads = headers_change m m bytes bytes IsPlace (known qs) (known (set qs i (wrote k w qs q))) (stepped hs i a b there) heads
      (λ h. omega arith)
      (λ h s pos low ne. dite (ℕ_discrete h own.header)
      (λ e. let n : in_state h s b ≡ 0 = subst (λ (t : ℕ). in_state t s b ≡ 0) (sym e) (rows_without-here own.header s a.held) in
      let z : in_state h s a ≡ 0 = (let t = total_at (in_state h s) hs i a there in let u = heads.held h s pos low ne in let o = one_at-other (state_of (m.pin h)) s (λ y. ne (sym y ∙ (ap (λ (t : ℕ). state_of (m.pin t)) e ∙ live))) in omega arith) in omega arith)
      (λ ne2. let o = rows_without-others own.header h s a.held ne2 in omega arith))
      (λ h. let f = heads.fresh h in let l = less h in omega arith)
      (λ h. dite (ℕ_discrete h own.header)
      (λ e. subst (λ (t : ℕ). in_state t LIVE b + 0 + known (set qs i (wrote k w qs q)) t (generation_of (m.pin t)) + stocked (state_of (m.pin t)) ≡ in_state t LIVE a + 0 + known qs t (generation_of (m.pin t)) + stocked (state_of (m.pin t))) (sym e)
      (let n = rows_without-here own.header LIVE a.held in let o = held_once m bytes IsPlace (known qs) hs heads i a own.header LIVE there (omega arith) (omega arith) live_here in let o0 = o.0 in let o1 = o.1 in
      let s = heads.settled own.header in let l : stocked (state_of (m.pin own.header)) ≤ 1 = stocked_le (state_of (m.pin own.header)) in
      let new = known_new qs i q here k w own.header own.generation named in let g = ap (known (set qs i (wrote k w qs q)) own.header) generation in omega arith))
      (λ ne. let n = rows_without-others own.header h LIVE a.held ne in let s = known_after qs i q here k w h (generation_of (m.pin h)) (not_named h (generation_of (m.pin h)) (λ y. ne (sym y))) in omega arith))
      (λ h g p. dite (ℕ_discrete h own.header)
      (λ e. dite (ℕ_discrete own.generation g) (λ y. let z = ap (λ (t : ℕ). generation_of (m.pin t)) e in let w0 = generation in omega arith)
      (λ ne. subst (λ (t : ℕ). 0 < known (set qs i (wrote k w qs q)) t g → g ≤ generation_of (m.pin t)) (sym e) (λ y. heads.older own.header g (let s = known_after qs i q here k w own.header g (other_generation g ne) in omega arith)) p))
      (λ ne. heads.older h g (let s = known_after qs i q here k w h g (not_named h g (λ y. ne (sym y))) in omega arith)))
      (λ h. (heads.retired h, heads.six h))
      heads.placed
      (record { generations = each_without (λ (t : HeldHeader). generation_of (m.pin t.header) ≡ t.generation) own.header a.held (heads.generations i a there); good = heads.good i a there; dead = heads.dead i a there }, tt)
      (λ j u _ at. one_stands m bytes IsPlace (known qs) hs heads j u at)
    where
      less : (h : ℕ) → in_state h LIVE b ≤ in_state h LIVE a
      less h = dite (ℕ_discrete h own.header) (λ e. let n : in_state h LIVE b ≡ 0 = subst (λ (t : ℕ). in_state t LIVE b ≡ 0) (sym e) (rows_without-here own.header LIVE a.held) in omega arith) (λ ne. let o = rows_without-others own.header h LIVE a.held ne in omega arith)
