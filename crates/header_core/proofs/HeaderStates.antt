-- A pin word that comes to another state, or another generation, keeps the points on headers.
use Rattle.std.proofs.Common.{◌≡◌, ◌≢◌, ℕ, ◌+◌, ◌<◌, ◌≤◌, List, [], ◌∷◌, set, sym, refl, ap, ◌∙◌, subst, arith, Some, inr}
use mathlib.Core.Option.{some}
use lib.ListN.{get_elem?}
use Rattle.pin_word.specs.PinWord.{generation_of, state_of, count_of}
use Rattle.oak_model.specs.Counts.{one_at, total, put, Each}
use Rattle.oak_model.proofs.Lists.{each_map, set_again}
use Rattle.oak_model.proofs.Counting.{one_at-other}
use Rattle.oak_model.proofs.Changes.{stepped}
use Rattle.header_core.specs.declared.states.TheConstants.{LIVE, RETIRED, LAST_GENERATION}
use Rattle.header_core.specs.declared.holds.HeldHeader.{HeldHeader}
use Rattle.header_core.specs.declared.holds.PinnedHeader.{PinnedHeader}
use Rattle.header_core.specs.declared.holds.HeaderHolds.{HeaderHolds}
use Rattle.header_core.specs.Headers.{HeaderMemory, at_pin}
use Rattle.header_core.specs.HeaderHolds.{pins_on, in_state}
use Rattle.header_core.specs.HeaderRule.{stocked, OnPin, GoodPinHolds, DeadPinHolds, IsOver, HeadersStand}
use Rattle.header_core.specs.HeaderStep.{put_header}
use Rattle.header_core.proofs.HeldHeaders.{held_in, rows_in, total_alone}
use Rattle.header_core.proofs.HeaderFacts.{holds_some, unheld_none, has_all, unheld_else}
use Rattle.header_core.proofs.HeaderLaws.{on_pin, each_held, OneStands, headers_change}
use Rattle.oak_model.proofs.PutLaws.{put-cases, put-level, put-else, put-again}
use Rattle.header_core.proofs.PinWordChanges.{with_pin, same_generation, still_holds, still_removed}

-- What a new pin word x of h asks, where the pass that changes it comes to hold rs: no pin's finding is at stake, no other pass holds h, and the pass holds before and after what the two states say.
pub record Restates (m : HeaderMemory) (IsPlace : ℕ → Type 0) (known : ℕ → ℕ → ℕ) (hs : List HeaderHolds) (seat : ℕ) (a : HeaderHolds) (h x : ℕ) (rs : List HeldHeader) : Type 0 where
  pub count : count_of x ≡ count_of (m.pin h)
  pub good : (j : ℕ) (u : HeaderHolds) (p : PinnedHeader) → get_elem? hs j ≡ some u → u.pin ≡ Some p → p.header ≡ h → state_of (m.pin h) ≡ LIVE → generation_of (m.pin h) ≡ p.wanted → ⊥
  pub removals : (j : ℕ) (u : HeaderHolds) (p : PinnedHeader) → get_elem? hs j ≡ some u → u.pin ≡ Some p → p.header ≡ h → IsOver (state_of (m.pin h)) → IsOver (state_of x)
  pub alone : (j : ℕ) (u : HeaderHolds) → get_elem? hs j ≡ some u → j ≢ seat → held_in h u.held ≡ 0
  pub was : (s : ℕ) → 0 < s → s < RETIRED → s ≢ LIVE → in_state h s a ≡ one_at (state_of (m.pin h)) s
  pub now : (s : ℕ) → 0 < s → s < RETIRED → s ≢ LIVE → rows_in h s rs ≡ one_at (state_of x) s
  pub others : (k s : ℕ) → k ≢ h → rows_in k s rs ≡ in_state k s a
  pub lives : rows_in h LIVE rs ≤ one_at (state_of x) LIVE
  pub settled : rows_in h LIVE rs + known h (generation_of x) + stocked (state_of (m.pin h)) ≡ in_state h LIVE a + known h (generation_of (m.pin h)) + stocked (state_of x)
  pub rises : generation_of (m.pin h) ≤ generation_of x
  pub six : state_of x ≤ RETIRED
  pub retired : one_at (state_of x) RETIRED ≡ one_at (generation_of x) LAST_GENERATION
  pub placed : 0 < stocked (state_of x) → IsPlace (m.place h)
  pub generations : Each (λ (q : HeldHeader). generation_of ((put_header m (at_pin h) x).pin q.header) ≡ q.generation) rs

module _ (m : HeaderMemory) (content : ℕ → List ℕ) (IsPlace : ℕ → Type 0) (known : ℕ → ℕ → ℕ) (hs : List HeaderHolds) (r : HeadersStand m content IsPlace known hs) (seat : ℕ) (a : HeaderHolds) (there : get_elem? hs seat ≡ some a) (h : ℕ) where
  module _ (x : ℕ) (rs : List HeldHeader) (q : Restates m IsPlace known hs seat a h x rs) where
    abbrev m' : HeaderMemory
    m' = with_pin m h x

    abbrev b : HeaderHolds
    b = record a { held = rs }

    level : (k s : ℕ) → 0 < s → s < RETIRED → s ≢ LIVE → rows_in k s rs + one_at (state_of (m.pin k)) s ≡ in_state k s a + one_at (state_of (m'.pin k)) s
    level k s pos low n = put-level m.pin h x (λ w. one_at (state_of w) s) (λ i. in_state i s a) (λ i. rows_in i s rs) (let p = q.was s pos low n in let t = q.now s pos low n in omega arith) (λ i ne. q.others i s ne) k

    alone_live : total (in_state h LIVE) hs ≡ in_state h LIVE a
    alone_live = total_alone (in_state h LIVE) hs seat a there (λ j u at ne. unheld_none h LIVE u (q.alone j u at ne))

    lives : (k : ℕ) → total (in_state k LIVE) hs + rows_in k LIVE rs ≤ in_state k LIVE a + one_at (state_of (m'.pin k)) LIVE
    lives k = put-cases m.pin h x k (λ w. total (in_state k LIVE) hs + rows_in k LIVE rs ≤ in_state k LIVE a + one_at (state_of w) LIVE)
        (λ e. subst (λ (i : ℕ). total (in_state i LIVE) hs + rows_in i LIVE rs ≤ in_state i LIVE a + one_at (state_of x) LIVE) (sym e) (let t = alone_live in let l = q.lives in omega arith))
        (λ ne. let o = q.others k LIVE ne in let f = r.fresh k in omega arith)

    settled : (k : ℕ) → rows_in k LIVE rs + known k (generation_of (m'.pin k)) + stocked (state_of (m.pin k)) ≡ in_state k LIVE a + known k (generation_of (m.pin k)) + stocked (state_of (m'.pin k))
    settled k = put-cases m.pin h x k (λ w. rows_in k LIVE rs + known k (generation_of w) + stocked (state_of (m.pin k)) ≡ in_state k LIVE a + known k (generation_of (m.pin k)) + stocked (state_of w))
        (λ e. subst (λ (i : ℕ). rows_in i LIVE rs + known i (generation_of x) + stocked (state_of (m.pin i)) ≡ in_state i LIVE a + known i (generation_of (m.pin i)) + stocked (state_of x)) (sym e) q.settled)
        (λ ne. let o = q.others k LIVE ne in omega arith)

    good_still : (j : ℕ) (u : HeaderHolds) → get_elem? hs j ≡ some u → OnPin (GoodPinHolds m' content) u.pin
    good_still j u at = on_pin (GoodPinHolds m content) (GoodPinHolds m' content) u.pin (λ p is f g. still_holds m h x content p (λ e live wanted. absurd (q.good j u p at is e live wanted)) (f g)) (r.good j u at)

    dead_still : (j : ℕ) (u : HeaderHolds) → get_elem? hs j ≡ some u → OnPin (DeadPinHolds m') u.pin
    dead_still j u at = on_pin (DeadPinHolds m) (DeadPinHolds m') u.pin (λ p is f d. still_removed m h x p (λ e over. q.removals j u p at is e over) (f d)) (r.dead j u at)

    still : (j : ℕ) (u : HeaderHolds) → j ≢ seat → get_elem? hs j ≡ some u → OneStands m' content u
    still j u ne at = record {
      generations = each_held (λ k g. generation_of (m.pin k) ≡ g) (λ k g. generation_of (m'.pin k) ≡ g) u.held
          (λ k g l e. ap generation_of (put-else m.pin h x k (λ same. let z = q.alone j u at ne in let w = ap (λ (i : ℕ). held_in i u.held) same in omega arith)) ∙ e) (r.generations j u at);
      good = good_still j u at;
      dead = dead_still j u at;
    }

    pub restated : HeadersStand m' content IsPlace known (set hs seat b)
    unfolding total
    restated = headers_change m m' content content IsPlace known known (stepped hs seat a b there) r
        (λ k. ap (λ (n : ℕ). total (pins_on k) (a ∷ []) + n) (put-cases m.pin h x k (λ w. count_of (m.pin k) ≡ count_of w) (λ e. ap (λ (i : ℕ). count_of (m.pin i)) e ∙ sym q.count) (λ _. refl)))
        (λ k s pos low n. let e = level k s pos low n in omega arith) (λ k. let e = lives k in omega arith) (λ k. let e = settled k in omega arith)
        (λ k g l. put-cases m.pin h x k (λ w. g ≤ generation_of w) (λ e. let o = r.older k g l in let w = ap (λ (i : ℕ). generation_of (m.pin i)) e in let u = q.rises in omega arith) (λ _. r.older k g l))
        (λ k. put-cases m.pin h x k (λ w. (one_at (state_of w) RETIRED ≡ one_at (generation_of w) LAST_GENERATION) × (state_of w ≤ RETIRED)) (λ _. (q.retired, q.six)) (λ _. (r.retired k, r.six k)))
        (λ k. put-cases m.pin h x k (λ w. 0 < stocked (state_of w) → IsPlace (m.place k)) (λ e pos. subst (λ (i : ℕ). IsPlace (m.place i)) (sym e) (q.placed pos)) (λ _ pos. r.placed k pos))
        (record { generations = q.generations; good = good_still seat a there; dead = dead_still seat a there }, tt) (λ j u ne at. still j u ne at)

  -- the word of h stays, as by an exchange that fails
  pub unmoved : HeadersStand (record m { pin = put m.pin h (m.pin h) }) content IsPlace known (set hs seat a)
  unmoved = subst (λ (t : (ℕ → ℕ) × List HeaderHolds). HeadersStand (record m { pin = t.0 }) content IsPlace known t.1) (λ i. (sym (put-again m.pin h) i, sym (set_again hs seat a there) i)) r

  -- what a word of the same generation owes

  pub same_generations : (x : ℕ) → generation_of x ≡ generation_of (m.pin h) → (rs : List HeldHeader) → Each (λ (q : HeldHeader). generation_of (m.pin q.header) ≡ q.generation) rs → Each (λ (q : HeldHeader). generation_of ((with_pin m h x).pin q.header) ≡ q.generation) rs
  same_generations x same rs e = each_map (λ (q : HeldHeader). generation_of (m.pin q.header) ≡ q.generation) (λ (q : HeldHeader). generation_of ((with_pin m h x).pin q.header) ≡ q.generation) rs (λ q e. same_generation m h x same q.header ∙ e) e

  pub same_retired : (x : ℕ) → generation_of x ≡ generation_of (m.pin h) → state_of (m.pin h) ≢ RETIRED → state_of x ≢ RETIRED → one_at (state_of x) RETIRED ≡ one_at (generation_of x) LAST_GENERATION
  same_retired x same was now = one_at-other (state_of x) RETIRED now ∙ (sym (one_at-other (state_of (m.pin h)) RETIRED was) ∙ (r.retired h ∙ ap (λ (g : ℕ). one_at g LAST_GENERATION) (sym same)))

  -- a header that the pass holds comes to another state, in which no pin's finding is at stake
  pub turned : (s : ℕ) → 0 < in_state h s a → (x : ℕ) → count_of x ≡ count_of (m.pin h) → generation_of x ≡ generation_of (m.pin h) → state_of (m.pin h) ≢ RETIRED → state_of x < RETIRED → (rs : List HeldHeader)
      → ((j : ℕ) (u : HeaderHolds) (p : PinnedHeader) → get_elem? hs j ≡ some u → u.pin ≡ Some p → p.header ≡ h → state_of (m.pin h) ≡ LIVE → generation_of (m.pin h) ≡ p.wanted → ⊥)
      → (IsOver (state_of (m.pin h)) → ⊥)
      → ((t : ℕ) → 0 < t → t < RETIRED → t ≢ LIVE → rows_in h t rs ≡ one_at (state_of x) t)
      → ((k t : ℕ) → k ≢ h → rows_in k t rs ≡ in_state k t a)
      → rows_in h LIVE rs ≤ one_at (state_of x) LIVE
      → rows_in h LIVE rs + stocked (state_of (m.pin h)) ≡ one_at (state_of (m.pin h)) LIVE + stocked (state_of x)
      → (0 < stocked (state_of x) → IsPlace (m.place h))
      → Each (λ (q : HeldHeader). generation_of (m.pin q.header) ≡ q.generation) rs
      → HeadersStand (put_header m (at_pin h) x) content IsPlace known (set hs seat (record a { held = rs }))
  turned s own x count generation was_used now_used rs good over now others lives settled placed generations = let held = holds_some h s a own in let live = has_all m content IsPlace known hs r seat a h LIVE there (omega arith) (omega arith) (inr held) in
      restated x rs record {
        count = count;
        good = good;
        removals = λ _ _ _ _ _ _ o. absurd (over o);
        alone = λ j u at ne. unheld_else m content IsPlace known hs r seat a h there held j u at ne;
        was = λ t pos low _. has_all m content IsPlace known hs r seat a h t there pos low (inr held);
        now = now;
        others = others;
        lives = lives;
        settled = let k = ap (known h) generation in omega arith;
        rises = omega arith;
        six = omega arith;
        retired = same_retired x generation was_used (λ e. omega arith);
        placed = placed;
        generations = same_generations x generation rs generations;
      }
