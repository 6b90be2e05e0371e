-- A pin that comes or goes keeps the points on headers.
use Rattle.std.proofs.Common.{◌≤◌, ◌≡◌, ◌≢◌, ℕ, ◌+◌, ◌-◌, ◌%◌, ◌^◌, ◌<◌, List, set, sym, refl, ap, ◌∙◌, subst, arith, Option, Some, None, inl}
use mathlib.Core.Option.{some}
use lib.ListN.{get_elem?}
use Rattle.pin_word.specs.PinWord.{generation_of, state_of, count_of}
use Rattle.oak_model.specs.Counts.{one_at, total}
use Rattle.oak_model.proofs.Counting.{one_at-same, one_at-other, one_at-true, total_at}
use Rattle.oak_model.proofs.Changes.{stepped}
use Rattle.header_core.specs.declared.states.TheConstants.{LIVE, RETIRED, LAST_GENERATION}
use Rattle.header_core.specs.declared.holds.PinnedHeader.{PinnedHeader}
use Rattle.header_core.specs.declared.holds.HeaderHolds.{HeaderHolds}
use Rattle.header_core.specs.Headers.{HeaderMemory, at_pin}
use Rattle.header_core.specs.HeaderHolds.{pins_of, pins_on}
use Rattle.header_core.specs.HeaderRule.{stocked, IsOver, HeadersStand}
use Rattle.header_core.specs.HeaderStep.{pin_header, unpin_header, header_effect, headers_after, put_header}
use Rattle.header_core.proofs.HeaderLaws.{OneStands, one_stands, still_stands, headers_change}
use Rattle.pin_word.proofs.StepLaws.{pin_up, pin_down}
use Rattle.oak_model.proofs.PutLaws.{put-level, put-same}
use Rattle.header_core.proofs.PinWordChanges.{with_pin, same_generation, still_holds, still_removed}

module _ (m : HeaderMemory) (content : ℕ → List ℕ) (IsPlace : ℕ → Type 0) (known : ℕ → ℕ → ℕ) (hs : List HeaderHolds) (r : HeadersStand m content IsPlace known hs) (seat : ℕ) (a : HeaderHolds) (there : get_elem? hs seat ≡ some a) (h : ℕ) (small : m.pin h < 2 ^ 64) where
  -- the count of h changes with the pass's pin, and nothing else
  module _ (x : ℕ) (o : Option PinnedHeader) (state : state_of x ≡ state_of (m.pin h)) (generation : generation_of x ≡ generation_of (m.pin h)) where
    abbrev m' : HeaderMemory
    m' = with_pin m h x

    abbrev b : HeaderHolds
    b = record a { pin = o }

    same_state : (k : ℕ) → state_of (m'.pin k) ≡ state_of (m.pin k)
    same_state = put-same m.pin h x state_of state

    still : (j : ℕ) (u : HeaderHolds) → get_elem? hs j ≡ some u → OneStands m' content u
    still j u at = still_stands m m' content content u (λ k _. same_generation m h x generation k) (λ p _ _ t. still_holds m h x content p (λ _ live wanted. (state ∙ live, generation ∙ wanted)) t)
        (λ p _ t. still_removed m h x p (λ _ over. subst IsOver (sym state) over) t) (one_stands m content IsPlace known hs r j u at)

    repinned : ((k : ℕ) → pins_on k b + count_of (m.pin k) ≡ pins_on k a + count_of (m'.pin k)) → OneStands m' content b → HeadersStand m' content IsPlace known (set hs seat b)
    unfolding total
    repinned counts new = headers_change m m' content content IsPlace known known (stepped hs seat a b there) r (λ k. let c = counts k in omega arith)
        (λ k s _ _ _. let e = ap (λ (w : ℕ). one_at w s) (same_state k) in omega arith) (λ k. let e = ap (λ (w : ℕ). one_at w LIVE) (same_state k) in let f = r.fresh k in omega arith)
        (λ k. let e = ap stocked (same_state k) in let g = ap (known k) (same_generation m h x generation k) in omega arith)
        (λ k g l. let o = r.older k g l in let e = same_generation m h x generation k in omega arith)
        (λ k. (ap (λ (w : ℕ). one_at w RETIRED) (same_state k) ∙ (r.retired k ∙ ap (λ (w : ℕ). one_at w LAST_GENERATION) (sym (same_generation m h x generation k))), subst (λ (w : ℕ). w ≤ RETIRED) (sym (same_state k)) (r.six k)))
        (λ k pos. r.placed k (subst (λ (w : ℕ). 0 < stocked w) (same_state k) pos)) (new, tt) (λ j u _ at. still j u at)

  pub pin_keeps : (g : ℕ) → a.pin ≡ None → total (pins_on h) hs + 1 < 2 ^ 28
      → HeadersStand (put_header m (at_pin h) (header_effect (pin_header h g) (m.pin h))) content IsPlace known (set hs seat (headers_after m content (pin_header h g) a))
  pin_keeps g none few = let c = r.counted h in let u = pin_up (m.pin h) (omega arith) small in let x : ℕ = (m.pin h + 1) % 2 ^ 64 in
      let p : PinnedHeader = record { header = h; wanted = g; found = m.pin h; place = m.place h; stamp = m.stamp h; words = content (m.place h) } in
      repinned x (Some p) u.1 u.2
      (put-level m.pin h x count_of (λ k. pins_on k a) (λ k. one_at h k) (let q = one_at-same h h refl in let z = ap (pins_of h) none in let n = u.0 in omega arith) (λ k ne. one_at-other h k (λ e. ne (sym e)) ∙ sym (ap (pins_of k) none)))
      record {
        generations = (still x (Some p) u.1 u.2 seat a there).generations;
        good = λ g. record { live = same_state x (Some p) u.1 u.2 h ∙ g.live; generation = same_generation m h x u.2 h ∙ g.wanted; place = refl; stamp = refl; words = refl };
        dead = λ d. record { over = inl (same_state x (Some p) u.1 u.2 h ∙ d); stamp = refl };
      }

  pub unpin_keeps : pins_on h a ≡ 1 → HeadersStand (put_header m (at_pin h) (header_effect (unpin_header h) (m.pin h))) content IsPlace known (set hs seat (headers_after m content (unpin_header h) a))
  unpin_keeps one = let t = total_at (pins_on h) hs seat a there in let c = r.counted h in let d = pin_down (m.pin h) (omega arith) small in let x : ℕ = (m.pin h + (2 ^ 64 - 1)) % 2 ^ 64 in
      repinned x None d.1 d.2
      (put-level m.pin h x count_of (λ k. pins_on k a) (λ _. 0) (let n = d.0 in omega arith) (λ k ne. sym (others k ne a.pin one)))
      record { generations = (still x None d.1 d.2 seat a there).generations; good = tt; dead = tt }
    where
      others : (k : ℕ) → k ≢ h → (o : Option PinnedHeader) → pins_of h o ≡ 1 → pins_of k o ≡ 0
      others k ne None e = refl
      others k ne (Some p) e = let q = one_at-true p.header h (omega arith) in one_at-other p.header k (λ y. ne (sym y ∙ q))
