-- The load of the stamp word of a header keeps the rule: under a pin that found the life of a known key, live or dead, it teaches its pass.
use Rattle.std.specs.Prelude.{not}
use Rattle.std.proofs.Common.{◌≡◌, ℕ, ◌<◌, ◌⊎◌, ◌==◌, ◌&&◌, cond, nat_lt, Bool, true, false, List, get_or, map, sym, refl, ap, ◌∙◌, subst, inl, inr, ⊎_elim, Option, Some, None, eqb-true, ltb-true, true≢false, arith}
use mathlib.Core.Option.{some}
use lib.ListN.{get_elem?}
use Rattle.pin_word.specs.PinWord.{state_of, generation_of, count_of}
use Rattle.pin_word.proofs.Laws.{generation_small}
use Rattle.oak_model.specs.Limits.{Sizes}
use Rattle.oak_model.proofs.Counting.{both_true, one_at-same, test-cases, total_at}
use Rattle.oak_model.proofs.Lists.{at_map}
use Rattle.header_core.specs.declared.holds.PinnedHeader.{PinnedHeader}
use Rattle.header_core.specs.declared.states.TheConstants.{LIVE, DEAD}
use Rattle.header_core.specs.HeaderHolds.{pins_of, pins_on}
use Rattle.header_core.specs.HeaderRule.{GoodPinHolds, IsGood, OnPin}
use Rattle.arena_core.specs.Place.{content}
use Rattle.header_core.specs.Headers.{at_pin, at_stamp}
use Rattle.oak_core.specs.declared.states.Knowledge.{Knowledge}
use Rattle.oak_core.specs.declared.states.PassState.{PassState}
use Rattle.oak_core.specs.EntryOwners.{is_key_word}
use Rattle.oak_core.specs.Learning.{of_key_to, taught_by}
use Rattle.oak_core.specs.LifeKeys.{key_known, is_known}
use Rattle.oak_core.specs.Memory.{Memory, memory, in_headers, index, number_at, IsInside}
use Rattle.oak_core.specs.PassState.{headers_held, knowledge_of}
use Rattle.oak_core.specs.Rule.{Rule}
use Rattle.oak_core.specs.StampLoads.{finds_life, shows_stamp}
use Rattle.oak_core.specs.Step.{load, state_after, table_after}
use Rattle.oak_core.specs.TableState.{TableState}
use Rattle.oak_core.proofs.held.HeaderStanding.{small_pin}
use Rattle.oak_core.proofs.memory.HomeWords.{NamesAt, home_names}
use Rattle.oak_core.proofs.kinds.KeepsLoads.{quiet_keeps, load_taught, roomless_rule}
use Rattle.oak_core.proofs.keyed.KeyBundles.{rooms_still}
use Rattle.oak_core.proofs.known.KnownLives.{named_at}
use Rattle.oak_core.proofs.told.QuietLoads.{unshown_teaches}
use Rattle.oak_core.proofs.kinds.StampLoads.{stamp_knowledge, good_stamp_heard, dead_stamp_heard}

-- a header with a pin is one of the table's
pub pinned_inside : (z : Sizes) (ws : List ℕ) (h : ℕ) → 0 < count_of ((memory z ws).headers.pin h) → h < z.headers
unfolding number_at count_of
pinned_inside z ws h = test-cases (nat_lt h z.headers) (λ t. 0 < count_of (cond t (get_or ws (index z (in_headers (at_pin h))) 0) 0) → h < z.headers) (λ t _. ltb-true h z.headers t) (λ f pos. absurd (omega arith))

-- a pin that found the wanted life, live or dead
pub record FindsLife (h : ℕ) (p : PinnedHeader) : Type 0 where
  pub header : p.header ≡ h
  pub wanted : generation_of p.found ≡ p.wanted
  pub state : (state_of p.found ≡ LIVE) ⊎ (state_of p.found ≡ DEAD)

pub finds_life_is : (h : ℕ) (p : PinnedHeader) → finds_life h (Some p) ≡ true → FindsLife h p
finds_life_is h p e = let a = both_true (p.header == h) ((generation_of p.found == p.wanted) && not (not (state_of p.found == LIVE) && not (state_of p.found == DEAD))) e in
    let b = both_true (generation_of p.found == p.wanted) (not (not (state_of p.found == LIVE) && not (state_of p.found == DEAD))) a.1 in record {
      header = eqb-true p.header h a.0;
      wanted = eqb-true (generation_of p.found) p.wanted b.0;
      state = ⊎_elim (λ x. inl (eqb-true (state_of p.found) LIVE x)) (λ x. inr (eqb-true (state_of p.found) DEAD x)) (either_of (state_of p.found == LIVE) (state_of p.found == DEAD) b.1);
    }
  where
    either_of : (a b : Bool) → not (not a && not b) ≡ true → (a ≡ true) ⊎ (b ≡ true)
    either_of true b e = inl refl
    either_of false true e = inr refl
    either_of false false e = absurd cc

module _ (z : Sizes) (s : TableState) (seat : ℕ) (v : PassState) (r : Rule z s) (here : get_elem? s.states seat ≡ some v) (p : PinnedHeader) (is : v.headers.pin ≡ Some p) where
  -- the header of a pin is one of the table's
  pub pin_inside : p.header < z.headers
  pin_inside = pinned_inside z s.words p.header (let t = total_at (pins_on p.header) (map headers_held s.states) seat v.headers (at_map headers_held s.states seat v here) in let c = r.headers.counted p.header in let a = ap (pins_of p.header) is in let o = one_at-same p.header p.header refl in omega arith)

  -- so the life that it wanted is one that a value word names, where the pass knows its key
  pub pin_names : (key : List ℕ) → key_known p.header p.wanted v.knowledge ≡ Some key → NamesAt p.header p.wanted
  pin_names key knows = named_at z s r seat v here p.header p.wanted pin_inside key knows

  -- so is the life of a good pin
  pub good_names : IsGood p → NamesAt p.header p.wanted
  good_names good = home_names p.header p.wanted (let i = pin_inside in let g = r.sizes.headers_greatest in omega arith)
      (let h = subst (OnPin (GoodPinHolds (memory z s.words).headers (content (memory z s.words).arena.bytes))) is (r.headers.good seat v.headers (at_map headers_held s.states seat v here)) good in let e = h.generation in let g = generation_small ((memory z s.words).headers.pin p.header) (small_pin z s seat v r here p.header) in omega arith)

module _ (z : Sizes) (s : TableState) (call seat : ℕ) (v : PassState) (r : Rule z s) (here : get_elem? s.states seat ≡ some v) (going : v.numbers.spent ≡ false) where
  abbrev m : Memory
  m = memory z s.words

  abbrev qs : List Knowledge
  qs = map knowledge_of s.states

  -- a pin that found the life of a known key
  shown_keeps : (p : PinnedHeader) → v.headers.pin ≡ Some p → (key : List ℕ) → key_known p.header p.wanted v.knowledge ≡ Some key → FindsLife p.header p → IsInside z (in_headers (at_stamp p.header)) → Rule z (table_after z call (load (in_headers (at_stamp p.header))) seat v s)
  shown_keeps p is key knows f inside = roomless_rule z s call seat v r here going (in_headers (at_stamp p.header)) inside refl (load_taught z s call seat v r here going (in_headers (at_stamp p.header)) (of_key_to key n) learned (rooms_still z m s.states seat v w here refl)
      (⊎_elim (good_stamp_heard z m is_key_word s.states r.covers r.keys r.callers r.histories r.headers r.heard seat v here p is f.wanted key knows named_at n refl w learned refl refl)
      (dead_stamp_heard z m is_key_word s.states r.covers r.keys r.callers r.histories r.headers r.heard seat v here p is f.wanted key knows named_at n refl w learned refl refl) f.state))
    where
      n : ℕ
      n = m.headers.stamp p.header

      w : PassState
      w = state_after z call (load (in_headers (at_stamp p.header))) s v

      named_at : NamesAt p.header p.wanted
      named_at = pin_names z s seat v r here p is key knows

      learned : w.knowledge ≡ taught_by (of_key_to key n) qs v.knowledge
      learned = stamp_knowledge z m is_key_word s.states r.covers r.keys r.callers r.histories r.headers r.heard seat v here p is f.wanted key knows named_at n refl f.state qs

  pub stamp_keeps : (h : ℕ) → IsInside z (in_headers (at_stamp h)) → Rule z (table_after z call (load (in_headers (at_stamp h))) seat v s)
  stamp_keeps h inside = test-cases (shows_stamp h v.headers.pin v.knowledge) (λ b. shows_stamp h v.headers.pin v.knowledge ≡ b → Rule z (table_after z call (load (in_headers (at_stamp h))) seat v s))
      (λ _ found. by v.headers.pin refl found) (λ _ other. quiet_keeps z s call seat v r here going (in_headers (at_stamp h)) inside (unshown_teaches call h m (map knowledge_of s.states) v other)) refl
    where
      under : (p : PinnedHeader) → v.headers.pin ≡ Some p → (o : Option (List ℕ)) → key_known h p.wanted v.knowledge ≡ o → finds_life h (Some p) && is_known o ≡ true → Rule z (table_after z call (load (in_headers (at_stamp h))) seat v s)
      under p is None none found = absurd (let b = both_true (finds_life h (Some p)) false found in true≢false (sym b.1))
      under p is (Some key) knows found = let f = finds_life_is h p (both_true (finds_life h (Some p)) true found).0 in subst (λ (t : ℕ). Rule z (table_after z call (load (in_headers (at_stamp t))) seat v s)) f.header
          (shown_keeps p is key (ap (λ (t : ℕ). key_known t p.wanted v.knowledge) f.header ∙ knows) record { header = refl; wanted = f.wanted; state = f.state } (subst (λ (t : ℕ). IsInside z (in_headers (at_stamp t))) (sym f.header) inside))

      by : (o : Option PinnedHeader) → v.headers.pin ≡ o → shows_stamp h o v.knowledge ≡ true → Rule z (table_after z call (load (in_headers (at_stamp h))) seat v s)
      by None is found = absurd (true≢false (sym found))
      by (Some p) is found = under p is (key_known h p.wanted v.knowledge) refl found
