-- Of such a table: a header that has a block is live, and named by one entry.
use Rattle.std.proofs.Common.{◌≡◌, ◌≢◌, ℕ, ◌+◌, ◌*◌, ◌<◌, ◌≤◌, List, map, sym, refl, ◌∙◌, subst, arith}
use mathlib.Core.Option.{some}
use lib.ListN.{get_elem?}
use Rattle.pin_word.specs.PinWord.{state_of}
use Rattle.oak_model.specs.Counts.{one_at, total}
use Rattle.oak_model.specs.Limits.{Sizes}
use Rattle.oak_model.proofs.Counting.{one_at-same, one_at-true, total_at}
use Rattle.oak_model.proofs.SumLaws.{times-one}
use Rattle.arena_core.specs.Place.{content}
use Rattle.chunk_core.specs.Covers.{Entry}
use Rattle.chunk_core.specs.CoverSums.{each, naming}
use Rattle.chunk_core.specs.ValueWord.{header_in}
use Rattle.header_core.specs.declared.states.TheConstants.{OWNED, LIVE, LOCKED, DEAD, RETIRED}
use Rattle.header_core.specs.HeaderHolds.{in_state, no_headers, pins_on}
use Rattle.header_core.specs.HeaderRule.{stocked}
use Rattle.oak_core.specs.declared.states.PassState.{PassState}
use Rattle.oak_core.specs.KeyReads.{history_now, shown_by, sum_now, word_now}
use Rattle.oak_core.specs.KeyStates.{IsHome, unnamed}
use Rattle.oak_core.specs.Memory.{Memory, memory}
use Rattle.oak_core.specs.PassState.{headers_held}
use Rattle.lone_counts.specs.Entries.{at_key, entries_of, header_named, valued, word_in}
use Rattle.lone_counts.specs.LoneTable.{LoneTable}
use Rattle.lone_counts.specs.Premises.{HeadersStill}
use Rattle.lone_counts.proofs.LoneSums.{entries_sum, no_header_sum}
use Rattle.lone_counts.proofs.Sums.{total_only}

none_in_state : (h s : ℕ) → in_state h s no_headers ≡ 0
unfolding total
none_in_state h s = refl

none_unnamed : (h : ℕ) → unnamed h no_headers ≡ 0
unfolding total
none_unnamed h = refl

module _ (z : Sizes) (words : List ℕ) (v : PassState) (l : LoneTable z words v) where
  abbrev mem : Memory
  mem = memory z words

  abbrev es : List Entry
  es = entries_of z mem

  abbrev bytes : ℕ → List ℕ
  bytes = content mem.arena.bytes

  pub word_is : (k : ℕ) → word_now z mem l.moment.states k ≡ word_in es k
  word_is k = entries_sum z words v l (λ (x : Entry). one_at x.key k * (x.value + 1))

  pub once_at : (k : ℕ) → total (at_key k) es ≤ 1
  once_at k = subst (λ (n : ℕ). n ≤ 1) (entries_sum z words v l (at_key k)) (l.moment.rule.covers.once k)

  -- the entry of a key is what its word tells
  pub word_at : (j : ℕ) (e : Entry) → get_elem? es j ≡ some e → word_now z mem l.moment.states e.key ≡ e.value + 1
  word_at j e at = word_is e.key ∙ total_only (λ (x : Entry). one_at x.key e.key) (λ (x : Entry). x.value + 1) es j e at (one_at-same e.key e.key refl) (once_at e.key)

  pub home : (j : ℕ) (e : Entry) → get_elem? es j ≡ some e → valued e ≡ 1 → IsHome z mem.headers (shown_by mem) e.value (history_now l.moment.states e.key)
  home j e at has = (l.moment.rule.keys.states e.key).named e.value (word_at j e at) has

  pub not_so : (h s : ℕ) → 0 < s → s < RETIRED → s ≢ LIVE → one_at (state_of (mem.headers.pin h)) s ≡ 0
  not_so h s more few ne = sym (l.moment.rule.headers.held h s more few ne) ∙ no_header_sum z words v l (in_state h s) (none_in_state h s)

  pub still_at : (h : ℕ) → stocked (state_of (mem.headers.pin h)) ≡ one_at (state_of (mem.headers.pin h)) LIVE
  still_at h = let a = not_so h LOCKED (omega arith) (omega arith) (λ e. absurd (omega arith)) in let b = not_so h DEAD (omega arith) (omega arith) (λ e. absurd (omega arith)) in omega arith

  pub named_at : (h : ℕ) → total (header_named h) es ≡ one_at (state_of (mem.headers.pin h)) LIVE
  named_at h = let n = l.moment.rule.keys.named h in let s = entries_sum z words v l (header_named h) in
      let f = no_header_sum z words v l (in_state h LIVE) (none_in_state h LIVE) in let u = no_header_sum z words v l (unnamed h) (none_unnamed h) in let t = still_at h in
      let x : ℕ = sum_now z mem l.moment.states (each (naming h)) in
      let x1 : ℕ = total (in_state h LIVE) (map headers_held l.moment.states) in
      let x2 : ℕ = total (unnamed h) (map headers_held l.moment.states) in
      let y : ℕ = total (header_named h) es in let o : ℕ = stocked (state_of (mem.headers.pin h)) in let q : ℕ = one_at (state_of (mem.headers.pin h)) LIVE in
      let n' : x + x1 + x2 ≡ o = n in let s' : x ≡ y = s in let f' : x1 ≡ 0 = f in let u' : x2 ≡ 0 = u in let t' : o ≡ q = t in let r : y ≡ q = omega arith in r

  pub headers_still : HeadersStill z mem.headers es
  headers_still = record {
    unpinned = λ h. sym (l.moment.rule.headers.counted h) ∙ no_header_sum z words v l (pins_on h) refl;
    six = l.moment.rule.headers.six;
    unowned = λ h. not_so h OWNED (omega arith) (omega arith) (λ e. absurd (omega arith));
    still = still_at;
    named = named_at;
    inside = λ j e at has. (home j e at has).inside;
  }

  -- the header that an entry names is live
  pub live_at : (j : ℕ) (e : Entry) → get_elem? es j ≡ some e → valued e ≡ 1 → state_of (mem.headers.pin (header_in e.value)) ≡ LIVE
  live_at j e at has = let h : ℕ = header_in e.value in let t = total_at (header_named h) es j e at in let n = named_at h in
      let one : header_named h e ≡ 1 = times-one (valued e) (one_at h h) has ∙ one_at-same h h refl in
      one_at-true (state_of (mem.headers.pin h)) LIVE (omega arith)
