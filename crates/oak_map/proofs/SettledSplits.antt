-- What a split does to rooms of which each entry has a value.
use Rattle.std.proofs.Common.{◌≡◌, ◌≢◌, ℕ, zero, suc, ◌+◌, ◌-◌, ◌*◌, ◌/◌, ◌^◌, ◌<◌, ◌≤◌, List, [], ◌∷◌, length, take, ⊎_elim, sym, refl, ap, ◌∙◌, subst, arith, length-take-le}
use mathlib.Core.Logic.{dite}
use native.Mathlib.Decide.{ℕ_discrete}
use Rattle.oak_model.specs.declared.cells.CellCall.{CellCall}
use Rattle.oak_model.specs.Counts.{rows, total}
use Rattle.oak_model.specs.KeyNumber.{key_number}
use Rattle.oak_model.specs.Limits.{Sizes}
use Rattle.oak_model.proofs.Counting.{one_at-le}
use Rattle.oak_model.proofs.SumLaws.{times-none, times-one}
use Rattle.chunk_core.specs.declared.holds.EntryWords.{EntryWords}
use Rattle.chunk_core.specs.declared.holds.RoomCopy.{RoomCopy}
use Rattle.chunk_core.specs.KeyWords.{high_number, low_number}
use Rattle.chunk_core.specs.LinkedEntries.{entries_in}
use Rattle.chunk_core.specs.RoomCopies.{entries_held}
use Rattle.chunk_core.specs.RoomReads.{words_at}
use Rattle.chunk_core.specs.Spans.{within}
use Rattle.chunk_core.specs.ValueWord.{names_header}
use Rattle.oak_core.specs.declared.states.PassState.{PassState}
use Rattle.oak_core.specs.Memory.{memory}
use Rattle.oak_core.specs.Sweeping.{valueless}
use Rattle.rebalance.specs.Calls.{Halves, Rewrites}
use Rattle.rebalance.specs.Copies.{AllLinked, copy_span, linked_held, values_in}
use Rattle.rebalance.specs.LoneCalls.{Divided, HalvesRoom, IsSettled, RewritesRoom}
use Rattle.rebalance.specs.LoneWords.{IsOpen, room_in}
use Rattle.rebalance.proofs.LinkedCopies.{linked_are}
use Rattle.oak_map.specs.LoneRetrying.{AreMany, StaysSettled}

-- ---- entries and their values

-- a header is named or not
pub names_le : (v : ℕ) → names_header v ≤ 1
unfolding names_header
names_le v = one_at-le (v / 2 ^ 63) 1

-- so those with a value and those without are all
total_all : (es : List EntryWords) → total (λ (e : EntryWords). names_header e.value) es + total (λ (e : EntryWords). 1 - names_header e.value) es ≡ length es
unfolding total
total_all [] = refl
total_all (e ∷ es) = let h = names_le e.value in let t = total_all es in omega arith

-- of those with a value none has none
lacks_none : (es : List EntryWords) → total (λ (e : EntryWords). names_header e.value * (1 - names_header e.value)) es ≡ 0
unfolding total
lacks_none [] = refl
lacks_none (e ∷ es) = let h = names_le e.value in let t = lacks_none es in let m = dite (ℕ_discrete (names_header e.value) 0) (λ none. times-none (names_header e.value) (1 - names_header e.value) none) (λ ne. times-one (names_header e.value) (1 - names_header e.value) (omega arith) ∙ (omega arith)) in omega arith

rows_length : {A : Type 0} (i n : ℕ) (f : ℕ → A) → length (rows i n f) ≡ n
unfolding rows
rows_length i zero f = refl
rows_length i (suc n) f = ap suc (rows_length (suc i) n f)

-- a room that is full of entries, all linked and with a value
pub all_valued : (z : Sizes) (words : List ℕ) (r : ℕ) → entries_in (room_in z words r).count ≡ z.entries → AllLinked (room_in z words r) → valueless (room_in z words r) ≡ 0 → values_in (room_in z words r) ≡ z.entries
all_valued z words r full all none = ap (total (λ (e : EntryWords). names_header e.value)) (linked_are (room_in z words r) all) ∙ used_valued
  where
    used_valued : total (λ (e : EntryWords). names_header e.value) (entries_held (room_in z words r)) ≡ z.entries
    used_valued = let es = rows 0 z.entries (words_at (memory z words).rooms r) in let n = entries_in (room_in z words r).count in let l = rows_length 0 z.entries (words_at (memory z words).rooms r) in
        let t = length-take-le n es (omega arith) in let a = total_all (take n es) in omega arith

-- a chunk that was rewritten has an entry without a value no more
rewritten_valued : (z : Sizes) (call : ℕ) (key : List ℕ) (r : ℕ) (held opened : RoomCopy) (v w : PassState) → Rewrites z call key r held opened v w → valueless opened ≡ 0
rewritten_valued z call key r held opened v w h = h.kept (λ _ n. 1 - names_header n) ∙ lacks_none (linked_held held)

-- ---- the full room of the key

-- an open room that has the key in its range is full
pub record FullRoom (z : Sizes) (key words : List ℕ) : Type 0 where
  pub room : ℕ
  pub is_open : IsOpen z words room
  pub covers : within (copy_span (room_in z words room)) (key_number key) ≡ 1
  pub full : entries_in (room_in z words room).count ≡ z.entries

module _ (z : Sizes) (key : List ℕ) (ask : CellCall) (u : PassState) (c : List ℕ) (s : StaysSettled z key ask u c) (f : FullRoom z key c) where
  -- that is the one which was split
  the_room : (q : ℕ) (held : RoomCopy) → IsOpen z c q → room_in z c q ≡ held → within (copy_span held) (key_number key) ≡ 1 → f.room ≡ q
  the_room q held o was inside = s.divides.once (key_number key) f.room q f.is_open o f.covers (subst (λ (w : RoomCopy). within (copy_span w) (key_number key) ≡ 1) (sym was) inside)

  -- it was not only compacted
  pub never_fewer : (q : ℕ) (held : RoomCopy) → IsOpen z c q → room_in z c q ≡ held → within (copy_span held) (key_number key) ≡ 1 → values_in held < z.entries → ⊥
  never_fewer q held o was inside fewer = let e = the_room q held o was inside in let a = all_valued z c f.room f.full (s.linked f.room f.is_open) (s.valued f.room f.is_open) in
      let b = ap (λ (k : ℕ). values_in (room_in z c k)) e in let d = ap values_in was in absurd (omega arith)

-- ---- halved

module _ (z : Sizes) (call : ℕ) (key : List ℕ) (upper : ℕ) (v w : PassState) (h : Halves z call key upper v w) (c d : List ℕ) (r : Divided z (HalvesRoom z h.room upper h.held h.low_copy h.high_copy) c d) where
  -- a room that is open behind it and is neither half
  other_open : (q : ℕ) → q ≢ upper → IsOpen z d q → IsOpen z c q
  other_open q ne o = record { inside = o.inside; state = sym (r.does.leaves.states q ne) ∙ o.state }

  other_words : (q : ℕ) → q ≢ h.room → q ≢ upper → room_in z d q ≡ room_in z c q
  other_words q nr nu = r.does.leaves.words q (⊎_elim nr nu)

  halves_valued : valueless h.held ≡ 0 → (valueless h.low_copy ≡ 0) × (valueless h.high_copy ≡ 0)
  halves_valued e = let k = h.kept (λ _ n. 1 - names_header n) in ((omega arith), (omega arith))

  pub halved_valued : ((q : ℕ) → IsOpen z c q → valueless (room_in z c q) ≡ 0) → (q : ℕ) → IsOpen z d q → valueless (room_in z d q) ≡ 0
  halved_valued all q o = let both = halves_valued (ap valueless (sym r.does.was) ∙ all h.room r.does.is_open) in dite (ℕ_discrete q upper)
      (λ e. ap (λ (k : ℕ). valueless (room_in z d k)) e ∙ (ap valueless r.does.is_upper ∙ both.1))
      (λ ne. dite (ℕ_discrete q h.room)
      (λ e. ap (λ (k : ℕ). valueless (room_in z d k)) e ∙ (ap valueless r.does.is ∙ both.0))
      (λ nr. ap valueless (other_words q nr ne) ∙ all q (other_open q ne o)))

  pub halved_linked : ((q : ℕ) → IsOpen z c q → AllLinked (room_in z c q)) → (q : ℕ) → IsOpen z d q → AllLinked (room_in z d q)
  halved_linked all q o = dite (ℕ_discrete q upper)
      (λ e. subst AllLinked (sym (ap (λ (k : ℕ). room_in z d k) e ∙ r.does.is_upper)) h.linked.1)
      (λ ne. dite (ℕ_discrete q h.room)
      (λ e. subst AllLinked (sym (ap (λ (k : ℕ). room_in z d k) e ∙ r.does.is)) h.linked.0)
      (λ nr. subst AllLinked (sym (other_words q nr ne)) (all q (other_open q ne o))))

  -- the half that has the key has an entry left
  pub half_left : 2 ≤ z.entries → (q : ℕ) → IsOpen z d q → within (copy_span (room_in z d q)) (key_number key) ≡ 1 → entries_in (room_in z d q).count < z.entries
  half_left some q o covers = dite (ℕ_discrete q upper)
      (λ e. let f = ap (λ (k : ℕ). entries_in (room_in z d k).count) e in let g = ap (λ (x : RoomCopy). entries_in x.count) r.does.is_upper in let n = h.higher.count in omega arith)
      (λ ne. dite (ℕ_discrete q h.room)
      (λ e. let f = ap (λ (k : ℕ). entries_in (room_in z d k).count) e in let g = ap (λ (x : RoomCopy). entries_in x.count) r.does.is in let n = h.lower.count in omega arith)
      (λ nr. absurd (nr (r.divided.once (key_number key) q h.room (other_open q ne o) r.does.is_open
      (subst (λ (x : RoomCopy). within (copy_span x) (key_number key) ≡ 1) (other_words q nr ne) covers) (subst (λ (x : RoomCopy). within (copy_span x) (key_number key) ≡ 1) (sym r.does.was) h.inside)))))

-- ---- rewritten, with as many entries

module _ (z : Sizes) (call : ℕ) (key : List ℕ) (room : ℕ) (held opened : RoomCopy) (v w : PassState) (h : Rewrites z call key room held opened v w) (c d : List ℕ) (r : Divided z (RewritesRoom z room held opened) c d) (same : entries_in opened.count ≡ entries_in held.count) where
  pub was_open : (q : ℕ) → IsOpen z d q → IsOpen z c q
  was_open q o = record { inside = o.inside; state = sym (r.does.leaves.states q (λ n. n)) ∙ o.state }

  pub opens_still : (q : ℕ) → IsOpen z c q → IsOpen z d q
  opens_still q o = record { inside = o.inside; state = r.does.leaves.states q (λ n. n) ∙ o.state }

  -- what both words of the room agree on, each room has as before
  pub agrees : {A : Type 0} (g : RoomCopy → A) → g opened ≡ g held → (q : ℕ) → g (room_in z d q) ≡ g (room_in z c q)
  agrees g e q = dite (ℕ_discrete q room)
      (λ is. ap (λ (k : ℕ). g (room_in z d k)) is ∙ (ap g r.does.is ∙ (e ∙ (sym (ap g r.does.was) ∙ ap (λ (k : ℕ). g (room_in z c k)) (sym is)))))
      (λ ne. ap g (r.does.leaves.words q ne))

  pub rewritten_settled : ((q : ℕ) → IsOpen z c q → valueless (room_in z c q) ≡ 0) → ((q : ℕ) → IsOpen z c q → AllLinked (room_in z c q)) → AreMany z c → IsSettled z d
  rewritten_settled all links many = record {
    divides = r.divides;
    valued = λ q o. dite (ℕ_discrete q room)
        (λ is. ap (λ (k : ℕ). valueless (room_in z d k)) is ∙ (ap valueless r.does.is ∙ rewritten_valued z call key room held opened v w h))
        (λ ne. ap valueless (r.does.leaves.words q ne) ∙ all q (was_open q o));
    linked = λ q o. dite (ℕ_discrete q room)
        (λ is. subst AllLinked (sym (ap (λ (k : ℕ). room_in z d k) is ∙ r.does.is)) h.linked)
        (λ ne. subst AllLinked (sym (r.does.leaves.words q ne)) (links q (was_open q o)));
    many = λ x y o p e. let m = many x y (was_open x o) (was_open y p) (ap high_number (sym (agrees (λ (k : RoomCopy). k.high) h.high x)) ∙ (e ∙ ap (λ (ws : List ℕ). low_number ws + 1) (agrees (λ (k : RoomCopy). k.low) h.low y))) in
        let f = agrees (λ (k : RoomCopy). entries_in k.count) same x in let g = agrees (λ (k : RoomCopy). entries_in k.count) same y in omega arith;
  }
