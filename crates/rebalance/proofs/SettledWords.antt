-- Words of the table in which all is settled up to a key: what one merge after the other makes of them.
use Rattle.std.proofs.Common.{◌≡◌, ◌≢◌, ℕ, zero, suc, ◌+◌, ◌-◌, ◌/◌, ◌^◌, ◌<◌, ◌≤◌, List, [], ◌∷◌, take, sym, refl, ap, ◌∙◌, subst, arith}
use mathlib.Core.Logic.{dite}
use native.Mathlib.Decide.{ℕ_discrete, dec_le, dec_lt}
use Rattle.oak_model.specs.Counts.{total}
use Rattle.oak_model.specs.Limits.{Sizes}
use Rattle.oak_model.proofs.Counting.{one_at-le}
use Rattle.oak_model.proofs.MemberLaws.{total_split}
use Rattle.chunk_core.specs.declared.holds.EntryWords.{EntryWords}
use Rattle.chunk_core.specs.declared.holds.RoomCopy.{RoomCopy}
use Rattle.chunk_core.specs.KeyWords.{least_number, low_number, high_number}
use Rattle.chunk_core.specs.LinkedEntries.{entries_in}
use Rattle.chunk_core.specs.RoomCopies.{entries_held}
use Rattle.chunk_core.specs.Spans.{Span, past, past_high, within}
use Rattle.chunk_core.specs.ValueWord.{names_header}
use Rattle.chunk_core.proofs.SpanLaws.{past-cases, past-le, high-none, high-some}
use Rattle.rebalance.specs.Copies.{IsTidy, copy_span, has_key_word, values_in}
use Rattle.rebalance.specs.LoneCalls.{IsSettled}
use Rattle.rebalance.specs.LoneWords.{Divides, IsOpen, room_in}
use Rattle.rebalance.specs.Settling.{SettledBelow}
use Rattle.rebalance.proofs.SweptKeys.{begins_by}

-- ---- ranges and their ends

-- no key is past a bound that lies behind it
pub not_past : (h k : ℕ) → (h ≢ 0 → k + 1 < h) → past_high h k ≡ 0
not_past h k f = dite (ℕ_discrete h 0) (λ e. ap (λ (t : ℕ). past_high t k) e ∙ high-none k) (λ ne. let l = f ne in high-some h k ne ∙ past-cases (h - 1) k (λ (t : ℕ). t ≡ 0) (λ le. absurd (omega arith)) (λ _. refl))

-- a range that begins at or before k, and does not end there, has it
inside_when : (s : Span) (k : ℕ) → s.low ≤ k → (s.high ≢ 0 → k + 1 < s.high) → within s k ≡ 1
inside_when s k l h = let n = not_past s.high k h in past-cases s.low k (λ (t : ℕ). t - past_high s.high k ≡ 1) (λ _. omega arith) (λ lt. absurd (omega arith))

-- and where it has k, it ends behind that
pub ends_after : (s : Span) (k : ℕ) → within s k ≡ 1 → s.high ≢ 0 → k + 1 < s.high
ends_after s k i ne = let p = past-le s.low k in let q = high-some s.high k ne in past-cases (s.high - 1) k (λ (t : ℕ). past (s.high - 1) k ≡ t → k + 1 < s.high) (λ _ e. absurd (omega arith)) (λ lt _. omega arith) refl

-- where k is past a high bound, there is one
pub past_some : (h k : ℕ) → past_high h k ≡ 1 → h ≢ 0
past_some h k e z = let p = ap (λ (t : ℕ). past_high t k) z in let q = high-none k in absurd (omega arith)

-- at or before k
pub past_by : (h k : ℕ) → past_high h k ≡ 1 → h ≤ k + 1
past_by h k e = let q = high-some h k (past_some h k e) in past-cases (h - 1) k (λ (t : ℕ). past (h - 1) k ≡ t → h ≤ k + 1) (λ le _. omega arith) (λ lt c. absurd (omega arith)) refl

-- and then only
pub past_when : (h k : ℕ) → h ≢ 0 → h ≤ k + 1 → past_high h k ≡ 1
past_when h k ne le = high-some h k ne ∙ past-cases (h - 1) k (λ (t : ℕ). t ≡ 1) (λ _. refl) (λ lt. absurd (omega arith))

-- ---- entries and their values

-- a header is named or not
pub names_le : (v : ℕ) → names_header v ≤ 1
unfolding names_header
names_le v = one_at-le (v / 2 ^ 63) 1

-- so n of them name no more than n
total_few : (n : ℕ) (es : List EntryWords) → total (λ (e : EntryWords). names_header e.value) (take n es) ≤ n
unfolding total
total_few zero es = omega arith
total_few (suc n) [] = omega arith
total_few (suc n) (e ∷ es) = let h = names_le e.value in let t = total_few n es in omega arith

-- no more entries have a value than are in use
values_few : (w : RoomCopy) → values_in w ≤ entries_in w.count
values_few w = let t = total_few (entries_in w.count) w.entries in let s = total_split has_key_word (λ (e : EntryWords). names_header e.value) (entries_held w) in omega arith

-- the words of a room have the range that they had, and no fewer values, and each entry is linked and has one still
pub record IsStill (w x : RoomCopy) : Type 0 where
  pub low : x.low ≡ w.low
  pub high : x.high ≡ w.high
  pub values : values_in w ≤ values_in x
  pub tidy : IsTidy w → IsTidy x

-- ---- the open rooms of words

-- the numbers of the bounds of a room
abbrev low_in : Sizes → List ℕ → ℕ → ℕ
low_in z b r = low_number (room_in z b r).low

abbrev high_in : Sizes → List ℕ → ℕ → ℕ
high_in z b r = high_number (room_in z b r).high

module _ (z : Sizes) (b : List ℕ) (d : Divides z b) where
  abbrev low_of : ℕ → ℕ
  low_of r = low_in z b r

  abbrev high_of : ℕ → ℕ
  high_of r = high_in z b r

  -- a range ends behind where it begins
  not_empty : (r : ℕ) → IsOpen z b r → high_of r ≢ 0 → low_of r + 1 < high_of r
  not_empty r o ne = ends_after (copy_span (room_in z b r)) (low_of r) (d.begun r o) ne

  -- one of two rooms that begin in the range of the other is that
  same_low : (r s : ℕ) → IsOpen z b r → IsOpen z b s → low_of r ≤ low_of s → (high_of r ≢ 0 → low_of s + 1 < high_of r) → r ≡ s
  same_low r s o p l h = d.once (low_of s) r s o p (inside_when (copy_span (room_in z b r)) (low_of s) l h) (d.begun s p)

  -- up to the least key all is settled
  pub settled_least : SettledBelow z least_number b
  settled_least = record {
    tidy = λ r o e. let k = d.keyed r o in absurd (omega arith);
    many = λ r s o p e l. let k = d.keyed r o in let f = past_when (high_of r) least_number (λ n. absurd (omega arith)) (omega arith) in absurd (omega arith);
  }

  -- so it is up to the end of the range that has the key, where each entry of that is linked and has a value, and the next one, which begins there, has many with it
  module _ (k n r q : ℕ) (s : SettledBelow z k b) (o : IsOpen z b r) (p : IsOpen z b q) (inside : within (copy_span (room_in z b r)) k ≡ 1) (tidy : IsTidy (room_in z b r)) (ends : high_of r ≡ n + 1) (begins : low_of q ≡ n) (many : z.entries / 2 < values_in (room_in z b r) + values_in (room_in z b q)) where
    -- that range begins at or before the key, and ends behind it
    below : low_of r ≤ k
    below = begins_by (copy_span (room_in z b r)) k inside

    behind : k < n
    behind = let e = ends_after (copy_span (room_in z b r)) k inside (λ e. absurd (omega arith)) in omega arith

    -- a room that ends behind k, and no later than r, is r
    same_end : (x : ℕ) → IsOpen z b x → high_of x ≢ 0 → k + 1 < high_of x → high_of x ≤ n + 1 → x ≡ r
    same_end x there ne l m = let w = not_empty x there ne in let f = below in d.once (high_of x - 2) x r there o
        (inside_when (copy_span (room_in z b x)) (high_of x - 2) (omega arith) (λ _. omega arith)) (inside_when (copy_span (room_in z b r)) (high_of x - 2) (omega arith) (λ _. omega arith))

    pub settled_next : SettledBelow z n b
    settled_next = record {
      tidy = λ x there e. let ne = past_some (high_of x) n e in let l = past_by (high_of x) n e in dite (dec_lt (k + 1) (high_of x))
          (λ lt. subst (λ (y : ℕ). IsTidy (room_in z b y)) (sym (same_end x there ne lt l)) tidy)
          (λ ge. s.tidy x there (past_when (high_of x) k ne (omega arith)));
      many = λ x y there also e l. dite (dec_le (low_of y) k)
          (λ le. s.many x y there also e le)
          (λ gt. let same = same_end x there (λ f. absurd (omega arith)) (omega arith) (omega arith) in dite (dec_lt (low_of y) n)
          (λ lt. let f = below in let is = same_low r y o also (omega arith) (λ _. omega arith) in let g = ap low_of is in absurd (omega arith))
          (λ ge. let is = same_low q y p also (omega arith) (λ ne. let w = not_empty q p ne in omega arith) in
          subst (λ (c : ℕ × ℕ). z.entries / 2 < values_in (room_in z b c.0) + values_in (room_in z b c.1)) (λ i. (sym same i, is i)) many));
    }

  -- and where no range is above that one, all is settled
  module _ (k r : ℕ) (s : SettledBelow z k b) (o : IsOpen z b r) (inside : within (copy_span (room_in z b r)) k ≡ 1) (tidy : IsTidy (room_in z b r)) (last : high_of r ≡ 0) where
    -- a room that begins behind k is the last one
    begun_behind : (x : ℕ) → IsOpen z b x → k < low_of x → r ≡ x
    begun_behind x there l = let f = begins_by (copy_span (room_in z b r)) k inside in same_low r x o there (omega arith) (λ ne. absurd (ne last))

    all_tidy : (x : ℕ) → IsOpen z b x → IsTidy (room_in z b x)
    all_tidy x there = dite (ℕ_discrete (past_high (high_of x) k) 1)
        (λ e. s.tidy x there e)
        (λ ne. subst (λ (y : ℕ). IsTidy (room_in z b y)) (dite (dec_le (low_of x) k)
        (λ le. d.once k r x o there inside (inside_when (copy_span (room_in z b x)) k le (λ some. dite (dec_lt (k + 1) (high_of x)) (λ lt. lt) (λ ge. absurd (ne (past_when (high_of x) k some (omega arith)))))))
        (λ gt. begun_behind x there (omega arith))) tidy)

    pub settled_all : IsSettled z b
    settled_all = record {
      divides = d;
      valued = λ x there. (all_tidy x there).valued;
      linked = λ x there. (all_tidy x there).linked;
      many = λ x y there also e. dite (dec_le (low_of y) k)
          (λ le. let m = s.many x y there also e le in let i = values_few (room_in z b x) in let j = values_few (room_in z b y) in omega arith)
          (λ gt. let f = begins_by (copy_span (room_in z b r)) k inside in let g = ap low_of (begun_behind y also (omega arith)) in absurd (omega arith));
    }

-- ---- where words change

module _ (z : Sizes) (a b : List ℕ) where
  -- rooms that have the range that they had, and no fewer values, and in which each entry is linked and has a value still
  pub settled_still : (k : ℕ) → ((x : ℕ) → IsOpen z b x → IsOpen z a x) → ((x : ℕ) → IsStill (room_in z a x) (room_in z b x)) → SettledBelow z k a → SettledBelow z k b
  settled_still k opens still s = record {
    tidy = λ x there e. let i = still x in i.tidy (s.tidy x (opens x there) (ap (λ (ws : List ℕ). past_high (high_number ws) k) (sym i.high) ∙ e));
    many = λ x y there also e l. let i = still x in let j = still y in let m = s.many x y (opens x there) (opens y also) (ap high_number (sym i.high) ∙ (e ∙ ap (λ (ws : List ℕ). low_number ws + 1) j.low)) (subst (λ (ws : List ℕ). low_number ws ≤ k) j.low l) in
        let f = i.values in let g = j.values in omega arith;
  }

  -- two neighbours that were joined into the lower one, which has the key
  module _ (d : Divides z a) (e : Divides z b) (k r q : ℕ) (o : IsOpen z a r) (p : IsOpen z a q) (inside : within (copy_span (room_in z a r)) k ≡ 1) (above : high_number (room_in z a r).high ≡ low_number (room_in z a q).low + 1)
      (low : (room_in z b r).low ≡ (room_in z a r).low) (high : (room_in z b r).high ≡ (room_in z a q).high) (values : values_in (room_in z a r) ≤ values_in (room_in z b r))
      (opens : (x : ℕ) → IsOpen z b x → IsOpen z a x) (gone : IsOpen z b q → ⊥) (others : (x : ℕ) → x ≢ r → x ≢ q → room_in z b x ≡ room_in z a x) where
    -- the joined range ends behind the key
    ends_behind_it : high_in z b r ≢ 0 → k + 2 < high_in z b r
    ends_behind_it ne = let f = ends_after (copy_span (room_in z a r)) k inside (λ n. absurd (omega arith)) in let h = ap high_number high in let w = not_empty z a d q p (λ n. ne (h ∙ n)) in omega arith

    not_gone : (x : ℕ) → IsOpen z b x → x ≢ q
    not_gone x there e = gone (subst (IsOpen z b) e there)

    pub settled_joined : SettledBelow z k a → SettledBelow z k b
    settled_joined s = record {
      tidy = λ x there f. let ne = past_some (high_in z b x) k f in let le = past_by (high_in z b x) k f in dite (ℕ_discrete x r)
          (λ same. let l = ends_behind_it (λ n. ne (ap (high_in z b) same ∙ n)) in let g = ap (high_in z b) same in absurd (omega arith))
          (λ other. let i = others x other (not_gone x there) in subst IsTidy (sym i) (s.tidy x (opens x there) (ap (λ (w : RoomCopy). past_high (high_number w.high) k) (sym i) ∙ f)));
      many = λ x y there also f l. dite (ℕ_discrete x r)
          (λ same. let g = ap (high_in z b) same in let h = ends_behind_it (λ n. absurd (omega arith)) in absurd (omega arith))
          (λ other. let i = others x other (not_gone x there) in let m = ap values_in i in let c = ap (λ (w : RoomCopy). high_number w.high) (sym i) in dite (ℕ_discrete y r)
          (λ same. let g = ap (low_in z b) same ∙ ap low_number low in let t = s.many x r (opens x there) o (c ∙ (f ∙ ap (λ (n : ℕ). n + 1) g)) (omega arith) in let j = ap (λ (v : ℕ). values_in (room_in z b v)) same in omega arith)
          (λ ne. let j = others y ne (not_gone y also) in let n = ap values_in j in let t = s.many x y (opens x there) (opens y also) (c ∙ (f ∙ ap (λ (w : RoomCopy). low_number w.low + 1) j)) (subst (λ (w : RoomCopy). low_number w.low ≤ k) j l) in omega arith));
    }
