-- What was read of a room along its links: the slots have the entries in the order of the links, so that their keys rise as those along the links do.
use Rattle.std.proofs.Common.{◌≡◌, ◌≢◌, ℕ, zero, suc, ◌+◌, ◌-◌, ◌<◌, ◌≤◌, Bool, List, [], ◌∷◌, ◌++◌, map, take, length, get_or, sym, ◌∙◌, ap, subst, arith, append_assoc}
use Rattle.std.proofs.lemmas.List.{get_or-map, get_or_append_left, length-append, length-map, length-take-le}
use Rattle.oak_model.specs.Counts.{Each}
use Rattle.oak_model.specs.Key.{IsKeyBefore}
use Rattle.chunk_core.specs.LinkedEntries.{chain, farthest, linked, Rises}
use Rattle.chunk_core.specs.Rooms.{RoomMemory}
use Rattle.chunk_core.proofs.Chains.{chain-some}
use Rattle.oak_core.specs.declared.sorting.SortSlot.{SortSlot}
use Rattle.rebalance.specs.declared.entries.Entry.{Entry}
use Rattle.rebalance.specs.Compacted.{KeysRise, KeysRiseAlong}
use Rattle.rebalance.specs.Entries.{entry_at}
use Rattle.rebalance.specs.Read.{AreAlong, PutsEntry}
use Rattle.rebalance.specs.Slots.{entry_of}
use Rattle.rebalance.proofs.ReadLaws.{front_more}

-- what holds of each number of a list, and of two of a list that rises

pub each_there : (P : ℕ → Type 0) (xs : List ℕ) → Each P xs → (i d : ℕ) → i < length xs → P (get_or xs i d)
each_there P [] h i d l = absurd (omega arith)
each_there P (x ∷ xs) h zero d l = h.0
each_there P (x ∷ xs) h (suc i) d l = each_there P xs h.1 i d (omega arith)

pub rises_there : (f : ℕ → ℕ) (xs : List ℕ) → Rises f xs → (i j d : ℕ) → i < j → j < length xs → f (get_or xs i d) < f (get_or xs j d)
rises_there f [] h i j d lt l = absurd (omega arith)
rises_there f (x ∷ xs) h i zero d lt l = absurd (omega arith)
rises_there f (x ∷ xs) h zero (suc j) d lt l = each_there (λ k. f x < f k) xs h.0 j d (omega arith)
rises_there f (x ∷ xs) h (suc i) (suc j) d lt l = rises_there f xs h.1 i j d (omega arith) (omega arith)

-- a room has fewer entries than links are followed
pub few_chained : (k : ℕ) → k < 256 → k < farthest
unfolding farthest
few_chained k l = omega arith

-- the entries that links reach from this link on, behind k entries
abbrev pub left_along : RoomMemory → ℕ → ℕ → ℕ → List Entry
left_along m r k link = map (entry_at m r) (chain (farthest - k) (m.next r) link)

module _ (m : RoomMemory) (r : ℕ) where
  -- before the first they are all
  pub along_none : (link : ℕ) → link ≡ m.first r → map (entry_at m r) (linked m r) ≡ left_along m r 0 link
  unfolding farthest
  along_none link e = ap (λ (k : ℕ). map (entry_at m r) (chain farthest (m.next r) k)) (sym e)

  -- the first of them, and those behind it
  pub along_next : (k link behind : ℕ) → k < farthest → link ≢ 0 → behind ≡ m.next r (link - 1) → left_along m r k link ≡ entry_at m r (link - 1) ∷ left_along m r (k + 1) behind
  along_next k link behind l ne e = ap (λ (n : ℕ). map (entry_at m r) (chain n (m.next r) link)) (let q : farthest - k ≡ suc (farthest - (k + 1)) = omega arith in q)
      ∙ (ap (map (entry_at m r)) (chain-some (farthest - (k + 1)) (m.next r) link ne) ∙ ap (λ (n : ℕ). entry_at m r (link - 1) ∷ left_along m r (k + 1) n) (sym e))

  -- The first n slots have entries along the links.
  module _ (n : ℕ) (slots : List SortSlot) (fits : n ≤ length slots) (along : AreAlong m r n slots) where
    -- so links reach as many
    many_along : n ≤ length (linked m r)
    many_along = let e = ap length along.1 in let a = length-map (linked m r) (entry_at m r) in let b = length-append (map entry_of (take n slots)) along.0 in let c = length-map (take n slots) entry_of in let d = length-take-le n slots fits in omega arith

    -- and each has the key word of its entry
    word_along : (i d : ℕ) (s : SortSlot) → i < n → (get_or (take n slots) i s).key ≡ m.key r (get_or (linked m r) i d)
    word_along i d s l = let xs : List SortSlot = take n slots in let c = length-map xs entry_of in let t = length-take-le n slots fits in let many = many_along in
        sym (ap (λ (e : Entry). e.place) (sym (get_or-map (entry_at m r) (linked m r) i d (entry_of s) (omega arith))
        ∙ (ap (λ (es : List Entry). get_or es i (entry_of s)) along.1
        ∙ (get_or_append_left (map entry_of xs) along.0 (entry_of s) i (omega arith) ∙ get_or-map entry_of xs i s (entry_of s) (omega arith)))))

    -- the keys of the slots rise as those along the links do
    pub keys_along : (keys : ℕ → List ℕ) → KeysRiseAlong keys m r → KeysRise keys (take n slots)
    keys_along keys rise i j s lt l = let t = length-take-le n slots fits in let many = many_along in
        subst (λ (p : ℕ × ℕ). IsKeyBefore (keys p.0) (keys p.1)) (λ q. (sym (word_along i 0 s (omega arith)) q, sym (word_along j 0 s (omega arith)) q)) (rise i j 0 lt (omega arith))

-- one entry more was read, to the next slot
pub along_set : (key : List ℕ) (whole : Bool) (e : Entry) (k : ℕ) (slots slots' : List SortSlot) → k < length slots → PutsEntry key whole e k slots slots' → (all left behind : List Entry) → left ≡ e ∷ behind → all ≡ map entry_of (take k slots) ++ left → all ≡ map entry_of (take (k + 1) slots') ++ behind
along_set key whole e k slots slots' lt h all left behind next is = is ∙ (ap (λ (es : List Entry). map entry_of (take k slots) ++ es) next ∙ (sym (append_assoc (map entry_of (take k slots)) (e ∷ []) behind)
    ∙ ap (λ (es : List Entry). es ++ behind) (sym (ap (λ (xs : List SortSlot). map entry_of (take (k + 1) xs)) h.put ∙ front_more slots k h.slot e h.is lt))))
