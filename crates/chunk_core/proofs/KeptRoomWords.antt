-- The numbers that a pass keeps for the words of a claimed entry and of a held room, after its own store to one of them.
use Rattle.std.proofs.Common.{◌≡◌, ℕ, ◌+◌, ◌==◌, ◌&&◌, cond, Bool, true, List, [], ◌∷◌, sym, refl, ap, ◌∙◌, arith, Some, eq-eqb}
use Rattle.oak_model.specs.Counts.{one_if, total}
use Rattle.oak_model.specs.Kept.{KeptWord, keeps, restored}
use Rattle.oak_model.proofs.Counting.{test-cases}
use Rattle.chunk_core.specs.declared.holds.EntryWords.{EntryWords}
use Rattle.chunk_core.specs.declared.holds.Claim.{Claim}
use Rattle.chunk_core.specs.KeptRooms.{kept_of_entry, kept_of_claim}
use Rattle.chunk_core.specs.RoomCopies.{entry_with, claim_with}
use Rattle.chunk_core.specs.RoomStep.{EntryField, of_key, of_value, of_next, entry_spot}
use Rattle.chunk_core.specs.Rooms.{same_room_spot, at_key, at_value, at_next}

-- an entry's own word
itself : (r i : ℕ) → ((i == i) && (r == r)) ≡ true
itself r i = ap (λ (t : Bool). t && (r == r)) (eq-eqb i i refl) ∙ eq-eqb r r refl

pub entry_restored : (f : EntryField) (r i x : ℕ) (e : EntryWords) → kept_of_entry r i (entry_with f x e) ≡ restored same_room_spot (entry_spot f r i) x (kept_of_entry r i e)
entry_restored of_key r i x e = λ j. record { spot = at_key r i; number = cond (sym (itself r i) j) x e.word } ∷ record { spot = at_value r i; number = e.value } ∷ record { spot = at_next r i; number = e.next } ∷ []
entry_restored of_value r i x e = λ j. record { spot = at_key r i; number = e.word } ∷ record { spot = at_value r i; number = cond (sym (itself r i) j) x e.value } ∷ record { spot = at_next r i; number = e.next } ∷ []
entry_restored of_next r i x e = λ j. record { spot = at_key r i; number = e.word } ∷ record { spot = at_value r i; number = e.value } ∷ record { spot = at_next r i; number = cond (sym (itself r i) j) x e.next } ∷ []

-- the claim whose entry is stored to
pub claim_restored : (content : ℕ → List ℕ) (f : EntryField) (x : ℕ) (c : Claim) → kept_of_claim (Some (claim_with content f x c)) ≡ restored same_room_spot (entry_spot f c.room c.number) x (kept_of_claim (Some c))
claim_restored content of_key x c = entry_restored of_key c.room c.number x c.entry
claim_restored content of_value x c = entry_restored of_value c.room c.number x c.entry
claim_restored content of_next x c = entry_restored of_next c.room c.number x c.entry

-- a word that is not kept is not restored
pub restored_unkept : {P : Type 0} (same : P → P → Bool) (p : P) (x : ℕ) (ws : List (KeptWord P)) → keeps same p ws ≡ 0 → restored same p x ws ≡ ws
unfolding total
restored_unkept same p x [] e = refl
restored_unkept same p x (w ∷ ws) e = let t = restored_unkept same p x ws (omega arith) in
    (λ i. record { spot = w.spot; number = as_it_was i } ∷ t i)
  where
    as_it_was : cond (same w.spot p) x w.number ≡ w.number
    as_it_was = test-cases (same w.spot p) (λ b. one_if b + keeps same p ws ≡ 0 → cond b x w.number ≡ w.number) (λ _ h. absurd (omega arith)) (λ _ _. refl) e
