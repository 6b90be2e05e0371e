-- A header that is locked gets its key: what stands whatever keys held headers have stands of what the step leaves.
use Rattle.std.proofs.Common.{◌≡◌, ℕ, zero, suc, ◌==◌, cond, List, [], ◌∷◌, map, set, sym, refl, subst}
use mathlib.Core.Option.{some}
use lib.ListN.{get_elem?}
use Rattle.pin_word.specs.PinWord.{generation_of}
use Rattle.oak_model.specs.Kept.{KeptWord, KeptNumbersStand}
use Rattle.oak_model.specs.Limits.{Sizes}
use Rattle.oak_model.proofs.Counting.{test-cases}
use Rattle.oak_model.proofs.Lists.{set_there}
use Rattle.arena_core.specs.declared.blocks.HeldBlocks.{HeldBlocks}
use Rattle.header_core.specs.HeaderRule.{HeadersStand, PinsWhatItKnows}
use Rattle.header_core.specs.HeaderStep.{HeaderStep, claim_header, store_place, store_stamp, change_place, open_header, pin_header, unpin_header, release_header, lock_header, unlock_header, mark_dead, take_back}
use Rattle.header_core.specs.Headers.{HeaderMemory, HeaderSpot}
use Rattle.header_core.specs.declared.holds.HeaderHolds.{HeaderHolds}
use Rattle.header_core.specs.declared.holds.HeldHeader.{HeldHeader}
use Rattle.oak_core.specs.declared.states.Knowledge.{Knowledge}
use Rattle.oak_core.specs.declared.states.PassState.{PassState}
use Rattle.oak_core.specs.KeyedHeaders.{headers_keyed, keyed_at}
use Rattle.oak_core.specs.LifeKeys.{key_known, key_or}
use Rattle.oak_core.specs.Memory.{Spot, in_headers, memory, read, same_spot, write}
use Rattle.oak_core.specs.Owners.{HeadersAreWhole}
use Rattle.oak_core.specs.PassState.{kept_of}
use Rattle.oak_core.specs.Rule.{Rule}
use Rattle.oak_core.specs.TableState.{TableState}
use Rattle.oak_core.proofs.owners.OwnedAndKept.{OwnedAndKept}
use Rattle.oak_core.proofs.held.RelabelledHeaders.{relabelled, Relabels, relabelled_kept, relabelled_pins, relabelled_stand, relabelled_whole}

-- one clause for each kind
keyed : (P : HeaderHolds → Type 0) → ((f : HeldHeader → HeldHeader) → Relabels f → (a : HeaderHolds) → P a → P (relabelled f a)) → (m : HeaderMemory) (x : HeaderStep) (q : Knowledge) (a : HeaderHolds) → P a → P (headers_keyed m x q a)
keyed P any m (claim_header h old) q a p = p
keyed P any m (store_place h x) q a p = p
keyed P any m (store_stamp h x) q a p = p
keyed P any m (change_place h x) q a p = p
keyed P any m (open_header h) q a p = p
keyed P any m (pin_header h g) q a p = p
keyed P any m (unpin_header h) q a p = p
keyed P any m (release_header h t) q a p = p
keyed P any m (lock_header h old) q a p = let key : List ℕ = key_or (key_known h (generation_of old) q) in test-cases (m.pin h == old) (λ t. P (record a { held = cond t (keyed_at h key a.held) a.held }))
    (λ _. any (λ (r : HeldHeader). record r { key = cond (r.header == h) key r.key }) (record { header = λ r. refl; generation = λ r. refl; held_as = λ r. refl; place = λ r. refl; stamp = λ r. refl; words = λ r. refl }) a p) (λ _. p)
keyed P any m (unlock_header h kind) q a p = p
keyed P any m (mark_dead h) q a p = p
keyed P any m (take_back h x) q a p = p

module _ (m : HeaderMemory) (x : HeaderStep) (q : Knowledge) (b : HeaderHolds) where
  pub keyed_pins : (knows : ℕ → ℕ → ℕ) → PinsWhatItKnows knows b → PinsWhatItKnows knows (headers_keyed m x q b)
  keyed_pins knows = keyed (PinsWhatItKnows knows) (λ f same. relabelled_pins f same knows) m x q b

  pub keyed_whole : HeadersAreWhole b → HeadersAreWhole (headers_keyed m x q b)
  keyed_whole = keyed HeadersAreWhole (λ f same. relabelled_whole f same) m x q b

  -- the points on headers, where the pass of the seat holds the headers
  pub keyed_stand : (n : HeaderMemory) (content : ℕ → List ℕ) (IsPlace : ℕ → Type 0) (known : ℕ → ℕ → ℕ) (hs : List HeaderHolds) (seat : ℕ) (a : HeaderHolds) → get_elem? hs seat ≡ some a → HeadersStand n content IsPlace known (set hs seat b) → HeadersStand n content IsPlace known (set hs seat (headers_keyed m x q b))
  keyed_stand n content IsPlace known hs seat a there = keyed (λ (c : HeaderHolds). HeadersStand n content IsPlace known (set hs seat c)) (λ f same c p. subst (HeadersStand n content IsPlace known) (set_twice hs seat c (relabelled f c))
      (relabelled_stand f same n content IsPlace known (set hs seat c) p seat c (set_there hs seat a c there))) m x q b
    where
      set_twice : (l : List HeaderHolds) (i : ℕ) (c d : HeaderHolds) → set (set l i c) i d ≡ set l i d
      set_twice [] i c d = refl
      set_twice (y ∷ ys) zero c d = refl
      set_twice (y ∷ ys) (suc i) c d = λ j. y ∷ set_twice ys i c d j

  -- the owners of blocks, and the numbers kept
  pub keyed_kept : (z : Sizes) (s : TableState) (seat : ℕ) (v : PassState) (r : Rule z s) (here : get_elem? s.states seat ≡ some v) (p : HeaderSpot) (y : ℕ) (a : HeldBlocks) → OwnedAndKept z s seat v r here p y a b → OwnedAndKept z s seat v r here p y a (headers_keyed m x q b)
  keyed_kept z s seat v r here p y a = keyed (OwnedAndKept z s seat v r here p y a) (λ f same c k. record {
    owned = k.owned;
    kept = subst (λ (ws : List (KeptWord Spot)). KeptNumbersStand same_spot (read (write (memory z s.words) (in_headers p) y)) (set (map kept_of s.states) seat ws)) (sym (relabelled_kept f same a c)) k.kept;
  }) m x q b
