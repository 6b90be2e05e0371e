-- What an insertion of a pass that is alone leaves of the words: a value was made, the key has its entry, and the entry the value.
use Rattle.std.proofs.Common.{◌≡◌, ℕ, ◌+◌, ◌*◌, List, sym, refl, ap, ◌∙◌, subst, arith, inl, inr, ⊎_elim, Option, Some, None}
use Rattle.pin_word.specs.PinWord.{state_of, STATE}
use Rattle.oak_model.specs.declared.classes.Class.{Class}
use Rattle.oak_model.specs.Limits.{Sizes}
use Rattle.arena_core.specs.Arena.{at_bits, at_bytes}
use Rattle.chunk_core.specs.Rooms.{at_base, at_count, at_first, at_high, at_key, at_latch, at_low, at_next, at_room_pin, at_value}
use Rattle.header_core.specs.declared.states.TheConstants.{LIVE}
use Rattle.header_core.specs.Headers.{at_pin}
use Rattle.oak_core.specs.Memory.{Spot, IsInside, at_given, in_arena, in_headers, in_rooms, memory}
use Rattle.chunk_ops.specs.declared.entries.EntryNo.{EntryNo}
use Rattle.chunk_ops.specs.Contents.{Says}
use Rattle.chunk_ops.specs.declared.entries.Content.TheVariants.{Floor}
use Rattle.chunk_ops.specs.Setting.{SetsIn}
use Rattle.chunk_ops.proofs.KeptKeys.{number_other}
use Rattle.value_ops.proofs.ClaimFacts.{free_word}
use Rattle.point_ops.specs.LoneInserts.{GetsEntryIn, InsertedIn, IsClearIn, IsEntered, IsFreeIn, IsInserted, IsOfBlock, IsOfHeader, KeepsBut, KeysStay, MakesFreshIn}
use Rattle.point_ops.specs.LoneLives.{AwayIn}
use Rattle.point_ops.proofs.LoneKeys.{key_still, keys_both, keys_stay, missing_still}
use Rattle.point_ops.proofs.LoneReturns.{clear_was, free_was, header_spare}
use Rattle.point_ops.proofs.LoneWords.{but_as, but_both, but_same, but_set}

-- a header that was free, and was claimed and filled, is live
live_now : (n : ℕ) → state_of n ≡ 0 → state_of (n + 2 * STATE) ≡ LIVE
unfolding state_of
live_now n e = omega arith

module _ (z : Sizes) (r h : ℕ) (c : Class) (b : ℕ) (a m : List ℕ) (f : MakesFreshIn z r h c b a m) where
  abbrev mid : List ℕ
  mid = f.0

  -- no key of the room changed
  pub fresh_keys : KeysStay z r a m
  fresh_keys = keys_both z r a mid f.1.keys m (keys_stay z r (IsOfHeader h) mid m f.2.but (λ e. e) (λ e. e) (λ i e. e) (λ i e. e) (λ i once k e. e))

  pub fresh_clear : (d e : ℕ) → IsClearIn z d e m → IsClearIn z d e a
  fresh_clear d e s = clear_was z r c b a mid f.1 d e (header_spare z h mid m f.2 (in_arena (at_bytes d e 0)) s)

  pub fresh_free : IsFreeIn z h a
  fresh_free = free_was z r c b a mid f.1 h f.2.free

  -- the value word of an entry stays
  fresh_value : (i : ℕ) → (memory z m).rooms.value r i ≡ (memory z a).rooms.value r i
  fresh_value i = but_same z (IsOfHeader h) mid m f.2.but (in_rooms (at_value r i)) (λ e. e) ∙ but_same z (IsOfBlock c b) a mid f.1.but (in_rooms (at_value r i)) (λ e. e)

  -- so a key that was away is so still
  pub fresh_away : (entry : Option EntryNo) (floor : ℕ) (key : List ℕ) → AwayIn entry floor z r key a a → AwayIn entry floor z r key m m
  fresh_away None floor key w = (refl, missing_still z r a m fresh_keys key w.1)
  fresh_away (Some i) floor key w = ((refl, key_still z r a m fresh_keys i key w.0.1), subst (λ (n : ℕ). Says (Floor floor) n) (sym (fresh_value i.0)) w.1)

  abbrev I : Spot → Type 0
  I = IsInserted z r a

  block_inserted : (p : Spot) → IsOfBlock c b p → IsInserted z r a p
  block_inserted (in_arena (at_bits d j)) s = tt
  block_inserted (in_arena (at_bytes d e k)) s = subst (λ (q : ℕ × ℕ). IsClearIn z q.0 q.1 a) (λ i. (sym s.0 i, sym s.1 i)) f.1.clear
  block_inserted (in_headers q) s = absurd s
  block_inserted (in_rooms q) s = absurd s
  block_inserted at_given s = absurd s

  header_inserted : (p : Spot) → IsOfHeader h p → IsInserted z r a p
  header_inserted (in_headers q) e = subst (λ (j : ℕ). IsFreeIn z j a) (sym e) fresh_free
  header_inserted (in_arena q) e = absurd e
  header_inserted (in_rooms q) e = absurd e
  header_inserted at_given e = absurd e

  entry_inserted : (p : Spot) → IsEntered z r m p → IsInserted z r a p
  entry_inserted (in_arena (at_bits d j)) s = tt
  entry_inserted (in_arena (at_bytes d e k)) s = fresh_clear d e s
  entry_inserted (in_headers q) s = absurd s
  entry_inserted at_given s = absurd s
  entry_inserted (in_rooms (at_count j)) s = s
  entry_inserted (in_rooms (at_key j i)) s = s
  entry_inserted (in_rooms (at_value j i)) s = s
  entry_inserted (in_rooms (at_room_pin j)) s = absurd s
  entry_inserted (in_rooms (at_base j)) s = absurd s
  entry_inserted (in_rooms (at_latch j)) s = absurd s
  entry_inserted (in_rooms (at_first j)) s = s
  entry_inserted (in_rooms (at_low j i)) s = absurd s
  entry_inserted (in_rooms (at_high j i)) s = absurd s
  entry_inserted (in_rooms (at_next j i)) s = s

  fresh_but : KeepsBut z (IsInserted z r a) a m
  fresh_but = but_both z I a mid m (but_as z (IsOfBlock c b) I a mid block_inserted f.1.but) (but_as z (IsOfHeader h) I mid m header_inserted f.2.but)

  -- the entry comes to name the header
  module _ (i floor home : ℕ) (n d : List ℕ) (there : IsInside z (in_rooms (at_value r i))) (g : GetsEntryIn z r i floor m n) (s : SetsIn z r i floor home n d) where
    set_but : KeepsBut z (IsInserted z r a) n d
    set_but = subst (KeepsBut z I n) (sym s.1) (but_set z I n (in_rooms (at_value r i)) home there refl)

    pin_set : (k : ℕ) → (memory z d).headers.pin k ≡ (memory z m).headers.pin k
    pin_set k = ap (λ (ws : List ℕ). (memory z ws).headers.pin k) s.1 ∙ (number_other z n (in_rooms (at_value r i)) home there (in_headers (at_pin k)) refl ∙ but_same z (IsEntered z r m) m n g.but (in_headers (at_pin k)) (λ e. e))

    pin_mid : (k : ℕ) → (memory z mid).headers.pin k ≡ (memory z a).headers.pin k
    pin_mid k = but_same z (IsOfBlock c b) a mid f.1.but (in_headers (at_pin k)) (λ e. e)

    pub inserted : InsertedIn z r a d
    inserted = record {
      but = but_both z I a n d (but_both z I a m n fresh_but (but_as z (IsEntered z r m) I m n entry_inserted g.but)) set_but;
      pins = λ k. ⊎_elim (λ (e : k ≡ h). inr (subst (λ (j : ℕ). IsFreeIn z j a × (state_of ((memory z d).headers.pin j) ≡ LIVE)) (sym e)
          (fresh_free, ap state_of (pin_set h ∙ f.2.pin) ∙ live_now ((memory z mid).headers.pin h) (free_word ((memory z mid).headers.pin h) f.2.free).state)))
          (λ (same : (memory z m).headers.pin k ≡ (memory z mid).headers.pin k). inl (pin_set k ∙ (same ∙ pin_mid k))) (f.2.but.same (in_headers (at_pin k)));
    }
