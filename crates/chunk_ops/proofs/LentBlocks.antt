-- A pass that has claimed an entry with a key word holds the block no more that the key word names; nor does it where it has linked the entry.
use Rattle.std.proofs.Common.{◌≡◌, ℕ, ◌<◌, cond, Bool, List, [], ◌∷◌, sym, ap, ◌∙◌, subst, arith, nat_lt, ne_eqb, Option, Some, None}
use mathlib.Core.Logic.{dite}
use native.Mathlib.Decide.{ℕ_discrete}
use Rattle.oak_model.specs.declared.classes.Class.{Class}
use Rattle.oak_model.specs.Class.{class_number}
use Rattle.oak_model.specs.Limits.{Sizes}
use Rattle.arena_core.specs.declared.blocks.HeldBlock.{HeldBlock}
use Rattle.arena_core.specs.declared.blocks.HeldBlocks.{HeldBlocks}
use Rattle.arena_core.specs.Blocks.{block_from, without}
use Rattle.arena_core.specs.Place.{block_in, class_from, class_in, content}
use Rattle.chunk_core.specs.declared.holds.Claim.{Claim}
use Rattle.chunk_core.specs.declared.holds.RoomHolds.{RoomHolds}
use Rattle.chunk_core.specs.RoomCopies.{claim_after}
use Rattle.chunk_core.specs.RoomRule.{OnClaim}
use Rattle.chunk_core.specs.RoomStep.{of_key, of_next, of_value}
use Rattle.link_search.specs.Met.{Met, met_count, met_link, met_key, tried_count, tried_link, stored_value, stored_link, stored_key, gave_up}
use Rattle.oak_core.specs.declared.states.PassState.{PassState}
use Rattle.oak_core.specs.Memory.{Memory, memory}
use Rattle.oak_core.specs.RoomCalls.{ClaimsEntry, LinksEntry}
use Rattle.oak_core.specs.Step.{blocks_owned}
use Rattle.arena_ops.specs.Storing.{given}
use Rattle.chunk_ops.specs.LinkedTable.{DoesEach, DoesMet}
use Rattle.chunk_ops.specs.PinRecords.{HasRoomPin}
use Rattle.chunk_ops.proofs.ClaimSteps.{claim_blocks, claim_lost, key_blocks, link_blocks, link_lost, next_blocks, own_rooms, value_blocks}
use Rattle.chunk_ops.proofs.KeyClaims.{claimed_first}
use Rattle.chunk_ops.proofs.LinkedKeys.{link_frees}
use Rattle.chunk_ops.proofs.PinLoads.{LoadsUnder, met_under}
use Rattle.chunk_ops.proofs.PlacedClaims.{ClaimsPlace, without_twice}
use Rattle.chunk_ops.proofs.TracedSteps.{met_goes}

-- where what is claimed has a key word, the block is not held
abbrev LendsIn : Class → ℕ → Option Claim → HeldBlocks → Type 0
LendsIn c b o hs = OnClaim (λ k. 0 < k.entry.word → given c b hs ≡ hs) o

module _ (c : Class) (b : ℕ) where
  lends_any : (o : Option Claim) (hs : HeldBlocks) → given c b hs ≡ hs → LendsIn c b o hs
  lends_any None hs e = tt
  lends_any (Some k) hs e = λ _. e

  after_value : (bytes : ℕ → List ℕ) (x : ℕ) (o : Option Claim) (hs : HeldBlocks) → LendsIn c b o hs → LendsIn c b (claim_after bytes of_value x o) hs
  after_value bytes x None hs h = tt
  after_value bytes x (Some k) hs h = h

  after_next : (bytes : ℕ → List ℕ) (x : ℕ) (o : Option Claim) (hs : HeldBlocks) → LendsIn c b o hs → LendsIn c b (claim_after bytes of_next x o) hs
  after_next bytes x None hs h = tt
  after_next bytes x (Some k) hs h = h

  after_drop : (bytes : ℕ → List ℕ) (o : Option Claim) (hs : HeldBlocks) → LendsIn c b (claim_after bytes of_key 0 o) hs
  after_drop bytes None hs = tt
  after_drop bytes (Some k) hs = tt

module _ (z : Sizes) (call r base place : ℕ) (c : Class) (b : ℕ) (class : class_in place ≡ class_number c) (block : block_in place ≡ b) (some_place : 0 < place) where
  abbrev Lends : PassState → Type 0
  Lends v = LendsIn c b v.rooms.claim v.blocks

  lends_same : (v w : PassState) → w.rooms.claim ≡ v.rooms.claim → w.blocks ≡ v.blocks → Lends v → Lends w
  lends_same v w e f h = subst (λ (o : Option Claim). LendsIn c b o w.blocks) (sym e) (subst (LendsIn c b v.rooms.claim) (sym f) h)

  lends_as : (v w : PassState) (o : Option Claim) → w.rooms.claim ≡ o → w.blocks ≡ v.blocks → LendsIn c b o v.blocks → Lends w
  lends_as v w o e f h = subst (λ (q : Option Claim). LendsIn c b q w.blocks) (sym e) (subst (LendsIn c b o) (sym f) h)

  load_lends : (v w : PassState) → Lends v → LoadsUnder z call r v w → Lends w
  load_lends v w h l = lends_same v w (ap (λ (a : RoomHolds). a.claim) l.under.pin.rooms) l.under.blocks h

  claim_lends : (old n : ℕ) (v w : PassState) → HasRoomPin z r v → Lends v → ClaimsEntry z call r old v n w → Lends w
  claim_lends old n v w p h t = dite (ℕ_discrete n old)
      (λ e. let f = claimed_first z call r old v n w p t e in lends_as v w (Some f.claim) (ap (λ (a : RoomHolds). a.claim) f.rooms) (claim_blocks z call r old v n w t) (λ l. let u = f.entry in absurd (omega arith)))
      (λ ne. lends_same v w (ap (λ (a : RoomHolds). a.claim) (claim_lost z call r old v n w t ne)) (claim_blocks z call r old v n w t) h)

  link_lends : (from : Option ℕ) (i old n : ℕ) (v w : PassState) → HasRoomPin z r v → Lends v → LinksEntry z call r from i old v n w → Lends w
  link_lends from i old n v w p h t = dite (ℕ_discrete n old)
      (λ e. lends_as v w None (link_frees z call r from i old v n w p t e) (link_blocks z call r from i old v n w t) tt)
      (λ ne. lends_same v w (ap (λ (a : RoomHolds). a.claim) (link_lost z call r from i old v n w t ne)) (link_blocks z call r from i old v n w t) h)

  -- once it is given to the entry
  block_lent : (hs : HeldBlocks) (word : ℕ) (m : Memory) → given c b (blocks_owned word place m hs) ≡ blocks_owned word place m hs
  block_lent hs word m = subst (λ (x : HeldBlocks). given c b x ≡ x) (sym gone) (ap (λ (l : List HeldBlock). record hs { held = l }) (without_twice (class_number c) b hs.held))
    where
      gone : blocks_owned word place m hs ≡ given c b hs
      gone = ap (λ (t : Bool). record hs { held = cond t (cond (nat_lt 0 word) (block_from m.arena.bytes (class_from (class_in word)) (block_in word) ∷ hs.held) hs.held) (without (class_in place) (block_in place) hs.held) }) (ne_eqb place 0 (let s = some_place in omega arith)) ∙ (λ j. record hs { held = without (class j) (block j) hs.held })

  met_lends : (m : Met) (v w : PassState) → HasRoomPin z r v → Lends v → DoesMet z call r base place m v w → Lends w
  met_lends (met_count n) v w p h d = load_lends v w h (met_under z call r base place (met_count n) v w p tt d)
  met_lends (met_link from n) v w p h d = load_lends v w h (met_under z call r base place (met_link from n) v w p tt d)
  met_lends (met_key i) v w p h d = load_lends v w h (met_under z call r base place (met_key i) v w p tt d)
  met_lends (tried_count old n) v w p h d = claim_lends old n v w p h d
  met_lends (tried_link from i old n) v w p h d = link_lends from i old n v w p h d
  met_lends (stored_value i) v w p h d = let bytes = content (memory z d.1.table.words).arena.bytes in
      lends_as v w (claim_after bytes of_value base v.rooms.claim) (ap (λ (a : RoomHolds). a.claim) (own_rooms z call of_value r i base v d.0 w d.1)) (value_blocks z call r i base v d.0 w d.1) (after_value c b bytes base v.rooms.claim v.blocks h)
  met_lends (stored_link i x) v w p h d = let bytes = content (memory z d.1.table.words).arena.bytes in
      lends_as v w (claim_after bytes of_next x v.rooms.claim) (ap (λ (a : RoomHolds). a.claim) (own_rooms z call of_next r i x v d.0 w d.1)) (next_blocks z call r i x v d.0 w d.1) (after_next c b bytes x v.rooms.claim v.blocks h)
  met_lends (stored_key i) v w p h d = let m = memory z d.1.table.words in lends_any c b w.rooms.claim w.blocks (subst (λ (x : HeldBlocks). given c b x ≡ x) (sym (key_blocks z call r i place v d.0 w d.1)) (block_lent v.blocks (m.rooms.key r i) m))
  met_lends (gave_up i) v w p h d = let bytes = content (memory z d.1.table.words).arena.bytes in subst (λ (o : Option Claim). LendsIn c b o w.blocks) (sym (ap (λ (a : RoomHolds). a.claim) (own_rooms z call of_key r i 0 v d.0 w d.1))) (after_drop c b bytes v.rooms.claim w.blocks)

  each_lends : (ms : List Met) (v w : PassState) → HasRoomPin z r v → ClaimsPlace place v.rooms.claim → Lends v → DoesEach z call r base place ms v w → Lends w
  each_lends [] v w p g h d = subst Lends (sym d) h
  each_lends (m ∷ ms) v w p g h d = let n = met_goes z call r base place c b class block some_place m v d.0 p g d.1 in each_lends ms d.0 w n.traces.pin n.claims (met_lends m v d.0 p h d.1) d.2

  -- so the block is no more held where the entry was linked at last
  pub linked_lends : (ms : List Met) (from : Option ℕ) (i old : ℕ) (v u w : PassState) → HasRoomPin z r v → v.rooms.claim ≡ None → DoesEach z call r base place ms v u → LinksEntry z call r from i old u old w → given c b w.blocks ≡ w.blocks
  linked_lends ms from i old v u w p none d t = let h = each_lends ms v u p (subst (ClaimsPlace place) (sym none) tt) (subst (λ (o : Option Claim). LendsIn c b o v.blocks) (sym none) tt) d in let may = t.may.rooms in
      subst (λ (x : HeldBlocks). given c b x ≡ x) (sym (link_blocks z call r from i old u old w t)) (subst (λ (o : Option Claim). LendsIn c b o u.blocks) may.has.is h may.some_key)
