-- The steps that a call makes that adds an entry under its pin, one behind another.
use Rattle.std.proofs.Common.{◌≡◌, ℕ, ◌<◌, List, [], ◌∷◌, sym, ap, ◌∙◌, subst, inl, ⊎_elim, Option, Some, None}
use mathlib.Core.Logic.{dite}
use native.Mathlib.Decide.{ℕ_discrete}
use Rattle.oak_model.specs.declared.classes.Class.{Class}
use Rattle.oak_model.specs.Class.{class_number}
use Rattle.oak_model.specs.Limits.{Sizes}
use Rattle.oak_model.proofs.Lists.{at_map}
use Rattle.arena_core.specs.Place.{block_in, class_in, content}
use Rattle.chunk_core.specs.declared.holds.Claim.{Claim}
use Rattle.chunk_core.specs.declared.holds.RoomHolds.{RoomHolds}
use Rattle.chunk_core.specs.MayOnRooms.{HasClaim}
use Rattle.chunk_core.specs.RoomCopies.{claim_after}
use Rattle.chunk_core.specs.RoomStep.{claim_entry, link_entry, of_key, of_next, of_value, own_entry}
use Rattle.link_search.specs.Met.{Met, met_count, met_link, met_key, tried_count, tried_link, stored_value, stored_link, stored_key, gave_up}
use Rattle.oak_core.specs.declared.states.PassState.{PassState}
use Rattle.oak_core.specs.CallSteps.{Stands}
use Rattle.oak_core.specs.Memory.{Memory, memory}
use Rattle.oak_core.specs.PassState.{rooms_held}
use Rattle.oak_core.specs.QuietSteps.{MetOnly, TookNone}
use Rattle.oak_core.specs.RoomCalls.{ClaimsEntry, LinksEntry}
use Rattle.oak_core.specs.Step.{blocks_owned, on_rooms, Told}
use Rattle.oak_core.proofs.calls.CallSteps.{stands_learns}
use Rattle.oak_core.proofs.calls.QuietCalls.{quiet_took}
use Rattle.oak_core.proofs.covers.ClaimedEntries.{claimed_key}
use Rattle.arena_ops.specs.Storing.{given}
use Rattle.chunk_ops.specs.LinkedTable.{DoesEach, DoesMet}
use Rattle.chunk_ops.specs.PinRecords.{HasRoomPin, room_pin}
use Rattle.chunk_ops.proofs.ClaimSteps.{claim_blocks, claim_headers, claim_lost, claim_stands, key_blocks, link_blocks, link_headers, link_lost, link_stands, next_blocks, own_headers, own_rooms, own_stands, value_blocks, with_claim}
use Rattle.chunk_ops.proofs.KeyClaims.{claimed_first}
use Rattle.chunk_ops.proofs.LinkedKeys.{link_frees, link_pin, link_pinned, link_rooms, link_stays}
use Rattle.chunk_ops.proofs.PinLoads.{LoadsUnder, met_under}
use Rattle.chunk_ops.proofs.StepKinds.{took_none}
use Rattle.chunk_ops.proofs.Traces.{Traces, claim_traces, traces_both, traces_none}
use Rattle.chunk_ops.proofs.PlacedClaims.{ClaimsPlace, after_drop, after_key, after_next, after_value, block_back, block_gone, none_back}

module _ (z : Sizes) (call r base place : ℕ) (c : Class) (b : ℕ) (class : class_in place ≡ class_number c) (block : block_in place ≡ b) (some_place : 0 < place) where
  -- with what is claimed then
  pub record Goes (v w : PassState) : Type 0 where
    pub traces : Traces z call r c b v w
    pub claims : ClaimsPlace place w.rooms.claim

  goes : (v w : PassState) (o : Option Claim) → w.rooms ≡ with_claim o v.rooms → ClaimsPlace place o → Traces z call r c b v w → Goes v w
  goes v w o e h t = record { traces = t; claims = subst (ClaimsPlace place) (sym (ap (λ (a : RoomHolds). a.claim) e)) h }

  claim_goes : (old n : ℕ) (v w : PassState) → HasRoomPin z r v → ClaimsPlace place v.rooms.claim → ClaimsEntry z call r old v n w → Goes v w
  claim_goes old n v w p h t = dite (ℕ_discrete n old)
      (λ e. let f = claimed_first z call r old v n w p t e in goes v w (Some f.claim) f.rooms (inl f.entry) (kept (Some f.claim) f.rooms))
      (λ ne. goes v w v.rooms.claim (claim_lost z call r old v n w t ne) h (kept v.rooms.claim (claim_lost z call r old v n w t ne)))
    where
      kept : (o : Option Claim) → w.rooms ≡ with_claim o v.rooms → Traces z call r c b v w
      kept o e = claim_traces z call r c b v w o p e (claim_stands z call r old v n w t) (claim_headers z call r old v n w t) (ap (given c b) (claim_blocks z call r old v n w t)) (took_none z call (claim_entry r old) v n w t)

  link_goes : (from : Option ℕ) (i old n : ℕ) (v w : PassState) → HasRoomPin z r v → ClaimsPlace place v.rooms.claim → LinksEntry z call r from i old v n w → Goes v w
  link_goes from i old n v w p h t = dite (ℕ_discrete n old) made
      (λ ne. let e = link_lost z call r from i old v n w t ne in goes v w v.rooms.claim e h (claim_traces z call r c b v w v.rooms.claim p e stands headers blocks took))
    where
      stands : Stands call v w
      stands = link_stands z call r from i old v n w t

      headers : w.headers ≡ v.headers
      headers = link_headers z call r from i old v n w t

      blocks : given c b w.blocks ≡ given c b v.blocks
      blocks = ap (given c b) (link_blocks z call r from i old v n w t)

      took : MetOnly TookNone v w
      took = took_none z call (link_entry r from i old) v n w t

      made : n ≡ old → Goes v w
      made e = let rooms = link_rooms z call r from i old v n w p t e in record {
        traces = record {
          learns = stands_learns call v w stands;
          headers = headers;
          blocks = blocks;
          took = took;
          pin = link_pinned z call r from i old v n w p t e;
          stays = link_stays z call r from i old v n w p t e;
          rooms = rooms ∙ (λ j. record v.rooms { claim = sym (ap (λ (a : RoomHolds). a.claim) rooms) j; pin = (sym (ap (λ (a : RoomHolds). a.pin) rooms) ∙ link_pin z call r from i old v n w p t e) j });
        };
        claims = subst (ClaimsPlace place) (sym (link_frees z call r from i old v n w p t e)) tt;
      }

  -- the block of the claimed entry comes back, where it has one
  module _ (i : ℕ) (v : PassState) (n : ℕ) (w : PassState) (h : ClaimsPlace place v.rooms.claim) (t : Told z call (on_rooms (own_entry of_key r i 0)) v n w) where
    abbrev m : Memory
    m = memory z t.table.words

    abbrev claim : Claim
    claim = t.may.rooms.1

    abbrev has : HasClaim r i v.rooms t.may.rooms.0 t.may.rooms.1
    has = t.may.rooms.2

    word_there : m.rooms.key r i ≡ claim.entry.word
    word_there = (λ j. m.rooms.key (sym has.room j) (sym has.number j)) ∙ claimed_key z t.table t.rule t.seat v.rooms claim (at_map rooms_held t.table.states t.seat v t.here) has.is

    drop_blocks : given c b w.blocks ≡ given c b v.blocks
    drop_blocks = ap (given c b) (key_blocks z call r i 0 v n w t) ∙ ⊎_elim
        (λ (e : claim.entry.word ≡ 0). none_back place c b class block some_place v.blocks m (m.rooms.key r i) (word_there ∙ e))
        (λ (e : claim.entry.word ≡ place). ap (λ (y : ℕ). given c b (blocks_owned y 0 m v.blocks)) (word_there ∙ e) ∙ block_back place c b class block some_place v.blocks m)
        (subst (ClaimsPlace place) has.is h)

  load_goes : (v w : PassState) → ClaimsPlace place v.rooms.claim → LoadsUnder z call r v w → Goes v w
  load_goes v w h l = let k = l.under.pin in let e = ap (λ (a : RoomHolds). a.claim) k.rooms in record {
    traces = record {
      learns = l.under.learns;
      headers = l.under.headers;
      blocks = ap (given c b) l.under.blocks;
      took = quiet_took v w l.quiet;
      pin = k.has;
      stays = k.stays;
      rooms = k.rooms ∙ ap (λ (o : Option Claim). record v.rooms { claim = o; pin = Some (room_pin w) }) (sym e);
    };
    claims = subst (ClaimsPlace place) (sym e) h;
  }

  pub met_goes : (m : Met) (v w : PassState) → HasRoomPin z r v → ClaimsPlace place v.rooms.claim → DoesMet z call r base place m v w → Goes v w
  met_goes (met_count n) v w p h d = load_goes v w h (met_under z call r base place (met_count n) v w p tt d)
  met_goes (met_link from n) v w p h d = load_goes v w h (met_under z call r base place (met_link from n) v w p tt d)
  met_goes (met_key i) v w p h d = load_goes v w h (met_under z call r base place (met_key i) v w p tt d)
  met_goes (tried_count old n) v w p h d = claim_goes old n v w p h d
  met_goes (tried_link from i old n) v w p h d = link_goes from i old n v w p h d
  met_goes (stored_value i) v w p h d = let e = own_rooms z call of_value r i base v d.0 w d.1 in let o = claim_after (content (memory z d.1.table.words).arena.bytes) of_value base v.rooms.claim in
      goes v w o e (after_value place (content (memory z d.1.table.words).arena.bytes) base v.rooms.claim h) (claim_traces z call r c b v w o p e (own_stands z call of_value r i base v d.0 w d.1) (own_headers z call of_value r i base v d.0 w d.1) (ap (given c b) (value_blocks z call r i base v d.0 w d.1)) (took_none z call (own_entry of_value r i base) v d.0 w d.1))
  met_goes (stored_link i x) v w p h d = let e = own_rooms z call of_next r i x v d.0 w d.1 in let o = claim_after (content (memory z d.1.table.words).arena.bytes) of_next x v.rooms.claim in
      goes v w o e (after_next place (content (memory z d.1.table.words).arena.bytes) x v.rooms.claim h) (claim_traces z call r c b v w o p e (own_stands z call of_next r i x v d.0 w d.1) (own_headers z call of_next r i x v d.0 w d.1) (ap (given c b) (next_blocks z call r i x v d.0 w d.1)) (took_none z call (own_entry of_next r i x) v d.0 w d.1))
  met_goes (stored_key i) v w p h d = let e = own_rooms z call of_key r i place v d.0 w d.1 in let o = claim_after (content (memory z d.1.table.words).arena.bytes) of_key place v.rooms.claim in
      goes v w o e (after_key place (content (memory z d.1.table.words).arena.bytes) v.rooms.claim) (claim_traces z call r c b v w o p e (own_stands z call of_key r i place v d.0 w d.1) (own_headers z call of_key r i place v d.0 w d.1)
      (ap (given c b) (key_blocks z call r i place v d.0 w d.1) ∙ block_gone place c b class block some_place v.blocks ((memory z d.1.table.words).rooms.key r i) (memory z d.1.table.words)) (took_none z call (own_entry of_key r i place) v d.0 w d.1))
  met_goes (gave_up i) v w p h d = let e = own_rooms z call of_key r i 0 v d.0 w d.1 in let o = claim_after (content (memory z d.1.table.words).arena.bytes) of_key 0 v.rooms.claim in
      goes v w o e (after_drop place (content (memory z d.1.table.words).arena.bytes) v.rooms.claim) (claim_traces z call r c b v w o p e (own_stands z call of_key r i 0 v d.0 w d.1) (own_headers z call of_key r i 0 v d.0 w d.1) (drop_blocks i v d.0 w h d.1) (took_none z call (own_entry of_key r i 0) v d.0 w d.1))

  each_traces : (ms : List Met) (v w : PassState) → HasRoomPin z r v → ClaimsPlace place v.rooms.claim → DoesEach z call r base place ms v w → Traces z call r c b v w
  each_traces [] v w p h e = subst (Traces z call r c b v) (sym e) (traces_none z call r c b v p)
  each_traces (m ∷ ms) v w p h d = let g = met_goes m v d.0 p h d.1 in traces_both z call r c b v d.0 w g.traces (each_traces ms d.0 w g.traces.pin g.claims d.2)

  -- from a state with no claim
  pub traced : (ms : List Met) (v w : PassState) → HasRoomPin z r v → v.rooms.claim ≡ None → DoesEach z call r base place ms v w → Traces z call r c b v w
  traced ms v w p none d = each_traces ms v w p (subst (ClaimsPlace place) (sym none) tt) d
