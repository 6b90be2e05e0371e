-- What a call leaves that adds an entry of a key, behind the load of the room's base.
use Rattle.std.proofs.Common.{◌≡◌, ℕ, List, [], ◌∷◌, sym, refl, ap, ◌∙◌, subst, None}
use Rattle.oak_model.specs.declared.classes.Class.{Class}
use Rattle.oak_model.specs.Limits.{Sizes}
use Rattle.oak_model.proofs.Lists.{each_map}
use Rattle.arena_core.specs.Place.{block_in, class_from, class_in}
use Rattle.arena_ops.specs.Storing.{given}
use Rattle.arena_ops.specs.Taking.{Gives}
use Rattle.chunk_core.specs.declared.holds.RoomHolds.{RoomHolds}
use Rattle.chunk_core.specs.MayOnRooms.{FindsEntry}
use Rattle.link_search.specs.Adds.{LinksLast}
use Rattle.link_search.specs.Finds as search
use Rattle.link_search.specs.Met.{Met, tried_link}
use Rattle.oak_core.specs.declared.states.Finding.{Finding}
use Rattle.oak_core.specs.declared.states.PassState.{PassState}
use Rattle.oak_core.specs.CallSteps.{Learns, Stands}
use Rattle.oak_core.specs.Finding.{IsOf}
use Rattle.oak_core.specs.Passes.{state, key as sizes, call_of}
use Rattle.oak_core.specs.QuietSteps.{MetOnly, TookNone}
use Rattle.oak_core.proofs.calls.CallSteps.{learns_both, stands_learns}
use Rattle.oak_core.proofs.calls.QuietCalls.{of_took, only_both, quiet_took}
use Rattle.chunk_ops.specs.declared.pinned_table.PinnedTable.{PinnedTable}
use Rattle.chunk_ops.specs.Adds.{AddsEntry, KeepsBlock}
use Rattle.chunk_ops.specs.LinkedTable.{FreesClaim, HoldsIn, HoldsKey, MeetsInTable}
use Rattle.chunk_ops.specs.PinRecords.{HasEntry, HasRoomPin, KeepsPin, OnlyMeets, PinKept, pin_or}
use Rattle.chunk_ops.specs.RoomLoads.{IsSameTable, view_of}
use Rattle.chunk_ops.specs.TableLaws.{does_since}
use Rattle.chunk_ops.proofs.FoundEntries.{pin_still}
use Rattle.chunk_ops.proofs.KeyClaims.{some_place}
use Rattle.chunk_ops.proofs.KeysFound.{entry_found}
use Rattle.chunk_ops.proofs.LentBlocks.{linked_lends}
use Rattle.chunk_ops.proofs.Traces.{Traces, traced_keeps}
use Rattle.chunk_ops.proofs.TracedSteps.{traced}

-- giving a block back took none
pub took_back : (z : Sizes) (call : ℕ) (c : Class) (b : ℕ) (t x y : PassState) → MetOnly TookNone t x → Gives z call c b x y → MetOnly TookNone t y
took_back z call c b t x y m g = only_both TookNone t x y m (of_took z call x y g.more (ap (λ (q : PassState). q.findings.met) g.after) g.calls)

-- an entry was found, and the block given back
pub given_back : (z : Sizes) (call r i : ℕ) (c : Class) (b : ℕ) (k : List ℕ) (t x y : PassState) → KeepsBlock z call r c b k t x → HasEntry r i k x → Gives z call c b x y → AddsEntry z call r i c b k t y
given_back z call r i c b k t x y u h g = let rooms : y.rooms ≡ x.rooms = ap (λ (q : PassState). q.rooms) g.after in record {
  learns = learns_both call t x y u.learns (stands_learns call x y (subst (Stands call x) (sym g.after) (record { met = record { more = g.more; met = refl; calls = each_map (IsOf z call) (λ (f : Finding). f.call ≡ call) g.more (λ f e. e.0) g.calls }; numbers = refl; knowledge = refl; fulls = refl; swept = refl; sights = refl; gones = refl; rebalances = refl })));
  headers = ap (λ (q : PassState). q.headers) g.after ∙ u.headers;
  blocks = ap (λ (q : PassState). q.blocks) g.after ∙ u.blocks;
  pin = subst (λ (a : RoomHolds). PinKept z r t.rooms a) (sym rooms) u.pin;
  entry = record { entry = h.entry; finds = subst (λ (a : RoomHolds). FindsEntry r i a (pin_or a.pin) h.entry) (sym rooms) h.finds; key_is = h.key_is };
}

-- what is held by the later one, of the same pin, base and block
holds_as : (s t : PinnedTable) (k : List ℕ) → IsSameTable s t → HoldsKey t k → HoldsIn (sizes s.table.now) s.base s.place k (state t.pass.now)
holds_as s t k e h = subst (λ (n : ℕ). HoldsIn (sizes s.table.now) s.base n k (state t.pass.now)) e.place (subst (λ (n : ℕ). HoldsIn (sizes s.table.now) n t.place k (state t.pass.now)) e.base (subst (λ x. HoldsIn (sizes x.now) t.base t.place k (state t.pass.now)) e.table h))

-- the block that the place names
module _ (s : PinnedTable) where
  abbrev pub class_at : Class
  class_at = class_from (class_in s.place)

  abbrev pub block_at : ℕ
  block_at = block_in s.place

-- u is the state of the pass before that load
module _ (s t : PinnedTable) (k : List ℕ) (u : PassState) (o : OnlyMeets (call_of s.pass.now) u (state s.pass.now)) (p : HasRoomPin (sizes s.table.now) s.room u) (holds : HoldsKey s k) (ms : List Met) (whole : MeetsInTable s t ms) where
  abbrev z : Sizes
  z = sizes s.table.now

  abbrev call : ℕ
  call = call_of s.pass.now

  abbrev v : PassState
  v = state s.pass.now

  abbrev w : PassState
  w = state t.pass.now

  has : HasRoomPin z s.room v
  has = pin_still z call s.room u v o p

  trace : Traces z call s.room (class_at s) (block_at s) v w
  trace = traced z call s.room s.base s.place (class_at s) (block_at s) holds.names.class refl (some_place z s.place k holds.names) ms v w has holds.none whole.does

  pub trace_took : MetOnly TookNone u (state t.pass.now)
  trace_took = only_both TookNone u v w (quiet_took u v o.quiet) trace.took

  trace_learns : Learns call u w
  trace_learns = learns_both call u v w (stands_learns call u v o.stands) trace.learns

  trace_blocks : given (class_at s) (block_at s) w.blocks ≡ given (class_at s) (block_at s) u.blocks
  trace_blocks = trace.blocks ∙ ap (given (class_at s) (block_at s)) o.blocks

  trace_pin : w.rooms.claim ≡ None → KeepsPin z s.room u w
  trace_pin none = subst (λ (a : RoomHolds). PinKept z s.room a w.rooms) o.rooms (traced_keeps z call s.room (class_at s) (block_at s) v w trace holds.none none)

  pub pin_at_end : HasRoomPin (sizes s.table.now) s.room (state t.pass.now)
  pin_at_end = trace.pin

  pub entry_at_end : (i : ℕ) → search.IsEntryOf (view_of t) k i → HasEntry s.room i k (state t.pass.now)
  entry_at_end i h = entry_found z s.room i k w trace.pin h

  pub keeps_block : HoldsKey t k → KeepsBlock (sizes s.table.now) (call_of s.pass.now) s.room (class_at s) (block_at s) k u (state t.pass.now)
  keeps_block h = let e = holds_as s t k whole.same h in record { learns = trace_learns; has = e.may.block; blocks = trace_blocks; headers = trace.headers ∙ o.headers; pin = trace_pin e.none }

  pub adds_entry : (i : ℕ) → search.IsEntryOf (view_of t) k i → FreesClaim t → LinksLast MeetsInTable i s t → AddsEntry (sizes s.table.now) (call_of s.pass.now) s.room i (class_at s) (block_at s) k u (state t.pass.now)
  adds_entry i h free last = let d = does_since s last.moment t last.before (tried_link last.from i last.old last.old ∷ []) last.start last.on in
      let lent = linked_lends z call s.room s.base s.place (class_at s) (block_at s) holds.names.class refl (some_place z s.place k holds.names) last.before last.from i last.old v (state last.moment.pass.now) d.0 has holds.none last.start.does d.1 in record {
        learns = trace_learns;
        headers = trace.headers ∙ o.headers;
        blocks = sym (subst (λ (y : PassState). given (class_at s) (block_at s) y.blocks ≡ y.blocks) (sym d.2) lent) ∙ trace_blocks;
        pin = trace_pin free;
        entry = entry_at_end i h;
      }
