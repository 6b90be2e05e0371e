-- A load keeps the rule, by the bundles that speak of what its pass knows and has of rooms; one that teaches nothing keeps them all.
use Rattle.std.proofs.Common.{◌≡◌, ℕ, ◌+◌, ◌<◌, ◌≤◌, List, map, set, get_or, sym, refl, ap, subst, Some, Option, false, arith}
use mathlib.Core.Option.{some}
use lib.ListN.{get_elem?}
use lib.Seq.{set-get_or}
use Rattle.oak_model.specs.Counts.{Every}
use Rattle.oak_model.specs.Kept.{KeptNumbersStand}
use Rattle.oak_model.specs.Limits.{Sizes}
use Rattle.oak_model.proofs.Lists.{at_map, begins_self, map_set_same}
use Rattle.arena_core.specs.Blocks.{BlocksAreOwned}
use Rattle.oak_core.specs.declared.states.Knowledge.{Knowledge}
use Rattle.oak_core.specs.declared.states.PassState.{PassState}
use Rattle.oak_core.specs.declared.states.Taught.{Taught}
use Rattle.oak_core.specs.EntryOwners.{all_others}
use Rattle.oak_core.specs.Finding.{finding}
use Rattle.oak_core.specs.Known.{knows_life}
use Rattle.oak_core.specs.Learning.{reach_of, taught_by}
use Rattle.oak_core.specs.Lessons.{HeardStands}
use Rattle.oak_core.specs.Memory.{Memory, Spot, memory, read, same_spot, index, IsInside}
use Rattle.oak_core.specs.Owners.{HeadersAreHeld}
use Rattle.oak_core.specs.PassState.{blocks_of, headers_held, rooms_held, numbers_of, findings_of, knowledge_of, kept_of}
use Rattle.oak_core.specs.Rule.{AloneStands, ClaimHasKey, Rule, NumbersStand, HoldsKnown}
use Rattle.chunk_core.specs.declared.holds.Claim.{Claim}
use Rattle.oak_core.specs.Step.{load, state_after, table_after}
use Rattle.oak_core.specs.TableState.{TableState}
use Rattle.oak_core.proofs.seats.AloneLast.{alone_steps}
use Rattle.oak_core.proofs.kinds.Keeps.{findings_stay, joined_stays, spent_stays, passes_stay, blocks_stay, rooms_stay}
use Rattle.oak_core.proofs.keyed.KeyBundles.{CoversStay, keys_now, keys_idle, rooms_still}
use Rattle.oak_core.proofs.calls.Lacked.{fulls_more}
use Rattle.oak_core.proofs.covers.RoomBundles.{RoomBundles}
use Rattle.oak_core.proofs.known.PinsKnown.{pins_same}
use Rattle.oak_core.proofs.told.PlainLoads.{LoadTeachesNothing, claim_by_load}
use Rattle.oak_core.proofs.keyed.KeysAfter.{KeysAfter, after_idle, after_taught}
use Rattle.oak_core.proofs.keyed.KeysCounted.{keys_learned}
use Rattle.oak_core.proofs.lessons.TaughtStates.{history_taught}
use Rattle.oak_core.specs.KeyReads.{history_now}
use Rattle.oak_core.specs.KeyRule.{LoadedStand}
use Rattle.header_core.specs.declared.holds.HeaderHolds.{HeaderHolds}
use Rattle.header_core.specs.declared.holds.PinnedHeader.{PinnedHeader}
use Rattle.header_core.specs.HeaderHolds.{fresh_at}
use Rattle.header_core.proofs.HeaderLaws.{on_pin}

-- a pass that knows more has its pins on what it knows
holds_more : (a : HeaderHolds) (q q' : Knowledge) (o o' : Option Claim) → ((h g : ℕ) → knows_life h g q ≤ knows_life h g q') → o' ≡ o → HoldsKnown q a o → HoldsKnown q' a o'
holds_more a q q' o o' more same s = record {
  pin = on_pin (λ (p : PinnedHeader). 0 < fresh_at p.header p.wanted a + knows_life p.header p.wanted q) (λ (p : PinnedHeader). 0 < fresh_at p.header p.wanted a + knows_life p.header p.wanted q') a.pin (λ p _ l. let m = more p.header p.wanted in omega arith) s.pin;
  whole = s.whole;
  claim = subst ClaimHasKey (sym same) s.claim;
}

module _ (z : Sizes) (s : TableState) (call seat : ℕ) (v : PassState) (r : Rule z s) (here : get_elem? s.states seat ≡ some v) (going : v.numbers.spent ≡ false) where
  abbrev m : Memory
  m = memory z s.words

  -- the rule behind a load, from the bundles that speak of what its pass knows and has of rooms
  pub load_rule : (p : Spot) → IsInside z p → let w = state_after z call (load p) s v in KeysAfter z s seat v r here m w → BlocksAreOwned z m.arena.bits (all_others z m (map rooms_held (set s.states seat w))) (map blocks_of (set s.states seat w))
      → RoomBundles z m.rooms m.arena.bytes (map rooms_held (set s.states seat w)) → Rule z (table_after z call (load p) seat v s)
  load_rule p inside after blocks rooms = let n : ℕ = get_or s.words (index z p) 0 in let w : PassState = state_after z call (load p) s v in
      subst (λ (ws : List ℕ). Rule z record { words = ws; states = set s.states seat w }) (sym (set-get_or s.words (index z p) 0)) record {
        sizes = r.sizes;
        words = r.words;
        numbers = subst (NumbersStand z m.given) (sym (map_set_same numbers_of s.states seat v w here refl)) r.numbers;
        findings = findings_stay z s call seat v r here going p n w refl (fulls_more z v.findings w.findings (finding z call p (Some n) n s.words v) refl (begins_self v.findings.swept) refl (r.findings seat v.findings (at_map findings_of s.states seat v here)).noted) inside refl;
        joined = joined_stays z s call seat v r here going (load p);
        histories = after.histories;
        spent = spent_stays z s call seat v r here going (load p);
        blocks = blocks;
        headers = subst (λ (t : (ℕ → ℕ → ℕ) × List HeaderHolds). HeadersAreHeld m.headers m.arena.bytes t.0 t.1) (λ i. ((λ h g. sym (after.known_same h g) i), sym (map_set_same headers_held s.states seat v w here refl) i)) r.headers;
        rooms = rooms.rooms;
        covers = rooms.covers;
        keys = after.keys.keys;
        callers = after.keys.callers;
        bounds = after.keys.bounds;
        opened = after.keys.opened;
        heard = after.keys.heard;
        passes = passes_stay z s call seat v r here going w (holds_more v.headers v.knowledge w.knowledge v.rooms.claim w.rooms.claim after.more (claim_by_load m v p) (r.passes seat v here));
        alone = subst (λ (ws : List ℕ). Every (AloneStands ws) (set s.states seat w)) (set-get_or s.words (index z p) 0) (alone_steps z s r seat v here going call (load p));
        kept = subst (KeptNumbersStand same_spot (read m)) (sym (map_set_same kept_of s.states seat v w here refl)) r.kept;
        kept_in_rooms = rooms.kept;
      }

  -- from those alone that speak of what its pass knows, where it leaves what the pass has of rooms
  pub roomless_rule : (p : Spot) → IsInside z p → let w = state_after z call (load p) s v in w.rooms ≡ v.rooms → KeysAfter z s seat v r here m w → Rule z (table_after z call (load p) seat v s)
  roomless_rule p inside rooms after = let w : PassState = state_after z call (load p) s v in load_rule p inside after (blocks_stay z s call seat v r here going w refl rooms) (rooms_stay z s call seat v r here going w rooms)

  -- one that teaches nothing
  pub quiet_keeps : (p : Spot) → IsInside z p → LoadTeachesNothing call p m (map knowledge_of s.states) v → Rule z (table_after z call (load p) seat v s)
  quiet_keeps p inside t = let w : PassState = state_after z call (load p) s v in roomless_rule p inside t.rooms (after_idle z s seat v r here m w t.knowledge
      (keys_idle z m m s.states seat v w here (keys_now z s r) (rooms_still z m s.states seat v w here t.rooms) refl t.knowledge refl refl (λ h _. refl) (pins_same v w refl t.knowledge (r.heard.pins seat v here))))

  -- what one leaves that teaches x
  pub load_taught : (p : Spot) (x : Taught) → let w = state_after z call (load p) s v in w.knowledge ≡ taught_by x (map knowledge_of s.states) v.knowledge → CoversStay z m m s.states (set s.states seat w) → HeardStands z m (set s.states seat w) → KeysAfter z s seat v r here m w
  load_taught p x knowledge stay heard = let w : PassState = state_after z call (load p) s v in after_taught z s seat v r here m w x knowledge refl stay record { dead = λ h e. e; generations = λ h. refl }
      (keys_learned z m s.states r.keys seat v w here refl stay (history_taught (reach_of x) s.states r.histories (λ k. (r.keys.legal k).legal.stamps) seat v w here (ap (λ (q : Knowledge). q.seen) knowledge))
      (subst (LoadedStand (history_now s.states)) (sym knowledge) (r.keys.loaded seat v.knowledge (at_map knowledge_of s.states seat v here)))) heard
