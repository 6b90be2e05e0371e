-- A header that a pass holds is one of the table's.
use Rattle.std.proofs.Common.{◌≡◌, ℕ, ◌^◌, ◌<◌, map, refl, arith}
use mathlib.Core.Option.{some}
use lib.ListN.{get_elem?}
use Rattle.pin_word.specs.PinWord.{state_of}
use Rattle.oak_model.specs.Counts.{Has}
use Rattle.oak_model.specs.Limits.{Sizes}
use Rattle.oak_model.proofs.Lists.{at_map}
use Rattle.arena_core.specs.Place.{IsPlace, content}
use Rattle.header_core.specs.declared.holds.HeldAs.{HeldAs}
use Rattle.header_core.specs.declared.holds.HeldAs.TheVariants.{Owned, Fresh, Locked, Buried}
use Rattle.header_core.specs.declared.holds.HeldHeader.{HeldHeader}
use Rattle.header_core.specs.declared.states.TheConstants.{LIVE}
use Rattle.header_core.specs.HeaderHolds.{held_state}
use Rattle.header_core.proofs.HeaderFacts.{fresh_is, held_is}
use Rattle.header_core.proofs.HeldHeaders.{rows_have}
use Rattle.oak_core.specs.declared.states.PassState.{PassState}
use Rattle.oak_core.specs.Known.{known}
use Rattle.oak_core.specs.Memory.{Memory, memory}
use Rattle.oak_core.specs.PassState.{headers_held, knowledge_of}
use Rattle.oak_core.specs.Rule.{Rule}
use Rattle.oak_core.specs.TableState.{TableState}
use Rattle.oak_core.proofs.owners.OwnerLaws.{used_inside}

module _ (z : Sizes) (s : TableState) (seat : ℕ) (v : PassState) (r : Rule z s) (here : get_elem? s.states seat ≡ some v) (t : HeldHeader) (has : Has t v.headers.held) where
  abbrev m : Memory
  m = memory z s.words

  -- it is in the state in which it is held
  pub held_so : state_of (m.headers.pin t.header) ≡ held_state t.held_as
  held_so = by t.held_as refl
    where
      by : (a : HeldAs) → held_state t.held_as ≡ held_state a → state_of (m.headers.pin t.header) ≡ held_state a
      by Owned e = held_is m.headers (content m.arena.bytes) IsPlace (known (map knowledge_of s.states)) (map headers_held s.states) r.headers seat v.headers t.header (held_state Owned) (at_map headers_held s.states seat v here) (omega arith) (omega arith) (rows_have t.header (held_state Owned) v.headers.held t has refl e)
      by Fresh e = fresh_is m.headers (content m.arena.bytes) IsPlace (known (map knowledge_of s.states)) (map headers_held s.states) r.headers seat v.headers t.header (at_map headers_held s.states seat v here) (rows_have t.header LIVE v.headers.held t has refl e)
      by (Locked at) e = held_is m.headers (content m.arena.bytes) IsPlace (known (map knowledge_of s.states)) (map headers_held s.states) r.headers seat v.headers t.header (held_state (Locked at)) (at_map headers_held s.states seat v here) (omega arith) (omega arith) (rows_have t.header (held_state (Locked at)) v.headers.held t has refl e)
      by Buried e = held_is m.headers (content m.arena.bytes) IsPlace (known (map knowledge_of s.states)) (map headers_held s.states) r.headers seat v.headers t.header (held_state Buried) (at_map headers_held s.states seat v here) (omega arith) (omega arith) (rows_have t.header (held_state Buried) v.headers.held t has refl e)

  pub held_inside : t.header < z.headers
  held_inside = used_inside z s.words t.header (let e = held_so in some_state t.held_as e)
    where
      some_state : (a : HeldAs) → state_of (m.headers.pin t.header) ≡ held_state a → 0 < state_of (m.headers.pin t.header)
      some_state Owned e = omega arith
      some_state Fresh e = omega arith
      some_state (Locked at) e = omega arith
      some_state Buried e = omega arith

  pub held_low : t.header < 2 ^ 31
  held_low = let l = held_inside in let g = r.sizes.headers_greatest in omega arith
