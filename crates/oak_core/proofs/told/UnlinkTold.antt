-- What the step that unlinks a buried header from the entry of its key tells its pass: nothing, and the header is named no more.
use Rattle.std.proofs.Common.{◌≡◌, ℕ, ◌==◌, ◌&&◌, not, true, false, List, refl, ap, ◌∙◌, Option, eq-eqb}
use Rattle.oak_model.specs.KeyNumber.{key_number}
use Rattle.oak_model.specs.Limits.{Sizes}
use Rattle.header_core.specs.HeaderHolds.{held_state}
use Rattle.header_core.specs.declared.holds.HeldHeader.{HeldHeader}
use Rattle.header_core.specs.declared.states.TheConstants.{DEAD}
use Rattle.chunk_core.specs.KeyWords.{key_bytes}
use Rattle.chunk_core.specs.RoomStep.{unlink_entry}
use Rattle.oak_core.specs.declared.states.PassState.{PassState}
use Rattle.oak_core.specs.CallSteps.{Stands}
use Rattle.oak_core.specs.HeldRows.{BuriesLife}
use Rattle.oak_core.specs.KeyedHeaders.{unlinked}
use Rattle.oak_core.specs.LifeKeys.{key_or}
use Rattle.oak_core.specs.MadeWrites.{held_header}
use Rattle.oak_core.specs.Memory.{Memory, memory}
use Rattle.oak_core.specs.Step.{on_rooms, Told}
use Rattle.oak_core.proofs.calls.CallSteps.{step_met}
use Rattle.oak_core.proofs.covers.FoundEntries.{pinned_stands}
use Rattle.oak_core.proofs.held.HeldRowLaws.{row_mapped}

-- the buried header of the key is named no more
pub unlinked_life : (key : List ℕ) (h g stamp : ℕ) (v w : PassState) → BuriesLife key h g stamp true v → w.headers ≡ record v.headers { held = unlinked key v.headers.held } → BuriesLife key h g stamp false w
unlinked_life key h g stamp v w b e = record {
  header = record b.header { named = b.header.named && not ((key_number b.header.key == key_number key) && (held_state b.header.held_as == DEAD)) };
  held = ap (λ (a : _). held_header h a.held) e ∙ row_mapped (λ (r : HeldHeader). record r { named = r.named && not ((key_number r.key == key_number key) && (held_state r.held_as == DEAD)) }) (λ r. refl) h b.header v.headers.held b.held;
  buried = b.buried;
  generation = b.generation;
  key_is = b.key_is;
  stamp_is = b.stamp_is;
  named_is = (λ i. b.named_is i && not (eq-eqb (key_number b.header.key) (key_number key) b.key_is i && (held_state (b.buried i) == DEAD)));
}

module _ (z : Sizes) (call r i x : ℕ) (v : PassState) (n : ℕ) (w : PassState) (t : Told z call (on_rooms (unlink_entry r i x)) v n w) where
  abbrev m : Memory
  m = memory z t.table.words

  pub unlink_headers : w.headers ≡ record v.headers { held = unlinked (key_bytes t.may.unlink.entry.word t.may.unlink.entry.words) v.headers.held }
  unlink_headers = let may = t.may.unlink in ap (λ (y : PassState). y.headers) t.after
      ∙ ap (λ (o : Option (List ℕ)). record v.headers { held = unlinked (key_or o) v.headers.held }) (pinned_stands z m t.table.states t.rule.rooms t.rule.covers t.seat v t.here r i may.pinned may.entry may.finds)

  pub unlink_blocks : w.blocks ≡ v.blocks
  unlink_blocks = ap (λ (y : PassState). y.blocks) t.after

  pub unlink_rooms : w.rooms ≡ v.rooms
  unlink_rooms = ap (λ (y : PassState). y.rooms) t.after

  pub unlink_stands : Stands call v w
  unlink_stands = record {
    met = step_met z call (on_rooms (unlink_entry r i x)) v n w t;
    numbers = ap (λ (y : PassState). y.numbers) t.after;
    knowledge = ap (λ (y : PassState). y.knowledge) t.after;
    fulls = ap (λ (y : PassState). y.findings.fulls) t.after;
    rebalances = ap (λ (y : PassState). y.findings.rebalances) t.after;
    swept = ap (λ (y : PassState). y.findings.swept) t.after;
    sights = ap (λ (y : PassState). y.findings.sights) t.after;
    gones = ap (λ (y : PassState). y.findings.gones) t.after;
  }
