-- What the step that sets a fresh header as the value of an entry tells its pass: where it found the floor, that the key was absent and is written, and where another word, nothing.
use Rattle.std.proofs.Common.{◌≡◌, ◌≢◌, ℕ, ◌+◌, cond, Bool, List, map, set, sym, refl, ap, ◌∙◌, subst, Some, None, eq-eqb, ne_eqb}
use Rattle.oak_model.specs.declared.writes.Kind.{Kind}
use Rattle.oak_model.specs.KeyNumber.{key_number}
use Rattle.oak_model.specs.Limits.{Sizes}
use Rattle.oak_model.proofs.Lists.{set_there}
use Rattle.header_core.specs.HeaderHolds.{without_header}
use Rattle.chunk_core.specs.KeyWords.{key_bytes}
use Rattle.chunk_core.specs.RoomStep.{set_value}
use Rattle.chunk_core.specs.Rooms.{at_value}
use Rattle.chunk_core.specs.ValueWord.{header_in}
use Rattle.oak_core.specs.declared.states.Knowledge.{Knowledge}
use Rattle.oak_core.specs.declared.states.PassState.{PassState}
use Rattle.oak_core.specs.CallSteps.{Stands}
use Rattle.oak_core.specs.CallWrites.{Writes}
use Rattle.oak_core.specs.KeyHistories.{state_behind}
use Rattle.oak_core.specs.KeyReads.{history_now, value_in}
use Rattle.oak_core.specs.Learning.{wrote}
use Rattle.oak_core.specs.MadeWrites.{insertion}
use Rattle.oak_core.specs.MayWrite.{MaySet}
use Rattle.oak_core.specs.Memory.{Memory, in_rooms, memory}
use Rattle.oak_core.specs.PassState.{knowledge_of}
use Rattle.oak_core.specs.Rule.{Rule}
use Rattle.oak_core.specs.Step.{on_rooms, table_after, Told}
use Rattle.oak_core.proofs.calls.CallSteps.{step_met}
use Rattle.oak_core.proofs.kinds.EachEvent.{rule_keeps}
use Rattle.oak_core.proofs.covers.FoundEntries.{pinned_stands, value_stands}
use Rattle.oak_core.proofs.known.KnowledgeAfter.{set_knowledge, unset_knowledge}
use Rattle.oak_core.proofs.memory.Words.{memory_read}
use Rattle.oak_core.proofs.told.WriteTold.{writes_of_call}

module _ (z : Sizes) (call r i old new : ℕ) (kind : Kind) (v : PassState) (n : ℕ) (w : PassState) (t : Told z call (on_rooms (set_value r i old new kind)) v n w) where
  abbrev m : Memory
  m = memory z t.table.words

  abbrev qs : List Knowledge
  qs = map knowledge_of t.table.states

  abbrev may : MaySet call r i old new kind v
  may = t.may.set

  abbrev key : List ℕ
  key = key_bytes t.may.set.entry.word t.may.set.entry.words

  -- the number found is the value word
  pub set_found : (memory z t.table.words).rooms.value r i ≡ n
  set_found = memory_read z t.table.words (in_rooms (at_value r i)) t.may.inside ∙ t.finds

  -- whatever was found, it leaves blocks and rooms
  pub set_blocks : w.blocks ≡ v.blocks
  set_blocks = ap (λ (y : PassState). y.blocks) t.after

  pub set_rooms : w.rooms ≡ v.rooms
  set_rooms = ap (λ (y : PassState). y.rooms) t.after

  -- where another number than the floor was found, the pass only met that
  module _ (ne : n ≢ old) where
    pub unset_stands : Stands call v w
    unset_stands = record {
      met = step_met z call (on_rooms (set_value r i old new kind)) v n w t;
      numbers = ap (λ (y : PassState). y.numbers) t.after;
      knowledge = ap (λ (y : PassState). y.knowledge) t.after ∙ unset_knowledge call m qs v r i old new kind (λ e. ne (sym set_found ∙ e));
      fulls = ap (λ (y : PassState). y.findings.fulls) t.after;
      rebalances = ap (λ (y : PassState). y.findings.rebalances) t.after;
      swept = ap (λ (y : PassState). y.findings.swept) t.after;
      sights = ap (λ (y : PassState). y.findings.sights) t.after;
      gones = ap (λ (y : PassState). y.findings.gones) t.after;
    }

    pub unset_headers : w.headers ≡ v.headers
    unset_headers = ap (λ (y : PassState). y.headers) t.after ∙ ap (λ (b : Bool). record v.headers { held = cond b (without_header (header_in new) v.headers.held) v.headers.held }) (ne_eqb (m.rooms.value r i) old (λ e. ne (sym set_found ∙ e)))

  -- where the floor was found, it has the header no more, and wrote
  module _ (e : n ≡ old) where
    pub set_headers : w.headers ≡ record v.headers { held = without_header (header_in new) v.headers.held }
    set_headers = ap (λ (y : PassState). y.headers) t.after ∙ ap (λ (b : Bool). record v.headers { held = cond b (without_header (header_in new) v.headers.held) v.headers.held }) (eq-eqb (m.rooms.value r i) old (set_found ∙ e))

    knows : w.knowledge ≡ wrote (key_number key) (insertion v.numbers.number call kind (key_bytes t.may.set.entry.word t.may.set.entry.words) t.may.set.header) (map knowledge_of t.table.states) v.knowledge
    knows = ap (λ (y : PassState). y.knowledge) t.after
        ∙ set_knowledge call m qs v r i old new kind key may.header (set_found ∙ e) (pinned_stands z m t.table.states t.rule.rooms t.rule.covers t.seat v t.here r i may.pinned may.entry may.finds) may.held

    -- the key was absent
    absent : state_behind (history_now t.table.states (key_number key)) ≡ None
    absent = ((t.rule.keys.states (key_number key)).floor old (value_stands z m t.table.states t.rule.rooms t.rule.covers t.seat v t.here r i may.pinned may.entry may.finds ∙ ap (λ (k : ℕ). k + 1) (set_found ∙ e)) may.floor).0

    abbrev words : List ℕ
    words = (table_after z call (on_rooms (set_value r i old new kind)) t.seat v t.table).words

    behind : Rule z record { words = words; states = set t.table.states t.seat w }
    behind = subst (λ (y : PassState). Rule z record { words = words; states = set t.table.states t.seat y }) (sym t.after) (rule_keeps z t.table call t.seat v t.rule t.here t.going (on_rooms (set_value r i old new kind)) t.may)

    pub set_writes : (of bytes : List ℕ) (stamp : ℕ) → key_number of ≡ key_number (key_bytes t.may.set.entry.word t.may.set.entry.words) → value_in t.may.set.header.place t.may.set.header.words ≡ bytes → t.may.set.header.stamp ≡ stamp → Writes call of kind None (Some bytes) stamp v w
    set_writes of bytes stamp same value stamp_is = writes_of_call z t.table t.rule t.seat v t.here words w behind (set_there t.table.states t.seat v w t.here) (key_number key) (insertion v.numbers.number call kind key may.header) refl knows call
        (step_met z call (on_rooms (set_value r i old new kind)) v n w t) (ap (λ (y : PassState). y.numbers) t.after)
        (ap (λ (y : PassState). y.findings.fulls) t.after, ap (λ (y : PassState). y.findings.swept) t.after, ap (λ (y : PassState). y.findings.gones) t.after, ap (λ (y : PassState). y.findings.sights) t.after, ap (λ (y : PassState). y.findings.rebalances) t.after) refl refl of kind None (Some bytes) stamp same absent (ap Some value) stamp_is refl
