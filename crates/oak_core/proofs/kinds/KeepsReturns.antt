-- What stands of keys, their histories and what the pass knows once it has taken a buried header back that no entry names.
use Rattle.std.proofs.Common.{◌≡◌, ℕ, ◌+◌, ◌%◌, ◌^◌, ◌<◌, false, map, sym, refl, ap, ◌∙◌, subst, arith}
use mathlib.Core.Option.{some}
use lib.ListN.{get_elem?}
use Rattle.oak_model.specs.Counts.{Has}
use Rattle.oak_model.specs.Limits.{Sizes}
use Rattle.arena_core.specs.declared.blocks.HeldBlocks.{HeldBlocks}
use Rattle.header_core.specs.HeaderHolds.{in_state, generation_held, without_header}
use Rattle.header_core.specs.HeaderStep.{take_back, renewal}
use Rattle.header_core.specs.Headers.{at_pin}
use Rattle.header_core.specs.declared.holds.HeldAs.TheVariants.{Buried}
use Rattle.header_core.specs.declared.holds.HeldHeader.{HeldHeader}
use Rattle.header_core.specs.declared.states.TheConstants.{DEAD}
use Rattle.oak_core.specs.declared.states.Findings.{Findings}
use Rattle.oak_core.specs.declared.states.PassState.{PassState}
use Rattle.oak_core.specs.Callers.{removes}
use Rattle.oak_core.specs.MayWrite.{IsUnnamed}
use Rattle.oak_core.specs.Memory.{Memory, in_headers, memory, write}
use Rattle.oak_core.specs.PassState.{headers_held, knowledge_of}
use Rattle.oak_core.specs.Rule.{Rule}
use Rattle.oak_core.specs.Step.{MayOnHeaders}
use Rattle.oak_core.specs.TableState.{TableState}
use Rattle.oak_core.proofs.histories.CallersKept.{made_same}
use Rattle.oak_core.proofs.held.HeaderStanding.{small_pin, at_headers}
use Rattle.oak_core.proofs.held.HeldTruths.{held_generation}
use Rattle.oak_core.proofs.kinds.KeepsLocks.{low_header}
use Rattle.oak_core.proofs.keyed.KeyBundles.{keys_now, bundles_opened, rooms_still}
use Rattle.oak_core.proofs.keyed.KeysAfter.{KeysAfter, after_idle}
use Rattle.oak_core.proofs.lessons.LessonRanges.{history_left, covers_left}
use Rattle.oak_core.proofs.held.LocksHeader.{keys_returned}
use Rattle.oak_core.proofs.owners.OwnedAndKept.{state_is}
use Rattle.oak_core.proofs.owners.OwnedUnderLocks.{renews, renewed_end}
use Rattle.oak_core.proofs.covers.SetsValue.{held_row}

module _ (z : Sizes) (s : TableState) (seat : ℕ) (v : PassState) (r : Rule z s) (here : get_elem? s.states seat ≡ some v) (fs : Findings) (blocks : HeldBlocks) (x : ℕ) where
  abbrev m : Memory
  m = memory z s.words

  abbrev Left : ℕ → Type 0
  Left h = KeysAfter z s seat v r here (write m (in_headers (at_pin h)) ((m.headers.pin h + x) % 2 ^ 64)) (record v { findings = fs; blocks = blocks; headers = record v.headers { held = without_header h v.headers.held } })

  own_after : (own : HeldHeader) → Has own v.headers.held → own.held_as ≡ Buried → own.named ≡ false → own.header < z.headers → 0 < in_state own.header DEAD v.headers → x ≡ renewal (generation_held own.header v.headers.held) → Left own.header
  own_after own has buried flag inside some_of is = let y : ℕ = (m.headers.pin own.header + x) % 2 ^ 64 in let w : PassState = record v { findings = fs; blocks = blocks; headers = record v.headers { held = without_header own.header v.headers.held } } in
      let m' : Memory = write m (in_headers (at_pin own.header)) y in let stay = rooms_still z m s.states seat v w here refl in let new = renews z s seat v r here own.header x some_of is in
      after_idle z s seat v r here m' w refl (bundles_opened z m m' s.states seat v w here (keys_now z s r) stay refl refl (history_left z m m' s.states seat v w here r.heard refl)
      (record { generation = r.opened.generation; early = r.opened.early; until = λ none. absurd ((r.opened.until (let t = made_same s.states seat v w here refl refl removes in omega arith) own.header inside).0 (state_is z s seat v r here own.header DEAD (omega arith) (omega arith) some_of)) })
      (keys_returned z m s.states r.covers r.keys r.callers r.histories r.headers r.heard r.bounds seat v here fs own has buried flag (low_header z r.sizes own.header inside) (small_pin z s seat v r here own.header) y
      (new.1 ∙ ap (λ (g : ℕ). g + 1) (held_generation m (map knowledge_of s.states) (map headers_held s.states) r.headers seat v.headers (at_headers z s seat v r here) own has)) (renewed_end (m.headers.pin own.header) y new) w refl refl refl)
      (covers_left z m m' s.states seat v w here r.heard refl refl refl stay))

  pub back_after : (h : ℕ) → MayOnHeaders z (take_back h x) v → IsUnnamed h v.headers → Left h
  back_after h may e = let t = held_row h v.headers.held e.header e.held in subst Left t.1 (own_after e.header t.0 e.buried e.unnamed (subst (λ (j : ℕ). j < z.headers) (sym t.1) may.inside) (subst (λ (j : ℕ). 0 < in_state j DEAD v.headers) (sym t.1) may.headers.0)
      (subst (λ (j : ℕ). x ≡ renewal (generation_held j v.headers.held)) (sym t.1) may.headers.1))
