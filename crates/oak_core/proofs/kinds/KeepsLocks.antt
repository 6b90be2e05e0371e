-- What stands of keys, their histories and what the pass knows behind a lock, whether it found the word or another one.
use Rattle.std.proofs.Common.{◌≡◌, ℕ, ◌+◌, ◌^◌, ◌<◌, ◌==◌, cond, Bool, true, false, List, ◌∷◌, map, sym, refl, ap, ◌∙◌, subst, arith, Some, eq-eqb, ne_eqb}
use Rattle.std.specs.Prelude.{◌&&◌}
use prog.Atomic.{either}
use mathlib.Core.Logic.{dite}
use mathlib.Core.Option.{some}
use native.Mathlib.Decide.{ℕ_discrete}
use lib.ListN.{get_elem?}
use Rattle.pin_word.specs.PinWord.{state_of, generation_of, STATE}
use Rattle.pin_word.proofs.StepLaws.{state_set}
use Rattle.oak_model.specs.Limits.{Sizes, IsInLimits}
use Rattle.oak_model.proofs.PutLaws.{put-same}
use Rattle.arena_core.specs.Place.{content}
use Rattle.header_core.specs.HeaderStep.{lock_header, header_effect, headers_after, locked_at}
use Rattle.header_core.specs.Headers.{at_pin}
use Rattle.header_core.specs.declared.holds.HeldHeader.{HeldHeader}
use Rattle.header_core.specs.declared.states.TheConstants.{LIVE, LOCKED}
use Rattle.oak_core.specs.declared.states.Findings.{Findings}
use Rattle.oak_core.specs.declared.states.Knowledge.{Knowledge}
use Rattle.oak_core.specs.declared.states.PassState.{PassState}
use Rattle.oak_core.specs.HeaderTeaching.{knows_by_header, lock_taught}
use Rattle.oak_core.specs.KeyedHeaders.{keyed_at, headers_keyed}
use Rattle.oak_core.specs.Learning.{of_key_to, taught_where}
use Rattle.oak_core.specs.LifeKeys.{key_known, key_or, is_known}
use Rattle.oak_core.specs.Memory.{Memory, in_headers, memory, write}
use Rattle.oak_core.specs.PassState.{knowledge_of}
use Rattle.oak_core.specs.Rule.{Rule}
use Rattle.oak_core.specs.Step.{MayOnHeaders}
use Rattle.oak_core.specs.TableState.{TableState}
use Rattle.oak_core.proofs.held.HeaderStanding.{small_pin}
use Rattle.oak_core.proofs.keyed.KeyBundles.{keys_now, keys_framed, rooms_still}
use Rattle.oak_core.proofs.keyed.KeysAfter.{KeysAfter, after_idle, after_taught, pin_still}
use Rattle.oak_core.proofs.known.KnowledgeAfter.{lock_knowledge}
use Rattle.oak_core.proofs.known.KnownHeaders.{life_key}
use Rattle.oak_core.proofs.held.LocksHeader as locks
use Rattle.oak_core.proofs.known.PinsKnown.{pins_same}

-- headers are few
pub low_header : (z : Sizes) → IsInLimits z → (h : ℕ) → h < z.headers → h < 2 ^ 31
low_header z sizes h inside = let g = sizes.headers_greatest in omega arith

module _ (z : Sizes) (s : TableState) (seat : ℕ) (v : PassState) (r : Rule z s) (here : get_elem? s.states seat ≡ some v) (call : ℕ) (fs : Findings) where
  abbrev m : Memory
  m = memory z s.words

  abbrev qs : List Knowledge
  qs = map knowledge_of s.states

  -- a pin word is stored again as it was, and the pass learns nothing and holds what it held
  pub pin_again : (h : ℕ) → KeysAfter z s seat v r here (write m (in_headers (at_pin h)) (m.headers.pin h)) (record v { findings = fs })
  pin_again h = let w : PassState = record v { findings = fs } in let m' : Memory = write m (in_headers (at_pin h)) (m.headers.pin h) in
      after_idle z s seat v r here m' w refl (keys_framed z m m' s.states seat v w here (keys_now z s r) (rooms_still z m s.states seat v w here refl) refl refl (put-same m.headers.pin h (m.headers.pin h) (λ y. y) refl) (λ _ _. refl) (λ _ _. refl) (λ _. refl) (λ _. refl) (λ word hist p. p)
      (pins_same v w refl refl (r.heard.pins seat v here)))

  module _ (h old : ℕ) (may : MayOnHeaders z (lock_header h old) v) where
    -- where the pass knows q and holds rs, and the pin word is n
    abbrev Left : Knowledge → List HeldHeader → ℕ → Type 0
    Left q rs n = KeysAfter z s seat v r here (write m (in_headers (at_pin h)) n) (record v { findings = fs; knowledge = q; headers = record v.headers { held = rs } })

    -- what it holds, where the word is found or not, and knows the key
    abbrev held : Bool → List ℕ → List HeldHeader
    held t key = let rs : List HeldHeader = cond t (locked_at m.headers (content m.arena.bytes) h ∷ v.headers.held) v.headers.held in cond t (keyed_at h key rs) rs

    -- the word is found: the pass knows the key of the header
    hit : m.headers.pin h ≡ old → (key : List ℕ) → key_known h (generation_of old) v.knowledge ≡ Some key → Left (knows_by_header call (lock_header h old) m qs v) (held (m.headers.pin h == old) (key_or (key_known h (generation_of old) v.knowledge))) (header_effect (lock_header h old) (m.headers.pin h))
    hit e key is = let up = state_set old (let l = may.headers.state in omega arith) in
        found (ap state_of e ∙ may.headers.state) (let t = up.1 in let l = may.headers.state in omega arith) (up.2 ∙ ap generation_of (sym e)) (low_header z r.sizes h may.inside) (small_pin z s seat v r here h) (ap (λ (n : ℕ). key_known h (generation_of n) v.knowledge) e ∙ is)
      where
        found : state_of (m.headers.pin h) ≡ LIVE → state_of (old + STATE) ≡ LOCKED → generation_of (old + STATE) ≡ generation_of (m.headers.pin h) → h < 2 ^ 31 → m.headers.pin h < 2 ^ 64 → key_known h (generation_of (m.headers.pin h)) v.knowledge ≡ Some key
            → Left (knows_by_header call (lock_header h old) m qs v) (held (m.headers.pin h == old) (key_or (key_known h (generation_of old) v.knowledge))) (header_effect (lock_header h old) (m.headers.pin h))
        found live now generation low small knows = let w : PassState = locks.u_locked z m s.states r.covers r.keys r.callers r.histories r.headers r.heard r.bounds seat v here fs h (old + STATE) live now generation low small key knows in
            let one = locks.held_keyed z m s.states r.covers r.keys r.callers r.histories r.headers r.heard r.bounds seat v here fs h (old + STATE) live now generation low small key knows in let same = eq-eqb (m.headers.pin h) old e in
            subst (λ (p : Knowledge × List HeldHeader × ℕ). Left p.0 p.1 p.2) (λ i. (sym (lock_knowledge call m qs v h old key is e) i, sym ((λ j. held (same j) (key_or (is j))) ∙ one) i, sym (ap (λ (t : Bool). either t (old + STATE) (m.headers.pin h)) same) i))
            (after_taught z s seat v r here (write m (in_headers (at_pin h)) (old + STATE)) w (of_key_to key (m.headers.stamp h)) refl refl (rooms_still z m s.states seat v w here refl) (pin_still m.headers h (old + STATE) (λ d. absurd (omega arith)) generation)
            (locks.keys_locked z m s.states r.covers r.keys r.callers r.histories r.headers r.heard r.bounds seat v here fs h (old + STATE) live now generation low small key knows)
            (locks.heard_after z m s.states r.covers r.keys r.callers r.histories r.headers r.heard r.bounds seat v here fs h (old + STATE) live now generation low small key knows))

    -- it is not
    miss : (b : Bool) → Left (taught_where (b && false) (lock_taught h old (m.headers.stamp h) v.knowledge) qs v.knowledge) v.headers.held (m.headers.pin h)
    miss true = pin_again h
    miss false = pin_again h

    pub lock_after : KeysAfter z s seat v r here (write m (in_headers (at_pin h)) (header_effect (lock_header h old) (m.headers.pin h)))
        (record v { findings = fs; knowledge = knows_by_header call (lock_header h old) m (map knowledge_of s.states) v; headers = headers_keyed m.headers (lock_header h old) v.knowledge (headers_after m.headers (content m.arena.bytes) (lock_header h old) v.headers) })
    lock_after = let k = life_key h (generation_of old) v.knowledge may.known in dite (ℕ_discrete (m.headers.pin h) old) (λ e. hit e k.0 k.1)
        (λ ne. subst (λ (t : Bool). Left (taught_where (is_known (key_known h (generation_of old) v.knowledge) && t) (lock_taught h old (m.headers.stamp h) v.knowledge) qs v.knowledge) (held t (key_or (key_known h (generation_of old) v.knowledge))) (either t (old + STATE) (m.headers.pin h)))
        (sym (ne_eqb (m.headers.pin h) old ne)) (miss (is_known (key_known h (generation_of old) v.knowledge))))
