-- A known life that is over was removed: its header is dead or has come to a greater generation. While the header is dead at the generation, its stamp word is that of the removal, whether its entry names it still or it is buried.
use Rattle.std.proofs.Common.{◌≡◌, ◌≢◌, ℕ, zero, suc, ◌+◌, ◌*◌, ◌<◌, ◌&&◌, not, true, false, List, map, sym, ap, ◌∙◌, subst, arith, eq-eqb, ne_eqb}
use mathlib.Core.Logic.{dite}
use mathlib.Core.Option.{some}
use native.Mathlib.Decide.{ℕ_discrete, dec_lt}
use lib.ListN.{get_elem?}
use Rattle.pin_word.specs.PinWord.{state_of, generation_of}
use Rattle.oak_model.specs.Counts.{one_at, one_if, total, Each, Every}
use Rattle.oak_model.specs.KeyNumber.{key_number}
use Rattle.oak_model.specs.Limits.{Sizes}
use Rattle.oak_model.proofs.Counting.{one_at-true, total_some}
use Rattle.arena_core.specs.Place.{content}
use Rattle.header_core.specs.HeaderHolds.{held_state}
use Rattle.header_core.specs.declared.holds.HeaderHolds.{HeaderHolds}
use Rattle.header_core.specs.declared.holds.HeldAs.{HeldAs}
use Rattle.header_core.specs.declared.holds.HeldAs.TheVariants.{Owned, Fresh, Locked, Buried}
use Rattle.header_core.specs.declared.holds.HeldHeader.{HeldHeader}
use Rattle.header_core.specs.declared.states.TheConstants.{DEAD}
use Rattle.header_core.proofs.HeaderFacts.{known_settled}
use Rattle.chunk_core.specs.CoverRule.{CoversPartition}
use Rattle.chunk_core.specs.CoverSums.{each, naming}
use Rattle.chunk_core.specs.ValueWord.{header_in, generation_in, names_header}
use Rattle.chunk_core.proofs.ValueWords.{none_named}
use Rattle.oak_core.specs.declared.states.KeyedWrite.{KeyedWrite}
use Rattle.oak_core.specs.declared.states.PassState.{PassState}
use Rattle.oak_core.specs.Callers.{CallersAgree}
use Rattle.oak_core.specs.HeaderTeaching.{is_over}
use Rattle.oak_core.specs.KeyHistories.{IsRemoved, IsRemovedAt, homes_in}
use Rattle.oak_core.specs.KeyReads.{word_now, base_now, history_now, sum_now, shown_by, home_of}
use Rattle.oak_core.specs.KeyRule.{KeysStand, OverIsRemoved}
use Rattle.oak_core.specs.KeyStates.{unnamed, HoldStands, IsBurialOf, KeyStands}
use Rattle.oak_core.specs.Known.{known}
use Rattle.oak_core.specs.Memory.{Memory}
use Rattle.oak_core.specs.Owners.{HeadersAreHeld}
use Rattle.oak_core.specs.PassState.{headers_held, knowledge_of, rooms_held}
use Rattle.oak_core.proofs.histories.HomeKeys.{known_key}
use Rattle.oak_core.proofs.memory.HomeWords.{NamesAt}
use Rattle.oak_core.proofs.known.KnownKeys.{IsKeyOfLife}
use Rattle.oak_core.proofs.memory.MetLists.{each_at}
use Rattle.oak_core.proofs.known.RemovalsKnown.{dead_named, removal_key}

times_some : (a b c : ℕ) → 0 < a * b * c → (0 < a) × (0 < b)
times_some zero b c l = absurd (let z : 0 * b * c ≡ 0 = nothing b c in omega arith)
  where
    nothing : (b c : ℕ) → 0 * b * c ≡ 0
    nothing b c = grind arith
times_some (suc a) zero c l = absurd (let z : suc a * 0 * c ≡ 0 = nothing (suc a) c in omega arith)
  where
    nothing : (a c : ℕ) → a * 0 * c ≡ 0
    nothing a c = grind arith
times_some (suc a) (suc b) c l = (omega arith, omega arith)

-- what is held dead is buried
pub buried_row : (word : ℕ → ℕ) (hist : ℕ → List KeyedWrite) (s : HeldAs) (r : HeldHeader) → held_state s ≡ DEAD → HoldStands word hist s r → IsBurialOf word hist r
buried_row word hist Owned r e p = absurd (let q = e in omega arith)
buried_row word hist Fresh r e p = absurd (let q = e in omega arith)
buried_row word hist (Locked at) r e p = absurd (let q = e in omega arith)
buried_row word hist Buried r e p = p

-- a write of the life, in a history that has some
some_write : (v : ℕ) (h : List KeyedWrite) → 0 < homes_in v h → (w : KeyedWrite) × (j : ℕ) × (get_elem? h j ≡ some w) × (w.home ≡ v)
some_write v h l = let t = total_some (λ (w : KeyedWrite). one_at w.home v) h l in (t.1, t.0, t.2, one_at-true t.1.home v t.3)

module _ (z : Sizes) (m : Memory) (is_key_word : ℕ → ℕ) (vs : List PassState) (parts : CoversPartition z m.rooms (content m.arena.bytes) is_key_word (map rooms_held vs)) (keys : KeysStand z m vs) (callers : CallersAgree vs)
    (heads : HeadersAreHeld m.headers m.arena.bytes (known (map knowledge_of vs)) (map headers_held vs)) (stamps : Every (λ (a : HeaderHolds). Each (λ (r : HeldHeader). m.headers.stamp r.header ≡ r.stamp) a.held) (map headers_held vs))
    (h g : ℕ) (named_at : NamesAt h g) (key : List ℕ) (life : IsKeyOfLife (history_now vs) h g key) (knows : 0 < known (map knowledge_of vs) h g) where
  -- named by the key's entry
  named_removed : state_of (m.headers.pin h) ≡ DEAD → generation_of (m.headers.pin h) ≡ g → 0 < sum_now z m vs (each (naming h)) → IsRemovedAt (home_of h g) (m.headers.stamp h) (history_now vs (key_number key))
  named_removed dead at named = let v : ℕ = home_of h g in
      let word = subst (λ (t : ℕ). word_now z m vs (key_number key) ≡ home_of h t + 1) at (known_key z m is_key_word vs parts keys callers h named (subst (λ (t : ℕ). names_header (home_of h t) ≡ 1) (sym at) named_at.names) (key_number key)
      (subst (λ (t : ℕ). 0 < homes_in (home_of h t) (history_now vs (key_number key))) (sym at) life.there)) in
      subst (λ (j : ℕ). IsRemovedAt (home_of h g) (m.headers.stamp j) (history_now vs (key_number key))) named_at.header
      (dead_named z m.headers (shown_by m) (base_now z m vs (key_number key)) (home_of h g) (history_now vs (key_number key)) (λ e. none_named v named_at.names e) named_at.names
      (subst (λ (w : ℕ). KeyStands z m.headers (shown_by m) (base_now z m vs (key_number key)) w (history_now vs (key_number key))) word (keys.states (key_number key))) (ap (λ (j : ℕ). state_of (m.headers.pin j)) named_at.header ∙ dead))

  -- buried, and named no more
  buried_removed : generation_of (m.headers.pin h) ≡ g → 0 < total (unnamed h) (map headers_held vs) → IsRemovedAt (home_of h g) (m.headers.stamp h) (history_now vs (key_number key))
  buried_removed at some_pass = let a = total_some (unnamed h) (map headers_held vs) some_pass in let r = total_some (λ (r : HeldHeader). one_at r.header h * one_at (held_state r.held_as) DEAD * one_if (not r.named)) a.1.held a.3 in
      let s = times_some (one_at r.1.header h) (one_at (held_state r.1.held_as) DEAD) (one_if (not r.1.named)) r.3 in
      found a.0 a.1 a.2 r.0 r.1 r.2 (one_at-true r.1.header h s.0) (one_at-true (held_state r.1.held_as) DEAD s.1)
    where
      found : (j : ℕ) (a : HeaderHolds) → get_elem? (map headers_held vs) j ≡ some a → (i : ℕ) (r : HeldHeader) → get_elem? a.held i ≡ some r → r.header ≡ h → held_state r.held_as ≡ DEAD → IsRemovedAt (home_of h g) (m.headers.stamp h) (history_now vs (key_number key))
      found j a there i r row same dead = let b = buried_row (word_now z m vs) (history_now vs) r.held_as r dead (each_at (λ (r : HeldHeader). HoldStands (word_now z m vs) (history_now vs) r.held_as r) a.held (keys.locks j a there) i r row) in
          let e = each_at (λ (r : HeldHeader). generation_of (m.headers.pin r.header) ≡ r.generation) a.held (heads.generations j a there) i r row in let s = each_at (λ (r : HeldHeader). m.headers.stamp r.header ≡ r.stamp) a.held (stamps j a there) i r row in
          let g_is : r.generation ≡ g = sym e ∙ (ap (λ (t : ℕ). generation_of (m.headers.pin t)) same ∙ at) in let s_is : r.stamp ≡ m.headers.stamp h = sym s ∙ ap m.headers.stamp same in
          removal_key vs callers keys.legal (home_of h g) (m.headers.stamp h) (key_number r.key) (key_number key) named_at.names
          (subst (λ (t : ℕ × ℕ). IsRemovedAt t.0 t.1 (history_now vs (key_number r.key))) (λ i. (home_of (same i) (g_is i), s_is i)) b.removed) life.there

  pub dead_removed : state_of (m.headers.pin h) ≡ DEAD → generation_of (m.headers.pin h) ≡ g → IsRemovedAt (home_of h g) (m.headers.stamp h) (history_now vs (key_number key))
  dead_removed dead at = let n = keys.named h in let k = known_settled m.headers (content m.arena.bytes) _ (known (map knowledge_of vs)) (map headers_held vs) heads h g knows at in let k0 = k.0 in let k1 = k.1 in
      dite (dec_lt 0 (sum_now z m vs (each (naming h)))) (λ l. named_removed dead at l) (λ no. buried_removed at (omega arith))

  pub over_removed : is_over g (m.headers.pin h) ≡ true → IsRemoved (home_of h g) (history_now vs (key_number key))
  over_removed over = dite (ℕ_discrete (generation_of (m.headers.pin h)) g) (λ e. dite (ℕ_discrete (state_of (m.headers.pin h)) DEAD) (λ d. (m.headers.stamp h, dead_removed d e)) (λ ne. absurd (goes_on e ne over)))
      (λ ne. let o = heads.older h g knows in gone (omega arith))
    where
      goes_on : generation_of (m.headers.pin h) ≡ g → state_of (m.headers.pin h) ≢ DEAD → is_over g (m.headers.pin h) ≡ true → ⊥
      goes_on e ne over = apart (sym (ap not ((λ i. eq-eqb (generation_of (m.headers.pin h)) g e i && not (ne_eqb (state_of (m.headers.pin h)) DEAD ne i)))) ∙ over)
        where
          apart : false ≡ true → ⊥
          apart e = cc

      gone : g < generation_of (m.headers.pin h) → IsRemoved (home_of h g) (history_now vs (key_number key))
      gone l = let w = some_write (home_of h g) (history_now vs (key_number key)) life.there in
          let o = each_at (OverIsRemoved m.headers.pin (history_now vs (key_number key))) (history_now vs (key_number key)) (keys.over (key_number key)) w.1 w.0 w.2 in
          let a = ap generation_in w.3 ∙ named_at.generation in let b = ap (λ (t : ℕ). generation_of (m.headers.pin t)) (ap header_in w.3 ∙ named_at.header) in
          subst (λ (v : ℕ). IsRemoved v (history_now vs (key_number key))) w.3 (o (omega arith))
