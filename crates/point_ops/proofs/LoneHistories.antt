-- A pass that is alone has seen all of each key's history. So from one moment to another only what it wrote itself comes to be seen.
use Rattle.std.proofs.Common.{false, true, Bool, cond, ◌+◌, ◌≡◌, ◌≢◌, ℕ, ◌<◌, List, [], ◌∷◌, ◌++◌, map, sym, refl, ap, ◌∙◌, subst, arith, append-nil}
use Rattle.std.proofs.lemmas.List.{append_cancel_left}
use mathlib.Core.Logic.{dite}
use mathlib.Core.Option.{some, some-injective}
use native.Mathlib.Decide.{ℕ_discrete, dec_lt}
use lib.ListN.{get_elem?}
use Rattle.oak_model.specs.Counts.{one_at, total}
use Rattle.oak_model.specs.KeyNumber.{key_number}
use Rattle.oak_model.specs.Limits.{Sizes}
use Rattle.oak_model.proofs.Counting.{one_at-other, one_at-true, total_some, total_zero}
use Rattle.oak_model.proofs.Lists.{at_unmap}
use Rattle.oak_model.proofs.MemberLaws.{each_at}
use Rattle.oak_core.specs.declared.states.Joined.{Joined}
use Rattle.oak_core.specs.declared.states.KeyedWrite.{KeyedWrite}
use Rattle.oak_core.specs.declared.states.Numbers.{Numbers}
use Rattle.oak_core.specs.declared.states.PassState.{PassState}
use Rattle.oak_core.specs.Callers.{AreWritesOf, WritesStand, of_caller}
use Rattle.oak_core.specs.KeyReads.{history_now}
use Rattle.oak_core.specs.PassState.{Extends, IsAlone, knowledge_of, numbers_of, of_key, rooted, seen_of, spent_state}
use Rattle.oak_core.specs.TableState.{TableState}
use Rattle.oak_core.proofs.seats.Alone.{history_seen, others_are}
use Rattle.oak_core.proofs.histories.CallerWrites.{caller-cases}
use Rattle.oak_core.proofs.histories.WrittenHistories.{history_cross, of_key-append, of_key-one, of_key-other}
use Rattle.chunk_ops.specs.RoomPins.{HadMoment}
use Rattle.point_ops.specs.LoneReplies.{SeesWhole}

pub sees_whole : (z : Sizes) (v : PassState) → IsAlone v → HadMoment z v → SeesWhole z v
sees_whole z v alone m = let n = m.1 in record { words = m.0; moment = n; whole = history_seen z record { words = m.0; states = n.states } n.rule n.seat v n.here alone }

-- ---- lists of writes

caller_append : (i : ℕ) (a b : List KeyedWrite) → of_caller i (a ++ b) ≡ of_caller i a ++ of_caller i b
unfolding of_caller
caller_append i [] b = refl
caller_append i (w ∷ ws) b = let r = caller_append i ws b in caller-cases i w (ws ++ b) (λ l. l ≡ of_caller i (w ∷ ws) ++ of_caller i b)
    (λ e. caller-cases i w ws (λ l. w ∷ of_caller i (ws ++ b) ≡ l ++ of_caller i b) (λ _. ap (λ (l : List KeyedWrite). w ∷ l) r) (λ ne. absurd (ne e)))
    (λ ne. caller-cases i w ws (λ l. of_caller i (ws ++ b) ≡ l ++ of_caller i b) (λ e. absurd (ne e)) (λ _. r))

some_not_none : (w : KeyedWrite) (ws : List KeyedWrite) → w ∷ ws ≡ [] → ⊥
some_not_none w ws e = cc

-- a list without writes of other callers is all of the one
all_of_one : (i : ℕ) (l : List KeyedWrite) → ((j : ℕ) → j ≢ i → of_caller j l ≡ []) → of_caller i l ≡ l
unfolding of_caller
all_of_one i [] h = refl
all_of_one i (w ∷ ws) h = caller-cases i w ws (λ l. l ≡ w ∷ ws)
    (λ _. ap (λ (l : List KeyedWrite). w ∷ l) (all_of_one i ws (λ j ne. caller-cases j w ws (λ l. l ≡ [] → of_caller j ws ≡ []) (λ _ e. absurd (some_not_none w (of_caller j ws) e)) (λ _ e. e) (h j ne))))
    (λ ne. absurd (caller-cases w.write.caller w ws (λ l. l ≡ [] → ⊥) (λ _ e. some_not_none w (of_caller w.write.caller ws) e) (λ other. absurd (other refl)) (h w.write.caller ne)))

last_not_none : (l : List KeyedWrite) (x : KeyedWrite) → l ++ x ∷ [] ≡ [] → ⊥
last_not_none [] x e = cc
last_not_none (w ∷ ws) x e = cc

-- ---- at one moment

-- a spent pass has no number
spent_roots : (i : ℕ) → rooted i spent_state.numbers ≡ 0
unfolding total
spent_roots i = refl

module _ (z : Sizes) (v : PassState) (alone : IsAlone v) (n : SeesWhole z v) where
  abbrev table : TableState
  table = record { words = n.words; states = n.moment.states }

  live : v.numbers.spent ≡ false
  live = by v.numbers.spent refl
    where
      none : 0 < rooted 0 spent_state.numbers → ⊥
      none h = let e = spent_roots 0 in omega arith

      by : (b : Bool) → v.numbers.spent ≡ b → b ≡ false
      by false e = refl
      by true e = absurd (none (subst (λ (y : PassState). 0 < rooted 0 y.numbers) (n.moment.rule.spent n.moment.seat v n.moment.here e) alone.first))

  stands : WritesStand (history_now n.moment.states) v
  stands = n.moment.rule.callers.writes n.moment.seat v n.moment.here

  -- the writes of its own number are its own
  own_writes : (q : ℕ) → of_caller v.numbers.number (seen_of q v.knowledge) ≡ of_key q v.knowledge.mine
  own_writes q = ap (of_caller v.numbers.number) (sym (n.whole q)) ∙ (stands.own live).same q

  -- those of the number of a pass that was joined into it are that one's
  joined_writes : (q i : ℕ) (j : Joined) → get_elem? v.numbers.joined i ≡ some j → of_caller j.number (seen_of q v.knowledge) ≡ of_key q j.mine
  joined_writes q i j e = ap (of_caller j.number) (sym (n.whole q)) ∙ (each_at (λ (y : Joined). AreWritesOf (history_now n.moment.states) y.number y.mine) v.numbers.joined stands.joined i j e).same q

  -- of other numbers there are none
  no_writes : (q i : ℕ) → rooted i v.numbers ≡ 0 → of_caller i (seen_of q v.knowledge) ≡ []
  no_writes q i none = ap (of_caller i) (sym (n.whole q)) ∙ n.moment.rule.callers.others i q (total_zero (rooted i) (map numbers_of n.moment.states) each)
    where
      each : (j : ℕ) (u : Numbers) → get_elem? (map numbers_of n.moment.states) j ≡ some u → rooted i u ≡ 0
      each j u e = let a = at_unmap numbers_of n.moment.states j u e in subst (λ (y : Numbers). rooted i y ≡ 0) a.2 (dite (ℕ_discrete j n.moment.seat)
          (λ same. let is : v ≡ a.0 = some-injective v a.0 (sym n.moment.here ∙ (ap (get_elem? n.moment.states) (sym same) ∙ a.1)) in subst (λ (y : PassState). rooted i y.numbers ≡ 0) is none)
          (λ ne. subst (λ (y : PassState). rooted i y.numbers ≡ 0) (sym (others_are z table n.moment.rule n.moment.seat v n.moment.here alone j a.0 ne a.1)) (spent_roots i)))

-- ---- from one moment to another

pub alone_later : (v w : PassState) → w.numbers ≡ v.numbers → IsAlone v → IsAlone w
alone_later v w e alone = record {
  first = subst (λ (n : Numbers). 0 < rooted 0 n) (sym e) alone.first;
  others = subst (λ (n : Numbers). (k : ℕ) → 0 < total (λ (m : ℕ). one_at m k) n.made → 0 < rooted k n) (sym e) alone.others;
}

module _ (z : Sizes) (v w : PassState) (alone : IsAlone v) (a : SeesWhole z v) (numbers : w.numbers ≡ v.numbers) (seen : Extends v w) (b : SeesWhole z w) where
  still : IsAlone w
  still = alone_later v w numbers alone

  -- other callers wrote nothing
  others_wrote : (q i : ℕ) → i ≢ v.numbers.number → of_caller i (seen_of q w.knowledge) ≡ of_caller i (seen_of q v.knowledge)
  others_wrote q i ne = dite (dec_lt 0 (total (λ (j : Joined). one_at j.number i) v.numbers.joined))
      (λ l. let t = total_some (λ (j : Joined). one_at j.number i) v.numbers.joined l in let is : t.1.number ≡ i = one_at-true t.1.number i t.3 in
      subst (λ (k : ℕ). of_caller k (seen_of q w.knowledge) ≡ of_caller k (seen_of q v.knowledge)) is
      (joined_writes z w still b q t.0 t.1 (subst (λ (y : Numbers). get_elem? y.joined t.0 ≡ some t.1) (sym numbers) t.2) ∙ sym (joined_writes z v alone a q t.0 t.1 t.2)))
      (λ no. let r = unrooted (omega arith) in no_writes z w still b q i (ap (rooted i) numbers ∙ r) ∙ sym (no_writes z v alone a q i r))
    where
      unrooted : total (λ (j : Joined). one_at j.number i) v.numbers.joined ≡ 0 → rooted i v.numbers ≡ 0
      unrooted none = let o = one_at-other v.numbers.number i (λ e. ne (sym e)) in let l = live z v alone a in let c : rooted i v.numbers ≡ one_at v.numbers.number i + total (λ (j : Joined). one_at j.number i) v.numbers.joined = ap (λ (t : Bool). cond t 0 (one_at v.numbers.number i) + total (λ (j : Joined). one_at j.number i) v.numbers.joined) l in omega arith

  -- what is seen more of a key is what the pass wrote more of it
  seen_more : (q : ℕ) (d : List KeyedWrite) → of_key q w.knowledge.mine ≡ of_key q v.knowledge.mine ++ d → seen_of q w.knowledge ≡ seen_of q v.knowledge ++ d
  seen_more q d e = is_more ∙ ap (λ (l : List KeyedWrite). seen_of q v.knowledge ++ l) (sym (all_of_one me more (λ j ne. others_more j ne)) ∙ own_more)
    where
      me : ℕ
      me = v.numbers.number

      more : List KeyedWrite
      more = (seen q).0

      is_more : seen_of q w.knowledge ≡ seen_of q v.knowledge ++ more
      is_more = (seen q).1

      parts : (i : ℕ) → of_caller i (seen_of q w.knowledge) ≡ of_caller i (seen_of q v.knowledge) ++ of_caller i more
      parts i = ap (of_caller i) is_more ∙ caller_append i (seen_of q v.knowledge) more

      others_more : (i : ℕ) → i ≢ me → of_caller i more ≡ []
      others_more i ne = append_cancel_left (of_caller i (seen_of q v.knowledge)) (of_caller i more) [] (sym (parts i) ∙ (others_wrote q i ne ∙ sym (append-nil (of_caller i (seen_of q v.knowledge)))))

      own_now : of_caller me (seen_of q w.knowledge) ≡ of_key q w.knowledge.mine
      own_now = subst (λ (y : Numbers). of_caller y.number (seen_of q w.knowledge) ≡ of_key q w.knowledge.mine) numbers (own_writes z w still b q)

      own_more : of_caller me more ≡ d
      own_more = append_cancel_left (of_caller me (seen_of q v.knowledge)) (of_caller me more) d (sym (parts me) ∙ (own_now ∙ (e ∙ ap (λ (l : List KeyedWrite). l ++ d) (sym (own_writes z v alone a q)))))

  pub seen_same : w.knowledge.mine ≡ v.knowledge.mine → (q : ℕ) → seen_of q w.knowledge ≡ seen_of q v.knowledge
  seen_same e q = seen_more q [] (ap (of_key q) e ∙ sym (append-nil (of_key q v.knowledge.mine))) ∙ append-nil (seen_of q v.knowledge)

  -- one write more, the last that is seen of its key
  module _ (k : ℕ) (x : KeyedWrite) (wrote : w.knowledge.mine ≡ v.knowledge.mine ++ x ∷ []) (rest : List KeyedWrite) (last : seen_of k w.knowledge ≡ rest ++ x ∷ []) where
    key_is : key_number x.key ≡ k
    key_is = dite (ℕ_discrete (key_number x.key) k) (λ e. e) (λ ne. absurd (let j : ℕ = key_number x.key in
        last_not_none (of_key j rest) x (ap (λ (l : List KeyedWrite). of_key j rest ++ l) (sym (of_key-one j x refl)) ∙ (sym (of_key-append j rest (x ∷ [])) ∙ (ap (of_key j) (sym last ∙ sym (b.whole k)) ∙ history_cross j k (map knowledge_of b.moment.states) ne)))))

    mine_parts : (q : ℕ) → of_key q w.knowledge.mine ≡ of_key q v.knowledge.mine ++ of_key q (x ∷ [])
    mine_parts q = ap (of_key q) wrote ∙ of_key-append q v.knowledge.mine (x ∷ [])

    pub seen_wrote : seen_of k w.knowledge ≡ seen_of k v.knowledge ++ x ∷ []
    seen_wrote = seen_more k (x ∷ []) (mine_parts k ∙ ap (λ (l : List KeyedWrite). of_key k v.knowledge.mine ++ l) (of_key-one k x key_is))

    pub seen_other : (q : ℕ) → q ≢ k → seen_of q w.knowledge ≡ seen_of q v.knowledge
    seen_other q ne = seen_more q (of_key q (x ∷ [])) (mine_parts q) ∙ (ap (λ (l : List KeyedWrite). seen_of q v.knowledge ++ l) (of_key-other q x (λ e. ne (sym e ∙ key_is))) ∙ append-nil (seen_of q v.knowledge))
