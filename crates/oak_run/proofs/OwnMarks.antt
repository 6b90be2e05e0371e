-- The writes of a pass since a reply on a key: one, with the mark that the reply tells, where it is a write's, and else none.
use Rattle.std.proofs.Common.{◌≡◌, ℕ, ◌-◌, ◌&&◌, Bool, true, false, List, [], ◌∷◌, ◌++◌, cond, length, map, Option, Some, refl, sym, ap, subst, ◌∙◌, arith, append-nil, inl, inr}
use Rattle.std.specs.Prelude.{MatchBool, IsSomeAnd}
use Rattle.std.specs.List.{slice_get}
use Rattle.std.proofs.lemmas.Bool.{cases_Bool}
use Rattle.std.proofs.lemmas.List.{length_push}
use Rattle.oak_model.specs.declared.cells.CellCall.{CellCall}
use Rattle.oak_model.specs.declared.cells.CellReply.{CellReply}
use Rattle.oak_model.specs.declared.writes.Write.{Write}
use Rattle.oak_model.specs.Cell.{kind_of}
use Rattle.oak_model.specs.Counts.{Each}
use Rattle.oak_model.specs.Fits.{ReadFits, WriteFits}
use Rattle.oak_model.specs.History.{History}
use Rattle.oak_model.specs.Key.{is_key, same_key}
use Rattle.oak_model.specs.KeyNumber.{key_number}
use Rattle.oak_model.proofs.HistoryLaws.{slice_get-mid}
use Rattle.oak_model.proofs.KeyLaws.{same_is, same_itself}
use Rattle.oak_core.specs.declared.states.KeyedWrite.{KeyedWrite}
use Rattle.oak_core.specs.declared.states.PassState.{PassState}
use Rattle.oak_core.specs.KeyHistories.{writes_of}
use Rattle.oak_core.specs.PassState.{of_key, seen_of}
use Rattle.oak_core.proofs.histories.WrittenHistories.{of_key-one, of_key-other}
use Rattle.point_ops.specs.Replies.{MineAfter}
use Rattle.point_ops.proofs.ReplyLaws.{writes_length, writes_push}
use Rattle.oak_run.specs.Answers.{Mark, mark_of}
use Rattle.oak_run.proofs.AnsweredBehind.{last_seen_key, one_key}

pub record MarkedSo (n : ℕ) (key : List ℕ) (at : ℕ) (writes : Bool) (v w : PassState) : Type 0 where
  pub wrote : List KeyedWrite
  pub mine : w.knowledge.mine ≡ v.knowledge.mine ++ wrote
  pub calls : Each (λ (x : KeyedWrite). x.write.call ≡ n) wrote
  pub marks : (q : List ℕ) → is_key q ≡ true → map mark_of (writes_of (of_key (key_number q) wrote)) ≡ cond (same_key key q && writes) (record { stamp = at; caller = v.numbers.number; call = n } ∷ []) []

of_none : (k : ℕ) → of_key k [] ≡ []
unfolding of_key
of_none k = refl

false_not_true : false ≡ true → ⊥
false_not_true e = cc

-- without a write
pub marks_none : (n : ℕ) (key : List ℕ) (at : ℕ) (v w : PassState) → w.knowledge.mine ≡ v.knowledge.mine → MarkedSo n key at false v w
marks_none n key at v w same = record {
  wrote = [];
  calls = tt;
  mine = same ∙ sym (append-nil v.knowledge.mine);
  marks = λ q k. ap (λ (l : List KeyedWrite). map mark_of (writes_of l)) (of_none (key_number q)) ∙ unmarked (same_key key q);
}
  where
    unmarked : (b : Bool) → let none : List Mark = [] in none ≡ cond (b && false) (record { stamp = at; caller = v.numbers.number; call = n } ∷ []) []
    unmarked true = refl
    unmarked false = refl

module _ (n : ℕ) (key : List ℕ) (ask : CellCall) (word : CellReply) (at : ℕ) (v w : PassState) (is : is_key key ≡ true) where
  abbrev k : ℕ
  k = key_number key

  abbrev seen : List KeyedWrite
  seen = seen_of k w.knowledge

  -- the caller of the last write
  caller_is : (rest : List KeyedWrite) (x : KeyedWrite) → seen ≡ rest ++ x ∷ [] → WriteFits (writes_of seen) v.numbers.number n ask word (length seen) → x.write.caller ≡ v.numbers.number
  caller_is rest x e fits = (subst (λ (o : Option Write). IsSomeAnd o (λ (y : Write). (y.caller ≡ v.numbers.number) × (y.call ≡ n) × (kind_of ask ≡ Some y.kind))) there fits.write).0
    where
      back : length seen - 1 ≡ length (writes_of rest)
      back = let a = ap length e in let b = length_push rest x in let c = writes_length rest in omega arith

      there : slice_get (writes_of seen) (length seen - 1) ≡ Some x.write
      there = ap (λ (i : ℕ). slice_get (writes_of seen) i) back ∙ (ap (λ (h : History). slice_get h (length (writes_of rest))) (ap writes_of e ∙ writes_push rest x) ∙ slice_get-mid (writes_of rest) x.write [])

  -- one write, of the key
  marks_one : (x : KeyedWrite) (rest : List KeyedWrite) → w.knowledge.mine ≡ v.knowledge.mine ++ x ∷ [] → seen ≡ rest ++ x ∷ [] → x.write.call ≡ n → x.write.stamp ≡ at → WriteFits (writes_of seen) v.numbers.number n ask word (length seen) → MarkedSo n key at true v w
  marks_one x rest mine e call stamp fits = record {
    wrote = x ∷ [];
    calls = (call, tt);
    mine = mine;
    marks = λ q j. elim (cases_Bool (same_key key q)) [
      | inl same ↦ here q same
      | inr other ↦ else_where q j other
    ];
  }
    where
      its : key_number x.key ≡ k
      its = last_seen_key k w.knowledge rest x e

      mark : Mark
      mark = record { stamp = at; caller = v.numbers.number; call = n }

      mark_is : mark_of x.write ≡ mark
      mark_is = let who = caller_is rest x e fits in λ i. record { stamp = stamp i; caller = who i; call = call i }

      here : (q : List ℕ) → same_key key q ≡ true → map mark_of (writes_of (of_key (key_number q) (x ∷ []))) ≡ cond (same_key key q && true) (mark ∷ []) []
      here q same = ap (λ (l : List KeyedWrite). map mark_of (writes_of l)) (of_key-one (key_number q) x (its ∙ ap key_number (same_is key q same))) ∙ (ap (λ (m : Mark). m ∷ []) mark_is ∙ sym (ap (λ (b : Bool). cond (b && true) (mark ∷ []) []) same))

      else_where : (q : List ℕ) → is_key q ≡ true → same_key key q ≡ false → map mark_of (writes_of (of_key (key_number q) (x ∷ []))) ≡ cond (same_key key q && true) (mark ∷ []) []
      else_where q j other = ap (λ (l : List KeyedWrite). map mark_of (writes_of l)) (of_key-other (key_number q) x (λ same. false_not_true (sym other ∙ (ap (λ (b : List ℕ). same_key key b) (sym (one_key key q is j (sym its ∙ same))) ∙ same_itself key)))) ∙ sym (ap (λ (b : Bool). cond (b && true) (mark ∷ []) []) other)

  pub marks_of : (b : Bool) → MatchBool b (WriteFits (writes_of seen) v.numbers.number n ask word (length seen)) (ReadFits (writes_of seen) ask word (length seen)) → MineAfter b n k at v w → MarkedSo n key at b v w
  marks_of false fits same = marks_none n key at v w same
  marks_of true fits m = marks_one m.0 m.2.0 m.1 m.2.1 m.3 m.4 fits
