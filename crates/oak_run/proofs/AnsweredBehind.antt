-- Histories that go on from what a pass has seen go on from what it had seen before, and what it saw stands in them.
use Rattle.std.proofs.Common.{◌≡◌, ◌≢◌, ℕ, suc, Bool, ◌≤◌, true, List, [], ◌∷◌, ◌++◌, length, cond, refl, sym, ap, ◌∙◌, arith}
use Rattle.std.proofs.lemmas.Bool.{lt-leb}
use Rattle.std.proofs.lemmas.List.{length_push}
use mathlib.Core.Logic.{dite}
use native.Mathlib.Decide.{ℕ_discrete}
use Rattle.oak_model.specs.Counts.{longest}
use Rattle.oak_model.specs.Fits.{ReplyFits}
use Rattle.oak_model.specs.declared.cells.CellCall.{CellCall}
use Rattle.oak_model.specs.declared.cells.CellReply.{CellReply}
use Rattle.oak_model.specs.History.{state_at}
use Rattle.oak_model.specs.Key.{is_key}
use Rattle.oak_model.specs.KeyNumber.{key_number}
use Rattle.oak_model.proofs.HistoryLaws.{reply_fits-extends}
use Rattle.oak_model.proofs.KeyLaws.{is_key-is}
use Rattle.oak_model.proofs.Lists.{begins_trans}
use Rattle.oak_model.proofs.NumberLaws.{key_number_is}
use Rattle.oak_core.specs.declared.states.KeyedWrite.{KeyedWrite}
use Rattle.oak_core.specs.declared.states.Knowledge.{Knowledge}
use Rattle.oak_core.specs.declared.states.PassState.{PassState}
use Rattle.oak_core.specs.KeyHistories.{writes_of}
use Rattle.oak_core.specs.KnownPlaces.{Remembers}
use Rattle.oak_core.specs.PassState.{Extends, of_key, seen_of}
use Rattle.oak_core.proofs.known.KnownReads.{same_state, writes_extend}
use Rattle.oak_core.proofs.histories.WrittenHistories.{history_cross, of_key-append, of_key-one}
use Rattle.oak_run.specs.Behind.{GoesBehind, histories}

pub behind_before : (v w : PassState) (hs : ℕ → List KeyedWrite) → Extends v w → Remembers v.knowledge w.knowledge → GoesBehind w hs → GoesBehind v hs
behind_before v w hs seen remembers b = record {
  seen = λ k. begins_trans (seen_of k v.knowledge) (seen_of k w.knowledge) (hs k) (seen k) (b.seen k);
  places = λ k at r known. b.places k at r (remembers k at r known);
  legal = b.legal;
  once = b.once;
}

-- the writes of a key
pub key_history : (hs : ℕ → List KeyedWrite) (key : List ℕ) → is_key key ≡ true → histories hs key ≡ writes_of (hs (key_number key))
key_history hs key is = ap (λ b. cond b (writes_of (hs (key_number key))) []) is

-- a reply that fits what was seen fits there
pub behind_fits : (w : PassState) (hs : ℕ → List KeyedWrite) (k caller n r : ℕ) (ask : CellCall) (reply : CellReply) → GoesBehind w hs → ReplyFits (writes_of (seen_of k w.knowledge)) caller n ask reply r → ReplyFits (writes_of (hs k)) caller n ask reply r
behind_fits w hs k caller n r ask reply b fits = reply_fits-extends (writes_of (seen_of k w.knowledge)) (writes_of (hs k)) caller n ask reply r (writes_extend (seen_of k w.knowledge) (hs k) (b.seen k)) fits

-- and each state that was seen stands there
pub behind_state : (w : PassState) (hs : ℕ → List KeyedWrite) (k r : ℕ) → GoesBehind w hs → r ≤ length (seen_of k w.knowledge) → state_at (writes_of (hs k)) r ≡ state_at (writes_of (seen_of k w.knowledge)) r
behind_state w hs k r b to = same_state (seen_of k w.knowledge) (hs k) r (b.seen k) to

-- ---- which key a write that was seen is of

longest_alone : (h : List KeyedWrite) → longest (h ∷ []) ≡ h
unfolding longest
longest_alone [] = refl
longest_alone (x ∷ xs) = ap (λ (b : Bool). cond b [] (x ∷ xs)) (lt-leb (suc (length xs)) 0 (omega arith))

seen_cross : (j k : ℕ) (q : Knowledge) → j ≢ k → of_key j (seen_of k q) ≡ []
seen_cross j k q ne = ap (of_key j) (sym (longest_alone (seen_of k q))) ∙ history_cross j k (q ∷ []) ne

some_last : (h : List KeyedWrite) (x : KeyedWrite) → h ++ x ∷ [] ≡ [] → ⊥
some_last h x e = let n = length_push h x in let m = ap length e in absurd (omega arith)

pub last_seen_key : (k : ℕ) (q : Knowledge) (rest : List KeyedWrite) (x : KeyedWrite) → seen_of k q ≡ rest ++ x ∷ [] → key_number x.key ≡ k
last_seen_key k q rest x e = dite (ℕ_discrete (key_number x.key) k) (λ same. same) (λ ne. absurd (some_last (of_key (key_number x.key) rest) x
    (ap (λ (l : List KeyedWrite). of_key (key_number x.key) rest ++ l) (sym (of_key-one (key_number x.key) x refl)) ∙ (sym (of_key-append (key_number x.key) rest (x ∷ [])) ∙ (ap (of_key (key_number x.key)) (sym e) ∙ seen_cross (key_number x.key) k q ne)))))

-- two keys of one number are one
pub one_key : (a b : List ℕ) → is_key a ≡ true → is_key b ≡ true → key_number a ≡ key_number b → a ≡ b
one_key a b x y e = let c = is_key-is a x in let d = is_key-is b y in key_number_is a b c.1 d.1 c.0 d.0 e
