-- A range that is cleared, key by key and piece by piece.
use Rattle.std.proofs.Common.{◌≡◌, ℕ, ◌+◌, ◌-◌, ◌^◌, ◌<◌, ◌≤◌, ◌⊎◌, Bool, true, false, List, [], ◌∷◌, ◌++◌, length, Option, Some, None, refl, sym, ap, ◌∙◌, subst, arith, inl, inr}
use Rattle.std.specs.Prelude.{MatchBool, MatchOption}
use Rattle.std.specs.List.{FoldsTo}
use Rattle.std.proofs.lemmas.Fn.{FoldsTo-push}
use Rattle.std.proofs.lemmas.List.{length-append}
use Rattle.oak_model.specs.declared.replies.Pair.{Pair}
use Rattle.oak_model.specs.Scan.{pair_keys}
use Rattle.oak_core.specs.declared.table.Pass.{Pass}
use Rattle.oak_core.specs.Passes.{Stays}
use Rattle.oak_core.specs.Scratch.{StaysButSlots}
use Rattle.scan_cursor.specs.Views.{View}
use Rattle.oak_caller.specs.declared.clearing.NotCleared.{NotCleared}
use Rattle.oak_caller.specs.Callers.{Called, CallsNext, CallsOn, KeepsViews, last_of}
use Rattle.oak_caller.specs.Clearing.{CallsMany, ClearsPiece, ClearsSoFar, Counted, FailsIn, FailsPiece, GoesOver, GoesTo, LastIf, ReadsOnly, RemovesAll, at_count}
use Rattle.oak_caller.specs.Keys.{AddsAll, AddsEnough, AddsTo}
use Rattle.oak_caller.specs.Scans.{view_of}
use Rattle.oak_caller.proofs.GatheredKeys.{keys_push}

-- ---- calls one behind the other

pub many_none : (c : Called) → CallsMany c c
many_none c = record { table = refl; call = omega arith }

pub many_both : (c d e : Called) → CallsMany c d → CallsMany d e → CallsMany c e
many_both c d e a b = record { table = b.table ∙ a.table; call = let x = a.call in let y = b.call in omega arith }

pub many_next : (c d : Called) → CallsNext Stays c d → CallsMany c d
many_next c d a = record { table = a.table; call = let x = a.call in omega arith }

pub many_on : (c d : Called) → CallsOn StaysButSlots c d → CallsMany c d
many_on c d a = record { table = a.table; call = let x : last_of d ≡ last_of c = a.own.call in omega arith }

pub views_both : (c d e : Called) → KeepsViews c d → KeepsViews d e → KeepsViews c e
views_both c d e a b = λ x h. b x (a x h)

-- ---- the last key of a list

snoc_last : (xs ys : List (List ℕ)) (x y : List ℕ) → xs ++ x ∷ [] ≡ ys ++ y ∷ [] → x ≡ y
snoc_last [] [] x y e = ap (λ (l : List (List ℕ)). last_or l) e
  where
    last_or : List (List ℕ) → List ℕ
    last_or [] = []
    last_or (z ∷ zs) = z
snoc_last [] (b ∷ ys) x y e = absurd (let n = ap length e in let m = length-append ys (y ∷ []) in omega arith)
snoc_last (a ∷ xs) [] x y e = absurd (let n = ap length e in let m = length-append xs (x ∷ []) in omega arith)
snoc_last (a ∷ xs) (b ∷ ys) x y e = snoc_last xs ys x y (ap (λ (l : List (List ℕ)). rest l) e)
  where
    rest : List (List ℕ) → List (List ℕ)
    rest [] = []
    rest (z ∷ zs) = zs

-- so it is that of the pair up to which the range was read
pub last_key : (low high : Option (List ℕ)) (v w : View) (keys front : List (List ℕ)) (k : List ℕ) → (a : AddsTo low high v w [] keys) → keys ≡ front ++ k ∷ [] → a.pair.key ≡ k
last_key low high v w keys front k a e = snoc_last (pair_keys a.pairs) front a.pair.key k (sym (keys_push a.pairs a.pair) ∙ (sym a.keys ∙ e))

-- some keys were listed where there were to be some
pub some_listed : (most : ℕ) (low high : Option (List ℕ)) (v w : View) (keys : List (List ℕ)) → 0 < most → AddsEnough most low high v w [] keys → AddsTo low high v w [] keys
some_listed most low high v w keys some a = listed a.adds
  where
    listed : (keys ≡ []) ⊎ AddsTo low high v w [] keys → AddsTo low high v w [] keys
    listed (inl e) = absurd (let m = a.many in let n = ap length e in omega arith)
    listed (inr x) = x

pub listed_so : (all : Bool) (most : ℕ) (low high : Option (List ℕ)) (v w : View) (keys : List (List ℕ)) → 0 < most → MatchBool all (AddsAll low high v w [] keys) (AddsEnough most low high v w [] keys) → MatchBool all (AddsAll low high v w [] keys) (AddsTo low high v w [] keys)
listed_so true most low high v w keys some a = a
listed_so false most low high v w keys some a = some_listed most low high v w keys some a

-- ---- a piece

none_last : (low high : Option (List ℕ)) (v w : View) (keys : List (List ℕ)) → AddsTo low high v w [] keys → keys ≡ [] → ⊥
none_last low high v w keys a e = let n = ap length e in let m = ap length (a.keys ∙ keys_push a.pairs a.pair) in let k = length-append (pair_keys a.pairs) (a.pair.key ∷ []) in omega arith

-- its keys were listed and removed
pub piece_clears : (all : Bool) (o low high : Option (List ℕ)) (a b : Counted) (listed : Called) (keys : List (List ℕ)) → ReadsOnly a.caller listed → MatchBool all (AddsAll low high (view_of a.caller) (view_of listed) [] keys) (AddsTo low high (view_of a.caller) (view_of listed) [] keys) → RemovesAll (at_count a.count listed) keys b → LastIf all keys o → ClearsPiece o low high a b
piece_clears true None low high a b listed keys reads lists removes last = record { keys = keys; listed = listed; reads = reads; lists = lists; removes = removes }
piece_clears true (Some k) low high a b listed keys reads lists removes last = absurd cc
piece_clears false None low high a b listed keys reads lists removes last = absurd (none_last low high (view_of a.caller) (view_of listed) keys lists last)
piece_clears false (Some k) low high a b listed keys reads lists removes last = record { keys = keys; listed = listed; reads = reads; lists = lists; last = last_key low high (view_of a.caller) (view_of listed) keys last.0 k lists last.1; removes = removes }

-- ---- a range

pub first_piece : (o low high : Option (List ℕ)) (a b : Counted) → ClearsPiece o low high a b → ClearsSoFar o low high a b
first_piece o low high a b p = record { ends = []; place = record { low = low; done = a }; goes = refl; piece = p }

pub first_fails : (e : NotCleared) (low high : Option (List ℕ)) (a : Counted) (d : Called) → FailsPiece e low high a d → FailsIn e low high a d
first_fails e low high a d f = record { ends = []; place = record { low = low; done = a }; goes = refl; fails = f }

module _ (k : List ℕ) (low high : Option (List ℕ)) (a b : Counted) (s : ClearsSoFar (Some k) low high a b) where
  goes_to : GoesOver high (record { low = low; done = a }) (s.ends ++ k ∷ []) (record { low = Some k; done = b })
  goes_to = FoldsTo-push (λ x key y. GoesTo high x key y) (record { low = low; done = a }) s.ends s.place k (record { low = Some k; done = b }) s.goes (record { clears = s.piece; next = refl })

  pub next_piece : (o : Option (List ℕ)) (d : Counted) → ClearsPiece o (Some k) high b d → ClearsSoFar o low high a d
  next_piece o d p = record { ends = s.ends ++ k ∷ []; place = record { low = Some k; done = b }; goes = goes_to; piece = p }

  pub next_fails : (e : NotCleared) (d : Called) → FailsPiece e (Some k) high b d → FailsIn e low high a d
  next_fails e d f = record { ends = s.ends ++ k ∷ []; place = record { low = Some k; done = b }; goes = goes_to; fails = f }
