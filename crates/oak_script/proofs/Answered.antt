-- What it says that replies answer the calls of threads.
use Rattle.std.proofs.Common.{◌≡◌, ℕ, suc, zero, ◌+◌, ◌<◌, List, [], ◌∷◌, ◌++◌, length, map, get_or, drop, ap, refl, sym, ◌∙◌, arith}
use Rattle.std.proofs.Math.ListN.{get_or-map}
use Rattle.std.proofs.lemmas.List.{length-map, drop_more}
use Rattle.oak_model.specs.declared.replies.Reply.{Reply}
use Rattle.oak_script.specs.declared.scripts.Call.{Call}
use Rattle.oak_script.specs.Text.{CanReply, CallsAnswered, RepliesAnswer}

pub length-calls_answered : (cs : List Call) (ys : List Reply) → CallsAnswered cs ys → length cs ≡ length ys
length-calls_answered [] [] h = refl
length-calls_answered [] (y ∷ ys) h = absurd h
length-calls_answered (c ∷ cs) [] h = absurd h
length-calls_answered (c ∷ cs) (y ∷ ys) h = ap suc (length-calls_answered cs ys h.1)

pub length-threads_answered : (ts : List (List Call)) (rs : List (List Reply)) → RepliesAnswer ts rs → length ts ≡ length rs
length-threads_answered [] [] h = refl
length-threads_answered [] (r ∷ rs) h = absurd h
length-threads_answered (t ∷ ts) [] h = absurd h
length-threads_answered (t ∷ ts) (r ∷ rs) h = ap suc (length-threads_answered ts rs h.1)

-- the replies to each thread answer its calls
pub CallsAnswered-at : (ts : List (List Call)) (rs : List (List Reply)) (i : ℕ) (d : List Call) (e : List Reply) → i < length ts → RepliesAnswer ts rs → CallsAnswered (get_or ts i d) (get_or rs i e)
CallsAnswered-at [] [] i d e l h = absurd (omega arith)
CallsAnswered-at [] (r ∷ rs) i d e l h = absurd h
CallsAnswered-at (t ∷ ts) [] i d e l h = absurd h
CallsAnswered-at (t ∷ ts) (r ∷ rs) zero d e l h = h.0
CallsAnswered-at (t ∷ ts) (r ∷ rs) (suc i) d e l h = CallsAnswered-at ts rs i d e (omega arith) h.1

module _ {T R : Type 0} (calls_of : T → List Call) (replies_of : R → List Reply) (ts : List T) (rs : List R) where
  pub length-answered : RepliesAnswer (map calls_of ts) (map replies_of rs) → length ts ≡ length rs
  length-answered h = sym (length-map ts calls_of) ∙ length-threads_answered (map calls_of ts) (map replies_of rs) h ∙ length-map rs replies_of

  pub length-answered_at : (i : ℕ) (t : T) (r : R) → i < length ts → t ≡ get_or ts i t → r ≡ get_or rs i r → RepliesAnswer (map calls_of ts) (map replies_of rs) → length (calls_of t) ≡ length (replies_of r)
  length-answered_at i t r l e f h =
      let within : i < length (map calls_of ts) = rw length-map l in
      let calls : get_or (map calls_of ts) i (calls_of t) ≡ calls_of t = get_or-map calls_of ts i t ∙ sym (ap calls_of e) in
      let replies : get_or (map replies_of rs) i (replies_of r) ≡ replies_of r = get_or-map replies_of rs i r ∙ sym (ap replies_of f) in
      let answered = CallsAnswered-at (map calls_of ts) (map replies_of rs) i (calls_of t) (replies_of r) within h in
      sym (ap length calls) ∙ length-calls_answered _ _ answered ∙ ap length replies

-- the rest of a list, by the element at its front
pub rest_from : {X : Type 0} (xs : List X) (i : ℕ) (x : X) → i < length xs → x ≡ get_or xs i x → drop i xs ≡ x ∷ drop (i + 1) xs
rest_from xs i x l e = drop_more xs i x l ∙ ap (λ y. y ∷ drop (i + 1) xs) (sym e)

-- one more call with its reply
pub CallsAnswered-push : (cs : List Call) (ys : List Reply) (c : Call) (y : Reply) → CallsAnswered cs ys → CanReply c y → CallsAnswered (cs ++ c ∷ []) (ys ++ y ∷ [])
CallsAnswered-push [] [] c y h one = (one, tt)
CallsAnswered-push [] (z ∷ ys) c y h one = absurd h
CallsAnswered-push (d ∷ cs) [] c y h one = absurd h
CallsAnswered-push (d ∷ cs) (z ∷ ys) c y h one = (h.0, CallsAnswered-push cs ys c y h.1 one)
