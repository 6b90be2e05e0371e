-- A loop's step over the threads of a text.
use Rattle.std.proofs.Common.{◌≡◌, ℕ, ◌+◌, ◌<◌, List, ◌++◌, length, map, get_or, drop, refl, append_assoc}
use Rattle.oak_model.specs.declared.replies.Reply.{Reply}
use Rattle.oak_script.specs.declared.scripts.Call.{Call}
use Rattle.oak_script.specs.Places.{Places}
use Rattle.oak_script.specs.Text.{thread_text, threads_text}
use Rattle.oak_script.proofs.Answered.{rest_from}

pub threads_more : {T R : Type 0} (calls_of : T → List Call) (replies_of : R → List Reply) (p : Places) (n : ℕ) (ts : List T) (rs : List R) (i : ℕ) (t : T) (r : R) → i < length ts → i < length rs → t ≡ get_or ts i t → r ≡ get_or rs i r
    → threads_text p n (map calls_of (drop i ts)) (map replies_of (drop i rs)) ≡ thread_text p n 1 (calls_of t) (replies_of r) ++ threads_text p (n + 1) (map calls_of (drop (i + 1) ts)) (map replies_of (drop (i + 1) rs))
threads_more calls_of replies_of p n ts rs i t r l m e f = rw (rest_from ts i t l e, rest_from rs i r m f) refl

-- seven pieces, one behind the other
pub seven_put : (start o p q r s t end_ a b c d e f g : List ℕ) → o ≡ start ++ a → p ≡ o ++ b → q ≡ p ++ c → r ≡ q ++ d → s ≡ r ++ e → t ≡ s ++ f → end_ ≡ t ++ g
    → end_ ≡ start ++ (a ++ (b ++ (c ++ (d ++ (e ++ (f ++ g))))))
seven_put start o p q r s t end_ a b c d e f g ea eb ec ed ee ef eg = rw (eg, ef, ee, ed, ec, eb, ea) (simp append_assoc)
