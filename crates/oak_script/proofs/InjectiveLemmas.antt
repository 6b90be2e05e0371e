-- A line spells one call only, and lines spell the calls of one list of threads only.
use Rattle.std.proofs.Common.{◌≡◌, true, List, [], ◌∷◌, ◌++◌, map, Option, Some, refl, ap, sym, ◌∙◌}
use Rattle.std.specs.List.{AllByRecursion, flat_map}
use Rattle.hex.specs.Hex.{encode_lower}
use Rattle.oak_script.specs.declared.scripts.Call.{Call}
use Rattle.oak_script.specs.declared.scripts.Call.TheVariants.{Put, Get, PutNew, Compute, Upsert, Remove, Hold, Look, Scan, Back}
use Rattle.oak_script.specs.declared.verbs.Verb.{Verb}
use Rattle.oak_script.specs.declared.verbs.Verb.TheVariants as verb
use Rattle.oak_script.specs.Lines.{Words}
use Rattle.oak_script.specs.Words.{value_word, bound_word, recipe_words}
use Rattle.oak_script.specs.Grammar.{thread_line, call_words, thread_lines, CallFits}
use Rattle.oak_script.specs.Forms.{verb_of, is_thread}
use Rattle.oak_script.proofs.HexWords.{written-injective}
use Rattle.oak_script.proofs.PastLemmas.{call-thread}
use Rattle.oak_script.proofs.WordLemmas.{value-injective, bound-injective, recipe-injective, first_word}

abbrev verb_in : Call → Verb
verb_in (Put k v) = verb.Put
verb_in (Get k) = verb.Get
verb_in (PutNew k v) = verb.PutNew
verb_in (Compute k r n) = verb.Compute
verb_in (Upsert k v r n) = verb.Upsert
verb_in (Remove k) = verb.Remove
verb_in (Hold a k) = verb.Hold
verb_in (Look a) = verb.Look
verb_in (Scan low high) = verb.Scan
verb_in (Back low high) = verb.Back

verb_tells : (c : Call) → verb_of (first_word (call_words c)) ≡ Some (verb_in c)
verb_tells (Put k v) = refl
verb_tells (Get k) = refl
verb_tells (PutNew k v) = refl
verb_tells (Compute k r n) = refl
verb_tells (Upsert k v r n) = refl
verb_tells (Remove k) = refl
verb_tells (Hold a k) = refl
verb_tells (Look a) = refl
verb_tells (Scan low high) = refl
verb_tells (Back low high) = refl

same-verb : (u v : Verb) → (let a : Option Verb = Some u in let b : Option Verb = Some v in a ≡ b) → u ≡ v
same-verb u v e = cc

same-call : (a b : Call) → CallFits a → CallFits b → call_words a ≡ call_words b → verb_in a ≡ verb_in b → a ≡ b
same-call (Put k v) (Put l w) ha hb e _ =
    let ek : encode_lower k ≡ encode_lower l = cc in
    let ev : value_word v ≡ value_word w = cc in
    let k-is = written-injective k l ha.0.1 hb.0.1 ek in
    let v-is = value-injective v w ha.1.1 hb.1.1 ev in
    cc
same-call (PutNew k v) (PutNew l w) ha hb e _ =
    let ek : encode_lower k ≡ encode_lower l = cc in
    let ev : value_word v ≡ value_word w = cc in
    let k-is = written-injective k l ha.0.1 hb.0.1 ek in
    let v-is = value-injective v w ha.1.1 hb.1.1 ev in
    cc
same-call (Get k) (Get l) ha hb e _ = let ek : encode_lower k ≡ encode_lower l = cc in let k-is = written-injective k l ha.1 hb.1 ek in cc
same-call (Remove k) (Remove l) ha hb e _ = let ek : encode_lower k ≡ encode_lower l = cc in let k-is = written-injective k l ha.1 hb.1 ek in cc
same-call (Compute k r n) (Compute l q m) ha hb e _ =
    let ek : encode_lower k ≡ encode_lower l = cc in
    let er : recipe_words r n ≡ recipe_words q m = cc in
    let k-is = written-injective k l ha.0.1 hb.0.1 ek in
    let r-is = recipe-injective r q n m ha.1 hb.1 er in
    let r-same = r-is.0 in
    let n-same = r-is.1 in
    cc
same-call (Upsert k v r n) (Upsert l w q m) ha hb e _ =
    let ek : encode_lower k ≡ encode_lower l = cc in
    let ev : value_word v ≡ value_word w = cc in
    let er : recipe_words r n ≡ recipe_words q m = cc in
    let k-is = written-injective k l ha.0.1 hb.0.1 ek in
    let v-is = value-injective v w ha.1.1 hb.1.1 ev in
    let r-is = recipe-injective r q n m ha.2 hb.2 er in
    let r-same = r-is.0 in
    let n-same = r-is.1 in
    cc
same-call (Hold a k) (Hold b l) ha hb e _ =
    let ea : a ≡ b = cc in
    let ek : encode_lower k ≡ encode_lower l = cc in
    let k-is = written-injective k l ha.1.1 hb.1.1 ek in
    cc
same-call (Look a) (Look b) ha hb e _ = let ea : a ≡ b = cc in cc
same-call (Scan a b) (Scan l h) ha hb e _ =
    let el : bound_word a ≡ bound_word l = cc in
    let eh : bound_word b ≡ bound_word h = cc in
    let l-is = bound-injective a l ha.0 hb.0 el in
    let h-is = bound-injective b h ha.1 hb.1 eh in
    cc
same-call (Back a b) (Back l h) ha hb e _ =
    let el : bound_word a ≡ bound_word l = cc in
    let eh : bound_word b ≡ bound_word h = cc in
    let l-is = bound-injective a l ha.0 hb.0 el in
    let h-is = bound-injective b h ha.1 hb.1 eh in
    cc
same-call a b _ _ _ s = absurd cc

call-injective : (a b : Call) → CallFits a → CallFits b → call_words a ≡ call_words b → a ≡ b
call-injective a b ha hb e = same-call a b ha hb e (same-verb (verb_in a) (verb_in b) (sym (verb_tells a) ∙ ap (λ (ws : Words). verb_of (first_word ws)) e ∙ verb_tells b))

thread-line : (line : Words) → line ≡ thread_line → is_thread line ≡ true
thread-line line e = rw e refl

no-call : (c : Call) (a b : List Words) → thread_line ∷ a ≡ call_words c ∷ b → ⊥
no-call c a b e =
    let same : call_words c ≡ thread_line = cc in
    let is = thread-line (call_words c) same in
    let no = call-thread c in
    cc

-- the calls of a thread end where the next `thread` line stands
split-calls : (a b : List Call) (more rest : List (List Call)) → AllByRecursion CallFits a → AllByRecursion CallFits b → map call_words a ++ flat_map thread_lines more ≡ map call_words b ++ flat_map thread_lines rest → (a ≡ b) × (flat_map thread_lines more ≡ flat_map thread_lines rest)
split-calls [] [] more rest ha hb e = (refl, e)
split-calls [] (y ∷ b) [] rest ha hb e = absurd cc
split-calls [] (y ∷ b) (t ∷ more) rest ha hb e = absurd (no-call y _ _ e)
split-calls (x ∷ a) [] more [] ha hb e = absurd cc
split-calls (x ∷ a) [] more (t ∷ rest) ha hb e = absurd (no-call x _ _ (sym e))
split-calls (x ∷ a) (y ∷ b) more rest ha hb e =
    let first : call_words x ≡ call_words y = cc in
    let others : map call_words a ++ flat_map thread_lines more ≡ map call_words b ++ flat_map thread_lines rest = cc in
    let p = call-injective x y ha.0 hb.0 first in
    let q = split-calls a b more rest ha.1 hb.1 others in
    (rw (p, q.0) refl, q.1)

pub threads-injective : (a b : List (List Call)) → AllByRecursion (AllByRecursion CallFits) a → AllByRecursion (AllByRecursion CallFits) b → flat_map thread_lines a ≡ flat_map thread_lines b → a ≡ b
threads-injective [] [] ha hb e = refl
threads-injective [] (u ∷ b) ha hb e = absurd cc
threads-injective (t ∷ a) [] ha hb e = absurd cc
threads-injective (t ∷ a) (u ∷ b) ha hb e =
    let body : map call_words t ++ flat_map thread_lines a ≡ map call_words u ++ flat_map thread_lines b = cc in
    let p = split-calls t u a b ha.0 hb.0 body in
    let q = threads-injective a b ha.1 hb.1 p.1 in
    rw (p.0, q) refl
