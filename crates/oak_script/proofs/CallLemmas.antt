-- A line has no fault where only a call may stand exactly where it spells a call.
use Rattle.std.proofs.Common.{◌≡◌, ℕ, Bool, true, false, not, ◌||◌, List, [], ◌∷◌, ◌++◌, Option, Some, None, refl, ap, sym, ◌∙◌, cond}
use Rattle.std.specs.Prelude.{find}
use Rattle.std.specs.List.{list_any}
use Rattle.std.specs.Str.{bytes_eq}
use Rattle.oak_model.specs.declared.recipes.RecipeKind.{RecipeKind}
use Rattle.oak_model.specs.declared.recipes.RecipeKind.TheVariants.{Add, Xor, Rev}
use Rattle.oak_script.specs.declared.faults.What.TheVariants as what
use Rattle.oak_script.specs.declared.scripts.Call.{Call}
use Rattle.oak_script.specs.declared.scripts.Call.TheVariants.{Put, Get, PutNew, Compute, Upsert, Remove, Hold, Look, Scan, Back}
use Rattle.oak_script.specs.declared.verbs.Verb.{Verb}
use Rattle.oak_script.specs.declared.verbs.Verb.TheVariants as verb
use Rattle.oak_script.specs.Lines.{Words}
use Rattle.oak_script.specs.Words.{recipe_words}
use Rattle.oak_script.specs.Grammar.{call_words, CallFits}
use Rattle.oak_script.specs.Forms.{verbs, verb_word, verb_of, form, fills, verb_fills, is_call, is_recipe, KeySlot, ValueSlot, NameSlot, BoundSlot, RecipeSlot}
use Rattle.oak_script.specs.Faults.{is_empty, where_so, word_faults, slot_faults, verb_faults, part_faults}
use Rattle.oak_script.specs.Reading.{line_faults}
use Rattle.oak_script.proofs.WordLemmas.{word_is, none-so, none-both, not-true, key-spelled, value-spelled, bound-spelled, name-spelled, recipe-spelled, key-read, value-read, bound-read, name-read, recipe-read}

-- ---- what is spelled has no fault

fills-recipe : (r : RecipeKind) (n : ℕ) → fills (RecipeSlot ∷ []) (recipe_words r n) ≡ true
fills-recipe Add n = refl
fills-recipe Xor n = refl
fills-recipe Rev n = refl

pub call-spelled : (c : Call) → CallFits c → line_faults (call_words c) ≡ []
call-spelled (Put k v) is = let a = key-spelled k is.0 in let b = value-spelled v is.1 in rw (a.0, a.1, b.0, b.1) refl
call-spelled (Get k) is = let a = key-spelled k is in rw (a.0, a.1) refl
call-spelled (PutNew k v) is = let a = key-spelled k is.0 in let b = value-spelled v is.1 in rw (a.0, a.1, b.0, b.1) refl
call-spelled (Compute k r n) is = let a = key-spelled k is.0 in let b = recipe-spelled r n is.1 in rw (a.0, a.1, b.0, fills-recipe r n, b.1) refl
call-spelled (Upsert k v r n) is =
    let a = key-spelled k is.0 in
    let b = value-spelled v is.1 in
    let d = recipe-spelled r n is.2 in
    rw (a.0, a.1, b.0, b.1, d.0, fills-recipe r n, d.1) refl
call-spelled (Remove k) is = let a = key-spelled k is in rw (a.0, a.1) refl
call-spelled (Hold n k) is = let a = name-spelled n is.0 in let b = key-spelled k is.1 in rw (a.0, a.1, b.0, b.1) refl
call-spelled (Look n) is = let a = name-spelled n is in rw (a.0, a.1) refl
call-spelled (Scan low high) is = let a = bound-spelled low is.0 in let b = bound-spelled high is.1 in rw (a.0, a.1, b.0, b.1) refl
call-spelled (Back low high) is = let a = bound-spelled low is.0 in let b = bound-spelled high is.1 in rw (a.0, a.1, b.0, b.1) refl

-- ---- what has no fault spells a call

pub or-false : (a b : Bool) → (a || b) ≡ false → (a ≡ false) × (b ≡ false)
or-false true b e = absurd cc
or-false false b e = (refl, e)

parts-read : (v : Verb) (ws : Words) → fills (form v) ws ≡ true → slot_faults (form v) ws ≡ [] → list_any is_empty ws ≡ false → (c : Call) × (call_words c ≡ verb_word v ∷ ws) × CallFits c
parts-read verb.Put (k ∷ x ∷ []) f n e =
    let e1 = or-false (is_empty k) (is_empty x || false) e in
    let e2 = or-false (is_empty x) false e1.1 in
    let n1 = none-both (word_faults KeySlot k) (word_faults ValueSlot x ++ []) n in
    let n2 = none-both (word_faults ValueSlot x) [] n1.1 in
    let key = key-read k e1.0 n1.0 in
    let value = value-read x e2.0 n2.0 in
    (Put key.0 value.0, rw (key.1, value.1) refl, (key.2, value.2))
parts-read verb.PutNew (k ∷ x ∷ []) f n e =
    let e1 = or-false (is_empty k) (is_empty x || false) e in
    let e2 = or-false (is_empty x) false e1.1 in
    let n1 = none-both (word_faults KeySlot k) (word_faults ValueSlot x ++ []) n in
    let n2 = none-both (word_faults ValueSlot x) [] n1.1 in
    let key = key-read k e1.0 n1.0 in
    let value = value-read x e2.0 n2.0 in
    (PutNew key.0 value.0, rw (key.1, value.1) refl, (key.2, value.2))
parts-read verb.Get (k ∷ []) f n e =
    let e1 = or-false (is_empty k) false e in
    let n1 = none-both (word_faults KeySlot k) [] n in
    let key = key-read k e1.0 n1.0 in
    (Get key.0, rw key.1 refl, key.2)
parts-read verb.Remove (k ∷ []) f n e =
    let e1 = or-false (is_empty k) false e in
    let n1 = none-both (word_faults KeySlot k) [] n in
    let key = key-read k e1.0 n1.0 in
    (Remove key.0, rw key.1 refl, key.2)
parts-read verb.Compute (k ∷ ws) f n e =
    let e1 = or-false (is_empty k) (list_any is_empty ws) e in
    let n1 = none-both (word_faults KeySlot k) (where_so (not (is_recipe ws)) what.Recipe) n in
    let key = key-read k e1.0 n1.0 in
    let recipe = recipe-read ws (not-true (is_recipe ws) (none-so (not (is_recipe ws)) what.Recipe n1.1)) in
    (Compute key.0 recipe.0 recipe.1, rw (key.1, recipe.2) refl, (key.2, recipe.3))
parts-read verb.Upsert (k ∷ x ∷ ws) f n e =
    let e1 = or-false (is_empty k) (is_empty x || list_any is_empty ws) e in
    let e2 = or-false (is_empty x) (list_any is_empty ws) e1.1 in
    let n1 = none-both (word_faults KeySlot k) (word_faults ValueSlot x ++ where_so (not (is_recipe ws)) what.Recipe) n in
    let n2 = none-both (word_faults ValueSlot x) (where_so (not (is_recipe ws)) what.Recipe) n1.1 in
    let key = key-read k e1.0 n1.0 in
    let value = value-read x e2.0 n2.0 in
    let recipe = recipe-read ws (not-true (is_recipe ws) (none-so (not (is_recipe ws)) what.Recipe n2.1)) in
    (Upsert key.0 value.0 recipe.0 recipe.1, rw (key.1, value.1, recipe.2) refl, (key.2, value.2, recipe.3))
parts-read verb.Hold (a ∷ k ∷ []) f n e =
    let e1 = or-false (is_empty a) (is_empty k || false) e in
    let e2 = or-false (is_empty k) false e1.1 in
    let n1 = none-both (word_faults NameSlot a) (word_faults KeySlot k ++ []) n in
    let n2 = none-both (word_faults KeySlot k) [] n1.1 in
    let key = key-read k e2.0 n2.0 in
    (Hold a key.0, rw key.1 refl, (name-read a n1.0, key.2))
parts-read verb.Look (a ∷ []) f n e =
    let n1 = none-both (word_faults NameSlot a) [] n in
    (Look a, refl, name-read a n1.0)
parts-read verb.Scan (l ∷ h ∷ []) f n e =
    let e1 = or-false (is_empty l) (is_empty h || false) e in
    let e2 = or-false (is_empty h) false e1.1 in
    let n1 = none-both (word_faults BoundSlot l) (word_faults BoundSlot h ++ []) n in
    let n2 = none-both (word_faults BoundSlot h) [] n1.1 in
    let low = bound-read l e1.0 n1.0 in
    let high = bound-read h e2.0 n2.0 in
    (Scan low.0 high.0, rw (low.1, high.1) refl, (low.2, high.2))
parts-read verb.Back (l ∷ h ∷ []) f n e =
    let e1 = or-false (is_empty l) (is_empty h || false) e in
    let e2 = or-false (is_empty h) false e1.1 in
    let n1 = none-both (word_faults BoundSlot l) (word_faults BoundSlot h ++ []) n in
    let n2 = none-both (word_faults BoundSlot h) [] n1.1 in
    let low = bound-read l e1.0 n1.0 in
    let high = bound-read h e2.0 n2.0 in
    (Back low.0 high.0, rw (low.1, high.1) refl, (low.2, high.2))
parts-read v ws f n e = absurd cc

found : (p : Verb → Bool) (vs : List Verb) (v : Verb) → find p vs ≡ Some v → p v ≡ true
found p [] v e = absurd cc
found p (x ∷ vs) v e = by (p x) refl e (found p vs v)
  where
    by : (b : Bool) → p x ≡ b → cond b (Some x) (find p vs) ≡ Some v → (find p vs ≡ Some v → p v ≡ true) → p v ≡ true
    by true h is more = let same : x ≡ v = cc in rw same at h
    by false h is more = more is

verb_is : (w : List ℕ) (v : Verb) → verb_of w ≡ Some v → w ≡ verb_word v
verb_is w v e = word_is w (verb_word v) (found (λ (u : Verb). bytes_eq w (verb_word u)) verbs v e)

pub call-read : (line : Words) → line_faults line ≡ [] → (c : Call) × (call_words c ≡ line) × CallFits c
call-read [] none = absurd cc
call-read (w ∷ ws) none =
    let p = none-both (where_so (list_any is_empty (w ∷ ws) || not (is_call (w ∷ ws))) what.Word) (part_faults (Some (w ∷ ws))) none in
    let q = or-false (list_any is_empty (w ∷ ws)) (not (is_call (w ∷ ws))) (none-so (list_any is_empty (w ∷ ws) || not (is_call (w ∷ ws))) what.Word p.0) in
    let e = or-false (is_empty w) (list_any is_empty ws) q.0 in
    by (verb_of w) refl (not-true (is_call (w ∷ ws)) q.1) p.1 e.1
  where
    by : (o : Option Verb) → verb_of w ≡ o → verb_fills o ws ≡ true → verb_faults o ws ≡ [] → list_any is_empty ws ≡ false → (c : Call) × (call_words c ≡ w ∷ ws) × CallFits c
    by None h f n e = absurd cc
    by (Some v) h f n e =
        let r = parts-read v ws f n e in
        (r.0, r.1 ∙ ap (λ (x : List ℕ). x ∷ ws) (sym (verb_is w v h)), r.2)
