-- The keys of a cursor, gathered step by step.
use Rattle.std.proofs.Common.{◌≡◌, ℕ, Bool, true, false, List, [], ◌∷◌, ◌++◌, refl, sym, ap, ◌∙◌, append-nil, append_assoc, inl, inr, Result, Ok, Err}
use Rattle.std.specs.Prelude.{OnErr}
use Rattle.oak_model.specs.declared.replies.Pair.{Pair}
use Rattle.oak_model.specs.Scan.{pair_keys}
use Rattle.scan_cursor.specs.declared.cursor.Cursor.{Cursor}
use Rattle.scan_cursor.specs.Cursors.{key_of}
use Rattle.oak_caller.specs.Gathered.{AddsNext, Gathers, GathersAll, GathersUntil}
use Rattle.oak_caller.specs.Given.{FindsEnd, FindsPair}
use Rattle.oak_caller.specs.Scans.{GivesOn, present}

-- what holds in any case
pub on_err : {A E : Type 0} (r : Result A E) (P : Type 0) → P → OnErr r P
on_err (Ok a) P p = tt
on_err (Err e) P p = p

pub keys_push : (ps : List Pair) (x : Pair) → pair_keys (ps ++ x ∷ []) ≡ pair_keys ps ++ x.key ∷ []
keys_push [] x = refl
keys_push (p ∷ ps) x = ap (λ (l : List (List ℕ)). p.key ∷ l) (keys_push ps x)

pub gathers_begun : (c : Cursor) (ks : List (List ℕ)) → Gathers c c ks ks
gathers_begun c ks = inl (refl, λ before g. g)

-- those so far are the keys of the pairs so far
module _ (c d : Cursor) (had has : List (List ℕ)) where
  record Gathered : Type 0 where
    pairs : List Pair
    keys : has ≡ had ++ pair_keys pairs
    gives : GivesOn c d [] pairs

  gathered : Gathers c d had has → Gathered
  gathered (inl e) = record { pairs = []; keys = e.0 ∙ sym (append-nil had); gives = e.1 }
  gathered (inr t) = record { pairs = t.pairs ++ present d ∷ []; keys = t.keys; gives = t.gives }

-- one more
pub gathers_next : (c d e : Cursor) (had has more : List (List ℕ)) → Gathers c d had has → FindsPair d e → more ≡ has ++ key_of e ∷ [] → Gathers c e had more
gathers_next c d e had has more g f is = let s = gathered c d had has g in inr record {
  pairs = s.pairs;
  keys = is ∙ (ap (λ (l : List (List ℕ)). l ++ key_of e ∷ []) s.keys ∙ (append_assoc had (pair_keys s.pairs) (key_of e ∷ []) ∙ ap (λ (l : List (List ℕ)). had ++ l) (sym (keys_push s.pairs (present e)))));
  value = f.value;
  gives = λ before h. f.goes s.pairs before (s.gives before h);
}

-- no more are left
pub gathers_end : (c d e : Cursor) (had has more : List (List ℕ)) → Gathers c d had has → FindsEnd d e → more ≡ has → GathersAll c e had more
gathers_end c d e had has more g f is = let s = gathered c d had has g in record {
  pairs = s.pairs;
  keys = is ∙ s.keys;
  ended = f.ended;
  gives = λ before h. f.goes s.pairs before (s.gives before h);
}

-- for one more no memory was found
pub gathers_until : (c d e : Cursor) (had has more : List (List ℕ)) → Gathers c d had has → FindsPair d e → more ≡ has → GathersUntil c e had more
gathers_until c d e had has more g f is = let s = gathered c d had has g in record {
  pairs = s.pairs;
  keys = is ∙ s.keys;
  value = f.value;
  gives = λ before h. f.goes s.pairs before (s.gives before h);
}

-- by whether there was a pair
pub adds_one : (b : Bool) (c d : Cursor) (had has : List (List ℕ)) → b ≡ true → AddsNext b c d had has → AddsNext true c d had has
adds_one true c d had has e a = a
adds_one false c d had has e a = absurd cc

pub adds_none : (b : Bool) (c d : Cursor) (had has : List (List ℕ)) → b ≡ false → AddsNext b c d had has → AddsNext false c d had has
adds_none true c d had has e a = absurd cc
adds_none false c d had has e a = a
