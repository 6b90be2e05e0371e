-- The lives of one key's history, each by the value word that its writes have: at two places of one life the key is present at each place between them, and the life ends at its removal.
use Rattle.std.proofs.Common.{◌≡◌, ℕ, zero, suc, ◌*◌, ◌<◌, ◌≤◌, Bool, true, false, List, [], ◌∷◌, ◌++◌, length, drop, sym, refl, ap, ◌∙◌, subst, arith, Some, None, inl, inr, cond, le-leb}
use Rattle.std.specs.Prelude.{IsSome, take, fold}
use Rattle.std.proofs.lemmas.Bool.{cases_lt, lt-leb}
use Rattle.std.proofs.lemmas.List.{length-map, length-append, length-take-le, take-append-drop, take-map}
use mathlib.Core.Logic.{dite}
use native.Mathlib.Decide.{ℕ_discrete}
use Rattle.oak_model.specs.declared.writes.Write.{Write}
use Rattle.oak_model.specs.Counts.{Begins, Has, one_at, one_if, total}
use Rattle.oak_model.specs.History.{StampsRise, last_state, place_of, state_at}
use Rattle.oak_model.specs.Life.{EndsAt, IsLifeAt}
use Rattle.oak_model.specs.State.{State}
use Rattle.oak_model.proofs.Counting.{one_at-same, total_append}
use Rattle.oak_model.proofs.Lists.{begins_length}
use Rattle.chunk_core.specs.ValueWord.{names_header}
use Rattle.chunk_core.proofs.ValueWords.{none_named}
use Rattle.oak_core.specs.declared.states.KeyedWrite.{KeyedWrite}
use Rattle.oak_core.specs.Callers.{begins}
use Rattle.oak_core.specs.KeyHistories.{IsKeyHistory, IsRemovedAt, LivesFollow, before, home_behind, is_absent, last_of, state_behind, writes_of}
use Rattle.oak_core.proofs.known.RemovedReads.{begun, lives_first, removal_behind}
use Rattle.oak_core.proofs.known.KnownPlaces.{place_length}
use Rattle.oak_core.proofs.histories.Removals.{removed_state, stamp_above}
use Rattle.oak_core.proofs.histories.WritesBelow.{before_first}
use Rattle.oak_run.specs.Behind.{BegunOnce}

-- ---- parts of a list

pub begins_taken : {A : Type 0} (p r : ℕ) (h : List A) → p ≤ r → Begins (take p h) (take r h)
begins_taken zero r h le = (take r h, refl)
begins_taken (suc p) zero h le = absurd (omega arith)
begins_taken (suc p) (suc r) [] le = ([], refl)
begins_taken (suc p) (suc r) (x ∷ xs) le = let b = begins_taken p r xs (omega arith) in (b.0, ap (λ (l : List _). x ∷ l) b.1)

pub begins_all : {A : Type 0} (r : ℕ) (h : List A) → Begins (take r h) h
begins_all r h = (drop r h, sym (take-append-drop r h))

-- the state at a place is the one behind the writes up to it
pub state_taken : (r : ℕ) (h : List KeyedWrite) → state_at (writes_of h) r ≡ state_behind (take r h)
state_taken r h = ap last_state (take-map (λ (w : KeyedWrite). w.write) r h)

-- ---- the life at the place of a write

-- a number that is not past the one above which the stamps rise has the first place
place_first : (n m : ℕ) (h : List KeyedWrite) → n ≤ m → StampsRise m (writes_of h) → place_of (writes_of h) n ≡ 0
place_first n m [] le r = refl
place_first n m (x ∷ xs) le r = let lt = r.0 in subst (λ (b : Bool). cond b (suc (place_of (writes_of xs) n)) (place_of (writes_of xs) n) ≡ 0) (sym (lt-leb x.write.stamp n (omega arith))) (place_first n x.write.stamp xs (omega arith) r.1)

home_there : (s : ℕ) (h : List KeyedWrite) (w : KeyedWrite) → StampsRise s (writes_of h) → Has w h → (d : ℕ) → last_of (λ (x : KeyedWrite). x.home) d (take (place_of (writes_of h) w.write.stamp) h) ≡ w.home
unfolding last_of
home_there s [] w r m d = absurd m
home_there s (x ∷ xs) w r (inl e) d = let same = ap (λ (y : KeyedWrite). y.write.stamp) e in
    subst (λ (b : Bool). last_of (λ (x : KeyedWrite). x.home) d (take (cond b (suc (place_of (writes_of xs) w.write.stamp)) (place_of (writes_of xs) w.write.stamp)) (x ∷ xs)) ≡ w.home) (sym (le-leb x.write.stamp w.write.stamp (omega arith)))
    (ap (λ (n : ℕ). last_of (λ (x : KeyedWrite). x.home) x.home (take n xs)) (place_first w.write.stamp x.write.stamp xs (omega arith) r.1) ∙ ap (λ (y : KeyedWrite). y.home) (sym e))
home_there s (x ∷ xs) w r (inr m) d = let lt = stamp_above x.write.stamp xs w r.1 m in
    subst (λ (b : Bool). last_of (λ (x : KeyedWrite). x.home) d (take (cond b (suc (place_of (writes_of xs) w.write.stamp)) (place_of (writes_of xs) w.write.stamp)) (x ∷ xs)) ≡ w.home) (sym (le-leb x.write.stamp w.write.stamp (omega arith)))
    (home_there x.write.stamp xs w r.1 m x.home)

-- ---- lives begin

pub last_on : (f : KeyedWrite → ℕ) (d : ℕ) (a b : List KeyedWrite) → last_of f d (a ++ b) ≡ last_of f (last_of f d a) b
unfolding last_of
last_on f d [] b = refl
last_on f d (x ∷ xs) b = last_on f (f x) xs b

abbrev pub state_from : State → List KeyedWrite → State
state_from s h = fold (λ (t : State) (w : Write). w.after) s (writes_of h)

pub lives_second : (s : State) (home : ℕ) (a b : List KeyedWrite) → LivesFollow s home (a ++ b) → LivesFollow (state_from s a) (last_of (λ (w : KeyedWrite). w.home) home a) b
unfolding last_of
lives_second s home [] b l = l
lives_second s home (x ∷ xs) b l = lives_second x.write.after x.home xs b l.3

-- behind an absent key the next write begins a life, so the last life of what is written next began there
pub begun_next : (g home : ℕ) (b : List KeyedWrite) → LivesFollow None home b → 0 < length b → last_of (λ (w : KeyedWrite). w.home) home b ≡ g → 0 < total (begins g) b
unfolding last_of total
begun_next g home [] l some e = absurd (omega arith)
begun_next g home (w ∷ ws) l some e = dite (ℕ_discrete w.home g)
    (λ same. let o = one_at-same w.home g same in let u : begins g w ≡ 1 = ap (λ (y : Bool). one_if y * one_at w.home g) l.0 ∙ (let q : 1 * one_at w.home g ≡ 1 = omega arith in q) in omega arith)
    (λ other. let t = begun g w.write.after w.home ws l.3 other e in omega arith)

-- each of these lives is one of a header
home_names : (s : State) (home : ℕ) (w : KeyedWrite) (ws : List KeyedWrite) → LivesFollow s home (w ∷ ws) → (is_absent s ≡ false → names_header home ≡ 1) → names_header w.home ≡ 1
home_names s home w ws l names = by w.inserts refl
  where
    by : (i : Bool) → w.inserts ≡ i → names_header w.home ≡ 1
    by true e = l.1 e
    by false e = ap names_header (l.2 e) ∙ names (sym l.0 ∙ e)

last_names : (s : State) (home : ℕ) (b : List KeyedWrite) → LivesFollow s home b → (is_absent s ≡ false → names_header home ≡ 1) → 0 < length b → names_header (last_of (λ (w : KeyedWrite). w.home) home b) ≡ 1
unfolding last_of
last_names s home [] l names some = absurd (omega arith)
last_names s home (w ∷ []) l names some = home_names s home w [] l names
last_names s home (w ∷ x ∷ xs) l names some = last_names w.write.after w.home (x ∷ xs) l.3 (λ _. home_names s home w (x ∷ xs) l names) (omega arith)

none_some : (s : State) → IsSome s → s ≡ None → ⊥
none_some None some e = absurd cc
none_some (Some b) some e = absurd cc

module _ (k : ℕ) (h : List KeyedWrite) (is : IsKeyHistory k h) (once : BegunOnce h) where
  lives_to : (r : ℕ) → LivesFollow None 0 (take r h)
  lives_to r = lives_first None 0 (take r h) (begins_all r h).0 (subst (LivesFollow None 0) (begins_all r h).1 is.lives)

  -- a life that has some place is one of a header
  names_at : (p g : ℕ) → 0 < length (take p h) → home_behind (take p h) ≡ g → names_header g ≡ 1
  names_at p g some home = ap names_header (sym home) ∙ last_names None 0 (take p h) (lives_to p) (λ e. absurd cc) some

  -- a life that has a place, and one past a place at which the key is absent, would begin twice
  not_twice : (g p y r : ℕ) → p ≤ y → y < r → r ≤ length h → 0 < length (take p h) → home_behind (take p h) ≡ g → state_behind (take y h) ≡ None → home_behind (take r h) ≡ g → ⊥
  not_twice g p y r low high last some home gone later =
      let names = names_at p g some home in
      let a = begins_taken p y h low in
      let b = begins_taken y r h (omega arith) in
      let c = begins_all r h in
      let one = begun_next g 0 (take p h) (lives_to p) some home in
      let lives : LivesFollow None (home_behind (take y h)) b.0 = subst (λ (s : State). LivesFollow s (home_behind (take y h)) b.0) gone (lives_second None 0 (take y h) b.0 (subst (LivesFollow None 0) b.1 (lives_to r))) in
      let more = length-append (take y h) b.0 in
      let all = ap length b.1 in
      let upto = length-take-le r h last in
      let less = length-take-le y h (omega arith) in
      let two = begun_next g (home_behind (take y h)) b.0 lives (omega arith) (sym (last_on (λ (w : KeyedWrite). w.home) 0 (take y h) b.0) ∙ (sym (ap home_behind b.1) ∙ later)) in
      let t = ap (total (begins g)) a.1 ∙ total_append (begins g) (take p h) a.0 in
      let u = ap (total (begins g)) b.1 ∙ total_append (begins g) (take y h) b.0 in
      let v = ap (total (begins g)) c.1 ∙ total_append (begins g) (take r h) c.0 in
      let most = once g names in
      omega arith

  -- a place at which the key is present is not the first
  some_there : (p : ℕ) → IsSome (state_behind (take p h)) → 0 < length (take p h)
  some_there p some = by (take p h) some
    where
      by : (l : List KeyedWrite) → IsSome (state_behind l) → 0 < length l
      by [] s = absurd (none_some None s refl)
      by (x ∷ xs) s = omega arith

  present_between : (g p y r : ℕ) → p ≤ y → y < r → r ≤ length h → IsSome (state_behind (take p h)) → home_behind (take p h) ≡ g → home_behind (take r h) ≡ g → IsSome (state_at (writes_of h) y)
  present_between g p y r low high last some home later = by (state_at (writes_of h) y) refl
    where
      by : (s : State) → state_at (writes_of h) y ≡ s → IsSome (state_at (writes_of h) y)
      by None e = absurd (not_twice g p y r low high last (some_there p some) home (sym (state_taken y h) ∙ e) later)
      by (Some b) e = subst (λ (s : State). IsSome s) (sym e) refl

  -- Two places of one life, at which the key is present, are those of an unbroken life.
  pub same_life : (g p r : ℕ) → p ≤ r → r ≤ length h → home_behind (take p h) ≡ g → home_behind (take r h) ≡ g → IsSome (state_behind (take p h)) → IsSome (state_behind (take r h)) → IsLifeAt (writes_of h) p r
  same_life g p r low last home later some now = record {
    from = low;
    last = let n = length-map h (λ (w : KeyedWrite). w.write) in omega arith;
    present = λ y from to. elim (cases_lt y r) [
      | inl lt ↦ present_between g p y r from lt last some home later
      | inr ge ↦ let e : r ≡ y = omega arith in subst (λ (n : ℕ). IsSome (state_at (writes_of h) n)) e (subst (λ (s : State). IsSome s) (sym (state_taken r h)) now)
    ];
  }

  -- A life ends at the place of its removal.
  pub ended_life : (g stamp p : ℕ) → p ≤ length h → home_behind (take p h) ≡ g → IsSome (state_behind (take p h)) → IsRemovedAt g stamp h → EndsAt (writes_of h) p (place_of (writes_of h) stamp)
  ended_life g stamp p to home some removed = record {
    after = after;
    last = let n = length-map h (λ (w : KeyedWrite). w.write) in let m = within in omega arith;
    present = λ y low high. present_between g p y r low high within some home later;
    removed = gone;
  }
    where
      r : ℕ
      r = place_of (writes_of h) stamp

      c : Begins (take p h) h
      c = begins_all p h

      names : names_header g ≡ 1
      names = names_at p g (some_there p some) home

      gone : state_at (writes_of h) r ≡ None
      gone = removed_state g stamp h is.legal.stamps removed

      within : r ≤ length h
      within = let e = place_length stamp h in let b = begins_length (before (suc stamp) h) h (before_first (suc stamp) 0 h is.legal.stamps) in omega arith

      behind : length (take p h) ≤ r
      behind = subst (λ (l : List KeyedWrite). length (take p h) ≤ place_of (writes_of l) stamp) (sym c.1)
          (removal_behind g stamp (take p h) c.0 (λ e. none_named g names e) (subst (LivesFollow None 0) c.1 is.lives) (subst (λ (l : List KeyedWrite). StampsRise 0 (writes_of l)) c.1 is.legal.stamps)
          (subst (λ (l : List KeyedWrite). total (begins g) l ≤ 1) c.1 (once g names)) home (subst (IsRemovedAt g stamp) c.1 removed))

      later : home_behind (take r h) ≡ g
      later = ap (λ (t : ℕ). home_behind (take (place_of (writes_of h) t) h)) (sym removed.stamp_is) ∙ (home_there 0 h removed.write is.legal.stamps removed.there 0 ∙ removed.home_is)

      after : p < r
      after = dite (ℕ_discrete p r)
          (λ same. absurd (none_some (state_behind (take p h)) some (sym (state_taken p h) ∙ (ap (state_at (writes_of h)) same ∙ gone))))
          (λ other. let b = behind in let t = length-take-le p h to in omega arith)
