-- A scan on the map is a turn that fits.
use Rattle.std.proofs.Common.{◌≡◌, ℕ, suc, ◌≤◌, Bool, true, false, cond, List, [], ◌∷◌, length, map, Option, Some, None, refl, sym, ap, ◌∙◌, subst, arith, inl, inr}
use Rattle.std.specs.List.{AllByRecursion}
use Rattle.std.proofs.lemmas.Bool.{cases_Bool, and_parts, both_ways}
use Rattle.std.proofs.lemmas.List.{append-nil, length-map}
use Rattle.oak_model.specs.declared.replies.Pair.{Pair}
use Rattle.oak_model.specs.declared.replies.Reply.{Reply}
use Rattle.oak_model.specs.declared.replies.Reply.TheVariants as replies
use Rattle.oak_model.specs.Counts.{Begins}
use Rattle.oak_model.specs.History.{Histories, place_of, state_at}
use Rattle.oak_model.specs.Key.{is_key}
use Rattle.oak_model.specs.KeyNumber.{key_number}
use Rattle.oak_model.specs.Limits.{Sizes}
use Rattle.oak_model.specs.Scan.{in_range}
use Rattle.oak_model.proofs.HistoryLaws.{length-extends}
use Rattle.oak_core.specs.declared.states.KeyedWrite.{KeyedWrite}
use Rattle.oak_core.specs.declared.states.Numbers.{Numbers}
use Rattle.oak_core.specs.declared.states.Sight.{Sight}
use Rattle.oak_core.specs.Sights.{SightedSince}
use Rattle.oak_core.specs.declared.states.PassState.{PassState}
use Rattle.oak_core.specs.PassState.{of_key, seen_of}
use Rattle.oak_core.specs.KeyHistories.{writes_of}
use Rattle.oak_script.specs.declared.scripts.Call.{Call}
use Rattle.oak_script.specs.declared.scripts.Call.TheVariants.{Scan, Back}
use Rattle.scan_cursor.specs.declared.ways.Way.{Way}
use Rattle.scan_cursor.specs.declared.ways.Way.TheVariants.{Up, Down}
use Rattle.scan_cursor.specs.Fitting.{GoOnFrom, places_at, seen_length}
use Rattle.scan_cursor.specs.Holding.{IsBound}
use Rattle.scan_cursor.specs.Scanned.{HasScanned, IsInOrder, greatest_of, least_of, within}
use Rattle.scan_cursor.specs.Views.{view_of}
use Rattle.scan_cursor.proofs.FitLaws.{pairs_found, range_is, scan_fits, scan_found}
use Rattle.oak_run.specs.Answers.{mark_of}
use Rattle.oak_run.specs.Closing.{Closing}
use Rattle.oak_run.specs.Findings.{RemovalFound}
use Rattle.oak_run.specs.Told.{ask_of}
use Rattle.oak_run.specs.Behind.{GoesBehind, histories}
use Rattle.oak_run.specs.MapTurns.{StaysBetween, Turned}
use Rattle.oak_run.specs.Scans.{PairsFit, ScanTurnFits, within_range}
use Rattle.oak_run.specs.Shown.{SightedIn, closing_by}
use Rattle.oak_run.specs.Turn.{Turn}
use Rattle.oak_run.specs.Views.{Names, ViewFits}
use Rattle.oak_run.proofs.FoundCalls.{sighted_in}
use Rattle.oak_run.proofs.SightLaws.{finds_more, go_on}

abbrev pub scan_call : Way → Option (List ℕ) → Option (List ℕ) → Call
scan_call Up low high = Scan low high
scan_call Down low high = Back low high

-- what a place within a range says
pub placed_within : (low high : Option (List ℕ)) (places : List ℕ → ℕ) (q : List ℕ) (r : ℕ) → within_range low high places q ≡ Some r → (in_range low high q ≡ true) × (places q ≡ r)
placed_within low high places q r e = by (in_range low high q) refl e
  where
    by : (b : Bool) → in_range low high q ≡ b → cond b (Some (places q)) None ≡ Some r → (in_range low high q ≡ true) × (places q ≡ r)
    by true i e = (i, cc)
    by false i e = absurd cc

none_marked : (k : ℕ) → map mark_of (writes_of (of_key k [])) ≡ []
unfolding of_key
none_marked k = refl

module _ (way : Way) (low high : Option (List ℕ)) (z : Sizes) (n : ℕ) (v w : PassState) (pairs : List Pair) (low_bound : IsBound low) (high_bound : IsBound high) (x : HasScanned way low high (view_of z n v) (view_of z n w) pairs) where
  abbrev window : List ℕ → Bool
  window q = within (least_of low) (suc (greatest_of high)) q

  abbrev ats : List ℕ → ℕ
  ats = x.scanned.ats

  -- the place at which a key was read
  abbrev place_in : (q : List ℕ) (b : Bool) → window q ≡ b → ℕ
  place_in q true e = (x.scanned.each q e).read.place
  place_in q false e = 0

  abbrev reads : List ℕ → ℕ
  reads q = place_in q (window q) refl

  abbrev pub scan_turn : Turn
  scan_turn = record { call = scan_call way low high; reply = replies.Pairs pairs; places = within_range low high reads; floors = within_range low high reads }

  inside : (q : List ℕ) → is_key q ≡ true → in_range low high q ≡ true → window q ≡ true
  inside q e i = sym (range_is low high q low_bound high_bound e) ∙ i

  -- what is in the range and was not read is no key
  outside : (q : List ℕ) → window q ≡ false → in_range low high q ≡ true → is_key q ≡ false
  outside q e i = elim (cases_Bool (is_key q)) [
    | inl k ↦ absurd (both_ways (window q) e (inside q k i))
    | inr other ↦ other
  ]

  key_of : (q : List ℕ) → window q ≡ true → is_key q ≡ true
  key_of q e = (and_parts (is_key q) _ e).0

  length_key : (u : PassState) (q : List ℕ) → is_key q ≡ true → seen_length u q ≡ length (seen_of (key_number q) u.knowledge)
  length_key u q e = ap (λ (b : Bool). cond b (length (seen_of (key_number q) u.knowledge)) 0) e

  length_other : (u : PassState) (q : List ℕ) → is_key q ≡ false → seen_length u q ≡ 0
  length_other u q e = ap (λ (b : Bool). cond b (length (seen_of (key_number q) u.knowledge)) 0) e

  from_is : (q : List ℕ) (b : Bool) (e : window q ≡ b) → in_range low high q ≡ true → seen_length v q ≤ place_in q b e
  from_is q true e i = let a = length_key v q (key_of q e) in let f = (x.scanned.each q e).read.from in omega arith
  from_is q false e i = let a = length_other v q (outside q e i) in omega arith

  to_is : (q : List ℕ) (b : Bool) (e : window q ≡ b) → place_in q b e ≤ seen_length w q
  to_is q true e = let a = length_key w q (key_of q e) in let t = (x.scanned.each q e).read.to in omega arith
  to_is q false e = omega arith

  order : StaysBetween v w scan_turn
  order = record {
    places = λ q r e. let p = placed_within low high reads q r e in let f = from_is q (window q) refl p.0 in let s = p.1 in omega arith;
    later = λ q r e m. absurd cc;
    floors = λ q r e. let p = placed_within low high reads q r e in let t = to_is q (window q) refl in let s = p.1 in omega arith;
  }

  module _ (hs : ℕ → List KeyedWrite) (behind : GoesBehind w hs) where
    abbrev on : GoOnFrom w (histories hs)
    on = go_on w hs behind

    -- it is the place of the number that was found
    key_place : (q : List ℕ) (b : Bool) (e : window q ≡ b) → b ≡ true → place_in q b e ≡ place_of (histories hs q) (ats q)
    key_place q true e t = let r = (x.scanned.each q e).read in sym (on.places q (ats q) r.place (key_of q e) r.known)
    key_place q false e t = absurd cc

    place_is : (q : List ℕ) (b : Bool) (e : window q ≡ b) → in_range low high q ≡ true → place_in q b e ≡ places_at (histories hs) ats q
    place_is q true e i = key_place q true e refl ∙ sym (ap (λ (b : Bool). cond b (place_of (histories hs q) (ats q)) 0) (key_of q e))
    place_is q false e i = sym (ap (λ (b : Bool). cond b (place_of (histories hs q) (ats q)) 0) (outside q e i))

    ends_is : (q : List ℕ) (b : Bool) (e : window q ≡ b) → place_in q b e ≤ length (histories hs q)
    ends_is q true e = let k = key_of q e in let t = to_is q true e in let a = length_key w q k in let m = length-extends (writes_of (seen_of (key_number q) w.knowledge)) (histories hs q) (on.seen q k) in let c = length-map (seen_of (key_number q) w.knowledge) (λ (y : KeyedWrite). y.write) in omega arith
    ends_is q false e = omega arith

    states : (q : List ℕ) (b : Bool) → in_range low high q ≡ b → cond b (state_at (histories hs q) (places_at (histories hs) ats q)) None ≡ cond b (state_at (histories hs q) (reads q)) None
    states q true i = ap (state_at (histories hs q)) (sym (place_is q (window q) refl i))
    states q false i = refl

    told : (ps : List Pair) → AllByRecursion (λ (p : Pair). (window p.key ≡ true) × (p.at ≡ ats p.key)) ps → AllByRecursion (λ (p : Pair). place_of (histories hs p.key) p.at ≡ reads p.key) ps
    told [] t = tt
    told (p ∷ ps) t = (ap (place_of (histories hs p.key)) t.0.1 ∙ sym (key_place p.key (window p.key) refl t.0.0), told ps t.1)

    fits : PairsFit (histories hs) low high pairs scan_turn
    fits = record {
      reads = reads;
      fits = record {
        from = λ q i. omega arith;
        to = λ q i. ends_is q (window q) refl;
        reads = λ q. (scan_fits (histories hs) way low high (view_of z n v) (view_of z n w) pairs low_bound high_bound x on).reads q ∙ states q (in_range low high q) refl;
        each = told pairs x.scanned.told;
      };
      places = λ q. refl;
      floors = λ q. refl;
    }

    -- each number that it tells, and that of each key that it read, was found
    module _ (all : List Sight) (more : Begins w.findings.sights all) where
      numbers : (ps : List Pair) → AllByRecursion (λ (p : Pair). SightedSince (key_number p.key) p.at v.findings w.findings) ps → AllByRecursion (λ (p : Pair). (bare : Bool) × SightedIn n (key_number p.key) p.at bare all) ps
      numbers [] t = tt
      numbers (p ∷ ps) t = ((false, sighted_in n (key_number p.key) p.at v w x.later.learns.sights t.0 all more), numbers ps t.1)

      absences : (q : List ℕ) (r : ℕ) → is_key q ≡ true → within_range low high reads q ≡ Some r → (at : ℕ) × ((bare : Bool) × SightedIn n (key_number q) at bare all) × (place_of (histories hs q) at ≡ r)
      absences q r k e =
          let p = placed_within low high reads q r e in
          let f = scan_found (histories hs) way low high (view_of z n v) (view_of z n w) pairs low_bound high_bound x on q k p.0 in
          (ats q, (false, sighted_in n (key_number q) (ats q) v w x.later.learns.sights f.0 all more), f.1 ∙ (sym (place_is q (window q) refl p.0) ∙ p.1))

  module _ (names : Names) where
    views : (d : Way) (h : Histories) (t : Turn) → ViewFits h names t (scan_call d low high)
    views Up h t = tt
    views Down h t = tt

    in_order : (d : Way) (h : Histories) → IsInOrder d pairs → PairsFit h low high pairs scan_turn → ScanTurnFits h scan_turn (scan_call d low high)
    in_order Up h o f = (o, f)
    in_order Down h o f = (o, f)

    removal : (d : Way) (c : Closing) (thread : ℕ) (y : Reply) → RemovalFound c thread n names (scan_call d low high) y
    removal Up c thread y = tt
    removal Down c thread y = tt

    asked : (d : Way) → ask_of (scan_call d low high) ≡ None
    asked Up = refl
    asked Down = refl

    -- Behind a scan of which the pass learned in its n-th call.
    pub scan_turned : Turned z n names scan_turn v w
    scan_turned = let l = x.later.learns in record {
      extends = l.all.seen;
      remembers = l.all.remembers;
      met = l.met;
      finds = finds_more n v w l;
      loaded = l.all.loaded;
      numbers = l.all.numbers;
      order = order;
      wrote = [];
      calls = tt;
      mine = l.all.mine ∙ sym (append-nil v.knowledge.mine);
      marks = λ q e. rw (asked way) (none_marked (key_number q));
      answers = λ hs b. rw (asked way) tt;
      view = λ hs b. views way (histories hs) scan_turn;
      scan = λ hs b. in_order way (histories hs) x.ordered (fits hs b);
      refusal = λ by hs used retired open_rooms b f. tt;
      finding = λ by hs used retired open_rooms b f.
          let found = pairs_found (histories hs) way low high (view_of z n v) (view_of z n w) pairs low_bound high_bound x (go_on w hs b) in
          let more : Begins w.findings.sights (by v.numbers.number).sights = subst (λ (i : ℕ). Begins w.findings.sights (by i).sights) (ap (λ (m : Numbers). m.number) l.all.numbers) f.sights in
          let all = (by v.numbers.number).sights in
          record {
            numbers = numbers hs b all more pairs found;
            absences = λ m q r k e. absences hs b all more q r k e;
            removal = removal way (closing_by by hs used z retired open_rooms) v.numbers.number (replies.Pairs pairs);
          };
    }
