-- A look is a turn that fits: its bytes are of the life that its name stands for, or the removal of that life stands in the history, or the name stands for nothing.
use Rattle.std.proofs.Common.{◌≡◌, ℕ, ◌≤◌, false, cond, Bool, List, [], length, Option, Some, None, refl, sym, ap, ◌∙◌, subst, arith}
use Rattle.std.specs.Prelude.{IsSome, IsSomeAnd, IfSome, take}
use Rattle.oak_model.specs.declared.replies.Reply.TheVariants as replies
use Rattle.oak_model.specs.declared.shapes.Usage.{Usage}
use Rattle.oak_model.specs.Counts.{Begins}
use Rattle.oak_model.specs.History.{History, place_of, state_at}
use Rattle.oak_model.specs.KeyNumber.{key_number}
use Rattle.oak_model.specs.Life.{EndsAt, IsLifeAt}
use Rattle.oak_model.specs.Limits.{Sizes}
use Rattle.oak_model.specs.State.{State}
use Rattle.oak_model.proofs.Lists.{begins_length, begins_trans}
use Rattle.oak_script.specs.declared.scripts.Call.TheVariants.{Look}
use Rattle.oak_core.specs.declared.states.Findings.{Findings}
use Rattle.oak_core.specs.declared.states.KeyedWrite.{KeyedWrite}
use Rattle.oak_core.specs.declared.states.Numbers.{Numbers}
use Rattle.oak_core.specs.declared.states.PassState.{PassState}
use Rattle.oak_core.specs.KeyHistories.{IsRemovedAt, home_behind, state_behind, writes_of}
use Rattle.oak_core.specs.KeyReads.{home_of}
use Rattle.oak_core.specs.PassState.{Extends, seen_of}
use Rattle.oak_core.proofs.seats.AloneRuns.{moment_after}
use Rattle.oak_core.proofs.calls.CallSteps.{learns_both, learns_none}
use Rattle.chunk_ops.specs.RoomPins.{HadMoment}
use Rattle.value_ops.specs.PinnedValues.{ReadsLife}
use Rattle.value_ops.specs.Views.{Viewed}
use Rattle.value_ops.proofs.LearnFacts.{learned_met}
use Rattle.point_ops.specs.Replies.{Refuses}
use Rattle.scan_cursor.specs.Fitting.{seen_length}
use Rattle.oak_map.specs.Lending.{FindsOver}
use Rattle.oak_run.specs.Behind.{GoesBehind, histories}
use Rattle.oak_run.specs.Closing.{WasFound}
use Rattle.oak_run.specs.Findings.{FindingFits}
use Rattle.oak_run.specs.MapTurns.{HoldsLife, Turned}
use Rattle.oak_run.specs.Shown.{FindsMore, OverIn, SightedIn, closing_by}
use Rattle.oak_run.specs.Turn.{PlacedAt, Turn, only_at}
use Rattle.oak_run.specs.Views.{IsGone, Names, Shows, View}
use Rattle.oak_run.proofs.FoundCalls.{has_longer, over_in, removal_known, removal_place, removal_seen, removal_within, sighted_in}
use Rattle.oak_run.proofs.HomeLives.{ended_life, same_life, state_taken}
use Rattle.oak_run.proofs.LookTurns.{taken_first, taken_whole}
use Rattle.oak_run.proofs.QuietTurns.{quiet_turned}
use Rattle.oak_run.proofs.TurnLaws.{only-here}

-- the turns of a look

abbrev pub value_turn : List ℕ → View → List ℕ → ℕ → ℕ → Turn
value_turn a y bytes at r = record { call = Look a; reply = replies.Value y.key bytes at; places = only_at y.key r; floors = only_at y.key r }

abbrev pub over_turn : List ℕ → View → ℕ → Turn
over_turn a y r = record { call = Look a; reply = replies.Gone; places = λ q. None; floors = only_at y.key r }

abbrev pub unheld_turn : List ℕ → Turn
unheld_turn a = record { call = Look a; reply = replies.Unheld; places = λ q. None; floors = λ q. None }

-- of a key that is one the pass has seen so many writes
seen_is : (z : Sizes) (v : PassState) (x : Viewed) (y : View) → HoldsLife z v x y → (w : PassState) → seen_length w y.key ≡ length (seen_of (key_number y.key) w.knowledge)
seen_is z v x y held w = ap (λ (b : Bool). cond b (length (seen_of (key_number y.key) w.knowledge)) 0) held.is_key_is

-- a floor, or a place, at the key alone
at_most : (w : PassState) (k : List ℕ) (p : ℕ) → p ≤ seen_length w k → (q : List ℕ) (r : ℕ) → only_at k p q ≡ Some r → r ≤ seen_length w q
at_most w k p le q r e = let f = only-here k p q r e in subst (λ (i : List ℕ × ℕ). i.1 ≤ seen_length w i.0) (λ j. (f.0 j, f.1 j)) le

at_least : (v : PassState) (k : List ℕ) (p : ℕ) → seen_length v k ≤ p → (q : List ℕ) (r : ℕ) → only_at k p q ≡ Some r → seen_length v q ≤ r
at_least v k p le q r e = let f = only-here k p q r e in subst (λ (i : List ℕ × ℕ). seen_length v i.0 ≤ i.1) (λ j. (f.0 j, f.1 j)) le

none_some : (r : ℕ) → (let none : Option ℕ = None in none ≡ Some r) → ⊥
none_some r e = absurd cc

-- ---- in each history behind

module _ (z : Sizes) (v w : PassState) (x : Viewed) (y : View) (held : HoldsLife z v x y) (more : Extends v w) where
  abbrev before : List KeyedWrite
  before = seen_of (key_number y.key) v.knowledge

  abbrev after : List KeyedWrite
  after = seen_of (key_number y.key) w.knowledge

  grown : length before ≤ length after
  grown = begins_length before after (more (key_number y.key))

  module _ (hs : ℕ → List KeyedWrite) (goes : GoesBehind w hs) where
    abbrev whole : List KeyedWrite
    whole = hs (key_number y.key)

    its : histories hs y.key ≡ writes_of whole
    its = ap (λ (b : Bool). cond b (writes_of whole) []) held.is_key_is

    -- the life that is held has its place
    first : take y.place whole ≡ take y.place before
    first = taken_first before whole y.place (begins_trans before after whole (more (key_number y.key)) (goes.seen (key_number y.key))) held.to

    home_was : home_behind (take y.place whole) ≡ home_of x.header x.generation
    home_was = ap home_behind first ∙ held.home

    held_was : IsSome (state_behind (take y.place whole))
    held_was = subst (λ (l : List KeyedWrite). IsSome (state_behind l)) (sym first) held.held

    all : length after ≤ length whole
    all = begins_length after whole (goes.seen (key_number y.key))

    module _ (at : ℕ) (bytes : List ℕ) (r : ReadsLife x.header x.generation y.key at bytes v w) where
      now : take (length after) whole ≡ after
      now = taken_whole after whole (goes.seen (key_number y.key))

      last : state_behind (take (length after) whole) ≡ Some bytes
      last = ap state_behind now ∙ r.last.ends.state

      place : place_of (histories hs y.key) at ≡ length after
      place = ap (λ (l : History). place_of l at) its ∙ goes.places (key_number y.key) at (length after) r.last.ends.known

      life : IsLifeAt (writes_of whole) y.place (length after)
      life = same_life (key_number y.key) whole (goes.legal (key_number y.key)) (goes.once (key_number y.key)) (home_of x.header x.generation) y.place (length after) (let t = held.to in let g = grown in omega arith) all home_was (ap home_behind now ∙ r.life) held_was
          (subst (λ (s : State). IsSome s) (sym last) refl)

      shows : (t : Turn) → PlacedAt y.key (length after) t → Shows (histories hs) y y.key bytes at t
      shows t placed = record {
        its_key = refl;
        life = subst (λ (i : History × ℕ). IsLifeAt i.0 y.place i.1) (λ j. (sym its j, sym place j)) life;
        bytes = (λ j. state_at (its j) (place j)) ∙ (state_taken (length after) whole ∙ last);
        placed = subst (λ (p : ℕ). PlacedAt y.key p t) (sym place) placed;
      }

    -- a removal that the pass has seen ends it
    ends : (stamp r : ℕ) → IsRemovedAt (home_of x.header x.generation) stamp after → place_of (writes_of whole) stamp ≡ r → EndsAt (histories hs y.key) y.place r
    ends stamp r removed there = subst (λ (i : History × ℕ). EndsAt i.0 y.place i.1) (λ j. (sym its j, there j))
        (ended_life (key_number y.key) whole (goes.legal (key_number y.key)) (goes.once (key_number y.key)) (home_of x.header x.generation) stamp y.place (let t = held.to in let g = grown in let l = all in omega arith) home_was held_was (record {
          write = removed.write;
          there = has_longer after whole removed.write (goes.seen (key_number y.key)) removed.there;
          home_is = removed.home_is;
          after = removed.after;
          stamp_is = removed.stamp_is;
        }))

-- ---- the turns

-- The bytes that a look lent are those of the life that its name stands for.
value_of_own : (z : Sizes) (n : ℕ) (names : Names) (a : List ℕ) (v w : PassState) (x : Viewed) (p at : ℕ) (bytes : List ℕ) → names a ≡ Some (record { key = x.key; place = p }) → HoldsLife z v x (record { key = x.key; place = p }) → Refuses n v w
    → ReadsLife x.header x.generation x.key at bytes v w → Turned z n names (value_turn a (record { key = x.key; place = p }) bytes at (length (seen_of (key_number x.key) w.knowledge))) v w
value_of_own z n names a v w x p at bytes is held quiet r = quiet_turned z n names t v w quiet refl (record {
  order = record {
    places = at_least v x.key (length seen) (let s = seen_is z v x y held v in let g = grown z v w x y held more in omega arith);
    later = λ q s e m. absurd cc;
    floors = at_most w x.key (length seen) (let s = seen_is z v x y held w in omega arith);
  };
  answers = λ hs goes. tt;
  view = λ hs goes. subst (λ (o : Option View). IsSomeAnd o (λ u. Shows (histories hs) u x.key bytes at t)) (sym is) (shows z v w x y held more hs goes at bytes r t (record { places = λ q. refl; floors = λ q. refl }));
  scan = λ hs goes. tt;
  refusal = λ by hs used retired open_rooms goes finds. tt;
  finding = finds_it;
})
  where
    y : View
    y = record { key = x.key; place = p }

    seen : List KeyedWrite
    seen = seen_of (key_number x.key) w.knowledge

    t : Turn
    t = value_turn a y bytes at (length seen)

    more : Extends v w
    more = quiet.learns.all.seen

    found : (by : ℕ → Findings) → FindsMore w.findings (by w.numbers.number) → SightedIn n (key_number x.key) at false (by v.numbers.number).sights
    found by f = sighted_in n (key_number x.key) at v w quiet.learns.sights r.last.sighted (by v.numbers.number).sights (subst (λ (m : Numbers). Begins w.findings.sights (by m.number).sights) quiet.learns.all.numbers f.sights)

    finds_it : (by : ℕ → Findings) (hs : ℕ → List KeyedWrite) (used : Usage) (retired open_rooms : ℕ) → GoesBehind w hs → FindsMore w.findings (by w.numbers.number) → FindingFits (closing_by by hs used z retired open_rooms) v.numbers.number n names t
    finds_it by hs used retired open_rooms goes f = record {
      numbers = (false, found by f);
      absences = λ read q s key placed. let g = only-here x.key (length seen) q s placed in
          subst (λ (i : List ℕ × ℕ). (m : ℕ) × WasFound (closing_by by hs used z retired open_rooms) v.numbers.number n i.0 m × (place_of (histories hs i.0) m ≡ i.1)) (λ j. (g.0 j, g.1 j)) (at, (false, found by f), place z v w x y held more hs goes at bytes r);
      removal = tt;
    }

pub look_turned : (z : Sizes) (n : ℕ) (names : Names) (a : List ℕ) (v w : PassState) (x : Viewed) (y : View) (at : ℕ) (bytes : List ℕ) → names a ≡ Some y → HoldsLife z v x y → Refuses n v w → ReadsLife x.header x.generation x.key at bytes v w
    → Turned z n names (value_turn a y bytes at (length (seen_of (key_number y.key) w.knowledge))) v w
look_turned z n names a v w x y at bytes is held quiet reads =
    subst (λ (q : List ℕ). names a ≡ Some (record { key = q; place = y.place }) → HoldsLife z v x (record { key = q; place = y.place }) → Turned z n names (value_turn a (record { key = q; place = y.place }) bytes at (length (seen_of (key_number q) w.knowledge))) v w) held.key
    (λ i h. value_of_own z n names a v w x y.place at bytes i h quiet reads) is held

-- ---- a life that is over

pub over_refuses : (z : Sizes) (n : ℕ) (x : Viewed) (v w : PassState) → FindsOver z n x v w → Refuses n v w
over_refuses z n x v w f = record { learns = learns_both n v f.tried w (learned_met z n v f.tried v.headers.pin f.tries).learns f.not_read.dud.only.learns; holds = f.holds }

-- the place of its removal, as the pass heard of it
abbrev pub over_place : (z : Sizes) (n : ℕ) (x : Viewed) (v w : PassState) → FindsOver z n x v w → ℕ
over_place z n x v w f = removal_place (key_number x.key) (home_of x.header x.generation) f.gone.0 w.knowledge f.gone.1.removal

-- The life that the name stands for was found over.
over_of_own : (z : Sizes) (n : ℕ) (names : Names) (a : List ℕ) (v w : PassState) (x : Viewed) (p : ℕ) → names a ≡ Some (record { key = x.key; place = p }) → HoldsLife z v x (record { key = x.key; place = p }) → (f : FindsOver z n x v w)
    → Turned z n names (over_turn a (record { key = x.key; place = p }) (over_place z n x v w f)) v w
over_of_own z n names a v w x p is held f = quiet_turned z n names t v w quiet refl (record {
  order = record {
    places = λ q s e. absurd (none_some s e);
    later = λ q s e m. absurd (none_some s e);
    floors = at_most w x.key removal (let s = seen_is z v x y held w in let r = within in omega arith);
  };
  answers = λ hs goes. tt;
  view = λ hs goes. subst (λ (o : Option View). IsSomeAnd o (λ u. IsGone (histories hs) u t)) (sym is) (record {
    removal = removal;
    ends = ends z v w x y held more hs goes f.gone.0 removal stands (goes.places (key_number x.key) f.gone.0 removal (removal_known (key_number x.key) (home_of x.header x.generation) f.gone.0 w.knowledge f.gone.1.removal));
    places = λ q. refl;
    floors = λ q. refl;
  });
  scan = λ hs goes. tt;
  refusal = λ by hs used retired open_rooms goes finds. tt;
  finding = λ by hs used retired open_rooms goes finds. record { numbers = tt; absences = λ read q s key placed. absurd (none_some s placed); removal = finds_it by hs goes finds };
})
  where
    y : View
    y = record { key = x.key; place = p }

    quiet : Refuses n v w
    quiet = over_refuses z n x v w f

    more : Extends v w
    more = quiet.learns.all.seen

    removal : ℕ
    removal = over_place z n x v w f

    t : Turn
    t = over_turn a y removal

    moment : HadMoment z w
    moment = (_, moment_after z n _ f.not_read.dud.looked f.not_read.dud.undone.number w f.not_read.dud.undone.told)

    stands : IsRemovedAt (home_of x.header x.generation) f.gone.0 (seen_of (key_number x.key) w.knowledge)
    stands = removal_seen z moment.0 w moment.1 (key_number x.key) (home_of x.header x.generation) f.gone.0 f.gone.1.removal

    within : removal ≤ length (seen_of (key_number x.key) w.knowledge)
    within = removal_within z moment.0 w moment.1 (key_number x.key) (home_of x.header x.generation) f.gone.0 f.gone.1.removal

    finds_it : (by : ℕ → Findings) (hs : ℕ → List KeyedWrite) → GoesBehind w hs → FindsMore w.findings (by w.numbers.number) → IfSome (names a) (λ u. OverIn n u.key (home_behind (take u.place (hs (key_number u.key)))) (by v.numbers.number).gones)
    finds_it by hs goes finds = subst (λ (o : Option View). IfSome o (λ u. OverIn n u.key (home_behind (take u.place (hs (key_number u.key)))) (by v.numbers.number).gones)) (sym is)
        (subst (λ (home : ℕ). OverIn n x.key home (by v.numbers.number).gones) (sym (home_was z v w x y held more hs goes))
        (over_in z n x v w f (by v.numbers.number).gones (subst (λ (m : Numbers). Begins w.findings.gones (by m.number).gones) quiet.learns.all.numbers finds.gones)))

pub gone_turned : (z : Sizes) (n : ℕ) (names : Names) (a : List ℕ) (v w : PassState) (x : Viewed) (y : View) → names a ≡ Some y → HoldsLife z v x y → (f : FindsOver z n x v w) → Turned z n names (over_turn a y (over_place z n x v w f)) v w
gone_turned z n names a v w x y is held f =
    subst (λ (q : List ℕ). names a ≡ Some (record { key = q; place = y.place }) → HoldsLife z v x (record { key = q; place = y.place }) → Turned z n names (over_turn a (record { key = q; place = y.place }) (over_place z n x v w f)) v w) held.key
    (λ i h. over_of_own z n names a v w x y.place i h f) is held

-- ---- a name that stands for nothing

pub unheld_turned : (z : Sizes) (n : ℕ) (names : Names) (a : List ℕ) (v : PassState) → names a ≡ None → Turned z n names (unheld_turn a) v v
unheld_turned z n names a v is = quiet_turned z n names (unheld_turn a) v v (record { learns = learns_none n v; holds = record { blocks = refl; headers = refl; rooms = refl; numbers = refl; fulls = refl; swept = refl; rebalances = refl } }) refl (record {
  order = record { places = λ q s e. absurd (none_some s e); later = λ q s e m. absurd (none_some s e); floors = λ q s e. absurd (none_some s e) };
  answers = λ hs goes. tt;
  view = λ hs goes. (is, record { places = λ q. refl; floors = λ q. refl });
  scan = λ hs goes. tt;
  refusal = λ by hs used retired open_rooms goes finds. tt;
  finding = λ by hs used retired open_rooms goes finds. record { numbers = tt; absences = λ read q s key placed. absurd (none_some s placed); removal = tt };
})
