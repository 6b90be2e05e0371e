-- The turn of a call on a key that gave up.
use Rattle.std.proofs.Common.{◌≡◌, ℕ, ◌&&◌, Bool, true, false, List, [], ◌∷◌, ◌++◌, cond, length, map, Option, Some, None, refl, sym, ap, subst, ◌∙◌, inl}
use Rattle.std.specs.Prelude.{IsSomeAnd, MatchOption, ⊤}
use Rattle.oak_model.specs.declared.cells.CellCall.{CellCall}
use Rattle.oak_model.specs.declared.replies.Lack.{Lack}
use Rattle.oak_model.specs.declared.replies.Reply.TheVariants as replies
use Rattle.oak_model.specs.declared.replies.Wrote.TheVariants as wrote
use Rattle.oak_model.specs.declared.shapes.Usage.{Usage}
use Rattle.oak_model.specs.Counts.{Begins, Has}
use Rattle.oak_model.specs.History.{History, place_of, state_at}
use Rattle.oak_model.specs.Key.{is_key}
use Rattle.oak_model.specs.KeyNumber.{key_number}
use Rattle.oak_model.specs.Limits.{Sizes}
use Rattle.oak_model.specs.Needs.{NeedsOn}
use Rattle.oak_model.specs.State.{State}
use Rattle.oak_core.specs.declared.states.Finding.{Finding}
use Rattle.oak_core.specs.declared.states.Findings.{Findings}
use Rattle.oak_core.specs.declared.states.Full.{Full}
use Rattle.oak_core.specs.declared.states.KeyedWrite.{KeyedWrite}
use Rattle.oak_core.specs.declared.states.Knowledge.{Knowledge}
use Rattle.oak_core.specs.declared.states.Numbers.{Numbers}
use Rattle.oak_core.specs.declared.states.PassState.{PassState}
use Rattle.oak_core.specs.declared.states.Sight.{Sight}
use Rattle.oak_core.specs.CountReads.{SightedBare}
use Rattle.oak_core.specs.Finding.{finding}
use Rattle.oak_core.specs.KeyHistories.{writes_of}
use Rattle.oak_core.specs.KnownPlaces.{KnowsPlace, Remembers}
use Rattle.oak_core.specs.Memory.{at_given}
use Rattle.oak_core.specs.PassState.{of_key, seen_of}
use Rattle.oak_core.proofs.calls.CallSteps.{begins_same, met_both}
use Rattle.oak_core.proofs.known.PinsKnown.{has_first, has_later}
use Rattle.oak_map.specs.Replying.{AnswersFull}
use Rattle.oak_script.specs.declared.scripts.Call.{Call}
use Rattle.oak_run.specs.Answers.{CellAnswer, asks_for, mark_of, writes_key}
use Rattle.oak_run.specs.Behind.{GoesBehind, histories}
use Rattle.oak_run.specs.Closing.{Closing}
use Rattle.oak_run.specs.MapTurns.{Turned}
use Rattle.oak_run.specs.Refusals.{IsLacking, Needs}
use Rattle.oak_run.specs.Shown.{FindsMore, SightedIn, closing_by}
use Rattle.oak_run.specs.Told.{Ask, ask_of}
use Rattle.oak_run.specs.Turn.{Turn}
use Rattle.oak_run.specs.Views.{Names}
use Rattle.oak_run.proofs.AnsweredBehind.{behind_before, behind_state, key_history}
use Rattle.oak_run.proofs.BehindLaws.{finds_before}
use Rattle.oak_run.proofs.LackedCalls.{lacked_by, lacked_more, notes_find, spare_fits, tries_find}
use Rattle.oak_run.proofs.LackNeeds.{NeedsBare, needs_on}
use Rattle.oak_run.proofs.OwnMarks.{MarkedSo, marks_none}
use Rattle.oak_run.proofs.SightedCalls.{ask_removal, bare_by, sighted_by, sighted_more}
use Rattle.oak_run.proofs.TurnLaws.{ask-scans, ask-views}

-- a turn at no place
abbrev pub full_turn : Call → Lack → Turn
full_turn c lack = record { call = c; reply = replies.Wrote (wrote.Full lack); places = λ q. None; floors = λ q. None }

none_some : {A : Type 0} (x : A) → let none : Option A = None in none ≡ Some x → ⊥
none_some x e = cc

module _ (z : Sizes) (n : ℕ) (names : Names) (c : Call) (key : List ℕ) (cell : CellCall) (lack : Lack) (v w : PassState) (is : is_key key ≡ true) (asks : ask_of c ≡ Some (record { key = key; cell = cell })) (g : AnswersFull z n key cell lack v w) where
  abbrev k : ℕ
  k = key_number key

  abbrev a : Ask
  a = record { key = key; cell = cell }

  abbrev t : Turn
  t = full_turn c lack

  abbrev refused : Full
  refused = record { call = n; lack = lack }

  -- noting is all that is behind the tries
  abbrev noting : Finding
  noting = finding z n at_given (Some g.notes.number) g.notes.number g.notes.told.table.words g.last

  knows : w.knowledge ≡ g.last.knowledge
  knows = ap (λ (x : PassState). x.knowledge) g.notes.after

  numbered : w.numbers ≡ v.numbers
  numbered = ap (λ (x : PassState). x.numbers) g.notes.after ∙ g.tries.holds.numbers

  noted : w.findings.fulls ≡ v.findings.fulls ++ refused ∷ []
  noted = ap (λ (x : PassState). x.findings.fulls) g.notes.after ∙ ap (λ (l : List Full). l ++ refused ∷ []) g.tries.holds.fulls

  sighted : w.findings.sights ≡ g.last.findings.sights
  sighted = ap (λ (x : PassState). x.findings.sights) g.notes.after

  noting_finds : FindsMore g.last.findings w.findings
  noting_finds = notes_find z n lack g.last w g.notes

  finds : FindsMore v.findings w.findings
  finds = finds_before v.findings g.last.findings w.findings (tries_find z n v g.last g.tries) noting_finds

  own : MarkedSo n key 0 false v w
  own = marks_none n key 0 v w (ap (λ (q : Knowledge). q.mine) knows ∙ g.tries.mine)

  marks : (q : List ℕ) → is_key q ≡ true → map mark_of (writes_of (of_key (key_number q) own.wrote)) ≡ cond (writes_key q t) (record { stamp = 0; caller = v.numbers.number; call = n } ∷ []) []
  marks q j = own.marks q j ∙ (λ i. cond (asks_for q (sym asks i) && false) (record { stamp = 0; caller = v.numbers.number; call = n } ∷ []) [])

  -- ---- what it needs

  needed : NeedsBare lack key g.needs.before cell (SightedBare n k g.needs.at v g.last)
  needed = needs_on lack key g.needs.before cell (SightedBare n k g.needs.at v g.last) g.needs.needs

  found_so : (b : Bool) → (b ≡ true → SightedBare n k g.needs.at v g.last) → SightedIn n k g.needs.at b g.last.findings.sights
  found_so false so = sighted_by n k g.needs.at v g.last g.tries.goes.sights g.needs.sighted
  found_so true so = bare_by n k g.needs.at v g.last (so refl)

  -- the histories go on from what the tries saw
  tried_behind : (hs : ℕ → List KeyedWrite) → GoesBehind w hs → GoesBehind g.last hs
  tried_behind hs b = behind_before g.last w hs (λ j. begins_same (seen_of j g.last.knowledge) (seen_of j w.knowledge) (ap (seen_of j) knows)) (λ j at r known. subst (λ (q : Knowledge). KnowsPlace j at r q) (sym knows) known) b

  state_there : (hs : ℕ → List KeyedWrite) → GoesBehind w hs → state_at (histories hs key) (place_of (histories hs key) g.needs.at) ≡ g.needs.before
  state_there hs b = let p = tried_behind hs b in
      ap (λ (h : History). state_at h (place_of h g.needs.at)) (key_history hs key is)
      ∙ (ap (λ (m : ℕ). state_at (writes_of (hs k)) m) (p.places k g.needs.at g.needs.read.place g.needs.read.known) ∙ (behind_state g.last hs k g.needs.read.place p g.needs.read.to ∙ g.needs.read.state))

  module _ (by : ℕ → Findings) (hs : ℕ → List KeyedWrite) (used : Usage) (retired open_rooms : ℕ) (behind : GoesBehind w hs) (more : FindsMore w.findings (by w.numbers.number)) where
    abbrev shown : Closing
    shown = closing_by by hs used z retired open_rooms

    abbrev me : ℕ
    me = v.numbers.number

    more_here : FindsMore w.findings (by me)
    more_here = subst (λ (x : Numbers). FindsMore w.findings (by x.number)) numbered more

    stands : Has refused (by me).fulls
    stands = subst (λ (l : List Full). Has refused l) (sym more_here.fulls.1) (has_first w.findings.fulls more_here.fulls.0 refused (subst (λ (l : List Full). Has refused l) (sym noted) (has_later v.findings.fulls (refused ∷ []) refused (inl refl))))

    needs_there : Needs shown me n a lack
    needs_there = record {
      at = g.needs.at;
      bare = needed.bare;
      found = sighted_more n k g.needs.at needed.bare w.findings.sights (by me).sights more_here.sights (subst (λ (l : List Sight). SightedIn n k g.needs.at needed.bare l) (sym sighted) (found_so needed.bare needed.so));
      needs = subst (λ (s : State). NeedsOn s (length key) needed.bare cell lack) (sym (state_there hs behind)) needed.needs;
    }

    -- a spare block is the call's own
    sighted_bare : (at : ℕ) → SightedBare n k at v g.last → SightedIn n k at true (by me).sights
    sighted_bare at f = sighted_more n k at true w.findings.sights (by me).sights more_here.sights (subst (λ (l : List Sight). SightedIn n k at true l) (sym sighted) (bare_by n k at v g.last f))

    lacking_there : IsLacking shown me n a lack
    lacking_there = record {
      spare = g.spare;
      spared = spare_fits lack g.spare n v g.last shown me a (λ at f. sighted_bare at f) g.spared;
      lacked = lacked_more z n lack k g.spare g.last.findings (by me) (finds_before g.last.findings w.findings (by me) noting_finds more_here) (lacked_by z n key cell lack v w g);
    }

    refusal : Has refused (by me).fulls × IsSomeAnd (ask_of c) (λ x. Needs shown me n x lack × IsLacking shown me n x lack)
    refusal = (stands, subst (λ (o : Option Ask). IsSomeAnd o (λ x. Needs shown me n x lack × IsLacking shown me n x lack)) (sym asks) (needs_there, lacking_there))

  pub full_turned : Turned z n names t v w
  full_turned = record {
    extends = λ j. subst (λ (q : Knowledge). Begins (seen_of j v.knowledge) (seen_of j q)) (sym knows) (g.tries.goes.seen j);
    remembers = subst (λ (q : Knowledge). Remembers v.knowledge q) (sym knows) g.tries.goes.remembers;
    met = met_both n v g.last w g.tries.goes.met (record { more = noting ∷ []; met = ap (λ (x : PassState). x.findings.met) g.notes.after; calls = (refl, tt) });
    finds = finds;
    loaded = subst (λ (q : Knowledge). Begins v.knowledge.loaded q.loaded) (sym knows) g.tries.goes.loaded;
    numbers = numbered;
    order = record { places = λ q s e. absurd (none_some s e); later = λ q s e. absurd (none_some s e); floors = λ q s e. absurd (none_some s e) };
    wrote = own.wrote;
    calls = own.calls;
    mine = own.mine;
    marks = marks;
    answers = λ hs b. subst (λ (o : Option Ask). MatchOption o ⊤ (λ x. CellAnswer (histories hs) v.numbers.number n x t)) (sym asks) (record { places = λ q. refl; floors = λ q. refl });
    view = λ hs b. ask-views (histories hs) names t c a asks;
    scan = λ hs b. ask-scans (histories hs) t c a asks;
    refusal = refusal;
    finding = λ by hs used retired open_rooms b m. record {
      numbers = tt;
      absences = λ reads q s j e. absurd (none_some s e);
      removal = ask_removal (closing_by by hs used z retired open_rooms) v.numbers.number n names c a (replies.Wrote (wrote.Full lack)) asks;
    };
  }
