-- What a part of a call found, the whole call found: the part goes from v to w, and the call from u to t.
use Rattle.std.proofs.Common.{◌≡◌, ℕ, ◌+◌, ◌++◌, List, length, sym, refl, ap, ◌∙◌, subst, inl, inr, arith, append_assoc, Option, Some, None}
use Rattle.oak_model.specs.declared.cells.CellCall.{CellCall}
use Rattle.oak_model.specs.declared.classes.Class.{Class}
use Rattle.oak_model.specs.declared.replies.Lack.{Lack}
use Rattle.oak_model.specs.declared.replies.Lack.TheVariants.{Block, Header, Room}
use Rattle.oak_model.specs.Cell.{state_after}
use Rattle.oak_model.specs.Counts.{Has}
use Rattle.oak_model.specs.KeyNumber.{key_number}
use Rattle.oak_model.specs.Limits.{Sizes}
use Rattle.oak_model.specs.State.{State}
use Rattle.oak_model.proofs.Lists.{at_longer, each_append}
use Rattle.oak_core.specs.declared.states.Finding.{Finding}
use Rattle.oak_core.specs.declared.states.PassState.{PassState}
use Rattle.oak_core.specs.declared.states.Sight.{Sight}
use Rattle.oak_core.specs.CallSteps.{MetMore, SightsMore, Learns, Stands}
use Rattle.oak_core.specs.CountReads.{SightedBare}
use Rattle.oak_core.specs.Finding.{FoundThere}
use Rattle.oak_core.specs.KnownPlaces.{ReadAt}
use Rattle.oak_core.specs.LastReads.{EndsAs, ReadsLast}
use Rattle.oak_core.specs.Memory.{Spot}
use Rattle.oak_core.specs.PassState.{bare_state}
use Rattle.oak_core.specs.Lack.{TookBut}
use Rattle.oak_core.specs.QuietSteps.{MetOnly, Quiet}
use Rattle.oak_core.specs.Sights.{SightedSince}
use Rattle.oak_core.proofs.calls.CallSteps.{stands_learns, step_in, step_until}
use Rattle.oak_core.proofs.calls.FoundThere.{found_first, found_later}
use Rattle.oak_core.proofs.known.KnownReads.{read_since, read_stays}
use Rattle.oak_core.proofs.memory.MetLists.{at_behind, at_inside}
use Rattle.oak_core.proofs.known.PinsKnown.{has_first, has_later}
use Rattle.chunk_ops.specs.Adds.{FoundOther, LeavesCount}
use Rattle.chunk_ops.specs.AskedRanges.{CoversKey}
use Rattle.chunk_ops.specs.Contents.{EntryNamed}
use Rattle.chunk_ops.specs.RoomPins.{FoundMoved}
use Rattle.chunk_ops.specs.Setting.{FoundSet}
use Rattle.chunk_ops.proofs.FoundRooms.{moved_within}
use Rattle.point_ops.specs.FoundWords.{FoundWord, FoundChanged, FoundApart, FoundHad}
use Rattle.point_ops.specs.Halting.BusyBy.{locked, dead, pinned, rose, crossed, changed}
use Rattle.point_ops.specs.Halting.{AllTaken, BusyBy, EntryChanged, Halts, IsTaken, IsUnfree, KeyHeaderFound, KeyHeaderRose, NoneFree, RoomChanged, RoomCrowded, SpareNow}
use Rattle.point_ops.specs.Needs.{Needs, NeedsNow}
use Rattle.point_ops.specs.declared.halts.Halt.{Halt}
use Rattle.point_ops.specs.declared.halts.Halt.TheVariants.{Busy, Moved, Crowded, NoBlock, NoHeader}
use Rattle.point_ops.proofs.OwnSteps.{only_in, quiet_but, quiet_leaves}

-- one of the findings in the middle of three lists
abbrev middle : (z : Sizes) (call : ℕ) (p : Spot) (P : ℕ → Type 0) (a b c : List Finding) → FoundThere z call p bare_state b P → FoundThere z call p bare_state (a ++ (b ++ c)) P
middle z call p P a b c f = found_later z call p bare_state bare_state a (b ++ c) P refl (found_first z call p bare_state b c P f)

module _ (call : ℕ) (u v w t : PassState) (a : MetMore call u v) (b : MetMore call w t) where
  met_in : (more : List Finding) → w.findings.met ≡ v.findings.met ++ more → t.findings.met ≡ u.findings.met ++ (a.more ++ (more ++ b.more))
  met_in more e = b.met ∙ (ap (λ (l : List Finding). l ++ b.more) (e ∙ ap (λ (l : List Finding). l ++ more) a.met)
      ∙ (append_assoc (u.findings.met ++ a.more) more b.more ∙ append_assoc u.findings.met a.more (more ++ b.more)))

  module _ (z : Sizes) (p : Spot) where
    pub word_in : (P : ℕ → Type 0) → FoundWord z call p P v w → FoundWord z call p P u t
    word_in P f = record { more = a.more ++ (f.more ++ b.more); met = met_in f.more f.met; found = middle z call p P a.more f.more b.more f.found }

    pub apart_in : (g : ℕ → ℕ) → FoundApart z call p g v w → FoundApart z call p g u t
    apart_in g f = record {
      more = a.more ++ (f.more ++ b.more);
      met = met_in f.more f.met;
      one = middle z call p (λ _. Unit {0}) a.more f.more b.more f.one;
      other = middle z call p (λ _. Unit {0}) a.more f.more b.more f.other;
      apart = f.apart;
    }

    pub changed_in : (P Q : ℕ → Type 0) → FoundChanged z call p P Q v w → FoundChanged z call p P Q u t
    changed_in P Q f = record {
      more = a.more ++ (f.more ++ b.more);
      met = met_in f.more f.met;
      first = middle z call p P a.more f.more b.more f.first;
      second = middle z call p Q a.more f.more b.more f.second;
      order = let o = f.order in omega arith;
    }

  module _ (z : Sizes) (p : Spot) (Q : ℕ → ℕ → Type 0) where
    pub had_in : FoundHad z call p Q v w → FoundHad z call p Q u t
    had_in f = record {
      more = a.more ++ (f.more ++ b.more);
      met = met_in f.more f.met;
      place = length a.more + f.place;
      finding = f.finding;
      there = at_behind a.more (f.more ++ b.more) f.place f.finding (at_longer f.more b.more f.place f.finding f.there);
      call_is = f.call_is;
      word_is = f.word_is;
      number = f.number;
      found_is = f.found_is;
      shows = f.shows;
    }

  module _ (z : Sizes) where
    pub named_in : (r i : ℕ) (key : List ℕ) (h g : ℕ) → EntryNamed z call r i key h g v w → EntryNamed z call r i key h g u t
    named_in r i key h g s = record { step = step_in z call _ u v w t a b s.step; home = s.home; taught = s.taught }

    abbrev other_in : (r : ℕ) → FoundOther z call r v w → FoundOther z call r u t
    other_in r f = record {
      place = f.place;
      is = f.is;
      first = step_in z call _ u v w t a b f.first;
      look = f.look;
      names = f.names;
      second = step_until z call _ f.first.to w t b f.second;
      other = f.other;
      left = f.left;
    }

    pub crossed_in : (key : List ℕ) → RoomChanged z call key v w → RoomChanged z call key u t
    crossed_in key f = record { r = f.r; found = other_in f.r f.found; covers = f.covers }

    pub set_in : (r i floor : ℕ) (key : List ℕ) → FoundSet z call r i floor key v w → FoundSet z call r i floor key u t
    set_in r i floor key f = record { new = f.new; kind = f.kind; step = step_in z call _ u v w t a b f.step; entry = f.entry; other = f.other }

    pub moved_in : (key : List ℕ) → FoundMoved z call (CoversKey key) v w → FoundMoved z call (CoversKey key) u t
    moved_in key = moved_within z call (CoversKey key) u v w t a b

    bit_in : (c : Class) (spare : Option ℕ) (i : ℕ) → IsTaken z call c spare i v w → IsTaken z call c spare i u t
    bit_in c spare i (inl x) = inl (had_in z _ _ x)
    bit_in c spare i (inr x) = inr (x.0, had_in z _ _ x.1)

    pub taken_in : (c : Class) (spare : Option ℕ) → AllTaken z call c spare v w → AllTaken z call c spare u t
    taken_in c spare f i l = bit_in c spare i (f i l)

    unfree_in : (h : ℕ) → IsUnfree z call h v w → IsUnfree z call h u t
    unfree_in h (inl x) = inl (word_in z _ _ x)
    unfree_in h (inr x) = inr (apart_in z _ _ x)

    pub free_in : NoneFree z call v w → NoneFree z call u t
    free_in f h l = unfree_in h (f h l)

    pub header_in : (key : List ℕ) (P : ℕ → ℕ → Type 0) → KeyHeaderFound z call key P v w → KeyHeaderFound z call key P u t
    header_in key P f = record { r = f.r; i = f.i; h = f.h; g = f.g; named = named_in f.r f.i key f.h f.g f.named; found = word_in z _ (P f.g) f.found }

    pub rose_in : (key : List ℕ) → KeyHeaderRose z call key v w → KeyHeaderRose z call key u t
    rose_in key f = record { r = f.r; i = f.i; h = f.h; g = f.g; named = named_in f.r f.i key f.h f.g f.named; found = changed_in z _ _ _ f.found }

-- what one part found, and then another, is found as a change
pub changed_both : (z : Sizes) (call : ℕ) (p : Spot) (P Q : ℕ → Type 0) (u v w : PassState) → FoundWord z call p P u v → FoundWord z call p Q v w → FoundChanged z call p P Q u w
changed_both z call p P Q u v w a b = record {
  more = a.more ++ b.more;
  met = b.met ∙ (ap (λ (l : List Finding). l ++ b.more) a.met ∙ append_assoc u.findings.met a.more b.more);
  first = found_first z call p bare_state a.more b.more P a.found;
  second = found_later z call p bare_state bare_state a.more b.more Q refl b.found;
  order = let i = at_inside a.more a.found.place a.found.finding a.found.there in omega arith;
}

-- ---- what was found for the key

-- the sights of the middle one of three
module _ (call : ℕ) (u v w t : PassState) (a : SightsMore call u v) (b : SightsMore call w t) where
  sights_in : (more : List Sight) → w.findings.sights ≡ v.findings.sights ++ more → t.findings.sights ≡ u.findings.sights ++ (a.more ++ (more ++ b.more))
  sights_in more e = b.sights ∙ (ap (λ (l : List Sight). l ++ b.more) (e ∙ ap (λ (l : List Sight). l ++ more) a.sights)
      ∙ (append_assoc (u.findings.sights ++ a.more) more b.more ∙ append_assoc u.findings.sights a.more (more ++ b.more)))

  has_middle : (s : Sight) (more : List Sight) → Has s more → Has s (a.more ++ (more ++ b.more))
  has_middle s more h = has_later a.more (more ++ b.more) s (has_first more b.more s h)

  pub sighted_in : (k at : ℕ) → SightedSince k at v.findings w.findings → SightedSince k at u.findings t.findings
  sighted_in k at f = (a.more ++ (f.0 ++ b.more), sights_in f.0 f.1, record { sight = f.2.sight; there = has_middle f.2.sight f.0 f.2.there; just = f.2.just })

  pub bare_in : (k at : ℕ) → SightedBare call k at v w → SightedBare call k at u t
  bare_in k at f = record {
    more = a.more ++ (f.more ++ b.more);
    sights = sights_in f.more f.sights;
    calls = each_append (λ (s : Sight). s.call ≡ call) a.more (f.more ++ b.more) a.calls (each_append (λ (s : Sight). s.call ≡ call) f.more b.more f.calls b.calls);
    sighted = record { sight = f.sighted.sight; there = has_middle f.sighted.sight f.more f.sighted.there; just = f.sighted.just; bare = f.sighted.bare };
  }

-- a key that was found without an entry was found so at its number
pub bare_sighted : (call k at : ℕ) (v w : PassState) → SightedBare call k at v w → SightedSince k at v.findings w.findings
bare_sighted call k at v w f = (f.more, f.sights, record { sight = f.sighted.sight; there = f.sighted.there; just = f.sighted.just })

-- ---- reads

-- what a part read that came behind others, and behind which nothing was learned, is the last that was read
pub last_in : (call k at : ℕ) (s : State) (u v w t : PassState) → Learns call u v → Stands call w t → ReadsLast k at s v w → ReadsLast k at s u t
last_in call k at s u v w t a b r = record {
  read = read_stays k at s u w t c.all.seen c.all.remembers (read_since k at s u v w a.all.seen r.read);
  sighted = sighted_in call u v w t a.sights c.sights k at r.sighted;
  ends = subst (EndsAs k at s) (sym b.knowledge) r.ends;
}
  where
    c : Learns call w t
    c = stands_learns call w t b

-- ---- refusals

module _ (z : Sizes) (call : ℕ) (key : List ℕ) (u v w t : PassState) (a : Learns call u v) (b : Learns call w t) where
  pub read_in : (at : ℕ) (s : State) → ReadAt (key_number key) at s v w → ReadAt (key_number key) at s u t
  read_in at s r = read_stays (key_number key) at s u w t b.all.seen b.all.remembers (read_since (key_number key) at s u v w a.all.seen r)

  -- no part stored to the count of a room, nor to a key word of it
  pub crowded_in : ((r : ℕ) → MetOnly (LeavesCount z r) u v) → ((r : ℕ) → MetOnly (LeavesCount z r) w t) → RoomCrowded z call key v w → RoomCrowded z call key u t
  crowded_in before behind f = record {
    r = f.r;
    step = step_in z call _ u v w t a.met b.met f.step;
    full = f.full;
    covers = f.covers;
    none = f.none;
    base = f.base;
    absent = record { read = read_in f.base None f.absent.read; sighted = bare_in call u v w t a.sights b.sights (key_number key) f.base f.absent.sighted };
    own = only_in (LeavesCount z f.r) u v w t (before f.r) f.own (behind f.r);
  }

  pub entry_in : EntryChanged z call key v w → EntryChanged z call key u t
  entry_in f = record { r = f.r; i = f.i; floor = f.floor; found = set_in call u v w t a.met b.met z f.r f.i f.floor key f.found; sighted = sighted_in call u v w t a.sights b.sights (key_number key) f.floor f.sighted; read = read_in f.floor None f.read }

  needs_with : (at : ℕ) (lack : Lack) (s s' : State) → Needs lack key s s' (SightedBare call (key_number key) at v w) → Needs lack key s s' (SightedBare call (key_number key) at u t)
  needs_with at (Block c) s s' (inl n) = inl n
  needs_with at (Block c) s s' (inr n) = inr (n.0, n.1, n.2, bare_in call u v w t a.sights b.sights (key_number key) at n.3)
  needs_with at Header s s' n = n
  needs_with at Room s s' n = (n.0, n.1, bare_in call u v w t a.sights b.sights (key_number key) at n.2)

  pub needs_in : (ask : CellCall) (lack : Lack) → NeedsNow call key ask lack v w → NeedsNow call key ask lack u t
  needs_in ask lack f = record {
    at = f.at;
    before = f.before;
    read = read_in f.at f.before f.read;
    sighted = sighted_in call u v w t a.sights b.sights (key_number key) f.at f.sighted;
    needs = needs_with f.at lack f.before (state_after f.before ask) f.needs;
  }

  spare_in : (ask : CellCall) (c : Class) (spare : Option ℕ) → SpareNow spare c call key ask v w → SpareNow spare c call key ask u t
  spare_in ask c None f = tt
  spare_in ask c (Some i) f = (f.0, f.1, (f.2.0, bare_in call u v w t a.sights b.sights (key_number key) f.2.0 f.2.1))

  pub busy_in : (ask : CellCall) → BusyBy z call key ask v w → BusyBy z call key ask u t
  busy_in ask (locked f) = locked (header_in call u v w t a.met b.met z key _ f)
  busy_in ask (dead s f) = dead s (header_in call u v w t a.met b.met z key _ f)
  busy_in ask (pinned s f) = pinned s (header_in call u v w t a.met b.met z key _ f)
  busy_in ask (rose s f) = rose s (rose_in call u v w t a.met b.met z key f)
  busy_in ask (crossed s f) = crossed s (crossed_in call u v w t a.met b.met z key f)
  busy_in ask (changed s f) = changed s (entry_in f)

  -- before and behind it the call only loaded, pinned and undid pins
  module _ (first : Quiet u v) (last : Quiet w t) where
    pub halts_in : (why : Halt) (ask : CellCall) → Halts why z call key ask v w → Halts why z call key ask u t
    halts_in Busy ask f = busy_in ask f
    halts_in Moved ask f = moved_in call u v w t a.met b.met z key f
    halts_in Crowded ask f = (crowded_in (λ r. quiet_leaves z r u v first) (λ r. quiet_leaves z r w t last) f.0, needs_in ask Room f.1)
    halts_in (NoBlock c) ask f = (f.0, taken_in call u v w t a.met b.met z c f.0 f.1, needs_in ask (Block c) f.2, spare_in ask c f.0 f.3, only_in (TookBut (Block c) f.0) u v w t (quiet_but u v c f.0 first) f.4 (quiet_but w t c f.0 last))
    halts_in NoHeader ask f = (free_in call u v w t a.met b.met z f.0, needs_in ask Header f.1)
