-- The moments of one call, one behind another: what was read between two of them was read since every earlier one, and until every later one.
use Rattle.std.proofs.Common.{◌≡◌, ℕ, List, ◌++◌, refl, ap, ◌∙◌, subst, append_assoc}
use Rattle.oak_model.specs.Counts.{Begins}
use Rattle.oak_model.specs.KeyNumber.{key_number}
use Rattle.oak_model.specs.Limits.{Sizes}
use Rattle.oak_model.specs.State.{State}
use Rattle.oak_core.specs.declared.states.Findings.{Findings}
use Rattle.oak_core.specs.declared.states.PassState.{PassState}
use Rattle.oak_core.specs.declared.states.Sight.{Sight}
use Rattle.oak_core.specs.CallSteps.{Learns}
use Rattle.oak_core.specs.QuietSteps.{IsQuiet, Quiet}
use Rattle.oak_core.specs.Sights.{SightedSince}
use Rattle.oak_core.proofs.calls.CallSteps.{learns_both, learns_none}
use Rattle.oak_core.proofs.known.KnownReads.{read_since, read_stays}
use Rattle.oak_core.proofs.known.PinsKnown.{has_later}
use Rattle.oak_core.proofs.calls.QuietCalls.{only_both, only_none}
use Rattle.oak_core.proofs.lessons.TaughtSteps.{sighted_later}
use Rattle.scan_cursor.specs.declared.reading.Here.{Here}
use Rattle.scan_cursor.specs.declared.reading.Here.TheVariants.{Present, Absent, Again}
use Rattle.scan_cursor.specs.Reading.{ReadsHere}
use Rattle.scan_cursor.specs.Views.{Later, ReadsKey, View, view_of}

-- a part of the call that may have learned
pub later_by : (z : Sizes) (call now : ℕ) (v w : PassState) → now ≡ call → Learns now v w → Quiet v w → Later (view_of z call v) (view_of z call w)
later_by z call now v w e l q = record { sizes = refl; call = refl; learns = subst (λ (i : ℕ). Learns i v w) e l; quiet = q }

pub later_self : (a : View) → Later a a
later_self a = record { sizes = refl; call = refl; learns = learns_none a.call a.state; quiet = only_none IsQuiet a.state a.state refl }

pub later_both : (a b d : View) → Later a b → Later b d → Later a d
later_both a b d x y = record {
  sizes = y.sizes ∙ x.sizes;
  call = y.call ∙ x.call;
  learns = learns_both a.call a.state b.state d.state x.learns (subst (λ (i : ℕ). Learns i b.state d.state) x.call y.learns);
  quiet = only_both IsQuiet a.state b.state d.state x.quiet y.quiet;
}

-- what was found for a key was found since every earlier moment
pub sighted_before : (k at : ℕ) (fs gs hs : Findings) → Begins fs.sights gs.sights → SightedSince k at gs hs → SightedSince k at fs hs
sighted_before k at fs gs hs b s = (b.0 ++ s.0, s.1 ∙ (ap (λ (l : List Sight). l ++ s.0) b.1 ∙ append_assoc fs.sights b.0 s.0), record { sight = s.2.sight; there = has_later b.0 s.0 s.2.sight s.2.there; just = s.2.just })

module _ (k : List ℕ) (at : ℕ) (s : State) (a b d : View) where
  pub read_before : Later a b → ReadsKey b d k at s → ReadsKey a d k at s
  read_before l r = record {
    read = read_since (key_number k) at s a.state b.state d.state l.learns.all.seen r.read;
    sighted = sighted_before (key_number k) at a.state.findings b.state.findings d.state.findings (l.learns.sights.more, l.learns.sights.sights) r.sighted;
  }

  pub read_behind : Later b d → ReadsKey a b k at s → ReadsKey a d k at s
  read_behind l r = record {
    read = read_stays (key_number k) at s a.state b.state d.state l.learns.all.seen l.learns.all.remembers r.read;
    sighted = sighted_later (key_number k) at a.state.findings b.state.findings d.state.findings (l.learns.sights.more, l.learns.sights.sights) r.sighted;
  }

-- so it is of what the read of a key came to
pub here_before : (r : Here) (k : List ℕ) (a b d : View) → Later a b → ReadsHere r k b d → ReadsHere r k a d
here_before (Present x) k a b d l h = (h.0, read_before k _ _ a b d l h.1)
here_before Absent k a b d l h = (h.0, (h.1.0, read_before k h.1.0 _ a b d l h.1.1))
here_before Again k a b d l h = h
