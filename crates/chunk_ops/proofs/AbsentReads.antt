-- An absence that was found at one step of a call is found in the whole of it, where the call learned before the step, and nothing behind it.
use Rattle.std.proofs.Common.{◌≡◌, ℕ, List, [], ◌∷◌, ◌++◌, sym, refl, ap, ◌∙◌, subst, append_assoc, None}
use Rattle.oak_model.specs.Counts.{Each}
use Rattle.oak_model.specs.Limits.{Sizes}
use Rattle.oak_model.proofs.Lists.{each_append}
use Rattle.chunk_core.specs.Rooms.{at_count}
use Rattle.link_search.specs.Met.{Met, met_count, met_link, met_key, tried_count, tried_link, stored_value, stored_link, stored_key, gave_up, IsLoad, LoadsNoLink}
use Rattle.oak_core.specs.declared.states.PassState.{PassState}
use Rattle.oak_core.specs.declared.states.Sight.{Sight}
use Rattle.oak_core.specs.CallSteps.{Learns, Stands}
use Rattle.oak_core.specs.CountReads.{EndsAbsent}
use Rattle.oak_core.specs.Memory.{in_rooms}
use Rattle.oak_core.specs.Step.{load, Told}
use Rattle.oak_core.proofs.calls.CallSteps.{stands_both, stands_learns, stands_none}
use Rattle.oak_core.proofs.known.KnownReads.{read_since, read_stays}
use Rattle.oak_core.proofs.known.PinsKnown.{has_later}
use Rattle.chunk_ops.specs.Finds.{FoundAbsent}
use Rattle.chunk_ops.specs.LinkedTable.{DoesEach, DoesMet}
use Rattle.chunk_ops.proofs.LoadedWords.{loads_only}

pub absent_around : (call k base : ℕ) (v x y w : PassState) → Learns call v x → FoundAbsent call k base x y → Stands call y w → FoundAbsent call k base v w
absent_around call k base v x y w a f b = let s = f.absent.sighted in let c = stands_learns call y w b in record {
  absent = record {
    read = read_since k base None v x w a.all.seen (read_stays k base None x y w c.all.seen c.all.remembers f.absent.read);
    sighted = record {
      more = a.sights.more ++ s.more;
      sights = b.sights ∙ (s.sights ∙ (ap (λ (l : List Sight). l ++ s.more) a.sights.sights ∙ append_assoc v.findings.sights a.sights.more s.more));
      calls = each_append (λ (t : Sight). t.call ≡ call) a.sights.more s.more a.sights.calls s.calls;
      sighted = record { sight = s.sighted.sight; there = has_later a.sights.more s.more s.sighted.sight s.sighted.there; just = s.sighted.just; bare = s.sighted.bare };
    };
  };
  ends = subst (EndsAbsent k base) (sym b.knowledge) f.ends;
}

-- loads of other words than links teach nothing

count_stands : (z : Sizes) (call r : ℕ) (v : PassState) (n : ℕ) (w : PassState) → Told z call (load (in_rooms (at_count r))) v n w → Stands call v w
count_stands z call r v n w t = subst (Stands call v) (sym t.after) (record { met = record { more = _ ∷ []; met = refl; calls = (refl, tt) }; numbers = refl; knowledge = refl; fulls = refl; swept = refl; sights = refl; gones = refl; rebalances = refl })

module _ (z : Sizes) (call r base place : ℕ) where
  other_stands : (m : Met) (v w : PassState) → LoadsNoLink m → DoesMet z call r base place m v w → Stands call v w
  other_stands (met_count n) v w l d = count_stands z call r v n w d
  other_stands (met_link f n) v w l d = absurd l
  other_stands (met_key i) v w l d = (loads_only z call r d.met v w d.loads).stands
  other_stands (tried_count o n) v w l d = absurd l
  other_stands (tried_link f i o n) v w l d = absurd l
  other_stands (stored_value i) v w l d = absurd l
  other_stands (stored_link i n) v w l d = absurd l
  other_stands (stored_key i) v w l d = absurd l
  other_stands (gave_up i) v w l d = absurd l

  pub others_stand : (ms : List Met) (v w : PassState) → Each LoadsNoLink ms → DoesEach z call r base place ms v w → Stands call v w
  others_stand [] v w l d = subst (Stands call v) (sym d) (stands_none call v)
  others_stand (m ∷ ms) v w l d = stands_both call v d.0 w (other_stands m v d.0 l.0 d.1) (others_stand ms d.0 w l.1 d.2)

other_loads : (m : Met) → LoadsNoLink m → IsLoad m
other_loads (met_count n) l = tt
other_loads (met_link f n) l = absurd l
other_loads (met_key i) l = tt
other_loads (tried_count o n) l = absurd l
other_loads (tried_link f i o n) l = absurd l
other_loads (stored_value i) l = absurd l
other_loads (stored_link i n) l = absurd l
other_loads (stored_key i) l = absurd l
other_loads (gave_up i) l = absurd l

-- they are loads
pub others_load : (ms : List Met) → Each LoadsNoLink ms → Each IsLoad ms
others_load [] l = tt
others_load (m ∷ ms) l = (other_loads m l.0, others_load ms l.1)
