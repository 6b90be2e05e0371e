-- What the two loads of a reading leave: the pass learned all that was written of the key of the life under its pin, and read it.
use Rattle.std.proofs.Common.{◌≡◌, ℕ, ◌<◌, List, [], ◌∷◌, ◌++◌, sym, refl, ap, ◌∙◌, subst, append_assoc, Some, inl}
use Rattle.oak_model.specs.KeyNumber.{key_number}
use Rattle.oak_model.specs.Limits.{Sizes}
use Rattle.header_core.specs.declared.holds.HeaderHolds.{HeaderHolds}
use Rattle.header_core.specs.declared.holds.PinnedHeader.{PinnedHeader}
use Rattle.header_core.specs.Headers.{at_place, at_stamp}
use Rattle.oak_core.specs.declared.states.Finding.{Finding}
use Rattle.oak_core.specs.declared.states.PassState.{PassState}
use Rattle.oak_core.specs.Finding.{IsLoadOf, finding, grown}
use Rattle.oak_core.specs.KeyReads.{home_of}
use Rattle.oak_core.specs.Memory.{in_headers, index, rooms_at}
use Rattle.oak_core.specs.Sights.{SightedSince}
use Rattle.oak_core.specs.Splitting.{Loads}
use Rattle.oak_core.specs.Step.{load, Told}
use Rattle.oak_core.proofs.known.KnownReads.{read_since}
use Rattle.oak_core.proofs.told.PlainLoads.{met_at}
use Rattle.oak_core.proofs.told.StampTold.{stamp_home, stamp_reads}
use Rattle.oak_core.proofs.memory.Words.{header_before}
use Rattle.value_ops.specs.Pinning.{HasPin, KnowsLife}
use Rattle.value_ops.specs.PinnedValues.{LearnsByLoads, ReadsLife, value_of}
use Rattle.value_ops.proofs.AlonePins.{both_stay, load_stays}
use Rattle.value_ops.proofs.LoadFacts.{stamp_loaded}
use Rattle.value_ops.proofs.LearnFacts.{Learned, headers_loaded, learned_both, learned_met, learned_stamp, told_at}

module _ (z : Sizes) (call h g : ℕ) (p : PinnedHeader) (v : PassState) (place : ℕ) (u : PassState) (stamp : ℕ) (w : PassState) (has : HasPin z h g p v) (l : Loads z call (index z (in_headers (at_place h))) v place u) (k : Loads z call (index z (in_headers (at_stamp h))) u stamp w) where
  abbrev first : Finding
  first = finding z call l.spot (Some place) place l.told.table.words v

  abbrev second : Finding
  second = finding z call k.spot (Some stamp) stamp k.told.table.words u

  first_met : u ≡ grown (first ∷ []) v
  first_met = met_at z call (index z (in_headers (at_place h))) place v u (in_headers (at_place h)) has.inside tt refl l

  of_first : IsLoadOf z call first
  of_first = (refl, subst (λ (i : ℕ). i < rooms_at z) (sym l.at) (header_before z (at_place h) has.inside), refl, refl)

  of_second : IsLoadOf z call second
  of_second = (refl, subst (λ (i : ℕ). i < rooms_at z) (sym k.at) (header_before z (at_stamp h) has.inside), refl, refl)

  placed : Learned z call v u
  placed = learned_met z call v u v.headers.pin record { more = first ∷ []; calls = ((of_first.0, of_first.1, of_first.3), tt); after = first_met }

  read_all : Learned z call v w
  read_all = learned_both z call v u w placed (learned_stamp z call (index z (in_headers (at_stamp h))) h stamp u w has.inside refl k)

  headers_read : w.headers ≡ v.headers
  headers_read = headers_loaded z call (index z (in_headers (at_stamp h))) stamp u w k ∙ headers_loaded z call (index z (in_headers (at_place h))) place v u l

  pub reading_loads : LearnsByLoads z call v w
  reading_loads = record {
    only = record {
      more = first ∷ second ∷ [];
      calls = ((of_first.0, of_first.1, of_first.3), ((of_second.0, of_second.1, of_second.3), tt));
      met = met_both;
      learns = read_all.learns;
      knows = read_all.knows;
      blocks = read_all.blocks;
      headers = headers_read;
      rooms = read_all.rooms;
    };
    loads = (of_first, (of_second, tt));
    quiet = record { more = first ∷ second ∷ []; met = met_both; each = ((of_first.3, inl of_first.2), ((of_second.3, inl of_second.2), tt)) };
    still = both_stay v u w (load_stays z call (index z (in_headers (at_place h))) place v u l) (load_stays z call (index z (in_headers (at_stamp h))) stamp u w k);
  }
    where
      second_met : w.findings.met ≡ u.findings.met ++ second ∷ []
      second_met = ap (λ (x : PassState). x.findings.met) k.told.after ∙ ap (λ (n : ℕ). u.findings.met ++ finding z call k.spot (Some n) n k.told.table.words u ∷ []) k.told.finds

      met_both : w.findings.met ≡ v.findings.met ++ first ∷ second ∷ []
      met_both = second_met ∙ (ap (λ (x : PassState). x.findings.met ++ second ∷ []) first_met ∙ append_assoc v.findings.met (first ∷ []) (second ∷ []))

  pin_now : w.headers.pin ≡ Some p
  pin_now = ap (λ (a : HeaderHolds). a.pin) headers_read ∙ has.is

  pub reading_pin : HasPin z h g p w
  reading_pin = record { inside = has.inside; is = pin_now; header_is = has.header_is; wanted_is = has.wanted_is; good = has.good }

  -- the stamp is the one that the pin recorded
  pub reading_stamp : stamp ≡ p.stamp
  reading_stamp = stamp_loaded z call (index z (in_headers (at_stamp h))) stamp u w k p (ap (λ (x : PassState). x.headers.pin) first_met ∙ has.is) has.good h has.inside has.header_is refl

  pub reading_life : (key : List ℕ) → KnowsLife h g key v.knowledge → ReadsLife h g key stamp (value_of p) v w
  reading_life key knows = let reads = stamp_reads z call u stamp w p is has.good key known told in record {
    last = record {
      read = read_since (key_number key) stamp (Some (value_of p)) v u w placed.learns.all.seen reads.read;
      sighted = subst (λ (x : PassState). SightedSince (key_number key) stamp x.findings w.findings) first_met reads.sighted;
      ends = reads.ends;
    };
    life = stamp_home z call u stamp w p is has.good key known told ∙ (λ i. home_of (has.header_is i) (has.wanted_is i));
  }
    where
      told : Told z call (load (in_headers (at_stamp p.header))) u stamp w
      told = subst (λ (i : ℕ). Told z call (load (in_headers (at_stamp i))) u stamp w) (sym has.header_is) (told_at z call (index z (in_headers (at_stamp h))) stamp u w (in_headers (at_stamp h)) has.inside refl k)

      is : u.headers.pin ≡ Some p
      is = ap (λ (x : PassState). x.headers.pin) first_met ∙ has.is

      known : KnowsLife p.header p.wanted key u.knowledge
      known = subst (λ (i : ℕ × ℕ × PassState). KnowsLife i.0 i.1 key i.2.knowledge) (λ i. (sym has.header_is i, sym has.wanted_is i, sym first_met i)) knows
