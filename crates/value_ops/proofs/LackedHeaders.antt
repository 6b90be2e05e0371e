-- A search that found no free header shows that headers are lacking.
use Rattle.std.proofs.Common.{◌≡◌, ℕ, ◌<◌, ◌≤◌, ◌⊎◌, List, length, ap, ◌∙◌, ⊎_elim, inl, inr, None}
use mathlib.Core.Option.{some}
use lib.ListN.{get_elem?}
use Rattle.oak_model.specs.declared.replies.Lack.TheVariants.{Header}
use Rattle.oak_model.specs.Key.{IsKey}
use Rattle.oak_model.specs.Limits.{Sizes}
use Rattle.header_core.specs.HeaderHolds.{no_headers, had_header}
use Rattle.oak_model.proofs.Lists.{each_map}
use Rattle.oak_core.specs.declared.states.Finding.{Finding}
use Rattle.oak_core.specs.declared.states.PassState.{PassState}
use Rattle.oak_core.specs.Finding.{had, IsLoadOf}
use Rattle.oak_core.specs.FoundBehind.{FoundBehind}
use Rattle.oak_core.specs.Lack.{FoundTaken, FoundRenewed, KeySwept, Lacks, TookBut}
use Rattle.oak_core.specs.Memory.{index}
use Rattle.oak_core.proofs.calls.FoundThere.{found_behind}
use Rattle.oak_core.proofs.calls.Lacked.{lacks_then}
use Rattle.value_ops.specs.Claiming.{pin_spot, FoundPin, FoundUnfree, FoundTwice, FindsNoneFree}

module _ (z : Sizes) (call : ℕ) (v w : PassState) (idle : v.headers ≡ no_headers) (none : FindsNoneFree z call v w) where
  -- the pass had no header
  had_none : (h : ℕ) → had (pin_spot h) v ≡ 0
  unfolding Rattle.oak_model.specs.Counts.total
  had_none h = ap (had_header h) idle

  abbrev behind : (h : ℕ) (P : ℕ → Type 0) (Q : ℕ → ℕ → Type 0) (f : FoundPin z call h v none.more P) → Q f.number f.finding.had → FoundBehind (length v.findings.met) (length w.findings.met) w.findings.met (index z (pin_spot h)) Q
  behind h P Q f shows = found_behind z call (pin_spot h) v w none.more P Q none.after f shows

  unfree_for_all : (h : ℕ) → h < z.headers → FoundTaken z (length v.findings.met) (length w.findings.met) w.findings.met h ⊎ FoundRenewed z (length v.findings.met) (length w.findings.met) w.findings.met h
  unfree_for_all h lh = ⊎_elim (λ (f : FoundUnfree z call h v none.more). inl (behind h _ _ f (f.shows, f.had_is ∙ had_none h)))
      (λ (t : FoundTwice z call h v none.more). inr (record { one = behind h _ (λ _ had. had ≡ 0) t.one (t.one.had_is ∙ had_none h); other = behind h _ (λ _ had. had ≡ 0) t.other (t.other.had_is ∙ had_none h); apart = t.apart })) (none.found h lh tt)

  -- so where the call swept every key before it, and met nothing of another call, it may be noted
  pub headers_lack : (began : ℕ) → began ≤ length v.findings.met → ((i : ℕ) (f : Finding) → began ≤ i → get_elem? v.findings.met i ≡ some f → f.call ≡ call)
      → ((k : List ℕ) → IsKey k → KeySwept began (length v.findings.met) v.findings.swept k) → Lacks z call Header None began (length w.findings.met) w.findings
  headers_lack began le own swept = lacks_then z call v w none.more none.after (each_map (IsLoadOf z call) (λ (f : Finding). f.call ≡ call) none.more (λ f l. l.0) none.looks) Header None began le own swept unfree_for_all (each_map (IsLoadOf z call) (TookBut Header None) none.more (λ f l. tt) none.looks)
