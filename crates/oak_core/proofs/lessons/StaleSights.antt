-- What finds no number for a key: a pin, and the load of the stamp of a life that is over, unless the call had loaded it from the entry of its key.
use Rattle.std.specs.Prelude.{◌&&◌, not}
use Rattle.std.proofs.Common.{◌≡◌, ◌≢◌, ℕ, Bool, false, ap, ◌∙◌, Option, Some, ne_eqb}
use Rattle.std.proofs.lemmas.Bool.{and_right}
use Rattle.pin_word.specs.PinWord.{state_of}
use Rattle.oak_model.specs.Limits.{Sizes}
use Rattle.header_core.specs.Headers.{at_stamp}
use Rattle.header_core.specs.HeaderStep.{pin_header}
use Rattle.header_core.specs.declared.holds.PinnedHeader.{PinnedHeader}
use Rattle.header_core.specs.declared.states.TheConstants.{LIVE}
use Rattle.oak_core.specs.declared.states.PassState.{PassState}
use Rattle.oak_core.specs.LifeKeys.{loaded_in}
use Rattle.oak_core.specs.Memory.{in_headers, memory}
use Rattle.oak_core.specs.Sights.{sights_with}
use Rattle.oak_core.specs.StampLoads.{counts_stamp, finds_now, shows_stamp, stamp_taught}
use Rattle.oak_core.specs.Step.{load, on_headers, Told}

pub pin_finds_none : (z : Sizes) (call h g : ℕ) (v : PassState) (n : ℕ) (w : PassState) → Told z call (on_headers (pin_header h g)) v n w → w.findings.sights ≡ v.findings.sights
pin_finds_none z call h g v n w t = ap (λ (x : PassState). x.findings.sights) t.after

module _ (z : Sizes) (call h : ℕ) (v : PassState) (n : ℕ) (w : PassState) (p : PinnedHeader) (is : v.headers.pin ≡ Some p) (over : state_of p.found ≢ LIVE) (none : loaded_in call p.header p.wanted v.knowledge.loaded ≡ false) where
  not_now : finds_now call v.headers.pin v.knowledge ≡ false
  not_now = ap (λ (o : Option PinnedHeader). finds_now call o v.knowledge) is ∙ (λ i. not (not (ne_eqb (state_of p.found) LIVE over i) && not (none i)))

  not_counted : counts_stamp call h v.headers.pin v.knowledge ≡ false
  not_counted = and_right (shows_stamp h v.headers.pin v.knowledge) (finds_now call v.headers.pin v.knowledge) not_now

  pub stale_finds_none : Told z call (load (in_headers (at_stamp h))) v n w → w.findings.sights ≡ v.findings.sights
  stale_finds_none t = ap (λ (x : PassState). x.findings.sights) t.after
      ∙ ap (λ (b : Bool). sights_with b call (stamp_taught h ((memory z t.table.words).headers.stamp h) v.headers.pin v.knowledge) v.findings) not_counted
