-- A call that may give up lends the pass of the table in a map's pass: the whole's last value follows the part's.
use Rattle.std.proofs.Common.{◌≡◌, Result, Ok, Err, ap, subst}
use Rattle.std.specs.Prelude.{IfErr, OnErr, OnOk}
use Rattle.std.specs.Borrow.{RestsIfErr, name_if_ok}
use seplogic.Ra.Ura.{Ura}
use base.Logic.{ent, sep}
use types.Logic.{Logic, sem}
use denote.Ref.{MutBor}
use denote.Follow.{follows}
use Rattle.oak_core.specs.declared.table.Pass.{Pass}
use Rattle.oak_core.specs.contracts.table.Pass as pass
use Rattle.value_ops.specs.declared.reading.Reading.{Reading}
use Rattle.oak_map.specs.declared.map.MapPass.{MapPass}
use Rattle.oak_map.specs.contracts.map.MapPass.{the_row}
use Rattle.oak_map.specs.Rests.{with_pass}
use Rattle.oak_map.specs.TriedRests.{MapTried}
use Rattle.oak_map.proofs.Through.{through}

tried_last : {E : Type 0} (m : MapPass) (y : Result Reading E) (w t : Pass) → OnOk y (t ≡ w) → OnOk y (with_pass m t ≡ with_pass m w)
tried_last m (Ok r) w t p = ap (with_pass m) p
tried_last m (Err e) w t p = p

tried_back : {E : Type 0} (m : MapPass) (P : E → Pass → Type 0) (y : Result Reading E) (t : Pass) → OnErr y (IfErr y (λ e. P e t)) → IfErr y (λ e. P e (with_pass m t).pass)
tried_back m P (Ok r) t p = tt
tried_back m P (Err e) t p = p

pub tried_rests : {M : Type 1} {𝓤 : Ura M} (𝓛 : Logic 𝓤) {E : Type 0} (p : MutBor MapPass) (r : MutBor Pass) (y : Result Reading E) (P : Pass → E → Pass → Type 0) → r.now ≡ p.now.pass
    → ent 𝓤 (sep 𝓤 (sem 𝓛 (follows the_row pass.the_row p.ghost_name r.ghost_name (with_pass p.now))) (sem 𝓛 (RestsIfErr pass.the_row r (λ (x : Reading). x.pass.ghost_name) y (λ n. IfErr y (λ e. P r.now e n))))) (sem 𝓛 (MapTried p y (P p.now.pass)))
tried_rests 𝓛 p r y P same = through 𝓛 the_row pass.the_row pass.the_row (with_pass p.now) p.ghost_name r.ghost_name (name_if_ok (λ (x : Reading). x.pass.ghost_name) y)
    (λ x n. OnOk y (n ≡ x)) (λ n. OnErr y (IfErr y (λ e. P r.now e n))) (λ x n. OnOk y (n ≡ with_pass p.now x)) (λ n. IfErr y (λ e. P p.now.pass e n.pass))
    (λ w t q. tried_last p.now y w t q) (λ t q. tried_back p.now (P p.now.pass) y t (subst (λ (v : Pass). OnErr y (IfErr y (λ e. P v e t))) same q))
