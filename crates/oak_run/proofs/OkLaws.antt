-- What holds of an Ok.
use Rattle.std.proofs.Common.{◌≡◌, Result, Ok, Err, subst, sym}
use Rattle.std.specs.Prelude.{IfOk}

pub if_ok-map : {A E : Type 0} (P Q : A → Type 0) (r : Result A E) → ((x : A) → P x → Q x) → IfOk r P → IfOk r Q
if_ok-map P Q (Ok x) f h = f x h
if_ok-map P Q (Err e) f h = tt

pub if_ok-by : {A E : Type 0} (P : A → Type 0) (r : Result A E) (z : A) → IfOk r (λ y. y ≡ z) → P z → IfOk r P
if_ok-by P (Ok y) z e p = subst P (sym e) p
if_ok-by P (Err e) z is p = tt
