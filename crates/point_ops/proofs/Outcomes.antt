-- What holds of an outcome holds of it in another form.
use Rattle.std.proofs.Common.{Result, Ok, Err, IfOk, IfErr}

pub ok_map : {A B : Type 0} (P Q : A → Type 0) (r : Result A B) → ((x : A) → P x → Q x) → IfOk r P → IfOk r Q
ok_map P Q (Ok x) f p = f x p
ok_map P Q (Err y) f p = tt

pub err_map : {A B : Type 0} (P Q : B → Type 0) (r : Result A B) → ((x : B) → P x → Q x) → IfErr r P → IfErr r Q
err_map P Q (Ok x) f p = tt
err_map P Q (Err y) f p = f y p
