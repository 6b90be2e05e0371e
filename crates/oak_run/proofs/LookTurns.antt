-- A hold names the life that the pass saw, and later states of the pass know that life too.
use Rattle.std.proofs.Common.{◌≡◌, ℕ, ◌≤◌, true, List, length, Some, None, refl, sym, ap, ◌∙◌, subst, arith}
use Rattle.std.specs.Prelude.{IsSome, take}
use Rattle.std.proofs.lemmas.List.{take-append-le, take_at}
use Rattle.oak_model.specs.declared.cells.CellCall.TheVariants.{Get}
use Rattle.oak_model.specs.declared.cells.CellReply.TheVariants as words
use Rattle.oak_model.specs.Cell.{reply_of}
use Rattle.oak_model.specs.Counts.{Begins}
use Rattle.oak_model.specs.History.{state_at}
use Rattle.oak_model.specs.Key.{is_key}
use Rattle.oak_model.specs.KeyNumber.{key_number}
use Rattle.oak_model.specs.Limits.{Sizes}
use Rattle.oak_model.specs.State.{State}
use Rattle.oak_model.proofs.Lists.{begins_length, begins_self}
use Rattle.oak_core.specs.declared.states.KeyedWrite.{KeyedWrite}
use Rattle.oak_core.specs.declared.states.PassState.{PassState}
use Rattle.oak_core.specs.KeyHistories.{home_behind, state_behind, writes_of}
use Rattle.oak_core.specs.PassState.{Extends, seen_of}
use Rattle.value_ops.specs.Views.{Viewed}
use Rattle.value_ops.proofs.LoadedViews.{view_loaded}
use Rattle.point_ops.specs.Gets.{ViewFits}
use Rattle.oak_run.specs.MapTurns.{HoldsLife}
use Rattle.oak_run.specs.Views.{View}
use Rattle.oak_run.proofs.HomeLives.{state_taken}

-- ---- what a first part has

pub taken_first : {A : Type 0} (a b : List A) (r : ℕ) → Begins a b → r ≤ length a → take r b ≡ take r a
taken_first a b r more le = ap (take r) more.1 ∙ take-append-le r a more.0 le

pub taken_whole : {A : Type 0} (a b : List A) → Begins a b → take (length a) b ≡ a
taken_whole a b more = ap (take (length a)) more.1 ∙ take_at a more.0 (length a) refl

-- ---- holds

holds_some : (s : State) (bytes : List ℕ) → reply_of s Get ≡ words.Holds bytes → IsSome s
holds_some None bytes e = absurd cc
holds_some (Some b) bytes e = refl

-- a hold names the place up to which the pass has seen the key
pub hold_names : (z : Sizes) (n : ℕ) (key : List ℕ) (x : Viewed) (v w : PassState) → is_key key ≡ true → ViewFits z n key x v w → HoldsLife z w x (record { key = key; place = length (seen_of (key_number key) w.knowledge) })
hold_names z n key x v w is f = record {
  key = f.key_is;
  is_key_is = is;
  inside = f.knows.inside;
  loaded = f.loaded;
  to = omega arith;
  home = ap home_behind whole ∙ f.life;
  held = subst (λ (s : State). IsSome s) (state_taken (length seen) seen) (holds_some (state_at (writes_of seen) (length seen)) f.bytes f.replies.fits.answer);
}
  where
    seen : List KeyedWrite
    seen = seen_of (key_number key) w.knowledge

    whole : take (length seen) seen ≡ seen
    whole = taken_whole seen seen (begins_self seen)

-- which a later state of the pass knows too
pub holds_later : (z : Sizes) (v w : PassState) (x : Viewed) (y : View) → Extends v w → Begins v.knowledge.loaded w.knowledge.loaded → HoldsLife z v x y → HoldsLife z w x y
holds_later z v w x y more loaded held = record {
  key = held.key;
  is_key_is = held.is_key_is;
  inside = held.inside;
  loaded = view_loaded x v w loaded held.loaded;
  to = let t = held.to in let n = begins_length before after (more (key_number y.key)) in omega arith;
  home = ap home_behind same ∙ held.home;
  held = subst (λ (l : List KeyedWrite). IsSome (state_behind l)) (sym same) held.held;
}
  where
    before : List KeyedWrite
    before = seen_of (key_number y.key) v.knowledge

    after : List KeyedWrite
    after = seen_of (key_number y.key) w.knowledge

    same : take y.place after ≡ take y.place before
    same = taken_first before after y.place (more (key_number y.key)) held.to
