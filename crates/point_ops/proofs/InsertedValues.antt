-- The whole of an insertion: a value was made, the key was to have an entry, and the value was set or given back.
use Rattle.std.proofs.Common.{◌≡◌, ℕ, Bool, cond, [], ◌∷◌, length, inl, inr, List, sym, ap, ◌∙◌, subst, eq-eqb, Option, Some, None}
use mathlib.Core.Logic.{dite}
use native.Mathlib.Decide.{ℕ_discrete}
use Rattle.oak_model.specs.declared.classes.Class.{Class}
use Rattle.oak_model.specs.declared.replies.Lack.TheVariants.{Block}
use Rattle.oak_model.specs.Class.{class_number, class_of}
use Rattle.arena_core.specs.Place.{block_in, class_in}
use Rattle.header_core.specs.declared.holds.HeldAs.TheVariants.{Fresh}
use Rattle.header_core.specs.declared.holds.HeldHeader.{HeldHeader}
use Rattle.header_core.specs.HeaderHolds.{place_held}
use Rattle.point_ops.specs.LoneInserts.{NamesBlock}
use Rattle.point_ops.proofs.InsertCauses.{taken_other, taken_own}
use Rattle.std.proofs.lemmas.Option.{same_Some}
use Rattle.arena_core.proofs.PlaceLaws.{same_class}
use Rattle.oak_model.specs.declared.writes.Kind.{Kind}
use Rattle.oak_model.specs.Limits.{Sizes}
use Rattle.header_core.specs.declared.holds.HeaderHolds.{HeaderHolds}
use Rattle.oak_core.specs.declared.states.PassState.{PassState}
use Rattle.oak_core.specs.CallSteps.{Learns, Stands}
use Rattle.oak_core.specs.CallWrites.{Writes}
use Rattle.oak_core.specs.Finding.{IsOf}
use Rattle.oak_core.specs.HeldRows.{HasFresh}
use Rattle.oak_core.specs.Lack.{TookBut}
use Rattle.oak_core.specs.MadeWrites.{held_header}
use Rattle.oak_core.specs.QuietSteps.{MetOnly, Quiet}
use Rattle.oak_core.proofs.calls.CallSteps.{learns_both, met_none, stands_learns, stands_in}
use Rattle.chunk_ops.specs.declared.entries.EntryNo.{EntryNo}
use Rattle.chunk_ops.specs.PinRecords.{UnderPin}
use Rattle.chunk_ops.specs.Setting.{FoundSet}
use Rattle.point_ops.specs.declared.halts.Halt.{Halt}
use Rattle.point_ops.specs.declared.halts.Halt.TheVariants.{Busy, Moved, Crowded, NoBlock, NoHeader}
use Rattle.point_ops.specs.Inserts.{AddingHalts, InsertHalts, MakesFresh, MakingHalts, TakesOnly}
use Rattle.point_ops.specs.Halting.{AllTaken}
use Rattle.point_ops.proofs.Composed.{crossed_in, crowded_in, set_in, taken_in}
use Rattle.point_ops.proofs.OwnSteps.{front_leaves, front_none, none_but, only_but, only_in, only_leaves, quiet_but}
use Rattle.point_ops.proofs.WritesIn.{writes_behind}

-- a header stays fresh where headers are held as before
fresh_kept : (z : Sizes) (h g stamp : ℕ) (bytes : List ℕ) (v w : PassState) → w.headers ≡ v.headers → HasFresh z h g stamp bytes v → HasFresh z h g stamp bytes w
fresh_kept z h g stamp bytes v w same f = record { inside = f.inside; header = f.header; held = subst (λ (a : HeaderHolds). held_header h a.held ≡ Some f.header) (sym same) f.held; fresh = f.fresh; generation = f.generation; stamp_is = f.stamp_is; value = f.value }

-- a header that alone is held
one_there : (h : ℕ) (r : HeldHeader) → r.header ≡ h → held_header h (r ∷ []) ≡ Some r
unfolding held_header
one_there h r e = ap (λ (t : Bool). cond t (Some r) None) (eq-eqb r.header h e)

-- no value was made
pub unmade_halts : (z : Sizes) (call : ℕ) (d : Class) (key value : List ℕ) (entry : Option EntryNo) (floor : ℕ) (v w : PassState) (why : Halt) → class_of (length value) ≡ Some d → MakingHalts why z call d v w → InsertHalts why z call key value entry floor v w
unmade_halts z call d key value entry floor v w Busy fits f = absurd f
unmade_halts z call d key value entry floor v w Moved fits f = absurd f
unmade_halts z call d key value entry floor v w Crowded fits f = absurd f
unmade_halts z call d key value entry floor v w (NoBlock b) fits f = (None, subst (λ (i : Class). AllTaken z call i None v w) (sym f.0) f.1, tt, inl (fits ∙ ap Some (sym f.0)), quiet_but v w b None f.2)
unmade_halts z call d key value entry floor v w NoHeader fits f = f

-- ---- a value was made, and an entry looked for under the pin of the room

module _ (z : Sizes) (call r h g stamp : ℕ) (key bytes : List ℕ) (v u w : PassState) (m : MakesFresh z call h g stamp bytes v u) (at : ℕ) (same : at ≡ call) (p : UnderPin z at r u w) where
  made : Learns call v u
  made = stands_learns call v u m.stands

  entered : Learns call v w
  entered = learns_both call v u w made (subst (λ (k : ℕ). Learns k u w) same p.learns)

  pub fresh_here : HasFresh z h g stamp bytes w
  fresh_here = fresh_kept z h g stamp bytes u w p.headers m.fresh

  module _ (later : ℕ) (x : PassState) (follows : later ≡ call) where
    -- the value was set
    pub inserted : (kind : Kind) (stamped : ℕ) → Writes later key kind None (Some bytes) stamped w x → Writes call key kind None (Some bytes) stamped v x
    inserted kind stamped f = writes_behind call key kind None (Some bytes) stamped v w x entered (subst (λ (k : ℕ). Writes k key kind None (Some bytes) stamped w x) follows f)

    -- or given back
    pub given_learns : Stands later w x → Learns call v x
    given_learns s = learns_both call v w x entered (stands_learns call w x (stands_in call later w x follows s))

    -- where another number than the floor was found
    pub unset_halts : (value : List ℕ) (entry : Option EntryNo) (i floor : ℕ) → FoundSet z later r i floor key w x → InsertHalts Busy z call key value entry floor v x
    unset_halts value entry i floor f = inr (r, i, set_in call v w x x entered.met (met_none call x) z r i floor key (subst (λ (k : ℕ). FoundSet z k r i floor key w x) follows f))

    -- or where the key got no entry
    module _ (s : Stands later w x) (back : MetOnly (IsOf z later) w x) where
      gone : Learns call w x
      gone = stands_learns call w x (stands_in call later w x follows s)

      pub unentered_halts : (d : Class) (b : ℕ) → NamesBlock h d b u → MetOnly (TakesOnly z d b) v u → (value : List ℕ) → class_of (length value) ≡ Some d → (entry : Option EntryNo) (floor : ℕ) → entry ≡ None → (why : Halt) → AddingHalts why z at key u w → InsertHalts why z call key value entry floor v x
      unentered_halts d b names own value fits entry floor none why f = by why (subst (λ (k : ℕ). AddingHalts why z k key u w) same f)
        where
          one_place : place_held h u.headers.held ≡ m.one.header.place
          one_place = ap (λ (a : HeaderHolds). place_held h a.held) m.one.alone ∙ ap (λ (t : Bool). cond t m.one.header.place 0) (eq-eqb m.one.header.header h m.one.is)

          one_held : held_header h u.headers.held ≡ Some m.one.header
          one_held = ap (λ (a : HeaderHolds). held_header h a.held) m.one.alone ∙ one_there h m.one.header m.one.is

          one_fresh : m.one.header.held_as ≡ Fresh
          one_fresh = ap (λ (r : HeldHeader). r.held_as) (same_Some m.one.header m.fresh.header (sym one_held ∙ m.fresh.held)) ∙ m.fresh.fresh

          fits_class : (c : Class) → class_in m.one.header.place ≡ class_number c → class_of (length value) ≡ Some c
          fits_class c e = fits ∙ ap Some (same_class d c (sym names.0 ∙ (ap class_in one_place ∙ e)))

          -- the one block that was taken is the spare one, or of another class
          took : (c : Class) (spare : Option ℕ) → (d ≡ c → spare ≡ Some b) → Quiet u w → MetOnly (TookBut (Block c) spare) v x
          took c spare is q = only_in (TookBut (Block c) spare) v u w x (only_but v u z d b c spare is own) (quiet_but u w c spare q) (none_but w x c spare (front_none w x z later back))

          by : (why : Halt) → AddingHalts why z call key u w → InsertHalts why z call key value entry floor v x
          by Busy f = inl (crossed_in call v u w x made.met gone.met z key f)
          by Moved f = absurd f
          by Crowded f = (none, crowded_in z call key v u w x made gone (λ i. only_leaves z i v u d b own) (λ i. front_leaves z i w x later back) f)
          by (NoBlock c) f = dite (ℕ_discrete (class_in m.one.header.place) (class_number c))
              (λ e. (Some (block_in m.one.header.place), taken_in call v u w x made.met gone.met z c (Some (block_in m.one.header.place)) (taken_own z call u w h m.blocks m.one one_fresh c f.1), (fits_class c e, f.0, none), inr (f.0, none), took c (Some (block_in m.one.header.place)) (λ _. ap Some (sym (ap block_in one_place) ∙ names.1)) f.2))
              (λ ne. (None, taken_in call v u w x made.met gone.met z c None (taken_other z call u w h m.blocks m.one one_fresh c ne f.1), tt, inr (f.0, none), took c None (λ same. absurd (ne (sym (ap class_in one_place) ∙ (names.0 ∙ ap class_number same)))) f.2))
          by NoHeader f = absurd f
