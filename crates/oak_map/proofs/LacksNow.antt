-- What a call that puts lacks, behind its last try.
use Rattle.std.proofs.Common.{◌≡◌, ℕ, Bool, true, length, Option, None, refl, sym, subst, IfSome, IfNone}
use Rattle.oak_model.specs.declared.cells.CellCall.{CellCall}
use Rattle.oak_model.specs.declared.replies.Lack.{Lack}
use Rattle.oak_model.specs.declared.replies.Lack.TheVariants.{Block, Header, Room}
use Rattle.oak_model.specs.Limits.{Sizes}
use Rattle.std.specs.Prelude.{List}
use Rattle.oak_core.specs.declared.states.PassState.{PassState}
use Rattle.oak_core.specs.Lack.{Lacks}
use Rattle.point_ops.specs.declared.halts.Halt.{Halt}
use Rattle.point_ops.specs.declared.halts.Halt.TheVariants.{Crowded, NoBlock, NoHeader}
use Rattle.point_ops.specs.Needs.{NeedsNow}
use Rattle.oak_map.specs.MakingRoom.{IsLacking, IsRefused}
use Rattle.oak_map.specs.Putting.{Going, LastTry}
use Rattle.oak_map.specs.Replying.{AnswersFull, ItsRoom, SpareOf, Tries}
use Rattle.oak_map.proofs.GoingCalls.{block_lacks, going_tried, header_lacks, met_longer, refused_full, refused_going, room_lacks}
use Rattle.oak_map.proofs.Trying.{tries_leaves, tries_none}

-- The call began at u and was refused from v to w, and did more until x. It needs what it lacks; and where it had settled, nothing of that was free.
pub record LacksNow (z : Sizes) (call : ℕ) (key : List ℕ) (ask : CellCall) (settled : Bool) (lack : Lack) (u v w x : PassState) : Type 0 where
  pub rest : Tries z call w x
  pub needs : NeedsNow call key ask lack v w
  pub spare : Option ℕ
  pub spared : SpareOf lack spare call key ask v w
  pub lacks : settled ≡ true → Lacks z call lack spare (length u.findings.met) (length x.findings.met) x.findings
  pub its_room : ItsRoom lack z key u x

module _ (z : Sizes) (call : ℕ) (key : List ℕ) (halt : Halt) (settled : Bool) (ask : CellCall) (u v w : PassState) (t : LastTry z call key halt settled ask u v w) where
  abbrev As : Halt → Type 0
  As h = LastTry z call key h settled ask u v w

  block_now : (b : Rattle.oak_model.specs.declared.classes.Class.Class) → As (NoBlock b) → LacksNow z call key ask settled (Block b) u v w w
  block_now b h = record {
    rest = tries_none z call w;
    needs = h.halts.2;
    spare = h.halts.0;
    spared = h.halts.3;
    lacks = λ q. block_lacks z call b h.halts.0 u v w (subst (λ (s : Bool). Going z call s u v) q h.going) h.refused h.halts.1 h.halts.4;
    its_room = tt;
  }

  header_now : As NoHeader → LacksNow z call key ask settled Header u v w w
  header_now h = record {
    rest = tries_none z call w;
    needs = h.halts.1;
    spare = None;
    spared = refl;
    lacks = λ q. header_lacks z call key ask u v w (subst (λ (s : Bool). LastTry z call key NoHeader s ask u v w) q h);
    its_room = tt;
  }

  -- behind the last try, which was refused for want of that
  pub lacks_now : (lack : Lack) (x : PassState) → IsLacking lack halt z call key w x → LacksNow z call key ask settled lack u v w x
  lacks_now (Block b) x (e, f) = subst (λ (s : PassState). LacksNow z call key ask settled (Block b) u v w s) (sym f) (block_now b (subst As e t))
  lacks_now Header x (e, f) = subst (λ (s : PassState). LacksNow z call key ask settled Header u v w s) (sym f) (header_now (subst As e t))
  lacks_now Room x (e, f) = let h = subst As e t in record {
    rest = tries_leaves z call w x f.compacts.leaves f.compacts.claims;
    needs = h.halts.1;
    spare = None;
    spared = refl;
    lacks = λ q. room_lacks z call key Crowded ask u v w x (subst (λ (s : Bool). LastTry z call key Crowded s ask u v w) q h) f;
    its_room = (length w.findings.met, met_longer call u w (going_tried z call key Crowded settled ask u v w h).tries.goes.met, f.lacks);
  }

  -- there it settled, or was noted, until y
  module _ (lack : Lack) (x y : PassState) (is : IsLacking lack halt z call key w x) (then : Bool) (o : Option Lack) (r : IsRefused z call settled then lack o x y) where
    now : LacksNow z call key ask settled lack u v w x
    now = lacks_now lack x is

    pub lacks_full : IfSome o (λ l. AnswersFull z call key ask l u y)
    lacks_full = refused_full z call key halt settled then ask lack u v w x y o t now.rest r.full r.again now.spare now.spared now.needs now.lacks now.its_room

    pub lacks_going : IfNone o (Going z call then u y)
    lacks_going = refused_going z call key halt settled then ask lack u v w x y o t now.rest r.full r.again
