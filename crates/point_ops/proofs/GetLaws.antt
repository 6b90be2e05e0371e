-- A look at a key: looked up from v to u, its life looked at from u to w, and the room unpinned.
use Rattle.std.proofs.Common.{◌≡◌, ℕ, List, None, Some, refl, sym, ap, ◌∙◌, subst}
use Rattle.oak_model.specs.declared.cells.CellCall.TheVariants.{Get}
use Rattle.oak_model.specs.declared.cells.CellReply.TheVariants as replies
use Rattle.oak_model.specs.KeyNumber.{key_number}
use Rattle.oak_model.specs.Limits.{Sizes}
use Rattle.chunk_core.specs.declared.holds.RoomHolds.{RoomHolds}
use Rattle.chunk_core.specs.Spans.{Span}
use Rattle.header_core.specs.Headers.{at_pin}
use Rattle.oak_core.specs.declared.states.Knowledge.{Knowledge}
use Rattle.oak_core.specs.declared.states.PassState.{PassState}
use Rattle.oak_core.specs.CallSteps.{Learns, Stands}
use Rattle.oak_core.specs.KeyHistories.{home_behind}
use Rattle.oak_core.specs.LifeKeys.{key_in_loaded}
use Rattle.oak_core.specs.Memory.{in_headers}
use Rattle.oak_core.specs.PassState.{HoldsNothing, seen_of}
use Rattle.oak_core.proofs.calls.CallSteps.{learns_both, stands_learns, stands_none}
use Rattle.chunk_ops.specs.PinRecords.{OnlyLearns, PinKept, UnderPin}
use Rattle.chunk_ops.specs.RoomPins.{PinsOpen, Unpins}
use Rattle.value_ops.specs.Pinning.{KnowsLife}
use Rattle.value_ops.specs.PinnedValues.{ReadsLife}
use Rattle.value_ops.specs.Views.{KnowsView, Viewed}
use Rattle.point_ops.specs.FoundWords.{FoundWord}
use Rattle.point_ops.specs.Gets.{Gets, GotFits}
use Rattle.point_ops.specs.Halting.BusyBy.{locked}
use Rattle.point_ops.specs.Halting.{Halts, IsLockedOut}
use Rattle.point_ops.specs.Replies.{HoldsAsBefore}
use Rattle.point_ops.specs.Spots.{FoundNamed}
use Rattle.point_ops.specs.declared.gets.Got.{Got}
use Rattle.point_ops.specs.declared.gets.Got.TheVariants.{Absent, View}
use Rattle.point_ops.specs.declared.halts.Halt.{Halt}
use Rattle.point_ops.specs.declared.halts.Halt.TheVariants.{Busy}
use Rattle.point_ops.proofs.Composed.{last_in}
use Rattle.point_ops.proofs.PinnedCalls.{all_holds, all_learns, under_keeps}
use Rattle.point_ops.proofs.ReplyLaws.{read_replies}
use Rattle.point_ops.proofs.SpotLaws.{header_found}

-- a call under the pin that only learned, behind another
pub learned_under : (z : Sizes) (call r : ℕ) (v u w : PassState) (c2 : ℕ) → c2 ≡ call → UnderPin z call r v u → OnlyLearns c2 u w → UnderPin z call r v w
learned_under z call r v u w c2 e a l = record {
  learns = learns_both call v u w a.learns (subst (λ (t : ℕ). Learns t u w) e l.learns);
  blocks = l.blocks ∙ a.blocks;
  headers = l.headers ∙ a.headers;
  pin = subst (λ (h : RoomHolds). PinKept z r v.rooms h) (sym l.rooms) a.pin;
}

-- a life that was read in a part of a call was so in the call
pub life_in : (h g : ℕ) (key : List ℕ) (at : ℕ) (bytes : List ℕ) (call : ℕ) (u v w t : PassState) → Learns call u v → Stands call w t → ReadsLife h g key at bytes v w → ReadsLife h g key at bytes u t
life_in h g key at bytes call u v w t a b r = record {
  last = last_in call (key_number key) at (Some bytes) u v w t a b r.last;
  life = ap (λ (q : Knowledge). home_behind (seen_of (key_number key) q)) b.knowledge ∙ r.life;
}

pub knows_still : (z : Sizes) (x : Viewed) (call : ℕ) (w t : PassState) → Stands call w t → KnowsView z x w → KnowsView z x t
knows_still z x call w t b k = record { inside = k.inside; life = subst (KnowsLife x.header x.generation x.key) (sym b.knowledge) k.life }

pub gets_in : (y : Got) (z : Sizes) (key : List ℕ) (call : ℕ) (u v w t : PassState) → Learns call u v → Stands call w t → Gets y z key v w → Gets y z key u t
gets_in (Absent at) z key call u v w t a b r = last_in call (key_number key) at None u v w t a b r
gets_in (View x) z key call u v w t a b r = record { key_is = r.key_is; bytes = r.bytes; life = life_in x.header x.generation key x.at r.bytes call u v w t a b r.life; knows = knows_still z x call w t b r.knows; loaded = ap (λ (q : Knowledge). key_in_loaded x.header x.generation q.loaded) b.knowledge ∙ r.loaded }

-- looked up, and then looked at
pub looked_gets : (y : Got) (z : Sizes) (key : List ℕ) (call : ℕ) (v u w : PassState) → Learns call v u → Gets y z key u w → Gets y z key v w
looked_gets y z key call v u w a r = gets_in y z key call v u w w a (stands_none call w) r

pub looked_locked : (z : Sizes) (call : ℕ) (key : List ℕ) (v u w : PassState) (c2 : ℕ) (e2 : c2 ≡ call) (a : Learns call v u) (r i h g : ℕ) → FoundNamed z call r i h g key v u → Learns c2 u w → (why : Halt) → (why ≡ Busy) × FoundWord z c2 (in_headers (at_pin h)) (IsLockedOut g) u w → Halts why z call key Get v w
looked_locked z call key v u w c2 e2 a r i h g f l why x = subst (λ (y : Halt). Halts y z call key Get v w) (sym x.0) (locked (header_found z call key v u w c2 e2 a r i h g f IsLockedOut l.met x.1))

-- the whole call
module _ (z : Sizes) (call r : ℕ) (P : Span → Type 0) (v u w x : PassState) (idle : HoldsNothing v) (p : PinsOpen z call r P v u) (c2 c3 : ℕ) (e2 : c2 ≡ call) (e3 : c3 ≡ call) (under : UnderPin z c2 r u w) (n0 : Unpins z c3 r w x) where
  away : Stands call w x
  away = subst (λ (t : ℕ). Stands t w x) e3 n0.stands

  here : Learns call v u
  here = stands_learns call v u p.stands

  learns : Learns call v x
  learns = all_learns z call r P v u w x idle p c2 c3 e2 e3 (under_keeps z c2 r u w under) n0 under.learns

  pub all_got : (y : Got) (key : List ℕ) → Gets y z key u w → GotFits y z call key v x
  all_got y key r0 = by y (gets_in y z key call v u w x here away r0)
    where
      holds : HoldsAsBefore v x
      holds = all_holds z call r P v u w x idle p c2 c3 e2 e3 (under_keeps z c2 r u w under) n0 (under.learns.all.numbers, under.learns.all.fulls, under.learns.all.swept, under.learns.all.rebalances)

      by : (y : Got) → Gets y z key v x → GotFits y z call key v x
      by (Absent at) q = read_replies call key Get replies.Absent at None v x learns holds refl refl q
      by (View s) q = record {
        key_is = q.key_is;
        bytes = q.bytes;
        replies = read_replies call key Get (replies.Holds q.bytes) s.at (Some q.bytes) v x learns holds refl refl q.life.last;
        life = q.life.life;
        knows = q.knows;
        loaded = q.loaded;
      }
