-- A look at a name is a turn that fits, and leaves what the names stand for.
use Rattle.std.proofs.Common.{◌≡◌, ℕ, List, length, Option, Some, None, Result, sym, ap, ◌∙◌, subst}
use Rattle.std.specs.Prelude.{IfOk}
use Rattle.std.specs.BTreeMap.{BTreeMap, get}
use Rattle.oak_model.specs.declared.memory.OutOfMemory.{OutOfMemory}
use Rattle.oak_model.specs.declared.replies.Reply.{Reply}
use Rattle.oak_model.specs.declared.replies.Reply.TheVariants as replies
use Rattle.oak_model.specs.Key.{key_cmp}
use Rattle.oak_model.specs.KeyNumber.{key_number}
use Rattle.oak_model.specs.Limits.{Sizes}
use Rattle.oak_script.specs.declared.scripts.Call.TheVariants.{Look}
use Rattle.oak_core.specs.declared.states.Numbers.{Numbers}
use Rattle.oak_core.specs.declared.states.PassState.{PassState}
use Rattle.oak_core.specs.PassState.{HoldsNothing, seen_of}
use Rattle.point_ops.specs.Replies.{HoldsAsBefore}
use Rattle.oak_map.specs.Lending.{FindsOver}
use Rattle.oak_run.specs.declared.looks.HeldView.{HeldView}
use Rattle.oak_run.specs.CallTurns.{TellsCopy, TurnsWith}
use Rattle.oak_run.specs.HeldNames.{CallDid, LookDid}
use Rattle.oak_run.specs.MapTurns.{HoldsLife, Turned}
use Rattle.oak_run.specs.Turn.{only_at}
use Rattle.oak_run.specs.Views.{Names, View}
use Rattle.oak_run.proofs.AskCalls.{copied}
use Rattle.oak_run.proofs.HeldLaws.{Stands, keeps_later, name_held}
use Rattle.oak_run.proofs.ShownTurns.{gone_turned, over_place, unheld_turned, value_turn}

-- what held nothing holds nothing behind a call that leaves what it holds
pub idle_then : (v w : PassState) → HoldsAsBefore v w → HoldsNothing v → HoldsNothing w
idle_then v w h idle = record { hand = ap (λ (n : Numbers). n.hand) h.numbers ∙ idle.hand; blocks = h.blocks ∙ idle.blocks; headers = h.headers ∙ idle.headers; rooms = h.rooms ∙ idle.rooms }

-- the value that was read, at the life that is held
value_did : (z : Sizes) (n : ℕ) (v w : PassState) (h : HeldView) (bytes : List ℕ) (at : ℕ)
    → ((names : Names) (a : List ℕ) (x : View) → names a ≡ Some x → HoldsLife z v h.view x → Turned z n names (value_turn a x bytes at (length (seen_of (key_number x.key) w.knowledge))) v w)
    → LookDid z n h (replies.Value h.key bytes at) v w
value_did z n v w h bytes at turned = record {
  can = λ a. tt;
  turns = λ names a x is held. subst (λ (k : List ℕ). TurnsWith z n names (Look a) (replies.Value k bytes at) v w) (sym held.key) (record {
    places = only_at x.key (length (seen_of (key_number x.key) w.knowledge));
    floors = only_at x.key (length (seen_of (key_number x.key) w.knowledge));
    turned = turned names a x is held.life;
  });
}

pub copy_did : (z : Sizes) (n : ℕ) (v w : PassState) (h : HeldView) (bytes : List ℕ) (at : ℕ) (y : Result Reply OutOfMemory) (copy : Result (List ℕ) OutOfMemory)
    → ((names : Names) (a : List ℕ) (x : View) → names a ≡ Some x → HoldsLife z v h.view x → Turned z n names (value_turn a x bytes at (length (seen_of (key_number x.key) w.knowledge))) v w)
    → TellsCopy h.key copy at y → IfOk copy (λ b. b ≡ bytes) → IfOk y (λ r. LookDid z n h r v w)
copy_did z n v w h bytes at y copy turned tells same = copied h.key bytes at copy y (λ r. LookDid z n h r v w) (value_did z n v w h bytes at turned) same tells

-- it was found over
pub gone_did : (z : Sizes) (n : ℕ) (v w : PassState) (h : HeldView) → FindsOver z n h.view v w → LookDid z n h replies.Gone v w
gone_did z n v w h f = record {
  can = λ a. tt;
  turns = λ names a x is held. record { places = λ q. None; floors = only_at x.key (over_place z n h.view v w f); turned = gone_turned z n names a v w h.view x is held.life f };
}

-- a name that stands for nothing
pub unheld_did : (z : Sizes) (n : ℕ) (v : PassState) (m : BTreeMap (List ℕ) HeldView) (a : List ℕ) → get key_cmp m a ≡ None → CallDid z n m m (Look a) replies.Unheld v v
unheld_did z n v m a missing = record {
  can = tt;
  does = λ names keeps. record {
    turns = record { places = λ q. None; floors = λ q. None; turned = unheld_turned z n names a v (subst (λ (o : Option HeldView). Stands z v o (names a)) missing (keeps a)) };
    keeps = keeps;
  };
  lone = tt;
}

pub name_did : (z : Sizes) (n : ℕ) (v w : PassState) (m : BTreeMap (List ℕ) HeldView) (a : List ℕ) (h : HeldView) (y : Reply) → get key_cmp m a ≡ Some h → LookDid z n h y v w → CallDid z n m m (Look a) y v w
name_did z n v w m a h y is l = record {
  can = l.can a;
  does = λ names keeps. let f = name_held z v m names a h is keeps in let t = l.turns names a f.0 f.1 f.2 in record { turns = t; keeps = keeps_later z v w t.turned.extends t.turned.loaded m names keeps };
  lone = tt;
}
