-- A hold is a turn that fits, and its name stands for what was found behind it.
use Rattle.std.proofs.Common.{◌≡◌, ℕ, Bool, true, cond, List, length, Option, Some, None, refl, sym, ap, subst}
use Rattle.std.specs.Option.{option_map}
use Rattle.std.specs.BTreeMap.{BTreeMap, get}
use Rattle.oak_model.specs.declared.cells.CellCall.TheVariants as asks
use Rattle.oak_model.specs.declared.cells.CellReply.TheVariants as words
use Rattle.oak_model.specs.declared.replies.Reply.TheVariants as replies
use Rattle.oak_model.specs.declared.replies.Wrote.TheVariants as wrote
use Rattle.oak_model.specs.Key.{is_key, key_cmp, same_key}
use Rattle.oak_model.specs.KeyNumber.{key_number}
use Rattle.oak_model.specs.Limits.{Sizes}
use Rattle.oak_model.proofs.KeyLaws.{same_itself}
use Rattle.oak_script.specs.declared.scripts.Call.TheVariants.{Hold}
use Rattle.oak_core.specs.declared.states.PassState.{PassState}
use Rattle.oak_core.specs.PassState.{seen_of}
use Rattle.value_ops.specs.Views.{Viewed}
use Rattle.point_ops.specs.Gets.{ViewFits}
use Rattle.point_ops.specs.Replies.{RepliesAt}
use Rattle.oak_run.specs.declared.looks.HeldView.{HeldView}
use Rattle.oak_run.specs.HeldNames.{CallDid, KeepsViews}
use Rattle.oak_run.specs.Turn.{only_at}
use Rattle.oak_run.specs.Views.{named}
use Rattle.oak_run.proofs.AskCalls.{map_replies}
use Rattle.oak_run.proofs.AskTurns.{reply_turned}
use Rattle.oak_run.proofs.HeldLaws.{keeps_named}
use Rattle.oak_run.proofs.LookTurns.{hold_names}

-- the place of the key itself
only_itself : (k : List ℕ) (r : ℕ) → only_at k r k ≡ Some r
only_itself k r = ap (λ (b : Bool). cond b (Some r) None) (same_itself k)

pub view_held : (z : Sizes) (n : ℕ) (v w : PassState) (old now : BTreeMap (List ℕ) HeldView) (a k : List ℕ) (x : Viewed) → is_key k ≡ true → ViewFits z n k x v w
    → ((q : List ℕ) → get key_cmp now q ≡ cond (same_key a q) (Some (record { key = k; view = x })) (get key_cmp old q)) → CallDid z n old now (Hold a k) (replies.Held x.at) v w
view_held z n v w old now a k x is f updates = record {
  can = tt;
  does = λ names keeps. record {
    turns = record {
      places = only_at k place;
      floors = only_at k place;
      turned = reply_turned z n names (Hold a k) k asks.Get (replies.Held x.at) (words.Holds f.bytes) x.at v w is refl (map_replies n k asks.Get (words.Holds f.bytes) x.at v w f.replies)
          (record { tells = (f.bytes, refl); number = refl; not_full = refl; writes = refl });
    };
    keeps = subst (λ (o : Option ℕ). KeepsViews z now w (named names a (option_map (λ r. record { key = k; place = r }) o))) (sym (only_itself k place))
        (keeps_named z v w f.replies.goes.seen f.replies.goes.loaded old now names a (Some (record { key = k; view = x })) (Some (record { key = k; place = place })) updates (record { key = refl; life = hold_names z n k x v w is f }) keeps);
  };
  lone = tt;
}
  where
    place : ℕ
    place = length (seen_of (key_number k) w.knowledge)

pub none_held : (z : Sizes) (n at : ℕ) (v w : PassState) (old now : BTreeMap (List ℕ) HeldView) (a k : List ℕ) → is_key k ≡ true → RepliesAt n k asks.Get words.Absent at v w
    → ((q : List ℕ) → get key_cmp now q ≡ cond (same_key a q) None (get key_cmp old q)) → CallDid z n old now (Hold a k) (replies.Wrote (wrote.Absent at)) v w
none_held z n at v w old now a k is r updates = record {
  can = tt;
  does = λ names keeps. record {
    turns = record {
      places = only_at k (length (seen_of (key_number k) w.knowledge));
      floors = only_at k (length (seen_of (key_number k) w.knowledge));
      turned = reply_turned z n names (Hold a k) k asks.Get (replies.Wrote (wrote.Absent at)) words.Absent at v w is refl (map_replies n k asks.Get words.Absent at v w r)
          (record { tells = refl; number = refl; not_full = refl; writes = refl });
    };
    keeps = keeps_named z v w r.goes.seen r.goes.loaded old now names a None None updates refl keeps;
  };
  lone = tt;
}
