-- Each answer of a call on a key of the map is a turn that fits, with a reply that the call can have.
use Rattle.std.proofs.Common.{◌≡◌, ℕ, ◌-◌, Bool, true, false, List, length, Some, Result, Ok, Err, refl, sym, subst}
use Rattle.std.specs.Prelude.{IfOk, MatchBool}
use Rattle.std.specs.BTreeMap.{BTreeMap}
use Rattle.oak_model.specs.declared.cells.CellCall.{CellCall}
use Rattle.oak_model.specs.declared.cells.CellCall.TheVariants as asks
use Rattle.oak_model.specs.declared.cells.CellReply.{CellReply}
use Rattle.oak_model.specs.declared.cells.CellReply.TheVariants as words
use Rattle.oak_model.specs.declared.memory.OutOfMemory.{OutOfMemory}
use Rattle.oak_model.specs.declared.recipes.RecipeKind.{RecipeKind}
use Rattle.oak_model.specs.declared.replies.Reply.{Reply}
use Rattle.oak_model.specs.declared.replies.Reply.TheVariants as replies
use Rattle.oak_model.specs.declared.replies.Wrote.{Wrote}
use Rattle.oak_model.specs.declared.replies.Wrote.TheVariants.{New, Over, Kept, Done, Removed, Absent, Full}
use Rattle.oak_model.specs.Cell.{is_write, reply_of}
use Rattle.oak_model.specs.Fits.{ReadFits, WriteFits}
use Rattle.oak_model.specs.History.{History, state_at}
use Rattle.oak_model.specs.Key.{is_key}
use Rattle.oak_model.specs.KeyNumber.{key_number}
use Rattle.oak_model.specs.Limits.{Sizes}
use Rattle.oak_core.specs.declared.states.PassState.{PassState}
use Rattle.oak_core.specs.PassState.{seen_of}
use Rattle.oak_core.proofs.calls.CallSteps.{begins_same}
use Rattle.point_ops.specs.Counted.{times_done}
use Rattle.point_ops.specs.Parts.{WroteFits}
use Rattle.point_ops.specs.Replies.{RepliesAt}
use Rattle.oak_map.specs.Replying.{MapReplies, PutFits}
use Rattle.oak_script.specs.declared.scripts.Call.{Call}
use Rattle.oak_script.specs.declared.scripts.Call.TheVariants as calls
use Rattle.oak_script.specs.Text.{CanReply}
use Rattle.oak_run.specs.declared.looks.HeldView.{HeldView}
use Rattle.oak_run.specs.CallTurns.{CallTurned, TellsCopy, TurnsWith, times_told}
use Rattle.oak_run.specs.HeldNames.{CallDid, KeepsViews}
use Rattle.oak_run.specs.LoneCalls.{PutsSo}
use Rattle.oak_run.specs.Told.{Ask, TellsWord, ask_of}
use Rattle.oak_run.specs.Turn.{Turn}
use Rattle.oak_run.specs.Views.{Names, renamed}
use Rattle.oak_run.proofs.AskTurns.{key_turn, reply_turned}
use Rattle.oak_run.proofs.CanLaws.{can-compute, can-put, can-put_new, can-remove, can-upsert, has_word, reply-has_word}
use Rattle.oak_run.proofs.FullTurns.{full_turn, full_turned}
use Rattle.oak_run.proofs.HeldLaws.{keeps_later}
use Rattle.oak_run.proofs.OkLaws.{if_ok-map}

-- a reply of the cell
reply_turns : (z : Sizes) (n : ℕ) (a : Ask) (word : CellReply) (at : ℕ) (y : Reply) (v w : PassState) → is_key a.key ≡ true → TellsWord a.key word at y → MapReplies n a.key a.cell word at v w → (c : Call) → ask_of c ≡ Some a → (names : Names) → TurnsWith z n names c y v w
reply_turns z n a word at y v w is said r c asked names = let t = key_turn c y a.key (length (seen_of (key_number a.key) w.knowledge)) in record { places = t.places; floors = t.floors; turned = reply_turned z n names c a.key a.cell y word at v w is asked r said }

-- what a call that puts answers
pub put_turns : (y : Wrote) (z : Sizes) (n : ℕ) (a : Ask) (v w : PassState) → is_key a.key ≡ true → PutFits y z n a.key a.cell v w → (c : Call) → ask_of c ≡ Some a → (names : Names) → TurnsWith z n names c (replies.Wrote y) v w
put_turns (New at) z n a v w is f = reply_turns z n a words.New at (replies.Wrote (New at)) v w is (record { tells = refl; number = refl; not_full = refl; writes = refl }) f
put_turns (Over at) z n a v w is f = reply_turns z n a words.Over at (replies.Wrote (Over at)) v w is (record { tells = refl; number = refl; not_full = refl; writes = refl }) f
put_turns (Kept at) z n a v w is f = reply_turns z n a words.Kept at (replies.Wrote (Kept at)) v w is (record { tells = refl; number = refl; not_full = refl; writes = refl }) f
put_turns (Done at) z n a v w is f = reply_turns z n a words.Done at (replies.Wrote (Done at)) v w is (record { tells = refl; number = refl; not_full = refl; writes = refl }) f
put_turns (Removed at) z n a v w is f = reply_turns z n a words.Removed at (replies.Wrote (Removed at)) v w is (record { tells = refl; number = refl; not_full = refl; writes = refl }) f
put_turns (Absent at) z n a v w is f = reply_turns z n a words.Absent at (replies.Wrote (Absent at)) v w is (record { tells = refl; number = refl; not_full = refl; writes = refl }) f
put_turns (Full lack) z n a v w is f = λ c asked names. let t = full_turn c lack in record { places = t.places; floors = t.floors; turned = full_turned z n names c a.key a.cell lack v w is asked f }

-- a reply that refused nothing and swept no range
pub map_replies : (n : ℕ) (key : List ℕ) (ask : CellCall) (word : CellReply) (at : ℕ) (v w : PassState) → RepliesAt n key ask word at v w → MapReplies n key ask word at v w
map_replies n key ask word at v w r = record {
  goes = r.goes;
  known = r.known;
  fits = r.fits;
  later = r.later;
  found = r.found;
  mine = r.mine;
  holds = record { blocks = r.holds.blocks; headers = r.holds.headers; rooms = r.holds.rooms; numbers = r.holds.numbers; fulls = r.holds.fulls; swept = begins_same v.findings.swept w.findings.swept r.holds.swept };
}

-- what one that computes or removes does, as one that puts
put_fits : (y : Wrote) (z : Sizes) (n : ℕ) (key : List ℕ) (cell : CellCall) (v w : PassState) → WroteFits y n key cell v w → PutFits y z n key cell v w
put_fits (New at) z n key cell v w f = map_replies n key cell words.New at v w f
put_fits (Over at) z n key cell v w f = map_replies n key cell words.Over at v w f
put_fits (Kept at) z n key cell v w f = map_replies n key cell words.Kept at v w f
put_fits (Done at) z n key cell v w f = map_replies n key cell words.Done at v w f
put_fits (Removed at) z n key cell v w f = map_replies n key cell words.Removed at v w f
put_fits (Absent at) z n key cell v w f = map_replies n key cell words.Absent at v w f
put_fits (Full lack) z n key cell v w f = absurd f

pub wrote_turns : (y : Wrote) (z : Sizes) (n : ℕ) (a : Ask) (v w : PassState) → is_key a.key ≡ true → WroteFits y n a.key a.cell v w → (c : Call) → ask_of c ≡ Some a → (names : Names) → TurnsWith z n names c (replies.Wrote y) v w
wrote_turns y z n a v w is f = put_turns y z n a v w is (put_fits y z n a.key a.cell v w f)

-- ---- replies that the calls can have

-- the word is one that the call can have
can_word : (n : ℕ) (key : List ℕ) (cell : CellCall) (word : CellReply) (at : ℕ) (v w : PassState) → MapReplies n key cell word at v w → has_word cell word ≡ true
can_word n key cell word at v w r = by (is_write word) _ _ r.fits
  where
    answered : (h : History) (i : ℕ) → reply_of (state_at h i) cell ≡ word → has_word cell word ≡ true
    answered h i e = subst (λ (x : CellReply). has_word cell x ≡ true) e (reply-has_word (state_at h i) cell)

    by : (b : Bool) (h : History) (i : ℕ) → MatchBool b (WriteFits h v.numbers.number n cell word i) (ReadFits h cell word i) → has_word cell word ≡ true
    by true h i f = answered h (i - 1) f.answer
    by false h i f = answered h i f.answer

pub can_put : (y : Wrote) (z : Sizes) (n : ℕ) (k x : List ℕ) (v w : PassState) → PutFits y z n k (asks.Put x) v w → CanReply (calls.Put k x) (replies.Wrote y)
can_put (New at) z n k x v w f = can-put k x (replies.Wrote (New at)) words.New refl refl (can_word n k (asks.Put x) words.New at v w f)
can_put (Over at) z n k x v w f = can-put k x (replies.Wrote (Over at)) words.Over refl refl (can_word n k (asks.Put x) words.Over at v w f)
can_put (Kept at) z n k x v w f = can-put k x (replies.Wrote (Kept at)) words.Kept refl refl (can_word n k (asks.Put x) words.Kept at v w f)
can_put (Done at) z n k x v w f = can-put k x (replies.Wrote (Done at)) words.Done refl refl (can_word n k (asks.Put x) words.Done at v w f)
can_put (Removed at) z n k x v w f = can-put k x (replies.Wrote (Removed at)) words.Removed refl refl (can_word n k (asks.Put x) words.Removed at v w f)
can_put (Absent at) z n k x v w f = can-put k x (replies.Wrote (Absent at)) words.Absent refl refl (can_word n k (asks.Put x) words.Absent at v w f)
can_put (Full lack) z n k x v w f = tt

pub can_put_new : (y : Wrote) (z : Sizes) (n : ℕ) (k x : List ℕ) (v w : PassState) → PutFits y z n k (asks.PutNew x) v w → CanReply (calls.PutNew k x) (replies.Wrote y)
can_put_new (New at) z n k x v w f = can-put_new k x (replies.Wrote (New at)) words.New refl refl (can_word n k (asks.PutNew x) words.New at v w f)
can_put_new (Over at) z n k x v w f = can-put_new k x (replies.Wrote (Over at)) words.Over refl refl (can_word n k (asks.PutNew x) words.Over at v w f)
can_put_new (Kept at) z n k x v w f = can-put_new k x (replies.Wrote (Kept at)) words.Kept refl refl (can_word n k (asks.PutNew x) words.Kept at v w f)
can_put_new (Done at) z n k x v w f = can-put_new k x (replies.Wrote (Done at)) words.Done refl refl (can_word n k (asks.PutNew x) words.Done at v w f)
can_put_new (Removed at) z n k x v w f = can-put_new k x (replies.Wrote (Removed at)) words.Removed refl refl (can_word n k (asks.PutNew x) words.Removed at v w f)
can_put_new (Absent at) z n k x v w f = can-put_new k x (replies.Wrote (Absent at)) words.Absent refl refl (can_word n k (asks.PutNew x) words.Absent at v w f)
can_put_new (Full lack) z n k x v w f = tt

pub can_upsert : (y : Wrote) (z : Sizes) (n : ℕ) (k x : List ℕ) (r : RecipeKind) (m : ℕ) (v w : PassState) → PutFits y z n k (asks.Upsert x r m) v w → CanReply (calls.Upsert k x r m) (replies.Wrote y)
can_upsert (New at) z n k x r m v w f = can-upsert k x r m (replies.Wrote (New at)) words.New refl refl (can_word n k (asks.Upsert x r m) words.New at v w f)
can_upsert (Over at) z n k x r m v w f = can-upsert k x r m (replies.Wrote (Over at)) words.Over refl refl (can_word n k (asks.Upsert x r m) words.Over at v w f)
can_upsert (Kept at) z n k x r m v w f = can-upsert k x r m (replies.Wrote (Kept at)) words.Kept refl refl (can_word n k (asks.Upsert x r m) words.Kept at v w f)
can_upsert (Done at) z n k x r m v w f = can-upsert k x r m (replies.Wrote (Done at)) words.Done refl refl (can_word n k (asks.Upsert x r m) words.Done at v w f)
can_upsert (Removed at) z n k x r m v w f = can-upsert k x r m (replies.Wrote (Removed at)) words.Removed refl refl (can_word n k (asks.Upsert x r m) words.Removed at v w f)
can_upsert (Absent at) z n k x r m v w f = can-upsert k x r m (replies.Wrote (Absent at)) words.Absent refl refl (can_word n k (asks.Upsert x r m) words.Absent at v w f)
can_upsert (Full lack) z n k x r m v w f = tt

can_compute : (y : Wrote) (z : Sizes) (n : ℕ) (k : List ℕ) (r : RecipeKind) (m : ℕ) (v w : PassState) → WroteFits y n k (asks.Compute r m) v w → CanReply (calls.Compute k r m) (replies.Wrote y)
can_compute (New at) z n k r m v w f = can-compute k r m (replies.Wrote (New at)) words.New refl refl (can_word n k (asks.Compute r m) words.New at v w (map_replies n k (asks.Compute r m) words.New at v w f))
can_compute (Over at) z n k r m v w f = can-compute k r m (replies.Wrote (Over at)) words.Over refl refl (can_word n k (asks.Compute r m) words.Over at v w (map_replies n k (asks.Compute r m) words.Over at v w f))
can_compute (Kept at) z n k r m v w f = can-compute k r m (replies.Wrote (Kept at)) words.Kept refl refl (can_word n k (asks.Compute r m) words.Kept at v w (map_replies n k (asks.Compute r m) words.Kept at v w f))
can_compute (Done at) z n k r m v w f = can-compute k r m (replies.Wrote (Done at)) words.Done refl refl (can_word n k (asks.Compute r m) words.Done at v w (map_replies n k (asks.Compute r m) words.Done at v w f))
can_compute (Removed at) z n k r m v w f = can-compute k r m (replies.Wrote (Removed at)) words.Removed refl refl (can_word n k (asks.Compute r m) words.Removed at v w (map_replies n k (asks.Compute r m) words.Removed at v w f))
can_compute (Absent at) z n k r m v w f = can-compute k r m (replies.Wrote (Absent at)) words.Absent refl refl (can_word n k (asks.Compute r m) words.Absent at v w (map_replies n k (asks.Compute r m) words.Absent at v w f))
can_compute (Full lack) z n k r m v w f = absurd f

can_remove : (y : Wrote) (z : Sizes) (n : ℕ) (k : List ℕ) (v w : PassState) → WroteFits y n k asks.Remove v w → CanReply (calls.Remove k) (replies.Wrote y)
can_remove (New at) z n k v w f = can-remove k (replies.Wrote (New at)) words.New refl refl (can_word n k (asks.Remove) words.New at v w (map_replies n k (asks.Remove) words.New at v w f))
can_remove (Over at) z n k v w f = can-remove k (replies.Wrote (Over at)) words.Over refl refl (can_word n k (asks.Remove) words.Over at v w (map_replies n k (asks.Remove) words.Over at v w f))
can_remove (Kept at) z n k v w f = can-remove k (replies.Wrote (Kept at)) words.Kept refl refl (can_word n k (asks.Remove) words.Kept at v w (map_replies n k (asks.Remove) words.Kept at v w f))
can_remove (Done at) z n k v w f = can-remove k (replies.Wrote (Done at)) words.Done refl refl (can_word n k (asks.Remove) words.Done at v w (map_replies n k (asks.Remove) words.Done at v w f))
can_remove (Removed at) z n k v w f = can-remove k (replies.Wrote (Removed at)) words.Removed refl refl (can_word n k (asks.Remove) words.Removed at v w (map_replies n k (asks.Remove) words.Removed at v w f))
can_remove (Absent at) z n k v w f = can-remove k (replies.Wrote (Absent at)) words.Absent refl refl (can_word n k (asks.Remove) words.Absent at v w (map_replies n k (asks.Remove) words.Absent at v w f))
can_remove (Full lack) z n k v w f = absurd f

-- ---- whole calls

pub computed : (y : Wrote) (z : Sizes) (n : ℕ) (k : List ℕ) (r : RecipeKind) (m : ℕ) (v w : PassState) → is_key k ≡ true → WroteFits y n k (asks.Compute r m) v w → CallTurned z n (calls.Compute k r m) (replies.Wrote y) v w
computed y z n k r m v w is f = record { can = can_compute y z n k r m v w f; turns = wrote_turns y z n (record { key = k; cell = asks.Compute r m }) v w is f (calls.Compute k r m) refl; lone = tt }

pub removed : (y : Wrote) (z : Sizes) (n : ℕ) (k : List ℕ) (v w : PassState) → is_key k ≡ true → WroteFits y n k asks.Remove v w → CallTurned z n (calls.Remove k) (replies.Wrote y) v w
removed y z n k v w is f = record { can = can_remove y z n k v w f; turns = wrote_turns y z n (record { key = k; cell = asks.Remove }) v w is f (calls.Remove k) refl; lone = tt }

pub put : (y : Wrote) (z : Sizes) (n : ℕ) (k x : List ℕ) (v w : PassState) → is_key k ≡ true → PutsSo z n (record { key = k; cell = asks.Put x }) y v w → CallTurned z n (calls.Put k x) (replies.Wrote y) v w
put y z n k x v w is p = record { can = can_put y z n k x v w p.fits; turns = put_turns y z n (record { key = k; cell = asks.Put x }) v w is p.fits (calls.Put k x) refl; lone = (y, refl, p) }

pub put_new : (y : Wrote) (z : Sizes) (n : ℕ) (k x : List ℕ) (v w : PassState) → is_key k ≡ true → PutsSo z n (record { key = k; cell = asks.PutNew x }) y v w → CallTurned z n (calls.PutNew k x) (replies.Wrote y) v w
put_new y z n k x v w is p = record { can = can_put_new y z n k x v w p.fits; turns = put_turns y z n (record { key = k; cell = asks.PutNew x }) v w is p.fits (calls.PutNew k x) refl; lone = (y, refl, p) }

pub upserted : (y : Wrote) (z : Sizes) (n : ℕ) (k x : List ℕ) (r : RecipeKind) (m : ℕ) (v w : PassState) → is_key k ≡ true → PutsSo z n (record { key = k; cell = asks.Upsert x r m }) y v w → CallTurned z n (calls.Upsert k x r m) (replies.Wrote y) v w
upserted y z n k x r m v w is p = record { can = can_upsert y z n k x r m v w p.fits; turns = put_turns y z n (record { key = k; cell = asks.Upsert x r m }) v w is p.fits (calls.Upsert k x r m) refl; lone = (y, refl, p) }

pub found_none : (z : Sizes) (n : ℕ) (k : List ℕ) (at : ℕ) (v w : PassState) → is_key k ≡ true → RepliesAt n k asks.Get words.Absent at v w → CallTurned z n (calls.Get k) (replies.Wrote (Absent at)) v w
found_none z n k at v w is r = record { can = tt; turns = wrote_turns (Absent at) z n (record { key = k; cell = asks.Get }) v w is r (calls.Get k) refl; lone = tt }

-- a value that was read
pub found_value : (z : Sizes) (n : ℕ) (k value : List ℕ) (at : ℕ) (v w : PassState) → is_key k ≡ true → RepliesAt n k asks.Get (words.Holds value) at v w → CallTurned z n (calls.Get k) (replies.Value k value at) v w
found_value z n k value at v w is r = record {
  can = tt;
  turns = reply_turns z n (record { key = k; cell = asks.Get }) (words.Holds value) at (replies.Value k value at) v w is (record { tells = (refl, refl); number = refl; not_full = refl; writes = refl })
      (map_replies n k asks.Get (words.Holds value) at v w r) (calls.Get k) refl;
  lone = tt;
}

-- a reply that tells a copy, where there was memory for it
pub copied : (key value : List ℕ) (at : ℕ) (copy : Result (List ℕ) OutOfMemory) (y : Result Reply OutOfMemory) (P : Reply → Type 0) → P (replies.Value key value at) → IfOk copy (λ x. x ≡ value) → TellsCopy key copy at y → IfOk y P
copied key value at (Ok x) y P p same tells = if_ok-map (λ r. r ≡ replies.Value key x at) P y (λ r is. subst P (sym is) (subst (λ (b : List ℕ). P (replies.Value key b at)) (sym same) p)) tells
copied key value at (Err e) y P p same tells = subst (λ (o : Result Reply OutOfMemory). IfOk o P) (sym tells) tt

-- the recipe was applied as often as the reply says
pub times_are : (y : Wrote) → times_done (Ok y) ≡ times_told (replies.Wrote y)
times_are (New at) = refl
times_are (Over at) = refl
times_are (Kept at) = refl
times_are (Done at) = refl
times_are (Removed at) = refl
times_are (Absent at) = refl
times_are (Full lack) = refl

-- ---- what is held

-- a call on a key that names nothing leaves what the names stand for
pub call_did : (z : Sizes) (n : ℕ) (holds : BTreeMap (List ℕ) HeldView) (c : Call) (y : Reply) (v w : PassState) → ((names : Names) (t : Turn) → renamed names t c ≡ names) → CallTurned z n c y v w → CallDid z n holds holds c y v w
call_did z n holds c y v w still x = record {
  can = x.can;
  does = λ names keeps. let t = x.turns names in record {
    turns = t;
    keeps = subst (λ (m : Names). KeepsViews z holds w m) (sym (still names (record { call = c; reply = y; places = t.places; floors = t.floors }))) (keeps_later z v w t.turned.extends t.turned.loaded holds names keeps);
  };
  lone = x.lone;
}
