-- Turns that fit are seated: their floors stand in the histories, what they read is a floor, and a write has a place of its key.
use Rattle.std.proofs.Common.{◌≡◌, ℕ, suc, ◌<◌, ◌≤◌, ◌&&◌, Bool, true, false, cond, leb, List, [], ◌∷◌, length, Option, Some, None, refl, sym, ap, subst, ◌∙◌, arith}
use Rattle.std.specs.Prelude.{MatchBool, MatchOption, ⊤}
use Rattle.std.specs.List.{AllByRecursion}
use Rattle.std.proofs.lemmas.Bool.{and_parts, both_ways}
use Rattle.oak_model.specs.declared.cells.CellReply.{CellReply}
use Rattle.oak_model.specs.declared.replies.Pair.{Pair}
use Rattle.oak_model.specs.declared.replies.Wrote.{Wrote}
use Rattle.oak_model.specs.declared.replies.Wrote.TheVariants as wrote
use Rattle.oak_model.specs.declared.replies.Reply.{Reply}
use Rattle.oak_model.specs.declared.replies.Reply.TheVariants as replies
use Rattle.oak_model.specs.Cell.{is_write}
use Rattle.oak_model.specs.Fits.{ReadFits, WriteFits}
use Rattle.oak_model.specs.History.{History, Histories, place_of}
use Rattle.oak_model.specs.Key.{same_key}
use Rattle.oak_model.specs.Scan.{in_range}
use Rattle.oak_model.proofs.KeyLaws.{same_is, same_itself}
use Rattle.oak_script.specs.declared.scripts.Call.{Call}
use Rattle.oak_script.specs.declared.scripts.Call.TheVariants.{Put, Get, PutNew, Compute, Upsert, Remove, Hold, Look, Scan, Back}
use Rattle.oak_run.specs.Answers.{AnswersFit, CellAnswer, KeyAnswer, asks_for, writes_key}
use Rattle.oak_run.specs.Scans.{RangeFits, ScanTurnFits, ScansFit, within_range}
use Rattle.oak_run.specs.Told.{Ask, Tells, WroteTells, ask_of, is_full, makes_write, reply_at, wrote_writes}
use Rattle.oak_run.specs.Turn.{PlacedAt, PlacedNowhere, Turn, only_at}
use Rattle.oak_run.specs.Views.{IsGone, LookFits, Names, View, ViewFits, ViewsFit, names_after}
use Rattle.oak_run.proofs.TurnCounts.{IsSeated}

-- no reply is `full`
abbrev pub NoneFull : List Turn → Type 0
NoneFull ts = AllByRecursion (λ (t : Turn). is_full t.reply ≡ false) ts

-- ---- places

place-most : (h : History) (at : ℕ) → place_of h at ≤ length h
place-most [] at = omega arith
place-most (w ∷ ws) at = by (leb w.stamp at) (place-most ws at)
  where
    by : (b : Bool) → place_of ws at ≤ length ws → cond b (suc (place_of ws at)) (place_of ws at) ≤ suc (length ws)
    by true rest = omega arith
    by false rest = omega arith

only-there : (k : List ℕ) (r : ℕ) (q : List ℕ) (s : ℕ) → only_at k r q ≡ Some s → (k ≡ q) × (r ≡ s)
only-there k r q s e = by (same_key k q) refl e
  where
    by : (b : Bool) → same_key k q ≡ b → cond b (Some r) None ≡ Some s → (k ≡ q) × (r ≡ s)
    by true same f = (same_is k q same, cc)
    by false other f = absurd cc

pub only-itself : (k : List ℕ) (r : ℕ) → only_at k r k ≡ Some r
only-itself k r = ap (λ (b : Bool). cond b (Some r) None) (same_itself k)

no-place : (o : Option ℕ) (r : ℕ) → o ≡ None → o ≡ Some r → ⊥
no-place o r none some = cc

-- ---- writes

wrote-writes : (w : Wrote) (word : CellReply) → WroteTells w word → wrote_writes w ≡ is_write word
wrote-writes (wrote.New at) word tells = sym (ap is_write tells)
wrote-writes (wrote.Over at) word tells = sym (ap is_write tells)
wrote-writes (wrote.Kept at) word tells = sym (ap is_write tells)
wrote-writes (wrote.Done at) word tells = sym (ap is_write tells)
wrote-writes (wrote.Removed at) word tells = sym (ap is_write tells)
wrote-writes (wrote.Absent at) word tells = sym (ap is_write tells)
wrote-writes (wrote.Full lack) word tells = absurd tells

-- a reply is a write's where it tells the cell's reply of a write
pub tells-writes : (k : List ℕ) (y : Reply) (word : CellReply) → Tells k y word → makes_write y ≡ is_write word
tells-writes k (replies.Wrote w) word tells = wrote-writes w word tells
tells-writes k (replies.Value key value at) word tells = sym (ap is_write tells.1)
tells-writes k (replies.Held at) word tells = sym (ap is_write tells.1)
tells-writes k replies.Gone word tells = absurd tells
tells-writes k replies.Unheld word tells = absurd tells
tells-writes k (replies.Pairs pairs) word tells = absurd tells

-- a call on no key writes none
pub no-write : (q : List ℕ) (t : Turn) → ask_of t.call ≡ None → writes_key q t ≡ false
no-write q t none = ap (λ (o : Option Ask). asks_for q o && makes_write t.reply) none

-- ---- seats

-- the answer of a call that was not refused
pub key-answer : (h : Histories) (caller n : ℕ) (a : Ask) (t : Turn) → is_full t.reply ≡ false → CellAnswer h caller n a t → KeyAnswer h caller n a t
key-answer h caller n a t fine f = subst (λ (b : Bool). MatchBool b (PlacedNowhere t) (KeyAnswer h caller n a t)) fine f

placed-seated : (h : Histories) (k : List ℕ) (at : ℕ) (t : Turn) → PlacedAt k (place_of (h k) at) t → ((q : List ℕ) → writes_key q t ≡ true → (k ≡ q) × (0 < place_of (h k) at)) → IsSeated h t
placed-seated h k at t placed first = record {
  within = λ q r e. let f = only-there k (place_of (h k) at) q r (sym (placed.floors q) ∙ e) in let most = place-most (h k) at in let fact : r ≤ length (h k) = (let same = f.1 in omega arith) in subst (λ (x : List ℕ). r ≤ length (h x)) f.0 fact;
  floors = λ q r e. placed.floors q ∙ (sym (placed.places q) ∙ e);
  written = λ q e. let f = first q e in (place_of (h k) at, f.1, placed.places q ∙ subst (λ (x : List ℕ). only_at k (place_of (h k) at) x ≡ Some (place_of (h k) at)) f.0 (only-itself k (place_of (h k) at)));
}

key-seated : (h : Histories) (caller n : ℕ) (t : Turn) (a : Ask) → ask_of t.call ≡ Some a → KeyAnswer h caller n a t → IsSeated h t
key-seated h caller n t a is f = placed-seated h a.key (reply_at t.reply) t f.placed (λ q e. let parts = and_parts (asks_for q (ask_of t.call)) (makes_write t.reply) e in (same_is a.key q (sym (ap (asks_for q) is) ∙ parts.0), first parts.1))
  where
    first : makes_write t.reply ≡ true → 0 < place_of (h a.key) (reply_at t.reply)
    first e =
        let fits : WriteFits (h a.key) caller n a.cell f.word (place_of (h a.key) (reply_at t.reply)) = subst (λ (b : Bool). MatchBool b (WriteFits (h a.key) caller n a.cell f.word (place_of (h a.key) (reply_at t.reply))) (ReadFits (h a.key) a.cell f.word (place_of (h a.key) (reply_at t.reply)))) (sym (tells-writes a.key t.reply f.word f.tells) ∙ e) f.fits in
        fits.first

-- a turn of a call on no key writes nothing
none-first : (t : Turn) (k : List ℕ) (P : Type 0) → ask_of t.call ≡ None → (q : List ℕ) → writes_key q t ≡ true → (k ≡ q) × P
none-first t k P none q e = absurd (both_ways (writes_key q t) (no-write q t none) e)

nowhere-seated : (h : Histories) (t : Turn) → ask_of t.call ≡ None → PlacedNowhere t → IsSeated h t
nowhere-seated h t none placed = record {
  within = λ q r e. absurd (no-place (t.floors q) r (placed.floors q) e);
  floors = λ q r e. absurd (no-place (t.places q) r (placed.places q) e);
  written = λ q e. absurd (both_ways (writes_key q t) (no-write q t none) e);
}

gone-seated : (h : Histories) (x : View) (t : Turn) → ask_of t.call ≡ None → IsGone h x t → IsSeated h t
gone-seated h x t none gone = record {
  within = λ q r e. let f = only-there x.key gone.removal q r (sym (gone.floors q) ∙ e) in let last = gone.ends.last in let fact : r ≤ length (h x.key) = (let same = f.1 in omega arith) in subst (λ (y : List ℕ). r ≤ length (h y)) f.0 fact;
  floors = λ q r e. absurd (no-place (t.places q) r (gone.places q) e);
  written = λ q e. absurd (both_ways (writes_key q t) (no-write q t none) e);
}

look-seated : (h : Histories) (view : Option View) (t : Turn) (y : Reply) → ask_of t.call ≡ None → LookFits h view t y → IsSeated h t
look-seated h view t replies.Unheld none f = nowhere-seated h t none f.1
look-seated h None t (replies.Value key value at) none f = absurd f
look-seated h (Some x) t (replies.Value key value at) none f = placed-seated h x.key at t f.placed (none-first t x.key (0 < place_of (h x.key) at) none)
look-seated h None t replies.Gone none f = absurd f
look-seated h (Some x) t replies.Gone none f = gone-seated h x t none f
look-seated h view t (replies.Wrote w) none f = absurd f
look-seated h view t (replies.Held at) none f = absurd f
look-seated h view t (replies.Pairs pairs) none f = absurd f

pub within-there : (low high : Option (List ℕ)) (places : List ℕ → ℕ) (q : List ℕ) (r : ℕ) → within_range low high places q ≡ Some r → (in_range low high q ≡ true) × (places q ≡ r)
within-there low high places q r e = by (in_range low high q) refl e
  where
    by : (b : Bool) → in_range low high q ≡ b → cond b (Some (places q)) None ≡ Some r → (in_range low high q ≡ true) × (places q ≡ r)
    by true inside f = (inside, cc)
    by false outside f = absurd cc

range-seated : (h : Histories) (P : List Pair → Type 0) (low high : Option (List ℕ)) (t : Turn) (y : Reply) → ask_of t.call ≡ None → RangeFits h P low high t y → IsSeated h t
range-seated h P low high t (replies.Pairs pairs) none f = record {
  within = λ q r e. let g = within-there low high f.1.reads q r (sym (f.1.floors q) ∙ e) in let most = f.1.fits.to q g.0 in let same = g.1 in omega arith;
  floors = λ q r e. f.1.floors q ∙ (sym (f.1.places q) ∙ e);
  written = λ q e. absurd (both_ways (writes_key q t) (no-write q t none) e);
}
range-seated h P low high t (replies.Wrote w) none f = absurd f
range-seated h P low high t (replies.Value key value at) none f = absurd f
range-seated h P low high t (replies.Held at) none f = absurd f
range-seated h P low high t replies.Gone none f = absurd f
range-seated h P low high t replies.Unheld none f = absurd f

turn-seated : (h : Histories) (names : Names) (caller n : ℕ) (t : Turn) (c : Call) → t.call ≡ c → is_full t.reply ≡ false
    → MatchOption (ask_of c) ⊤ (λ a. CellAnswer h caller n a t) → ViewFits h names t c → ScanTurnFits h t c → IsSeated h t
turn-seated h names caller n t (Put k v) is fine answer view scan = key-seated h caller n t _ (ap ask_of is) (key-answer h caller n _ t fine answer)
turn-seated h names caller n t (Get k) is fine answer view scan = key-seated h caller n t _ (ap ask_of is) (key-answer h caller n _ t fine answer)
turn-seated h names caller n t (PutNew k v) is fine answer view scan = key-seated h caller n t _ (ap ask_of is) (key-answer h caller n _ t fine answer)
turn-seated h names caller n t (Compute k f m) is fine answer view scan = key-seated h caller n t _ (ap ask_of is) (key-answer h caller n _ t fine answer)
turn-seated h names caller n t (Upsert k v f m) is fine answer view scan = key-seated h caller n t _ (ap ask_of is) (key-answer h caller n _ t fine answer)
turn-seated h names caller n t (Remove k) is fine answer view scan = key-seated h caller n t _ (ap ask_of is) (key-answer h caller n _ t fine answer)
turn-seated h names caller n t (Hold a k) is fine answer view scan = key-seated h caller n t _ (ap ask_of is) (key-answer h caller n _ t fine answer)
turn-seated h names caller n t (Look a) is fine answer view scan = look-seated h (names a) t t.reply (ap ask_of is) view
turn-seated h names caller n t (Scan low high) is fine answer view scan = range-seated h _ low high t t.reply (ap ask_of is) scan
turn-seated h names caller n t (Back low high) is fine answer view scan = range-seated h _ low high t t.reply (ap ask_of is) scan

-- All of a thread.
pub turns-seated : (h : Histories) (names : Names) (caller n : ℕ) (ts : List Turn) → NoneFull ts → AnswersFit h caller n ts → ViewsFit h names ts → ScansFit h ts → AllByRecursion (IsSeated h) ts
turns-seated h names caller n [] fine answers views scans = tt
turns-seated h names caller n (t ∷ ts) fine answers views scans = (
  turn-seated h names caller n t t.call refl fine.0 answers.0 views.0 scans.0,
  turns-seated h (names_after names t) caller (suc n) ts fine.1 answers.1 views.1 scans.1,
)
