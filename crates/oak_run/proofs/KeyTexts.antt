-- The line of a reply on a key, from the state that the key had behind the thread's writes of it and their count.
use Rattle.std.proofs.Common.{◌≡◌, ℕ, Bool, true, false, List, ◌++◌, Option, Some, None, refl, sym, ap, ◌∙◌}
use Rattle.std.specs.Prelude.{codes}
use Rattle.std.specs.Fmt.{decimal}
use Rattle.std.specs.Option.{option_map, option_map_or}
use Rattle.oak_model.specs.declared.cells.CellReply.{CellReply}
use Rattle.oak_model.specs.declared.cells.CellReply.TheVariants as words
use Rattle.oak_model.specs.declared.replies.Wrote.{Wrote}
use Rattle.oak_model.specs.declared.replies.Wrote.TheVariants as wrote
use Rattle.oak_model.specs.declared.replies.Reply.{Reply}
use Rattle.oak_model.specs.declared.replies.Reply.TheVariants as replies
use Rattle.oak_script.specs.declared.scripts.Call.{Call}
use Rattle.oak_script.specs.declared.scripts.Call.TheVariants.{Put, Get, PutNew, Compute, Upsert, Remove, Hold, Look, Scan, Back}
use Rattle.oak_script.specs.Places.{Places, key_of}
use Rattle.oak_script.specs.Text.{CanReply, line_end, place_in, placed_text, reply_text, wrote_text}
use Rattle.oak_script.specs.Words.{value_word}
use Rattle.oak_run.specs.Told.{Ask, Tells, WroteTells, ask_of, reply_at, wrote_at}
use Rattle.oak_run.specs.Turn.{Turn}
use Rattle.oak_run.specs.Views.{View, view_of}

-- ---- the line that tells a cell's reply, to a hold or another call, at a place

abbrev pub is_hold : Call → Bool
is_hold (Put k v) = false
is_hold (Get k) = false
is_hold (PutNew k v) = false
is_hold (Compute k r n) = false
is_hold (Upsert k v r n) = false
is_hold (Remove k) = false
is_hold (Hold a k) = true
is_hold (Look a) = false
is_hold (Scan low high) = false
is_hold (Back low high) = false

abbrev pub shown_at : List ℕ → ℕ → List ℕ
shown_at value r = codes "= " ++ (value_word value ++ (codes " @" ++ (decimal r ++ line_end)))

abbrev pub held_text : Bool → List ℕ → ℕ → List ℕ
held_text true bytes r = placed_text (codes "held") r
held_text false bytes r = shown_at bytes r

abbrev pub word_text : Bool → CellReply → ℕ → List ℕ
word_text holds words.New r = placed_text (codes "new") r
word_text holds words.Over r = placed_text (codes "over") r
word_text holds words.Kept r = placed_text (codes "kept") r
word_text holds words.Done r = placed_text (codes "done") r
word_text holds words.Removed r = placed_text (codes "removed") r
word_text holds words.Absent r = placed_text (codes "none") r
word_text holds (words.Holds bytes) r = held_text holds bytes r

key-named : (c : Call) (a : Ask) → ask_of c ≡ Some a → key_of c ≡ Some a.key
key-named c a e = by c ∙ ap (λ (o : Option Ask). option_map (λ (x : Ask). x.key) o) e
  where
    by : (d : Call) → key_of d ≡ option_map (λ (x : Ask). x.key) (ask_of d)
    by (Put k v) = refl
    by (Get k) = refl
    by (PutNew k v) = refl
    by (Compute k r n) = refl
    by (Upsert k v r n) = refl
    by (Remove k) = refl
    by (Hold b k) = refl
    by (Look b) = refl
    by (Scan low high) = refl
    by (Back low high) = refl

placed-there : (p : Places) (c : Call) (k : List ℕ) (at : ℕ) → key_of c ≡ Some k → place_in p c at ≡ p k at
placed-there p c k at e = ap (λ (o : Option (List ℕ)). option_map_or (λ q. p q at) o 0) e

wrote-line : (p : Places) (c : Call) (k : List ℕ) (w : Wrote) (word : CellReply) → key_of c ≡ Some k → WroteTells w word → wrote_text p c w ≡ word_text (is_hold c) word (p k (wrote_at w))
wrote-line p c k (wrote.New at) word e tells = ap (placed_text (codes "new")) (placed-there p c k at e) ∙ sym (ap (λ (x : CellReply). word_text (is_hold c) x (p k at)) tells)
wrote-line p c k (wrote.Over at) word e tells = ap (placed_text (codes "over")) (placed-there p c k at e) ∙ sym (ap (λ (x : CellReply). word_text (is_hold c) x (p k at)) tells)
wrote-line p c k (wrote.Kept at) word e tells = ap (placed_text (codes "kept")) (placed-there p c k at e) ∙ sym (ap (λ (x : CellReply). word_text (is_hold c) x (p k at)) tells)
wrote-line p c k (wrote.Done at) word e tells = ap (placed_text (codes "done")) (placed-there p c k at e) ∙ sym (ap (λ (x : CellReply). word_text (is_hold c) x (p k at)) tells)
wrote-line p c k (wrote.Removed at) word e tells = ap (placed_text (codes "removed")) (placed-there p c k at e) ∙ sym (ap (λ (x : CellReply). word_text (is_hold c) x (p k at)) tells)
wrote-line p c k (wrote.Absent at) word e tells = ap (placed_text (codes "none")) (placed-there p c k at e) ∙ sym (ap (λ (x : CellReply). word_text (is_hold c) x (p k at)) tells)
wrote-line p c k (wrote.Full lack) word e tells = absurd tells

-- a call on a key that is replied to with a value is no hold, and one that is replied to with `held` is one

value-unheld : (c : Call) (a : Ask) (key value : List ℕ) (at : ℕ) → ask_of c ≡ Some a → CanReply c (replies.Value key value at) → is_hold c ≡ false
value-unheld (Put k v) a key value at e can = refl
value-unheld (Get k) a key value at e can = refl
value-unheld (PutNew k v) a key value at e can = refl
value-unheld (Compute k r n) a key value at e can = refl
value-unheld (Upsert k v r n) a key value at e can = refl
value-unheld (Remove k) a key value at e can = refl
value-unheld (Hold b k) a key value at e can = absurd can
value-unheld (Look b) a key value at e can = refl
value-unheld (Scan low high) a key value at e can = refl
value-unheld (Back low high) a key value at e can = refl

held-holds : (c : Call) (at : ℕ) → CanReply c (replies.Held at) → is_hold c ≡ true
held-holds (Put k v) at can = absurd can
held-holds (Get k) at can = absurd can
held-holds (PutNew k v) at can = absurd can
held-holds (Compute k r n) at can = absurd can
held-holds (Upsert k v r n) at can = absurd can
held-holds (Remove k) at can = absurd can
held-holds (Hold b k) at can = refl
held-holds (Look b) at can = absurd can
held-holds (Scan low high) at can = absurd can
held-holds (Back low high) at can = absurd can

pub key-line : (p : Places) (c : Call) (a : Ask) (y : Reply) (word : CellReply) → ask_of c ≡ Some a → CanReply c y → Tells a.key y word → reply_text p c y ≡ word_text (is_hold c) word (p a.key (reply_at y))
key-line p c a (replies.Wrote w) word e can tells = wrote-line p c a.key w word (key-named c a e) tells
key-line p c a (replies.Value key value at) word e can tells =
    ap (λ (k : List ℕ). shown_at value (p k at)) tells.0
    ∙ (sym (ap (λ (b : Bool). held_text b value (p a.key at)) (value-unheld c a key value at e can))
    ∙ sym (ap (λ (x : CellReply). word_text (is_hold c) x (p a.key at)) tells.1))
key-line p c a (replies.Held at) word e can tells =
    ap (placed_text (codes "held")) (placed-there p c a.key at (key-named c a e))
    ∙ (sym (ap (λ (b : Bool). held_text b tells.0 (p a.key at)) (held-holds c at can))
    ∙ sym (ap (λ (x : CellReply). word_text (is_hold c) x (p a.key at)) tells.1))
key-line p c a replies.Gone word e can tells = absurd tells
key-line p c a replies.Unheld word e can tells = absurd tells
key-line p c a (replies.Pairs pairs) word e can tells = absurd tells

-- ---- what a hold leaves

abbrev pub held_view : List ℕ → CellReply → ℕ → Option View
held_view k words.New r = None
held_view k words.Over r = None
held_view k words.Kept r = None
held_view k words.Done r = None
held_view k words.Removed r = None
held_view k words.Absent r = None
held_view k (words.Holds bytes) r = Some (record { key = k; place = r })

wrote-view : (k : List ℕ) (w : Wrote) (word : CellReply) (r : ℕ) → WroteTells w word → (let none : Option View = None in none ≡ held_view k word r)
wrote-view k (wrote.New at) word r tells = sym (ap (λ (x : CellReply). held_view k x r) tells)
wrote-view k (wrote.Over at) word r tells = sym (ap (λ (x : CellReply). held_view k x r) tells)
wrote-view k (wrote.Kept at) word r tells = sym (ap (λ (x : CellReply). held_view k x r) tells)
wrote-view k (wrote.Done at) word r tells = sym (ap (λ (x : CellReply). held_view k x r) tells)
wrote-view k (wrote.Removed at) word r tells = sym (ap (λ (x : CellReply). held_view k x r) tells)
wrote-view k (wrote.Absent at) word r tells = sym (ap (λ (x : CellReply). held_view k x r) tells)
wrote-view k (wrote.Full lack) word r tells = absurd tells

pub hold-view : (b k : List ℕ) (t : Turn) (y : Reply) (word : CellReply) (r : ℕ) → CanReply (Hold b k) y → Tells k y word → t.places k ≡ Some r → view_of k t y ≡ held_view k word r
hold-view b k t (replies.Wrote w) word r can tells place = wrote-view k w word r tells
hold-view b k t (replies.Value key value at) word r can tells place = absurd can
hold-view b k t (replies.Held at) word r can tells place =
    ap (λ (o : Option ℕ). option_map (λ s. record { key = k; place = s }) o) place ∙ sym (ap (λ (x : CellReply). held_view k x r) tells.1)
hold-view b k t replies.Gone word r can tells place = absurd can
hold-view b k t replies.Unheld word r can tells place = absurd can
hold-view b k t (replies.Pairs pairs) word r can tells place = absurd can
