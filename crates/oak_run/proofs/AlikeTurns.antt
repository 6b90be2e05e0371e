-- Two turns of one call, at one count of each key's writes in two runs whose states up to it are alike: those of calls on a key and of looks.
use Rattle.std.proofs.Common.{◌≡◌, ℕ, suc, ◌<◌, ◌≤◌, Bool, true, cond, List, Option, Some, None, refl, sym, ap, subst, ◌∙◌, arith, inl, inr}
use Rattle.std.specs.Prelude.{IsSome, ◌&&◌}
use Rattle.std.proofs.lemmas.Bool.{and_parts, cases_Bool, cases_lt}
use Rattle.oak_model.specs.declared.cells.CellReply.{CellReply}
use Rattle.oak_model.specs.declared.replies.Reply.{Reply}
use Rattle.oak_model.specs.declared.replies.Reply.TheVariants as replies
use Rattle.oak_model.specs.Cell.{is_write, reply_of, state_after}
use Rattle.oak_model.specs.History.{Histories, place_of, state_at}
use Rattle.oak_model.specs.State.{State}
use Rattle.oak_model.proofs.KeyLaws.{same_is}
use Rattle.oak_script.specs.declared.scripts.Call.{Call}
use Rattle.oak_script.specs.declared.scripts.Call.TheVariants.{Hold}
use Rattle.oak_script.specs.Places.{Places}
use Rattle.oak_script.specs.Text.{CanReply, reply_text}
use Rattle.oak_run.specs.Answers.{KeyAnswer, asks_for, writes_key}
use Rattle.oak_run.specs.Told.{Ask, ask_of, makes_write}
use Rattle.oak_run.specs.Turn.{PlacedAt, Turn}
use Rattle.oak_run.specs.Views.{IsGone, LookFits, Shows, View, view_of}
use Rattle.oak_run.proofs.KeyTexts.{held_view, hold-view, is_hold, key-line, shown_at, word_text}
use Rattle.oak_run.proofs.KeyTurns.{IsKeyTurn, key-turn, place_at}
use Rattle.oak_run.proofs.SeatedTurns.{no-write, only-itself}
use Rattle.oak_run.proofs.TurnCounts.{Counts, IsCounted, counted}

abbrev pub places_by : Histories → Places
places_by h k at = place_of (h k) at

-- up to the counts the states are the same
abbrev pub AreAlike : Counts → Histories → Histories → Type 0
AreAlike n h e = (q : List ℕ) (r : ℕ) → r ≤ n q → state_at (h q) r ≡ state_at (e q) r

-- ---- a call on a key

module _ (h e : Histories) (i : ℕ) (n : Counts) (c : Call) (t u : Turn) (a : Ask) (alike : AreAlike n h e) (of_t : t.call ≡ c) (of_u : u.call ≡ c) (asks : ask_of c ≡ Some a)
    (f : KeyAnswer h 1 i a t) (g : KeyAnswer e 1 i a u) (t_counted : IsCounted n t) (u_counted : IsCounted n u) where
  abbrev k : List ℕ
  k = a.key

  first : IsKeyTurn h (n k) a t f.word
  first = key-turn h 1 i n t a (ap ask_of of_t ∙ asks) f t_counted

  second : IsKeyTurn e (n k) a u g.word
  second = key-turn e 1 i n u a (ap ask_of of_u ∙ asks) g u_counted

  pub one-word : f.word ≡ g.word
  one-word = first.answer ∙ (ap (λ (s : State). reply_of s a.cell) (alike k (n k) (omega arith)) ∙ sym second.answer)

  pub key-lines : CanReply c t.reply → CanReply c u.reply → reply_text (places_by h) c t.reply ≡ reply_text (places_by e) c u.reply
  key-lines t_can u_can =
      key-line (places_by h) c a t.reply f.word asks t_can f.tells
      ∙ (ap (word_text (is_hold c) f.word) first.place
      ∙ (ap (λ (w : CellReply). word_text (is_hold c) w (place_at w (n k))) one-word
      ∙ (sym (ap (word_text (is_hold c) g.word) second.place)
      ∙ sym (key-line (places_by e) c a u.reply g.word asks u_can g.tells))))

  pub key-writes : (q : List ℕ) → writes_key q t ≡ writes_key q u
  key-writes q =
      let writes : makes_write t.reply ≡ makes_write u.reply = first.writes ∙ (ap is_write one-word ∙ sym second.writes) in
      let calls : t.call ≡ u.call = of_t ∙ sym of_u in
      (λ j. asks_for q (ask_of (calls j)) && writes j)

  -- a write leaves the same state
  written-alike : (q : List ℕ) (r : ℕ) → writes_key q t ≡ true → n q < r → r ≤ suc (n q) → state_at (h q) r ≡ state_at (e q) r
  written-alike q r w low high =
      let parts = and_parts (asks_for q (ask_of t.call)) (makes_write t.reply) w in
      let its : a.key ≡ q = same_is a.key q (sym (ap (λ (o : Option Ask). asks_for q o) (ap ask_of of_t ∙ asks)) ∙ parts.0) in
      let writes : is_write f.word ≡ true = sym first.writes ∙ parts.1 in
      let here : state_at (h k) (suc (n k)) ≡ state_at (e k) (suc (n k)) = first.after writes ∙ (ap (λ (s : State). state_after s a.cell) (alike k (n k) (omega arith)) ∙ sym (second.after (sym (ap is_write one-word) ∙ writes))) in
      let there : suc (n q) ≡ r = omega arith in
      subst (λ (x : ℕ). state_at (h q) x ≡ state_at (e q) x) there (subst (λ (x : List ℕ). state_at (h x) (suc (n x)) ≡ state_at (e x) (suc (n x))) its here)

  pub key-alike : AreAlike (counted n t) h e
  key-alike q r le = elim (cases_Bool (writes_key q t)) [
    | inl w ↦ (let same : counted n t q ≡ suc (n q) = ap (λ (b : Bool). cond b (suc (n q)) (n q)) w in elim (cases_lt (n q) r) [ inl lt ↦ written-alike q r w lt (omega arith) | inr ge ↦ alike q r ge ])
    | inr no_write ↦ (let same : counted n t q ≡ n q = ap (λ (b : Bool). cond b (suc (n q)) (n q)) no_write in alike q r (omega arith))
  ]

  pub one-view : (b : List ℕ) → c ≡ Hold b k → CanReply c t.reply → CanReply c u.reply → view_of k t t.reply ≡ view_of k u u.reply
  one-view b is t_can u_can =
      hold-view b k t t.reply f.word (place_at f.word (n k)) (subst (λ (d : Call). CanReply d t.reply) is t_can) f.tells first.read
      ∙ (ap (λ (w : CellReply). held_view k w (place_at w (n k))) one-word
      ∙ sym (hold-view b k u u.reply g.word (place_at g.word (n k)) (subst (λ (d : Call). CanReply d u.reply) is u_can) g.tells second.read))

-- ---- a call on no key writes nothing

pub none-counted : (n : Counts) (t : Turn) → ask_of t.call ≡ None → (q : List ℕ) → counted n t q ≡ n q
none-counted n t none q = ap (λ (b : Bool). cond b (suc (n q)) (n q)) (no-write q t none)

pub none-alike : (h e : Histories) (n : Counts) (t : Turn) → ask_of t.call ≡ None → AreAlike n h e → AreAlike (counted n t) h e
none-alike h e n t none alike q r le = let same = none-counted n t none q in alike q r (omega arith)

-- ---- a look

module _ (n : Counts) (t : Turn) (none : ask_of t.call ≡ None) (in_count : IsCounted n t) where
  placed-count : (k : List ℕ) (r : ℕ) → PlacedAt k r t → r ≡ n k
  placed-count k r placed = in_count.places k r (placed.places k ∙ only-itself k r) ∙ none-counted n t none k

  shown-line : (h : Histories) (x : View) (key value : List ℕ) (at : ℕ) → Shows h x key value at t → reply_text (places_by h) t.call (replies.Value key value at) ≡ shown_at value (n x.key)
  shown-line h x key value at s = ap (λ (k : List ℕ). shown_at value (place_of (h k) at)) s.its_key ∙ ap (shown_at value) (placed-count x.key (place_of (h x.key) at) s.placed)

  shown-state : (h : Histories) (x : View) (key value : List ℕ) (at : ℕ) → Shows h x key value at t → state_at (h x.key) (n x.key) ≡ Some value
  shown-state h x key value at s = ap (state_at (h x.key)) (sym (placed-count x.key (place_of (h x.key) at) s.placed)) ∙ s.bytes

  -- what lives up to the count did not end in it
  still-there : (h : Histories) (x : View) (key value : List ℕ) (at g : ℕ) → Shows h x key value at t → x.place < g → g ≤ n x.key → IsSome (state_at (h x.key) g)
  still-there h x key value at g s low high = let same = placed-count x.key (place_of (h x.key) at) s.placed in s.life.present g (omega arith) (omega arith)

  -- a removal that was met is not behind the count
  gone-within : (h : Histories) (x : View) (f : IsGone h x t) → f.removal ≤ n x.key
  gone-within h x f = let le = in_count.floors x.key f.removal (f.floors x.key ∙ only-itself x.key f.removal) in let same = none-counted n t none x.key in omega arith

not-gone : (h e : Histories) (n : Counts) (x : View) (t u : Turn) (key value : List ℕ) (at : ℕ) → AreAlike n h e → ask_of t.call ≡ None → ask_of u.call ≡ None → IsCounted n t → IsCounted n u → Shows h x key value at t → IsGone e x u → ⊥
not-gone h e n x t u key value at alike t_none u_none t_counted u_counted s f =
    let within = gone-within n u u_none u_counted e x f in
    let there = still-there n t t_none t_counted h x key value at f.removal s f.ends.after within in
    none-some (state_at (h x.key) f.removal) there (alike x.key f.removal within ∙ f.ends.removed)
  where
    none-some : (s : State) → IsSome s → s ≡ None → ⊥
    none-some None some none = absurd cc
    none-some (Some b) some none = absurd cc

pub look-lines : (h e : Histories) (n : Counts) (c : Call) (view : Option View) (t u : Turn) (y z : Reply) → AreAlike n h e → ask_of t.call ≡ None → ask_of u.call ≡ None → IsCounted n t → IsCounted n u
    → LookFits h view t y → LookFits e view u z → reply_text (places_by h) c y ≡ reply_text (places_by e) c z
look-lines h e n c None t u replies.Unheld replies.Unheld alike t_none u_none t_counted u_counted f g = refl
look-lines h e n c None t u replies.Unheld (replies.Value key value at) alike t_none u_none t_counted u_counted f g = absurd g
look-lines h e n c None t u replies.Unheld replies.Gone alike t_none u_none t_counted u_counted f g = absurd g
look-lines h e n c (Some x) t u replies.Unheld z alike t_none u_none t_counted u_counted f g = absurd cc
look-lines h e n c (Some x) t u y replies.Unheld alike t_none u_none t_counted u_counted f g = absurd cc
look-lines h e n c None t u (replies.Value key value at) z alike t_none u_none t_counted u_counted f g = absurd f
look-lines h e n c None t u replies.Gone z alike t_none u_none t_counted u_counted f g = absurd f
look-lines h e n c (Some x) t u replies.Gone replies.Gone alike t_none u_none t_counted u_counted f g = refl
look-lines h e n c (Some x) t u (replies.Value key value at) (replies.Value key2 value2 at2) alike t_none u_none t_counted u_counted f g =
    let one : Some value ≡ Some value2 = sym (shown-state n t t_none t_counted h x key value at f) ∙ (alike x.key (n x.key) (omega arith) ∙ shown-state n u u_none u_counted e x key2 value2 at2 g) in
    let same : value ≡ value2 = cc in
    shown-line n t t_none t_counted h x key value at f ∙ (ap (λ (v : List ℕ). shown_at v (n x.key)) same ∙ sym (shown-line n u u_none u_counted e x key2 value2 at2 g))
look-lines h e n c (Some x) t u (replies.Value key value at) replies.Gone alike t_none u_none t_counted u_counted f g = absurd (not-gone h e n x t u key value at alike t_none u_none t_counted u_counted f g)
look-lines h e n c (Some x) t u replies.Gone (replies.Value key value at) alike t_none u_none t_counted u_counted f g = absurd (not-gone e h n x u t key value at (λ q r le. sym (alike q r le)) u_none t_none u_counted t_counted g f)
look-lines h e n c view t u (replies.Wrote w) z alike t_none u_none t_counted u_counted f g = absurd f
look-lines h e n c view t u (replies.Held at) z alike t_none u_none t_counted u_counted f g = absurd f
look-lines h e n c view t u (replies.Pairs pairs) z alike t_none u_none t_counted u_counted f g = absurd f
look-lines h e n c view t u y (replies.Wrote w) alike t_none u_none t_counted u_counted f g = absurd g
look-lines h e n c view t u y (replies.Held at) alike t_none u_none t_counted u_counted f g = absurd g
look-lines h e n c view t u y (replies.Pairs pairs) alike t_none u_none t_counted u_counted f g = absurd g
