-- Part three of a run that fits: a look shows the life that its name's last hold found.
use Rattle.std.specs.Prelude.{◌≡◌, ℕ, if◌then◌else◌, fold, List, [], ◌∷◌, Option, Some, None, IsSomeAnd, ⊤}
use Rattle.std.specs.Option.{option_map}
use Rattle.oak_model.specs.declared.replies.Reply.{Reply}
use Rattle.oak_model.specs.declared.replies.Reply.TheVariants as replies
use Rattle.oak_model.specs.Key.{same_key}
use Rattle.oak_model.specs.History.{Histories, place_of, state_at}
use Rattle.oak_model.specs.Life.{IsLifeAt, EndsAt}
use Rattle.oak_script.specs.declared.scripts.Call.{Call}
use Rattle.oak_script.specs.declared.scripts.Call.TheVariants.{Put, Get, PutNew, Compute, Upsert, Remove, Hold, Look, Scan, Back}
use Rattle.oak_run.specs.Turn.{Turn, PlacedAt, PlacedNowhere, only_at}

-- what a name stands for: a key, and the place of its hold
pub record View : Type 0 where
  pub key : List ℕ
  pub place : ℕ

-- what each name of a thread stands for
abbrev pub Names : Type 0
Names = List ℕ → Option View

abbrev pub no_names : Names
no_names a = None

abbrev pub named : Names → List ℕ → Option View → Names
named names a view b = if same_key a b then view else names b

-- the view that a hold of the key leaves: none unless the reply is `held`
abbrev pub view_of : List ℕ → Turn → Reply → Option View
view_of k t (replies.Held at) = option_map (λ r. record { key = k; place = r }) (t.places k)
view_of k t (replies.Wrote w) = None
view_of k t (replies.Value key value at) = None
view_of k t replies.Gone = None
view_of k t replies.Unheld = None
view_of k t (replies.Pairs pairs) = None

-- the names behind a turn
abbrev pub renamed : Names → Turn → Call → Names
renamed names t (Hold a k) = named names a (view_of k t t.reply)
renamed names t (Put k v) = names
renamed names t (Get k) = names
renamed names t (PutNew k v) = names
renamed names t (Compute k r n) = names
renamed names t (Upsert k v r n) = names
renamed names t (Remove k) = names
renamed names t (Look a) = names
renamed names t (Scan low high) = names
renamed names t (Back low high) = names

abbrev pub names_after : Names → Turn → Names
names_after names t = renamed names t t.call

-- the names behind these turns
abbrev pub names_of : Names → List Turn → Names
names_of names ts = fold names_after names ts

-- bytes of the view's own life, at the place of the reply's number
pub record Shows (h : Histories) (x : View) (key value : List ℕ) (at : ℕ) (t : Turn) : Type 0 where
  pub its_key : key ≡ x.key
  pub life : IsLifeAt (h x.key) x.place (place_of (h x.key) at)
  pub bytes : state_at (h x.key) (place_of (h x.key) at) ≡ Some value
  pub placed : PlacedAt x.key (place_of (h x.key) at) t

-- the removal of the view's life stands in the history, and no later reply of the thread is before it
pub record IsGone (h : Histories) (x : View) (t : Turn) : Type 0 where
  pub removal : ℕ
  pub ends : EndsAt (h x.key) x.place removal
  pub places : (q : List ℕ) → t.places q ≡ None
  pub floors : (q : List ℕ) → t.floors q ≡ only_at x.key removal q

-- a look's reply, given what its name stands for
abbrev pub LookFits : Histories → Option View → Turn → Reply → Type 0
LookFits h view t replies.Unheld = (view ≡ None) × PlacedNowhere t
LookFits h view t (replies.Value key value at) = IsSomeAnd view (λ x. Shows h x key value at t)
LookFits h view t replies.Gone = IsSomeAnd view (λ x. IsGone h x t)
LookFits h view t (replies.Wrote w) = ⊥
LookFits h view t (replies.Held at) = ⊥
LookFits h view t (replies.Pairs pairs) = ⊥

abbrev pub ViewFits : Histories → Names → Turn → Call → Type 0
ViewFits h names t (Look a) = LookFits h (names a) t t.reply
ViewFits h names t (Put k v) = ⊤
ViewFits h names t (Get k) = ⊤
ViewFits h names t (PutNew k v) = ⊤
ViewFits h names t (Compute k r n) = ⊤
ViewFits h names t (Upsert k v r n) = ⊤
ViewFits h names t (Remove k) = ⊤
ViewFits h names t (Hold a k) = ⊤
ViewFits h names t (Scan low high) = ⊤
ViewFits h names t (Back low high) = ⊤

-- the turns of a thread whose names stand for these
abbrev pub ViewsFit : Histories → Names → List Turn → Type 0
ViewsFit h names [] = ⊤
ViewsFit h names (t ∷ ts) = ViewFits h names t t.call × ViewsFit h (names_after names t) ts
