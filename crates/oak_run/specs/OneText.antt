-- When two runs of one thread's calls print one text, but for its last two lines.
use Rattle.std.specs.Prelude.{◌≡◌, ℕ, List, [], ◌∷◌, ◌++◌, codes, false}
use Rattle.std.specs.List.{AllByRecursion}
use Rattle.oak_model.specs.declared.replies.Pair.{Pair}
use Rattle.oak_model.specs.declared.replies.Reply.{Reply}
use Rattle.oak_model.specs.declared.shapes.Usage.{Usage}
use Rattle.oak_model.specs.History.{place_of}
use Rattle.oak_model.specs.Limits.{Sizes}
use Rattle.oak_script.specs.declared.scripts.Call.{Call}
use Rattle.oak_script.specs.Text.{run_text, used_line}
use Rattle.oak_run.specs.Closing.{Closing}
use Rattle.oak_run.specs.Told.{is_full}

-- the last two lines: the used headers and chunks, beside their limits
abbrev pub last_lines : Usage → Sizes → List ℕ
last_lines u s = used_line (codes "headers") u.headers s.headers ++ used_line (codes "chunks") u.chunks s.chunks

-- the text of a run, with the places of its histories
abbrev pub text_of : Closing → List (List Call) → List (List Reply) → List Pair → List ℕ
text_of c calls said finals = run_text (λ k at. place_of (c.history k) at) calls said finals c.usage c.sizes

-- no reply is `full`
abbrev pub NeverFull : List Reply → Type 0
NeverFull ys = AllByRecursion (λ y. is_full y ≡ false) ys

-- the two texts are one up to their last two lines
pub record OneText (c d : Closing) (shape : Sizes) (calls : List Call) (ys zs : List Reply) (m n : List Pair) : Type 0 where
  pub front : List ℕ
  pub first : text_of c (calls ∷ []) (ys ∷ []) m ≡ front ++ last_lines c.usage shape
  pub second : text_of d (calls ∷ []) (zs ∷ []) n ≡ front ++ last_lines d.usage shape
