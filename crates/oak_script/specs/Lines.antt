-- The lines of a text and the words of a line.
use Rattle.std.specs.Prelude.{ℕ, suc, ◌==◌, if◌then◌else◌, List, [], ◌∷◌, map}
use Rattle.std.specs.List.{slice_split, onto_first}

-- a line, as its words
abbrev pub Words : Type 0
Words = List (List ℕ)

-- cut at each line feed; what stands behind the last one is a line only if it is not empty
abbrev pub lines_of : List ℕ → List (List ℕ)
lines_of [] = []
lines_of (b ∷ bs) = if b == 10 then [] ∷ lines_of bs else onto_first b (lines_of bs)

-- cut at each space
abbrev pub words_of : List ℕ → Words
words_of line = slice_split (λ b. b == 32) line

-- the lines of a text, each as its words
abbrev pub text_words : List ℕ → List Words
text_words text = map words_of (lines_of text)

-- how many bytes stand before the first line feed
abbrev pub front_len : List ℕ → ℕ
front_len [] = 0
front_len (b ∷ bs) = if b == 10 then 0 else suc (front_len bs)
