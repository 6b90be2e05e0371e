-- The text of a run.
use Rattle.std.specs.Prelude.{ℕ, ◌+◌, List, [], ◌∷◌, ◌++◌, length, slice_index, codes, ⊤}
use Rattle.std.specs.Option.{option_map_or}
use Rattle.std.specs.List.{flat_map}
use Rattle.std.specs.Fmt.{decimal}
use Rattle.hex.specs.Hex.{encode_lower}
use Rattle.oak_model.specs.declared.classes.Class.{Class}
use Rattle.oak_model.specs.declared.classes.Class.TheVariants.{B16, B64, B256, B1024}
use Rattle.oak_model.specs.declared.replies.Lack.{Lack}
use Rattle.oak_model.specs.declared.replies.Lack.TheVariants.{Block, Header, Room}
use Rattle.oak_model.specs.declared.replies.Pair.{Pair}
use Rattle.oak_model.specs.declared.replies.Wrote.{Wrote}
use Rattle.oak_model.specs.declared.replies.Wrote.TheVariants.{New, Over, Kept, Done, Removed, Absent, Full}
use Rattle.oak_model.specs.declared.replies.Reply.{Reply}
use Rattle.oak_model.specs.declared.replies.Reply.TheVariants as replies
use Rattle.oak_model.specs.declared.shapes.Usage.{Usage}
use Rattle.oak_model.specs.Class.{class_number}
use Rattle.oak_model.specs.Limits.{Sizes}
use Rattle.oak_script.specs.declared.scripts.Call.{Call}
use Rattle.oak_script.specs.declared.scripts.Call.TheVariants.{Put, Get, PutNew, Compute, Upsert, Remove, Hold, Look, Scan, Back}
use Rattle.oak_script.specs.Places.{Places, key_of}
use Rattle.oak_script.specs.Words.{value_word}

-- the replies that a call can have
abbrev pub CanReply : Call → Reply → Type 0
CanReply (Put k v) (replies.Wrote (New at)) = ⊤
CanReply (Put k v) (replies.Wrote (Over at)) = ⊤
CanReply (Put k v) (replies.Wrote (Full lack)) = ⊤
CanReply (Get k) (replies.Value l v at) = ⊤
CanReply (Get k) (replies.Wrote (Absent at)) = ⊤
CanReply (PutNew k v) (replies.Wrote (New at)) = ⊤
CanReply (PutNew k v) (replies.Wrote (Kept at)) = ⊤
CanReply (PutNew k v) (replies.Wrote (Full lack)) = ⊤
CanReply (Compute k r n) (replies.Wrote (Done at)) = ⊤
CanReply (Compute k r n) (replies.Wrote (Absent at)) = ⊤
CanReply (Upsert k v r n) (replies.Wrote (New at)) = ⊤
CanReply (Upsert k v r n) (replies.Wrote (Done at)) = ⊤
CanReply (Upsert k v r n) (replies.Wrote (Full lack)) = ⊤
CanReply (Remove k) (replies.Wrote (Removed at)) = ⊤
CanReply (Remove k) (replies.Wrote (Absent at)) = ⊤
CanReply (Hold a k) (replies.Held at) = ⊤
CanReply (Hold a k) (replies.Wrote (Absent at)) = ⊤
CanReply (Look a) (replies.Value k v at) = ⊤
CanReply (Look a) replies.Gone = ⊤
CanReply (Look a) replies.Unheld = ⊤
CanReply (Scan low high) (replies.Pairs ps) = ⊤
CanReply (Back low high) (replies.Pairs ps) = ⊤
CanReply _ _ = ⊥

-- one reply to each call of a thread, of a kind that the call can have
abbrev pub CallsAnswered : List Call → List Reply → Type 0
CallsAnswered [] [] = ⊤
CallsAnswered [] (y ∷ ys) = ⊥
CallsAnswered (c ∷ cs) [] = ⊥
CallsAnswered (c ∷ cs) (y ∷ ys) = CanReply c y × CallsAnswered cs ys

-- one list of replies to each thread
abbrev pub RepliesAnswer : List (List Call) → List (List Reply) → Type 0
RepliesAnswer [] [] = ⊤
RepliesAnswer [] (r ∷ rs) = ⊥
RepliesAnswer (t ∷ ts) [] = ⊥
RepliesAnswer (t ∷ ts) (r ∷ rs) = CallsAnswered t r × RepliesAnswer ts rs

abbrev pub line_end : List ℕ
line_end = 10 ∷ []

abbrev pub class_word : Class → List ℕ
class_word B16 = codes "b16"
class_word B64 = codes "b64"
class_word B256 = codes "b256"
class_word B1024 = codes "b1024"

abbrev pub lack_word : Lack → List ℕ
lack_word (Block c) = class_word c
lack_word Header = codes "header"
lack_word Room = codes "room"

-- the place of a call's key
abbrev pub place_in : Places → Call → ℕ → ℕ
place_in p call at = option_map_or (λ k. p k at) (key_of call) 0

-- `WORD @P`
abbrev pub placed_text : List ℕ → ℕ → List ℕ
placed_text word place = word ++ (codes " @" ++ (decimal place ++ line_end))

-- `full WORD`
abbrev pub full_text : Lack → List ℕ
full_text lack = codes "full " ++ (lack_word lack ++ line_end)

abbrev pub wrote_text : Places → Call → Wrote → List ℕ
wrote_text p call (New at) = placed_text (codes "new") (place_in p call at)
wrote_text p call (Over at) = placed_text (codes "over") (place_in p call at)
wrote_text p call (Kept at) = placed_text (codes "kept") (place_in p call at)
wrote_text p call (Done at) = placed_text (codes "done") (place_in p call at)
wrote_text p call (Removed at) = placed_text (codes "removed") (place_in p call at)
wrote_text p call (Absent at) = placed_text (codes "none") (place_in p call at)
wrote_text p call (Full lack) = full_text lack

-- `= VALUE @P`
abbrev pub shown_text : Places → List ℕ → List ℕ → ℕ → List ℕ
shown_text p key value at = codes "= " ++ (value_word value ++ (codes " @" ++ (decimal (p key at) ++ line_end)))

-- `+ KEY VALUE @P`
abbrev pub read_line : Places → Pair → List ℕ
read_line p pair = codes "+ " ++ (encode_lower pair.key ++ (codes " " ++ (value_word pair.value ++ (codes " @" ++ (decimal (p pair.key pair.at) ++ line_end)))))

-- `pairs N`, and a line for each pair
abbrev pub pairs_text : Places → List Pair → List ℕ
pairs_text p ps = codes "pairs " ++ (decimal (length ps) ++ (line_end ++ flat_map (read_line p) ps))

-- A reply, with the ends of its lines. The place of a `Value` is that of the key that the reply names.
abbrev pub reply_text : Places → Call → Reply → List ℕ
reply_text p call (replies.Wrote w) = wrote_text p call w
reply_text p call (replies.Value k v at) = shown_text p k v at
reply_text p call (replies.Held at) = placed_text (codes "held") (place_in p call at)
reply_text p call replies.Gone = codes "gone" ++ line_end
reply_text p call replies.Unheld = codes "unheld" ++ line_end
reply_text p call (replies.Pairs ps) = pairs_text p ps

-- `tT.C ` in front of a reply
abbrev pub call_name : ℕ → ℕ → List ℕ
call_name thread number = codes "t" ++ (decimal thread ++ (codes "." ++ (decimal number ++ codes " ")))

abbrev pub call_text : Places → ℕ → ℕ → Call → Reply → List ℕ
call_text p thread number call y = call_name thread number ++ reply_text p call y

-- the replies to a thread's calls from this number on
abbrev pub thread_text : Places → ℕ → ℕ → List Call → List Reply → List ℕ
thread_text p thread number [] ys = []
thread_text p thread number (c ∷ cs) [] = []
thread_text p thread number (c ∷ cs) (y ∷ ys) = call_text p thread number c y ++ thread_text p thread (number + 1) cs ys

-- the threads from this number on
abbrev pub threads_text : Places → ℕ → List (List Call) → List (List Reply) → List ℕ
threads_text p thread [] rs = []
threads_text p thread (t ∷ ts) [] = []
threads_text p thread (t ∷ ts) (r ∷ rs) = thread_text p thread 1 t r ++ threads_text p (thread + 1) ts rs

-- `KEY VALUE`
abbrev pub pair_line : Pair → List ℕ
pair_line pair = encode_lower pair.key ++ (codes " " ++ (value_word pair.value ++ line_end))

-- `map N`, and a line for each key of the final map
abbrev pub map_text : List Pair → List ℕ
map_text finals = codes "map " ++ (decimal (length finals) ++ (line_end ++ flat_map pair_line finals))

-- `NAME USED LIMIT`
abbrev pub used_line : List ℕ → ℕ → ℕ → List ℕ
used_line name used limit = name ++ (codes " " ++ (decimal used ++ (codes " " ++ (decimal limit ++ line_end))))

-- the taken blocks of a class, and the shape's blocks of it
abbrev pub class_line : Usage → Sizes → Class → List ℕ
class_line u s c = used_line (class_word c) (slice_index u.blocks (class_number c)) (slice_index s.blocks (class_number c))

-- `arena`, and what is used of the table, beside the shape's limits
abbrev pub arena_text : Usage → Sizes → List ℕ
arena_text u s =
    codes "arena" ++ (line_end
    ++ (class_line u s B16
    ++ (class_line u s B64
    ++ (class_line u s B256
    ++ (class_line u s B1024
    ++ (used_line (codes "headers") u.headers s.headers
    ++ used_line (codes "chunks") u.chunks s.chunks))))))

abbrev pub run_text : Places → List (List Call) → List (List Reply) → List Pair → Usage → Sizes → List ℕ
run_text p threads replies finals usage sizes = threads_text p 1 threads replies ++ (map_text finals ++ arena_text usage sizes)
