use Rattle.std.proofs.Common.{◌≡◌, ℕ, [], ◌<◌, List, length, refl, ◌∙◌, arith}
use Rattle.chunk_ops.specs.Comparing.{AreTied, Loaded}
use Rattle.chunk_ops.specs.Reads.{Reads, LoadsKey, Compares}
use Rattle.chunk_ops.specs.Room.{Room, IsRoom, key_at}
use Rattle.chunk_ops.proofs.CompareFacts.{slice_bytes, stored_long, first_of, tied_in, order_behind, loads_behind, FirstWords, first_less, first_greater, one_word, first_tied}
use Rattle.chunk_ops.proofs.ReadLaws.{loaded_more, loaded_key, key_reads}
use Rattle.chunk_ops.proofs.comparing.compare.Given.{Over}
use Rattle.chunk_ops.proofs.comparing.compare.Goals.{After-first_word-word}
use Rattle.chunk_ops.proofs.comparing.compare.Goals as goal

-- nothing was compared yet
none_tied : (a b : List ℕ) → AreTied 0 a b
none_tied a b = record { agree = λ j l. absurd (omega arith); first = omega arith; second = omega arith }

-- what is known once the entry's first word was loaded
module _ (g : Over) (c : After-first_word-word g) where
  abbrev r : Room
  r = g.R.SearchedRoom.room c.args.room.now

  abbrev theirs : List ℕ
  theirs = key_at r c.args.entry

  is : IsRoom r
  is = g.met.R.SearchedRoom.is_room c.args.room.now c.requires.pinned

  some : 0 < length c.args.key.now
  some = let e = c.if-is_empty.false in let n = c.is_empty.ensures in grind arith

  long : c.length_in-length.result ≡ length theirs
  long = let w = c.key_word-place in c.length_in-length.ensures.is ∙ stored_long r c.args.entry w.result is c.requires.found w.ensures.word

  first_words : FirstWords c.args.key.now theirs c.args.head c.first_word-word.result
  first_words = let w = c.key_word-place in let f = c.first_word-word in record {
    first_bytes = slice_bytes c.args.key.now c.type_inv.key;
    second_bytes = is.bytes c.args.entry c.requires.found;
    first = c.requires.head some;
    second = first_of r c.args.entry w.result is c.requires.found w.ensures.word (g.R.SearchedRoom.room w.new.self) f.result w.ensures.same f.ensures.word;
  }

  first_loaded : Loaded g.R.SearchedRoom.meets c.args.entry c.key_word-place.result 1 c.args.room.now c.first_word-word.new.room
  first_loaded = let w = c.key_word-place in let f = c.first_word-word in
      loaded_more g.met.R.SearchedRoom.meets_both c.args.entry w.result 0 c.args.room.now w.new.self f.new.room ([], w.ensures.meets, tt, refl) f.ensures.meets

  first_meets : LoadsKey g.R.SearchedRoom.meets c.args.entry c.args.key.now theirs c.args.room.now c.first_word-word.new.room
  first_meets = let m = c.if-length-lt-WORD.false in let l = long in let s = some in
      loaded_key g.R.SearchedRoom.meets c.args.entry c.key_word-place.result 1 0 c.args.key.now theirs c.args.room.now c.first_word-word.new.room first_loaded (omega arith) (omega arith) (λ j l. absurd (omega arith)) (omega arith)

  first_reads : Reads g.R.SearchedRoom.pinned g.R.SearchedRoom.room g.R.SearchedRoom.meets (Compares c.args.key.now) 1 c.args.room.now c.first_word-word.new.room
  first_reads = let f = c.first_word-word in key_reads c.args.key.now c.args.entry c.args.room.now f.new.room c.requires.found first_meets f.ensures.pinned (f.ensures.same ∙ c.key_word-place.ensures.same)

  one_tied : c.args.head ≡ c.first_word-word.result → AreTied 1 c.args.key.now theirs
  one_tied e = let m = c.if-length-lt-WORD.false in let l = long in first_tied first_words e some (omega arith)

pub returns-then-is_empty-clause-meets : goal.returns-then-is_empty-clause-meets
returns-then-is_empty-clause-meets g c = let r : Room = g.R.SearchedRoom.room c.args.room.now in let w = c.key_word-place in
    loads_behind r c.args.entry w.result (g.met.R.SearchedRoom.is_room c.args.room.now c.requires.pinned) c.requires.found w.ensures.word g.R.SearchedRoom.meets c.args.key.now 0 c.args.room.now w.new.self c.compare_behind.new.room (g.R.SearchedRoom.room w.new.self) w.ensures.same
    (none_tied c.args.key.now (key_at r c.args.entry)) ([], w.ensures.meets, tt, refl) c.compare_behind.ensures.loads

pub returns-then-is_empty-clause-reads : goal.returns-then-is_empty-clause-reads
returns-then-is_empty-clause-reads g c = let w = c.key_word-place in let b = c.compare_behind in
    key_reads c.args.key.now c.args.entry c.args.room.now b.new.room c.requires.found (returns-then-is_empty-clause-meets g c) b.ensures.pinned (b.ensures.same ∙ w.ensures.same)

pub returns-then-head-word-clause-order : goal.returns-then-head-word-clause-order
returns-then-head-word-clause-order g c = first_less (first_words g (goal.at.returns-then-head-word-clause-order g c).After-first_word-word) c.if-head-word.true

pub returns-then-head-word-clause-meets : goal.returns-then-head-word-clause-meets
returns-then-head-word-clause-meets g c = first_meets g (goal.at.returns-then-head-word-clause-meets g c).After-first_word-word

pub returns-then-head-word-clause-reads : goal.returns-then-head-word-clause-reads
returns-then-head-word-clause-reads g c = first_reads g (goal.at.returns-then-head-word-clause-reads g c).After-first_word-word

pub returns-then-word-head-clause-order : goal.returns-then-word-head-clause-order
returns-then-word-head-clause-order g c = first_greater (first_words g (goal.at.returns-then-word-head-clause-order g c).After-first_word-word) c.if-word-head.true

pub returns-then-word-head-clause-meets : goal.returns-then-word-head-clause-meets
returns-then-word-head-clause-meets g c = first_meets g (goal.at.returns-then-word-head-clause-meets g c).After-first_word-word

pub returns-then-word-head-clause-reads : goal.returns-then-word-head-clause-reads
returns-then-word-head-clause-reads g c = first_reads g (goal.at.returns-then-word-head-clause-reads g c).After-first_word-word

pub returns-then-length-eq-WORD-clause-order : goal.returns-then-length-eq-WORD-clause-order
returns-then-length-eq-WORD-clause-order g c = let f = (goal.at.returns-then-length-eq-WORD-clause-order g c).After-first_word-word in let x = c.if-head-word.false in let y = c.if-word-head.false in let k = c.if-key-eq-WORD.true in let l = c.if-length-eq-WORD.true in let s = long g f in
    one_word (first_words g f) (omega arith) (omega arith) (omega arith)

pub returns-then-length-eq-WORD-clause-meets : goal.returns-then-length-eq-WORD-clause-meets
returns-then-length-eq-WORD-clause-meets g c = first_meets g (goal.at.returns-then-length-eq-WORD-clause-meets g c).After-first_word-word

pub returns-then-length-eq-WORD-clause-reads : goal.returns-then-length-eq-WORD-clause-reads
returns-then-length-eq-WORD-clause-reads g c = first_reads g (goal.at.returns-then-length-eq-WORD-clause-reads g c).After-first_word-word

pub compare_behind-requires-2-clause-tied : goal.compare_behind-requires-2-clause-tied
compare_behind-requires-2-clause-tied g c = let r : Room = g.R.SearchedRoom.room c.args.room.now in let x = c.if-head-word.false in let y = c.if-word-head.false in let w = c.key_word-place in let f = c.first_word-word in
    tied_in r c.args.entry w.result (g.met.R.SearchedRoom.is_room c.args.room.now c.requires.pinned) c.requires.found w.ensures.word c.args.key.now 1 (g.R.SearchedRoom.room f.new.room) (f.ensures.same ∙ w.ensures.same) (one_tied g (goal.at.compare_behind-requires-2-clause-tied g c).After-first_word-word (omega arith))

pub returns-clause-order : goal.returns-clause-order
returns-clause-order g c = let r : Room = g.R.SearchedRoom.room c.args.room.now in let x = c.if-head-word.false in let y = c.if-word-head.false in let w = c.key_word-place in let f = c.first_word-word in let b = c.compare_behind-2 in
    order_behind r c.args.entry w.result (g.met.R.SearchedRoom.is_room c.args.room.now c.requires.pinned) c.requires.found w.ensures.word c.args.key.now 1 (g.R.SearchedRoom.room f.new.room) b.result (f.ensures.same ∙ w.ensures.same) (one_tied g (goal.at.returns-clause-order g c).After-first_word-word (omega arith)) b.ensures.order

pub returns-clause-meets : goal.returns-clause-meets
returns-clause-meets g c = let r : Room = g.R.SearchedRoom.room c.args.room.now in let first = (goal.at.returns-clause-meets g c).After-first_word-word in let x = c.if-head-word.false in let y = c.if-word-head.false in let w = c.key_word-place in let f = c.first_word-word in let b = c.compare_behind-2 in
    loads_behind r c.args.entry w.result (g.met.R.SearchedRoom.is_room c.args.room.now c.requires.pinned) c.requires.found w.ensures.word g.R.SearchedRoom.meets c.args.key.now 1 c.args.room.now f.new.room b.new.room (g.R.SearchedRoom.room f.new.room) (f.ensures.same ∙ w.ensures.same)
    (one_tied g first (omega arith)) (first_loaded g first) b.ensures.loads

pub returns-clause-reads : goal.returns-clause-reads
returns-clause-reads g c = let w = c.key_word-place in let f = c.first_word-word in let b = c.compare_behind-2 in
    key_reads c.args.key.now c.args.entry c.args.room.now b.new.room c.requires.found (returns-clause-meets g c) b.ensures.pinned (b.ensures.same ∙ f.ensures.same ∙ w.ensures.same)
