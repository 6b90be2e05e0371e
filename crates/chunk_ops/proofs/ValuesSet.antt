-- A fresh header that is set as the value of a found entry, and a buried one that is cleared from one: what the two steps ask, and what they leave.
use Rattle.std.proofs.Common.{◌≡◌, ◌≢◌, ℕ, ◌+◌, ◌==◌, ◌^◌, ◌<◌, Bool, true, List, set, get_or, sym, ap, ◌∙◌, Option, Some, None, eq-eqb, ne_eqb}
use prog.Atomic.{either}
use lib.Seq.{set-get_or}
use Rattle.oak_model.specs.declared.writes.Kind.{Kind}
use Rattle.oak_model.specs.KeyNumber.{key_number}
use Rattle.oak_model.specs.Limits.{Sizes}
use Rattle.header_core.specs.HeaderHolds.{without_header}
use Rattle.header_core.specs.declared.holds.HeldHeader.{HeldHeader}
use Rattle.chunk_core.specs.KeyWords.{key_in, key_bytes}
use Rattle.chunk_core.specs.RoomStep.{set_value, unlink_entry}
use Rattle.chunk_core.specs.Rooms.{at_value}
use Rattle.chunk_core.specs.ValueWord.{names_header, header_in, generation_in}
use Rattle.oak_core.specs.declared.states.PassState.{PassState}
use Rattle.oak_core.specs.AloneWords.{Runs}
use Rattle.oak_core.specs.CallWrites.{MakesWrite}
use Rattle.oak_core.specs.HeldRows.{BuriesLife, HasFresh}
use Rattle.oak_core.specs.KeyedHeaders.{unlinked}
use Rattle.oak_core.specs.KeyReads.{home_of, value_in}
use Rattle.oak_core.specs.LifeKeys.{key_or}
use Rattle.oak_core.specs.MadeWrites.{held_header}
use Rattle.oak_core.specs.MayWrite.{IsNewCall}
use Rattle.oak_core.specs.Memory.{in_rooms, index, memory}
use Rattle.oak_core.specs.RoomCalls.{SetsValueWord, UnlinksEntryWord}
use Rattle.oak_core.specs.Step.{on_rooms, MaySetValue, MayUnlinkEntry, Step}
use Rattle.oak_core.proofs.seats.AloneRuns.{DoesStep, step_runs, runs_as}
use Rattle.oak_core.proofs.calls.CallSteps.{step_alone}
use Rattle.oak_core.proofs.covers.FoundEntries.{pinned_stands}
use Rattle.oak_core.proofs.told.SetTold as told
use Rattle.oak_core.proofs.covers.SetsValue.{held_row}
use Rattle.oak_core.proofs.covers.UnlinksEntry.{names_small}
use Rattle.oak_core.proofs.told.UnlinkTold.{unlinked_life, unlink_blocks, unlink_headers, unlink_rooms, unlink_stands}
use Rattle.oak_core.proofs.memory.Words.{memory_read}
use Rattle.chunk_ops.specs.PinRecords.{HasEntry, HasRoomPin, OnlyMeets, WordsStay, room_pin}
use Rattle.chunk_ops.specs.Setting.{Clears, ClearsIn, FoundSet, LeavesIn, SetsIn, SetsLife}
use Rattle.chunk_ops.proofs.StepKinds.{left_quiet}
use Rattle.chunk_ops.proofs.WordLoads.{found_inside}

-- the word names the header at the generation
pub record NamesLife (h g new : ℕ) : Type 0 where
  pub is : new ≡ home_of h g
  pub names : names_header new ≡ 1
  pub header : header_in new ≡ h
  pub generation : generation_in new ≡ g

pub may_set : (z : Sizes) (call r i floor h g stamp new : ℕ) (kind : Kind) (bytes k : List ℕ) (v : PassState) → HasRoomPin z r v → HasEntry r i k v → floor < 2 ^ 63 → stamp ≡ floor + 1 → HasFresh z h g stamp bytes v → MakesWrite kind None (Some bytes) → IsNewCall call v → NamesLife h g new → MaySetValue z call r i floor new kind v
may_set z call r i floor h g stamp new kind bytes k v p e small next f w fresh_call at = record {
  inside = (p.inside, found_inside z r i k v p e);
  set = record {
    pinned = room_pin v;
    entry = e.entry;
    finds = e.finds;
    floor = names_small floor small;
    names = at.names;
    home = at.is ∙ (λ j. home_of (sym at.header j) (sym at.generation j));
    header = f.header;
    held = ap (λ (j : ℕ). held_header j v.headers.held) at.header ∙ f.held;
    fresh = f.fresh;
    generation = f.generation ∙ sym at.generation;
    next = f.stamp_is ∙ next;
    new_call = fresh_call;
    writes = record { ask = w.ask; kind = w.kind_is; writes = w.writes; after = w.leaves ∙ ap Some (sym f.value) };
  };
}

some_key : (a b : List ℕ) → Some a ≡ Some b → a ≡ b
some_key a b e = ap key_or e

same_header : (a b : HeldHeader) → Some a ≡ Some b → a ≡ b
same_header a b e = ap (λ (o : Option HeldHeader). or o) e
  where
    or : Option HeldHeader → HeldHeader
    or None = a
    or (Some y) = y

-- what the step that sets one leaves
module _ (z : Sizes) (call r i floor h g new : ℕ) (kind : Kind) (v : PassState) (n : ℕ) (w : PassState) (at : NamesLife h g new) (t : SetsValueWord z call r i floor new kind v n w) where
  abbrev x : Step
  x = on_rooms (set_value r i floor new kind)

  abbrev word : ℕ
  word = index z (in_rooms (at_value r i))

  -- where the floor was found
  module _ (hit : n ≡ floor) where
    pub value_set : (k bytes : List ℕ) (stamp : ℕ) → HasEntry r i k v → HasFresh z h g stamp bytes v → SetsLife call k h kind bytes stamp v w
    value_set k bytes stamp e f = record {
      writes = told.set_writes z call r i floor new kind v n w t hit k bytes stamp (sym (ap key_number same_key)) (ap (λ (q : HeldHeader). value_in q.place q.words) same_row ∙ f.value) (ap (λ (q : HeldHeader). q.stamp) same_row ∙ f.stamp_is);
      blocks = told.set_blocks z call r i floor new kind v n w t;
      headers = told.set_headers z call r i floor new kind v n w t hit ∙ ap (λ (j : ℕ). record v.headers { held = without_header j v.headers.held }) at.header;
      rooms = told.set_rooms z call r i floor new kind v n w t;
    }
      where
        same_key : key_bytes t.may.set.entry.word t.may.set.entry.words ≡ k
        same_key = let m = memory z t.table.words in some_key (key_bytes t.may.set.entry.word t.may.set.entry.words) k
            (sym (pinned_stands z m t.table.states t.rule.rooms t.rule.covers t.seat v t.here r i t.may.set.pinned t.may.set.entry t.may.set.finds) ∙ (pinned_stands z m t.table.states t.rule.rooms t.rule.covers t.seat v t.here r i (room_pin v) e.entry e.finds ∙ ap Some e.key_is))

        same_row : t.may.set.header ≡ f.header
        same_row = same_header t.may.set.header f.header (sym t.may.set.held ∙ (ap (λ (j : ℕ). held_header j v.headers.held) at.header ∙ f.held))

    pub set_alone : Runs (SetsIn z r i floor (home_of h g)) v w
    set_alone = runs_as (DoesStep z x n) (SetsIn z r i floor (home_of h g)) v w (λ a b d. (memory_read z a (in_rooms (at_value r i)) t.may.inside ∙ (sym d.0 ∙ hit), d.1 ∙ becomes a d.0)) (step_runs z call x v n w tt t)
      where
        becomes : (a : List ℕ) → n ≡ get_or a word 0 → set a word (either (get_or a word 0 == floor) new (get_or a word 0)) ≡ set a word (home_of h g)
        becomes a q = ap (λ (b : Bool). set a word (either b new (get_or a word 0))) (eq-eqb (get_or a word 0) floor (sym q ∙ hit)) ∙ ap (set a word) at.is

  -- where another number was found
  module _ (other : n ≢ floor) where
    kept : (a : List ℕ) → n ≡ get_or a word 0 → set a word (either (get_or a word 0 == floor) new (get_or a word 0)) ≡ a
    kept a q = ap (λ (b : Bool). set a word (either b new (get_or a word 0))) (ne_eqb (get_or a word 0) floor (λ e. other (q ∙ e))) ∙ set-get_or a word 0

    pub set_missed : OnlyMeets call v w
    set_missed = record {
      stands = told.unset_stands z call r i floor new kind v n w t other;
      quiet = left_quiet z call (set_value r i floor new kind) v n w t (λ j f. ap (λ (b : Bool). Some (either b new j)) (sym (ne_eqb j floor (λ e. other (sym f ∙ e)))));
      blocks = told.set_blocks z call r i floor new kind v n w t;
      headers = told.unset_headers z call r i floor new kind v n w t other;
      rooms = told.set_rooms z call r i floor new kind v n w t;
      still = runs_as (DoesStep z x n) WordsStay v w (λ a b d. d.1 ∙ kept a d.0) (step_runs z call x v n w tt t);
    }

    pub other_found : (k : List ℕ) → HasEntry r i k v → FoundSet z call r i floor k v w
    other_found k e = record { new = new; kind = kind; step = step_alone z call x v n w t; entry = e; other = other }

    pub missed_alone : Runs (LeavesIn z r i floor) v w
    missed_alone = runs_as (DoesStep z x n) (LeavesIn z r i floor) v w (λ a b d. (λ e. other (d.0 ∙ (sym (memory_read z a (in_rooms (at_value r i)) t.may.inside) ∙ e)), d.1 ∙ kept a d.0)) (step_runs z call x v n w tt t)

-- ---- a header is cleared

pub may_clear : (z : Sizes) (call r i h g stamp : ℕ) (k : List ℕ) (v : PassState) → HasRoomPin z r v → HasEntry r i k v → BuriesLife k h g stamp true v → MayUnlinkEntry z r i stamp v
unfolding key_in
may_clear z call r i h g stamp k v p e b = record {
  inside = (p.inside, found_inside z r i k v p e);
  unlink = record {
    pinned = room_pin v;
    entry = e.entry;
    finds = e.finds;
    header = b.header;
    held = (held_row h v.headers.held b.header b.held).0;
    buried = b.buried;
    named = b.named_is;
    key = b.key_is ∙ ap key_number (sym e.key_is);
    stamp = sym b.stamp_is;
  };
}

module _ (z : Sizes) (call r i stamp : ℕ) (v w : PassState) (t : UnlinksEntryWord z call r i stamp v w) where
  pub value_cleared : (k : List ℕ) (h g : ℕ) → HasEntry r i k v → BuriesLife k h g stamp true v → Clears call k h g stamp v w
  value_cleared k h g e b = record {
    stands = unlink_stands z call r i stamp v t.0 w t.1;
    blocks = unlink_blocks z call r i stamp v t.0 w t.1;
    headers = headers;
    rooms = unlink_rooms z call r i stamp v t.0 w t.1;
    unnamed = unlinked_life k h g stamp v w b headers;
  }
    where
      same_key : key_bytes t.1.may.unlink.entry.word t.1.may.unlink.entry.words ≡ k
      same_key = let m = memory z t.1.table.words in let may = t.1.may.unlink in some_key (key_bytes t.1.may.unlink.entry.word t.1.may.unlink.entry.words) k
          (sym (pinned_stands z m t.1.table.states t.1.rule.rooms t.1.rule.covers t.1.seat v t.1.here r i may.pinned may.entry may.finds) ∙ (pinned_stands z m t.1.table.states t.1.rule.rooms t.1.rule.covers t.1.seat v t.1.here r i (room_pin v) e.entry e.finds ∙ ap Some e.key_is))

      headers : w.headers ≡ record v.headers { held = unlinked k v.headers.held }
      headers = unlink_headers z call r i stamp v t.0 w t.1 ∙ ap (λ (key : List ℕ). record v.headers { held = unlinked key v.headers.held }) same_key

  pub clear_alone : Runs (ClearsIn z r i stamp) v w
  clear_alone = runs_as (DoesStep z (on_rooms (unlink_entry r i stamp)) t.0) (ClearsIn z r i stamp) v w (λ a b d. d.1) (step_runs z call (on_rooms (unlink_entry r i stamp)) v t.0 w tt t.1)
