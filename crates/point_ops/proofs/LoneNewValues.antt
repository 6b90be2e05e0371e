-- The value that a key without one gets by a pass that is alone: what its insertion leaves of the words, and of their bits.
use Rattle.std.proofs.Common.{◌≡◌, ℕ, ◌+◌, ◌*◌, ◌⊎◌, List, length, sym, refl, ap, ◌∙◌, subst, inl, inr, Option, Some, None}
use Rattle.pin_word.specs.PinWord.{STATE}
use Rattle.oak_model.specs.declared.classes.Class.{Class}
use Rattle.oak_model.specs.Class.{class_number, class_of}
use Rattle.oak_model.specs.Limits.{Sizes}
use Rattle.arena_core.specs.Arena.{at_bits}
use Rattle.chunk_core.specs.Covers.{span_in}
use Rattle.chunk_core.specs.Rooms.{at_count, at_value}
use Rattle.chunk_core.specs.Spans.{Span}
use Rattle.header_core.specs.Headers.{at_pin}
use Rattle.oak_core.specs.declared.states.PassState.{PassState}
use Rattle.oak_core.specs.AloneWords.{Runs}
use Rattle.oak_core.specs.KeyReads.{home_of}
use Rattle.oak_core.specs.Memory.{Spot, IsInside, at_given, in_arena, in_headers, in_rooms, memory, word_count}
use Rattle.oak_core.proofs.seats.AloneRuns.{Then, runs_as, runs_then}
use Rattle.chunk_ops.specs.declared.entries.EntryNo.{EntryNo}
use Rattle.chunk_ops.specs.declared.entries.Found.TheVariants.{Entry}
use Rattle.chunk_ops.specs.AskedRanges.{CoversKey}
use Rattle.chunk_ops.specs.FindsAlone.{HasKeyAt}
use Rattle.chunk_ops.specs.Setting.{SetsIn}
use Rattle.value_ops.specs.AloneLocks.{pin_in}
use Rattle.point_ops.specs.LoneInserts.{IsOfBlock, IsOfHeader, KeepsBut, KeysStay, MakesFreshIn, MakesFreshUnder}
use Rattle.point_ops.specs.LoneLives.{AwayIn}
use Rattle.point_ops.specs.LonePutLeft.{AddsKeyIn, GetsFor, GotEntryIn, HadEntryIn, InsertsKey, InsertsKeyFor, IsNewEntry, IsNewValue, with_bit}
use Rattle.point_ops.proofs.LoneInserted.{fresh_away, fresh_clear, fresh_free, fresh_keys}
use Rattle.point_ops.proofs.LoneKeys.{key_still, keys_stay}
use Rattle.point_ops.proofs.LoneNewEntries.{bits_made}
use Rattle.point_ops.proofs.LoneWords.{but_as, but_both, but_same, but_set, read_stored}

-- the value word of the entry
abbrev IsValueOf : (r i : ℕ) → Spot → Type 0
IsValueOf r i (in_rooms (at_value q j)) = (q ≡ r) × (j ≡ i)
IsValueOf _ _ _ = ⊥

module _ (r i h : ℕ) (c : Class) (b : ℕ) where
  block_value : (p : Spot) → IsOfBlock c b p → IsNewValue r i h c b p
  block_value (in_arena q) s = s
  block_value (in_headers q) s = absurd s
  block_value (in_rooms q) s = absurd s
  block_value at_given s = absurd s

  header_value : (p : Spot) → IsOfHeader h p → IsNewValue r i h c b p
  header_value (in_headers q) s = s
  header_value (in_arena q) s = absurd s
  header_value (in_rooms q) s = absurd s
  header_value at_given s = absurd s

module _ (z : Sizes) (r h g : ℕ) (c : Class) (b : ℕ) (key value : List ℕ) (fits : class_of (length value) ≡ Some c) (a m : List ℕ) (f : MakesFreshIn z r h c b a m) (covers : CoversKey key (span_in (memory z a).rooms r)) (i : EntryNo) (there : IsInside z (in_rooms (at_value r i.0))) where
  abbrev V : Spot → Type 0
  V = IsNewValue r i.0 h c b

  abbrev mid : List ℕ
  mid = f.0

  fresh_but : KeepsBut z (IsNewValue r i.0 h c b) a m
  fresh_but = but_both z V a mid m (but_as z (IsOfBlock c b) V a mid (block_value r i.0 h c b) f.1.but) (but_as z (IsOfHeader h) V mid m (header_value r i.0 h c b) f.2.but)

  fresh_bits : (d j : ℕ) → (memory z m).arena.bits d j ≡ with_bit c b d j ((memory z a).arena.bits d j)
  fresh_bits d j = but_same z (IsOfHeader h) mid m f.2.but (in_arena (at_bits d j)) (λ e. e) ∙ bits_made z r c b a mid f.1 d j

  fresh_pin : pin_in z h m ≡ pin_in z h a + 2 * STATE
  fresh_pin = f.2.pin ∙ ap (λ (k : ℕ). k + 2 * STATE) (but_same z (IsOfBlock c b) a mid f.1.but (in_headers (at_pin h)) (λ e. e))

  fresh_count : (memory z m).rooms.count r ≡ (memory z a).rooms.count r
  fresh_count = but_same z (IsOfHeader h) mid m f.2.but (in_rooms (at_count r)) (λ e. e) ∙ but_same z (IsOfBlock c b) a mid f.1.but (in_rooms (at_count r)) (λ e. e)

  -- the entry comes to name the header
  module _ (n q : List ℕ) (wide : length n ≡ word_count z) (floor : ℕ) (s : SetsIn z r i.0 floor (home_of h g) n q) where
    abbrev value_at : Spot
    value_at = in_rooms (at_value r i.0)

    abbrev home : ℕ
    home = home_of h g

    set_but : (P : Spot → Type 0) → P (in_rooms (at_value r i.0)) → KeepsBut z P n q
    set_but P is = subst (KeepsBut z P n) (sym s.1) (but_set z P n value_at home there is)

    only : KeepsBut z (IsValueOf r i.0) n q
    only = set_but (IsValueOf r i.0) (refl, refl)

    set_keys : KeysStay z r n q
    set_keys = keys_stay z r (IsValueOf r i.0) n q only (λ e. e) (λ e. e) (λ j e. e) (λ j e. e) (λ j once k e. e)

    named : (memory z q).rooms.value r i.0 ≡ home_of h g
    named = ap (λ (ws : List ℕ). (memory z ws).rooms.value r i.0) s.1 ∙ read_stored z n value_at home wide there

    set_pin : pin_in z h q ≡ pin_in z h n
    set_pin = but_same z (IsValueOf r i.0) n q only (in_headers (at_pin h)) (λ e. e)

    set_bits : (d j : ℕ) → (memory z q).arena.bits d j ≡ (memory z n).arena.bits d j
    set_bits d j = but_same z (IsValueOf r i.0) n q only (in_arena (at_bits d j)) (λ e. e)

    set_count : (memory z q).rooms.count r ≡ (memory z n).rooms.count r
    set_count = but_same z (IsValueOf r i.0) n q only (in_rooms (at_count r)) (λ e. e)

    inserts_by : pin_in z h n ≡ pin_in z h m → HasKeyAt (memory z n) r key (Entry i) → HadEntryIn z r i h c b key a q ⊎ GotEntryIn z r i h c b key a q → InsertsKey z r key value a q
    inserts_by pin has entry = record {
      i = i;
      h = h;
      g = g;
      class = c;
      block = b;
      fits = fits;
      clear = f.1.clear;
      free = fresh_free z r h c b a m f;
      pin = set_pin ∙ (pin ∙ fresh_pin);
      covers = covers;
      names = named;
      has = key_still z r n q set_keys i key has;
      entry = entry;
    }

    -- which it had
    had : (k : ℕ) → AwayIn (Some i) k z r key a a → n ≡ m → InsertsKey z r key value a q
    had k away same = let still = fresh_away z r h c b a m f (Some i) k key away in
        inserts_by (ap (λ (ws : List ℕ). pin_in z h ws) same) (subst (λ (ws : List ℕ). HasKeyAt (memory z ws) r key (Entry i)) (sym same) still.0.1) (inl (record {
          had = away.0.1;
          floor = away.1.0;
          but = but_both z V a m q fresh_but (subst (λ (ws : List ℕ). KeepsBut z V ws q) same (set_but V (refl, refl)));
          bits = λ d j. set_bits d j ∙ (ap (λ (ws : List ℕ). (memory z ws).arena.bits d j) same ∙ fresh_bits d j);
        }))

    -- or which is new
    got : (k : ℕ) → AwayIn None k z r key a a → AddsKeyIn z r i key m n → InsertsKey z r key value a q
    got k away e = inserts_by (but_same z (IsNewEntry r i.0 e.from e.class e.block) m n e.but (in_headers (at_pin h)) (λ x. x)) e.has (inr (record {
      class = e.class;
      fits = e.fits;
      block = e.block;
      clear = fresh_clear z r h c b a m f (class_number e.class) e.block e.clear;
      missing = away.1;
      next = e.next ∙ (fresh_keys z r h c b a m f).count;
      room = e.room;
      count = set_count ∙ (e.count ∙ ap (λ (t : ℕ). t + 1) fresh_count);
      from = e.from;
      but = let W : Spot → Type 0 = λ p. V p ⊎ IsNewEntry r i.0 e.from e.class e.block p in but_both z W a m q (but_as z V W a m (λ p x. inl x) fresh_but)
          (but_both z W m n q (but_as z (IsNewEntry r i.0 e.from e.class e.block) W m n (λ p x. inr x) e.but) (set_but W (inl (refl, refl))));
      bits = λ d j. set_bits d j ∙ (e.bits d j ∙ ap (with_bit e.class e.block d j) (fresh_bits d j));
    }))

  inserts_for : (entry : Option EntryNo) (k : ℕ) → AwayIn entry k z r key a a → (n q : List ℕ) (floor : ℕ) → GetsFor entry k z r i key m n → SetsIn z r i.0 floor (home_of h g) n q → InsertsKey z r key value a q
  inserts_for None k away n q floor gets s = let e = gets (fresh_away z r h c b a m f None k key away) in got n q (e.but.size ∙ (fresh_but.size ∙ f.1.wide)) floor s k away e
  inserts_for (Some j) k away n q floor gets s = let e = gets (fresh_away z r h c b a m f (Some j) k key away) in
      had n q (ap length e.1 ∙ (fresh_but.size ∙ f.1.wide)) floor s k (subst (λ (x : EntryNo). AwayIn (Some x) k z r key a a) (sym e.0) away) e.1

-- to a pass that is alone
pub inserts_alone : (z : Sizes) (r floor : ℕ) (key value : List ℕ) (entry : Option EntryNo) (c : Class) → class_of (length value) ≡ Some c → (span : Span) → CoversKey key span → (h g b : ℕ) (v u w x : PassState) → Runs (MakesFreshUnder z r span h c b) v u
    → (i : EntryNo) → IsInside z (in_rooms (at_value r i.0)) → Runs (GetsFor entry floor z r i key) u w → Runs (SetsIn z r i.0 floor (home_of h g)) w x → Runs (InsertsKeyFor z r entry floor key value) v x
inserts_alone z r floor key value entry c fits span covers h g b v u w x made i there gets set = let F : List ℕ → List ℕ → Type 0 = MakesFreshUnder z r span h c b in let G : List ℕ → List ℕ → Type 0 = GetsFor entry floor z r i key in let S : List ℕ → List ℕ → Type 0 = SetsIn z r i.0 floor (home_of h g) in
    runs_as (Then F (Then G S)) (InsertsKeyFor z r entry floor key value) v x
    (λ a d t away. inserts_for z r h g c b key value fits a t.0 t.1.0 (subst (CoversKey key) (sym t.1.1) covers) i there entry floor away t.2.0 d floor t.2.1 t.2.2)
    (runs_then F (Then G S) v u x made (runs_then G S u w x gets set))
