-- What a try found with nothing free is lacked by the call that swept every key before it.
use Rattle.std.proofs.Common.{◌≡◌, ℕ, ◌+◌, ◌-◌, ◌⊎◌, ⊎_elim, List, ◌++◌, length, length-append, sym, ap, refl, ◌∙◌, subst, arith, false, Option, Some, None, inl, inr}
use mathlib.Core.Option.{some}
use lib.ListN.{get_elem?}
use Rattle.pin_word.specs.PinWord.{generation_of}
use Rattle.oak_model.specs.declared.classes.Class.{Class}
use Rattle.oak_model.specs.declared.replies.Lack.{Lack}
use Rattle.oak_model.specs.declared.replies.Lack.TheVariants.{Block, Header}
use Rattle.oak_model.specs.Counts.{Begins}
use Rattle.oak_model.specs.Limits.{Sizes}
use Rattle.oak_model.proofs.Lists.{at_longer, begins_length, each_map}
use Rattle.header_core.specs.Headers.{at_pin}
use Rattle.oak_core.specs.declared.states.Finding.{Finding}
use Rattle.oak_core.specs.declared.states.PassState.{PassState}
use Rattle.oak_core.specs.declared.states.Swept.{Swept}
use Rattle.oak_core.specs.CallSteps.{MetMore}
use Rattle.oak_core.specs.Finding.{FoundThere, had}
use Rattle.oak_core.specs.FoundBehind.{FoundBehind}
use Rattle.oak_core.specs.Lack.{FoundHeld, FoundRenewed, FoundSet, FoundTaken, KeySwept, LackFound, Lacks, TookBut}
use Rattle.oak_core.specs.Memory.{Spot, in_headers, index}
use Rattle.oak_core.specs.PassState.{bare_state}
use Rattle.oak_core.specs.QuietSteps.{MetOnly}
use Rattle.oak_core.specs.Usage.{is_free}
use Rattle.oak_core.proofs.calls.CallSteps.{met_both}
use Rattle.oak_core.proofs.memory.MetLists.{at_behind, at_inside, each_at, from_behind}
use Rattle.point_ops.specs.FoundWords.{FoundApart, FoundHad, FoundWord}
use Rattle.point_ops.specs.Halting.{AllTaken, IsTaken, NoneFree}
use Rattle.rebalance.specs.Calls.{SweepsKey}
use Rattle.oak_map.specs.Putting.{SweepsAll}

-- ---- what a try found

module _ (z : Sizes) (call : ℕ) (v w : PassState) where
  -- a finding of the try is one behind its begin
  abbrev behind_begin : (p : Spot) (more : List Finding) → w.findings.met ≡ v.findings.met ++ more → (P : ℕ → Type 0) (Q : ℕ → ℕ → Type 0) (f : FoundThere z call p bare_state more P) → Q f.number f.finding.had
      → FoundBehind (length v.findings.met) (length w.findings.met) w.findings.met (index z p) Q
  behind_begin p more met P Q f shows = record {
    place = length v.findings.met + f.place;
    from = omega arith;
    to = let i = at_inside more f.place f.finding f.there in let e = ap (λ (l : List Finding). length l) met in let n = length-append v.findings.met more in omega arith;
    finding = f.finding;
    there = subst (λ (l : List Finding). get_elem? l (length v.findings.met + f.place) ≡ some f.finding) (sym met) (at_behind v.findings.met more f.place f.finding f.there);
    word_is = f.word_is;
    number = f.number;
    found_is = f.found_is;
    shows = shows;
  }

  -- a pass that holds nothing has no header
  no_pin : (h : ℕ) → had (in_headers (at_pin h)) bare_state ≡ 0
  unfolding Rattle.oak_model.specs.Counts.total
  no_pin h = refl

  had_behind : (p : Spot) (Q : ℕ → ℕ → Type 0) → FoundHad z call p Q v w → FoundBehind (length v.findings.met) (length w.findings.met) w.findings.met (index z p) Q
  had_behind p Q f = record {
    place = length v.findings.met + f.place;
    from = omega arith;
    to = let i = at_inside f.more f.place f.finding f.there in let e = ap (λ (l : List Finding). length l) f.met in let n = length-append v.findings.met f.more in omega arith;
    finding = f.finding;
    there = subst (λ (l : List Finding). get_elem? l (length v.findings.met + f.place) ≡ some f.finding) (sym f.met) (at_behind v.findings.met f.more f.place f.finding f.there);
    word_is = f.word_is;
    number = f.number;
    found_is = f.found_is;
    shows = f.shows;
  }

  block_found : (c : Class) (spare : Option ℕ) (b : ℕ) → IsTaken z call c spare b v w → FoundSet z (length v.findings.met) (length w.findings.met) w.findings.met c b ⊎ ((spare ≡ Some b) × FoundHeld z (length v.findings.met) (length w.findings.met) w.findings.met c b)
  block_found c spare b (inl x) = inl (had_behind _ _ x)
  block_found c spare b (inr x) = inr (x.0, had_behind _ _ x.1)

  pub blocks_found : (c : Class) (spare : Option ℕ) → AllTaken z call c spare v w → LackFound z (length v.findings.met) (length w.findings.met) w.findings.met (Block c) spare
  blocks_found c spare all b lt = block_found c spare b (all b lt)

  taken_found : (h : ℕ) → FoundWord z call (in_headers (at_pin h)) (λ n. is_free n ≡ false) v w → FoundTaken z (length v.findings.met) (length w.findings.met) w.findings.met h
  taken_found h f = behind_begin (in_headers (at_pin h)) f.more f.met _ _ f.found (f.found.shows, f.found.had_is ∙ no_pin h)

  renewed_found : (h : ℕ) → FoundApart z call (in_headers (at_pin h)) generation_of v w → FoundRenewed z (length v.findings.met) (length w.findings.met) w.findings.met h
  renewed_found h f = record {
    one = behind_begin (in_headers (at_pin h)) f.more f.met _ (λ _ had. had ≡ 0) f.one (f.one.had_is ∙ no_pin h);
    other = behind_begin (in_headers (at_pin h)) f.more f.met _ (λ _ had. had ≡ 0) f.other (f.other.had_is ∙ no_pin h);
    apart = f.apart;
  }

  pub headers_found : NoneFree z call v w → LackFound z (length v.findings.met) (length w.findings.met) w.findings.met Header None
  headers_found none h lt = ⊎_elim (λ (f : FoundWord z call (in_headers (at_pin h)) (λ n. is_free n ≡ false) v w). inl (taken_found h f)) (λ (f : FoundApart z call (in_headers (at_pin h)) generation_of v w). inr (renewed_found h f)) (none h lt)

-- what holds of each finding holds of those of a call
pub met_any : (P : Finding → Type 0) (call : ℕ) (v w : PassState) → ((f : Finding) → P f) → MetMore call v w → MetOnly P v w
met_any P call v w all m = record { more = m.more; met = m.met; each = each_map (λ (f : Finding). f.call ≡ call) P m.more (λ f _. all f) m.calls }

-- ---- behind ranges with every key

module _ (u v w : PassState) where
  key_swept : (k : List ℕ) → SweepsKey k u v → Begins v.findings.swept w.findings.swept → KeySwept (length u.findings.met) (length v.findings.met) w.findings.swept k
  key_swept k s b = record {
    place = length u.findings.swept + s.place;
    range = s.range;
    there = subst (λ (l : List Swept). get_elem? l (length u.findings.swept + s.place) ≡ some s.range) (sym b.1)
        (at_longer v.findings.swept b.0 (length u.findings.swept + s.place) s.range
        (subst (λ (l : List Swept). get_elem? l (length u.findings.swept + s.place) ≡ some s.range) (sym s.swept) (at_behind u.findings.swept s.more s.place s.range s.there)));
    from = s.from;
    to = s.to;
    inside = s.inside;
  }

  -- a call that began at u, and swept every key until v, lacks what it found with nothing free until w, and of which it took none but the spare block
  pub lacks_since : (z : Sizes) (call : ℕ) (lack : Lack) (spare : Option ℕ) → MetMore call u v → SweepsAll u v → MetMore call v w → Begins v.findings.swept w.findings.swept → LackFound z (length v.findings.met) (length w.findings.met) w.findings.met lack spare → MetOnly (TookBut lack spare) v w
      → Lacks z call lack spare (length u.findings.met) (length w.findings.met) w.findings
  lacks_since z call lack spare first all last swept found only = let both = met_both call u v w first last in record {
    behind = length v.findings.met;
    from = begins_length u.findings.met v.findings.met (first.more, first.met);
    to = begins_length v.findings.met w.findings.met (last.more, last.met);
    met = omega arith;
    of_call = λ i f le lt at. each_at (λ (x : Finding). x.call ≡ call) both.more both.calls (i - length u.findings.met) f (from_behind u.findings.met both.more i f le (subst (λ (l : List Finding). get_elem? l i ≡ some f) both.met at));
    covered = λ k is. key_swept k (all k is) swept;
    found = found;
    own = λ i f le lt at. each_at (TookBut lack spare) only.more only.each (i - length v.findings.met) f (from_behind v.findings.met only.more i f le (subst (λ (l : List Finding). get_elem? l i ≡ some f) only.met at));
  }
