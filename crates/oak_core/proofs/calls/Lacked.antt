-- What a call lacks is shown by what was met, and by all that is met and swept further on.
use Rattle.std.proofs.Common.{◌≡◌, ℕ, ◌-◌, ◌≤◌, List, [], ◌∷◌, ◌++◌, length, sym, refl, ap, subst, arith, ⊎_elim, inl, inr, Option, Some}
use mathlib.Core.Option.{some}
use mathlib.Core.Logic.{dite}
use native.Mathlib.Decide.{dec_lt}
use lib.ListN.{get_elem?}
use Rattle.oak_model.specs.declared.replies.Lack.{Lack}
use Rattle.oak_model.specs.declared.replies.Lack.TheVariants.{Block, Header, Room}
use Rattle.oak_model.specs.Counts.{Each, Begins}
use Rattle.oak_model.specs.Key.{IsKey}
use Rattle.oak_model.specs.Limits.{Sizes}
use Rattle.oak_model.proofs.Lists.{at_longer, each_append, each_map, begins_self, begins_length}
use Rattle.oak_core.specs.declared.states.Finding.{Finding}
use Rattle.oak_core.specs.declared.states.Findings.{Findings}
use Rattle.oak_core.specs.declared.states.Full.{Full}
use Rattle.oak_core.specs.declared.states.PassState.{PassState}
use Rattle.oak_core.specs.declared.states.Swept.{Swept}
use Rattle.oak_core.specs.Finding.{grown}
use Rattle.oak_core.specs.FoundBehind.{FoundBehind}
use Rattle.oak_core.specs.Lack.{FoundHeld, FoundRenewed, FoundSet, FoundTaken, KeySwept, LackFound, Lacks, Lacked, FullsStand, TookBut, full_state}
use Rattle.oak_core.specs.RoomLacks.{FoundWhole, HeldFull}
use Rattle.oak_core.proofs.memory.MetLists.{at_shorter, from_behind, each_at}
use Rattle.oak_core.proofs.calls.MetMore.{grown_met, grown_length}

-- a room that was held full was so, whatever is met later
abbrev pub holds_longer : (z : Sizes) (behind to : ℕ) (met more : List Finding) → to ≤ length met → (r k : ℕ) → HeldFull z behind to met r k → HeldFull z behind to (met ++ more) r k
holds_longer z behind to met more le r k w = record {
  held = w.held;
  after = w.after;
  order = w.order;
  hold = w.hold;
  there = at_longer met more w.held w.hold w.there;
  word_is = w.word_is;
  number = w.number;
  found_is = w.found_is;
  frozen = w.frozen;
  unpinned = w.unpinned;
  left_is = w.left_is;
  still = λ i f after before at. w.still i f after before (at_shorter met more i f (omega arith) at);
  full = w.full;
}

module _ (z : Sizes) (behind ended : ℕ) (met more : List Finding) where
  abbrev found_longer : (word : ℕ) (P : ℕ → ℕ → Type 0) → FoundBehind behind ended met word P → FoundBehind behind ended (met ++ more) word P
  found_longer word P f = record {
    place = f.place;
    from = f.from;
    to = f.to;
    finding = f.finding;
    there = at_longer met more f.place f.finding f.there;
    word_is = f.word_is;
    number = f.number;
    found_is = f.found_is;
    shows = f.shows;
  }

  whole_longer : ended ≤ length met → (r k : ℕ) → FoundWhole z behind ended met r k → FoundWhole z behind ended (met ++ more) r k
  whole_longer le r k w = record {
    to = w.to;
    within = w.within;
    holds = holds_longer z behind w.to met more (let l = w.within in omega arith) r k w.holds;
    values = λ i lt. longer_at (w.values i lt);
  }
    where
      longer_at : {from to word : ℕ} {P : ℕ → ℕ → Type 0} → FoundBehind from to met word P → FoundBehind from to (met ++ more) word P
      longer_at f = record { place = f.place; from = f.from; to = f.to; finding = f.finding; there = at_longer met more f.place f.finding f.there; word_is = f.word_is; number = f.number; found_is = f.found_is; shows = f.shows }

  lack_longer : ended ≤ length met → (lack : Lack) (spare : Option ℕ) → LackFound z behind ended met lack spare → LackFound z behind ended (met ++ more) lack spare
  lack_longer le (Block c) spare h = λ b lt. ⊎_elim (λ (t : FoundSet z behind ended met c b). inl (found_longer _ _ t)) (λ (t : (spare ≡ Some b) × FoundHeld z behind ended met c b). inr (t.0, found_longer _ _ t.1)) (h b lt)
  lack_longer le Header spare h = λ k lt. ⊎_elim (λ (t : FoundTaken z behind ended met k). inl (found_longer _ _ t))
      (λ (t : FoundRenewed z behind ended met k). inr (record { one = found_longer _ _ t.one; other = found_longer _ _ t.other; apart = t.apart })) (h k lt)
  lack_longer le Room spare h = (h.0, record { room = h.1.room; inside = h.1.inside; whole = whole_longer le h.1.room h.0 h.1.whole; others = λ r lt ne. found_longer _ _ (h.1.others r lt ne) })

-- it stays so when more is met and swept
pub lacks_longer : (z : Sizes) (call : ℕ) (lack : Lack) (spare : Option ℕ) (began ended : ℕ) (fs fs' : Findings) → Begins fs.met fs'.met → Begins fs.swept fs'.swept → Lacks z call lack spare began ended fs → Lacks z call lack spare began ended fs'
lacks_longer z call lack spare began ended fs fs' m s l = record {
  behind = l.behind;
  from = l.from;
  to = l.to;
  met = let n = begins_length fs.met fs'.met m in let k = l.met in omega arith;
  of_call = λ i f b e at. l.of_call i f b e (at_shorter fs.met m.0 i f (let k = l.met in omega arith) (subst (λ (x : List Finding). get_elem? x i ≡ some f) m.1 at));
  covered = λ k is. let c = l.covered k is in record {
    place = c.place;
    range = c.range;
    there = subst (λ (x : List Swept). get_elem? x c.place ≡ some c.range) (sym s.1) (at_longer fs.swept s.0 c.place c.range c.there);
    from = c.from;
    to = c.to;
    inside = c.inside;
  };
  found = subst (λ (x : List Finding). LackFound z l.behind ended x lack spare) (sym m.1) (lack_longer z l.behind ended fs.met m.0 l.met lack spare l.found);
  own = λ i f b e at. l.own i f b e (at_shorter fs.met m.0 i f (let k = l.met in omega arith) (subst (λ (x : List Finding). get_elem? x i ≡ some f) m.1 at));
}

each_longer : (z : Sizes) (fs fs' : Findings) → Begins fs.met fs'.met → Begins fs.swept fs'.swept → (ns : List Full) → Each (λ (n : Full). Lacked z n.call n.lack fs) ns → Each (λ (n : Full). Lacked z n.call n.lack fs') ns
each_longer z fs fs' m s ns h = each_map (λ (n : Full). Lacked z n.call n.lack fs) (λ (n : Full). Lacked z n.call n.lack fs') ns (λ n q. (q.0, q.1, q.2, lacks_longer z n.call n.lack q.0 q.1 q.2 fs fs' m s q.3)) h

-- one more finding
pub fulls_met : (z : Sizes) (fs fs' : Findings) (f : Finding) → fs' ≡ record fs { met = fs.met ++ f ∷ [] } → FullsStand z fs → FullsStand z fs'
fulls_met z fs fs' f e h = subst (FullsStand z) (sym e) (each_longer z fs (record fs { met = fs.met ++ f ∷ [] }) (f ∷ [], refl) (begins_self fs.swept) fs.fulls h)

-- one more finding, in findings that may have other sights, and more ranges swept
pub fulls_more : (z : Sizes) (fs fs' : Findings) (f : Finding) → fs'.met ≡ fs.met ++ f ∷ [] → Begins fs.swept fs'.swept → fs'.fulls ≡ fs.fulls → FullsStand z fs → FullsStand z fs'
fulls_more z fs fs' f met swept fulls h = subst (Each (λ (n : Full). Lacked z n.call n.lack fs')) (sym fulls) (each_longer z fs fs' (f ∷ [], met) swept fs.fulls h)

-- one more finding, and a call noted that lacks what was found before
pub fulls_noted : (z : Sizes) (call : ℕ) (lack : Lack) (spare : Option ℕ) (began : ℕ) (f : Finding) (v : PassState) → Lacks z call lack spare began (length v.findings.met) v.findings → FullsStand z v.findings → FullsStand z (full_state call lack f v).findings
fulls_noted z call lack spare began f v l h = let fs : Findings = (full_state call lack f v).findings in
    each_append (λ (n : Full). Lacked z n.call n.lack fs) v.findings.fulls (record { call = call; lack = lack } ∷ [])
    (each_longer z v.findings fs (f ∷ [], refl) (begins_self v.findings.swept) v.findings.fulls h)
    ((spare, began, length v.findings.met, lacks_longer z call lack spare began (length v.findings.met) v.findings fs (f ∷ [], refl) (begins_self v.findings.swept) l), tt)

-- A call that met nothing of another call lacks what it found with nothing free behind a moment at which it had swept every key, where from then on it only met more.
module _ (z : Sizes) (call : ℕ) (v w : PassState) (more : List Finding) (after : w ≡ grown more v) (calls : Each (λ (f : Finding). f.call ≡ call) more) where
  pub lacks_then : (lack : Lack) (spare : Option ℕ) (began : ℕ) → began ≤ length v.findings.met → ((i : ℕ) (f : Finding) → began ≤ i → get_elem? v.findings.met i ≡ some f → f.call ≡ call)
      → ((k : List ℕ) → IsKey k → KeySwept began (length v.findings.met) v.findings.swept k) → LackFound z (length v.findings.met) (length w.findings.met) w.findings.met lack spare
      → Each (TookBut lack spare) more → Lacks z call lack spare began (length w.findings.met) w.findings
  lacks_then lack spare began le own swept found took = record {
    behind = length v.findings.met;
    from = le;
    to = let l = grown_length v w more after in omega arith;
    met = omega arith;
    of_call = λ i f b lt e. let at = subst (λ (l : List Finding). get_elem? l i ≡ some f) (grown_met v w more after) e in dite (dec_lt i (length v.findings.met))
        (λ l. own i f b (at_shorter v.findings.met more i f l at))
        (λ no. each_at (λ (g : Finding). g.call ≡ call) more calls (i - length v.findings.met) f (from_behind v.findings.met more i f (omega arith) at));
    covered = λ k is. subst (λ (s : List Swept). KeySwept began (length v.findings.met) s k) (ap (λ (y : PassState). y.findings.swept) (sym after)) (swept k is);
    found = found;
    own = λ i f b lt e. each_at (TookBut lack spare) more took (i - length v.findings.met) f (from_behind v.findings.met more i f b (subst (λ (l : List Finding). get_elem? l i ≡ some f) (grown_met v w more after) e));
  }
