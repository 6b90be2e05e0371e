-- How a scan that loads the entries of each room once goes on.
use Rattle.std.proofs.Common.{◌≡◌, ℕ, suc, ◌≤◌, Bool, true, false, List, [], ◌∷◌, ◌++◌, Option, Some, None, sym, ap, subst, arith}
use Rattle.std.specs.Prelude.{MatchBool}
use Rattle.oak_model.specs.declared.limits.TheConstants.{GREATEST_ENTRIES}
use Rattle.oak_model.specs.declared.replies.Pair.{Pair}
use Rattle.oak_model.specs.Key.{is_key}
use Rattle.oak_model.specs.KeyNumber.{key_number}
use Rattle.oak_model.proofs.KeyLaws.{is_key-is}
use Rattle.value_ops.specs.PinnedValues.{stamp_under, value_under}
use Rattle.scan_cursor.specs.declared.marks.Mark.{Mark}
use Rattle.scan_cursor.specs.declared.walking.Walk.{Walk}
use Rattle.scan_cursor.specs.declared.ways.Way.{Way}
use Rattle.scan_cursor.specs.declared.ways.Way.TheVariants.{Up, Down}
use Rattle.scan_cursor.specs.Gathered.{Loaded}
use Rattle.scan_cursor.specs.Holding.{Covers, IsBound, IsRoom, Room, ahead_from, ahead_past, bound_in, high_end, low_end}
use Rattle.scan_cursor.specs.Marks.{Come, Ends, GoesToBound, HasCome, InBounds, IsWithin, Leaves}
use Rattle.scan_cursor.specs.Views.{Later, ReadsKey, View}
use Rattle.scan_cursor.specs.Walks.{AreAhead, Course, Gathers, HasWalked, IsBefore, IsWalk, WalkGives, WalkPasses, pair_of}
use Rattle.scan_cursor.proofs.GatherLaws.{gap_end, gathered_since, gathered_stays}
use Rattle.scan_cursor.proofs.RoomRanges.{number_most}
use Rattle.scan_cursor.proofs.MarkLaws.{come_absent, come_present, come_stays, lifts_end_down, lifts_end_up, lifts_to, lifts_up}
use Rattle.scan_cursor.proofs.ReadingViews.{later_self, later_both, read_before}

-- ---- the pass only met and learned more

pub ahead_stays : (way : Way) (v u : View) (k : List ℕ) (b : Option (List ℕ)) (xs : List Loaded) → Later v u → AreAhead way v k b xs → AreAhead way u k b xs
ahead_stays way v u k b xs l a = record { reach = a.reach; moment = a.moment; since = later_both a.moment v u a.since l; gathers = gathered_stays way a.moment v u (ahead_from way k b) (ahead_past way k b) xs l a.gathers }

-- the walk is as it was, in a later state of the pass
abbrev pub at_view : View → Course → Course
at_view u c = record { walk = c.walk; left = c.left; view = u }

pub walk_stays : (way : Way) (lo hi : ℕ) (c : Course) (u : View) → Later c.view u → IsWalk way lo hi c → IsWalk way lo hi (at_view u c)
walk_stays way lo hi c u l i = record { bounds = i.bounds; bound = i.bound; few = i.few; within = i.within; ahead = λ e. ahead_stays way c.view u c.walk.mark.key c.walk.bound c.left l (i.ahead e) }

pub walked_stays : (way : Way) (lo hi : ℕ) (c : Course) (u : View) (a : View) (ps : List Pair) → Later c.view u → HasWalked way lo hi c a ps → HasWalked way lo hi (at_view u c) a ps
walked_stays way lo hi c u a ps l h = let w = c.walk in record {
  come = come_stays way lo hi w.mark.past w.mark.ended w.mark.key a c.view u ps l h.come;
  ahead = λ e. gathered_stays way a c.view u (ahead_from way w.mark.key w.bound) (ahead_past way w.mark.key w.bound) c.left l (h.ahead e);
}

pub walk_later : (way : Way) (lo hi : ℕ) (c : Course) (u : View) → IsWalk way lo hi c → Later c.view u → WalkPasses way lo hi c (at_view u c)
walk_later way lo hi c u i l = record { walk = walk_stays way lo hi c u l i; later = l; goes = λ a ps h. walked_stays way lo hi c u a ps l h }

-- ---- one behind the other

pub walk_then : (way : Way) (lo hi : ℕ) (c d e : Course) → WalkPasses way lo hi c d → WalkPasses way lo hi d e → WalkPasses way lo hi c e
walk_then way lo hi c d e p q = record { walk = q.walk; later = later_both c.view d.view e.view p.later q.later; goes = λ a ps h. q.goes a ps (p.goes a ps h) }

pub walk_gives : (way : Way) (lo hi : ℕ) (c d e : Course) → WalkPasses way lo hi c d → WalkGives way lo hi d e → WalkGives way lo hi c e
walk_gives way lo hi c d e p q = record { walk = q.walk; going = q.going; later = later_both c.view d.view e.view p.later q.later; goes = λ a ps h. q.goes a ps (p.goes a ps h) }

-- ---- a room's entries were loaded: p with the room pinned, t with them, u at last

before_bound : (way : Way) (k : List ℕ) (r : Room) → Covers way true k r → IsBefore way k (bound_in way r)
before_bound Up k r c = c.1
before_bound Down k r c = let l = c.0 in omega arith

real_bound : (way : Way) (r : Room) → IsRoom r → IsBound (bound_in way r)
real_bound Up r i = i.high
real_bound Down r i = i.low

-- the walk with these entries loaded, up to a bound
abbrev pub filled_course : ℕ → ℕ → Bool → Option (List ℕ) → List Loaded → View → Course → Course
filled_course to asked within b xs u c = record { walk = record { mark = c.walk.mark; gathered = true; from = 0; to = to; bound = b; within = within; asked = asked }; left = xs; view = u }

pub walk_fills : (way : Way) (lo hi : ℕ) (c : Course) (to asked : ℕ) (within : Bool) (r : Room) (xs : List Loaded) (p t u : View) → (within ≡ true → IsWithin way lo hi (bound_in way r)) → IsWalk way lo hi c → IsRoom r → Covers way true c.walk.mark.key r → to ≤ GREATEST_ENTRIES
    → Later c.view p → Later p t → Later t u → Gathers way p t c.walk.mark.key (bound_in way r) xs → WalkPasses way lo hi c (filled_course to asked within (bound_in way r) xs u c)
walk_fills way lo hi c to asked within r xs p t u inner i real covers few cp pt tu g =
    let k = c.walk.mark.key in
    let b = bound_in way r in
    let pu = later_both p t u pt tu in
    let cu = later_both c.view p u cp pu in
    let h = gathered_stays way p t u (ahead_from way k b) (ahead_past way k b) xs tu g in
    record {
      walk = record { bounds = i.bounds; bound = real_bound way r real; few = few; within = λ _. inner; ahead = λ _. record { reach = before_bound way k r covers; moment = p; since = pu; gathers = h } };
      later = cu;
      goes = λ a ps w. record {
        come = come_stays way lo hi c.walk.mark.past c.walk.mark.ended k a c.view u ps cu w.come;
        ahead = λ _. gathered_since way a p u (ahead_from way k b) (ahead_past way k b) xs (later_both a c.view p w.come.later cp) h;
      };
    }

-- behind a room without a bound there are no keys
pub ends_open : (way : Way) (lo : ℕ) (hi : List ℕ) (b : Option (List ℕ)) → is_key hi ≡ true → b ≡ None → Ends way lo (key_number hi) b
ends_open Up lo hi b real e = let t = number_most hi (is_key-is hi real).1 in rw e (omega arith)
ends_open Down lo hi b real e = rw e (omega arith)

-- ---- none is left: the scan leaves the room at its bound

leaves : (way : Way) (lo hi : ℕ) (b : Option (List ℕ)) (k : List ℕ) (m : Mark) (a v : View) (ps : List Pair) → InBounds lo hi k → IsBefore way k b → Gathers way a v k b []
    → (ended : Bool) → MatchBool ended (Ends way lo hi b) (GoesToBound way lo hi b m) → Come way lo hi true false k a v ps → Come way lo hi m.past ended m.key a v ps
leaves Up lo hi b k m a v ps i f g true o c = lifts_end_up lo hi (high_end b) g.ats m.past k m.key a v ps i.below o (gap_end Up a v (suc (key_number k)) (high_end b) g) c
leaves Down lo hi b k m a v ps i f g true o c = lifts_end_down lo hi (low_end b) g.ats m.past k m.key a v ps i.above o (gap_end Down a v (low_end b) (key_number k) g) c
leaves Up lo hi b k m a v ps i f g false o c =
    let n : high_end b ≡ key_number m.key = ap high_end o.0 in
    subst (λ x. Come Up lo hi x false m.key a v ps) (sym o.1) (lifts_up lo hi (high_end b) g.ats k m.key a v ps (omega arith) (omega arith) (gap_end Up a v (suc (key_number k)) (high_end b) g) c)
leaves Down lo hi b k m a v ps i f g false o c =
    let n : low_end b ≡ key_number m.key = ap low_end o.0 in
    subst (λ x. Come Down lo hi x false m.key a v ps) (sym o.1) (lifts_to lo hi (low_end b) g.ats k m.key a v ps (omega arith) (omega arith) (gap_end Down a v (low_end b) (key_number k) g) c)

leaves_bounds : (way : Way) (lo hi : ℕ) (b : Option (List ℕ)) (k : List ℕ) (m : Mark) → IsBound b → InBounds lo hi k → IsBefore way k b → GoesToBound way lo hi b m → InBounds lo hi m.key
leaves_bounds Up lo hi b k m real i f o =
    let n : high_end b ≡ key_number m.key = ap high_end o.0 in
    record { key = let t : IsBound (Some m.key) = subst IsBound o.0 real in t; above = omega (arith, i.above); below = o.2 }
leaves_bounds Down lo hi b k m real i f o =
    let n : low_end b ≡ key_number m.key = ap low_end o.0 in
    record { key = let t : IsBound (Some m.key) = subst IsBound o.0 real in t; above = omega (arith, o.2); below = omega (arith, i.below) }

-- at the mark's key, which is read, and going on
pub come_past : (way : Way) (lo hi : ℕ) (w : Walk) (a v : View) (ps : List Pair) → w.mark.ended ≡ false → w.mark.past ≡ true → HasCome way lo hi w.mark a v ps → Come way lo hi true false w.mark.key a v ps
come_past way lo hi w a v ps going past c = subst (λ (x : Bool). Come way lo hi x false w.mark.key a v ps) past (subst (λ (x : Bool). Come way lo hi w.mark.past x w.mark.key a v ps) going c)

pub walk_leaves : (way : Way) (lo hi : ℕ) (c : Course) (n : Walk) (xs : List Loaded) → IsWalk way lo hi c → c.walk.mark.ended ≡ false → c.walk.mark.past ≡ true → c.walk.gathered ≡ true → c.left ≡ [] → Leaves way lo hi c.walk.bound n.mark → n.gathered ≡ false → IsBound n.bound → n.to ≤ GREATEST_ENTRIES
    → WalkPasses way lo hi c (record { walk = n; left = xs; view = c.view })
walk_leaves way lo hi c n xs i going past has none o empty real few =
    let w = c.walk in
    let inside = i.bounds going in
    let f = (i.ahead has).reach in
    record {
      walk = record {
        bounds = λ x. leaves_bounds way lo hi w.bound w.mark.key n.mark i.bound inside f (subst (λ y. MatchBool y (Ends way lo hi w.bound) (GoesToBound way lo hi w.bound n.mark)) x o);
        bound = real;
        few = few;
        within = λ x. absurd cc;
        ahead = λ x. absurd cc;
      };
      later = later_self c.view;
      goes = λ a ps h.
          let g : Gathers way a c.view w.mark.key w.bound [] = subst (Gathers way a c.view w.mark.key w.bound) none (h.ahead has) in
          record { come = leaves way lo hi w.bound w.mark.key n.mark a c.view ps inside f g n.mark.ended o (come_past way lo hi w a c.view ps going past h.come); ahead = λ x. absurd cc };
    }

-- ---- the key at the mark, which is not read yet, is read in whatever room covers it

-- the walk with the mark past its key
abbrev pub past_course : View → Course → Course
past_course u c = record { walk = record c.walk { mark = record c.walk.mark { past = true } }; left = c.left; view = u }

come_at : (way : Way) (lo hi : ℕ) (w : Walk) (a v : View) (ps : List Pair) → w.mark.ended ≡ false → w.mark.past ≡ false → HasCome way lo hi w.mark a v ps → Come way lo hi false false w.mark.key a v ps
come_at way lo hi w a v ps going at c = subst (λ (x : Bool). Come way lo hi x false w.mark.key a v ps) at (subst (λ (x : Bool). Come way lo hi w.mark.past x w.mark.key a v ps) going c)

module _ (way : Way) (lo hi : ℕ) (c : Course) (u : View) (i : IsWalk way lo hi c) (going : c.walk.mark.ended ≡ false) (at : c.walk.mark.past ≡ false) (l : Later c.view u) where
  passed : IsWalk way lo hi (past_course u c)
  passed = let s = walk_stays way lo hi c u l i in record { bounds = s.bounds; bound = s.bound; few = s.few; within = s.within; ahead = s.ahead }

  pub mark_absent : (n : ℕ) → ReadsKey c.view u c.walk.mark.key n None → WalkPasses way lo hi c (past_course u c)
  mark_absent n r = let m = c.walk.mark in record {
    walk = passed;
    later = l;
    goes = λ a ps h. record {
      come = subst (λ (x : Bool). Come way lo hi true x m.key a u ps) (sym going) (come_absent way lo hi m.key a c.view u n ps (i.bounds going) l (read_before m.key n None a c.view u h.come.later r) (come_at way lo hi c.walk a c.view ps going at h.come));
      ahead = (walked_stays way lo hi c u a ps l h).ahead;
    };
  }

  pub mark_present : ReadsKey c.view u c.walk.mark.key (stamp_under u.state) (Some (value_under u.state)) → WalkGives way lo hi c (past_course u c)
  mark_present r = let m = c.walk.mark in let x = pair_of m.key u.state in record {
    walk = passed;
    going = going;
    later = l;
    goes = λ a ps h. record {
      come = subst (λ (y : Bool). Come way lo hi true y m.key a u (ps ++ x ∷ [])) (sym going) (come_present way lo hi a c.view u x ps (i.bounds going) l (read_before m.key x.at (Some x.value) a c.view u h.come.later r) (come_at way lo hi c.walk a c.view ps going at h.come));
      ahead = (walked_stays way lo hi c u a ps l h).ahead;
    };
  }

-- ---- its start

pub walk_starts : (way : Way) (lo hi : ℕ) (c : Course) → c.walk.gathered ≡ false → HasCome way lo hi c.walk.mark c.view c.view [] → HasWalked way lo hi c c.view []
walk_starts way lo hi c e h = record { come = h; ahead = λ x. absurd cc }
