-- What the calls of a cursor come to, by what they say of its pass.
use Rattle.std.proofs.Common.{◌≡◌, ℕ, true, false, List, length, Option, Some, None, refl, sym, ap, subst, ◌∙◌}
use Rattle.std.specs.Option.{is_some}
use Rattle.std.specs.Borrow.{MutBor}
use Rattle.oak_model.specs.declared.replies.Pair.{Pair}
use Rattle.oak_model.specs.KeyNumber.{key_number}
use Rattle.oak_model.specs.Limits.{Sizes}
use Rattle.oak_model.proofs.Lists.{each_map}
use Rattle.oak_core.specs.declared.states.Finding.{Finding}
use Rattle.oak_core.specs.declared.states.PassState.{PassState}
use Rattle.oak_core.specs.declared.table.Pass.{Pass}
use Rattle.oak_core.specs.AloneWords.{Runs}
use Rattle.oak_core.specs.CallSteps.{Stands}
use Rattle.oak_core.specs.Finding.{IsLoadOf, IsOf, LoadsMore, grown}
use Rattle.oak_core.specs.PassState.{HoldsNothing}
use Rattle.oak_core.specs.Passes.{Stays, call_of, key as sizes, slots_of, state}
use Rattle.oak_core.proofs.calls.CallSteps.{stands_learns}
use Rattle.oak_core.proofs.calls.QuietCalls.{quiet_loads}
use Rattle.chunk_ops.specs.AddsAlone.{Never}
use Rattle.chunk_ops.proofs.MeetingCalls.{stays_then, then_stays}
use Rattle.value_ops.specs.declared.pinned_value.PinnedValue.{PinnedValue}
use Rattle.value_ops.specs.Pinning.{EndsPin}
use Rattle.value_ops.specs.PinnedValues.{ReadsPinned, stamp_under, value_under}
use Rattle.value_ops.proofs.ValueFacts.{long}
use Rattle.scan_cursor.specs.declared.cursor.Cursor.{Cursor}
use Rattle.point_ops.proofs.LoneChanges.{then_never}
use Rattle.scan_cursor.specs.declared.walking.Stepped.TheVariants.{Again}
use Rattle.scan_cursor.specs.declared.walking.Walk.{Walk}
use Rattle.scan_cursor.specs.declared.ways.Way.{Way}
use Rattle.scan_cursor.specs.Busy.{AreInVain}
use Rattle.scan_cursor.specs.Cursors.{Advances, GivesUp, HasGiven, HasPair, IsCursor, ReadsPair, course, under, value_of, view_under}
use Rattle.scan_cursor.specs.Holding.{HasValue}
use Rattle.scan_cursor.specs.Leaving.{LeavesValue}
use Rattle.scan_cursor.specs.Views.{Later, View}
use Rattle.scan_cursor.specs.Walks.{HasWalked, IsWalk, MayGoOn, WalkSteps, WalksOrEnds, course_of, view_at}
use Rattle.scan_cursor.proofs.EndLaws.{scan_leaves}
use Rattle.scan_cursor.proofs.LeavingLaws.{left_leaves, none_leaves}
use Rattle.scan_cursor.proofs.ReadingViews.{later_both}
use Rattle.scan_cursor.proofs.StepLaws.{later_at, same_left}
use Rattle.scan_cursor.proofs.VainLooks.{in_vain_since, vain_stays}
use Rattle.scan_cursor.proofs.WalkLaws.{walk_stays, walked_stays}

-- ---- a walk, while the slots stay and the pass only met and learned more

pub course_stays : (way : Way) (lo hi : ℕ) (z : Sizes) (w : Walk) (p q : Pass) → slots_of q ≡ slots_of p → Later (view_at z p) (view_at z q) → IsWalk way lo hi (course_of way z w p) → IsWalk way lo hi (course_of way z w q)
course_stays way lo hi z w p q e l i = subst (IsWalk way lo hi) (same_left z way p q w e) (walk_stays way lo hi (course_of way z w p) (view_at z q) l i)

pub course_keeps : (way : Way) (lo hi : ℕ) (z : Sizes) (w : Walk) (p q : Pass) (a : View) (ps : List Pair) → slots_of q ≡ slots_of p → Later (view_at z p) (view_at z q) → HasWalked way lo hi (course_of way z w p) a ps → HasWalked way lo hi (course_of way z w q) a ps
course_keeps way lo hi z w p q a ps e l h = subst (λ c. HasWalked way lo hi c a ps) (same_left z way p q w e) (walked_stays way lo hi (course_of way z w p) (view_at z q) a ps l h)

-- ---- the present value is read

loads_stand : (z : Sizes) (call : ℕ) (v w : PassState) → LoadsMore z call v w → Stands call v w
loads_stand z call v w l = subst (Stands call v) (sym l.after) record {
  met = record { more = l.more; met = refl; calls = each_map (IsLoadOf z call) (λ (f : Finding). f.call ≡ call) l.more (λ f is. is.0) l.loads };
  numbers = refl;
  knowledge = refl;
  fulls = refl;
  swept = refl;
  sights = refl;
  gones = refl;
  rebalances = refl;
}

value_grown : (z : Sizes) (x : PinnedValue) (more : List Finding) (v : PassState) → HasValue z x v → HasValue z x (grown more v)
value_grown z x more v h = let i = h.value in let p = i.has in record {
  value = record { limits = i.limits; pin = i.pin; has = record { inside = p.inside; is = p.is; header_is = p.header_is; wanted_is = p.wanted_is; good = p.good }; placed = i.placed; block_is = i.block_is; length_is = i.length_is; words = i.words; stamp_is = i.stamp_is };
  headers = h.headers;
  hand = h.hand;
  blocks = h.blocks;
  rooms = h.rooms;
}

-- the cursor over another state of the pass
abbrev pub with_pass : MutBor Pass → Cursor → Cursor
with_pass q c = record c { pass = q }

module _ (c : Cursor) (x : PinnedValue) (i : IsCursor c) (is : c.value ≡ Some x) where
  pair : HasPair (Some x) (sizes c.table.now) c.walk.mark (under c)
  pair = subst (λ (o : Option PinnedValue). HasPair o (sizes c.table.now) c.walk.mark (under c)) is i.pair

  pub pair_long : x.length ≡ length (value_of c)
  pair_long = sym (long (sizes c.table.now) x (under c) pair.0.value)

  pub pair_reads : (q : MutBor Pass) → ReadsPinned (sizes c.table.now) x c.pass.now q.now → ReadsPair c (with_pass q c)
  pair_reads q r =
      let z = sizes c.table.now in
      let loads = r.only.loads in
      let later : Later (view_at z c.pass.now) (view_at z q.now) = later_at z c.pass.now q.now r.stays.call record { sizes = refl; call = refl; learns = stands_learns (call_of c.pass.now) (under c) (state q.now) (loads_stand z (call_of c.pass.now) (under c) (state q.now) loads); quiet = quiet_loads z (call_of c.pass.now) (under c) (state q.now) loads } in
      let value : HasValue z x (state q.now) = subst (HasValue z x) (sym loads.after) (value_grown z x loads.more (under c) pair.0) in
      record {
        cursor = record {
          own = r.stays.table ∙ i.own;
          low_key = i.low_key;
          high_key = i.high_key;
          walk = course_stays c.way (key_number c.low) (key_number c.high) z c.walk c.pass.now q.now r.stays.sorting later i.walk;
          pair = subst (λ (o : Option PinnedValue). HasPair o z c.walk.mark (state q.now)) (sym is) (value, pair.1);
        };
        table = refl;
        low = refl;
        high = refl;
        way = refl;
        walk = refl;
        value = refl;
        stays = r.stays;
        only = r.only;
        quiet = later.quiet;
        bytes = ap value_under loads.after;
        stamp = ap stamp_under loads.after;
        goes = λ a ps h. record {
          walked = course_keeps c.way (key_number c.low) (key_number c.high) z c.walk c.pass.now q.now a ps r.stays.sorting later h.walked;
          still = then_stays (LeavesValue z None c.value) a.state (under c) (state q.now) h.still r.only.still;
        };
      }

-- ---- the present pair was left: n behind that

module _ (c n : Cursor) (i : IsCursor c) (table : n.table ≡ c.table) (low : n.low ≡ c.low) (high : n.high ≡ c.high) (way : n.way ≡ c.way) (walk : n.walk ≡ c.walk) (none : n.value ≡ None) (own : Stays c.pass.now n.pass.now) (idle : HoldsNothing (under n)) (l : Later (view_under c) (view_under n)) (s : Runs (LeavesValue (sizes c.table.now) c.value None) (under c) (under n)) where
  -- the cursor with what it has now
  abbrev now : Cursor
  now = record c { pass = n.pass; value = n.value }

  same : now ≡ n
  same = λ j. record { table = sym table j; pass = n.pass; low = sym low j; high = sym high j; way = sym way j; walk = sym walk j; value = n.value }

  later : Later (view_under c) (view_under now)
  later = subst (λ t. Later (view_under c) (view_at (sizes t.now) n.pass.now)) table l

  cursor : IsCursor now
  cursor = record {
    own = own.table ∙ i.own;
    low_key = i.low_key;
    high_key = i.high_key;
    walk = course_stays c.way (key_number c.low) (key_number c.high) (sizes c.table.now) c.walk c.pass.now n.pass.now own.sorting later i.walk;
    pair = subst (λ (o : Option PinnedValue). HasPair o (sizes c.table.now) c.walk.mark (under n)) (sym none) idle;
  }

  pub left_cursor : IsCursor n
  left_cursor = subst IsCursor same cursor

  pub left_given : (a : View) (ps : List Pair) → HasGiven c a ps → HasGiven n a ps
  left_given a ps h = let z = sizes c.table.now in subst (λ (m : Cursor). HasGiven m a ps) same record {
    walked = course_keeps c.way (key_number c.low) (key_number c.high) z c.walk c.pass.now n.pass.now a ps own.sorting later h.walked;
    still = subst (λ (o : Option PinnedValue). Runs (LeavesValue z None o) a.state (under n)) (sym none) (scan_leaves c a ps (under n) i h s);
  }

  -- it had ended
  pub left_ended : n.walk.mark.ended ≡ true → Advances false c n
  left_ended e = record { value = none; ended = e; goes = left_given }

  -- it has not
  pub left_goes_on : n.walk.mark.ended ≡ false → MayGoOn n.way n.low n.high n.table.now n.walk n.pass.now
  left_goes_on going = record { own = left_cursor.own; idle = idle; low = left_cursor.low_key; high = left_cursor.high_key; walk = left_cursor.walk; going = going }

  -- it went on
  module _ (q : MutBor Pass) (w : Walk) where
    abbrev pub gone_on : Option PinnedValue → Cursor
    gone_on o = record n { pass = q; walk = w; value = o }

    on_given : (o : Option PinnedValue) (a : View) (ps : List Pair) → HasGiven n a ps → Runs (LeavesValue (sizes n.table.now) None o) (under n) (state q.now) → Runs (LeavesValue (sizes n.table.now) None o) a.state (state q.now)
    on_given o a ps m t = let z = sizes n.table.now in stays_then (LeavesValue z None o) a.state (under n) (state q.now) (subst (λ (e : Option PinnedValue). Runs (LeavesValue z None e) a.state (under n)) none m.still) t

    pub on_advances : (o : Option PinnedValue) → WalksOrEnds o n.way (key_number n.low) (key_number n.high) (course n) (course_of n.way (sizes n.table.now) w q.now) → Runs (LeavesValue (sizes n.table.now) None o) (under n) (state q.now) → Advances (is_some o) c (gone_on o)
    on_advances (Some x) g t = record { value = refl; goes = λ a ps h. let m = left_given a ps h in record { walked = g.1.goes a ps m.walked; still = on_given (Some x) a ps m t } }
    on_advances None g t = record { value = refl; ended = g.2; goes = λ a ps h. let m = left_given a ps h in record { walked = g.1.goes a ps m.walked; still = on_given None a ps m t } }

    -- what both did to the words
    pub on_leaves : (o : Option PinnedValue) → Runs (LeavesValue (sizes n.table.now) None o) (under n) (state q.now) → Runs (LeavesValue (sizes c.table.now) c.value o) (under c) (state q.now)
    on_leaves o t = left_leaves (sizes c.table.now) c.value o (under c) (under n) (state q.now) s (subst (λ k. Runs (LeavesValue (sizes k.now) None o) (under n) (state q.now)) table t)

    pub on_later : (o : Option PinnedValue) → WalksOrEnds o n.way (key_number n.low) (key_number n.high) (course n) (course_of n.way (sizes n.table.now) w q.now) → Later (view_under c) (view_under (gone_on o))
    on_later (Some x) g = later_both (view_under c) (view_under n) (view_at (sizes n.table.now) q.now) l g.1.later
    on_later None g = later_both (view_under c) (view_under n) (view_at (sizes n.table.now) q.now) l g.1.later

    -- or it gave up
    abbrev pub given_up : Cursor
    given_up = record n { pass = q; walk = w }

    module _ (waits : WalkSteps Again n.way (key_number n.low) (key_number n.high) (course n) (course_of n.way (sizes n.table.now) w q.now)) where
      pub up_later : Later (view_under c) (view_under given_up)
      up_later = later_both (view_under c) (view_under n) (view_at (sizes n.table.now) q.now) l waits.1.later

      module _ (never : Runs Never (under n) (state q.now)) where
        pub up_never : Runs Never (under c) (state q.now)
        up_never = then_never (LeavesValue (sizes c.table.now) c.value None) Never (under c) (under n) (state q.now) s never

        up_given : (a : View) (ps : List Pair) → HasGiven c a ps → HasGiven given_up a ps
        up_given a ps h = let z = sizes n.table.now in let m = left_given a ps h in record {
          walked = waits.1.goes a ps m.walked;
          still = subst (λ (o : Option PinnedValue). Runs (LeavesValue z None o) a.state (state q.now)) (sym none) (on_given None a ps m (vain_stays (under n) (state q.now) never));
        }

        pub up_gives : (looks : ℕ) → AreInVain looks (key_number n.low) (key_number n.high) (view_under n) (view_at (sizes n.table.now) q.now) → GivesUp looks c given_up
        up_gives looks vain = record {
          value = none;
          going = waits.2;
          goes = up_given;
          vain = in_vain_since looks (key_number c.low) (key_number c.high) (view_under c) (view_under n) (view_at (sizes n.table.now) q.now) l
              (subst (λ (p : List ℕ × List ℕ). AreInVain looks (key_number p.0) (key_number p.1) (view_under n) (view_at (sizes n.table.now) q.now)) (λ j. (low j, high j)) vain);
          alone = up_never;
        }

-- ---- a cursor with no present pair, as it stands

pub here_own : (n : Cursor) → Stays n.pass.now n.pass.now
here_own n = record { table = refl; seat = refl; call = refl; scratch = refl; sorting = refl }

pub here_idle : (n : Cursor) → IsCursor n → n.value ≡ None → HoldsNothing (under n)
here_idle n i none = subst (λ (o : Option PinnedValue). HasPair o (sizes n.table.now) n.walk.mark (under n)) none i.pair

pub here_still : (n : Cursor) → n.value ≡ None → Runs (LeavesValue (sizes n.table.now) n.value None) (under n) (under n)
here_still n none = subst (λ (o : Option PinnedValue). Runs (LeavesValue (sizes n.table.now) o None) (under n) (under n)) (sym none) (none_leaves (under n))

-- ---- a pin is undone

pub later_undone : (z : Sizes) (p q : Pass) (h : ℕ) → Stays p q → EndsPin z (call_of p) h (state p) (state q) → Later (view_at z p) (view_at z q)
later_undone z p q h s e = let call = call_of p in let v = state p in let w = state q in later_at z p q s.call record {
  sizes = refl;
  call = refl;
  learns = stands_learns call v w (subst (Stands call v) (sym e.meets.after) record {
    met = record { more = e.meets.more; met = refl; calls = each_map (IsOf z call) (λ (f : Finding). f.call ≡ call) e.meets.more (λ f is. is.0) e.meets.calls };
    numbers = refl;
    knowledge = refl;
    fulls = refl;
    swept = refl;
    sights = refl;
    gones = refl;
    rebalances = refl;
  });
  quiet = e.quiet;
}
