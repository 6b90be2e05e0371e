-- A search for the life of a view that waits: what its tries come to adds up.
use Rattle.std.proofs.Common.{◌≡◌, ◌⊎◌, ℕ, ◌<◌, ◌≤◌, List, [], ◌++◌, Option, Some, None, IfSome, IfNone, refl, sym, ap, ◌∙◌, subst, inl, inr, ⊎_elim, append-nil, append_assoc, arith}
use Rattle.oak_model.specs.Limits.{Sizes}
use Rattle.oak_model.proofs.Lists.{each_append}
use Rattle.header_core.specs.HeaderStep.{unpin_header}
use Rattle.pin_word.specs.PinWord.{state_of}
use Rattle.header_core.specs.declared.states.TheConstants.{LOCKED}
use Rattle.oak_core.specs.declared.states.Finding.{Finding}
use Rattle.oak_core.specs.declared.states.PassState.{PassState}
use Rattle.oak_core.specs.Finding.{IsOf, grown}
use Rattle.oak_core.specs.KeyReads.{home_of}
use Rattle.oak_core.specs.AloneWords.{Runs}
use Rattle.oak_core.specs.PassState.{HoldsNothing}
use Rattle.oak_core.specs.QuietSteps.{IsQuiet, Quiet}
use Rattle.oak_core.specs.Sights.{FoundOverSince}
use Rattle.oak_core.specs.Step.{Step, Told, on_headers}
use Rattle.oak_core.proofs.seats.AloneRuns.{moment_after, runs_as}
use Rattle.oak_core.proofs.calls.QuietCalls.{only_both, only_none}
use Rattle.chunk_ops.specs.AddsAlone.{Never}
use Rattle.chunk_ops.specs.RoomPins.{HadMoment}
use Rattle.value_ops.specs.declared.pinning.BadPin.{BadPin}
use Rattle.value_ops.specs.declared.pinning.BadPin.TheVariants.{Dead, Locked, Other}
use Rattle.value_ops.specs.declared.views.NoRead.TheVariants.{Busy, Gone}
use Rattle.value_ops.specs.AloneLocks.{pin_in}
use Rattle.value_ops.specs.Pinning.{AddsPin, IsCause, MeetsMore, PinsLive}
use Rattle.value_ops.specs.Views.{FindsReason, KnowsView, NotRead, Viewed, why_of}
use Rattle.value_ops.proofs.LearnFacts.{learned_met}
use Rattle.lone_counts.proofs.TableCounts.{none_locked}
use Rattle.point_ops.specs.LoneLives.{LooksAlone}
use Rattle.point_ops.specs.LoneReplies.{SameAlone, SeesTheSame}
use Rattle.point_ops.specs.Replies.{Refuses}
use Rattle.point_ops.proofs.LoneLooks.{dud_alone}
use Rattle.point_ops.proofs.LoneHistories.{alone_later, seen_same, sees_whole}
use Rattle.oak_map.specs.Finding.{PinsView}
use Rattle.oak_map.specs.GivingUp.{GivesUpLife, IsLocked}
use Rattle.oak_map.specs.Lending.{FindsOver}
use Rattle.oak_map.proofs.RepeatedTries.{Tried, tried_all}
use Rattle.oak_map.proofs.LoneRetries.{Waits, lone_since, runs_since, waits_again}
use Rattle.oak_map.proofs.RepliesSince.{holds_both}
use Rattle.oak_map.proofs.FoundValues.{learned_refuses, unread_refuses}

-- what was met more, twice and never

met_more : List Finding → PassState → PassState
met_more l v = record v { findings = record v.findings { met = l } }

meets_both : (z : Sizes) (call : ℕ) (u v w : PassState) → MeetsMore z call u v → MeetsMore z call v w → MeetsMore z call u w
unfolding met_more
meets_both z call u v w a b = record {
  more = a.more ++ b.more;
  calls = each_append (IsOf z call) a.more b.more a.calls b.calls;
  after = b.after ∙ (ap (grown b.more) a.after ∙ ap (λ (l : List Finding). met_more l u) (append_assoc u.findings.met a.more b.more));
}

meets_none : (z : Sizes) (call : ℕ) (v : PassState) → MeetsMore z call v v
unfolding met_more
meets_none z call v = record { more = []; calls = tt; after = ap (λ (l : List Finding). met_more l v) (sym (append-nil v.findings.met)) }

pub meets_refuses : (z : Sizes) (call : ℕ) (v w : PassState) → MeetsMore z call v w → Refuses call v w
meets_refuses z call v w m = let l = learned_met z call v w v.headers.pin m in learned_refuses call v w l.learns l.blocks (ap (λ (y : PassState). y.headers) m.after) l.rooms

-- the moment of a step is one of its pass
told_begun : (z : Sizes) (call : ℕ) (x : Step) (v : PassState) (n : ℕ) (w : PassState) → Told z call x v n w → HadMoment z v
told_begun z call x v n w t = (t.table.words, record { states = t.table.states; rule = t.rule; seat = t.seat; here = t.here })

-- ---- one try

module _ (z : Sizes) (call : ℕ) (x : Viewed) (v w : PassState) where
  -- the header was pinned
  pub pin_view : PinsLive z call x.header x.generation v w → PinsView z call x v w
  pin_view p = record { tried = v; tries = meets_none z call v; pins = p; quiet = p.quiet; begun = told_begun z call _ v p.number w p.told; alone = p.still }

  -- the life is over
  pub read_over : NotRead z call x Gone v w → FindsOver z call x v w
  read_over n = record { tried = v; tries = meets_none z call v; not_read = n; gone = n.learned; holds = refused.holds; quiet = n.dud.quiet; same = same; alone = n.still }
    where
      refused : Refuses call v w
      refused = unread_refuses z call x Gone v w n

      same : SameAlone z v w
      same alone = let numbers = refused.holds.numbers in let a = sees_whole z v alone (told_begun z call _ v n.dud.number n.dud.pinned n.dud.told) in
          let b = sees_whole z w (alone_later v w numbers alone) (_, moment_after z call (on_headers (unpin_header x.header)) n.dud.looked n.dud.undone.number w n.dud.undone.told) in
          record { begun = a; ended = b; same = seen_same z v w alone a numbers refused.learns.all.seen b refused.learns.all.mine }

-- ---- one behind others

-- the search for the view's life goes on, which began at u
pub record SearchesLife (z : Sizes) (call : ℕ) (u v : PassState) : Type 0 where
  pub meets : MeetsMore z call u v
  pub quiet : Quiet u v
  pub begun : (v ≡ u) ⊎ HadMoment z u
  pub waits : Waits u v

pub life_first : (z : Sizes) (call : ℕ) (v : PassState) → SearchesLife z call v v
life_first z call v = record { meets = meets_none z call v; quiet = only_none IsQuiet v v refl; begun = inl refl; waits = λ _. refl }

module _ (z : Sizes) (call : ℕ) (u v w : PassState) (s : SearchesLife z call u v) where
  pub begun_first : HadMoment z v → HadMoment z u
  begun_first m = ⊎_elim (λ (e : v ≡ u). subst (λ (y : PassState). HadMoment z y) e m) (λ (n : HadMoment z u). n) s.begun

  pub life_on : MeetsMore z call v w → Quiet v w → HadMoment z v → Runs Never v w → SearchesLife z call u w
  life_on m quiet begun never = record { meets = meets_both z call u v w s.meets m; quiet = only_both IsQuiet u v w s.quiet quiet; begun = inr (begun_first begun); waits = waits_again u v w s.waits never }

module _ (z : Sizes) (call : ℕ) (x : Viewed) (u v w : PassState) (s : SearchesLife z call u v) where
  pub life_pinned : PinsView z call x v w → PinsView z call x u w
  life_pinned p = record {
    tried = p.tried;
    tries = meets_both z call u v p.tried s.meets p.tries;
    pins = p.pins;
    quiet = only_both IsQuiet u v w s.quiet p.quiet;
    begun = begun_first z call u v w s p.begun;
    alone = runs_since (AddsPin z x.header x.generation) u v w s.waits p.alone;
  }

  pub life_over : FindsOver z call x v w → FindsOver z call x u w
  life_over f = record {
    tried = f.tried;
    tries = meets_both z call u v f.tried s.meets f.tries;
    not_read = f.not_read;
    gone = (
      f.gone.0,
      record {
        removal = f.gone.1.removal;
        over = subst (λ (y : PassState). FoundOverSince (home_of x.header x.generation) x.key y.findings w.findings) s.meets.after f.gone.1.over;
      },
    );
    holds = holds_both u v w (meets_refuses z call u v s.meets).holds f.holds;
    quiet = only_both IsQuiet u v w s.quiet f.quiet;
    same = lone_since (λ (y : PassState). SeesTheSame z y w) u v s.waits f.same;
    alone = runs_since (FindsReason z x Gone) u v w s.waits f.alone;
  }

-- the header was locked: the call looks at it once more, and to a pass that is alone it never was
pub locked_never : (z : Sizes) (call : ℕ) (x : Viewed) (v w : PassState) → HoldsNothing v → NotRead z call x Busy v w → Runs Never v w
locked_never z call x v w idle n = runs_as (LooksAlone z x.header (IsCause n.cause x.generation) v) Never v w
    (λ a b d. none_locked z a v (record { moment = d.moment; alone = d.alone; idle = idle }) x.header (locked_is n.cause (pin_in z x.header a) n.why_is d.says))
    (dud_alone z call x.header x.generation n.cause v w n.dud)
  where
    locked_is : (why : BadPin) (n : ℕ) → Busy ≡ why_of why → IsCause why x.generation n → state_of n ≡ LOCKED
    locked_is Locked n e c = c.1
    locked_is (Dead stamp) n e c = absurd cc
    locked_is Other n e c = absurd cc

-- the moment of such a look
pub locked_begun : (z : Sizes) (call : ℕ) (x : Viewed) (v w : PassState) → NotRead z call x Busy v w → HadMoment z v
locked_begun z call x v w n = told_begun z call _ v n.dud.number n.dud.pinned n.dud.told

-- the call made all of its tries
pub lives_tried : (z : Sizes) (call : ℕ) (x : Viewed) (n looks : ℕ) (u w : PassState) → 0 < looks → n ≤ looks → looks ≤ n → SearchesLife z call u w → (0 < n → HadMoment z u) → Tried (IsLocked z call x) call n u w → KnowsView z x w → GivesUpLife z call x looks u w
lives_tried z call x n looks u w some few done s begun t known = let g = tried_all (IsLocked z call x) call n looks u w some few done t in
    record { tries = g.tries; meets = s.meets; quiet = s.quiet; knows = known; begun = begun (omega arith); alone = g.alone }

-- ---- by what was found

pub some_map : {A : Type 0} (P Q : A → Type 0) (o : Option A) → ((x : A) → P x → Q x) → IfSome o P → IfSome o Q
some_map P Q None f p = tt
some_map P Q (Some x) f p = f x p

pub none_map : {A : Type 0} (P Q : Type 0) (o : Option A) → (P → Q) → IfNone o P → IfNone o Q
none_map P Q None f p = f p
none_map P Q (Some x) f p = tt
