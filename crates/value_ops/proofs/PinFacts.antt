-- What the step that pins a header leaves, and what undoing the pin does.
use Rattle.std.proofs.Common.{◌≡◌, ◌≢◌, ◌⊎◌, ℕ, ◌+◌, ◌-◌, ◌%◌, ◌^◌, ◌<◌, ◌≤◌, true, false, List, [], ◌∷◌, ◌++◌, map, arith, sym, refl, ap, ◌∙◌, subst, inr, ⊎_elim, Option, Some, None, get_or, get_or-set_other}
use Rattle.pin_word.specs.PinWord.{generation_of, state_of, count_of}
use Rattle.oak_model.specs.Counts.{Each}
use Rattle.oak_model.specs.KeyNumber.{key_number}
use Rattle.oak_model.specs.Limits.{Sizes}
use Rattle.oak_model.proofs.Counting.{one_at-same, total_at}
use Rattle.oak_model.proofs.Lists.{at_map, each_append, each_map}
use Rattle.header_core.specs.declared.states.TheConstants.{LIVE, LOCKED, DEAD, RETIRED}
use Rattle.header_core.specs.declared.holds.HeaderHolds.{HeaderHolds}
use Rattle.header_core.specs.declared.holds.PinnedHeader.{PinnedHeader}
use Rattle.header_core.specs.Headers.{at_pin, at_stamp}
use Rattle.header_core.specs.HeaderHolds.{pins_of, pins_on}
use Rattle.header_core.specs.HeaderRule.{DeadPinHolds}
use Rattle.header_core.specs.HeaderStep.{pin_header, unpin_header, header_effect}
use Rattle.oak_core.specs.declared.states.Finding.{Finding}
use Rattle.oak_core.specs.declared.states.PassState.{PassState}
use Rattle.oak_core.specs.AloneWords.{Runs}
use Rattle.oak_core.specs.Finding.{finding, grown, IsOf, IsLoadOf}
use Rattle.oak_core.specs.HeaderCalls.{Pins, Unpins}
use Rattle.oak_core.specs.HeaderTeaching.{finds_over, is_over}
use Rattle.oak_core.specs.Loading.{IsPlain}
use Rattle.oak_core.specs.Memory.{Memory, Spot, IsInside, in_headers, index, rooms_at, memory}
use Rattle.oak_core.specs.PassState.{headers_held}
use Rattle.oak_core.specs.QuietSteps.{IsQuiet, Quiet}
use Rattle.oak_core.specs.Splitting.{Loads}
use Rattle.oak_core.specs.Step.{load, on_headers, found, MayOnHeaders, Told}
use Rattle.oak_core.proofs.owners.HeadersInArena.{pin_fact}
use Rattle.oak_core.proofs.calls.MetMore.{grown_twice, grown_none}
use Rattle.oak_core.proofs.seats.AloneRuns.{Then, runs_then, runs_as, runs_none}
use Rattle.oak_core.proofs.told.PinTold.{dead_over, dead_stamp, none_over, other_over, over_found, over_removal, over_stamp, pin_quiet}
use Rattle.oak_core.proofs.calls.QuietCalls.{only_both, only_none, quiet_load, quiet_pin_header, quiet_unpin_header}
use Rattle.oak_core.proofs.memory.Words.{index_apart, memory_read, header_before}
use Rattle.value_ops.specs.declared.pinning.BadPin.{BadPin}
use Rattle.value_ops.specs.declared.pinning.BadPin.TheVariants.{Locked, Dead, Other}
use Rattle.value_ops.specs.AloneLocks.{FindsWord}
use Rattle.value_ops.specs.Claiming.{pin_spot, ChangesPin}
use Rattle.value_ops.specs.Pinning.{pin_of, with_pin, MeetsMore, IsLiveAt, DropsPin, PinsLive, IsCause, LooksUnder, PinsHeader, EndsPin, IsStampOf, FindsDud, FindsGone, KnowsLife, LearnsCause, PinsDud}
use Rattle.value_ops.specs.PinnedValues.{OnlyLoads}
use Rattle.value_ops.proofs.KnownStates.{IsInUse, known_state}
use Rattle.value_ops.proofs.AlonePins.{load_finds, load_stays, none_stays, both_stay, pin_changes, undone}
use Rattle.value_ops.proofs.LearnFacts.{Learned, gone_later, headers_loaded, learned_both, learned_met, learned_none, learned_pin, learned_stamp, life_stays, only_learned, told_at}
use Rattle.value_ops.proofs.StepLeft.{pin_found, small}
use Rattle.oak_core.proofs.told.PlainLoads.{met_at}
use Rattle.oak_core.specs.declared.states.Sight.{Sight}
use Rattle.oak_core.specs.LifeKeys.{loaded_in}
use Rattle.oak_core.specs.Sights.{SightedSince}
use Rattle.oak_core.proofs.known.LoadedIn.{loaded_now}
use Rattle.oak_core.proofs.told.StampTold.{stamp_sighted}
use Rattle.oak_core.proofs.lessons.TaughtSteps.{sighted_later}

-- a pass may undo its pin
pub may_unpin : (z : Sizes) (h : ℕ) (v : PassState) → PinsHeader z h v → MayOnHeaders z (unpin_header h) v
may_unpin z h v p = record { inside = p.inside; headers = ap (pins_of h) p.is ∙ one_at-same p.pin.header h p.header_is; block = tt; known = tt }

-- loads, one behind the other

pub loads_at : (z : Sizes) (call word n : ℕ) (v w : PassState) (q : Spot) → IsInside z q → IsPlain q → word ≡ index z q → index z q < rooms_at z → Loads z call word v n w → OnlyLoads z call v w
loads_at z call word n v w q inside plain is front l = record {
  loads = record { more = _ ∷ []; loads = ((refl, subst (λ (i : ℕ). i < rooms_at z) (sym (l.at ∙ is)) front, refl, refl), tt); after = met_at z call word n v w q inside plain is l };
  still = load_stays z call word n v w l;
}

pub loads_none : (z : Sizes) (call : ℕ) (v : PassState) → OnlyLoads z call v v
loads_none z call v = record { loads = record { more = []; loads = tt; after = grown_none v }; still = none_stays v }

pub loads_both : (z : Sizes) (call : ℕ) (u v w : PassState) → OnlyLoads z call u v → OnlyLoads z call v w → OnlyLoads z call u w
loads_both z call u v w a b = record {
  loads = record {
    more = a.loads.more ++ b.loads.more;
    loads = each_append (IsLoadOf z call) a.loads.more b.loads.more a.loads.loads b.loads.loads;
    after = b.loads.after ∙ (ap (grown b.loads.more) a.loads.after ∙ grown_twice u a.loads.more b.loads.more);
  };
  still = both_stay u v w a.still b.still;
}

pub loads_in : (z : Sizes) (first now : ℕ) (v w : PassState) → now ≡ first → OnlyLoads z now v w → OnlyLoads z first v w
loads_in z first now v w e l = subst (λ (k : ℕ). OnlyLoads z k v w) e l

pub loads_meet : (z : Sizes) (call : ℕ) (v w : PassState) → OnlyLoads z call v w → MeetsMore z call v w
loads_meet z call v w l = record { more = l.loads.more; calls = each_map (IsLoadOf z call) (IsOf z call) l.loads.more (λ f k. (k.0, k.1, k.3)) l.loads.loads; after = l.loads.after }

pub pin_stays : (v w : PassState) (more : List Finding) → w ≡ grown more v → w.headers.pin ≡ v.headers.pin
pin_stays v w more after = ap (λ (x : PassState). x.headers.pin) after

pub unpinned_is : (v : PassState) → v.headers.pin ≡ None → with_pin None v ≡ v
unpinned_is v e = ap (λ (o : Option PinnedHeader). with_pin o v) (sym e)

-- a pass that had no pin, pinned, met more and undid the pin only met more
pub meets_round : (z : Sizes) (call : ℕ) (v w x u : PassState) (o : Option PinnedHeader) (first : List Finding) → v.headers.pin ≡ None → Each (IsOf z call) first → w ≡ with_pin o (grown first v) → MeetsMore z call w x → MeetsMore z call (with_pin None x) u → MeetsMore z call v u
meets_round z call v w x u o first none of_call is a b = record {
  more = first ++ (a.more ++ b.more);
  calls = each_append (IsOf z call) first (a.more ++ b.more) of_call (each_append (IsOf z call) a.more b.more a.calls b.calls);
  after = b.after ∙ (ap (λ (y : PassState). grown b.more (with_pin None y)) (a.after ∙ ap (grown a.more) is)
      ∙ (grown_twice (grown first (with_pin None v)) a.more b.more ∙ (grown_twice (with_pin None v) first (a.more ++ b.more) ∙ ap (grown (first ++ (a.more ++ b.more))) (unpinned_is v none))));
}

-- one pin more, and one less, as the steps reckon them

more_fits : (n : ℕ) → n < 2 ^ 64 → state_of n ≤ RETIRED → (n + 1) % 2 ^ 64 ≡ n + 1
unfolding state_of
more_fits n lt low = omega arith

less_is : (n : ℕ) → n < 2 ^ 64 → 0 < count_of n → (n + (2 ^ 64 - 1)) % 2 ^ 64 ≡ n - 1
unfolding count_of
less_is n lt some_of = omega arith

module _ (z : Sizes) (call h n : ℕ) (v w : PassState) (t : Unpins z call h v n w) where
  counts : 0 < count_of n
  counts = let a = total_at (pins_on h) (map headers_held t.table.states) t.seat v.headers (at_map headers_held t.table.states t.seat v t.here) in let c = t.rule.headers.counted h in
      let one = t.may.0.headers in let e : count_of ((memory z t.table.words).headers.pin h) ≡ count_of n = ap count_of (pin_found z call (unpin_header h) h refl v n w t) in omega arith

  pub pin_ends : EndsPin z call h v w
  pin_ends = record {
    number = n;
    told = t;
    meets = record { more = _ ∷ []; calls = ((refl, header_before z (at_pin h) t.may.0.inside, refl), tt); after = t.after };
    still = pin_changes z call (unpin_header h) h refl v n w t (λ k. 0 < count_of k) (λ k. k - 1) counts (less_is n (small z call (unpin_header h) h refl v n w t) counts);
    quiet = quiet_unpin_header z call h v n w t;
  }

module _ (z : Sizes) (call h g n : ℕ) (v w : PassState) (t : Pins z call h g v n w) where
  abbrev m : Memory
  m = memory z t.table.words

  abbrev pin : PinnedHeader
  pin = pin_of m h g

  word_is : m.headers.pin h ≡ n
  word_is = memory_read z t.table.words (in_headers (at_pin h)) t.may.0.inside ∙ t.finds

  abbrev met_pin : Finding
  met_pin = finding z call (pin_spot h) (Some (found z (on_headers (pin_header h g)) t.table)) (header_effect (pin_header h g) (found z (on_headers (pin_header h g)) t.table)) t.table.words v

  of_call : Each (IsOf z call) (met_pin ∷ [])
  of_call = ((refl, header_before z (at_pin h) t.may.0.inside, refl), tt)

  -- where it finds no life over
  pinned_is : finds_over h g n v.knowledge ≡ false → w ≡ with_pin (Some pin) (grown (met_pin ∷ []) v)
  pinned_is none = pin_quiet z call h g v n w t none

  -- what the step did to the word, of which P holds
  changes : (P : ℕ → Type 0) → P n → Runs (ChangesPin z h P (λ k. k + 1)) v w
  changes P p = pin_changes z call (pin_header h g) h refl v n w t P (λ k. k + 1) p (more_fits n (small z call (pin_header h g) h refl v n w t) (subst (λ (k : ℕ). state_of k ≤ RETIRED) word_is (t.rule.headers.six h)))

  pub pin_now : w.headers.pin ≡ Some pin
  pin_now = ap (λ (x : PassState). x.headers.pin) t.after

  pub pinned_live : generation_of n ≡ g → state_of n ≡ LIVE → PinsLive z call h g v w
  pinned_live e live = record {
    number = n;
    told = t;
    live = live;
    generation = e;
    quiet = quiet_pin_header z call h g v n w t;
    still = changes (IsLiveAt g) (e, live);
    more = met_pin ∷ [];
    calls = of_call;
    after = pinned_is (none_over h g n v.knowledge e (λ d. absurd (omega arith)));
    pin = record {
      inside = t.may.0.inside;
      is = pin_now;
      header_is = refl;
      wanted_is = refl;
      good = record { live = ap state_of word_is ∙ live; wanted = ap generation_of word_is ∙ e };
    };
  }

  -- a header that is known at the generation is live, locked or dead
  in_use : generation_of n ≡ g → IsInUse (state_of n)
  in_use e = subst (λ (k : ℕ). IsInUse (state_of k)) word_is (known_state z t.table t.rule t.seat v t.here h g (ap generation_of word_is ∙ e) t.may.0.known)

  -- under a pin that found the header dead, the stamp word has the number that the pin recorded
  pub stamp_stays : state_of n ≡ DEAD → (later word stamp : ℕ) (x : PassState) → word ≡ index z (in_headers (at_stamp h)) → Loads z later word w stamp x → stamp ≡ m.headers.stamp h
  stamp_stays dead later word stamp x at l = let s = l.told.table in
      let same = index_apart z l.spot (in_headers (at_stamp h)) l.inside t.may.0.inside (l.at ∙ at) in
      let stands = pin_fact (DeadPinHolds (memory z s.words).headers) w.headers.pin pin pin_now (l.told.rule.headers.dead l.told.seat w.headers (at_map headers_held s.states l.told.seat w l.told.here)) (ap state_of word_is ∙ dead) in
      sym (memory_read z s.words (in_headers (at_stamp h)) t.may.0.inside ∙ (ap (λ (p : Spot). get_or s.words (index z p) 0) (sym same) ∙ l.told.finds)) ∙ stands.stamp

  -- what was found between the pin and the unpin, in words that stay
  abbrev pub Between : BadPin → List ℕ → List ℕ → Type 0
  Between why a b = (b ≡ a) × IsStampOf why ((memory z a).headers.stamp h)

  -- the pin changed the pin word alone
  stamp_in : (P : ℕ → Type 0) (a b : List ℕ) → ChangesPin z h P (λ k. k + 1) a b → (memory z b).headers.stamp h ≡ (memory z a).headers.stamp h
  stamp_in P a b d = memory_read z b (in_headers (at_stamp h)) t.may.0.inside
      ∙ (ap (λ (ws : List ℕ). get_or ws (index z (in_headers (at_stamp h))) 0) d.1
      ∙ (get_or-set_other a (index z (pin_spot h)) (index z (in_headers (at_stamp h))) ((memory z a).headers.pin h + 1) 0 (λ e. stamp_apart (index_apart z (in_headers (at_stamp h)) (pin_spot h) t.may.0.inside t.may.0.inside e))
      ∙ sym (memory_read z a (in_headers (at_stamp h)) t.may.0.inside)))
    where
      stamp_apart : in_headers (at_stamp h) ≡ pin_spot h → ⊥
      stamp_apart e = cc

  dud_runs : (why : BadPin) (x u : PassState) → IsCause why g n → Runs (Between why) w x → Runs (DropsPin z h) x u → Runs (FindsDud z h g why) v u
  dud_runs why x u cause between drops = let Up = ChangesPin z h (IsCause why g) (λ k. k + 1) in
      runs_as (Then Up (Then (Between why) (DropsPin z h))) (FindsDud z h g why) v u
      (λ a b d. let up = d.1 in let mid = d.2.1 in let down = d.2.2 in
      (undone z h t.may.0.inside a d.0 b (IsCause why g) (λ k. 0 < count_of k) up (subst (λ (ws : List ℕ). DropsPin z h ws b) mid.0 down), up.0, subst (IsStampOf why) (stamp_in (IsCause why g) a d.0 up) mid.1))
      (runs_then Up (Then (Between why) (DropsPin z h)) v w u (changes (IsCause why g) cause) (runs_then (Between why) (DropsPin z h) w x u between drops))

  headers_pinned : w.headers ≡ record v.headers { pin = Some pin }
  headers_pinned = ap (λ (y : PassState). y.headers) t.after

  -- the pin is undone
  pub pinned_dud : (why : BadPin) (x u : PassState) → v.headers.pin ≡ None → IsCause why g n → LooksUnder z call h why m w x → Learned z call w x → x.headers ≡ w.headers → Quiet w x → Runs (Between why) w x → EndsPin z call h x u → LearnsCause z call h g why v u → PinsDud z call h g why v u
  pinned_dud why x u none cause looks learned headers quiet between undo tells = record {
    number = n;
    pinned = w;
    told = t;
    cause = cause;
    looked = x;
    looks = looks;
    undone = undo;
    only = only_learned z call v u (learned_both z call v w u (learned_pin z call h g n v w t) (learned_both z call w x u learned (learned_met z call x u None undo.meets)))
        (ap (λ (y : PassState). y.headers) undo.meets.after ∙ (ap (λ (a : HeaderHolds). record a { pin = None }) (headers ∙ headers_pinned) ∙ ap (λ (y : PassState). y.headers) (unpinned_is v none)));
    learned = tells;
    quiet = only_both IsQuiet v w u (quiet_pin_header z call h g v n w t) (only_both IsQuiet w x u quiet undo.quiet);
    still = dud_runs why x u cause between undo.still;
  }

  -- what the pin tells of a life that is over and whose key the pass knew, at the end of the call
  gone_at : (key : List ℕ) (knows : KnowsLife h g key v.knowledge) (over : is_over g n ≡ true) (u : PassState) → Learned z call w u → FindsGone h g key (over_stamp z call h g v n w t key knows over) v u
  gone_at key knows over u later = gone_later z call h g key (over_stamp z call h g v n w t key knows over) v w u later
      record { removal = over_removal z call h g v n w t key knows over; over = over_found z call h g v n w t key knows over }

  pub pins_now : PinsHeader z h w
  pins_now = record { inside = t.may.0.inside; pin = pin; is = pin_now; header_is = refl }

  -- the pin that stands after a load
  pub pins_later : (later word k : ℕ) (x : PassState) → Loads z later word w k x → PinsHeader z h x
  pins_later later word k x l = record { inside = t.may.0.inside; pin = pin; is = ap (λ (a : HeaderHolds). a.pin) (headers_loaded z later word k w x l) ∙ pin_now; header_is = refl }

  pub dead_left : generation_of n ≡ g → state_of n ≢ LIVE → state_of n ≢ LOCKED → state_of n ≡ DEAD
  dead_left e one two = ⊎_elim (λ (l : state_of n ≡ LIVE). absurd (one l)) (λ (t : (state_of n ≡ LOCKED) ⊎ (state_of n ≡ DEAD)). ⊎_elim (λ (l : state_of n ≡ LOCKED). absurd (two l)) (λ (d : state_of n ≡ DEAD). d) t) (in_use e)

  -- the refusals, whose later steps are of the same call

  module _ (none : v.headers.pin ≡ None) (later : ℕ) where
    at_once : (why : BadPin) (u : PassState) → IsCause why g n → LooksUnder z call h why m w w → ((k : ℕ) → IsStampOf why k) → EndsPin z call h w u → LearnsCause z call h g why v u → PinsDud z call h g why v u
    at_once why u cause looks any undo tells = pinned_dud why w u none cause looks (learned_none z call w) refl (only_none IsQuiet w w refl) (runs_none (Between why) w (λ a. (refl, any ((memory z a).headers.stamp h)))) undo tells

    undone_here : (x u : PassState) → later ≡ call → EndsPin z later h x u → EndsPin z call h x u
    undone_here x u e undo = subst (λ (i : ℕ). EndsPin z i h x u) e undo

    pub locked_dud : (u : PassState) → later ≡ call → generation_of n ≡ g → state_of n ≡ LOCKED → EndsPin z later h w u → PinsDud z call h g Locked v u
    locked_dud u e same locked undo = let here = undone_here w u e undo in at_once Locked u (same, locked) refl (λ k. tt) here
        (meets_round z call v w w u (Some pin) (met_pin ∷ []) none of_call (pinned_is (none_over h g n v.knowledge same (λ d. absurd (omega arith)))) (loads_meet z call w w (loads_none z call w)) here.meets)

    pub other_dud : (u : PassState) → later ≡ call → generation_of n ≢ g → EndsPin z later h w u → PinsDud z call h g Other v u
    other_dud u e ne undo = let here = undone_here w u e undo in at_once Other u ne refl (λ k. tt) here
        (λ key knows. (over_stamp z call h g v n w t key knows (other_over g n ne), gone_at key knows (other_over g n ne) u (learned_met z call w u None here.meets)))

    pub dead_dud : (last word stamp : ℕ) (x u : PassState) → later ≡ call → last ≡ call → generation_of n ≡ g → state_of n ≡ DEAD → word ≡ index z (in_headers (at_stamp h)) → Loads z later word w stamp x → EndsPin z last h x u → PinsDud z call h g (Dead stamp) v u
    dead_dud last word stamp x u e f same dead at l undo = pinned_dud (Dead stamp) x u none (same, dead)
        (subst (λ (i : ℕ × ℕ). Loads z i.0 i.1 w stamp x) (λ i. (e i, at i)) l, stays) looked (headers_loaded z later word stamp w x l) (quiet_load z call (in_headers (at_stamp h)) w stamp x told)
        (runs_as (FindsWord z (in_headers (at_stamp h)) stamp) (Between (Dead stamp)) w x (λ a b d. (d.1, d.0)) (load_finds z later word stamp w x (in_headers (at_stamp h)) t.may.0.inside at l))
        here (λ key knows. record {
          gone = subst (λ (k : ℕ). FindsGone h g key k v u) (dead_stamp z call h g v n w t key knows (dead_over g n same dead) dead same ∙ sym stays)
              (gone_at key knows (dead_over g n same dead) u (learned_both z call w x u looked (learned_met z call x u None here.meets)));
          sighted = λ named. sighted_later (key_number key) stamp v.findings x.findings u.findings ((learned_met z call x u None here.meets).learns.sights.more, (learned_met z call x u None here.meets).learns.sights.sights)
              (sighted_here key knows named);
        })
      where
        stays : stamp ≡ m.headers.stamp h
        stays = stamp_stays dead later word stamp x at l

        told : Told z call (load (in_headers (at_stamp h))) w stamp x
        told = told_at z call word stamp w x (in_headers (at_stamp h)) t.may.0.inside at (subst (λ (i : ℕ). Loads z i word w stamp x) e l)

        -- the load of the stamp found it for the key, whose life the call had loaded
        sighted_here : (key : List ℕ) → KnowsLife h g key v.knowledge → loaded_in call h g v.knowledge.loaded ≡ true → SightedSince (key_number key) stamp v.findings x.findings
        sighted_here key knows named = let first = learned_pin z call h g n v w t in
            let s = stamp_sighted z call w stamp x pin pin_now (ap generation_of word_is ∙ same) (inr (ap state_of word_is ∙ dead)) key (life_stays h g key v.knowledge w.knowledge first.knows knows)
            (loaded_now call pin w.knowledge (ap (loaded_in call h g) first.knows.loaded ∙ named)) told in
            (s.0, s.1 ∙ ap (λ (ss : List Sight). ss ++ s.0) (ap (λ (y : PassState). y.findings.sights) t.after), s.2)

        looked : Learned z call w x
        looked = learned_stamp z call word h stamp w x t.may.0.inside at (subst (λ (i : ℕ). Loads z i word w stamp x) e l)

        here : EndsPin z call h x u
        here = subst (λ (i : ℕ). EndsPin z i h x u) f undo
