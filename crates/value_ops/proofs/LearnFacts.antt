-- What a call on a header leaves of what its pass met, knows and holds but for its pin: the parts of one call together, and what each kind of part leaves.
use Rattle.std.proofs.Common.{◌≡◌, ℕ, ◌<◌, Bool, List, [], ◌∷◌, ◌++◌, map, sym, refl, ap, ◌∙◌, subst, append_assoc, append-nil, Option, Some, None}
use Rattle.oak_model.specs.Counts.{Each}
use Rattle.oak_model.specs.Limits.{Sizes}
use Rattle.oak_model.proofs.Lists.{begins_self, begins_trans, each_append, each_map}
use Rattle.header_core.specs.declared.holds.PinnedHeader.{PinnedHeader}
use Rattle.header_core.specs.Headers.{at_pin, at_stamp}
use Rattle.header_core.specs.HeaderStep.{pin_header}
use Rattle.oak_core.specs.declared.states.Finding.{Finding}
use Rattle.oak_core.specs.declared.states.KeyedWrite.{KeyedWrite}
use Rattle.oak_core.specs.declared.states.Knowledge.{Knowledge}
use Rattle.oak_core.specs.declared.states.PassState.{PassState}
use Rattle.oak_core.specs.declared.states.Taught.{Taught}
use Rattle.oak_core.specs.CallSteps.{Learns}
use Rattle.oak_core.specs.Finding.{IsOf}
use Rattle.oak_core.specs.HeaderCalls.{Pins}
use Rattle.oak_core.specs.Learning.{taught_where}
use Rattle.oak_core.specs.LifeKeys.{first_of, key_in_loaded, key_in_log, key_in_logs}
use Rattle.oak_core.specs.Memory.{Spot, IsInside, in_headers, index}
use Rattle.oak_core.specs.PassState.{knowledge_of}
use Rattle.oak_core.specs.Splitting.{Loads}
use Rattle.oak_core.specs.Step.{Step, load, on_headers, Told}
use Rattle.oak_core.proofs.calls.CallSteps.{learns_both, learns_none, stands_learns}
use Rattle.oak_core.proofs.told.PinTold.{pin_knows, pin_learns}
use Rattle.oak_core.proofs.kinds.StampSteps.{stamp_knows, stamp_learns}
use Rattle.oak_core.proofs.lessons.TaughtSteps.{heard_more, loaded_same, over_later, removal_stays, seen_more}
use Rattle.oak_core.proofs.memory.Words.{header_before, index_apart}
use Rattle.value_ops.specs.Pinning.{with_pin, FindsGone, KnowsLife, KnowsMore, MeetsMore, OnlyLearns}

-- as OnlyLearns, but for what the pass has of headers
pub record Learned (z : Sizes) (call : ℕ) (v w : PassState) : Type 0 where
  pub more : List Finding
  pub calls : Each (IsOf z call) more
  pub met : w.findings.met ≡ v.findings.met ++ more
  pub learns : Learns call v w
  pub knows : KnowsMore v.knowledge w.knowledge
  pub blocks : w.blocks ≡ v.blocks
  pub rooms : w.rooms ≡ v.rooms

pub knows_same : (p q : Knowledge) → q ≡ p → KnowsMore p q
knows_same p q e = subst (KnowsMore p) (sym e) record { loaded = refl; seen = begins_self p.seen; heard = begins_self p.heard }

pub knows_both : (p q r : Knowledge) → KnowsMore p q → KnowsMore q r → KnowsMore p r
knows_both p q r a b = record { loaded = b.loaded ∙ a.loaded; seen = begins_trans p.seen q.seen r.seen a.seen b.seen; heard = begins_trans p.heard q.heard r.heard a.heard b.heard }

pub learned_none : (z : Sizes) (call : ℕ) (v : PassState) → Learned z call v v
learned_none z call v = record { more = []; calls = tt; met = sym (append-nil v.findings.met); learns = learns_none call v; knows = knows_same v.knowledge v.knowledge refl; blocks = refl; rooms = refl }

pub learned_both : (z : Sizes) (call : ℕ) (u v w : PassState) → Learned z call u v → Learned z call v w → Learned z call u w
learned_both z call u v w a b = record {
  more = a.more ++ b.more;
  calls = each_append (IsOf z call) a.more b.more a.calls b.calls;
  met = b.met ∙ (ap (λ (l : List Finding). l ++ b.more) a.met ∙ append_assoc u.findings.met a.more b.more);
  learns = learns_both call u v w a.learns b.learns;
  knows = knows_both u.knowledge v.knowledge w.knowledge a.knows b.knows;
  blocks = b.blocks ∙ a.blocks;
  rooms = b.rooms ∙ a.rooms;
}

pub learned_only : (z : Sizes) (call : ℕ) (v w : PassState) → OnlyLearns z call v w → Learned z call v w
learned_only z call v w o = record { more = o.more; calls = o.calls; met = o.met; learns = o.learns; knows = o.knows; blocks = o.blocks; rooms = o.rooms }

pub only_learned : (z : Sizes) (call : ℕ) (v w : PassState) → Learned z call v w → w.headers ≡ v.headers → OnlyLearns z call v w
only_learned z call v w l headers = record { more = l.more; calls = l.calls; met = l.met; learns = l.learns; knows = l.knows; blocks = l.blocks; headers = headers; rooms = l.rooms }

-- a part by which the pass only met more, and came to have a pin or none
pub learned_met : (z : Sizes) (call : ℕ) (v w : PassState) (o : Option PinnedHeader) → MeetsMore z call (with_pin o v) w → Learned z call v w
learned_met z call v w o m = record {
  more = m.more;
  calls = m.calls;
  met = ap (λ (x : PassState). x.findings.met) m.after;
  learns = stands_learns call v w record {
    met = record { more = m.more; met = ap (λ (x : PassState). x.findings.met) m.after; calls = each_map (IsOf z call) (λ (f : Finding). f.call ≡ call) m.more (λ f i. i.0) m.calls };
    numbers = ap (λ (x : PassState). x.numbers) m.after;
    knowledge = ap (λ (x : PassState). x.knowledge) m.after;
    fulls = ap (λ (x : PassState). x.findings.fulls) m.after;
    rebalances = ap (λ (x : PassState). x.findings.rebalances) m.after;
    swept = ap (λ (x : PassState). x.findings.swept) m.after;
    sights = ap (λ (x : PassState). x.findings.sights) m.after;
    gones = ap (λ (x : PassState). x.findings.gones) m.after;
  };
  knows = knows_same v.knowledge w.knowledge (ap (λ (x : PassState). x.knowledge) m.after);
  blocks = ap (λ (x : PassState). x.blocks) m.after;
  rooms = ap (λ (x : PassState). x.rooms) m.after;
}

-- a step that may teach

pub knows_taught : (z : Sizes) (call : ℕ) (x : Step) (v : PassState) (n : ℕ) (w : PassState) (t : Told z call x v n w) (b : Bool) (y : Taught) → w.knowledge ≡ taught_where b y (map knowledge_of t.table.states) v.knowledge → KnowsMore v.knowledge w.knowledge
knows_taught z call x v n w t b y e = record { loaded = loaded_same z call x v n w t b y e; seen = seen_more z call x v n w t b y e; heard = heard_more z call x v n w t b y e }

-- the one that pins a header
pub learned_pin : (z : Sizes) (call h g n : ℕ) (v w : PassState) → Pins z call h g v n w → Learned z call v w
learned_pin z call h g n v w t = record {
  more = _ ∷ [];
  calls = ((refl, header_before z (at_pin h) t.may.0.inside, refl), tt);
  met = ap (λ (x : PassState). x.findings.met) t.after;
  learns = pin_learns z call h g v n w t;
  knows = knows_taught z call (on_headers (pin_header h g)) v n w t _ _ (pin_knows z call h g v n w t);
  blocks = ap (λ (y : PassState). y.blocks) t.after;
  rooms = ap (λ (y : PassState). y.rooms) t.after;
}

-- the load of the stamp word of a header
stamp_told : (z : Sizes) (call h n : ℕ) (v w : PassState) → h < z.headers → Told z call (load (in_headers (at_stamp h))) v n w → Learned z call v w
stamp_told z call h n v w inside t = record {
  more = _ ∷ [];
  calls = ((refl, header_before z (at_stamp h) inside, refl), tt);
  met = ap (λ (x : PassState). x.findings.met) t.after;
  learns = stamp_learns z call h v n w t;
  knows = knows_taught z call (load (in_headers (at_stamp h))) v n w t _ _ (stamp_knows z call h v n w t);
  blocks = ap (λ (y : PassState). y.blocks) t.after;
  rooms = ap (λ (y : PassState). y.rooms) t.after;
}

-- a load, of the word that the number names
pub told_at : (z : Sizes) (call word n : ℕ) (v w : PassState) (q : Spot) → IsInside z q → word ≡ index z q → Loads z call word v n w → Told z call (load q) v n w
told_at z call word n v w q inside is l = subst (λ (p : Spot). Told z call (load p) v n w) (index_apart z l.spot q l.inside inside (l.at ∙ is)) l.told

pub learned_stamp : (z : Sizes) (call word h n : ℕ) (v w : PassState) → h < z.headers → word ≡ index z (in_headers (at_stamp h)) → Loads z call word v n w → Learned z call v w
learned_stamp z call word h n v w inside is l = stamp_told z call h n v w inside (told_at z call word n v w (in_headers (at_stamp h)) inside is l)

-- a load leaves what the pass has of headers
pub headers_loaded : (z : Sizes) (call word n : ℕ) (v w : PassState) → Loads z call word v n w → w.headers ≡ v.headers
headers_loaded z call word n v w l = ap (λ (x : PassState). x.headers) l.told.after

-- what was found gone stays so
pub gone_later : (z : Sizes) (call h g : ℕ) (key : List ℕ) (stamp : ℕ) (u v w : PassState) → Learned z call v w → FindsGone h g key stamp u v → FindsGone h g key stamp u w
gone_later z call h g key stamp u v w l f = record {
  removal = removal_stays _ _ stamp v.knowledge w.knowledge l.knows.heard f.removal;
  over = over_later _ key u.findings v.findings w.findings l.learns.all.gones f.over;
}

-- the life of a key that the pass knows it knows still
pub life_stays : (h g : ℕ) (key : List ℕ) (q q' : Knowledge) → KnowsMore q q' → KnowsLife h g key q → KnowsLife h g key q'
unfolding key_in_logs
life_stays h g key q q' m knows = (λ i. first_of (key_in_loaded h g (m.loaded i)) (key_in_logs h g (m.seen.1 i))) ∙ (ap (first_of (key_in_loaded h g q.loaded)) (in_both q.seen m.seen.0) ∙ first_still (key_in_loaded h g q.loaded) (key_in_logs h g q.seen) (key_in_logs h g m.seen.0) knows)
  where
    first_both : (a b c : Option (List ℕ)) → first_of (first_of a b) c ≡ first_of a (first_of b c)
    first_both None b c = refl
    first_both (Some x) b c = refl

    in_both : (a b : List (List KeyedWrite)) → key_in_logs h g (a ++ b) ≡ first_of (key_in_logs h g a) (key_in_logs h g b)
    in_both [] b = refl
    in_both (l ∷ ls) b = ap (first_of (key_in_log h g l)) (in_both ls b) ∙ sym (first_both (key_in_log h g l) (key_in_logs h g ls) (key_in_logs h g b))

    first_still : (a b c : Option (List ℕ)) → first_of a b ≡ Some key → first_of a (first_of b c) ≡ Some key
    first_still None None c e = absurd cc
    first_still None (Some x) c e = e
    first_still (Some x) b c e = e
