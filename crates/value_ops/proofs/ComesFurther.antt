-- What a pass holds after one call and another, and a header that it has locked or buries all the while.
use Rattle.std.proofs.Common.{◌≡◌, ℕ, ◌<◌, List, [], ◌∷◌, ◌++◌, map, sym, refl, ap, ◌∙◌, subst}
use Rattle.oak_model.specs.declared.classes.Class.{Class}
use Rattle.oak_model.specs.Limits.{Sizes}
use Rattle.oak_model.proofs.Lists.{each_append, each_map}
use Rattle.arena_core.specs.declared.blocks.HeldBlock.{HeldBlock}
use Rattle.arena_core.specs.Place.{class_in, block_in, class_from}
use Rattle.header_core.specs.declared.states.TheConstants.{LOCKED}
use Rattle.header_core.specs.declared.holds.HeldHeader.{HeldHeader}
use Rattle.header_core.specs.Headers.{at_place, at_stamp}
use Rattle.header_core.specs.HeaderHolds.{in_state, place_held, generation_held}
use Rattle.header_core.proofs.HeldHeaders.{rows_in}
use Rattle.oak_core.specs.declared.states.Finding.{Finding}
use Rattle.oak_core.specs.declared.states.Knowledge.{Knowledge}
use Rattle.oak_core.specs.declared.states.PassState.{PassState}
use Rattle.oak_core.specs.Loading.{IsPlain}
use Rattle.oak_core.specs.Finding.{grown, noted, IsOf, IsLoadOf, LoadsMore}
use Rattle.oak_core.specs.Memory.{Spot, in_headers, index, IsInside, rooms_at}
use Rattle.oak_core.specs.Splitting.{Loads}
use Rattle.value_ops.specs.UnderLock.{HasLock, HoldsLock, HasBuried, ComesTo, EndsTo}
use Rattle.oak_core.proofs.memory.Words.{header_before}
use Rattle.oak_core.proofs.calls.MetMore.{grown_twice, grown_none}
use Rattle.oak_core.proofs.told.PlainLoads.{met_at}
use Rattle.value_ops.proofs.LockRows.{lock_row_mapped}
use Rattle.value_ops.proofs.LockedLoads.{met_locked}
use Rattle.oak_core.specs.CallSteps.{Learns}
use Rattle.oak_core.proofs.calls.CallSteps.{stands_learns}

-- what a state comes to

abbrev pub holding : List HeldBlock → List HeldHeader → PassState → PassState
holding bs hs v = record v { blocks = record v.blocks { held = bs }; headers = record v.headers { held = hs } }

pub loads_none : (z : Sizes) (call : ℕ) (v : PassState) → LoadsMore z call v v
loads_none z call v = record { more = []; loads = tt; after = grown_none v }

-- a word in front of those of the rooms, whose load teaches nothing
pub loads_at : (z : Sizes) (call word n : ℕ) (v w : PassState) (q : Spot) → IsInside z q → IsPlain q → index z q < rooms_at z → word ≡ index z q → Loads z call word v n w → LoadsMore z call v w
loads_at z call word n v w q inside plain front at l = record { more = _ ∷ []; loads = ((refl, subst (λ (i : ℕ). i < rooms_at z) (sym (l.at ∙ at)) front, refl, refl), tt); after = met_at z call word n v w q inside plain at l }

-- a place word was loaded
pub place_loaded : (z : Sizes) (call word n : ℕ) (v w : PassState) (h : ℕ) → h < z.headers → word ≡ index z (in_headers (at_place h)) → Loads z call word v n w → LoadsMore z call v w
place_loaded z call word n v w h inside at l = loads_at z call word n v w (in_headers (at_place h)) inside tt (header_before z (at_place h) inside) at l

-- so was the stamp word of a header that the pass has locked
pub stamp_loaded : (z : Sizes) (call word n : ℕ) (v w : PassState) (h : ℕ) → h < z.headers → word ≡ index z (in_headers (at_stamp h)) → 0 < in_state h LOCKED v.headers → Loads z call word v n w → LoadsMore z call v w
stamp_loaded z call word n v w h inside at locked l = record { more = _ ∷ []; loads = ((refl, subst (λ (i : ℕ). i < rooms_at z) (sym (l.at ∙ at)) (header_before z (at_stamp h) inside), refl, refl), tt); after = met_locked z call word h n v w inside at locked l }

-- a pass that only met one thing more learned nothing
pub loads_learn : (call : ℕ) (v u : PassState) (f : Finding) → f.call ≡ call → u ≡ grown (f ∷ []) v → Learns call v u
loads_learn call v u f is e = subst (Learns call v) (sym e) (stands_learns call v (grown (f ∷ []) v) record { met = record { more = f ∷ []; met = refl; calls = (is, tt) }; numbers = refl; knowledge = refl; fulls = refl; swept = refl; sights = refl; gones = refl; rebalances = refl })

pub loads_both : (z : Sizes) (call : ℕ) (v u w : PassState) → LoadsMore z call v u → LoadsMore z call u w → LoadsMore z call v w
loads_both z call v u w a b = record { more = a.more ++ b.more; loads = each_append (IsLoadOf z call) a.more b.more a.loads b.loads; after = b.after ∙ (ap (grown b.more) a.after ∙ grown_twice v a.more b.more) }

pub loads_in : (z : Sizes) (first now : ℕ) (v w : PassState) → now ≡ first → LoadsMore z now v w → LoadsMore z first v w
loads_in z first now v w e l = subst (λ (k : ℕ). LoadsMore z k v w) e l

pub comes_loaded : (z : Sizes) (call : ℕ) (v w : PassState) → LoadsMore z call v w → ComesTo z call v.blocks.held v.headers.held v w
comes_loaded z call v w l = record { more = l.more; calls = each_map (IsLoadOf z call) (IsOf z call) l.more (λ f is. (is.0, is.1, is.3)) l.loads; after = l.after }

pub comes_none : (z : Sizes) (call : ℕ) (v : PassState) → ComesTo z call v.blocks.held v.headers.held v v
comes_none z call v = comes_loaded z call v v (loads_none z call v)

pub comes_both : (z : Sizes) (call : ℕ) (bs ds : List HeldBlock) (hs ks : List HeldHeader) (v u w : PassState) → ComesTo z call bs hs v u → ComesTo z call ds ks u w → ComesTo z call ds ks v w
comes_both z call bs ds hs ks v u w a b = record {
  more = a.more ++ b.more;
  calls = each_append (IsOf z call) a.more b.more a.calls b.calls;
  after = b.after ∙ (ap (λ (y : PassState). holding ds ks (grown b.more y)) a.after ∙ ap (holding ds ks) (grown_twice v a.more b.more));
}

pub comes_in : (z : Sizes) (first now : ℕ) (bs : List HeldBlock) (hs : List HeldHeader) (v w : PassState) → now ≡ first → ComesTo z now bs hs v w → ComesTo z first bs hs v w
comes_in z first now bs hs v w e c = subst (λ (k : ℕ). ComesTo z k bs hs v w) e c

pub comes_as : (z : Sizes) (call : ℕ) (bs ds : List HeldBlock) (hs ks : List HeldHeader) (v w : PassState) → bs ≡ ds → hs ≡ ks → ComesTo z call bs hs v w → ComesTo z call ds ks v w
comes_as z call bs ds hs ks v w e d c = subst (λ (p : List HeldBlock × List HeldHeader). ComesTo z call p.0 p.1 v w) (λ i. (e i, d i)) c

pub blocks_come : (z : Sizes) (call : ℕ) (bs : List HeldBlock) (hs : List HeldHeader) (v w : PassState) → ComesTo z call bs hs v w → w.blocks.held ≡ bs
blocks_come z call bs hs v w c = ap (λ (y : PassState). y.blocks.held) c.after

pub headers_come : (z : Sizes) (call : ℕ) (bs : List HeldBlock) (hs : List HeldHeader) (v w : PassState) → ComesTo z call bs hs v w → w.headers.held ≡ hs
headers_come z call bs hs v w c = ap (λ (y : PassState). y.headers.held) c.after

-- a pass that has the header locked still, where a change of its records leaves how they are held, their stamps and their generations
pub lock_comes : (z : Sizes) (h g call : ℕ) (bs : List HeldBlock) (f : HeldHeader → HeldHeader) → ((r : HeldHeader) → (f r).header ≡ r.header) → ((r : HeldHeader) → (f r).held_as ≡ r.held_as) → ((r : HeldHeader) → (f r).stamp ≡ r.stamp) → (v w : PassState) → ComesTo z call bs (map f v.headers.held) v w
    → rows_in h LOCKED (map f v.headers.held) ≡ rows_in h LOCKED v.headers.held → generation_held h (map f v.headers.held) ≡ generation_held h v.headers.held → HasLock z h g v → HasLock z h g w
lock_comes z h g call bs f same held stamp v w c rows generation l = subst (HasLock z h g) (sym c.after) record {
  inside = l.inside;
  locked = subst (λ (n : ℕ). 0 < n) (sym rows) l.locked;
  generation = generation ∙ l.generation;
  row = lock_row_mapped f same h v.headers.held (map f v.headers.held) refl l.row (held l.row.header);
  unstamped = stamp l.row.header ∙ l.unstamped;
}

-- a lock is one, whatever its stamp
pub holds_lock : (z : Sizes) (h g : ℕ) (v : PassState) → HasLock z h g v → HoldsLock z h g v
holds_lock z h g v l = record { inside = l.inside; locked = l.locked; generation = l.generation; row = l.row }

-- a pass that came to something, and then made one step more, by which it may have learned
pub ends_after : (z : Sizes) (call : ℕ) (bs : List HeldBlock) (ks ls : List HeldHeader) (v u w : PassState) (f : Finding) → IsOf z call f → ComesTo z call bs ks v u → w ≡ record (noted f u) { knowledge = w.knowledge; headers = record u.headers { held = ls } } → EndsTo z call w.knowledge bs ls v w
ends_after z call bs ks ls v u w f is c e = record {
  more = c.more ++ f ∷ [];
  calls = each_append (IsOf z call) c.more (f ∷ []) c.calls (is, tt);
  after = e ∙ (ap (λ (y : PassState). record (noted f y) { knowledge = w.knowledge; headers = record y.headers { held = ls } }) c.after
      ∙ ap (λ (y : PassState). record y { knowledge = w.knowledge; blocks = record v.blocks { held = bs }; headers = record v.headers { held = ls } }) (grown_twice v c.more (f ∷ [])));
}

pub ends_as : (z : Sizes) (call : ℕ) (q : Knowledge) (bs : List HeldBlock) (hs ks : List HeldHeader) (v w : PassState) → hs ≡ ks → EndsTo z call q bs hs v w → EndsTo z call q bs ks v w
ends_as z call q bs hs ks v w e c = subst (λ (ls : List HeldHeader). EndsTo z call q bs ls v w) e c

pub headers_end : (z : Sizes) (call : ℕ) (q : Knowledge) (bs : List HeldBlock) (hs : List HeldHeader) (v w : PassState) → EndsTo z call q bs hs v w → w.headers.held ≡ hs
headers_end z call q bs hs v w c = ap (λ (y : PassState). y.headers.held) c.after

-- a pass that only loaded, and one that loaded first

module _ (z : Sizes) (call : ℕ) (v u : PassState) (c : LoadsMore z call v u) where
  pub blocks_met : u.blocks.held ≡ v.blocks.held
  blocks_met = ap (λ (y : PassState). y.blocks.held) c.after

  pub headers_met : u.headers.held ≡ v.headers.held
  headers_met = ap (λ (y : PassState). y.headers.held) c.after

  pub comes_since : (ds : List HeldBlock) (ks : List HeldHeader) (w : PassState) → ComesTo z call ds ks u w → ComesTo z call ds ks v w
  comes_since ds ks w b = comes_both z call v.blocks.held ds v.headers.held ks v u w (comes_loaded z call v u c) b

  module _ (h g : ℕ) where
    pub lock_met : HasLock z h g v → HasLock z h g u
    lock_met l = subst (HasLock z h g) (sym c.after) record { inside = l.inside; locked = l.locked; generation = l.generation; row = l.row; unstamped = l.unstamped }

    pub buried_met : (stamp : ℕ) → HasBuried z h g stamp v → HasBuried z h g stamp u
    buried_met stamp l = subst (HasBuried z h g stamp) (sym c.after) record { inside = l.inside; buried = l.buried; generation = l.generation; stamp_is = l.stamp_is }

  -- The block that a held header's place word names, where the word was loaded before: its class and its number.
  pub block_loaded : (h n : ℕ) → n ≡ place_held h v.headers.held → (d : Class) (b : ℕ) → d ≡ class_from (class_in n) → b ≡ block_in n → (class_from (class_in (place_held h u.headers.held)) ≡ d) × (block_in (place_held h u.headers.held) ≡ b)
  block_loaded h n is d b class block = let e : place_held h u.headers.held ≡ n = ap (place_held h) headers_met ∙ sym is in (ap (λ (p : ℕ). class_from (class_in p)) e ∙ sym class, ap block_in e ∙ sym block)
