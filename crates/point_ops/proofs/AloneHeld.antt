-- A pass that holds one header, or one block, and nothing else, while it works under a lock, and the value that its header has once it was given another block.
use Rattle.std.proofs.Common.{◌≡◌, ℕ, Bool, cond, List, [], ◌∷◌, map, sym, refl, ap, ◌∙◌, subst, eq-eqb, ◌<◌, length, take, arith}
use Rattle.oak_model.specs.declared.classes.Class.{Class}
use Rattle.oak_model.specs.declared.writes.Kind.{Kind}
use Rattle.oak_model.specs.Class.{class_number}
use Rattle.oak_model.specs.Limits.{Sizes}
use Rattle.oak_model.proofs.Lists.{each_map}
use Rattle.arena_core.specs.declared.blocks.HeldBlock.{HeldBlock}
use Rattle.arena_core.specs.declared.blocks.HeldBlocks.{HeldBlocks}
use Rattle.arena_core.specs.Blocks.{without, words_held}
use Rattle.arena_core.specs.Place.{content, length_in, place_word}
use Rattle.arena_core.proofs.HeldLists.{is_block-true}
use Rattle.arena_ops.specs.Taking.{Gives}
use Rattle.header_core.specs.declared.holds.HeaderHolds.{HeaderHolds}
use Rattle.header_core.specs.declared.holds.HeldHeader.{HeldHeader}
use Rattle.header_core.specs.HeaderHolds.{no_headers, without_header, place_held}
use Rattle.header_core.specs.HeaderStep.{locked_at}
use Rattle.oak_core.specs.declared.states.Finding.{Finding}
use Rattle.oak_core.specs.declared.states.PassState.{PassState}
use Rattle.oak_core.specs.CallSteps.{Stands}
use Rattle.oak_core.specs.Finding.{IsOf}
use Rattle.oak_core.specs.LifeKeys.{key_known, key_or}
use Rattle.oak_core.specs.Memory.{memory}
use Rattle.value_ops.specs.HeldValue.{words_in, value_held}
use Rattle.value_ops.specs.Locking.{LocksHeader}
use Rattle.value_ops.specs.OneHeader.{IsOneHeader, IsOneBlock}
use Rattle.value_ops.specs.UnderLock.{Exchanges, GivesUp, WritesOver, HasLock}
use Rattle.point_ops.proofs.LocksKept.{end_stands}
use Rattle.oak_model.specs.WordBytes.{bytes_of}
use Rattle.arena_core.proofs.PlaceLaws.{length_in-word}
use Rattle.arena_ops.specs.Storing.{HasBytes}
use Rattle.header_core.specs.declared.states.TheConstants.{LOCKED}
use Rattle.header_core.proofs.HeaderFacts.{holds_some}
use Rattle.header_core.proofs.HeldHeaders.{held_in}
use Rattle.value_ops.proofs.FillFacts.{fits_class}
use Rattle.value_ops.proofs.RewordedHeaders.{changed_place, changed_words}

-- without its one header it holds none, and one whose record is changed is one still

pub none_without : (h : ℕ) (a : HeaderHolds) → IsOneHeader h a → record a { held = without_header h a.held } ≡ no_headers
none_without h a o = ap (λ (x : HeaderHolds). record x { held = without_header h x.held }) o.alone ∙ ap (λ (t : Bool). record no_headers { held = cond t [] (o.header ∷ []) }) (eq-eqb o.header.header h o.is)

pub one_mapped : (h : ℕ) (a : HeaderHolds) (f : HeldHeader → HeldHeader) → ((r : HeldHeader) → (f r).header ≡ r.header) → IsOneHeader h a → IsOneHeader h (record a { held = map f a.held })
one_mapped h a f same o = record { header = f o.header; alone = ap (λ (x : HeaderHolds). record x { held = map f x.held }) o.alone; is = same o.header ∙ o.is }

-- a lock is of one header, and its end leaves none

pub locked_one : (z : Sizes) (call h g l : ℕ) (v w : PassState) → l ≡ h → v.headers ≡ no_headers → LocksHeader z call h g v w → IsOneHeader l w.headers
locked_one z call h g l v w same none t = record { header = row; alone = t.headers ∙ ap (λ (x : HeaderHolds). record x { held = row ∷ x.held }) none; is = sym same }
  where
    row : HeldHeader
    row = record (locked_at (memory z t.told.table.words).headers (content (memory z t.told.table.words).arena.bytes) h) { key = key_or (key_known h g v.knowledge) }

pub wrote_none : (z : Sizes) (call h g : ℕ) (kind : Kind) (stamp : ℕ) (v w : PassState) → IsOneHeader h v.headers → WritesOver z call h g kind stamp v w → w.headers ≡ no_headers
wrote_none z call h g kind stamp v w o t = ap (λ (y : PassState). y.headers) t.ends.comes.after ∙ none_without h v.headers o

-- a lock that is given up teaches nothing
pub gave_up_stands : (z : Sizes) (call h g stamp : ℕ) (v w : PassState) → GivesUp z call h g stamp v w → Stands call v w
gave_up_stands z call h g stamp v w t = end_stands z call w.knowledge v.blocks.held _ v w t.knowledge t.ends.comes

-- nor does a block that is given back
pub gave_stands : (z : Sizes) (call : ℕ) (c : Class) (b : ℕ) (v w : PassState) → Gives z call c b v w → Stands call v w
gave_stands z call c b v w t = subst (Stands call v) (sym t.after) record { met = record { more = t.more; met = refl; calls = each_map (IsOf z call) (λ (f : Finding). f.call ≡ call) t.more (λ f o. o.0) t.calls }; numbers = refl; knowledge = refl; fulls = refl; swept = refl; sights = refl; gones = refl; rebalances = refl }

-- a block in front of none is the one
pub one_block : (c : Class) (b : ℕ) (words : List ℕ) (a : HeldBlocks) → a ≡ record { held = record { class = c; number = b; words = words } ∷ [] } → IsOneBlock c b a
one_block c b words a e = record { block = record { class = c; number = b; words = words }; alone = e; is = is_block-true (class_number c) b (record { class = c; number = b; words = words }) refl refl }

-- the one block that the pass held was exchanged for the header's, which it holds then
pub exchanged_block : (z : Sizes) (call h : ℕ) (c : Class) (b len : ℕ) (o : Class) (n : ℕ) (v w : PassState) → IsOneBlock c b v.blocks → Exchanges z call h c b len o n v w → IsOneBlock o n w.blocks
exchanged_block z call h c b len o n v w one t = one_block o n (words_in h v.headers.held) w.blocks
    (ap (λ (y : PassState). y.blocks) t.comes.after ∙ (ap (λ (a : HeldBlocks). record a { held = old ∷ without (class_number c) b a.held }) one.alone ∙ ap (λ (s : Bool). record { held = old ∷ cond s [] (one.block ∷ []) }) one.is))
  where
    old : HeldBlock
    old = record { class = o; number = n; words = words_in h v.headers.held }

-- the value of a locked header, to which another block was given with bytes in it, is these bytes
module _ (z : Sizes) (call h g : ℕ) (c : Class) (b : ℕ) (bytes : List ℕ) (o : Class) (n : ℕ) (v u w : PassState) (has : HasBytes z c b bytes v) (blocks : u.blocks ≡ v.blocks) (lock : HasLock z h g u) (t : Exchanges z call h c b (length bytes) o n u w) where
  abbrev rs : List HeldHeader
  rs = u.headers.held

  some_of : 0 < held_in h rs
  some_of = holds_some h LOCKED u.headers lock.locked

  place : length_in (place_held h w.headers.held) ≡ length bytes
  place = let ws : List ℕ = words_held (class_number c) b u.blocks.held in ap (λ (y : PassState). length_in (place_held h y.headers.held)) t.comes.after
      ∙ (ap length_in (changed_place h (place_word (class_number c) b (length bytes)) ws rs some_of) ∙ length_in-word (class_number c) b (length bytes) (let l = fits_class (length bytes) c has.fits in omega arith))

  words : words_in h w.headers.held ≡ words_held (class_number c) b v.blocks.held
  words = let ws : List ℕ = words_held (class_number c) b u.blocks.held in ap (λ (y : PassState). words_in h y.headers.held) t.comes.after
      ∙ (changed_words h (place_word (class_number c) b (length bytes)) ws rs some_of ∙ ap (λ (a : HeldBlocks). words_held (class_number c) b a.held) blocks)

  pub exchanged_value : value_held h w.headers.held ≡ bytes
  exchanged_value = (λ i. take (place i) (bytes_of (words i))) ∙ has.bytes_are
