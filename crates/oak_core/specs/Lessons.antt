-- The points on lessons: of which keys a pass knows all writes up to a number, and that no later write comes at or before it.
use Rattle.std.specs.Prelude.{◌≡◌, ℕ, suc, ◌<◌, ◌≤◌, List, ◌++◌, map, length, None}
use Rattle.pin_word.specs.PinWord.{state_of, generation_of}
use Rattle.oak_model.specs.Limits.{Sizes}
use Rattle.oak_model.specs.Counts.{Each, Every, Has}
use Rattle.header_core.specs.declared.states.TheConstants.{DEAD}
use Rattle.header_core.specs.HeaderRule.{OnPin}
use Rattle.oak_core.specs.declared.states.KeyedWrite.{KeyedWrite}
use Rattle.oak_core.specs.declared.states.Knowledge.{Knowledge}
use Rattle.oak_core.specs.declared.states.Lesson.{Lesson}
use Rattle.oak_core.specs.declared.states.PassState.{PassState}
use Rattle.oak_core.specs.declared.states.Taught.{Taught}
use Rattle.oak_core.specs.declared.states.Taught.TheVariants.{OfKey, OfGap}
use Rattle.oak_core.specs.Memory.{Memory}
use Rattle.oak_core.specs.PassState.{seen_of, knowledge_of}
use Rattle.oak_core.specs.KeyHistories.{state_behind, before, IsRemovedAt}
use Rattle.oak_core.specs.KeyReads.{home_of, history_now, level_now}
use Rattle.oak_core.specs.Learning.{reach_of, heard_of}

-- a key of a gap's lesson is absent behind its writes
abbrev pub IsAbsentBehind : Taught → ℕ → List KeyedWrite → Type 0
IsAbsentBehind (OfKey n) k h = Unit {0}
IsAbsentBehind (OfGap g) k h = 0 < reach_of (OfGap g) k → state_behind h ≡ None

-- what holds of one lesson of a pass
pub record LessonStands (level : ℕ → ℕ) (hist : ℕ → List KeyedWrite) (q : Knowledge) (l : Lesson) : Type 0 where
  -- it goes to the key's level at most
  pub upto : (k : ℕ) → reach_of l.taught k ≤ suc (level k)
  -- it has all of the key's writes below its reach, and no others
  pub writes : (k : ℕ) → heard_of k l ≡ before (reach_of l.taught k) (hist k)
  pub absent : (k : ℕ) → IsAbsentBehind l.taught k (heard_of k l)
  -- its pass has seen them
  pub seen : (k : ℕ) → length (heard_of k l) ≤ length (seen_of k q)

-- of each
abbrev pub LessonsStand : (ℕ → ℕ) → (ℕ → List KeyedWrite) → Knowledge → Type 0
LessonsStand level hist q = Each (LessonStands level hist q) q.heard

-- the pass knows the key up to just the number, behind which it was absent
pub record KnowsAbsent (k at : ℕ) (q : Knowledge) : Type 0 where
  pub lesson : Lesson
  pub there : Has lesson q.heard
  pub covers : reach_of lesson.taught k ≡ suc at
  pub absent : state_behind (heard_of k lesson) ≡ None

-- the pass knows that a life of the key was removed, with the stamp
pub record KnowsRemoval (k home stamp : ℕ) (q : Knowledge) : Type 0 where
  pub lesson : Lesson
  pub there : Has lesson q.heard
  pub covers : stamp < reach_of lesson.taught k
  pub removed : IsRemovedAt home stamp (heard_of k lesson)

-- what a pass knows by its pins
pub record PinsKnow (v : PassState) : Type 0 where
  -- the stamp that a pin found in a dead header is that of the removal
  pub removed : OnPin (λ p. state_of p.found ≡ DEAD → generation_of p.found ≡ p.wanted → (k : ℕ) × KnowsRemoval k (home_of p.header p.wanted) p.stamp v.knowledge) v.headers.pin

-- all points on lessons
pub record HeardStands (z : Sizes) (m : Memory) (vs : List PassState) : Type 0 where
  pub lessons : Every (LessonsStand (level_now z m vs) (history_now vs)) (map knowledge_of vs)
  pub pins : Every PinsKnow vs

-- what a step may do to a key: its level does not fall, and each write that is added is above the level before it
pub record GoesUp (level level' : ℕ) (h h' : List KeyedWrite) : Type 0 where
  pub rises : level ≤ level'
  pub more : List KeyedWrite
  pub grown : h' ≡ h ++ more
  pub above : Each (λ (w : KeyedWrite). level < w.write.stamp) more
