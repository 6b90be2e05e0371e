-- A value that is put in place of another by a pass that is alone: a lock that is given up leaves the words, and the header can be locked again.
use Rattle.std.proofs.Common.{◌≡◌, ℕ, ◌+◌, ◌-◌, ◌<◌, true, true≢false, List, length, get_or, set, sym, ap, ◌∙◌, subst, arith, get_or-set_same, Some}
use Rattle.std.proofs.lemmas.List.{set-set, set_past}
use lib.Seq.{set-get_or}
use mathlib.Core.Logic.{dite}
use native.Mathlib.Decide.{dec_lt}
use Rattle.pin_word.specs.PinWord.{STATE}
use Rattle.oak_model.specs.declared.classes.Class.{Class}
use Rattle.oak_model.specs.Class.{class_of}
use Rattle.oak_model.specs.Limits.{Sizes}
use Rattle.arena_ops.specs.Looking.{AllSet, IsSetIn}
use Rattle.arena_ops.specs.Taking.{ClearsBit}
use Rattle.header_core.specs.Headers.{at_pin}
use Rattle.oak_core.specs.declared.states.PassState.{PassState}
use Rattle.oak_core.specs.AloneWords.{Runs}
use Rattle.oak_core.specs.Finding.{LoadsMore}
use Rattle.oak_core.specs.Memory.{in_headers, index}
use Rattle.oak_core.proofs.seats.AloneRuns.{Then, runs_as, runs_then}
use Rattle.oak_core.proofs.memory.Words.{memory_read}
use Rattle.chunk_ops.specs.AddsAlone.{Never}
use Rattle.chunk_ops.specs.PinRecords.{HasRoomPin, RoomPinned}
use Rattle.value_ops.specs.declared.locking.NoLock.{NoLock}
use Rattle.value_ops.specs.AloneLocks.{FindsClass, LocksPin, RefusesPin, UnlocksPin, pin_in}
use Rattle.value_ops.specs.Claiming.{pin_spot}
use Rattle.value_ops.specs.Locking.{LocksHeader, may_lock}
use Rattle.value_ops.specs.UnderLock.{GivesUp}
use Rattle.point_ops.specs.declared.halts.Halt.{Halt}
use Rattle.point_ops.specs.declared.halts.Halt.TheVariants.{NoBlock}
use Rattle.point_ops.specs.LoneInserts.{IsOfBlock, MakesBlockIn}
use Rattle.point_ops.specs.LoneLives.{OverHaltsIn, UnfreeIn}
use Rattle.point_ops.proofs.LoneWords.{but_same}

-- whatever comes before or behind what never comes about, it never comes about

pub then_never : (P Q : List ℕ → List ℕ → Type 0) (u v w : PassState) → Runs P u v → Runs Never v w → Runs Q u w
then_never P Q u v w a b = runs_as (Then P Never) Q u w (λ x y d. absurd d.2) (runs_then P Never u v w a b)

pub never_then : (P Q : List ℕ → List ℕ → Type 0) (u v w : PassState) → Runs Never u v → Runs P v w → Runs Q u w
never_then P Q u v w a b = runs_as (Then Never P) Q u w (λ x y d. absurd d.1) (runs_then Never P u v w a b)

-- a number that is added to one of the words, and taken from it
back : (a : List ℕ) (i k n m : ℕ) → n ≡ get_or a i 0 → m ≡ get_or (set a i (n + k)) i 0 → set (set a i (n + k)) i (m - k) ≡ a
back a i k n m e f = set-set a i (n + k) (m - k) ∙ dite (dec_lt i (length a))
    (λ l. let s : get_or (set a i (n + k)) i 0 ≡ n + k = get_or-set_same a i (n + k) 0 l in let d : m - k ≡ n = omega arith in ap (set a i) (d ∙ e) ∙ set-get_or a i 0)
    (λ past. set_past a i (m - k) (omega arith))

-- the header was live at the generation and without a pin, in words that stay
abbrev pub FreeIn : Sizes → (h g : ℕ) → (before after : List ℕ) → Type 0
FreeIn z h g before after = (may_lock (pin_in z h before) g ≡ true) × (after ≡ before)

-- a lock of the header, a load of its class, and the end of the lock
module _ (z : Sizes) (h g i j : ℕ) (inside : h < z.headers) (header : i ≡ h) (generation : j ≡ g) (c : Class) (v u y x : PassState) where
  abbrev Three : List ℕ → List ℕ → Type 0
  Three = Then (LocksPin z h g) (Then (FindsClass z h c) (UnlocksPin z h g))

  pub undoes : (a d : List ℕ) → Three a d → d ≡ a
  undoes a d s = let k : ℕ = index z (pin_spot h) in let b = s.0 in let m = s.2.0 in let same : m ≡ b = s.2.1.1 in
      s.2.2.becomes ∙ (ap (λ (ws : List ℕ). set ws k (pin_in z h ws - STATE)) same ∙ ((λ l. set (s.1.1 l) k (pin_in z h b - STATE))
      ∙ back a k STATE (pin_in z h a) (pin_in z h b) (memory_read z a (pin_spot h) inside) (memory_read z b (pin_spot h) inside ∙ ap (λ (ws : List ℕ). get_or ws k 0) s.1.1)))

  pub gives_up_free : Runs (LocksPin z h g) v u → Runs (FindsClass z i c) u y → Runs (UnlocksPin z i j) y x → Runs (FreeIn z h g) v x
  gives_up_free a b d = runs_as Three (FreeIn z h g) v x (λ p q s. (s.1.0, undoes p q s))
      (runs_then (LocksPin z h g) (Then (FindsClass z h c) (UnlocksPin z h g)) v u x a
      (runs_then (FindsClass z h c) (UnlocksPin z h g) u y x (subst (λ (k : ℕ). Runs (FindsClass z k c) u y) header b) (subst (λ (k : ℕ × ℕ). Runs (UnlocksPin z k.0 k.1) y x) (λ l. (header l, generation l)) d)))

-- what the pass has of rooms stays meanwhile
pub gave_up_pinned : (z : Sizes) (call load_at give_at h g i j stamp r : ℕ) (v u y x : PassState) → LocksHeader z call h g v u → LoadsMore z load_at u y → GivesUp z give_at i j stamp y x → HasRoomPin z r v → HasRoomPin z r x
gave_up_pinned z call load_at give_at h g i j stamp r v u y x l m s p = subst (RoomPinned z r) (sym (ap (λ (q : PassState). q.rooms) s.ends.comes.after ∙ (ap (λ (q : PassState). q.rooms) m.after ∙ l.rooms))) p

-- a lock that was refused, behind which a block was given back
pub unfree_given : (z : Sizes) (h g : ℕ) (why : NoLock) (c : Class) (b : ℕ) (v u w : PassState) → Runs (RefusesPin z h g why) v u → Runs (ClearsBit z c b) u w → Runs (UnfreeIn z h g) v w
unfree_given z h g why c b v u w a d = runs_as (Then (RefusesPin z h g why) (ClearsBit z c b)) (UnfreeIn z h g) v w (λ p q s. s.1.0) (runs_then (RefusesPin z h g why) (ClearsBit z c b) v u w a d)

module _ (z : Sizes) (h g : ℕ) (value : List ℕ) (v x w : PassState) (free : Runs (FreeIn z h g) v x) where
  -- no block was clear
  pub no_block_alone : (why : Halt) (c : Class) → why ≡ NoBlock c → class_of (length value) ≡ Some c → Runs (AllSet z c (λ b. Unit {0})) x w → Runs (OverHaltsIn why z h g value v) v w
  no_block_alone why c is fits all = subst (λ (o : Halt). Runs (OverHaltsIn o z h g value v) v w) (sym is)
      (runs_as (Then (FreeIn z h g) (AllSet z c (λ b. Unit {0}))) (OverHaltsIn (NoBlock c) z h g value v) v w
      (λ p q s. ((s.2.0 ∙ s.1.1, λ b lt any. subst (IsSetIn z c b) s.1.1 (s.2.1 b lt any)), fits))
      (runs_then (FreeIn z h g) (AllSet z c (λ b. Unit {0})) v x w free all))

  -- the header, which was free, is so behind the making of a block
  pub free_again : (r : ℕ) (c : Class) (b : ℕ) (y : PassState) (Q : List ℕ → List ℕ → Type 0) → Runs (MakesBlockIn z r c b) x w → Runs (UnfreeIn z h g) w y → Runs Q v y
  free_again r c b y Q makes unfree = let Rest = Then (MakesBlockIn z r c b) (UnfreeIn z h g) in
      runs_as (Then (FreeIn z h g) Rest) Q v y
      (λ p q s. let m = s.0 in let rest = s.2 in let n = rest.0 in
      let same : pin_in z h n ≡ pin_in z h m = but_same z (IsOfBlock c b) m n rest.1.but (in_headers (at_pin h)) (λ e. e) in
      absurd (true≢false (sym s.1.0 ∙ (ap (λ (ws : List ℕ). may_lock (pin_in z h ws) g) (sym s.1.1) ∙ (ap (λ (k : ℕ). may_lock k g) (sym same) ∙ rest.2)))))
      (runs_then (FreeIn z h g) Rest v x y free (runs_then (MakesBlockIn z r c b) (UnfreeIn z h g) x w y makes unfree))
