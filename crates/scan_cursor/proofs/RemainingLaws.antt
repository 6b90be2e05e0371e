-- Each step of a scan that is not in vain leaves fewer of them.
use Rattle.std.proofs.Common.{◌≡◌, ℕ, suc, ◌+◌, ◌-◌, ◌*◌, ◌<◌, ◌≤◌, Bool, true, false, List, Option, refl, sym, ap, ◌∙◌, subst, arith}
use Rattle.std.specs.Prelude.{MatchBool}
use Rattle.oak_model.specs.declared.limits.TheConstants.{GREATEST_ENTRIES}
use Rattle.oak_model.specs.KeyNumber.{key_number}
use Rattle.scan_cursor.specs.declared.marks.Mark.{Mark}
use Rattle.scan_cursor.specs.declared.walking.Walk.{Walk}
use Rattle.scan_cursor.specs.declared.ways.Way.{Way}
use Rattle.scan_cursor.specs.declared.ways.Way.TheVariants.{Up, Down}
use Rattle.scan_cursor.specs.Holding.{Covers, Room, bound_in, high_end, low_end}
use Rattle.scan_cursor.specs.Marks.{Ends, GoesToBound, Leaves}
use Rattle.scan_cursor.specs.Remaining.{keys_left, room_left, slots_left, steps_left, unread}

at_most : (t : Bool) → unread t ≤ 1
at_most true = omega arith
at_most false = omega arith

-- the key at the mark was read
pub read_nearer : (way : Way) (hi : ℕ) (w : Walk) → w.mark.past ≡ false → steps_left way hi (record w { mark = record w.mark { past = true } }) < steps_left way hi w
read_nearer way hi w at = let e : unread w.mark.past ≡ 1 = ap unread at in omega (arith, e)

-- ---- the entries of a room were loaded

keys_nearer : (way : Way) (hi : ℕ) (k : List ℕ) (r : Room) → Covers way true k r → key_number k ≤ hi → suc (keys_left way hi true k (bound_in way r)) ≤ keys_left way hi false k (bound_in way r)
keys_nearer Up hi k r c le = let l = c.1 in omega arith
keys_nearer Down hi k r c le = let l = c.0 in omega arith

any_bound : (way : Way) (hi : ℕ) (k : List ℕ) (a b : Option (List ℕ)) → keys_left way hi false k a ≡ keys_left way hi false k b
any_bound Up hi k a b = refl
any_bound Down hi k a b = refl

any_key : (way : Way) (hi : ℕ) (k q : List ℕ) (b : Option (List ℕ)) → keys_left way hi true k b ≡ keys_left way hi true q b
any_key Up hi k q b = refl
any_key Down hi k q b = refl

one_less : (a b m n : ℕ) → suc a ≤ b → n < m → a * m + n < b * m
one_less a b m n l s = grind arith

pub fill_nearer : (way : Way) (hi : ℕ) (w : Walk) (to asked : ℕ) (within : Bool) (b : Option (List ℕ)) (r : Room) → w.gathered ≡ false → w.mark.past ≡ true → Covers way true w.mark.key r → key_number w.mark.key ≤ hi → to ≤ GREATEST_ENTRIES → b ≡ bound_in way r
    → steps_left way hi (record { mark = w.mark; gathered = true; from = 0; to = to; bound = b; within = within; asked = asked }) < steps_left way hi w
fill_nearer way hi w to asked within b r unloaded past covers inside few is =
    let k : List ℕ = w.mark.key in
    let size : ℕ = 2 * GREATEST_ENTRIES + 4 in
    let old : keys_left way hi w.gathered k w.bound ≡ keys_left way hi false k (bound_in way r) = ap (λ (t : Bool). keys_left way hi t k w.bound) unloaded ∙ any_bound way hi k w.bound (bound_in way r) in
    let new : keys_left way hi true k b ≡ keys_left way hi true k (bound_in way r) = ap (keys_left way hi true k) is in
    let p : unread w.mark.past ≡ 0 = ap unread past in
    let x : ℕ = keys_left way hi true k b in
    let y : ℕ = keys_left way hi w.gathered k w.bound in
    let n = keys_nearer way hi k r covers inside in
    let lx : suc x ≤ y = omega (arith, old, new, n) in
    let l : x * size + room_left true w.mark.past 0 to < y * size = one_less x y size (room_left true w.mark.past 0 to) lx (omega (arith, p, few)) in
    omega (arith, l)

-- ---- the next of the entries was taken

pub take_nearer : (way : Way) (hi : ℕ) (w x : Walk) (at : Bool) (key : List ℕ) → x.gathered ≡ w.gathered → x.bound ≡ w.bound → w.gathered ≡ true → w.mark.past ≡ true → suc (x.to - x.from) ≡ w.to - w.from
    → steps_left way hi (record { mark = record { key = key; past = at; ended = x.mark.ended }; gathered = x.gathered; from = x.from; to = x.to; bound = x.bound; within = x.within; asked = x.asked }) < steps_left way hi w
take_nearer way hi w x at key gathered bound has past fewer =
    let size : ℕ = 2 * GREATEST_ENTRIES + 4 in
    let old : keys_left way hi w.gathered w.mark.key w.bound ≡ keys_left way hi true w.mark.key w.bound = ap (λ (t : Bool). keys_left way hi t w.mark.key w.bound) has in
    let new : keys_left way hi x.gathered key x.bound ≡ keys_left way hi true key w.bound = (λ j. keys_left way hi ((gathered ∙ has) j) key (bound j)) in
    let same : keys_left way hi x.gathered key x.bound ≡ keys_left way hi w.gathered w.mark.key w.bound = new ∙ (any_key way hi key w.mark.key w.bound ∙ sym old) in
    let product : keys_left way hi x.gathered key x.bound * size ≡ keys_left way hi w.gathered w.mark.key w.bound * size = ap (λ (n : ℕ). n * size) same in
    let p : unread w.mark.past ≡ 0 = ap unread past in
    let q : slots_left x.gathered x.from x.to ≡ suc (x.to - x.from) = ap (λ (t : Bool). slots_left t x.from x.to) (gathered ∙ has) in
    let s : slots_left w.gathered w.from w.to ≡ suc (w.to - w.from) = ap (λ (t : Bool). slots_left t w.from w.to) has in
    let few : unread at ≤ 1 = at_most at in
    omega (arith, product, p, q, s, few, fewer)

-- ---- none was left, and the scan goes on at the room's bound

bound_keys : (way : Way) (lo hi : ℕ) (b : Option (List ℕ)) (m : Mark) (k : List ℕ) (c : Option (List ℕ)) → GoesToBound way lo hi b m → keys_left way hi false m.key c ≡ keys_left way hi true k b
bound_keys Up lo hi b m k c g = ap (λ (o : Option (List ℕ)). suc hi - high_end o) (sym g.0)
bound_keys Down lo hi b m k c g = ap low_end (sym g.0)

pub leave_nearer : (way : Way) (lo hi : ℕ) (w n : Walk) → w.gathered ≡ true → n.gathered ≡ false → Leaves way lo hi w.bound n.mark → n.mark.ended ≡ false → steps_left way hi n < steps_left way hi w
leave_nearer way lo hi w n has none leaves going =
    let size : ℕ = 2 * GREATEST_ENTRIES + 4 in
    let goes : GoesToBound way lo hi w.bound n.mark = subst (λ (t : Bool). MatchBool t (Ends way lo hi w.bound) (GoesToBound way lo hi w.bound n.mark)) going leaves in
    let old : keys_left way hi w.gathered w.mark.key w.bound ≡ keys_left way hi true w.mark.key w.bound = ap (λ (t : Bool). keys_left way hi t w.mark.key w.bound) has in
    let new : keys_left way hi n.gathered n.mark.key n.bound ≡ keys_left way hi false n.mark.key n.bound = ap (λ (t : Bool). keys_left way hi t n.mark.key n.bound) none in
    let same : keys_left way hi n.gathered n.mark.key n.bound ≡ keys_left way hi w.gathered w.mark.key w.bound = new ∙ (bound_keys way lo hi w.bound n.mark w.mark.key n.bound goes ∙ sym old) in
    let product : keys_left way hi n.gathered n.mark.key n.bound * size ≡ keys_left way hi w.gathered w.mark.key w.bound * size = ap (λ (i : ℕ). i * size) same in
    let q : slots_left n.gathered n.from n.to ≡ 0 = ap (λ (t : Bool). slots_left t n.from n.to) none in
    let s : slots_left w.gathered w.from w.to ≡ suc (w.to - w.from) = ap (λ (t : Bool). slots_left t w.from w.to) has in
    let few : unread n.mark.past ≤ 1 = at_most n.mark.past in
    omega (arith, product, q, s, few)
