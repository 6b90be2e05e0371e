use Rattle.std.proofs.Common.{◌≡◌, ℕ, ◌+◌, ◌-◌, ◌*◌, ◌%◌, ◌^◌, ◌<◌, length, take, drop, sym, ap, ◌∙◌, arith, w64}
use Rattle.std.specs.Int.{from_be_bytes}
use Rattle.std.proofs.lemmas.List.{take_all}
use Rattle.arena_core.specs.Words.{bytes_in, word_at, word_of}
use Rattle.arena_core.proofs.Shifts.{eight_shifted}
use Rattle.arena_core.proofs.WordLaws.{whole_long, filled_whole, word_small}
use Rattle.arena_core.proofs.words.word_from.Goals as goal

pub returns-then-from-to : goal.returns-then-from-to
unfolding word_of
returns-then-from-to c = let i = c.args.i in let bytes = c.args.bytes.now in
    c.eight_bytes.ensures ∙ ap (from_be_bytes w64) (sym (filled_whole (bytes_in i bytes) (whole_long bytes i c.if-from-to.true)))

pub returns-then-to-lt-WORD : goal.returns-then-to-lt-WORD
returns-then-to-lt-WORD c = let i = c.args.i in let bytes = c.args.bytes.now in let lt = c.requires in let few = c.if-to-lt-WORD.true in let n : ℕ = c.few_bytes.result in
    let first : i ≡ 0 = omega arith in
    let all : bytes_in i bytes ≡ bytes = ap (λ (j : ℕ). bytes_in j bytes) first ∙ take_all 8 bytes (omega arith) in
    let is : n * 2 ^ (8 * (8 * i + 8 - length bytes)) ≡ word_at bytes i = ap (λ (j : ℕ). n * 2 ^ (8 * (8 * j + 8 - length bytes))) first ∙ (c.few_bytes.ensures ∙ ap word_of (sym all)) in
    let s : word_at bytes i < 2 ^ 64 = word_small bytes (λ k. (c.type_inv.bytes k).fits) i in let m : ℕ = n * 2 ^ (8 * (8 * i + 8 - length bytes)) in let e : m ≡ word_at bytes i = is in let r : m % 2 ^ 64 ≡ word_at bytes i = omega arith in r

pub returns : goal.returns
returns c = let i = c.args.i in let bytes = c.args.bytes.now in let lt = c.requires in let few = c.if-from-to.false in let whole = c.if-to-lt-WORD.false in
    let e : 8 * i + 8 - length bytes ≡ 8 - (length bytes - 8 * i) = omega arith in
    ap (λ (n : ℕ). n * 2 ^ (8 * (8 * i + 8 - length bytes)) % 2 ^ 64) c.eight_bytes-2.ensures
    ∙ (ap (λ (k : ℕ). from_be_bytes w64 (take 8 (drop (length bytes - 8) bytes)) * 2 ^ (8 * k) % 2 ^ 64) e ∙ eight_shifted bytes i lt few whole (λ k. (c.type_inv.bytes k).fits))
