use Rattle.std.proofs.Common.{◌≡◌, ◌++◌, ◌∙◌, ℕ, ap, codes, rules}
use Rattle.oak_model.specs.declared.classes.Class.TheVariants.{B16, B64, B256, B1024}
use Rattle.oak_script.specs.Text.{class_line, used_line}
use Rattle.oak_script.proofs.TextLemmas.{seven_put}
use Rattle.oak_script.proofs.text.put_arena.Goals as goal

pub returns : goal.returns
returns c =
    let u = c.args.usage.now in
    let s = c.args.shape.now in
    let headers : c.shape.inside.headers ≡ s.headers = search rules in
    let chunks : c.shape.inside.chunks ≡ s.chunks = search rules in
    seven_put c.args.out.now.items c.put.new.out.items c.put_class.new.out.items c.put_class-2.new.out.items c.put_class-3.new.out.items c.put_class-4.new.out.items c.put_used.new.out.items c.put_used-2.new.out.items
    (codes "arena\n") (class_line u s B16) (class_line u s B64) (class_line u s B256) (class_line u s B1024) (used_line (codes "headers") u.headers s.headers) (used_line (codes "chunks") u.chunks s.chunks)
    c.in_ok-put.ensures c.in_ok-put_class.ensures c.in_ok-put_class-2.ensures c.in_ok-put_class-3.ensures c.in_ok-put_class-4.ensures
    (c.in_ok-put_used.ensures ∙ ap (λ (n : ℕ). c.put_class-4.new.out.items ++ used_line (codes "headers") u.headers n) headers)
    (c.in_ok-put_used-2.ensures ∙ ap (λ (n : ℕ). c.put_used.new.out.items ++ used_line (codes "chunks") u.chunks n) chunks)
