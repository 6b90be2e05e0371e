use Rattle.std.proofs.Common.{◌≡◌, ℕ, sym, subst}
use Rattle.oak_model.specs.Limits.{Sizes}
use Rattle.oak_core.specs.Passes.{state, key as sizes, call_of}
use Rattle.chunk_ops.specs.declared.entries.Content.{Content}
use Rattle.chunk_ops.specs.Contents.{FindsContent, Says, TellsOf}
use Rattle.chunk_ops.specs.declared.stored.StoredKey.{StoredKey}
use Rattle.chunk_ops.specs.Stored.{IsStored}
use Rattle.scan_cursor.specs.Views.{KnowsLast, view_of}
use Rattle.scan_cursor.proofs.GatherViews.{knows_last, last_read}
use Rattle.scan_cursor.proofs.gathering.load_slot.Goals as goal

pub returns-in-Floor-clause-reads : goal.returns-in-Floor-clause-reads
returns-in-Floor-clause-reads c q h = let z : Sizes = sizes c.args.table.now in let r = c.args.pin.now.room in let i = c.args.entry.0 in let call = call_of c.args.pass.now in
    let v = state c.args.pass.now in let x = state c.value_word_at-value.new.pass in
    let tells = c.value_word_at-value.ensures.tells c.content_of.result q c.content_of.ensures h in
    let reads = subst (λ (a : Content). TellsOf a z call r i q v x) c.in-Floor.is tells in
    (c.in-Floor.stamp, last_read z call v x q c.in-Floor.stamp _ reads)

pub returns-in-Value-clause-reads : goal.returns-in-Value-clause-reads
returns-in-Value-clause-reads c q h = let z : Sizes = sizes c.args.table.now in let r = c.args.pin.now.room in let i = c.args.entry.0 in let call = call_of c.args.pass.now in
    let v = state c.args.pass.now in let x = state c.value_word_at-value.new.pass in
    let stored = c.requires.key q h in let head = c.in-Value.header in let gen = c.in-Value.generation in
    let finds = subst (λ (a : Content). FindsContent z call r i a v x) c.in-Value.is (c.value_word_at-value.ensures.content c.content_of.result c.content_of.ensures) in
    let life = subst (λ (a : Content). TellsOf a z call r i q v x) c.in-Value.is (c.value_word_at-value.ensures.tells c.content_of.result q c.content_of.ensures h) in
    let says = subst (λ (a : Content). Says a c.value_word_at-value.result) c.in-Value.is c.content_of.ensures in
    let parts : record { words = c.parts-length.result.1; length = c.parts-length.result.0 } ≡ c.args.key.now = λ j. record { words = (c.parts-length.ensures j).1; length = (c.parts-length.ensures j).0 } in record {
      stored = subst (λ (a : StoredKey). IsStored a q) (sym parts) stored.0;
      key = stored.1;
      knows = subst (λ (p : ℕ × ℕ). KnowsLast q p.0 p.1 (view_of z call x)) (λ j. (sym says.1 j, sym says.2 j)) (knows_last z call r i head gen q v x finds life);
    }
