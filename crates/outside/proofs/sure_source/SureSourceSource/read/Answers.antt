use Rattle.std.proofs.Common.{◌+◌, arith, length, sym, ap}
use Rattle.std.proofs.lemmas.List.{drop_all}
use Rattle.outside.proofs.Read.{drop-split}
use Rattle.outside.proofs.sure_source.SureSourceSource.read.Goals as goal

pub returns-clause-bytes : goal.returns-clause-bytes
returns-clause-bytes c =
    let split = drop-split c.self.inside.bytes.items c.self.inside.place c.copy_front-count.result in (
      rw (← c.self.view_is, c.copy_front-count.ensures.same, c.deref.ensures.value) (sym split),
      λ none some. drop_all (c.self.inside.place + c.copy_front-count.result) c.self.inside.bytes.items (omega (arith, ap length c.deref.ensures.value, c.copy_front-count.auto.piece)),
    )
