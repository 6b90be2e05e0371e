use Rattle.std.proofs.Common.{◌≡◌, map, Some}
use Rattle.std.specs.String.{string_bytes}
use Rattle.oakmap.specs.declared.commands.Command.TheVariants.{Run, Gen}
use Rattle.oakmap.specs.Commands.{command_of}
use Rattle.oakmap.proofs.Ends.{gen_ends, run_ends}
use Rattle.oakmap.proofs.ending.run.Goals as goal

pub returns-in-Some-Run : goal.returns-in-Some-Run
returns-in-Some-Run g c =
    let is : command_of (map (λ w. string_bytes w) c.args.words.now) ≡ Some Run = cc in
    run_ends c.run_input.result _ _ _ _ _ _ _ is c.run_input.ensures

pub returns-in-Some-Gen : goal.returns-in-Some-Gen
returns-in-Some-Gen g c =
    let is : command_of (map (λ w. string_bytes w) c.args.words.now) ≡ Some (Gen c.in-Some-Gen.asked) = cc in
    gen_ends c.put_workload.result _ c.in-Some-Gen.asked _ _ _ _ _ is c.put_workload.ensures
