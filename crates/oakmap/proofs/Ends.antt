-- How the commands end, and the program where the words give one or none.
use Rattle.std.proofs.Common.{◌≡◌, ℕ, List, Option, Some, None, refl, sym, subst, inr}
use Rattle.outside.specs.Whole.{ReadsToEnd}
use Rattle.oakmap.specs.declared.commands.Command.{Command}
use Rattle.oakmap.specs.declared.commands.Command.TheVariants.{Run, Gen}
use Rattle.oakmap.specs.declared.commands.Workload.{Workload}
use Rattle.oakmap.specs.declared.status.TheConstants.{GREATEST_INPUT}
use Rattle.oakmap.specs.declared.status.Status.{Status}
use Rattle.oakmap.specs.declared.status.Status.TheVariants.{Done, Usage, NoScript, ReadFault, WriteFault, NoMemory}
use Rattle.oakmap.specs.Ends.{Input, Output, Says}
use Rattle.oakmap.specs.LentRun.{AnsweredLent, EndsLent, GenEndsLent, RunEndsLent}
use Rattle.oakmap.specs.Messages.{usage_line}

-- an input that was read to its end
pub read_ends : (s : Status) (source source_after : Input) (sink sink_after : Output) (input before after : List ℕ)
    → ReadsToEnd source.left source_after.left GREATEST_INPUT input → AnsweredLent s input sink sink_after before after → RunEndsLent s source source_after sink sink_after before after
read_ends (Done closed) source source_after sink sink_after input before after read a = ((input, read, a.0), a.1)
read_ends (WriteFault closed) source source_after sink sink_after input before after read a = ((input, read, a.0), a.1)
read_ends NoScript source source_after sink sink_after input before after read a = (inr (input, read, a.0), a.1)
read_ends NoMemory source source_after sink sink_after input before after read a = (a.0, a.1)
read_ends Usage source source_after sink sink_after input before after read a = absurd a.0
read_ends ReadFault source source_after sink sink_after input before after read a = absurd a.0

pub usage_ends : (c : Option Command) (source : Input) (sink sink_after : Output) (before : List ℕ) → c ≡ None → Says sink sink_after usage_line → EndsLent Usage c source source sink sink_after before before
usage_ends c source sink sink_after before is says = subst (λ (x : Option Command). EndsLent Usage x source source sink sink_after before before) (sym is) ((refl, refl, says), refl)

pub run_ends : (s : Status) (c : Option Command) (source source_after : Input) (sink sink_after : Output) (before after : List ℕ) → c ≡ Some Run → RunEndsLent s source source_after sink sink_after before after → EndsLent s c source source_after sink sink_after before after
run_ends s c source source_after sink sink_after before after is e = subst (λ (x : Option Command). EndsLent s x source source_after sink sink_after before after) (sym is) (e.0, e.1)

pub gen_ends : (s : Status) (c : Option Command) (w : Workload) (source : Input) (sink sink_after : Output) (before after : List ℕ) → c ≡ Some (Gen w) → GenEndsLent s w sink sink_after before after → EndsLent s c source source sink sink_after before after
gen_ends s c w source sink sink_after before after is e = subst (λ (x : Option Command). EndsLent s x source source sink sink_after before after) (sym is) ((refl, e.0), e.1)
