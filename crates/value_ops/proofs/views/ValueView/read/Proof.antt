-- `read` hands on to `read_view`, which takes the pass first.
use Rattle.std.proofs.Common.{◌≡◌, [], ◌∷◌, refl, None}
use Rattle.std.proofs.raw_atomic.Walks.{proved, leaves}
use Rattle.std.proofs.result.Result.TheLaws.{the_row_laws as result_laws}
use Rattle.std.specs.contracts.result.Result.{the_row as result_row}
use mir.Syntax.{named}
use mir.Val.{Val}
use base.Logic.{SProp, id⊢}
use base.Fml.{ftrue, fsep, flft}
use contract.Monad.{fact}
use contract.Running.{tables}
use types.Kit.{‵, raw, ◌⊛◌, some, later, ◌$◌, ◌∵◌, !, qed, by, move, keep, drop, use1, split, join, fsplit, fjoin, pick, await}
use types.Run.{addr, stop, no_more, and_then, returns, enter}
use types.ByLocal.{alloc_all, pass_all, free_all, look_at, get, through, sets, lands_as}
use denote.Builtin.{RefOf, RefMutOf}
use denote.Exit.{yes, no}
use denote.Laws.{Is, shows}
use denote.RattleType.{RattleType, owns}
use denote.Ref.{shr_vals, shr_Tells, mut_vals, mut_Tells}
use denote.Signature.{Slot, types_at, plain, named_lft}
use denote.Steps.{nothing, peeks}
use denote.Triple.Call.{calls_at}
use denote.Triple.Clauses.{Lasts, lasts, at_exit}
use denote.Triple.Entry.{Args}
use denote.Triple.Spec.{triple_of}
use denote.Triple.Table.{framed}
use denote.Triple.Walked.{Stays, stay_dropped, walk_of, Goes-dropped}
use contract.Lifetimes.{Lfts}
use Rattle.oak_core.specs.Passes.{IsPassOf, state, key}
use Rattle.oak_core.specs.contracts.table.OakTable as table
use Rattle.oak_core.specs.contracts.table.Pass as pass
use Rattle.value_ops.specs.Views.{KnowsView}
use Rattle.value_ops.specs.contracts.views.ValueView as view
use Rattle.value_ops.specs.contracts.views.NoRead as no_read
use Rattle.value_ops.specs.contracts.reading.Reading as reading
use Rattle.value_ops.proofs.views.NoRead.TheLaws as no_read_laws
use Rattle.value_ops.proofs.reading.Reading.TheLaws as reading_laws
use Rattle.value_ops.specs.contracts.views.ValueView.read as f
use Rattle.value_ops.proofs.views.ValueView.read.Statement.{statement}
use Rattle.value_ops.proofs.views.ValueView.read.Code as code
use Rattle.value_ops.specs.contracts.views.read_view as g
use Rattle.value_ops.proofs.views.read_view.Met.{met}

abbrev ViewRef : Slot 2
ViewRef = RefOf (0 ∷ []) tt (plain (λ κs. view.the_row)) (λ κs. tt)

abbrev TableRef : Slot 2
TableRef = RefOf (1 ∷ []) tt (plain (λ κs. table.the_row)) (λ κs. tt)

abbrev PassRef : Slot 2
PassRef = RefMutOf (1 ∷ []) tt (plain (λ κs. pass.the_row)) (λ κs. tt)

abbrev stayed : Stays f.ended.signature.params f.ended.kept
stayed = (stay_dropped ViewRef yes, (stay_dropped TableRef yes, (stay_dropped PassRef no, tt)))

pub read_spec : {M : Type 1} → statement M
read_spec 𝓤 𝓛 𝓜 𝓡 wired =
    let c = f.clauses 𝓛 𝓜.mem 𝓡.returns in let 𝓣 = tables 𝓤 𝓛.H 𝓜 𝓡 𝓡.env in
    proved 𝓛 f.ended stayed c 𝓜 𝓡
    (Goes-dropped 𝓛 2 ViewRef yes (λ κs x f. refl), (Goes-dropped 𝓛 2 TableRef yes (λ κs x f. refl), (Goes-dropped 𝓛 2 PassRef no (λ κs x f. refl), tt)))
    f.Key.name code.function (code.unfolded 𝓤 𝓛.H 𝓜 𝓡 wired)
    (λ κs. (shr_vals, (shr_vals, (mut_vals, tt))))
    (λ κs. (shr_Tells (named 0) κs.0 view.the_row, (shr_Tells (named 1) κs.1.0 table.the_row, (mut_Tells (named 1) κs.1.0 pass.the_row, tt)))) (λ κs qs bounds a gh are.
    let y : (walk_of 𝓛 f.ended stayed c).Ghost = ((κs, qs, bounds, a, (shr_vals a.0, (shr_vals a.1.0, (mut_vals a.1.1.0, tt)))), gh) in
    let Post : Val → SProp 𝓤 = (walk_of 𝓛 f.ended stayed c).post y in
    let of_view = ‵ (flft κs.0 qs.0) in let of_pass = ‵ (flft κs.1.0 qs.1.0) in
    let js : Lfts 2 = (κs.1.0, (κs.0, tt)) in
    let L : RattleType = result_row (reading.the_row (named_lft 2 1 tt κs)) no_read.the_row in
    let Req : Type 0 = IsPassOf a.1.0.now a.1.1.0.now × KnowsView (key a.1.0.now) a.0.now (state a.1.1.0.now) × ((state a.1.1.0.now).headers.pin ≡ None) in
    qed 𝓛 (((of_view ⊛ ‵ (fsep (flft κs.1.0 qs.1.0) ftrue)) ⊛ ‵ (owns (types_at f.signature.params κs) a y.0.4)) ∷ raw (fact 𝓤 Req) ∷ []) ∵
    -- [the tokens, that of the pass first; the arguments, so too]
    split ! $ split ! $ move ! (1 ∷ []) $ fsplit ! $ move ! (2 ∷ 1 ∷ []) $ fjoin ! $ move ! (1 ∷ 0 ∷ []) $ join ! $ move ! (1 ∷ []) $
    fsplit ! $ move ! (1 ∷ []) $ fsplit ! $ move ! (1 ∷ []) $ fsplit ! $ move ! (3 ∷ 1 ∷ []) $ fjoin ! $ move ! (2 ∷ 0 ∷ []) $ fjoin ! $ move ! (1 ∷ 0 ∷ []) $ fjoin ! $
    enter ! _ _ _ _ _ $ alloc_all ! (λ l. pass_all ! refl ((tt, tt), ((tt, tt), ((tt, tt), tt))) $
    sets ! (addr ! (through ! refl (stop !))) refl (tt, tt) $
    let G = triple_of 𝓛 g.signature (g.spec 𝓛 𝓜.mem 𝓡.returns) in
    let a' : Args g.signature js = (a.1.1.0, (a.1.0, (a.0, tt))) in
    let z : G.Ghost = ((js, (qs.1.0, (qs.0, tt)), bounds, a', (mut_vals a.1.1.0, (shr_vals a.1.0, (shr_vals a.0, tt)))), tt) in
    move ! (1 ∷ 0 ∷ []) $ join ! $ join ! $ use1 𝓛 (raw (G.pre z)) (id⊢ 𝓤 _) $
    calls_at ! (framed 𝓤 𝓛.H 𝓜 (tables 𝓤 𝓛.H 𝓜 𝓡 𝓡.env)) G (met 𝓤 𝓛 𝓜 𝓡 (code.calls-value_ops::views::read_view 𝓡.env wired)) z
    (and_then ! (get ! refl) (and_then ! (get ! refl) (and_then ! (get ! refl) (no_more !)))) (λ v.
    use1 𝓛 (later (some (λ (r : L.Denot). ((of_pass ⊛ ‵ (fsep (flft κs.0 qs.0) ftrue)) ⊛ ‵ (L.own_val r (v ∷ []))) ⊛
    some (λ (ws : Lasts g.ended js a'). ‵ (lasts g.ended js a' ws) ⊛ raw ((g.clauses 𝓛 𝓜.mem 𝓡.returns js a').ensures tt r (at_exit g.ended js a' ws)))))) (id⊢ 𝓤 _) $
    await ! tt $ pick ! (λ r. split ! $ move ! (1 ∷ []) $ pick ! (λ ws. split ! $ drop ! $ move ! (1 ∷ []) $ split ! $ move ! (1 ∷ []) $
    peeks ! L (Is L) (shows 𝓛 L) r (v ∷ []) (λ is.
    -- [the result; the tokens; the `ensures`]
    lands_as ! refl refl (((result_laws (reading.the_row (named_lft 2 1 tt κs)) no_read.the_row (reading_laws.the_row_laws (named_lft 2 1 tt κs)) no_read_laws.the_row_laws).lawful 𝓛).typed r (v ∷ []) is).0 $
    move ! (1 ∷ []) $ split ! $ move ! (1 ∷ []) $ fsplit ! $ move ! (2 ∷ 1 ∷ []) $ fjoin ! $ move ! (1 ∷ 0 ∷ []) $ join ! $ move ! (1 ∷ []) $
    returns ! (look_at ! 0 refl) $ free_all ! refl $
    nothing ! $ nothing ! $ fjoin ! $ nothing ! $ fjoin ! $ nothing ! $ fjoin ! $ keep ! (2 ∷ 0 ∷ 1 ∷ 3 ∷ []) $
    by ! (leaves 𝓛 f.ended stayed c y v r (tt, (tt, (tt, tt))) (tt, (tt, (tt, tt))))))))))
