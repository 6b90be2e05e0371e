-- `try_look` hands on to `try_look_of` by the pass of the table.
use Rattle.std.proofs.Common.{◌≡◌, ℕ, ◌<◌, List, [], ◌∷◌, refl, sym, ap, subst}
use Rattle.std.specs.Prelude.{IfErr, IfOk}
use Rattle.std.specs.Borrow.{RestsIfErr}
use Rattle.std.proofs.raw_atomic.Walks.{proved, leaves}
use Rattle.std.proofs.result.Result.TheLaws.{the_row_laws as result_laws}
use Rattle.std.specs.contracts.result.Result.{the_row as result_row}
use mir.Syntax.{a_type, dcons, dnil, named}
use mir.MapTy.{inst_fn}
use mir.Val.{Val}
use base.Logic.{SProp, emp, id⊢}
use base.Fml.{ftrue, fsep, flft}
use contract.BorrowLft.{◌⊑◌}
use contract.Monad.{fact, fact_i}
use contract.Running.{tables}
use types.Kit.{‵, raw, ◌⊛◌, some, later, ◌$◌, ◌∵◌, !, qed, by, move, keep, drop, use0, use1, use2, split, join, fsplit, fjoin, pick, await, rewrite}
use types.Run.{addr, stop, no_more, and_then, returns, enter}
use types.ByLocal.{alloc_all, pass_all, free_all, look_at, get, through, sets, lands_as}
use denote.Builtin.{u32, RefOf, RefMutOf}
use denote.Exit.{yes, no}
use denote.Follow.{follows}
use denote.Laws.{Is, shows}
use denote.Param.{param, bounded}
use denote.Param.Send.{IsSend}
use denote.RattleType.{RattleType, owns}
use denote.Ref.{MutBor, MutRef, shr_vals, shr_Tells, mut_vals, mut_Tells}
use denote.Signature.{Slot, types_at, plain, named_lft}
use denote.Steps.{nothing, only, heard, peeks}
use denote.Triple.Call.{calls_at}
use denote.Triple.Clauses.{Lasts, lasts}
use denote.Triple.Entry.{Args}
use denote.Triple.Spec.{triple_of}
use denote.Triple.Table.{framed}
use denote.Triple.Walked.{Stays, stay_dropped, walk_of, Goes-dropped}
use Rattle.oak_model.specs.Limits.{Sizes}
use Rattle.oak_core.specs.PassState.{HoldsNothing}
use Rattle.oak_core.specs.Passes.{IsPassOf, key as table_sizes, state as table_state}
use Rattle.oak_core.specs.declared.table.Pass.{Pass}
use Rattle.oak_core.specs.contracts.table.Pass as pass
use Rattle.value_ops.specs.Views.{KnowsView, Viewed}
use Rattle.value_ops.specs.contracts.views.ValueView as view
use Rattle.oak_map.specs.declared.map.MapPass.{MapPass}
use Rattle.oak_map.specs.Maps.{IsReady}
use Rattle.oak_map.specs.Rests.{with_pass}
use Rattle.oak_map.specs.TriedRests.{LendsLifeFor, MapTriedLookRests, RestsUnseen}
use Rattle.oak_map.specs.contracts.map.OakMap as map
use Rattle.oak_map.specs.contracts.map.MapPass as mine
use Rattle.value_ops.specs.declared.reading.Reading.{Reading}
use Rattle.value_ops.specs.contracts.reading.Reading as reading
use Rattle.value_ops.proofs.reading.Reading.TheLaws as reading_laws
use Rattle.value_ops.specs.declared.views.NoRead.{NoRead}
use Rattle.value_ops.specs.contracts.views.NoRead as why
use Rattle.value_ops.proofs.views.NoRead.TheLaws as why_laws
use Rattle.oak_map.proofs.Bounds.{looks_laws, looks_told}
use Rattle.oak_map.proofs.TriedThrough.{tried_rests}
use Rattle.oak_map.specs.contracts.map.OakMap.try_look as f
use Rattle.oak_map.proofs.map.OakMap.try_look.Statement.{statement}
use Rattle.oak_map.proofs.map.OakMap.try_look.Code as code
use Rattle.oak_map.specs.contracts.map.MapPass.pass_mut as g
use Rattle.oak_map.proofs.map.MapPass.pass_mut.Met as g_met
use Rattle.oak_map.specs.contracts.lending.try_look_of as h
use Rattle.oak_map.proofs.lending.try_look_of.Met as h_met

pub try_look_spec : {M : Type 1} → statement M
try_look_spec 𝓤 𝓛 𝓜 𝓡 wired X L gw dw dd mw md =
    let 𝓣 = tables 𝓤 𝓛.H 𝓜 𝓡 𝓡.env in let R : RattleType = param 0 X in
    let En = f.ended X gw dw dd in let c = f.clauses X gw dw dd 𝓛 𝓜.mem 𝓡.returns in
    let inst = bounded (a_type ∷ []) (X, tt) (dcons dw (dcons dd dnil)) in let fn = inst_fn inst code.function in
    let s₀ : Slot 3 = RefOf (0 ∷ []) tt (plain (λ κs. map.the_row R)) (λ κs. tt) in
    let s₁ : Slot 3 = RefMutOf (0 ∷ []) tt (plain (λ κs. mine.the_row)) (λ κs. tt) in
    let s₂ : Slot 3 = RefOf (1 ∷ []) tt (plain (λ κs. view.the_row)) (λ κs. tt) in
    let s₃ : Slot 3 = plain (λ κs. u32) in
    let hs : Stays En.signature.params En.kept = (stay_dropped s₀ yes, (stay_dropped s₁ no, (stay_dropped s₂ yes, (stay_dropped s₃ En.kept.1.1.1.0, tt)))) in
    proved 𝓛 En hs c 𝓜 𝓡
    (Goes-dropped 𝓛 3 s₀ yes (λ κs x w. refl), (Goes-dropped 𝓛 3 s₁ no (λ κs x w. refl), (Goes-dropped 𝓛 3 s₂ yes (λ κs x w. refl), (Goes-dropped 𝓛 3 s₃ En.kept.1.1.1.0 (λ κs x w. refl), tt))))
    (f.Key.name inst) fn (code.unfolded 𝓤 𝓛.H 𝓜 𝓡 wired (X, tt) dw dd)
    (λ κs. (shr_vals, (mut_vals, (shr_vals, ((λ x. looks_told.val x ∷ []), tt)))))
    (λ κs. (shr_Tells (named 0) κs.0 (map.the_row R), (mut_Tells (named 0) κs.0 mine.the_row, (shr_Tells (named 1) κs.1.0 view.the_row, (looks_told.tells, tt))))) (λ κs qs bounds a gh are.
    let ℓ = named_lft 3 0 tt κs in let lk = looks_told.val a.1.1.1.0 ∷ [] in
    let y : (walk_of 𝓛 En hs c).Ghost = ((κs, qs, bounds, a, (shr_vals a.0, (mut_vals a.1.0, (shr_vals a.1.1.0, (lk, tt))))), gh) in
    let Post : Val → SProp 𝓤 = (walk_of 𝓛 En hs c).post y in
    let t₀ = ‵ (flft κs.0 qs.0) in let ts = ‵ (fsep (flft κs.1.0 qs.1.0) (fsep (flft κs.1.1.0 qs.1.1.0) ftrue)) in
    let m : MutBor MapPass = a.1.0 in let k : Viewed = a.1.1.0.now in let looks : ℕ = a.1.1.1.0 in let table = a.0.now.table in
    let z' : Sizes = table_sizes table in let Lives : Type 0 = κs.1.1.0 ⊑ X.lives in let Sends : Type 0 = IsSend R in let Ready : Type 0 = IsReady a.0.now m.now in let Keyed : Pass → Type 0 = λ v. KnowsView z' k (table_state v) in
    let Some : Type 0 = 0 < looks in let Own : Pass → Type 0 = λ v. IsPassOf table v in let Free : Pass → Type 0 = λ v. HoldsNothing (table_state v) in
    let PR : RattleType = MutRef (named 0) κs.0 pass.the_row in let Lt : RattleType = result_row (reading.the_row ℓ) why.the_row in
    let tlk = (looks_laws.lawful 𝓛).typed a.1.1.1.0 lk are.1.1.1.0 in
    -- what becomes of a pass of the table that was v, and is lent so
    let Back : Pass → NoRead → Pass → Type 0 = λ v e q. RestsUnseen z' k looks e v q in
    let Named : MutBor Pass → Lt.Denot → Type 0 = λ r n. IfOk n (λ (x : Reading). x.pass.ghost_name ≡ r.ghost_name) in
    let Fits : Pass → Lt.Denot → Type 0 = λ v n. IfOk n (λ (x : Reading). LendsLifeFor table k v x) in
    qed 𝓛 (((t₀ ⊛ ts) ⊛ ‵ (owns (types_at En.signature.params κs) a y.0.4)) ∷ raw (fact 𝓤 Lives) ∷ raw (fact 𝓤 Sends) ∷ raw (fact 𝓤 Ready) ∷ raw (fact 𝓤 (Keyed m.now.pass)) ∷ raw (fact 𝓤 Some) ∷ []) ∵
    move ! (1 ∷ 2 ∷ 3 ∷ 4 ∷ 5 ∷ []) $ heard ! Lives (λ lives. heard ! Sends (λ sends. heard ! Ready (λ ready. heard ! (Keyed m.now.pass) (λ keyed. heard ! Some (λ some_looks.
    split ! $ split ! $ move ! (2 ∷ []) $ fsplit ! $ move ! (1 ∷ []) $ fsplit ! $
    -- [the pass; what is looked for and the number of looks; the map; the tokens]
    enter ! 𝓣.C 𝓣.Λ fn _ Post $ alloc_all ! (λ l. pass_all ! refl ((tt, tt), ((tt, tt), ((tt, tt), (tlk.0, tt)))) $
    sets ! (addr ! (through ! refl (stop !))) refl (tt, tt) $
    let G = triple_of 𝓛 g.signature (g.spec 𝓛 𝓜.mem 𝓡.returns) in
    let z : G.Ghost = (((κs.0, tt), (qs.0, tt), tt, (m, tt), (mut_vals m, tt)), tt) in
    nothing ! $ move ! (1 ∷ 0 ∷ []) $ fjoin ! $ nothing ! $ move ! (4 ∷ 0 ∷ []) $ join ! $ join ! $ nothing ! $ move ! (1 ∷ 0 ∷ []) $ join ! $ use1 𝓛 (raw (G.pre z)) (id⊢ 𝓤 _) $
    calls_at ! (framed 𝓤 𝓛.H 𝓜 (tables 𝓤 𝓛.H 𝓜 𝓡 𝓡.env)) G (g_met.met 𝓤 𝓛 𝓜 𝓡 (code.calls-oak_map::map::MapPass::pass_mut 𝓡.env wired)) z (and_then ! (get ! refl) (no_more !)) (λ v.
    use1 𝓛 (later (some (λ (r : MutBor Pass). ((t₀ ⊛ ‵ ftrue) ⊛ ‵ (PR.own_val r (v ∷ []))) ⊛
    some (λ (ws : Lasts g.ended (κs.0, tt) (m, tt)). ‵ (lasts g.ended (κs.0, tt) (m, tt) ws) ⊛ (‵ (follows mine.the_row pass.the_row m.ghost_name r.ghost_name (with_pass m.now)) ⊛ raw (fact 𝓤 (r.now ≡ m.now.pass))))))) (id⊢ 𝓤 _) $
    await ! tt $ pick ! (λ r. split ! $ move ! (1 ∷ []) $ pick ! (λ ws. split ! $ drop ! $ split ! $ move ! (1 ∷ []) $ heard ! (r.now ≡ m.now.pass) (λ e.
    move ! (1 ∷ []) $ split ! $ split ! $ move ! (1 ∷ []) $ drop ! $ move ! (1 ∷ []) $ peeks ! PR (Is PR) (shows 𝓛 PR) r (v ∷ []) (λ is.
    let told : (v ∷ []) ≡ mut_vals r = mut_Tells (named 0) κs.0 pass.the_row r (v ∷ []) is in
    rewrite ! 0 (λ (vs : List Val). ‵ (PR.own_val r vs)) told refl $ lands_as ! (ap only told) refl (tt, tt) $
    -- [the pass of the table; its token; how the map's pass follows; what is looked for and the number of looks; the map; the other tokens]
    let H = triple_of 𝓛 (h.signature X) (h.spec X gw dw dd 𝓛 𝓜.mem 𝓡.returns) in
    let b : Args (h.signature X) κs = (r, (a.0, a.1.1)) in
    let x : H.Ghost = ((κs, qs, bounds, b, (mut_vals r, (shr_vals a.0, (shr_vals a.1.1.0, (lk, tt))))), tt) in
    move ! (4 ∷ 3 ∷ []) $ fjoin ! $ move ! (1 ∷ 0 ∷ []) $ fjoin ! $ move ! (1 ∷ 3 ∷ []) $ join ! $ join ! $
    use0 𝓛 (raw (fact 𝓤 Some)) (fact_i 𝓤 Some (emp 𝓤) some_looks) $ use0 𝓛 (raw (fact 𝓤 (Keyed r.now))) (fact_i 𝓤 (Keyed r.now) (emp 𝓤) (subst Keyed (sym e) keyed)) $ join ! $
    use0 𝓛 (raw (fact 𝓤 (Free r.now))) (fact_i 𝓤 (Free r.now) (emp 𝓤) (subst Free (sym e) ready.idle)) $ join ! $ use0 𝓛 (raw (fact 𝓤 (Own r.now))) (fact_i 𝓤 (Own r.now) (emp 𝓤) (subst Own (sym e) ready.own)) $ join ! $
    use0 𝓛 (raw (fact 𝓤 Sends)) (fact_i 𝓤 Sends (emp 𝓤) sends) $ join ! $ use0 𝓛 (raw (fact 𝓤 Lives)) (fact_i 𝓤 Lives (emp 𝓤) lives) $ join ! $ move ! (1 ∷ 0 ∷ []) $ join ! $ use1 𝓛 (raw (H.pre x)) (id⊢ 𝓤 _) $
    calls_at ! (framed 𝓤 𝓛.H 𝓜 (tables 𝓤 𝓛.H 𝓜 𝓡 𝓡.env)) H (h_met.met 𝓤 𝓛 𝓜 𝓡 (code.calls-oak_map::lending::try_look_of 𝓡.env wired) X L gw dw dd mw md) x
    (and_then ! (get ! refl) (and_then ! (get ! refl) (and_then ! (get ! refl) (and_then ! (get ! refl) (no_more !))))) (λ u.
    use1 𝓛 (later (some (λ (n : Lt.Denot). ((t₀ ⊛ ts) ⊛ ‵ (Lt.own_val n (u ∷ []))) ⊛
    some (λ (ws' : Lasts (h.ended X gw dw dd) κs b). ‵ (lasts (h.ended X gw dw dd) κs b ws') ⊛ (‵ (RestsIfErr pass.the_row r (λ (x : Reading). x.pass.ghost_name) n (λ q. IfErr n (λ e. Back r.now e q))) ⊛ (raw (fact 𝓤 (Named r n)) ⊛ raw (fact 𝓤 (Fits r.now n)))))))) (id⊢ 𝓤 _) $
    await ! tt $ pick ! (λ n. split ! $ move ! (1 ∷ []) $ pick ! (λ ws'. split ! $ drop ! $ split ! $ move ! (1 ∷ []) $ split ! $ heard ! (Named r n) (λ named'. heard ! (Fits r.now n) (λ fits.
    move ! (2 ∷ 0 ∷ []) $ use2 𝓛 (‵ (MapTriedLookRests z' m k looks n)) (tried_rests 𝓛 m r n Back e) $ move ! (1 ∷ []) $ split ! $ move ! (1 ∷ []) $
    peeks ! Lt (Is Lt) (shows 𝓛 Lt) n (u ∷ []) (λ is'. lands_as ! refl refl (((result_laws (reading.the_row ℓ) why.the_row (reading_laws.the_row_laws ℓ) why_laws.the_row_laws).lawful 𝓛).typed n (u ∷ []) is').0 $
    -- [what is lent; the tokens; how the map's pass rests]
    use0 𝓛 (raw (fact 𝓤 (Fits m.now.pass n))) (fact_i 𝓤 (Fits m.now.pass n) (emp 𝓤) (subst (λ (v : Pass). Fits v n) e fits)) $ move ! (3 ∷ 0 ∷ []) $ join ! $
    returns ! (look_at ! 0 refl) $ free_all ! refl $
    nothing ! $ nothing ! $ fjoin ! $ nothing ! $ fjoin ! $ nothing ! $ fjoin ! $ nothing ! $ fjoin ! $ keep ! (3 ∷ 0 ∷ 2 ∷ 1 ∷ []) $
    by ! (leaves 𝓛 En hs c y u n (tt, (tt, (tt, (tt, tt)))) (tt, (tt, (tt, (tt, tt)))))))))))))))))))))))
