-- `look` hands on to `look_of` by the pass of the table.
use Rattle.std.proofs.Common.{◌≡◌, List, [], ◌∷◌, refl, sym, ap, subst}
use Rattle.std.proofs.raw_atomic.Walks.{proved, leaves}
use mir.Syntax.{a_type, dcons, dnil, named}
use mir.MapTy.{inst_fn}
use mir.Val.{Val}
use base.Logic.{SProp, emp, id⊢}
use base.Fml.{ftrue, fsep, flft}
use contract.BorrowLft.{◌⊑◌}
use contract.Monad.{fact, fact_i}
use contract.Running.{tables}
use types.Kit.{‵, raw, ◌⊛◌, some, later, ◌$◌, ◌∵◌, !, qed, by, move, keep, drop, use0, use1, use2, split, join, fsplit, fjoin, pick, await, rewrite}
use types.Run.{addr, stop, no_more, and_then, returns, enter}
use types.ByLocal.{alloc_all, pass_all, free_all, look_at, get, through, sets, lands_as}
use denote.Builtin.{RefOf, RefMutOf}
use denote.Exit.{yes, no}
use denote.Follow.{follows}
use denote.Laws.{Is, shows}
use denote.Param.{param, bounded}
use denote.Param.Send.{IsSend}
use denote.RattleType.{RattleType, owns}
use denote.Ref.{MutBor, MutRef, shr_vals, shr_Tells, mut_vals, mut_Tells}
use denote.Signature.{Slot, types_at, plain, named_lft}
use denote.Steps.{nothing, only, heard, peeks}
use denote.Triple.Call.{calls_at}
use denote.Triple.Clauses.{Lasts, lasts}
use denote.Triple.Entry.{Args}
use denote.Triple.Spec.{triple_of}
use denote.Triple.Table.{framed}
use denote.Triple.Walked.{Stays, stay_dropped, walk_of, Goes-dropped}
use Rattle.oak_model.specs.Limits.{Sizes}
use Rattle.oak_core.specs.PassState.{HoldsNothing}
use Rattle.oak_core.specs.Passes.{IsPassOf, key as table_sizes, state as table_state}
use Rattle.oak_core.specs.declared.states.PassState.{PassState}
use Rattle.oak_core.specs.declared.table.Pass.{Pass}
use Rattle.oak_core.specs.contracts.table.Pass as pass
use Rattle.value_ops.specs.Views.{KnowsView, Viewed}
use Rattle.value_ops.specs.contracts.views.ValueView as view
use Rattle.oak_map.specs.declared.map.MapPass.{MapPass}
use Rattle.oak_map.specs.Maps.{IsReady}
use Rattle.oak_map.specs.Rests.{with_pass, LookedRests, LookedFits, MapLookedRests, MapLookedFits}
use Rattle.oak_map.specs.contracts.map.OakMap as map
use Rattle.oak_map.specs.contracts.map.MapPass as mine
use Rattle.oak_map.specs.contracts.lending.Looked as lent
use Rattle.oak_map.proofs.lending.Looked.TheLaws as lent_laws
use Rattle.oak_map.proofs.Through.{looked_rests, looked_fits}
use Rattle.oak_map.specs.contracts.map.OakMap.look as f
use Rattle.oak_map.proofs.map.OakMap.look.Statement.{statement}
use Rattle.oak_map.proofs.map.OakMap.look.Code as code
use Rattle.oak_map.specs.contracts.map.MapPass.pass_mut as g
use Rattle.oak_map.proofs.map.MapPass.pass_mut.Met as g_met
use Rattle.oak_map.specs.contracts.lending.look_of as h
use Rattle.oak_map.proofs.lending.look_of.Met as h_met

pub look_spec : {M : Type 1} → statement M
look_spec 𝓤 𝓛 𝓜 𝓡 wired X L gw dw dd mw md =
    let 𝓣 = tables 𝓤 𝓛.H 𝓜 𝓡 𝓡.env in let R : RattleType = param 0 X in
    let En = f.ended X gw dw dd in let c = f.clauses X gw dw dd 𝓛 𝓜.mem 𝓡.returns in
    let inst = bounded (a_type ∷ []) (X, tt) (dcons dw (dcons dd dnil)) in let fn = inst_fn inst code.function in
    let s₀ : Slot 4 = RefOf (0 ∷ []) tt (plain (λ κs. map.the_row R)) (λ κs. tt) in
    let s₁ : Slot 4 = RefOf (1 ∷ []) tt (plain (λ κs. R)) (λ κs. tt) in
    let s₂ : Slot 4 = RefMutOf (0 ∷ []) tt (plain (λ κs. mine.the_row)) (λ κs. tt) in
    let s₃ : Slot 4 = RefOf (2 ∷ []) tt (plain (λ κs. view.the_row)) (λ κs. tt) in
    let hs : Stays En.signature.params En.kept = (stay_dropped s₀ yes, (stay_dropped s₁ yes, (stay_dropped s₂ no, (stay_dropped s₃ yes, tt)))) in
    proved 𝓛 En hs c 𝓜 𝓡
    (Goes-dropped 𝓛 4 s₀ yes (λ κs x w. refl), (Goes-dropped 𝓛 4 s₁ yes (λ κs x w. refl), (Goes-dropped 𝓛 4 s₂ no (λ κs x w. refl), (Goes-dropped 𝓛 4 s₃ yes (λ κs x w. refl), tt))))
    (f.Key.name inst) fn (code.unfolded 𝓤 𝓛.H 𝓜 𝓡 wired (X, tt) dw dd)
    (λ κs. (shr_vals, (shr_vals, (mut_vals, (shr_vals, tt)))))
    (λ κs. (shr_Tells (named 0) κs.0 (map.the_row R), (shr_Tells (named 1) κs.1.0 R, (mut_Tells (named 0) κs.0 mine.the_row, (shr_Tells (named 2) κs.1.1.0 view.the_row, tt))))) (λ κs qs bounds a gh are.
    let y : (walk_of 𝓛 En hs c).Ghost = ((κs, qs, bounds, a, (shr_vals a.0, (shr_vals a.1.0, (mut_vals a.1.1.0, (shr_vals a.1.1.1.0, tt))))), gh) in
    let Post : Val → SProp 𝓤 = (walk_of 𝓛 En hs c).post y in
    let t₀ = ‵ (flft κs.0 qs.0) in let ts = ‵ (fsep (flft κs.1.0 qs.1.0) (fsep (flft κs.1.1.0 qs.1.1.0) (fsep (flft κs.1.1.1.0 qs.1.1.1.0) ftrue))) in
    let m : MutBor MapPass = a.1.1.0 in let k : Viewed = a.1.1.1.0.now in let table = a.0.now.table in
    let z' : Sizes = table_sizes table in let Lives : Type 0 = κs.1.1.1.0 ⊑ X.lives in let Sends : Type 0 = IsSend R in let Ready : Type 0 = IsReady a.0.now m.now in let Known : PassState → Type 0 = λ v. KnowsView z' k v in let Own : Pass → Type 0 = λ v. IsPassOf table v in let Free : Pass → Type 0 = λ v. HoldsNothing (table_state v) in
    let PR : RattleType = MutRef (named 0) κs.0 pass.the_row in let Lt : RattleType = lent.the_row (named_lft 4 0 tt κs) in
    qed 𝓛 (((t₀ ⊛ ts) ⊛ ‵ (owns (types_at En.signature.params κs) a y.0.4)) ∷ raw (fact 𝓤 Lives) ∷ raw (fact 𝓤 Sends) ∷ raw (fact 𝓤 Ready) ∷ raw (fact 𝓤 (Known (table_state m.now.pass))) ∷ []) ∵
    move ! (1 ∷ 2 ∷ 3 ∷ 4 ∷ []) $ heard ! Lives (λ lives. heard ! Sends (λ sends. heard ! Ready (λ ready. heard ! (Known (table_state m.now.pass)) (λ known.
    split ! $ split ! $ move ! (2 ∷ []) $ fsplit ! $ move ! (1 ∷ []) $ fsplit ! $ move ! (1 ∷ []) $ fsplit ! $
    -- [the pass; the view; the handle; the map; the tokens]
    enter ! 𝓣.C 𝓣.Λ fn _ Post $ alloc_all ! (λ l. pass_all ! refl ((tt, tt), ((tt, tt), ((tt, tt), ((tt, tt), tt)))) $
    sets ! (addr ! (through ! refl (stop !))) refl (tt, tt) $
    let G = triple_of 𝓛 g.signature (g.spec 𝓛 𝓜.mem 𝓡.returns) in
    let z : G.Ghost = (((κs.0, tt), (qs.0, tt), tt, (m, tt), (mut_vals m, tt)), tt) in
    nothing ! $ move ! (1 ∷ 0 ∷ []) $ fjoin ! $ nothing ! $ move ! (5 ∷ 0 ∷ []) $ join ! $ join ! $ nothing ! $ move ! (1 ∷ 0 ∷ []) $ join ! $ use1 𝓛 (raw (G.pre z)) (id⊢ 𝓤 _) $
    calls_at ! (framed 𝓤 𝓛.H 𝓜 (tables 𝓤 𝓛.H 𝓜 𝓡 𝓡.env)) G (g_met.met 𝓤 𝓛 𝓜 𝓡 (code.calls-oak_map::map::MapPass::pass_mut 𝓡.env wired)) z (and_then ! (get ! refl) (no_more !)) (λ v.
    use1 𝓛 (later (some (λ (r : MutBor Pass). ((t₀ ⊛ ‵ ftrue) ⊛ ‵ (PR.own_val r (v ∷ []))) ⊛
    some (λ (ws : Lasts g.ended (κs.0, tt) (m, tt)). ‵ (lasts g.ended (κs.0, tt) (m, tt) ws) ⊛ (‵ (follows mine.the_row pass.the_row m.ghost_name r.ghost_name (with_pass m.now)) ⊛ raw (fact 𝓤 (r.now ≡ m.now.pass))))))) (id⊢ 𝓤 _) $
    await ! tt $ pick ! (λ r. split ! $ move ! (1 ∷ []) $ pick ! (λ ws. split ! $ drop ! $ split ! $ move ! (1 ∷ []) $ heard ! (r.now ≡ m.now.pass) (λ e.
    move ! (1 ∷ []) $ split ! $ split ! $ move ! (1 ∷ []) $ drop ! $ move ! (1 ∷ []) $ peeks ! PR (Is PR) (shows 𝓛 PR) r (v ∷ []) (λ is.
    let told : (v ∷ []) ≡ mut_vals r = mut_Tells (named 0) κs.0 pass.the_row r (v ∷ []) is in
    rewrite ! 0 (λ (vs : List Val). ‵ (PR.own_val r vs)) told refl $ lands_as ! (ap only told) refl (tt, tt) $
    -- [the pass of the table; its token; how the map's pass follows; the view; the handle; the map; the other tokens]
    let H = triple_of 𝓛 (h.signature X) (h.spec X gw dw dd 𝓛 𝓜.mem 𝓡.returns) in
    let b : Args (h.signature X) κs = (r, (a.1.0, (a.0, (a.1.1.1.0, tt)))) in
    let x : H.Ghost = ((κs, qs, (bounds.1.0, (bounds.0, tt)), b, (mut_vals r, (shr_vals a.1.0, (shr_vals a.0, (shr_vals a.1.1.1.0, tt))))), tt) in
    move ! (5 ∷ 3 ∷ []) $ fjoin ! $ move ! (4 ∷ 0 ∷ []) $ fjoin ! $ move ! (1 ∷ 0 ∷ []) $ fjoin ! $ move ! (1 ∷ 3 ∷ []) $ join ! $ join ! $
    use0 𝓛 (raw (fact 𝓤 (Known (table_state r.now)))) (fact_i 𝓤 (Known (table_state r.now)) (emp 𝓤) (subst (λ (v : Pass). Known (table_state v)) (sym e) known)) $ use0 𝓛 (raw (fact 𝓤 (Free r.now))) (fact_i 𝓤 (Free r.now) (emp 𝓤) (subst Free (sym e) ready.idle)) $ join ! $
    use0 𝓛 (raw (fact 𝓤 (Own r.now))) (fact_i 𝓤 (Own r.now) (emp 𝓤) (subst Own (sym e) ready.own)) $ join ! $ use0 𝓛 (raw (fact 𝓤 Sends)) (fact_i 𝓤 Sends (emp 𝓤) sends) $ join ! $ use0 𝓛 (raw (fact 𝓤 Lives)) (fact_i 𝓤 Lives (emp 𝓤) lives) $ join ! $ move ! (1 ∷ 0 ∷ []) $ join ! $ use1 𝓛 (raw (H.pre x)) (id⊢ 𝓤 _) $
    calls_at ! (framed 𝓤 𝓛.H 𝓜 (tables 𝓤 𝓛.H 𝓜 𝓡 𝓡.env)) H (h_met.met 𝓤 𝓛 𝓜 𝓡 (code.calls-oak_map::lending::look_of 𝓡.env wired) X L gw dw dd mw md) x
    (and_then ! (get ! refl) (and_then ! (get ! refl) (and_then ! (get ! refl) (and_then ! (get ! refl) (no_more !))))) (λ u.
    use1 𝓛 (later (some (λ (n : Lt.Denot). ((t₀ ⊛ ts) ⊛ ‵ (Lt.own_val n (u ∷ []))) ⊛
    some (λ (ws' : Lasts (h.ended X gw dw dd) κs b). ‵ (lasts (h.ended X gw dw dd) κs b ws') ⊛ (‵ (LookedRests z' r k n) ⊛ raw (fact 𝓤 (LookedFits table r k n))))))) (id⊢ 𝓤 _) $
    await ! tt $ pick ! (λ n. split ! $ move ! (1 ∷ []) $ pick ! (λ ws'. split ! $ drop ! $ split ! $ move ! (1 ∷ []) $ heard ! (LookedFits table r k n) (λ fits.
    move ! (2 ∷ 0 ∷ []) $ use2 𝓛 (‵ (MapLookedRests z' m k n)) (looked_rests 𝓛 z' m r k n e) $ move ! (1 ∷ []) $ split ! $ move ! (1 ∷ []) $
    peeks ! Lt (Is Lt) (shows 𝓛 Lt) n (u ∷ []) (λ is'. lands_as ! refl refl (((lent_laws.the_row_laws (named_lft 4 0 tt κs)).lawful 𝓛).typed n (u ∷ []) is').0 $
    -- [what is lent; the tokens; how the map's pass rests]
    use0 𝓛 (raw (fact 𝓤 (MapLookedFits table m k n))) (fact_i 𝓤 (MapLookedFits table m k n) (emp 𝓤) (looked_fits table m r k n e fits)) $ move ! (3 ∷ 0 ∷ []) $ join ! $
    returns ! (look_at ! 0 refl) $ free_all ! refl $
    nothing ! $ nothing ! $ fjoin ! $ nothing ! $ fjoin ! $ nothing ! $ fjoin ! $ nothing ! $ fjoin ! $ keep ! (3 ∷ 0 ∷ 2 ∷ 1 ∷ []) $
    by ! (leaves 𝓛 En hs c y u n (tt, (tt, (tt, (tt, tt)))) (tt, (tt, (tt, (tt, tt)))))))))))))))))))))
