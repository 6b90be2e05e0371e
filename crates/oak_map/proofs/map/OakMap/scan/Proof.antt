-- `scan` hands on to `scan_within` by the pass of the table.
use Rattle.std.proofs.Common.{◌≡◌, List, [], ◌∷◌, None, refl, sym, ap, ◌∙◌, subst}
use Rattle.std.specs.Prelude.{IfSome, MatchOption}
use Rattle.std.proofs.raw_atomic.Walks.{proved, leaves}
use mir.Syntax.{a_type, dcons, dnil, named}
use mir.MapTy.{inst_fn}
use mir.Val.{Val}
use base.Logic.{SProp, emp, id⊢}
use base.Fml.{GName, ftrue, fsep, flft}
use contract.BorrowLft.{◌⊑◌}
use contract.Monad.{fact, fact_i}
use contract.Running.{tables}
use types.Kit.{‵, raw, ◌⊛◌, some, later, ◌$◌, ◌∵◌, !, qed, by, move, keep, drop, use0, use1, split, join, fsplit, fjoin, pick, await, rewrite}
use types.Run.{addr, of_opd, stop, no_more, and_then, returns, enter}
use types.ByLocal.{alloc_all, pass_all, free_all, look_at, get, through, sets, lands_as}
use denote.Builtin.{RefOf, RefMutOf}
use denote.Exit.{yes, no}
use denote.Follow.{follows}
use denote.Laws.{Is, shows}
use denote.RattleType.{RattleType, owns}
use denote.Param.{param, bounded}
use denote.Param.Send.{IsSend}
use denote.Ref.{MutBor, MutRef, shr_vals, shr_Tells, mut_vals, mut_Tells}
use denote.Signature.{Slot, types_at, plain, named_lft}
use denote.Steps.{nothing, only, heard, peeks}
use denote.Triple.Call.{calls_at}
use denote.Triple.Clauses.{Lasts, lasts}
use denote.Triple.Entry.{Args}
use denote.Triple.Spec.{triple_of}
use denote.Triple.Table.{framed}
use denote.Triple.Walked.{Stays, stay_dropped, walk_of, Goes-dropped}
use Rattle.oak_model.specs.Key.{IsKey}
use Rattle.oak_model.specs.Limits.{Sizes}
use Rattle.oak_core.specs.PassState.{HoldsNothing}
use Rattle.oak_core.specs.Passes.{IsPassOf, key as table_sizes, state as table_state}
use Rattle.oak_core.specs.declared.table.Pass.{Pass}
use Rattle.oak_core.specs.contracts.table.Pass as pass
use Rattle.scan_cursor.specs.Cursors.{HasGiven, IsCursor}
use Rattle.scan_cursor.specs.Holding.{greatest_key}
use Rattle.scan_cursor.specs.Scanned.{least_key}
use Rattle.scan_cursor.specs.Walks.{view_at}
use Rattle.scan_cursor.specs.contracts.cursor.Cursor as cursor
use Rattle.scan_cursor.proofs.cursor.Cursor.TheLaws as cursor_laws
use Rattle.scan_cursor.specs.contracts.ways.Way as way
use Rattle.scan_cursor.proofs.ways.Way.TheLaws as way_laws
use Rattle.oak_map.specs.declared.map.MapPass.{MapPass}
use Rattle.oak_map.specs.Maps.{IsReady}
use Rattle.oak_map.specs.Rests.{with_pass}
use Rattle.oak_map.specs.contracts.map.OakMap as map
use Rattle.oak_map.specs.contracts.map.MapPass as mine
use Rattle.oak_map.proofs.Bounds.{bound, bound_told, bound_laws}
use Rattle.oak_map.specs.contracts.map.OakMap.scan as f
use Rattle.oak_map.proofs.map.OakMap.scan.Statement.{statement}
use Rattle.oak_map.proofs.map.OakMap.scan.Code as code
use Rattle.oak_map.specs.contracts.map.MapPass.pass_mut as g
use Rattle.oak_map.proofs.map.MapPass.pass_mut.Met as g_met
use Rattle.oak_map.specs.contracts.lending.scan_within as h
use Rattle.oak_map.proofs.lending.scan_within.Met as h_met

pub scan_spec : {M : Type 1} → statement M
scan_spec 𝓤 𝓛 𝓜 𝓡 wired X L gw dw dd mw md =
    let 𝓣 = tables 𝓤 𝓛.H 𝓜 𝓡 𝓡.env in let R : RattleType = param 0 X in
    let En = f.ended X gw dw dd in let c = f.clauses X gw dw dd 𝓛 𝓜.mem 𝓡.returns in
    let inst = bounded (a_type ∷ []) (X, tt) (dcons dw (dcons dd dnil)) in let fn = inst_fn inst code.function in
    let s₀ : Slot 2 = RefOf (0 ∷ []) tt (plain (λ κs. map.the_row R)) (λ κs. tt) in
    let s₁ : Slot 2 = RefMutOf (0 ∷ []) tt (plain (λ κs. mine.the_row)) (λ κs. tt) in
    let s₂ : Slot 2 = plain (λ κs. bound (named_lft 2 0 tt κs)) in
    let s₃ : Slot 2 = plain (λ κs. way.the_row) in
    let hs : Stays En.signature.params En.kept = (stay_dropped s₀ yes, (stay_dropped s₁ no, (stay_dropped s₂ En.kept.1.1.0, (stay_dropped s₂ En.kept.1.1.1.0, (stay_dropped s₃ En.kept.1.1.1.1.0, tt))))) in
    proved 𝓛 En hs c 𝓜 𝓡
    (Goes-dropped 𝓛 2 s₀ yes (λ κs x w. refl), (Goes-dropped 𝓛 2 s₁ no (λ κs x w. refl), (Goes-dropped 𝓛 2 s₂ En.kept.1.1.0 (λ κs x w. refl), (Goes-dropped 𝓛 2 s₂ En.kept.1.1.1.0 (λ κs x w. refl), (Goes-dropped 𝓛 2 s₃ En.kept.1.1.1.1.0 (λ κs x w. refl), tt)))))
    (f.Key.name inst) fn (code.unfolded 𝓤 𝓛.H 𝓜 𝓡 wired (X, tt) dw dd)
    (λ κs. let b = bound_told (named_lft 2 0 tt κs) in (shr_vals, (mut_vals, ((λ x. b.val x ∷ []), ((λ x. b.val x ∷ []), ((λ x. way_laws.the_told.val x ∷ []), tt))))))
    (λ κs. let b = bound_told (named_lft 2 0 tt κs) in (shr_Tells (named 0) κs.0 (map.the_row R), (mut_Tells (named 0) κs.0 mine.the_row, (b.tells, (b.tells, (way_laws.the_told.tells, tt)))))) (λ κs qs bounds a gh are.
    let ℓ = named_lft 2 0 tt κs in let b = bound_told ℓ in let w = way_laws.the_told in
    let lo = b.val a.1.1.0 ∷ [] in let hi = b.val a.1.1.1.0 ∷ [] in let wy = w.val a.1.1.1.1.0 ∷ [] in
    let y : (walk_of 𝓛 En hs c).Ghost = ((κs, qs, bounds, a, (shr_vals a.0, (mut_vals a.1.0, (lo, (hi, (wy, tt)))))), gh) in
    let Post : Val → SProp 𝓤 = (walk_of 𝓛 En hs c).post y in
    let t₀ = ‵ (flft κs.0 qs.0) in let ts = ‵ (fsep (flft κs.1.0 qs.1.0) ftrue) in
    let m : MutBor MapPass = a.1.0 in let table = a.0.now.table in let z' : Sizes = table_sizes table in
    let Lives : Type 0 = κs.1.0 ⊑ X.lives in let Sends : Type 0 = IsSend R in let Ready : Type 0 = IsReady a.0.now m.now in let Own : Pass → Type 0 = λ v. IsPassOf table v in let Free : Pass → Type 0 = λ v. HoldsNothing (table_state v) in
    let Low : Type 0 = IfSome a.1.1.0 (λ k. IsKey k.now) in let High : Type 0 = IfSome a.1.1.1.0 (λ k. IsKey k.now) in
    let PR : RattleType = MutRef (named 0) κs.0 pass.the_row in let Ct : RattleType = cursor.the_row ℓ in
    let tlo = ((bound_laws ℓ).lawful 𝓛).typed a.1.1.0 lo are.1.1.0 in let thi = ((bound_laws ℓ).lawful 𝓛).typed a.1.1.1.0 hi are.1.1.1.0 in let twy = (way_laws.the_row_laws.lawful 𝓛).typed a.1.1.1.1.0 wy are.1.1.1.1.0 in
    -- what is said of the cursor, begun by a pass
    let Named : MutBor Pass → Ct.Denot → Type 0 = λ r n. n.pass.ghost_name ≡ r.ghost_name in
    let Tabled : Ct.Denot → Type 0 = λ n. n.table.now ≡ table in
    let Same : Pass → Ct.Denot → Type 0 = λ v n. n.pass.now ≡ v in
    let FromLow : Ct.Denot → Type 0 = λ n. MatchOption a.1.1.0 (n.low ≡ least_key) (λ k. n.low ≡ k.now) in
    let ToHigh : Ct.Denot → Type 0 = λ n. MatchOption a.1.1.1.0 (n.high ≡ greatest_key) (λ k. n.high ≡ k.now) in
    let Ways : Ct.Denot → Type 0 = λ n. n.way ≡ a.1.1.1.1.0 in
    let NoValue : Ct.Denot → Type 0 = λ n. n.value ≡ None in
    let Is' : Ct.Denot → Type 0 = λ n. IsCursor n in
    let Starts : Pass → Ct.Denot → Type 0 = λ v n. HasGiven n (view_at z' v) [] in
    qed 𝓛 (((t₀ ⊛ ts) ⊛ ‵ (owns (types_at En.signature.params κs) a y.0.4)) ∷ raw (fact 𝓤 Lives) ∷ raw (fact 𝓤 Sends) ∷ raw (fact 𝓤 Ready) ∷ raw (fact 𝓤 Low) ∷ raw (fact 𝓤 High) ∷ []) ∵
    move ! (1 ∷ 2 ∷ 3 ∷ 4 ∷ 5 ∷ []) $ heard ! Lives (λ lives. heard ! Sends (λ sends. heard ! Ready (λ ready. heard ! Low (λ keyed_low. heard ! High (λ keyed_high.
    split ! $ split ! $ move ! (2 ∷ []) $ fsplit ! $ move ! (1 ∷ []) $ fsplit ! $
    -- [the pass; the bounds and the way; the map; the tokens]
    enter ! 𝓣.C 𝓣.Λ fn _ Post $ alloc_all ! (λ l. pass_all ! refl ((tt, tt), ((tt, tt), (tlo.0, (thi.0, (twy.0, tt))))) $
    sets ! (addr ! (through ! refl (stop !))) refl (tt, tt) $
    let G = triple_of 𝓛 g.signature (g.spec 𝓛 𝓜.mem 𝓡.returns) in
    let z : G.Ghost = (((κs.0, tt), (qs.0, tt), tt, (m, tt), (mut_vals m, tt)), tt) in
    nothing ! $ move ! (1 ∷ 0 ∷ []) $ fjoin ! $ nothing ! $ move ! (4 ∷ 0 ∷ []) $ join ! $ join ! $ nothing ! $ move ! (1 ∷ 0 ∷ []) $ join ! $ use1 𝓛 (raw (G.pre z)) (id⊢ 𝓤 _) $
    calls_at ! (framed 𝓤 𝓛.H 𝓜 (tables 𝓤 𝓛.H 𝓜 𝓡 𝓡.env)) G (g_met.met 𝓤 𝓛 𝓜 𝓡 (code.calls-oak_map::map::MapPass::pass_mut 𝓡.env wired)) z (and_then ! (get ! refl) (no_more !)) (λ v.
    use1 𝓛 (later (some (λ (r : MutBor Pass). ((t₀ ⊛ ‵ ftrue) ⊛ ‵ (PR.own_val r (v ∷ []))) ⊛
    some (λ (ws : Lasts g.ended (κs.0, tt) (m, tt)). ‵ (lasts g.ended (κs.0, tt) (m, tt) ws) ⊛ (‵ (follows mine.the_row pass.the_row m.ghost_name r.ghost_name (with_pass m.now)) ⊛ raw (fact 𝓤 (r.now ≡ m.now.pass))))))) (id⊢ 𝓤 _) $
    await ! tt $ pick ! (λ r. split ! $ move ! (1 ∷ []) $ pick ! (λ ws. split ! $ drop ! $ split ! $ move ! (1 ∷ []) $ heard ! (r.now ≡ m.now.pass) (λ e.
    move ! (1 ∷ []) $ split ! $ split ! $ move ! (1 ∷ []) $ drop ! $ move ! (1 ∷ []) $ peeks ! PR (Is PR) (shows 𝓛 PR) r (v ∷ []) (λ is.
    let told : (v ∷ []) ≡ mut_vals r = mut_Tells (named 0) κs.0 pass.the_row r (v ∷ []) is in
    rewrite ! 0 (λ (vs : List Val). ‵ (PR.own_val r vs)) told refl $ lands_as ! (ap only told) refl (tt, tt) $
    sets ! (of_opd ! (get ! refl)) refl tlo.0 $ sets ! (of_opd ! (get ! refl)) refl thi.0 $
    -- [the pass of the table; its token; how the map's pass follows; the bounds and the way; the map; the other tokens]
    let H = triple_of 𝓛 (h.signature X) (h.spec X gw dw dd 𝓛 𝓜.mem 𝓡.returns) in
    let b' : Args (h.signature X) κs = (a.0, (r, a.1.1)) in
    let x : H.Ghost = ((κs, qs, bounds, b', (shr_vals a.0, (mut_vals r, (lo, (hi, (wy, tt)))))), tt) in
    move ! (0 ∷ 3 ∷ []) $ fjoin ! $ move ! (3 ∷ 0 ∷ []) $ fjoin ! $ move ! (1 ∷ 3 ∷ []) $ join ! $ join ! $
    use0 𝓛 (raw (fact 𝓤 High)) (fact_i 𝓤 High (emp 𝓤) keyed_high) $ use0 𝓛 (raw (fact 𝓤 Low)) (fact_i 𝓤 Low (emp 𝓤) keyed_low) $ join ! $
    use0 𝓛 (raw (fact 𝓤 (Free r.now))) (fact_i 𝓤 (Free r.now) (emp 𝓤) (subst Free (sym e) ready.idle)) $ join ! $ use0 𝓛 (raw (fact 𝓤 (Own r.now))) (fact_i 𝓤 (Own r.now) (emp 𝓤) (subst Own (sym e) ready.own)) $ join ! $
    use0 𝓛 (raw (fact 𝓤 Sends)) (fact_i 𝓤 Sends (emp 𝓤) sends) $ join ! $ use0 𝓛 (raw (fact 𝓤 Lives)) (fact_i 𝓤 Lives (emp 𝓤) lives) $ join ! $ move ! (1 ∷ 0 ∷ []) $ join ! $ use1 𝓛 (raw (H.pre x)) (id⊢ 𝓤 _) $
    calls_at ! (framed 𝓤 𝓛.H 𝓜 (tables 𝓤 𝓛.H 𝓜 𝓡 𝓡.env)) H (h_met.met 𝓤 𝓛 𝓜 𝓡 (code.calls-oak_map::lending::scan_within 𝓡.env wired) X L gw dw dd mw md) x
    (and_then ! (get ! refl) (and_then ! (get ! refl) (and_then ! (get ! refl) (and_then ! (get ! refl) (and_then ! (get ! refl) (no_more !)))))) (λ u.
    use1 𝓛 (later (some (λ (n : Ct.Denot). ((t₀ ⊛ ts) ⊛ ‵ (Ct.own_val n (u ∷ []))) ⊛
    some (λ (ws' : Lasts (h.ended X gw dw dd) κs b'). ‵ (lasts (h.ended X gw dw dd) κs b' ws') ⊛ (raw (fact 𝓤 (Named r n)) ⊛ (raw (fact 𝓤 (Tabled n)) ⊛ (raw (fact 𝓤 (Same r.now n)) ⊛ (raw (fact 𝓤 (FromLow n)) ⊛ (raw (fact 𝓤 (ToHigh n)) ⊛ (raw (fact 𝓤 (Ways n)) ⊛ (raw (fact 𝓤 (NoValue n)) ⊛ (raw (fact 𝓤 (Is' n)) ⊛ raw (fact 𝓤 (Starts r.now n)))))))))))))) (id⊢ 𝓤 _) $
    await ! tt $ pick ! (λ n. split ! $ move ! (1 ∷ []) $ pick ! (λ ws'. split ! $ drop ! $ split ! $ heard ! (Named r n) (λ named'. split ! $ heard ! (Tabled n) (λ tabled. split ! $ heard ! (Same r.now n) (λ same. split ! $ heard ! (FromLow n) (λ from_low. split ! $ heard ! (ToHigh n) (λ to_high.
    split ! $ heard ! (Ways n) (λ ways. split ! $ heard ! (NoValue n) (λ no_value. split ! $ heard ! (Is' n) (λ is_cursor. heard ! (Starts r.now n) (λ starts.
    move ! (1 ∷ []) $ rewrite ! 0 (λ (γ : GName). ‵ (follows mine.the_row pass.the_row m.ghost_name γ (with_pass m.now))) (sym named') refl $ move ! (1 ∷ []) $ split ! $ move ! (1 ∷ []) $
    peeks ! Ct (Is Ct) (shows 𝓛 Ct) n (u ∷ []) (λ is'. lands_as ! refl refl (((cursor_laws.the_row_laws ℓ).lawful 𝓛).typed n (u ∷ []) is').0 $
    -- [the cursor; the tokens; how the map's pass follows]
    use0 𝓛 (raw (fact 𝓤 (Starts m.now.pass n))) (fact_i 𝓤 (Starts m.now.pass n) (emp 𝓤) (subst (λ (v : Pass). Starts v n) e starts)) $ use0 𝓛 (raw (fact 𝓤 (Is' n))) (fact_i 𝓤 (Is' n) (emp 𝓤) is_cursor) $ join ! $
    use0 𝓛 (raw (fact 𝓤 (NoValue n))) (fact_i 𝓤 (NoValue n) (emp 𝓤) no_value) $ join ! $ use0 𝓛 (raw (fact 𝓤 (Ways n))) (fact_i 𝓤 (Ways n) (emp 𝓤) ways) $ join ! $
    use0 𝓛 (raw (fact 𝓤 (ToHigh n))) (fact_i 𝓤 (ToHigh n) (emp 𝓤) to_high) $ join ! $ use0 𝓛 (raw (fact 𝓤 (FromLow n))) (fact_i 𝓤 (FromLow n) (emp 𝓤) from_low) $ join ! $
    use0 𝓛 (raw (fact 𝓤 (Same m.now.pass n))) (fact_i 𝓤 (Same m.now.pass n) (emp 𝓤) (same ∙ e)) $ join ! $ use0 𝓛 (raw (fact 𝓤 (Tabled n))) (fact_i 𝓤 (Tabled n) (emp 𝓤) tabled) $ join ! $
    move ! (3 ∷ 0 ∷ []) $ join ! $ returns ! (look_at ! 0 refl) $ free_all ! refl $
    nothing ! $ nothing ! $ fjoin ! $ nothing ! $ fjoin ! $ nothing ! $ fjoin ! $ nothing ! $ fjoin ! $ nothing ! $ fjoin ! $ keep ! (3 ∷ 0 ∷ 2 ∷ 1 ∷ []) $
    by ! (leaves 𝓛 En hs c y u n (tt, (tt, (tt, (tt, (tt, tt))))) (tt, (tt, (tt, (tt, (tt, tt)))))))))))))))))))))))))))))))
