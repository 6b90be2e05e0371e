use Rattle.std.proofs.Common.{[], rules, subst, sym, Option}
use Rattle.oak_core.specs.declared.states.PassState.{PassState}
use Rattle.oak_core.specs.AloneWords.{Runs}
use Rattle.oak_core.specs.Passes.{state, key as sizes, call_of}
use Rattle.chunk_ops.specs.declared.entries.EntryNo.{EntryNo}
use Rattle.chunk_ops.specs.declared.entries.Found.TheVariants.{Entry}
use Rattle.chunk_ops.specs.Finds.{BelongsBehind, FindsMissing, LiesBefore}
use Rattle.chunk_ops.specs.FindsAlone.{FindsIn, LacksIn}
use Rattle.chunk_ops.specs.PinRecords.{HasEntry, UnderPin}
use Rattle.chunk_ops.specs.TableLaws.{meets_nothing}
use Rattle.chunk_ops.proofs.CompareFacts.{slice_bytes}
use Rattle.chunk_ops.proofs.KeysFound.{below_before, entry_found, found_alone, missing_alone, missing_found, place_found}
use Rattle.chunk_ops.proofs.SearchLoads.{searched}
use Rattle.chunk_ops.proofs.searching.find.Goals as goal

pub find-requires : goal.find-requires
find-requires c = record { pinned = record { own = c.requires.own; pin = c.requires.pinned; first = c.first_key_at.ensures } }

-- an entry of the key

pub returns-in-Entry-clause-own : goal.returns-in-Entry-clause-own
returns-in-Entry-clause-own c = let f = c.in-Entry.ensures.loads.on.same.own in search (rules, f)

pub returns-in-Entry-clause-found : goal.returns-in-Entry-clause-found
returns-in-Entry-clause-found c = let z = sizes c.args.table.now in let r = c.args.pin.now.room in let k = c.args.key.now in let t = c.find.new.room in let s = searched _ t c.requires.pinned c.in-Entry.ensures.loads in let i = c.in-Entry.entry in
    record { entry = subst (λ (w : PassState). HasEntry r i k w) (search rules) (entry_found z r i k (state t.pass.now) s.loads.under.pin.has c.in-Entry.ensures.finds) }

pub returns-in-Entry-clause-under : goal.returns-in-Entry-clause-under
returns-in-Entry-clause-under c = let s = searched _ c.find.new.room c.requires.pinned c.in-Entry.ensures.loads in
    subst (λ (w : PassState). UnderPin (sizes c.args.table.now) (call_of c.args.pass.now) c.args.pin.now.room (state c.args.pass.now) w) (search rules) s.loads.under

pub returns-in-Entry-clause-quiet : goal.returns-in-Entry-clause-quiet
returns-in-Entry-clause-quiet c = let s = searched _ c.find.new.room c.requires.pinned c.in-Entry.ensures.loads in let f = s.loads.quiet in search (rules, f)

pub returns-in-Entry-clause-few : goal.returns-in-Entry-clause-few
returns-in-Entry-clause-few c = let s = searched _ c.find.new.room c.requires.pinned c.in-Entry.ensures.loads in let f = s.few in search (rules, f)

pub returns-in-Entry-clause-alone : goal.returns-in-Entry-clause-alone
returns-in-Entry-clause-alone c = let z = sizes c.args.table.now in let r = c.args.pin.now.room in let k = c.args.key.now in let v = state c.args.pass.now in let t = c.find.new.room in let s = searched _ t c.requires.pinned c.in-Entry.ensures.loads in let i = c.in-Entry.entry in
    subst (λ (w : PassState). Runs (FindsIn z r k (Entry (record { 0 = i }))) v w) (search rules) (found_alone z r i k v (state t.pass.now) s.loads.under.pin.has s.left c.in-Entry.ensures.finds)

-- none

pub returns-in-Missing-clause-own : goal.returns-in-Missing-clause-own
returns-in-Missing-clause-own c = let f = c.in-Missing.ensures.loads.on.same.own in search (rules, f)

pub returns-in-Missing-clause-found : goal.returns-in-Missing-clause-found
returns-in-Missing-clause-found c = let z = sizes c.args.table.now in let r = c.args.pin.now.room in let k = c.args.key.now in let v = state c.args.pass.now in let t = c.find.new.room in let s = searched _ t c.requires.pinned c.in-Missing.ensures.loads in
    let behind = c.in-Missing.behind in let link = c.in-Missing.link in let there = s.loads.under.pin.has in
    subst (λ (w : PassState). FindsMissing z (call_of c.args.pass.now) r k v w × BelongsBehind r c.as_entry.result k w × LiesBefore r link k w) (search rules) (
      missing_found _ _ t [] (meets_nothing _) k c.requires.key (slice_bytes k c.type_inv.key) c.requires.pinned there c.in-Missing.ensures.finds.0,
      subst (λ (o : Option EntryNo). BelongsBehind r o k (state t.pass.now)) (sym c.as_entry.ensures) (place_found z r (state t.pass.now) there behind k c.in-Missing.ensures.finds.1),
      below_before z r (state t.pass.now) there link k c.in-Missing.ensures.finds.0.over.leads,
    )

pub returns-in-Missing-clause-under : goal.returns-in-Missing-clause-under
returns-in-Missing-clause-under c = let s = searched _ c.find.new.room c.requires.pinned c.in-Missing.ensures.loads in
    subst (λ (w : PassState). UnderPin (sizes c.args.table.now) (call_of c.args.pass.now) c.args.pin.now.room (state c.args.pass.now) w) (search rules) s.loads.under

pub returns-in-Missing-clause-quiet : goal.returns-in-Missing-clause-quiet
returns-in-Missing-clause-quiet c = let s = searched _ c.find.new.room c.requires.pinned c.in-Missing.ensures.loads in let f = s.loads.quiet in search (rules, f)

pub returns-in-Missing-clause-few : goal.returns-in-Missing-clause-few
returns-in-Missing-clause-few c = let s = searched _ c.find.new.room c.requires.pinned c.in-Missing.ensures.loads in let f = s.few in search (rules, f)

pub returns-in-Missing-clause-alone : goal.returns-in-Missing-clause-alone
returns-in-Missing-clause-alone c = let z = sizes c.args.table.now in let r = c.args.pin.now.room in let k = c.args.key.now in let v = state c.args.pass.now in let t = c.find.new.room in let s = searched _ t c.requires.pinned c.in-Missing.ensures.loads in
    subst (λ (w : PassState). Runs (LacksIn z r k) v w) (search rules) (missing_alone _ _ t [] (meets_nothing _) k c.requires.key (slice_bytes k c.type_inv.key) c.requires.pinned s.loads.under.pin.has c.in-Missing.ensures.finds.0)
