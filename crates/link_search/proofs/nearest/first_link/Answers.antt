use Rattle.std.proofs.Common.{[], ◌∷◌, None}
use Rattle.link_search.specs.Met.{met_count}
use Rattle.link_search.proofs.FindLaws.{few_linked}
use Rattle.link_search.proofs.WalkLaws.{grown_both, grown_later}
use Rattle.link_search.proofs.nearest.first_link.Goals as goal

pub returns-clause-grown : goal.returns-clause-grown
returns-clause-grown g c = let V = g.R.LinkedRoom.view in let k = c.count in let l = c.link in
    grown_both (V c.args.room.now) (V k.new.self) (V l.new.self) k.ensures.grown (grown_later (V k.new.self) (V l.new.self) l.ensures.later)

pub returns-clause-over : goal.returns-clause-over
returns-clause-over g c = let V = g.R.LinkedRoom.view in let k = c.count in let l = c.link in record {
  looked = record { moment = k.new.self; before = met_count k.result ∷ []; between = []; start = k.ensures.meets; on = l.ensures.meets; kept = tt };
  loads = (tt, tt);
  still = tt;
  cut = tt;
  grown = grown_later (V k.new.self) (V l.new.self) l.ensures.later;
  leads = λ ne. (l.ensures.named ne, tt);
  none = l.ensures.none;
}

pub returns-clause-loads : goal.returns-clause-loads
returns-clause-loads g c = let k = c.count in let l = c.link in
    few_linked g.R.LinkedRoom.pinned g.R.LinkedRoom.view g.R.LinkedRoom.meets g.met.R.LinkedRoom.meets_both c.args.room.now k.new.self l.new.self k.result None l.result k.ensures.meets l.ensures.meets
