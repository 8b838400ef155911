use Rattle.std.proofs.Common.{refl}
use Rattle.examples.proofs.Shows.{two_lines, three_lines, all_lines, early_end, no_early_end}
use Rattle.examples.proofs.Publishes.{shared_day, no_shared_day}
use Rattle.examples.proofs.table.worked_examples.Goals as goal

pub returns : goal.returns
returns c =
    record {
      pile_overrun = refl;
      pile_floor = refl;
      pile_total = refl;
      shop_total = refl;
      thirds = refl;
      thirds_left = refl;
      thirds_alone = refl;
      ones = refl;
      no_block = refl;
      whole_block = refl;
      begun_block = refl;
      begun_charge = refl;
      floor_stops = refl;
      two_lines = two_lines;
      three_lines = three_lines;
      all_lines = all_lines;
      early_end = early_end;
      no_early_end = no_early_end;
      shared_day = shared_day;
      no_shared_day = no_shared_day;
    }
