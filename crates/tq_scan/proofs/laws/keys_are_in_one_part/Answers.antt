use Rattle.tq_scan.proofs.OnePart.{each_in_one_part}
use Rattle.tq_scan.proofs.laws.keys_are_in_one_part.Goals as goal

pub returns : goal.returns
returns c nodes w parts tiled = each_in_one_part nodes w parts tiled
