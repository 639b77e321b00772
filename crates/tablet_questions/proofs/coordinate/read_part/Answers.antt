-- `read_part` meets its contract: each way a reading is refused is a row, and blames the part.
use Rattle.tablet_questions.specs.theory.Readings.{coordinated}
use Rattle.tablet_questions.proofs.coordinate.read_part.Goals as goal

pub returns : goal.returns
returns c = coordinated c.args.axis c.args.reading c.read.result _ c.read.ensures c.map_err.ensures.cases
