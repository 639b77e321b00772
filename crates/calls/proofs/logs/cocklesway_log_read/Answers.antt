-- `cocklesway_log_read` meets its contract: the reply of `log_read`, crossed, and its output.
use mathlib.Core.Path.{◌∙◌, ap}
use Rattle.wire.specs.Told.{crossed}
use Rattle.calls.proofs.logs.cocklesway_log_read.Goals as goal

pub returns : goal.returns
returns c =
    let asked = c.log_read.ensures in
    (c.of.ensures ∙ ap crossed asked.0, asked.1)
