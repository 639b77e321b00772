-- `cocklesway_tablet` meets its contract: the reply of `tablet`, crossed.
use mathlib.Core.Path.{◌∙◌, ap, ap₂}
use Rattle.tablet.specs.declared.reading.Reading.{Reading}
use Rattle.tablet.specs.Reading.{tablet_reply, Sent}
use Rattle.wire.specs.Told.{crossed}
use Rattle.calls.proofs.readings.cocklesway_tablet.Goals as goal

pub returns : goal.returns
returns c =
    c.of_tablet.ensures ∙ ap (λ (s : Sent). crossed s.reply) c.tablet.ensures
    ∙ ap₂ (λ (x y : Reading). crossed (tablet_reply x y)) c.reading.ensures
    c.reading-2.ensures
