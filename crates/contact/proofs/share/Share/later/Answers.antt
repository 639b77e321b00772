-- `later` meets its contract: the other is the start, or it is later exactly if its product is greater.
use mathlib.Core.Path.{sym, ◌∙◌}
use Rattle.contact.proofs.theory.Words.{later_first, later_second, later-begun}
use Rattle.contact.proofs.share.Share.later.Goals as goal

pub returns-then-other-eq0 : goal.returns-then-other-eq0
returns-then-other-eq0 c = later-begun c.args.self c.args.other c.if-other-eq0.true

pub returns-then-is_less : goal.returns-then-is_less
returns-then-is_less c = later_second c.args.self c.args.other (sym c.is_less.ensures ∙ c.if-is_less.true)

pub returns-else-is_less : goal.returns-else-is_less
returns-else-is_less c = later_first c.args.self c.args.other (sym c.is_less.ensures ∙ c.if-is_less.false)
