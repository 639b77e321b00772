-- `exceed` meets its contract: what a part leaves of the way, and two products.
use mathlib.Core.Path.{◌∙◌}
use Rattle.contact.proofs.theory.Words.{exceed-words}
use Rattle.contact.proofs.share.Share.exceeds.Goals as goal

pub returns : goal.returns
returns c = c.is_less.ensures ∙ exceed-words _ _ _ _ c.requires
