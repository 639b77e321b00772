-- `place_at` meets its contract: place k backwards is n - k places onwards.
use mathlib.Core.Path.{◌≡◌, sym, ◌∙◌, ap}
use mathlib.Core.Bool.{Bool, cond}
use Prim.Native.Nat.{◌-◌}
use native.Mathlib.Omega.{arith}
use lib.ListN.{get_or}
use Rattle.plane.specs.Cycle.{turned}
use Rattle.ring.specs.Round.{in_sense}
use Rattle.ring.specs.Ring.{walked}
use Rattle.ring.specs.theory.Arranged.{sense-walked}
use Rattle.ring.proofs.standard.place_at.Goals as goal
use Rattle.ring.proofs.standard.place_at.Goals.{Start}

pub turned_by-requires : goal.turned_by-requires
turned_by-requires c = (c.requires.0, omega arith)

pub turned_by-requires-2 : goal.turned_by-requires-2
turned_by-requires-2 c = let l = c.requires.1 in (c.requires.0, omega arith)

-- that many places onwards, as the sense says
onwards : (c : Start) {b : Bool} → c.args.back ≡ b → let args = c.args in
    turned args.n args.start (cond b (args.n - args.k) args.k) ≡ get_or (in_sense args.back (walked args.n args.start
    args.n)) args.k 0
onwards c e =
    let args = c.args in
    ap (λ (b : Bool). turned args.n args.start (cond b (args.n - args.k) args.k)) (sym e)
    ∙ sym (sense-walked args.n args.start c.requires.0 args.back args.k c.requires.1)

pub returns-then-back : goal.returns-then-back
returns-then-back c = (c.turned_by.ensures.0 ∙ onwards c.before.before c.if-back.true, c.turned_by.ensures.1)

pub returns : goal.returns
returns c = (c.turned_by-2.ensures.0 ∙ onwards c.before.before c.if-back.false, c.turned_by-2.ensures.1)
