-- `read_at` meets its contract: the numbers of the record are decoded.
use native.Mathlib.Omega.{arith}
use Rattle.gaps.proofs.theory.Read.{stated-few, read-list, read_length, read_count}
use Rattle.gaps.proofs.growing.read_at.Goals as goal

pub decode-requires : goal.decode-requires
decode-requires c =
    (c.head_at-head.ensures.inside, omega (arith, stated-few c.requires.0 c.head_at-head.ensures, c.requires.1))

pub returns : goal.returns
returns c =
    let pre = c.requires in
    let says = c.head_at-head.ensures in
    let wrote = c.decode.ensures in (
      read-list pre.0 says _ _ wrote pre.1,
      read_length pre.0 says _ _ wrote pre.1,
      read_count pre.0 says _ _ wrote pre.1,
    )
