-- `read` meets its contract: bytes that hold no list, or the numbers are decoded.
use mathlib.Core.Path.{sym, subst}
use mathlib.Core.List.{List}
use native.Mathlib.Omega.{arith}
use Prim.Native.Nat.{◌≤◌}
use lib.IntN.{ℤ}
use lib.ListN.{length}
use Rattle.endian.specs.Bytes.{words_at}
use Rattle.endian.specs.theory.Bytes.{words_at-length}
use Rattle.endian.specs.theory.Coded.{front-is}
use Rattle.bytewise.specs.Bytes.{list_of}
use Rattle.bytewise.specs.Passing.{Alike}
use Rattle.bytewise.specs.theory.Alike.{none_alike, cut-alike}
use Rattle.bytewise.proofs.decoding.read.Goals as goal
use Rattle.bytewise.proofs.decoding.read.Goals.{After-cut-n}

-- what is read has room in the buffer
holds : (c : After-cut-n) → c.cut-n.result ≤ length c.args.numbers.now
holds c =
    let few = c.cut-n.ensures in
    c.requires _ (omega (arith, few.within)) few.few

pub returns-then-bytes-ne0 : goal.returns-then-bytes-ne0
returns-then-bytes-ne0 c = (omega arith, none_alike _ c.if-bytes-ne0.true)

pub decode-requires : goal.decode-requires
decode-requires c = (omega (arith, c.cut-n.ensures.within), omega (arith, holds (goal.at.decode-requires c).After-cut-n))

pub returns : goal.returns
returns c =
    let bs = c.args.bytes.now in
    let n = c.cut-n.result in
    let l = words_at n bs 0 in
    let old = c.args.numbers.now in (
      omega (arith, holds (goal.at.returns c).After-cut-n, c.decode.auto.out),
      subst (λ (s : List ℤ). Alike (list_of bs) s) (sym (front-is l old _ c.decode.ensures n (words_at-length bs n 0)))
          (cut-alike bs n c.if-bytes-ne0.false c.cut-n.ensures),
    )
