-- `mirror` meets its contract: the list is refused, or its output is too small, or the image is written.
use mathlib.Core.Path.{◌≡◌, ◌∙◌, sym, ap}
use mathlib.Core.List.{[], ◌∷◌}
use Prim.Native.Nat.{ℕ, ◌*◌}
use native.Mathlib.Omega.{arith}
use lib.IntN.{pos}
use lib.ListN.{length}
use Rattle.plane.specs.Point.{points}
use Rattle.plane.specs.Floor.{on}
use Rattle.plane.specs.Question.{Question, ask_mirror}
use Rattle.plane.proofs.theory.lists.Flat.{points-length}
use Rattle.plane.proofs.theory.mirror.Mirror.{mirror-count}
use Rattle.plane.proofs.theory.mirror.MirrorSize.{mirror-little, mirror-enough}
use Rattle.admission.specs.theory.Judged.{refuses, held, refusal-of, handed-on}
use Rattle.admission.specs.theory.Door.{shapes-refused, rest-refused, all-written}
use Rattle.shape_questions.proofs.mirror.Goals as goal
use Rattle.shape_questions.proofs.mirror.Goals.{In_ok-admit, Start}

-- the question
abbrev asked : Start → Question
asked c = ask_mirror (on c.args.list.now c.args.floor) c.args.out.now

pub returns-in_err-admit : goal.returns-in_err-admit
returns-in_err-admit c =
    rw (handed-on _ _ c.from_residual.ensures.1)
    (shapes-refused (asked (goal.at.returns-in_err-admit c).Start) (refusal-of c.in_err-admit.ensures))

-- twice as many numbers as corners
doubled : (c : In_ok-admit) → let l = c.args.list.now in length l ≡ 2 * length (points l)
doubled c = omega (arith, points-length c.args.list.now, (held c.in_ok-admit.ensures).paired)

pub returns-then-out-list : goal.returns-then-out-list
returns-then-out-list c =
    rest-refused (asked (goal.at.returns-then-out-list c).Start) (held c.in_ok-admit.ensures)
    (refuses (mirror-little c.args.list.now (held c.in_ok-admit.ensures) c.args.out.now
    (omega (arith, c.if-out-list.true, doubled (goal.at.returns-then-out-list c).In_ok-admit))))

pub mirror-requires : goal.mirror-requires
mirror-requires c =
    (held c.in_ok-admit.ensures, omega (arith, c.if-out-list.false, doubled (goal.at.mirror-requires c).In_ok-admit))

pub returns : goal.returns
returns c =
    let v = held c.in_ok-admit.ensures in
    let l = c.args.list.now in
    all-written (asked (goal.at.returns c).Start) v
    (mirror-enough l v c.args.out.now (omega (arith, c.if-out-list.false, doubled (goal.at.returns c).In_ok-admit)))
    (ap (λ (n : ℕ). pos n ∷ pos c.args.floor ∷ []) (c.count.ensures ∙ sym (mirror-count (points l) v.shape)))
    c.mirror.ensures
