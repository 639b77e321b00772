-- `write_from` meets its contract: the opposites from the start on, then those before it.
use mathlib.Core.Path.{◌≡◌, sym, ◌∙◌, ap, ap₂}
use mathlib.Core.List.{List, ◌++◌, map, map-append}
use Prim.Native.Nat.{ℕ, ◌*◌, ◌-◌, ◌≤◌}
use native.Mathlib.Omega.{arith}
use lib.IntN.{ℤ, neg_ℤ}
use lib.ListN.{length, take, drop, length-map, length-drop}
use lib.Seq.{paste, length-paste}
use Rattle.plane.specs.Point.{points, numbers, opposite}
use Rattle.plane.specs.Corner.{mirrored}
use Rattle.plane.specs.Output.{overwritten}
use Rattle.plane.proofs.theory.lists.Flat.{points-length, numbers-append}
use Rattle.polygon.specs.theory.Negated.{negated-front, negated-rest, pasted-twice}
use Rattle.polygon.proofs.opposite.write_from.Goals as goal
use Rattle.polygon.proofs.opposite.write_from.Goals.{After-negate}

-- the opposites from the start on, and the opposites of the list: enough of each
module _ (list : List ℤ) (start : ℕ) (h : start ≤ length (points list)) where
  rest-enough : 2 * (length (points list) - start) ≤ length (map neg_ℤ (drop (2 * start) list))
  rest-enough =
      omega (arith, length-map (drop (2 * start) list) neg_ℤ, length-drop (2 * start) list, points-length list)

  front-enough : 2 * start ≤ length (map neg_ℤ list)
  front-enough = omega (arith, length-map list neg_ℤ, points-length list)

  -- both, one after the other
  joined : take (2 * (length (points list) - start)) (map neg_ℤ (drop (2 * start) list)) ++ take (2 * start) (map neg_ℤ list)
      ≡ numbers (mirrored (drop start (points list) ++ take start (points list)))
  joined =
      ap₂ (λ (l m : List ℤ). l ++ m) (negated-rest start list h) (negated-front start list h)
      ∙ sym (numbers-append (mirrored (drop start (points list))) (mirrored (take start (points list))))
      ∙ ap numbers (sym (map-append opposite (drop start (points list)) (take start (points list))))

pub negate-requires : goal.negate-requires
negate-requires c =
    let n = c.count.ensures in
    let list = c.args.list.now in (
      omega (arith, n, points-length list, c.requires.0),
      omega (arith, n, c.requires.0, c.requires.2),
      c.requires.1,
    )

-- the output after the first of them, with the count of corners in place of what `count` answered
first : (c : After-negate) →
    c.negate.new.out ≡ paste c.args.out.now 0 (map neg_ℤ (drop (2 * c.args.start) c.args.list.now))
    (2 * (length (points c.args.list.now) - c.args.start))
first c =
    c.negate.ensures ∙ ap (λ (n : ℕ). paste c.args.out.now 0 (map neg_ℤ (drop (2 * c.args.start) c.args.list.now))
    (2 * (n - c.args.start))) c.count.ensures

-- it is as long as it was
first-length : (c : After-negate) → length c.negate.new.out ≡ length c.args.out.now
first-length c =
    let list = c.args.list.now in
    ap length (first c) ∙ length-paste c.args.out.now 0 (map neg_ℤ (drop (2 * c.args.start) list))
    (2 * (length (points list) - c.args.start)) (omega (arith, c.requires.0, c.requires.2))
    (rest-enough list c.args.start (omega (arith, c.requires.0)))

pub negate-requires-2 : goal.negate-requires-2
negate-requires-2 c =
    let n = c.count.ensures in
    let list = c.args.list.now in (
      omega (arith, points-length list, c.requires.0),
      omega (arith, n, c.requires.0, c.requires.2, first-length c.before.before),
      c.requires.1,
    )

pub returns : goal.returns
returns c =
    let list = c.args.list.now in
    let below : c.args.start ≤ length (points list) = omega (arith, c.requires.0) in
    pasted-twice c.args.out.now (map neg_ℤ (drop (2 * c.args.start) list)) (map neg_ℤ list)
    (2 * (length (points list) - c.args.start)) (2 * c.args.start)
    (rest-enough list c.args.start below) (front-enough list c.args.start below) _ _ (first c.before.before.before.before)
    (c.negate-2.ensures ∙ ap (λ (n : ℕ). paste c.negate.new.out (2 * (n - c.args.start))
    (map neg_ℤ list) (2 * c.args.start)) c.count.ensures)
    ∙ ap (λ (l : List ℤ). overwritten l c.args.out.now) (joined list c.args.start below)
