-- `surrounds` meets its contract: between both pairs of sides.
use Rattle.std.proofs.Common.{◌≡◌, rules, sym, ◌∙◌, to_z, of_z, true, false, ◌&&◌}
use Rattle.std.specs.Int.{w32}
use Rattle.std.specs.Int.Signed.{lt_z}
use Rattle.sorting.specs.Interior.{is_inside}
use Rattle.sorting.proofs.interior.Rectangle.surrounds.Goals as goal

pub returns-then-is_between : goal.returns-then-is_between
unfolding is_inside
returns-then-is_between c =
    let b = c.args.self in
    let p = c.args.p in
    let left : to_z w32 (of_z w32 b.left) ≡ b.left = search rules in
    let right : to_z w32 (of_z w32 b.right) ≡ b.right = search rules in
    let low : to_z w32 (of_z w32 b.low) ≡ b.low = search rules in
    let high : to_z w32 (of_z w32 b.high) ≡ b.high = search rules in
    let x : to_z w32 (of_z w32 p.x) ≡ p.x = search rules in
    let y : to_z w32 (of_z w32 p.y) ≡ p.y = search rules in
    let across : (lt_z b.left p.x && lt_z p.x b.right) ≡ true = sym (simp (left, right, x) at c.is_between.ensures)
    ∙ c.if-is_between.true in
    rw across (simp (low, high, y) at c.is_between-then-is_between.ensures)

pub returns-else-is_between : goal.returns-else-is_between
unfolding is_inside
returns-else-is_between c =
    let b = c.args.self in
    let p = c.args.p in
    let left : to_z w32 (of_z w32 b.left) ≡ b.left = search rules in
    let right : to_z w32 (of_z w32 b.right) ≡ b.right = search rules in
    let x : to_z w32 (of_z w32 p.x) ≡ p.x = search rules in
    let across : (lt_z b.left p.x && lt_z p.x b.right) ≡ false = sym (simp (left, right, x) at c.is_between.ensures)
    ∙ c.if-is_between.false in
    rw across c.if-is_between.false
