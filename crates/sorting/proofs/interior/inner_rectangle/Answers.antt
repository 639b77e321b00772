-- `inner_rectangle` meets its contract: each side lies no further out than two of the four points.
use Rattle.std.proofs.Common.{◌≡◌, rules, sym, subst, to_z, of_z}
use Rattle.std.specs.Int.{w32}
use Rattle.plane.specs.Point.{points, ◌∈◌}
use Rattle.plane.proofs.theory.lists.Members.{position-member}
use Rattle.polygon.specs.Point.{at}
use Rattle.sorting.proofs.interior.inner_rectangle.Goals as goal

pub returns : goal.returns
returns c =
    let ps = points c.args.list.now in
    let found = c.outermost-found.ensures in
    let left : to_z w32 (of_z w32 c.max.result) ≡ c.max.result = search rules in
    let right : to_z w32 (of_z w32 c.min.result) ≡ c.min.result = search rules in
    let low : to_z w32 (of_z w32 c.max-2.result) ≡ c.max-2.result = search rules in
    let high : to_z w32 (of_z w32 c.min-2.result) ≡ c.min-2.result = search rules in
    let a = c.corner_at-a.result in
    let b = c.corner_at-b.result in
    let d = c.corner_at-c.result in
    let e = c.corner_at-d.result in
    let ax : to_z w32 (of_z w32 a.x) ≡ a.x = search rules in
    let ay : to_z w32 (of_z w32 a.y) ≡ a.y = search rules in
    let bx : to_z w32 (of_z w32 b.x) ≡ b.x = search rules in
    let by : to_z w32 (of_z w32 b.y) ≡ b.y = search rules in
    let dx : to_z w32 (of_z w32 d.x) ≡ d.x = search rules in
    let dy : to_z w32 (of_z w32 d.y) ≡ d.y = search rules in
    let ex : to_z w32 (of_z w32 e.x) ≡ e.x = search rules in
    let ey : to_z w32 (of_z w32 e.y) ≡ e.y = search rules in
    simp (left, right, low, high) (record {
      northeast = record {
        at = at a;
        at_in = subst (λ p. p ∈ ps) (sym c.corner_at-a.ensures) (position-member ps _ found.0);
        such = (rw ax at c.min.ensures.self_bound, rw ay at c.min-2.ensures.self_bound);
      };
      northwest = record {
        at = at b;
        at_in = subst (λ p. p ∈ ps) (sym c.corner_at-b.ensures) (position-member ps _ found.1);
        such = (rw bx at c.max.ensures.self_bound, rw by at c.min-2.ensures.other_bound);
      };
      southwest = record {
        at = at d;
        at_in = subst (λ p. p ∈ ps) (sym c.corner_at-c.ensures) (position-member ps _ found.2);
        such = (rw dx at c.max.ensures.other_bound, rw dy at c.max-2.ensures.self_bound);
      };
      southeast = record {
        at = at e;
        at_in = subst (λ p. p ∈ ps) (sym c.corner_at-d.ensures) (position-member ps _ found.3);
        such = (rw ex at c.min.ensures.other_bound, rw ey at c.max-2.ensures.other_bound);
      };
    })
