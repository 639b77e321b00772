-- `first_reached` meets its contract: the ends of the two faces, tried in the ticket's order.
use mathlib.Core.Path.{◌≡◌, sym, ◌∙◌, subst}
use Rattle.std.specs.Prelude.{Option, ℕ}
use Rattle.std.proofs.Common.{rules}
use Rattle.integer.specs.Bound.{within-neg}
use Rattle.plane.specs.Point.{Point, points, opposite}
use Rattle.plane.specs.Forms.{NonZero}
use Rattle.plane.proofs.theory.forms.Vector.{opposite-non-zero}
use Rattle.polygon.specs.Point.{at, Small}
use Rattle.clearance.specs.Faces.{IsFace, is_along, is_foot}
use Rattle.clearance.specs.theory.Ends.{facing-some, Tried, tried-is, corners-first, second-first, first-first, some-reached}
use Rattle.clearance.proofs.reach.first_reached.Goals as goal
use Rattle.clearance.proofs.reach.first_reached.Goals.{After-first_pair, After-first_pair-2, After-first_pair-3, After-near-g, Start}

-- a direction in which the shapes are apart is not (0,0)
some : (c : Start) → NonZero (at c.args.n)
some c = facing-some c.requires.0.shape.some c.requires.1.shape.some c.requires.3

pub near-f-requires : goal.near-f-requires
near-f-requires c = (c.requires.0, c.requires.2, some c, c.requires.4)

pub near-g-requires : goal.near-g-requires
near-g-requires c =
    let small = c.requires.2 in (
      c.requires.1,
      subst (Small 4194304) (sym c.against.ensures)
          (record { small-x = within-neg small.small-x; small-y = within-neg small.small-y }),
      subst NonZero (sym c.against.ensures) (opposite-non-zero (some c.before.before)),
      c.requires.5,
    )

-- the two faces
first-face : (c : After-near-g) → IsFace (at c.args.n) (points c.args.a.now) c.near-f.result
first-face c = c.near-f.ensures

second-face : (c : After-near-g) → IsFace (opposite (at c.args.n)) (points c.args.b.now) c.near-g.result
second-face c =
    subst (λ (m : Point). IsFace m (points c.args.b.now) c.near-g.result) c.against.ensures c.near-g.ensures

-- what the three searches found
along-found : (c : After-first_pair) {r : Option (ℕ × ℕ)} → c.first_pair.result ≡ r →
    Tried (is_along (at c.args.n) (points c.args.a.now) (points c.args.b.now)) c.near-f.result c.near-g.result r
along-found c e =
    let w = (goal.at.After-first_pair c).After-near-g in
    let test = is_along (at c.args.n) (points c.args.a.now) (points c.args.b.now) in
    subst (Tried test c.near-f.result c.near-g.result) (sym (c.first_pair.ensures test (search rules)) ∙ e)
    (tried-is test _ _ (first-face w).ordered (second-face w).ordered)

second-found : (c : After-first_pair-2) {r : Option (ℕ × ℕ)} → c.first_pair-2.result ≡ r →
    Tried (is_foot c.near-g.result (points c.args.a.now) (points c.args.b.now)) c.near-f.result c.near-g.result r
second-found c e =
    let w = (goal.at.After-first_pair-2 c).After-near-g in
    let test = is_foot c.near-g.result (points c.args.a.now) (points c.args.b.now) in
    subst (Tried test c.near-f.result c.near-g.result) (sym (c.first_pair-2.ensures test (search rules)) ∙ e)
    (tried-is test _ _ (first-face w).ordered (second-face w).ordered)

first-found : (c : After-first_pair-3) {r : Option (ℕ × ℕ)} → c.first_pair-3.result ≡ r →
    Tried (is_foot c.near-f.result (points c.args.b.now) (points c.args.a.now)) c.near-g.result c.near-f.result r
first-found c e =
    let w = (goal.at.After-first_pair-3 c).After-near-g in
    let test = is_foot c.near-f.result (points c.args.b.now) (points c.args.a.now) in
    subst (Tried test c.near-g.result c.near-f.result) (sym (c.first_pair-3.ensures test (search rules)) ∙ e)
    (tried-is test _ _ (second-face w).ordered (first-face w).ordered)

pub returns-in-Some : goal.returns-in-Some
returns-in-Some c =
    let w = (goal.at.returns-in-Some c).After-near-g in
    sym (corners-first _ _ _ c.requires.0.shape c.requires.1.shape c.requires.3 (first-face w) (second-face w)
    (along-found (goal.at.returns-in-Some c).After-first_pair c.in-Some.is))

pub returns-in-Some-first_pair : goal.returns-in-Some-first_pair
returns-in-Some-first_pair c =
    let w = (goal.at.returns-in-Some-first_pair c).After-near-g in
    sym (second-first _ _ _ c.requires.0.shape c.requires.1.shape c.requires.3 (first-face w) (second-face w)
    (along-found (goal.at.returns-in-Some-first_pair c).After-first_pair c.in_default.is)
    (second-found (goal.at.returns-in-Some-first_pair c).After-first_pair-2 c.in-Some-first_pair.is))

pub returns-in-Some-first_pair-2 : goal.returns-in-Some-first_pair-2
returns-in-Some-first_pair-2 c =
    let w = (goal.at.returns-in-Some-first_pair-2 c).After-near-g in
    sym (first-first _ _ _ c.requires.0.shape c.requires.1.shape c.requires.3 (first-face w) (second-face w)
    (along-found (goal.at.returns-in-Some-first_pair-2 c).After-first_pair c.in_default.is)
    (second-found (goal.at.returns-in-Some-first_pair-2 c).After-first_pair-2 c.in_default-first_pair.is)
    (first-found (goal.at.returns-in-Some-first_pair-2 c).After-first_pair-3 c.in-Some-first_pair-2.is))

pub returns-in-None : goal.returns-in-None
returns-in-None c =
    let w = (goal.at.returns-in-None c).After-near-g in
    absurd (some-reached _ _ _ c.requires.0.shape c.requires.1.shape c.requires.3 (first-face w) (second-face w)
    (along-found (goal.at.returns-in-None c).After-first_pair c.in_default.is)
    (second-found (goal.at.returns-in-None c).After-first_pair-2 c.in_default-first_pair.is)
    (first-found (goal.at.returns-in-None c).After-first_pair-3 c.in-None.is))
