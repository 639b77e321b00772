-- `bends_at` meets its contract.
use mathlib.Core.Path.{◌≡◌, sym, ◌∙◌, ap, ap₂, subst}
use mathlib.Core.Bool.{not}
use Prim.Native.Nat.{ℕ, ◌<◌}
use lib.ListN.{length, get_or}
use Rattle.plane.specs.Point.{points, corner}
use Rattle.plane.specs.Shape.{next}
use Rattle.plane.proofs.theory.lists.Next.{next-below}
use Rattle.ring.specs.Round.{in_sense, straight}
use Rattle.ring.specs.Ring.{previous}
use Rattle.ring.specs.theory.Steps.{sense-below, previous-below}
use Rattle.ring.proofs.turns.bends_at.Goals as goal
use Rattle.ring.proofs.turns.bends_at.Goals.{After-place}

pub place-a-requires : goal.place-a-requires
place-a-requires c = c.previous.ensures.upper_bound

-- the three places, said of the list
module _ (c : After-place) where
  abbrev sense : ℕ → ℕ
  sense j = get_or (in_sense c.args.back c.args.kept.now) j 0

  abbrev all : ℕ
  all = length c.args.kept.now

  is-before : c.place-a.result ≡ sense (previous all c.args.j)
  is-before = c.place-a.ensures ∙ ap sense c.previous.ensures.value

  is-after : c.place-c.result ≡ sense (next all c.args.j)
  is-after = c.place-c.ensures ∙ ap sense c.next.ensures.value

  sound : (j : ℕ) → j < all → sense j < length (points c.args.list.now)
  sound j h = sense-below _ c.args.back c.args.kept.now c.requires.0.below j h

pub straight_at-requires : goal.straight_at-requires
straight_at-requires c =
    let n = all c in
    let j = c.args.j in
    let b = length (points c.args.list.now) in (
      subst (λ (i : ℕ). i < b) (sym (is-before c)) (sound c (previous n j) (previous-below n j c.requires.1)),
      subst (λ (i : ℕ). i < b) (sym c.place.ensures) (sound c j c.requires.1),
      subst (λ (i : ℕ). i < b) (sym (is-after c)) (sound c (next n j) (next-below n j c.requires.1)),
      c.requires.0.near,
    )

pub returns : goal.returns
returns c =
    let ps = points c.args.list.now in
    ap not (c.straight_at.ensures
    ∙ ap₂ (λ (a d : ℕ). straight (corner ps a) (corner ps c.place.result) (corner ps d)) (is-before (goal.at.returns c).After-place)
    (is-after (goal.at.returns c).After-place)
    ∙ ap (λ (b : ℕ). straight (corner ps (sense (goal.at.returns c).After-place (previous (all (goal.at.returns c).After-place) c.args.j)))
    (corner ps b)
    (corner ps (sense (goal.at.returns c).After-place (next (all (goal.at.returns c).After-place) c.args.j)))) c.place.ensures)
