-- A difference of two lists of corners, by its positions.
--     Pair A B x, pair_of     x is corner `one` of A less corner `other` of B
--     pair-value              its value in a direction
use Rattle.std.specs.Prelude.{◌≡◌, List, ℕ, ◌<◌, ◌-ℤ◌, length}
use Rattle.std.proofs.Common.{sym, ◌∙◌, ap, ap₂}
use Rattle.plane.specs.Point.{Point, corner, ◌⊖◌, ◌∈◌}
use Rattle.plane.specs.Direction.{value}
use Rattle.plane.specs.Separation.{differences}
use Rattle.plane.proofs.theory.lists.Members.{member-position}
use Rattle.separation.specs.theory.Apart.{value-difference, member-difference}

pub record Pair (A B : List Point) (x : Point) : Type 0 where
  pub one : ℕ
  pub other : ℕ
  pub one_in : one < length A
  pub other-in : other < length B
  pub is : x ≡ corner A one ⊖ corner B other

module _ (A B : List Point) where
  pub pair_of : {x : Point} → x ∈ differences A B → Pair A B x
  pair_of m =
      let r = member-difference A B m in
      let i = member-position r.left_in in
      let j = member-position r.right-in in
      record {
        one = i.0;
        other = j.0;
        one_in = i.1;
        other-in = j.1;
        is = r.is-difference ∙ ap₂ (λ a b. a ⊖ b) (sym i.2) (sym j.2);
      }

  pub pair-value : (n : Point) {x : Point} (r : Pair A B x) → value n x ≡ value n (corner A r.one) -ℤ value n (corner B r.other)
  pair-value n r = ap (value n) r.is ∙ value-difference n (corner A r.one) (corner B r.other)
