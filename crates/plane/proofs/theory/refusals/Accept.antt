-- The rows of refusals 1 to 5 against "What makes a shape".
--     near→within, within→near        a coordinate is not outside exactly if it is in range
--     near→in_range, in_range→near      row 3 does not apply exactly if every coordinate is in range
--     few-corners, corners-few            row 2 does not apply exactly if there are few enough corners
--     counted, count-good     row 1 does not apply exactly if there is a corner, and an even count of numbers
--     accepted→valid          no row applies: the list is valid; `shape→valid`: rows 1 to 3 do not, and the corners are a shape
--     valid→accepted          a valid list: no row applies
use Rattle.std.specs.Prelude.{◌≡◌, false, not, ◌||◌, List, ℕ, ◌%◌, ◌≤◌, ◌<◌, eqb, ℤ, pos, nat_abs, length, get_or}
use Rattle.std.proofs.Common.{sym, ◌∙◌, ap, ap₂, true≢false, arith, ltb-false, le-ltb, ne_eqb}
use Rattle.std.proofs.Math.Decide.{ℕ_discrete}
use Rattle.std.proofs.lemmas.Bool.{eqb-false, not-false}
use Rattle.integer.specs.Bound.{Within}
use Rattle.integer.specs.Order.{lt_z-true, lt-lt_z}
use Rattle.plane.specs.Limits.{max_corners, max_coordinate}
use Rattle.plane.specs.Point.{Point, points, corner, same_point}
use Rattle.plane.specs.Shape.{next, breaks, precedes, IsShape}
use Rattle.plane.specs.Refusal.{bad_count, too_many, outside, some_outside, equal_pair, left_broken, rule_broken, bad_start, shape_rows}
use Rattle.plane.specs.Refusal.{InRange, Valid}
use Rattle.plane.proofs.theory.lists.Flat.{points-length}
use Rattle.plane.proofs.theory.lists.Members.{same_point-self, same_point-other}
use Rattle.plane.specs.Reply.{NoneApply}
use Rattle.plane.proofs.theory.lists.Sought.{some-none, none-some, either-false}
use Rattle.plane.proofs.theory.refusals.Tests.{breaks-own, breaks-end, breaks-other, equal_pair-other, equal_pair-two, outside-none}
use Rattle.plane.proofs.theory.refusals.Tests.{none-outside}

-- ---- row 3

pub near→within : (z : ℤ) → outside z ≡ false → Within max_coordinate z
unfolding outside
near→within z h = record { size = ltb-false max_coordinate (nat_abs z) h }

pub within→near : (z : ℤ) → Within max_coordinate z → outside z ≡ false
unfolding outside
within→near z w = le-ltb max_coordinate (nat_abs z) w.size

pub near→in_range : (l : List ℤ) → some_outside l ≡ false → InRange l
near→in_range l h = record { near = λ i b. near→within (get_or l i (pos 0)) (none-outside l h i b) }

pub in_range→near : (l : List ℤ) → InRange l → some_outside l ≡ false
in_range→near l r = outside-none l (λ i b. within→near (get_or l i (pos 0)) (r.near i b))

-- ---- rows 1 and 2

pub counted : (l : List ℤ) → bad_count l ≡ false → (0 < length (points l)) × (length l % 2 ≡ 0)
unfolding bad_count
counted l h =
    let tests = either-false (eqb (length l) 0) (eqb (length l % 2) 1) h in
    let some = eqb-false (length l) 0 tests.0 in
    let odd = eqb-false (length l % 2) 1 tests.1 in
    (omega (arith, points-length l), omega arith)

pub count-good : (l : List ℤ) → 0 < length (points l) → length l % 2 ≡ 0 → bad_count l ≡ false
unfolding bad_count
count-good l h e =
    ap₂ (λ a b. a || b) (ne_eqb (length l) 0 (λ z. omega (arith, points-length l))) (ne_eqb (length l % 2) 1 (λ z. omega arith))

pub few-corners : (ps : List Point) → too_many ps ≡ false → length ps ≤ max_corners
unfolding too_many
few-corners ps h = ltb-false max_corners (length ps) h

pub corners-few : (ps : List Point) → length ps ≤ max_corners → too_many ps ≡ false
unfolding too_many
corners-few ps h = le-ltb max_corners (length ps) h

-- ---- row 4

pair-different : (ps : List Point) → equal_pair ps ≡ false → length ps ≡ 2 → corner ps 0 ≡ corner ps 1 → ⊥
pair-different ps h n e = true≢false (sym (same_point-self (corner ps 0)) ∙ ap (same_point (corner ps 0)) e ∙ sym (equal_pair-two ps n) ∙ h)

different-pair : (ps : List Point) → (length ps ≡ 2 → corner ps 0 ≡ corner ps 1 → ⊥) → equal_pair ps ≡ false
different-pair ps f = go (ℕ_discrete (length ps) 2)
  where
    go : Dec (length ps ≡ 2) → equal_pair ps ≡ false
    go (yes n) = equal_pair-two ps n ∙ same_point-other (corner ps 0) (corner ps 1) (f n)
    go (no g) = equal_pair-other ps g

kept→left : (ps : List Point) → left_broken ps ≡ false → (e c : ℕ) → e < length ps → c < length ps → breaks ps e c ≡ false
unfolding left_broken
kept→left ps h e c p q = some-none _ (length ps) (some-none _ (length ps) h e p) c q

left→kept : (ps : List Point) → ((e c : ℕ) → e < length ps → c < length ps → breaks ps e c ≡ false) → left_broken ps ≡ false
unfolding left_broken
left→kept ps f = none-some _ (length ps) (λ e p. none-some _ (length ps) (λ c q. f e c p q))

-- row 4 does not apply exactly if neither of its parts does
rule→parts : (ps : List Point) → rule_broken ps ≡ false → (equal_pair ps ≡ false) × (left_broken ps ≡ false)
unfolding rule_broken
rule→parts ps h = either-false (equal_pair ps) (left_broken ps) h

parts→rule : (ps : List Point) → equal_pair ps ≡ false → left_broken ps ≡ false → rule_broken ps ≡ false
unfolding rule_broken
parts→rule ps h k = ap₂ (λ a b. a || b) h k

-- ---- the whole table

first-least : (ps : List Point) → bad_start ps ≡ false → (c : ℕ) → c < length ps → precedes (corner ps c) (corner ps 0) ≡ false
unfolding bad_start
first-least ps h = some-none _ (length ps) h

least_first : (ps : List Point) → ((c : ℕ) → c < length ps → precedes (corner ps c) (corner ps 0) ≡ false) → bad_start ps ≡ false
unfolding bad_start
least_first ps f = none-some _ (length ps) f

-- an edge's own ends do not break the rule, and what is left of the edge does not
left-keeps : (ps : List Point) → IsShape ps → (e c : ℕ) → e < length ps → c < length ps → breaks ps e c ≡ false
left-keeps ps s e c p q = go (ℕ_discrete c e) (ℕ_discrete c (next (length ps) e))
  where
    go : Dec (c ≡ e) → Dec (c ≡ next (length ps) e) → breaks ps e c ≡ false
    go (yes i) j = breaks-own ps e c i
    go (no i) (yes j) = breaks-end ps e c j
    go (no i) (no j) = breaks-other ps e c i j ∙ ap not (lt-lt_z (s.left e c p q i j))

module _ (l : List ℤ) where
  pub accepted→valid : (which : ℕ) → NoneApply (shape_rows which l) → Valid l
  accepted→valid which n = let rule = rule→parts (points l) n.1.1.1.0 in record {
    paired = (counted l n.0).1;
    few = few-corners (points l) n.1.0;
    in_range = near→in_range l n.1.1.0;
    shape = record {
      some = (counted l n.0).0;
      different = pair-different (points l) rule.0;
      left = λ e c p q i j. lt_z-true (not-false _ (sym (breaks-other (points l) e c i j) ∙ kept→left (points l) rule.1 e c p q));
      start = λ c p. first-least (points l) n.1.1.1.1.0 c p;
    };
  }

  pub valid→accepted : (which : ℕ) → Valid l → NoneApply (shape_rows which l)
  valid→accepted which v =
      let s = v.shape in (
        count-good l s.some v.paired,
        (
          corners-few (points l) v.few,
          (
            in_range→near l v.in_range,
            (
              parts→rule (points l) (different-pair (points l) s.different) (left→kept (points l) (left-keeps (points l) s)),
              (least_first (points l) s.start, tt),
            ),
          ),
        ),
      )

-- rows 1 to 3 do not apply, and the corners are known to be a shape: then 4 and 5 do not either
pub shape→valid : (l : List ℤ) → bad_count l ≡ false → too_many (points l) ≡ false → some_outside l ≡ false → IsShape (points l) → Valid l
shape→valid l count few near s = record {
  paired = (counted l count).1;
  few = few-corners (points l) few;
  in_range = near→in_range l near;
  shape = s;
}
