-- What passage replies.
--     passage-three              an answer is given only of such shapes whose grown obstacles fit; `passage-answers`: and of all of them
--     passage-floors             three valid shapes that are not on one floor are refused 13
--     blocked-exactly            0 is answered exactly if the cart's spread is at least the gap in every direction
--     one-passed                 what the numbers of an answer that begins with 1 are
--     told-passes                its direction is one that 11 and 12 let pass; `told-bounded`: its lines are bounded
--     told-clear                 and every place between its lines is clear of both obstacles
use Rattle.std.specs.Prelude.{◌≡◌, refl, Bool, true, false, not, cond, List, [], ◌∷◌, ◌++◌, ◌↔◌, ℕ, ◌<◌, ℤ, pos, length, ◌≤ℤ◌, ◌<ℤ◌}
use Rattle.std.proofs.Common.{sym, ◌∙◌, ap, arith, eq-eqb, ne_eqb}
use Rattle.std.proofs.Math.Decide.{ℕ_discrete}
use Rattle.integer.specs.Bound.{Within}
use Rattle.plane.specs.Point.{Point, point, origin, numbers}
use Rattle.plane.specs.Reply.{answered, refused, Row, NoneApply, First, here, later}
use Rattle.plane.specs.Refusal.{shape_rows, Valid, InRange}
use Rattle.plane.specs.Direction.{value}
use Rattle.plane.specs.Furthest.{bad_direction, common_divisor}
use Rattle.plane.specs.Output.{size_rows}
use Rattle.plane.specs.Separation.{apart}
use Rattle.plane.specs.Floor.{Floored, corners}
use Rattle.plane.specs.Question.{reply}
use Rattle.plane.proofs.theory.lists.Members.{point-path}
use Rattle.plane.proofs.theory.refusals.Rows.{none-append, none-join, first-append, first-join}
use Rattle.plane.proofs.theory.refusals.Accept.{valid→accepted, near→in_range}
use Rattle.plane.proofs.theory.refusals.Asked.{asked-given, asked-none, asked-values, asked-rest, rest-given, rest-none}
use Rattle.admission.specs.Three.{floor_rows, three_rows, SameThree}
use Rattle.admission.specs.theory.Three.{three→none, none→three}
use Rattle.strips.specs.Strip.{spread, gap_in}
use Rattle.growth.specs.Grown.{grown, placed}
use Rattle.passage.specs.Passage.{passable, across, low_line, high_line, free_width, passage_numbers, grown_rows, ask_passage, Told}
use Rattle.passage.proofs.theory.Gaps.{blocked-nowhere, nowhere-blocked}
use Rattle.passage.proofs.theory.Places.{between-clear}
use Rattle.passage.proofs.theory.Rows.{across-lowest, across-small, lines-small}

module _ (l r c : Floored) where
  -- ---- the reply

  abbrev L : List Point
  L = corners l

  abbrev R : List Point
  R = corners r

  abbrev A : List Point
  A = corners c

  abbrev told : List ℤ
  told = passage_numbers L R A ++ (pos l.floor ∷ [])

  pub passage-three : (v : List ℤ) → reply (ask_passage l r c) ≡ answered v
      → SameThree l r c × NoneApply (size_rows (grown L A)) × NoneApply (size_rows (grown R A))
  passage-three v h =
      let both = none-append (three_rows l r c) (grown_rows l r c) (asked-rest (ask_passage l r c) v h) in
      let fit = none-append (size_rows (grown L A)) (size_rows (grown R A)) both.1 in
      (none→three l r c both.0, fit.0, fit.1)

  pub passage-answers : SameThree l r c → NoneApply (size_rows (grown L A)) → NoneApply (size_rows (grown R A))
      → reply (ask_passage l r c) ≡ answered told
  passage-answers s n k = asked-none (ask_passage l r c) (rest-none (ask_passage l r c) tt
      (none-join (three_rows l r c) (grown_rows l r c) (three→none l r c s)
      (none-join (size_rows (grown L A)) (size_rows (grown R A)) n k)))

  pub passage-floors : Valid l.list → Valid r.list → Valid c.list → ((l.floor ≡ r.floor) × (l.floor ≡ c.floor) → ⊥)
      → reply (ask_passage l r c) ≡ refused 13 []
  passage-floors u v w f = go (ℕ_discrete l.floor r.floor) (ℕ_discrete l.floor c.floor)
    where
      given : {x : Row} → First x (floor_rows l r c) → reply (ask_passage l r c) ≡ refused x.number x.carries
      given x = asked-given (ask_passage l r c) (rest-given (ask_passage l r c) tt
          (first-append (grown_rows l r c) (first-join (shape_rows 1 l.list) (valid→accepted l.list 1 u)
          (first-join (shape_rows 2 r.list) (valid→accepted r.list 2 v)
          (first-join (shape_rows 3 c.list) (valid→accepted c.list 3 w) x)))))

      go : Dec (l.floor ≡ r.floor) → Dec (l.floor ≡ c.floor) → reply (ask_passage l r c) ≡ refused 13 []
      go (no e) k = given (here (ap not (ne_eqb l.floor r.floor e)))
      go (yes e) (no k) = given (later (ap not (eq-eqb l.floor r.floor e)) (here (ap not (ne_eqb l.floor c.floor k))))
      go (yes e) (yes k) = absurd (f (e, k))

  -- ---- an answer's numbers

  -- by whether the cart may pass
  abbrev told-by : Bool → List ℤ
  told-by t =
      let n = across L R A in
      cond t (pos 1 ∷ n.x ∷ n.y ∷ low_line n R A ∷ high_line n L A ∷ pos (free_width L R A) ∷ []) (pos 0 ∷ []) ++ (pos l.floor ∷ [])

  zero-blocked : (f : ℤ) → reply (ask_passage l r c) ≡ answered (pos 0 ∷ f ∷ []) → passable L R A ≡ false
  zero-blocked f h = go (passable L R A) (asked-values (ask_passage l r c) _ h)
    where
      go : (t : Bool) → pos 0 ∷ f ∷ [] ≡ told-by t → t ≡ false
      go false e = refl
      go true e = absurd (let z : ◌≡◌ {A = ℕ} 0 1 = cc e in let b : ⊥ = omega arith in b)

  pub blocked-exactly : SameThree l r c → NoneApply (size_rows (grown L A)) → NoneApply (size_rows (grown R A))
      → (reply (ask_passage l r c) ≡ answered (pos 0 ∷ pos l.floor ∷ []))
      ↔ ((d : Point) → (d ≡ origin → ⊥) → gap_in d L R ≤ℤ spread d A)
  blocked-exactly s n k = (
    λ h d some. blocked-nowhere L R A s.first-valid.shape.some s.second-valid.shape.some s.third-valid.shape.some
        (zero-blocked _ h) d,
    λ f. passage-answers s n k ∙ ap (λ t. answered (told-by t)) (nowhere-blocked L R A s.first-valid.shape.some
        s.second-valid.shape.some s.third-valid.shape.some f),
  )

  pub one-passed : (u v low high w f : ℤ) → reply (ask_passage l r c) ≡ answered (pos 1 ∷ u ∷ v ∷ low ∷ high ∷ w ∷ f ∷ [])
      → Told l r c u v low high w f
  one-passed u v low high w f h = go (passable L R A) refl (asked-values (ask_passage l r c) _ h)
    where
      go : (t : Bool) → passable L R A ≡ t → pos 1 ∷ u ∷ v ∷ low ∷ high ∷ w ∷ f ∷ [] ≡ told-by t → Told l r c u v low high w f
      go false k e = absurd (let z : ◌≡◌ {A = ℕ} 0 1 = cc e in let b : ⊥ = omega arith in b)
      go true k e =
          let x : u ≡ (across L R A).x = cc e in
          let y : v ≡ (across L R A).y = cc e in
          let n : point u v ≡ across L R A = point-path x y in
          let i : low ≡ low_line (across L R A) R A = cc e in
          let j : high ≡ high_line (across L R A) L A = cc e in
          record {
            passes = k;
            direction-is = n;
            low-is = i ∙ ap (λ d. low_line d R A) (sym n);
            high_is = j ∙ ap (λ d. high_line d L A) (sym n);
            width_is = cc e;
            floor-is = cc e;
          }

  -- ---- what they promise

  module _ (u v low high w f : ℤ) (h : reply (ask_passage l r c) ≡ answered (pos 1 ∷ u ∷ v ∷ low ∷ high ∷ w ∷ f ∷ [])) where
    told-numbers : Told l r c u v low high w f
    told-numbers = one-passed u v low high w f h

    three : SameThree l r c × NoneApply (size_rows (grown L A)) × NoneApply (size_rows (grown R A))
    three = passage-three _ h

    left-some : 0 < length L
    left-some = three.0.first-valid.shape.some

    right-some : 0 < length R
    right-some = three.0.second-valid.shape.some

    cart-some : 0 < length A
    cart-some = three.0.third-valid.shape.some

    left_near : InRange (numbers (grown L A))
    left_near = near→in_range _ three.1.1.0

    right_near : InRange (numbers (grown R A))
    right_near = near→in_range _ three.2.1.0

    pub told-passes : (bad_direction (point u v) ≡ false) × (common_divisor (point u v) ≡ false)
    told-passes = rw told-numbers.direction-is (
      across-small L R A left-some right-some cart-some told-numbers.passes left_near right_near,
      across-lowest L R A left-some right-some cart-some told-numbers.passes,
    )

    pub told-bounded : Within 4_000_000_000_000 low × Within 4_000_000_000_000 high
    told-bounded = rw (told-numbers.low-is, told-numbers.high_is, told-numbers.direction-is)
        (lines-small L R A left-some right-some cart-some told-numbers.passes left_near right_near)

    pub told-clear : (t : Point) → low <ℤ value (point u v) t → value (point u v) t <ℤ high
        → (apart (placed A t) L ≡ true) × (apart (placed A t) R ≡ true)
    told-clear t above below = between-clear (point u v) L R A left-some right-some cart-some t
        (record { above_low = rw told-numbers.low-is at above; below-high = rw told-numbers.high_is at below })
