-- What relation and inside answer of two good shapes, by directions.
--     relation-apart, relation-touching, relation-overlapping     0, 1 and 2, and the directions of each
--     inside-yes, inside-no                                       1 and 0, and the greatest values
use Rattle.std.specs.Prelude.{◌≡◌, refl, Bool, true, false, cond, List, [], ◌∷◌, ◌↔◌, ℕ, ◌<◌, pos, nat_abs, length, ◌≤ℤ◌, ◌<ℤ◌}
use Rattle.std.proofs.Common.{sym, ◌∙◌, ap, true≢false, arith}
use Rattle.std.specs.Int.Signed.{clash_ℤ}
use Rattle.integer.specs.Linear.{linear, lia, ◌&◌}
use Rattle.plane.specs.Point.{Point}
use Rattle.plane.specs.Direction.{value, support}
use Rattle.plane.specs.Reply.{answered}
use Rattle.plane.specs.Separation.{inside, apart, touching, relation_number, inside_number}
use Rattle.plane.specs.Floor.{Floored, corners, Same}
use Rattle.plane.specs.Question.{reply, ask_relation, ask_inside}
use Rattle.plane.proofs.theory.support.Support.{value-le-support, support-attained}
use Rattle.plane.proofs.theory.refusals.Asked.{asked-none, asked-values, rest-none}
use Rattle.separation.specs.Directions.{IsApart, IsTouching, IsOverlapping}
use Rattle.separation.specs.theory.Inside.{inside→reach, reach→inside, Beyond, outside→direction}
use Rattle.separation.specs.theory.Apart.{apart→direction, direction→apart}
use Rattle.separation.specs.theory.Rim.{touching→direction, direction→touching}
use Rattle.separation.specs.theory.Around.{refuted}

-- ---- the tests

module _ (A B : List Point) (a : 0 < length A) (b : 0 < length B) where
  true-apart : apart A B ≡ true → IsApart A B
  true-apart h = let r = apart→direction A B a b h in (r.direction, r.below)

  apart-true : IsApart A B → apart A B ≡ true
  apart-true s = direction→apart A B a b (record { direction = s.0; below = s.1 })

  apart-false : (IsApart A B → ⊥) → apart A B ≡ false
  apart-false n = refuted (apart A B) (λ t. n (true-apart t))

  false-apart : apart A B ≡ false → IsApart A B → ⊥
  false-apart h s = true≢false (sym (apart-true s) ∙ h)

  true-touching : apart A B ≡ false → touching A B ≡ true → IsTouching A B
  true-touching h t = let r = touching→direction A B a b t in (false-apart h, r.direction, r.non_zero.non_zero, r.no_above)

  touching-true : IsTouching A B → touching A B ≡ true
  touching-true s = direction→touching A B a b (apart-false s.0)
      (record { direction = s.1; non_zero = record { non_zero = s.2 }; no_above = s.3 })

-- ---- the number

number_is : (A B : List Point) (t r : Bool) → apart A B ≡ t → touching A B ≡ r
    → relation_number A B ≡ cond t (pos 0) (cond r (pos 1) (pos 2))
unfolding relation_number
number_is A B t r h k = rw (h, k) refl

-- which number it is where the tests say t and r
abbrev told : Bool → Bool → ℕ
told t r = cond t 0 (cond r 1 2)

told-number : (t r : Bool) (n : ℕ) → pos n ≡ cond t (pos 0) (cond r (pos 1) (pos 2)) → n ≡ told t r
told-number true r n h = ap nat_abs h
told-number false true n h = ap nat_abs h
told-number false false n h = ap nat_abs h

told-0 : (t r : Bool) → 0 ≡ told t r → t ≡ true
told-0 true r h = refl
told-0 false true h = absurd (omega arith)
told-0 false false h = absurd (omega arith)

told-1 : (t r : Bool) → 1 ≡ told t r → (t ≡ false) × (r ≡ true)
told-1 true r h = absurd (omega arith)
told-1 false true h = (refl, refl)
told-1 false false h = absurd (omega arith)

told-2 : (t r : Bool) → 2 ≡ told t r → (t ≡ false) × (r ≡ false)
told-2 true r h = absurd (omega arith)
told-2 false true h = absurd (omega arith)
told-2 false false h = (refl, refl)

-- ---- the replies

module _ (a b : Floored) (s : Same a b) where
  abbrev A : List Point
  A = corners a

  abbrev B : List Point
  B = corners b

  first_some : 0 < length A
  first_some = s.first-valid.shape.some

  second-some : 0 < length B
  second-some = s.second-valid.shape.some

  -- ---- relation

  abbrev Related : ℕ → Type 0
  Related n = reply (ask_relation a b) ≡ answered (pos n ∷ pos a.floor ∷ [])

  tests-related : (t r : Bool) → apart A B ≡ t → touching A B ≡ r
      → reply (ask_relation a b) ≡ answered (cond t (pos 0) (cond r (pos 1) (pos 2)) ∷ pos a.floor ∷ [])
  tests-related t r h k = asked-none (ask_relation a b) (rest-none (ask_relation a b) s tt)
      ∙ ap (λ z. answered (z ∷ pos a.floor ∷ [])) (number_is A B t r h k)

  related-tests : (n : ℕ) → Related n → n ≡ told (apart A B) (touching A B)
  related-tests n h =
      let e : pos n ≡ relation_number A B = cc (asked-values (ask_relation a b) _ h) in
      told-number (apart A B) (touching A B) n (e ∙ number_is A B (apart A B) (touching A B) refl refl)

  pub relation-apart : Related 0 ↔ IsApart A B
  relation-apart = (
    λ h. true-apart A B first_some second-some (told-0 (apart A B) (touching A B) (related-tests 0 h)),
    λ d. tests-related true (touching A B) (apart-true A B first_some second-some d) refl,
  )

  pub relation-touching : Related 1 ↔ IsTouching A B
  relation-touching = (
    λ h. let tests = told-1 (apart A B) (touching A B) (related-tests 1 h) in
        true-touching A B first_some second-some tests.0 tests.1,
    λ d. tests-related false true (apart-false A B first_some second-some d.0) (touching-true A B first_some second-some d),
  )

  pub relation-overlapping : Related 2 ↔ IsOverlapping A B
  relation-overlapping = (
    λ h. let tests = told-2 (apart A B) (touching A B) (related-tests 2 h) in (
      false-apart A B first_some second-some tests.0,
      λ d. true≢false (sym (touching-true A B first_some second-some d) ∙ tests.1),
    ),
    λ d. let apart-not = apart-false A B first_some second-some d.0 in
        tests-related false false apart-not
        (refuted (touching A B) (λ t. d.1 (true-touching A B first_some second-some apart-not t))),
  )

  -- ---- inside

  abbrev Inside : ℕ → Type 0
  Inside n = reply (ask_inside a b) ≡ answered (pos n ∷ pos a.floor ∷ [])

  test-inside : (t : Bool) → inside A B ≡ t → reply (ask_inside a b) ≡ answered (cond t (pos 1) (pos 0) ∷ pos a.floor ∷ [])
  test-inside t h = asked-none (ask_inside a b) (rest-none (ask_inside a b) s tt)
      ∙ ap (λ (t : Bool). answered (cond t (pos 1) (pos 0) ∷ pos a.floor ∷ [])) h

  inside-test : (n : ℕ) → Inside n → pos n ≡ inside_number A B
  inside-test n h = cc (asked-values (ask_inside a b) _ h)

  pub inside-yes : Inside 1 ↔ ((d : Point) → support d A ≤ℤ support d B)
  inside-yes = (
    λ h. inside→reach A B first_some second-some (go (inside A B) (inside-test 1 h)),
    λ f. test-inside true (reach→inside A B first_some second-some f),
  )
    where
      go : (t : Bool) → pos 1 ≡ cond t (pos 1) (pos 0) → t ≡ true
      go true h = refl
      go false h = absurd (let e : ◌≡◌ {A = ℕ} 1 0 = ap nat_abs h in omega arith)

  pub inside-no : Inside 0 ↔ ((d : Point) × (support d B <ℤ support d A))
  inside-no = (
    λ h. further (outside→direction A B first_some second-some (go (inside A B) (inside-test 0 h))),
    λ d. test-inside false (refuted (inside A B) (λ t. clash_ℤ d.1 (inside→reach A B first_some second-some t d.0))),
  )
    where
      go : (t : Bool) → pos 0 ≡ cond t (pos 1) (pos 0) → t ≡ false
      go false h = refl
      go true h = absurd (let e : ◌≡◌ {A = ℕ} 0 1 = ap nat_abs h in omega arith)

      further : Beyond A B → (d : Point) × (support d B <ℤ support d A)
      further r =
          let d = r.direction in
          let top = support-attained d B second-some in (
            d,
            lia (support d B ∷ value d top.at ∷ value d r.at ∷ support d A ∷ [])
                (top.at_value & r.beyond top.at top.at_in & value-le-support d r.at_in) (search linear depth 40) (omega arith),
          )
