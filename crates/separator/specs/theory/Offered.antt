-- Offers and searches by their replies.
--     offer-yes, offer-no       what is answered of a direction that 11 and 12 let pass
--     witness-accepted          a witness is accepted if it is offered; `exists-accepted`: shapes apart on one floor have one
--     accepted-apart            what is accepted, is below; and so they are apart
--     found-refused, refused-found      a search is refused exactly by the rows of the two shapes
--     found-answered, answered-found    and else answered
--     found-apart, found_none, none_found, found-direction     what it replies of shapes on one floor
use Rattle.std.specs.Prelude.{◌≡◌, refl, Option, Some, None, Bool, true, false, cond, List, [], ◌∷◌, ◌++◌, ◌↔◌, ℕ, ℤ, pos}
use Rattle.std.proofs.Common.{sym, ◌∙◌, ap, subst, arith}
use Rattle.plane.specs.Point.{Point, point}
use Rattle.plane.specs.Reply.{Reply, answered, refused, Row, NoneApply, First}
use Rattle.plane.specs.Furthest.{bad_direction, common_divisor}
use Rattle.plane.specs.Separation.{apart}
use Rattle.plane.specs.Offer.{below, offer_number}
use Rattle.plane.specs.Floor.{Floored, corners, pair_rows, Same}
use Rattle.plane.specs.Question.{Question, values, reply, ask_offer}
use Rattle.plane.proofs.theory.lists.Sought.{true-not-false}
use Rattle.plane.proofs.theory.refusals.Asked.{asked-given, asked-refused, asked-none, asked-answered, asked-values, asked-shapes}
use Rattle.plane.proofs.theory.refusals.Asked.{shapes-given, rest-none}
use Rattle.polygon.specs.declared.point.Point.{Point as Code-as-Point}
use Rattle.polygon.specs.Point.{at}
use Rattle.separator.specs.Separator.{Separates, Finds, separator_numbers, ask_separator, SeparatorBetween}
use Rattle.separator.specs.theory.Below.{below→all, all→below, below→apart}
use Rattle.separator.specs.theory.Exists.{witness-exists}
use Rattle.separation.specs.Directions.{AllBelow}
use Rattle.separation.specs.theory.Around.{refuted}

module _ (a b : Floored) where
  abbrev A : List Point
  A = corners a

  abbrev B : List Point
  B = corners b

  -- ---- offers

  module _ (d : Point) where
    abbrev Offered : Bool → Type 0
    Offered accepted = reply (ask_offer a b d) ≡ answered (cond accepted (pos 1) (pos 0) ∷ pos a.floor ∷ [])

    module _ (s : Same a b) (good : bad_direction d ≡ false) (name : common_divisor d ≡ false) where
      test-offered : (t : Bool) → below d A B ≡ t → Offered t
      test-offered t h = asked-none (ask_offer a b d) (rest-none (ask_offer a b d) s (good, (name, tt)))
          ∙ ap (λ (u : Bool). answered (cond u (pos 1) (pos 0) ∷ pos a.floor ∷ [])) h

    offered-test : (t : Bool) → Offered t → below d A B ≡ t
    offered-test t h = go (below d A B) t
        (let e : cond t (pos 1) (pos 0) ≡ offer_number d A B = cc (asked-values (ask_offer a b d) _ h) in e)
      where
        go : (u t : Bool) → cond t (pos 1) (pos 0) ≡ cond u (pos 1) (pos 0) → u ≡ t
        go true true e = refl
        go false false e = refl
        go true false e = absurd (let z : ◌≡◌ {A = ℕ} 0 1 = cc in let c : ⊥ = omega arith in c)
        go false true e = absurd (let z : ◌≡◌ {A = ℕ} 1 0 = cc in let c : ⊥ = omega arith in c)

    pub offer-yes : Same a b → bad_direction d ≡ false → common_divisor d ≡ false → Offered true ↔ AllBelow d A B
    offer-yes s good name = (
      λ h. below→all d A B (offered-test true h),
      λ f. test-offered s good name true (all→below d A B f),
    )

    pub offer-no : Same a b → bad_direction d ≡ false → common_divisor d ≡ false → Offered false ↔ (AllBelow d A B → ⊥)
    offer-no s good name = (
      λ h f. true-not-false (all→below d A B f) (offered-test false h),
      λ n. test-offered s good name false (refuted (below d A B) (λ t. n (below→all d A B t))),
    )

    pub witness-accepted : Same a b → Separates A B d → Offered true
    witness-accepted s w = test-offered s w.in-limits w.coprime true w.is_below

    pub accepted-apart : Offered true → apart A B ≡ true
    accepted-apart h =
        let s = asked-shapes (ask_offer a b d) _ h in
        below→apart d A B s.first-valid.shape.some s.second-valid.shape.some (offered-test true h)

  pub exists-accepted : Same a b → apart A B ≡ true → (d : Point) × Offered d true
  exists-accepted s h =
      let (d, w) = witness-exists a.list b.list s.first-valid s.second-valid h in (d, witness-accepted d s w)

  -- ---- searches

  module _ (r : Reply) (f : SeparatorBetween a b r) where
    abbrev q : Question
    q = ask_separator a b f.found

    pub found-refused : {w : Row} → First w (pair_rows a b) → r ≡ refused w.number w.carries
    found-refused g = f.reply-is ∙ asked-given q (shapes-given q g)

    pub refused-found : (n : ℕ) (carries : List ℕ) → r ≡ refused n carries
        → (w : Row) × First w (pair_rows a b) × (w.number ≡ n) × (w.carries ≡ carries)
    refused-found n carries h = asked-refused q n carries (sym f.reply-is ∙ h)

    pub found-answered : NoneApply (pair_rows a b) → r ≡ answered (values q)
    found-answered n = f.reply-is ∙ asked-none q n

    pub answered-found : (v : List ℤ) → r ≡ answered v → NoneApply (pair_rows a b)
    answered-found v h = asked-answered q v (sym f.reply-is ∙ h)

    -- a direction that is answered is a witness
    pub found-direction : (u v floor : ℤ) → r ≡ answered (pos 1 ∷ u ∷ v ∷ floor ∷ []) → Same a b × Separates A B (point u v)
    found-direction u v floor h = (same, go f.found (f.found-is (answered-found _ h)) (asked-values q _ told))
      where
        told : reply (ask_separator a b f.found) ≡ answered (pos 1 ∷ u ∷ v ∷ floor ∷ [])
        told = sym f.reply-is ∙ h

        same : Same a b
        same = asked-shapes (ask_separator a b f.found) _ told

        go : (x : Option Code-as-Point) → Finds A B x → pos 1 ∷ u ∷ v ∷ floor ∷ [] ≡ separator_numbers x ++ (pos a.floor ∷ [])
            → Separates A B (point u v)
        go (Some d) w e =
            let left : d.x ≡ u = cc e in
            let right : d.y ≡ v = cc e in subst (λ y. Separates A B (point u y)) right (subst (λ x. Separates A B (point x d.y)) left w)
        go None w e = absurd (let z : ◌≡◌ {A = ℕ} 0 1 = cc e in let c : ⊥ = omega arith in c)

    module _ (s : Same a b) where
      searched : r ≡ answered (separator_numbers f.found ++ (pos a.floor ∷ []))
      searched = f.reply-is ∙ asked-none q (rest-none q s tt)

      pub found-apart : apart A B ≡ true
          → (u v : ℤ) × (r ≡ answered (pos 1 ∷ u ∷ v ∷ pos a.floor ∷ [])) × Offered (point u v) true
      found-apart h = go f.found searched (f.found-is (rest-none q s tt))
        where
          go : (x : Option Code-as-Point) → r ≡ answered (separator_numbers x ++ (pos a.floor ∷ [])) → Finds A B x
              → (u v : ℤ) × (r ≡ answered (pos 1 ∷ u ∷ v ∷ pos a.floor ∷ [])) × Offered (point u v) true
          go (Some d) e w = (d.x, d.y, e, witness-accepted (at d) s w)
          go None e n = absurd (true-not-false h n)

      pub found_none : apart A B ≡ false → r ≡ answered (pos 0 ∷ pos a.floor ∷ [])
      found_none h = go f.found searched (f.found-is (rest-none q s tt))
        where
          go : (x : Option Code-as-Point) → r ≡ answered (separator_numbers x ++ (pos a.floor ∷ [])) → Finds A B x
              → r ≡ answered (pos 0 ∷ pos a.floor ∷ [])
          go (Some d) e w = absurd (true-not-false
              (below→apart (at d) A B s.first-valid.shape.some s.second-valid.shape.some w.is_below) h)
          go None e n = e

      pub none_found : r ≡ answered (pos 0 ∷ pos a.floor ∷ []) → apart A B ≡ false
      none_found h = refuted (apart A B) (λ t. let (u, v, e, w) = found-apart t in
          let z : ◌≡◌ {A = ℕ} 0 1 = cc in let c : ⊥ = omega arith in c)
