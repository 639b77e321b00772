-- A shape of the floor and a drive that passes the rows: where the cart meets the shape.
--     drive-way       it is met exactly if the driven cart is not apart from it
--     met-first       what is met at a fraction is met, and no later than there; `met-there`: at its contact
--     floor-contact   contact may be asked of it
use Rattle.std.specs.Prelude.{◌≡◌, true, ℕ, ◌<◌, pos, length}
use Rattle.std.proofs.Math.Path.{sym, ap}
use Rattle.std.proofs.Common.{◌∙◌}
use Rattle.std.proofs.Math.Bool.{not}
use mathlib.Core.List.{List, [], ◌∷◌, ◌++◌, Memᴰ}
use Rattle.plane.specs.Point.{Point}
use Rattle.plane.specs.Shape.{IsShape}
use Rattle.plane.specs.Refusal.{Valid}
use Rattle.plane.specs.Reply.{answered, NoneApply}
use Rattle.plane.specs.Separation.{apart}
use Rattle.plane.specs.Distance.{Fraction}
use Rattle.plane.specs.Floor.{Floored, corners, Same}
use Rattle.plane.specs.Question.{reply}
use Rattle.growth.specs.Grown.{driven}
use Rattle.growth.proofs.theory.Places.{grown-shape}
use Rattle.journal.specs.Format.{content}
use Rattle.motion.specs.Contact.{OnWay, NoLater, meets, cart_meets, contact, contact_numbers, ask_contact}
use Rattle.motion.proofs.theory.Meeting.{first-on-way, first-meets, none-earlier, met-unless-apart}
use Rattle.motion.proofs.theory.Larger.{cart-met}
use Rattle.motion.proofs.theory.Replies.{contact-answers}
use Rattle.gaps.specs.Gap.{grown_of, on_floor}
use Rattle.gaps.proofs.theory.Pairs.{drive-clear}
use Rattle.drives.specs.Drive.{is_met, drive_rows}
use Rattle.drives.specs.theory.Floors.{floor-valid, floor-on, sized-in}

module _ (b : List ℕ) (cart : Floored) (t u : Point) where
  abbrev A : List Point
  A = corners cart

  abbrev rs : List (List ℕ)
  rs = on_floor cart.floor b

  -- the corners of a record
  abbrev shape : List ℕ → List Point
  shape r = corners (content r)

  module _ (v : Valid cart.list) (n : NoneApply (drive_rows b cart t u)) (r : List ℕ) (m : Memᴰ r rs) where
    shape-some : 0 < length (shape r)
    shape-some = (floor-valid b cart.floor r m n.0).shape.some

    grown-is : IsShape (grown_of A r)
    unfolding grown_of
    grown-is = grown-shape (shape r) A shape-some v.shape.some

    -- the cart meets it exactly if its place meets the grown one
    at_place : (g : Fraction) → OnWay g → cart_meets A (shape r) t u g ≡ meets t u (grown_of A r) g
    unfolding grown_of
    at_place g on = cart-met A (shape r) v.shape.some shape-some t u g on.whole

    pub drive-way : is_met A t u r ≡ not (apart (driven A t u) (shape r))
    unfolding is_met
    drive-way = ap not (sym (drive-clear A v.shape.some b cart.floor n.0 t u r m))

    -- what is met somewhere is met at its contact, and not before
    pub met-first : (g : Fraction) → OnWay g → cart_meets A (shape r) t u g ≡ true
        → (is_met A t u r ≡ true) × NoLater (contact t u (grown_of A r)) g
    unfolding is_met
    met-first g on h =
        let place = sym (at_place g on) ∙ h in (
          sym (met-unless-apart t u (grown_of A r) grown-is) ∙ first-meets t u (grown_of A r) grown-is g on place,
          none-earlier t u (grown_of A r) grown-is g on place,
        )

    pub met-there : is_met A t u r ≡ true → cart_meets A (shape r) t u (contact t u (grown_of A r)) ≡ true
    unfolding is_met
    met-there h = at_place (contact t u (grown_of A r)) (first-on-way t u (grown_of A r))
        ∙ met-unless-apart t u (grown_of A r) grown-is ∙ h

    pub floor-contact : reply (ask_contact (content r) cart t u)
        ≡ answered (contact_numbers t u (grown_of A r) ++ (pos cart.floor ∷ []))
    unfolding grown_of
    floor-contact =
        let on-floor = floor-on b cart.floor r m in
        let good = floor-valid b cart.floor r m n.0 in
        let same : Same (content r) cart = record { first-valid = good; second-valid = v; one-floor = on-floor } in
        contact-answers (content r) cart t u same (n.1.1.0, (n.1.1.1.0, sized-in A rs n.1.1.1.1 m))
        ∙ ap (λ (f : ℕ). answered (contact_numbers t u (grown_of A r) ++ (pos f ∷ []))) on-floor
