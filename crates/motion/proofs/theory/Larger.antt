-- The cart and its place; larger carts and obstacles.
--     cart-met           the cart at the place of a fraction meets the obstacle exactly if the place meets the grown obstacle
--     larger-meets       what a place meets it meets in a larger shape
--     larger-first       so a larger shape is met no later
use Rattle.std.specs.Prelude.{◌≡◌, refl, Bool, true, false, not, List, [], ◌∷◌, map, ◌<◌, pos, length, ◌<ℤ◌}
use Rattle.std.proofs.Common.{sym, ◌∙◌, ap, arith}
use Rattle.std.proofs.Math.IntN.{ℤ}
use Rattle.integer.specs.Linear.{linear, lia, ◌&◌}
use Rattle.integer.specs.Order.{◌<×≤◌, ◌≡×◌}
use Rattle.plane.specs.Point.{Point, opposite}
use Rattle.plane.specs.Shape.{IsShape}
use Rattle.plane.specs.Direction.{support}
use Rattle.plane.specs.Separation.{inside, apart}
use Rattle.plane.specs.Mean.{times}
use Rattle.plane.specs.Distance.{Fraction}
use Rattle.separation.specs.theory.Inside.{inside→reach, reach→inside, inside-trans}
use Rattle.growth.specs.Grown.{grown}
use Rattle.growth.proofs.theory.Places.{grown-shape, grown-some, grown-reach, grown-known, place_inside}
use Rattle.growth.proofs.theory.Laws.{grown-larger-cart, grown-larger-obstacle}
use Rattle.motion.specs.Contact.{NoLater, spot, meets, cart_meets, contact}
use Rattle.motion.proofs.theory.Scaled.{scaled-some, scaled-support, scaled-shape}
use Rattle.motion.proofs.theory.Meeting.{first-on-way, none-earlier, met-unless-apart}

-- ---- the cart

module _ (A B : List Point) (a : 0 < length A) (b : 0 < length B) (k : ℤ) (above : pos 0 <ℤ k) where
  -- growing k times the obstacle by k times the cart
  grown-scaled : map (times k) (grown B A) ≡ grown (map (times k) B) (map (times k) A)
  grown-scaled = grown-known (map (times k) B) (map (times k) A) (scaled-some k B b) (scaled-some k A a) (map (times k) (grown B A))
      (scaled-shape k above (grown B A) (grown-shape B A b a)) (λ d. lia
      (k ∷ support d (map (times k) (grown B A)) ∷ support d (grown B A) ∷ support d B ∷ support (opposite d) A
      ∷ support d (map (times k) B) ∷ support (opposite d) (map (times k) A) ∷ [])
      (scaled-support k above d (grown B A) & grown-reach B A b a d ≡× k & scaled-support k above d B
      & scaled-support k above (opposite d) A) (search linear depth 40) (omega arith))

not-not : (t : Bool) → not (not t) ≡ t
not-not true = refl
not-not false = refl

pub cart-met : (A B : List Point) → 0 < length A → 0 < length B → (t u : Point) (f : Fraction) → pos 0 <ℤ f.denominator
    → cart_meets A B t u f ≡ meets t u (grown B A) f
unfolding meets cart_meets
cart-met A B a b t u f whole =
    let d = f.denominator in
    ap not (place_inside (map (times d) A) (map (times d) B) (scaled-some d A a) (scaled-some d B b) (spot t u f)) ∙ not-not _
    ∙ ap (inside (spot t u f ∷ [])) (sym (grown-scaled A B a b d whole))

-- ---- larger

module _ (t u : Point) (G H : List Point) (within : inside G H ≡ true) where
  pub larger-meets : 0 < length G → 0 < length H → (f : Fraction) → pos 0 <ℤ f.denominator → meets t u G f ≡ true → meets t u H f ≡ true
  unfolding meets
  larger-meets g h f whole met =
      inside-trans (spot t u f ∷ []) (map (times k) G) (map (times k) H) (omega arith) (scaled-some k G g) (scaled-some k H h) met
      (reach→inside (map (times k) G) (map (times k) H) (scaled-some k G g) (scaled-some k H h) (λ d. lia
      (k ∷ support d G ∷ support d H ∷ support d (map (times k) G) ∷ support d (map (times k) H) ∷ [])
      (scaled-support k whole d G & scaled-support k whole d H & whole <×≤ inside→reach G H g h within d)
      (search linear depth 40) (omega arith)))
    where
      k : ℤ
      k = f.denominator

  pub larger-first : IsShape G → IsShape H → apart (t ∷ u ∷ []) G ≡ false → NoLater (contact t u H) (contact t u G)
  larger-first s r near = none-earlier t u H r (contact t u G) (first-on-way t u G)
      (larger-meets s.some r.some (contact t u G) (first-on-way t u G).whole (met-unless-apart t u G s ∙ ap not near))

-- larger outlines, also both
module _ (B D A C : List Point) (b : 0 < length B) (d : 0 < length D) (a : 0 < length A) (c : 0 < length C) where
  pub grown-within : inside B D ≡ true → inside A C ≡ true → inside (grown B A) (grown D C) ≡ true
  grown-within h k = inside-trans (grown B A) (grown D A) (grown D C) (grown-some B A b a) (grown-some D A d a) (grown-some D C d c)
      (grown-larger-obstacle B D A b d a h) (grown-larger-cart D A C d a c k)
