-- What a separating direction means, in document 02's words (request W13). Each theorem is proved in the theory; here it is only cited.
--     below            "every corner of the first is strictly below every corner of the second in it"; acceptance means apart
--     ask_offer         the same of the reply to two shapes with their floors; shapes apart have a direction that is accepted
--     SeparatorBetween     the search is refused exactly by 1 to 5 and 13; else it finds such a direction exactly if the shapes are
--                          apart, and says none exactly if they are not
-- That 11 and 12 are "after 1 to 5 and 13" is `ask_offer` of plane's `Question.antt`.
use Rattle.std.specs.Prelude.{true, false, List, [], ◌∷◌, ◌↔◌, ◌≡◌, ℕ, ◌<◌, ℤ, pos, length, ◌<ℤ◌}
use Rattle.plane.specs.Point.{Point, point, ◌∈◌}
use Rattle.plane.specs.Reply.{Reply, answered, refused, Row, NoneApply, First}
use Rattle.plane.specs.Direction.{value}
use Rattle.plane.specs.Furthest.{bad_direction, common_divisor}
use Rattle.plane.specs.Separation.{apart}
use Rattle.plane.specs.Offer.{below}
use Rattle.plane.specs.Floor.{Floored, corners, pair_rows, Same}
use Rattle.plane.specs.Question.{reply, ask_offer}
use Rattle.separation.specs.Directions.{AllBelow}
use Rattle.separator.specs.Separator.{SeparatorBetween}
use Rattle.separator.specs.theory.Below.{below→all, all→below, below→apart}
use Rattle.separator.specs.theory.Offered.{offer-yes, offer-no, accepted-apart, exists-accepted, witness-accepted}
use Rattle.separator.specs.theory.Offered.{found-refused, refused-found, found-answered, answered-found, found-direction}
use Rattle.separator.specs.theory.Offered.{found-apart, found_none, none_found}

-- lists of corners; they have a corner
module _ (d : Point) (A B : List Point) where
  -- "every corner of the first is strictly below every corner of the second in it"
  pub below-is-below : below d A B ≡ true → (p q : Point) → p ∈ A → q ∈ B → value d p <ℤ value d q
  below-is-below h = below→all d A B h

  -- "accept exactly when": and then it is accepted
  pub all-below-is-below : ((p q : Point) → p ∈ A → q ∈ B → value d p <ℤ value d q) → below d A B ≡ true
  all-below-is-below f = all→below d A B f

  pub below-means-apart : 0 < length A → 0 < length B → below d A B ≡ true → apart A B ≡ true
  below-means-apart a b h = below→apart d A B a b h

-- shapes with their floors
module _ (a b : Floored) where
  -- the direction is accepted
  abbrev Accepted : Point → Type 0
  Accepted d = reply (ask_offer a b d) ≡ answered (pos 1 ∷ pos a.floor ∷ [])

  -- of shapes on one floor, and a direction that 11 and 12 let pass
  module _ (s : Same a b) (d : Point) (good : bad_direction d ≡ false) (name : common_divisor d ≡ false) where
    -- "accept exactly when every corner of the first is strictly below every corner of the second in it"
    pub offer-is-accepted-exactly : Accepted d ↔ AllBelow d (corners a) (corners b)
    offer-is-accepted-exactly = offer-yes a b d s good name

    -- "else answer no"
    pub offer-is-declined-exactly : reply (ask_offer a b d) ≡ answered (pos 0 ∷ pos a.floor ∷ [])
        ↔ (AllBelow d (corners a) (corners b) → ⊥)
    offer-is-declined-exactly = offer-no a b d s good name

  -- "Whoever offered it, acceptance means apart."
  pub acceptance-means-apart : (d : Point) → Accepted d → apart (corners a) (corners b) ≡ true
  acceptance-means-apart d h = accepted-apart a b d h

  -- "For any shapes apart on one floor, an acceptable direction exists"
  pub acceptable-direction-exists : Same a b → apart (corners a) (corners b) ≡ true → (d : Point) × Accepted d
  acceptable-direction-exists s h = exists-accepted a b s h

  module _ (r : Reply) (f : SeparatorBetween a b r) where
    -- "after 1 to 5 and 13"
    pub search-is-refused-first : {w : Row} → First w (pair_rows a b) → r ≡ refused w.number w.carries
    search-is-refused-first g = found-refused a b r f g

    -- and by nothing else
    pub refused-search-is-first : (n : ℕ) (carries : List ℕ) → r ≡ refused n carries
        → (w : Row) × First w (pair_rows a b) × (w.number ≡ n) × (w.carries ≡ carries)
    refused-search-is-first n carries h = refused-found a b r f n carries h

    -- where none of 1 to 5 and 13 applies, the search is answered
    pub search-is-answered-if-none : NoneApply (pair_rows a b) → (values : List ℤ) × (r ≡ answered values)
    search-is-answered-if-none n = (_, found-answered a b r f n)

    -- and only there
    pub none-if-search-is-answered : (values : List ℤ) → r ≡ answered values → NoneApply (pair_rows a b)
    none-if-search-is-answered values h = answered-found a b r f values h

    -- a direction that is answered is accepted if it is offered: so a direction is answered only if the shapes are apart
    pub found-direction-is-accepted : (u v floor : ℤ) → r ≡ answered (pos 1 ∷ u ∷ v ∷ floor ∷ []) → Accepted (point u v)
    found-direction-is-accepted u v floor h = let (s, w) = found-direction a b r f u v floor h in witness-accepted a b (point u v) s w

    pub found-direction-means-apart : (u v floor : ℤ) → r ≡ answered (pos 1 ∷ u ∷ v ∷ floor ∷ []) → apart (corners a) (corners b) ≡ true
    found-direction-means-apart u v floor h = acceptance-means-apart (point u v) (found-direction-is-accepted u v floor h)

    module _ (s : Same a b) where
      -- "finds one": for shapes apart on one floor, a direction that is accepted if it is offered
      pub search-finds-accepted : apart (corners a) (corners b) ≡ true
          → (u v : ℤ) × (r ≡ answered (pos 1 ∷ u ∷ v ∷ pos a.floor ∷ [])) × Accepted (point u v)
      search-finds-accepted h = found-apart a b r f s h

      -- "or says none if they are not apart"
      pub search-says-none : apart (corners a) (corners b) ≡ false → r ≡ answered (pos 0 ∷ pos a.floor ∷ [])
      search-says-none h = found_none a b r f s h

      -- and only then
      pub none-means-not-apart : r ≡ answered (pos 0 ∷ pos a.floor ∷ []) → apart (corners a) (corners b) ≡ false
      none-means-not-apart h = none_found a b r f s h
