-- The search along the walk round a shape and the mirror image of another: the best pair of the places passed.
--     behind-refl, behind-trans     the order of pairs
--     Found A B r                   r is a pair of corners, with its distance
--     after a b w                   the places that come after that of w
--     Leads a b t w best            every place of the walk comes after w, or its pair is no better than the best
--     leads-start, leads-next       the moves of the loop; `leads-done`: at the end it is the answer
use Rattle.std.specs.Prelude.{◌≡◌, refl, true, false, ◌⊎◌, ℕ, ◌<◌, ℤ, length}
use Rattle.std.proofs.Math.Path.{sym, ap}
use Rattle.std.proofs.Common.{◌∙◌, subst, inl, inr, le_refl, arith, le-leb}
use mathlib.Core.List.Memᴰ
use mathlib.Core.List.{List, ◌∷◌, Memᴰ}
use Rattle.std.proofs.Math.IntN.{pos, nat_abs}
use Rattle.integer.specs.Order.{le_antisym, le_z-true}
use Rattle.integer.specs.Bound.{size_is}
use Rattle.plane.specs.Point.{Point, points, corner}
use Rattle.plane.specs.Refusal.{Valid}
use Rattle.plane.specs.Forms.{edges}
use Rattle.plane.specs.Measure.{squared}
use Rattle.plane.proofs.theory.forms.Squared.{squared-nonneg}
use Rattle.polygon.specs.Peak.{Peak}
use Rattle.calipers.specs.Image.{image}
use Rattle.calipers.specs.Places.{Place, place, places}
use Rattle.calipers.specs.Walk.{Walk, begun, advanced, ahead, At}
use Rattle.calipers.specs.theory.Steps.{ahead-begin, ahead-here, ahead-over}
use Rattle.measure.specs.declared.Length.{Length}
use Rattle.measure.specs.Comparison.{level}
use Rattle.measure.specs.Scan.{Behind, Kept, kept, replaced}
use Rattle.measure.specs.theory.Longest.{not_after-trans, not_after-antisym}
use Rattle.reach.specs.Greatest.{greatest_squared, greatest_first, greatest_second}
use Rattle.reach.specs.Answer.{IsGreatest, pair_of, pair_at}
use Rattle.reach.specs.theory.Furthest.{squared-le-greatest, Furthest, greatest-furthest, greatest-least}
use Rattle.reach.specs.theory.Visited.{place-first-in, place-second-in, furthest-visited}

-- ---- the order of pairs

pub behind-refl : (p : Length) → Behind p p
behind-refl p = record { no-further = le_refl p.squared; no-earlier = λ h. level refl (le_refl p.to) }

pub behind-trans : {p q r : Length} → Behind p q → Behind q r → Behind p r
behind-trans a b = record {
  no-further = omega (arith, a.no-further, b.no-further);
  no-earlier = λ h. not_after-trans (b.no-earlier (omega (arith, a.no-further))) (a.no-earlier (omega (arith, b.no-further)));
}

-- of two pairs the one that is kept is no worse than either
kept_next : {best next r : Length} → Kept best next r → Behind next r
kept_next {next = next} (kept e b) = subst (Behind next) (sym e) b
kept_next {next = next} (replaced e b) = subst (Behind next) (sym e) (behind-refl next)

kept-best : {best next r : Length} → Kept best next r → Behind best r
kept-best {best} (kept e b) = subst (Behind best) (sym e) (behind-refl best)
kept-best {best} (replaced e b) = subst (Behind best) (sym e) b

-- ---- a pair of corners

pub record Found (A B : List Point) (r : Length) : Type 0 where
  pub from_in : r.from < length A
  pub to_in : r.to < length B
  pub distance : pos r.squared ≡ squared (corner A r.from) (corner B r.to)

found-kept : {A B : List Point} {best next r : Length} → Found A B best → Found A B next → Kept best next r → Found A B r
found-kept {A} {B} f g (kept e b) = subst (Found A B) (sym e) f
found-kept {A} {B} f g (replaced e b) = subst (Found A B) (sym e) g

pub found-pair : (A B : List Point) (i j : ℕ) → i < length A → j < length B → Found A B (pair_of A B i j)
unfolding pair_of
found-pair A B i j h k = record { from_in = h; to_in = k; distance = size_is (squared-nonneg (corner A i) (corner B j)) }

-- a pair that no first furthest one is better than is the answer
module _ {A B : List Point} {r : Length} (f : Found A B r)
    (b : Behind (pair_of A B (greatest_first A B) (greatest_second A B)) r) where
  first : Furthest A B (greatest_first A B) (greatest_second A B)
  first = greatest-furthest A B (omega (arith, f.from_in)) (omega (arith, f.to_in))

  first-distance : pos (nat_abs (squared (corner A (greatest_first A B)) (corner B (greatest_second A B)))) ≡ greatest_squared A B
  first-distance = size_is (squared-nonneg _ _) ∙ first.furthest

  found-answer : IsGreatest A B r
  unfolding pair_of
  found-answer =
      let far : pos r.squared ≡ greatest_squared A B = le_antisym (rw f.distance (squared-le-greatest A B _ _ f.from_in f.to_in))
      (rw (← first-distance) (le_z-true (le-leb _ _ b.no-further))) in
      let own : Furthest A B r.from r.to =
      record { first-in = f.from_in; second-in = f.to_in; furthest = sym f.distance ∙ far } in
      let as-far : r.squared ≡ nat_abs (squared (corner A (greatest_first A B)) (corner B (greatest_second A B)))
      = ap nat_abs (far ∙ sym first-distance) in
      let ends = not_after-antisym (b.no-earlier (omega (arith, as-far))) (greatest-least A B own) in
      record { squared-is = far; from_is = ends.0; to_is = ends.1 }

-- ---- the best so far

-- the pair at a place
abbrev pub at : List ℤ → List ℤ → ℕ → Place → Length
at a b t p = pair_at (points a) (points b) t p.left p.right

-- the places that come after that of w
abbrev pub after : List ℤ → List ℤ → Walk → List Place
after a b w = ahead (points a) (points (image b)) (advanced (points a) (points (image b)) w)

pub record Leads (a b : List ℤ) (t : ℕ) (w : Walk) (best : Length) : Type 0 where
  pub place_is : At a (image b) w
  pub found : Found (points a) (points b) best
  pub others : (p : Place) → Memᴰ p (places (edges (points a)) (edges (points (image b))))
      → Memᴰ p (after a b w) ⊎ Behind (at a b t p) best

module _ {a b : List ℤ} (u : Valid a) (v : Valid b) {t : ℕ} (peak : Peak (points b) t) where
  pub found_here : {w : Walk} → At a (image b) w → Found (points a) (points b) (pair_at (points a) (points b) t w.i w.j)
  found_here {w} h = found-pair (points a) (points b) _ _ (place-first-in a b u v t peak w.i h.standing.left_in)
      (place-second-in a b u v t peak w.j h.standing.right-in)

  -- of the places to come at w, where the walk is not over: w itself, or one after it
  split : {w : Walk} → At a (image b) w → w.over ≡ false → (p : Place)
      → Memᴰ p (ahead (points a) (points (image b)) w)
      → (p ≡ place w.i w.j) ⊎ Memᴰ p (after a b w)
  split {w} h o p m = go (subst (Memᴰ p) (ahead-here a (image b) w h o) m)
    where
      go : Memᴰ p (place w.i w.j ∷ after a b w)
          → (p ≡ place w.i w.j) ⊎ Memᴰ p (after a b w)
      go (Memᴰ.head e) = inl e
      go (Memᴰ.tail n) = inr n

  pub leads-start : {w : Walk} {best : Length} → At a (image b) begun → w ≡ begun
      → best ≡ pair_at (points a) (points b) t w.i w.j → Leads a b t w best
  leads-start {w} {best} h e f = record {
    place_is = here;
    found = subst (Found (points a) (points b)) (sym f) (found_here here);
    others = λ p m. go p (split here (ap (λ (w : Walk). w.over) e) p
        (subst (Memᴰ p) (sym (ap (ahead (points a) (points (image b))) e ∙ ahead-begin (points a) (points (image b)))) m));
  }
    where
      here : At a (image b) w
      here = subst (At a (image b)) (sym e) h

      go : (p : Place) → (p ≡ place w.i w.j) ⊎ Memᴰ p (after a b w)
          → Memᴰ p (after a b w) ⊎ Behind (at a b t p) best
      go p (inl q) = inr (subst (Behind (at a b t p)) (ap (at a b t) q ∙ sym f) (behind-refl (at a b t p)))
      go p (inr m) = inl m

  module _ {w : Walk} {best : Length} (l : Leads a b t w best) where
    pub leads-next : {x : Walk} {next r : Length} → At a (image b) x → x.over ≡ false
        → x ≡ advanced (points a) (points (image b)) w → next ≡ pair_at (points a) (points b) t x.i x.j → Kept best next r
        → Leads a b t x r
    leads-next {x} {next} {r} h o e f k = record {
      place_is = h;
      found = found-kept l.found (subst (Found (points a) (points b)) (sym f) (found_here h)) k;
      others = λ p m. go p (l.others p m);
    }
      where
        later : (p : Place) → (p ≡ place x.i x.j) ⊎ Memᴰ p (after a b x)
            → Memᴰ p (after a b x) ⊎ Behind (at a b t p) r
        later p (inl q) = inr (subst (λ (n : Length). Behind n r) (f ∙ sym (ap (at a b t) q)) (kept_next k))
        later p (inr m) = inl m

        go : (p : Place) → Memᴰ p (after a b w) ⊎ Behind (at a b t p) best
            → Memᴰ p (after a b x) ⊎ Behind (at a b t p) r
        go p (inl m) = later p (split h o p (subst (λ (y : Walk). Memᴰ p (ahead (points a) (points (image b)) y)) (sym e) m))
        go p (inr q) = inr (behind-trans q (kept-best k))

    pub leads-done : (advanced (points a) (points (image b)) w).over ≡ true → IsGreatest (points a) (points b) best
    leads-done o =
        let (p, m, i, j) = furthest-visited a b u v t peak
        (greatest-furthest (points a) (points b) u.shape.some v.shape.some) in
        found-answer l.found (subst (λ (n : Length). Behind n best) (cc (i, j)) (last p (l.others p m)))
      where
        last : (p : Place) → Memᴰ p (after a b w) ⊎ Behind (at a b t p) best
            → Behind (at a b t p) best
        last p (inl m) = absurd (Memᴰ.not-nil (subst (Memᴰ p) (ahead-over (points a) (points (image b)) _ o) m))
        last p (inr q) = q
