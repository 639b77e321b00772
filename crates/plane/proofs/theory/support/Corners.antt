-- Corners by support and by order.
--     corner-support      in its own direction a corner has the support value
--     corner-same         lists with the same points have the same corners
--     corner-transfer     lists with the same support have the same corners
--     ordered→corners     every corner of an ordered list is a Corner of it
-- That an ordered list is known by its corners is in `Unique.antt`.
use Rattle.std.specs.Prelude.{◌≡◌, refl, ◌⊎◌, List, [], ◌∷◌, ◌++◌, ◌<◌, ℤ, pos, negsuc, ◌+ℤ◌, ◌-ℤ◌, ◌*ℤ◌, length, ◌≤ℤ◌, ◌<ℤ◌}
use Rattle.std.proofs.Common.{sym, ◌∙◌, ap, inl, inr, append_assoc, append-nil, arith, length-append}
use mathlib.Core.List.Memᴰ
use Rattle.integer.specs.Ring.{ring, reify}
use Rattle.integer.specs.Linear.{lia, linear, ◌&◌}
use Rattle.integer.specs.Order.{weaken, le_of_eq, contra<, ◌<×<◌, ◌≤×≤◌, square-nonneg}
use Rattle.plane.specs.Point.{Point, point, ◌⊕◌, ◌⊖◌, ◌∈◌, ◌⊆◌}
use Rattle.plane.specs.Turn.{turn, Left, turn-cycle}
use Rattle.plane.specs.Direction.{value, support}
use Rattle.plane.specs.Corner.{Corner}
use Rattle.plane.specs.Forms.{Pairs, Triples, Ordered, Precedes}
use Rattle.plane.specs.Cut.{outward}
use Rattle.plane.proofs.theory.lists.Members.{point-path, point-discrete, all-member, member-all, pairs-append-last}
use Rattle.plane.proofs.theory.forms.Vector.{turn_level}
use Rattle.plane.proofs.theory.support.Support.{value-le-support, support-attained, support-unique}
use Rattle.plane.proofs.theory.forms.Precedes.{Lower, lower, level, precedes-lower}

-- ---- equal supports, equal corners

-- the direction e, tilted n times towards d: n·d + e
abbrev tilted : ℤ → Point → Point → Point
tilted n d e = point (n *ℤ d.x) (n *ℤ d.y) ⊕ e

value-tilted : (n : ℤ) (d e p : Point) → value (tilted n d e) p ≡ n *ℤ value d p +ℤ value e p
unfolding value
value-tilted n d e p = ring (n ∷ d.x ∷ d.y ∷ e.x ∷ e.y ∷ p.x ∷ p.y ∷ []) (search reify depth 40) tt

module _ {A : List Point} {p : Point} (c : Corner A p) where
  -- the points of A that are not p are below it by at least 1, so a direction e may be tilted until p is furthest in it
  corner-tilted : (n : ℤ) (e q : Point) → q ∈ A → pos 0 ≤ℤ n → (value e q -ℤ value e p) ≤ℤ n
      → value (tilted n c.direction e) q ≤ℤ value (tilted n c.direction e) p
  corner-tilted n e q m h k = rw (value-tilted n c.direction e q, value-tilted n c.direction e p) (go (point-discrete q p))
    where
      d : Point
      d = c.direction

      go : Dec (q ≡ p) → (n *ℤ value d q +ℤ value e q) ≤ℤ (n *ℤ value d p +ℤ value e p)
      go (yes r) = le_of_eq (ap (λ z. n *ℤ value d z +ℤ value e z) r)
      go (no r) =
          let below : (value d q +ℤ pos 1) ≤ℤ value d p =
          lia (value d q ∷ value d p ∷ []) (c.strictly q m r) (search linear depth 40) (omega arith) in
          lia (n ∷ value d q ∷ value d p ∷ value e q ∷ value e p ∷ []) (h ≤×≤ below & k) (search linear depth 40) (omega arith)

  pub corner-support : support c.direction A ≡ value c.direction p
  corner-support = support-unique c.direction c.member (λ q m. go q m (point-discrete q p))
    where
      go : (q : Point) → q ∈ A → Dec (q ≡ p) → value c.direction q ≤ℤ value c.direction p
      go q m (yes r) = le_of_eq (ap (value c.direction) r)
      go q m (no r) = weaken (c.strictly q m r)

  module _ {B : List Point} (same : (d : Point) → support d A ≡ support d B) where
    -- a point of B that is as far as p in p's direction is at most as far in any: tilt that one until p is furthest
    tied_below : (e q : Point) → q ∈ B → value c.direction p ≤ℤ value c.direction q → value e q ≤ℤ value e p
    tied_below e q m h =
        let d = c.direction in
        let n = support e A -ℤ value e p in
        let t = tilted n d e in
        let some : pos 0 ≤ℤ n =
        lia (support e A ∷ value e p ∷ []) (value-le-support e c.member) (search linear depth 40) (omega arith) in
        let furthest = support-unique t c.member (λ r k. corner-tilted n e r k some
        (lia (support e A ∷ value e p ∷ value e r ∷ []) (value-le-support e k) (search linear depth 40) (omega arith))) in
        lia (n ∷ value d q ∷ value d p ∷ value e q ∷ value e p ∷ value t q ∷ value t p ∷ support t B ∷ [])
        (value-le-support t m & sym (same t) ∙ furthest & value-tilted n d e q & value-tilted n d e p & some ≤×≤ h)
        (search linear depth 40) (omega arith)

    -- to the right, to the left, up and down: in none is it further than p
    tied-same : (q : Point) → q ∈ B → value c.direction p ≤ℤ value c.direction q → q ≡ p
    unfolding value
    tied-same q m h = point-path
        (lia (q.x ∷ q.y ∷ p.x ∷ p.y ∷ []) (along (pos 1) (pos 0) & along (negsuc 0) (pos 0)) (search linear depth 40) (omega arith))
        (lia (q.x ∷ q.y ∷ p.x ∷ p.y ∷ []) (along (pos 0) (pos 1) & along (pos 0) (negsuc 0)) (search linear depth 40) (omega arith))
      where
        along : (u v : ℤ) → (u *ℤ q.x +ℤ v *ℤ q.y) ≤ℤ (u *ℤ p.x +ℤ v *ℤ p.y)
        along u v = tied_below (point u v) q m h

    -- the point of B that attains the support in p's direction is p, and so is every other that comes as far
    pub corner-transfer : 0 < length B → Corner B p
    corner-transfer some =
        let r = support-attained c.direction B some in
        let top = sym corner-support ∙ same c.direction ∙ sym r.at_value in
        record {
          member = Memᴰ.cast (sym (tied-same r.at r.at_in (le_of_eq top))) r.at_in;
          direction = c.direction;
          strictly = λ q m other. contra< (λ h. other (tied-same q m h));
        }

pub corner-same : {A B : List Point} {p : Point} → A ⊆ B → B ⊆ A → Corner A p → Corner B p
corner-same f g c = record { member = f _ c.member; direction = c.direction; strictly = λ q m. c.strictly q (g q m) }

-- ---- the corners of an ordered list: a point, a segment

point-corner : (p : Point) → Corner (p ∷ []) p
point-corner p = record {
  member = Memᴰ.head refl;
  direction = p;
  strictly = λ q m other. absurd (other (Memᴰ.eq_of_singleton m));
}

-- along the segment
segment-rises : (p q : Point) → Precedes p q → value (q ⊖ p) p <ℤ value (q ⊖ p) q
unfolding value
segment-rises p q h = go (precedes-lower h)
  where
    go : Lower p q → ((q.x -ℤ p.x) *ℤ p.x +ℤ (q.y -ℤ p.y) *ℤ p.y) <ℤ ((q.x -ℤ p.x) *ℤ q.x +ℤ (q.y -ℤ p.y) *ℤ q.y)
    go (lower a) = lia (p.x ∷ p.y ∷ q.x ∷ q.y ∷ []) (a <×< a & square-nonneg (q.x -ℤ p.x)) (search linear depth 40) (omega arith)
    go (level a b) = lia (p.x ∷ p.y ∷ q.x ∷ q.y ∷ []) (b <×< b & square-nonneg (q.y -ℤ p.y)) (search linear depth 40) (omega arith)

-- the same, looked at from the other end
segment-falls : (p q : Point) → value (q ⊖ p) p <ℤ value (q ⊖ p) q → value (p ⊖ q) q <ℤ value (p ⊖ q) p
unfolding value
segment-falls p q h = lia (p.x ∷ p.y ∷ q.x ∷ q.y ∷ []) h (search linear depth 40) (omega arith)

-- of two points the one that is further in some direction is a corner
pair-corner : (d p q : Point) → value d q <ℤ value d p → Corner (p ∷ q ∷ []) p
pair-corner d p q h = record { member = Memᴰ.head refl; direction = d; strictly = λ r m. below r (Memᴰ.cases_cons m) }
  where
    below : (r : Point) → (r ≡ p) ⊎ (r ∈ (q ∷ [])) → (r ≡ p → ⊥) → value d r <ℤ value d p
    below r (inl e) other = absurd (other e)
    below r (inr m) other = rw (Memᴰ.eq_of_singleton m) h

swapped : (p q : Point) → (p ∷ q ∷ []) ⊆ (q ∷ p ∷ [])
swapped p q r (Memᴰ.head e) = Memᴰ.tail (Memᴰ.head e)
swapped p q r (Memᴰ.tail m) = Memᴰ.head (Memᴰ.eq_of_singleton m)

-- the first corner in the direction away from the second, and the other way round
segment-corner : (p q r : Point) → Precedes p q → r ∈ (p ∷ q ∷ []) → Corner (p ∷ q ∷ []) r
segment-corner p q r h (Memᴰ.head e) = rw e (pair-corner (p ⊖ q) p q (segment-falls p q (segment-rises p q h)))
segment-corner p q r h (Memᴰ.tail m) =
    rw (Memᴰ.eq_of_singleton m) (corner-same (swapped q p) (swapped p q) (pair-corner (q ⊖ p) q p (segment-rises p q h)))

-- ---- a polygon, turned so that the corner is first

-- the last of a list whose pairs are related: every other is related to it
record Last (R : Point → Point → Type 0) (ps : List Point) : Type 0 where
  last : Point
  last-in : last ∈ ps
  last-after : (p : Point) → p ∈ ps → (p ≡ last) ⊎ R p last

pairs-last : (R : Point → Point → Type 0) (p : Point) (ps : List Point) → Pairs R (p ∷ ps) → Last R (p ∷ ps)
pairs-last R p [] h = record { last = p; last-in = Memᴰ.head refl; last-after = λ q m. inl (Memᴰ.eq_of_singleton m) }
pairs-last R p (q ∷ ps) h =
    let z = pairs-last R q ps h.1 in
    record {
      last = z.last;
      last-in = Memᴰ.tail z.last-in;
      last-after = λ r m. go r z (Memᴰ.cases_cons m);
    }
  where
    go : (r : Point) (z : Last R (q ∷ ps)) → (r ≡ p) ⊎ (r ∈ (q ∷ ps)) → (r ≡ z.last) ⊎ R r z.last
    go r z (inl e) = inr (rw e (all-member (λ t. R p t) h.0 z.last-in))
    go r z (inr m) = z.last-after r m

normal-turns : (a b c x : Point) → value (outward a c) b -ℤ value (outward a c) x ≡ turn b c x +ℤ turn b x a
unfolding value turn
normal-turns a b c x = ring (a.x ∷ a.y ∷ b.x ∷ b.y ∷ c.x ∷ c.y ∷ x.x ∷ x.y ∷ []) (search reify depth 40) tt

-- b is furthest along the outer normal past its two neighbours: what another point x falls short by is a sum of two turns, neither of them
-- negative and not both 0
first-corner : (b c q : Point) (ps : List Point) → Pairs (λ r s. Left b r s) (c ∷ q ∷ ps) → Corner (b ∷ c ∷ q ∷ ps) b
first-corner b c q ps h =
    let z = pairs-last (λ r s. Left b r s) q ps h.1 in
    record {
      member = Memᴰ.head refl;
      direction = outward z.last c;
      strictly = λ x m other. further z.last x (go z x (Memᴰ.cases_cons m) other);
    }
  where
    further : (a x : Point) → pos 0 <ℤ (turn b c x +ℤ turn b x a) → value (outward a c) x <ℤ value (outward a c) b
    further a x k = lia (value (outward a c) b ∷ value (outward a c) x ∷ turn b c x ∷ turn b x a ∷ []) (k & normal-turns a b c x)
        (search linear depth 40) (omega arith)

    -- c is on the line from b to c and the last is left of it
    at_next : (a x : Point) → x ≡ c → Left b c a → pos 0 <ℤ (turn b c x +ℤ turn b x a)
    at_next a x e k = rw e (lia (turn b c c ∷ turn b c a ∷ []) (k & turn_level b c) (search linear depth 40) (omega arith))

    later : (a x : Point) → Left b c x → (x ≡ a) ⊎ Left b x a → pos 0 <ℤ (turn b c x +ℤ turn b x a)
    later a x k (inl e) =
        lia (turn b c x ∷ turn b x x ∷ turn b x a ∷ []) (k & turn_level b x & ap (turn b x) e) (search linear depth 40) (omega arith)
    later a x k (inr l) = lia (turn b c x ∷ turn b x a ∷ []) (k & l) (search linear depth 40) (omega arith)

    go : (z : Last (λ r s. Left b r s) (q ∷ ps)) (x : Point) → (x ≡ b) ⊎ (x ∈ (c ∷ q ∷ ps)) → (x ≡ b → ⊥)
        → pos 0 <ℤ (turn b c x +ℤ turn b x z.last)
    go z x (inl e) other = absurd (other e)
    go z x (inr (Memᴰ.head e)) other = at_next z.last x e (all-member (λ r. Left b c r) h.0 z.last-in)
    go z x (inr (Memᴰ.tail m)) other = later z.last x (all-member (λ r. Left b c r) h.0 m) (z.last-after x m)

-- the first corner may go to the back: turns are cyclic
triples-turned : (z : Point) (zs : List Point) → Triples (z ∷ zs) → Triples (zs ++ (z ∷ []))
triples-turned z [] h = (tt, tt)
triples-turned z (y ∷ ys) h = (
  pairs-append-last (λ q r. Left y q r) ys z h.1.0
      (member-all (λ p. Left y p z) ys (λ p m. rw (turn-cycle z y p) at (all-member (λ x. Left z y x) h.0.0 m))),
  triples-turned z ys (h.0.1, h.1.1),
)

polygon-first : (b : Point) (ps : List Point) → Triples (b ∷ ps) → 2 < length (b ∷ ps) → Corner (b ∷ ps) b
polygon-first b [] t n = absurd (omega arith)
polygon-first b (c ∷ []) t n = absurd (omega arith)
polygon-first b (c ∷ (q ∷ ps)) t n = first-corner b c q ps t.0

to_last : (z : Point) (ps : List Point) → (z ∷ ps) ⊆ (ps ++ (z ∷ []))
to_last z ps q (Memᴰ.head e) = Memᴰ.append_right ps (Memᴰ.head e)
to_last z ps q (Memᴰ.tail m) = Memᴰ.append_left (z ∷ []) m

to-first : (z : Point) (ps : List Point) → (ps ++ (z ∷ [])) ⊆ (z ∷ ps)
to-first z ps q m = go (Memᴰ.append_cases ps m)
  where
    go : (q ∈ ps) ⊎ (q ∈ (z ∷ [])) → q ∈ (z ∷ ps)
    go (inl n) = Memᴰ.tail n
    go (inr n) = Memᴰ.head (Memᴰ.eq_of_singleton n)

-- the corner is in the part in front; what is before it goes to the back, one by one
polygon-corner : {b : Point} {zs : List Point} (xs : List Point) → b ∈ zs → Triples (zs ++ xs) → 2 < length (zs ++ xs)
    → Corner (zs ++ xs) b
polygon-corner xs (Memᴰ.head {x = z} {xs = zs} e) t n = rw e (polygon-first z (zs ++ xs) t n)
polygon-corner xs (Memᴰ.tail {x = z} {xs = zs} m) t n =
    let turned = append_assoc zs xs (z ∷ []) in
    let long : 2 < length (zs ++ xs ++ (z ∷ [])) = omega (arith, length-append (zs ++ xs) (z ∷ [])) in
    let c = polygon-corner (xs ++ (z ∷ [])) m (rw turned at (triples-turned z (zs ++ xs) t)) (rw turned at long) in
    corner-same (to-first z (zs ++ xs)) (to_last z (zs ++ xs)) (rw (← turned) at c)

whole-corner : {b : Point} (ps : List Point) → b ∈ ps → Triples ps → 2 < length ps → Corner ps b
whole-corner ps m t n = rw append-nil at (polygon-corner [] m (rw append-nil t) (rw append-nil n))

pub ordered→corners : (ps : List Point) {p : Point} → Ordered ps → p ∈ ps → Corner ps p
ordered→corners [] o m = absurd o
ordered→corners (p ∷ []) o m = rw (Memᴰ.eq_of_singleton m) (point-corner p)
ordered→corners (p ∷ (q ∷ [])) o m = segment-corner p q _ o.0.0 m
ordered→corners (p ∷ (q ∷ (r ∷ ps))) o m = whole-corner (p ∷ q ∷ r ∷ ps) m o.1 (omega arith)
