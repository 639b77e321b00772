-- Points strictly inside a rectangle that a set reaches past at each of its corners: without them the set has the same shape.
--     outer-member, member-outer      the points of `outer` are those that are not inside
--     outer-some, outer-few           there is one, and no more than before
--     outer_shape                     the shape is the same
--     Sifting                         the invariant of the loop that copies them: of the first i points k stay and are held
--     sift-start, sift-one, sift-end  its moves; `sift-room`: there is room for the next
--     outer-reduced                   what it leaves
use Rattle.std.specs.Prelude.{◌≡◌, refl, Bool, true, false, not, cond, ◌&&◌, ◌⊎◌, List, [], ◌∷◌, ℕ, suc, ◌+◌, ◌-◌, ◌≤◌, ◌<◌, ℤ, pos, ◌-ℤ◌}
use Rattle.std.specs.Prelude.{◌*ℤ◌, length, ◌≤ℤ◌, ◌<ℤ◌}
use Rattle.std.proofs.Common.{sym, ◌∙◌, ap, subst, inl, inr, add-one, arith}
use Rattle.std.proofs.lemmas.Bool.{false≢true}
use mathlib.Core.List.Memᴰ
use Rattle.std.proofs.Math.Seq.{take-length}
use Rattle.std.specs.Int.Signed.{lt_z}
use Rattle.integer.specs.Linear.{lia, linear, ◌&◌}
use Rattle.integer.specs.Order.{weaken, le_trans, le_antisym, lt-or-le, lt_z-true, ◌≤×≤◌}
use Rattle.plane.specs.Point.{Point, points, corner, ◌∈◌}
use Rattle.plane.specs.Direction.{value, support}
use Rattle.plane.specs.Corner.{shape_of}
use Rattle.plane.proofs.theory.lists.Flat.{points-length}
use Rattle.plane.proofs.theory.lists.Members.{member-some, member-cons}
use Rattle.plane.proofs.theory.support.Support.{value-le-support, support-le, support-subset}
use Rattle.plane.proofs.theory.hull.ShapeOf.{shape_of-shape, shape_of-support, shape-known}
use Rattle.polygon.specs.Point.{stored}
use Rattle.sorting.specs.declared.interior.Rectangle.{Rectangle}
use Rattle.sorting.specs.Order.{run}
use Rattle.sorting.specs.Buffer.{Holds}
use Rattle.sorting.specs.Interior.{is_inside, outer, Some, Reached, Reduced}
use Rattle.sorting.specs.theory.Run.{run_more, run_take}
use Rattle.sorting.specs.theory.CornersWritten.{Pouring, pour-start, pour-one, pour-over, pour-end}
use Rattle.sorting.specs.theory.Held.{held-count}

-- ---- the points that stay

module _ (b : Rectangle) where
  pub outer-member : {p : Point} (S : List Point) → p ∈ outer b S → p ∈ S
  outer-member [] m = m
  outer-member {p} (q ∷ S) m = go (outer-member S) (is_inside b q) m
    where
      go : (p ∈ outer b S → p ∈ S) → (t : Bool) → p ∈ cond t (outer b S) (q ∷ outer b S) → p ∈ (q ∷ S)
      go ih true n = Memᴰ.tail (ih n)
      go ih false n = member-cons ih n

  pub member-outer : {p : Point} {S : List Point} → is_inside b p ≡ false → p ∈ S → p ∈ outer b S
  member-outer {p} out (Memᴰ.head {x = q} {xs = S} e) =
      subst (λ t. p ∈ cond t (outer b S) (q ∷ outer b S)) (sym (ap (is_inside b) (sym e) ∙ out)) (Memᴰ.head e)
  member-outer {p} out (Memᴰ.tail {x = q} {xs = S} m) = go (member-outer out m) (is_inside b q)
    where
      go : p ∈ outer b S → (t : Bool) → p ∈ cond t (outer b S) (q ∷ outer b S)
      go n true = n
      go n false = Memᴰ.tail n

  pub outer-few : (S : List Point) → length (outer b S) ≤ length S
  outer-few [] = omega arith
  outer-few (q ∷ S) = go (outer-few S) (is_inside b q)
    where
      go : length (outer b S) ≤ length S → (t : Bool) → length (cond t (outer b S) (q ∷ outer b S)) ≤ suc (length S)
      go h true = omega arith
      go h false = omega arith

-- ---- what a point inside is, and what is none

irrefl : {x y : ℤ} → x <ℤ y → y ≤ℤ x → ⊥
irrefl {x} {y} h k = lia (x ∷ y ∷ []) (h & k) (search linear depth 40) (omega arith)

-- strictly between the sides
record Between (b : Rectangle) (p : Point) : Type 0 where
  from-left : b.left <ℤ p.x
  to-right : p.x <ℤ b.right
  from_low : b.low <ℤ p.y
  to_high : p.y <ℤ b.high

both_true : (s t : Bool) → (s && t) ≡ true → (s ≡ true) × (t ≡ true)
both_true true true e = (refl, refl)
both_true true false e = absurd (false≢true e)
both_true false t e = absurd (false≢true e)

inside-between : (b : Rectangle) (p : Point) → is_inside b p ≡ true → Between b p
unfolding is_inside
inside-between b p e =
    let both = both_true (lt_z b.left p.x && lt_z p.x b.right) (lt_z b.low p.y && lt_z p.y b.high) e in
    let across = both_true (lt_z b.left p.x) (lt_z p.x b.right) both.0 in
    let upright = both_true (lt_z b.low p.y) (lt_z p.y b.high) both.1 in
    record {
      from-left = lt_z-true across.0;
      to-right = lt_z-true across.1;
      from_low = lt_z-true upright.0;
      to_high = lt_z-true upright.1;
    }

-- a point that is not between the sides is not inside
not-inside : (b : Rectangle) (p : Point) → (Between b p → ⊥) → is_inside b p ≡ false
not-inside b p f = go (is_inside b p) refl
  where
    go : (t : Bool) → is_inside b p ≡ t → t ≡ false
    go true e = absurd (f (inside-between b p e))
    go false e = refl

-- ---- in each quadrant of directions one of the four points is at least as far as any inside

-- further along each axis, or the direction looks the other way
further : (d p q : Point) → pos 0 ≤ℤ (d.x *ℤ (q.x -ℤ p.x)) → pos 0 ≤ℤ (d.y *ℤ (q.y -ℤ p.y)) → value d p ≤ℤ value d q
unfolding value
further d p q h k = lia (d.x ∷ d.y ∷ p.x ∷ p.y ∷ q.x ∷ q.y ∷ []) (h & k) (search linear depth 40) (omega arith)

forth : {u x y : ℤ} → pos 0 ≤ℤ u → x ≤ℤ y → pos 0 ≤ℤ (u *ℤ (y -ℤ x))
forth {u} {x} {y} h k = lia (u ∷ x ∷ y ∷ []) (h ≤×≤ k) (search linear depth 40) (omega arith)

back : {u x y : ℤ} → u <ℤ pos 0 → y ≤ℤ x → pos 0 ≤ℤ (u *ℤ (y -ℤ x))
back {u} {x} {y} h k = lia (u ∷ x ∷ y ∷ []) (weaken h ≤×≤ k) (search linear depth 40) (omega arith)

module _ (b : Rectangle) (S : List Point) (reached : Reached b S) where
  -- the four points are not inside, so they stay
  stays-right : {q : Point} → q ∈ S → b.right ≤ℤ q.x → q ∈ outer b S
  stays-right {q} m h = member-outer b (not-inside b q (λ i. irrefl i.to-right h)) m

  stays-left : {q : Point} → q ∈ S → q.x ≤ℤ b.left → q ∈ outer b S
  stays-left {q} m h = member-outer b (not-inside b q (λ i. irrefl i.from-left h)) m

  -- a point of those that stay that is at least as far
  as-far : (d p : Point) → Between b p → Some (outer b S) (λ q. value d p ≤ℤ value d q)
  as-far d p i = go (lt-or-le d.x (pos 0)) (lt-or-le d.y (pos 0))
    where
      go : (d.x <ℤ pos 0) ⊎ (pos 0 ≤ℤ d.x) → (d.y <ℤ pos 0) ⊎ (pos 0 ≤ℤ d.y)
          → Some (outer b S) (λ q. value d p ≤ℤ value d q)
      go (inr h) (inr k) = let z = reached.northeast in record {
        at = z.at;
        at_in = stays-right z.at_in z.such.0;
        such = further d p z.at (forth h (le_trans (weaken i.to-right) z.such.0))
            (forth k (le_trans (weaken i.to_high) z.such.1));
      }
      go (inl h) (inr k) = let z = reached.northwest in record {
        at = z.at;
        at_in = stays-left z.at_in z.such.0;
        such = further d p z.at (back h (le_trans z.such.0 (weaken i.from-left)))
            (forth k (le_trans (weaken i.to_high) z.such.1));
      }
      go (inl h) (inl k) = let z = reached.southwest in record {
        at = z.at;
        at_in = stays-left z.at_in z.such.0;
        such = further d p z.at (back h (le_trans z.such.0 (weaken i.from-left)))
            (back k (le_trans z.such.1 (weaken i.from_low)));
      }
      go (inr h) (inl k) = let z = reached.southeast in record {
        at = z.at;
        at_in = stays-right z.at_in z.such.0;
        such = further d p z.at (forth h (le_trans (weaken i.to-right) z.such.0))
            (back k (le_trans z.such.1 (weaken i.from_low)));
      }

  pub outer-some : 0 < length (outer b S)
  outer-some = let z = reached.northeast in member-some (stays-right z.at_in z.such.0)

  -- ---- the same support, and so the same shape

  below : (d p : Point) → p ∈ S → value d p ≤ℤ support d (outer b S)
  below d p m = go (is_inside b p) refl
    where
      go : (t : Bool) → is_inside b p ≡ t → value d p ≤ℤ support d (outer b S)
      go true e = let z = as-far d p (inside-between b p e) in le_trans z.such (value-le-support d z.at_in)
      go false e = value-le-support d (member-outer b e m)

  some : 0 < length S
  some = member-some reached.northeast.at_in

  pub outer_shape : shape_of (outer b S) ≡ shape_of S
  outer_shape = shape-known (shape_of (outer b S)) S (shape_of-shape (outer b S) outer-some) some
      (λ d. shape_of-support (outer b S) outer-some d
      ∙ le_antisym (support-subset d outer-some (λ p. outer-member b S)) (support-le d S some (below d)))

-- ---- copied one by one

pub record Sifting (b : Rectangle) (ps : List Point) (old : List ℤ) (i k : ℕ) (l : List ℤ) : Type 0 where
  pub within : i ≤ length ps
  pub few : k ≤ i
  pub pouring : Pouring old (outer b ps) (outer b (run ps i (length ps - i))) k l

module _ (b : Rectangle) (ps : List Point) where
  pub sift-start : {old : List ℤ} → length ps ≤ length (points old) → Sifting b ps old 0 0 old
  sift-start {old} h =
      let none : length ps - 0 ≡ length ps = omega arith in
      let all : run ps 0 (length ps - 0) ≡ ps = ap (run ps 0) none ∙ run_take ps (length ps) (omega arith) ∙ take-length ps in record {
        within = omega arith;
        few = omega arith;
        pouring = pour-start (omega (arith, ap (λ S. length (outer b S)) all, outer-few b ps)) (ap (outer b) all);
      }

  module _ {old l : List ℤ} {i k : ℕ} (c : Sifting b ps old i k l) where
    module _ (more : i < length ps) (room : length ps ≤ length (points old)) where
      pub sift-room : k < length (points l)
      sift-room = omega (arith, more, room, c.few, c.pouring.same, points-length old, points-length l)

      -- it is written in any case, and counted if it is not inside
      pub sift-one : {p : Point} (t : Bool) {now : List ℤ} {r : ℕ} → p ≡ corner ps i → t ≡ is_inside b p → now ≡ stored l k p
          → r ≡ cond (not t) (k + 1) k → Sifting b ps old (i + 1) r now
      sift-one {p} t {now} p-is t-is is r-is =
          subst (λ m. Sifting b ps old (i + 1) m now) (sym r-is) (go t (t-is ∙ ap (is_inside b) p-is))
        where
          later : List Point
          later = run ps (i + 1) (length ps - (i + 1))

          next : (s : Bool) → s ≡ is_inside b (corner ps i)
              → outer b (run ps i (length ps - i)) ≡ cond s (outer b later) (corner ps i ∷ outer b later)
          next s e =
              let first : run ps i (length ps - i) ≡ corner ps i ∷ later = rw (add-one i) (run_more ps more) in
              ap (outer b) first ∙ ap (λ u. cond u (outer b later) (corner ps i ∷ outer b later)) (sym e)

          go : (s : Bool) → s ≡ is_inside b (corner ps i) → Sifting b ps old (i + 1) (cond (not s) (k + 1) k) now
          go true e = record {
            within = omega arith;
            few = omega (arith, c.few);
            pouring = subst (λ L. Pouring old (outer b ps) L k now) (next true e) (pour-over c.pouring p sift-room is);
          }
          go false e = record {
            within = omega arith;
            few = omega (arith, c.few);
            pouring = pour-one c.pouring (next false e) (is ∙ ap (stored l k) p-is);
          }

    pub sift-end : length ps ≤ i → Holds l k (outer b ps)
    sift-end h =
        let none : length ps - i ≡ 0 = omega arith in
        pour-end c.pouring (ap (λ m. outer b (run ps i m)) none)

pub outer-reduced : (b : Rectangle) (S : List Point) → Reached b S → {l : List ℤ} {r : ℕ} → Holds l r (outer b S) → Reduced S l r
outer-reduced b S reached {l} {r} h = record {
  some = omega (arith, held-count h, outer-some b S reached);
  few = omega (arith, held-count h, outer-few b S);
  within = h.within;
  part = λ p m. outer-member b S (subst (λ L. p ∈ L) h.front m);
  shape = ap shape_of h.front ∙ outer_shape b S reached;
}
