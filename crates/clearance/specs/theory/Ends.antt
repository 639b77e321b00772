-- The first candidate that is reached, by the ends of the two faces.
--     End f i                   i is the first or the last position of the face
--     Tried test f g r          r is the first pair of ends that passes, or none does; `tried-is`: what the code picks
--     corners-first, second-first, first-first     the nearest candidate, where such a pair is reached and none of an earlier kind
--     some-reached              one is reached
use Rattle.std.specs.Prelude.{◌≡◌, refl, Bool, true, false, ◌&&◌, ◌||◌, ◌⊎◌, Option, Some, None, List, ℕ, ◌≤◌, ◌<◌, eqb, ℤ, pos, length}
use Rattle.std.proofs.Common.{sym, ◌∙◌, ap, subst, inl, inr, arith, eq-eqb, eqb-true}
use Rattle.std.proofs.lemmas.Bool.{false≢true}
use Rattle.std.proofs.Math.Bool.{and-eq-true_iff}
use Rattle.std.specs.Int.Signed.{le_z}
use Rattle.integer.specs.Order.{le_antisym, le_z-true}
use Rattle.plane.specs.Point.{Point, corner, opposite}
use Rattle.plane.specs.Shape.{next, IsShape}
use Rattle.plane.specs.Forms.{NonZero}
use Rattle.plane.specs.Clearance.{Candidate, corners, on_second, on_first, nearest}
use Rattle.plane.proofs.theory.lists.Members.{position-member}
use Rattle.plane.proofs.theory.forms.Vector.{opposite-opposite, below-non-zero}
use Rattle.clearance.specs.Order.{Sooner, Earlier}
use Rattle.clearance.specs.Facing.{Lowest, Foot, Across, Reached, Facing}
use Rattle.clearance.specs.Faces.{IsFace, is_end, is_along, is_foot, picked_of, tried}
use Rattle.clearance.specs.theory.First.{nearest-is}
use Rattle.clearance.specs.declared.face.Face.{Face}

-- ---- the ends of a face

abbrev pub End : Face → ℕ → Type 0
End f i = (i ≡ f.first) ⊎ (i ≡ f.last)

pub end-lowest : {n : Point} {ps : List Point} {f : Face} {i : ℕ} → IsFace n ps f → End f i → Lowest n ps i
end-lowest {n} {ps} face (inl e) = subst (Lowest n ps) (sym e) face.first-lowest
end-lowest {n} {ps} face (inr e) = subst (Lowest n ps) (sym e) face.last-lowest

-- ---- the first pair of ends that passes

pub record Picked (test : ℕ → ℕ → Bool) (f g : Face) (i j : ℕ) : Type 0 where
  pub one_end : End f i
  pub other-end : End g j
  pub passes : test i j ≡ true
  pub none-sooner : (k l : ℕ) → End f k → End g l → test k l ≡ true → Sooner k l i j → ⊥

abbrev pub Tried : (ℕ → ℕ → Bool) → Face → Face → Option (ℕ × ℕ) → Type 0
Tried test f g (Some (i, j)) = Picked test f g i j
Tried test f g None = (k l : ℕ) → End f k → End g l → test k l ≡ true → ⊥

module _ (test : ℕ → ℕ → Bool) (f g : Face) (f-order : f.first ≤ f.last) (g-order : g.first ≤ g.last) where
  -- what holds at the four pairs of ends holds at all
  at-ends : (Good : ℕ → ℕ → Type 0) → Good f.first g.first → Good f.first g.last → Good f.last g.first
      → Good f.last g.last
      → (k l : ℕ) → End f k → End g l → Good k l
  at-ends Good a b c d k l (inl p) (inl q) = rw (p, q) a
  at-ends Good a b c d k l (inl p) (inr q) = rw (p, q) b
  at-ends Good a b c d k l (inr p) (inl q) = rw (p, q) c
  at-ends Good a b c d k l (inr p) (inr q) = rw (p, q) d

  late : {k l i j : ℕ} → i ≤ k → (k ≤ i → j ≤ l) → Sooner k l i j → ⊥
  late h m (inl s) = omega arith
  late h m (inr s) = let r = m (omega (arith, s.0)) in omega (arith, s.1)

  fails : {k l : ℕ} {X : Type 0} → test k l ≡ false → test k l ≡ true → X
  fails e h = absurd (false≢true (sym e ∙ h))

  pub tried-is : Tried test f g (tried test f g)
  tried-is =
      go (test f.first g.first) refl (test f.first g.last) refl (test f.last g.first) refl (test f.last g.last) refl
    where
      go : (p : Bool) → test f.first g.first ≡ p → (q : Bool) → test f.first g.last ≡ q → (r : Bool)
          → test f.last g.first ≡ r
          → (s : Bool) → test f.last g.last ≡ s → Tried test f g (picked_of f g p q r s)
      go true a q b r c s d = record {
        one_end = inl refl;
        other-end = inl refl;
        passes = a;
        none-sooner = at-ends (λ k l. test k l ≡ true → Sooner k l f.first g.first → ⊥)
            (λ h. late (omega arith) (λ m. omega arith)) (λ h. late (omega arith) (λ m. g-order)) (λ h. late f-order (λ m. omega arith))
            (λ h. late f-order (λ m. g-order));
      }
      go false a true b r c s d = record {
        one_end = inl refl;
        other-end = inr refl;
        passes = b;
        none-sooner = at-ends (λ k l. test k l ≡ true → Sooner k l f.first g.last → ⊥) (λ h. fails a h)
            (λ h. late (omega arith) (λ m. omega arith)) (λ h e. later h e) (λ h. late f-order (λ m. omega arith));
      }
        where
          -- sooner only if the two ends are one
          later : test f.last g.first ≡ true → Sooner f.last g.first f.first g.last → ⊥
          later h (inl e) = omega (arith, f-order)
          later h (inr e) = fails (ap (λ k. test k g.first) e.0 ∙ a) h
      go false a false b true c s d = record {
        one_end = inr refl;
        other-end = inl refl;
        passes = c;
        none-sooner = at-ends (λ k l. test k l ≡ true → Sooner k l f.last g.first → ⊥) (λ h. fails a h) (λ h. fails b h)
            (λ h. late (omega arith) (λ m. omega arith)) (λ h. late (omega arith) (λ m. g-order));
      }
      go false a false b false c true d = record {
        one_end = inr refl;
        other-end = inr refl;
        passes = d;
        none-sooner =
            at-ends (λ k l. test k l ≡ true → Sooner k l f.last g.last → ⊥) (λ h. fails a h) (λ h. fails b h) (λ h. fails c h)
            (λ h. late (omega arith) (λ m. omega arith));
      }
      go false a false b false c false d =
          at-ends (λ k l. test k l ≡ true → ⊥) (λ h. fails a h) (λ h. fails b h) (λ h. fails c h) (λ h. fails d h)

-- ---- the tests of the code, and what is reached

along-zero : {z : ℤ} → (le_z (pos 0) z && le_z z (pos 0)) ≡ true → z ≡ pos 0
along-zero {z} h = let r = (and-eq-true_iff (le_z (pos 0) z) (le_z z (pos 0))).0 h in
    le_antisym (le_z-true {x = z} {y = pos 0} r.1) (le_z-true {x = pos 0} {y = z} r.0)

zero-along : {z : ℤ} → z ≡ pos 0 → (le_z (pos 0) z && le_z z (pos 0)) ≡ true
zero-along e = rw e refl

end_is : (g : Face) (i : ℕ) → is_end g i ≡ true → End g i
end_is g i h = go (eqb i g.first) refl h
  where
    go : (b : Bool) → eqb i g.first ≡ b → (b || eqb i g.last) ≡ true → End g i
    go true e h = inl (eqb-true i g.first e)
    go false e h = inr (eqb-true i g.last h)

is-end : (g : Face) (i : ℕ) → End g i → is_end g i ≡ true
is-end g i (inl e) = rw (eq-eqb i g.first e) refl
is-end g i (inr e) = go (eqb i g.first)
  where
    go : (b : Bool) → (b || eqb i g.last) ≡ true
    go true = refl
    go false = eq-eqb i g.last e

-- faces of qs and ps that are against each other
module _ (n : Point) (qs ps : List Point) {f g : Face} (F : IsFace n qs f) (G : IsFace (opposite n) ps g) where
  pub foot-test : {c e : ℕ} → Foot n qs ps c e → End f c × End g e × (is_foot g qs ps c e ≡ true)
  unfolding is_foot
  foot-test {c} {e} r =
      (F.no_other c r.from, G.no_other e r.start, rw (is-end g _ (G.no_other _ r.end), r.inside) refl)

  pub test-foot : {c e : ℕ} → End f c → End g e → is_foot g qs ps c e ≡ true → Foot n qs ps c e
  unfolding is_foot
  test-foot {c} {e} a b h =
      let r = (and-eq-true_iff (is_end g (next (length ps) e)) _).0 h in
      record { from = end-lowest F a; start = end-lowest G b; end = end-lowest G (end_is g _ r.0); inside = r.1 }

  pub across_test : {i j : ℕ} → Across n qs ps i j → End f i × End g j × (is_along n qs ps i j ≡ true)
  unfolding is_along
  across_test {i} {j} r = (F.no_other i r.one, G.no_other j r.other, zero-along r.along)

  pub test-across : {i j : ℕ} → End f i → End g j → is_along n qs ps i j ≡ true → Across n qs ps i j
  unfolding is_along
  test-across a b h = record { one = end-lowest F a; other = end-lowest G b; along = along-zero h }

-- ---- the nearest candidate

pub facing-some : {A B : List Point} {n : Point} → 0 < length A → 0 < length B → Facing A B n → NonZero n
facing-some {A} {B} {n} a b h = below-non-zero n (corner B 0) (corner A 0)
    (h.above (corner A 0) (corner B 0) (position-member A 0 a) (position-member B 0 b))

module _ (A B : List Point) (n : Point) (s : IsShape A) (t : IsShape B) (h : Facing A B n) {f g : Face} (F : IsFace n A f)
    (G : IsFace (opposite n) B g) where
  -- the other way round
  F' : IsFace (opposite (opposite n)) A f
  F' = subst (λ m. IsFace m A f) (sym (opposite-opposite n)) F

  abbrev Corners : Option (ℕ × ℕ) → Type 0
  Corners = Tried (is_along n A B) f g

  abbrev OnSecond : Option (ℕ × ℕ) → Type 0
  OnSecond = Tried (is_foot g A B) f g

  abbrev OnFirst : Option (ℕ × ℕ) → Type 0
  OnFirst = Tried (is_foot f B A) g f

  no-corners : Corners None → (i j : ℕ) → Across n A B i j → ⊥
  no-corners none i j r = let w = across_test n A B F G r in none i j w.0 w.1 w.2

  no_second : OnSecond None → (c e : ℕ) → Foot n A B c e → ⊥
  no_second none c e r = let w = foot-test n A B F G r in none c e w.0 w.1 w.2

  no-first : OnFirst None → (c e : ℕ) → Foot (opposite n) B A c e → ⊥
  no-first none c e r = let w = foot-test (opposite n) B A G F' r in none c e w.0 w.1 w.2

  pub corners-first : {i j : ℕ} → Corners (Some (i, j)) → nearest A B ≡ corners i j
  corners-first {i} {j} r = nearest-is A B s.some t.some n h (corners i j)
      (test-across n A B F G r.one_end r.other-end r.passes) none
    where
      none : (d : Candidate) → Reached A B n d → Earlier d (corners i j) → ⊥
      none (corners k l) w e = let v = across_test n A B F G w in r.none-sooner k l v.0 v.1 v.2 e
      none (on_second k l) w e = e
      none (on_first k l) w e = e

  pub second-first : Corners None → {c e : ℕ} → OnSecond (Some (c, e)) → nearest A B ≡ on_second c e
  second-first off {c} {e} r = nearest-is A B s.some t.some n h (on_second c e)
      (test-foot n A B F G r.one_end r.other-end r.passes) none
    where
      none : (d : Candidate) → Reached A B n d → Earlier d (on_second c e) → ⊥
      none (corners k l) w q = no-corners off k l w
      none (on_second k l) w q = let v = foot-test n A B F G w in r.none-sooner k l v.0 v.1 v.2 q
      none (on_first k l) w q = q

  pub first-first : Corners None → OnSecond None → {c e : ℕ} → OnFirst (Some (c, e)) → nearest A B ≡ on_first c e
  first-first off neither {c} {e} r = nearest-is A B s.some t.some n h (on_first c e)
      (test-foot (opposite n) B A G F' r.one_end r.other-end r.passes) none
    where
      none : (d : Candidate) → Reached A B n d → Earlier d (on_first c e) → ⊥
      none (corners k l) w q = no-corners off k l w
      none (on_second k l) w q = no_second neither k l w
      none (on_first k l) w q = let v = foot-test (opposite n) B A G F' w in r.none-sooner k l v.0 v.1 v.2 q

  pub some-reached : Corners None → OnSecond None → OnFirst None → ⊥
  some-reached off neither nor = go h.some h.reached
    where
      go : (c : Candidate) → Reached A B n c → ⊥
      go (corners k l) w = no-corners off k l w
      go (on_second k l) w = no_second neither k l w
      go (on_first k l) w = no-first nor k l w
