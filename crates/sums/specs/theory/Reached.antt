-- The places of the walk of a whole sum, by the count of corners.
--     walk_same, same-walk     the test of two states, as a fact; `walk-equal`: field by field
--     over-advanced            after a step the walk is over exactly if all edges are passed; `over-finished`: then they are
--     to-come                  after c corners, the others are to come; `more-to-come`: some are, unless the walk is over
--     place-different          a different place for each count
--     place_at, place-count    exactly the states after a count from none to all are places
--     before-count             the count of a place; `place-stands`, `place-standing`: the walk is there
use Rattle.std.specs.Prelude.{◌≡◌, Bool, not, cond, ◌&&◌, List, eqb, ℤ, length, drop}
use Rattle.std.proofs.Math.Path.{refl}
use Rattle.std.proofs.Common.{sym, ◌∙◌, ap, ap₂, subst, arith, eqb-true, eq-eqb, length-drop}
use Rattle.std.proofs.Math.Bool.{true, false}
use Rattle.std.proofs.lemmas.Bool.{false≢true}
use Prim.Native.Nat.{ℕ, zero, suc, ◌≤◌, ◌<◌}
use Rattle.plane.specs.Point.{points}
use Rattle.plane.specs.Refusal.{Valid}
use Rattle.plane.specs.Forms.{edges}
use Rattle.plane.proofs.theory.lists.Sought.{some-here, some-witness, first-unique}
use Rattle.calipers.specs.Walk.{Walk, begun, remaining, finished, advanced, At}
use Rattle.sums.specs.PlaceAfter.{whole_sum, place_after, same_walk, is_place, corners_before}
use Rattle.calipers.specs.theory.Places.{finished-all}
use Rattle.calipers.specs.theory.Steps.{at-begin, at-stepped, remaining-here, remaining-stepped}
use Rattle.calipers.specs.theory.Visits.{sum-visited}

-- ---- two states

same_bool : (b : Bool) → cond b b (not b) ≡ true
same_bool true = refl
same_bool false = refl

pub same-walk : (u : Walk) → same_walk u u ≡ true
unfolding same_walk
same-walk u = rw (eq-eqb u.i u.i refl, eq-eqb u.j u.j refl) (same_bool u.over)

pub walk-equal : {u x : Walk} → u.i ≡ x.i → u.j ≡ x.j → u.over ≡ x.over → u ≡ x
walk-equal {u} {x} p q r = ap₂ (λ (i j : ℕ). record { i = i; j = j; over = u.over }) p q
    ∙ ap (λ (o : Bool). record { i = x.i; j = x.j; over = o }) r

pub walk_same : (u x : Walk) → same_walk u x ≡ true → u ≡ x
unfolding same_walk
walk_same u x = go (eqb u.i x.i) refl (eqb u.j x.j) refl u.over refl x.over refl
  where
    go : (a : Bool) → eqb u.i x.i ≡ a → (b : Bool) → eqb u.j x.j ≡ b → (o : Bool) → u.over ≡ o → (p : Bool) → x.over ≡ p
        → (a && (b && cond o p (not p))) ≡ true → u ≡ x
    go false e b f o g p h k = absurd (false≢true k)
    go true e false f o g p h k = absurd (false≢true k)
    go true e true f true g true h k = walk-equal (eqb-true u.i x.i e) (eqb-true u.j x.j f) (g ∙ sym h)
    go true e true f true g false h k = absurd (false≢true k)
    go true e true f false g true h k = absurd (false≢true k)
    go true e true f false g false h k = walk-equal (eqb-true u.i x.i e) (eqb-true u.j x.j f) (g ∙ sym h)

module _ (a b : List ℤ) where
  -- a walk is over where all edges are passed
  pub over-advanced : (c : ℕ) → let u = place_after a b (suc c) in u.over ≡ finished (points a) u.i (points b) u.j
  unfolding advanced
  over-advanced c = refl

  pub over-finished : (c : ℕ) → (place_after a b c).over ≡ true
      → ((place_after a b c).i ≡ length (edges (points a))) × ((place_after a b c).j ≡ length (edges (points b)))
  unfolding finished
  over-finished zero h = absurd (false≢true h)
  over-finished (suc c) h = finished-all (edges (points a)) (edges (points b)) _ _ (sym (over-advanced c) ∙ h)

module _ (a b : List ℤ) (v : Valid a) (w : Valid b) where
  pub place-stands : (c : ℕ) → At a b (place_after a b c)
  place-stands c = at-stepped a b begun (at-begin a b v w) c

  pub to-come : (c : ℕ) → c ≤ length (whole_sum a b) → remaining (points a) (points b) (place_after a b c) ≡ drop c (whole_sum a b)
  to-come c h =
      remaining-stepped a b begun (at-begin a b v w) c (rw (sum-visited a b v w) h) ∙ ap (drop c) (sum-visited a b v w)

  pub more-to-come : (c : ℕ) → c ≤ length (whole_sum a b) → (place_after a b c).over ≡ false → c < length (whole_sum a b)
  more-to-come c h o = omega (
    arith,
    ap length (sym (remaining-here a b (place_after a b c) (place-stands c) o) ∙ to-come c h),
    length-drop c (whole_sum a b),
  )

  -- ---- a place for each count

  pub place-different : (c d : ℕ) → c ≤ length (whole_sum a b) → d ≤ length (whole_sum a b) → place_after a b c ≡ place_after a b d → c ≡ d
  place-different c d h k e =
      let same = ap length (sym (to-come c h) ∙ ap (remaining (points a) (points b)) e ∙ to-come d k) in
      omega (arith, same, length-drop c (whole_sum a b), length-drop d (whole_sum a b))

  pub place_at : (c : ℕ) → c ≤ length (whole_sum a b) → is_place a b (place_after a b c) ≡ true
  unfolding is_place
  place_at c h = some-here _ (suc (length (whole_sum a b))) c (omega arith) (same-walk (place_after a b c))

  pub before-count : (c : ℕ) → c ≤ length (whole_sum a b) → corners_before a b (place_after a b c) ≡ c
  unfolding corners_before
  before-count c h = first-unique _ (suc (length (whole_sum a b))) c (omega arith) (λ l. same-walk (place_after a b c)) (λ k l. other k l)
    where
      other : (k : ℕ) → k < c → same_walk (place_after a b c) (place_after a b k) ≡ false
      other k l = go (same_walk (place_after a b c) (place_after a b k)) refl
        where
          go : (t : Bool) → same_walk (place_after a b c) (place_after a b k) ≡ t → t ≡ false
          go true e = absurd (omega (arith, place-different c k h (omega arith) (walk_same _ _ e)))
          go false e = refl

pub place-count : (a b : List ℤ) (u : Walk) → is_place a b u ≡ true → (c : ℕ) × (c ≤ length (whole_sum a b)) × (u ≡ place_after a b c)
unfolding is_place
place-count a b u h =
    let r = some-witness _ (suc (length (whole_sum a b))) h in (r.0, omega (arith, r.1), walk_same u (place_after a b r.0) r.2)

pub place-standing : (a b : List ℤ) → Valid a → Valid b → (u : Walk) → is_place a b u ≡ true → At a b u
place-standing a b v w u h = let r = place-count a b u h in subst (At a b) (sym r.2) (place-stands a b v w r.0)
