-- What length and width answer of a good shape: the first longest pair, the first narrowest edge.
--     length-reply, width-reply     they are what is answered, and nothing else is
--     width-refused                 10 is given exactly of fewer than three corners
use Rattle.std.specs.Prelude.{◌≡◌, refl, Bool, true, false, List, [], ◌∷◌, ◌↔◌, ℕ, ◌*◌, ◌<◌, ltb, ℤ, pos, nat_abs, length}
use Rattle.std.proofs.Common.{sym, ◌∙◌, ap, arith, ltb-true, lt-ltb, le-ltb}
use Rattle.std.specs.Int.Signed.{clash_ℤ}
use Rattle.integer.specs.Order.{le_of_eq, le_trans, le_antisym}
use Rattle.integer.specs.Bound.{positive-size}
use Rattle.plane.specs.Point.{Point, corner}
use Rattle.plane.specs.Shape.{IsShape}
use Rattle.plane.specs.Reply.{answered, refused, here}
use Rattle.plane.specs.Refusal.{Valid}
use Rattle.plane.specs.Measure.{squared, length_squared, length_from, length_to, height, edge_squared, width_edge, width_corner, root_below}
use Rattle.plane.specs.Floor.{Floored, corners}
use Rattle.plane.specs.Question.{values, reply, ask_length, ask_width}
use Rattle.plane.proofs.theory.refusals.Asked.{asked-given, asked-none, asked-values, rest-none, rest-given}
use Rattle.measure.specs.Extremes.{FirstLongest, FirstNarrowest}
use Rattle.measure.specs.theory.Longest.{squared-le-length, Longest, length-longest, length-from-least, length-to-least}
use Rattle.measure.specs.theory.Height.{edge_squared-positive, facing-width, width-facing, width-earlier}
use Rattle.measure.specs.theory.Narrowest.{no_wider-le, wider_lt, le-no_wider, lt-wider, narrowest-done, width-narrowest}
use Rattle.measure.specs.theory.Rounded.{rounded-low, rounded-high, rounded-unique}

-- ---- length

module _ (ps : List Point) (some : 0 < length ps) {d : ℤ} {i j : ℕ} where
  longest-first : d ≡ length_squared ps → i ≡ length_from ps → j ≡ length_to ps → FirstLongest ps d i j
  longest-first p q r = let first = length-longest ps some in record {
    ordered = rw (q, r) first.ordered;
    within = rw r first.within;
    has = rw (p, q, r) first.longest;
    greatest = λ k l m n. rw p (squared-le-length ps k l m n);
    smallest-i = λ k l m n e. rw q (length-from-least ps (record { ordered = m; within = n; longest = e ∙ p }));
    smallest-j = λ l m n e. rw r (length-to-least ps (record {
      ordered = rw q at m;
      within = n;
      longest = ap (λ k. squared (corner ps k) (corner ps l)) (sym q) ∙ e ∙ p;
    }));
  }

  module _ (s : FirstLongest ps d i j) where
    other : Longest ps (length_from ps) (length_to ps)
    other = length-longest ps some

    first-squared : d ≡ length_squared ps
    first-squared = le_antisym
        (le_trans (le_of_eq (sym s.has)) (squared-le-length ps i j (omega (arith, s.ordered, s.within)) s.within))
        (le_trans (le_of_eq (sym other.longest))
        (s.greatest (length_from ps) (length_to ps) (omega (arith, other.ordered, other.within)) other.within))

    first-from : i ≡ length_from ps
    first-from = omega (
      arith,
      length-from-least ps (record { ordered = s.ordered; within = s.within; longest = s.has ∙ first-squared }),
      s.smallest-i (length_from ps) (length_to ps) other.ordered other.within (other.longest ∙ sym first-squared),
    )

    first_to : j ≡ length_to ps
    first_to = let same = first-from in omega (
      arith,
      length-to-least ps (record {
        ordered = rw same at s.ordered;
        within = s.within;
        longest = ap (λ k. squared (corner ps k) (corner ps j)) (sym same) ∙ s.has ∙ first-squared;
      }),
      s.smallest-j (length_to ps) (rw same other.ordered) other.within
          (ap (λ k. squared (corner ps k) (corner ps (length_to ps))) same ∙ other.longest ∙ sym first-squared),
    )

module _ (a : Floored) (v : Valid a.list) (d : ℤ) (i j : ℕ) where
  pub length-reply : (reply (ask_length a) ≡ answered (d ∷ pos i ∷ pos j ∷ pos a.floor ∷ [])) ↔ FirstLongest (corners a) d i j
  length-reply = (
    λ h. let same = asked-values (ask_length a) _ h in longest-first (corners a) v.shape.some (cc same) (cc same) (cc same),
    λ s. asked-none (ask_length a) (rest-none (ask_length a) v tt) ∙ told s,
  )
    where
      told : FirstLongest (corners a) d i j
          → answered (values (ask_length a)) ≡ answered (d ∷ pos i ∷ pos j ∷ pos a.floor ∷ [])
      told s =
          let some = v.shape.some in
          let p = first-squared (corners a) some s in
          let q = first-from (corners a) some s in
          let r = first_to (corners a) some s in
          cc (p, q, r)

-- ---- width

module _ (ps : List Point) (shape : IsShape ps) (three : 2 < length ps) where
  -- the edge that is answered, its t and its q
  abbrev edge : ℕ
  edge = width_edge ps

  abbrev turn : ℤ
  turn = height ps edge

  abbrev squares : ℤ
  squares = edge_squared ps edge

  long : (f : ℕ) → f < length ps → 0 < nat_abs (edge_squared ps f)
  long f h = positive-size (edge_squared-positive ps shape three f h)

  module _ {e c : ℕ} {t q : ℤ} {w : ℕ} where
    narrowest-first : e ≡ edge → c ≡ width_corner ps → t ≡ turn → q ≡ squares
        → w ≡ root_below (nat_abs turn * nat_abs turn) (nat_abs squares)
        → FirstNarrowest ps e c t q w
    narrowest-first at-e at_c at-t at-q at-w =
        let narrowest = width-narrowest shape three in
        let facing = width-facing ps shape.some in
        let some = long edge narrowest.among in
        record {
          edge_in = rw at-e narrowest.among;
          turn_is = rw (at-e, at-t) refl;
          squared-is = rw (at-e, at-q) refl;
          least = λ f h. rw (at-t, at-q) (no_wider-le ps edge f (narrowest.least f h));
          smallest-edge = λ f h. let before = rw at-e at h in
              rw (at-t, at-q) (wider_lt ps f edge (narrowest.sole f (omega (arith, narrowest.among)) before));
          corner-in = rw at_c facing.within;
          corner-has = rw (at-e, at_c, at-t) facing.has;
          smallest-corner = λ k h. rw (at-e, at-t) (width-earlier ps k (rw at_c at h));
          rounded-low = rw (at-t, at-q, at-w) (rounded-low _ (nat_abs squares) some);
          rounded-high = rw (at-t, at-q, at-w) (rounded-high _ (nat_abs squares) some);
        }

    module _ (s : FirstNarrowest ps e c t q w) where
      first_edge : width_edge ps ≡ e
      first_edge = narrowest-done (record {
        edges-in = λ f h. h;
        among = s.edge_in;
        least = λ f h. le-no_wider ps e f (rw (s.turn_is, s.squared-is) (s.least f h));
        sole = λ f h l. lt-wider ps f e (rw (s.turn_is, s.squared-is) (s.smallest-edge f l));
      })

      first-corner : width_corner ps ≡ c
      first-corner = facing-width first_edge (record {
        within = s.corner-in;
        has = s.corner-has ∙ sym s.turn_is;
        sole = λ k l m. clash_ℤ (s.smallest-corner k l) (le_of_eq (sym (m ∙ s.turn_is)));
      })

      first-rounded : root_below (nat_abs t * nat_abs t) (nat_abs q) ≡ w
      first-rounded =
          rounded-unique _ (nat_abs q) (rw s.squared-is at (long e s.edge_in)) w s.rounded-low s.rounded-high

module _ (a : Floored) (v : Valid a.list) where
  abbrev ps : List Point
  ps = corners a

  pub width-reply : 2 < length ps → (e c : ℕ) (t q : ℤ) (w : ℕ)
      → (reply (ask_width a) ≡ answered (pos e ∷ pos c ∷ t ∷ q ∷ pos w ∷ pos a.floor ∷ [])) ↔ FirstNarrowest ps e c t q w
  width-reply three e c t q w = (
    λ h. let same = asked-values (ask_width a) _ h in
        narrowest-first ps v.shape three (cc same) (cc same) (cc same) (cc same) (cc same),
    λ s. asked-none (ask_width a) (rest-none (ask_width a) v (le-ltb (length ps) 3 three, tt)) ∙ told s,
  )
    where
      told : FirstNarrowest ps e c t q w
          → answered (values (ask_width a)) ≡ answered (pos e ∷ pos c ∷ t ∷ q ∷ pos w ∷ pos a.floor ∷ [])
      told s =
          let at-e = first_edge ps v.shape three s in
          let at_c = first-corner ps v.shape three s in
          let at-w = first-rounded ps v.shape three s in
          let at-t = s.turn_is in
          let at-q = s.squared-is in
          cc (at-e, at_c, at-w, at-t, at-q)

  pub width-refused : (reply (ask_width a) ≡ refused 10 []) ↔ (length ps < 3)
  width-refused = (
    λ h. go (ltb (length ps) 3) refl h,
    λ few. asked-given (ask_width a) (rest-given (ask_width a) v (here (lt-ltb (length ps) 3 few))),
  )
    where
      go : (b : Bool) → ltb (length ps) 3 ≡ b → reply (ask_width a) ≡ refused 10 [] → length ps < 3
      go true e h = ltb-true (length ps) 3 e
      go false e h = absurd (let z : ◌≡◌ {A = ℕ} 0 1 = cc (asked-none (ask_width a) (rest-none (ask_width a) v (e, tt))) in
          let f : ⊥ = omega arith in f)
