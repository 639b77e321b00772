-- The search for the width, edge by edge: the best edge so far with a corner of greatest turn, that turn t and its squared length q.
--     width-keep, -replace    the moves of the search, by the tests  t·t/q < t'·t'/q'  and  t'·t'/q' < t·t/q  that it makes
--     width_same              of the same edges; `width-done`: of all edges, the answer
use Rattle.std.specs.Prelude.{◌≡◌, refl, Bool, true, false, not, List, ℕ, ◌*◌, ◌≤◌, ◌<◌, ltb, length}
use Rattle.std.proofs.Common.{◌∙◌, ap, mul-zero, one-mul, arith, lt-ltb, ltb-true}
use Rattle.integer.specs.Order.{lt-lt_z}
use Rattle.plane.specs.Point.{Point}
use Rattle.plane.specs.Shape.{IsShape}
use Rattle.plane.specs.Measure.{no_wider, width_edge}
use Rattle.plane.proofs.theory.lists.Sought.{true-not-false}
use Rattle.measure.specs.Comparison.{Measured, Width, none, best}
use Rattle.measure.specs.theory.Height.{edge_squared-positive}
use Rattle.measure.specs.theory.Narrowest.{no_wider-fractions, More}
use Rattle.measure.specs.theory.Narrowest.{narrowest-one, narrowest-keep, narrowest-replace, narrowest-done}

module _ {ps : List Point} (s : IsShape ps) (three : 2 < length ps) {P Q : ℕ → Type 0} {k : ℕ} (h : k < length ps) (more : More P Q k)
    {e c t q c' t' q' : ℕ} (w : Width ps P e c t q) (m : Measured ps k c' t' q') where
  -- the first edge is always taken: it is narrower than 1/0
  some-length : 0 < q'
  some-length = ltb-true 0 q' (lt-lt_z (rw m.long at (edge_squared-positive ps s three k h)))

  pub width-keep : ltb (t' * t' * q) (t * t * q') ≡ false → (ltb (t * t * q') (t' * t' * q) ≡ false → e ≤ k) → Width ps Q e c t q
  width-keep = go w
    where
      go : {t q : ℕ} → Width ps P e c t q → ltb (t' * t' * q) (t * t * q') ≡ false → (ltb (t * t * q') (t' * t' * q) ≡ false → e ≤ k)
          → Width ps Q e c t q
      go (none empty) test first = true-not-false (lt-ltb (t' * t' * 0) (1 * 1 * q') (simp (mul-zero, one-mul) some-length)) test
      go {t} {q} (best n b) test first =
          let same = no_wider-fractions ps e k b.turns b.long m.turns m.long ∙ ap not test in
          best (narrowest-keep s three h more n same (λ l. later l (ltb (t * t * q') (t' * t' * q)) refl)) b
        where
          later : k < e → (x : Bool) → ltb (t * t * q') (t' * t' * q) ≡ x → no_wider ps k e ≡ false
          later l true f = no_wider-fractions ps k e m.turns m.long b.turns b.long ∙ ap not f
          later l false f = absurd (omega (arith, first f))

  pub width-replace : ltb (t * t * q') (t' * t' * q) ≡ false → (ltb (t' * t' * q) (t * t * q') ≡ false → k ≤ e) → Width ps Q k c' t' q'
  width-replace = go w
    where
      go : {t q : ℕ} → Width ps P e c t q → ltb (t * t * q') (t' * t' * q) ≡ false → (ltb (t' * t' * q) (t * t * q') ≡ false → k ≤ e)
          → Width ps Q k c' t' q'
      go (none empty) test first = best (narrowest-one s three h more empty) m
      go {t} {q} (best n b) test first =
          let same = no_wider-fractions ps k e m.turns m.long b.turns b.long ∙ ap not test in
          best (narrowest-replace s three h more n same (λ l. later l (ltb (t' * t' * q) (t * t * q')) refl)) m
        where
          later : e < k → (x : Bool) → ltb (t' * t' * q) (t * t * q') ≡ x → no_wider ps e k ≡ false
          later l true f = no_wider-fractions ps e k b.turns b.long m.turns m.long ∙ ap not f
          later l false f = absurd (omega (arith, first f))

pub width_same : {ps : List Point} {P Q : ℕ → Type 0} {e c t q : ℕ} → ((f : ℕ) → P f → Q f) → ((f : ℕ) → Q f → P f) → Width ps P e c t q
    → Width ps Q e c t q
width_same from to (none empty) = none (λ f q. empty f (to f q))
width_same {e = e} from to (best n m) = best (record {
  edges-in = λ f q. n.edges-in f (to f q);
  among = from e n.among;
  least = λ f q. n.least f (to f q);
  sole = λ f q l. n.sole f (to f q) l;
}) m

pub width-done : {ps : List Point} {e c t q : ℕ} → 0 < length ps → Width ps (λ f. f < length ps) e c t q
    → (width_edge ps ≡ e) × Measured ps e c t q
width-done some (none empty) = absurd (empty 0 some)
width-done some (best n b) = (narrowest-done n, b)
