-- The search for the nearest shape, record by record.
--     around-held, around-other, around_here    the records around, by the first record
--     still-sized                  what is found can be compared
--     still-passed, still_kept     a record that is around is passed over, or looked at
--     still-end, still-met         none is left; none is nearer
--     here-numbers, count_fits     the shape at a place
--     onward-other, onward-passed, onward-kept    the record at a place is looked at
--     Searched, searched-start, searched-next, searched-end, searched-met      the loop over a log
use Rattle.std.specs.Prelude.{◌≡◌, Bool, true, false, ◌&&◌, Option, Some, None, is_none, ℕ, ◌*◌, ◌≤◌, length, drop, ℤ, pos, ◌*ℤ◌, ◌≤ℤ◌}
use Rattle.std.proofs.Math.Path.{refl, sym, ap, ap₂}
use Rattle.std.proofs.Common.{◌∙◌, subst, true≢false, arith}
use Rattle.std.proofs.Math.Bool.{not, cond}
use mathlib.Core.List.{List, [], ◌∷◌}
use Rattle.std.proofs.lemmas.Bool.{not-false}
use Rattle.std.proofs.Math.Dec.{eqb}
use Rattle.integer.specs.Linear.{linear, lia}
use Rattle.plane.specs.Limits.{max_corners}
use Rattle.plane.specs.Point.{Point, points}
use Rattle.plane.specs.Shape.{IsShape}
use Rattle.plane.specs.Refusal.{Valid}
use Rattle.plane.specs.Clearance.{clearance_numbers}
use Rattle.plane.specs.Distance.{Fraction, over, no_more, distance}
use Rattle.plane.proofs.theory.lists.Flat.{points-length}
use Rattle.clearance.specs.theory.Distance.{le-no_more, distance-nonneg}
use Rattle.endian.specs.Bytes.{words_at}
use Rattle.endian.specs.theory.Bytes.{words_at-length}
use Rattle.journal.specs.Format.{whole, records, name}
use Rattle.journal.specs.Reading.{damaged, held}
use Rattle.journal.specs.Current.{current, keep, is_other, is_around, around}
use Rattle.journal.specs.Survey.{record_at, next_at, Sound, Stated}
use Rattle.journal.specs.declared.head.Head.{Head}
use Rattle.journal.proofs.theory.Survey.{next-inside}
use Rattle.journal.proofs.theory.Stepping.{records-step, records-end, here-good, later-good, here-valid}
use Rattle.neighbours.specs.Nearest.{shape_of, is_as_near, nearest_of, nearest_numbers}
use Rattle.neighbours.specs.Spacing.{spacing_numbers, fraction_of}
use Rattle.neighbours.specs.Search.{near_numbers, is_latest, is_nearer, is_met, kept_of, NearSized, Best, Still, Onward}
use Rattle.clearance.specs.declared.measured.Distance.{Distance}
use Rattle.answers.specs.declared.Nearest.{Nearest}
use Rattle.neighbours.specs.theory.Least.{All, all_in, least_of-in}
use Rattle.neighbours.specs.theory.Spacings.{spacing-fraction, spacing-sized}
use Rattle.neighbours.specs.theory.Near.{Whole, nearest-step, good-whole, around-whole}

-- ---- the records around

module _ (f but : ℕ) (r : List ℕ) (rs : List (List ℕ)) where
  pub around-held : held (name r) rs ≡ true → around f but (r ∷ rs) ≡ around f but rs
  unfolding around
  around-held h = ap (λ (t : Bool). keep (is_around f but) (cond t (current rs) (r ∷ current rs))) h

  around-kept : held (name r) rs ≡ false → {t : Bool} → is_around f but r ≡ t
      → around f but (r ∷ rs) ≡ cond t (r ∷ around f but rs) (around f but rs)
  unfolding around
  around-kept h e = ap (λ (t : Bool). keep (is_around f but) (cond t (current rs) (r ∷ current rs))) h
      ∙ ap (λ (t : Bool). cond t (r ∷ keep (is_around f but) (current rs)) (keep (is_around f but) (current rs))) e

  pub around_here : held (name r) rs ≡ false → is_around f but r ≡ true → around f but (r ∷ rs) ≡ r ∷ around f but rs
  around_here h e = around-kept h e

  pub around-other : is_around f but r ≡ false → around f but (r ∷ rs) ≡ around f but rs
  around-other e = go (held (name r) rs) refl
    where
      go : (t : Bool) → held (name r) rs ≡ t → around f but (r ∷ rs) ≡ around f but rs
      go true h = around-held h
      go false h = around-kept h e

-- ---- what is found

module _ (A : List Point) (s : IsShape A) where
  pub still-sized : (all rest : List (List ℕ)) (best : Option Nearest) → Still A all best rest → NearSized best
  still-sized all rest None b = tt
  still-sized all rest (Some t) b = spacing-sized A (shape_of b.one) s b.shape t.distance b.spacing-is

  near-fractions : (x y : List ℕ) (t u : Option Distance) → spacing_numbers t ≡ clearance_numbers A (shape_of x)
      → spacing_numbers u ≡ clearance_numbers A (shape_of y) → is_as_near A x y ≡ no_more (fraction_of t) (fraction_of u)
  unfolding is_as_near
  near-fractions x y t u h k =
      sym (ap₂ no_more (spacing-fraction A (shape_of x) t h) (spacing-fraction A (shape_of y) u k))

  as-near : (x y : List ℕ) → no_more (distance A (shape_of x)) (distance A (shape_of y)) ≡ true → is_as_near A x y ≡ true
  unfolding is_as_near
  as-near x y e = e

  -- a record y is looked at
  module _ (all rest : List (List ℕ)) (y : List ℕ) (w : Whole y) (whole-rest : All Whole rest) where
    -- the first of the least, by which of what is found and y is nearer
    next : {t : Nearest} (b : Best A all t (y ∷ rest)) {x : Bool} → is_as_near A b.one y ≡ x
        → let near = nearest_of A (cond x b.one y) rest in nearest_numbers A all ≡ pos (name near) ∷ clearance_numbers A (shape_of near)
    next b e = b.still ∙ ap (λ (near : List ℕ). pos (name near) ∷ clearance_numbers A (shape_of near))
        (nearest-step A s b.one y rest (b.shape, (w, whole-rest)) ∙ ap (λ (x : Bool). nearest_of A (cond x b.one y) rest) e)

    stays : {t : Nearest} (b : Best A all t (y ∷ rest)) → is_as_near A b.one y ≡ true → Best A all t rest
    stays b e =
        record { one = b.one; shape = b.shape; name-is = b.name-is; spacing-is = b.spacing-is; still = next b e }

    pub still-passed : (best : Option Nearest) → Still A all best (y ∷ rest) → is_nearer (distance A (shape_of y)) best ≡ false
        → Still A all best
        rest
    still-passed None b e = absurd (true≢false e)
    still-passed (Some t) b e = stays b (far (not-false _ e))
      where
        far : no_more (fraction_of t.distance) (distance A (shape_of y)) ≡ true → is_as_near A b.one y ≡ true
        far h = as-near b.one y (subst (λ (f : Fraction). no_more f (distance A (shape_of y)) ≡ true)
            (spacing-fraction A (shape_of b.one) t.distance b.spacing-is) h)

    pub still_kept : (u : Nearest) → name y ≡ u.name → spacing_numbers u.distance ≡ clearance_numbers A (shape_of y)
        → (best : Option Nearest)
        → Still A all best (y ∷ rest) → Still A all (kept_of true u best) rest
    still_kept u named spaced None b = record {
      one = y;
      shape = w;
      name-is = named;
      spacing-is = spaced;
      still = ap (nearest_numbers A) b;
    }
    still_kept u named spaced (Some t) b =
        go (no_more (fraction_of t.distance) (fraction_of u.distance))
        (near-fractions b.one y t.distance u.distance b.spacing-is spaced)
      where
        go : (x : Bool) → is_as_near A b.one y ≡ x → Still A all (cond (not x && true) (Some u) (Some t)) rest
        go true e = stays b e
        go false e = record { one = y; shape = w; name-is = named; spacing-is = spaced; still = next b e }

  pub still-end : (all : List (List ℕ)) (best : Option Nearest) → Still A all best [] → near_numbers best ≡ nearest_numbers A all
  still-end all None b = sym (ap (nearest_numbers A) b)
  still-end all (Some t) b =
      ap₂ (λ (m : ℕ) (l : List ℤ). pos m ∷ l) (sym b.name-is) b.spacing-is ∙ sym b.still

  -- a shape that is met is at 0/1, which no distance is below
  met-nearest : (x : List ℕ) (xs : List (List ℕ)) → All Whole xs → over (pos 0) (pos 1) ≡ distance A (shape_of x) → nearest_of A x xs ≡ x
  unfolding is_as_near
  met-nearest x [] a e = refl
  met-nearest x (y ∷ ys) a e = ap (λ (t : Bool). cond t x (nearest_of A y ys)) least
    where
      far : Fraction
      far = distance A (shape_of (nearest_of A y ys))

      above : pos 0 ≤ℤ far.numerator
      above = distance-nonneg A (shape_of (nearest_of A y ys)) s (all_in Whole (y ∷ ys) a (least_of-in (is_as_near A) y ys))

      under : (n d : ℤ) → pos 0 ≤ℤ n → (pos 0 *ℤ d) ≤ℤ (n *ℤ pos 1)
      under n d h = lia (n ∷ d ∷ []) h (search linear depth 40) (omega arith)

      least : is_as_near A x (nearest_of A y ys) ≡ true
      least = subst (λ (f : Fraction). no_more f far ≡ true) e
          (le-no_more (over (pos 0) (pos 1)) far (under far.numerator far.denominator above))

  pub still-met : (all rest : List (List ℕ)) (best : Option Nearest) → All Whole rest → Still A all best rest → is_met best ≡ true
      → near_numbers best ≡ nearest_numbers A all
  still-met all rest None w b e = absurd (true≢false (sym e))
  still-met all rest (Some t) w b e = met t.distance refl e
    where
      met : (d : Option Distance) → t.distance ≡ d → is_none d ≡ true → near_numbers (Some t) ≡ nearest_numbers A all
      met (Some d) k e = absurd (true≢false (sym e))
      met None k e = ap₂ (λ (m : ℕ) (l : List ℤ). pos m ∷ l) (sym b.name-is) b.spacing-is
          ∙ sym (b.still ∙ ap (λ (near : List ℕ). pos (name near) ∷ clearance_numbers A (shape_of near))
          (met-nearest b.one rest w (ap fraction_of (sym k) ∙ spacing-fraction A (shape_of b.one) t.distance b.spacing-is)))

-- an older record of its name is passed over
kept-older : (u : Nearest) (best : Option Nearest) → kept_of false u best ≡ best
kept-older u best = go (is_nearer (fraction_of u.distance) best)
  where
    go : (x : Bool) → cond (x && false) (Some u) best ≡ best
    go true = refl
    go false = refl

-- ---- at a place of a log

-- the numbers of the record at a place, where its head says, are a shape that a buffer for any shape holds
module _ {b : List ℕ} {p : ℕ} (sound : Sound b p) {h : Head} (st : Stated b p h) where
  pub here-numbers : Valid (words_at h.count b h.place)
  here-numbers = subst Valid st.list-is (here-valid sound)

  pub count_fits : h.count ≤ 2 * max_corners
  count_fits =
      let l = words_at h.count b h.place in
      omega (arith, here-numbers.few, points-length l, words_at-length b h.count h.place, st.paired)

module _ {b : List ℕ} {p : ℕ} (sound : Sound b p) {h : Head} (st : Stated b p h) (f but : ℕ) where
  abbrev here : List ℕ
  here = record_at b p

  abbrev later : List (List ℕ)
  later = records (drop (next_at b p) b)

  asked_is : is_around f but here ≡ (eqb h.floor f && not (eqb h.name but))
  unfolding is_around is_other
  asked_is = ap₂ (λ (g n : ℕ). eqb g f && not (eqb n but)) st.floor-is st.name-is

  -- the records around from here on, by what they are from the next place on
  around-at : {ss : List (List ℕ)} → around f but (here ∷ later) ≡ ss → around f but (records (drop p b)) ≡ ss
  around-at e = ap (around f but) (records-step b p sound.here) ∙ e

  module _ (A : List Point) (best : Option Nearest) where
    same : around f but (here ∷ later) ≡ around f but later → Onward A f but b p best best
    same e all x = subst (Still A all best) (around-at e) x

    pub onward-other : (eqb h.floor f && not (eqb h.name but)) ≡ false → Onward A f but b p best best
    onward-other e = same (around-other f but here later (asked_is ∙ e))

    module _ (s : IsShape A) (asked : (eqb h.floor f && not (eqb h.name but)) ≡ true) where
      abbrev shape : List Point
      shape = points (words_at h.count b h.place)

      whole-later : All Whole (around f but later)
      whole-later = around-whole f but later (later-good sound)

      -- what is still to come, if the record is the latest of its name
      current-here : held (name here) later ≡ false → (all : List (List ℕ)) → Still A all best (around f but (records (drop p b)))
          → Still A all best (here ∷ around f but later)
      current-here e all x = subst (Still A all best) (around-at (around_here f but here later e (asked_is ∙ asked))) x

      pub onward-passed : is_nearer (distance A shape) best ≡ false → Onward A f but b p best best
      onward-passed far = go (held (name here) later) refl
        where
          go : (x : Bool) → held (name here) later ≡ x → Onward A f but b p best best
          go true e = same (around-held f but here later e)
          go false e = λ all x. still-passed A s all (around f but later) here (good-whole here (here-good sound)) whole-later best
              (current-here e all x) (subst (λ l. is_nearer (distance A (points l)) best ≡ false) (sym st.list-is) far)

      pub onward-kept : (u : Nearest) → u.name ≡ h.name → spacing_numbers u.distance ≡ clearance_numbers A shape
          → Onward A f but b p best (kept_of (is_latest b p) u best)
      onward-kept u named spaced = go (held (name here) later) refl
        where
          go : (x : Bool) → held (name here) later ≡ x → Onward A f but b p best (kept_of (not x) u best)
          go true e = subst (Onward A f but b p best) (sym (kept-older u best)) (same (around-held f but here later e))
          go false e = λ all x. still_kept A s all (around f but later) here (good-whole here (here-good sound)) whole-later u
              (st.name-is ∙ sym named) (spaced ∙ ap (λ l. clearance_numbers A (points l)) (sym st.list-is)) best (current-here e all x)

-- ---- the loop

pub record Searched (A : List Point) (f but : ℕ) (b : List ℕ) (p : ℕ) (best : Option Nearest) : Type 0 where
  pub inside : p ≤ length b
  pub good : damaged (records (drop p b)) ≡ false
  pub still : Still A (around f but (records b)) best (around f but (records (drop p b)))

pub searched-start : (A : List Point) (f but : ℕ) (b : List ℕ) → damaged (records b) ≡ false → Searched A f but b 0 None
searched-start A f but b g = record { inside = omega arith; good = g; still = refl }

module _ {A : List Point} {f but : ℕ} {b : List ℕ} {p : ℕ} {best : Option Nearest} (x : Searched A f but b p best) where
  pub searched-sized : IsShape A → NearSized best
  searched-sized s = still-sized A s (around f but (records b)) (around f but (records (drop p b))) best x.still

  pub searched-sound : whole (drop p b) ≡ true → Sound b p
  searched-sound w = record { here = w; good = x.good }

  pub searched-next : whole (drop p b) ≡ true → {r : Option Nearest} → Onward A f but b p best r → Searched A f but b (next_at b p) r
  searched-next w on = record {
    inside = next-inside b p w;
    good = later-good (searched-sound w);
    still = on (around f but (records b)) x.still;
  }

  -- nothing that is left is nearer
  pub searched-met : IsShape A → is_met best ≡ true → near_numbers best ≡ nearest_numbers A (around f but (records b))
  searched-met s e = still-met A s (around f but (records b)) (around f but (records (drop p b))) best
      (around-whole f but (records (drop p b)) x.good) x.still e

  pub searched-end : IsShape A → whole (drop p b) ≡ false → near_numbers best ≡ nearest_numbers A (around f but (records b))
  unfolding around
  searched-end s w = still-end A s (around f but (records b)) best
      (subst (Still A (around f but (records b)) best) (ap (around f but) (records-end b p w)) x.still)
