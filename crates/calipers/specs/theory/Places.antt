-- The places that the caliper walk visits: how many edges of either list are passed at each corner of the sum.
--     Place, place i j         i edges of the one list are passed and j of the other
--     steps i j E F            from (i, j) on, with the edges E and F to come: a place for each joined edge; `steps_right` if E is empty
--     steps-left, -right, -both     how they go on; `Ahead e F`: the edge e is before what F begins with
--     places_from i j E F       the same, and (i, j) itself where there is no edge; `places E F` from the beginning
--     finished E i F j         all edges are passed; `finished-all`, `finished-ended`: the test as a fact
--     places_left E F i j       the places to come, none where the walk is finished; `passed-within`: a step passes edges that are there
--     places-here              the first place to come, and those after the next step of the walk
-- The corners at the places are in `PlaceCorners.antt`.
use Rattle.std.specs.Prelude.{◌≡◌, refl, Bool, true, false, cond, ◌&&◌, List, [], ◌∷◌, ℕ, ◌+◌, ◌≤◌, ◌<◌, eqb, ltb, length, drop}
use Rattle.std.proofs.Common.{sym, ◌∙◌, ap, add-one, arith, ltb-true, ltb-false, eqb-true, eq-eqb, ne_eqb, drop_of_length-le, drop-cons}
use Rattle.std.proofs.lemmas.Bool.{false≢true}
use Rattle.plane.specs.Point.{Point, origin, corner}
use Rattle.plane.specs.Forms.{before, Before}
use Rattle.plane.proofs.theory.lists.Sought.{true-not-false}
use Rattle.plane.proofs.theory.forms.Angle.{before-reversed}
use Rattle.calipers.specs.Places.{takes, passed}
use Rattle.calipers.specs.theory.Standing.{takes-taken, passed-taken, passed-ended, passed-waits, Step}
use Rattle.calipers.specs.theory.Standing.{ended, left, right, both, step}
use Rattle.calipers.specs.Places.{Place, place, steps_from, steps, places_from, finished}

-- ---- how they go on

-- the edge e is before what the list begins with
abbrev pub Ahead : Point → List Point → Type 0
Ahead e [] = Unit {0}
Ahead e (f ∷ F) = Before e f

pub steps-left : (i j : ℕ) (e : Point) (E F : List Point) → Ahead e F → steps i j (e ∷ E) F ≡ place i j ∷ steps (i + 1) j E F
steps-left i j e E [] h = refl
steps-left i j e E (f ∷ F) h = rw (h.before-true, steps_from)

pub steps-right : (i j : ℕ) (f : Point) (E F : List Point) → Ahead f E → steps i j E (f ∷ F) ≡ place i j ∷ steps i (j + 1) E F
steps-right i j f [] F h = refl
steps-right i j f (e ∷ E) F h = rw (before-reversed h, h.before-true, steps_from)

pub steps-both : (i j : ℕ) (e f : Point) (E F : List Point) → before e f ≡ false → before f e ≡ false
    → steps i j (e ∷ E) (f ∷ F) ≡ place i j ∷ steps (i + 1) (j + 1) E F
steps-both i j e f E F h k = rw (h, k, steps_from)

drop-next : (E : List Point) (i : ℕ) → i < length E → drop i E ≡ corner E i ∷ drop (i + 1) E
drop-next E i h = rw add-one (drop-cons E i origin h)

ahead-drop : (e : Point) (F : List Point) (j : ℕ) → (j < length F → Before e (corner F j)) → Ahead e (drop j F)
ahead-drop e F j h = go (ltb j (length F)) refl
  where
    go : (b : Bool) → ltb j (length F) ≡ b → Ahead e (drop j F)
    go true p = let l = ltb-true j (length F) p in rw (drop-cons F j origin l) (h l)
    go false p = rw (drop_of_length-le F (ltb-false j (length F) p)) tt

module _ (E F : List Point) (i j : ℕ) where
  -- the places after the next step
  abbrev next-steps : List Place
  next-steps = steps (passed E i F j) (passed F j E i) (drop (passed E i F j) E) (drop (passed F j E i) F)

  steps-ended : length E ≤ i → length F ≤ j → steps i j (drop i E) (drop j F) ≡ []
  steps-ended h k = rw (drop_of_length-le E h, drop_of_length-le F k)

  steps-advance : (length E ≤ i → length F ≤ j → ⊥) → steps i j (drop i E) (drop j F) ≡ place i j ∷ next-steps
  steps-advance more = go (step E F i j)
    where
      go : Step E F i j → steps i j (drop i E) (drop j F) ≡ place i j ∷ next-steps
      go (ended h k) = absurd (more h k)
      go (left t b) = rw (passed-taken t, passed-waits F j E i t.there b, drop-next E i t.there)
          (steps-left i j (corner E i) (drop (i + 1) E) (drop j F) (ahead-drop (corner E i) F j b))
      go (right t b) = rw (passed-taken t, passed-waits E i F j t.there b, drop-next F j t.there)
          (steps-right i j (corner F j) (drop i E) (drop (j + 1) F) (ahead-drop (corner F j) E i b))
      go (both t u) = rw (passed-taken t, passed-taken u, drop-next E i t.there, drop-next F j u.there)
          (steps-both i j (corner E i) (corner F j) (drop (i + 1) E) (drop (j + 1) F) (u.free t.there) (t.free u.there))

pub passed-within : (E : List Point) (i : ℕ) (F : List Point) (j : ℕ) → i ≤ length E → passed E i F j ≤ length E
passed-within E i F j h = go (takes E i F j) refl
  where
    go : (b : Bool) → takes E i F j ≡ b → cond b (i + 1) i ≤ length E
    go true p = omega (arith, (takes-taken E i F j p).there)
    go false p = h

-- the places to come at a place of the walk: none where all edges are passed
abbrev pub places_left : List Point → List Point → ℕ → ℕ → List Place
places_left E F i j = cond (finished E i F j) [] (places_from i j (drop i E) (drop j F))

module _ (E F : List Point) where
  ended-finished : (i j : ℕ) → i ≡ length E → j ≡ length F → finished E i F j ≡ true
  ended-finished i j h k = rw (eq-eqb i (length E) h, eq-eqb j (length F) k)

  pub finished-all : (i j : ℕ) → finished E i F j ≡ true → (i ≡ length E) × (j ≡ length F)
  finished-all i j h = go (eqb i (length E)) refl (eqb j (length F)) refl h
    where
      go : (a : Bool) → eqb i (length E) ≡ a → (b : Bool) → eqb j (length F) ≡ b → (a && b) ≡ true → (i ≡ length E) × (j ≡ length F)
      go true p true q r = (eqb-true i (length E) p, eqb-true j (length F) q)
      go true p false q r = absurd (false≢true r)
      go false p b q r = absurd (false≢true r)

  pub finished-ended : (i j : ℕ) → finished E i F j ≡ true → (length E ≤ i) × (length F ≤ j)
  finished-ended i j h = let r = finished-all i j h in (omega (arith, r.0), omega (arith, r.1))

  steps-rest : (i j : ℕ) → i ≤ length E → j ≤ length F → steps i j (drop i E) (drop j F) ≡ places_left E F i j
  steps-rest i j h k = go (ltb i (length E)) refl (ltb j (length F)) refl
    where
      go : (a : Bool) → ltb i (length E) ≡ a → (b : Bool) → ltb j (length F) ≡ b
          → steps i j (drop i E) (drop j F) ≡ places_left E F i j
      go true p b q = let l = ltb-true i (length E) p in
          rw (ne_eqb i (length E) (λ r. omega arith), drop-next E i l)
      go false p true q = let l = ltb-false i (length E) p in let m = ltb-true j (length F) q in
          rw (eq-eqb i (length E) (omega arith), ne_eqb j (length F) (λ r. omega arith), drop_of_length-le E l, drop-next F j m)
      go false p false q = let l = ltb-false i (length E) p in let m = ltb-false j (length F) q in
          rw (ended-finished i j (omega arith) (omega arith)) (steps-ended E F i j l m)

  pub places-here : (i j : ℕ) → i ≤ length E → j ≤ length F
      → places_from i j (drop i E) (drop j F) ≡ place i j ∷ places_left E F (passed E i F j) (passed F j E i)
  places-here i j h k = go (finished E i F j) refl (steps-rest i j h k)
    where
      later : next-steps E F i j ≡ places_left E F (passed E i F j) (passed F j E i)
      later = steps-rest (passed E i F j) (passed F j E i) (passed-within E i F j h) (passed-within F j E i k)

      go : (b : Bool) → finished E i F j ≡ b → steps i j (drop i E) (drop j F) ≡ cond b [] (places_from i j (drop i E) (drop j F))
          → places_from i j (drop i E) (drop j F) ≡ place i j ∷ places_left E F (passed E i F j) (passed F j E i)
      go true p r = let e = finished-ended i j p in
          rw (passed-ended E i F j e.0, passed-ended F j E i e.1, p, drop_of_length-le E e.0, drop_of_length-le F e.1)
      go false p r = sym r ∙ steps-advance E F i j (λ a b. true-not-false (ended-finished i j (omega arith) (omega arith)) p)
          ∙ ap (λ (l : List Place). place i j ∷ l) later
