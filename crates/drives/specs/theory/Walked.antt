-- The search for the first shape that is met, record by record.
--     still_kept                      a record of the floor is looked at
--     onward-elsewhere, onward-kept   the record at a place is looked at
--     Searched, searched-start, -next, -end     the loop over a log
--     Bare, bare-start, -next, -found, -end     the loop that looks for one shape on the floor
use Rattle.std.specs.Prelude.{◌≡◌, refl, Bool, cond, ◌&&◌, ℕ, ◌*◌, ◌≤◌, length, drop, Option, Some, None}
use Rattle.std.proofs.Math.Path.{sym}
use Rattle.std.proofs.Common.{◌∙◌, ap, ap₂, subst, arith, le-ltb, lt-ltb}
use Rattle.std.proofs.Math.Bool.{true, false, not}
use mathlib.Core.List.{List, [], ◌∷◌}
use Rattle.std.proofs.Math.Dec.{ltb}
use Rattle.std.proofs.Math.IntN.{pos}
use Rattle.integer.specs.Order.{le-le_z, lt-le_z, lt_z-true, lt_z-false}
use Rattle.plane.specs.Point.{Point}
use Rattle.plane.specs.Separation.{apart}
use Rattle.plane.specs.Distance.{Fraction, over, no_more}
use Rattle.journal.specs.Format.{whole, records, name}
use Rattle.journal.specs.Reading.{damaged}
use Rattle.journal.specs.Current.{keep}
use Rattle.journal.specs.Survey.{record_at, next_at, Sound, Stated}
use Rattle.journal.specs.declared.head.Head.{Head}
use Rattle.journal.proofs.theory.Survey.{next-inside}
use Rattle.journal.proofs.theory.Stepping.{later-good}
use Rattle.motion.specs.Contact.{contact, safe, contact_numbers}
use Rattle.contact.specs.Share.{meeting_numbers}
use Rattle.answers.specs.declared.Meeting.{Meeting}
use Rattle.gaps.specs.Gap.{grown_of, on_floor}
use Rattle.gaps.specs.Search.{from, is_on, Walk}
use Rattle.gaps.proofs.theory.Steps.{from_step, from_end, walk-next, walk-fits}
use Rattle.gaps.proofs.theory.Read.{on-elsewhere, on-here}
use Rattle.drives.specs.Drive.{is_met, is_as_soon, met_numbers, soonest_numbers, drive_numbers}
use Rattle.drives.specs.Search.{is_latest, found_numbers, is_sooner, soonest, MetAs, kept_of, Met, Still, Onward}
use Rattle.answers.specs.declared.Drive.{Drive}
use Rattle.drives.specs.theory.Soonest.{soonest-step}

module _ (A : List Point) (t u : Point) where
  -- those of some records that are met
  abbrev ones : List (List ℕ) → List (List ℕ)
  ones rs = keep (is_met A t u) rs

  -- by whether the first is
  ones_step : (r : List ℕ) (rs : List (List ℕ)) {x : Bool} → is_met A t u r ≡ x → ones (r ∷ rs) ≡ cond x (r ∷ ones rs) (ones rs)
  ones_step r rs e = ap (λ (x : Bool). cond x (r ∷ ones rs) (ones rs)) e

  -- ---- what contact tells of one

  never_met : (r : List ℕ) → meeting_numbers None ≡ contact_numbers t u (grown_of A r) → is_met A t u r ≡ false
  unfolding is_met
  never_met r e = go (apart (t ∷ u ∷ []) (grown_of A r)) e
    where
      G : List Point
      G = grown_of A r

      go : (x : Bool) → (pos 0 ∷ []) ≡ cond x (pos 0 ∷ [])
          (pos 1 ∷ (contact t u G).numerator ∷ (contact t u G).denominator ∷ pos (safe t u G) ∷ []) → not x ≡ false
      go true k = refl
      go false k = absurd (let z : ◌≡◌ {A = ℕ} 0 1 = cc k in let x : ⊥ = omega arith in x)

  at-met : (r : List ℕ) (m : Meeting) → meeting_numbers (Some m) ≡ contact_numbers t u (grown_of A r)
      → (is_met A t u r ≡ true) × Met A t u r m
  unfolding is_met
  at-met r m e = go (apart (t ∷ u ∷ []) G) e
    where
      G : List Point
      G = grown_of A r

      go : (x : Bool) → (pos 1 ∷ pos m.numerator ∷ pos m.denominator ∷ pos m.safe ∷ []) ≡ cond x (pos 0 ∷ [])
          (pos 1 ∷ (contact t u G).numerator ∷ (contact t u G).denominator ∷ pos (safe t u G) ∷ []) → (not x ≡ true) × Met A t u r m
      go true k = absurd (let z : ◌≡◌ {A = ℕ} 0 1 = cc k in let x : ⊥ = omega arith in x)
      go false k =
          let n : pos m.numerator ≡ (contact t u G).numerator = cc k in
          let d : pos m.denominator ≡ (contact t u G).denominator = cc k in
          (refl, record { fraction-is = rw (n, d) refl; safe-is = cc k })

  -- ---- what is found

  module _ (all : List (List ℕ)) where
    -- records that are not met change nothing
    still-same : (s : Option Drive) (rs ss : List (List ℕ)) → ones rs ≡ ones ss → Still A t u all s rs → Still A t u all s ss
    still-same None rs ss e x = x ∙ ap (soonest_numbers A t u) e
    still-same (Some s) rs ss e x = record {
      one = x.one;
      name-is = x.name-is;
      met = x.met;
      still = x.still ∙ ap (λ (ys : List (List ℕ)). soonest_numbers A t u (x.one ∷ ys)) e;
    }

    -- the test of the code is that of the records
    tests : (x y : List ℕ) (i j : Meeting) → Met A t u x i → Met A t u y j → {c : Bool}
        → ltb (j.numerator * i.denominator) (i.numerator * j.denominator) ≡ c → is_as_soon A t u x y ≡ not c
    unfolding is_as_soon
    tests x y i j m k {c} h =
        sym (ap₂ no_more m.fraction-is k.fraction-is) ∙ go c h
      where
        go : (c : Bool) → ltb (j.numerator * i.denominator) (i.numerator * j.denominator) ≡ c
            → no_more (over (pos i.numerator) (pos i.denominator)) (over (pos j.numerator) (pos j.denominator)) ≡ not c
        go true q = lt-le_z {x = pos (i.numerator * j.denominator)} {y = pos (j.numerator * i.denominator)}
            (lt_z-true {x = pos (j.numerator * i.denominator)} {y = pos (i.numerator * j.denominator)} q)
        go false q = le-le_z {x = pos (i.numerator * j.denominator)} {y = pos (j.numerator * i.denominator)}
            (lt_z-false {x = pos (j.numerator * i.denominator)} {y = pos (i.numerator * j.denominator)} q)

    module _ (rest : List (List ℕ)) (y : List ℕ) (n : ℕ) (named : name y ≡ n) where
      met-kept : (j : Meeting) → is_met A t u y ≡ true → Met A t u y j → (s : Option Drive) → Still A t u all s (y ∷ rest)
          → Still A t u all (cond (is_sooner j s && true) (Some (soonest n j)) s) rest
      met-kept j e m None x = record {
        one = y;
        name-is = named;
        met = m;
        still = x ∙ ap (soonest_numbers A t u) (ones_step y rest e);
      }
      met-kept j e m (Some s) x = go (is_sooner j (Some s)) refl
        where
          -- of the two at the front one is left
          step : {c : Bool} → is_as_soon A t u x.one y ≡ c → soonest_numbers A t u (ones all)
              ≡ soonest_numbers A t u (cond c x.one y ∷ ones rest)
          step q =
              x.still ∙ ap (λ (ys : List (List ℕ)). soonest_numbers A t u (x.one ∷ ys)) (ones_step y rest e)
              ∙ ap (met_numbers A t u) (soonest-step A t u x.one y (ones rest))
              ∙ ap (λ (c : Bool). soonest_numbers A t u (cond c x.one y ∷ ones rest)) q

          go : (c : Bool) → is_sooner j (Some s) ≡ c → Still A t u all (cond (c && true) (Some (soonest n j)) (Some s)) rest
          go true q = record {
            one = y;
            name-is = named;
            met = m;
            still = step (tests x.one y s.meeting j x.met m q);
          }
          go false q = record {
            one = x.one;
            name-is = x.name-is;
            met = x.met;
            still = step (tests x.one y s.meeting j x.met m q);
          }

      pub still_kept : (m : Option Meeting) (s : Option Drive) → meeting_numbers m ≡ contact_numbers t u (grown_of A y)
          → Still A t u all s (y ∷ rest)
          → Still A t u all (kept_of true n m s) rest
      still_kept None s e x = still-same s (y ∷ rest) rest (ones_step y rest (never_met y e)) x
      still_kept (Some m) s e x = let k = at-met y m e in met-kept m k.0 k.1 s x

  still-end : (all : List (List ℕ)) (s : Option Drive) → Still A t u all s [] → found_numbers s ≡ drive_numbers A t u all
  still-end all None x = sym x
  still-end all (Some s) x =
      ap₂ (λ (m v : ℕ). pos 1 ∷ pos m ∷ pos s.meeting.numerator ∷ pos s.meeting.denominator ∷ pos v ∷ []) (sym x.name-is) x.met.safe-is
      ∙ ap (λ (c : Fraction). pos 1 ∷ pos (name x.one) ∷ c.numerator ∷ c.denominator ∷ pos (safe t u (grown_of A x.one)) ∷ [])
      x.met.fraction-is
      ∙ sym x.still

-- an older record of its name is passed over
kept-older : (n : ℕ) (m : Option Meeting) (s : Option Drive) → kept_of false n m s ≡ s
kept-older n None s = refl
kept-older n (Some m) s = go (is_sooner m s)
  where
    go : (x : Bool) → cond (x && false) (Some (soonest n m)) s ≡ s
    go true = refl
    go false = refl

-- ---- at a place of a log

module _ {A : List Point} {b : List ℕ} {f p : ℕ} (k : Walk A b f p) (sound : Sound b p) {h : Head} (st : Stated b p h) (t u : Point)
    (s : Option Drive) where
  -- by whether the record is one of the floor's
  onward-off : is_on f b p ≡ false → Onward A t u f b p s s
  onward-off e all x = subst (Still A t u all s) (from_step f b p sound.here e) x

  pub onward-elsewhere : (h.floor ≡ f → ⊥) → Onward A t u f b p s s
  onward-elsewhere d = onward-off (sym (on-elsewhere st f d))

  pub onward-kept : h.floor ≡ f → (m : Option Meeting) → MetAs t u (grown_of A (record_at b p)) m
      → Onward A t u f b p s (kept_of (is_latest b p) (name (record_at b p)) m s)
  onward-kept e m met = go (is_latest b p) (sym (on-here st f e))
    where
      go : (x : Bool) → is_on f b p ≡ x → Onward A t u f b p s (kept_of x (name (record_at b p)) m s)
      go true q = λ all x. still_kept A t u all (from f b (next_at b p)) (record_at b p) (name (record_at b p)) refl m s
          (met (walk-fits A k sound.here q)) (subst (Still A t u all s) (from_step f b p sound.here q) x)
      go false q = subst (Onward A t u f b p s) (sym (kept-older (name (record_at b p)) m s)) (onward-off q)

-- ---- the loop

pub record Searched (A : List Point) (t u : Point) (f : ℕ) (b : List ℕ) (p : ℕ) (s : Option Drive) : Type 0 where
  pub walk : Walk A b f p
  pub still : Still A t u (from f b 0) s (from f b p)

pub searched-start : (A : List Point) (t u : Point) (f : ℕ) (b : List ℕ) → Walk A b f 0 → Searched A t u f b 0 None
searched-start A t u f b w = record { walk = w; still = refl }

module _ {A : List Point} {t u : Point} {f : ℕ} {b : List ℕ} {p : ℕ} {s : Option Drive} (x : Searched A t u f b p s) where
  pub searched-next : whole (drop p b) ≡ true → {r : Option Drive} → Onward A t u f b p s r → Searched A t u f b (next_at b p) r
  searched-next w on = record { walk = walk-next A x.walk w; still = on (from f b 0) x.still }

  pub searched-end : whole (drop p b) ≡ false → found_numbers s ≡ drive_numbers A t u (on_floor f b)
  searched-end w = still-end A t u (from f b 0) s (subst (Still A t u (from f b 0) s) (from_end f b p w) x.still)

-- ---- no shape yet

pub record Bare (b : List ℕ) (f p : ℕ) : Type 0 where
  pub inside : p ≤ length b
  pub good : damaged (records (drop p b)) ≡ false
  pub all : from f b 0 ≡ from f b p

pub bare-start : (b : List ℕ) (f : ℕ) → damaged (records b) ≡ false → Bare b f 0
bare-start b f g = record { inside = omega arith; good = g; all = refl }

module _ {b : List ℕ} {f p : ℕ} (k : Bare b f p) where
  module _ (w : whole (drop p b) ≡ true) where
    pub bare-sound : Sound b p
    bare-sound = record { here = w; good = k.good }

    pub bare-next : is_on f b p ≡ false → Bare b f (next_at b p)
    bare-next e = record { inside = next-inside b p w; good = later-good bare-sound; all = k.all ∙ from_step f b p w e }

    pub bare-found : is_on f b p ≡ true → false ≡ ltb (length (on_floor f b)) 1
    bare-found e =
        let some = ap length (k.all ∙ from_step f b p w e) in
        sym (le-ltb (length (on_floor f b)) 1 (omega (arith, some)))

  pub bare-end : whole (drop p b) ≡ false → true ≡ ltb (length (on_floor f b)) 1
  bare-end w =
      let none = ap length (k.all ∙ from_end f b p w) in
      sym (lt-ltb (length (on_floor f b)) 1 (omega (arith, none)))
