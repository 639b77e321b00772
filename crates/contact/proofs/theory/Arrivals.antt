-- What the loop over the walls finds, for the way and the way back: whether they are apart from the shape, and the contact.
--     wall-none, wall-box, wall-more     what is found before the edges, and with one edge more
--     walls-on-way, walls-first          what is found after all of them, in lowest terms, is the contact of a way that meets
--     within-reached, back-within        two ways that do not pass each other, wall by wall, and at a place that meets
--     walls-apart                        the way is apart exactly if both arrivals are together more than the way
--     all-met, out-met                   so the loop shows it after all walls, and at a wall that both ends are past
use Rattle.std.specs.Prelude.{◌≡◌, Bool, cond, ◌&&◌, List, [], ◌∷◌, ℕ, suc, ◌+◌, ◌≤◌, ◌<◌, ℤ, pos, ◌-ℤ◌, ◌*ℤ◌, length, ◌≤ℤ◌, ◌<ℤ◌}
use Rattle.std.proofs.Math.Path.{refl, ap}
use Rattle.std.proofs.Common.{sym, ◌∙◌, ap₂, subst, true≢false, arith, le-ltb, lt-ltb, ltb-false}
use Rattle.std.proofs.Math.Bool.{true, false, not}
use Rattle.std.proofs.Math.Dec.{ltb}
use Rattle.std.specs.Int.Signed.{le_z, lt_z}
use Rattle.integer.specs.Linear.{linear, lia, ◌&◌}
use Rattle.integer.specs.Order.{◌<×<◌, ◌≤×≤◌, contra≤, weaken, le_z-true, le_z-false, lt_z-true, lt_z-false, le-lt_z}
use Rattle.plane.specs.Point.{Point}
use Rattle.plane.specs.Shape.{IsShape}
use Rattle.plane.specs.Separation.{apart}
use Rattle.plane.specs.Distance.{Fraction, over}
use Rattle.clearance.specs.theory.Common.{not-apart-common}
use Rattle.motion.specs.Contact.{OnWay, NoLater, meets, edge_normal, wall, wall_count, past, entering, entry, spot, later, last_entry}
use Rattle.motion.specs.Contact.{arrival, edge_arrival, lowest, contact}
use Rattle.motion.proofs.theory.Walls.{edges→inside}
use Rattle.motion.proofs.theory.Entry.{Reached, later_trans}
use Rattle.motion.proofs.theory.Meeting.{reached→held, reached→meets, arrival-on-way, arrival-above, arrival-below}
use Rattle.motion.proofs.theory.Meeting.{not-past, first-on-way, common-met, met-not-apart, met-unless-apart}
use Rattle.motion.proofs.theory.Edges.{edges-on-way, edge-above, edges-no-later, edges-first}
use Rattle.contact.specs.Share.{last_wall, exceed, Arrived, Met}
use Rattle.contact.specs.declared.walls.BothWays.{BothWays}
use Rattle.contact.proofs.theory.Beyond.{both, past-apart}

-- ---- one wall

-- what is entered and, from the other end, not left yet
pub within-reached : (a b : ℤ) (f g : Fraction) → OnWay f → OnWay g → exceed f g ≡ false
    → NoLater (entering a b) f → NoLater (entering b a) g → Reached a b f
unfolding entering
within-reached a b f g p q e = go (le_z a (pos 0)) refl (le_z b (pos 0)) refl
  where
    together : (g.numerator *ℤ f.denominator) ≤ℤ ((f.denominator -ℤ f.numerator) *ℤ g.denominator)
    together = lt_z-false {x = (f.denominator -ℤ f.numerator) *ℤ g.denominator} {y = g.numerator *ℤ f.denominator} e

    entered : ℤ → ℤ → Bool → Bool → Fraction
    entered a b s t = cond s (over (pos 0) (pos 1)) (cond t (over a (a -ℤ b)) (over (pos 1) (pos 1)))

    go : (s : Bool) → le_z a (pos 0) ≡ s → (t : Bool) → le_z b (pos 0) ≡ t
        → NoLater (entered a b s t) f → NoLater (entered b a t s) g → Reached a b f
    go true h true k i j = lia (a ∷ b ∷ f.numerator ∷ f.denominator ∷ [])
        (p.ended ≤×≤ le_z-true {x = a} {y = pos 0} h & p.begun ≤×≤ le_z-true {x = b} {y = pos 0} k) (search linear depth 40) (omega arith)
    go true h false k i j =
        let rise : a ≤ℤ b = lia (a ∷ b ∷ []) (le_z-true {x = a} {y = pos 0} h & le_z-false {x = b} {y = pos 0} k)
        (search linear depth 40) (omega arith) in
        contra≤ (λ c. lia (a ∷ b ∷ f.numerator ∷ f.denominator ∷ g.numerator ∷ g.denominator ∷ [])
        (c <×< q.whole & together ≤×≤ rise & j ≤×≤ weaken p.whole) (search linear depth 40) (omega arith))
    go false h true k i j = lia (a ∷ b ∷ f.numerator ∷ f.denominator ∷ []) i (search linear depth 40) (omega arith)
    go false h false k i j = absurd (lia (f.numerator ∷ f.denominator ∷ g.numerator ∷ g.denominator ∷ [])
        (together & p.whole <×< q.whole & i ≤×≤ weaken q.whole & j ≤×≤ weaken p.whole) (search linear depth 40) (omega arith))

-- ---- the way back

-- the same place from the other end
abbrev back : Fraction → Fraction
back h = over (h.denominator -ℤ h.numerator) h.denominator

back-on-way : (h : Fraction) → OnWay h → OnWay (back h)
back-on-way h on = record {
  begun = lia (h.numerator ∷ h.denominator ∷ []) on.ended (search linear depth 40) (omega arith);
  ended = lia (h.numerator ∷ h.denominator ∷ []) on.begun (search linear depth 40) (omega arith);
  whole = on.whole;
}

back-reached : (a b : ℤ) (h : Fraction) → Reached a b h → Reached b a (back h)
back-reached a b h r = lia (a ∷ b ∷ h.numerator ∷ h.denominator ∷ []) r (search linear depth 40) (omega arith)

pub back-within : (f g h : Fraction) → OnWay f → OnWay g → OnWay h → NoLater f h → NoLater g (back h) → exceed f g ≡ false
back-within f g h p q on i j = le-lt_z {x = (f.denominator -ℤ f.numerator) *ℤ g.denominator} {y = g.numerator *ℤ f.denominator}
    (contra≤ (λ c. lia (f.numerator ∷ f.denominator ∷ g.numerator ∷ g.denominator ∷ h.numerator ∷ h.denominator ∷ [])
    (c <×< on.whole & i ≤×≤ weaken q.whole & j ≤×≤ weaken p.whole) (search linear depth 40) (omega arith)))

-- ---- all walls

-- by whether the shape is a point or a segment
abbrev found : Point → Point → List Point → Bool → ℕ → Fraction
found t u G few i = cond few (last_entry (entry t u G) (4 + i)) (last_entry (λ j. entry t u G (suc (suc (suc (suc j))))) i)

module _ (t u : Point) (G : List Point) where
  pub wall-none : 3 ≤ length G → over (pos 0) (pos 1) ≡ last_wall t u G 0
  wall-none h = ap (λ (few : Bool). found t u G few 0) (sym (le-ltb (length G) 3 h))

  pub wall-box : length G < 3 → last_entry (entry t u G) 4 ≡ last_wall t u G 0
  wall-box h = ap (λ (few : Bool). found t u G few 0) (sym (lt-ltb (length G) 3 h))

  pub wall-more : (i : ℕ) → later (last_wall t u G i) (entry t u G (suc (suc (suc (suc i))))) ≡ last_wall t u G (i + 1)
  wall-more i = go (ltb (length G) 3)
    where
      go : (few : Bool) → later (found t u G few i) (entry t u G (suc (suc (suc (suc i))))) ≡ found t u G few (i + 1)
      go true =
          let same : suc (suc (suc (suc i))) ≡ 4 + i = omega arith in
          let next : suc (4 + i) ≡ 4 + (i + 1) = omega arith in
          ap (λ (k : ℕ). later (last_entry (entry t u G) (4 + i)) (entry t u G k)) same ∙ ap (last_entry (entry t u G)) next
      go false = let next : suc i ≡ i + 1 = omega arith in ap (last_entry (λ j. entry t u G (suc (suc (suc (suc j)))))) next

  module _ (s : IsShape G) where
    found-on-way : (few : Bool) → OnWay (found t u G few (length G))
    unfolding arrival edge_arrival
    found-on-way true = arrival-on-way t u G
    found-on-way false = edges-on-way t u G s

    pub walls-on-way : OnWay (last_wall t u G (length G))
    walls-on-way = found-on-way (ltb (length G) 3)

    found_below : (few : Bool) (h : Fraction) → OnWay h
        → ((i : ℕ) → i < wall_count G → Reached (past G (wall G i) t) (past G (wall G i) u) h) → NoLater (found t u G few (length G)) h
    unfolding arrival edge_arrival
    found_below true h on r = arrival-below t u G h on r
    found_below false h on r = later_trans (edges-on-way t u G s) (arrival-on-way t u G) on (edges-no-later t u G s)
        (arrival-below t u G h on r)

    pub walls-first : apart (t ∷ u ∷ []) G ≡ false → lowest (last_wall t u G (length G)) ≡ contact t u G
    unfolding arrival edge_arrival
    walls-first h = go (ltb (length G) 3) refl
      where
        go : (few : Bool) → ltb (length G) 3 ≡ few → lowest (found t u G few (length G)) ≡ contact t u G
        go true e = refl
        go false e = edges-first t u G s (ltb-false (length G) 3 e) (contact t u G) (first-on-way t u G)
            (met-unless-apart t u G s ∙ ap not h)

-- ---- both ways

agree : (x y : Bool) → (x ≡ false → y ≡ false) → (y ≡ false → x ≡ false) → x ≡ y
agree x false f g = g refl
agree false true f g = sym (f refl)
agree true true f g = refl

module _ (t u : Point) (G : List Point) (s : IsShape G) where
  -- at the arrival no wall is left yet
  found-meets : (few : Bool) → ltb (length G) 3 ≡ few → exceed (found t u G few (length G)) (found u t G few (length G)) ≡ false
      → meets t u G (found t u G few (length G)) ≡ true
  unfolding meets arrival edge_arrival
  found-meets true c e = reached→meets t u G s (arrival t u G) (arrival-on-way t u G).whole
      (λ i k. within-reached _ _ (arrival t u G) (arrival u t G) (arrival-on-way t u G) (arrival-on-way u t G) e
      (arrival-above t u G i k) (arrival-above u t G i k))
  found-meets false c e =
      let f = edge_arrival t u G in
      let there = edges-on-way t u G s in
      let back = edges-on-way u t G s in
      edges→inside f.denominator there.whole G (spot t u f) s (ltb-false (length G) 3 c)
      (λ i k. reached→held t u G (edge_normal G i) f (within-reached _ _ f (edge_arrival u t G) there back e
      (edge-above t u G s i k) (edge-above u t G s i k)))

  pub walls-apart : apart (t ∷ u ∷ []) G ≡ exceed (last_wall t u G (length G)) (last_wall u t G (length G))
  walls-apart = go (ltb (length G) 3) refl
    where
      go : (few : Bool) → ltb (length G) 3 ≡ few → apart (t ∷ u ∷ []) G ≡ exceed (found t u G few (length G)) (found u t G few (length G))
      go few c = agree _ _ (λ a.
          let (h, on, met) = common-met t u G s (not-apart-common (t ∷ u ∷ []) G (omega arith) s.some a) in
          let held = not-past t u G s h on met in
          back-within _ _ h (found-on-way t u G s few) (found-on-way u t G s few) on (found_below t u G s few h on held)
          (found_below u t G s few (back h) (back-on-way h on) (λ i k. back-reached _ _ h (held i k))))
          (λ e. met-not-apart t u G s.some _ (found-on-way t u G s few) (found-meets few c e))

  -- ---- as the loop ends

  pub all-met : {r : BothWays} → Arrived t u G (length G) r → Met t u G r
  all-met a = record {
    on-way = subst OnWay (sym a.there-is) (walls-on-way t u G s);
    apart-is = walls-apart ∙ sym (ap₂ exceed a.there-is a.back_is);
    first-is = λ h. ap lowest a.there-is ∙ walls-first t u G s h;
  }

  -- a wall that both ends are past
  pub out-met : (e : Point) {a b : ℤ} → a ≡ past G e t → b ≡ past G e u → (lt_z (pos 0) a && lt_z (pos 0) b) ≡ true
      → Met t u G (record { there = record { numerator = 1; denominator = 1 }; back = record { numerator = 1; denominator = 1 } })
  out-met e {a} {b} i j k = record {
    on-way = record { begun = record { le = tt }; ended = record { le = tt }; whole = record { lt = tt } };
    apart-is = away;
    first-is = λ h. absurd (true≢false (sym away ∙ h));
  }
    where
      away : apart (t ∷ u ∷ []) G ≡ true
      away = let (p, q) = both (lt_z (pos 0) a) (lt_z (pos 0) b) k in
          past-apart t u G s e (subst (λ (z : ℤ). pos 0 <ℤ z) i (lt_z-true {x = pos 0} {y = a} p))
          (subst (λ (z : ℤ). pos 0 <ℤ z) j (lt_z-true {x = pos 0} {y = b} q))
