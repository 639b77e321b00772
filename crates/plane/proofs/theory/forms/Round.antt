-- Going round the corners: sorted edges and the local form (`Local`, in `Fan.antt`) say the same.
--     local→sorted     the edges of a list in local form are sorted
--     turn-bottom      no corner but the first is below two others, one on either side of it
--     sorted→local     a list of two or more corners with sorted edges is in local form
use Rattle.std.specs.Prelude.{◌≡◌, refl, Bool, true, false, List, [], ◌∷◌, ◌⊎◌, ℤ, ◌≤ℤ◌, ◌<ℤ◌}
use Rattle.std.proofs.Common.{sym, ◌∙◌, true≢false, inl, inr, arith}
use Rattle.std.proofs.Math.IntN.{pos}
use Rattle.integer.specs.Linear.{linear, lia, ◌&◌}
use Rattle.integer.specs.Order.{weaken, le_of_eq}
use Rattle.plane.specs.Point.{Point, ◌⊖◌}
use Rattle.plane.specs.Turn.{cross, turn, Left, turn-cycle}
use Rattle.plane.specs.Forms.{All, Precedes, up, Before, NonZero, edges_to, From, Sorted}
use Rattle.plane.proofs.theory.forms.Precedes.{Placed, ahead, same, behind, placed, precedes-trans, precedes-asym, precedes-different}
use Rattle.plane.proofs.theory.forms.Vector.{⊖-self, ⊖-zero, cross-nonzero, turn-edges, turn-stay}
use Rattle.plane.proofs.theory.forms.HalfPlane.{precedes→up, up→precedes, precedes→down, down→precedes, up-clash, cross-trans}
use Rattle.plane.proofs.theory.forms.HalfPlane.{cross-trans-weak}
use Rattle.plane.proofs.theory.forms.Angle.{Earlier, apart, alike, before→earlier, earlier→before, before-cross}
use Rattle.plane.proofs.theory.forms.Fan.{Fan, Bends, Local}

-- the coordinates of four corners
abbrev coordinates : Point → Point → Point → Point → List ℤ
coordinates p a q r = p.x ∷ p.y ∷ a.x ∷ a.y ∷ q.x ∷ q.y ∷ r.x ∷ r.y ∷ []

-- ---- turns and edges

left-edges : (a q r : Point) → pos 0 <ℤ cross (q ⊖ a) (r ⊖ q) → Left a q r
left-edges a q r h = rw (turn-edges a q r) h

edges-left : (a q r : Point) → Left a q r → pos 0 <ℤ cross (q ⊖ a) (r ⊖ q)
edges-left a q r h = rw (turn-edges a q r) at h

left-cycle : (a q r : Point) → Left q r a → Left a q r
left-cycle a q r h = rw (turn-cycle a q r) h

-- ---- turns at a corner q between a and r, where the first corner is p

module _ {p a q r : Point} where
  -- on the way up, the corner's vector from p comes before the edge that leaves it
  turn-ascending : Precedes p q → Precedes a q → Precedes q r → pos 0 ≤ℤ turn p a q → Left a q r → Left p q r
  unfolding turn cross
  turn-ascending u v w h k =
      let t : pos 0 <ℤ cross (q ⊖ p) (r ⊖ q) = cross-trans-weak (precedes→up u) (precedes→up v) (precedes→up w)
      (lia (coordinates p a q r) h (search linear depth 40) (omega arith))
      (lia (coordinates p a q r) k (search linear depth 40) (omega arith)) in
      lia (coordinates p a q r) t (search linear depth 40) (omega arith)

  -- on the way down, so does the edge before the way home
  turn-descending : Precedes q a → Precedes r q → Precedes p r → Left a q r → Left q r p → Left a q p
  unfolding turn cross
  turn-descending u v w h k =
      let t : pos 0 <ℤ cross (a ⊖ q) (r ⊖ p) = cross-trans (precedes→up u) (precedes→up v) (precedes→up w)
      (lia (coordinates p a q r) h (search linear depth 40) (omega arith))
      (lia (coordinates p a q r) k (search linear depth 40) (omega arith)) in
      lia (coordinates p a q r) (t & h) (search linear depth 40) (omega arith)

  -- at the top, two turns of the fan give the turn at the corner between them
  turn-top : Precedes p q → Precedes a q → Precedes r q → Left p a q → Left p q r → Left a q r
  unfolding turn cross
  turn-top u v w h k =
      let t : pos 0 <ℤ cross (q ⊖ r) (q ⊖ a) = cross-trans (precedes→up w) (precedes→up u) (precedes→up v)
      (lia (coordinates p a q r) k (search linear depth 40) (omega arith))
      (lia (coordinates p a q r) h (search linear depth 40) (omega arith)) in
      lia (coordinates p a q r) t (search linear depth 40) (omega arith)

  -- a corner below both its neighbours would be a second least one
  pub turn-bottom : Precedes p q → Precedes q a → Precedes q r → Left p a q → Left p q r → Left a q r → ⊥
  unfolding turn cross
  turn-bottom u v w h k l =
      let t : pos 0 <ℤ cross (a ⊖ q) (r ⊖ q) = cross-trans (precedes→up v) (precedes→up u) (precedes→up w)
      (lia (coordinates p a q r) h (search linear depth 40) (omega arith))
      (lia (coordinates p a q r) k (search linear depth 40) (omega arith)) in
      lia (coordinates p a q r) (t & l) (search linear depth 40) (omega arith)

-- ---- from the local form to sorted edges

-- the edges that follow a to q; where that edge goes down, the fan turns left over it
walk : (p a q : Point) (ps : List Point) → (up (q ⊖ a) ≡ false → Left p a q) → All (λ r. Precedes p r) (q ∷ ps) → Fan p q ps → Bends a q ps
    → From (q ⊖ a) (edges_to p q ps)
walk p a q [] down us f c = (go _ refl, home, tt)
  where
    home : NonZero (p ⊖ q)
    home = record { non_zero = λ e. precedes-different us.0 (sym (⊖-zero q p e)) }

    go : (s : Bool) → up (q ⊖ a) ≡ s → Before (q ⊖ a) (p ⊖ q)
    go true e = earlier→before (apart e (precedes→down us.0))
    go false e = earlier→before (alike (e ∙ sym (precedes→down us.0)) (edges-left a q p (rw (turn-cycle p a q) at (down e))))
walk p a q (r ∷ ps) down us f c = (step, (cross-nonzero (edges-left a q r c.0)).1, walk p q r ps (λ n. f.0) us.1 f.1 c.1)
  where
    step : Before (q ⊖ a) (r ⊖ q)
    step = before-cross (q ⊖ a) (r ⊖ q) (edges-left a q r c.0) (λ n u. turn-bottom us.0
        (down→precedes a q (cross-nonzero (edges-left a q r c.0)).0 n) (up→precedes q r u) (down n) f.0 c.0)

pub local→sorted : (p q : Point) (ps : List Point) → Local p q ps → Sorted (p ∷ q ∷ ps)
local→sorted p q ps l =
    let u : Precedes p q = l.least.0 in (
      record { non_zero = λ e. precedes-different u (⊖-zero p q e) },
      walk p p q ps (λ n. absurd (up-clash (precedes→up u) n)) l.least l.fan l.bends,
    )

-- ---- from sorted edges to the local form

after-down : {a q r : Point} → Precedes q a → NonZero (r ⊖ q) → Before (q ⊖ a) (r ⊖ q) → Precedes r q × Left a q r
after-down {a} {q} {r} u n b = go (before→earlier b)
  where
    go : Earlier (q ⊖ a) (r ⊖ q) → Precedes r q × Left a q r
    go (apart v e) = absurd (true≢false (sym v ∙ precedes→down u))
    go (alike e h) = (down→precedes q r n (sym e ∙ precedes→down u), left-edges a q r h)

-- an edge that follows one going up goes down, or up as well and to the left
after-up : {a q r : Point} → Precedes a q → NonZero (r ⊖ q) → Before (q ⊖ a) (r ⊖ q) → Precedes r q ⊎ (Precedes q r × Left a q r)
after-up {a} {q} {r} u n b = go (before→earlier b)
  where
    go : Earlier (q ⊖ a) (r ⊖ q) → Precedes r q ⊎ (Precedes q r × Left a q r)
    go (apart v e) = inl (down→precedes q r n e)
    go (alike e h) = inr (up→precedes q r (record { precedes-true = sym e ∙ (precedes→up u).precedes-true }), left-edges a q r h)

-- the corners from q on, when the way to q from a went down
record Descent (p a q : Point) (ps : List Point) : Type 0 where
  least : All (λ r. Precedes p r) (q ∷ ps)
  home : Left a q p
  fan : Fan p q ps

descend : (p a q : Point) (ps : List Point) → Precedes q a → From (q ⊖ a) (edges_to p q ps) → Descent p a q ps
descend p a q [] u F =
    let d = after-down u F.1 F.0 in
    record { least = (d.0, tt); home = d.1; fan = tt }
descend p a q (r ∷ ps) u F =
    let d = after-down u F.1 F.0 in
    let later = descend p q r ps d.0 F.2 in
    record {
      least = (precedes-trans later.least.0 d.0, later.least);
      home = turn-descending u d.0 later.least.0 d.1 later.home;
      fan = (left-cycle p q r later.home, later.fan);
    }

-- the corners after q, when the way to q from a went up
ascend : (p a q : Point) (ps : List Point) → Precedes p q → Precedes a q → pos 0 ≤ℤ turn p a q → From (q ⊖ a) (edges_to p q ps)
    → All (λ r. Precedes p r) ps × Fan p q ps
ascend p a q [] u v h F = (tt, tt)
ascend p a q (r ∷ ps) u v h F = go (ascend p q r ps) (after-up v F.1 F.0)
  where
    go : (Precedes p r → Precedes q r → pos 0 ≤ℤ turn p q r → From (r ⊖ q) (edges_to p r ps) → All (λ r. Precedes p r) ps × Fan p r ps)
        → Precedes r q ⊎ (Precedes q r × Left a q r) → All (λ r. Precedes p r) (r ∷ ps) × Fan p q (r ∷ ps)
    go on (inl w) =
        let d = descend p q r ps w F.2 in
        (d.least, (left-cycle p q r d.home, d.fan))
    go on (inr w) =
        let k : Left p q r = turn-ascending u v w.0 h w.1 in
        let l = on (precedes-trans u w.0) w.0 (weaken k) F.2 in
        ((precedes-trans u w.0, l.0), (k, l.1))

-- neighbouring turns from the fan; `top` says what to do where the way to q went up and the way on goes down
bends-round : (p a q : Point) (ps : List Point) → ((r : Point) → Precedes a q → Precedes r q → Left p q r → Left a q r)
    → All (λ r. Precedes p r) (q ∷ ps) → Fan p q ps → From (q ⊖ a) (edges_to p q ps) → Bends a q ps
bends-round p a q [] top us f F = tt
bends-round p a q (r ∷ ps) top us f F =
    (go (before→earlier F.0), bends-round p q r ps (λ s v w k. turn-top us.1.0 v w f.0 k) us.1 f.1 F.2)
  where
    go : Earlier (q ⊖ a) (r ⊖ q) → Left a q r
    go (apart v e) = top r (up→precedes a q (record { precedes-true = v })) (down→precedes q r F.1 e) f.0
    go (alike e h) = left-edges a q r h

pub sorted→local : (p q : Point) (ps : List Point) → Sorted (p ∷ q ∷ ps) → Local p q ps
sorted→local p q ps s = go (placed p q)
  where
    go : Placed p q → Local p q ps
    go (ahead u) =
        let up_to_lem = ascend p p q ps u u (le_of_eq (sym (turn-stay p q))) s.1 in
        record { least = (u, up_to_lem.0); fan = up_to_lem.1; bends = bends-round p p q ps (λ r v w k. k) (u, up_to_lem.0) up_to_lem.1 s.1 }
    go (same e) = absurd (s.0.non_zero (rw e (⊖-self q)))
    go (behind u) = absurd (precedes-asym u (descend p p q ps u s.1).least.0)
