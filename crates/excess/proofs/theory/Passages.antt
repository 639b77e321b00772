-- Passages between obstacles that moved.
--     width-clear       the grown obstacles are clear of each other by the free width
--     clear-width       and by nothing more, in whole millimetres
--     moved-passage     obstacles that moved by e and f, and a cart that changed by g, leave a passage
--     settled-free, settled-cart      the same by `up`, of a cart that did not change and of one that did
use Rattle.std.specs.Prelude.{◌≡◌, true, List, [], ◌∷◌, ℕ, ◌+◌, ◌≤◌, ◌<◌, ℤ, pos, ◌+ℤ◌, ◌*ℤ◌, length, ◌≤ℤ◌, ◌<ℤ◌}
use Rattle.std.proofs.Common.{arith, lt→ltb}
use Rattle.integer.specs.Linear.{linear, lia, ◌&◌}
use Rattle.integer.specs.Order.{◌≤×≤◌, cancel-le, weaken}
use Rattle.plane.specs.Point.{Point}
use Rattle.plane.specs.Shape.{IsShape}
use Rattle.plane.specs.Direction.{value}
use Rattle.plane.proofs.theory.forms.Vector.{square-positive, value-nonneg}
use Rattle.clearance.specs.theory.Means.{size-nonneg}
use Rattle.strips.specs.Strip.{gap_in}
use Rattle.growth.specs.Grown.{grown}
use Rattle.growth.proofs.theory.Places.{grown-some, grown-shape}
use Rattle.passage.specs.Passage.{passable, across, room, free_width}
use Rattle.passage.proofs.theory.Widest.{none-wider}
use Rattle.passage.proofs.theory.Room.{room-gap, across-some, room-positive, width-bounded}
use Rattle.passage.proofs.theory.Smaller.{sizes-le}
use Rattle.excess.specs.Excess.{up}
use Rattle.excess.proofs.theory.Lengths.{put_back}
use Rattle.excess.proofs.theory.Rounded.{bounded-above}
use Rattle.excess.proofs.theory.Moved.{Moved, up→moved, moved-grown}
use Rattle.excess.proofs.theory.Clear.{Clear, clear_both, both-apart}
use Rattle.excess.proofs.theory.Promises.{unmoved}

-- k·k·D is at most g·g, and g·g/D at most r·r/N
narrower : (k g D r N : ℤ) → pos 0 <ℤ D → pos 0 ≤ℤ N → (k *ℤ k *ℤ D) ≤ℤ (g *ℤ g) → (g *ℤ g *ℤ N) ≤ℤ (r *ℤ r *ℤ D)
    → (k *ℤ k *ℤ N) ≤ℤ (r *ℤ r)
narrower k g D r N long low wide most = cancel-le {k = D} long
    (lia (k ∷ g ∷ D ∷ r ∷ N ∷ []) (low ≤×≤ wide & most) (search linear depth 40) (omega arith))

module _ (L R A : List Point) (l : 0 < length L) (r : 0 < length R) (a : 0 < length A) (h : passable L R A ≡ true) where
  abbrev G : List Point
  G = grown L A

  abbrev H : List Point
  H = grown R A

  abbrev n : Point
  n = across L R A

  pub width-clear : Clear (pos (free_width L R A)) G H
  width-clear = record {
    direction = n;
    some = across-some L R A l r a h;
    wide = record {
      ahead = rw (← room-gap L R A l r a) (weaken (room-positive L R A l r a h));
      squares = rw (← room-gap L R A l r a) (width-bounded L R A l r a h).low;
    };
  }

  pub clear-width : {k : ℤ} → Clear k G H → k ≤ℤ pos (free_width L R A)
  unfolding across
  clear-width {k} c = bounded-above (square-positive n (across-some L R A l r a h)) (narrower k (gap_in d G H) (value d d) (room L R A)
      (value n n) (square-positive d c.some) (value-nonneg n) c.wide.squares most) (width-bounded L R A l r a h)
    where
      d : Point
      d = c.direction

      most : (gap_in d G H *ℤ gap_in d G H *ℤ value n n) ≤ℤ (room L R A *ℤ room L R A *ℤ value d d)
      most = rw (room-gap L R A l r a) (none-wider G H (grown-shape L A l a) (grown-shape R A r a) h d c.some c.wide.ahead)

-- ---- what a change leaves

-- each grown obstacle moves by its own change and the cart's
pub moved-passage : {e f g : ℕ} (L R A M S C : List Point) → 0 < length L → 0 < length R → 0 < length A → 0 < length M → 0 < length S
    → 0 < length C → Moved (pos e) M L → Moved (pos f) S R → Moved (pos g) C A → passable L R A ≡ true
    → (e + g) + (f + g) < free_width L R A
    → (passable M S C ≡ true) × (free_width L R A ≤ free_width M S C + ((e + g) + (f + g)))
moved-passage {e} {f} {g} L R A M S C l r a m s c left right cart h less =
    let w = pos (free_width L R A) in
    let room : (pos (e + g) +ℤ pos (f + g)) <ℤ w = record { lt = lt→ltb _ _ less } in
    let one = moved-grown M L C A m l c a (size-nonneg e) (size-nonneg g) left cart in
    let other = moved-grown S R C A s r c a (size-nonneg f) (size-nonneg g) right cart in
    let far = width-clear L R A l r a h in
    let still = both-apart (grown L A) (grown R A) (grown M C) (grown S C) (size-nonneg (e + g)) (size-nonneg (f + g)) room far one other
    (grown-some M C m c) (grown-some S C s c) in
    let clear = clear_both (grown L A) (grown R A) (grown M C) (grown S C) (size-nonneg (e + g)) (size-nonneg (f + g)) room far one other in
    (still, sizes-le (put_back w (pos (e + g)) (pos (f + g)) (pos (free_width M S C)) (clear-width M S C m s c still clear)))

-- ---- by up

module _ (L R A M S : List Point) (l : IsShape L) (r : IsShape R) (a : IsShape A) (m : 0 < length M) (s : 0 < length S) {e f : ℕ}
    (left : up M L ≤ e) (right : up S R ≤ f) (h : passable L R A ≡ true) where
  pub settled-cart : (C : List Point) → 0 < length C → {g : ℕ} → up C A ≤ g → (e + g) + (f + g) < free_width L R A
      → (passable M S C ≡ true) × (free_width L R A ≤ free_width M S C + ((e + g) + (f + g)))
  settled-cart C c cart less = moved-passage L R A M S C l.some r.some a.some m s c (up→moved M L m l left)
      (up→moved S R s r right) (up→moved C A c a cart) h less

  pub settled-free : e + f < free_width L R A → (passable M S A ≡ true) × (free_width L R A ≤ free_width M S A + (e + f))
  settled-free less =
      let still = moved-passage L R A M S A l.some r.some a.some m s a.some (up→moved M L m l left) (up→moved S R s r right)
      (unmoved A a.some) h (omega arith) in
      (still.0, omega (arith, still.1))
