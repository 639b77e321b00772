-- Two lists of points that are clear of each other by w: in some direction the gap between them is w times the direction's length.
--     Clear w A B                     w as a number; of shapes, it is at most the clearance (`clear-fraction`, `fraction-clear`)
--     clear_apart                     they are apart, where w is above 0
--     clear-turned                    either may be the first
--     clear-moved, clear_both         what is left of w if one of them moves, or both; `both-apart`: they are still apart
--     inside-apart, inside-nearer     a list inside another is apart from what that one is apart from, and no nearer
use Rattle.std.specs.Prelude.{◌≡◌, true, List, [], ◌∷◌, ◌<◌, ℤ, pos, ◌+ℤ◌, ◌-ℤ◌, ◌*ℤ◌, length, ◌≤ℤ◌, ◌<ℤ◌}
use Rattle.std.proofs.Common.{arith}
use Rattle.integer.specs.Ring.{ring, reify}
use Rattle.integer.specs.Linear.{linear, lia, ◌&◌}
use Rattle.integer.specs.Order.{◌<×<◌, ◌≤×≤◌, ◌≡×◌, contra<, cancel-le, weaken, le_of_eq}
use Rattle.plane.specs.Point.{Point, opposite}
use Rattle.plane.specs.Shape.{IsShape}
use Rattle.plane.specs.Direction.{value, support}
use Rattle.plane.specs.Separation.{inside, apart}
use Rattle.plane.specs.Clearance.{top, bottom, nearest}
use Rattle.plane.specs.Forms.{NonZero}
use Rattle.plane.proofs.theory.forms.Vector.{value-nonneg, square-positive, opposite-opposite, opposite-non-zero}
use Rattle.separation.specs.theory.Inside.{inside→reach}
use Rattle.clearance.specs.theory.First.{turned-square}
use Rattle.clearance.specs.theory.Nearest.{nearest-is-whole}
use Rattle.strips.specs.Strip.{least, gap_in}
use Rattle.passage.proofs.theory.Gaps.{gap→apart, apart→gap}
use Rattle.passage.specs.Corridor.{widest_of}
use Rattle.passage.proofs.theory.Widest.{gap-clearance, widest-some, widest-clearance, widest-positive}
use Rattle.excess.proofs.theory.Lengths.{Longer, longer-more, longer-minus}
use Rattle.excess.proofs.theory.Moved.{Moved}

pub record Clear (w : ℤ) (A B : List Point) : Type 0 where
  pub direction : Point
  pub some : NonZero direction
  pub wide : Longer (gap_in direction A B) w (value direction direction)

-- ---- the clearance

-- w·w·D is at most g·g, and g·g·y at most x·D
no-wider : (g D x y w : ℤ) → pos 0 <ℤ D → pos 0 ≤ℤ y → (w *ℤ w *ℤ D) ≤ℤ (g *ℤ g) → (g *ℤ g *ℤ y) ≤ℤ (x *ℤ D) → (w *ℤ w *ℤ y) ≤ℤ x
no-wider g D x y w long whole wide most = cancel-le {k = D} long
    (lia (g ∷ D ∷ x ∷ y ∷ w ∷ []) (whole ≤×≤ wide & most) (search linear depth 40) (omega arith))

-- g·g·y is x·D, and w·w·y at most x
as_wide : (g D x y w : ℤ) → pos 0 ≤ℤ D → pos 0 <ℤ y → g *ℤ g *ℤ y ≡ x *ℤ D → (w *ℤ w *ℤ y) ≤ℤ x → (w *ℤ w *ℤ D) ≤ℤ (g *ℤ g)
as_wide g D x y w long whole at most = cancel-le {k = y} whole
    (lia (g ∷ D ∷ x ∷ y ∷ w ∷ []) (at & long ≤×≤ most) (search linear depth 40) (omega arith))

-- a square above 0 is not that of 0
gap-some : (g D w : ℤ) → pos 0 <ℤ D → pos 0 <ℤ w → pos 0 ≤ℤ g → (w *ℤ w *ℤ D) ≤ℤ (g *ℤ g) → pos 0 <ℤ g
gap-some g D w long some ahead wide = contra< (λ h.
    let square : pos 0 <ℤ (w *ℤ w) = lia (w ∷ []) (some <×< some) (search linear depth 40) (omega arith) in
    lia (g ∷ D ∷ w ∷ []) (wide & square <×< long & ahead ≤×≤ h) (search linear depth 40) (omega arith))

module _ (A B : List Point) where
  pub clear_apart : 0 < length A → 0 < length B → {w : ℤ} → pos 0 <ℤ w → Clear w A B → apart A B ≡ true
  clear_apart a b {w} some c = gap→apart A B a b c.direction (gap-some (gap_in c.direction A B)
      (value c.direction c.direction) w (square-positive c.direction c.some) some c.wide.ahead c.wide.squares)

  pub clear-turned : {w : ℤ} → Clear w A B → Clear w B A
  unfolding gap_in least
  clear-turned {w} c =
      let d = c.direction in
      record {
        direction = opposite d;
        some = opposite-non-zero c.some;
        wide = rw (turned-square d, opposite-opposite d) (longer-more
            (le_of_eq (ring (support (opposite d) A ∷ support d B ∷ []) (search reify depth 40) tt)) c.wide);
      }

  -- the gap is less by what C reaches beyond B
  pub clear-moved : {w e : ℤ} (C : List Point) → pos 0 <ℤ w → pos 0 ≤ℤ e → e ≤ℤ w → Clear w A B → Moved e C B → Clear (w -ℤ e) A C
  unfolding gap_in
  clear-moved {w} {e} C some low less c m =
      let d = c.direction in
      record {
        direction = d;
        some = c.some;
        wide = longer-more (le_of_eq (ring (least d A ∷ support d B ∷ support d C ∷ []) (search reify depth 40) tt))
            (longer-minus (gap_in d A B) (support d C -ℤ support d B) w e (value d d) some low less (value-nonneg d) c.wide (m.by d));
      }

  module _ (s : IsShape A) (t : IsShape B) (h : apart A B ≡ true) where
    pub clear-fraction : {w : ℤ} → Clear w A B → (w *ℤ w *ℤ bottom A B (nearest A B)) ≤ℤ top A B (nearest A B)
    clear-fraction {w} c =
        let d = c.direction in
        no-wider (gap_in d A B) (value d d) (top A B (nearest A B)) (bottom A B (nearest A B)) w (square-positive d c.some)
        (weaken (nearest-is-whole A B s t h)) c.wide.squares (gap-clearance A B s t h d c.some c.wide.ahead)

    pub fraction-clear : {w : ℤ} → (w *ℤ w *ℤ bottom A B (nearest A B)) ≤ℤ top A B (nearest A B) → Clear w A B
    fraction-clear {w} most =
        let n = widest_of A B in
        record {
          direction = n;
          some = widest-some A B s t h;
          wide = record {
            ahead = weaken (widest-positive A B s t h);
            squares = as_wide (gap_in n A B) (value n n) (top A B (nearest A B)) (bottom A B (nearest A B)) w (value-nonneg n)
                (nearest-is-whole A B s t h) (widest-clearance A B s t h) most;
          };
        }

-- one of them moves by e, then the other by f; something is left
module _ (A B C D : List Point) {w e f : ℤ} (low : pos 0 ≤ℤ e) (also : pos 0 ≤ℤ f) (less : (e +ℤ f) <ℤ w) (far : Clear w A B)
    (m : Moved e C A) (k : Moved f D B) where
  pub clear_both : Clear (w -ℤ e -ℤ f) C D
  clear_both =
      let some : pos 0 <ℤ w = lia (w ∷ e ∷ f ∷ []) (low & also & less) (search linear depth 40) (omega arith) in
      let first : e ≤ℤ w = lia (w ∷ e ∷ f ∷ []) (also & less) (search linear depth 40) (omega arith) in
      let left : pos 0 <ℤ (w -ℤ e) = lia (w ∷ e ∷ f ∷ []) (also & less) (search linear depth 40) (omega arith) in
      let second : f ≤ℤ (w -ℤ e) = lia (w ∷ e ∷ f ∷ []) less (search linear depth 40) (omega arith) in
      clear-moved C B D left also second (clear-turned B C (clear-moved B A C some low first (clear-turned A B far) m)) k

  pub both-apart : 0 < length C → 0 < length D → apart C D ≡ true
  both-apart c d = clear_apart C D c d (lia (w ∷ e ∷ f ∷ []) less (search linear depth 40) (omega arith)) clear_both

-- ---- inside

module _ (N O B : List Point) (n : 0 < length N) (o : 0 < length O) (b : 0 < length B) (h : inside N O ≡ true) where
  inside-gap : (d : Point) → gap_in d O B ≤ℤ gap_in d N B
  unfolding gap_in least
  inside-gap d = lia (support (opposite d) O ∷ support (opposite d) N ∷ support d B ∷ []) (inside→reach N O n o h (opposite d))
      (search linear depth 40) (omega arith)

  pub inside-apart : apart O B ≡ true → apart N B ≡ true
  inside-apart a =
      let g = apart→gap O B o b a in
      let d = g.direction in
      gap→apart N B n b d (lia (gap_in d O B ∷ gap_in d N B ∷ []) (g.wide & inside-gap d) (search linear depth 40) (omega arith))

-- g·g·y is x·D, and k·k·v at most u·D, g at most k
fractions-le : (g k D x y u v : ℤ) → pos 0 ≤ℤ g → g ≤ℤ k → pos 0 <ℤ D → pos 0 <ℤ y → pos 0 <ℤ v → g *ℤ g *ℤ y ≡ x *ℤ D
    → (k *ℤ k *ℤ v) ≤ℤ (u *ℤ D) → (x *ℤ v) ≤ℤ (u *ℤ y)
fractions-le g k D x y u v low more long whole also at most =
    let square : (g *ℤ g) ≤ℤ (k *ℤ k) = lia (g ∷ k ∷ []) (more ≤×≤ more & low ≤×≤ more) (search linear depth 40) (omega arith) in
    let product : pos 0 ≤ℤ (y *ℤ v) = lia (y ∷ v ∷ []) (whole <×< also) (search linear depth 40) (omega arith) in
    cancel-le {k = D} long (lia (g ∷ k ∷ D ∷ x ∷ y ∷ u ∷ v ∷ []) (at ≡× v & square ≤×≤ product & weaken whole ≤×≤ most)
    (search linear depth 40) (omega arith))

module _ (N O B : List Point) (s : IsShape N) (t : IsShape O) (r : IsShape B) (h : inside N O ≡ true) (a : apart O B ≡ true) where
  pub inside-nearer : (top O B (nearest O B) *ℤ bottom N B (nearest N B)) ≤ℤ (top N B (nearest N B) *ℤ bottom O B (nearest O B))
  inside-nearer =
      let still = inside-apart N O B s.some t.some r.some h a in
      let n = widest_of O B in
      let more = inside-gap N O B s.some t.some r.some h n in
      let wide = widest-positive O B t r a in
      fractions-le (gap_in n O B) (gap_in n N B) (value n n) (top O B (nearest O B)) (bottom O B (nearest O B)) (top N B (nearest N B))
      (bottom N B (nearest N B)) (weaken wide) more (square-positive n (widest-some O B t r a)) (nearest-is-whole O B t r a)
      (nearest-is-whole N B s r still) (widest-clearance O B t r a)
      (gap-clearance N B s r still n (widest-some O B t r a) (lia (gap_in n O B ∷ gap_in n N B ∷ []) (weaken wide & more)
      (search linear depth 40) (omega arith)))
