-- Members of a list of points, as data: a proof of p ∈ ps is a place of p in ps.
--     all-member, member-all            what holds of all holds of each member, and back; `all-subset`: of all points of a part
--     member-cons, member-reverse, reverse-member     members under one more point; the same points read backwards
--     last_of p ps, last-member          the last point of p ∷ ps
--     pairs-append-last                 one more point at the end of a list whose pairs are related
--     sums-member, member-sums          the points of sums A B are the a ⊕ b (`SumOf`)
--     mirrored-member, member-mirrored  the points of mirrored A are the opposites
--     position-member, member-position  the corner at a position is a member, and a member has a position
--     member-some, sums-some, mirrored-some     lists with a point: 0 < length
--     point-path, point-discrete        equal parts make equal points; equality of points is decided
--     same_point-equal, same_point-self, same_point-other     the test says whether they are equal
-- Members of `++` and `map` are in `mathlib.Core.List`.
use Rattle.std.specs.Prelude.{◌≡◌, refl, Bool, true, false, ◌&&◌, ◌⊎◌, ℕ, zero, suc, ◌<◌, ℤ, pos, negsuc, length}
use Rattle.std.proofs.Common.{sym, ap, subst, inl, inr, not-suc-le-zero, arith, eqb-true, eq-eqb}
use Rattle.std.proofs.lemmas.Bool.{false≢true}
use mathlib.Core.List.{List, [], ◌∷◌, ◌++◌, map, reverse, reverse_aux, reverse-reverse}
use mathlib.Core.List.Memᴰ
use mathlib.Core.List.{Memᴰ}
use Rattle.std.proofs.Math.IntN.{ℤ_discrete}
use Rattle.plane.specs.Point.{Point, corner, ◌⊕◌, opposite, eq_z, same_point, ◌∈◌, ◌⊆◌}
use Rattle.plane.specs.Corner.{sums, mirrored}
use Rattle.plane.specs.Forms.{All, Pairs}

-- ---- equality of points

pub point-path : {p q : Point} → p.x ≡ q.x → p.y ≡ q.y → p ≡ q
point-path e f = λ i. record { x = e i; y = f i }

pub point-discrete : (p q : Point) → Dec (p ≡ q)
point-discrete p q = go (ℤ_discrete p.x q.x) (ℤ_discrete p.y q.y)
  where
    go : Dec (p.x ≡ q.x) → Dec (p.y ≡ q.y) → Dec (p ≡ q)
    go (yes e) (yes f) = yes (point-path e f)
    go (yes e) (no f) = no (λ r. f (ap (λ (z : Point). z.y) r))
    go (no e) f = no (λ r. e (ap (λ (z : Point). z.x) r))

eq_z-true : (a b : ℤ) → eq_z a b ≡ true → a ≡ b
eq_z-true (pos m) (pos n) h = ap pos (eqb-true m n h)
eq_z-true (pos m) (negsuc n) h = absurd (false≢true h)
eq_z-true (negsuc m) (pos n) h = absurd (false≢true h)
eq_z-true (negsuc m) (negsuc n) h = ap negsuc (eqb-true m n h)

eq_z-self : (a : ℤ) → eq_z a a ≡ true
eq_z-self (pos n) = eq-eqb n n refl
eq_z-self (negsuc n) = eq-eqb n n refl

pub same_point-equal : (p q : Point) → same_point p q ≡ true → p ≡ q
unfolding same_point
same_point-equal p q h = go (eq_z p.x q.x) refl (eq_z p.y q.y) refl h
  where
    go : (s : Bool) → eq_z p.x q.x ≡ s → (t : Bool) → eq_z p.y q.y ≡ t → (s && t) ≡ true → p ≡ q
    go true e true f k = point-path (eq_z-true _ _ e) (eq_z-true _ _ f)
    go true e false f k = absurd (false≢true k)
    go false e t f k = absurd (false≢true k)

pub same_point-self : (p : Point) → same_point p p ≡ true
unfolding same_point
same_point-self p = rw (eq_z-self p.x, eq_z-self p.y)

pub same_point-other : (p q : Point) → (p ≡ q → ⊥) → same_point p q ≡ false
same_point-other p q f = go (same_point p q) refl
  where
    go : (t : Bool) → same_point p q ≡ t → t ≡ false
    go true h = absurd (f (same_point-equal p q h))
    go false h = refl

-- ---- all and each

pub all-member : (P : Point → Type 0) {p : Point} {ps : List Point} → All P ps → p ∈ ps → P p
all-member P h (Memᴰ.head e) = subst P (sym e) h.0
all-member P h (Memᴰ.tail m) = all-member P h.1 m

pub member-all : (P : Point → Type 0) (ps : List Point) → ((p : Point) → p ∈ ps → P p) → All P ps
member-all P [] f = tt
member-all P (p ∷ ps) f = (f p (Memᴰ.head refl), member-all P ps (λ q m. f q (Memᴰ.tail m)))

pub all-subset : (P : Point → Type 0) (A : List Point) {B : List Point} → A ⊆ B → All P B → All P A
all-subset P A f h = member-all P A (λ p m. all-member P h (f p m))

pub pairs-append-last : (R : Point → Point → Type 0) (ps : List Point) (z : Point)
    → Pairs R ps → All (λ p. R p z) ps → Pairs R (ps ++ (z ∷ []))
pairs-append-last R [] z h k = (tt, tt)
pairs-append-last R (p ∷ ps) z h k = (all-append-last (λ q. R p q) ps z h.0 k.0, pairs-append-last R ps z h.1 k.1)
  where
    all-append-last : (P : Point → Type 0) (qs : List Point) (z : Point) → All P qs → P z → All P (qs ++ (z ∷ []))
    all-append-last P [] z h k = (k, tt)
    all-append-last P (q ∷ qs) z h k = (h.0, all-append-last P qs z h.1 k)

-- ---- one more, read backwards, the last

pub member-cons : {p q : Point} {ps qs : List Point} → (p ∈ ps → p ∈ qs) → p ∈ (q ∷ ps) → p ∈ (q ∷ qs)
member-cons f (Memᴰ.head e) = Memᴰ.head e
member-cons f (Memᴰ.tail m) = Memᴰ.tail (f m)

-- the points of acc and of ps are those of reverse_aux ps acc
behind : {p : Point} (ps : List Point) {acc : List Point} → p ∈ acc → p ∈ reverse_aux ps acc
behind [] m = m
behind (q ∷ ps) m = behind ps (Memᴰ.tail m)

turned : {p : Point} {ps : List Point} (acc : List Point) → p ∈ ps → p ∈ reverse_aux ps acc
turned acc (Memᴰ.head {xs = ps} e) = behind ps (Memᴰ.head e)
turned acc (Memᴰ.tail {x = q} m) = turned (q ∷ acc) m

pub member-reverse : {p : Point} {ps : List Point} → p ∈ ps → p ∈ reverse ps
member-reverse m = turned [] m

pub reverse-member : {p : Point} (ps : List Point) → p ∈ reverse ps → p ∈ ps
reverse-member {p} ps m = subst (λ l. p ∈ l) (reverse-reverse ps) (member-reverse m)

abbrev pub last_of : Point → List Point → Point
last_of p [] = p
last_of p (q ∷ ps) = last_of q ps

pub last-member : (p : Point) (ps : List Point) → last_of p ps ∈ (p ∷ ps)
last-member p [] = Memᴰ.head refl
last-member p (q ∷ ps) = Memᴰ.tail (last-member q ps)

-- ---- sums and mirrored lists

pub sums-member : {a b : Point} {A B : List Point} → a ∈ A → b ∈ B → (a ⊕ b) ∈ sums A B
sums-member {a} {b} {B = B} (Memᴰ.head {x = c} {xs = A} e) n =
    Memᴰ.append_left (sums A B) (Memᴰ.cast (ap (λ z. z ⊕ b) e) (Memᴰ.map (λ z. c ⊕ z) n))
sums-member {B = B} (Memᴰ.tail {x = c} m) n = Memᴰ.append_right (map (λ z. c ⊕ z) B) (sums-member m n)

-- p as a point of A plus a point of B
pub record SumOf (A B : List Point) (p : Point) : Type 0 where
  pub left : Point
  pub right : Point
  pub left_in : left ∈ A
  pub right-in : right ∈ B
  pub is_sum : p ≡ left ⊕ right

pub member-sums : {p : Point} (A B : List Point) → p ∈ sums A B → SumOf A B p
member-sums [] B m = absurd (Memᴰ.not-nil m)
member-sums {p} (a ∷ A) B m = go (member-sums A B) (Memᴰ.append_cases (map (λ b. a ⊕ b) B) m)
  where
    go : (p ∈ sums A B → SumOf A B p) → (p ∈ map (λ b. a ⊕ b) B) ⊎ (p ∈ sums A B) → SumOf (a ∷ A) B p
    go later (inl n) =
        let b = Memᴰ.of_map (λ b. a ⊕ b) B n in
        record { left = a; right = b.0; left_in = Memᴰ.head refl; right-in = b.1; is_sum = sym b.2 }
    go later (inr n) =
        let s = later n in
        record { left = s.left; right = s.right; left_in = Memᴰ.tail s.left_in; right-in = s.right-in; is_sum = s.is_sum }

pub mirrored-member : {p : Point} {A : List Point} → p ∈ A → opposite p ∈ mirrored A
mirrored-member m = Memᴰ.map opposite m

pub member-mirrored : {p : Point} (A : List Point) → p ∈ mirrored A → (a : Point) × a ∈ A × (opposite a ≡ p)
member-mirrored A m = Memᴰ.of_map opposite A m

-- ---- positions

pub position-member : (ps : List Point) (i : ℕ) → i < length ps → corner ps i ∈ ps
position-member [] i h = absurd (not-suc-le-zero h)
position-member (p ∷ ps) zero h = Memᴰ.head refl
position-member (p ∷ ps) (suc i) h = Memᴰ.tail (position-member ps i (omega arith))

pub member-position : {p : Point} {ps : List Point} → p ∈ ps → (i : ℕ) × (i < length ps) × (corner ps i ≡ p)
member-position (Memᴰ.head e) = (0, omega arith, sym e)
member-position (Memᴰ.tail m) = let r = member-position m in (suc r.0, omega (arith, r.1), r.2)

-- ---- lists with a point

pub member-some : {p : Point} {ps : List Point} → p ∈ ps → 0 < length ps
member-some (Memᴰ.head e) = omega arith
member-some (Memᴰ.tail m) = omega arith

pub sums-some : (A B : List Point) → 0 < length A → 0 < length B → 0 < length (sums A B)
sums-some [] B h k = h
sums-some (a ∷ A) [] h k = absurd (not-suc-le-zero k)
sums-some (a ∷ A) (b ∷ B) h k = omega arith

pub mirrored-some : (A : List Point) → 0 < length A → 0 < length (mirrored A)
mirrored-some [] h = h
mirrored-some (a ∷ A) h = omega arith
