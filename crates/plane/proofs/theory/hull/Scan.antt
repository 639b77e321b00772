-- The scan (`push` and `scan` of `Corner.antt`), proved once for both chains: half is true for points that run up and directions that look
-- right, false for points that run down and directions that look left. Points kept and points seen are listed last first.
--     Chain half kept            neighbours run up (down), and every three of them turn left; Reaches, Turns: of p and the last kept
--     Bounds d N ps              no point of ps has a value of d above N
--     Scan half s seen p kept    the invariant: s was the first point, p is the newest, seen are all of them, kept those below p;
--                                whether p turns left at the last kept is not known yet
--     scan-start, scan-drop      one point is read; p does not turn left at the last kept, which is dropped
--     scan-keep, scan-end        p turns left there: it stays, and the next point is read, or there is none
--     Kept half s t seen kept    what the end gives: a chain from s to t, of points seen, that bounds them all
--     kept-reverse, scanned      also of them in reading order; the scan of a list that runs up (down) from s to t gives it
use Rattle.std.specs.Prelude.{◌≡◌, refl, Bool, true, false, ℤ, pos, ◌≤ℤ◌}
use Rattle.std.proofs.Common.{subst}
use mathlib.Core.List.Memᴰ
use mathlib.Core.List.{List, [], ◌∷◌, reverse, reverse_aux}
use Rattle.std.specs.Int.Signed.{lt_z}
use Rattle.integer.specs.Order.{lt_z-true, lt_z-false}
use Rattle.plane.specs.Point.{Point, ◌∈◌}
use Rattle.plane.specs.Turn.{turn, Left}
use Rattle.plane.specs.Direction.{value}
use Rattle.plane.specs.Corner.{push, scan}
use Rattle.plane.specs.Forms.{All}
use Rattle.plane.proofs.theory.lists.Members.{last_of, member-cons, member-reverse, reverse-member, all-subset}
use Rattle.plane.proofs.theory.hull.Halves.{Onward, Sideways, onward-trans, value-between}
use Rattle.plane.proofs.theory.hull.Ascending.{Runs, Ends, ends}

-- ---- chains, last first

-- the step to p from the last kept
abbrev pub Reaches : Bool → Point → List Point → Type 0
Reaches half p [] = Unit {0}
Reaches half p (a ∷ kept) = Onward half a p

-- p turns left at the last kept
abbrev pub Turns : Point → List Point → Type 0
Turns p [] = Unit {0}
Turns p (a ∷ []) = Unit {0}
Turns p (a ∷ (b ∷ kept)) = Left b a p

abbrev pub Chain : Bool → List Point → Type 0
Chain half [] = Unit {0}
Chain half (p ∷ kept) = Reaches half p kept × Turns p kept × Chain half kept

abbrev pub Bounds : Point → ℤ → List Point → Type 0
Bounds d N ps = All (λ q. value d q ≤ℤ N) ps

-- ---- the invariant and its moves

pub record Scan (half : Bool) (s : Point) (seen : List Point) (p : Point) (kept : List Point) : Type 0 where
  pub chain : Chain half kept
  pub reaches : Reaches half p kept
  pub start : last_of p kept ≡ s
  pub member : {q : Point} → q ∈ (p ∷ kept) → q ∈ seen
  pub bound : (d : Point) → Sideways half d → (N : ℤ) → Bounds d N (p ∷ kept) → Bounds d N seen

pub record Kept (half : Bool) (s t : Point) (seen kept : List Point) : Type 0 where
  pub chain : Chain half kept
  pub ends_at : Ends t s kept
  pub member : {q : Point} → q ∈ kept → q ∈ seen
  pub bound : (d : Point) → Sideways half d → (N : ℤ) → Bounds d N kept → Bounds d N seen

pub scan-start : {half : Bool} {p : Point} → Scan half p (p ∷ []) p []
scan-start = record { chain = tt; reaches = tt; start = refl; member = λ m. m; bound = λ d f N b. b }

module _ {half : Bool} {s p : Point} where
  pub scan-drop : {seen kept : List Point} {a b : Point} → Scan half s seen p (a ∷ b ∷ kept) → turn b a p ≤ℤ pos 0
      → Scan half s seen p (b ∷ kept)
  scan-drop c t = record {
    chain = c.chain.2;
    reaches = onward-trans c.chain.0 c.reaches;
    start = c.start;
    member = λ m. c.member (member-cons Memᴰ.tail m);
    bound = λ d f N b. c.bound d f N (b.0, (value-between d c.chain.0 c.reaches t f b.1.0 b.0, b.1));
  }

  pub scan-keep : {seen kept : List Point} {q : Point} → Scan half s seen p kept → Turns p kept → Onward half p q
      → Scan half s (q ∷ seen) q (p ∷ kept)
  scan-keep c t h = record {
    chain = (c.reaches, t, c.chain);
    reaches = h;
    start = c.start;
    member = member-cons c.member;
    bound = λ d f N b. (b.0, c.bound d f N b.1);
  }

  pub scan-end : {seen kept : List Point} → Scan half s seen p kept → Turns p kept → Kept half s p seen (p ∷ kept)
  scan-end {kept = kept} c t = record {
    chain = (c.reaches, t, c.chain);
    ends_at = ends kept c.start;
    member = c.member;
    bound = c.bound;
  }

-- ---- the scan itself

-- p has been read, and what it does not turn left at is dropped
data Pushed (half : Bool) (s : Point) (seen : List Point) (p : Point) : List Point → Type 0 where
  pushed : (kept : List Point) → Scan half s seen p kept → Turns p kept → Pushed half s seen p (p ∷ kept)

push-all : {half : Bool} {s p : Point} {seen : List Point} (kept : List Point) → Scan half s seen p kept
    → Pushed half s seen p (push p kept)
push-all [] c = pushed [] c tt
push-all (a ∷ []) c = pushed (a ∷ []) c tt
push-all {half} {s} {p} {seen} (a ∷ (b ∷ kept)) c = go (push-all (b ∷ kept)) (lt_z (pos 0) (turn b a p)) refl
  where
    go : (Scan half s seen p (b ∷ kept) → Pushed half s seen p (push p (b ∷ kept))) → (t : Bool) → lt_z (pos 0) (turn b a p) ≡ t
        → Pushed half s seen p (elim t [ true ↦ p ∷ a ∷ b ∷ kept | false ↦ push p (b ∷ kept) ])
    go ih true e = pushed (a ∷ b ∷ kept) c (lt_z-true e)
    go ih false e = ih (scan-drop c (lt_z-false e))

scan-all : {half : Bool} {s p : Point} {seen kept : List Point} (ps : List Point) → Pushed half s seen p kept → Runs half (p ∷ ps)
    → Pushed half s (reverse_aux ps seen) (last_of p ps) (scan kept ps)
scan-all [] c r = c
scan-all {p = p} (q ∷ ps) (pushed kept c t) r = scan-all {p = q} ps (push-all (_ ∷ kept) (scan-keep c t r.0)) r.1

-- the order in which the points were seen does not matter
pub kept-reverse : {half : Bool} {s t : Point} {kept : List Point} (seen : List Point) → Kept half s t (reverse seen) kept
    → Kept half s t seen kept
kept-reverse seen k = record {
  chain = k.chain;
  ends_at = k.ends_at;
  member = λ m. reverse-member seen (k.member m);
  bound = λ d f N b. all-subset (λ q. value d q ≤ℤ N) seen (λ q m. member-reverse m) (k.bound d f N b);
}

pub scanned : {half : Bool} {s t : Point} {ps : List Point} → Ends s t ps → Runs half ps → Kept half s t ps (scan [] ps)
scanned {half} {s} {t} (ends ps e) r = subst (λ q. Kept half s q l (scan [] l)) e (go (scan-all ps (pushed [] scan-start tt) r))
  where
    l : List Point
    l = s ∷ ps

    go : {p : Point} {kept : List Point} → Pushed half s (reverse l) p kept → Kept half s p l kept
    go (pushed kept c turns) = kept-reverse l (scan-end c turns)
