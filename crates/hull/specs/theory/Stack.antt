-- The scan on a stack that is at the front of a buffer.
--     stack-length, stack-reverse, take-stack     a stack has as many points as it says; it is the front of the list read backwards
--     Settling, settle-drop, settle-keep, settle-short      the loop that drops corners until the new point turns left
--     settled-scanned        the point is written after what stays
--     Scanning, scanning-start, -one, -rest, -end           the loop that reads points; `scanning-room`: there is room for the next;
--                                                           `scanning-as`: what is to come, by another name
--     first-scanned, chained      one point is written; with the rows, and the last point settled, it is a chain
use Rattle.std.specs.Prelude.{◌≡◌, refl, Bool, true, false, List, [], ◌∷◌, reverse, ℕ, zero, suc, ◌+◌, ◌-◌, ◌^◌, ◌≤◌, ◌<◌, ℤ, pos, length}
use Rattle.std.specs.Prelude.{take, set}
use Rattle.std.proofs.Common.{sym, ◌∙◌, ap, ap₂, subst, add-one, arith, take-suc, get_or-set_same, get_or-set_other}
use Rattle.std.proofs.lemmas.List.{reverse-append, reverse-reverse}
use Rattle.std.proofs.Math.Decide.{ℕ_discrete}
use Rattle.std.specs.Int.Signed.{lt_z}
use Rattle.plane.specs.Point.{Point, origin, points, corner}
use Rattle.plane.specs.Turn.{turn}
use Rattle.plane.specs.Corner.{push, scan}
use Rattle.plane.proofs.theory.lists.Flat.{points-length}
use Rattle.polygon.specs.Point.{Small, stored}
use Rattle.sorting.specs.Order.{in_order}
use Rattle.sorting.specs.Buffer.{stack, SmallTo, Settled, Scanned, Chained}
use Rattle.sorting.specs.theory.Least.{in_order-length}
use Rattle.sorting.specs.theory.Stored.{stored-points, stored-length}

-- ---- stacks

pub stack-length : (ps : List Point) (k : ℕ) → length (stack ps k) ≡ k
stack-length ps zero = refl
stack-length ps (suc k) = ap suc (stack-length ps k)

stack_set : (ps : List Point) (k r : ℕ) (p : Point) → r ≤ k → stack (set ps k p) r ≡ stack ps r
stack_set ps k zero p h = refl
stack_set ps k (suc r) p h = ap₂ (λ q l. q ∷ l) (get_or-set_other ps k r p origin (λ e. omega arith)) (stack_set ps k r p (omega arith))

pub stack-reverse : (ps : List Point) (k : ℕ) → k ≤ length ps → stack ps k ≡ reverse (take k ps)
stack-reverse ps zero h = refl
stack-reverse ps (suc k) h =
    ap (λ l. corner ps k ∷ l) (stack-reverse ps k (omega arith))
    ∙ sym (ap reverse (take-suc ps k origin h) ∙ reverse-append (take k ps) (corner ps k ∷ []))

pub take-stack : (ps : List Point) (k : ℕ) → k ≤ length ps → take k ps ≡ reverse (stack ps k)
take-stack ps k h = sym (ap reverse (stack-reverse ps k h) ∙ reverse-reverse (take k ps))

-- ---- dropping corners

pub record Settling (ps : List Point) (k : ℕ) (p : Point) (kept : ℕ) : Type 0 where
  pub few : kept ≤ k
  pub pushed : push p (stack ps k) ≡ push p (stack ps kept)

module _ {ps : List Point} {k : ℕ} {p : Point} {kept : ℕ} (c : Settling ps k p kept) where
  pub settle-short : kept < 2 → Settled ps k p kept
  settle-short h = record { few = c.few; pushed = c.pushed ∙ go kept h }
    where
      go : (m : ℕ) → m < 2 → push p (stack ps m) ≡ p ∷ stack ps m
      go zero h = refl
      go (suc zero) h = refl
      go (suc (suc m)) h = absurd (omega arith)

  module _ (two : 2 ≤ kept) where
    -- the two last corners, by position
    top : kept ≡ suc (suc (kept - 2))
    top = omega arith

    under : kept - 1 ≡ suc (kept - 2)
    under = omega arith

    pub settle-keep : lt_z (pos 0) (turn (corner ps (kept - 2)) (corner ps (kept - 1)) p) ≡ true → Settled ps k p kept
    settle-keep e = record {
      few = c.few;
      pushed = c.pushed ∙ ap (λ m. push p (stack ps m)) top ∙ go (rw under at e) ∙ ap (λ m. p ∷ stack ps m) (sym top);
    }
      where
        go : lt_z (pos 0) (turn (corner ps (kept - 2)) (corner ps (suc (kept - 2))) p) ≡ true
            → push p (stack ps (suc (suc (kept - 2)))) ≡ p ∷ stack ps (suc (suc (kept - 2)))
        go e = rw (e, push)

    pub settle-drop : lt_z (pos 0) (turn (corner ps (kept - 2)) (corner ps (kept - 1)) p) ≡ false → Settling ps k p (kept - 1)
    settle-drop e = record {
      few = omega (arith, c.few);
      pushed = c.pushed ∙ ap (λ m. push p (stack ps m)) top ∙ go (rw under at e) ∙ ap (λ m. push p (stack ps m)) (sym under);
    }
      where
        go : lt_z (pos 0) (turn (corner ps (kept - 2)) (corner ps (suc (kept - 2))) p) ≡ false
            → push p (stack ps (suc (suc (kept - 2)))) ≡ push p (stack ps (suc (kept - 2)))
        go e = rw (e, push)

-- ---- the point written after what stays

pub settled-scanned : {l now : List ℤ} {k r : ℕ} {p : Point} → k < length (points l) → SmallTo l k → Small (2 ^ 21) p
    → Settled (points l) k p r → now ≡ stored l r p → Scanned l k (p ∷ []) now (r + 1)
settled-scanned {l} {now} {k} {r} {p} room low own s is = subst (λ m. Scanned l k (p ∷ []) m (r + 1)) (sym is) (record {
  kept = ap (λ (q : List Point). stack q (r + 1)) written ∙ ap (stack (set (points l) r p)) (add-one r) ∙ pile ∙ sym s.pushed;
  few = omega (arith, s.few);
  small = record { small = λ i h. rw written (go i h (ℕ_discrete i r)) };
  same = stored-length l r p;
})
  where
    inside : r < length (points l)
    inside = omega (arith, s.few)

    written : points (stored l r p) ≡ set (points l) r p
    written = stored-points l r p inside

    pile : stack (set (points l) r p) (suc r) ≡ p ∷ stack (points l) r
    pile = ap₂ (λ q m. q ∷ m) (get_or-set_same (points l) r p origin inside) (stack_set (points l) r r p (omega arith))

    go : (i : ℕ) → i < r + 1 → Dec (i ≡ r) → Small (2 ^ 21) (corner (set (points l) r p) i)
    go i h (yes e) = subst (Small (2 ^ 21)) (sym (ap (corner (set (points l) r p)) e ∙ get_or-set_same (points l) r p origin inside)) own
    go i h (no f) = subst (Small (2 ^ 21)) (sym (get_or-set_other (points l) r i p origin f)) (low.small i (omega (arith, s.few, f)))

-- ---- reading points

-- rest is still to come: with it the scan leaves what it leaves of all
pub record Scanning (old : List ℤ) (k : ℕ) (all rest : List Point) (l : List ℤ) (r : ℕ) : Type 0 where
  pub ahead : scan (stack (points l) r) rest ≡ scan (stack (points old) k) all
  pub few : r + length rest ≤ k + length all
  pub room : r + length rest ≤ length (points l)
  pub small : SmallTo l r
  pub same : length l ≡ length old

pub scanning-start : {l : List ℤ} {k : ℕ} {all : List Point} → SmallTo l k → k + length all ≤ length (points l) → Scanning l k all all l k
scanning-start s h = record { ahead = refl; few = omega arith; room = h; small = s; same = refl }

module _ {old l : List ℤ} {k r : ℕ} {all rest : List Point} (c : Scanning old k all rest l r) where
  pub scanning-as : {other : List Point} → rest ≡ other → Scanning old k all other l r
  scanning-as e = subst (λ m. Scanning old k all m l r) e c

  pub scanning-room : {p : Point} {later : List Point} → rest ≡ p ∷ later → r < length (points l)
  scanning-room e = omega (arith, c.room, ap length e)

  pub scanning-one : {p : Point} {later : List Point} {now : List ℤ} {r' : ℕ} → rest ≡ p ∷ later → Scanned l r (p ∷ []) now r'
      → Scanning old k all later now r'
  scanning-one {p} {later} {now} e s = record {
    ahead = ap (λ m. scan m later) s.kept ∙ ap (scan (stack (points l) r)) (sym e) ∙ c.ahead;
    few = omega (arith, c.few, s.few, ap length e);
    room = omega (arith, c.room, s.few, ap length e, points-length l, points-length now, s.same);
    small = s.small;
    same = s.same ∙ c.same;
  }

  pub scanning-rest : {now : List ℤ} {r' : ℕ} → Scanned l r rest now r' → Scanned old k all now r'
  scanning-rest s = record {
    kept = s.kept ∙ c.ahead;
    few = omega (arith, c.few, s.few);
    small = s.small;
    same = s.same ∙ c.same;
  }

  pub scanning-end : rest ≡ [] → Scanned old k all l r
  scanning-end e = record {
    kept = sym (ap (scan (stack (points l) r)) e) ∙ c.ahead;
    few = omega (arith, c.few);
    small = c.small;
    same = c.same;
  }

-- ---- a chain

pub first-scanned : {l now : List ℤ} {p : Point} → 0 < length (points l) → Small (2 ^ 21) p → now ≡ stored l 0 p
    → Scanned l 0 (p ∷ []) now 1
first-scanned room own is =
    settled-scanned {k = 0} {r = 0} room (record { small = λ i h. absurd (omega arith) }) own
    (record { few = omega arith; pushed = refl }) is

pub chained : {half : Bool} {S : List Point} {s t : Point} {old began l : List ℤ} {k r : ℕ} → Scanned old 0 (s ∷ []) began 1
    → Scanned began 1 (in_order half S) l k → Settled (points l) k t r → Chained half S s t old l r
chained {half} {S} {s} {t} first rows last = record {
  closes = ap (λ m. push t (scan m (in_order half S))) (sym first.kept) ∙ ap (push t) (sym rows.kept) ∙ last.pushed;
  few = omega (arith, last.few, rows.few, in_order-length half S);
  same = rows.same ∙ first.same;
}
