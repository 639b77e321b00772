-- Lists that are passed to a question in place of those of a call: both are refused alike, or they are the same.
--     cut-alike       the numbers that are read of bytes; `none_alike`: of bytes that hold no list
--     one-packed      the reply to a question about one list, packed, is that about the other
--     pair-packed     the same of two lists; `pair-reply`, `pair-bytes`: the reply itself, and what becomes of the output bytes
use Rattle.std.specs.Prelude.{◌≡◌, refl, Bool, true, false, cond, ◌||◌, List, [], ◌∷◌, ℕ, ◌+◌, ◌*◌, ◌/◌, ◌%◌, ◌≤◌, eqb, ltb, ℤ}
use Rattle.std.specs.Prelude.{length}
use Rattle.std.proofs.Common.{sym, ◌∙◌, ap, ap₂, subst, arith, ltb-true, ltb-false, lt-ltb, eq-eqb, ne_eqb, eqb-true}
use Rattle.std.proofs.lemmas.Bool.{eqb-false}
use Rattle.plane.specs.Limits.{max_corners}
use Rattle.plane.specs.Point.{points}
use Rattle.plane.specs.Reply.{Row, here, later}
use Rattle.plane.specs.Refusal.{bad_count, too_many, shape_rows}
use Rattle.plane.specs.Floor.{on, one_shape, two_shapes, floor_row, rows_of}
use Rattle.plane.specs.Question.{Question, table, values, reply}
use Rattle.plane.proofs.theory.lists.Flat.{points-length}
use Rattle.plane.proofs.theory.refusals.Accept.{count-good}
use Rattle.endian.specs.Bytes.{words_at}
use Rattle.endian.specs.theory.Bytes.{words_at-length}
use Rattle.wire.specs.Told.{crossed}
use Rattle.bytewise.specs.Bytes.{list_of, bytes_after}
use Rattle.bytewise.specs.Packing.{packed}
use Rattle.bytewise.specs.Passing.{Alike, equal, odd, many, Cut, Packs}
use Rattle.bytewise.specs.theory.Agree.{Agree, both, agree_same, agree-join, agree-map, same-reply, same_bytes}

-- ---- lists that are cut

or-true : (a : Bool) {b : Bool} → b ≡ true → (a || b) ≡ true
or-true true e = refl
or-true false e = e

odd-bad : (l : List ℤ) → length l % 2 ≡ 1 → bad_count l ≡ true
unfolding bad_count
odd-bad l h = or-true (eqb (length l) 0) (eq-eqb (length l % 2) 1 h)

long-many : (l : List ℤ) → 2 + 2 * max_corners ≤ length l → too_many (points l) ≡ true
unfolding too_many
long-many l h = lt-ltb max_corners (length (points l)) (omega (arith, points-length l))

-- two lists that are both too long, their counts both even or both odd
long-alike : (l s : List ℤ) → 2 + 2 * max_corners ≤ length l → 2 + 2 * max_corners ≤ length s → length s % 2 ≡ length l % 2 → Alike l s
long-alike l s h k e = go (eqb (length l % 2) 1) refl
  where
    go : (b : Bool) → eqb (length l % 2) 1 ≡ b → Alike l s
    go true p = let q = eqb-true (length l % 2) 1 p in odd (odd-bad l q) (odd-bad s (e ∙ q))
    go false p =
        let q : length l % 2 ≡ 0 = let r = eqb-false (length l % 2) 1 p in omega arith in
        many (count-good l (omega (arith, points-length l)) q) (count-good s (omega (arith, points-length s)) (e ∙ q))
        (long-many l h) (long-many s k)

pub none_alike : (bs : List ℕ) → (length bs % 4 ≡ 0 → ⊥) → Alike (list_of bs) []
unfolding list_of
none_alike bs h = equal (sym (ap (λ (b : Bool). cond b (words_at (length bs / 4) bs 0) []) (ne_eqb (length bs % 4) 0 h)))

pub cut-alike : (bs : List ℕ) (r : ℕ) → length bs % 4 ≡ 0 → Cut (length bs / 4) r → Alike (list_of bs) (words_at r bs 0)
unfolding list_of
cut-alike bs r h c =
    subst (λ (l : List ℤ). Alike l (words_at r bs 0))
    (sym (ap (λ (b : Bool). cond b (words_at (length bs / 4) bs 0) []) (eq-eqb (length bs % 4) 0 h)))
    (go (ltb r (2 + 2 * max_corners)) refl)
  where
    go : (b : Bool) → ltb r (2 + 2 * max_corners) ≡ b → Alike (words_at (length bs / 4) bs 0) (words_at r bs 0)
    go true e = equal (ap (λ (k : ℕ). words_at k bs 0) (c.whole (ltb-true r (2 + 2 * max_corners) e)))
    go false e =
        let long = ltb-false r (2 + 2 * max_corners) e in
        let n = words_at-length bs (length bs / 4) 0 in
        let m = words_at-length bs r 0 in
        long-alike _ _ (omega (arith, long, c.within, n)) (omega (arith, long, m))
        (ap (λ (k : ℕ). k % 2) m ∙ c.parity ∙ sym (ap (λ (k : ℕ). k % 2) n))

-- ---- one list

alike-rows : (which : ℕ) (l s : List ℤ) → Alike l s → Agree (shape_rows which s) (shape_rows which l) (s ≡ l)
alike-rows which l s (equal e) = agree_same (ap (shape_rows which) e) (λ n. e)
alike-rows which l s (odd h k) = both (here k) (here h) refl refl
alike-rows which l s (many h k p q) = both (later k (here q)) (later h (here p)) refl refl

-- the same of rows that are these
agree_of : {vs vs' ws ws' : List Row} {T : Type 0} → vs ≡ vs' → ws ≡ ws' → Agree vs' ws' T → Agree vs ws T
agree_of {vs} {vs'} {ws} {ws'} {T} e e' a =
    subst (λ (us : List Row). Agree us ws T) (sym e) (subst (λ (us : List Row). Agree vs' us T) (sym e') a)

-- the shapes' rows agree, and where none applies the questions are the same
same-question : {p q : Question} → Agree (rows_of p.shapes) (rows_of q.shapes) (p ≡ q) → Agree (table p) (table q) (p ≡ q)
same-question rows = agree-join rows (λ e. agree_same (ap (λ (x : Question). x.rest) e) (λ n. e))

module _ (f : ℕ) (asks : List ℤ → Question) (one : (l : List ℤ) → (asks l).shapes ≡ one_shape (on l f)) where
  pub one-packed : {l s : List ℤ} → Alike l s → {ns : List ℕ} {n : ℕ} → ns ≡ crossed (reply (asks s)) → Packs ns n
      → n ≡ packed (reply (asks l))
  one-packed {l} {s} u e p = p (reply (asks s)) e ∙ ap packed (same-reply _ _ (same-question rows) (λ same. ap values same))
    where
      rows : Agree (rows_of (asks s).shapes) (rows_of (asks l).shapes) (asks s ≡ asks l)
      rows = agree_of (ap rows_of (one s)) (ap rows_of (one l)) (agree-map (λ same. ap asks same) (alike-rows 1 l s u))

-- ---- two lists

module _ (f g : ℕ) (asks : List ℤ → List ℤ → Question) (two : (l m : List ℤ) → (asks l m).shapes ≡ two_shapes (on l f) (on m g))
    {l s m t : List ℤ} (u : Alike l s) (v : Alike m t) where
  pair-rows : Agree (rows_of (asks s t).shapes) (rows_of (asks l m).shapes) (asks s t ≡ asks l m)
  pair-rows = agree_of (ap rows_of (two s t)) (ap rows_of (two l m))
      (agree-join (alike-rows 1 l s u) (λ e. agree-join (alike-rows 2 m t v) (λ e'.
      agree_same {vs = floor_row f g ∷ []} refl (λ n. ap₂ asks e e'))))

  pub pair-reply : reply (asks s t) ≡ reply (asks l m)
  pair-reply = same-reply _ _ (same-question pair-rows) (λ e. ap values e)

  pub pair-bytes : (out : List ℕ) → bytes_after (asks s t) out ≡ bytes_after (asks l m) out
  pair-bytes out = same_bytes _ _ out (same-question pair-rows) (λ e. ap (λ (x : Question). x.shape) e)

  pub pair-packed : {ns : List ℕ} {n : ℕ} → ns ≡ crossed (reply (asks s t)) → Packs ns n → n ≡ packed (reply (asks l m))
  pair-packed e p = p (reply (asks s t)) e ∙ ap packed pair-reply
