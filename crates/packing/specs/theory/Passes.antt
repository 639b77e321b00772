-- The two passes over the old log: one that counts the packed bytes, one that stores them.
--     Measured b but p n                 up to place p of b, n bytes are kept
--     measured-start, -kept, -skipped, -end    the moves of the pass
--     Packs k b t but p q n c            up to place p of b, the bytes before place q of the new run t are done
--     packs-start, -skip, -copy, -end    the moves of the pass
use Rattle.std.specs.Prelude.{◌≡◌, Bool, true, false, not, cond, ◌&&◌}
use Rattle.std.proofs.Math.Path.{refl, ap, subst}
use Rattle.std.proofs.Common.{sym, ◌∙◌, length-append, take-add, take_at, drop_at, drop-drop, length-take-le}
use Rattle.std.proofs.Math.Bool.{and-false}
use mathlib.Core.List.{List, [], ◌∷◌, ◌++◌, append_assoc}
use Prim.Native.Nat.{ℕ, ◌+◌, ◌-◌, ◌≤◌}
use native.Mathlib.Omega.{arith}
use Rattle.std.proofs.Math.Dec.{leb}
use Rattle.std.proofs.Math.ListN.{length, take, drop, replicate, length-drop, length-replicate, take-append-drop}
use Rattle.journal.specs.Format.{size, whole, records, name}
use Rattle.journal.specs.Reading.{damaged, held}
use Rattle.journal.specs.Current.{current, keep, is_other}
use Rattle.journal.specs.Adding.{joined, made}
use Rattle.journal.specs.Survey.{record_at, next_at, Reached}
use Rattle.journal.proofs.theory.Records.{whole→facts}
use Rattle.journal.proofs.theory.Stepping.{records-step, records-end, reached-start, reached-next}
use Rattle.packing.specs.Packing.{packed, wanted, mends, mends_all}
use Rattle.packing.specs.Copying.{is_kept, Copied}
use Rattle.packing.specs.theory.Packed.{packed-le, wanted-length}
use Rattle.packing.specs.theory.Copying.{copied_none, copied-append, copied-few, copied-length}

-- ---- one record

module _ (b : List ℕ) (p but : ℕ) where
  abbrev kept : Bool
  kept = is_kept but (record_at b p) (records (drop (next_at b p) b))

  abbrev later : List ℕ
  later = packed (drop (next_at b p) b) but

  pub packed-end : whole (drop p b) ≡ false → packed (drop p b) but ≡ []
  unfolding packed
  packed-end w = ap (λ (rs : List (List ℕ)). joined (keep (is_other but) (current rs))) (records-end b p w)

  module _ (w : whole (drop p b) ≡ true) where
    pub record-length : length (record_at b p) ≡ 2 + size (drop p b)
    record-length = length-take-le (2 + size (drop p b)) (drop p b) (whole→facts (drop p b) w).fits

    packed_step : packed (drop p b) but ≡ cond kept (record_at b p ++ later) later
    unfolding packed
    packed_step =
        ap (λ (rs : List (List ℕ)). joined (keep (is_other but) (current rs))) (records-step b p w)
        ∙ go (held (name (record_at b p)) (records (drop (next_at b p) b))) (is_other but (record_at b p)) refl
      where
        r : List ℕ
        r = record_at b p

        rs : List (List ℕ)
        rs = records (drop (next_at b p) b)

        rest : List ℕ
        rest = joined (keep (is_other but) (current rs))

        pick : (s : Bool) → joined (cond s (r ∷ keep (is_other but) (current rs)) (keep (is_other but) (current rs)))
            ≡ cond s (r ++ rest) rest
        pick true = refl
        pick false = refl

        go : (h o : Bool) → is_other but r ≡ o
            → joined (keep (is_other but) (cond h (current rs) (r ∷ current rs))) ≡ cond (o && not h) (r ++ rest) rest
        go true o e = sym (ap (λ (s : Bool). cond s (r ++ rest) rest) (and-false o))
        go false true e = pick (is_other but r) ∙ ap (λ (s : Bool). cond s (r ++ rest) rest) e
        go false false e = pick (is_other but r) ∙ ap (λ (s : Bool). cond s (r ++ rest) rest) e

    pub packed-kept : kept ≡ true → packed (drop p b) but ≡ record_at b p ++ later
    packed-kept k = packed_step ∙ ap (λ (s : Bool). cond s (record_at b p ++ later) later) k

    pub packed-skipped : kept ≡ false → packed (drop p b) but ≡ later
    packed-skipped k = packed_step ∙ ap (λ (s : Bool). cond s (record_at b p ++ later) later) k

-- ---- counting

pub record Measured (b : List ℕ) (but p n : ℕ) : Type 0 where
  pub reached : Reached b p
  pub still : length (packed b but) ≡ n + length (packed (drop p b) but)

pub measured-start : (b : List ℕ) (but : ℕ) → damaged (records b) ≡ false → Measured b but 0 0
measured-start b but g = record {
  reached = reached-start b g;
  still = let e : length (packed b but) ≡ 0 + length (packed b but) = omega arith in e;
}

module _ {b : List ℕ} {but p n : ℕ} (f : Measured b but p n) where
  pub measured-end : whole (drop p b) ≡ false → n ≡ length (packed b but)
  measured-end w = omega (arith, f.still, ap length (packed-end b p but w))

  module _ (w : whole (drop p b) ≡ true) where
    pub measured-kept : {q : ℕ} → q ≡ next_at b p → kept b p but ≡ true → Measured b but q (n + (q - p))
    measured-kept {q} e k = subst (λ (i : ℕ). Measured b but i (n + (i - p))) (sym e) (record {
      reached = reached-next f.reached w;
      still =
          omega (
            arith,
            f.still,
            ap length (packed-kept b p but w k),
            length-append (record_at b p) (later b p but),
            record-length b p but w,
          );
    })

    pub measured-skipped : {q : ℕ} → q ≡ next_at b p → kept b p but ≡ false → Measured b but q n
    measured-skipped {q} e k = subst (λ (i : ℕ). Measured b but i n) (sym e) (record {
      reached = reached-next f.reached w;
      still = omega (arith, f.still, ap length (packed-skipped b p but w k));
    })

    -- the count stays below the log's length
    pub measured-fits : {q : ℕ} → q ≡ next_at b p → kept b p but ≡ true → n + (q - p) ≤ length b
    measured-fits e k = omega (arith, (measured-kept e k).still, packed-le b but)

-- ---- storing

-- the zeros after the packed log
abbrev zeros : List ℕ → ℕ → ℕ → List ℕ
zeros b but m = replicate (m - length (packed b but)) 0

pub record Packs (k : ℕ) (b t : List ℕ) (but p q n : ℕ) (c : List ℕ) : Type 0 where
  pub reached : Reached b p
  pub room : length (packed b but) ≤ length t
  pub fits : q ≤ length t
  pub still : drop q (wanted b but (length t)) ≡ packed (drop p b) but ++ zeros b but (length t)
  pub done : Copied k 0 t 0 (take q (wanted b but (length t))) n c

pub packs-start : (k : ℕ) (b t : List ℕ) (but : ℕ) → damaged (records b) ≡ false → length (packed b but) ≤ length t
    → Packs k b t but 0 0 0 t
unfolding wanted
packs-start k b t but g r = record {
  reached = reached-start b g;
  room = r;
  fits = omega arith;
  still = refl;
  done = copied_none k 0 t 0;
}

module _ {k : ℕ} {b t : List ℕ} {but p q n : ℕ} {c : List ℕ} (f : Packs k b t but p q n c) where
  abbrev w : List ℕ
  w = wanted b but (length t)

  wanted-count : length w ≡ length t
  wanted-count = wanted-length b but (length t) f.room

  done-count : length (take q w) ≡ q
  done-count = length-take-le q w (omega (arith, wanted-count, f.fits))

  pub packs-length : length c ≡ length t
  packs-length = copied-length f.done

  pub packs-few : n ≤ q
  packs-few = omega (arith, copied-few f.done, done-count)

  module _ (Whole-here : whole (drop p b) ≡ true) where
    pub packs-skip : kept b p but ≡ false → Packs k b t but (next_at b p) q n c
    packs-skip e = record {
      reached = reached-next f.reached Whole-here;
      room = f.room;
      fits = f.fits;
      still = f.still ∙ ap (λ (s : List ℕ). s ++ zeros b but (length t)) (packed-skipped b p but Whole-here e);
      done = f.done;
    }

    module _ (e : kept b p but ≡ true) where
      abbrev r : List ℕ
      r = record_at b p

      count : length r ≡ 2 + size (drop p b)
      count = record-length b p but Whole-here

      next : drop q w ≡ r ++ (later b p but ++ zeros b but (length t))
      next =
          f.still ∙ ap (λ (s : List ℕ). s ++ zeros b but (length t)) (packed-kept b p but Whole-here e)
          ∙ append_assoc r (later b p but) (zeros b but (length t))

      -- the record has room
      pub packs-room : q + (2 + size (drop p b)) ≤ length t
      packs-room =
          omega (
            arith,
            ap length next,
            length-append r (later b p but ++ zeros b but (length t)),
            length-drop q w,
            wanted-count,
            f.fits,
            count,
          )

      copied_next : {o : ℕ} {d : List ℕ} → Copied k n c q r o d → Packs k b t but (next_at b p) (q + (2 + size (drop p b))) o d
      copied_next {o} {d} g =
          let m = 2 + size (drop p b) in
          let front : take q w ++ r ≡ take (q + m) w =
          ap (λ (s : List ℕ). take q w ++ s)
          (sym (take_at r (later b p but ++ zeros b but (length t)) m count) ∙ ap (take m) (sym next)) ∙ sym (take-add q m w) in
          let place : q ≡ 0 + length (take q w) = omega (arith, done-count) in record {
            reached = reached-next f.reached Whole-here;
            room = f.room;
            fits = packs-room;
            still =
                sym (drop-drop m q w) ∙ ap (drop m) next ∙ drop_at r (later b p but ++ zeros b but (length t)) m count;
            done =
                subst (λ (s : List ℕ). Copied k 0 t 0 s o d) front
                (copied-append f.done (omega (arith, place, f.fits)) (subst (λ (i : ℕ). Copied k n c i r o d) place g));
          }

      pub packs-copy : {m o : ℕ} {d : List ℕ} → m ≡ next_at b p → Copied k n c q (take (m - p) (drop p b)) o d
          → Packs k b t but m (q + (m - p)) o d
      packs-copy {m} {o} {d} next-is g =
          let same : m - p ≡ 2 + size (drop p b) = omega (arith, next-is) in
          subst (λ (i : ℕ). Packs k b t but m (q + i) o d) (sym same)
          (subst (λ (i : ℕ). Packs k b t but i (q + (2 + size (drop p b))) o d) (sym next-is)
          (copied_next (subst (λ (i : ℕ). Copied k n c q (take i (drop p b)) o d) same g)))

  pub packs-end : whole (drop p b) ≡ false → {o : ℕ} {d : List ℕ} → Copied k n c q (replicate (length c - q) 0) o d
      → (leb o k ≡ leb (length (mends_all b but t)) k) × (d ≡ made (take k (mends_all b but t)) t)
  unfolding mends_all
  packs-end e {o} {d} g =
      let rest : drop q w ≡ zeros b but (length t) = f.still ∙ ap (λ (s : List ℕ). s ++ zeros b but (length t)) (packed-end b p but e) in
      let left : length c - q ≡ length t - length (packed b but) =
      omega (
        arith,
        ap length rest,
        length-drop q w,
        wanted-count,
        packs-length,
        length-replicate {A = ℕ} (length t - length (packed b but)) 0,
      ) in
      let front : take q w ++ replicate (length c - q) 0 ≡ w =
      ap (λ (i : ℕ). take q w ++ replicate i 0) left ∙ ap (λ (s : List ℕ). take q w ++ s) (sym rest) ∙ take-append-drop q w in
      let place : q ≡ 0 + length (take q w) = omega (arith, done-count) in
      let all : Copied k 0 t 0 w o d =
      subst (λ (s : List ℕ). Copied k 0 t 0 s o d) front
      (copied-append f.done (omega (arith, place, f.fits))
      (subst (λ (i : ℕ). Copied k n c i (replicate (length c - q) 0) o d) place g)) in (
        ap (λ (i : ℕ). leb i k) (let z : o ≡ length (mends 0 t w) = omega (arith, all.need-is) in z),
        all.run_is ∙ ap (λ (i : ℕ). made (take i (mends 0 t w)) t) (let z : k - 0 ≡ k = omega arith in z),
      )
