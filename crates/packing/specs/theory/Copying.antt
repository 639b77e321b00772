-- Bytes stored where they differ, in parts, as far as stores are allowed.
--     copied_none, copied-append        no bytes; some bytes after others
--     copied-same, copied-made, copied-past    one byte: equal; stored; needed, and past the allowance
--     copied-length, copied-few         the run stays as long as it is; as many stores as bytes are needed at most
--     copied-rest                       what comes after the bytes stays
--     copied_more, copied-zero          the moves of the two loops: one byte more
use Rattle.std.specs.Prelude.{◌≡◌, Bool, cond, List, [], ◌∷◌, ◌++◌, ℕ, zero, suc, ◌+◌, ◌-◌, ◌≤◌, ◌<◌, length, get_or, take, drop, set}
use Rattle.std.specs.Prelude.{replicate}
use Rattle.std.proofs.Common.{sym, ◌∙◌, ap, ap₂, subst, append-nil, not-suc-le-zero, arith, eq-eqb, ne_eqb, length-append, length-drop}
use Rattle.std.proofs.Common.{take-suc, drop-cons, drop-drop, length-take-le}
use Rattle.std.proofs.lemmas.List.{length-replicate, replicate-append-replicate}
use Rattle.std.proofs.Math.Seq.{take-nil}
use Rattle.journal.specs.Adding.{Store, store, made}
use Rattle.journal.proofs.theory.Stores.{made-append}
use Rattle.journal.proofs.theory.Storing.{take-append, made-length}
use Rattle.packing.specs.Packing.{mending, mends}
use Rattle.packing.specs.Copying.{Copied}
use Rattle.packing.specs.theory.Mends.{mends-empty, mends-append, mends-fewer, mends-rest}

-- ---- one byte

module _ (k m : ℕ) (b : List ℕ) (q x : ℕ) (h : q < length b) where
  one : mends q (drop q b) (x ∷ []) ≡ mending q (get_or b q 0) x
  one =
      ap (λ (t : List ℕ). mends q t (x ∷ [])) (drop-cons b q 0 h)
      ∙ ap (λ (ss : List Store). mending q (get_or b q 0) x ++ ss) (mends-empty (1 + q) (drop (suc q) b))
      ∙ append-nil (mending q (get_or b q 0) x)

  none : get_or b q 0 ≡ x → mends q (drop q b) (x ∷ []) ≡ []
  none e = one ∙ ap (λ (t : Bool). cond t [] (store q x ∷ [])) (eq-eqb (get_or b q 0) x e)

  some : (get_or b q 0 ≡ x → ⊥) → mends q (drop q b) (x ∷ []) ≡ store q x ∷ []
  some d = one ∙ ap (λ (t : Bool). cond t [] (store q x ∷ [])) (ne_eqb (get_or b q 0) x d)

  pub copied-same : get_or b q 0 ≡ x → Copied k m b q (x ∷ []) m b
  copied-same e = record {
    need-is = omega (arith, ap length (none e));
    run_is = sym (ap (λ (ss : List Store). made (take (k - m) ss) b) (none e) ∙ ap (λ (ss : List Store). made ss b) (take-nil (k - m)));
  }

  module _ (d : get_or b q 0 ≡ x → ⊥) where
    count : m + 1 ≡ m + length (mends q (drop q b) (x ∷ []))
    count = omega (arith, ap length (some d))

    pub copied-made : m < k → Copied k m b q (x ∷ []) (m + 1) (set b q x)
    copied-made l = record {
      need-is = count;
      run_is = sym (ap (λ (ss : List Store). made (take (k - m) ss) b) (some d) ∙ stored (k - m) (omega (arith, l)));
    }
      where
        stored : (j : ℕ) → 0 < j → made (take j (store q x ∷ [])) b ≡ set b q x
        stored zero l = absurd (not-suc-le-zero l)
        stored (suc j) l = ap (λ (ss : List Store). made ss (set b q x)) (take-nil j)

    pub copied-past : k ≤ m → Copied k m b q (x ∷ []) (m + 1) b
    copied-past l = record {
      need-is = count;
      run_is = sym (ap (λ (j : ℕ). made (take j (mends q (drop q b) (x ∷ []))) b) (let e : k - m ≡ 0 = omega (arith, l) in e));
    }

-- ---- parts

pub copied_none : (k m : ℕ) (b : List ℕ) (q : ℕ) → Copied k m b q [] m b
copied_none k m b q = record {
  need-is = omega (arith, ap length (mends-empty q (drop q b)));
  run_is =
      sym (ap (λ (ss : List Store). made (take (k - m) ss) b) (mends-empty q (drop q b))
      ∙ ap (λ (ss : List Store). made ss b) (take-nil (k - m)));
}

module _ {k m : ℕ} {b : List ℕ} {q : ℕ} {u : List ℕ} {n : ℕ} {c : List ℕ} (f : Copied k m b q u n c) where
  pub copied-length : length c ≡ length b
  copied-length = ap length f.run_is ∙ made-length (take (k - m) (mends q (drop q b) u)) b

  pub copied-few : n ≤ m + length u
  copied-few = omega (arith, f.need-is, mends-fewer q (drop q b) u)

  pub copied-rest : q ≤ length b → drop (q + length u) c ≡ drop (q + length u) b
  copied-rest h = ap (drop (q + length u)) f.run_is ∙ mends-rest b q u (k - m) h

  pub copied-append : {v : List ℕ} {o : ℕ} {d : List ℕ} → q + length u ≤ length b → Copied k n c (q + length u) v o d
      → Copied k m b q (u ++ v) o d
  copied-append {v} {o} {d} h g =
      let ss = mends q (drop q b) u in
      let ts = mends (q + length u) (drop (q + length u) c) v in
      let same : ts ≡ mends (q + length u) (drop (length u) (drop q b)) v =
      ap (λ (t : List ℕ). mends (q + length u) t v) (copied-rest (omega (arith, h)) ∙ sym (drop-drop (length u) q b)) in
      let all : mends q (drop q b) (u ++ v) ≡ ss ++ ts =
      mends-append q (drop q b) u v (omega (arith, h, length-drop q b)) ∙ ap (λ (us : List Store). ss ++ us) (sym same) in
      let left : k - n ≡ (k - m) - length ss = omega (arith, f.need-is) in record {
        need-is = omega (arith, f.need-is, g.need-is, ap length all, length-append ss ts);
        run_is =
            g.run_is ∙ ap₂ (λ (i : ℕ) (x : List ℕ). made (take i ts) x) left f.run_is
            ∙ sym (made-append (take (k - m) ss) (take ((k - m) - length ss) ts) b)
            ∙ ap (λ (us : List Store). made us b) (sym (take-append (k - m) ss ts) ∙ ap (take (k - m)) (sym all));
      }

-- the byte that comes next of s
pub copied_more : {k m : ℕ} {b : List ℕ} {q n : ℕ} {c : List ℕ} {o : ℕ} {d : List ℕ} (s : List ℕ) (i : ℕ) {x : ℕ}
    → Copied k m b q (take i s) n c → i < length s → q + i ≤ length b → x ≡ get_or s i 0 → Copied k n c (q + i) (x ∷ []) o d
    → Copied k m b q (take (i + 1) s) o d
copied_more {k} {m} {b} {q} {n} {c} {o} {d} s i {x} f l h e g =
    let count = length-take-le i s (omega (arith, l)) in
    let place : q + i ≡ q + length (take i s) = omega (arith, count) in
    let next : take i s ++ (x ∷ []) ≡ take (i + 1) s =
    ap (λ (y : ℕ). take i s ++ (y ∷ [])) e ∙ sym (take-suc s i 0 l) ∙ ap (λ (j : ℕ). take j s) (let z : suc i ≡ i + 1 = omega arith in z) in
    subst (λ (t : List ℕ). Copied k m b q t o d) next
    (copied-append f (omega (arith, h, count)) (subst (λ (j : ℕ). Copied k n c j (x ∷ []) o d) place g))

-- one zero more
pub copied-zero : {k m : ℕ} {b : List ℕ} {q n : ℕ} {c : List ℕ} {o : ℕ} {d : List ℕ} (i : ℕ)
    → Copied k m b q (replicate (i - q) 0) n c → q ≤ i → i ≤ length b → Copied k n c i (0 ∷ []) o d
    → Copied k m b q (replicate (i + 1 - q) 0) o d
copied-zero {k} {m} {b} {q} {n} {c} {o} {d} i f l h g =
    let count = length-replicate {A = ℕ} (i - q) 0 in
    let place : i ≡ q + length {A = ℕ} (replicate (i - q) 0) = omega (arith, count, l) in
    let next : ◌++◌ {A = ℕ} (replicate (i - q) 0) (0 ∷ []) ≡ replicate (i + 1 - q) 0 =
    replicate-append-replicate (i - q) 1 0 ∙ ap (λ (j : ℕ). replicate j 0) (let z : i - q + 1 ≡ i + 1 - q = omega (arith, l) in z) in
    subst (λ (t : List ℕ). Copied k m b q t o d) next
    (copied-append f (omega (arith, h, count)) (subst (λ (j : ℕ). Copied k n c j (0 ∷ []) o d) place g))
