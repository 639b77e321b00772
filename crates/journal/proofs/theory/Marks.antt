-- A table of where names come last, filled in one pass and used in another.
--     Marking b t u p                  the table u is t after the records up to place p of b
--     marking-start, -next, -end       the moves of the pass that fills it
--     marked_empty                     a table without places says nothing
--     marked_next                      what it says of the records from the next place on
--     marked-none                      a record at its place, or after it, is the last of its name
--     marked-held                      a record before its place is not, if it has the name of the record there
use Rattle.std.specs.Prelude.{◌≡◌, refl, Bool, true, false, cond, ◌||◌, List, [], ◌∷◌, ℕ, zero, suc, ◌+◌, ◌%◌, ◌≤◌, ◌<◌, eqb, length}
use Rattle.std.specs.Prelude.{get_or, set, drop}
use Rattle.std.proofs.Common.{sym, ◌∙◌, ap, ap₂, subst, not-suc-le-zero, arith, eqb-true, eq-eqb, ne_eqb, length-set, get_or-set_same}
use Rattle.std.proofs.Common.{get_or-set_other}
use Rattle.std.proofs.Math.Bool.{or-true}
use Rattle.std.proofs.lemmas.Bool.{eqb-false}
use Rattle.journal.specs.Format.{size, whole, records, name}
use Rattle.journal.specs.Reading.{damaged, held}
use Rattle.journal.specs.Survey.{record_at, next_at, Sound, Reached}
use Rattle.journal.specs.Marks.{last_place, Marked}
use Rattle.journal.proofs.theory.Read.{size-front}
use Rattle.journal.proofs.theory.Stepping.{records-step, records-end, sound-next, reached-start, reached-sound, reached-next}

-- ---- the last place

module _ (h : ℕ) where
  -- what is left to say after the record at p
  last_step : (b : List ℕ) (p d : ℕ) → whole (drop p b) ≡ true
      → last_place h (records (drop p b)) p d
      ≡ last_place h (records (drop (next_at b p) b)) (next_at b p) (cond (eqb (name (record_at b p) % 1024) h) p d)
  last_step b p d w =
      ap (λ (rs : List (List ℕ)). last_place h rs p d) (records-step b p w)
      ∙ ap (λ (n : ℕ). last_place h (records (drop (next_at b p) b)) (p + (2 + n)) (cond (eqb (name (record_at b p) % 1024) h) p d))
      (size-front (drop p b))

  last-least : (rs : List (List ℕ)) (p d : ℕ) → d ≤ p → d ≤ last_place h rs p d
  last-least [] p d l = omega arith
  last-least (r ∷ rs) p d l = go (eqb (name r % 1024) h) (last-least rs (p + (2 + size r)))
    where
      go : (t : Bool) → ((e : ℕ) → e ≤ p + (2 + size r) → e ≤ last_place h rs (p + (2 + size r)) e)
          → d ≤ last_place h rs (p + (2 + size r)) (cond t p d)
      go true ih = omega (arith, ih p (omega arith), l)
      go false ih = ih d (omega (arith, l))

-- a place before the first of the records says that none of them has the name
last_none : (n : ℕ) (rs : List (List ℕ)) (p d : ℕ) → last_place (n % 1024) rs p d < p → held n rs ≡ false
last_none n [] p d l = refl
last_none n (r ∷ rs) p d l = go (eqb (name r % 1024) (n % 1024)) refl l (last_none n rs (p + (2 + size r)))
  where
    go : (t : Bool) → eqb (name r % 1024) (n % 1024) ≡ t → last_place (n % 1024) rs (p + (2 + size r)) (cond t p d) < p
        → ((e : ℕ) → last_place (n % 1024) rs (p + (2 + size r)) e < p + (2 + size r) → held n rs ≡ false)
        → (eqb (name r) n || held n rs) ≡ false
    go true e m ih = absurd (omega (arith, m, last-least (n % 1024) rs (p + (2 + size r)) p (omega arith)))
    go false e m ih =
        ap₂ (λ (x y : Bool). x || y) (ne_eqb (name r) n (λ same. eqb-false _ _ e (ap (λ (k : ℕ). k % 1024) same)))
        (ih d (omega (arith, m)))

-- ---- filling the table

pub record Marking (b t u : List ℕ) (p : ℕ) : Type 0 where
  pub reached : Reached b p
  pub count : length u ≡ 1024
  pub still : (h : ℕ) → last_place h (records b) 0 (get_or t h 0) ≡ last_place h (records (drop p b)) p (get_or u h 0)

pub marking-start : (b t : List ℕ) → damaged (records b) ≡ false → length t ≡ 1024 → Marking b t t 0
marking-start b t g l = record { reached = reached-start b g; count = l; still = λ h. refl }

module _ {b t u : List ℕ} {p : ℕ} (f : Marking b t u p) where
  pub marking-next : whole (drop p b) ≡ true → {n : ℕ} → name (record_at b p) ≡ n → Marking b t (set u (n % 1024) p) (next_at b p)
  marking-next w {n} e = record {
    reached = reached-next f.reached w;
    count = length-set u (n % 1024) p ∙ f.count;
    still = λ h.
        f.still h ∙ last_step h b p (get_or u h 0) w
        ∙ ap (last_place h (records (drop (next_at b p) b)) (next_at b p))
        (ap (λ (m : ℕ). cond (eqb (m % 1024) h) p (get_or u h 0)) e ∙ cell h (eqb (n % 1024) h) refl);
  }
    where
      cell : (h : ℕ) (x : Bool) → eqb (n % 1024) h ≡ x → cond x p (get_or u h 0) ≡ get_or (set u (n % 1024) p) h 0
      cell h true q =
          sym (ap (λ (i : ℕ). get_or (set u (n % 1024) p) i 0) (sym (eqb-true _ _ q))
          ∙ get_or-set_same u (n % 1024) p 0 (omega (arith, f.count)))
      cell h false q = sym (get_or-set_other u (n % 1024) h p 0 (λ same. eqb-false _ _ q (sym same)))

  pub marking-end : whole (drop p b) ≡ false → Marked b u 0
  marking-end w h l = record {
    before = get_or t h 0;
    is = sym (f.still h ∙ ap (λ (rs : List (List ℕ)). last_place h rs p (get_or u h 0)) (records-end b p w));
  }

-- ---- using it

-- a table without places
pub marked_empty : (b : List ℕ) (p : ℕ) → Marked b [] p
marked_empty b p h l = absurd (not-suc-le-zero l)

-- the place is that of a record from p on
pub record Later (b : List ℕ) (p last : ℕ) : Type 0 where
  pub sound : Sound b last
  pub has : held (name (record_at b last)) (records (drop p b)) ≡ true

module _ (b : List ℕ) (h p q : ℕ) where
  abbrev last_from : ℕ → ℕ → ℕ
  last_from i d = last_place h (records (drop i b)) i d

  -- every record from i on is one from q on
  abbrev Within : ℕ → Type 0
  Within i = (n : ℕ) → held n (records (drop i b)) ≡ true → held n (records (drop q b)) ≡ true

  module _ {i : ℕ} (w : whole (drop i b) ≡ true) (r : Reached b i) (up : Within i) where
    within-next : Within (next_at b i)
    within-next n x =
        up n (ap (held n) (records-step b i w) ∙ ap (λ (y : Bool). eqb (name (record_at b i)) n || y) x
        ∙ or-true (eqb (name (record_at b i)) n))

    later-here : Later b q i
    later-here = let n = name (record_at b i) in record {
      sound = reached-sound r w;
      has =
          up n (ap (held n) (records-step b i w)
          ∙ ap (λ (y : Bool). y || held n (records (drop (next_at b i) b))) (eq-eqb n n refl));
    }

    later-either : {d : ℕ} (x : Bool) → (p < d → Later b q d) → p < cond x i d → Later b q (cond x i d)
    later-either true own far = later-here
    later-either false own far = own far

  last-ended : (i d : ℕ) → whole (drop i b) ≡ false → last_from i d ≡ d
  last-ended i d w = ap (λ (rs : List (List ℕ)). last_place h rs i d) (records-end b i w)

  -- the last place is d or that of a record
  last-later : (k i d : ℕ) → length (records (drop i b)) ≤ k → Reached b i → Within i → (p < d → Later b q d)
      → p < last_from i d → Later b q (last_from i d)
  last-later zero i d l r up own far = go (whole (drop i b)) refl
    where
      go : (x : Bool) → whole (drop i b) ≡ x → Later b q (last_from i d)
      go true w = absurd (omega (arith, l, ap length (records-step b i w)))
      go false w = subst (Later b q) (sym (last-ended i d w)) (own (omega (arith, far, last-ended i d w)))
  last-later (suc k) i d l r up own far = go (whole (drop i b)) refl (last-later k (next_at b i))
    where
      go : (x : Bool) → whole (drop i b) ≡ x
          → ((e : ℕ) → length (records (drop (next_at b i) b)) ≤ k → Reached b (next_at b i) → Within (next_at b i) → (p < e → Later b q e)
          → p < last_from (next_at b i) e → Later b q (last_from (next_at b i) e))
          → Later b q (last_from i d)
      go true w ih =
          let step = last_step h b i d w in
          subst (Later b q) (sym step)
          (ih _ (omega (arith, l, ap length (records-step b i w))) (reached-next r w) (within-next w r up)
          (later-either w r up (eqb (name (record_at b i) % 1024) h) own) (omega (arith, far, step)))
      go false w ih = subst (Later b q) (sym (last-ended i d w)) (own (omega (arith, far, last-ended i d w)))

module _ {b t : List ℕ} {p : ℕ} (m : Marked b t p) where
  pub marked_next : whole (drop p b) ≡ true → Marked b t (next_at b p)
  marked_next w h l = record {
    before = cond (eqb (name (record_at b p) % 1024) h) p (m h l).before;
    is = (m h l).is ∙ last_step h b p (m h l).before w;
  }

  module _ (s : Sound b p) {n : ℕ} (e : name (record_at b p) ≡ n) (l : n % 1024 < length t) where
    abbrev rest : List (List ℕ)
    rest = records (drop (next_at b p) b)

    abbrev last : ℕ
    last = get_or t (n % 1024) 0

    last-here : last ≡ last_place (n % 1024) rest (next_at b p) p
    last-here =
        (m (n % 1024) l).is ∙ last_step (n % 1024) b p (m (n % 1024) l).before s.here
        ∙ ap (λ (x : Bool). last_place (n % 1024) rest (next_at b p) (cond x p (m (n % 1024) l).before))
        (eq-eqb _ _ (ap (λ (k : ℕ). k % 1024) e))

    pub marked-none : last ≤ p → held n rest ≡ false
    marked-none le = last_none n rest (next_at b p) p (omega (arith, last-here, le))

    pub marked-held : p < last → Later b (next_at b p) last
    marked-held lt =
        subst (Later b (next_at b p)) (sym last-here)
        (last-later b (n % 1024) p (next_at b p) (length rest) (next_at b p) p (omega arith)
        (sound-next s) (λ k x. x) (λ z. absurd (omega (arith, z)))
        (omega (arith, last-here, lt)))
