-- The nearest shape of a log, and what additions do to it.
--     nearest-is, nearest-only      there is one, if there is a record around; and only one
--     nearest-answered              it is answered; `nobody-refused`: else 20
--     keep-first                    leaving out others keeps the first of the least; `snoc-first`: one more at the end
--     finished-nearest              a finished addition; `same-records`: logs with the same records answer alike
--     after-nearest                 a history
use Rattle.std.specs.Prelude.{◌≡◌, refl, Bool, cond, ◌&&◌, ◌⊎◌, ℕ, ◌<◌, eqb, ltb, ℤ, pos, length}
use Rattle.std.proofs.Common.{sym, ◌∙◌, subst, true≢false, inl, inr, arith, le-ltb, ne_eqb}
use Rattle.std.proofs.Math.Path.{ap}
use Rattle.std.proofs.Math.Bool.{true, false, not}
use mathlib.Core.List.{List, [], ◌∷◌, ◌++◌, append_assoc}
use mathlib.Core.List.Memᴰ
use mathlib.Core.List.{Memᴰ}
use Rattle.plane.specs.Point.{Point, points}
use Rattle.plane.specs.Shape.{IsShape}
use Rattle.plane.specs.Refusal.{Valid}
use Rattle.plane.specs.Clearance.{clearance_numbers}
use Rattle.plane.specs.Distance.{no_more, distance}
use Rattle.plane.specs.Reply.{answered, refused, row, here, later}
use Rattle.plane.specs.Floor.{on, corners, one_shape}
use Rattle.plane.specs.Question.{reply, asks}
use Rattle.plane.proofs.theory.refusals.Asked.{asked-none, asked-given, rest-none, rest-given}
use Rattle.journal.specs.Format.{recorded, records, name}
use Rattle.journal.specs.Reading.{damaged, bad_place}
use Rattle.journal.specs.Current.{keep, is_other, around, too_few_row}
use Rattle.journal.specs.Adding.{added}
use Rattle.journal.specs.History.{Addition, step, after, is_finished}
use Rattle.journal.proofs.theory.Read.{recorded-content}
use Rattle.journal.proofs.theory.Added.{finished-accepted, unfinished-seen}
use Rattle.journal.proofs.theory.Current.{keep_append, finished-around}
use Rattle.neighbours.specs.Nearest.{shape_of, is_as_near, nearest_of, nearest_numbers, ask_nearest}
use Rattle.neighbours.specs.Settled.{FirstLeast, IsNearest, told, is_closer, Quiet}
use Rattle.neighbours.specs.theory.Least.{All, all_in, least_of-only}
use Rattle.neighbours.specs.theory.Near.{Whole, near-refl, near-total, near-trans, nearest-first, keep_all, around-whole}

-- ---- lists

append-none : {X : Type 0} (xs : List X) → xs ++ [] ≡ xs
append-none [] = refl
append-none {X} (x ∷ xs) = ap (λ (ys : List X). x ∷ ys) (append-none xs)

keep-member : {X : Type 0} (p : X → Bool) (xs : List X) {y : X} → Memᴰ y (keep p xs) → Memᴰ y xs
keep-member p [] m = m
keep-member {X} p (x ∷ xs) {y} m = go (p x) m (λ k. keep-member p xs k)
  where
    go : (t : Bool) → Memᴰ y (cond t (x ∷ keep p xs) (keep p xs)) → (Memᴰ y (keep p xs) → Memᴰ y xs) → Memᴰ y (x ∷ xs)
    go true (Memᴰ.head e) ih = Memᴰ.head e
    go true (Memᴰ.tail k) ih = Memᴰ.tail (ih k)
    go false k ih = Memᴰ.tail (ih k)

-- those that are left out are not the first of the least
pub keep-first : {X : Type 0} (le : X → X → Bool) (p : X → Bool) (xs : List X) (w : X) → FirstLeast le xs w → p w ≡ true
    → FirstLeast le (keep p xs) w
keep-first {X} le p xs w f k = record {
  before = keep p f.before;
  after = keep p f.after;
  is = ap (keep p) f.is ∙ keep_append p f.before (w ∷ f.after)
      ∙ ap (λ (t : Bool). keep p f.before ++ cond t (w ∷ keep p f.after) (keep p f.after)) k;
  none-less = λ y m. f.none-less y (keep-member p xs m);
  earlier_more = λ y m. f.earlier_more y (keep-member p f.before m);
}

module _ (A : List Point) where
  -- the numbers of the first of the least
  first-numbers : (xs : List (List ℕ)) (w : List ℕ) → FirstLeast (is_as_near A) xs w
      → nearest_numbers A xs ≡ pos (name w) ∷ clearance_numbers A (shape_of w)
  first-numbers [] w f = absurd (none f.before f.is)
    where
      none : (bs : List (List ℕ)) → [] ≡ bs ++ w ∷ f.after → ⊥
      none [] e = let z : ◌≡◌ {A = ℕ} 0 1 = cc e in omega arith
      none (c ∷ bs) e = let z : ◌≡◌ {A = ℕ} 0 1 = cc e in omega arith
  first-numbers (x ∷ xs) w f =
      ap (λ (near : List ℕ). pos (name near) ∷ clearance_numbers A (shape_of near)) (least_of-only (is_as_near A) x xs w f)

  first_some : (xs : List (List ℕ)) (w : List ℕ) → FirstLeast (is_as_near A) xs w → ltb (length xs) 1 ≡ false
  first_some [] w f = absurd (let z : ◌≡◌ {A = ℕ} 0 1 = cc (first-numbers [] w f) in let k : ⊥ = omega arith in k)
  first_some (x ∷ xs) w f = le-ltb (length (x ∷ xs)) 1 (omega arith)

  module _ (s : IsShape A) where
    -- one more at the end
    pub snoc-first : (xs : List (List ℕ)) (w y : List ℕ) → All Whole xs → Whole y → FirstLeast (is_as_near A) xs w
        → FirstLeast (is_as_near A) (xs ++ (y ∷ [])) (cond (is_as_near A w y) w y)
    snoc-first xs w y all good f = go (is_as_near A w y) refl
      where
        whole-w : Whole w
        whole-w = all_in Whole xs all (subst (Memᴰ w) (sym f.is) (Memᴰ.append_right f.before (Memᴰ.head refl)))

        -- no element is less than y either, if y is less than w
        below : is_as_near A w y ≡ false → (z : List ℕ) → Memᴰ z (xs ++ (y ∷ [])) → is_as_near A y z ≡ true
        below e z m = either (Memᴰ.append_cases xs m)
          where
            either : Memᴰ z xs ⊎ Memᴰ z (y ∷ []) → is_as_near A y z ≡ true
            either (inl k) =
                near-trans A s y w z good whole-w (all_in Whole xs all k) (near-total A s w y whole-w good e) (f.none-less z k)
            either (inr k) =
                subst (λ (x : List ℕ). is_as_near A y x ≡ true) (sym (Memᴰ.eq_of_singleton k)) (near-refl A s y good)

        above : is_as_near A w y ≡ false → (z : List ℕ) → Memᴰ z xs → is_as_near A z y ≡ false
        above e z m = test (is_as_near A z y) refl
          where
            test : (t : Bool) → is_as_near A z y ≡ t → t ≡ false
            test false h = refl
            test true h =
                absurd (true≢false (sym (near-trans A s w z y whole-w (all_in Whole xs all m) good (f.none-less z m) h) ∙ e))

        kept : is_as_near A w y ≡ true → (z : List ℕ) → Memᴰ z (xs ++ (y ∷ [])) → is_as_near A w z ≡ true
        kept e z m = either (Memᴰ.append_cases xs m)
          where
            either : Memᴰ z xs ⊎ Memᴰ z (y ∷ []) → is_as_near A w z ≡ true
            either (inl k) = f.none-less z k
            either (inr k) = subst (λ (x : List ℕ). is_as_near A w x ≡ true) (sym (Memᴰ.eq_of_singleton k)) e

        go : (t : Bool) → is_as_near A w y ≡ t → FirstLeast (is_as_near A) (xs ++ (y ∷ [])) (cond t w y)
        go true e = record {
          before = f.before;
          after = f.after ++ (y ∷ []);
          is = ap (λ (zs : List (List ℕ)). zs ++ (y ∷ [])) f.is ∙ append_assoc f.before (w ∷ f.after) (y ∷ []);
          none-less = kept e;
          earlier_more = f.earlier_more;
        }
        go false e = record { before = xs; after = []; is = refl; none-less = below e; earlier_more = above e }

-- ---- a log

-- logs with the same records answer alike
pub same-records : (b c : List ℕ) (l : List ℤ) (f but : ℕ) → records b ≡ records c
    → reply (ask_nearest b l f but) ≡ reply (ask_nearest c l f but)
same-records b c l f but e = ap (λ (rs : List (List ℕ)). reply (asks (one_shape (on l f))
    (row 15 (damaged rs) (bad_place rs ∷ []) ∷ too_few_row 1 (around f but rs) ∷ []) (nearest_numbers (points l) (around f but rs)))) e

module _ (b : List ℕ) (l : List ℤ) (f but : ℕ) (v : Valid l) (sound : damaged (records b) ≡ false) where
  abbrev A : List Point
  A = points l

  pub nearest-is : (r : List ℕ) (rs : List (List ℕ)) → around f but (records b) ≡ r ∷ rs → IsNearest A f but b (nearest_of A r rs)
  nearest-is r rs e =
      subst (λ (xs : List (List ℕ)). FirstLeast (is_as_near A) xs (nearest_of A r rs)) (sym e)
      (nearest-first A v.shape r rs (subst (All Whole) e (around-whole f but (records b) sound)))

  pub nearest-answered : (w : List ℕ) → IsNearest A f but b w → reply (ask_nearest b l f but) ≡ told A f w
  nearest-answered w n =
      asked-none (ask_nearest b l f but) (rest-none (ask_nearest b l f but) v (sound, (first_some A (around f but (records b)) w n, tt)))
      ∙ ap (λ (ns : List ℤ). answered (ns ++ (pos f ∷ []))) (first-numbers A (around f but (records b)) w n)

  pub nobody-refused : around f but (records b) ≡ [] → reply (ask_nearest b l f but) ≡ refused 20 []
  nobody-refused e = asked-given (ask_nearest b l f but) (rest-given (ask_nearest b l f but) v (later sound
      (here (ap (λ (rs : List (List ℕ)). ltb (length rs) 1) e))))

pub nearest-only : (A : List Point) (f but : ℕ) (b w u : List ℕ) → IsNearest A f but b w → IsNearest A f but b u → w ≡ u
nearest-only A f but b w u m n = go (around f but (records b)) m n
  where
    go : (xs : List (List ℕ)) → FirstLeast (is_as_near A) xs w → FirstLeast (is_as_near A) xs u → w ≡ u
    go [] g h = absurd (let z : ◌≡◌ {A = ℕ} 0 1 = cc (first-numbers A [] w g) in let k : ⊥ = omega arith in k)
    go (x ∷ xs) g h = sym (least_of-only (is_as_near A) x xs w g) ∙ least_of-only (is_as_near A) x xs u h

-- ---- additions

module _ (A : List Point) (s : IsShape A) (f but : ℕ) (b w : List ℕ) (near : IsNearest A f but b w) where
  module _ (n g : ℕ) (S : List ℤ) (k : ℕ) (done : is_finished (added b n g S k).reply ≡ true) (name-fits : n < 65536)
      (floor-fits : g < 65536) (other : name w ≡ n → ⊥) where
    abbrev new : List ℕ
    new = recorded n g S

    valid : Valid S
    valid = (finished-accepted b n g S k done).valid

    -- the others around stay as they are, and w is among them
    left : FirstLeast (is_as_near A) (keep (is_other n) (around f but (records b))) w
    unfolding is_other
    left = keep-first (is_as_near A) (is_other n) (around f but (records b)) w near (ap not (ne_eqb (name w) n other))

    all_left : All Whole (keep (is_other n) (around f but (records b)))
    all_left = keep_all (is_other n) (around f but (records b)) (around-whole f but (records b) (finished-accepted b n g S k done).sound)

    pub new-shape : shape_of new ≡ points S
    new-shape = ap corners (recorded-content n g S valid floor-fits)

    -- whether the new shape is closer, where it is asked for
    test-is : {t : Bool} → not (no_more (distance A (shape_of w)) (distance A (points S))) ≡ t → is_as_near A w new ≡ not t
    unfolding is_as_near
    test-is {t} e = ap (λ (B : List Point). no_more (distance A (shape_of w)) (distance A B)) new-shape ∙ twice _ t e
      where
        twice : (x t : Bool) → not x ≡ t → x ≡ not t
        twice true t h = ap not h
        twice false t h = ap not h

    pub finished-nearest : IsNearest A f but (added b n g S k).log (cond (is_closer A f but w n g S) new w)
    finished-nearest =
        subst (λ (xs : List (List ℕ)). FirstLeast (is_as_near A) xs (cond (is_closer A f but w n g S) new w))
        (sym (finished-around b n g S k done name-fits floor-fits f but))
        (go (eqb g f && not (eqb n but)) (not (no_more (distance A (shape_of w)) (distance A (points S)))) refl)
      where
        rest : List (List ℕ)
        rest = keep (is_other n) (around f but (records b))

        pick : (t : Bool) → is_as_near A w new ≡ not t → cond (is_as_near A w new) w new ≡ cond t new w
        pick true e = ap (λ (x : Bool). cond x w new) e
        pick false e = ap (λ (x : Bool). cond x w new) e

        go : (asked t : Bool) → not (no_more (distance A (shape_of w)) (distance A (points S))) ≡ t
            → FirstLeast (is_as_near A) (rest ++ cond asked (new ∷ []) []) (cond (asked && t) new w)
        go false t e = subst (λ (xs : List (List ℕ)). FirstLeast (is_as_near A) xs w) (sym (append-none rest)) left
        go true t e = subst (FirstLeast (is_as_near A) (rest ++ (new ∷ []))) (pick t (test-is e))
            (snoc-first A s rest w new all_left (subst IsShape (sym new-shape) valid.shape) left)

  pub unfinished-nearest : (n g : ℕ) (S : List ℤ) (k : ℕ) → is_finished (added b n g S k).reply ≡ false
      → IsNearest A f but (added b n g S k).log w
  unfinished-nearest n g S k stopped =
      subst (λ (rs : List (List ℕ)). FirstLeast (is_as_near A) (around f but rs) w) (sym (unfinished-seen b n g S k stopped)) near

-- a history in which nothing closer is added, and not under the name of w
pub after-nearest : (A : List Point) → IsShape A → (f but : ℕ) (w : List ℕ) (hs : List Addition) (b : List ℕ) → IsNearest A f but b w
    → Quiet A f but w hs b → IsNearest A f but (after hs b) w
after-nearest A s f but w [] b near q = near
after-nearest A s f but w (h ∷ hs) b near q =
    after-nearest A s f but w hs (step h b).log (go (is_finished (step h b).reply) refl q.0) q.1
  where
    go : (t : Bool) → is_finished (step h b).reply ≡ t
        → (is_finished (step h b).reply ≡ true → (name w ≡ h.name → ⊥) × (is_closer A f but w h.name h.floor h.list ≡ false))
        → IsNearest A f but (step h b).log w
    go false e k = unfinished-nearest A s f but b w near h.name h.floor h.list h.allowed e
    go true e k =
        let quiet = k e in
        subst (λ (t : Bool). IsNearest A f but (step h b).log (cond t (recorded h.name h.floor h.list) w)) quiet.1
        (finished-nearest A s f but b w near h.name h.floor h.list h.allowed e h.name-fits h.floor-fits quiet.0)
