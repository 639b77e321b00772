-- What is answered of a drive after an addition.
--     same-records       logs with the same records answer alike
--     unfinished-drive   so one that was cut or refused changes nothing
--     elsewhere-drive    nor does one on another floor, under a name that this floor does not have
--     settled-drive      one on this floor changes the answer exactly if its shape is met first, and then it is the answer
use Rattle.std.specs.Prelude.{◌≡◌, Bool, true, false, not, cond, ◌&&◌, List, [], ◌∷◌, ◌++◌, ℕ, ◌<◌, eqb, ltb, ℤ, pos, length}
use Rattle.std.proofs.Math.Path.{refl}
use Rattle.std.proofs.Common.{sym, ◌∙◌, ap, ap₂, subst, append-nil, arith, eq-eqb, ne_eqb, le-ltb}
use Rattle.plane.specs.Point.{Point}
use Rattle.plane.specs.Reply.{Reply, answered, Row, row, NoneApply}
use Rattle.plane.specs.Output.{size_rows}
use Rattle.plane.specs.Floor.{Floored, corners, one_shape}
use Rattle.plane.specs.Question.{Question, reply, asks}
use Rattle.plane.proofs.theory.lists.Sought.{either-false}
use Rattle.plane.proofs.theory.refusals.Rows.{none-join}
use Rattle.journal.specs.Format.{recorded, records, name}
use Rattle.journal.specs.Reading.{damaged, bad_place, held}
use Rattle.journal.specs.Adding.{added}
use Rattle.journal.specs.History.{is_finished}
use Rattle.journal.specs.Current.{keep, is_other, around, too_few_row}
use Rattle.journal.proofs.theory.Added.{finished-accepted, finished-sound, unfinished-seen}
use Rattle.journal.proofs.theory.Current.{finished-around}
use Rattle.motion.specs.Contact.{place_row}
use Rattle.gaps.specs.Gap.{grown_of, on_floor, size_rows_of}
use Rattle.gaps.specs.Search.{Fits}
use Rattle.gaps.proofs.theory.Steps.{sized-parts}
use Rattle.drives.specs.Drive.{met_numbers, drive_numbers, drive_rows, ask_drive}
use Rattle.drives.specs.Answered.{is_first}
use Rattle.drives.specs.theory.Soonest.{drive-snoc}
use Rattle.drives.specs.theory.Replies.{drive-admitted, drive-answers}

-- records without a name are all others
keep-others : (n : ℕ) (rs : List (List ℕ)) → held n rs ≡ false → keep (is_other n) rs ≡ rs
unfolding is_other
keep-others n [] h = refl
keep-others n (r ∷ rs) h =
    let parts = either-false (eqb (name r) n) (held n rs) h in
    ap₂ (λ (x : Bool) (ss : List (List ℕ)). cond (not x) (r ∷ ss) ss) parts.0 (keep-others n rs parts.1)

module _ (cart : Floored) (t u : Point) where
  -- the question, by whether a record is bad, where, and the floor's records
  abbrev asked : Row → List (List ℕ) → Question
  asked damage rs =
      asks (one_shape cart) (damage ∷ too_few_row 1 rs ∷ place_row 2 t ∷ place_row 3 u ∷ size_rows_of (corners cart) rs)
      (drive_numbers (corners cart) t u rs)

  pub same-records : (b c : List ℕ) → records b ≡ records c → reply (ask_drive b cart t u) ≡ reply (ask_drive c cart t u)
  same-records b c e = ap (λ (rs : List (List ℕ)). reply (asked (row 15 (damaged rs) (bad_place rs ∷ [])) (around cart.floor 65536 rs))) e

  module _ (b : List ℕ) (n g : ℕ) (l : List ℤ) (k : ℕ) where
    pub unfinished-drive : is_finished (added b n g l k).reply ≡ false
        → reply (ask_drive (added b n g l k).log cart t u) ≡ reply (ask_drive b cart t u)
    unfinished-drive stopped = same-records (added b n g l k).log b (unfinished-seen b n g l k stopped)

    -- past 15, where the first bad record would be makes no difference
    passed-damage : (c d : List ℕ) (rs : List (List ℕ)) → reply (asked (row 15 false c) rs) ≡ reply (asked (row 15 false d) rs)
    unfolding reply
    passed-damage c d rs = refl

    -- a log without bad records, by its floor
    by-floor : (c : List ℕ) (rs : List (List ℕ)) → damaged (records c) ≡ false → on_floor cart.floor c ≡ rs
        → reply (ask_drive c cart t u) ≡ reply (asked (row 15 false []) rs)
    by-floor c rs sound e =
        ap₂ (λ (x : Bool) (ss : List (List ℕ)). reply (asked (row 15 x (bad_place (records c) ∷ [])) ss)) sound e
        ∙ passed-damage (bad_place (records c) ∷ []) [] rs

    pub elsewhere-drive : is_finished (added b n g l k).reply ≡ true → n < 65536 → g < 65536 → (g ≡ cart.floor → ⊥)
        → held n (on_floor cart.floor b) ≡ false
        → reply (ask_drive (added b n g l k).log cart t u) ≡ reply (ask_drive b cart t u)
    elsewhere-drive done fits floor-fits other new =
        by-floor (added b n g l k).log here (finished-sound b n g l k done) stays
        ∙ sym (by-floor b here (finished-accepted b n g l k done).sound refl)
      where
        here : List (List ℕ)
        here = on_floor cart.floor b

        stays : on_floor cart.floor (added b n g l k).log ≡ here
        stays = finished-around b n g l k done fits floor-fits cart.floor 65536
            ∙ ap (λ (x : Bool). keep (is_other n) here ++ cond (x && not (eqb n 65536)) (recorded n g l ∷ []) [])
            (ne_eqb g cart.floor other)
            ∙ append-nil (keep (is_other n) here) ∙ keep-others n here new

  module _ (b : List ℕ) (n : ℕ) (l : List ℤ) (k : ℕ) (v : List ℤ) (before : reply (ask_drive b cart t u) ≡ answered v)
      (done : is_finished (added b n cart.floor l k).reply ≡ true) (fits : n < 65536) (floor-fits : cart.floor < 65536)
      (new : held n (on_floor cart.floor b) ≡ false) (sized : Fits (corners cart) (recorded n cart.floor l)) where
    abbrev one : List ℕ
    one = recorded n cart.floor l

    abbrev rs : List (List ℕ)
    rs = on_floor cart.floor b

    abbrev later : List ℕ
    later = (added b n cart.floor l k).log

    abbrev A : List Point
    A = corners cart

    floor-is : on_floor cart.floor later ≡ rs ++ (one ∷ [])
    floor-is = finished-around b n cart.floor l k done fits floor-fits cart.floor 65536
        ∙ ap₂ (λ (x y : Bool). keep (is_other n) rs ++ cond (x && not y) (one ∷ []) []) (eq-eqb cart.floor cart.floor refl)
        (ne_eqb n 65536 (λ e. absurd (omega (arith, fits, e))))
        ∙ ap (λ (ss : List (List ℕ)). ss ++ (one ∷ [])) (keep-others n rs new)

    -- 6 and 7 of one shape more
    sized-snoc : (ss : List (List ℕ)) → NoneApply (size_rows_of A ss) → NoneApply (size_rows_of A (ss ++ (one ∷ [])))
    sized-snoc [] h = none-join (size_rows (grown_of A one)) [] sized tt
    sized-snoc (s ∷ ss) h =
        let parts = sized-parts A s ss h in
        none-join (size_rows (grown_of A s)) (size_rows_of A (ss ++ (one ∷ []))) parts.0 (sized-snoc ss parts.1)

    enough : (ss : List (List ℕ)) → ltb (length (ss ++ (one ∷ []))) 1 ≡ false
    enough [] = le-ltb 1 1 (omega arith)
    enough (s ∷ ss) = le-ltb (length (s ∷ (ss ++ (one ∷ [])))) 1 (omega arith)

    none : NoneApply (drive_rows b cart t u)
    none = (drive-admitted b cart t u v before).1

    passes : NoneApply (drive_rows later cart t u)
    passes =
        let rows = none.1.1 in
        let few = subst (λ (ss : List (List ℕ)). ltb (length ss) 1 ≡ false) (sym floor-is) (enough rs) in
        let large = subst (λ (ss : List (List ℕ)). NoneApply (size_rows_of A ss)) (sym floor-is) (sized-snoc rs rows.1.1) in
        (finished-sound b n cart.floor l k done, (few, (rows.0, (rows.1.0, large))))

    -- by whether the new shape is first
    either : (c : Bool) (xs ys : List ℤ) → answered (cond c xs ys ++ (pos cart.floor ∷ []))
        ≡ cond c (answered (xs ++ (pos cart.floor ∷ []))) (answered (ys ++ (pos cart.floor ∷ [])))
    either true xs ys = refl
    either false xs ys = refl

    pub settled-drive : reply (ask_drive later cart t u)
        ≡ cond (is_first A t u rs one) (answered (met_numbers A t u one ++ (pos cart.floor ∷ []))) (reply (ask_drive b cart t u))
    settled-drive =
        let valid = (drive-admitted b cart t u v before).0 in
        drive-answers later cart t u valid passes
        ∙ ap (λ (ss : List (List ℕ)). answered (drive_numbers A t u ss ++ (pos cart.floor ∷ []))) floor-is
        ∙ ap (λ (ns : List ℤ). answered (ns ++ (pos cart.floor ∷ []))) (drive-snoc A t u rs one)
        ∙ either (is_first A t u rs one) (met_numbers A t u one) (drive_numbers A t u rs)
        ∙ ap (λ (x : Reply). cond (is_first A t u rs one) (answered (met_numbers A t u one ++ (pos cart.floor ∷ []))) x)
        (sym (drive-answers b cart t u valid none))
