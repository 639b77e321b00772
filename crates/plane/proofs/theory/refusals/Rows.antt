-- The table of refusals: what its first row that applies says.
--     row-given, row-passed       one step along the table, as code takes it
--     first_row-append, first_row-passed     one table after the other
--     none-append, none-join      no row of two tables applies: of both
--     first-append, first-join    the first row that applies, with more rows after it, or before it rows that do not apply
--     first-not-none              where a row applies it is not so that none does
--     outcome, first_row-given, first_row-none, first_row-refused, first_row-answered
--                                 a refusal is given exactly when its row applies and none before it does
--     first-applies               a number that is given is one of a row that applies
--     given-output, none-output, passed-output     what `unless_refused` leaves
use Rattle.std.specs.Prelude.{◌≡◌, refl, Bool, true, false, cond, ◌&&◌, ◌||◌, List, [], ◌∷◌, ◌++◌, ℕ, eqb, ℤ}
use Rattle.std.proofs.Common.{sym, ◌∙◌, ap, ap₂, true≢false, arith, eq-eqb}
use Rattle.std.proofs.Math.Bool.{or-true}
use Rattle.plane.specs.Reply.{Reply, answered, refused, Row, first_row, NoneApply, First, here, later}
use Rattle.plane.specs.Output.{unless_refused}

pub row-given : (w : Row) (ws : List Row) (r : Reply) → w.applies ≡ true → refused w.number w.carries ≡ first_row (w ∷ ws) r
row-given w ws r e = ap (λ b. cond b (refused w.number w.carries) (first_row ws r)) (sym e)

pub row-passed : {x : Reply} (w : Row) (ws : List Row) (r : Reply) → w.applies ≡ false → x ≡ first_row ws r → x ≡ first_row (w ∷ ws) r
row-passed w ws r e h = h ∙ ap (λ b. cond b (refused w.number w.carries) (first_row ws r)) (sym e)

pub first_row-append : (vs ws : List Row) (r : Reply) → first_row (vs ++ ws) r ≡ first_row vs (first_row ws r)
first_row-append [] ws r = refl
first_row-append (v ∷ vs) ws r = ap (λ x. cond v.applies (refused v.number v.carries) x) (first_row-append vs ws r)

-- ---- exactly when

pub none-append : (vs ws : List Row) → NoneApply (vs ++ ws) → NoneApply vs × NoneApply ws
none-append [] ws n = (tt, n)
none-append (v ∷ vs) ws n = let r = none-append vs ws n.1 in ((n.0, r.0), r.1)

pub none-join : (vs ws : List Row) → NoneApply vs → NoneApply ws → NoneApply (vs ++ ws)
none-join [] ws n m = m
none-join (v ∷ vs) ws n m = (n.0, none-join vs ws n.1 m)

pub first-append : {w : Row} {vs : List Row} (ws : List Row) → First w vs → First w (vs ++ ws)
first-append ws (here e) = here e
first-append ws (later e f) = later e (first-append ws f)

pub first-join : {w : Row} (vs : List Row) {ws : List Row} → NoneApply vs → First w ws → First w (vs ++ ws)
first-join [] n f = f
first-join (v ∷ vs) n f = later n.0 (first-join vs n.1 f)

pub first-not-none : {w : Row} {ws : List Row} → First w ws → NoneApply ws → ⊥
first-not-none (here e) n = true≢false (sym e ∙ n.0)
first-not-none (later e f) n = first-not-none f n.1

pub first_row-given : {w : Row} {ws : List Row} (r : Reply) → First w ws → first_row ws r ≡ refused w.number w.carries
first_row-given r (here {ws = ws} e) = sym (row-given _ ws r e)
first_row-given r (later {v = v} {ws = ws} e f) = sym (row-passed v ws r e (sym (first_row-given r f)))

pub first_row-none : (ws : List Row) (r : Reply) → NoneApply ws → first_row ws r ≡ r
first_row-none [] r n = refl
first_row-none (w ∷ ws) r n = sym (row-passed w ws r n.0 (sym (first_row-none ws r n.1)))

-- a table of which no row applies can be left out
pub first_row-passed : (vs ws : List Row) (r : Reply) → NoneApply vs → first_row (vs ++ ws) r ≡ first_row ws r
first_row-passed vs ws r n = first_row-append vs ws r ∙ first_row-none vs (first_row ws r) n

-- a table either has a first row that applies or none
pub data Outcome (ws : List Row) : Type 0 where
  given : (w : Row) → First w ws → Outcome ws
  passed : NoneApply ws → Outcome ws

pub outcome : (ws : List Row) → Outcome ws
outcome [] = passed tt
outcome (w ∷ ws) = go (outcome ws) w.applies refl
  where
    go : Outcome ws → (b : Bool) → w.applies ≡ b → Outcome (w ∷ ws)
    go o true e = given w (here e)
    go (given v f) false e = given v (later e f)
    go (passed n) false e = passed (e, n)

-- an answer is given only where no row applies, and a refusal only by the first that does
pub first_row-answered : (ws : List Row) (values answer : List ℤ) → first_row ws (answered values) ≡ answered answer → NoneApply ws
first_row-answered ws values answer h = go (outcome ws)
  where
    go : Outcome ws → NoneApply ws
    go (given w f) = absurd (let z : ◌≡◌ {A = ℕ} 0 1 = cc (first_row-given (answered values) f) in let b : ⊥ = omega arith in b)
    go (passed n) = n

pub first_row-refused : (ws : List Row) (values : List ℤ) (n : ℕ) (carries : List ℕ) → first_row ws (answered values) ≡ refused n carries
    → (w : Row) × First w ws × (w.number ≡ n) × (w.carries ≡ carries)
first_row-refused ws values n carries h = go (outcome ws)
  where
    go : Outcome ws → (w : Row) × First w ws × (w.number ≡ n) × (w.carries ≡ carries)
    go (given w f) = (w, f, cc (first_row-given (answered values) f), cc (first_row-given (answered values) f))
    go (passed q) = absurd (let z : ◌≡◌ {A = ℕ} 0 1 = cc (first_row-none ws (answered values) q) in let b : ⊥ = omega arith in b)

-- some row of this number applies
abbrev pub row_applies : ℕ → List Row → Bool
row_applies n [] = false
row_applies n (w ∷ ws) = (eqb w.number n && w.applies) || row_applies n ws

pub first-applies : {w : Row} {ws : List Row} (n : ℕ) → First w ws → w.number ≡ n → row_applies n ws ≡ true
first-applies {w} n (here {ws = ws} e) same = ap₂ (λ (s t : Bool). (s && t) || row_applies n ws) (eq-eqb w.number n same) e
first-applies n (later {v = v} e f) same =
    let own = eqb v.number n && v.applies in ap (λ (t : Bool). own || t) (first-applies n f same) ∙ or-true own

-- ---- the output

pub given-output : {X : Type 0} {w : Row} {ws : List Row} (kept new : List X) → First w ws → unless_refused ws kept new ≡ kept
given-output kept new (here {ws = ws} e) = ap (λ (b : Bool). cond b kept (unless_refused ws kept new)) e
given-output kept new (later {ws = ws} e f) = ap (λ (b : Bool). cond b kept (unless_refused ws kept new)) e ∙ given-output kept new f

pub none-output : {X : Type 0} (ws : List Row) (kept new : List X) → NoneApply ws → unless_refused ws kept new ≡ new
none-output [] kept new n = refl
none-output (w ∷ ws) kept new n = ap (λ (b : Bool). cond b kept (unless_refused ws kept new)) n.0 ∙ none-output ws kept new n.1

pub passed-output : {X : Type 0} (vs ws : List Row) (kept new : List X) → NoneApply vs
    → unless_refused (vs ++ ws) kept new ≡ unless_refused ws kept new
passed-output [] ws kept new n = refl
passed-output (v ∷ vs) ws kept new n =
    ap (λ (b : Bool). cond b kept (unless_refused (vs ++ ws) kept new)) n.0 ∙ passed-output vs ws kept new n.1
