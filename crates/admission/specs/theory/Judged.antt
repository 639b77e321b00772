-- What judging says, as code makes it.
--     refuses             the first row that applies gives its refusal
--     refuses-append, refuses-join     with more rows after it; with rows before it that do not apply
--     passes, turns-away  all is well; a refusal
--     held, refusal-of    of what passed the judging holds; the refusal of what did not, where a `?` returns early
--     handed-on           what a `?` returns early is that refusal; `hands-on`: then a judging ends with it
use Rattle.std.specs.Prelude.{◌≡◌, refl, List, ◌++◌, ℕ, Result, Ok, Err}
use Rattle.std.proofs.Common.{subst, arith, sym, ap, ◌∙◌}
use Rattle.std.specs.Result.{IsErrAnd}
use Rattle.std.proofs.lemmas.Result.{err_from_is_err_and}
use Rattle.plane.specs.Reply.{Reply, refused, Row, NoneApply, First}
use Rattle.plane.proofs.theory.refusals.Rows.{first-append, first-join}
use Rattle.admission.specs.declared.answer.Refusal.{Refusal}
use Rattle.admission.specs.Answer.{of_refusal}
use Rattle.admission.specs.Admission.{Refuses, Judged}

pub refuses : {rows : List Row} {w : Row} → First w rows → Refuses rows (refused w.number w.carries)
refuses {rows} {w} f = record { by = w; first = f; is = refl }

pub refuses-append : {vs : List Row} {r : Reply} (ws : List Row) → Refuses vs r → Refuses (vs ++ ws) r
refuses-append ws f = record { by = f.by; first = first-append ws f.first; is = f.is }

pub refuses-join : (vs : List Row) {ws : List Row} {r : Reply} → NoneApply vs → Refuses ws r → Refuses (vs ++ ws) r
refuses-join vs n f = record { by = f.by; first = first-join vs n f.first; is = f.is }

module _ {T : Type 0} {rows : List Row} where
  pub passes : T → Judged T rows (Ok tt)
  passes t = record { valid = λ e. t; no = λ r e. absurd (let z : ◌≡◌ {A = ℕ} 0 1 = cc in let b : ⊥ = omega arith in b) }

  pub turns-away : {r : Refusal} → Refuses rows (of_refusal r) → Judged T rows (Err r)
  turns-away {r} f = record {
    valid = λ e. absurd (let z : ◌≡◌ {A = ℕ} 0 1 = cc in let b : ⊥ = omega arith in b);
    no = λ s e. let same : r ≡ s = cc in subst (λ x. Refuses rows (of_refusal x)) same f;
  }

pub held : {T : Type 0} {rows : List Row} → Judged T rows (Ok tt) → T
held j = j.valid refl

pub refusal-of : {T : Type 0} {rows : List Row} {r : Refusal} → Judged T rows (Err r) → Refuses rows (of_refusal r)
refusal-of j = j.no _ refl

pub handed-on : {T E : Type 0} (x : Result T E) (r : E) → IsErrAnd x (λ y. y ≡ r) → x ≡ Err r
handed-on x r h = let p = err_from_is_err_and x h in p.1 ∙ ap (λ y. Err y) p.2

pub hands-on : {T : Type 0} {rows : List Row} (x : Result Unit Refusal) (r : Refusal) → IsErrAnd x (λ y. y ≡ r)
    → Refuses rows (of_refusal r)
    → Judged T rows x
hands-on {T} {rows} x r h f = subst (λ y. Judged T rows y) (sym (handed-on x r h)) (turns-away f)
