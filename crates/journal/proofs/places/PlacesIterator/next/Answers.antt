-- `next` meets its contract: a whole record is inside the log, so the place after it is too.
use Rattle.std.specs.Prelude.{◌≤◌, length}
use Rattle.std.proofs.Common.{sym, ◌∙◌, arith}
use Rattle.journal.proofs.theory.Survey.{next-inside}
use Rattle.journal.proofs.places.PlacesIterator.next.Goals as goal

pub returns-clause-goes : goal.returns-clause-goes
returns-clause-goes c =
    let walk = c.args.self.now in
    let inside = next-inside walk.log.now walk.at (sym c.whole_at.ensures ∙ c.if-not-whole_at.false) in
    let on : c.next_at-self.result ≤ length walk.log.now = omega (arith, inside, c.next_at-self.ensures) in
    record {
      on = λ f. (on, tt, omega (arith, inside, c.next_at-self.ensures));
      keeps = on;
      rests = λ f. tt;
    }
