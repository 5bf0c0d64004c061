use Rattle.squawk_diag.proofs.Placing.{reports_in}
use Rattle.squawk_diag.proofs.text.diagnose.Goals as goal

pub diagnostics_of-requires-clause-places : goal.diagnostics_of-requires-clause-places
diagnostics_of-requires-clause-places c = reports_in c.args.text.now c.in_ok-reports.reports.items c.in_ok-reports.ensures.places

pub returns-in-Ok-clause-ok : goal.returns-in-Ok-clause-ok
returns-in-Ok-clause-ok c =
    record {
      reports = c.in_ok-reports.reports.items;
      answer = c.in_ok-reports.ensures.ok;
      placed = reports_in c.args.text.now c.in_ok-reports.reports.items c.in_ok-reports.ensures.places;
      are = c.in-Ok.ensures;
    }
