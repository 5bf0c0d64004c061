use Rattle.hazard_find.proofs.WalkLaws.{kept_next}
use Rattle.hazard_find.proofs.earlier.Earlier.update.Goals as goal

pub returns : goal.returns
returns c = λ assumed i e.
    rw (← c.self.view_is)
    (kept_next c.args.p.now assumed i c.args.s.now _ _ e c.in_ok-update.ensures.tracks c.in_ok-insert_temporary.ensures.ok c.in_ok-insert_dropped.ensures.ok
    c.in_ok-insert_made.ensures.ok c.is_set_after-self-inside.ensures c.is_set_after-self-inside-2.ensures)
