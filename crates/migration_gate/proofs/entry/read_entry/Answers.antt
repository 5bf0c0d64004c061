use Rattle.migration_gate.proofs.Reading.{no_name, no_text, none_where}
use Rattle.migration_gate.proofs.entry.read_entry.Goals as goal

pub returns-in_err-name : goal.returns-in_err-name
returns-in_err-name c =
    none_where c.from_residual-in_err-name.result _ _ c.from_residual-in_err-name.ensures
    (no_name c.args.text.now c.in_ok-len.rest.now c.in_ok-len.len c.requires c.in_ok-len.ensures.0 c.in_ok-len.ensures.1 c.in_err-name.ensures)

pub returns-in_err-text : goal.returns-in_err-text
returns-in_err-text c =
    none_where c.from_residual-in_err-text.result _ _ c.from_residual-in_err-text.ensures
    (no_text c.args.text.now c.in_ok-len.rest.now c.in_ok-name.name.now c.in_ok-name.rest.now c.in_ok-len.len c.requires c.in_ok-len.ensures.0 c.in_ok-len.ensures.1 c.in_ok-name.ensures.0 c.in_ok-name.ensures.1
    c.in_err-text.ensures)
